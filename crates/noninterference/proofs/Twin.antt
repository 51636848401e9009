-- Two records that differ in their buffers alone: what the driver does to both keeps them so. Assumes nothing.
use mathlib.Core.Bool.{Bool, true, false}
use mathlib.Core.List.{List, [], ◌∷◌}
use mathlib.Core.Path.{◌≡◌, refl, sym, ap, subst, ◌∙◌}
use Prim.Native.Nat.{ℕ, zero, suc, ◌+◌}
use lib.Dec.{eqb}
use lib.ListN.{length}
use Rattle.controller.specs.Access.{read_of, write_of}
use Rattle.controller.specs.Event.{event_of}
use Rattle.controller.specs.Setters.{with_buffer}
use Rattle.controller.specs.Reply.{Outcome}
use Rattle.controller.specs.declared.record.Controller.{Controller}
use Rattle.driver.specs.Run.{taking}
use Rattle.answer.specs.declared.ending.Ending.TheVariants.{Reset}
use Rattle.noninterference.proofs.Blind.{blank, Blind, Leaves, Reading, write_blind, event_blind, read_blind, fetch_blind}
use Rattle.notation.specs.Choice.{when◌then◌else◌, among}
use Rattle.service.specs.Act.{
  Act,
  writes,
  reads_data,
  reads_all,
  reads_count,
  counts,
  Then,
  goes_on,
  awaits,
  ends,
  finishes,
  Work,
  put,
  reads,
  fetch_one,
  fetch,
  read_times,
  does,
  does_all,
  follows,
  performs,
}
use Rattle.service.specs.Progress.{with_record, with_noted_count, with_fetched, starting}
use Rattle.service.specs.Serve.{Table, starts, serve}
use Rattle.service.specs.declared.progress.Progress.{Progress}

pub record Twin (c c' : Controller) : Type 0 where
  pub rest : blank c ≡ blank c'
  pub places : length c.buffer ≡ 68
  pub places' : length c'.buffer ≡ 68

pub flip : {c c' : Controller} → Twin c c' → Twin c' c
flip t = record { rest = sym t.rest; places = t.places'; places' = t.places }

-- the second is the first with its own buffer
other-buffer : (c c' : Controller) → Twin c c' → with_buffer c c'.buffer ≡ c'
other-buffer c c' t = ap (λ x. with_buffer x c'.buffer) t.rest

-- a law of two buffers, as one of twins
pub write-alike : (c c' : Controller) (register value : ℕ) → Twin c c' → Blind c (write_of c register value) (write_of c' register value)
write-alike c c' register value t =
    subst (λ x. Blind c (write_of c register value) (write_of x register value)) (other-buffer c c' t) (write_blind c c'.buffer register value)

pub event-alike : (c c' : Controller) (number argument : ℕ) → Twin c c' →
    (among number (6 ∷ 8 ∷ []) ≡ true → Reading c c'.buffer) → Blind c (event_of c number argument) (event_of c' number argument)
event-alike c c' number argument t r =
    subst (λ x. Blind c (event_of c number argument) (event_of x number argument)) (other-buffer c c' t) (event_blind c c'.buffer number argument r)

read_alike : (c c' : Controller) (register : ℕ) → Twin c c' → eqb register 1 ≡ false → Blind c (read_of c register) (read_of c' register)
read_alike c c' register t e =
    subst (λ x. Blind c (read_of c register) (read_of x register)) (other-buffer c c' t) (read_blind c c'.buffer register e)

fetch-alike : (c c' : Controller) → Twin c c' → Leaves c (read_of c 1) (read_of c' 1)
fetch-alike c c' t = subst (λ x. Leaves c (read_of c 1) (read_of x 1)) (other-buffer c c' t) (fetch_blind c c'.buffer)

-- an outcome on each side leaves twins
pub twins : {c c' : Controller} (o o' : Outcome) → Twin c c' → Blind c o o' → Blind c' o' o → Twin o.next o'.next
twins o o' t e e' = record { rest = e.next; places = e.sized ∙ t.places; places' = e'.sized ∙ t.places' }

-- the driver's register accesses
put-twin : (c c' : Controller) (register value : ℕ) → Twin c c' → Twin (put c register value) (put c' register value)
unfolding put
put-twin c c' register value t = twins _ _ t (write-alike c c' register value t) (write-alike c' c register value (flip t))

pub reads_same : (c c' : Controller) (register : ℕ) → Twin c c' → eqb register 1 ≡ false → reads c register ≡ reads c' register
unfolding reads
reads_same c c' register t e = (read_alike c c' register t e).value

-- What the driver keeps, on both sides: all of it but the bytes read back.
pub record Same (p p' : Progress) : Type 0 where
  pub twin : Twin p.controller p'.controller
  pub over : p.over ≡ p'.over
  pub ending : p.ending ≡ p'.ending
  pub count : p.count ≡ p'.count
  pub events : p.events ≡ p'.events

pub taking-same : (p p' : Progress) (c c' : Controller) → Same p p' → Twin c c' → Same (taking p c) (taking p' c')
unfolding taking
taking-same p p' c c' s t =
    record { twin = t; over = s.over; ending = s.ending; count = s.count; events = ap (λ (n : ℕ). n + 1) s.events }

-- an act leads to twins, and notes this count and some bytes
acted : (p p' : Progress) (c c' : Controller) (n n' : ℕ) (l l' : List ℕ) → Same p p' → Twin c c' → n ≡ n' →
    Same (with_fetched (with_noted_count (with_record p c) n) l) (with_fetched (with_noted_count (with_record p' c') n') l')
acted p p' c c' n n' l l' s t e = record { twin = t; over = s.over; ending = s.ending; count = e; events = s.events }

fetch-one-same : (i : ℕ) (p p' : Progress) → Same p p' → Same (fetch_one i p) (fetch_one i p')
unfolding fetch_one
fetch-one-same i p p' s =
    let t = s.twin in
    let l = fetch-alike _ _ t in
    let l' = fetch-alike _ _ (flip t) in
    acted p p' _ _ _ _ _ _ s (record { rest = l.next; places = l.sized ∙ t.places; places' = l'.sized ∙ t.places' }) s.count

fetch-same : (more i : ℕ) (p p' : Progress) → Same p p' → Same (fetch more i p) (fetch more i p')
unfolding fetch
fetch-same zero i p p' s = s
fetch-same (suc more) i p p' s = fetch-same more (i + 1) (fetch_one i p) (fetch_one i p') (fetch-one-same i p p' s)

-- any act, any list of them and any work, of whatever table
does-same : (x : Act) (p p' : Progress) → Same p p' → Same (does x p) (does x p')
unfolding does
does-same (writes register value) p p' s = acted p p' _ _ _ _ _ _ s (put-twin _ _ register value s.twin) s.count
does-same (reads_data at) p p' s = fetch-one-same at p p' s
does-same reads_all p p' s =
    let n = read_times p.count in
    subst (λ (m : ℕ). Same (fetch n 0 p) (fetch (read_times m) 0 p')) s.count (fetch-same n 0 p p' s)
does-same reads_count p p' s =
    let t = s.twin in
    acted p p' _ _ _ _ _ _ s (twins _ _ t (read_alike _ _ 2 t refl) (read_alike _ _ 2 (flip t) refl)) (reads_same _ _ 2 t refl)
does-same (counts count) p p' s = acted p p' _ _ _ _ _ _ s s.twin refl

all_same : (xs : List Act) (p p' : Progress) → Same p p' → Same (does_all xs p) (does_all xs p')
unfolding does_all
all_same [] p p' s = s
all_same (x ∷ xs) p p' s = all_same xs (does x p) (does x p') (does-same x p p' s)

follows_same : (t : Then) (p p' : Progress) → Same p p' → Same (follows t p) (follows t p')
unfolding follows
follows_same goes_on p p' s = s
follows_same (awaits ending) p p' s = record { twin = s.twin; over = s.over; ending = refl; count = s.count; events = s.events }
follows_same (ends ending) p p' s = record { twin = s.twin; over = refl; ending = refl; count = refl; events = s.events }
follows_same finishes p p' s = record { twin = s.twin; over = refl; ending = s.ending; count = s.count; events = s.events }

performs-same : (w : Work) (p p' : Progress) → Same p p' → Same (performs w p) (performs w p')
unfolding performs
performs-same w p p' s = follows_same w.after _ _ (all_same w.acts p p' s)

either : (b : Bool) (p p' q q' : Progress) → Same p p' → Same q q' → Same (when b then p else q) (when b then p' else q')
unfolding when◌then◌else◌
either true p p' q q' s t = s
either false p p' q q' s t = t

pub serve-same : (table : Table) (event : ℕ) (p p' : Progress) → Same p p' → Same (serve table event p) (serve table event p')
unfolding serve
serve-same table event p p' s =
    either _ _ _ _ _ (follows_same (ends Reset) p p' s) (either _ _ _ _ _ (follows_same finishes p p' s)
    (subst (λ (x : ℕ). Same (at (reads p.controller 0) p.count p) (at x p'.count p')) (reads_same _ _ 0 s.twin refl)
    (subst (λ (n : ℕ). Same (at (reads p.controller 0) p.count p) (at (reads p.controller 0) n p')) s.count
    (either _ _ _ _ _ s (performs-same _ p p' s)))))
  where
    at : ℕ → ℕ → Progress → Progress
    at status count q = when eqb status 0xF8 then q else performs (table status count) q

pub starts-same : (acts : List Act) (c c' : Controller) → Twin c c' → Same (starts acts c) (starts acts c')
unfolding starts starting
starts-same acts c c' t = all_same acts _ _ (record { twin = t; over = refl; ending = refl; count = refl; events = refl })
