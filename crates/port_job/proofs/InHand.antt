-- The accesses of a job's beginning, of a line of its table, and of a recovery, as the port makes them. Assumes nothing.
use mathlib.Core.Bool.{Bool, true, false}
use mathlib.Core.List.{List, [], ◌∷◌, ◌++◌}
use mathlib.Core.Path.{◌≡◌, refl, sym, ap, subst, ◌∙◌}
use Prim.Native.Nat.{ℕ, zero, suc, ◌+◌, ◌<◌}
use native.Mathlib.Omega.{arith}
use borrow.Author.Tests.{eq-eqb, ne_eqb, lt-ltb, le-ltb, ltb-true, ltb-false}
use lib.Dec.{T, eqb, ltb}
use lib.ListN.{length, take, set, length-append, length-set}
use lib.Seq.{set_out}
use Rattle.notation.proofs.Cases.{when-true, when-false, and-true, and_no_right}
use Rattle.notation.specs.Choice.{when◌then◌else◌, ◌and◌}
use Rattle.port.specs.Ask.{ask_for}
use Rattle.port.specs.Hear.{concludes, onward, next_of, hears_at, hears, noted_at, asks_at, asks}
use Rattle.port.specs.InHand.{accesses, recovers, in_hand_at, nth, place_of, count_after}
use Rattle.port.specs.Port.{step}
use Rattle.port.specs.Stage.{stage_number}
use Rattle.port.specs.Stand.{stand}
use Rattle.port.specs.declared.stage.Stage.TheVariants.{First, Waiting, Working, Recovering, Pausing, Recheck}
use Rattle.port.specs.declared.stand.Stand.{Stand}
use Rattle.port_job.proofs.Drives.{single, is_write, Each, Has, Hand}
use Rattle.port_job.proofs.Settles.{Reaches, there, further}
use Rattle.port_job.specs.OnModel.{At, at, answers, exchange, no_access}
use Rattle.service.specs.Act.{Act, writes, reads_data, reads_all, reads_count, counts, Then, put, reads, fetch_one, does, does_all}
use Rattle.service.specs.JobSteps.{begins}
use Rattle.service.specs.JobTable.{job_table}
use Rattle.service.specs.declared.job.Job.{Job}
use Rattle.service.specs.declared.progress.Progress.{Progress}

-- the port that stands so, with the bytes read back and the record of a progress
abbrev pub holding : List ℕ → Stand → Progress → At
holding payload s p = at (record { stand = s; payload = payload; fetched = p.fetched }) p.controller

-- what is read at a place that is none is not noted
pub unnoted : (xs : List ℕ) (v : ℕ) → length xs ≡ 68 → set xs 68 v ≡ xs
unnoted xs v l = set_out xs 68 v (omega arith)

-- One access, whatever the stage: the record and the notes are those of the act.
made_one : (payload : List ℕ) (s : Stand) (p : Progress) (x : Act) (stands : ℕ → Stand) → T (single x) → length p.fetched ≡ 68 →
    asks s payload ≡ ask_for x → ((value : ℕ) → hears s payload value ≡ stands (count_after x p.count value)) → noted_at s payload ≡ place_of x →
    exchange (holding payload s p) ≡ holding payload (stands (does x p).count) (does x p)
unfolding exchange step answers ask_for count_after place_of does put fetch_one reads
made_one payload s p (writes register value) stands o l a h n = rw (a, h, n, unnoted p.fetched _ l)
made_one payload s p (reads_data i) stands o l a h n = rw (a, h, n)
made_one payload s p reads_all stands o l a h n = absurd o
made_one payload s p reads_count stands o l a h n = rw (a, h, n, unnoted p.fetched _ l)
made_one payload s p (counts k) stands o l a h n = absurd o

-- each asks for an access, and leaves 68 places to note at
single-asks : (x : Act) → T (single x) → no_access (ask_for x) ≡ false
unfolding no_access ask_for
single-asks (writes register value) o = refl
single-asks (reads_data i) o = refl
single-asks reads_all o = absurd o
single-asks reads_count o = refl
single-asks (counts k) o = absurd o

single-notes : (x : Act) (p : Progress) → T (single x) → length (does x p).fetched ≡ length p.fetched
unfolding does fetch_one
single-notes (writes register value) p o = refl
single-notes (reads_data i) p o = length-set p.fetched i _
single-notes reads_all p o = absurd o
single-notes reads_count p o = refl
single-notes (counts k) p o = absurd o

pub all_note : (xs : List Act) (p : Progress) → Each single xs → length (does_all xs p).fetched ≡ length p.fetched
unfolding does_all
all_note [] p o = refl
all_note (x ∷ xs) p o = all_note xs (does x p) o.1 ∙ single-notes x p o.0

one-or-other : (payload : List ℕ) (b : Bool) (s t : Stand) (p : Progress) →
    holding payload (when b then s else t) p ≡ (when b then holding payload s p else holding payload t p)
unfolding when◌then◌else◌
one-or-other payload true s t p = refl
one-or-other payload false s t p = refl

-- The port at a stage with accesses in hand, of which so many are made, and the stand that follows on the last; each with the count noted.
module _ (payload : List ℕ) (ok : Act → Bool) (xs : List Act) (stands ends : ℕ → ℕ → Stand) where
  pub record AtHand : Type 0 where
    pub one : (x : Act) → T (ok x) → T (single x)
    pub asking : (x : Act) (made count : ℕ) → Has xs made x → asks (stands made count) payload ≡ ask_for x
    pub hearing : (x : Act) (made count value : ℕ) → T (ok x) → Has xs made x → hears (stands made count) payload value ≡
        (when ltb (made + 1) (length xs) then stands (made + 1) (count_after x count value) else ends made (count_after x count value))
    pub noting : (x : Act) (made count : ℕ) → T (ok x) → Has xs made x → noted_at (stands made count) payload ≡ place_of x

  pub hand : AtHand → Hand ok xs (λ made p. holding payload (stands made p.count) p) (λ made p. holding payload (ends made p.count) p)
  hand g = record {
    asks = λ x made p o e. ap no_access (g.asking x made p.count e) ∙ single-asks x (g.one x o);
    next = λ x made p o l e.
        made_one payload (stands made p.count) p x
        (λ count. when ltb (made + 1) (length xs) then stands (made + 1) count else ends made count) (g.one x o) l (g.asking x made p.count e)
        (λ value. g.hearing x made p.count value o e) (g.noting x made p.count o e)
        ∙ one-or-other payload _ _ _ (does x p);
    notes = λ x p o. single-notes x p (g.one x o);
  }

-- the accesses before the last, and the last
nth-front : (xs : List Act) (y : Act) (k : ℕ) → k < length xs → nth (xs ++ (y ∷ [])) k ≡ nth xs k
unfolding nth
nth-front [] y k l = absurd (omega arith)
nth-front (x ∷ []) y zero l = refl
nth-front (x ∷ []) y (suc k) l = absurd (omega arith)
nth-front (x ∷ z ∷ zs) y zero l = refl
nth-front (x ∷ z ∷ zs) y (suc k) l = nth-front (z ∷ zs) y k (omega arith)

nth_last : (xs : List Act) (y : Act) → nth (xs ++ (y ∷ [])) (length xs) ≡ y
unfolding nth
nth_last [] y = refl
nth_last (x ∷ []) y = refl
nth_last (x ∷ z ∷ zs) y = nth_last (z ∷ zs) y

-- a line of the table, whose accesses are the same whatever the count
module _ (job : Job) (payload : List ℕ) (status answer : ℕ) (xs : List Act) (after : Then)
    (steady : (count : ℕ) → accesses count (job_table job payload status count).acts ≡ xs)
    (line : (count : ℕ) → (job_table job payload status count).after ≡ after) where
  abbrev stands : ℕ → ℕ → Stand
  stands made count = stand Working job status made false answer count false

  asked : (x : Act) (made count : ℕ) → nth xs made ≡ x → asks (stands made count) payload ≡ ask_for x
  unfolding asks asks_at in_hand_at
  asked x made count e = rw (steady count, e)

  heard : (x : Act) (made count value : ℕ) → nth xs made ≡ x → hears (stands made count) payload value ≡
      (let t = stands made (count_after x count value) in when ltb (made + 1) (length xs) then next_of t (length xs) else concludes after t)
  unfolding hears hears_at in_hand_at
  heard x made count value e = rw (steady count, e, line count)

  noted : (x : Act) (made count : ℕ) → nth xs made ≡ x → noted_at (stands made count) payload ≡ place_of x
  unfolding noted_at stage_number in_hand_at when◌then◌else◌
  noted x made count e = rw (steady count, e)

  -- at a status other than 58h they follow one on the other
  pub working : eqb status 0x58 ≡ false → AtHand payload single xs stands (λ made count. concludes after (stands made count))
  unfolding next_of when◌then◌else◌ ◌and◌
  working n = record {
    one = λ x o. o;
    asking = λ x made count e. asked x made count e.0;
    hearing = λ x made count value o e. rw n at heard x made count value e.0;
    noting = λ x made count o e. noted x made count e.0;
  }

  -- at 58h I2CCON is looked at before the last
  module _ (front : List Act) (y : Act) (is : xs ≡ front ++ (y ∷ [])) where
    abbrev m : ℕ
    m = length front

    total : length xs ≡ m + 1
    total = ap length is ∙ length-append front (y ∷ [])

    abbrev rechecks : ℕ → Stand
    rechecks count = stand Recheck job status m false answer count false

    in_front : {x : Act} {made : ℕ} → Has front made x → nth xs made ≡ x
    in_front {x} {made} e = ap (λ (zs : List Act). nth zs made) is ∙ nth-front front y made e.1 ∙ e.0

    pub reading : eqb status 0x58 ≡ true → AtHand payload single front stands (λ made count. rechecks count)
    unfolding next_of when◌then◌else◌
    reading s = record {
      one = λ x o. o;
      asking = λ x made count e. asked x made count (in_front e);
      hearing = λ x made count value o e.
          heard x made count value (in_front e) ∙ when-true _ _ _ (lt-ltb (made + 1) (length xs) (let l = e.1 in omega (arith, total)))
          ∙ or-looks made (count_after x count value) e.1 _ refl;
      noting = λ x made count o e. noted x made count (in_front e);
    }
      where
        or-looks : (made count : ℕ) → made < m → (b : Bool) → ltb (made + 1) m ≡ b →
            next_of (stands made count) (length xs) ≡ (when b then stands (made + 1) count else rechecks count)
        or-looks made count l true e =
            let more = ltb-true (made + 1) m e in when-false _ _ _ (and_no_right _ _ (ne_eqb (made + 2) (length xs) (omega (arith, total))))
        or-looks made count l false e =
            let no_more = ltb-false (made + 1) m e in
            when-true _ _ _ (and-true _ _ s (eq-eqb (made + 2) (length xs) (omega (arith, total))))
            ∙ ap (λ (k : ℕ). stand Recheck job status k false answer count false) (omega arith)

    -- and the last
    abbrev concluded : Progress → At
    concluded p = holding payload (concludes after (stands m p.count)) p

    pub finishing : (p : Progress) → T (single y) → length p.fetched ≡ 68 → Reaches 1 (holding payload (stands m p.count) p) (concluded (does y p))
    finishing p o l =
        let last = ap (λ (zs : List Act). nth zs m) is ∙ nth_last front y in
        let asks-it = asked y m p.count last in
        let all_made = le-ltb (m + 1) (length xs) (omega (arith, total)) in
        further (ap no_access asks-it ∙ single-asks y o)
        (subst (λ (s : At). Reaches 0 s (concluded (does y p)))
        (sym (made_one payload (stands m p.count) p y (λ count. concludes after (stands m count)) o l asks-it
        (λ value. heard y m p.count value last ∙ when-false _ _ _ all_made) (noted y m p.count last))) there)

-- a write notes nothing
record Unnoted (x : Act) : Type 0 where
  one : T (single x)
  count : (k value : ℕ) → count_after x k value ≡ k
  place : place_of x ≡ 68

write-unnoted : (x : Act) → T (is_write x) → Unnoted x
unfolding count_after place_of
write-unnoted (writes register value) o = record { one = tt; count = λ k v. refl; place = refl }
write-unnoted (reads_data i) o = absurd o
write-unnoted reads_all o = absurd o
write-unnoted reads_count o = absurd o
write-unnoted (counts k) o = absurd o

-- a job's beginning
module _ (job : Job) (payload : List ℕ) (status answer : ℕ) where
  pub beginning : AtHand payload is_write (begins job) (λ made count. stand First job status made false answer count false)
      (λ made count. stand Waiting job status made false answer count false)
  unfolding asks asks_at in_hand_at hears hears_at onward noted_at stage_number when◌then◌else◌
  beginning = record {
    one = λ x o. (write-unnoted x o).one;
    asking = λ x made count e. rw e.0;
    hearing = λ x made count value o e. rw ((write-unnoted x o).count count value);
    noting = λ x made count o e. sym (write-unnoted x o).place;
  }

-- a recovery
module _ (job : Job) (payload : List ℕ) (status answer : ℕ) (settings : List ℕ) (kept : take job.n payload ≡ settings) where
  pub recovering : AtHand payload is_write (recovers settings) (λ made count. stand Recovering job status made false answer count true)
      (λ made count. stand Pausing job status made false answer count true)
  unfolding asks asks_at in_hand_at hears hears_at onward noted_at stage_number when◌then◌else◌
  recovering = record {
    one = λ x o. (write-unnoted x o).one;
    asking = λ x made count e. rw (kept, e.0);
    hearing = λ x made count value o e. rw (kept, (write-unnoted x o).count count value);
    noting = λ x made count o e. sym (write-unnoted x o).place;
  }
