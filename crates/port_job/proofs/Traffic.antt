-- Begun before another master's traffic or after it, a job is the same. Assumes nothing.
use mathlib.Core.Bool.{Bool, true, false, true≢false}
use mathlib.Core.List.{List, [], ◌∷◌, ◌++◌}
use mathlib.Core.Path.{◌≡◌, refl, sym, ap, subst, ◌∙◌}
use Prim.Native.Nat.{ℕ, zero, suc, ◌+◌}
use native.Mathlib.Nat.{add_assoc}
use native.Mathlib.Omega.{arith}
use lib.Dec.{T, eqb}
use Rattle.address.specs.declared.matching.Match.TheVariants.{Nothing}
use Rattle.control.proofs.Turning.{status-idle, idle_not_38h}
use Rattle.control.specs.Flags.{flags_of}
use Rattle.control.specs.Turn.{host, stopping, kind, status_of, at38h}
use Rattle.control.specs.declared.turn.Turn.{Turn}
use Rattle.controller.specs.Condition.{other_start, other_stop, addressed, matches, address_byte, illegal_edge}
use Rattle.controller.specs.Event.{event_sound, event_of}
use Rattle.controller.specs.I2ccon.{keeps}
use Rattle.controller.specs.Record.{sound}
use Rattle.controller.specs.Reply.{Outcome, refuses, accepts, waits_for}
use Rattle.controller.specs.Setters.{with_turn}
use Rattle.controller.specs.declared.record.Controller.{Controller}
use Rattle.driver.specs.Run.{Run, closes, breaks, sending, taking, run}
use Rattle.laws.proofs.Addresses.{silent-without-aa}
use Rattle.laws.proofs.Soundness.{event-stays-sound}
use Rattle.notation.proofs.Among.{has, every, same, passes, one_of, apart, clash}
use Rattle.notation.proofs.Cases.{when-true, when-false, and_left}
use Rattle.notation.specs.Choice.{when◌then◌else◌, among}
use Rattle.port_job.specs.Traffic.{OthersTraffic, after_pairs, pairs, later, TrafficFirst}
use Rattle.runs.proofs.Begins.{begins_to, ready-waits}
use Rattle.runs.proofs.Invariant.{waiting_turns}
use Rattle.runs.proofs.Waiting.{free-waits, busy-waits, listen-waits}
use Rattle.service.proofs.AnyTable.{serve-events, at-idle}
use Rattle.service.proofs.Sound.{acts-sound}
use Rattle.service.specs.Act.{Act, writes, reads_data, reads_all, reads_count, counts, Then, goes_on, awaits, ends, finishes}
use Rattle.service.specs.Act.{reads, fetch_one, fetch, read_times, does, does_all, follows, performs}
use Rattle.service.specs.JobSteps.{begins}
use Rattle.service.specs.JobTable.{job_table}
use Rattle.service.specs.Progress.{with_events, starting}
use Rattle.service.specs.Request.{ready}
use Rattle.service.specs.Serve.{Table, starts, serve}
use Rattle.service.specs.declared.job.Job.{Job}
use Rattle.service.specs.declared.progress.Progress.{Progress}

-- How many pairs were taken is looked at by no act,
module _ (n : ℕ) where
  fetch-counted : (more i : ℕ) (p : Progress) → fetch more i (with_events p n) ≡ with_events (fetch more i p) n
  unfolding fetch fetch_one
  fetch-counted zero i p = refl
  fetch-counted (suc more) i p = fetch-counted more (i + 1) (fetch_one i p)

  does-counted : (x : Act) (p : Progress) → does x (with_events p n) ≡ with_events (does x p) n
  unfolding does fetch_one
  does-counted (writes register value) p = refl
  does-counted (reads_data at) p = refl
  does-counted reads_all p = fetch-counted (read_times p.count) 0 p
  does-counted reads_count p = refl
  does-counted (counts count) p = refl

  acts-counted : (xs : List Act) (p : Progress) → does_all xs (with_events p n) ≡ with_events (does_all xs p) n
  unfolding does_all
  acts-counted [] p = refl
  acts-counted (x ∷ xs) p = ap (does_all xs) (does-counted x p) ∙ acts-counted xs (does x p)

  follows-counted : (t : Then) (p : Progress) → follows t (with_events p n) ≡ with_events (follows t p) n
  unfolding follows
  follows-counted goes_on p = refl
  follows-counted (awaits ending) p = refl
  follows-counted (ends ending) p = refl
  follows-counted finishes p = refl

  either-counted : (b : Bool) (x y x' y' : Progress) → x' ≡ with_events x n → y' ≡ with_events y n →
      (when b then x' else y') ≡ with_events (when b then x else y) n
  unfolding when◌then◌else◌
  either-counted true x y x' y' e f = e
  either-counted false x y x' y' e f = f

  -- by no service
  serve-counted : (table : Table) (event : ℕ) (p : Progress) → serve table event (with_events p n) ≡ with_events (serve table event p) n
  unfolding serve performs
  serve-counted table event p =
      let w = table (reads p.controller 0) p.count in
      either-counted _ _ _ _ _ (follows-counted _ p) (either-counted _ _ _ _ _ (follows-counted _ p) (either-counted _ _ _ _ _ refl
      (ap (follows w.after) (acts-counted w.acts p) ∙ follows-counted w.after (does_all w.acts p))))

-- and by no run: with so many pairs taken before it, it is the same
module _ (k : ℕ) where
  either-later : (b d : Bool) (event value : ℕ) (x y z : Run) →
      (when b then sending event value (when d then later k x else later k y) else later k z) ≡
      later k (when b then sending event value (when d then x else y) else z)
  unfolding when◌then◌else◌ sending later
  either-later true true event value x y z = refl
  either-later true false event value x y z = refl
  either-later false d event value x y z = refl

  run-later : (table : Table) (script : List ℕ) (p : Progress) → run table (with_events p (p.events + k)) script ≡ later k (run table p script)
  unfolding run breaks closes later taking
  run-later table [] p = refl
  run-later table (event ∷ []) p = refl
  run-later table (event ∷ argument ∷ rest) p =
      let o = event_of p.controller event argument in
      let q = serve table event (taking p o.next) in
      let r = with_events q (q.events + k) in
      let taken = serve-events table event (taking p o.next) in
      let same : serve table event (taking (with_events p (p.events + k)) o.next) ≡ r =
      serve-counted (p.events + k + 1) table event (taking p o.next) ∙ ap (λ (n : ℕ). with_events q n) (omega arith) in
      ap (λ (u : Progress). when eqb o.refused 0 then sending event o.value (when u.over then closes u else run table u rest)
      else later k (breaks p 28 o.refused)) same
      ∙ ap (λ (u : Run). when eqb o.refused 0 then sending event o.value (when q.over then later k (closes q) else u)
      else later k (breaks p 28 o.refused)) (run-later table rest q)
      ∙ either-later (eqb o.refused 0) q.over event o.value (closes q) (run table q rest) (breaks p 28 o.refused)

later-again : (k : ℕ) (r : Run) → later 1 (later k r) ≡ later (k + 1) r
unfolding later
later-again k r = rw (add_assoc r.result.events k 1)

unsent : (number value : ℕ) (r : Run) → eqb number 6 ≡ false → sending number value r ≡ r
unfolding sending when◌then◌else◌
unsent number value r e = rw e

-- with AA 0 no address byte matches
silent : (c : Controller) (byte : ℕ) → c.control.aa ≡ false → matches c byte ≡ Nothing
silent c byte e = rw e (silent-without-aa c.registers.own (record { 0 = byte }))

-- the events of the traffic
abbrev listed : List ℕ
listed = 2 ∷ 3 ∷ 5 ∷ 10 ∷ []

another : (k number : ℕ) → among number listed ≡ true → T (every (λ j. same (eqb j k) false) listed) → eqb number k ≡ false
another k number e t = passes (λ (x : ℕ). eqb x k) false listed number (one_of listed number e) t

-- Two records in the same turn of those that wait for the bus: an event of the traffic leads both to one such turn, and changes nothing else.
module _ (c b : Controller) (waits : among (kind c.turn) waiting_turns ≡ true) (number : ℕ) (which : among number listed ≡ true) where
  abbrev d : Controller
  d = with_turn b c.turn

  record Led (o o' : Outcome) : Type 0 where
    turn : Turn
    still : among (kind turn) waiting_turns ≡ true
    next : o.next ≡ with_turn c turn
    accepted : o'.refused ≡ 0
    next' : o'.next ≡ with_turn b turn

  -- unless it is refused
  record Alike (o o' : Outcome) : Type 0 where
    leads : o.refused ≡ 0 → Led o o'

  refused : (n : ℕ) (o : Outcome) → eqb n 0 ≡ false → Alike (refuses c n) o
  unfolding refuses
  refused n o e = record { leads = λ z. absurd (true≢false (sym (ap (λ (k : ℕ). eqb k 0) z) ∙ e)) }

  waited : (t : Turn) (v : ℕ) → among (kind t) waiting_turns ≡ true → Alike (waits_for c t v) (waits_for d t v)
  unfolding waits_for accepts
  waited t v w = record { leads = λ _. record { turn = t; still = w; next = refl; accepted = refl; next' = refl } }

  stayed : (v : ℕ) → Alike (accepts c v) (accepts d v)
  unfolding accepts
  stayed v = record { leads = λ _. record { turn = c.turn; still = waits; next = refl; accepted = refl; next' = refl } }

  -- what does not come about: another number, a turn that does not wait for the bus
  not_this : (k : ℕ) (o o' : Outcome) → eqb number k ≡ true → T (every (λ j. same (eqb j k) false) listed) → Alike o o'
  not_this k o o' e t = absurd (true≢false (sym e ∙ another k number which t))

  not-here : (o o' : Outcome) (ks : List ℕ) → among (kind c.turn) ks ≡ true → T (every (λ k. same (has ks k) false) waiting_turns) → Alike o o'
  not-here o o' ks t n = clash _ waiting_turns ks n waits t

  no_38h : (o o' : Outcome) → at38h c.turn ≡ true → Alike o o'
  no_38h o o' e = absurd (true≢false (sym e ∙ idle_not_38h _ (apart _ waiting_turns (host ∷ []) tt waits)))

  -- a test of both, which has one outcome
  chosen : (x : Bool) (o p o' p' : Outcome) → (x ≡ true → Alike o o') → (x ≡ false → Alike p p') → Alike (when x then o else p) (when x then o' else p')
  unfolding when◌then◌else◌
  chosen true o p o' p' f h = f refl
  chosen false o p o' p' f h = h refl

  both-sound : (x x' : Bool) (o p o' p' : Outcome) → x ≡ true → x' ≡ true → Alike o o' → Alike (when x then o else p) (when x' then o' else p')
  both-sound x x' o p o' p' e e' a = rw (when-true x o p e, when-true x' o' p' e') a

  event-alike : (argument : ℕ) → c.control.aa ≡ false → b.control.aa ≡ false → sound c ≡ true → sound d ≡ true →
      Alike (event_of c number argument) (event_of d number argument)
  unfolding event_of event_sound other_start other_stop address_byte addressed illegal_edge
  event-alike argument a a' s s' =
      rw (silent c argument a, silent d argument a')
      (search (chosen, both-sound, refused, waited, stayed, not_this, not-here, no_38h, free-waits, busy-waits, listen-waits, tt) depth 40 fits 30000)

-- a sound record in one of the three turns, with AA 0
pub record Waiting (c : Controller) : Type 0 where
  pub still-sound : sound c ≡ true
  pub turn : among (kind c.turn) waiting_turns ≡ true
  pub aa : c.control.aa ≡ false

-- after the traffic it is one again, and nothing but the turn is changed
pub record Amid (c d : Controller) : Type 0 where
  pub waits : Waiting d
  pub flags : d.control ≡ c.control
  pub buffer : d.buffer ≡ c.buffer

-- The first writes of a job that begins there.
module _ (job : Job) where
  abbrev first : Controller → Progress
  first c = starts (begins job) c

  turn-stays : (c : Controller) → Waiting c → (first c).controller.turn ≡ c.turn
  unfolding starts starting does_all does
  turn-stays c w = ap (λ (d : Controller). d.turn) (begins_to job c w.still-sound w.turn)

  first-sound : (c : Controller) → Waiting c → sound (first c).controller ≡ true
  unfolding starts starting
  first-sound c w = acts-sound (begins job) (starting c) w.still-sound

  -- another turn before them is that turn after them
  turned : (c : Controller) (t : Turn) → Waiting c → Waiting (with_turn c t) → (first (with_turn c t)).controller ≡ with_turn (first c).controller t
  unfolding starts starting does_all does keeps when◌then◌else◌
  turned c t w w' =
      let off : (x : ℕ) → among x waiting_turns ≡ true → among x (stopping ∷ []) ≡ false = λ x. apart x waiting_turns (stopping ∷ []) tt in
      rw (
        begins_to job (with_turn c t) w'.still-sound w'.turn,
        begins_to job c w.still-sound w.turn,
        off (kind t) w'.turn,
        off (kind c.turn) w.turn,
      )

  -- one event of the traffic, before and after them
  record Passed (c : Controller) (number argument : ℕ) : Type 0 where
    accepted : (event_of (first c).controller number argument).refused ≡ 0
    next : (event_of (first c).controller number argument).next ≡ (first (event_of c number argument).next).controller
    after : Amid c (event_of c number argument).next

  passing : (c : Controller) (number argument : ℕ) → Waiting c → among number listed ≡ true → (event_of c number argument).refused ≡ 0 →
      Passed c number argument
  unfolding starts starting does_all does keeps flags_of
  passing c number argument w which z =
      let b = (first c).controller in
      let same : with_turn b c.turn ≡ b = ap (λ (t : Turn). with_turn b t) (sym (turn-stays c w)) in
      let silent = ap (λ (d : Controller). d.control.aa) (begins_to job c w.still-sound w.turn) in
      let l = (event-alike c b w.turn number which argument w.aa silent w.still-sound (rw same (first-sound c w))).leads z in
      let after = event-stays-sound c number argument w.still-sound in
      let led : Waiting (with_turn c l.turn) =
      record { still-sound = subst (λ (d : Controller). sound d ≡ true) l.next after; turn = l.still; aa = w.aa } in
      record {
        accepted = subst (λ (d : Controller). (event_of d number argument).refused ≡ 0) same l.accepted;
        next =
            subst (λ (d : Controller). (event_of d number argument).next ≡ (first (event_of c number argument).next).controller) same
            (l.next' ∙ sym (ap (λ (d : Controller). (first d).controller) l.next ∙ turned c l.turn w led));
        after = subst (Amid c) (sym l.next) (record { waits = led; flags = refl; buffer = refl });
      }

  pub amid : (traffic : List ℕ) (c : Controller) → Waiting c → OthersTraffic traffic c → Amid c (after_pairs traffic c)
  unfolding after_pairs
  amid [] c w t = record { waits = w; flags = refl; buffer = refl }
  amid (number ∷ []) c w t = absurd t
  amid (number ∷ argument ∷ rest) c w t =
      let one = (passing c number argument w t.0 t.1).after in
      let more = amid rest _ one.waits t.2 in
      record { waits = more.waits; flags = more.flags ∙ one.flags; buffer = more.buffer ∙ one.buffer }

  module _ (payload : List ℕ) where
    abbrev table : Table
    table = job_table job payload

    -- the driver waits through it, and it is counted
    one-pair : (c : Controller) (number argument : ℕ) (rest : List ℕ) → among number listed ≡ true → Passed c number argument →
        run table (first c) (number ∷ argument ∷ rest) ≡ later 1 (run table (first (event_of c number argument).next) rest)
    unfolding run starts starting does_all does taking
    one-pair c number argument rest which e =
        let o = event_of (first c).controller number argument in
        let n = (event_of c number argument).next in
        let q = taking (first c) (first n).controller in
        let w = e.after.waits in
        let idle = ap status_of (turn-stays n w) ∙ status-idle n.turn (apart _ waiting_turns (host ∷ []) tt w.turn) in
        let waits =
        at-idle table number q (another 14 number which tt) (another 4 number which tt) (first-sound n w) (ap (λ (x : ℕ). eqb x 0xF8) idle) in
        when-true _ _ _ (ap (λ (x : ℕ). eqb x 0) e.accepted)
        ∙ ap (λ (u : Progress). sending number o.value (when u.over then closes u else run table u rest))
        (ap (λ (d : Controller). serve table number (taking (first c) d)) e.next ∙ waits)
        ∙ ap (sending number o.value) (when-false _ _ _ refl) ∙ unsent number o.value _ (another 6 number which tt) ∙ run-later 1 table rest (first n)

    traffic_from : (traffic script : List ℕ) (c : Controller) → Waiting c → OthersTraffic traffic c →
        run table (first c) (traffic ++ script) ≡ later (pairs traffic) (run table (first (after_pairs traffic c)) script)
    unfolding pairs after_pairs starts starting does_all does
    traffic_from [] script c w t = run-later 0 table script (first c)
    traffic_from (number ∷ []) script c w t = absurd t
    traffic_from (number ∷ argument ∷ rest) script c w t =
        let e = passing c number argument w t.0 t.1 in
        one-pair c number argument (rest ++ script) t.0 e ∙ ap (later 1) (traffic_from rest script _ e.after.waits t.2) ∙ later-again (pairs rest) _

pub ready-waiting : (c : Controller) → ready c ≡ true → c.control.aa ≡ false → Waiting c
unfolding ready
ready-waiting c r a = record { still-sound = and_left _ _ r; turn = ready-waits c r; aa = a }

pub traffic_first : TrafficFirst
traffic_first job payload traffic script c r a t = traffic_from job payload traffic script c (ready-waiting c r a) t
