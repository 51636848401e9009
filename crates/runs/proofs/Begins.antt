-- A job begins, with the bus free or another master's: I2CCOUNT is set and a START asked for, and the invariant holds. Assumes nothing.
use mathlib.Core.Bool.{true, false}
use mathlib.Core.List.{List, [], ◌∷◌}
use mathlib.Core.Path.{◌≡◌, refl, sym, ap, subst, ◌∙◌}
use Prim.Native.Nat.{ℕ}
use lib.ListN.{length, replicate, length-replicate}
use Rattle.std.specs.Prelude.{Some}
use Rattle.answer.specs.declared.ending.Ending.TheVariants.{Unfinished}
use Rattle.control.proofs.Turning.{status-idle}
use Rattle.control.specs.Flags.{flags_of}
use Rattle.control.specs.Turn.{faults, off, host, free, wire_turns, kind}
use Rattle.control.specs.Writing.{response}
use Rattle.control.specs.declared.flags.Control.{Control}
use Rattle.control.specs.declared.turn.Turn.{Turn}
use Rattle.controller.specs.Access.{write_of}
use Rattle.controller.specs.I2ccon.{keeps, bad_count}
use Rattle.controller.specs.Record.{sound}
use Rattle.controller.specs.Registers.{with_count}
use Rattle.controller.specs.Reply.{Outcome, accepts}
use Rattle.controller.specs.Setters.{with_pointer, with_armed, with_registers}
use Rattle.controller.specs.declared.record.Controller.{Controller}
use Rattle.notation.proofs.Among.{among-has, within, apart}
use Rattle.notation.proofs.Cases.{when-false, and_left, and_right}
use Rattle.notation.specs.Choice.{◌and◌, among}
use Rattle.service.proofs.AccessesLeave.{not-refused, controlled_to, control-accepted, pointer-accepted, pointer-written, count-accepted, count-written}
use Rattle.service.proofs.Sound.{put-sound}
use Rattle.runs.proofs.Invariant.{waiting_turns, Good, good-waiting}
use Rattle.runs.specs.Accesses.{AllAccepted}
use Rattle.service.specs.Act.{put, does, does_all}
use Rattle.service.specs.JobSteps.{count_of, begins}
use Rattle.service.specs.Progress.{progress, starting}
use Rattle.service.specs.Request.{ready}
use Rattle.service.specs.Serve.{starts}
use Rattle.service.specs.declared.job.Job.{Job}

-- "F8h: the turn stays"
turn-stays : (t : Turn) (k : Control) → among (kind t) waiting_turns ≡ true → response t k ≡ Some t
unfolding response
turn-stays t k w = when-false _ _ _ (apart _ waiting_turns (off ∷ []) tt w) ∙ when-false _ _ _ (apart _ waiting_turns (host ∷ []) tt w)

module _ (job : Job) (c : Controller) (s : sound c ≡ true) (w : among (kind c.turn) waiting_turns ≡ true) where
  abbrev count : ℕ
  count = count_of job.direction job.n

  -- the record after each of the three writes
  abbrev pointed : Controller
  pointed = with_armed (with_pointer c 0) false

  abbrev counted : Controller
  counted = with_armed (with_registers pointed (with_count c.registers count)) false

  abbrev begun_as : Controller
  begun_as = put (put (put c 0 0x00) 2 count) 3 0x60

  off-wire : among (kind c.turn) wire_turns ≡ false
  off-wire = apart _ waiting_turns wire_turns tt w

  points : put c 0 0x00 ≡ pointed
  points = pointer-written c 0 s

  pointed-sound : sound pointed ≡ true
  pointed-sound = subst (λ (d : Controller). sound d ≡ true) points (put-sound c 0 0 s)

  sets_count : put pointed 2 count ≡ counted
  sets_count = count-written pointed count pointed-sound off-wire refl

  counts_to : put (put c 0 0x00) 2 count ≡ counted
  counts_to = ap (λ (d : Controller). put d 2 count) points ∙ sets_count

  asks_start : write_of counted 3 0x60 ≡ accepts (controlled_to counted (flags_of 0x60) c.turn) 0
  unfolding flags_of bad_count ◌and◌
  asks_start =
      let idle = status-idle c.turn (apart _ waiting_turns (host ∷ []) tt w) in
      let no-fault = ap (λ (x : ℕ). among x faults) idle ∙ among-has 0xF8 faults in
      let still = subst (λ (d : Controller). sound d ≡ true) sets_count (put-sound _ 2 _ pointed-sound) in
      control-accepted counted 0x60 c.turn c.turn still refl off-wire no-fault refl (turn-stays c.turn (flags_of 0x60) w) refl

  pub begins_to : begun_as ≡ controlled_to counted (flags_of 0x60) c.turn
  unfolding put accepts
  begins_to = ap (λ (d : Controller). put d 3 0x60) counts_to ∙ ap (λ (o : Outcome). o.next) asks_start

  -- each of the three is accepted
  begins-accepted : AllAccepted (begins job) (starting c)
  unfolding starting does
  begins-accepted =
      let second = not-refused _ _ _ (count-accepted pointed count pointed-sound off-wire refl) in (
        not-refused _ _ _ (pointer-accepted c 0 s),
        (
          subst (λ (d : Controller). (write_of d 2 count).refused ≡ 0) (sym points) second,
          (subst (λ (d : Controller). (write_of d 3 0x60).refused ≡ 0) (sym counts_to) (not-refused _ _ _ asks_start), tt),
        ),
      )

  begins-sound : sound begun_as ≡ true
  begins-sound = put-sound _ 3 0x60 (put-sound _ 2 _ (put-sound c 0 0 s))

-- the invariant holds
pub good-begun : (job : Job) (payload : List ℕ) (c : Controller) → sound c ≡ true → among (kind c.turn) waiting_turns ≡ true →
    length c.buffer ≡ 68 → Good job payload [] 0 (starts (begins job) c)
unfolding starts starting does_all does keeps flags_of
good-begun job payload c s w l =
    let e = begins_to job c s w in
    let still = subst (λ (d : Controller). sound d ≡ true) e (begins-sound job c s w) in
    subst (λ (d : Controller). Good job payload [] 0 (progress d false Unfinished 0 0 (replicate 68 0))) (sym e)
    (good-waiting job payload _ (record { sound = still; count = refl; places = l; notes = length-replicate {A = ℕ} 68 0; lasts = refl }) refl w)

-- of a controller that is ready
pub ready-waits : (c : Controller) → ready c ≡ true → among (kind c.turn) waiting_turns ≡ true
unfolding ready
ready-waits c r = within _ (free ∷ []) waiting_turns tt (and_left _ _ (and_right _ _ r))

pub first-accepted : (job : Job) (c : Controller) → ready c ≡ true → AllAccepted (begins job) (starting c)
unfolding ready
first-accepted job c r = begins-accepted job c (and_left _ _ r) (ready-waits c r)

pub first-pointer : (job : Job) (c : Controller) → ready c ≡ true → (starts (begins job) c).controller.pointer ≡ 0
unfolding ready starts starting does_all does
first-pointer job c r = ap (λ (d : Controller). d.pointer) (begins_to job c (and_left _ _ r) (ready-waits c r))

pub begun : (job : Job) (payload : List ℕ) (c : Controller) → ready c ≡ true → length c.buffer ≡ 68 →
    Good job payload [] 0 (starts (begins job) c)
unfolding ready
begun job payload c r l = good-begun job payload c (and_left _ _ r) (ready-waits c r) l
