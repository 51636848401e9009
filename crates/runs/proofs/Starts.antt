-- The I2CCON writes by which a job goes on from a status: 41h to Send and to Receive, 50h to Stopping. Assumes nothing.
use mathlib.Core.Bool.{true, false}
use mathlib.Core.List.{List, [], ◌∷◌, ◌++◌}
use mathlib.Core.Path.{◌≡◌, refl, sym, ap, subst, ◌∙◌}
use Prim.Native.Nat.{ℕ, ◌+◌, ◌%◌, ◌≤◌}
use native.Mathlib.Omega.{arith}
use borrow.Author.Tests.{ne_eqb, le-ltb}
use lib.ListN.{length, take}
use lib.Seq.{length-take-le}
use Rattle.std.specs.Prelude.{Some}
use Rattle.address.specs.declared.number.Direction.TheVariants.{Write, Read}
use Rattle.answer.specs.Ending.{number_of}
use Rattle.answer.specs.declared.ending.Ending.{Ending}
use Rattle.block.specs.Block.{written}
use Rattle.control.specs.Flags.{flags_of}
use Rattle.control.specs.Turn.{faults, send, receive, stopping, wire_turns, kind, status_of, edge_of}
use Rattle.control.specs.Writing.{response, end_or, responds_at}
use Rattle.control.specs.declared.flags.Control.{Control}
use Rattle.control.specs.declared.turn.Edge.TheVariants.{Stop}
use Rattle.control.specs.declared.turn.Turn.TheVariants as turn
use Rattle.control.specs.declared.turn.Turn.{Turn}
use Rattle.controller.specs.I2ccon.{keeps, bad_count}
use Rattle.controller.specs.Record.{byte_count, sound}
use Rattle.controller.specs.declared.record.Controller.{Controller}
use Rattle.controller.specs.declared.record.Registers.{Registers}
use Rattle.notation.proofs.Among.{among-has}
use Rattle.notation.proofs.Cases.{and_no_right, or-false}
use Rattle.notation.specs.Choice.{when◌then◌else◌, ◌and◌, ◌or◌, among}
use Rattle.service.proofs.AccessesLeave.{control-written}
use Rattle.runs.proofs.DataMoves.{load_all, retake}
use Rattle.service.proofs.Sound.{put-sound}
use Rattle.runs.proofs.Invariant.{limit, limit-low, count-below, Whole, Good, good-sending, good-receiving, good-stopping}
use Rattle.runs.proofs.Lines.{stopped}
use Rattle.service.proofs.Formed.{Formed}
use Rattle.service.specs.Act.{put}
use Rattle.service.specs.JobSteps.{count_of}
use Rattle.service.specs.Progress.{progress, with_record}
use Rattle.service.specs.declared.job.Job.{Job}
use Rattle.service.specs.declared.progress.Progress.{Progress}

-- 50h at one of the end statuses: the driver waits for own STOP
pub stops-good : {job : Job} {payload : List ℕ} (carried : List ℕ) (sent : ℕ) (q : Progress) (status : ℕ) (e : Ending) (count : ℕ) →
    Whole job payload q → q.controller.turn ≡ turn.Host status Stop → among status faults ≡ false →
    responds_at status Stop (flags_of 0x50) ≡ Some turn.Stopping → sent ≤ limit job.direction job.n →
    (number_of e ≡ 0 → job.direction ≡ Read → take job.n q.fetched ≡ carried) → Good job payload carried sent (stopped q e count)
unfolding kind status_of edge_of among response flags_of keeps bad_count when◌then◌else◌ ◌and◌
stops-good {job} {payload} carried sent q status e count w t l r m z =
    let h = q.controller in
    let eq = control-written h 0x50 (turn.Host status Stop) turn.Stopping w.sound t refl l refl r refl in
    let still = subst (λ (d : Controller). sound d ≡ true) eq (put-sound h 3 0x50 w.sound) in
    subst (λ (d : Controller). Good job payload carried sent (progress d q.over e count q.events q.fetched)) (sym eq)
    (good-stopping job payload _ (record { sound = still; count = w.count; places = w.places; notes = w.notes; lasts = w.lasts }) refl
    carried sent m (among-has stopping (stopping ∷ [])) z)

module _ {room places : ℕ} {job : Job} (payload : List ℕ) (form : Formed job (length payload) room places) where
  -- a count that starts a buffered move
  pub fair_count : (d : Controller) (k : Control) (t : Turn) → d.registers.count ≡ count_of job.direction job.n → bad_count d k t ≡ false
  unfolding bad_count
  fair_count d k t e =
      let b : byte_count d ≡ job.n = ap (λ (x : ℕ). x % 128) e ∙ count-below job.direction job.n form.high in
      let l = form.low in
      let h = form.high in
      let fair = or-false _ _ (ne_eqb (byte_count d) 0 (omega (arith, b, l))) (le-ltb 68 (byte_count d) (omega (arith, b, h))) in
      and_no_right _ _ (and_no_right _ _ fair)

  -- 18h: the data are loaded, and the driver waits in Send
  pub sends-good : (carried : List ℕ) (q : Progress) → Whole job payload q → job.direction ≡ Write →
      q.controller.turn ≡ turn.Host 0x18 Stop → q.controller.hand ≡ 0 →
      Good job payload carried 1 (with_record q (put (written (take job.n payload) q.controller) 3 0x41))
  unfolding kind status_of edge_of among response responds_at end_or flags_of keeps when◌then◌else◌ ◌and◌
  sends-good carried q w d t z =
      let xs = take job.n payload in
      let h = q.controller in
      let size : length xs ≡ job.n = length-take-le job.n payload (form.data_lent d) in
      let high = form.high in
      let y = written xs h in
      let off-wire = ap (λ (u : Turn). among (kind u) wire_turns) t in
      let loaded = load_all xs h w.sound off-wire (omega (arith, size, z, high)) w.places in
      let n = ap (λ (r : Registers). r.count) loaded.registers ∙ w.count in
      let eq = control-written y 0x41 (turn.Host 0x18 Stop) turn.Send loaded.sound (loaded.turn ∙ t) refl refl refl refl (fair_count y _ _ n) in
      let still = subst (λ (c : Controller). sound c ≡ true) eq (put-sound y 3 0x41 loaded.sound) in
      let bytes = retake y.buffer job.n (h.hand + length xs) (omega (arith, size, z)) ∙ loaded.bytes in
      subst (λ (c : Controller). Good job payload carried 1 (with_record q c)) (sym eq)
      (good-sending job payload _ (record { sound = still; count = n; places = loaded.places; notes = w.notes; lasts = w.lasts }) refl
      carried 1 (limit-low job.direction job.n) (among-has send (send ∷ [])) refl d
      (bytes ∙ ap (λ (k : ℕ). take k h.buffer ++ xs) z) refl)

  -- 40h: the driver waits in Receive
  pub receives-good : (q : Progress) → Whole job payload q → job.direction ≡ Read → q.controller.turn ≡ turn.Host 0x40 Stop →
      Good job payload [] 1 (with_record q (put q.controller 3 0x41))
  unfolding kind status_of edge_of among response responds_at flags_of keeps when◌then◌else◌ ◌and◌ ◌or◌
  receives-good q w d t =
      let h = q.controller in
      let eq = control-written h 0x41 (turn.Host 0x40 Stop) turn.Receive w.sound t refl refl refl refl (fair_count h _ _ w.count) in
      let still = subst (λ (c : Controller). sound c ≡ true) eq (put-sound h 3 0x41 w.sound) in
      subst (λ (c : Controller). Good job payload [] 1 (with_record q c)) (sym eq)
      (good-receiving job payload _ (record { sound = still; count = w.count; places = w.places; notes = w.notes; lasts = w.lasts }) refl
      [] (among-has receive (receive ∷ [])) refl d refl)
