-- `work_total` is the length of the line's accesses: each arm names the line.
use mathlib.Core.List.{List, [], ◌∷◌}
use mathlib.Core.Logic.{inl, inr}
use mathlib.Core.Path.{◌≡◌, refl, sym}
use Prim.Native.Nat.{ℕ}
use borrow.Author.Tests.{ne_eqb}
use lib.ListN.{length, length-append, length-take}
use Rattle.answer.specs.declared.ending.Ending.TheVariants.{Fault}
use Rattle.control.specs.Turn.{faults}
use Rattle.notation.proofs.Among.{none_of, without}
use Rattle.notation.proofs.Cases.{split}
use Rattle.notation.specs.Choice.{when◌then◌else◌, among}
use Rattle.port.proofs.Totals.{at_each, length-reads, data_total}
use Rattle.port.specs.InHand.{accesses}
use Rattle.service.specs.Act.{Work}
use Rattle.service.specs.JobSteps.{go_on_after, end_after}
use Rattle.service.specs.JobTable.{job_table}
use Rattle.port.proofs.stand.Stand.work_total.Goals as goal

abbrev single : List ℕ
single = 0x20 ∷ 0x28 ∷ 0x38 ∷ 0x40 ∷ 0x48 ∷ []

pub returns-then-self-eq88 : goal.returns-then-self-eq88
unfolding job_table among when◌then◌else◌ accesses
returns-then-self-eq88 c =
    let s = c.args.self in
    rw (c.if-self-eq88.true, length-append, length-reads, c.from.ensures, c.reads.ensures)

pub returns-then-self-eq24 : goal.returns-then-self-eq24
unfolding job_table among when◌then◌else◌ accesses
returns-then-self-eq24 c =
    let s = c.args in
    rw (c.if-self-eq24.true, c.bytes.ensures, length-take)
    (sym (data_total s.self.count s.self.job.n s.payload.now))

pub returns-in-8 : goal.returns-in-8
unfolding job_table among when◌then◌else◌ accesses
returns-in-8 c = rw c.in-8.is

pub returns-in-32 : goal.returns-in-32
unfolding job_table among when◌then◌else◌ accesses
returns-in-32 c =
    let s = c.args in
    sym (at_each (λ (status : ℕ). length (accesses s.self.count (job_table s.self.job s.payload.now status s.self.count).acts)) 1
    single s.self.status c.in-32.is (refl, (refl, (refl, (refl, (refl, tt))))))

pub returns-in-48 : goal.returns-in-48
unfolding job_table among when◌then◌else◌ accesses
returns-in-48 c = rw c.in-48.is

pub returns-in_default : goal.returns-in_default
unfolding job_table accesses when◌then◌else◌
returns-in_default c =
    let s = c.args in
    let status = s.self.status in
    let rest = c.in_default.in_default-own.rest in
    let several = rest.0.1 in
    rw (
      ne_eqb status 0x08 rest.0.0.1,
      ne_eqb status 0x18 c.if-self-eq24.false,
      ne_eqb status 0x40 (λ e. several (inr (inr (inr (inl e))))),
      without status (0x20 ∷ 0x48 ∷ []) single tt (none_of single status several),
      ne_eqb status 0x28 (λ e. several (inr (inl e))),
      ne_eqb status 0x30 rest.1,
      ne_eqb status 0x58 c.if-self-eq88.false,
      ne_eqb status 0x38 (λ e. several (inr (inr (inl e)))),
    ) (split (λ (w : Work). 0 ≡ length (accesses s.self.count w.acts)) (among status faults) (end_after [] Fault) (go_on_after []) (λ _. refl) (λ _. refl))
