-- `ask_work` asks for an access of the line: the arm of one number computes, and what the other arms know settles the tests of the table.
use mathlib.Core.List.{List, [], ◌∷◌}
use mathlib.Core.Logic.{inl, inr}
use mathlib.Core.Path.{◌≡◌, refl, ap, sym}
use Prim.Native.Nat.{ℕ}
use borrow.Author.Tests.{ne_eqb}
use lib.ListN.{take}
use Rattle.answer.specs.declared.ending.Ending.TheVariants.{Fault}
use Rattle.control.specs.Turn.{faults}
use Rattle.notation.proofs.Among.{none_of, without}
use Rattle.notation.proofs.Cases.{split}
use Rattle.notation.specs.Choice.{when◌then◌else◌, among}
use Rattle.port.proofs.Totals.{at_each, data_accesses}
use Rattle.port.specs.Ask.{ask_for}
use Rattle.port.specs.InHand.{accesses, nth}
use Rattle.port.specs.declared.ask.Ask.TheVariants.{Write, Wait}
use Rattle.port.specs.declared.ask.Ask.{Ask}
use Rattle.service.specs.Act.{Act, Work, writes}
use Rattle.service.specs.JobSteps.{go_on_after, end_after}
use Rattle.service.specs.JobTable.{job_table}
use Rattle.port.proofs.stand.Stand.ask_work.Goals as goal

pub returns-then-self-eq88 : goal.returns-then-self-eq88
unfolding job_table among when◌then◌else◌ accesses
returns-then-self-eq88 c = rw (c.ask_back.ensures, c.if-self-eq88.true)

pub returns-then-self-eq24 : goal.returns-then-self-eq24
unfolding job_table among when◌then◌else◌ accesses
returns-then-self-eq24 c =
    let args = c.args in
    let s = args.self in
    rw (c.ask_data.ensures, c.if-self-eq24.true)
    (sym (ap (λ (l : List Act). ask_for (nth l s.made)) (data_accesses s.count (take s.job.n args.payload.now) (writes 3 0x41 ∷ []))))

pub returns-in-8 : goal.returns-in-8
unfolding job_table among when◌then◌else◌ accesses
returns-in-8 c = rw (c.ask_address.ensures, c.in-8.is)

pub returns-in-64 : goal.returns-in-64
unfolding job_table among when◌then◌else◌ accesses nth ask_for
returns-in-64 c = rw c.in-64.is

pub returns-in-32 : goal.returns-in-32
unfolding job_table among when◌then◌else◌ accesses nth ask_for
returns-in-32 c =
    let args = c.args in
    let s = args.self in
    let asked : ℕ → Ask = λ status. ask_for (nth (accesses s.count (job_table s.job args.payload.now status s.count).acts) s.made) in
    sym (at_each asked (Write 3 0x50) (0x20 ∷ 0x28 ∷ 0x48 ∷ []) s.status c.in-32.is (refl, (refl, (refl, tt))))

pub returns-in-48 : goal.returns-in-48
unfolding job_table among when◌then◌else◌ accesses
returns-in-48 c = rw (c.ask_moved.ensures, c.in-48.is)

pub returns-in-56 : goal.returns-in-56
unfolding job_table among when◌then◌else◌ accesses nth ask_for
returns-in-56 c = rw c.in-56.is

pub returns-in_default : goal.returns-in_default
unfolding job_table when◌then◌else◌ accesses nth ask_for
returns-in_default c =
    let s = c.args.self in
    let status = s.status in
    let rest = c.in_default.in_default-own.rest in
    let stops = rest.0.0.1 in
    rw (
      ne_eqb status 0x08 rest.0.0.0.0.1,
      ne_eqb status 0x18 c.if-self-eq24.false,
      ne_eqb status 0x40 rest.0.0.0.1,
      without status (0x20 ∷ 0x48 ∷ []) (0x20 ∷ 0x28 ∷ 0x48 ∷ []) tt (none_of (0x20 ∷ 0x28 ∷ 0x48 ∷ []) status stops),
      ne_eqb status 0x28 (λ e. stops (inr (inl e))),
      ne_eqb status 0x30 rest.0.1,
      ne_eqb status 0x58 c.if-self-eq88.false,
      ne_eqb status 0x38 rest.1,
    )
    (split (λ (w : Work). Wait ≡ ask_for (nth (accesses s.count w.acts) s.made)) (among status faults) (end_after [] Fault) (go_on_after [])
    (λ _. refl) (λ _. refl))
