-- `conclude` is `concludes` of what the line says follows: each arm names the lines, and the default leaves those after which the job goes on.
use mathlib.Core.List.{List, [], ◌∷◌}
use mathlib.Core.Logic.{inl, inr}
use mathlib.Core.Path.{◌≡◌, refl, sym, ap, ◌∙◌}
use Prim.Native.Nat.{ℕ}
use borrow.Author.Tests.{ne_eqb}
use lib.Dec.{eqb}
use Rattle.control.specs.Turn.{faults}
use Rattle.notation.proofs.Among.{none_of}
use Rattle.notation.proofs.Cases.{split}
use Rattle.notation.specs.Choice.{when◌then◌else◌, among}
use Rattle.port.proofs.Totals.{at_each}
use Rattle.port.specs.Hear.{concludes}
use Rattle.port.specs.Stand.{awaiting, ended}
use Rattle.port.specs.declared.stage.Stage.TheVariants.{Waiting}
use Rattle.port.specs.declared.stand.Stand.{Stand}
use Rattle.service.specs.Act.{Work, Then, goes_on}
use Rattle.service.specs.JobTable.{job_table}
use Rattle.port.proofs.stand.Stand.conclude.Goals as goal

abbrev concluded : Stand → List ℕ → ℕ → ℕ → Stand
concluded s payload count status = concludes (job_table s.job payload status count).after s

abbrev On : Work → Type 0
On w = w.after ≡ goes_on

pub returns-in-32 : goal.returns-in-32
unfolding job_table among when◌then◌else◌ concludes
returns-in-32 c payload count =
    let s = c.args.self in
    c.await_stop.ensures
    ∙ sym (at_each (concluded s payload count) (awaiting s Waiting 23) (0x20 ∷ 0x48 ∷ []) s.status c.in-32.is (refl, (refl, tt)))

pub returns-in-40 : goal.returns-in-40
unfolding job_table among when◌then◌else◌ concludes
returns-in-40 c payload count =
    let s = c.args.self in
    c.await_stop-in-40.ensures
    ∙ sym (at_each (concluded s payload count) (awaiting s Waiting 0) (0x28 ∷ 0x58 ∷ []) s.status c.in-40.is (refl, (refl, tt)))

pub returns-in-48 : goal.returns-in-48
unfolding job_table among when◌then◌else◌ concludes
returns-in-48 c payload count = c.await_stop-in-48.ensures ∙ rw c.in-48.is

pub returns-in-56 : goal.returns-in-56
unfolding job_table among when◌then◌else◌ concludes
returns-in-56 c payload count = c.end.ensures ∙ rw c.in-56.is

pub returns-in-0 : goal.returns-in-0
unfolding job_table among when◌then◌else◌ concludes
returns-in-0 c payload count =
    let s = c.args.self in
    c.end-in-0.ensures
    ∙ sym (at_each (concluded s payload count) (ended s 26 0) (0x00 ∷ 0x70 ∷ 0x78 ∷ []) s.status c.in-0.is (refl, (refl, (refl, tt))))

pub returns-in_default : goal.returns-in_default
unfolding job_table when◌then◌else◌ concludes
returns-in_default c payload count =
    let s = c.args.self in
    let status = s.status in
    let rest = c.in_default.in_default-own.rest in
    let done = rest.0.0.0.1 in
    let goes : (job_table s.job payload status count).after ≡ goes_on =
    rw (
      none_of (0x20 ∷ 0x48 ∷ []) status rest.0.0.0.0.1,
      ne_eqb status 0x28 (λ e. done (inl e)),
      ne_eqb status 0x30 rest.0.0.1,
      ne_eqb status 0x58 (λ e. done (inr e)),
      ne_eqb status 0x38 rest.0.1,
      none_of faults status rest.1,
    ) (split On (eqb status 0x08) _ _ (λ _. refl)
    (λ _. split On (eqb status 0x18) _ _ (λ _. refl) (λ _. split On (eqb status 0x40) _ _ (λ _. refl) (λ _. refl)))) in
    c.at.ensures ∙ sym (ap (λ (follows : Then). concludes follows s) goes)
