-- `run_job` is `job_of`: what is known at each return settles its tests, and `run_pairs` and `hand_up` promise the rest.
use mathlib.Core.List.{List}
use mathlib.Core.Path.{◌≡◌, refl, sym, ap, ◌∙◌}
use Prim.Native.Nat.{ℕ}
use lib.ListN.{length}
use Rattle.driver.specs.Run.{Result, result_of, run, hands_up, reports, declines, job_of}
use Rattle.notation.proofs.Cases.{when-true, when-false}
use Rattle.notation.specs.Overlay.{laid}
use Rattle.service.proofs.Formed.{formed}
use Rattle.service.specs.Act.{does, does_all}
use Rattle.service.specs.JobSteps.{begins}
use Rattle.service.specs.JobTable.{job_table}
use Rattle.service.specs.Progress.{starting}
use Rattle.service.specs.Serve.{starts}
use Rattle.service.specs.declared.progress.Progress.{Progress}
use Rattle.driver.proofs.job.run_job.Goals as goal

pub returns-then-is_malformed : goal.returns-then-is_malformed
unfolding job_of declines laid
returns-then-is_malformed c =
    let s = c.args in
    let told = c.declined.ensures in
    let e : job_of s.job s.payload.now (length s.destination.now) (length s.out.now) s.script.now s.c ≡ declines s.c 21 =
    when-true _ _ _ (sym c.is_malformed.ensures ∙ c.if-is_malformed.true) in
    rw e (record { result = told.result; handed = refl; sent = refl; number = told.sent })

pub returns-then-not-is_ready : goal.returns-then-not-is_ready
unfolding job_of declines laid
returns-then-not-is_ready c =
    let s = c.args in
    let told = c.declined-then-not-is_ready.ensures in
    let e : job_of s.job s.payload.now (length s.destination.now) (length s.out.now) s.script.now s.c ≡ declines s.c 22 =
    when-false _ _ _ (sym c.is_malformed.ensures ∙ c.if-is_malformed.false) ∙ when-false _ _ _ (sym c.is_ready.ensures ∙ c.if-not-is_ready.true) in
    rw e (record { result = told.result; handed = refl; sent = refl; number = told.sent })

pub run_pairs-result-requires : goal.run_pairs-result-requires
unfolding starts does_all does starting
run_pairs-result-requires c = ap (λ (p : Progress). p.events) c.start-p.ensures

pub hand_up-requires : goal.hand_up-requires
hand_up-requires c =
    let well = formed _ _ _ _ _ (sym c.is_malformed.ensures ∙ c.if-is_malformed.false) in
    record { fits = well.high; lent = well.destination_lent }

pub returns : goal.returns
unfolding job_of reports result_of
returns c =
    let s = c.args in
    let job = s.job in
    let table = job_table job s.payload.now in
    let whole = run table (starts (begins job) s.c) s.script.now in
    let begun : run table c.start-p.result s.script.now ≡ whole = ap (λ (p : Progress). run table p s.script.now) c.start-p.ensures in
    let e : job_of job s.payload.now (length s.destination.now) (length s.out.now) s.script.now s.c ≡ reports job whole =
    when-false _ _ _ (sym c.is_malformed.ensures ∙ c.if-is_malformed.false) ∙ when-true _ _ _ (sym c.is_ready.ensures ∙ c.if-not-is_ready.false) in
    let worked = c.run_pairs-result in
    let told = rw begun at worked.ensures in
    let destination = s.destination.now in
    rw e (record {
      result = told.result;
      handed = c.hand_up.ensures
          ∙ ap (λ (r : Result). laid (hands_up job r.answer worked.new.p.fetched) destination) told.result
          ∙ ap (λ (l : List ℕ). laid (hands_up job whole.result.answer l) destination) told.fetched;
      sent = told.sent;
      number = told.number;
    })
