-- `parse` takes the parts of an input that is not bad.
use Rattle.std.proofs.Common.{◌≡◌, [], arith, rules, true}
use Rattle.job.specs.Program.{bad_input, data_size, kind_of, size_of}
use Rattle.job.proofs.Parts.{cut_short, parsed, same_size}
use Rattle.requests.specs.Jobs.{data_length}
use Rattle.service.specs.declared.job.Job.{Job}
use mathlib.Core.Path.{ap, refl, ◌∙◌}
use Rattle.job.proofs.input.parse.Goals as goal

pub returns-in_err-payload : goal.returns-in_err-payload
unfolding data_size
returns-in_err-payload c =
    let input = c.args.input.now in
    let size : c.data_len.result ≡ data_size input =
    c.data_len.ensures ∙ ap (λ (j : Job). data_length j.direction j.n) c.job_for-job.ensures ∙ same_size (kind_of input) (size_of input) in
    let bad : bad_input input ≡ true =
    cut_short input _ [] [] c.job_for-job.result _ (omega arith) (omega arith) (omega arith) refl size c.in_err-payload.ensures.cases in
    search (bad, rules)

pub returns : goal.returns
unfolding data_size
returns c =
    let input = c.args.input.now in
    let parts = c.in_ok-payload.ensures.cases in
    let size : c.data_len.result ≡ data_size input =
    c.data_len.ensures ∙ ap (λ (j : Job). data_length j.direction j.n) c.job_for-job.ensures ∙ same_size (kind_of input) (size_of input) in
    parsed input _ _ _ _ _ (omega arith) (omega arith) (omega arith) refl size parts.0 c.job_for-job.ensures parts.1 parts.2
