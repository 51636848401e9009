-- What is printed of the out record and of the destination is what the job sent and handed up. Assumes nothing.
use mathlib.Core.List.{List}
use mathlib.Core.Path.{◌≡◌, sym, ap, ◌∙◌}
use Prim.Native.Nat.{ℕ, ◌≤◌}
use native.Mathlib.Omega.{arith}
use lib.ListN.{length, take, replicate}
use Rattle.answer.specs.Ending.{number_of}
use Rattle.console.specs.JobText.{job_text, report_text}
use Rattle.controller.specs.declared.record.Controller.{Controller}
use Rattle.driver.specs.Run.{Report, Result, result_of, job_of}
use Rattle.driver.specs.declared.result.JobResult.{JobResult}
use Rattle.notation.specs.Overlay.{laid}
use Rattle.runs.proofs.Fits.{always-fits, begins_with}
use Rattle.runs.proofs.HandsUpSoMany.{hands_up_so_many}
use Rattle.runs.specs.OneRun.{handed_count, Fits}
use Rattle.service.specs.declared.job.Job.{Job}

-- the first so many of a lent buffer, where so many bytes were laid over it
first-bytes : (bytes lent now : List ℕ) (n : ℕ) → n ≡ length bytes → length bytes ≤ length lent → now ≡ laid bytes lent → take n now ≡ bytes
first-bytes bytes lent now n e h l = ap (λ (k : ℕ). take k now) e ∙ ap (take (length bytes)) l ∙ begins_with bytes lent h

module _ (job : Job) (payload script : List ℕ) (c : Controller) (places : length c.buffer ≡ 68) where
  abbrev gives : Report
  gives = job_of job payload 68 69 script c

  fits : Fits 68 69 gives
  fits = always-fits job payload 68 69 script c places

  -- what `run_job` promised
  module _ (result : JobResult) (told : result_of result ≡ gives.result) (sent : result.sent ≡ length gives.sent) where
    pub sent-fits : result.sent ≤ 69
    sent-fits = omega (arith, sent, fits.sent)

    pub sent-bytes : (out : List ℕ) → out ≡ laid gives.sent (replicate 69 0) → take result.sent out ≡ gives.sent
    sent-bytes out e = first-bytes gives.sent (replicate 69 0) out result.sent sent fits.sent e

    module _ (handed : ℕ) (counted : handed ≡ handed_count job (number_of result.ending)) where
      handed_as : handed ≡ length gives.handed
      unfolding result_of
      handed_as = counted ∙ ap (λ (r : Result). handed_count job r.answer) told ∙ sym (hands_up_so_many job payload 68 69 script c places)

      pub handed-fits : handed ≤ 68
      handed-fits = omega (arith, handed_as, fits.handed)

      pub handed-bytes : (destination : List ℕ) → destination ≡ laid gives.handed (replicate 68 0) → take handed destination ≡ gives.handed
      handed-bytes destination e = first-bytes gives.handed (replicate 68 0) destination handed handed_as fits.handed e

    pub same_text : (sent handed : List ℕ) → sent ≡ gives.sent → handed ≡ gives.handed → job_text (result_of result) sent handed ≡ report_text gives
    same_text sent handed s h = cc
