-- What a job sends and hands up fits into what was lent: "The out record begins with those and its rest stays." Assumes nothing.
use mathlib.Core.Bool.{true, false, false≢true}
use mathlib.Core.List.{List}
use mathlib.Core.Path.{◌≡◌, refl, ap, ◌∙◌}
use Prim.Native.Nat.{ℕ, ◌≤◌}
use native.Mathlib.Omega.{arith}
use lib.Dec.{eqb}
use lib.ListN.{length, take, drop, length-take}
use lib.Seq.{take-append_seam}
use Rattle.address.specs.Number.{bit_of}
use Rattle.address.specs.declared.number.Direction.TheVariants.{Write, Read}
use Rattle.address.specs.declared.number.Direction.{Direction}
use Rattle.controller.specs.declared.record.Controller.{Controller}
use Rattle.driver.specs.Run.{run, hands_up, reports, declines, job_of}
use Rattle.notation.proofs.Cases.{and_right, split}
use Rattle.notation.specs.Choice.{◌and◌}
use Rattle.notation.proofs.Laid.{laid-whole}
use Rattle.notation.specs.Overlay.{laid}
use Rattle.runs.proofs.Facts.{facts}
use Rattle.runs.proofs.Invariant.{limit}
use Rattle.runs.specs.OneRun.{Fits, AlwaysFits}
use Rattle.service.proofs.Formed.{formed}
use Rattle.service.specs.JobSteps.{begins}
use Rattle.service.specs.JobTable.{job_table}
use Rattle.service.specs.Request.{malformed, ready}
use Rattle.service.specs.Serve.{starts}
use Rattle.service.specs.declared.job.Job.{Job}

-- the bytes sent, at most 69
limit-high : (d : Direction) (n : ℕ) → n ≤ 68 → limit d n ≤ 69
limit-high Write n h = omega (arith, h)
limit-high Read n h = omega arith

taken-short : (n : ℕ) (xs : List ℕ) → length (take n xs) ≤ n
taken-short n xs = let e = length-take n xs in omega (arith, e)

-- only a read answered 0 hands up
pub read-bit : (d : Direction) → eqb (bit_of d) 1 ≡ true → d ≡ Read
unfolding bit_of
read-bit Write e = absurd (false≢true e)
read-bit Read e = refl

handed-short : (job : Job) (answer : ℕ) (xs : List ℕ) (room : ℕ) → (job.direction ≡ Read → job.n ≤ room) →
    length (hands_up job answer xs) ≤ room
unfolding hands_up
handed-short job answer xs room h =
    split (λ (l : List ℕ). length l ≤ room) (eqb answer 0 and eqb (bit_of job.direction) 1) _ _
    (λ b. let s = taken-short job.n xs in let w = h (read-bit job.direction (and_right _ _ b)) in omega (arith, s, w)) (λ b. omega arith)

module _ (job : Job) (payload : List ℕ) (room places : ℕ) (script : List ℕ) (c : Controller) (l : length c.buffer ≡ 68) where
  declined : (answer : ℕ) → Fits room places (declines c answer)
  unfolding declines
  declined answer = record { sent = omega arith; handed = omega arith; few = omega arith }

  worked : malformed job (length payload) room places (length script) ≡ false → ready c ≡ true →
      Fits room places (reports job (run (job_table job payload) (starts (begins job) c) script))
  unfolding reports
  worked m r =
      let form = formed job (length payload) room places (length script) m in
      let f = (facts job payload script room places c m r l).fits in
      let h = limit-high job.direction job.n form.high in
      let w = form.out_lent in
      record {
        sent = omega (arith, f, h, w);
        handed = handed-short job _ _ room form.destination_lent;
        few = omega (arith, f, h);
      }

-- Whatever the job, script and record, its bytes fit.
pub always-fits : AlwaysFits
unfolding job_of
always-fits job payload room places script c l =
    let P = Fits room places in
    let no = declined job payload room places script c l in
    split P _ _ _ (λ _. no 21) (λ m. split P _ _ _ (λ r. worked job payload room places script c l m r) (λ _. no 22))

-- the first bytes of a lent buffer over which bytes that fit were laid are these
pub begins_with : (bytes lent : List ℕ) → length bytes ≤ length lent → take (length bytes) (laid bytes lent) ≡ bytes
begins_with bytes lent h =
    ap (take (length bytes)) (laid-whole bytes lent h) ∙ take-append_seam bytes (drop (length bytes) lent)
