-- `tell_job` runs the job, and puts its lines: what it prints of the two buffers is what the job sent and handed up.
use mathlib.Core.Path.{◌≡◌, sym, ap}
use native.Mathlib.Omega.{arith}
use borrow.Author.Rules.{rules}
use Prim.Native.Nat.{◌≤◌}
use lib.ListN.{length}
use lib.Seq.{length-take-le}
use Rattle.console.proofs.Printed.{sent-fits, sent-bytes, handed-fits, handed-bytes, same_text}
use Rattle.driver.specs.Run.{Result, result_of}
use Rattle.text.proofs.Holds.{said}
use Rattle.console.proofs.tell.tell_job.Goals as goal

pub slice_bounds-out-end : goal.slice_bounds-out-end
slice_bounds-out-end c =
    let s = c.args in
    let places : length c.args.c.buffer ≡ 68 = search rules in
    let ran = c.run_job-ran in
    let told = ran.ensures in
    omega (arith, sent-fits s.job s.payload.now s.script.now s.c places ran.result told.result told.number, ran.auto)

pub slice_bounds-put_job-end : goal.slice_bounds-put_job-end
slice_bounds-put_job-end c =
    let s = c.args in
    let ran = c.run_job-ran in
    let places : length c.args.c.buffer ≡ 68 = search rules in
    let fits : ran.result.sent ≤ length ran.new.out =
    omega (arith, sent-fits s.job s.payload.now s.script.now s.c places ran.result ran.ensures.result ran.ensures.number, ran.auto) in
    sym (length-take-le _ _ fits)

pub slice_bounds-destination-end : goal.slice_bounds-destination-end
slice_bounds-destination-end c =
    let s = c.args in
    let places : length c.args.c.buffer ≡ 68 = search rules in
    let ran = c.run_job-ran in
    let told = ran.ensures in
    let counted = c.count_handed-handed.ensures in
    let fits = handed-fits s.job s.payload.now s.script.now s.c places ran.result told.result told.number _ counted in
    omega (arith, fits, ran.auto)

pub slice_bounds-put_job-end-2 : goal.slice_bounds-put_job-end-2
slice_bounds-put_job-end-2 c =
    let s = c.args in
    let ran = c.run_job-ran in
    let places : length c.args.c.buffer ≡ 68 = search rules in
    let counted = c.count_handed-handed.ensures in
    let handed = handed-fits s.job s.payload.now s.script.now s.c places ran.result ran.ensures.result ran.ensures.number _ counted in
    let fits : c.count_handed-handed.result ≤ length ran.new.destination = omega (arith, handed, ran.auto) in
    sym (length-take-le _ _ fits)

pub returns : goal.returns
unfolding result_of
returns c =
    let job = c.args.job in
    let payload = c.args.payload.now in
    let script = c.args.script.now in
    let start = c.args.c in
    let places : length c.args.c.buffer ≡ 68 = search rules in
    let ran = c.run_job-ran in
    let told = ran.ensures.result in
    let number = ran.ensures.number in
    let sent = sent-bytes job payload script start places ran.result told number _ ran.ensures.sent in
    let handed = handed-bytes job payload script start places ran.result told number _ c.count_handed-handed.ensures _ ran.ensures.handed in record {
      next = ap (λ (r : Result). r.next) told;
      lines = said _ _ _ _ (same_text job payload script start places ran.result told number _ _ sent handed) c.put_job-end.ensures;
    }
