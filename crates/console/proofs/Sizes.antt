-- How long the text of a job is: the 1,024 bytes that the programs lend for it are enough. Assumes nothing.
use mathlib.Core.List.{List, [], ◌∷◌, ◌++◌}
use mathlib.Core.Path.{◌≡◌}
use Prim.Native.Nat.{ℕ, zero, suc, ◌+◌, ◌*◌, ◌≤◌, ◌/◌, ◌%◌}
use native.Mathlib.Omega.{arith}
use lib.Dec.{eqb, ltb}
use lib.ListN.{length, length-append}
use Rattle.console.specs.JobText.{answer_word, count_word, events_word, refused_word, out_word, in_word}
use Rattle.console.specs.JobText.{newline, number, beside, first_line, bytes_line, job_text, report_text}
use Rattle.text.specs.Text.{digit, hex_of, decimal_of, listed}
use Rattle.controller.specs.declared.record.Controller.{Controller}
use Rattle.driver.specs.Run.{Result, Report, job_of}
use Rattle.service.specs.declared.job.Job.{Job}
use Rattle.notation.proofs.Cases.{split}
use Rattle.runs.proofs.Fits.{always-fits}

-- a text of at most so many bytes, and two of them one after the other
both : (xs ys : List ℕ) (m n : ℕ) → length xs ≤ m → length ys ≤ n → length (xs ++ ys) ≤ m + n
both xs ys m n h k = let e = length-append xs ys in omega (arith, e, h, k)

decimal_size : (places n : ℕ) → length (decimal_of places n) ≤ places
unfolding decimal_of
decimal_size zero n = omega arith
decimal_size (suc places) n =
    split (λ (l : List ℕ). length l ≤ suc places) (ltb n 10) _ _ (λ _. omega arith)
    (λ _. let e = length-append (decimal_of places (n / 10)) (digit (n % 10) ∷ []) in let h = decimal_size places (n / 10) in omega (arith, e, h))

listed-size : (bytes : List ℕ) → length (listed bytes) ≡ 3 * length bytes
unfolding listed hex_of
listed-size [] = omega arith
listed-size (b ∷ bytes) = let e = listed-size bytes in omega (arith, e)

beside-size : (answer refused : ℕ) → length (beside answer refused) ≤ 29
unfolding beside
beside-size answer refused =
    let refusal = both refused_word (number refused) 9 20 (omega arith) (decimal_size 20 refused) in
    split (λ (l : List ℕ). length l ≤ 29) (eqb answer 28) _ _ (λ _. refusal) (λ _. omega arith)

first-size : (r : Result) → length (first_line r) ≤ 112
unfolding first_line
first-size r =
    let e = beside r.answer r.refused ++ newline in
    let d = number r.events ++ e in
    let c = events_word ++ d in
    let b = number r.count ++ c in
    let a = count_word ++ b in
    both answer_word (number r.answer ++ a) 7 105 (omega arith) (both (number r.answer) a 20 85 (decimal_size 20 r.answer)
    (both count_word b 7 78 (omega arith) (both (number r.count) c 20 58 (decimal_size 20 r.count)
    (both events_word d 8 50 (omega arith) (both (number r.events) e 20 30 (decimal_size 20 r.events)
    (both (beside r.answer r.refused) newline 29 1 (beside-size r.answer r.refused) (omega arith)))))))

line-size : (word bytes : List ℕ) → length (bytes_line word bytes) ≡ length word + (3 * length bytes + 1)
unfolding bytes_line
line-size word bytes =
    let a = length-append word (listed bytes ++ newline) in
    let b = length-append (listed bytes) newline in
    let c = listed-size bytes in
    omega (arith, a, b, c)

pub text_size : (r : Report) → length r.sent ≤ 69 → length r.handed ≤ 68 → length (report_text r) ≤ 1024
unfolding job_text
text_size r s h =
    let a = length-append (first_line r.result) (bytes_line out_word r.sent ++ bytes_line in_word r.handed) in
    let b = length-append (bytes_line out_word r.sent) (bytes_line in_word r.handed) in
    let x = line-size out_word r.sent in
    let y = line-size in_word r.handed in
    let z = first-size r.result in
    omega (arith, a, b, x, y, z, s, h)

-- Whatever the job, its text has at most 1,024 bytes.
pub text_fits : (job : Job) (payload script : List ℕ) (c : Controller) → length c.buffer ≡ 68 → length (report_text (job_of job payload 68 69 script c)) ≤ 1024
text_fits job payload script c l =
    let f = always-fits job payload 68 69 script c l in
    text_size (job_of job payload 68 69 script c) f.sent f.handed
