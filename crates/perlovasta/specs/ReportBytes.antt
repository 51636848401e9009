-- The library's report of a job (document 01, Jobs: "Beside it: events used .., and the bytes sent").
use Rattle.std.specs.Prelude.{List, [], ◌∷◌, ℕ, zero, suc, ◌/◌, ◌%◌, length}
use Rattle.driver.specs.Run.{Result, Report}

-- a number as so many bytes, low byte first
unfoldable pub low_first : ℕ → ℕ → List ℕ
low_first zero n = []
low_first (suc places) n = n % 256 ∷ low_first places (n / 256)

abbrev pub report_size : ℕ
report_size = 12

-- 12 bytes: the answer, the number beside it, the count, how many bytes were sent, and the events used
unfoldable pub report_bytes : Result → ℕ → List ℕ
report_bytes r sent = r.answer ∷ r.refused ∷ r.count ∷ sent ∷ low_first 8 r.events

abbrev pub report_of_job : Report → List ℕ
report_of_job r = report_bytes r.result (length r.sent)
