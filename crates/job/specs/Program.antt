-- Document 01, Jobs, the program: what it prints of its input.
use Rattle.std.specs.Prelude.{◌≡◌, Bool, false, List, ℕ, ◌+◌, eqb, ltb, length, get_or, take, drop}
use Rattle.console.specs.JobText.{report_text}
use Rattle.driver.specs.Run.{Report, declines, job_of}
use Rattle.service.specs.declared.job.Job.{Job}
use Rattle.notation.specs.Choice.{when◌then◌else◌, ◌or◌}
use Rattle.requests.specs.Jobs.{fresh_enabled, job_for}

-- "The program's input: kind (0 write, 1 read), address, n, data for a write, script"
abbrev pub kind_of : List ℕ → ℕ
kind_of input = get_or input 0 0

abbrev pub size_of : List ℕ → ℕ
size_of input = get_or input 2 0

abbrev pub job_in : List ℕ → Job
job_in input = job_for (kind_of input) (get_or input 1 0) (size_of input)

-- the data, for a write: so many bytes
unfoldable pub data_size : List ℕ → ℕ
data_size input = when eqb (kind_of input) 0 then size_of input else 0

-- "over 4,096 bytes, cut short or of another kind is 21"
unfoldable pub bad_input : List ℕ → Bool
bad_input input =
    ltb 4096 (length input) or ltb (length input) 3 or ltb 1 (kind_of input) or ltb (length input) (3 + data_size input)

-- what is taken of an input that is not bad
pub record IsParsed (input : List ℕ) (asked : Job) (payload script : List ℕ) : Type 0 where
  pub fine : bad_input input ≡ false
  pub job : asked ≡ job_in input
  pub sent : payload ≡ take (data_size input) (drop 3 input)
  pub rest : script ≡ drop (3 + data_size input) input

-- what the input's job gives, with a destination of 68 and an out record of 69 bytes
unfoldable pub program_report : List ℕ → Report
program_report input =
    when bad_input input then declines fresh_enabled 21
    else job_of (job_in input) (take (data_size input) (drop 3 input)) 68 69 (drop (3 + data_size input) input) fresh_enabled

-- what is printed
unfoldable pub program_text : List ℕ → List ℕ
program_text input = report_text (program_report input)
