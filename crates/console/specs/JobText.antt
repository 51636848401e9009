-- Document 01, Jobs, the program: the three lines printed of a job.
use Rattle.std.specs.Prelude.{List, [], ◌++◌, ℕ, eqb, codes}
use Rattle.text.specs.Text.{decimal_of, listed}
use Rattle.driver.specs.Run.{Result, Report as JobReport}
use Rattle.notation.specs.Choice.{when◌then◌else◌}

-- The words.
abbrev pub answer_word : List ℕ
answer_word = codes "answer "

abbrev pub count_word : List ℕ
count_word = codes " count "

abbrev pub events_word : List ℕ
events_word = codes " events "

abbrev pub refused_word : List ℕ
refused_word = codes " refused "

abbrev pub out_word : List ℕ
out_word = codes "out"

abbrev pub in_word : List ℕ
in_word = codes "in"

-- the end of a line
abbrev pub newline : List ℕ
newline = codes "\n"

-- a number in decimal; those printed are below 2^64, and 20 digits are enough
abbrev pub number : ℕ → List ℕ
number n = decimal_of 20 n

-- "For 28 the first line ends as in ` refused 8`."
unfoldable pub beside : ℕ → ℕ → List ℕ
beside answer refused = when eqb answer 28 then refused_word ++ number refused else []

-- `answer 0 count 2 events 5`
unfoldable pub first_line : Result → List ℕ
first_line r =
    answer_word ++ (number r.answer ++ (count_word ++ (number r.count ++ (events_word ++ (number r.events ++
    (beside r.answer r.refused ++ newline))))))

-- `out A0 11 22` and `in`, each byte with a space before it
unfoldable pub bytes_line : List ℕ → List ℕ → List ℕ
bytes_line word bytes = word ++ (listed bytes ++ newline)

-- the three lines
unfoldable pub job_text : Result → List ℕ → List ℕ → List ℕ
job_text r sent handed = first_line r ++ (bytes_line out_word sent ++ bytes_line in_word handed)

-- the three lines of a job's report
abbrev pub report_text : JobReport → List ℕ
report_text r = job_text r.result r.sent r.handed
