-- Document 01, Refusals of an access or event: the number and value of each answer.
use Rattle.std.specs.Prelude.{ℕ, Result, Ok, Err}
use Rattle.answer.specs.declared.Refusal.TheVariants.{OutOfRange, BadArgument, OnTheWire, Locked, Unlisted, BadCount}
use Rattle.answer.specs.declared.Refusal.TheVariants.{BufferEnd, Unexpected, Inaccessible, Unsound}
use Rattle.answer.specs.declared.Refusal.{Refusal}

-- "No": 1 register over 3, or event not 1..14; 2 event argument; 3 wire turn; 4 I2CCON write at 00h, 70h or 78h; 5 not listed;
-- 6 BC not 1..68; 7 hand place at 68; 8 event not expected now; 9 register 2 at 07h or 05h; 10 the record isn't sound
abbrev pub refusal_number : Refusal → ℕ
refusal_number OutOfRange = 1
refusal_number BadArgument = 2
refusal_number OnTheWire = 3
refusal_number Locked = 4
refusal_number Unlisted = 5
refusal_number BadCount = 6
refusal_number BufferEnd = 7
refusal_number Unexpected = 8
refusal_number Inaccessible = 9
refusal_number Unsound = 10

-- an answer: accepted with a value, or refused
abbrev pub Answer : Type 0
Answer = Result ℕ Refusal

-- the number of an answer, 0 where it is accepted
unfoldable pub refusal_of : Answer → ℕ
refusal_of (Ok value) = 0
refusal_of (Err why) = refusal_number why

-- the value of an answer: "The value returned is 0" of a refusal
unfoldable pub value_of : Answer → ℕ
value_of (Ok value) = value
value_of (Err why) = 0
