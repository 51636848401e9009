-- Document 01, Jobs, the table of answers: the number of each, and the number beside it.
use Rattle.std.specs.Prelude.{ℕ}
use Rattle.answer.specs.Refusal.{refusal_number}
use Rattle.answer.specs.declared.ending.Ending.TheVariants.{Done, Malformed, NotReady, AddressNacked, DataNacked, Lost, Fault}
use Rattle.answer.specs.declared.ending.Ending.TheVariants.{Unfinished, Refused, Reset}
use Rattle.answer.specs.declared.ending.Ending.{Ending}

-- "0 done, after own STOP", "21 n not 1..68 ..", "22 turn not Free ..", "23 address NACKed", "24 30h", "25 38h", "26 00h, 70h, 78h",
-- "27 script ended first", "28 the model refused the event", "29 event 14 came"
abbrev pub number_of : Ending → ℕ
number_of Done = 0
number_of Malformed = 21
number_of NotReady = 22
number_of AddressNacked = 23
number_of DataNacked = 24
number_of Lost = 25
number_of Fault = 26
number_of Unfinished = 27
number_of (Refused why) = 28
number_of Reset = 29

-- 28: "its number beside it (0 for every other answer)"
abbrev pub beside_of : Ending → ℕ
beside_of Done = 0
beside_of Malformed = 0
beside_of NotReady = 0
beside_of AddressNacked = 0
beside_of DataNacked = 0
beside_of Lost = 0
beside_of Fault = 0
beside_of Unfinished = 0
beside_of (Refused why) = refusal_number why
beside_of Reset = 0
