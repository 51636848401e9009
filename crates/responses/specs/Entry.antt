-- Document 02, request 4: "Each entry names the next turn or the refusal .. codes that never occur have an entry of their own kind". What each
-- number in the table names.
use Rattle.std.specs.Prelude.{ℕ, eqb}
use Rattle.answer.specs.declared.Refusal.TheVariants.{Locked, Unlisted}
use Rattle.control.specs.declared.turn.Called.TheVariants.{Own, General}
use Rattle.control.specs.declared.turn.Turn.TheVariants.{Busy, Address, Send, Receive, SlaveReceive, SlaveSend, Stopping, Restarting}
use Rattle.notation.specs.Choice.{when◌then◌else◌}
use Rattle.responses.specs.declared.entry.Entry.TheVariants.{Never, Beside, Stays, Refused, Next}
use Rattle.responses.specs.declared.entry.Entry.{Entry}

-- 0 is `Never`, and so would be a number that the table does not hold. 4 and 5 are the refusals of those numbers.
unfoldable pub names : ℕ → Entry
names number =
    when eqb number 1 then Beside
    else when eqb number 2 then Stays
    else when eqb number 3 then Next Busy
    else when eqb number 4 then Refused Locked
    else when eqb number 5 then Refused Unlisted
    else when eqb number 6 then Next (SlaveReceive Own)
    else when eqb number 7 then Next (SlaveReceive General)
    else when eqb number 8 then Next SlaveSend
    else when eqb number 9 then Next Stopping
    else when eqb number 10 then Next Restarting
    else when eqb number 11 then Next Address
    else when eqb number 12 then Next Send
    else when eqb number 13 then Next Receive
    else Never
