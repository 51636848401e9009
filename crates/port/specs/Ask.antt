-- What the port asks of the board: one register access, a wait, a pause, or nothing any more.
use Rattle.std.specs.Prelude.{Bool, true, false, ℕ, ◌+◌, ◌*◌}
use Rattle.port.specs.declared.ask.Ask.TheVariants.{Write, Read, Wait, Pause, Over}
use Rattle.port.specs.declared.ask.Ask.{Ask}
use Rattle.service.specs.Act.{Act, writes, reads_data, reads_all, reads_count, counts}

-- the access of an act. (The two that are no single access do not occur here, since `accesses` has none of them: any value would do.)
unfoldable pub ask_for : Act → Ask
ask_for (writes register value) = Write register value
ask_for (reads_data at) = Read 1
ask_for reads_all = Wait
ask_for reads_count = Read 2
ask_for (counts count) = Wait

-- a step as one number: its kind, 256 times the register or the answer, 65536 times the value or the count
unfoldable pub ask_number : Ask → ℕ
ask_number (Write register value) = 1 + 256 * register + 65536 * value
ask_number (Read register) = 2 + 256 * register
ask_number Wait = 3
ask_number Pause = 4
ask_number (Over answer count) = 5 + 256 * answer + 65536 * count

-- no register access is asked for
unfoldable pub no_access : Ask → Bool
no_access (Write register value) = false
no_access (Read register) = false
no_access Wait = true
no_access Pause = true
no_access (Over answer count) = true
