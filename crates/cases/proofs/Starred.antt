-- Each starred case shows what document 01 says: one equation over the list of them, by computing both sides. In the same way the list of jobs
-- after a lost one shows what request 2 says, and twelve short jobs show the statuses that a job meets. Assumes nothing.
use mathlib.Core.Path.{refl}
use Rattle.address.specs.Matching.{calls_all, calls_own, call_of, match_of}
use Rattle.address.specs.Number.{bit_of, byte_of, address_of, direction_of}
use Rattle.cases.specs.AfterLost.{AfterLost, all_shown}
use Rattle.cases.specs.Statuses.{EachStatusMet, last_of}
use Rattle.cases.specs.Starred.{StarredCases, last_shown, countdown, pairs}
use Rattle.control.specs.Flags.{flags_of, weighs, reads_as}
use Rattle.control.specs.Turn.{kind, status_of, edge_of, called_of}
use Rattle.control.specs.Writing.{end_or, after_edge, responds_at, response}
use Rattle.controller.specs.Access.{indirect_at, bars_read, bars_write, read_sound, read_of, write_sound, write_of}
use Rattle.controller.specs.Condition.{own_start, other_start, other_stop, own_stop, addressed, address_byte}
use Rattle.controller.specs.Condition.{outbid, address_lost, data_lost, illegal_edge, data_held, clock_held, idle}
use Rattle.controller.specs.Event.{bad_argument, event_sound, event_of}
use Rattle.controller.specs.I2ccon.{keeps, controlled, bad_count, enabled, write_flags, write_control}
use Rattle.controller.specs.Record.{host_sound, move_sound, sound}
use Rattle.controller.specs.Registers.{wrote, write_pointer, read_data, write_data, at_pointer, stored, write_at_pointer}
use Rattle.controller.specs.Reply.{refuses, accepts, waits_for, interrupts_at, changes_status}
use Rattle.controller.specs.Reset.{reset_with, completes_reset, write_preset}
use Rattle.controller.specs.Transfer.{cursor, is_last, data_out, address_status, byte_out, acknowledges_last, received, data_in, slave_in, byte_in}
use Rattle.driver.specs.Run.{closes, breaks, sending, taking, run, hands_up, reports, declines, job_of}
use Rattle.notation.specs.Choice.{when◌then◌else◌, ◌and◌, ◌or◌, among}
use Rattle.runs.specs.Accesses.{status_seen, met}
use Rattle.service.specs.Act.{put, reads, fetch_one, fetch, read_times, does, does_all, follows, performs}
use Rattle.service.specs.JobSteps.{count_of}
use Rattle.service.specs.JobTable.{job_table}
use Rattle.service.specs.Progress.{starting}
use Rattle.service.specs.Request.{bad_length, bad_address, lent, malformed, ready}
use Rattle.service.specs.Serve.{starts, serve}

computed : StarredCases × AfterLost × EachStatusMet
unfolding when◌then◌else◌ ◌and◌ ◌or◌ among calls_all calls_own call_of match_of bit_of byte_of address_of direction_of flags_of weighs reads_as kind status_of
    edge_of called_of end_or after_edge responds_at response indirect_at bars_read bars_write read_sound read_of write_sound write_of own_start
    other_start other_stop own_stop addressed address_byte outbid address_lost data_lost illegal_edge data_held clock_held idle bad_argument
    event_sound event_of keeps controlled bad_count enabled write_flags write_control host_sound move_sound sound wrote write_pointer read_data
    write_data at_pointer stored write_at_pointer refuses accepts waits_for interrupts_at changes_status reset_with completes_reset write_preset cursor is_last
    data_out address_status byte_out acknowledges_last received data_in slave_in byte_in bad_length bad_address lent malformed ready closes breaks
    sending taking run starts hands_up reports declines job_of put reads count_of job_table starting fetch_one fetch read_times does does_all
    follows performs serve last_shown countdown pairs all_shown status_seen met last_of
computed = (refl, refl, (refl, refl))

pub starred : StarredCases
starred = computed.0

pub after-lost : AfterLost
after-lost = computed.1

pub each-status-met : EachStatusMet
each-status-met = computed.2
