-- Document 01, "Cases, those marked * proved": each case as the actions given to a fresh controller, one after the other, and what the last
-- of them shows.
use Rattle.std.specs.Prelude.{Bool, true, false, List, [], ◌∷◌, ◌++◌, map, ◌≡◌, ℕ, zero, suc, replicate}
use Rattle.address.specs.declared.number.Direction.TheVariants.{Write, Read}
use Rattle.address.specs.declared.number.Direction.{Direction}
use Rattle.control.specs.declared.turn.Edge.TheVariants.{Stop}
use Rattle.control.specs.declared.turn.Turn.TheVariants.{Busy, Address, Host}
use Rattle.control.specs.declared.turn.Turn.{Turn}
use Rattle.controller.specs.Access.{write_of}
use Rattle.controller.specs.Event.{event_of}
use Rattle.controller.specs.Reply.{Outcome}
use Rattle.controller.specs.Reset.{fresh}
use Rattle.controller.specs.declared.record.Controller.{Controller}
use Rattle.driver.specs.Run.{Report, job_of}

-- what is given to the controller
pub data Action : Type 0 where
  write : (register value : ℕ) → Action
  event : (number argument : ℕ) → Action
  -- a job with its data and script, a destination of 68 and an out record of 69 bytes
  job : (direction : Direction) (address n : ℕ) (payload script : List ℕ) → Action

-- what an action shows: of a write or event the refusal number and the turn after it; of a job the answer, count, events used, bytes sent,
-- bytes handed up and STA after it
pub data Shown : Type 0 where
  nothing : Shown
  accessed : (refused : ℕ) (turn : Turn) → Shown
  ran : (answer count events : ℕ) (sent handed : List ℕ) (sta : Bool) → Shown

pub record After : Type 0 where
  pub next : Controller
  pub shown : Shown

abbrev pub after_access : Outcome → After
after_access o = record { next = o.next; shown = accessed o.refused o.next.turn }

abbrev pub after_job : Report → After
after_job r = record {
  next = r.result.next;
  shown = ran r.result.answer r.result.count r.result.events r.sent r.handed r.result.next.control.sta;
}

abbrev pub act : Action → Controller → After
act (write register value) c = after_access (write_of c register value)
act (event number argument) c = after_access (event_of c number argument)
act (job direction address n payload script) c =
    after_job (job_of (record { direction = direction; address = record { 0 = address }; n = n }) payload 68 69 script c)

-- what the last action shows, each given the record that the one before left
unfoldable pub last_shown : List Action → Shown → Controller → Shown
last_shown [] shown c = shown
last_shown (a ∷ actions) shown c = last_shown actions (act a c).shown (act a c).next

pub record Case : Type 0 where
  pub given : List Action
  pub shows : Shown

-- what a case shows by the rules
abbrev pub shown_by_rules : Case → Shown
shown_by_rules k = last_shown k.given nothing fresh

-- so many bytes, no two alike: n, n - 1 and so on, down to 1
unfoldable pub countdown : ℕ → List ℕ
countdown zero = []
countdown (suc n) = suc n ∷ countdown n

-- this event with each of these arguments
unfoldable pub pairs : ℕ → List ℕ → List ℕ
pairs number [] = []
pairs number (argument ∷ arguments) = number ∷ argument ∷ pairs number arguments

-- a fresh controller is enabled by 40h
abbrev enable : Action
enable = write 3 0x40

-- a) "read of 1 from 50h, pairs 01 00, 06 00, 07 5C, 04 00: answer 0, out A1, in 5C, events 4"
abbrev pub case_a : Case
case_a = record {
  given = enable ∷ job Read 0x50 1 [] (0x01 ∷ 0x00 ∷ 0x06 ∷ 0x00 ∷ 0x07 ∷ 0x5C ∷ 0x04 ∷ 0x00 ∷ []) ∷ [];
  shows = ran 0 1 4 (0xA1 ∷ []) (0x5C ∷ []) false;
}

-- b) "the same with 06 01 and then 04 00: 23, in empty, events 3"
abbrev pub case_b : Case
case_b = record {
  given = enable ∷ job Read 0x50 1 [] (0x01 ∷ 0x00 ∷ 0x06 ∷ 0x01 ∷ 0x04 ∷ 0x00 ∷ []) ∷ [];
  shows = ran 23 0 3 (0xA1 ∷ []) [] false;
}

-- c) "write of 2, first data NACKed: 24, count 1"
abbrev pub case_c : Case
case_c = record {
  given = enable ∷ job Write 0x50 2 (0x11 ∷ 0x22 ∷ []) (0x01 ∷ 0x00 ∷ 0x06 ∷ 0x00 ∷ 0x06 ∷ 0x01 ∷ 0x04 ∷ 0x00 ∷ []) ∷ [];
  shows = ran 24 1 4 (0xA0 ∷ 0x11 ∷ []) [] false;
}

-- d) "n 68 can be done": a read, and a write, of 68 different bytes
abbrev pub case_d_read : Case
case_d_read = record {
  given = enable ∷ job Read 0x50 68 [] (0x01 ∷ 0x00 ∷ 0x06 ∷ 0x00 ∷ (pairs 0x07 (countdown 68) ++ (0x04 ∷ 0x00 ∷ []))) ∷ [];
  shows = ran 0 68 71 (0xA1 ∷ []) (countdown 68) false;
}

abbrev pub case_d_write : Case
case_d_write = record {
  given = enable ∷ job Write 0x50 68 (countdown 68) (0x01 ∷ 0x00 ∷ 0x06 ∷ 0x00 ∷ (pairs 0x06 (replicate 68 0x00) ++ (0x04 ∷ 0x00 ∷ []))) ∷ [];
  shows = ran 0 68 71 (0xA0 ∷ countdown 68) [] false;
}

-- e) "n 0" and f) "n 69 are 21": the data are lent, so that n alone is wrong
abbrev pub case_e : Case
case_e = record { given = enable ∷ job Write 0x50 0 [] [] ∷ []; shows = ran 21 0 0 [] [] false }

abbrev pub case_f : Case
case_f = record { given = enable ∷ job Write 0x50 69 (replicate 69 0x33) [] ∷ []; shows = ran 21 0 0 [] [] false }

-- g) "empty script: 27, STA left 1"
abbrev pub case_g : Case
case_g = record { given = enable ∷ job Read 0x50 1 [] [] ∷ []; shows = ran 27 0 0 [] [] true }

-- h) "BC 0 refused 6": I2CCOUNT 00h, and 41h at 18h
abbrev pub case_h : Case
case_h = record {
  given = write 2 0x00 ∷ write 3 0x60 ∷ event 1 0 ∷ write 1 0xA0 ∷ write 3 0x40 ∷ event 6 0 ∷ write 3 0x41 ∷ [];
  shows = accessed 6 (Host 0x18 Stop);
}

-- i) "address byte 00h with GC 0 gives Busy": I2CADR E0h, AA 1
abbrev pub case_i : Case
case_i = record { given = write 3 0xC0 ∷ event 2 0 ∷ event 5 0x00 ∷ []; shows = accessed 0 Busy }

-- j) "01h with own address 0 gives Busy": I2CADR 01h, so that GC is 1 and 01h would show if it were taken for a General Call; AA 1
abbrev pub case_j : Case
case_j = record { given = write 0 0x01 ∷ write 2 0x01 ∷ write 3 0xC0 ∷ event 2 0 ∷ event 5 0x01 ∷ []; shows = accessed 0 Busy }

-- k) "event 8 with an equal byte is refused 8": A0h is the byte in Address
abbrev pub case_k : Case
case_k = record {
  given = write 3 0x60 ∷ event 1 0 ∷ write 1 0xA0 ∷ write 3 0x40 ∷ event 8 0xA0 ∷ [];
  shows = accessed 8 Address;
}

-- all of them, in one list
abbrev pub starred_cases : List Case
starred_cases =
    case_a ∷ case_b ∷ case_c ∷ case_d_read ∷ case_d_write ∷ case_e ∷ case_f ∷ case_g ∷ case_h ∷ case_i ∷ case_j ∷ case_k ∷ []

-- the one statement: each shows what the paper says
abbrev pub StarredCases : Type 0
StarredCases = map shown_by_rules starred_cases ≡ map (λ (k : Case). k.shows) starred_cases
