-- Demand 3 of two virtual chips, as one statement, `Demand3OfCalls`, at the end of this file: what crates/noninterference/specs/OldBytes.antt says of two
-- records and the rules, said of 88 bytes each and of the library's calls on them. The proof is in proofs/OldBytesInCalls.antt.
use Rattle.std.specs.Prelude.{true, List, [], ◌∷◌, ◌≡◌, ℕ, ◌≤◌, length, take}
use Rattle.address.specs.Number.{bit_of}
use Rattle.address.specs.declared.number.Direction.TheVariants.{Read}
use Rattle.noninterference.specs.OldBytes.{GivenJob, Item, run_job, reset_pin, indptr, register2, i2ccon, anothers_start, anothers_stop, anothers_address}
use Rattle.perlovasta.specs.ChipIsController.{JobAsked, Asked, access, job, call_gives, bytes_after, calls_give}
use Rattle.runs.specs.OneRun.{carried}
use Rattle.virtual_chip.specs.RecordBytes.{is_record}

-- a write of a register, and an event, as they are asked of a chip
abbrev pub written : ℕ → ℕ → Asked
written register value = access (record { kind = 1; place = register; value = value })

abbrev pub happens : ℕ → ℕ → Asked
happens event argument = access (record { kind = 2; place = event; value = argument })

-- a job in numbers: "kind (0 write, 1 read), address, n"
abbrev pub in_numbers : GivenJob → JobAsked
in_numbers q = record {
  kind = bit_of q.job.direction;
  address = q.job.address.0;
  n = q.job.n;
  payload = q.payload;
  destination_length = q.destination_length;
  out_length = q.out_length;
  script = q.script;
}

-- an item of demand 3's list as a call
unfoldable pub asked_of : Item → Asked
asked_of (run_job q) = job (in_numbers q)
asked_of (reset_pin argument) = happens 14 argument
asked_of (indptr value) = written 0 value
asked_of (register2 value) = written 2 value
asked_of (i2ccon value) = written 3 value
asked_of (anothers_start argument) = happens 2 argument
asked_of (anothers_stop argument) = happens 3 argument
asked_of (anothers_address byte) = happens 5 byte

unfoldable pub all_asked : List Item → List Asked
all_asked [] = []
all_asked (i ∷ items) = asked_of i ∷ all_asked items

-- "the bytes handed up are exactly those the bus carried in that read, in the order it carried them": of one item; of what is no job there is nothing to say
abbrev pub CallCarries : ℕ → List ℕ → Item → Type 0
CallCarries report m (run_job q) = let given = call_gives report m (job (in_numbers q)) in
    given.answer ≡ 0 → q.job.direction ≡ Read → (given.handed ≡ carried q.script) × (length given.handed ≡ q.job.n)
CallCarries report m (reset_pin argument) = Unit {0}
CallCarries report m (indptr value) = Unit {0}
CallCarries report m (register2 value) = Unit {0}
CallCarries report m (i2ccon value) = Unit {0}
CallCarries report m (anothers_start argument) = Unit {0}
CallCarries report m (anothers_stop argument) = Unit {0}
CallCarries report m (anothers_address byte) = Unit {0}

-- of every item, each on the bytes that the call before left
abbrev pub CallsCarry : ℕ → List ℕ → List Item → Type 0
CallsCarry report m [] = Unit {0}
CallsCarry report m (i ∷ items) = CallCarries report m i × CallsCarry report (bytes_after report m (asked_of i)) items

-- Two virtual chips that are alike in all but the 68 places, which are bytes 20 to 87, given the same list: all that the callers are given is the same, from
-- the first on the list to the last; and a finished read hands up what the bus carried. (Each job is lent a report with room for its 12 bytes.)
abbrev pub Demand3OfCalls : Type 0
Demand3OfCalls = (report : ℕ) (items : List Item) (m m' : List ℕ) → 12 ≤ report → is_record m ≡ true → 88 ≤ length m' → take 20 m ≡ take 20 m' →
    (calls_give report m (all_asked items) ≡ calls_give report m' (all_asked items)) × CallsCarry report m items × CallsCarry report m' items
