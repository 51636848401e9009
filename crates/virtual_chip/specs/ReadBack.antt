-- What one call leaves in the bytes is what the next finds there. The proof is in proofs/ReadBack.antt; over a list of calls, jobs among them, it is
-- crates/perlovasta/specs/ChipIsController.antt.
use Rattle.std.specs.Prelude.{true, List, ◌≡◌, ℕ, ◌≤◌, length}
use Rattle.controller.specs.declared.record.Controller.{Controller}
use Rattle.notation.specs.Overlay.{laid}
use Rattle.virtual_chip.specs.RecordBytes.{bytes_of, is_record, record_of}

-- any record of 68 places, sound or not, over whatever the bytes held
abbrev pub ReadBack : Type 0
ReadBack = (c : Controller) (m : List ℕ) → length c.buffer ≡ 68 → 88 ≤ length m →
    (is_record (laid (bytes_of c) m) ≡ true) × (record_of (laid (bytes_of c) m) ≡ c)
