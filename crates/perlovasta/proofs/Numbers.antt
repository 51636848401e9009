-- The bytes of a number, one at a time, and how large a reason's number is. Assumes nothing.
use Rattle.std.proofs.Common.{◌^◌}
use Rattle.std.specs.Int.{w64, byte_at, bytes_low_first, to_le_bytes}
use mathlib.Core.List.{List, ◌∷◌}
use mathlib.Core.Path.{◌≡◌, refl, sym, ap, ◌∙◌}
use Prim.Native.Nat.{ℕ, zero, suc, ◌≤◌, ◌/◌, ◌%◌}
use native.Mathlib.Omega.{arith}
use Rattle.std.proofs.Math.Nat.{pow-suc, div-div-eq-div-mul}
use Rattle.control.specs.Reason.{reason_number}
use Rattle.control.specs.declared.reason.Reason.TheVariants.{NoneYet, CountReached, Nack, Outside, ArbitrationLost, Fault, Reset}
use Rattle.control.specs.declared.reason.Reason.{Reason}
use Rattle.control.specs.declared.turn.Called.TheVariants as called
use Rattle.control.specs.declared.turn.Edge.{Edge}
use Rattle.control.specs.declared.turn.Turn.TheVariants.{Off, Host, Free, Busy, Listen, Address, Send, Receive, SlaveReceive, SlaveSend, Stopping, Restarting}
use Rattle.control.specs.declared.turn.Turn.{Turn}
use Rattle.notation.specs.Choice.{when◌then◌else◌}
use Rattle.virtual_chip.specs.Numbers.{turn_number, slave_number}
use Rattle.perlovasta.specs.Log.{logged_turn}
use Rattle.perlovasta.specs.ReportBytes.{low_first}

-- the bytes that a word has, low byte first
byte_is : (i n : ℕ) → byte_at i n ≡ n / 256 ^ i % 256
byte_is zero n = omega arith
byte_is (suc i) n = refl

bytes_from : (i places n : ℕ) → bytes_low_first i places n ≡ low_first places (n / 256 ^ i)
unfolding low_first
bytes_from i zero n = refl
bytes_from i (suc places) n =
    let next : n / 256 ^ suc i ≡ n / 256 ^ i / 256 = ap (λ (d : ℕ). n / d) (pow-suc 256 i) ∙ sym (div-div-eq-div-mul n (256 ^ i) 256) in
    ap (λ (x : ℕ). x ∷ bytes_low_first (suc i) places n) (byte_is i n)
    ∙ ap (λ (xs : List ℕ). n / 256 ^ i % 256 ∷ xs) (bytes_from (suc i) places n ∙ ap (low_first places) next)

pub low_bytes : (n : ℕ) → to_le_bytes w64 n ≡ low_first 8 n
low_bytes n = let one : n / 256 ^ 0 ≡ n = omega arith in bytes_from 0 8 n ∙ ap (low_first 8) one

-- a reason's number has three bits
pub reason_small : (r : ℕ) (reason : Reason) → r ≡ reason_number reason → r ≤ 6
reason_small r NoneYet e = omega arith
reason_small r CountReached e = omega arith
reason_small r Nack e = omega arith
reason_small r Outside e = omega arith
reason_small r ArbitrationLost e = omega arith
reason_small r Fault e = omega arith
reason_small r Reset e = omega arith

-- of every turn but Host the number is logged
pub logged_other : (turn : Turn) → ((status : ℕ) (edge : Edge) → turn ≡ Host status edge → ⊥) → turn_number turn ≡ logged_turn turn
unfolding logged_turn turn_number slave_number when◌then◌else◌
logged_other (Host status edge) other = absurd (other status edge refl)
logged_other Off other = refl
logged_other Free other = refl
logged_other Busy other = refl
logged_other Listen other = refl
logged_other Address other = refl
logged_other Send other = refl
logged_other Receive other = refl
logged_other (SlaveReceive called.Own) other = refl
logged_other (SlaveReceive called.General) other = refl
logged_other SlaveSend other = refl
logged_other Stopping other = refl
logged_other Restarting other = refl
