-- What is known of a job that is not answered 21. Assumes nothing.
use mathlib.Core.Bool.{false}
use mathlib.Core.Path.{◌≡◌, sym, ap, ◌∙◌}
use Prim.Native.Nat.{ℕ, ◌≤◌}
use native.Mathlib.Omega.{arith}
use borrow.Author.Tests.{eqb-false, ltb-false}
use lib.Dec.{ltb}
use Rattle.address.specs.declared.number.Direction.TheVariants.{Write, Read}
use Rattle.address.specs.declared.number.Direction.{Direction}
use Rattle.notation.proofs.Cases.{or-left-off, or_right_off}
use Rattle.service.specs.Request.{bad_length, lent, malformed}
use Rattle.service.specs.declared.job.Job.{Job}

-- its length is one of 1 to 68, and what the caller lent (data, destination, out record) is long enough
pub record Formed (job : Job) (given room places : ℕ) : Type 0 where
  pub low : 1 ≤ job.n
  pub high : job.n ≤ 68
  pub data_lent : job.direction ≡ Write → job.n ≤ given
  pub destination_lent : job.direction ≡ Read → job.n ≤ room
  pub out_lent : 69 ≤ places

module _ (given room n : ℕ) where
  write-lent : (d : Direction) → d ≡ Write → ltb (lent d given room) n ≡ false → n ≤ given
  unfolding lent
  write-lent d e h = ltb-false given n (ap (λ (x : Direction). ltb (lent x given room) n) (sym e) ∙ h)

  read-lent : (d : Direction) → d ≡ Read → ltb (lent d given room) n ≡ false → n ≤ room
  unfolding lent
  read-lent d e h = ltb-false room n (ap (λ (x : Direction). ltb (lent x given room) n) (sym e) ∙ h)

pub formed : (job : Job) (given room places bytes : ℕ) → malformed job given room places bytes ≡ false → Formed job given room places
unfolding malformed bad_length
formed job given room places bytes e =
    let n = or-left-off _ _ e in
    let after = or_right_off _ _ (or_right_off _ _ e) in
    let zero = eqb-false job.n 0 (or-left-off _ _ n) in
    record {
      low = omega (arith, zero);
      high = ltb-false 68 job.n (or_right_off _ _ n);
      data_lent = λ w. write-lent given room job.n job.direction w (or-left-off _ _ after);
      destination_lent = λ r. read-lent given room job.n job.direction r (or-left-off _ _ after);
      out_lent = ltb-false places 69 (or-left-off _ _ (or_right_off _ _ after));
    }
