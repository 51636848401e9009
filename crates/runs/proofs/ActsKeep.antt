-- What acts leave of the record: any part that neither the hand place nor the registers that they write are in. Assumes nothing.
use mathlib.Core.Bool.{Bool, true, false}
use mathlib.Core.List.{List, [], ◌∷◌, ◌++◌, map}
use mathlib.Core.Path.{◌≡◌, refl, ap, subst, ◌∙◌}
use Prim.Native.Nat.{ℕ, zero, suc, ◌+◌}
use borrow.Author.Tests.{eqb-true}
use lib.Dec.{T, eqb}
use Rattle.controller.specs.Access.{read_sound, read_of, write_of}
use Rattle.controller.specs.Registers.{read_data}
use Rattle.controller.specs.Reply.{Outcome, refuses, accepts}
use Rattle.controller.specs.Setters.{with_hand}
use Rattle.controller.specs.declared.record.Controller.{Controller}
use Rattle.notation.proofs.Among.{has}
use Rattle.notation.proofs.Cases.{split}
use Rattle.notation.specs.Choice.{when◌then◌else◌}
use Rattle.service.specs.Act.{Act, writes, reads_data, reads_all, reads_count, counts, Then, goes_on, awaits, ends, finishes}
use Rattle.service.specs.Act.{put, fetch_one, fetch, read_times, does, does_all, follows}
use Rattle.service.specs.declared.progress.Progress.{Progress}

-- an act that writes one of these registers, or none
abbrev pub Writes : List ℕ → Act → Type 0
Writes registers (writes register value) = T (has registers register)
Writes registers (reads_data at) = Unit {0}
Writes registers reads_all = Unit {0}
Writes registers reads_count = Unit {0}
Writes registers (counts count) = Unit {0}

abbrev pub AllWrite : List ℕ → List Act → Type 0
AllWrite registers [] = Unit {0}
AllWrite registers (x ∷ xs) = Writes registers x × AllWrite registers xs

pub both-write : (registers : List ℕ) (xs ys : List Act) → AllWrite registers xs → AllWrite registers ys → AllWrite registers (xs ++ ys)
both-write registers [] ys t u = u
both-write registers (x ∷ xs) ys t u = (t.0, both-write registers xs ys t.1 u)

pub data_writes : (registers xs : List ℕ) → T (has registers 1) → AllWrite registers (map (writes 1) xs)
data_writes registers [] t = tt
data_writes registers (x ∷ xs) t = (t, data_writes registers xs t)

module _ {A : Type 0} (part : Controller → A) where
  -- an outcome that leaves it
  pub record Kept (c : Controller) (o : Outcome) : Type 0 where
    pub kept : part o.next ≡ part c

  pub refused : (c : Controller) (n : ℕ) → Kept c (refuses c n)
  unfolding refuses
  refused c n = record { kept = refl }

  pub accepted : (c d : Controller) (v : ℕ) → part d ≡ part c → Kept c (accepts d v)
  unfolding accepts
  accepted c d v e = record { kept = e }

  pub chosen : (c : Controller) (b : Bool) (x y : Outcome) → (b ≡ true → Kept c x) → (b ≡ false → Kept c y) → Kept c (when b then x else y)
  chosen c b x y f g = split (Kept c) b x y f g

  -- the register is another
  pub not_this : (c : Controller) (registers : List ℕ) (register k : ℕ) (o : Outcome) → T (has registers register) → eqb register k ≡ true →
      has registers k ≡ false → Kept c o
  not_this c registers register k o t e n = absurd (subst T (ap (has registers) (eqb-true register k e) ∙ n) t)

  module _ (hand : (c : Controller) (x : ℕ) → part (with_hand c x) ≡ part c) where
    read_keeps : (c : Controller) (register : ℕ) → Kept c (read_of c register)
    unfolding read_of read_sound read_data
    read_keeps c register = search (refused, accepted, chosen, hand) depth 12

    pub fetch-keeps : (more i : ℕ) (p : Progress) → part (fetch more i p).controller ≡ part p.controller
    unfolding fetch fetch_one
    fetch-keeps zero i p = refl
    fetch-keeps (suc more) i p = fetch-keeps more (i + 1) (fetch_one i p) ∙ (read_keeps p.controller 1).kept

    module _ (registers : List ℕ) (write : (c : Controller) (register value : ℕ) → T (has registers register) → Kept c (write_of c register value)) where
      pub act-keeps : (x : Act) (p : Progress) → Writes registers x → part (does x p).controller ≡ part p.controller
      unfolding does fetch_one put
      act-keeps (writes register value) p t = (write p.controller register value t).kept
      act-keeps (reads_data at) p t = (read_keeps p.controller 1).kept
      act-keeps reads_all p t = fetch-keeps (read_times p.count) 0 p
      act-keeps reads_count p t = (read_keeps p.controller 2).kept
      act-keeps (counts count) p t = refl

      pub acts-keep : (xs : List Act) (p : Progress) → AllWrite registers xs → part (does_all xs p).controller ≡ part p.controller
      unfolding does_all
      acts-keep [] p t = refl
      acts-keep (x ∷ xs) p t = acts-keep xs (does x p) t.1 ∙ act-keeps x p t.0

-- what follows on them leaves the whole record
pub follows-keeps : (t : Then) (p : Progress) → (follows t p).controller ≡ p.controller
unfolding follows
follows-keeps goes_on p = refl
follows-keeps (awaits e) p = refl
follows-keeps (ends e) p = refl
follows-keeps finishes p = refl
