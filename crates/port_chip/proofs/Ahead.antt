-- How many accesses can still come before none is asked for, from any state: 72 at most, and each access makes it one less. Assumes nothing.
use mathlib.Core.Bool.{true, false, true≢false}
use mathlib.Core.List.{List, [], ◌∷◌}
use mathlib.Core.Path.{◌≡◌, refl, sym, ap, subst}
use Prim.Native.Nat.{ℕ, suc, ◌+◌, ◌-◌, ◌≤◌, ◌<◌, max, min}
use native.Mathlib.Omega.{arith}
use borrow.Author.Tests.{ltb-true, eqb-true}
use lib.Dec.{eqb, ltb}
use lib.ListN.{length}
use Rattle.notation.proofs.Cases.{or_left, or_right, and_right, split}
use Rattle.port.specs.Hear.{concludes, enters, onward, next_of, looked, hears_at, hears, asks_at, asks}
use Rattle.port.specs.InHand.{accesses, in_hand_at}
use Rattle.port.specs.Port.{Port, step, asking}
use Rattle.port.specs.Stand.{at_stage, with_count}
use Rattle.port.specs.declared.stage.Stage.TheVariants.{Over, Control, Status, First, Waiting, Look, Interrupted, Working, Recovering, Pausing, Recheck}
use Rattle.port.specs.declared.stage.Stage.{Stage}
use Rattle.port.specs.declared.stand.Stand.{Stand}
use Rattle.port_chip.proofs.ByTest.{by_test}
use Rattle.port_chip.proofs.InHand.{settled, recovery-few}
use Rattle.port_chip.specs.Passed.{no_access, rests}
use Rattle.service.specs.Act.{Then, goes_on, awaits, ends, finishes}
use Rattle.service.specs.JobTable.{job_table}
use Rattle.service.specs.declared.job.Job.{Job}

-- of the accesses in hand, the one asked for and those after it
abbrev pub left : ℕ → ℕ → ℕ
left total made = max 1 (total - made)

-- the same of a line, with the look at I2CCON that may come before its last access
unfoldable pub left_of_line : ℕ → ℕ → ℕ
left_of_line total made = left total made + min 1 (total - (made + 1))

-- by the stage: of the accesses in hand so many are left
abbrev pub ahead_at : Stage → Stand → List ℕ → ℕ
ahead_at Over s payload = 0
ahead_at Control s payload = 5
ahead_at Status s payload = 4
ahead_at First s payload = left (length (in_hand_at First s payload)) s.made
ahead_at Waiting s payload = 0
ahead_at Look s payload = 72
ahead_at Interrupted s payload = 71
ahead_at Working s payload = left_of_line (length (in_hand_at Working s payload)) s.made
ahead_at Recovering s payload = left (length (in_hand_at Recovering s payload)) s.made
ahead_at Pausing s payload = 0
ahead_at Recheck s payload = 1 + left_of_line (length (in_hand_at Working s payload)) s.made

abbrev pub ahead : Stand → List ℕ → ℕ
ahead s payload = ahead_at s.stage s payload

-- one access more is made, and there are others
one_less : (total made : ℕ) → ltb (made + 1) total ≡ true → left total (made + 1) < left total made
one_less total made e = omega (arith, ltb-true (made + 1) total e)

one_left : (total made : ℕ) → 1 ≤ left total made
one_left total made = omega arith

-- the same of a line
one_left_of_line : (total made : ℕ) → 1 ≤ left_of_line total made
unfolding left_of_line
one_left_of_line total made = omega arith

few_of_line : (total made : ℕ) → total ≤ 69 → left_of_line total made ≤ 70
unfolding left_of_line
few_of_line total made h = omega arith

some_of_line : (total made : ℕ) → made < total → made + left_of_line total made ≤ total + 1
unfolding left_of_line
some_of_line total made h = omega arith

last_of_line : (total made : ℕ) → made + 1 ≡ total → left_of_line total made ≡ 1
unfolding left_of_line
last_of_line total made e = omega (arith, e)

more_of_line : (total made : ℕ) → made + 1 < total → made + left_of_line total made ≡ total + 1
unfolding left_of_line
more_of_line total made h = omega arith

one_less_of_line : (total made : ℕ) → ltb (made + 1) total ≡ true → left_of_line total (made + 1) < left_of_line total made
one_less_of_line total made e =
    let h = ltb-true (made + 1) total e in omega (arith, more_of_line total made h, some_of_line total (made + 1) h)

-- one access is left, and the look comes before it
look-before : (total made : ℕ) → eqb (made + 2) total ≡ true → 1 + left_of_line total (made + 1) < left_of_line total made
look-before total made e =
    let q = eqb-true (made + 2) total e in
    let h : made + 1 < total = omega (arith, q) in omega (arith, q, more_of_line total made h, last_of_line total (made + 1) (omega (arith, q)))

none_at_most : {total : ℕ} → total ≡ 0 → total ≤ 70
none_at_most e = omega (arith, e)

none_left : {k m : ℕ} → k < m → m ≤ 0 → ⊥
none_left h g = omega arith

less : {k m n : ℕ} → k < m → m ≤ suc n → k ≤ n
less h g = omega arith

module _ (payload : List ℕ) where
  -- what follows on a line asks for no access
  concluded : (after : Then) (s : Stand) → ahead (concludes after s) payload ≡ 0
  unfolding concludes
  concluded goes_on s = refl
  concluded (awaits ending) s = refl
  concluded (ends ending) s = refl
  concluded finishes s = refl

  -- the count noted is no matter
  same_number : (job : Job) (status count other : ℕ) → length payload ≤ 68 →
      length (accesses count (job_table job payload status count).acts) ≡ length (accesses other (job_table job payload status other).acts)
  unfolding job_table
  same_number job status count other short = ap length ((settled job payload short status count).same count other)

  module _ (short : length payload ≤ 68) (value : ℕ) where
    abbrev Falls : Stand → Stand → Type 0
    Falls s t = ahead t payload < ahead s payload

    -- the work at a status
    entered : (s : Stand) → ahead (enters s value (job_table s.job payload value s.count)) payload ≤ 70
    unfolding enters in_hand_at
    entered s =
        let P : Stand → Type 0 = λ t. ahead t payload ≤ 70 in
        split P _ _ _ (λ _. none_at_most (concluded _ _)) (λ _. few_of_line _ 0 ((settled s.job payload short value _).few _))

    -- the next access of a line, whatever count is noted
    next-falls : (s : Stand) (count : ℕ) → let total = length (in_hand_at Working s payload) in
        ltb (s.made + 1) total ≡ true → Falls (at_stage s Working) (next_of (with_count (at_stage s Working) count) total)
    unfolding next_of in_hand_at
    next-falls s count e =
        let total = length (in_hand_at Working s payload) in
        let same = same_number s.job s.status s.count count short in
        split (Falls (at_stage s Working)) _ _ _
        (λ last. subst (λ (k : ℕ). 1 + left_of_line k (s.made + 1) < left_of_line total s.made) same (look-before total s.made (and_right _ _ last)))
        (λ _. subst (λ (k : ℕ). left_of_line k (s.made + 1) < left_of_line total s.made) same (one_less_of_line total s.made e))

    falls : (x : Stage) (s : Stand) → no_access (asks (at_stage s x) payload) ≡ false → Falls (at_stage s x) (hears (at_stage s x) payload value)
    unfolding hears hears_at asks asks_at no_access onward looked enters in_hand_at
    falls Over s a = absurd (true≢false a)
    falls Control s a = split (Falls (at_stage s Control)) _ _ _ (λ _. omega arith) (λ _. omega arith)
    falls Status s a = split (Falls (at_stage s Status)) _ _ _ (λ _. omega arith) (λ _. omega arith)
    falls First s a = split (Falls (at_stage s First)) _ _ _ (one_less _ s.made) (λ _. one_left _ s.made)
    falls Waiting s a = absurd (true≢false a)
    falls Look s a =
        let P = Falls (at_stage s Look) in
        split P _ _ _ (λ _. omega arith) (λ _. split P _ _ _ (λ _. omega arith) (λ _. split P _ _ _ (λ _. omega arith) (λ _. omega arith)))
    falls Interrupted s a =
        let P = Falls (at_stage s Interrupted) in
        split P _ _ _ (λ _. omega (arith, entered (at_stage s Interrupted))) (λ _. omega arith)
    falls Working s a =
        split (Falls (at_stage s Working)) _ _ _ (next-falls s _)
        (λ _. subst (λ (k : ℕ). k < ahead (at_stage s Working) payload) (sym (concluded _ _)) (one_left_of_line _ s.made))
    falls Recovering s a = split (Falls (at_stage s Recovering)) _ _ _ (one_less _ s.made) (λ _. one_left _ s.made)
    falls Pausing s a = absurd (true≢false a)
    falls Recheck s a = split (Falls (at_stage s Recheck)) _ _ _ (λ _. omega arith) (λ _. omega arith)

  -- never more than 72, from whatever state
  pub at_most : length payload ≤ 68 → (x : Stage) (s : Stand) → ahead (at_stage s x) payload ≤ 72
  unfolding in_hand_at
  at_most short Over s = omega arith
  at_most short Control s = omega arith
  at_most short Status s = omega arith
  at_most short First s = omega arith
  at_most short Waiting s = omega arith
  at_most short Look s = omega arith
  at_most short Interrupted s = omega arith
  at_most short Working s = omega (arith, few_of_line _ s.made ((settled s.job payload short s.status s.count).few s.count))
  at_most short Recovering s = omega (arith, recovery-few s.job.n payload short)
  at_most short Pausing s = omega arith
  at_most short Recheck s = omega (arith, few_of_line _ s.made ((settled s.job payload short s.status s.count).few s.count))

-- an access is asked for, and then it is nearer to none
nearer : (p : Port) (value : ℕ) → length p.payload ≤ 68 → no_access (asking p) ≡ false →
    ahead (step p value).stand p.payload < ahead p.stand p.payload
unfolding step
nearer p value short a = falls p.payload short value p.stand.stage p.stand a

pub rests-within : (values : List ℕ) (p : Port) → length p.payload ≤ 68 → ahead p.stand p.payload ≤ length values → rests p values ≡ true
unfolding rests step
rests-within [] p short h = by_test (no_access (asking p)) (λ e. e) (λ e. absurd (none_left (nearer p 0 short e) h))
rests-within (value ∷ values) p short h =
    by_test (no_access (asking p)) (or_left _ _) (λ e. or_right _ _ (rests-within values (step p value) short (less (nearer p value short e) h)))
