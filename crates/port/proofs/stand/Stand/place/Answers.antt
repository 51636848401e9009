-- `place` is `noted_at`: a value is noted by the reads of I2CDAT at 58h, each at its own number.
use mathlib.Core.Bool.{true, false≢true}
use mathlib.Core.List.{List, [], ◌∷◌, ◌++◌}
use mathlib.Core.Path.{◌≡◌, refl, sym, ap, ◌∙◌}
use Prim.Native.Nat.{ℕ, ◌<◌, ◌≤◌}
use native.Mathlib.Omega.{arith}
use borrow.Author.Tests.{ne_eqb}
use denote.Enum.Bare.{sameb, same_true}
use lib.Dec.{eqb}
use Rattle.notation.proofs.Cases.{when-false}
use Rattle.notation.specs.Choice.{when◌then◌else◌, among}
use Rattle.port.proofs.Stages.{tag_number}
use Rattle.port.proofs.Totals.{nth-before, nth_last, times_is, length-reads, read_at, nth-all, line-all}
use Rattle.port.specs.Hear.{noted_at}
use Rattle.port.specs.InHand.{reads_from, accesses, in_hand_at, nth, place_of}
use Rattle.port.specs.Stage.{stage_number}
use Rattle.port.specs.contracts.stage.Stage.{the_type}
use Rattle.port.specs.declared.stage.Stage.TheVariants.{Working}
use Rattle.port.specs.declared.stand.Stand.{Stand}
use Rattle.service.specs.Act.{Act, writes, counts}
use Rattle.service.specs.JobTable.{job_table}
use Rattle.port.proofs.stand.Stand.place.Goals as goal
use Rattle.port.proofs.stand.Stand.place.Goals.{else-eq-via-then-eq+then-self-eq88+else-self-reads, else-eq-via-then-eq+else-self-eq88, else-eq-via-else-eq}

abbrev Unnoted : Act → Type 0
Unnoted x = place_of x ≡ 68

-- at 58h, the reads, and the access after them
read : (n k : ℕ) → k < n → place_of (nth (reads_from n 0 ++ (writes 3 0x50 ∷ [])) k) ≡ k
unfolding place_of
read n k h =
    let at = nth-before (reads_from n 0) (writes 3 0x50) (counts 0) k (rw length-reads h) ∙ read_at n 0 k (counts 0) h in
    ap place_of at ∙ omega arith

past : (n k : ℕ) → n ≤ k → place_of (nth (reads_from n 0 ++ (writes 3 0x50 ∷ [])) k) ≡ 68
unfolding place_of
past n k h = ap place_of (nth_last (reads_from n 0) (writes 3 0x50) k (rw length-reads h))

-- no other status has reads
other : (s : Stand) (payload : List ℕ) → s.stage ≡ Working → (s.status ≡ 0x58 → ⊥) → 68 ≡ noted_at s payload
unfolding noted_at when◌then◌else◌ in_hand_at stage_number place_of
other s payload at status =
    let not58 = ne_eqb s.status 0x58 status in
    let all = line-all Unnoted s.job payload s.status s.count (λ _ _. refl) (λ _. refl) (λ at58. absurd (false≢true (sym not58 ∙ at58))) in
    rw at (sym (nth-all Unnoted _ s.made refl all))

working : (s : Stand) → true ≡ sameb the_type s.stage Working → s.stage ≡ Working
working s e = same_true the_type tt s.stage Working (sym e)

pub returns-then-self-reads-clause-place : goal.returns-then-self-reads-clause-place
unfolding noted_at job_table among when◌then◌else◌ in_hand_at accesses stage_number
returns-then-self-reads-clause-place c payload =
    let s = c.args.self in
    rw (working s c.if-eq.ensures, c.if-self-eq88.true) (c.from.ensures ∙ sym (read _ s.made (omega arith)))

pub returns-then-self-reads-clause-in_range : goal.returns-then-self-reads-clause-in_range
returns-then-self-reads-clause-in_range c = omega (arith, times_is c.args.self.job.n)

pub returns-else-eq-clause-place : goal.returns-else-eq-clause-place
unfolding noted_at job_table among when◌then◌else◌ in_hand_at accesses stage_number
returns-else-eq-clause-place c payload =
    let s = c.args.self in
    elim c.else-eq.branch [
      | else-eq-via-then-eq+then-self-eq88+else-self-reads w ↦ rw (working s w.if-eq.ensures, w.if-self-eq88.true) (sym (past _ s.made (omega arith)))
      | else-eq-via-then-eq+else-self-eq88 w ↦ other s payload (working s w.if-eq.ensures) w.if-self-eq88.false
      | else-eq-via-else-eq w ↦ sym (when-false _ _ _ (ap (λ (k : ℕ). eqb k 7) (sym (tag_number s.stage)) ∙ sym w.if-eq.ensures))
    ]
