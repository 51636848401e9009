-- The claims of specs/AnyChip.antt. Assume nothing.
use mathlib.Core.Bool.{Bool, true, false}
use mathlib.Core.List.{List, [], ◌∷◌}
use mathlib.Core.Path.{◌≡◌, refl, sym, ap, subst, ◌∙◌}
use Prim.Native.Nat.{ℕ, ◌≤◌}
use borrow.Author.Tests.{eqb-false}
use lib.Dec.{eqb}
use lib.ListN.{length, replicate}
use Rattle.address.specs.declared.number.Direction.TheVariants.{Write, Read}
use Rattle.address.specs.declared.number.Direction.{Direction}
use Rattle.notation.proofs.Cases.{when-false, split}
use Rattle.notation.specs.Choice.{when◌then◌else◌, among}
use Rattle.port.specs.Begin.{unfit, start_of, give_up_of}
use Rattle.port.specs.Hear.{hears, hears_at, asks, asks_at}
use Rattle.port.specs.Look.{meets}
use Rattle.port.specs.Port.{Port, step, asking, padded, kept_data, started, given_up}
use Rattle.port.specs.Stand.{stand, broken_off, at_stage}
use Rattle.port.specs.declared.ask.Ask.TheVariants.{Over}
use Rattle.port.specs.declared.stage.Stage.TheVariants.{Waiting, Control}
use Rattle.port.specs.declared.stage.Stage.{Stage}
use Rattle.port.specs.declared.stand.Stand.{Stand}
use Rattle.port_chip.proofs.Ahead.{ahead, at_most, rests-within}
use Rattle.port_chip.proofs.OfJob.{Fits}
use Rattle.port_chip.proofs.OnlyProven.{at_beginning, Handed, no_read, begun, Done, done}
use Rattle.port_chip.specs.AnyChip.{Rests, EndsAtOnce, OnlyProven, DoneOnlyAfter, OldStateUnseen, WaitsOn}
use Rattle.port_chip.specs.Passed.{after_all}
use Rattle.service.proofs.Formed.{formed}
use Rattle.service.specs.declared.job.Job.{Job}

pub rests-always : Rests
rests-always p values short e =
    rests-within values p short
    (subst (λ (k : ℕ). ahead p.stand p.payload ≤ k) (sym e) (at_most p.payload short p.stand.stage p.stand))

-- given up or refused, whatever is noted after it
stays_so : (answer : ℕ) (stale : Bool) (values payload fetched : List ℕ) →
    asking (after_all (record { stand = broken_off answer stale; payload = payload; fetched = fetched }) values) ≡ Over answer 0
unfolding after_all step hears hears_at asks asks_at
stays_so answer stale [] payload fetched = refl
stays_so answer stale (value ∷ values) payload fetched = stays_so answer stale values payload _

pub ends_at_once : EndsAtOnce
unfolding given_up give_up_of
ends_at_once p values = stays_so 27 true values p.payload p.fetched

-- a start: refused, with another answer than 0, or the job is at its beginning
at_start : (P : Stand → Type 0) (s : Stand) (job : Job) (dataLength : ℕ) → ((answer : ℕ) (stale : Bool) → eqb answer 0 ≡ false → P (broken_off answer stale)) →
    (Fits job → P (at_beginning job)) → P (start_of s job dataLength)
unfolding start_of
at_start P s job dataLength refused begins =
    split P _ _ _ (λ _. refused 21 _ refl)
    (λ fit.
    let f = formed job dataLength 68 69 0 fit in
    split P _ _ _ (λ _. refused 22 true refl) (λ _. begins (record { low = f.low; high = f.high })))

pub only_proven : OnlyProven
unfolding started
only_proven p job bytes values room =
    let payload = padded (kept_data job.direction job.n bytes) in
    at_start (Handed job payload values room) p.stand job (length bytes) (λ _ _ _. no_read job payload values room _ refl)
    (begun job payload values room)

-- over with one answer and not with another
one_answer : {a b c d : ℕ} → Over a b ≡ Over c d → a ≡ c
one_answer e = cc

pub done_only_after : DoneOnlyAfter
unfolding started
done_only_after p job bytes values count =
    let payload = padded (kept_data job.direction job.n bytes) in
    at_start (Done job payload values count) p.stand job (length bytes)
    (λ answer stale other e. absurd (eqb-false answer 0 other (one_answer (sym (stays_so answer stale values payload _) ∙ e))))
    (done job payload values count)

pub old_state_unseen : OldStateUnseen
unfolding started start_of
old_state_unseen p q job bytes e =
    ap {B = Port} (λ (b : Bool). record {
      stand = when unfit job (length bytes) then broken_off 21 b else when b then broken_off 22 true else stand Control job 0 0 false 27 0 false;
      payload = padded (kept_data job.direction job.n bytes);
      fetched = replicate 68 0;
    }) e

no_f8 : (d : Direction) → among 0xF8 (meets d) ≡ false
unfolding among when◌then◌else◌
no_f8 Write = refl
no_f8 Read = refl

pub waits-on : WaitsOn
unfolding step hears hears_at asks asks_at
waits-on p e =
    let s = p.stand in
    let waits = ap (λ (x : Stage). hears_at x s p.payload 0xF8) e ∙ when-false _ _ (at_stage s Waiting) (no_f8 s.job.direction) in
    (waits, ap (λ (t : Stand). asks t p.payload) waits)
