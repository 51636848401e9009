-- `perlovasta_next` is `next_call`: one byte is kept, the head is put, and the data stay. Without the mark the state is new, and stays so.
use mathlib.Core.Bool.{true, false}
use mathlib.Core.List.{List}
use mathlib.Core.Path.{◌≡◌, refl, sym, ap, ◌∙◌}
use Prim.Native.Nat.{ℕ}
use native.Mathlib.Omega.{arith}
use lib.ListN.{length, take, drop, set, length-take, length-set}
use Rattle.notation.proofs.Laid.{part_length, before-laid, set-none}
use Rattle.dock.proofs.First.{long, not-short, port, all-told}
use Rattle.dock.proofs.Told.{told-kept}
use Rattle.dock.specs.Calls.{telling, next_call}
use Rattle.dock.specs.StateBytes.{head_bytes, marked, stand_of, port_of}
use Rattle.notation.proofs.Cases.{when-false}
use Rattle.notation.specs.Choice.{when◌then◌else◌}
use Rattle.notation.specs.Overlay.{laid, laid_at}
use Rattle.port.proofs.Begun.{broken-off}
use Rattle.port.specs.Ask.{ask_number}
use Rattle.port.specs.Hear.{hears_at, hears, noted_at, asks, first_ask}
use Rattle.port.specs.Port.{Port, step}
use Rattle.port.specs.Stage.{stage_number}
use Rattle.port.specs.Stand.{new}
use Rattle.port.specs.declared.stand.Stand.{Stand}
use Rattle.dock.proofs.entry.perlovasta_next.Goals as goal

abbrev data_in : List ℕ → List ℕ
data_in m = take 68 (drop 12 m)

-- without the mark
unmarked : (m : List ℕ) → marked m ≡ false → stand_of m ≡ new
unfolding stand_of
unmarked m e = when-false _ _ _ e

heard-new : (payload : List ℕ) (value : ℕ) → hears new payload value ≡ new
unfolding hears hears_at
heard-new payload value = refl

noted-new : (payload : List ℕ) → noted_at new payload ≡ 68
unfolding noted_at stage_number when◌then◌else◌
noted-new payload = refl

pub returns-then-not-is_marked : goal.returns-then-not-is_marked
unfolding next_call step port_of
returns-then-not-is_marked c =
    let value = c.args.value in
    let m = c.args.state.now in
    let a = c.in-Some.state.now in
    let first = c.in-Some.ensures.cases in
    let room = long m a first in
    let tell = c.tell_first in
    let put = c.break_off.ensures in
    let p = step (port_of a) value in
    let none = unmarked a (sym c.is_marked.ensures ∙ c.if-not-is_marked.true) in
    let heard = ap (λ (s : Stand). hears s (data_in a) value) none ∙ heard-new (data_in a) value in
    let place = ap (λ (s : Stand). noted_at s (data_in a)) none ∙ noted-new (data_in a) in
    let told =
    told-kept (telling p) p a a _ _ refl
    (tell.ensures.step ∙ ap (λ (s : Stand). ask_number (first_ask s)) put ∙ ap ask_number (sym (broken-off (data_in a) 22 true))
    ∙ ap (λ (s : Stand). ask_number (asks s (data_in a))) (sym heard))
    (tell.ensures.state ∙ ap (λ (s : Stand). laid (head_bytes s) a) (put ∙ sym heard))
    refl (part_length 12 a (omega arith))
    (sym (ap (λ (k : ℕ). laid_at 80 (set (take 68 (drop 80 a)) k value) a) place ∙ set-none 80 68 value a (omega arith) (omega arith))) in
    let all =
    all-told m a first (next_call m value) p _ _
    (when-false _ _ _ (not-short m a first) ∙ ap (λ (q : Port). telling (step q value)) (sym (port m a first)))
    (part_length 12 a (omega arith)) (length-set (take 68 (drop 80 a)) _ value ∙ part_length 80 a (omega arith)) told in
    record { step = all.0; state = all.1 }

pub hear-next-requires : goal.hear-next-requires
hear-next-requires c = omega (arith, ap length c.payload.ensures, length-take 68 (drop 12 c.keep.new.state))

pub returns : goal.returns
unfolding next_call step port_of
returns c =
    let value = c.args.value in
    let m = c.args.state.now in
    let a = c.in-Some.state.now in
    let first = c.in-Some.ensures.cases in
    let room = long m a first in
    let tell = c.tell in
    let kept = c.keep.new.state in
    let p = step (port_of a) value in
    let loaded = c.load_marked-stand.ensures in
    let still = ap data_in c.keep.ensures ∙ before-laid 12 68 80 _ a refl in
    let stand = c.hear-next.ensures
    ∙ ap (λ (xs : List ℕ). hears c.load_marked-stand.result xs value) (c.payload.ensures ∙ still)
    ∙ ap (λ (s : Stand). hears s (data_in a) value) loaded in
    let place = c.place.ensures.place (data_in a) ∙ ap (λ (s : Stand). noted_at s (data_in a)) loaded in
    let told =
    told-kept (telling p) p a kept _ _ refl
    (tell.ensures.step ∙ ap (λ (s : Stand). ask_number (asks s (data_in kept))) stand)
    (tell.ensures.state ∙ ap (λ (s : Stand). laid (head_bytes s) kept) stand)
    refl (part_length 12 a (omega arith))
    (c.keep.ensures ∙ ap (λ (k : ℕ). laid_at 80 (set (take 68 (drop 80 a)) k value) a) place) in
    let all =
    all-told m a first (next_call m value) p _ _
    (when-false _ _ _ (not-short m a first) ∙ ap (λ (q : Port). telling (step q value)) (sym (port m a first)))
    (part_length 12 a (omega arith)) (length-set (take 68 (drop 80 a)) _ value ∙ part_length 80 a (omega arith)) told in
    record { step = all.0; state = all.1 }
