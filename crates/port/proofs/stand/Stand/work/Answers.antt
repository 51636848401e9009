-- `work` notes the count and goes on to the next access, or after the last to what follows; the accesses in hand are those of the line.
use mathlib.Core.List.{List}
use mathlib.Core.Path.{◌≡◌, sym, ap, ◌∙◌}
use Prim.Native.Nat.{ℕ, ◌+◌}
use borrow.Author.Tests.{lt-ltb, le-ltb}
use native.Mathlib.Omega.{arith}
use lib.Dec.{ltb}
use lib.ListN.{length}
use Rattle.notation.proofs.Cases.{when-true, when-false}
use Rattle.notation.specs.Choice.{when◌then◌else◌}
use Rattle.port.proofs.Nth.{line-fits}
use Rattle.port.specs.Hear.{concludes, next_of, hears_at}
use Rattle.port.specs.InHand.{accesses, line, in_hand_at, nth, count_after}
use Rattle.port.specs.Stand.{with_count}
use Rattle.port.specs.declared.stage.Stage.TheVariants.{Working}
use Rattle.port.specs.declared.stand.Stand.{Stand}
use Rattle.service.specs.Act.{Act}
use Rattle.port.proofs.stand.Stand.work.Goals as goal

abbrev of_line : Stand → List ℕ → List Act
of_line s payload = accesses s.count (line s payload).acts

abbrev noted : Stand → List ℕ → ℕ → Stand
noted s payload value = with_count s (count_after (nth (of_line s payload) s.made) s.count value)

worked : (s : Stand) (payload : List ℕ) (value : ℕ) → s.stage ≡ Working → hears_at Working s payload value
    ≡ (when ltb (s.made + 1) (length (of_line s payload)) then next_of (noted s payload value) (length (of_line s payload))
    else concludes (line s payload).after (noted s payload value))
unfolding hears_at in_hand_at
worked s payload value e = rw e

pub next_of-requires : goal.next_of-requires
next_of-requires c =
    let args = c.args in
    let s = args.self in
    let fits = line-fits s.job args.payload.now s.status s.count c.requires.0 in
    (omega arith, omega arith)

pub returns-then-from-total : goal.returns-then-from-total
returns-then-from-total c =
    let args = c.args in
    let s = args.self in
    let xs = args.payload.now in
    c.next_of.ensures
    ∙ ap (λ (k : ℕ). next_of (with_count s k) c.work_total-total.result) (c.note_count.ensures xs)
    ∙ ap (λ (total : ℕ). next_of (noted s xs args.value) total) c.work_total-total.ensures
    ∙ sym (worked s xs args.value c.requires.1 ∙ when-true _ _ _ (lt-ltb _ _ (omega arith)))

pub returns-else-from-total : goal.returns-else-from-total
returns-else-from-total c =
    let args = c.args in
    let s = args.self in
    let xs = args.payload.now in
    c.conclude.ensures xs s.count
    ∙ ap (λ (k : ℕ). concludes (line s xs).after (with_count s k)) (c.note_count.ensures xs)
    ∙ sym (worked s xs args.value c.requires.1 ∙ when-false _ _ _ (le-ltb _ _ (omega arith)))
