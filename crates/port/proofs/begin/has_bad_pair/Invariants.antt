use mathlib.Core.Path.{◌≡◌}
use Rattle.std.specs.Slice.Iter.{chunks_rest, chunks_size}
use Rattle.port.specs.Begin.{bad_pairs}
use Rattle.port.proofs.begin.has_bad_pair.Given as goal

abbrev pub invariant-loop-pair : goal.invariant-loop-pair
invariant-loop-pair l = (chunks_size l.pair-iterator ≡ 2) × (bad_pairs (chunks_rest l.pair-iterator) ≡ bad_pairs l.settings)
