-- A job stays what it is, whatever is heard. Assumes nothing.
use mathlib.Core.List.{List, [], ◌∷◌}
use mathlib.Core.Path.{◌≡◌, refl, ◌∙◌}
use Prim.Native.Nat.{ℕ}
use Rattle.port.proofs.SameJob.{same-job}
use Rattle.port.specs.Port.{Port, step}
use Rattle.port_chip.specs.Passed.{after_all}

pub job-stays : (values : List ℕ) (p : Port) → (after_all p values).stand.job ≡ p.stand.job
unfolding after_all step
job-stays [] p = refl
job-stays (value ∷ values) p = job-stays values (step p value) ∙ same-job p.stand p.payload value
