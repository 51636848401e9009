-- A step leaves the job as it is, whatever is heard. Assumes nothing.
use mathlib.Core.Bool.{Bool}
use mathlib.Core.List.{List}
use mathlib.Core.Path.{◌≡◌, refl}
use Prim.Native.Nat.{ℕ}
use Rattle.notation.proofs.Cases.{split}
use Rattle.notation.specs.Choice.{when◌then◌else◌}
use Rattle.port.specs.Hear.{concludes, enters, onward, looked, hears_at, hears, next_of}
use Rattle.port.specs.declared.stage.Stage.TheVariants.{Over, Control, Status, First, Waiting, Look, Interrupted, Working, Recovering, Pausing, Recheck}
use Rattle.port.specs.declared.stage.Stage.{Stage}
use Rattle.port.specs.declared.stand.Stand.{Stand}
use Rattle.service.specs.Act.{Then, goes_on, awaits, ends, finishes}
use Rattle.service.specs.declared.job.Job.{Job}

concluded : (after : Then) (s : Stand) → (concludes after s).job ≡ s.job
unfolding concludes
concluded goes_on s = refl
concluded (awaits ending) s = refl
concluded (ends ending) s = refl
concluded finishes s = refl

either : {job : Job} (b : Bool) (x y : Stand) → x.job ≡ job → y.job ≡ job → (when b then x else y).job ≡ job
either {job} b x y f g = split (λ (s : Stand). s.job ≡ job) b x y (λ _. f) (λ _. g)

heard : (x : Stage) (s : Stand) (payload : List ℕ) (value : ℕ) → (hears_at x s payload value).job ≡ s.job
unfolding hears_at enters onward next_of looked
heard Over s payload value = refl
heard Control s payload value = either _ _ _ refl refl
heard Status s payload value = either _ _ _ refl refl
heard First s payload value = either _ _ _ refl refl
heard Waiting s payload value = refl
heard Look s payload value = either _ _ _ refl (either _ _ _ refl (either _ _ _ refl refl))
heard Interrupted s payload value = either _ _ _ (either _ _ _ (concluded _ _) refl) refl
heard Working s payload value = either _ _ _ (either _ _ _ refl refl) (concluded _ _)
heard Recovering s payload value = either _ _ _ refl refl
heard Pausing s payload value = refl
heard Recheck s payload value = either _ _ _ refl refl

pub same-job : (s : Stand) (payload : List ℕ) (value : ℕ) → (hears s payload value).job ≡ s.job
unfolding hears
same-job s payload value = heard s.stage s payload value
