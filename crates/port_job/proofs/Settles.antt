-- So many accesses in a row, counted: where they end, there the port settles. Assumes nothing.
use mathlib.Core.Bool.{true, false}
use mathlib.Core.Path.{◌≡◌, refl, subst, ◌∙◌}
use Prim.Native.Nat.{ℕ, zero, suc, ◌+◌, ◌≤◌}
use native.Mathlib.Omega.{arith}
use Rattle.notation.proofs.Cases.{when-true, when-false}
use Rattle.port.specs.Port.{asking}
use Rattle.port_job.specs.OnModel.{At, exchange, no_access, rests_in}

-- this many exchanges, each for an access, lead from one to the other
pub data Reaches : ℕ → At → At → Type 0 where
  there : {s : At} → Reaches 0 s s
  further : {s t : At} {k : ℕ} → no_access (asking s.port) ≡ false → Reaches k (exchange s) t → Reaches (suc k) s t

-- one after the other
pub joined : {s t u : At} {j k : ℕ} (n : ℕ) → j + k ≡ n → Reaches j s t → Reaches k t u → Reaches n s u
joined {s} {t} {u} {j} {k} n e there q = subst (λ (m : ℕ). Reaches m s u) (omega (arith, e)) q
joined zero e (further a p) q = absurd (omega (arith, e))
joined (suc n) e (further a p) q = further a (joined n (omega (arith, e)) p q)

-- where no access is asked for it rests, with any number of exchanges left
pub at_rest_lem : (m : ℕ) (s : At) → no_access (asking s.port) ≡ true → rests_in m s ≡ s
unfolding rests_in
at_rest_lem zero s e = refl
at_rest_lem (suc m) s e = when-true _ _ _ e

pub rests : {s t : At} {k : ℕ} (m : ℕ) → Reaches k s t → no_access (asking t.port) ≡ true → k ≤ m → rests_in m s ≡ t
unfolding rests_in
rests {s} m there e h = at_rest_lem m s e
rests zero (further a p) e h = absurd (omega arith)
rests (suc m) (further a p) e h = when-false _ _ _ a ∙ rests m p e (omega arith)
