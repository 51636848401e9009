-- What a call tells and leaves, from what its parts do. Assumes nothing.
use mathlib.Core.List.{List, ◌++◌}
use mathlib.Core.Path.{◌≡◌, refl, sym, ap, ◌∙◌}
use Prim.Native.Nat.{ℕ, ◌≤◌}
use native.Mathlib.Omega.{arith}
use lib.ListN.{length, take, drop}
use Rattle.notation.proofs.Laid.{laid-append, laid_at-append, laid_same, read-laid, before-laid}
use Rattle.dock.specs.Calls.{StepCall, not_done, telling}
use Rattle.dock.specs.StateBytes.{head_bytes, bytes_of}
use Rattle.notation.specs.Overlay.{laid, laid_at}
use Rattle.port.specs.Ask.{ask_number}
use Rattle.port.specs.Hear.{asks}
use Rattle.port.specs.Port.{Port}

-- a state that is too short
pub not_done_lem : (call : StepCall) (m : List ℕ) → call ≡ not_done → (◌≡◌ {A = ℕ} 5381 call.step) × (m ≡ laid call.state m)
unfolding not_done ask_number laid
not_done_lem call m e = (sym (ap (λ (c : StepCall). c.step) e), sym (ap (λ (c : StepCall). laid c.state m) e))

-- the state is put part by part, the head last
pub bytes-laid : (p : Port) (m : List ℕ) → length p.payload ≡ 68 →
    laid (bytes_of p) m ≡ laid (head_bytes p.stand) (laid_at 12 p.payload (laid_at 80 p.fetched m))
unfolding bytes_of head_bytes
bytes-laid p m l =
    laid-append (head_bytes p.stand) (p.payload ++ p.fetched) m
    ∙ ap (laid (head_bytes p.stand)) (laid_at-append 12 80 p.payload p.fetched m (omega (arith, l)))

-- the same where the data are as they were
pub kept-laid : (p : Port) (m : List ℕ) → p.payload ≡ take 68 (drop 12 m) → length p.payload ≡ 68 →
    laid (bytes_of p) m ≡ laid (head_bytes p.stand) (laid_at 80 p.fetched m)
kept-laid p m d l =
    let before = laid_at 80 p.fetched m in
    bytes-laid p m l
    ∙ ap (laid (head_bytes p.stand))
    (ap (λ (xs : List ℕ). laid_at 12 xs before) (d ∙ sym (before-laid 12 68 80 p.fetched m refl)) ∙ laid_same 12 68 before)

-- What `tell` promises of the state as the parts left it, `before`, in which the port's own data stand.
module _ (call : StepCall) (p : Port) (m before after : List ℕ) (result : ℕ) (e : call ≡ telling p)
    (step : result ≡ ask_number (asks p.stand (take 68 (drop 12 before)))) (state : after ≡ laid (head_bytes p.stand) before) where
  telling_so : take 68 (drop 12 before) ≡ p.payload → laid (head_bytes p.stand) before ≡ laid (bytes_of p) m →
      (result ≡ call.step) × (after ≡ laid call.state m)
  unfolding telling
  telling_so d b = (
    step ∙ ap (λ (l : List ℕ). ask_number (asks p.stand l)) d ∙ sym (ap (λ (c : StepCall). c.step) e),
    state ∙ b ∙ sym (ap (λ (c : StepCall). laid c.state m) e),
  )

  -- the data are as they were, and these the bytes read back
  pub told-kept : p.payload ≡ take 68 (drop 12 m) → length p.payload ≡ 68 → before ≡ laid_at 80 p.fetched m →
      (result ≡ call.step) × (after ≡ laid call.state m)
  told-kept d l b =
      telling_so
      (ap (λ (x : List ℕ). take 68 (drop 12 x)) b ∙ before-laid 12 68 80 p.fetched m refl ∙ sym d)
      (ap (laid (head_bytes p.stand)) b ∙ sym (kept-laid p m d l))

  -- data and bytes read back are put anew
  pub told_anew : length p.payload ≡ 68 → 80 ≤ length (laid_at 80 p.fetched m) → before ≡ laid_at 12 p.payload (laid_at 80 p.fetched m) →
      (result ≡ call.step) × (after ≡ laid call.state m)
  told_anew l n b =
      let placed = laid_at 12 p.payload (laid_at 80 p.fetched m) in
      let found = read-laid 12 p.payload (laid_at 80 p.fetched m) (omega (arith, l, n)) in
      telling_so (ap (λ (x : List ℕ). take 68 (drop 12 x)) b ∙ ap (λ (k : ℕ). take k (drop 12 placed)) (sym l) ∙ found)
      (ap (laid (head_bytes p.stand)) b ∙ sym (bytes-laid p m l))
