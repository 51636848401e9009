-- A recovery by the port, on the model. Assumes nothing.
use mathlib.Core.Bool.{true, false}
use mathlib.Core.List.{List, [], ◌∷◌, ◌++◌}
use mathlib.Core.Path.{◌≡◌, refl, sym, ap, subst, ◌∙◌}
use Prim.Native.Nat.{ℕ, suc, ◌≤◌}
use native.Mathlib.Omega.{arith}
use borrow.Author.Tests.{ltb-false}
use lib.ListN.{length, length-append, length-replicate}
use Rattle.controller.specs.Record.{sound}
use Rattle.controller.specs.Reply.{accepts}
use Rattle.notation.proofs.Cases.{when-true, when-false, or-left-off}
use Rattle.notation.specs.Choice.{◌or◌}
use Rattle.port.specs.Begin.{unsettled, bad_settings, recover_of}
use Rattle.port.specs.Hear.{hears_at, hears, asks_at, asks}
use Rattle.port.specs.InHand.{alternates, recovers}
use Rattle.port.specs.Port.{padded, step, asking, recovering}
use Rattle.port.specs.Stage.{stage_number}
use Rattle.port.specs.Stand.{stand, no_job, broken_off}
use Rattle.port.specs.declared.ask.Ask.TheVariants.{Over}
use Rattle.port.specs.declared.stage.Stage.TheVariants as stage
use Rattle.port.specs.declared.stage.Stage.{Stage}
use Rattle.port.specs.declared.stand.Stand.{Stand}
use Rattle.port_job.proofs.Drives.{is_write, Each, Drives, drives}
use Rattle.port_job.proofs.InHand as hands
use Rattle.port_job.proofs.InHand.{holding, hand}
use Rattle.port_job.proofs.PortLines.{front}
use Rattle.port_job.proofs.Recovery.{BroughtBack, brought_back_lem}
use Rattle.port_job.proofs.Settles.{at_rest_lem, rests}
use Rattle.port_job.specs.OnModel.{At, answers, exchange, no_access, at_rest, recovered}
use Rattle.service.specs.Act.{Act, writes, does_all}
use Rattle.service.specs.Progress.{starting}
use Rattle.service.specs.declared.progress.Progress.{Progress}

-- the writes that set registers
each_set : (xs : List ℕ) (register other : ℕ) (ys : List Act) → Each is_write ys → Each is_write (alternates register other xs ++ ys)
unfolding alternates
each_set [] register other ys o = o
each_set (x ∷ xs) register other ys o = (tt, each_set xs other register ys o)

set-length : (xs : List ℕ) (register other : ℕ) → length (alternates register other xs) ≡ length xs
unfolding alternates
set-length [] register other = refl
set-length (x ∷ xs) register other = ap suc (set-length xs other register)

-- it is over with answer 0, and the chip brought back; or with 21, and all as before
pub record Recovers (s t : At) : Type 0 where
  pub done : asking t.port ≡ Over 0 0
  pub settles : unsettled t.port.stand ≡ false
  pub back : BroughtBack s.chip t.chip

pub record Declines (s t : At) : Type 0 where
  pub refused : asking t.port ≡ Over 21 0
  pub settles : unsettled t.port.stand ≡ unsettled s.port.stand
  pub same : t.chip ≡ s.chip

module _ (settings : List ℕ) (s : At) where
  abbrev standing : Stand → At
  standing x = holding (padded settings) x (starting s.chip)

  -- from the stand with which it begins
  from-stand : (x : Stand) → recover_of s.port.stand settings ≡ x → recovered settings s ≡ exchange (at_rest (standing x))
  unfolding recovered recovering starting
  from-stand x e = ap (λ (y : Stand). exchange (at_rest (standing y))) e

  -- settings that no recovery takes
  abbrev refusing : Stand
  refusing = broken_off 21 (unsettled s.port.stand)

  stays-over : Declines s (exchange (standing refusing))
  unfolding exchange step hears hears_at asks asks_at answers accepts starting unsettled stage_number ◌or◌
  stays-over = record { refused = refl; settles = refl; same = refl }

  pub declines : bad_settings settings ≡ true → Declines s (recovered settings s)
  unfolding recover_of asks asks_at no_access
  declines b =
      subst (Declines s) (sym (from-stand refusing (when-true _ _ _ b) ∙ ap exchange (at_rest_lem 72 (standing refusing) refl))) stays-over

  module _ (b : bad_settings settings ≡ false) (sc : sound s.chip ≡ true) where
    abbrev stands_at : Stage → ℕ → ℕ → Stand
    stands_at x made count = stand x (no_job (length settings)) 0 made false 27 count true

    few : length settings ≤ 12
    unfolding bad_settings
    few = ltb-false 12 (length settings) (or-left-off _ _ b)

    abbrev q : Progress
    q = does_all (recovers settings) (starting s.chip)

    abbrev rest : List Act
    rest = alternates 0 2 settings ++ (writes 3 0x40 ∷ [])

    -- its writes
    writes-all : Drives (suc (suc (suc (length rest)))) (standing (stands_at stage.Recovering 0 0))
        (λ made p. holding (padded settings) (stands_at stage.Pausing made p.count) p) q
    unfolding recovers starting
    writes-all =
        let kept = front settings (length settings) refl (let f = few in omega arith) in
        drives (hand (padded settings) is_write _ _ _ (hands.recovering (no_job (length settings)) (padded settings) 0 27 settings kept)) _ _ 0
        (starting s.chip) refl (tt, (tt, (tt, each_set settings 0 2 (writes 3 0x40 ∷ []) (tt, tt)))) (length-replicate {A = ℕ} 68 0)

    short : suc (suc (suc (length rest))) ≤ 72
    short = let f = few in simp (length-append, set-length) (omega arith)

    -- and the pause
    abbrev pausing : At
    pausing = holding (padded settings) (stands_at stage.Pausing writes-all.last q.count) q

    after_pause : Recovers s (exchange pausing)
    unfolding exchange step hears hears_at asks asks_at answers accepts unsettled stage_number ◌or◌ starting
    after_pause = record { done = refl; settles = refl; back = brought_back_lem settings (starting s.chip) sc }

    pub recovers_so : Recovers s (recovered settings s)
    unfolding recover_of asks asks_at no_access starting
    recovers_so =
        subst (Recovers s)
        (sym (from-stand (stands_at stage.Recovering 0 0) (when-false _ _ _ b) ∙ ap exchange (rests 72 writes-all.reaches refl short))) after_pause
