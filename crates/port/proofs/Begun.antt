-- What is asked for first, after a start, a recovery or a give-up, is `first_ask`. Assumes nothing.
use mathlib.Core.Bool.{Bool, false}
use mathlib.Core.List.{List}
use mathlib.Core.Path.{◌≡◌, refl}
use Prim.Native.Nat.{ℕ}
use Rattle.notation.proofs.Cases.{split}
use Rattle.notation.specs.Choice.{when◌then◌else◌}
use Rattle.port.specs.Ask.{ask_for}
use Rattle.port.specs.Begin.{start_of, recover_of}
use Rattle.port.specs.Hear.{asks_at, asks, first_ask}
use Rattle.port.specs.InHand.{recovers, in_hand_at, nth}
use Rattle.port.specs.Stage.{stage_number}
use Rattle.port.specs.Stand.{stand, no_job, broken_off}
use Rattle.port.specs.declared.stage.Stage.TheVariants.{Control, Recovering}
use Rattle.port.specs.declared.stand.Stand.{Stand}
use Rattle.service.specs.declared.job.Job.{Job}

abbrev AsksFirst : List ℕ → Stand → Type 0
AsksFirst payload s = asks s payload ≡ first_ask s

pub broken-off : (payload : List ℕ) (answer : ℕ) (stale : Bool) → asks (broken_off answer stale) payload ≡ first_ask (broken_off answer stale)
unfolding asks asks_at first_ask stage_number when◌then◌else◌
broken-off payload answer stale = refl

control : (payload : List ℕ) (job : Job) → AsksFirst payload (stand Control job 0 0 false 27 0 false)
unfolding asks asks_at first_ask stage_number when◌then◌else◌
control payload job = refl

recovering : (payload : List ℕ) (n : ℕ) (stale : Bool) → AsksFirst payload (stand Recovering (no_job n) 0 0 false 27 0 stale)
unfolding asks asks_at first_ask stage_number when◌then◌else◌ ask_for nth in_hand_at recovers
recovering payload n stale = refl

pub start_asks : (payload : List ℕ) (s : Stand) (job : Job) (lent : ℕ) → asks (start_of s job lent) payload ≡ first_ask (start_of s job lent)
unfolding start_of
start_asks payload s job lent =
    split (AsksFirst payload) _ _ _ (λ _. broken-off payload _ _)
    (λ _. split (AsksFirst payload) _ _ _ (λ _. broken-off payload _ _) (λ _. control payload job))

pub recovery-asks : (payload : List ℕ) (s : Stand) (settings : List ℕ) → asks (recover_of s settings) payload ≡ first_ask (recover_of s settings)
unfolding recover_of
recovery-asks payload s settings = split (AsksFirst payload) _ _ _ (λ _. broken-off payload _ _) (λ _. recovering payload _ _)
