-- `ask_recovery` asks for one of the three writes of the reset by computation, and else for what `ask_setting` does, three places earlier.
use mathlib.Core.List.{[], ◌∷◌, ◌++◌}
use mathlib.Core.Path.{◌≡◌, ap, sym, ◌∙◌}
use Prim.Native.Nat.{ℕ, suc, ◌-◌}
use native.Mathlib.Omega.{arith}
use lib.ListN.{take}
use Rattle.port.proofs.Nth.{at_head, in_tail}
use Rattle.port.specs.Ask.{ask_for}
use Rattle.port.specs.InHand.{alternates, recovers, nth}
use Rattle.service.specs.Act.{writes}
use Rattle.port.proofs.stand.Stand.ask_recovery.Goals as goal

pub returns-in-0 : goal.returns-in-0
unfolding recovers nth ask_for
returns-in-0 c = rw c.in-0.is

pub returns-in-1 : goal.returns-in-1
unfolding recovers nth ask_for
returns-in-1 c = rw c.in-1.is

pub returns-in-2 : goal.returns-in-2
unfolding recovers nth ask_for
returns-in-2 c =
    let args = c.args in
    rw c.in-2.is (sym (ap ask_for (at_head (writes 2 0x5A) (alternates 0 2 (take args.self.job.n args.payload.now)) (writes 3 0x40))))

pub returns-in_default : goal.returns-in_default
unfolding recovers nth
returns-in_default c =
    let args = c.args in
    let settings = take args.self.job.n args.payload.now in
    let made = args.self.made in
    let e : made ≡ suc (suc (suc (made - 3))) = omega arith in
    c.ask_setting.ensures
    ∙ ap (λ (k : ℕ). ask_for (nth (alternates 0 2 settings ++ (writes 3 0x40 ∷ [])) (k - 3))) c.from.ensures
    ∙ sym (ap ask_for (ap (nth (recovers settings)) e ∙ in_tail (writes 2 0x5A) (alternates 0 2 settings) (writes 3 0x40) (made - 3)))
