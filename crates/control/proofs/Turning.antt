-- Which turns a rule lists, from what an arm of a `match` on the turn knows. An arm of one turn knows that turn's tag, an arm of several
-- and the default know that the tag is one of a list. Assumes nothing.
use mathlib.Core.Bool.{Bool, true, false, true≢false}
use mathlib.Core.List.{List, [], ◌∷◌}
use mathlib.Core.Path.{◌≡◌, refl, sym, ap, ◌∙◌}
use Prim.Native.Nat.{ℕ}
use borrow.Author.Tests.{eqb-true}
use denote.Enum.Declared.{tag_of}
use lib.Dec.{T, eqb}
use types.Run.{OneOf}
use Rattle.control.specs.Turn.{off, host, free, busy, listen, address, send, receive, slave_receive, slave_send, stopping, restarting, kind, status_of}
use Rattle.control.specs.Turn.{edge_of, at38h}
use Rattle.control.specs.declared.turn.Turn.TheVariants.{Off, Host, Free, Busy, Listen}
use Rattle.control.specs.declared.turn.Turn.TheVariants.{Address, Send, Receive, SlaveReceive, SlaveSend, Stopping, Restarting}
use Rattle.control.specs.declared.turn.Turn.{Turn}
use Rattle.notation.proofs.Among.{has, every, same, among-has, keys_in}
use Rattle.notation.specs.Choice.{among, when◌then◌else◌}
use Rattle.control.specs.contracts.turn.Turn.{the_type}

pub tag_kind : (t : Turn) → tag_of the_type t ≡ kind t
unfolding kind
tag_kind Off = refl
tag_kind (Host s e) = refl
tag_kind Free = refl
tag_kind Busy = refl
tag_kind Listen = refl
tag_kind Address = refl
tag_kind Send = refl
tag_kind Receive = refl
tag_kind (SlaveReceive w) = refl
tag_kind SlaveSend = refl
tag_kind Stopping = refl
tag_kind Restarting = refl

-- every turn but these: what a default arm leaves
abbrev pub but : List ℕ → List ℕ → List ℕ
but ks [] = []
but ks (t ∷ ts) = elim (has ks t) [ true ↦ but ks ts | false ↦ t ∷ but ks ts ]

abbrev pub except : List ℕ → List ℕ
except ks =
    but ks (off ∷ host ∷ free ∷ busy ∷ listen ∷ address ∷ send ∷ receive ∷ slave_receive ∷ slave_send ∷ stopping ∷ restarting ∷ [])

-- the arm of one turn, whose number is k
pub at_turn : (k : ℕ) (t : Turn) → tag_of the_type t ≡ k → (v : Bool) (ls : List ℕ) → has ls k ≡ v → among (kind t) ls ≡ v
at_turn k t e v ls h = among-has (kind t) ls ∙ ap (has ls) (sym (tag_kind t) ∙ e) ∙ h

-- the arm of several turns, and the default
pub at_turns : (ks : List ℕ) (t : Turn) → OneOf ks (tag_of the_type t) → (v : Bool) (ls : List ℕ) → T (every (λ k. same (has ls k) v) ks) →
    among (kind t) ls ≡ v
at_turns ks t h v ls p = ap (λ (k : ℕ). among k ls) (sym (tag_kind t)) ∙ keys_in ks (tag_of the_type t) h v ls p

-- "Status is F8h exactly when SI is 0": out of Host it is F8h
pub status-idle : (t : Turn) → among (kind t) (host ∷ []) ≡ false → status_of t ≡ 0xF8
unfolding kind status_of among when◌then◌else◌
status-idle Off e = refl
status-idle (Host s d) e = absurd (true≢false e)
status-idle Free e = refl
status-idle Busy e = refl
status-idle Listen e = refl
status-idle Address e = refl
status-idle Send e = refl
status-idle Receive e = refl
status-idle (SlaveReceive w) e = refl
status-idle SlaveSend e = refl
status-idle Stopping e = refl
status-idle Restarting e = refl

pub idle_not_38h : (t : Turn) → among (kind t) (host ∷ []) ≡ false → at38h t ≡ false
idle_not_38h t e = ap (λ (status : ℕ). eqb status 0x38) (status-idle t e)

-- any other status is Host's
pub hosted-turn : (t : Turn) → eqb (status_of t) 0xF8 ≡ false → t ≡ Host (status_of t) (edge_of t)
unfolding status_of edge_of
hosted-turn Off e = absurd (true≢false e)
hosted-turn (Host s d) e = refl
hosted-turn Free e = absurd (true≢false e)
hosted-turn Busy e = absurd (true≢false e)
hosted-turn Listen e = absurd (true≢false e)
hosted-turn Address e = absurd (true≢false e)
hosted-turn Send e = absurd (true≢false e)
hosted-turn Receive e = absurd (true≢false e)
hosted-turn (SlaveReceive w) e = absurd (true≢false e)
hosted-turn SlaveSend e = absurd (true≢false e)
hosted-turn Stopping e = absurd (true≢false e)
hosted-turn Restarting e = absurd (true≢false e)

pub at38h-host : (t : Turn) → at38h t ≡ true → t ≡ Host 0x38 (edge_of t)
at38h-host t e =
    let s = eqb-true (status_of t) 0x38 e in
    hosted-turn t (ap (λ (n : ℕ). eqb n 0xF8) s) ∙ ap (λ (n : ℕ). Host n (edge_of t)) s
