-- "Host (exactly while SI is 1 ..)" and "Status is F8h exactly when SI is 0", as the registers show it. Assumes nothing.
use mathlib.Core.Bool.{Bool, true, false, not, true≢false}
use mathlib.Core.List.{[], ◌∷◌}
use mathlib.Core.Path.{◌≡◌, refl, sym, ap, ◌∙◌}
use Prim.Native.Nat.{ℕ, ◌+◌, ◌/◌, ◌%◌}
use borrow.Author.Tests.{eqb-true, eq-eqb}
use lib.Dec.{T, eqb}
use Rattle.control.proofs.Turning.{status-idle}
use Rattle.control.specs.Flags.{weighs, reads_as}
use Rattle.control.specs.Turn.{host, wire_turns, kind, status_of}
use Rattle.controller.proofs.SoundParts.{parts}
use Rattle.controller.specs.Access.{indirect_at, bars_read, read_sound, read_of}
use Rattle.controller.specs.Record.{interrupts, given_statuses, host_sound, sound}
use Rattle.controller.specs.Reply.{Outcome, accepts}
use Rattle.controller.specs.declared.record.Controller.{Controller}
use Rattle.notation.proofs.Among.{same, is_same, has, among-has}
use Rattle.notation.proofs.Cases.{when-true, and_no_right}
use Rattle.notation.specs.Choice.{when◌then◌else◌, ◌and◌, among}

-- a test that holds at both truth values holds at each
abbrev always : (Bool → Bool) → Bool
always f = elim (f true) [ true ↦ f false | false ↦ false ]

at_each : (f : Bool → Bool) → T (always f) → (b : Bool) → T (f b)
at_each f t true = first (f true) t
  where
    first : (a : Bool) → T (elim a [ true ↦ f false | false ↦ false ]) → T a
    first true h = tt
    first false h = h
at_each f t false = second (f true) t
  where
    second : (a : Bool) → T (elim a [ true ↦ f false | false ↦ false ]) → T (f false)
    second true h = h
    second false h = absurd h

abbrev w : Bool → ℕ → ℕ
w true n = n
w false n = 0

-- bit 3 of I2CCON's byte is SI, whatever the other flags: a test over the 64 bytes
abbrev bit3 : Bool → Bool → Bool → Bool → Bool → Bool → Bool
bit3 aa ensio sta sto si mode = same (eqb ((w aa 128 + w ensio 64 + w sta 32 + w sto 16 + w si 8 + w mode 1) / 8 % 2) 1) si

bit-three : (aa ensio sta sto si mode : Bool) → T (bit3 aa ensio sta sto si mode)
bit-three aa ensio sta sto si mode =
    at_each (bit3 aa ensio sta sto si)
    (at_each (λ e. always (bit3 aa ensio sta sto e))
    (at_each (λ d. always (λ e. always (bit3 aa ensio sta d e)))
    (at_each (λ c. always (λ d. always (λ e. always (bit3 aa ensio c d e))))
    (at_each (λ b. always (λ c. always (λ d. always (λ e. always (bit3 aa b c d e)))))
    (at_each (λ a. always (λ b. always (λ c. always (λ d. always (λ e. always (bit3 a b c d e)))))) tt aa) ensio) sta) sto) si) mode

weight : (b : Bool) (n : ℕ) → weighs b n ≡ w b n
unfolding weighs when◌then◌else◌
weight true n = refl
weight false n = refl

pub interrupt-bit : (c : Controller) → eqb (reads_as c.control (interrupts c) / 8 % 2) 1 ≡ interrupts c
unfolding reads_as
interrupt-bit c =
    let k = c.control in
    simp weight (is_same _ _ (bit-three k.aa k.ensio k.sta k.sto (interrupts c) k.mode))

-- what register 3 reads of a sound record
pub control-reads : (c : Controller) → sound c ≡ true → (read_of c 3).value ≡ reads_as c.control (interrupts c)
unfolding read_of read_sound indirect_at bars_read accepts when◌then◌else◌ ◌and◌
control-reads c s = rw (s, and_no_right (among (kind c.turn) wire_turns) false refl)

-- SI, as register 3 shows it, is 1 exactly in Host.
pub interrupts_exactly_in_host : (c : Controller) → sound c ≡ true → eqb ((read_of c 3).value / 8 % 2) 1 ≡ among (kind c.turn) (host ∷ [])
interrupts_exactly_in_host c s = ap (λ (v : ℕ). eqb (v / 8 % 2) 1) (control-reads c s) ∙ interrupt-bit c

-- a status that the rules give is not F8h
given-not-idle : (x : ℕ) → among x given_statuses ≡ true → eqb x 0xF8 ≡ false
given-not-idle x e = step (eqb x 0xF8) refl
  where
    step : (b : Bool) → eqb x 0xF8 ≡ b → eqb x 0xF8 ≡ false
    step true q = absurd (true≢false (sym e ∙ among-has x given_statuses ∙ ap (has given_statuses) (eqb-true x 0xF8 q)))
    step false q = q

-- register 0 of a sound record is read, and shows the turn's status
pub status-accepted : (c : Controller) → sound c ≡ true → read_of c 0 ≡ accepts c (status_of c.turn)
unfolding read_of read_sound indirect_at bars_read when◌then◌else◌ ◌and◌
status-accepted c s = rw (s, and_no_right (among (kind c.turn) wire_turns) false refl)

pub status-reads : (c : Controller) → sound c ≡ true → (read_of c 0).value ≡ status_of c.turn
unfolding accepts
status-reads c s = ap (λ (o : Outcome). o.value) (status-accepted c s)

idle-status : (c : Controller) → sound c ≡ true → eqb (status_of c.turn) 0xF8 ≡ not (interrupts c)
unfolding host_sound
idle-status c s = step (interrupts c) refl
  where
    step : (b : Bool) → interrupts c ≡ b → eqb (status_of c.turn) 0xF8 ≡ not b
    step true h = given-not-idle (status_of c.turn) (sym (when-true (interrupts c) _ _ h) ∙ (parts c s).host)
    step false h = eq-eqb (status_of c.turn) 0xF8 (status-idle c.turn h)

-- Status, as register 0 reads it, is F8h exactly when SI, as register 3 shows it, is 0.
pub idle_exactly_without_interrupt : (c : Controller) → sound c ≡ true → eqb (read_of c 0).value 0xF8 ≡ not (eqb ((read_of c 3).value / 8 % 2) 1)
idle_exactly_without_interrupt c s =
    ap (λ (v : ℕ). eqb v 0xF8) (status-reads c s) ∙ idle-status c s ∙ ap not (sym (interrupts_exactly_in_host c s))
