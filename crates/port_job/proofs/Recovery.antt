-- The writes of a recovery bring any sound controller to Free, with ENSIO 1, and AA, STA and STO 0. Assumes nothing.
use mathlib.Core.Bool.{Bool, true, false, true≢false, false≢true}
use mathlib.Core.List.{List, [], ◌∷◌, ◌++◌}
use mathlib.Core.Path.{◌≡◌, refl, sym, ap, subst, ◌∙◌}
use Prim.Native.Nat.{ℕ}
use Rattle.control.specs.Flags.{flags_of}
use Rattle.control.specs.Turn.{kind, status_of}
use Rattle.control.specs.Writing.{response}
use Rattle.control.specs.declared.reason.Reason.{Reason}
use Rattle.control.specs.declared.turn.Turn.TheVariants.{Off, Free}
use Rattle.controller.specs.Access.{indirect_at, bars_write, write_sound, write_of}
use Rattle.controller.specs.I2ccon.{keeps, bad_count}
use Rattle.controller.specs.Record.{sound}
use Rattle.controller.specs.Registers.{wrote, write_pointer, write_at_pointer}
use Rattle.controller.specs.Reply.{Outcome, refuses, accepts}
use Rattle.controller.specs.Reset.{reset_with, reset, completes_reset, write_preset}
use Rattle.controller.specs.Setters.{with_pointer, with_armed}
use Rattle.controller.specs.declared.record.Controller.{Controller}
use Rattle.laws.proofs.Soundness.{write-stays-sound}
use Rattle.notation.proofs.Cases.{split}
use Rattle.notation.specs.Choice.{when◌then◌else◌, ◌and◌, ◌or◌, among}
use Rattle.port.specs.InHand.{alternates, recovers}
use Rattle.port_job.proofs.Ready.{Freed}
use Rattle.service.proofs.AccessesLeave.{control-written, pointer-written}
use Rattle.service.proofs.Sound.{put-sound}
use Rattle.service.specs.Act.{Act, writes, put, does, does_all}
use Rattle.service.specs.declared.progress.Progress.{Progress}

-- switched off, with these places: as a reset leaves it, whatever registers are set then
module _ (buffer : List ℕ) where
  record IsOff (d : Controller) : Type 0 where
    turn : d.turn ≡ Off
    sto : d.control.sto ≡ false
    same : d.buffer ≡ buffer

  record LeavesOff (o : Outcome) : Type 0 where
    off : IsOff o.next

  module _ (d : Controller) (h : IsOff d) where
    refused : (n : ℕ) → LeavesOff (refuses d n)
    unfolding refuses
    refused n = record { off = h }

    accepted : (e : Controller) (v : ℕ) → e.turn ≡ d.turn → e.control ≡ d.control → e.buffer ≡ d.buffer → LeavesOff (accepts e v)
    unfolding accepts
    accepted e v t k b = record { off = record { turn = t ∙ h.turn; sto = rw k h.sto; same = b ∙ h.same } }

    was-reset : (r : Reason) (v : ℕ) → LeavesOff (accepts (reset_with d.buffer r) v)
    unfolding accepts reset_with
    was-reset r v = record { off = record { turn = refl; sto = refl; same = h.same } }

    chosen : (b : Bool) (x y : Outcome) → (b ≡ true → LeavesOff x) → (b ≡ false → LeavesOff y) → LeavesOff (when b then x else y)
    chosen b x y f k = split LeavesOff b x y f k

    -- which register is meant is known
    never : (o : Outcome) → false ≡ true → LeavesOff o
    never o e = absurd (false≢true e)

    never' : (o : Outcome) → true ≡ false → LeavesOff o
    never' o e = absurd (true≢false e)

    -- INDPTR, and the register at the pointer
    zero-off : (value : ℕ) → LeavesOff (write_of d 0 value)
    unfolding write_of write_sound write_pointer wrote
    zero-off value = search (chosen, refused, accepted, never, never') depth 12

    two_off : (value : ℕ) → LeavesOff (write_of d 2 value)
    unfolding write_of write_sound write_at_pointer write_preset wrote
    two_off value = search (chosen, refused, accepted, was-reset, never, never') depth 12

  -- a register that can be written so
  abbrev KeepsOff : ℕ → Type 0
  KeepsOff register = (d : Controller) → IsOff d → (value : ℕ) → LeavesOff (write_of d register value)

  -- the registers that the caller wants set, and then these acts
  settings_off : (P : Progress → Type 0) (ys : List Act) → ((q : Progress) → sound q.controller ≡ true → IsOff q.controller → P (does_all ys q)) →
      (xs : List ℕ) (register other : ℕ) → KeepsOff register → KeepsOff other →
      (p : Progress) → sound p.controller ≡ true → IsOff p.controller → P (does_all (alternates register other xs ++ ys) p)
  unfolding alternates does_all does put
  settings_off P ys after [] register other k l p s h = after p s h
  settings_off P ys after (x ∷ xs) register other k l p s h =
      settings_off P ys after xs other register l k (does (writes register x) p) (write-stays-sound p.controller register x s)
      (k p.controller h x).off

-- so it is left
pub record BroughtBack (c d : Controller) : Type 0 where
  pub still-sound : sound d ≡ true
  pub freed : Freed d
  pub same : d.buffer ≡ c.buffer
  pub quiet : d.control.aa ≡ false

-- 40h to I2CCON, last
switched_on : (buffer : List ℕ) (d : Controller) → sound d ≡ true → IsOff buffer d →
    (Freed (put d 3 0x40)) × ((put d 3 0x40).buffer ≡ buffer) × ((put d 3 0x40).control.aa ≡ false)
unfolding response kind among when◌then◌else◌ flags_of bad_count ◌and◌ keeps status_of
switched_on buffer d s h =
    let left = control-written d 0x40 Off Free s h.turn refl refl refl refl refl in (
      subst Freed (sym left) (record { turn = refl; ensio = refl; sta = refl; sto = h.sto }),
      ap (λ (e : Controller). e.buffer) left ∙ h.same,
      ap (λ (e : Controller). e.control.aa) left,
    )

-- I2CPRESET, register 2 with the pointer at 05h, is written in any turn
preset_written : (c : Controller) (x : ℕ) → sound c ≡ true → c.pointer ≡ 5 → write_of c 2 x ≡ write_preset c x
unfolding write_of write_sound indirect_at bars_write write_at_pointer when◌then◌else◌ ◌and◌ ◌or◌
preset_written c x s p = rw (s, p)

-- the software reset, in any turn
resets : (c : Controller) → sound c ≡ true → put (put (put c 0 0x05) 2 0xA5) 2 0x5A ≡ reset c
unfolding put write_preset completes_reset accepts when◌then◌else◌ ◌and◌
resets c s =
    let pointed = with_armed (with_pointer c 5) false in
    let armed = with_armed pointed true in
    let points = pointer-written c 5 s in
    let pointed-sound = subst (λ (d : Controller). sound d ≡ true) points (put-sound c 0 5 s) in
    let arms = ap (λ (o : Outcome). o.next) (preset_written pointed 0xA5 pointed-sound refl) in
    let armed-sound = subst (λ (d : Controller). sound d ≡ true) arms (put-sound pointed 2 0xA5 pointed-sound) in
    ap (λ (d : Controller). put (put d 2 0xA5) 2 0x5A) points ∙ ap (λ (d : Controller). put d 2 0x5A) arms
    ∙ ap (λ (o : Outcome). o.next) (preset_written armed 0x5A armed-sound refl)

reset-off : (c : Controller) → IsOff c.buffer (reset c)
unfolding reset_with
reset-off c = record { turn = refl; sto = refl; same = refl }

pub brought_back_lem : (settings : List ℕ) (p : Progress) → sound p.controller ≡ true →
    BroughtBack p.controller (does_all (recovers settings) p).controller
unfolding recovers does_all does
brought_back_lem settings p s =
    let c = p.controller in
    settings_off c.buffer (λ q. BroughtBack c q.controller) (writes 3 0x40 ∷ [])
    (λ q t h. let on = switched_on c.buffer q.controller t h in
    record { still-sound = put-sound q.controller 3 0x40 t; freed = on.0; same = on.1; quiet = on.2 })
    settings 0 2 (zero-off c.buffer) (two_off c.buffer) _ (put-sound _ 2 0x5A (put-sound _ 2 0xA5 (put-sound c 0 0x05 s)))
    (subst (IsOff c.buffer) (sym (resets c s)) (reset-off c))
