-- The port looks at I2CCON and I2CSTA of a sound record. Assumes nothing.
use mathlib.Core.Bool.{true, false, not}
use mathlib.Core.List.{List}
use mathlib.Core.Path.{◌≡◌, refl, sym, ap, subst, ◌∙◌}
use Prim.Native.Nat.{ℕ, suc}
use lib.ListN.{length}
use Rattle.control.specs.Flags.{flags_of, reads_as}
use Rattle.control.specs.Turn.{wire_turns, kind}
use Rattle.controller.specs.Access.{indirect_at, bars_read, read_sound, read_of}
use Rattle.controller.specs.Record.{interrupts, sound}
use Rattle.controller.specs.Reply.{accepts}
use Rattle.controller.specs.declared.record.Controller.{Controller}
use Rattle.notation.proofs.Cases.{when-true, when-false, and-true, and_no_right}
use Rattle.notation.specs.Choice.{when◌then◌else◌, ◌and◌, among}
use Rattle.port.specs.Hear.{looked, hears, noted_at, asks}
use Rattle.port.specs.Look.{interrupt_in}
use Rattle.port.specs.Port.{step}
use Rattle.port.specs.Stand.{at_stage, ended}
use Rattle.port.specs.declared.ask.Ask.TheVariants.{Read}
use Rattle.port.specs.declared.stage.Stage.TheVariants.{Waiting, Interrupted}
use Rattle.port.specs.declared.stand.Stand.{Stand}
use Rattle.port_job.proofs.InHand.{holding, unnoted}
use Rattle.port_job.proofs.Settles.{Reaches, further}
use Rattle.port_job.specs.OnModel.{At, answers, exchange, no_access}
use Rattle.service.specs.declared.progress.Progress.{Progress}

-- register 3 is read in any turn, and changes nothing
pub control-read : (c : Controller) → sound c ≡ true → read_of c 3 ≡ accepts c (reads_as c.control (interrupts c))
unfolding read_of read_sound indirect_at bars_read when◌then◌else◌ ◌and◌
control-read c s = rw (s, and_no_right (among (kind c.turn) wire_turns) false refl)

-- a register is asked for, and read
pub after_read_lem : {t : At} {k : ℕ} (payload : List ℕ) (s : Stand) (p : Progress) (register value : ℕ) → length p.fetched ≡ 68 →
    asks s payload ≡ Read register → noted_at s payload ≡ 68 → read_of p.controller register ≡ accepts p.controller value →
    Reaches k (holding payload (hears s payload value) p) t → Reaches (suc k) (holding payload s p) t
unfolding exchange step answers accepts no_access
after_read_lem {t} {k} payload s p register value l a n r h =
    further (ap no_access a) (subst (λ u. Reaches k u t) (sym heard) h)
  where
    heard : exchange (holding payload s p) ≡ holding payload (hears s payload value) p
    heard = rw (a, n, r, unnoted p.fetched value l)

-- what the port does about I2CCON after a wait
module _ (s : Stand) (value : ℕ) where
  pub looks-reset : (flags_of value).ensio ≡ false → looked s value ≡ ended s 29 0
  unfolding looked
  looks-reset e = when-true _ _ _ (ap not e)

  module _ (e : (flags_of value).ensio ≡ true) where
    pub looks-interrupted : interrupt_in value ≡ true → looked s value ≡ at_stage s Interrupted
    unfolding looked
    looks-interrupted i = when-false _ _ _ (ap not e) ∙ when-true _ _ _ i

    module _ (i : interrupt_in value ≡ false) where
      pub looks-stopped : s.due ≡ true → (flags_of value).sto ≡ false → looked s value ≡ ended s s.answer s.count
      unfolding looked
      looks-stopped d t = when-false _ _ _ (ap not e) ∙ when-false _ _ _ i ∙ when-true _ _ _ (and-true _ _ d (ap not t))

      pub looks_on : (s.due and not (flags_of value).sto) ≡ false → looked s value ≡ at_stage s Waiting
      unfolding looked
      looks_on d = when-false _ _ _ (ap not e) ∙ when-false _ _ _ i ∙ when-false _ _ _ d
