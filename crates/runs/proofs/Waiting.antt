-- Events while the job waits for the bus: other masters' traffic, and the START. Assumes nothing.
use mathlib.Core.Bool.{true, false}
use mathlib.Core.List.{List, [], ◌∷◌}
use mathlib.Core.Path.{◌≡◌, refl, sym, ap, subst, ◌∙◌}
use Prim.Native.Nat.{ℕ}
use native.Mathlib.Omega.{arith}
use lib.Dec.{eqb}
use lib.ListN.{length-set}
use lib.Seq.{get_or-set_same}
use Rattle.address.specs.Number.{byte_of}
use Rattle.address.specs.declared.matching.Match.{Match}
use Rattle.control.proofs.Turning.{status-idle}
use Rattle.control.specs.Flags.{flags_of}
use Rattle.control.specs.Turn.{host, free, busy, listen, address, slave_receive, restarting, wire_turns, kind, status_of}
use Rattle.control.specs.Writing.{response, responds_at}
use Rattle.control.specs.declared.turn.Edge.TheVariants.{Stop}
use Rattle.control.specs.declared.turn.Turn.TheVariants as turn
use Rattle.control.specs.declared.turn.Turn.{Turn}
use Rattle.controller.specs.Condition.{own_start, other_start, other_stop, matches, addressed, address_byte, illegal_edge, idle}
use Rattle.controller.specs.I2ccon.{keeps, bad_count}
use Rattle.controller.specs.Record.{sound}
use Rattle.controller.specs.Reply.{Outcome, waits_for, gives}
use Rattle.controller.specs.Setters.{with_turn}
use Rattle.controller.specs.declared.record.Controller.{Controller}
use Rattle.driver.specs.Run.{taking}
use Rattle.notation.proofs.Among.{among-has, within, apart}
use Rattle.notation.proofs.Cases.{and_left, and_right, split}
use Rattle.notation.specs.Choice.{when◌then◌else◌, ◌and◌, among}
use Rattle.service.proofs.AccessesLeave.{controlled_to, control-written, data_written, data_written_lem}
use Rattle.service.proofs.Sound.{put-sound}
use Rattle.runs.proofs.Ends.{at-fault}
use Rattle.runs.proofs.Invariant.{In, waiting_turns, early_turns, Good, Stepped, going, good-waiting, good-addressing}
use Rattle.runs.proofs.Lines.{Line, address_work, fault_work, addresses}
use Rattle.runs.proofs.Step.{KeepsOrEnds, hosted, refusing, hosting, idling, here, not_38h, keep, early-good, no_match}
use Rattle.service.specs.Act.{put}
use Rattle.service.specs.Progress.{with_record}
use Rattle.service.specs.Serve.{Table}
use Rattle.service.specs.declared.job.Job.{Job}
use Rattle.service.specs.declared.progress.Progress.{Progress}

pub free-waits : among (kind turn.Free) waiting_turns ≡ true
unfolding kind
free-waits = among-has free waiting_turns

pub busy-waits : among (kind turn.Busy) waiting_turns ≡ true
unfolding kind
busy-waits = among-has busy waiting_turns

pub listen-waits : among (kind turn.Listen) waiting_turns ≡ true
unfolding kind
listen-waits = among-has listen waiting_turns

-- 08h: the address byte is put at place 0, and the driver waits in Address
module _ (byte : ℕ) (h : Controller) (s : sound h ≡ true) where
  abbrev addressing : Controller
  addressing = put (put h 1 byte) 3 0x40

  addresses_to : h.turn ≡ turn.Host 0x08 Stop → h.hand ≡ 0 → addressing ≡ controlled_to (data_written h byte) (flags_of 0x40) turn.Address
  unfolding kind status_of among response responds_at flags_of bad_count when◌then◌else◌ ◌and◌
  addresses_to t z =
      let e = data_written_lem h byte s (ap (λ (u : Turn). among (kind u) wire_turns) t) (omega (arith, z)) in
      let still = subst (λ d. sound d ≡ true) e (put-sound h 1 byte s) in
      ap (λ (d : Controller). put d 3 0x40) e ∙
      control-written (data_written h byte) 0x40 (turn.Host 0x08 Stop) turn.Address still t refl refl refl refl refl

  addresses-sound : sound addressing ≡ true
  addresses-sound = put-sound _ 3 0x40 (put-sound h 1 byte s)

module _ {job : Job} {payload carried : List ℕ} {sent : ℕ} {p : Progress} (g : Good job payload carried sent p) where
  -- on with another such turn
  stay : (t : Turn) → In p waiting_turns → among (kind t) waiting_turns ≡ true → sound (with_turn p.controller t) ≡ true →
      Good job payload carried sent (taking p (with_turn p.controller t))
  unfolding taking
  stay t w v s =
      let b = g.whole in
      early-good g _ (within _ waiting_turns early_turns tt w)
      (good-waiting job payload _ (record { sound = s; count = b.count; places = b.places; notes = b.notes; lasts = b.lasts }) g.aa v)

module _ (table : Table) {job : Job} {payload carried : List ℕ} {sent : ℕ} {p : Progress} (g : Good job payload carried sent p) where
  abbrev S : ℕ → ℕ → Outcome → Type 0
  S number argument o = KeepsOrEnds table job payload carried sent p number argument o

  waiting : (number argument : ℕ) (t : Turn) (value : ℕ) → eqb number 14 ≡ false → eqb number 4 ≡ false → eqb number 7 ≡ false →
      eqb number 6 ≡ false → In p waiting_turns → among (kind t) waiting_turns ≡ true → S number argument (waits_for p.controller t value)
  unfolding waits_for
  waiting number argument t value h k m n w v =
      idling table g number argument (with_turn p.controller t) value h k (status-idle t (apart (kind t) waiting_turns (host ∷ []) tt v))
      (λ s. keep g number argument _ m n (stay g t w v s))

  -- 2: another's START
  pub other_start_lem : (argument : ℕ) → S 2 argument (other_start p.controller)
  unfolding other_start
  other_start_lem argument =
      split (S 2 argument) _ _ _
      (λ t. waiting 2 argument turn.Listen 0 refl refl refl refl (within _ (free ∷ busy ∷ []) waiting_turns tt t) listen-waits)
      (λ t. split (S 2 argument) _ _ _ (λ u. absurd (here g (restarting ∷ []) tt u))
      (λ u. split (S 2 argument) _ _ _ (λ v. absurd (here g (slave_receive ∷ []) tt v)) (λ v. refusing table g 2 argument 7)))

  -- 3: another's STOP
  pub other_stop_lem : (argument : ℕ) → S 3 argument (other_stop p.controller)
  unfolding other_stop
  other_stop_lem argument =
      split (S 3 argument) _ _ _
      (λ t. waiting 3 argument turn.Free 0 refl refl refl refl (within _ (busy ∷ []) waiting_turns tt t) free-waits)
      (λ t. split (S 3 argument) _ _ _ (λ u. absurd (here g (slave_receive ∷ []) tt u))
      (λ u. split (S 3 argument) _ _ _ (λ v. absurd (not_38h g v)) (λ v. refusing table g 3 argument 7)))

  -- 5: an address byte
  addressed-step : (argument : ℕ) → In p (listen ∷ []) → S 5 argument (addressed p.controller (matches p.controller argument))
  unfolding addressed
  addressed-step argument t =
      subst (λ (m : Match). S 5 argument (addressed p.controller m)) (sym (no_match g argument))
      (waiting 5 argument turn.Busy 1 refl refl refl refl (within _ (listen ∷ []) waiting_turns tt t) busy-waits)

  pub address-byte : (argument : ℕ) → S 5 argument (address_byte p.controller argument)
  unfolding address_byte
  address-byte argument = split (S 5 argument) _ _ _ (addressed-step argument) (λ t. refusing table g 5 argument 7)

  -- 10: START or STOP at an illegal place
  pub illegal_edge_lem : Line table 0x00 fault_work → (argument : ℕ) → S 10 argument (illegal_edge p.controller)
  unfolding illegal_edge
  illegal_edge_lem line argument =
      split (S 10 argument) _ _ _ (λ t. hosting table g 10 argument _ 0x00 0 line refl refl refl (λ s. at-fault g 10 argument refl _))
      (λ t. split (S 10 argument) _ _ _
      (λ u. idling table g 10 argument p.controller 0 refl refl (status-idle _ (apart _ waiting_turns (host ∷ []) tt u))
      (λ s. stay g p.controller.turn u u s)) (λ u. refusing table g 10 argument 7))

  -- the START came: 08h
  module _ (line : Line table 0x08 (address_work (byte_of job.address job.direction).0)) where
    started : (number argument : ℕ) → eqb number 14 ≡ false → eqb number 4 ≡ false → eqb number 7 ≡ false → eqb number 6 ≡ false →
        In p waiting_turns → S number argument (gives p.controller 0x08 0)
    unfolding taking kind keeps flags_of when◌then◌else◌
    started number argument h k m n w =
        hosting table g number argument p.controller 0x08 0 line refl h k
        (λ s. let c = hosted p.controller 0x08 in
        let x = (byte_of job.address job.direction).0 in
        let e = addresses_to x c s refl refl in
        let b = g.whole in
        let l = b.places in
        let still = subst (λ (y : Controller). sound y ≡ true) e (addresses-sound x c s) in
        let still_68 = length-set p.controller.buffer 0 x ∙ l in
        subst (Stepped job payload carried sent number argument) (sym (addresses x (taking p c)))
        (subst (λ (y : Controller). Stepped job payload carried sent number argument (with_record (taking p c) y)) (sym e)
        (going k (keep g number argument _ m n (early-good g _ (within _ waiting_turns early_turns tt w)
        (good-addressing job payload _
        (record { sound = still; count = b.count; places = still_68; notes = b.notes; lasts = b.lasts }) refl
        (among-has address (address ∷ [])) refl (get_or-set_same p.controller.buffer 0 x 0 (omega arith))))))))

    -- 1: own START
    pub own_start_lem : (argument : ℕ) → S 1 argument (own_start p.controller)
    unfolding own_start
    own_start_lem argument =
        split (S 1 argument) _ _ _ (λ t. started 1 argument refl refl refl refl (within _ (free ∷ []) waiting_turns tt (and_left _ _ t)))
        (λ t. split (S 1 argument) _ _ _ (λ u. absurd (here g (restarting ∷ []) tt u)) (λ u. refusing table g 1 argument 7))

    -- 13: idle past the time-out
    pub idle_time : (argument : ℕ) → S 13 argument (idle p.controller)
    unfolding idle
    idle_time argument =
        split (S 13 argument) _ _ _
        (λ t. started 13 argument refl refl refl refl (within _ (busy ∷ listen ∷ []) waiting_turns tt (and_right _ _ (and_right _ _ t))))
        (λ t. refusing table g 13 argument 7)
