-- Event 6 of a job: the address byte out, and data bytes out. Assumes nothing.
use mathlib.Core.Bool.{true, false}
use mathlib.Core.List.{List, [], ◌∷◌}
use mathlib.Core.Path.{◌≡◌, refl, sym, ap, subst, ◌∙◌}
use Prim.Native.Nat.{ℕ, suc, ◌+◌, ◌%◌, ◌≤◌}
use native.Mathlib.Omega.{arith}
use lib.Dec.{eqb}
use lib.ListN.{length, take}
use Rattle.std.specs.Prelude.{Some}
use Rattle.address.specs.Number.{direction_of}
use Rattle.address.specs.declared.number.Direction.TheVariants.{Write, Read}
use Rattle.address.specs.declared.number.Direction.{Direction}
use Rattle.answer.specs.Ending.{number_of}
use Rattle.answer.specs.declared.ending.Ending.TheVariants as ending
use Rattle.control.proofs.Turning.{status-idle}
use Rattle.control.specs.Flags.{flags_of}
use Rattle.control.specs.Turn.{faults, host, address, send, data_turns}
use Rattle.control.specs.Writing.{end_or, responds_at}
use Rattle.control.specs.declared.turn.Edge.TheVariants.{Stop}
use Rattle.control.specs.declared.turn.Turn.TheVariants as turn
use Rattle.controller.specs.Record.{byte_count, sound}
use Rattle.controller.specs.Reply.{Outcome, accepts, gives}
use Rattle.controller.specs.Setters.{with_pointer, with_armed}
use Rattle.controller.specs.Transfer.{counted, data_out, address_status, sent_direction}
use Rattle.controller.specs.declared.record.Controller.{Controller}
use Rattle.driver.specs.Run.{taking}
use Rattle.laws.proofs.Addresses.{direction-back}
use Rattle.notation.proofs.Among.{within, apart}
use Rattle.notation.proofs.Cases.{split}
use Rattle.notation.specs.Choice.{when◌then◌else◌, among}
use Rattle.service.proofs.AccessesLeave.{pointer-written, count-read}
use Rattle.service.proofs.Sound.{put-sound}
use Rattle.runs.proofs.Invariant.{In, early_turns, write_no_read, count-below, limit, limit-low, below-count, Whole, Good, Stepped, going, good-sending}
use Rattle.runs.proofs.Lines.{Line, data_work, receive_work, nacked_work, sent_work, data_nacked_work}
use Rattle.runs.proofs.Lines.{loads, receives, counts-and-stops, points_back, finds_and_stops}
use Rattle.runs.proofs.Starts.{stops-good, sends-good, receives-good}
use Rattle.runs.proofs.Step.{KeepsOrEnds, hosted, hosting, idling, regood}
use Rattle.service.proofs.Formed.{Formed}
use Rattle.service.specs.Act.{put}
use Rattle.service.specs.Progress.{with_record}
use Rattle.service.specs.Serve.{Table}
use Rattle.service.specs.declared.job.Job.{Job}
use Rattle.service.specs.declared.progress.Progress.{Progress}

-- the record as the pointer is back at 00h
pub points-back : (h : Controller) → sound h ≡ true → points_back h ≡ with_armed (with_pointer h 0) false
points-back h s =
    let e = pointer-written h 7 s in
    let still = subst (λ (d : Controller). sound d ≡ true) e (put-sound h 0 7 s) in
    ap (λ (d : Controller). put d 0 0) (count-read (put h 0 7) ∙ e) ∙ pointer-written _ 0 still

pub back-sound : (h : Controller) → sound h ≡ true → sound (points_back h) ≡ true
back-sound h s = put-sound _ 0 0 (subst (λ (d : Controller). sound d ≡ true) (sym (count-read (put h 0 7))) (put-sound h 0 7 s))

-- the record and the notes after an event that gave a status
pub hosted-whole : {job : Job} {payload : List ℕ} (p : Progress) (c : Controller) (status : ℕ) → sound (hosted c status) ≡ true →
    c.registers ≡ p.controller.registers → length c.buffer ≡ 68 → Whole job payload p → Whole job payload (taking p (hosted c status))
unfolding taking
hosted-whole p c status s r l w = record { sound = s; count = ap (λ x. x.count) r ∙ w.count; places = l; notes = w.notes; lasts = w.lasts }

module _ {room places : ℕ} {job : Job} (payload : List ℕ) (form : Formed job (length payload) room places)
    {carried : List ℕ} {sent : ℕ} {p : Progress} (g : Good job payload carried sent p) where
  -- BC is n
  pub byte-count : byte_count p.controller ≡ job.n
  byte-count = ap (λ (x : ℕ). x % 128) g.whole.count ∙ count-below job.direction job.n form.high

  -- in Send moved is below n, so there is a place for one byte more in the out record
  next-sent : In p (send ∷ []) → suc sent ≤ limit job.direction job.n
  next-sent t =
      let f = g.sending t in
      let b = below-count p.controller g.whole.sound (within _ (send ∷ []) data_turns tt t) f.0 in
      let n = byte-count in
      let k = f.3 in
      subst (λ (d : Direction). suc sent ≤ limit d job.n) (sym f.1) (omega (arith, b, n, k))

module _ {job : Job} {payload carried : List ℕ} {sent : ℕ} {p : Progress} (g : Good job payload carried sent p) where
  -- one byte more was sent: the address byte
  first-sent : In p (address ∷ []) → suc sent ≤ limit job.direction job.n
  first-sent t =
      let e = (g.early (within _ (address ∷ []) early_turns tt t)).1 in
      let l = limit-low job.direction job.n in
      omega (arith, e, l)

  -- R of place 0 is the job's direction
  pub direction : In p (address ∷ []) → sent_direction p.controller ≡ job.direction
  direction t =
      ap (λ (x : ℕ). direction_of (record { 0 = x })) (g.addressing t).1 ∙ direction-back job.address job.direction

module _ (table : Table) {room places : ℕ} {job : Job} (payload : List ℕ) (form : Formed job (length payload) room places)
    {carried : List ℕ} {sent : ℕ} {p : Progress} (g : Good job payload carried sent p) where
  abbrev S : ℕ → ℕ → Outcome → Type 0
  S number argument o = KeepsOrEnds table job payload carried sent p number argument o

  -- the record and the notes at a status
  at-host : (status : ℕ) → sound (hosted p.controller status) ≡ true → Whole job payload (taking p (hosted p.controller status))
  at-host status s = hosted-whole p p.controller status s refl g.whole.places g.whole

  at-counted : (status : ℕ) → sound (hosted (counted p.controller) status) ≡ true →
      Whole job payload (taking p (hosted (counted p.controller) status))
  at-counted status s = hosted-whole p (counted p.controller) status s refl g.whole.places g.whole

  -- 20h, 48h: the address was not acknowledged
  nacked : (argument status value : ℕ) → Line table status nacked_work → eqb status 0xF8 ≡ false → In p (address ∷ []) →
      among status faults ≡ false → responds_at status Stop (flags_of 0x50) ≡ Some turn.Stopping → S 6 argument (gives p.controller status value)
  unfolding taking
  nacked argument status value line n t l r =
      hosting table g 6 argument p.controller status value line n refl refl
      (λ s. let q = taking p (hosted p.controller status) in
      subst (Stepped job payload carried sent 6 argument) (sym (counts-and-stops 0 ending.AddressNacked q))
      (going refl
      (stops-good carried (suc sent) q status ending.AddressNacked 0 (at-host status s) refl l r (first-sent g t) (λ z. absurd (never z)))))
    where
      never : number_of ending.AddressNacked ≡ 0 → ⊥
      never z = omega (arith, z)

  -- 18h, 40h: it was
  acked_write : Line table 0x18 (data_work (take job.n payload)) → (argument value : ℕ) → In p (address ∷ []) → job.direction ≡ Write →
      S 6 argument (gives p.controller 0x18 value)
  unfolding taking
  acked_write line argument value t d =
      hosting table g 6 argument p.controller 0x18 value line refl refl refl
      (λ s. let q = taking p (hosted p.controller 0x18) in
      let e = g.early (within _ (address ∷ []) early_turns tt t) in
      subst (Stepped job payload carried sent 6 argument) (sym (loads (take job.n payload) q))
      (going refl (regood {l = carried} refl (ap suc (sym e.1)) (sends-good payload form carried q (at-host 0x18 s) d refl refl))))

  acked_read : Line table 0x40 receive_work → (argument value : ℕ) → In p (address ∷ []) → job.direction ≡ Read →
      S 6 argument (gives p.controller 0x40 value)
  unfolding taking
  acked_read line argument value t d =
      hosting table g 6 argument p.controller 0x40 value line refl refl refl
      (λ s. let q = taking p (hosted p.controller 0x40) in
      let e = g.early (within _ (address ∷ []) early_turns tt t) in
      subst (Stepped job payload carried sent 6 argument) (sym (receives q))
      (going refl (regood (sym e.0) (ap suc (sym e.1)) (receives-good payload form q (at-host 0x40 s) d refl))))

  module _ (at_18 : Line table 0x18 (data_work (take job.n payload))) (at_40 : Line table 0x40 receive_work)
      (at_20 : Line table 0x20 nacked_work) (at_48 : Line table 0x48 nacked_work) where
    -- the address byte out
    pub address_out : (argument value : ℕ) → In p (address ∷ []) → (d : Direction) → job.direction ≡ d →
        S 6 argument (gives p.controller (address_status d argument) value)
    unfolding address_status responds_at end_or among flags_of when◌then◌else◌
    address_out argument value t Write d =
        split (λ (x : ℕ). S 6 argument (gives p.controller x value)) (eqb argument 1) 0x20 0x18
        (λ _. nacked argument 0x20 value at_20 refl t refl refl) (λ _. acked_write at_18 argument value t d)
    address_out argument value t Read d =
        split (λ (x : ℕ). S 6 argument (gives p.controller x value)) (eqb argument 1) 0x48 0x40
        (λ _. nacked argument 0x48 value at_48 refl t refl refl) (λ _. acked_read at_40 argument value t d)

  module _ (t : In p (send ∷ [])) where
    -- 30h: a data byte was not acknowledged
    data_nacked : Line table 0x30 data_nacked_work → (argument value : ℕ) → S 6 argument (gives (counted p.controller) 0x30 value)
    unfolding taking responds_at end_or among flags_of when◌then◌else◌
    data_nacked line argument value =
        hosting table g 6 argument (counted p.controller) 0x30 value line refl refl refl
        (λ s. let h = hosted (counted p.controller) 0x30 in
        let q = taking p h in
        let w = at-counted 0x30 s in
        let e = points-back h s in
        subst (Stepped job payload carried sent 6 argument) (sym (finds_and_stops ending.DataNacked q))
        (going refl
        (stops-good carried (suc sent) (with_record q (points_back h)) 0x30 ending.DataNacked _
        (record {
          sound = back-sound h s;
          count = ap (λ (d : Controller). d.registers.count) e ∙ w.count;
          places = ap (λ (d : Controller). length d.buffer) e ∙ w.places;
          notes = w.notes;
          lasts = w.lasts;
        }) (ap (λ (d : Controller). d.turn) e) refl refl (next-sent payload form g t) (λ z. absurd (never z)))))
      where
        never : number_of ending.DataNacked ≡ 0 → ⊥
        never z = omega (arith, z)

    -- 28h: the last was
    data_done : Line table 0x28 (sent_work job.n) → (argument value : ℕ) → S 6 argument (gives (counted p.controller) 0x28 value)
    unfolding taking responds_at end_or among flags_of when◌then◌else◌
    data_done line argument value =
        hosting table g 6 argument (counted p.controller) 0x28 value line refl refl refl
        (λ s. let q = taking p (hosted (counted p.controller) 0x28) in
        subst (Stepped job payload carried sent 6 argument) (sym (counts-and-stops job.n ending.Done q))
        (going refl
        (stops-good carried (suc sent) q 0x28 ending.Done job.n (at-counted 0x28 s) refl refl refl (next-sent payload form g t)
        (λ z r. write_no_read job.direction (g.sending t).1 r))))

    data_goes_on : (argument value : ℕ) → S 6 argument (accepts (counted p.controller) value)
    unfolding taking
    data_goes_on argument value =
        let f = g.sending t in
        let w = g.whole in
        idling table g 6 argument (counted p.controller) value refl refl (status-idle _ (apart _ (send ∷ []) (host ∷ []) tt t))
        (λ s. good-sending job payload _
        (record { sound = s; count = w.count; places = w.places; notes = w.notes; lasts = w.lasts }) g.aa
        carried (suc sent) (next-sent payload form g t) t f.0 f.1 f.2 (ap suc f.3 ∙ more))
      where
        more : ◌≡◌ {A = ℕ} (suc (suc p.controller.moved)) (suc (p.controller.moved + 1))
        more = omega arith

    -- a data byte out
    pub data_out_lem : Line table 0x30 data_nacked_work → Line table 0x28 (sent_work job.n) → (argument : ℕ) →
        S 6 argument (data_out p.controller argument 0x30 0x28)
    unfolding data_out
    data_out_lem at_30 at_28 argument =
        split (S 6 argument) _ _ _ (λ _. data_nacked at_30 argument _)
        (λ _. split (S 6 argument) _ _ _ (λ _. data_done at_28 argument _) (λ _. data_goes_on argument _))
