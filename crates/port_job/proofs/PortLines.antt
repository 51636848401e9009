-- At every status that a job meets, the port's table has the line of the job's, and what that line comes to. Assumes nothing.
use mathlib.Core.Bool.{Bool, true, false, false≢true}
use mathlib.Core.List.{List, [], ◌∷◌, ◌++◌}
use mathlib.Core.Path.{◌≡◌, refl, sym, ap, subst, ◌∙◌}
use Prim.Native.Nat.{ℕ, ◌≤◌}
use native.Mathlib.Omega.{arith}
use borrow.Author.Tests.{eqb-true}
use lib.Dec.{eqb}
use lib.ListN.{length, take, replicate}
use lib.Seq.{length-take-le, take-take, take_at}
use Rattle.address.specs.declared.number.Direction.TheVariants.{Write, Read}
use Rattle.address.specs.declared.number.Direction.{Direction}
use Rattle.answer.specs.Ending.{number_of, beside_of}
use Rattle.answer.specs.declared.ending.Ending.TheVariants.{Done, AddressNacked, DataNacked, Lost, Fault}
use Rattle.answer.specs.declared.ending.Ending.{Ending}
use Rattle.control.proofs.Turning.{hosted-turn, at38h-host}
use Rattle.control.specs.Flags.{flags_of}
use Rattle.control.specs.Turn.{host, kind, status_of, edge_of}
use Rattle.control.specs.Writing.{responds_at, response}
use Rattle.control.specs.declared.turn.Turn.TheVariants.{Host}
use Rattle.control.specs.declared.turn.Turn.{Turn}
use Rattle.controller.specs.I2ccon.{bad_count}
use Rattle.controller.specs.Record.{sound}
use Rattle.controller.specs.declared.record.Controller.{Controller}
use Rattle.notation.proofs.Cases.{when-false}
use Rattle.notation.specs.Choice.{when◌then◌else◌, ◌and◌, among}
use Rattle.port.specs.InHand.{reads_from}
use Rattle.port.specs.Look.{meets}
use Rattle.port.specs.Port.{padded, kept_data}
use Rattle.port_job.proofs.Flat.{Flat, Course, straight, rechecked}
use Rattle.port_job.proofs.Flat.{flat-own, flat-counted, flat-written, reads_only, each_read, flat-read}
use Rattle.runs.proofs.Lines.{Line, data_work, fault_work, JobLines, job_lines}
use Rattle.service.proofs.AccessesLeave.{control-written}
use Rattle.service.proofs.Formed.{Formed}
use Rattle.service.specs.Act.{Act, writes, counts, Then, goes_on, awaits, ends, Work, read_times, does, does_all}
use Rattle.service.specs.JobSteps.{stop_after}
use Rattle.service.specs.JobTable.{job_table}
use Rattle.service.specs.declared.job.Job.{Job}
use Rattle.service.specs.declared.progress.Progress.{Progress}

-- padded to 68 places, the bytes themselves are at the front
pub front : (xs : List ℕ) (n : ℕ) → length xs ≡ n → n ≤ 68 → take n (padded xs) ≡ xs
unfolding padded
front xs n l h = take-take n 68 (xs ++ replicate 68 0) h ∙ take_at xs _ n l

-- a job that ends at this status, after these acts, leaves the controller in Host, with as many places
abbrev StaysHost : ℕ → List Act → Type 0
StaysHost status acts = (p : Progress) → sound p.controller ≡ true → status_of p.controller.turn ≡ status →
    (among (kind (does_all acts p).controller.turn) (host ∷ []) ≡ true) × ((does_all acts p).controller.buffer ≡ p.controller.buffer)

-- what follows on the acts
pub data Follows (status : ℕ) (acts : List Act) : Then → Type 0 where
  going : Follows status acts goes_on
  stopping : (e : Ending) → beside_of e ≡ 0 → Follows status acts (awaits e)
  breaking : (e : Ending) → beside_of e ≡ 0 → among (number_of e) (0 ∷ 23 ∷ 24 ∷ []) ≡ false → StaysHost status acts → Follows status acts (ends e)

-- the line at a status, in the job's table and in the port's
pub record PortLine (job : Job) (kept payload : List ℕ) (status : ℕ) : Type 0 where
  pub work : Work
  pub xs : List Act
  pub theirs : (count : ℕ) → job_table job payload status count ≡ work
  pub ours : (count : ℕ) → job_table job kept status count ≡ work
  pub flat : Flat work.acts xs
  pub course : Course status xs
  pub follows : Follows status work.acts work.after

-- a fault is left as it is; after 38h 40h is written, and the turn stays
stays-at-fault : (status : ℕ) → eqb status 0xF8 ≡ false → StaysHost status []
unfolding does_all kind among when◌then◌else◌
stays-at-fault status n p s e =
    (ap (λ (t : Turn). among (kind t) (host ∷ [])) (hosted-turn p.controller.turn (ap (λ (x : ℕ). eqb x 0xF8) e ∙ n)), refl)

stays_at_38h : StaysHost 0x38 (writes 3 0x40 ∷ [])
unfolding does_all does kind among when◌then◌else◌ response responds_at flags_of bad_count ◌and◌ status_of edge_of
stays_at_38h p s e =
    let c = p.controller in
    let t = Host 0x38 (edge_of c.turn) in
    let left = control-written c 0x40 t t s (at38h-host c.turn (ap (λ (x : ℕ). eqb x 0x38) e)) refl refl refl refl refl in
    (ap (λ (d : Controller). among (kind d.turn) (host ∷ [])) left, ap (λ (d : Controller). d.buffer) left)

-- what holds at each number of a list holds at one of them
abbrev At : (ℕ → Type 0) → List ℕ → Type 0
At P [] = Unit {0}
At P (k ∷ ks) = P k × At P ks

one_of_them : (P : ℕ → Type 0) (ks : List ℕ) → At P ks → (x : ℕ) → among x ks ≡ true → P x
unfolding among
one_of_them P [] a x e = absurd (false≢true e)
one_of_them P (k ∷ ks) a x e = step (eqb x k) refl (one_of_them P ks a.1 x)
  where
    step : (b : Bool) → eqb x k ≡ b → (among x ks ≡ true → P x) → P x
    step true q later = subst P (sym (eqb-true x k q)) a.0
    step false q later = later (sym (when-false (eqb x k) true (among x ks) q) ∙ e)

-- the data as the port keeps them
abbrev pub kept_of : Job → List ℕ → List ℕ
kept_of job payload = padded (kept_data job.direction job.n payload)

module _ (job : Job) (payload : List ℕ) (high : job.n ≤ 68) where
  abbrev kept : List ℕ
  kept = kept_of job payload

  abbrev L : ℕ → Type 0
  L status = PortLine job kept payload status

  abbrev a : JobLines (job_table job payload) job payload
  a = job_lines job payload

  abbrev b : JobLines (job_table job kept) job kept
  b = job_lines job kept

  line : {status : ℕ} {work : Work} {xs : List Act} → Line (job_table job payload) status work → Line (job_table job kept) status work →
      Flat work.acts xs → Course status xs → Follows status work.acts work.after → L status
  line t o f c w = record { work = _; xs = _; theirs = t; ours = o; flat = f; course = c; follows = w }

  at_08 : L 0x08
  at_08 = line a.at_08 b.at_08 (flat-own _ (tt, (tt, tt)) (omega arith)) (straight refl) going

  at_18 : take job.n kept ≡ take job.n payload → length (take job.n payload) ≤ 68 → L 0x18
  at_18 e l =
      line a.at_18 (λ count. b.at_18 count ∙ ap (λ (bytes : List ℕ). data_work bytes) e) (flat-written (take job.n payload) 0x41 l)
      (straight refl) going

  at_40 : L 0x40
  at_40 = line a.at_40 b.at_40 (flat-own _ (tt, tt) (omega arith)) (straight refl) going

  -- 20h, 48h and 28h: a count, and 50h
  counted : (status n : ℕ) (e : Ending) → eqb status 0x58 ≡ false → beside_of e ≡ 0 → Line (job_table job payload) status (stop_after (counts n ∷ []) e) →
      Line (job_table job kept) status (stop_after (counts n ∷ []) e) → L status
  counted status n e s z t o = line t o (flat-counted n _ (tt, tt) (omega arith)) (straight s) (stopping e z)

  at_30 : L 0x30
  at_30 = line a.at_30 b.at_30 (flat-own _ (tt, (tt, (tt, (tt, tt)))) (omega arith)) (straight refl) (stopping DataNacked refl)

  at_58 : L 0x58
  at_58 =
      let n = read_times job.n in
      line a.at_58 b.at_58 (flat-read job.n 0x50) (rechecked (reads_from n 0) 0x50 refl (each_read n 0) (reads_only n 0)) (stopping Done refl)

  at_38 : L 0x38
  unfolding among when◌then◌else◌
  at_38 = line a.at_38 b.at_38 (flat-own _ (tt, tt) (omega arith)) (straight refl) (breaking Lost refl refl stays_at_38h)

  at-fault : (status : ℕ) → eqb status 0xF8 ≡ false → eqb status 0x58 ≡ false → Line (job_table job payload) status fault_work →
      Line (job_table job kept) status fault_work → L status
  unfolding among when◌then◌else◌
  at-fault status n s t o = line t o (flat-own [] tt (omega arith)) (straight s) (breaking Fault refl refl (stays-at-fault status n))

  -- the statuses at which a job of either direction ends
  at-ends : At L (0x38 ∷ 0x00 ∷ 0x70 ∷ 0x78 ∷ [])
  at-ends =
      let at_70 = at-fault 0x70 refl refl a.at_70 b.at_70 in
      let at_78 = at-fault 0x78 refl refl a.at_78 b.at_78 in
      (at_38, (at-fault 0x00 refl refl a.at_00 b.at_00, (at_70, (at_78, tt))))

  by_direction : (d : Direction) → job.direction ≡ d → (job.direction ≡ Write → job.n ≤ length payload) → At L (meets d)
  unfolding kept_data
  by_direction Write e l =
      let whole = length-take-le job.n payload (l e) in
      let same = ap (λ (x : Direction). take job.n (padded (kept_data x job.n payload))) e ∙ front (take job.n payload) job.n whole high in (
        at_08,
        (
          at_18 same (omega arith),
          (
            counted 0x20 0 AddressNacked refl refl a.at_20 b.at_20,
            (counted 0x28 job.n Done refl refl a.at_28 b.at_28, (at_30, at-ends)),
          ),
        ),
      )
  by_direction Read e l = (at_08, (at_40, (counted 0x48 0 AddressNacked refl refl a.at_48 b.at_48, (at_58, at-ends))))

-- the line at a status that a job meets
pub met-line : {room places : ℕ} (job : Job) (payload : List ℕ) (form : Formed job (length payload) room places) (status : ℕ) →
    among status (meets job.direction) ≡ true → PortLine job (kept_of job payload) payload status
met-line job payload form status e =
    one_of_them (λ s. PortLine job (kept_of job payload) payload s) (meets job.direction)
    (by_direction job payload form.high job.direction refl form.data_lent) status e
