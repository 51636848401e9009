-- Bytes are handed up of a proven read alone, and a job is done only after own STOP. Assumes nothing.
use mathlib.Core.Bool.{true, false, true≢false, false≢true}
use mathlib.Core.List.{List, [], ◌∷◌, ◌++◌, append_assoc, append-nil}
use mathlib.Core.Path.{◌≡◌, refl, sym, ap, subst, ◌∙◌}
use Prim.Native.Nat.{ℕ}
use native.Mathlib.Omega.{arith}
use borrow.Author.Tests.{eqb-true, eqb-false, not-true, not-false}
use lib.Dec.{eqb}
use lib.ListN.{length, take, set, replicate, length-replicate}
use lib.Seq.{append_snoc, set_out, length-take-le}
use Rattle.address.specs.Number.{bit_of}
use Rattle.address.specs.declared.number.Direction.TheVariants.{Write, Read}
use Rattle.address.specs.declared.number.Direction.{Direction}
use Rattle.notation.proofs.Cases.{when-true, when-false, or-left-off, split}
use Rattle.port.specs.HandUp.{Taken, take_done, take_of}
use Rattle.port.specs.Hear.{noted_at, asks_at, asks}
use Rattle.port.specs.Port.{Port, step, asking, taken}
use Rattle.port.specs.Stage.{over, stage_number}
use Rattle.port.specs.Stand.{stand}
use Rattle.port.specs.declared.ask.Ask.TheVariants as ask
use Rattle.port.specs.declared.ask.Ask.{Ask}
use Rattle.port.specs.declared.stage.Stage.TheVariants.{Over, Control, Status, First, Waiting, Look, Interrupted, Working, Recovering, Pausing, Recheck}
use Rattle.port.specs.declared.stage.Stage.{Stage}
use Rattle.port.specs.declared.stand.Stand.{Stand}
use Rattle.port_chip.proofs.JobStays.{job-stays}
use Rattle.port_chip.proofs.Kept.{access-asked, Stepped, stays, goes, stepped}
use Rattle.port_chip.proofs.OfJob.{Fits, DoneWith, At, OfJob}
use Rattle.port_chip.proofs.DoneLine.{to_read, bytes_of}
use Rattle.port_chip.proofs.SinceStatus.{Checked}
use Rattle.port_chip.specs.AnyChip.{reads_of, ProvenRead, HandsUpProven, done_status, DoneSo}
use Rattle.port_chip.specs.Passed.{Exchange, ◌gave◌, is_over, after_all, passed}
use Rattle.service.specs.declared.job.Job.{Job}

-- nothing passes once it is over
no_more : (values : List ℕ) (p : Port) → is_over (asking p) ≡ true → passed p values ≡ []
unfolding passed
no_more [] p o = refl
no_more (value ∷ values) p o = when-true _ _ _ o

abbrev Shown : List Exchange → Port → Type 0
Shown sofar p = OfJob sofar p.fetched p.stand

-- one step of a job, with what holds of those after it
one-step : (sofar : List Exchange) (p : Port) (value : ℕ) (values : List ℕ) → Shown sofar p →
    Stepped sofar p.fetched p.payload value p.stand →
    ((before : List Exchange) (q : Port) → Shown before q → Shown (before ++ passed q values) (after_all q values)) →
    Shown (sofar ++ passed p (value ∷ values)) (after_all (step p value) values)
unfolding step passed
one-step sofar p value values r (stays o e n) later =
    let noted = ap (λ (k : ℕ). set p.fetched k value) n ∙ set_out p.fetched 68 value (omega (arith, r.places)) in
    let same : step p value ≡ p =
    ap (λ (t : Stand). record { stand = t; payload = p.payload; fetched = set p.fetched (noted_at p.stand p.payload) value }) e
    ∙ ap (λ (f : List ℕ). record { stand = p.stand; payload = p.payload; fetched = f }) noted in
    subst (λ (q : Port). Shown (sofar ++ passed p (value ∷ values)) (after_all q values)) (sym same)
    (subst (λ (xs : List Exchange). Shown (sofar ++ xs) (after_all p values)) (no_more values p o ∙ sym (no_more (value ∷ values) p o)) (later sofar p r))
one-step sofar p value values r (goes o h) later =
    subst (λ (xs : List Exchange). Shown xs (after_all (step p value) values))
    (append_snoc sofar (asking p gave value) (passed (step p value) values) ∙ ap (λ (xs : List Exchange). sofar ++ xs) (sym (when-false _ _ _ o)))
    (later (sofar ++ ((asking p gave value) ∷ [])) (step p value) h)

all_steps : (values : List ℕ) (sofar : List Exchange) (p : Port) → Shown sofar p → Shown (sofar ++ passed p values) (after_all p values)
unfolding passed after_all
all_steps [] sofar p r = subst (λ (xs : List Exchange). Shown xs p) (sym (append-nil sofar)) r
all_steps (value ∷ values) sofar p r =
    one-step sofar p value values r (stepped sofar p.fetched p.payload value p.stand.stage p.stand r) (all_steps values)

is_over_lem : (x : Stage) → eqb (stage_number x) over ≡ true → x ≡ Over
unfolding stage_number
is_over_lem Over e = refl
is_over_lem Control e = absurd (false≢true e)
is_over_lem Status e = absurd (false≢true e)
is_over_lem First e = absurd (false≢true e)
is_over_lem Waiting e = absurd (false≢true e)
is_over_lem Look e = absurd (false≢true e)
is_over_lem Interrupted e = absurd (false≢true e)
is_over_lem Working e = absurd (false≢true e)
is_over_lem Recovering e = absurd (false≢true e)
is_over_lem Pausing e = absurd (false≢true e)
is_over_lem Recheck e = absurd (false≢true e)

is_read_lem : (d : Direction) → eqb (bit_of d) 1 ≡ true → d ≡ Read
unfolding bit_of
is_read_lem Write e = absurd (false≢true e)
is_read_lem Read e = refl

write_no_read : {A : Type 0} {d : Direction} → d ≡ Write → d ≡ Read → A
write_no_read e f = let z : ◌≡◌ {A = ℕ} 0 1 = cc in absurd (omega arith)

module _ (job : Job) (exchanges : List Exchange) where
  nothing_up : (answer : ℕ) → eqb answer 0 ≡ false → HandsUpProven job exchanges answer []
  nothing_up answer e = record { proven = λ z. absurd (eqb-false answer 0 e z); none = λ _. refl }

  -- handed up is what a read that is over with 0 has read
  hands_up_lem : (s : Stand) (fetched : List ℕ) (room : ℕ) →
      (s.stage ≡ Over → s.answer ≡ 0 → s.job.direction ≡ Read → ProvenRead job exchanges (take s.job.n fetched)) →
      let t = take_of s fetched room in HandsUpProven job exchanges t.answer t.handed
  unfolding take_of take_done
  hands_up_lem s fetched room f =
      let P : Taken → Type 0 = λ t. HandsUpProven job exchanges t.answer t.handed in
      split P _ _ _ (λ _. nothing_up 27 refl)
      (λ o. split P _ _ _ (λ a. nothing_up s.answer (not-true _ a))
      (λ a. split P _ _ _ (λ _. nothing_up 21 refl)
      (λ d. record {
        proven = λ _.
            f (is_over_lem s.stage (not-false _ o)) (eqb-true s.answer 0 (not-false _ a)) (is_read_lem s.job.direction (not-false _ (or-left-off _ _ d)));
        none = λ e. absurd (true≢false e);
      })))

-- a read that is done: the bytes that it has read
proven : (job : Job) (exchanges : List Exchange) (fetched : List ℕ) → Fits job → length fetched ≡ 68 → job.direction ≡ Read →
    DoneWith job exchanges (take (bytes_of job) fetched) → ProvenRead job exchanges (take job.n fetched)
proven job exchanges fetched fits places is_read w =
    let done = w.done in
    let made : Direction → List Exchange → List Exchange = λ d between.
    done.before
    ++ ((ask.Read 0 gave done_status d) ∷ (between ++ ((ask.Write 3 0x50 gave done.heard) ∷ (done.looks ++ ((ask.Read 3 gave done.control) ∷ []))))) in
    let seen = subst (λ (d : Direction). Checked d w.look) is_read w.checked in
    let bytes =
    w.fetched
    ∙ ap (λ (d : Direction). reads_of (take (to_read d job.n) fetched) ++ w.look) is_read
    ∙ ap (λ (xs : List Exchange). reads_of (take job.n fetched) ++ xs) seen.one in
    record {
      before = done.before;
      rechecked = seen.rechecked;
      heard = done.heard;
      looks = done.looks;
      control = done.control;
      made_up =
          done.made_up
          ∙ ap (λ (d : Direction). made d done.between) is_read
          ∙ ap (made Read) bytes
          ∙ ap (λ (xs : List Exchange). done.before ++ ((ask.Read 0 gave 0x58) ∷ xs)) (append_assoc (reads_of (take job.n fetched)) _ _);
      still = seen.still;
      all_look = done.all_look;
      stopped = done.stopped;
      number = length-take-le job.n fetched (omega (arith, places, fits.high));
      is_read = is_read;
    }

not_yet : {A : Type 0} {x : Ask} {answer count : ℕ} → is_over x ≡ false → x ≡ ask.Over answer count → A
unfolding is_over
not_yet off e = absurd (true≢false (sym (ap is_over e) ∙ off))

-- over with this answer is asked for at one stage alone
over-asked : (x : Stage) (s : Stand) (payload : List ℕ) (answer count : ℕ) → asks_at x s payload ≡ ask.Over answer count → (x ≡ Over) × (s.answer ≡ answer)
unfolding asks_at is_over
over-asked Over s payload answer count e = (refl, cc)
over-asked Control s payload answer count e = not_yet refl e
over-asked Status s payload answer count e = not_yet refl e
over-asked First s payload answer count e = not_yet (access-asked _) e
over-asked Waiting s payload answer count e = not_yet refl e
over-asked Look s payload answer count e = not_yet refl e
over-asked Interrupted s payload answer count e = not_yet refl e
over-asked Working s payload answer count e = not_yet (access-asked _) e
over-asked Recovering s payload answer count e = not_yet (access-asked _) e
over-asked Pausing s payload answer count e = not_yet refl e
over-asked Recheck s payload answer count e = not_yet refl e

abbrev pub from : List ℕ → Stand → Port
from payload s = record { stand = s; payload = payload; fetched = replicate 68 0 }

abbrev pub at_beginning : Job → Stand
at_beginning job = stand Control job 0 0 false 27 0 false

module _ (job : Job) (payload values : List ℕ) where
  -- what holds of a job that was begun
  reached : Fits job → let q = from payload (at_beginning job) in Shown (passed q values) (after_all q values)
  reached fits = all_steps values [] (from payload (at_beginning job)) (record { fits = fits; places = length-replicate {A = ℕ} 68 0; at = refl })

  module _ (room : ℕ) where
    abbrev pub Handed : Stand → Type 0
    Handed s =
        let q = from payload s in
        let t = taken (after_all q values) room in HandsUpProven job (passed q values) t.answer t.handed

    -- a write, and a job that was not begun
    pub no_read : (s : Stand) → s.job.direction ≡ Write → Handed s
    no_read s w =
        let q = from payload s in
        let p = after_all q values in
        hands_up_lem job (passed q values) p.stand p.fetched room
        (λ _ _ d. write_no_read (ap (λ (j : Job). j.direction) (job-stays values q) ∙ w) d)

    pub begun : Fits job → Handed (at_beginning job)
    begun fits =
        let q = from payload (at_beginning job) in
        let p = after_all q values in
        let r = reached fits in
        hands_up_lem job (passed q values) p.stand p.fetched room
        (λ o a d. subst (λ (j : Job). ProvenRead j (passed q values) (take p.stand.job.n p.fetched)) (job-stays values q)
        (proven p.stand.job (passed q values) p.fetched r.fits r.places d
        (subst (λ (x : Stage). At x p.stand (passed q values) p.fetched) o r.at a)))

  module _ (count : ℕ) where
    abbrev pub Done : Stand → Type 0
    Done s = let q = from payload s in asking (after_all q values) ≡ ask.Over 0 count → DoneSo job (passed q values)

    pub done : Fits job → Done (at_beginning job)
    unfolding asks
    done fits e =
        let q = from payload (at_beginning job) in
        let p = after_all q values in
        let o = over-asked p.stand.stage p.stand p.payload 0 count e in
        subst (λ (j : Job). DoneSo j (passed q values)) (job-stays values q)
        (subst (λ (x : Stage). At x p.stand (passed q values) p.fetched) o.0 (reached fits).at o.1).done
