-- Every step of a job keeps what holds between it and what passed since it began. Assumes nothing.
use mathlib.Core.Bool.{Bool, true, false, not}
use mathlib.Core.List.{List, [], ◌∷◌, ◌++◌, append_assoc}
use mathlib.Core.Path.{◌≡◌, refl, sym, ap, subst, ◌∙◌}
use Prim.Native.Nat.{ℕ, ◌+◌, ◌≤◌}
use native.Mathlib.Omega.{arith}
use borrow.Author.Tests.{eqb-true, not-false}
use lib.Dec.{eqb, ltb}
use lib.ListN.{length, take, set}
use Rattle.address.specs.declared.number.Direction.TheVariants as direction
use Rattle.address.specs.declared.number.Direction.{Direction}
use Rattle.notation.proofs.Cases.{and-true, and_left, and_right, split}
use Rattle.notation.specs.Choice.{when◌then◌else◌, among}
use Rattle.port.specs.Ask.{ask_for}
use Rattle.port.specs.Hear.{enters, onward, looked, hears_at, hears, noted_at, asks_at, asks}
use Rattle.port.specs.InHand.{in_hand, notes}
use Rattle.port.specs.Look.{idle_control, still_control, stopped_control, meets}
use Rattle.port.specs.Stage.{stage_number}
use Rattle.port.specs.Stand.{at_stage, advanced, at_first, at_work, ended}
use Rattle.port.specs.declared.ask.Ask.TheVariants.{Read, Wait}
use Rattle.port.specs.declared.stage.Stage.TheVariants.{Over, Control, Status, First, Waiting, Look, Interrupted, Working, Recovering, Pausing, Recheck}
use Rattle.port.specs.declared.stage.Stage.{Stage}
use Rattle.port.specs.declared.stand.Stand.{Stand}
use Rattle.port_chip.proofs.AtWork.{off-and-on, holds, unnoted, over_otherwise, concluded, Hears, at-work}
use Rattle.port_chip.proofs.ByTest.{by_test}
use Rattle.port_chip.proofs.OfJob.{Fits, done_at, AtWork, AtRecheck, Between, OfJob}
use Rattle.port_chip.proofs.DoneLine.{to_read, bytes_of, fetches, in_hand_when_done, length-fetches, others-fruitless}
use Rattle.port_chip.proofs.SinceStatus.{SinceStatus, Checked, checked_so, and_then, look-more}
use Rattle.port_chip.specs.AnyChip.{is_look, reads_of}
use Rattle.port_chip.specs.Passed.{Exchange, ◌gave◌, is_over}
use Rattle.service.specs.Act.{Act, writes, reads_data, reads_all, reads_count, counts}
use Rattle.service.specs.JobTable.{job_table}

reads-control : is_look (Read 3) ≡ true
unfolding is_look among when◌then◌else◌
reads-control = refl

-- an access is not the end
pub access-asked : (a : Act) → is_over (ask_for a) ≡ false
unfolding is_over ask_for
access-asked (writes register value) = refl
access-asked (reads_data at) = refl
access-asked reads_all = refl
access-asked reads_count = refl
access-asked (counts count) = refl

-- there is an access in hand at the status at which the job is done
some : (n : ℕ) → length (fetches n) ≡ 0 → ⊥
some n e = omega (arith, length-fetches n, e)

-- no byte is to be read: a write, with no look before its 50h
none_read : (d : Direction) (n : ℕ) → 1 ≤ n → 0 ≡ to_read d n → Checked d []
none_read direction.Write n h e = tt
none_read direction.Read n h e = absurd (omega (arith, e))

chosen : {sofar : List Exchange} {fetched : List ℕ} (b : Bool) {x y : Stand} → OfJob sofar fetched x → OfJob sofar fetched y →
    OfJob sofar fetched (when b then x else y)
chosen {sofar} {fetched} b {x} {y} f g = split (OfJob sofar fetched) b x y (λ _. f) (λ _. g)

module _ (sofar : List Exchange) (fetched : List ℕ) (payload : List ℕ) (value : ℕ) where
  -- the work at a status is entered
  entered : (s : Stand) → Fits s.job → length fetched ≡ 68 → among value (meets s.job.direction) ≡ true →
      OfJob (sofar ++ ((Read 0 gave value) ∷ [])) fetched (enters s value (job_table s.job payload value s.count))
  unfolding enters
  entered s r places e =
      let d = s.job.direction in
      let work = job_table s.job payload value s.count in
      split (OfJob (sofar ++ ((Read 0 gave value) ∷ [])) fetched) _ _ _
      (λ none. by_test (eqb value (done_at s.job))
      (λ q.
      let in_hand = in_hand_when_done s.job payload value s.count d (eqb-true value (done_at s.job) q) r.high in
      absurd (some (bytes_of s.job) (sym (ap length in_hand) ∙ eqb-true _ 0 none)))
      (λ q. concluded places work.after _ (others-fruitless s.job payload s.count d value e q) r refl))
      (λ _. holds places (at_work s Working value (notes s.count work.acts)) r (record {
        off = refl;
        listed = e;
        reading = λ q.
            let since : SinceStatus (done_at s.job) (sofar ++ ((Read 0 gave value) ∷ [])) [] [] =
            record { before = sofar; made_up = ap (λ (k : ℕ). sofar ++ ((Read 0 gave k) ∷ [])) q } in
            record {
              within = omega arith;
              amid = λ _. since;
              all = λ none. record { look = []; checked = none_read d s.job.n r.low none; since = since };
            };
      }))

  -- after a wait, by I2CCON
  after_look : (s : Stand) → Fits s.job → length fetched ≡ 68 → Between s sofar fetched →
      OfJob (sofar ++ ((Read 3 gave value) ∷ [])) fetched (looked s value)
  unfolding looked stopped_control
  after_look s r places b =
      let P = OfJob (sofar ++ ((Read 3 gave value) ∷ [])) fetched in
      let more : Between s (sofar ++ ((Read 3 gave value) ∷ [])) fetched = λ on z. look-more (b on z) (Read 3) value reads-control in
      split P _ _ _ (λ _. over_otherwise places s 29 0 refl r)
      (λ ensio. split P _ _ _ (λ _. holds places (at_stage s Interrupted) r more)
      (λ quiet. split P _ _ _
      (λ e. holds places (ended s s.answer s.count) r (λ z.
      let asked = b (and_left _ _ e) z in
      let since = and_then asked.since (Read 3 gave value) in
      record {
        done = record {
          before = since.before;
          between = reads_of (take (bytes_of s.job) fetched) ++ asked.look;
          heard = asked.heard;
          looks = asked.looks;
          control = value;
          made_up = since.made_up ∙ simp append_assoc;
          all_look = asked.all_look;
          stopped = and-true _ _ (not-false _ ensio) (and-true _ _ (ap not quiet) (and_right _ _ e));
        };
        look = asked.look;
        checked = asked.checked;
        fetched = refl;
      }))
      (λ _. holds places (at_stage s Waiting) r more)))

  -- before 50h, by I2CCON: nothing has happened to the chip
  looked-still : (s : Stand) → AtRecheck (at_stage s Recheck) sofar fetched → still_control value ≡ true →
      AtWork (at_stage s Working) (sofar ++ ((Read 3 gave value) ∷ [])) fetched
  looked-still s a still = record {
    off = a.off;
    listed = a.listed;
    reading = λ q.
        let read = a.reading q in
        record {
          within = omega (arith, read.0);
          amid = λ h. absurd (omega (arith, read.0));
          all = λ _. record {
            look = (Read 3 gave value) ∷ [];
            checked = checked_so s.job.direction value still;
            since = and_then read.1 (Read 3 gave value);
          };
        };
  }

  -- either it is over and stays as it is, or the exchange is one more that passed
  pub data Stepped (s : Stand) : Type 0 where
    stays : is_over (asks s payload) ≡ true → hears s payload value ≡ s → noted_at s payload ≡ 68 → Stepped s
    goes : is_over (asks s payload) ≡ false → Hears sofar fetched payload value s → Stepped s

  -- a step at which nothing is noted
  notes-nothing : {s : Stand} → length fetched ≡ 68 → is_over (asks s payload) ≡ false → noted_at s payload ≡ 68 →
      OfJob (sofar ++ ((asks s payload gave value) ∷ [])) fetched (hears s payload value) → Stepped s
  notes-nothing {s} places o e r =
      goes o (subst (λ (k : ℕ). OfJob (sofar ++ ((asks s payload gave value) ∷ [])) (set fetched k value) (hears s payload value)) (sym e)
      (unnoted places value r))

  pub stepped : (x : Stage) (s : Stand) → OfJob sofar fetched (at_stage s x) → Stepped (at_stage s x)
  unfolding hears hears_at asks asks_at noted_at stage_number when◌then◌else◌ onward is_over is_look among
  stepped Over s r = stays refl refl refl
  stepped Control s r =
      notes-nothing r.places refl refl
      (chosen (idle_control value) (holds r.places (at_stage s Status) r.fits r.at) (over_otherwise r.places s 22 0 refl r.fits))
  stepped Status s r =
      notes-nothing r.places refl refl
      (chosen (eqb value 0xF8) (holds r.places (at_first s First) r.fits r.at) (over_otherwise r.places s 22 0 refl r.fits))
  stepped First s r =
      notes-nothing r.places (access-asked _) refl
      (chosen (ltb (s.made + 1) (length (in_hand (at_stage s First) payload))) (holds r.places (advanced (at_stage s First)) r.fits r.at)
      (holds r.places (at_stage s Waiting) r.fits (λ on _. off-and-on r.at on)))
  stepped Waiting s r =
      notes-nothing r.places refl refl (holds r.places (at_stage s Look) r.fits (λ on z. look-more (r.at on z) Wait value refl))
  stepped Look s r = notes-nothing r.places refl refl (after_look (at_stage s Look) r.fits r.places r.at)
  stepped Interrupted s r =
      notes-nothing r.places refl refl
      (split (OfJob _ fetched) (among value (meets s.job.direction)) _ _ (entered (at_stage s Interrupted) r.fits r.places)
      (λ _. holds r.places (at_stage s Waiting) r.fits (λ on z. look-more (r.at on z) (Read 0) value refl)))
  stepped Working s r = goes (access-asked _) (at-work sofar fetched payload value s r)
  stepped Recovering s r = absurd r.at
  stepped Pausing s r = absurd r.at
  stepped Recheck s r =
      notes-nothing r.places refl refl
      (split (OfJob _ fetched) (still_control value) _ _
      (λ still. holds r.places (at_stage s Working) r.fits (looked-still s r.at still))
      (λ _. over_otherwise r.places s 29 0 refl r.fits))
