-- A job at work: each access of a line keeps what holds between the job and what passed. Assumes nothing.
use mathlib.Core.Bool.{Bool, true, false, true≢false, false≢true}
use mathlib.Core.List.{List, [], ◌∷◌, ◌++◌}
use mathlib.Core.Path.{◌≡◌, sym, ap, subst, ◌∙◌}
use Prim.Native.Nat.{ℕ, ◌+◌, ◌<◌}
use native.Mathlib.Numerals.{add-one}
use native.Mathlib.Omega.{arith}
use borrow.Author.Tests.{ltb-true, ltb-false, eqb-true, eqb-false, eq-eqb, not-true}
use lib.Dec.{eqb, ltb}
use lib.ListN.{length, take, set, length-set}
use lib.Seq.{set_out, take-suc-set}
use Rattle.answer.specs.Ending.{number_of}
use Rattle.answer.specs.declared.ending.Ending.TheVariants.{Done}
use Rattle.notation.proofs.Cases.{and-on, and_right, split}
use Rattle.notation.specs.Choice.{when◌then◌else◌}
use Rattle.port.specs.Ask.{ask_for}
use Rattle.port.specs.Hear.{concludes, next_of, hears_at, hears, noted_at, asks_at, asks}
use Rattle.port.specs.InHand.{in_hand_at, nth, place_of, count_after}
use Rattle.port.specs.Stage.{stage_number}
use Rattle.port.specs.Stand.{at_stage, with_count, advanced, awaiting, ended}
use Rattle.port.specs.declared.ask.Ask.TheVariants.{Write, Read}
use Rattle.port.specs.declared.stage.Stage.TheVariants.{Waiting, Working, Recheck}
use Rattle.port.specs.declared.stand.Stand.{Stand}
use Rattle.port_chip.proofs.ByTest.{by_test}
use Rattle.port_chip.proofs.OfJob.{Fits, done_at, At, OfJob}
use Rattle.port_chip.proofs.DoneLine.{bytes_of, few_to_read, done_at_58h, fetches, in_hand_when_done, after-done, length-fetches, fetch-made, fetch-last}
use Rattle.port_chip.proofs.DoneLine.{fruitless, others-fruitless}
use Rattle.port_chip.proofs.SinceStatus.{SinceStatus, AllRead, one_byte, stop_asked}
use Rattle.port_chip.specs.Passed.{Exchange, ◌gave◌}
use Rattle.service.specs.Act.{Act, Then, goes_on, awaits, ends, finishes}
use Rattle.service.specs.JobTable.{job_table}

pub off-and-on : {A : Type 0} {b : Bool} → b ≡ false → b ≡ true → A
off-and-on off on = absurd (true≢false (sym on ∙ off))

module _ {sofar : List Exchange} {fetched : List ℕ} (places : length fetched ≡ 68) where
  pub holds : (s : Stand) → Fits s.job → At s.stage s sofar fetched → OfJob sofar fetched s
  holds s r a = record { fits = r; places = places; at = a }

  -- nothing is noted
  pub unnoted : (value : ℕ) {s : Stand} → OfJob sofar fetched s → OfJob sofar (set fetched 68 value) s
  unnoted value {s} r = subst (λ (f : List ℕ). OfJob sofar f s) (sym (set_out fetched 68 value (omega arith))) r

  -- over with another answer
  pub over_otherwise : (s : Stand) (answer count : ℕ) → eqb answer 0 ≡ false → Fits s.job → OfJob sofar fetched (ended s answer count)
  over_otherwise s answer count e r = holds (ended s answer count) r (λ z. absurd (eqb-false answer 0 e z))

  -- what follows on a line but that at which the job is done
  pub concluded : (after : Then) (s : Stand) → fruitless after ≡ true → Fits s.job → s.due ≡ false → OfJob sofar fetched (concludes after s)
  unfolding concludes
  concluded goes_on s e r off = holds (at_stage s Waiting) r (λ on _. off-and-on off on)
  concluded (awaits ending) s e r off = holds (awaiting s Waiting (number_of ending)) r (λ _ z. absurd (eqb-false _ 0 (not-true _ e) z))
  concluded (ends ending) s e r off = over_otherwise s _ 0 (not-true _ e) r
  concluded finishes s e r off = absurd (false≢true e)

-- one of the accesses in hand is made, and this follows on the last
abbrev Heard : List Exchange → List ℕ → ℕ → Stand → List Act → Then → Type 0
Heard sofar fetched value s xs after =
    let a = nth xs s.made in
    let t = with_count (at_stage s Working) (count_after a s.count value) in
    OfJob (sofar ++ ((ask_for a gave value) ∷ [])) (set fetched (place_of a) value)
    (when ltb (s.made + 1) (length xs) then next_of t (length xs) else concludes after t)

module _ {sofar : List Exchange} {fetched : List ℕ} (value : ℕ) where
  -- one of the accesses at the status at which the job is done
  module _ (s : Stand) (r : OfJob sofar fetched (at_stage s Working)) (atDone : s.status ≡ done_at s.job) where
    abbrev Since : List Exchange → List ℕ → Type 0
    Since passed bytes = SinceStatus (done_at s.job) passed bytes []

    -- not the last: a byte is read, and after the last byte I2CCON is looked at
    one-read : (count total : ℕ) → total ≡ bytes_of s.job + 1 → s.made < bytes_of s.job →
        OfJob (sofar ++ ((Read 1 gave value) ∷ [])) (set fetched s.made value) (next_of (with_count (at_stage s Working) count) total)
    unfolding next_of
    one-read count total e more =
        let n = bytes_of s.job in
        let t = with_count (at_stage s Working) count in
        let within : s.made < length fetched = omega (arith, r.places, few_to_read s.job.direction s.job.n r.fits.high) in
        let bytes = ap (λ (k : ℕ). take k (set fetched s.made value)) (add-one s.made) ∙ take-suc-set fetched s.made value within in
        let places = length-set fetched s.made value ∙ r.places in
        let since : Since (sofar ++ ((Read 1 gave value) ∷ [])) (take (s.made + 1) (set fetched s.made value)) =
        subst (λ (xs : List ℕ). Since (sofar ++ ((Read 1 gave value) ∷ [])) xs) (sym bytes) (one_byte ((r.at.reading atDone).amid more) value) in
        let at58 = eq-eqb s.status 0x58 (atDone ∙ done_at_58h s.job.direction s.job.n s.made more) in
        split (OfJob (sofar ++ ((Read 1 gave value) ∷ [])) (set fetched s.made value)) _ _ _
        (λ last.
        let all : s.made + 1 ≡ n = omega (arith, e, eqb-true (s.made + 2) total (and_right _ _ last)) in
        holds places (at_stage (advanced t) Recheck) r.fits (record { off = r.at.off; listed = r.at.listed; reading = λ _. (all, since) }))
        (λ amid.
        let other = eqb-false (s.made + 2) total (sym (and-on _ _ at58) ∙ amid) in
        holds places (advanced t) r.fits (record {
          off = r.at.off;
          listed = r.at.listed;
          reading = λ _. record { within = omega arith; amid = λ _. since; all = λ all. absurd (other (omega (arith, all, e))) };
        }))

    -- the last: 50h is written
    stop_written : (count : ℕ) → s.made ≡ bytes_of s.job →
        OfJob (sofar ++ ((Write 3 0x50 gave value) ∷ [])) (set fetched 68 value) (concludes (awaits Done) (with_count (at_stage s Working) count))
    unfolding concludes
    stop_written count all =
        unnoted r.places value
        (holds r.places (awaiting (with_count (at_stage s Working) count) Waiting 0) r.fits
        (λ _ _. stop_asked (subst (λ (k : ℕ). AllRead s.job.direction sofar (take k fetched)) all ((r.at.reading atDone).all all)) value))

    read-on : Heard sofar fetched value s (fetches (bytes_of s.job)) (awaits Done)
    unfolding ask_for place_of
    read-on =
        let n = bytes_of s.job in
        let t : Act → Stand = λ a. with_count (at_stage s Working) (count_after a s.count value) in
        let P : Act → Stand → Type 0 = λ a u. OfJob (sofar ++ ((ask_for a gave value) ∷ [])) (set fetched (place_of a) value) u in
        let total = length-fetches n in
        split (P (nth (fetches n) s.made)) _ _ _
        (λ e.
        let more : s.made < n = omega (arith, total, ltb-true (s.made + 1) (length (fetches n)) e) in
        subst (λ (a : Act). P a (next_of (t a) (length (fetches n)))) (sym (fetch-made n s.made more)) (one-read _ _ total more))
        (λ e.
        let all : s.made ≡ n = omega (arith, total, (r.at.reading atDone).within, ltb-false (s.made + 1) (length (fetches n)) e) in
        subst (λ (a : Act). P a (concludes (awaits Done) (t a))) (sym (ap (nth (fetches n)) all ∙ fetch-last n)) (stop_written _ all))

  -- one of the accesses at another status
  work-on : (s : Stand) → OfJob sofar fetched (at_stage s Working) → eqb s.status (done_at s.job) ≡ false → (xs : List Act) (after : Then) →
      fruitless after ≡ true → Heard sofar fetched value s xs after
  unfolding next_of
  work-on s r e xs after f =
      let a = nth xs s.made in
      let places = length-set fetched (place_of a) value ∙ r.places in
      let t = with_count (at_stage s Working) (count_after a s.count value) in
      let P = OfJob (sofar ++ ((ask_for a gave value) ∷ [])) (set fetched (place_of a) value) in
      let no : s.status ≡ done_at s.job → ⊥ = eqb-false s.status (done_at s.job) e in
      split P _ _ _
      (λ _. split P _ _ _
      (λ _. holds places (at_stage (advanced t) Recheck) r.fits (record { off = r.at.off; listed = r.at.listed; reading = λ q. absurd (no q) }))
      (λ _. holds places (advanced t) r.fits (record { off = r.at.off; listed = r.at.listed; reading = λ q. absurd (no q) })))
      (λ _. concluded places after _ f r.fits r.at.off)

module _ (sofar : List Exchange) (fetched : List ℕ) (payload : List ℕ) (value : ℕ) where
  -- the value is heard
  abbrev pub Hears : Stand → Type 0
  Hears s = OfJob (sofar ++ ((asks s payload gave value) ∷ [])) (set fetched (noted_at s payload) value) (hears s payload value)

  -- at whatever status
  pub at-work : (s : Stand) → OfJob sofar fetched (at_stage s Working) → Hears (at_stage s Working)
  unfolding hears hears_at asks asks_at noted_at stage_number when◌then◌else◌ in_hand_at
  at-work s r =
      let d = s.job.direction in
      let line = job_table s.job payload s.status s.count in
      let P = Heard sofar fetched value s in
      by_test (eqb s.status (done_at s.job))
      (λ e.
      let atDone = eqb-true s.status (done_at s.job) e in
      subst (λ (xs : List Act). P xs line.after) (sym (in_hand_when_done s.job payload s.status s.count d atDone r.fits.high))
      (subst (λ (a : Then). P (fetches (bytes_of s.job)) a) (sym (after-done s.job payload s.status s.count d atDone))
      (read-on value s r atDone)))
      (λ e. work-on value s r e _ line.after (others-fruitless s.job payload s.count d s.status r.at.listed e))
