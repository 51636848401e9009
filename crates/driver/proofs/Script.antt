-- One round of the run over pairs: what a pair, or the lack of one, makes of the run's definition. Assumes nothing.
use mathlib.Core.Bool.{Bool, true, false}
use mathlib.Core.List.{List, [], ◌∷◌}
use mathlib.Core.Path.{◌≡◌, refl, sym, ap, ◌∙◌}
use Prim.Native.Nat.{ℕ, ◌+◌, ◌-◌, ◌≤◌, ◌<◌}
use native.Mathlib.Nat.{le_of_suc-le-suc, not-suc-le-zero}
use native.Mathlib.Omega.{arith}
use borrow.Author.Tests.{eqb-false}
use lib.Dec.{eqb, ltb}
use lib.ListN.{length, take, drop, get_or, length-drop}
use lib.Seq.{length-take-le, take_all}
use Rattle.answer.specs.Refusal.{refusal_number}
use Rattle.answer.specs.declared.Refusal.TheVariants.{OutOfRange, BadArgument, OnTheWire, Locked, Unlisted}
use Rattle.answer.specs.declared.Refusal.TheVariants.{BadCount, BufferEnd, Unexpected, Inaccessible, Unsound}
use Rattle.answer.specs.declared.Refusal.{Refusal}
use Rattle.controller.specs.Event.{bad_argument, event_of}
use Rattle.controller.specs.Record.{sound}
use Rattle.controller.specs.Reply.{Outcome, refuses, accepts}
use Rattle.controller.specs.declared.record.Controller.{Controller}
use Rattle.laws.proofs.KeptAccesses.{reset-sound}
use Rattle.laws.proofs.Refusals.{event-stays}
use Rattle.laws.proofs.Soundness.{event-stays-sound}
use Rattle.notation.proofs.Overlay.{at_start, none}
use Rattle.driver.specs.Run.{Run, answering, result_of, closes, breaks, sending, taking, run}
use Rattle.driver.specs.declared.result.JobResult.{JobResult}
use Rattle.notation.specs.Overlay.{laid, laid_at}
use Rattle.answer.specs.declared.ending.Ending.TheVariants.{Unfinished, Refused}
use Rattle.notation.proofs.Cases.{when-true, when-false, split}
use Rattle.notation.specs.Choice.{when◌then◌else◌, ◌or◌}
use Rattle.service.specs.Act.{ends, follows}
use Rattle.service.specs.Progress.{with_record, reaching}
use Rattle.service.specs.Serve.{Table, serve}
use Rattle.service.specs.declared.progress.Progress.{Progress}

-- What is left of a run gives what the whole run gives: its result, the bytes read back, in the out record the bytes sent, from this place on, and how
-- many they are.
pub record Leads (left whole : Run) (at : ℕ) (out lent : List ℕ) : Type 0 where
  pub result : left.result ≡ whole.result
  pub fetched : left.fetched ≡ whole.fetched
  pub sent : laid_at at left.sent out ≡ laid whole.sent lent
  pub number : at + length left.sent ≡ length whole.sent

-- at the start all is left
pub begun : {left whole : Run} {out : List ℕ} → left ≡ whole → Leads left whole 0 out out
begun {left} {whole} {out} e =
    let number = ap (λ (r : Run). length r.sent) e in
    record {
      result = ap (λ (r : Run). r.result) e;
      fetched = ap (λ (r : Run). r.fetched) e;
      sent = at_start _ _ ∙ ap (λ (r : Run). laid r.sent out) e;
      number = omega (arith, number);
    }

-- The run is over, with nothing more sent: what the job is told, the bytes held, the out record and the number are those of the whole run.
pub ended : {left whole : Run} {sent : ℕ} {out lent : List ℕ} (q : Progress) → left ≡ closes q → Leads left whole sent out lent →
    (r : JobResult) → result_of r ≡ answering q.controller q.ending q.count q.events → r.sent ≡ sent →
    record {
      result : result_of r ≡ whole.result;
      fetched : q.fetched ≡ whole.fetched;
      sent : out ≡ laid whole.sent lent;
      number : r.sent ≡ length whole.sent;
    }
unfolding closes
ended {left} {whole} {sent} {out} q e l r is so_many =
    let none_left = ap (λ (r : Run). length r.sent) e in
    record {
      result = is ∙ sym (ap (λ (r : Run). r.result) e) ∙ l.result;
      fetched = sym (ap (λ (r : Run). r.fetched) e) ∙ l.fetched;
      sent = sym (ap (λ (r : Run). laid_at sent r.sent out) e ∙ none sent out) ∙ l.sent;
      number = omega (arith, none_left, l.number, so_many);
    }

-- one byte more is sent, and one less is left
one_less : (b : Bool) (value : ℕ) (xs : List ℕ) (sent : ℕ) →
    (when b then sent + 1 else sent) + length xs ≡ sent + length (when b then value ∷ xs else xs)
unfolding when◌then◌else◌
one_less true value xs sent = omega arith
one_less false value xs sent = refl

-- a pair is taken, and its byte noted
pub passes : {left rest whole : Run} {sent sent' : ℕ} {out out' lent : List ℕ} (event value : ℕ) → left ≡ sending event value rest →
    sent' ≡ (when eqb event 6 then sent + 1 else sent) →
    ((later : List ℕ) → laid_at sent' later out' ≡ laid_at sent (when eqb event 6 then value ∷ later else later) out) →
    Leads left whole sent out lent → Leads rest whole sent' out' lent
unfolding sending
passes {left} {rest} {whole} {sent} {sent'} {out} event value e next noted l = record {
  result = sym (ap (λ (r : Run). r.result) e) ∙ l.result;
  fetched = sym (ap (λ (r : Run). r.fetched) e) ∙ l.fetched;
  sent = noted rest.sent ∙ sym (ap (λ (r : Run). laid_at sent r.sent out) e) ∙ l.sent;
  number =
      ap (λ (n : ℕ). n + length rest.sent) next ∙ one_less (eqb event 6) value rest.sent sent
      ∙ sym (ap (λ (r : Run). sent + length r.sent) e) ∙ l.number;
}

-- so no more bytes are sent than pairs taken
pub at_most_one : (b : Bool) (sent sent' : ℕ) → sent' ≡ (when b then sent + 1 else sent) → sent' ≤ sent + 1
unfolding when◌then◌else◌
at_most_one true sent sent' e = omega (arith, e)
at_most_one false sent sent' e = omega (arith, e)

-- the progress as reached, where the record and the pairs taken are its own
pub reached : (p : Progress) (events : ℕ) → p.events ≡ events → reaching p p.controller events ≡ p
unfolding reaching
reached p events e = rw (sym e)

-- what comes after a pair that was served
abbrev after : Table → Progress → List ℕ → Run
after table q rest = when q.over then closes q else run table q rest

-- what a pair makes of the run, by the controller's answer
abbrev pair_of : Table → Progress → ℕ → List ℕ → Outcome → Run
pair_of table p event rest o =
    when eqb o.refused 0
    then sending event o.value (after table (serve table event (taking p o.next)) rest)
    else breaks p 28 o.refused

run-pair : (table : Table) (p : Progress) (event argument : ℕ) (rest : List ℕ) →
    run table p (event ∷ argument ∷ rest) ≡ pair_of table p event rest (event_of p.controller event argument)
unfolding run
run-pair table p event argument rest = refl

run_short : (table : Table) (p : Progress) (xs : List ℕ) → length xs < 2 → run table p xs ≡ breaks p 27 0
unfolding run
run_short table p [] h = refl
run_short table p (x ∷ []) h = refl
run_short table p (x ∷ y ∷ xs) h = absurd (not-suc-le-zero (le_of_suc-le-suc (le_of_suc-le-suc h)))

-- what is left after a pair
abbrev pub rest : List ℕ → List ℕ
rest xs = take (length xs - 2) (drop 2 xs)

pub rest-length : (xs : List ℕ) → 2 ≤ length xs → length (rest xs) + 2 ≡ length xs
rest-length xs h = let d = length-drop 2 xs in let t = length-take-le (length xs - 2) (drop 2 xs) (omega (arith, d)) in omega (arith, t)

first_two : (xs : List ℕ) → 2 ≤ length xs → xs ≡ get_or xs 0 0 ∷ get_or xs 1 0 ∷ rest xs
first_two [] h = absurd (omega (arith, h))
first_two (x ∷ []) h = absurd (omega (arith, h))
first_two (x ∷ y ∷ xs) h = ap (λ (l : List ℕ). x ∷ y ∷ l) (sym (take_all _ xs (omega arith)))

refusal_not_0 : (why : Refusal) → eqb (refusal_number why) 0 ≡ false
refusal_not_0 OutOfRange = refl
refusal_not_0 BadArgument = refl
refusal_not_0 OnTheWire = refl
refusal_not_0 Locked = refl
refusal_not_0 Unlisted = refl
refusal_not_0 BadCount = refl
refusal_not_0 BufferEnd = refl
refusal_not_0 Unexpected = refl
refusal_not_0 Inaccessible = refl
refusal_not_0 Unsound = refl

-- an event that was accepted left a sound record, for event 14 resets any, and no other is accepted of one that is not sound
pub accepted-sound : (c : Controller) (number argument : ℕ) → (event_of c number argument).refused ≡ 0 →
    sound (event_of c number argument).next ≡ true
unfolding event_of refuses accepts when◌then◌else◌
accepted-sound c number argument = go (sound c) refl
  where
    P : Outcome → Type 0
    P o = o.refused ≡ 0 → sound o.next ≡ true

    go : (b : Bool) → sound c ≡ b → P (event_of c number argument)
    go true s = λ _. event-stays-sound c number argument s
    go false s =
        split P (eqb number 0 or ltb 14 number) _ _ (λ _ r. absurd (omega (arith, r)))
        (λ _. split P (bad_argument number argument) _ _ (λ _ r. absurd (omega (arith, r)))
        (λ _. split P (eqb number 14) _ _ (λ _ _. reset-sound c.buffer _)
        (λ _. rw s (λ r. absurd (omega (arith, r))))))

module _ (table : Table) (p : Progress) (xs : List ℕ) where
  -- the script's end
  pub runs_out : length xs < 2 → run table p xs ≡ closes (follows (ends Unfinished) p)
  unfolding closes breaks follows
  runs_out h = run_short table p xs h

  -- the controller gave this to the pair
  module _ (h : 2 ≤ length xs) (o : Outcome) (e : o ≡ event_of p.controller (get_or xs 0 0) (get_or xs 1 0)) where
    pair : run table p xs ≡ pair_of table p (get_or xs 0 0) (rest xs) o
    pair =
        ap (run table p) (first_two xs h)
        ∙ run-pair table p (get_or xs 0 0) (get_or xs 1 0) (rest xs)
        ∙ ap (pair_of table p (get_or xs 0 0) (rest xs)) (sym e)

    -- it refused the event, and kept the record
    pub refused : (why : Refusal) → o.refused ≡ refusal_number why →
        run table p xs ≡ closes (follows (ends (Refused why)) (with_record p o.next))
    unfolding closes breaks follows
    refused why r =
        let not-0 : o.refused ≡ 0 → ⊥ = λ z. eqb-false (refusal_number why) 0 (refusal_not_0 why) (sym r ∙ z) in
        let kept = ap (λ (x : Outcome). x.next) e
        ∙ (event-stays p.controller (get_or xs 0 0) (get_or xs 1 0)).record-kept (λ z. not-0 (ap (λ (x : Outcome). x.refused) e ∙ z)) in
        pair ∙ when-false _ _ _ (ap (λ (n : ℕ). eqb n 0) r ∙ refusal_not_0 why) ∙ ap (breaks p 28) r
        ∙ ap (λ (d : Controller). closes (follows (ends (Refused why)) (with_record p d))) (sym kept)

    -- it accepted the event, and the driver did its work
    module _ (a : o.refused ≡ 0) (q : Progress) (s : q ≡ serve table (get_or xs 0 0) (taking p o.next)) where
      taken : run table p xs ≡ sending (get_or xs 0 0) o.value (after table q (rest xs))
      taken =
          pair ∙ when-true _ _ _ (ap (λ (n : ℕ). eqb n 0) a)
          ∙ ap (λ (t : Progress). sending (get_or xs 0 0) o.value (after table t (rest xs))) (sym s)

      pub over : q.over ≡ true → run table p xs ≡ sending (get_or xs 0 0) o.value (closes q)
      over over-now = taken ∙ ap (sending (get_or xs 0 0) o.value) (when-true _ _ _ over-now)

      pub on : q.over ≡ false → run table p xs ≡ sending (get_or xs 0 0) o.value (run table q (rest xs))
      on lasts = taken ∙ ap (sending (get_or xs 0 0) o.value) (when-false _ _ _ lasts)
