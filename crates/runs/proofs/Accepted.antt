-- Every register access of a job is accepted, and it meets the listed statuses alone. Assumes nothing.
use mathlib.Core.Bool.{true, false}
use mathlib.Core.List.{List, [], ◌∷◌, ◌++◌, map}
use mathlib.Core.Logic.{⊎_elim}
use mathlib.Core.Path.{◌≡◌, refl, sym, ap, subst, ◌∙◌}
use Prim.Native.Nat.{ℕ, zero, suc, ◌+◌, ◌≤◌}
use native.Mathlib.Omega.{arith}
use borrow.Author.Tests.{eqb-true, ne_eqb}
use lib.Dec.{eqb}
use lib.ListN.{length, take, length-take}
use Rattle.std.specs.Prelude.{Some}
use Rattle.block.specs.Block.{written}
use Rattle.control.proofs.Turning.{hosted-turn}
use Rattle.control.specs.Flags.{flags_of}
use Rattle.control.specs.Turn.{faults, host, wire_turns, kind, status_of, edge_of}
use Rattle.control.specs.Writing.{end_or, responds_at, response}
use Rattle.control.specs.declared.turn.Edge.{Edge}
use Rattle.control.specs.declared.turn.Turn.TheVariants as turn
use Rattle.control.specs.declared.turn.Turn.{Turn}
use Rattle.controller.specs.Access.{read_of, write_of}
use Rattle.controller.specs.Event.{event_of}
use Rattle.controller.specs.I2ccon.{bad_count}
use Rattle.controller.specs.Record.{sound}
use Rattle.controller.specs.Reply.{Outcome, accepts}
use Rattle.controller.specs.Setters.{with_hand, with_pointer, with_armed}
use Rattle.controller.specs.declared.record.Controller.{Controller}
use Rattle.controller.specs.declared.record.Registers.{Registers}
use Rattle.driver.specs.Run.{taking}
use Rattle.laws.proofs.Soundness.{read-stays-sound, event-stays-sound}
use Rattle.laws.proofs.Status.{status-reads, status-accepted}
use Rattle.notation.proofs.Among.{among-has, one_of}
use Rattle.notation.proofs.Cases.{split}
use Rattle.notation.specs.Choice.{when◌then◌else◌, ◌and◌, ◌or◌, among}
use Rattle.runs.proofs.Begins.{begun, first-accepted}
use Rattle.runs.proofs.ComesFrom.{Given, event-comes}
use Rattle.runs.proofs.DataMoves.{load_all, fetch-all}
use Rattle.runs.proofs.Events.{lasting}
use Rattle.runs.proofs.Invariant.{carried_after, sent_after, Good}
use Rattle.runs.proofs.Lines.{address_work, data_work, receive_work, data_nacked_work, received_work, job_lines}
use Rattle.runs.proofs.Sending.{points-back, back-sound}
use Rattle.runs.proofs.Starts.{fair_count}
use Rattle.runs.specs.Accesses.{ReadsAccepted, AllAccepted, last_events, ServedByAccepted, EveryPair, EveryAccessAccepted, job_statuses}
use Rattle.runs.specs.Accesses.{status_seen, met, EachAmong, OnlyListedStatuses}
use Rattle.service.proofs.AccessesLeave.{not-refused, control-accepted, data_written, data_accepted, data_written_lem, pointer-accepted, pointer-written}
use Rattle.service.proofs.AccessesLeave.{moved-accepted, data_read, count-read}
use Rattle.service.proofs.Formed.{Formed, formed}
use Rattle.service.proofs.Sound.{put-sound}
use Rattle.service.specs.Act.{Act, writes, Work, put, reads, read_times, does}
use Rattle.service.specs.JobSteps.{count_of}
use Rattle.service.specs.JobTable.{job_table}
use Rattle.service.specs.Progress.{with_record, with_noted_count}
use Rattle.service.specs.Serve.{Table, serve}
use Rattle.service.specs.declared.job.Job.{Job}
use Rattle.service.specs.declared.progress.Progress.{Progress}

-- an I2CCON write at a status
control-here : (d : Controller) (status : ℕ) (edge : Edge) (value : ℕ) (t : Turn) → sound d ≡ true → d.turn ≡ turn.Host status edge →
    among status faults ≡ false → (flags_of value).ensio ≡ true → responds_at status edge (flags_of value) ≡ Some t →
    bad_count d (flags_of value) t ≡ false → (write_of d 3 value).refused ≡ 0
unfolding response kind status_of edge_of among when◌then◌else◌
control-here d status edge value t s h l e r b = not-refused _ _ _ (control-accepted d value (turn.Host status edge) t s h refl l e r b)

-- I2CDAT, so many bytes written and read
loads-accepted : (xs : List ℕ) (rest : List Act) (p : Progress) → sound p.controller ≡ true →
    among (kind p.controller.turn) wire_turns ≡ false → p.controller.hand + length xs ≤ 68 →
    AllAccepted rest (with_record p (written xs p.controller)) → AllAccepted (map (writes 1) xs ++ rest) p
unfolding written does put
loads-accepted [] rest p s w h f = f
loads-accepted (x ∷ xs) rest p s w h f =
    let c = p.controller in
    let e = data_written_lem c x s w (omega arith) in
    let later = loads-accepted xs rest (does (writes 1 x) p) (put-sound c 1 x s)
    (ap (λ (d : Controller). among (kind d.turn) wire_turns) e ∙ w)
    (subst (λ (d : Controller). d.hand + length xs ≤ 68) (sym e) (omega arith)) f in
    (not-refused _ _ _ (data_accepted c x s w (ne_eqb c.hand 68 (omega arith))), later)

reads-accepted : (more : ℕ) (c : Controller) → sound c ≡ true → among (kind c.turn) wire_turns ≡ false → c.hand + more ≤ 68 →
    ReadsAccepted more c
unfolding accepts
reads-accepted zero c s w h = tt
reads-accepted (suc more) c s w h =
    let e = data_read c s w (omega arith) in
    let to = ap (λ (o : Outcome). o.next) e in
    let still = subst (λ (d : Controller). sound d ≡ true) to (read-stays-sound c 1 s) in
    (not-refused _ _ _ e, subst (ReadsAccepted more) (sym to) (reads-accepted more (with_hand c (c.hand + 1)) still w (omega arith)))

-- the moved count read at 30h, through pointer 07h and back
finds_accepted : (d : Controller) → sound d ≡ true →
    ((read_of (put d 0 0x07) 2).refused ≡ 0) × ((write_of (read_of (put d 0 0x07) 2).next 0 0x00).refused ≡ 0)
finds_accepted d s =
    let e = pointer-written d 7 s in
    let pointed = with_armed (with_pointer d 7) false in
    let still = subst (λ (x : Controller). sound x ≡ true) e (put-sound d 0 7 s) in
    let r = moved-accepted pointed still refl in
    let back = not-refused _ _ _ (pointer-accepted pointed 0 still) in (
      subst (λ (x : Controller). (read_of x 2).refused ≡ 0) (sym e) (not-refused _ _ _ r),
      subst (λ (x : Controller). (write_of x 0 0x00).refused ≡ 0) (sym (count-read (put d 0 0x07) ∙ e)) back,
    )

module _ {room places : ℕ} {job : Job} (payload : List ℕ) (form : Formed job (length payload) room places)
    {carried : List ℕ} {sent : ℕ} {p : Progress} (g : Good job payload carried sent p) (number argument : ℕ) where
  abbrev next : Controller
  next = (event_of p.controller number argument).next

  abbrev status : ℕ
  status = status_of next.turn

  still-sound : sound next ≡ true
  still-sound = event-stays-sound p.controller number argument g.whole.sound

  -- the work at a status, line by line of the table
  module _ (f : eqb status 0xF8 ≡ false) where
    given : Given g number next
    given = (event-comes g number argument).given f

    at : (k : ℕ) → status ≡ k → next.turn ≡ turn.Host k (edge_of next.turn)
    at k e = hosted-turn next.turn f ∙ ap (λ (s : ℕ). turn.Host s (edge_of next.turn)) e

    off-wire : among (kind next.turn) wire_turns ≡ false
    unfolding kind
    off-wire = ap (λ (t : Turn). among (kind t) wire_turns) (hosted-turn next.turn f) ∙ among-has host wire_turns

    count : next.registers.count ≡ count_of job.direction job.n
    count = ap (λ (r : Registers). r.count) given.registers ∙ g.whole.count

    -- 50h, of a record in the same turn
    stops : (k : ℕ) → status ≡ k → among k faults ≡ false → responds_at k (edge_of next.turn) (flags_of 0x50) ≡ Some turn.Stopping →
        (d : Controller) → sound d ≡ true → d.turn ≡ next.turn → (write_of d 3 0x50).refused ≡ 0
    unfolding flags_of bad_count ◌and◌
    stops k e l r d s t = control-here d k _ 0x50 turn.Stopping s (t ∙ at k e) l refl r refl

    addressed : (byte : ℕ) → status ≡ 0x08 → AllAccepted (address_work byte).acts (taking p next)
    unfolding does taking responds_at among flags_of bad_count when◌then◌else◌ ◌and◌
    addressed byte e =
        let h = given.hand in
        let written = data_written_lem next byte still-sound off-wire (omega (arith, h)) in
        let still = subst (λ (d : Controller). sound d ≡ true) written (put-sound next 1 byte still-sound) in
        let asks = control-here (data_written next byte) 0x08 _ 0x40 turn.Address still (at 0x08 e) refl refl refl refl in
        let first = not-refused _ _ _ (data_accepted next byte still-sound off-wire (ne_eqb next.hand 68 (omega (arith, h)))) in
        (first, (subst (λ (d : Controller). (write_of d 3 0x40).refused ≡ 0) (sym written) asks, tt))

    loaded : status ≡ 0x18 → AllAccepted (data_work (take job.n payload)).acts (taking p next)
    unfolding taking responds_at end_or among flags_of when◌then◌else◌
    loaded e =
        let xs = take job.n payload in
        let h = given.hand in
        let high = form.high in
        let size = length-take job.n payload in
        let l = load_all xs next still-sound off-wire (omega (arith, h, high, size)) given.places in
        let fair = fair_count payload form (written xs next) _ _ (ap (λ (r : Registers). r.count) l.registers ∙ count) in
        loads-accepted xs (writes 3 0x41 ∷ []) (taking p next) still-sound off-wire (omega (arith, h, high, size))
        (control-here (written xs next) 0x18 _ 0x41 turn.Send l.sound (l.turn ∙ at 0x18 e) refl refl refl fair, tt)

    received : status ≡ 0x40 → AllAccepted receive_work.acts (taking p next)
    unfolding taking responds_at among flags_of when◌then◌else◌ ◌or◌
    received e = (control-here next 0x40 _ 0x41 turn.Receive still-sound (at 0x40 e) refl refl refl (fair_count payload form next _ _ count), tt)

    found : status ≡ 0x30 → AllAccepted data_nacked_work.acts (taking p next)
    unfolding does taking responds_at end_or among flags_of when◌then◌else◌
    found e =
        let back = finds_accepted next still-sound in
        let to = points-back next still-sound in
        let still = subst (λ (d : Controller). sound d ≡ true) to (back-sound next still-sound) in
        let stop = subst (λ (d : Controller). (write_of d 3 0x50).refused ≡ 0) (sym to) (stops 0x30 e refl refl _ still refl) in
        (not-refused _ _ _ (pointer-accepted next 7 still-sound), (back.0, (back.1, (stop, tt))))

    few : read_times job.n ≤ 68
    unfolding read_times
    few = split (λ (n : ℕ). n ≤ 68) _ _ _ (λ _. omega arith) (λ _. form.high)

    read_back_lem : status ≡ 0x58 → AllAccepted (received_work job.n).acts (taking p next)
    unfolding does taking responds_at end_or among flags_of when◌then◌else◌
    read_back_lem e =
        let h = given.hand in
        let n = few in
        let q = with_noted_count (taking p next) job.n in
        let l = fetch-all (read_times job.n) 0 q still-sound off-wire h (omega (arith, n)) given.places g.whole.notes in
        let read = reads-accepted (read_times job.n) next still-sound off-wire (omega (arith, h, n)) in
        (tt, (read, (stops 0x58 e refl refl _ l.sound l.turn, tt)))

    -- the work, line by line of the table
    pub works : (noted : ℕ) → AllAccepted (job_table job payload status noted).acts (taking p next)
    unfolding job_table does taking responds_at end_or among flags_of bad_count when◌then◌else◌ ◌and◌
    works noted =
        let P : Work → Type 0 = λ w. AllAccepted w.acts (taking p next) in
        let is : (k : ℕ) → eqb status k ≡ true → status ≡ k = λ k t. eqb-true status k t in
        split P (eqb status 0x08) _ _ (λ t. addressed _ (is 0x08 t))
        (λ _. split P (eqb status 0x18) _ _ (λ t. loaded (is 0x18 t))
        (λ _. split P (eqb status 0x40) _ _ (λ t. received (is 0x40 t))
        (λ _. split P (among status (0x20 ∷ 0x48 ∷ [])) _ _
        (λ t. (
          tt,
          (
            ⊎_elim (λ e. stops 0x20 e refl refl next still-sound refl) (λ e. stops 0x48 e refl refl next still-sound refl)
                (one_of (0x20 ∷ 0x48 ∷ []) status t),
            tt,
          ),
        ))
        (λ _. split P (eqb status 0x28) _ _ (λ t. (tt, (stops 0x28 (is 0x28 t) refl refl next still-sound refl, tt)))
        (λ _. split P (eqb status 0x30) _ _ (λ t. found (is 0x30 t))
        (λ _. split P (eqb status 0x58) _ _ (λ t. read_back_lem (is 0x58 t))
        (λ _. split P (eqb status 0x38) _ _
        (λ t. (control-here next 0x38 _ 0x40 _ still-sound (at 0x38 (is 0x38 t)) refl refl refl refl, tt))
        (λ _. split P (among status faults) _ _ (λ _. tt) (λ _. tt)))))))))

  shows-status : reads next 0 ≡ status
  unfolding reads
  shows-status = status-reads next still-sound

  -- after a pair
  served : ServedByAccepted (job_table job payload) (taking p next)
  unfolding taking
  served = record {
    status_read = not-refused _ _ _ (status-accepted next still-sound);
    acts = λ f.
        subst (λ (s : ℕ). AllAccepted (job_table job payload s p.count).acts (taking p next)) (sym shows-status)
        (works (ap (λ (s : ℕ). eqb s 0xF8) (sym shows-status) ∙ f) p.count);
  }

  seen-listed : EachAmong (status_seen number (taking p next)) job_statuses
  unfolding status_seen taking
  seen-listed =
      let P : List ℕ → Type 0 = λ xs. EachAmong xs job_statuses in
      split P (among number last_events) _ _ (λ _. tt)
      (λ _. split P (eqb (reads next 0) 0xF8) _ _ (λ _. tt)
      (λ f. let given = given (ap (λ (s : ℕ). eqb s 0xF8) (sym shows-status) ∙ f) in
      (ap (λ (s : ℕ). among s job_statuses) shows-status ∙ given.listed, tt)))

each_append : (xs ys listed : List ℕ) → EachAmong xs listed → EachAmong ys listed → EachAmong (xs ++ ys) listed
each_append [] ys listed e f = f
each_append (x ∷ xs) ys listed e f = (e.0, each_append xs ys listed e.1 f)

module _ {room places : ℕ} {job : Job} (payload : List ℕ) (form : Formed job (length payload) room places) where
  abbrev table : Table
  table = job_table job payload

  on : {carried : List ℕ} {sent : ℕ} {p : Progress} → Good job payload carried sent p → (event argument : ℕ) →
      eqb (event_of p.controller event argument).refused 0 ≡ true →
      let q = serve table event (taking p (event_of p.controller event argument).next) in
      q.over ≡ false → Good job payload (carried_after event argument carried) (sent_after event sent) q
  on g event argument a l = lasting table payload form (job_lines job payload) g event argument a l

  every-pair : (script : List ℕ) {carried : List ℕ} {sent : ℕ} {p : Progress} → Good job payload carried sent p → EveryPair table p script
  every-pair [] g = tt
  every-pair (event ∷ []) g = tt
  every-pair (event ∷ argument ∷ rest) g =
      λ a. (λ _. served payload form g event argument, λ l. every-pair rest (on g event argument a l))

  met-listed : (script : List ℕ) {carried : List ℕ} {sent : ℕ} {p : Progress} → Good job payload carried sent p →
      EachAmong (met table p script) job_statuses
  unfolding met
  met-listed [] g = tt
  met-listed (event ∷ []) g = tt
  met-listed (event ∷ argument ∷ rest) {carried} {sent} {p} g =
      let P : List ℕ → Type 0 = λ xs. EachAmong xs job_statuses in
      let q = serve table event (taking p (event_of p.controller event argument).next) in
      split P _ _ _
      (λ a. each_append (status_seen event (taking p (event_of p.controller event argument).next)) (when q.over then [] else met table q rest) job_statuses
      (seen-listed payload form g event argument)
      (split P q.over [] (met table q rest) (λ _. tt) (λ l. met-listed rest (on g event argument a l))))
      (λ _. tt)

pub every-access-accepted : EveryAccessAccepted
every-access-accepted job payload room places script c m r l =
    (first-accepted job c r, every-pair payload (formed job (length payload) room places (length script) m) script (begun job payload c r l))

pub only_listed_statuses : OnlyListedStatuses
only_listed_statuses job payload room places script c m r l =
    met-listed payload (formed job (length payload) room places (length script) m) script (begun job payload c r l)
