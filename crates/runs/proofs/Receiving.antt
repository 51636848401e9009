-- Event 7 of a job: data bytes in. Assumes nothing.
use mathlib.Core.Bool.{true, false, not, true≢false}
use mathlib.Core.List.{List, [], ◌∷◌, ◌++◌}
use mathlib.Core.Path.{◌≡◌, refl, sym, ap, subst, ◌∙◌}
use Prim.Native.Nat.{ℕ, suc, ◌+◌, ◌/◌, ◌<◌}
use native.Mathlib.Omega.{arith}
use borrow.Author.Tests.{eqb-true, le-ltb}
use lib.Dec.{eqb}
use lib.ListN.{length, take, set, length-set}
use lib.Seq.{take-suc-set}
use Rattle.answer.specs.declared.ending.Ending.TheVariants as ending
use Rattle.control.proofs.Turning.{status-idle}
use Rattle.control.specs.Flags.{flags_of}
use Rattle.control.specs.Turn.{host, receive, slave_receive, data_turns, kind}
use Rattle.control.specs.Writing.{end_or, responds_at}
use Rattle.controller.specs.Record.{byte_count}
use Rattle.controller.specs.Reply.{Outcome, accepts, gives}
use Rattle.controller.specs.Transfer.{cursor, is_last, acknowledges_last, received, data_in, byte_in}
use Rattle.controller.specs.declared.record.Registers.{Registers}
use Rattle.driver.specs.Run.{taking}
use Rattle.notation.proofs.Among.{within, apart}
use Rattle.notation.proofs.Cases.{when-true, when-false, split}
use Rattle.notation.specs.Choice.{when◌then◌else◌, among}
use Rattle.runs.proofs.DataMoves.{fetch-all, retake}
use Rattle.runs.proofs.Invariant.{In, count_top, below-count, Good, Stepped, going, good-receiving}
use Rattle.runs.proofs.Lines.{Line, received_work, read_back, reads-and-stops}
use Rattle.runs.proofs.Sending.{byte-count, hosted-whole}
use Rattle.runs.proofs.Starts.{stops-good}
use Rattle.runs.proofs.Step.{KeepsOrEnds, hosted, refusing, hosting, idling, here, regood}
use Rattle.service.proofs.Formed.{Formed}
use Rattle.service.specs.Act.{read_times}
use Rattle.service.specs.Progress.{with_noted_count}
use Rattle.service.specs.Serve.{Table}
use Rattle.service.specs.declared.job.Job.{Job}
use Rattle.service.specs.declared.progress.Progress.{Progress}

module _ {job : Job} {payload carried : List ℕ} {sent : ℕ} {p : Progress} (g : Good job payload carried sent p) (t : In p (receive ∷ [])) where
  -- LB is set, so the last byte is not acknowledged
  pub nacks_last : acknowledges_last p.controller ≡ false
  unfolding acknowledges_last
  nacks_last =
      when-true p.controller.control.mode _ _ (g.receiving t).0 ∙ ap (λ (x : ℕ). not (eqb (x / 128) 1)) g.whole.count ∙
      ap not (count_top job.direction job.n (g.receiving t).1)

module _ {room places : ℕ} {job : Job} (payload : List ℕ) (form : Formed job (length payload) room places)
    {carried : List ℕ} {sent : ℕ} {p : Progress} (g : Good job payload carried sent p) (t : In p (receive ∷ [])) where
  below : p.controller.moved < job.n
  below =
      let b = below-count p.controller g.whole.sound (within _ (receive ∷ []) data_turns tt t) (g.receiving t).0 in
      let n = byte-count payload form g in
      omega (arith, b, n)

  -- the byte stands at its place, after those that the bus carried before
  more-carried : (argument : ℕ) → take (p.controller.moved + 1) (received p.controller argument).buffer ≡ carried ++ (argument ∷ [])
  unfolding received cursor
  more-carried argument =
      let c = p.controller in
      let b = below in
      let h = form.high in
      let l = g.whole.places in
      ap (λ (k : ℕ). take (c.moved + 1) (set c.buffer k argument)) (when-true c.control.mode c.moved 0 (g.receiving t).0) ∙
      retake (set c.buffer c.moved argument) (c.moved + 1) (suc c.moved) (omega arith) ∙
      take-suc-set c.buffer c.moved argument (omega (arith, b, h, l)) ∙ ap (λ (m : List ℕ). m ++ (argument ∷ [])) (g.receiving t).2

  received-places : (argument : ℕ) → length (received p.controller argument).buffer ≡ 68
  unfolding received
  received-places argument = length-set p.controller.buffer _ argument ∙ g.whole.places

  -- the last byte makes n
  all_moved : is_last p.controller ≡ true → p.controller.moved + 1 ≡ job.n
  unfolding is_last
  all_moved e =
      eqb-true (p.controller.moved + 1) (byte_count p.controller) (sym (when-true p.controller.control.mode _ _ (g.receiving t).0) ∙ e)
      ∙ byte-count payload form g

  -- n bytes are read back, since n is at most 68
  all_read : read_times job.n ≡ job.n
  unfolding read_times
  all_read = when-false _ _ _ (le-ltb 68 job.n form.high)

module _ (table : Table) {room places : ℕ} {job : Job} (payload : List ℕ) (form : Formed job (length payload) room places)
    {carried : List ℕ} {sent : ℕ} {p : Progress} (g : Good job payload carried sent p) where
  abbrev S : ℕ → ℕ → Outcome → Type 0
  S number argument o = KeepsOrEnds table job payload carried sent p number argument o

  module _ (t : In p (receive ∷ [])) where
    data_more : (argument : ℕ) → S 7 argument (accepts (received p.controller argument) 0)
    unfolding taking received
    data_more argument =
        let f = g.receiving t in
        let w = g.whole in
        let l = received-places payload form g t argument in
        idling table g 7 argument (received p.controller argument) 0 refl refl (status-idle _ (apart _ (receive ∷ []) (host ∷ []) tt t))
        (λ s. regood {l = carried ++ (argument ∷ [])} refl (sym f.3)
        (good-receiving job payload _ (record { sound = s; count = w.count; places = l; notes = w.notes; lasts = w.lasts }) g.aa
        (carried ++ (argument ∷ [])) t f.0 f.1 (more-carried payload form g t argument)))

    -- 58h: the bytes are read back, and the driver waits for own STOP
    data_last : Line table 0x58 (received_work job.n) → (argument : ℕ) → is_last p.controller ≡ true →
        S 7 argument (gives (received p.controller argument) 0x58 1)
    unfolding taking received responds_at end_or among kind flags_of when◌then◌else◌
    data_last line argument e =
        hosting table g 7 argument (received p.controller argument) 0x58 1 line refl refl refl
        (λ s. let h = hosted (received p.controller argument) 0x58 in
        let q = taking p h in
        let n = form.high in
        let w = hosted-whole p (received p.controller argument) 0x58 s refl (received-places payload form g t argument) g.whole in
        let all = all_read payload form g t in
        let r = read_back job.n q in
        let f = fetch-all (read_times job.n) 0 (with_noted_count q job.n) s refl refl (omega (arith, n, all)) w.places w.notes in
        let back : take job.n r.fetched ≡ carried ++ (argument ∷ []) =
        retake r.fetched job.n (0 + read_times job.n) (omega (arith, all)) ∙ f.bytes
        ∙ retake h.buffer (read_times job.n) (p.controller.moved + 1) (all ∙ sym (all_moved payload form g t e))
        ∙ more-carried payload form g t argument in
        subst (Stepped job payload carried sent 7 argument) (sym (reads-and-stops job.n ending.Done q))
        (going refl
        (stops-good (carried ++ (argument ∷ [])) sent r 0x58 ending.Done r.count
        (record {
          sound = f.sound;
          count = ap (λ (x : Registers). x.count) f.registers ∙ w.count;
          places = f.places;
          notes = f.notes;
          lasts = f.over ∙ w.lasts;
        }) f.turn refl refl g.bound (λ z d. back))))

    -- a data byte in
    data_in_lem : Line table 0x58 (received_work job.n) → (argument : ℕ) → S 7 argument (data_in p.controller argument 0x50 0x58)
    unfolding data_in
    data_in_lem line argument =
        split (S 7 argument) _ _ _
        (λ e. split (S 7 argument) _ _ _ (λ a. absurd (true≢false (sym a ∙ nacks_last g t))) (λ _. data_last line argument e))
        (λ _. data_more argument)

  -- 7: a byte in
  pub byte_in_lem : Line table 0x58 (received_work job.n) → (argument : ℕ) → S 7 argument (byte_in p.controller argument)
  unfolding byte_in
  byte_in_lem line argument =
      split (S 7 argument) _ _ _ (λ t. data_in_lem t line argument)
      (λ _. split (S 7 argument) _ _ _ (λ t. absurd (here g (slave_receive ∷ []) tt t)) (λ _. refusing table g 7 argument 7))
