-- The work at a status, entered and driven on the model, is the work of the job's table. Assumes nothing.
use mathlib.Core.Bool.{Bool, true, false}
use mathlib.Core.List.{List, [], ◌∷◌, ◌++◌}
use mathlib.Core.Path.{◌≡◌, refl, sym, ap, subst, ◌∙◌}
use Prim.Native.Nat.{ℕ, suc, ◌+◌, ◌≤◌}
use native.Mathlib.Omega.{arith}
use borrow.Author.Tests.{ne_eqb}
use lib.Dec.{eqb}
use lib.ListN.{length, length-append}
use Rattle.control.specs.Flags.{reads_as}
use Rattle.controller.specs.Record.{interrupts, sound}
use Rattle.controller.specs.declared.record.Controller.{Controller}
use Rattle.notation.proofs.Cases.{when-true, when-false}
use Rattle.notation.specs.Choice.{when◌then◌else◌}
use Rattle.port.specs.Hear.{concludes, enters, hears_at, hears, noted_at, asks_at, asks}
use Rattle.port.specs.InHand.{accesses, notes}
use Rattle.port.specs.Look.{still_control}
use Rattle.port.specs.Stage.{stage_number}
use Rattle.port.specs.Stand.{stand}
use Rattle.port.specs.declared.stage.Stage.TheVariants.{Interrupted, Working, Recheck}
use Rattle.port.specs.declared.stage.Stage.{Stage}
use Rattle.port.specs.declared.stand.Stand.{Stand}
use Rattle.port_job.proofs.Drives.{single, Each, drives}
use Rattle.port_job.proofs.Flat.{Flat, Course, straight, rechecked}
use Rattle.port_job.proofs.InHand.{holding, all_note, hand, working, reading, finishing}
use Rattle.port_job.proofs.Looks.{control-read, after_read_lem}
use Rattle.port_job.proofs.Settles.{Reaches, there, joined}
use Rattle.port_job.specs.OnModel.{At}
use Rattle.runs.proofs.ActsKeep.{AllWrite, acts-keep}
use Rattle.service.proofs.Sound.{acts-sound}
use Rattle.service.specs.Act.{Act, writes, Work, does, does_all}
use Rattle.service.specs.JobTable.{job_table}
use Rattle.service.specs.Progress.{with_noted_count}
use Rattle.service.specs.declared.job.Job.{Job}
use Rattle.service.specs.declared.progress.Progress.{Progress}

-- what I2CCON reads
abbrev pub control_of : Controller → ℕ
control_of c = reads_as c.control (interrupts c)

does-both : (xs ys : List Act) (p : Progress) → does_all (xs ++ ys) p ≡ does_all ys (does_all xs p)
unfolding does_all
does-both [] ys p = refl
does-both (x ∷ xs) ys p = does-both xs ys (does x p)

module _ (job : Job) (kept : List ℕ) (status answer : ℕ) (work : Work) (ours : (count : ℕ) → job_table job kept status count ≡ work)
    (before made : ℕ) (due : Bool) (q : Progress) (l : length q.fetched ≡ 68)
    (sounds : sound q.controller ≡ true) (still : still_control (control_of q.controller) ≡ true) where
  -- where the port stands when it has read the status, and after the last access
  abbrev entered : At
  entered = holding kept (enters (stand Interrupted job before made due answer q.count false) status work) q

  abbrev done : ℕ → Progress → At
  done last r = holding kept (concludes work.after (stand Working job status last false answer r.count false)) r

  -- at most 70 accesses lead from the one to the other
  pub record Worked : Type 0 where
    pub k : ℕ
    pub few : k ≤ 70
    pub last : ℕ
    pub reaches : Reaches k entered (done last (does_all work.acts q))

  -- with the count noted before the first access
  abbrev noted : Progress
  noted = with_noted_count q (notes q.count work.acts)

  abbrev first : Stand
  first = stand Working job status 0 false answer noted.count false

  enters_as : (xs : List Act) → accesses q.count work.acts ≡ xs →
      enters (stand Interrupted job before made due answer q.count false) status work ≡
      (when eqb (length xs) 0 then concludes work.after first else first)
  unfolding enters
  enters_as xs e = rw e

  -- from the first access on
  from_first : {k : ℕ} {s : Stand} (last : ℕ) (xs : List Act) → Flat work.acts xs →
      (when eqb (length xs) 0 then concludes work.after first else first) ≡ s →
      Reaches k (holding kept s noted) (done last (does_all xs noted)) → Reaches k entered (done last (does_all work.acts q))
  from_first {k} {s} last xs f e h =
      subst (λ (r : Progress). Reaches k entered (done last r)) (sym (f.does q))
      (subst (λ (t : Stand). Reaches k (holding kept t q) (done last (does_all xs noted))) (sym (enters_as xs (f.steady q.count) ∙ e)) h)

  steady : {xs : List Act} → Flat work.acts xs → (count : ℕ) → accesses count (job_table job kept status count).acts ≡ xs
  steady f count = ap (λ (w : Work). accesses count w.acts) (ours count) ∙ f.steady count

  line : (count : ℕ) → (job_table job kept status count).after ≡ work.after
  line count = ap (λ (w : Work). w.after) (ours count)

  works-straight : (xs : List Act) → Flat work.acts xs → eqb status 0x58 ≡ false → Worked
  unfolding does_all
  works-straight [] f n = record { k = 0; few = omega arith; last = 0; reaches = from_first 0 [] f (when-true _ _ _ refl) there }
  works-straight (x ∷ rest) f n =
      let d = drives (hand kept single _ _ _ (working job kept status answer (x ∷ rest) work.after (steady f) line n)) rest x 0 noted refl f.each l in
      let some = ne_eqb (suc (length rest)) 0 (omega arith) in
      let short = f.short in
      record { k = suc (length rest); few = omega arith; last = d.last; reaches = from_first d.last (x ∷ rest) f (when-false _ _ _ some) d.reaches }

  -- bytes are read back, and I2CCON shows what it showed before them
  module _ (front : List Act) (value : ℕ) (f : Flat work.acts (front ++ (writes 3 value ∷ []))) where
    abbrev fetched : Progress
    fetched = does_all front noted

    -- where all but the last access are made, and after the last
    abbrev stands_at : Stage → Stand
    stands_at x = stand x job status (length front) false answer fetched.count false

    abbrev end : At
    end = done (length front) (does (writes 3 value) fetched)

    finishes : Each single front → Reaches 1 (holding kept (stands_at Working) fetched) end
    finishes o = finishing job kept status answer _ work.after (steady f) line front (writes 3 value) refl fetched tt (all_note front noted o ∙ l)

    looks : Each single front → AllWrite [] front → Reaches 2 (holding kept (stands_at Recheck) fetched) end
    unfolding hears hears_at asks asks_at noted_at stage_number when◌then◌else◌
    looks o w =
        let c = fetched.controller in
        let same = acts-keep control_of (λ _ _. refl) [] (λ _ _ _ t. absurd t) front noted w in
        after_read_lem kept (stands_at Recheck) fetched 3 (control_of c) (all_note front noted o ∙ l) refl refl (control-read c (acts-sound front noted sounds))
        (subst (λ (s : Stand). Reaches 1 (holding kept s fetched) end) (sym (when-true _ _ _ (ap still_control same ∙ still))) (finishes o))

    rechecks : {k : ℕ} → k ≤ length front + 2 → Reaches k (holding kept first noted) end → Worked
    unfolding does_all
    rechecks {k} b reach =
        let short = f.short in
        let long = length-append front (writes 3 value ∷ []) in
        let some = ne_eqb (length (front ++ (writes 3 value ∷ []))) 0 (omega arith) in
        record {
          k = k;
          few = omega arith;
          last = length front;
          reaches =
              from_first (length front) _ f (when-false _ _ _ some)
              (subst (λ (r : Progress). Reaches k (holding kept first noted) (done (length front) r)) (sym (does-both front _ noted)) reach);
        }

  works-rechecked : (front : List Act) (value : ℕ) → Flat work.acts (front ++ (writes 3 value ∷ [])) → eqb status 0x58 ≡ true → Each single front →
      AllWrite [] front → Worked
  unfolding does_all
  works-rechecked [] value f s o w = rechecks [] value f (omega arith) (finishes [] value f o)
  works-rechecked (x ∷ rest) value f s o w =
      let h = reading job kept status answer _ work.after (steady f) line (x ∷ rest) (writes 3 value) refl s in
      let d = drives (hand kept single _ _ _ h) rest x 0 noted refl o l in
      rechecks (x ∷ rest) value f (omega arith) (joined (length rest + 3) (omega arith) d.reaches (looks (x ∷ rest) value f o w))

  pub works : (xs : List Act) → Flat work.acts xs → Course status xs → Worked
  works xs f (straight n) = works-straight xs f n
  works xs f (rechecked front value s o w) = works-rechecked front value f s o w
