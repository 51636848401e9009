-- "It leaves the pointer at 00h": no event moves it from there, and the driver's acts leave it or bring it back. Assumes nothing.
use mathlib.Core.Bool.{Bool, true}
use mathlib.Core.List.{List, [], ◌∷◌, map}
use mathlib.Core.Path.{◌≡◌, refl, sym, ap, subst, ◌∙◌}
use Prim.Native.Nat.{ℕ}
use lib.Dec.{T, eqb}
use lib.ListN.{length, take}
use Rattle.std.specs.Prelude.{Option, Some, None}
use Rattle.answer.specs.declared.ending.Ending.TheVariants.{DataNacked}
use Rattle.control.specs.declared.flags.Control.{Control}
use Rattle.control.specs.declared.turn.Turn.{Turn}
use Rattle.controller.specs.Access.{write_sound, write_of}
use Rattle.controller.specs.Event.{event_of}
use Rattle.controller.specs.I2ccon.{controlled, enabled, write_flags, write_control}
use Rattle.controller.specs.Record.{sound}
use Rattle.controller.specs.Registers.{wrote, write_data}
use Rattle.controller.specs.Reply.{Outcome}
use Rattle.controller.specs.declared.record.Controller.{Controller}
use Rattle.driver.specs.Run.{Report, Run, closes, breaks, sending, taking, run, reports, job_of}
use Rattle.laws.proofs.Soundness.{event-stays-sound}
use Rattle.notation.proofs.Among.{has}
use Rattle.notation.proofs.Cases.{when-true, when-false, split}
use Rattle.notation.specs.Choice.{when◌then◌else◌}
use Rattle.runs.proofs.ActsKeep.{AllWrite, both-write, data_writes, Kept, refused, accepted, chosen, not_this, acts-keep, follows-keeps}
use Rattle.runs.proofs.Begins.{begun, first-pointer}
use Rattle.runs.proofs.ComesFrom.{event-comes}
use Rattle.runs.proofs.Events.{lasting}
use Rattle.runs.proofs.Invariant.{Good}
use Rattle.runs.proofs.Lines.{points_back, job_lines}
use Rattle.runs.proofs.Sending.{points-back}
use Rattle.runs.specs.OneRun.{LeavesPointer}
use Rattle.service.proofs.Formed.{Formed, formed}
use Rattle.service.specs.Act.{writes, Work, put, reads, does, does_all, follows, performs}
use Rattle.service.specs.JobSteps.{finds_moved, stop_after}
use Rattle.service.specs.JobTable.{job_table}
use Rattle.service.specs.Serve.{serve}
use Rattle.service.specs.declared.job.Job.{Job}
use Rattle.service.specs.declared.progress.Progress.{Progress}

abbrev pointer_of : Controller → ℕ
pointer_of c = c.pointer

-- an outcome that leaves it
abbrev Left : Controller → Outcome → Type 0
Left = Kept pointer_of

control-written : (c : Controller) (k : Control) (t : Turn) → Left c (controlled c k t)
unfolding controlled wrote
control-written c k t = accepted pointer_of c _ _ refl

enabling : (c : Controller) (k : Control) (r : Option Turn) → Left c (enabled c k r)
unfolding enabled
enabling c k None = refused pointer_of c 5
enabling c k (Some t) = chosen pointer_of c _ _ _ (λ _. refused pointer_of c 6) (λ _. control-written c k t)

-- a write of I2CDAT or I2CCON
write_keeps : (c : Controller) (register value : ℕ) → T (has (1 ∷ 3 ∷ []) register) → Left c (write_of c register value)
unfolding write_of write_sound write_data write_control write_flags wrote
write_keeps c register value t =
    search (chosen pointer_of, refused pointer_of, accepted pointer_of, enabling, control-written, not_this pointer_of c (1 ∷ 3 ∷ [])) depth 20

module _ (job : Job) (payload : List ℕ) where
  -- the work at a status: at 30h the pointer goes to 07h and back, everywhere else it stays
  module _ (p : Progress) (s : sound p.controller ≡ true) (z : p.controller.pointer ≡ 0) where
    abbrev Back : Work → Type 0
    Back w = (performs w p).controller.pointer ≡ 0

    stays : (w : Work) → AllWrite (1 ∷ 3 ∷ []) w.acts → Back w
    unfolding performs
    stays w t = ap (λ (c : Controller). c.pointer) (follows-keeps w.after (does_all w.acts p)) ∙
        acts-keep pointer_of (λ c x. refl) (1 ∷ 3 ∷ []) write_keeps w.acts p t ∙ z

    found : Back (stop_after finds_moved DataNacked)
    unfolding performs does_all does follows put
    found = (write_keeps (points_back p.controller) 3 0x50 tt).kept ∙ ap (λ (c : Controller). c.pointer) (points-back p.controller s)

    works : (status count : ℕ) → Back (job_table job payload status count)
    unfolding job_table
    works status count =
        let xs = take job.n payload in
        let chosen : (b : Bool) (x y : Work) → Back x → Back y → Back (when b then x else y) = λ b x y f g. split Back b x y (λ _. f) (λ _. g) in
        chosen _ _ _ (stays _ (tt, (tt, tt)))
        (chosen _ _ _ (stays _ (both-write (1 ∷ 3 ∷ []) (map (writes 1) xs) (writes 3 0x41 ∷ []) (data_writes (1 ∷ 3 ∷ []) xs tt) (tt, tt)))
        (chosen _ _ _ (stays _ (tt, tt))
        (chosen _ _ _ (stays _ (tt, (tt, tt)))
        (chosen _ _ _ (stays _ (tt, (tt, tt)))
        (chosen _ _ _ found
        (chosen _ _ _ (stays _ (tt, (tt, (tt, tt))))
        (chosen _ _ _ (stays _ (tt, tt)) (chosen _ _ _ (stays _ tt) (stays _ tt)))))))))

    serves : (event : ℕ) → (serve (job_table job payload) event p).controller.pointer ≡ 0
    unfolding serve follows
    serves event =
        let P : Progress → Type 0 = λ q. q.controller.pointer ≡ 0 in
        split P (eqb event 14) _ _ (λ _. z)
        (λ _. split P (eqb event 4) _ _ (λ _. z)
        (λ _. split P (eqb (reads p.controller 0) 0xF8) _ _ (λ _. z) (λ _. works _ p.count)))

module _ {room places : ℕ} {job : Job} (payload : List ℕ) (form : Formed job (length payload) room places) where
  run-leaves : (script : List ℕ) {carried : List ℕ} {sent : ℕ} {p : Progress} → Good job payload carried sent p → p.controller.pointer ≡ 0 →
      (run (job_table job payload) p script).result.next.pointer ≡ 0
  unfolding run breaks sending closes taking
  run-leaves [] g z = z
  run-leaves (event ∷ []) g z = z
  run-leaves (event ∷ argument ∷ rest) {carried} {sent} {p} g z =
      let next = (event_of p.controller event argument).next in
      let q = serve (job_table job payload) event (taking p next) in
      let P : Run → Type 0 = λ r. r.result.next.pointer ≡ 0 in
      let still = event-stays-sound p.controller event argument g.whole.sound in
      let back = serves job payload (taking p next) still ((event-comes g event argument).pointer z) event in
      split P _ _ _
      (λ a. split P q.over (closes q) (run (job_table job payload) q rest) (λ _. back)
      (λ l. run-leaves rest (lasting (job_table job payload) payload form (job_lines job payload) g event argument a l) back))
      (λ _. z)

pub leaves-pointer : LeavesPointer
unfolding job_of reports
leaves-pointer job payload room places script c m r l =
    let form = formed job (length payload) room places (length script) m in
    let run-back = run-leaves payload form script (begun job payload c r l) (first-pointer job c r) in
    subst (λ (x : Report). x.result.next.pointer ≡ 0) (sym (when-false _ _ _ m ∙ when-true _ _ _ r)) run-back
