-- AA is 0 between jobs: no event sets it, and nothing that a job writes to I2CCON has it. Assumes nothing.
use Rattle.std.specs.Prelude.{Option, Some, None}
use mathlib.Core.Bool.{Bool, true, false, not}
use mathlib.Core.List.{List, [], ◌∷◌, ◌++◌, map}
use mathlib.Core.Path.{◌≡◌, refl, sym, ap, subst, ◌∙◌}
use Prim.Native.Nat.{ℕ, ◌/◌}
use lib.Dec.{T, eqb}
use lib.ListN.{take}
use Rattle.control.specs.Flags.{flags_of}
use Rattle.control.specs.declared.flags.Control.{Control}
use Rattle.control.specs.declared.turn.Turn.{Turn}
use Rattle.controller.specs.Access.{write_sound, write_of}
use Rattle.controller.specs.Event.{event_of}
use Rattle.controller.specs.I2ccon.{keeps, controlled, enabled, write_flags, write_control}
use Rattle.controller.specs.Registers.{wrote, write_pointer, write_data, write_at_pointer}
use Rattle.controller.specs.Reply.{Outcome, refuses, accepts}
use Rattle.controller.specs.Reset.{reset_with, reset, write_preset}
use Rattle.controller.specs.declared.record.Controller.{Controller}
use Rattle.driver.specs.Run.{Run, closes, breaks, sending, taking, run, Report, reports, declines}
use Rattle.notation.proofs.Among.{has, is_true}
use Rattle.notation.proofs.Cases.{split}
use Rattle.notation.specs.Choice.{when◌then◌else◌}
use Rattle.port.specs.Begin.{bad_settings}
use Rattle.port_job.proofs.Between.{Between, recovered-between, item_between}
use Rattle.port_job.proofs.EventsBetween.{event-keeps}
use Rattle.port_job.proofs.OneJob.{gives-job}
use Rattle.port_job.proofs.PortRecovers as back
use Rattle.port_job.proofs.Ready.{not-true}
use Rattle.port_job.specs.Items.{Item, job, recovery, event, leaves, port_job_of}
use Rattle.port_job.specs.OnModel.{At, played, reported}
use Rattle.port_job.specs.Traffic.{QuietAfter, QuietBetween}
use Rattle.runs.proofs.ActsKeep.{act-keeps, follows-keeps}
use Rattle.service.specs.Act.{Act, writes, reads_data, reads_all, reads_count, counts, Work, put, reads, does, does_all, follows, performs}
use Rattle.service.specs.JobSteps.{begins}
use Rattle.service.specs.JobTable.{job_table}
use Rattle.service.specs.Progress.{starting}
use Rattle.service.specs.Serve.{starts, serve}
use Rattle.service.specs.declared.job.Job.{Job}
use Rattle.service.specs.declared.progress.Progress.{Progress}

abbrev aa_of : Controller → Bool
aa_of c = c.control.aa

-- a write of another register than I2CCON, or with AA 0
abbrev silent : ℕ → ℕ → Bool
silent register value = elim (has (0 ∷ 1 ∷ 2 ∷ []) register) [ true ↦ true | false ↦ not (eqb (value / 128) 1) ]

-- One write.
module _ (c : Controller) (z : aa_of c ≡ false) where
  record Quiet (o : Outcome) : Type 0 where
    aa : aa_of o.next ≡ false

  chosen : (b : Bool) (x y : Outcome) → (b ≡ true → Quiet x) → (b ≡ false → Quiet y) → Quiet (when b then x else y)
  chosen b x y f h = split Quiet b x y f h

  refused : (n : ℕ) → Quiet (refuses c n)
  unfolding refuses
  refused n = record { aa = z }

  accepted : (d : Controller) (v : ℕ) → aa_of d ≡ aa_of c → Quiet (accepts d v)
  unfolding accepts
  accepted d v e = record { aa = e ∙ z }

  was-reset : (v : ℕ) → Quiet (accepts (reset c) v)
  unfolding accepts reset_with
  was-reset v = record { aa = refl }

  -- I2CCON: the flags that are stored
  stored : (k : Control) (t : Turn) → k.aa ≡ false → Quiet (controlled c k t)
  unfolding controlled wrote accepts keeps
  stored k t e = record { aa = e }

  enabling : (k : Control) (r : Option Turn) → k.aa ≡ false → Quiet (enabled c k r)
  unfolding enabled
  enabling k None e = refused 5
  enabling k (Some t) e = chosen _ _ _ (λ _. refused 6) (λ _. stored k t e)

  last-flags : (register value : ℕ) → T (silent register value) → eqb register 0 ≡ false → eqb register 1 ≡ false → eqb register 2 ≡ false →
      (flags_of value).aa ≡ false
  unfolding flags_of
  last-flags register value t e f g = not-true _ (is_true _ (rw (silent, has, e, f, g) at t))

  write-quiet : (register value : ℕ) → T (silent register value) → Quiet (write_of c register value)
  unfolding write_of write_sound write_pointer write_data write_at_pointer write_preset write_control write_flags wrote
  write-quiet register value t = search (chosen, refused, accepted, was-reset, stored, enabling, last-flags register value t) depth 20

-- acts
abbrev Silent : Act → Type 0
Silent (writes register value) = T (silent register value)
Silent (reads_data at) = Unit {0}
Silent reads_all = Unit {0}
Silent reads_count = Unit {0}
Silent (counts count) = Unit {0}

abbrev AllSilent : List Act → Type 0
AllSilent [] = Unit {0}
AllSilent (x ∷ xs) = Silent x × AllSilent xs

data_silent : (xs : List ℕ) (ys : List Act) → AllSilent ys → AllSilent (map (writes 1) xs ++ ys)
data_silent [] ys t = t
data_silent (x ∷ xs) ys t = (tt, data_silent xs ys t)

does-quiet : (x : Act) (p : Progress) → Silent x → aa_of p.controller ≡ false → aa_of (does x p).controller ≡ false
unfolding does put
does-quiet (writes register value) p t z = (write-quiet p.controller z register value t).aa
does-quiet (reads_data at) p t z = act-keeps aa_of (λ _ _. refl) [] (λ _ _ _ t. absurd t) (reads_data at) p tt ∙ z
does-quiet reads_all p t z = act-keeps aa_of (λ _ _. refl) [] (λ _ _ _ t. absurd t) reads_all p tt ∙ z
does-quiet reads_count p t z = act-keeps aa_of (λ _ _. refl) [] (λ _ _ _ t. absurd t) reads_count p tt ∙ z
does-quiet (counts count) p t z = z

acts-quiet : (xs : List Act) (p : Progress) → AllSilent xs → aa_of p.controller ≡ false → aa_of (does_all xs p).controller ≡ false
unfolding does_all
acts-quiet [] p t z = z
acts-quiet (x ∷ xs) p t z = acts-quiet xs (does x p) t.1 (does-quiet x p t.0 z)

performs-quiet : (w : Work) (p : Progress) → AllSilent w.acts → aa_of p.controller ≡ false → aa_of (performs w p).controller ≡ false
unfolding performs
performs-quiet w p t z = ap aa_of (follows-keeps w.after (does_all w.acts p)) ∙ acts-quiet w.acts p t z

-- A job.
module _ (asked : Job) (payload : List ℕ) where
  table-silent : (status count : ℕ) → AllSilent (job_table asked payload status count).acts
  unfolding job_table
  table-silent status count = search (either, data_silent (take asked.n payload), tt) depth 20
    where
      either : (b : Bool) (x y : Work) → AllSilent x.acts → AllSilent y.acts → AllSilent (when b then x else y).acts
      either b x y f g = split (λ (w : Work). AllSilent w.acts) b x y (λ _. f) (λ _. g)

  serve-quiet : (number : ℕ) (p : Progress) → aa_of p.controller ≡ false → aa_of (serve (job_table asked payload) number p).controller ≡ false
  unfolding serve follows
  serve-quiet number p z =
      let P : Progress → Type 0 = λ q. aa_of q.controller ≡ false in
      split P (eqb number 14) _ _ (λ _. z)
      (λ _. split P (eqb number 4) _ _ (λ _. z)
      (λ _. split P (eqb (reads p.controller 0) 0xF8) _ _ (λ _. z) (λ _. performs-quiet _ p (table-silent _ p.count) z)))

  run-quiet : (script : List ℕ) (p : Progress) → aa_of p.controller ≡ false → aa_of (run (job_table asked payload) p script).result.next ≡ false
  unfolding run breaks sending closes taking
  run-quiet [] p z = z
  run-quiet (number ∷ []) p z = z
  run-quiet (number ∷ argument ∷ rest) p z =
      let P : Run → Type 0 = λ r. aa_of r.result.next ≡ false in
      let o = event_of p.controller number argument in
      let q = serve (job_table asked payload) number (taking p o.next) in
      let still = serve-quiet number (taking p o.next) ((event-keeps p.controller number argument).quiet z) in
      split P (eqb o.refused 0) _ _
      (λ _. split P q.over (closes q) (run (job_table asked payload) q rest) (λ _. still) (λ _. run-quiet rest q still)) (λ _. z)

  job-quiet : (script : List ℕ) (s : At) → Between s → aa_of s.chip ≡ false → aa_of (played asked payload script s).result.next ≡ false
  unfolding port_job_of reports declines starts starting reported
  job-quiet script s b z =
      let P : Report → Type 0 = λ r. aa_of r.result.next ≡ false in
      let first = acts-quiet (begins asked) (starting s.chip) (tt, (tt, (tt, tt))) z in
      subst P (sym (gives-job asked payload script s b.still-sound b.places b.calm).same)
      (split P _ _ _ (λ _. z) (λ _. split P _ _ _ (λ _. z) (λ _. split P _ _ _ (λ _. run-quiet script _ first) (λ _. z))))

-- any item
item_quiet : (x : Item) (s : At) → Between s → aa_of s.chip ≡ false → aa_of (leaves x s).chip ≡ false
unfolding leaves
item_quiet (job asked payload script) s b z = job-quiet asked payload script s b z
item_quiet (event number argument) s b z = (event-keeps s.chip number argument).quiet z
item_quiet (recovery settings) s b z = by_settings (bad_settings settings) refl
  where
    by_settings : (x : Bool) → bad_settings settings ≡ x → aa_of (leaves (recovery settings) s).chip ≡ false
    by_settings true e = ap aa_of (back.declines settings s e).same ∙ z
    by_settings false e = (back.recovers_so settings s e b.still-sound).back.quiet

quiet-after : (items : List Item) (s : At) → Between s → aa_of s.chip ≡ false → QuietAfter items s
quiet-after [] s b z = tt
quiet-after (x ∷ items) s b z = let q = item_quiet x s b z in (q, quiet-after items _ (item_between x s b) q)

pub quiet-between : QuietBetween
unfolding leaves
quiet-between settings items s sc l b =
    let q = (back.recovers_so settings s b sc).back.quiet in (q, quiet-after items _ (recovered-between settings s sc l b) q)
