-- Two runs of one table, whatever it is, over twins give the same, where its invariant of one run settles which bytes events 6 and 8 read. Assumes nothing.
use mathlib.Core.Bool.{Bool, true, false}
use mathlib.Core.List.{List, [], ◌∷◌}
use mathlib.Core.Path.{◌≡◌, refl, sym, ap, subst, ◌∙◌}
use Prim.Native.Nat.{ℕ}
use lib.Dec.{eqb}
use Rattle.answer.specs.Ending.{number_of, beside_of}
use Rattle.controller.specs.Event.{event_of}
use Rattle.driver.specs.Run.{Run, closes, breaks, sending, taking, run}
use Rattle.noninterference.proofs.Blind.{Reading}
use Rattle.noninterference.proofs.Twin.{Twin, flip, event-alike, twins, Same, taking-same, serve-same}
use Rattle.notation.specs.Choice.{when◌then◌else◌}
use Rattle.service.specs.Serve.{Table, serve}
use Rattle.service.specs.declared.progress.Progress.{Progress}

-- What two runs have in common.
pub record RunSame (r r' : Run) : Type 0 where
  pub twin : Twin r.result.next r'.result.next
  pub answer : r.result.answer ≡ r'.result.answer
  pub refused : r.result.refused ≡ r'.result.refused
  pub count : r.result.count ≡ r'.result.count
  pub events : r.result.events ≡ r'.result.events
  pub sent : r.sent ≡ r'.sent

closes-same : (p p' : Progress) → Same p p' → RunSame (closes p) (closes p')
unfolding closes
closes-same p p' s =
    record { twin = s.twin; answer = ap number_of s.ending; refused = ap beside_of s.ending; count = s.count; events = s.events; sent = refl }

breaks-same : (p p' : Progress) (answer refused refused' : ℕ) → refused ≡ refused' → Same p p' →
    RunSame (breaks p answer refused) (breaks p' answer refused')
unfolding breaks
breaks-same p p' answer refused refused' e s =
    record { twin = s.twin; answer = refl; refused = e; count = refl; events = s.events; sent = refl }

sending-same : (event value value' : ℕ) (r r' : Run) → value ≡ value' → RunSame r r' →
    RunSame (sending event value r) (sending event value' r')
unfolding sending
sending-same event value value' r r' e s =
    record {
      twin = s.twin;
      answer = s.answer;
      refused = s.refused;
      count = s.count;
      events = s.events;
      sent =
          ap (λ (v : ℕ). when eqb event 6 then v ∷ r.sent else r.sent) e ∙
          ap (λ (l : List ℕ). when eqb event 6 then value' ∷ l else l) s.sent;
    }

-- the same test on both sides
both : (b : Bool) (x x' y y' : Run) → (b ≡ true → RunSame x x') → (b ≡ false → RunSame y y') →
    RunSame (when b then x else y) (when b then x' else y')
unfolding when◌then◌else◌
both true x x' y y' f g = f refl
both false x x' y y' f g = g refl

choose : (b b' : Bool) (x x' y y' : Run) → b ≡ b' → (b ≡ true → RunSame x x') → (b ≡ false → RunSame y y') →
    RunSame (when b then x else y) (when b' then x' else y')
choose b b' x x' y y' e f g = subst (λ (z : Bool). RunSame (when b then x else y) (when z then x' else y')) e (both b x x' y y' f g)

-- an accepted pair, served
abbrev pub after : Table → Progress → ℕ → ℕ → Progress
after table p event argument = serve table event (taking p (event_of p.controller event argument).next)

-- what a table owes: an invariant of one run that its work keeps, and that settles the bytes that are read
pub record Kept (table : Table) (Inv : Progress → Type 0) : Type 0 where
  pub keeps : (p : Progress) (event argument : ℕ) → Inv p → eqb (event_of p.controller event argument).refused 0 ≡ true →
      (after table p event argument).over ≡ false → Inv (after table p event argument)
  pub reading : (p p' : Progress) → Inv p → Inv p' → Twin p.controller p'.controller → Reading p.controller p'.controller.buffer

module _ (table : Table) (Inv : Progress → Type 0) (k : Kept table Inv) where
  pub run-same : (script : List ℕ) (p p' : Progress) → Inv p → Inv p' → Same p p' → RunSame (run table p script) (run table p' script)
  unfolding run
  run-same [] p p' g g' s = breaks-same p p' 27 0 0 refl s
  run-same (event ∷ []) p p' g g' s = breaks-same p p' 27 0 0 refl s
  run-same (event ∷ argument ∷ rest) p p' g g' s =
      let t = s.twin in
      let e = event-alike _ _ event argument t (λ _. k.reading p p' g g' t) in
      let e' = event-alike _ _ event argument (flip t) (λ _. k.reading p' p g' g (flip t)) in
      let q = serve-same table event _ _ (taking-same p p' _ _ s (twins _ _ t e e')) in
      choose _ _ _ _ _ _ (ap (λ (n : ℕ). eqb n 0) e.refused)
      (λ ok. sending-same event _ _ _ _ e.value
      (choose _ _ _ _ _ _ q.over (λ _. closes-same _ _ q)
      (λ o. run-same rest _ _ (k.keeps p event argument g ok o)
      (k.keeps p' event argument g' (ap (λ (n : ℕ). eqb n 0) (sym e.refused) ∙ ok) (sym q.over ∙ o)) q)))
      (λ _. breaks-same p p' 28 _ _ e.refused s)
