-- Demand 3 in the caller's memory: `callers_memory`. What it says is in specs/CallersMemory.antt. Assumes nothing.
use mathlib.Core.List.{List, []}
use mathlib.Core.Path.{◌≡◌, sym, ap, subst, ◌∙◌}
use Prim.Native.Nat.{ℕ, ◌≤◌}
use lib.ListN.{length, drop}
use lib.Seq.{drop-append_seam}
use Rattle.controller.specs.declared.record.Controller.{Controller}
use Rattle.driver.specs.Run.{Report, job_of}
use Rattle.noninterference.proofs.Items.{request_same, job_carries, step_same}
use Rattle.noninterference.proofs.Theorem.{alike-twins}
use Rattle.noninterference.proofs.Twin.{Twin}
use Rattle.noninterference.specs.CallersMemory.{SameFirstBytes, SameCalls, StaysAlike, CallersMemory}
use Rattle.noninterference.specs.OldBytes.{GivenJob, Seen, answered, worked, AlikeButForPlaces}
use Rattle.notation.specs.Overlay.{laid}
use Rattle.notation.proofs.Laid.{laid-whole}
use Rattle.runs.proofs.Fits.{always-fits, begins_with}

-- of what was seen of a job
abbrev sent_of : Seen → List ℕ
sent_of (answered refused value) = []
sent_of (worked answer refused count events sent handed) = sent

abbrev handed_of : Seen → List ℕ
handed_of (answered refused value) = []
handed_of (worked answer refused count events sent handed) = handed

-- bytes that fit: the lent buffer's others are as they were
ends_with : (bytes lent : List ℕ) → length bytes ≤ length lent → drop (length bytes) (laid bytes lent) ≡ drop (length bytes) lent
ends_with bytes lent h = ap (drop (length bytes)) (laid-whole bytes lent h) ∙ drop-append_seam bytes (drop (length bytes) lent)

same_first : (bytes bytes' lent lent' : List ℕ) → bytes ≡ bytes' → length lent ≡ length lent' → length bytes ≤ length lent →
    SameFirstBytes bytes bytes' lent lent'
same_first bytes bytes' lent lent' e l h =
    let h' = subst (λ (n : ℕ). length bytes ≤ n) l h in
    subst (λ (xs : List ℕ). SameFirstBytes bytes xs lent lent') e
    (record {
      first = begins_with bytes lent h ∙ sym (begins_with bytes lent' h');
      whole = begins_with bytes lent h;
      rest = ends_with bytes lent h;
      rest' = ends_with bytes lent' h';
    })

twins-alike : (c c' : Controller) → Twin c c' → AlikeButForPlaces c c'
twins-alike c c' t = record {
  hand = ap (λ (d : Controller). d.hand) t.rest;
  moved = ap (λ (d : Controller). d.moved) t.rest;
  pointer = ap (λ (d : Controller). d.pointer) t.rest;
  armed = ap (λ (d : Controller). d.armed) t.rest;
  registers = ap (λ (d : Controller). d.registers) t.rest;
  control = ap (λ (d : Controller). d.control) t.rest;
  turn = ap (λ (d : Controller). d.turn) t.rest;
  reason = ap (λ (d : Controller). d.reason) t.rest;
  buffer_length = t.places;
  buffer_length' = t.places';
}

pub stays-alike : StaysAlike
stays-alike i c c' a = twins-alike _ _ (step_same i c c' (alike-twins c c' a)).twin

pub callers_memory : CallersMemory
callers_memory job payload script destination destination' out out' c c' a d o =
    let report : ℕ → ℕ → Controller → Report = λ room places c. job_of job payload room places script c in
    let q : GivenJob = record { job = job; payload = payload; destination_length = length destination; out_length = length out; script = script } in
    let s = request_same q c c' (alike-twins c c' a) in
    let fits = always-fits job payload (length destination) (length out) script c a.buffer_length in
    let same : Report → Type 0 = SameCalls job script destination destination' out out' (report (length destination) (length out) c) in
    subst (λ (n : ℕ). same (report n (length out') c')) d
    (subst (λ (n : ℕ). same (report (length destination) n c')) o
    (record {
      seen = s.seen;
      destinations = same_first _ _ destination destination' (ap handed_of s.seen) d fits.handed;
      outs = same_first _ _ out out' (ap sent_of s.seen) o fits.sent;
      carried_bytes = λ d z. begins_with _ destination fits.handed ∙ (job_carries q c a.buffer_length z d).0;
      next = twins-alike _ _ s.twin;
    }))
