-- `perlovasta_trace` is `trace_call`: what is known at each return settles its tests, and `put_log` promises the rest.
use mathlib.Core.Bool.{true}
use mathlib.Core.List.{List, []}
use mathlib.Core.Path.{◌≡◌, sym, ap, ◌∙◌}
use Prim.Native.Nat.{ℕ, ◌*◌, ◌/◌, ◌≤◌}
use native.Mathlib.Omega.{arith}
use borrow.Author.Tests.{lt-ltb, le-ltb}
use lib.Dec.{ltb}
use lib.ListN.{length}
use Rattle.controller.specs.Record.{sound}
use Rattle.controller.specs.Reset.{fresh}
use Rattle.controller.specs.declared.record.Controller.{Controller}
use Rattle.laws.proofs.Soundness.{fresh_is_sound}
use Rattle.notation.proofs.Cases.{when-true, when-false, or_left, or_right, or-false}
use Rattle.notation.specs.Choice.{◌or◌}
use Rattle.notation.specs.Overlay.{laid}
use Rattle.perlovasta.specs.Trace.{TraceCall, bad_trace, log_of, trace_call}
use Rattle.perlovasta.proofs.entry.perlovasta_trace.Goals as goal
use Rattle.perlovasta.proofs.entry.perlovasta_trace.Goals.{then-is_bad-via-then-is_bad, then-is_bad-via-else-is_bad+then-log-trace}

-- nothing is done
declined : (trace log : List ℕ) → bad_trace trace or ltb (length log) (8 * (length trace / 3)) ≡ true →
    (◌≡◌ {A = ℕ} 21 (trace_call trace (length log)).answer) × (log ≡ laid (trace_call trace (length log)).logged log)
unfolding trace_call laid
declined trace log bad =
    let e : trace_call trace (length log) ≡ record { answer = 21; logged = [] } = when-true _ _ _ bad in
    (sym (ap (λ (r : TraceCall). r.answer) e), sym (ap (λ (r : TraceCall). laid r.logged log) e))

pub returns-then-is_bad : goal.returns-then-is_bad
returns-then-is_bad c =
    let trace = c.args.trace.now in
    let log = c.args.log.now in
    let bad : bad_trace trace or ltb (length log) (8 * (length trace / 3)) ≡ true =
    elim c.then-is_bad.branch [
      | then-is_bad-via-then-is_bad w ↦ or_left _ _ (sym c.is_bad.ensures ∙ w.if-is_bad.true)
      | then-is_bad-via-else-is_bad+then-log-trace w ↦ or_right _ _ (lt-ltb (length log) (8 * (length trace / 3)) (omega (arith, w.if-log-trace.true)))
    ] in
    let all = declined trace log bad in
    record { answer = c.number.ensures ∙ all.0; logged = all.1 }

pub put_log-requires : goal.put_log-requires
put_log-requires c = (omega (arith, c.if-log-trace.false), ap sound c.fresh.ensures ∙ fresh_is_sound)

pub returns : goal.returns
unfolding trace_call
returns c =
    let trace = c.args.trace.now in
    let log = c.args.log.now in
    let fine = sym c.is_bad.ensures ∙ c.if-is_bad.false in
    let room : 8 * (length trace / 3) ≤ length log = omega (arith, c.if-log-trace.false) in
    let e : trace_call trace (length log) ≡ record { answer = 0; logged = log_of fresh trace } =
    when-false _ _ _ (or-false _ _ fine (le-ltb _ _ room)) in record {
      answer = sym (ap (λ (r : TraceCall). r.answer) e);
      logged = c.put_log.ensures
          ∙ ap (λ (d : Controller). laid (log_of d trace) log) c.fresh.ensures
          ∙ sym (ap (λ (r : TraceCall). laid r.logged log) e);
    }
