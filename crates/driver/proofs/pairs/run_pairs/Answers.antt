-- `run_pairs` is `run`: the run over what is left of the script, from the progress so far, always leads to what the whole run gives.
use mathlib.Core.Path.{◌≡◌, refl, sym, ap, ◌∙◌}
use native.Mathlib.Omega.{arith}
use lib.ListN.{get_or}
use Rattle.std.specs.Prelude.{Ok, Err}
use Rattle.answer.specs.Refusal.{refusal_of, value_of}
use Rattle.controller.specs.Event.{event_of}
use Rattle.controller.specs.Record.{sound}
use Rattle.controller.specs.Reply.{Outcome, outcome}
use Rattle.driver.proofs.Script.{begun, ended, passes, at_most_one, rest-length, accepted-sound, runs_out, refused, over, on}
use Rattle.driver.specs.Run.{closes, taking}
use Rattle.service.proofs.AnyTable.{serve-events}
use Rattle.service.specs.JobTable.{job_table}
use Rattle.service.specs.declared.progress.Progress.{Progress}
use Rattle.driver.proofs.pairs.run_pairs.Goals as goal

pub loop-left-init : goal.loop-left-init
loop-left-init c = record { events = omega arith; sent = omega arith; leads = begun refl }

pub serve-requires : goal.serve-requires
unfolding outcome refusal_of
serve-requires c =
    let l = c.loop-left in
    let xs = l.left.now in
    let given : outcome c.on_event.new.self (Ok c.in-Ok.value) ≡ event_of l.p.controller (get_or xs 0 0) (get_or xs 1 0) =
    sym (ap (outcome c.on_event.new.self) c.in-Ok.is) ∙ c.on_event.ensures in
    ap (λ (o : Outcome). sound o.next) given ∙ accepted-sound l.p.controller _ _ (sym (ap (λ (o : Outcome). o.refused) given))

pub loop-left-preserved : goal.loop-left-preserved
unfolding outcome refusal_of value_of taking
loop-left-preserved c =
    let l = c.loop-left in
    let xs = l.left.now in
    let table = job_table c.args.job c.args.payload.now in
    let o = outcome c.on_event.new.self (Ok c.in-Ok.value) in
    let given : o ≡ event_of l.p.controller (get_or xs 0 0) (get_or xs 1 0) = sym (ap (outcome c.on_event.new.self) c.in-Ok.is) ∙ c.on_event.ensures in
    let pair = c.in-len2-up.len_at_least in
    let note = c.note-sent.ensures in
    let counted = rest-length xs pair in
    let events = ap (λ (q : Progress). q.events) c.serve.ensures ∙ serve-events table (get_or xs 0 0) (taking l.p o.next) in
    let more = at_most_one _ _ _ note.next in
    record {
      events = omega (arith, l.invariant.events, counted, events);
      sent = omega (arith, l.invariant.sent, counted, more);
      leads = passes (get_or xs 0 0) o.value (on table l.p xs pair o given refl c.serve.new.p c.serve.ensures c.if-p.false)
          note.next note.noted l.invariant.leads;
    }

pub returns-in-Err : goal.returns-in-Err
unfolding outcome refusal_of
returns-in-Err c =
    let l = c.loop-left in
    let xs = l.left.now in
    let table = job_table c.args.job c.args.payload.now in
    let o = outcome c.on_event.new.self (Err c.in-Err.why) in
    let given : o ≡ event_of l.p.controller (get_or xs 0 0) (get_or xs 1 0) = sym (ap (outcome c.on_event.new.self) c.in-Err.is) ∙ c.on_event.ensures in
    let closed = refused table l.p xs c.in-len2-up.len_at_least o given c.in-Err.why refl ∙ ap closes (sym c.end-in-Err.ensures) in
    ended c.end-in-Err.new.self closed l.invariant.leads c.of-in-Err.result c.of-in-Err.ensures.result c.of-in-Err.ensures.sent

pub returns-in_default : goal.returns-in_default
returns-in_default c =
    let l = c.loop-left in
    let closed = runs_out (job_table c.args.job c.args.payload.now) l.p l.left.now c.in_default.len_below ∙ ap closes (sym c.end.ensures) in
    ended c.end.new.self closed l.invariant.leads c.of.result c.of.ensures.result c.of.ensures.sent

pub returns-then-p : goal.returns-then-p
unfolding outcome refusal_of value_of taking
returns-then-p c =
    let l = c.loop-left in
    let xs = l.left.now in
    let table = job_table c.args.job c.args.payload.now in
    let o = outcome c.on_event.new.self (Ok c.in-Ok.value) in
    let given : o ≡ event_of l.p.controller (get_or xs 0 0) (get_or xs 1 0) = sym (ap (outcome c.on_event.new.self) c.in-Ok.is) ∙ c.on_event.ensures in
    let note = c.note-sent.ensures in
    let q = c.serve.new.p in
    let last = over table l.p xs c.in-len2-up.len_at_least o given refl q c.serve.ensures c.if-p.true in
    ended q refl (passes (get_or xs 0 0) o.value last note.next note.noted l.invariant.leads)
    c.of-then-p.result c.of-then-p.ensures.result c.of-then-p.ensures.sent
