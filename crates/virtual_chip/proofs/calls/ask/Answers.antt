-- `ask` is `access_call`.
use mathlib.Core.Path.{refl, sym, ap, ◌∙◌}
use Prim.Native.Nat.{◌+◌, ◌*◌}
use Rattle.answer.specs.Refusal.{Answer, refusal_of, value_of}
use Rattle.controller.specs.Reply.{outcome}
use Rattle.controller.specs.declared.record.Controller.{Controller}
use Rattle.requests.specs.Groups.{group_of, request_kind, request_place, request_value}
use Rattle.std.proofs.Common.{Ok, Err}
use Rattle.virtual_chip.proofs.Replied.{missed, found, refused_with, never_0, accepted, refused_so, no_record_there}
use Rattle.virtual_chip.proofs.calls.ask.Goals as goal

pub returns-in_err-c : goal.returns-in_err-c
unfolding refusal_of value_of
returns-in_err-c c =
    let r = c.args.request in
    let none = missed c.args.memory.now c.decode.result c.in_err-c.field-0.0 c.decode.ensures c.in_err-c.ensures.value in
    let why = refused_with c.from_residual.result _ c.from_residual.ensures.1 ∙ ap Err none.1 in
    let left = no_record_there c.args.memory.now (request_kind r) (request_place r) (request_value r) c.from_residual.result none.0
    (ap (λ (a : Answer). refusal_of a + 256 * value_of a) why) in
    record { answer = left.0; bytes = left.1 }

pub returns-in_err-value : goal.returns-in_err-value
unfolding outcome
returns-in_err-value c =
    let r = c.args.request in
    let here = found c.args.memory.now c.decode.result c.in_ok-c.c c.decode.ensures c.in_ok-c.ensures.value in
    let asked = c.in_err-value.ensures ∙ ap (λ (d : Controller). group_of d (request_kind r) (request_place r) (request_value r)) here.1 in
    let why = refused_with c.from_residual-in_err-value.result _ c.from_residual-in_err-value.ensures.1 in
    let left = refused_so c.args.memory.now (request_kind r) (request_place r) (request_value r) c.from_residual-in_err-value.result
    (outcome c.perform.new.c (Err c.in_err-value.field-0.0)) here.0 asked (sym (ap refusal_of why)) (sym (ap value_of why))
    (rw why (never_0 c.in_err-value.field-0.0)) in
    record { answer = left.0; bytes = left.1 }

pub returns : goal.returns
unfolding outcome refusal_of
returns c =
    let r = c.args.request in
    let here = found c.args.memory.now c.decode.result c.in_ok-c.c c.decode.ensures c.in_ok-c.ensures.value in
    let asked = c.in_ok-value.ensures ∙ ap (λ (d : Controller). group_of d (request_kind r) (request_place r) (request_value r)) here.1 in
    let left = accepted c.args.memory.now (request_kind r) (request_place r) (request_value r) (Ok c.in_ok-value.value)
    (outcome c.perform.new.c (Ok c.in_ok-value.value)) here.0 asked refl refl _ refl c.store.ensures in
    record { answer = left.0; bytes = left.1 }
