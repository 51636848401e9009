-- What the two kinds of answer make of a record. Assumes nothing.
use mathlib.Core.Path.{◌≡◌, refl}
use Prim.Native.Nat.{ℕ}
use Rattle.answer.specs.Refusal.{refusal_number, refusal_of, value_of}
use Rattle.answer.specs.declared.Refusal.{Refusal}
use Rattle.controller.specs.Reply.{outcome, refuses, accepts}
use Rattle.controller.specs.declared.record.Controller.{Controller}
use Rattle.notation.proofs.Cases.{cases}
use Rattle.std.specs.Prelude.{Ok, Err}

pub refused : (c : Controller) (why : Refusal) → outcome c (Err why) ≡ refuses c (refusal_number why)
unfolding outcome refusal_of value_of refuses
refused c why = refl

pub accepted : (c : Controller) (value : ℕ) → outcome c (Ok value) ≡ accepts c value
unfolding outcome refusal_of value_of accepts
accepted c value = refl

pub ruleset outcomes = (refused, accepted, cases)
