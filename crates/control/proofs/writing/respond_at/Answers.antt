-- `respond_at` is `responds_at`: what is known at each return settles the tests of the definition.
use mathlib.Core.List.{[], ◌∷◌}
use mathlib.Core.Path.{sym, ◌∙◌}
use Rattle.control.specs.Writing.{responds_at}
use Rattle.notation.proofs.Among.{keys_in, none_of}
use Rattle.notation.proofs.Cases.{cases}
use Rattle.control.proofs.writing.respond_at.Goals.{then-k-2, else-k-2}
use Rattle.control.proofs.writing.respond_at.Goals as goal

pub returns-then-k : goal.returns-then-k
unfolding responds_at
returns-then-k c = search (keys_in (0x08 ∷ 0x10 ∷ []) c.args.status c.in-8.is, cases)

pub returns-else-k : goal.returns-else-k
unfolding responds_at
returns-else-k c = search (keys_in (0x08 ∷ 0x10 ∷ []) c.args.status c.in-8.is, cases)

pub returns-in-24 : goal.returns-in-24
unfolding responds_at
returns-in-24 c = search (keys_in (0x18 ∷ 0x20 ∷ 0x28 ∷ 0x30 ∷ []) c.args.status c.in-24.is, cases)

pub returns-then-k-3 : goal.returns-then-k-3
unfolding responds_at
returns-then-k-3 c =
    elim c.if-k-2.branch [
      | then-k-2 w ↦ search (keys_in (0x40 ∷ 0x50 ∷ []) c.args.status c.in-64.is, w.if-k-2.true, cases)
      | else-k-2 w ↦ search (keys_in (0x40 ∷ 0x50 ∷ []) c.args.status c.in-64.is, sym w.value-is ∙ c.if-k-3.true, cases)
    ]

pub returns-else-k-3 : goal.returns-else-k-3
unfolding responds_at
returns-else-k-3 c =
    elim c.if-k-2.branch [
      | then-k-2 w ↦ search (keys_in (0x40 ∷ 0x50 ∷ []) c.args.status c.in-64.is, sym w.value-is ∙ c.if-k-3.false, cases)
      | else-k-2 w ↦ search (keys_in (0x40 ∷ 0x50 ∷ []) c.args.status c.in-64.is, w.if-k-2.false, sym w.value-is ∙ c.if-k-3.false, cases)
    ]

pub returns-in-72 : goal.returns-in-72
unfolding responds_at
returns-in-72 c = search (keys_in (0x48 ∷ 0x58 ∷ []) c.args.status c.in-72.is, cases)

pub returns-in-56 : goal.returns-in-56
unfolding responds_at
returns-in-56 c = search (keys_in (0x38 ∷ []) c.args.status c.in-56.is, cases)

pub returns-in-96 : goal.returns-in-96
unfolding responds_at
returns-in-96 c = search (keys_in (0x60 ∷ 0x68 ∷ 0x80 ∷ []) c.args.status c.in-96.is, cases)

pub returns-in-208 : goal.returns-in-208
unfolding responds_at
returns-in-208 c = search (keys_in (0xD0 ∷ 0xD8 ∷ 0xE0 ∷ []) c.args.status c.in-208.is, cases)

pub returns-in-136 : goal.returns-in-136
unfolding responds_at
returns-in-136 c = search (keys_in (0x88 ∷ 0xC0 ∷ 0xC8 ∷ 0xE8 ∷ []) c.args.status c.in-136.is, cases)

pub returns-in-160 : goal.returns-in-160
unfolding responds_at
returns-in-160 c = search (keys_in (0xA0 ∷ []) c.args.status c.in-160.is, cases)

pub returns-in-168 : goal.returns-in-168
unfolding responds_at
returns-in-168 c = search (keys_in (0xA8 ∷ 0xB0 ∷ 0xB8 ∷ []) c.args.status c.in-168.is, cases)

pub returns-in_default : goal.returns-in_default
unfolding responds_at
returns-in_default c =
    let status = c.args.status in
    let rest = c.in_default.in_default-own.rest in
    search (
      none_of (0xA8 ∷ 0xB0 ∷ 0xB8 ∷ []) status rest.1,
      none_of (0xA0 ∷ []) status rest.0.1,
      none_of (0x88 ∷ 0xC0 ∷ 0xC8 ∷ 0xE8 ∷ []) status rest.0.0.1,
      none_of (0xD0 ∷ 0xD8 ∷ 0xE0 ∷ []) status rest.0.0.0.1,
      none_of (0x60 ∷ 0x68 ∷ 0x80 ∷ []) status rest.0.0.0.0.1,
      none_of (0x38 ∷ []) status rest.0.0.0.0.0.1,
      none_of (0x48 ∷ 0x58 ∷ []) status rest.0.0.0.0.0.0.1,
      none_of (0x40 ∷ 0x50 ∷ []) status rest.0.0.0.0.0.0.0.1,
      none_of (0x18 ∷ 0x20 ∷ 0x28 ∷ 0x30 ∷ []) status rest.0.0.0.0.0.0.0.0.1,
      none_of (0x08 ∷ 0x10 ∷ []) status rest.0.0.0.0.0.0.0.0.0.1,
      cases,
    )
