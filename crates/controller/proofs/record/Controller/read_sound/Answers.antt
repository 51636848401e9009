-- `read_sound` is `read_sound`: what is known at each return settles the tests of the definition.
use mathlib.Core.Path.{sym, ◌∙◌}
use borrow.Author.Tests.{ne_eqb}
use Rattle.answer.specs.Refusal.{refusal_of, value_of}
use Rattle.controller.proofs.SoundParts.{parts}
use Rattle.controller.specs.Access.{read_sound}
use Rattle.controller.specs.Reply.{outcome, refuses, accepts}
use Rattle.notation.proofs.Among.{key_is}
use Rattle.notation.proofs.Cases.{cases}
use Rattle.controller.proofs.record.Controller.read_sound.Goals as goal

pub returns-then-is_indirect_at : goal.returns-then-is_indirect_at
unfolding read_sound outcome refusal_of value_of refuses
returns-then-is_indirect_at c = search (sym c.is_indirect_at.ensures ∙ c.if-is_indirect_at.true, cases)

pub returns-then-bars_read : goal.returns-then-bars_read
unfolding read_sound outcome refusal_of value_of refuses
returns-then-bars_read c =
    search (
      sym c.bars_read.ensures ∙ c.if-bars_read.true,
      sym c.is_indirect_at.ensures ∙ c.if-is_indirect_at.false,
      cases,
    )

pub read_data-requires : goal.read_data-requires
read_data-requires c = (parts c.args.self.now c.requires).hand

pub returns-in-0 : goal.returns-in-0
unfolding read_sound outcome refusal_of value_of accepts
returns-in-0 c =
    let register = c.args.register in
    let allowed = sym c.bars_read.ensures ∙ c.if-bars_read.false in
    let direct = sym c.is_indirect_at.ensures ∙ c.if-is_indirect_at.false in
    rw c.status.ensures (search (key_is 0 register c.in-0.is, allowed, direct, cases))

pub returns-in-1 : goal.returns-in-1
unfolding read_sound
returns-in-1 c =
    let register = c.args.register in
    let allowed = sym c.bars_read.ensures ∙ c.if-bars_read.false in
    let direct = sym c.is_indirect_at.ensures ∙ c.if-is_indirect_at.false in
    search (key_is 1 register c.in-1.is, allowed, direct, cases)

pub returns-in-2 : goal.returns-in-2
unfolding read_sound outcome refusal_of value_of accepts
returns-in-2 c =
    let register = c.args.register in
    let allowed = sym c.bars_read.ensures ∙ c.if-bars_read.false in
    let direct = sym c.is_indirect_at.ensures ∙ c.if-is_indirect_at.false in
    rw c.at_pointer.ensures (search (key_is 2 register c.in-2.is, allowed, direct, cases))

pub returns-in_default : goal.returns-in_default
unfolding read_sound outcome refusal_of value_of accepts
returns-in_default c =
    let register = c.args.register in
    let allowed = sym c.bars_read.ensures ∙ c.if-bars_read.false in
    let direct = sym c.is_indirect_at.ensures ∙ c.if-is_indirect_at.false in
    let rest = c.in_default.in_default-own.rest in
    rw (c.byte.ensures, c.interrupts.ensures)
    (search (ne_eqb register 2 rest.1, ne_eqb register 1 rest.0.1, ne_eqb register 0 rest.0.0.1, allowed, direct, cases))
