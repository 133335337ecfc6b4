use Rattle.std.proofs.Common.{◌∙◌, ap, arith}
use Rattle.rc_code.specs.declared.image.Function.{Function}
use Rattle.rc_code.specs.Soundness.{instruction_at}
use Rattle.rc_pinning.proofs.Judging.{calls_here, known_of, not_asked, asked_here, next_inside, small_number, pins_told}
use Rattle.rc_pinning.proofs.pins.is_pinned.Goals as goal

pub pins_of-requires : goal.pins_of-requires
pins_of-requires c =
    calls_here c.args.parts.now c.args.number c.args.deleters.now (known_of c.requires.ready) c.args.at c.requires.inside c.instruction_of.result.now (c.instruction_of.ensures ∙ ap (λ (f : Function). instruction_at f c.args.at) c.function_of.ensures)

pub pins_all-requires-clause-row : goal.pins_all-requires-clause-row
pins_all-requires-clause-row c =
    let asked = asked_here c.args.parts.now c.args.number c.args.deleters.now (known_of c.requires.ready) c.args.at c.requires.inside c.instruction_of.result.now (c.instruction_of.ensures ∙ ap (λ (f : Function). instruction_at f c.args.at) c.function_of.ensures) c.in-Some.pins.now c.in-Some.ensures in
    let next = next_inside c.args.parts.now c.args.number c.args.deleters.now c.args.tables.now c.requires.ready c.args.at c.requires.inside c.in-Some.pins.now asked in
    let long = c.requires.ready.tables.rows.long in
    omega (arith, next, long)

pub pins_all-requires-clause-small : goal.pins_all-requires-clause-small
pins_all-requires-clause-small c =
    let asked = asked_here c.args.parts.now c.args.number c.args.deleters.now (known_of c.requires.ready) c.args.at c.requires.inside c.instruction_of.result.now (c.instruction_of.ensures ∙ ap (λ (f : Function). instruction_at f c.args.at) c.function_of.ensures) c.in-Some.pins.now c.in-Some.ensures in
    small_number c.args.parts.now c.args.number c.args.deleters.now c.args.tables.now c.requires.ready c.args.at c.requires.inside c.in-Some.pins.now asked

pub returns-in-None : goal.returns-in-None
returns-in-None c =
    not_asked c.args.parts.now c.args.number c.args.deleters.now (known_of c.requires.ready) c.args.at c.requires.inside c.instruction_of.result.now (c.instruction_of.ensures ∙ ap (λ (f : Function). instruction_at f c.args.at) c.function_of.ensures) c.in-None.ensures

pub returns-in-Some : goal.returns-in-Some
returns-in-Some c =
    let asked = asked_here c.args.parts.now c.args.number c.args.deleters.now (known_of c.requires.ready) c.args.at c.requires.inside c.instruction_of.result.now (c.instruction_of.ensures ∙ ap (λ (f : Function). instruction_at f c.args.at) c.function_of.ensures) c.in-Some.pins.now c.in-Some.ensures in
    pins_told c.args.parts.now c.args.number c.args.deleters.now c.args.tables.now c.requires.ready c.args.at c.requires.inside c.in-Some.pins.now asked c.pins_all.result c.pins_all.ensures
