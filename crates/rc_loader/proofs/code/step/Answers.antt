use Rattle.std.proofs.Common.{◌++◌, map, length, take, sym, ap, ◌∙◌}
use Rattle.rc_code.specs.Running.{reading_of}
use Rattle.rc_code.specs.Soundness.{gives}
use Rattle.rc_loader.specs.Codes.{kind_in}
use Rattle.rc_loader.specs.declared.fault.Rule.TheVariants.{Number}
use Rattle.rc_loader.specs.Decisions.{may_end, checked, met}
use Rattle.rc_loader.proofs.Deciding.{broken_here, kept_here, stand_next}
use Rattle.rc_loader.proofs.Meeting.{met_is, not_named}
use Rattle.rc_loader.proofs.code.step.Goals as goal

pub returns-in-Err : goal.returns-in-Err
returns-in-Err c =
    broken_here c.args.parts.now c.args.function.now c.args.at c.args.stack.now.items c.requires.stand c.requires.there c.args.target c.requires.target c.in-Err.rule
    (sym c.in-Err.is ∙ c.meet.ensures ∙ ap (met c.in-Some.demands c.may_end-ends.result c.args.target) c.deref.ensures.value
    ∙ met_is c.args.parts.now c.args.function.now c.args.at c.instruction_of-instruction.result.now c.in-Some.demands c.in-Some.ensures c.args.target c.args.stack.now.items c.may_end-ends.result
    (c.may_end-ends.ensures ∙ ap (λ code. may_end (length code) c.args.at c.instruction_of-instruction.result.now) c.as_slice.ensures)
    ∙ ap (λ i. checked c.args.parts.now c.args.function.now c.args.at i c.args.target c.args.stack.now.items) c.instruction_of-instruction.ensures)

pub returns-in_ok-go_on-in-Ok : goal.returns-in_ok-go_on-in-Ok
returns-in_ok-go_on-in-Ok c =
    let answer = sym c.in-Ok.is ∙ c.meet.ensures ∙ ap (met c.in-Some.demands c.may_end-ends.result c.args.target) c.deref.ensures.value
    ∙ met_is c.args.parts.now c.args.function.now c.args.at c.instruction_of-instruction.result.now c.in-Some.demands c.in-Some.ensures c.args.target c.args.stack.now.items c.may_end-ends.result
    (c.may_end-ends.ensures ∙ ap (λ code. may_end (length code) c.args.at c.instruction_of-instruction.result.now) c.as_slice.ensures)
    ∙ ap (λ i. checked c.args.parts.now c.args.function.now c.args.at i c.args.target c.args.stack.now.items) c.instruction_of-instruction.ensures in
    let given = c.in-Some.ensures.given ∙ ap (gives (reading_of c.args.parts.now) c.args.function.now) c.instruction_of-instruction.ensures in (
      kept_here c.args.parts.now c.args.function.now c.args.at c.args.stack.now.items c.requires.stand c.requires.there c.args.target c.requires.target c.in-Ok.below answer,
      stand_next c.args.parts.now c.args.function.now c.args.at c.args.stack.now.items c.requires.stand c.requires.there c.args.target c.requires.target c.in-Ok.below c.go_on.new.stack.items
          answer (c.in_ok-go_on-in-Ok.ensures ∙ ap (λ ks. map kind_in (take c.in-Ok.below c.args.stack.now.items) ++ ks) given),
    )

pub returns-in_default : goal.returns-in_default
returns-in_default c =
    broken_here c.args.parts.now c.args.function.now c.args.at c.args.stack.now.items c.requires.stand c.requires.there c.args.target c.requires.target Number
    (not_named c.args.parts.now c.args.function.now c.args.at c.instruction_of-instruction.result.now c.args.target c.args.stack.now.items c.in_default.ensures
    ∙ ap (λ i. checked c.args.parts.now c.args.function.now c.args.at i c.args.target c.args.stack.now.items) c.instruction_of-instruction.ensures)
