use Rattle.std.proofs.Common.{map, reverse, option_to_list, refl, sym, ap, ap₂, subst, ◌&&◌, ◌∙◌}
use Rattle.rc_code.specs.declared.instruction.Instruction.TheVariants as instruction
use Rattle.rc_code.specs.Running.{reading_of}
use Rattle.rc_code.specs.Soundness.{operand_kind}
use Rattle.rc_loader.specs.Codes.{kind_in}
use Rattle.rc_loader.specs.Decisions.{pushed, is_any, may_be_marked, reached_cell, storage_in, AreDemands}
use Rattle.rc_loader.proofs.Operands.{stored_is}
use Rattle.rc_loader.proofs.demands.demands_of.Goals as goal

pub returns-else-not-has_type : goal.returns-else-not-has_type
returns-else-not-has_type c =
    let is = c.going_on-in-Typed.ensures in
    subst (λ i. AreDemands c.args.parts.now c.args.function.now c.args.at i c.going_on-in-Typed.result) (sym c.in-Typed.is) (record {
      named = sym c.has_type.ensures ∙ c.if-not-has_type.false;
      leads = ap (λ d. d.leads) is;
      empties = ap (λ d. d.empties) is;
      kinds = ap (λ d. reverse (pushed d.taken)) is ∙ c.taken_by_typed.ensures.kinds (reading_of c.args.parts.now) c.args.function.now;
      any = ap (λ d. is_any d.taken) is ∙ c.taken_by_typed.ensures.any;
      given = ap (λ d. map kind_in (option_to_list d.given)) is ∙ c.given_by_typed-given.ensures (reading_of c.args.parts.now) c.args.function.now;
    })

pub returns-in-Arithmetic : goal.returns-in-Arithmetic
returns-in-Arithmetic c =
    let is = c.going_on-in-Arithmetic.ensures in
    subst (λ i. AreDemands c.args.parts.now c.args.function.now c.args.at i c.going_on-in-Arithmetic.result) (sym c.in-Arithmetic.is) (record {
      named = refl;
      leads = ap (λ d. d.leads) is;
      empties = ap (λ d. d.empties) is;
      kinds = ap (λ d. reverse (pushed d.taken)) is ∙ c.taken_by_arithmetic.ensures.kinds (reading_of c.args.parts.now) c.args.function.now;
      any = ap (λ d. is_any d.taken) is ∙ c.taken_by_arithmetic.ensures.any;
      given = ap (λ d. map kind_in (option_to_list d.given)) is ∙ c.given_by_arithmetic-given.ensures (reading_of c.args.parts.now) c.args.function.now;
    })

pub returns-else-not-may_be_marked : goal.returns-else-not-may_be_marked
returns-else-not-may_be_marked c =
    let is = c.going_on-in-Store.ensures in
    let path = c.in_ok-path-in-Store.ensures in
    let cell = c.reached_cell-cell.ensures in
    subst (λ i. AreDemands c.args.parts.now c.args.function.now c.args.at i c.going_on-in-Store.result) (sym c.in-Store.is) (record {
      named = ap₂ (λ a b. a && b) path.0 (ap (λ p. may_be_marked (reached_cell c.args.parts.now p) c.in-Store.proved) (sym path.1) ∙ ap (λ k. may_be_marked k c.in-Store.proved) (sym cell) ∙ sym c.may_be_marked.ensures ∙ c.if-not-may_be_marked.false);
      leads = ap (λ d. d.leads) is;
      empties = ap (λ d. d.empties) is;
      kinds = ap (λ d. reverse (pushed d.taken)) is
          ∙ stored_is c.args.parts.now c.args.function.now (instruction.Store c.in-Store.path c.in-Store.proved) c.in-Store.path c.in-Store.proved c.in_ok-path-in-Store.path.now c.held_by.result refl path.1 (c.held_by.ensures ∙ ap (λ k. operand_kind (storage_in k)) cell);
      any = ap (λ d. is_any d.taken) is;
      given = ap (λ d. map kind_in (option_to_list d.given)) is;
    })

pub returns-in-Simple : goal.returns-in-Simple
returns-in-Simple c = subst (λ i. AreDemands c.args.parts.now c.args.function.now c.args.at i c.demands_of_simple.result) (sym c.in-Simple.is) (c.demands_of_simple.ensures c.args.parts.now c.args.at)

pub returns-in-Jump : goal.returns-in-Jump
returns-in-Jump c = subst (λ i. AreDemands c.args.parts.now c.args.function.now c.args.at i c.demands_of_jump.result) (sym c.in-Jump.is) (c.demands_of_jump.ensures c.args.parts.now)
