use Rattle.std.proofs.Common.{ℕ, ℤ, OnOk, rules, map, sym, ap, subst, ◌∙◌, w64, SFits, to_z-of_z}
use Rattle.rc_core.specs.Shapes.{expr_of, ty_of, program_of}
use Rattle.rc_core.specs.declared.ty.Ty.{Ty}
use Rattle.rc_rlang.specs.RegionCode.{one, set, constant}
use Rattle.rc_rlang.specs.Shapes.{steps_of}
use Rattle.rc_region_steps.specs.Adding.{Adds, AddsExpression}
use Rattle.rc_region_steps.proofs.FromGlobals.{global_on}
use Rattle.rc_region_steps.proofs.Walks.{path_field_on, path_element}
use Rattle.rc_region_steps.proofs.+expressions.Goals.{places::path-in-Field, places::path-in-Element+in_ok-index-in-Element+in_ok-free-in-Element}
use Rattle.rc_region_steps.proofs.+expressions.Goals as goal

pub expressions::expression-returns-in-Constant : goal.expressions::expression-returns-in-Constant
expressions::expression-returns-in-Constant t c =
    let program = program_of c.args.scope.now.parts.now in
    let fits : SFits w64 c.in-Constant.value = search rules in
    let P : ℕ → ℕ → Ty → ℤ → Type 0 = λ l h u n. OnOk c.constant.result (Adds program.structs c.args.steps.now.items c.constant.new.steps.items (one (set l h (ty_of u) (constant c.in-Constant.signedness n)))) in
    subst (λ e. OnOk c.constant.result (AddsExpression program (map ty_of c.args.scope.now.locals.now) c.args.steps.now.items c.constant.new.steps.items e (ty_of c.args.ty) c.args.temporary))
    (sym (ap expr_of c.in-Constant.is))
    (subst (λ l. P l c.args.temporary c.args.ty c.in-Constant.value) c.at.ensures.line
    (subst (λ h. P c.at.result.line h c.args.ty c.in-Constant.value) c.at.ensures.temporary
    (subst (λ u. P c.at.result.line c.at.result.temporary u c.in-Constant.value) c.at.ensures.ty
    (subst (λ n. P c.at.result.line c.at.result.temporary c.at.result.ty n) (to_z-of_z fits) (c.constant.ensures program.structs)))))

pub places::path-loop-step-preserved : goal.places::path-loop-step-preserved
places::path-loop-step-preserved t c =
    let program = program_of c.args.scope.now.parts.now in
    let locals = map ty_of c.args.scope.now.locals.now in
    let before = steps_of program.structs c.loop-step.steps.items in
    let after = steps_of program.structs c.match-step.steps.items in
    elim c.match-step.branch [
      | places::path-in-Field w ↦ c.loop-step.invariant ∙ path_field_on program locals before after c.args.path.now c.loop-step.step-index c.loop-step.free c.match-step.free c.step-item.result w.in-Field._structure w.in-Field._field
          c.loop-step-test.true c.step-item.is w.in-Field.is w.free-is (ap (λ v. steps_of program.structs v.items) w.steps-is)
      | places::path-in-Element+in_ok-index-in-Element+in_ok-free-in-Element w ↦ c.loop-step.invariant ∙ path_element program locals before after c.args.path.now c.loop-step.step-index c.loop-step.free c.match-step.free c.step-item.result w.in-Element.structure w.in-Element.field w.in-Element.index
          c.loop-step-test.true c.step-item.is w.in-Element.is (w.free-is ∙ w.in_ok-free-in-Element.ensures) (ap (λ v. steps_of program.structs v.items) w.steps-is ∙ w.in_ok-index-in-Element.ensures)
    ]

pub places::place-returns-in_ok-set-in-Global : goal.places::place-returns-in_ok-set-in-Global
places::place-returns-in_ok-set-in-Global t c =
    let program = program_of c.args.scope.now.parts.now in
    global_on program (map ty_of c.args.scope.now.locals.now) c.path.result c.args.place.now c.in-Global.global c.in-Global.path c.deref.result.now
    (ty_of c.in_ok-ty-in-Global.ty) (ty_of c.in_ok-global_type-in-Global.field-0) c.args.steps.now.items c.set.new.steps.items c.path.new.steps.items c.args.line c.args.temporary c.in_ok-next.next
    c.in-Global.is c.deref.ensures.value c.in_ok-ty-in-Global.ensures c.in_ok-global_type-in-Global.ensures c.in_ok-next.ensures (c.in_ok-set-in-Global.ensures program.structs) c.path.ensures
