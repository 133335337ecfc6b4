use Rattle.std.proofs.Common.{◌≡◌, sym, ap, subst, rules, ◌∙◌, [], ◌∷◌, w64, SFits, to_z-of_z}
use Rattle.rc_syntax.specs.Shape as written
use Rattle.rc_core.specs.Shapes.{ty_of}
use Rattle.rc_deletes.specs.Judged.{Holds}
use Rattle.rc_deletes.specs.Items as rule
use Rattle.rc_typed_values.specs.Stops.{StopsAt}
use Rattle.rc_defined.specs.Contexts.{context_of, scope_of}
use Rattle.rc_items.specs.Outside.{outside_of}
use Rattle.rc_items.proofs.Globals.{known_new, total_few, global_stops, global_held, global_behind}
use Rattle.rc_items.proofs.definitions.global.Goals as goal

pub returns-in_err-initial-clause-err : goal.returns-in_err-initial-clause-err
returns-in_err-initial-clause-err c =
    let context = context_of c.args.context.now in
    let g = c.args.g.now in
    let n = written.type_of g.type_name.now in
    let h = global_stops context (outside_of c.args.outside.now) g.at n g.name.now g.length g.constant.now (ty_of c.in_ok-ty.ty) c.cells_with-total.result
    c.in_ok-ty.ensures.ok.0 c.in_ok-ty.ensures.ok.1 (known_new g.name.now (scope_of c.args.outside.now.names) c.is_known.result c.is_known.ensures c.in_ok-once.ensures.ok) (c.cells_with-total.ensures n c.in_ok-ty.ensures.ok.1)
    c.in_err-initial.field-0.0 (subst (λ i. StopsAt (rule.global_made context g.at n g.length c.cells_with-total.result i) c.in_err-initial.field-0.0) c.initial_of.ensures (c.in_err-initial.ensures.err context n)) in
    search rules

pub returns-clause-ok : goal.returns-clause-ok
returns-clause-ok c =
    let context = context_of c.args.context.now in
    let g = c.args.g.now in
    let n = written.type_of g.type_name.now in
    let h = global_held context (outside_of c.args.outside.now) g.at n g.name.now g.length g.constant.now (ty_of c.in_ok-ty.ty) c.cells_with-total.result
    c.in_ok-ty.ensures.ok.0 c.in_ok-ty.ensures.ok.1 (known_new g.name.now (scope_of c.args.outside.now.names) c.is_known.result c.is_known.ensures c.in_ok-once.ensures.ok) (c.cells_with-total.ensures n c.in_ok-ty.ensures.ok.1)
    c.in_ok-initial.initial
    (subst (λ i. rule.global_made context g.at n g.length c.cells_with-total.result i ≡ Holds (record { globals = rule.global_of context n g.length c.in_ok-initial.initial ∷ []; functions = [] })) c.initial_of.ensures (c.in_ok-initial.ensures.ok context n)) in
    let fits : SFits w64 c.in_ok-initial.initial = search rules in
    h ∙ ap (λ z. Holds (record { globals = record { ty = ty_of c.in_ok-ty.ty; count = g.length; initial = z } ∷ []; functions = [] })) (sym (to_z-of_z fits))
    ∙ ap (λ g. Holds (record { globals = g ∷ []; functions = [] })) (sym c.part.ensures)

pub returns-clause-behind : goal.returns-clause-behind
returns-clause-behind c =
    let context = context_of c.args.context.now in
    let g = c.args.g.now in
    let n = written.type_of g.type_name.now in
    let few = total_few context g.at n g.length c.cells_with-total.result c.initial_of.result _ (c.in_ok-initial.ensures.ok context n) in
    global_behind context (outside_of c.args.outside.now) g.at n g.name.now g.length g.constant.now (ty_of c.in_ok-ty.ty) (ty_of c.in_ok-copy_of.field-0) (scope_of c.add_meaning.new.names) c.in_ok-next.next c.cells_with-total.result
    c.in_ok-ty.ensures.ok.1 c.in_ok-copy_of.ensures.ok c.in_ok-add_meaning.ensures.ok c.in_ok-next.ensures.ok ((c.cells_with-total.ensures n c.in_ok-ty.ensures.ok.1).1 few)

pub invariant_of-outside-2 : goal.invariant_of-outside-2
invariant_of-outside-2 c =
    let g = c.args.g.now in
    let few = total_few (context_of c.args.context.now) g.at (written.type_of g.type_name.now) g.length c.cells_with-total.result c.initial_of.result _ (c.in_ok-initial.ensures.ok (context_of c.args.context.now) (written.type_of g.type_name.now)) in
    record { few = few }
