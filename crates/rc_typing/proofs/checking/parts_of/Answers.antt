use Rattle.std.proofs.Common.{◌≡◌, ap, sym, ◌∙◌, subst, map, rules}
use Rattle.rc_core.specs.declared.parts.Parts.{Parts}
use Rattle.rc_syntax.specs.Shape.{item_of, tree_of}
use Rattle.rc_deletes.specs.Items as rule
use Rattle.rc_typed_values.specs.Stops.{StopsAt}
use Rattle.rc_defined.specs.Contexts.{context_of}
use Rattle.rc_typing.proofs.Programs.{whole, items_stop}
use Rattle.rc_typing.proofs.checking.parts_of.Goals as goal

pub returns-in_err-globals-clause-err : goal.returns-in_err-globals-clause-err
returns-in_err-globals-clause-err c =
    let context = context_of c.in_ok-context.context in
    let told : context ≡ rule.context_of (map item_of c.args.tree.now.items.items) = c.in_ok-context.ensures.ok ∙ ap (λ xs. rule.context_of (map item_of xs)) c.deref.ensures.value in
    let stops : StopsAt (rule.judged (tree_of c.args.tree.now)) c.in_err-globals.field-0.0 =
    items_stop (tree_of c.args.tree.now) context told c.in_err-globals.field-0.0
    (subst (λ xs. StopsAt (rule.items context rule.at_the_start (map item_of xs)) c.in_err-globals.field-0.0) c.deref-2.ensures.value c.in_err-globals.ensures.err) in
    search rules

pub returns-clause-ok : goal.returns-clause-ok
returns-clause-ok c =
    let context = context_of c.in_ok-context.context in
    let told : context ≡ rule.context_of (map item_of c.args.tree.now.items.items) = c.in_ok-context.ensures.ok ∙ ap (λ xs. rule.context_of (map item_of xs)) c.deref.ensures.value in
    let parts : Parts = record { structs = c.in_ok-structs.structs; globals = c.in_ok-globals.field-0.globals; strings = c.in_ok-globals.field-0.strings; functions = c.in_ok-globals.field-0.functions; main = c.number_of_main.result } in
    whole (tree_of c.args.tree.now) context told parts
    (ap (λ xs. rule.items context rule.at_the_start (map item_of xs)) (sym c.deref-2.ensures.value) ∙ c.in_ok-globals.ensures.ok)
    c.in_ok-structs.ensures.ok
    (c.in_ok-globals.ensures.strings ∙ ap (λ xs. (rule.behind_items context rule.at_the_start (map item_of xs)).strings) c.deref-2.ensures.value)
    c.number_of_main.ensures
