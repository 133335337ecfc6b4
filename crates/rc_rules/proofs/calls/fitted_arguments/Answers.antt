use Rattle.std.proofs.Common.{◌≡◌, ◌<◌, ◌+◌, Some, option_map, map, length, drop, sym, ap, ◌∙◌, [], ◌∷◌, ◌++◌, arith}
use Rattle.std.proofs.lemmas.List.{map-append}
use Rattle.rc_deletes.specs.Calls.{fitted_arguments}
use Rattle.std.specs.Vec.Iter.{into_iter_items}
use Rattle.rc_typed_values.specs.Shapes.{typed_of}
use Rattle.rc_rules.specs.Parameters.{parameters_of, fitted_at}
use Rattle.rc_rules.specs.Shapes.{code_of}
use Rattle.rc_rules.proofs.Arguments.{after, argument_added}
use Rattle.rc_rules.proofs.calls.fitted_arguments.Goals as goal

pub loop-v-preserved-then-place-count : goal.loop-v-preserved-then-place-count
loop-v-preserved-then-place-count c =
    let inside : c.loop-v.place < length (parameters_of c.args.parameters) = omega (arith, c.count.ensures, c.if-place-count.true) in
    let fits : fitted_at (parameters_of c.args.parameters) c.loop-v.place (typed_of c.in-Some.v) ≡ Some (code_of c.in-Some-2.code) = sym c.in_ok-code.ensures.ok ∙ ap (option_map code_of) c.in-Some-2.is in
    let before : fitted_arguments (parameters_of c.args.parameters) (map typed_of c.args.values.items) ≡ after (map code_of c.loop-v.codes.items) (fitted_arguments (drop c.loop-v.place (parameters_of c.args.parameters)) (typed_of c.in-Some.v ∷ map typed_of (into_iter_items c.next.new.self))) =
    c.loop-v.invariant.same ∙ ap (λ vs. after (map code_of c.loop-v.codes.items) (fitted_arguments (drop c.loop-v.place (parameters_of c.args.parameters)) (map typed_of vs))) c.in-Some.ensures.steps.0 in
    let codes : map code_of c.add.new.items.items ≡ map code_of c.loop-v.codes.items ++ code_of c.in-Some-2.code ∷ [] = ap (map code_of) c.in_ok-add.ensures.ok ∙ map-append code_of c.loop-v.codes.items (c.in-Some-2.code ∷ []) in
    record {
      within = omega arith;
      same = argument_added (parameters_of c.args.parameters) c.loop-v.place (fitted_arguments (parameters_of c.args.parameters) (map typed_of c.args.values.items)) (map code_of c.loop-v.codes.items) (typed_of c.in-Some.v) (map typed_of (into_iter_items c.next.new.self)) (code_of c.in-Some-2.code) inside fits before ∙ ap (λ es. after es (fitted_arguments (drop (c.loop-v.place + 1) (parameters_of c.args.parameters)) (map typed_of (into_iter_items c.next.new.self)))) (sym codes);
    }
