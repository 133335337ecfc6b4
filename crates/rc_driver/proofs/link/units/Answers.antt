use Rattle.std.proofs.Common.{◌≡◌, ◌∙◌, ◌+◌, ℕ, List, [], ◌∷◌, Err, length, sym, ap, subst, arith, take, length-append}
use Rattle.std.proofs.lemmas.List.{map-append, take_more}
use Rattle.rc_syntax.specs.Shape.{tree_of}
use Rattle.rc_syntax.specs.Tree.{Tree}
use Rattle.rc_syntax.specs.declared.tree.Tree.{Tree as CodeTree}
use Rattle.rc_compile.specs.declared.fault.CompileFault.{CompileFault}
use Rattle.rc_compile.specs.declared.refusal.Refusal.{Refusal}
use Rattle.rc_linked_texts.specs.Texts.{AreFine, FirstRefused}
use Rattle.rc_linked_texts.specs.Units.{FindsUnit}
use Rattle.rc_link.specs.Answers.{trees_of}
use Rattle.rc_driver.proofs.Units.{all_of_them, fine_at, refused_at, text_at}
use Rattle.rc_driver.proofs.link.units.Goals as goal

pub returns-in-Err-Refused-clause-units : goal.returns-in-Err-Refused-clause-units
returns-in-Err-Refused-clause-units c = λ all are.
    (let i = c.loop-text.text-index in
    let found = text_at c.args.texts.now all i c.text-item.result are c.loop-text-test.true c.text-item.is in
    let refused = subst (λ (fault : CompileFault). FindsUnit found.0 (Err fault)) c.in-Err-Refused.field-0-is (c.in-Err-Refused.ensures found.0 found.3) in
    let first = refused_at 1 all (trees_of c.loop-text.units.items) i found.0 c.in-Err-Refused.refusal (c.loop-text.invariant.fine all are) found.1 found.2 refused in
    let number : 1 + i ≡ c.len.result + 1 = (let count = c.loop-text.invariant.count in let long = c.len.ensures in omega (arith, count, long)) in
    subst (λ (refusal : Refusal). FirstRefused 1 all (c.len.result + 1) refusal) (sym c.in-Err-Refused.refusal-is)
    (subst (λ n. FirstRefused 1 all n c.in-Err-Refused.refusal) number first))

pub loop-text-preserved : goal.loop-text-preserved
loop-text-preserved c = record {
  fine = λ all are. (let i = c.loop-text.text-index in
      let found = text_at c.args.texts.now all i c.text-item.result are c.loop-text-test.true c.text-item.is in
      let more = fine_at all (trees_of c.loop-text.units.items) i found.0 (tree_of c.in-Ok.unit) (take_more all i found.0 found.1) found.2 (c.loop-text.invariant.fine all are) (c.in-Ok.ensures found.0 found.3) in
      let trees = subst (λ (trees : List Tree). AreFine (take (i + 1) all) trees) (sym (map-append tree_of c.loop-text.units.items (c.in-Ok.unit ∷ []))) more in
      subst (λ (units : List CodeTree). AreFine (take (i + 1) all) (trees_of units)) (sym c.in-Ok-push.ensures.items) trees);
  count = (let count = c.loop-text.invariant.count in omega (arith, ap length c.in-Ok-push.ensures.items, length-append c.loop-text.units.items (c.in-Ok.unit ∷ []), count));
}

pub returns-clause-units : goal.returns-clause-units
returns-clause-units c = λ all are.
    (let end : c.loop-text.text-index ≡ length c.args.texts.now = omega arith in
    subst (λ (texts : List (List ℕ)). AreFine texts (trees_of c.loop-text.units.items)) (ap (λ n. take n all) end ∙ all_of_them c.args.texts.now all are) (c.loop-text.invariant.fine all are))
