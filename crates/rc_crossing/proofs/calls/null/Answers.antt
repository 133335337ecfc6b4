use Rattle.std.proofs.Common.{◌-◌, ◌++◌, ◌∷◌, [], sym, ap, ◌∙◌, append_assoc}
use Rattle.rc_facts.specs.declared.fact.Fact.TheVariants.{In}
use Rattle.rc_facts.specs.Null.{in_each}
use Rattle.rc_crossing.proofs.Effects.{each_last}
use Rattle.rc_crossing.proofs.calls.null.Goals as goal

pub loop-other-preserved : goal.loop-other-preserved
loop-other-preserved c =
    let l = c.loop-other in
    let x = c.args.variable in
    ap (λ xs. xs ++ in_each (l.other - 1) x) c.in_ok-push-2.ensures.items ∙ append_assoc l.all.items (In x (l.other - 1) ∷ []) (in_each (l.other - 1) x)
    ∙ ap (λ ys. l.all.items ++ ys) (sym (each_last l.other x c.loop-other-test.true)) ∙ l.invariant
