use Rattle.std.proofs.Common.{◌≡◌, ◌∙◌, ◌&&◌, ◌||◌, sym, subst, arith, ap}
use Rattle.rc_facts.specs.declared.fact.Fact.{Fact}
use Rattle.rc_facts.specs.Facts.{Known, holds}
use Rattle.rc_sealed.specs.Carrying.{speaks}
use Rattle.rc_carrying.specs.Left.{is_own, stay}
use Rattle.rc_carrying.proofs.Dropping.{drop_step, drop_none}
use Rattle.rc_carrying.proofs.leaving.drop_gone.Goals.{then-not-is_it, else-not-is_it}
use Rattle.rc_carrying.proofs.leaving.drop_gone.Goals as goal

pub loop-x-preserved : goal.loop-x-preserved
loop-x-preserved c = elim c.if-not-is_it.branch [
  | then-not-is_it w ↦ record {
    same = ap (λ (k : Known). k.variables) w.set-is ∙ w.reset.ensures.variables ∙ c.loop-x.invariant.same;
    left = drop_step c.args.set.now.variables c.args.low c.loop-x.x c.args.assigned (holds c.args.set.now) (holds c.loop-x.set) (holds c.if-not-is_it.set)
        (let a = c.loop-x.auto.x in omega (arith, a)) (let t = c.loop-x-test.true in let r = c.requires.top in omega (arith, t, r)) (sym c.is_it.ensures ∙ w.if-not-is_it.true) c.requires.own c.loop-x.invariant.left
        (λ p. ap (λ (k : Known). holds k p) w.set-is ∙ w.reset.ensures.facts p);
  }
  | else-not-is_it w ↦ record {
    same = ap (λ (k : Known). k.variables) w.set-is ∙ c.loop-x.invariant.same;
    left = drop_none c.args.low c.loop-x.x c.args.assigned (holds c.args.set.now) (holds c.if-not-is_it.set) (sym c.is_it.ensures ∙ w.if-not-is_it.false)
        (λ p. ap (λ (k : Known). holds k p) w.set-is ∙ c.loop-x.invariant.left p);
  }
]

pub returns-clause-facts : goal.returns-clause-facts
returns-clause-facts c =
    let last : c.loop-x.x ≡ c.args.top = (let f = c.loop-x-test.false in let e = c.loop-x.auto.x-end in let l = c.requires.low in omega (arith, f, e, l)) in
    subst (λ m. (fact : Fact) → holds c.loop-x.set fact ≡ (holds c.args.set.now fact && (speaks (stay c.args.low m c.args.assigned) fact || is_own fact))) last c.loop-x.invariant.left
