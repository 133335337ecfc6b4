use Rattle.std.proofs.Common.{rules, ◌≡◌, ℕ, List, length, subst, sym, ap, ◌∙◌}
use Rattle.rc_reached.specs.Walks.{is_there}
use Rattle.rc_reached.specs.Numbered.{AreNumbered}
use Rattle.rc_reached.proofs.Numbers.{numbered_more}
use Rattle.rc_reached.proofs.numbered.numbers_if.Goals as goal

pub loop-number-preserved : goal.loop-number-preserved
loop-number-preserved c =
    let long : c.loop-number.numbers.len ≡ length c.loop-number.numbers.items = search rules in
    subst (λ (xs : List ℕ). AreNumbered c.args.cells.now c.args.firsts.now xs) (sym c.in_ok-push.ensures.items)
    (numbered_more c.args.cells.now c.args.firsts.now c.loop-number.numbers.items c.number_if.result c.loop-number.invariant (λ k kind one at.
    ap (is_there kind c.args.cells.now) (sym (c.len-place.ensures ∙ long)) ∙ c.number_if.ensures k kind one at))
