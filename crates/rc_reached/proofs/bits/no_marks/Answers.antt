use Rattle.std.proofs.Common.{◌+◌, ℕ, false, List, subst, sym, ◌∙◌, arith}
use Rattle.rc_reached.proofs.Rows.{Row, row_more, row_blank, none_set}
use Rattle.rc_reached.proofs.bits.no_marks.Goals as goal

pub loop-preserved : goal.loop-preserved
loop-preserved c =
    subst (λ (xs : List ℕ). Row (λ k. false) (c.loop.counter + 1) xs) (sym c.in_ok-push.ensures.items) (row_more (λ k. false) c.loop.counter c.loop.words.items 0 c.loop.invariant (λ k lt. none_set k))

pub returns-clause-long : goal.returns-clause-long
returns-clause-long c = c.loop.invariant.long ∙ omega (arith, c.loop-test.false, c.loop.auto.counter-end)

pub returns-clause-none : goal.returns-clause-none
returns-clause-none c = row_blank c.loop.counter c.loop.words.items c.loop.invariant
