use Rattle.std.proofs.Common.{◌≡◌, ◌+◌, ◌*◌, ℕ, List, subst, sym, ap, ◌∙◌, arith}
use Rattle.rc_reached.specs.Masks.{marks}
use Rattle.rc_reached.proofs.Rows.{Row, row_more}
use Rattle.rc_reached.proofs.bits.words_from.Goals as goal

pub loop-at-preserved : goal.loop-at-preserved
loop-at-preserved c =
    subst (λ (xs : List ℕ). Row (λ k. marks c.args.words.now (c.args.place + k)) (c.loop-at.at + 1) xs) (sym c.in_ok-push.ensures.items)
    (row_more (λ k. marks c.args.words.now (c.args.place + k)) c.loop-at.at c.loop-at.from.items c.word_from.result c.loop-at.invariant (λ k lt.
    (let order : (c.args.place + 64 * c.loop-at.at) + k ≡ c.args.place + (64 * c.loop-at.at + k) = omega arith in
    c.word_from.ensures k lt ∙ ap (marks c.args.words.now) order)))
