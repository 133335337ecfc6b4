use Rattle.std.proofs.Common.{◌≡◌, ◌≤◌, ◌+◌, [], List, refl, ◌∙◌, arith}
use Rattle.rc_syntax.specs.declared.tree.Note.{Note}
use Rattle.rc_syntax.specs.Grammar.{Base, Stars, TypeName, typed}
use Rattle.rc_syntax.specs.reader.Todo.{Todo, build}
use Rattle.rc_syntax.specs.reader.Reading.{with_stars}
use Rattle.rc_words.specs.Words.{spot_of, from}
use Rattle.rc_expr.specs.Goes.{inside}
use Rattle.rc_expr.proofs.Running.{passes, begins_with, deeper_around, closes, opens}
use Rattle.rc_expr.proofs.Tests.{quiet_plain, quiet_stars}
use Rattle.rc_expr.proofs.types.type_name.Goals as goal

pub returns-in_err-base-clause-reads : goal.returns-in_err-base-clause-reads
returns-in_err-base-clause-reads c = λ root round k a.
    let ts = c.args.tokens.now in
    let none : c.args.depth + 0 ≡ c.args.depth = omega arith in
    let same : c.args.at ≤ c.args.at = omega arith in
    passes round ts _ _ _ _ _ c.from_residual.ensures.1 (begins_with round ts c.args.at with_stars k (λ p. refl))
    (c.in_err-base.ensures.reads root round (inside ts c.args.at c.args.at with_stars k) (deeper_around c.args.depth c.args.at with_stars (λ n. refl) a none same))

pub returns-in_err-stars-clause-reads : goal.returns-in_err-stars-clause-reads
returns-in_err-stars-clause-reads c = λ root round k a.
    let ts = c.args.tokens.now in
    let base = c.in_ok-base.base in
    let place = c.in_ok-base.place in
    let none : c.args.depth + 0 ≡ c.args.depth = omega arith in
    let same : c.args.at ≤ c.args.at = omega arith in
    let past = c.in_ok-base.ensures.place in
    let le : c.args.at ≤ place = omega (arith, past) in
    let h : List Note → Todo TypeName = λ ns. build (typed base ns) in
    passes round ts _ _ _ _ _ c.from_residual-in_err-stars.ensures.1
    (begins_with round ts c.args.at with_stars k (λ p. refl)
    ∙ c.in_ok-base.ensures.reads root round (inside ts c.args.at c.args.at with_stars k) (deeper_around c.args.depth c.args.at with_stars (λ n. refl) a none same)
    ∙ closes Base round ts c.args.at c.args.at place base with_stars k same le (quiet_plain Base (spot_of ts c.args.at) base (from ts place) (λ p. refl))
    ∙ opens round ts c.args.at place Stars [] h k)
    (c.in_err-stars.ensures.reads root round (inside ts c.args.at place h k) (deeper_around c.args.depth place h (λ n. refl) a none le))

pub returns-clause-reads : goal.returns-clause-reads
returns-clause-reads c = λ root round k a.
    let ts = c.args.tokens.now in
    let base = c.in_ok-base.base in
    let place = c.in_ok-base.place in
    let stars = c.in_ok-stars.stars.items in
    let end = c.in_ok-stars.end in
    let none : c.args.depth + 0 ≡ c.args.depth = omega arith in
    let same : c.args.at ≤ c.args.at = omega arith in
    let past = c.in_ok-base.ensures.place in
    let le : c.args.at ≤ place = omega (arith, past) in
    let past2 = c.in_ok-stars.ensures.place in
    let le2 : place ≤ end = omega (arith, past2) in
    let h : List Note → Todo TypeName = λ ns. build (typed base ns) in
    begins_with round ts c.args.at with_stars k (λ p. refl)
    ∙ c.in_ok-base.ensures.reads root round (inside ts c.args.at c.args.at with_stars k) (deeper_around c.args.depth c.args.at with_stars (λ n. refl) a none same)
    ∙ closes Base round ts c.args.at c.args.at place base with_stars k same le (quiet_plain Base (spot_of ts c.args.at) base (from ts place) (λ p. refl))
    ∙ opens round ts c.args.at place Stars [] h k
    ∙ c.in_ok-stars.ensures.reads root round (inside ts c.args.at place h k) (deeper_around c.args.depth place h (λ n. refl) a none le)
    ∙ closes Stars round ts c.args.at place end stars h k le le2 (quiet_stars ts end (spot_of ts place) stars c.in_ok-stars.ensures.quiet)
