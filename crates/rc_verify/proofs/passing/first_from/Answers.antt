use Rattle.std.proofs.Common.{◌≡◌, ◌+◌, ◌<◌, ◌≤◌, suc, sym, ap, ◌∙◌, subst, arith}
use Rattle.std.specs.Prelude.{length, MatchBool}
use Rattle.rc_sealed.specs.Carrying.{height}
use Rattle.rc_carrying.specs.Asked.{Passed}
use Rattle.rc_image_steps.specs.Sites.{function_in, image_of}
use Rattle.rc_verify.specs.Passes.{claimed, IsAt}
use Rattle.rc_verify.proofs.Going.{fails_at, none_fails}
use Rattle.rc_verify.proofs.passing.first_from.Goals as goal

pub returns-then-not-branch : goal.returns-then-not-branch
returns-then-not-branch c =
    let P = c.args.pass.now in
    let number = c.in_ok-number.number in
    let there : number < length (function_in P.site).code = (let t = c.loop-at-test.true in let e = c.size_of-at-end.ensures in let n = c.in_ok-number.ensures in omega (arith, t, e, n)) in
    fails_at P c.requires.pass c.requires.entered.proved number c.loop-at.set (subst (λ k. IsAt P k c.loop-at.set) (sym c.in_ok-number.ensures) c.loop-at.invariant.here) there
    (subst (λ b. MatchBool b (IsAt P (number + 1) c.go_on.new.set) (Passed (image_of P.site) (claimed P) P.site.number number → ⊥)) c.if-not-branch.true c.in_ok-go_on.ensures)

pub loop-at-preserved : goal.loop-at-preserved
loop-at-preserved c =
    let P = c.args.pass.now in
    let number = c.in_ok-number.number in
    let same : suc number ≡ c.loop-at.at + 1 = (let n = c.in_ok-number.ensures in omega (arith, n)) in
    record {
      high = c.next_height-next.ensures ∙ ap (height (image_of P.site) (function_in P.site)) same;
      here = subst (λ k. IsAt P (k + 1) c.go_on.new.set) c.in_ok-number.ensures
          (subst (λ b. MatchBool b (IsAt P (number + 1) c.go_on.new.set) (Passed (image_of P.site) (claimed P) P.site.number number → ⊥)) c.if-not-branch.false c.in_ok-go_on.ensures);
    }

pub returns : goal.returns
returns c =
    let P = c.args.pass.now in
    let past : length (function_in P.site).code ≤ c.loop-at.at = (let f = c.loop-at-test.false in let e = c.size_of-at-end.ensures in omega (arith, f, e)) in
    none_fails P c.requires.pass c.requires.entered.proved c.loop-at.at c.loop-at.set c.loop-at.invariant.here past
