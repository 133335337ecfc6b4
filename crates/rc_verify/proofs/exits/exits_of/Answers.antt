use Rattle.std.proofs.Common.{◌≡◌, ◌+◌, length, sym, subst, arith}
use Rattle.rc_code.specs.Running.{reading_of, function_at}
use Rattle.rc_claims.specs.Claims.{known_at}
use Rattle.rc_verify.specs.Passes.{AreFirstExits, IsExit}
use Rattle.rc_verify.proofs.Claiming.{are_claimed, no_exits, one_more_exit}
use Rattle.rc_verify.proofs.exits.exits_of.Goals as goal

pub loop-at-init : goal.loop-at-init
loop-at-init c = no_exits c.args.parts.now c.args.proofs.now c.new-exits.result.items c.new-exits.ensures.items

pub loop-at-preserved : goal.loop-at-preserved
loop-at-preserved c =
    let P = c.args.parts.now in
    let Q = c.args.proofs.now in
    subst (AreFirstExits P Q (c.loop-at.at + 1)) (sym c.in_ok-put.ensures)
    (one_more_exit P Q c.loop-at.at c.loop-at.exits.items c.in_ok-exit.exit c.loop-at.invariant (subst (λ k. IsExit (function_at (reading_of P) k) (known_at Q k) c.in_ok-exit.exit) c.in_ok-number.ensures c.in_ok-exit.ensures))

pub returns : goal.returns
returns c =
    let last : c.loop-at.at ≡ length c.args.parts.now.functions = (let f = c.loop-at-test.false in let e = c.loop-at.auto.at-end in let n = c.functions_in-at-end.ensures in omega (arith, f, e, n)) in
    are_claimed c.args.parts.now c.args.proofs.now c.loop-at.exits.items c.requires.claims (subst (λ k. AreFirstExits c.args.parts.now c.args.proofs.now k c.loop-at.exits.items) last c.loop-at.invariant)
