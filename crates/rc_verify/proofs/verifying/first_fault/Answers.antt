use Rattle.std.proofs.Common.{◌<◌, Option, subst, arith}
use Rattle.std.specs.Prelude.{length, MatchOption}
use Rattle.rc_sealed.specs.declared.fault.ProofFault.{ProofFault}
use Rattle.rc_verify.specs.Firsts.{AllRight, FaultIn}
use Rattle.rc_verify.specs.Passes.{proofs_of}
use Rattle.rc_verify.proofs.Telling.{one_more_right, told}
use Rattle.rc_verify.proofs.verifying.first_fault.Goals as goal

pub returns-in-Some : goal.returns-in-Some
returns-in-Some c =
    let parts = c.args.checks.now.parts.now in
    let proofs = proofs_of c.args.checks.now in
    let number = c.in_ok-number.number in
    let there : number < length parts.functions = (let t = c.loop-at-test.true in let e = c.functions_in-at-end.ensures in let n = c.in_ok-number.ensures in omega (arith, t, e, n)) in
    told parts proofs c.requires.narrow number there (λ f lt. c.loop-at.invariant f (let n = c.in_ok-number.ensures in omega (arith, lt, n))) c.in-Some.fault
    (subst (λ (o : Option ProofFault). MatchOption o (AllRight parts proofs number) (FaultIn parts proofs number)) c.in-Some.is c.in_ok-fault.ensures)

pub loop-at-preserved : goal.loop-at-preserved
loop-at-preserved c =
    let parts = c.args.checks.now.parts.now in
    let proofs = proofs_of c.args.checks.now in
    let number = c.in_ok-number.number in
    one_more_right parts proofs c.loop-at.at c.loop-at.invariant
    (subst (AllRight parts proofs) c.in_ok-number.ensures (subst (λ (o : Option ProofFault). MatchOption o (AllRight parts proofs number) (FaultIn parts proofs number)) c.in_default.is c.in_ok-fault.ensures))
