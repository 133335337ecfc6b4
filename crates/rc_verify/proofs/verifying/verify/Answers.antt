use Rattle.std.proofs.Common.{Option, subst}
use Rattle.std.specs.Prelude.{MatchOption}
use Rattle.rc_code.specs.declared.image.Parts.{Parts}
use Rattle.rc_sealed.specs.declared.fault.ProofFault.{ProofFault}
use Rattle.rc_sealed.specs.AllProved.{AllProved}
use Rattle.rc_sealed.specs.Claimed.{annotation_of}
use Rattle.rc_sealed.specs.Faults.{IsProofFault, NoneIsWide}
use Rattle.rc_sealed.proofs.Whole.{faithful}
use Rattle.rc_verify.proofs.verifying.verify.Goals as goal

pub new-requires-clause-faithful : goal.new-requires-clause-faithful
new-requires-clause-faithful c =
    let proofs = c.args.proofs.now in
    let told = subst (λ (P : Parts). MatchOption c.in_ok-fault.field-0 (AllProved P (annotation_of P proofs) × NoneIsWide P) (λ fault. IsProofFault P (annotation_of P proofs) fault)) c.parts.ensures.parts c.in_ok-fault.ensures in
    let right = subst (λ (o : Option ProofFault). MatchOption o (AllProved c.args.image (annotation_of c.args.image proofs) × NoneIsWide c.args.image) (λ fault. IsProofFault c.args.image (annotation_of c.args.image proofs) fault)) c.in-None.is told in
    faithful c.args.image c.parts.ensures.fit c.requires.sound (annotation_of c.args.image proofs) right.0
