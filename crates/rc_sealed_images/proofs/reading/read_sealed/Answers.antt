use Rattle.std.proofs.Common.{length, Ok, sym, subst, ◌∙◌, arith}
use Rattle.rc_fields.specs.Reading.{Fails}
use Rattle.rc_image.proofs.Refusals.{is_refused}
use Rattle.rc_sealed_images.proofs.Wholes.{all_take, all_again}
use Rattle.rc_sealed_images.proofs.reading.read_sealed.Goals as goal

pub returns-in-Ok-clause-found : goal.returns-in-Ok-clause-found
returns-in-Ok-clause-found c = all_take c.args.bytes.now c.in-Ok.read.0 c.in-Ok.read.1 (λ i. omega (arith, c.type_inv.bytes i)) c.in-Ok.ensures

pub returns-in-Ok-clause-only : goal.returns-in-Ok-clause-only
returns-in-Ok-clause-only c = λ parts proofs carries. sym (all_again c.args.bytes.now parts proofs carries) ∙ c.in-Ok.ensures

pub returns-in-Err-clause-only : goal.returns-in-Err-clause-only
returns-in-Err-clause-only c = λ parts proofs carries. rw c.fault_of.ensures (is_refused (length c.args.bytes.now) c.in-Err.stop (Ok (parts, proofs)) (subst (λ r. Fails c.in-Err.stop r) (all_again c.args.bytes.now parts proofs carries) c.in-Err.ensures))
