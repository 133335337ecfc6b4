use Rattle.std.proofs.Common.{◌≡◌, Ok, length, ap, sym, subst, ◌∙◌, arith}
use Rattle.rc_code.specs.declared.image.Parts.{Parts}
use Rattle.rc_code.specs.Image.{FieldsFit}
use Rattle.rc_image.specs.declared.version.Version.{Version}
use Rattle.rc_image.specs.Spelling.{spelling}
use Rattle.rc_fields.specs.Reading.{Fails}
use Rattle.rc_image.specs.Reading.{parts_of}
use Rattle.rc_image.proofs.Wholes.{all_take, all_again, read_again}
use Rattle.rc_image.proofs.Refusals.{is_refused}
use Rattle.rc_image.proofs.reading.read.Goals as goal

pub new-requires : goal.new-requires
new-requires c = (all_take c.args.bytes.now c.in-Ok.parts (λ i. omega (arith, c.type_inv.bytes i)) c.in-Ok.ensures).0

pub returns-in-Ok-clause-found : goal.returns-in-Ok-clause-found
returns-in-Ok-clause-found c =
    subst (λ (p : Parts). FieldsFit p × ((v : Version) × (c.args.bytes.now ≡ spelling v p))) (sym c.new.ensures) (all_take c.args.bytes.now c.in-Ok.parts (λ i. omega (arith, c.type_inv.bytes i)) c.in-Ok.ensures)

pub returns-in-Ok-clause-only : goal.returns-in-Ok-clause-only
returns-in-Ok-clause-only c = λ v parts fits e. read_again c.args.bytes.now v parts c.new.result fits e (subst (λ (p : Parts). parts_of c.args.bytes.now ≡ Ok p) (sym c.new.ensures) c.in-Ok.ensures)

pub returns-in-Err-clause-only : goal.returns-in-Err-clause-only
returns-in-Err-clause-only c = λ v parts fits e. rw c.fault_of.ensures (is_refused (length c.args.bytes.now) c.in-Err.stop (Ok parts) (subst (λ r. Fails c.in-Err.stop r) (ap parts_of e ∙ all_again v parts fits) c.in-Err.ensures))
