use Rattle.rc_sealed_images.proofs.Wholes.{same_parts, same_proofs, nothing_follows}
use Rattle.rc_sealed_images.proofs.laws.no_sealed_image_begins_another.Goals as goal

pub returns-clause-parts : goal.returns-clause-parts
returns-clause-parts c = same_parts

pub returns-clause-proofs : goal.returns-clause-proofs
returns-clause-proofs c = same_proofs

pub returns-clause-whole : goal.returns-clause-whole
returns-clause-whole c = nothing_follows
