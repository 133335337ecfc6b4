use Rattle.std.proofs.Common.{refl}
use Rattle.std.specs.Fmt.{digits}
use Rattle.rc_replies.proofs.laws.examples_compute.Goals as goal

pub returns : goal.returns
unfolding digits
returns c = record { mutual_references = refl; children = refl; full = refl; bad = refl }
