use Rattle.std.proofs.Common.{arith}
use Rattle.rc_image.proofs.Wholes.{fields_take}
use Rattle.rc_sealed_images.proofs.reading.read_image.Goals as goal

pub new-requires : goal.new-requires
new-requires c = (fields_take c.args.version c.args.bytes.now (c.in_ok-parts.parts, c.in_ok-parts.rest.now) (λ i. omega (arith, c.type_inv.bytes i)) c.in_ok-parts.ensures).1
