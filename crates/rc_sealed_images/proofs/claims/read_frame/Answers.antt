use Rattle.std.proofs.Common.{◌<◌, length, subst}
use Rattle.rc_sealed_images.proofs.Loops.{within_bound}
use Rattle.rc_sealed_images.proofs.claims.read_frame.Goals as goal

pub returns-clause-at : goal.returns-clause-at
returns-clause-at c =
    subst (λ code. c.in_ok-at.at < length code) c.as_slice.ensures (within_bound c.args.least (length c.as_slice.result.now) c.args.bytes.now (c.in_ok-at.at, c.in_ok-at.rest.now) c.in_ok-at.ensures)
