use Rattle.std.proofs.Common.{length}
use Rattle.rc_claims.specs.Bits.{claims}
use Rattle.rc_image_claims.proofs.Rows.{rows_tell}
use Rattle.rc_image_claims.proofs.lists.add_claims.Goals as goal

pub returns : goal.returns
returns c = λ fact. rows_tell (claims (length c.args.names.now) c.args.bytes.now) c.args.names.now c.args.out.now.items c.add_rows.new.out.items (rw c.make_room.ensures at c.in_ok-add_rows.ensures) fact
