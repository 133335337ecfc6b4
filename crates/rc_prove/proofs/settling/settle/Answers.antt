use Rattle.rc_prove.specs.Family.{family_of}
use Rattle.rc_prove.proofs.Families.{all_fit, lessened_then}
use Rattle.rc_prove.proofs.settling.settle.Goals as goal

pub go_on-requires : goal.go_on-requires
go_on-requires c = all_fit (family_of c.args.entries.now c.args.exits.now c.args.frames.now) (family_of c.losses.entries c.losses.exits c.losses.frames) c.losses.invariant.fewer c.args.routes.now c.requires

pub losses-preserved : goal.losses-preserved
losses-preserved c = lessened_then c.args.routes.now (family_of c.args.entries.now c.args.exits.now c.args.frames.now) (family_of c.losses.entries c.losses.exits c.losses.frames) (family_of c.go_on.new.entries c.go_on.new.exits c.go_on.new.frames) c.losses.invariant c.in_ok-go_on.ensures.lessened
