use Rattle.rc_rlang.specs.Shapes.{rlang_of}
use Rattle.rc_edges.specs.Inferred.{family_of}
use Rattle.rc_infer.proofs.Walks.{swept_both, swept_none, turning_by}
use Rattle.rc_infer.proofs.turns.sweep.Goals as goal

pub loop-turn-init : goal.loop-turn-init
loop-turn-init c = swept_none (rlang_of c.args.field.now.code.now) c.args.field.now.graphs.now (family_of c.args.facts.now) c.requires.turning.all c.requires.turning.covers

pub turn-requires : goal.turn-requires
turn-requires c = record { turning = turning_by (rlang_of c.args.field.now.code.now) c.args.field.now.graphs.now (family_of c.args.facts.now) (family_of c.loop-turn.facts) c.requires.turning c.loop-turn.invariant.all1 c.loop-turn.invariant.covers }

pub loop-turn-preserved : goal.loop-turn-preserved
loop-turn-preserved c = swept_both (rlang_of c.args.field.now.code.now) c.args.field.now.graphs.now (family_of c.args.facts.now) (family_of c.loop-turn.facts) (family_of c.turn.new.facts) c.loop-turn.invariant c.in_ok-more.ensures
