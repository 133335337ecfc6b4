use Rattle.std.proofs.Common.{◌&&◌, sym, ap, ◌∙◌}
use Rattle.std.specs.Prelude.{option_map}
use Rattle.rc_rlang.specs.Shapes.{test_of}
use Rattle.rc_live.proofs.Doing.{loop_tells}
use Rattle.rc_live.proofs.Pieces.{is_some_map}
use Rattle.rc_live.proofs.effects.of_loop.Goals as goal

pub returns : goal.returns
returns c names line steps third body short r u t =
    loop_tells names line steps (option_map test_of c.args.test.now) third body c.args.row c.args.body c.args.third c.last.result c.round.result c.way_out.result c.or.result c.reading.result r t u
    c.last.ensures c.round.ensures (λ j n b d l. c.way_out.ensures j n b d l ∙ ap (λ s. s && n) (sym (is_some_map test_of c.args.test.now))) c.or.ensures c.reading.ensures short
