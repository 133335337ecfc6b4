use Rattle.rc_lines.specs.Bare.{lines_of}
use Rattle.rc_lines.proofs.Copies.{copy_goes_on, copy_ends}
use Rattle.rc_lines.proofs.acts.copy_cells.Goals as goal

pub returns : goal.returns
returns c kinds n pl pr =
    copy_ends c.args.body.now c.args.line c.args.places.left.now c.args.places.right.now c.args.places.left_operands.now c.args.places.right_operands.now c.args.out.now.items c.args.count
    c.loop-further.out.items c.loop-further.further c.loop-further-test.false c.loop-further.invariant kinds n pl pr

pub loop-further-preserved : goal.loop-further-preserved
loop-further-preserved c = record {
  lines =
      copy_goes_on c.args.body.now c.args.line c.args.places.left.now c.args.places.right.now c.args.places.left_operands.now c.args.places.right_operands.now c.args.out.now.items c.args.count
      c.loop-further.out.items (lines_of c.fetch.new.out.items) (lines_of c.fetch-in-loop-further.new.out.items) (lines_of c.push.new.out.items) (lines_of c.push-in-loop-further.new.out.items)
      c.loop-further.further c.width-second.result c.loop-further-test.true c.width-second.ensures c.loop-further.invariant c.in_ok-fetch.ensures c.in_ok-fetch-2.ensures c.in_ok-push.ensures c.in_ok-push-2.ensures;
}
