use Rattle.std.proofs.lemmas.Result.{err_from_is_err_and}
use Rattle.rc_fields.specs.Reading.{many, path_at}
use Rattle.rc_fields.proofs.Loop.{goes_on, ends, is_done}
use Rattle.rc_path_rules.proofs.paths.read_path_list.Goals as goal

pub returns-in_err-item : goal.returns-in_err-item
returns-in_err-item c =
    let p = err_from_is_err_and c.from_residual-in_err-item.result c.from_residual-in_err-item.ensures.1 in
    rw (p.1, p.2) (ends (path_at c.args.types.now) c.in_err-item.field-0.0 c.loop.items.items c.args.count c.loop.counter c.loop.rest.now (many (path_at c.args.types.now) c.args.count c.args.bytes.now) c.loop-test.true c.in_err-item.ensures.gives c.loop.invariant.0)

pub loop-preserved : goal.loop-preserved
loop-preserved c =
    (rw c.in_ok-push.ensures.items (goes_on (path_at c.args.types.now) c.loop.items.items c.args.count c.loop.counter c.loop.rest.now c.in_ok-item.item c.in_ok-item.after.now (many (path_at c.args.types.now) c.args.count c.args.bytes.now) c.loop-test.true c.in_ok-item.ensures.gives c.loop.invariant.0), c.in_ok-item.ensures.right)

pub returns : goal.returns
returns c = is_done (path_at c.args.types.now) c.loop.items.items c.args.count c.loop.counter c.loop.rest.now (many (path_at c.args.types.now) c.args.count c.args.bytes.now) c.loop-test.false c.loop.invariant.0
