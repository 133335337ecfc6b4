use Rattle.std.proofs.Common.{rules}
use Rattle.rc_defined.specs.Contexts.{context_of}
use Rattle.rc_items.specs.Outside.{outside_of, all_made, made_of}
use Rattle.rc_items.proofs.Walked.{front_stops, here_stops, walk_step, behind_step, known_on}
use Rattle.rc_items.proofs.walk.items.Goals as goal

pub returns-in_err-before_global-clause-err : goal.returns-in_err-before_global-clause-err
returns-in_err-before_global-clause-err c =
    let h = front_stops (context_of c.args.context.now) (outside_of c.loop-rest.outside) (all_made c.loop-rest.globals.items c.loop-rest.functions.items) _ c.loop-rest.rest.now c.loop-rest.invariant.same
    c.i-item.result c.in-len1-up.len_at_least c.i-item.is c.in_err-before_global.field-0.0 c.in_err-before_global.ensures.err in
    search rules

pub returns-in_err-made-clause-err : goal.returns-in_err-made-clause-err
returns-in_err-made-clause-err c =
    let h = here_stops (context_of c.args.context.now) (outside_of c.loop-rest.outside) (all_made c.loop-rest.globals.items c.loop-rest.functions.items) _ c.loop-rest.rest.now c.loop-rest.invariant.same
    c.i-item.result c.in-len1-up.len_at_least c.i-item.is c.in_ok-before_global.ensures.ok c.in_err-made.field-0.0 c.in_err-made.ensures.err in
    search rules

pub loop-rest-preserved : goal.loop-rest-preserved
loop-rest-preserved c =
    let o = outside_of c.loop-rest.outside in
    let m = all_made c.loop-rest.globals.items c.loop-rest.functions.items in
    let next = outside_of c.item.new.outside in
    record {
      same = walk_step (context_of c.args.context.now) o m _ c.loop-rest.rest.now c.loop-rest.invariant.same c.i-item.result c.in-len1-up.len_at_least c.i-item.is c.in_ok-before_global.ensures.ok
          (made_of c.in_ok-made.made) (all_made c.keep.new.globals.items c.keep.new.functions.items) next c.in_ok-made.ensures.ok c.in_ok-made.ensures.behind c.in_ok-keep.ensures.ok;
      moved = behind_step (context_of c.args.context.now) o _ c.loop-rest.rest.now c.loop-rest.invariant.moved c.i-item.result c.in-len1-up.len_at_least c.i-item.is next c.in_ok-made.ensures.behind;
      known = known_on (context_of c.args.context.now) o m _ c.loop-rest.rest.now c.loop-rest.invariant.same c.i-item.result c.in-len1-up.len_at_least c.i-item.is c.in_ok-before_global.ensures.ok
          c.goes_on-is_known.result next c.in_ok-made.ensures.behind c.goes_on-is_known.ensures;
    }
