use Rattle.std.proofs.Common.{◌∙◌, ◌+◌, sym, arith}
use Rattle.rc_linking.specs.Links.{missing_of}
use Rattle.rc_link.specs.Answers.{trees_of}
use Rattle.rc_link.proofs.Walking.{lost_here, none_lost_here, missing_end}
use Rattle.rc_link.proofs.reasons.missing.Goals as goal

pub returns-in-Err : goal.returns-in-Err
returns-in-Err c =
    lost_here c.args.units.now c.loop-i.i c.index-units-i.result (omega arith) c.index-units-i.is c.args.functions.now (missing_of c.args.functions.now 1 (trees_of c.args.units.now)) c.loop-i.invariant.same c.deref.result.now (cc) c.in-Err.line c.in-Err.ensures

pub loop-i-preserved : goal.loop-i-preserved
loop-i-preserved c = record {
  same = none_lost_here c.args.units.now c.loop-i.i c.index-units-i.result (omega arith) c.index-units-i.is c.args.functions.now (missing_of c.args.functions.now 1 (trees_of c.args.units.now)) c.loop-i.invariant.same c.deref.result.now (cc) c.calls.result c.in_default.not-Err c.calls.ensures;
}

pub returns : goal.returns
returns c = sym (c.loop-i.invariant.same ∙ missing_end c.args.units.now c.loop-i.i (omega arith) c.args.functions.now (c.loop-i.i + 1))
