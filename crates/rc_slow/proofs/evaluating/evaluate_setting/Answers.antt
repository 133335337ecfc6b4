use Rattle.std.proofs.Common.{rules, ◌∙◌, subst, w32, SFits, to_z-of_z, IsTrue}
use Rattle.rc_core.specs.Shapes.{program_of}
use Rattle.rc_slow.proofs.Evaluated.{evaluates_cut, evaluates_end, evaluates_exit, evaluates_stale, untold}
use Rattle.rc_slow.proofs.evaluating.evaluate_setting.Goals as goal

pub unforeseen-requires : goal.unforeseen-requires
unforeseen-requires g c = record {
  untold = λ told.
      let e = c.in-Err-Stale.ensures in
      untold (program_of c.args.setting.now.parts.now) c.args.setting.now.limits (g.S.Source.state c.args.input.now) (g.S.Source.state c.run_main.new.input) (g.O.Sink.state c.args.out.now) (g.O.Sink.state c.run_main.new.out)
      c.in-Err-Stale.field-0 c.in-Err-Stale.field-0-0 c.in-Err-Stale.field-0-is c.requires.deleting e.arrives (subst IsTrue e.leaves.input_tells told);
}

pub returns-in-Ok : goal.returns-in-Ok
returns-in-Ok g c =
    let e = c.in-Ok.ensures in
    let fits : SFits w32 c.exit_value.result = search rules in
    evaluates_exit (program_of c.args.setting.now.parts.now) c.args.setting.now.limits (g.S.Source.state c.args.input.now) (g.S.Source.state c.run_main.new.input) (g.O.Sink.state c.args.out.now) (g.O.Sink.state c.run_main.new.out)
    c.in-Ok.value _ (to_z-of_z fits ∙ c.exit_value.ensures) e.arrives e.leaves

pub returns-in-Err-Ends : goal.returns-in-Err-Ends
returns-in-Err-Ends g c =
    let e = c.in-Err-Ends.ensures in
    evaluates_end (program_of c.args.setting.now.parts.now) c.args.setting.now.limits (g.S.Source.state c.args.input.now) (g.S.Source.state c.run_main.new.input) (g.O.Sink.state c.args.out.now) (g.O.Sink.state c.run_main.new.out)
    c.in-Err-Ends.field-0 c.in-Err-Ends.end c.in-Err-Ends.field-0-is e.arrives e.leaves

pub returns-in-Err-Stale : goal.returns-in-Err-Stale
returns-in-Err-Stale g c =
    let e = c.in-Err-Stale.ensures in
    evaluates_stale (program_of c.args.setting.now.parts.now) c.args.setting.now.limits (g.S.Source.state c.args.input.now) (g.S.Source.state c.run_main.new.input) (g.O.Sink.state c.args.out.now) (g.O.Sink.state c.run_main.new.out)
    c.in-Err-Stale.field-0 c.in-Err-Stale.field-0-0 c.unforeseen.result c.in-Err-Stale.field-0-is c.unforeseen.ensures
    (untold (program_of c.args.setting.now.parts.now) c.args.setting.now.limits (g.S.Source.state c.args.input.now) (g.S.Source.state c.run_main.new.input) (g.O.Sink.state c.args.out.now) (g.O.Sink.state c.run_main.new.out) c.in-Err-Stale.field-0 c.in-Err-Stale.field-0-0 c.in-Err-Stale.field-0-is c.requires.deleting e.arrives)
    e.leaves

pub returns-in-Err-Cut : goal.returns-in-Err-Cut
returns-in-Err-Cut g c =
    let e = c.in-Err-Cut.ensures in
    evaluates_cut (program_of c.args.setting.now.parts.now) c.args.setting.now.limits (g.S.Source.state c.args.input.now) (g.S.Source.state c.run_main.new.input) (g.O.Sink.state c.args.out.now) (g.O.Sink.state c.run_main.new.out)
    c.in-Err-Cut.field-0 c.in-Err-Cut.fault c.in-Err-Cut.field-0-is e.arrives e.leaves
