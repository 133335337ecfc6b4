use Rattle.std.proofs.Common.{◌∙◌, ℕ, List, refl, subst}
use Rattle.rc_driver.specs.Executing.{TellsBytes}
use Rattle.rc_outcomes.specs.Outcome.{as_left}
use Rattle.rc_outcomes.proofs.Ways.{untouched}
use Rattle.rc_files.specs.Programs.{RanText, no_memory}
use Rattle.rc_driver.proofs.TasksRan.{each_is_byte}
use Rattle.rc_driver.proofs.tasks.run_task_text.Goals as goal

pub returns : goal.returns
returns g c = record {
  bytes = each_is_byte c.args.text.now (λ k. (c.type_inv.text k).fits);
  ran = subst (λ (text : List ℕ). RanText as_left (TellsBytes (g.S.Source.state c.args.input.now)) text c.args.limits.now (g.S.Source.state c.args.input.now) (g.S.Source.state c.run_text.new.input) (g.O.Sink.state c.args.out.now) (g.O.Sink.state c.run_text.new.out) (g.H.Heap.store c.args.heap.now) (g.H.Heap.store c.run_text.new.heap) c.run_text.result) (c.as_slice.ensures.value ∙ c.in-Ok.ensures) c.run_text.ensures;
}

pub returns-in_default : goal.returns-in_default
returns-in_default g c = record {
  bytes = each_is_byte c.args.text.now (λ k. (c.type_inv.text k).fits);
  ran = no_memory (untouched (g.S.Source.state c.args.input.now) (g.O.Sink.state c.args.out.now)) refl;
}
