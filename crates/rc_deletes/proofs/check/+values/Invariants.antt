use Rattle.std.proofs.Common.{◌≡◌, drop, map}
use Rattle.rc_core.specs.Shapes as program
use Rattle.rc_deletes.specs.First.{clear}
use Rattle.rc_deletes.specs.Places as rule
use Rattle.rc_deletes.proofs.check.+values.Given as goal

abbrev pub invariant-within_all-loop-argument : goal.invariant-within_all-loop-argument
invariant-within_all-loop-argument l = clear (rule.within_all (map program.function_of l.functions) l.deletes (program.arguments_of l.arguments)) ≡ clear (rule.within_all (map program.function_of l.functions) l.deletes (program.arguments_of (drop l.argument-index l.arguments)))

abbrev pub invariant-within_path-loop-step : goal.invariant-within_path-loop-step
invariant-within_path-loop-step l = clear (rule.within_path (map program.function_of l.functions) l.deletes (program.path_of l.path)) ≡ clear (rule.within_path (map program.function_of l.functions) l.deletes (program.path_of (drop l.step-index l.path)))
