use Rattle.std.proofs.Common.{◌≡◌, ◌++◌}
use Rattle.rc_lines.specs.Bare.{lines_of}
use Rattle.rc_lines.proofs.Stacks.{some_pops}
use Rattle.rc_lines.proofs.acts.let_go.Given as goal

abbrev pub invariant-loop : goal.invariant-loop
invariant-loop l = lines_of l.out.items ≡ lines_of l.fn.out.items ++ some_pops l.fn.line l.index
