use Rattle.std.proofs.Common.{◌≡◌, map, take}
use Rattle.std.specs.List.{AllByRecursion as Every}
use Rattle.rc_code.specs.Image.{IsNumber}
use Rattle.rc_emission.specs.StackCode.{Line}
use Rattle.rc_lines.specs.Bare.{lines_of}
use Rattle.rc_tables.proofs.instructions.source_lines.Given as goal

abbrev pub invariant-loop-line : goal.invariant-loop-line
invariant-loop-line l = record {
  lines : l.numbers.items ≡ map (λ (x : Line). x.line) (lines_of (take l.line-index l.lines));
  each : Every IsNumber l.numbers.items;
}
