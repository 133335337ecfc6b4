use Rattle.std.proofs.Common.{◌≡◌, [], flat_map, map, take}
use Rattle.rc_lines.specs.Bare.{lines_of}
use Rattle.rc_lines.specs.declared.function_code.FunctionCode.{FunctionCode}
use Rattle.rc_numbering.specs.Names.{code_paths, same_path}
use Rattle.rc_numbering.specs.Tables.{seen_behind}
use Rattle.rc_tables.specs.Numbers.{number_in}
use Rattle.rc_tables.proofs.named_paths.program_paths.Given as goal

abbrev pub invariant-loop-function : goal.invariant-loop-function
invariant-loop-function l = l.paths ≡ seen_behind same_path [] (flat_map (code_paths (number_in l.types)) (map (λ (c : FunctionCode). lines_of c.lines.items) (take l.function-index l.functions)))
