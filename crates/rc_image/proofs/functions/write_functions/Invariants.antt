use Rattle.std.proofs.Common.{◌≡◌, ◌++◌, length, take}
use Rattle.std.specs.List.{flat_map}
use Rattle.rc_fields.specs.Spelling.{number}
use Rattle.rc_image.specs.Spelling.{function_bytes}
use Rattle.rc_image.proofs.functions.write_functions.Given as goal

abbrev pub invariant-loop-function : goal.invariant-loop-function
invariant-loop-function l = l.out.items ≡ l.fn.out.items ++ (number (length l.functions) ++ flat_map (function_bytes l.version) (take l.function-index l.functions))
