use Rattle.std.proofs.Common.{◌≡◌, ◌++◌, length, take}
use Rattle.std.specs.List.{flat_map}
use Rattle.rc_fields.specs.Spelling.{number}
use Rattle.rc_image.specs.Spelling.{instruction_bytes}
use Rattle.rc_image.proofs.instructions.write_code.Given as goal

abbrev pub invariant-loop-instruction : goal.invariant-loop-instruction
invariant-loop-instruction l = l.out.items ≡ l.fn.out.items ++ (number (length l.code) ++ flat_map instruction_bytes (take l.instruction-index l.code))
