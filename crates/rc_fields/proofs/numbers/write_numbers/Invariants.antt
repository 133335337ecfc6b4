use Rattle.std.proofs.Common.{◌≡◌, ◌++◌, take}
use Rattle.rc_fields.specs.Spelling.{numbers}
use Rattle.rc_fields.proofs.numbers.write_numbers.Given as goal

abbrev pub invariant-loop-item : goal.invariant-loop-item
invariant-loop-item l = l.out.items ≡ l.fn.out.items ++ numbers (take l.item-index l.items)
