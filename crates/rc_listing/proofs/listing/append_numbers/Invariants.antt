use Rattle.std.proofs.Common.{◌≡◌, ◌++◌, drop}
use Rattle.rc_code.specs.Image.{operands_of}
use Rattle.rc_listing.specs.Listing.{behind_blanks}
use Rattle.rc_listing.proofs.listing.append_numbers.Given as goal

abbrev pub invariant-loop-at : goal.invariant-loop-at
invariant-loop-at l = l.text ++ behind_blanks (drop l.at (operands_of l.instruction)) ≡ l.fn.text ++ behind_blanks (operands_of l.instruction)
