use Rattle.std.proofs.Common.{◌≡◌, ◌++◌, drop}
use Rattle.rc_listing.specs.Listing.{functions_text}
use Rattle.rc_listing.proofs.listing.list.Given as goal

abbrev pub invariant-loop-number : goal.invariant-loop-number
invariant-loop-number l = l.text ++ functions_text l.number (drop l.number l.image.functions) ≡ functions_text 0 l.image.functions
