use Rattle.std.proofs.Common.{◌≡◌, ◌++◌, drop}
use Rattle.rc_listing.specs.Listing.{code_text}
use Rattle.rc_listing.proofs.listing.append_function.Given as goal

abbrev pub invariant-loop-at : goal.invariant-loop-at
invariant-loop-at l =
    l.text ++ code_text l.number l.at (drop l.at l.function.code) l.function.lines ≡ l.fn.text ++ code_text l.number 0 l.function.code l.function.lines
