use Rattle.std.proofs.Common.{◌≡◌, ◌+◌, drop}
use Rattle.rc_linking.specs.Links.{missing_of}
use Rattle.rc_link.specs.Answers.{trees_of}
use Rattle.rc_link.proofs.reasons.missing.Given as goal

abbrev pub invariant-loop-i : goal.invariant-loop-i
invariant-loop-i l = record { same : missing_of l.functions 1 (trees_of l.units) ≡ missing_of l.functions (l.i + 1) (trees_of (drop l.i l.units)) }
