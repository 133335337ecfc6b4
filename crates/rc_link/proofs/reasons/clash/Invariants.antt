use Rattle.std.proofs.Common.{◌≡◌, ◌+◌, List, [], drop}
use Rattle.rc_syntax.specs.Tree as t
use Rattle.rc_linking.specs.Links.{clashes}
use Rattle.rc_clashes.specs.Kept.{StandsFor}
use Rattle.rc_link.specs.Answers.{trees_of}
use Rattle.rc_link.proofs.reasons.clash.Given as goal

abbrev pub invariant-loop-i : goal.invariant-loop-i
invariant-loop-i l = record {
  behind : (items : List t.Item) × StandsFor l.earlier items × (clashes [] 1 (trees_of l.units) ≡ clashes items (l.i + 1) (trees_of (drop l.i l.units)));
}
