use Rattle.std.proofs.Common.{◌≡◌, ◌++◌, ◌*◌, List, [], drop, map}
use Rattle.rc_syntax.specs.Shape.{item_of}
use Rattle.rc_syntax.specs.Tree as t
use Rattle.rc_linking.specs.Joined.{structs_of, joined_behind}
use Rattle.rc_link.specs.Answers.{trees_of}
use Rattle.rc_link.proofs.joining.joined.Given as goal

abbrev pub invariant-loop-i : goal.invariant-loop-i
invariant-loop-i l = record {
  behind : (earlier : List t.Item) × (l.structs ≡ structs_of earlier) × (joined_behind [] 0 (trees_of l.units) ≡ map item_of l.items.items ++ joined_behind earlier (l.i * 1048576) (trees_of (drop l.i l.units)));
}
