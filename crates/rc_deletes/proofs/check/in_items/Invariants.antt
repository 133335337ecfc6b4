use Rattle.std.proofs.Common.{◌≡◌, ◌≤◌, drop, map}
use Rattle.rc_syntax.specs.Shape as tree
use Rattle.rc_core.specs.Shapes as program
use Rattle.rc_deletes.specs.First.{clear}
use Rattle.rc_deletes.specs.Places as rule
use Rattle.rc_deletes.proofs.check.in_items.Given as goal

abbrev pub invariant-loop-item : goal.invariant-loop-item
invariant-loop-item l = record {
  few : l.next ≤ l.item-index;
  same : clear (rule.items (map program.function_of l.functions) (map tree.item_of l.items) 0) ≡ clear (rule.items (map program.function_of l.functions) (map tree.item_of (drop l.item-index l.items)) l.next);
}
