use Rattle.std.proofs.Common.{◌≡◌, drop, map}
use Rattle.rc_syntax.specs.Shape.{item_of}
use Rattle.rc_deletes.specs.Answer.{main_fault}
use Rattle.rc_typing.proofs.checking.fault_of_main.Given as goal

abbrev pub invariant-loop-item : goal.invariant-loop-item
invariant-loop-item l = record { same : main_fault (map item_of l.items) ≡ main_fault (map item_of (drop l.item-index l.items)) }
