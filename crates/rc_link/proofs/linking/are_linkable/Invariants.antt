use Rattle.std.proofs.Common.{drop}
use Rattle.std.specs.List.{AllByRecursion as Every}
use Rattle.rc_units.specs.Units.{IsLinkable}
use Rattle.rc_link.specs.Answers.{trees_of}
use Rattle.rc_link.proofs.linking.are_linkable.Given as goal

abbrev pub invariant-loop-unit : goal.invariant-loop-unit
invariant-loop-unit l = record { rest : Every IsLinkable (trees_of (drop l.unit-index l.units)) → Every IsLinkable (trees_of l.units) }
