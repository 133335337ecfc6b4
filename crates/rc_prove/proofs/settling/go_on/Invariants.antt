use Rattle.std.proofs.Common.{◌≡◌, ◌+◌, length}
use Rattle.rc_prove.specs.Family.{family_of}
use Rattle.rc_prove.proofs.settling.go_on.Given as goal

abbrev pub invariant-parts : goal.invariant-parts
invariant-parts l = family_of l.entries l.exits l.frames ≡ family_of l.fn.entries l.fn.exits l.fn.frames

abbrev pub decreases-parts : goal.decreases-parts
decreases-parts l = length l.agenda.near.items + length l.agenda.list.items
