use Rattle.std.proofs.Common.{◌≡◌, ◌≤◌, length}
use Rattle.rc_stops.specs.Waits.{LinksFrom}
use Rattle.rc_stops.proofs.links.link_all.Given as goal

abbrev pub invariant-stops : goal.invariant-stops
invariant-stops l = record {
  within : l.left ≤ length l.stops;
  first : length l.first ≡ length l.fn.first;
  next : length l.next ≡ length l.fn.next;
  links : LinksFrom l.stops l.left l.first l.next;
}

abbrev pub decreases-stops : goal.decreases-stops
decreases-stops l = l.left
