use Rattle.std.proofs.Common.{◌≡◌, ◌+◌, length}
use Rattle.std.specs.Option.{option_map}
use Rattle.rc_base.specs.Files.{entries, place_of}
use Rattle.rc_base.proofs.drawer.place_of.Given as goal

abbrev pub invariant-loop-rest : goal.invariant-loop-rest
invariant-loop-rest l = record {
  ahead : place_of (entries l.files) l.name ≡ option_map (λ i. l.place + i) (place_of (entries l.rest) l.name);
  count : l.place + length l.rest ≡ length l.files;
}

abbrev pub decreases-loop-rest : goal.decreases-loop-rest
decreases-loop-rest l = length l.rest
