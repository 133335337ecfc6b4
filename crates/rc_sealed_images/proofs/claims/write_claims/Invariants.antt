use Rattle.std.proofs.Common.{◌≡◌, ◌++◌, take}
use Rattle.std.specs.List.{flat_map}
use Rattle.rc_sealed_images.specs.Spelling.{known_bytes}
use Rattle.rc_sealed_images.proofs.claims.write_claims.Given as goal

abbrev pub invariant-loop-known : goal.invariant-loop-known
invariant-loop-known l = l.out.items ≡ l.fn.out.items ++ flat_map known_bytes (take l.known-index l.proofs.functions)
