use Rattle.std.proofs.Common.{◌≡◌, map, length}
use Rattle.rc_code.specs.declared.image.Index.{Index}
use Rattle.rc_code.specs.Soundness.{numbers}
use Rattle.rc_loader.specs.Codes.{kind_in}
use Rattle.rc_loader.specs.Decisions.{same_kinds}
use Rattle.rc_loader.proofs.taken.are_indices.Given as goal

abbrev pub invariant-loop-rest : goal.invariant-loop-rest
invariant-loop-rest l =
    same_kinds (map kind_in l.rest) (map (λ (i : Index). numbers i.kind) l.left) ≡ same_kinds (map kind_in l.operands) (map (λ (i : Index). numbers i.kind) l.indices)

abbrev pub decreases-loop-rest : goal.decreases-loop-rest
decreases-loop-rest l = length l.rest
