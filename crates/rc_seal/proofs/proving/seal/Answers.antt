use Rattle.std.proofs.Common.{List, Bool, Vec, Global, subst, map}
use Rattle.rc_code.specs.declared.image.Parts.{Parts}
use Rattle.rc_seal.specs.Finding.{AreFound}
use Rattle.rc_seal.specs.Marking.{bits_of, IsMarked}
use Rattle.rc_seal.proofs.Sealing.{sealed_as}
use Rattle.rc_seal.proofs.proving.seal.Goals as goal

pub returns : goal.returns
returns c =
    let parts = c.args.image in
    let marks = map bits_of c.in_ok-found.found.marks.items in
    let found = subst (λ (p : Parts). AreFound p c.in_ok-found.found.proofs marks) c.parts.ensures.parts c.in_ok-found.ensures in
    sealed_as parts c.marked-sealed.result c.in_ok-found.found.proofs marks c.requires.free found
    (subst (λ (all : List (Vec Bool Global)). IsMarked (map bits_of all) parts c.marked-sealed.result) c.as_slice.ensures.value c.marked-sealed.ensures)
