use Rattle.std.proofs.Common.{◌≡◌, ◌∷◌, ◌∙◌, [], map, ap, refl}
use Rattle.rc_core.specs.declared.parts.Parts.{Parts}
use Rattle.rc_core.specs.Shapes.{struct_of, function_of}
use Rattle.rc_tests_leaves.proofs.Nested.{structs, main, well_typed}
use Rattle.rc_tests_leaves.proofs.cells.nested.Goals as goal

pub returns-clause-well_typed : goal.returns-clause-well_typed
returns-clause-well_typed c =
    let p : Parts = record { structs = c.in_ok-structs.structs; globals = c.new-2.result; strings = c.new-3.result; functions = c.in_ok-functions.functions; main = 0 } in
    let s : map struct_of c.in_ok-structs.structs.items ≡ structs = ap (map struct_of) c.in_ok-structs.ensures.items ∙ rw (c.in_ok-a.ensures, c.in_ok-b.ensures, c.in_ok-c.ensures) refl in
    let f : map function_of c.in_ok-functions.functions.items ≡ main ∷ [] = ap (map function_of) c.in_ok-functions.ensures.items ∙ rw c.new.ensures.items refl in
    well_typed p s c.new-2.ensures.items c.new-3.ensures.items f refl
