use Rattle.std.proofs.Common.{◌≡◌, ◌∙◌, ◌++◌, ◌∷◌, [], Some, ap, arith, cond, length, map, refl, sym}
use Rattle.std.specs.Prelude.{slice_get}
use Rattle.std.proofs.lemmas.List.{length-map}
use Rattle.std.proofs.lemmas.Option.{slice_get-get_or}
use Rattle.rc_core.specs.Laid.{held_kind}
use Rattle.rc_core.specs.Shapes.{kinds_in}
use Rattle.rc_areas.specs.Shapes.{items_of}
use Rattle.rc_areas.proofs.Named.{known}
use Rattle.rc_areas.proofs.shapes.Shapes.number.Goals as goal

pub returns-then-is_of-clause-shapes : goal.returns-then-is_of-clause-shapes
returns-then-is_of-clause-shapes c =
    let shape = map held_kind (kinds_in c.args.layout.now) in
    let shapes = c.args.self.now in
    let last = c.self.inside.last in
    let below = c.if-last-len.true in
    let count = c.len.ensures in
    let long : length shapes ≡ length c.self.inside.shapes.items = ap length (sym c.self.view_is) ∙ length-map c.self.inside.shapes.items items_of in
    let there : slice_get shapes last ≡ Some shape = slice_get-get_or shapes last [] (omega (arith, below, count, long)) ∙ ap Some (sym c.get.ensures ∙ c.if-is_of.ensures.0 refl) in
    sym (ap (λ b. cond b shapes (shapes ++ shape ∷ [])) (known shapes last shape there))
