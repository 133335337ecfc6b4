use Rattle.std.proofs.Common.{◌≡◌, ◌∙◌, ◌++◌, ◌∷◌, [], ap, cond, map, refl, subst, sym}
use Rattle.std.specs.Prelude.{Contains, OnOk, Some, slice_get}
use Rattle.rc_core.specs.Laid.{held_kind}
use Rattle.rc_core.specs.Shapes.{kinds_in}
use Rattle.rc_areas.specs.Naming.{name_of}
use Rattle.rc_areas.proofs.Named.{known, named, unknown}
use Rattle.rc_areas.proofs.shapes.Shapes.find_or_add.Goals as goal

pub returns-in-Some-clause-number : goal.returns-in-Some-clause-number
returns-in-Some-clause-number c =
    let shape = map held_kind (kinds_in c.args.layout.now) in
    let names : c.self.inside.names ≡ map name_of c.args.self.now = c.self.invariant.1 ∙ ap (map name_of) c.self.view_is in
    let is : c.deref.result.now ≡ name_of shape = c.deref.ensures.value ∙ c.in_ok-name.ensures in
    named c.args.self.now c.in-Some.number shape (ap (λ ns. slice_get ns c.in-Some.number) (sym names) ∙ c.in-Some.ensures.stands ∙ ap Some is)

pub returns-in-Some-clause-shapes : goal.returns-in-Some-clause-shapes
returns-in-Some-clause-shapes c =
    let shape = map held_kind (kinds_in c.args.layout.now) in
    let shapes = c.args.self.now in
    sym (ap (λ b. cond b shapes (shapes ++ shape ∷ [])) (known shapes c.in-Some.number shape (returns-in-Some-clause-number c)))

pub returns-clause-shapes : goal.returns-clause-shapes
returns-clause-shapes c =
    let shape = map held_kind (kinds_in c.args.layout.now) in
    let shapes = c.args.self.now in
    let names : c.self.inside.names ≡ map name_of shapes = c.self.invariant.1 ∙ ap (map name_of) c.self.view_is in
    let is : c.deref.result.now ≡ name_of shape = c.deref.ensures.value ∙ c.in_ok-name.ensures in
    let none : ¬ Contains (map name_of shapes) (name_of shape)
    = subst (λ ns. ¬ Contains ns (name_of shape)) names (subst (λ n. ¬ Contains c.self.inside.names n) is (c.in-None.ensures.none.0 refl)) in
    subst (λ xs. OnOk c.add.result (c.add.new.self ≡ xs)) (sym (ap (λ b. cond b shapes (shapes ++ shape ∷ [])) (unknown shapes shape none))) c.add.ensures.shapes
