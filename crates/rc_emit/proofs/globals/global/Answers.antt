use Rattle.std.proofs.Common.{ℕ, ap, ◌∙◌, rules, w64, SFits, to_z-of_z}
use Rattle.rc_core.specs.Shapes.{ty_of}
use Rattle.rc_core.specs.WellTyped.{elements}
use Rattle.rc_code.specs.declared.image.Global.{Global}
use Rattle.rc_code.specs.declared.image.Initial.{Initial}
use Rattle.rc_numbering.specs.Numbered.{initial_of}
use Rattle.rc_tables.specs.Placed.{path_number, type_number}
use Rattle.rc_emit.proofs.globals.global.Goals as goal

abbrev global_made : ℕ → ℕ → Initial → Global
global_made type elements initial = record { type_number = type; elements = elements; initial = initial }

pub returns : goal.returns
returns c =
    let n = c.args.numbers.now in
    let g = c.args.of.now in
    let fits : SFits w64 c.args.of.now.initial = search rules in
    ap (λ t. global_made t c.elements.result c.initial.result) c.in_ok-type_number.ensures
    ∙ ap (λ e. global_made (type_number n (ty_of g.ty)) e c.initial.result) c.elements.ensures
    ∙ ap (global_made (type_number n (ty_of g.ty)) (elements g.length)) (c.initial.ensures (type_number n) (path_number n))
    ∙ ap (λ z. global_made (type_number n (ty_of g.ty)) (elements g.length) (initial_of (type_number n) (path_number n) (ty_of g.ty) g.length z)) (to_z-of_z fits)
