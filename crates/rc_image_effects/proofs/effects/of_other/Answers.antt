use Rattle.std.proofs.Common.{◌≡◌, ◌∙◌, ℕ, sym, ap, subst}
use Rattle.rc_core.specs.Types.{CellKind}
use Rattle.rc_core.specs.Layout.{note_of}
use Rattle.rc_code.specs.declared.instruction.Instruction.{Instruction}
use Rattle.rc_code.specs.Running.{reading_of, path_at, cell_at, storage_of}
use Rattle.rc_code.specs.Soundness.{is_regional}
use Rattle.rc_rlang.specs.RegionFlow.{loaded, looked_at}
use Rattle.rc_graph.specs.Nodes.{effect_of}
use Rattle.rc_sealed.specs.Carrying.{effect_of as effect_in, load_effect}
use Rattle.rc_image_effects.proofs.effects.of_other.Goals as goal

pub returns-in-Load : goal.returns-in-Load
returns-in-Load c = λ l h low high result local call.
    let image = reading_of c.args.parts.now in
    subst (λ (i : Instruction). effect_of c.loaded.result ≡ effect_in image c.args.function.now l h i) (sym c.in-Load.is)
    (c.loaded.ensures image
    ∙ ap (λ (k : CellKind). load_effect (is_regional (storage_of image k)) (loaded c.args.places.low c.args.places.low (note_of k)) (looked_at c.args.places.low)) (c.cell_of.ensures ∙ ap (cell_at image) c.path_of.ensures)
    ∙ ap (λ (n : ℕ). load_effect (is_regional (storage_of image (cell_at image (path_at image c.in-Load.path)))) (loaded n n (note_of (cell_at image (path_at image c.in-Load.path)))) (looked_at n)) low)

pub returns-in-Typed : goal.returns-in-Typed
returns-in-Typed c = λ l h low high result local call.
    subst (λ (i : Instruction). effect_of c.of_typed.result ≡ effect_in (reading_of c.args.parts.now) c.args.function.now l h i) (sym c.in-Typed.is)
    (c.of_typed.ensures (reading_of c.args.parts.now) c.args.function.now c.in-Typed.field-1 l h low)
