use Rattle.std.proofs.Common.{◌≡◌, ◌∙◌, ◌+◌, ◌<◌, ◌≤◌, ℕ, true, false, List, map, length, get_or, sym, ap, subst}
use Rattle.std.specs.List.{list_any}
use Rattle.rc_code.specs.declared.kind.Storage.{Storage}
use Rattle.rc_code.specs.declared.instruction.Instruction.{Instruction}
use Rattle.rc_code.specs.declared.image.Function.{Function}
use Rattle.rc_code.specs.Running.{reading_of}
use Rattle.rc_code.specs.Soundness.{is_regional, FunctionIsSound}
use Rattle.rc_claims.specs.Counts.{trues}
use Rattle.rc_sealed.specs.ImageVariables.{variables}
use Rattle.rc_sealed.specs.Carrying.{jumps_to}
use Rattle.rc_image_shapes.specs.declared.shape.Shape.{Shape}
use Rattle.rc_image_shapes.specs.Shapes.{IsShape}
use Rattle.rc_image_shapes.proofs.Counting.{few_locals, not_wide}
use Rattle.rc_image_shapes.proofs.Shaping.{shape_is}
use Rattle.rc_image_shapes.proofs.shape.shape_of.Goals as goal

pub local_variables-requires : goal.local_variables-requires
local_variables-requires c =
    let image = reading_of c.args.parts.now in
    let f = c.function_of-function.result.now in
    let le : variables image f ≤ 128 = subst (λ (g : Function). variables image g ≤ 128) (sym c.function_of-function.ensures) (not_wide _ c.requires.narrow) in
    subst (λ (xs : List Storage). (x : ℕ) → c.narrow-copies.result + trues (map is_regional xs) x ≤ 128) (sym c.as_slice.ensures) (few_locals image f c.narrow-copies.result (c.narrow-copies.ensures ∙ c.counts_of-counts.ensures.counts.copies) le)

pub returns : goal.returns
returns c =
    let image = reading_of c.args.parts.now in
    let f = c.function_of-function.result.now in
    let shape : Shape = record { copies = c.narrow-copies.result; first = c.narrow.result; result = c.narrow-2.result; locals = c.in_ok-locals.locals; targets = c.in_ok-targets.targets } in
    let sound : FunctionIsSound true image f = subst (λ (g : Function). FunctionIsSound true image g) (sym c.function_of-function.ensures) (c.requires.sound.functions c.args.number c.requires.there) in
    subst (λ (g : Function). IsShape image g shape) c.function_of-function.ensures (shape_is image f shape c.counts_of-counts.result sound c.counts_of-counts.ensures.counts c.narrow-copies.ensures c.narrow.ensures c.narrow-2.ensures
    (subst (λ (xs : List Storage). (x : ℕ) → x < length xs → get_or c.in_ok-locals.locals.items x 0 ≡ c.narrow-copies.result + trues (map is_regional xs) x) c.as_slice.ensures c.in_ok-locals.ensures)
    (c.in_ok-targets.ensures.long ∙ ap length c.as_slice-2.ensures)
    (subst (λ (code : List Instruction). (at : ℕ) → at < length code → get_or c.in_ok-targets.targets.items at false ≡ list_any (jumps_to at) code) c.as_slice-2.ensures c.in_ok-targets.ensures.marks))
