use Rattle.std.proofs.Common.{◌≡◌, ◌*◌, refl, ◌<◌, ◌+◌, ◌∙◌, ap, sym, subst, get_or, length, arith}
use Rattle.rc_areas.specs.Areas.{AreaState, shape_of}
use Rattle.rc_areas.specs.declared.head.Head.{Head}
use Rattle.rc_areas.proofs.Objects.{before, shape_is}
use Rattle.rc_areas.proofs.Cells.{place_is, place_sum, sum_below}
use Rattle.rc_areas.proofs.area.Area.place.Goals as goal

pub get-width-requires : goal.get-width-requires
get-width-requires g c =
    subst (λ (h : Head). h.shape < length c.args.shapes.now)
    (sym (c.index-head.ensures ∙ ap (λ (a : AreaState). get_or a.heads c.args.object c.index-head.result.now) c.self.view_is))
    (shape_is c.args.shapes.now c.args.self.now.heads 0 c.args.object c.index-head.result.now c.requires.laid.heads c.requires.object)

-- the first element's cells begin where the object does
pub overflow_add-result : goal.overflow_add-result
overflow_add-result g c =
    let head = c.index-head.result.now in
    let is = c.index-head.ensures ∙ ap (λ (a : AreaState). get_or a.heads c.args.object head) c.self.view_is in
    let first : c.args.index ≡ 0 = c.if-index-eq0.true in
    let below : head.start + 0 * length (shape_of c.args.shapes.now head) + c.args.cell < length c.args.self.now.codes =
    subst (λ i. head.start + i * length (shape_of c.args.shapes.now head) + c.args.cell < length c.args.self.now.codes) first (sum_below c.args.shapes.now c.args.self.now c.requires.laid c.args.object c.requires.object head c.args.index c.args.cell c.requires.cell head (shape_of c.args.shapes.now head) is refl) in
    omega (arith, below, c.self.invariant, ap (λ (a : AreaState). length a.codes) c.self.view_is)

pub returns-then-index-eq0 : goal.returns-then-index-eq0
returns-then-index-eq0 g c =
    let head = c.index-head.result.now in
    let is = c.index-head.ensures ∙ ap (λ (a : AreaState). get_or a.heads c.args.object head) c.self.view_is in
    let first : c.args.index ≡ 0 = c.if-index-eq0.true in
    let width = length (shape_of c.args.shapes.now head) in
    record {
      is = (let z : head.start + c.args.cell ≡ head.start + 0 * width + c.args.cell = omega arith in z) ∙ ap (λ i. head.start + i + c.args.cell) (ap (λ i. i * width) (sym first))
          ∙ place_sum c.args.shapes.now c.args.self.now c.requires.laid c.args.object c.requires.object head c.args.index c.args.cell c.requires.cell head (shape_of c.args.shapes.now head) is refl
          ∙ ap (λ n. before c.args.shapes.now c.args.object c.args.self.now.heads + n) (sym (place_is c.args.shapes.now c.args.self.now c.requires.laid c.args.object c.requires.object head c.args.index c.args.cell c.requires.cell));
      below = subst (λ n. n < length c.args.self.now.codes) (sym ((let z : head.start + c.args.cell ≡ head.start + 0 * width + c.args.cell = omega arith in z) ∙ ap (λ i. head.start + i + c.args.cell) (ap (λ i. i * width) (sym first))))
          (sum_below c.args.shapes.now c.args.self.now c.requires.laid c.args.object c.requires.object head c.args.index c.args.cell c.requires.cell head (shape_of c.args.shapes.now head) is refl);
    }

pub overflow_mul-result : goal.overflow_mul-result
overflow_mul-result g c =
    let below = sum_below c.args.shapes.now c.args.self.now c.requires.laid c.args.object c.requires.object c.index-head.result.now c.args.index c.args.cell c.requires.cell c.index-head.result.now c.get-width.result.now (c.index-head.ensures ∙ ap (λ (a : AreaState). get_or a.heads c.args.object c.index-head.result.now) c.self.view_is) c.get-width.ensures in
    omega (arith, below, c.self.invariant, ap (λ (a : AreaState). length a.codes) c.self.view_is)

pub overflow_add-result-2 : goal.overflow_add-result-2
overflow_add-result-2 g c =
    let below = sum_below c.args.shapes.now c.args.self.now c.requires.laid c.args.object c.requires.object c.index-head.result.now c.args.index c.args.cell c.requires.cell c.index-head.result.now c.get-width.result.now (c.index-head.ensures ∙ ap (λ (a : AreaState). get_or a.heads c.args.object c.index-head.result.now) c.self.view_is) c.get-width.ensures in
    omega (arith, below, c.self.invariant, ap (λ (a : AreaState). length a.codes) c.self.view_is)

pub overflow_add-result-3 : goal.overflow_add-result-3
overflow_add-result-3 g c =
    let below = sum_below c.args.shapes.now c.args.self.now c.requires.laid c.args.object c.requires.object c.index-head.result.now c.args.index c.args.cell c.requires.cell c.index-head.result.now c.get-width.result.now (c.index-head.ensures ∙ ap (λ (a : AreaState). get_or a.heads c.args.object c.index-head.result.now) c.self.view_is) c.get-width.ensures in
    omega (arith, below, c.self.invariant, ap (λ (a : AreaState). length a.codes) c.self.view_is)

pub returns : goal.returns
returns g c = record {
  is = place_sum c.args.shapes.now c.args.self.now c.requires.laid c.args.object c.requires.object c.index-head.result.now c.args.index c.args.cell c.requires.cell c.index-head.result.now c.get-width.result.now (c.index-head.ensures ∙ ap (λ (a : AreaState). get_or a.heads c.args.object c.index-head.result.now) c.self.view_is) c.get-width.ensures
      ∙ ap (λ n. before c.args.shapes.now c.args.object c.args.self.now.heads + n) (sym (place_is c.args.shapes.now c.args.self.now c.requires.laid c.args.object c.requires.object c.index-head.result.now c.args.index c.args.cell c.requires.cell));
  below = sum_below c.args.shapes.now c.args.self.now c.requires.laid c.args.object c.requires.object c.index-head.result.now c.args.index c.args.cell c.requires.cell c.index-head.result.now c.get-width.result.now (c.index-head.ensures ∙ ap (λ (a : AreaState). get_or a.heads c.args.object c.index-head.result.now) c.self.view_is) c.get-width.ensures;
}
