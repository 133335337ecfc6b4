use Rattle.std.proofs.Common.{◌≤◌, ◌+◌, ◌<◌, ◌∙◌, ℕ, ap, refl, sym, subst, drop, get_or, length, take, arith}
use Rattle.std.specs.List.{sum_by}
use Rattle.std.proofs.lemmas.List.{take_all}
use Rattle.std.proofs.lemmas.List.Sums.{sum_by_more}
use Rattle.rc_slots.specs.Entries.{counted, entry_at}
use Rattle.rc_areas.specs.Areas.{kinds_in, objects_of, shape_of, size_in}
use Rattle.rc_areas.specs.declared.head.Head.{Head}
use Rattle.rc_tally.specs.Tally.{IsTaken, codes_refs, held_refs}
use Rattle.rc_tally.proofs.Taken.{enough_left, head_inside, head_less, head_more, head_refs, head_shape, heads_held, taken_as, taken_more}
use Rattle.rc_tally.proofs.area.take_back_area.Goals as goal

abbrev none : Head
none = record { start = 0; count = 0; shape = 0 }

pub take_back_object-requires-clause-shape : goal.take_back_object-requires-clause-shape
take_back_object-requires-clause-shape g c =
    subst (λ hs. (get_or hs c.loop-head.head-index none).shape < length c.args.shapes.now) (sym c.heads-head-items.ensures.heads)
    (head_shape c.args.shapes.now c.args.area.now c.requires.laid c.loop-head.head-index (subst (λ hs. c.loop-head.head-index < length hs) c.heads-head-items.ensures.heads c.loop-head-test.true) none)

pub take_back_object-requires-clause-inside : goal.take_back_object-requires-clause-inside
take_back_object-requires-clause-inside g c =
    let at = c.loop-head.head-index in
    let shapes = c.args.shapes.now in
    subst (λ hs. (get_or hs at none).start + size_in shapes (get_or hs at none) ≤ length c.args.area.now.codes) (sym c.heads-head-items.ensures.heads)
    (head_inside shapes c.args.area.now c.requires.laid at (subst (λ hs. at < length hs) c.heads-head-items.ensures.heads c.loop-head-test.true) none (shape_of shapes (get_or c.args.area.now.heads at none)) refl)

pub take_back_object-requires-clause-enough : goal.take_back_object-requires-clause-enough
take_back_object-requires-clause-enough g c =
    let at = c.loop-head.head-index in
    let a = c.args.area.now in
    let shapes = c.args.shapes.now in
    subst (λ hs. (r : ℕ) → codes_refs r c.args.holder (kinds_in shapes (get_or hs at none)) (drop (get_or hs at none).start a.codes) ≤ counted (entry_at c.loop-head.directory r)) (sym c.heads-head-items.ensures.heads)
    (enough_left c.args.directory.now c.loop-head.directory (λ r. sum_by (head_refs r c.args.holder shapes a.codes) (take at a.heads))
    (λ r. codes_refs r c.args.holder (kinds_in shapes (get_or a.heads at none)) (drop (get_or a.heads at none).start a.codes))
    (λ r. held_refs r c.args.holder (objects_of shapes a)) c.loop-head.invariant.taken c.requires.enough
    (λ r. head_less shapes a c.requires.laid at (subst (λ hs. at < length hs) c.heads-head-items.ensures.heads c.loop-head-test.true) none (shape_of shapes (get_or a.heads at none)) refl r c.args.holder))

pub loop-head-preserved : goal.loop-head-preserved
loop-head-preserved g c =
    let at = c.loop-head.head-index in
    let a = c.args.area.now in
    let shapes = c.args.shapes.now in
    let inside : at < length a.heads = subst (λ hs. at < length hs) c.heads-head-items.ensures.heads c.loop-head-test.true in
    let taken = subst (λ hs. IsTaken c.loop-head.directory c.take_back_object.new.directory (λ r. codes_refs r c.args.holder (kinds_in shapes (get_or hs at none)) (drop (get_or hs at none).start a.codes))) c.heads-head-items.ensures.heads c.take_back_object.ensures.taken in
    let cost : c.take_back_object.new.steps ≤ c.loop-head.steps + size_in shapes (get_or a.heads at none) = subst (λ hs. c.take_back_object.new.steps ≤ c.loop-head.steps + size_in shapes (get_or hs at none)) c.heads-head-items.ensures.heads c.take_back_object.ensures.cost in
    record {
      taken = taken_more c.args.directory.now c.loop-head.directory c.take_back_object.new.directory (λ r. sum_by (head_refs r c.args.holder shapes a.codes) (take at a.heads))
          (λ r. codes_refs r c.args.holder (kinds_in shapes (get_or a.heads at none)) (drop (get_or a.heads at none).start a.codes))
          (λ r. sum_by (head_refs r c.args.holder shapes a.codes) (take (at + 1) a.heads)) c.loop-head.invariant.taken taken
          (λ r. head_more shapes a c.requires.laid at inside none (shape_of shapes (get_or a.heads at none)) refl r c.args.holder);
      cost = omega (arith, c.loop-head.invariant.cost, cost, sum_by_more (size_in shapes) a.heads at none inside);
      never_falls = omega (arith, c.loop-head.invariant.never_falls, c.take_back_object.ensures.never_falls);
    }

pub returns-clause-taken : goal.returns-clause-taken
returns-clause-taken g c =
    let a = c.args.area.now in
    let shapes = c.args.shapes.now in
    let past : length a.heads ≤ c.loop-head.head-index = subst (λ hs. length hs ≤ c.loop-head.head-index) c.heads-head-items.ensures.heads c.loop-head-test.false in
    taken_as c.args.directory.now c.loop-head.directory (λ r. sum_by (head_refs r c.args.holder shapes a.codes) (take c.loop-head.head-index a.heads)) (λ r. held_refs r c.args.holder (objects_of shapes a)) c.loop-head.invariant.taken
    (λ r. heads_held r c.args.holder shapes a.codes a.heads c.requires.laid.heads ∙ ap (sum_by (head_refs r c.args.holder shapes a.codes)) (sym (take_all c.loop-head.head-index a.heads past)))
