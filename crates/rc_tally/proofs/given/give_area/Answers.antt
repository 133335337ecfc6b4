use Rattle.std.proofs.Common.{◌≡◌, ◌≤◌, ◌+◌, ◌*◌, ◌<◌, ◌∙◌, [], ap, sym, subst, drop, get_or, length, take, arith}
use Rattle.std.specs.List.{sum_by}
use Rattle.std.proofs.lemmas.List.{take_all}
use Rattle.std.proofs.lemmas.List.Sums.{sum_by_more}
use Rattle.rc_areas.specs.Areas.{objects_of, size_in}
use Rattle.rc_areas.specs.declared.head.Head.{Head}
use Rattle.rc_tally.specs.Tally.{IsGiven, MayBeGiven, codes_refs, held_refs}
use Rattle.rc_tally.proofs.Giving.{room_left, given_more}
use Rattle.rc_tally.proofs.Taken.{again, head_inside, head_less, head_more, head_refs, head_shape, heads_held, given_as}
use Rattle.rc_tally.proofs.given.give_area.Goals as goal

abbrev none : Head
none = record { start = 0; count = 0; shape = 0 }

pub get-requires : goal.get-requires
get-requires g c =
    subst (λ hs. (get_or hs c.loop-head.head-index none).shape < length c.args.shapes.now) (sym c.heads-head-items.ensures.heads)
    (head_shape c.args.shapes.now c.args.area.now c.requires.laid c.loop-head.head-index (subst (λ hs. c.loop-head.head-index < length hs) c.heads-head-items.ensures.heads c.loop-head-test.true) none)

pub give_object-requires-clause-inside : goal.give_object-requires-clause-inside
give_object-requires-clause-inside g c =
    let at = c.loop-head.head-index in
    subst (λ hs. (get_or hs at none).start + (get_or hs at none).count * length c.get.result.now ≤ length c.args.area.now.codes) (sym c.heads-head-items.ensures.heads)
    (head_inside c.args.shapes.now c.args.area.now c.requires.laid at (subst (λ hs. at < length hs) c.heads-head-items.ensures.heads c.loop-head-test.true) none c.get.result.now
    (c.get.ensures ∙ ap (λ hs. get_or c.args.shapes.now (get_or hs at none).shape []) c.heads-head-items.ensures.heads))

pub give_object-requires-clause-may : goal.give_object-requires-clause-may
give_object-requires-clause-may g c =
    let at = c.loop-head.head-index in
    let a = c.args.area.now in
    let shapes = c.args.shapes.now in
    subst (λ hs. MayBeGiven c.loop-head.directory (λ r. codes_refs r c.args.holder (again (get_or hs at none).count c.get.result.now) (drop (get_or hs at none).start a.codes))) (sym c.heads-head-items.ensures.heads)
    (room_left c.args.directory.now c.loop-head.directory (λ r. sum_by (head_refs r c.args.holder shapes a.codes) (take at a.heads))
    (λ r. codes_refs r c.args.holder (again (get_or a.heads at none).count c.get.result.now) (drop (get_or a.heads at none).start a.codes))
    (λ r. held_refs r c.args.holder (objects_of shapes a)) c.loop-head.invariant.given c.requires.may
    (λ r. head_less shapes a c.requires.laid at (subst (λ hs. at < length hs) c.heads-head-items.ensures.heads c.loop-head-test.true) none c.get.result.now
    (c.get.ensures ∙ ap (λ hs. get_or shapes (get_or hs at none).shape []) c.heads-head-items.ensures.heads) r c.args.holder))

pub loop-head-preserved : goal.loop-head-preserved
loop-head-preserved g c =
    let at = c.loop-head.head-index in
    let a = c.args.area.now in
    let shapes = c.args.shapes.now in
    let inside : at < length a.heads = subst (λ hs. at < length hs) c.heads-head-items.ensures.heads c.loop-head-test.true in
    let shape : c.get.result.now ≡ get_or shapes (get_or a.heads at none).shape [] = c.get.ensures ∙ ap (λ hs. get_or shapes (get_or hs at none).shape []) c.heads-head-items.ensures.heads in
    let given = subst (λ hs. IsGiven c.loop-head.directory c.give_object.new.directory (λ r. codes_refs r c.args.holder (again (get_or hs at none).count c.get.result.now) (drop (get_or hs at none).start a.codes))) c.heads-head-items.ensures.heads c.give_object.ensures.given in
    let cost : c.give_object.new.steps ≤ c.loop-head.steps + (get_or a.heads at none).count * length c.get.result.now = subst (λ hs. c.give_object.new.steps ≤ c.loop-head.steps + (get_or hs at none).count * length c.get.result.now) c.heads-head-items.ensures.heads c.give_object.ensures.cost in
    let size : (get_or a.heads at none).count * length c.get.result.now ≡ size_in shapes (get_or a.heads at none) = ap (λ l. (get_or a.heads at none).count * length l) shape in
    record {
      given = given_more c.args.directory.now c.loop-head.directory c.give_object.new.directory (λ r. sum_by (head_refs r c.args.holder shapes a.codes) (take at a.heads))
          (λ r. codes_refs r c.args.holder (again (get_or a.heads at none).count c.get.result.now) (drop (get_or a.heads at none).start a.codes))
          (λ r. sum_by (head_refs r c.args.holder shapes a.codes) (take (at + 1) a.heads)) c.loop-head.invariant.given given
          (λ r. head_more shapes a c.requires.laid at inside none c.get.result.now shape r c.args.holder);
      cost = omega (arith, c.loop-head.invariant.cost, cost, size, sum_by_more (size_in shapes) a.heads at none inside);
      never_falls = omega (arith, c.loop-head.invariant.never_falls, c.give_object.ensures.never_falls);
    }

pub returns-clause-given : goal.returns-clause-given
returns-clause-given g c =
    let a = c.args.area.now in
    let shapes = c.args.shapes.now in
    let past : length a.heads ≤ c.loop-head.head-index = subst (λ hs. length hs ≤ c.loop-head.head-index) c.heads-head-items.ensures.heads c.loop-head-test.false in
    given_as c.args.directory.now c.loop-head.directory (λ r. sum_by (head_refs r c.args.holder shapes a.codes) (take c.loop-head.head-index a.heads)) (λ r. held_refs r c.args.holder (objects_of shapes a)) c.loop-head.invariant.given
    (λ r. heads_held r c.args.holder shapes a.codes a.heads c.requires.laid.heads ∙ ap (sum_by (head_refs r c.args.holder shapes a.codes)) (sym (take_all c.loop-head.head-index a.heads past)))
