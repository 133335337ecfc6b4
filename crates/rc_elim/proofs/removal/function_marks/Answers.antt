use Rattle.std.proofs.Common.{arith, sym, subst}
use Rattle.std.specs.Prelude.{get_or, []}
use Rattle.rc_elim.specs.Walking.{AreAll, Walkable}
use Rattle.rc_elim.proofs.Walks.{all_there, marked_if, may_be_walked, sets_inside}
use Rattle.rc_elim.proofs.removal.function_marks.Goals as goal

pub index-requires-2 : goal.index-requires-2
index-requires-2 c =
    let inside = sets_inside c.args._parts.now c.args.facts.now c.requires.code c.requires.inferred c.args.function c.requires.there c.index.result.now c.index.ensures in
    let room = c.args.facts.now.points.ok.0 in
    omega (arith, inside, room)

pub proven-requires : goal.proven-requires
proven-requires c =
    let graph = c.index.result.now in
    let walk = may_be_walked c.args._parts.now c.args.facts.now c.requires.code c.requires.inferred c.args.function c.requires.there graph c.index.ensures c.index-2.result.now c.index-2.ensures in
    subst (λ exits. Walkable graph exits c.as_slice-2.result.now) (sym c.as_slice.ensures.value) (subst (Walkable graph c.args.facts.now.exits.items) (sym c.as_slice-2.ensures.value) walk)

pub returns : goal.returns
returns c = λ inferred.
    let parts = c.args._parts.now in
    let facts = c.args.facts.now in
    let g = c.args.function in
    let graph = c.index.result.now in
    let sets = c.index-2.result.now in
    let all = get_or inferred.family.points g [] in
    let are = all_there parts facts c.requires.code inferred g c.requires.there graph c.index.ensures sets c.index-2.ensures in
    marked_if parts facts c.requires.code inferred g c.requires.there graph c.index.ensures sets c.index-2.ensures c.proven.result
    (c.proven.ensures all (subst (λ exits. AreAll graph exits c.as_slice-2.result.now all) (sym c.as_slice.ensures.value) (subst (λ kept. AreAll graph facts.exits.items kept all) (sym c.as_slice-2.ensures.value) are)))
