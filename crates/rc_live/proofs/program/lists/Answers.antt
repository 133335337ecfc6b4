use Rattle.std.proofs.Common.{◌≡◌, ◌≤◌, ℕ, [], length, map, reverse, refl, sym, ap, ◌∙◌, subst, slice_get, Some}
use Rattle.std.specs.Prelude.{option_map, sum}
use Rattle.std.proofs.lemmas.Option.{slice_get-map}
use Rattle.rc_core.specs.Shapes.{struct_of, ty_of}
use Rattle.rc_core.specs.WellTyped.{StructsFit}
use Rattle.rc_rlang.specs.declared.code.Routine.{Routine}
use Rattle.rc_rlang.specs.declared.code.RegionParts.{RegionParts}
use Rattle.rc_rlang.specs.IsRlang.{IsRlang}
use Rattle.rc_rlang.specs.LiveLists.{functions_lists}
use Rattle.rc_rlang.specs.LiveMaps.{held_of}
use Rattle.rc_rlang.specs.RegionPoints.{routine_points, rlang_points}
use Rattle.rc_rlang.specs.RegionRuns.{deletes}
use Rattle.rc_rlang.specs.Shapes.{rlang_of, routine_in}
use Rattle.rc_live.specs.declared.program.Listed.{Listed}
use Rattle.rc_live.specs.Rows.{numbered}
use Rattle.rc_live.specs.Walking.{Going, lowered, seen, structs_in, WentBack}
use Rattle.rc_live.proofs.Narrow.{numbered_are_few}
use Rattle.rc_live.proofs.Programs.{walked, seen_points}
use Rattle.rc_live.proofs.program.lists.Goals as goal

narrow : (parts : RegionParts) → IsRlang (rlang_of parts) → (k : ℕ) (f : Routine) → slice_get parts.functions.items k ≡ Some f → length (numbered (map ty_of f.locals.items)) ≤ 128
narrow parts is k f there =
    let shape = routine_in (structs_in parts) in
    let fits = is.functions k (shape f) (slice_get-map shape parts.functions.items k ∙ ap (option_map shape) there) in
    numbered_are_few (structs_in parts) (shape f) fits.locals fits.narrow

told : (parts code : RegionParts) → parts ≡ code → IsRlang (rlang_of code) → (listed : Listed) (old new : Going) →
    WentBack (sum (map routine_points (map (seen listed) (rlang_of parts).functions))) (functions_lists (deletes (rlang_of parts)) (map (seen listed) (rlang_of parts).functions)) old new →
    old.point ≡ 65536 → old.lists ≡ [] → map (lowered new.point) (reverse new.lists) ≡ functions_lists (deletes (rlang_of code)) (map (seen listed) (rlang_of code).functions) 0
told parts code same is listed old new back begin nothing =
    let r = rlang_of parts in
    let all = map (seen listed) r.functions in
    let few = subst (λ n. n ≤ 65536) (sym (seen_points listed r.functions)) (subst (λ p. rlang_points (rlang_of p) ≤ 65536) (sym same) is.few_points) in
    walked (deletes r) all (sum (map routine_points all)) old new few back begin nothing
    ∙ ap (λ p. functions_lists (deletes (rlang_of p)) (map (seen listed) (rlang_of p).functions) 0) same

pub functions-requires-clause-narrow : goal.functions-requires-clause-narrow
functions-requires-clause-narrow c = narrow c.parts-parts.result.now (subst (λ p. IsRlang (rlang_of p)) (sym c.parts-parts.ensures.parts) c.parts-parts.ensures.fits)

pub returns : goal.returns
returns c =
    c.in_order.ensures ∙ ap (λ (g : Going). map (lowered g.point) (reverse g.lists)) c.walk.view_is
    ∙ told c.parts-parts.result.now c.args.code.now c.parts-parts.ensures.parts c.parts-parts.ensures.fits c.args.listed _ c.functions.new.walk c.in_ok-functions.ensures refl (ap (map held_of) c.new.ensures.items)
