use Rattle.std.specs.Prelude.{slice_get}
use Rattle.std.proofs.Common.{length, map, sym, ap, ◌∙◌, subst}
use Rattle.std.proofs.lemmas.Option.{slice_get_read}
use Rattle.rc_rlang.specs.LiveMaps.{held_of, IsIncreasing, IsMap}
use Rattle.rc_rlang.proofs.Searching.{list_increases}
use Rattle.rc_rlang.proofs.live_map.LiveMap.after.Goals as goal

pub returns-clause-increases : goal.returns-clause-increases
returns-clause-increases c =
    let items = c.self.inside.lists.items in
    let h = c.index.result.now in
    let there = slice_get_read items _ c.place_of-place.result h (ap length c.as_slice.ensures.value) c.place_of-place.ensures.inside c.index.ensures in
    let list = c.place_of-place.ensures.listed h (ap (λ xs. slice_get xs c.place_of-place.result) c.as_slice.ensures.value ∙ there) in
    subst IsIncreasing (sym c.as_slice-2.ensures) (list_increases _ c.args.point _ (subst IsMap (ap (map held_of) (sym c.as_slice.ensures.value)) c.self.invariant) list)
