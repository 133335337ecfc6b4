use Rattle.std.proofs.Common.{map, ◌≡◌, ◌+◌, ap, ◌∙◌, subst, arith}
use Rattle.std.specs.Prelude.{slice_get}
use Rattle.rc_base.specs.BitSets.{marks}
use Rattle.rc_rlang.specs.LiveLists.{held_at}
use Rattle.rc_rlang.specs.LiveMaps.{held_of}
use Rattle.rc_live.specs.Rows.{chosen}
use Rattle.rc_live.specs.Walking.{Going, WentBack}
use Rattle.rc_live.proofs.Bits.{chosen_pins}
use Rattle.rc_live.proofs.Back.{back_listed, map_held}
use Rattle.rc_live.proofs.walk.Walk.list.Goals as goal

pub returns : goal.returns
returns c deleting types l names s =
    let pins = c.in_ok-locals.ensures ∙ ap (λ ns. chosen ns (marks c.args.live) 0) names
    ∙ chosen_pins types 0 0 (marks c.args.live) l (λ i x d. ap (marks c.args.live) (let k : 0 + i ≡ i = omega arith in k) ∙ s i x (ap (λ ns. slice_get ns i) names ∙ d)) in
    let old : Going = record { point = c.self.inside.point; lists = map held_of c.self.inside.lists.items } in
    let new : Going = record { point = c.saturating_sub-self-inside.result; lists = map held_of c.push.new.self.items } in
    subst (λ o. WentBack 1 (λ here. held_at deleting types here l) o new) c.self.view_is
    (back_listed deleting types l old new c.in_ok-locals.locals.items c.saturating_sub-self-inside.ensures (map_held c.push.new.self.items c.self.inside.lists.items _ c.in_ok-push.ensures.items) pins)
