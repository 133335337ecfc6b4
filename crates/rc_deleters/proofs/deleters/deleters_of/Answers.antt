use Rattle.std.proofs.Common.{◌≡◌, ◌∙◌, ℕ, List, map, subst, ap}
use Rattle.rc_code.specs.declared.image.Function.{Function}
use Rattle.rc_deleters.specs.Calls.{as_numbered, first_in, image_stops, releading, AreFirsts}
use Rattle.rc_deleters.proofs.Building.{led_image}
use Rattle.rc_deleters.proofs.Deletions.{stops_fit, rows_there, rows_tell}
use Rattle.rc_deleters.proofs.deleters.deleters_of.Goals as goal

pub used-requires : goal.used-requires
used-requires c = record { fits = stops_fit c.args.parts.now c.requires c.in_ok-blocks.blocks.firsts.items c.as_slice-3.result.now same are }
  where
    are : AreFirsts c.args.parts.now.functions c.in_ok-blocks.blocks.firsts.items
    are = subst (λ (gs : List Function). AreFirsts gs c.in_ok-blocks.blocks.firsts.items) c.as_slice.ensures c.in_ok-blocks.ensures.firsts

    same : c.as_slice-3.result.now ≡ image_stops (first_in c.in_ok-blocks.blocks.firsts.items) c.args.parts.now.functions
    same =
        c.as_slice-3.ensures.value ∙ c.led-stops.ensures
        ∙ ap (λ (ns : List ℕ). map (releading (first_in ns)) c.in_ok-blocks.blocks.stops.items) c.as_slice-2.ensures.value
        ∙ ap (map (releading (first_in c.in_ok-blocks.blocks.firsts.items))) (c.in_ok-blocks.ensures.stops ∙ ap (image_stops as_numbered) c.as_slice.ensures)
        ∙ led_image (first_in c.in_ok-blocks.blocks.firsts.items) c.args.parts.now.functions

pub returns : goal.returns
returns c = record {
  there = rows_there c.args.parts.now c.requires c.in_ok-blocks.blocks.firsts.items c.as_slice-3.result.now same are c.in_ok-rows.rows.items c.in_ok-rows.ensures.long;
  told = rows_tell c.args.parts.now c.requires c.in_ok-blocks.blocks.firsts.items c.as_slice-3.result.now same are c.in_ok-rows.rows.items c.in_ok-rows.ensures.used;
}
  where
    are : AreFirsts c.args.parts.now.functions c.in_ok-blocks.blocks.firsts.items
    are = subst (λ (gs : List Function). AreFirsts gs c.in_ok-blocks.blocks.firsts.items) c.as_slice.ensures c.in_ok-blocks.ensures.firsts

    same : c.as_slice-3.result.now ≡ image_stops (first_in c.in_ok-blocks.blocks.firsts.items) c.args.parts.now.functions
    same =
        c.as_slice-3.ensures.value ∙ c.led-stops.ensures
        ∙ ap (λ (ns : List ℕ). map (releading (first_in ns)) c.in_ok-blocks.blocks.stops.items) c.as_slice-2.ensures.value
        ∙ ap (map (releading (first_in c.in_ok-blocks.blocks.firsts.items))) (c.in_ok-blocks.ensures.stops ∙ ap (image_stops as_numbered) c.as_slice.ensures)
        ∙ led_image (first_in c.in_ok-blocks.blocks.firsts.items) c.args.parts.now.functions
