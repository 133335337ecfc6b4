-- The live regions that aren't of a set, from a place on.
use Rattle.std.proofs.Common.{◌≡◌, ◌<◌, ◌+◌, ◌∙◌, ℕ, suc, false, cond, List, None, length, get_or, drop, sym, ap, add-one}
use Rattle.std.specs.Prelude.{◌&&◌, ◌||◌, not}
use Rattle.std.proofs.lemmas.List.{at_drop_more}
use Rattle.rc_store.specs.Kept.{Regions, view_refs}
use Rattle.rc_store.specs.Sets.{is_child_of, is_in}
use Rattle.rc_store.proofs.Along.{beside_from, child_from}

pub child_step : (set : List ℕ) (i : ℕ) (views : Regions) → i < length views → not (is_in set i) && is_child_of set (get_or views i None) ≡ false
    → child_from set (i + 1) (drop (i + 1) views) ≡ child_from set i (drop i views)
child_step set i views below none =
    ap (λ k. child_from set k (drop (i + 1) views)) (add-one i)
    ∙ sym (at_drop_more (child_from set i) views i None below ∙ ap (λ b. b || child_from set (suc i) (drop (i + 1) views)) none)

pub refs_step : (set : List ℕ) (r i : ℕ) (views : Regions) → i < length views
    → beside_from set r i (drop i views) ≡ cond (is_in set i) 0 (view_refs r (get_or views i None)) + beside_from set r (i + 1) (drop (i + 1) views)
refs_step set r i views below =
    at_drop_more (beside_from set r i) views i None below
    ∙ ap (λ k. cond (is_in set i) 0 (view_refs r (get_or views i None)) + beside_from set r k (drop (i + 1) views)) (sym (add-one i))
