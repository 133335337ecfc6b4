-- The first definition of `main`.
use Rattle.std.proofs.Common.{◌≡◌, ◌<◌, ◌≤◌, ◌+◌, ℕ, ap, ◌∙◌, List, ◌∷◌, length, drop, map, Some, Bool, true, false, if◌then◌else◌}
use Rattle.std.specs.Prelude.{get_or}
use Rattle.rc_syntax.specs.declared.tree.Item.{Item}
use Rattle.rc_syntax.specs.Shape as written
use Rattle.rc_deletes.specs.Answer.{is_definition_of_main, main_shape_of, main_fault}
use Rattle.rc_defined.proofs.Walks.{front, none_left}

module _ (is : List Item) (i : ℕ) where
  module _ (x : Item) (l : i < length is) (h : x ≡ get_or is i x) where
    here : main_fault (map written.item_of (drop i is)) ≡ (if is_definition_of_main (written.item_of x) then main_shape_of (written.item_of x) else main_fault (map written.item_of (drop (i + 1) is)))
    here = ap (λ xs. main_fault (map written.item_of xs)) (front is i x l h)

    pub main_step : is_definition_of_main (written.item_of x) ≡ false → main_fault (map written.item_of (drop i is)) ≡ main_fault (map written.item_of (drop (i + 1) is))
    main_step e = here ∙ ap (λ b. if b then main_shape_of (written.item_of x) else main_fault (map written.item_of (drop (i + 1) is))) e

    pub main_here : is_definition_of_main (written.item_of x) ≡ true → main_fault (map written.item_of (drop i is)) ≡ main_shape_of (written.item_of x)
    main_here e = here ∙ ap (λ b. if b then main_shape_of (written.item_of x) else main_fault (map written.item_of (drop (i + 1) is))) e

  pub main_nowhere : length is ≤ i → main_fault (map written.item_of (drop i is)) ≡ Some 1
  main_nowhere l = ap (λ xs. main_fault (map written.item_of xs)) (none_left is i l)
