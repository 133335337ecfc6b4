-- The `main` of files together is that of the first file that defines one.
use Rattle.std.specs.Prelude.{◌≡◌, ◌⊎◌, ℕ, ◌+◌, List, [], ◌∷◌, ◌++◌, Option, Some, None, Bool, true, false, is_some, ◌&&◌, ◌||◌, map, option_map, if◌then◌else◌}
use Rattle.std.specs.List.{AllByRecursion as Every}
use Rattle.std.proofs.Common.{refl, sym, ap, ◌∙◌, inl, inr}
use Rattle.std.specs.Str.{bytes_eq}
use Rattle.rc_base.specs.Limits.{most_text_bytes}
use Rattle.rc_syntax.specs.declared.tree.Spot.{Spot}
use Rattle.rc_syntax.specs.declared.tree.Name.{Name}
use Rattle.rc_syntax.specs.declared.tree.Base.{Base}
use Rattle.rc_syntax.specs.declared.tree.Base.TheVariants as base
use Rattle.rc_syntax.specs.Tree as t
use Rattle.rc_core.specs.Programs.{Program}
use Rattle.rc_deletes.specs.Kinds.{place_of}
use Rattle.rc_deletes.specs.Items.{is_among, function_names, main_name}
use Rattle.rc_deletes.specs.Answer.{is_int, gives_int, takes_nothing, main_shape, is_definition_of_main, main_shape_of, main_fault, IsProgramOf}
use Rattle.rc_deletes.proofs.Naming.{same_name, own_name}
use Rattle.rc_linking.specs.Clash.{any}
use Rattle.rc_linking.specs.Moved.{moved_spot, moved_base, moved_type, moved_param, moved_items}
use Rattle.rc_linking.specs.Joined.{structs_of, without, joined_behind, joined, all_items}
use Rattle.rc_linking.specs.Stubs.{stubs, stubbed, IsUnit}
use Rattle.rc_linking.specs.Links.{LinkRefusal, entry, or_else, clashes, missing_of, entry_of, large_of, link_refusal}
use Rattle.rc_linking.proofs.Scopes.{IsIn, Defines, definer}
use Rattle.rc_linked_files.proofs.Structs.{no_more, not_more}
use Rattle.rc_linked_files.proofs.Linked.{neither, some_none, unit_right, right_program, linked_typed}

int_moved : (n : ℕ) (b : Base) → is_int (moved_base n b) ≡ is_int b
int_moved n (base.Int at) = refl
int_moved n (base.Unsigned at) = refl
int_moved n (base.Char at) = refl
int_moved n (base.Region at) = refl
int_moved n (base.Struct at name) = refl

gives_moved : (n : ℕ) (result : Option t.TypeName) → gives_int (option_map (moved_type n) result) ≡ gives_int result
gives_moved n None = refl
gives_moved n (Some ty) = ap (λ b. b && (elim ty.stars [ [] ↦ true | note ∷ notes ↦ false ])) (int_moved n ty.base)

takes_moved : (n : ℕ) (qs : List t.Param) → takes_nothing (map (moved_param n) qs) ≡ takes_nothing qs
takes_moved n [] = refl
takes_moved n (q ∷ qs) = refl

shape_line : (n : ℕ) (at : Spot) (b : Bool) → main_shape (moved_spot n at) b ≡ main_shape at b
shape_line n at true = refl
shape_line n at false = refl

if_same : (b : Bool) (x y u v : Option ℕ) → x ≡ u → y ≡ v → (if b then x else y) ≡ (if b then u else v)
if_same true x y u v h k = h
if_same false x y u v h k = k

struct_passed : (n : ℕ) (b : Bool) (at : Spot) (name : Name) (fields : List t.Field) (ks ys : List t.Item) (m : Option ℕ) → main_fault (moved_items n ks ++ ys) ≡ m → main_fault (moved_items n (if b then ks else t.struct at name fields ∷ ks) ++ ys) ≡ m
struct_passed n true at name fields ks ys m h = h
struct_passed n false at name fields ks ys m h = h

main_kept : (n : ℕ) (names : List (List ℕ)) (is ys : List t.Item) → main_fault (moved_items n (without names is) ++ ys) ≡ main_fault (is ++ ys)
main_kept n names [] ys = refl
main_kept n names (t.global at ty name count c ∷ is) ys = main_kept n names is ys
main_kept n names (t.function at deletes result name params None ∷ is) ys = main_kept n names is ys
main_kept n names (t.struct at name fields ∷ is) ys = struct_passed n (is_among names name.text) at name fields (without names is) ys (main_fault (is ++ ys)) (main_kept n names is ys)
main_kept n names (t.function at deletes result name params (Some body) ∷ is) ys =
    if_same (bytes_eq name.text main_name) _ (main_fault (moved_items n (without names is) ++ ys)) (main_shape at (takes_nothing params && gives_int result)) (main_fault (is ++ ys))
    (shape_line n at (takes_nothing (map (moved_param n) params) && gives_int (option_map (moved_type n) result)) ∙ ap (λ b. main_shape at (b && gives_int (option_map (moved_type n) result))) (takes_moved n params) ∙ ap (λ b. main_shape at (takes_nothing params && b)) (gives_moved n result))
    (main_kept n names is ys)

main_behind : (is ys zs : List t.Item) → main_fault ys ≡ main_fault zs → main_fault (is ++ ys) ≡ main_fault (is ++ zs)
main_behind [] ys zs h = h
main_behind (i ∷ is) ys zs h = if_same (is_definition_of_main i) (main_shape_of i) (main_fault (is ++ ys)) (main_shape_of i) (main_fault (is ++ zs)) refl (main_behind is ys zs h)

joined_main : (trees : List t.Tree) (earlier : List t.Item) (n : ℕ) → main_fault (joined_behind earlier n trees) ≡ main_fault (all_items trees)
joined_main [] earlier n = refl
joined_main (tree ∷ trees) earlier n =
    main_kept n (structs_of earlier) tree.items (joined_behind (earlier ++ tree.items) (n + most_text_bytes) trees)
    ∙ main_behind tree.items (joined_behind (earlier ++ tree.items) (n + most_text_bytes) trees) (all_items trees) (joined_main trees (earlier ++ tree.items) (n + most_text_bytes))

first_if : (b c : Bool) (x y z : Option ℕ) → b || c ≡ true → (c ≡ true → y ≡ z) → (if b then x else y) ≡ (if b then x else z)
first_if true c x y z h k = refl
first_if false c x y z h k = k h

main_first : (xs ys : List t.Item) → any is_definition_of_main xs ≡ true → main_fault (xs ++ ys) ≡ main_fault xs
main_first [] ys h = not_more h
main_first (i ∷ is) ys h = first_if (is_definition_of_main i) (any is_definition_of_main is) (main_shape_of i) (main_fault (is ++ ys)) (main_fault is) h (main_first is ys)

later_if : (b c : Bool) (x y z : Option ℕ) → b || c ≡ false → (c ≡ false → y ≡ z) → (if b then x else y) ≡ z
later_if true c x y z h k = no_more h
later_if false c x y z h k = k h

main_later : (xs ys : List t.Item) → any is_definition_of_main xs ≡ false → main_fault (xs ++ ys) ≡ main_fault ys
main_later [] ys h = refl
main_later (i ∷ is) ys h = later_if (is_definition_of_main i) (any is_definition_of_main is) (main_shape_of i) (main_fault (is ++ ys)) (main_fault ys) h (main_later is ys)

any_both : (xs ys : List t.Item) → any is_definition_of_main xs ≡ false → any is_definition_of_main (xs ++ ys) ≡ true → any is_definition_of_main ys ≡ true
any_both [] ys h k = k
any_both (i ∷ is) ys h k = by (is_definition_of_main i) (any is_definition_of_main is) (any is_definition_of_main (is ++ ys)) h k (any_both is ys) where
  by : (b c d : Bool) → b || c ≡ false → b || d ≡ true → (c ≡ false → d ≡ true → any is_definition_of_main ys ≡ true) → any is_definition_of_main ys ≡ true
  by false c d h k l = l h k
  by true c d h k l = no_more h

main_right : (trees : List t.Tree) → Every IsUnit trees → any is_definition_of_main (all_items trees) ≡ true → main_fault (all_items trees) ≡ None
main_right [] units h = not_more h
main_right (tree ∷ trees) units h = by (any is_definition_of_main tree.items) refl (main_right trees units.1) where
  by : (b : Bool) → any is_definition_of_main tree.items ≡ b → (any is_definition_of_main (all_items trees) ≡ true → main_fault (all_items trees) ≡ None) → main_fault (tree.items ++ all_items trees) ≡ None
  by true e rest =
      let unit = units.0 in
      main_first tree.items (all_items trees) e ∙ sym (main_first tree.items (stubs unit.line tree) e) ∙ (unit_right (stubbed unit.line tree) unit.program unit.typed).0
  by false e rest = main_later tree.items (all_items trees) e ∙ rest (any_both tree.items (all_items trees) e h)

or_right : (a b : Bool) → b ≡ true → a || b ≡ true
or_right true b h = refl
or_right false b h = h

or_left : (a b : Bool) → a ≡ true → a || b ≡ true
or_left true b h = refl
or_left false b h = not_more h

any_in : (is : List t.Item) (i : t.Item) → IsIn i is → is_definition_of_main i ≡ true → any is_definition_of_main is ≡ true
any_in [] i m h = absurd m
any_in (x ∷ is) i (inl e) h = or_left (is_definition_of_main x) (any is_definition_of_main is) (ap is_definition_of_main e ∙ h)
any_in (x ∷ is) i (inr m) h = or_right (is_definition_of_main x) (any is_definition_of_main is) (any_in is i m h)

defined_main : (is : List t.Item) → is_some (place_of (function_names is) main_name) ≡ true → any is_definition_of_main is ≡ true
defined_main is h = which (definer [] is main_name h) where
  no_name : is_among [] main_name ≡ true → ⊥
  no_name h = cc

  main_is : (i : t.Item) → Defines i main_name → is_definition_of_main i ≡ true
  main_is (t.function at deletes result name params (Some body)) h = ap (λ x. bytes_eq x main_name) (sym (same_name main_name name.text h)) ∙ own_name main_name
  main_is (t.function at deletes result name params None) h = absurd h
  main_is (t.struct at name fields) h = absurd h
  main_is (t.global at ty name count c) h = absurd h

  which : (is_among [] main_name ≡ true) ⊎ ((i : t.Item) × (IsIn i is × Defines i main_name)) → any is_definition_of_main is ≡ true
  which (inl h) = absurd (no_name h)
  which (inr h) = any_in is h.0 h.1.0 (main_is h.0 h.1.1)

entered : (b : Bool) (x : LinkRefusal) → (if b then None else Some x) ≡ None → b ≡ true
entered true x h = refl
entered false x h = absurd (some_none x h)

-- files that nothing refuses, alone or together, have a program together that nothing refuses
pub linked_program : (trees : List t.Tree) → Every IsUnit trees → link_refusal trees ≡ None → (program : Program) × IsProgramOf (joined trees) program
linked_program trees units h =
    let q = neither (clashes [] 1 trees) (or_else (missing_of (function_names (all_items trees)) 1 trees) (or_else (entry_of trees) (large_of trees))) h in
    let r = neither (missing_of (function_names (all_items trees)) 1 trees) (or_else (entry_of trees) (large_of trees)) q.1 in
    let s = neither (entry_of trees) (large_of trees) r.1 in
    let typed = linked_typed trees units h in
    let there = defined_main (all_items trees) (entered (is_some (place_of (function_names (all_items trees)) main_name)) entry s.0) in
    (typed.0, right_program (joined trees) typed.0 typed.1 (joined_main trees [] 0 ∙ main_right trees units there) typed.2)
