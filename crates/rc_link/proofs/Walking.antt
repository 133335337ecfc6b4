-- What is left of the files, one file at a time.
use Rattle.std.proofs.Common.{◌≡◌, ◌<◌, ◌≤◌, ◌+◌, ◌*◌, ℕ, suc, List, [], ◌∷◌, ◌++◌, Bool, true, false, Option, Some, None, Result, Ok, Err, refl, sym, ap, ◌∙◌, subst, length, drop, map, arith, append_assoc, if◌then◌else◌}
use Rattle.std.specs.Prelude.{get_or, option_map}
use Rattle.std.specs.List.{AllByRecursion as Every}
use Rattle.std.proofs.lemmas.List.{append-nil}
use Rattle.rc_base.specs.Limits.{most_text_bytes}
use Rattle.rc_syntax.specs.declared.tree.Name.{Name}
use Rattle.rc_syntax.specs.declared.tree.Item.{Item}
use Rattle.rc_syntax.specs.declared.tree.Tree.{Tree as CodeTree}
use Rattle.rc_syntax.specs.Shape.{item_of, tree_of}
use Rattle.rc_syntax.specs.Tree as t
use Rattle.rc_deletes.specs.First.{clear}
use Rattle.rc_deletes.specs.Items.{names_of, struct_definitions, with_structs, with_functions}
use Rattle.rc_defined.proofs.Walks.{front, none_left}
use Rattle.rc_linking.specs.Calls.{calls_in_items, is_callable}
use Rattle.rc_linking.specs.Joined.{is_repeated, without, structs_of, joined_behind, all_items}
use Rattle.rc_linking.specs.Links.{LinkRefusal, missing, or_else, clash_in, clashes, missing_in, missing_of}
use Rattle.rc_linked_files.proofs.All.{functions_append, structs_append}
use Rattle.rc_linking.specs.Moved.{moved_item, moved_items}
use Rattle.rc_clashes.specs.declared.clash.Clash.{Clash}
use Rattle.rc_clashes.specs.Clashing.{in_file}
use Rattle.rc_units.specs.Units.{IsLinkable}
use Rattle.rc_link.specs.Answers.{trees_of}
use Rattle.rc_link.specs.Missed.{missed}

-- calls that are all there, and a call that is not
module _ (functions : List (List ℕ)) (file : ℕ) where
  fine_if : (b : Bool) (line : ℕ) (xs : List ℕ) (o : Option LinkRefusal) (u : Unit {0}) → Ok u ≡ clear (if b then xs else line ∷ xs) → (Ok u ≡ clear xs → o ≡ None) → (if b then o else Some (missing file line)) ≡ None
  fine_if true line xs o u h k = k h
  fine_if false line xs o u h k = absurd cc

  pub calls_fine : (names : List Name) (u : Unit {0}) → Ok u ≡ clear (missed functions names) → missing_in functions file names ≡ None
  calls_fine [] u h = refl
  calls_fine (name ∷ names) u h = fine_if (is_callable functions name.text) name.spot.line (missed functions names) (missing_in functions file names) u h (calls_fine names u)

  lost_if : (b : Bool) (own line : ℕ) (xs : List ℕ) (o : Option LinkRefusal) → Err line ≡ clear (if b then xs else own ∷ xs) → (Err line ≡ clear xs → o ≡ Some (missing file line)) → (if b then o else Some (missing file own)) ≡ Some (missing file line)
  lost_if true own line xs o h k = k h
  lost_if false own line xs o h k = let same : line ≡ own = cc in ap (λ n. Some (missing file n)) (sym same)

  pub calls_lost : (names : List Name) (line : ℕ) → Err line ≡ clear (missed functions names) → missing_in functions file names ≡ Some (missing file line)
  calls_lost [] line h = absurd cc
  calls_lost (name ∷ names) line h = lost_if (is_callable functions name.text) name.spot.line line (missed functions names) (missing_in functions file names) h (calls_lost names line)

-- the file at the front of those that are left
module _ (units : List CodeTree) (i : ℕ) (x : CodeTree) (l : i < length units) (h : x ≡ get_or units i x) where
  front_tree : trees_of (drop i units) ≡ tree_of x ∷ trees_of (drop (i + 1) units)
  front_tree = ap (map tree_of) (front units i x l h)

  next : suc (i + 1) ≡ (i + 1) + 1
  next = omega arith

  clashes_on : (earlier : List t.Item) → clashes earlier (i + 1) (trees_of (drop i units)) ≡ or_else (clash_in earlier (i + 1) (tree_of x).items) (clashes (earlier ++ (tree_of x).items) ((i + 1) + 1) (trees_of (drop (i + 1) units)))
  clashes_on earlier =
      ap (clashes earlier (i + 1)) front_tree
      ∙ ap (λ n. or_else (clash_in earlier (i + 1) (tree_of x).items) (clashes (earlier ++ (tree_of x).items) n (trees_of (drop (i + 1) units)))) next

  missing_on : (functions : List (List ℕ)) → missing_of functions (i + 1) (trees_of (drop i units)) ≡ or_else (missing_in functions (i + 1) (calls_in_items (tree_of x).items)) (missing_of functions ((i + 1) + 1) (trees_of (drop (i + 1) units)))
  missing_on functions =
      ap (missing_of functions (i + 1)) front_tree
      ∙ ap (λ n. or_else (missing_in functions (i + 1) (calls_in_items (tree_of x).items)) (missing_of functions n (trees_of (drop (i + 1) units)))) next

  -- its items clash, or they don't
  module _ (earlier : List t.Item) (whole : Option LinkRefusal) (so_far : whole ≡ clashes earlier (i + 1) (trees_of (drop i units))) (items : List Item) (own : items ≡ x.items.items) where
    found : (r : Option LinkRefusal) → r ≡ clash_in earlier (i + 1) (map item_of items) → whole ≡ or_else r (clashes (earlier ++ map item_of items) ((i + 1) + 1) (trees_of (drop (i + 1) units)))
    found r e =
        so_far ∙ clashes_on earlier
        ∙ ap (λ (is : List Item). or_else (clash_in earlier (i + 1) (map item_of is)) (clashes (earlier ++ map item_of is) ((i + 1) + 1) (trees_of (drop (i + 1) units)))) (sym own)
        ∙ ap (λ (c : Option LinkRefusal). or_else c (clashes (earlier ++ map item_of items) ((i + 1) + 1) (trees_of (drop (i + 1) units)))) (sym e)

    pub clash_here : (told : LinkRefusal) → Some told ≡ clash_in earlier (i + 1) (map item_of items) → Some told ≡ whole
    clash_here told e = sym (found (Some told) e)

    pub no_clash_here : (r : Option Clash) → ((x : Clash) → r ≡ Some x → ⊥) → option_map (in_file (i + 1)) r ≡ clash_in earlier (i + 1) (map item_of items) →
        whole ≡ clashes (earlier ++ map item_of items) ((i + 1) + 1) (trees_of (drop (i + 1) units))
    no_clash_here None none e = found None e
    no_clash_here (Some x) none e = absurd (none x refl)

  -- a call in it is of no function, or none is
  module _ (functions : List (List ℕ)) (whole : Option LinkRefusal) (so_far : whole ≡ missing_of functions (i + 1) (trees_of (drop i units))) (items : List Item) (own : items ≡ x.items.items) where
    called : (r : Option LinkRefusal) → missing_in functions (i + 1) (calls_in_items (map item_of items)) ≡ r → whole ≡ or_else r (missing_of functions ((i + 1) + 1) (trees_of (drop (i + 1) units)))
    called r e =
        so_far ∙ missing_on functions
        ∙ ap (λ (is : List Item). or_else (missing_in functions (i + 1) (calls_in_items (map item_of is))) (missing_of functions ((i + 1) + 1) (trees_of (drop (i + 1) units)))) (sym own)
        ∙ ap (λ (c : Option LinkRefusal). or_else c (missing_of functions ((i + 1) + 1) (trees_of (drop (i + 1) units)))) e

    pub lost_here : (line : ℕ) → Err line ≡ clear (missed functions (calls_in_items (map item_of items))) → Some (missing (i + 1) line) ≡ whole
    lost_here line e = sym (called (Some (missing (i + 1) line)) (calls_lost functions (i + 1) (calls_in_items (map item_of items)) line e))

    pub none_lost_here : (r : Result (Unit {0}) ℕ) → ((line : ℕ) → r ≡ Err line → ⊥) → r ≡ clear (missed functions (calls_in_items (map item_of items))) →
        whole ≡ missing_of functions ((i + 1) + 1) (trees_of (drop (i + 1) units))
    none_lost_here (Ok u) none e = called None (calls_fine functions (i + 1) (calls_in_items (map item_of items)) u e)
    none_lost_here (Err line) none e = absurd (none line refl)

  pub functions_on : (names : List (List ℕ)) → with_functions names (all_items (trees_of (drop i units))) ≡ with_functions (with_functions names (tree_of x).items) (all_items (trees_of (drop (i + 1) units)))
  functions_on names = ap (λ ts. with_functions names (all_items ts)) front_tree ∙ functions_append names (tree_of x).items (all_items (trees_of (drop (i + 1) units)))

  joined_on : (earlier : List t.Item) (n : ℕ) → joined_behind earlier n (trees_of (drop i units)) ≡ moved_items n (without (structs_of earlier) (tree_of x).items) ++ joined_behind (earlier ++ (tree_of x).items) (n + most_text_bytes) (trees_of (drop (i + 1) units))
  joined_on earlier n = ap (joined_behind earlier n) front_tree

  -- its items stand behind those before them
  module _ (earlier whole before : List t.Item) (so_far : whole ≡ before ++ joined_behind earlier (i * most_text_bytes) (trees_of (drop i units))) (items : List Item) (own : items ≡ x.items.items) where
    pub joined_here : (structs : List (List ℕ)) (now : List t.Item) → structs ≡ structs_of earlier → now ≡ before ++ moved_items (i * most_text_bytes) (without structs (map item_of items)) →
        whole ≡ now ++ joined_behind (earlier ++ map item_of items) ((i + 1) * most_text_bytes) (trees_of (drop (i + 1) units))
    joined_here structs now s e =
        let rest = λ (n : ℕ) (is : List Item). joined_behind (earlier ++ map item_of is) n (trees_of (drop (i + 1) units)) in
        let later : i * most_text_bytes + most_text_bytes ≡ (i + 1) * most_text_bytes = omega arith in
        so_far ∙ ap (λ is. before ++ is) (joined_on earlier (i * most_text_bytes))
        ∙ ap (λ (is : List Item). before ++ (moved_items (i * most_text_bytes) (without (structs_of earlier) (map item_of is)) ++ rest (i * most_text_bytes + most_text_bytes) is)) (sym own)
        ∙ ap (λ (ns : List (List ℕ)). before ++ (moved_items (i * most_text_bytes) (without ns (map item_of items)) ++ rest (i * most_text_bytes + most_text_bytes) items)) (sym s)
        ∙ ap (λ n. before ++ (moved_items (i * most_text_bytes) (without structs (map item_of items)) ++ rest n items)) later
        ∙ sym (append_assoc before (moved_items (i * most_text_bytes) (without structs (map item_of items))) (rest ((i + 1) * most_text_bytes) items))
        ∙ ap (λ is. is ++ rest ((i + 1) * most_text_bytes) items) (sym e)

  pub linkable_on : IsLinkable (tree_of x) → Every IsLinkable (trees_of (drop (i + 1) units)) → Every IsLinkable (trees_of (drop i units))
  linkable_on a b = subst (Every IsLinkable) (sym front_tree) (a, b)

-- no file is left
module _ (units : List CodeTree) (i : ℕ) (l : length units ≤ i) where
  no_tree : trees_of (drop i units) ≡ []
  no_tree = ap (map tree_of) (none_left units i l)

  pub clashes_end : (earlier : List t.Item) (file : ℕ) → clashes earlier file (trees_of (drop i units)) ≡ None
  clashes_end earlier file = ap (clashes earlier file) no_tree

  pub missing_end : (functions : List (List ℕ)) (file : ℕ) → missing_of functions file (trees_of (drop i units)) ≡ None
  missing_end functions file = ap (missing_of functions file) no_tree

  pub functions_end : (names : List (List ℕ)) → with_functions names (all_items (trees_of (drop i units))) ≡ names
  functions_end names = ap (λ ts. with_functions names (all_items ts)) no_tree

  pub joined_end : (earlier before whole : List t.Item) (n : ℕ) → whole ≡ before ++ joined_behind earlier n (trees_of (drop i units)) → before ≡ whole
  joined_end earlier before whole n e = sym (e ∙ ap (λ ts. before ++ joined_behind earlier n ts) no_tree ∙ append-nil before)

  pub linkable_end : Every IsLinkable (trees_of (drop i units))
  linkable_end = subst (Every IsLinkable) (sym no_tree) tt

-- the items of a file without structs of earlier files
module _ (by : ℕ) (structs : List (List ℕ)) (file : List Item) (i : ℕ) (x : Item) (l : i < length file) (h : x ≡ get_or file i x) where
  on : (b : Bool) → b ≡ is_repeated structs (item_of x) → moved_items by (without structs (map item_of (drop i file))) ≡ moved_items by (if b then without structs (map item_of (drop (i + 1) file)) else item_of x ∷ without structs (map item_of (drop (i + 1) file)))
  on b e =
      ap (λ xs. moved_items by (without structs (map item_of xs))) (front file i x l h)
      ∙ ap (λ c. moved_items by (if c then without structs (map item_of (drop (i + 1) file)) else item_of x ∷ without structs (map item_of (drop (i + 1) file)))) (sym e)

  pub skipped_on : true ≡ is_repeated structs (item_of x) → moved_items by (without structs (map item_of (drop i file))) ≡ moved_items by (without structs (map item_of (drop (i + 1) file)))
  skipped_on e = on true e

  pub kept_on : (before : List t.Item) (copy : t.Item) → false ≡ is_repeated structs (item_of x) → copy ≡ moved_item by (item_of x) → before ++ moved_items by (without structs (map item_of (drop i file))) ≡ (before ++ copy ∷ []) ++ moved_items by (without structs (map item_of (drop (i + 1) file)))
  kept_on before copy e same =
      let rest = moved_items by (without structs (map item_of (drop (i + 1) file))) in
      ap (λ xs. before ++ xs) (on false e) ∙ ap (λ y. before ++ y ∷ rest) (sym same) ∙ sym (append_assoc before (copy ∷ []) rest)

pub nothing_left : (by : ℕ) (structs : List (List ℕ)) (file : List Item) (i : ℕ) → length file ≤ i → moved_items by (without structs (map item_of (drop i file))) ≡ []
nothing_left by structs file i l = ap (λ xs. moved_items by (without structs (map item_of xs))) (none_left file i l)

-- structs of one more file
pub structs_more : (earlier : List t.Item) (items : List t.Item) → names_of (with_structs (struct_definitions earlier) items) ≡ structs_of (earlier ++ items)
structs_more earlier items = ap names_of (sym (structs_append [] earlier items))
