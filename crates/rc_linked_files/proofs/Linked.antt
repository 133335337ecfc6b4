-- Files of which none is refused, and that nothing keeps apart, have a program together.
use Rattle.std.specs.Prelude.{◌≡◌, ℕ, suc, ◌+◌, ◌≤◌, List, [], ◌∷◌, ◌++◌, Option, Some, None, Bool, true, false, nat_lt, ◌||◌, map, if◌then◌else◌}
use Rattle.std.specs.List.{AllByRecursion as Every}
use Rattle.std.proofs.Common.{refl, sym, ap, ◌∙◌, subst, inl, inr, arith, append_assoc}
use Rattle.std.proofs.lemmas.Bool.Decides.{nat_tests}
use Rattle.rc_base.specs.Limits.{most_text_bytes}
use Rattle.rc_syntax.specs.declared.tree.Name.{Name}
use Rattle.rc_syntax.specs.declared.tree.Spot.{Spot}
use Rattle.rc_syntax.specs.Tree as t
use Rattle.rc_core.specs.Programs.{Program}
use Rattle.rc_deletes.specs.Judged.{Judged, Holds, Faulty, with_part}
use Rattle.rc_deletes.specs.Items.{is_among, with_functions, with_new, struct_definitions, function_names, context_of, at_the_start, Made, items, program_of, Typed}
use Rattle.rc_judgements.proofs.WellTypedStructs.{names_same}
use Rattle.rc_linking.specs.Calls.{is_callable, calls_in_items}
use Rattle.rc_linking.specs.Clash.{disagrees, doubles, any}
use Rattle.rc_linking.specs.Moved.{moved_items}
use Rattle.rc_linking.specs.Joined.{structs_of, without, joined_behind, joined, all_items}
use Rattle.rc_linking.specs.Stubs.{stubs_of, main_stub, declares_main, stubs, stubbed, IsUnit}
use Rattle.rc_linking.specs.Links.{LinkRefusal, disagree, double, or_else, line_of, clash_in, clashes, missing_in, missing_of, entry_of, large_of, cells_of, link_refusal}
use Rattle.rc_linking.proofs.Names.{Names}
use Rattle.rc_linking.proofs.Scopes.{IsIn, IsApart}
use Rattle.rc_linking.proofs.Params.{IsHeld}
use Rattle.rc_linked_files.proofs.Fronts.{AreFunctions}
use Rattle.rc_linked_files.proofs.All.{FilesFit, joined_typed, in_first, in_second, functions_append}
use Rattle.rc_linked_files.proofs.Structs.{no_more, AreCovered, FileStructs, file_structs}
use Rattle.rc_linked_files.proofs.Covers.{FilesShow, cover_files}
use Rattle.rc_linked_files.proofs.Agreed.{ren, agreed}
use Rattle.rc_judgements.proofs.PlacedItems.{same_faults}
use Rattle.rc_deletes.specs.Places.{deletes_faults}
use Rattle.rc_deletes.specs.PlacedFaults.{PlacedFault, without_place, placed_faults}
use Rattle.rc_deletes.specs.Answer.{Refused, first_of, main_or, first_place, main_fault, IsProgramOf}
use Rattle.rc_deletes.specs.declared.deletes.DeletesFault.{DeletesFault}

-- none of several reasons
pub neither : (a b : Option LinkRefusal) → or_else a b ≡ None → (a ≡ None) × (b ≡ None)
neither None b h = (refl, h)
neither (Some a) b h = absurd cc

any_parts : (a b : Bool) → a || b ≡ false → (a ≡ false) × (b ≡ false)
any_parts false b h = (refl, h)
any_parts true b h = no_more h

none_any : (test : t.Item → Bool) (is : List t.Item) → any test is ≡ false → (i : t.Item) → IsIn i is → test i ≡ false
none_any test [] h i m = absurd m
none_any test (x ∷ is) h i (inl e) = ap test (sym e) ∙ (any_parts (test x) (any test is) h).0
none_any test (x ∷ is) h i (inr m) = none_any test is (any_parts (test x) (any test is) h).1 i m

clash_none : (a b : Bool) (x y z : Option LinkRefusal) → (x ≡ None → ⊥) → (y ≡ None → ⊥) → (if a then x else (if b then y else z)) ≡ None → (a ≡ false) × (b ≡ false) × (z ≡ None)
clash_none true b x y z h k e = absurd (h e)
clash_none false true x y z h k e = absurd (k e)
clash_none false false x y z h k e = (refl, refl, e)

pub some_none : (a : LinkRefusal) → Some a ≡ None → ⊥
some_none a h = cc

apart : (earlier : List t.Item) (file : ℕ) (js : List t.Item) → clash_in earlier file js ≡ None → (j : t.Item) → IsIn j js → IsApart earlier j
apart earlier file [] h j m = absurd m
apart earlier file (x ∷ js) h j (inl e) =
    let q = clash_none (any (λ i. disagrees i x) earlier) (any (λ i. doubles i x) earlier) (Some (disagree file (line_of x))) (Some (double file (line_of x))) (clash_in earlier file js) (some_none (disagree file (line_of x))) (some_none (double file (line_of x))) h in
    subst (IsApart earlier) e (λ i n. (none_any (λ i. disagrees i x) earlier q.0 i n, none_any (λ i. doubles i x) earlier q.1 i n))
apart earlier file (x ∷ js) h j (inr n) =
    let q = clash_none (any (λ i. disagrees i x) earlier) (any (λ i. doubles i x) earlier) (Some (disagree file (line_of x))) (Some (double file (line_of x))) (clash_in earlier file js) (some_none (disagree file (line_of x))) (some_none (double file (line_of x))) h in
    apart earlier file js q.2 j n

called_if : (b : Bool) (x : LinkRefusal) (o : Option LinkRefusal) → (if b then o else Some x) ≡ None → (b ≡ true) × (o ≡ None)
called_if true x o h = (refl, h)
called_if false x o h = absurd (some_none x h)

all_called : (functions : Names) (file : ℕ) (names : List Name) → missing_in functions file names ≡ None → Every (λ (name : Name). is_callable functions name.text ≡ true) names
all_called functions file [] h = tt
all_called functions file (name ∷ names) h = let q = called_if (is_callable functions name.text) _ (missing_in functions file names) h in (q.0, all_called functions file names q.1)

-- functions of all files have the names of those of the joined tree
struct_skipped : (n : ℕ) (names ns : Names) (at : Spot) (name : Name) (fields : List t.Field) (is : List t.Item) (b : Bool) → with_functions ns (moved_items n (without names is)) ≡ with_functions ns is → with_functions ns (moved_items n (if b then without names is else t.struct at name fields ∷ without names is)) ≡ with_functions ns is
struct_skipped n names ns at name fields is true h = h
struct_skipped n names ns at name fields is false h = h

functions_kept : (n : ℕ) (names ns : Names) (is : List t.Item) → with_functions ns (moved_items n (without names is)) ≡ with_functions ns is
functions_kept n names ns [] = refl
functions_kept n names ns (t.global at ty name count c ∷ is) = functions_kept n names ns is
functions_kept n names ns (t.function at deletes result name params None ∷ is) = functions_kept n names ns is
functions_kept n names ns (t.function at deletes result name params (Some body) ∷ is) = functions_kept n names (with_new ns name.text) is
functions_kept n names ns (t.struct at name fields ∷ is) = struct_skipped n names ns at name fields is (is_among names name.text) (functions_kept n names ns is)

pub same_functions : (trees : List t.Tree) (earlier : List t.Item) (n : ℕ) (ns : Names) → with_functions ns (joined_behind earlier n trees) ≡ with_functions ns (all_items trees)
same_functions [] earlier n ns = refl
same_functions (tree ∷ trees) earlier n ns =
    functions_append ns (moved_items n (without (structs_of earlier) tree.items)) (joined_behind (earlier ++ tree.items) (n + most_text_bytes) trees)
    ∙ ap (λ x. with_functions x (joined_behind (earlier ++ tree.items) (n + most_text_bytes) trees)) (functions_kept n (structs_of earlier) ns tree.items)
    ∙ same_functions trees (earlier ++ tree.items) (n + most_text_bytes) (with_functions ns tree.items)
    ∙ sym (functions_append ns tree.items (all_items trees))

-- stubs are functions
stub_if : (b : Bool) (x : t.Item) (xs ys : List t.Item) → AreFunctions xs → AreFunctions (x ∷ ys) → AreFunctions (if b then xs else x ∷ ys)
stub_if true x xs ys h k = h
stub_if false x xs ys h k = k

stubs_are : (line : ℕ) (known : Names) (is : List t.Item) → AreFunctions (stubs_of line known is)
stubs_are line known [] = tt
stubs_are line known (t.struct at name fields ∷ is) = stubs_are line known is
stubs_are line known (t.global at ty name count c ∷ is) = stubs_are line known is
stubs_are line known (t.function at deletes result name params (Some body) ∷ is) = stubs_are line known is
stubs_are line known (t.function at deletes result name params None ∷ is) = stub_if _ _ (stubs_of line known is) (stubs_of line (known ++ name.text ∷ []) is) (stubs_are line known is) (stubs_are line (known ++ name.text ∷ []) is)

both_functions : (xs ys : List t.Item) → AreFunctions xs → AreFunctions ys → AreFunctions (xs ++ ys)
both_functions [] ys h k = k
both_functions (t.function at deletes result name params body ∷ xs) ys h k = both_functions xs ys h k
both_functions (t.struct at name fields ∷ xs) ys h k = absurd h
both_functions (t.global at ty name count c ∷ xs) ys h k = absurd h

main_is : (line : ℕ) (b : Bool) → AreFunctions (main_stub line b)
main_is line true = tt
main_is line false = tt

pub all_functions : (line : ℕ) (tree : t.Tree) → AreFunctions (stubs line tree)
all_functions line tree = both_functions (stubs_of line (function_names tree.items) tree.items) (main_stub line (declares_main tree.items)) (stubs_are line (function_names tree.items) tree.items) (main_is line (declares_main tree.items))

-- a file that is typed by itself holds
held_if : (is : List t.Item) (j : Judged Made) (program : Program) → with_part j (λ made. Holds (program_of is made)) ≡ Holds program → IsHeld j
held_if is (Holds m) program h = tt
held_if is (Faulty f fs) program h = absurd (differ h) where
  differ : Faulty f fs ≡ Holds program → ⊥
  differ h = cc

unit_held : (tree : t.Tree) (unit : IsUnit tree) → IsHeld (items (context_of (tree.items ++ stubs unit.line tree)) at_the_start (tree.items ++ stubs unit.line tree))
unit_held tree unit = held_if (tree.items ++ stubs unit.line tree) (items (context_of (tree.items ++ stubs unit.line tree)) at_the_start (tree.items ++ stubs unit.line tree)) unit.program unit.typed.0

unit_structs : (tree : t.Tree) (unit : IsUnit tree) → FileStructs (context_of (tree.items ++ stubs unit.line tree)) [] tree.items
unit_structs tree unit =
    let is = tree.items ++ stubs unit.line tree in
    file_structs (context_of is) tree.items (stubs unit.line tree) at_the_start [] [] (record { structs = refl; functions = refl; all_structs = names_same is; all_functions = refl }) (unit_held tree unit)

-- nothing is out of place in it, and its `main` is right
no_main : (line : ℕ) (o : Option Refused) → main_or (Some line) o ≡ None → ⊥
no_main line o h = cc

no_places : (fs : List DeletesFault) → first_place fs ≡ None → fs ≡ []
no_places [] h = refl
no_places (f ∷ fs) h = absurd cc

no_faults : (fs : List PlacedFault) → map without_place fs ≡ [] → fs ≡ []
no_faults [] h = refl
no_faults (f ∷ fs) h = absurd cc

both_right : (m : Option ℕ) (fs : List DeletesFault) → main_or m (first_place fs) ≡ None → (m ≡ None) × (fs ≡ [])
both_right None fs h = (refl, no_places fs h)
both_right (Some line) fs h = absurd (no_main line (first_place fs) h)

pub unit_right : (tree : t.Tree) (program : Program) → IsProgramOf tree program → (main_fault tree.items ≡ None) × (placed_faults tree ≡ [])
unit_right tree program h =
    let q = both_right (main_fault tree.items) (deletes_faults tree program) (sym (ap (first_of tree) h.0) ∙ h.1) in
    (q.0, no_faults (placed_faults tree) (sym (same_faults tree program h.0) ∙ q.1))

pub right_program : (tree : t.Tree) (program : Program) → Typed tree program → main_fault tree.items ≡ None → placed_faults tree ≡ [] → IsProgramOf tree program
right_program tree program h main places = (h, ap (first_of tree) h ∙ ap (λ m. main_or m (first_place (deletes_faults tree program))) main ∙ ap first_place (same_faults tree program h ∙ ap (map without_place) places))

pub files_show : (trees : List t.Tree) (earlier : List t.Item) (file : ℕ) → Every IsUnit trees → clashes earlier file trees ≡ None → FilesShow earlier trees
files_show [] earlier file units h = tt
files_show (tree ∷ trees) earlier file units h =
    let q = neither (clash_in earlier file tree.items) (clashes (earlier ++ tree.items) (suc file) trees) h in
    (record { file = context_of (tree.items ++ stubs units.0.line tree); structs = unit_structs tree units.0; apart = apart earlier file tree.items q.0 }, files_show trees (earlier ++ tree.items) (suc file) units.1 q.1)

module _ (every : List t.Item) where
  pub files_fit : (trees : List t.Tree) (earlier : List t.Item) (file : ℕ) → Every IsUnit trees → clashes earlier file trees ≡ None → missing_of (function_names every) file trees ≡ None → AreCovered (struct_definitions every) (earlier ++ all_items trees) → FilesFit (context_of every) earlier trees
  files_fit [] earlier file units h k c = tt
  files_fit (tree ∷ trees) earlier file units h k c =
      let q = neither (clash_in earlier file tree.items) (clashes (earlier ++ tree.items) (suc file) trees) h in
      let r = neither (missing_in (function_names every) file (calls_in_items tree.items)) (missing_of (function_names every) (suc file) trees) k in
      let line = units.0.line in
      let mine : AreCovered (struct_definitions every) tree.items = λ i m. c i (in_second i earlier (tree.items ++ all_items trees) (in_first i tree.items (all_items trees) m)) in (
        record {
          stubs = stubs line tree;
          functions = all_functions line tree;
          held = unit_held tree units.0;
          in_place = (unit_right (stubbed line tree) units.0.program units.0.typed).1;
          ren = ren tree.items (stubs line tree) (all_functions line tree) every (unit_structs tree units.0) mine;
          agree = agreed tree.items (stubs line tree) (all_functions line tree) every (unit_structs tree units.0) mine;
          apart = apart earlier file tree.items q.0;
          calls = all_called (function_names every) file (calls_in_items tree.items) r.0;
        },
        files_fit trees (earlier ++ tree.items) (suc file) units.1 q.1 r.1 (subst (AreCovered (struct_definitions every)) (sym (append_assoc earlier tree.items (all_items trees))) c),
      )

not_large : (b : Bool) (x : LinkRefusal) → (if b then Some x else None) ≡ None → b ≡ false
not_large true x h = absurd (some_none x h)
not_large false x h = refl

at_most : (m n : ℕ) → nat_lt m n ≡ false → n ≤ m
at_most m n h = grind (arith, nat_tests)

pub linked_typed : (trees : List t.Tree) → Every IsUnit trees → link_refusal trees ≡ None → (program : Program) × Typed (joined trees) program × (placed_faults (joined trees) ≡ [])
linked_typed trees units h =
    let q = neither (clashes [] 1 trees) (or_else (missing_of (function_names (all_items trees)) 1 trees) (or_else (entry_of trees) (large_of trees))) h in
    let r = neither (missing_of (function_names (all_items trees)) 1 trees) (or_else (entry_of trees) (large_of trees)) q.1 in
    let s = neither (entry_of trees) (large_of trees) r.1 in
    let every = (joined trees).items in
    let functions : function_names every ≡ function_names (all_items trees) = same_functions trees [] 0 [] in
    let covered = cover_files trees [] 0 [] (λ x. refl) (λ i m. absurd m) (files_show trees [] 1 units q.0) in
    joined_typed trees
    (files_fit every trees [] 1 units q.0 (subst (λ x. missing_of x 1 trees ≡ None) (sym functions) r.0) covered)
    (at_most 1048576 (cells_of (joined trees)) (not_large (nat_lt 1048576 (cells_of (joined trees))) _ s.1))
