-- A file with its stubs keeps what it keeps without them.
use Rattle.std.specs.Prelude.{◌≡◌, ℕ, suc, ◌≤◌, List, [], ◌∷◌, ◌++◌, Option, Some, None, Bool, true, false, ◌||◌, length, slice_get, if◌then◌else◌}
use Rattle.std.proofs.Common.{refl, sym, ap, ◌∙◌, subst}
use Rattle.std.proofs.lemmas.List.{append-nil}
use Rattle.rc_syntax.specs.Tree as t
use Rattle.rc_deletes.specs.Items.{is_among, function_names}
use Rattle.rc_deletes.specs.Limits.{HasFields, IsLimited, strings_of}
use Rattle.rc_judgements.proofs.Strings.{strings_in_items, strings_are}
use Rattle.rc_linking.specs.Calls.{is_built_in}
use Rattle.rc_linking.specs.Stubs.{on_line, stub_params, stubs_of, main_stub, declares_main, stubs, stubbed}
use Rattle.rc_linked_files.proofs.Fronts.{AreFunctions}
use Rattle.rc_linked_files.proofs.Linked.{all_functions}
use Rattle.rc_linked_files.proofs.Limits.{append_strings}

fields_both : (xs ys : List t.Item) → HasFields xs → AreFunctions ys → HasFields (xs ++ ys)
fields_both [] [] h k = tt
fields_both [] (t.function at deletes result name params body ∷ ys) h k = fields_both [] ys h k
fields_both [] (t.struct at name fields ∷ ys) h k = absurd k
fields_both [] (t.global at ty name count c ∷ ys) h k = absurd k
fields_both (t.struct at name fields ∷ xs) ys h k = (h.0, fields_both xs ys h.1 k)
fields_both (t.global at ty name count c ∷ xs) ys h k = fields_both xs ys h k
fields_both (t.function at deletes result name params body ∷ xs) ys h k = fields_both xs ys h k

silent_if : (b : Bool) (x : t.Item) (xs ys : List t.Item) → strings_in_items xs ≡ [] → strings_in_items (x ∷ ys) ≡ [] → strings_in_items (if b then xs else x ∷ ys) ≡ []
silent_if true x xs ys h k = h
silent_if false x xs ys h k = k

silent : (line : ℕ) (known : List (List ℕ)) (is : List t.Item) → strings_in_items (stubs_of line known is) ≡ []
silent line known [] = refl
silent line known (t.struct at name fields ∷ is) = silent line known is
silent line known (t.global at ty name count c ∷ is) = silent line known is
silent line known (t.function at deletes result name params (Some body) ∷ is) = silent line known is
silent line known (t.function at deletes result name params None ∷ is) = silent_if (is_built_in name.text || is_among known name.text) (t.function (on_line line at) deletes result name (stub_params line 0 params) (Some t.done)) (stubs_of line known is) (stubs_of line (known ++ name.text ∷ []) is) (silent line known is) (silent line (known ++ name.text ∷ []) is)

silent_main : (line : ℕ) (b : Bool) → strings_in_items (main_stub line b) ≡ []
silent_main line true = refl
silent_main line false = refl

same_strings : (line : ℕ) (tree : t.Tree) → strings_of (stubbed line tree) ≡ strings_of tree
same_strings line tree =
    let first = stubs_of line (function_names tree.items) tree.items in
    let last = main_stub line (declares_main tree.items) in
    let none : strings_in_items (stubs line tree) ≡ [] = append_strings first last ∙ ap (λ x. x ++ strings_in_items last) (silent line (function_names tree.items) tree.items) ∙ silent_main line (declares_main tree.items) in
    strings_are (stubbed line tree) ∙ append_strings tree.items (stubs line tree) ∙ ap (λ x. strings_in_items tree.items ++ x) none ∙ append-nil (strings_in_items tree.items) ∙ sym (strings_are tree)

pub stubbed_limits : (line : ℕ) (tree : t.Tree) → IsLimited tree → IsLimited (stubbed line tree)
stubbed_limits line tree h = record {
  fields = fields_both tree.items (stubs line tree) h.fields (all_functions line tree);
  number_of_strings = subst (λ x. length x ≤ 16777216) (sym (same_strings line tree)) h.number_of_strings;
  strings = subst (λ x. (k : ℕ) (bytes : List ℕ) → slice_get x k ≡ Some bytes → length bytes ≤ 1048576) (sym (same_strings line tree)) h.strings;
}
