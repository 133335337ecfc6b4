-- Items of earlier files, kept by their names: of those that clash with the same items one is enough.
use Rattle.std.specs.Prelude.{◌≡◌, ℕ, List, [], ◌∷◌, Some, None, Bool, false, ◌&&◌, length, if◌then◌else◌}
use Rattle.std.specs.Str.{bytes_eq}
use Rattle.rc_syntax.specs.declared.tree.Name.{Name}
use Rattle.rc_syntax.specs.Tree as t
use Rattle.rc_deletes.specs.Items.{same_bool}
use Rattle.rc_linking.specs.Clash.{same_fields, same_params, same_result, disagrees, doubles, any}

abbrev pub name_of : t.Item → Name
name_of (t.struct at name fields) = name
name_of (t.global at ty name count c) = name
name_of (t.function at deletes result name params body) = name

-- what clashes with the second clashes with the first
abbrev pub covers : (first second : t.Item) → Bool
covers (t.struct a name fields) (t.struct b other others) = bytes_eq name.text other.text && same_fields fields others
covers (t.function a deletes result name params (Some body)) (t.function b also given other others code) =
    bytes_eq name.text other.text && (same_bool deletes also && (same_result result given && same_params params others))
covers (t.function a deletes result name params None) (t.function b also given other others None) =
    bytes_eq name.text other.text && (same_bool deletes also && (same_result result given && same_params params others))
covers (t.global a ty name count c) (t.global b type other length initial) = bytes_eq name.text other.text
covers i j = false

-- the items that are kept of a name
abbrev pub kept_of : (names : List (List ℕ)) → (kept : List (List t.Item)) → List ℕ → List t.Item
kept_of [] kept name = []
kept_of (n ∷ names) [] name = []
kept_of (n ∷ names) (items ∷ kept) name = if bytes_eq name n then items else kept_of names kept name

-- they clash with the same items as all items before
pub record StandFor (names : List (List ℕ)) (kept : List (List t.Item)) (earlier : List t.Item) : Type 0 where
  pub aligned : length names ≡ length kept
  pub disagree : (j : t.Item) → any (λ i. disagrees i j) (kept_of names kept (name_of j).text) ≡ any (λ i. disagrees i j) earlier
  pub double : (j : t.Item) → any (λ i. doubles i j) (kept_of names kept (name_of j).text) ≡ any (λ i. doubles i j) earlier
