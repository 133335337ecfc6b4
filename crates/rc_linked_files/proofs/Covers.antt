-- The definitions of all files cover the structs of each.
use Rattle.std.specs.Prelude.{◌≡◌, ◌⊎◌, ℕ, ◌+◌, ◌<◌, List, [], ◌∷◌, ◌++◌, Option, Some, None, Bool, true, false, not, is_some, ◌||◌, ◌&&◌, map, length, if◌then◌else◌}
use Rattle.std.proofs.Common.{refl, sym, ap, ◌∙◌, subst, inl, inr, append_assoc}
use Rattle.std.proofs.lemmas.List.{length-map, map-append}
use Rattle.std.proofs.lemmas.List.Quantifiers.{position-Some}
use Rattle.std.specs.Str.{bytes_eq}
use Rattle.rc_base.specs.Limits.{most_text_bytes}
use Rattle.rc_syntax.specs.declared.tree.Spot.{Spot}
use Rattle.rc_syntax.specs.declared.tree.Name.{Name}
use Rattle.rc_syntax.specs.declared.tree.Note.{Note as WrittenNote}
use Rattle.rc_syntax.specs.declared.tree.Base.{Base}
use Rattle.rc_syntax.specs.declared.tree.Base.TheVariants as base
use Rattle.rc_syntax.specs.Tree as t
use Rattle.rc_deletes.specs.Kinds.{place_of}
use Rattle.rc_deletes.specs.Scopes.{Context}
use Rattle.rc_deletes.specs.Items.{is_among, names_of, Definition, with_definition, with_structs}
use Rattle.rc_deletes.proofs.Naming.{same_name, own_name, place_new}
use Rattle.rc_deletes.proofs.Standing.{at_end}
use Rattle.rc_linking.specs.Moved.{moved_base, moved_field, moved_item, moved_items}
use Rattle.rc_linking.specs.Clash.{disagrees, same_fields}
use Rattle.rc_linking.specs.Joined.{structs_of, without, joined_behind, all_items}
use Rattle.rc_linking.proofs.Names.{Names, names_with, among_new}
use Rattle.rc_linking.proofs.Scopes.{IsIn, IsApart}
use Rattle.rc_linked_files.proofs.All.{both_structs, structs_append, or_more, or_no}
use Rattle.rc_linked_files.proofs.Structs.{no_more, not_more, fields_same, fields_moved, IsBefore, AreBefore, before_more, Covered, IsCovered, AreCovered, item_behind, IsEarlier, AreKnown, FileStructs}

abbrev pub IsStructOf : t.Item → List ℕ → Type 0
IsStructOf (t.struct at name fields) x = bytes_eq x name.text ≡ true
IsStructOf i x = ⊥

abbrev StructIn : List t.Item → List ℕ → Type 0
StructIn is x = (i : t.Item) × (IsIn i is × IsStructOf i x)

or_which : (a b : Bool) → a || b ≡ true → (a ≡ true) ⊎ (b ≡ true)
or_which true b h = inl refl
or_which false b h = inr h

later_in : (i : t.Item) (is : List t.Item) (ds : List Definition) (x : List ℕ) → (is_among (names_of ds) x ≡ true) ⊎ StructIn is x → (is_among (names_of ds) x ≡ true) ⊎ StructIn (i ∷ is) x
later_in i is ds x (inl h) = inl h
later_in i is ds x (inr h) = inr (h.0, (inr h.1.0, h.1.1))

-- a name among those of structs is that of a definition
pub struct_in : (ds : List Definition) (is : List t.Item) (x : List ℕ) → is_among (names_of (with_structs ds is)) x ≡ true → (is_among (names_of ds) x ≡ true) ⊎ StructIn is x
struct_in ds [] x h = inl h
struct_in ds (t.global at ty name count c ∷ is) x h = later_in _ is ds x (struct_in ds is x h)
struct_in ds (t.function at deletes result name params body ∷ is) x h = later_in _ is ds x (struct_in ds is x h)
struct_in ds (t.struct at name fields ∷ is) x h = one (struct_in (with_definition ds (name.text, fields)) is x h) where
  two : (is_among (names_of ds) x ≡ true) ⊎ (bytes_eq x name.text ≡ true) → (is_among (names_of ds) x ≡ true) ⊎ StructIn (t.struct at name fields ∷ is) x
  two (inl h) = inl h
  two (inr h) = inr (t.struct at name fields, (inl refl, h))

  one : (is_among (names_of (with_definition ds (name.text, fields))) x ≡ true) ⊎ StructIn is x → (is_among (names_of ds) x ≡ true) ⊎ StructIn (t.struct at name fields ∷ is) x
  one (inl h) = two (or_which (is_among (names_of ds) x) (bytes_eq x name.text) (sym (ap (λ z. is_among z x) (names_with ds (name.text, fields)) ∙ among_new (names_of ds) name.text x) ∙ h))
  one (inr h) = inr (h.0, (inr h.1.0, h.1.1))

none_of : (o : Option ℕ) → is_some o ≡ false → o ≡ None
none_of None h = refl
none_of (Some k) h = no_more h

some_of : (o : Option ℕ) → is_some o ≡ true → (k : ℕ) × (o ≡ Some k)
some_of (Some k) h = (k, refl)
some_of None h = not_more h

pub within : (names : Names) (name : List ℕ) (k : ℕ) → place_of names name ≡ Some k → k < length names
within names name k h = (position-Some (bytes_eq name) names k [] h).0

-- a new definition covers its own struct
module _ (n : ℕ) (file : Context) (ds es : List Definition) (among : (x : List ℕ) → is_among (names_of ds) x ≡ true → is_among (names_of es) x ≡ true) where
  before_by : (more : Names) (b : Base) (stars : List WrittenNote) → IsEarlier (names_of ds) b stars → IsBefore (names_of es) (length (names_of es)) (moved_base n b) stars
  before_by more (base.Struct at name) [] h = let q = some_of (place_of (names_of es) name.text) (among name.text h) in (q.0, q.1, within (names_of es) name.text q.0 q.1)
  before_by more (base.Struct at name) (m ∷ ms) h = tt
  before_by more (base.Int at) stars h = tt
  before_by more (base.Unsigned at) stars h = tt
  before_by more (base.Char at) stars h = tt
  before_by more (base.Region at) stars h = tt

  are_before : (fs : List t.Field) → AreKnown file (names_of ds) fs → AreBefore (names_of es) (length (names_of es)) (map (moved_field n) fs)
  are_before [] h = tt
  are_before (f ∷ fs) h = (before_by [] f.type_name.base f.type_name.stars h.1, are_before fs h.2)

  new_covered : (name : List ℕ) (fields : List t.Field) → is_among (names_of es) name ≡ false → AreKnown file (names_of ds) fields → Covered (with_definition es (name, map (moved_field n) fields)) name fields
  new_covered name fields h known =
      let d : Definition = (name, map (moved_field n) fields) in
      let names : names_of (es ++ d ∷ []) ≡ names_of es ++ name ∷ [] = map-append (λ d. d.0) es (d ∷ []) in
      let many : length (names_of es) ≡ length es = length-map es (λ d. d.0) in
      subst (λ b. Covered (if b then es else es ++ d ∷ []) name fields) (sym h) (record {
        l = length es;
        d = d;
        there = at_end es [] d;
        placed = ap (λ x. place_of x name) names ∙ place_new (names_of es) [] name (none_of (place_of (names_of es) name) h) ∙ ap Some many;
        shape = λ types. fields_moved types n fields;
        before = subst (λ x. AreBefore x (length es) (map (moved_field n) fields)) (sym names) (before_more (names_of es) (name ∷ []) (length es) (map (moved_field n) fields) (subst (λ l. AreBefore (names_of es) l (map (moved_field n) fields)) many (are_before fields known)));
      })

module _ (n : ℕ) (file : Context) (earlier : List t.Item) where
  abbrev Sets : List Definition → List Definition → Type 0
  Sets es ds = (x : List ℕ) → is_among (names_of es) x ≡ is_among (structs_of earlier) x || is_among (names_of ds) x

  abbrev Js : List t.Item → List t.Item
  Js is = moved_items n (without (structs_of earlier) is)

  or_true : (a b : Bool) → b ≡ true → a || b ≡ true
  or_true true b h = refl
  or_true false b h = h

  or_false : (a b : Bool) → a ≡ false → b ≡ false → a || b ≡ false
  or_false false b h k = k
  or_false true b h k = no_more h

  -- an earlier definition covers a struct that doesn't disagree with it
  old_covered : (es : List Definition) (at : Spot) (name : Name) (fields : List t.Field) → AreCovered es earlier → IsApart earlier (t.struct at name fields) → is_among (structs_of earlier) name.text ≡ true → Covered es name.text fields
  old_covered es at name fields covered apart h = which (struct_in [] earlier name.text h) where
    head : (b : Bool) → true && not b ≡ false → b ≡ true
    head true h = refl
    head false h = not_more (sym h)

    no_name : is_among [] name.text ≡ true → ⊥
    no_name h = cc

    by : (i : t.Item) → IsStructOf i name.text → IsCovered es i → disagrees i (t.struct at name fields) ≡ false → Covered es name.text fields
    by (t.struct a other fs) e c k =
        let same : name.text ≡ other.text = same_name name.text other.text e in
        let q : same_fields fs fields ≡ true = head (same_fields fs fields) (ap (λ b. b && not (same_fields fs fields)) (sym (ap (λ x. bytes_eq x name.text) (sym same) ∙ own_name name.text)) ∙ k) in
        record {
          l = c.l;
          d = c.d;
          there = c.there;
          placed = ap (place_of (names_of es)) same ∙ c.placed;
          shape = λ types. c.shape types ∙ fields_same types fs fields q;
          before = c.before;
        }
    by (t.global a ty other count c) e q k = absurd e
    by (t.function a d r other qs b) e q k = absurd e

    which : (is_among [] name.text ≡ true) ⊎ StructIn earlier name.text → Covered es name.text fields
    which (inl h) = absurd (no_name h)
    which (inr h) = by h.0 h.1.1 (covered h.0 h.1.0) (apart h.0 h.1.0).0

  or_twice : (a b c : Bool) → (c ≡ true → a ≡ true) → a || b ≡ a || (b || c)
  or_twice true b c h = refl
  or_twice false b false h = or_same b where
    or_same : (b : Bool) → b ≡ b || false
    or_same true = refl
    or_same false = refl
  or_twice false b true h = not_more (h refl)

  abbrev Result : List t.Item → List t.Item → List Definition → List Definition → Type 0
  Result is js es ds = Sets (with_structs es js) (with_structs ds is) × AreCovered (with_structs es js) is

  with_own : (i : t.Item) (is : List t.Item) (fs : List Definition) → IsCovered fs i → AreCovered fs is → AreCovered fs (i ∷ is)
  with_own i is fs h k j (inl e) = subst (IsCovered fs) e h
  with_own i is fs h k j (inr m) = k j m

  struct_case : (at : Spot) (name : Name) (fields : List t.Field) (is : List t.Item) (es ds : List Definition) (b : Bool) → is_among (structs_of earlier) name.text ≡ b →
      let i = t.struct at name fields in
      let js = moved_items n (if b then without (structs_of earlier) is else i ∷ without (structs_of earlier) is) in
      Sets es ds → AreCovered es earlier → IsApart earlier i → is_among (names_of ds) name.text ≡ false → AreKnown file (names_of ds) fields →
      ((fs : List Definition) → Sets fs (with_definition ds (name.text, fields)) → AreCovered fs earlier → Result is (Js is) fs (with_definition ds (name.text, fields))) → Result (i ∷ is) js es ds
  struct_case at name fields is es ds true e sets covered apart new known rest =
      let i = t.struct at name fields in
      let q = rest es (λ x. sets x ∙ or_twice (is_among (structs_of earlier) x) (is_among (names_of ds) x) (bytes_eq x name.text) (λ s. ap (is_among (structs_of earlier)) (same_name x name.text s) ∙ e) ∙ ap (λ z. is_among (structs_of earlier) x || z) (sym (ap (λ z. is_among z x) (names_with ds (name.text, fields)) ∙ among_new (names_of ds) name.text x))) covered in
      (q.0, with_own i is (with_structs es (Js is)) (item_behind es (Js is) i (old_covered es at name fields covered apart e)) q.1)
  struct_case at name fields is es ds false e sets covered apart new known rest =
      let i = t.struct at name fields in
      let fs = with_definition es (name.text, map (moved_field n) fields) in
      let fresh : is_among (names_of es) name.text ≡ false = sets name.text ∙ or_false (is_among (structs_of earlier) name.text) (is_among (names_of ds) name.text) e new in
      let own : IsCovered fs i = new_covered n file ds es (λ x h. sets x ∙ or_true (is_among (structs_of earlier) x) (is_among (names_of ds) x) h) name.text fields fresh known in
      let q = rest fs (λ x. ap (λ z. is_among z x) (names_with es (name.text, map (moved_field n) fields)) ∙ among_new (names_of es) name.text x ∙ ap (λ z. z || bytes_eq x name.text) (sets x) ∙ or_more (is_among (structs_of earlier) x) (is_among (names_of ds) x) (bytes_eq x name.text) ∙ ap (λ z. is_among (structs_of earlier) x || z) (sym (ap (λ z. is_among z x) (names_with ds (name.text, fields)) ∙ among_new (names_of ds) name.text x)))
      (λ j m. item_behind es (moved_item n i ∷ []) j (covered j m)) in
      (q.0, with_own i is (with_structs fs (Js is)) (item_behind fs (Js is) i own) q.1)

  pub cover_file : (is : List t.Item) (es ds : List Definition) → Sets es ds → AreCovered es earlier → ((j : t.Item) → IsIn j is → IsApart earlier j) → FileStructs file ds is → Result is (Js is) es ds
  cover_file [] es ds sets covered apart shows = (sets, λ j m. absurd m)
  cover_file (t.global at ty name count c ∷ is) es ds sets covered apart shows =
      let q = cover_file is es ds sets covered (λ j m. apart j (inr m)) shows in (q.0, with_own (t.global at ty name count c) is (with_structs es (Js is)) tt q.1)
  cover_file (t.function at deletes result name params body ∷ is) es ds sets covered apart shows =
      let q = cover_file is es ds sets covered (λ j m. apart j (inr m)) shows in (q.0, with_own (t.function at deletes result name params body) is (with_structs es (Js is)) tt q.1)
  cover_file (t.struct at name fields ∷ is) es ds sets covered apart shows =
      struct_case at name fields is es ds (is_among (structs_of earlier) name.text) refl sets covered (apart (t.struct at name fields) (inl refl)) shows.0 shows.1
      (λ fs more kept. cover_file is fs (with_definition ds (name.text, fields)) more kept (λ j m. apart j (inr m)) shows.2)

-- what a file shows behind earlier ones
pub record FileShows (earlier : List t.Item) (tree : t.Tree) : Type 0 where
  pub file : Context
  pub structs : FileStructs file [] tree.items
  pub apart : (j : t.Item) → IsIn j tree.items → IsApart earlier j

abbrev pub FilesShow : List t.Item → List t.Tree → Type 0
FilesShow earlier [] = Unit {0}
FilesShow earlier (tree ∷ trees) = FileShows earlier tree × FilesShow (earlier ++ tree.items) trees

split : (i : t.Item) (xs ys : List t.Item) → IsIn i (xs ++ ys) → IsIn i xs ⊎ IsIn i ys
split i [] ys h = inr h
split i (x ∷ xs) ys (inl h) = inl (inl h)
split i (x ∷ xs) ys (inr h) = more (split i xs ys h) where
  more : IsIn i xs ⊎ IsIn i ys → IsIn i (x ∷ xs) ⊎ IsIn i ys
  more (inl h) = inl (inr h)
  more (inr h) = inr h

covers_both : (es fs : List Definition) (xs ys : List t.Item) → AreCovered es xs → AreCovered es ys → AreCovered es (xs ++ ys)
covers_both es fs xs ys h k j m = which (split j xs ys m) where
  which : IsIn j xs ⊎ IsIn j ys → IsCovered es j
  which (inl m) = h j m
  which (inr m) = k j m

no_items : (xs : List t.Item) → xs ≡ xs ++ []
no_items [] = refl
no_items (x ∷ xs) = ap (λ ys. x ∷ ys) (no_items xs)

pub cover_files : (trees : List t.Tree) (earlier : List t.Item) (n : ℕ) (es : List Definition) → ((x : List ℕ) → is_among (names_of es) x ≡ is_among (structs_of earlier) x) → AreCovered es earlier → FilesShow earlier trees → AreCovered (with_structs es (joined_behind earlier n trees)) (earlier ++ all_items trees)
cover_files [] earlier n es sets covered shows = subst (AreCovered es) (no_items earlier) covered
cover_files (tree ∷ trees) earlier n es sets covered shows =
    let js = moved_items n (without (structs_of earlier) tree.items) in
    let later = joined_behind (earlier ++ tree.items) (n + most_text_bytes) trees in
    let q = cover_file n shows.0.file earlier tree.items es [] (λ x. sets x ∙ or_no (is_among (structs_of earlier) x)) covered shows.0.apart shows.0.structs in
    let all = cover_files trees (earlier ++ tree.items) (n + most_text_bytes) (with_structs es js) (λ x. q.0 x ∙ sym (both_structs earlier tree.items x)) (covers_both (with_structs es js) [] earlier tree.items (λ j m. item_behind es js j (covered j m)) q.1) shows.1 in
    subst (λ ds. AreCovered ds (earlier ++ (tree.items ++ all_items trees))) (sym (structs_append es js later)) (subst (AreCovered (with_structs (with_structs es js) later)) (append_assoc earlier tree.items (all_items trees)) all)
