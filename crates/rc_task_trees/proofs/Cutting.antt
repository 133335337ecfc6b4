-- Where `unsigned NAME ; void` stands in the words of a text, an item begins: what stands in front is a text of its own.
use Rattle.rc_task_trees.proofs.Common.{◌≡◌, append_assoc, append-nil, refl, ap, sym, ◌∙◌, subst, inl, inr, Word, mark, TreeOf, Placed, node, Derives, by, done, then}
use Rattle.std.proofs.Common.{List, [], ◌∷◌, ◌++◌, true, false}
use Rattle.rc_syntax.specs.Tree as t
use Rattle.rc_syntax.specs.Grammar as g
use Rattle.rc_task_trees.proofs.Apart.{is_void, is_semicolon, apart, not_apart}
use Rattle.rc_task_trees.proofs.Ends.{is_name, is_ending, is_unsigned, IsNamed, item_ends, item_named, last_on, fronts}

-- the words begin like the first item
record Begins (u n s v : Placed) : Type 0 where
  named : IsNamed u n s
  void : is_void v.word ≡ true

abbrev AText : List Placed → Type 0
AText ws = (is : List t.Item) × Derives ws (node g.Text is)

no_item : (xs : List Placed) (w : Placed) {a : TreeOf g.Item} → Derives (xs ++ w ∷ []) (node g.Item a) → is_ending w.word ≡ false → ⊥
no_item xs w d e =
    let h : true ≡ false = sym (item_ends d w.word w.word) ∙ ap (λ z. is_ending z.1) (last_on w.word w.word xs (w ∷ [])) ∙ e in cc

unsigned_ends : (w : Word) → is_unsigned w ≡ true → is_ending w ≡ false
unsigned_ends (mark x) e = absurd (cc)
unsigned_ends w e = refl

name_ends : (w : Word) → is_name w ≡ true → is_ending w ≡ false
name_ends (mark x) e = absurd (cc)
name_ends w e = refl

module _ (u n s v : Placed) (more : List Placed) (named : IsNamed u n s) (void : is_void v.word ≡ true) where
  -- the item's words go on with these front words of them
  item_not : (x : Placed) (xs as_ bs : List Placed) {a : TreeOf g.Item} → Derives (x ∷ xs ++ as_) (node g.Item a) → as_ ++ bs ≡ u ∷ n ∷ s ∷ v ∷ more → as_ ≡ []
  item_not x xs [] bs d e = refl
  item_not x xs (a1 ∷ []) bs d e = absurd (no_item (x ∷ xs) a1 d (unsigned_ends a1.word (let f : u ≡ a1 = cc in ap (λ z. is_unsigned z.word) (sym f) ∙ named.0)))
  item_not x xs (a1 ∷ a2 ∷ []) bs {a = a} d e = absurd (no_item (x ∷ xs ++ a1 ∷ []) a2 (let P : List Placed → Type 0 = λ z. Derives z (node g.Item a) in subst P (sym (append_assoc (x ∷ xs) (a1 ∷ []) (a2 ∷ []))) d) (name_ends a2.word (let f : n ≡ a2 = cc in ap (λ z. is_name z.word) (sym f) ∙ named.1)))
  item_not x xs (a1 ∷ a2 ∷ a3 ∷ []) bs d e =
      let f : u ≡ a1 = cc in
      let f2 : n ≡ a2 = cc in
      let f3 : s ≡ a3 = cc in
      let i : x ∷ xs ≡ [] = item_named d (x ∷ xs) a1 a2 a3 (ap (λ z. is_unsigned z.word) (sym f) ∙ named.0, ap (λ z. is_name z.word) (sym f2) ∙ named.1, ap (λ z. is_semicolon z.word) (sym f3) ∙ named.2) refl in
      absurd (cc)
  item_not x xs (a1 ∷ a2 ∷ a3 ∷ a4 ∷ as_) bs {a = a} d e =
      let f3 : s ≡ a3 = cc in
      let f4 : v ≡ a4 = cc in
      let P : List Placed → Type 0 = λ z. Derives z (node g.Item a) in
      absurd (not_apart false (x ∷ xs ++ a1 ∷ a2 ∷ []) as_ a3 a4 (ap (λ z. is_semicolon z.word) (sym f3) ∙ named.2) (ap (λ z. is_void z.word) (sym f4) ∙ void)
      (apart (subst P (sym (append_assoc (x ∷ xs) (a1 ∷ a2 ∷ []) (a3 ∷ a4 ∷ as_))) d) false refl))

  pub cut_from : {ws : List Placed} {is : List t.Item} → Derives ws (node g.Text is) → (front as_ bs : List Placed) → ws ≡ front ++ as_ → as_ ++ bs ≡ u ∷ n ∷ s ∷ v ∷ more → AText front
  cut_from {is = is} d front [] bs e f = let P : List Placed → Type 0 = λ z. AText z in subst P (e ∙ append-nil front) (is, d)
  cut_from (by h g.no_items done) [] (a1 ∷ as_) bs e f = ([], by {at = record { place = 0; line = 0 }} tt g.no_items done)
  cut_from (by h g.no_items done) (x ∷ front) (a1 ∷ as_) bs e f = absurd (cc)
  cut_from (by h (g.items {before = before} {is = own}) (then {xs = xs} d (then {xs = ys} c done))) front (a1 ∷ as_) bs e f =
      elim (fronts xs ys front (a1 ∷ as_) (ap (λ z. xs ++ z) (sym (append-nil ys)) ∙ e)) [
        | inl p ↦ cut_from d front p.0 (ys ++ bs) p.1 (sym (append_assoc p.0 ys bs) ∙ ap (λ z. z ++ bs) (sym p.2) ∙ f)
        | inr p ↦ (let P : List Placed → Type 0 = λ z. Derives z (node g.Item own) in let i : a1 ∷ as_ ≡ [] = item_not p.0 p.1 (a1 ∷ as_) bs (subst P p.3 c) f in absurd (cc))
      ]

-- What stands in front of such words is a text.
pub cut_front : (front : List Placed) (u n s v : Placed) (more : List Placed) → IsNamed u n s → is_void v.word ≡ true → {is : List t.Item} → Derives (front ++ u ∷ n ∷ s ∷ v ∷ more) (node g.Text is) → AText front
cut_front front u n s v more named void d = cut_from u n s v more named void d front (u ∷ n ∷ s ∷ v ∷ more) [] refl (append-nil _)
