-- The first clash of a file's items, item by item.
use Rattle.std.proofs.Common.{◌≡◌, ◌<◌, ◌≤◌, ◌+◌, ℕ, suc, zero, List, [], ◌∷◌, ◌++◌, Bool, true, false, Option, Some, None, refl, sym, ap, ◌∙◌, length, drop, drop-cons, map, arith, append_assoc, if◌then◌else◌}
use Rattle.std.specs.Prelude.{get_or, take}
use Rattle.std.proofs.lemmas.List.{map-append, take_more}
use Rattle.rc_syntax.specs.declared.tree.Item.{Item}
use Rattle.rc_syntax.specs.Shape.{item_of}
use Rattle.rc_syntax.specs.Tree as t
use Rattle.rc_linking.specs.Clash.{disagrees, doubles, any}
use Rattle.rc_linking.specs.Links.{LinkRefusal, disagree, double, or_else, line_of, clash_in}

-- it depends on what of the earlier items clashes
pub same_clash : (kept earlier : List t.Item) (file : ℕ) (j : t.Item) → any (λ i. disagrees i j) kept ≡ any (λ i. disagrees i j) earlier → any (λ i. doubles i j) kept ≡ any (λ i. doubles i j) earlier →
    clash_in kept file (j ∷ []) ≡ clash_in earlier file (j ∷ [])
same_clash kept earlier file j h k =
    ap (λ b. if b then Some (disagree file (line_of j)) else (if any (λ i. doubles i j) kept then Some (double file (line_of j)) else None)) h
    ∙ ap (λ b. if any (λ i. disagrees i j) earlier then Some (disagree file (line_of j)) else (if b then Some (double file (line_of j)) else None)) k

first_of : (a b : Bool) (x y : LinkRefusal) (rest : Option LinkRefusal) → (if a then Some x else (if b then Some y else rest)) ≡ or_else (if a then Some x else (if b then Some y else None)) rest
first_of true b x y rest = refl
first_of false true x y rest = refl
first_of false false x y rest = refl

module _ (earlier : List t.Item) (file : ℕ) where
  pub clash_at : (items : List Item) (i : ℕ) (x : Item) → i < length items → x ≡ get_or items i x →
      clash_in earlier file (map item_of (drop i items)) ≡ or_else (clash_in earlier file (item_of x ∷ [])) (clash_in earlier file (map item_of (drop (i + 1) items)))
  clash_at items i x l h =
      let front : drop i items ≡ x ∷ drop (i + 1) items = drop-cons items i x l ∙ ap (λ y. y ∷ drop (suc i) items) (sym h) ∙ ap (λ j. x ∷ drop j items) (let k : suc i ≡ i + 1 = omega arith in k) in
      ap (λ xs. clash_in earlier file (map item_of xs)) front
      ∙ first_of (any (λ i. disagrees i (item_of x)) earlier) (any (λ i. doubles i (item_of x)) earlier) (disagree file (line_of (item_of x))) (double file (line_of (item_of x))) (clash_in earlier file (map item_of (drop (i + 1) items)))

  pub clash_end : (items : List Item) (i : ℕ) → length items ≤ i → clash_in earlier file (map item_of (drop i items)) ≡ None
  clash_end [] zero l = refl
  clash_end [] (suc i) l = refl
  clash_end (x ∷ xs) zero l = absurd (omega (arith, l))
  clash_end (x ∷ xs) (suc i) l = clash_end xs i (omega (arith, l))

-- one more item behind the first ones
pub more_items : (earlier : List t.Item) (items : List Item) (i : ℕ) (x : Item) → i < length items → x ≡ get_or items i x →
    earlier ++ map item_of (take (i + 1) items) ≡ (earlier ++ map item_of (take i items)) ++ item_of x ∷ []
more_items earlier items i x l h =
    ap (λ xs. earlier ++ map item_of xs) (take_more items i x l ∙ ap (λ y. take i items ++ y ∷ []) (sym h))
    ∙ ap (λ xs. earlier ++ xs) (map-append item_of (take i items) (x ∷ []))
    ∙ sym (append_assoc earlier (map item_of (take i items)) (item_of x ∷ []))
