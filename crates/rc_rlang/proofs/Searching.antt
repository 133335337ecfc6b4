-- A list that increases has each number at one place, and the order of places is that of numbers.
use Rattle.std.proofs.Common.{◌≡◌, ℕ, zero, suc, ◌+◌, ◌<◌, ◌≤◌, Bool, true, false, nat_eq, List, [], ◌∷◌, ◌++◌, map, length, Some, refl, sym, ap, ◌∙◌, subst, arith}
use Rattle.std.specs.Prelude.{slice_get, slice_set}
use Rattle.std.specs.List.{AllByRecursion as Every}
use Rattle.std.proofs.Common.{◌⊎◌, inl, inr}
use Rattle.std.proofs.lemmas.Bool.{eqb-true}
use Rattle.std.proofs.lemmas.Option.{same_Some}
use Rattle.rc_rlang.specs.declared.live_map.Held.{Held as CodeHeld}
use Rattle.rc_rlang.specs.LiveLists.{Held}
use Rattle.rc_rlang.specs.LiveMaps.{Increases, IsIncreasing, IsMap, point_in, held_of, chosen_list, list_at, added_if, added_at, with_listed, IsGreater}

-- each is at least the first bound
pub at_least : (from : ℕ) (xs : List ℕ) (i x : ℕ) → Increases from xs → slice_get xs i ≡ Some x → from ≤ x
at_least from [] i x g e = cc
at_least from (y ∷ xs) zero x g e = let q : y ≡ x = cc in omega (arith, g.0, q)
at_least from (y ∷ xs) (suc i) x g e = let l = at_least (suc y) xs i x g.1 e in let m = g.0 in omega (arith, l, m)

pub in_order : (from : ℕ) (xs : List ℕ) (i j x y : ℕ) → Increases from xs → slice_get xs i ≡ Some x → slice_get xs j ≡ Some y → i < j → x < y
in_order from [] i j x y g e d l = cc
in_order from (z ∷ xs) zero zero x y g e d l = absurd (omega (arith, l))
in_order from (z ∷ xs) zero (suc j) x y g e d l = let q : z ≡ x = cc in let m = at_least (suc z) xs j y g.1 d in omega (arith, q, m)
in_order from (z ∷ xs) (suc i) zero x y g e d l = absurd (omega (arith, l))
in_order from (z ∷ xs) (suc i) (suc j) x y g e d l = in_order (suc z) xs i j x y g.1 e d (omega (arith, l))

-- the entry of a point stands at a place from `low` on, before `high`
pub record Between (lists : List CodeHeld) (point low high : ℕ) : Type 0 where
  pub place : ℕ
  pub entry : CodeHeld
  pub there : slice_get lists place ≡ Some entry
  pub is : entry.point ≡ point
  pub list : list_at (map held_of lists) point ≡ Some entry.locals.items
  pub low_enough : low ≤ place
  pub high_enough : place < high
  pub inside : high ≤ length lists

later_entry : (h : CodeHeld) (hs : List CodeHeld) (point : ℕ) → nat_eq h.point point ≡ false → Between hs point 0 (length hs) → Between (h ∷ hs) point 0 (length (h ∷ hs))
later_entry h hs point e b =
    let high = b.high_enough in
    record { place = suc b.place; entry = b.entry; there = b.there; is = b.is; list = ap (λ t. chosen_list t h.locals.items (list_at (map held_of hs) point)) e ∙ b.list; low_enough = omega arith; high_enough = omega (arith, high); inside = omega arith }

pub entry_of : (lists : List CodeHeld) (point : ℕ) (locals : List ℕ) → list_at (map held_of lists) point ≡ Some locals → Between lists point 0 (length lists)
entry_of [] point locals e = cc
entry_of (h ∷ hs) point locals e = by (nat_eq h.point point) refl (λ d. entry_of hs point locals d)
  where
    by : (t : Bool) → nat_eq h.point point ≡ t → (list_at (map held_of hs) point ≡ Some locals → Between hs point 0 (length hs)) → Between (h ∷ hs) point 0 (length (h ∷ hs))
    by true q others = record { place = 0; entry = h; there = refl; is = eqb-true h.point point q; list = ap (λ t. chosen_list t h.locals.items (list_at (map held_of hs) point)) q; low_enough = omega arith; high_enough = omega arith; inside = omega arith }
    by false q others = later_entry h hs point q (others (sym (ap (λ t. chosen_list t h.locals.items (list_at (map held_of hs) point)) q) ∙ e))

point_there : (lists : List CodeHeld) (i : ℕ) (h : CodeHeld) → slice_get lists i ≡ Some h → slice_get (map point_in (map held_of lists)) i ≡ Some h.point
point_there [] i h e = cc
point_there (x ∷ xs) zero h e = ap (λ y. Some y.point) (same_Some x h e)
point_there (x ∷ xs) (suc i) h e = point_there xs i h e

module _ (lists : List CodeHeld) (point low high middle : ℕ) (m : IsMap (map held_of lists)) (b : Between lists point low high) (h : CodeHeld) (there : slice_get lists middle ≡ Some h) where
  before_middle : b.place < middle → point < h.point
  before_middle l = let e = b.is in let o = in_order 0 (map point_in (map held_of lists)) b.place middle b.entry.point h.point m.points (point_there lists b.place b.entry b.there) (point_there lists middle h there) l in omega (arith, e, o)

  past_middle : middle < b.place → h.point < point
  past_middle l = let e = b.is in let o = in_order 0 (map point_in (map held_of lists)) middle b.place h.point b.entry.point m.points (point_there lists middle h there) (point_there lists b.place b.entry b.there) l in omega (arith, e, o)

  at_middle : middle ≡ b.place → h.point ≡ point
  at_middle e = ap (λ x. x.point) (same_Some h b.entry (sym there ∙ ap (λ i. slice_get lists i) e ∙ b.there)) ∙ b.is

  order : (middle < b.place) ⊎ ((middle ≡ b.place) ⊎ (b.place < middle))
  order = grind arith

  pub upper : h.point ≤ point → Between lists point middle high
  upper l = by order
    where
      from_middle : middle ≤ b.place → Between lists point middle high
      from_middle k = record { place = b.place; entry = b.entry; there = b.there; is = b.is; list = b.list; low_enough = k; high_enough = b.high_enough; inside = b.inside }

      by : (middle < b.place) ⊎ ((middle ≡ b.place) ⊎ (b.place < middle)) → Between lists point middle high
      by (inl k) = from_middle (omega (arith, k))
      by (inr (inl k)) = from_middle (omega (arith, k))
      by (inr (inr k)) = let o = before_middle k in absurd (omega (arith, o, l))

  pub lower : point < h.point → middle ≤ high → Between lists point low middle
  lower l i = by order
    where
      by : (middle < b.place) ⊎ ((middle ≡ b.place) ⊎ (b.place < middle)) → Between lists point low middle
      by (inl k) = let o = past_middle k in absurd (omega (arith, o, l))
      by (inr (inl k)) = let o = at_middle k in absurd (omega (arith, o, l))
      by (inr (inr k)) = let n = b.inside in record { place = b.place; entry = b.entry; there = b.there; is = b.is; list = b.list; low_enough = b.low_enough; high_enough = k; inside = omega (arith, i, n) }

pub is_entry : (lists : List CodeHeld) (point low high : ℕ) (b : Between lists point low high) → high ≤ low + 1 → (h : CodeHeld) → slice_get lists low ≡ Some h → h ≡ b.entry
is_entry lists point low high b l h e =
    let p = b.low_enough in
    let q = b.high_enough in
    let same : low ≡ b.place = omega (arith, l, p, q) in
    same_Some h b.entry (sym e ∙ ap (λ i. slice_get lists i) same ∙ b.there)

-- an entry with a local more

untouched : (point local from : ℕ) (hs : List Held) → point < from → Increases from (map point_in hs) → with_listed point local hs ≡ hs
untouched point local from [] l g = refl
untouched point local from (h ∷ hs) l g = ap (λ t. added_with t ∷ with_listed point local hs) (apart h.point point (let m = g.0 in omega (arith, l, m))) ∙ ap (λ t. h ∷ t) (untouched point local (suc h.point) hs (let m = g.0 in omega (arith, l, m)) g.1)
  where
    added_with : Bool → Held
    added_with t = record { point = h.point; locals = added_if t local h.locals }

    apart : (a b : ℕ) → b < a → nat_eq a b ≡ false
    apart a b m = grind (arith, m)

snoc_increases : (from local : ℕ) (xs : List ℕ) → from ≤ local → Every (λ x. x < local) xs → Increases from xs → Increases from (xs ++ local ∷ [])
snoc_increases from local [] l e g = (l, tt)
snoc_increases from local (x ∷ xs) l e g = (g.0, snoc_increases (suc x) local xs e.0 e.1 g.1)

same_points : (point local : ℕ) (hs : List Held) → map point_in (with_listed point local hs) ≡ map point_in hs
same_points point local [] = refl
same_points point local (h ∷ hs) = ap (λ t. h.point ∷ t) (same_points point local hs)

increase_still : (point local from : ℕ) (hs : List Held) (locals : List ℕ) → list_at hs point ≡ Some locals → Every (λ x. x < local) locals → Increases from (map point_in hs) → Every (λ h. IsIncreasing h.locals) hs → Every (λ h. IsIncreasing h.locals) (with_listed point local hs)
increase_still point local from [] locals e above g all = tt
increase_still point local from (h ∷ hs) locals e above g all = by (nat_eq h.point point) refl (λ d. increase_still point local (suc h.point) hs locals d above g.1 all.1)
  where
    Good : List Held → Type 0
    Good ls = Every (λ h. IsIncreasing h.locals) ls

    by : (t : Bool) → nat_eq h.point point ≡ t → (list_at hs point ≡ Some locals → Good (with_listed point local hs)) → Good (with_listed point local (h ∷ hs))
    by true q others =
        let same : h.locals ≡ locals = same_Some h.locals locals (sym (ap (λ t. chosen_list t h.locals (list_at hs point)) q) ∙ e) in
        let is = eqb-true h.point point q in (
          subst (λ t. IsIncreasing (added_if t local h.locals)) (sym q) (snoc_increases 0 local h.locals (omega arith) (subst (λ l. Every (λ x. x < local) l) (sym same) above) all.0),
          subst Good (sym (untouched point local (suc h.point) hs (omega (arith, is)) g.1)) all.1,
        )
    by false q others = (
      subst (λ t. IsIncreasing (added_if t local h.locals)) (sym q) all.0,
      others (sym (ap (λ t. chosen_list t h.locals (list_at hs point)) q) ∙ e),
    )

pub listed_is_map : (point local : ℕ) (lists : List Held) → IsMap lists → IsGreater lists point local → IsMap (with_listed point local lists)
listed_is_map point local lists m g = record { points = subst IsIncreasing (sym (same_points point local lists)) m.points; locals = increase_still point local 0 lists g.locals g.there g.above m.points m.locals }

pub set_same : (items : List CodeHeld) (i : ℕ) (h x : CodeHeld) → slice_get items i ≡ Some h → held_of x ≡ held_of h → map held_of (slice_set items i x) ≡ map held_of items
set_same [] i h x e q = cc
set_same (y ∷ ys) zero h x e q = ap (λ t. t ∷ map held_of ys) (q ∙ ap held_of (sym (same_Some y h e)))
set_same (y ∷ ys) (suc i) h x e q = ap (λ t. held_of y ∷ t) (set_same ys i h x e q)

pub set_listed : (from : ℕ) (items : List CodeHeld) (i point local : ℕ) (h x : CodeHeld) → Increases from (map point_in (map held_of items)) → slice_get items i ≡ Some h → h.point ≡ point →
    held_of x ≡ record { point = h.point; locals = h.locals.items ++ local ∷ [] } → map held_of (slice_set items i x) ≡ with_listed point local (map held_of items)
set_listed from [] i point local h x g e p q = cc
set_listed from (y ∷ ys) zero point local h x g e p q =
    let s = same_Some y h e in
    let is : y.point ≡ point = ap (λ t. t.point) s ∙ p in
    let new : held_of x ≡ added_at point local (held_of y) = q ∙ ap (λ t. with_one (held_of t)) (sym s) ∙ ap (λ t. record { point = y.point; locals = added_if t local y.locals.items }) (sym (equal y.point point is)) in
    ap (λ t. t ∷ map held_of ys) new ∙ ap (λ t. added_at point local (held_of y) ∷ t) (sym (untouched point local (suc y.point) (map held_of ys) (omega (arith, is)) g.1))
  where
    with_one : Held → Held
    with_one t = record { point = t.point; locals = t.locals ++ local ∷ [] }

    equal : (a b : ℕ) → a ≡ b → nat_eq a b ≡ true
    equal a b m = grind (arith, m)
set_listed from (y ∷ ys) (suc i) point local h x g e p q =
    let less : y.point < point = (let m = at_least (suc y.point) (map point_in (map held_of ys)) i h.point g.1 (point_there ys i h e) in omega (arith, m, p)) in
    ap (λ t. held_of y ∷ t) (set_listed (suc y.point) ys i point local h x g.1 e p q) ∙ ap (λ t. record { point = y.point; locals = added_if t local y.locals.items } ∷ with_listed point local (map held_of ys)) (sym (apart y.point point less))
  where
    apart : (a b : ℕ) → a < b → nat_eq a b ≡ false
    apart a b m = grind (arith, m)

-- the list of a point increases
pub list_increases : (lists : List Held) (point : ℕ) (locals : List ℕ) → IsMap lists → list_at lists point ≡ Some locals → IsIncreasing locals
list_increases lists point locals m e = listed lists m.locals e
  where
    listed : (hs : List Held) → Every (λ h. IsIncreasing h.locals) hs → list_at hs point ≡ Some locals → IsIncreasing locals
    listed [] all q = cc
    listed (h ∷ hs) all q = by (nat_eq h.point point) refl (λ d. listed hs all.1 d)
      where
        by : (t : Bool) → nat_eq h.point point ≡ t → (list_at hs point ≡ Some locals → IsIncreasing locals) → IsIncreasing locals
        by true d others = subst IsIncreasing (same_Some h.locals locals (sym (ap (λ t. chosen_list t h.locals (list_at hs point)) d) ∙ q)) all.0
        by false d others = others (sym (ap (λ t. chosen_list t h.locals (list_at hs point)) d) ∙ q)
