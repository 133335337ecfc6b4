-- A deletion that looks at every cell agrees with one that counts: of the cells that aren't counted none names r.
use Rattle.std.proofs.Common.{◌≡◌, ℕ, zero, suc, ◌+◌, Bool, true, false, not, ◌||◌, ◌&&◌, nat_eq, cond, if◌then◌else◌, List, [], ◌∷◌, ◌++◌, map, zip, flat_map, filter, refl, sym, ap, ◌∙◌, subst, arith, rules}
use Rattle.std.specs.List.{AllByRecursion as Every, AllZip, sum_by, count_by}
use Rattle.std.proofs.lemmas.List.Sums.{sum_by-cons, sum_by-append}
use Rattle.rc_core.specs.declared.ty.Note.{Note}
use Rattle.rc_core.specs.declared.ty.Note.TheVariants.{Plain, SameRegion, ParentPtr, Traditional}
use Rattle.rc_core.specs.Types.{CellKind, int_cell, unsigned_cell, char_cell, region_cell, pointer_cell}
use Rattle.rc_core.specs.Layout.{is_counted}
use Rattle.rc_core.specs.Heap.{Value, Number, Null, Handle, Pointer, Object, Region, Heap, region_at, live, parent, names, is_fresh, is_above_within, fits, kinds_of}
use Rattle.rc_core.specs.Store.{object_refs, view_refs, refs_outside, refs}
use Rattle.rc_core.specs.Source.{World, has_child, values_of, values_outside, references, is_empty}
use Rattle.rc_safety.specs.Soundness.{CellIsSound, ObjectIsSound, HeapIsSound}
use Rattle.rc_safety.proofs.Heaps.{parent_is_live}
use Rattle.rc_safety.proofs.Killed.{NamesNot, none_kept, empty_is_nil}
use Rattle.rc_code.specs.Running.{storage_of}
use Rattle.rc_code.specs.Soundness.{operand_kind}
use Rattle.rc_worlds.specs.Worlds.{Compared, model, named_cell, renamed, seen}
use Rattle.rc_worlds.specs.Typed.{Suits, Stored, ObjectIsTyped, RegionIsTyped, HeapIsTyped}
use Rattle.rc_worlds.proofs.Looks.{counted_named, kinds_renamed}

or_false : (a b : Bool) → (a || b) ≡ false → (a ≡ false) × (b ≡ false)
or_false true b e = cc
or_false false b e = (refl, e)

pub not_child : (r : ℕ) (heap : Heap) → has_child r heap ≡ false → (q : ℕ) → live heap q ≡ true → nat_eq (parent heap q) r ≡ false
not_child r [] none q l = cc
not_child r (g ∷ heap) none zero l = ap (λ b. b && nat_eq g.parent r) (sym l) ∙ (or_false (g.alive && nat_eq g.parent r) _ none).0
not_child r (g ∷ heap) none (suc q) l = not_child r heap (or_false (g.alive && nat_eq g.parent r) _ none).1 q l

pub turned : (a b : ℕ) → nat_eq a b ≡ false → nat_eq b a ≡ false
turned a b e = search rules

-- a region without a live child is above no other live one
pub above_none : (heap : Heap) → HeapIsSound heap → (r : ℕ) → has_child r heap ≡ false → (steps q : ℕ) → live heap q ≡ true → nat_eq q r ≡ false → is_above_within (parent heap) steps r q ≡ false
above_none heap sound r childless zero q l apart = turned q r apart
above_none heap sound r childless (suc steps) q l apart =
    ap (λ b. b || (not (nat_eq q 0) && is_above_within (parent heap) steps r (parent heap q))) (turned q r apart)
    ∙ ap (λ b. not (nat_eq q 0) && b) (above_none heap sound r childless steps (parent heap q) (parent_is_live heap sound q l) (not_child r heap childless q l))
    ∙ nothing (not (nat_eq q 0))
  where
    nothing : (b : Bool) → (b && false) ≡ false
    nothing true = refl
    nothing false = refl

-- what a region stands for in the two decisions
pub record Outside (heap : Heap) (r q : ℕ) : Type 0 where
  pub sound : HeapIsSound heap
  pub inner : nat_eq r 0 ≡ false
  pub childless : has_child r heap ≡ false
  pub alive : live heap q ≡ true
  pub apart : nat_eq q r ≡ false

same_is_not : (r q s : ℕ) → nat_eq q r ≡ false → nat_eq s q ≡ true → nat_eq s r ≡ false
same_is_not r q s apart e = let is : s ≡ q = search rules in subst (λ i. nat_eq i r ≡ false) (sym is) apart

module _ (image : Compared) (heap : Heap) (r q : ℕ) (out : Outside heap r q) where
  -- it may stand in a cell of q with an annotation: then it does not name r
  fitting_apart : (note : Note) (s : ℕ) → fits (parent heap) note q (Handle s) ≡ true → (note ≡ Plain → ⊥) → nat_eq s r ≡ false
  fitting_apart Plain s fit noted = absurd (noted refl)
  fitting_apart SameRegion s fit noted = same_is_not r q s out.apart fit
  fitting_apart Traditional s fit noted = same_is_not r 0 s (turned r 0 out.inner) fit
  fitting_apart ParentPtr s fit noted = by (nat_eq s r) refl
    where
      by : (b : Bool) → nat_eq s r ≡ b → b ≡ false
      by false e = refl
      by true e =
          let is : s ≡ r = search rules in
          let not_above = above_none heap out.sound r out.childless q q out.alive out.apart in
          let above = subst (λ i. is_above_within (parent heap) q i q ≡ true) is fit in
          cc

  -- a cell that isn't counted names r no more than one that is
  cell_counts : (kind : CellKind) (v : Value) → CellIsSound (live heap) (parent heap) q kind v → Stored image heap kind v → (is_counted kind && names r v) ≡ names r v
  cell_counts region_cell v cell typed = refl
  cell_counts int_cell v cell typed = number v typed.kind.suits
    where
      number : (v : Value) → Suits image heap (operand_kind (storage_of image.code int_cell)) v → false ≡ names r v
      number (Number n) s = refl
      number Null s = refl
      number (Handle p) s = absurd s
      number (Pointer a) s = absurd s
  cell_counts unsigned_cell v cell typed = number v typed.kind.suits
    where
      number : (v : Value) → Suits image heap (operand_kind (storage_of image.code unsigned_cell)) v → false ≡ names r v
      number (Number n) s = refl
      number Null s = refl
      number (Handle p) s = absurd s
      number (Pointer a) s = absurd s
  cell_counts char_cell v cell typed = number v typed.kind.suits
    where
      number : (v : Value) → Suits image heap (operand_kind (storage_of image.code char_cell)) v → false ≡ names r v
      number (Number n) s = refl
      number Null s = refl
      number (Handle p) s = absurd s
      number (Pointer a) s = absurd s
  cell_counts (pointer_cell Plain target) v cell typed = refl
  cell_counts (pointer_cell SameRegion target) v cell typed = by v cell.fit
    where
      by : (v : Value) → fits (parent heap) SameRegion q v ≡ true → false ≡ names r v
      by (Number n) e = refl
      by Null e = refl
      by (Handle s) e = sym (fitting_apart SameRegion s e (λ e. cc))
      by (Pointer a) e = sym (fitting_apart SameRegion a.region e (λ e. cc))
  cell_counts (pointer_cell ParentPtr target) v cell typed = by v cell.fit
    where
      by : (v : Value) → fits (parent heap) ParentPtr q v ≡ true → false ≡ names r v
      by (Number n) e = refl
      by Null e = refl
      by (Handle s) e = sym (fitting_apart ParentPtr s e (λ e. cc))
      by (Pointer a) e = sym (fitting_apart ParentPtr a.region e (λ e. cc))
  cell_counts (pointer_cell Traditional target) v cell typed = by v cell.fit
    where
      by : (v : Value) → fits (parent heap) Traditional q v ≡ true → false ≡ names r v
      by (Number n) e = refl
      by Null e = refl
      by (Handle s) e = sym (fitting_apart Traditional s e (λ e. cc))
      by (Pointer a) e = sym (fitting_apart Traditional a.region e (λ e. cc))

  cells_count : (kinds : List CellKind) (vs : List Value) → AllZip (CellIsSound (live heap) (parent heap) q) kinds vs → AllZip (Stored image heap) kinds vs
      → count_by (λ (c : CellKind × Value). is_counted c.0 && names r c.1) (zip (map (named_cell image.name) kinds) vs) ≡ count_by (names r) vs
  cells_count [] [] sound typed = refl
  cells_count [] (v ∷ vs) sound typed = absurd sound
  cells_count (kind ∷ kinds) [] sound typed = absurd sound
  cells_count (kind ∷ kinds) (v ∷ vs) sound typed =
      sum_by-cons (λ (c : CellKind × Value). cond (is_counted c.0 && names r c.1) 1 0) (named_cell image.name kind, v) (zip (map (named_cell image.name) kinds) vs)
      ∙ ap (λ b. cond b 1 0 + count_by (λ (c : CellKind × Value). is_counted c.0 && names r c.1) (zip (map (named_cell image.name) kinds) vs)) (ap (λ b. b && names r v) (counted_named image.name kind) ∙ cell_counts kind v sound.0 typed.0)
      ∙ ap (λ n. cond (names r v) 1 0 + n) (cells_count kinds vs sound.1 typed.1)
      ∙ sym (sum_by-cons (λ u. cond (names r u) 1 0) v vs)

  objects_count : (os : List Object) → Every (ObjectIsSound (live heap) (parent heap) q) os → Every (ObjectIsTyped image heap) os
      → sum_by (object_refs r) (map (renamed image.name) os) ≡ count_by (names r) (flat_map (λ (o : Object). o.values) os)
  objects_count [] sound typed = refl
  objects_count (o ∷ os) sound typed =
      sum_by-cons (object_refs r) (renamed image.name o) (map (renamed image.name) os)
      ∙ ap (λ n. n + sum_by (object_refs r) (map (renamed image.name) os)) (ap (λ ks. count_by (λ (c : CellKind × Value). is_counted c.0 && names r c.1) (zip ks o.values)) (kinds_renamed image.name o.layout o.count) ∙ cells_count (kinds_of o) o.values sound.0 typed.0)
      ∙ ap (λ n. count_by (names r) o.values + n) (objects_count os sound.1 typed.1)
      ∙ sym (sum_by-append (λ u. cond (names r u) 1 0) o.values (flat_map (λ (o : Object). o.values) os))

-- so the counts of all regions but r are the values of all their cells that name r
module _ (image : Compared) (heap : Heap) (r : ℕ) (sound : HeapIsSound heap) (inner : nat_eq r 0 ≡ false) (childless : has_child r heap ≡ false) where
  region_counts : (g : Region) (q : ℕ) → region_at heap q ≡ g → RegionIsTyped image heap g → (apart : Bool) → nat_eq q r ≡ apart
      → (if apart then 0 else view_refs r ((seen image.name) g)) ≡ count_by (names r) (if apart then [] else values_of g)
  region_counts g q is typed true e = refl
  region_counts g q is typed false e = by g.alive refl
    where
      by : (b : Bool) → g.alive ≡ b → view_refs r ((seen image.name) (record g { alive = b })) ≡ count_by (names r) (values_of (record g { alive = b }))
      by false l = refl
      by true l =
          let l2 : live heap q ≡ true = ap (λ (g : Region). g.alive) is ∙ l in
          objects_count image heap r q (record { sound = sound; inner = inner; childless = childless; alive = l2; apart = e }) g.objects
          (subst (λ (g : Region). Every (ObjectIsSound (live heap) (parent heap) q) g.objects) is (sound.regions q l2).objects) typed

  views_count : (rest : Heap) (at : ℕ) → ((k : ℕ) → region_at heap (at + k) ≡ region_at rest k) → Every (RegionIsTyped image heap) rest
      → refs_outside r at (map (seen image.name) rest) ≡ count_by (names r) (values_outside r at rest)
  views_count [] at stands typed = refl
  views_count (g ∷ rest) at stands typed =
      let e : at + 0 ≡ at = omega arith in
      ap (λ n. n + refs_outside r (suc at) (map (seen image.name) rest)) (region_counts g at (ap (region_at heap) (sym e) ∙ stands 0) typed.0 (nat_eq at r) refl)
      ∙ ap (λ n. count_by (names r) (if nat_eq at r then [] else values_of g) + n) (views_count rest (suc at) (λ k. let e : suc at + k ≡ at + suc k = omega arith in ap (region_at heap) e ∙ stands (suc k)) typed.1)
      ∙ sym (sum_by-append (λ u. cond (names r u) 1 0) (if nat_eq at r then [] else values_of g) (values_outside r (suc at) rest))

-- of pinned values those that name a dead region are passed over: none of them names a live one
pub pins_count : (live : ℕ → Bool) (r : ℕ) → live r ≡ true → (vs : List Value) → count_by (names r) (filter (is_fresh live) vs) ≡ count_by (names r) vs
pins_count live r l [] = refl
pins_count live r l (v ∷ vs) = by (pins_count live r l vs) (is_fresh live v) refl
  where
    named_fresh : (v : Value) → is_fresh live v ≡ false → names r v ≡ false
    named_fresh (Number n) e = refl
    named_fresh Null e = refl
    named_fresh (Handle s) e = at (nat_eq s r) refl
      where
        at : (b : Bool) → nat_eq s r ≡ b → b ≡ false
        at false q = refl
        at true q = let is : s ≡ r = search rules in let l2 = subst (λ i. live i ≡ true) (sym is) l in cc
    named_fresh (Pointer a) e = at (nat_eq a.region r) refl
      where
        at : (b : Bool) → nat_eq a.region r ≡ b → b ≡ false
        at false q = refl
        at true q = let is : a.region ≡ r = search rules in let l2 = subst (λ i. live i ≡ true) (sym is) l in cc

    by : count_by (names r) (filter (is_fresh live) vs) ≡ count_by (names r) vs → (b : Bool) → is_fresh live v ≡ b → count_by (names r) (cond b (v ∷ filter (is_fresh live) vs) (filter (is_fresh live) vs)) ≡ count_by (names r) (v ∷ vs)
    by rest true e = sum_by-cons (λ u. cond (names r u) 1 0) v (filter (is_fresh live) vs) ∙ ap (λ n. cond (names r v) 1 0 + n) rest ∙ sym (sum_by-cons (λ u. cond (names r u) 1 0) v vs)
    by rest false e =
        let none = named_fresh v e in
        let zeroes : 0 + count_by (names r) vs ≡ count_by (names r) vs = omega arith in
        rest ∙ sym zeroes ∙ ap (λ b. cond b 1 0 + count_by (names r) vs) (sym none) ∙ sym (sum_by-cons (λ u. cond (names r u) 1 0) v vs)

not_zero : (n : ℕ) → nat_eq (suc n) 0 ≡ false
not_zero n = search rules

none_named : (p : Value → Bool) (vs : List Value) → nat_eq (count_by p vs) 0 ≡ is_empty (filter p vs)
none_named p [] = refl
none_named p (v ∷ vs) = ap (λ n. nat_eq n 0) (sum_by-cons (λ u. cond (p u) 1 0) v vs) ∙ by (none_named p vs) (p v)
  where
    by : nat_eq (count_by p vs) 0 ≡ is_empty (filter p vs) → (b : Bool) → nat_eq (cond b 1 0 + count_by p vs) 0 ≡ is_empty (cond b (v ∷ filter p vs) (filter p vs))
    by rest true = let e : 1 + count_by p vs ≡ suc (count_by p vs) = omega arith in ap (λ n. nat_eq n 0) e ∙ not_zero (count_by p vs)
    by rest false = let e : 0 + count_by p vs ≡ count_by p vs = omega arith in ap (λ n. nat_eq n 0) e ∙ rest

-- the heart: looking and counting decide alike
pub decisions_agree : (image : Compared) (w : World) (held : List Value) (r : ℕ) → HeapIsSound w.heap → HeapIsTyped image w.heap → live w.heap r ≡ true → nat_eq r 0 ≡ false → has_child r w.heap ≡ false
    → nat_eq (refs (record (model image.name w).store { pins = filter (is_fresh (live w.heap)) held ++ (model image.name w).store.pins }) r) 0 ≡ is_empty (references r held w)
decisions_agree image w held r sound typed l inner childless =
    let count = λ (vs : List Value). count_by (names r) vs in
    let f : Value → ℕ = λ u. cond (names r u) 1 0 in
    let cells : refs_outside r 0 (map (seen image.name) w.heap) ≡ count (values_outside r 0 w.heap) =
    views_count image w.heap r sound inner childless w.heap 0 (λ k. let e : 0 + k ≡ k = omega arith in ap (region_at w.heap) e) typed.regions in
    let both = sum_by-append f (filter (is_fresh (live w.heap)) held) (filter (is_fresh (live w.heap)) w.waiting) in
    let one = pins_count (live w.heap) r l held in
    let two = pins_count (live w.heap) r l w.waiting in
    let all = sum_by-append f (values_outside r 0 w.heap) (w.waiting ++ held) in
    let inside = sum_by-append f w.waiting held in
    let total : refs (record (model image.name w).store { pins = filter (is_fresh (live w.heap)) held ++ (model image.name w).store.pins }) r ≡ count (values_outside r 0 w.heap ++ (w.waiting ++ held)) = omega (arith, cells, both, one, two, all, inside) in
    ap (λ n. nat_eq n 0) total ∙ none_named (names r) (values_outside r 0 w.heap ++ (w.waiting ++ held))

-- where the count is zero, no waiting value names r
pub waiting_apart : (live : ℕ → Bool) (r : ℕ) → live r ≡ true → (held waiting : List Value) (cells : ℕ)
    → nat_eq (cells + count_by (names r) (filter (is_fresh live) held ++ filter (is_fresh live) waiting)) 0 ≡ true → Every (NamesNot r) waiting
waiting_apart live r l held waiting cells e =
    let f : Value → ℕ = λ u. cond (names r u) 1 0 in
    let both = sum_by-append f (filter (is_fresh live) held) (filter (is_fresh live) waiting) in
    let one = pins_count live r l waiting in
    let zero_sum : cells + count_by (names r) (filter (is_fresh live) held ++ filter (is_fresh live) waiting) ≡ 0 = is_zero _ e in
    let none : count_by (names r) waiting ≡ 0 = omega (arith, zero_sum, both, one) in
    none_kept (names r) waiting (empty_is_nil (filter (names r) waiting) (sym (none_named (names r) waiting) ∙ ap (λ n. nat_eq n 0) none))
  where
    is_zero : (n : ℕ) → nat_eq n 0 ≡ true → n ≡ 0
    is_zero n e = search rules
