-- Two places of one type in one element are the same, or share no cell.
use Rattle.std.proofs.Common.{◌≡◌, ◌<◌, ◌≤◌, ◌+◌, ◌*◌, ℕ, zero, suc, List, [], ◌∷◌, length, take, flat_map, slice_get, Option, Some, None, refl, sym, ap, ◌∙◌, subst, ◌⊎◌, inl, inr, arith, length-append}
use Rattle.rc_core.specs.Types.{Ty, int, unsigned, char, region, struct, pointer}
use Rattle.rc_core.specs.Programs.{Field, Struct}
use Rattle.rc_core.specs.Layout.{cells, copies, field_cells, layouts_of, fields_of, offset, field_at, stride_in, stride, size}
use Rattle.rc_core.specs.WellTyped.{IsInside, elements, StructsFit}
use Rattle.rc_core.proofs.LayoutLaws.{rank}
use Rattle.rc_kinds.specs.Copies.{Apart}
use Rattle.rc_kinds.proofs.Zips.{copy_stands}
use Rattle.rc_kinds.proofs.Operations.{stands_ends}
use Rattle.rc_kinds.proofs.Places.{Into, Reaches, start, reached_cell}
use Rattle.rc_kinds.proofs.Paths.{there, in_struct}

before_next : {A B : Type 0} (f : A → List B) (xs : List A) (i j : ℕ) (x : A) → slice_get xs i ≡ Some x → i < j → length (flat_map f (take i xs)) + length (f x) ≤ length (flat_map f (take j xs))
before_next f [] i j x e h = cc
before_next f (a ∷ xs) i zero x e h = absurd (omega (arith, h))
before_next f (a ∷ xs) zero (suc j) x e h = let q : length (f a) ≡ length (f x) = ap (λ b. length (f b)) (let r : a ≡ x = cc in r) in omega (arith, q, length-append (f a) (flat_map f (take j xs)))
before_next f (a ∷ xs) (suc i) (suc j) x e h = let r = before_next f xs i j x e (omega (arith, h)) in omega (arith, r, length-append (f a) (flat_map f (take i xs)), length-append (f a) (flat_map f (take j xs)))

pub order : (a b : ℕ) → (a ≡ b) ⊎ ((a < b) ⊎ (b < a))
order zero zero = inl refl
order zero (suc b) = inr (inl (omega arith))
order (suc a) zero = inr (inr (omega arith))
order (suc a) (suc b) = by (order a b)
  where
    by : (a ≡ b) ⊎ ((a < b) ⊎ (b < a)) → (suc a ≡ suc b) ⊎ ((suc a < suc b) ⊎ (suc b < suc a))
    by (inl e) = inl (ap suc e)
    by (inr (inl h)) = inr (inl (omega (arith, h)))
    by (inr (inr h)) = inr (inr (omega (arith, h)))

pub times : (a b n : ℕ) → a < b → a * n + n ≤ b * n
times a zero n h = absurd (omega (arith, h))
times zero (suc b) n h = omega arith
times (suc a) (suc b) n h = let r = times a b n (omega (arith, h)) in omega (arith, r)

rank_inside : (n : ℕ) (t : Ty) → IsInside n t → rank t ≤ n
rank_inside n int h = omega arith
rank_inside n unsigned h = omega arith
rank_inside n char h = omega arith
rank_inside n region h = omega arith
rank_inside n (struct k) h = omega (arith, h)
rank_inside n (pointer note target) h = omega arith

module _ (structs : List Struct) (fit : StructsFit structs) where
  -- one element of the field, within the field
  copy_ends : (d : Field) (index : ℕ) → index < elements d.count → index * size structs d.ty + size structs d.ty ≤ length (copies d.count (cells structs d.ty))
  copy_ends d index h = by d.count h
    where
      by : (c : Option ℕ) → index < elements c → index * size structs d.ty + size structs d.ty ≤ length (copies c (cells structs d.ty))
      by None h = let z : index ≡ 0 = omega (arith, h) in subst (λ i. i * size structs d.ty + size structs d.ty ≤ length (cells structs d.ty)) (sym z) (omega arith)
      by (Some n) h = stands_ends (copies (Some n) (cells structs d.ty)) (cells structs d.ty) (index * size structs d.ty) (copy_stands (cells structs d.ty) n index (index * size structs d.ty) h refl)

  stride_is : (s f : ℕ) (d : Field) → field_at structs s f ≡ Some d → stride structs s f ≡ size structs d.ty
  stride_is s f d e = ap (stride_in structs) e

  start_ends : (i : Into) (d : Field) → field_at structs i.structure i.field ≡ Some d → i.index < elements d.count → start structs i + size structs d.ty ≤ offset structs i.structure i.field + length (copies d.count (cells structs d.ty))
  start_ends i d e h = let a = copy_ends d i.index h in let b : i.index * stride structs i.structure i.field ≡ i.index * size structs d.ty = ap (λ n. i.index * n) (stride_is i.structure i.field d e) in omega (arith, a, b)

  -- a place lies in what it is reached from
  pub reached_ends : (p : List Into) (u t : Ty) → Reaches structs p u t → reached_cell structs p + size structs t ≤ size structs u
  reached_ends [] u t h = subst (λ x. 0 + size structs t ≤ size structs x) (sym h) (omega arith)
  reached_ends (i ∷ p) u t h =
      let a = reached_ends p h.0.ty t h.1.3 in
      let b = start_ends i h.0 h.1.1 h.1.2 in
      let c = stands_ends (cells structs (struct i.structure)) (copies h.0.count (cells structs h.0.ty)) (offset structs i.structure i.field) (in_struct structs fit i.structure i.field h.0 h.1.1) in
      subst (λ x. start structs i + reached_cell structs p + size structs t ≤ size structs x) (sym h.1.0) (omega (arith, a, b, c))

  inside_field : (s f : ℕ) (d : Field) → field_at structs s f ≡ Some d → rank d.ty < rank (struct s)
  inside_field s f d e = let r = rank_inside s d.ty ((fit s (fields_of structs s) (there structs s f d e)).fields_fit f d e).inside in omega (arith, r)

  rank_falls : (p : List Into) (u t : Ty) → Reaches structs p u t → rank t ≤ rank u
  rank_falls [] u t h = subst (λ x. rank t ≤ rank x) (sym h) (omega arith)
  rank_falls (i ∷ p) u t h = let a = rank_falls p h.0.ty t h.1.3 in let b = inside_field i.structure i.field h.0 h.1.1 in subst (λ x. rank t ≤ rank x) (sym h.1.0) (omega (arith, a, b))

  not_in_itself : (i : Into) (p : List Into) (t : Ty) → Reaches structs (i ∷ p) t t → ⊥
  not_in_itself i p t h =
      let a = rank_falls p h.0.ty t h.1.3 in
      let b = inside_field i.structure i.field h.0 h.1.1 in
      let c : rank t ≡ rank (struct i.structure) = ap rank h.1.0 in
      absurd (omega (arith, a, b, c))

  struct_number : (a b : ℕ) → struct a ≡ struct b → a ≡ b
  struct_number a b e = cc

  -- an earlier field or element ends before a later one starts
  earlier : (i j : Into) (di dj : Field) → i.structure ≡ j.structure → field_at structs i.structure i.field ≡ Some di → field_at structs j.structure j.field ≡ Some dj → i.index < elements di.count → i.field < j.field → start structs i + size structs di.ty ≤ start structs j
  earlier i j di dj s ei ej hi h =
      let a = start_ends i di ei hi in
      let b = before_next (field_cells (layouts_of structs)) (fields_of structs i.structure) i.field j.field di ei h in
      let c : offset structs i.structure j.field ≡ offset structs j.structure j.field = ap (λ n. offset structs n j.field) s in
      omega (arith, a, b, c)

  next_index : (i j : Into) (di : Field) → i.structure ≡ j.structure → i.field ≡ j.field → field_at structs i.structure i.field ≡ Some di → i.index < j.index → start structs i + size structs di.ty ≤ start structs j
  next_index i j di s f e h =
      let c : start structs (record { structure = i.structure; field = i.field; index = j.index }) ≡ start structs j = ap (λ n. offset structs n i.field + j.index * stride structs n i.field) s ∙ ap (λ n. offset structs j.structure n + j.index * stride structs j.structure n) f in
      let b : stride structs i.structure i.field ≡ size structs di.ty = stride_is i.structure i.field di e in
      let m : i.index * stride structs i.structure i.field + stride structs i.structure i.field ≤ j.index * stride structs i.structure i.field = times i.index j.index (stride structs i.structure i.field) h in
      omega (arith, b, c, m)

  pub places_apart : (p q : List Into) (u t : Ty) → Reaches structs p u t → Reaches structs q u t → Apart (size structs t) (reached_cell structs p) (reached_cell structs q)
  places_apart [] [] u t hp hq = inl refl
  places_apart [] (j ∷ q) u t hp hq = absurd (not_in_itself j q t (subst (λ x. Reaches structs (j ∷ q) x t) hp hq))
  places_apart (i ∷ p) [] u t hp hq = absurd (not_in_itself i p t (subst (λ x. Reaches structs (i ∷ p) x t) hq hp))
  places_apart (i ∷ p) (j ∷ q) u t hp hq =
      let s : i.structure ≡ j.structure = struct_number i.structure j.structure (sym hp.1.0 ∙ hq.1.0) in
      by_field s (λ same. places_apart p q hp.0.ty t hp.1.3 (subst (λ d. Reaches structs q d.ty t) same hq.1.3)) (order i.field j.field)
    where
      ends_p : reached_cell structs p + size structs t ≤ size structs hp.0.ty
      ends_p = reached_ends p hp.0.ty t hp.1.3

      ends_q : reached_cell structs q + size structs t ≤ size structs hq.0.ty
      ends_q = reached_ends q hq.0.ty t hq.1.3

      shifted : start structs i ≡ start structs j → Apart (size structs t) (reached_cell structs p) (reached_cell structs q) → Apart (size structs t) (start structs i + reached_cell structs p) (start structs j + reached_cell structs q)
      shifted e (inl h) = inl (omega (arith, e, h))
      shifted e (inr (inl h)) = inr (inl (omega (arith, e, h)))
      shifted e (inr (inr h)) = inr (inr (omega (arith, e, h)))

      by_index : i.structure ≡ j.structure → i.field ≡ j.field → hq.0 ≡ hp.0 → Apart (size structs t) (reached_cell structs p) (reached_cell structs q) → (i.index ≡ j.index) ⊎ ((i.index < j.index) ⊎ (j.index < i.index)) → Apart (size structs t) (start structs i + reached_cell structs p) (start structs j + reached_cell structs q)
      by_index s f same ih (inl e) = shifted (ap (λ n. offset structs n i.field + i.index * stride structs n i.field) s ∙ ap (λ n. offset structs j.structure n + i.index * stride structs j.structure n) f ∙ ap (λ n. offset structs j.structure j.field + n * stride structs j.structure j.field) e) ih
      by_index s f same ih (inr (inl h)) = inr (inl (let a = next_index i j hp.0 s f hp.1.1 h in omega (arith, a, ends_p)))
      by_index s f same ih (inr (inr h)) = inr (inr (let a = next_index j i hq.0 (sym s) (sym f) hq.1.1 h in omega (arith, a, ends_q)))

      field_same : i.structure ≡ j.structure → i.field ≡ j.field → hq.0 ≡ hp.0
      field_same s f = let e : field_at structs i.structure i.field ≡ field_at structs j.structure j.field = ap (λ n. field_at structs n i.field) s ∙ ap (λ n. field_at structs j.structure n) f in let a : Some hp.0 ≡ Some hq.0 = sym hp.1.1 ∙ e ∙ hq.1.1 in let b : hp.0 ≡ hq.0 = cc in sym b

      by_field : i.structure ≡ j.structure → (hq.0 ≡ hp.0 → Apart (size structs t) (reached_cell structs p) (reached_cell structs q)) → (i.field ≡ j.field) ⊎ ((i.field < j.field) ⊎ (j.field < i.field)) → Apart (size structs t) (start structs i + reached_cell structs p) (start structs j + reached_cell structs q)
      by_field s ih (inl f) = by_index s f (field_same s f) (ih (field_same s f)) (order i.index j.index)
      by_field s ih (inr (inl h)) = inr (inl (let a = earlier i j hp.0 hq.0 s hp.1.1 hq.1.1 hp.1.2 h in omega (arith, a, ends_p)))
      by_field s ih (inr (inr h)) = inr (inr (let a = earlier j i hq.0 hp.0 (sym s) hq.1.1 hp.1.1 hq.1.2 h in omega (arith, a, ends_q)))
