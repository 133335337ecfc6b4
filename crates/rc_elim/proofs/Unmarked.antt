-- Masks without a mark, and one mark more.
use Rattle.std.proofs.Common.{◌≡◌, ◌<◌, ◌∙◌, ℕ, zero, suc, Bool, true, false, List, [], ◌∷◌, length, map, get_or, refl, sym, ap, subst, arith, Some}
use Rattle.std.specs.Prelude.{nat_eq, replicate, set, slice_get, ◌&&◌, ◌||◌}
use Rattle.std.proofs.Math.Dec.{eqb-suc-suc, eqb-suc-zero, eqb-zero-suc}
use Rattle.std.proofs.lemmas.List.{length-map}
use Rattle.std.specs.declared.vec.Vec.{Vec}
use Rattle.std.specs.declared.alloc.Global.{Global as Alloc}
use Rattle.rc_rlang.specs.RegionCode.{Routine, Rlang}
use Rattle.rc_rlang.specs.RegionFlow.{routine_nodes}
use Rattle.rc_rlang.specs.RegionPoints.{routine_points}
use Rattle.rc_annotations.proofs.Nodes.{nodes_are_points}
use Rattle.rc_elim.proofs.Removing.{mapped_there}
use Rattle.rc_elim.specs.Masks.{HasPoints, marks_in, no_marks, rows_of, unmarked}

none_set : (n p : ℕ) → get_or (replicate n false) p false ≡ false
none_set zero zero = refl
none_set zero (suc p) = refl
none_set (suc n) zero = refl
none_set (suc n) (suc p) = none_set n p

none_there : (p : ℕ) → get_or [] p false ≡ false
none_there zero = refl
none_there (suc p) = refl

many : (n : ℕ) → length (replicate n false) ≡ n
many zero = refl
many (suc n) = ap suc (many n)

rows_unmarked : (fs : List Routine) (g p : ℕ) → marks_in (map unmarked fs) g p ≡ false
rows_unmarked [] zero p = none_there p
rows_unmarked [] (suc g) p = none_there p
rows_unmarked (f ∷ fs) zero p = none_set (routine_points f) p
rows_unmarked (f ∷ fs) (suc g) p = rows_unmarked fs g p

row_long : (fs : List Routine) (g : ℕ) (f : Routine) → slice_get fs g ≡ Some f → length (get_or (map unmarked fs) g []) ≡ length (routine_nodes f)
row_long [] zero f e = absurd cc
row_long [] (suc g) f e = absurd cc
row_long (x ∷ fs) zero f e = let q : x ≡ f = cc in ap (λ r. length (unmarked r)) q ∙ many (routine_points f) ∙ sym (nodes_are_points f)
row_long (x ∷ fs) (suc g) f e = row_long fs g f e

pub nothing_marked : (r : Rlang) (rows : List (List Bool)) → rows ≡ no_marks r → (g p : ℕ) → marks_in rows g p ≡ false
nothing_marked r rows e g p = ap (λ m. marks_in m g p) e ∙ rows_unmarked r.functions g p

pub all_points : (r : Rlang) (rows : List (List Bool)) → rows ≡ no_marks r → HasPoints r rows
all_points r rows e = record {
  functions = ap length e ∙ length-map r.functions unmarked;
  points = λ g f is. ap (λ m. length (get_or m g [])) e ∙ row_long r.functions g f is;
}

-- ---- one mark more

bit_set : (bits : List Bool) (k p : ℕ) → k < length bits → get_or (set bits k true) p false ≡ (nat_eq p k || get_or bits p false)
bit_set [] k p h = absurd (omega (arith, h))
bit_set (b ∷ bits) zero zero h = refl
bit_set (b ∷ bits) zero (suc p) h = ap (λ e. e || get_or bits p false) (sym (eqb-suc-zero p))
bit_set (b ∷ bits) (suc k) zero h = ap (λ e. e || b) (sym (eqb-zero-suc k))
bit_set (b ∷ bits) (suc k) (suc p) h = bit_set bits k p (omega (arith, h)) ∙ ap (λ e. e || get_or bits p false) (sym (eqb-suc-suc p k))

pub long_set : (bits : List Bool) (k : ℕ) → length (set bits k true) ≡ length bits
long_set [] zero = refl
long_set [] (suc k) = refl
long_set (b ∷ bits) zero = refl
long_set (b ∷ bits) (suc k) = ap suc (long_set bits k)

module _ (k : ℕ) where
  pub marked_too : (rows : List (List Bool)) (h g p : ℕ) → k < length (get_or rows h []) → marks_in (set rows h (set (get_or rows h []) k true)) g p ≡ (nat_eq g h && nat_eq p k || marks_in rows g p)
  marked_too [] zero g p b = absurd (omega (arith, b))
  marked_too [] (suc h) g p b = absurd (omega (arith, b))
  marked_too (row ∷ rows) zero zero p b = bit_set row k p b
  marked_too (row ∷ rows) zero (suc g) p b = ap (λ e. e && nat_eq p k || marks_in rows g p) (sym (eqb-suc-zero g))
  marked_too (row ∷ rows) (suc h) zero p b = ap (λ e. e && nat_eq p k || get_or row p false) (sym (eqb-zero-suc h))
  marked_too (row ∷ rows) (suc h) (suc g) p b = marked_too rows h g p b ∙ ap (λ e. e && nat_eq p k || marks_in rows g p) (sym (eqb-suc-suc g h))

  as_long : (rows : List (List Bool)) (h g : ℕ) → k < length (get_or rows h []) → length (get_or (set rows h (set (get_or rows h []) k true)) g []) ≡ length (get_or rows g [])
  as_long [] zero g b = absurd (omega (arith, b))
  as_long [] (suc h) g b = absurd (omega (arith, b))
  as_long (row ∷ rows) zero zero b = long_set row k
  as_long (row ∷ rows) zero (suc g) b = refl
  as_long (row ∷ rows) (suc h) zero b = refl
  as_long (row ∷ rows) (suc h) (suc g) b = as_long rows h g b

  as_many : (rows : List (List Bool)) (h : ℕ) (row : List Bool) → length (set rows h row) ≡ length rows
  as_many [] zero row = refl
  as_many [] (suc h) row = refl
  as_many (r ∷ rows) zero row = refl
  as_many (r ∷ rows) (suc h) row = ap suc (as_many rows h row)

  pub same_points : (r : Rlang) (rows : List (List Bool)) (h : ℕ) → k < length (get_or rows h []) → HasPoints r rows → HasPoints r (set rows h (set (get_or rows h []) k true))
  same_points r rows h b has = record {
    functions = as_many rows h (set (get_or rows h []) k true) ∙ has.functions;
    points = λ g f is. as_long rows h g b ∙ has.points g f is;
  }

-- a row that has a place is there
row_there : (rows : List (List Bool)) (h k : ℕ) → k < length (get_or rows h []) → h < length rows
row_there [] zero k b = absurd (omega (arith, b))
row_there [] (suc h) k b = absurd (omega (arith, b))
row_there (row ∷ rows) zero k b = omega arith
row_there (row ∷ rows) (suc h) k b = omega (arith, row_there rows h k b)

-- a row as code reads it
pub row_read : (rows : List (Vec Bool Alloc)) (h k : ℕ) (row : Vec Bool Alloc) → row ≡ get_or rows h row → (m : List (List Bool)) → rows_of rows ≡ m → k < length (get_or m h []) → row.items ≡ get_or m h []
row_read rows h k row is m view b =
    let there : h < length (rows_of rows) = subst (λ n. h < length n) (sym view) (row_there m h k b) in
    sym (ap (λ x. get_or x h []) (sym view) ∙ mapped_there (λ (v : Vec Bool Alloc). v.items) rows h row [] (subst (λ n. h < n) (length-map rows (λ (v : Vec Bool Alloc). v.items)) there) is)
