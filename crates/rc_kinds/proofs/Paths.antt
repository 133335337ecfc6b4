-- Where the cells of a place stand in its element.
use Rattle.std.proofs.Common.{◌≡◌, ◌<◌, ◌+◌, ◌*◌, ℕ, zero, suc, ℤ, pos, negsuc, Bool, true, false, ◌&&◌, List, [], ◌∷◌, ◌++◌, length, slice_get, get_or, Option, Some, None, refl, sym, ap, ◌∙◌, subst, arith, rules}
use Rattle.std.specs.Prelude.{IsSome, unsigned_abs}
use Rattle.std.specs.List.{list_all}
use Rattle.rc_core.specs.Types.{Ty, struct}
use Rattle.rc_core.specs.Programs.{Field, Struct}
use Rattle.rc_core.specs.Layout.{cells, copies, field_cells, fields_cells, layouts_of, fields_of, offset, field_at, count_in, count_of, stride_in, stride}
use Rattle.rc_core.specs.WellTyped.{elements, StructsFit}
use Rattle.rc_core.specs.Runs.{Chosen, Target}
use Rattle.rc_core.specs.Source.{is_index, chosen_in_range, cells_chosen, cell_of}
use Rattle.rc_core.specs.Evaluation.{further, choosing}
use Rattle.rc_core.proofs.LayoutLaws.{struct_cells}
use Rattle.rc_kinds.specs.Suits.{Ledger, IsPointer}
use Rattle.rc_kinds.proofs.Places.{Into, Reached, reaches_on, reached_on}
use Rattle.rc_kinds.proofs.Zips.{Stands, stands_within, copy_stands, stands_at}

-- a target whose element has cells of the type where it aims
pub record Aims (structs : List Struct) (ledger : Ledger) (t : Ty) (tg : Target) : Type 0 where
  pub element : Ty
  pub pointer : IsPointer ledger element tg.pointer
  pub stands : list_all chosen_in_range tg.chosen ≡ true → Stands (cells structs element) (cells structs t) (cell_of tg)
  pub reached : list_all chosen_in_range tg.chosen ≡ true → Reached structs element t (cell_of tg)

pub index_is_below : (z : ℤ) (count : ℕ) → is_index z count ≡ true → unsigned_abs z < count
index_is_below (pos k) count e = grind (arith, rules)
index_is_below (negsuc k) count e = cc

pub there : {A : Type 0} (xs : List (List A)) (i j : ℕ) (x : A) → slice_get (get_or xs i []) j ≡ Some x → slice_get xs i ≡ Some (get_or xs i [])
there [] i j x e = cc
there (y ∷ xs) zero j x e = refl
there (y ∷ xs) (suc i) j x e = there xs i j x e

both_true : (a b : Bool) → (a && b) ≡ true → (a ≡ true) × (b ≡ true)
both_true true b e = (refl, e)
both_true false b e = cc

all_split : (cs : List Chosen) (c : Chosen) → list_all chosen_in_range (cs ++ c ∷ []) ≡ true → (list_all chosen_in_range cs ≡ true) × (chosen_in_range c ≡ true)
all_split [] c e = (refl, (both_true (chosen_in_range c) true e).0)
all_split (x ∷ cs) c e =
    let p = both_true (chosen_in_range x) (list_all chosen_in_range (cs ++ c ∷ [])) e in
    let q = all_split cs c p.1 in
    (ap (λ b. b && list_all chosen_in_range cs) p.0 ∙ q.0, q.1)

chosen_behind : (cs : List Chosen) (c : Chosen) → cells_chosen (cs ++ c ∷ []) ≡ cells_chosen cs + unsigned_abs c.index * c.stride
chosen_behind [] c = omega arith
chosen_behind (x ∷ cs) c = let p = chosen_behind cs c in omega (arith, p)

module _ (structs : List Struct) (fit : StructsFit structs) where
  struct_is : (s f : ℕ) (d : Field) → field_at structs s f ≡ Some d → cells structs (struct s) ≡ fields_cells (layouts_of structs) (fields_of structs s)
  struct_is s f d e = let h = there structs s f d e in struct_cells structs s (fields_of structs s) h (λ j g q. ((fit s (fields_of structs s) h).fields_fit j g q).inside)

  pub in_struct : (s f : ℕ) (d : Field) → field_at structs s f ≡ Some d → Stands (cells structs (struct s)) (copies d.count (cells structs d.ty)) (offset structs s f)
  in_struct s f d e = subst (λ xs. Stands xs (copies d.count (cells structs d.ty)) (offset structs s f)) (sym (struct_is s f d e)) (stands_at (field_cells (layouts_of structs)) (fields_of structs s) f d e)

  pub field_stands : (s f : ℕ) (d : Field) → field_at structs s f ≡ Some d → d.count ≡ None → Stands (cells structs (struct s)) (cells structs d.ty) (offset structs s f)
  field_stands s f d e n = subst (λ c. Stands (cells structs (struct s)) (copies c (cells structs d.ty)) (offset structs s f)) n (in_struct s f d e)

  pub element_stands : (s f : ℕ) (d : Field) (z : ℤ) (n : ℕ) → field_at structs s f ≡ Some d → IsSome d.count → is_index z (count_of structs s f) ≡ true → offset structs s f + unsigned_abs z * stride structs s f ≡ n → Stands (cells structs (struct s)) (cells structs d.ty) n
  element_stands s f d z n e some inside m = by d.count some refl
    where
      by : (c : Option ℕ) → IsSome c → d.count ≡ c → Stands (cells structs (struct s)) (cells structs d.ty) n
      by None h q = cc
      by (Some count) h q =
          let counted : count_of structs s f ≡ count = ap count_in e ∙ ap (λ c. elim c as (λ _. ℕ) [ None ↦ 0 | Some k ↦ k ]) q in
          let strides : stride structs s f ≡ length (cells structs d.ty) = ap (stride_in structs) e in
          let below : unsigned_abs z < count = index_is_below z count (ap (is_index z) (sym counted) ∙ inside) in
          stands_within (cells structs (struct s)) (copies (Some count) (cells structs d.ty)) (cells structs d.ty) (offset structs s f) (unsigned_abs z * length (cells structs d.ty)) n
          (ap (λ k. offset structs s f + unsigned_abs z * k) (sym strides) ∙ m)
          (subst (λ c. Stands (cells structs (struct s)) (copies c (cells structs d.ty)) (offset structs s f)) q (in_struct s f d e))
          (copy_stands (cells structs d.ty) count (unsigned_abs z) (unsigned_abs z * length (cells structs d.ty)) below refl)

  index_below : (s f : ℕ) (d : Field) (z : ℤ) → field_at structs s f ≡ Some d → IsSome d.count → is_index z (count_of structs s f) ≡ true → unsigned_abs z < elements d.count
  index_below s f d z e some inside = by d.count some refl
    where
      by : (c : Option ℕ) → IsSome c → d.count ≡ c → unsigned_abs z < elements c
      by None h q = cc
      by (Some count) h q = index_is_below z count (ap (is_index z) (sym (ap count_in e ∙ ap (λ c. elim c as (λ _. ℕ) [ None ↦ 0 | Some k ↦ k ]) q)) ∙ inside)

  pub aims_further : (ledger : Ledger) (s f : ℕ) (d : Field) (tg : Target) → field_at structs s f ≡ Some d → d.count ≡ None → Aims structs ledger (struct s) tg → Aims structs ledger d.ty (further (offset structs s f) tg)
  aims_further ledger s f d tg e n a = record {
    element = a.element;
    pointer = a.pointer;
    stands = λ all. stands_within (cells structs a.element) (cells structs (struct s)) (cells structs d.ty) (cell_of tg) (offset structs s f) _ (omega arith) (a.stands all) (field_stands s f d e n);
    reached = λ all.
        let r = a.reached all in
        let i : Into = record { structure = s; field = f; index = 0 } in
        record { path = r.path ++ i ∷ []; reaches = reaches_on structs r.path i a.element (struct s) d r.reaches refl e (subst (λ c. 0 < elements c) (sym n) (omega arith)); at_is = let q = reached_on structs r.path i in omega (arith, q, r.at_is) };
  }

  pub aims_choosing : (ledger : Ledger) (s f : ℕ) (d : Field) (z : ℤ) (tg : Target) → field_at structs s f ≡ Some d → IsSome d.count → Aims structs ledger (struct s) tg
      → Aims structs ledger d.ty (choosing (record { index = z; count = count_of structs s f; stride = stride structs s f }) (further (offset structs s f) tg))
  aims_choosing ledger s f d z tg e some a = record {
    element = a.element;
    pointer = a.pointer;
    stands = λ all.
        let c : Chosen = record { index = z; count = count_of structs s f; stride = stride structs s f } in
        let p = all_split tg.chosen c all in
        stands_within (cells structs a.element) (cells structs (struct s)) (cells structs d.ty) (cell_of tg) (offset structs s f + unsigned_abs z * stride structs s f) _
        (let q = chosen_behind tg.chosen c in omega (arith, q)) (a.stands p.0) (element_stands s f d z _ e some p.1 refl);
    reached = λ all.
        let c : Chosen = record { index = z; count = count_of structs s f; stride = stride structs s f } in
        let p = all_split tg.chosen c all in
        let r = a.reached p.0 in
        let i : Into = record { structure = s; field = f; index = unsigned_abs z } in
        record { path = r.path ++ i ∷ []; reaches = reaches_on structs r.path i a.element (struct s) d r.reaches refl e (index_below s f d z e some p.1); at_is = let q = reached_on structs r.path i in let o = chosen_behind tg.chosen c in omega (arith, q, o, r.at_is) };
  }
