-- Every type that is defined has a cell.
use Rattle.std.proofs.Common.{◌≡◌, ◌<◌, ◌≤◌, ℕ, zero, suc, List, [], ◌∷◌, length, slice_get, Option, Some, None, refl, sym, subst, arith, length-append}
use Rattle.rc_core.specs.Types.{Ty, int, unsigned, char, region, struct, pointer}
use Rattle.rc_core.specs.Programs.{Field, Struct}
use Rattle.rc_core.specs.Layout.{Layout, cells, copies, field_cells, fields_cells, layouts_of, size}
use Rattle.rc_core.specs.Typing.{IsDefined}
use Rattle.rc_core.specs.WellTyped.{IsInside, IsLength, FieldFits, StructsFit}
use Rattle.rc_core.proofs.LayoutLaws.{struct_cells}
use Rattle.rc_kinds.proofs.Zips.{slice_below}

module _ (structs : List Struct) (fit : StructsFit structs) where
  some_copy : (c : Option ℕ) (layout : Layout) → IsLength c → 1 ≤ length layout → 1 ≤ length (copies c layout)
  some_copy None layout h l = l
  some_copy (Some zero) layout h l = absurd (omega (arith, h))
  some_copy (Some (suc n)) layout h l = omega (arith, l, length-append layout (copies (Some n) layout))

  fields_have : (n : ℕ) (fields : List Field) → 1 ≤ length fields → ((j : ℕ) (f : Field) → slice_get fields j ≡ Some f → FieldFits structs n f) → ((t : Ty) → IsInside n t → IsDefined structs t → 1 ≤ size structs t) → 1 ≤ length (fields_cells (layouts_of structs) fields)
  fields_have n [] some all ih = absurd (omega (arith, some))
  fields_have n (f ∷ fields) some all ih =
      let h = all 0 f refl in
      let l = some_copy f.count (cells structs f.ty) h.counted (ih f.ty h.inside h.defined) in
      omega (arith, l, length-append (field_cells (layouts_of structs) f) (fields_cells (layouts_of structs) fields))

  struct_has : (k : ℕ) → k < length structs → ((t : Ty) → IsInside k t → IsDefined structs t → 1 ≤ size structs t) → 1 ≤ size structs (struct k)
  struct_has k there ih =
      let s = slice_below structs k there in
      let f = fit k s.0 s.1 in
      subst (λ (xs : Layout). 1 ≤ length xs) (sym (struct_cells structs k s.0 s.1 (λ j g q. (f.fields_fit j g q).inside))) (fields_have k s.0 f.some_field f.fields_fit ih)

  inside_more : (n m : ℕ) (t : Ty) → n ≤ m → IsInside n t → IsInside m t
  inside_more n m int h i = tt
  inside_more n m unsigned h i = tt
  inside_more n m char h i = tt
  inside_more n m region h i = tt
  inside_more n m (struct k) h i = omega (arith, h, i)
  inside_more n m (pointer note target) h i = tt

  has_cell : (n : ℕ) (t : Ty) → IsInside n t → IsDefined structs t → 1 ≤ size structs t
  has_cell n int i d = omega arith
  has_cell n unsigned i d = omega arith
  has_cell n char i d = omega arith
  has_cell n region i d = omega arith
  has_cell zero (struct k) i d = absurd (omega (arith, i))
  has_cell (suc n) (struct k) i d = struct_has k d (λ t it dt. has_cell n t (inside_more k n t (omega (arith, i)) it) dt)
  has_cell n (pointer note target) i d = omega arith

  pub struct_has_cell : (k : ℕ) → k < length structs → 1 ≤ size structs (struct k)
  struct_has_cell k d = has_cell (suc k) (struct k) (omega arith) d
