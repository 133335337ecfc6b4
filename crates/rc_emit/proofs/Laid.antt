-- The cells of types, one after another.
use Rattle.std.proofs.Common.{◌≡◌, ◌<◌, ◌+◌, ℕ, zero, suc, List, [], ◌∷◌, ◌++◌, length, map, take, get_or, Option, Some, None, refl, sym, ap, ◌∙◌, append-nil, add-one}
use Rattle.std.specs.Prelude.{slice_get}
use Rattle.std.specs.Borrow.{Bor}
use Rattle.std.specs.declared.vec.Vec.{Vec}
use Rattle.std.specs.declared.alloc.Global.{Global}
use Rattle.std.proofs.lemmas.List.{append_assoc, map-append, map_push}
use Rattle.rc_core.specs.Layout.{Layout, cells, copies, field_cells, fields_cells, layouts_after, layouts_of}
use Rattle.rc_core.specs.Programs.{Struct}
use Rattle.rc_core.specs.Shapes.{field_of, struct_of, ty_of}
use Rattle.rc_core.specs.declared.ty.Ty.{Ty as CodeTy}
use Rattle.rc_core.specs.declared.parts.Field.{Field as CodeField}
use Rattle.rc_core.specs.declared.parts.Struct.{Struct as CodeStruct}
use Rattle.rc_code.specs.declared.kind.Cell.{Cell}
use Rattle.rc_numbering.specs.Numbered.{cell_of}
use Rattle.rc_tables.specs.Kept.{all_types, types_listed}
use Rattle.rc_tables.proofs.Taken.{map_more, flat_more}
use Rattle.rc_tables.specs.Placed.{type_number, path_number}
use Rattle.rc_tables.specs.declared.numbers.Numbers.{Numbers}
use Rattle.rc_emit.specs.Cells.{cells_with, AreCells}

abbrev pub cells_in : Option (Vec Cell Global) → List Cell
cells_in None = []
cells_in (Some v) = v.items

abbrev pub items_in : Vec Cell Global → List Cell
items_in v = v.items

copies_suc : (k : ℕ) (layout : Layout) → copies (Some (suc k)) layout ≡ copies (Some k) layout ++ layout
copies_suc zero layout = append-nil layout
copies_suc (suc k) layout = ap (λ c. layout ++ c) (copies_suc k layout) ∙ sym (append_assoc layout (copies (Some k) layout) layout)

pub copies_more : (k : ℕ) (layout : Layout) → copies (Some (k + 1)) layout ≡ copies (Some k) layout ++ layout
copies_more k layout = ap (λ m. copies (Some m) layout) (add-one k) ∙ copies_suc k layout

layouts_joined : (acc : List Layout) (ss rest : List Struct) → layouts_after acc (ss ++ rest) ≡ layouts_after (layouts_after acc ss) rest
layouts_joined acc [] rest = refl
layouts_joined acc (fields ∷ ss) rest = layouts_joined (acc ++ fields_cells acc fields ∷ []) ss rest

module _ (n : Numbers) where
  pub found : (of : List Layout) (cells : List (Vec Cell Global)) → AreCells n of cells → (k : ℕ) → cells_in (slice_get cells k) ≡ cells_with n (get_or of k [])
  found [] [] e k = refl
  found [] (v ∷ cells) e k = absurd cc
  found (l ∷ of) [] e k = absurd cc
  found (l ∷ of) (v ∷ cells) e zero = cc
  found (l ∷ of) (v ∷ cells) e (suc k) = let rest : AreCells n of cells = cc in found of cells rest k

  pub both : (a b : Layout) → cells_with n (a ++ b) ≡ cells_with n a ++ cells_with n b
  both a b = map-append (cell_of (type_number n) (path_number n)) a b

  pub field_step : (of : List Layout) (fields : List CodeField) (i : ℕ) (x : CodeField) (cells now : List Cell) → i < length fields → x ≡ get_or fields i x → cells ≡ cells_with n (fields_cells of (map field_of (take i fields))) → now ≡ cells ++ cells_with n (field_cells of (field_of x)) → now ≡ cells_with n (fields_cells of (map field_of (take (i + 1) fields)))
  field_step of fields i x cells now h q e m =
      m ∙ ap (λ c. c ++ cells_with n (field_cells of (field_of x))) e
      ∙ sym (both (fields_cells of (map field_of (take i fields))) (field_cells of (field_of x)))
      ∙ ap (cells_with n) (sym (flat_more fields i x h q (field_cells of) field_of))

  pub struct_step : (ss : List CodeStruct) (i : ℕ) (x : CodeStruct) (all now : List (Vec Cell Global)) (cells : Vec Cell Global) → i < length ss → x ≡ get_or ss i x → AreCells n (layouts_of (map struct_of (take i ss))) all → cells.items ≡ cells_with n (fields_cells (layouts_of (map struct_of (take i ss))) (struct_of x)) → now ≡ all ++ cells ∷ [] → AreCells n (layouts_of (map struct_of (take (i + 1) ss))) now
  struct_step ss i x all now cells h q e one m =
      let before = layouts_of (map struct_of (take i ss)) in
      ap (map items_in) m ∙ map_push items_in all cells
      ∙ ap (λ c. c ++ cells.items ∷ []) e
      ∙ ap (λ c. map (cells_with n) before ++ c ∷ []) one
      ∙ sym (map_push (cells_with n) before (fields_cells before (struct_of x)))
      ∙ ap (map (cells_with n)) (sym (layouts_joined [] (map struct_of (take i ss)) (struct_of x ∷ [])))
      ∙ ap (λ s. map (cells_with n) (layouts_of s)) (sym (map_more ss i x h q struct_of))

  pub type_step : (ss : List Struct) (named : List (Bor CodeTy)) (i : ℕ) (x : Bor CodeTy) (types now : List (List Cell)) → i < length named → x ≡ get_or named i x → types ≡ map (cells_with n) (map (cells ss) (all_types (types_listed (take i named)))) → now ≡ types ++ cells_with n (cells ss (ty_of x.now)) ∷ [] → now ≡ map (cells_with n) (map (cells ss) (all_types (types_listed (take (i + 1) named))))
  type_step ss named i x types now h q e m =
      let before = types_listed (take i named) in
      m ∙ ap (λ t. t ++ cells_with n (cells ss (ty_of x.now)) ∷ []) e
      ∙ sym (map_push (cells_with n) (map (cells ss) (all_types before)) (cells ss (ty_of x.now)))
      ∙ ap (map (cells_with n)) (sym (map_push (cells ss) (all_types before) (ty_of x.now)))
      ∙ ap (λ l. map (cells_with n) (map (cells ss) l)) (sym (map_push ty_of before x.now))
      ∙ ap (λ l. map (cells_with n) (map (cells ss) (all_types l))) (sym (map_more named i x h q (λ (t : Bor CodeTy). t.now)))
