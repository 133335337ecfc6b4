-- A shape is found by its name.
use Rattle.std.proofs.Common.{◌≡◌, ◌∙◌, ◌+◌, ◌<◌, ℕ, zero, suc, Bool, true, false, List, [], ◌∷◌, get_or, length, map, take, Option, Some, None, refl, sym, ap, arith}
use Rattle.std.specs.Prelude.{◌&&◌, ◌||◌, Contains, option_map, slice_get}
use Rattle.std.proofs.lemmas.Option.{get_or_from_slice_get, slice_get-map, slice_get_within}
use Rattle.std.proofs.lemmas.List.{get_or-map, length-map, take_more_same}
use Rattle.std.proofs.lemmas.List.Folds.{list_any_at}
use Rattle.std.proofs.Math.Seq.{take-length}
use Rattle.rc_core.specs.declared.ty.Note.TheVariants.{Plain, SameRegion, ParentPtr, Traditional}
use Rattle.rc_core.specs.declared.layout.CellKind.{CellKind}
use Rattle.rc_core.specs.declared.layout.Layout.{Layout}
use Rattle.rc_core.specs.declared.layouts.Kind.{Kind}
use Rattle.rc_core.specs.declared.layouts.Kind.TheVariants.{Number, Region, Pointer}
use Rattle.rc_core.specs.Laid.{held_kind}
use Rattle.rc_core.specs.Shapes.{cell_kind_of, kinds_in}
use Rattle.rc_areas.specs.Naming.{kind_byte, name_of}
use Rattle.rc_areas.specs.Shapes.{Shape, has_shape, is_kind, is_shape}
use Rattle.rc_areas.proofs.Same.{same_shape}

-- the kind that a byte stands for
abbrev byte_kind : ℕ → Kind
byte_kind zero = Number
byte_kind (suc zero) = Region
byte_kind (suc (suc zero)) = Pointer Plain
byte_kind (suc (suc (suc zero))) = Pointer SameRegion
byte_kind (suc (suc (suc (suc zero)))) = Pointer ParentPtr
byte_kind (suc (suc (suc (suc (suc n))))) = Pointer Traditional

kind_again : (k : Kind) → byte_kind (kind_byte k) ≡ k
kind_again Number = refl
kind_again Region = refl
kind_again (Pointer Plain) = refl
kind_again (Pointer SameRegion) = refl
kind_again (Pointer ParentPtr) = refl
kind_again (Pointer Traditional) = refl

shape_again : (s : Shape) → map byte_kind (name_of s) ≡ s
shape_again [] = refl
shape_again (k ∷ ks) = ap (λ x. x ∷ map byte_kind (name_of ks)) (kind_again k) ∙ ap (λ xs. k ∷ xs) (shape_again ks)

maybe_again : (o : Option Shape) → option_map (map byte_kind) (option_map name_of o) ≡ o
maybe_again None = refl
maybe_again (Some s) = ap Some (shape_again s)

-- the shape with a number is the one that its name tells
pub named : (shapes : List Shape) (n : ℕ) (shape : Shape) → slice_get (map name_of shapes) n ≡ Some (name_of shape) → slice_get shapes n ≡ Some shape
named shapes n shape is =
    sym (maybe_again (slice_get shapes n))
    ∙ ap (option_map (map byte_kind)) (sym (slice_get-map name_of shapes n) ∙ is)
    ∙ ap Some (shape_again shape)

pub kind_itself : (k : Kind) → is_kind k k ≡ true
kind_itself Number = refl
kind_itself Region = refl
kind_itself (Pointer Plain) = refl
kind_itself (Pointer SameRegion) = refl
kind_itself (Pointer ParentPtr) = refl
kind_itself (Pointer Traditional) = refl

shape_itself : (s : Shape) → is_shape s s ≡ true
shape_itself [] = refl
shape_itself (k ∷ ks) = ap (λ b. b && is_shape ks ks) (kind_itself k) ∙ shape_itself ks

pub known : (shapes : List Shape) (n : ℕ) (shape : Shape) → slice_get shapes n ≡ Some shape → has_shape shape shapes ≡ true
known shapes n shape is =
    list_any_at (λ s. is_shape s shape) shapes n [] (slice_get_within shapes n shape is)
    (ap (λ s. is_shape s shape) (get_or_from_slice_get shapes n shape [] is) ∙ shape_itself shape)

pub unknown : (shapes : List Shape) (shape : Shape) → ¬ Contains (map name_of shapes) (name_of shape) → has_shape shape shapes ≡ false
unknown [] shape none = refl
unknown (s ∷ ss) shape none = by (is_shape s shape) refl (unknown ss shape (λ there. none (suc there.0, omega (arith, there.1), there.2)))
  where
    by : (b : Bool) → is_shape s shape ≡ b → has_shape shape ss ≡ false → (is_shape s shape || has_shape shape ss) ≡ false
    by true same rest = absurd (none (0, omega arith, ap name_of (same_shape s shape same)))
    by false other rest = ap (λ b. b || has_shape shape ss) other ∙ rest

-- two shapes compared byte by byte

pub more_alike : (a b : Shape) (i : ℕ) → i < length a → i < length b → take i (name_of a) ≡ take i (name_of b) → kind_byte (get_or a i Number) ≡ kind_byte (get_or b i Number) → take (i + 1) (name_of a) ≡ take (i + 1) (name_of b)
more_alike a b i in_a in_b before here =
    let long_a = length-map a kind_byte in
    let long_b = length-map b kind_byte in
    take_more_same (name_of a) (name_of b) i 0 (omega (arith, in_a, long_a)) (omega (arith, in_b, long_b)) before (get_or-map kind_byte a i Number 0 in_a ∙ here ∙ sym (get_or-map kind_byte b i Number 0 in_b))

pub alike : (a b : Shape) (i : ℕ) → i ≡ length a → length a ≡ length b → take i (name_of a) ≡ take i (name_of b) → a ≡ b
alike a b i last long same = sym (shape_again a) ∙ ap (map byte_kind) (whole a i last ∙ same ∙ sym (whole b i (last ∙ long))) ∙ shape_again b
  where
    whole : (s : Shape) (n : ℕ) → n ≡ length s → name_of s ≡ take n (name_of s)
    whole s n is = sym (take-length (name_of s)) ∙ ap (λ k. take k (name_of s)) (length-map s kind_byte ∙ sym is)

-- the kind of a layout's cell among those of its shape
pub kind_among : (layout : Layout) (cells : List CellKind) (i : ℕ) (cell : CellKind) → cells ≡ layout.cells.items → i < length cells → cell ≡ get_or cells i cell → get_or (map held_kind (kinds_in layout)) i Number ≡ held_kind (cell_kind_of cell)
kind_among layout cells i cell same there is =
    let kinds = map cell_kind_of cells in
    let long = length-map cells cell_kind_of in
    ap (λ cs. get_or (map held_kind (map cell_kind_of cs)) i Number) (sym same)
    ∙ get_or-map held_kind kinds i (cell_kind_of cell) Number (omega (arith, there, long))
    ∙ ap held_kind (get_or-map cell_kind_of cells i cell (cell_kind_of cell) there ∙ ap cell_kind_of (sym is))
