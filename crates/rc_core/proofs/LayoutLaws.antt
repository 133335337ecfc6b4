-- The cells of a struct are those of its fields, each by the layouts of all structs: the structs inside stand before it.
use Rattle.std.proofs.Common.{◌≡◌, ℕ, zero, suc, ◌+◌, ◌<◌, refl, sym, ap, ◌∙◌, subst, List, [], ◌∷◌, ◌++◌, length, get_or, slice_get, Some, None, arith, length-append}
use Rattle.std.proofs.lemmas.List.{get_or_append_left}
use Rattle.rc_core.specs.Types.{Ty, int, unsigned, char, region, struct, pointer}
use Rattle.rc_core.specs.Programs.{Field, Struct}
use Rattle.rc_core.specs.Layout.{Layout, cells, cells_by, copies, fields_cells, layouts_after, layouts_of}
use Rattle.rc_core.specs.WellTyped.{IsInside}

-- the structs inside all have smaller numbers
abbrev pub AreInside : ℕ → List Field → Type 0
AreInside n fields = (j : ℕ) (f : Field) → slice_get fields j ≡ Some f → IsInside n f.ty

abbrev pub Agree : ℕ → List Layout → List Layout → Type 0
Agree n a b = (i : ℕ) → i < n → get_or a i [] ≡ get_or b i []

cells_agree : (a b : List Layout) (n : ℕ) (t : Ty) → IsInside n t → Agree n a b → cells_by a t ≡ cells_by b t
cells_agree a b n int h e = refl
cells_agree a b n unsigned h e = refl
cells_agree a b n char h e = refl
cells_agree a b n region h e = refl
cells_agree a b n (struct k) h e = e k h
cells_agree a b n (pointer note target) h e = refl

fields_agree : (a b : List Layout) (n : ℕ) (fields : List Field) → AreInside n fields → Agree n a b → fields_cells a fields ≡ fields_cells b fields
fields_agree a b n [] h e = refl
fields_agree a b n (f ∷ fs) h e =
    ap (λ c. copies f.count c ++ fields_cells a fs) (cells_agree a b n f.ty (h 0 f refl) e)
    ∙ ap (λ c. copies f.count (cells_by b f.ty) ++ c) (fields_agree a b n fs (λ j g q. h (suc j) g q) e)

pub layouts-prefix : (acc : List Layout) (ss : List Struct) → Agree (length acc) acc (layouts_after acc ss)
layouts-prefix acc [] i h = refl
layouts-prefix acc (fields ∷ ss) i h =
    let l : i < length (acc ++ fields_cells acc fields ∷ []) = omega (arith, length-append acc (fields_cells acc fields ∷ [])) in
    sym (get_or_append_left acc (fields_cells acc fields ∷ []) [] i h) ∙ layouts-prefix (acc ++ fields_cells acc fields ∷ []) ss i l

pub last-of : (acc : List Layout) (l : Layout) → get_or (acc ++ l ∷ []) (length acc) [] ≡ l
last-of [] l = refl
last-of (x ∷ acc) l = last-of acc l

layouts-first : (acc : List Layout) (ss : List Struct) (fields : List Field) → AreInside (length acc) fields → get_or (layouts_after acc (fields ∷ ss)) (length acc) [] ≡ fields_cells (layouts_after acc (fields ∷ ss)) fields
layouts-first acc ss fields inside =
    let l : length acc < length (acc ++ fields_cells acc fields ∷ []) = omega (arith, length-append acc (fields_cells acc fields ∷ [])) in
    sym (layouts-prefix (acc ++ fields_cells acc fields ∷ []) ss (length acc) l)
    ∙ last-of acc (fields_cells acc fields)
    ∙ fields_agree acc (layouts_after acc (fields ∷ ss)) (length acc) fields inside (layouts-prefix acc (fields ∷ ss))

layouts-at : (acc : List Layout) (ss : List Struct) (k n : ℕ) (fields : List Field) → slice_get ss k ≡ Some fields → length acc + k ≡ n → AreInside n fields → get_or (layouts_after acc ss) n [] ≡ fields_cells (layouts_after acc ss) fields
layouts-at acc [] k n fields h e inside = absurd (none_some h) where
  none_some : {A : Type 0} {a : A} → None ≡ Some a → ⊥
  none_some h = cc
layouts-at acc (first ∷ ss) zero n fields h e inside =
    let q : first ≡ fields = cc in
    let m : length acc ≡ n = omega arith in
    let P : List Field → ℕ → Type 0 = λ fs i. AreInside i fields → get_or (layouts_after acc (fs ∷ ss)) i [] ≡ fields_cells (layouts_after acc (fs ∷ ss)) fields in
    subst (λ fs. P fs n) (sym q) (subst (P fields) m (layouts-first acc ss fields)) inside
layouts-at acc (first ∷ ss) (suc k) n fields h e inside =
    let m : length (acc ++ fields_cells acc first ∷ []) + k ≡ n = omega (arith, length-append acc (fields_cells acc first ∷ [])) in
    layouts-at (acc ++ fields_cells acc first ∷ []) ss k n fields h m inside

pub struct_cells : (ss : List Struct) (k : ℕ) (fields : List Field) → slice_get ss k ≡ Some fields → AreInside k fields → cells ss (struct k) ≡ fields_cells (layouts_of ss) fields
struct_cells ss k fields h inside = layouts-at [] ss k k fields h (omega arith) inside

-- one more than the number of a struct, and 0 for every other type
abbrev pub rank : Ty → ℕ
rank int = 0
rank unsigned = 0
rank char = 0
rank region = 0
rank (struct k) = suc k
rank (pointer note target) = 0
