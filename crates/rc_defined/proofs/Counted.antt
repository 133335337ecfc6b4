-- The cells of structs, counted up to a limit.
use Rattle.std.proofs.Common.{◌≡◌, ◌<◌, ◌≤◌, ◌+◌, ◌*◌, ℕ, zero, suc, refl, ap, sym, ◌∙◌, arith, List, [], ◌∷◌, ◌++◌, length, drop, map, length-append, Option, Some, None}
use Rattle.std.specs.Prelude.{get_or}
use Rattle.std.proofs.lemmas.List.{map-append}
use Rattle.rc_core.specs.Layout.{Layout, cells_by, copies, field_cells, fields_cells}
use Rattle.rc_core.specs.Shapes.{field_of}
use Rattle.rc_core.specs.WellTyped.{elements}
use Rattle.rc_defined.specs.declared.fields.NamedField.{NamedField}
use Rattle.rc_defined.specs.Sizes.{capped}
use Rattle.rc_defined.proofs.Walks.{front, none_left}

abbrev pub counts : List Layout → List ℕ
counts layouts = map (λ (l : Layout). capped (length l)) layouts

pub count_at : (layouts : List Layout) (k : ℕ) → get_or (counts layouts) k 0 ≡ capped (length (get_or layouts k []))
count_at [] k = refl
count_at (l ∷ layouts) zero = refl
count_at (l ∷ layouts) (suc k) = count_at layouts k

many : (n : ℕ) (cells : Layout) → length (copies (Some n) cells) ≡ n * length cells
many zero cells = omega arith
many (suc n) cells = length-append cells (copies (Some n) cells) ∙ ap (λ m. length cells + m) (many n cells) ∙ omega arith

copied : (count : Option ℕ) (cells : Layout) → length (copies count cells) ≡ elements count * length cells
copied None cells = omega arith
copied (Some n) cells = many n cells

plus : (s x y : ℕ) → capped x ≡ capped y → capped (capped s + x) ≡ capped (s + y)
plus s x y h = omega (arith, h)

once_more : (e s : ℕ) → suc e * s ≡ s + e * s
once_more e s = omega arith

pub times : (e s : ℕ) → capped (e * capped s) ≡ capped (e * s)
times zero s = ap capped (let a : 0 * capped s ≡ 0 * s = omega arith in a)
times (suc e) s = ap capped (once_more e (capped s)) ∙ plus s (e * capped s) (e * s) (times e s) ∙ ap capped (sym (once_more e s))

added : (total x y r : ℕ) → capped x ≡ capped y → capped (capped (total + x) + r) ≡ capped (total + (y + r))
added total x y r h = omega (arith, h)

abbrev pub cells_in : List Layout → List NamedField → ℕ
cells_in layouts fs = length (fields_cells layouts (map (λ f. field_of f.field) fs))

module _ (layouts : List Layout) (fs : List NamedField) (i : ℕ) (total : ℕ) where
  pub size_step : (f : NamedField) → i < length fs → f ≡ get_or fs i f →
      capped (total + cells_in layouts (drop i fs)) ≡ capped (capped (total + elements f.field.length * capped (length (cells_by layouts (field_of f.field).ty))) + cells_in layouts (drop (i + 1) fs))
  size_step f l h =
      let one = field_cells layouts (field_of f.field) in
      let rest = cells_in layouts (drop (i + 1) fs) in
      let e = elements f.field.length in
      let s = length (cells_by layouts (field_of f.field).ty) in
      ap (λ xs. capped (total + cells_in layouts xs)) (front fs i f l h)
      ∙ ap (λ n. capped (total + n)) (length-append one (fields_cells layouts (map (λ f. field_of f.field) (drop (i + 1) fs))) ∙ ap (λ n. n + rest) (copied f.field.length (cells_by layouts (field_of f.field).ty)))
      ∙ sym (added total (e * capped s) (e * s) rest (times e s))

  pub size_end : length fs ≤ i → total ≤ 1048577 → capped (total + cells_in layouts (drop i fs)) ≡ total
  size_end l b = ap (λ xs. capped (total + cells_in layouts xs)) (none_left fs i l) ∙ omega (arith, b)

pub counts_more : (layouts : List Layout) (l : Layout) → counts (layouts ++ l ∷ []) ≡ counts layouts ++ capped (length l) ∷ []
counts_more layouts l = map-append (λ (l : Layout). capped (length l)) layouts (l ∷ [])
