-- One more struct is counted.
use Rattle.std.proofs.Common.{◌≡◌, ◌<◌, ◌≤◌, ◌+◌, ℕ, refl, ap, sym, ◌∙◌, List, [], ◌∷◌, ◌++◌, length, take, map, take_all}
use Rattle.std.specs.Prelude.{get_or}
use Rattle.std.proofs.lemmas.List.{take_more}
use Rattle.rc_core.specs.Programs.{Struct}
use Rattle.rc_core.specs.Layout.{Layout, fields_cells, layouts_after, layouts_of}
use Rattle.rc_core.specs.Shapes.{field_of}
use Rattle.rc_defined.specs.declared.fields.NamedField.{NamedField}
use Rattle.rc_defined.specs.declared.fields.Fields.{Fields}
use Rattle.rc_defined.specs.Fields.{named_of, struct_in}
use Rattle.rc_defined.specs.Sizes.{capped, HasSizes}
use Rattle.rc_defined.proofs.Counted.{counts, cells_in, counts_more}
use Rattle.rc_defined.proofs.Lists.{map_push}

fields_same : (fs : List NamedField) → map (λ f. field_of f.field) fs ≡ map (λ f. f.1) (map named_of fs)
fields_same [] = refl
fields_same (f ∷ fs) = ap (λ xs. field_of f.field ∷ xs) (fields_same fs)

after_more : (layouts : List Layout) (ss : List Struct) (s : Struct) → layouts_after layouts (ss ++ s ∷ []) ≡ layouts_after layouts ss ++ fields_cells (layouts_after layouts ss) s ∷ []
after_more layouts [] s = refl
after_more layouts (x ∷ ss) s = after_more (layouts ++ fields_cells layouts x ∷ []) ss s

-- the layouts of the structs before one
abbrev pub layouts_before : List Fields → ℕ → List Layout
layouts_before ss i = layouts_of (map struct_in (take i ss))

pub sized_more : (ss : List Fields) (i : ℕ) (sizes more : List ℕ) (s : Fields) (n : ℕ) → i < length ss → s ≡ get_or ss i s → n ≡ capped (cells_in (layouts_before ss i) s.fields.items) → more ≡ sizes ++ n ∷ [] →
    sizes ≡ counts (layouts_before ss i) → more ≡ counts (layouts_before ss (i + 1))
sized_more ss i sizes more s n l h size new so_far =
    let layouts : List Layout = layouts_before ss i in
    let one : Layout = fields_cells layouts (struct_in s) in
    let count : n ≡ capped (length one) = size ∙ ap (λ fs. capped (length (fields_cells layouts fs))) (fields_same s.fields.items) in
    let taken : map struct_in (take (i + 1) ss) ≡ map struct_in (take i ss) ++ struct_in s ∷ [] = ap (map struct_in) (take_more ss i s l ∙ ap (λ x. take i ss ++ x ∷ []) (sym h)) ∙ map_push struct_in (take i ss) s in
    let after : layouts_before ss (i + 1) ≡ layouts ++ one ∷ [] = ap layouts_of taken ∙ after_more [] (map struct_in (take i ss)) (struct_in s) in
    new ∙ ap (λ m. sizes ++ m ∷ []) count ∙ ap (λ xs. xs ++ capped (length one) ∷ []) so_far ∙ sym (counts_more layouts one) ∙ ap counts (sym after)

pub sized_all : (ss : List Fields) (i : ℕ) (sizes : List ℕ) → length ss ≤ i → sizes ≡ counts (layouts_before ss i) → HasSizes (map struct_in ss) sizes
sized_all ss i sizes l h = h ∙ ap (λ xs. counts (layouts_of (map struct_in xs))) (take_all i ss l)
