-- The stores of an image are the sites of its code.
use Rattle.std.proofs.Common.{◌≡◌, ℕ, zero, suc, ◌+◌, Bool, true, false, ◌&&◌, nat_eq, List, [], ◌∷◌, ◌++◌, length, map, flat_map, refl, sym, ap, ◌∙◌, subst, arith}
use Rattle.std.specs.Prelude.{◌↔◌, cond, count_by, fold, get_or}
use Rattle.std.proofs.lemmas.List.{map-append}
use Rattle.rc_core.specs.declared.ty.Note.{Note}
use Rattle.rc_rlang.specs.declared.order.Order.TheVariants.{Points}
use Rattle.rc_rlang.specs.RegionCode.{Routine, Rlang}
use Rattle.rc_rlang.specs.Sites.{Site, code_sites}
use Rattle.rc_annotations.specs.Annotations.{Removable}
use Rattle.rc_annotations.specs.Heights.{temporaries_of}
use Rattle.rc_marks.specs.InOrder.{routine_marks, functions_marks, marks_in_order, mask_of}
use Rattle.rc_marks.specs.Stores.{Store, store_of}
use Rattle.rc_marks.specs.Marked.{Stored, image_stores, with_bits, marked_image}
use Rattle.rc_marks.proofs.MarksCounted.{has_its_marks}
use Rattle.rc_marks.specs.Counted.{Placed, in_function, placed_from, all_sites, stored, is_stored, same_note, same_bit, StoresAreSites, ImagesHaveAsMany}

store_at : Placed → Store
store_at s = record { line = s.line; note = s.note }

module _ (marks : (function point : ℕ) → Bool) where
  mark_at : Placed → Bool
  mark_at s = marks s.function s.point

  own_marks : (k : ℕ) (ss : List Site) → map (λ (s : Site). marks k s.point) ss ≡ map mark_at (map (in_function k) ss)
  unfolding mark_at
  own_marks k [] = refl
  own_marks k (s ∷ ss) = ap (λ bs. marks k s.point ∷ bs) (own_marks k ss)

  own_stores : (k : ℕ) (ss : List Site) → map store_of ss ≡ map store_at (map (in_function k) ss)
  unfolding store_at
  own_stores k [] = refl
  own_stores k (s ∷ ss) = ap (λ bs. store_of s ∷ bs) (own_stores k ss)

  marks_placed : (k : ℕ) (fs : List Routine) → functions_marks marks k fs ≡ map mark_at (placed_from k fs)
  marks_placed k [] = refl
  marks_placed k (f ∷ fs) = (λ i. own_marks k (code_sites Points f.body 1) i ++ marks_placed (suc k) fs i) ∙ sym (map-append mark_at (map (in_function k) (code_sites Points f.body 1)) (placed_from (suc k) fs))

  stores_placed : (k : ℕ) (fs : List Routine) → flat_map (λ (f : Routine). map store_of (code_sites Points f.body 1)) fs ≡ map store_at (placed_from k fs)
  stores_placed k [] = refl
  stores_placed k (f ∷ fs) = (λ i. own_stores k (code_sites Points f.body 1) i ++ stores_placed (suc k) fs i) ∙ sym (map-append store_at (map (in_function k) (code_sites Points f.body 1)) (placed_from (suc k) fs))

  -- each store takes the bit at its number
  got : (before : List Bool) (b : Bool) (rest : List Bool) → get_or (before ++ b ∷ rest) (length before) false ≡ b
  got [] b rest = refl
  got (x ∷ before) b rest = got before b rest

  further : (before : List Bool) (b : Bool) (rest : List Bool) → before ++ b ∷ rest ≡ (before ++ b ∷ []) ++ rest
  further [] b rest = refl
  further (x ∷ before) b rest = ap (λ bs. x ∷ bs) (further before b rest)

  longer : (before : List Bool) (b : Bool) → length (before ++ b ∷ []) ≡ suc (length before)
  longer [] b = refl
  longer (x ∷ before) b = ap suc (longer before b)

  zipped : (before : List Bool) (ps : List Placed) → with_bits (λ n. get_or (before ++ map mark_at ps) n false) (length before) (map store_at ps) ≡ map (stored marks) ps
  unfolding mark_at store_at
  zipped before [] = refl
  zipped before (s ∷ ps) =
      let b = marks s.function s.point in
      let tail : with_bits (λ n. get_or (before ++ b ∷ map mark_at ps) n false) (suc (length before)) (map store_at ps) ≡ map (stored marks) ps
      = ap (λ k. with_bits (λ n. get_or (before ++ b ∷ map mark_at ps) n false) k (map store_at ps)) (sym (longer before b)) ∙ ap (λ bs. with_bits (λ n. get_or bs n false) (length (before ++ b ∷ [])) (map store_at ps)) (further before b (map mark_at ps)) ∙ zipped (before ++ b ∷ []) ps in
      ap (λ x. record { line = s.line; note = s.note; proved = x } ∷ with_bits (λ n. get_or (before ++ b ∷ map mark_at ps) n false) (suc (length before)) (map store_at ps)) (got before b (map mark_at ps)) ∙ ap (λ rest. stored marks s ∷ rest) tail

pub stores_are_sites : StoresAreSites
stores_are_sites r numberable marks =
    has_its_marks r (mask_of marks r) numberable
    ∙ ap (with_bits (mask_of marks r) 0) (stores_placed marks 0 r.functions)
    ∙ ap (λ bs. with_bits (λ n. get_or bs n false) 0 (map store_at (all_sites r))) (marks_placed marks 0 r.functions)
    ∙ zipped marks [] (all_sites r)

counted_from : (test : Stored → Bool) (test1 : Placed → Bool) (g : Placed → Stored) → ((s : Placed) → test (g s) ≡ test1 s) → (z : ℕ) (ps : List Placed) → fold (λ a x. a + cond (test x) 1 0) z (map g ps) ≡ fold (λ a x. a + cond (test1 x) 1 0) z ps
counted_from test test1 g same z [] = refl
counted_from test test1 g same z (s ∷ ps) = ap (λ b. fold (λ a x. a + cond (test x) 1 0) (z + cond b 1 0) (map g ps)) (same s) ∙ counted_from test test1 g same (z + cond (test1 s) 1 0) ps

counted : (test : Stored → Bool) (test1 : Placed → Bool) (g : Placed → Stored) → ((s : Placed) → test (g s) ≡ test1 s) → (ps : List Placed) → count_by test (map g ps) ≡ count_by test1 ps
counted test test1 g same ps = counted_from test test1 g same 0 ps

-- two bits that are set in the same case
one_bit : (P : Type 0) (a b : Bool) → (a ≡ true) ↔ P → (b ≡ true) ↔ P → a ≡ b
one_bit P true true x y = refl
one_bit P false false x y = refl
one_bit P true false x y = sym (y.1 (x.0 refl))
one_bit P false true x y = x.1 (y.0 refl)

pub images_have_as_many : ImagesHaveAsMany
images_have_as_many r numberable marks removable may_go may line note bit =
    ap (count_by (is_stored line note bit)) (stores_are_sites r numberable marks)
    ∙ counted (is_stored line note bit) (λ (s : Placed). nat_eq s.line line && (same_note s.note note && same_bit (may_go s.function s.point) bit)) (stored marks)
    (λ s. ap (λ b. nat_eq s.line line && (same_note s.note note && same_bit b bit)) (one_bit (Removable r (temporaries_of r) s.function s.point) (marks s.function s.point) (may_go s.function s.point) (removable s.function s.point) (may s.function s.point))) (all_sites r)
