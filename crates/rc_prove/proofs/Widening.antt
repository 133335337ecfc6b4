-- A set that is read under its own names.
use Rattle.std.proofs.Common.{◌≡◌, ◌∙◌, ◌&&◌, ℕ, ◌+◌, Bool, true, false, IsTrue, List, length, get_or, sym, ap, refl, arith}
use Rattle.std.specs.List.{range_with_len}
use Rattle.std.proofs.lemmas.List.FromFn.{length-range_with_len, get_or-range_with_len}
use Rattle.rc_facts.specs.declared.fact.Fact.{Fact}
use Rattle.rc_facts.specs.Facts.{Known, holds, is_over}
use Rattle.rc_annotations.specs.Annotations.{fact_with}
use Rattle.rc_edges.specs.Reading.{read_by}
use Rattle.rc_edges.proofs.Renaming.{same_names, own_name}
use Rattle.rc_edges.proofs.Steps.{over_below}

pub read_own : (count : ℕ) (own : List ℕ) (set : Known) → own ≡ range_with_len 0 count → ((fact : Fact) → IsTrue (holds set fact) → IsTrue (is_over count fact)) → (p : Fact) → read_by own set p ≡ holds set p
read_own count own set e over p = ap (λ n. is_over n p && holds set (fact_with (λ v. get_or own v 0) p)) long ∙ by (is_over count p) refl
  where
    long : length own ≡ count
    long = ap length e ∙ length-range_with_len 0 count

    by : (b : Bool) → is_over count p ≡ b → (b && holds set (fact_with (λ v. get_or own v 0) p)) ≡ holds set p
    by true q = ap (holds set) (same_names count (λ v. get_or own v 0) (λ v. v) (λ v lt. ap (λ xs. get_or xs v 0) e ∙ get_or-range_with_len 0 count v 0 lt ∙ (let z : 0 + v ≡ v = omega arith in z)) p (over_below count p q) ∙ own_name p)
    by false q = none (holds set p) refl
      where
        none : (b : Bool) → holds set p ≡ b → false ≡ holds set p
        none true h = absurd (let o : false ≡ true = sym q ∙ over p h in cc)
        none false h = sym h
