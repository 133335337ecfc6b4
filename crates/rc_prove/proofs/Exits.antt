-- What a return gives to an exit.
use Rattle.std.proofs.Common.{◌≡◌, ◌∙◌, ℕ, zero, suc, ◌+◌, ◌<◌, Bool, true, false, nat_eq, IsTrue, List, [], ◌∷◌, ◌++◌, length, get_or, refl, sym, ap, subst, inl, inr, ◌⊎◌, arith}
use Rattle.std.specs.List.{range_with_len}
use Rattle.std.proofs.lemmas.Bool.{and_parts, and_from, eqb-true, eq-eqb}
use Rattle.std.proofs.lemmas.List.FromFn.{length-range_with_len, get_or-range_with_len}
use Rattle.rc_facts.specs.declared.fact.Fact.{Fact}
use Rattle.rc_facts.specs.Facts.{Known, holds, is_over}
use Rattle.rc_annotations.specs.Annotations.{fact_with, renamed, renamed_by}
use Rattle.rc_edges.specs.Reading.{Loses, read_by}
use Rattle.rc_edges.proofs.Renaming.{same_names}
use Rattle.rc_edges.proofs.Steps.{over_below}
use Rattle.rc_boundaries.proofs.Lost.{loses_as}
use Rattle.rc_boundaries.proofs.Handing.{exit_long}
use Rattle.rc_prove_parts.specs.declared.spot.Place.{Place}
use Rattle.rc_prove.specs.Visiting.{ExitGives}

exit_name : (copies result v : ℕ) → v < suc copies → get_or (range_with_len 0 copies ++ result ∷ []) v 0 ≡ renamed copies result v
exit_name copies result v lt = by (nat_eq v copies) refl
  where
    long : length (range_with_len 0 copies) ≡ copies
    long = length-range_with_len 0 copies

    get_left : (xs ys : List ℕ) (i : ℕ) → i < length xs → get_or (xs ++ ys) i 0 ≡ get_or xs i 0
    get_left [] ys i l = absurd (omega (arith, l))
    get_left (x ∷ xs) ys zero l = refl
    get_left (x ∷ xs) ys (suc i) l = get_left xs ys i (omega (arith, l))

    get_last : (xs : List ℕ) (y : ℕ) → get_or (xs ++ y ∷ []) (length xs) 0 ≡ y
    get_last [] y = refl
    get_last (x ∷ xs) y = get_last xs y

    order : (a b : ℕ) → (a < b) ⊎ ((a ≡ b) ⊎ (b < a))
    order a b = grind arith

    not_both : false ≡ true → ⊥
    not_both c = cc

    below : nat_eq v copies ≡ false → v < copies
    below e = elim (order v copies) [ inl x ↦ x | inr q ↦ elim q [ inl q ↦ absurd (not_both (sym e ∙ eq-eqb v copies q)) | inr x ↦ absurd (omega (arith, lt, x)) ] ]

    by : (b : Bool) → nat_eq v copies ≡ b → get_or (range_with_len 0 copies ++ result ∷ []) v 0 ≡ renamed_by b result v
    by true e = ap (λ i. get_or (range_with_len 0 copies ++ result ∷ []) i 0) (eqb-true v copies e ∙ sym long) ∙ get_last (range_with_len 0 copies) result
    by false e = let l = below e in get_left (range_with_len 0 copies) (result ∷ []) v (omega (arith, l, long)) ∙ get_or-range_with_len 0 copies v 0 l ∙ (let q : 0 + v ≡ v = omega arith in q)

pub given_exit : (where_is : Place) (lost : Bool) (old new : List Known) (work found : Known) (names : List ℕ) → names ≡ range_with_len 0 where_is.copies ++ where_is.result ∷ [] → Loses lost old new (λ p fact. p ≡ where_is.function → IsTrue (holds found fact)) → ((fact : Fact) → holds found fact ≡ read_by names work fact) → Loses lost old new (ExitGives where_is true work)
given_exit where_is lost old new work found names own l read = loses_as lost old new (λ p fact. p ≡ where_is.function → IsTrue (holds found fact)) (ExitGives where_is true work) (λ p fact. (λ t q r. there fact (t q), λ t q. back fact (t q refl))) l
  where
    count : length names ≡ suc where_is.copies
    count = let e = exit_long names where_is.copies where_is.result own in omega (arith, e)

    same : (fact : Fact) → is_over (suc where_is.copies) fact ≡ true → fact_with (λ v. get_or names v 0) fact ≡ fact_with (renamed where_is.copies where_is.result) fact
    same fact over = same_names (suc where_is.copies) (λ v. get_or names v 0) (renamed where_is.copies where_is.result) (λ v lt. ap (λ xs. get_or xs v 0) own ∙ exit_name where_is.copies where_is.result v lt) fact (over_below (suc where_is.copies) fact over)

    there : (fact : Fact) → IsTrue (holds found fact) → IsTrue (is_over (suc where_is.copies) fact) × IsTrue (holds work (fact_with (renamed where_is.copies where_is.result) fact))
    there fact is =
        let q = and_parts (is_over (length names) fact) (holds work (fact_with (λ v. get_or names v 0) fact)) (sym (read fact) ∙ is) in
        let over : is_over (suc where_is.copies) fact ≡ true = subst (λ n. is_over n fact ≡ true) count q.0 in
        (over, subst (λ p. IsTrue (holds work p)) (same fact over) q.1)

    back : (fact : Fact) → IsTrue (is_over (suc where_is.copies) fact) × IsTrue (holds work (fact_with (renamed where_is.copies where_is.result) fact)) → IsTrue (holds found fact)
    back fact t = read fact ∙ and_from (is_over (length names) fact) (holds work (fact_with (λ v. get_or names v 0) fact)) (subst (λ n. is_over n fact ≡ true) (sym count) t.0) (subst (λ p. IsTrue (holds work p)) (sym (same fact t.0)) t.1)
