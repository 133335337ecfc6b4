-- How many numbers below 128 a row lacks.
use Rattle.std.proofs.Common.{◌≡◌, ◌∙◌, inl, inr, ◌<◌, ℕ, true, false, not, ◌==◌, filter, length, sym, ap}
use Rattle.std.specs.List.{range_with_len}
use Rattle.std.proofs.lemmas.Bool.{both_ways, cases_Bool, eqb-true, lt-ltb}
use Rattle.rc_base.specs.BitSets.{marks}
use Rattle.rc_base.proofs.Marks.{marks_below}
use Rattle.rc_facts.proofs.Sets.{any_below, filter-lt}

abbrev pub absent : ℕ → ℕ
absent row = length (filter (λ x. not (marks row x)) (range_with_len 0 128))

-- a row that has one more lacks fewer
pub absent-lt : (row wide x : ℕ) → ((y : ℕ) → marks row y ≡ true → marks wide y ≡ true) → marks wide x ≡ true → marks row x ≡ false → absent wide < absent row
absent-lt row wide x grows there out =
    filter-lt (λ y. not (marks wide y)) (λ y. not (marks row y)) (λ y. x == y) less lost (range_with_len 0 128) (any_below x 128 ∙ lt-ltb x 128 (marks_below wide x there))
  where
    less : (y : ℕ) → not (marks wide y) ≡ true → not (marks row y) ≡ true
    less y gone = elim (cases_Bool (marks row y)) [
      | inl is ↦ absurd (both_ways (not (marks wide y)) (ap not (grows y is)) gone)
      | inr none ↦ ap not none
    ]

    lost : (y : ℕ) → (x == y) ≡ true → (not (marks wide y) ≡ false) × (not (marks row y) ≡ true)
    lost y same =
        let is = eqb-true x y same in
        (ap not (sym (ap (marks wide) is) ∙ there), ap not (sym (ap (marks row) is) ∙ out))
