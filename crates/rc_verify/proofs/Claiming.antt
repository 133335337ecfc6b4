-- Sets of the facts of exits.
use Rattle.std.proofs.Common.{◌≡◌, ◌∙◌, ◌↔◌, ◌⊎◌, ◌&&◌, ℕ, zero, suc, ◌+◌, ◌<◌, ◌≤◌, ◌++◌, Bool, true, false, IsTrue, List, [], ◌∷◌, refl, sym, ap, subst, inl, inr, arith, length-append}
use Rattle.std.specs.Prelude.{length, get_or, nat_lt}
use Rattle.std.specs.List.{All}
use Rattle.std.proofs.lemmas.Bool.{and_parts, ltb-true}
use Rattle.rc_facts.specs.declared.fact.Fact.{Fact}
use Rattle.rc_facts.specs.declared.fact.Fact.TheVariants.{In, Up, Trad, NonNull}
use Rattle.rc_facts.specs.Facts.{Known, holds, is_over}
use Rattle.rc_facts.specs.Flow.{no_set, set_at}
use Rattle.rc_annotations.specs.Annotations.{fact_with}
use Rattle.rc_code.specs.declared.image.Parts.{Parts}
use Rattle.rc_code.specs.Running.{reading_of, function_at}
use Rattle.rc_claims.specs.declared.proofs.Proofs.{Proofs}
use Rattle.rc_claims.specs.declared.proofs.Known.{Known as Claims}
use Rattle.rc_claims.specs.Bits.{bit_in, bit_number, claims}
use Rattle.rc_claims.specs.Claims.{known_at, no_known, ProofsFit}
use Rattle.rc_claims.proofs.BitLaws.{no_bit_is}
use Rattle.rc_claims.specs.Counts.{exit_count}
use Rattle.rc_sealed.specs.Claimed.{annotation_of}
use Rattle.rc_image_claims.specs.Naming.{is_listed, Named}
use Rattle.rc_verify.specs.Passes.{AreClaimed, AreFirstExits, IsExit}
use Rattle.rc_verify.proofs.Entering.{all_listed}

equal : (a b : Bool) → (IsTrue a → IsTrue b) → (IsTrue b → IsTrue a) → a ≡ b
equal true b h k = sym (h refl)
equal false true h k = k refl
equal false false h k = refl

-- these are listed behind the others
abbrev pub Listing : (facts others : List Fact) → (bytes names : List ℕ) → Type 0
Listing facts others bytes names = (fact : Fact) → IsTrue (is_listed facts fact) ↔ (IsTrue (is_listed others fact) ⊎ Named (claims (length names) bytes) names fact)

-- each variable has its own number for a name
module _ (n : ℕ) (names : List ℕ) (each : (x : ℕ) → x < n → get_or names x 0 ≡ x) where
  abbrev name : ℕ → ℕ
  name v = get_or names v 0

  one : (x : ℕ) → IsTrue (nat_lt x n) → name x ≡ x
  one x lt = each x (ltb-true x n lt)

  same_named : (p : Fact) → IsTrue (is_over n p) → fact_with name p ≡ p
  same_named (In x y) o = let b = and_parts (nat_lt x n) (nat_lt y n) o in ap (λ v. In v (name y)) (one x b.0) ∙ ap (In x) (one y b.1)
  same_named (Up x y) o = let b = and_parts (nat_lt x n) (nat_lt y n) o in ap (λ v. Up v (name y)) (one x b.0) ∙ ap (Up x) (one y b.1)
  same_named (Trad x) o = ap Trad (one x o)
  same_named (NonNull x) o = ap NonNull (one x o)

  module _ (bytes : List ℕ) (long : length names ≡ n) (facts : List Fact) (are : Listing facts [] bytes names) where
    claim_over : (p : Fact) → IsTrue (claims n bytes p) → IsTrue (is_over n p)
    claim_over p e = (and_parts (is_over n p) _ e).0

    to : (p : Fact) → IsTrue (is_listed facts p) → IsTrue (claims n bytes p)
    to p l = by ((are p).0 l)
      where
        by : IsTrue (is_listed [] p) ⊎ Named (claims (length names) bytes) names p → IsTrue (claims n bytes p)
        by (inl none) = cc
        by (inr named) =
            let has : IsTrue (claims n bytes named.of) = subst (λ m. IsTrue (claims m bytes named.of)) long named.has in
            subst (λ q. IsTrue (claims n bytes q)) (sym (same_named named.of (claim_over named.of has)) ∙ named.named) has

    from : (p : Fact) → IsTrue (claims n bytes p) → IsTrue (is_listed facts p)
    from p e = (are p).1 (inr (record {
      of = p;
      over = subst (λ m. IsTrue (is_over m p)) (sym long) (claim_over p e);
      has = subst (λ m. IsTrue (claims m bytes p)) (sym long) e;
      named = same_named p (claim_over p e);
    }))

    pub listed_claims : (p : Fact) → is_listed facts p ≡ claims n bytes p
    listed_claims p = equal (is_listed facts p) (claims n bytes p) (to p) (from p)

    pub listed_over : All (λ p. IsTrue (is_over n p)) facts
    listed_over = all_listed (λ p. IsTrue (is_over n p)) facts (λ p l. claim_over p (to p l))

-- ---- all of them

past : {A : Type 0} (xs : List A) (h : ℕ) (d : A) → length xs ≤ h → get_or xs h d ≡ d
past [] h d le = refl
past (x ∷ xs) zero d le = absurd (omega (arith, le))
past (x ∷ xs) (suc h) d le = past xs h d (omega (arith, le))

holds_none : (fact : Fact) → holds no_set fact ≡ false
unfolding holds
holds_none fact = refl

neither : (a b : Bool) → b ≡ false → (a && b) ≡ false
neither true b e = e
neither false b e = refl

claims_none : (n : ℕ) (fact : Fact) → claims n [] fact ≡ false
claims_none n fact = neither (is_over n fact) (bit_in [] (bit_number n fact)) (no_bit_is [] (bit_number n fact) refl)

module _ (parts : Parts) (proofs : Proofs) where
  pub one_more_exit : (number : ℕ) (exits : List Known) (set : Known) → AreFirstExits parts proofs number exits → IsExit (function_at (reading_of parts) number) (known_at proofs number) set → AreFirstExits parts proofs (number + 1) (exits ++ set ∷ [])
  one_more_exit number exits set are is = record { long = length_next exits set are.long; each = λ h lt. by h (order h number) lt }
    where
      length_next : (xs : List Known) (x : Known) → length xs ≡ number → length (xs ++ x ∷ []) ≡ number + 1
      length_next xs x e = let l = length-append xs (x ∷ []) in omega (arith, l, e)

      order : (a b : ℕ) → (a < b) ⊎ ((a ≡ b) ⊎ (b < a))
      order a b = grind arith

      front : (xs : List Known) (h : ℕ) → h < length xs → get_or (xs ++ set ∷ []) h no_set ≡ get_or xs h no_set
      front [] h lt = absurd (omega (arith, lt))
      front (x ∷ xs) zero lt = refl
      front (x ∷ xs) (suc h) lt = front xs h (omega (arith, lt))

      last : (xs : List Known) (h : ℕ) → h ≡ length xs → get_or (xs ++ set ∷ []) h no_set ≡ set
      last [] zero e = refl
      last [] (suc h) e = cc
      last (x ∷ xs) zero e = cc
      last (x ∷ xs) (suc h) e = last xs h (omega (arith, e))

      by : (h : ℕ) → (h < number) ⊎ ((h ≡ number) ⊎ (number < h)) → h < number + 1 → IsExit (function_at (reading_of parts) h) (known_at proofs h) (get_or (exits ++ set ∷ []) h no_set)
      by h (inl lt) i = subst (IsExit (function_at (reading_of parts) h) (known_at proofs h)) (sym (front exits h (let l = are.long in omega (arith, lt, l)))) (are.each h lt)
      by h (inr (inl e)) i =
          subst (IsExit (function_at (reading_of parts) h) (known_at proofs h)) (sym (last exits h (let l = are.long in omega (arith, e, l))))
          (subst (λ k. IsExit (function_at (reading_of parts) k) (known_at proofs k) set) (sym e) is)
      by h (inr (inr l)) i = absurd (omega (arith, l, i))

  pub no_exits : (exits : List Known) → exits ≡ [] → AreFirstExits parts proofs 0 exits
  no_exits exits e = record { long = ap length e; each = λ h lt. absurd (omega (arith, lt)) }

  pub are_claimed : (exits : List Known) → ProofsFit parts proofs → AreFirstExits parts proofs (length parts.functions) exits → AreClaimed parts proofs exits
  are_claimed exits fit are = record {
    exits = record { long = are.long; each = λ h lt. (let v = (are.each h lt).variables in omega (arith, v)) };
    leaves = λ h fact. by h fact (order h (length parts.functions));
  }
    where
      order : (a b : ℕ) → (a < b) ⊎ (b ≤ a)
      order a b = grind arith

      by : (h : ℕ) (fact : Fact) → (h < length parts.functions) ⊎ (length parts.functions ≤ h) → set_at exits h fact ≡ (annotation_of parts proofs).exit h fact
      by h fact (inl lt) = (are.each h lt).facts fact
      by h fact (inr le) =
          ap (λ (k : Known). holds k fact) (past exits h no_set (let l = are.long in omega (arith, le, l)))
          ∙ holds_none fact
          ∙ sym (ap (λ (k : Claims). claims (exit_count (function_at (reading_of parts) h)) k.exit fact) (past proofs.functions h no_known (let l = fit.long in omega (arith, le, l))) ∙ claims_none (exit_count (function_at (reading_of parts) h)) fact)
