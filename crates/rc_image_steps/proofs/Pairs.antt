-- What is known where a function begins.
use Rattle.std.proofs.Common.{◌≡◌, ◌∙◌, ◌⊎◌, ℕ, suc, ◌+◌, Bool, true, false, ◌||◌, IsTrue, List, [], ◌∷◌, ◌++◌, ◌↔◌, refl, ap, subst, arith}
use Rattle.std.proofs.lemmas.List.Folds.{list_any-append}
use Rattle.rc_facts.specs.declared.fact.Fact.{Fact}
use Rattle.rc_facts.specs.declared.fact.Fact.TheVariants.{In}
use Rattle.rc_facts.specs.Facts.{same_fact}
use Rattle.rc_annotations.specs.Annotations.{some_pair}
use Rattle.rc_annotations.proofs.Effects.{same_facts}
use Rattle.rc_edges.proofs.Renaming.{same_self}
use Rattle.rc_claims.specs.declared.proofs.Proofs.{Proofs}
use Rattle.rc_claims.specs.Bits.{claims}
use Rattle.rc_claims.specs.Claims.{known_at}
use Rattle.rc_claims.specs.Counts.{copies}
use Rattle.rc_sealed.specs.Carrying.{entry_pairs}
use Rattle.rc_sealed.specs.Claimed.{annotation_of}
use Rattle.rc_image_claims.specs.Naming.{is_listed}
use Rattle.rc_image_steps.specs.declared.site.Site.{Site}
use Rattle.rc_image_steps.specs.Sites.{function_in}
use Rattle.rc_image_steps.proofs.Facts.{same_truth}
use Rattle.rc_image_steps.proofs.Framed.{listed_is}

same_swap : (p q : Fact) → same_fact p q ≡ same_fact q p
same_swap p q = same_truth (same_fact p q) (same_fact q p) (λ e. subst (λ r. IsTrue (same_fact r p)) (same_facts p q e) (same_self p)) (λ e. subst (λ r. IsTrue (same_fact r q)) (same_facts q p e) (same_self q))

three : (a b c : Bool) → ((a || (b || false)) || (c || false)) ≡ (a || (b || c))
three true b c = refl
three false true c = refl
three false false true = refl
three false false false = refl

four : (a b c d : Bool) → ((a || b) || (c || d)) ≡ (a || (c || (d || b)))
four true b c d = refl
four false true true d = refl
four false true false true = refl
four false true false false = refl
four false false true d = refl
four false false false true = refl
four false false false false = refl

pub no_more : (a : Bool) → a ≡ (a || false)
no_more true = refl
no_more false = refl

pub pair_listed : (old new : List Fact) (p q : Fact) → new ≡ (old ++ p ∷ []) ++ q ∷ [] → (fact : Fact) → is_listed new fact ≡ (is_listed old fact || (same_fact fact p || same_fact fact q))
pair_listed old new p q e fact =
    ap (λ (xs : List Fact). is_listed xs fact) e
    ∙ list_any-append (λ r. same_fact r fact) (old ++ p ∷ []) (q ∷ [])
    ∙ ap (λ b. b || (same_fact q fact || false)) (list_any-append (λ r. same_fact r fact) old (p ∷ []))
    ∙ three (is_listed old fact) (same_fact p fact) (same_fact q fact)
    ∙ ap (λ b. is_listed old fact || (b || same_fact q fact)) (same_swap p fact)
    ∙ ap (λ b. is_listed old fact || (same_fact fact p || b)) (same_swap q fact)

pub pairs_more : (base mid new : Bool) (copied k : ℕ) (fact : Fact) → mid ≡ (base || some_pair (entry_pairs copied k) fact) → new ≡ (mid || (same_fact fact (In k (copied + k)) || same_fact fact (In (copied + k) k))) → new ≡ (base || some_pair (entry_pairs copied (k + 1)) fact)
pairs_more base mid new copied k fact old more =
    let e : suc k ≡ k + 1 = omega arith in
    more ∙ ap (λ b. b || (same_fact fact (In k (copied + k)) || same_fact fact (In (copied + k) k))) old
    ∙ four base (some_pair (entry_pairs copied k) fact) (same_fact fact (In k (copied + k))) (same_fact fact (In (copied + k) k))
    ∙ ap (λ n. base || some_pair (entry_pairs copied n) fact) e

pub begins_told : (site : Site) (proofs : Proofs) (none one two : List Fact) (copied : ℕ) → copied ≡ copies (function_in site) → none ≡ []
    → ((fact : Fact) → IsTrue (is_listed one fact) ↔ (IsTrue (is_listed none fact) ⊎ IsTrue (claims copied (known_at proofs site.number).entry fact)))
    → ((fact : Fact) → is_listed two fact ≡ (is_listed one fact || some_pair (entry_pairs copied copied) fact))
    → (fact : Fact) → is_listed two fact ≡ ((annotation_of site.parts.now proofs).entry site.number fact || some_pair (entry_pairs (copies (function_in site)) (copies (function_in site))) fact)
begins_told site proofs none one two copied count empty first second fact =
    second fact ∙ ap (λ b. b || some_pair (entry_pairs copied copied) fact) entry
    ∙ ap (λ n. claims n (known_at proofs site.number).entry fact || some_pair (entry_pairs n n) fact) count
  where
    entry : is_listed one fact ≡ claims copied (known_at proofs site.number).entry fact
    entry = listed_is (is_listed one fact) (claims copied (known_at proofs site.number).entry fact) (subst (λ (xs : List Fact). IsTrue (is_listed one fact) ↔ (IsTrue (is_listed xs fact) ⊎ IsTrue (claims copied (known_at proofs site.number).entry fact))) empty (first fact))
