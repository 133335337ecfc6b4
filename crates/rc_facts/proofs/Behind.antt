-- What stands behind new facts, fact by fact.
use Rattle.std.proofs.Common.{◌≡◌, ◌≢◌, ◌∙◌, ◌⊎◌, inl, inr, ◌↔◌, ℕ, ◌<◌, Bool, true, false, ◌||◌, not, nat_eq, List, [], ◌∷◌, IsTrue, refl, sym, ap, subst}
use Rattle.std.specs.Prelude.{Option, Some, None}
use Rattle.std.specs.List.{list_any}
use Rattle.std.proofs.lemmas.Bool.{or_cases, or_left, or_right, both_ways, ne_eqb}
use Rattle.rc_facts.specs.declared.fact.Fact.{Fact}
use Rattle.rc_facts.specs.declared.fact.Fact.TheVariants.{NonNull}
use Rattle.rc_facts.specs.Derivable.{Derivable, stated, in_itself, in_through, up_through, up_by_in, in_back, present_by_in, present_by_up, trad_by_up, up_by_trad, in_by_trad}
use Rattle.rc_facts.specs.Facts.{names, same_fact, replaced, with_replaced}
use Rattle.rc_facts.specs.Flow.{Behind, Facts, IsClosed}
use Rattle.rc_facts.specs.Shut.{together, IsBehind, IsShut}
use Rattle.rc_facts.proofs.Added.{shut_again}
use Rattle.rc_facts.proofs.Sets.{same_fact-true}
use Rattle.rc_facts.proofs.Table.{after_first, follows_cut}

derivable_more : {n : ℕ} {given others : Facts} → ((p : Fact) → IsTrue (given p) → IsTrue (others p)) → {fact : Fact} → Derivable n given fact → Derivable n others fact
derivable_more h d = follows_cut (λ p is. stated (h p is)) d

pub derived_to : (n : ℕ) (news : List Fact) (before added closed : Facts) → ((p : Fact) → added p ≡ together before news p) → ((p : Fact) → IsTrue (closed p) ↔ Derivable n added p) → (fact : Fact) → IsTrue (closed fact) ↔ Derivable n (together before news) fact
derived_to n news before added closed same closes fact = (λ is. derivable_more (λ p e. sym (same p) ∙ e) ((closes fact).0 is), λ d. (closes fact).1 (derivable_more (λ p e. same p ∙ e) d))

more_or : (b o g : Bool) → (b ≡ true → o ≡ true) → (b || g) ≡ true → (o || g) ≡ true
more_or b o g h e = elim (or_cases b g e) [ inl x ↦ or_left o g (h x) | inr y ↦ or_right o g y ]

-- what stands behind fewer facts stands behind more
pub behind_more : (n scratch : ℕ) (assigned : Option ℕ) (news : List Fact) (before others : Facts) (fact : Fact) → ((p : Fact) → IsTrue (before p) → IsTrue (others p)) → Behind n scratch assigned news before fact → Behind n scratch assigned news others fact
behind_more n scratch None news before others fact h b = (derivable_more (λ p e. more_or (before p) (others p) _ (h p) e) b.0, b.1)
behind_more n scratch (Some x) news before others fact h b = (derivable_more (λ p e. more_or (before p) (others p) _ (h p) e) b.0, b.1)

-- a derivation with one name for another
replaced_under : (n x scratch u : ℕ) → scratch < n → u < n → replaced x scratch u < n
replaced_under n x scratch u lt under = by (nat_eq u x) refl
  where
    by : (b : Bool) → nat_eq u x ≡ b → replaced x scratch u < n
    by true e = rw e lt
    by false e = rw e under

pub derivable_replaced : {n : ℕ} {given others : Facts} (x scratch : ℕ) → scratch < n → ((p : Fact) → IsTrue (given p) → Derivable n others (with_replaced x scratch p)) → {fact : Fact} → Derivable n given fact → Derivable n others (with_replaced x scratch fact)
derivable_replaced x s lt h (stated is) = h _ is
derivable_replaced {n} x s lt h (in_itself {x = u} below) = in_itself (replaced_under n x s u lt below)
derivable_replaced x s lt h (in_through one two) = in_through (derivable_replaced x s lt h one) (derivable_replaced x s lt h two)
derivable_replaced x s lt h (up_through one two) = up_through (derivable_replaced x s lt h one) (derivable_replaced x s lt h two)
derivable_replaced x s lt h (up_by_in one) = up_by_in (derivable_replaced x s lt h one)
derivable_replaced x s lt h (in_back one two) = in_back (derivable_replaced x s lt h one) (derivable_replaced x s lt h two)
derivable_replaced x s lt h (present_by_in one two) = present_by_in (derivable_replaced x s lt h one) (derivable_replaced x s lt h two)
derivable_replaced x s lt h (present_by_up one two) = present_by_up (derivable_replaced x s lt h one) (derivable_replaced x s lt h two)
derivable_replaced x s lt h (trad_by_up one two) = trad_by_up (derivable_replaced x s lt h one) (derivable_replaced x s lt h two)
derivable_replaced x s lt h (up_by_trad one two) = up_by_trad (derivable_replaced x s lt h one) (derivable_replaced x s lt h two)
derivable_replaced x s lt h (in_by_trad one two three) = in_by_trad (derivable_replaced x s lt h one) (derivable_replaced x s lt h two) (derivable_replaced x s lt h three)

-- where no new fact is lacked, the set is what it would be closed
none_new : (before : Facts) (news : List Fact) → list_any (λ p. not (before p)) news ≡ false → (fact : Fact) → list_any (λ p. same_fact p fact) news ≡ true → before fact ≡ true
none_new before [] none fact is = cc
none_new before (p ∷ ps) none fact is = by (before p) refl (or_cases (same_fact p fact) (list_any (λ p. same_fact p fact) ps) is) (λ q later. none_new before ps q fact later)
  where
    by : (b : Bool) → before p ≡ b → (same_fact p fact ≡ true) ⊎ (list_any (λ p. same_fact p fact) ps ≡ true) → (list_any (λ p. not (before p)) ps ≡ false → list_any (λ p. same_fact p fact) ps ≡ true → before fact ≡ true) → before fact ≡ true
    by true e (inl same) again = subst (λ q. before q ≡ true) (same_fact-true p fact same) e
    by true e (inr later) again = again (ap (λ b. not b || list_any (λ p. not (before p)) ps) (sym e) ∙ none) later
    by false e found again = let absent : true ≡ false = ap (λ b. not b || list_any (λ p. not (before p)) ps) (sym e) ∙ none in cc

pub settled_same : (n scratch : ℕ) (news : List Fact) (before : Facts) → IsShut n scratch before → list_any (λ p. not (before p)) news ≡ false → (fact : Fact) → names scratch fact ≡ false → IsTrue (before fact) ↔ Derivable n (together before news) fact
settled_same n scratch news before shut none fact apart = (λ is. stated (or_left (before fact) _ is), λ d. shut fact apart (derivable_more had d))
  where
    had : (p : Fact) → IsTrue (together before news p) → IsTrue (before p)
    had p is = elim (or_cases (before p) _ is) [ inl old ↦ old | inr new ↦ none_new before news none p new ]

-- what is left is closed again
pub closed_again : (n s : ℕ) (before after : Facts) (news : List Fact) → ((f : Fact) → IsTrue (after f) ↔ IsBehind n s before news f) → IsClosed n s after
closed_again n s before after news is = let both = shut_again n s before after news is in record { shut = both.0; clean = both.1 }

-- a closed set has what stands behind no facts
pub behind_nothing : (n s : ℕ) (before : Facts) → IsClosed n s before → (f : Fact) → IsTrue (before f) ↔ IsBehind n s before [] f
behind_nothing n s before closed f = (λ is. (stated (or_left (before f) false is), closed.clean f is), λ d. closed.shut f d.1 (follows_cut old d.0))
  where
    old : (g : Fact) → together before [] g ≡ true → Derivable n before g
    old g at = elim (or_cases (before g) false at) [ inl is ↦ stated is | inr none ↦ absurd (both_ways false refl none) ]

-- and behind a fact that it has
pub behind_known : (n s : ℕ) (before : Facts) (fact : Fact) → IsClosed n s before → before fact ≡ true → (f : Fact) → IsTrue (before f) ↔ IsBehind n s before (fact ∷ []) f
behind_known n s before fact closed there f = (λ is. (stated (or_left (before f) _ is), closed.clean f is), λ d. closed.shut f d.1 (follows_cut old d.0))
  where
    old : (g : Fact) → together before (fact ∷ []) g ≡ true → Derivable n before g
    old g at = elim (or_cases (before g) _ at) [
      | inl is ↦ stated is
      | inr new ↦ elim (or_cases (same_fact fact g) false new) [
        | inl same ↦ stated (sym (ap before (same_fact-true fact g same)) ∙ there)
        | inr none ↦ absurd (both_ways false refl none)
      ]
    ]

-- where another variable isn't null, that is added first
pub behind_first : (n s x y : ℕ) (before first after : Facts) (rest : List Fact) → IsClosed n s before → s ≢ y → ((f : Fact) → IsTrue (first f) ↔ IsBehind n s before (NonNull y ∷ []) f) → ((f : Fact) → IsTrue (after f) ↔ Behind n s (Some x) rest first f) → (f : Fact) → IsTrue (after f) ↔ Behind n s (Some x) (NonNull y ∷ rest) before f
behind_first n s x y before first after rest closed apart is then f =
    let both = after_first n s before first (NonNull y) rest closed.clean (ne_eqb y s (λ e. apart (sym e))) is (with_replaced x s f) in
    (λ at. (let d = (then f).0 at in (both.0 d.0, d.1)), λ d. (then f).1 (both.1 d.0, d.1))
