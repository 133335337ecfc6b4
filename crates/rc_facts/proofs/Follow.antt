-- A variable isn't null where another isn't: that is added first, and what is derivable stays.
use Rattle.std.proofs.Common.{◌≡◌, ◌≢◌, ◌∙◌, ◌↔◌, ℕ, Bool, true, false, ◌==◌, [], ◌∷◌, IsTrue, refl, sym, ap}
use Rattle.std.specs.Prelude.{MatchBool}
use Rattle.std.proofs.lemmas.Bool.{or_left, or_right, both_ways, ne_eqb, eq-eqb}
use Rattle.rc_facts.specs.declared.fact.Fact.{Fact}
use Rattle.rc_facts.specs.declared.fact.Fact.TheVariants.{NonNull}
use Rattle.rc_facts.specs.Facts.{Known, holds}
use Rattle.rc_facts.specs.Shut.{IsShut, IsClean, IsBehind}
use Rattle.rc_facts.proofs.Present.{with_one}
use Rattle.rc_facts.proofs.Added.{shut_again, implied_first}
use Rattle.rc_facts.specs.Derivable.{Derivable, stated}

pub record Followed (n s x y : ℕ) (c first : Fact → Bool) : Type 0 where
  pub shut : IsShut n s first
  pub clean : IsClean s first
  pub there : IsTrue (first (NonNull x)) → IsTrue (first (NonNull y))
  pub same : (new : Fact) → (c (NonNull x) ≡ true → Derivable n (with_one c new) (NonNull y)) → (f : Fact) → IsBehind n s first (new ∷ []) f ↔ IsBehind n s c (new ∷ []) f

pub followed : (n s x y : ℕ) (old new : Known) → IsShut n s (holds old) → IsClean s (holds old) → s ≢ y → MatchBool (holds old (NonNull x)) ((f : Fact) → IsTrue (holds new f) ↔ IsBehind n s (holds old) (NonNull y ∷ []) f) (new ≡ old) → Followed n s x y (holds old) (holds new)
followed n s x y old new shut clean apart m = by (holds old (NonNull x)) refl m
  where
    by : (b : Bool) → holds old (NonNull x) ≡ b → MatchBool b ((f : Fact) → IsTrue (holds new f) ↔ IsBehind n s (holds old) (NonNull y ∷ []) f) (new ≡ old) → Followed n s x y (holds old) (holds new)
    by true is behind =
        let again = shut_again n s (holds old) (holds new) (NonNull y ∷ []) behind in
        record {
          shut = again.0;
          clean = again.1;
          there = λ _. (behind (NonNull y)).1 (stated (or_right (holds old (NonNull y)) _ (or_left (y == y) _ (eq-eqb y y refl))), ne_eqb y s (λ e. apart (sym e)));
          same = λ fact implied. implied_first n s (holds old) (holds new) (NonNull y) fact clean behind (implied is);
        }
    by false out equal = record {
      shut = rw equal shut;
      clean = rw equal clean;
      there = λ is. absurd (both_ways (holds old (NonNull x)) out (sym (ap (λ known. holds known (NonNull x)) equal) ∙ is));
      same = λ fact _ f. rw equal (λ d. d, λ d. d);
    }
