-- What effects make of a closed set.
use Rattle.std.proofs.Common.{◌≡◌, ◌↔◌, ℕ, zero, suc, ◌-◌, ◌<◌, false, IsTrue, List, [], ◌∷◌, length, refl, sym, ap, arith}
use Rattle.std.specs.Prelude.{Option, Some, None, option_map}
use Rattle.std.specs.List.{All}
use Rattle.std.proofs.lemmas.Bool.{ne_eqb, or_left, or_right}
use Rattle.rc_facts.specs.declared.fact.Fact.{Fact}
use Rattle.rc_facts.specs.declared.fact.Fact.TheVariants.{In, NonNull}
use Rattle.rc_facts.specs.Derivable.{stated}
use Rattle.rc_facts.specs.Null.{in_each, null_news}
use Rattle.rc_facts.specs.Facts.{is_over, names, same_fact}
use Rattle.rc_facts.specs.Shut.{IsBehind}
use Rattle.rc_facts.proofs.Table.{after_first}
use Rattle.rc_rlang.specs.RegionFlow.{absent, called}
use Rattle.rc_annotations.specs.Annotations.{Annotation}
use Rattle.rc_facts.specs.Flow.{Facts, IsClosed}
use Rattle.rc_edges.specs.Edges.{all_below, renewed}
use Rattle.rc_edges.specs.News.{places_of, rows_news}
use Rattle.rc_edges.proofs.Adding.{news_are}
use Rattle.rc_edges.proofs.Renaming.{same_self}

unnamed : (s y : ℕ) → y < s → names s (NonNull y) ≡ false
unnamed s y lt = ne_eqb y s (λ e. let r = e in omega (arith, r, lt))

-- a variable isn't null, and other facts are new
pub behind_present : (n s y : ℕ) (news : List Fact) (before first after : Facts) → y < s → IsClosed n s before → ((f : Fact) → IsTrue (first f) ↔ IsBehind n s before (NonNull y ∷ []) f) → ((f : Fact) → IsTrue (after f) ↔ IsBehind n s first news f) → (f : Fact) → IsTrue (after f) ↔ IsBehind n s before (NonNull y ∷ news) f
behind_present n s y news before first after lt closed is then f =
    let both = after_first n s before first (NonNull y) news closed.clean (unnamed s y lt) is f in
    (λ at. (let d = (then f).0 at in (both.0 d.0, d.1)), λ d. (then f).1 (both.1 d.0, d.1))

-- a fact that doesn't name the scratch variable is new, and then others
pub behind_then : (n s : ℕ) (fact : Fact) (news : List Fact) (before first after : Facts) → names s fact ≡ false → IsClosed n s before → ((f : Fact) → IsTrue (first f) ↔ IsBehind n s before (fact ∷ []) f) → ((f : Fact) → IsTrue (after f) ↔ IsBehind n s first news f) → (f : Fact) → IsTrue (after f) ↔ IsBehind n s before (fact ∷ news) f
behind_then n s fact news before first after unnamed closed is then f =
    let both = after_first n s before first fact news closed.clean unnamed is f in
    (λ at. (let d = (then f).0 at in (both.0 d.0, d.1)), λ d. (then f).1 (both.1 d.0, d.1))

pub unnamed_in : (s x y : ℕ) → x < s → y < s → names s (In x y) ≡ false
unnamed_in s x y l k = rw (ne_eqb x s (λ e. let r = e in omega (arith, r, l)), ne_eqb y s (λ e. let r = e in omega (arith, r, k))) refl

pub null_over : (n s y : ℕ) → suc s ≡ n → y < s → All (λ p. IsTrue (is_over n p)) (null_news n y)
null_over n s y e lt = (news_are n (record { before = λ g p fact. false; entry = λ g fact. false; exit = λ g fact. false }) (absent y) (omega (arith, e, lt))).over

pub each_last : (k x : ℕ) → 0 < k → in_each k x ≡ In x (k - 1) ∷ in_each (k - 1) x
each_last zero x l = absurd (omega (arith, l))
each_last (suc k) x l = ap (λ j. In x j ∷ in_each j x) (let e : k ≡ suc k - 1 = omega arith in e)

pub none_there : {A : Type 0} (xs : List A) → length xs ≡ 0 → xs ≡ []
none_there [] e = refl
none_there (x ∷ xs) e = absurd (omega (arith, e))

-- then it has that
pub present_there : (n s y : ℕ) (before first : Facts) → y < s → ((f : Fact) → IsTrue (first f) ↔ IsBehind n s before (NonNull y ∷ []) f) → IsTrue (first (NonNull y))
present_there n s y before first lt is = (is (NonNull y)).1 (stated (or_right (before (NonNull y)) _ (or_left (same_fact (NonNull y) (NonNull y)) false (same_self (NonNull y)))), unnamed s y lt)

-- ---- calls

pub renewed_call : (s : ℕ) (x : Option ℕ) (g : ℕ) (arguments : List ℕ) → renewed s (called x g arguments) ≡ called (option_map (λ _. s) x) g arguments
renewed_call s None g arguments = refl
renewed_call s (Some x) g arguments = refl

more_args : (s : ℕ) (xs : List ℕ) → all_below s xs → all_below (suc s) xs
more_args s [] b = tt {0}
more_args s (x ∷ xs) b = ((let l = b.0 in omega (arith, l)), more_args s xs b.1)

pub learned_over : (n s : ℕ) (x : Option ℕ) (arguments : List ℕ) (exit : Facts) → suc s ≡ n → all_below s arguments → All (λ p. IsTrue (is_over n p)) (rows_news exit (places_of arguments (option_map (λ _. s) x)) (places_of arguments (option_map (λ _. s) x)) 0)
learned_over n s x arguments exit e below = rw (sym e) (by x)
  where
    leaving : Annotation
    leaving = record { before = λ g p fact. false; entry = λ g fact. false; exit = λ g. exit }

    by : (x : Option ℕ) → All (λ p. IsTrue (is_over (suc s) p)) (rows_news exit (places_of arguments (option_map (λ _. s) x)) (places_of arguments (option_map (λ _. s) x)) 0)
    by None = (news_are (suc s) leaving (called None 0 arguments) (tt {0}, more_args s arguments below)).over
    by (Some x) = (news_are (suc s) leaving (called (Some s) 0 arguments) (omega arith, more_args s arguments below)).over
