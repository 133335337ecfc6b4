-- A variable that gets the facts of another: `alias` as it stands.
use Rattle.std.proofs.Common.{◌≡◌, ◌≢◌, ◌∙◌, inl, inr, ◌↔◌, ℕ, ◌<◌, Bool, true, false, ◌==◌, cond, [], ◌∷◌, IsTrue, refl, sym, ap}
use Rattle.std.specs.Prelude.{Option, Some, None}
use Rattle.std.proofs.lemmas.Bool.{cases_Bool}
use Rattle.rc_facts.specs.declared.fact.Fact.{Fact}
use Rattle.rc_facts.specs.declared.fact.Fact.TheVariants.{In, Up, Trad, NonNull}
use Rattle.rc_facts.specs.Facts.{names, replaced, with_replaced}
use Rattle.rc_facts.specs.Shut.{together, IsShut, IsClean, spot, pair_by, one_by, extended}
use Rattle.rc_facts.specs.Derivable.{Derivable}
use Rattle.rc_facts.proofs.Shut.{Laws, laws_of, others}
use Rattle.rc_facts.proofs.Table.{beside_row, moved_placed, moved_row, row_exact}

abbrev unspot : ℕ → Option ℕ → ℕ
unspot y None = y
unspot y (Some a) = a

spot_back : (x y a : ℕ) → unspot y (spot x a) ≡ replaced x y a
spot_back x y a = elim (cases_Bool (a == x)) [
  | inl same ↦ ap (λ b. unspot y (cond b None (Some a))) same ∙ sym (ap (λ b. cond b y a) same)
  | inr other ↦ ap (λ b. unspot y (cond b None (Some a))) other ∙ sym (ap (λ b. cond b y a) other)
]

pair_from : (t : ℕ → ℕ → Bool) (y : ℕ) → t y y ≡ true → (o q : Option ℕ) → pair_by t (t y) (λ a. t a y) o q ≡ t (unspot y o) (unspot y q)
pair_from t y own None None = sym own
pair_from t y own None (Some b) = refl
pair_from t y own (Some a) None = refl
pair_from t y own (Some a) (Some b) = refl

one_from : (t : ℕ → Bool) (y : ℕ) (o : Option ℕ) → one_by t (t y) o ≡ t (unspot y o)
one_from t y None = refl
one_from t y (Some a) = refl

module _ (n s : ℕ) (c : Fact → Bool) (l : Laws (others n s) c) (clean : IsClean s c) (x y : ℕ) (inside : others n s y ≡ true) where
  pub alias_is : (f : Fact) → extended x (moved_placed n s c l clean y inside) c f ≡ c (with_replaced x y f)
  alias_is (In a b) = pair_from (λ u v. c (In u v)) y (l.itself y inside) (spot x a) (spot x b) ∙ (λ i. c (In (spot_back x y a i) (spot_back x y b i)))
  alias_is (Up a b) = pair_from (λ u v. c (Up u v)) y (l.in_up y y (l.itself y inside)) (spot x a) (spot x b) ∙ (λ i. c (Up (spot_back x y a i) (spot_back x y b i)))
  alias_is (Trad a) = one_from (λ u. c (Trad u)) y (spot x a) ∙ ap (λ u. c (Trad u)) (spot_back x y a)
  alias_is (NonNull a) = one_from (λ u. c (NonNull u)) y (spot x a) ∙ ap (λ u. c (NonNull u)) (spot_back x y a)

-- what `alias` leaves is what stands behind x = y
pub alias_exact : (n s x y : ℕ) (c : Fact → Bool) → s < n → s ≢ x → others n s y ≡ true → IsShut n s c → IsClean s c → (f : Fact) → IsTrue (c (with_replaced x y f)) ↔ (Derivable n (together c (In s y ∷ In y s ∷ [])) (with_replaced x s f) × (names s f ≡ false))
alias_exact n s x y c below apart inside shut clean f =
    let l = laws_of n s c shut clean in
    let is = alias_is n s c l clean x y inside f in
    let row = row_exact n s x c (In s y ∷ In y s ∷ []) (moved_placed n s c l clean y inside) below apart shut clean (moved_row n s c l clean y inside) f in
    (λ at. row.0 (is ∙ at), λ d. sym is ∙ row.1 d)

-- and behind a new object of the region of y, which isn't null
pub beside_exact : (n s x y : ℕ) (c : Fact → Bool) → s < n → s ≢ x → others n s y ≡ true → IsShut n s c → IsClean s c → c (NonNull y) ≡ true → (f : Fact) → IsTrue (c (with_replaced x y f)) ↔ (Derivable n (together c (NonNull s ∷ In s y ∷ [])) (with_replaced x s f) × (names s f ≡ false))
beside_exact n s x y c below apart inside shut clean there f =
    let l = laws_of n s c shut clean in
    let is = alias_is n s c l clean x y inside f in
    let row = row_exact n s x c (NonNull s ∷ In s y ∷ []) (moved_placed n s c l clean y inside) below apart shut clean (beside_row n s c l clean y inside there) f in
    (λ at. row.0 (is ∙ at), λ d. sym is ∙ row.1 d)
