-- What edges carry is what is allowed behind effects.
use Rattle.std.proofs.Common.{◌≡◌, ℕ, suc, ◌<◌, ◌≤◌, Bool, true, false, ◌||◌, ◌↔◌, nat_eq, nat_lt, List, Option, Some, None, refl, sym, ap, ◌∙◌, subst, inl, inr, arith}
use Rattle.std.specs.Prelude.{if◌then◌else◌}
use Rattle.std.proofs.lemmas.Bool.{or_cases, or_left, or_right, eqb-true, eq-eqb, lt-ltb, ltb-true}
use Rattle.rc_facts.specs.declared.fact.Fact.{Fact}
use Rattle.rc_facts.specs.declared.fact.Fact.TheVariants.{In, Up, Trad, NonNull}
use Rattle.rc_facts.specs.Facts.{names, replaced, with_replaced}
use Rattle.rc_facts.specs.Derivable.{Derivable, stated}
use Rattle.rc_rlang.specs.RegionFlow.{Effect, assigned, one_of}
use Rattle.rc_annotations.specs.Annotations.{Facts, Annotation, gained, exit_facts, allowed, allowed_where, fact_with, renamed, renamed_by, is_below, assigning}
use Rattle.rc_facts.specs.Flow.{Behind}
use Rattle.rc_facts.specs.Shut.{together}
use Rattle.rc_edges.specs.Edges.{EffectBelow, AreNews, Crossed, renewed, renewed_by}
use Rattle.rc_edges.specs.EdgeLaws.{AllBelow}
use Rattle.rc_edges.specs.News.{news_of}
use Rattle.rc_edges.proofs.Adding.{news_are}
use Rattle.rc_edges.proofs.Downward.{renewed_below}
use Rattle.rc_edges.proofs.Renaming.{derivable_under, fixed_names, same_names, names_twice, renewed_under, gained_under, clamped, clamped_below, clamped_over, clamped_less, over_clamped}

not_both : {P : Type 0} (b : Bool) → b ≡ true → b ≡ false → P
not_both true e d = cc
not_both false e d = cc

unlike : (x s : ℕ) → x < s → nat_eq x s ≡ false
unlike x s l = by (nat_eq x s) refl
  where
    by : (b : Bool) → nat_eq x s ≡ b → nat_eq x s ≡ false
    by true e = let q = eqb-true x s e in absurd (omega (arith, l, q))
    by false e = e

none_named : (s : ℕ) (p : Fact) → is_below s p → names s p ≡ false
none_named s (In x y) b = rw (unlike x s b.0, unlike y s b.1) refl
none_named s (Up x y) b = rw (unlike x s b.0, unlike y s b.1) refl
none_named s (Trad x) b = unlike x s b
none_named s (NonNull x) b = unlike x s b

-- the scratch variable s by another name u

abbrev respelled : (s u : ℕ) → ℕ → ℕ
respelled s u v = renamed_by (nat_eq v s) u v

respelled_below : (s u v : ℕ) → v < s → respelled s u v ≡ v
respelled_below s u v l = ap (λ b. renamed_by b u v) (unlike v s l)

respelled_itself : (s u : ℕ) → respelled s u s ≡ u
respelled_itself s u = ap (λ b. renamed_by b u s) (eq-eqb s s refl)

respelled_less : (n s u v : ℕ) → s < n → u < n → v < suc s → respelled s u v < n
respelled_less n s u v below lt l = by (nat_eq v s)
  where
    by : (b : Bool) → renamed_by b u v < n
    by true = lt
    by false = omega (arith, below, l)

replaced_is : (x s : ℕ) (p : Fact) → fact_with (renamed x s) p ≡ with_replaced x s p
replaced_is x s (In a b) = ap (λ z. In z (renamed x s b)) (by a (nat_eq a x)) ∙ ap (λ z. In (replaced x s a) z) (by b (nat_eq b x))
  where
    by : (a : ℕ) (c : Bool) → renamed_by c s a ≡ (if c then s else a)
    by a true = refl
    by a false = refl
replaced_is x s (Up a b) = ap (λ z. Up z (renamed x s b)) (by a (nat_eq a x)) ∙ ap (λ z. Up (replaced x s a) z) (by b (nat_eq b x))
  where
    by : (a : ℕ) (c : Bool) → renamed_by c s a ≡ (if c then s else a)
    by a true = refl
    by a false = refl
replaced_is x s (Trad a) = ap (λ z. Trad z) (by (nat_eq a x))
  where
    by : (c : Bool) → renamed_by c s a ≡ (if c then s else a)
    by true = refl
    by false = refl
replaced_is x s (NonNull a) = ap (λ z. NonNull z) (by (nat_eq a x))
  where
    by : (c : Bool) → renamed_by c s a ≡ (if c then s else a)
    by true = refl
    by false = refl

-- clamping a name that was put in place of another, and back

put_clamped : (s u x v : ℕ) → s ≤ u → v < s → clamped s (renamed x u v) ≡ renamed x s v
put_clamped s u x v over l = by (nat_eq v x)
  where
    by : (b : Bool) → clamped s (renamed_by b u v) ≡ renamed_by b s v
    by true = clamped_over s u over
    by false = clamped_below s v l

put_respelled : (s u x v : ℕ) → v < s → respelled s u (renamed x s v) ≡ renamed x u v
put_respelled s u x v l = by (nat_eq v x)
  where
    by : (b : Bool) → respelled s u (renamed_by b s v) ≡ renamed_by b u v
    by true = respelled_itself s u
    by false = respelled_below s u v l

module _ (n s u : ℕ) (a : Annotation) (effect : Effect) (before : Facts) (news : List Fact) (over : s < u) (lt : u < n) (below : EffectBelow s effect) (old : AllBelow s before) (new : AreNews (suc s) (exit_facts a) (renewed s effect) news) where
  -- of what is known before, or added on n variables
  down_given : (p : Fact) → (before p || gained (exit_facts a) (renewed u effect) p) ≡ true → Derivable (suc s) (together before news) (fact_with (clamped s) p)
  down_given p e = elim (or_cases (before p) _ e) [
    | inl is ↦ subst (Derivable (suc s) (together before news)) (sym (fixed_names s (clamped s) (clamped_below s) p (old p is))) (stated (or_left (before p) _ is))
    | inr is ↦
        stated (or_right (before (fact_with (clamped s) p)) _ (new.whole (fact_with (clamped s) p) (over_clamped s p)
        (subst (λ d. gained (exit_facts a) d (fact_with (clamped s) p) ≡ true) (renewed_under s u s (clamped s) (clamped_below s) (clamped_over s u (let l = over in omega (arith, l))) effect below) (gained_under (clamped s) a (renewed u effect) p is))))
  ]

  up_given : (p : Fact) → together before news p ≡ true → Derivable n (λ q. before q || gained (exit_facts a) (renewed u effect) q) (fact_with (respelled s u) p)
  up_given p e = elim (or_cases (before p) _ e) [
    | inl is ↦ subst (Derivable n (λ q. before q || gained (exit_facts a) (renewed u effect) q)) (sym (fixed_names s (respelled s u) (respelled_below s u) p (old p is))) (stated (or_left (before p) _ is))
    | inr is ↦
        stated (or_right (before (fact_with (respelled s u) p)) _
        (subst (λ d. gained (exit_facts a) d (fact_with (respelled s u) p) ≡ true) (renewed_under s s u (respelled s u) (respelled_below s u) (respelled_itself s u) effect below) (gained_under (respelled s u) a (renewed s effect) p (new.sound p is))))
  ]

  down : {p : Fact} → Derivable n (λ q. before q || gained (exit_facts a) (renewed u effect) q) p → Derivable (suc s) (together before news) (fact_with (clamped s) p)
  down d = derivable_under (clamped s) (λ x l. clamped_less s x) down_given d

  up : {p : Fact} → Derivable (suc s) (together before news) p → Derivable n (λ q. before q || gained (exit_facts a) (renewed u effect) q) (fact_with (respelled s u) p)
  up d = derivable_under (respelled s u) (λ x l. respelled_less n s u x (let o = over in let k = lt in omega (arith, o, k)) lt l) up_given d

-- by what is assigned
module _ (n s u : ℕ) (a : Annotation) (effect : Effect) (before : Facts) (news : List Fact) (over : s < u) (fact : Fact) (own : is_below s fact) where
  pub allowed_down : (x : Option ℕ) → ((p : Fact) → Derivable n (λ q. before q || gained (exit_facts a) (renewed_by x u effect) q) p → Derivable (suc s) (together before news) (fact_with (clamped s) p)) →
      allowed_where n u (gained (exit_facts a)) x effect before fact → Behind (suc s) s x news before fact
  allowed_down None h d = (subst (Derivable (suc s) (together before news)) (fixed_names s (clamped s) (clamped_below s) fact own) (h fact d), none_named s fact own)
  allowed_down (Some x) h d = (
    subst (Derivable (suc s) (together before news)) (names_twice (clamped s) (renamed x u) fact ∙ same_names s (λ v. clamped s (renamed x u v)) (renamed x s) (λ v l. put_clamped s u x v (let o = over in omega (arith, o)) l) fact own ∙ replaced_is x s fact) (h (fact_with (renamed x u) fact) d),
    none_named s fact own,
  )

  pub allowed_up : (x : Option ℕ) → ((p : Fact) → Derivable (suc s) (together before news) p → Derivable n (λ q. before q || gained (exit_facts a) (renewed_by x u effect) q) (fact_with (respelled s u) p)) →
      Behind (suc s) s x news before fact → allowed_where n u (gained (exit_facts a)) x effect before fact
  allowed_up None h d = subst (Derivable n (λ q. before q || gained (exit_facts a) effect q)) (fixed_names s (respelled s u) (respelled_below s u) fact own) (h fact d.0)
  allowed_up (Some x) h d =
      subst (Derivable n (λ q. before q || gained (exit_facts a) (assigning u effect) q)) (ap (fact_with (respelled s u)) (sym (replaced_is x s fact)) ∙ names_twice (respelled s u) (renamed x s) fact ∙ same_names s (λ v. respelled s u (renamed x s v)) (renamed x u) (put_respelled s u x) fact own) (h (with_replaced x s fact) d.0)

-- what an effect allows, by a list of what it adds
pub news_allow : (n s u : ℕ) (a : Annotation) (effect : Effect) (before : Facts) (news : List Fact) (fact : Fact) → s < u → u < n → EffectBelow s effect → AllBelow s before → is_below s fact → AreNews (suc s) (exit_facts a) (renewed s effect) news →
    allowed n u (gained (exit_facts a)) effect before fact ↔ Behind (suc s) s (assigned effect) news before fact
news_allow n s u a effect before news fact over lt below old own are = (
  λ d. allowed_down n s u a effect before news over fact own (assigned effect) (λ p q. down n s u a effect before news over lt below old are q) d,
  λ d. allowed_up n s u a effect before news over fact own (assigned effect) (λ p q. up n s u a effect before news over lt below old are q) d,
)

pub edges_allow : (n s u : ℕ) (a : Annotation) (effect : Effect) (before : Facts) (fact : Fact) → s < u → u < n → EffectBelow s effect → AllBelow s before → is_below s fact → allowed n u (gained (exit_facts a)) effect before fact ↔ Crossed a.exit s effect before fact
edges_allow n s u a effect before fact over lt below old own = news_allow n s u a effect before (news_of (suc s) a.exit (renewed s effect)) fact over lt below old own (news_are (suc s) a (renewed s effect) (renewed_below s effect below))

-- fewer variables

abbrev lowered : (m : ℕ) → ℕ → ℕ
lowered m v = one_of (nat_lt v m) v 0

lowered_below : (m v : ℕ) → v < m → lowered m v ≡ v
lowered_below m v l = ap (λ b. one_of b v 0) (lt-ltb v m l)

lowered_less : (m v : ℕ) → 0 < m → lowered m v < m
lowered_less m v some = by (nat_lt v m) refl
  where
    by : (b : Bool) → nat_lt v m ≡ b → one_of b v 0 < m
    by true e = ltb-true v m e
    by false e = some

pub fewer_derive : (n m : ℕ) (given : Facts) (fact : Fact) → 0 < m → m ≤ n → AllBelow m given → is_below m fact → Derivable n given fact ↔ Derivable m given fact
fewer_derive n m given fact some le below own = (
  λ d. subst (Derivable m given) (fixed_names m (lowered m) (lowered_below m) fact own)
      (derivable_under (lowered m) (λ x l. lowered_less m x some) (λ p is. subst (Derivable m given) (sym (fixed_names m (lowered m) (lowered_below m) p (below p is))) (stated is)) d),
  λ d. subst (Derivable n given) (fixed_names m (λ v. v) (λ v l. refl) fact own)
      (derivable_under (λ v. v) (λ x l. omega (arith, l, le)) (λ p is. subst (Derivable n given) (sym (fixed_names m (λ v. v) (λ v l. refl) p (below p is))) (stated is)) d),
)
