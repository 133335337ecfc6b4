-- Facts and effects with other names for variables.
use Rattle.std.proofs.Common.{◌≡◌, ℕ, zero, suc, ◌<◌, ◌≤◌, Bool, true, false, ◌||◌, ◌&&◌, ◌==◌, nat_eq, nat_lt, IsTrue, List, [], ◌∷◌, map, length, Option, Some, None, option_map, refl, sym, ap, ◌∙◌, subst, inl, inr, arith}
use Rattle.std.proofs.lemmas.List.{length-map}
use Rattle.std.proofs.lemmas.Bool.{or_cases, or_left, or_right, and_parts, and_from, eqb-true, eq-eqb, lt-ltb, le-ltb, ltb-true}
use Rattle.rc_core.specs.declared.ty.Note.{Note}
use Rattle.rc_core.specs.declared.ty.Note.TheVariants.{Plain, SameRegion, ParentPtr, Traditional}
use Rattle.rc_facts.specs.declared.fact.Fact.{Fact}
use Rattle.rc_facts.specs.declared.fact.Fact.TheVariants.{In, Up, Trad, NonNull}
use Rattle.rc_facts.specs.Facts.{same_fact, is_over}
use Rattle.rc_facts.specs.Derivable.{Derivable, stated, in_itself, in_through, up_through, up_by_in, in_back, present_by_in, present_by_up, trad_by_up, up_by_trad, in_by_trad}
use Rattle.rc_facts.proofs.Sets.{same_fact-true}
use Rattle.rc_rlang.specs.RegionFlow.{Effect, nothing, nulled, moved, fixed, beside, made, under, loaded, looked_at, stored, present, absent, called, entered, assigned, one_of}
use Rattle.rc_annotations.specs.Annotations.{Facts, Annotation, by_note, of_null, some_pair, gained, fact_with, is_below, is_place, place_in, some_below, pair_fact, exit_facts}
use Rattle.rc_edges.specs.Edges.{all_below, pairs_below, EffectBelow, renewed_by}

-- a derivation with other names
pub derivable_under : {n m : ℕ} {given others : Facts} (name : ℕ → ℕ) → ((x : ℕ) → x < n → name x < m) → ((p : Fact) → IsTrue (given p) → Derivable m others (fact_with name p)) → {fact : Fact} → Derivable n given fact → Derivable m others (fact_with name fact)
derivable_under name b h (stated is) = h _ is
derivable_under name b h (in_itself {x = x} below) = in_itself (b x below)
derivable_under name b h (in_through one two) = in_through (derivable_under name b h one) (derivable_under name b h two)
derivable_under name b h (up_through one two) = up_through (derivable_under name b h one) (derivable_under name b h two)
derivable_under name b h (up_by_in one) = up_by_in (derivable_under name b h one)
derivable_under name b h (in_back one two) = in_back (derivable_under name b h one) (derivable_under name b h two)
derivable_under name b h (present_by_in one two) = present_by_in (derivable_under name b h one) (derivable_under name b h two)
derivable_under name b h (present_by_up one two) = present_by_up (derivable_under name b h one) (derivable_under name b h two)
derivable_under name b h (trad_by_up one two) = trad_by_up (derivable_under name b h one) (derivable_under name b h two)
derivable_under name b h (up_by_trad one two) = up_by_trad (derivable_under name b h one) (derivable_under name b h two)
derivable_under name b h (in_by_trad one two three) = in_by_trad (derivable_under name b h one) (derivable_under name b h two) (derivable_under name b h three)

-- names that agree below s
pub same_names : (s : ℕ) (name other : ℕ → ℕ) → ((v : ℕ) → v < s → name v ≡ other v) → (p : Fact) → is_below s p → fact_with name p ≡ fact_with other p
same_names s name other h (In x y) b = ap (λ z. In z (name y)) (h x b.0) ∙ ap (λ z. In (other x) z) (h y b.1)
same_names s name other h (Up x y) b = ap (λ z. Up z (name y)) (h x b.0) ∙ ap (λ z. Up (other x) z) (h y b.1)
same_names s name other h (Trad x) b = ap (λ z. Trad z) (h x b)
same_names s name other h (NonNull x) b = ap (λ z. NonNull z) (h x b)

pub own_name : (p : Fact) → fact_with (λ v. v) p ≡ p
own_name (In x y) = refl
own_name (Up x y) = refl
own_name (Trad x) = refl
own_name (NonNull x) = refl

pub fixed_names : (s : ℕ) (name : ℕ → ℕ) → ((v : ℕ) → v < s → name v ≡ v) → (p : Fact) → is_below s p → fact_with name p ≡ p
fixed_names s name h p b = same_names s name (λ v. v) h p b ∙ own_name p

pub names_twice : (name other : ℕ → ℕ) (p : Fact) → fact_with name (fact_with other p) ≡ fact_with (λ v. name (other v)) p
names_twice name other (In x y) = refl
names_twice name other (Up x y) = refl
names_twice name other (Trad x) = refl
names_twice name other (NonNull x) = refl

-- effects

abbrev pub effect_with : (ℕ → ℕ) → Effect → Effect
effect_with m nothing = nothing
effect_with m (nulled x) = nulled (m x)
effect_with m (moved x y) = moved (m x) (m y)
effect_with m (fixed x) = fixed (m x)
effect_with m (beside x y) = beside (m x) (m y)
effect_with m (made x) = made (m x)
effect_with m (under x y) = under (m x) (m y)
effect_with m (loaded x y note) = loaded (m x) (m y) note
effect_with m (looked_at y) = looked_at (m y)
effect_with m (stored z y note) = stored (m z) (m y) note
effect_with m (present y) = present (m y)
effect_with m (absent y) = absent (m y)
effect_with m (called x g arguments) = called (option_map m x) g (map m arguments)
effect_with m (entered pairs) = entered (map (λ (c : ℕ × ℕ). (m c.0, m c.1)) pairs)

list_fixed : (s : ℕ) (m : ℕ → ℕ) → ((v : ℕ) → v < s → m v ≡ v) → (xs : List ℕ) → all_below s xs → map m xs ≡ xs
list_fixed s m h [] b = refl
list_fixed s m h (x ∷ xs) b = ap (λ z. z ∷ map m xs) (h x b.0) ∙ ap (λ zs. x ∷ zs) (list_fixed s m h xs b.1)

pairs_fixed : (s : ℕ) (m : ℕ → ℕ) → ((v : ℕ) → v < s → m v ≡ v) → (cs : List (ℕ × ℕ)) → pairs_below s cs → map (λ (c : ℕ × ℕ). (m c.0, m c.1)) cs ≡ cs
pairs_fixed s m h [] b = refl
pairs_fixed s m h (c ∷ cs) b = ap (λ z. (z, m c.1) ∷ map (λ (c : ℕ × ℕ). (m c.0, m c.1)) cs) (h c.0 b.0) ∙ ap (λ z. (c.0, z) ∷ map (λ (c : ℕ × ℕ). (m c.0, m c.1)) cs) (h c.1 b.1) ∙ ap (λ zs. c ∷ zs) (pairs_fixed s m h cs b.2)

-- an effect on variables below s, whose assigned variable has one name or another
module _ (s w u : ℕ) (m : ℕ → ℕ) (h : (v : ℕ) → v < s → m v ≡ v) (e : m w ≡ u) where
  pub renewed_under : (effect : Effect) → EffectBelow s effect → effect_with m (renewed_by (assigned effect) w effect) ≡ renewed_by (assigned effect) u effect
  renewed_under nothing b = refl
  renewed_under (nulled x) b = ap nulled e
  renewed_under (moved x y) b = ap (λ z. moved z (m y)) e ∙ ap (λ z. moved u z) (h y b.1)
  renewed_under (fixed x) b = ap fixed e
  renewed_under (beside x y) b = ap (λ z. beside z (m y)) e ∙ ap (λ z. beside u z) (h y b.1)
  renewed_under (made x) b = ap made e
  renewed_under (under x y) b = ap (λ z. under z (m y)) e ∙ ap (λ z. under u z) (h y b.1)
  renewed_under (loaded x y note) b = ap (λ z. loaded z (m y) note) e ∙ ap (λ z. loaded u z note) (h y b.1)
  renewed_under (looked_at y) b = ap looked_at (h y b)
  renewed_under (stored z y note) b = ap (λ i. stored i (m y) note) (h z b.0) ∙ ap (λ i. stored z i note) (h y b.1)
  renewed_under (present y) b = ap present (h y b)
  renewed_under (absent y) b = ap absent (h y b)
  renewed_under (called None g arguments) b = ap (called None g) (list_fixed s m h arguments b.1)
  renewed_under (called (Some x) g arguments) b = ap (λ z. called (Some z) g (map m arguments)) e ∙ ap (called (Some u) g) (list_fixed s m h arguments b.1)
  renewed_under (entered pairs) b = ap entered (pairs_fixed s m h pairs b)

-- what an effect adds, with other names

eq_under : (m : ℕ → ℕ) (x y : ℕ) → nat_eq x y ≡ true → nat_eq (m x) (m y) ≡ true
eq_under m x y e = eq-eqb (m x) (m y) (ap m (eqb-true x y e))

pub same_self : (p : Fact) → same_fact p p ≡ true
same_self (In x y) = and_from (x == x) (y == y) (eq-eqb x x refl) (eq-eqb y y refl)
same_self (Up x y) = and_from (x == x) (y == y) (eq-eqb x x refl) (eq-eqb y y refl)
same_self (Trad x) = eq-eqb x x refl
same_self (NonNull x) = eq-eqb x x refl

same_under : (m : ℕ → ℕ) (p q : Fact) → same_fact p q ≡ true → same_fact (fact_with m p) (fact_with m q) ≡ true
same_under m p q e = subst (λ z. same_fact (fact_with m p) (fact_with m z) ≡ true) (same_fact-true p q e) (same_self (fact_with m p))

or_under : (a b c d : Bool) → (a ≡ true → c ≡ true) → (b ≡ true → d ≡ true) → (a || b) ≡ true → (c || d) ≡ true
or_under a b c d h k e = elim (or_cases a b e) [ inl x ↦ or_left c d (h x) | inr y ↦ or_right c d (k y) ]

and_under : (a b c d : Bool) → (a ≡ true → c ≡ true) → (b ≡ true → d ≡ true) → (a && b) ≡ true → (c && d) ≡ true
and_under a b c d h k e = let p = and_parts a b e in and_from c d (h p.0) (k p.1)

null_under : (m : ℕ → ℕ) (x : ℕ) (p : Fact) → of_null x p ≡ true → of_null (m x) (fact_with m p) ≡ true
null_under m x (In u v) e = eq_under m u x e
null_under m x (Up u v) e = cc
null_under m x (Trad u) e = eq_under m u x e
null_under m x (NonNull u) e = cc

note_under : (m : ℕ → ℕ) (note : Note) (value holder : ℕ) (p : Fact) → by_note note value holder p ≡ true → by_note note (m value) (m holder) (fact_with m p) ≡ true
note_under m Plain value holder p e = cc
note_under m SameRegion value holder p e = same_under m p (In value holder) e
note_under m ParentPtr value holder p e = same_under m p (Up value holder) e
note_under m Traditional value holder p e = same_under m p (Trad value) e

pairs_under : (m : ℕ → ℕ) (cs : List (ℕ × ℕ)) (p : Fact) → some_pair cs p ≡ true → some_pair (map (λ (c : ℕ × ℕ). (m c.0, m c.1)) cs) (fact_with m p) ≡ true
pairs_under m [] p e = cc
pairs_under m (c ∷ cs) p e = or_under (same_fact p (In c.0 c.1)) _ (same_fact (fact_with m p) (In (m c.0) (m c.1))) _ (same_under m p (In c.0 c.1)) (or_under (same_fact p (In c.1 c.0)) (some_pair cs p) (same_fact (fact_with m p) (In (m c.1) (m c.0))) _ (same_under m p (In c.1 c.0)) (pairs_under m cs p)) e

below_under : (test test1 : ℕ → Bool) → ((i : ℕ) → test i ≡ true → test1 i ≡ true) → (m : ℕ) → some_below test m ≡ true → some_below test1 m ≡ true
below_under test test1 h zero e = cc
below_under test test1 h (suc m) e = or_under (test m) (some_below test m) (test1 m) (some_below test1 m) (h m) (below_under test test1 h m) e

place_under : (m : ℕ → ℕ) (arguments : List ℕ) (x : Option ℕ) (i u : ℕ) → is_place (place_in arguments x i) u ≡ true → is_place (place_in (map m arguments) (option_map m x) i) (m u) ≡ true
place_under m [] None i u e = cc
place_under m [] (Some x) zero u e = eq_under m x u e
place_under m [] (Some x) (suc i) u e = cc
place_under m (y ∷ ys) x zero u e = eq_under m y u e
place_under m (y ∷ ys) x (suc i) u e = place_under m ys x i u e

pair_under : (m : ℕ → ℕ) (exit : Facts) (arguments : List ℕ) (x : Option ℕ) (p : Fact) (i j : ℕ) → pair_fact exit arguments x p i j ≡ true → pair_fact exit (map m arguments) (option_map m x) (fact_with m p) i j ≡ true
pair_under m exit ys x (In u v) i j e = and_under (is_place (place_in ys x i) u) _ (is_place (place_in (map m ys) (option_map m x) i) (m u)) _ (place_under m ys x i u) (and_under (is_place (place_in ys x j) v) _ (is_place (place_in (map m ys) (option_map m x) j) (m v)) _ (place_under m ys x j v) (λ is. is)) e
pair_under m exit ys x (Up u v) i j e = and_under (is_place (place_in ys x i) u) _ (is_place (place_in (map m ys) (option_map m x) i) (m u)) _ (place_under m ys x i u) (and_under (is_place (place_in ys x j) v) _ (is_place (place_in (map m ys) (option_map m x) j) (m v)) _ (place_under m ys x j v) (λ is. is)) e
pair_under m exit ys x (Trad u) i j e = and_under (is_place (place_in ys x i) u) _ (is_place (place_in (map m ys) (option_map m x) i) (m u)) _ (place_under m ys x i u) (λ is. is) e
pair_under m exit ys x (NonNull u) i j e = and_under (is_place (place_in ys x i) u) _ (is_place (place_in (map m ys) (option_map m x) i) (m u)) _ (place_under m ys x i u) (λ is. is) e

exits_under : (m : ℕ → ℕ) (a : Annotation) (g : ℕ) (ys : List ℕ) (x : Option ℕ) (p : Fact) → exit_facts a g ys x p ≡ true → exit_facts a g (map m ys) (option_map m x) (fact_with m p) ≡ true
exits_under m a g ys x p e =
    subst (λ n. some_below (λ i. some_below (pair_fact (a.exit g) (map m ys) (option_map m x) (fact_with m p) i) (suc n)) (suc n) ≡ true) (sym (length-map ys m))
    (below_under _ _ (λ i. below_under _ _ (λ j. pair_under m (a.exit g) ys x p i j) (suc (length ys))) (suc (length ys)) e)

pub gained_under : (m : ℕ → ℕ) (a : Annotation) (effect : Effect) (p : Fact) → gained (exit_facts a) effect p ≡ true → gained (exit_facts a) (effect_with m effect) (fact_with m p) ≡ true
gained_under m a nothing p e = cc
gained_under m a (nulled x) p e = null_under m x p e
gained_under m a (moved x y) p e = or_under (same_fact p (In x y)) (same_fact p (In y x)) (same_fact (fact_with m p) (In (m x) (m y))) (same_fact (fact_with m p) (In (m y) (m x))) (same_under m p (In x y)) (same_under m p (In y x)) e
gained_under m a (fixed x) p e = or_under (same_fact p (Trad x)) (same_fact p (NonNull x)) (same_fact (fact_with m p) (Trad (m x))) (same_fact (fact_with m p) (NonNull (m x))) (same_under m p (Trad x)) (same_under m p (NonNull x)) e
gained_under m a (beside x y) p e = or_under (same_fact p (NonNull y)) _ (same_fact (fact_with m p) (NonNull (m y))) _ (same_under m p (NonNull y)) (or_under (same_fact p (NonNull x)) (same_fact p (In x y)) (same_fact (fact_with m p) (NonNull (m x))) (same_fact (fact_with m p) (In (m x) (m y))) (same_under m p (NonNull x)) (same_under m p (In x y))) e
gained_under m a (made x) p e = same_under m p (NonNull x) e
gained_under m a (under x y) p e = or_under (same_fact p (NonNull y)) _ (same_fact (fact_with m p) (NonNull (m y))) _ (same_under m p (NonNull y)) (or_under (same_fact p (NonNull x)) (same_fact p (Up y x)) (same_fact (fact_with m p) (NonNull (m x))) (same_fact (fact_with m p) (Up (m y) (m x))) (same_under m p (NonNull x)) (same_under m p (Up y x))) e
gained_under m a (loaded x y note) p e = or_under (same_fact p (NonNull y)) (by_note note x y p) (same_fact (fact_with m p) (NonNull (m y))) (by_note note (m x) (m y) (fact_with m p)) (same_under m p (NonNull y)) (note_under m note x y p) e
gained_under m a (looked_at y) p e = same_under m p (NonNull y) e
gained_under m a (stored z y note) p e = or_under (same_fact p (NonNull y)) (by_note note z y p) (same_fact (fact_with m p) (NonNull (m y))) (by_note note (m z) (m y) (fact_with m p)) (same_under m p (NonNull y)) (note_under m note z y p) e
gained_under m a (present y) p e = same_under m p (NonNull y) e
gained_under m a (absent y) p e = null_under m y p e
gained_under m a (called x g ys) p e = exits_under m a g ys x p e
gained_under m a (entered pairs) p e = pairs_under m pairs p e

-- names for fewer variables: what is not below s is s

abbrev pub clamped : (s : ℕ) → ℕ → ℕ
clamped s v = one_of (nat_lt v s) v s

pub clamped_below : (s v : ℕ) → v < s → clamped s v ≡ v
clamped_below s v l = ap (λ b. one_of b v s) (lt-ltb v s l)

pub clamped_over : (s v : ℕ) → s ≤ v → clamped s v ≡ s
clamped_over s v l = ap (λ b. one_of b v s) (le-ltb v s l)

pub clamped_less : (s v : ℕ) → clamped s v < suc s
clamped_less s v = by (nat_lt v s) refl
  where
    by : (b : Bool) → nat_lt v s ≡ b → one_of b v s < suc s
    by true e = let l = ltb-true v s e in omega (arith, l)
    by false e = omega arith

over_less : (n x : ℕ) → x < n → nat_lt x n ≡ true
over_less n x l = lt-ltb x n l

pub over_clamped : (s : ℕ) (p : Fact) → is_over (suc s) (fact_with (clamped s) p) ≡ true
over_clamped s (In x y) = and_from (nat_lt (clamped s x) (suc s)) (nat_lt (clamped s y) (suc s)) (over_less (suc s) (clamped s x) (clamped_less s x)) (over_less (suc s) (clamped s y) (clamped_less s y))
over_clamped s (Up x y) = and_from (nat_lt (clamped s x) (suc s)) (nat_lt (clamped s y) (suc s)) (over_less (suc s) (clamped s x) (clamped_less s x)) (over_less (suc s) (clamped s y) (clamped_less s y))
over_clamped s (Trad x) = over_less (suc s) (clamped s x) (clamped_less s x)
over_clamped s (NonNull x) = over_less (suc s) (clamped s x) (clamped_less s x)
