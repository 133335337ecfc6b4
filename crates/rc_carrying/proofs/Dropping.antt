-- Variables dropped one after another.
use Rattle.std.proofs.Common.{◌≡◌, ℕ, ◌+◌, ◌<◌, ◌≤◌, Bool, true, false, not, ◌&&◌, ◌||◌, nat_eq, nat_lt, IsTrue, Option, Some, None, refl, sym, ap, ◌∙◌, inl, inr, ◌⊎◌, ◌↔◌, arith, rules}
use Rattle.std.specs.Prelude.{IfSome, List}
use Rattle.std.specs.List.{list_any}
use Rattle.std.proofs.lemmas.Bool.{and_parts, and_from, or_cases, or_left, or_right, eqb-true, lt-ltb, le-ltb}
use Rattle.rc_facts.specs.declared.fact.Fact.{Fact}
use Rattle.rc_facts.specs.declared.fact.Fact.TheVariants.{In, Up, Trad, NonNull}
use Rattle.rc_facts.specs.Facts.{is_over, names, same_fact, with_replaced}
use Rattle.rc_facts.specs.Flow.{Facts, Behind}
use Rattle.rc_sealed.specs.Carrying.{is_assigned, speaks}
use Rattle.rc_carrying.specs.Left.{is_own, stay, HasOwn, IsClosed, OwnOver, Left}
use Rattle.rc_carrying.proofs.Closed.{own_derived, own_replaced, behind_over}

equal : (a b : Bool) → (IsTrue a → IsTrue b) → (IsTrue b → IsTrue a) → a ≡ b
equal true b h k = sym (h refl)
equal false true h k = k refl
equal false false h k = refl

-- ---- which stay, one number further

-- behind the range none more goes
stay_none : (low top : ℕ) (x : Option ℕ) (u : ℕ) → top ≤ low → stay low top x u ≡ true
stay_none low top x u le = by (nat_lt u low) refl
  where
    past : nat_lt u low ≡ false → nat_lt u top ≡ false
    past e = grind (arith, rules, le, e)

    by : (b : Bool) → nat_lt u low ≡ b → stay low top x u ≡ true
    by true e = rw e refl
    by false e = rw (e, past e) refl

stay_more : (low at : ℕ) (x : Option ℕ) (u : ℕ) → low ≤ at → is_assigned x at ≡ false → stay low (at + 1) x u ≡ (stay low at x u && not (nat_eq u at))
stay_more low at x u le apart = by (nat_eq u at) refl
  where
    by : (b : Bool) → nat_eq u at ≡ b → stay low (at + 1) x u ≡ (stay low at x u && not (nat_eq u at))
    by true e = let same : u ≡ at = eqb-true u at e in
        let l : nat_lt u low ≡ false = le-ltb u low (omega (arith, same, le)) in
        let m : nat_lt u (at + 1) ≡ true = lt-ltb u (at + 1) (omega (arith, same)) in
        let a : is_assigned x u ≡ false = ap (is_assigned x) same ∙ apart in
        rw (e, l, m, a) (grind rules)
    by false e = let m : nat_lt u (at + 1) ≡ nat_lt u at = grind (arith, rules, e) in rw (e, m) (grind rules)

stay_same : (low at : ℕ) (x : Option ℕ) (u : ℕ) → is_assigned x at ≡ true → stay low (at + 1) x u ≡ stay low at x u
stay_same low at x u here = by (nat_eq u at) refl
  where
    by : (b : Bool) → nat_eq u at ≡ b → stay low (at + 1) x u ≡ stay low at x u
    by true e = let same : u ≡ at = eqb-true u at e in
        let a : is_assigned x u ≡ true = ap (is_assigned x) same ∙ here in
        rw a (grind rules)
    by false e = let m : nat_lt u (at + 1) ≡ nat_lt u at = grind (arith, rules, e) in rw m refl

speaks_as : (one other : ℕ → Bool) → ((u : ℕ) → one u ≡ other u) → (fact : Fact) → speaks one fact ≡ speaks other fact
speaks_as one other h (In x y) = ap (λ b. b && one y) (h x) ∙ ap (λ b. other x && b) (h y)
speaks_as one other h (Up x y) = ap (λ b. b && one y) (h x) ∙ ap (λ b. other x && b) (h y)
speaks_as one other h (Trad x) = h x
speaks_as one other h (NonNull x) = h x

both_ways : (a b c d : Bool) → ((a && not c) && (b && not d)) ≡ ((a && b) && not (c || d))
both_ways true true true d = refl
both_ways true true false true = refl
both_ways true true false false = refl
both_ways true false true d = refl
both_ways true false false d = refl
both_ways false b c d = refl

speaks_both : (one : ℕ → Bool) (x : ℕ) (fact : Fact) → speaks (λ u. one u && not (nat_eq u x)) fact ≡ (speaks one fact && not (names x fact))
speaks_both one x (In a b) = both_ways (one a) (one b) (nat_eq a x) (nat_eq b x)
speaks_both one x (Up a b) = both_ways (one a) (one b) (nat_eq a x) (nat_eq b x)
speaks_both one x (Trad a) = refl
speaks_both one x (NonNull a) = refl

-- ---- one variable

-- a fact that is one of two
pub own_of : (x : ℕ) (fact : Fact) → (same_fact (In x x) fact || same_fact (Up x x) fact) ≡ (is_own fact && names x fact)
own_of x (In a b) = by (nat_eq a x) (nat_eq b x) refl refl
  where
    by : (c d : Bool) → nat_eq a x ≡ c → nat_eq b x ≡ d → (same_fact (In x x) (In a b) || false) ≡ (nat_eq a b && (nat_eq a x || nat_eq b x))
    by c d e r = grind (arith, rules, e, r)
own_of x (Up a b) = by (nat_eq a x) (nat_eq b x) refl refl
  where
    by : (c d : Bool) → nat_eq a x ≡ c → nat_eq b x ≡ d → (false || same_fact (Up x x) (Up a b)) ≡ (nat_eq a b && (nat_eq a x || nat_eq b x))
    by c d e r = grind (arith, rules, e, r)
own_of x (Trad a) = refl
own_of x (NonNull a) = refl

mixed : (b n o s : Bool) → (IsTrue (o && n) → IsTrue b) → (((b && (s || o)) && not n) || (o && n)) ≡ (b && ((s && not n) || o))
mixed true true true true own = refl
mixed true true true false own = refl
mixed true true false true own = refl
mixed true true false false own = refl
mixed true false true true own = refl
mixed true false true false own = refl
mixed true false false true own = refl
mixed true false false false own = refl
mixed false n false s own = refl
mixed false false true s own = refl
mixed false true true s own = sym (own refl)

or_assoc : (a b c : Bool) → ((a || b) || c) ≡ (a || (b || c))
or_assoc true b c = refl
or_assoc false b c = refl

-- what names a variable that is there, and is own, is over n
both_over : (n a b x : ℕ) → x < n → IsTrue (nat_eq a b) → IsTrue (nat_eq a x || nat_eq b x) → IsTrue (nat_lt a n && nat_lt b n)
both_over n a b x lt same e = let t = eqb-true a b same in elim (or_cases (nat_eq a x) (nat_eq b x) e) [
  | inl i ↦ let q = eqb-true a x i in and_from (nat_lt a n) (nat_lt b n) (lt-ltb a n (omega (arith, q, lt))) (lt-ltb b n (omega (arith, q, lt, t)))
  | inr i ↦ let q = eqb-true b x i in and_from (nat_lt a n) (nat_lt b n) (lt-ltb a n (omega (arith, q, lt, t))) (lt-ltb b n (omega (arith, q, lt)))
]

own_named : (n x : ℕ) → x < n → (fact : Fact) → IsTrue (is_own fact && names x fact) → OwnOver n fact
own_named n x lt (In a b) e = let p = and_parts (nat_eq a b) (nat_eq a x || nat_eq b x) e in record { own = p.0; over = both_over n a b x lt p.0 p.1 }
own_named n x lt (Up a b) e = let p = and_parts (nat_eq a b) (nat_eq a x || nat_eq b x) e in record { own = p.0; over = both_over n a b x lt p.0 p.1 }
own_named n x lt (Trad a) e = absurd cc
own_named n x lt (NonNull a) e = absurd cc

-- ---- one step

pub drop_step : (n low at : ℕ) (x : Option ℕ) (before now next : Facts) → low ≤ at → at < n → is_assigned x at ≡ false → HasOwn n before
    → ((p : Fact) → now p ≡ (before p && (speaks (stay low at x) p || is_own p)))
    → ((p : Fact) → next p ≡ (((now p && not (names at p)) || same_fact (In at at) p) || same_fact (Up at at) p))
    → (p : Fact) → next p ≡ (before p && (speaks (stay low (at + 1) x) p || is_own p))
drop_step n low at x before now next le lt apart own is then p =
    then p
    ∙ or_assoc (now p && not (names at p)) (same_fact (In at at) p) (same_fact (Up at at) p)
    ∙ ap (λ b. (now p && not (names at p)) || b) (own_of at p)
    ∙ ap (λ b. (b && not (names at p)) || (is_own p && names at p)) (is p)
    ∙ mixed (before p) (names at p) (is_own p) (speaks (stay low at x) p) (λ e. own p (own_named n at lt p e))
    ∙ ap (λ b. before p && (b || is_own p)) (sym (speaks_as (stay low (at + 1) x) (λ u. stay low at x u && not (nat_eq u at)) (λ u. stay_more low at x u le apart) p ∙ speaks_both (stay low at x) at p))

pub drop_none : (low at : ℕ) (x : Option ℕ) (before now : Facts) → is_assigned x at ≡ true
    → ((p : Fact) → now p ≡ (before p && (speaks (stay low at x) p || is_own p))) → (p : Fact) → now p ≡ (before p && (speaks (stay low (at + 1) x) p || is_own p))
drop_none low at x before now here is p = is p ∙ ap (λ b. before p && (b || is_own p)) (sym (speaks_as (stay low (at + 1) x) (stay low at x) (λ u. stay_same low at x u here) p))

all_speak : (test : ℕ → Bool) → ((u : ℕ) → test u ≡ true) → (fact : Fact) → speaks test fact ≡ true
all_speak test h (In x y) = and_from (test x) (test y) (h x) (h y)
all_speak test h (Up x y) = and_from (test x) (test y) (h x) (h y)
all_speak test h (Trad x) = h x
all_speak test h (NonNull x) = h x

and_true : (b : Bool) → (b && true) ≡ b
and_true true = refl
and_true false = refl

pub drop_first : (low : ℕ) (x : Option ℕ) (before : Facts) (p : Fact) → before p ≡ (before p && (speaks (stay low low x) p || is_own p))
drop_first low x before p = sym (ap (λ b. before p && (b || is_own p)) (all_speak (stay low low x) (λ u. stay_none low low x u (omega arith)) p) ∙ and_true (before p))

-- ---- crossed, the scratch variable reset, and gone ones dropped

module _ (n s : ℕ) (lt : s < n) (x : Option ℕ) (below : IfSome x (λ v. v < s)) (news : List Fact) (before : Facts) (over : (p : Fact) → IsTrue (list_any (λ q. same_fact q p) news) → IsTrue (is_over n p)) (shut : IsClosed n before)
    (crossed fresh : Facts) (cross : (p : Fact) → IsTrue (crossed p) ↔ Behind n s x news before p)
    (renew : (p : Fact) → fresh p ≡ (((crossed p && not (names s p)) || same_fact (In s s) p) || same_fact (Up s s) p)) where
  fresh_is : (p : Fact) → fresh p ≡ ((crossed p && not (names s p)) || (is_own p && names s p))
  fresh_is p = renew p ∙ or_assoc (crossed p && not (names s p)) (same_fact (In s s) p) (same_fact (Up s s) p) ∙ ap (λ b. (crossed p && not (names s p)) || b) (own_of s p)

  by_own : (p : Fact) → IsTrue (is_own p && names s p) → IsTrue (fresh p)
  by_own p e = fresh_is p ∙ or_right (crossed p && not (names s p)) (is_own p && names s p) e

  by_behind : (p : Fact) → Behind n s x news before p → IsTrue (fresh p)
  by_behind p b = fresh_is p ∙ or_left (crossed p && not (names s p)) (is_own p && names s p) (and_from (crossed p) (not (names s p)) ((cross p).1 b) (ap not b.1))

  own_behind : (y : Option ℕ) (p : Fact) → OwnOver n p → names s p ≡ false → Behind n s y news before p
  own_behind None p o e = (own_derived n p o, e)
  own_behind (Some y) p o e = (own_derived n (with_replaced y s p) (own_replaced n y s lt p o), e)

  pub fresh_own : HasOwn n fresh
  fresh_own p o = by (names s p) refl
    where
      by : (b : Bool) → names s p ≡ b → IsTrue (fresh p)
      by true e = by_own p (and_from (is_own p) (names s p) o.own e)
      by false e = by_behind p (own_behind x p o e)

  either_way : (p : Fact) → IsTrue (fresh p) → IsTrue (is_own p && names s p) ⊎ Behind n s x news before p
  either_way p is = elim (or_cases (crossed p && not (names s p)) (is_own p && names s p) (sym (fresh_is p) ∙ is)) [
    | inl e ↦ inr ((cross p).0 (and_parts (crossed p) (not (names s p)) e).0)
    | inr e ↦ inl e
  ]

  pub fresh_over : (p : Fact) → IsTrue (fresh p) → IsTrue (is_over n p)
  fresh_over p is = by (either_way p is)
    where
      by : IsTrue (is_own p && names s p) ⊎ Behind n s x news before p → IsTrue (is_over n p)
      by (inl e) = (own_named n s lt p e).over
      by (inr b) = behind_over n s (λ u. true) news before before lt over shut x below p b

  pub all_left : (stays : ℕ → Bool) (after : Facts) → ((p : Fact) → after p ≡ (fresh p && (speaks stays p || is_own p))) → (p : Fact) → IsTrue (after p) ↔ Left n s stays x news before p
  all_left stays after is p = (to, from)
    where
      kept : IsTrue (is_own p && names s p) ⊎ Behind n s x news before p → IsTrue (speaks stays p) → Left n s stays x news before p
      kept (inl e) t = inl (own_named n s lt p e)
      kept (inr b) t = inr (record { stays = t; behind = b })

      to : IsTrue (after p) → Left n s stays x news before p
      to e = let c = and_parts (fresh p) (speaks stays p || is_own p) (sym (is p) ∙ e) in elim (or_cases (speaks stays p) (is_own p) c.1) [
        | inl t ↦ kept (either_way p c.0) t
        | inr o ↦ inl (record { own = o; over = fresh_over p c.0 })
      ]

      from : Left n s stays x news before p → IsTrue (after p)
      from (inl o) = is p ∙ and_from (fresh p) (speaks stays p || is_own p) (fresh_own p o) (or_right (speaks stays p) (is_own p) o.own)
      from (inr k) = is p ∙ and_from (fresh p) (speaks stays p || is_own p) (by_behind p k.behind) (or_left (speaks stays p) (is_own p) k.stays)
