-- What is left of a closed set is closed.
use Rattle.std.proofs.Common.{◌≡◌, ℕ, ◌<◌, Bool, true, false, not, ◌&&◌, ◌||◌, nat_eq, nat_lt, IsTrue, List, Option, Some, None, refl, sym, ap, subst, inl, inr, ◌⊎◌, ◌↔◌, arith}
use Rattle.std.specs.Prelude.{IfSome, if◌then◌else◌}
use Rattle.std.specs.List.{list_any}
use Rattle.std.proofs.lemmas.Bool.{and_parts, and_from, or_cases, eqb-true, eq-eqb, ltb-true, lt-ltb}
use Rattle.rc_facts.specs.declared.fact.Fact.{Fact}
use Rattle.rc_facts.specs.declared.fact.Fact.TheVariants.{In, Up, Trad, NonNull}
use Rattle.rc_facts.specs.Derivable.{Derivable, stated, in_itself, in_through, up_through, up_by_in, in_back, present_by_in, present_by_up, trad_by_up, up_by_trad, in_by_trad}
use Rattle.rc_facts.specs.Facts.{is_over, names, same_fact, with_replaced, replaced}
use Rattle.rc_facts.proofs.Closes.{derivable_over}
use Rattle.rc_facts.specs.Shut.{together}
use Rattle.rc_facts.specs.Flow.{Facts, Behind}
use Rattle.rc_annotations.proofs.Derivations.{derivable_cut}
use Rattle.rc_carrying.proofs.Crossed.{derivable_replaced, replaced_under}
use Rattle.rc_sealed.specs.Carrying.{speaks}
use Rattle.rc_carrying.specs.Left.{is_own, IsClosed, OwnOver, Left}

-- ---- a variable of which a set says nothing

module _ (test : ℕ → Bool) where
  -- they are one, or both pass
  abbrev Two : ℕ → ℕ → Type 0
  Two x y = IsTrue (nat_eq x y) ⊎ IsTrue (test x && test y)

  abbrev pub Spoken : Fact → Type 0
  Spoken fact = IsTrue (is_own fact) ⊎ IsTrue (speaks test fact)

  through : (x y z : ℕ) → Two x y → Two y z → Two x z
  through x y z (inl e) q = subst (λ v. Two v z) (sym (eqb-true x y e)) q
  through x y z (inr p) (inl e) = subst (λ v. Two x v) (eqb-true y z e) (inr p)
  through x y z (inr p) (inr q) = inr (and_from (test x) (test z) (and_parts (test x) (test y) p).0 (and_parts (test y) (test z) q).1)

  back : (x y : ℕ) → Two x y → Two y x
  back x y (inl e) = inl (eq-eqb y x (sym (eqb-true x y e)))
  back x y (inr p) = let b = and_parts (test x) (test y) p in inr (and_from (test y) (test x) b.1 b.0)

  ahead : (x y : ℕ) → Two x y → IsTrue (test x) → IsTrue (test y)
  ahead x y (inl e) t = subst (λ v. IsTrue (test v)) (eqb-true x y e) t
  ahead x y (inr p) t = (and_parts (test x) (test y) p).1

  alone : (x : ℕ) → IsTrue false ⊎ IsTrue (test x) → IsTrue (test x)
  alone x (inl e) = cc
  alone x (inr t) = t

  pub isolated : {n : ℕ} {given : Facts} → ((p : Fact) → IsTrue (given p) → Spoken p) → {fact : Fact} → Derivable n given fact → Spoken fact
  isolated h (stated is) = h _ is
  isolated h (in_itself {x} lt) = inl (eq-eqb x x refl)
  isolated h (in_through {x} {y} {z} one two) = through x y z (isolated h one) (isolated h two)
  isolated h (up_through {x} {y} {z} one two) = through x y z (isolated h one) (isolated h two)
  isolated h (up_by_in {x} {y} one) = isolated h one
  isolated h (in_back {x} {y} one two) = back x y (isolated h one)
  isolated h (present_by_in {x} {y} one two) = inr (ahead x y (isolated h one) (alone x (isolated h two)))
  isolated h (present_by_up {x} {y} one two) = inr (ahead x y (isolated h one) (alone x (isolated h two)))
  isolated h (trad_by_up {x} {y} one two) = inr (ahead y x (back x y (isolated h one)) (alone y (isolated h two)))
  isolated h (up_by_trad {x} {y} one two) = inr (and_from (test x) (test y) (alone x (isolated h one)) (alone y (isolated h two)))
  isolated h (in_by_trad {x} {y} one two three) = inr (and_from (test x) (test y) (alone x (isolated h one)) (alone y (isolated h two)))

-- ---- facts on a variable alone

same_names : (x y n : ℕ) → IsTrue (nat_eq x y) → IsTrue (nat_lt x n && nat_lt y n) → {given : Facts} → Derivable n given (In x y)
same_names x y n e over {given} = subst (λ v. Derivable n given (In x v)) (eqb-true x y e) (in_itself (ltb-true x n (and_parts (nat_lt x n) (nat_lt y n) over).0))

pub own_derived : (n : ℕ) {given : Facts} (fact : Fact) → OwnOver n fact → Derivable n given fact
own_derived n (In x y) o = same_names x y n o.own o.over
own_derived n (Up x y) o = up_by_in (same_names x y n o.own o.over)
own_derived n (Trad x) o = absurd (let e = o.own in cc)
own_derived n (NonNull x) o = absurd (let e = o.own in cc)

-- ---- tests

both : (stays : ℕ → Bool) (s x : ℕ) → IsTrue (stays x) → nat_eq x s ≡ false → IsTrue (stays x && not (nat_eq x s))
both stays s x e d = and_from (stays x) (not (nat_eq x s)) e (ap not d)

neither : (a b : Bool) → (a || b) ≡ false → (a ≡ false) × (b ≡ false)
neither true b e = cc
neither false b e = (refl, e)

falsely : (b : Bool) → not b ≡ true → b ≡ false
falsely true e = cc
falsely false e = refl

join : (stays : ℕ → Bool) (s : ℕ) (fact : Fact) → IsTrue (speaks stays fact) → names s fact ≡ false → IsTrue (speaks (λ u. stays u && not (nat_eq u s)) fact)
join stays s (In x y) e d = let b = and_parts (stays x) (stays y) e in let c = neither (nat_eq x s) (nat_eq y s) d in and_from (stays x && not (nat_eq x s)) (stays y && not (nat_eq y s)) (both stays s x b.0 c.0) (both stays s y b.1 c.1)
join stays s (Up x y) e d = let b = and_parts (stays x) (stays y) e in let c = neither (nat_eq x s) (nat_eq y s) d in and_from (stays x && not (nat_eq x s)) (stays y && not (nat_eq y s)) (both stays s x b.0 c.0) (both stays s y b.1 c.1)
join stays s (Trad x) e d = both stays s x e d
join stays s (NonNull x) e d = both stays s x e d

record Parts (test : ℕ → Bool) (s : ℕ) (fact : Fact) : Type 0 where
  stays : IsTrue (speaks test fact)
  fresh : names s fact ≡ false

or_false : (a b : Bool) → a ≡ false → b ≡ false → (a || b) ≡ false
or_false true b e d = cc
or_false false b e d = d

split : (stays : ℕ → Bool) (s : ℕ) (fact : Fact) → IsTrue (speaks (λ u. stays u && not (nat_eq u s)) fact) → Parts stays s fact
split stays s (In x y) e =
    let b = and_parts (stays x && not (nat_eq x s)) (stays y && not (nat_eq y s)) e in
    let p = and_parts (stays x) (not (nat_eq x s)) b.0 in
    let q = and_parts (stays y) (not (nat_eq y s)) b.1 in
    record { stays = and_from (stays x) (stays y) p.0 q.0; fresh = or_false (nat_eq x s) (nat_eq y s) (falsely (nat_eq x s) p.1) (falsely (nat_eq y s) q.1) }
split stays s (Up x y) e =
    let b = and_parts (stays x && not (nat_eq x s)) (stays y && not (nat_eq y s)) e in
    let p = and_parts (stays x) (not (nat_eq x s)) b.0 in
    let q = and_parts (stays y) (not (nat_eq y s)) b.1 in
    record { stays = and_from (stays x) (stays y) p.0 q.0; fresh = or_false (nat_eq x s) (nat_eq y s) (falsely (nat_eq x s) p.1) (falsely (nat_eq y s) q.1) }
split stays s (Trad x) e = let p = and_parts (stays x) (not (nat_eq x s)) e in record { stays = p.0; fresh = falsely (nat_eq x s) p.1 }
split stays s (NonNull x) e = let p = and_parts (stays x) (not (nat_eq x s)) e in record { stays = p.0; fresh = falsely (nat_eq x s) p.1 }

-- ---- closed

pub own_replaced : (n x s : ℕ) → s < n → (fact : Fact) → OwnOver n fact → OwnOver n (with_replaced x s fact)
own_replaced n x s lt (In a b) o = let same = eqb-true a b o.own in let r = lt-ltb (replaced x s a) n (replaced_under n x s a lt (ltb-true a n (and_parts (nat_lt a n) (nat_lt b n) o.over).0)) in
    record { own = eq-eqb (replaced x s a) (replaced x s b) (ap (replaced x s) same); over = and_from (nat_lt (replaced x s a) n) (nat_lt (replaced x s b) n) r (subst (λ v. IsTrue (nat_lt (replaced x s v) n)) same r) }
own_replaced n x s lt (Up a b) o = let same = eqb-true a b o.own in let r = lt-ltb (replaced x s a) n (replaced_under n x s a lt (ltb-true a n (and_parts (nat_lt a n) (nat_lt b n) o.over).0)) in
    record { own = eq-eqb (replaced x s a) (replaced x s b) (ap (replaced x s) same); over = and_from (nat_lt (replaced x s a) n) (nat_lt (replaced x s b) n) r (subst (λ v. IsTrue (nat_lt (replaced x s v) n)) same r) }
own_replaced n x s lt (Trad a) o = absurd (let e = o.own in cc)
own_replaced n x s lt (NonNull a) o = absurd (let e = o.own in cc)

-- with one variable for another that is there, it is over n where it was before
over_replaced : (n x s : ℕ) → x < n → (fact : Fact) → IsTrue (is_over n (with_replaced x s fact)) → IsTrue (is_over n fact)
over_replaced n x s lt = λ fact. by fact
  where
    one : (v : ℕ) → IsTrue (nat_lt (replaced x s v) n) → IsTrue (nat_lt v n)
    one v e = pick (nat_eq v x) refl
      where
        pick : (b : Bool) → nat_eq v x ≡ b → IsTrue (nat_lt v n)
        pick true q = let same = eqb-true v x q in lt-ltb v n (omega (arith, same, lt))
        pick false q = subst (λ b. IsTrue (nat_lt (if b then s else v) n)) q e

    by : (fact : Fact) → IsTrue (is_over n (with_replaced x s fact)) → IsTrue (is_over n fact)
    by (In a b) e = let p = and_parts (nat_lt (replaced x s a) n) (nat_lt (replaced x s b) n) e in and_from (nat_lt a n) (nat_lt b n) (one a p.0) (one b p.1)
    by (Up a b) e = let p = and_parts (nat_lt (replaced x s a) n) (nat_lt (replaced x s b) n) e in and_from (nat_lt a n) (nat_lt b n) (one a p.0) (one b p.1)
    by (Trad a) e = one a e
    by (NonNull a) e = one a e

module _ (n s : ℕ) (stays : ℕ → Bool) (news : List Fact) (before after : Facts) (lt : s < n) (over : (p : Fact) → IsTrue (list_any (λ q. same_fact q p) news) → IsTrue (is_over n p)) (shut : IsClosed n before) where
  given_over : (p : Fact) → together before news p ≡ true → is_over n p ≡ true
  given_over p e = elim (or_cases (before p) _ e) [ inl is ↦ shut.over p is | inr is ↦ over p is ]

  pub behind_over : (x : Option ℕ) → IfSome x (λ v. v < s) → (fact : Fact) → Behind n s x news before fact → IsTrue (is_over n fact)
  behind_over None below fact b = derivable_over given_over b.0
  behind_over (Some x) below fact b = over_replaced n x s (omega (arith, below, lt)) fact (derivable_over given_over b.0)

  pub left_over : (x : Option ℕ) → IfSome x (λ v. v < s) → (fact : Fact) → Left n s stays x news before fact → IsTrue (is_over n fact)
  left_over x below fact (inl o) = o.over
  left_over x below fact (inr k) = behind_over x below fact k.behind

  spoken : (x : Option ℕ) (fact : Fact) → Left n s stays x news before fact → Spoken (λ u. stays u && not (nat_eq u s)) fact
  spoken x fact (inl o) = inl o.own
  spoken x fact (inr k) = inr (join stays s fact k.stays k.behind.1)

  behind : (x : Option ℕ) (fact : Fact) → ((p : Fact) → IsTrue (after p) → Left n s stays x news before p) → Derivable n after fact → names s fact ≡ false → Behind n s x news before fact
  behind None fact h d fresh = (derivable_cut (λ p is. one p (h p is)) d, fresh)
    where
      one : (p : Fact) → Left n s stays None news before p → Derivable n (together before news) p
      one p (inl o) = own_derived n p o
      one p (inr k) = k.behind.0
  behind (Some x) fact h d fresh = (derivable_replaced x s lt (λ p is. one p (h p is)) d, fresh)
    where
      one : (p : Fact) → Left n s stays (Some x) news before p → Derivable n (together before news) (with_replaced x s p)
      one p (inl o) = own_derived n (with_replaced x s p) (own_replaced n x s lt p o)
      one p (inr k) = k.behind.0

  pub left_closed : (x : Option ℕ) → IfSome x (λ v. v < s) → ((fact : Fact) → IsTrue (after fact) ↔ Left n s stays x news before fact) → IsClosed n after
  left_closed x below left = record {
    over = after_over;
    closed = λ fact d. (left fact).1 (by fact d (isolated (λ u. stays u && not (nat_eq u s)) (λ p is. spoken x p ((left p).0 is)) d));
  }
    where
      after_over : (fact : Fact) → IsTrue (after fact) → IsTrue (is_over n fact)
      after_over fact is = left_over x below fact ((left fact).0 is)

      by : (fact : Fact) → Derivable n after fact → Spoken (λ u. stays u && not (nat_eq u s)) fact → Left n s stays x news before fact
      by fact d (inl own) = inl (record { own = own; over = derivable_over after_over d })
      by fact d (inr e) = let p = split stays s fact e in inr (record { stays = p.stays; behind = behind x fact (λ q is. (left q).0 is) d p.fresh })
