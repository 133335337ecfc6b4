-- A working set that is started anew.
use Rattle.std.proofs.Common.{◌≡◌, ◌∙◌, ℕ, suc, ◌≤◌, Bool, true, false, not, ◌&&◌, ◌||◌, nat_eq, nat_lt, IsTrue, ◌↔◌, refl, sym, ap, subst, inl, inr, arith}
use Rattle.std.proofs.lemmas.Bool.{and_parts, and_from, or_left, or_right, ltb-true, lt-ltb, eqb-true}
use Rattle.rc_facts.specs.declared.fact.Fact.{Fact}
use Rattle.rc_facts.specs.declared.fact.Fact.TheVariants.{In, Up, Trad, NonNull}
use Rattle.rc_facts.specs.Derivable.{Derivable}
use Rattle.rc_facts.specs.Facts.{Known, holds, is_over, names}
use Rattle.rc_facts.proofs.Closes.{derivable_over}
use Rattle.rc_annotations.specs.Annotations.{Facts}
use Rattle.rc_annotations.proofs.Derivations.{derivable_more, derivable_cut}
use Rattle.rc_facts.specs.Flow.{set_at}
use Rattle.rc_code.specs.Running.{Reading, function_at}
use Rattle.rc_claims.specs.Counts.{place}
use Rattle.rc_sealed.specs.ImageVariables.{scratch, variables}
use Rattle.rc_sealed.specs.Carrying.{among, speaks, Follows}
use Rattle.rc_carrying.specs.Left.{is_own, IsReady}
use Rattle.rc_carrying.proofs.Closed.{isolated, Spoken}
use Rattle.rc_carrying.proofs.Carried.{every_of}
use Rattle.rc_prove.specs.Sets.{Sets, AreFrames}
use Rattle.rc_prove.specs.Starting.{IsFull}
use Rattle.rc_target_sets.specs.Shut.{IsShut}

-- ---- facts on fewer variables

less : (n m x : ℕ) → n ≤ m → IsTrue (nat_lt x n) → IsTrue (nat_lt x m)
less n m x le e = let l = ltb-true x n e in lt-ltb x m (omega (arith, l, le))

pub over_more : (n m : ℕ) → n ≤ m → (fact : Fact) → IsTrue (is_over n fact) → IsTrue (is_over m fact)
over_more n m le (In x y) e = let b = and_parts (nat_lt x n) (nat_lt y n) e in and_from (nat_lt x m) (nat_lt y m) (less n m x le b.0) (less n m y le b.1)
over_more n m le (Up x y) e = let b = and_parts (nat_lt x n) (nat_lt y n) e in and_from (nat_lt x m) (nat_lt y m) (less n m x le b.0) (less n m y le b.1)
over_more n m le (Trad x) e = less n m x le e
over_more n m le (NonNull x) e = less n m x le e

other : (s x : ℕ) → IsTrue (nat_lt x s) → IsTrue (not (nat_eq x s))
other s x e = by (nat_eq x s) refl
  where
    by : (b : Bool) → nat_eq x s ≡ b → IsTrue (not (nat_eq x s))
    by true q = absurd (let l = ltb-true x s e in let is = eqb-true x s q in omega (arith, l, is))
    by false q = ap not q

speaks_below : (s : ℕ) (p : Fact) → IsTrue (is_over s p) → IsTrue (speaks (λ u. not (nat_eq u s)) p)
speaks_below s (In x y) e = let b = and_parts (nat_lt x s) (nat_lt y s) e in and_from (not (nat_eq x s)) (not (nat_eq y s)) (other s x b.0) (other s y b.1)
speaks_below s (Up x y) e = let b = and_parts (nat_lt x s) (nat_lt y s) e in and_from (not (nat_eq x s)) (not (nat_eq y s)) (other s x b.0) (other s y b.1)
speaks_below s (Trad x) e = other s x e
speaks_below s (NonNull x) e = other s x e

neither : (a b : Bool) → (not a && not b) ≡ true → (a || b) ≡ false
neither true b e = cc
neither false true e = cc
neither false false e = refl

no : (a : Bool) → not a ≡ true → a ≡ false
no true e = cc
no false e = refl

unnamed : (s : ℕ) (p : Fact) → IsTrue (speaks (λ u. not (nat_eq u s)) p) → names s p ≡ false
unnamed s (In x y) e = neither (nat_eq x s) (nat_eq y s) e
unnamed s (Up x y) e = neither (nat_eq x s) (nat_eq y s) e
unnamed s (Trad x) e = no (nat_eq x s) e
unnamed s (NonNull x) e = no (nat_eq x s) e

-- ---- what is derivable of given facts

pub anew_ready : (n s : ℕ) (given set : Facts) → suc s ≡ n → ((q : Fact) → IsTrue (given q) → IsTrue (is_over s q)) → ((p : Fact) → IsTrue (set p) ↔ Derivable n given p) → IsReady n s set
anew_ready n s given set e over is = record {
  last = e;
  closed = record {
    over = λ p l. derivable_over (λ q m. over_more s n (omega (arith, e)) q (over q m)) ((is p).0 l);
    closed = λ p d. (is p).1 (derivable_cut (λ q l. (is q).0 l) d);
  };
  apart = λ p l named. by p named (isolated (λ u. not (nat_eq u s)) (λ q m. inr (speaks_below s q (over q m))) ((is p).0 l));
}
  where
    clash : (b : Bool) → b ≡ true → b ≡ false → ⊥
    clash true a b = cc
    clash false a b = cc

    by : (p : Fact) → names s p ≡ true → Spoken (λ u. not (nat_eq u s)) p → IsTrue (is_own p)
    by p named (inl own) = own
    by p named (inr apart) = absurd (clash (names s p) named (unnamed s p apart))

-- a set that is ready is shut
pub ready_shut : (set : Known) (n s : ℕ) → set.variables ≡ n → IsReady n s (holds set) → IsShut set
ready_shut set n s e r = record {
  over = λ fact is. subst (λ m. IsTrue (is_over m fact)) (sym e) (r.closed.over fact is);
  shut = λ fact d. or_left (holds set fact) (is_own fact) (r.closed.closed fact (subst (λ m. Derivable m (holds set) fact) e d));
}

-- a set of all facts on some variables is shut
pub full_shut : (count variables : ℕ) (set : Known) → count ≤ variables → IsFull count variables set → IsShut set
full_shut count variables set le f = record {
  over = λ fact is. subst (λ m. IsTrue (is_over m fact)) (sym f.wide) (over_more count variables le fact (sym (f.facts fact) ∙ is));
  shut = λ fact d. by fact (isolated (λ u. nat_lt u count) (λ q is. inr (speaks_of q (sym (f.facts q) ∙ is))) d);
}
  where
    speaks_of : (p : Fact) → IsTrue (is_over count p) → IsTrue (speaks (λ u. nat_lt u count) p)
    speaks_of (In x y) e = e
    speaks_of (Up x y) e = e
    speaks_of (Trad x) e = e
    speaks_of (NonNull x) e = e

    over_of : (p : Fact) → IsTrue (speaks (λ u. nat_lt u count) p) → IsTrue (is_over count p)
    over_of (In x y) e = e
    over_of (Up x y) e = e
    over_of (Trad x) e = e
    over_of (NonNull x) e = e

    by : (p : Fact) → Spoken (λ u. nat_lt u count) p → IsTrue (holds set p || is_own p)
    by p (inl own) = or_right (holds set p) (is_own p) own
    by p (inr apart) = or_left (holds set p) (is_own p) (f.facts p ∙ over_of p apart)

pub held : (set : Known) (p : Fact) → holds set p ≡ among set.facts p
unfolding holds
held set p = refl

pub follows_listed : (n : ℕ) (set : Known) (known : Fact → Type 0) → ((q : Fact) → IsTrue (holds set q) → known q) → (fact : Fact) → Derivable n (holds set) fact → Follows n known fact
follows_listed n set known h fact d = record { used = set.facts; each = every_of known set.facts (λ q e. h q (held set q ∙ e)); derived = derivable_more (λ q e. sym (held set q) ∙ e) d }

-- ---- frames

module _ (image : Reading) (g : ℕ) where
  pub frames_below : (fact : Fact) → IsTrue (is_over (place (function_at image g) 0) fact) → IsTrue (is_over (scratch image (function_at image g)) fact)
  frames_below fact e = over_more (place (function_at image g) 0) (scratch image (function_at image g)) (omega arith) fact e

  pub frame_ready : (now : Sets) (work : Facts) (r : ℕ) → AreFrames image g now → ((fact : Fact) → IsTrue (work fact) ↔ Derivable (variables image (function_at image g)) (set_at now.frames r) fact) → IsReady (variables image (function_at image g)) (scratch image (function_at image g)) work
  frame_ready now work r over anew = anew_ready (variables image (function_at image g)) (scratch image (function_at image g)) (set_at now.frames r) work refl (λ q is. frames_below q (over r q is)) anew
