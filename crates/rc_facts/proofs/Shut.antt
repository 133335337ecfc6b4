-- Sets that are closed under the rules.
use Rattle.std.proofs.Common.{◌≡◌, ◌∙◌, inl, inr, ℕ, Bool, true, false, not, ◌&&◌, ◌||◌, ◌==◌, nat_lt, cond, refl, ap}
use Rattle.std.specs.Prelude.{Option, Some, None}
use Rattle.std.proofs.lemmas.Bool.{and_parts, and_from, cases_eq, ne_eqb, ltb-true, lt-ltb, eq-eqb}
use Rattle.rc_facts.specs.declared.fact.Fact.{Fact}
use Rattle.rc_facts.specs.declared.fact.Fact.TheVariants.{In, Up, Trad, NonNull}
use Rattle.rc_facts.specs.Shut.{IsShut, IsClean, spot, pair_by, one_by, Placed, extended}
use Rattle.rc_facts.specs.Derivable.{Derivable, stated, in_itself, in_through, up_through, up_by_in, in_back, present_by_in, present_by_up, trad_by_up, up_by_trad, in_by_trad}

-- no rule gives more facts, with variables of a domain
pub record Laws (dom : ℕ → Bool) (c : Fact → Bool) : Type 0 where
  pub itself : (x : ℕ) → dom x ≡ true → c (In x x) ≡ true
  pub in_in : (x y z : ℕ) → c (In x y) ≡ true → c (In y z) ≡ true → c (In x z) ≡ true
  pub up_up : (x y z : ℕ) → c (Up x y) ≡ true → c (Up y z) ≡ true → c (Up x z) ≡ true
  pub in_up : (x y : ℕ) → c (In x y) ≡ true → c (Up x y) ≡ true
  pub turns : (x y : ℕ) → c (In x y) ≡ true → c (NonNull x) ≡ true → c (In y x) ≡ true
  pub up_present : (x y : ℕ) → c (Up x y) ≡ true → c (NonNull x) ≡ true → c (NonNull y) ≡ true
  pub up_trad : (x y : ℕ) → c (Up x y) ≡ true → c (Trad y) ≡ true → c (Trad x) ≡ true
  pub trad_up : (x y : ℕ) → c (Trad x) ≡ true → c (NonNull y) ≡ true → c (Up x y) ≡ true
  pub trad_in : (x y : ℕ) → c (Trad x) ≡ true → c (Trad y) ≡ true → c (NonNull y) ≡ true → c (In x y) ≡ true

-- what obeys the laws and has the given facts has all that is derivable
pub laws_all : {n : ℕ} {given c : Fact → Bool} → Laws (λ x. nat_lt x n) c → ((f : Fact) → given f ≡ true → c f ≡ true) → {fact : Fact} → Derivable n given fact → c fact ≡ true
laws_all l h (stated {fact} is) = h fact is
laws_all l h (in_itself {x} below) = l.itself x (lt-ltb x _ below)
laws_all l h (in_through {x} {y} {z} a b) = l.in_in x y z (laws_all l h a) (laws_all l h b)
laws_all l h (up_through {x} {y} {z} a b) = l.up_up x y z (laws_all l h a) (laws_all l h b)
laws_all l h (up_by_in {x} {y} a) = l.in_up x y (laws_all l h a)
laws_all l h (in_back {x} {y} a b) = l.turns x y (laws_all l h a) (laws_all l h b)
laws_all l h (present_by_in {x} {y} a b) = l.up_present x y (l.in_up x y (laws_all l h a)) (laws_all l h b)
laws_all l h (present_by_up {x} {y} a b) = l.up_present x y (laws_all l h a) (laws_all l h b)
laws_all l h (trad_by_up {x} {y} a b) = l.up_trad x y (laws_all l h a) (laws_all l h b)
laws_all l h (up_by_trad {x} {y} a b) = l.trad_up x y (laws_all l h a) (laws_all l h b)
laws_all l h (in_by_trad {x} {y} a b d) = l.trad_in x y (laws_all l h a) (laws_all l h b) (laws_all l h d)

-- the variables below n but one
abbrev pub others : (n s : ℕ) → ℕ → Bool
others n s x = nat_lt x n && not (x == s)

pub falsely : (b : Bool) → not b ≡ true → b ≡ false
falsely true e = cc
falsely false e = refl

pub truly : (b : Bool) → b ≡ false → not b ≡ true
truly b e = ap not e

-- a closed set with no fact on the scratch variable obeys the laws for the others
pub neither : (a b : Bool) → (a || b) ≡ false → (a ≡ false) × (b ≡ false)
neither true b e = cc
neither false b e = (refl, e)

pub none_of : (a b : Bool) → a ≡ false → b ≡ false → (a || b) ≡ false
none_of a b e h = rw (e, h) refl

pub laws_of : (n s : ℕ) (c : Fact → Bool) → IsShut n s c → IsClean s c → Laws (others n s) c
laws_of n s c shut clean = record {
  itself = λ x is. let b = and_parts (nat_lt x n) _ is in shut (In x x) (none_of (x == s) (x == s) (falsely _ b.1) (falsely _ b.1)) (in_itself (ltb-true x n b.0));
  in_in = λ x y z a b. shut (In x z) (none_of (x == s) (z == s) (neither (x == s) (y == s) (clean (In x y) a)).0 (neither (y == s) (z == s) (clean (In y z) b)).1) (in_through {y = y} (stated a) (stated b));
  up_up = λ x y z a b. shut (Up x z) (none_of (x == s) (z == s) (neither (x == s) (y == s) (clean (Up x y) a)).0 (neither (y == s) (z == s) (clean (Up y z) b)).1) (up_through {y = y} (stated a) (stated b));
  in_up = λ x y a. shut (Up x y) (clean (In x y) a) (up_by_in (stated a));
  turns = λ x y a b. shut (In y x) (none_of (y == s) (x == s) (neither (x == s) (y == s) (clean (In x y) a)).1 (neither (x == s) (y == s) (clean (In x y) a)).0) (in_back (stated a) (stated b));
  up_present = λ x y a b. shut (NonNull y) (neither (x == s) (y == s) (clean (Up x y) a)).1 (present_by_up {x = x} (stated a) (stated b));
  up_trad = λ x y a b. shut (Trad x) (neither (x == s) (y == s) (clean (Up x y) a)).0 (trad_by_up {y = y} (stated a) (stated b));
  trad_up = λ x y a b. shut (Up x y) (none_of (x == s) (y == s) (clean (Trad x) a) (clean (NonNull y) b)) (up_by_trad (stated a) (stated b));
  trad_in = λ x y a b d. shut (In x y) (none_of (x == s) (y == s) (clean (Trad x) a) (clean (Trad y) b)) (in_by_trad (stated a) (stated b) (stated d));
}

-- what the facts on a fresh variable must be, so that the whole is closed again
pub record Fits (c : Fact → Bool) (p : Placed) : Type 0 where
  pub row_in : (x y : ℕ) → p.row_in x ≡ true → c (In x y) ≡ true → p.row_in y ≡ true
  pub row_up : (x y : ℕ) → p.row_up x ≡ true → c (Up x y) ≡ true → p.row_up y ≡ true
  pub into_in : (x y : ℕ) → c (In x y) ≡ true → p.into_in y ≡ true → p.into_in x ≡ true
  pub into_up : (x y : ℕ) → c (Up x y) ≡ true → p.into_up y ≡ true → p.into_up x ≡ true
  pub across_in : (x y : ℕ) → p.into_in x ≡ true → p.row_in y ≡ true → c (In x y) ≡ true
  pub across_up : (x y : ℕ) → p.into_up x ≡ true → p.row_up y ≡ true → c (Up x y) ≡ true
  pub row_wider : (x : ℕ) → p.row_in x ≡ true → p.row_up x ≡ true
  pub into_wider : (x : ℕ) → p.into_in x ≡ true → p.into_up x ≡ true
  pub row_turns : (x : ℕ) → p.present ≡ true → p.row_in x ≡ true → p.into_in x ≡ true
  pub into_turns : (x : ℕ) → c (NonNull x) ≡ true → p.into_in x ≡ true → p.row_in x ≡ true
  pub row_present : (x : ℕ) → p.present ≡ true → p.row_up x ≡ true → c (NonNull x) ≡ true
  pub into_present : (x : ℕ) → c (NonNull x) ≡ true → p.into_up x ≡ true → p.present ≡ true
  pub row_trad : (x : ℕ) → p.row_up x ≡ true → c (Trad x) ≡ true → p.trad ≡ true
  pub into_trad : (x : ℕ) → p.into_up x ≡ true → p.trad ≡ true → c (Trad x) ≡ true
  pub trad_row : (x : ℕ) → p.trad ≡ true → c (NonNull x) ≡ true → p.row_up x ≡ true
  pub trad_into : (x : ℕ) → c (Trad x) ≡ true → p.present ≡ true → p.into_up x ≡ true
  pub trad_row_in : (x : ℕ) → p.trad ≡ true → c (Trad x) ≡ true → c (NonNull x) ≡ true → p.row_in x ≡ true
  pub trad_into_in : (x : ℕ) → c (Trad x) ≡ true → p.trad ≡ true → p.present ≡ true → p.into_in x ≡ true

module _ {dom : ℕ → Bool} {c : Fact → Bool} {p : Placed} (l : Laws dom c) (k : Fits c p) where
  abbrev ins : Option ℕ → Option ℕ → Bool
  ins = pair_by (λ a b. c (In a b)) p.row_in p.into_in

  abbrev ups : Option ℕ → Option ℕ → Bool
  ups = pair_by (λ a b. c (Up a b)) p.row_up p.into_up

  abbrev trads : Option ℕ → Bool
  trads = one_by (λ a. c (Trad a)) p.trad

  abbrev presents : Option ℕ → Bool
  presents = one_by (λ a. c (NonNull a)) p.present

  in_in : (x y z : Option ℕ) → ins x y ≡ true → ins y z ≡ true → ins x z ≡ true
  in_in None None z a b = b
  in_in None (Some y) None a b = refl
  in_in None (Some y) (Some z) a b = k.row_in y z a b
  in_in (Some x) None None a b = a
  in_in (Some x) None (Some z) a b = k.across_in x z a b
  in_in (Some x) (Some y) None a b = k.into_in x y a b
  in_in (Some x) (Some y) (Some z) a b = l.in_in x y z a b

  up_up : (x y z : Option ℕ) → ups x y ≡ true → ups y z ≡ true → ups x z ≡ true
  up_up None None z a b = b
  up_up None (Some y) None a b = refl
  up_up None (Some y) (Some z) a b = k.row_up y z a b
  up_up (Some x) None None a b = a
  up_up (Some x) None (Some z) a b = k.across_up x z a b
  up_up (Some x) (Some y) None a b = k.into_up x y a b
  up_up (Some x) (Some y) (Some z) a b = l.up_up x y z a b

  in_up : (x y : Option ℕ) → ins x y ≡ true → ups x y ≡ true
  in_up None None a = refl
  in_up None (Some y) a = k.row_wider y a
  in_up (Some x) None a = k.into_wider x a
  in_up (Some x) (Some y) a = l.in_up x y a

  turns : (x y : Option ℕ) → ins x y ≡ true → presents x ≡ true → ins y x ≡ true
  turns None None a b = refl
  turns None (Some y) a b = k.row_turns y b a
  turns (Some x) None a b = k.into_turns x b a
  turns (Some x) (Some y) a b = l.turns x y a b

  up_present : (x y : Option ℕ) → ups x y ≡ true → presents x ≡ true → presents y ≡ true
  up_present None None a b = b
  up_present None (Some y) a b = k.row_present y b a
  up_present (Some x) None a b = k.into_present x b a
  up_present (Some x) (Some y) a b = l.up_present x y a b

  up_trad : (x y : Option ℕ) → ups x y ≡ true → trads y ≡ true → trads x ≡ true
  up_trad None None a b = b
  up_trad None (Some y) a b = k.row_trad y a b
  up_trad (Some x) None a b = k.into_trad x a b
  up_trad (Some x) (Some y) a b = l.up_trad x y a b

  trad_up : (x y : Option ℕ) → trads x ≡ true → presents y ≡ true → ups x y ≡ true
  trad_up None None a b = refl
  trad_up None (Some y) a b = k.trad_row y a b
  trad_up (Some x) None a b = k.trad_into x a b
  trad_up (Some x) (Some y) a b = l.trad_up x y a b

  trad_in : (x y : Option ℕ) → trads x ≡ true → trads y ≡ true → presents y ≡ true → ins x y ≡ true
  trad_in None None a b d = refl
  trad_in None (Some y) a b d = k.trad_row_in y a b d
  trad_in (Some x) None a b d = k.trad_into_in x a b d
  trad_in (Some x) (Some y) a b d = l.trad_in x y a b d

-- the laws for the others, and facts that fit on a fresh variable, are the laws for all
pub fresh_shut : (n s : ℕ) {c : Fact → Bool} {p : Placed} → Laws (others n s) c → Fits c p → Laws (λ x. nat_lt x n) (extended s p c)
fresh_shut n s {c} {p} l k = record {
  itself = λ x below. elim (cases_eq x s) [
    | inl same ↦ ap (λ b. ins l k (cond b None (Some x)) (cond b None (Some x))) (eq-eqb x s same)
    | inr other ↦ ap (λ b. ins l k (cond b None (Some x)) (cond b None (Some x))) (ne_eqb x s other) ∙ l.itself x (and_from (nat_lt x n) _ below (truly _ (ne_eqb x s other)))
  ];
  in_in = λ x y z. in_in l k (spot s x) (spot s y) (spot s z);
  up_up = λ x y z. up_up l k (spot s x) (spot s y) (spot s z);
  in_up = λ x y. in_up l k (spot s x) (spot s y);
  turns = λ x y. turns l k (spot s x) (spot s y);
  up_present = λ x y. up_present l k (spot s x) (spot s y);
  up_trad = λ x y. up_trad l k (spot s x) (spot s y);
  trad_up = λ x y. trad_up l k (spot s x) (spot s y);
  trad_in = λ x y. trad_in l k (spot s x) (spot s y);
}
