-- Counts of operands that are numbers, where some are taken and one is given.
use Rattle.std.proofs.Common.{◌≡◌, ◌∙◌, ◌↔◌, ◌⊎◌, inl, inr, ℕ, zero, suc, ◌+◌, ◌-◌, ◌<◌, ◌≤◌, min, Bool, true, false, nat_le, ◌&&◌, List, [], ◌∷◌, ◌++◌, map, length, drop, get_or, refl, sym, ap, subst, arith, MatchBool, length-append, length-drop}
use Rattle.std.specs.List.{AllByRecursion as Every}
use Rattle.std.proofs.lemmas.Bool.{leb-true, le-leb}
use Rattle.std.proofs.lemmas.List.{get_or_append_left, get_or_at}
use Rattle.rc_code.specs.declared.image.Function.{Function}
use Rattle.rc_code.specs.Running.{Reading}
use Rattle.rc_code.specs.Soundness.{Kind, numbers, handles, pointers, count_off, instruction_at, kinds_before}
use Rattle.rc_sealed.specs.Pinned.{IsNumeric}
use Rattle.rc_pinning.specs.Operands.{is_numeric, CountOperands, TakesAboveNumbers}

numeric_told : (k : Kind) → is_numeric k ≡ true → IsNumeric k
numeric_told (numbers s) e = tt
numeric_told handles e = cc
numeric_told (pointers t) e = cc

numeric_tells : (k : Kind) → IsNumeric k → is_numeric k ≡ true
numeric_tells (numbers s) h = refl
numeric_tells handles h = absurd h
numeric_tells (pointers t) h = absurd h

abbrev no_kinds : List Kind
no_kinds = []

drop_none : (n : ℕ) → drop n no_kinds ≡ no_kinds
drop_none zero = refl
drop_none (suc n) = refl

drop_on : (kinds : List Kind) (c b : ℕ) → drop b (drop c kinds) ≡ drop (c + b) kinds
drop_on kinds zero b = let e : b ≡ 0 + b = omega arith in ap (λ n. drop n kinds) e
drop_on [] (suc c) b = drop_none b ∙ sym (drop_none (suc c + b))
drop_on (k ∷ kinds) (suc c) b = let e : suc (c + b) ≡ suc c + b = omega arith in drop_on kinds c b ∙ ap (λ n. drop n (k ∷ kinds)) e

abbrev AreCounted : List Kind → ℕ → Type 0
AreCounted kinds count = (b : ℕ) → (length kinds - b ≤ count) ↔ Every IsNumeric (drop b kinds)

-- those that are left are counted as before
left_counted : (kinds : List Kind) (c count : ℕ) → AreCounted kinds count → AreCounted (drop c kinds) count
left_counted kinds c count counted b =
    let long = length-drop c kinds in let e : length (drop c kinds) - b ≡ length kinds - (c + b) = omega (arith, long) in
    (λ le. subst (Every IsNumeric) (sym (drop_on kinds c b)) ((counted (c + b)).0 (subst (λ n. n ≤ count) e le)), λ all. subst (λ n. n ≤ count) (sym e) ((counted (c + b)).1 (subst (Every IsNumeric) (drop_on kinds c b) all)))

pub nothing_above : (kinds : List Kind) (c left count : ℕ) (more : List Kind) → AreCounted kinds count → left ≡ length kinds - c → map is_numeric more ≡ [] → CountOperands (more ++ drop c kinds) (record { height = left; numbers = count })
nothing_above kinds c left count [] counted e none = record { height = e ∙ sym (length-drop c kinds); numbers = left_counted kinds c count counted }
nothing_above kinds c left count (k ∷ more) counted e none = absurd cc

both_true : (a b : Bool) → (a && b) ≡ true → (a ≡ true) × (b ≡ true)
both_true true true e = (refl, refl)
both_true true false e = cc
both_true false b e = cc

-- one more above so many that are counted
module _ (kinds : List Kind) (k : Kind) (count : ℕ) (counted : AreCounted kinds count) where
  raised_all : (raised : ℕ) → is_numeric k ≡ true → length kinds ≤ count → raised ≡ length kinds + 1 → AreCounted (k ∷ kinds) raised
  raised_all raised is le e zero = (λ _. (numeric_told k is, (counted 0).0 (omega (arith, le))), λ _. omega (arith, e))
  raised_all raised is le e (suc b) = (λ _. (counted b).0 (omega (arith, le)), λ _. omega (arith, e))

  raised_least : (raised : ℕ) → (is_numeric k && nat_le (length kinds) count) ≡ false → raised ≡ min (length kinds) count → AreCounted (k ∷ kinds) raised
  raised_least raised not e zero = (λ le. absurd (omega (arith, le, e)), λ all. absurd (apart (is_numeric k) (nat_le (length kinds) count) (numeric_tells k all.0) (le-leb (length kinds) count (let l = (counted 0).1 all.1 in omega (arith, l))) not))
    where
      apart : (a b : Bool) → a ≡ true → b ≡ true → (a && b) ≡ false → ⊥
      apart true true p q r = cc
      apart true false p q r = cc
      apart false b p q r = cc
  raised_least raised not e (suc b) = (λ le. (counted b).0 (omega (arith, le, e)), λ all. let l = (counted b).1 all in omega (arith, l, e))

pub one_above : (kinds : List Kind) (c left count raised : ℕ) (is : Bool) (more : List Kind) → AreCounted kinds count → left ≡ length kinds - c → map is_numeric more ≡ is ∷ [] → MatchBool (is && nat_le left count) (raised ≡ left + 1) (raised ≡ min left count)
    → CountOperands (more ++ drop c kinds) (record { height = left + 1; numbers = raised })
one_above kinds c left count raised is [] counted e one rise = absurd cc
one_above kinds c left count raised is (k ∷ j ∷ more) counted e one rise = absurd cc
one_above kinds c left count raised is (k ∷ []) counted e one rise = record { height = (let l = same in omega (arith, l)); numbers = by (is && nat_le left count) refl rise }
  where
    same : left ≡ length (drop c kinds)
    same = e ∙ sym (length-drop c kinds)

    numeric : is_numeric k ≡ is
    numeric = cc

    by : (b : Bool) → (is && nat_le left count) ≡ b → MatchBool b (raised ≡ left + 1) (raised ≡ min left count) → AreCounted (k ∷ drop c kinds) raised
    by true t r =
        let both = both_true is (nat_le left count) t in let le = leb-true left count both.1 in
        raised_all (drop c kinds) k count (left_counted kinds c count counted) raised (numeric ∙ both.0) (omega (arith, le, same)) (r ∙ ap (λ n. n + 1) same)
    by false t r =
        raised_least (drop c kinds) k count (left_counted kinds c count counted) raised (ap (λ b. b && nat_le (length (drop c kinds)) count) numeric ∙ ap (λ n. is && nat_le n count) (sym same) ∙ t) (r ∙ ap (λ n. min n count) same)

pub none_counted : CountOperands [] (record { height = 0; numbers = 0 })
none_counted = record { height = refl; numbers = λ b. (λ le. none b, λ all. omega arith) }
  where
    none : (b : ℕ) → Every IsNumeric (drop b [])
    none zero = tt
    none (suc b) = tt

-- ---- what is told of instructions

pub told_above : (image : Reading) (f : Function) (at left count : ℕ) → AreCounted (kinds_before image f at) count → left ≡ length (kinds_before image f at) - count_off image f (instruction_at f at) → (nat_le left count ≡ true) ↔ TakesAboveNumbers image f at
told_above image f at left count counted e = (
  λ t. (counted (count_off image f (instruction_at f at))).0 (subst (λ n. n ≤ count) e (leb-true left count t)),
  λ all. le-leb left count (subst (λ n. n ≤ count) (sym e) ((counted (count_off image f (instruction_at f at))).1 all)),
)

order : (a b : ℕ) → (a < b) ⊎ ((a ≡ b) ⊎ (b < a))
order a b = grind arith

pub tells_more : (P : ℕ → Type 0) (xs more : List Bool) (b : Bool) (i : ℕ) → more ≡ xs ++ b ∷ [] → length xs ≡ i → (b ≡ true) ↔ P i → ((k : ℕ) → k < i → (get_or xs k false ≡ true) ↔ P k) → (k : ℕ) → k < i + 1 → (get_or more k false ≡ true) ↔ P k
tells_more P xs more b i e long one each k lt = subst (λ (ys : List Bool). (get_or ys k false ≡ true) ↔ P k) (sym e) (by (order k i))
  where
    by : (k < i) ⊎ ((k ≡ i) ⊎ (i < k)) → (get_or (xs ++ b ∷ []) k false ≡ true) ↔ P k
    by (inl l) = subst (λ c. (c ≡ true) ↔ P k) (sym (get_or_append_left xs (b ∷ []) false k (omega (arith, l, long)))) (each k l)
    by (inr (inl q)) = subst (λ c. (c ≡ true) ↔ P k) (sym (get_or_at xs b [] false k (long ∙ sym q))) (subst (λ n. (b ≡ true) ↔ P n) (sym q) one)
    by (inr (inr l)) = absurd (omega (arith, l, lt))

pub long_push : (xs more : List Bool) (b : Bool) (i : ℕ) → more ≡ xs ++ b ∷ [] → length xs ≡ i → length more ≡ i + 1
long_push xs more b i e long = let l = length-append xs (b ∷ []) in let k : length more ≡ length (xs ++ b ∷ []) = ap length e in omega (arith, l, k, long)
