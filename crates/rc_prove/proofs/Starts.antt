-- Lists of full sets.
use Rattle.std.proofs.Common.{rules, Bool, true, false, not, ◌&&◌, ◌||◌, nat_eq, nat_lt, ◌≡◌, ◌∙◌, ℕ, IsTrue, zero, suc, ◌+◌, ◌<◌, List, [], ◌∷◌, ◌++◌, length, map, get_or, Some, refl, sym, ap, subst, inl, inr, ◌⊎◌, arith}
use Rattle.std.specs.Prelude.{slice_get}
use Rattle.std.specs.declared.vec.Vec.{Vec}
use Rattle.std.specs.declared.alloc.Global.{Global}
use Rattle.std.proofs.lemmas.List.{length-append}
use Rattle.std.proofs.lemmas.Option.{slice_get_within}
use Rattle.rc_facts.specs.declared.fact.Fact.{Fact}
use Rattle.rc_facts.specs.declared.fact.Fact.TheVariants.{In, Up, Trad, NonNull}
use Rattle.rc_facts.specs.Facts.{Known, holds, is_over, names}
use Rattle.rc_facts.specs.Flow.{no_set}
use Rattle.rc_prove.specs.declared.start.Counts.{Counts}
use Rattle.rc_prove.specs.Family.{Family, items_of, FewerAll}
use Rattle.rc_prove.specs.Starting.{IsFull, AreFull, Pushed, IsBegun, IsWithin, AreShaped}

order : (a b : ℕ) → (a < b) ⊎ ((a ≡ b) ⊎ (b < a))
order a b = grind arith

pub get_before : {X : Type 0} (xs : List X) (y d : X) (i : ℕ) → i < length xs → get_or (xs ++ y ∷ []) i d ≡ get_or xs i d
get_before [] y d i lt = absurd (omega (arith, lt))
get_before (x ∷ xs) y d zero lt = refl
get_before (x ∷ xs) y d (suc i) lt = get_before xs y d i (omega (arith, lt))

pub get_last : {X : Type 0} (xs : List X) (y d : X) → get_or (xs ++ y ∷ []) (length xs) d ≡ y
get_last [] y d = refl
get_last (x ∷ xs) y d = get_last xs y d

pub full_none : (count variables : ℕ) → AreFull count variables 0 []
full_none count variables = record { long = refl; each = λ r lt. absurd (omega (arith, lt)) }

pub full_more : (count variables many : ℕ) (old new : List Known) (set : Known) → new ≡ old ++ set ∷ [] → IsFull count variables set → AreFull count variables many old → AreFull count variables (many + 1) new
full_more count variables many old new set e is a = record {
  long = ap length e ∙ length-append old (set ∷ []) ∙ (let l = a.long in omega (arith, l));
  each = λ r lt. subst (λ xs. IsFull count variables (get_or xs r no_set)) (sym e) (by r (order r many) lt);
}
  where
    by : (r : ℕ) → (r < many) ⊎ ((r ≡ many) ⊎ (many < r)) → r < many + 1 → IsFull count variables (get_or (old ++ set ∷ []) r no_set)
    by r (inl l) lt = subst (IsFull count variables) (sym (get_before old set no_set r (let q = a.long in omega (arith, l, q)))) (a.each r l)
    by r (inr (inl q)) lt = subst (IsFull count variables) (sym (ap (λ i. get_or (old ++ set ∷ []) i no_set) (q ∙ sym a.long) ∙ get_last old set no_set)) is
    by r (inr (inr l)) lt = absurd (omega (arith, l, lt))

pub pushed_items : (xs : List (Vec Known Global)) (y : Vec Known Global) → map items_of (xs ++ y ∷ []) ≡ map items_of xs ++ y.items ∷ []
pushed_items [] y = refl
pushed_items (x ∷ xs) y = ap (λ zs. x.items ∷ zs) (pushed_items xs y)

-- of each function before the next one
each_more : {X : Type 0} (P : Counts → X → Type 0) (all : List Counts) (k : ℕ) (counts : Counts) (d x : X) (xs new : List X) → length xs ≡ k → slice_get all k ≡ Some counts → new ≡ xs ++ x ∷ [] → P counts x → ((j : ℕ) (c : Counts) → j < k → slice_get all j ≡ Some c → P c (get_or xs j d))
    → (j : ℕ) (c : Counts) → j < k + 1 → slice_get all j ≡ Some c → P c (get_or new j d)
each_more P all k counts d x xs new long at e p before j c lt is = subst (λ ys. P c (get_or ys j d)) (sym e) (by (order j k))
  where
    some_is : (a b : Counts) → Some a ≡ Some b → a ≡ b
    some_is a b q = cc

    by : (j < k) ⊎ ((j ≡ k) ⊎ (k < j)) → P c (get_or (xs ++ x ∷ []) j d)
    by (inl l) = subst (P c) (sym (get_before xs x d j (omega (arith, l, long)))) (before j c l is)
    by (inr (inl q)) = subst (P c) (sym (ap (λ i. get_or (xs ++ x ∷ []) i d) (q ∙ sym long) ∙ get_last xs x d)) (subst (λ y. P y x) (some_is counts c (sym at ∙ ap (slice_get all) (sym q) ∙ is)) p)
    by (inr (inr l)) = absurd (omega (arith, l, lt))

more_long : {X : Type 0} (xs new : List X) (x : X) (k : ℕ) → new ≡ xs ++ x ∷ [] → length xs ≡ k → length new ≡ k + 1
more_long xs new x k e long = ap length e ∙ length-append xs (x ∷ []) ∙ (let l = long in omega (arith, l))

pub begun_none : (all : List Counts) → IsBegun all 0 (record { entries = []; exits = []; frames = [] })
begun_none all = record { entries = refl; exits = refl; frames = refl; entry_full = λ j c lt. absurd (omega (arith, lt)); exit_full = λ j c lt. absurd (omega (arith, lt)); frames_full = λ j c lt. absurd (omega (arith, lt)) }

pub begun_more : (all : List Counts) (k : ℕ) (counts : Counts) (old new : Family) → slice_get all k ≡ Some counts → Pushed counts old new → IsBegun all k old → IsBegun all (k + 1) new
begun_more all k counts old new at p b = record {
  entries = more_long old.entries new.entries p.entry k p.entries_are b.entries;
  exits = more_long old.exits new.exits p.exit k p.exits_are b.exits;
  frames = more_long old.frames new.frames p.frames k p.frames_are b.frames;
  entry_full = each_more (λ c s. IsFull c.copies c.copies s) all k counts no_set p.entry old.entries new.entries b.entries at p.entries_are p.entry_full b.entry_full;
  exit_full = each_more (λ c s. IsFull c.answers (suc c.copies) s) all k counts no_set p.exit old.exits new.exits b.exits at p.exits_are p.exit_full b.exit_full;
  frames_full = each_more (λ c s. AreFull c.locals c.variables c.targets s) all k counts [] p.frames old.frames new.frames b.frames at p.frames_are p.frames_full b.frames_full;
}

-- ---- what is left of them

within : (count variables : ℕ) (old new : Known) → IsFull count variables old → new.variables ≡ old.variables → ((fact : Fact) → IsTrue (holds new fact) → IsTrue (holds old fact)) → IsWithin count variables new
within count variables old new full same fewer = record { wide = same ∙ full.wide; facts = λ fact is. sym (full.facts fact) ∙ fewer fact is }

pub shaped : (all : List Counts) (old new : Family) → IsBegun all (length all) old → FewerAll old new → AreShaped all new
shaped all old new b w = record {
  entries = (w.shape 0).entries ∙ b.entries;
  exits = (w.shape 0).exits ∙ b.exits;
  frames = w.long ∙ b.frames;
  entry = λ j c is. within c.copies c.copies (get_or old.entries j no_set) (get_or new.entries j no_set) (b.entry_full j c (slice_get_within all j c is) is) ((w.shape j).entry j) ((w.facts j).entries j);
  exit = λ j c is. within c.answers (suc c.copies) (get_or old.exits j no_set) (get_or new.exits j no_set) (b.exit_full j c (slice_get_within all j c is) is) ((w.shape j).exit j) ((w.facts j).exits j);
  frame = λ j c is. (let full = b.frames_full j c (slice_get_within all j c is) is in record {
    long = (w.shape j).frames ∙ full.long;
    each = λ r lt. within c.locals c.variables (get_or (get_or old.frames j []) r no_set) (get_or (get_or new.frames j []) r no_set) (full.each r lt) ((w.shape j).frame r) ((w.facts j).frames r);
  });
}

-- ---- fewer variables

lt_less : (x t : ℕ) → (nat_lt x (suc t) && not (nat_eq x t)) ≡ nat_lt x t
lt_less x t = grind (arith, rules)

each_apart : (a b c d : Bool) → ((a && b) && not (c || d)) ≡ ((a && not c) && (b && not d))
each_apart true true true d = refl
each_apart true true false d = refl
each_apart true false true d = refl
each_apart true false false d = refl
each_apart false b c d = refl

over_less : (t : ℕ) (fact : Fact) → (is_over (suc t) fact && not (names t fact)) ≡ is_over t fact
over_less t (In x y) = each_apart (nat_lt x (suc t)) (nat_lt y (suc t)) (nat_eq x t) (nat_eq y t) ∙ ap (λ b. b && (nat_lt y (suc t) && not (nat_eq y t))) (lt_less x t) ∙ ap (λ b. nat_lt x t && b) (lt_less y t)
over_less t (Up x y) = each_apart (nat_lt x (suc t)) (nat_lt y (suc t)) (nat_eq x t) (nat_eq y t) ∙ ap (λ b. b && (nat_lt y (suc t) && not (nat_eq y t))) (lt_less x t) ∙ ap (λ b. nat_lt x t && b) (lt_less y t)
over_less t (Trad x) = lt_less x t
over_less t (NonNull x) = lt_less x t

pub full_less : (count variables at : ℕ) (old new : Known) → count ≡ suc at → IsFull count variables old → new.variables ≡ old.variables → ((fact : Fact) → holds new fact ≡ (holds old fact && not (names at fact))) → IsFull at variables new
full_less count variables at old new e full same is = record {
  wide = same ∙ full.wide;
  facts = λ fact. is fact ∙ ap (λ b. b && not (names at fact)) (full.facts fact ∙ ap (λ k. is_over k fact) e) ∙ over_less at fact;
}
