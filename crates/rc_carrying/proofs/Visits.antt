-- What a visit of an instruction tells.
use Rattle.std.proofs.Common.{◌≡◌, ℕ, suc, ◌+◌, ◌<◌, Bool, true, false, not, ◌||◌, IsTrue, List, [], ◌∷◌, Option, Some, None, Vec, Global, refl, sym, ◌∙◌, subst, inl, inr, ◌⊎◌, ◌↔◌, arith}
use Rattle.std.specs.Prelude.{◌&&◌, nat_eq, nat_lt, get_or, MatchOption}
use Rattle.std.specs.List.{All, AllByRecursion as Every}
use Rattle.std.proofs.lemmas.Bool.{and_parts, and_from, or_cases, or_left, or_right, eqb-true, ltb-true}
use Rattle.rc_facts.specs.declared.fact.Fact.{Fact}
use Rattle.rc_facts.specs.Derivable.{Derivable}
use Rattle.rc_facts.specs.Facts.{Known, holds, is_over, names, same_fact}
use Rattle.rc_facts.specs.declared.fact.Fact.TheVariants.{In, Up, Trad, NonNull}
use Rattle.rc_facts.proofs.Closes.{derivable_over}
use Rattle.rc_facts.proofs.Sets.{same_fact-true}
use Rattle.rc_facts.specs.Flow.{Facts, set_at}
use Rattle.rc_annotations.proofs.Derivations.{derivable_cut, derivable_more}
use Rattle.rc_rlang.specs.RegionFlow.{Effect, assigned}
use Rattle.rc_annotations.specs.Annotations.{Annotation, exit_facts}
use Rattle.rc_edges.specs.Edges.{AreNews, EffectBelow, renewed}
use Rattle.rc_edges.specs.News.{news_of}
use Rattle.rc_edges.proofs.Adding.{news_are}
use Rattle.rc_edges.proofs.Downward.{renewed_below}
use Rattle.rc_edges.proofs.Renaming.{same_self}
use Rattle.rc_graph.specs.Nodes.{effect_of}
use Rattle.rc_code.specs.Running.{Reading, function_at}
use Rattle.rc_code.specs.declared.image.Function.{Function}
use Rattle.rc_claims.specs.Counts.{place}
use Rattle.rc_sealed.specs.ImageVariables.{scratch, variables}
use Rattle.rc_sealed.specs.Carrying.{among, is_target, effect_at, lowest, reach, either, speaks, Follows, Carried, Before}
use Rattle.rc_sealed.proofs.Carry.{before_over}
use Rattle.rc_sealed.proofs.Greater.{follows_more}
use Rattle.rc_carrying.specs.declared.step.Step.{Step}
use Rattle.rc_carrying.specs.Left.{is_own, IsReady, Left, stay}
use Rattle.rc_carrying.specs.Closing.{Has}
use Rattle.rc_carrying.specs.Asked.{Passed}
use Rattle.rc_carrying.specs.Passing.{listed, Fits, Crosses, Visited, passes, fails, fails_behind, StandsFor, Serves, Reached}
use Rattle.rc_crossing.specs.Fitting.{lacks}
use Rattle.rc_carrying.proofs.Crossed.{there}
use Rattle.rc_carrying.proofs.Closed.{isolated, Spoken}
use Rattle.rc_carrying.proofs.Carried.{left_carried, listed_over, every_of, over_suc}
use Rattle.rc_carrying.proofs.Ready.{left_ready}

-- ---- lists and sets

nothing_else : (P : Type 0) (b : Bool) → b ≡ true → b ≡ false → P
nothing_else P true e d = cc
nothing_else P false e d = cc

falsely : (b : Bool) → not b ≡ true → b ≡ false
falsely true e = cc
falsely false e = refl

pub not_lacking : (set : Facts) (facts : List Fact) → ((p : Fact) → IsTrue (listed facts p) → IsTrue (set p)) → lacks set facts ≡ true → ⊥
not_lacking set [] h e = cc
not_lacking set (q ∷ facts) h e = elim (or_cases (not (set q)) (lacks set facts) e) [
  | inl one ↦ nothing_else ⊥ (set q) (h q (or_left (same_fact q q) (listed facts q) (same_self q))) (falsely (set q) one)
  | inr other ↦ not_lacking set facts (λ p is. h p (or_right (same_fact q p) (listed facts p) is)) other
]

turned : (p q : Fact) → same_fact p q ≡ true → same_fact q p ≡ true
turned p q e = subst (λ r. same_fact q r ≡ true) (sym (same_fact-true p q e)) (same_self q)

listed_among : (facts : List Fact) (p : Fact) → IsTrue (listed facts p) → IsTrue (among facts p)
listed_among [] p e = cc
listed_among (q ∷ facts) p e = elim (or_cases (same_fact q p) (listed facts p) e) [
  | inl one ↦ or_left (same_fact p q) (among facts p) (turned q p one)
  | inr other ↦ or_right (same_fact p q) (among facts p) (listed_among facts p other)
]

among_listed : (facts : List Fact) (p : Fact) → IsTrue (among facts p) → IsTrue (listed facts p)
among_listed [] p e = cc
among_listed (q ∷ facts) p e = elim (or_cases (same_fact p q) (among facts p) e) [
  | inl one ↦ or_left (same_fact q p) (listed facts p) (turned p q one)
  | inr other ↦ or_right (same_fact q p) (listed facts p) (among_listed facts p other)
]

-- ---- facts that don't name a variable

not_it : (s x : ℕ) → IsTrue (nat_lt x s) → IsTrue (not (nat_eq x s))
not_it s x e = by (nat_eq x s) refl
  where
    by : (b : Bool) → nat_eq x s ≡ b → IsTrue (not b)
    by true q = absurd (let l = ltb-true x s e in let r = eqb-true x s q in omega (arith, l, r))
    by false q = refl

speaks_below : (s : ℕ) (p : Fact) → IsTrue (is_over s p) → IsTrue (speaks (λ u. not (nat_eq u s)) p)
speaks_below s (In x y) e = let b = and_parts (nat_lt x s) (nat_lt y s) e in and_from (not (nat_eq x s)) (not (nat_eq y s)) (not_it s x b.0) (not_it s y b.1)
speaks_below s (Up x y) e = let b = and_parts (nat_lt x s) (nat_lt y s) e in and_from (not (nat_eq x s)) (not (nat_eq y s)) (not_it s x b.0) (not_it s y b.1)
speaks_below s (Trad x) e = not_it s x e
speaks_below s (NonNull x) e = not_it s x e

neither : (a b : Bool) → IsTrue (not a && not b) → (a || b) ≡ false
neither true b e = cc
neither false b e = falsely b e

unnamed : (s : ℕ) (p : Fact) → IsTrue (speaks (λ u. not (nat_eq u s)) p) → names s p ≡ false
unnamed s (In x y) e = neither (nat_eq x s) (nat_eq y s) e
unnamed s (Up x y) e = neither (nat_eq x s) (nat_eq y s) e
unnamed s (Trad x) e = falsely (nat_eq x s) e
unnamed s (NonNull x) e = falsely (nat_eq x s) e

-- ---- sets that are ready

pub visited_ready : (n s : ℕ) (exits : List Known) (step : Step) (old new : Facts) → Fits n s exits step → IsReady n s old → Visited n s exits step old new true → IsReady n s new
visited_ready n s exits step old new f ready (passes b crosses a) = left_ready n s exits (effect_of step.effect) step.low step.top old new f.below ready crosses

-- a set that is started anew
listed_below : (s : ℕ) (facts : List Fact) → All (λ p. IsTrue (is_over s p)) facts → All (λ p. IsTrue (is_over (suc s) p)) facts
listed_below s facts over k d lt = over_suc s (get_or facts k d) (over k d lt)

pub over_next : (n s : ℕ) (facts : List Fact) → suc s ≡ n → All (λ p. IsTrue (is_over s p)) facts → All (λ p. IsTrue (is_over n p)) facts
over_next n s facts e over = subst (λ m. All (λ p. IsTrue (is_over m p)) facts) e (listed_below s facts over)

pub anew_ready : (n s : ℕ) (facts : List Fact) (set : Facts) → suc s ≡ n → All (λ p. IsTrue (is_over s p)) facts → ((p : Fact) → IsTrue (set p) ↔ Derivable n (listed facts) p) → IsReady n s set
anew_ready n s facts set e over is = record {
  last = e;
  closed = record {
    over = λ p l. derivable_over (λ q m. listed_over n facts (over_next n s facts e over) q m) ((is p).0 l);
    closed = λ p d. (is p).1 (derivable_cut (λ q l. (is q).0 l) d);
  };
  apart = λ p l named. by p named (isolated (λ u. not (nat_eq u s)) (λ q m. inr (speaks_below s q (listed_over s facts over q m))) ((is p).0 l));
}
  where
    by : (p : Fact) → names s p ≡ true → Spoken (λ u. not (nat_eq u s)) p → IsTrue (is_own p)
    by p named (inl own) = own
    by p named (inr apart) = absurd (nothing_else ⊥ (names s p) named (unnamed s p apart))

pub anew_has : (n : ℕ) (facts : List Fact) (set : Facts) (known : Fact → Type 0) → ((p : Fact) → IsTrue (listed facts p) → known p) → ((p : Fact) → known p → IsTrue (listed facts p)) → ((p : Fact) → IsTrue (set p) ↔ Derivable n (listed facts) p) → Has n set known
anew_has n facts set known to from is p = (
  λ e. record { used = facts; each = every_of known facts (λ q m. to q (among_listed facts q m)); derived = derivable_more (λ q l. listed_among facts q l) ((is p).0 e) },
  λ c. (is p).1 (derivable_more (λ q m. from q (each_is known c.used c.each q m)) c.derived),
)
  where
    each_is : (P : Fact → Type 0) (facts : List Fact) → Every P facts → (p : Fact) → IsTrue (among facts p) → P p
    each_is P [] all p e = cc
    each_is P (q ∷ facts) all p e = elim (or_cases (same_fact p q) (among facts p) e) [
      | inl one ↦ subst P (sym (same_fact-true p q one)) all.0
      | inr other ↦ each_is P facts all.1 p other
    ]

-- ---- an instruction of a function

module _ (image : Reading) (proofs : Annotation) (g at : ℕ) where
  abbrev f : Function
  f = function_at image g

  pub record Goes (n : ℕ) (new : Facts) : Type 0 where
    pub passed : Passed image proofs g at
    pub carried : Has n new (Carried image proofs g at (Before image proofs g at))

  module _ (s : ℕ) (exits : List Known) (step : Step) (last : s ≡ scratch image f) (leaves : (h : ℕ) (fact : Fact) → set_at exits h fact ≡ proofs.exit h fact)
      (frames : (to : ℕ) (fact : Fact) → IsTrue (proofs.before g to fact) → IsTrue (is_over (place f 0) fact)) (stands : StandsFor image proofs g at step) where
    crosses_as : (old : Known) (new : Facts) (effect : Effect) (low top : ℕ) → effect_of step.effect ≡ effect → step.low ≡ low → step.top ≡ top → Crosses (suc s) s exits step (holds old) new
        → (fact : Fact) → IsTrue (new fact) ↔ Left (suc s) s (stay low top (assigned effect)) (assigned effect) (news_of (suc s) (set_at exits) (renewed s effect)) (holds old) fact
    crosses_as old new effect low top e l t crosses =
        subst (λ (u : ℕ). (fact : Fact) → IsTrue (new fact) ↔ Left (suc s) s (stay low u (assigned effect)) (assigned effect) (news_of (suc s) (set_at exits) (renewed s effect)) (holds old) fact) t
        (subst (λ (u : ℕ). (fact : Fact) → IsTrue (new fact) ↔ Left (suc s) s (stay u step.top (assigned effect)) (assigned effect) (news_of (suc s) (set_at exits) (renewed s effect)) (holds old) fact) l
        (subst (λ (d : Effect). (fact : Fact) → IsTrue (new fact) ↔ Left (suc s) s (stay step.low step.top (assigned d)) (assigned d) (news_of (suc s) (set_at exits) (renewed s d)) (holds old) fact) e crosses))

    exits_are : set_at exits ≡ proofs.exit
    exits_are i h fact = leaves h fact i

    news_there : EffectBelow s (effect_at image f at) → AreNews (suc s) (exit_facts proofs) (renewed s (effect_at image f at)) (news_of (suc s) (set_at exits) (renewed s (effect_at image f at)))
    news_there b = subst (λ x. AreNews (suc s) (exit_facts proofs) (renewed s (effect_at image f at)) (news_of (suc s) x (renewed s (effect_at image f at)))) (sym exits_are)
        (news_are (suc s) proofs (renewed s (effect_at image f at)) (renewed_below s (effect_at image f at) b))

    abbrev Carries : ℕ → Type 0
    Carries u = (old : Known) (new : Facts) → EffectBelow u (effect_at image f at) → AreNews (suc u) (exit_facts proofs) (renewed u (effect_at image f at)) (news_of (suc u) (set_at exits) (renewed u (effect_at image f at)))
        → Has (suc u) (holds old) (Before image proofs g at)
        → ((fact : Fact) → IsTrue (new fact) ↔ Left (suc u) u (stay (place f (lowest image f at)) (place f (reach image f at)) (assigned (effect_at image f at))) (assigned (effect_at image f at)) (news_of (suc u) (set_at exits) (renewed u (effect_at image f at))) (holds old) fact)
        → Has (suc u) new (Carried image proofs g at (Before image proofs g at))

    carries : Carries s
    carries = subst Carries (sym last) (λ old new b news has left. left_carried image proofs g at (Before image proofs g at) (news_of (suc (scratch image f)) (set_at exits) (renewed (scratch image f) (effect_at image f at))) old new b news (before_over image proofs g frames at) has left)

    carried : (old : Known) (new : Facts) → Fits (suc s) s exits step → Crosses (suc s) s exits step (holds old) new → Has (suc s) (holds old) (Before image proofs g at) → Has (suc s) new (Carried image proofs g at (Before image proofs g at))
    carried old new fits crosses has =
        let b = subst (EffectBelow s) stands.effect fits.below in
        carries old new b (news_there b) has (crosses_as old new (effect_at image f at) (place f (lowest image f at)) (place f (reach image f at)) stands.effect stands.low stands.top crosses)

    as_variables : (known : Fact → Type 0) (fact : Fact) → Follows (suc s) known fact → Follows (variables image f) known fact
    as_variables known fact = subst (λ u. Follows (suc u) known fact) last

    of_variables : (known : Fact → Type 0) (fact : Fact) → Follows (variables image f) known fact → Follows (suc s) known fact
    of_variables known fact = subst (λ u. Follows (suc u) known fact) (sym last)

    pub goes : (old : Known) (new : Facts) → Fits (suc s) s exits step → Visited (suc s) s exits step (holds old) new true → Has (suc s) (holds old) (Before image proofs g at) → Goes (suc s) new
    goes old new fits (passes b crosses a) has = let c = carried old new fits crosses has in record {
      passed = record {
        before = λ fact asks. as_variables (Before image proofs g at) fact ((has fact).0 (there (holds old) step.before.items b fact ((stands.before fact).1 asks)));
        behind = λ fact asks. as_variables (Carried image proofs g at (Before image proofs g at)) fact ((c fact).0 (there new step.behind.items a fact ((stands.behind fact).1 asks)));
      };
      carried = c;
    }

    pub stops : (old : Known) (new : Facts) → Fits (suc s) s exits step → Visited (suc s) s exits step (holds old) new false → Has (suc s) (holds old) (Before image proofs g at) → Passed image proofs g at → ⊥
    stops old new fits (fails b) has p = not_lacking (holds old) step.before.items (λ fact l. (has fact).1 (of_variables (Before image proofs g at) fact (p.before fact ((stands.before fact).0 l)))) b
    stops old new fits (fails_behind b crosses a) has p =
        let c = carried old new fits crosses has in
        not_lacking new step.behind.items (λ fact l. (c fact).1 (of_variables (Carried image proofs g at (Before image proofs g at)) fact (p.behind fact ((stands.behind fact).0 l)))) a

    -- to the next instruction
    pub falls : (n : ℕ) (new : Facts) → is_target f (suc at) ≡ false → Has n new (Carried image proofs g at (Before image proofs g at)) → Has n new (Before image proofs g (suc at))
    falls n new e has fact = (
      λ is. follows_more n (Carried image proofs g at (Before image proofs g at)) (Before image proofs g (suc at)) (λ p c. subst (λ b. either b (IsTrue (proofs.before g (suc at) p)) (Carried image proofs g at (Before image proofs g at) p)) (sym e) c) fact ((has fact).0 is),
      λ c. (has fact).1 (follows_more n (Before image proofs g (suc at)) (Carried image proofs g at (Before image proofs g at)) (λ p b. subst (λ b. either b (IsTrue (proofs.before g (suc at) p)) (Carried image proofs g at (Before image proofs g at) p)) e b) fact c),
    )

    pub starts : (n : ℕ) (facts : List Fact) (set : Facts) → is_target f (suc at) ≡ true → ((fact : Fact) → listed facts fact ≡ proofs.before g (suc at) fact) → ((p : Fact) → IsTrue (set p) ↔ Derivable n (listed facts) p) → Has n set (Before image proofs g (suc at))
    starts n facts set e same is =
        anew_has n facts set (Before image proofs g (suc at))
        (λ p l. subst (λ b. either b (IsTrue (proofs.before g (suc at) p)) (Carried image proofs g at (Before image proofs g at) p)) (sym e) (sym (same p) ∙ l))
        (λ p b. same p ∙ subst (λ b. either b (IsTrue (proofs.before g (suc at) p)) (Carried image proofs g at (Before image proofs g at) p)) e b) is

-- ---- the first instructions have passed

one_further : (k at : ℕ) → k < at + 1 → (k < at) ⊎ (k ≡ at)
one_further k at lt = by (order k at) lt
  where
    order : (a b : ℕ) → (a < b) ⊎ ((a ≡ b) ⊎ (b < a))
    order a b = grind arith

    by : (k < at) ⊎ ((k ≡ at) ⊎ (at < k)) → k < at + 1 → (k < at) ⊎ (k ≡ at)
    by (inl l) i = inl l
    by (inr (inl e)) i = inr e
    by (inr (inr l)) i = absurd (omega (arith, l, i))

suc_is : (m : ℕ) → suc m ≡ m + 1
suc_is m = omega arith

of_none : {X : Type 0} (P : Type 0) (Q : X → Type 0) (o : Option X) → o ≡ None → MatchOption o P Q → P
of_none P Q o e m = subst (λ o. MatchOption o P Q) e m

of_some : {X : Type 0} (P : Type 0) (Q : X → Type 0) (o : Option X) (x : X) → o ≡ Some x → MatchOption o P Q → Q x
of_some P Q o x e m = subst (λ o. MatchOption o P Q) e m

module _ (image : Reading) (proofs : Annotation) (g s at : ℕ) (exits : List Known) (step : Step) (serves : Serves image proofs g s exits) (stands : StandsFor image proofs g at step) where
  abbrev Given : Vec Fact Global → Type 0
  Given facts = (is_target (function_at image g) (suc at) ≡ true) × ((fact : Fact) → listed facts.items fact ≡ proofs.before g (suc at) fact)

  more_passed : ((k : ℕ) → k < at → Passed image proofs g k) → Passed image proofs g at → (k : ℕ) → k < at + 1 → Passed image proofs g k
  more_passed before one k lt = elim (one_further k at lt) [ inl l ↦ before k l | inr e ↦ subst (Passed image proofs g) (sym e) one ]

  gone_on : (n : ℕ) → suc s ≡ n → (old : Known) (new : Facts) → Fits n s exits step → Visited n s exits step (holds old) new true → Has n (holds old) (Before image proofs g at) → Goes image proofs g at n new
  gone_on n e = subst (λ m. (old : Known) (new : Facts) → Fits m s exits step → Visited m s exits step (holds old) new true → Has m (holds old) (Before image proofs g at) → Goes image proofs g at m new) e
      (goes image proofs g at s exits step serves.last serves.leaves serves.frames stands)

  pub has_stopped : (n : ℕ) → suc s ≡ n → (old : Known) (new : Facts) → Fits n s exits step → Visited n s exits step (holds old) new false → Has n (holds old) (Before image proofs g at) → Passed image proofs g at → ⊥
  has_stopped n e = subst (λ m. (old : Known) (new : Facts) → Fits m s exits step → Visited m s exits step (holds old) new false → Has m (holds old) (Before image proofs g at) → Passed image proofs g at → ⊥) e
      (stops image proofs g at s exits step serves.last serves.leaves serves.frames stands)

  pub reached_next : (n : ℕ) → suc s ≡ n → (old : Known) (new : Facts) → Fits n s exits step → Visited n s exits step (holds old) new true → step.frame ≡ None → Reached image proofs g n at (holds old) → Reached image proofs g n (at + 1) new
  reached_next n e old new fits visited none r = let b = gone_on n e old new fits visited r.has in record {
    passed = more_passed r.passed b.passed;
    has = subst (λ m. Has n new (Before image proofs g m)) (suc_is at) (falls image proofs g at s exits step serves.last serves.leaves serves.frames stands n new (of_none (is_target (function_at image g) (suc at) ≡ false) Given step.frame none stands.frame) b.carried);
  }

  pub reached_target : (n : ℕ) → suc s ≡ n → (old : Known) (new set : Facts) (facts : Vec Fact Global) → Fits n s exits step → Visited n s exits step (holds old) new true → step.frame ≡ Some facts
      → ((p : Fact) → IsTrue (set p) ↔ Derivable n (listed facts.items) p) → Reached image proofs g n at (holds old) → Reached image proofs g n (at + 1) set
  reached_target n e old new set facts fits visited some is r = let b = gone_on n e old new fits visited r.has in let t = of_some (is_target (function_at image g) (suc at) ≡ false) Given step.frame facts some stands.frame in record {
    passed = more_passed r.passed b.passed;
    has = subst (λ m. Has n set (Before image proofs g m)) (suc_is at) (starts image proofs g at s exits step serves.last serves.leaves serves.frames stands n facts.items set t.0 t.1 is);
  }

-- the facts of a frame are on variables below the scratch variable
pub frame_over : (n s : ℕ) (exits : List Known) (step : Step) (facts : Vec Fact Global) → Fits n s exits step → step.frame ≡ Some facts → All (λ p. IsTrue (is_over s p)) facts.items
frame_over n s exits step facts fits e = of_some (Unit {0}) (λ (x : Vec Fact Global). All (λ p. IsTrue (is_over s p)) x.items) step.frame facts e fits.frame
