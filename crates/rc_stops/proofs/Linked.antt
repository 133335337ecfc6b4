-- Links from one stop more.
use Rattle.std.proofs.Common.{◌≡◌, ℕ, zero, suc, ◌+◌, ◌<◌, ◌≤◌, Bool, true, false, nat_eq, List, [], ◌∷◌, length, get_or, replicate, Option, Some, None, refl, sym, ap, ◌∙◌, subst, inl, inr, ◌⊎◌, arith}
use Rattle.std.proofs.Math.ListN.{set}
use Rattle.std.proofs.lemmas.Bool.{eqb-true, eq-eqb}
use Rattle.rc_stops.specs.declared.stop.Stop.{Stop}
use Rattle.rc_stops.specs.Paths.{no_stop, stop_at}
use Rattle.rc_stops.specs.Waits.{IsFirst, LinksFrom}

-- behind the last stop nothing leads anywhere
pub beyond : (stops : List Stop) (k : ℕ) → length stops ≤ k → stop_at stops k ≡ no_stop
beyond [] k le = refl
beyond (s ∷ stops) zero le = absurd (omega (arith, le))
beyond (s ∷ stops) (suc k) le = beyond stops k (omega (arith, le))

pub no_lead : (stops : List Stop) (k to : ℕ) → length stops ≤ k → (stop_at stops k).leads ≡ Some to → ⊥
no_lead stops k to le e = let q : (stop_at stops k).leads ≡ None = ap (λ (s : Stop). s.leads) (beyond stops k le) in let c : None ≡ Some to = sym q ∙ e in cc

set_there : (xs : List ℕ) (k v d : ℕ) → k < length xs → get_or (set xs k v) k d ≡ v
set_there [] k v d lt = absurd (omega (arith, lt))
set_there (x ∷ xs) zero v d lt = refl
set_there (x ∷ xs) (suc k) v d lt = set_there xs k v d (omega (arith, lt))

set_elsewhere : (xs : List ℕ) (k j v d : ℕ) → (j ≡ k → ⊥) → get_or (set xs k v) j d ≡ get_or xs j d
set_elsewhere [] zero j v d differs = refl
set_elsewhere [] (suc k) j v d differs = refl
set_elsewhere (x ∷ xs) zero zero v d differs = absurd (differs refl)
set_elsewhere (x ∷ xs) zero (suc j) v d differs = refl
set_elsewhere (x ∷ xs) (suc k) zero v d differs = refl
set_elsewhere (x ∷ xs) (suc k) (suc j) v d differs = set_elsewhere xs k j v d (λ e. differs (ap suc e))

order : (a b : ℕ) → (a < b) ⊎ ((a ≡ b) ⊎ (b < a))
order a b = grind arith

pub none_first : (stops : List Stop) (to at : ℕ) → length stops ≤ at → (found : ℕ) → found ≡ length stops → at ≤ found → IsFirst stops to at found
none_first stops to at le found e later = record {
  later = later;
  within = omega (arith, e);
  leads = λ lt. absurd (omega (arith, e, lt));
  least = λ k from below is. absurd (omega (arith, from, below, e, le));
}

-- one stop earlier, which doesn't lead there
pub first_earlier : (stops : List Stop) (to at found : ℕ) → ((stop_at stops at).leads ≡ Some to → ⊥) → IsFirst stops to (at + 1) found → IsFirst stops to at found
first_earlier stops to at found apart first = record {
  later = let l = first.later in omega (arith, l);
  within = first.within;
  leads = first.leads;
  least = λ k from below is. by k below is (order k at) from;
}
  where
    by : (k : ℕ) → k < found → (stop_at stops k).leads ≡ Some to → (k < at) ⊎ ((k ≡ at) ⊎ (at < k)) → at ≤ k → ⊥
    by k below is (inl l) from = absurd (omega (arith, l, from))
    by k below is (inr (inl e)) from = apart (subst (λ j. (stop_at stops j).leads ≡ Some to) e is)
    by k below is (inr (inr l)) from = first.least k (omega (arith, l)) below is

pub first_here : (stops : List Stop) (to at : ℕ) → at < length stops → (stop_at stops at).leads ≡ Some to → IsFirst stops to at at
first_here stops to at lt is = record {
  later = omega arith;
  within = omega (arith, lt);
  leads = λ l. is;
  least = λ k from below e. absurd (omega (arith, from, below));
}

later_is : (stops : List Stop) (to at : ℕ) (found : ℕ) → IsFirst stops to (at + 1) found → IsFirst stops to (suc at) found
later_is stops to at found f = let e : at + 1 ≡ suc at = omega arith in subst (λ n. IsFirst stops to n found) e f

-- a stop that leads nowhere
pub links_none : (stops : List Stop) (at : ℕ) (first next : List ℕ) → (stop_at stops at).leads ≡ None → LinksFrom stops (at + 1) first next → LinksFrom stops at first next
links_none stops at first next none links = record {
  firsts = λ to lt. first_earlier stops to at (get_or first to 0) (nowhere to) (links.firsts to lt);
  nexts = λ k to from lt is. by k to lt is (order k at) from;
}
  where
    nowhere : (to : ℕ) → (stop_at stops at).leads ≡ Some to → ⊥
    nowhere to e = let c : None ≡ Some to = sym none ∙ e in cc

    by : (k to : ℕ) → k < length stops → (stop_at stops k).leads ≡ Some to → (k < at) ⊎ ((k ≡ at) ⊎ (at < k)) → at ≤ k → IsFirst stops to (suc k) (get_or next k 0)
    by k to lt is (inl l) from = absurd (omega (arith, l, from))
    by k to lt is (inr (inl e)) from = absurd (nowhere to (subst (λ j. (stop_at stops j).leads ≡ Some to) e is))
    by k to lt is (inr (inr l)) from = links.nexts k to (omega (arith, l)) lt is

some_same : (o : Option ℕ) (a b : ℕ) → o ≡ Some a → o ≡ Some b → a ≡ b
some_same o a b p q = let e : Some a ≡ Some b = sym p ∙ q in cc

-- one that leads somewhere
pub links_some : (stops : List Stop) (at to before : ℕ) (first next : List ℕ) → before ≡ get_or first to 0 → at < length stops → to < length stops → length first ≡ length stops → length next ≡ length stops → (stop_at stops at).leads ≡ Some to
    → LinksFrom stops (at + 1) first next → LinksFrom stops at (set first to at) (set next at before)
links_some stops at to before first next here lt there long next_long leads links = record {
  firsts = λ u below. head u below (nat_eq u to) refl;
  nexts = λ k u from below is. by k u below is (order k at) from;
}
  where
    not_both : false ≡ true → ⊥
    not_both c = cc

    head : (u : ℕ) → u < length stops → (b : Bool) → nat_eq u to ≡ b → IsFirst stops u at (get_or (set first to at) u 0)
    head u below true e =
        let q = eqb-true u to e in
        let w : get_or (set first to at) u 0 ≡ at = ap (λ j. get_or (set first to at) j 0) q ∙ set_there first to at 0 (omega (arith, there, long)) in
        subst (IsFirst stops u at) (sym w) (subst (λ j. IsFirst stops j at at) (sym q) (first_here stops to at lt leads))
    head u below false e =
        let differs : (u ≡ to → ⊥) = λ q. not_both (sym e ∙ eq-eqb u to q) in
        subst (IsFirst stops u at) (sym (set_elsewhere first to u at 0 differs)) (first_earlier stops u at (get_or first u 0) (λ is. differs (sym (some_same (stop_at stops at).leads to u leads is))) (links.firsts u below))

    by : (k u : ℕ) → k < length stops → (stop_at stops k).leads ≡ Some u → (k < at) ⊎ ((k ≡ at) ⊎ (at < k)) → at ≤ k → IsFirst stops u (suc k) (get_or (set next at before) k 0)
    by k u below is (inl l) from = absurd (omega (arith, l, from))
    by k u below is (inr (inl e)) from =
        let same : to ≡ u = some_same (stop_at stops at).leads to u leads (subst (λ j. (stop_at stops j).leads ≡ Some u) e is) in
        let w : get_or (set next at before) k 0 ≡ get_or first to 0 = ap (λ j. get_or (set next at before) j 0) e ∙ set_there next at before 0 (omega (arith, lt, next_long)) ∙ here in
        subst (IsFirst stops u (suc k)) (sym w) (subst (λ j. IsFirst stops u (suc j) (get_or first to 0)) (sym e) (subst (λ j. IsFirst stops j (suc at) (get_or first to 0)) same (later_is stops to at (get_or first to 0) (links.firsts to there))))
    by k u below is (inr (inr l)) from = subst (IsFirst stops u (suc k)) (sym (set_elsewhere next at k before 0 (λ e. absurd (omega (arith, e, l))))) (links.nexts k u (omega (arith, l)) below is)

-- no stop is linked yet
get_replicate : (n m i : ℕ) → i < n → get_or (replicate n m) i 0 ≡ m
get_replicate zero m i lt = absurd (omega (arith, lt))
get_replicate (suc n) m zero lt = refl
get_replicate (suc n) m (suc i) lt = get_replicate n m i (omega (arith, lt))

pub links_start : (stops : List Stop) (first next : List ℕ) → first ≡ replicate (length stops) (length stops) → LinksFrom stops (length stops) first next
links_start stops first next e = record {
  firsts = λ to lt. let q : get_or first to 0 ≡ length stops = ap (λ (ns : List ℕ). get_or ns to 0) e ∙ get_replicate (length stops) (length stops) to lt in
      none_first stops to (length stops) (omega arith) (get_or first to 0) q (omega (arith, q));
  nexts = λ k to from lt is. absurd (omega (arith, from, lt));
}

-- ---- a walk along links

pub walked : (stops : List Stop) (at k found : ℕ) (P : ℕ → Type 0) → IsFirst stops at (suc k) found → P k → ((j : ℕ) → j < k → (stop_at stops j).leads ≡ Some at → P j) → (j : ℕ) → j < found → (stop_at stops j).leads ≡ Some at → P j
walked stops at k found P first here done j lt is = by (order j k)
  where
    by : (j < k) ⊎ ((j ≡ k) ⊎ (k < j)) → P j
    by (inl l) = done j l is
    by (inr (inl e)) = subst P (sym e) here
    by (inr (inr l)) = absurd (first.least j (omega (arith, l)) lt is)

-- behind all links each stop that leads there was met
pub walked_all : (stops : List Stop) (at k : ℕ) (P : ℕ → Type 0) → length stops ≤ k → ((j : ℕ) → j < k → (stop_at stops j).leads ≡ Some at → P j) → (j : ℕ) → (stop_at stops j).leads ≡ Some at → P j
walked_all stops at k P le done j is = by (order j (length stops))
  where
    by : (j < length stops) ⊎ ((j ≡ length stops) ⊎ (length stops < j)) → P j
    by (inl l) = done j (omega (arith, l, le)) is
    by (inr (inl e)) = absurd (no_lead stops j at (omega (arith, e)) is)
    by (inr (inr l)) = absurd (no_lead stops j at (omega (arith, l)) is)

zero_not : (k : ℕ) → suc k ≡ 0 → ⊥
zero_not k e = cc

pub none_before : (at k : ℕ) → at ≡ 0 → suc k ≡ at → ⊥
none_before at k e q = zero_not k (q ∙ e)

pub one_further : (k at : ℕ) → k < at + 1 → (k < at) ⊎ (k ≡ at)
one_further k at lt = by (order k at)
  where
    by : (k < at) ⊎ ((k ≡ at) ⊎ (at < k)) → (k < at) ⊎ (k ≡ at)
    by (inl l) = inl l
    by (inr (inl e)) = inr e
    by (inr (inr l)) = absurd (omega (arith, l, lt))
