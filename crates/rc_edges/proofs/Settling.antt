-- Families that are settled, and what a search keeps.
use Rattle.std.proofs.Common.{◌≡◌, ℕ, suc, ◌<◌, ◌≤◌, Bool, true, false, ◌||◌, nat_eq, get_or, Some, sym, subst, inl, inr, arith}
use Rattle.std.specs.Prelude.{slice_get}
use Rattle.std.proofs.lemmas.Bool.{or_cases}
use Rattle.rc_facts.specs.declared.fact.Fact.{Fact}
use Rattle.rc_facts.specs.declared.fact.Fact.TheVariants.{In, Up, Trad, NonNull}
use Rattle.rc_facts.specs.Derivable.{Derivable, stated}
use Rattle.rc_rlang.specs.RegionCode.{Routine, Rlang}
use Rattle.rc_rlang.specs.RegionFlow.{Effect, nothing, nulled, moved, fixed, beside, made, under, loaded, looked_at, stored, present, absent, called, entered, assigned, copies, variables, scratch}
use Rattle.rc_annotations.specs.Annotations.{Facts, Annotation, Consistent, gained, exit_facts, fact_with, renamed, renamed_by, is_below, returned_facts}
use Rattle.rc_annotations.specs.Laws.{Inside, Within}
use Rattle.rc_annotations.proofs.Derivations.{derivable_more, either_more, allowed_more}
use Rattle.rc_annotations.proofs.Greatest.{follows_inside}
use Rattle.rc_edges.specs.Edges.{spare, kept}
use Rattle.rc_edges.specs.Families.{InOrder, Settled, Own, KeepsInside}
use Rattle.rc_edges.proofs.Renaming.{derivable_under, own_name}
use Rattle.rc_edges.proofs.Carrying.{edges_allow, fewer_derive}

-- over more variables as much is derivable
derivable_wider : {n m : ℕ} {given : Facts} {fact : Fact} → m ≤ n → Derivable m given fact → Derivable n given fact
derivable_wider {n} {m} {given} {fact} le d =
    subst (Derivable n given) (own_name fact) (derivable_under (λ v. v) (λ x l. omega (arith, l, le)) (λ p is. subst (Derivable n given) (sym (own_name p)) (stated is)) d)

more_below : (m n : ℕ) → m ≤ n → (p : Fact) → is_below m p → is_below n p
more_below m n le (In x y) b = ((let l = b.0 in omega (arith, l, le)), (let l = b.1 in omega (arith, l, le)))
more_below m n le (Up x y) b = ((let l = b.0 in omega (arith, l, le)), (let l = b.1 in omega (arith, l, le)))
more_below m n le (Trad x) b = omega (arith, b, le)
more_below m n le (NonNull x) b = omega (arith, b, le)

-- the result by the scratch variable's number
put_less : (c s v : ℕ) → c ≤ s → v < suc c → renamed c s v < suc s
put_less c s v le l = by (nat_eq v c)
  where
    by : (b : Bool) → renamed_by b s v < suc s
    by true = omega arith
    by false = omega (arith, le, l)

put_below : (c s : ℕ) → c ≤ s → (p : Fact) → is_below (suc c) p → is_below (suc s) (fact_with (renamed c s) p)
put_below c s le (In x y) b = (put_less c s x le b.0, put_less c s y le b.1)
put_below c s le (Up x y) b = (put_less c s x le b.0, put_less c s y le b.1)
put_below c s le (Trad x) b = put_less c s x le b
put_below c s le (NonNull x) b = put_less c s x le b

-- the points of one annotation with the exits of another
abbrev between : (b a : Annotation) → Annotation
between b a = record { before = b.before; entry = a.entry; exit = a.exit }

same_gains : (b a : Annotation) (effect : Effect) → Within (gained (exit_facts (between b a)) effect) (gained (exit_facts a) effect)
same_gains b a nothing p e = e
same_gains b a (nulled x) p e = e
same_gains b a (moved x y) p e = e
same_gains b a (fixed x) p e = e
same_gains b a (beside x y) p e = e
same_gains b a (made x) p e = e
same_gains b a (under x y) p e = e
same_gains b a (loaded x y note) p e = e
same_gains b a (looked_at y) p e = e
same_gains b a (stored z y note) p e = e
same_gains b a (present y) p e = e
same_gains b a (absent y) p e = e
same_gains b a (called x g ys) p e = e
same_gains b a (entered pairs) p e = e

module _ (r : Rlang) (temporaries : ℕ → ℕ) where
  pub settled_consistent : (a : Annotation) → InOrder r temporaries a → ((g : ℕ) (f : Routine) → slice_get r.functions g ≡ Some f → Own r temporaries g f × Settled r temporaries a g f) → Consistent r temporaries a
  settled_consistent a o h = record {
    at_entries = λ g f fact there is. o.entries g f there fact is;
    at_exits = λ g f fact there is. o.exits g f there fact is;
    at_points = λ g f p fact there is. o.points g f p there fact is;
    follows = record {
      along = λ g f p edge fact there one is. (
          let t = temporaries g in
          (edges_allow (variables f t) (spare f t) (scratch f t) a edge.effect (a.before g p) fact (omega arith) (omega arith) ((h g f there).0 p edge one) (o.points g f p there) (o.points g f edge.to there fact is)).1 ((h g f there).1.along p edge fact one is));
      calls = λ g f p edge x k arguments fact there one is_call is. derivable_wider (omega arith) ((h g f there).1.calls p edge x k arguments fact one is_call is);
      entry = λ g f fact there is. derivable_wider (omega arith) ((h g f there).1.entry fact is);
      exit = λ g f p given fact there one is. derivable_wider (omega arith) ((h g f there).1.exit p one.node given fact one.there one.returns is);
    };
    main = o.main;
  }

  pub search_keeps : (b a : Annotation) → Consistent r temporaries b → Inside b a → InOrder r temporaries a → (g : ℕ) (f : Routine) → slice_get r.functions g ≡ Some f → copies f ≤ spare f (temporaries g) → Own r temporaries g f → KeepsInside r temporaries b a g f
  search_keeps b a c i o g f there le own =
      let t = temporaries g in
      let s = spare f t in
      record {
        along = λ p edge fact one is.
            (edges_allow (variables f t) s (scratch f t) a edge.effect (b.before g p) fact (omega arith) (omega arith) (own p edge one) (λ q k. c.at_points g f p q there k) (c.at_points g f edge.to fact there is)).0
            (allowed_more (variables f t) (scratch f t) (gained (exit_facts (between b a))) (gained (exit_facts a)) (assigned edge.effect) edge.effect (b.before g p) (b.before g p) fact (same_gains b a) (λ q k. k)
            ((follows_inside r temporaries b (between b a) c (record { before = λ g p q k. k; entry = i.entry; exit = i.exit })).along g f p edge fact there one is));
        calls = λ p edge x k arguments fact one is_call below is.
            (fewer_derive (variables f t) (kept f t) (a.before g p) (fact_with (λ v. get_or arguments v 0) fact) (omega arith) (omega arith) (λ q is1. more_below s (kept f t) (omega arith) q (o.points g f p there q is1)) (more_below s (kept f t) (omega arith) (fact_with (λ v. get_or arguments v 0) fact) below)).0
            (derivable_more (i.before g p) (c.follows.calls g f p edge x k arguments fact there one is_call is));
        entry = λ fact is.
            (fewer_derive (variables f t) (kept f t) (a.entry g) fact (omega arith) (omega arith) (λ q is1. more_below (copies f) (kept f t) (omega (arith, le)) q (o.entries g f there q is1)) (more_below s (kept f t) (omega arith) fact (c.at_points g f 0 fact there is))).0
            (derivable_more (i.entry g) (c.follows.entry g f fact there is));
        exit = λ p node given fact at returns below is.
            (fewer_derive (variables f t) (kept f t) (λ q. a.before g p q || returned_facts f t given q) (fact_with (renamed (copies f) s) fact) (omega arith) (omega arith)
            (λ q is1. elim (or_cases (a.before g p q) (returned_facts f t given q) is1) [ inl x ↦ more_below s (kept f t) (omega arith) q (o.points g f p there q x) | inr y ↦ below q y ])
            (put_below (copies f) s le fact (c.at_exits g f fact there is))).0
            (derivable_more (either_more (i.before g p) (λ q k. k)) (c.follows.exit g f p given fact there (record { node = node; there = at; returns = returns }) is));
      }
