-- The steps of a search for the greatest consistent facts.
use Rattle.std.proofs.Common.{◌≡◌, ℕ, zero, suc, ◌<◌, ◌≤◌, Bool, true, false, ◌||◌, ◌&&◌, not, nat_eq, nat_lt, IsTrue, ◌↔◌, List, [], ◌∷◌, length, get_or, Option, Some, None, IfSome, refl, sym, ap, ◌∙◌, subst, arith, ◌⊎◌, inl, inr}
use Rattle.std.specs.Prelude.{slice_get, is_some}
use Rattle.std.proofs.lemmas.Bool.{and_parts, and_from, or_cases, or_left, or_right, eqb-true, eq-eqb, ltb-true, lt-ltb}
use Rattle.std.proofs.lemmas.Option.{slice_get_within}
use Rattle.rc_facts.specs.declared.fact.Fact.{Fact}
use Rattle.rc_facts.specs.declared.fact.Fact.TheVariants.{In, Up, Trad, NonNull}
use Rattle.rc_facts.specs.Facts.{Known, holds, is_over, names, replaced, same_fact, with_replaced}
use Rattle.rc_facts.specs.Shut.{together}
use Rattle.rc_facts.specs.Derivable.{Derivable, stated}
use Rattle.rc_facts.proofs.Sets.{same_fact-true}
use Rattle.rc_facts.proofs.Closes.{derivable_over}
use Rattle.rc_rlang.specs.RegionCode.{Routine, Rlang}
use Rattle.rc_rlang.specs.IsRlang.{IsRlang}
use Rattle.rc_rlang.specs.RegionFlow.{assigned, called, Edge, Effect, Node, copies, routine_nodes}
use Rattle.rc_annotations.specs.Annotations.{Annotation, Consistent, Facts, fact_with, renamed, is_below, returned_facts, NodeEdge}
use Rattle.rc_annotations.specs.Laws.{Within}
use Rattle.rc_annotations.specs.Heights.{temporaries_of}
use Rattle.rc_annotations.proofs.Derivations.{derivable_more, either_more}
use Rattle.rc_facts.specs.Flow.{AreShut, Behind, IsClosed, no_set, set_at}
use Rattle.rc_facts.proofs.Behind.{behind_more, derivable_replaced}
use Rattle.rc_facts.proofs.Table.{follows_cut}
use Rattle.rc_edges.specs.Edges.{Crossed, EffectBelow, all_below, kept, renewed, spare}
use Rattle.rc_edges.specs.News.{news_of}
use Rattle.rc_edges.proofs.Adding.{assigned_below, news_are}
use Rattle.rc_edges.proofs.Downward.{news_over, renewed_below}
use Rattle.rc_edges.specs.EdgeLaws.{AllBelow}
use Rattle.rc_edges.specs.Families.{Family, Settled, Owned, KeepsInside, annotation_in}
use Rattle.rc_edges.proofs.Owning.{functions_own}
use Rattle.rc_edges.proofs.Settling.{settled_consistent, search_keeps}
use Rattle.rc_edges.specs.Calls.{CallOf}
use Rattle.rc_edges.specs.Inferred.{GreatestOf, ShapedAt, has_point, only_of}
use Rattle.rc_edges.proofs.Fitting.{calls_fit, returns_fit}
use Rattle.rc_edges.proofs.Restricting.{inside_only, only_consistent}
use Rattle.rc_edges.specs.Reading.{Loses, read_by}
use Rattle.rc_edges.specs.Boundaries.{CallsGive, NodeGives, NodeReturns, ReturnsGive, given_facts}
use Rattle.rc_edges.specs.Searching.{Searching, Full, with_points, with_entries, with_exits}

-- numbers and variables

not_both : {P : Type 0} (b : Bool) → b ≡ true → b ≡ false → P
not_both true e d = cc
not_both false e d = cc

not_true : (b : Bool) → (b ≡ true → ⊥) → b ≡ false
not_true true h = absurd (h refl)
not_true false h = refl

pick : (P : ℕ → Type 0) (g : ℕ) → P g → ((k : ℕ) → (k ≡ g → ⊥) → P k) → (k : ℕ) → P k
pick P g here others k = by (nat_eq k g) refl
  where
    by : (b : Bool) → nat_eq k g ≡ b → P k
    by true e = subst P (sym (eqb-true k g e)) here
    by false e = others k (λ q. not_both (nat_eq k g) (eq-eqb k g q) e)

some_is : {A : Type 0} (x y : A) → Some x ≡ Some y → x ≡ y
some_is x y e = cc

pub below_over : (n : ℕ) (p : Fact) → is_below n p → is_over n p ≡ true
below_over n (In x y) b = and_from (nat_lt x n) (nat_lt y n) (lt-ltb x n b.0) (lt-ltb y n b.1)
below_over n (Up x y) b = and_from (nat_lt x n) (nat_lt y n) (lt-ltb x n b.0) (lt-ltb y n b.1)
below_over n (Trad x) b = lt-ltb x n b
below_over n (NonNull x) b = lt-ltb x n b

pub over_below : (n : ℕ) (p : Fact) → is_over n p ≡ true → is_below n p
over_below n (In x y) e = let q = and_parts (nat_lt x n) (nat_lt y n) e in (ltb-true x n q.0, ltb-true y n q.1)
over_below n (Up x y) e = let q = and_parts (nat_lt x n) (nat_lt y n) e in (ltb-true x n q.0, ltb-true y n q.1)
over_below n (Trad x) e = ltb-true x n e
over_below n (NonNull x) e = ltb-true x n e

unlike : (x s : ℕ) → x < s → nat_eq x s ≡ false
unlike x s l = not_true (nat_eq x s) (λ e. (let q = eqb-true x s e in omega (arith, l, q)))

unnamed : (s : ℕ) (p : Fact) → is_below s p → names s p ≡ false
unnamed s (In x y) b = rw (unlike x s b.0, unlike y s b.1) refl
unnamed s (Up x y) b = rw (unlike x s b.0, unlike y s b.1) refl
unnamed s (Trad x) b = unlike x s b
unnamed s (NonNull x) b = unlike x s b

-- below the next number, and it isn't named
less_apart : (x s : ℕ) → x < suc s → nat_eq x s ≡ false → x < s
less_apart x s l e = by (order x s)
  where
    order : (a b : ℕ) → (a < b) ⊎ ((a ≡ b) ⊎ (b < a))
    order a b = grind arith

    by : (x < s) ⊎ ((x ≡ s) ⊎ (s < x)) → x < s
    by (inl k) = k
    by (inr (inl k)) = not_both (nat_eq x s) (eq-eqb x s k) e
    by (inr (inr k)) = omega (arith, l, k)

neither : (a b : Bool) → (a || b) ≡ false → (a ≡ false) × (b ≡ false)
neither true b e = cc
neither false b e = (refl, e)

below_unnamed : (s : ℕ) (p : Fact) → is_below (suc s) p → names s p ≡ false → is_below s p
below_unnamed s (In x y) b e = let q = neither (nat_eq x s) (nat_eq y s) e in (less_apart x s b.0 q.0, less_apart y s b.1 q.1)
below_unnamed s (Up x y) b e = let q = neither (nat_eq x s) (nat_eq y s) e in (less_apart x s b.0 q.0, less_apart y s b.1 q.1)
below_unnamed s (Trad x) b e = less_apart x s b e
below_unnamed s (NonNull x) b e = less_apart x s b e

more_below : (m n : ℕ) → m ≤ n → (p : Fact) → is_below m p → is_below n p
more_below m n le (In x y) b = ((let l = b.0 in omega (arith, l, le)), (let l = b.1 in omega (arith, l, le)))
more_below m n le (Up x y) b = ((let l = b.0 in omega (arith, l, le)), (let l = b.1 in omega (arith, l, le)))
more_below m n le (Trad x) b = omega (arith, b, le)
more_below m n le (NonNull x) b = omega (arith, b, le)

falsely : (b : Bool) → not b ≡ true → b ≡ false
falsely true e = cc
falsely false e = refl

-- arguments in place of hidden copies
argument_less : (n : ℕ) (arguments : List ℕ) (v : ℕ) → all_below n arguments → v < length arguments → get_or arguments v 0 < n
argument_less n [] v b l = absurd (omega (arith, l))
argument_less n (x ∷ xs) zero b l = b.0
argument_less n (x ∷ xs) (suc v) b l = argument_less n xs v b.1 (omega (arith, l))

arguments_below : (n : ℕ) (arguments : List ℕ) → all_below n arguments → (p : Fact) → is_below (length arguments) p → is_below n (fact_with (λ v. get_or arguments v 0) p)
arguments_below n arguments b (In x y) l = (argument_less n arguments x b l.0, argument_less n arguments y b l.1)
arguments_below n arguments b (Up x y) l = (argument_less n arguments x b l.0, argument_less n arguments y b l.1)
arguments_below n arguments b (Trad x) l = argument_less n arguments x b l
arguments_below n arguments b (NonNull x) l = argument_less n arguments x b l

same_self : (p : Fact) → same_fact p p ≡ true
same_self (In x y) = and_from (nat_eq x x) (nat_eq y y) (eq-eqb x x refl) (eq-eqb y y refl)
same_self (Up x y) = and_from (nat_eq x x) (nat_eq y y) (eq-eqb x x refl) (eq-eqb y y refl)
same_self (Trad x) = eq-eqb x x refl
same_self (NonNull x) = eq-eqb x x refl

same_turned : (p q : Fact) → same_fact p q ≡ true → same_fact q p ≡ true
same_turned p q e = subst (λ z. same_fact z p ≡ true) (same_fact-true p q e) (same_self p)

either_turned : (a b c d : Fact) → (same_fact a b || same_fact c d) ≡ true → (same_fact b a || same_fact d c) ≡ true
either_turned a b c d e = elim (or_cases (same_fact a b) (same_fact c d) e) [ inl x ↦ or_left (same_fact b a) (same_fact d c) (same_turned a b x) | inr y ↦ or_right (same_fact b a) (same_fact d c) (same_turned c d y) ]

returned_given : (f : Routine) (t : ℕ) (given : Option ℕ) → Within (returned_facts f t given) (given_facts (spare f t) given)
returned_given f t None q e = e
returned_given f t (Some x) q e = either_turned q (In (spare f t) x) q (In x (spare f t)) e

given_returned : (f : Routine) (t : ℕ) (given : Option ℕ) → Within (given_facts (spare f t) given) (returned_facts f t given)
given_returned f t None q e = e
given_returned f t (Some x) q e = either_turned (In (spare f t) x) q (In x (spare f t)) q e

returned_below : (f : Routine) (t : ℕ) (given : Option ℕ) → ((x : ℕ) → given ≡ Some x → x ≤ spare f t) → AllBelow (kept f t) (returned_facts f t given)
returned_below f t None own q e = cc
returned_below f t (Some x) own q e = elim (or_cases (same_fact q (In (spare f t) x)) (same_fact q (In x (spare f t))) e) [
  | inl a ↦ subst (is_below (kept f t)) (sym (same_fact-true q (In (spare f t) x) a)) (omega arith, (let l = own x refl in omega (arith, l)))
  | inr a ↦ subst (is_below (kept f t)) (sym (same_fact-true q (In x (spare f t)) a)) ((let l = own x refl in omega (arith, l)), omega arith)
]

none_held : (fact : Fact) → holds no_set fact ≡ false
unfolding holds
none_held fact = refl

-- a set that has a fact is in its list
pub get_within : (sets : List Known) (p : ℕ) (fact : Fact) → IsTrue (set_at sets p fact) → p < length sets
get_within [] p fact has = not_both (holds no_set fact) has (none_held fact)
get_within (x ∷ sets) zero fact has = omega arith
get_within (x ∷ sets) (suc p) fact has = let l = get_within sets p fact has in omega (arith, l)

get_same : (sets : List Known) (p : ℕ) (d : Known) → p < length sets → get_or sets p d ≡ get_or sets p no_set
get_same [] p d lt = absurd (omega (arith, lt))
get_same (x ∷ sets) zero d lt = refl
get_same (x ∷ sets) (suc p) d lt = get_same sets p d (omega (arith, lt))

-- what stands behind an effect

over_put : (n x s v : ℕ) → x < n → replaced x s v < n → v < n
over_put n x s v lt l = by (nat_eq v x) refl
  where
    by : (b : Bool) → nat_eq v x ≡ b → v < n
    by true e = let q = eqb-true v x e in omega (arith, q, lt)
    by false e = rw e at l

below_put : (n x s : ℕ) → x < n → (p : Fact) → is_below n (with_replaced x s p) → is_below n p
below_put n x s lt (In a b) l = (over_put n x s a lt l.0, over_put n x s b lt l.1)
below_put n x s lt (Up a b) l = (over_put n x s a lt l.0, over_put n x s b lt l.1)
below_put n x s lt (Trad a) l = over_put n x s a lt l
below_put n x s lt (NonNull a) l = over_put n x s a lt l

module _ (s : ℕ) (exits : ℕ → Facts) (effect : Effect) (own : EffectBelow s effect) (before : Facts) where
  given_over : AllBelow s before → (p : Fact) → together before (news_of (suc s) exits (renewed s effect)) p ≡ true → is_over (suc s) p ≡ true
  given_over below p e = elim (or_cases (before p) _ e) [
    | inl old ↦ below_over (suc s) p (more_below s (suc s) (omega arith) p (below p old))
    | inr new ↦ news_over (suc s) p (news_of (suc s) exits (renewed s effect)) (news_are (suc s) (record { before = λ g p fact. false; entry = λ g fact. false; exit = exits }) (renewed s effect) (renewed_below s effect own)).over new
  ]

  behind_below : (x : Option ℕ) (news : List Fact) → IfSome x (λ v. v < s) → ((p : Fact) → together before news p ≡ true → is_over (suc s) p ≡ true) → (fact : Fact) → Behind (suc s) s x news before fact → is_below s fact
  behind_below None news lt over fact d = below_unnamed s fact (over_below (suc s) fact (derivable_over over d.0)) d.1
  behind_below (Some x) news lt over fact d = below_unnamed s fact (below_put (suc s) x s (omega (arith, lt)) fact (over_below (suc s) (with_replaced x s fact) (derivable_over over d.0))) d.1

  pub crossed_below : AllBelow s before → (fact : Fact) → Crossed exits s effect before fact → is_below s fact
  crossed_below below = behind_below (assigned effect) (news_of (suc s) exits (renewed s effect)) (assigned_below s effect own) (given_over below)

  behind_shut : (x : Option ℕ) (news : List Fact) (given : Facts) → ((p : Fact) → IsTrue (given p) → Behind (suc s) s x news before p) → (fact : Fact) → names s fact ≡ false → Derivable (suc s) given fact → Behind (suc s) s x news before fact
  behind_shut None news given h fact apart d = (follows_cut (λ p e. (h p e).0) d, apart)
  behind_shut (Some x) news given h fact apart d = (derivable_replaced x s (omega arith) (λ p e. (h p e).0) d, apart)

  pub crossed_shut : (given : Facts) → ((p : Fact) → IsTrue (given p) → Crossed exits s effect before p) → (fact : Fact) → names s fact ≡ false → Derivable (suc s) given fact → Crossed exits s effect before fact
  crossed_shut = behind_shut (assigned effect) (news_of (suc s) exits (renewed s effect))

-- a set may stand at a point: it is shut, it doesn't speak of the result, and has what each consistent annotation has
pub record Stands (r : Rlang) (g : ℕ) (f : Routine) (p : ℕ) (set : Known) : Type 0 where
  pub wide : set.variables ≡ kept f (temporaries_of r g)
  pub closed : IsClosed (kept f (temporaries_of r g)) (spare f (temporaries_of r g)) (holds set)
  pub below : AllBelow (spare f (temporaries_of r g)) (holds set)
  pub inside : (b : Annotation) → Consistent r (temporaries_of r) b → Within ((only_of r b).before g p) (holds set)

module _ (r : Rlang) (is : IsRlang r) where
  abbrev heights : ℕ → ℕ
  heights = temporaries_of r

  module _ (g : ℕ) (f : Routine) (there : slice_get r.functions g ≡ Some f) where
    owned : Owned r heights g f
    owned = functions_own r is g f there

    for_it : (P : Routine → Type 0) → P f → (f1 : Routine) → slice_get r.functions g ≡ Some f1 → P f1
    for_it P h f1 th = subst P (some_is f f1 (sym there ∙ th)) h

    a_point : (p : ℕ) → has_point (slice_get r.functions g) p ≡ true → p < length (routine_nodes f)
    a_point p e = ltb-true p (length (routine_nodes f)) (sym (ap (λ o. has_point o p) there) ∙ e)

    keeps : (m : Family) → Searching r m → (b : Annotation) → Consistent r heights b → KeepsInside r heights (only_of r b) (annotation_in m) g f
    keeps m s b c = search_keeps r heights (only_of r b) (annotation_in m) (only_consistent r is b c) (s.inside b c) s.order g f there owned.hidden owned.own

    pub stands : (m : Family) → Searching r m → (p : ℕ) → p < length (routine_nodes f) → Stands r g f p (get_or (get_or m.points g []) p no_set)
    stands m s p lt =
        let shape = s.shaped.each g f there in
        let under : p < length (get_or m.points g []) = (let q = shape.points in omega (arith, q, lt)) in
        record { wide = shape.before p no_set under; closed = s.shut g f there p under; below = s.order.points g f p there; inside = λ b c. (s.inside b c).before g p }

    -- the sets of its points become others that may stand there
    module _ (m : Family) (ps : List (List Known)) (s : Searching r m) (long : length ps ≡ length m.points) (others : (k : ℕ) → (k ≡ g → ⊥) → get_or ps k [] ≡ get_or m.points k [])
        (count : length (get_or ps g []) ≡ length (routine_nodes f)) (each : (p : ℕ) → p < length (routine_nodes f) → Stands r g f p (get_or (get_or ps g []) p no_set)) where
      below_count : (p : ℕ) → p < length (get_or ps g []) → p < length (routine_nodes f)
      below_count p lt = omega (arith, lt, count)

      pub row_step : Searching r (with_points m ps)
      row_step = record {
        shaped = record {
          points = long ∙ s.shaped.points;
          entries = s.shaped.entries;
          exits = s.shaped.exits;
          each = pick (λ k. (f1 : Routine) → slice_get r.functions k ≡ Some f1 → ShapedAt f1 (heights k) (get_or ps k []) (get_or m.entries k no_set) (get_or m.exits k no_set)) g
              (for_it (λ f1. ShapedAt f1 (heights g) (get_or ps g []) (get_or m.entries g no_set) (get_or m.exits g no_set)) (record {
                points = count;
                before = λ p d lt. ap (λ (k : Known). k.variables) (get_same (get_or ps g []) p d lt) ∙ (each p (below_count p lt)).wide;
                entry = (s.shaped.each g f there).entry;
                exit = (s.shaped.each g f there).exit;
              }))
              (λ k apart f1 th. subst (λ sets. ShapedAt f1 (heights k) sets (get_or m.entries k no_set) (get_or m.exits k no_set)) (sym (others k apart)) (s.shaped.each k f1 th));
        };
        order = record {
          entries = s.order.entries;
          exits = s.order.exits;
          points = λ k f1 p. pick (λ k. (f1 : Routine) → slice_get r.functions k ≡ Some f1 → AllBelow (spare f1 (heights k)) (set_at (get_or ps k []) p)) g
              (for_it (λ f1. AllBelow (spare f1 (heights g)) (set_at (get_or ps g []) p)) (λ fact has. (each p (below_count p (get_within (get_or ps g []) p fact has))).below fact has))
              (λ k apart f1 th. subst (λ sets. AllBelow (spare f1 (heights k)) (set_at sets p)) (sym (others k apart)) (s.order.points k f1 p th)) k f1;
          main = s.order.main;
        };
        inside = λ b c. record {
          before = λ k p. pick (λ k. Within ((only_of r b).before k p) (set_at (get_or ps k []) p)) g
              (λ fact has. (each p (a_point p (and_parts (has_point (slice_get r.functions g) p) (b.before g p fact) has).0)).inside b c fact has)
              (λ k apart. subst (λ sets. Within ((only_of r b).before k p) (set_at sets p)) (sym (others k apart)) ((s.inside b c).before k p)) k;
          entry = (s.inside b c).entry;
          exit = (s.inside b c).exit;
        };
        shut = pick (λ k. (f1 : Routine) → slice_get r.functions k ≡ Some f1 → AreShut (kept f1 (heights k)) (spare f1 (heights k)) (get_or ps k [])) g
            (for_it (λ f1. AreShut (kept f1 (heights g)) (spare f1 (heights g)) (get_or ps g [])) (λ p lt. (each p (below_count p lt)).closed))
            (λ k apart f1 th. subst (λ sets. AreShut (kept f1 (heights k)) (spare f1 (heights k)) sets) (sym (others k apart)) (s.shut k f1 th));
      }

    -- a set that may stand at a point loses what no consistent annotation has there
    pub stands_less : (p : ℕ) (old new : Known) (stays : Fact → Type 0) → Stands r g f p old → new.variables ≡ old.variables → ((fact : Fact) → IsTrue (holds new fact) ↔ (IsTrue (holds old fact) × stays fact)) → ((fact : Fact) → names (spare f (heights g)) fact ≡ false → Derivable (kept f (heights g)) (holds new) fact → stays fact)
        → ((b : Annotation) → Consistent r heights b → (fact : Fact) → IsTrue ((only_of r b).before g p fact) → stays fact) → Stands r g f p new
    stands_less p old new stays at wide facts again give = record {
      wide = wide ∙ at.wide;
      closed = record {
        shut = λ fact apart d. (facts fact).1 (at.closed.shut fact apart (derivable_more (λ q is. ((facts q).0 is).0) d), again fact apart d);
        clean = λ fact is. at.closed.clean fact ((facts fact).0 is).0;
      };
      below = λ fact is. at.below fact ((facts fact).0 is).0;
      inside = λ b c fact has. (facts fact).1 (at.inside b c fact has, give b c fact has);
    }

    -- what follows from its entry may stand at its first point
    abbrev pub Entered : Family → Fact → Type 0
    Entered m fact = Derivable (kept f (heights g)) (λ q. is_over (copies f) q && set_at m.entries g q) fact × (names (spare f (heights g)) fact ≡ false)

    pub entered_inside : (m : Family) → Searching r m → (b : Annotation) → Consistent r heights b → (fact : Fact) → IsTrue ((only_of r b).before g 0 fact) → Entered m fact
    entered_inside m s b c fact has = (
      derivable_more (λ p q. and_from (is_over (copies f) p) (set_at m.entries g p) (below_over (copies f) p (s.order.entries g f there p q)) q) ((keeps m s b c).entry fact has),
      unnamed (spare f (heights g)) fact ((only_consistent r is b c).at_points g f 0 fact there has),
    )

    -- what an edge carries may stand behind it
    module _ (m : Family) (s : Searching r m) (p : ℕ) (edge : Edge) (one : NodeEdge f p edge) (known : Known) (here : Stands r g f p known) where
      pub crossed_inside : (b : Annotation) → Consistent r heights b → (fact : Fact) → IsTrue ((only_of r b).before g edge.to fact) → Crossed (set_at m.exits) (spare f (heights g)) edge.effect (holds known) fact
      crossed_inside b c fact has = behind_more (kept f (heights g)) (spare f (heights g)) (assigned edge.effect) (news_of (kept f (heights g)) (set_at m.exits) (renewed (spare f (heights g)) edge.effect)) ((only_of r b).before g p) (holds known) fact (here.inside b c) ((keeps m s b c).along p edge fact one has)

      pub crossed_stands : (after : Known) → after.variables ≡ kept f (heights g) → ((fact : Fact) → IsTrue (holds after fact) ↔ Crossed (set_at m.exits) (spare f (heights g)) edge.effect (holds known) fact) → Stands r g f edge.to after
      crossed_stands after wide facts = record {
        wide = wide;
        closed = record {
          shut = λ fact apart d. (facts fact).1 (crossed_shut (spare f (heights g)) (set_at m.exits) edge.effect (owned.own p edge one) (holds known) (holds after) (λ q is. (facts q).0 is) fact apart d);
          clean = λ fact is. ((facts fact).0 is).1;
        };
        below = λ fact is. crossed_below (spare f (heights g)) (set_at m.exits) edge.effect (owned.own p edge one) (holds known) here.below fact ((facts fact).0 is);
        inside = λ b c fact has. (facts fact).1 (crossed_inside b c fact has);
      }

    -- entries lose what its calls don't give, or some of them
    module _ (m : Family) (es : List Known) (lost : Bool) (s : Searching r m) (stays : (h : ℕ) → Fact → Type 0) (all_give : (h : ℕ) (fact : Fact) → CallsGive (routine_nodes f) (get_or m.points g []) (length (routine_nodes f)) h fact → stays h fact) (l : Loses lost m.entries es stays) where
      pub call_step : Searching r (with_entries m es)
      call_step = record {
        shaped = record {
          points = s.shaped.points;
          entries = l.long ∙ s.shaped.entries;
          exits = s.shaped.exits;
          each = λ k f1 th. record { points = (s.shaped.each k f1 th).points; before = (s.shaped.each k f1 th).before; entry = l.variables k ∙ (s.shaped.each k f1 th).entry; exit = (s.shaped.each k f1 th).exit };
        };
        order = record {
          entries = λ k f1 th fact has. s.order.entries k f1 th fact ((l.facts k fact).0 has).0;
          exits = s.order.exits;
          points = s.order.points;
          main = λ fact. not_true (set_at es r.main fact) (λ e. not_both (set_at m.entries r.main fact) ((l.facts r.main fact).0 e).0 (s.order.main fact));
        };
        inside = λ b c. record {
          before = (s.inside b c).before;
          entry = λ h fact has. (l.facts h fact).1 ((s.inside b c).entry h fact has, all_give h fact (λ p node lt at e edge is_edge x arguments is_call. given b c h fact has p node at e edge is_edge x arguments is_call));
          exit = (s.inside b c).exit;
        };
        shut = s.shut;
      }
        where
          given : (b : Annotation) → Consistent r heights b → (h : ℕ) (fact : Fact) → IsTrue ((only_of r b).entry h fact) → (p : ℕ) (node : Node) → slice_get (routine_nodes f) p ≡ Some node → (e : ℕ) (edge : Edge) → slice_get node.edges e ≡ Some edge → (x : Option ℕ) (arguments : List ℕ) → edge.effect ≡ called x h arguments → IsTrue (read_by arguments (get_or (get_or m.points g []) p no_set) fact)
          given b c h fact has p node at e edge is_edge x arguments is_call =
              let one : NodeEdge f p edge = record { node = node; place = e; there = at; is = is_edge } in
              let call : CallOf r h arguments = calls_fit r is g f there p edge x h arguments one is_call in
              let own : is_below (length arguments) fact = subst (λ n. is_below n fact) (sym call.each) ((only_consistent r is b c).at_entries h call.routine fact call.there has) in
              let args : EffectBelow (spare f (heights g)) (called x h arguments) = subst (EffectBelow (spare f (heights g))) is_call (owned.own p edge one) in
              let named = arguments_below (spare f (heights g)) arguments args.1 fact own in
              let lt = slice_get_within (routine_nodes f) p node at in
              let long = (s.shaped.each g f there).points in
              and_from (is_over (length arguments) fact) (set_at (get_or m.points g []) p (fact_with (λ v. get_or arguments v 0) fact)) (below_over (length arguments) fact own)
              ((s.shut g f there p (omega (arith, lt, long))).shut (fact_with (λ v. get_or arguments v 0) fact) (unnamed (spare f (heights g)) (fact_with (λ v. get_or arguments v 0) fact) named)
              ((keeps m s b c).calls p edge x h arguments fact one is_call named has))

    -- its exit loses what its returns don't give, or some of them
    module _ (m : Family) (xs : List Known) (lost : Bool) (s : Searching r m) (stays : (h : ℕ) → Fact → Type 0) (all_give : (h : ℕ) (fact : Fact) → (h ≡ g → ReturnsGive (routine_nodes f) (get_or m.points g []) (copies f) (spare f (heights g)) (length (routine_nodes f)) fact) → stays h fact) (l : Loses lost m.exits xs stays) where
      pub leave_step : Searching r (with_exits m xs)
      leave_step = record {
        shaped = record {
          points = s.shaped.points;
          entries = s.shaped.entries;
          exits = l.long ∙ s.shaped.exits;
          each = λ k f1 th. record { points = (s.shaped.each k f1 th).points; before = (s.shaped.each k f1 th).before; entry = (s.shaped.each k f1 th).entry; exit = l.variables k ∙ (s.shaped.each k f1 th).exit };
        };
        order = record {
          entries = s.order.entries;
          exits = λ k f1 th fact has. s.order.exits k f1 th fact ((l.facts k fact).0 has).0;
          points = s.order.points;
          main = s.order.main;
        };
        inside = λ b c. record {
          before = (s.inside b c).before;
          entry = (s.inside b c).entry;
          exit = λ h fact has. (l.facts h fact).1 ((s.inside b c).exit h fact has, all_give h fact (λ e p node lt at given returns. given_back b c fact (subst (λ k. IsTrue ((only_of r b).exit k fact)) e has) p node at given returns));
        };
        shut = s.shut;
      }
        where
          given_back : (b : Annotation) → Consistent r heights b → (fact : Fact) → IsTrue ((only_of r b).exit g fact) → (p : ℕ) (node : Node) → slice_get (routine_nodes f) p ≡ Some node → (given : Option ℕ) → node.returns ≡ Some given
              → IsTrue (is_over (suc (copies f)) fact) × Derivable (suc (spare f (heights g))) (λ q. set_at (get_or m.points g []) p q || given_facts (spare f (heights g)) given q) (fact_with (renamed (copies f) (spare f (heights g))) fact)
          given_back b c fact has p node at given returns = (
            below_over (suc (copies f)) fact ((only_consistent r is b c).at_exits g f fact there has),
            derivable_more (either_more (λ q k. k) (returned_given f (heights g) given))
                ((keeps m s b c).exit p node given fact at returns (returned_below f (heights g) given (λ x e. returns_fit r is g f there (heights g) p node x at (returns ∙ ap Some e))) has),
          )

    -- where the sets before a point lost nothing to it, nothing is dropped there
    pub settled_by : (m : Family) → ((p : ℕ) (edge : Edge) (fact : Fact) → NodeEdge f p edge → IsTrue (set_at (get_or m.points g []) edge.to fact) → Crossed (set_at m.exits) (spare f (heights g)) edge.effect (set_at (get_or m.points g []) p) fact)
        → ((p : ℕ) (node : Node) (h : ℕ) (fact : Fact) → slice_get (routine_nodes f) p ≡ Some node → IsTrue (set_at m.entries h fact) → NodeGives node (get_or (get_or m.points g []) p no_set) h fact)
        → ((fact : Fact) → IsTrue (set_at (get_or m.points g []) 0 fact) → Entered m fact)
        → ((p : ℕ) (node : Node) (fact : Fact) → slice_get (routine_nodes f) p ≡ Some node → IsTrue (set_at m.exits g fact) → NodeReturns node (get_or (get_or m.points g []) p no_set) (copies f) (spare f (heights g)) fact)
        → Settled r heights (annotation_in m) g f
    settled_by m along calls entry returns = record {
      along = along;
      calls = λ p edge x h arguments fact one is_call has. stated (and_parts (is_over (length arguments) fact) _ (calls p one.node h fact one.there has one.place edge one.is x arguments is_call)).1;
      entry = λ fact has. derivable_more (λ p q. (and_parts (is_over (copies f) p) (set_at m.entries g p) q).1) (entry fact has).0;
      exit = λ p node given fact at gives has. derivable_more (either_more (λ q k. k) (given_returned f (heights g) given)) (returns p node fact at has given gives).1;
    }

  -- functions whose points stayed
  pub settled_stays : (m : Family) (ps : List (List Known)) (k : ℕ) (f : Routine) → get_or ps k [] ≡ get_or m.points k [] → Settled r heights (annotation_in m) k f → Settled r heights (annotation_in (with_points m ps)) k f
  settled_stays m ps k f same s = record {
    along = λ p edge fact one has. subst (λ sets. Crossed (set_at m.exits) (spare f (heights k)) edge.effect (set_at sets p) fact) (sym same) (s.along p edge fact one (subst (λ sets. IsTrue (set_at sets edge.to fact)) same has));
    calls = λ p edge x h arguments fact one is_call has. subst (λ sets. Derivable (kept f (heights k)) (set_at sets p) (fact_with (λ v. get_or arguments v 0) fact)) (sym same) (s.calls p edge x h arguments fact one is_call has);
    entry = λ fact has. s.entry fact (subst (λ sets. IsTrue (set_at sets 0 fact)) same has);
    exit = λ p node given fact at gives has. subst (λ sets. Derivable (kept f (heights k)) (λ q. set_at sets p q || returned_facts f (heights k) given q) (fact_with (renamed (copies f) (spare f (heights k))) fact)) (sym same) (s.exit p node given fact at gives has);
  }

  -- where it begins
  pub begun : (m : Family) → Full r m → Searching r m
  begun m u = record {
    shaped = u.shaped;
    order = record {
      entries = λ g f th fact has. pick (λ k. slice_get r.functions k ≡ Some f → IsTrue (set_at m.entries k fact) → is_below (copies f) fact) r.main (λ th has. not_both (set_at m.entries r.main fact) has (u.main fact)) (λ k apart th has. over_below (copies f) fact (sym (u.entries k f fact th apart) ∙ has)) g th has;
      exits = λ g f th fact has. over_below (suc (copies f)) fact (sym (u.exits g f fact th) ∙ has);
      points = λ g f p th fact has. a_point_below g f p th fact has (within g p fact has);
      main = u.main;
    };
    inside = λ b c. (
        let c1 = only_consistent r is b c in
        record {
          before = λ g p fact has. at_points b c g p fact has (slice_get r.functions g) refl;
          entry = λ g fact has. at_entries b c g fact has (slice_get r.functions g) refl;
          exit = λ g fact has. at_exits b c g fact has (slice_get r.functions g) refl;
        });
    shut = λ g f th p lt. record {
      shut = λ fact apart d. (
          u.points g f p fact th lt ∙ and_from (is_over (kept f (heights g)) fact) (not (names (spare f (heights g)) fact))
          (derivable_over (λ q k. (and_parts (is_over (kept f (heights g)) q) (not (names (spare f (heights g)) q)) (sym (u.points g f p q th lt) ∙ k)).0) d) (truly (names (spare f (heights g)) fact) apart));
      clean = λ fact has. falsely (names (spare f (heights g)) fact) (and_parts (is_over (kept f (heights g)) fact) (not (names (spare f (heights g)) fact)) (sym (u.points g f p fact th lt) ∙ has)).1;
    };
  }
    where
      truly : (b : Bool) → b ≡ false → not b ≡ true
      truly true e = cc
      truly false e = refl

      within : (g p : ℕ) (fact : Fact) → IsTrue (set_at (get_or m.points g []) p fact) → p < length (get_or m.points g [])
      within g p fact has = get_within (get_or m.points g []) p fact has

      a_point_below : (g : ℕ) (f : Routine) (p : ℕ) → slice_get r.functions g ≡ Some f → (fact : Fact) → IsTrue (set_at (get_or m.points g []) p fact) → p < length (get_or m.points g []) → is_below (spare f (heights g)) fact
      a_point_below g f p th fact has lt =
          let q = and_parts (is_over (kept f (heights g)) fact) (not (names (spare f (heights g)) fact)) (sym (u.points g f p fact th lt) ∙ has) in
          below_unnamed (spare f (heights g)) fact (over_below (kept f (heights g)) fact q.0) (falsely (names (spare f (heights g)) fact) q.1)

      at_points : (b : Annotation) → Consistent r heights b → (g p : ℕ) (fact : Fact) → IsTrue ((only_of r b).before g p fact) → (o : Option Routine) → slice_get r.functions g ≡ o → IsTrue (set_at (get_or m.points g []) p fact)
      at_points b c g p fact has None e = let q = sym (ap (λ o. has_point o p) e) ∙ (and_parts (has_point (slice_get r.functions g) p) (b.before g p fact) has).0 in cc
      at_points b c g p fact has (Some f) e =
          let lt = a_point g f e p (and_parts (has_point (slice_get r.functions g) p) (b.before g p fact) has).0 in
          let long = (u.shaped.each g f e).points in
          let own = (only_consistent r is b c).at_points g f p fact e has in
          u.points g f p fact e (omega (arith, lt, long)) ∙ and_from (is_over (kept f (heights g)) fact) (not (names (spare f (heights g)) fact)) (below_over (kept f (heights g)) fact (more_below (spare f (heights g)) (kept f (heights g)) (omega arith) fact own)) (truly (names (spare f (heights g)) fact) (unnamed (spare f (heights g)) fact own))

      at_entries : (b : Annotation) → Consistent r heights b → (g : ℕ) (fact : Fact) → IsTrue ((only_of r b).entry g fact) → (o : Option Routine) → slice_get r.functions g ≡ o → IsTrue (set_at m.entries g fact)
      at_entries b c g fact has None e = let q = sym (ap is_some e) ∙ (and_parts (is_some (slice_get r.functions g)) (b.entry g fact) has).0 in cc
      at_entries b c g fact has (Some f) e = pick (λ k. slice_get r.functions k ≡ Some f → IsTrue ((only_of r b).entry k fact) → IsTrue (set_at m.entries k fact)) r.main
          (λ th h. not_both ((only_of r b).entry r.main fact) h ((only_consistent r is b c).main fact))
          (λ k apart th h. u.entries k f fact th apart ∙ below_over (copies f) fact ((only_consistent r is b c).at_entries k f fact th h)) g e has

      at_exits : (b : Annotation) → Consistent r heights b → (g : ℕ) (fact : Fact) → IsTrue ((only_of r b).exit g fact) → (o : Option Routine) → slice_get r.functions g ≡ o → IsTrue (set_at m.exits g fact)
      at_exits b c g fact has None e = let q = sym (ap is_some e) ∙ (and_parts (is_some (slice_get r.functions g)) (b.exit g fact) has).0 in cc
      at_exits b c g fact has (Some f) e = u.exits g f fact e ∙ below_over (suc (copies f)) fact ((only_consistent r is b c).at_exits g f fact e has)

  -- where it ends
  pub ended : (m : Family) → Searching r m → ((g : ℕ) (f : Routine) → slice_get r.functions g ≡ Some f → Settled r heights (annotation_in m) g f) → GreatestOf r heights (annotation_in m)
  ended m s all = record {
    consistent = settled_consistent r heights (annotation_in m) s.order (λ g f th. ((functions_own r is g f th).own, all g f th));
    greatest = λ b c. inside_only r b (annotation_in m) (s.inside b c);
  }
