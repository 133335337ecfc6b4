-- What calls and returns hand on, point by point.
use Rattle.std.proofs.Common.{◌≡◌, ℕ, zero, suc, ◌+◌, ◌<◌, ◌≤◌, Bool, true, false, ◌&&◌, ◌||◌, not, nat_eq, IsTrue, ◌↔◌, List, [], ◌∷◌, ◌++◌, length, get_or, Option, Some, None, refl, sym, ap, ◌∙◌, subst, arith, ◌⊎◌, inl, inr}
use Rattle.std.specs.Prelude.{slice_get, IfSome, IfOk, Result, Ok, Err}
use Rattle.std.specs.List.{All, range_with_len}
use Rattle.std.proofs.lemmas.Bool.{and_parts, and_from, or_left, eqb-true, eq-eqb}
use Rattle.std.proofs.lemmas.List.{length-append}
use Rattle.std.proofs.lemmas.List.Elements.{All-nil, All-cons, All-append}
use Rattle.std.proofs.lemmas.List.FromFn.{length-range_with_len, get_or-range_with_len}
use Rattle.rc_facts.specs.declared.fact.Fact.{Fact}
use Rattle.rc_facts.specs.declared.fact.Fact.TheVariants.{In}
use Rattle.rc_facts.specs.Facts.{Known, holds, is_over, names, same_fact}
use Rattle.rc_facts.specs.Derivable.{Derivable}
use Rattle.rc_rlang.specs.RegionFlow.{Effect, called, Edge, Node, going, forking, returning}
use Rattle.rc_annotations.specs.Annotations.{fact_with, renamed, renamed_by}
use Rattle.rc_annotations.proofs.Derivations.{derivable_more}
use Rattle.rc_edges.proofs.Renaming.{same_names, own_name}
use Rattle.rc_facts.specs.Flow.{no_set}
use Rattle.rc_base.specs.declared.outside.NoMemory.{NoMemory}
use Rattle.rc_graph.specs.declared.node.Effect.{Effect as CodeEffect}
use Rattle.rc_graph.specs.declared.node.Node.{Node as CodeNode}
use Rattle.rc_graph.specs.declared.node.Node.TheVariants.{Go, Return}
use Rattle.rc_graph.specs.Nodes.{effect_of, node_of, nodes_of}
use Rattle.rc_edges.specs.Reading.{Loses, read_by}
use Rattle.rc_edges.specs.Boundaries.{CallGives, CallReady, NodeReady, NodeGives, CallsGive, ReturnReady, ReturnGives, NodeReturns, ReturnsGive, given_facts}
use Rattle.rc_edges.proofs.Steps.{over_below}
use Rattle.rc_boundaries.proofs.Lost.{loses_then, loses_as, loses_nothing}

some_is : {A : Type 0} (x y : A) → Some x ≡ Some y → x ≡ y
some_is x y e = cc

-- calls

pub given_call : (lost : Bool) (old new : List Known) (x : Option ℕ) (h : ℕ) (arguments : List ℕ) (known found : Known) → Loses lost old new (λ p fact. p ≡ h → IsTrue (holds found fact)) → ((fact : Fact) → holds found fact ≡ read_by arguments known fact) → Loses lost old new (CallGives (called x h arguments) known)
given_call lost old new x h arguments known found l is = loses_as lost old new (λ p fact. p ≡ h → IsTrue (holds found fact)) (CallGives (called x h arguments) known) (λ p fact. (
  λ k x1 arguments1 e. (
      let q : p ≡ h = cc in
      let a : arguments ≡ arguments1 = cc in
      subst (λ z. IsTrue (read_by z known fact)) a (sym (is fact) ∙ k q)),
  λ g q. is fact ∙ g x arguments (ap (λ z. called x z arguments) (sym q)),
)) l

pub called_by : (lost : Bool) (old new : List Known) (h : ℕ) (arguments : List ℕ) (known found : Known) → ((fact : Fact) → holds found fact ≡ read_by arguments known fact) → Loses lost old new (λ p fact. p ≡ h → IsTrue (holds found fact)) → (x : Option ℕ) → Loses lost old new (CallGives (called x h arguments) known)
called_by lost old new h arguments known found is l x = given_call lost old new x h arguments known found l is

-- of a set that has as many variables
ready_same : (effect : Effect) (n : ℕ) (old mid : List Known) (lost : Bool) (s : ℕ → Fact → Type 0) → Loses lost old mid s → CallReady effect n old → CallReady effect n mid
ready_same effect n old mid lost s l ready x h arguments e =
    let c = ready x h arguments e in
    record { there = (let t = c.there in let q = l.long in omega (arith, t, q)); places = l.variables h ∙ c.places; few = c.few; own = c.own }

pub node_ready_same : (node : Node) (n : ℕ) (old mid : List Known) (lost : Bool) (s : ℕ → Fact → Type 0) → Loses lost old mid s → NodeReady node n old → NodeReady node n mid
node_ready_same node n old mid lost s l ready k edge is = ready_same edge.effect n old mid lost s l (ready k edge is)

pub uncalled : (old : List Known) (effect : Effect) (known : Known) → ((x : Option ℕ) (h : ℕ) (arguments : List ℕ) → effect ≡ called x h arguments → ⊥) → Loses false old old (CallGives effect known)
uncalled old effect known never = loses_nothing old (CallGives effect known) (λ p fact x arguments e. absurd (never x p arguments e))

pub go_gives : (lost : Bool) (old new : List Known) (e : Effect) (to : ℕ) (known : Known) → Loses lost old new (CallGives e known) → Loses lost old new (NodeGives (going e to) known)
go_gives lost old new e to known l = loses_as lost old new (CallGives e known) (NodeGives (going e to) known) (λ p fact. (λ g k edge is. one p fact g k edge is, λ g. g 0 (record { effect = e; to = to }) refl)) l
  where
    one : (p : ℕ) (fact : Fact) → CallGives e known p fact → (k : ℕ) (edge : Edge) → slice_get (going e to).edges k ≡ Some edge → CallGives edge.effect known p fact
    one p fact g zero edge is = subst (λ (d : Edge). CallGives d.effect known p fact) (some_is (record { effect = e; to = to }) edge is) g
    one p fact g (suc k) edge is = cc

pub fork_gives : (l1 l2 : Bool) (old mid new : List Known) (e d : Effect) (to_e to_d : ℕ) (known : Known) → Loses l1 old mid (CallGives e known) → Loses l2 mid new (CallGives d known) → Loses (l1 || l2) old new (NodeGives (forking e d to_e to_d) known)
fork_gives l1 l2 old mid new e d to_e to_d known a b = loses_as (l1 || l2) old new (λ p fact. CallGives e known p fact × CallGives d known p fact) (NodeGives (forking e d to_e to_d) known)
    (λ p fact. (λ g k edge is. two p fact g k edge is, λ g. (g 0 (record { effect = e; to = to_e }) refl, g 1 (record { effect = d; to = to_d }) refl))) (loses_then l1 l2 old mid new (CallGives e known) (CallGives d known) a b)
  where
    two : (p : ℕ) (fact : Fact) → CallGives e known p fact × CallGives d known p fact → (k : ℕ) (edge : Edge) → slice_get (forking e d to_e to_d).edges k ≡ Some edge → CallGives edge.effect known p fact
    two p fact g zero edge is = subst (λ (x : Edge). CallGives x.effect known p fact) (some_is (record { effect = e; to = to_e }) edge is) g.0
    two p fact g (suc zero) edge is = subst (λ (x : Edge). CallGives x.effect known p fact) (some_is (record { effect = d; to = to_d }) edge is) g.1
    two p fact g (suc (suc k)) edge is = cc

pub return_calls : (old : List Known) (given : Option ℕ) (known : Known) → Loses false old old (NodeGives (returning given) known)
return_calls old given known = loses_nothing old (NodeGives (returning given) known) (λ p fact k edge is. cc)

less_more : (k p : ℕ) → k < p + 1 → (k < p) ⊎ (k ≡ p)
less_more k p lt = by (order k p)
  where
    order : (a b : ℕ) → (a < b) ⊎ ((a ≡ b) ⊎ (b < a))
    order a b = grind arith

    by : (k < p) ⊎ ((k ≡ p) ⊎ (p < k)) → (k < p) ⊎ (k ≡ p)
    by (inl x) = inl x
    by (inr (inl x)) = inr x
    by (inr (inr x)) = absurd (omega (arith, lt, x))

-- up to the next point

pub calls_none : (old : List Known) (nodes : List Node) (points : List Known) → Loses false old old (CallsGive nodes points 0)
calls_none old nodes points = loses_nothing old (CallsGive nodes points 0) (λ h fact p node lt at. absurd (omega (arith, lt)))

pub calls_more : (l1 l2 : Bool) (old mid new : List Known) (nodes : List Node) (points : List Known) (p : ℕ) (node : Node) → slice_get nodes p ≡ Some node → Loses l1 old mid (CallsGive nodes points p) → Loses l2 mid new (NodeGives node (get_or points p no_set)) → Loses (l1 || l2) old new (CallsGive nodes points (p + 1))
calls_more l1 l2 old mid new nodes points p node at a b = loses_as (l1 || l2) old new (λ h fact. CallsGive nodes points p h fact × NodeGives node (get_or points p no_set) h fact) (CallsGive nodes points (p + 1))
    (λ h fact. (λ g k n lt is. elim (less_more k p lt) [ inl x ↦ g.0 k n x is | inr q ↦ here h fact g.1 k n q is ], λ g. (λ k n lt is. g k n (omega (arith, lt)) is, g p node (omega arith) at)))
    (loses_then l1 l2 old mid new (CallsGive nodes points p) (NodeGives node (get_or points p no_set)) a b)
  where
    here : (h : ℕ) (fact : Fact) → NodeGives node (get_or points p no_set) h fact → (k : ℕ) (n : Node) → k ≡ p → slice_get nodes k ≡ Some n → NodeGives n (get_or points k no_set) h fact
    here h fact g k n q is = subst (λ i. NodeGives n (get_or points i no_set) h fact) (sym q) (subst (λ m. NodeGives m (get_or points p no_set) h fact) (some_is node n (sym at ∙ ap (slice_get nodes) (sym q) ∙ is)) g)

-- returns

pub returns_none : (old : List Known) (nodes : List Node) (points : List Known) (g copies spare : ℕ) → Loses false old old (λ p fact. p ≡ g → ReturnsGive nodes points copies spare 0 fact)
returns_none old nodes points g copies spare = loses_nothing old (λ p fact. p ≡ g → ReturnsGive nodes points copies spare 0 fact) (λ h fact q p node lt at. absurd (omega (arith, lt)))

pub returns_more : (l1 l2 : Bool) (old mid new : List Known) (nodes : List Node) (points : List Known) (g copies spare p : ℕ) (node : Node) → slice_get nodes p ≡ Some node → Loses l1 old mid (λ h fact. h ≡ g → ReturnsGive nodes points copies spare p fact) → Loses l2 mid new (λ h fact. h ≡ g → NodeReturns node (get_or points p no_set) copies spare fact)
    → Loses (l1 || l2) old new (λ h fact. h ≡ g → ReturnsGive nodes points copies spare (p + 1) fact)
returns_more l1 l2 old mid new nodes points g copies spare p node at a b = loses_as (l1 || l2) old new
    (λ h fact. (h ≡ g → ReturnsGive nodes points copies spare p fact) × (h ≡ g → NodeReturns node (get_or points p no_set) copies spare fact)) (λ h fact. h ≡ g → ReturnsGive nodes points copies spare (p + 1) fact)
    (λ h fact. (λ t q k n lt is. elim (less_more k p lt) [ inl x ↦ t.0 q k n x is | inr e ↦ here fact (t.1 q) k n e is ], λ t. (λ q k n lt is. t q k n (omega (arith, lt)) is, λ q. t q p node (omega arith) at)))
    (loses_then l1 l2 old mid new (λ h fact. h ≡ g → ReturnsGive nodes points copies spare p fact) (λ h fact. h ≡ g → NodeReturns node (get_or points p no_set) copies spare fact) a b)
  where
    here : (fact : Fact) → NodeReturns node (get_or points p no_set) copies spare fact → (k : ℕ) (n : Node) → k ≡ p → slice_get nodes k ≡ Some n → NodeReturns n (get_or points k no_set) copies spare fact
    here fact t k n q is = subst (λ i. NodeReturns n (get_or points i no_set) copies spare fact) (sym q) (subst (λ m. NodeReturns m (get_or points p no_set) copies spare fact) (some_is node n (sym at ∙ ap (slice_get nodes) (sym q) ∙ is)) t)

pub go_returns : (old : List Known) (e : Effect) (to g copies spare : ℕ) (known : Known) → Loses false old old (λ p fact. p ≡ g → NodeReturns (going e to) known copies spare fact)
go_returns old e to g copies spare known = loses_nothing old (λ p fact. p ≡ g → NodeReturns (going e to) known copies spare fact) (λ p fact q given is. cc)

pub fork_returns : (old : List Known) (e d : Effect) (to_e to_d g copies spare : ℕ) (known : Known) → Loses false old old (λ p fact. p ≡ g → NodeReturns (forking e d to_e to_d) known copies spare fact)
fork_returns old e d to_e to_d g copies spare known = loses_nothing old (λ p fact. p ≡ g → NodeReturns (forking e d to_e to_d) known copies spare fact) (λ p fact q given is. cc)

pub return_returns : (lost : Bool) (old new : List Known) (given : Option ℕ) (g copies spare : ℕ) (known : Known) → Loses lost old new (λ p fact. p ≡ g → ReturnGives known copies spare given fact) → Loses lost old new (λ p fact. p ≡ g → NodeReturns (returning given) known copies spare fact)
return_returns lost old new given g copies spare known l = loses_as lost old new (λ p fact. p ≡ g → ReturnGives known copies spare given fact) (λ p fact. p ≡ g → NodeReturns (returning given) known copies spare fact)
    (λ p fact. (λ t q given1 is. subst (λ z. ReturnGives known copies spare z fact) (some_is given given1 is) (t q), λ t q. t q given refl)) l

-- what is settled at a return

or_again : (a b c : Bool) → ((a || b) || c) ≡ (a || (b || c))
or_again true b c = refl
or_again false b c = refl

pub settled_some : (n spare x : ℕ) (known one two closed : Fact → Bool) → ((p : Fact) → one p ≡ (known p || same_fact (In spare x) p)) → ((p : Fact) → two p ≡ (one p || same_fact (In x spare) p)) → ((p : Fact) → IsTrue (closed p) ↔ Derivable n two p)
    → (fact : Fact) → IsTrue (closed fact) ↔ Derivable n (λ q. known q || given_facts spare (Some x) q) fact
settled_some n spare x known one two closed a b c fact = (λ is. derivable_more (λ p e. sym (whole p) ∙ e) ((c fact).0 is), λ d. (c fact).1 (derivable_more (λ p e. whole p ∙ e) d))
  where
    whole : (p : Fact) → two p ≡ (known p || (same_fact (In spare x) p || same_fact (In x spare) p))
    whole p = b p ∙ ap (λ z. z || same_fact (In x spare) p) (a p) ∙ or_again (known p) (same_fact (In spare x) p) (same_fact (In x spare) p)

pub settled_none : (n spare : ℕ) (known closed : Fact → Bool) → ((p : Fact) → IsTrue (closed p) ↔ Derivable n known p) → (fact : Fact) → IsTrue (closed fact) ↔ Derivable n (λ q. known q || given_facts spare None q) fact
settled_none n spare known closed c fact = (λ is. derivable_more (λ p e. or_left (known p) false e) ((c fact).0 is), λ d. (c fact).1 (derivable_more (λ p e. left_only (known p) e) d))
  where
    left_only : (a : Bool) → (a || false) ≡ true → a ≡ true
    left_only true e = refl
    left_only false e = cc

-- the variables of an exit

exit_name : (copies spare v : ℕ) → v < suc copies → get_or (range_with_len 0 copies ++ spare ∷ []) v 0 ≡ renamed copies spare v
exit_name copies spare v lt = by (nat_eq v copies) refl
  where
    long : length (range_with_len 0 copies) ≡ copies
    long = length-range_with_len 0 copies

    get_left : (xs ys : List ℕ) (i : ℕ) → i < length xs → get_or (xs ++ ys) i 0 ≡ get_or xs i 0
    get_left [] ys i l = absurd (omega (arith, l))
    get_left (x ∷ xs) ys zero l = refl
    get_left (x ∷ xs) ys (suc i) l = get_left xs ys i (omega (arith, l))

    get_last : (xs : List ℕ) (y : ℕ) → get_or (xs ++ y ∷ []) (length xs) 0 ≡ y
    get_last [] y = refl
    get_last (x ∷ xs) y = get_last xs y

    below : nat_eq v copies ≡ false → v < copies
    below e = elim (less_more v copies (omega (arith, lt))) [ inl x ↦ x | inr q ↦ absurd (not_both (sym e ∙ eq-eqb v copies q)) ]
      where
        not_both : false ≡ true → ⊥
        not_both c = cc

    by : (b : Bool) → nat_eq v copies ≡ b → get_or (range_with_len 0 copies ++ spare ∷ []) v 0 ≡ renamed_by b spare v
    by true e = ap (λ i. get_or (range_with_len 0 copies ++ spare ∷ []) i 0) (eqb-true v copies e ∙ sym long) ∙ get_last (range_with_len 0 copies) spare
    by false e = let l = below e in get_left (range_with_len 0 copies) (spare ∷ []) v (omega (arith, l, long)) ∙ get_or-range_with_len 0 copies v 0 l ∙ (let q : 0 + v ≡ v = omega arith in q)

pub given_back : (copies spare : ℕ) (names : List ℕ) (lost : Bool) (old new : List Known) (g : ℕ) (given : Option ℕ) (known work found : Known) → names ≡ range_with_len 0 copies ++ spare ∷ [] → Loses lost old new (λ p fact. p ≡ g → IsTrue (holds found fact)) → ((fact : Fact) → holds found fact ≡ read_by names work fact)
    → ((fact : Fact) → IsTrue (holds work fact) ↔ Derivable (suc spare) (λ q. holds known q || given_facts spare given q) fact) → Loses lost old new (λ p fact. p ≡ g → ReturnGives known copies spare given fact)
given_back copies spare names lost old new g given known work found own l read settled = loses_as lost old new (λ p fact. p ≡ g → IsTrue (holds found fact)) (λ p fact. p ≡ g → ReturnGives known copies spare given fact) (λ p fact. (λ t q. there fact (t q), λ t q. back fact (t q))) l
  where
    count : length names ≡ suc copies
    count = ap length own ∙ long (range_with_len 0 copies) spare ∙ ap suc (length-range_with_len 0 copies)
      where
        long : (xs : List ℕ) (y : ℕ) → length (xs ++ y ∷ []) ≡ suc (length xs)
        long [] y = refl
        long (x ∷ xs) y = ap suc (long xs y)

    same : (fact : Fact) → is_over (suc copies) fact ≡ true → fact_with (λ v. get_or names v 0) fact ≡ fact_with (renamed copies spare) fact
    same fact over = same_names (suc copies) (λ v. get_or names v 0) (renamed copies spare) (λ v lt. ap (λ xs. get_or xs v 0) own ∙ exit_name copies spare v lt) fact (over_below (suc copies) fact over)

    there : (fact : Fact) → IsTrue (holds found fact) → ReturnGives known copies spare given fact
    there fact is =
        let q = and_parts (is_over (length names) fact) (holds work (fact_with (λ v. get_or names v 0) fact)) (sym (read fact) ∙ is) in
        let over : is_over (suc copies) fact ≡ true = subst (λ n. is_over n fact ≡ true) count q.0 in
        (over, (settled (fact_with (renamed copies spare) fact)).0 (subst (λ p. IsTrue (holds work p)) (same fact over) q.1))

    back : (fact : Fact) → ReturnGives known copies spare given fact → IsTrue (holds found fact)
    back fact t = read fact ∙ and_from (is_over (length names) fact) (holds work (fact_with (λ v. get_or names v 0) fact)) (subst (λ n. is_over n fact ≡ true) (sym count) t.0)
        (subst (λ p. IsTrue (holds work p)) (sym (same fact t.0)) ((settled (fact_with (renamed copies spare) fact)).1 t.1))

-- entries

pub begun_by : (copies spare : ℕ) (own : List ℕ) (entry : Known) (read_set closed gone : Fact → Bool) → own ≡ range_with_len 0 copies → ((p : Fact) → read_set p ≡ read_by own entry p) → ((p : Fact) → IsTrue (closed p) ↔ Derivable (suc spare) read_set p) → ((p : Fact) → gone p ≡ (closed p && not (names spare p)))
    → (fact : Fact) → IsTrue (gone fact) ↔ (Derivable (suc spare) (λ p. is_over copies p && holds entry p) fact × (names spare fact ≡ false))
begun_by copies spare own entry read_set closed gone numbers reads closes forgets fact = (
  λ is. (
      let b = and_parts (closed fact) (not (names spare fact)) (sym (forgets fact) ∙ is) in
      (derivable_more (λ p e. sym (whole p) ∙ e) ((closes fact).0 b.0), falsely (names spare fact) b.1)),
  λ h. forgets fact ∙ and_from (closed fact) (not (names spare fact)) ((closes fact).1 (derivable_more (λ p e. whole p ∙ e) h.0)) (truly (names spare fact) h.1),
)
  where
    falsely : (b : Bool) → not b ≡ true → b ≡ false
    falsely true e = cc
    falsely false e = refl

    truly : (b : Bool) → b ≡ false → not b ≡ true
    truly true e = cc
    truly false e = refl

    count : length own ≡ copies
    count = ap length numbers ∙ length-range_with_len 0 copies

    by : (p : Fact) (b : Bool) → is_over copies p ≡ b → (b && holds entry (fact_with (λ v. get_or own v 0) p)) ≡ (b && holds entry p)
    by p true e = ap (holds entry) (same_names copies (λ v. get_or own v 0) (λ v. v) (λ v lt. ap (λ xs. get_or xs v 0) numbers ∙ get_or-range_with_len 0 copies v 0 lt ∙ (let q : 0 + v ≡ v = omega arith in q)) p (over_below copies p e) ∙ own_name p)
    by p false e = refl

    whole : (p : Fact) → read_set p ≡ (is_over copies p && holds entry p)
    whole p = reads p ∙ ap (λ n. is_over n p && holds entry (fact_with (λ v. get_or own v 0) p)) count ∙ by p (is_over copies p) refl

pub range_below : (xs : List ℕ) (n m : ℕ) → xs ≡ range_with_len 0 n → m ≡ n → All (λ x. x < m) xs
range_below xs n m e q = λ k d lt. (
    let long = ap length e ∙ length-range_with_len 0 n in
    let is = ap (λ z. get_or z k d) e ∙ get_or-range_with_len 0 n k d (omega (arith, lt, long)) in
    omega (arith, is, lt, long, q))

pub exit_long : (xs : List ℕ) (copies spare : ℕ) → xs ≡ range_with_len 0 copies ++ spare ∷ [] → length xs ≡ copies + 1
exit_long xs copies spare e = let q = ap length e in let l = length-append (range_with_len 0 copies) (spare ∷ []) in let r = length-range_with_len 0 copies in omega (arith, q, l, r)

pub exit_below : (xs : List ℕ) (copies spare m : ℕ) → xs ≡ range_with_len 0 copies ++ spare ∷ [] → m ≡ suc spare → copies ≤ spare → All (λ x. x < m) xs
exit_below xs copies spare m e q le = subst (All (λ x. x < m)) (sym e) (All-append (λ x. x < m) (range_with_len 0 copies) (spare ∷ []) (λ k d lt. (let l = range_below (range_with_len 0 copies) copies copies refl refl k d lt in omega (arith, l, q, le))) (All-cons (λ x. x < m) spare [] (omega (arith, q)) (All-nil (λ x. x < m))))

pub given_ready : (n : CodeNode) (v : Option ℕ) (s : ℕ) → n ≡ Return v → ReturnReady (node_of n) s → IfSome v (λ x. x ≤ s)
given_ready n None s e h = tt {0}
given_ready n (Some x) s e h = h x (ap (λ m. (node_of m).returns) e)

-- by places

pub node_at : (nodes : List CodeNode) (p : ℕ) (n : CodeNode) → p < length nodes → n ≡ get_or nodes p n → slice_get (nodes_of nodes) p ≡ Some (node_of n)
node_at [] p n lt e = absurd (omega (arith, lt))
node_at (x ∷ xs) zero n lt e = ap (λ m. Some (node_of m)) (sym e)
node_at (x ∷ xs) (suc p) n lt e = node_at xs p n (omega (arith, lt)) e

pub set_there : (xs : List Known) (p : ℕ) (s : Known) → p < length xs → s ≡ get_or xs p s → get_or xs p no_set ≡ s
set_there [] p s lt e = absurd (omega (arith, lt))
set_there (x ∷ xs) zero s lt e = sym e
set_there (x ∷ xs) (suc p) s lt e = set_there xs p s (omega (arith, lt)) e

pub or_true : (a b : Bool) → a ≡ true → (a || b) ≡ a
or_true a b e = ap (λ z. z || b) e ∙ sym e

pub or_false : (a b : Bool) → a ≡ false → (a || b) ≡ b
or_false a b e = ap (λ z. z || b) e

pub go_returned : (o : Result Bool NoMemory) (old new : List Known) (n : CodeNode) (e : CodeEffect) (to : ℕ) (known : Known) → n ≡ Go e to → IfOk o (λ lost. Loses lost old new (CallGives (effect_of e) known)) → IfOk o (λ lost. Loses lost old new (NodeGives (node_of n) known))
go_returned (Ok lost) old new n e to known q l = subst (λ m. Loses lost old new (NodeGives (node_of m) known)) (sym q) (go_gives lost old new (effect_of e) to known l)
go_returned (Err x) old new n e to known q l = tt {0}

pub calls_step : (lost more all : Bool) (old mid new : List Known) (nodes : List CodeNode) (points : List Known) (p : ℕ) (n : CodeNode) (s : Known) → p < length nodes → length points ≡ length nodes → n ≡ get_or nodes p n → s ≡ get_or points p s → Loses lost old mid (CallsGive (nodes_of nodes) points p) → Loses more mid new (NodeGives (node_of n) s) → all ≡ (lost || more) → Loses all old new (CallsGive (nodes_of nodes) points (p + 1))
calls_step lost more all old mid new nodes points p n s lt long at there a b e =
    subst (λ z. Loses z old new (CallsGive (nodes_of nodes) points (p + 1))) (sym e)
    (calls_more lost more old mid new (nodes_of nodes) points p (node_of n) (node_at nodes p n lt at) a (subst (λ k. Loses more mid new (NodeGives (node_of n) k)) (sym (set_there points p s (omega (arith, lt, long)) there)) b))

pub returns_step : (lost more all : Bool) (old mid new : List Known) (nodes : List CodeNode) (points : List Known) (g copies spare p : ℕ) (n : CodeNode) (s : Known) → p < length nodes → length points ≡ length nodes → n ≡ get_or nodes p n → s ≡ get_or points p s → Loses lost old mid (λ h fact. h ≡ g → ReturnsGive (nodes_of nodes) points copies spare p fact)
    → Loses more mid new (λ h fact. h ≡ g → NodeReturns (node_of n) s copies spare fact) → all ≡ (lost || more) → Loses all old new (λ h fact. h ≡ g → ReturnsGive (nodes_of nodes) points copies spare (p + 1) fact)
returns_step lost more all old mid new nodes points g copies spare p n s lt long at there a b e =
    subst (λ z. Loses z old new (λ h fact. h ≡ g → ReturnsGive (nodes_of nodes) points copies spare (p + 1) fact)) (sym e)
    (returns_more lost more old mid new (nodes_of nodes) points g copies spare p (node_of n) (node_at nodes p n lt at) a (subst (λ k. Loses more mid new (λ h fact. h ≡ g → NodeReturns (node_of n) k copies spare fact)) (sym (set_there points p s (omega (arith, lt, long)) there)) b))
