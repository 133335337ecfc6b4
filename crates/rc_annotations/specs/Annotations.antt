-- Annotations of region code with facts. An annotation says which facts there are of a function's region variables before each of its
-- points, at its entry and at its exit. It is consistent where each fact behind an edge of the flow follows from the facts before it and
-- from what the edge adds. The facts of an entry are on the hidden copies alone, and each call gives them of its arguments; those of an
-- exit are on the hidden copies and the result, and each return gives them. Nothing is known at the entry of `main`. Any annotation may be
-- tested for this; many are consistent, among them the one without facts.
use Rattle.std.specs.Prelude.{◌≡◌, ℕ, zero, suc, ◌<◌, Bool, true, false, ◌||◌, ◌&&◌, nat_eq, IsTrue, List, [], ◌∷◌, length, get_or, slice_get, Option, Some, None}
use Rattle.rc_core.specs.declared.ty.Note.{Note}
use Rattle.rc_core.specs.declared.ty.Note.TheVariants.{Plain, SameRegion, ParentPtr, Traditional}
use Rattle.rc_facts.specs.declared.fact.Fact.{Fact}
use Rattle.rc_facts.specs.declared.fact.Fact.TheVariants.{In, Up, Trad, NonNull}
use Rattle.rc_facts.specs.Facts.{same_fact}
use Rattle.rc_facts.specs.Derivable.{Derivable}
use Rattle.rc_rlang.specs.RegionCode.{Routine, Rlang}
use Rattle.rc_rlang.specs.RegionFlow.{Effect, nothing, nulled, moved, fixed, beside, made, under, loaded, looked_at, stored, present, absent, called, entered, assigned, Edge, Node, copies, result_variable, variables, scratch, routine_nodes}

-- a set of facts, as its test
abbrev pub Facts : Type 0
Facts = Fact → Bool

-- what an effect adds, with the assigned variable by its own name

-- of a value that is loaded or stored, by the annotation of its cell
abbrev pub by_note : Note → (value holder : ℕ) → Facts
by_note Plain value holder p = false
by_note SameRegion value holder p = same_fact p (In value holder)
by_note ParentPtr value holder p = same_fact p (Up value holder)
by_note Traditional value holder p = same_fact p (Trad value)

-- null is in every variable's region, and in the traditional one
abbrev pub of_null : ℕ → Facts
of_null x (In u v) = nat_eq u x
of_null x (Up u v) = false
of_null x (Trad u) = nat_eq u x
of_null x (NonNull u) = false

-- At the entry each parameter's local is its hidden copy. Before that point facts are on hidden copies alone, so none on a local has to go.
abbrev pub some_pair : List (ℕ × ℕ) → Facts
some_pair [] p = false
some_pair (c ∷ cs) p = same_fact p (In c.0 c.1) || (same_fact p (In c.1 c.0) || some_pair cs p)

-- the facts of the exits of functions are given
abbrev pub gained : (exits : ℕ → List ℕ → Option ℕ → Facts) → Effect → Facts
gained exits nothing p = false
gained exits (nulled x) p = of_null x p
gained exits (moved x y) p = same_fact p (In x y) || same_fact p (In y x)
gained exits (fixed x) p = same_fact p (Trad x) || same_fact p (NonNull x)
gained exits (beside x y) p = same_fact p (NonNull y) || (same_fact p (NonNull x) || same_fact p (In x y))
gained exits (made x) p = same_fact p (NonNull x)
gained exits (under x y) p = same_fact p (NonNull y) || (same_fact p (NonNull x) || same_fact p (Up y x))
gained exits (loaded x y note) p = same_fact p (NonNull y) || by_note note x y p
gained exits (looked_at y) p = same_fact p (NonNull y)
gained exits (stored z y note) p = same_fact p (NonNull y) || by_note note z y p
gained exits (present y) p = same_fact p (NonNull y)
gained exits (absent y) p = of_null y p
gained exits (called x g arguments) p = exits g arguments x p
gained exits (entered pairs) p = some_pair pairs p

-- what is allowed behind an effect

abbrev pub renamed_by : Bool → (to x : ℕ) → ℕ
renamed_by true to x = to
renamed_by false to x = x

-- with another name for a variable
abbrev pub renamed : (from to : ℕ) → ℕ → ℕ
renamed from to x = renamed_by (nat_eq x from) to x

abbrev pub fact_with : (ℕ → ℕ) → Fact → Fact
fact_with name (In x y) = In (name x) (name y)
fact_with name (Up x y) = Up (name x) (name y)
fact_with name (Trad x) = Trad (name x)
fact_with name (NonNull x) = NonNull (name x)

-- with another variable assigned
abbrev pub assigning : ℕ → Effect → Effect
assigning s nothing = nothing
assigning s (nulled x) = nulled s
assigning s (moved x y) = moved s y
assigning s (fixed x) = fixed s
assigning s (beside x y) = beside s y
assigning s (made x) = made s
assigning s (under x y) = under s y
assigning s (loaded x y note) = loaded s y note
assigning s (looked_at y) = looked_at y
assigning s (stored z y note) = stored z y note
assigning s (present y) = present y
assigning s (absent y) = absent y
assigning s (called x g arguments) = called (Some s) g arguments
assigning s (entered pairs) = entered pairs

-- A fact may stand behind an effect where it is derivable from the facts before and the new ones. Where a variable is assigned, the new
-- facts are on the scratch variable s, which has the new value, every other name stands for the variable as it was before, and a fact on
-- the assigned one is asked of s. So nothing is kept of the old value.
abbrev pub allowed_where : (n s : ℕ) → (gains : Effect → Facts) → (assigned : Option ℕ) → Effect → Facts → Fact → Type 0
allowed_where n s gains None effect before fact = Derivable n (λ p. before p || gains effect p) fact
allowed_where n s gains (Some x) effect before fact = Derivable n (λ p. before p || gains (assigning s effect) p) (fact_with (renamed x s) fact)

abbrev pub allowed : (n s : ℕ) → (gains : Effect → Facts) → Effect → Facts → Fact → Type 0
allowed n s gains effect before fact = allowed_where n s gains (assigned effect) effect before fact

pub record Annotation : Type 0 where
  pub before : (function point : ℕ) → Facts
  pub entry : (function : ℕ) → Facts
  pub exit : (function : ℕ) → Facts

-- what a call learns of the exit of its function: the hidden copies 0 to p-1 are the arguments, and p is the result

abbrev pub place_in : List ℕ → Option ℕ → (v : ℕ) → Option ℕ
place_in [] None v = None
place_in [] (Some x) zero = Some x
place_in [] (Some x) (suc v) = None
place_in (y ∷ ys) x zero = Some y
place_in (y ∷ ys) x (suc v) = place_in ys x v

abbrev pub is_place : Option ℕ → ℕ → Bool
is_place None v = false
is_place (Some u) v = nat_eq u v

abbrev pub some_below : (ℕ → Bool) → ℕ → Bool
some_below test zero = false
some_below test (suc n) = test n || some_below test n

-- it is the exit's fact on its variables i and j
abbrev pub pair_fact : Facts → List ℕ → Option ℕ → Fact → (i j : ℕ) → Bool
pair_fact exit arguments x (In u v) i j = is_place (place_in arguments x i) u && (is_place (place_in arguments x j) v && exit (In i j))
pair_fact exit arguments x (Up u v) i j = is_place (place_in arguments x i) u && (is_place (place_in arguments x j) v && exit (Up i j))
pair_fact exit arguments x (Trad u) i j = is_place (place_in arguments x i) u && exit (Trad i)
pair_fact exit arguments x (NonNull u) i j = is_place (place_in arguments x i) u && exit (NonNull i)

-- a fact of the exit, where both its variables are the call's
abbrev pub exit_facts : Annotation → (function : ℕ) → (arguments : List ℕ) → Option ℕ → Facts
exit_facts a g arguments x fact = some_below (λ i. some_below (pair_fact (a.exit g) arguments x fact i) (suc (length arguments))) (suc (length arguments))

-- it is on variables below n alone
abbrev pub is_below : ℕ → Fact → Type 0
is_below n (In x y) = (x < n) × (y < n)
is_below n (Up x y) = (x < n) × (y < n)
is_below n (Trad x) = x < n
is_below n (NonNull x) = x < n

-- the result is in both ways with what is returned
abbrev pub returned_facts : (f : Routine) (temporaries : ℕ) → Option ℕ → Facts
returned_facts f temporaries None q = false
returned_facts f temporaries (Some x) q = same_fact q (In (result_variable f temporaries) x) || same_fact q (In x (result_variable f temporaries))

-- an edge from a point of a function
pub record NodeEdge (f : Routine) (point : ℕ) (edge : Edge) : Type 0 where
  pub node : Node
  pub place : ℕ
  pub there : slice_get (routine_nodes f) point ≡ Some node
  pub is : slice_get node.edges place ≡ Some edge

-- a return at a point of a function, which may give a variable
pub record NodeReturn (f : Routine) (point : ℕ) (given : Option ℕ) : Type 0 where
  pub node : Node
  pub there : slice_get (routine_nodes f) point ≡ Some node
  pub returns : node.returns ≡ Some given

-- In region code whose functions have so many temporaries the facts of b follow from those of a. So do all facts of a consistent annotation
-- inside a; a search that goes downward from all facts, and leaves at each step what follows, never loses one of these.
pub record Follows (r : Rlang) (temporaries : ℕ → ℕ) (b a : Annotation) : Type 0 where
  -- on every edge within a function
  pub along : (g : ℕ) (f : Routine) (p : ℕ) (edge : Edge) (fact : Fact) → slice_get r.functions g ≡ Some f → NodeEdge f p edge →
      IsTrue (b.before g edge.to fact) → allowed (variables f (temporaries g)) (scratch f (temporaries g)) (gained (exit_facts a)) edge.effect (a.before g p) fact
  -- into every function that is called, on its hidden copies
  pub calls : (g : ℕ) (f : Routine) (p : ℕ) (edge : Edge) (x : Option ℕ) (h : ℕ) (arguments : List ℕ) (fact : Fact) → slice_get r.functions g ≡ Some f → NodeEdge f p edge → edge.effect ≡ called x h arguments →
      IsTrue (b.entry h fact) → Derivable (variables f (temporaries g)) (a.before g p) (fact_with (λ v. get_or arguments v 0) fact)
  -- at an entry nothing is known but what its calls give of the hidden copies
  pub entry : (g : ℕ) (f : Routine) (fact : Fact) → slice_get r.functions g ≡ Some f → IsTrue (b.before g 0 fact) → Derivable (variables f (temporaries g)) (a.entry g) fact
  -- at every return
  pub exit : (g : ℕ) (f : Routine) (p : ℕ) (given : Option ℕ) (fact : Fact) → slice_get r.functions g ≡ Some f → NodeReturn f p given → IsTrue (b.exit g fact) →
      Derivable (variables f (temporaries g)) (λ q. a.before g p q || returned_facts f (temporaries g) given q) (fact_with (renamed (copies f) (result_variable f (temporaries g))) fact)

-- its facts follow from themselves
pub record Consistent (r : Rlang) (temporaries : ℕ → ℕ) (a : Annotation) : Type 0 where
  -- entries speak of hidden copies, exits of these and the result, and points of neither the result nor the scratch variable
  pub at_entries : (g : ℕ) (f : Routine) (fact : Fact) → slice_get r.functions g ≡ Some f → IsTrue (a.entry g fact) → is_below (copies f) fact
  pub at_exits : (g : ℕ) (f : Routine) (fact : Fact) → slice_get r.functions g ≡ Some f → IsTrue (a.exit g fact) → is_below (suc (copies f)) fact
  pub at_points : (g : ℕ) (f : Routine) (p : ℕ) (fact : Fact) → slice_get r.functions g ≡ Some f → IsTrue (a.before g p fact) → is_below (result_variable f (temporaries g)) fact
  pub follows : Follows r temporaries a a
  -- the entry of `main` has no fact
  pub main : (fact : Fact) → a.entry r.main fact ≡ false

-- what the check of a store asks
abbrev pub asked : Note → (value holder : ℕ) → Option Fact
asked Plain value holder = None
asked SameRegion value holder = Some (In value holder)
asked ParentPtr value holder = Some (Up value holder)
asked Traditional value holder = Some (Trad value)

abbrev pub asked_of : Effect → Option Fact
asked_of (stored value holder note) = asked note value holder
asked_of effect = None

abbrev pub first_asked : List Edge → Option Fact
first_asked [] = None
first_asked (e ∷ es) = asked_of e.effect

abbrev pub asked_by : Node → Option Fact
asked_by node = first_asked node.edges

-- at the point is a store whose check asks for a fact that the annotation has there
pub record Proven (r : Rlang) (a : Annotation) (function point : ℕ) : Type 0 where
  pub routine : Routine
  pub there : slice_get r.functions function ≡ Some routine
  pub node : Node
  pub at_point : slice_get (routine_nodes routine) point ≡ Some node
  pub fact : Fact
  pub asks : asked_by node ≡ Some fact
  pub has : a.before function point fact ≡ true

abbrev pub AllProven : Rlang → Annotation → (marks : (function point : ℕ) → Bool) → Type 0
AllProven r a marks = (g p : ℕ) → marks g p ≡ true → Proven r a g p

-- its check may go where some consistent annotation has the fact
pub record Removable (r : Rlang) (temporaries : ℕ → ℕ) (function point : ℕ) : Type 0 where
  pub annotation : Annotation
  pub consistent : Consistent r temporaries annotation
  pub proven : Proven r annotation function point

abbrev pub AllRemovable : Rlang → (temporaries : ℕ → ℕ) → (marks : (function point : ℕ) → Bool) → Type 0
AllRemovable r temporaries marks = (g p : ℕ) → marks g p ≡ true → Removable r temporaries g p
