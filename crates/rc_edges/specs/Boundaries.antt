-- What functions hand on to one another: calls to the entries of the functions that they call, and returns to exits. What an entry hands
-- on to the first point is what is derivable from it.
use Rattle.std.specs.Prelude.{◌≡◌, ℕ, suc, ◌<◌, ◌≤◌, false, ◌||◌, IsTrue, List, length, get_or, slice_get, Option, Some, None}
use Rattle.std.specs.List.{All}
use Rattle.rc_facts.specs.declared.fact.Fact.{Fact}
use Rattle.rc_facts.specs.declared.fact.Fact.TheVariants.{In}
use Rattle.rc_facts.specs.Facts.{Known, holds, is_over, same_fact}
use Rattle.rc_facts.specs.Derivable.{Derivable}
use Rattle.rc_rlang.specs.RegionFlow.{Effect, called, Edge, Node}
use Rattle.rc_annotations.specs.Annotations.{fact_with, renamed}
use Rattle.rc_facts.specs.Flow.{Facts, no_set}
use Rattle.rc_edges.specs.Reading.{read_by}

-- an effect that calls the function gives the fact to its entry, from what is known before
abbrev pub CallGives : Effect → Known → (h : ℕ) → Fact → Type 0
CallGives effect known h fact = (x : Option ℕ) (arguments : List ℕ) → effect ≡ called x h arguments → IsTrue (read_by arguments known fact)

abbrev pub NodeGives : Node → Known → (h : ℕ) → Fact → Type 0
NodeGives node known h fact = (e : ℕ) (edge : Edge) → slice_get node.edges e ≡ Some edge → CallGives edge.effect known h fact

-- each call at the points before k
abbrev pub CallsGive : List Node → List Known → (k h : ℕ) → Fact → Type 0
CallsGive nodes points k h fact = (p : ℕ) (node : Node) → p < k → slice_get nodes p ≡ Some node → NodeGives node (get_or points p no_set) h fact

-- a call is of a function whose entry speaks of as many variables as there are arguments, and these are below n
pub record Callable (h : ℕ) (arguments : List ℕ) (n : ℕ) (entries : List Known) : Type 0 where
  pub there : h < length entries
  pub places : (get_or entries h no_set).variables ≡ length arguments
  pub few : length arguments ≤ 128
  pub own : All (λ v. v < n) arguments

abbrev pub CallReady : Effect → (n : ℕ) → (entries : List Known) → Type 0
CallReady effect n entries = (x : Option ℕ) (h : ℕ) (arguments : List ℕ) → effect ≡ called x h arguments → Callable h arguments n entries

abbrev pub NodeReady : Node → (n : ℕ) → (entries : List Known) → Type 0
NodeReady node n entries = (e : ℕ) (edge : Edge) → slice_get node.edges e ≡ Some edge → CallReady edge.effect n entries

-- the result, by the scratch variable's number, is in both ways with what is returned
abbrev pub given_facts : (spare : ℕ) → Option ℕ → Facts
given_facts spare None q = false
given_facts spare (Some x) q = same_fact (In spare x) q || same_fact (In x spare) q

-- a return gives the fact to the exit, from what is known before
abbrev pub ReturnGives : Known → (copies spare : ℕ) → Option ℕ → Fact → Type 0
ReturnGives known copies spare given fact = IsTrue (is_over (suc copies) fact) × Derivable (suc spare) (λ q. holds known q || given_facts spare given q) (fact_with (renamed copies spare) fact)

abbrev pub NodeReturns : Node → Known → (copies spare : ℕ) → Fact → Type 0
NodeReturns node known copies spare fact = (given : Option ℕ) → node.returns ≡ Some given → ReturnGives known copies spare given fact

-- each return at the points before k
abbrev pub ReturnsGive : List Node → List Known → (copies spare k : ℕ) → Fact → Type 0
ReturnsGive nodes points copies spare k fact = (p : ℕ) (node : Node) → p < k → slice_get nodes p ≡ Some node → NodeReturns node (get_or points p no_set) copies spare fact

-- a return gives a variable before the scratch variable, or that one
abbrev pub ReturnReady : Node → (spare : ℕ) → Type 0
ReturnReady node spare = (x : ℕ) → node.returns ≡ Some (Some x) → x ≤ spare
