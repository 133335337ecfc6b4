-- The sets of all functions, and the proofs that they are.
use Rattle.std.specs.Prelude.{◌≡◌, ℕ, suc, ◌+◌, ◌<◌, ◌≤◌, Bool, false, IsTrue, MatchBool, List, [], length, get_or, slice_get, map, Some}
use Rattle.std.specs.List.{All, sum_by}
use Rattle.std.specs.declared.vec.Vec.{Vec}
use Rattle.std.specs.declared.alloc.Global.{Global}
use Rattle.rc_facts.specs.declared.fact.Fact.{Fact}
use Rattle.rc_facts.specs.Facts.{Known, is_over}
use Rattle.rc_annotations.specs.Annotations.{Annotation}
use Rattle.rc_annotations.specs.Laws.{Inside}
use Rattle.rc_facts.specs.Flow.{facts_in, no_set, set_at}
use Rattle.rc_code.specs.Running.{Reading, function_at}
use Rattle.rc_greatest_proofs.specs.Marks.{ProvedBare}
use Rattle.rc_prove_parts.specs.declared.route.Route.{Route}
use Rattle.rc_prove.specs.Sets.{Sets, framed, ProveFunction, FewerFacts}
use Rattle.rc_prove.specs.Visiting.{IsFrame, PlaceFits, SpotFits, SameShape}
use Rattle.rc_prove.specs.Lowering.{Looks, Lessens}

pub record Family : Type 0 where
  pub entries : List Known
  pub exits : List Known
  pub frames : List (List Known)

abbrev pub items_of : Vec Known Global → List Known
items_of sets = sets.items

abbrev pub family_of : (entries exits : List Known) → List (Vec Known Global) → Family
family_of entries exits frames = record { entries = entries; exits = exits; frames = map items_of frames }

-- those of one function
abbrev pub sets_at : Family → ℕ → Sets
sets_at m g = record { entries = m.entries; exits = m.exits; frames = get_or m.frames g [] }

abbrev pub facts_of : Family → ℕ
facts_of m = facts_in m.entries + (facts_in m.exits + sum_by facts_in m.frames)

-- what they claim
abbrev pub claimed : Reading → Family → Annotation
claimed image m = record { before = λ g at. framed (function_at image g) (get_or m.frames g []) at; entry = λ h. set_at m.entries h; exit = λ h. set_at m.exits h }

-- ---- routes

-- the way through a function suits the sets
pub record RouteFits (route : Route) (m : Family) : Type 0 where
  pub place : PlaceFits route.place (sets_at m route.place.function)
  pub spots : All (SpotFits route.place (sets_at m route.place.function)) route.spots.items
  pub there : route.place.function < length m.entries
  pub frames : route.place.function < length m.frames
  pub entry : (get_or m.entries route.place.function no_set).variables ≡ route.place.copies
  pub room : route.place.copies + route.place.copies ≤ route.place.result
  pub over : (fact : Fact) → IsTrue (set_at m.entries route.place.function fact) → IsTrue (is_over route.place.copies fact)
  pub first : IsFrame (sets_at m route.place.function) (suc (suc route.place.result)) route.first

-- it is that of a function of the image
abbrev pub IsRoute : Reading → Family → Route → Type 0
IsRoute image m route = Looks image route.place route.spots.items route.first (sets_at m route.place.function)

-- proofs that prove each function to which a way is given, but for its checks
abbrev pub ProveAll : Reading → List Route → Annotation → Type 0
ProveAll image routes proofs = All (λ (route : Route). ProveFunction image proofs route.place.function) routes

-- ---- what a round does

-- the sets of one function were lowered, and those of the entries and exits
pub record LessenedAt (route : Route) (old new : Family) (lost : Bool) : Type 0 where
  pub lessens : Lessens route.place (λ image. IsRoute image old route) (sets_at old route.place.function) (sets_at new route.place.function) lost
  pub others : (k : ℕ) → (k ≡ route.place.function → ⊥) → get_or new.frames k [] ≡ get_or old.frames k []
  pub long : length new.frames ≡ length old.frames
  pub shrinks : MatchBool lost (facts_of new < facts_of old) (new ≡ old)

-- and where none lost a fact, their own facts prove the function
pub record LoweredAt (route : Route) (old new : Family) (lost : Bool) : Type 0 where
  pub lessened : LessenedAt route old new lost
  pub proved : (image : Reading) → IsRoute image old route → lost ≡ false → (at : ℕ) → at < length (function_at image route.place.function).code → ProvedBare image (claimed image old) route.place.function at

-- as many sets, on as many variables, and no facts but those that they had
pub record FewerAll (old new : Family) : Type 0 where
  pub long : length new.frames ≡ length old.frames
  pub shape : (k : ℕ) → SameShape (sets_at old k) (sets_at new k)
  pub facts : (k : ℕ) → FewerFacts (sets_at old k) (sets_at new k)

-- no facts were lost of proofs that prove all functions
pub record Lessened (routes : List Route) (old new : Family) : Type 0 where
  pub fewer : FewerAll old new
  pub keeps : (image : Reading) → All (IsRoute image old) routes → (proofs : Annotation) → ProveAll image routes proofs → Inside proofs (claimed image old) → Inside proofs (claimed image new)

-- and the sets of the functions of the first routes were lowered; where none lost a fact, their own facts prove these functions
pub record Rounded (routes : List Route) (k : ℕ) (old new : Family) (lost : Bool) : Type 0 where
  pub lessened : Lessened routes old new
  pub shrinks : MatchBool lost (facts_of new < facts_of old) (new ≡ old)
  pub proved : (image : Reading) → All (IsRoute image old) routes → lost ≡ false → (j : ℕ) (route : Route) → j < k → slice_get routes j ≡ Some route → (at : ℕ) → at < length (function_at image route.place.function).code → ProvedBare image (claimed image old) route.place.function at

-- ---- what a search finds

-- sets that prove every function of the routes, but for the checks
pub record Found (routes : List Route) (old new : Family) : Type 0 where
  pub lessened : Lessened routes old new
  pub proved : (image : Reading) → All (IsRoute image old) routes → (j : ℕ) (route : Route) → j < length routes → slice_get routes j ≡ Some route → (at : ℕ) → at < length (function_at image route.place.function).code → ProvedBare image (claimed image new) route.place.function at
