-- What the rules say of a node: what it means, or the violations in it, of which there is at least one.
use Rattle.std.specs.Prelude.{List, [], ◌∷◌, ◌++◌, Option, Some, None, Bool, true, false, map}
use Rattle.rc_syntax.specs.declared.tree.Spot.{Spot}
use Rattle.rc_deletes.specs.declared.fault.Fault.{Fault}
use Rattle.rc_deletes.specs.declared.fault.Refusal.{Refusal}
use Rattle.rc_deletes.specs.declared.fault.Refusal.TheVariants.{Mistyped}

pub data Judged (A : Type 0) : Type 0 where
  Holds : A → Judged A
  Faulty : Fault → List Fault → Judged A

-- the violations in the order of the text
abbrev pub faults : {A : Type 0} → Judged A → List Fault
faults (Holds a) = []
faults (Faulty f fs) = f ∷ fs

abbrev pub first_fault : {A : Type 0} → Judged A → Option Fault
first_fault (Holds a) = None
first_fault (Faulty f fs) = Some f

-- a node with one part: its own rule speaks where nothing inside is wrong
abbrev pub with_part : {A B : Type 0} → Judged A → (A → Judged B) → Judged B
with_part (Holds a) rule = rule a
with_part (Faulty f fs) rule = Faulty f fs

-- a node with two parts: the violations of both, or else its own
abbrev pub with_parts : {A B C : Type 0} → Judged A → Judged B → (A → B → Judged C) → Judged C
with_parts (Holds a) y rule = with_part y (rule a)
with_parts (Faulty f fs) y rule = Faulty f (fs ++ faults y)

-- two parts side by side, of a node that has more
abbrev pub both : {A B : Type 0} → Judged A → Judged B → Judged (A × B)
both x y = with_parts x y (λ a b. Holds (a, b))

-- a leaf before a node: its violation goes before those of the node
abbrev pub in_front : {A B : Type 0} → Judged A → Judged B → Judged B
in_front (Holds a) y = y
in_front (Faulty f fs) y = Faulty f (fs ++ faults y)

-- a rule fails at a node
abbrev pub fails : {A : Type 0} → Spot → Refusal → Judged A
fails at k = Faulty (record { at = at; refusal = k }) []

-- a refusal where a rule fails
abbrev pub failing : Bool → Refusal → List Refusal
failing true k = k ∷ []
failing false k = []

-- a node whose failing rules are these, the least refusal first
abbrev pub ruled : {A : Type 0} → Spot → List Refusal → A → Judged A
ruled at [] a = Holds a
ruled at (k ∷ ks) a = Faulty (record { at = at; refusal = k }) (map (λ l. record { at = at; refusal = l }) ks)

-- a node whose types fit where there is such a meaning
abbrev pub fitting : {A : Type 0} → Spot → Option A → Judged A
fitting at None = fails at Mistyped
fitting at (Some a) = Holds a
