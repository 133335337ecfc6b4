-- The first of several faults.
use Rattle.std.specs.Prelude.{List, [], ◌∷◌, Option, Some, None, Result, Ok, Err}

abbrev pub first : {A : Type 0} → List A → Option A
first [] = None
first (x ∷ xs) = Some x

-- a walk ends well where there is no fault, and with the first one otherwise
abbrev pub clear : {A : Type 0} → List A → Result (Unit {0}) A
clear [] = Ok tt
clear (x ∷ xs) = Err x

-- one walk and then another
abbrev pub and_then : {A : Type 0} → Result (Unit {0}) A → Result (Unit {0}) A → Result (Unit {0}) A
and_then (Ok u) y = y
and_then (Err x) y = Err x
