-- Maps of what is listed at deleting points. The points increase, so each has one list, and each list increases.
use Rattle.std.specs.Prelude.{◌≡◌, ◌<◌, ◌≤◌, ℕ, suc, Bool, true, false, nat_eq, List, [], ◌∷◌, ◌++◌, map, Option, Some, None}
use Rattle.std.specs.List.{AllByRecursion as Every}
use Rattle.rc_rlang.specs.declared.live_map.Held.{Held as CodeHeld}
use Rattle.rc_rlang.specs.LiveLists.{Held}

abbrev pub held_of : CodeHeld → Held
held_of h = record { point = h.point; locals = h.locals.items }

-- each number is below the next, and none is below the first of all
abbrev pub Increases : (from : ℕ) → List ℕ → Type 0
Increases from [] = Unit {0}
Increases from (x ∷ xs) = (from ≤ x) × Increases (suc x) xs

abbrev pub IsIncreasing : List ℕ → Type 0
IsIncreasing xs = Increases 0 xs

abbrev pub point_in : Held → ℕ
point_in h = h.point

pub record IsMap (lists : List Held) : Type 0 where
  pub points : IsIncreasing (map point_in lists)
  pub locals : Every (λ h. IsIncreasing h.locals) lists

-- the list of a point
abbrev pub chosen_list : Bool → List ℕ → Option (List ℕ) → Option (List ℕ)
chosen_list true locals other = Some locals
chosen_list false locals other = other

abbrev pub list_at : List Held → (point : ℕ) → Option (List ℕ)
list_at [] point = None
list_at (h ∷ hs) point = chosen_list (nat_eq h.point point) h.locals (list_at hs point)

-- it is a point of the map
pub record IsPoint (lists : List Held) (point : ℕ) : Type 0 where
  pub locals : List ℕ
  pub there : list_at lists point ≡ Some locals

-- the local is greater than all that are listed at the point
pub record IsGreater (lists : List Held) (point local : ℕ) : Type 0 where
  pub locals : List ℕ
  pub there : list_at lists point ≡ Some locals
  pub above : Every (λ x. x < local) locals

-- with a local more at a point
abbrev pub added_if : Bool → (local : ℕ) → List ℕ → List ℕ
added_if true local locals = locals ++ local ∷ []
added_if false local locals = locals

abbrev pub added_at : (point local : ℕ) → Held → Held
added_at point local h = record { point = h.point; locals = added_if (nat_eq h.point point) local h.locals }

abbrev pub with_listed : (point local : ℕ) → List Held → List Held
with_listed point local lists = map (added_at point local) lists

-- nothing is listed at these points
abbrev pub empty_list : ℕ → Held
empty_list p = record { point = p; locals = [] }

abbrev pub empty_lists : List ℕ → List Held
empty_lists points = map empty_list points
