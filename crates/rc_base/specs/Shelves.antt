-- What a shelf of named files shows, and what loading and storing do.
use Rattle.std.specs.Prelude.{◌≡◌, ◌≢◌, ◌≤◌, ◌⊎◌, ◌↔◌, ℕ, Bool, List, length, take, Option, Some, None, Result, IfOk, OnOk, IsOk, IsErrOf, IsTrue}
use Rattle.rc_base.specs.Causes.{Rose}
use Rattle.rc_base.specs.declared.outside.ShelfFault.{ShelfFault}
use Rattle.rc_base.specs.declared.outside.ShelfFault.TheVariants.{Absent, Failed, Memory}
use Rattle.rc_base.specs.declared.outside.Piece.{Piece}

-- what stands under each name
abbrev pub Names : Type 0
Names = List ℕ → Option (List ℕ)

-- whether it tells its names, what stands under them where it does, and its faults
pub record ShelfState : Type 0 where
  pub tells : Bool
  pub names : Names
  pub faults : ℕ

-- a front of a file's bytes: so many of them at most, and whether these are all
pub record IsFront (file : List ℕ) (most : ℕ) (piece : Piece) : Type 0 where
  pub bytes : piece.bytes ≡ take most file
  pub whole : IsTrue piece.whole ↔ (length file ≤ most)

-- it tells its names, and this one isn't there
pub record Lacks (shelf : ShelfState) (name : List ℕ) : Type 0 where
  pub tells : IsTrue shelf.tells
  pub none : shelf.names name ≡ None

-- a call fails only where the count rose in it, and every answer but a failure and an absent name leaves the count
pub record HasShelfCause {T : Type 0} (name : List ℕ) (before after : ShelfState) (result : Result T ShelfFault) : Type 0 where
  pub never_falls : before.faults ≤ after.faults
  pub failed : IsErrOf result Failed → Rose before.faults after.faults
  pub absent : IsErrOf result Absent → Lacks before name ⊎ Rose before.faults after.faults
  pub memory : IsErrOf result Memory → after.faults ≡ before.faults
  pub kept : IsOk result → after.faults ≡ before.faults

pub record Loads (name : List ℕ) (most : ℕ) (before after : ShelfState) (result : Result Piece ShelfFault) : Type 0 where
  pub tells : after.tells ≡ before.tells
  pub piece : IsTrue before.tells → IfOk result (λ piece. (file : List ℕ) × (before.names name ≡ Some file) × IsFront file most piece)
  pub same : IsTrue before.tells → after.names ≡ before.names
  pub cause : HasShelfCause name before after result

pub record Stores {T : Type 0} (name bytes : List ℕ) (before after : ShelfState) (result : Result T ShelfFault) : Type 0 where
  pub tells : after.tells ≡ before.tells
  pub stored : IsTrue before.tells → OnOk result (after.names name ≡ Some bytes)
  pub others : IsTrue before.tells → (other : List ℕ) → other ≢ name → after.names other ≡ before.names other
  pub not_absent : ¬ IsErrOf result Absent
  pub cause : HasShelfCause name before after result
