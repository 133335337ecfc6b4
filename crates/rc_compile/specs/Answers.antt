-- The one program of a text, or its one refusal.
use Rattle.std.specs.Prelude.{◌≡◌, ℕ, List}
use Rattle.rc_syntax.specs.Tree.{Tree}
use Rattle.rc_core.specs.Programs.{Program}
use Rattle.rc_compile.specs.Acceptance.{Accepted, HasTree, Refused}
use Rattle.rc_compile.specs.declared.refusal.Refusal.{Refusal}

-- it has this tree and no other
pub record IsOnlyTree (text : List ℕ) (tree : Tree) : Type 0 where
  pub is_tree : HasTree text tree
  pub only : (other : Tree) → HasTree text other → other ≡ tree

-- it is this program and no other, and nothing refuses it
pub record IsOnlyProgram (text : List ℕ) (program : Program) : Type 0 where
  pub accepted : Accepted text program
  pub only : (other : Program) → Accepted text other → other ≡ program
  pub not_refused : (refusal : Refusal) → ¬ Refused text refusal

-- it is refused so and not otherwise, and is no program
pub record IsOnlyRefusal (text : List ℕ) (refusal : Refusal) : Type 0 where
  pub refused : Refused text refusal
  pub only : (other : Refusal) → Refused text other → other ≡ refusal
  pub not_accepted : (program : Program) → ¬ Accepted text program
