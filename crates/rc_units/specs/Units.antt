-- What a file keeps that is to be linked.
use Rattle.std.specs.Prelude.{ℕ}
use Rattle.rc_syntax.specs.Tree as t
use Rattle.rc_core.specs.Programs.{Program}
use Rattle.rc_deletes.specs.Answer.{IsProgramOf}
use Rattle.rc_linking.specs.Limits.{IsFileLimited}
use Rattle.rc_linking.specs.Stubs.{IsUnit, stubbed}

-- nothing refuses it by itself, and it keeps the limits of a file
pub record IsLinkable (tree : t.Tree) : Type 0 where
  pub unit : IsUnit tree
  pub limited : IsFileLimited tree

-- it has a program with its stubs, which stand on this line
abbrev pub HasProgramOn : (line : ℕ) → t.Tree → Type 0
HasProgramOn line tree = (program : Program) × IsProgramOf (stubbed line tree) program
