-- What the tree of one file keeps, so that the tree of all files keeps the limits of programs.
use Rattle.std.specs.Prelude.{ℕ, ◌≤◌, length}
use Rattle.rc_base.specs.Limits.{most_words}
use Rattle.rc_syntax.specs.Tree as t
use Rattle.rc_deletes.specs.Limits.{IsLimited, strings_of}

-- files that are one program
abbrev pub most_files : ℕ
most_files = 16

-- the limits of programs, and no more strings than a text has words
pub record IsFileLimited (tree : t.Tree) : Type 0 where
  pub limited : IsLimited tree
  pub few : length (strings_of tree) ≤ most_words
