-- Words as definitions speak of them: a name and a string literal are lists of bytes.
use Rattle.std.specs.Prelude.{ℕ, Bool, List}
use Rattle.rc_syntax.specs.declared.word.Key.{Key}
use Rattle.rc_syntax.specs.declared.word.Mark.{Mark}

-- a number has its value and whether it is unsigned; a character and a string have their values, escapes replaced
pub data Word : Type 0 where
  name : List ℕ → Word
  number : ℕ → Bool → Word
  character : ℕ → Word
  string : List ℕ → Word
  key : Key → Word
  mark : Mark → Word

-- a word with its line, from 1
pub record Token : Type 0 where
  pub word : Word
  pub line : ℕ
