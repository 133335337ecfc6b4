-- A line as it is put together: a text, and up to two numbers with the text behind each.
use Rattle.std.specs.Prelude.{ℕ, Bool, true, false, List, [], ◌++◌, Option, Some, None}
use Rattle.std.specs.Fmt.{decimal}
use Rattle.rc_answers.specs.declared.numbered.Numbered.{Numbered}

abbrev pub numbered : Numbered → List ℕ
numbered n = decimal n.number ++ n.text.now

abbrev pub all_numbered : List ℕ → Option Numbered → Option Numbered → List ℕ
all_numbered text None second = text
all_numbered text (Some n) None = text ++ numbered n
all_numbered text (Some n) (Some m) = text ++ numbered n ++ numbered m

-- a line with a number begins with a text
abbrev pub begins_with_text : List ℕ → Option Numbered → Bool
begins_with_text [] (Some n) = false
begins_with_text _ _ = true
