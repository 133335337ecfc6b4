-- The words of the three lines.
use Rattle.rc_task_trees.proofs.Common.{codes, Unsigned, Void, Deletes, Char, If, Int, While, Return, Word, name, number, character, string, key, mark, Token, digit, occurs, task_name}
use Rattle.std.specs.Prelude.{ℕ, suc, Bool, true, false, List, [], ◌∷◌, ◌++◌, length, map}
use Rattle.rc_syntax.specs.declared.word.Mark.TheVariants as m

abbrev pub on : ℕ → List Word → List Token
on line [] = []
on line (w ∷ words) = record { word = w; line = line } ∷ on line words

-- unsigned rc_at ;
abbrev pub counter_words : List Word
counter_words = key Unsigned ∷ name (codes "rc_at") ∷ mark m.Semicolon ∷ []

-- void yield ( void ) deletes { char * s =
abbrev pub yield_start : List Word
yield_start = key Void ∷ name (codes "yield") ∷ mark m.OpenParenthesis ∷ key Void ∷ mark m.CloseParenthesis ∷ key Deletes ∷ mark m.OpenBrace ∷ key Char ∷ mark m.Star ∷ name (codes "s") ∷ mark m.Equal ∷ []

-- ; char c ; if ( rc_at <
abbrev pub yield_middle : List Word
yield_middle = mark m.Semicolon ∷ key Char ∷ name (codes "c") ∷ mark m.Semicolon ∷ key If ∷ mark m.OpenParenthesis ∷ name (codes "rc_at") ∷ mark m.Less ∷ []

-- ) { c = s [ rc_at ] ; rc_at ++ ;
abbrev pub yield_more : List Word
yield_more = mark m.CloseParenthesis ∷ mark m.OpenBrace ∷ name (codes "c") ∷ mark m.Equal ∷ name (codes "s") ∷ mark m.OpenBracket ∷ name (codes "rc_at") ∷ mark m.CloseBracket ∷ mark m.Semicolon ∷ name (codes "rc_at") ∷ mark m.PlusPlus ∷ mark m.Semicolon ∷ []

-- if ( c == 'd' ) task_d ( ) ;
abbrev pub task_words : ℕ → List Word
task_words d = key If ∷ mark m.OpenParenthesis ∷ name (codes "c") ∷ mark m.EqualEqual ∷ character (digit d) ∷ mark m.CloseParenthesis ∷ name (task_name d) ∷ mark m.OpenParenthesis ∷ mark m.CloseParenthesis ∷ mark m.Semicolon ∷ []

-- } }
abbrev pub yield_end : List Word
yield_end = mark m.CloseBrace ∷ mark m.CloseBrace ∷ []

-- int main ( void ) deletes { start ( ) ; while ( rc_at <
abbrev pub main_start : List Word
main_start = key Int ∷ name (codes "main") ∷ mark m.OpenParenthesis ∷ key Void ∷ mark m.CloseParenthesis ∷ key Deletes ∷ mark m.OpenBrace ∷ name (codes "start") ∷ mark m.OpenParenthesis ∷ mark m.CloseParenthesis ∷ mark m.Semicolon ∷ key While ∷ mark m.OpenParenthesis ∷ name (codes "rc_at") ∷ mark m.Less ∷ []

-- ) yield ( ) ; return 0 ; }
abbrev pub main_end : List Word
main_end = mark m.CloseParenthesis ∷ name (codes "yield") ∷ mark m.OpenParenthesis ∷ mark m.CloseParenthesis ∷ mark m.Semicolon ∷ key Return ∷ number 0 false ∷ mark m.Semicolon ∷ mark m.CloseBrace ∷ []

abbrev pub every_task : List ℕ
every_task = 0 ∷ 1 ∷ 2 ∷ 3 ∷ 4 ∷ 5 ∷ 6 ∷ 7 ∷ 8 ∷ 9 ∷ []

abbrev pub chosen : Bool → List Token → List Token
chosen true ts = ts
chosen false ts = []

module _ (choices : List ℕ) where
  abbrev pub calls_tokens : ℕ → List ℕ → List Token
  calls_tokens line [] = []
  calls_tokens line (d ∷ ds) = chosen (occurs d choices) (on line (task_words d)) ++ calls_tokens line ds

  abbrev pub count_token : ℕ → Token
  count_token line = record { word = number (length choices) false; line = line }

  abbrev pub choices_token : ℕ → Token
  choices_token line = record { word = string (map digit choices); line = line }

  abbrev pub main_tokens : ℕ → List Token
  main_tokens line = on line main_start ++ (count_token line ∷ on line main_end)

  abbrev pub yield_tokens : ℕ → List Token
  yield_tokens line = on line yield_start ++ (choices_token line ∷ (on line yield_middle ++ (count_token line ∷ (on line yield_more ++ (calls_tokens line every_task ++ on line yield_end)))))

  abbrev pub own_tokens : ℕ → List Token
  own_tokens line = on line counter_words ++ (yield_tokens (suc line) ++ main_tokens (suc (suc line)))
