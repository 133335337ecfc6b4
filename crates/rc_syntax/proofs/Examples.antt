-- Words that the grammar reads and refuses, by the reader.
use Rattle.std.proofs.Common.{ℕ, ◌≡◌, List, [], ◌∷◌, Some, None, false, true, refl, subst, arith}
use Rattle.std.proofs.lemmas.Fmt.{decimal_digit, decimal_step}
use Rattle.std.specs.Prelude.{codes, decimal}
use Rattle.rc_syntax.specs.declared.word.Key.TheVariants.{Else, If, Int}
use Rattle.rc_syntax.specs.declared.word.Mark.TheVariants as m
use Rattle.rc_syntax.specs.declared.tree.Spot.{Spot}
use Rattle.rc_syntax.specs.declared.tree.Name as names
use Rattle.rc_syntax.specs.declared.tree.BinaryOp.TheVariants.{Add, Subtract, Multiply}
use Rattle.rc_syntax.specs.declared.tree.UnaryOp.TheVariants.{Dereference, Minus}
use Rattle.rc_syntax.specs.declared.tree.StepOp.TheVariants.{Increment}
use Rattle.rc_syntax.specs.declared.tree.Note.TheVariants.{Plain, SameRegion}
use Rattle.rc_syntax.specs.declared.tree.Base.TheVariants as b
use Rattle.rc_syntax.specs.Tokens as w
use Rattle.rc_syntax.specs.Tokens.{Token, Word, key, mark}
use Rattle.rc_syntax.specs.Tree as t
use Rattle.rc_syntax.specs.Grammar as g
use Rattle.rc_syntax.specs.Grammar.{Placed, placed}
use Rattle.rc_syntax.specs.reader.Steps.{Answer, Accepts, Refuses, entry, run}
use Rattle.rc_syntax.specs.Place.{IsRead}
use Rattle.rc_syntax.specs.Spellings.{keys}
use Rattle.rc_syntax.specs.Words.{Words}
use Rattle.rc_syntax.specs.printing.Printing.{printed, IsName}
use Rattle.rc_syntax.specs.printing.TreeWords.{simple_words, items_words}
use Rattle.rc_syntax.proofs.NamesAndMarks.{no_key}
use Rattle.rc_syntax.proofs.Printed.{printed_words}
use Rattle.rc_syntax.proofs.PrintableTrees.{end, free, all_fit}
use Rattle.rc_syntax.proofs.Whole.{Means, means, of_expression}

-- all of these words on line 1
abbrev on_one : List Word → List Token
on_one [] = []
on_one (x ∷ xs) = record { word = x; line = 1 } ∷ on_one xs

abbrev words : List Word → List Placed
words xs = placed 0 (on_one xs)

abbrev at : ℕ → Spot
at i = record { place = i; line = 1 }

abbrev a : Word
a = w.name (97 ∷ [])

abbrev name : ℕ → names.Name
name i = record { spot = at i; text = 97 ∷ [] }

abbrev open_ : Word
open_ = mark m.OpenParenthesis

abbrev close_ : Word
close_ = mark m.CloseParenthesis

-- The `else` is the inner one's: int a ( ) { if ( a ) if ( a ) ; else ; }
nearest : run 0 (entry g.Text) (words (key Int ∷ a ∷ open_ ∷ close_ ∷ mark m.OpenBrace ∷ key If ∷ open_ ∷ a ∷ close_ ∷ key If ∷ open_ ∷ a ∷ close_ ∷ mark m.Semicolon ∷ key Else ∷ mark m.Semicolon ∷ mark m.CloseBrace ∷ []))
    ≡ Accepts (t.function (at 0) false (Some (record { base = b.Int (at 0); stars = [] })) (name 1) [] (Some (t.next (t.if_then (at 5) (t.variable (name 7)) (t.if_else (at 9) (t.variable (name 11)) (t.empty (at 13)) (t.empty (at 15)))) t.done)) ∷ []) []
nearest = refl

-- A level groups to the left, and a node in parentheses begins behind them: ( a + a ) + a
grouped : run 0 (entry (g.Level 0)) (words (open_ ∷ a ∷ mark m.Plus ∷ a ∷ close_ ∷ mark m.Plus ∷ a ∷ []))
    ≡ Accepts (t.binary (at 0) Add (t.binary (at 1) Add (t.variable (name 1)) (t.variable (name 3))) (t.variable (name 6))) []
grouped = refl

-- What is no unary takes no `=`, and that is the place: int a ( ) { a + a = a ; }
misplaced : run 0 (entry g.Text) (words (key Int ∷ a ∷ open_ ∷ close_ ∷ mark m.OpenBrace ∷ a ∷ mark m.Plus ∷ a ∷ mark m.Equal ∷ a ∷ mark m.Semicolon ∷ mark m.CloseBrace ∷ []))
    ≡ Refuses (record { word = mark m.Equal; spot = at 8 } ∷ record { word = a; spot = at 9 } ∷ record { word = mark m.Semicolon; spot = at 10 } ∷ record { word = mark m.CloseBrace; spot = at 11 } ∷ [])
misplaced = refl

-- `++` behind `* a` raises what a leads to: int a ( ) { * a ++ ; }
raised : run 0 (entry g.Text) (words (key Int ∷ a ∷ open_ ∷ close_ ∷ mark m.OpenBrace ∷ mark m.Star ∷ a ∷ mark m.PlusPlus ∷ mark m.Semicolon ∷ mark m.CloseBrace ∷ []))
    ≡ Accepts (t.function (at 0) false (Some (record { base = b.Int (at 0); stars = [] })) (name 1) [] (Some (t.next (t.simple (at 5) (t.step_after (at 5) Increment (t.unary (at 5) Dereference (t.variable (name 6))))) t.done)) ∷ []) []
raised = refl

-- So it is by the grammar.
nearest_derives : IsRead 0 (g.Level 0) (words (open_ ∷ a ∷ mark m.Plus ∷ a ∷ close_ ∷ mark m.Plus ∷ a ∷ []))
    (t.binary (at 0) Add (t.binary (at 1) Add (t.variable (name 1)) (t.variable (name 3))) (t.variable (name 6))) []
nearest_derives =
    let P : Answer (g.Level 0) → Type 0 = λ x. Means 0 (g.Level 0) (words (open_ ∷ a ∷ mark m.Plus ∷ a ∷ close_ ∷ mark m.Plus ∷ a ∷ [])) x in
    subst P grouped (means 0 (g.Level 0) of_expression (words (open_ ∷ a ∷ mark m.Plus ∷ a ∷ close_ ∷ mark m.Plus ∷ a ∷ [])))

-- Each kind of word is printed in its spelling: int a += 'a' '\'' "\\\"\n'"
spelled : printed (key Int ∷ a ∷ mark m.PlusEqual ∷ w.character 97 ∷ w.character 39 ∷ w.string (92 ∷ 34 ∷ 10 ∷ 39 ∷ []) ∷ []) ≡ codes "int a += 'a' '\\'' \"\\\\\\\"\\n'\""
spelled = refl

-- A number is in decimal, with `u` where it is unsigned: 7 42 7u
spelled_numbers : printed (w.number 7 false ∷ w.number 42 false ∷ w.number 7 true ∷ []) ≡ codes "7 42 7u"
spelled_numbers =
    let e : decimal 42 ≡ 52 ∷ 50 ∷ [] = rw (decimal_step 42 (omega arith) (omega arith), decimal_digit 4 (omega arith)) refl in
    rw (decimal_digit 7 (omega arith), e) refl

-- So the words of a printed text are these: a += '\''
a_is_name : IsName (97 ∷ [])
unfolding keys
a_is_name = record { first = 97; others = []; is = refl; letter = refl; in_names = tt; unreserved = no_key (97 ∷ []) refl }

read_back : Words (codes "a += '\\''") (on_one (a ∷ mark m.PlusEqual ∷ w.character 39 ∷ []))
read_back = printed_words (a ∷ mark m.PlusEqual ∷ w.character 39 ∷ []) (all_fit (free a_is_name (free tt (free tt end))))

-- A tree has parentheses where its levels ask for them: a = ( a + a ) * ( - a ) [ a - ( a - a ) ]
in_levels : simple_words (t.assign (at 0) (t.variable (name 0)) (t.binary (at 2) Multiply (t.binary (at 2) Add (t.variable (name 2)) (t.variable (name 4)))
    (t.index (at 6) (t.unary (at 6) Minus (t.variable (name 7))) (t.binary (at 9) Subtract (t.variable (name 9)) (t.binary (at 11) Subtract (t.variable (name 11)) (t.variable (name 13)))))))
    ≡ a ∷ mark m.Equal ∷ open_ ∷ a ∷ mark m.Plus ∷ a ∷ close_ ∷ mark m.Star ∷ open_ ∷ mark m.Minus ∷ a ∷ close_ ∷ mark m.OpenBracket ∷ a ∷ mark m.Minus ∷ open_ ∷ a ∷ mark m.Minus ∷ a ∷ close_ ∷ mark m.CloseBracket ∷ []
in_levels = refl

-- A tree is printed as a text.
function_printed : printed (items_words (t.function (at 0) true None (name 1) (record { spot = at 2; type_name = record { base = b.Int (at 2); stars = Plain ∷ SameRegion ∷ [] }; name = Some (name 3) } ∷ [])
    (Some (t.next (t.local (record { spot = at 4; type_name = record { base = b.Region (at 4); stars = [] }; name = name 5; initial = Some (t.null (at 6)) }))
    (t.next (t.while_do (at 7) (t.call (name 8) (t.more (t.variable (name 9)) (t.more (t.string (at 10) (98 ∷ [])) t.none))) (t.return_with (at 11) None)) t.done))) ∷ []))
    ≡ codes "void a ( int * * sameregion a ) deletes { region a = NULL ; while ( a ( a , \"b\" ) ) return ; }"
function_printed = refl
