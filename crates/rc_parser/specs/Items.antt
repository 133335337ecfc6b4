-- What code that reads items and their parts answers, and what is left to read after some of their words.
use Rattle.std.specs.Prelude.{ℕ, ◌≡◌, ◌+◌, List, [], ◌∷◌, Option, Some, None, Result, Ok, Err, Bool, true, false}
use Rattle.rc_syntax.specs.declared.fault.ParseFault.{ParseFault}
use Rattle.rc_syntax.specs.declared.fault.ParseFault.TheVariants.{Syntax, Deep, Memory}
use Rattle.rc_syntax.specs.declared.word.Token.{Token as CodeToken}
use Rattle.rc_syntax.specs.declared.word.Key.TheVariants.{Null, Eof, Struct, Deletes, Void, Int, Unsigned, Char, Region}
use Rattle.rc_syntax.specs.declared.tree.Name.{Name}
use Rattle.rc_syntax.specs.declared.tree.Note.{Note}
use Rattle.rc_syntax.specs.declared.tree.Spot.{Spot}
use Rattle.rc_syntax.specs.declared.tree.Constant.{Constant}
use Rattle.rc_syntax.specs.declared.tree.Constant.TheVariants as c
use Rattle.rc_syntax.specs.Tokens as w
use Rattle.rc_syntax.specs.Tokens.{Word}
use Rattle.rc_syntax.specs.Grammar as g
use Rattle.rc_syntax.specs.reader.Todo.{Todo, build, resume}
use Rattle.rc_syntax.specs.reader.Reading.{initialised, field_named}
use Rattle.rc_words.specs.Words.{line_of, word_at, Stands}
use Rattle.rc_parser.specs.declared.parts.Numeral.{Numeral}

abbrev pub is_number : Option Word → Bool
is_number (Some (w.number i unsigned)) = true
is_number _ = false

-- What a function that takes a number answers: the number where it stands, and the place after it.
abbrev pub IsNumber : List CodeToken → ℕ → Result (Numeral × ℕ) ParseFault → Type 0
IsNumber tokens i (Ok r) = Stands tokens i (w.number r.0.value r.0.unsigned) × (r.1 ≡ i + 1)
IsNumber tokens i (Err (Syntax line)) = (is_number (word_at tokens i) ≡ false) × (line ≡ line_of tokens i)
IsNumber tokens i (Err (Deep line)) = ⊥
IsNumber tokens i (Err Memory) = ⊥

-- What is left of a declarator of a global, and of declarators of globals, after the stars and the name of the first.
abbrev pub declarator_rest : Spot → List Note → Name → Todo g.Dec
declarator_rest sp ns x = resume sp 0 g.FieldDec initialised (field_named sp ns x)

abbrev pub dec_rest : Spot → List Note → Name → Todo g.Decs
dec_rest sp ns x = resume sp 0 g.Dec (λ d. build (d ∷ [])) (declarator_rest sp ns x)

-- The constant that a word is by itself.
abbrev pub constant_of : Spot → Word → Option Constant
constant_of sp (w.number i unsigned) = Some (c.Number sp i unsigned)
constant_of sp (w.character i) = Some (c.Character sp i)
constant_of sp (w.key Null) = Some (c.Null sp)
constant_of sp (w.key Eof) = Some (c.Eof sp)
constant_of sp _ = None

-- An item begins with the word.
abbrev pub begins_item : Option Word → Bool
begins_item (Some (w.key Struct)) = true
begins_item (Some (w.key Deletes)) = true
begins_item (Some (w.key Void)) = true
begins_item (Some (w.key Int)) = true
begins_item (Some (w.key Unsigned)) = true
begins_item (Some (w.key Char)) = true
begins_item (Some (w.key Region)) = true
begins_item _ = false
