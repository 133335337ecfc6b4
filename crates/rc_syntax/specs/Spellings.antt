-- How reserved words and marks are spelled (ISO C 6.4.1 and 6.4.6, and RC's own words).
use Rattle.std.specs.Prelude.{ℕ, Bool, true, List, [], ◌∷◌, Option, find, codes, bytes_eq, nat_eq}
use Rattle.std.specs.List.{filter, starts_with}
use Rattle.rc_syntax.specs.declared.word.Key.{Key}
use Rattle.rc_syntax.specs.declared.word.Key.TheVariants.{Break, Char, Continue, Deletes, Do, Else, Eof, For, If, Int, Null, ParentPtr, Ralloc, RarrayAlloc, Region, Return, SameRegion, Struct, Traditional, Unsigned, Void, While, Auto, Case, Const, Default, Double, Enum, Extern, Float, Goto, Inline, Long, Register, Restrict, Short, Signed, Sizeof, Static, Switch, Typedef, Union, Volatile}
use Rattle.rc_syntax.specs.declared.word.Mark.{Mark}
use Rattle.rc_syntax.specs.declared.word.Mark.TheVariants.{OpenBrace, CloseBrace, OpenParenthesis, CloseParenthesis, OpenBracket, CloseBracket, Semicolon, Comma, Dot, Arrow, PlusPlus, MinusMinus, Ampersand, Star, Plus, Minus, Tilde, Exclamation, Slash, Percent, ShiftLeft, ShiftRight, Less, Greater, LessEqual, GreaterEqual, EqualEqual, ExclamationEqual, Caret, Bar, AmpersandAmpersand, BarBar, Question, Colon, Equal, StarEqual, SlashEqual, PercentEqual, PlusEqual, MinusEqual, ShiftLeftEqual, ShiftRightEqual, AmpersandEqual, CaretEqual, BarEqual}

abbrev pub key_spelling : Key → List ℕ
key_spelling Break = codes "break"
key_spelling Char = codes "char"
key_spelling Continue = codes "continue"
key_spelling Deletes = codes "deletes"
key_spelling Do = codes "do"
key_spelling Else = codes "else"
key_spelling Eof = codes "EOF"
key_spelling For = codes "for"
key_spelling If = codes "if"
key_spelling Int = codes "int"
key_spelling Null = codes "NULL"
key_spelling ParentPtr = codes "parentptr"
key_spelling Ralloc = codes "ralloc"
key_spelling RarrayAlloc = codes "rarrayalloc"
key_spelling Region = codes "region"
key_spelling Return = codes "return"
key_spelling SameRegion = codes "sameregion"
key_spelling Struct = codes "struct"
key_spelling Traditional = codes "traditional"
key_spelling Unsigned = codes "unsigned"
key_spelling Void = codes "void"
key_spelling While = codes "while"
key_spelling Auto = codes "auto"
key_spelling Case = codes "case"
key_spelling Const = codes "const"
key_spelling Default = codes "default"
key_spelling Double = codes "double"
key_spelling Enum = codes "enum"
key_spelling Extern = codes "extern"
key_spelling Float = codes "float"
key_spelling Goto = codes "goto"
key_spelling Inline = codes "inline"
key_spelling Long = codes "long"
key_spelling Register = codes "register"
key_spelling Restrict = codes "restrict"
key_spelling Short = codes "short"
key_spelling Signed = codes "signed"
key_spelling Sizeof = codes "sizeof"
key_spelling Static = codes "static"
key_spelling Switch = codes "switch"
key_spelling Typedef = codes "typedef"
key_spelling Union = codes "union"
key_spelling Volatile = codes "volatile"

abbrev pub mark_spelling : Mark → List ℕ
mark_spelling OpenBrace = codes "{"
mark_spelling CloseBrace = codes "}"
mark_spelling OpenParenthesis = codes "("
mark_spelling CloseParenthesis = codes ")"
mark_spelling OpenBracket = codes "["
mark_spelling CloseBracket = codes "]"
mark_spelling Semicolon = codes ";"
mark_spelling Comma = codes ","
mark_spelling Dot = codes "."
mark_spelling Arrow = codes "->"
mark_spelling PlusPlus = codes "++"
mark_spelling MinusMinus = codes "--"
mark_spelling Ampersand = codes "&"
mark_spelling Star = codes "*"
mark_spelling Plus = codes "+"
mark_spelling Minus = codes "-"
mark_spelling Tilde = codes "~"
mark_spelling Exclamation = codes "!"
mark_spelling Slash = codes "/"
mark_spelling Percent = codes "%"
mark_spelling ShiftLeft = codes "<<"
mark_spelling ShiftRight = codes ">>"
mark_spelling Less = codes "<"
mark_spelling Greater = codes ">"
mark_spelling LessEqual = codes "<="
mark_spelling GreaterEqual = codes ">="
mark_spelling EqualEqual = codes "=="
mark_spelling ExclamationEqual = codes "!="
mark_spelling Caret = codes "^"
mark_spelling Bar = codes "|"
mark_spelling AmpersandAmpersand = codes "&&"
mark_spelling BarBar = codes "||"
mark_spelling Question = codes "?"
mark_spelling Colon = codes ":"
mark_spelling Equal = codes "="
mark_spelling StarEqual = codes "*="
mark_spelling SlashEqual = codes "/="
mark_spelling PercentEqual = codes "%="
mark_spelling PlusEqual = codes "+="
mark_spelling MinusEqual = codes "-="
mark_spelling ShiftLeftEqual = codes "<<="
mark_spelling ShiftRightEqual = codes ">>="
mark_spelling AmpersandEqual = codes "&="
mark_spelling CaretEqual = codes "^="
mark_spelling BarEqual = codes "|="

-- every reserved word
unfoldable pub keys : List Key
keys = Break ∷ Char ∷ Continue ∷ Deletes ∷ Do ∷ Else ∷ Eof ∷ For ∷ If ∷ Int ∷ Null ∷ ParentPtr ∷ Ralloc ∷ RarrayAlloc ∷ Region ∷ Return ∷ SameRegion ∷ Struct ∷ Traditional ∷ Unsigned ∷ Void ∷ While ∷ Auto ∷ Case ∷ Const ∷ Default ∷ Double ∷ Enum ∷ Extern ∷ Float ∷ Goto ∷ Inline ∷ Long ∷ Register ∷ Restrict ∷ Short ∷ Signed ∷ Sizeof ∷ Static ∷ Switch ∷ Typedef ∷ Union ∷ Volatile ∷ []

-- every mark, the longer ones first
unfoldable pub marks : List Mark
marks = ShiftLeftEqual ∷ ShiftRightEqual ∷ Arrow ∷ PlusPlus ∷ MinusMinus ∷ ShiftLeft ∷ ShiftRight ∷ LessEqual ∷ GreaterEqual ∷ EqualEqual ∷ ExclamationEqual ∷ AmpersandAmpersand ∷ BarBar ∷ StarEqual ∷ SlashEqual ∷ PercentEqual ∷ PlusEqual ∷ MinusEqual ∷ AmpersandEqual ∷ CaretEqual ∷ BarEqual ∷ OpenBrace ∷ CloseBrace ∷ OpenParenthesis ∷ CloseParenthesis ∷ OpenBracket ∷ CloseBracket ∷ Semicolon ∷ Comma ∷ Dot ∷ Ampersand ∷ Star ∷ Plus ∷ Minus ∷ Tilde ∷ Exclamation ∷ Slash ∷ Percent ∷ Less ∷ Greater ∷ Caret ∷ Bar ∷ Question ∷ Colon ∷ Equal ∷ []

-- no other byte stands first
abbrev pub begins_with : ℕ → List ℕ → Bool
begins_with first [] = true
begins_with first (b ∷ bs) = nat_eq b first

abbrev pub keys_from : ℕ → List Key
keys_from first = filter (λ k. begins_with first (key_spelling k)) keys

abbrev pub marks_from : ℕ → List Mark
marks_from first = filter (λ m. begins_with first (mark_spelling m)) marks

-- the reserved word that these bytes are
abbrev pub key_named : List ℕ → Option Key
key_named bytes = find (λ k. bytes_eq (key_spelling k) bytes) keys

-- the longest mark that the text begins with
abbrev pub mark_named : List ℕ → Option Mark
mark_named text = find (λ m. starts_with nat_eq text (mark_spelling m)) marks
