-- What the tables of spellings have in them, word by word.
use Rattle.std.proofs.Common.{ℕ, ◌≡◌, List, [], ◌∷◌, ◌++◌, Some, Bool, true, false, ◌&&◌, refl, find}
use Rattle.std.specs.Prelude.{bytes_eq, ◌==◌}
use Rattle.std.specs.List.{list_all}
use Rattle.rc_syntax.specs.declared.word.Key.{Key}
use Rattle.rc_syntax.specs.declared.word.Key.TheVariants.{Break, Char, Continue, Deletes, Do, Else, Eof, For, If, Int, Null, ParentPtr, Ralloc, RarrayAlloc, Region, Return, SameRegion, Struct, Traditional, Unsigned, Void, While, Auto, Case, Const, Default, Double, Enum, Extern, Float, Goto, Inline, Long, Register, Restrict, Short, Signed, Sizeof, Static, Switch, Typedef, Union, Volatile}
use Rattle.rc_syntax.specs.declared.word.Mark.{Mark}
use Rattle.rc_syntax.specs.declared.word.Mark.TheVariants.{OpenBrace, CloseBrace, OpenParenthesis, CloseParenthesis, OpenBracket, CloseBracket, Semicolon, Comma, Dot, Arrow, PlusPlus, MinusMinus, Ampersand, Star, Plus, Minus, Tilde, Exclamation, Slash, Percent, ShiftLeft, ShiftRight, Less, Greater, LessEqual, GreaterEqual, EqualEqual, ExclamationEqual, Caret, Bar, AmpersandAmpersand, BarBar, Question, Colon, Equal, StarEqual, SlashEqual, PercentEqual, PlusEqual, MinusEqual, ShiftLeftEqual, ShiftRightEqual, AmpersandEqual, CaretEqual, BarEqual}
use Rattle.rc_syntax.specs.Spellings.{key_spelling, mark_spelling, keys, marks, key_named}
use Rattle.rc_syntax.specs.Bytes.{is_letter, in_name}
use Rattle.rc_syntax.specs.Words.{opens_comment}
use Rattle.rc_syntax.specs.reader.Look.{look, mark_at, slash_at}
use Rattle.rc_syntax.proofs.ByteLaws.{or_false}

-- a reserved word is found by its spelling
pub key_found : (k : Key) → key_named (key_spelling k) ≡ Some k
unfolding keys
key_found Break = refl
key_found Char = refl
key_found Continue = refl
key_found Deletes = refl
key_found Do = refl
key_found Else = refl
key_found Eof = refl
key_found For = refl
key_found If = refl
key_found Int = refl
key_found Null = refl
key_found ParentPtr = refl
key_found Ralloc = refl
key_found RarrayAlloc = refl
key_found Region = refl
key_found Return = refl
key_found SameRegion = refl
key_found Struct = refl
key_found Traditional = refl
key_found Unsigned = refl
key_found Void = refl
key_found While = refl
key_found Auto = refl
key_found Case = refl
key_found Const = refl
key_found Default = refl
key_found Double = refl
key_found Enum = refl
key_found Extern = refl
key_found Float = refl
key_found Goto = refl
key_found Inline = refl
key_found Long = refl
key_found Register = refl
key_found Restrict = refl
key_found Short = refl
key_found Signed = refl
key_found Sizeof = refl
key_found Static = refl
key_found Switch = refl
key_found Typedef = refl
key_found Union = refl
key_found Volatile = refl

-- a letter, then letters, digits and `_`
abbrev pub is_like_name : List ℕ → Bool
is_like_name [] = false
is_like_name (b ∷ bytes) = is_letter b && list_all in_name bytes

pub key_like_name : (k : Key) → is_like_name (key_spelling k) ≡ true
key_like_name Break = refl
key_like_name Char = refl
key_like_name Continue = refl
key_like_name Deletes = refl
key_like_name Do = refl
key_like_name Else = refl
key_like_name Eof = refl
key_like_name For = refl
key_like_name If = refl
key_like_name Int = refl
key_like_name Null = refl
key_like_name ParentPtr = refl
key_like_name Ralloc = refl
key_like_name RarrayAlloc = refl
key_like_name Region = refl
key_like_name Return = refl
key_like_name SameRegion = refl
key_like_name Struct = refl
key_like_name Traditional = refl
key_like_name Unsigned = refl
key_like_name Void = refl
key_like_name While = refl
key_like_name Auto = refl
key_like_name Case = refl
key_like_name Const = refl
key_like_name Default = refl
key_like_name Double = refl
key_like_name Enum = refl
key_like_name Extern = refl
key_like_name Float = refl
key_like_name Goto = refl
key_like_name Inline = refl
key_like_name Long = refl
key_like_name Register = refl
key_like_name Restrict = refl
key_like_name Short = refl
key_like_name Signed = refl
key_like_name Sizeof = refl
key_like_name Static = refl
key_like_name Switch = refl
key_like_name Typedef = refl
key_like_name Union = refl
key_like_name Volatile = refl

pub mark_found : (m : Mark) → find (λ x. bytes_eq (mark_spelling x) (mark_spelling m)) marks ≡ Some m
unfolding marks
mark_found OpenBrace = refl
mark_found CloseBrace = refl
mark_found OpenParenthesis = refl
mark_found CloseParenthesis = refl
mark_found OpenBracket = refl
mark_found CloseBracket = refl
mark_found Semicolon = refl
mark_found Comma = refl
mark_found Dot = refl
mark_found Arrow = refl
mark_found PlusPlus = refl
mark_found MinusMinus = refl
mark_found Ampersand = refl
mark_found Star = refl
mark_found Plus = refl
mark_found Minus = refl
mark_found Tilde = refl
mark_found Exclamation = refl
mark_found Slash = refl
mark_found Percent = refl
mark_found ShiftLeft = refl
mark_found ShiftRight = refl
mark_found Less = refl
mark_found Greater = refl
mark_found LessEqual = refl
mark_found GreaterEqual = refl
mark_found EqualEqual = refl
mark_found ExclamationEqual = refl
mark_found Caret = refl
mark_found Bar = refl
mark_found AmpersandAmpersand = refl
mark_found BarBar = refl
mark_found Question = refl
mark_found Colon = refl
mark_found Equal = refl
mark_found StarEqual = refl
mark_found SlashEqual = refl
mark_found PercentEqual = refl
mark_found PlusEqual = refl
mark_found MinusEqual = refl
mark_found ShiftLeftEqual = refl
mark_found ShiftRightEqual = refl
mark_found AmpersandEqual = refl
mark_found CaretEqual = refl
mark_found BarEqual = refl

slash_is_mark : (rest : List ℕ) → opens_comment (47 ∷ rest) ≡ false → slash_at 47 rest ≡ mark_at (47 ∷ rest)
slash_is_mark [] h = refl
slash_is_mark (c ∷ rest) h = let e = or_false (c == 47) (c == 42) h in let f : (c == 47) ≡ false = e.0 in let g : (c == 42) ≡ false = e.1 in rw (f, g) refl

-- at a mark that opens no comment the marks are looked through
pub look_at_mark : (before rest : List ℕ) (m : Mark) → opens_comment (mark_spelling m ++ rest) ≡ false → look before (mark_spelling m ++ rest) ≡ mark_at (mark_spelling m ++ rest)
look_at_mark before rest OpenBrace h = refl
look_at_mark before rest CloseBrace h = refl
look_at_mark before rest OpenParenthesis h = refl
look_at_mark before rest CloseParenthesis h = refl
look_at_mark before rest OpenBracket h = refl
look_at_mark before rest CloseBracket h = refl
look_at_mark before rest Semicolon h = refl
look_at_mark before rest Comma h = refl
look_at_mark before rest Dot h = refl
look_at_mark before rest Arrow h = refl
look_at_mark before rest PlusPlus h = refl
look_at_mark before rest MinusMinus h = refl
look_at_mark before rest Ampersand h = refl
look_at_mark before rest Star h = refl
look_at_mark before rest Plus h = refl
look_at_mark before rest Minus h = refl
look_at_mark before rest Tilde h = refl
look_at_mark before rest Exclamation h = refl
look_at_mark before rest Slash h = slash_is_mark rest h
look_at_mark before rest Percent h = refl
look_at_mark before rest ShiftLeft h = refl
look_at_mark before rest ShiftRight h = refl
look_at_mark before rest Less h = refl
look_at_mark before rest Greater h = refl
look_at_mark before rest LessEqual h = refl
look_at_mark before rest GreaterEqual h = refl
look_at_mark before rest EqualEqual h = refl
look_at_mark before rest ExclamationEqual h = refl
look_at_mark before rest Caret h = refl
look_at_mark before rest Bar h = refl
look_at_mark before rest AmpersandAmpersand h = refl
look_at_mark before rest BarBar h = refl
look_at_mark before rest Question h = refl
look_at_mark before rest Colon h = refl
look_at_mark before rest Equal h = refl
look_at_mark before rest StarEqual h = refl
look_at_mark before rest SlashEqual h = refl
look_at_mark before rest PercentEqual h = refl
look_at_mark before rest PlusEqual h = refl
look_at_mark before rest MinusEqual h = refl
look_at_mark before rest ShiftLeftEqual h = refl
look_at_mark before rest ShiftRightEqual h = refl
look_at_mark before rest AmpersandEqual h = refl
look_at_mark before rest CaretEqual h = refl
look_at_mark before rest BarEqual h = refl

-- the first byte of a mark is a mark
pub mark_head : (m : Mark) → (head : Mark) × ((b : ℕ) (bytes : List ℕ) → mark_spelling m ≡ b ∷ bytes → mark_spelling head ≡ b ∷ [])
mark_head OpenBrace = (OpenBrace, λ b bytes e. (cc))
mark_head CloseBrace = (CloseBrace, λ b bytes e. (cc))
mark_head OpenParenthesis = (OpenParenthesis, λ b bytes e. (cc))
mark_head CloseParenthesis = (CloseParenthesis, λ b bytes e. (cc))
mark_head OpenBracket = (OpenBracket, λ b bytes e. (cc))
mark_head CloseBracket = (CloseBracket, λ b bytes e. (cc))
mark_head Semicolon = (Semicolon, λ b bytes e. (cc))
mark_head Comma = (Comma, λ b bytes e. (cc))
mark_head Dot = (Dot, λ b bytes e. (cc))
mark_head Arrow = (Minus, λ b bytes e. (cc))
mark_head PlusPlus = (Plus, λ b bytes e. (cc))
mark_head MinusMinus = (Minus, λ b bytes e. (cc))
mark_head Ampersand = (Ampersand, λ b bytes e. (cc))
mark_head Star = (Star, λ b bytes e. (cc))
mark_head Plus = (Plus, λ b bytes e. (cc))
mark_head Minus = (Minus, λ b bytes e. (cc))
mark_head Tilde = (Tilde, λ b bytes e. (cc))
mark_head Exclamation = (Exclamation, λ b bytes e. (cc))
mark_head Slash = (Slash, λ b bytes e. (cc))
mark_head Percent = (Percent, λ b bytes e. (cc))
mark_head ShiftLeft = (Less, λ b bytes e. (cc))
mark_head ShiftRight = (Greater, λ b bytes e. (cc))
mark_head Less = (Less, λ b bytes e. (cc))
mark_head Greater = (Greater, λ b bytes e. (cc))
mark_head LessEqual = (Less, λ b bytes e. (cc))
mark_head GreaterEqual = (Greater, λ b bytes e. (cc))
mark_head EqualEqual = (Equal, λ b bytes e. (cc))
mark_head ExclamationEqual = (Exclamation, λ b bytes e. (cc))
mark_head Caret = (Caret, λ b bytes e. (cc))
mark_head Bar = (Bar, λ b bytes e. (cc))
mark_head AmpersandAmpersand = (Ampersand, λ b bytes e. (cc))
mark_head BarBar = (Bar, λ b bytes e. (cc))
mark_head Question = (Question, λ b bytes e. (cc))
mark_head Colon = (Colon, λ b bytes e. (cc))
mark_head Equal = (Equal, λ b bytes e. (cc))
mark_head StarEqual = (Star, λ b bytes e. (cc))
mark_head SlashEqual = (Slash, λ b bytes e. (cc))
mark_head PercentEqual = (Percent, λ b bytes e. (cc))
mark_head PlusEqual = (Plus, λ b bytes e. (cc))
mark_head MinusEqual = (Minus, λ b bytes e. (cc))
mark_head ShiftLeftEqual = (Less, λ b bytes e. (cc))
mark_head ShiftRightEqual = (Greater, λ b bytes e. (cc))
mark_head AmpersandEqual = (Ampersand, λ b bytes e. (cc))
mark_head CaretEqual = (Caret, λ b bytes e. (cc))
mark_head BarEqual = (Bar, λ b bytes e. (cc))

pub mark_some : (m : Mark) → (b : ℕ) × (bytes : List ℕ) × (mark_spelling m ≡ b ∷ bytes)
mark_some OpenBrace = (123, [], refl)
mark_some CloseBrace = (125, [], refl)
mark_some OpenParenthesis = (40, [], refl)
mark_some CloseParenthesis = (41, [], refl)
mark_some OpenBracket = (91, [], refl)
mark_some CloseBracket = (93, [], refl)
mark_some Semicolon = (59, [], refl)
mark_some Comma = (44, [], refl)
mark_some Dot = (46, [], refl)
mark_some Arrow = (45, 62 ∷ [], refl)
mark_some PlusPlus = (43, 43 ∷ [], refl)
mark_some MinusMinus = (45, 45 ∷ [], refl)
mark_some Ampersand = (38, [], refl)
mark_some Star = (42, [], refl)
mark_some Plus = (43, [], refl)
mark_some Minus = (45, [], refl)
mark_some Tilde = (126, [], refl)
mark_some Exclamation = (33, [], refl)
mark_some Slash = (47, [], refl)
mark_some Percent = (37, [], refl)
mark_some ShiftLeft = (60, 60 ∷ [], refl)
mark_some ShiftRight = (62, 62 ∷ [], refl)
mark_some Less = (60, [], refl)
mark_some Greater = (62, [], refl)
mark_some LessEqual = (60, 61 ∷ [], refl)
mark_some GreaterEqual = (62, 61 ∷ [], refl)
mark_some EqualEqual = (61, 61 ∷ [], refl)
mark_some ExclamationEqual = (33, 61 ∷ [], refl)
mark_some Caret = (94, [], refl)
mark_some Bar = (124, [], refl)
mark_some AmpersandAmpersand = (38, 38 ∷ [], refl)
mark_some BarBar = (124, 124 ∷ [], refl)
mark_some Question = (63, [], refl)
mark_some Colon = (58, [], refl)
mark_some Equal = (61, [], refl)
mark_some StarEqual = (42, 61 ∷ [], refl)
mark_some SlashEqual = (47, 61 ∷ [], refl)
mark_some PercentEqual = (37, 61 ∷ [], refl)
mark_some PlusEqual = (43, 61 ∷ [], refl)
mark_some MinusEqual = (45, 61 ∷ [], refl)
mark_some ShiftLeftEqual = (60, 60 ∷ 61 ∷ [], refl)
mark_some ShiftRightEqual = (62, 62 ∷ 61 ∷ [], refl)
mark_some AmpersandEqual = (38, 61 ∷ [], refl)
mark_some CaretEqual = (94, 61 ∷ [], refl)
mark_some BarEqual = (124, 61 ∷ [], refl)
