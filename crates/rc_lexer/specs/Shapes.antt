-- What definitions see of the lexer's own types.
use Rattle.std.specs.Prelude.{ℕ, Option, Some, None, Bool}
use Rattle.rc_syntax.specs.declared.word.Word.{Word as CodeWord}
use Rattle.rc_syntax.specs.Tokens.{Word}
use Rattle.rc_syntax.specs.WordShapes.{word_of}
use Rattle.rc_syntax.specs.Bytes.{is_margin, is_octal, is_hexadecimal, in_name, in_line}
use Rattle.rc_syntax.specs.reader.Look as look
use Rattle.rc_lexer.specs.declared.class.Class.{Class}
use Rattle.rc_lexer.specs.declared.class.Class.TheVariants.{Blank, Letter, Digit, Quote, DoubleQuote, Slash, Hash, Other}
use Rattle.rc_lexer.specs.declared.byte_set.ByteSet.{ByteSet}
use Rattle.rc_lexer.specs.declared.byte_set.ByteSet.TheVariants.{Name, Line, Margin, Octal, Hexadecimal}

abbrev pub class_shape : Class → look.Class
class_shape Blank = look.blank
class_shape Letter = look.letter
class_shape Digit = look.digit
class_shape Quote = look.quote
class_shape DoubleQuote = look.double_quote
class_shape Slash = look.slash
class_shape Hash = look.hash
class_shape Other = look.other

abbrev pub passes : ByteSet → ℕ → Bool
passes Name = in_name
passes Line = in_line
passes Margin = is_margin
passes Octal = is_octal
passes Hexadecimal = is_hexadecimal

abbrev pub word_in : Option CodeWord → Option Word
word_in None = None
word_in (Some w) = Some (word_of w)
