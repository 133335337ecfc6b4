-- What definitions see of the pieces that the code finds.
use Rattle.std.specs.Prelude.{ℕ, List, Option, Some, None}
use Rattle.rc_syntax.specs.reader.Look as look
use Rattle.rc_lexer.specs.declared.literal.Body.{Body}
use Rattle.rc_lexer.specs.declared.piece.Piece.{Piece}
use Rattle.rc_lexer.specs.declared.fault.LexFault.{LexFault}
use Rattle.rc_lexer.specs.declared.fault.LexFault.TheVariants.{Byte, Token}
use Rattle.rc_lexer.specs.Shapes.{word_in}

abbrev pub body_in : Option Body → Option (ℕ × List ℕ)
body_in None = None
body_in (Some body) = Some (body.length, body.values.items)

abbrev pub piece_in : Option Piece → Option look.Seen
piece_in None = None
piece_in (Some piece) = Some (piece.length, word_in piece.word)

-- the refusal where no piece begins with a byte of the class
abbrev pub fault_of : look.Class → ℕ → LexFault
fault_of look.digit line = Token line
fault_of look.quote line = Token line
fault_of look.double_quote line = Token line
fault_of look.slash line = Token line
fault_of look.blank line = Byte line
fault_of look.letter line = Byte line
fault_of look.hash line = Byte line
fault_of look.other line = Byte line
