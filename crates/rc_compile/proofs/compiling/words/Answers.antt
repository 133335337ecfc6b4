use Rattle.std.proofs.Common.{subst, Err}
use Rattle.rc_lexer.specs.Lexes.{Lexes}
use Rattle.rc_compile.proofs.Found.{byte_only, token_only}
use Rattle.rc_compile.proofs.compiling.words.Goals as goal

pub returns-in-Err-Byte : goal.returns-in-Err-Byte
returns-in-Err-Byte c = (byte_only c.args.text.now c.in-Err-Byte.line (subst (λ f. Lexes c.args.text.now (Err f)) c.in-Err-Byte.field-0-is c.in-Err-Byte.ensures.answer), tt)

pub returns-in-Err-Token : goal.returns-in-Err-Token
returns-in-Err-Token c = (token_only c.args.text.now c.in-Err-Token.line (subst (λ f. Lexes c.args.text.now (Err f)) c.in-Err-Token.field-0-is c.in-Err-Token.ensures.answer), tt)
