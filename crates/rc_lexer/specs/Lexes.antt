-- What the lexer answers.
use Rattle.std.specs.Prelude.{ℕ, ◌≡◌, ◌<◌, ◌≤◌, List, length, Result, Ok, Err, ◌⊎◌, Vec}
use Rattle.std.specs.declared.alloc.Global.{Global}
use Rattle.rc_base.specs.Limits.{most_text_bytes}
use Rattle.rc_syntax.specs.declared.word.Token.{Token as CodeToken}
use Rattle.rc_syntax.specs.Tokens.{Token}
use Rattle.rc_syntax.specs.WordShapes.{tokens_of}
use Rattle.rc_syntax.specs.Words.{Words, UnreadByte, UnreadToken}
use Rattle.rc_lexer.specs.declared.fault.LexFault.{LexFault}
use Rattle.rc_lexer.specs.declared.fault.LexFault.TheVariants.{TooLong, Byte, Token as TokenFault, Memory}

abbrev pub Answer : Type 0
Answer = Result (Vec CodeToken Global) LexFault

-- words are those of the text, and a refusal has its reason; want of memory has none but that the text is not too long
abbrev pub Lexes : List ℕ → Answer → Type 0
Lexes text (Ok tokens) = (length text ≤ most_text_bytes) × Words text (tokens_of tokens.items)
Lexes text (Err TooLong) = most_text_bytes < length text
Lexes text (Err (Byte line)) = (length text ≤ most_text_bytes) × UnreadByte text line
Lexes text (Err (TokenFault line)) = (length text ≤ most_text_bytes) × UnreadToken text line
Lexes text (Err Memory) = length text ≤ most_text_bytes

-- these words, or want of memory
abbrev pub GivesWords : List Token → Answer → Type 0
GivesWords tokens (Ok found) = tokens_of found.items ≡ tokens
GivesWords tokens (Err fault) = fault ≡ Memory

-- this refusal, or want of memory
abbrev pub Refuses : LexFault → Answer → Type 0
Refuses refusal (Ok found) = ⊥
Refuses refusal (Err fault) = (fault ≡ refusal) ⊎ (fault ≡ Memory)
