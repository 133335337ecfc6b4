-- What definitions see of the words of the code.
use Rattle.std.specs.Prelude.{List, [], ◌∷◌}
use Rattle.rc_syntax.specs.declared.word.Word.{Word as CodeWord}
use Rattle.rc_syntax.specs.declared.word.Word.TheVariants.{Name, Number, Character, Str, Key, Mark}
use Rattle.rc_syntax.specs.declared.word.Token.{Token as CodeToken}
use Rattle.rc_syntax.specs.Tokens.{Word, name, number, character, string, key, mark, Token}

abbrev pub word_of : CodeWord → Word
word_of (Name bytes) = name bytes
word_of (Number value unsigned) = number value unsigned
word_of (Character value) = character value
word_of (Str values) = string values
word_of (Key k) = key k
word_of (Mark m) = mark m

abbrev pub token_of : CodeToken → Token
token_of t = record { word = word_of t.word; line = t.line }

abbrev pub tokens_of : List CodeToken → List Token
tokens_of [] = []
tokens_of (t ∷ tokens) = token_of t ∷ tokens_of tokens
