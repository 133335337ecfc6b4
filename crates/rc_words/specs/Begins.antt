-- With which words statements begin.
use Rattle.std.specs.Prelude.{Option, Some, None, Bool, true, false}
use Rattle.rc_syntax.specs.declared.word.Key.TheVariants.{Null, Eof, Ralloc, RarrayAlloc, Break, Continue, Do, For, If, Return, While}
use Rattle.rc_syntax.specs.declared.word.Mark.TheVariants as m
use Rattle.rc_syntax.specs.Tokens as w
use Rattle.rc_syntax.specs.Tokens.{Word}
use Rattle.rc_words.specs.declared.begins.Head.{Head}
use Rattle.rc_words.specs.declared.begins.Head.TheVariants as h

-- How a statement begins that is more than what it does by itself.
abbrev pub head_in : Option Word → Option Head
head_in (Some (w.mark m.Semicolon)) = Some h.Empty
head_in (Some (w.mark m.OpenBrace)) = Some h.Block
head_in (Some (w.key If)) = Some h.If
head_in (Some (w.key While)) = Some h.While
head_in (Some (w.key Do)) = Some h.Do
head_in (Some (w.key For)) = Some h.For
head_in (Some (w.key Break)) = Some h.Break
head_in (Some (w.key Continue)) = Some h.Continue
head_in (Some (w.key Return)) = Some h.Return
head_in _ = None

abbrev pub first_word : Head → Word
first_word h.Empty = w.mark m.Semicolon
first_word h.Block = w.mark m.OpenBrace
first_word h.If = w.key If
first_word h.While = w.key While
first_word h.Do = w.key Do
first_word h.For = w.key For
first_word h.Break = w.key Break
first_word h.Continue = w.key Continue
first_word h.Return = w.key Return

-- A statement begins with the word, one that is no declarator.
abbrev pub begins_stmt : Option Word → Bool
begins_stmt (Some (w.name x)) = true
begins_stmt (Some (w.number i unsigned)) = true
begins_stmt (Some (w.character i)) = true
begins_stmt (Some (w.string bytes)) = true
begins_stmt (Some (w.key Null)) = true
begins_stmt (Some (w.key Eof)) = true
begins_stmt (Some (w.key Ralloc)) = true
begins_stmt (Some (w.key RarrayAlloc)) = true
begins_stmt (Some (w.key Break)) = true
begins_stmt (Some (w.key Continue)) = true
begins_stmt (Some (w.key Do)) = true
begins_stmt (Some (w.key For)) = true
begins_stmt (Some (w.key If)) = true
begins_stmt (Some (w.key Return)) = true
begins_stmt (Some (w.key While)) = true
begins_stmt (Some (w.mark m.Minus)) = true
begins_stmt (Some (w.mark m.Plus)) = true
begins_stmt (Some (w.mark m.Exclamation)) = true
begins_stmt (Some (w.mark m.Tilde)) = true
begins_stmt (Some (w.mark m.Star)) = true
begins_stmt (Some (w.mark m.Ampersand)) = true
begins_stmt (Some (w.mark m.OpenParenthesis)) = true
begins_stmt (Some (w.mark m.Semicolon)) = true
begins_stmt (Some (w.mark m.OpenBrace)) = true
begins_stmt (Some (w.mark m.PlusPlus)) = true
begins_stmt (Some (w.mark m.MinusMinus)) = true
begins_stmt _ = false
