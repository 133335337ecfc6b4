use Rattle.std.proofs.Common.{find, ap, ◌∙◌}
use Rattle.std.specs.Prelude.{bytes_eq}
use Rattle.rc_syntax.specs.Spellings.{key_spelling}
use Rattle.rc_syntax.proofs.FirstBytes.{key_among}
use Rattle.rc_syntax.proofs.word.Key.named.Goals as goal

pub returns-in-len1-up : goal.returns-in-len1-up
returns-in-len1-up c = c.among.ensures ∙ (ap (find (λ k. bytes_eq (key_spelling k) c.args.bytes.now)) c.keys_from.ensures ∙ key_among c.args.bytes.now c.in-len1-up.len_at_least)
