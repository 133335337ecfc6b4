use Rattle.std.proofs.Common.{◌≡◌, drop, find}
use Rattle.std.specs.Prelude.{bytes_eq}
use Rattle.rc_syntax.specs.Spellings.{key_spelling}
use Rattle.rc_syntax.proofs.word.Key.among.Given as goal

abbrev pub invariant-loop-key : goal.invariant-loop-key
invariant-loop-key l = find (λ k. bytes_eq (key_spelling k) l.bytes) l.keys ≡ find (λ k. bytes_eq (key_spelling k) l.bytes) (drop l.key-index l.keys)
