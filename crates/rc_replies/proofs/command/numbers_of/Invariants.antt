use Rattle.std.proofs.Common.{◌≡◌, ◌++◌, map, drop, option_map}
use Rattle.rc_replies.specs.Commands.{numbers_of}
use Rattle.rc_replies.proofs.command.numbers_of.Given as goal

abbrev pub invariant-loop-word : goal.invariant-loop-word
invariant-loop-word l = numbers_of (map (λ word. word.now) l.words) ≡ option_map (λ ns. l.numbers.items ++ ns) (numbers_of (map (λ word. word.now) (drop l.word-index l.words)))
