use Rattle.std.proofs.Common.{◌≡◌, ◌++◌, map, take}
use Rattle.rc_gen.specs.Template.{text_of}
use Rattle.rc_gen.proofs.text.Text.lines.Given as goal

abbrev pub invariant-loop-line : goal.invariant-loop-line
invariant-loop-line l = l.self ≡ l.fn.self ++ text_of (map (λ line. line.now) (take l.line-index l.lines))
