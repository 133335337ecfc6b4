use Rattle.std.proofs.Common.{◌≡◌, ◌+◌, ◌-◌, ◌++◌, ◌∙◌, length, take, replicate, ap, rules}
use Rattle.std.specs.Vec.{vec_len}
use Rattle.rc_pile.specs.Words.{joined, zero_word}
use Rattle.rc_pile.proofs.JoinedLaws.{joined_grown}
use Rattle.rc_pile.proofs.words.Words.add_zeros.Goals as goal

pub returns-in-Ok-clause-ok : goal.returns-in-Ok-clause-ok
returns-in-Ok-clause-ok c =
    let p = c.self.inside in
    let n : c.in-Some.after ≡ vec_len p.lows + c.args.count = search rules in
    let l : vec_len p.lows ≡ length p.lows.items = search rules in
    let u : vec_len p.highs ≡ length p.highs.items = search rules in
    ap (λ xs. joined xs c.resize-2.new.self.items) c.in_ok-resize.ensures.items
    ∙ ap (joined (take c.in-Some.after p.lows.items ++ replicate (c.in-Some.after - vec_len p.lows) 0)) c.in-Ok.ensures.items
    ∙ joined_grown p.lows.items p.highs.items (vec_len p.lows) c.in-Some.after c.args.count (vec_len p.highs) c.self.invariant l u n
    ∙ ap (λ ws. ws ++ replicate c.args.count zero_word) c.self.view_is
