use Rattle.std.proofs.Common.{◌≡◌, ◌-◌, ◌∙◌, length, reverse, arith, ap, sym}
use Rattle.std.proofs.lemmas.List.{length-set}
use Rattle.rc_pile.specs.Stacks.{Stack, part, stack_of}
use Rattle.rc_pile.proofs.StackLaws.{operands_length}
use Rattle.rc_pile.proofs.pile.Pile.give.Goals as goal

pub invariant_of-self : goal.invariant_of-self
invariant_of-self c =
    let p = c.self.inside in
    let i = c.self.invariant in
    let v : c.args.self.now ≡ stack_of p.words p.frames.items p.base p.first p.top p.depth = sym c.self.view_is in
    let n = operands_length p.words p.first p.top i.1 i.2 in
    let m : length c.args.self.now.operands ≡ length (reverse (part p.words p.first p.top)) = ap (λ (s : Stack). length s.operands) v in
    let l = ap length c.set.ensures ∙ length-set p.words (p.top - c.args.k) c.args.word in
    let r : c.args.self.now.room ≡ length p.words - p.top = ap (λ (s : Stack). s.room) v in
    (i.0, omega (arith, n, m, c.requires.there), omega (arith, l, i.2, r, c.requires.room, n, m, c.requires.there, i.1), i.3, i.4, omega (arith, l, i.5))
