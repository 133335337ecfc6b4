use Rattle.std.proofs.Common.{◌≡◌, ◌-◌, length, reverse, arith, ap, sym}
use Rattle.std.proofs.lemmas.List.{length-set}
use Rattle.rc_pile.specs.Stacks.{Stack, part, stack_of}
use Rattle.rc_pile.proofs.StackLaws.{begins_stacked, operands_length}
use Rattle.rc_pile.proofs.pile.Pile.begin.Goals as goal

pub invariant_of-self : goal.invariant_of-self
invariant_of-self c =
    let p = c.self.inside in
    let i = c.self.invariant in
    let v : c.args.self.now ≡ stack_of p.words p.frames.items p.base p.first p.top p.depth = sym c.self.view_is in
    let n = operands_length p.words p.first p.top i.1 i.2 in
    let m : length c.args.self.now.operands ≡ length (reverse (part p.words p.first p.top)) = ap (λ (s : Stack). length s.operands) v in
    let l = length-set p.frames.items p.depth (record { caller = c.args.caller; base = p.base; first = p.first }) in
    let r : c.args.self.now.more ≡ length p.frames.items - p.depth = ap (λ (s : Stack). s.more) v in
    (omega arith, omega arith, i.2, omega (arith, l, r, c.requires.more), begins_stacked p.frames.items p.base p.first p.top p.depth c.args.caller c.args.parameters (omega (arith, r, c.requires.more)) i.0 (omega (arith, n, m, c.requires.there)) i.1 i.4, i.5)
