use Rattle.std.proofs.Common.{◌≡◌, ◌-◌, length, reverse, arith, slice_get, ap, sym, ◌∙◌}
use Rattle.rc_pile.specs.Stacks.{Stack, part, stack_of}
use Rattle.rc_pile.proofs.StackLaws.{operand_at, operands_length}
use Rattle.rc_pile.proofs.pile.Pile.operand.Goals as goal

pub returns : goal.returns
returns c =
    let p = c.self.inside in
    let i = c.self.invariant in
    let v : c.args.self.now ≡ stack_of p.words p.frames.items p.base p.first p.top p.depth = sym c.self.view_is in
    let n : length (reverse (part p.words p.first p.top)) ≡ p.top - p.first = operands_length p.words p.first p.top i.1 i.2 in
    let m : length c.args.self.now.operands ≡ length (reverse (part p.words p.first p.top)) = ap (λ (s : Stack). length s.operands) v in
    ap (λ (s : Stack). slice_get s.operands c.args.k) v ∙ operand_at p.words p.first p.top c.args.k c.get.result (omega (arith, n, m, c.requires)) i.2 c.get.ensures
