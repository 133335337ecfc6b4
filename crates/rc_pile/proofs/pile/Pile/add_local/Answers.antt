use Rattle.std.proofs.Common.{◌+◌, ◌≡◌, ◌-◌, length, reverse, ap, arith, sym, ◌∷◌, [], ◌∙◌}
use Rattle.rc_pile.specs.Words.{value_of}
use Rattle.rc_pile.specs.Stacks.{Stack, part, stack_of, with_locals}
use Rattle.rc_pile.proofs.StackLaws.{local_added, operands_length}
use Rattle.rc_pile.proofs.pile.Pile.add_local.Goals as goal

pub returns : goal.returns
returns c =
    let p = c.self.inside in
    let i = c.self.invariant in
    let v : c.args.self.now ≡ stack_of p.words p.frames.items p.base p.first p.top p.depth = sym c.self.view_is in
    let n = operands_length p.words p.first p.top i.1 i.2 in
    let m : length c.args.self.now.operands ≡ length (reverse (part p.words p.first p.top)) = ap (λ (s : Stack). length s.operands) v in
    let z : length c.args.self.now.operands ≡ 0 = ap length c.requires.none in
    let r : c.args.self.now.room ≡ length p.words - p.top = ap (λ (s : Stack). s.room) v in
    let e = local_added p.words p.frames.items p.base p.first p.top p.depth c.args.word i.0 i.1 (omega (arith, r, c.requires.room)) i.4 (omega (arith, n, m, z, i.1)) in
    ap (λ ws. stack_of ws p.frames.items p.base (p.top + 1) (p.top + 1) p.depth) c.set.ensures ∙ e ∙ ap (with_locals (value_of c.args.word ∷ [])) (sym v)
