use Rattle.std.proofs.Common.{◌≡◌, ◌-◌, length, arith, slice_set, ap, sym, ◌∙◌}
use Rattle.rc_pile.specs.Words.{value_of}
use Rattle.rc_pile.specs.Stacks.{Stack, part, stack_of}
use Rattle.rc_pile.proofs.StackLaws.{local_set, locals_length}
use Rattle.rc_pile.proofs.pile.Pile.set_local.Goals as goal

pub returns : goal.returns
returns c =
    let p = c.self.inside in
    let i = c.self.invariant in
    let v : c.args.self.now ≡ stack_of p.words p.frames.items p.base p.first p.top p.depth = sym c.self.view_is in
    let n : length (part p.words p.base p.first) ≡ p.first - p.base = locals_length p.words p.base p.first i.0 (omega (arith, i.1, i.2)) in
    let m : length c.args.self.now.locals ≡ length (part p.words p.base p.first) = ap (λ (s : Stack). length s.locals) v in
    let e = local_set p.words p.frames.items p.base p.first p.top p.depth c.args.x c.args.word i.0 i.1 i.2 (omega (arith, n, m, c.requires)) i.4 in
    ap (λ ws. stack_of ws p.frames.items p.base p.first p.top p.depth) c.set.ensures ∙ e ∙ ap (λ (s : Stack). record s { locals = slice_set s.locals c.args.x (value_of c.args.word) }) (sym v)
