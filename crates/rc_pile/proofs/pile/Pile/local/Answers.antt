use Rattle.std.proofs.Common.{◌≡◌, ◌-◌, length, arith, slice_get, ap, sym, ◌∙◌}
use Rattle.rc_pile.specs.Stacks.{Stack, part, stack_of}
use Rattle.rc_pile.proofs.StackLaws.{local_at, locals_length}
use Rattle.rc_pile.proofs.pile.Pile.local.Goals as goal

pub returns : goal.returns
returns c =
    let p = c.self.inside in
    let i = c.self.invariant in
    let v : c.args.self.now ≡ stack_of p.words p.frames.items p.base p.first p.top p.depth = sym c.self.view_is in
    let n : length (part p.words p.base p.first) ≡ p.first - p.base = locals_length p.words p.base p.first i.0 (omega (arith, i.1, i.2)) in
    let m : length c.args.self.now.locals ≡ length (part p.words p.base p.first) = ap (λ (s : Stack). length s.locals) v in
    ap (λ (s : Stack). slice_get s.locals c.args.x) v ∙ local_at p.words p.base p.first c.args.x c.get.result (omega (arith, n, m, c.requires)) (omega (arith, i.1, i.2)) c.get.ensures
