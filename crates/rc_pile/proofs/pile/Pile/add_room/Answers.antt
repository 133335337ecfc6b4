use Rattle.std.proofs.Common.{◌≡◌, ◌∙◌, ap, sym, replicate}
use Rattle.std.proofs.lemmas.List.{length-replicate}
use Rattle.rc_pile.specs.Words.{zero_word}
use Rattle.rc_pile.specs.Stacks.{stack_of, with_room}
use Rattle.rc_pile.proofs.StackLaws.{roomier}
use Rattle.rc_pile.proofs.pile.Pile.add_room.Goals as goal

pub returns-clause-ok : goal.returns-clause-ok
returns-clause-ok c =
    let p = c.self.inside in
    let i = c.self.invariant in
    let v : c.args.self.now ≡ stack_of p.words p.frames.items p.base p.first p.top p.depth = sym c.self.view_is in
    let e = roomier p.words (replicate c.args.words zero_word) p.frames.items p.base p.first p.top p.depth c.args.words i.0 i.1 i.2 i.4 (length-replicate c.args.words zero_word) in
    ap (λ ws. stack_of ws p.frames.items p.base p.first p.top p.depth) c.in_ok-add_zeros.ensures.ok ∙ e ∙ ap (with_room c.args.words) (sym v)
