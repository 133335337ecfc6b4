use Rattle.std.proofs.Common.{◌≡◌, ◌+◌, ◌++◌, [], List, map, drop, get_or, sym, ap, ◌∙◌, arith, append-nil}
use Rattle.std.proofs.lemmas.List.{drop_all}
use Rattle.rc_core.specs.Shapes.{ty_of}
use Rattle.rc_core.specs.declared.ty.Ty.{Ty as CodeTy}
use Rattle.rc_graph.specs.Nodes.{ranks_from}
use Rattle.rc_graph.proofs.Numbering.{regionals, numbers_made}
use Rattle.rc_graph.proofs.names.number.Goals as goal

pub returns : goal.returns
returns c f parameters locals =
    let l = c.loop-ty in
    let all = c.args.locals.now in
    let over = c.loop-ty-test.false in
    let end : drop l.ty-index all ≡ [] = drop_all l.ty-index all (omega (arith, over)) in
    let ranks = sym (append-nil l.ranks.items) ∙ ap (λ (d : List CodeTy). l.ranks.items ++ ranks_from l.count (map ty_of d)) (sym end) ∙ l.invariant.ranks ∙ ap (ranks_from 0) (sym locals) in
    let counted = ap (λ (d : List CodeTy). l.count + regionals (map ty_of d)) (sym end) ∙ l.invariant.count ∙ ap regionals (sym locals) in
    numbers_made f _ (c.rank-copies.ensures ∙ ap (λ xs. get_or xs c.args.parameters l.count) c.as_slice.ensures.value ∙ ap (λ p. get_or l.ranks.items p l.count) (sym parameters)) ranks (omega (arith, counted)) c.in_ok-add.ensures
