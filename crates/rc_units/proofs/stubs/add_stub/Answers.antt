use Rattle.std.proofs.Common.{◌≡◌, ◌++◌, ◌∷◌, ◌∙◌, List, Option, OnOk, None, ap, map, subst, sym}
use Rattle.rc_syntax.specs.Shape.{item_of, mapped, param_of, stmts_of, type_of}
use Rattle.rc_syntax.specs.Tree as t
use Rattle.rc_linking.specs.Stubs.{stubs_of}
use Rattle.rc_units.proofs.stubs.add_stub.Goals as goal

pub returns-else-is_known : goal.returns-else-is_known
returns-else-is_known c =
    let f = c.in-Function in
    let head = λ (params : List t.Param) (body : Option t.Stmts). t.function f.at f.deletes (mapped type_of f.gives) f.name params body in
    let whole : item_of c.args.item.now ≡ head (map param_of f.params.items) (mapped (λ b. stmts_of b.items) f.body) = ap item_of f.is in
    let no_body : mapped (λ b. stmts_of b.items) f.body ≡ None = ap (mapped (λ b. stmts_of b.items)) c.in-None.is in
    let same : head (map param_of c.deref.result.now) None ≡ item_of c.args.item.now = ap (λ ps. head (map param_of ps) None) c.deref.ensures.value ∙ ap (head (map param_of f.params.items)) (sym no_body) ∙ sym whole in
    λ rest. subst (λ (i : t.Item). OnOk c.add_new.result (map item_of c.add_new.new.items.items ++ stubs_of c.args.line c.add_new.new.known rest ≡ map item_of c.args.items.now.items ++ stubs_of c.args.line c.args.known.now (i ∷ rest))) same (c.add_new.ensures rest)
