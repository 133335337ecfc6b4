use Rattle.std.proofs.Common.{◌≡◌, ◌*◌, ◌++◌, ◌∷◌, [], ◌∙◌, ap, sym, subst, length, replicate, rules, get_or}
use Rattle.rc_areas.specs.Areas.{AreaState, IsLaid, objects_of}
use Rattle.rc_areas.specs.declared.head.Head.{Head}
use Rattle.rc_areas.proofs.Pushed.{more, pushed_laid, pushed_objects}
use Rattle.rc_areas.proofs.area.Area.push.Given.{Over}
use Rattle.rc_areas.proofs.area.Area.push.Goals as goal

-- the area with one more object
is_more : (g : Over) (c : goal.After-unwrap g) → (let new : AreaState = record { heads = c.push.new.self.items; codes = c.push_zeros.new.self } in new)
    ≡ more c.args.shapes.now c.args.self.now c.requires.laid (let h : Head = record { start = c.len-start.result; count = c.args.count; shape = c.args.shape } in h) (c.len-start.ensures ∙ ap (λ (a : AreaState). length a.codes) c.self.view_is) c.requires.shape
is_more g c =
    let h : Head = record { start = c.len-start.result; count = c.args.count; shape = c.args.shape } in
    let heads : c.push.new.self.items ≡ c.self.inside.heads.items ++ h ∷ [] = search rules in
    let size : c.args.size ≡ c.args.count * length (get_or c.args.shapes.now c.args.shape []) = c.requires.size in
    let codes : c.push_zeros.new.self ≡ c.self.inside.cells ++ replicate c.args.size 0 = search rules in
    ap (λ hs. let new : AreaState = record { heads = hs; codes = c.push_zeros.new.self } in new) heads
    ∙ ap (λ cs. let new : AreaState = record { heads = c.self.inside.heads.items ++ h ∷ []; codes = cs } in new) (codes ∙ ap (λ n. c.self.inside.cells ++ replicate n 0) size)
    ∙ ap (λ (a : AreaState). let new : AreaState = record { heads = a.heads ++ h ∷ []; codes = a.codes ++ replicate (c.args.count * length (get_or c.args.shapes.now c.args.shape [])) 0 } in new) c.self.view_is

pub returns-clause-laid : goal.returns-clause-laid
returns-clause-laid g c =
    let h : Head = record { start = c.len-start.result; count = c.args.count; shape = c.args.shape } in
    subst (IsLaid c.args.shapes.now) (sym (is_more g c)) (pushed_laid c.args.shapes.now c.args.self.now c.requires.laid h (c.len-start.ensures ∙ ap (λ (a : AreaState). length a.codes) c.self.view_is) c.requires.shape)

pub returns-clause-ok : goal.returns-clause-ok
returns-clause-ok g c =
    let h : Head = record { start = c.len-start.result; count = c.args.count; shape = c.args.shape } in
    ap (objects_of c.args.shapes.now) (is_more g c) ∙ pushed_objects c.args.shapes.now c.args.self.now c.requires.laid h (c.len-start.ensures ∙ ap (λ (a : AreaState). length a.codes) c.self.view_is) c.requires.shape
