use Rattle.std.proofs.Common.{◌≡◌, ◌++◌, ◌+◌, [], ◌∷◌, ap, ◌∙◌, arith}
use Rattle.rc_core.specs.Shapes.{ty_of}
use Rattle.rc_emission.specs.OperationCode.{at, line_of, spills}
use Rattle.rc_emission.specs.StackCode.{get, load, store}
use Rattle.rc_emission.specs.StatementCode.{gets, change_code}
use Rattle.rc_rlang.specs.RegionCode.{width}
use Rattle.rc_rlang.specs.RegionFits.{place_types}
use Rattle.rc_rlang.specs.Shapes.{access_of}
use Rattle.rc_lines.specs.Bare.{bare_access, bare_all, lines_of}
use Rattle.rc_lines.specs.Operands.{types_on}
use Rattle.rc_lines.specs.Over.{slot_in, deleting_in, types_in}
use Rattle.rc_lines.proofs.Copies.{updated, in_ok}
use Rattle.rc_lines.proofs.Stacks.{place_below}
use Rattle.rc_lines.proofs.acts.update.Goals as goal

pub returns : goal.returns
returns c last live =
    let b = c.args.body.now in
    let slot = slot_in b in
    let line = c.args.line in
    let a = access_of c.args.place.now in
    let ty = ty_of c.args.operand.now in
    let place = place_below c.args.operands.now a (ty ∷ []) c.width-count.result c.width-count.ensures c.requires.fits in
    let o = lines_of c.args.out.now.items in
    let l1 = lines_of c.keep.new.out.items in
    let l2 = lines_of c.fetch.new.out.items in
    let l3 = lines_of c.fetch-2.new.out.items in
    let l4 = lines_of c.push.new.out.items in
    let l5 = lines_of c.change.new.out.items in
    let l6 = lines_of c.push-2.new.out.items in
    let e2 = c.in_ok-fetch.ensures ∙ ap (λ tys. l1 ++ at line (bare_all (gets slot (deleting_in b) (types_in b) 0 tys))) place in
    let e3 = c.in_ok-fetch-2.ensures ∙ ap (λ tys. l2 ++ at line (bare_all (gets slot (deleting_in b) (types_in b) 0 tys))) place in
    let local = c.in_ok-local.ensures ∙ ap (λ n. slot n ty) c.width-count.ensures in
    let e5 = c.in_ok-change.ensures ∙ ap (λ x. l4 ++ at line (bare_all (change_code slot (deleting_in b) (types_in b) c.args.way a.cell ty (get x)))) local in
    let none : a.offset + 0 ≡ a.offset = omega arith in
    let e4 = c.in_ok-push.ensures ∙ ap (λ n. l3 ++ line_of line (load (record (bare_access a) { offset = n })) ∷ []) none in
    in_ok c.push-2.result _ _
    (λ e6. updated line (spills slot 0 (types_on c.args.operands.now)) (gets slot (deleting_in b) (types_in b) 0 (place_types a)) (change_code slot (deleting_in b) (types_in b) c.args.way a.cell ty (get (slot (width a) ty))) (load a) (store a)
    o l1 l2 l3 l4 l5 l6 c.in_ok-keep.ensures e2 e3 e4 e5 (e6 ∙ ap (λ n. l5 ++ line_of line (store (record (bare_access a) { offset = n })) ∷ []) none))
    c.push-2.ensures
