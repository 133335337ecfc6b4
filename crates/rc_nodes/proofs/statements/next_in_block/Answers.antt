use Rattle.std.proofs.Common.{rules, ◌≡◌, ◌∙◌, ◌+◌, ◌∷◌, ap, sym, add-one, Some, None}
use Rattle.std.specs.Prelude.{slice_get}
use Rattle.rc_core.proofs.ShapeRows.{block_is}
use Rattle.rc_core.specs.Shapes.{stmt_of, stmts_of}
use Rattle.rc_frames.specs.Codes.{behind_so_many, frames_of, rest_behind}
use Rattle.rc_nodes.specs.Controls.{control_of}
use Rattle.rc_frames.specs.Frames.{inside, within}
use Rattle.rc_nodes.specs.Stepping.{doing, executing, within_step}
use Rattle.rc_nodes.proofs.Results.{if_ok_map, block_ends, block_next}
use Rattle.rc_nodes.proofs.statements.next_in_block.Goals as goal

pub returns-in-None-clause-goes : goal.returns-in-None-clause-goes
returns-in-None-clause-goes c = λ program env.
    let is = block_is c.args.s.now c.in-Block.body c.in-Block.is in
    let none : slice_get c.in-Block.body.items c.args.begun ≡ None = search rules in
    ap (λ s. within_step program (stmt_of c.args.s.now) (rest_behind c.args.begun s) (frames_of c.args.frames.now) env) is
    ∙ ap (λ rest. within_step program (stmt_of c.args.s.now) rest (frames_of c.args.frames.now) env) (block_ends c.args.begun c.in-Block.body.items none)

pub returns-in-Some-clause-goes : goal.returns-in-Some-clause-goes
returns-in-Some-clause-goes c =
    let is = block_is c.args.s.now c.in-Block.body c.in-Block.is in
    let some : slice_get c.in-Block.body.items c.args.begun ≡ Some c.in-Some.part.now = search rules in
    let next = block_next c.args.begun c.in-Block.body.items c.in-Some.part.now some in
    let fs = frames_of c.args.frames.now in
    if_ok_map c.wait_for_part.result _ _ (λ x h program env.
    ap (λ s. within_step program (stmt_of c.args.s.now) (rest_behind c.args.begun s) fs env) is
    ∙ ap (λ rest. within_step program (stmt_of c.args.s.now) rest fs env) next
    ∙ ap (λ n. doing (executing (stmt_of c.in-Some.part.now)) (inside (stmt_of c.args.s.now) (within (behind_so_many n (stmts_of c.in-Block.body.items))) ∷ fs) env) (sym (add-one c.args.begun))
    ∙ ap (λ s. doing (executing (stmt_of c.in-Some.part.now)) (inside (stmt_of c.args.s.now) (within (rest_behind (c.args.begun + 1) s)) ∷ fs) env) (sym is)
    ∙ ap (λ k. doing k (inside (stmt_of c.args.s.now) (within (rest_behind (c.args.begun + 1) (stmt_of c.args.s.now))) ∷ fs) env) (sym h.0)
    ∙ ap (λ l. doing (control_of x) l env) (sym h.1))
    c.wait_for_part.ensures.waits
