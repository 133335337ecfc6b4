use Rattle.std.proofs.Common.{◌∙◌, ◌∷◌, ap, sym}
use Rattle.rc_core.proofs.ShapeRows.{block_is}
use Rattle.rc_core.specs.Shapes.{function_of, place_of, stmt_of, stmts_of}
use Rattle.rc_frames.specs.Codes.{frames_of, rest_behind}
use Rattle.rc_nodes.specs.Coming.{with_turns}
use Rattle.rc_frames.specs.Frames.{inside, placed}
use Rattle.rc_nodes.specs.Stepping.{execute, start, within_step}
use Rattle.rc_nodes.proofs.Results.{if_ok_map, block_begins}
use Rattle.rc_nodes.proofs.statements.begin_statement.Goals as goal

pub returns-in-Block-clause-executes : goal.returns-in-Block-clause-executes
returns-in-Block-clause-executes c = if_ok_map c.next_in_block.result _ _ (λ x h program w.
    let fs = frames_of c.args.frames.now in
    let is = block_is c.args.s.now c.in-Block.body c.in-Block.is in
    ap (λ s. execute program (function_of c.args.function.now) s fs c.args.locals.now (with_turns c.args.turns w)) is
    ∙ block_begins program (function_of c.args.function.now) (stmts_of c.in-Block.body.items) fs c.args.locals.now (with_turns c.args.turns w)
    ∙ ap (λ s. within_step program s (rest_behind 0 s) fs c.args.locals.now) (sym is)
    ∙ h program c.args.locals.now)
    c.next_in_block.ensures.goes

pub returns-in-Declare-clause-executes : goal.returns-in-Declare-clause-executes
returns-in-Declare-clause-executes c = if_ok_map c.begin_declaration.result _ _ (λ x h program w.
    ap (λ s. execute program (function_of c.args.function.now) (stmt_of s) (frames_of c.args.frames.now) c.args.locals.now (with_turns c.args.turns w)) c.in-Declare.is
    ∙ h program c.in-Declare.line (with_turns c.args.turns w) (ap stmt_of c.in-Declare.is))
    c.begin_declaration.ensures.executes

pub returns-in-Return-clause-executes : goal.returns-in-Return-clause-executes
returns-in-Return-clause-executes c = if_ok_map c.begin_return.result _ _ (λ x h program w.
    ap (λ s. execute program (function_of c.args.function.now) (stmt_of s) (frames_of c.args.frames.now) c.args.locals.now (with_turns c.args.turns w)) c.in-Return.is
    ∙ h program (function_of c.args.function.now) c.in-Return.line c.args.locals.now (with_turns c.args.turns w) (ap stmt_of c.in-Return.is))
    c.begin_return.ensures.executes

pub returns-in-Store-clause-executes : goal.returns-in-Store-clause-executes
returns-in-Store-clause-executes c = if_ok_map c.wait_for_place.result _ _ (λ x h program w.
    ap (λ s. execute program (function_of c.args.function.now) (stmt_of s) (frames_of c.args.frames.now) c.args.locals.now (with_turns c.args.turns w)) c.in-Store.is
    ∙ ap (λ s. start program (place_of c.in-Store.place) (inside (stmt_of s) placed ∷ frames_of c.args.frames.now) c.args.locals.now) (sym c.in-Store.is)
    ∙ sym (h program c.args.locals.now))
    c.wait_for_place.ensures.waits

pub returns-in-Update-clause-executes : goal.returns-in-Update-clause-executes
returns-in-Update-clause-executes c = if_ok_map c.wait_for_place-in-Update.result _ _ (λ x h program w.
    ap (λ s. execute program (function_of c.args.function.now) (stmt_of s) (frames_of c.args.frames.now) c.args.locals.now (with_turns c.args.turns w)) c.in-Update.is
    ∙ ap (λ s. start program (place_of c.in-Update.place) (inside (stmt_of s) placed ∷ frames_of c.args.frames.now) c.args.locals.now) (sym c.in-Update.is)
    ∙ sym (h program c.args.locals.now))
    c.wait_for_place-in-Update.ensures.waits

pub returns-in-Copy-clause-executes : goal.returns-in-Copy-clause-executes
returns-in-Copy-clause-executes c = if_ok_map c.wait_for_place-in-Copy.result _ _ (λ x h program w.
    ap (λ s. execute program (function_of c.args.function.now) (stmt_of s) (frames_of c.args.frames.now) c.args.locals.now (with_turns c.args.turns w)) c.in-Copy.is
    ∙ ap (λ s. start program (place_of c.in-Copy.left) (inside (stmt_of s) placed ∷ frames_of c.args.frames.now) c.args.locals.now) (sym c.in-Copy.is)
    ∙ sym (h program c.args.locals.now))
    c.wait_for_place-in-Copy.ensures.waits
