-- What the evaluator's frames stand for.
use Rattle.std.specs.Prelude.{ℕ, zero, suc, List, map}
use Rattle.rc_core.specs.Programs.{Stmt, Stmts, block, done, then}
use Rattle.rc_core.specs.Shapes.{expr_of, place_of, stmt_of, arguments_of, path_of}
use Rattle.rc_frames.specs.declared.frames.Frame.{Frame as CodeFrame}
use Rattle.rc_frames.specs.declared.frames.Frame.TheVariants.{First, Second, Argument, Pointer, Index, Element, Load, Inside}
use Rattle.rc_frames.specs.declared.frames.Stage.{Stage as CodeStage}
use Rattle.rc_frames.specs.declared.frames.Stage.TheVariants.{Place, Source, Value, Stored, Within, Test, Body, First as FirstStage, Third}
use Rattle.rc_values.specs.Values.{value_of}
use Rattle.rc_frames.specs.Frames.{Frame, first, second, argument, pointer, index, element, load, inside, Stage, placed, sourced, valued, stored, within, tested, bodied, headed, thirded}

-- the statements after the first n
abbrev pub behind_so_many : ℕ → Stmts → Stmts
behind_so_many n done = done
behind_so_many zero (then s rest) = then s rest
behind_so_many (suc n) (then s rest) = behind_so_many n rest

-- of a block, those after the first n; another statement has none
abbrev pub rest_behind : ℕ → Stmt → Stmts
rest_behind n (block body) = behind_so_many n body
rest_behind n _ = done

abbrev pub stage_of : Stmt → CodeStage → Stage
stage_of s Place = placed
stage_of s (Source t) = sourced t
stage_of s Value = valued
stage_of s (Stored t) = stored t
stage_of s (Within n) = within (rest_behind n s)
stage_of s (Test n) = tested n
stage_of s (Body n) = bodied n
stage_of s FirstStage = headed
stage_of s (Third n) = thirded n

abbrev pub frame_of : CodeFrame → Frame
frame_of (First e) = first (expr_of e.now)
frame_of (Second e v) = second (expr_of e.now) (value_of v)
frame_of (Argument g vs es) = argument g vs (arguments_of es.now)
frame_of (Pointer p) = pointer (place_of p.now)
frame_of (Index p v) = index (place_of p.now) (value_of v)
frame_of (Element t count stride path) = element t count stride (path_of path.now)
frame_of (Load line) = load line
frame_of (Inside s stage) = inside (stmt_of s.now) (stage_of (stmt_of s.now) stage)

abbrev pub frames_of : List CodeFrame → List Frame
frames_of frames = map frame_of frames

abbrev pub CodeFrames : Type 0
CodeFrames = List CodeFrame
