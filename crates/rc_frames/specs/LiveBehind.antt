-- Which locals are live after what waits in a function: the ways out of a part of a statement, from those out of the whole.
use Rattle.std.specs.Prelude.{ℕ, zero, suc, false, List, [], ◌∷◌}
use Rattle.rc_core.specs.Programs.{Stmt, block, declare, assign, branch, while, repeat, for, return, Stmts, done, then}
use Rattle.rc_core.specs.Live.{Ways, before, before_all, then_live, unless_set, either, while_body, repeat_head, repeat_body, for_third, for_body}
use Rattle.rc_core.specs.Shapes.{stmt_of}
use Rattle.rc_frames.specs.declared.frames.Stage.{Stage}
use Rattle.rc_frames.specs.declared.frames.Stage.TheVariants.{Value, Within, Test, Body, First, Third}
use Rattle.rc_frames.specs.declared.frames.Frame.{Frame}
use Rattle.rc_frames.specs.declared.frames.Frame.TheVariants.{Inside}

-- out of its value
abbrev pub value_ways : Stmt → Ways → Ways
value_ways (declare line y value) k = then_live (λ x. unless_set y x (k.next x)) k
value_ways (assign line y e) k = then_live (λ x. unless_set y x (k.next x)) k
value_ways (branch line test a b) k = then_live (either (before a k) (before b k)) k
value_ways (return line value) k = then_live (λ _. false) k
value_ways s k = k

-- out of the condition of a loop
abbrev pub test_ways : Stmt → Ways → Ways
test_ways (while line test body) k = then_live (either k.next (before body (while_body test body k))) k
test_ways (repeat line body test) k = then_live (either k.next (repeat_head body test k)) k
test_ways (for line first test third body) k = then_live (either k.next (before body (for_body test third body k))) k
test_ways s k = k

-- out of the body of a loop
abbrev pub body_ways : Stmt → Ways → Ways
body_ways (while line test body) k = while_body test body k
body_ways (repeat line body test) k = repeat_body body test k
body_ways (for line first test third body) k = for_body test third body k
body_ways s k = k

-- out of the first and the third part of the head of a `for`
abbrev pub head_ways : Stmt → Ways → Ways
head_ways (for line first test third body) k = for_third test third body k
head_ways s k = k

-- all but the first n
abbrev pub rest_of : ℕ → Stmts → Stmts
rest_of zero body = body
rest_of (suc n) done = done
rest_of (suc n) (then s rest) = rest_of n rest

-- out of the last of the statements of a block that were begun
abbrev pub one_ways : (begun : ℕ) → Stmt → Ways → Ways
one_ways begun (block body) k = then_live (before_all (rest_of begun body) k) k
one_ways begun s k = k

abbrev pub stage_ways : Stage → Stmt → Ways → Ways
stage_ways Value s k = value_ways s k
stage_ways (Within begun) s k = one_ways begun s k
stage_ways (Test rounds) s k = test_ways s k
stage_ways (Body rounds) s k = body_ways s k
stage_ways First s k = head_ways s k
stage_ways (Third rounds) s k = head_ways s k
stage_ways stage s k = k

-- out of what a frame waits for
abbrev pub frame_ways : Frame → Ways → Ways
frame_ways (Inside s stage) k = stage_ways stage (stmt_of s.now) k
frame_ways frame k = k

-- out of what the last of the frames waits for, where each stands in the one before it
abbrev pub frames_ways : List Frame → Ways → Ways
frames_ways [] k = k
frames_ways (frame ∷ frames) k = frames_ways frames (frame_ways frame k)
