-- What is live behind frames, counted from without and from within.
use Rattle.std.proofs.Common.{◌≡◌, ◌<◌, ◌+◌, ℕ, zero, suc, Bool, true, false, refl, ap, ◌∙◌, arith, List, [], ◌∷◌, ◌++◌, length, map, take, get_or}
use Rattle.std.specs.Prelude.{reverse}
use Rattle.std.proofs.lemmas.List.{length-map, length-take-le, map-append, reverse-append, take_more}
use Rattle.rc_core.specs.Programs.{Stmt, block, declare, assign, store, update, copy, evaluate, delete, branch, while, repeat, for, break, continue, return, Stmts, done, then}
use Rattle.rc_core.specs.Heap.{Value as HeapValue, Number, Null, Handle, Pointer}
use Rattle.rc_core.specs.Execution.{held, held_value}
use Rattle.rc_core.specs.Live.{Ways, at_end, before_all, then_live}
use Rattle.rc_core.specs.Shapes.{stmt_of}
use Rattle.rc_frames.specs.declared.frames.Stage.{Stage}
use Rattle.rc_frames.specs.declared.frames.Stage.TheVariants.{Place, Source, Value, Stored, Within, Test, Body, First, Third}
use Rattle.rc_frames.specs.declared.frames.Frame.{Frame}
use Rattle.rc_frames.specs.declared.frames.Frame.TheVariants.{First as FirstFrame, Second, Argument, Pointer as PointerFrame, Index, Element, Load, Inside}
use Rattle.rc_values.specs.declared.value.Value.{Value as CodeValue}
use Rattle.rc_values.specs.Values.{value_of}
use Rattle.rc_frames.specs.Codes.{behind_so_many, rest_behind, stage_of, frames_of}
use Rattle.rc_frames.specs.Frames.{behind_value, behind_test, behind_body, behind_part, through, ways}
use Rattle.rc_frames.specs.LiveBehind.{value_ways, test_ways, body_ways, head_ways, rest_of, one_ways, stage_ways, frame_ways, frames_ways}

value_same : (s : Stmt) (k : Ways) → value_ways s k ≡ behind_value s k
value_same (block body) k = refl
value_same (declare line x value) k = refl
value_same (assign line x e) k = refl
value_same (store line place e) k = refl
value_same (update line place change e) k = refl
value_same (copy line s left right) k = refl
value_same (evaluate line e) k = refl
value_same (delete line e) k = refl
value_same (branch line test a b) k = refl
value_same (while line test body) k = refl
value_same (repeat line body test) k = refl
value_same (for line first test third body) k = refl
value_same (break line) k = refl
value_same (continue line) k = refl
value_same (return line value) k = refl

test_same : (s : Stmt) (k : Ways) → test_ways s k ≡ behind_test s k
test_same (block body) k = refl
test_same (declare line x value) k = refl
test_same (assign line x e) k = refl
test_same (store line place e) k = refl
test_same (update line place change e) k = refl
test_same (copy line s left right) k = refl
test_same (evaluate line e) k = refl
test_same (delete line e) k = refl
test_same (branch line test a b) k = refl
test_same (while line test body) k = refl
test_same (repeat line body test) k = refl
test_same (for line first test third body) k = refl
test_same (break line) k = refl
test_same (continue line) k = refl
test_same (return line value) k = refl

body_same : (s : Stmt) (k : Ways) → body_ways s k ≡ behind_body s k
body_same (block body) k = refl
body_same (declare line x value) k = refl
body_same (assign line x e) k = refl
body_same (store line place e) k = refl
body_same (update line place change e) k = refl
body_same (copy line s left right) k = refl
body_same (evaluate line e) k = refl
body_same (delete line e) k = refl
body_same (branch line test a b) k = refl
body_same (while line test body) k = refl
body_same (repeat line body test) k = refl
body_same (for line first test third body) k = refl
body_same (break line) k = refl
body_same (continue line) k = refl
body_same (return line value) k = refl

part_same : (s : Stmt) (k : Ways) → head_ways s k ≡ behind_part s k
part_same (block body) k = refl
part_same (declare line x value) k = refl
part_same (assign line x e) k = refl
part_same (store line place e) k = refl
part_same (update line place change e) k = refl
part_same (copy line s left right) k = refl
part_same (evaluate line e) k = refl
part_same (delete line e) k = refl
part_same (branch line test a b) k = refl
part_same (while line test body) k = refl
part_same (repeat line body test) k = refl
part_same (for line first test third body) k = refl
part_same (break line) k = refl
part_same (continue line) k = refl
part_same (return line value) k = refl

rest_same : (n : ℕ) (body : Stmts) → rest_of n body ≡ behind_so_many n body
rest_same zero done = refl
rest_same zero (then s rest) = refl
rest_same (suc n) done = refl
rest_same (suc n) (then s rest) = rest_same n rest

one_same : (n : ℕ) (s : Stmt) (k : Ways) → one_ways n s k ≡ then_live (before_all (rest_behind n s) k) k
one_same n (block body) k = ap (λ rest. then_live (before_all rest k) k) (rest_same n body)
one_same n (declare line x value) k = refl
one_same n (assign line x e) k = refl
one_same n (store line place e) k = refl
one_same n (update line place change e) k = refl
one_same n (copy line s left right) k = refl
one_same n (evaluate line e) k = refl
one_same n (delete line e) k = refl
one_same n (branch line test a b) k = refl
one_same n (while line test body) k = refl
one_same n (repeat line body test) k = refl
one_same n (for line first test third body) k = refl
one_same n (break line) k = refl
one_same n (continue line) k = refl
one_same n (return line value) k = refl

stage_same : (stage : Stage) (s : Stmt) (k : Ways) → stage_ways stage s k ≡ through s (stage_of s stage) k
stage_same Place s k = refl
stage_same (Source t) s k = refl
stage_same Value s k = value_same s k
stage_same (Stored t) s k = refl
stage_same (Within n) s k = one_same n s k
stage_same (Test n) s k = test_same s k
stage_same (Body n) s k = body_same s k
stage_same First s k = part_same s k
stage_same (Third n) s k = part_same s k

frame_same : (frame : Frame) (frames : List Frame) → frame_ways frame (ways (frames_of frames)) ≡ ways (frames_of (frame ∷ frames))
frame_same (FirstFrame e) frames = refl
frame_same (Second e v) frames = refl
frame_same (Argument g vs es) frames = refl
frame_same (PointerFrame p) frames = refl
frame_same (Index p v) frames = refl
frame_same (Element t count stride path) frames = refl
frame_same (Load line) frames = refl
frame_same (Inside s stage) frames = stage_same stage (stmt_of s.now) (ways (frames_of frames))

one_more : (frames : List Frame) (frame : Frame) (k : Ways) → frames_ways (frames ++ frame ∷ []) k ≡ frame_ways frame (frames_ways frames k)
one_more [] frame k = refl
one_more (first ∷ frames) frame k = one_more frames frame (frame_ways first k)

-- from the outermost inward, and from the innermost outward
pub frames_same : (frames : List Frame) → frames_ways (reverse frames) at_end ≡ ways (frames_of frames)
frames_same [] = refl
frames_same (frame ∷ frames) =
    ap (λ l. frames_ways l at_end) (reverse-append (frame ∷ []) frames)
    ∙ one_more (reverse frames) frame at_end
    ∙ ap (frame_ways frame) (frames_same frames)
    ∙ frame_same frame frames

-- one more local

value_behind : (b : Bool) (v : HeapValue) (a rest : List HeapValue) → held_value b v (a ++ rest) ≡ held_value b v a ++ rest
value_behind false v a rest = refl
value_behind true (Number n) a rest = refl
value_behind true Null a rest = refl
value_behind true (Handle r) a rest = refl
value_behind true (Pointer p) a rest = refl

held_last : (live : ℕ → Bool) (env : List HeapValue) (v : HeapValue) → held live (env ++ v ∷ []) ≡ held live env ++ held_value (live (length env)) v []
held_last live [] v = refl
held_last live (u ∷ env) v = ap (held_value (live 0) u) (held_last (λ x. live (suc x)) env v) ∙ value_behind (live 0) u (held (λ x. live (suc x)) env) (held_value (live (suc (length env))) v [])

pub held_more : (live : ℕ → Bool) (items : List CodeValue) (i : ℕ) (d : CodeValue) → i < length items → held live (map value_of (take (i + 1) items)) ≡ held live (map value_of (take i items)) ++ held_value (live i) (value_of (get_or items i d)) []
held_more live items i d within =
    let long : length (map value_of (take i items)) ≡ i = length-map (take i items) value_of ∙ length-take-le i items (omega (arith, within)) in
    ap (λ l. held live (map value_of l)) (take_more items i d within)
    ∙ ap (held live) (map-append value_of (take i items) (get_or items i d ∷ []))
    ∙ held_last live (map value_of (take i items)) (value_of (get_or items i d))
    ∙ ap (λ n. held live (map value_of (take i items)) ++ held_value (live n) (value_of (get_or items i d)) []) long
