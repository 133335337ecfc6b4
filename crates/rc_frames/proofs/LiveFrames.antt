-- Liveness behind frames: one frame further inward, and the rest of a block.
use Rattle.std.proofs.Common.{◌≡◌, ◌<◌, ◌+◌, ℕ, zero, suc, refl, sym, ap, ◌∙◌, arith, List, [], ◌∷◌, length, take, drop, get_or}
use Rattle.std.proofs.Math.ListN.{drop_of_length-le}
use Rattle.std.proofs.Math.Seq.{take-length}
use Rattle.std.proofs.lemmas.List.{length-drop}
use Rattle.std.specs.List.{slice_range}
use Rattle.std.specs.declared.vec.Vec.{Vec}
use Rattle.std.specs.declared.alloc.Global.{Global as Alloc}
use Rattle.rc_core.specs.declared.stmt.Stmt.{Stmt, Block}
use Rattle.rc_core.specs.Shapes.{stmt_of, stmts_of}
use Rattle.rc_core.specs.Live.{Ways, then_live, before_all}
use Rattle.rc_core.proofs.ShapeRows.{block_is}
use Rattle.rc_frames.specs.declared.frames.Frame.{Frame}
use Rattle.rc_frames.specs.LiveBehind.{rest_of, one_ways, frame_ways, frames_ways}

pub rest_listed : (n : ℕ) (body : List Stmt) → rest_of n (stmts_of body) ≡ stmts_of (drop n body)
rest_listed zero body = refl
rest_listed (suc n) [] = refl
rest_listed (suc n) (s ∷ body) = rest_listed n body

further : (frames : List Frame) (i : ℕ) (frame : Frame) (k : Ways) → i < length frames → frame ≡ get_or frames i frame → frames_ways (take (suc i) frames) k ≡ frame_ways frame (frames_ways (take i frames) k)
further [] i frame k h e = absurd (omega arith)
further (first ∷ frames) zero frame k h e = ap (λ f. frame_ways f k) (sym e)
further (first ∷ frames) (suc i) frame k h e = further frames i frame (frame_ways first k) (omega arith) e

pub frames_step : (frames : List Frame) (i : ℕ) (frame : Frame) (k : Ways) → i < length frames → frame ≡ get_or frames i frame → frames_ways (take (i + 1) frames) k ≡ frame_ways frame (frames_ways (take i frames) k)
frames_step frames i frame k h e = ap (λ j. frames_ways (take j frames) k) (let j : i + 1 ≡ suc i = omega arith in j) ∙ further frames i frame k h e

-- behind statements of a block: what is left of its list
module _ (s : Stmt) (v : Vec Stmt Alloc) (items : List Stmt) (is : s ≡ Block v) (same : items ≡ v.items) (n : ℕ) (k : Ways) where
  pub one_listed : one_ways n (stmt_of s) k ≡ then_live (before_all (stmts_of (drop n items)) k) k
  one_listed =
      ap (λ t. one_ways n t k) (block_is s v is) ∙ ap (λ body. then_live (before_all body k) k) (rest_listed n v.items ∙ ap (λ xs. stmts_of (drop n xs)) (sym same))

  pub one_past : length items < n → one_ways n (stmt_of s) k ≡ then_live k.next k
  one_past h = one_listed ∙ ap (λ xs. then_live (before_all (stmts_of xs) k) k) (drop_of_length-le items (omega arith))

pub range_to_end : {X : Type 0} (xs : List X) (n : ℕ) → slice_range xs n (length xs) ≡ drop n xs
range_to_end xs n = ap (λ m. take m (drop n xs)) (sym (length-drop n xs)) ∙ take-length (drop n xs)
