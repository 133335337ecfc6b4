-- The sites of region code: its stores to cells whose types are annotated, each of which may have to check what it stores. A store and an
-- update have one where their cell is annotated, and a struct copy one for each annotated cell, in the order of the cells. They come
-- in the order of the text or in that of their points. The two differ at loops alone: the third part of a loop's head stands before its
-- body, and has its points behind it. A site stands at the point that stores: an update's last one, and the second of the two that each
-- cell of a copy has.
use Rattle.std.specs.Prelude.{ℕ, suc, ◌+◌, List, [], ◌∷◌, ◌++◌}
use Rattle.rc_core.specs.declared.ty.Note.{Note}
use Rattle.rc_core.specs.declared.ty.Note.TheVariants.{Plain, SameRegion, ParentPtr, Traditional}
use Rattle.rc_core.specs.declared.stmt.Change.{Change}
use Rattle.rc_core.specs.declared.stmt.Change.TheVariants.{Compute, Step as Stepping}
use Rattle.rc_core.specs.Layout.{Layout, note_of}
use Rattle.rc_core.specs.Arithmetic.{type_of}
use Rattle.rc_rlang.specs.declared.order.Order.{Order}
use Rattle.rc_rlang.specs.declared.order.Order.TheVariants.{Text, Points}
use Rattle.rc_rlang.specs.Points.{conversion_points}
use Rattle.rc_rlang.specs.RegionCode.{Act, store, update, move, Code, simple, clear, block, branch, loop, repeat, break, continue, Codes, done, then}
use Rattle.rc_rlang.specs.RegionFlow.{note_in}
use Rattle.rc_rlang.specs.RegionPoints.{steps_points, branch_points, code_points}

pub record Site : Type 0 where
  pub point : ℕ
  pub line : ℕ
  pub note : Note

-- of one store to a cell with this annotation
abbrev pub store_sites : Note → (line point : ℕ) → List Site
store_sites Plain line point = []
store_sites SameRegion line point = record { point = point; line = line; note = SameRegion } ∷ []
store_sites ParentPtr line point = record { point = point; line = line; note = ParentPtr } ∷ []
store_sites Traditional line point = record { point = point; line = line; note = Traditional } ∷ []

-- the points of an update that stand before its last
abbrev pub before_store : Change → ℕ
before_store (Compute from operator s) = 2 + conversion_points from (type_of s) + conversion_points (type_of s) from
before_store (Stepping direction) = 2

abbrev pub cells_sites : Layout → (line here : ℕ) → List Site
cells_sites [] line here = []
cells_sites (kind ∷ kinds) line here = store_sites (note_of kind) line (suc here) ++ cells_sites kinds line (suc (suc here))

abbrev pub act_sites : Act → (here : ℕ) → List Site
act_sites (store line a) here = store_sites (note_in a.cell) line here
act_sites (update line a change ty) here = store_sites (note_in a.cell) line (here + before_store change)
act_sites (move line cells left right) here = cells_sites cells line here
act_sites act here = []

-- of a loop, whose body and third part have these
abbrev pub loop_sites : Order → (body third : List Site) → List Site
loop_sites Text body third = third ++ body
loop_sites Points body third = body ++ third

abbrev mutual
  pub code_sites : Order → Code → (here : ℕ) → List Site
  code_sites o (simple steps act) here = act_sites act (here + steps_points steps)
  code_sites o (clear line x ty) here = []
  code_sites o (block codes) here = codes_sites o codes here
  code_sites o (branch steps test a b) here =
      let at_a = suc (here + steps_points steps) in
      code_sites o a at_a ++ code_sites o b (at_a + code_points a)
  code_sites o (loop line steps test third body) here =
      let at_body = suc here + steps_points steps + branch_points test in
      loop_sites o (code_sites o body at_body) (code_sites o third (at_body + code_points body))
  code_sites o (repeat line body steps test) here = code_sites o body (suc here)
  code_sites o (break line) here = []
  code_sites o (continue line) here = []

  pub codes_sites : Order → Codes → (here : ℕ) → List Site
  codes_sites o done here = []
  codes_sites o (then c rest) here = code_sites o c here ++ codes_sites o rest (here + code_points c)
