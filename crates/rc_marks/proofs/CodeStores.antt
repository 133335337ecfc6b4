-- The stores of a function's code to annotated cells, in the order of its sites, without their points.
use Rattle.std.specs.Prelude.{ℕ, List, [], ◌∷◌, ◌++◌}
use Rattle.rc_core.specs.Layout.{Layout, note_of}
use Rattle.rc_rlang.specs.RegionCode.{Act, Code, Codes}
use Rattle.rc_rlang.specs.RegionCode as From
use Rattle.rc_marks.specs.Stores.{Store, note_on, annotated}

abbrev pub cells_stores : Layout → (line : ℕ) → List Store
cells_stores [] line = []
cells_stores (kind ∷ kinds) line = annotated (note_of kind) line ++ cells_stores kinds line

abbrev pub act_stores : Act → List Store
act_stores (From.store line a) = annotated (note_on a.cell) line
act_stores (From.update line a change ty) = annotated (note_on a.cell) line
act_stores (From.move line cells left right) = cells_stores cells line
act_stores act = []

abbrev mutual
  pub code_stores : Code → List Store
  code_stores (From.simple steps act) = act_stores act
  code_stores (From.clear line x ty) = []
  code_stores (From.block codes) = codes_stores codes
  code_stores (From.branch steps test a b) = code_stores a ++ code_stores b
  code_stores (From.loop line steps test third body) = code_stores body ++ code_stores third
  code_stores (From.repeat line body steps test) = code_stores body
  code_stores (From.break line) = []
  code_stores (From.continue line) = []

  pub codes_stores : Codes → List Store
  codes_stores From.done = []
  codes_stores (From.then c rest) = code_stores c ++ codes_stores rest
