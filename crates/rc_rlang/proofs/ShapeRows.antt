-- What a node with a list of children stands for: the shape of its row is that of its list; and what a list with one more stands for.
use Rattle.std.proofs.Common.{◌≡◌, ℕ, refl, ap, ◌∙◌, List, [], ◌∷◌, ◌++◌}
use Rattle.std.specs.declared.vec.Vec.{Vec}
use Rattle.std.specs.declared.alloc.Global.{Global as Alloc}
use Rattle.rc_core.specs.declared.ty.Ty.{Ty as CodeTy}
use Rattle.rc_core.specs.Programs.{Struct}
use Rattle.rc_core.specs.Shapes.{ty_of}
use Rattle.rc_rlang.specs.declared.steps.Step.{Step as CodeStep, Fork, Row_of-Step, end_of-Step, more_of-Step, items-the_row-Step, items_hidden-the_row-Step-0}
use Rattle.rc_rlang.specs.declared.steps.Step.TheBlock.{hidden-the_row-Step-0}
use Rattle.rc_rlang.specs.declared.code.Code.{Code as CodeCode, Block, Row_of-Code, end_of-Code, more_of-Code, items-the_row-Code, items_hidden-the_row-Code-0}
use Rattle.rc_rlang.specs.declared.code.Code.TheBlock.{hidden-the_row-Code-0}
use Rattle.rc_rlang.specs.RegionCode.{more, both, one, fork, then, block}
use Rattle.rc_rlang.specs.Shapes.{step_of, row_steps, steps_of, code_of, row_codes, codes_of}

module _ (structs : List Struct) where
  pub row_steps-list : {m : _} (r : Row_of-Step m) → row_steps structs r ≡ steps_of structs (items-the_row-Step m r)
  row_steps-list end_of-Step = refl
  row_steps-list (more_of-Step s rest) = ap (more (step_of structs s)) (row_steps-list rest)

  pub row_codes-list : {m : _} (r : Row_of-Code m) → row_codes structs r ≡ codes_of structs (items-the_row-Code m r)
  row_codes-list end_of-Code = refl
  row_codes-list (more_of-Code c rest) = ap (then (code_of structs c)) (row_codes-list rest)

  hidden_steps : (v : Vec CodeStep Alloc) → row_steps structs (hidden-the_row-Step-0 v) ≡ steps_of structs v.items
  hidden_steps v = row_steps-list (hidden-the_row-Step-0 v) ∙ ap (steps_of structs) (items_hidden-the_row-Step-0 v)

  hidden_codes : (v : Vec CodeCode Alloc) → row_codes structs (hidden-the_row-Code-0 v) ≡ codes_of structs v.items
  hidden_codes v = row_codes-list (hidden-the_row-Code-0 v) ∙ ap (codes_of structs) (items_hidden-the_row-Code-0 v)

  -- of a node that is made

  pub made_fork : (line h : ℕ) (test result : CodeTy) (v w : Vec CodeStep Alloc) → step_of structs (Fork line h test result v w) ≡ fork line h (ty_of test) (ty_of result) (steps_of structs v.items) (steps_of structs w.items)
  made_fork line h test result v w =
      ap (λ a. fork line h (ty_of test) (ty_of result) a (row_steps structs (hidden-the_row-Step-0 w))) (hidden_steps v)
      ∙ ap (λ b. fork line h (ty_of test) (ty_of result) (steps_of structs v.items) b) (hidden_steps w)

  pub made_block : (v : Vec CodeCode Alloc) → code_of structs (Block v) ≡ block (codes_of structs v.items)
  made_block v = ap block (hidden_codes v)

  -- of a node that is looked at

  pub fork_is : (s : CodeStep) (line h : ℕ) (test result : CodeTy) (v w : Vec CodeStep Alloc) → s ≡ Fork line h test result v w → step_of structs s ≡ fork line h (ty_of test) (ty_of result) (steps_of structs v.items) (steps_of structs w.items)
  fork_is s line h test result v w e = ap (step_of structs) e ∙ made_fork line h test result v w

  pub block_is : (c : CodeCode) (v : Vec CodeCode Alloc) → c ≡ Block v → code_of structs c ≡ block (codes_of structs v.items)
  block_is c v e = ap (code_of structs) e ∙ made_block v

  -- of a list with one more

  pub steps_behind : (xs : List CodeStep) (s : CodeStep) → steps_of structs (xs ++ s ∷ []) ≡ both (steps_of structs xs) (one (step_of structs s))
  steps_behind [] s = refl
  steps_behind (x ∷ xs) s = ap (more (step_of structs x)) (steps_behind xs s)
