-- What region code with rows of steps or of statements stands for: the shape of a row is that of its list.
use Rattle.std.proofs.Common.{◌≡◌, ℕ, List, refl, ap, ◌∙◌}
use Rattle.std.specs.declared.vec.Vec.{Vec}
use Rattle.std.specs.declared.alloc.Global.{Global as Alloc}
use Rattle.rc_core.specs.declared.ty.Ty.{Ty as CodeTy}
use Rattle.rc_core.specs.Shapes.{ty_of}
use Rattle.rc_core.specs.Programs.{Struct}
use Rattle.rc_rlang.specs.declared.steps.Step.{Step as CodeStep, Fork, Row_of-Step, end_of-Step, more_of-Step, items-the_row-Step, items_hidden-the_row-Step-0}
use Rattle.rc_rlang.specs.declared.steps.Step.TheBlock.{hidden-the_row-Step-0}
use Rattle.rc_rlang.specs.declared.code.Code.{Code as CodeCode, Block, Row_of-Code, end_of-Code, more_of-Code, items-the_row-Code, items_hidden-the_row-Code-0}
use Rattle.rc_rlang.specs.declared.code.Code.TheBlock.{hidden-the_row-Code-0}
use Rattle.rc_rlang.specs.RegionCode.{more, fork, then, block}
use Rattle.rc_rlang.specs.Shapes.{step_of, row_steps, steps_of, code_of, row_codes, codes_of}

module _ (structs : List Struct) where
  row_list : {m : _} (r : Row_of-Step m) → row_steps structs r ≡ steps_of structs (items-the_row-Step m r)
  row_list end_of-Step = refl
  row_list (more_of-Step s rest) = ap (more (step_of structs s)) (row_list rest)

  hidden : (v : Vec CodeStep Alloc) → row_steps structs (hidden-the_row-Step-0 v) ≡ steps_of structs v.items
  hidden v = row_list (hidden-the_row-Step-0 v) ∙ ap (steps_of structs) (items_hidden-the_row-Step-0 v)

  pub made_fork : (line h : ℕ) (test result : CodeTy) (yes' no' : Vec CodeStep Alloc) → step_of structs (Fork line h test result yes' no') ≡ fork line h (ty_of test) (ty_of result) (steps_of structs yes'.items) (steps_of structs no'.items)
  made_fork line h test result a b = ap (λ s. fork line h (ty_of test) (ty_of result) s (row_steps structs (hidden-the_row-Step-0 b))) (hidden a) ∙ ap (fork line h (ty_of test) (ty_of result) (steps_of structs a.items)) (hidden b)

  pub fork_is : (s : CodeStep) (line h : ℕ) (test result : CodeTy) (a b : Vec CodeStep Alloc) → s ≡ Fork line h test result a b → step_of structs s ≡ fork line h (ty_of test) (ty_of result) (steps_of structs a.items) (steps_of structs b.items)
  fork_is s line h test result a b e = ap (step_of structs) e ∙ made_fork line h test result a b

  codes_row : {m : _} (r : Row_of-Code m) → row_codes structs r ≡ codes_of structs (items-the_row-Code m r)
  codes_row end_of-Code = refl
  codes_row (more_of-Code c rest) = ap (then (code_of structs c)) (codes_row rest)

  hidden_codes : (v : Vec CodeCode Alloc) → row_codes structs (hidden-the_row-Code-0 v) ≡ codes_of structs v.items
  hidden_codes v = codes_row (hidden-the_row-Code-0 v) ∙ ap (codes_of structs) (items_hidden-the_row-Code-0 v)

  pub made_block : (v : Vec CodeCode Alloc) → code_of structs (Block v) ≡ block (codes_of structs v.items)
  made_block v = ap block (hidden_codes v)

  pub block_is : (c : CodeCode) (v : Vec CodeCode Alloc) → c ≡ Block v → code_of structs c ≡ block (codes_of structs v.items)
  block_is c v e = ap (code_of structs) e ∙ made_block v
