-- What region code whose parts fit together becomes keeps a loader's rules: its locals are there, and its types agree also beside the
-- locals that emission adds.
use Rattle.std.proofs.Common.{◌≡◌, ◌<◌, ℕ, zero, suc, Bool, false, true, List, [], ◌∷◌, ◌++◌, length, refl, sym, ap, ◌∙◌, arith}
use Rattle.std.specs.Prelude.{Option, get_or}
use Rattle.rc_core.specs.declared.stmt.Change.TheVariants.{Compute, Step as Stepping}
use Rattle.rc_core.specs.Types.{Ty, int}
use Rattle.rc_kinds.proofs.Zips.{below_slice}
use Rattle.rc_rlang.specs.IsRlang.{IsRlang}
use Rattle.rc_rlang.specs.RegionCode as From
use Rattle.rc_rlang.specs.RegionCode.{Operation, Step, Steps, Act, Code, Codes, Routine, Rlang}
use Rattle.rc_rlang.specs.RegionFits.{CodeFits}
use Rattle.rc_rlang.specs.RegionKinds.{kind_ty, OperationKinded, StepKinded, StepsKinded, ActKinded, CodeKinded, CodesKinded}
use Rattle.rc_rlang.specs.RegionNames.{object_type, result_type, OperationStands, StepStands, StepsStand, ActStands, CodeStands, CodesStand}
use Rattle.rc_emission.specs.Served.{OperationServed, StepNames, StepsName, CodeNames, CodesName}
use Rattle.rc_emission.specs.KeptOperands.{slots_of}
use Rattle.rc_stack_rules.specs.Loadable.{IsInOrder}
use Rattle.rc_stack_rules.specs.Named.{RlangKeepsRules}
use Rattle.rc_stack_rules.specs.Named.{ActSets, CodeSets, CodesSet}
use Rattle.rc_stack_rules.proofs.Loading.{keeps_rules}
use Rattle.rc_stack_rules.proofs.NamedLocals.{names_locals}

in_front : (xs ys : List Ty) (x : ℕ) → x < length xs → get_or (xs ++ ys) x int ≡ get_or xs x int
in_front [] ys x lt = absurd (omega (arith, lt))
in_front (t ∷ xs) ys zero lt = refl
in_front (t ∷ xs) ys (suc x) lt = in_front xs ys x (omega (arith, lt))

module _ (r : Rlang) (locals : List Ty) (result : Option Ty) where
  operation_served : (op : Operation) (ty : Ty) → OperationStands r locals result ty op → OperationServed locals ty op
  operation_served (From.constant sign n) ty s = tt
  operation_served From.null ty s = tt
  operation_served (From.static g) ty s = tt
  operation_served (From.copy x) ty s = s
  operation_served (From.load a) ty s = tt
  operation_served (From.step d p n) ty s = tt
  operation_served (From.step_from n p) ty s = tt
  operation_served (From.unary o sign) ty s = tt
  operation_served (From.binary o sign right) ty s = tt
  operation_served (From.convert a b) ty s = tt
  operation_served (From.not_zero of) ty s = tt
  operation_served (From.truth of) ty s = tt
  operation_served (From.is_null wanted of) ty s = tt
  operation_served (From.same wanted of) ty s = tt
  operation_served (From.call g tys) ty s = tt
  operation_served From.new_region ty s = tt
  operation_served From.new_subregion ty s = tt
  operation_served (From.region_of of) ty s = tt
  operation_served (From.allocate made layout) ty s = tt
  operation_served (From.allocate_array made layout) ty s = tt
  operation_served From.putchar ty s = tt
  operation_served From.getchar ty s = tt

  mutual
    step_names : (s : Step) → StepStands r locals result s → StepNames locals s
    step_names (From.set line h ty op) s = operation_served op ty s
    step_names (From.fork line h test to a b) s = (steps_name a s.0, steps_name b s.1)

    steps_name : (steps : Steps) → StepsStand r locals result steps → StepsName locals steps
    steps_name From.none s = tt
    steps_name (From.more step rest) s = (step_names step s.0, steps_name rest s.1)

  mutual
    code_names : (looping : Bool) (c : Code) → CodeStands r locals result looping c → CodeNames locals c
    code_names looping (From.simple steps act) s = steps_name steps s.0
    code_names looping (From.clear line x ty) s = tt
    code_names looping (From.block codes) s = codes_name looping codes s
    code_names looping (From.branch steps test a b) s = (steps_name steps s.0, code_names looping a s.1, code_names looping b s.2)
    code_names looping (From.loop line steps test third a) s = (steps_name steps s.0, code_names false third s.1, code_names true a s.2)
    code_names looping (From.repeat line a steps test) s = (code_names true a s.0, steps_name steps s.1)
    code_names looping (From.break line) s = tt
    code_names looping (From.continue line) s = tt

    codes_name : (looping : Bool) (codes : Codes) → CodesStand r locals result looping codes → CodesName locals codes
    codes_name looping From.done s = tt
    codes_name looping (From.then c rest) s = (code_names looping c s.0, codes_name looping rest s.1)

  act_sets : (act : Act) → ActStands r locals result act → ActSets locals act
  act_sets From.drop s = tt
  act_sets (From.perform line f tys) s = tt
  act_sets (From.assign line x ty) s = below_slice locals x ty s
  act_sets (From.store line a) s = tt
  act_sets (From.update line a change ty) s = tt
  act_sets (From.move line layout left right) s = tt
  act_sets (From.delete line) s = tt
  act_sets (From.leave line ty) s = tt

  mutual
    code_sets : (looping : Bool) (c : Code) → CodeStands r locals result looping c → CodeSets locals c
    code_sets looping (From.simple steps act) s = act_sets act s.1
    code_sets looping (From.clear line x ty) s = below_slice locals x ty s
    code_sets looping (From.block codes) s = codes_set looping codes s
    code_sets looping (From.branch steps test a b) s = (code_sets looping a s.1, code_sets looping b s.2)
    code_sets looping (From.loop line steps test third a) s = (code_sets false third s.1, code_sets true a s.2)
    code_sets looping (From.repeat line a steps test) s = code_sets true a s.0
    code_sets looping (From.break line) s = tt
    code_sets looping (From.continue line) s = tt

    codes_set : (looping : Bool) (codes : Codes) → CodesStand r locals result looping codes → CodesSet locals codes
    codes_set looping From.done s = tt
    codes_set looping (From.then c rest) s = (code_sets looping c s.0, codes_set looping rest s.1)

module _ (r : Rlang) (locals more : List Ty) (result : Option Ty) (global_ty result_ty : ℕ → Ty) where
  operation_kinded : (op : Operation) (ty : Ty) → OperationStands r locals result ty op → OperationKinded locals global_ty result_ty ty op → OperationKinded (locals ++ more) global_ty result_ty ty op
  operation_kinded (From.constant sign n) ty s k = k
  operation_kinded From.null ty s k = k
  operation_kinded (From.static g) ty s k = k
  operation_kinded (From.copy x) ty s k = k ∙ ap kind_ty (sym (in_front locals more x s))
  operation_kinded (From.load a) ty s k = k
  operation_kinded (From.step d p n) ty s k = k
  operation_kinded (From.step_from n p) ty s k = k
  operation_kinded (From.unary o sign) ty s k = k
  operation_kinded (From.binary o sign right) ty s k = k
  operation_kinded (From.convert a b) ty s k = k
  operation_kinded (From.not_zero of) ty s k = k
  operation_kinded (From.truth of) ty s k = k
  operation_kinded (From.is_null wanted of) ty s k = k
  operation_kinded (From.same wanted of) ty s k = k
  operation_kinded (From.call g tys) ty s k = k
  operation_kinded From.new_region ty s k = k
  operation_kinded From.new_subregion ty s k = k
  operation_kinded (From.region_of of) ty s k = k
  operation_kinded (From.allocate made layout) ty s k = k
  operation_kinded (From.allocate_array made layout) ty s k = k
  operation_kinded From.putchar ty s k = k
  operation_kinded From.getchar ty s k = k

  mutual
    step_kinded : (s : Step) → StepStands r locals result s → StepKinded locals global_ty result_ty s → StepKinded (locals ++ more) global_ty result_ty s
    step_kinded (From.set line h ty op) s k = operation_kinded op ty s k
    step_kinded (From.fork line h test to a b) s k = (steps_kinded a s.0 k.0, steps_kinded b s.1 k.1)

    steps_kinded : (steps : Steps) → StepsStand r locals result steps → StepsKinded locals global_ty result_ty steps → StepsKinded (locals ++ more) global_ty result_ty steps
    steps_kinded From.none s k = tt
    steps_kinded (From.more step rest) s k = (step_kinded step s.0 k.0, steps_kinded rest s.1 k.1)

  act_kinded : (act : Act) → ActStands r locals result act → ActKinded locals global_ty result_ty act → ActKinded (locals ++ more) global_ty result_ty act
  act_kinded From.drop s k = tt
  act_kinded (From.perform line f tys) s k = tt
  act_kinded (From.assign line x ty) s k = ap kind_ty (in_front locals more x (below_slice locals x ty s)) ∙ k
  act_kinded (From.store line a) s k = tt
  act_kinded (From.update line a (Compute from operator sign) ty) s k = k
  act_kinded (From.update line a (Stepping direction) ty) s k = k
  act_kinded (From.move line layout left right) s k = tt
  act_kinded (From.delete line) s k = tt
  act_kinded (From.leave line ty) s k = tt

  mutual
    code_kinded : (looping : Bool) (c : Code) → CodeStands r locals result looping c → CodeKinded locals global_ty result_ty c → CodeKinded (locals ++ more) global_ty result_ty c
    code_kinded looping (From.simple steps act) s k = (steps_kinded steps s.0 k.0, act_kinded act s.1 k.1)
    code_kinded looping (From.clear line x ty) s k = ap kind_ty (in_front locals more x (below_slice locals x ty s)) ∙ k
    code_kinded looping (From.block codes) s k = codes_kinded looping codes s k
    code_kinded looping (From.branch steps test a b) s k = (steps_kinded steps s.0 k.0, code_kinded looping a s.1 k.1, code_kinded looping b s.2 k.2)
    code_kinded looping (From.loop line steps test third a) s k = (steps_kinded steps s.0 k.0, code_kinded false third s.1 k.1, code_kinded true a s.2 k.2)
    code_kinded looping (From.repeat line a steps test) s k = (code_kinded true a s.0 k.0, steps_kinded steps s.1 k.1)
    code_kinded looping (From.break line) s k = tt
    code_kinded looping (From.continue line) s k = tt

    codes_kinded : (looping : Bool) (codes : Codes) → CodesStand r locals result looping codes → CodesKinded locals global_ty result_ty codes → CodesKinded (locals ++ more) global_ty result_ty codes
    codes_kinded looping From.done s k = tt
    codes_kinded looping (From.then c rest) s k = (code_kinded looping c s.0 k.0, codes_kinded looping rest s.1 k.1)

module _ (r : Rlang) (f : Routine) (stands : CodeStands r f.locals f.result false f.body) where
  pub routine_in_order : CodeFits f.body → CodeKinded f.locals (object_type r) (result_type r) f.body → IsInOrder (object_type r) (result_type r) f
  routine_in_order fits kinded = (fits, code_names r f.locals f.result false f.body stands, code_kinded r f.locals (slots_of f).types f.result (object_type r) (result_type r) false f.body stands kinded)

  pub routine_sets : CodeSets f.locals f.body
  routine_sets = code_sets r f.locals f.result false f.body stands

pub rlang_keeps_rules : (r : Rlang) → IsRlang r → RlangKeepsRules r
rlang_keeps_rules r fits k f there =
    let own = fits.functions k f there in
    let ordered = routine_in_order r f own.stands own.in_order own.kinded in
    (keeps_rules (object_type r) (result_type r) f ordered, names_locals f (ordered.0, ordered.1, routine_sets r f own.stands))
