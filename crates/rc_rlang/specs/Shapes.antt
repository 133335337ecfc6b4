-- What the types of region code in code stand for in definitions: the same trees without boxes and buffers. An allocation and a copy
-- of a struct name a type alone there, and its cells are read off the structs.
use Rattle.std.specs.Prelude.{List, [], ◌∷◌, map, option_map}
use Rattle.rc_core.specs.Types.{struct}
use Rattle.rc_core.specs.Layout.{cells}
use Rattle.rc_core.specs.Programs.{Struct}
use Rattle.rc_core.specs.Shapes.{ty_of, struct_of, global_of, bytes_of}
use Rattle.rc_rlang.specs.declared.access.Index.{Index as CodeIndex}
use Rattle.rc_rlang.specs.declared.access.Access.{Access as CodeAccess}
use Rattle.rc_rlang.specs.declared.steps.Operation.{Operation as CodeOperation}
use Rattle.rc_rlang.specs.declared.steps.Operation.TheVariants.{Constant, Null, Static, Copy, Load, Step as Stepping, StepFrom, Unary, Binary, Convert, NotZero, Truth, IsNull, Same, Call, NewRegion, NewSubregion, RegionOf, Allocate, AllocateArray, Putchar, Getchar}
use Rattle.rc_rlang.specs.declared.steps.Step.{Step as CodeStep, Set, Fork', Row_of-Step, end_of-Step, more_of-Step}
use Rattle.rc_rlang.specs.declared.code.Act.{Act as CodeAct}
use Rattle.rc_rlang.specs.declared.code.Act.TheVariants.{Drop, Perform, Assign, Store, Update, Move, Delete, Leave}
use Rattle.rc_rlang.specs.declared.code.Test.{Test as CodeTest}
use Rattle.rc_rlang.specs.declared.code.Code.{Code as CodeCode, Simple, Clear, Block', Branch', Loop', Repeat', Break, Continue, Row_of-Code, end_of-Code, more_of-Code}
use Rattle.rc_rlang.specs.declared.code.Routine.{Routine as CodeRoutine}
use Rattle.rc_rlang.specs.declared.code.RegionParts.{RegionParts}
use Rattle.rc_rlang.specs.RegionCode.{Index, Access, Operation, constant, null, static, copy, load, step, step_from, unary, binary, convert, not_zero, truth, is_null, same, call, new_region, new_subregion, region_of, allocate, allocate_array, putchar, getchar, Step, set, fork, Steps, none, more, Act, drop, perform, assign, store, update, move, delete, leave, Test, Code, simple, clear, block, branch, loop, repeat, break, continue, Codes, done, then, Routine, Rlang}

abbrev pub index_of : CodeIndex → Index
index_of i = record { count = i.count; stride = i.stride; kind = i.signedness }

abbrev pub access_of : CodeAccess → Access
access_of a = record { element = ty_of a.element; cell = ty_of a.cell; shift = a.shift; offset = a.offset; indices = map index_of a.indices.items }

abbrev pub test_of : CodeTest → Test
test_of t = record { line = t.line; ty = ty_of t.ty; wanted = t.wanted }

-- steps and codes, from lists
abbrev pub steps_listed : List Step → Steps
steps_listed [] = none
steps_listed (s ∷ rest) = more s (steps_listed rest)

abbrev pub codes_listed : List Code → Codes
codes_listed [] = done
codes_listed (c ∷ rest) = then c (codes_listed rest)

module _ (structs : List Struct) where
  abbrev pub operation_of : CodeOperation → Operation
  operation_of (Constant signedness value) = constant signedness value
  operation_of Null = null
  operation_of (Static object) = static object
  operation_of (Copy local) = copy local
  operation_of (Load access) = load (access_of access)
  operation_of (Stepping direction pointer number) = step direction (ty_of pointer) (ty_of number)
  operation_of (StepFrom number pointer) = step_from (ty_of number) (ty_of pointer)
  operation_of (Unary operator signedness) = unary operator signedness
  operation_of (Binary operator signedness right) = binary operator signedness (ty_of right)
  operation_of (Convert from to) = convert from to
  operation_of (NotZero operand) = not_zero (ty_of operand)
  operation_of (Truth operand) = truth (ty_of operand)
  operation_of (IsNull wanted operand) = is_null wanted (ty_of operand)
  operation_of (Same wanted operand) = same wanted (ty_of operand)
  operation_of (Call function parameters) = call function (map ty_of parameters.items)
  operation_of NewRegion = new_region
  operation_of NewSubregion = new_subregion
  operation_of (RegionOf operand) = region_of (ty_of operand)
  operation_of (Allocate element) = allocate (ty_of element) (cells structs (ty_of element))
  operation_of (AllocateArray element) = allocate_array (ty_of element) (cells structs (ty_of element))
  operation_of Putchar = putchar
  operation_of Getchar = getchar

  abbrev mutual
    pub step_of : CodeStep → Step
    step_of (Set line temporary ty operation) = set line temporary (ty_of ty) (operation_of operation)
    step_of (Fork' line temporary test result shape_a a shape_b b) = fork line temporary (ty_of test) (ty_of result) (row_steps a) (row_steps b)

    pub row_steps : {m : _} → Row_of-Step m → Steps
    row_steps end_of-Step = none
    row_steps (more_of-Step s rest) = more (step_of s) (row_steps rest)

  abbrev pub steps_of : List CodeStep → Steps
  steps_of steps = steps_listed (map step_of steps)

  abbrev pub act_of : CodeAct → Act
  act_of Drop = drop
  act_of (Perform line function parameters) = perform line function (map ty_of parameters.items)
  act_of (Assign line local ty) = assign line local (ty_of ty)
  act_of (Store line access) = store line (access_of access)
  act_of (Update line access change operand) = update line (access_of access) change (ty_of operand)
  act_of (Move line structure left right) = move line (cells structs (struct structure)) (access_of left) (access_of right)
  act_of (Delete line) = delete line
  act_of (Leave line result) = leave line (option_map ty_of result)

  abbrev mutual
    pub code_of : CodeCode → Code
    code_of (Simple steps act) = simple (steps_of steps.items) (act_of act)
    code_of (Clear line local ty) = clear line local (ty_of ty)
    code_of (Block' shape body) = block (row_codes body)
    code_of (Branch' steps test p a q b) = branch (steps_of steps.items) (test_of test) (code_of a) (code_of b)
    code_of (Loop' line steps test p third q body) = loop line (steps_of steps.items) (option_map test_of test) (code_of third) (code_of body)
    code_of (Repeat' line p body steps test) = repeat line (code_of body) (steps_of steps.items) (test_of test)
    code_of (Break line) = break line
    code_of (Continue line) = continue line

    pub row_codes : {m : _} → Row_of-Code m → Codes
    row_codes end_of-Code = done
    row_codes (more_of-Code c rest) = then (code_of c) (row_codes rest)

  abbrev pub codes_of : List CodeCode → Codes
  codes_of body = codes_listed (map code_of body)

  abbrev pub routine_in : CodeRoutine → Routine
  routine_in r = record { parameters = r.parameters; locals = map ty_of r.locals.items; result = option_map ty_of r.result; deletes = r.deletes; line = r.line; body = code_of r.body }

abbrev pub rlang_of : RegionParts → Rlang
rlang_of p = record { structs = map struct_of p.structs.items; globals = map global_of p.globals.items; strings = map bytes_of p.strings.items; functions = map (routine_in (map struct_of p.structs.items)) p.functions.items; main = p.main }
