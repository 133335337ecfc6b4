-- The translation of programs into region code, a row for each expression and statement. `expression_code` puts an expression's value
-- into temporary h; what stands below h is left alone. The type beside h is that which the place of the expression asks for: a local's,
-- a cell's, a parameter's, the result's; only for NULL, and for what both ways of a choice give, is it more than the expression's own.
-- Operands go into h and the temporaries behind it, from left to right. `&&`, `||` and `?:` become forks. A condition ends in a branch,
-- where `!` asks for the other way and a test for null is the branch itself. Lines stay, and locals, globals, functions and struct types
-- keep their numbers. It refuses nothing: how much a program may need is told by its points and variables.
use Rattle.std.specs.Prelude.{ℕ, suc, ◌+◌, Bool, true, false, not, List, [], ◌∷◌, ◌++◌, length, map, get_or, slice_get, Option, Some, None, is_some, option_map, pos}
use Rattle.rc_core.specs.declared.ty.Note.TheVariants.{Plain}
use Rattle.rc_core.specs.declared.ty.Signedness.{Signedness}
use Rattle.rc_core.specs.declared.ty.Signedness.TheVariants.{Signed, Unsigned as Wrapping}
use Rattle.rc_core.specs.declared.operators.UnaryOperator.TheVariants.{Negate, Plus, Complement}
use Rattle.rc_core.specs.Types.{Ty, int, unsigned, char, region, struct, pointer}
use Rattle.rc_core.specs.Layout.{cells, offset, count_of, stride, field_at}
use Rattle.rc_core.specs.Typing.{value_type, number, arithmetic, result_type, parameters_of}
use Rattle.rc_core.specs.Programs.{Expr, constant, null, string, local, read, address, step, step_from, unary, binary, convert, not_zero, and, or, choose, is_null, same, call, new_region, new_subregion, region_of, allocate, allocate_array, putchar, getchar, Arguments, none, more, Place, global, pointed, indexed, Path, here, field, element, Stmt, block, declare, assign, store, update, copy, evaluate, delete, branch, while, repeat, for, break, continue, return, Stmts, done, then, Field, Global, Function, Program}
use Rattle.rc_core.specs.Execution.{local_type}
use Rattle.rc_rlang.specs.RegionCode as To
use Rattle.rc_rlang.specs.RegionCode.{Index, Access, Operation, Step, Steps, both, one, Act, Test, Code, Codes, Routine, Rlang}

abbrev pub pointee : Ty → Ty
pointee (pointer note target) = target
pointee ty = ty

abbrev pub field_type : Option Field → Ty
field_type None = int
field_type (Some d) = d.ty

abbrev pub global_type : Program → ℕ → Ty
global_type program g = global_of (slice_get program.globals g)
  where
    global_of : Option Global → Ty
    global_of None = int
    global_of (Some d) = d.ty

abbrev pub parameter_types : Program → ℕ → List Ty
parameter_types program f = types_of (slice_get program.functions f)
  where
    types_of : Option Function → List Ty
    types_of None = []
    types_of (Some g) = parameters_of g

abbrev pub call_type : Program → ℕ → Ty
call_type program f = result (slice_get program.functions f)
  where
    given : Option Ty → Ty
    given None = int
    given (Some ty) = value_type ty

    result : Option Function → Ty
    result None = int
    result (Some g) = given g.result

abbrev pub test_wanted : (null wanted : Bool) → Bool
test_wanted true wanted = not wanted
test_wanted false wanted = wanted

abbrev pub has_result : Program → ℕ → Bool
has_result program f = gives (slice_get program.functions f)
  where
    gives : Option Function → Bool
    gives None = true
    gives (Some g) = is_some g.result

abbrev pub one_of : {A : Type 0} → Bool → A → A → A
one_of true a b = a
one_of false a b = b

module _ (program : Program) (locals : List Ty) where
  -- the type of a value, and of a place
  abbrev mutual
    pub expression_type : Expr → Ty
    expression_type (constant line s n) = arithmetic s
    expression_type (null line) = region
    expression_type (string line k) = pointer Plain char
    expression_type (local line x) = value_type (get_or locals x int)
    expression_type (read line place) = value_type (place_type place)
    expression_type (address line g) = pointer Plain (global_type program g)
    expression_type (step line direction p i) = expression_type p
    expression_type (step_from line i p) = expression_type p
    expression_type (unary line operator s e) = arithmetic s
    expression_type (binary line operator s a b) = result_type operator s
    expression_type (convert line from to e) = number to
    expression_type (not_zero line e) = int
    expression_type (and line a b) = int
    expression_type (or line a b) = int
    expression_type (choose line test a b) = expression_type a
    expression_type (is_null line wanted e) = int
    expression_type (same line wanted a b) = int
    expression_type (call line f arguments) = call_type program f
    expression_type (new_region line) = region
    expression_type (new_subregion line r) = region
    expression_type (region_of line p) = region
    expression_type (allocate line r ty) = pointer Plain ty
    expression_type (allocate_array line r n ty) = pointer Plain ty
    expression_type (putchar line e) = int
    expression_type (getchar line) = int

    pub place_type : Place → Ty
    place_type (global g path) = path_type path (global_type program g)
    place_type (pointed p path) = path_type path (pointee (expression_type p))
    place_type (indexed p i path) = path_type path (pointee (expression_type p))

    pub path_type : Path → Ty → Ty
    path_type here ty = ty
    path_type (field s f rest) ty = path_type rest (field_type (field_at program.structs s f))
    path_type (element s f i rest) ty = path_type rest (field_type (field_at program.structs s f))

  -- an index, or the number of a pointer step
  abbrev pub signedness : Ty → Signedness
  signedness int = Signed
  signedness unsigned = Wrapping
  signedness ty = Signed

  -- what a place's pointer and an index are put in as
  abbrev pub pointer_type : Expr → Ty
  pointer_type p = pointer Plain (pointee (expression_type p))

  abbrev pub index_type : Expr → Ty
  index_type i = arithmetic (signedness (expression_type i))

  abbrev pub path_access : Path → Access → Access
  path_access here a = a
  path_access (field s f rest) a = path_access rest (record a { offset = a.offset + offset program.structs s f })
  path_access (element s f i rest) a =
      path_access rest (record a { offset = a.offset + offset program.structs s f; indices = a.indices ++ record { count = count_of program.structs s f; stride = stride program.structs s f; kind = signedness (expression_type i) } ∷ [] })

  abbrev pub first_access : Ty → Option Signedness → (cell : Ty) → Access
  first_access pointed_to shift cell = record { element = pointed_to; cell = cell; shift = shift; offset = 0; indices = [] }

  abbrev pub access : Place → Access
  access (global g path) = path_access path (first_access (global_type program g) None (place_type (global g path)))
  access (pointed p path) = path_access path (first_access (pointee (expression_type p)) None (place_type (pointed p path)))
  access (indexed p i path) = path_access path (first_access (pointee (expression_type p)) (Some (signedness (expression_type i))) (place_type (indexed p i path)))

  -- an argument is of its parameter's type
  abbrev pub argument_types : Arguments → List Ty → List Ty
  argument_types none tys = []
  argument_types (more e rest) [] = expression_type e ∷ argument_types rest []
  argument_types (more e rest) (ty ∷ tys) = ty ∷ argument_types rest tys

  abbrev mutual
    pub expression_code : Expr → Ty → (h : ℕ) → Steps
    expression_code (constant line s n) ty h = one (To.set line h ty (To.constant s n))
    expression_code (null line) ty h = one (To.set line h ty To.null)
    expression_code (string line k) ty h = one (To.set line h ty (To.static (length program.globals + k)))
    expression_code (local line x) ty h = one (To.set line h ty (To.copy x))
    expression_code (read line place) ty h = both (place_code line place h) (one (To.set line h ty (To.load (access place))))
    expression_code (address line g) ty h = one (To.set line h ty (To.static g))
    expression_code (step line direction p i) ty h = both (expression_code p (pointer_type p) h) (both (expression_code i (index_type i) (suc h)) (one (To.set line h ty (To.step direction (pointer_type p) (index_type i)))))
    expression_code (step_from line i p) ty h = both (expression_code i (index_type i) h) (both (expression_code p (pointer_type p) (suc h)) (one (To.set line h ty (To.step_from (index_type i) (pointer_type p)))))
    expression_code (unary line Negate s e) ty h = both (expression_code e (arithmetic s) h) (one (To.set line h ty (To.unary Negate s)))
    expression_code (unary line Plus s e) ty h = expression_code e ty h
    expression_code (unary line Complement s e) ty h = both (expression_code e (arithmetic s) h) (one (To.set line h ty (To.unary Complement s)))
    expression_code (binary line operator s a b) ty h = both (expression_code a (arithmetic s) h) (both (expression_code b (expression_type b) (suc h)) (one (To.set line h ty (To.binary operator s (expression_type b)))))
    expression_code (convert line from to e) ty h = both (expression_code e (number from) h) (one (To.set line h ty (To.convert from to)))
    expression_code (not_zero line e) ty h = both (expression_code e (expression_type e) h) (one (To.set line h ty (To.not_zero (expression_type e))))
    expression_code (and line a b) ty h =
        both (expression_code a (expression_type a) h) (one (To.fork line h (expression_type a) ty
        (both (expression_code b (expression_type b) h) (one (To.set line h ty (To.truth (expression_type b)))))
        (one (To.set line h ty (To.constant Signed (pos 0))))))
    expression_code (or line a b) ty h =
        both (expression_code a (expression_type a) h) (one (To.fork line h (expression_type a) ty
        (one (To.set line h ty (To.constant Signed (pos 1))))
        (both (expression_code b (expression_type b) h) (one (To.set line h ty (To.truth (expression_type b)))))))
    expression_code (choose line test a b) ty h = both (expression_code test (expression_type test) h) (one (To.fork line h (expression_type test) ty (expression_code a ty h) (expression_code b ty h)))
    expression_code (is_null line wanted e) ty h = both (expression_code e (expression_type e) h) (one (To.set line h ty (To.is_null wanted (expression_type e))))
    expression_code (same line wanted a b) ty h = both (expression_code a (expression_type a) h) (both (expression_code b (expression_type a) (suc h)) (one (To.set line h ty (To.same wanted (expression_type a)))))
    expression_code (call line f arguments) ty h = both (arguments_code arguments (parameter_types program f) h) (one (To.set line h ty (To.call f (argument_types arguments (parameter_types program f)))))
    expression_code (new_region line) ty h = one (To.set line h ty To.new_region)
    expression_code (new_subregion line r) ty h = both (expression_code r region h) (one (To.set line h ty To.new_subregion))
    expression_code (region_of line p) ty h = both (expression_code p (expression_type p) h) (one (To.set line h ty (To.region_of (expression_type p))))
    expression_code (allocate line r made) ty h = both (expression_code r region h) (one (To.set line h ty (To.allocate made (cells program.structs made))))
    expression_code (allocate_array line r n made) ty h = both (expression_code r region h) (both (expression_code n int (suc h)) (one (To.set line h ty (To.allocate_array made (cells program.structs made)))))
    expression_code (putchar line e) ty h = both (expression_code e int h) (one (To.set line h ty To.putchar))
    expression_code (getchar line) ty h = one (To.set line h ty To.getchar)

    pub arguments_code : Arguments → List Ty → (h : ℕ) → Steps
    arguments_code none tys h = To.none
    arguments_code (more e rest) [] h = both (expression_code e (value_type (expression_type e)) h) (arguments_code rest [] (suc h))
    arguments_code (more e rest) (ty ∷ tys) h = both (expression_code e (value_type ty) h) (arguments_code rest tys (suc h))

    -- the pointer, the shift and the indices, from temporary h on
    pub place_code : (line : ℕ) → Place → (h : ℕ) → Steps
    place_code line (global g path) h = both (one (To.set line h (pointer Plain (global_type program g)) (To.static g))) (path_code path (suc h))
    place_code line (pointed p path) h = both (expression_code p (pointer_type p) h) (path_code path (suc h))
    place_code line (indexed p i path) h = both (expression_code p (pointer_type p) h) (both (expression_code i (index_type i) (suc h)) (path_code path (suc (suc h))))

    pub path_code : Path → (h : ℕ) → Steps
    path_code here h = To.none
    path_code (field s f rest) h = path_code rest h
    path_code (element s f i rest) h = both (expression_code i (index_type i) h) (path_code rest (suc h))

  abbrev pub whole : Expr → Steps
  whole e = expression_code e (expression_type e) 0

  -- a condition: `!` exchanges its ways, and a test for null is a branch on null
  abbrev pub condition_code : Expr → Steps
  condition_code (not_zero line e) = condition_code e
  condition_code (is_null line wanted e) = whole e
  condition_code e = whole e

  abbrev pub condition_test : (line : ℕ) → (wanted : Bool) → Expr → Test
  condition_test line wanted (not_zero own e) = condition_test line (not wanted) e
  condition_test line wanted (is_null own isnull e) = record { line = line; ty = expression_type e; wanted = test_wanted isnull wanted }
  condition_test line wanted e = record { line = line; ty = expression_type e; wanted = wanted }

  abbrev pub optional_condition : Option Expr → Steps
  optional_condition None = To.none
  optional_condition (Some e) = condition_code e

  -- a value that is let go
  abbrev pub evaluate_code : (line : ℕ) → Expr → Code
  evaluate_code line (call own f arguments) =
      one_of (has_result program f) (To.simple (whole (call own f arguments)) To.drop)
      (To.simple (arguments_code arguments (parameter_types program f) 0) (To.perform own f (argument_types arguments (parameter_types program f))))
  evaluate_code line e = To.simple (whole e) To.drop

abbrev pub returned_type : Option Ty → Ty
returned_type None = int
returned_type (Some ty) = value_type ty

module _ (program : Program) (f : Function) where
  abbrev mutual
    pub statement_code : Stmt → Code
    statement_code (block body) = To.block (body_code body)
    statement_code (declare line x None) = To.clear line x (local_type f x)
    statement_code (declare line x (Some e)) = To.simple (expression_code program f.locals e (value_type (local_type f x)) 0) (To.assign line x (local_type f x))
    statement_code (assign line x e) = To.simple (expression_code program f.locals e (value_type (local_type f x)) 0) (To.assign line x (local_type f x))
    statement_code (store line place e) =
        let a = access program f.locals place in
        To.simple (both (place_code program f.locals line place 0) (expression_code program f.locals e (value_type a.cell) (To.width a))) (To.store line a)
    statement_code (update line place change e) =
        let a = access program f.locals place in
        To.simple (both (place_code program f.locals line place 0) (expression_code program f.locals e (expression_type program f.locals e) (To.width a))) (To.update line a change (expression_type program f.locals e))
    statement_code (copy line s left right) =
        let a = access program f.locals left in
        To.simple (both (place_code program f.locals line left 0) (place_code program f.locals line right (To.width a))) (To.move line (cells program.structs (struct s)) a (access program f.locals right))
    statement_code (evaluate line e) = evaluate_code program f.locals line e
    statement_code (delete line e) = To.simple (expression_code program f.locals e region 0) (To.delete line)
    statement_code (branch line test a b) = To.branch (condition_code program f.locals test) (condition_test program f.locals line true test) (statement_code a) (statement_code b)
    statement_code (while line test body) = To.loop line (condition_code program f.locals test) (Some (condition_test program f.locals line true test)) (To.block To.done) (statement_code body)
    statement_code (repeat line body test) = To.repeat line (statement_code body) (condition_code program f.locals test) (condition_test program f.locals line true test)
    statement_code (for line first test third body) =
        To.block (To.then (statement_code first) (To.then (To.loop line (optional_condition program f.locals test) (option_map (condition_test program f.locals line true) test) (statement_code third) (statement_code body)) To.done))
    statement_code (break line) = To.break line
    statement_code (continue line) = To.continue line
    statement_code (return line None) = To.simple To.none (To.leave line None)
    statement_code (return line (Some e)) = To.simple (expression_code program f.locals e (returned_type f.result) 0) (To.leave line (option_map value_type f.result))

    pub body_code : Stmts → Codes
    body_code done = To.done
    body_code (then s rest) = To.then (statement_code s) (body_code rest)

abbrev pub routine_of : Program → Function → Routine
routine_of program f = record { parameters = f.parameters; locals = f.locals; result = f.result; deletes = f.deletes; line = f.line; body = statement_code program f f.body }

abbrev pub region_of_program : Program → Rlang
region_of_program p = record { structs = p.structs; globals = p.globals; strings = p.strings; functions = map (routine_of p) p.functions; main = p.main }
