-- Types of expressions, places and statements. A value's type has no annotation on its last star; a cell, a local and a
-- parameter take each value of their type, whatever their own last star says.
use Rattle.std.specs.Prelude.{◌≡◌, ◌<◌, ◌≤◌, ℤ, pos, negsuc, Bool, true, false, not, nat_lt, IsTrue, IsSome, IfSome, List, [], ◌∷◌, length, take, slice_get, Some, None, option_map, ◌⊎◌}
use Rattle.rc_base.specs.Limits.{most_copied_cells}
use Rattle.rc_core.specs.declared.ty.Note.TheVariants.{Plain}
use Rattle.rc_core.specs.declared.ty.NumberType.{NumberType}
use Rattle.rc_core.specs.declared.ty.NumberType.TheVariants.{Int, Unsigned, Char}
use Rattle.rc_core.specs.declared.ty.Signedness.{Signedness}
use Rattle.rc_core.specs.declared.ty.Signedness.TheVariants.{Signed, Unsigned as Wrapping}
use Rattle.rc_core.specs.declared.operators.Operator.{Operator}
use Rattle.rc_core.specs.declared.operators.Operator.TheVariants.{ShiftLeft, ShiftRight, Less, Greater, LessEqual, GreaterEqual, Equal, NotEqual}
use Rattle.rc_core.specs.declared.stmt.Change.{Change}
use Rattle.rc_core.specs.declared.stmt.Change.TheVariants.{Compute, Step}
use Rattle.rc_core.specs.Numbers.{fits_int}
use Rattle.rc_core.specs.Arithmetic.{type_of}
use Rattle.rc_core.specs.Types.{Ty, int, unsigned, char, region, struct, pointer}
use Rattle.rc_core.specs.Programs.{Expr, constant, null, string, local, read, address, step, step_from, unary, binary, convert, not_zero, and, or, choose, is_null, same, call, new_region, new_subregion, region_of, allocate, allocate_array, putchar, getchar, Arguments, none, more, Place, global, pointed, indexed, Path, here, field, element, Stmt, block, declare, assign, store, update, copy, evaluate, delete, branch, while, repeat, for, break, continue, return, Stmts, done, then, Field, Struct, Global, Function, Program}
use Rattle.rc_core.specs.Layout.{size, field_at}

-- the values of a type of numbers
abbrev pub fits : NumberType → ℤ → Bool
fits Int z = fits_int z
fits Unsigned (pos n) = nat_lt n 4294967296
fits Unsigned (negsuc n) = false
fits Char (pos n) = nat_lt n 256
fits Char (negsuc n) = false

abbrev pub number : NumberType → Ty
number Int = int
number Unsigned = unsigned
number Char = char

-- what arithmetic is done in, `int` or `unsigned`
abbrev pub arithmetic : Signedness → Ty
arithmetic s = number (type_of s)

abbrev pub promoted : NumberType → Signedness
promoted Int = Signed
promoted Unsigned = Wrapping
promoted Char = Signed

-- of a value that is kept in a cell or local of the type
abbrev pub value_type : Ty → Ty
value_type int = int
value_type unsigned = unsigned
value_type char = char
value_type region = region
value_type (struct k) = struct k
value_type (pointer note target) = pointer Plain target

abbrev pub is_struct : Ty → Bool
is_struct (struct k) = true
is_struct t = false

abbrev pub is_pointer : Ty → Bool
is_pointer (pointer note target) = true
is_pointer t = false

-- what may be null
abbrev pub is_reference : Ty → Bool
is_reference region = true
is_reference (pointer note target) = true
is_reference t = false

abbrev pub is_shift : Operator → Bool
is_shift ShiftLeft = true
is_shift ShiftRight = true
is_shift op = false

abbrev pub is_comparison : Operator → Bool
is_comparison Less = true
is_comparison Greater = true
is_comparison LessEqual = true
is_comparison GreaterEqual = true
is_comparison Equal = true
is_comparison NotEqual = true
is_comparison op = false

abbrev pub result_if : (comparison : Bool) → Signedness → Ty
result_if true s = int
result_if false s = arithmetic s

abbrev pub result_type : Operator → Signedness → Ty
result_type op s = result_if (is_comparison op) s

-- the count of a shift keeps its own type, every other right side has the left side's
abbrev pub IsRight : Operator → (left right : Signedness) → Type 0
IsRight op left right = IsTrue (is_shift op) ⊎ (right ≡ left)

-- the left side has its promoted type, or `unsigned` on account of the right side
abbrev pub IsLeft : Operator → (own : Signedness) → Signedness → Type 0
IsLeft op own s = (own ≡ s) ⊎ ((s ≡ Wrapping) × IsTrue (not (is_shift op)))

abbrev pub is_null_word : Expr → Bool
is_null_word (null line) = true
is_null_word e = false

-- the word NULL is no operand
abbrev pub NotNull : Expr → Type 0
NotNull e = IsTrue (not (is_null_word e))

-- the structs that a type names are there
abbrev pub IsDefined : List Struct → Ty → Type 0
IsDefined structs int = Unit {0}
IsDefined structs unsigned = Unit {0}
IsDefined structs char = Unit {0}
IsDefined structs region = Unit {0}
IsDefined structs (struct k) = k < length structs
IsDefined structs (pointer note target) = IsDefined structs target

abbrev pub parameters_of : Function → List Ty
parameters_of f = take f.parameters f.locals

-- an index, and the number of a pointer step, is `int` or `unsigned`
module _ (program : Program) (locals : List Ty) where
  abbrev mutual
    pub HasType : Expr → Ty → Type 0
    HasType (constant line s n) t = (t ≡ arithmetic s) × IsTrue (fits (type_of s) n)
    HasType (null line) t = IsTrue (is_reference t) × (t ≡ value_type t)
    HasType (string line k) t = (t ≡ pointer Plain char) × (k < length program.strings)
    HasType (local line x) t = (u : Ty) × ((slice_get locals x ≡ Some u) × (t ≡ value_type u))
    HasType (read line place) t = (u : Ty) × (IsPlace place u × IsTrue (not (is_struct u)) × (t ≡ value_type u))
    HasType (address line g) t = (d : Global) × ((slice_get program.globals g ≡ Some d) × (t ≡ pointer Plain d.ty))
    HasType (step line direction e i) t = IsTrue (is_pointer t) × NotNull e × HasType e t × ((s : Signedness) × HasType i (arithmetic s))
    HasType (step_from line i e) t = IsTrue (is_pointer t) × NotNull e × HasType e t × ((s : Signedness) × HasType i (arithmetic s))
    HasType (unary line op s e) t = (t ≡ arithmetic s) × HasType e (arithmetic s)
    HasType (binary line op s a b) t = (t ≡ result_type op s) × HasType a (arithmetic s) × ((r : Signedness) × (IsRight op s r × HasType b (arithmetic r)))
    HasType (convert line from to e) t = (t ≡ number to) × ¬ (from ≡ to) × HasType e (number from)
    HasType (not_zero line e) t = (t ≡ int) × ((k : NumberType) × HasType e (number k))
    HasType (and line a b) t = (t ≡ int) × NotNull a × NotNull b × ((u : Ty) × HasType a u) × ((u : Ty) × HasType b u)
    HasType (or line a b) t = (t ≡ int) × NotNull a × NotNull b × ((u : Ty) × HasType a u) × ((u : Ty) × HasType b u)
    HasType (choose line test a b) t = NotNull test × ((u : Ty) × HasType test u) × ((s : Signedness) × (t ≡ arithmetic s)) × HasType a t × HasType b t
    HasType (is_null line wanted e) t = (t ≡ int) × NotNull e × ((u : Ty) × (IsTrue (is_reference u) × HasType e u))
    HasType (same line wanted a b) t = (t ≡ int) × NotNull a × NotNull b × ((u : Ty) × (IsTrue (is_reference u) × HasType a u × HasType b u))
    HasType (call line f arguments) t = (g : Function) × ((slice_get program.functions f ≡ Some g) × (option_map value_type g.result ≡ Some t) × AreArguments arguments (parameters_of g))
    HasType (new_region line) t = t ≡ region
    HasType (new_subregion line r) t = (t ≡ region) × HasType r region
    HasType (region_of line e) t = (t ≡ region) × NotNull e × ((u : Ty) × (IsTrue (is_pointer u) × HasType e u))
    HasType (allocate line r u) t = (t ≡ pointer Plain u) × IsDefined program.structs u × HasType r region
    HasType (allocate_array line r n u) t = (t ≡ pointer Plain u) × IsDefined program.structs u × HasType r region × HasType n int
    HasType (putchar line e) t = (t ≡ int) × HasType e int
    HasType (getchar line) t = t ≡ int

    pub AreArguments : Arguments → List Ty → Type 0
    AreArguments none [] = Unit {0}
    AreArguments none (t ∷ ts) = ⊥
    AreArguments (more e rest) [] = ⊥
    AreArguments (more e rest) (t ∷ ts) = HasType e (value_type t) × AreArguments rest ts

    pub IsPlace : Place → Ty → Type 0
    IsPlace (global g path) t = (d : Global) × ((slice_get program.globals g ≡ Some d) × (d.count ≡ None) × LeadsTo path d.ty t)
    IsPlace (pointed e path) t = NotNull e × ((u : Ty) × (HasType e (pointer Plain u) × LeadsTo path u t))
    IsPlace (indexed e i path) t = NotNull e × ((u : Ty) × (HasType e (pointer Plain u) × ((s : Signedness) × HasType i (arithmetic s)) × LeadsTo path u t))

    -- from a place of the first type inward to one of the second
    pub LeadsTo : Path → Ty → Ty → Type 0
    LeadsTo here u t = u ≡ t
    LeadsTo (field s f rest) u t = (u ≡ struct s) × ((d : Field) × ((field_at program.structs s f ≡ Some d) × (d.count ≡ None) × LeadsTo rest d.ty t))
    LeadsTo (element s f i rest) u t = (u ≡ struct s) × ((d : Field) × ((field_at program.structs s f ≡ Some d) × IsSome d.count × ((r : Signedness) × HasType i (arithmetic r)) × LeadsTo rest d.ty t))

  -- a number, pointer or region that is looked at, or let go
  abbrev pub IsValue : Expr → Type 0
  IsValue e = NotNull e × ((t : Ty) × HasType e t)

  -- an expression statement may call a function without a result
  abbrev pub Runs : Expr → Type 0
  Runs (call line f arguments) = (g : Function) × ((slice_get program.functions f ≡ Some g) × AreArguments arguments (parameters_of g))
  Runs e = IsValue e

  abbrev pub Takes : (place : Ty) → Change → Expr → Type 0
  Takes t (Compute from op s) e = (t ≡ number from) × IsTrue (not (is_comparison op)) × IsLeft op (promoted from) s × ((r : Signedness) × (IsRight op s r × HasType e (arithmetic r)))
  Takes t (Step direction) e = IsTrue (is_pointer t) × ((s : Signedness) × HasType e (arithmetic s))

-- what may stand between the parentheses of a `for`: an assignment, an expression, a deletion, or nothing. It runs straight
-- through: no loop, jump or `return` is one
abbrev pub IsSimple : Stmt → Type 0
IsSimple (block done) = Unit {0}
IsSimple (block (then s rest)) = ⊥
IsSimple (declare line x value) = ⊥
IsSimple (assign line x e) = Unit {0}
IsSimple (store line place e) = Unit {0}
IsSimple (update line place change e) = Unit {0}
IsSimple (copy line s left right) = Unit {0}
IsSimple (evaluate line e) = Unit {0}
IsSimple (delete line e) = Unit {0}
IsSimple (branch line test a b) = ⊥
IsSimple (while line test a) = ⊥
IsSimple (repeat line a test) = ⊥
IsSimple (for line first test third a) = ⊥
IsSimple (break line) = ⊥
IsSimple (continue line) = ⊥
IsSimple (return line value) = ⊥

abbrev pub AreDeclarations : Stmts → Type 0
AreDeclarations done = Unit {0}
AreDeclarations (then (declare line x value) rest) = AreDeclarations rest
AreDeclarations (then s rest) = ⊥

-- the first part of a `for` may also be declarations, in a block
abbrev pub IsStart : Stmt → Type 0
IsStart (block body) = AreDeclarations body
IsStart s = IsSimple s

module _ (program : Program) (f : Function) where
  -- in a loop, or not
  abbrev mutual
    pub IsTyped : (loop : Bool) → Stmt → Type 0
    IsTyped loop (block body) = AreTyped loop body
    IsTyped loop (declare line x value) = (t : Ty) × ((slice_get f.locals x ≡ Some t) × IfSome value (λ e. HasType program f.locals e (value_type t)))
    IsTyped loop (assign line x e) = (t : Ty) × ((slice_get f.locals x ≡ Some t) × HasType program f.locals e (value_type t))
    IsTyped loop (store line place e) = (t : Ty) × (IsPlace program f.locals place t × IsTrue (not (is_struct t)) × HasType program f.locals e (value_type t))
    IsTyped loop (update line place change e) = (t : Ty) × (IsPlace program f.locals place t × Takes program f.locals t change e)
    IsTyped loop (copy line s left right) = IsPlace program f.locals left (struct s) × IsPlace program f.locals right (struct s) × (s < length program.structs) × (size program.structs (struct s) ≤ most_copied_cells)
    IsTyped loop (evaluate line e) = Runs program f.locals e
    IsTyped loop (delete line e) = HasType program f.locals e region
    IsTyped loop (branch line test a b) = IsValue program f.locals test × IsTyped loop a × IsTyped loop b
    IsTyped loop (while line test a) = IsValue program f.locals test × IsTyped true a
    IsTyped loop (repeat line a test) = IsTyped true a × IsValue program f.locals test
    IsTyped loop (for line first test third a) = IsTyped loop first × IfSome test (IsValue program f.locals) × IsTyped loop third × IsTyped true a × IsStart first × IsSimple third
    IsTyped loop (break line) = IsTrue loop
    IsTyped loop (continue line) = IsTrue loop
    IsTyped loop (return line None) = f.result ≡ None
    IsTyped loop (return line (Some e)) = (t : Ty) × ((f.result ≡ Some t) × HasType program f.locals e (value_type t))

    pub AreTyped : (loop : Bool) → Stmts → Type 0
    AreTyped loop done = Unit {0}
    AreTyped loop (then s rest) = IsTyped loop s × AreTyped loop rest
