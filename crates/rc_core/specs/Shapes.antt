-- What the types of programs in code stand for in definitions: the same trees without boxes and buffers.
use Rattle.std.specs.Prelude.{ℕ, List, [], ◌∷◌, map, option_map}
use Rattle.std.specs.declared.vec.Vec.{Vec}
use Rattle.std.specs.declared.alloc.Global.{Global as Alloc}
use Rattle.rc_core.specs.declared.ty.Ty.{Ty as CodeTy, Int, Unsigned, Char, Region, Struct, Pointer'}
use Rattle.rc_core.specs.declared.expr.Expr.{Expr as CodeExpr, Constant, Null, Str, Local, Read, Address, Step', StepFrom', Unary', Binary', Convert', Not', And', Or', Choose', IsNull', Same', Call', NewRegion, NewSubregion', RegionOf', Allocate', AllocateArray', Putchar', Getchar, Row_of-Expr, end_of-Expr, more_of-Expr}
use Rattle.rc_core.specs.declared.expr.Place.{Place as CodePlace, Global', Pointed', Indexed', Row_of-PathStep, end_of-PathStep, more_of-PathStep}
use Rattle.rc_core.specs.declared.expr.PathStep.{PathStep as CodeStep, Field, Element}
use Rattle.rc_core.specs.declared.stmt.Stmt.{Stmt as CodeStmt, Block', Declare, Assign, Store, Update, Copy, Evaluate, Delete, If', While', Do', For', Break, Continue, Return, Row_of-Stmt, end_of-Stmt, more_of-Stmt}
use Rattle.rc_core.specs.declared.layout.CellKind.{CellKind as CodeKind}
use Rattle.rc_core.specs.declared.layout.CellKind.TheVariants.{Int as IntCell, Unsigned as UnsignedCell, Char as CharCell, Region as RegionCell, Pointer as PointerCell}
use Rattle.rc_core.specs.declared.layout.Layout.{Layout as CodeLayout}
use Rattle.rc_core.specs.declared.parts.Field.{Field as CodeField}
use Rattle.rc_core.specs.declared.parts.Struct.{Struct as CodeStruct}
use Rattle.rc_core.specs.declared.parts.Global.{Global as CodeGlobal}
use Rattle.rc_core.specs.declared.parts.Function.{Function as CodeFunction}
use Rattle.rc_core.specs.declared.parts.Parts.{Parts}
use Rattle.rc_core.specs.Types.{Ty, int, unsigned, char, region, struct, pointer, CellKind, int_cell, unsigned_cell, char_cell, region_cell, pointer_cell}
use Rattle.rc_core.specs.Layout.{Layout}
use Rattle.rc_core.specs.Programs.{Expr, constant, null, string, local, read, address, step, step_from, unary, binary, convert, not_zero, and, or, choose, is_null, same, call, new_region, new_subregion, region_of, allocate, allocate_array, putchar, getchar, Arguments, none, more, Place, global, pointed, indexed, Path, here, field, element, Stmt, block, declare, assign, store, update, copy, evaluate, delete, branch, while, repeat, for, break, continue, return, Stmts, done, then, Field as CleanField, Struct as CleanStruct, Global, Function, Program}

abbrev pub ty_of : CodeTy → Ty
ty_of Int = int
ty_of Unsigned = unsigned
ty_of Char = char
ty_of Region = region
ty_of (Struct number) = struct number
ty_of (Pointer' note p target) = pointer note (ty_of target)

abbrev pub cell_kind_of : CodeKind → CellKind
cell_kind_of IntCell = int_cell
cell_kind_of UnsignedCell = unsigned_cell
cell_kind_of CharCell = char_cell
cell_kind_of RegionCell = region_cell
cell_kind_of (PointerCell note target) = pointer_cell note (ty_of target)

abbrev pub kinds_in : CodeLayout → Layout
kinds_in l = map cell_kind_of l.cells.items

abbrev mutual
  pub expr_of : CodeExpr → Expr
  expr_of (Constant line signedness value) = constant line signedness value
  expr_of (Null line) = null line
  expr_of (Str line k) = string line k
  expr_of (Local line x) = local line x
  expr_of (Read line place) = read line (place_of place)
  expr_of (Address line g) = address line g
  expr_of (Step' line direction p e q number) = step line direction (expr_of e) (expr_of number)
  expr_of (StepFrom' line p number q e) = step_from line (expr_of number) (expr_of e)
  expr_of (Unary' line operator signedness p e) = unary line operator signedness (expr_of e)
  expr_of (Binary' line operator signedness p a q b) = binary line operator signedness (expr_of a) (expr_of b)
  expr_of (Convert' line from to p e) = convert line from to (expr_of e)
  expr_of (Not' line p e) = not_zero line (expr_of e)
  expr_of (And' line p a q b) = and line (expr_of a) (expr_of b)
  expr_of (Or' line p a q b) = or line (expr_of a) (expr_of b)
  expr_of (Choose' line p test q a r b) = choose line (expr_of test) (expr_of a) (expr_of b)
  expr_of (IsNull' line wanted p e) = is_null line wanted (expr_of e)
  expr_of (Same' line wanted p a q b) = same line wanted (expr_of a) (expr_of b)
  expr_of (Call' line f shape arguments) = call line f (row_arguments arguments)
  expr_of (NewRegion line) = new_region line
  expr_of (NewSubregion' line p parent) = new_subregion line (expr_of parent)
  expr_of (RegionOf' line p e) = region_of line (expr_of e)
  expr_of (Allocate' line p r ty) = allocate line (expr_of r) (ty_of ty)
  expr_of (AllocateArray' line p r q n ty) = allocate_array line (expr_of r) (expr_of n) (ty_of ty)
  expr_of (Putchar' line p byte) = putchar line (expr_of byte)
  expr_of (Getchar line) = getchar line

  pub row_arguments : {m : _} → Row_of-Expr m → Arguments
  row_arguments end_of-Expr = none
  row_arguments (more_of-Expr e rest) = more (expr_of e) (row_arguments rest)

  pub place_of : CodePlace → Place
  place_of (Global' g shape path) = global g (row_path path)
  place_of (Pointed' p e shape path) = pointed (expr_of e) (row_path path)
  place_of (Indexed' p e q index shape path) = indexed (expr_of e) (expr_of index) (row_path path)

  pub row_path : {m : _} → Row_of-PathStep m → Path
  row_path end_of-PathStep = here
  row_path (more_of-PathStep s rest) = inward s (row_path rest)

  pub inward : CodeStep → Path → Path
  inward (Field s f) rest = field s f rest
  inward (Element s f i) rest = element s f (expr_of i) rest

abbrev mutual
  pub stmt_of : CodeStmt → Stmt
  stmt_of (Block' shape body) = block (row_stmts body)
  stmt_of (Declare line x value) = declare line x (option_map expr_of value)
  stmt_of (Assign line x e) = assign line x (expr_of e)
  stmt_of (Store line place e) = store line (place_of place) (expr_of e)
  stmt_of (Update line place change e) = update line (place_of place) change (expr_of e)
  stmt_of (Copy line s left right) = copy line s (place_of left) (place_of right)
  stmt_of (Evaluate line e) = evaluate line (expr_of e)
  stmt_of (Delete line e) = delete line (expr_of e)
  stmt_of (If' line test p a q b) = branch line (expr_of test) (stmt_of a) (stmt_of b)
  stmt_of (While' line test p body) = while line (expr_of test) (stmt_of body)
  stmt_of (Do' line p body test) = repeat line (stmt_of body) (expr_of test)
  stmt_of (For' line p first test q third r body) = for line (stmt_of first) (option_map expr_of test) (stmt_of third) (stmt_of body)
  stmt_of (Break line) = break line
  stmt_of (Continue line) = continue line
  stmt_of (Return line value) = return line (option_map expr_of value)

  pub row_stmts : {m : _} → Row_of-Stmt m → Stmts
  row_stmts end_of-Stmt = done
  row_stmts (more_of-Stmt s rest) = then (stmt_of s) (row_stmts rest)

-- arguments, statements and steps of a path, from lists
abbrev pub arguments_listed : List Expr → Arguments
arguments_listed [] = none
arguments_listed (e ∷ es) = more e (arguments_listed es)

abbrev pub stmts_listed : List Stmt → Stmts
stmts_listed [] = done
stmts_listed (s ∷ rest) = then s (stmts_listed rest)

abbrev pub arguments_of : List CodeExpr → Arguments
arguments_of es = arguments_listed (map expr_of es)

abbrev pub stmts_of : List CodeStmt → Stmts
stmts_of body = stmts_listed (map stmt_of body)

abbrev pub path_of : List CodeStep → Path
path_of [] = here
path_of (s ∷ steps) = inward s (path_of steps)

abbrev pub field_of : CodeField → CleanField
field_of f = record { ty = ty_of f.ty; count = f.length }

abbrev pub struct_of : CodeStruct → CleanStruct
struct_of s = map field_of s.fields.items

abbrev pub global_of : CodeGlobal → Global
global_of g = record { ty = ty_of g.ty; count = g.length; initial = g.initial }

abbrev pub function_of : CodeFunction → Function
function_of f = record { parameters = f.parameters; locals = map ty_of f.locals.items; result = option_map ty_of f.result; deletes = f.deletes; line = f.line; body = stmt_of f.body }

abbrev pub bytes_of : Vec ℕ Alloc → List ℕ
bytes_of bytes = bytes.items

abbrev pub program_of : Parts → Program
program_of p = record { structs = map struct_of p.structs.items; globals = map global_of p.globals.items; strings = map bytes_of p.strings.items; functions = map function_of p.functions.items; main = p.main }
