-- Programs as definitions speak of them. Each node has the line of its first word; structs, fields, globals, strings,
-- functions and locals are named by their numbers, from 0 in the order of the text.
use Rattle.std.specs.Prelude.{ℕ, ℤ, Bool, List, Option}
use Rattle.rc_core.specs.declared.ty.NumberType.{NumberType}
use Rattle.rc_core.specs.declared.ty.Signedness.{Signedness}
use Rattle.rc_core.specs.declared.operators.UnaryOperator.{UnaryOperator}
use Rattle.rc_core.specs.declared.operators.Operator.{Operator}
use Rattle.rc_core.specs.declared.operators.Direction.{Direction}
use Rattle.rc_core.specs.declared.stmt.Change.{Change}
use Rattle.rc_core.specs.Types.{Ty}

mutual
  pub data Expr : Type 0 where
    -- 7, 7u, 'a', EOF
    constant : (line : ℕ) → Signedness → (value : ℤ) → Expr
    -- NULL
    null : (line : ℕ) → Expr
    -- "abc", the pointer to its first byte
    string : (line string : ℕ) → Expr
    -- x
    local : (line local : ℕ) → Expr
    -- a place as a value: g, p->f, a[i], *p
    read : (line : ℕ) → Place → Expr
    -- &g, and the name of a global array: the pointer to its first element
    address : (line global : ℕ) → Expr
    -- p + e, p - e, &p[e]
    step : (line : ℕ) → Direction → (pointer number : Expr) → Expr
    -- e + p, which evaluates the number first
    step_from : (line : ℕ) → (number pointer : Expr) → Expr
    -- -e, +e, ~e
    unary : (line : ℕ) → UnaryOperator → Signedness → (operand : Expr) → Expr
    -- e + d and the like, on two numbers of one type but for the count of a shift
    binary : (line : ℕ) → Operator → Signedness → (left right : Expr) → Expr
    -- (int) e, and where C converts unsaid; the types differ
    convert : (line : ℕ) → (from to : NumberType) → (operand : Expr) → Expr
    -- !e of a number: 1 where it is zero, else 0
    not_zero : (line : ℕ) → (operand : Expr) → Expr
    -- e && d
    and : (line : ℕ) → (left right : Expr) → Expr
    -- e || d
    or : (line : ℕ) → (left right : Expr) → Expr
    -- e ? d : c
    choose : (line : ℕ) → (test yes no : Expr) → Expr
    -- p == NULL, !p where null is wanted; p != NULL where it isn't
    is_null : (line : ℕ) → (wanted : Bool) → (operand : Expr) → Expr
    -- p == q where equal ones are wanted; p != q where they aren't
    same : (line : ℕ) → (wanted : Bool) → (left right : Expr) → Expr
    -- f(e, d)
    call : (line function : ℕ) → Arguments → Expr
    -- newregion()
    new_region : (line : ℕ) → Expr
    -- newsubregion(r)
    new_subregion : (line : ℕ) → (parent : Expr) → Expr
    -- regionof(p)
    region_of : (line : ℕ) → (pointer : Expr) → Expr
    -- ralloc(r, T)
    allocate : (line : ℕ) → (region : Expr) → Ty → Expr
    -- rarrayalloc(r, e, T)
    allocate_array : (line : ℕ) → (region number : Expr) → Ty → Expr
    -- putchar(e)
    putchar : (line : ℕ) → (byte : Expr) → Expr
    -- getchar()
    getchar : (line : ℕ) → Expr

  pub data Arguments : Type 0 where
    none : Arguments
    more : Expr → Arguments → Arguments

  -- an element of an object, and the way from there to a cell, or to the first of a struct's
  pub data Place : Type 0 where
    -- g
    global : (global : ℕ) → Path → Place
    -- *p; with a path p->f, (*p).f
    pointed : (pointer : Expr) → Path → Place
    -- a[i]; with a path a[i].f
    indexed : (pointer index : Expr) → Path → Place

  -- from a struct to a field, to one element of an array field
  pub data Path : Type 0 where
    -- no further
    here : Path
    -- .f
    field : (structure field : ℕ) → Path → Path
    -- .f[i]
    element : (structure field : ℕ) → (index : Expr) → Path → Path

mutual
  pub data Stmt : Type 0 where
    -- { .. }, and the empty statement
    block : Stmts → Stmt
    -- int x; int x = e;
    declare : (line local : ℕ) → Option Expr → Stmt
    -- x = e; x += e; x++;
    assign : (line local : ℕ) → (value : Expr) → Stmt
    -- p->f = e; and the like, on any place of one cell
    store : (line : ℕ) → Place → (value : Expr) → Stmt
    -- p->f += e; p->f++; and the like
    update : (line : ℕ) → Place → Change → (value : Expr) → Stmt
    -- *p = *q; of structs, whole
    copy : (line structure : ℕ) → (left right : Place) → Stmt
    -- e;
    evaluate : (line : ℕ) → Expr → Stmt
    -- deleteregion(r);
    delete : (line : ℕ) → (region : Expr) → Stmt
    -- if (e) .. else ..; without `else`, `no` is an empty block
    branch : (line : ℕ) → (test : Expr) → (yes no : Stmt) → Stmt
    -- while (e) ..
    while : (line : ℕ) → (test : Expr) → (body : Stmt) → Stmt
    -- do .. while (e);
    repeat : (line : ℕ) → (body : Stmt) → (test : Expr) → Stmt
    -- for (first; test; third) ..; where `first` or `third` isn't there it is an empty block, and declarations are a block
    for : (line : ℕ) → (first : Stmt) → (test : Option Expr) → (third body : Stmt) → Stmt
    -- break;
    break : (line : ℕ) → Stmt
    -- continue;
    continue : (line : ℕ) → Stmt
    -- return; return e;
    return : (line : ℕ) → Option Expr → Stmt

  pub data Stmts : Type 0 where
    done : Stmts
    then : Stmt → Stmts → Stmts

-- one value, or an array of a length
pub record Field : Type 0 where
  pub ty : Ty
  pub count : Option ℕ

-- a struct is its fields in order
abbrev pub Struct : Type 0
Struct = List Field

pub record Global : Type 0 where
  pub ty : Ty
  pub count : Option ℕ
  pub initial : ℤ

-- the first locals are the parameters
pub record Function : Type 0 where
  pub parameters : ℕ
  pub locals : List Ty
  pub result : Option Ty
  pub deletes : Bool
  pub line : ℕ
  pub body : Stmt

pub record Program : Type 0 where
  pub structs : List Struct
  pub globals : List Global
  pub strings : List (List ℕ)
  pub functions : List Function
  pub main : ℕ
