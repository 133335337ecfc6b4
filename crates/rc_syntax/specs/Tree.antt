-- Trees as definitions speak of them: lists for lists, and no boxes. Spots, names, bases, operators and constants have
-- neither, and are those of the code.
use Rattle.std.specs.Prelude.{ℕ, Bool, List, Option}
use Rattle.rc_syntax.specs.declared.tree.Spot.{Spot}
use Rattle.rc_syntax.specs.declared.tree.Name.{Name}
use Rattle.rc_syntax.specs.declared.tree.Note.{Note}
use Rattle.rc_syntax.specs.declared.tree.Base.{Base}
use Rattle.rc_syntax.specs.declared.tree.CastType.{CastType}
use Rattle.rc_syntax.specs.declared.tree.UnaryOp.{UnaryOp}
use Rattle.rc_syntax.specs.declared.tree.BinaryOp.{BinaryOp}
use Rattle.rc_syntax.specs.declared.tree.StepOp.{StepOp}
use Rattle.rc_syntax.specs.declared.tree.Constant.{Constant}

-- a base, and a note for each star behind it
pub record TypeName : Type 0 where
  pub base : Base
  pub stars : List Note

-- an expression, and a list of them; each but a name and a call has its spot first
mutual
  pub data Expr : Type 0 where
    number : Spot → ℕ → Bool → Expr
    character : Spot → ℕ → Expr
    string : Spot → List ℕ → Expr
    null : Spot → Expr
    eof : Spot → Expr
    variable : Name → Expr
    call : Name → Exprs → Expr
    ralloc : Spot → Expr → TypeName → Expr
    rarrayalloc : Spot → Expr → Expr → TypeName → Expr
    index : Spot → Expr → Expr → Expr
    member : Spot → Expr → Name → Expr
    arrow : Spot → Expr → Name → Expr
    unary : Spot → UnaryOp → Expr → Expr
    cast : Spot → CastType → Expr → Expr
    binary : Spot → BinaryOp → Expr → Expr → Expr
    conditional : Spot → Expr → Expr → Expr → Expr

  pub data Exprs : Type 0 where
    none : Exprs
    more : Expr → Exprs → Exprs

pub data Simple : Type 0 where
  expression : Expr → Simple
  assign : Spot → Expr → Expr → Simple
  update : Spot → BinaryOp → Expr → Expr → Simple
  step_after : Spot → StepOp → Expr → Simple
  step_before : Spot → StepOp → Expr → Simple

pub record Local : Type 0 where
  pub spot : Spot
  pub type_name : TypeName
  pub name : Name
  pub initial : Option Expr

pub data ForStart : Type 0 where
  nothing : ForStart
  simply : Simple → ForStart
  locals : List Local → ForStart

-- a statement or a declarator of a local, and a list of them
mutual
  pub data Stmt : Type 0 where
    local : Local → Stmt
    block : Spot → Stmts → Stmt
    empty : Spot → Stmt
    simple : Spot → Simple → Stmt
    if_then : Spot → Expr → Stmt → Stmt
    if_else : Spot → Expr → Stmt → Stmt → Stmt
    while_do : Spot → Expr → Stmt → Stmt
    do_while : Spot → Stmt → Expr → Stmt
    for_do : Spot → ForStart → Option Expr → Option Simple → Stmt → Stmt
    break_loop : Spot → Stmt
    continue_loop : Spot → Stmt
    return_with : Spot → Option Expr → Stmt

  pub data Stmts : Type 0 where
    done : Stmts
    next : Stmt → Stmts → Stmts

pub record Field : Type 0 where
  pub spot : Spot
  pub type_name : TypeName
  pub name : Name
  pub length : Option ℕ

pub record Param : Type 0 where
  pub spot : Spot
  pub type_name : TypeName
  pub name : Option Name

pub data Item : Type 0 where
  struct : Spot → Name → List Field → Item
  global : Spot → TypeName → Name → Option ℕ → Option Constant → Item
  function : Spot → Bool → Option TypeName → Name → List Param → Option Stmts → Item

-- the items of a text
pub record Tree : Type 0 where
  pub items : List Item
