-- Small statements, and the nodes in them that delete. Local 0 is a region, 1 a pointer and 2 a number; function 1 deletes and function 2
-- doesn't.
use Rattle.std.specs.Prelude.{◌≡◌, ℕ, Bool, true, false, List, [], ◌∷◌, Some, None}
use Rattle.rc_core.specs.declared.ty.Note.TheVariants.{Plain}
use Rattle.rc_core.specs.declared.ty.NumberType.TheVariants.{Int, Char}
use Rattle.rc_core.specs.Types.{Ty, int, region, pointer}
use Rattle.rc_core.specs.Programs.{Expr, local, convert, call, none, more, Stmt, block, assign, evaluate, delete, branch, while, repeat, for, return, done, then, Function, Program}
use Rattle.rc_core.specs.Flow.{while_loop, for_loop, Item, statement, condition, round_end, Point}
use Rattle.rc_source_lists.specs.DeletingNodes.{Node, nodes}

abbrev pub types : List Ty
types = region ∷ pointer Plain int ∷ int ∷ []

abbrev pub function : (deletes : Bool) → Function
function deletes = record { parameters = 1; locals = types; result = Some int; deletes = deletes; line = 1; body = block done }

abbrev pub program : Program
program = record { structs = []; globals = []; strings = []; functions = function false ∷ function true ∷ function false ∷ []; main = 0 }

-- the nodes of a statement behind a function's entry
abbrev pub listed : Stmt → List Node
listed s = nodes program (function true) s 1 []

abbrev pub node : Item → Point → (point : ℕ) → Node
node item rest point = record { function = function true; item = item; rest = rest; point = point }

abbrev pub wipe : Expr
wipe = call 1 1 (more (local 1 0) none)

abbrev pub look : Expr
look = call 1 2 (more (local 1 0) none)

abbrev pub gone : Stmt
gone = delete 1 (local 1 0)

abbrev pub use_pointer : Stmt
use_pointer = evaluate 1 (local 1 1)

abbrev pub both : Stmt → Stmt → Stmt
both a b = block (then a (then b done))

abbrev pub nothing : Stmt
nothing = block done

abbrev pub converted : Expr
converted = convert 1 Char Int (convert 1 Int Char wipe)

abbrev pub set : Expr → Stmt
set e = assign 1 2 e

abbrev pub test : Expr
test = local 1 2

abbrev pub in_round : Stmt → Point
in_round body = round_end (while_loop test body) ∷ []

pub record NodeRows : Type 0 where
  pub deletion : listed (both gone use_pointer) ≡ node (statement gone) (statement use_pointer ∷ []) 2 ∷ []
  pub second : listed (both use_pointer gone) ≡ node (statement gone) [] 3 ∷ []
  -- what is behind the call in its own node stands behind its point
  pub assigned : listed (set converted) ≡ node (statement (set converted)) [] 2 ∷ []
  pub returned : listed (return 1 (Some wipe)) ≡ node (statement (return 1 (Some wipe))) [] 2 ∷ []
  -- a call of a function that doesn't delete
  pub quiet : listed (set look) ≡ []
  pub condition_of_if : listed (branch 1 wipe use_pointer gone) ≡ node (statement (branch 1 wipe use_pointer gone)) [] 2 ∷ node (statement gone) [] 6 ∷ []
  pub condition_of_while : listed (while 1 wipe nothing) ≡ node (condition (while_loop wipe nothing)) [] 3 ∷ []
  pub in_while : listed (while 1 test gone) ≡ node (statement gone) (in_round gone) 5 ∷ []
  -- of a `do` the body stands first, and of a `for` what runs between its rounds last
  pub condition_of_do : listed (repeat 1 gone wipe) ≡ node (statement gone) (round_end (while_loop wipe gone) ∷ []) 3 ∷ node (condition (while_loop wipe gone)) [] 5 ∷ []
  pub parts_of_for : listed (for 1 gone None (evaluate 1 wipe) use_pointer) ≡
      node (statement gone) (condition (for_loop None (evaluate 1 wipe) use_pointer) ∷ []) 2 ∷ node (statement (evaluate 1 wipe)) (condition (for_loop None (evaluate 1 wipe) use_pointer) ∷ []) 6 ∷ []
