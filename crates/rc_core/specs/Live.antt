-- Which locals are live: those that some way on uses before it sets them, whatever conditions say. It is computed for one
-- local from whether it is live at each way out of a statement.
use Rattle.std.specs.Prelude.{ℕ, Bool, false, ◌||◌, ◌&&◌, not, nat_eq, Option, Some, None, is_some}
use Rattle.rc_core.specs.Programs.{Expr, constant, null, string, local, read, address, step, step_from, unary, binary, convert, not_zero, and, or, choose, is_null, same, call, new_region, new_subregion, region_of, allocate, allocate_array, putchar, getchar, Arguments, none, more, Place, global, pointed, indexed, Path, here, field, element, Stmt, block, declare, assign, store, update, copy, evaluate, delete, branch, while, repeat, for, break, continue, return, Stmts, done, then}

-- the expression reads the local
abbrev mutual
  pub uses : Expr → ℕ → Bool
  uses (constant line signedness value) x = false
  uses (null line) x = false
  uses (string line k) x = false
  uses (local line y) x = nat_eq y x
  uses (read line place) x = place_uses place x
  uses (address line g) x = false
  uses (step line direction p i) x = uses p x || uses i x
  uses (step_from line i p) x = uses i x || uses p x
  uses (unary line operator signedness e) x = uses e x
  uses (binary line operator signedness a b) x = uses a x || uses b x
  uses (convert line from to e) x = uses e x
  uses (not_zero line e) x = uses e x
  uses (and line a b) x = uses a x || uses b x
  uses (or line a b) x = uses a x || uses b x
  uses (choose line test a b) x = uses test x || (uses a x || uses b x)
  uses (is_null line wanted e) x = uses e x
  uses (same line wanted a b) x = uses a x || uses b x
  uses (call line f arguments) x = arguments_use arguments x
  uses (new_region line) x = false
  uses (new_subregion line r) x = uses r x
  uses (region_of line p) x = uses p x
  uses (allocate line r ty) x = uses r x
  uses (allocate_array line r n ty) x = uses r x || uses n x
  uses (putchar line e) x = uses e x
  uses (getchar line) x = false

  pub arguments_use : Arguments → ℕ → Bool
  arguments_use none x = false
  arguments_use (more e rest) x = uses e x || arguments_use rest x

  pub place_uses : Place → ℕ → Bool
  place_uses (global g path) x = path_uses path x
  place_uses (pointed p path) x = uses p x || path_uses path x
  place_uses (indexed p i path) x = uses p x || (uses i x || path_uses path x)

  pub path_uses : Path → ℕ → Bool
  path_uses here x = false
  path_uses (field s f rest) x = path_uses rest x
  path_uses (element s f i rest) x = uses i x || path_uses rest x

abbrev pub optional_uses : Option Expr → ℕ → Bool
optional_uses None x = false
optional_uses (Some e) x = uses e x

-- what is live where a statement ends, and where a break and a continue in it lead
pub record Ways : Type 0 where
  pub next : ℕ → Bool
  pub broken : ℕ → Bool
  pub continued : ℕ → Bool

-- out of the body of a loop that goes on with what is live there, and ends as said
abbrev pub round : (again : ℕ → Bool) → Ways → Ways
round again k = record { next = again; broken = k.next; continued = again }

abbrev pub then_live : (ℕ → Bool) → Ways → Ways
then_live next k = record { next = next; broken = k.broken; continued = k.continued }

-- live before a node that sets the local
abbrev pub unless_set : (y x : ℕ) → Bool → Bool
unless_set y x live = not (nat_eq y x) && live

-- once round a loop decides: what is live at its head by a second round is so by the first
abbrev mutual
  pub before : Stmt → Ways → ℕ → Bool
  before (block body) k x = before_all body k x
  before (declare line y value) k x = optional_uses value x || unless_set y x (k.next x)
  before (assign line y e) k x = uses e x || unless_set y x (k.next x)
  before (store line place e) k x = place_uses place x || (uses e x || k.next x)
  before (update line place change e) k x = place_uses place x || (uses e x || k.next x)
  before (copy line s left right) k x = place_uses left x || (place_uses right x || k.next x)
  before (evaluate line e) k x = uses e x || k.next x
  before (delete line e) k x = uses e x || k.next x
  before (branch line test a b) k x = uses test x || (before a k x || before b k x)
  before (while line test a) k x = uses test x || (k.next x || before a (round (λ _. false) k) x)
  before (repeat line a test) k x = before a (round (λ y. uses test y || k.next y) k) x
  before (for line first test third a) k x =
      before first (then_live (λ y. optional_uses test y || ((is_some test && k.next y) || before a (round (before third (then_live (λ _. false) k)) k) y)) k) x
  before (break line) k x = k.broken x
  before (continue line) k x = k.continued x
  before (return line value) k x = optional_uses value x

  pub before_all : Stmts → Ways → ℕ → Bool
  before_all done k x = k.next x
  before_all (then s rest) k x = before s (then_live (before_all rest k) k) x

-- at the head of a loop: before its condition, or before the body of a `do`
abbrev pub while_head : (test : Expr) (body : Stmt) → Ways → ℕ → Bool
while_head test body k x = before (while 0 test body) k x

abbrev pub repeat_head : (body : Stmt) (test : Expr) → Ways → ℕ → Bool
repeat_head body test k x = before (repeat 0 body test) k x

abbrev pub for_head : (test : Option Expr) (third body : Stmt) → Ways → ℕ → Bool
for_head test third body k x = before (for 0 (block done) test third body) k x

-- out of the parts of a loop
abbrev pub while_body : (test : Expr) (body : Stmt) → Ways → Ways
while_body test body k = round (while_head test body k) k

abbrev pub repeat_test : (body : Stmt) (test : Expr) → Ways → ℕ → Bool
repeat_test body test k x = uses test x || (k.next x || repeat_head body test k x)

abbrev pub repeat_body : (body : Stmt) (test : Expr) → Ways → Ways
repeat_body body test k = round (repeat_test body test k) k

abbrev pub for_third : (test : Option Expr) (third body : Stmt) → Ways → Ways
for_third test third body k = then_live (for_head test third body k) k

abbrev pub for_body : (test : Option Expr) (third body : Stmt) → Ways → Ways
for_body test third body k = round (before third (for_third test third body k)) k

-- behind a condition both ways count
abbrev pub either : (ℕ → Bool) → (ℕ → Bool) → ℕ → Bool
either a b x = a x || b x

-- no local is live where a body ends
abbrev pub at_end : Ways
at_end = record { next = λ _. false; broken = λ _. false; continued = λ _. false }
