-- Flow and liveness: what may follow what in a function, whatever conditions say, and which locals some way on uses before it
-- sets them. The nodes are the simple statements, the declarations, the conditions and the returns; a point is what is left to
-- do there, the first first. Blocks, loops, `break` and `continue` only lead on.
use Rattle.std.specs.Prelude.{◌≡◌, ℕ, Bool, false, ◌||◌, nat_eq, ◌⊎◌, ◌↔◌, List, [], ◌∷◌, Option, Some, IsTrue, IsFalse, IsSome}
use Rattle.rc_core.specs.Programs.{Expr, Stmt, block, declare, assign, store, update, copy, evaluate, delete, branch, while, repeat, for, break, continue, return, Stmts, done, then}
use Rattle.rc_core.specs.Live.{uses, place_uses, optional_uses, Ways}

-- a condition, what runs between a round's end and the condition, and the body
pub record Loop : Type 0 where
  pub test : Option Expr
  pub third : Stmt
  pub body : Stmt

-- nothing runs between
abbrev pub while_loop : (test : Expr) (body : Stmt) → Loop
while_loop test body = record { test = Some test; third = block done; body = body }

abbrev pub for_loop : (test : Option Expr) (third body : Stmt) → Loop
for_loop test third body = record { test = test; third = third; body = body }

pub data Item : Type 0 where
  statement : Stmt → Item
  condition : Loop → Item
  round_end : Loop → Item

abbrev pub Point : Type 0
Point = List Item

abbrev pub statements : Stmts → Point → Point
statements done rest = rest
statements (then s more) rest = statement s ∷ statements more rest

-- where a `break` leads: behind the innermost loop
abbrev pub out_of : Point → Point
out_of [] = []
out_of (statement s ∷ rest) = out_of rest
out_of (condition loop ∷ rest) = out_of rest
out_of (round_end loop ∷ rest) = rest

-- where a `continue` leads: to the end of the innermost loop's round
abbrev pub back_of : Point → Point
back_of [] = []
back_of (statement s ∷ rest) = back_of rest
back_of (condition loop ∷ rest) = back_of rest
back_of (round_end loop ∷ rest) = round_end loop ∷ rest

-- where the item leads, with the rest behind it; a `for` without a condition leads only into its body
abbrev pub Leads : Item → (rest next : Point) → Type 0
Leads (statement (block body)) rest next = next ≡ statements body rest
Leads (statement (branch line test a b)) rest next = (next ≡ statement a ∷ rest) ⊎ (next ≡ statement b ∷ rest)
Leads (statement (while line test body)) rest next = next ≡ condition (while_loop test body) ∷ rest
Leads (statement (repeat line body test)) rest next = next ≡ statement body ∷ round_end (while_loop test body) ∷ rest
Leads (statement (for line first test third body)) rest next = next ≡ statement first ∷ condition (for_loop test third body) ∷ rest
Leads (statement (break line)) rest next = next ≡ out_of rest
Leads (statement (continue line)) rest next = next ≡ back_of rest
Leads (statement (return line value)) rest next = ⊥
Leads (statement s) rest next = next ≡ rest
Leads (condition loop) rest next = (next ≡ statement loop.body ∷ round_end loop ∷ rest) ⊎ (IsSome loop.test × (next ≡ rest))
Leads (round_end loop) rest next = next ≡ statement loop.third ∷ condition loop ∷ rest

-- the node's text reads the local; what a call in it runs is no part of it
abbrev pub item_uses : Item → ℕ → Bool
item_uses (statement (declare line y value)) x = optional_uses value x
item_uses (statement (assign line y value)) x = uses value x
item_uses (statement (store line place value)) x = place_uses place x || uses value x
item_uses (statement (update line place change value)) x = place_uses place x || uses value x
item_uses (statement (copy line structure left right)) x = place_uses left x || place_uses right x
item_uses (statement (evaluate line value)) x = uses value x
item_uses (statement (delete line region)) x = uses region x
item_uses (statement (branch line test a b)) x = uses test x
item_uses (statement (return line value)) x = optional_uses value x
item_uses (statement s) x = false
item_uses (condition loop) x = optional_uses loop.test x
item_uses (round_end loop) x = false

abbrev pub item_sets : Item → ℕ → Bool
item_sets (statement (declare line y value)) x = nat_eq y x
item_sets (statement (assign line y value)) x = nat_eq y x
item_sets (statement s) x = false
item_sets (condition loop) x = false
item_sets (round_end loop) x = false

-- some way from the point comes to a use of the local, with no assignment to it before
pub data IsLive (x : ℕ) : Point → Type 0 where
  used : (here : Item) (rest : Point) → IsTrue (item_uses here x) → IsLive x (here ∷ rest)
  later : (here : Item) (rest next : Point) → IsFalse (item_sets here x) → Leads here rest next → IsLive x next → IsLive x (here ∷ rest)

-- where the item leads, the local is live
abbrev pub IsLiveBehind : (x : ℕ) → Item → (rest : Point) → Type 0
IsLiveBehind x here rest = (next : Point) × Leads here rest next × IsLive x next

-- the ways out of what stands before the point: each tells exactly the locals that are live where it leads
pub record AreLive (k : Ways) (point : Point) : Type 0 where
  pub next : (x : ℕ) → IsTrue (k.next x) ↔ IsLive x point
  pub broken : (x : ℕ) → IsTrue (k.broken x) ↔ IsLive x (out_of point)
  pub continued : (x : ℕ) → IsTrue (k.continued x) ↔ IsLive x (back_of point)
