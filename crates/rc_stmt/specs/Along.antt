-- How code that reads a symbol goes along with the reader of one word at a time, where the symbol stands inside another and
-- no expression is open around it.
use Rattle.std.specs.Prelude.{ℕ, ◌≡◌, ◌+◌, ◌-◌, ◌≤◌, List, Option, Some, None, Result, Ok, Err, false}
use Rattle.std.specs.declared.vec.Vec.{Vec}
use Rattle.std.specs.declared.alloc.Global.{Global}
use Rattle.rc_syntax.specs.declared.fault.ParseFault.{ParseFault}
use Rattle.rc_syntax.specs.declared.fault.ParseFault.TheVariants.{Syntax, Deep, Memory}
use Rattle.rc_syntax.specs.declared.word.Token.{Token as CodeToken}
use Rattle.rc_syntax.specs.declared.word.Mark.{Mark}
use Rattle.rc_syntax.specs.declared.word.Mark.TheVariants as m
use Rattle.rc_syntax.specs.declared.tree.Name.{Name}
use Rattle.rc_syntax.specs.declared.tree.Spot.{Spot}
use Rattle.rc_syntax.specs.declared.tree.Expr.{Expr}
use Rattle.std.specs.declared.boxed.Box.{Box}
use Rattle.rc_syntax.specs.declared.tree.BinaryOp.TheVariants as o
use Rattle.rc_syntax.specs.declared.tree.StepOp.TheVariants.{Increment, Decrement}
use Rattle.rc_stmt.specs.declared.simples.Assignment.{Assignment}
use Rattle.rc_stmt.specs.declared.simples.Assignment.TheVariants as a
use Rattle.rc_syntax.specs.declared.tree.Stmt.{Stmt}
use Rattle.rc_syntax.specs.Tokens as w
use Rattle.rc_syntax.specs.Tokens.{Word}
use Rattle.rc_syntax.specs.Shape as shape
use Rattle.rc_syntax.specs.Tree as t
use Rattle.rc_syntax.specs.Grammar as g
use Rattle.rc_syntax.specs.Grammar.{Symbol, TreeOf, adds}
use Rattle.rc_syntax.specs.reader.Todo.{Todo, build, read, sees, enter, is_stop}
use Rattle.rc_syntax.specs.reader.Reading.{is_close_brace, is_open, is_close}
use Rattle.rc_syntax.specs.reader.Steps.{Stack, frame, about, amid as at, run, opened, reached}
use Rattle.rc_words.specs.Words.{from, line_of, spot_of, word_at, Stands, is_name}
use Rattle.rc_expr.specs.Goes.{boxed_of, amid, inside, Goes}

-- The words of the symbol itself are nested so deep, and the reach of a word is what it is inside of the symbol.
pub record Outside (round depth : ℕ) {root s : Symbol} (k : Stack root s) : Type 0 where
  pub nested : round + (opened k + adds s) ≡ depth
  pub reach : (n r : ℕ) → reached k n r ≡ r

-- Code that reads a symbol, which is inside another that began at a spot and at place i, from its first word on: the reader
-- comes to what is left of the outer symbol, or answers the fault. The words around it are nested so deep.
pub record Parses {A : Type 0} (s : Symbol) (depth : ℕ) (tokens : List CodeToken) (q : ℕ) (shape : A → TreeOf s) (r : Result (A × ℕ) ParseFault) : Type 0 where
  pub goes : (root outer : Symbol) (round : ℕ) (own : Spot) (i : ℕ) (h : TreeOf s → Todo outer) (k : Stack root outer) → i ≤ q → Outside round depth k →
      Goes round tokens (λ a e. at own (h (shape a)) (e - i) k) (run round (about (frame own (q - i) h k)) (from tokens q)) r

-- The same, where the words of the symbol itself are nested so deep.
pub record Starts {A : Type 0} (s : Symbol) (depth : ℕ) (tokens : List CodeToken) (q : ℕ) (shape : A → TreeOf s) (r : Result (A × ℕ) ParseFault) : Type 0 where
  pub goes : (root outer : Symbol) (round : ℕ) (own : Spot) (i : ℕ) (h : TreeOf s → Todo outer) (k : Stack root outer) → i ≤ q → Outside round depth (frame own (q - i) h k) →
      Goes round tokens (λ a e. at own (h (shape a)) (e - i) k) (run round (about (frame own (q - i) h k)) (from tokens q)) r

-- The same of a symbol that began at q, of which the words before p were read, and this is left.
pub record Proceeds {A : Type 0} (s : Symbol) (depth : ℕ) (tokens : List CodeToken) (q p : ℕ) (td : Todo s) (shape : A → TreeOf s) (r : Result (A × ℕ) ParseFault) : Type 0 where
  pub goes : (root outer : Symbol) (round : ℕ) (own : Spot) (i : ℕ) (h : TreeOf s → Todo outer) (k : Stack root outer) → i ≤ q → Outside round depth (frame own (q - i) h k) →
      Goes round tokens (λ a e. at own (h (shape a)) (e - i) k) (run round (amid tokens q p td (frame own (q - i) h k)) (from tokens p)) r

-- What is left of a block after its body.
abbrev pub behind_body : t.Stmts → Todo g.Block
behind_body a = read (sees is_close_brace (build a))

-- Code that reads on in the body of a block that began at i, and whose body began at q: the reader comes to the longer body.
pub record Grows (depth : ℕ) (tokens : List CodeToken) (i q p : ℕ) (body : t.Stmts) (r : Result (Vec Stmt Global × ℕ) ParseFault) : Type 0 where
  pub goes : (root : Symbol) (round : ℕ) (k : Stack root g.Block) → Outside round depth k →
      Goes round tokens (λ a e. amid {s = g.Body} tokens q e (build (shape.stmts_of a.items)) (inside tokens i q behind_body k)) (run round (amid {s = g.Body} tokens q p (build body) (inside tokens i q behind_body k)) (from tokens p)) r

-- What a function that takes a name answers: the name where it stands, and the place after it.
abbrev pub IsNamed : List CodeToken → ℕ → Result (Name × ℕ) ParseFault → Type 0
IsNamed tokens i (Ok r) = Stands tokens i (w.name r.0.text) × (r.0.spot ≡ spot_of tokens i) × (r.1 ≡ i + 1)
IsNamed tokens i (Err (Syntax line)) = (is_name (word_at tokens i) ≡ false) × (line ≡ line_of tokens i)
IsNamed tokens i (Err (Deep line)) = ⊥
IsNamed tokens i (Err Memory) = Unit {0}

-- What a mark after a left side does with it.
abbrev pub assignment_in : Mark → Option Assignment
assignment_in m.Equal = Some a.Plain
assignment_in m.BarEqual = Some (a.Update o.BitOr)
assignment_in m.CaretEqual = Some (a.Update o.BitXor)
assignment_in m.AmpersandEqual = Some (a.Update o.BitAnd)
assignment_in m.ShiftLeftEqual = Some (a.Update o.ShiftLeft)
assignment_in m.ShiftRightEqual = Some (a.Update o.ShiftRight)
assignment_in m.PlusEqual = Some (a.Update o.Add)
assignment_in m.MinusEqual = Some (a.Update o.Subtract)
assignment_in m.StarEqual = Some (a.Update o.Multiply)
assignment_in m.SlashEqual = Some (a.Update o.Divide)
assignment_in m.PercentEqual = Some (a.Update o.Remainder)
assignment_in m.PlusPlus = Some (a.Step Increment)
assignment_in m.MinusMinus = Some (a.Step Decrement)
assignment_in _ = None

abbrev pub assignment_at : Option Word → Option Assignment
assignment_at (Some (w.mark x)) = assignment_in x
assignment_at _ = None

-- A mark that does this stands at a place.
abbrev pub AssignmentStands : List CodeToken → ℕ → Assignment → Type 0
AssignmentStands tokens i a = (x : Mark) × Stands tokens i (w.mark x) × (assignment_in x ≡ Some a)

-- A condition in parentheses, and what is left after it.
abbrev pub conditioned : (t.Expr → Todo g.Stmt) → Todo g.Stmt
conditioned f = read (sees is_open (enter (g.Level 0) (λ e. read (sees is_close (f e)))))

-- Code that reads a condition in parentheses inside a statement that began at i, whatever word is then to be read.
pub record ReadsCondition (depth : ℕ) (tokens : List CodeToken) (i p : ℕ) (r : Result (Box Expr Global × ℕ) ParseFault) : Type 0 where
  pub goes : (f : t.Expr → Todo g.Stmt) → ((e : t.Expr) → is_stop (f e) ≡ false) → (root : Symbol) (round : ℕ) (k : Stack root g.Stmt) → Outside round depth k →
      Goes round tokens (λ a e. amid tokens i e (f (boxed_of a)) k) (run round (amid tokens i p (conditioned f) k) (from tokens p)) r

-- What is left of a `for` after the first part of its head.
abbrev pub for_rest : Spot → t.ForStart → Todo g.Stmt
for_rest sp start = enter g.ExprEnd (λ e. enter g.SimpleEnd (λ x. enter g.Stmt (λ a. build (t.for_do sp start e x a))))
