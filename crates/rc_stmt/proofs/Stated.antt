-- Laws of reading statements: what their words lead to, and what code that reads them goes along with.
use Rattle.std.proofs.Common.{ℕ, ◌≡◌, ◌<◌, ◌≤◌, ◌+◌, ◌-◌, List, [], ◌∷◌, ◌++◌, map, Some, None, Option, Bool, true, false, not, ◌||◌, cond, nat_lt, length, refl, ap, sym, ◌∙◌, subst, arith, Result, Ok, Err}
use Rattle.std.specs.Prelude.{IfOk, IsErrAnd}
use Rattle.std.specs.declared.vec.Vec.{Vec}
use Rattle.std.specs.declared.alloc.Global.{Global}
use Rattle.std.specs.declared.boxed.Box.{Box}
use Rattle.std.proofs.lemmas.Result.{err_from_is_err_and}
use Rattle.std.proofs.lemmas.Bool.Decides.{nat_tests}
use Rattle.rc_syntax.specs.declared.fault.ParseFault.{ParseFault}
use Rattle.rc_syntax.specs.declared.fault.ParseFault.TheVariants.{Syntax, Deep, Memory}
use Rattle.rc_syntax.specs.declared.word.Token.{Token as CodeToken}
use Rattle.rc_syntax.specs.declared.word.Key.TheVariants as y
use Rattle.rc_syntax.specs.declared.word.Mark.{Mark}
use Rattle.rc_syntax.specs.declared.word.Mark.TheVariants as m
use Rattle.rc_syntax.specs.declared.tree.Spot.{Spot}
use Rattle.rc_syntax.specs.declared.tree.Expr.{Expr}
use Rattle.rc_syntax.specs.declared.tree.StepOp.{StepOp}
use Rattle.rc_syntax.specs.declared.tree.StepOp.TheVariants.{Increment, Decrement}
use Rattle.rc_stmt.specs.declared.simples.Assignment.{Assignment}
use Rattle.rc_stmt.specs.declared.simples.Assignment.TheVariants as a
use Rattle.rc_syntax.specs.Tokens as w
use Rattle.rc_syntax.specs.Tokens.{Word, mark, key}
use Rattle.rc_syntax.specs.Tree as t
use Rattle.rc_syntax.specs.declared.tree.Stmt.{Stmt as StmtTree, Local}
use Rattle.rc_syntax.specs.declared.tree.Local.{Local as LocalTree}
use Rattle.rc_syntax.specs.Shape.{stmt_of, local_of, stmts_of as all_of}
use Rattle.rc_syntax.specs.Grammar.{Symbol, TreeOf, Placed, Simple, SimpleEnd, ExprEnd, ForStart, Stmt, Block, Body, Locals, Level, Unary, adds, step_of, joined, stmts_of}
use Rattle.rc_syntax.specs.reader.Todo.{Todo, build, stop, try, enter, resume, read, sees, when, is_stop, refuses, deeper, Deeper, only, within}
use Rattle.rc_syntax.specs.reader.Reading as r
use Rattle.rc_syntax.specs.reader.Reading.{first, tail, is_semicolon, is_close, is_close_brace, is_open_brace}
use Rattle.rc_syntax.specs.reader.Steps.{Stack, frame, State, about, amid as at, Sinks, run, next, place, taken, offer, give, closed, first_of, opened, too_deep}
use Rattle.rc_words.specs.Words.{from, line_of, spot_of, word_in, word_at, Stands, Misses}
use Rattle.rc_expr.specs.Goes.{boxed_of, amid, inside, Within, Faults, Goes, Reads, no_postfix, begins_base}
use Rattle.rc_words.proofs.Standing.{spot_first, word_stands}
use Rattle.rc_expr.proofs.Running.{same_run, takes, stops, stops_about, skips, begins_with, enters, closes, faults_along}
use Rattle.rc_expr.proofs.Running as running
use Rattle.rc_expr.proofs.Tests.{quiet_unary, open_else, close_else}
use Rattle.rc_words.specs.Begins.{head_in, begins_stmt}
use Rattle.rc_stmt.specs.Along.{Outside, Parses, Starts, Proceeds, Grows, ReadsCondition, conditioned, behind_body, assignment_in, assignment_at}
use Rattle.rc_stmt.proofs.Going.{near, inner, takes_some, word, ends_plain, along, unread, counted, from_counted}
use Rattle.rc_stmt.proofs.Inside.{closes_calm}
use Rattle.rc_stmt.proofs.Tests.{close_brace_else}

within_limit : {root s : Symbol} {round depth : ℕ} {k : Stack root s} → Outside round depth k → depth ≤ 200 → (round + opened k) + adds s ≤ 200
within_limit {root} {s} {round} {depth} {k} a d = let n = a.nested in omega (arith, n, d)

-- A word of its own way on.
module _ {A : Type 0} {s : Symbol} {depth : ℕ} {ts : List CodeToken} {i : ℕ} {shape : A → TreeOf s} {r : Result (A × ℕ) ParseFault} where
  pub word_as : (q e : ℕ) (f : Placed → Todo s) (td td2 : Todo s) (x : Word) → depth ≤ 200 → i ≤ q → Stands ts q x × (e ≡ q + 1) → f (record { word = x; spot = spot_of ts q }) ≡ td → is_stop td ≡ false →
      Proceeds s depth ts i e td shape r → Proceeds s depth ts i q (try f td2) shape r
  word_as q e f td td2 x d le stands leads go p = along
      (λ root round k a.
      takes {far = length ts} q (try f td2) td x (near (length ts) i ts (omega arith) a) (within_limit a d) le stands.0.within stands.0
      (ap (λ o. first_of (taken o (spot_of ts i) (q - i) k) (offer (record { word = x; spot = spot_of ts q }) td2 (spot_of ts i) (q - i) k (closed (record { word = x; spot = spot_of ts q }) (spot_of ts i) (q - i) k))) leads
      ∙ ap (λ o. first_of o (offer (record { word = x; spot = spot_of ts q }) td2 (spot_of ts i) (q - i) k (closed (record { word = x; spot = spot_of ts q }) (spot_of ts i) (q - i) k))) (takes_some td (spot_of ts i) (q - i) k go))
      ∙ ap (λ b. run round (amid ts i b td k) (from ts b)) (sym stands.1))
      p

-- A symbol that begins with another, and whose rest names where it began.
begins_inside_at : {root s j : Symbol} (round : ℕ) (ts : List CodeToken) (i : ℕ) (h : Spot → TreeOf j → Todo s) (k : Stack root s) →
    ((p : Placed) → word_at ts i ≡ Some p.word → first s p ≡ within j (h p.spot) (first j p)) →
    run round (about k) (from ts i) ≡ run round (about (inside {j = j} ts i i (h (spot_of ts i)) k)) (from ts i)
begins_inside_at {j = j} round ts i h k f =
    let none : i - i ≡ 0 = omega arith in
    same_run round (about k) (about (inside {j = j} ts i i (h (spot_of ts i)) k)) (from ts i) refl
    (λ p ps e.
    ap (λ d. place p d p.spot 0 k) (f p (ap word_in e))
    ∙ ap (λ sp. place p (first j p) p.spot 0 (frame {i = j} sp 0 (h sp) k)) (sym (spot_first ts i p ps e))
    ∙ ap (λ n. place p (first j p) p.spot 0 (frame {i = j} (spot_of ts i) n (h (spot_of ts i)) k)) (sym none))

module _ {A : Type 0} {s : Symbol} {depth : ℕ} {ts : List CodeToken} {q : ℕ} {shape : A → TreeOf s} where
  pub first_part_at : {B : Type 0} {r : Result (A × ℕ) ParseFault} (j : Symbol) (e : ℕ) (h : Spot → TreeOf j → Todo s) (inner_shape : B → TreeOf j) (x : B) →
      ((p : Placed) → word_at ts q ≡ Some p.word → first s p ≡ within j (h p.spot) (first j p)) → Parses j depth ts q inner_shape (Ok (x, e)) →
      Proceeds s depth ts q e (h (spot_of ts q) (inner_shape x)) shape r → Starts s depth ts q shape r
  first_part_at {B} {r} j e h inner_shape x f c p =
      let le : q ≤ q = omega arith in
      record {
        goes = λ root outer round own i g k le2 a.
            subst (λ y. Goes round ts (λ z b. at own (g (shape z)) (b - i) k) y r)
            (sym (begins_inside_at round ts q h (frame own (q - i) g k) f ∙ c.goes root s round (spot_of ts q) q (h (spot_of ts q)) (frame own (q - i) g k) le a))
            (p.goes root outer round own i g k le2 a);
      }

  pub first_part_refused_at : {B : Type 0} (j : Symbol) (h : Spot → TreeOf j → Todo s) (inner_shape : B → TreeOf j) (f : ParseFault) →
      ((p : Placed) → word_at ts q ≡ Some p.word → first s p ≡ within j (h p.spot) (first j p)) → Parses j depth ts q inner_shape (Err f) → Starts s depth ts q shape (Err f)
  first_part_refused_at j h inner_shape f leads c =
      let le : q ≤ q = omega arith in
      record {
        goes = λ root outer round own i g k le2 a.
            faults_along ts _ _ f (begins_inside_at round ts q h (frame own (q - i) g k) leads) (c.goes root s round (spot_of ts q) q (h (spot_of ts q)) (frame own (q - i) g k) le a);
      }

-- What a statement does by itself.
pub step_leads : (op : StepOp) (sp : Spot) → first Simple (record { word = mark (step_of op); spot = sp }) ≡ only (r.stepped sp op)
step_leads Increment sp = refl
step_leads Decrement sp = refl

simple_else : (sp : Spot) (x : Word) (d : Deeper Simple) → (x ≡ mark m.PlusPlus → ⊥) → (x ≡ mark m.MinusMinus → ⊥) → r.simple_in sp x d ≡ d
simple_else sp (mark m.PlusPlus) d h i = absurd (h refl)
simple_else sp (mark m.MinusMinus) d h i = absurd (i refl)
simple_else sp _ d h i = refl

pub simple_begins : (ts : List CodeToken) (q : ℕ) → Misses ts q (mark m.PlusPlus) → Misses ts q (mark m.MinusMinus) → (p : Placed) → word_at ts q ≡ Some p.word → first Simple p ≡ within Unary (r.left_side p.spot) (first Unary p)
simple_begins ts q h i p here = simple_else p.spot p.word _ (λ e. h (here ∙ ap Some e)) (λ e. i (here ∙ ap Some e))

-- What is left after a mark that does this with a left side.
abbrev pub assigned_rest : Spot → t.Expr → Assignment → Todo Simple
assigned_rest sp l a.Plain = enter (Level 0) (λ e. build (t.assign sp l e))
assigned_rest sp l (a.Update op) = enter (Level 0) (λ e. build (t.update sp op l e))
assigned_rest sp l (a.Step op) = build (t.step_after sp op l)

abbrev rest_in : Spot → t.Expr → Option Assignment → Todo Simple
rest_in sp l (Some x) = assigned_rest sp l x
rest_in sp l None = stop

assigned_mark : (sp : Spot) (l : t.Expr) (x : Mark) → r.assigned sp l (mark x) ≡ rest_in sp l (assignment_in x)
assigned_mark sp l m.Equal = refl
assigned_mark sp l m.BarEqual = refl
assigned_mark sp l m.CaretEqual = refl
assigned_mark sp l m.AmpersandEqual = refl
assigned_mark sp l m.ShiftLeftEqual = refl
assigned_mark sp l m.ShiftRightEqual = refl
assigned_mark sp l m.PlusEqual = refl
assigned_mark sp l m.MinusEqual = refl
assigned_mark sp l m.StarEqual = refl
assigned_mark sp l m.SlashEqual = refl
assigned_mark sp l m.PercentEqual = refl
assigned_mark sp l m.PlusPlus = refl
assigned_mark sp l m.MinusMinus = refl
assigned_mark sp l _ = refl

assigned_word : (sp : Spot) (l : t.Expr) (x : Word) → r.assigned sp l x ≡ rest_in sp l (assignment_at (Some x))
assigned_word sp l (mark x) = assigned_mark sp l x
assigned_word sp l _ = refl

pub assigned_as : (sp : Spot) (l : t.Expr) (x : Mark) (i : Assignment) → assignment_in x ≡ Some i → r.assigned sp l (mark x) ≡ assigned_rest sp l i
assigned_as sp l x i e = assigned_mark sp l x ∙ ap (rest_in sp l) e

pub assigned_goes : (sp : Spot) (l : t.Expr) (i : Assignment) → is_stop (assigned_rest sp l i) ≡ false
assigned_goes sp l a.Plain = refl
assigned_goes sp l (a.Update op) = refl
assigned_goes sp l (a.Step op) = refl

pub unary_read : {depth q : ℕ} {ts : List CodeToken} {r : Result (Box Expr Global × ℕ) ParseFault} → IfOk r (λ x. (q < x.1) × (x.1 ≤ length ts)) → IfOk r (λ x. no_postfix (word_at ts x.1) ≡ true) → Reads Unary depth (q + 1024) ts q boxed_of r → Parses Unary depth ts q boxed_of r
unary_read {q = q} {ts = ts} place quiet reads =
    from_counted (λ n l. refl) place
    (λ x e. quiet_unary ts x.1 (spot_of ts q) (boxed_of x.0) (subst (λ o. IfOk o (λ z. no_postfix (word_at ts z.1) ≡ true)) e quiet))
    reads

-- A symbol inside that began with the words of the symbol itself is gone on with.
takes_up : {root s j : Symbol} (round : ℕ) (ts : List CodeToken) (i q : ℕ) (h : TreeOf j → Todo s) (td : Todo j) (k : Stack root s) →
    run round (amid ts i q (resume (spot_of ts i) 0 j h td) k) (from ts q) ≡ run round (amid ts i q td (inside ts i i h k)) (from ts q)
takes_up {root} {s} {j} round ts i q h td k =
    let on : Placed → ℕ → ℕ → Option (State root) = λ x n c.
    offer x td (spot_of ts i) c (frame (spot_of ts i) n h k)
    (λ b. first_of (place x (tail j (spot_of ts i) b x) (spot_of ts i) c (frame (spot_of ts i) n h k)) (offer x (h b) (spot_of ts i) (q - i) k (closed x (spot_of ts i) (q - i) k))) in
    let none : 0 ≡ i - i = omega arith in
    let all' : (q - i) - 0 ≡ q - i = omega arith in
    same_run round (amid ts i q (resume (spot_of ts i) 0 j h td) k) (amid ts i q td (inside ts i i h k)) (from ts q) refl
    (λ x xs e.
    ap (λ c. on x 0 c) all'
    ∙ ap (λ n. on x n (q - i)) none
    ∙ ap (λ c. offer x td (spot_of ts i) (q - i) (frame (spot_of ts i) (i - i) h k)
    (λ b. first_of (place x (tail j (spot_of ts i) b x) (spot_of ts i) (q - i) (frame (spot_of ts i) (i - i) h k)) (offer x (h b) (spot_of ts i) c k (closed x (spot_of ts i) c k))))
    (let total : q - i ≡ (i - i) + (q - i) = omega arith in total))

-- A left side is read again as the beginning of an expression.
again : {root : Symbol} {round depth q : ℕ} {ts : List CodeToken} (e : ℕ) (l : Box Expr Global) (k : Stack root Simple) → q ≤ e → Reads Unary depth (q + 1024) ts q boxed_of (Ok (l, e)) → no_postfix (word_at ts e) ≡ true → Outside round depth k →
    run round (amid ts q e (resume (spot_of ts q) 0 (Level 0) r.evaluated (build (boxed_of l))) k) (from ts e) ≡ run round (about (inside {j = Level 0} ts q q r.evaluated k)) (from ts q)
again {root} {round} {depth} {q} {ts} e l k le reads quiet a =
    let k0 : Stack root (Level 0) = inside {j = Level 0} ts q q r.evaluated k in
    let same : q ≤ q = omega arith in
    let flat : depth + 0 ≡ depth = omega arith in
    let near' : Within round depth (q + 1024) ts q k0 = counted ts (spot_of ts q) q q r.evaluated (λ n o. refl) a in
    takes_up round ts q e r.evaluated (build (boxed_of l)) k
    ∙ sym (begins_with {s = Level 0} {j = Unary} round ts q build k0 (λ p. refl)
    ∙ reads root round (inside {j = Unary} ts q q build k0) (running.deeper depth q build near' flat same)
    ∙ closes Unary round ts q q e (boxed_of l) build k0 same le (quiet_unary ts e (spot_of ts q) (boxed_of l) quiet))

no_assignment : (sp : Spot) (l : t.Expr) (o : Option Word) (x : Word) → o ≡ Some x → assignment_at o ≡ None → r.assigned sp l x ≡ stop
no_assignment sp l o x here none = assigned_word sp l x ∙ ap (rest_in sp l) (ap assignment_at (sym here) ∙ none)

evaluates : {root : Symbol} {round depth q : ℕ} {ts : List CodeToken} (e : ℕ) (l : Box Expr Global) (k : Stack root Simple) → q ≤ e → Reads Unary depth (q + 1024) ts q boxed_of (Ok (l, e)) → no_postfix (word_at ts e) ≡ true → assignment_at (word_at ts e) ≡ None → Outside round depth k →
    run round (amid ts q e (r.left_side (spot_of ts q) (boxed_of l)) k) (from ts e) ≡ run round (about (inside {j = Level 0} ts q q r.evaluated k)) (from ts q)
evaluates {root} {round} {depth} {q} {ts} e l k le reads quiet none a =
    skips round ts q e (λ p. r.assigned (spot_of ts q) (boxed_of l) p.word) (resume (spot_of ts q) 0 (Level 0) r.evaluated (build (boxed_of l))) k
    (λ p here. no_assignment (spot_of ts q) (boxed_of l) (word_at ts e) p.word here none)
    ∙ again e l k le reads quiet a

module _ {A : Type 0} {depth q : ℕ} {ts : List CodeToken} {shape : A → TreeOf Simple} (behind : ℕ) (l : Box Expr Global) (le : q ≤ behind) (reads : Reads Unary depth (q + 1024) ts q boxed_of (Ok (l, behind))) (quiet : no_postfix (word_at ts behind) ≡ true) (none : assignment_at (word_at ts behind) ≡ None) where
  pub evaluated_part : {o : Result (A × ℕ) ParseFault} (e : ℕ) (x : Box Expr Global) → Parses (Level 0) depth ts q boxed_of (Ok (x, e)) →
      Proceeds Simple depth ts q e (r.evaluated (boxed_of x)) shape o → Proceeds Simple depth ts q behind (r.left_side (spot_of ts q) (boxed_of l)) shape o
  evaluated_part e x c p =
      let same : q ≤ q = omega arith in
      along (λ root round k a. evaluates behind l k le reads quiet none a ∙ c.goes root Simple round (spot_of ts q) q r.evaluated k same a) p

  pub evaluated_refused : (f : ParseFault) → Parses (Level 0) depth ts q boxed_of (Err f) → Proceeds Simple depth ts q behind (r.left_side (spot_of ts q) (boxed_of l)) shape (Err f)
  evaluated_refused f c =
      let same : q ≤ q = omega arith in
      record {
        goes = λ root outer round own b g k le2 a. faults_along ts _ _ f (evaluates behind l (frame own (q - b) g k) le reads quiet none a) (c.goes root Simple round (spot_of ts q) q r.evaluated (frame own (q - b) g k) same a);
      }

-- Ends.
semicolon_or : (x : Word) (d : Deeper ExprEnd) → (x ≡ mark m.Semicolon → ⊥) → r.expr_end_in x d ≡ d
semicolon_or (mark m.Semicolon) d h = absurd (h refl)
semicolon_or _ d h = refl

pub expr_end_begins : (ts : List CodeToken) (q : ℕ) → Misses ts q (mark m.Semicolon) → (p : Placed) → word_at ts q ≡ Some p.word → first ExprEnd p ≡ within (Level 0) (λ e. read (sees is_semicolon (build (Some e)))) (first (Level 0) p)
expr_end_begins ts q h p here = semicolon_or p.word _ (λ e. h (here ∙ ap Some e))

close_or : (x : Word) (d : Deeper SimpleEnd) → (x ≡ mark m.CloseParenthesis → ⊥) → r.simple_end_in x d ≡ d
close_or (mark m.CloseParenthesis) d h = absurd (h refl)
close_or _ d h = refl

pub simple_end_begins : (ts : List CodeToken) (q : ℕ) → Misses ts q (mark m.CloseParenthesis) → (p : Placed) → word_at ts q ≡ Some p.word → first SimpleEnd p ≡ within Simple (λ x. read (sees is_close (build (Some x)))) (first Simple p)
simple_end_begins ts q h p here = close_or p.word _ (λ e. h (here ∙ ap Some e))

-- Locals begin where a base does.
base_go : (sp : Spot) (x : Word) → begins_base (Some x) ≡ true → is_stop (r.base_in sp x) ≡ false
base_go sp (key y.Int) h = refl
base_go sp (key y.Unsigned) h = refl
base_go sp (key y.Char) h = refl
base_go sp (key y.Region) h = refl
base_go sp (key y.Struct) h = refl
base_go sp _ h = absurd cc

base_stop : (sp : Spot) (x : Word) → begins_base (Some x) ≡ false → is_stop (r.base_in sp x) ≡ true
base_stop sp (key y.Int) h = absurd cc
base_stop sp (key y.Unsigned) h = absurd cc
base_stop sp (key y.Char) h = absurd cc
base_stop sp (key y.Region) h = absurd cc
base_stop sp (key y.Struct) h = absurd cc
base_stop sp _ h = refl

start_or : (x : Word) (d : Deeper ForStart) → (x ≡ mark m.Semicolon → ⊥) → r.for_start_in x d ≡ d
start_or (mark m.Semicolon) d h = absurd (h refl)
start_or _ d h = refl

typed_start : (x : Word) → begins_base (Some x) ≡ true → x ≡ mark m.Semicolon → ⊥
typed_start x h e = let b : begins_base (Some (mark m.Semicolon)) ≡ true = ap (λ z. begins_base (Some z)) (sym e) ∙ h in cc

pub start_locals : (ts : List CodeToken) (q : ℕ) → begins_base (word_at ts q) ≡ true → (p : Placed) → word_at ts q ≡ Some p.word → first ForStart p ≡ within Locals (λ ls. build (t.locals ls)) (first Locals p)
start_locals ts q h p here =
    let typed : begins_base (Some p.word) ≡ true = ap begins_base (sym here) ∙ h in
    start_or p.word _ (typed_start p.word typed)
    ∙ ap (λ b. deeper b (within Locals (λ ls. build (t.locals ls)) (first Locals p)) (within Simple (λ x. read (sees is_semicolon (build (t.simply x)))) (first Simple p))) (base_go p.spot p.word typed)

pub start_simple : (ts : List CodeToken) (q : ℕ) → begins_base (word_at ts q) ≡ false → Misses ts q (mark m.Semicolon) → (p : Placed) → word_at ts q ≡ Some p.word → first ForStart p ≡ within Simple (λ x. read (sees is_semicolon (build (t.simply x)))) (first Simple p)
start_simple ts q h i p here =
    start_or p.word _ (λ e. i (here ∙ ap Some e))
    ∙ ap (λ b. deeper b (within Locals (λ ls. build (t.locals ls)) (first Locals p)) (within Simple (λ x. read (sees is_semicolon (build (t.simply x)))) (first Simple p))) (base_stop p.spot p.word (ap begins_base (sym here) ∙ h))

-- Statements.
stmt_or : (sp : Spot) (x : Word) (d : Deeper Stmt) → head_in (Some x) ≡ None → r.stmt_in sp x d ≡ d
stmt_or sp (mark m.Semicolon) d h = absurd cc
stmt_or sp (key y.If) d h = absurd cc
stmt_or sp (key y.While) d h = absurd cc
stmt_or sp (key y.Do) d h = absurd cc
stmt_or sp (key y.For) d h = absurd cc
stmt_or sp (key y.Break) d h = absurd cc
stmt_or sp (key y.Continue) d h = absurd cc
stmt_or sp (key y.Return) d h = absurd cc
stmt_or sp _ d h = refl

brace_or : (x : Word) → head_in (Some x) ≡ None → is_open_brace x ≡ false
brace_or (mark m.OpenBrace) h = absurd cc
brace_or _ h = refl

pub stmt_simple : (ts : List CodeToken) (q : ℕ) → head_in (word_at ts q) ≡ None → (p : Placed) → word_at ts q ≡ Some p.word → first Stmt p ≡ within Simple (λ x. read (sees is_semicolon (build (t.simple p.spot x)))) (first Simple p)
stmt_simple ts q h p here =
    let other : head_in (Some p.word) ≡ None = ap head_in (sym here) ∙ h in
    stmt_or p.spot p.word _ other
    ∙ ap (λ b. deeper (is_stop (when b r.block_body)) (within Block (λ x. build (t.block p.spot x)) (first Block p)) (within Simple (λ x. read (sees is_semicolon (build (t.simple p.spot x)))) (first Simple p))) (brace_or p.word other)

block_at : (x : Word) (p : Placed) → p.word ≡ x → x ≡ mark m.OpenBrace → first Stmt p ≡ within Block (λ b. build (t.block p.spot b)) (first Block p)
block_at x p e f =
    subst (λ z. first Stmt (record { word = z; spot = p.spot }) ≡ within Block (λ b. build (t.block p.spot b)) (first Block (record { word = z; spot = p.spot }))) (sym (e ∙ f)) refl

some_is : (x z : Word) → Some x ≡ Some z → x ≡ z
some_is x z e = cc

pub stmt_block : (ts : List CodeToken) (q : ℕ) → word_at ts q ≡ Some (mark m.OpenBrace) → (p : Placed) → word_at ts q ≡ Some p.word → first Stmt p ≡ within Block (λ b. build (t.block p.spot b)) (first Block p)
stmt_block ts q h p here = block_at p.word p refl (some_is p.word (mark m.OpenBrace) (sym here ∙ h))

-- A statement whose words would be nested too deep.
lt_true : (i j : ℕ) → i < j → nat_lt i j ≡ true
lt_true i j h = grind (arith, nat_tests)

or_true : (i j : Bool) → i ≡ true → i || j ≡ true
or_true true j e = refl
or_true false j e = absurd cc

sinks : {root s : Symbol} (round : ℕ) (p : Placed) (d : Deeper s) (i : Spot) (n : ℕ) (k : Stack root s) → 200 < round + (opened k + adds s) → refuses d ≡ false → (st : State root) × (place p d i n k ≡ Some st) × (too_deep round st ≡ true)
sinks {s = s} round p (only td) i n k deep go = (at i td (n + 1) k, takes_some td i n k go, or_true (nat_lt 200 (round + (opened k + adds s))) _ (lt_true 200 (round + (opened k + adds s)) deep))
sinks {s = s} round p (within j h d) i n k deep go =
    let inner' : 200 < round + ((opened k + adds s) + adds j) = omega (arith, deep) in
    sinks round p d p.spot 0 (frame i n h k) inner' go

stays : {root s : Symbol} (p : Placed) (d : Deeper s) (i : Spot) (n : ℕ) (k : Stack root s) → refuses d ≡ true → place p d i n k ≡ None
stays p (only stop) i n k e = refl
stays p (only _) i n k e = absurd cc
stays p (within j h d) i n k e = stays p d p.spot 0 (frame i n h k) e

begun_in : (sp : Spot) (x : Word) → refuses (first Stmt (record { word = x; spot = sp })) ≡ not (begins_stmt (Some x))
begun_in sp (w.name x) = refl
begun_in sp (w.number i u) = refl
begun_in sp (w.character i) = refl
begun_in sp (w.string bytes) = refl
begun_in sp (key y.If) = refl
begun_in sp (mark m.Semicolon) = refl
begun_in sp _ = refl

sunk_in : {root : Symbol} (round : ℕ) (k : Stack root Stmt) (ws : List Placed) → begins_stmt (word_in ws) ≡ true → 200 < round + (opened k + adds Stmt) → run round (about k) ws ≡ Sinks ws
sunk_in round k [] h deep = absurd cc
sunk_in round k (p ∷ ps) h deep =
    let s = sinks round p (first Stmt p) p.spot 0 k deep (begun_in p.spot p.word ∙ ap not h) in
    ap (next round (p ∷ ps) None (λ q. run round q ps)) s.1 ∙ ap (λ b. cond b (Sinks (p ∷ ps)) (run round s.0 ps)) s.2

pub too_deep_at : {A : Type 0} {depth q : ℕ} {ts : List CodeToken} {shape : A → TreeOf Stmt} (f : ParseFault) → 200 ≤ depth →
    (begins_stmt (word_at ts q) ≡ true → f ≡ Deep (line_of ts q)) → (begins_stmt (word_at ts q) ≡ false → f ≡ Syntax (line_of ts q)) → Parses Stmt depth ts q shape (Err f)
too_deep_at {A} {depth} {q} {ts} {shape} f deep yes' no' = by_test (begins_stmt (word_at ts q)) refl
  where
    by_test : (b : Bool) → begins_stmt (word_at ts q) ≡ b → Parses Stmt depth ts q shape (Err f)
    by_test true e = record {
      goes = λ root outer round own i h k le a.
          let n = a.nested in
          let down : 200 < round + ((opened k + adds outer) + 1) = omega (arith, n, deep) in
          running.sunk ts _ q f (sunk_in round (frame {i = Stmt} own (q - i) h k) (from ts q) e down) (yes' e);
    }
    by_test false e = record {
      goes = λ root outer round own i h k le a.
          running.refused ts _ q f
          (stops_about round ts q (frame {i = Stmt} own (q - i) h k)
          (λ p here. stays p (first Stmt p) p.spot 0 (frame {i = Stmt} own (q - i) h k) (begun_in p.spot p.word ∙ ap not (ap begins_stmt (sym here) ∙ e))))
          (no' e);
    }

pub nested_in : {A : Type 0} {depth q : ℕ} {ts : List CodeToken} {shape : A → TreeOf Stmt} {r : Result (A × ℕ) ParseFault} → Starts Stmt (depth + 1) ts q shape r → Parses Stmt depth ts q shape r
nested_in {A} {depth} {q} {ts} {shape} {r} p = record {
  goes = λ root outer round own i h k le a.
      let n = a.nested in
      let one : round + ((opened k + adds outer) + 1) ≡ depth + 1 = omega (arith, n) in
      p.goes root outer round own i h k le (record { nested = one; reach = λ c l. a.reach ((q - i) + c) l });
}

-- Conditions.
module _ {depth i : ℕ} {ts : List CodeToken} where
  reads_word : {root s : Symbol} {round : ℕ} {k : Stack root s} (q e : ℕ) (test : Word → Bool) (td : Todo s) (x : Word) → depth ≤ 200 → i ≤ q → Stands ts q x × (e ≡ q + 1) → test x ≡ true → is_stop td ≡ false → Outside round depth k →
      run round (amid ts i q (read (sees test td)) k) (from ts q) ≡ run round (amid ts i e td k) (from ts e)
  reads_word {round = round} {k = k} q e test td x d le stands holds go a =
      takes {far = length ts} q (read (sees test td)) td x (near (length ts) i ts (omega arith) a) (within_limit a d) le stands.0.within stands.0
      (ap (λ b. first_of (taken (when b td) (spot_of ts i) (q - i) k) None) holds
      ∙ ap (λ o. first_of o None) (takes_some td (spot_of ts i) (q - i) k go))
      ∙ ap (λ b. run round (amid ts i b td k) (from ts b)) (sym stands.1)

misses_word : {root s : Symbol} (round : ℕ) (ts : List CodeToken) (i : ℕ) (k : Stack root s) (q : ℕ) (test : Word → Bool) (td : Todo s) (x : Word) (f : ParseFault) → Misses ts q x × (f ≡ Syntax (line_of ts q)) → ((z : Word) → (z ≡ x → ⊥) → test z ≡ false) →
    Faults ts (run round (amid ts i q (read (sees test td)) k) (from ts q)) f
misses_word round ts i k q test td x f miss other =
    unread ts _ q f
    (stops round ts i q (read (sees test td)) k refl
    (λ p here. ap (λ b. first_of (taken (when b td) (spot_of ts i) (q - i) k) None) (other p.word (λ same. miss.0 (here ∙ ap Some same)))))
    miss.1

abbrev pub behind_test : (t.Expr → Todo Stmt) → t.Expr → Todo Stmt
behind_test f = λ e. read (sees is_close (f e))

module _ {depth i : ℕ} {ts : List CodeToken} (place : ℕ) (d : depth ≤ 200) (le : i ≤ place) where
  pub no_condition : (f : ParseFault) → Misses ts place (mark m.OpenParenthesis) × (f ≡ Syntax (line_of ts place)) → ReadsCondition depth ts i place (Err f)
  no_condition f miss = record {
    goes = λ g go root round k a. misses_word round ts i k place r.is_open (enter (Level 0) (behind_test g)) (mark m.OpenParenthesis) f miss open_else;
  }

  module _ (inner : ℕ) (open_stands : Stands ts place (mark m.OpenParenthesis) × (inner ≡ place + 1)) (le2 : i ≤ inner) where
    opened_test : {root : Symbol} (g : t.Expr → Todo Stmt) (round : ℕ) (k : Stack root Stmt) → Outside round depth k →
        run round (amid ts i place (conditioned g) k) (from ts place) ≡ run round (about (inside {j = Level 0} ts i inner (behind_test g) k)) (from ts inner)
    opened_test g round k a =
        reads_word place inner r.is_open (enter (Level 0) (behind_test g)) (mark m.OpenParenthesis) d le open_stands refl refl a
        ∙ enters round ts i inner (Level 0) (behind_test g) k

    pub no_test : (f : ParseFault) → Parses (Level 0) depth ts inner boxed_of (Err f) → ReadsCondition depth ts i place (Err f)
    no_test f c = record {
      goes = λ g go root round k a. faults_along ts _ _ f (opened_test g round k a) (c.goes root Stmt round (spot_of ts i) i (behind_test g) k le2 a);
    }

    module _ (behind : ℕ) (x : Box Expr Global) (c : Parses (Level 0) depth ts inner boxed_of (Ok (x, behind))) where
      pub no_close : (f : ParseFault) → Misses ts behind (mark m.CloseParenthesis) × (f ≡ Syntax (line_of ts behind)) → ReadsCondition depth ts i place (Err f)
      no_close f miss = record {
        goes = λ g go root round k a.
            faults_along ts _ _ f (opened_test g round k a ∙ c.goes root Stmt round (spot_of ts i) i (behind_test g) k le2 a)
            (misses_word round ts i k behind is_close (g (boxed_of x)) (mark m.CloseParenthesis) f miss close_else);
      }

      pub tested : (e : ℕ) → i ≤ behind → Stands ts behind (mark m.CloseParenthesis) × (e ≡ behind + 1) → ReadsCondition depth ts i place (Ok (x, e))
      tested e le3 close_stands = record {
        goes = λ g go root round k a.
            opened_test g round k a ∙ c.goes root Stmt round (spot_of ts i) i (behind_test g) k le2 a
            ∙ reads_word behind e is_close (g (boxed_of x)) (mark m.CloseParenthesis) d le3 close_stands refl (go (boxed_of x)) a;
      }

module _ {A : Type 0} {depth i p : ℕ} {ts : List CodeToken} {shape : A → TreeOf Stmt} (f : t.Expr → Todo Stmt) (go : (e : t.Expr) → is_stop (f e) ≡ false) where
  pub condition_part : {r : Result (A × ℕ) ParseFault} (e : ℕ) (x : Box Expr Global) → ReadsCondition depth ts i p (Ok (x, e)) → Proceeds Stmt depth ts i e (f (boxed_of x)) shape r → Proceeds Stmt depth ts i p (conditioned f) shape r
  condition_part e x c q = along (λ root round k a. c.goes f go root round k a) q

  pub condition_refused : (g : ParseFault) → ReadsCondition depth ts i p (Err g) → Proceeds Stmt depth ts i p (conditioned f) shape (Err g)
  condition_refused g c = record { goes = λ root outer round own b h k le a. c.goes f go root round (frame own (i - b) h k) a }

-- Blocks.
drops : {A : Type 0} (o x : Option A) → x ≡ None → first_of o x ≡ o
drops (Some a) x e = refl
drops None x e = e

pub flat_body : {root : Symbol} {round depth : ℕ} {k : Stack root Block} (ts : List CodeToken) (i q : ℕ) → Outside round depth k → Outside round depth (inside {j = Body} ts i q behind_body k)
flat_body ts i q a = inner {j = Body} (spot_of ts i) (q - i) behind_body (record { none = refl; plain = λ n l. refl }) a

-- A word that doesn't close the block is offered to what may stand there alone.
body_goes : {root j : Symbol} (round : ℕ) (ts : List CodeToken) (i q p : ℕ) (before : t.Stmts) (h : TreeOf j → Todo Body) (k : Stack root Block) → Misses ts p (mark m.CloseBrace) →
    ((x : Placed) → word_at ts p ≡ Some x.word → tail Body (spot_of ts q) before x ≡ within j h (first j x)) →
    run round (amid {s = Body} ts q p (build before) (inside ts i q behind_body k)) (from ts p) ≡ run round (about (inside {s = Body} {j = j} ts q p h (inside ts i q behind_body k))) (from ts p)
body_goes {root} {j} round ts i q p before h k open_still leads =
    let kk : Stack root Body = inside {j = Body} ts i q behind_body k in
    same_run round (amid {s = Body} ts q p (build before) kk) (about (inside {j = j} ts q p h kk)) (from ts p) refl
    (λ x xs e.
    ap (λ d. first_of (place x d (spot_of ts q) (p - q) kk) (give x kk (p - q) before)) (leads x (ap word_in e))
    ∙ drops (place x (first j x) x.spot 0 (inside {j = j} ts q p h kk)) (give x kk (p - q) before)
    (ap (λ b. first_of (taken (when b (build before)) (spot_of ts i) ((q - i) + (p - q)) k) None) (close_brace_else x.word (λ same. open_still (ap word_in e ∙ ap Some same)))))

pub body_locals : (ts : List CodeToken) (q p : ℕ) (before : t.Stmts) → begins_base (word_at ts p) ≡ true → (x : Placed) → word_at ts p ≡ Some x.word → tail Body (spot_of ts q) before x ≡ within Locals (λ ls. build (joined before (stmts_of ls))) (first Locals x)
body_locals ts q p before h x here =
    ap (λ b. deeper b (within Locals (λ ls. build (joined before (stmts_of ls))) (first Locals x)) (within Stmt (λ n. build (joined before (t.next n t.done))) (first Stmt x))) (base_go x.spot x.word (ap begins_base (sym here) ∙ h))

pub body_stmt : (ts : List CodeToken) (q p : ℕ) (before : t.Stmts) → begins_base (word_at ts p) ≡ false → (x : Placed) → word_at ts p ≡ Some x.word → tail Body (spot_of ts q) before x ≡ within Stmt (λ n. build (joined before (t.next n t.done))) (first Stmt x)
body_stmt ts q p before h x here =
    ap (λ b. deeper b (within Locals (λ ls. build (joined before (stmts_of ls))) (first Locals x)) (within Stmt (λ n. build (joined before (t.next n t.done))) (first Stmt x))) (base_stop x.spot x.word (ap begins_base (sym here) ∙ h))

module _ {B : Type 0} {depth i q p : ℕ} {ts : List CodeToken} {before : t.Stmts} (j : Symbol) (more : TreeOf j → t.Stmts) (inner_shape : B → TreeOf j) (open_still : Misses ts p (mark m.CloseBrace)) (le : q ≤ p)
    (leads : (x : Placed) → word_at ts p ≡ Some x.word → tail Body (spot_of ts q) before x ≡ within j (λ b. build (more b)) (first j x)) where
  pub grows : (e : ℕ) (x : B) (longer : Vec StmtTree Global) → Parses j depth ts p inner_shape (Ok (x, e)) → more (inner_shape x) ≡ all_of longer.items → Grows depth ts i q p before (Ok (longer, e))
  grows e x longer c same = record {
    goes = λ root round k a.
        body_goes round ts i q p before (λ b. build (more b)) k open_still leads
        ∙ c.goes root Body round (spot_of ts q) q (λ b. build (more b)) (inside {j = Body} ts i q behind_body k) le (flat_body ts i q a)
        ∙ ap (λ b. run round (amid {s = Body} ts q e (build b) (inside {j = Body} ts i q behind_body k)) (from ts e)) same;
  }

  pub grows_not : (f : ParseFault) → Parses j depth ts p inner_shape (Err f) → Grows depth ts i q p before (Err f)
  grows_not f c = record {
    goes = λ root round k a.
        faults_along ts _ _ f (body_goes round ts i q p before (λ b. build (more b)) k open_still leads)
        (c.goes root Body round (spot_of ts q) q (λ b. build (more b)) (inside {j = Body} ts i q behind_body k) le (flat_body ts i q a));
  }

pub grows_fails : {depth i q p : ℕ} {ts : List CodeToken} {before : t.Stmts} {r : Result (Vec StmtTree Global × ℕ) ParseFault} {f : ParseFault} → IsErrAnd r (λ y. y ≡ f) → Grows depth ts i q p before (Err f) → Grows depth ts i q p before r
grows_fails {depth} {i} {q} {p} {ts} {before} {r} {f} e g =
    let x = err_from_is_err_and r e in
    subst (Grows depth ts i q p before) (sym x.1) (subst (λ y. Grows depth ts i q p before (Err y)) (sym x.2) g)

pub grows_wanting : {depth i q p : ℕ} {ts : List CodeToken} {before : t.Stmts} {f : ParseFault} → f ≡ Memory → Grows depth ts i q p before (Err f)
grows_wanting {depth} {i} {q} {p} {ts} {before} {f} e = subst (λ y. Grows depth ts i q p before (Err y)) (sym e) (record { goes = λ root round k a. tt })

pub condition_fails : {depth i p : ℕ} {ts : List CodeToken} {r : Result (Box Expr Global × ℕ) ParseFault} {f : ParseFault} → IsErrAnd r (λ y. y ≡ f) → ReadsCondition depth ts i p (Err f) → ReadsCondition depth ts i p r
condition_fails {depth} {i} {p} {ts} {r} {f} e g =
    let x = err_from_is_err_and r e in
    subst (ReadsCondition depth ts i p) (sym x.1) (subst (λ y. ReadsCondition depth ts i p (Err y)) (sym x.2) g)

-- The brace that closes the block.
shut : (x : Placed) (z : Word) → x.word ≡ z → z ≡ mark m.CloseBrace → (before : t.Stmts) (sp : Spot) (root : Symbol) (n : ℕ) (k : Stack root Body) → place x (tail Body sp before x) sp n k ≡ None
shut x z e f before sp root n k = subst (λ o. place (record { word = o; spot = x.spot }) (tail Body sp before (record { word = o; spot = x.spot })) sp n k ≡ None) (sym (e ∙ f)) refl

pub body_ends : {root : Symbol} (round : ℕ) (ts : List CodeToken) (i q p : ℕ) (before : t.Stmts) (k : Stack root Block) → i ≤ q → q ≤ p → word_at ts p ≡ Some (mark m.CloseBrace) →
    run round (amid {s = Body} ts q p (build before) (inside ts i q behind_body k)) (from ts p) ≡ run round (amid ts i p (behind_body before) k) (from ts p)
body_ends round ts i q p before k le le2 h =
    closes_calm Body round ts (spot_of ts i) i q p before behind_body k le le2 (λ x here n kk. shut x x.word refl (some_is x.word (mark m.CloseBrace) (sym here ∙ h)) before (spot_of ts q) _ n kk)

-- Lists of statements.
pub joined_done : (a : t.Stmts) → joined a t.done ≡ a
joined_done t.done = refl
joined_done (t.next x a) = ap (t.next x) (joined_done a)

pub joined_joined : (a b c : t.Stmts) → joined (joined a b) c ≡ joined a (joined b c)
joined_joined t.done b c = refl
joined_joined (t.next x a) b c = ap (t.next x) (joined_joined a b c)

pub all_with_last : (xs : List StmtTree) (x : StmtTree) → all_of (xs ++ x ∷ []) ≡ joined (all_of xs) (t.next (stmt_of x) t.done)
all_with_last [] x = refl
all_with_last (z ∷ xs) x = ap (t.next (stmt_of z)) (all_with_last xs x)

pub locals_with_last : (ls : List LocalTree) (l : LocalTree) → stmts_of (map local_of (ls ++ l ∷ [])) ≡ joined (stmts_of (map local_of ls)) (t.next (t.local (local_of l)) t.done)
locals_with_last [] l = refl
locals_with_last (z ∷ ls) l = ap (t.next (t.local (local_of z))) (locals_with_last ls l)

pub with_local : (xs : List StmtTree) (before : t.Stmts) (ls : List LocalTree) (l : LocalTree) → all_of xs ≡ joined before (stmts_of (map local_of ls)) → all_of (xs ++ Local l ∷ []) ≡ joined before (stmts_of (map local_of (ls ++ l ∷ [])))
with_local xs before ls l e =
    all_with_last xs (Local l)
    ∙ ap (λ a. joined a (t.next (t.local (local_of l)) t.done)) e
    ∙ joined_joined before (stmts_of (map local_of ls)) (t.next (t.local (local_of l)) t.done)
    ∙ ap (joined before) (sym (locals_with_last ls l))

module _ {depth i q p : ℕ} {ts : List CodeToken} {before : t.Stmts}
    (came : (root : Symbol) (round : ℕ) (k : Stack root Block) → Outside round depth k → run round (amid {s = Block} ts i q r.block_body k) (from ts q) ≡ run round (amid {s = Body} ts q p (build before) (inside {j = Body} ts i q behind_body k)) (from ts p)) where
  pub body_refused : {A : Type 0} {shape : A → TreeOf Block} (f : ParseFault) → Grows depth ts i q p before (Err f) → Proceeds Block depth ts i q r.block_body shape (Err f)
  body_refused f g = record {
    goes = λ root outer round own j h k le a. faults_along ts _ _ f (came root round (frame own (i - j) h k) a) (g.goes root round (frame own (i - j) h k) a);
  }

  pub body_read : {A : Type 0} {shape : A → TreeOf Block} (x : A) → before ≡ shape x → depth ≤ 200 → i ≤ q → q ≤ p → Stands ts p (mark m.CloseBrace) → Proceeds Block depth ts i q r.block_body shape (Ok (x, p + 1))
  body_read x same d le le2 stands =
      let le3 : i ≤ p = omega (arith, le, le2) in
      let le4 : i ≤ p + 1 = omega (arith, le, le2) in
      along (λ root round k a. came root round k a ∙ body_ends round ts i q p before k le le2 (word_stands ts p (mark m.CloseBrace) stands))
      (word p (p + 1) is_close_brace (build before) stop (mark m.CloseBrace) d le3 (stands, refl) refl refl (ends_plain (p + 1) x before same le4 (λ z. refl)))
