-- The words of the three lines derive their items.
use Rattle.rc_task_trees.proofs.Common.{◌≡◌, zero, ◌+◌, ◌≤◌, append_assoc, append-nil, refl, ap, sym, subst, arith, codes, Spot, Less, Equal, Word, Token, name, number, character, string, mark, Placed, placed, node, Derives, itself, by, done, then, joined, by_any, alone, digit, occurs, task_name}
use Rattle.std.proofs.Common.{ℕ, suc, List, [], ◌∷◌, ◌++◌, Bool, true, false}
use Rattle.std.specs.Prelude.{◌-◌}
use Rattle.rc_syntax.specs.declared.word.Mark.TheVariants as m
use Rattle.rc_syntax.specs.declared.tree.Name as names
use Rattle.rc_syntax.specs.Tree as t
use Rattle.rc_syntax.specs.Grammar as g
use Rattle.rc_task_items.specs.Items as tree
use Rattle.rc_task_trees.proofs.OwnWords.{on, task_words, chosen, calls_tokens}

abbrev pub is : Word → Spot → Placed
is w o = record { word = w; spot = o }

abbrev pub named : Spot → List ℕ → names.Name
named o x = record { spot = o; text = x }

pub name_at : (x : List ℕ) (o : Spot) → Derives (is (name x) o ∷ []) (node g.Name (named o x))
name_at x o = by refl g.a_name (then itself done)

-- Expressions.
lift : (n j l : ℕ) → j + n ≡ l → l ≤ 11 → {ws : List Placed} {e : t.Expr} → Derives ws (node (g.Level l) e) → Derives ws (node (g.Level j) e)
lift zero j l h k {ws = ws} {e = e} d = let P : ℕ → Type 0 = λ z. Derives ws (node (g.Level z) e) in subst P (omega (arith, h)) d
lift (suc n) j l h k d = by_any (record { place = 0; line = 0 }) (λ i. g.up (omega (arith, h, k))) (alone (lift n (j + 1) l (omega (arith, h)) k d))

pub of_unary : (j : ℕ) → j ≤ 11 → {ws : List Placed} {e : t.Expr} → Derives ws (node g.Unary e) → Derives ws (node (g.Level j) e)
of_unary j h d = lift (11 - j) j 11 (omega (arith, h)) (omega arith) (by_any (record { place = 0; line = 0 }) (λ i. g.operand) (alone d))

of_primary : {ws : List Placed} {e : t.Expr} → Derives ws (node g.Primary e) → Derives ws (node g.Unary e)
of_primary d = by_any (record { place = 0; line = 0 }) (λ i. g.plain) (alone (by_any (record { place = 0; line = 0 }) (λ i. g.bare) (alone d)))

pub variable_at : (x : List ℕ) (o : Spot) → Derives (is (name x) o ∷ []) (node g.Unary (t.variable (named o x)))
variable_at x o = of_primary (by refl g.a_variable (then (name_at x o) done))

pub number_at : (n : ℕ) (o : Spot) → Derives (is (number n false) o ∷ []) (node g.Unary (t.number o n false))
number_at n o = of_primary (by refl g.a_number (then itself done))

character_at : (n : ℕ) (o : Spot) → Derives (is (character n) o ∷ []) (node g.Unary (t.character o n))
character_at n o = of_primary (by refl g.a_character (then itself done))

pub string_at : (x : List ℕ) (o : Spot) → Derives (is (string x) o ∷ []) (node g.Unary (t.string o x))
string_at x o = of_primary (by refl g.a_string (then itself done))

call_at : (x : List ℕ) (a b c : Spot) → Derives (is (name x) a ∷ is (mark m.OpenParenthesis) b ∷ is (mark m.CloseParenthesis) c ∷ []) (node g.Unary (t.call (named a x) t.none))
call_at x a b c = of_primary (by refl g.calls (then (name_at x a) (then itself (then itself done))))

pub index_at : (x y : List ℕ) (a b c d : Spot) → Derives (is (name x) a ∷ is (mark m.OpenBracket) b ∷ is (name y) c ∷ is (mark m.CloseBracket) d ∷ []) (node g.Unary (t.index a (t.variable (named a x)) (t.variable (named c y))))
index_at x y a b c d =
    let array : Derives (is (name x) a ∷ []) (node g.Postfix (t.variable (named a x))) = by refl g.bare (then (by refl g.a_variable (then (name_at x a) done)) done) in
    by refl g.plain (then (by refl g.indexed (then array (then itself (then (of_unary 0 (omega arith) (variable_at y c)) (then itself done))))) done)

pub less_at : (x : List ℕ) (n : ℕ) (a b c : Spot) → Derives (is (name x) a ∷ is (mark m.Less) b ∷ is (number n false) c ∷ []) (node (g.Level 0) (t.binary a Less (t.variable (named a x)) (t.number c n false)))
less_at x n a b c =
    let l : Derives (is (name x) a ∷ []) (node (g.Level 7) (t.variable (named a x))) = of_unary 7 (omega arith) (variable_at x a) in
    let r : Derives (is (number n false) c ∷ []) (node (g.Level 8) (t.number c n false)) = of_unary 8 (omega arith) (number_at n c) in
    let e : Derives (is (name x) a ∷ is (mark m.Less) b ∷ is (number n false) c ∷ []) (node (g.Level 7) (t.binary a Less (t.variable (named a x)) (t.number c n false))) = by refl (g.chain {op = Less} refl) (then l (then itself (then r done))) in
    lift 7 0 7 (omega arith) (omega arith) e

equal_at : (x : List ℕ) (n : ℕ) (a b c : Spot) → Derives (is (name x) a ∷ is (mark m.EqualEqual) b ∷ is (character n) c ∷ []) (node (g.Level 0) (t.binary a Equal (t.variable (named a x)) (t.character c n)))
equal_at x n a b c =
    let l : Derives (is (name x) a ∷ []) (node (g.Level 6) (t.variable (named a x))) = of_unary 6 (omega arith) (variable_at x a) in
    let r : Derives (is (character n) c ∷ []) (node (g.Level 7) (t.character c n)) = of_unary 7 (omega arith) (character_at n c) in
    let e : Derives (is (name x) a ∷ is (mark m.EqualEqual) b ∷ is (character n) c ∷ []) (node (g.Level 6) (t.binary a Equal (t.variable (named a x)) (t.character c n))) = by refl (g.chain {op = Equal} refl) (then l (then itself (then r done))) in
    lift 6 0 6 (omega arith) (omega arith) e

-- Statements.
abbrev pub calling : List ℕ → Spot → t.Stmt
calling x a = t.simple a (t.expression (t.call (named a x) t.none))

pub call_stmt : (x : List ℕ) (a b c d : Spot) → Derives (is (name x) a ∷ is (mark m.OpenParenthesis) b ∷ is (mark m.CloseParenthesis) c ∷ is (mark m.Semicolon) d ∷ []) (node g.Stmt (calling x a))
call_stmt x a b c d =
    let e : Derives (is (name x) a ∷ is (mark m.OpenParenthesis) b ∷ is (mark m.CloseParenthesis) c ∷ []) (node g.Simple (t.expression (t.call (named a x) t.none))) = by refl g.evaluates (then (of_unary 0 (omega arith) (call_at x a b c)) done) in
    by refl g.a_simple (then e (then itself done))

abbrev pub nth : ℕ → ℕ → ℕ
nth i zero = i
nth i (suc n) = nth (i + 1) n

-- the n-th word from here
abbrev pub at : ℕ → ℕ → ℕ → Spot
at line i n = record { place = nth i n; line = line }

abbrev task_tree : ℕ → ℕ → ℕ → t.Stmt
task_tree line i d = t.if_then (at line i 0) (t.binary (at line i 2) Equal (t.variable (named (at line i 2) (codes "c"))) (t.character (at line i 4) (digit d))) (calling (task_name d) (at line i 6))

task_stmt : (line i d : ℕ) → Derives (placed i (on line (task_words d))) (node g.Stmt (task_tree line i d))
task_stmt line i d =
    by refl g.an_if (then itself (then itself (then (equal_at (codes "c") (digit d) (at line i 2) (at line i 3) (at line i 4)) (then itself (alone (call_stmt (task_name d) (at line i 6) (at line i 7) (at line i 8) (at line i 9)))))))

-- where the words behind these stand
abbrev pub after : ℕ → List Token → ℕ
after i [] = i
after i (x ∷ xs) = after (i + 1) xs

pub placed_on : (i : ℕ) (xs ys : List Token) → placed i (xs ++ ys) ≡ placed i xs ++ placed (after i xs) ys
placed_on i [] ys = refl
placed_on i (x ∷ xs) ys = ap (λ z. record { word = x.word; spot = record { place = i; line = x.line } } ∷ z) (placed_on (i + 1) xs ys)

joined_done : (b : t.Stmts) → joined b t.done ≡ b
joined_done t.done = refl
joined_done (t.next s b) = ap (λ z. t.next s z) (joined_done b)

joined_next : (b : t.Stmts) (s : t.Stmt) (r : t.Stmts) → joined (joined b (t.next s t.done)) r ≡ joined b (t.next s r)
joined_next t.done s r = refl
joined_next (t.next x b) s r = ap (λ z. t.next x z) (joined_next b s r)

module _ (choices : List ℕ) (line : ℕ) where
  abbrev pub next : ℕ → ℕ → ℕ
  next i d = after i (chosen (occurs d choices) (on line (task_words d)))

  abbrev pub tasks_tree : ℕ → List ℕ → t.Stmts
  tasks_tree i [] = t.done
  tasks_tree i (d ∷ ds) = tree.also choices (λ k. 0) line (occurs d choices) (task_tree line i d) (tasks_tree (next i d) ds)

  -- these words, behind others, make the body longer by these statements
  abbrev pub Adds : List Placed → t.Stmts → Type 0
  Adds ws r = (xs : List Placed) (b : t.Stmts) → Derives xs (node g.Body b) → Derives (xs ++ ws) (node g.Body (joined b r))

  chosen_adds : (c : Bool) (i d : ℕ) (ws : List Placed) (r : t.Stmts) → Adds ws r → Adds (placed i (chosen c (on line (task_words d))) ++ ws) (tree.also choices (λ k. 0) line c (task_tree line i d) r)
  chosen_adds false i d ws r again xs b e = again xs b e
  chosen_adds true i d ws r again xs b e =
      let own = placed i (on line (task_words d)) in
      let s = task_tree line i d in
      let f : Derives (xs ++ own) (node g.Body (joined b (t.next s t.done))) = by_any (record { place = 0; line = 0 }) (λ o. g.then_stmt) (then e (alone (task_stmt line i d))) in
      let P : List Placed → Type 0 = λ z. Derives z (node g.Body (joined (joined b (t.next s t.done)) r)) in
      let Q : t.Stmts → Type 0 = λ z. Derives (xs ++ (own ++ ws)) (node g.Body z) in
      subst Q (joined_next b s r) (subst P (append_assoc xs own ws) (again (xs ++ own) (joined b (t.next s t.done)) f))

  pub calls_add : (ds : List ℕ) (i : ℕ) → Adds (placed i (calls_tokens choices line ds)) (tasks_tree i ds)
  calls_add [] i xs b e =
      let P : List Placed → Type 0 = λ z. Derives z (node g.Body (joined b t.done)) in
      let Q : t.Stmts → Type 0 = λ z. Derives xs (node g.Body z) in
      subst P (sym (append-nil xs)) (subst Q (sym (joined_done b)) e)
  calls_add (d ∷ ds) i xs b e =
      let own = chosen (occurs d choices) (on line (task_words d)) in
      let P : List Placed → Type 0 = λ z. Adds z (tasks_tree i (d ∷ ds)) in
      subst P (sym (placed_on i own (calls_tokens choices line ds))) (chosen_adds (occurs d choices) i d (placed (next i d) (calls_tokens choices line ds)) (tasks_tree (next i d) ds) (λ ys c f. calls_add ds (next i d) ys c f)) xs b e
