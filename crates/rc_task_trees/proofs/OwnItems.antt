-- The words of each of the three lines derive its item.
use Rattle.rc_task_trees.proofs.Common.{append_assoc, get_or, Some, None, refl, sym, ◌∙◌, subst, arith, codes, Unsigned, Void, Deletes, Char, If, Int, While, Return, Spot, Plain, Less, Increment, name, number, string, key, mark, Placed, placed, node, Derives, itself, by, done, then, by_any, alone, digit}
use Rattle.std.proofs.Common.{ℕ, List, [], ◌∷◌, ◌++◌, length, map, true, false}
use Rattle.rc_syntax.specs.declared.word.Mark.TheVariants as m
use Rattle.rc_syntax.specs.declared.tree.Base.TheVariants as base
use Rattle.rc_syntax.specs.Tree as t
use Rattle.rc_syntax.specs.Grammar as g
use Rattle.rc_task_items.specs.Items as tree
use Rattle.rc_task_trees.proofs.OwnWords.{on, counter_words, calls_tokens, yield_end, every_task, yield_tokens, main_tokens}
use Rattle.rc_task_trees.proofs.Derived.{is, named, name_at, of_unary, variable_at, number_at, string_at, index_at, less_at, calling, call_stmt, nth, at, after, placed_on, next, tasks_tree, calls_add}

o0 : Spot
o0 = record { place = 0; line = 0 }

no_stars : Derives [] (node g.Stars [])
no_stars = by {at = record { place = 0; line = 0 }} tt g.no_stars done

-- the places of the nodes of each item
abbrev pub counter_places : ℕ → ℕ → ℕ
counter_places i k = get_or (nth i 1 ∷ nth i 0 ∷ nth i 1 ∷ []) k 0

abbrev pub main_places : ℕ → ℕ → ℕ
main_places i k = get_or (nth i 0 ∷ nth i 0 ∷ nth i 1 ∷ 0 ∷ nth i 11 ∷ nth i 13 ∷ nth i 13 ∷ nth i 15 ∷ nth i 17 ∷ nth i 17 ∷ nth i 21 ∷ nth i 22 ∷ nth i 7 ∷ nth i 7 ∷ []) k 0

module _ (choices : List ℕ) where
  abbrev tasks_places : ℕ → ℕ → List ℕ → List ℕ
  tasks_places line i [] = []
  tasks_places line i (d ∷ ds) = nth i 0 ∷ nth i 2 ∷ nth i 2 ∷ nth i 4 ∷ nth i 6 ∷ nth i 6 ∷ tasks_places line (next choices line i d) ds

  abbrev pub yield_places : ℕ → ℕ → ℕ → ℕ
  yield_places line i k =
      get_or (nth i 0 ∷ nth i 1 ∷ 0 ∷ 0 ∷ nth i 8 ∷ nth i 7 ∷ nth i 9 ∷ nth i 11 ∷ nth i 14 ∷ nth i 13 ∷ nth i 14 ∷ nth i 16 ∷ nth i 18 ∷ nth i 18 ∷ nth i 20 ∷ 0 ∷ 0 ∷ 0 ∷ 0 ∷ nth i 22 ∷ nth i 23 ∷ nth i 23 ∷ nth i 23 ∷ nth i 25 ∷ nth i 25 ∷ nth i 27 ∷ nth i 30 ∷ nth i 30 ∷ nth i 30 ∷ 0 ∷ tasks_places line (nth i 33) every_task) k 0

  -- unsigned rc_at ;
  pub counter_derives : (line i : ℕ) → Derives (placed i (on line counter_words)) (node g.Item (tree.counter_item choices (counter_places i) line ∷ []))
  counter_derives line i =
      let dec : Derives (is (name (codes "rc_at")) (at line i 1) ∷ []) (node g.FieldDec (record { spot = at line i 1; stars = []; name = named (at line i 1) (codes "rc_at"); length = None })) = by refl g.a_field (then no_stars (then (name_at (codes "rc_at") (at line i 1)) done)) in
      let global : Derives (is (name (codes "rc_at")) (at line i 1) ∷ []) (node g.Decs _) = by_any o0 (λ o. g.one_global) (alone (by_any o0 (λ o. g.a_global) (alone dec))) in
      let first : Derives (is (key Unsigned) (at line i 0) ∷ []) (node g.Base (base.Unsigned (at line i 0))) = by refl g.an_unsigned (then itself done) in
      by refl g.globals (then first (then global (then itself done)))

  no_params : (a b : Spot) → Derives (is (key Void) a ∷ is (mark m.CloseParenthesis) b ∷ []) (node g.ParamsEnd [])
  no_params a b = by refl g.void_params (then itself (then itself done))

  -- int main ( void ) deletes { start ( ) ; while ( rc_at < COUNT ) yield ( ) ; return 0 ; }
  pub main_derives : (line i : ℕ) → Derives (placed i (main_tokens choices line)) (node g.Item (tree.main_item choices (main_places i) line ∷ []))
  main_derives line i =
      let p = at line i in
      let n = length choices in
      let none : Derives [] (node g.Body t.done) = by {at = p 0} tt g.no_stmts done in
      let s1 : t.Stmt = calling (codes "start") (p 7) in
      let s2 : t.Stmt = t.while_do (p 11) (t.binary (p 13) Less (t.variable (named (p 13) (codes "rc_at"))) (t.number (p 15) n false)) (calling (codes "yield") (p 17)) in
      let s3 : t.Stmt = t.return_with (p 21) (Some (t.number (p 22) 0 false)) in
      let w1 = is (name (codes "start")) (p 7) ∷ is (mark m.OpenParenthesis) (p 8) ∷ is (mark m.CloseParenthesis) (p 9) ∷ is (mark m.Semicolon) (p 10) ∷ [] in
      let w2 = is (key While) (p 11) ∷ is (mark m.OpenParenthesis) (p 12) ∷ is (name (codes "rc_at")) (p 13) ∷ is (mark m.Less) (p 14) ∷ is (number n false) (p 15) ∷ is (mark m.CloseParenthesis) (p 16)
      ∷ is (name (codes "yield")) (p 17) ∷ is (mark m.OpenParenthesis) (p 18) ∷ is (mark m.CloseParenthesis) (p 19) ∷ is (mark m.Semicolon) (p 20) ∷ [] in
      let w3 = is (key Return) (p 21) ∷ is (number 0 false) (p 22) ∷ is (mark m.Semicolon) (p 23) ∷ [] in
      let d1 : Derives w1 (node g.Stmt s1) = call_stmt (codes "start") (p 7) (p 8) (p 9) (p 10) in
      let d2 : Derives w2 (node g.Stmt s2) = by refl g.a_while (then itself (then itself (then (less_at (codes "rc_at") n (p 13) (p 14) (p 15)) (then itself (then (call_stmt (codes "yield") (p 17) (p 18) (p 19) (p 20)) done))))) in
      let zero_end : Derives (is (number 0 false) (p 22) ∷ is (mark m.Semicolon) (p 23) ∷ []) (node g.ExprEnd (Some (t.number (p 22) 0 false))) = by refl g.an_expr (then (of_unary 0 (omega arith) (number_at 0 (p 22))) (then itself done)) in
      let d3 : Derives w3 (node g.Stmt s3) = by refl g.a_return (then itself (then zero_end done)) in
      let b1 : Derives w1 (node g.Body (t.next s1 t.done)) = by refl g.then_stmt (then none (then d1 done)) in
      let b2 : Derives (w1 ++ w2) (node g.Body (t.next s1 (t.next s2 t.done))) = by refl g.then_stmt (then b1 (then d2 done)) in
      let b3 : Derives ((w1 ++ w2) ++ w3) (node g.Body (t.next s1 (t.next s2 (t.next s3 t.done)))) = by refl g.then_stmt (then b2 (then d3 done)) in
      let body : t.Stmts = t.next s1 (t.next s2 (t.next s3 t.done)) in
      let w4 = is (mark m.OpenBrace) (p 6) ∷ (((w1 ++ w2) ++ w3) ++ is (mark m.CloseBrace) (p 24) ∷ []) in
      let block : Derives w4 (node g.Block body) = by refl g.a_block (then itself (then b3 (then itself done))) in
      let own : Derives w4 (node g.BodyEnd (Some body)) = by refl g.a_body (then block done) in
      let ending : Derives (is (key Deletes) (p 5) ∷ w4) (node g.FunctionEnd (record { deletes = true; body = Some body })) = by refl g.ends_deleting (then itself (then own done)) in
      let int : Derives (is (key Int) (p 0) ∷ []) (node g.Result (Some (record { base = base.Int (p 0); stars = [] }))) = by refl g.a_result (then (by refl g.a_type (then (by refl g.an_int (then itself done)) (then no_stars done))) done) in
      by refl g.a_function (then int (then (name_at (codes "main") (p 1)) (then itself (then (no_params (p 3) (p 4)) (then ending done)))))

  -- void yield ( void ) deletes { char * s = CHOICES ; char c ; if ( rc_at < COUNT ) { c = s [ rc_at ] ; rc_at ++ ; CALLS } }
  pub yield_derives : (line i : ℕ) → Derives (placed i (yield_tokens choices line)) (node g.Item (tree.yield_item choices (yield_places line i) line ∷ []))
  yield_derives line i =
      let p = at line i in
      let n = length choices in
      let ds = map digit choices in
      let i3 = nth i 33 in
      let cs = placed i3 (calls_tokens choices line every_task) in
      let tasks = tasks_tree choices line i3 every_task in
      let i4 = after i3 (calls_tokens choices line every_task) in
      let close1 = is (mark m.CloseBrace) (at line i4 0) in
      let close2 = is (mark m.CloseBrace) (at line i4 1) in
      let none : Derives [] (node g.Body t.done) = by {at = p 0} tt g.no_stmts done in
      -- c = s [ rc_at ] ; rc_at ++ ;
      let w1 = is (name (codes "c")) (p 23) ∷ is (mark m.Equal) (p 24) ∷ is (name (codes "s")) (p 25) ∷ is (mark m.OpenBracket) (p 26) ∷ is (name (codes "rc_at")) (p 27) ∷ is (mark m.CloseBracket) (p 28) ∷ is (mark m.Semicolon) (p 29) ∷ [] in
      let x1 : t.Simple = t.assign (p 23) (t.variable (named (p 23) (codes "c"))) (t.index (p 25) (t.variable (named (p 25) (codes "s"))) (t.variable (named (p 27) (codes "rc_at")))) in
      let right : Derives (is (name (codes "s")) (p 25) ∷ is (mark m.OpenBracket) (p 26) ∷ is (name (codes "rc_at")) (p 27) ∷ is (mark m.CloseBracket) (p 28) ∷ []) (node (g.Level 0) (t.index (p 25) (t.variable (named (p 25) (codes "s"))) (t.variable (named (p 27) (codes "rc_at"))))) = of_unary 0 (omega arith) (index_at (codes "s") (codes "rc_at") (p 25) (p 26) (p 27) (p 28)) in
      let a1 : Derives (is (name (codes "c")) (p 23) ∷ is (mark m.Equal) (p 24) ∷ is (name (codes "s")) (p 25) ∷ is (mark m.OpenBracket) (p 26) ∷ is (name (codes "rc_at")) (p 27) ∷ is (mark m.CloseBracket) (p 28) ∷ []) (node g.Simple x1) = by refl g.assigns (then (variable_at (codes "c") (p 23)) (then itself (then right done))) in
      let d1 : Derives w1 (node g.Stmt (t.simple (p 23) x1)) = by refl g.a_simple (then a1 (then itself done)) in
      let w2 = is (name (codes "rc_at")) (p 30) ∷ is (mark m.PlusPlus) (p 31) ∷ is (mark m.Semicolon) (p 32) ∷ [] in
      let x2 : t.Simple = t.step_after (p 30) Increment (t.variable (named (p 30) (codes "rc_at"))) in
      let a2 : Derives (is (name (codes "rc_at")) (p 30) ∷ is (mark m.PlusPlus) (p 31) ∷ []) (node g.Simple x2) = by refl (g.steps_after {op = Increment}) (then (variable_at (codes "rc_at") (p 30)) (then itself done)) in
      let d2 : Derives w2 (node g.Stmt (t.simple (p 30) x2)) = by refl g.a_simple (then a2 (then itself done)) in
      let b1 : Derives w1 (node g.Body (t.next (t.simple (p 23) x1) t.done)) = by refl g.then_stmt (then none (then d1 done)) in
      let b2 : Derives (w1 ++ w2) (node g.Body (t.next (t.simple (p 23) x1) (t.next (t.simple (p 30) x2) t.done))) = by refl g.then_stmt (then b1 (then d2 done)) in
      let taking : t.Stmts = t.next (t.simple (p 23) x1) (t.next (t.simple (p 30) x2) tasks) in
      let b3 : Derives ((w1 ++ w2) ++ cs) (node g.Body taking) = calls_add choices line every_task i3 (w1 ++ w2) (t.next (t.simple (p 23) x1) (t.next (t.simple (p 30) x2) t.done)) b2 in
      -- if ( rc_at < COUNT ) { .. }
      let w3 = is (mark m.OpenBrace) (p 22) ∷ (((w1 ++ w2) ++ cs) ++ close1 ∷ []) in
      let block1 : Derives w3 (node g.Block taking) = by refl g.a_block (then itself (then b3 (then itself done))) in
      let inner : Derives w3 (node g.Stmt (t.block (p 22) taking)) = by refl g.a_block_stmt (alone block1) in
      let s3 : t.Stmt = t.if_then (p 16) (t.binary (p 18) Less (t.variable (named (p 18) (codes "rc_at"))) (t.number (p 20) n false)) (t.block (p 22) taking) in
      let w4 = is (key If) (p 16) ∷ is (mark m.OpenParenthesis) (p 17) ∷ is (name (codes "rc_at")) (p 18) ∷ is (mark m.Less) (p 19) ∷ is (number n false) (p 20) ∷ is (mark m.CloseParenthesis) (p 21) ∷ w3 in
      let d3 : Derives w4 (node g.Stmt s3) = by refl g.an_if (then itself (then itself (then (less_at (codes "rc_at") n (p 18) (p 19) (p 20)) (then itself (alone inner))))) in
      -- char * s = CHOICES ; char c ;
      let w5 = is (key Char) (p 7) ∷ is (mark m.Star) (p 8) ∷ is (name (codes "s")) (p 9) ∷ is (mark m.Equal) (p 10) ∷ is (string ds) (p 11) ∷ is (mark m.Semicolon) (p 12) ∷ [] in
      let l1 : t.Local = record { spot = p 8; type_name = record { base = base.Char (p 7); stars = Plain ∷ [] }; name = named (p 9) (codes "s"); initial = Some (t.string (p 11) ds) } in
      let star : Derives (is (mark m.Star) (p 8) ∷ []) (node g.Stars (Plain ∷ [])) = by refl (g.plain_star {before = []}) (then no_stars (then (by refl g.a_star (then itself done)) done)) in
      let dec1 : Derives (is (mark m.Star) (p 8) ∷ is (name (codes "s")) (p 9) ∷ is (mark m.Equal) (p 10) ∷ is (string ds) (p 11) ∷ []) (node g.LocalDec (record { spot = p 8; stars = Plain ∷ []; name = named (p 9) (codes "s"); initial = Some (t.string (p 11) ds) })) =
      by refl g.a_local_with (then star (then (name_at (codes "s") (p 9)) (then itself (then (of_unary 0 (omega arith) (string_at ds (p 11))) done)))) in
      let decs1 : Derives (is (mark m.Star) (p 8) ∷ is (name (codes "s")) (p 9) ∷ is (mark m.Equal) (p 10) ∷ is (string ds) (p 11) ∷ []) (node g.LocalDecs (record { spot = p 8; stars = Plain ∷ []; name = named (p 9) (codes "s"); initial = Some (t.string (p 11) ds) } ∷ [])) = by refl g.one_local (then dec1 done) in
      let char1 : Derives (is (key Char) (p 7) ∷ []) (node g.Base (base.Char (p 7))) = by refl g.a_char (then itself done) in
      let e1 : Derives w5 (node g.Locals (l1 ∷ [])) = by refl g.locals (then char1 (then decs1 (then itself done))) in
      let w6 = is (key Char) (p 13) ∷ is (name (codes "c")) (p 14) ∷ is (mark m.Semicolon) (p 15) ∷ [] in
      let l2 : t.Local = record { spot = p 14; type_name = record { base = base.Char (p 13); stars = [] }; name = named (p 14) (codes "c"); initial = None } in
      let dec2 : Derives (is (name (codes "c")) (p 14) ∷ []) (node g.LocalDec (record { spot = p 14; stars = []; name = named (p 14) (codes "c"); initial = None })) = by refl g.a_local (then no_stars (then (name_at (codes "c") (p 14)) done)) in
      let decs2 : Derives (is (name (codes "c")) (p 14) ∷ []) (node g.LocalDecs (record { spot = p 14; stars = []; name = named (p 14) (codes "c"); initial = None } ∷ [])) = by refl g.one_local (then dec2 done) in
      let char2 : Derives (is (key Char) (p 13) ∷ []) (node g.Base (base.Char (p 13))) = by refl g.a_char (then itself done) in
      let e2 : Derives w6 (node g.Locals (l2 ∷ [])) = by refl g.locals (then char2 (then decs2 (then itself done))) in
      let f1 : Derives w5 (node g.Body (t.next (t.local l1) t.done)) = by refl g.then_locals (then none (then e1 done)) in
      let f2 : Derives (w5 ++ w6) (node g.Body (t.next (t.local l1) (t.next (t.local l2) t.done))) = by refl g.then_locals (then f1 (then e2 done)) in
      let body : t.Stmts = t.next (t.local l1) (t.next (t.local l2) (t.next s3 t.done)) in
      let f3 : Derives ((w5 ++ w6) ++ w4) (node g.Body body) = by refl g.then_stmt (then f2 (alone d3)) in
      let w7 = is (mark m.OpenBrace) (p 6) ∷ (((w5 ++ w6) ++ w4) ++ close2 ∷ []) in
      let block2 : Derives w7 (node g.Block body) = by refl g.a_block (then itself (then f3 (then itself done))) in
      let own : Derives w7 (node g.BodyEnd (Some body)) = by refl g.a_body (alone block2) in
      let ending : Derives (is (key Deletes) (p 5) ∷ w7) (node g.FunctionEnd (record { deletes = true; body = Some body })) = by refl g.ends_deleting (then itself (alone own)) in
      let void : Derives (is (key Void) (p 0) ∷ []) (node g.Result None) = by refl g.a_void (then itself done) in
      let front = is (key Void) (p 0) ∷ is (name (codes "yield")) (p 1) ∷ is (mark m.OpenParenthesis) (p 2) ∷ is (key Void) (p 3) ∷ is (mark m.CloseParenthesis) (p 4) ∷ is (key Deletes) (p 5) ∷ [] in
      let item : List t.Item = tree.yield_item choices (yield_places line i) line ∷ [] in
      let whole : Derives (front ++ w7) (node g.Item item) = by refl g.a_function (then void (then (name_at (codes "yield") (p 1)) (then itself (then (no_params (p 3) (p 4)) (alone ending))))) in
      let P : List Placed → Type 0 = λ z. Derives z (node g.Item item) in
      let Q : List Placed → Type 0 = λ z. Derives (front ++ (is (mark m.OpenBrace) (p 6) ∷ ((w5 ++ w6) ++ (is (key If) (p 16) ∷ is (mark m.OpenParenthesis) (p 17) ∷ is (name (codes "rc_at")) (p 18) ∷ is (mark m.Less) (p 19) ∷ is (number n false) (p 20) ∷ is (mark m.CloseParenthesis) (p 21)
      ∷ is (mark m.OpenBrace) (p 22) ∷ ((w1 ++ w2) ++ z))))) (node g.Item item) in
      subst Q (append_assoc cs (close1 ∷ []) (close2 ∷ []) ∙ sym (placed_on i3 (calls_tokens choices line every_task) (on line yield_end))) whole
