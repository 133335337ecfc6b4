-- The nodes that delete are those of the flow.
use Rattle.std.proofs.Common.{◌≡◌, ℕ, suc, ◌+◌, List, [], ◌∷◌, ◌++◌, Option, Some, None, refl, sym, subst, ◌⊎◌, inl, inr}
use Rattle.std.specs.Prelude.{slice_get, IsSome}
use Rattle.std.specs.List.{AllByRecursion as Every}
use Rattle.rc_core.specs.Programs.{Expr, Stmt, block, declare, assign, store, update, copy, evaluate, delete, branch, while, repeat, for, break, continue, return, Stmts, done, then, Function, Program}
use Rattle.rc_core.specs.Flow.{Loop, while_loop, for_loop, Item, statement, condition, round_end, Point, statements, out_of, back_of, Leads}
use Rattle.rc_rlang.specs.Points.{points, condition_points, optional_points, statement_points}
use Rattle.rc_source_lists.specs.DeletingNodes.{Node, deleting_call, optional_call, node_if, nodes, all_nodes, function_nodes}
use Rattle.rc_source_lists.specs.FlowNodes.{Along, at_body, left_over, led_to, deletes_at, IsNode, Stands, NodesStand, NodesAreAll}

every_join : (P : Node → Type 0) (xs ys : List Node) → Every P xs → Every P ys → Every P (xs ++ ys)
every_join P [] ys d e = e
every_join P (x ∷ xs) ys d e = (d.0, every_join P xs ys d.1 e)

every_left : (P : Node → Type 0) (xs ys : List Node) → Every P (xs ++ ys) → Every P xs
every_left P [] ys e = tt
every_left P (x ∷ xs) ys e = (e.0, every_left P xs ys e.1)

every_right : (P : Node → Type 0) (xs ys : List Node) → Every P (xs ++ ys) → Every P ys
every_right P [] ys e = e
every_right P (x ∷ xs) ys e = every_right P xs ys e.1

module _ (program : Program) (f : Function) where
  one_stands : (o : Option ℕ) (at : ℕ) (i : Item) (p : Point) → Along f (i ∷ p) → Every (Stands f) (node_if program f o at i p)
  one_stands None at i p a = tt
  one_stands (Some n) at i p a = (record { function = refl; along = a }, tt)

  abbrev size : Stmt → ℕ
  size s = statement_points program.structs s

  mutual
    pub nodes_stand : (s : Stmt) (at : ℕ) (p : Point) → Along f (statement s ∷ p) → Every (Stands f) (nodes program f s at p)
    nodes_stand (block body) at p a = all_stand body at p (led_to _ _ _ a refl)
    nodes_stand (declare line x value) at p a = one_stands (optional_call program value) at _ p a
    nodes_stand (assign line x e) at p a = one_stands (deleting_call program e) at _ p a
    nodes_stand (store line place e) at p a = tt
    nodes_stand (update line place change e) at p a = tt
    nodes_stand (copy line s l r) at p a = tt
    nodes_stand (evaluate line e) at p a = one_stands (deleting_call program e) at _ p a
    nodes_stand (delete line e) at p a = one_stands (Some (points e)) at _ p a
    nodes_stand (branch line test s t) at p a =
        every_join (Stands f) (node_if program f (deleting_call program test) at (statement (branch line test s t)) p) _ (one_stands (deleting_call program test) at _ p a)
        (every_join (Stands f) (nodes program f s (at + condition_points test) p) _ (nodes_stand s (at + condition_points test) p (led_to _ _ _ a (inl refl))) (nodes_stand t (at + condition_points test + size s) p (led_to _ _ _ a (inr refl))))
    nodes_stand (while line test s) at p a =
        let loop = while_loop test s in
        let c = led_to _ _ (condition loop ∷ p) a refl in
        every_join (Stands f) (node_if program f (deleting_call program test) (suc at) (condition loop) p) _ (one_stands (deleting_call program test) (suc at) (condition loop) p c)
        (nodes_stand s (suc at + condition_points test) (round_end loop ∷ p) (led_to _ _ _ c (inl refl)))
    nodes_stand (repeat line s test) at p a =
        let loop = while_loop test s in
        let b = led_to _ _ (statement s ∷ round_end loop ∷ p) a refl in
        let c = left_over _ _ (led_to _ _ (statement (block done) ∷ condition loop ∷ p) (left_over _ _ b) refl) in
        every_join (Stands f) (nodes program f s (suc at) (round_end loop ∷ p)) _ (nodes_stand s (suc at) (round_end loop ∷ p) b)
        (one_stands (deleting_call program test) (suc at + size s) (condition loop) p c)
    nodes_stand (for line first test third s) at p a =
        let loop = for_loop test third s in
        let head = suc (at + size first) in
        let at_s = head + optional_points condition_points test in
        let b = led_to _ _ (statement first ∷ condition loop ∷ p) a refl in
        let c = left_over _ _ b in
        let d = led_to _ _ (statement s ∷ round_end loop ∷ p) c (inl refl) in
        let e = led_to _ _ (statement third ∷ condition loop ∷ p) (left_over _ _ d) refl in
        every_join (Stands f) (nodes program f first at (condition loop ∷ p)) _ (nodes_stand first at (condition loop ∷ p) b)
        (every_join (Stands f) (node_if program f (optional_call program test) head (condition loop) p) _ (one_stands (optional_call program test) head (condition loop) p c)
        (every_join (Stands f) (nodes program f s at_s (round_end loop ∷ p)) _ (nodes_stand s at_s (round_end loop ∷ p) d) (nodes_stand third (at_s + size s) (condition loop ∷ p) e)))
    nodes_stand (break line) at p a = tt
    nodes_stand (continue line) at p a = tt
    nodes_stand (return line value) at p a = one_stands (optional_call program value) at _ p a

    all_stand : (body : Stmts) (at : ℕ) (p : Point) → Along f (statements body p) → Every (Stands f) (all_nodes program f body at p)
    all_stand done at p a = tt
    all_stand (then s more) at p a = every_join (Stands f) (nodes program f s at (statements more p)) _ (nodes_stand s at (statements more p) a) (all_stand more (at + size s) p (left_over _ _ a))

pub all_nodes_stand : NodesStand
all_nodes_stand program f here = nodes_stand program f f.body (suc here) [] at_body

-- and all are there
module _ (program : Program) (f : Function) (here : ℕ) where
  abbrev There : Node → Type 0
  There n = IsNode (function_nodes program f here) n.item n.rest

  abbrev Sub : List Node → Type 0
  Sub ns = Every There ns

  record LoopCovered (loop : Loop) (p : Point) : Type 0 where
    at_test : ℕ
    at_body : ℕ
    at_third : ℕ
    test : Sub (node_if program f (optional_call program loop.test) at_test (condition loop) p)
    body : Sub (nodes program f loop.body at_body (round_end loop ∷ p))
    third : Sub (nodes program f loop.third at_third (condition loop ∷ p))

  record Covered (s : Stmt) (p : Point) : Type 0 where
    at : ℕ
    all : Sub (nodes program f s at p)

  abbrev ItemCovered : Item → Point → Type 0
  ItemCovered (statement s) p = Covered s p
  ItemCovered (condition loop) p = LoopCovered loop p
  ItemCovered (round_end loop) p = LoopCovered loop p

  abbrev PointCovered : Point → Type 0
  PointCovered [] = Unit {0}
  PointCovered (i ∷ p) = ItemCovered i p × PointCovered p

  out_covered : (p : Point) → PointCovered p → PointCovered (out_of p)
  out_covered [] c = tt
  out_covered (statement s ∷ p) c = out_covered p c.1
  out_covered (condition loop ∷ p) c = out_covered p c.1
  out_covered (round_end loop ∷ p) c = c.1

  back_covered : (p : Point) → PointCovered p → PointCovered (back_of p)
  back_covered [] c = tt
  back_covered (statement s ∷ p) c = back_covered p c.1
  back_covered (condition loop ∷ p) c = back_covered p c.1
  back_covered (round_end loop ∷ p) c = c

  body_covered : (body : Stmts) (at : ℕ) (p : Point) → Sub (all_nodes program f body at p) → PointCovered p → PointCovered (statements body p)
  body_covered done at p a c = c
  body_covered (then s more) at p a c = (
    record { at = at; all = every_left There (nodes program f s at (statements more p)) (all_nodes program f more (at + statement_points program.structs s) p) a },
    body_covered more (at + statement_points program.structs s) p (every_right There (nodes program f s at (statements more p)) (all_nodes program f more (at + statement_points program.structs s) p) a) c,
  )

  abbrev with : (next : Point) (q : Point) → next ≡ q → PointCovered q → PointCovered next
  with next q e c = subst PointCovered (sym e) c

  branch_covered : (line : ℕ) (test : Expr) (s t : Stmt) (p next : Point) → Covered (branch line test s t) p → PointCovered p → (next ≡ statement s ∷ p) ⊎ (next ≡ statement t ∷ p) → PointCovered next
  branch_covered line test s t p next c d l = by l
    where
      both : Sub (nodes program f s (c.at + condition_points test) p ++ nodes program f t (c.at + condition_points test + statement_points program.structs s) p)
      both = every_right There (node_if program f (deleting_call program test) c.at (statement (branch line test s t)) p) _ c.all

      by : (next ≡ statement s ∷ p) ⊎ (next ≡ statement t ∷ p) → PointCovered next
      by (inl e) = with next (statement s ∷ p) e (record { at = c.at + condition_points test; all = every_left There (nodes program f s (c.at + condition_points test) p) (nodes program f t (c.at + condition_points test + statement_points program.structs s) p) both }, d)
      by (inr e) = with next (statement t ∷ p) e (record { at = c.at + condition_points test + statement_points program.structs s; all = every_right There (nodes program f s (c.at + condition_points test) p) (nodes program f t (c.at + condition_points test + statement_points program.structs s) p) both }, d)

  while_covered : (line : ℕ) (test : Expr) (s : Stmt) (p : Point) → Covered (while line test s) p → LoopCovered (while_loop test s) p
  while_covered line test s p c =
      let loop = while_loop test s in
      let at_s = suc c.at + condition_points test in
      record {
        at_test = suc c.at;
        at_body = at_s;
        at_third = 0;
        test = every_left There (node_if program f (deleting_call program test) (suc c.at) (condition loop) p) (nodes program f s at_s (round_end loop ∷ p)) c.all;
        body = every_right There (node_if program f (deleting_call program test) (suc c.at) (condition loop) p) (nodes program f s at_s (round_end loop ∷ p)) c.all;
        third = tt;
      }

  repeat_covered : (line : ℕ) (s : Stmt) (test : Expr) (p : Point) → Covered (repeat line s test) p → LoopCovered (while_loop test s) p
  repeat_covered line s test p c =
      let loop = while_loop test s in
      let at_test = suc c.at + statement_points program.structs s in
      record {
        at_test = at_test;
        at_body = suc c.at;
        at_third = 0;
        test = every_right There (nodes program f s (suc c.at) (round_end loop ∷ p)) (node_if program f (deleting_call program test) at_test (condition loop) p) c.all;
        body = every_left There (nodes program f s (suc c.at) (round_end loop ∷ p)) (node_if program f (deleting_call program test) at_test (condition loop) p) c.all;
        third = tt;
      }

  for_covered : (line : ℕ) (first : Stmt) (test : Option Expr) (third s : Stmt) (p : Point) → Covered (for line first test third s) p → Covered first (condition (for_loop test third s) ∷ p) × LoopCovered (for_loop test third s) p
  for_covered line first test third s p c =
      let loop = for_loop test third s in
      let head = suc (c.at + statement_points program.structs first) in
      let at_s = head + optional_points condition_points test in
      let at_t = at_s + statement_points program.structs s in
      let parts = nodes program f s at_s (round_end loop ∷ p) ++ nodes program f third at_t (condition loop ∷ p) in
      let tail = every_right There (nodes program f first c.at (condition loop ∷ p)) (node_if program f (optional_call program test) head (condition loop) p ++ parts) c.all in
      let two = every_right There (node_if program f (optional_call program test) head (condition loop) p) parts tail in (
        record { at = c.at; all = every_left There (nodes program f first c.at (condition loop ∷ p)) (node_if program f (optional_call program test) head (condition loop) p ++ parts) c.all },
        record {
          at_test = head;
          at_body = at_s;
          at_third = at_t;
          test = every_left There (node_if program f (optional_call program test) head (condition loop) p) parts tail;
          body = every_left There (nodes program f s at_s (round_end loop ∷ p)) (nodes program f third at_t (condition loop ∷ p)) two;
          third = every_right There (nodes program f s at_s (round_end loop ∷ p)) (nodes program f third at_t (condition loop ∷ p)) two;
        },
      )

  led_covered : (i : Item) (p next : Point) → ItemCovered i p → PointCovered p → Leads i p next → PointCovered next
  led_covered (statement (block body)) p next c d l = with next (statements body p) l (body_covered body c.at p c.all d)
  led_covered (statement (declare line x value)) p next c d l = with next p l d
  led_covered (statement (assign line x e)) p next c d l = with next p l d
  led_covered (statement (store line place e)) p next c d l = with next p l d
  led_covered (statement (update line place change e)) p next c d l = with next p l d
  led_covered (statement (copy line s left right)) p next c d l = with next p l d
  led_covered (statement (evaluate line e)) p next c d l = with next p l d
  led_covered (statement (delete line e)) p next c d l = with next p l d
  led_covered (statement (branch line test s t)) p next c d l = branch_covered line test s t p next c d l
  led_covered (statement (while line test s)) p next c d l = with next (condition (while_loop test s) ∷ p) l (while_covered line test s p c, d)
  led_covered (statement (repeat line s test)) p next c d l =
      let r = repeat_covered line s test p c in
      with next (statement s ∷ round_end (while_loop test s) ∷ p) l (record { at = r.at_body; all = r.body }, (r, d))
  led_covered (statement (for line first test third s)) p next c d l =
      let r = for_covered line first test third s p c in
      with next (statement first ∷ condition (for_loop test third s) ∷ p) l (r.0, (r.1, d))
  led_covered (statement (break line)) p next c d l = with next (out_of p) l (out_covered p d)
  led_covered (statement (continue line)) p next c d l = with next (back_of p) l (back_covered p d)
  led_covered (statement (return line value)) p next c d l = absurd l
  led_covered (condition loop) p next c d (inl e) = with next (statement loop.body ∷ round_end loop ∷ p) e (record { at = c.at_body; all = c.body }, (c, d))
  led_covered (condition loop) p next c d (inr e) = with next p e.1 d
  led_covered (round_end loop) p next c d l = with next (statement loop.third ∷ condition loop ∷ p) l (record { at = c.at_third; all = c.third }, (c, d))

  covered : (p : Point) → Sub (function_nodes program f here) → Along f p → PointCovered p
  covered p own at_body = (record { at = suc here; all = own }, tt)
  covered p own (left_over i q a) = (covered (i ∷ q) own a).1
  covered p own (led_to i q next a l) = let c = covered (i ∷ q) own a in led_covered i q p c.0 c.1 l

  each_there : (ns : List Node) → ((n : ℕ) (a : Node) → slice_get ns n ≡ Some a → There a) → Sub ns
  each_there [] g = tt
  each_there (a ∷ ns) g = (g 0 a refl, each_there ns (λ n b e. g (suc n) b e))

  the_node : (o : Option ℕ) (at : ℕ) (i : Item) (p : Point) → IsSome o → Sub (node_if program f o at i p) → IsNode (function_nodes program f here) i p
  the_node None at i p s c = cc
  the_node (Some n) at i p s c = c.0

  is_there : (i : Item) (p : Point) → IsSome (deletes_at program i) → ItemCovered i p → IsNode (function_nodes program f here) i p
  is_there (statement (block body)) p s c = cc
  is_there (statement (declare line x value)) p s c = the_node (optional_call program value) c.at _ p s c.all
  is_there (statement (assign line x e)) p s c = the_node (deleting_call program e) c.at _ p s c.all
  is_there (statement (store line place e)) p s c = cc
  is_there (statement (update line place change e)) p s c = cc
  is_there (statement (copy line t left right)) p s c = cc
  is_there (statement (evaluate line e)) p s c = the_node (deleting_call program e) c.at _ p s c.all
  is_there (statement (delete line e)) p s c = the_node (Some (points e)) c.at _ p s c.all
  is_there (statement (branch line test a b)) p s c = the_node (deleting_call program test) c.at _ p s (every_left There (node_if program f (deleting_call program test) c.at (statement (branch line test a b)) p) _ c.all)
  is_there (statement (while line test a)) p s c = cc
  is_there (statement (repeat line a test)) p s c = cc
  is_there (statement (for line first test third a)) p s c = cc
  is_there (statement (break line)) p s c = cc
  is_there (statement (continue line)) p s c = cc
  is_there (statement (return line value)) p s c = the_node (optional_call program value) c.at _ p s c.all
  is_there (condition loop) p s c = the_node (optional_call program loop.test) c.at_test _ p s c.test
  is_there (round_end loop) p s c = cc

pub nodes_are_all : NodesAreAll
nodes_are_all program f here i p a s = is_there program f here i p s (covered program f here (i ∷ p) (each_there program f here (function_nodes program f here) itself) a).0
  where
    itself : (n : ℕ) (b : Node) → slice_get (function_nodes program f here) n ≡ Some b → IsNode (function_nodes program f here) b.item b.rest
    itself n b e = record { number = n; node = b; there = e; item = refl; rest = refl }
