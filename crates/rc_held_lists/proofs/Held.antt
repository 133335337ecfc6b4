-- What a run holds is listed: the lists of each part that it comes to are those of the map.
use Rattle.std.proofs.Common.{◌≡◌, ℕ, zero, suc, ◌+◌, Bool, true, false, ◌||◌, List, [], ◌∷◌, ◌++◌, Option, Some, None, refl, sym, ◌∙◌, subst, arith}
use Rattle.std.specs.Prelude.{slice_get, option_map}
use Rattle.std.specs.List.{AllByRecursion as Every}
use Rattle.std.proofs.lemmas.Option.{same_Some, slice_get-map}
use Rattle.rc_core.specs.Types.{Ty}
use Rattle.rc_core.specs.Live.{Ways, then_live, at_end}
use Rattle.rc_core.specs.Source.{World}
use Rattle.rc_core.specs.Programs.{Function, Program}
use Rattle.rc_core.specs.WellTyped.{IsWellTyped}
use Rattle.rc_rlang.specs.RegionCode.{fork, Steps, Act, Test, Code, branch, loop, repeat, Codes, Routine, Rlang}
use Rattle.rc_rlang.specs.RegionLive.{before_steps, before_act, before_code, before_codes}
use Rattle.rc_rlang.specs.RegionPoints.{step_points, steps_points, branch_points, code_points, routine_points}
use Rattle.rc_rlang.specs.RegionRuns.{pins_from, deletes}
use Rattle.rc_rlang.specs.LiveLists.{Held, held_if, step_lists, steps_lists, act_lists, code_lists, codes_lists, functions_lists, live_lists}
use Rattle.rc_rlang.specs.LiveMaps.{list_at}
use Rattle.rc_liveness.proofs.Mapped.{lists_are_maps}
use Rattle.rc_along.specs.Comes.{Activation, Part, At, Calling, Stepping, Acting, Moving, Running, RunningAll, loop_third, loop_body, loop_live, repeat_body, repeat_live, loop_at_body, loop_at_third, repeat_at_tail, Comes, at_main, at_entry, at_body, behind_body, at_zero_return, at_step, at_yes, at_no, at_call, at_next_step, at_act, at_performed, in_update, behind_operation, at_cells, at_cell, at_loaded_cell, at_next_cell, at_steps, behind_steps, at_clear, at_break, at_continue, at_block, at_first, at_rest, at_condition, at_branch, at_true, at_false, at_loop, at_loop_condition, at_loop_branch, at_loop_body, at_third, at_next_round, at_repeat, at_repeat_body, at_repeat_condition, at_repeat_branch, at_repeat_round}
use Rattle.rc_translation.specs.Translation.{routine_of, region_of_program}
use Rattle.rc_source_lists.specs.DeletingNodes.{Node, function_nodes}
use Rattle.rc_source_lists.specs.SourceLists.{IsListOf, AreListsOf}
use Rattle.rc_source_lists.proofs.Listed.{Paths, each_in, found, function_matches}
use Rattle.rc_held_lists.specs.HeldLists.{first_point, Deletes, deletion, performed, called, HeldAreListed, IsNodeAt, HeldAreLiveInTheSource}

-- where each list of a function is told
module _ (r : Rlang) (P : (function : ℕ) → Held → Type 0) (each : (k : ℕ) (f : Routine) → slice_get r.functions k ≡ Some f → Every (P k) (code_lists (deletes r) f.locals f.body (suc (first_point r.functions k)) at_end)) where
  abbrev AllTold : ℕ → List Held → Type 0
  AllTold k hs = Every (P k) hs

  left : (k : ℕ) (xs ys : List Held) → AllTold k (xs ++ ys) → AllTold k xs
  left k [] ys e = tt
  left k (x ∷ xs) ys e = (e.0, left k xs ys e.1)

  right : (k : ℕ) (xs ys : List Held) → AllTold k (xs ++ ys) → AllTold k ys
  right k [] ys e = e
  right k (x ∷ xs) ys e = right k xs ys e.1

  shift : (k : ℕ) (ls : ℕ → List Held) (n m : ℕ) → n ≡ m → AllTold k (ls n) → AllTold k (ls m)
  shift k ls n m e t = subst (λ i. AllTold k (ls i)) e t

  abbrev base : Activation → ℕ
  base c = first_point r.functions c.function

  abbrev steps_in : Activation → Steps → ℕ → (ℕ → Bool) → List Held
  steps_in c s n live = steps_lists (deletes r) c.routine.locals s n live

  abbrev act_in : Activation → Act → ℕ → (ℕ → Bool) → List Held
  act_in c act n live = act_lists (deletes r) c.routine.locals act n live

  abbrev code_in : Activation → Code → ℕ → Ways → List Held
  code_in c x n k = code_lists (deletes r) c.routine.locals x n k

  abbrev codes_in : Activation → Codes → ℕ → Ways → List Held
  codes_in c x n k = codes_lists (deletes r) c.routine.locals x n k

  abbrev PartTold : Part → Type 0
  PartTold (At g p values heap) = Unit {0}
  PartTold (Calling n k xs w) = Unit {0}
  PartTold (Stepping c s here live env t w) = AllTold c.function (steps_in c s (base c + here) live)
  PartTold (Acting c act here live env t w) = AllTold c.function (act_in c act (base c + here) live)
  PartTold (Moving c line h kinds from to here env t w) = Unit {0}
  PartTold (Running c x here k env t w) = AllTold c.function (code_in c x (base c + here) k)
  PartTold (RunningAll c xs here k env t w) = AllTold c.function (codes_in c xs (base c + here) k)

  branch_told : (c : Activation) (steps : Steps) (test : Test) (x y : Code) (here : ℕ) (k : Ways) → AllTold c.function (code_in c (branch steps test x y) (base c + here) k) →
      AllTold c.function (steps_in c steps (base c + here) (λ n. before_code x k n || before_code y k n)) × AllTold c.function (code_in c x (base c + suc (here + steps_points steps)) k) × AllTold c.function (code_in c y (base c + (suc (here + steps_points steps) + code_points x)) k)
  branch_told c steps test x y here k t =
      let p = base c + here in
      let live = λ (n : ℕ). before_code x k n || before_code y k n in
      let at_x = suc (p + steps_points steps) in
      let at_y = at_x + code_points x in
      let both = right c.function (steps_in c steps p live) (code_in c x at_x k ++ code_in c y at_y k) t in (
        left c.function (steps_in c steps p live) (code_in c x at_x k ++ code_in c y at_y k) t,
        shift c.function (λ n. code_in c x n k) at_x _ (omega arith) (left c.function (code_in c x at_x k) (code_in c y at_y k) both),
        shift c.function (λ n. code_in c y n k) at_y _ (omega arith) (right c.function (code_in c x at_x k) (code_in c y at_y k) both),
      )

  loop_told : (c : Activation) (line : ℕ) (steps : Steps) (test : Option Test) (third x : Code) (here : ℕ) (k : Ways) → AllTold c.function (code_in c (loop line steps test third x) (base c + here) k) →
      AllTold c.function (steps_in c steps (base c + suc here) (loop_live steps test third x k)) × AllTold c.function (code_in c x (base c + loop_at_body here steps test) (loop_body steps test third x k)) × AllTold c.function (code_in c third (base c + loop_at_third here steps test x) (loop_third steps test third x k))
  loop_told c line steps test third x here k t =
      let p = suc (base c + here) in
      let live = loop_live steps test third x k in
      let k1 = loop_body steps test third x k in
      let k2 = loop_third steps test third x k in
      let at_x = p + steps_points steps + branch_points test in
      let at_third = at_x + code_points x in
      let both = right c.function (steps_in c steps p live) (code_in c x at_x k1 ++ code_in c third at_third k2) t in (
        shift c.function (λ n. steps_in c steps n live) p _ (omega arith) (left c.function (steps_in c steps p live) (code_in c x at_x k1 ++ code_in c third at_third k2) t),
        shift c.function (λ n. code_in c x n k1) at_x _ (omega arith) (left c.function (code_in c x at_x k1) (code_in c third at_third k2) both),
        shift c.function (λ n. code_in c third n k2) at_third _ (omega arith) (right c.function (code_in c x at_x k1) (code_in c third at_third k2) both),
      )

  do_told : (c : Activation) (line : ℕ) (x : Code) (steps : Steps) (test : Test) (here : ℕ) (k : Ways) → AllTold c.function (code_in c (repeat line x steps test) (base c + here) k) →
      AllTold c.function (code_in c x (base c + suc here) (repeat_body x steps test k)) × AllTold c.function (steps_in c steps (base c + repeat_at_tail here x) (repeat_live x steps test k))
  do_told c line x steps test here k t =
      let p = suc (base c + here) in
      let live = repeat_live x steps test k in
      let k1 = repeat_body x steps test k in (
        shift c.function (λ n. code_in c x n k1) p _ (omega arith) (left c.function (code_in c x p k1) (steps_in c steps (p + code_points x) live) t),
        shift c.function (λ n. steps_in c steps n live) (p + code_points x) _ (omega arith) (right c.function (code_in c x p k1) (steps_in c steps (p + code_points x) live) t),
      )

  module _ (first : World) where
    pub comes_told : (part : Part) → Comes r first part → PartTold part
    comes_told part at_main = tt
    comes_told part (at_entry m k f xs w w1 before there e) = tt
    comes_told part (at_body m k f xs w w1 before there e) =
        shift k (λ n. code_lists (deletes r) f.locals f.body n at_end) (suc (first_point r.functions k)) (first_point r.functions k + 1) (omega arith) (each k f there)
    comes_told part (behind_body m k f xs w w1 w2 env t before there e e1) = tt
    comes_told part (at_zero_return m k f xs w w1 w2 env t ty before there e e1 is) = tt
    comes_told part (at_step c s rest here live env t w before) = tt
    comes_told part (at_yes c line h ty to x y rest here live env t w before e) =
        let l1 = before_steps rest live in
        shift c.function (λ n. steps_in c x n l1) (suc (base c + here)) (base c + suc here) (omega arith)
        (left c.function (steps_in c x (suc (base c + here)) l1) (steps_in c y (suc (base c + here) + steps_points x) l1)
        (left c.function (step_lists (deletes r) c.routine.locals (fork line h ty to x y) (base c + here) l1) (steps_in c rest (base c + here + step_points (fork line h ty to x y)) live) (comes_told _ before)))
    comes_told part (at_no c line h ty to x y rest here live env t w before e) =
        let l1 = before_steps rest live in
        shift c.function (λ n. steps_in c y n l1) (suc (base c + here) + steps_points x) (base c + (suc here + steps_points x)) (omega arith)
        (right c.function (steps_in c x (suc (base c + here)) l1) (steps_in c y (suc (base c + here) + steps_points x) l1)
        (left c.function (step_lists (deletes r) c.routine.locals (fork line h ty to x y) (base c + here) l1) (steps_in c rest (base c + here + step_points (fork line h ty to x y)) live) (comes_told _ before)))
    comes_told part (at_call c line h ty k tys rest here live env t w before) = tt
    comes_told part (at_next_step c s rest here live env t t1 w w1 before e) =
        shift c.function (λ n. steps_in c rest n live) (base c + here + step_points s) (base c + (here + step_points s)) (omega arith)
        (right c.function (step_lists (deletes r) c.routine.locals s (base c + here) (before_steps rest live)) (steps_in c rest (base c + here + step_points s) live) (comes_told _ before))
    comes_told part (at_act c act here live env t w before lt) = tt
    comes_told part (at_performed c line k tys here live env t w before) = tt
    comes_told part (in_update c line acc change ty here live env t w old w1 i before e lt le) = tt
    comes_told part (behind_operation c line acc change ty here live env t w old w1 new w2 i before e e1 lt le) = tt
    comes_told part (at_cells c line kinds left' right' here live env t w before) = tt
    comes_told part (at_cell c line h kind kinds from to here env t w before) = tt
    comes_told part (at_loaded_cell c line h kind kinds from to here env t w v w1 before e) = tt
    comes_told part (at_next_cell c line h kind kinds from to here env t w v w1 w2 before e e1) = tt
    comes_told part (at_steps c steps act here k env t w before) =
        left c.function (steps_in c steps (base c + here) (before_act act k.next)) (act_in c act (base c + here + steps_points steps) k.next) (comes_told _ before)
    comes_told part (behind_steps c steps act here k env t w t1 w1 before e) =
        shift c.function (λ n. act_in c act n k.next) (base c + here + steps_points steps) (base c + (here + steps_points steps)) (omega arith)
        (right c.function (steps_in c steps (base c + here) (before_act act k.next)) (act_in c act (base c + here + steps_points steps) k.next) (comes_told _ before))
    comes_told part (at_clear c line x ty here k env t w before) = tt
    comes_told part (at_break c line here k env t w before) = tt
    comes_told part (at_continue c line here k env t w before) = tt
    comes_told part (at_block c codes here k env t w before) = comes_told _ before
    comes_told part (at_first c x rest here k env t w before) =
        left c.function (code_in c x (base c + here) (then_live (before_codes rest k) k)) (codes_in c rest (base c + here + code_points x) k) (comes_told _ before)
    comes_told part (at_rest c x rest here k env t w env1 t1 w1 before e) =
        shift c.function (λ n. codes_in c rest n k) (base c + here + code_points x) (base c + (here + code_points x)) (omega arith)
        (right c.function (code_in c x (base c + here) (then_live (before_codes rest k) k)) (codes_in c rest (base c + here + code_points x) k) (comes_told _ before))
    comes_told part (at_condition c steps test x y here k env t w before) = (branch_told c steps test x y here k (comes_told _ before)).0
    comes_told part (at_branch c steps test x y here k env t w t1 w1 before e) = tt
    comes_told part (at_true c steps test x y here k env t w t1 w1 before e b) = (branch_told c steps test x y here k (comes_told _ before)).1
    comes_told part (at_false c steps test x y here k env t w t1 w1 before e b) = (branch_told c steps test x y here k (comes_told _ before)).2
    comes_told part (at_loop c line steps test third x here k env t w before) = tt
    comes_told part (at_loop_condition c line steps test third x here k env t w before) = (loop_told c line steps test third x here k (comes_told _ before)).0
    comes_told part (at_loop_branch c line steps test third x here k env t w t1 w1 before e) = tt
    comes_told part (at_loop_body c line steps test third x here k env t w t1 w1 before e b) = (loop_told c line steps test third x here k (comes_told _ before)).1
    comes_told part (at_third c line steps test third x here k env t w t1 w1 way env2 t2 w2 before e b e2 goes) = (loop_told c line steps test third x here k (comes_told _ before)).2
    comes_told part (at_next_round c line steps test third x here k env t w t1 w1 way env2 t2 w2 env3 t3 w3 w4 before e b e2 goes e3 e4) = comes_told _ before
    comes_told part (at_repeat c line x steps test here k env t w before) = tt
    comes_told part (at_repeat_body c line x steps test here k env t w before) = (do_told c line x steps test here k (comes_told _ before)).0
    comes_told part (at_repeat_condition c line x steps test here k env t w way env1 t1 w1 before e goes) = (do_told c line x steps test here k (comes_told _ before)).1
    comes_told part (at_repeat_branch c line x steps test here k env t w way env1 t1 w1 t2 w2 before e goes e2) = tt
    comes_told part (at_repeat_round c line x steps test here k env t w way env1 t1 w1 t2 w2 w3 before e goes e2 b e3) = comes_told _ before

  -- and so is the list where a part deletes
  held_if_told : (k : ℕ) (types : List Ty) (b : Bool) (at : ℕ) (live : ℕ → Bool) → b ≡ true → AllTold k (held_if (deletes r) types b at live) → P k (record { point = at; locals = pins_from types 0 live })
  held_if_told k types true at live e t = t.0
  held_if_told k types false at live e t = cc

  deletes_told : (first : World) (part : Part) (c : Activation) (here : ℕ) (live : ℕ → Bool) → Comes r first part → Deletes r part c here live → P c.function (record { point = base c + here; locals = pins_from c.routine.locals 0 live })
  deletes_told first part c here live comes (deletion c' line here' live' env t w) = (comes_told first _ comes).0
  deletes_told first part c here live comes (performed c' line k tys here' live' env t w d) = held_if_told c.function c.routine.locals (deletes r k) (base c + here) live d (comes_told first _ comes)
  deletes_told first part c here live comes (called c' line h ty k tys rest here' live' env t w d) =
      held_if_told c.function c.routine.locals (deletes r k) (base c + here) live d
      (left c.function (held_if (deletes r) c.routine.locals (deletes r k) (base c + here) live) (steps_in c rest (base c + here + 1) live') (comes_told first _ comes))

-- each is a list of the map
module _ (r : Rlang) where
  abbrev InMap : Held → Type 0
  InMap h = list_at (live_lists r) h.point ≡ Some h.locals

  front : (xs ys : List Held) → Every InMap (xs ++ ys) → Every InMap xs
  front [] ys e = tt
  front (x ∷ xs) ys e = (e.0, front xs ys e.1)

  behind : (xs ys : List Held) → Every InMap (xs ++ ys) → Every InMap ys
  behind [] ys e = e
  behind (x ∷ xs) ys e = behind xs ys e.1

  every_list : Every InMap (live_lists r)
  every_list = each_in InMap (live_lists r) (λ i h e. (found 0 (live_lists r) (lists_are_maps r).points i h e).1)

  function_in_map : (fs : List Routine) (from k : ℕ) (f : Routine) → Every InMap (functions_lists (deletes r) fs from) → slice_get fs k ≡ Some f → Every InMap (code_lists (deletes r) f.locals f.body (suc (from + first_point fs k)) at_end)
  function_in_map [] from k f t e = cc
  function_in_map (g ∷ fs) from zero f t e =
      subst (λ n. Every InMap (code_lists (deletes r) f.locals f.body n at_end)) (let q : suc from ≡ suc (from + 0) = omega arith in q)
      (subst (λ h. Every InMap (code_lists (deletes r) h.locals h.body (suc from) at_end)) (same_Some g f e) (front (code_lists (deletes r) g.locals g.body (suc from) at_end) (functions_lists (deletes r) fs (from + routine_points g)) t))
  function_in_map (g ∷ fs) from (suc k) f t e =
      subst (λ n. Every InMap (code_lists (deletes r) f.locals f.body n at_end)) (let q : suc (from + routine_points g + first_point fs k) ≡ suc (from + (routine_points g + first_point fs k)) = omega arith in q)
      (function_in_map fs (from + routine_points g) k f (behind (code_lists (deletes r) g.locals g.body (suc from) at_end) (functions_lists (deletes r) fs (from + routine_points g)) t) e)

pub held_are_listed : HeldAreListed
held_are_listed r first part c here live comes d = deletes_told r (λ k h. InMap r h) each first part c here live comes d
  where
    each : (k : ℕ) (f : Routine) → slice_get r.functions k ≡ Some f → Every (InMap r) (code_lists (deletes r) f.locals f.body (suc (first_point r.functions k)) at_end)
    each k f there =
        subst (λ n. Every (InMap r) (code_lists (deletes r) f.locals f.body n at_end)) (let q : suc (0 + first_point r.functions k) ≡ suc (first_point r.functions k) = omega arith in q)
        (function_in_map r r.functions 0 k f (every_list r) there)

-- each is a node's list
record IsNodeOf (ns : List Node) (h : Held) : Type 0 where
  number : ℕ
  node : Node
  there : slice_get ns number ≡ Some node
  lists : IsListOf node h

later : (n : Node) (ns : List Node) (hs : List Held) → Every (IsNodeOf ns) hs → Every (IsNodeOf (n ∷ ns)) hs
later n ns [] e = tt
later n ns (h ∷ hs) e = (let i = e.0 in record { number = suc i.number; node = i.node; there = i.there; lists = i.lists }, later n ns hs e.1)

every_node : (ns : List Node) (hs : List Held) → AreListsOf ns hs → Every (IsNodeOf ns) hs
every_node ns [] m = tt
every_node [] (h ∷ hs) m = absurd m
every_node (n ∷ ns) (h ∷ hs) m = (record { number = 0; node = n; there = refl; lists = m.0 }, later n ns hs (every_node ns hs m.1))

module _ (paths : Paths) (program : Program) (w : IsWellTyped program) where
  abbrev code_of : Rlang
  code_of = region_of_program program

  record InSource (k : ℕ) (h : Held) : Type 0 where
    function : Function
    is : slice_get program.functions k ≡ Some function
    node : IsNodeOf (function_nodes program function (first_point code_of.functions k)) h

  all_in : (k : ℕ) (f : Function) → slice_get program.functions k ≡ Some f → (hs : List Held) → Every (IsNodeOf (function_nodes program f (first_point code_of.functions k))) hs → Every (InSource k) hs
  all_in k f is [] e = tt
  all_in k f is (h ∷ hs) e = (record { function = f; is = is; node = e.0 }, all_in k f is hs e.1)

  function_in_source : (k : ℕ) (f : Routine) → slice_get code_of.functions k ≡ Some f → Every (InSource k) (code_lists (deletes code_of) f.locals f.body (suc (first_point code_of.functions k)) at_end)
  function_in_source k f there = by (slice_get program.functions k) refl (sym (slice_get-map (routine_of program) program.functions k) ∙ there)
    where
      by : (o : Option Function) → slice_get program.functions k ≡ o → option_map (routine_of program) o ≡ Some f → Every (InSource k) (code_lists (deletes code_of) f.locals f.body (suc (first_point code_of.functions k)) at_end)
      by None e q = cc
      by (Some g) e q =
          subst (λ h. Every (InSource k) (code_lists (deletes code_of) h.locals h.body (suc (first_point code_of.functions k)) at_end)) (same_Some (routine_of program g) f q)
          (all_in k g e _ (every_node _ _ (function_matches paths program w.deleting k g e (first_point code_of.functions k))))

  in_source : (first : World) (part : Part) (c : Activation) (here : ℕ) (live : ℕ → Bool) → Comes code_of first part → Deletes code_of part c here live → IsNodeAt program c.function (first_point code_of.functions c.function + here) (pins_from c.routine.locals 0 live)
  in_source first part c here live comes d =
      let i = deletes_told code_of InSource function_in_source first part c here live comes d in
      record { function = i.function; is = i.is; number = i.node.number; node = i.node.node; there = i.node.there; stands = sym i.node.lists.point; lists = i.node.lists.lists }

pub held_are_live : Paths → HeldAreLiveInTheSource
held_are_live paths program w first part c here live comes d = in_source paths program w first part c here live comes d
