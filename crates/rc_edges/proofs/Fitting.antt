-- Calls of region code fit the functions that they call, and returns give temporaries.
use Rattle.std.proofs.Common.{◌≡◌, ℕ, zero, suc, ◌+◌, ◌≤◌, Bool, true, false, cond, List, [], ◌∷◌, ◌++◌, map, replicate, length, Option, Some, None, refl, sym, ap, ◌∙◌, subst, arith}
use Rattle.std.specs.Prelude.{◌-◌, slice_get, count_by}
use Rattle.rc_core.specs.declared.stmt.Change.{Change}
use Rattle.rc_core.specs.declared.stmt.Change.TheVariants.{Compute, Step as Stepping}
use Rattle.rc_core.specs.Types.{Ty}
use Rattle.rc_core.specs.Layout.{Layout, note_of}
use Rattle.rc_rlang.specs.Points.{change_points}
use Rattle.rc_rlang.specs.RegionCode.{Access, width, Operation, constant, null, static, copy, load, step, step_from, unary, binary, convert, not_zero, truth, is_null, same, call, new_region, new_subregion, region_of, allocate, allocate_array, putchar, getchar, Step, set, fork, Steps, none, more, Act, drop, perform, assign, store, update, move, delete, leave, Test, Code, simple, clear, block, branch, loop, repeat, break, continue, Codes, done, then, Routine, Rlang}
use Rattle.rc_rlang.specs.IsRlang.{IsRlang}
use Rattle.rc_rlang.specs.RegionNames.{IsCalled, OperationStands, StepStands, StepsStand, ActStands, CodeStands, CodesStand}
use Rattle.rc_rlang.specs.RegionPoints.{step_points, steps_points, act_points, branch_points, code_points, codes_points}
use Rattle.rc_rlang.specs.RegionFlow.{Effect, nothing, nulled, moved, loaded, looked_at, stored, present, absent, called, Edge, Node, Ends, going, forking, one_of, is_regional, is_regional_cell, note_in, if_regional, first_of, in_line, local_variable, temporary_variable, regional_arguments, operation_effect, yes_effect, no_effect, step_nodes, steps_nodes, stored_value, change_effects, cell_effects, returned_variable, act_nodes, test_nodes, code_nodes, codes_nodes, end_nodes, routine_nodes}
use Rattle.rc_annotations.proofs.Variables.{count_first}
use Rattle.rc_edges.specs.Calls.{CallOf, CallsFit, ReturnsFit}

some_is : {A : Type 0} (x y : A) → Some x ≡ Some y → x ≡ y
some_is x y e = cc

module _ (r : Rlang) (f : Routine) where
  -- of an effect that is a call
  abbrev EffectFits : Effect → Type 0
  EffectFits (called x h arguments) = CallOf r h arguments
  EffectFits effect = Unit {0}

  abbrev EdgesFit : List Edge → Type 0
  EdgesFit [] = Unit {0}
  EdgesFit (e ∷ es) = EffectFits e.effect × EdgesFit es

  abbrev GivenFits : Option (Option ℕ) → Type 0
  GivenFits None = Unit {0}
  GivenFits (Some None) = Unit {0}
  GivenFits (Some (Some x)) = x ≤ temporary_variable f 0

  abbrev AllFit : List Node → Type 0
  AllFit [] = Unit {0}
  AllFit (n ∷ ns) = (EdgesFit n.edges × GivenFits n.returns) × AllFit ns

  join : (a b : List Node) → AllFit a → AllFit b → AllFit (a ++ b)
  join [] b p q = q
  join (n ∷ a) b p q = (p.0, join a b p.1 q)

  one_edge : (effect : Effect) (to : ℕ) → EffectFits effect → AllFit (going effect to ∷ [])
  one_edge effect to b = (((b, tt {0}), tt {0}), tt {0})

  by_kind : (b : Bool) (effect : Effect) → EffectFits effect → EffectFits (one_of b effect nothing)
  by_kind true effect h = h
  by_kind false effect h = tt {0}

  either_fits : (b : Bool) (one other : Effect) → EffectFits one → EffectFits other → EffectFits (one_of b one other)
  either_fits true one other p q = p
  either_fits false one other p q = q

  regional_count : (tys : List Ty) (h : ℕ) → length (regional_arguments f tys h) ≡ count_by is_regional tys
  regional_count [] h = refl
  regional_count (ty ∷ tys) h = by (is_regional ty) (regional_count tys (suc h)) ∙ sym (count_first tys ty)
    where
      by : (b : Bool) → length (regional_arguments f tys (suc h)) ≡ count_by is_regional tys → length (one_of b (temporary_variable f h ∷ regional_arguments f tys (suc h)) (regional_arguments f tys (suc h))) ≡ cond b 1 0 + count_by is_regional tys
      by true e = omega (arith, e)
      by false e = omega (arith, e)

  called_fits : (g : ℕ) (tys : List Ty) (gives : Bool) (h : ℕ) → IsCalled r g tys gives → CallOf r g (regional_arguments f tys h)
  called_fits g tys gives h is = record { routine = is.0; there = is.1.0; each = regional_count tys h ∙ ap (count_by is_regional) is.1.1 }

  operation_fits : (h : ℕ) (ty : Ty) (op : Operation) → OperationStands r f.locals f.result ty op → EffectFits (operation_effect f h ty op)
  operation_fits h ty null s = tt {0}
  operation_fits h ty (static object) s = tt {0}
  operation_fits h ty (copy x) s = by_kind (is_regional ty) (moved (temporary_variable f h) (local_variable f x)) (tt {0})
  operation_fits h ty (load a) s = either_fits (is_regional ty) (loaded (temporary_variable f h) (temporary_variable f h) (note_in a.cell)) (looked_at (temporary_variable f h)) (tt {0}) (tt {0})
  operation_fits h ty (step direction pointed n) s = tt {0}
  operation_fits h ty (step_from n pointed) s = tt {0}
  operation_fits h ty (region_of of) s = tt {0}
  operation_fits h ty (allocate made' layout) s = tt {0}
  operation_fits h ty (allocate_array made' layout) s = tt {0}
  operation_fits h ty new_region s = tt {0}
  operation_fits h ty new_subregion s = tt {0}
  operation_fits h ty (call g tys) s = called_fits g tys true h s
  operation_fits h ty (constant s' n) s = tt {0}
  operation_fits h ty (unary operator s') s = tt {0}
  operation_fits h ty (binary operator s' right) s = tt {0}
  operation_fits h ty (convert from to) s = tt {0}
  operation_fits h ty (not_zero of) s = tt {0}
  operation_fits h ty (truth of) s = tt {0}
  operation_fits h ty (is_null wanted of) s = tt {0}
  operation_fits h ty (same wanted of) s = tt {0}
  operation_fits h ty putchar s = tt {0}
  operation_fits h ty getchar s = tt {0}

  true_fits : (ty : Ty) (h : ℕ) → EffectFits (yes_effect f ty h)
  true_fits ty h = by_kind (is_regional ty) (present (temporary_variable f h)) (tt {0})

  false_fits : (ty : Ty) (h : ℕ) → EffectFits (no_effect f ty h)
  false_fits ty h = by_kind (is_regional ty) (absent (temporary_variable f h)) (tt {0})

  mutual
    step_fits : (s : Step) (here next : ℕ) → StepStands r f.locals f.result s → AllFit (step_nodes f s here next)
    step_fits (set line h ty op) here next c = one_edge (operation_effect f h ty op) next (operation_fits h ty op c)
    step_fits (fork line h test result x y) here next c = (
      ((true_fits test h, (false_fits test h, tt {0})), tt {0}),
      join (steps_nodes f x (suc here) next) (steps_nodes f y (suc here + steps_points x) next) (steps_fit x (suc here) next c.0) (steps_fit y (suc here + steps_points x) next c.1),
    )

    steps_fit : (s : Steps) (here next : ℕ) → StepsStand r f.locals f.result s → AllFit (steps_nodes f s here next)
    steps_fit none here next c = tt {0}
    steps_fit (more s rest) here next c =
        let at = here + step_points s in
        let to = first_of (steps_points rest) at next in
        join (step_nodes f s here to) (steps_nodes f rest at next) (step_fits s here to c.0) (steps_fit rest at next c.1)

  abbrev AllEffects : List Effect → Type 0
  AllEffects [] = Unit {0}
  AllEffects (e ∷ es) = EffectFits e × AllEffects es

  line_fits : (es : List Effect) (here next : ℕ) → AllEffects es → AllFit (in_line es here next)
  line_fits [] here next b = tt {0}
  line_fits (e ∷ []) here next b = one_edge e next b.0
  line_fits (e ∷ d ∷ es) here next b = (((b.0, tt {0}), tt {0}), line_fits (d ∷ es) (suc here) next b.1)

  idle_fit : (n : ℕ) (e : Effect) → EffectFits e → AllEffects (replicate n nothing ++ e ∷ [])
  idle_fit zero e b = (b, tt {0})
  idle_fit (suc n) e b = (tt {0}, idle_fit n e b)

  change_fits : (a : Access) (change : Change) → AllEffects (change_effects f a change)
  change_fits a (Compute from operator s) = (tt {0}, idle_fit (change_points (Compute from operator s) - 2) (looked_at (temporary_variable f 0)) (tt {0}))
  change_fits a (Stepping direction) = (
    either_fits (is_regional a.cell) (loaded (temporary_variable f (suc (width a))) (temporary_variable f 0) (note_in a.cell)) (looked_at (temporary_variable f 0)) (tt {0}) (tt {0}),
    (tt {0}, (either_fits (is_regional a.cell) (stored (temporary_variable f (suc (width a))) (temporary_variable f 0) (note_in a.cell)) (looked_at (temporary_variable f 0)) (tt {0}) (tt {0}), tt {0})),
  )

  cells_fit : (value from : ℕ) (kinds : Layout) → AllEffects (cell_effects f value from kinds)
  cells_fit v h [] = tt {0}
  cells_fit v h (kind ∷ kinds) = (
    either_fits (is_regional_cell kind) (loaded (temporary_variable f v) (temporary_variable f h) (note_of kind)) (looked_at (temporary_variable f h)) (tt {0}) (tt {0}),
    (either_fits (is_regional_cell kind) (stored (temporary_variable f v) (temporary_variable f 0) (note_of kind)) (looked_at (temporary_variable f 0)) (tt {0}) (tt {0}), cells_fit v h kinds),
  )

  returned_fits : (o : Option Ty) → GivenFits (Some (returned_variable f o))
  returned_fits None = tt {0}
  returned_fits (Some ty) = by (is_regional ty)
    where
      by : (b : Bool) → GivenFits (Some (one_of b (Some (temporary_variable f 0)) None))
      by true = omega arith
      by false = tt {0}

  act_fits : (act : Act) (here next : ℕ) → ActStands r f.locals f.result act → AllFit (act_nodes f act here next)
  act_fits drop here next c = tt {0}
  act_fits (perform line g tys) here next c = one_edge (called None g (regional_arguments f tys 0)) next (called_fits g tys false 0 c)
  act_fits (assign line x ty) here next c = one_edge (if_regional ty (moved (local_variable f x) (temporary_variable f 0))) next (by_kind (is_regional ty) (moved (local_variable f x) (temporary_variable f 0)) (tt {0}))
  act_fits (store line a) here next c = one_edge (stored_value f a.cell (width a) 0) next (either_fits (is_regional a.cell) (stored (temporary_variable f (width a)) (temporary_variable f 0) (note_in a.cell)) (looked_at (temporary_variable f 0)) (tt {0}) (tt {0}))
  act_fits (update line a change ty) here next c = line_fits (change_effects f a change) here next (change_fits a change)
  act_fits (move line kinds left right) here next c = line_fits (cell_effects f (width left + width right) (width left) kinds) here next (cells_fit (width left + width right) (width left) kinds)
  act_fits (delete line) here next c = one_edge (looked_at (temporary_variable f 0)) next (tt {0})
  act_fits (leave line result) here next c = ((tt {0}, returned_fits result), tt {0})

  test_fits : (test : Option Test) (to_yes to_no : ℕ) → AllFit (test_nodes f test to_yes to_no)
  test_fits None a b = tt {0}
  test_fits (Some test) a b = (by test.wanted, tt {0})
    where
      by : (w : Bool) → (EdgesFit (one_of w (forking (yes_effect f test.ty 0) (no_effect f test.ty 0) a b) (forking (no_effect f test.ty 0) (yes_effect f test.ty 0) a b)).edges × GivenFits (one_of w (forking (yes_effect f test.ty 0) (no_effect f test.ty 0) a b) (forking (no_effect f test.ty 0) (yes_effect f test.ty 0) a b)).returns)
      by true = ((true_fits test.ty 0, (false_fits test.ty 0, tt {0})), tt {0})
      by false = ((false_fits test.ty 0, (true_fits test.ty 0, tt {0})), tt {0})

  mutual
    code_fits : (x : Code) (looping : Bool) (here : ℕ) (k : Ends) → CodeStands r f.locals f.result looping x → AllFit (code_nodes f x here k)
    code_fits (simple steps act) looping here k c =
        let at = here + steps_points steps in
        let to = first_of (act_points act) at k.next in
        join (steps_nodes f steps here to) (act_nodes f act at k.next) (steps_fit steps here to c.0) (act_fits act at k.next c.1)
    code_fits (clear line x ty) looping here k c = one_edge (if_regional ty (nulled (local_variable f x))) k.next (by_kind (is_regional ty) (nulled (local_variable f x)) (tt {0}))
    code_fits (block codes) looping here k c = codes_fit codes looping here k c
    code_fits (branch steps test x y) looping here k c =
        let at = here + steps_points steps in
        let at_y = suc at + code_points x in
        join (steps_nodes f steps here at) _ (steps_fit steps here at c.0)
        (join (test_nodes f (Some test) (first_of (code_points x) (suc at) k.next) (first_of (code_points y) at_y k.next)) _ (test_fits (Some test) (first_of (code_points x) (suc at) k.next) (first_of (code_points y) at_y k.next))
        (join (code_nodes f x (suc at) k) (code_nodes f y at_y k) (code_fits x looping (suc at) k c.1) (code_fits y looping at_y k c.2)))
    code_fits (loop line steps test third body) looping here k c =
        let at = suc here + steps_points steps in
        let at_body = at + branch_points test in
        let at_third = at_body + code_points body in
        let back = first_of (code_points third) at_third here in
        let inside = first_of (code_points body) at_body back in (
          ((tt {0}, tt {0}), tt {0}),
          join (steps_nodes f steps (suc here) at) _ (steps_fit steps (suc here) at c.0)
              (join (test_nodes f test inside k.next) _ (test_fits test inside k.next)
              (join (code_nodes f body at_body (record { next = back; broken = k.next; continued = back })) (code_nodes f third at_third (record k { next = here }))
              (code_fits body true at_body (record { next = back; broken = k.next; continued = back }) c.2) (code_fits third false at_third (record k { next = here }) c.1))),
        )
    code_fits (repeat line body steps test) looping here k c =
        let at_tail = suc here + code_points body in
        let at = at_tail + steps_points steps in
        let tail = first_of (steps_points steps) at_tail at in (
          ((tt {0}, tt {0}), tt {0}),
          join (code_nodes f body (suc here) (record { next = tail; broken = k.next; continued = tail })) _
              (code_fits body true (suc here) (record { next = tail; broken = k.next; continued = tail }) c.0)
              (join (steps_nodes f steps at_tail at) (test_nodes f (Some test) here k.next) (steps_fit steps at_tail at c.1) (test_fits (Some test) here k.next)),
        )
    code_fits (break line) looping here k c = one_edge nothing k.broken (tt {0})
    code_fits (continue line) looping here k c = one_edge nothing k.continued (tt {0})

    codes_fit : (xs : Codes) (looping : Bool) (here : ℕ) (k : Ends) → CodesStand r f.locals f.result looping xs → AllFit (codes_nodes f xs here k)
    codes_fit done looping here k c = tt {0}
    codes_fit (then x rest) looping here k c =
        let at = here + code_points x in
        let next = first_of (codes_points rest) at k.next in
        join (code_nodes f x here (record k { next = next })) (codes_nodes f rest at k) (code_fits x looping here (record k { next = next }) c.0) (codes_fit rest looping at k c.1)

  end_fits : (o : Option Ty) (at : ℕ) → AllFit (end_nodes f o at)
  end_fits None at = ((tt {0}, tt {0}), tt {0})
  end_fits (Some ty) at = (((by_kind (is_regional ty) (nulled (temporary_variable f 0)) (tt {0}), tt {0}), tt {0}), ((tt {0}, returned_fits (Some ty)), tt {0}))

  nodes_fit : CodeStands r f.locals f.result false f.body → AllFit (routine_nodes f)
  nodes_fit c =
      let at_end = suc (code_points f.body) in (
        ((tt {0}, tt {0}), tt {0}),
        join (code_nodes f f.body 1 (record { next = at_end; broken = at_end; continued = at_end })) (end_nodes f f.result at_end) (code_fits f.body false 1 (record { next = at_end; broken = at_end; continued = at_end }) c) (end_fits f.result at_end),
      )

  -- by numbers
  node_at : (ns : List Node) (p : ℕ) (node : Node) → AllFit ns → slice_get ns p ≡ Some node → EdgesFit node.edges × GivenFits node.returns
  node_at [] p node all at = cc
  node_at (n ∷ ns) zero node all at = subst (λ m. EdgesFit m.edges × GivenFits m.returns) (some_is n node at) all.0
  node_at (n ∷ ns) (suc p) node all at = node_at ns p node all.1 at

  edge_at : (es : List Edge) (k : ℕ) (edge : Edge) → EdgesFit es → slice_get es k ≡ Some edge → EffectFits edge.effect
  edge_at [] k edge all at = cc
  edge_at (e ∷ es) zero edge all at = subst (λ d. EffectFits d.effect) (some_is e edge at) all.0
  edge_at (e ∷ es) (suc k) edge all at = edge_at es k edge all.1 at

pub calls_fit : (r : Rlang) → IsRlang r → (g : ℕ) (f : Routine) → slice_get r.functions g ≡ Some f → CallsFit r f
calls_fit r is g f there p edge x h arguments one is_call = subst (EffectFits r f) is_call (edge_at r f one.node.edges one.place edge (node_at r f (routine_nodes f) p one.node (nodes_fit r f (is.functions g f there).stands) one.there).0 one.is)

pub returns_fit : (r : Rlang) → IsRlang r → (g : ℕ) (f : Routine) → slice_get r.functions g ≡ Some f → (temporaries : ℕ) → ReturnsFit f temporaries
returns_fit r is g f there temporaries p node x at gives =
    let low : x ≤ temporary_variable f 0 = subst (GivenFits r f) gives (node_at r f (routine_nodes f) p node (nodes_fit r f (is.functions g f there).stands) at).1 in
    omega (arith, low)
