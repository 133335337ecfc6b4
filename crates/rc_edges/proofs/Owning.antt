-- The nodes of a function whose parts fit together lead to its points, and their effects speak of its own variables.
use Rattle.std.proofs.Common.{◌≡◌, ℕ, zero, suc, ◌+◌, ◌*◌, ◌-◌, ◌<◌, ◌≤◌, Bool, true, false, cond, List, [], ◌∷◌, ◌++◌, map, replicate, length, take, get_or, Option, Some, None, IfSome, refl, sym, ap, ◌∙◌, subst, arith}
use Rattle.std.specs.Prelude.{slice_get, count_by, drop as behind}
use Rattle.std.proofs.lemmas.List.{length-map, length-append}
use Rattle.rc_core.specs.declared.stmt.Change.{Change}
use Rattle.rc_core.specs.declared.stmt.Change.TheVariants.{Compute, Step as Stepping}
use Rattle.rc_core.specs.declared.ty.Signedness.{Signedness}
use Rattle.rc_core.specs.Types.{Ty, int, unsigned, char, region, struct, pointer}
use Rattle.rc_core.specs.Layout.{Layout, note_of}
use Rattle.rc_core.specs.Typing.{value_type}
use Rattle.rc_rlang.specs.Points.{change_points, end_points}
use Rattle.rc_rlang.specs.Variables.{end_temporaries}
use Rattle.rc_rlang.specs.RegionCode.{Access, Index, shift_width, width, Operation, constant, null, static, copy, load, step, step_from, unary, binary, convert, not_zero, truth, is_null, same, call, new_region, new_subregion, region_of, allocate, allocate_array, putchar, getchar, Step, set, fork, Steps, none, more, Act, drop, perform, assign, store, update, move, delete, leave, Test, Code, simple, clear, block, branch, loop, repeat, break, continue, Codes, done, then, Routine, Rlang}
use Rattle.rc_rlang.specs.IsRlang.{IsRlang, RoutineFits}
use Rattle.rc_rlang.specs.RegionNames.{object_type, result_type, OperationStands, StepStands, StepsStand, ActStands, CodeStands, CodesStand}
use Rattle.rc_rlang.specs.RegionPoints.{step_points, steps_points, act_points, branch_points, code_points, codes_points, routine_points}
use Rattle.rc_rlang.specs.RegionVariables.{step_temporaries, steps_temporaries, act_temporaries, code_temporaries, codes_temporaries, routine_temporaries, routine_variables}
use Rattle.rc_rlang.specs.RegionFits.{operands, pushed, dropped, step_types, steps_types, index_types, shift_types, place_types, test_types, StepFits, StepsFit, ActFits, CodeFits, CodesFit}
use Rattle.rc_rlang.specs.RegionKinds.{kind_ty, OperationKinded, StepKinded, StepsKinded, CodeKinded, CodesKinded}
use Rattle.rc_rlang.specs.RegionFlow.{Effect, nothing, nulled, moved, loaded, looked_at, stored, present, absent, called, entered, Edge, Node, Ends, going, forking, one_of, is_regional, is_regional_cell, note_in, if_regional, first_of, in_line, local_variable, temporary_variable, regional_arguments, operation_effect, yes_effect, no_effect, step_nodes, steps_nodes, stored_value, loaded_value, change_effects, cell_effects, act_nodes, test_nodes, code_nodes, codes_nodes, entry_pairs, end_nodes, routine_nodes, variables}
use Rattle.rc_annotations.specs.Heights.{temporaries_in, temporaries_of}
use Rattle.rc_annotations.proofs.Nodes.{act_count, nodes_are_points}
use Rattle.rc_annotations.proofs.Variables.{count_first}
use Rattle.rc_edges.specs.Edges.{all_below, pairs_below, spare, EffectBelow}
use Rattle.rc_edges.specs.Families.{Owned}

-- every edge of every node

abbrev pub AllEdges : (Edge → Type 0) → List Edge → Type 0
AllEdges P [] = Unit {0}
AllEdges P (e ∷ es) = P e × AllEdges P es

abbrev pub AllNodes : (Edge → Type 0) → List Node → Type 0
AllNodes P [] = Unit {0}
AllNodes P (n ∷ ns) = AllEdges P n.edges × AllNodes P ns

join : (P : Edge → Type 0) (a b : List Node) → AllNodes P a → AllNodes P b → AllNodes P (a ++ b)
join P [] b p q = q
join P (n ∷ a) b p q = (p.0, join P a b p.1 q)

edge_at : (P : Edge → Type 0) (es : List Edge) (k : ℕ) (e : Edge) → AllEdges P es → slice_get es k ≡ Some e → P e
edge_at P [] k e p is = cc
edge_at P (x ∷ es) zero e p is = let q : x ≡ e = cc in subst P q p.0
edge_at P (x ∷ es) (suc k) e p is = edge_at P es k e p.1 is

pub node_edge : (P : Edge → Type 0) (ns : List Node) (p k : ℕ) (n : Node) (e : Edge) → AllNodes P ns → slice_get ns p ≡ Some n → slice_get n.edges k ≡ Some e → P e
node_edge P [] p k n e q at is = cc
node_edge P (x ∷ ns) zero k n e q at is = let s : x ≡ n = cc in edge_at P n.edges k e (subst (λ y. AllEdges P y.edges) s q.0) is
node_edge P (x ∷ ns) (suc p) k n e q at is = node_edge P ns p k n e q.1 at is

-- lists of types

length_pushed : (xs below : List Ty) → length (pushed xs below) ≡ length xs + length below
length_pushed [] below = let e : length below ≡ 0 + length below = omega arith in e
length_pushed (x ∷ xs) below = let e = length_pushed xs (x ∷ below) in omega (arith, e)

length_dropped : (n : ℕ) (xs : List Ty) → length (dropped n xs) ≡ length xs - n
length_dropped zero xs = let e : length xs ≡ length xs - 0 = omega arith in e
length_dropped (suc n) [] = let e : 0 ≡ 0 - suc n = omega arith in e
length_dropped (suc n) (x ∷ xs) = let e = length_dropped n xs in omega (arith, e)

index_count : (is : List Index) → length (index_types is) ≡ length is
index_count [] = refl
index_count (i ∷ is) = ap suc (index_count is)

shift_count : (s : Option Signedness) → length (shift_types s) ≡ shift_width s
shift_count None = refl
shift_count (Some s) = refl

place_count : (a : Access) → length (place_types a) ≡ width a
place_count a =
    let x = length-append (shift_types a.shift) (index_types a.indices) in
    let y = shift_count a.shift in
    let z = index_count a.indices in
    omega (arith, x, y, z)

regional_kind : (t : Ty) → is_regional (kind_ty t) ≡ is_regional t
regional_kind int = refl
regional_kind unsigned = refl
regional_kind char = refl
regional_kind region = refl
regional_kind (struct k) = refl
regional_kind (pointer note target) = refl

count_before : (tys : List Ty) (x : ℕ) → x < length tys → is_regional (get_or tys x int) ≡ true → count_by is_regional (take x tys) < count_by is_regional tys
count_before [] x l e = absurd (omega (arith, l))
count_before (t ∷ tys) zero l e = let c = count_first tys t ∙ ap (λ b. cond b 1 0 + count_by is_regional tys) e in omega (arith, c)
count_before (t ∷ tys) (suc x) l e = let c = count_first tys t in let d = count_first (take x tys) t in let h = count_before tys x (omega (arith, l)) e in omega (arith, c, d, h)

got : (tys : List Ty) (x : ℕ) (t : Ty) → slice_get tys x ≡ Some t → (x < length tys) × (get_or tys x int ≡ t)
got [] x t e = cc
got (u ∷ tys) zero t e = (omega arith, let q : u ≡ t = cc in q)
got (u ∷ tys) (suc x) t e = let h = got tys x t e in ((let l = h.0 in omega (arith, l)), h.1)

module _ (f : Routine) (temporaries points : ℕ) where
  abbrev top : ℕ
  top = temporary_variable f temporaries

  -- it leads to a point, and speaks of variables below the result
  pub record Fine (e : Edge) : Type 0 where
    pub leads : e.to < points
    pub below : EffectBelow top e.effect

  temporary_less : (h : ℕ) → h < temporaries → temporary_variable f h < top
  temporary_less h l = omega (arith, l)

  local_less : (x : ℕ) → x < length f.locals → is_regional (get_or f.locals x int) ≡ true → local_variable f x < top
  local_less x l e = let c = count_before f.locals x l e in omega (arith, c)

  by_kind : (b : Bool) (effect : Effect) → (b ≡ true → EffectBelow top effect) → EffectBelow top (one_of b effect nothing)
  by_kind true effect h = h refl
  by_kind false effect h = tt {0}

  either_below : (b : Bool) (one other : Effect) → EffectBelow top one → EffectBelow top other → EffectBelow top (one_of b one other)
  either_below true one other p q = p
  either_below false one other p q = q

  first_less : (k here next : ℕ) → here + k ≤ points → next < points → first_of k here next < points
  first_less zero here next l n = n
  first_less (suc k) here next l n = omega (arith, l)

  one_edge : (effect : Effect) (to : ℕ) → to < points → EffectBelow top effect → AllNodes Fine (going effect to ∷ [])
  one_edge effect to l b = ((record { leads = l; below = b }, tt {0}), tt {0})

  two_edges : (left right : Effect) (to_left to_right : ℕ) → to_left < points → to_right < points → EffectBelow top left → EffectBelow top right → AllEdges Fine (forking left right to_left to_right).edges
  two_edges left right to_left to_right l m b c = (record { leads = l; below = b }, (record { leads = m; below = c }, tt {0}))

  arguments_below : (tys : List Ty) (h : ℕ) → h + length tys ≤ temporaries → all_below top (regional_arguments f tys h)
  arguments_below [] h l = tt {0}
  arguments_below (ty ∷ tys) h l = by (is_regional ty) (arguments_below tys (suc h) (omega (arith, l)))
    where
      by : (b : Bool) → all_below top (regional_arguments f tys (suc h)) → all_below top (one_of b (temporary_variable f h ∷ regional_arguments f tys (suc h)) (regional_arguments f tys (suc h)))
      by true r = (temporary_less h (omega (arith, l)), r)
      by false r = r

  given_below : (b : Bool) (h : ℕ) → h < temporaries → IfSome (one_of b (Some (temporary_variable f h)) None) (λ v. v < top)
  given_below true h l = temporary_less h l
  given_below false h l = tt {0}

  module _ (r : Rlang) where
    operation_below : (h : ℕ) (ty : Ty) (op : Operation) → h < temporaries → h + length (operands ty op) ≤ temporaries → OperationStands r f.locals f.result ty op → OperationKinded f.locals (object_type r) (result_type r) ty op → EffectBelow top (operation_effect f h ty op)
    operation_below h ty null l m s k = temporary_less h l
    operation_below h ty (static object) l m s k = temporary_less h l
    operation_below h ty (copy x) l m s k = by_kind (is_regional ty) (moved (temporary_variable f h) (local_variable f x)) (λ e. (temporary_less h l, local_less x s (sym (regional_kind (get_or f.locals x int)) ∙ ap is_regional (sym k) ∙ regional_kind ty ∙ e)))
    operation_below h ty (load a) l m s k = either_below (is_regional ty) (loaded (temporary_variable f h) (temporary_variable f h) (note_in a.cell)) (looked_at (temporary_variable f h)) (temporary_less h l, temporary_less h l) (temporary_less h l)
    operation_below h ty (step direction pointed n) l m s k = (temporary_less h l, temporary_less h l)
    operation_below h ty (step_from n pointed) l m s k = (temporary_less h l, temporary_less (suc h) (omega (arith, m)))
    operation_below h ty (region_of of) l m s k = (temporary_less h l, temporary_less h l)
    operation_below h ty (allocate made' layout) l m s k = (temporary_less h l, temporary_less h l)
    operation_below h ty (allocate_array made' layout) l m s k = (temporary_less h l, temporary_less h l)
    operation_below h ty new_region l m s k = temporary_less h l
    operation_below h ty new_subregion l m s k = (temporary_less h l, temporary_less h l)
    operation_below h ty (call g tys) l m s k = (given_below (is_regional ty) h l, arguments_below tys h (let e = length-map tys value_type in omega (arith, m, e)))
    operation_below h ty (constant s' n) l m s k = tt {0}
    operation_below h ty (unary operator s') l m s k = tt {0}
    operation_below h ty (binary operator s' right) l m s k = tt {0}
    operation_below h ty (convert from to) l m s k = tt {0}
    operation_below h ty (not_zero of) l m s k = tt {0}
    operation_below h ty (truth of) l m s k = tt {0}
    operation_below h ty (is_null wanted of) l m s k = tt {0}
    operation_below h ty (same wanted of) l m s k = tt {0}
    operation_below h ty putchar l m s k = tt {0}
    operation_below h ty getchar l m s k = tt {0}

    -- what is left of operands
    step_room : (s : Step) (base : ℕ) (tys : List Ty) → StepFits s base tys → base + length tys ≤ temporaries → step_temporaries s ≤ temporaries → base + length (step_types s tys) ≤ temporaries
    step_room (set line h ty op) base tys b l m =
        let d = length_dropped (length (operands ty op)) tys in
        let p = ap length b.1 ∙ length_pushed (operands ty op) b.0 in
        let e = b.2 in
        omega (arith, d, p, e, m)
    step_room (fork line h test result x y) base [] b l m = absurd b
    step_room (fork line h test result x y) base (ty ∷ below) b l m = omega (arith, l)

    true_below : (ty : Ty) (h : ℕ) → h < temporaries → EffectBelow top (yes_effect f ty h)
    true_below ty h l = by_kind (is_regional ty) (present (temporary_variable f h)) (λ e. temporary_less h l)

    false_below : (ty : Ty) (h : ℕ) → h < temporaries → EffectBelow top (no_effect f ty h)
    false_below ty h l = by_kind (is_regional ty) (absent (temporary_variable f h)) (λ e. temporary_less h l)

    mutual
      step_fine : (s : Step) (base : ℕ) (tys : List Ty) (here next : ℕ) → StepFits s base tys → base + length tys ≤ temporaries → step_temporaries s ≤ temporaries → StepKinded f.locals (object_type r) (result_type r) s → StepStands r f.locals f.result s → here + step_points s ≤ points → next < points → AllNodes Fine (step_nodes f s here next)
      step_fine (set line h ty op) base tys here next b l m k c n o =
          let p = ap length b.1 ∙ length_pushed (operands ty op) b.0 in
          let e = b.2 in
          one_edge (operation_effect f h ty op) next o (operation_below h ty op (omega (arith, m)) (omega (arith, p, e, l)) c k)
      step_fine (fork line h test result x y) base [] here next b l m k c n o = absurd b
      step_fine (fork line h test result x y) base (ty ∷ below) here next b l m k c n o =
          let at_y = suc here + steps_points x in
          let lt : h < temporaries = omega (arith, m) in (
            two_edges (yes_effect f test h) (no_effect f test h) (first_of (steps_points x) (suc here) next) (first_of (steps_points y) at_y next) (first_less (steps_points x) (suc here) next (omega (arith, n)) o) (first_less (steps_points y) at_y next (omega (arith, n)) o) (true_below test h lt) (false_below test h lt),
            join Fine (steps_nodes f x (suc here) next) (steps_nodes f y at_y next)
                (steps_fine x h [] (suc here) next b.2 (omega (arith, lt)) (omega (arith, m)) k.0 c.0 (omega (arith, n)) o)
                (steps_fine y h [] at_y next b.4 (omega (arith, lt)) (omega (arith, m)) k.1 c.1 (omega (arith, n)) o),
          )

      steps_fine : (s : Steps) (base : ℕ) (tys : List Ty) (here next : ℕ) → StepsFit s base tys → base + length tys ≤ temporaries → steps_temporaries s ≤ temporaries → StepsKinded f.locals (object_type r) (result_type r) s → StepsStand r f.locals f.result s → here + steps_points s ≤ points → next < points → AllNodes Fine (steps_nodes f s here next)
      steps_fine none base tys here next b l m k c n o = tt {0}
      steps_fine (more s rest) base tys here next b l m k c n o =
          let at = here + step_points s in
          join Fine (step_nodes f s here (first_of (steps_points rest) at next)) (steps_nodes f rest at next)
          (step_fine s base tys here (first_of (steps_points rest) at next) b.0 l (omega (arith, m)) k.0 c.0 (omega (arith, n)) (first_less (steps_points rest) at next (omega (arith, n)) o))
          (steps_fine rest base (step_types s tys) at next b.1 (step_room s base tys b.0 l (omega (arith, m))) (omega (arith, m)) k.1 c.1 (omega (arith, n)) o)

    -- the operands of an act
    steps_room : (s : Steps) (base : ℕ) (tys : List Ty) → StepsFit s base tys → base + length tys ≤ temporaries → steps_temporaries s ≤ temporaries → base + length (steps_types s tys) ≤ temporaries
    steps_room none base tys b l m = l
    steps_room (more s rest) base tys b l m = steps_room rest base (step_types s tys) b.1 (step_room s base tys b.0 l (omega (arith, m))) (omega (arith, m))

    abbrev AllEffects : List Effect → Type 0
    AllEffects [] = Unit {0}
    AllEffects (e ∷ es) = EffectBelow top e × AllEffects es

    line_fine : (es : List Effect) (here next : ℕ) → AllEffects es → here + length es ≤ points → next < points → AllNodes Fine (in_line es here next)
    line_fine [] here next b n o = tt {0}
    line_fine (e ∷ []) here next b n o = one_edge e next o b.0
    line_fine (e ∷ d ∷ es) here next b n o = ((one_edge e (suc here) (omega (arith, n)) b.0).0, line_fine (d ∷ es) (suc here) next b.1 (omega (arith, n)) o)

    idle_effects : (n : ℕ) (e : Effect) → EffectBelow top e → AllEffects (replicate n nothing ++ e ∷ [])
    idle_effects zero e b = (b, tt {0})
    idle_effects (suc n) e b = (tt {0}, idle_effects n e b)

    loaded_below : (cell : Ty) (value holder : ℕ) → value < temporaries → holder < temporaries → EffectBelow top (loaded_value f cell value holder)
    loaded_below cell v h l m = either_below (is_regional cell) (loaded (temporary_variable f v) (temporary_variable f h) (note_in cell)) (looked_at (temporary_variable f h)) (temporary_less v l, temporary_less h m) (temporary_less h m)

    stored_below : (cell : Ty) (value holder : ℕ) → value < temporaries → holder < temporaries → EffectBelow top (stored_value f cell value holder)
    stored_below cell v h l m = either_below (is_regional cell) (stored (temporary_variable f v) (temporary_variable f h) (note_in cell)) (looked_at (temporary_variable f h)) (temporary_less v l, temporary_less h m) (temporary_less h m)

    change_below : (a : Access) (change : Change) → suc (suc (width a)) ≤ temporaries → AllEffects (change_effects f a change)
    change_below a (Compute from operator s) l = (temporary_less 0 (omega (arith, l)), idle_effects (change_points (Compute from operator s) - 2) (looked_at (temporary_variable f 0)) (temporary_less 0 (omega (arith, l))))
    change_below a (Stepping direction) l =
        let w : suc (width a) < temporaries = omega (arith, l) in
        let z : 0 < temporaries = omega (arith, l) in
        (loaded_below a.cell (suc (width a)) 0 w z, ((temporary_less (suc (width a)) w, temporary_less (suc (width a)) w), (stored_below a.cell (suc (width a)) 0 w z, tt {0})))

    cells_below : (value from : ℕ) (kinds : Layout) → value < temporaries → from < temporaries → AllEffects (cell_effects f value from kinds)
    cells_below v h [] l m = tt {0}
    cells_below v h (kind ∷ kinds) l m =
        let z : 0 < temporaries = omega (arith, l) in (
          either_below (is_regional_cell kind) (loaded (temporary_variable f v) (temporary_variable f h) (note_of kind)) (looked_at (temporary_variable f h)) (temporary_less v l, temporary_less h m) (temporary_less h m),
          (either_below (is_regional_cell kind) (stored (temporary_variable f v) (temporary_variable f 0) (note_of kind)) (looked_at (temporary_variable f 0)) (temporary_less v l, temporary_less 0 z) (temporary_less 0 z), cells_below v h kinds l m),
        )

    act_fine : (act : Act) (tys : List Ty) (here next : ℕ) → ActFits act tys → length tys ≤ temporaries → act_temporaries act ≤ temporaries → ActStands r f.locals f.result act → here + act_points act ≤ points → next < points → AllNodes Fine (act_nodes f act here next)
    act_fine drop tys here next b l m c n o = tt {0}
    act_fine (perform line g ps) tys here next b l m c n o =
        let p = ap length b ∙ length_pushed (map value_type ps) [] in
        let e = length-map ps value_type in
        one_edge (called None g (regional_arguments f ps 0)) next o (tt {0}, arguments_below ps 0 (omega (arith, p, e, l)))
    act_fine (assign line x ty) tys here next b l m c n o =
        let p = ap length b in
        one_edge (if_regional ty (moved (local_variable f x) (temporary_variable f 0))) next o
        (by_kind (is_regional ty) (moved (local_variable f x) (temporary_variable f 0)) (λ e. (let g = got f.locals x ty c in local_less x g.0 (ap is_regional g.1 ∙ e), temporary_less 0 (omega (arith, p, l)))))
    act_fine (store line a) tys here next b l m c n o =
        let p = ap length b ∙ length_pushed (place_types a ++ value_type a.cell ∷ []) [] in
        let q = length-append (place_types a) (value_type a.cell ∷ []) in
        let w = place_count a in
        one_edge (stored_value f a.cell (width a) 0) next o (stored_below a.cell (width a) 0 (omega (arith, p, q, w, l)) (omega (arith, p, q, l)))
    act_fine (update line a change ty) tys here next b l m c n o =
        let e = sym (line_length (change_effects f a change) here next) ∙ act_count f (update line a change ty) here next in
        line_fine (change_effects f a change) here next (change_below a change m) (omega (arith, e, n)) o
      where
        line_length : (es : List Effect) (here next : ℕ) → length (in_line es here next) ≡ length es
        line_length [] here next = refl
        line_length (e ∷ []) here next = refl
        line_length (e ∷ d ∷ es) here next = ap suc (line_length (d ∷ es) (suc here) next)
    act_fine (move line kinds left right) tys here next b l m c n o =
        let e = sym (line_length (cell_effects f (width left + width right) (width left) kinds) here next) ∙ act_count f (move line kinds left right) here next in
        line_fine (cell_effects f (width left + width right) (width left) kinds) here next (cells_below (width left + width right) (width left) kinds (omega (arith, m)) (omega (arith, m))) (omega (arith, e, n)) o
      where
        line_length : (es : List Effect) (here next : ℕ) → length (in_line es here next) ≡ length es
        line_length [] here next = refl
        line_length (e ∷ []) here next = refl
        line_length (e ∷ d ∷ es) here next = ap suc (line_length (d ∷ es) (suc here) next)
    act_fine (delete line) tys here next b l m c n o = let p = ap length b in one_edge (looked_at (temporary_variable f 0)) next o (temporary_less 0 (omega (arith, p, l)))
    act_fine (leave line result) tys here next b l m c n o = (tt {0}, tt {0})

    test_fine : (test : Test) (to_yes to_no : ℕ) → 0 < temporaries → to_yes < points → to_no < points → AllNodes Fine (test_nodes f (Some test) to_yes to_no)
    test_fine test a b z l m = (by test.wanted, tt {0})
      where
        by : (w : Bool) → AllEdges Fine (one_of w (forking (yes_effect f test.ty 0) (no_effect f test.ty 0) a b) (forking (no_effect f test.ty 0) (yes_effect f test.ty 0) a b)).edges
        by true = two_edges (yes_effect f test.ty 0) (no_effect f test.ty 0) a b l m (true_below test.ty 0 z) (false_below test.ty 0 z)
        by false = two_edges (no_effect f test.ty 0) (yes_effect f test.ty 0) a b l m (false_below test.ty 0 z) (true_below test.ty 0 z)

    record Inside (k : Ends) : Type 0 where
      next : k.next < points
      broken : k.broken < points
      continued : k.continued < points

    -- steps from nothing on, and what they leave
    begun : (steps : Steps) (here next : ℕ) → StepsFit steps 0 [] → steps_temporaries steps ≤ temporaries → StepsKinded f.locals (object_type r) (result_type r) steps → StepsStand r f.locals f.result steps → here + steps_points steps ≤ points → next < points → AllNodes Fine (steps_nodes f steps here next)
    begun steps here next b m k c n o = steps_fine steps 0 [] here next b (omega arith) m k c n o

    left_by : (steps : Steps) → StepsFit steps 0 [] → steps_temporaries steps ≤ temporaries → length (steps_types steps []) ≤ temporaries
    left_by steps b m = let l = steps_room steps 0 [] b (omega arith) m in omega (arith, l)

    left_one : (steps : Steps) (ty : Ty) → StepsFit steps 0 [] → steps_temporaries steps ≤ temporaries → steps_types steps [] ≡ ty ∷ [] → 0 < temporaries
    left_one steps ty b m e = let l = left_by steps b m in let p = ap length e in omega (arith, l, p)

    option_fine : (test : Option Test) (to_yes to_no : ℕ) (steps : Steps) → StepsFit steps 0 [] → steps_temporaries steps ≤ temporaries → steps_types steps [] ≡ test_types test → to_yes < points → to_no < points → AllNodes Fine (test_nodes f test to_yes to_no)
    option_fine None a b steps fits m e l k = tt {0}
    option_fine (Some test) a b steps fits m e l k = test_fine test a b (left_one steps test.ty fits m e) l k

    mutual
      code_fine : (x : Code) (looping : Bool) (here : ℕ) (k : Ends) → CodeFits x → code_temporaries x ≤ temporaries → CodeKinded f.locals (object_type r) (result_type r) x → CodeStands r f.locals f.result looping x → here + code_points x < points → Inside k → AllNodes Fine (code_nodes f x here k)
      code_fine (simple steps act) looping here k b m d c n o =
          let at = here + steps_points steps in
          join Fine (steps_nodes f steps here (first_of (act_points act) at k.next)) (act_nodes f act at k.next)
          (begun steps here (first_of (act_points act) at k.next) b.0 (omega (arith, m)) d.0 c.0 (omega (arith, n)) (first_less (act_points act) at k.next (omega (arith, n)) o.next))
          (act_fine act (steps_types steps []) at k.next b.1 (left_by steps b.0 (omega (arith, m))) (omega (arith, m)) c.1 (omega (arith, n)) o.next)
      code_fine (clear line x ty) looping here k b m d c n o = one_edge (if_regional ty (nulled (local_variable f x))) k.next o.next (by_kind (is_regional ty) (nulled (local_variable f x)) (λ e. let g = got f.locals x ty c in local_less x g.0 (ap is_regional g.1 ∙ e)))
      code_fine (block codes) looping here k b m d c n o = codes_fine codes looping here k b m d c n o
      code_fine (branch steps test x y) looping here k b m d c n o =
          let at = here + steps_points steps in
          let at_y = suc at + code_points x in
          join Fine (steps_nodes f steps here at) _
          (begun steps here at b.0 (omega (arith, m)) d.0 c.0 (omega (arith, n)) (omega (arith, n)))
          (join Fine (test_nodes f (Some test) (first_of (code_points x) (suc at) k.next) (first_of (code_points y) at_y k.next)) _
          (test_fine test (first_of (code_points x) (suc at) k.next) (first_of (code_points y) at_y k.next) (left_one steps test.ty b.0 (omega (arith, m)) b.1) (first_less (code_points x) (suc at) k.next (omega (arith, n)) o.next) (first_less (code_points y) at_y k.next (omega (arith, n)) o.next))
          (join Fine (code_nodes f x (suc at) k) (code_nodes f y at_y k)
          (code_fine x looping (suc at) k b.2 (omega (arith, m)) d.1 c.1 (omega (arith, n)) o)
          (code_fine y looping at_y k b.3 (omega (arith, m)) d.2 c.2 (omega (arith, n)) o)))
      code_fine (loop line steps test third body) looping here k b m d c n o =
          let at = suc here + steps_points steps in
          let at_body = at + branch_points test in
          let at_third = at_body + code_points body in
          let back = first_of (code_points third) at_third here in
          let inside = first_of (code_points body) at_body back in
          let back_in = first_less (code_points third) at_third here (omega (arith, n)) (omega (arith, n)) in
          let inside_in = first_less (code_points body) at_body back (omega (arith, n)) back_in in (
            (one_edge nothing (first_of (steps_points steps + branch_points test) (suc here) inside) (first_less (steps_points steps + branch_points test) (suc here) inside (omega (arith, n)) inside_in) (tt {0})).0,
            join Fine (steps_nodes f steps (suc here) at) _
                (begun steps (suc here) at b.0 (omega (arith, m)) d.0 c.0 (omega (arith, n)) (omega (arith, n)))
                (join Fine (test_nodes f test inside k.next) _
                (option_fine test inside k.next steps b.0 (omega (arith, m)) b.1 inside_in o.next)
                (join Fine (code_nodes f body at_body (record { next = back; broken = k.next; continued = back })) (code_nodes f third at_third (record k { next = here }))
                (code_fine body true at_body (record { next = back; broken = k.next; continued = back }) b.3 (omega (arith, m)) d.2 c.2 (omega (arith, n)) (record { next = back_in; broken = o.next; continued = back_in }))
                (code_fine third false at_third (record k { next = here }) b.2 (omega (arith, m)) d.1 c.1 (omega (arith, n)) (record { next = omega (arith, n); broken = o.broken; continued = o.continued })))),
          )
      code_fine (repeat line body steps test) looping here k b m d c n o =
          let at_tail = suc here + code_points body in
          let at = at_tail + steps_points steps in
          let tail = first_of (steps_points steps) at_tail at in
          let tail_in = first_less (steps_points steps) at_tail at (omega (arith, n)) (omega (arith, n)) in (
            (one_edge nothing (first_of (code_points body) (suc here) tail) (first_less (code_points body) (suc here) tail (omega (arith, n)) tail_in) (tt {0})).0,
            join Fine (code_nodes f body (suc here) (record { next = tail; broken = k.next; continued = tail })) _
                (code_fine body true (suc here) (record { next = tail; broken = k.next; continued = tail }) b.0 (omega (arith, m)) d.0 c.0 (omega (arith, n)) (record { next = tail_in; broken = o.next; continued = tail_in }))
                (join Fine (steps_nodes f steps at_tail at) (test_nodes f (Some test) here k.next)
                (begun steps at_tail at b.1 (omega (arith, m)) d.1 c.1 (omega (arith, n)) (omega (arith, n)))
                (test_fine test here k.next (left_one steps test.ty b.1 (omega (arith, m)) b.2) (omega (arith, n)) o.next)),
          )
      code_fine (break line) looping here k b m d c n o = one_edge nothing k.broken o.broken (tt {0})
      code_fine (continue line) looping here k b m d c n o = one_edge nothing k.continued o.continued (tt {0})

      codes_fine : (xs : Codes) (looping : Bool) (here : ℕ) (k : Ends) → CodesFit xs → codes_temporaries xs ≤ temporaries → CodesKinded f.locals (object_type r) (result_type r) xs → CodesStand r f.locals f.result looping xs → here + codes_points xs < points → Inside k → AllNodes Fine (codes_nodes f xs here k)
      codes_fine done looping here k b m d c n o = tt {0}
      codes_fine (then x rest) looping here k b m d c n o =
          let at = here + code_points x in
          let next = first_of (codes_points rest) at k.next in
          join Fine (code_nodes f x here (record k { next = next })) (codes_nodes f rest at k)
          (code_fine x looping here (record k { next = next }) b.0 (omega (arith, m)) d.0 c.0 (omega (arith, n)) (record { next = first_less (codes_points rest) at k.next (omega (arith, n)) o.next; broken = o.broken; continued = o.continued }))
          (codes_fine rest looping at k b.1 (omega (arith, m)) d.1 c.1 (omega (arith, n)) o)

  entry_below : (tys : List Ty) (x : ℕ) → ((i : ℕ) (ty : Ty) → slice_get tys i ≡ Some ty → slice_get f.locals (x + i) ≡ Some ty) → pairs_below top (entry_pairs f tys x)
  entry_below [] x h = tt {0}
  entry_below (ty ∷ tys) x h = by (is_regional ty) refl (entry_below tys (suc x) (λ i t e. subst (λ j. slice_get f.locals j ≡ Some t) (let k : x + suc i ≡ suc x + i = omega arith in k) (h (suc i) t e)))
    where
      at : slice_get f.locals x ≡ Some ty
      at = subst (λ j. slice_get f.locals j ≡ Some ty) (let k : x + 0 ≡ x = omega arith in k) (h 0 ty refl)

      by : (b : Bool) → is_regional ty ≡ b → pairs_below top (entry_pairs f tys (suc x)) → pairs_below top (one_of b ((local_variable f x, count_by is_regional (take x f.locals)) ∷ entry_pairs f tys (suc x)) (entry_pairs f tys (suc x)))
      by true e rest =
          let g = got f.locals x ty at in
          let regional = ap is_regional g.1 ∙ e in
          let c = count_before f.locals x g.0 regional in
          (local_less x g.0 regional, omega (arith, c), rest)
      by false e rest = rest

  end_fine : (o : Option Ty) (at : ℕ) → at + end_points o ≤ points → end_temporaries o ≤ temporaries → AllNodes Fine (end_nodes f o at)
  end_fine None at n m = (tt {0}, tt {0})
  end_fine (Some ty) at n m = ((one_edge (if_regional ty (nulled (temporary_variable f 0))) (suc at) (omega (arith, n)) (by_kind (is_regional ty) (nulled (temporary_variable f 0)) (λ e. temporary_less 0 (omega (arith, m))))).0, (tt {0}, tt {0}))

taken : (n : ℕ) (xs : List Ty) (i : ℕ) (t : Ty) → slice_get (take n xs) i ≡ Some t → slice_get xs (0 + i) ≡ Some t
taken n xs i t e = subst (λ j. slice_get xs j ≡ Some t) (let k : i ≡ 0 + i = omega arith in k) (by n xs i e)
  where
    by : (n : ℕ) (xs : List Ty) (i : ℕ) → slice_get (take n xs) i ≡ Some t → slice_get xs i ≡ Some t
    by zero xs i e = cc
    by (suc n) [] i e = e
    by (suc n) (x ∷ xs) zero e = e
    by (suc n) (x ∷ xs) (suc i) e = by n xs i e

pub routine_fine : (r : Rlang) (f : Routine) → RoutineFits r f → AllNodes (Fine f (routine_temporaries f) (routine_points f)) (routine_nodes f)
routine_fine r f fits =
    let t = routine_temporaries f in
    let n = routine_points f in
    let at_end = suc (code_points f.body) in
    let end_some = ends f.result in (
      (one_edge f t n (entered (entry_pairs f (take f.parameters f.locals) 0)) (first_of (code_points f.body) 1 at_end) (first_less f t n (code_points f.body) 1 at_end (omega (arith, end_some)) (omega (arith, end_some))) (entry_below f t n (take f.parameters f.locals) 0 (taken f.parameters f.locals))).0,
      join (Fine f t n) (code_nodes f f.body 1 (record { next = at_end; broken = at_end; continued = at_end })) (end_nodes f f.result at_end)
          (code_fine f t n r f.body false 1 (record { next = at_end; broken = at_end; continued = at_end }) fits.in_order (omega arith) fits.kinded fits.stands (omega (arith, end_some)) (record { next = omega (arith, end_some); broken = omega (arith, end_some); continued = omega (arith, end_some) }))
          (end_fine f t n f.result at_end (omega arith) (omega arith)),
    )
  where
    ends : (o : Option Ty) → 0 < end_points o
    ends None = omega arith
    ends (Some ty) = omega arith

-- how many variables there are

split_count : (n : ℕ) (tys : List Ty) → count_by is_regional (take n tys) + count_by is_regional (behind n tys) ≡ count_by is_regional tys
split_count zero tys = let e : 0 + count_by is_regional tys ≡ count_by is_regional tys = omega arith in e
split_count (suc n) [] = refl
split_count (suc n) (t ∷ tys) = let h = split_count n tys in let c = count_first tys t in let d = count_first (take n tys) t in omega (arith, h, c, d)

pub few_variables : (f : Routine) → routine_variables f ≤ 128 → variables f (routine_temporaries f) ≤ 128
few_variables f l =
    let a : 2 * count_by is_regional (take f.parameters f.locals) + count_by is_regional (behind f.parameters f.locals) + routine_temporaries f + 2 ≤ 128 = l in
    let c = split_count f.parameters f.locals in
    omega (arith, a, c)

-- by their numbers
pub functions_own : (r : Rlang) → IsRlang r → (g : ℕ) (f : Routine) → slice_get r.functions g ≡ Some f → Owned r (temporaries_of r) g f
functions_own r is g f there =
    let t : temporaries_of r g ≡ routine_temporaries f = ap temporaries_in there in
    let fits = is.functions g f there in
    let nodes = routine_fine r f fits in
    let few = few_variables f fits.narrow in
    record {
      own = λ p edge one. subst (λ n. EffectBelow (spare f n) edge.effect) (sym t) (node_edge (Fine f (routine_temporaries f) (routine_points f)) (routine_nodes f) p one.place one.node edge nodes one.there one.is).below;
      leads = λ p edge one. subst (λ n. edge.to < n) (sym (nodes_are_points f)) (node_edge (Fine f (routine_temporaries f) (routine_points f)) (routine_nodes f) p one.place one.node edge nodes one.there one.is).leads;
      few = subst (λ n. variables f n ≤ 128) (sym t) few;
      hidden = omega arith;
    }
