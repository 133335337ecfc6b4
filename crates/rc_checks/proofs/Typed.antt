-- The region code of a typed program keeps values to their types as it runs, and meets what is asked of a run: the annotation that an access
-- names is the cell's, and a region or a pointer that is tested is no number.
use Rattle.std.proofs.Common.{◌≡◌, ℕ, zero, suc, pos, ◌+◌, Bool, true, false, ◌||◌, ◌&&◌, not, List, [], ◌∷◌, length, Option, Some, None, refl, sym, ap, ◌∙◌, subst, arith}
use Rattle.std.specs.Prelude.{IsTrue, IfSome, slice_get, is_some, option_map}
use Rattle.rc_core.specs.declared.ty.Note.TheVariants.{Plain}
use Rattle.rc_core.specs.declared.ty.NumberType.{NumberType}
use Rattle.rc_core.specs.declared.ty.NumberType.TheVariants.{Int, Unsigned, Char}
use Rattle.rc_core.specs.declared.ty.Signedness.{Signedness}
use Rattle.rc_core.specs.declared.ty.Signedness.TheVariants.{Signed, Unsigned as Wrapping}
use Rattle.rc_core.specs.declared.operators.UnaryOperator.{UnaryOperator}
use Rattle.rc_core.specs.declared.operators.UnaryOperator.TheVariants.{Negate, Plus, Complement}
use Rattle.rc_core.specs.Arithmetic.{type_of, calculate_one}
use Rattle.rc_core.specs.Numbers.{byte_of}
use Rattle.rc_core.specs.Types.{Ty, int, region, struct, pointer}
use Rattle.rc_core.specs.Layout.{Layout, cells}
use Rattle.rc_core.specs.Heap.{Value, zero_of, Number, Null, live}
use Rattle.rc_core.specs.Runs.{Run, Go, Stopped, bind, branching, computed, spent, Target, Calls}
use Rattle.rc_core.specs.Source.{World, source}
use Rattle.rc_core.specs.Evaluation.{number_in, toward, give_number}
use Rattle.rc_core.specs.Execution.{held, with_local, zero_result, local_type}
use Rattle.rc_core.specs.Live.{Ways, then_live, round, at_end}
use Rattle.rc_core.specs.declared.stmt.Change.{Change}
use Rattle.rc_core.specs.declared.stmt.Change.TheVariants.{Compute, Step as Stepping}
use Rattle.rc_core.specs.Laws.{IfGoes}
use Rattle.rc_core.specs.Programs.{Stmt, block, declare, assign, store, update, copy, evaluate, delete, branch, while, repeat, for, break, continue, return, Stmts, done, then, Expr, constant, null, string, local, read, address, step, step_from, unary, binary, convert, not_zero, and, or, choose, is_null, same, call, new_region, new_subregion, region_of, allocate, allocate_array, putchar, getchar, Arguments, none, more, Place, global, pointed, indexed, Path, here, field, element, Function, Program}
use Rattle.rc_core.specs.Typing.{number, arithmetic, value_type, is_struct, result_type, parameters_of, NotNull, HasType, AreArguments, IsPlace, LeadsTo, IsValue, Runs, Takes, IsTyped, AreTyped}
use Rattle.rc_core.specs.WellTyped.{IsWellTyped}
use Rattle.std.proofs.lemmas.Option.{get_or_from_slice_get, slice_get-map}
use Rattle.rc_kinds.specs.Suits.{Ledger, IsPointer, Suits, CellSuits, Grows, WorldSuits, AllSuit}
use Rattle.rc_kinds.specs.Kinds.{Of, ResultSuits}
use Rattle.rc_kinds.proofs.InRange.{InRange, converted_fits, number_suits, suits_number, calculated_suits, calculated_one_suits, byte_of_fits}
use Rattle.rc_kinds.proofs.Locals.{zero_suits, set_suits}
use Rattle.rc_kinds.proofs.Executions.{taken_has, taken_cell, changed_keeps}
use Rattle.rc_kinds.proofs.Grown.{grows_on, still_suits, all_still_suit, value_suits, suits_value}
use Rattle.rc_kinds.proofs.Kept.{Nothing, Keeps, keeps_here, keeps_then, keeps_more, keeps_branching}
use Rattle.rc_kinds.proofs.Knowing.{goes_on}
use Rattle.rc_kinds.proofs.Operations.{held_suit, load_keeps, store_keeps, delete_keeps, turn_keeps, new_subregion_keeps, allocate_keeps, put_byte_keeps, enter_suits, leave_suits}
use Rattle.rc_kinds.proofs.Evaluations.{number_of, of_type, step_of, eval_keeps}
use Rattle.rc_rlang.specs.RegionCode as To
use Rattle.rc_rlang.specs.RegionCode.{numeric, regional, kind_of, width, Operation, Steps, both, one, Test, Routine, Rlang}
use Rattle.rc_rlang.specs.RegionFlow.{note_in}
use Rattle.rc_rlang.specs.RegionLive.{before_steps, before_act, before_code, before_codes, loop_head, repeat_tail}
use Rattle.rc_rlang.specs.RegionRuns as R
use Rattle.rc_rlang.specs.RegionRuns.{Temporaries, at_kind, temporary, with_temporary, temporaries_from, target_at, kept, kept_all, holds, convert_value, right_number, operation_value, step_run, steps_run, Way, test_value, act_run, code_run, codes_run}
use Rattle.rc_translation.specs.Translation.{expression_type, pointer_type, index_type, signedness, parameter_types, argument_types, global_type, access, expression_code, arguments_code, place_code, path_code, whole, condition_code, condition_test, optional_condition, has_result, evaluate_code, returned_type, statement_code, body_code, routine_of, region_of_program}
use Rattle.rc_translation.proofs.Temporaries.{Lower, lower_itself, lower_trans, at_lower, set_here, set_lower, before_both, run_both}
use Rattle.rc_translation.proofs.ValueKinds.{kind_arithmetic, kind_number, kind_pointer, kind_value, convert_is}
use Rattle.rc_translation.proofs.TypesFound.{kind_found, number_not_null, char_not_null}
use Rattle.rc_translation.proofs.Cells.{AimsAt, aims_at, still_at, next_at, load_suits, store_suits}
use Rattle.rc_translation.proofs.Updates.{new_same}
use Rattle.rc_translation.proofs.Equations.{suits_so}
use Rattle.rc_translation.proofs.Holding.{held_is}
use Rattle.rc_translation.proofs.Instance.{all_of_kind}
use Rattle.rc_along.specs.Along.{CallDemand, Named, CallMeets, StepMeets, StepsMeet, OptionMeets, MoveMeets, ActMeets, HeadMeets, nothing_more, CodeMeets, CodesMeet, behind_meets, body_meets, RoundsMeet, RoutineMeets, OptionRoutineMeets, CallsMeet}
use Rattle.rc_checks.proofs.Values.{by_kind, kept_suits, stored_suits, kept_cell_suits, sized_suits, types_in, result_of_call, zero_of_result, computed_keeps, wanted_keeps, named_keeps}
use Rattle.rc_checks.proofs.Aims.{no_number, regional_kind, kinds_named, type_named, type_of_global, path_element, pointer_is, place_aims, cell_is}

unit_goes : {A : Type 0} (m : Run World A) → IfGoes (λ x w. Unit {0}) m
unit_goes (Go x w) = tt
unit_goes (Stopped s w) = tt

module _ (program : Program) (well : IsWellTyped program) (g : ℕ) (f : Function) (is_there : slice_get program.functions g ≡ Some f) where
  abbrev locals : List Ty
  locals = f.locals

  abbrev code : Expr → Ty → ℕ → Steps
  code e ty h = expression_code program locals e ty h

  abbrev found : Expr → Ty
  found e = expression_type program locals e

  module _ (deleting : ℕ → Bool) (calls : Calls World) (inside : CallDemand)
      (called : (k : ℕ) (callee : Function) (xs : List Value) (l : Ledger) (w : World) → slice_get program.functions k ≡ Some callee → AllSuit l (parameters_of callee) xs → WorldSuits program l w → inside k xs w × Keeps program l (ResultSuits callee.result) (calls k xs w)) where
    abbrev fr : Routine
    fr = routine_of program f

    abbrev run : Steps → (ℕ → Bool) → List Value → Temporaries → World → Run World Temporaries
    run x live env t w = steps_run source deleting locals x calls live env t w

    abbrev Own : Ledger → List Value → Type 0
    Own l env = AllSuit l locals env

    pub record Fine (l : Ledger) (S : Ledger → Temporaries → Type 0) (x : Steps) (live : ℕ → Bool) (env : List Value) (t : Temporaries) (w : World) : Type 0 where
      pub meets : StepsMeet deleting fr calls inside x live env t w
      pub keeps : Keeps program l S (run x live env t w)

    meets_both : (a b : Steps) (live : ℕ → Bool) (env : List Value) (t : Temporaries) (w : World) → StepsMeet deleting fr calls inside a (before_steps b live) env t w → IfGoes (λ t1 w1. StepsMeet deleting fr calls inside b live env t1 w1) (run a (before_steps b live) env t w)
        → StepsMeet deleting fr calls inside (both a b) live env t w
    meets_both To.none b live env t w m k = k
    meets_both (To.more s a) b live env t w m k =
        subst (λ live1. StepMeets deleting fr calls inside s live1 env t w × IfGoes (λ t1 w1. StepsMeet deleting fr calls inside (both a b) live env t1 w1) (step_run source deleting locals s calls live1 env t w)) (sym (before_both a b live))
        (m.0, inner (step_run source deleting locals s calls (before_steps a (before_steps b live)) env t w) (λ t1 w1 p q. meets_both a b live env t1 w1 p q) m.1 k)
      where
        inner : (m : Run World Temporaries) → ((t1 : Temporaries) (w1 : World) → StepsMeet deleting fr calls inside a (before_steps b live) env t1 w1 → IfGoes (λ t2 w2. StepsMeet deleting fr calls inside b live env t2 w2) (run a (before_steps b live) env t1 w1) → StepsMeet deleting fr calls inside (both a b) live env t1 w1)
            → IfGoes (λ t1 w1. StepsMeet deleting fr calls inside a (before_steps b live) env t1 w1) m → IfGoes (λ t1 w1. StepsMeet deleting fr calls inside b live env t1 w1) (bind m (λ t1. run a (before_steps b live) env t1))
            → IfGoes (λ t1 w1. StepsMeet deleting fr calls inside (both a b) live env t1 w1) m
        inner (Go t1 w1) next p q = next t1 w1 p q
        inner (Stopped s w1) next p q = tt

    pub fine_both : (l : Ledger) (S T : Ledger → Temporaries → Type 0) (a b : Steps) (live : ℕ → Bool) (env : List Value) (t : Temporaries) (w : World) → Fine l S a (before_steps b live) env t w
        → ((t1 : Temporaries) (l1 : Ledger) (w1 : World) → Grows l l1 → WorldSuits program l1 w1 → S l1 t1 → Fine l1 T b live env t1 w1) → Fine l T (both a b) live env t w
    fine_both l S T a b live env t w fa k = record {
      meets = meets_both a b live env t w fa.meets (goes_on program l S (λ t1 w1. StepsMeet deleting fr calls inside b live env t1 w1) (run a (before_steps b live) env t w) fa.keeps (λ t1 l1 w1 g s p. (k t1 l1 w1 g s p).meets));
      keeps = subst (Keeps program l T) (sym (run_both source deleting locals a b calls live env t w)) (keeps_then program l S T (run a (before_steps b live) env t w) (run b live env) fa.keeps (λ t1 l1 w1 g s p. (k t1 l1 w1 g s p).keeps));
    }

    pub fine_more : (l : Ledger) (S T : Ledger → Temporaries → Type 0) (x : Steps) (live : ℕ → Bool) (env : List Value) (t : Temporaries) (w : World) → Fine l S x live env t w → ((t1 : Temporaries) (l1 : Ledger) → Grows l l1 → S l1 t1 → T l1 t1) → Fine l T x live env t w
    fine_more l S T x live env t w fx k = record { meets = fx.meets; keeps = keeps_more program l S T (run x live env t w) fx.keeps k }

    -- in temporary h stands a value of type u, by the kind of ty; those below are as they were
    pub record Stands_at (ty u : Ty) (h : ℕ) (t : Temporaries) (l : Ledger) (t1 : Temporaries) : Type 0 where
      pub value : Suits l u (temporary ty t1 h)
      pub lower : Lower h t t1

    fine_set : (line h : ℕ) (ty u : Ty) (op : Operation) (t0 : Temporaries) (l : Ledger) (live : ℕ → Bool) (env : List Value) (t : Temporaries) (w : World) → Lower h t0 t → StepMeets deleting fr calls inside (To.set line h ty op) live env t w
        → Keeps program l (Of u) (operation_value source deleting locals line op calls live env t h w) → Fine l (Stands_at ty u h t0) (one (To.set line h ty op)) live env t w
    fine_set line h ty u op t0 l live env t w lo m k = record {
      meets = (m, unit_goes (step_run source deleting locals (To.set line h ty op) calls live env t w));
      keeps = keeps_then program l (Stands_at ty u h t0) (Stands_at ty u h t0) (step_run source deleting locals (To.set line h ty op) calls live env t w) (λ t1 w1. Go t1 w1)
          (keeps_then program l (Of u) (Stands_at ty u h t0) (operation_value source deleting locals line op calls live env t h w) (λ v w1. Go (with_temporary ty t h v) w1) k (λ v l1 w1 g s p.
          keeps_here program l1 (Stands_at ty u h t0) (with_temporary ty t h v) w1 s (record { value = subst (Suits l1 u) (sym (set_here (kind_of ty) t h v)) p; lower = lower_trans h h t0 t (with_temporary ty t h v) (omega arith) lo (set_lower (kind_of ty) t h v) })))
          (λ t1 l1 w1 g s p. keeps_here program l1 (Stands_at ty u h t0) t1 w1 s p);
    }

    fine_fork : (a : Steps) (line h : ℕ) (test v ty u : Ty) (x y : Steps) (t0 : Temporaries) (l : Ledger) (live : ℕ → Bool) (env : List Value) (t : Temporaries) (w : World) → kind_of test ≡ kind_of v
        → Fine l (Stands_at test v h t0) a (before_steps (one (To.fork line h test ty x y)) live) env t w
        → ((t1 : Temporaries) (l1 : Ledger) (w1 : World) → Grows l l1 → WorldSuits program l1 w1 → Fine l1 (Stands_at ty u h t1) x live env t1 w1)
        → ((t1 : Temporaries) (l1 : Ledger) (w1 : World) → Grows l l1 → WorldSuits program l1 w1 → Fine l1 (Stands_at ty u h t1) y live env t1 w1)
        → Fine l (Stands_at ty u h t0) (both a (one (To.fork line h test ty x y))) live env t w
    fine_fork a line h test v ty u x y t0 l live env t w hk fa kx ky =
        fine_both l (Stands_at test v h t0) (Stands_at ty u h t0) a (one (To.fork line h test ty x y)) live env t w fa (λ t1 l1 w1 g s p.
        let fx = kx t1 l1 w1 g s in
        let fy = ky t1 l1 w1 g s in
        let b = holds test (temporary test t1 h) in
        record {
          meets = (((λ e. let k = regional_kind test e in no_number l1 v (t1.regions h) (sym hk ∙ k) (subst (λ q. Suits l1 v (at_kind q t1 h)) k p.value)), (λ e. fx.meets), (λ e. fy.meets)), unit_goes (step_run source deleting locals (To.fork line h test ty x y) calls live env t1 w1));
          keeps = keeps_then program l1 (Stands_at ty u h t0) (Stands_at ty u h t0) (branching b (run x live env t1) (run y live env t1) w1) (λ t2 w2. Go t2 w2)
              (keeps_branching program l1 (Stands_at ty u h t0) b (run x live env t1) (run y live env t1) w1
              (keeps_more program l1 (Stands_at ty u h t1) (Stands_at ty u h t0) (run x live env t1 w1) fx.keeps (λ t2 l2 g2 q. record { value = q.value; lower = lower_trans h h t0 t1 t2 (omega arith) p.lower q.lower }))
              (keeps_more program l1 (Stands_at ty u h t1) (Stands_at ty u h t0) (run y live env t1 w1) fy.keeps (λ t2 l2 g2 q. record { value = q.value; lower = lower_trans h h t0 t1 t2 (omega arith) p.lower q.lower })))
              (λ t2 l2 w2 g2 s2 q. keeps_here program l2 (Stands_at ty u h t0) t2 w2 s2 q);
        })

    -- what an operation gives that needs nothing of its world is what the same expression gives
    alone : (f : ℕ) (g : Function) (xs : List Value) (l : Ledger) (w : World) → slice_get program.functions f ≡ Some g → AllSuit l (parameters_of g) xs → (env : List Value) → AllSuit l locals env → WorldSuits program l w → Keeps program l (ResultSuits g.result) (spent {A = Value} w)
    alone f g xs l w e all env own suits = record { holds = tt }

    leaf_keeps : (e : Expr) (u : Ty) (l : Ledger) (env : List Value) (w : World) → HasType program locals e u → Own l env → WorldSuits program l w → Keeps program l (Of u) (Rattle.rc_core.specs.Evaluation.eval source program e (λ f xs w1. spent w1) env w)
    leaf_keeps e u l env w he own suits = eval_keeps program well.structs locals (λ f xs w1. spent w1) env (λ f g xs l1 w1 ef all own1 s1. alone f g xs l1 w1 ef all env own1 s1) e u l w he own suits

    -- the value below another, once that stands
    still : (ty u : Ty) (h : ℕ) (t t1 t2 : Temporaries) (l l1 : Ledger) → Grows l l1 → Stands_at ty u h t l t1 → Lower (suc h) t1 t2 → Suits l1 u (temporary ty t2 h)
    still ty u h t t1 t2 l l1 g p lo = subst (Suits l1 u) (sym (at_lower (kind_of ty) (suc h) h t1 t2 lo (omega arith))) (still_suits l l1 g u (temporary ty t1 h) p.value)

    over : (h : ℕ) (t t1 t2 : Temporaries) → Lower h t t1 → Lower (suc h) t1 t2 → Lower h t t2
    over h t t1 t2 a b = lower_trans h (suc h) t t1 t2 (omega arith) a b

    abbrev Does : Expr → Type 0
    Does e = (u : Ty) → HasType program locals e u → (ty : Ty) (h : ℕ) → kind_of ty ≡ kind_of u → (live : ℕ → Bool) (env : List Value) (t : Temporaries) (w : World) (l : Ledger) → Own l env → WorldSuits program l w → Fine l (Stands_at ty u h t) (code e ty h) live env t w

    one_operand : (e : Expr) → Does e → (v own : Ty) → HasType program locals e v → kind_of own ≡ kind_of v → (line h : ℕ) (ty u : Ty) (op : Operation) (live : ℕ → Bool) (env : List Value) (t : Temporaries) (w : World) (l : Ledger) → Own l env → WorldSuits program l w
        → ((t1 : Temporaries) (l1 : Ledger) (w1 : World) → WorldSuits program l1 w1 → Suits l1 v (temporary own t1 h) → StepMeets deleting fr calls inside (To.set line h ty op) live env t1 w1 × Keeps program l1 (Of u) (operation_value source deleting locals line op calls live env t1 h w1))
        → Fine l (Stands_at ty u h t) (both (code e own h) (one (To.set line h ty op))) live env t w
    one_operand e does v own he hk line h ty u op live env t w l own_l suits k =
        fine_both l (Stands_at own v h t) (Stands_at ty u h t) (code e own h) (one (To.set line h ty op)) live env t w (does v he own h hk _ env t w l own_l suits) (λ t1 l1 w1 g s p.
        let q = k t1 l1 w1 s p.value in fine_set line h ty u op t l1 live env t1 w1 p.lower q.0 q.1)

    two_operands : (a b : Expr) → Does a → Does b → (va vb own other : Ty) → HasType program locals a va → HasType program locals b vb → kind_of own ≡ kind_of va → kind_of other ≡ kind_of vb → (line h : ℕ) (ty u : Ty) (op : Operation) (live : ℕ → Bool) (env : List Value) (t : Temporaries) (w : World) (l : Ledger) → Own l env → WorldSuits program l w
        → ((t2 : Temporaries) (l2 : Ledger) (w2 : World) → WorldSuits program l2 w2 → Suits l2 va (temporary own t2 h) → Suits l2 vb (temporary other t2 (suc h)) → StepMeets deleting fr calls inside (To.set line h ty op) live env t2 w2 × Keeps program l2 (Of u) (operation_value source deleting locals line op calls live env t2 h w2))
        → Fine l (Stands_at ty u h t) (both (code a own h) (both (code b other (suc h)) (one (To.set line h ty op)))) live env t w
    two_operands a b does_a does_b va vb own other ha hb ka kb line h ty u op live env t w l own_l suits k =
        fine_both l (Stands_at own va h t) (Stands_at ty u h t) (code a own h) (both (code b other (suc h)) (one (To.set line h ty op))) live env t w (does_a va ha own h ka _ env t w l own_l suits) (λ t1 l1 w1 g1 s1 p1.
        fine_both l1 (Stands_at other vb (suc h) t1) (Stands_at ty u h t) (code b other (suc h)) (one (To.set line h ty op)) live env t1 w1 (does_b vb hb other (suc h) kb _ env t1 w1 l1 (all_still_suit l l1 g1 locals env own_l) s1) (λ t2 l2 w2 g2 s2 p2.
        let q = k t2 l2 w2 s2 (still own va h t t1 t2 l1 l2 g2 p1 p2.lower) p2.value in fine_set line h ty u op t l2 live env t2 w2 (over h t t1 t2 p1.lower p2.lower) q.0 q.1))

    -- arguments, and a place's pointer

    pub record Argued (tys : List Ty) (h : ℕ) (t : Temporaries) (l : Ledger) (t1 : Temporaries) : Type 0 where
      pub all : AllSuit l tys (kept_all tys (temporaries_from tys t1 h))
      pub lower : Lower h t t1

    pub record Pointed (element : Ty) (h : ℕ) (t : Temporaries) (l : Ledger) (t1 : Temporaries) : Type 0 where
      pub pointer : IsPointer l element (t1.regions h)
      pub lower : Lower h t t1

    -- the call of a function, whose arguments stand there
    pub call_fine : (line h k : ℕ) (callee : Function) (live : ℕ → Bool) (env : List Value) (t : Temporaries) (w : World) (l : Ledger) → slice_get program.functions k ≡ Some callee → Own l env → WorldSuits program l w → AllSuit l (parameters_of callee) (kept_all (parameters_of callee) (temporaries_from (parameters_of callee) t h))
        → CallMeets deleting fr calls inside k (parameters_of callee) live env t h w × Keeps program l (ResultSuits callee.result) (operation_value source deleting locals line (To.call k (parameters_of callee)) calls live env t h w)
    call_fine line h k callee live env t w l e own suits all = (((λ b. (inside_held).0), (λ b. (called k callee xs l w e all suits).0)), keeps_branching program l (ResultSuits callee.result) (deleting k) _ _ w (left (calls k xs entered) inside_held.1) (called k callee xs l w e all suits).1)
      where
        xs : List Value
        xs = kept_all (parameters_of callee) (temporaries_from (parameters_of callee) t h)

        entered : World
        entered = source.enter (R.held source deleting locals live env) w

        enters : WorldSuits program l entered
        enters = enter_suits program l (R.held source deleting locals live env) w (subst (Rattle.std.specs.List.AllByRecursion (Rattle.rc_kinds.specs.Suits.SuitsSome l)) (held_is locals env live (all_of_kind l locals env own)) (held_suit l live locals env own)) suits

        inside_held : inside k xs entered × Keeps program l (ResultSuits callee.result) (calls k xs entered)
        inside_held = called k callee xs l entered e all enters

        left : (m : Run World Value) → Keeps program l (ResultSuits callee.result) m → Keeps program l (ResultSuits callee.result) (bind m (λ v w2. Go v (source.leave w w2)))
        left (Go v w2) q = record { holds = record { ledger = q.holds.ledger; grown = q.holds.grown; world = leave_suits program l q.holds.ledger w w2 q.holds.grown suits q.holds.world; value = q.holds.value } }
        left (Stopped stop w2) q = record { holds = tt }

    arguments_same : (es : Arguments) (tys : List Ty) → AreArguments program locals es tys → argument_types program locals es tys ≡ tys
    arguments_same none [] ha = refl
    arguments_same none (ty ∷ tys) ha = absurd ha
    arguments_same (more e es) [] ha = absurd ha
    arguments_same (more e es) (ty ∷ tys) ha = ap (λ ts. ty ∷ ts) (arguments_same es tys ha.1)

    kind_index : (i : Expr) (s : Signedness) → kind_of (index_type program locals i) ≡ kind_of (arithmetic s)
    kind_index i s = kind_arithmetic (signedness program locals (found i)) ∙ sym (kind_arithmetic s)

    abbrev nothing_asked : Unit {0}
    nothing_asked = tt

    in_range : (s : Signedness) (h : ℕ) (l : Ledger) (t1 : Temporaries) → Suits l (arithmetic s) (temporary (arithmetic s) t1 h) → InRange (type_of s) (number_in (t1.numbers h))
    in_range s h l t1 v = number_of (type_of s) (t1.numbers h) (suits_number l (type_of s) (t1.numbers h) (by_kind numeric (arithmetic s) (arithmetic s) h l t1 (kind_arithmetic s) v))

    unary_keeps : (operator : UnaryOperator) (s : Signedness) (line h : ℕ) (l : Ledger) (t1 : Temporaries) (w : World) → WorldSuits program l w → Suits l (arithmetic s) (temporary (arithmetic s) t1 h) → Keeps program l (Of (arithmetic s)) (bind (computed line (calculate_one operator s (number_in (t1.numbers h))) w) give_number)
    unary_keeps operator s line h l t1 w suits v = computed_keeps program l (arithmetic s) line _ w suits (calculated_one_suits l operator s (number_in (t1.numbers h)) (in_range s h l t1 v))

    -- a path behind a pointer that stands there
    behind_pointer : (path : Path) (u el : Ty) → el ≡ u → (own : Ty) → kind_of own ≡ regional → (h : ℕ) (live : ℕ → Bool) (env : List Value) (t t1 : Temporaries) (w : World) (l : Ledger) → Fine l (λ l2 t2. Lower (suc h) t1 t2) (path_code program locals path (suc h)) live env t1 w → Stands_at own (pointer Plain u) h t l t1
        → Fine l (Pointed el h t) (path_code program locals path (suc h)) live env t1 w
    behind_pointer path u el e own k h live env t t1 w l fp p =
        fine_more l (λ l2 t2. Lower (suc h) t1 t2) (Pointed el h t) (path_code program locals path (suc h)) live env t1 w fp (λ t2 l2 g2 lo.
        record { pointer = subst (λ x. IsPointer l2 x (t2.regions h)) (sym e) (by_kind regional own (pointer Plain u) h l2 t2 k (still own (pointer Plain u) h t t1 t2 l l2 g2 p lo)); lower = over h t t1 t2 p.lower lo })

    mutual
      pub expression_fine : (e : Expr) → Does e
      expression_fine (constant line s n) u he ty h hk live env t w l own suits = fine_set line h ty u (To.constant s n) t l live env t w (lower_itself h t) tt (leaf_keeps (constant line s n) u l env w he own suits)
      expression_fine (null line) u he ty h hk live env t w l own suits = fine_set line h ty u To.null t l live env t w (lower_itself h t) tt (leaf_keeps (null line) u l env w he own suits)
      expression_fine (string line k) u he ty h hk live env t w l own suits = fine_set line h ty u (To.static (length program.globals + k)) t l live env t w (lower_itself h t) tt (leaf_keeps (string line k) u l env w he own suits)
      expression_fine (local line x) u he ty h hk live env t w l own suits = fine_set line h ty u (To.copy x) t l live env t w (lower_itself h t) tt (leaf_keeps (local line x) u l env w he own suits)
      expression_fine (read line place) u he ty h hk live env t w l own suits =
          let a = access program locals place in
          fine_both l (Pointed a.element h t) (Stands_at ty u h t) (place_code program locals line place h) (one (To.set line h ty (To.load a))) live env t w (place_fine line place he.0 he.1.0 h _ env t w l own suits) (λ t1 l1 w1 g s p.
          let aims = place_aims program well locals place he.0 he.1.0 l1 t1 h p.pointer in
          fine_set line h ty u (To.load a) t l1 live env t1 w1 p.lower (subst (λ c. Named line (target_at a t1 h) (note_in c) w1) (sym (cell_is program well locals place he.0 he.1.0)) (type_named program l1 line he.0 (target_at a t1 h) w1 he.1.1 aims s))
          (of_type program l1 u (value_type he.0) _ he.1.2 (keeps_more program l1 (Of he.0) (Of (value_type he.0)) (source.load line (target_at a t1 h) w1) (load_keeps program l1 line he.0 (target_at a t1 h) w1 he.1.1 aims s) (λ v l2 g2 q. value_suits l2 he.0 v q))))
      expression_fine (address line k) u he ty h hk live env t w l own suits = fine_set line h ty u (To.static k) t l live env t w (lower_itself h t) tt (leaf_keeps (address line k) u l env w he own suits)
      expression_fine (step line direction p i) u he ty h hk live env t w l own suits =
          let pt = pointer_type program locals p in
          let it = index_type program locals i in
          two_operands p i (expression_fine p) (expression_fine i) u (arithmetic he.3.0) pt it he.2 he.3.1 (sym (kind_pointer u he.0)) (kind_index i he.3.0) line h ty u (To.step direction pt it) live env t w l own suits
          (λ t2 l2 w2 s2 v n. (tt, step_of program l2 line u (temporary pt t2 h) (toward direction (number_in (temporary it t2 (suc h)))) w2 he.0 v s2))
      expression_fine (step_from line i p) u he ty h hk live env t w l own suits =
          let pt = pointer_type program locals p in
          let it = index_type program locals i in
          two_operands i p (expression_fine i) (expression_fine p) (arithmetic he.3.0) u it pt he.3.1 he.2 (kind_index i he.3.0) (sym (kind_pointer u he.0)) line h ty u (To.step_from it pt) live env t w l own suits
          (λ t2 l2 w2 s2 n v. (tt, step_of program l2 line u (temporary pt t2 (suc h)) (number_in (temporary it t2 h)) w2 he.0 v s2))
      expression_fine (unary line Negate s e) u he ty h hk live env t w l own suits = one_operand e (expression_fine e) (arithmetic s) (arithmetic s) he.1 refl line h ty u (To.unary Negate s) live env t w l own suits (λ t1 l1 w1 s1 v. (tt, of_type program l1 u (arithmetic s) _ he.0 (unary_keeps Negate s line h l1 t1 w1 s1 v)))
      expression_fine (unary line Plus s e) u he ty h hk live env t w l own suits = subst (λ x. Fine l (Stands_at ty x h t) (code e ty h) live env t w) (sym he.0) (expression_fine e (arithmetic s) he.1 ty h (hk ∙ ap kind_of he.0) live env t w l own suits)
      expression_fine (unary line Complement s e) u he ty h hk live env t w l own suits = one_operand e (expression_fine e) (arithmetic s) (arithmetic s) he.1 refl line h ty u (To.unary Complement s) live env t w l own suits (λ t1 l1 w1 s1 v. (tt, of_type program l1 u (arithmetic s) _ he.0 (unary_keeps Complement s line h l1 t1 w1 s1 v)))
      expression_fine (binary line operator s a b) u he ty h hk live env t w l own suits =
          two_operands a b (expression_fine a) (expression_fine b) (arithmetic s) (arithmetic he.2.0) (arithmetic s) (found b) he.1 he.2.1.1 refl (kind_found program locals b (arithmetic he.2.0) he.2.1.1) line h ty u (To.binary operator s (found b)) live env t w l own suits
          (λ t2 l2 w2 s2 v n. (
            tt,
            of_type program l2 u (result_type operator s) _ he.0 (computed_keeps program l2 (result_type operator s) line _ w2 s2
                (calculated_suits l2 operator s (number_in (t2.numbers h)) (right_number operator (found b) (temporary (found b) t2 (suc h))) (in_range s h l2 t2 v))),
          ))
      expression_fine (convert line from to e) u he ty h hk live env t w l own suits =
          one_operand e (expression_fine e) (number from) (number from) he.2 refl line h ty u (To.convert from to) live env t w l own suits (λ t1 l1 w1 s1 v.
          let v1 = by_kind numeric (number from) (number from) h l1 t1 (kind_number from) v in
          (tt, of_type program l1 u (number to) _ he.0 (keeps_here program l1 (Of (number to)) (convert_value from to (t1.numbers h)) w1 s1 (subst (Suits l1 (number to)) (convert_is from to (t1.numbers h) he.1 (suits_so l1 (number from) (t1.numbers h) v1)) (number_suits l1 to _ (converted_fits to (number_in (t1.numbers h))))))))
      expression_fine (not_zero line e) u he ty h hk live env t w l own suits =
          one_operand e (expression_fine e) (number he.1.0) (found e) he.1.1 (kind_found program locals e (number he.1.0) he.1.1) line h ty u (To.not_zero (found e)) live env t w l own suits (λ t1 l1 w1 s1 v. (tt, wanted_keeps program l1 u false _ w1 he.0 s1))
      expression_fine (and line a b) u he ty h hk live env t w l own suits =
          fine_fork (code a (found a) h) line h (found a) he.3.0 ty u (both (code b (found b) h) (one (To.set line h ty (To.truth (found b))))) (one (To.set line h ty (To.constant Signed (pos 0)))) t l live env t w (kind_found program locals a he.3.0 he.3.1)
          (expression_fine a he.3.0 he.3.1 (found a) h (kind_found program locals a he.3.0 he.3.1) _ env t w l own suits)
          (λ t1 l1 w1 g s1. one_operand b (expression_fine b) he.4.0 (found b) he.4.1 (kind_found program locals b he.4.0 he.4.1) line h ty u (To.truth (found b)) live env t1 w1 l1 (all_still_suit l l1 g locals env own) s1 (λ t2 l2 w2 s2 v. (tt, wanted_keeps program l2 u true _ w2 he.0 s2)))
          (λ t1 l1 w1 g s1. fine_set line h ty u (To.constant Signed (pos 0)) t1 l1 live env t1 w1 (lower_itself h t1) tt (of_type program l1 u int _ he.0 (keeps_here program l1 (Of int) (Number (pos 0)) w1 s1 refl)))
      expression_fine (or line a b) u he ty h hk live env t w l own suits =
          fine_fork (code a (found a) h) line h (found a) he.3.0 ty u (one (To.set line h ty (To.constant Signed (pos 1)))) (both (code b (found b) h) (one (To.set line h ty (To.truth (found b))))) t l live env t w (kind_found program locals a he.3.0 he.3.1)
          (expression_fine a he.3.0 he.3.1 (found a) h (kind_found program locals a he.3.0 he.3.1) _ env t w l own suits)
          (λ t1 l1 w1 g s1. fine_set line h ty u (To.constant Signed (pos 1)) t1 l1 live env t1 w1 (lower_itself h t1) tt (of_type program l1 u int _ he.0 (keeps_here program l1 (Of int) (Number (pos 1)) w1 s1 refl)))
          (λ t1 l1 w1 g s1. one_operand b (expression_fine b) he.4.0 (found b) he.4.1 (kind_found program locals b he.4.0 he.4.1) line h ty u (To.truth (found b)) live env t1 w1 l1 (all_still_suit l l1 g locals env own) s1 (λ t2 l2 w2 s2 v. (tt, wanted_keeps program l2 u true _ w2 he.0 s2)))
      expression_fine (choose line test a b) u he ty h hk live env t w l own suits =
          fine_fork (code test (found test) h) line h (found test) he.1.0 ty u (code a ty h) (code b ty h) t l live env t w (kind_found program locals test he.1.0 he.1.1)
          (expression_fine test he.1.0 he.1.1 (found test) h (kind_found program locals test he.1.0 he.1.1) _ env t w l own suits)
          (λ t1 l1 w1 g s1. expression_fine a u he.3 ty h hk live env t1 w1 l1 (all_still_suit l l1 g locals env own) s1)
          (λ t1 l1 w1 g s1. expression_fine b u he.4 ty h hk live env t1 w1 l1 (all_still_suit l l1 g locals env own) s1)
      expression_fine (is_null line wanted e) u he ty h hk live env t w l own suits =
          one_operand e (expression_fine e) he.2.0 (found e) he.2.1.1 (kind_found program locals e he.2.0 he.2.1.1) line h ty u (To.is_null wanted (found e)) live env t w l own suits (λ t1 l1 w1 s1 v. (tt, wanted_keeps program l1 u wanted _ w1 he.0 s1))
      expression_fine (same line wanted a b) u he ty h hk live env t w l own suits =
          two_operands a b (expression_fine a) (expression_fine b) he.3.0 he.3.0 (found a) (found a) he.3.1.1 he.3.1.2 (kind_found program locals a he.3.0 he.3.1.1) (kind_found program locals a he.3.0 he.3.1.1) line h ty u (To.same wanted (found a)) live env t w l own suits
          (λ t2 l2 w2 s2 v n. (tt, wanted_keeps program l2 u wanted _ w2 he.0 s2))
      expression_fine (call line k es) u he ty h hk live env t w l own suits =
          let tys : parameter_types program k ≡ parameters_of he.0 = ap types_in he.1.0 in
          let now = λ (ts us : List Ty). both (arguments_code program locals es ts h) (one (To.set line h ty (To.call k us))) in
          let us : argument_types program locals es (parameters_of he.0) ≡ parameters_of he.0 = arguments_same es (parameters_of he.0) he.1.2 in
          subst (λ ts. Fine l (Stands_at ty u h t) (now ts (argument_types program locals es ts)) live env t w) (sym tys)
          (subst (λ vs. Fine l (Stands_at ty u h t) (now (parameters_of he.0) vs) live env t w) (sym us)
          (fine_both l (Argued (parameters_of he.0) h t) (Stands_at ty u h t) (arguments_code program locals es (parameters_of he.0) h) (one (To.set line h ty (To.call k (parameters_of he.0)))) live env t w (arguments_fine es (parameters_of he.0) he.1.2 h _ env t w l own suits) (λ t1 l1 w1 g s p.
          let q = call_fine line h k he.0 live env t1 w1 l1 he.1.0 (all_still_suit l l1 g locals env own) s p.all in
          fine_set line h ty u (To.call k (parameters_of he.0)) t l1 live env t1 w1 p.lower q.0 (keeps_more program l1 (ResultSuits he.0.result) (Of u) _ q.1 (λ v l2 g2 r. result_of_call l2 he.0.result u v he.1.1 r)))))
      expression_fine (new_region line) u he ty h hk live env t w l own suits = fine_set line h ty u To.new_region t l live env t w (lower_itself h t) tt (leaf_keeps (new_region line) u l env w he own suits)
      expression_fine (new_subregion line e) u he ty h hk live env t w l own suits =
          one_operand e (expression_fine e) region region he.1 refl line h ty u To.new_subregion live env t w l own suits (λ t1 l1 w1 s1 v. (tt, of_type program l1 u region _ he.0 (new_subregion_keeps program l1 line (t1.regions h) w1 v s1)))
      expression_fine (region_of line e) u he ty h hk live env t w l own suits =
          one_operand e (expression_fine e) he.2.0 (found e) he.2.1.1 (kind_found program locals e he.2.0 he.2.1.1) line h ty u (To.region_of (found e)) live env t w l own suits (λ t1 l1 w1 s1 v. (tt, of_type program l1 u region _ he.0 (named_keeps program l1 line he.2.0 (temporary (found e) t1 h) w1 he.2.1.0 v s1)))
      expression_fine (allocate line e made) u he ty h hk live env t w l own suits =
          one_operand e (expression_fine e) region region he.2 refl line h ty u (To.allocate made (cells program.structs made)) live env t w l own suits (λ t1 l1 w1 s1 v. (tt, of_type program l1 u (pointer Plain made) _ he.0 (allocate_keeps program l1 line (t1.regions h) (pos 1) made w1 he.1 v s1)))
      expression_fine (allocate_array line e k made) u he ty h hk live env t w l own suits =
          two_operands e k (expression_fine e) (expression_fine k) region int region int he.2 he.3 refl refl line h ty u (To.allocate_array made (cells program.structs made)) live env t w l own suits
          (λ t2 l2 w2 s2 v n. (tt, of_type program l2 u (pointer Plain made) _ he.0 (allocate_keeps program l2 line (t2.regions h) (number_in (t2.numbers (suc h))) made w2 he.1 v s2)))
      expression_fine (putchar line e) u he ty h hk live env t w l own suits =
          one_operand e (expression_fine e) int int he.1 refl line h ty u To.putchar live env t w l own suits (λ t1 l1 w1 s1 v. (
            tt,
            of_type program l1 u int _ he.0
                (keeps_then program l1 (λ l x. Unit {0}) (Of int) (source.put_byte (byte_of (number_in (t1.numbers h))) w1) _ (put_byte_keeps program l1 (byte_of (number_in (t1.numbers h))) w1 s1) (λ _ l2 w2 g2 s2 _.
                keeps_here program l2 (Of int) (Number (pos (byte_of (number_in (t1.numbers h))))) w2 s2 (byte_of_fits (number_in (t1.numbers h))))),
          ))
      expression_fine (getchar line) u he ty h hk live env t w l own suits = fine_set line h ty u To.getchar t l live env t w (lower_itself h t) tt (leaf_keeps (getchar line) u l env w he own suits)

      pub arguments_fine : (es : Arguments) (tys : List Ty) → AreArguments program locals es tys → (h : ℕ) (live : ℕ → Bool) (env : List Value) (t : Temporaries) (w : World) (l : Ledger) → Own l env → WorldSuits program l w → Fine l (Argued tys h t) (arguments_code program locals es tys h) live env t w
      arguments_fine none [] ha h live env t w l own suits = record { meets = tt; keeps = keeps_here program l (Argued [] h t) t w suits (record { all = tt; lower = lower_itself h t }) }
      arguments_fine none (ty ∷ tys) ha h live env t w l own suits = absurd ha
      arguments_fine (more e es) [] ha h live env t w l own suits = absurd ha
      arguments_fine (more e es) (ty ∷ tys) ha h live env t w l own suits =
          fine_both l (Stands_at (value_type ty) (value_type ty) h t) (Argued (ty ∷ tys) h t) (code e (value_type ty) h) (arguments_code program locals es tys (suc h)) live env t w (expression_fine e (value_type ty) ha.0 (value_type ty) h refl _ env t w l own suits) (λ t1 l1 w1 g1 s1 p1.
          fine_more l1 (Argued tys (suc h) t1) (Argued (ty ∷ tys) h t) (arguments_code program locals es tys (suc h)) live env t1 w1 (arguments_fine es tys ha.1 (suc h) live env t1 w1 l1 (all_still_suit l l1 g1 locals env own) s1) (λ t2 l2 g2 p2.
          record { all = (kept_suits l2 ty (temporary ty t2 h) (by_kind (kind_of ty) (value_type ty) (value_type ty) h l2 t2 (kind_value ty) (still (value_type ty) (value_type ty) h t t1 t2 l1 l2 g2 p1 p2.lower)), p2.all); lower = over h t t1 t2 p1.lower p2.lower }))

      pub place_fine : (line : ℕ) (place : Place) (pt : Ty) → IsPlace program locals place pt → (h : ℕ) (live : ℕ → Bool) (env : List Value) (t : Temporaries) (w : World) (l : Ledger) → Own l env → WorldSuits program l w → Fine l (Pointed (access program locals place).element h t) (place_code program locals line place h) live env t w
      place_fine line (global k path) pt hp h live env t w l own suits =
          let first = one (To.set line h (pointer Plain (global_type program k)) (To.static k)) in
          fine_both l (Stands_at (pointer Plain (global_type program k)) (pointer Plain hp.0.ty) h t) (Pointed (access program locals (global k path)).element h t) first (path_code program locals path (suc h)) live env t w
          (fine_set line h (pointer Plain (global_type program k)) (pointer Plain hp.0.ty) (To.static k) t l _ env t w (lower_itself h t) tt (leaf_keeps (address line k) (pointer Plain hp.0.ty) l env w (hp.0, (hp.1.0, refl)) own suits)) (λ t1 l1 w1 g1 s1 p1.
          behind_pointer path hp.0.ty (access program locals (global k path)).element (path_element program well locals path _ ∙ ap (type_of_global program well locals) hp.1.0) (pointer Plain (global_type program k)) refl h live env t t1 w1 l1 (path_fine path hp.0.ty pt hp.1.2 (suc h) live env t1 w1 l1 (all_still_suit l l1 g1 locals env own) s1) p1)
      place_fine line (pointed p path) pt hp h live env t w l own suits =
          fine_both l (Stands_at (pointer_type program locals p) (pointer Plain hp.1.0) h t) (Pointed (access program locals (pointed p path)).element h t) (code p (pointer_type program locals p) h) (path_code program locals path (suc h)) live env t w
          (expression_fine p (pointer Plain hp.1.0) hp.1.1.0 (pointer_type program locals p) h refl _ env t w l own suits) (λ t1 l1 w1 g1 s1 p1.
          behind_pointer path hp.1.0 (access program locals (pointed p path)).element (path_element program well locals path _ ∙ pointer_is program well locals p hp.1.0 hp.1.1.0 hp.0) (pointer_type program locals p) refl h live env t t1 w1 l1 (path_fine path hp.1.0 pt hp.1.1.1 (suc h) live env t1 w1 l1 (all_still_suit l l1 g1 locals env own) s1) p1)
      place_fine line (indexed p i path) pt hp h live env t w l own suits =
          let it = index_type program locals i in
          let el = (access program locals (indexed p i path)).element in
          fine_both l (Stands_at (pointer_type program locals p) (pointer Plain hp.1.0) h t) (Pointed el h t) (code p (pointer_type program locals p) h) (both (code i it (suc h)) (path_code program locals path (suc (suc h)))) live env t w
          (expression_fine p (pointer Plain hp.1.0) hp.1.1.0 (pointer_type program locals p) h refl _ env t w l own suits) (λ t1 l1 w1 g1 s1 p1.
          fine_both l1 (Stands_at it (arithmetic hp.1.1.1.0) (suc h) t1) (Pointed el h t) (code i it (suc h)) (path_code program locals path (suc (suc h))) live env t1 w1
          (expression_fine i (arithmetic hp.1.1.1.0) hp.1.1.1.1 it (suc h) (kind_index i hp.1.1.1.0) _ env t1 w1 l1 (all_still_suit l l1 g1 locals env own) s1) (λ t2 l2 w2 g2 s2 p2.
          fine_more l2 (λ l3 t3. Lower (suc (suc h)) t2 t3) (Pointed el h t) (path_code program locals path (suc (suc h))) live env t2 w2 (path_fine path hp.1.0 pt hp.1.1.2 (suc (suc h)) live env t2 w2 l2 (all_still_suit l1 l2 g2 locals env (all_still_suit l l1 g1 locals env own)) s2) (λ t3 l3 g3 lo.
          let low : Lower (suc h) t1 t3 = lower_trans (suc h) (suc (suc h)) t1 t2 t3 (omega arith) p2.lower lo in
          record { pointer = subst (λ x. IsPointer l3 x (t3.regions h)) (sym (path_element program well locals path _ ∙ pointer_is program well locals p hp.1.0 hp.1.1.0 hp.0)) (still_suits l2 l3 g3 (pointer Plain hp.1.0) (t3.regions h) (still (pointer_type program locals p) (pointer Plain hp.1.0) h t t1 t3 l1 l2 g2 p1 low)); lower = over h t t1 t3 p1.lower low })))

      path_fine : (path : Path) (u pt : Ty) → LeadsTo program locals path u pt → (h : ℕ) (live : ℕ → Bool) (env : List Value) (t : Temporaries) (w : World) (l : Ledger) → Own l env → WorldSuits program l w → Fine l (λ l1 t1. Lower h t t1) (path_code program locals path h) live env t w
      path_fine here u pt hl h live env t w l own suits = record { meets = tt; keeps = keeps_here program l (λ l1 t1. Lower h t t1) t w suits (lower_itself h t) }
      path_fine (field s j rest) u pt hl h live env t w l own suits = path_fine rest hl.1.0.ty pt hl.1.1.2 h live env t w l own suits
      path_fine (element s j i rest) u pt hl h live env t w l own suits =
          let it = index_type program locals i in
          fine_both l (Stands_at it (arithmetic hl.1.1.2.0) h t) (λ l1 t1. Lower h t t1) (code i it h) (path_code program locals rest (suc h)) live env t w (expression_fine i (arithmetic hl.1.1.2.0) hl.1.1.2.1 it h (kind_index i hl.1.1.2.0) _ env t w l own suits) (λ t1 l1 w1 g1 s1 p1.
          fine_more l1 (λ l2 t2. Lower (suc h) t1 t2) (λ l2 t2. Lower h t t2) (path_code program locals rest (suc h)) live env t1 w1 (path_fine rest hl.1.0.ty pt hl.1.1.3 (suc h) live env t1 w1 l1 (all_still_suit l l1 g1 locals env own) s1) (λ t2 l2 g2 lo. over h t t1 t2 p1.lower lo))

    -- statements

    abbrev Goal : Type 1
    Goal = List Value → Temporaries → World → Type 0

    abbrev Going : Type 0
    Going = List Value → Temporaries → World → Run World Way

    -- at each way out of a statement the locals suit, or what is returned does
    abbrev WaySuits : Ledger → Way → Type 0
    WaySuits l (R.Next env t) = Own l env
    WaySuits l (R.Broke env t) = Own l env
    WaySuits l (R.Continued env t) = Own l env
    WaySuits l (R.Returned v) = ResultSuits f.result l v

    -- a run is met, and keeps to the types
    abbrev Held : Goal → Going → Type 0
    Held M go = (l : Ledger) (env : List Value) (t : Temporaries) (w : World) → Own l env → WorldSuits program l w → M env t w × Keeps program l WaySuits (go env t w)

    abbrev CodeHeld : To.Code → Ways → Type 0
    CodeHeld x ways = Held (λ env t w. CodeMeets deleting fr calls inside x ways env t w) (λ env t w. code_run source deleting locals x calls ways env t w)

    abbrev CodesHeld : To.Codes → Ways → Type 0
    CodesHeld x ways = Held (λ env t w. CodesMeet deleting fr calls inside x ways env t w) (λ env t w. codes_run source deleting locals x calls ways env t w)

    stays : (l l1 : Ledger) (env : List Value) → Grows l l1 → Own l env → Own l1 env
    stays l l1 env g own = all_still_suit l l1 g locals env own

    simple_holds : (S : Temporaries → Ledger → Temporaries → Type 0) (x : Steps) (act : To.Act) (ways : Ways)
        → ((l : Ledger) (env : List Value) (t : Temporaries) (w : World) → Own l env → WorldSuits program l w → Fine l (S t) x (before_act act ways.next) env t w)
        → ((l1 : Ledger) (env : List Value) (t t1 : Temporaries) (w1 : World) → Own l1 env → WorldSuits program l1 w1 → S t l1 t1 → ActMeets deleting fr calls inside act ways.next env t1 w1 × Keeps program l1 WaySuits (act_run source deleting locals act calls ways.next env t1 w1))
        → CodeHeld (To.simple x act) ways
    simple_holds S x act ways fx k l env t w own suits =
        let q = fx l env t w own suits in
        let m = run x (before_act act ways.next) env t w in (
          (q.meets, goes_on program l (S t) (λ t1 w1. ActMeets deleting fr calls inside act ways.next env t1 w1) m q.keeps (λ t1 l1 w1 g s p. (k l1 env t t1 w1 (stays l l1 env g own) s p).0)),
          keeps_then program l (S t) WaySuits m (λ t1. act_run source deleting locals act calls ways.next env t1) q.keeps (λ t1 l1 w1 g s p. (k l1 env t t1 w1 (stays l l1 env g own) s p).1),
        )

    variable : (x : ℕ) (t : Ty) → slice_get locals x ≡ Some t → IsTrue (not (is_struct t))
    variable x t e = ((well.functions g f is_there).locals x t e).1

    -- a value of a local's type, that goes into it
    set_holds : (line x : ℕ) (t ty : Ty) (e : Expr) (ways : Ways) → slice_get locals x ≡ Some t → ty ≡ t → HasType program locals e (value_type t) → CodeHeld (To.simple (code e (value_type ty) 0) (To.assign line x ty)) ways
    set_holds line x t ty e ways at alike he =
        subst (λ u. CodeHeld (To.simple (code e (value_type u) 0) (To.assign line x u)) ways) (sym alike)
        (simple_holds (Stands_at (value_type t) (value_type t) 0) (code e (value_type t) 0) (To.assign line x t) ways (λ l env t0 w own suits. expression_fine e (value_type t) he (value_type t) 0 refl _ env t0 w l own suits)
        (λ l1 env t0 t1 w1 own s p. (
          tt,
          keeps_here program l1 WaySuits (R.Next (with_local env x (kept t (temporary t t1 0))) t1) w1 s
              (set_suits l1 locals env x t (kept t (temporary t t1 0)) at (kept_suits l1 t (temporary t t1 0) (by_kind (kind_of t) (value_type t) (value_type t) 0 l1 t1 (kind_value t) p.value)) own),
        )))

    -- a place's pointer, and behind the place a value
    record Both (element own v : Ty) (k : ℕ) (l : Ledger) (t : Temporaries) : Type 0 where
      pointer : IsPointer l element (t.regions 0)
      value : Suits l v (temporary own t k)

    place_then : (line : ℕ) (place : Place) (pt : Ty) → IsPlace program locals place pt → (e : Expr) (v own : Ty) → HasType program locals e v → kind_of own ≡ kind_of v → (live : ℕ → Bool) (l : Ledger) (env : List Value) (t : Temporaries) (w : World) → Own l env → WorldSuits program l w
        → let a = access program locals place in Fine l (Both a.element own v (width a)) (both (place_code program locals line place 0) (code e own (width a))) live env t w
    place_then line place pt hp e v own he hk live l env t w own_l suits =
        let a = access program locals place in
        fine_both l (Pointed a.element 0 t) (Both a.element own v (width a)) (place_code program locals line place 0) (code e own (width a)) live env t w (place_fine line place pt hp 0 _ env t w l own_l suits) (λ t1 l1 w1 g1 s1 p1.
        fine_more l1 (Stands_at own v (width a) t1) (Both a.element own v (width a)) (code e own (width a)) live env t1 w1 (expression_fine e v he own (width a) hk live env t1 w1 l1 (stays l l1 env g1 own_l) s1) (λ t2 l2 g2 p2.
        record { pointer = subst (IsPointer l2 a.element) (sym (p2.lower.regions 0 (omega arith))) (still_suits l1 l2 g2 (pointer Plain a.element) (t1.regions 0) p1.pointer); value = p2.value }))

    place_named : (line : ℕ) (place : Place) (pt : Ty) → IsPlace program locals place pt → IsTrue (not (is_struct pt)) → (l : Ledger) (t : Temporaries) (w : World) → IsPointer l (access program locals place).element (t.regions 0) → WorldSuits program l w → Named line (target_at (access program locals place) t 0) (note_in (access program locals place).cell) w
    place_named line place pt hp h l t w p s = subst (λ c. Named line (target_at (access program locals place) t 0) (note_in c) w) (sym (cell_is program well locals place pt hp)) (type_named program l line pt (target_at (access program locals place) t 0) w h (place_aims program well locals place pt hp l t 0 p) s)

    then_on : (l : Ledger) (env : List Value) (t : Temporaries) (m : Run World (Unit {0})) → Own l env → Keeps program l Nothing m → Keeps program l WaySuits (bind m (λ _ w1. Go (R.Next env t) w1))
    then_on l env t m own k = keeps_then program l Nothing WaySuits m (λ _ w1. Go (R.Next env t) w1) k (λ u l1 w1 g s p. keeps_here program l1 WaySuits (R.Next env t) w1 s (stays l l1 env g own))

    store_holds : (line : ℕ) (place : Place) (pt : Ty) → IsPlace program locals place pt → IsTrue (not (is_struct pt)) → (e : Expr) → HasType program locals e (value_type pt) → (ways : Ways) → CodeHeld (statement_code program f (store line place e)) ways
    store_holds line place pt hp h e he ways =
        let a = access program locals place in
        simple_holds (λ t. Both a.element (value_type a.cell) (value_type pt) (width a)) (both (place_code program locals line place 0) (code e (value_type a.cell) (width a))) (To.store line a) ways
        (λ l env t w own suits. place_then line place pt hp e (value_type pt) (value_type a.cell) he (ap (λ c. kind_of (value_type c)) (cell_is program well locals place pt hp)) _ l env t w own suits)
        (λ l1 env t t1 w1 own s p. (
          place_named line place pt hp h l1 t1 w1 p.pointer s,
          then_on l1 env t1 _ own (store_keeps program l1 line pt (target_at a t1 0) (kept a.cell (temporary a.cell t1 (width a))) w1 h (place_aims program well locals place pt hp l1 t1 0 p.pointer) (stored_suits l1 t1 (width a) pt a.cell (cell_is program well locals place pt hp) p.value) s),
        ))

    -- a new value is what the program has
    new_alike : (d : ℕ → Bool) (line : ℕ) (change : Change) (ty : Ty) (old v : Value) (w : World) → R.new_value source deleting locals line change ty old v w ≡ R.new_value source d locals line change ty old v w
    new_alike d line (Compute from operator s) ty old v w = refl
    new_alike d line (Stepping direction) ty old v w = refl

    new_keeps : (line : ℕ) (pt : Ty) (change : Change) (e : Expr) (takes : Takes program locals pt change e) (old v : Value) (l : Ledger) (w : World) → Suits l pt old → Suits l (taken_has program f pt change e takes).0 v → WorldSuits program l w
        → Keeps program l (Of pt) (R.new_value source deleting locals line change (found e) old v w)
    new_keeps line pt change e takes old v l w so sv s =
        subst (Keeps program l (Of pt)) (sym (new_alike (Rattle.rc_core.specs.Execution.deletes program) line change (found e) old v w ∙ new_same program f line pt change e takes old v l w so sv))
        (changed_keeps program well.structs f (well.functions g f is_there).locals (λ k xs w1. spent w1) (λ k h xs l1 w1 eh all s1. record { holds = tt }) line pt change e old v l w takes so s)

    update_holds : (line : ℕ) (place : Place) (pt : Ty) → IsPlace program locals place pt → (change : Change) (e : Expr) → Takes program locals pt change e → (ways : Ways) → CodeHeld (statement_code program f (update line place change e)) ways
    update_holds line place pt hp change e takes ways =
        let a = access program locals place in
        let has = taken_has program f pt change e takes in
        let h = taken_cell program f pt change e takes in
        simple_holds (λ t. Both a.element (found e) has.0 (width a)) (both (place_code program locals line place 0) (code e (found e) (width a))) (To.update line a change (found e)) ways
        (λ l env t w own suits. place_then line place pt hp e has.0 (found e) has.1 (kind_found program locals e has.0 has.1) _ l env t w own suits)
        (λ l1 env t t1 w1 own s p.
        let tg = target_at a t1 0 in
        let v = temporary (found e) t1 (width a) in
        let left = λ (new : Value). R.set_kind (R.change_kind change) t1 (suc (width a)) new in
        let finish = λ (new : Value) (w3 : World). bind (source.store line tg (kept a.cell new) w3) (λ _ w4. Go (R.Next env (left new)) w4) in
        let loads = load_keeps program l1 line pt tg w1 h (place_aims program well locals place pt hp l1 t1 0 p.pointer) s in
        let news = λ (old : Value) (l2 : Ledger) (w2 : World) (g2 : Grows l1 l2) (s2 : WorldSuits program l2 w2) (q2 : Suits l2 pt old). new_keeps line pt change e takes old v l2 w2 q2 (still_suits l1 l2 g2 has.0 v p.value) s2 in
        let pointer_at = λ (l3 : Ledger) (g3 : Grows l1 l3). still_suits l1 l3 g3 (pointer Plain a.element) (t1.regions 0) p.pointer in (
          (
            place_named line place pt hp h l1 t1 w1 p.pointer s,
            goes_on program l1 (Of pt) (λ old w2. IfGoes (λ new w3. Named line tg (note_in a.cell) w3) (R.new_value source deleting locals line change (found e) old v w2)) (source.load line tg w1) loads (λ old l2 w2 g2 s2 q2.
                goes_on program l2 (Of pt) (λ new w3. Named line tg (note_in a.cell) w3) (R.new_value source deleting locals line change (found e) old v w2) (news old l2 w2 g2 s2 q2) (λ new l3 w3 g3 s3 q3.
                place_named line place pt hp h l3 t1 w3 (pointer_at l3 (grows_on l1 l2 l3 g2 g3)) s3)),
          ),
          keeps_then program l1 (Of pt) WaySuits (source.load line tg w1) (λ old w2. bind (R.new_value source deleting locals line change (found e) old v w2) finish) loads (λ old l2 w2 g2 s2 q2.
              keeps_then program l2 (Of pt) WaySuits (R.new_value source deleting locals line change (found e) old v w2) finish (news old l2 w2 g2 s2 q2) (λ new l3 w3 g3 s3 q3.
              then_on l3 env (left new) _ (stays l2 l3 env g3 (stays l1 l2 env g2 own))
              (store_keeps program l3 line pt tg (kept a.cell new) w3 h (place_aims program well locals place pt hp l3 t1 0 (pointer_at l3 (grows_on l1 l2 l3 g2 g3))) (subst (λ c. Suits l3 pt (kept c new)) (sym (cell_is program well locals place pt hp)) (kept_suits l3 pt new (value_suits l3 pt new q3))) s3))),
        ))

    -- a struct copy
    move_holds : (line z : ℕ) (kinds : Layout) (l : Ledger) (from to : Target) (t : Temporaries) (w : World) → AimsAt program l kinds from → AimsAt program l kinds to → WorldSuits program l w → MoveMeets line kinds from to w × Keeps program l (λ l1 t1. Unit {0}) (R.cells_moved source deleting locals line z kinds from to t w)
    move_holds line z [] l from to t w af at s = (tt, keeps_here program l (λ l1 t1. Unit {0}) t w s tt)
    move_holds line z (kind ∷ kinds) l from to t w af at s =
        let loads = load_suits program l line kind kinds from w af s in
        let from1 : Target = record from { offset = suc from.offset } in
        let to1 : Target = record to { offset = suc to.offset } in
        let stores = λ (v : Value) (l1 : Ledger) (w1 : World) (g1 : Grows l l1) (s1 : WorldSuits program l1 w1) (q : CellSuits l1 kind v). store_suits program l1 line kind kinds to (R.kept_cell kind v) w1 (still_at program l l1 (kind ∷ kinds) to g1 at) (kept_cell_suits l1 kind v q) s1 in
        let rest = λ (v : Value) (l2 : Ledger) (w2 : World) (g : Grows l l2) (s2 : WorldSuits program l2 w2). move_holds line z kinds l2 from1 to1 (R.with_cell kind t z v) w2 (still_at program l l2 kinds from1 g (next_at program l kind kinds from af)) (still_at program l l2 kinds to1 g (next_at program l kind kinds to at)) s2 in (
          (
            (λ regional. kinds_named program l line af.element kind kinds from w af.pointer af.stands s),
            goes_on program l (λ l1 v. CellSuits l1 kind v) _ (source.load line from w) loads (λ v l1 w1 g1 s1 q.
                let at1 = still_at program l l1 (kind ∷ kinds) to g1 at in (
                  (λ regional. kinds_named program l1 line at1.element kind kinds to w1 at1.pointer at1.stands s1),
                  goes_on program l1 Nothing (λ u w2. MoveMeets line kinds from1 to1 w2) (source.store line to (R.kept_cell kind v) w1) (stores v l1 w1 g1 s1 q) (λ u l2 w2 g2 s2 r. (rest v l2 w2 (grows_on l l1 l2 g1 g2) s2).0),
                )),
          ),
          keeps_then program l (λ l1 v. CellSuits l1 kind v) (λ l1 t1. Unit {0}) (source.load line from w) (λ v w1. bind (source.store line to (R.kept_cell kind v) w1) (λ _ w2. R.cells_moved source deleting locals line z kinds from1 to1 (R.with_cell kind t z v) w2)) loads (λ v l1 w1 g1 s1 q.
              keeps_then program l1 Nothing (λ l2 t1. Unit {0}) (source.store line to (R.kept_cell kind v) w1) (λ _ w2. R.cells_moved source deleting locals line z kinds from1 to1 (R.with_cell kind t z v) w2) (stores v l1 w1 g1 s1 q) (λ u l2 w2 g2 s2 r. (rest v l2 w2 (grows_on l l1 l2 g1 g2) s2).1)),
        )

    record Pair (left right : Ty) (k : ℕ) (l : Ledger) (t : Temporaries) : Type 0 where
      first : IsPointer l left (t.regions 0)
      second : IsPointer l right (t.regions k)

    copy_holds : (line s : ℕ) (left right : Place) → IsPlace program locals left (struct s) → IsPlace program locals right (struct s) → (ways : Ways) → CodeHeld (statement_code program f (copy line s left right)) ways
    copy_holds line s left right hl hr ways =
        let a = access program locals left in
        let b = access program locals right in
        let kinds = cells program.structs (struct s) in
        simple_holds (λ t. Pair a.element b.element (width a)) (both (place_code program locals line left 0) (place_code program locals line right (width a))) (To.move line kinds a b) ways
        (λ l env t w own suits.
        fine_both l (Pointed a.element 0 t) (Pair a.element b.element (width a)) (place_code program locals line left 0) (place_code program locals line right (width a)) _ env t w (place_fine line left (struct s) hl 0 _ env t w l own suits) (λ t1 l1 w1 g1 s1 p1.
        fine_more l1 (Pointed b.element (width a) t1) (Pair a.element b.element (width a)) (place_code program locals line right (width a)) _ env t1 w1 (place_fine line right (struct s) hr (width a) _ env t1 w1 l1 (stays l l1 env g1 own) s1) (λ t2 l2 g2 p2.
        record { first = subst (IsPointer l2 a.element) (sym (p2.lower.regions 0 (omega arith))) (still_suits l1 l2 g2 (pointer Plain a.element) (t1.regions 0) p1.pointer); second = p2.pointer })))
        (λ l1 env t t1 w1 own s1 p.
        let q = move_holds line (width a + width b) kinds l1 (target_at b t1 (width a)) (target_at a t1 0) t1 w1 (aims_at program l1 (struct s) (target_at b t1 (width a)) (place_aims program well locals right (struct s) hr l1 t1 (width a) p.second)) (aims_at program l1 (struct s) (target_at a t1 0) (place_aims program well locals left (struct s) hl l1 t1 0 p.first)) s1 in
        (q.0, keeps_then program l1 (λ l2 t2. Unit {0}) WaySuits _ (λ t2 w2. Go (R.Next env t2) w2) q.1 (λ t2 l2 w2 g2 s2 r. keeps_here program l2 WaySuits (R.Next env t2) w2 s2 (stays l1 l2 env g2 own))))

    -- a value that is let go
    dropped_holds : (e : Expr) (u : Ty) → HasType program locals e u → (ways : Ways) → CodeHeld (To.simple (code e (found e) 0) To.drop) ways
    dropped_holds e u he ways =
        simple_holds (Stands_at (found e) u 0) (code e (found e) 0) To.drop ways (λ l env t w own suits. expression_fine e u he (found e) 0 (kind_found program locals e u he) _ env t w l own suits) (λ l1 env t t1 w1 own s p. (tt, keeps_here program l1 WaySuits (R.Next env t1) w1 s own))

    perform_holds : (line k : ℕ) (es : Arguments) (callee : Function) → slice_get program.functions k ≡ Some callee → AreArguments program locals es (parameters_of callee) → (ways : Ways) → CodeHeld (To.simple (arguments_code program locals es (parameter_types program k) 0) (To.perform line k (argument_types program locals es (parameter_types program k)))) ways
    perform_holds line k es callee e ha ways =
        let tys = parameters_of callee in
        subst (λ ts. CodeHeld (To.simple (arguments_code program locals es ts 0) (To.perform line k (argument_types program locals es ts))) ways) (sym (ap types_in e))
        (subst (λ us. CodeHeld (To.simple (arguments_code program locals es tys 0) (To.perform line k us)) ways) (sym (arguments_same es tys ha))
        (simple_holds (Argued tys 0) (arguments_code program locals es tys 0) (To.perform line k tys) ways (λ l env t w own suits. arguments_fine es tys ha 0 _ env t w l own suits) (λ l1 env t t1 w1 own s p.
        let q = call_fine line 0 k callee ways.next env t1 w1 l1 e own s p.all in
        (q.0, keeps_then program l1 (ResultSuits callee.result) WaySuits (operation_value source deleting locals line (To.call k tys) calls ways.next env t1 0 w1) (λ _ w2. Go (R.Next env t1) w2) q.1 (λ v l2 w2 g2 s2 r. keeps_here program l2 WaySuits (R.Next env t1) w2 s2 (stays l1 l2 env g2 own))))))

    abbrev gives_in : Option Function → Bool
    gives_in None = true
    gives_in (Some h) = is_some h.result

    evaluate_holds : (line : ℕ) (e : Expr) → Runs program locals e → (ways : Ways) → CodeHeld (evaluate_code program locals line e) ways
    evaluate_holds line (call own k es) h ways = by (has_result program k) refl
      where
        typed : (o : Option Ty) → is_some o ≡ true → (u : Ty) × (option_map value_type o ≡ Some u)
        typed None e = cc
        typed (Some u) e = (value_type u, refl)

        by : (b : Bool) → has_result program k ≡ b → CodeHeld (Rattle.rc_translation.specs.Translation.one_of b (To.simple (whole program locals (call own k es)) To.drop) (To.simple (arguments_code program locals es (parameter_types program k) 0) (To.perform own k (argument_types program locals es (parameter_types program k))))) ways
        by true e = let q = typed h.0.result (sym (ap gives_in h.1.0) ∙ e) in dropped_holds (call own k es) q.0 (h.0, (h.1.0, q.1, h.1.1)) ways
        by false e = perform_holds own k es h.0 h.1.0 h.1.1 ways
    evaluate_holds line (constant own s n) h ways = dropped_holds (constant own s n) h.1.0 h.1.1 ways
    evaluate_holds line (null own) h ways = dropped_holds (null own) h.1.0 h.1.1 ways
    evaluate_holds line (string own k) h ways = dropped_holds (string own k) h.1.0 h.1.1 ways
    evaluate_holds line (local own x) h ways = dropped_holds (local own x) h.1.0 h.1.1 ways
    evaluate_holds line (read own place) h ways = dropped_holds (read own place) h.1.0 h.1.1 ways
    evaluate_holds line (address own g) h ways = dropped_holds (address own g) h.1.0 h.1.1 ways
    evaluate_holds line (step own d p i) h ways = dropped_holds (step own d p i) h.1.0 h.1.1 ways
    evaluate_holds line (step_from own i p) h ways = dropped_holds (step_from own i p) h.1.0 h.1.1 ways
    evaluate_holds line (unary own o s a) h ways = dropped_holds (unary own o s a) h.1.0 h.1.1 ways
    evaluate_holds line (binary own o s a b) h ways = dropped_holds (binary own o s a b) h.1.0 h.1.1 ways
    evaluate_holds line (convert own from to a) h ways = dropped_holds (convert own from to a) h.1.0 h.1.1 ways
    evaluate_holds line (not_zero own a) h ways = dropped_holds (not_zero own a) h.1.0 h.1.1 ways
    evaluate_holds line (and own a b) h ways = dropped_holds (and own a b) h.1.0 h.1.1 ways
    evaluate_holds line (or own a b) h ways = dropped_holds (or own a b) h.1.0 h.1.1 ways
    evaluate_holds line (choose own c a b) h ways = dropped_holds (choose own c a b) h.1.0 h.1.1 ways
    evaluate_holds line (is_null own is a) h ways = dropped_holds (is_null own is a) h.1.0 h.1.1 ways
    evaluate_holds line (same own is a b) h ways = dropped_holds (same own is a b) h.1.0 h.1.1 ways
    evaluate_holds line (new_region own) h ways = dropped_holds (new_region own) h.1.0 h.1.1 ways
    evaluate_holds line (new_subregion own a) h ways = dropped_holds (new_subregion own a) h.1.0 h.1.1 ways
    evaluate_holds line (region_of own a) h ways = dropped_holds (region_of own a) h.1.0 h.1.1 ways
    evaluate_holds line (allocate own a made) h ways = dropped_holds (allocate own a made) h.1.0 h.1.1 ways
    evaluate_holds line (allocate_array own a b made) h ways = dropped_holds (allocate_array own a b made) h.1.0 h.1.1 ways
    evaluate_holds line (putchar own a) h ways = dropped_holds (putchar own a) h.1.0 h.1.1 ways
    evaluate_holds line (getchar own) h ways = dropped_holds (getchar own) h.1.0 h.1.1 ways

    -- conditions
    abbrev Tested : Option Test → Ledger → Temporaries → Type 0
    Tested test l t = OptionMeets test t

    abbrev Heads : Steps → Option Test → Type 0
    Heads x test = (live : ℕ → Bool) (l : Ledger) (env : List Value) (t : Temporaries) (w : World) → Own l env → WorldSuits program l w → Fine l (Tested test) x live env t w

    tested_fine : (e : Expr) (u : Ty) → HasType program locals e u → (test : Test) → test.ty ≡ found e → Heads (whole program locals e) (Some test)
    tested_fine e u he test alike live l env t w own suits =
        fine_more l (Stands_at (found e) u 0 t) (Tested (Some test)) (code e (found e) 0) live env t w (expression_fine e u he (found e) 0 (kind_found program locals e u he) live env t w l own suits) (λ t1 l1 g p reg.
        let k : kind_of (found e) ≡ regional = ap kind_of (sym alike) ∙ regional_kind test.ty reg in
        no_number l1 u (t1.regions 0) (sym (kind_found program locals e u he) ∙ k) (by_kind regional (found e) u 0 l1 t1 k p.value))

    whole_fine : (line : ℕ) (wanted : Bool) (e : Expr) (u : Ty) → HasType program locals e u → Heads (whole program locals e) (Some (record { line = line; ty = found e; wanted = wanted }))
    whole_fine line wanted e u he = tested_fine e u he (record { line = line; ty = found e; wanted = wanted }) refl

    number_there : (e : Expr) (k : NumberType) → HasType program locals e (number k) → NotNull e
    number_there e Int he = number_not_null program locals e Signed _ refl he
    number_there e Unsigned he = number_not_null program locals e Wrapping _ refl he
    number_there e Char he = char_not_null program locals e he

    condition_fine : (line : ℕ) (wanted : Bool) (e : Expr) → IsValue program locals e → Heads (condition_code program locals e) (Some (condition_test program locals line wanted e))
    condition_fine line wanted (not_zero own e) v = condition_fine line (not wanted) e (number_there e v.1.1.1.0 v.1.1.1.1, (number v.1.1.1.0, v.1.1.1.1))
    condition_fine line wanted (is_null own isnull e) v = tested_fine e v.1.1.2.0 v.1.1.2.1.1 (condition_test program locals line wanted (is_null own isnull e)) refl
    condition_fine line wanted (constant own s n) v = whole_fine line wanted (constant own s n) v.1.0 v.1.1
    condition_fine line wanted (null own) v = whole_fine line wanted (null own) v.1.0 v.1.1
    condition_fine line wanted (string own k) v = whole_fine line wanted (string own k) v.1.0 v.1.1
    condition_fine line wanted (local own x) v = whole_fine line wanted (local own x) v.1.0 v.1.1
    condition_fine line wanted (read own place) v = whole_fine line wanted (read own place) v.1.0 v.1.1
    condition_fine line wanted (address own g) v = whole_fine line wanted (address own g) v.1.0 v.1.1
    condition_fine line wanted (step own d p i) v = whole_fine line wanted (step own d p i) v.1.0 v.1.1
    condition_fine line wanted (step_from own i p) v = whole_fine line wanted (step_from own i p) v.1.0 v.1.1
    condition_fine line wanted (unary own o s a) v = whole_fine line wanted (unary own o s a) v.1.0 v.1.1
    condition_fine line wanted (binary own o s a b) v = whole_fine line wanted (binary own o s a b) v.1.0 v.1.1
    condition_fine line wanted (convert own from to a) v = whole_fine line wanted (convert own from to a) v.1.0 v.1.1
    condition_fine line wanted (and own a b) v = whole_fine line wanted (and own a b) v.1.0 v.1.1
    condition_fine line wanted (or own a b) v = whole_fine line wanted (or own a b) v.1.0 v.1.1
    condition_fine line wanted (choose own c a b) v = whole_fine line wanted (choose own c a b) v.1.0 v.1.1
    condition_fine line wanted (same own is a b) v = whole_fine line wanted (same own is a b) v.1.0 v.1.1
    condition_fine line wanted (new_region own) v = whole_fine line wanted (new_region own) v.1.0 v.1.1
    condition_fine line wanted (new_subregion own a) v = whole_fine line wanted (new_subregion own a) v.1.0 v.1.1
    condition_fine line wanted (region_of own a) v = whole_fine line wanted (region_of own a) v.1.0 v.1.1
    condition_fine line wanted (allocate own a made) v = whole_fine line wanted (allocate own a made) v.1.0 v.1.1
    condition_fine line wanted (allocate_array own a b made) v = whole_fine line wanted (allocate_array own a b made) v.1.0 v.1.1
    condition_fine line wanted (putchar own a) v = whole_fine line wanted (putchar own a) v.1.0 v.1.1
    condition_fine line wanted (getchar own) v = whole_fine line wanted (getchar own) v.1.0 v.1.1
    condition_fine line wanted (call own g es) v = whole_fine line wanted (call own g es) v.1.0 v.1.1

    optional_fine : (line : ℕ) (test : Option Expr) → IfSome test (IsValue program locals) → Heads (optional_condition program locals test) (option_map (condition_test program locals line true) test)
    optional_fine line None v live l env t w own suits = record { meets = tt; keeps = keeps_here program l (Tested None) t w suits tt }
    optional_fine line (Some e) v live l env t w own suits = condition_fine line true e v live l env t w own suits

    -- a head, and what comes by its test
    head_holds : (x : Steps) (test : Option Test) (live : ℕ → Bool) (T N : Goal) (go_yes go_no : Going) → Heads x test → Held T go_yes → Held N go_no
        → Held (λ env t w. HeadMeets deleting fr calls inside x test live T N env t w) (λ env t w. bind (run x live env t w) (λ t1. branching (test_value test t1) (go_yes env t1) (go_no env t1)))
    head_holds x test live T N go_yes go_no hx ht hn l env t w own suits =
        let q = hx live l env t w own suits in (
          (
            q.meets,
            goes_on program l (Tested test) (λ t1 w1. OptionMeets test t1 × (test_value test t1 ≡ true → T env t1 w1) × (test_value test t1 ≡ false → N env t1 w1)) (run x live env t w) q.keeps (λ t1 l1 w1 g s p.
                (p, (λ e. (ht l1 env t1 w1 (stays l l1 env g own) s).0), (λ e. (hn l1 env t1 w1 (stays l l1 env g own) s).0))),
          ),
          keeps_then program l (Tested test) WaySuits (run x live env t w) (λ t1. branching (test_value test t1) (go_yes env t1) (go_no env t1)) q.keeps (λ t1 l1 w1 g s p.
              keeps_branching program l1 WaySuits (test_value test t1) (go_yes env t1) (go_no env t1) w1 (ht l1 env t1 w1 (stays l l1 env g own) s).1 (hn l1 env t1 w1 (stays l l1 env g own) s).1),
        )

    goes_next : Held (nothing_more deleting fr calls inside) (λ env t w. Go (R.Next env t) w)
    goes_next l env t w own suits = (tt, keeps_here program l WaySuits (R.Next env t) w suits own)

    behind_holds : (M : Goal) (go : Going) → Held M go → (way : Way) (l : Ledger) (w : World) → WaySuits l way → WorldSuits program l w → behind_meets M way w × Keeps program l WaySuits (R.behind go way w)
    behind_holds M go h (R.Next env t) l w s suits = h l env t w s suits
    behind_holds M go h (R.Broke env t) l w s suits = (tt, keeps_here program l WaySuits (R.Broke env t) w suits s)
    behind_holds M go h (R.Continued env t) l w s suits = (tt, keeps_here program l WaySuits (R.Continued env t) w suits s)
    behind_holds M go h (R.Returned v) l w s suits = (tt, keeps_here program l WaySuits (R.Returned v) w suits s)

    round_holds : (M : Goal) (go : Going) → Held M go → (way : Way) (l : Ledger) (w : World) → WaySuits l way → WorldSuits program l w → body_meets M way w × Keeps program l WaySuits (R.behind_body go way w)
    round_holds M go h (R.Next env t) l w s suits = h l env t w s suits
    round_holds M go h (R.Broke env t) l w s suits = (tt, keeps_here program l WaySuits (R.Next env t) w suits s)
    round_holds M go h (R.Continued env t) l w s suits = h l env t w s suits
    round_holds M go h (R.Returned v) l w s suits = (tt, keeps_here program l WaySuits (R.Returned v) w suits s)

    -- code, and what comes behind it
    code_then : (x : To.Code) (ways : Ways) (M : Goal) (go : Going) → CodeHeld x ways → Held M go → Held (λ env t w. CodeMeets deleting fr calls inside x ways env t w × IfGoes (behind_meets M) (code_run source deleting locals x calls ways env t w)) (λ env t w. bind (code_run source deleting locals x calls ways env t w) (R.behind go))
    code_then x ways M go hx h l env t w own suits =
        let q = hx l env t w own suits in
        let m = code_run source deleting locals x calls ways env t w in
        ((q.0, goes_on program l WaySuits (behind_meets M) m q.1 (λ way l1 w1 g s p. (behind_holds M go h way l1 w1 p s).0)), keeps_then program l WaySuits WaySuits m (R.behind go) q.1 (λ way l1 w1 g s p. (behind_holds M go h way l1 w1 p s).1))

    body_then : (x : To.Code) (ways : Ways) (M : Goal) (go : Going) → CodeHeld x ways → Held M go → Held (λ env t w. CodeMeets deleting fr calls inside x ways env t w × IfGoes (body_meets M) (code_run source deleting locals x calls ways env t w)) (λ env t w. bind (code_run source deleting locals x calls ways env t w) (R.behind_body go))
    body_then x ways M go hx h l env t w own suits =
        let q = hx l env t w own suits in
        let m = code_run source deleting locals x calls ways env t w in
        ((q.0, goes_on program l WaySuits (body_meets M) m q.1 (λ way l1 w1 g s p. (round_holds M go h way l1 w1 p s).0)), keeps_then program l WaySuits WaySuits m (R.behind_body go) q.1 (λ way l1 w1 g s p. (round_holds M go h way l1 w1 p s).1))

    -- a turn, and then the next round
    turn_then : (M : Goal) (go : Going) → Held M go → Held (λ env t w. IfGoes (λ _ w1. M env t w1) (source.take_turn w)) (λ env t w. bind (source.take_turn w) (λ _ w1. go env t w1))
    turn_then M go h l env t w own suits =
        let q = turn_keeps program l w suits in
        (goes_on program l Nothing (λ _ w1. M env t w1) (source.take_turn w) q (λ u l1 w1 g s p. (h l1 env t w1 (stays l l1 env g own) s).0), keeps_then program l Nothing WaySuits (source.take_turn w) (λ _ w1. go env t w1) q (λ u l1 w1 g s p. (h l1 env t w1 (stays l l1 env g own) s).1))

    rounds_hold : (Round : Goal → Goal) (head : List Value → Temporaries → World → Run World Temporaries) (test : Option Test) (body : Going → Going)
        → ((M : Goal) (again : Going) → Held M again → Held (Round M) (λ env t w. bind (head env t w) (λ t1. branching (test_value test t1) (body again env t1) (Go (R.Next env t1)))))
        → (m : ℕ) → Held (RoundsMeet m Round) (R.rounds source deleting locals m head test body)
    rounds_hold Round head test body k zero l env t w own suits = (tt, record { holds = tt })
    rounds_hold Round head test body k (suc m) l env t w own suits =
        k (λ env2 t2 w2. IfGoes (λ _ w3. RoundsMeet m Round env2 t2 w3) (source.take_turn w2)) (λ env2 t2 w2. bind (source.take_turn w2) (λ _ w3. R.rounds source deleting locals m head test body env2 t2 w3))
        (turn_then (RoundsMeet m Round) (R.rounds source deleting locals m head test body) (rounds_hold Round head test body k m)) l env t w own suits

    rounds_first_hold : (Round : Goal → Goal) (tail : List Value → Temporaries → World → Run World Temporaries) (test : Option Test) (body : Going → Going)
        → ((M : Goal) (again : Going) → Held M again → Held (Round M) (body (λ env1 t1 w1. bind (tail env1 t1 w1) (λ t2. branching (test_value test t2) (again env1 t2) (Go (R.Next env1 t2))))))
        → (m : ℕ) → Held (RoundsMeet m Round) (R.rounds_first source deleting locals m tail test body)
    rounds_first_hold Round tail test body k zero l env t w own suits = (tt, record { holds = tt })
    rounds_first_hold Round tail test body k (suc m) l env t w own suits =
        k (λ env2 t2 w2. IfGoes (λ _ w3. RoundsMeet m Round env2 t2 w3) (source.take_turn w2)) (λ env2 t2 w2. bind (source.take_turn w2) (λ _ w3. R.rounds_first source deleting locals m tail test body env2 t2 w3))
        (turn_then (RoundsMeet m Round) (R.rounds_first source deleting locals m tail test body) (rounds_first_hold Round tail test body k m)) l env t w own suits

    loop_holds : (line : ℕ) (x : Steps) (test : Option Test) (third a : To.Code) (ways : Ways) → Heads x test → ((k : Ways) → CodeHeld third k) → ((k : Ways) → CodeHeld a k) → CodeHeld (To.loop line x test third a) ways
    loop_holds line x test third a ways hx h3 ha l env t w own suits =
        let ways2 : Ways = then_live (loop_head x test third a ways) ways in
        let ways1 : Ways = round (before_code third ways2) ways in
        let live : ℕ → Bool = λ y. (is_some test && ways.next y) || before_code a ways1 y in
        let Third : Goal → Goal = λ M env3 t3 w3. CodeMeets deleting fr calls inside third ways2 env3 t3 w3 × IfGoes (behind_meets M) (code_run source deleting locals third calls ways2 env3 t3 w3) in
        let Inner : Goal → Goal = λ M env2 t2 w2. CodeMeets deleting fr calls inside a ways1 env2 t2 w2 × IfGoes (body_meets (Third M)) (code_run source deleting locals a calls ways1 env2 t2 w2) in
        let third_go : Going → Going = λ again env2 t2 w2. bind (code_run source deleting locals third calls ways2 env2 t2 w2) (R.behind again) in
        let body : Going → Going = λ again env1 t1 w1. bind (code_run source deleting locals a calls ways1 env1 t1 w1) (R.behind_body (third_go again)) in
        let held : (m : ℕ) → Held (RoundsMeet m _) (R.rounds source deleting locals m (λ env1 t1 w1. run x live env1 t1 w1) test body) = rounds_hold (λ M env1 t1 w1. HeadMeets deleting fr calls inside x test live (Inner M) (nothing_more deleting fr calls inside) env1 t1 w1) (λ env1 t1 w1. run x live env1 t1 w1) test body
        (λ M again h. head_holds x test live (Inner M) (nothing_more deleting fr calls inside) (body again) (λ env1 t1 w1. Go (R.Next env1 t1) w1) hx
        (body_then a ways1 (Third M) (third_go again) (ha ways1) (code_then third ways2 M again (h3 ways2) h)) goes_next) in
        ((λ m. (held m l env t w own suits).0), (held (suc (source.turns_left w)) l env t w own suits).1)

    repeat_holds : (line : ℕ) (a : To.Code) (x : Steps) (test : Test) (ways : Ways) → Heads x (Some test) → ((k : Ways) → CodeHeld a k) → CodeHeld (To.repeat line a x test) ways
    repeat_holds line a x test ways hx ha l env t w own suits =
        let live : ℕ → Bool = λ y. ways.next y || before_code (To.repeat 0 a x test) ways y in
        let ways1 : Ways = round (repeat_tail a x test ways) ways in
        let Met : Goal → Goal = λ M env2 t2 w2. HeadMeets deleting fr calls inside x (Some test) live M (nothing_more deleting fr calls inside) env2 t2 w2 in
        let held : (m : ℕ) → Held (RoundsMeet m _) (R.rounds_first source deleting locals m (λ env1 t1 w1. run x live env1 t1 w1) (Some test) _) = rounds_first_hold (λ M env1 t1 w1. CodeMeets deleting fr calls inside a ways1 env1 t1 w1 × IfGoes (body_meets (Met M)) (code_run source deleting locals a calls ways1 env1 t1 w1)) (λ env1 t1 w1. run x live env1 t1 w1) (Some test)
        (λ again env1 t1 w1. bind (code_run source deleting locals a calls ways1 env1 t1 w1) (R.behind_body again))
        (λ M again h. body_then a ways1 (Met M) (λ env1 t1 w1. bind (run x live env1 t1 w1) (λ t2. branching (test_value (Some test) t2) (again env1 t2) (Go (R.Next env1 t2)))) (ha ways1)
        (head_holds x (Some test) live M (nothing_more deleting fr calls inside) again (λ env1 t1 w1. Go (R.Next env1 t1) w1) hx h goes_next)) in
        ((λ m. (held m l env t w own suits).0), (held (suc (source.turns_left w)) l env t w own suits).1)

    block_holds : (x : To.Codes) (ways : Ways) → CodesHeld x ways → CodeHeld (To.block x) ways
    block_holds x ways h l env t w own suits = h l env t w own suits

    done_holds : (ways : Ways) → CodesHeld To.done ways
    done_holds ways l env t w own suits = (tt, keeps_here program l WaySuits (R.Next env t) w suits own)

    then_holds : (x : To.Code) (rest : To.Codes) (ways : Ways) → ((k : Ways) → CodeHeld x k) → CodesHeld rest ways → CodesHeld (To.then x rest) ways
    then_holds x rest ways hx h l env t w own suits = code_then x (then_live (before_codes rest ways) ways) (λ env1 t1 w1. CodesMeet deleting fr calls inside rest ways env1 t1 w1) (codes_run source deleting locals rest calls ways) (hx (then_live (before_codes rest ways) ways)) h l env t w own suits

    returned_holds : (line : ℕ) (e : Expr) (rt : Ty) → f.result ≡ Some rt → HasType program locals e (value_type rt) → (ways : Ways) → CodeHeld (To.simple (code e (returned_type f.result) 0) (To.leave line (option_map value_type f.result))) ways
    returned_holds line e rt er he ways =
        subst (λ o. CodeHeld (To.simple (code e (returned_type o) 0) (To.leave line (option_map value_type o))) ways) (sym er)
        (simple_holds (Stands_at (value_type rt) (value_type rt) 0) (code e (value_type rt) 0) (To.leave line (Some (value_type rt))) ways (λ l env t w own suits. expression_fine e (value_type rt) he (value_type rt) 0 refl _ env t w l own suits)
        (λ l1 env t t1 w1 own s p. (tt, keeps_here program l1 WaySuits (R.Returned (temporary (value_type rt) t1 0)) w1 s (subst (λ o. ResultSuits o l1 (temporary (value_type rt) t1 0)) (sym er) (suits_value l1 rt (temporary (value_type rt) t1 0) p.value)))))

    mutual
      pub statement_holds : (loop : Bool) (s : Stmt) → IsTyped program f loop s → (ways : Ways) → CodeHeld (statement_code program f s) ways
      statement_holds loop (block body) h ways = block_holds (body_code program f body) ways (statements_hold loop body h ways)
      statement_holds loop (declare line x None) h ways = λ l env t w own suits.
          let alike = get_or_from_slice_get locals x h.0 int h.1.0 in
          (tt, keeps_here program l WaySuits (R.Next (with_local env x (zero_of (local_type f x))) t) w suits (set_suits l locals env x h.0 (zero_of (local_type f x)) h.1.0 (subst (λ ty. Suits l h.0 (zero_of ty)) (sym alike) (zero_suits l h.0 (variable x h.0 h.1.0))) own))
      statement_holds loop (declare line x (Some e)) h ways = set_holds line x h.0 (local_type f x) e ways h.1.0 (get_or_from_slice_get locals x h.0 int h.1.0) h.1.1
      statement_holds loop (assign line x e) h ways = set_holds line x h.0 (local_type f x) e ways h.1.0 (get_or_from_slice_get locals x h.0 int h.1.0) h.1.1
      statement_holds loop (store line place e) h ways = store_holds line place h.0 h.1.0 h.1.1 e h.1.2 ways
      statement_holds loop (update line place change e) h ways = update_holds line place h.0 h.1.0 change e h.1.1 ways
      statement_holds loop (copy line s left right) h ways = copy_holds line s left right h.0 h.1 ways
      statement_holds loop (evaluate line e) h ways = evaluate_holds line e h ways
      statement_holds loop (delete line e) h ways =
          simple_holds (Stands_at region region 0) (code e region 0) (To.delete line) ways (λ l env t w own suits. expression_fine e region h region 0 refl _ env t w l own suits)
          (λ l1 env t t1 w1 own s p. (tt, then_on l1 env t1 _ own (delete_keeps program l1 line (R.held source deleting locals ways.next env) (t1.regions 0) w1 p.value s)))
      statement_holds loop (branch line test a b) h ways =
          head_holds (condition_code program locals test) (Some (condition_test program locals line true test)) (λ y. before_code (statement_code program f a) ways y || before_code (statement_code program f b) ways y) (λ env t w. CodeMeets deleting fr calls inside (statement_code program f a) ways env t w) (λ env t w. CodeMeets deleting fr calls inside (statement_code program f b) ways env t w)
          (λ env t w. code_run source deleting locals (statement_code program f a) calls ways env t w) (λ env t w. code_run source deleting locals (statement_code program f b) calls ways env t w)
          (condition_fine line true test h.0) (statement_holds loop a h.1 ways) (statement_holds loop b h.2 ways)
      statement_holds loop (while line test a) h ways =
          loop_holds line (condition_code program locals test) (Some (condition_test program locals line true test)) (To.block To.done) (statement_code program f a) ways (condition_fine line true test h.0) (λ k. block_holds To.done k (done_holds k)) (λ k. statement_holds true a h.1 k)
      statement_holds loop (repeat line a test) h ways = repeat_holds line (statement_code program f a) (condition_code program locals test) (condition_test program locals line true test) ways (condition_fine line true test h.1) (λ k. statement_holds true a h.0 k)
      statement_holds loop (for line first test third a) h ways =
          let x = To.loop line (optional_condition program locals test) (option_map (condition_test program locals line true) test) (statement_code program f third) (statement_code program f a) in
          block_holds (To.then (statement_code program f first) (To.then x To.done)) ways
          (then_holds (statement_code program f first) (To.then x To.done) ways (λ k. statement_holds loop first h.0 k)
          (then_holds x To.done ways (λ k. loop_holds line (optional_condition program locals test) (option_map (condition_test program locals line true) test) (statement_code program f third) (statement_code program f a) k (optional_fine line test h.1) (λ k1. statement_holds loop third h.2 k1) (λ k1. statement_holds true a h.3 k1)) (done_holds ways)))
      statement_holds loop (break line) h ways = λ l env t w own suits. (tt, keeps_here program l WaySuits (R.Broke env t) w suits own)
      statement_holds loop (continue line) h ways = λ l env t w own suits. (tt, keeps_here program l WaySuits (R.Continued env t) w suits own)
      statement_holds loop (return line None) h ways = λ l env t w own suits. ((tt, tt), keeps_here program l WaySuits (R.Returned Null) w suits (subst (λ o. ResultSuits o l Null) (sym h) tt))
      statement_holds loop (return line (Some e)) h ways = returned_holds line e h.0 h.1.0 h.1.1 ways

      statements_hold : (loop : Bool) (body : Stmts) → AreTyped program f loop body → (ways : Ways) → CodesHeld (body_code program f body) ways
      statements_hold loop done h ways = done_holds ways
      statements_hold loop (then s rest) h ways = then_holds (statement_code program f s) (body_code program f rest) ways (λ k. statement_holds loop s h.0 k) (statements_hold loop rest h.1 ways)

    -- a whole call of the function
    ending_keeps : (way : Way) (l : Ledger) (w : World) → WaySuits l way → WorldSuits program l w → Keeps program l (ResultSuits f.result) (R.result_of f.result way w)
    ending_keeps (R.Next env t) l w s suits = keeps_here program l (ResultSuits f.result) (zero_result f.result) w suits (zero_of_result program l f.result (well.functions g f is_there).result)
    ending_keeps (R.Broke env t) l w s suits = keeps_here program l (ResultSuits f.result) (zero_result f.result) w suits (zero_of_result program l f.result (well.functions g f is_there).result)
    ending_keeps (R.Continued env t) l w s suits = keeps_here program l (ResultSuits f.result) (zero_result f.result) w suits (zero_of_result program l f.result (well.functions g f is_there).result)
    ending_keeps (R.Returned v) l w s suits = keeps_here program l (ResultSuits f.result) v w suits s

    pub routine_holds : (xs : List Value) (l : Ledger) (w : World) → AllSuit l (parameters_of f) xs → WorldSuits program l w → RoutineMeets deleting fr calls inside xs w × Keeps program l (ResultSuits f.result) (R.run_routine source deleting calls (Some fr) xs w)
    routine_holds xs l w all suits =
        let q = statement_holds false f.body (well.functions g f is_there).body at_end l (R.sized locals xs) R.blank_temporaries w (sized_suits l f.parameters locals xs variable all) suits in
        (q.0, keeps_then program l WaySuits (ResultSuits f.result) (code_run source deleting locals (statement_code program f f.body) calls at_end (R.sized locals xs) R.blank_temporaries w) (R.result_of f.result) q.1 (λ way l1 w1 g1 s1 p. ending_keeps way l1 w1 p s1))

-- calls inside one another
module _ (program : Program) (well : IsWellTyped program) where
  abbrev r : Rlang
  r = region_of_program program

  abbrev CallsHold : ℕ → Type 0
  CallsHold m = (k : ℕ) (callee : Function) (xs : List Value) (l : Ledger) (w : World) → slice_get program.functions k ≡ Some callee → AllSuit l (parameters_of callee) xs → WorldSuits program l w → CallsMeet r m k xs w × Keeps program l (ResultSuits callee.result) (R.calls_within source r m k xs w)

  option_holds : (m : ℕ) → CallsHold m → (k : ℕ) (callee : Function) (xs : List Value) (l : Ledger) (w : World) → slice_get program.functions k ≡ Some callee → AllSuit l (parameters_of callee) xs → WorldSuits program l w
      → OptionRoutineMeets (R.deletes r) (slice_get r.functions k) (R.calls_within source r m) (CallsMeet r m) xs w × Keeps program l (ResultSuits callee.result) (R.run_routine source (R.deletes r) (R.calls_within source r m) (slice_get r.functions k) xs w)
  option_holds m before k callee xs l w e all suits =
      subst (λ o. OptionRoutineMeets (R.deletes r) o (R.calls_within source r m) (CallsMeet r m) xs w × Keeps program l (ResultSuits callee.result) (R.run_routine source (R.deletes r) (R.calls_within source r m) o xs w)) (sym (slice_get-map (routine_of program) program.functions k ∙ ap (option_map (routine_of program)) e))
      (routine_holds program well k callee e (R.deletes r) (R.calls_within source r m) (CallsMeet r m) before xs l w all suits)

  pub calls_hold : (m : ℕ) → CallsHold m
  calls_hold zero k callee xs l w e all suits = (tt, record { holds = tt })
  calls_hold (suc m) k callee xs l w e all suits =
      let q = turn_keeps program l w suits in
      let inner = λ (l1 : Ledger) (w1 : World) (g1 : Grows l l1) (s1 : WorldSuits program l1 w1). option_holds m (calls_hold m) k callee xs l1 w1 e (all_still_suit l l1 g1 (parameters_of callee) xs all) s1 in (
        goes_on program l Nothing (λ u w1. OptionRoutineMeets (R.deletes r) (slice_get r.functions k) (R.calls_within source r m) (CallsMeet r m) xs w1) (source.take_turn w) q (λ u l1 w1 g1 s1 p. (inner l1 w1 g1 s1).0),
        keeps_then program l Nothing (ResultSuits callee.result) (source.take_turn w) (λ _ w1. R.run_routine source (R.deletes r) (R.calls_within source r m) (slice_get r.functions k) xs w1) q (λ u l1 w1 g1 s1 p. (inner l1 w1 g1 s1).1),
      )
