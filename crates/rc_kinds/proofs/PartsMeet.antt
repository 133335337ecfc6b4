-- What a run comes to has a type where it stands, and what it is run with suits.
use Rattle.std.proofs.Common.{◌≡◌, ℕ, suc, Bool, true, false, List, [], ◌∷◌, take, slice_get, Option, Some, None, sym, ◌∙◌, subst, inl, inr}
use Rattle.std.specs.Prelude.{IfSome}
use Rattle.std.specs.List.{AllByRecursion as Every}
use Rattle.rc_base.specs.declared.ends.Limits.{Limits}
use Rattle.rc_core.specs.declared.ty.Note.TheVariants.{Plain}
use Rattle.rc_core.specs.Numbers.{IsByte}
use Rattle.rc_core.specs.Types.{Ty, int, region, struct, pointer}
use Rattle.rc_core.specs.Programs.{Expr, constant, null, string, local, read, address, step, step_from, unary, binary, convert, not_zero, and, or, choose, is_null, same, call, new_region, new_subregion, region_of, allocate, allocate_array, putchar, getchar, Arguments, none, more, Place, global, pointed, indexed, Path, here, field, element, Stmt, block, declare, assign, store, update, copy, evaluate, delete, branch, while, repeat, for, break, continue, return, Function, Program}
use Rattle.rc_core.specs.Heap.{Value}
use Rattle.rc_core.specs.Live.{Ways}
use Rattle.rc_core.specs.Runs.{Run, Go, Target}
use Rattle.rc_core.specs.Source.{World, source}
use Rattle.rc_core.specs.Execution.{Flow, Next, Broke, Continued, Returned, held, first_locals, deletes, calling, calls_within}
use Rattle.rc_core.specs.Typing.{number, arithmetic, value_type, parameters_of, HasType, AreArguments, IsPlace, LeadsTo, IsValue, IsTyped}
use Rattle.rc_core.specs.WellTyped.{IsWellTyped}
use Rattle.rc_core.specs.Meaning.{first_world}
use Rattle.rc_kinds.specs.Suits.{Ledger, Known, AllSuit, WorldSuits, first_ledger}
use Rattle.rc_kinds.specs.Kinds.{Of, FlowSuits}
use Rattle.rc_kinds.specs.Frames.{Frame, in_world, with_locals, value_in, values_in, target_in, flow_in, test_in, IsSuited}
use Rattle.rc_kinds.specs.Parts.{Part, Calling, indices, place_operands, operands, Evaluated, first_expression, first_place, then_expression, one_of, round_again, entered, Comes, at_main, at_body, at_call, at_operands, at_first_operand, at_next_operands, at_right_of_and, at_right_of_or, at_chosen, at_read_place, at_place_operands, at_block, at_first_statement, at_next_statements, at_expression, at_place, at_stored_value, at_copied_place, at_branch, at_while, at_while_test, at_while_body, behind_while_body, at_while_again, at_repeat, at_repeat_body, behind_repeat_body, at_repeat_test, at_repeat_again, at_for_first, at_for, at_for_test, at_for_body, behind_for_body, at_for_third, at_for_again, MayBeEvaluated, AllMayBeEvaluated, MeetsTypes}
use Rattle.rc_kinds.proofs.Grown.{all_still_suit}
use Rattle.rc_kinds.proofs.Kept.{Nothing, Keeps}
use Rattle.rc_kinds.proofs.Knowing.{went, still_known}
use Rattle.rc_kinds.proofs.Paths.{Aims}
use Rattle.rc_kinds.proofs.Operations.{turn_keeps, held_suit, enter_suits}
use Rattle.rc_kinds.proofs.Evaluations.{AllOf, eval_all_keeps}
use Rattle.rc_kinds.proofs.Locals.{first_suit, calling_keeps}
use Rattle.rc_kinds.proofs.Executions.{taken_has, value_keeps, ran_keeps, place_keeps, test_keeps, exec_keeps}
use Rattle.rc_kinds.proofs.Calls.{calls_keep}
use Rattle.rc_kinds.proofs.First.{first_world_suits}

module _ (program : Program) (locals : List Ty) where
  arguments_fit : (es : Arguments) (ts : List Ty) → AreArguments program locals es ts → AllMayBeEvaluated program locals es
  arguments_fit none [] h = tt
  arguments_fit none (t ∷ ts) h = absurd h
  arguments_fit (more e rest) [] h = absurd h
  arguments_fit (more e rest) (t ∷ ts) h = (inl (value_type t, h.0), arguments_fit rest ts h.1)

  typed_operands_fit : (e : Expr) (t : Ty) → HasType program locals e t → AllMayBeEvaluated program locals (operands e)
  typed_operands_fit (constant line s n) t h = tt
  typed_operands_fit (null line) t h = tt
  typed_operands_fit (string line k) t h = tt
  typed_operands_fit (local line x) t h = tt
  typed_operands_fit (read line place) t h = tt
  typed_operands_fit (address line g) t h = tt
  typed_operands_fit (step line direction p i) t h = (inl (t, h.2), (inl (arithmetic h.3.0, h.3.1), tt))
  typed_operands_fit (step_from line i p) t h = (inl (arithmetic h.3.0, h.3.1), (inl (t, h.2), tt))
  typed_operands_fit (unary line operator s e) t h = (inl (arithmetic s, h.1), tt)
  typed_operands_fit (binary line operator s a b) t h = (inl (arithmetic s, h.1), (inl (arithmetic h.2.0, h.2.1.1), tt))
  typed_operands_fit (convert line from to e) t h = (inl (number from, h.2), tt)
  typed_operands_fit (not_zero line e) t h = (inl (number h.1.0, h.1.1), tt)
  typed_operands_fit (and line a b) t h = (inl h.3, tt)
  typed_operands_fit (or line a b) t h = (inl h.3, tt)
  typed_operands_fit (choose line test a b) t h = (inl h.1, tt)
  typed_operands_fit (is_null line wanted e) t h = (inl (h.2.0, h.2.1.1), tt)
  typed_operands_fit (same line wanted a b) t h = (inl (h.3.0, h.3.1.1), (inl (h.3.0, h.3.1.2), tt))
  typed_operands_fit (call line f arguments) t h = arguments_fit arguments (parameters_of h.0) h.1.2
  typed_operands_fit (new_region line) t h = tt
  typed_operands_fit (new_subregion line r) t h = (inl (region, h.1), tt)
  typed_operands_fit (region_of line p) t h = (inl (h.2.0, h.2.1.1), tt)
  typed_operands_fit (allocate line r u) t h = (inl (region, h.2), tt)
  typed_operands_fit (allocate_array line r n u) t h = (inl (region, h.2), (inl (int, h.3), tt))
  typed_operands_fit (putchar line e) t h = (inl (int, h.1), tt)
  typed_operands_fit (getchar line) t h = tt

  operands_fit : (e : Expr) → MayBeEvaluated program locals e → AllMayBeEvaluated program locals (operands e)
  operands_fit e (inl h) = typed_operands_fit e h.0 h.1
  operands_fit (call line f arguments) (inr h) = arguments_fit arguments (parameters_of h.0) h.1.1
  operands_fit e (inr h) = typed_operands_fit e h.1.0 h.1.1

  indices_fit : (path : Path) (u t : Ty) → LeadsTo program locals path u t → AllMayBeEvaluated program locals (indices path)
  indices_fit here u t h = tt
  indices_fit (field s f rest) u t h = indices_fit rest h.1.0.ty t h.1.1.2
  indices_fit (element s f i rest) u t h = (inl (arithmetic h.1.1.2.0, h.1.1.2.1), indices_fit rest h.1.0.ty t h.1.1.3)

  place_operands_fit : (place : Place) (t : Ty) → IsPlace program locals place t → AllMayBeEvaluated program locals (place_operands place)
  place_operands_fit (global g path) t h = indices_fit path h.0.ty t h.1.2
  place_operands_fit (pointed p path) t h = (inl (pointer Plain h.1.0, h.1.1.0), indices_fit path h.1.0 t h.1.1.1)
  place_operands_fit (indexed p i path) t h = (inl (pointer Plain h.1.0, h.1.1.0), (inl (arithmetic h.1.1.1.0, h.1.1.1.1), indices_fit path h.1.0 t h.1.1.2))

  -- both sides and both choices may be evaluated, and what is read is a place
  right_of_and : (line : ℕ) (a b : Expr) → MayBeEvaluated program locals (and line a b) → MayBeEvaluated program locals b
  right_of_and line a b (inl h) = inl h.1.4
  right_of_and line a b (inr h) = inl h.1.1.4

  right_of_or : (line : ℕ) (a b : Expr) → MayBeEvaluated program locals (or line a b) → MayBeEvaluated program locals b
  right_of_or line a b (inl h) = inl h.1.4
  right_of_or line a b (inr h) = inl h.1.1.4

  chosen_fits : (line : ℕ) (test a b : Expr) (t : Ty) → HasType program locals (choose line test a b) t → (is : Bool) → MayBeEvaluated program locals (one_of is a b)
  chosen_fits line test a b t h true = inl (t, h.3)
  chosen_fits line test a b t h false = inl (t, h.4)

  one_chosen : (line : ℕ) (test a b : Expr) → MayBeEvaluated program locals (choose line test a b) → (is : Bool) → MayBeEvaluated program locals (one_of is a b)
  one_chosen line test a b (inl h) is = chosen_fits line test a b h.0 h.1 is
  one_chosen line test a b (inr h) is = chosen_fits line test a b h.1.0 h.1.1 is

  read_place : (line : ℕ) (place : Place) → MayBeEvaluated program locals (read line place) → (t : Ty) × IsPlace program locals place t
  read_place line place (inl h) = (h.1.0, h.1.1.0)
  read_place line place (inr h) = (h.1.1.0, h.1.1.1.0)

  -- the function that is called
  called_there : (line k : ℕ) (arguments : Arguments) → MayBeEvaluated program locals (call line k arguments) → (g : Function) × ((slice_get program.functions k ≡ Some g) × AreArguments program locals arguments (parameters_of g))
  called_there line k arguments (inl h) = (h.1.0, (h.1.1.0, h.1.1.2))
  called_there line k arguments (inr h) = (h.0, (h.1.0, h.1.1))

module _ (program : Program) (f : Function) (loop : Bool) where
  expression_fits : (s : Stmt) (k : Ways) (x : Evaluated) → IsTyped program f loop s → first_expression s k ≡ Some x → MayBeEvaluated program f.locals x.expression
  expression_fits (block body) k x h e = cc
  expression_fits (declare line y None) k x h e = cc
  expression_fits (declare line y (Some value)) k x h e = let q : value ≡ x.expression = cc in subst (MayBeEvaluated program f.locals) q (inl (value_type h.0, h.1.1))
  expression_fits (assign line y value) k x h e = let q : value ≡ x.expression = cc in subst (MayBeEvaluated program f.locals) q (inl (value_type h.0, h.1.1))
  expression_fits (store line place value) k x h e = cc
  expression_fits (update line place change value) k x h e = cc
  expression_fits (copy line s left right) k x h e = cc
  expression_fits (evaluate line value) k x h e = let q : value ≡ x.expression = cc in subst (MayBeEvaluated program f.locals) q (inr h)
  expression_fits (delete line value) k x h e = let q : value ≡ x.expression = cc in subst (MayBeEvaluated program f.locals) q (inl (region, h))
  expression_fits (branch line test a b) k x h e = let q : test ≡ x.expression = cc in subst (MayBeEvaluated program f.locals) q (inl h.0.1)
  expression_fits (while line test body) k x h e = cc
  expression_fits (repeat line body test) k x h e = cc
  expression_fits (for line first test third body) k x h e = cc
  expression_fits (break line) k x h e = cc
  expression_fits (continue line) k x h e = cc
  expression_fits (return line None) k x h e = cc
  expression_fits (return line (Some value)) k x h e = let q : value ≡ x.expression = cc in subst (MayBeEvaluated program f.locals) q (inl (value_type h.0, h.1.1))

  abbrev IsSomePlace : Place → Type 0
  IsSomePlace place = (t : Ty) × IsPlace program f.locals place t

  place_fits : (s : Stmt) (place : Place) → IsTyped program f loop s → first_place s ≡ Some place → IsSomePlace place
  place_fits (block body) place h e = cc
  place_fits (declare line y value) place h e = cc
  place_fits (assign line y value) place h e = cc
  place_fits (store line p value) place h e = let q : p ≡ place = cc in subst IsSomePlace q (h.0, h.1.0)
  place_fits (update line p change value) place h e = let q : p ≡ place = cc in subst IsSomePlace q (h.0, h.1.0)
  place_fits (copy line s left right) place h e = let q : left ≡ place = cc in subst IsSomePlace q (struct s, h.0)
  place_fits (evaluate line value) place h e = cc
  place_fits (delete line value) place h e = cc
  place_fits (branch line test a b) place h e = cc
  place_fits (while line test body) place h e = cc
  place_fits (repeat line body test) place h e = cc
  place_fits (for line first test third body) place h e = cc
  place_fits (break line) place h e = cc
  place_fits (continue line) place h e = cc
  place_fits (return line value) place h e = cc

  value_fits : (s : Stmt) (x : Expr) → IsTyped program f loop s → then_expression s ≡ Some x → MayBeEvaluated program f.locals x
  value_fits (block body) x h e = cc
  value_fits (declare line y value) x h e = cc
  value_fits (assign line y value) x h e = cc
  value_fits (store line place value) x h e = let q : value ≡ x = cc in subst (MayBeEvaluated program f.locals) q (inl (value_type h.0, h.1.2))
  value_fits (update line place change value) x h e = let q : value ≡ x = cc in subst (MayBeEvaluated program f.locals) q (inl (taken_has program f h.0 change value h.1.1))
  value_fits (copy line s left right) x h e = cc
  value_fits (evaluate line value) x h e = cc
  value_fits (delete line value) x h e = cc
  value_fits (branch line test a b) x h e = cc
  value_fits (while line test body) x h e = cc
  value_fits (repeat line body test) x h e = cc
  value_fits (for line first test third body) x h e = cc
  value_fits (break line) x h e = cc
  value_fits (continue line) x h e = cc
  value_fits (return line value) x h e = cc

  one_typed : (a b : Stmt) → IsTyped program f loop a → IsTyped program f loop b → (is : Bool) → IsTyped program f loop (one_of is a b)
  one_typed a b ha hb true = ha
  one_typed a b ha hb false = hb

-- behind what went on
module _ (program : Program) (well : IsWellTyped program) where
  behind_any : {A : Type 0} (at : Frame) (S : Ledger → A → Type 0) (m : Run World A) (x : A) (w : World) (s : IsSuited program at) → Keeps program s.known.ledger S m → m ≡ Go x w → IsSuited program (in_world at w)
  behind_any at S m x w s k e = record { number = s.number; there = s.there; known = still_known program at.function.locals at.locals at.world s.known S x w (went program s.known.ledger S m x w k e) }

  behind_value : (live : ℕ → Bool) (e : Expr) (at : Frame) (v : Value) (w : World) → IsSuited program at → MayBeEvaluated program at.function.locals e → value_in program live e at ≡ Go v w → IsSuited program (in_world at w)
  behind_value live e at v w s (inl h) q = behind_any at (Of h.0) _ v w s (value_keeps program well.structs at.function (well.functions s.number at.function s.there).locals (calls_within source program at.depth) (calls_keep program well at.depth) live e h.0 at.locals s.known.ledger at.world h.1 s.known.suit s.known.world) q
  behind_value live e at v w s (inr h) q = behind_any at Nothing _ v w s (ran_keeps program well.structs at.function (well.functions s.number at.function s.there).locals (calls_within source program at.depth) (calls_keep program well at.depth) live e at.locals s.known.ledger at.world h s.known.suit s.known.world) q

  behind_target : (live : ℕ → Bool) (place : Place) (t : Ty) (at : Frame) (target : Target) (w : World) → IsSuited program at → IsPlace program at.function.locals place t → target_in program live place at ≡ Go target w → IsSuited program (in_world at w)
  behind_target live place t at target w s h q = behind_any at (λ l tg. Aims program.structs l t tg) _ target w s (place_keeps program well.structs at.function (well.functions s.number at.function s.there).locals (calls_within source program at.depth) (calls_keep program well at.depth) live place t at.locals s.known.ledger at.world h s.known.suit s.known.world) q

  behind_turn : (at : Frame) (w : World) → IsSuited program at → source.take_turn at.world ≡ Go tt w → IsSuited program (in_world at w)
  behind_turn at w s q = behind_any at Nothing _ tt w s (turn_keeps program s.known.ledger at.world s.known.world) q

  -- a test of a loop, which may have none
  behind_test : (live : ℕ → Bool) (test : Option Expr) (at : Frame) (v : Value) (w : World) → IsSuited program at → IfSome test (IsValue program at.function.locals) → test_in program live test at ≡ Go v w → IsSuited program (in_world at w)
  behind_test live test at v w s h q = behind_any at Nothing _ v w s (test_keeps program well.structs at.function (well.functions s.number at.function s.there).locals (calls_within source program at.depth) (calls_keep program well at.depth) live test h at.locals s.known.ledger at.world s.known.suit s.known.world) q

  -- what a statement leaves
  abbrev FlowIsSuited : Frame → Bool → Flow → World → Type 0
  FlowIsSuited at loop flow w = (l : Ledger) × WorldSuits program l w × FlowSuits at.function.locals at.function.result loop l flow

  behind_flow : (loop : Bool) (st : Stmt) (k : Ways) (at : Frame) (flow : Flow) (w : World) → IsSuited program at → IsTyped program at.function loop st → flow_in program st k at ≡ Go flow w → FlowIsSuited at loop flow w
  behind_flow loop st k at flow w s h q =
      let a = went program s.known.ledger (FlowSuits at.function.locals at.function.result loop) _ flow w (exec_keeps program well.structs at.function (well.functions s.number at.function s.there).locals (calls_within source program at.depth) (calls_keep program well at.depth) loop st k at.locals s.known.ledger at.world h s.known.suit s.known.world) q in
      (a.ledger, a.world, a.value)

  with_suited : (at : Frame) (locals : List Value) (w : World) (l : Ledger) → IsSuited program at → WorldSuits program l w → AllSuit l at.function.locals locals → IsSuited program (with_locals at locals w)
  with_suited at locals w l s world suit = record { number = s.number; there = s.there; known = record { ledger = l; world = world; suit = suit } }

  behind_next : (loop : Bool) (st : Stmt) (k : Ways) (at : Frame) (locals : List Value) (w : World) → IsSuited program at → IsTyped program at.function loop st → flow_in program st k at ≡ Go (Next locals) w → IsSuited program (with_locals at locals w)
  behind_next loop st k at locals w s h q = let a = behind_flow loop st k at (Next locals) w s h q in with_suited at locals w a.0 s a.1 a.2

  round_suited : (at : Frame) (flow : Flow) (locals : List Value) (w : World) → IsSuited program at → round_again flow ≡ Some locals → FlowIsSuited at true flow w → IsSuited program (with_locals at locals w)
  round_suited at (Next env) locals w s e a = let q : env ≡ locals = cc in with_suited at locals w a.0 s a.1 (subst (AllSuit a.0 at.function.locals) q a.2)
  round_suited at (Continued env) locals w s e a = let q : env ≡ locals = cc in with_suited at locals w a.0 s a.1 (subst (AllSuit a.0 at.function.locals) q a.2.1)
  round_suited at (Broke env) locals w s e a = cc
  round_suited at (Returned v) locals w s e a = cc

  behind_body : (st : Stmt) (k : Ways) (at : Frame) (flow : Flow) (locals : List Value) (w : World) → IsSuited program at → IsTyped program at.function true st → flow_in program st k at ≡ Go flow w → round_again flow ≡ Some locals → IsSuited program (with_locals at locals w)
  behind_body st k at flow locals w s h q e = round_suited at flow locals w s e (behind_flow true st k at flow w s h q)

  -- the arguments of a call, where the locals may wait
  waiting_known : (live : ℕ → Bool) (types : List Ty) (locals : List Value) (ts : List Ty) (values : List Value) (l : Ledger) (w : World) → AllSuit l types locals → AllSuit l ts values → WorldSuits program l w → (deleting : Bool) → Known program ts values (one_of deleting (source.enter (held live locals) w) w)
  waiting_known live types locals ts values l w own all suits true = record { ledger = l; world = enter_suits program l (held live locals) w (held_suit l live types locals own) suits; suit = all }
  waiting_known live types locals ts values l w own all suits false = record { ledger = l; world = suits; suit = all }

  behind_arguments : (live : ℕ → Bool) (k : ℕ) (arguments : Arguments) (g : Function) (at : Frame) (values : List Value) (w : World) → IsSuited program at → AreArguments program at.function.locals arguments (parameters_of g) → values_in program live arguments at ≡ Go values w → Known program (parameters_of g) values (entered program k live at.locals w)
  behind_arguments live k arguments g at values w s h q =
      let calls = calls_within source program at.depth in
      let a = went program s.known.ledger (AllOf (parameters_of g)) _ values w (eval_all_keeps program well.structs at.function.locals (calling source program calls live at.locals) at.locals (calling_keeps program at.function.locals calls (calls_keep program well at.depth) live at.locals) arguments (parameters_of g) s.known.ledger at.world h s.known.suit s.known.world) q in
      let own = still_known program at.function.locals at.locals at.world s.known (AllOf (parameters_of g)) values w a in
      waiting_known live at.function.locals at.locals (parameters_of g) values a.ledger w (all_still_suit s.known.ledger a.ledger a.grown at.function.locals at.locals s.known.suit) a.value a.world (deletes program k)

  behind_call : (n k : ℕ) (f : Function) (arguments : List Value) (w w1 : World) → slice_get program.functions k ≡ Some f → Known program (parameters_of f) arguments w → source.take_turn w ≡ Go tt w1 → IsSuited program (record { depth = n; function = f; locals = first_locals f arguments; world = w1 })
  behind_call n k f arguments w w1 there known q =
      let a = went program known.ledger Nothing _ tt w1 (turn_keeps program known.ledger w known.world) q in
      record {
        number = k;
        there = there;
        known = record { ledger = a.ledger; world = a.world; suit = first_suit program a.ledger f arguments (well.functions k f there).locals (all_still_suit known.ledger a.ledger a.grown (parameters_of f) arguments known.suit) };
      }

  same_function : (k : ℕ) (f g : Function) (arguments : List Value) (w : World) → slice_get program.functions k ≡ Some f → slice_get program.functions k ≡ Some g → Known program (parameters_of f) arguments w → Known program (parameters_of g) arguments w
  same_function k f g arguments w e d known = let a : Some f ≡ Some g = sym e ∙ d in let q : f ≡ g = cc in subst (λ x. Known program (parameters_of x) arguments w) q known

module _ (program : Program) (well : IsWellTyped program) (input : List ℕ) (limits : Limits) (bytes : Every IsByte input) where
  main_meets : MeetsTypes program (Calling (suc limits.turns) program.main [] (first_world program input limits))
  main_meets =
      let m = well.main in
      (m.0, (m.1.0, record { ledger = first_ledger program; world = first_world_suits program input limits well bytes; suit = subst (λ n. AllSuit (first_ledger program) (take n m.0.locals) []) (sym m.1.1) tt }))

  pub part_meets : (part : Part) → Comes program input limits part → MeetsTypes program part
  part_meets part at_main = main_meets
  part_meets part (at_body n k f arguments w w1 c there turn) =
      let p = part_meets _ c in
      (behind_call program well n k f arguments w w1 there (same_function program well k p.0 f arguments w p.1.0 there p.1.1) turn, (false, (well.functions k f there).body))
  part_meets part (at_call live line k arguments at values w c q) =
      let p = part_meets _ c in
      let g = called_there program at.function.locals line k arguments p.1 in
      (g.0, (g.1.0, behind_arguments program well live k arguments g.0 at values w p.0 g.1.1 q))
  part_meets part (at_operands live e at c) = let p = part_meets _ c in (p.0, operands_fit program at.function.locals e p.1)
  part_meets part (at_first_operand live e rest at c) = let p = part_meets _ c in (p.0, p.1.0)
  part_meets part (at_next_operands live e rest at v w c q) = let p = part_meets _ c in (behind_value program well live e at v w p.0 p.1.0 q, p.1.1)
  part_meets part (at_right_of_and live line a b at v w c q is) = let p = part_meets _ c in (behind_value program well live a at v w p.0 (operands_fit program at.function.locals (and line a b) p.1).0 q, right_of_and program at.function.locals line a b p.1)
  part_meets part (at_right_of_or live line a b at v w c q is) = let p = part_meets _ c in (behind_value program well live a at v w p.0 (operands_fit program at.function.locals (or line a b) p.1).0 q, right_of_or program at.function.locals line a b p.1)
  part_meets part (at_chosen live line test a b at v w c q) = let p = part_meets _ c in (behind_value program well live test at v w p.0 (operands_fit program at.function.locals (choose line test a b) p.1).0 q, one_chosen program at.function.locals line test a b p.1 _)
  part_meets part (at_read_place live line place at c) = let p = part_meets _ c in (p.0, read_place program at.function.locals line place p.1)
  part_meets part (at_place_operands live place at c) = let p = part_meets _ c in (p.0, place_operands_fit program at.function.locals place p.1.0 p.1.1)
  part_meets part (at_block body k at c) = part_meets _ c
  part_meets part (at_first_statement s rest k at c) = let p = part_meets _ c in (p.0, (p.1.0, p.1.1.0))
  part_meets part (at_next_statements s rest k at locals w c q) = let p = part_meets _ c in (behind_next program well p.1.0 s _ at locals w p.0 p.1.1.0 q, (p.1.0, p.1.1.1))
  part_meets part (at_expression s k at x c e) = let p = part_meets _ c in (p.0, expression_fits program at.function p.1.0 s k x p.1.1 e)
  part_meets part (at_place s k at place c e) = let p = part_meets _ c in (p.0, place_fits program at.function p.1.0 s place p.1.1 e)
  part_meets part (at_stored_value s k at place e target w c i j q) = let p = part_meets _ c in let h = place_fits program at.function p.1.0 s place p.1.1 i in (behind_target program well k.next place h.0 at target w p.0 h.1 q, value_fits program at.function p.1.0 s e p.1.1 j)
  part_meets part (at_copied_place line s left right k at target w c q) = let p = part_meets _ c in (behind_target program well k.next left (struct s) at target w p.0 p.1.1.0 q, (struct s, p.1.1.1))
  part_meets part (at_branch line test a b k at v w c q) = let p = part_meets _ c in (behind_value program well _ test at v w p.0 (inl p.1.1.0.1) q, (p.1.0, one_typed program at.function p.1.0 a b p.1.1.1 p.1.1.2 _))
  part_meets part (at_while line test body k at c) = part_meets _ c
  part_meets part (at_while_test line test body k at c) = let p = part_meets _ c in (p.0, inl p.1.1.0.1)
  part_meets part (at_while_body line test body k at v w c q is) = let p = part_meets _ c in (behind_value program well _ test at v w p.0 (inl p.1.1.0.1) q, (true, p.1.1.1))
  part_meets part (behind_while_body line test body k at v w flow w1 locals c q is r e) = let p = part_meets _ c in let s = behind_value program well _ test at v w p.0 (inl p.1.1.0.1) q in (behind_body program well body _ (in_world at w) flow locals w1 s p.1.1.1 r e, p.1)
  part_meets part (at_while_again line test body k at w c q) = let p = part_meets _ c in (behind_turn program well at w p.0 q, p.1)
  part_meets part (at_repeat line body test k at c) = part_meets _ c
  part_meets part (at_repeat_body line body test k at c) = let p = part_meets _ c in (p.0, (true, p.1.1.0))
  part_meets part (behind_repeat_body line body test k at flow w locals c r e) = let p = part_meets _ c in (behind_body program well body _ at flow locals w p.0 p.1.1.0 r e, p.1)
  part_meets part (at_repeat_test line body test k at c) = let p = part_meets _ c in (p.0, inl p.1.1.1.1)
  part_meets part (at_repeat_again line body test k at v w w1 c q is turn) = let p = part_meets _ c in (behind_turn program well (in_world at w) w1 (behind_value program well _ test at v w p.0 (inl p.1.1.1.1) q) turn, p.1)
  part_meets part (at_for_first line first test third body k at c) = let p = part_meets _ c in (p.0, (p.1.0, p.1.1.0))
  part_meets part (at_for line first test third body k at locals w c q) = let p = part_meets _ c in (behind_next program well p.1.0 first _ at locals w p.0 p.1.1.0 q, p.1)
  part_meets part (at_for_test line first test third body k at c) = let p = part_meets _ c in (p.0, inl p.1.1.1.1)
  part_meets part (at_for_body line first test third body k at v w c q is) = let p = part_meets _ c in (behind_test program well _ test at v w p.0 p.1.1.1 q, (true, p.1.1.3))
  part_meets part (behind_for_body line first test third body k at v w flow w1 locals c q is r e) = let p = part_meets _ c in let s = behind_test program well _ test at v w p.0 p.1.1.1 q in (behind_body program well body _ (in_world at w) flow locals w1 s p.1.1.3 r e, p.1)
  part_meets part (at_for_third line first test third body k at c) = let p = part_meets _ c in (p.0, (p.1.0, p.1.1.2))
  part_meets part (at_for_again line first test third body k at locals w w1 c q turn) = let p = part_meets _ c in (behind_turn program well (with_locals at locals w) w1 (behind_next program well p.1.0 third _ at locals w p.0 p.1.1.2 q) turn, p.1)
