-- The lists at deleting points, by the nodes of the source.
use Rattle.std.proofs.Common.{◌≡◌, ℕ, zero, suc, ◌+◌, ◌≤◌, Bool, true, false, ◌||◌, ◌&&◌, not, List, [], ◌∷◌, ◌++◌, map, Option, Some, None, refl, sym, ap, ◌∙◌, subst, arith}
use Rattle.std.specs.Prelude.{◌↔◌, nat_eq, option_map, slice_get, IfSome, IsTrue, IsFalse}
use Rattle.std.specs.List.{AllByRecursion as Every}
use Rattle.std.proofs.lemmas.Option.{same_Some}
use Rattle.std.proofs.Math.Path.{fun_ext}
use Rattle.rc_core.specs.declared.operators.UnaryOperator.TheVariants.{Negate, Plus, Complement}
use Rattle.rc_core.specs.Types.{Ty, region}
use Rattle.rc_core.specs.Programs.{Expr, constant, null, string, local, read, address, step, step_from, unary, binary, convert, not_zero, and, or, choose, is_null, same, call, new_region, new_subregion, region_of, allocate, allocate_array, putchar, getchar, Arguments, none, more, Place, global, pointed, indexed, Path, here, field, element, Stmt, block, declare, assign, store, update, copy, evaluate, delete, branch, while, repeat, for, break, continue, return, Stmts, done, then, Function, Program}
use Rattle.rc_core.specs.Deletes.{IsQuiet, AreQuiet, IsQuietPlace, IsQuietPath, IsQuietInside, IsPlaced, ArePlaced, DeletesInPlace}
use Rattle.rc_core.specs.Execution.{deletes}
use Rattle.rc_core.specs.Live.{Ways, before, before_all, then_live, round, unless_set, either, at_end, while_head, while_body, repeat_head, repeat_test, repeat_body, for_head, for_third, for_body}
use Rattle.rc_core.specs.Flow.{while_loop, for_loop, Item, statement, condition, round_end, Point, statements, item_sets, IsLive, IsLiveBehind, AreLive}
use Rattle.rc_rlang.specs.Points.{points, arguments_points, condition_points, optional_points, statement_points, function_points}
use Rattle.rc_rlang.specs.RegionCode as To
use Rattle.rc_rlang.specs.RegionCode.{Operation, Steps, both, one, Code}
use Rattle.rc_rlang.specs.RegionPoints.{step_points, steps_points, routine_points}
use Rattle.rc_rlang.specs.RegionLive.{before_steps, before_code, loop_head, repeat_tail}
use Rattle.rc_rlang.specs.RegionRuns.{pins_from}
use Rattle.rc_rlang.specs.RegionRuns as R
use Rattle.rc_rlang.specs.LiveLists.{Held, held_at, held_if, operation_lists, step_lists, steps_lists, code_lists, codes_lists, functions_lists, live_lists}
use Rattle.rc_rlang.specs.LiveMaps.{Increases, point_in, chosen_list, list_at}
use Rattle.rc_translation.specs.Translation.{expression_type, has_result, one_of, evaluate_code, argument_types, parameter_types, expression_code, arguments_code, place_code, path_code, whole, condition_code, condition_test, optional_condition, statement_code, body_code, routine_of, region_of_program}
use Rattle.rc_translation.proofs.Temporaries.{before_both}
use Rattle.rc_translation.proofs.Lives.{condition_lives, all_live, body_all_live}
use Rattle.rc_translation.proofs.Counted.{expression_counts, arguments_count, condition_counts, statement_counts}
use Rattle.rc_translation.proofs.Whole.{deletes_same}
use Rattle.rc_liveness.proofs.Told.{pins_are, are_pins}
use Rattle.rc_liveness.proofs.Mapped.{pins_increase, lists_are_maps}
use Rattle.rc_source_lists.specs.DeletingNodes.{Node, call_if, deleting_call, optional_call, node_if, nodes, all_nodes, function_nodes, functions_nodes, deleting_nodes}
use Rattle.rc_source_lists.specs.SourceLists.{IsReference, IsHeld, Lists, IsListOf, AreListsOf, ListsAreSourcePaths, NodesHaveTheirLists}

joined : {A : Type 0} (xs ys zs : List A) → (xs ++ (ys ++ zs)) ≡ ((xs ++ ys) ++ zs)
joined [] ys zs = refl
joined (x ∷ xs) ys zs = ap (λ l. x ∷ l) (joined xs ys zs)

no_more : {A : Type 0} (xs : List A) → (xs ++ []) ≡ xs
no_more [] = refl
no_more (x ∷ xs) = ap (λ l. x ∷ l) (no_more xs)

at_once : (n : ℕ) → n ≡ n + 0
at_once n = omega arith

further : (n p q : ℕ) → n + p + q ≡ n + (p + q)
further n p q = omega arith

module _ (deleting : ℕ → Bool) (types : List Ty) where
  -- what steps one behind the other list
  lists_both : (a b : Steps) (at : ℕ) (live : ℕ → Bool) → steps_lists deleting types (both a b) at live ≡ (steps_lists deleting types a at (before_steps b live) ++ steps_lists deleting types b (at + steps_points a) live)
  lists_both To.none b at live = ap (λ n. steps_lists deleting types b n live) (at_once at)
  lists_both (To.more s a) b at live =
      ap (λ l. step_lists deleting types s at l ++ steps_lists deleting types (both a b) (at + step_points s) live) (before_both a b live)
      ∙ ap (λ l. step_lists deleting types s at (before_steps a (before_steps b live)) ++ l) (lists_both a b (at + step_points s) live)
      ∙ joined (step_lists deleting types s at (before_steps a (before_steps b live))) (steps_lists deleting types a (at + step_points s) (before_steps b live)) _
      ∙ ap (λ n. (step_lists deleting types s at (before_steps a (before_steps b live)) ++ steps_lists deleting types a (at + step_points s) (before_steps b live)) ++ steps_lists deleting types b n live) (further at (step_points s) (steps_points a))

  -- nothing is listed in them
  pub record IsSilent (steps : Steps) : Type 0 where
    pub is : (at : ℕ) (live : ℕ → Bool) → steps_lists deleting types steps at live ≡ []

  parts : (a b : Steps) → IsSilent a → IsSilent b → IsSilent (both a b)
  parts a b sa sb = record { is = λ at live. lists_both a b at live ∙ ap (λ l. l ++ steps_lists deleting types b (at + steps_points a) live) (sa.is at (before_steps b live)) ∙ sb.is (at + steps_points a) live }

  last : (line h : ℕ) (ty : Ty) (op : Operation) → ((at : ℕ) (live : ℕ → Bool) → operation_lists deleting types op at live ≡ []) → IsSilent (one (To.set line h ty op))
  last line h ty op q = record { is = λ at live. ap (λ l. l ++ []) (q at live) }

  then_op : (a : Steps) (line h : ℕ) (ty : Ty) (op : Operation) → ((at : ℕ) (live : ℕ → Bool) → operation_lists deleting types op at live ≡ []) → IsSilent a → IsSilent (both a (one (To.set line h ty op)))
  then_op a line h ty op q sa = parts a (one (To.set line h ty op)) sa (last line h ty op q)

  forked : (line h : ℕ) (test result : Ty) (a b : Steps) → IsSilent a → IsSilent b → IsSilent (one (To.fork line h test result a b))
  forked line h test result a b sa sb = record {
    is = λ at live.
        ap (λ l. (l ++ steps_lists deleting types b (suc at + steps_points a) (before_steps To.none live)) ++ []) (sa.is (suc at) (before_steps To.none live))
        ∙ ap (λ l. l ++ []) (sb.is (suc at + steps_points a) (before_steps To.none live));
  }

  -- what a call that may delete lists
  abbrev lists_if : Option ℕ → (at : ℕ) → (live : ℕ → Bool) → List Held
  lists_if None at live = []
  lists_if (Some n) at live = held_at deleting types (at + n) live

module _ (program : Program) (locals : List Ty) where
  abbrev Silent : Steps → Type 0
  Silent steps = IsSilent (deletes program) locals steps

  abbrev listed : Steps → ℕ → (ℕ → Bool) → List Held
  listed steps at live = steps_lists (deletes program) locals steps at live

  nothing : (line h : ℕ) (ty : Ty) (op : Operation) → ((at : ℕ) (live : ℕ → Bool) → operation_lists (deletes program) locals op at live ≡ []) → Silent (one (To.set line h ty op))
  nothing line h ty op q = last (deletes program) locals line h ty op q

  then_nothing : (a : Steps) (line h : ℕ) (ty : Ty) (op : Operation) → ((at : ℕ) (live : ℕ → Bool) → operation_lists (deletes program) locals op at live ≡ []) → Silent a → Silent (both a (one (To.set line h ty op)))
  then_nothing a line h ty op q sa = then_op (deletes program) locals a line h ty op q sa

  two : (a b : Steps) → Silent a → Silent b → Silent (both a b)
  two a b sa sb = parts (deletes program) locals a b sa sb

  mutual
    pub expression_silent : (e : Expr) → IsQuiet program e → (ty : Ty) (h : ℕ) → Silent (expression_code program locals e ty h)
    expression_silent (constant line s n) q ty h = record { is = λ at live. refl }
    expression_silent (null line) q ty h = record { is = λ at live. refl }
    expression_silent (string line k) q ty h = record { is = λ at live. refl }
    expression_silent (local line x) q ty h = record { is = λ at live. refl }
    expression_silent (read line place) q ty h = then_nothing _ line h ty (To.load _) (λ _ _. refl) (place_silent line place q h)
    expression_silent (address line g) q ty h = record { is = λ at live. refl }
    expression_silent (step line d p i) q ty h = two _ _ (expression_silent p q.0 _ h) (then_nothing _ line h ty (To.step d _ _) (λ _ _. refl) (expression_silent i q.1 _ (suc h)))
    expression_silent (step_from line i p) q ty h = two _ _ (expression_silent i q.0 _ h) (then_nothing _ line h ty (To.step_from _ _) (λ _ _. refl) (expression_silent p q.1 _ (suc h)))
    expression_silent (unary line Negate s e) q ty h = then_nothing _ line h ty (To.unary Negate s) (λ _ _. refl) (expression_silent e q _ h)
    expression_silent (unary line Plus s e) q ty h = expression_silent e q ty h
    expression_silent (unary line Complement s e) q ty h = then_nothing _ line h ty (To.unary Complement s) (λ _ _. refl) (expression_silent e q _ h)
    expression_silent (binary line o s a b) q ty h = two _ _ (expression_silent a q.0 _ h) (then_nothing _ line h ty (To.binary o s _) (λ _ _. refl) (expression_silent b q.1 _ (suc h)))
    expression_silent (convert line from to e) q ty h = then_nothing _ line h ty (To.convert from to) (λ _ _. refl) (expression_silent e q _ h)
    expression_silent (not_zero line e) q ty h = then_nothing _ line h ty (To.not_zero _) (λ _ _. refl) (expression_silent e q _ h)
    expression_silent (and line a b) q ty h = two _ _ (expression_silent a q.0 _ h) (forked (deletes program) locals line h _ ty _ _ (then_nothing _ line h ty (To.truth _) (λ _ _. refl) (expression_silent b q.1 _ h)) (nothing line h ty (To.constant _ _) (λ _ _. refl)))
    expression_silent (or line a b) q ty h = two _ _ (expression_silent a q.0 _ h) (forked (deletes program) locals line h _ ty _ _ (nothing line h ty (To.constant _ _) (λ _ _. refl)) (then_nothing _ line h ty (To.truth _) (λ _ _. refl) (expression_silent b q.1 _ h)))
    expression_silent (choose line t a b) q ty h = two _ _ (expression_silent t q.0 _ h) (forked (deletes program) locals line h _ ty _ _ (expression_silent a q.1 ty h) (expression_silent b q.2 ty h))
    expression_silent (is_null line w e) q ty h = then_nothing _ line h ty (To.is_null w _) (λ _ _. refl) (expression_silent e q _ h)
    expression_silent (same line w a b) q ty h = two _ _ (expression_silent a q.0 _ h) (then_nothing _ line h ty (To.same w _) (λ _ _. refl) (expression_silent b q.1 _ (suc h)))
    expression_silent (call line g es) q ty h = then_nothing _ line h ty (To.call g _) (λ at live. ap (λ b. held_if (deletes program) locals b at live) q.0) (arguments_silent es q.1 (parameter_types program g) h)
    expression_silent (new_region line) q ty h = record { is = λ at live. refl }
    expression_silent (new_subregion line r) q ty h = then_nothing _ line h ty To.new_subregion (λ _ _. refl) (expression_silent r q _ h)
    expression_silent (region_of line p) q ty h = then_nothing _ line h ty (To.region_of _) (λ _ _. refl) (expression_silent p q _ h)
    expression_silent (allocate line r u) q ty h = then_nothing _ line h ty (To.allocate u _) (λ _ _. refl) (expression_silent r q _ h)
    expression_silent (allocate_array line r n u) q ty h = two _ _ (expression_silent r q.0 _ h) (then_nothing _ line h ty (To.allocate_array u _) (λ _ _. refl) (expression_silent n q.1 _ (suc h)))
    expression_silent (putchar line e) q ty h = then_nothing _ line h ty To.putchar (λ _ _. refl) (expression_silent e q _ h)
    expression_silent (getchar line) q ty h = record { is = λ at live. refl }

    pub arguments_silent : (es : Arguments) → AreQuiet program es → (tys : List Ty) (h : ℕ) → Silent (arguments_code program locals es tys h)
    arguments_silent none q tys h = record { is = λ at live. refl }
    arguments_silent (more e es) q [] h = two _ _ (expression_silent e q.0 _ h) (arguments_silent es q.1 [] (suc h))
    arguments_silent (more e es) q (ty ∷ tys) h = two _ _ (expression_silent e q.0 _ h) (arguments_silent es q.1 tys (suc h))

    pub place_silent : (line : ℕ) (place : Place) → IsQuietPlace program place → (h : ℕ) → Silent (place_code program locals line place h)
    place_silent line (global g path) q h = two _ _ (nothing line h _ (To.static g) (λ _ _. refl)) (path_silent path q (suc h))
    place_silent line (pointed p path) q h = two _ _ (expression_silent p q.0 _ h) (path_silent path q.1 (suc h))
    place_silent line (indexed p i path) q h = two _ _ (expression_silent p q.0 _ h) (two _ _ (expression_silent i q.1 _ (suc h)) (path_silent path q.2 (suc (suc h))))

    path_silent : (path : Path) → IsQuietPath program path → (h : ℕ) → Silent (path_code program locals path h)
    path_silent here q h = record { is = λ at live. refl }
    path_silent (field s f rest) q h = path_silent rest q h
    path_silent (element s f i rest) q h = two _ _ (expression_silent i q.0 _ h) (path_silent rest q.1 (suc h))

  pub condition_silent : (e : Expr) → IsQuiet program e → Silent (condition_code program locals e)
  condition_silent (not_zero line e) q = condition_silent e q
  condition_silent (is_null line w e) q = expression_silent e q (expression_type program locals e) 0
  condition_silent (constant line s n) q = expression_silent (constant line s n) q (expression_type program locals (constant line s n)) 0
  condition_silent (null line) q = expression_silent (null line) q (expression_type program locals (null line)) 0
  condition_silent (string line k) q = expression_silent (string line k) q (expression_type program locals (string line k)) 0
  condition_silent (local line x) q = expression_silent (local line x) q (expression_type program locals (local line x)) 0
  condition_silent (read line place) q = expression_silent (read line place) q (expression_type program locals (read line place)) 0
  condition_silent (address line g) q = expression_silent (address line g) q (expression_type program locals (address line g)) 0
  condition_silent (step line d p i) q = expression_silent (step line d p i) q (expression_type program locals (step line d p i)) 0
  condition_silent (step_from line i p) q = expression_silent (step_from line i p) q (expression_type program locals (step_from line i p)) 0
  condition_silent (unary line o s e) q = expression_silent (unary line o s e) q (expression_type program locals (unary line o s e)) 0
  condition_silent (binary line o s a b) q = expression_silent (binary line o s a b) q (expression_type program locals (binary line o s a b)) 0
  condition_silent (convert line from to e) q = expression_silent (convert line from to e) q (expression_type program locals (convert line from to e)) 0
  condition_silent (and line a b) q = expression_silent (and line a b) q (expression_type program locals (and line a b)) 0
  condition_silent (or line a b) q = expression_silent (or line a b) q (expression_type program locals (or line a b)) 0
  condition_silent (choose line t a b) q = expression_silent (choose line t a b) q (expression_type program locals (choose line t a b)) 0
  condition_silent (same line w a b) q = expression_silent (same line w a b) q (expression_type program locals (same line w a b)) 0
  condition_silent (call line g es) q = expression_silent (call line g es) q (expression_type program locals (call line g es)) 0
  condition_silent (new_region line) q = expression_silent (new_region line) q (expression_type program locals (new_region line)) 0
  condition_silent (new_subregion line r) q = expression_silent (new_subregion line r) q (expression_type program locals (new_subregion line r)) 0
  condition_silent (region_of line p) q = expression_silent (region_of line p) q (expression_type program locals (region_of line p)) 0
  condition_silent (allocate line r u) q = expression_silent (allocate line r u) q (expression_type program locals (allocate line r u)) 0
  condition_silent (allocate_array line r n u) q = expression_silent (allocate_array line r n u) q (expression_type program locals (allocate_array line r n u)) 0
  condition_silent (putchar line e) q = expression_silent (putchar line e) q (expression_type program locals (putchar line e)) 0
  condition_silent (getchar line) q = expression_silent (getchar line) q (expression_type program locals (getchar line)) 0

  abbrev Called : Option ℕ → (at : ℕ) → (live : ℕ → Bool) → List Held
  Called o at live = lists_if (deletes program) locals o at live

  called : (b : Bool) (n at : ℕ) (live : ℕ → Bool) → held_if (deletes program) locals b (at + n) live ≡ Called (call_if program b n) at live
  called true n at live = refl
  called false n at live = refl

  -- an expression that may be such a call lists what the call does
  pub call_lists : (e : Expr) → IsQuietInside program e → (ty : Ty) (h at : ℕ) (live : ℕ → Bool) → listed (expression_code program locals e ty h) at live ≡ Called (deleting_call program e) at live
  call_lists (call line g es) q ty h at live =
      let code = arguments_code program locals es (parameter_types program g) h in
      let op = To.call g (argument_types program locals es (parameter_types program g)) in
      lists_both (deletes program) locals code (one (To.set line h ty op)) at live
      ∙ ap (λ l. l ++ (held_if (deletes program) locals (deletes program g) (at + steps_points code) live ++ [])) ((arguments_silent es q (parameter_types program g) h).is at _)
      ∙ no_more (held_if (deletes program) locals (deletes program g) (at + steps_points code) live)
      ∙ ap (λ n. held_if (deletes program) locals (deletes program g) (at + n) live) (arguments_count program locals es (parameter_types program g) h).is
      ∙ called (deletes program g) (arguments_points es) at live
  call_lists (convert line from to e) q ty h at live =
      lists_both (deletes program) locals (expression_code program locals e _ h) (one (To.set line h ty (To.convert from to))) at live
      ∙ no_more (listed (expression_code program locals e _ h) at live)
      ∙ call_lists e q _ h at live
  call_lists (constant line s n) q ty h at live = (expression_silent (constant line s n) q ty h).is at live
  call_lists (null line) q ty h at live = (expression_silent (null line) q ty h).is at live
  call_lists (string line k) q ty h at live = (expression_silent (string line k) q ty h).is at live
  call_lists (local line x) q ty h at live = (expression_silent (local line x) q ty h).is at live
  call_lists (read line place) q ty h at live = (expression_silent (read line place) q ty h).is at live
  call_lists (address line g) q ty h at live = (expression_silent (address line g) q ty h).is at live
  call_lists (step line d p i) q ty h at live = (expression_silent (step line d p i) q ty h).is at live
  call_lists (step_from line i p) q ty h at live = (expression_silent (step_from line i p) q ty h).is at live
  call_lists (unary line o s e) q ty h at live = (expression_silent (unary line o s e) q ty h).is at live
  call_lists (binary line o s a b) q ty h at live = (expression_silent (binary line o s a b) q ty h).is at live
  call_lists (not_zero line e) q ty h at live = (expression_silent (not_zero line e) q ty h).is at live
  call_lists (and line a b) q ty h at live = (expression_silent (and line a b) q ty h).is at live
  call_lists (or line a b) q ty h at live = (expression_silent (or line a b) q ty h).is at live
  call_lists (choose line t a b) q ty h at live = (expression_silent (choose line t a b) q ty h).is at live
  call_lists (is_null line w e) q ty h at live = (expression_silent (is_null line w e) q ty h).is at live
  call_lists (same line w a b) q ty h at live = (expression_silent (same line w a b) q ty h).is at live
  call_lists (new_region line) q ty h at live = (expression_silent (new_region line) q ty h).is at live
  call_lists (new_subregion line r) q ty h at live = (expression_silent (new_subregion line r) q ty h).is at live
  call_lists (region_of line p) q ty h at live = (expression_silent (region_of line p) q ty h).is at live
  call_lists (allocate line r u) q ty h at live = (expression_silent (allocate line r u) q ty h).is at live
  call_lists (allocate_array line r n u) q ty h at live = (expression_silent (allocate_array line r n u) q ty h).is at live
  call_lists (putchar line e) q ty h at live = (expression_silent (putchar line e) q ty h).is at live
  call_lists (getchar line) q ty h at live = (expression_silent (getchar line) q ty h).is at live

  pub condition_lists : (e : Expr) → IsQuietInside program e → (at : ℕ) (live : ℕ → Bool) → listed (condition_code program locals e) at live ≡ Called (deleting_call program e) at live
  condition_lists (constant line s n) q at live = (condition_silent (constant line s n) q).is at live
  condition_lists (null line) q at live = (condition_silent (null line) q).is at live
  condition_lists (string line k) q at live = (condition_silent (string line k) q).is at live
  condition_lists (local line x) q at live = (condition_silent (local line x) q).is at live
  condition_lists (read line place) q at live = (condition_silent (read line place) q).is at live
  condition_lists (address line g) q at live = (condition_silent (address line g) q).is at live
  condition_lists (step line d p i) q at live = (condition_silent (step line d p i) q).is at live
  condition_lists (step_from line i p) q at live = (condition_silent (step_from line i p) q).is at live
  condition_lists (unary line o s e) q at live = (condition_silent (unary line o s e) q).is at live
  condition_lists (binary line o s a b) q at live = (condition_silent (binary line o s a b) q).is at live
  condition_lists (convert line from to e) q at live = call_lists (convert line from to e) q (expression_type program locals (convert line from to e)) 0 at live
  condition_lists (not_zero line e) q at live = (condition_silent (not_zero line e) q).is at live
  condition_lists (and line a b) q at live = (condition_silent (and line a b) q).is at live
  condition_lists (or line a b) q at live = (condition_silent (or line a b) q).is at live
  condition_lists (choose line t a b) q at live = (condition_silent (choose line t a b) q).is at live
  condition_lists (is_null line w e) q at live = (condition_silent (is_null line w e) q).is at live
  condition_lists (same line w a b) q at live = (condition_silent (same line w a b) q).is at live
  condition_lists (call line g es) q at live = call_lists (call line g es) q (expression_type program locals (call line g es)) 0 at live
  condition_lists (new_region line) q at live = (condition_silent (new_region line) q).is at live
  condition_lists (new_subregion line r) q at live = (condition_silent (new_subregion line r) q).is at live
  condition_lists (region_of line p) q at live = (condition_silent (region_of line p) q).is at live
  condition_lists (allocate line r u) q at live = (condition_silent (allocate line r u) q).is at live
  condition_lists (allocate_array line r n u) q at live = (condition_silent (allocate_array line r n u) q).is at live
  condition_lists (putchar line e) q at live = (condition_silent (putchar line e) q).is at live
  condition_lists (getchar line) q at live = (condition_silent (getchar line) q).is at live

  -- a value that is let go
  let_go : (e : Expr) → IsQuietInside program e → (at : ℕ) (live : ℕ → Bool) → (listed (whole program locals e) at live ++ []) ≡ Called (deleting_call program e) at live
  let_go e q at live = no_more (listed (whole program locals e) at live) ∙ call_lists e q (expression_type program locals e) 0 at live

  pub evaluate_lists : (line : ℕ) (e : Expr) → IsQuietInside program e → (at : ℕ) (k : Ways) → code_lists (deletes program) locals (evaluate_code program locals line e) at k ≡ Called (deleting_call program e) at k.next
  evaluate_lists line (call own g es) q at k = by (has_result program g)
    where
      performed : Code
      performed = To.simple (arguments_code program locals es (parameter_types program g) 0) (To.perform own g (argument_types program locals es (parameter_types program g)))

      by : (b : Bool) → code_lists (deletes program) locals (one_of b (To.simple (whole program locals (call own g es)) To.drop) performed) at k ≡ Called (deleting_call program (call own g es)) at k.next
      by true = let_go (call own g es) q at k.next
      by false =
          ap (λ l. l ++ held_if (deletes program) locals (deletes program g) (at + steps_points (arguments_code program locals es (parameter_types program g) 0)) k.next) ((arguments_silent es q (parameter_types program g) 0).is at _)
          ∙ ap (λ n. held_if (deletes program) locals (deletes program g) (at + n) k.next) (arguments_count program locals es (parameter_types program g) 0).is
          ∙ called (deletes program g) (arguments_points es) at k.next
  evaluate_lists line (constant own s n) q at k = let_go (constant own s n) q at k.next
  evaluate_lists line (null own) q at k = let_go (null own) q at k.next
  evaluate_lists line (string own m) q at k = let_go (string own m) q at k.next
  evaluate_lists line (local own x) q at k = let_go (local own x) q at k.next
  evaluate_lists line (read own place) q at k = let_go (read own place) q at k.next
  evaluate_lists line (address own g) q at k = let_go (address own g) q at k.next
  evaluate_lists line (step own d p i) q at k = let_go (step own d p i) q at k.next
  evaluate_lists line (step_from own i p) q at k = let_go (step_from own i p) q at k.next
  evaluate_lists line (unary own o s e) q at k = let_go (unary own o s e) q at k.next
  evaluate_lists line (binary own o s a b) q at k = let_go (binary own o s a b) q at k.next
  evaluate_lists line (convert own from to e) q at k = let_go (convert own from to e) q at k.next
  evaluate_lists line (not_zero own e) q at k = let_go (not_zero own e) q at k.next
  evaluate_lists line (and own a b) q at k = let_go (and own a b) q at k.next
  evaluate_lists line (or own a b) q at k = let_go (or own a b) q at k.next
  evaluate_lists line (choose own t a b) q at k = let_go (choose own t a b) q at k.next
  evaluate_lists line (is_null own w e) q at k = let_go (is_null own w e) q at k.next
  evaluate_lists line (same own w a b) q at k = let_go (same own w a b) q at k.next
  evaluate_lists line (new_region own) q at k = let_go (new_region own) q at k.next
  evaluate_lists line (new_subregion own r) q at k = let_go (new_subregion own r) q at k.next
  evaluate_lists line (region_of own p) q at k = let_go (region_of own p) q at k.next
  evaluate_lists line (allocate own r u) q at k = let_go (allocate own r u) q at k.next
  evaluate_lists line (allocate_array own r n u) q at k = let_go (allocate_array own r n u) q at k.next
  evaluate_lists line (putchar own e) q at k = let_go (putchar own e) q at k.next
  evaluate_lists line (getchar own) q at k = let_go (getchar own) q at k.next

-- what the law that liveness is a path says
pub record Paths : Type 0 where
  pub end : AreLive at_end []
  pub one : (s : Stmt) (k : Ways) (p : Point) → AreLive k p → AreLive (then_live (before s k) k) (statement s ∷ p)
  pub all : (body : Stmts) (k : Ways) (p : Point) → AreLive k p → AreLive (then_live (before_all body k) k) (statements body p)
  pub in_while : (test : Expr) (body : Stmt) (k : Ways) (p : Point) → AreLive k p → AreLive (while_body test body k) (round_end (while_loop test body) ∷ p)
  pub in_do : (test : Expr) (body : Stmt) (k : Ways) (p : Point) → AreLive k p → AreLive (repeat_body body test k) (round_end (while_loop test body) ∷ p)
  pub in_for : (test : Option Expr) (third body : Stmt) (k : Ways) (p : Point) → AreLive k p → AreLive (for_body test third body k) (round_end (for_loop test third body) ∷ p)
  pub between_rounds : (test : Option Expr) (third body : Stmt) (k : Ways) (p : Point) → AreLive k p → AreLive (for_third test third body k) (condition (for_loop test third body) ∷ p)
  pub behind_if : (line : ℕ) (test : Expr) (a b : Stmt) (k : Ways) (p : Point) → AreLive k p → (x : ℕ) → IsTrue (either (before a k) (before b k) x) ↔ IsLiveBehind x (statement (branch line test a b)) p
  pub behind_while : (test : Expr) (body : Stmt) (k : Ways) (p : Point) → AreLive k p → (x : ℕ) → IsTrue (either k.next (before body (while_body test body k)) x) ↔ IsLiveBehind x (condition (while_loop test body)) p
  pub behind_do : (test : Expr) (body : Stmt) (k : Ways) (p : Point) → AreLive k p → (x : ℕ) → IsTrue (either k.next (repeat_head body test k) x) ↔ IsLiveBehind x (condition (while_loop test body)) p
  pub behind_for : (test : Expr) (third body : Stmt) (k : Ways) (p : Point) → AreLive k p → (x : ℕ) → IsTrue (either k.next (before body (for_body (Some test) third body k)) x) ↔ IsLiveBehind x (condition (for_loop (Some test) third body)) p

unset_true : (y x : ℕ) (b : Bool) → IsTrue (unless_set y x b) → IsFalse (nat_eq y x) × IsTrue b
unset_true y x b u = by_test (nat_eq y x) u
  where
    by_test : (c : Bool) → IsTrue (not c && b) → IsFalse c × IsTrue b
    by_test true v = cc
    by_test false v = (refl, v)

unset : (y x : ℕ) (b : Bool) → IsFalse (nat_eq y x) → IsTrue b → IsTrue (unless_set y x b)
unset y x b e u = by_test (nat_eq y x) e
  where
    by_test : (c : Bool) → IsFalse c → IsTrue (not c && b)
    by_test true v = cc
    by_test false v = u

-- what is told of a node's list
module _ (paths : Paths) (program : Program) (f : Function) where
  abbrev Matches : List Node → List Held → Type 0
  Matches ns hs = AreListsOf ns hs

  abbrev Says : (item : Item) (rest : Point) (live : ℕ → Bool) → Type 0
  Says item rest live = (x : ℕ) → IsTrue (live x) ↔ (IsFalse (item_sets item x) × IsLiveBehind x item rest)

  zero_more : (n : ℕ) → 0 + n ≡ n
  zero_more n = omega arith

  the_list : (n : Node) (live : ℕ → Bool) → n.function ≡ f → ((x : ℕ) → IsTrue (live x) ↔ (IsFalse (item_sets n.item x) × IsLiveBehind x n.item n.rest)) → Lists n (pins_from f.locals 0 live)
  the_list n live own says = record { increases = pins_increase f.locals 0 live; exact = λ x. (held x, in_list x) }
    where
      held : (x : ℕ) → ((i : ℕ) × (slice_get (pins_from f.locals 0 live) i ≡ Some x)) → IsHeld n x
      held x l =
          let p = pins_are f.locals 0 live x l.0 l.1 in
          let s = (says x).0 p.lives in
          record {
            reference = subst (λ g. IsReference g x) (sym own) (record { ty = p.ty; there = subst (λ m. slice_get f.locals m ≡ Some p.ty) (sym (p.is ∙ zero_more p.number)) p.typed; refers = p.refers });
            kept = s.0;
            live = s.1;
          }

      in_list : (x : ℕ) → IsHeld n x → (i : ℕ) × (slice_get (pins_from f.locals 0 live) i ≡ Some x)
      in_list x h =
          let r = subst (λ g. IsReference g x) own h.reference in
          subst (λ y. (i : ℕ) × (slice_get (pins_from f.locals 0 live) i ≡ Some y)) (zero_more x)
          (are_pins f.locals 0 live x r.ty r.there r.refers (subst (λ y. IsTrue (live y)) (sym (zero_more x)) ((says x).1 (h.kept, h.live))))

  node_matches : (o : Option ℕ) (at : ℕ) (item : Item) (rest : Point) (live : ℕ → Bool) → Says item rest live → Matches (node_if program f o at item rest) (lists_if (deletes program) f.locals o at live)
  node_matches None at item rest live says = tt
  node_matches (Some n) at item rest live says = (record { point = refl; lists = the_list (record { function = f; item = item; rest = rest; point = at + n }) live refl says }, tt)

  join : (ns ms : List Node) (hs is : List Held) → Matches ns hs → Matches ms is → Matches (ns ++ ms) (hs ++ is)
  join [] ms [] is a b = b
  join [] ms (h ∷ hs) is a b = absurd a
  join (n ∷ ns) ms [] is a b = absurd a
  join (n ∷ ns) ms (h ∷ hs) is a b = (a.0, join ns ms hs is a.1 b)

  to : (ns : List Node) (hs is : List Held) → is ≡ hs → Matches ns hs → Matches ns is
  to ns hs is e a = subst (λ l. Matches ns l) (sym e) a

  -- from what is live behind the node, where it sets nothing
  unset_says : (x : ℕ) (b c : Bool) (B : Type 0) → b ≡ c → (IsTrue c ↔ B) → IsTrue b ↔ (IsFalse false × B)
  unset_says x b c B e h = ((λ u. (refl, h.0 (sym e ∙ u))), (λ v. e ∙ h.1 v.1))

  -- where the node leads on
  onward : (x : ℕ) (p : Point) (b : Bool) → (IsTrue b ↔ IsLive x p) → IsTrue b ↔ ((n : Point) × (n ≡ p) × IsLive x n)
  onward x p b h = ((λ u. (p, refl, h.0 u)), (λ v. h.1 (subst (λ n. IsLive x n) v.1 v.2)))

  sets_says : (y x : ℕ) (b : Bool) (B : Type 0) → (IsTrue b ↔ B) → IsTrue (unless_set y x b) ↔ (IsFalse (nat_eq y x) × B)
  sets_says y x b B h = ((λ u. let v = unset_true y x b u in (v.0, h.0 v.1)), (λ v. unset y x b v.0 (h.1 v.1)))

  never : (x : ℕ) (p : Point) → IsTrue false ↔ (IsFalse false × ((n : Point) × ⊥ × IsLive x n))
  never x p = ((λ u. absurd (no u)), (λ v. absurd v.1.1))
    where
      no : IsTrue false → ⊥
      no u = cc

  abbrev C : Code → (at : ℕ) → Ways → List Held
  C c at k = code_lists (deletes program) f.locals c at k

  abbrev Code_of : Stmt → Code
  Code_of s = statement_code program f s

  moved : (ns : (at : ℕ) → List Node) (c : Code) (at at' : ℕ) (k k' : Ways) → at' ≡ at → k' ≡ k → Matches (ns at) (C c at k) → Matches (ns at) (C c at' k')
  moved ns c at at' k k' e d a = subst (λ l. Matches (ns at) (C c at' l)) (sym d) (subst (λ n. Matches (ns at) (C c n k)) (sym e) a)

  third_done : (at : ℕ) (k : Ways) → C (To.block To.done) at k ≡ []
  third_done at k = refl

  while_first : (line : ℕ) (test : Expr) (a : Stmt) (k : Ways) → loop_head (condition_code program f.locals test) (Some (condition_test program f.locals line true test)) (To.block To.done) (Code_of a) k ≡ while_head test a k
  while_first line test a k = all_live program f (while 0 test a) k

  repeat_first : (line : ℕ) (test : Expr) (a : Stmt) (k : Ways) → before_code (To.repeat 0 (Code_of a) (condition_code program f.locals test) (condition_test program f.locals line true test)) k ≡ repeat_head a test k
  repeat_first line test a k = all_live program f (repeat 0 a test) k

  repeat_last : (line : ℕ) (test : Expr) (a : Stmt) (k : Ways) → repeat_tail (Code_of a) (condition_code program f.locals test) (condition_test program f.locals line true test) k ≡ repeat_test a test k
  repeat_last line test a k = ap (λ l. before_steps (condition_code program f.locals test) (λ y. k.next y || l y)) (repeat_first line test a k) ∙ fun_ext (λ y. (condition_lives program f.locals test).is (either k.next (repeat_head a test k)) y)

  abbrev for_test : (line : ℕ) → Option Expr → Option To.Test
  for_test line test = option_map (condition_test program f.locals line true) test

  for_first : (line : ℕ) (test : Option Expr) (third a : Stmt) (k : Ways) → loop_head (optional_condition program f.locals test) (for_test line test) (Code_of third) (Code_of a) k ≡ for_head test third a k
  for_first line None third a k = all_live program f (for 0 (block done) None third a) k
  for_first line (Some test) third a k = all_live program f (for 0 (block done) (Some test) third a) k

  abbrev Done : Stmt → Type 0
  Done s = (at : ℕ) (k : Ways) (p : Point) → AreLive k p → Matches (nodes program f s at p) (C (Code_of s) at k)

  abbrev first_of_for : (line : ℕ) → Option Expr → (third a : Stmt) → Ways → ℕ → Bool
  first_of_for line test third a k = loop_head (optional_condition program f.locals test) (for_test line test) (Code_of third) (Code_of a) k

  for_round : (line : ℕ) (test : Option Expr) (third a : Stmt) (k : Ways) → round (before_code (Code_of third) (then_live (first_of_for line test third a k) k)) k ≡ for_body test third a k
  for_round line test third a k =
      ap (λ h. round (before_code (Code_of third) (then_live h k)) k) (for_first line test third a k)
      ∙ ap (λ g. round g k) (all_live program f third (for_third test third a k))

  -- a `for`, but for its first part
  abbrev for_nodes : Option Expr → (third a : Stmt) → (head : ℕ) → Point → List Node
  for_nodes test third a head p =
      let loop = for_loop test third a in
      let at_body = head + optional_points condition_points test in
      node_if program f (optional_call program test) head (condition loop) p
      ++ (nodes program f a at_body (round_end loop ∷ p) ++ nodes program f third (at_body + statement_points program.structs a) (condition loop ∷ p))

  abbrev for_code : (line : ℕ) → Option Expr → (third a : Stmt) → Code
  for_code line test third a = To.loop line (optional_condition program f.locals test) (for_test line test) (Code_of third) (Code_of a)

  loop_matches : (line : ℕ) (test : Option Expr) (third a : Stmt) → IfSome test (IsQuietInside program) → (from : ℕ) (k : Ways) (p : Point) → AreLive k p → Done third → Done a →
      Matches (for_nodes test third a (suc from) p) (C (for_code line test third a) from k)
  loop_matches line None third a q from k p l m_third m_a =
      let loop = for_loop None third a in
      let na = statement_counts program f a in
      join _ _ _ _
      (moved (λ n. nodes program f a n (round_end loop ∷ p)) (Code_of a) (suc from + 0) _ (for_body None third a k) _ (omega arith) (for_round line None third a k)
      (m_a (suc from + 0) (for_body None third a k) (round_end loop ∷ p) (paths.in_for None third a k p l)))
      (moved (λ n. nodes program f third n (condition loop ∷ p)) (Code_of third) (suc from + 0 + statement_points program.structs a) _ (for_third None third a k) _ (omega (arith, na)) (ap (λ h. then_live h k) (for_first line None third a k))
      (m_third (suc from + 0 + statement_points program.structs a) (for_third None third a k) (condition loop ∷ p) (paths.between_rounds None third a k p l)))
  loop_matches line (Some test) third a q from k p l m_third m_a =
      let loop = for_loop (Some test) third a in
      let na = statement_counts program f a in
      let c = condition_counts program f.locals test in
      let k1 = round (before_code (Code_of third) (then_live (first_of_for line (Some test) third a k) k)) k in
      let live = λ (y : ℕ). k.next y || before_code (Code_of a) k1 y in
      let same_live = λ (x : ℕ). ap (λ v. k.next x || before_code (Code_of a) v x) (for_round line (Some test) third a k) ∙ ap (λ v. k.next x || v x) (all_live program f a (for_body (Some test) third a k)) in
      join _ _ _ _
      (to _ _ _ (condition_lists program f.locals test q (suc from) live)
      (node_matches (deleting_call program test) (suc from) (condition loop) p live (λ x. unset_says x (live x) (either k.next (before a (for_body (Some test) third a k)) x) _ (same_live x) (paths.behind_for test third a k p l x))))
      (join _ _ _ _
      (moved (λ n. nodes program f a n (round_end loop ∷ p)) (Code_of a) (suc from + condition_points test) _ (for_body (Some test) third a k) _ (omega (arith, c)) (for_round line (Some test) third a k)
      (m_a (suc from + condition_points test) (for_body (Some test) third a k) (round_end loop ∷ p) (paths.in_for (Some test) third a k p l)))
      (moved (λ n. nodes program f third n (condition loop ∷ p)) (Code_of third) (suc from + condition_points test + statement_points program.structs a) _ (for_third (Some test) third a k) _ (omega (arith, c, na)) (ap (λ h. then_live h k) (for_first line (Some test) third a k))
      (m_third (suc from + condition_points test + statement_points program.structs a) (for_third (Some test) third a k) (condition loop ∷ p) (paths.between_rounds (Some test) third a k p l))))

  for_matches : (line : ℕ) (first : Stmt) (test : Option Expr) (third a : Stmt) → IfSome test (IsQuietInside program) → (at : ℕ) (k : Ways) (p : Point) → AreLive k p → Done first → Done third → Done a →
      Matches (nodes program f (for line first test third a) at p) (C (Code_of (for line first test third a)) at k)
  for_matches line first test third a q at k p l m_first m_third m_a =
      let n = statement_counts program f first in
      join _ _ _ _
      (moved (λ m. nodes program f first m (condition (for_loop test third a) ∷ p)) (Code_of first) at at (for_third test third a k) _ refl (ap (λ h. then_live h k) (for_first line test third a k))
      (m_first at (for_third test third a k) (condition (for_loop test third a) ∷ p) (paths.between_rounds test third a k p l)))
      (to _ _ _ (no_more _)
      (subst (λ m. Matches (for_nodes test third a (suc (at + statement_points program.structs first)) p) (C (for_code line test third a) m k)) (ap (λ m. at + m) (sym n))
      (loop_matches line test third a q (at + statement_points program.structs first) k p l m_third m_a)))

  mutual
    pub statement_matches : (s : Stmt) → IsPlaced program s → (at : ℕ) (k : Ways) (p : Point) → AreLive k p → Matches (nodes program f s at p) (C (Code_of s) at k)
    statement_matches (block body) q at k p l = body_matches body q at k p l
    statement_matches (declare line y None) q at k p l = tt
    statement_matches (declare line y (Some e)) q at k p l =
        to _ _ _ (no_more (listed program f.locals (expression_code program f.locals e _ 0) at _) ∙ call_lists program f.locals e q _ 0 at _)
        (node_matches (deleting_call program e) at (statement (declare line y (Some e))) p (λ x. unless_set y x (k.next x)) (λ x. sets_says y x (k.next x) _ (onward x p (k.next x) (l.next x))))
    statement_matches (assign line y e) q at k p l =
        to _ _ _ (no_more (listed program f.locals (expression_code program f.locals e _ 0) at _) ∙ call_lists program f.locals e q _ 0 at _)
        (node_matches (deleting_call program e) at (statement (assign line y e)) p (λ x. unless_set y x (k.next x)) (λ x. sets_says y x (k.next x) _ (onward x p (k.next x) (l.next x))))
    statement_matches (store line place e) q at k p l =
        to [] [] _ (no_more _ ∙ (two program f.locals _ _ (place_silent program f.locals line place q.0 0) (expression_silent program f.locals e q.1 _ _)).is at _) tt
    statement_matches (update line place change e) q at k p l =
        to [] [] _ (no_more _ ∙ (two program f.locals _ _ (place_silent program f.locals line place q.0 0) (expression_silent program f.locals e q.1 _ _)).is at _) tt
    statement_matches (copy line s left right) q at k p l =
        to [] [] _ (no_more _ ∙ (two program f.locals _ _ (place_silent program f.locals line left q.0 0) (place_silent program f.locals line right q.1 _)).is at _) tt
    statement_matches (evaluate line e) q at k p l =
        to _ _ _ (evaluate_lists program f.locals line e q at k)
        (node_matches (deleting_call program e) at (statement (evaluate line e)) p k.next (λ x. unset_says x (k.next x) (k.next x) _ refl (onward x p (k.next x) (l.next x))))
    statement_matches (delete line e) q at k p l =
        let code = expression_code program f.locals e region 0 in
        to (node_if program f (Some (points e)) at (statement (delete line e)) p) (held_at (deletes program) f.locals (at + points e) k.next) _
        (ap (λ h. h ++ held_at (deletes program) f.locals (at + steps_points code) k.next) ((expression_silent program f.locals e q region 0).is at k.next) ∙ ap (λ n. held_at (deletes program) f.locals (at + n) k.next) (expression_counts program f.locals e region 0).is)
        (node_matches (Some (points e)) at (statement (delete line e)) p k.next (λ x. unset_says x (k.next x) (k.next x) _ refl (onward x p (k.next x) (l.next x))))
    statement_matches (branch line test a b) q at k p l =
        let live = λ (y : ℕ). before_code (Code_of a) k y || before_code (Code_of b) k y in
        let same_live = λ (x : ℕ). ap (λ v. v x || before_code (Code_of b) k x) (all_live program f a k) ∙ ap (λ v. before a k x || v x) (all_live program f b k) in
        let c = condition_counts program f.locals test in
        let na = statement_counts program f a in
        join _ _ _ _
        (to _ _ _ (condition_lists program f.locals test q.0 at live)
        (node_matches (deleting_call program test) at (statement (branch line test a b)) p live (λ x. unset_says x (live x) (either (before a k) (before b k) x) _ (same_live x) (paths.behind_if line test a b k p l x))))
        (join _ _ _ _
        (moved (λ n. nodes program f a n p) (Code_of a) (at + condition_points test) _ k k (omega (arith, c)) refl (statement_matches a q.1 (at + condition_points test) k p l))
        (moved (λ n. nodes program f b n p) (Code_of b) (at + condition_points test + statement_points program.structs a) _ k k (omega (arith, c, na)) refl (statement_matches b q.2 (at + condition_points test + statement_points program.structs a) k p l)))
    statement_matches (while line test a) q at k p l =
        let steps = condition_code program f.locals test in
        let k1 = round (loop_head steps (Some (condition_test program f.locals line true test)) (To.block To.done) (Code_of a) k) k in
        let round_is = ap (λ h. round h k) (while_first line test a k) in
        let live = λ (y : ℕ). k.next y || before_code (Code_of a) k1 y in
        let same_live = λ (x : ℕ). ap (λ v. k.next x || before_code (Code_of a) v x) round_is ∙ ap (λ v. k.next x || v x) (all_live program f a (while_body test a k)) in
        let c = condition_counts program f.locals test in
        join _ _ _ _
        (to _ _ _ (condition_lists program f.locals test q.0 (suc at) live)
        (node_matches (deleting_call program test) (suc at) (condition (while_loop test a)) p live (λ x. unset_says x (live x) (either k.next (before a (while_body test a k)) x) _ (same_live x) (paths.behind_while test a k p l x))))
        (to _ _ _ (no_more _)
        (moved (λ n. nodes program f a n (round_end (while_loop test a) ∷ p)) (Code_of a) (suc at + condition_points test) _ (while_body test a k) _ (omega (arith, c)) round_is
        (statement_matches a q.1 (suc at + condition_points test) (while_body test a k) (round_end (while_loop test a) ∷ p) (paths.in_while test a k p l))))
    statement_matches (repeat line a test) q at k p l =
        let head = before_code (To.repeat 0 (Code_of a) (condition_code program f.locals test) (condition_test program f.locals line true test)) k in
        let live = λ (y : ℕ). k.next y || head y in
        let same_live = λ (x : ℕ). ap (λ v. k.next x || v x) (repeat_first line test a k) in
        let na = statement_counts program f a in
        join _ _ _ _
        (moved (λ n. nodes program f a n (round_end (while_loop test a) ∷ p)) (Code_of a) (suc at) _ (repeat_body a test k) _ refl (ap (λ h. round h k) (repeat_last line test a k))
        (statement_matches a q.0 (suc at) (repeat_body a test k) (round_end (while_loop test a) ∷ p) (paths.in_do test a k p l)))
        (to _ _ _ (ap (λ n. listed program f.locals (condition_code program f.locals test) (suc at + n) live) na ∙ condition_lists program f.locals test q.1 (suc at + statement_points program.structs a) live)
        (node_matches (deleting_call program test) (suc at + statement_points program.structs a) (condition (while_loop test a)) p live (λ x. unset_says x (live x) (either k.next (repeat_head a test k) x) _ (same_live x) (paths.behind_do test a k p l x))))
    statement_matches (for line first test third a) q at k p l = for_matches line first test third a q.1 at k p l (statement_matches first q.0) (statement_matches third q.2) (statement_matches a q.3)
    statement_matches (break line) q at k p l = tt
    statement_matches (continue line) q at k p l = tt
    statement_matches (return line None) q at k p l = tt
    statement_matches (return line (Some e)) q at k p l =
        to _ _ _ (no_more (listed program f.locals (expression_code program f.locals e _ 0) at _) ∙ call_lists program f.locals e q _ 0 at _)
        (node_matches (deleting_call program e) at (statement (return line (Some e))) p (λ x. false) (λ x. never x p))

    body_matches : (body : Stmts) → ArePlaced program body → (at : ℕ) (k : Ways) (p : Point) → AreLive k p → Matches (all_nodes program f body at p) (codes_lists (deletes program) f.locals (body_code program f body) at k)
    body_matches done q at k p l = tt
    body_matches (then s rest) q at k p l =
        let n = statement_counts program f s in
        join _ _ _ _
        (moved (λ m. nodes program f s m (statements rest p)) (Code_of s) at at (then_live (before_all rest k) k) _ refl (ap (λ h. then_live h k) (body_all_live program f rest k))
        (statement_matches s q.0 at (then_live (before_all rest k) k) (statements rest p) (paths.all rest k p l)))
        (subst (λ m. Matches (all_nodes program f rest (at + statement_points program.structs s) p) (codes_lists (deletes program) f.locals (body_code program f rest) m k)) (ap (λ m. at + m) (sym n))
        (body_matches rest q.1 (at + statement_points program.structs s) k p l))

-- a program's functions
function_counts : (program : Program) (f : Function) → routine_points (routine_of program f) ≡ function_points program.structs f
function_counts program f = let e = statement_counts program f f.body in omega (arith, e)

functions_match : (paths : Paths) (program : Program) (fs : List Function) → Every (λ f. IsPlaced program f.body) fs → (at : ℕ) → AreListsOf (functions_nodes program fs at) (functions_lists (deletes program) (map (routine_of program) fs) at)
functions_match paths program [] q at = tt
functions_match paths program (f ∷ fs) q at =
    join paths program f _ _ _ _
    (statement_matches paths program f f.body q.0 (suc at) at_end [] paths.end)
    (subst (λ n. AreListsOf (functions_nodes program fs (at + function_points program.structs f)) (functions_lists (deletes program) (map (routine_of program) fs) (at + n))) (sym (function_counts program f))
    (functions_match paths program fs q.1 (at + function_points program.structs f)))

pub each_in : {A : Type 0} (P : A → Type 0) (xs : List A) → ((k : ℕ) (x : A) → slice_get xs k ≡ Some x → P x) → Every P xs
each_in P [] g = tt
each_in P (x ∷ xs) g = (g 0 x refl, each_in P xs (λ k y e. g (suc k) y e))

pub function_matches : (paths : Paths) (program : Program) → DeletesInPlace program → (k : ℕ) (f : Function) → slice_get program.functions k ≡ Some f → (at : ℕ) → AreListsOf (function_nodes program f at) (code_lists (R.deletes (region_of_program program)) f.locals (statement_code program f f.body) (suc at) at_end)
function_matches paths program q k f e at =
    subst (λ d. AreListsOf (function_nodes program f at) (code_lists d f.locals (statement_code program f f.body) (suc at) at_end)) (sym (deletes_same program))
    (statement_matches paths program f f.body (q.placed k f e) (suc at) at_end [] paths.end)

pub program_matches : (paths : Paths) (program : Program) → DeletesInPlace program → AreListsOf (deleting_nodes program) (live_lists (region_of_program program))
program_matches paths program q =
    subst (λ d. AreListsOf (deleting_nodes program) (functions_lists d (map (routine_of program) program.functions) 0)) (sym (deletes_same program))
    (functions_match paths program program.functions (each_in (λ f. IsPlaced program f.body) program.functions q.placed) 0)

pub lists_are_source_paths : Paths → ListsAreSourcePaths
lists_are_source_paths paths program w = program_matches paths program w.deleting

-- a list stands at its point, where the points increase
pub found : (from : ℕ) (hs : List Held) → Increases from (map point_in hs) → (i : ℕ) (h : Held) → slice_get hs i ≡ Some h → (from ≤ h.point) × (list_at hs h.point ≡ Some h.locals)
found from [] g i h e = cc
found from (a ∷ hs) g zero h e =
    subst (λ b. (from ≤ b.point) × (list_at (a ∷ hs) b.point ≡ Some b.locals)) (same_Some a h e) (g.0, ap (λ b. chosen_list b a.locals (list_at hs a.point)) (itself a.point))
  where
    itself : (n : ℕ) → nat_eq n n ≡ true
    itself n = grind arith
found from (a ∷ hs) g (suc i) h e =
    let r = found (suc a.point) hs g.1 i h e in
    let low = g.0 in
    let above = r.0 in
    (omega (arith, low, above), ap (λ b. chosen_list b a.locals (list_at hs h.point)) (apart a.point h.point above) ∙ r.1)
  where
    apart : (n m : ℕ) → suc n ≤ m → nat_eq n m ≡ false
    apart n m l = grind arith

of_node : (ns : List Node) (hs : List Held) → AreListsOf ns hs → (k : ℕ) (n : Node) → slice_get ns k ≡ Some n → (h : Held) × (slice_get hs k ≡ Some h) × IsListOf n h
of_node [] hs m k n e = cc
of_node (a ∷ ns) [] m k n e = absurd m
of_node (a ∷ ns) (h ∷ hs) m zero n e = (h, refl, subst (λ b. IsListOf b h) (same_Some a n e) m.0)
of_node (a ∷ ns) (h ∷ hs) m (suc k) n e = of_node ns hs m.1 k n e

pub nodes_have_their_lists : Paths → NodesHaveTheirLists
nodes_have_their_lists paths program w k n e =
    let r = region_of_program program in
    let h = of_node (deleting_nodes program) (live_lists r) (lists_are_source_paths paths program w) k n e in
    let there = found 0 (live_lists r) (lists_are_maps r).points k h.0 h.1 in
    (h.0.locals, subst (λ p. list_at (live_lists r) p ≡ Some h.0.locals) h.2.point there.1, h.2.lists)
