-- Region code of a program does what the program does.
use Rattle.std.proofs.Common.{◌≡◌, ℕ, zero, suc, Bool, false, List, [], ◌∷◌, ◌++◌, map, Option, Some, None, refl, sym, ap, ◌∙◌, subst, inr}
use Rattle.std.specs.Prelude.{slice_get, option_map, take, drop}
use Rattle.std.proofs.lemmas.Option.{slice_get-map}
use Rattle.std.proofs.Math.Path.{fun_ext}
use Rattle.rc_core.specs.declared.stmt.Change.{Change}
use Rattle.rc_core.specs.Types.{Ty}
use Rattle.rc_core.specs.Heap.{Value, zero_of}
use Rattle.rc_core.specs.Programs.{Expr, Place, update, copy, Function, Program}
use Rattle.rc_core.specs.Live.{Ways, at_end}
use Rattle.rc_core.specs.Runs.{Run, Go, Stopped, bind, Calls, Ops}
use Rattle.rc_core.specs.Execution.{Flow, Next, Broke, Continued, Returned, first_locals, deletes, function_deletes, exec, result_of, run_function, calls_within, run_main}
use Rattle.rc_core.specs.Typing.{IsTyped, parameters_of}
use Rattle.rc_core.specs.Deletes.{IsPlaced}
use Rattle.rc_core.specs.Laws.{IfGoes}
use Rattle.rc_rlang.specs.RegionCode.{Rlang}
use Rattle.rc_rlang.specs.RegionRuns as R
use Rattle.rc_rlang.specs.RegionRuns.{Way, sized, blank_temporaries, code_run, routine_deletes}
use Rattle.rc_translation.specs.Translation.{parameter_types, statement_code, routine_of, region_of_program}
use Rattle.rc_translation.proofs.Sames.{Same, same_bind, same_with}
use Rattle.rc_translation.proofs.ValueKinds.{AllSuit}
use Rattle.rc_translation.proofs.Statements.{Meets, Equal, Sound, statement_meets}

-- the same functions delete
pub deletes_same : (program : Program) → R.deletes (region_of_program program) ≡ deletes program
deletes_same program = fun_ext (λ f. ap routine_deletes (slice_get-map (routine_of program) program.functions f) ∙ by (slice_get program.functions f))
  where
    by : (o : Option Function) → routine_deletes (option_map (routine_of program) o) ≡ function_deletes o
    by None = refl
    by (Some f) = refl

-- where there are as many arguments as parameters, the other locals begin as zero or null
zeros : (tys : List Ty) → sized tys [] ≡ map zero_of tys
zeros [] = refl
zeros (ty ∷ tys) = ap (λ vs. zero_of ty ∷ vs) (zeros tys)

sized_is : (n : ℕ) (tys : List Ty) (xs : List Value) → AllSuit (take n tys) xs → sized tys xs ≡ xs ++ map zero_of (drop n tys)
sized_is zero tys [] all = zeros tys
sized_is zero tys (x ∷ xs) all = absurd all
sized_is (suc n) [] [] all = refl
sized_is (suc n) [] (x ∷ xs) all = absurd all
sized_is (suc n) (ty ∷ tys) [] all = absurd all
sized_is (suc n) (ty ∷ tys) (x ∷ xs) all = ap (λ vs. x ∷ vs) (sized_is n tys xs all.1)

-- what is known of a program's runs over these operations, however many calls may stand inside one another
pub record SoundProgram {W : Type 0} (ops : Ops W) (program : Program) (Known : List Ty → List Value → W → Type 0) (Good : Function → List Value → W → Type 0) : Type 0 where
  pub sound : (n k : ℕ) (f : Function) → slice_get program.functions k ≡ Some f → Sound ops program f (calls_within ops program n) Known (Good f)
  pub begins : (k : ℕ) (f : Function) (xs : List Value) (w : W) → slice_get program.functions k ≡ Some f → AllSuit (parameters_of f) xs → Known (parameters_of f) xs w → Good f (first_locals f xs) w
  pub turns : (tys : List Ty) (xs : List Value) (w : W) → Known tys xs w → IfGoes (λ _ w1. Known tys xs w1) (ops.take_turn w)
  pub typed : (k : ℕ) (f : Function) → slice_get program.functions k ≡ Some f → IsTyped program f false f.body
  pub placed : (k : ℕ) (f : Function) → slice_get program.functions k ≡ Some f → IsPlaced program f.body

module _ {W : Type 0} (E : W → W → Type 0) (here_too : (w : W) → E w w) (ops : Ops W) (program : Program) (Known : List Ty → List Value → W → Type 0) (Good : Function → List Value → W → Type 0) (known : SoundProgram ops program Known Good)
    (updates : (j : ℕ) (f : Function) → slice_get program.functions j ≡ Some f → (n : ℕ) (calls' : Calls W) → ((h : ℕ) (ys : List Value) (w : W) → AllSuit (parameter_types program h) ys → Known (parameter_types program h) ys w → Same E Equal (calls_within ops program n h ys w) (calls' h ys w)) → (loop : Bool) (line : ℕ) (place : Place) (change : Change) (e : Expr) → IsTyped program f loop (update line place change e) → IsPlaced program (update line place change e) → (k : Ways) (env : List Value) (t : R.Temporaries) (w : W) → Good f env w →
    Same E Meets (exec ops program (update line place change e) f (calls_within ops program n) k env w) (code_run ops (deletes program) f.locals (statement_code program f (update line place change e)) calls' k env t w))
    (copies : (j : ℕ) (f : Function) → slice_get program.functions j ≡ Some f → (n : ℕ) (calls' : Calls W) → ((h : ℕ) (ys : List Value) (w : W) → AllSuit (parameter_types program h) ys → Known (parameter_types program h) ys w → Same E Equal (calls_within ops program n h ys w) (calls' h ys w)) → (loop : Bool) (line s : ℕ) (left right : Place) → IsTyped program f loop (copy line s left right) → IsPlaced program (copy line s left right) → (k : Ways) (env : List Value) (t : R.Temporaries) (w : W) → Good f env w →
    Same E Meets (exec ops program (copy line s left right) f (calls_within ops program n) k env w) (code_run ops (deletes program) f.locals (statement_code program f (copy line s left right)) calls' k env t w)) where
  abbrev r : Rlang
  r = region_of_program program

  results : (result : Option Ty) (m : Run W Flow) (m' : Run W Way) → Same E Meets m m' → Same E Equal (bind m (result_of result)) (bind m' (R.result_of result))
  results result m m' s = same_bind E Meets Equal m m' _ _ s by
    where
      by : (x : Flow) (y : Way) (w : W) → Meets x y w → Same E Equal (result_of result x w) (R.result_of result y w)
      by (Next env) (R.Next env1 t) w m = (refl, refl)
      by (Broke env) (R.Broke env1 t) w m = (refl, refl)
      by (Continued env) (R.Continued env1 t) w m = (refl, refl)
      by (Returned v) (R.Returned u) w m = (refl, m)
      by (Next env) (R.Broke env1 t) w m = absurd m
      by (Next env) (R.Continued env1 t) w m = absurd m
      by (Next env) (R.Returned u) w m = absurd m
      by (Broke env) (R.Next env1 t) w m = absurd m
      by (Broke env) (R.Continued env1 t) w m = absurd m
      by (Broke env) (R.Returned u) w m = absurd m
      by (Continued env) (R.Next env1 t) w m = absurd m
      by (Continued env) (R.Broke env1 t) w m = absurd m
      by (Continued env) (R.Returned u) w m = absurd m
      by (Returned v) (R.Next env1 t) w m = absurd m
      by (Returned v) (R.Broke env1 t) w m = absurd m
      by (Returned v) (R.Continued env1 t) w m = absurd m

  same_refl : {A : Type 0} (m : Run W A) → Same E Equal m m
  same_refl (Go x w) = (refl, refl)
  same_refl (Stopped s w) = inr (refl, here_too w)

  abbrev types_in : Option Function → List Ty
  types_in None = []
  types_in (Some g) = parameters_of g

  -- a function's body, where the calls in it do the same
  body_does : (n g : ℕ) (xs : List Value) → AllSuit (parameter_types program g) xs → ((h : ℕ) (ys : List Value) (w : W) → AllSuit (parameter_types program h) ys → Known (parameter_types program h) ys w → Same E Equal (calls_within ops program n h ys w) (R.calls_within ops r n h ys w)) →
      (o : Option Function) → slice_get program.functions g ≡ o → (w1 : W) → Known (parameter_types program g) xs w1 → Same E Equal (run_function ops program (calls_within ops program n) o xs w1) (R.run_routine ops (deletes program) (R.calls_within ops r n) (option_map (routine_of program) o) xs w1)
  body_does n g xs su ih None e w1 kn1 = (refl, refl)
  body_does n g xs su ih (Some f) e w1 kn1 =
      let suits = subst (λ tys. AllSuit tys xs) (ap types_in e) su in
      subst (λ vs. Same E Equal (run_function ops program (calls_within ops program n) (Some f) xs w1) (bind (code_run ops (deletes program) f.locals (statement_code program f f.body) (R.calls_within ops r n) at_end vs blank_temporaries w1) (R.result_of f.result))) (sym (sized_is f.parameters f.locals xs suits))
      (results f.result (exec ops program f.body f (calls_within ops program n) at_end (first_locals f xs) w1) (code_run ops (deletes program) f.locals (statement_code program f f.body) (R.calls_within ops r n) at_end (first_locals f xs) blank_temporaries w1)
      (statement_meets E here_too ops program f (calls_within ops program n) (R.calls_within ops r n) Known ih (Good f) (known.sound n g f e)
      (updates g f e n (R.calls_within ops r n) ih) (copies g f e n (R.calls_within ops r n) ih)
      false f.body (known.typed g f e) (known.placed g f e) at_end (first_locals f xs) blank_temporaries w1
      (known.begins g f xs w1 e suits (subst (λ tys. Known tys xs w1) (ap types_in e) kn1))))

  all_calls : (n g : ℕ) (xs : List Value) (w : W) → AllSuit (parameter_types program g) xs → Known (parameter_types program g) xs w → Same E Equal (calls_within ops program n g xs w) (R.calls_within ops r n g xs w)
  all_calls zero g xs w su kn = inr (refl, here_too w)
  all_calls (suc n) g xs w su kn =
      same_bind E (λ x y w1. (x ≡ y) × Known (parameter_types program g) xs w1) Equal (ops.take_turn w) (ops.take_turn w) _ _ (same_with E Equal (λ _ w1. Known (parameter_types program g) xs w1) (ops.take_turn w) (ops.take_turn w) (known.turns (parameter_types program g) xs w kn) (same_refl (ops.take_turn w))) (λ x y w1 p.
      subst (λ o. Same E Equal (run_function ops program (calls_within ops program n) (slice_get program.functions g) xs w1) (R.run_routine ops (R.deletes r) (R.calls_within ops r n) o xs w1)) (sym (slice_get-map (routine_of program) program.functions g))
      (subst (λ d. Same E Equal (run_function ops program (calls_within ops program n) (slice_get program.functions g) xs w1) (R.run_routine ops d (R.calls_within ops r n) (option_map (routine_of program) (slice_get program.functions g)) xs w1)) (sym (deletes_same program))
      (body_does n g xs su (all_calls n) (slice_get program.functions g) refl w1 p.1)))

  pub region_is_source : (w : W) → Known (parameter_types program program.main) [] w → AllSuit (parameter_types program program.main) [] → Same E Equal (run_main ops program w) (R.run_main ops r w)
  region_is_source w kn su = all_calls (suc (ops.turns_left w)) program.main [] w su kn
