-- The image of region code does what region code does, in any world: its calls, and its main.
use Rattle.std.proofs.Common.{◌≡◌, ◌<◌, ◌≤◌, ℕ, zero, suc, ◌+◌, Bool, List, [], ◌∷◌, ◌++◌, length, Option, Some, None, refl, ap, ◌∙◌, arith, length-append}
use Rattle.std.specs.Prelude.{slice_get}
use Rattle.std.specs.Option.{option_map}
use Rattle.std.proofs.lemmas.Option.{slice_get-map}
use Rattle.std.proofs.Math.Path.{fun_ext}
use Rattle.rc_core.specs.Types.{Ty, int, unsigned, char, region, struct, pointer}
use Rattle.rc_core.specs.Heap.{Value}
use Rattle.rc_core.specs.Live.{at_end}
use Rattle.rc_core.specs.Runs.{Go, bind, Calls, Ops}
use Rattle.rc_core.specs.Evaluation.{local_at}
use Rattle.rc_core.specs.Execution.{zero_result}
use Rattle.rc_rlang.specs.RegionCode.{Routine, Rlang}
use Rattle.rc_rlang.specs.RegionRuns.{blank_temporaries, Next, Broke, Continued, Returned, deletes, sized, result_of, run_routine, calls_within, run_main}
use Rattle.rc_emission.specs.StackCode.{Line, Onward, walk, run_code, run_function, stack_calls, stack_main}
use Rattle.rc_emission.specs.StatementCode.{Place, end_lines, body_lines, Slots, stack_function, stack_code_of}
use Rattle.rc_emission.specs.Means.{IsThere, Serves}
use Rattle.rc_emission.specs.Turns.{CallsWithin, Turning}
use Rattle.rc_emission.proofs.Turning.{all_within}
use Rattle.rc_emission.proofs.CodesDo.{Agrees, code_does}

length_sized : (tys : List Ty) (vs : List Value) → length (sized tys vs) ≡ length tys
length_sized [] vs = refl
length_sized (ty ∷ tys) [] = ap suc (length_sized tys [])
length_sized (ty ∷ tys) (v ∷ vs) = ap suc (length_sized tys vs)

sized_same : (tys us : List Ty) (vs : List Value) (x : ℕ) → x < length tys → local_at (sized (tys ++ us) vs) x ≡ local_at (sized tys vs) x
sized_same [] us vs x lt = absurd (omega (arith, lt))
sized_same (ty ∷ tys) us [] zero lt = refl
sized_same (ty ∷ tys) us (v ∷ vs) zero lt = refl
sized_same (ty ∷ tys) us [] (suc x) lt = sized_same tys us [] x (omega (arith, lt))
sized_same (ty ∷ tys) us (v ∷ vs) (suc x) lt = sized_same tys us vs x (omega (arith, lt))

module _ {W : Type 0} (ops : Ops W) (turning : Turning ops) (slots : Routine → Slots) (deleting : ℕ → Bool) where
  end_does : (calls : Calls W) (again : Onward W) (f : Routine) (result : Option Ty) (line : ℕ) (locals : List Value) (w : W) →
      walk ops deleting (end_lines (slots f).slot deleting f.locals result line) calls again 0 [] locals w ≡ Go (zero_result result) w
  end_does calls again f None line locals w = refl
  end_does calls again f (Some int) line locals w = refl
  end_does calls again f (Some unsigned) line locals w = refl
  end_does calls again f (Some char) line locals w = refl
  end_does calls again f (Some region) line locals w = refl
  end_does calls again f (Some (struct k)) line locals w = refl
  end_does calls again f (Some (pointer note target)) line locals w = refl

  pub routine_is : (calls : Calls W) → CallsWithin ops calls → (f : Routine) → Serves f (slots f) → (vs : List Value) (w : W) → run_function ops deleting calls (Some (stack_function slots deleting f)) vs w ≡ run_routine ops deleting calls (Some f) vs w
  routine_is calls fine f s vs w =
      code_does ops turning deleting f.locals slot calls fine n (IsThere f (slots f)) s.behind (λ h ty there. there) s.apart room code f.body s.fits at_end start last (result_of f.result) (ops.turns_left w)
      stands agrees (ops.turns_left w) (sized f.locals vs) blank_temporaries (sized (f.locals ++ (slots f).types) vs) w (omega arith) (omega arith)
      (record { long = length_sized (f.locals ++ (slots f).types) vs; whole = length_sized f.locals vs; same = λ x lt. sized_same f.locals (slots f).types vs x lt })
    where
      slot : ℕ → Ty → ℕ
      slot = (slots f).slot

      n : ℕ
      n = length (f.locals ++ (slots f).types)

      room : length f.locals ≤ length (f.locals ++ (slots f).types)
      room = let e = length-append f.locals (slots f).types in omega (arith, e)

      code : List Line
      code = body_lines (slots f).slot deleting f

      start : Place
      start = record { at = 0; out = 0; on = 0 }

      last : List Line
      last = end_lines (slots f).slot deleting f.locals f.result f.line

      stands : (again : Onward W) (m : ℕ) (stack locals : List Value) (w : W) → walk ops deleting (body_lines (slots f).slot deleting f) calls again (0 + m) stack locals w ≡ walk ops deleting (body_lines (slots f).slot deleting f) calls again m stack locals w
      stands again m stack locals w = let e : 0 + m ≡ m = omega arith in ap (λ j. walk ops deleting (body_lines (slots f).slot deleting f) calls again j stack locals w) e

      agrees : Agrees ops turning deleting f.locals slot calls fine n (IsThere f (slots f)) s.behind (λ h ty there. there) s.apart room code (ops.turns_left w) last start (result_of f.result)
      agrees m (Next env t) locals w1 h h1 mi = end_does calls (run_code ops deleting (body_lines (slots f).slot deleting f) calls m) f f.result f.line locals w1
      agrees m (Broke env t) locals w1 h h1 mi = end_does calls (run_code ops deleting (body_lines (slots f).slot deleting f) calls m) f f.result f.line locals w1
      agrees m (Continued env t) locals w1 h h1 mi = end_does calls (run_code ops deleting (body_lines (slots f).slot deleting f) calls m) f f.result f.line locals w1
      agrees m (Returned v) locals w1 h h1 mi = refl

  any_routine_is : (calls : Calls W) → CallsWithin ops calls → (o : Option Routine) → ((f : Routine) → o ≡ Some f → Serves f (slots f)) → (vs : List Value) (w : W) → run_function ops deleting calls (option_map (stack_function slots deleting) o) vs w ≡ run_routine ops deleting calls o vs w
  any_routine_is calls fine None s vs w = refl
  any_routine_is calls fine (Some f) s vs w = routine_is calls fine f (s f refl) vs w

module _ {W : Type 0} (ops : Ops W) (turning : Turning ops) (slots : Routine → Slots) (r : Rlang) (serves : (g : ℕ) (f : Routine) → slice_get r.functions g ≡ Some f → Serves f (slots f)) where
  pub all_calls : (n g : ℕ) (vs : List Value) (w : W) → stack_calls ops (deletes r) (stack_code_of slots r) n g vs w ≡ calls_within ops r n g vs w
  all_calls zero g vs w = refl
  all_calls (suc n) g vs w = ap (bind (ops.take_turn w)) (fun_ext (λ _. fun_ext (λ w1.
      ap (λ o. run_function ops (deletes r) (stack_calls ops (deletes r) (stack_code_of slots r) n) o vs w1) (slice_get-map (stack_function slots (deletes r)) r.functions g)
      ∙ ap (λ calls. run_function ops (deletes r) calls (option_map (stack_function slots (deletes r)) (slice_get r.functions g)) vs w1) (fun_ext (λ h. fun_ext (λ us. fun_ext (λ u. all_calls n h us u))))
      ∙ any_routine_is ops turning slots (deletes r) (calls_within ops r n) (all_within ops turning r n) (slice_get r.functions g) (serves g) vs w1)))

  pub main_is : (w : W) → stack_main ops (deletes r) (stack_code_of slots r) r.main w ≡ run_main ops r w
  main_is w = all_calls (suc (ops.turns_left w)) r.main [] w
