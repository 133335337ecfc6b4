-- The image of sayable code keeps the rules of images: whole functions, and the image.
use Rattle.std.proofs.Common.{◌≡◌, ◌<◌, ◌≤◌, ℕ, zero, suc, ◌+◌, Bool, true, false, List, [], ◌∷◌, ◌++◌, length, map, take, drop, get_or, Option, Some, None, refl, sym, ap, ◌∙◌, subst, arith, length-append}
use Rattle.std.specs.Prelude.{slice_get}
use Rattle.std.specs.List.{AllByRecursion as Every}
use Rattle.rc_core.specs.declared.ty.NumberType.TheVariants.{Int, Unsigned, Char}
use Rattle.rc_core.specs.Types.{Ty, int, unsigned, char, region, struct, pointer}
use Rattle.rc_rlang.specs.RegionCode.{Routine, Rlang}
use Rattle.rc_rlang.specs.RegionFits.{dropped}
use Rattle.rc_rlang.specs.RegionNames.{object_type, result_type}
use Rattle.rc_rlang.specs.RegionRuns.{deletes}
use Rattle.rc_emission.specs.StackCode.{Line}
use Rattle.rc_emission.specs.StackCode as From
use Rattle.rc_emission.specs.OperationCode.{line_of}
use Rattle.rc_stack_rules.specs.LoaderRules.{kinds, Lands, Sound, Jumps}
use Rattle.rc_stack_rules.specs.Loadable.{all_locals}
use Rattle.rc_stack_rules.specs.Named.{AllNamed}
use Rattle.rc_stack_rules.proofs.Loading.{ends_in_return}
use Rattle.rc_stack_rules.proofs.NamedLocals.{names_locals}
use Rattle.rc_code.specs.declared.opcode.Simple.TheVariants as simple
use Rattle.rc_code.specs.declared.instruction.Instruction.{Instruction}
use Rattle.rc_code.specs.declared.instruction.Instruction.TheVariants as instruction
use Rattle.rc_code.specs.declared.image.Function.{Function}
use Rattle.rc_code.specs.Running.{reading_of}
use Rattle.rc_code.specs.Soundness.{result_kinds, instruction_at, kinds_before, after, Operands, Targets, Empty, IsFine, ends, FunctionIsSound, SoundUnmarked}
use Rattle.rc_numbering.specs.Names.{instruction_names, code_names, instruction_paths, code_paths, stack_of}
use Rattle.rc_numbering.specs.Numbered.{numbered, numbered_from, storage_of, function_of, type_in, path_in, image_of}
use Rattle.rc_numbering.specs.Sayable.{Sayable, AllSayable, result_types}
use Rattle.rc_numbering.specs.Means.{FunctionFits, IsNumberable}
use Rattle.rc_numbering.proofs.Tabled.{every_before, every_behind}
use Rattle.rc_numbering.proofs.Rights.{function_found}
use Rattle.rc_numbering.proofs.Programs.{code_in, paths_in, function_said, function_loads}
use Rattle.rc_numbering.proofs.Rows.{length_mapped, code, F, K, TypeIn, PathIn, Step, stack_after, StackOperands, step}
use Rattle.std.specs.Option.{option_map}

module _ (r : Rlang) (f : Routine) where
  abbrev number : (at : ℕ) → List Line → List Instruction
  number at lines = numbered_from (type_in r) (path_in r) at lines

  abbrev one : (at : ℕ) → From.Instruction → Instruction
  one at i = numbered (type_in r) (path_in r) at i

  length_numbered : (lines : List Line) (at : ℕ) → length (number at lines) ≡ length lines
  length_numbered [] at = refl
  length_numbered (l ∷ lines) at = ap suc (length_numbered lines (suc at))

  -- each instruction steps
  Steps : (at : ℕ) → List Line → Type 0
  Steps at [] = Unit {0}
  Steps at (l ∷ lines) = Step r f at l.instruction × Steps (suc at) lines

  all_step : (deleting : ℕ → Bool) (lines : List Line) (at : ℕ) → AllSayable r f deleting lines → AllNamed f.locals (length (all_locals f)) lines → Every (TypeIn r f) (code_names lines) → Every (PathIn r f) (code_paths (type_in r) lines) → Steps at lines
  unfolding Steps
  all_step deleting [] at said named types paths = tt
  all_step deleting (l ∷ lines) at said named types paths = (
    step r f at l.instruction deleting said.0 named.0 (every_before (TypeIn r f) (instruction_names l.instruction) (code_names lines) types) (every_before (PathIn r f) (instruction_paths (type_in r) l.instruction) (code_paths (type_in r) lines) paths),
    all_step deleting lines (suc at) said.1 named.1 (every_behind (TypeIn r f) (instruction_names l.instruction) (code_names lines) types) (every_behind (PathIn r f) (instruction_paths (type_in r) l.instruction) (code_paths (type_in r) lines) paths),
  )

  abbrev none : ℕ → Type 0
  none n = ⊥

  abbrev LandsHere : List Line → List Ty → ℕ → Type 0
  LandsHere lines ks n = Lands (all_locals f) (object_type r) (result_type r) none lines ks n

  abbrev SoundHere : (mark : ℕ → Type 0) → ℕ → List Line → List Ty → Type 0
  SoundHere mark at lines ks = Sound (all_locals f) (object_type r) (result_type r) none mark at lines ks []

  -- an empty stack at an instruction
  abbrev IsBare : ℕ → Type 0
  IsBare n = (n < length (F r f).code) × (kinds_before (code r f) (F r f) n ≡ [])

  -- the rest of a function's code, from a place on
  record Rest (at : ℕ) (lines : List Line) (ks : List Ty) : Type 0 where
    each : (k : ℕ) → instruction_at (F r f) (at + k) ≡ get_or (number at lines) k (instruction.Simple simple.Return)
    before : kinds_before (code r f) (F r f) at ≡ map (K r f) ks
    long : length (F r f).code ≡ at + length lines

  next_rest : (at : ℕ) (l : Line) (lines : List Line) (ks : List Ty) → Step r f at l.instruction → StackOperands r f l.instruction ks → Rest at (l ∷ lines) ks → Rest (suc at) lines (stack_after r f l.instruction ks)
  next_rest at l lines ks s o rest = record {
    each = λ k. let e : suc at + k ≡ at + suc k = omega arith in ap (instruction_at (F r f)) e ∙ rest.each (suc k);
    before =
        (let e : at + 0 ≡ at = omega arith in ap (λ i. after (code r f) (F r f) i (kinds_before (code r f) (F r f) at)) (ap (instruction_at (F r f)) (sym e) ∙ rest.each 0))
        ∙ ap (after (code r f) (F r f) (one at l.instruction)) rest.before
        ∙ s.after_is ks o;
    long = let m = rest.long in omega (arith, m);
  }

  lands_bare : (mark : ℕ → Type 0) (lines : List Line) (at : ℕ) (ks : List Ty) → SoundHere mark at lines ks → Steps at lines → Rest at lines ks → (n : ℕ) → LandsHere lines ks n → IsBare (at + n)
  unfolding Steps
  lands_bare mark [] at ks sound steps rest n lands = absurd lands
  lands_bare mark (l ∷ lines) at ks sound steps rest zero lands =
      let m = rest.long in
      let e : at + 0 ≡ at = omega arith in
      (omega (arith, m), ap (kinds_before (code r f) (F r f)) e ∙ rest.before ∙ ap (map (K r f)) lands)
  lands_bare mark (l ∷ lines) at ks sound steps rest (suc n) lands =
      let e : suc at + n ≡ at + suc n = omega arith in
      subst IsBare e (lands_bare mark lines (suc at) (stack_after r f l.instruction ks) sound.2 steps.1 (next_rest at l lines ks steps.0 sound.0 rest) n lands)

  dropped_same : (n : ℕ) (ks : List Ty) → drop n (map (K r f) ks) ≡ map (K r f) (dropped n ks)
  dropped_same zero ks = refl
  dropped_same (suc n) [] = refl
  dropped_same (suc n) (k ∷ ks) = dropped_same n ks

  count_there : (o : Option Ty) (tys : List Ty) → kinds tys ≡ kinds (result_types o) → length (result_kinds (option_map (storage_of (type_in r) (path_in r)) o)) ≡ length (kinds tys)
  count_there None tys e = sym (ap length e)
  count_there (Some t) tys e = sym (ap length e)

  -- where an instruction leads
  leads : (mark : ℕ → Type 0) (at : ℕ) (i : From.Instruction) (lines : List Line) (ks : List Ty) → Jumps (all_locals f) (object_type r) (result_type r) none mark at i lines (stack_after r f i ks) → StackOperands r f i ks → Sayable r f (deletes r) i
      → ((n : ℕ) → LandsHere lines (stack_after r f i ks) n → IsBare (suc at + n)) → ((n : ℕ) → mark n → IsBare n)
      → Targets (code r f) (F r f) at (one at i) × Empty (code r f) (F r f) (one at i) (map (K r f) ks)
  leads mark at (From.number s n) lines ks jumps operands said lands marks = (tt, tt)
  leads mark at (From.null int) lines ks jumps operands said lands marks = (tt, tt)
  leads mark at (From.null unsigned) lines ks jumps operands said lands marks = (tt, tt)
  leads mark at (From.null char) lines ks jumps operands said lands marks = (tt, tt)
  leads mark at (From.null region) lines ks jumps operands said lands marks = (tt, tt)
  leads mark at (From.null (struct k)) lines ks jumps operands said lands marks = (tt, tt)
  leads mark at (From.null (pointer note target)) lines ks jumps operands said lands marks = (tt, tt)
  leads mark at (From.global g) lines ks jumps operands said lands marks = (tt, tt)
  leads mark at (From.get x) lines ks jumps operands said lands marks = (tt, tt)
  leads mark at (From.set x ty) lines ks jumps operands said lands marks = (tt, tt)
  leads mark at (From.arithmetic o s) lines ks jumps operands said lands marks = (tt, tt)
  leads mark at (From.unary o s) lines ks jumps operands said lands marks = (tt, tt)
  leads mark at From.zero_test lines ks jumps operands said lands marks = (tt, tt)
  leads mark at (From.null_test int) lines ks jumps operands said lands marks = (tt, tt)
  leads mark at (From.null_test unsigned) lines ks jumps operands said lands marks = (tt, tt)
  leads mark at (From.null_test char) lines ks jumps operands said lands marks = (tt, tt)
  leads mark at (From.null_test region) lines ks jumps operands said lands marks = (tt, tt)
  leads mark at (From.null_test (struct k)) lines ks jumps operands said lands marks = (tt, tt)
  leads mark at (From.null_test (pointer note target)) lines ks jumps operands said lands marks = (tt, tt)
  leads mark at (From.same int) lines ks jumps operands said lands marks = (tt, tt)
  leads mark at (From.same unsigned) lines ks jumps operands said lands marks = (tt, tt)
  leads mark at (From.same char) lines ks jumps operands said lands marks = (tt, tt)
  leads mark at (From.same region) lines ks jumps operands said lands marks = (tt, tt)
  leads mark at (From.same (struct k)) lines ks jumps operands said lands marks = (tt, tt)
  leads mark at (From.same (pointer note target)) lines ks jumps operands said lands marks = (tt, tt)
  leads mark at (From.convert Int) lines ks jumps operands said lands marks = (tt, tt)
  leads mark at (From.convert Unsigned) lines ks jumps operands said lands marks = (tt, tt)
  leads mark at (From.convert Char) lines ks jumps operands said lands marks = (tt, tt)
  leads mark at (From.move ty s direction) lines ks jumps operands said lands marks = (tt, tt)
  leads mark at (From.load a) lines ks jumps operands said lands marks = (tt, tt)
  leads mark at (From.store a) lines ks jumps operands said lands marks = (tt, tt)
  leads mark at From.new_region lines ks jumps operands said lands marks = (tt, tt)
  leads mark at From.new_subregion lines ks jumps operands said lands marks = (tt, tt)
  leads mark at (From.region_of ty) lines ks jumps operands said lands marks = (tt, tt)
  leads mark at (From.allocate ty layout) lines ks jumps operands said lands marks = (tt, tt)
  leads mark at (From.allocate_array ty layout) lines ks jumps operands said lands marks = (tt, tt)
  leads mark at (From.delete pins) lines ks jumps operands said lands marks = (tt, tt)
  leads mark at (From.call g tys pins) lines ks jumps operands said lands marks = (tt, tt)
  leads mark at (From.perform g tys pins) lines ks jumps operands said lands marks = (tt, tt)
  leads mark at (From.leave tys) lines ks jumps operands said lands marks = (tt, ap (λ n. drop n (map (K r f) ks)) (count_there f.result tys said) ∙ dropped_same (length (kinds tys)) ks ∙ ap (map (K r f)) jumps)
  leads mark at From.putchar lines ks jumps operands said lands marks = (tt, tt)
  leads mark at From.getchar lines ks jumps operands said lands marks = (tt, tt)
  leads mark at (From.jump n) lines ks jumps operands said lands marks = let b = lands n jumps.1 in ((omega arith, b.0, b.1), ap (map (K r f)) jumps.0)
  leads mark at (From.jump_zero n) lines ks jumps operands said lands marks = let b = lands n jumps.1 in ((omega arith, b.0, b.1), dropped_same 1 ks ∙ ap (map (K r f)) jumps.0)
  leads mark at (From.back to) lines ks jumps operands said lands marks = let b = marks to jumps.2 in ((jumps.1, b.0, b.1), ap (map (K r f)) jumps.0)
  leads mark at From.pop lines ks jumps operands said lands marks = (tt, tt)

  fine : (mark : ℕ → Type 0) → ((n : ℕ) → mark n → IsBare n) → (lines : List Line) (at : ℕ) (ks : List Ty) → SoundHere mark at lines ks → AllSayable r f (deletes r) lines → Steps at lines → Rest at lines ks
      → (n : ℕ) (i : Instruction) → slice_get (number at lines) n ≡ Some i → IsFine false (code r f) (F r f) (at + n) i
  unfolding Steps
  fine mark marks [] at ks sound said steps rest n i there = absurd (cc there)
  fine mark marks (l ∷ lines) at ks sound said steps rest zero i there =
      let e : at + 0 ≡ at = omega arith in
      let same : one at l.instruction ≡ i = cc in
      let on = next_rest at l lines ks steps.0 sound.0 rest in
      let led = leads mark at l.instruction lines ks sound.1 sound.0 said.0 (λ n x. lands_bare mark lines (suc at) (stack_after r f l.instruction ks) sound.2 steps.1 on n x) marks in
      subst (λ m. IsFine false (code r f) (F r f) m i) (sym e) (subst (IsFine false (code r f) (F r f) at) same (record {
        names = steps.0.names;
        operands = subst (λ k. Operands (code r f) (F r f) (one at l.instruction) k) (sym rest.before) (steps.0.operands ks sound.0);
        targets = led.0;
        empty = subst (λ k. Empty (code r f) (F r f) (one at l.instruction) k) (sym rest.before) led.1;
      }))
  fine mark marks (l ∷ lines) at ks sound said steps rest (suc n) i there =
      let e : suc at + n ≡ at + suc n = omega arith in
      subst (λ m. IsFine false (code r f) (F r f) m i) e (fine mark marks lines (suc at) (stack_after r f l.instruction ks) sound.2 said.1 steps.1 (next_rest at l lines ks steps.0 sound.0 rest) n i there)

  ends_so : (before : List Line) (values : List Ty) (at n : ℕ) (i : Instruction) → slice_get (number at (before ++ line_of f.line (From.leave values) ∷ [])) n ≡ Some i → suc n ≡ length (before ++ line_of f.line (From.leave values) ∷ []) → ends i ≡ true
  ends_so [] values at zero i there e = ap ends (let q : i ≡ one at (From.leave values) = cc in q)
  ends_so [] values at (suc n) i there e = absurd (omega (arith, e))
  ends_so (l ∷ before) values at zero i there e = let a = length-append before (line_of f.line (From.leave values) ∷ []) in absurd (omega (arith, e, a))
  ends_so (l ∷ before) values at (suc n) i there e = ends_so before values (suc at) n i there (omega (arith, e))

  module _ (k : ℕ) (there : slice_get r.functions k ≡ Some f) (fits : FunctionFits r f) where
    abbrev lines : List Line
    lines = (stack_of r f).code

    steps_here : Steps 0 lines
    steps_here = all_step (deletes r) lines 0 (function_said r f fits) (names_locals f (fits.in_order.0, fits.in_order.1, fits.sets) (deletes r)) (code_in r k f there) (paths_in r k f there)

    whole : Rest 0 lines []
    whole = record { each = λ j. let e : 0 + j ≡ j = omega arith in ap (instruction_at (F r f)) e; before = refl; long = length_numbered lines 0 ∙ omega arith }

    pub function_sound : FunctionIsSound false (code r f) (F r f)
    function_sound =
        let sound = function_loads r f fits in
        let last = ends_in_return (object_type r) (result_type r) f (deletes r) in
        let long = length_numbered lines 0 in
        let a = ap length last.2 in
        let b = length-append last.0 (line_of f.line (From.leave last.1) ∷ []) in
        let marks : (n : ℕ) → LandsHere lines [] n → IsBare n = λ n l. let e : 0 + n ≡ n = omega arith in subst IsBare e (lands_bare (λ n. LandsHere lines [] n) lines 0 [] sound steps_here whole n l) in
        record {
          begins = omega (arith, long, a, b);
          fine = λ n i e. let z : 0 + n ≡ n = omega arith in subst (λ m. IsFine false (code r f) (F r f) m i) z (fine (λ n. LandsHere lines [] n) marks lines 0 [] sound (function_said r f fits) steps_here whole n i e);
          last = λ n i e q. ends_so last.0 last.1 0 n i (subst (λ ls. slice_get (number 0 ls) n ≡ Some i) last.2 e) (let c = long in omega (arith, q, c, a));
        }

module _ (r : Rlang) (numberable : IsNumberable r) where
  below_there : (rs : List Routine) (k : ℕ) → k < length rs → (f : Routine) × (slice_get rs k ≡ Some f)
  below_there [] k lt = absurd (omega (arith, lt))
  below_there (f ∷ rs) zero lt = (f, refl)
  below_there (f ∷ rs) (suc k) lt = below_there rs k (omega (arith, lt))

  result_given : Option Routine → Option Ty
  result_given None = None
  result_given (Some h) = h.result

  pub image_sound : SoundUnmarked (image_of r)
  unfolding result_given
  image_sound = record {
    functions = λ k lt.
        let b = below_there r.functions k (let c = length_mapped (λ h. function_of (type_in r) (path_in r) (stack_of r h) h) r.functions in omega (arith, c, lt)) in
        subst (FunctionIsSound false (reading_of (image_of r))) (sym (function_found r k b.0 b.1)) (function_sound r b.0 k b.1 (numberable.functions k b.0 b.1));
    main_takes = ap (λ (h : Function). h.parameters) (function_found r r.main numberable.main.routine numberable.main.there) ∙ no_parameters numberable.main.routine.parameters numberable.main.routine.locals numberable.main.few numberable.main.parameters_are;
    main_gives = ap (λ (h : Function). h.result) (function_found r r.main numberable.main.routine numberable.main.there) ∙ ap (option_map (storage_of (type_in r) (path_in r))) (sym (ap result_given numberable.main.there) ∙ numberable.gives);
  }
    where
      no_parameters : (n : ℕ) (ts : List Ty) → n ≤ length ts → [] ≡ take n ts → n ≡ 0
      no_parameters zero ts le e = refl
      no_parameters (suc n) [] le e = absurd (omega (arith, le))
      no_parameters (suc n) (t ∷ ts) le e = absurd (cc e)
