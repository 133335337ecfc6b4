-- What a function's code names is what its bare code names, and a program's code has a function's at its place.
use Rattle.std.proofs.Common.{◌≡◌, ◌<◌, ℕ, zero, suc, List, [], ◌∷◌, ◌++◌, length, map, flat_map, drop, get_or, refl, sym, ap, ◌∙◌, arith}
use Rattle.std.proofs.lemmas.List.{length-map}
use Rattle.rc_core.specs.Types.{Ty}
use Rattle.rc_core.specs.Shapes.{ty_of}
use Rattle.rc_rlang.specs.RegionCode.{Routine, Rlang}
use Rattle.rc_emission.specs.StackCode as To
use Rattle.rc_emission.specs.StackCode.{Line, StackFunction}
use Rattle.rc_lines.specs.Bare.{bare, bare_code, lines_of}
use Rattle.rc_lines.specs.declared.function_code.FunctionCode.{FunctionCode}
use Rattle.rc_lines.specs.ProgramCode.{bare_function, function_of, IsFunctionCode, IsProgramCode}
use Rattle.rc_numbering.specs.Names.{instruction_names, instruction_paths, code_names, code_paths, result_names, types_named, routine_names, stack_of}

names_bare : (n : ℕ) (i : To.Instruction) → instruction_names (bare n i) ≡ instruction_names i
names_bare m (To.number s n) = refl
names_bare m (To.null ty) = refl
names_bare m (To.global g) = refl
names_bare m (To.get x) = refl
names_bare m (To.set x ty) = refl
names_bare m (To.arithmetic o s) = refl
names_bare m (To.unary o s) = refl
names_bare m To.zero_test = refl
names_bare m (To.null_test ty) = refl
names_bare m (To.same ty) = refl
names_bare m (To.convert to) = refl
names_bare m (To.move ty s d) = refl
names_bare m (To.load a) = refl
names_bare m (To.store a) = refl
names_bare m To.new_region = refl
names_bare m To.new_subregion = refl
names_bare m (To.region_of ty) = refl
names_bare m (To.allocate ty layout) = refl
names_bare m (To.allocate_array ty layout) = refl
names_bare m (To.delete pins) = refl
names_bare m (To.call f tys pins) = refl
names_bare m (To.perform f tys pins) = refl
names_bare m (To.leave tys) = refl
names_bare m To.putchar = refl
names_bare m To.getchar = refl
names_bare m (To.jump n) = refl
names_bare m (To.jump_zero n) = refl
names_bare m (To.back to) = refl
names_bare m To.pop = refl

pub code_names_bare : (n : ℕ) (code : List Line) → code_names (bare_code n code) ≡ code_names code
code_names_bare n [] = refl
code_names_bare n (l ∷ code) = ap (λ names. names ++ code_names (bare_code n code)) (names_bare n l.instruction) ∙ ap (λ names. instruction_names l.instruction ++ names) (code_names_bare n code)

paths_bare : (number : Ty → ℕ) (n : ℕ) (i : To.Instruction) → instruction_paths number (bare n i) ≡ instruction_paths number i
paths_bare number m (To.number s n) = refl
paths_bare number m (To.null ty) = refl
paths_bare number m (To.global g) = refl
paths_bare number m (To.get x) = refl
paths_bare number m (To.set x ty) = refl
paths_bare number m (To.arithmetic o s) = refl
paths_bare number m (To.unary o s) = refl
paths_bare number m To.zero_test = refl
paths_bare number m (To.null_test ty) = refl
paths_bare number m (To.same ty) = refl
paths_bare number m (To.convert to) = refl
paths_bare number m (To.move ty s d) = refl
paths_bare number m (To.load a) = refl
paths_bare number m (To.store a) = refl
paths_bare number m To.new_region = refl
paths_bare number m To.new_subregion = refl
paths_bare number m (To.region_of ty) = refl
paths_bare number m (To.allocate ty layout) = refl
paths_bare number m (To.allocate_array ty layout) = refl
paths_bare number m (To.delete pins) = refl
paths_bare number m (To.call f tys pins) = refl
paths_bare number m (To.perform f tys pins) = refl
paths_bare number m (To.leave tys) = refl
paths_bare number m To.putchar = refl
paths_bare number m To.getchar = refl
paths_bare number m (To.jump n) = refl
paths_bare number m (To.jump_zero n) = refl
paths_bare number m (To.back to) = refl
paths_bare number m To.pop = refl

pub code_paths_bare : (number : Ty → ℕ) (n : ℕ) (code : List Line) → code_paths number (bare_code n code) ≡ code_paths number code
code_paths_bare number n [] = refl
code_paths_bare number n (l ∷ code) = ap (λ paths. paths ++ code_paths number (bare_code n code)) (paths_bare number n l.instruction) ∙ ap (λ paths. instruction_paths number l.instruction ++ paths) (code_paths_bare number n code)

-- what a function names, said of its code
pub routine_named : (r : Rlang) (f : Routine) (c : FunctionCode) → IsFunctionCode r f c → types_named (map ty_of c.locals.items) ++ (result_names f.result ++ code_names (lines_of c.lines.items)) ≡ routine_names r f
routine_named r f c h =
    let code = (stack_of r f).code in
    ap (λ (s : StackFunction). types_named s.locals ++ (result_names f.result ++ code_names s.code)) h
    ∙ ap (λ names. types_named (stack_of r f).locals ++ (result_names f.result ++ names)) (code_names_bare (length code) code)

-- the paths of all functions, said of their code
paths_named : (number : Ty → ℕ) (cs : List FunctionCode) (fs : List StackFunction) → map function_of cs ≡ map bare_function fs → flat_map (code_paths number) (map (λ (c : FunctionCode). lines_of c.lines.items) cs) ≡ flat_map (λ (s : StackFunction). code_paths number s.code) fs
paths_named number [] [] e = refl
paths_named number [] (s ∷ fs) e = absurd (cc e)
paths_named number (c ∷ cs) [] e = absurd (cc e)
paths_named number (c ∷ cs) (s ∷ fs) e =
    let head : function_of c ≡ bare_function s = ap (λ l. get_or l 0 (bare_function s)) e in
    let tail : map function_of cs ≡ map bare_function fs = ap (drop 1) e in
    ap (λ (t : StackFunction). code_paths number t.code ++ flat_map (code_paths number) (map (λ (c : FunctionCode). lines_of c.lines.items) cs)) head
    ∙ ap (λ paths. paths ++ flat_map (code_paths number) (map (λ (c : FunctionCode). lines_of c.lines.items) cs)) (code_paths_bare number (length s.code) s.code)
    ∙ ap (λ paths. code_paths number s.code ++ paths) (paths_named number cs fs tail)

flat_of_map : {A B C : Type 0} (f : B → List C) (g : A → B) (xs : List A) → flat_map f (map g xs) ≡ flat_map (λ x. f (g x)) xs
flat_of_map f g [] = refl
flat_of_map f g (x ∷ xs) = ap (λ l. f (g x) ++ l) (flat_of_map f g xs)

-- the paths of a whole program
pub program_paths_named : (number : Ty → ℕ) (r : Rlang) (cs : List FunctionCode) → IsProgramCode r cs → flat_map (code_paths number) (map (λ (c : FunctionCode). lines_of c.lines.items) cs) ≡ flat_map (λ f. code_paths number (stack_of r f).code) r.functions
program_paths_named number r cs is = paths_named number cs (map (stack_of r) r.functions) is ∙ flat_of_map (λ (s : StackFunction). code_paths number s.code) (stack_of r) r.functions

-- the code of the function at a place
module _ {C : Type 0} (made : Routine → StackFunction) (routine : C → Routine) where
  pub code_at : (cs : List FunctionCode) (routines : List C) → map function_of cs ≡ map bare_function (map made (map routine routines)) → (k : ℕ) (c : FunctionCode) (x : C) → k < length routines → c ≡ get_or cs k c → x ≡ get_or routines k x → function_of c ≡ bare_function (made (routine x))
  code_at cs [] e k c x h p q = absurd (omega (arith, h))
  code_at [] (y ∷ routines) e k c x h p q = absurd (cc e)
  code_at (d ∷ cs) (y ∷ routines) e zero c x h p q = ap function_of p ∙ ap (λ l. get_or l 0 (bare_function (made (routine y)))) e ∙ ap (λ z. bare_function (made (routine z))) (sym q)
  code_at (d ∷ cs) (y ∷ routines) e (suc k) c x h p q = code_at cs routines (ap (drop 1) e) k c x (omega (arith, h)) p q

  pub as_many : (cs : List FunctionCode) (routines : List C) → map function_of cs ≡ map bare_function (map made (map routine routines)) → length cs ≡ length routines
  as_many cs routines e = sym (length-map cs function_of) ∙ ap length e ∙ length-map (map made (map routine routines)) bare_function ∙ length-map (map routine routines) made ∙ length-map routines routine
