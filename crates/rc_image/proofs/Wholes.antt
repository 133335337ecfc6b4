-- Functions and the whole image are read as they are spelled, and keep their rules.
use Rattle.std.proofs.Common.{◌≡◌, ℕ, suc, ◌<◌, ◌≤◌, cond, eqb, List, [], ◌∷◌, ◌++◌, length, Result, Ok, Err, refl, sym, ap, subst, ◌∙◌, append_assoc, arith, inl, inr}
use Rattle.std.specs.List.{flat_map, AllByRecursion as Every}
use Rattle.std.proofs.lemmas.Bool.{eqb-true}
use Rattle.std.proofs.lemmas.List.{append-nil, nil_from_length}
use Rattle.rc_code.specs.declared.kind.Cell.{Cell}
use Rattle.rc_code.specs.declared.kind.Storage.{Storage}
use Rattle.rc_code.specs.declared.instruction.Instruction.{Instruction}
use Rattle.rc_code.specs.declared.image.Global.{Global}
use Rattle.rc_code.specs.declared.image.Path.{Path}
use Rattle.rc_code.specs.declared.image.Function.{Function}
use Rattle.rc_code.specs.declared.image.Parts.{Parts}
use Rattle.rc_code.specs.Image.{IsNumber, InstructionFits, TypeFits, StorageFits, ResultFits, GlobalFits, PathFits, FunctionFits, FieldsFit}
use Rattle.rc_image.specs.declared.version.Version.{Version}
use Rattle.rc_image.specs.declared.version.Version.TheVariants.{One, Two}
use Rattle.rc_fields.specs.Spelling.{number, counted, type_bytes, storage_bytes, result_bytes, global_bytes, path_bytes}
use Rattle.rc_image.specs.Spelling.{instruction_bytes, lines_bytes, function_bytes, version_number, start_bytes, proofs_bytes, fields_bytes, parts_bytes, spelling}
use Rattle.rc_fields.specs.Reading.{◌>>=◌, Fault, extra, wrong_magic, wrong_version, Read, number_at, number_within, many, counted_at, types_at, global_at, path_at, storage_at, result_at}
use Rattle.rc_image.specs.Reading.{instruction_at, lines_at, head_at, body_at, function_at, proofs_at, fields_at, parts_at, letter_at, version_at, start_at, parts_of}
use Rattle.rc_fields.proofs.Codecs.{IsBytes, bind_ok, no_else, chosen, ok_is, Takes, Takes-then, Takes-nothing, Law, number_law, within_law, takes_then, many_law, counted_law}
use Rattle.rc_fields.proofs.Fields.{types_law, storage_law, result_law}
use Rattle.rc_image.proofs.Operands.{instruction_law}
use Rattle.rc_image.proofs.RunLaws.{lines_law}
use Rattle.rc_fields.proofs.Wholes.{global_law, path_law}

-- ---- functions

record HeadFits (types parameters : ℕ) (locals : List Storage) : Type 0 where
  pub parameters_fit : parameters ≤ length locals
  pub count : IsNumber (length locals)
  pub locals_fit : Every (StorageFits types) locals

head_takes : (types : ℕ) (bytes : List ℕ) (x : ℕ × List Storage × List ℕ) → types ≤ 4294967296 → IsBytes bytes → head_at types bytes ≡ Ok x
    → Takes bytes (number x.0 ++ counted storage_bytes x.1) x.2 × HeadFits types x.0 x.1
unfolding head_at
head_takes types bytes x most fits e =
    let a = takes_then number_at number IsNumber number_law (λ parameters. number_within parameters.0 4294967296 parameters.1 >>= λ count. many (storage_at types) count.0 count.1 >>= λ locals. Ok (parameters.0, locals.0, locals.1)) bytes x fits e in
    let b = takes_then (number_within a.0.0 4294967296) number (λ m. (a.0.0 ≤ m) × (m < 4294967296)) (within_law a.0.0 4294967296 (omega arith)) (λ count. many (storage_at types) count.0 count.1 >>= λ locals. Ok (a.0.0, locals.0, locals.1)) a.0.1 x a.1.rest_fits a.3 in
    let c = takes_then (many (storage_at types) b.0.0) (flat_map storage_bytes) (λ ss. (length ss ≡ b.0.0) × Every (StorageFits types) ss) (many_law (storage_at types) storage_bytes (StorageFits types) (storage_law types most) b.0.0)
    (λ locals. Ok (a.0.0, locals.0, locals.1)) b.0.1 x b.1.rest_fits b.3 in
    let made : ℕ × List Storage × List ℕ = (a.0.0, c.0.0, c.0.1) in
    let second : Takes a.0.1 (number (length c.0.0)) b.0.1 = subst (λ (n : ℕ). Takes a.0.1 (number n) b.0.1) (sym c.2.0) b.1 in
    let two = Takes-then a.0.1 (number (length c.0.0)) b.0.1 (flat_map storage_bytes c.0.0) c.0.1 second c.1 in
    subst (λ (y : ℕ × List Storage × List ℕ). Takes bytes (number y.0 ++ counted storage_bytes y.1) y.2 × HeadFits types y.0 y.1) (ok_is made x c.3)
    (Takes-then bytes (number a.0.0) a.0.1 (counted storage_bytes c.0.0) c.0.1 a.1 two, record { parameters_fit = omega (arith, c.2.0, b.2.0); count = omega (arith, c.2.0, b.2.1); locals_fit = c.2.1 })

head_again : (types parameters : ℕ) (locals : List Storage) (rest : List ℕ) → types ≤ 4294967296 → HeadFits types parameters locals
    → head_at types (number parameters ++ (counted storage_bytes locals ++ rest)) ≡ Ok (parameters, locals, rest)
unfolding head_at
head_again types parameters locals rest most fits =
    let small : parameters < 4294967296 = omega (arith, fits.parameters_fit, fits.count) in
    ap (λ (t : List ℕ). head_at types (number parameters ++ t)) (append_assoc (number (length locals)) (flat_map storage_bytes locals) rest)
    ∙ rw (
      number_law.again parameters (number (length locals) ++ (flat_map storage_bytes locals ++ rest)) small,
      (within_law parameters 4294967296 (omega arith)).again (length locals) (flat_map storage_bytes locals ++ rest) (fits.parameters_fit, fits.count),
      (many_law (storage_at types) storage_bytes (StorageFits types) (storage_law types most) (length locals)).again locals rest (refl, fits.locals_fit),
    ) refl

record BodyFits (code : List Instruction) (lines : List ℕ) : Type 0 where
  pub count : IsNumber (length code)
  pub code_fits : Every InstructionFits code
  pub lines_fit : Every IsNumber lines
  pub lined : length lines ≡ length code

code_law : Law (counted_at instruction_at) (counted instruction_bytes) (λ is. IsNumber (length is) × Every InstructionFits is)
code_law = counted_law instruction_at instruction_bytes InstructionFits instruction_law

body_takes : (v : Version) (bytes : List ℕ) (x : List Instruction × List ℕ × List ℕ) → IsBytes bytes → body_at v bytes ≡ Ok x
    → Takes bytes (counted instruction_bytes x.0 ++ lines_bytes v x.1) x.2 × BodyFits x.0 x.1
unfolding body_at
body_takes v bytes x fits e =
    let a = takes_then (counted_at instruction_at) (counted instruction_bytes) (λ is. IsNumber (length is) × Every InstructionFits is) code_law (λ code. lines_at v (length code.0) code.1 >>= λ lines. Ok (code.0, lines.0, lines.1)) bytes x fits e in
    let law = lines_law v (length a.0.0) a.2.0 in
    let b = takes_then (lines_at v (length a.0.0)) (lines_bytes v) (λ ls. (length ls ≡ length a.0.0) × Every IsNumber ls) law (λ lines. Ok (a.0.0, lines.0, lines.1)) a.0.1 x a.1.rest_fits a.3 in
    let made : List Instruction × List ℕ × List ℕ = (a.0.0, b.0.0, b.0.1) in
    subst (λ (y : List Instruction × List ℕ × List ℕ). Takes bytes (counted instruction_bytes y.0 ++ lines_bytes v y.1) y.2 × BodyFits y.0 y.1) (ok_is made x b.3)
    (Takes-then bytes (counted instruction_bytes a.0.0) a.0.1 (lines_bytes v b.0.0) b.0.1 a.1 b.1, record { count = a.2.0; code_fits = a.2.1; lines_fit = b.2.1; lined = b.2.0 })

body_again : (v : Version) (code : List Instruction) (lines rest : List ℕ) → BodyFits code lines → body_at v (counted instruction_bytes code ++ (lines_bytes v lines ++ rest)) ≡ Ok (code, lines, rest)
unfolding body_at
body_again v code lines rest fits =
    rw (code_law.again code (lines_bytes v lines ++ rest) (fits.count, fits.code_fits), (lines_law v (length code) fits.count).again lines rest (fits.lined, fits.lines_fit)) refl

function_again : (v : Version) (types : ℕ) (f : Function) (rest : List ℕ) → types ≤ 4294967296 → FunctionFits types f → function_at v types (function_bytes v f ++ rest) ≡ Ok (f, rest)
unfolding function_at
function_again v types f rest most fits =
    let body = counted instruction_bytes f.code ++ (lines_bytes v f.lines ++ rest) in
    let regrouped : function_bytes v f ++ rest ≡ number f.parameters ++ (counted storage_bytes f.locals ++ (result_bytes f.result ++ body)) = simp append_assoc in
    ap (function_at v types) regrouped
    ∙ rw (
      head_again types f.parameters f.locals (result_bytes f.result ++ body) most (record { parameters_fit = fits.parameters; count = fits.count; locals_fit = fits.locals }),
      (result_law types most).again f.result body fits.result,
      body_again v f.code f.lines rest (record { count = fits.instructions; code_fits = fits.code; lines_fit = fits.lines; lined = fits.lined }),
    ) refl

function_law : (v : Version) (types : ℕ) → types ≤ 4294967296 → Law (function_at v types) (function_bytes v) (FunctionFits types)
unfolding function_at
function_law v types most = record {
  takes = λ bytes x fits e.
      let a = bind_ok (head_at types bytes) (λ head. result_at types head.2 >>= λ result. body_at v result.1 >>= λ body.
      Ok (record { parameters = head.0; locals = head.1; result = result.0; code = body.0; lines = body.1 }, body.2)) x e in
      let h = head_takes types bytes a.0 most fits a.1 in
      let b = takes_then (result_at types) result_bytes (ResultFits types) (result_law types most) (λ result. body_at v result.1 >>= λ body.
      Ok (record { parameters = a.0.0; locals = a.0.1; result = result.0; code = body.0; lines = body.1 }, body.2)) a.0.2 x h.0.rest_fits a.2 in
      let c = bind_ok (body_at v b.0.1) (λ body. Ok (record { parameters = a.0.0; locals = a.0.1; result = b.0.0; code = body.0; lines = body.1 }, body.2)) x b.3 in
      let d = body_takes v b.0.1 c.0 b.1.rest_fits c.1 in
      let made : Function × List ℕ = (record { parameters = a.0.0; locals = a.0.1; result = b.0.0; code = c.0.0; lines = c.0.1 }, c.0.2) in
      let front = number a.0.0 ++ counted storage_bytes a.0.1 in
      let two = Takes-then bytes front a.0.2 (result_bytes b.0.0) b.0.1 h.0 b.1 in
      let three = Takes-then bytes (front ++ result_bytes b.0.0) b.0.1 (counted instruction_bytes c.0.0 ++ lines_bytes v c.0.1) c.0.2 two d.0 in
      let whole : Takes bytes (function_bytes v made.0) c.0.2 = subst (λ (t : List ℕ). Takes bytes t c.0.2) (sym (append_assoc (front ++ result_bytes b.0.0) (counted instruction_bytes c.0.0) (lines_bytes v c.0.1))) three in
      subst (λ (y : Function × List ℕ). Takes bytes (function_bytes v y.0) y.1 × FunctionFits types y.0) (ok_is made x c.2) (
        whole,
        record {
          parameters = h.1.parameters_fit;
          count = h.1.count;
          locals = h.1.locals_fit;
          result = b.2;
          instructions = d.1.count;
          code = d.1.code_fits;
          lines = d.1.lines_fit;
          lined = d.1.lined;
        },
      );
  again = λ f rest g. function_again v types f rest most g;
}

-- ---- the whole

proofs_again : (v : Version) (rest : List ℕ) → proofs_at v (proofs_bytes v ++ rest) ≡ Ok rest
unfolding proofs_at
proofs_again One rest = refl
proofs_again Two rest = rw ((within_law 0 1 (omega arith)).again 0 rest (omega arith, omega arith)) refl

proofs_take : (v : Version) (bytes rest : List ℕ) → IsBytes bytes → proofs_at v bytes ≡ Ok rest → Takes bytes (proofs_bytes v) rest
unfolding proofs_at
proofs_take One bytes rest fits e = subst (λ (r : List ℕ). Takes bytes [] r) (ok_is bytes rest e) (Takes-nothing bytes fits)
proofs_take Two bytes rest fits e =
    let a = takes_then (number_within 0 1) number (λ m. (0 ≤ m) × (m < 1)) (within_law 0 1 (omega arith)) (λ n. Ok n.1) bytes rest fits e in
    let none : a.0.0 ≡ 0 = omega (arith, a.2.1) in
    subst (λ (r : List ℕ). Takes bytes (number 0) r) (ok_is a.0.1 rest a.3) (subst (λ (n : ℕ). Takes bytes (number n) a.0.1) none a.1)

pub fields_again : (v : Version) (p : Parts) (rest : List ℕ) → FieldsFit p → fields_at v (fields_bytes v p ++ rest) ≡ Ok (p, rest)
unfolding fields_at
fields_again v p rest fits =
    let types_most : length p.types ≤ 4294967296 = omega (arith, fits.type_count) in
    let functions_most : length p.functions ≤ 4294967296 = omega (arith, fits.function_count) in
    let end = number p.main ++ rest in
    let functions = counted (function_bytes v) p.functions ++ end in
    let paths = counted path_bytes p.paths ++ functions in
    let globals = counted global_bytes p.globals ++ paths in
    let regrouped : fields_bytes v p ++ rest ≡ counted type_bytes p.types ++ globals = simp append_assoc in
    ap (fields_at v) regrouped
    ∙ rw (
      types_law.again p.types globals (fits.type_count, fits.types),
      (counted_law (global_at p.types) global_bytes (GlobalFits p.types) (global_law p.types fits.type_count)).again p.globals paths (fits.global_count, fits.globals),
      (counted_law (path_at p.types) path_bytes (PathFits p.types) (path_law p.types fits.type_count)).again p.paths functions (fits.path_count, fits.paths),
      (counted_law (function_at v (length p.types)) (function_bytes v) (FunctionFits (length p.types)) (function_law v (length p.types) types_most)).again p.functions end (fits.function_count, fits.functions),
      (within_law 0 (length p.functions) functions_most).again p.main rest (omega arith, fits.main),
    ) refl

pub parts_again : (v : Version) (p : Parts) (rest : List ℕ) → FieldsFit p → parts_at v (parts_bytes v p ++ rest) ≡ Ok (p, rest)
unfolding parts_at
parts_again v p rest fits =
    ap (parts_at v) (append_assoc (fields_bytes v p) (proofs_bytes v) rest) ∙ rw (fields_again v p (proofs_bytes v ++ rest) fits, proofs_again v rest) refl

abbrev made : List (List Cell) → List Global → List Path → List Function → (main : ℕ) → Parts
made types globals paths functions main = record { types = types; globals = globals; paths = paths; functions = functions; main = main }

-- what stands after the functions, the paths, the globals and the types
abbrev main_on : Version → List (List Cell) → List Global → List Path → List Function × List ℕ → Read Parts
main_on v types globals paths functions = number_within 0 (length functions.0) functions.1 >>= λ main. Ok (made types globals paths functions.0 main.0, main.1)

abbrev functions_on : Version → List (List Cell) → List Global → List Path × List ℕ → Read Parts
functions_on v types globals paths = counted_at (function_at v (length types)) paths.1 >>= λ functions. main_on v types globals paths.0 functions

abbrev paths_on : Version → List (List Cell) → List Global × List ℕ → Read Parts
paths_on v types globals = counted_at (path_at types) globals.1 >>= λ paths. functions_on v types globals.0 paths

abbrev globals_on : Version → List (List Cell) × List ℕ → Read Parts
globals_on v types = counted_at (global_at types.0) types.1 >>= λ globals. paths_on v types.0 globals

record TypesFit (types : List (List Cell)) : Type 0 where
  pub count : IsNumber (length types)
  pub each : Every (TypeFits (length types)) types

record GlobalsFit (types : List (List Cell)) (globals : List Global) : Type 0 where
  pub count : IsNumber (length globals)
  pub each : Every (GlobalFits types) globals

record PathsFit (types : List (List Cell)) (paths : List Path) : Type 0 where
  pub count : IsNumber (length paths)
  pub each : Every (PathFits types) paths

record FunctionsFit (types : List (List Cell)) (functions : List Function) : Type 0 where
  pub count : IsNumber (length functions)
  pub each : Every (FunctionFits (length types)) functions

abbrev pub IsTaken : Version → (bytes : List ℕ) → Parts × List ℕ → Type 0
IsTaken v bytes x = Takes bytes (fields_bytes v x.0) x.1 × FieldsFit x.0

main_taken : (v : Version) (types : List (List Cell)) (globals : List Global) (paths : List Path) (functions : List Function) (bytes r4 : List ℕ) (x : Parts × List ℕ)
    → TypesFit types → GlobalsFit types globals → PathsFit types paths → FunctionsFit types functions
    → Takes bytes (counted type_bytes types ++ counted global_bytes globals ++ counted path_bytes paths ++ counted (function_bytes v) functions) r4
    → main_on v types globals paths (functions, r4) ≡ Ok x → IsTaken v bytes x
main_taken v types globals paths functions bytes r4 x ts gs ps fs t4 e =
    let most : length functions ≤ 4294967296 = omega (arith, fs.count) in
    let f = takes_then (number_within 0 (length functions)) number (λ m. (0 ≤ m) × (m < length functions)) (within_law 0 (length functions) most)
    (λ main. Ok (made types globals paths functions main.0, main.1)) r4 x t4.rest_fits e in
    let whole : Takes bytes (fields_bytes v (made types globals paths functions f.0.0)) f.0.1
    = Takes-then bytes (counted type_bytes types ++ counted global_bytes globals ++ counted path_bytes paths ++ counted (function_bytes v) functions) r4 (number f.0.0) f.0.1 t4 f.1 in
    let fits : FieldsFit (made types globals paths functions f.0.0) = record {
      type_count = ts.count;
      types = ts.each;
      global_count = gs.count;
      globals = gs.each;
      path_count = ps.count;
      paths = ps.each;
      function_count = fs.count;
      functions = fs.each;
      main = f.2.1;
    } in
    subst (IsTaken v bytes) (ok_is (made types globals paths functions f.0.0, f.0.1) x f.3) (whole, fits)

functions_taken : (v : Version) (types : List (List Cell)) (globals : List Global) (paths : List Path) (bytes r3 : List ℕ) (x : Parts × List ℕ) → TypesFit types → GlobalsFit types globals → PathsFit types paths
    → Takes bytes (counted type_bytes types ++ counted global_bytes globals ++ counted path_bytes paths) r3 → functions_on v types globals (paths, r3) ≡ Ok x → IsTaken v bytes x
functions_taken v types globals paths bytes r3 x ts gs ps t3 e =
    let most : length types ≤ 4294967296 = omega (arith, ts.count) in
    let d = takes_then (counted_at (function_at v (length types))) (counted (function_bytes v)) (λ fs. IsNumber (length fs) × Every (FunctionFits (length types)) fs)
    (counted_law (function_at v (length types)) (function_bytes v) (FunctionFits (length types)) (function_law v (length types) most)) (main_on v types globals paths) r3 x t3.rest_fits e in
    main_taken v types globals paths d.0.0 bytes d.0.1 x ts gs ps (record { count = d.2.0; each = d.2.1 })
    (Takes-then bytes (counted type_bytes types ++ counted global_bytes globals ++ counted path_bytes paths) r3 (counted (function_bytes v) d.0.0) d.0.1 t3 d.1) d.3

paths_taken : (v : Version) (types : List (List Cell)) (globals : List Global) (bytes r2 : List ℕ) (x : Parts × List ℕ) → TypesFit types → GlobalsFit types globals
    → Takes bytes (counted type_bytes types ++ counted global_bytes globals) r2 → paths_on v types (globals, r2) ≡ Ok x → IsTaken v bytes x
paths_taken v types globals bytes r2 x ts gs t2 e =
    let c = takes_then (counted_at (path_at types)) (counted path_bytes) (λ ps. IsNumber (length ps) × Every (PathFits types) ps) (counted_law (path_at types) path_bytes (PathFits types) (path_law types ts.count))
    (functions_on v types globals) r2 x t2.rest_fits e in
    functions_taken v types globals c.0.0 bytes c.0.1 x ts gs (record { count = c.2.0; each = c.2.1 }) (Takes-then bytes (counted type_bytes types ++ counted global_bytes globals) r2 (counted path_bytes c.0.0) c.0.1 t2 c.1) c.3

globals_taken : (v : Version) (types : List (List Cell)) (bytes r1 : List ℕ) (x : Parts × List ℕ) → TypesFit types → Takes bytes (counted type_bytes types) r1 → globals_on v (types, r1) ≡ Ok x → IsTaken v bytes x
globals_taken v types bytes r1 x ts t1 e =
    let b = takes_then (counted_at (global_at types)) (counted global_bytes) (λ gs. IsNumber (length gs) × Every (GlobalFits types) gs) (counted_law (global_at types) global_bytes (GlobalFits types) (global_law types ts.count))
    (paths_on v types) r1 x t1.rest_fits e in
    paths_taken v types b.0.0 bytes b.0.1 x ts (record { count = b.2.0; each = b.2.1 }) (Takes-then bytes (counted type_bytes types) r1 (counted global_bytes b.0.0) b.0.1 t1 b.1) b.3

pub fields_take : (v : Version) (bytes : List ℕ) (x : Parts × List ℕ) → IsBytes bytes → fields_at v bytes ≡ Ok x → IsTaken v bytes x
unfolding fields_at
fields_take v bytes x fits e =
    let a = takes_then types_at (counted type_bytes) (λ ts. IsNumber (length ts) × Every (TypeFits (length ts)) ts) types_law (globals_on v) bytes x fits e in
    globals_taken v a.0.0 bytes a.0.1 x (record { count = a.2.0; each = a.2.1 }) a.1 a.3

parts_take : (v : Version) (bytes : List ℕ) (x : Parts × List ℕ) → IsBytes bytes → parts_at v bytes ≡ Ok x → Takes bytes (parts_bytes v x.0) x.1 × FieldsFit x.0
unfolding parts_at
parts_take v bytes x fits e =
    let a = bind_ok (fields_at v bytes) (λ parts. proofs_at v parts.1 >>= λ rest. Ok (parts.0, rest)) x e in
    let t = fields_take v bytes a.0 fits a.1 in
    let b = bind_ok (proofs_at v a.0.1) (λ rest. Ok (a.0.0, rest)) x a.2 in
    let made : Parts × List ℕ = (a.0.0, b.0) in
    subst (λ (y : Parts × List ℕ). Takes bytes (parts_bytes v y.0) y.1 × FieldsFit y.0) (ok_is made x b.2)
    (Takes-then bytes (fields_bytes v a.0.0) a.0.1 (proofs_bytes v) b.0 t.0 (proofs_take v a.0.1 b.0 t.0.rest_fits b.1), t.1)

letter_takes : (letter : ℕ) (bytes rest : List ℕ) → IsBytes bytes → letter_at letter bytes ≡ Ok rest → Takes bytes (letter ∷ []) rest
letter_takes letter [] rest fits e = absurd cc
letter_takes letter (b ∷ bytes) rest fits e =
    let p = no_else (eqb b letter) wrong_magic (Ok bytes) rest e in
    let same : b ≡ letter = eqb-true b letter p.0 in
    subst (λ (r : List ℕ). Takes (b ∷ bytes) (letter ∷ []) r) (ok_is bytes rest p.1) (record { parts = ap (λ (c : ℕ). c ∷ bytes) same; rest_fits = λ i. fits (suc i) })

version_takes : (bytes : List ℕ) (x : Version × List ℕ) → IsBytes bytes → version_at bytes ≡ Ok x → Takes bytes (version_number x.0 ∷ []) x.1
version_takes [] x fits e = absurd cc
version_takes (b ∷ bytes) x fits e =
    elim (chosen (eqb b 1) (Ok (One, bytes)) (cond (eqb b 2) (Ok (Two, bytes)) (Err wrong_version)) (Ok x) e) [
      | inl q ↦ subst (λ (y : Version × List ℕ). Takes (b ∷ bytes) (version_number y.0 ∷ []) y.1) (ok_is (One, bytes) x q.1) (record { parts = ap (λ (c : ℕ). c ∷ bytes) (eqb-true b 1 q.0); rest_fits = λ i. fits (suc i) })
      | inr q ↦
          let p = no_else (eqb b 2) wrong_version (Ok (Two, bytes)) x q.1 in
          subst (λ (y : Version × List ℕ). Takes (b ∷ bytes) (version_number y.0 ∷ []) y.1) (ok_is (Two, bytes) x p.1) (record { parts = ap (λ (c : ℕ). c ∷ bytes) (eqb-true b 2 p.0); rest_fits = λ i. fits (suc i) })
    ]

pub start_takes : (bytes : List ℕ) (x : Version × List ℕ) → IsBytes bytes → start_at bytes ≡ Ok x → Takes bytes (start_bytes x.0) x.1
unfolding start_at
start_takes bytes x fits e =
    let a = bind_ok (letter_at 82 bytes) (λ a. letter_at 67 a >>= λ b. letter_at 73 b >>= λ c. letter_at 77 c >>= λ d. version_at d) x e in
    let ta = letter_takes 82 bytes a.0 fits a.1 in
    let b = bind_ok (letter_at 67 a.0) (λ b. letter_at 73 b >>= λ c. letter_at 77 c >>= λ d. version_at d) x a.2 in
    let tb = letter_takes 67 a.0 b.0 ta.rest_fits b.1 in
    let c = bind_ok (letter_at 73 b.0) (λ c. letter_at 77 c >>= λ d. version_at d) x b.2 in
    let tc = letter_takes 73 b.0 c.0 tb.rest_fits c.1 in
    let d = bind_ok (letter_at 77 c.0) (λ d. version_at d) x c.2 in
    let td = letter_takes 77 c.0 d.0 tc.rest_fits d.1 in
    let te = version_takes d.0 x td.rest_fits d.2 in
    Takes-then bytes (82 ∷ []) a.0 (67 ∷ 73 ∷ 77 ∷ version_number x.0 ∷ []) x.1 ta
    (Takes-then a.0 (67 ∷ []) b.0 (73 ∷ 77 ∷ version_number x.0 ∷ []) x.1 tb
    (Takes-then b.0 (73 ∷ []) c.0 (77 ∷ version_number x.0 ∷ []) x.1 tc (Takes-then c.0 (77 ∷ []) d.0 (version_number x.0 ∷ []) x.1 td te)))

pub start_again : (v : Version) (rest : List ℕ) → start_at (start_bytes v ++ rest) ≡ Ok (v, rest)
unfolding start_at
start_again One rest = refl
start_again Two rest = refl

pub all_take : (bytes : List ℕ) (p : Parts) → IsBytes bytes → parts_of bytes ≡ Ok p → FieldsFit p × ((v : Version) × (bytes ≡ spelling v p))
unfolding parts_of
all_take bytes p fits e =
    let a = bind_ok (start_at bytes) (λ start. parts_at start.0 start.1 >>= λ parts. cond (eqb (length parts.1) 0) (Ok parts.0) (Err extra)) p e in
    let ta = start_takes bytes a.0 fits a.1 in
    let b = bind_ok (parts_at a.0.0 a.0.1) (λ parts. cond (eqb (length parts.1) 0) (Ok parts.0) (Err extra)) p a.2 in
    let tb = parts_take a.0.0 a.0.1 b.0 ta.rest_fits b.1 in
    let g = no_else (eqb (length b.0.1) 0) extra (Ok b.0.0) p b.2 in
    let nothing : b.0.1 ≡ [] = nil_from_length b.0.1 (eqb-true (length b.0.1) 0 g.0) in
    let both_parts = (Takes-then bytes (start_bytes a.0.0) a.0.1 (parts_bytes a.0.0 b.0.0) b.0.1 ta tb.0).parts in
    let whole : bytes ≡ spelling a.0.0 b.0.0 = both_parts ∙ ap (λ (r : List ℕ). spelling a.0.0 b.0.0 ++ r) nothing ∙ append-nil (spelling a.0.0 b.0.0) in
    subst (λ (y : Parts). FieldsFit y × ((v : Version) × (bytes ≡ spelling v y))) (ok_is b.0.0 p g.1) (tb.1, (a.0.0, whole))

pub all_again : (v : Version) (p : Parts) → FieldsFit p → parts_of (spelling v p) ≡ Ok p
unfolding parts_of
all_again v p fits =
    let parts : parts_at v (parts_bytes v p) ≡ Ok (p, []) = ap (parts_at v) (sym (append-nil (parts_bytes v p))) ∙ parts_again v p [] fits in
    rw (start_again v (parts_bytes v p), parts) refl

pub read_again : (bytes : List ℕ) (v : Version) (p found : Parts) → FieldsFit p → bytes ≡ spelling v p → parts_of bytes ≡ Ok found → ◌≡◌ {A = Result Parts Fault} (Ok p) (Ok found)
read_again bytes v p found fits e read = sym (ap parts_of e ∙ all_again v p fits) ∙ read
