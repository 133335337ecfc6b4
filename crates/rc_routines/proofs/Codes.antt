-- Codes one behind the other.
use Rattle.std.proofs.Common.{◌≡◌, ◌<◌, ◌≤◌, ℕ, ◌+◌, List, [], ◌∷◌, ◌++◌, length, drop, Option, Some, None, refl, sym, ap, ◌∙◌}
use Rattle.std.specs.Prelude.{Bool, true, get_or, is_some, option_map, slice_get, Result, Ok, Err, IfOk}
use Rattle.std.specs.declared.boxed.Box.{Box}
use Rattle.std.proofs.lemmas.Option.{slice_get-map}
use Rattle.rc_core.specs.declared.ty.Ty.{Ty as CodeTy}
use Rattle.rc_core.specs.declared.parts.Function.{Function as CodeFunction}
use Rattle.rc_core.specs.declared.parts.Parts.{Parts}
use Rattle.std.specs.declared.vec.Vec.{Vec}
use Rattle.std.specs.declared.alloc.Global.{Global as Alloc}
use Rattle.rc_core.specs.declared.stmt.Stmt.{Stmt as CodeStmt}
use Rattle.rc_core.specs.Programs.{Function, Program, Struct}
use Rattle.rc_core.specs.Shapes.{function_of, program_of, stmt_of, stmts_of, ty_of}
use Rattle.rc_rlang.specs.declared.code.Code.{Code as CodeCode, Block}
use Rattle.rc_rlang.specs.RegionCode.{Code, Codes, done, then, block, loop, Steps, Test}
use Rattle.rc_rlang.specs.Shapes.{code_of, codes_of}
use Rattle.rc_rlang.proofs.ShapeRows.{made_block}
use Rattle.rc_accesses.proofs.PathTypes.{front, nothing_left}
use Rattle.rc_translation.specs.Translation.{has_result, statement_code, body_code}

abbrev pub joined : Codes → Codes → Codes
joined done d = d
joined (then c rest) d = then c (joined rest d)

pub codes_behind : (structs : List Struct) (xs : List CodeCode) (c : CodeCode) (rest : Codes) → joined (codes_of structs (xs ++ c ∷ [])) rest ≡ joined (codes_of structs xs) (then (code_of structs c) rest)
codes_behind structs [] c rest = refl
codes_behind structs (x ∷ xs) c rest = ap (then (code_of structs x)) (codes_behind structs xs c rest)

pub joined_done : (c : Codes) → joined c done ≡ c
joined_done done = refl
joined_done (then c rest) = ap (then c) (joined_done rest)

pub body_step : (structs : List Struct) (program : Program) (f : Function) (xs : List CodeStmt) (i : ℕ) (x : CodeStmt) (codes next : List CodeCode) (c : CodeCode) → i < length xs → x ≡ get_or xs i x → code_of structs c ≡ statement_code program f (stmt_of x) → next ≡ codes ++ c ∷ [] →
    joined (codes_of structs codes) (body_code program f (stmts_of (drop i xs))) ≡ joined (codes_of structs next) (body_code program f (stmts_of (drop (i + 1) xs)))
body_step structs program f xs i x codes next c h e q d =
    ap (λ ys. joined (codes_of structs codes) (body_code program f (stmts_of ys))) (front xs i x h e)
    ∙ ap (λ z. joined (codes_of structs codes) (then z (body_code program f (stmts_of (drop (i + 1) xs))))) (sym q)
    ∙ sym (codes_behind structs codes c (body_code program f (stmts_of (drop (i + 1) xs))))
    ∙ ap (λ ys. joined (codes_of structs ys) (body_code program f (stmts_of (drop (i + 1) xs)))) (sym d)

pub body_end : (structs : List Struct) (program : Program) (f : Function) (xs : List CodeStmt) (i : ℕ) (codes : List CodeCode) → length xs ≤ i → joined (codes_of structs codes) (body_code program f (stmts_of (drop i xs))) ≡ codes_of structs codes
body_end structs program f xs i codes h = ap (λ ys. joined (codes_of structs codes) (body_code program f (stmts_of ys))) (nothing_left xs i h) ∙ joined_done (codes_of structs codes)

pub empty_block : (structs : List Struct) (v : Vec CodeCode Alloc) → v.items ≡ [] → code_of structs (Block v) ≡ block done
empty_block structs v e = made_block structs v ∙ ap (λ cs. block (codes_of structs cs)) e

pub pair_block : (structs : List Struct) (v : Vec CodeCode Alloc) (xs ys : List CodeCode) (a b : CodeCode) → xs ≡ [] → ys ≡ xs ++ a ∷ [] → v.items ≡ ys ++ b ∷ [] → code_of structs (Block v) ≡ block (then (code_of structs a) (then (code_of structs b) done))
pair_block structs v xs ys a b e d q = made_block structs v ∙ ap (λ cs. block (codes_of structs cs)) (q ∙ ap (λ zs. zs ++ b ∷ []) (d ∙ ap (λ zs. zs ++ a ∷ []) e))

pub result_there : (p : Parts) (k : ℕ) (f : CodeFunction) → slice_get p.functions.items k ≡ Some f → has_result (program_of p) k ≡ is_some f.result
result_there p k f e = ap by (slice_get-map function_of p.functions.items k ∙ ap (option_map function_of) e) ∙ same f.result
  where
    by : Option Function → Bool
    by None = true
    by (Some g) = is_some g.result

    same : (o : Option CodeTy) → is_some (option_map ty_of o) ≡ is_some o
    same None = refl
    same (Some t) = refl

pub result_missing : (p : Parts) (k : ℕ) → slice_get p.functions.items k ≡ None → has_result (program_of p) k ≡ true
result_missing p k e = ap by (slice_get-map function_of p.functions.items k ∙ ap (option_map function_of) e)
  where
    by : Option Function → Bool
    by None = true
    by (Some g) = is_some g.result

-- loops of equal parts
loops : (line : ℕ) (s u : Steps) (t v : Option Test) (h m k n : Code) → s ≡ u → t ≡ v → h ≡ m → k ≡ n → loop line s t h k ≡ loop line u v m n
loops line s u t v h m k n q w x y = ap (λ i. loop line i t h k) q ∙ ap (λ i. loop line u i h k) w ∙ ap (λ i. loop line u v i k) x ∙ ap (λ i. loop line u v m i) y

pub loop_on : {E : Type 0} (r : Result (Box CodeCode Alloc) E) (structs : List Struct) (line : ℕ) (s u : Steps) (t v : Option Test) (h m k n : Code) → s ≡ u → t ≡ v → h ≡ m → k ≡ n →
    IfOk r (λ c. code_of structs c.value ≡ loop line s t h k) → IfOk r (λ c. code_of structs c.value ≡ loop line u v m n)
loop_on (Err e) structs line s u t v h m k n q w x y z = tt
loop_on (Ok c) structs line s u t v h m k n q w x y z = z ∙ loops line s u t v h m k n q w x y

-- the first part of a `for`, and the loop behind it
pub for_on : {E : Type 0} (r : Result (Box CodeCode Alloc) E) (structs : List Struct) (line : ℕ) (a b f : Code) (s u : Steps) (t v : Option Test) (h m k n : Code) → a ≡ f → b ≡ loop line s t h k → s ≡ u → t ≡ v → h ≡ m → k ≡ n →
    IfOk r (λ c. code_of structs c.value ≡ block (then a (then b done))) → IfOk r (λ c. code_of structs c.value ≡ block (then f (then (loop line u v m n) done)))
for_on (Err e) structs line a b f s u t v h m k n o p q w x y z = tt
for_on (Ok c) structs line a b f s u t v h m k n o p q w x y z =
    z ∙ ap (λ i. block (then i (then b done))) o
    ∙ ap (λ i. block (then f (then i done))) (p ∙ loops line s u t v h m k n q w x y)
