-- The code of a statement depends on the locals and the result alone.
use Rattle.std.proofs.Common.{◌≡◌, true, List, map, refl, ap, ◌∙◌, Option, Some, None}
use Rattle.std.specs.Prelude.{option_map}
use Rattle.rc_core.specs.Programs.{Stmt, block, declare, assign, store, update, copy, evaluate, delete, branch, while, repeat, for, break, continue, return, Stmts, done, then, Function, Program, Struct}
use Rattle.rc_core.specs.Types.{Ty}
use Rattle.std.specs.declared.vec.Vec.{Vec}
use Rattle.std.specs.declared.alloc.Global.{Global as Alloc}
use Rattle.rc_core.specs.declared.ty.Ty.{Ty as CodeTy}
use Rattle.rc_core.specs.declared.parts.Function.{Function as CodeFunction}
use Rattle.rc_core.specs.Shapes.{function_of, stmt_of, ty_of}
use Rattle.rc_rlang.specs.declared.code.Code.{Code as CodeCode}
use Rattle.rc_rlang.specs.Shapes.{code_of, routine_in}
use Rattle.rc_rlang.specs.RegionCode as To
use Rattle.rc_translation.specs.Translation.{statement_code, body_code, condition_code, condition_test, optional_condition, routine_of}
use Rattle.rc_routines.specs.Bodies.{with_locals}

module _ (program : Program) (f : Function) where
  abbrev g : Function
  g = with_locals f.locals f.result

  mutual
    pub statement_same : (s : Stmt) → statement_code program g s ≡ statement_code program f s
    statement_same (block body) = ap To.block (body_same body)
    statement_same (declare line x None) = refl
    statement_same (declare line x (Some e)) = refl
    statement_same (assign line x e) = refl
    statement_same (store line place e) = refl
    statement_same (update line place change e) = refl
    statement_same (copy line s left right) = refl
    statement_same (evaluate line e) = refl
    statement_same (delete line e) = refl
    statement_same (branch line test a b) = ap (λ c. To.branch (condition_code program f.locals test) (condition_test program f.locals line true test) c (statement_code program g b)) (statement_same a) ∙ ap (λ c. To.branch (condition_code program f.locals test) (condition_test program f.locals line true test) (statement_code program f a) c) (statement_same b)
    statement_same (while line test body) = ap (λ c. To.loop line (condition_code program f.locals test) (Some (condition_test program f.locals line true test)) (To.block To.done) c) (statement_same body)
    statement_same (repeat line body test) = ap (λ c. To.repeat line c (condition_code program f.locals test) (condition_test program f.locals line true test)) (statement_same body)
    statement_same (for line first test third body) =
        ap (λ c. To.block (To.then c (To.then (To.loop line (optional_condition program f.locals test) (option_map (condition_test program f.locals line true) test) (statement_code program g third) (statement_code program g body)) To.done))) (statement_same first)
        ∙ ap (λ c. To.block (To.then (statement_code program f first) (To.then (To.loop line (optional_condition program f.locals test) (option_map (condition_test program f.locals line true) test) c (statement_code program g body)) To.done))) (statement_same third)
        ∙ ap (λ c. To.block (To.then (statement_code program f first) (To.then (To.loop line (optional_condition program f.locals test) (option_map (condition_test program f.locals line true) test) (statement_code program f third) c) To.done))) (statement_same body)
    statement_same (break line) = refl
    statement_same (continue line) = refl
    statement_same (return line None) = refl
    statement_same (return line (Some e)) = refl

    body_same : (body : Stmts) → body_code program g body ≡ body_code program f body
    body_same done = refl
    body_same (then s rest) = ap (λ c. To.then c (body_code program g rest)) (statement_same s) ∙ ap (To.then (statement_code program f s)) (body_same rest)

abbrev made : CodeFunction → List Ty → Option Ty → To.Code → To.Routine
made f locals result body = record { parameters = f.parameters; locals = locals; result = result; deletes = f.deletes; line = f.line; body = body }

-- a function's code, from that of its body with copies of its types
pub routine_made : (structs : List Struct) (program : Program) (f : CodeFunction) (locals : Vec CodeTy Alloc) (result : Option CodeTy) (body b : CodeCode) (xs ys : List CodeTy) →
    xs ≡ f.locals.items → ys ≡ f.locals.items → map ty_of locals.items ≡ map ty_of ys → option_map ty_of result ≡ option_map ty_of f.result → body ≡ b →
    code_of structs b ≡ statement_code program (with_locals (map ty_of xs) (option_map ty_of f.result)) (stmt_of f.body) →
    routine_in structs (record { parameters = f.parameters; locals = locals; result = result; deletes = f.deletes; line = f.line; body = body }) ≡ routine_of program (function_of f)
routine_made structs program f locals result body b xs ys e d l r h c =
    ap (λ ts. made f ts (option_map ty_of result) (code_of structs body)) (l ∙ ap (map ty_of) d)
    ∙ ap (λ t. made f (map ty_of f.locals.items) t (code_of structs body)) r
    ∙ ap (made f (map ty_of f.locals.items) (option_map ty_of f.result))
    (ap (code_of structs) h ∙ c ∙ ap (λ ts. statement_code program (with_locals (map ty_of ts) (option_map ty_of f.result)) (stmt_of f.body)) e ∙ statement_same program (function_of f) (stmt_of f.body))
