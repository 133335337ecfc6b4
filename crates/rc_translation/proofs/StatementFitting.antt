-- The code of every statement keeps the discipline of temporaries, where it is typed.
use Rattle.std.proofs.Common.{◌≡◌, ℕ, suc, ◌+◌, Bool, true, false, not, List, [], ◌∷◌, ◌++◌, length, Option, Some, None, refl, ap, ◌∙◌, arith}
use Rattle.std.specs.Prelude.{option_map}
use Rattle.rc_core.specs.declared.ty.Note.TheVariants.{Plain}
use Rattle.rc_core.specs.declared.ty.Signedness.{Signedness}
use Rattle.rc_core.specs.Types.{Ty, region, pointer}
use Rattle.rc_core.specs.Typing.{value_type, IsTyped, AreTyped}
use Rattle.rc_core.specs.Programs.{Expr, constant, null, string, local, read, address, step, step_from, unary, binary, convert, not_zero, and, or, choose, is_null, same, call, new_region, new_subregion, region_of, allocate, allocate_array, putchar, getchar, Place, Stmt, block, declare, assign, store, update, copy, evaluate, delete, branch, while, repeat, for, break, continue, return, Stmts, done, then, Function, Program}
use Rattle.rc_core.specs.Execution.{local_type}
use Rattle.rc_rlang.specs.RegionCode as To
use Rattle.rc_rlang.specs.RegionCode.{Index, Access, shift_width, width, Steps, Code, both}
use Rattle.rc_rlang.specs.RegionFits.{index_types, shift_types, place_types, pushed, steps_types, act_types, StepsFit, CodeFits, CodesFit}
use Rattle.rc_translation.specs.Translation.{expression_type, argument_types, parameter_types, access, expression_code, arguments_code, place_code, has_result, one_of, condition_code, condition_test, evaluate_code, returned_type, statement_code, body_code}
use Rattle.rc_translation.proofs.Fitting.{Puts, puts_both, expression_puts, place_puts, arguments_put}

-- a place's operands are as many as its width
place_width : (a : Access) → length (place_types a) ≡ width a
place_width a = by_shift a.shift
  where
    indices_are : (is : List Index) → length (index_types is) ≡ length is
    indices_are [] = refl
    indices_are (i ∷ is) = ap suc (indices_are is)

    by_shift : (s : Option Signedness) → length (pointer Plain a.element ∷ (shift_types s ++ index_types a.indices)) ≡ suc (shift_width s + length a.indices)
    by_shift None = let e = indices_are a.indices in omega (arith, e)
    by_shift (Some s) = let e = indices_are a.indices in omega (arith, e)

module _ (program : Program) (f : Function) where
  abbrev code_of : Expr → Ty → ℕ → Steps
  code_of e ty h = expression_code program f.locals e ty h

  whole_puts : (e : Expr) → Puts (code_of e (expression_type program f.locals e) 0) 0 (expression_type program f.locals e ∷ [])
  whole_puts e = expression_puts program f.locals e (expression_type program f.locals e) 0

  condition_puts : (line : ℕ) (wanted : Bool) (e : Expr) → Puts (condition_code program f.locals e) 0 ((condition_test program f.locals line wanted e).ty ∷ [])
  condition_puts line wanted (not_zero own e) = condition_puts line (not wanted) e
  condition_puts line wanted (is_null own isnull e) = whole_puts e
  condition_puts line wanted (constant own s n) = whole_puts (constant own s n)
  condition_puts line wanted (null own) = whole_puts (null own)
  condition_puts line wanted (string own k) = whole_puts (string own k)
  condition_puts line wanted (local own x) = whole_puts (local own x)
  condition_puts line wanted (read own place) = whole_puts (read own place)
  condition_puts line wanted (address own g) = whole_puts (address own g)
  condition_puts line wanted (step own d p i) = whole_puts (step own d p i)
  condition_puts line wanted (step_from own i p) = whole_puts (step_from own i p)
  condition_puts line wanted (unary own o s e) = whole_puts (unary own o s e)
  condition_puts line wanted (binary own o s a b) = whole_puts (binary own o s a b)
  condition_puts line wanted (convert own from to e) = whole_puts (convert own from to e)
  condition_puts line wanted (and own a b) = whole_puts (and own a b)
  condition_puts line wanted (or own a b) = whole_puts (or own a b)
  condition_puts line wanted (choose own test a b) = whole_puts (choose own test a b)
  condition_puts line wanted (same own w a b) = whole_puts (same own w a b)
  condition_puts line wanted (call own g es) = whole_puts (call own g es)
  condition_puts line wanted (new_region own) = whole_puts (new_region own)
  condition_puts line wanted (new_subregion own r) = whole_puts (new_subregion own r)
  condition_puts line wanted (region_of own p) = whole_puts (region_of own p)
  condition_puts line wanted (allocate own r made) = whole_puts (allocate own r made)
  condition_puts line wanted (allocate_array own r size made) = whole_puts (allocate_array own r size made)
  condition_puts line wanted (putchar own e) = whole_puts (putchar own e)
  condition_puts line wanted (getchar own) = whole_puts (getchar own)

  place_then : (line : ℕ) (place : Place) (e : Expr) (ty : Ty) → let a = access program f.locals place in Puts (both (place_code program f.locals line place 0) (code_of e ty (width a))) 0 (place_types a ++ ty ∷ [])
  place_then line place e ty =
      let a = access program f.locals place in
      puts_both (place_code program f.locals line place 0) (code_of e ty (width a)) 0 (width a) (place_types a) (ty ∷ []) (let w = place_width a in omega (arith, w)) (place_puts program f.locals line place 0) (expression_puts program f.locals e ty (width a))

  -- steps that put just these types there, from nothing
  fits_so : (steps : Steps) (tys : List Ty) → Puts steps 0 tys → StepsFit steps 0 [] × (steps_types steps [] ≡ pushed tys [])
  fits_so steps tys p = (p.fits 0 [] refl, p.types [])

  dropped_fits : (e : Expr) → CodeFits (To.simple (code_of e (expression_type program f.locals e) 0) To.drop)
  dropped_fits e = let p = whole_puts e in (p.fits 0 [] refl, (expression_type program f.locals e, p.types []))

  evaluate_fits : (line : ℕ) (e : Expr) → CodeFits (evaluate_code program f.locals line e)
  evaluate_fits line (call own g es) = by (has_result program g)
    where
      by : (b : Bool) → CodeFits (one_of b (To.simple (code_of (call own g es) (expression_type program f.locals (call own g es)) 0) To.drop) (To.simple (arguments_code program f.locals es (parameter_types program g) 0) (To.perform own g (argument_types program f.locals es (parameter_types program g)))))
      by true = dropped_fits (call own g es)
      by false = fits_so _ _ (arguments_put program f.locals es (parameter_types program g) 0)
  evaluate_fits line (constant own s z) = dropped_fits (constant own s z)
  evaluate_fits line (null own) = dropped_fits (null own)
  evaluate_fits line (string own k) = dropped_fits (string own k)
  evaluate_fits line (local own x) = dropped_fits (local own x)
  evaluate_fits line (read own place) = dropped_fits (read own place)
  evaluate_fits line (address own g) = dropped_fits (address own g)
  evaluate_fits line (step own d p i) = dropped_fits (step own d p i)
  evaluate_fits line (step_from own i p) = dropped_fits (step_from own i p)
  evaluate_fits line (unary own o s e) = dropped_fits (unary own o s e)
  evaluate_fits line (binary own o s a b) = dropped_fits (binary own o s a b)
  evaluate_fits line (convert own from to e) = dropped_fits (convert own from to e)
  evaluate_fits line (and own a b) = dropped_fits (and own a b)
  evaluate_fits line (or own a b) = dropped_fits (or own a b)
  evaluate_fits line (choose own test a b) = dropped_fits (choose own test a b)
  evaluate_fits line (same own w a b) = dropped_fits (same own w a b)
  evaluate_fits line (new_region own) = dropped_fits (new_region own)
  evaluate_fits line (new_subregion own r) = dropped_fits (new_subregion own r)
  evaluate_fits line (region_of own p) = dropped_fits (region_of own p)
  evaluate_fits line (allocate own r made) = dropped_fits (allocate own r made)
  evaluate_fits line (allocate_array own r size made) = dropped_fits (allocate_array own r size made)
  evaluate_fits line (putchar own e) = dropped_fits (putchar own e)
  evaluate_fits line (getchar own) = dropped_fits (getchar own)
  evaluate_fits line (not_zero own e) = dropped_fits (not_zero own e)
  evaluate_fits line (is_null own w e) = dropped_fits (is_null own w e)

  returned_is : (o : Option Ty) (ty : Ty) → o ≡ Some ty → returned_type o ∷ [] ≡ pushed (act_types (To.leave 0 (option_map value_type o))) []
  returned_is None ty e = cc
  returned_is (Some u) ty e = refl

  mutual
    pub statement_fits : (loop : Bool) (s : Stmt) → IsTyped program f loop s → CodeFits (statement_code program f s)
    statement_fits loop (block body) h = body_fits loop body h
    statement_fits loop (declare line x None) h = tt
    statement_fits loop (declare line x (Some e)) h = fits_so _ _ (expression_puts program f.locals e (value_type (local_type f x)) 0)
    statement_fits loop (assign line x e) h = fits_so _ _ (expression_puts program f.locals e (value_type (local_type f x)) 0)
    statement_fits loop (store line place e) h = fits_so _ _ (place_then line place e (value_type (access program f.locals place).cell))
    statement_fits loop (update line place change e) h = fits_so _ _ (place_then line place e (expression_type program f.locals e))
    statement_fits loop (copy line s left right) h =
        let a = access program f.locals left in
        fits_so _ _ (puts_both (place_code program f.locals line left 0) (place_code program f.locals line right (width a)) 0 (width a) (place_types a) (place_types (access program f.locals right)) (let w = place_width a in omega (arith, w)) (place_puts program f.locals line left 0) (place_puts program f.locals line right (width a)))
    statement_fits loop (evaluate line e) h = evaluate_fits line e
    statement_fits loop (delete line e) h = fits_so _ _ (expression_puts program f.locals e region 0)
    statement_fits loop (branch line test a b) h = let p = condition_puts line true test in (p.fits 0 [] refl, p.types [], statement_fits loop a h.1, statement_fits loop b h.2)
    statement_fits loop (while line test body) h = let p = condition_puts line true test in (p.fits 0 [] refl, p.types [], tt, statement_fits true body h.1)
    statement_fits loop (repeat line body test) h = let p = condition_puts line true test in (statement_fits true body h.0, p.fits 0 [] refl, p.types [])
    statement_fits loop (for line first None third body) h = (statement_fits loop first h.0, ((tt, refl, statement_fits loop third h.2, statement_fits true body h.3), tt))
    statement_fits loop (for line first (Some test) third body) h = let p = condition_puts line true test in (statement_fits loop first h.0, ((p.fits 0 [] refl, p.types [], statement_fits loop third h.2, statement_fits true body h.3), tt))
    statement_fits loop (break line) h = tt
    statement_fits loop (continue line) h = tt
    statement_fits loop (return line None) h = (tt, refl)
    statement_fits loop (return line (Some e)) h = let p = expression_puts program f.locals e (returned_type f.result) 0 in (p.fits 0 [] refl, p.types [] ∙ returned_is f.result h.0 h.1.0)

    body_fits : (loop : Bool) (body : Stmts) → AreTyped program f loop body → CodesFit (body_code program f body)
    body_fits loop done h = tt
    body_fits loop (then s rest) h = (statement_fits loop s h.0, body_fits loop rest h.1)
