-- What arguments are converted to, one after another.
use Rattle.std.proofs.Common.{◌≡◌, ◌<◌, ◌+◌, ℕ, zero, suc, refl, ap, sym, ◌∙◌, List, [], ◌∷◌, ◌++◌, append_assoc, Option, Some, None, Bool, true, false, ◌&&◌, nat_eq, length, map, drop, is_none, is_some, ◌≤◌, arith, add-one}
use Rattle.rc_syntax.specs.declared.tree.Spot.{Spot}
use Rattle.std.proofs.lemmas.List.{map-append}
use Rattle.std.specs.declared.boxed.Box.{Box}
use Rattle.std.specs.declared.alloc.Global.{Global as Alloc}
use Rattle.rc_core.specs.declared.ty.Ty.{Ty as CodeTy}
use Rattle.std.specs.declared.vec.Vec.{Vec}
use Rattle.rc_core.specs.declared.expr.Expr.{Expr as CodeExpr, Call}
use Rattle.rc_core.specs.Programs.{Expr, call}
use Rattle.rc_core.specs.Shapes.{ty_of, expr_of, arguments_listed}
use Rattle.rc_core.proofs.ShapeRows.{call_is}
use Rattle.rc_deletes.specs.declared.fault.Refusal.TheVariants.{Unknown, Mistyped, Arity}
use Rattle.rc_deletes.specs.Judged.{Holds, first_fault}
use Rattle.rc_deletes.specs.Values.{Typed}
use Rattle.rc_deletes.specs.Builtins.{Parameter, of_type}
use Rattle.rc_deletes.specs.Calls.{Callee, is_defined, is_function, gives, parameters, fitted_arguments, with_argument, call_rule}
use Rattle.rc_rules.specs.Parameters.{fitted_at}
use Rattle.rc_rules.specs.Shapes.{code_of}

-- the arguments that are converted, and what the rest gives
abbrev pub after : List Expr → Option (List Expr) → Option (List Expr)
after es None = None
after es (Some rest) = Some (es ++ rest)

pub after_nil : (r : Option (List Expr)) → after [] r ≡ r
after_nil None = refl
after_nil (Some rest) = refl

pub after_more : (es : List Expr) (e : Expr) (r : Option (List Expr)) → after es (with_argument (Some e) r) ≡ after (es ++ e ∷ []) r
after_more es e None = refl
after_more es e (Some rest) = ap Some (sym (append_assoc es (e ∷ []) rest))

taken : (ps : List Parameter) (place : ℕ) (v : Typed) (vs : List Typed) → place < length ps → fitted_arguments (drop place ps) (v ∷ vs) ≡ with_argument (fitted_at ps place v) (fitted_arguments (drop (suc place) ps) vs)
taken [] place v vs h = absurd (omega arith)
taken (p ∷ ps) zero v vs h = refl
taken (p ∷ ps) (suc k) v vs h = taken ps k v vs (omega arith)

-- an argument at the place of a parameter
pub argument_taken : (ps : List Parameter) (place : ℕ) (v : Typed) (vs : List Typed) → place < length ps → fitted_arguments (drop place ps) (v ∷ vs) ≡ with_argument (fitted_at ps place v) (fitted_arguments (drop (place + 1) ps) vs)
argument_taken ps place v vs h = rw add-one (taken ps place v vs h)

-- what a call is refused for, and what it holds

pub call_unknown : (wanted : Bool) (at : Spot) (f : Callee) (vs : List Typed) → is_defined f ≡ false → first_fault (call_rule wanted at f vs) ≡ Some (record { at = at; refusal = Unknown })
call_unknown wanted at f vs d = rw d refl

pub call_no_function : (wanted : Bool) (at : Spot) (f : Callee) (vs : List Typed) → is_defined f ≡ true → is_function f ≡ false → first_fault (call_rule wanted at f vs) ≡ Some (record { at = at; refusal = Mistyped })
call_no_function wanted at f vs d k = rw (d, k) refl

pub call_mistyped : (wanted : Bool) (at : Spot) (f : Callee) (vs : List Typed) → is_defined f ≡ true → is_function f ≡ true → fitted_arguments (parameters f) vs ≡ None → first_fault (call_rule wanted at f vs) ≡ Some (record { at = at; refusal = Mistyped })
call_mistyped wanted at f vs d k p = rw (d, k, p) refl

pub call_without_value : (wanted : Bool) (at : Spot) (f : Callee) (vs : List Typed) (es : List Expr) → is_defined f ≡ true → is_function f ≡ true → fitted_arguments (parameters f) vs ≡ Some es → (wanted && is_none (gives f)) ≡ true → first_fault (call_rule wanted at f vs) ≡ Some (record { at = at; refusal = Mistyped })
call_without_value wanted at f vs es d k p w = rw (d, k, p, w) refl

pub call_arity : (wanted : Bool) (at : Spot) (f : Callee) (vs : List Typed) (es : List Expr) → is_defined f ≡ true → is_function f ≡ true → fitted_arguments (parameters f) vs ≡ Some es → (wanted && is_none (gives f)) ≡ false → nat_eq (length (parameters f)) (length vs) ≡ false → first_fault (call_rule wanted at f vs) ≡ Some (record { at = at; refusal = Arity })
call_arity wanted at f vs es d k p w n = rw (d, k, p, w, n) refl

pub call_holds : (wanted : Bool) (at : Spot) (f : Callee) (vs : List Typed) (es : List Expr) → is_defined f ≡ true → is_function f ≡ true → fitted_arguments (parameters f) vs ≡ Some es → (wanted && is_none (gives f)) ≡ false → nat_eq (length (parameters f)) (length vs) ≡ true → call_rule wanted at f vs ≡ Holds es
call_holds wanted at f vs es d k p w n = rw (d, k, p, w, n) refl

-- an argument beyond the parameters

pub surplus_value : (ps : List Parameter) (place : ℕ) (v : Typed) (vs : List Typed) → length ps ≤ place → is_some v.ty ≡ true → fitted_arguments (drop place ps) (v ∷ vs) ≡ fitted_arguments (drop place ps) vs
surplus_value [] zero v vs h e = rw e refl
surplus_value [] (suc k) v vs h e = rw e refl
surplus_value (p ∷ ps) zero v vs h e = absurd (omega arith)
surplus_value (p ∷ ps) (suc k) v vs h e = surplus_value ps k v vs (omega arith) e

pub surplus_null : (ps : List Parameter) (place : ℕ) (v : Typed) (vs : List Typed) → length ps ≤ place → is_some v.ty ≡ false → fitted_arguments (drop place ps) (v ∷ vs) ≡ None
surplus_null [] zero v vs h e = rw e refl
surplus_null [] (suc k) v vs h e = rw e refl
surplus_null (p ∷ ps) zero v vs h e = absurd (omega arith)
surplus_null (p ∷ ps) (suc k) v vs h e = surplus_null ps k v vs (omega arith) e

-- one argument more is converted
pub argument_added : (ps : List Parameter) (place : ℕ) (all : Option (List Expr)) (es : List Expr) (v : Typed) (vs : List Typed) (e : Expr) → place < length ps → fitted_at ps place v ≡ Some e → all ≡ after es (fitted_arguments (drop place ps) (v ∷ vs)) → all ≡ after (es ++ e ∷ []) (fitted_arguments (drop (place + 1) ps) vs)
argument_added ps place all es v vs e h f a =
    a ∙ (ap (after es) (argument_taken ps place v vs h ∙ ap (λ o. with_argument o (fitted_arguments (drop (place + 1) ps) vs)) f) ∙ after_more es e (fitted_arguments (drop (place + 1) ps) vs))

-- types as parameters
pub types_taken : (ts : List CodeTy) → map (λ t. of_type (ty_of t)) ts ≡ map of_type (map ty_of ts)
types_taken [] = refl
types_taken (t ∷ ts) = ap (λ ps. of_type (ty_of t) ∷ ps) (types_taken ts)

-- one argument more in a row
pub row_more : (all : List Expr) (es : List CodeExpr) (b : Box CodeExpr Alloc) (rest : List (Box CodeExpr Alloc)) → all ≡ map expr_of es ++ map code_of (b ∷ rest) → all ≡ map expr_of (es ++ b.value ∷ []) ++ map code_of rest
row_more all es b rest h = h ∙ (sym (append_assoc (map expr_of es) (expr_of b.value ∷ []) (map code_of rest)) ∙ sym (ap (λ l. l ++ map code_of rest) (map-append expr_of es (b.value ∷ []))))

-- the code of a call
pub call_made : (e : CodeExpr) (line f : ℕ) (v : Vec CodeExpr Alloc) (es : List Expr) → e ≡ Call line f v → map expr_of v.items ≡ es → expr_of e ≡ call line f (arguments_listed es)
call_made e line f v es h k = call_is e line f v h ∙ ap (λ l. call line f (arguments_listed l)) k
