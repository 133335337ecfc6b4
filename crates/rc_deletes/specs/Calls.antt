-- The rules of calls. The arguments that have a parameter are compared before their number is; a surplus argument is any
-- value but the word `NULL`.
use Rattle.std.specs.Prelude.{ℕ, List, [], ◌∷◌, ◌++◌, Option, Some, None, Bool, true, false, not, nat_eq, length, map, is_some, is_none, unwrap_or, option_map, ◌&&◌, ◌||◌, if◌then◌else◌}
use Rattle.rc_syntax.specs.declared.tree.Spot.{Spot}
use Rattle.rc_core.specs.declared.ty.Note.TheVariants.{Plain}
use Rattle.rc_core.specs.Types.{Ty, pointer}
use Rattle.rc_core.specs.Programs as p
use Rattle.rc_core.specs.Shapes.{arguments_listed}
use Rattle.rc_core.specs.Typing.{value_type}
use Rattle.rc_deletes.specs.declared.fault.Refusal.{Refusal}
use Rattle.rc_deletes.specs.declared.fault.Refusal.TheVariants.{Unknown, Mistyped, Arity}
use Rattle.rc_deletes.specs.declared.builtin.Builtin.{Builtin}
use Rattle.rc_deletes.specs.declared.builtin.Builtin.TheVariants.{NewRegion, NewSubregion, DeleteRegion, RegionOf, Putchar, Getchar}
use Rattle.rc_deletes.specs.Builtins.{Parameter, of_type, any_pointer, row}
use Rattle.rc_deletes.specs.declared.sort.Sort.{Sort}
use Rattle.rc_deletes.specs.declared.sort.Sort.TheVariants.{Pointer}
use Rattle.rc_deletes.specs.Judged.{Judged, Holds, with_part, fails, failing, ruled}
use Rattle.rc_deletes.specs.Kinds.{sort_of, number_or}
use Rattle.rc_deletes.specs.Scopes.{Meaning, a_local, a_global, a_function, a_builtin, Signature}
use Rattle.rc_deletes.specs.Values.{Typed, fitted}

-- what is called: a function, which has no number where the text only declares it, or what is none
pub data Callee : Type 0 where
  the_function : (number : Option ℕ) → Signature → Callee
  the_builtin : Builtin → Callee
  no_function : Callee

abbrev pub callee_rule : Spot → Option Meaning → Judged Callee
callee_rule at None = fails at Unknown
callee_rule at (Some (a_local x t)) = Holds no_function
callee_rule at (Some (a_global g t count)) = Holds no_function
callee_rule at (Some (a_function number s)) = Holds (the_function number s)
callee_rule at (Some (a_builtin b)) = Holds (the_builtin b)

abbrev pub is_defined : Callee → Bool
is_defined (the_function number s) = is_some number
is_defined (the_builtin b) = true
is_defined no_function = true

abbrev pub is_function : Callee → Bool
is_function (the_function number s) = true
is_function (the_builtin b) = true
is_function no_function = false

abbrev pub parameters : Callee → List Parameter
parameters (the_function number s) = map of_type s.takes
parameters (the_builtin b) = (row b).takes
parameters no_function = []

abbrev pub gives : Callee → Option Ty
gives (the_function number s) = s.gives
gives (the_builtin b) = (row b).gives
gives no_function = None

abbrev pub if_pointer : Sort → p.Expr → Option p.Expr
if_pointer Pointer e = Some e
if_pointer s e = None

abbrev pub fitted_argument : Parameter → Typed → Option p.Expr
fitted_argument (of_type t) v = fitted t v
fitted_argument any_pointer v = if_pointer (sort_of v.ty) v.code

abbrev pub with_argument : Option p.Expr → Option (List p.Expr) → Option (List p.Expr)
with_argument None es = None
with_argument (Some e) None = None
with_argument (Some e) (Some es) = Some (e ∷ es)

-- the arguments that have a parameter, converted; none where one doesn't fit
abbrev pub fitted_arguments : List Parameter → List Typed → Option (List p.Expr)
fitted_arguments ps [] = Some []
fitted_arguments [] (v ∷ vs) = if is_some v.ty then fitted_arguments [] vs else None
fitted_arguments (t ∷ ps) (v ∷ vs) = with_argument (fitted_argument t v) (fitted_arguments ps vs)

-- only a function is called; and a call of one that gives no value stands in no expression
abbrev pub call_refusals : (wanted : Bool) → Callee → Option (List p.Expr) → (count : ℕ) → List Refusal
call_refusals wanted f es count =
    failing (not (is_defined f)) Unknown
    ++ (failing (not (is_function f) || (not (is_some es) || (wanted && is_none (gives f)))) Mistyped
    ++ failing (not (nat_eq (length (parameters f)) count)) Arity)

abbrev pub call_rule : (wanted : Bool) → Spot → Callee → List Typed → Judged (List p.Expr)
call_rule wanted at f vs = ruled at (call_refusals wanted f (fitted_arguments (parameters f) vs) (length vs))
    (unwrap_or (fitted_arguments (parameters f) vs) [])

abbrev pub first_argument : ℕ → List p.Expr → p.Expr
first_argument line [] = p.null line
first_argument line (e ∷ es) = e

-- a call of a function with as many arguments as it has parameters
abbrev pub called : ℕ → Callee → List p.Expr → p.Expr
called line (the_function number s) es = p.call line (number_or number 0) (arguments_listed es)
called line (the_builtin NewRegion) es = p.new_region line
called line (the_builtin NewSubregion) es = p.new_subregion line (first_argument line es)
called line (the_builtin DeleteRegion) es = first_argument line es
called line (the_builtin RegionOf) es = p.region_of line (first_argument line es)
called line (the_builtin Putchar) es = p.putchar line (first_argument line es)
called line (the_builtin Getchar) es = p.getchar line
called line no_function es = p.null line

abbrev pub call_value : Spot → Callee → List Typed → Judged Typed
call_value at f vs = with_part (call_rule true at f vs) (λ es. Holds (record { line = at.line; ty = option_map value_type (gives f); code = called at.line f es }))

-- a call as a statement, with the line of the call
abbrev pub called_alone : ℕ → Callee → List p.Expr → p.Stmt
called_alone line (the_builtin DeleteRegion) es = p.delete line (first_argument line es)
called_alone line f es = p.evaluate line (called line f es)

abbrev pub call_statement : Spot → Callee → List Typed → Judged p.Stmt
call_statement at f vs = with_part (call_rule false at f vs) (λ es. Holds (called_alone at.line f es))

-- `ralloc` and `rarrayalloc`, by their fitted arguments
abbrev pub allocation : Spot → Ty → Option p.Expr → Judged Typed
allocation at t None = fails at Mistyped
allocation at t (Some r) = Holds (record { line = at.line; ty = Some (pointer Plain t); code = p.allocate at.line r t })

abbrev pub array_allocation : Spot → Ty → Option p.Expr → Option p.Expr → Judged Typed
array_allocation at t (Some r) (Some n) = Holds (record { line = at.line; ty = Some (pointer Plain t); code = p.allocate_array at.line r n t })
array_allocation at t r n = fails at Mistyped
