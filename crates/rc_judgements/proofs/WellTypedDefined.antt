-- The types of what fits name structs that are defined.
use Rattle.std.specs.Prelude.{◌≡◌, ℕ, List, Option, Some, None, Bool, true, false, slice_get, option_map}
use Rattle.std.proofs.Common.{refl, sym, subst}
use Rattle.std.proofs.lemmas.Bool.{false≢true}
use Rattle.rc_core.specs.declared.ty.Note.TheVariants.{Plain}
use Rattle.rc_core.specs.declared.ty.NumberType.{NumberType}
use Rattle.rc_core.specs.declared.ty.NumberType.TheVariants.{Int, Unsigned, Char}
use Rattle.rc_core.specs.declared.ty.Signedness.{Signedness}
use Rattle.rc_core.specs.declared.ty.Signedness.TheVariants.{Signed, Unsigned as Wrapping}
use Rattle.rc_core.specs.Types.{Ty, int, unsigned, char, region, struct, pointer}
use Rattle.rc_core.specs.Programs as p
use Rattle.rc_core.specs.Layout.{field_at}
use Rattle.rc_core.specs.Typing.{number, arithmetic, value_type, result_if, is_comparison, NotNull, HasType, IsPlace, LeadsTo, IsDefined}

pub number_defined : (structs : List p.Struct) (k : NumberType) → IsDefined structs (number k)
number_defined structs Int = tt
number_defined structs Unsigned = tt
number_defined structs Char = tt

arithmetic_defined : (structs : List p.Struct) (s : Signedness) → IsDefined structs (arithmetic s)
arithmetic_defined structs Signed = tt
arithmetic_defined structs Wrapping = tt

result_defined : (structs : List p.Struct) (comparison : Bool) (s : Signedness) → IsDefined structs (result_if comparison s)
result_defined structs true s = tt
result_defined structs false s = arithmetic_defined structs s

value_defined : (structs : List p.Struct) (t : Ty) → IsDefined structs t → IsDefined structs (value_type t)
value_defined structs int h = h
value_defined structs unsigned h = h
value_defined structs char h = h
value_defined structs region h = h
value_defined structs (struct k) h = h
value_defined structs (pointer n t) h = h

-- what a program's parts say of their types
pub record Defined (program : p.Program) : Type 0 where
  pub globals : (k : ℕ) (d : p.Global) → slice_get program.globals k ≡ Some d → IsDefined program.structs d.ty
  pub fields : (s f : ℕ) (d : p.Field) → field_at program.structs s f ≡ Some d → IsDefined program.structs d.ty
  pub results : (k : ℕ) (g : p.Function) (t : Ty) → slice_get program.functions k ≡ Some g → g.result ≡ Some t → IsDefined program.structs t

module _ (program : p.Program) (locals : List Ty) (defined : Defined program) (all : (x : ℕ) (t : Ty) → slice_get locals x ≡ Some t → IsDefined program.structs t) where
  given_type : (t u : Ty) → t ≡ u → IsDefined program.structs u → IsDefined program.structs t
  given_type t u e h = subst (IsDefined program.structs) (sym e) h

  path_defined : (path : p.Path) (u t : Ty) → LeadsTo program locals path u t → IsDefined program.structs u → IsDefined program.structs t
  path_defined p.here u t h d = subst (IsDefined program.structs) h d
  path_defined (p.field s f rest) u t h d = path_defined rest h.1.0.ty t h.1.1.2 (defined.fields s f h.1.0 h.1.1.0)
  path_defined (p.element s f i rest) u t h d = path_defined rest h.1.0.ty t h.1.1.3 (defined.fields s f h.1.0 h.1.1.0)

  result_given : (r : Option Ty) (t : Ty) → ((u : Ty) → r ≡ Some u → IsDefined program.structs u) → option_map value_type r ≡ Some t → IsDefined program.structs t
  result_given (Some u) t d e = subst (IsDefined program.structs) (some_is e) (value_defined program.structs u (d u refl)) where
    some_is : Some (value_type u) ≡ Some t → value_type u ≡ t
    some_is e = cc
  result_given None t d e = absurd cc

  mutual
    pub expr_defined : (e : p.Expr) (t : Ty) → NotNull e → HasType program locals e t → IsDefined program.structs t
    expr_defined (p.constant line s n) t q h = given_type t (arithmetic s) h.0 (arithmetic_defined program.structs s)
    expr_defined (p.null line) t q h = absurd (false≢true q)
    expr_defined (p.string line k) t q h = given_type t (pointer Plain char) h.0 tt
    expr_defined (p.local line x) t q h = given_type t (value_type h.0) h.1.1 (value_defined program.structs h.0 (all x h.0 h.1.0))
    expr_defined (p.read line place) t q h = given_type t (value_type h.0) h.1.2 (value_defined program.structs h.0 (place_defined place h.0 h.1.0))
    expr_defined (p.address line g) t q h = given_type t (pointer Plain h.0.ty) h.1.1 (defined.globals g h.0 h.1.0)
    expr_defined (p.step line d e i) t q h = expr_defined e t h.1 h.2
    expr_defined (p.step_from line i e) t q h = expr_defined e t h.1 h.2
    expr_defined (p.unary line op s e) t q h = given_type t (arithmetic s) h.0 (arithmetic_defined program.structs s)
    expr_defined (p.binary line op s a b) t q h = given_type t (result_if (is_comparison op) s) h.0 (result_defined program.structs (is_comparison op) s)
    expr_defined (p.convert line from to e) t q h = given_type t (number to) h.0 (number_defined program.structs to)
    expr_defined (p.not_zero line e) t q h = given_type t int h.0 tt
    expr_defined (p.and line a b) t q h = given_type t int h.0 tt
    expr_defined (p.or line a b) t q h = given_type t int h.0 tt
    expr_defined (p.choose line test a b) t q h = given_type t (arithmetic h.2.0) h.2.1 (arithmetic_defined program.structs h.2.0)
    expr_defined (p.is_null line wanted e) t q h = given_type t int h.0 tt
    expr_defined (p.same line wanted a b) t q h = given_type t int h.0 tt
    expr_defined (p.call line f args) t q h = result_given h.0.result t (λ u e. defined.results f h.0 u h.1.0 e) h.1.1
    expr_defined (p.new_region line) t q h = given_type t region h tt
    expr_defined (p.new_subregion line r) t q h = given_type t region h.0 tt
    expr_defined (p.region_of line e) t q h = given_type t region h.0 tt
    expr_defined (p.allocate line r u) t q h = given_type t (pointer Plain u) h.0 h.1
    expr_defined (p.allocate_array line r n u) t q h = given_type t (pointer Plain u) h.0 h.1
    expr_defined (p.putchar line e) t q h = given_type t int h.0 tt
    expr_defined (p.getchar line) t q h = given_type t int h tt

    pub place_defined : (place : p.Place) (t : Ty) → IsPlace program locals place t → IsDefined program.structs t
    place_defined (p.global g path) t h = path_defined path h.0.ty t h.1.2 (defined.globals g h.0 h.1.0)
    place_defined (p.pointed e path) t h = path_defined path h.1.0 t h.1.1.1 (expr_defined e (pointer Plain h.1.0) h.0 h.1.1.0)
    place_defined (p.indexed e i path) t h = path_defined path h.1.0 t h.1.1.2 (expr_defined e (pointer Plain h.1.0) h.0 h.1.1.0)
