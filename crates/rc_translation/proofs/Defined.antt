-- The types of a typed program's expressions and places are defined.
use Rattle.std.proofs.Common.{◌≡◌, ℕ, suc, Bool, true, false, List, [], ◌∷◌, Option, Some, None, refl, sym, subst}
use Rattle.std.proofs.lemmas.Bool.{false≢true}
use Rattle.std.specs.Prelude.{IfSome, slice_get, option_map}
use Rattle.std.specs.List.{AllByRecursion as Every}
use Rattle.rc_core.specs.declared.ty.Note.TheVariants.{Plain}
use Rattle.rc_core.specs.declared.ty.NumberType.{NumberType}
use Rattle.rc_core.specs.declared.ty.NumberType.TheVariants.{Int, Unsigned, Char}
use Rattle.rc_core.specs.declared.ty.Signedness.{Signedness}
use Rattle.rc_core.specs.declared.ty.Signedness.TheVariants.{Signed, Unsigned as Wrapping}
use Rattle.rc_core.specs.Types.{Ty, int, unsigned, char, region, struct, pointer}
use Rattle.rc_core.specs.Layout.{fields_of, field_at}
use Rattle.rc_core.specs.Typing.{NotNull, number, arithmetic, value_type, is_comparison, result_if, parameters_of, IsDefined, HasType, IsPlace, LeadsTo}
use Rattle.rc_core.specs.Programs.{Expr, constant, null, string, local, read, address, step, step_from, unary, binary, convert, not_zero, and, or, choose, is_null, same, call, new_region, new_subregion, region_of, allocate, allocate_array, putchar, getchar, Place, global, pointed, indexed, Path, here, field, element, Field, Struct, Function, Program}
use Rattle.rc_core.specs.WellTyped.{IsVariable, FieldFits, StructsFit, IsWellTyped}
use Rattle.rc_safety.proofs.Lists.{every_take}
use Rattle.rc_kinds.proofs.Paths.{there}
use Rattle.rc_translation.specs.Translation.{pointee, expression_type, pointer_type, index_type, signedness, returned_type}
use Rattle.rc_translation.proofs.TypesFound.{char_not_null, types_are, number_not_null}

pub field_defined : (structs : List Struct) (fit : StructsFit structs) (s f : ℕ) (d : Field) → field_at structs s f ≡ Some d → FieldFits structs s d
field_defined structs fit s f d e = (fit s (fields_of structs s) (there structs s f d e)).fields_fit f d e

pub every_of : {A : Type 0} (P : A → Type 0) (xs : List A) → ((x : ℕ) (a : A) → slice_get xs x ≡ Some a → P a) → Every P xs
every_of P [] each = tt
every_of P (x ∷ xs) each = (each 0 x refl, every_of P xs (λ n a e. each (suc n) a e))

module _ (structs : List Struct) where
  abbrev D : Ty → Type 0
  D t = IsDefined structs t

  pub value_defined : (t : Ty) → D t → D (value_type t)
  value_defined int d = tt
  value_defined unsigned d = tt
  value_defined char d = tt
  value_defined region d = tt
  value_defined (struct k) d = d
  value_defined (pointer note target) d = d

  pointee_defined : (t : Ty) → D t → D (pointee t)
  pointee_defined int d = tt
  pointee_defined unsigned d = tt
  pointee_defined char d = tt
  pointee_defined region d = tt
  pointee_defined (struct k) d = d
  pointee_defined (pointer note target) d = d

  pub arithmetic_defined : (s : Signedness) → D (arithmetic s)
  arithmetic_defined Signed = tt
  arithmetic_defined Wrapping = tt

  pub number_defined : (n : NumberType) → D (number n)
  number_defined Int = tt
  number_defined Unsigned = tt
  number_defined Char = tt

  pub result_defined : (b : Bool) (s : Signedness) → D (result_if b s)
  result_defined true s = tt
  result_defined false s = arithmetic_defined s

  pub returned_defined : (o : Option Ty) → IfSome o (IsVariable structs) → D (returned_type o)
  returned_defined None v = tt
  returned_defined (Some u) v = value_defined u v.0

  some_defined : (o : Option Ty) (t : Ty) → IfSome o (IsVariable structs) → option_map value_type o ≡ Some t → D t
  some_defined None t v e = absurd (cc e)
  some_defined (Some u) t v e = subst D (let q : value_type u ≡ t = cc in q) (value_defined u v.0)

module _ (program : Program) (well : IsWellTyped program) (locals : List Ty) (variables : (x : ℕ) (t : Ty) → slice_get locals x ≡ Some t → IsVariable program.structs t) where
  abbrev Is : Ty → Type 0
  Is t = IsDefined program.structs t

  mutual
    pub type_defined : (e : Expr) (t : Ty) → NotNull e → HasType program locals e t → Is t
    type_defined (constant own s n) t nn w = subst Is (sym w.0) (arithmetic_defined program.structs s)
    type_defined (null own) t nn w = absurd (false≢true nn)
    type_defined (string own k) t nn w = subst Is (sym w.0) tt
    type_defined (local own x) t nn w = subst Is (sym w.1.1) (value_defined program.structs w.0 (variables x w.0 w.1.0).0)
    type_defined (read own place) t nn w = subst Is (sym w.1.2) (value_defined program.structs w.0 (place_defined place w.0 w.1.0))
    type_defined (address own g) t nn w = subst Is (sym w.1.1) ((well.globals g w.0 w.1.0).defined)
    type_defined (step own d p i) t nn w = type_defined p t w.1 w.2
    type_defined (step_from own i p) t nn w = type_defined p t w.1 w.2
    type_defined (unary own o s e) t nn w = subst Is (sym w.0) (arithmetic_defined program.structs s)
    type_defined (binary own o s a b) t nn w = subst Is (sym w.0) (result_defined program.structs (is_comparison o) s)
    type_defined (convert own from to e) t nn w = subst Is (sym w.0) (number_defined program.structs to)
    type_defined (not_zero own e) t nn w = subst Is (sym w.0) tt
    type_defined (and own a b) t nn w = subst Is (sym w.0) tt
    type_defined (or own a b) t nn w = subst Is (sym w.0) tt
    type_defined (choose own test a b) t nn w = subst Is (sym w.2.1) (arithmetic_defined program.structs w.2.0)
    type_defined (is_null own isnull e) t nn w = subst Is (sym w.0) tt
    type_defined (same own wanted a b) t nn w = subst Is (sym w.0) tt
    type_defined (call own g es) t nn w = some_defined program.structs w.0.result t (well.functions g w.0 w.1.0).result w.1.1
    type_defined (new_region own) t nn w = subst Is (sym w) tt
    type_defined (new_subregion own r) t nn w = subst Is (sym w.0) tt
    type_defined (region_of own p) t nn w = subst Is (sym w.0) tt
    type_defined (allocate own r made) t nn w = subst Is (sym w.0) w.1
    type_defined (allocate_array own r size made) t nn w = subst Is (sym w.0) w.1
    type_defined (putchar own e) t nn w = subst Is (sym w.0) tt
    type_defined (getchar own) t nn w = subst Is (sym w) tt

    pub place_defined : (place : Place) (t : Ty) → IsPlace program locals place t → Is t
    place_defined (global g path) t w = path_defined path w.0.ty t w.1.2 ((well.globals g w.0 w.1.0).defined)
    place_defined (pointed p path) t w = path_defined path w.1.0 t w.1.1.1 (type_defined p (pointer Plain w.1.0) w.0 w.1.1.0)
    place_defined (indexed p i path) t w = path_defined path w.1.0 t w.1.1.2 (type_defined p (pointer Plain w.1.0) w.0 w.1.1.0)

    path_defined : (path : Path) (u t : Ty) → LeadsTo program locals path u t → Is u → Is t
    path_defined here u t w d = subst Is w d
    path_defined (field s g rest) u t w d = path_defined rest w.1.0.ty t w.1.1.2 (field_defined program.structs well.structs s g w.1.0 w.1.1.0).defined
    path_defined (element s g i rest) u t w d = path_defined rest w.1.0.ty t w.1.1.3 (field_defined program.structs well.structs s g w.1.0 w.1.1.0).defined

  -- as the translation finds them
  pub found_defined : (e : Expr) (t : Ty) → NotNull e → HasType program locals e t → Is (expression_type program locals e)
  found_defined e t nn w = subst Is (sym (types_are program locals e t nn w)) (type_defined e t nn w)

  pub number_found : (e : Expr) (s : Signedness) → HasType program locals e (arithmetic s) → Is (expression_type program locals e)
  number_found e s w = found_defined e (arithmetic s) (number_not_null program locals e s (arithmetic s) refl w) w

  pub kind_not_null : (e : Expr) (k : NumberType) → HasType program locals e (number k) → NotNull e
  kind_not_null e Int w = number_not_null program locals e Signed int refl w
  kind_not_null e Unsigned w = number_not_null program locals e Wrapping unsigned refl w
  kind_not_null e Char w = char_not_null program locals e w

  pub pointer_found : (p : Expr) (t : Ty) → NotNull p → HasType program locals p t → Is (pointer_type program locals p)
  pointer_found p t nn w = pointee_defined program.structs (expression_type program locals p) (found_defined p t nn w)

  pub index_found : (i : Expr) → Is (index_type program locals i)
  index_found i = arithmetic_defined program.structs (signedness program locals (expression_type program locals i))

  pub parameters_defined : (g : ℕ) (h : Function) → slice_get program.functions g ≡ Some h → Every Is (parameters_of h)
  parameters_defined g h e = every_take Is h.parameters h.locals (every_of Is h.locals (λ x t q. ((well.functions g h e).locals x t q).0))
