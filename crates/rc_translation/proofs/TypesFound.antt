-- The type that the translation finds is that of the rules, but for the word NULL.
use Rattle.std.proofs.Common.{◌≡◌, ℕ, Bool, true, false, List, Option, Some, None, refl, sym, ap, ◌∙◌, subst}
use Rattle.std.proofs.lemmas.Bool.{false≢true}
use Rattle.std.specs.Prelude.{IsTrue, slice_get, option_map}
use Rattle.std.specs.Prelude.{not}
use Rattle.std.proofs.lemmas.Option.{get_or_from_slice_get}
use Rattle.rc_core.specs.declared.ty.Note.TheVariants.{Plain}
use Rattle.rc_core.specs.Types.{Ty, int, char, pointer}
use Rattle.rc_core.specs.Typing.{HasType, IsPlace, LeadsTo, value_type, NotNull, is_null_word, arithmetic}
use Rattle.rc_core.specs.declared.ty.Signedness.{Signedness}
use Rattle.rc_core.specs.declared.ty.Signedness.TheVariants.{Signed, Unsigned as Wrapping}
use Rattle.rc_core.specs.Programs.{Expr, constant, null, string, local, read, address, step, step_from, unary, binary, convert, not_zero, and, or, choose, is_null, same, call, new_region, new_subregion, region_of, allocate, allocate_array, putchar, getchar, Place, global, pointed, indexed, Path, here, field, element, Function, Global, Program}
use Rattle.rc_rlang.specs.RegionCode.{regional, kind_of}
use Rattle.rc_translation.proofs.ValueKinds.{kind_reference}
use Rattle.rc_translation.specs.Translation.{expression_type, place_type, path_type, field_type, pointee}

abbrev type_of_global : Option Global → Ty
type_of_global None = int
type_of_global (Some d) = d.ty

abbrev given : Option Ty → Ty
given None = int
given (Some ty) = value_type ty

abbrev found : Option Function → Ty
found None = int
found (Some g) = given g.result

called : (o : Option Function) (g : Function) (t : Ty) → o ≡ Some g → option_map value_type g.result ≡ Some t → found o ≡ t
called o g t e r = ap found e ∙ by_result g.result r
  where
    by_result : (q : Option Ty) → option_map value_type q ≡ Some t → given q ≡ t
    by_result None r = cc
    by_result (Some u) r = cc

module _ (program : Program) (locals : List Ty) where
  null_word : (e : Expr) → IsTrue (is_null_word e) → (line : ℕ) × (e ≡ null line)
  null_word (null line) h = (line, refl)
  null_word _ h = absurd (false≢true h)

  no_null : (line : ℕ) (s : Signedness) → HasType program locals (null line) (arithmetic s) → ⊥
  no_null line Signed h = false≢true h.0
  no_null line Wrapping h = false≢true h.0

  pub char_not_null : (e : Expr) → HasType program locals e char → NotNull e
  char_not_null e h = by_word (is_null_word e) refl
    where
      by_word : (b : Bool) → is_null_word e ≡ b → IsTrue (not b)
      by_word false w = refl
      by_word true w = let n = null_word e w in absurd (false≢true (subst (λ x. HasType program locals x char) n.1 h).0)

  pub number_not_null : (e : Expr) (s : Signedness) (t : Ty) → t ≡ arithmetic s → HasType program locals e t → NotNull e
  number_not_null e s t eq h = by_word (is_null_word e) refl
    where
      by_word : (b : Bool) → is_null_word e ≡ b → IsTrue (not b)
      by_word false w = refl
      by_word true w = let n = null_word e w in absurd (no_null n.0 s (subst (λ x. HasType program locals x (arithmetic s)) n.1 (subst (λ u. HasType program locals e u) eq h)))

  mutual
    pub types_are : (e : Expr) (t : Ty) → NotNull e → HasType program locals e t → expression_type program locals e ≡ t
    types_are (constant line s n) t nn h = sym h.0
    types_are (null line) t nn h = cc
    types_are (string line k) t nn h = sym h.0
    types_are (local line x) t nn h = ap value_type (get_or_from_slice_get locals x h.0 int h.1.0) ∙ sym h.1.1
    types_are (read line place) t nn h = ap value_type (place_is place h.0 h.1.0) ∙ sym h.1.2
    types_are (address line g) t nn h = ap (pointer Plain) (ap type_of_global h.1.0) ∙ sym h.1.1
    types_are (step line direction p i) t nn h = types_are p t h.1 h.2
    types_are (step_from line i p) t nn h = types_are p t h.1 h.2
    types_are (unary line op s e) t nn h = sym h.0
    types_are (binary line op s a b) t nn h = sym h.0
    types_are (convert line from to e) t nn h = sym h.0
    types_are (not_zero line e) t nn h = sym h.0
    types_are (and line a b) t nn h = sym h.0
    types_are (or line a b) t nn h = sym h.0
    types_are (choose line test a b) t nn h = types_are a t (number_not_null a _ t h.2.1 h.3) h.3
    types_are (is_null line wanted e) t nn h = sym h.0
    types_are (same line wanted a b) t nn h = sym h.0
    types_are (call line f arguments) t nn h = called (slice_get program.functions f) h.0 t h.1.0 h.1.1
    types_are (new_region line) t nn h = sym h
    types_are (new_subregion line r) t nn h = sym h.0
    types_are (region_of line e) t nn h = sym h.0
    types_are (allocate line r u) t nn h = sym h.0
    types_are (allocate_array line r n u) t nn h = sym h.0
    types_are (putchar line e) t nn h = sym h.0
    types_are (getchar line) t nn h = sym h

    pub place_is : (place : Place) (t : Ty) → IsPlace program locals place t → place_type program locals place ≡ t
    place_is (global g path) t h = ap (path_type program locals path) (ap type_of_global h.1.0) ∙ path_is path h.0.ty t h.1.2
    place_is (pointed p path) t h = ap (path_type program locals path) (ap pointee (types_are p _ h.0 h.1.1.0)) ∙ path_is path h.1.0 t h.1.1.1
    place_is (indexed p i path) t h = ap (path_type program locals path) (ap pointee (types_are p _ h.0 h.1.1.0)) ∙ path_is path h.1.0 t h.1.1.2

    pub path_is : (path : Path) (u t : Ty) → LeadsTo program locals path u t → path_type program locals path u ≡ t
    path_is here u t h = h
    path_is (field s f rest) u t h = ap (path_type program locals rest) (ap field_type h.1.1.0) ∙ path_is rest _ t h.1.1.2
    path_is (element s f i rest) u t h = ap (path_type program locals rest) (ap field_type h.1.1.0) ∙ path_is rest _ t h.1.1.3

  null_kind : (line : ℕ) (t : Ty) → HasType program locals (null line) t → regional ≡ kind_of t
  null_kind line t h = sym (kind_reference t h.0)

  pub kind_found : (e : Expr) (t : Ty) → HasType program locals e t → kind_of (expression_type program locals e) ≡ kind_of t
  kind_found e t h = by_word (is_null_word e) refl
    where
      by_word : (b : Bool) → is_null_word e ≡ b → kind_of (expression_type program locals e) ≡ kind_of t
      by_word false w = ap kind_of (types_are e t (ap not w) h)
      by_word true w = let n = null_word e w in ap (λ x. kind_of (expression_type program locals x)) n.1 ∙ null_kind n.0 t (subst (λ x. HasType program locals x t) n.1 h)
