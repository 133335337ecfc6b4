-- Calls fit the functions that they call.
use Rattle.std.specs.Prelude.{◌≡◌, ℕ, List, [], ◌∷◌, Option, Some, None, Bool, true, false, not, ◌&&◌, ◌||◌, IsTrue, nat_eq, is_some, is_none, slice_get, length, map, unwrap_or, option_map}
use Rattle.std.proofs.Common.{refl, sym, ap, ◌∙◌, subst, arith}
use Rattle.std.proofs.lemmas.Bool.{false≢true}
use Rattle.rc_syntax.specs.declared.tree.Spot.{Spot}
use Rattle.rc_core.specs.declared.ty.Note.TheVariants.{Plain}
use Rattle.rc_core.specs.Types.{Ty, int, region, pointer}
use Rattle.rc_core.specs.Programs as p
use Rattle.rc_core.specs.Shapes.{arguments_listed}
use Rattle.rc_core.specs.Typing.{value_type, is_pointer, parameters_of, NotNull, HasType, AreArguments, IsValue, IsDefined, IsTyped}
use Rattle.rc_deletes.specs.declared.fault.Refusal.TheVariants.{Unknown, Mistyped, Arity}
use Rattle.rc_deletes.specs.declared.builtin.Builtin.TheVariants.{NewRegion, NewSubregion, DeleteRegion, RegionOf, Putchar, Getchar}
use Rattle.rc_deletes.specs.declared.sort.Sort.{Sort}
use Rattle.rc_deletes.specs.declared.sort.Sort.TheVariants.{Pointer}
use Rattle.rc_deletes.specs.Kinds.{sort_of}
use Rattle.rc_deletes.specs.Scopes.{Meaning, a_local, a_global, a_function, a_builtin, Signature}
use Rattle.rc_deletes.specs.Values.{Typed}
use Rattle.rc_deletes.specs.Builtins.{Parameter, of_type, any_pointer}
use Rattle.rc_deletes.specs.Calls.{Callee, the_function, the_builtin, no_function, callee_rule, is_defined, is_function, parameters, gives, if_pointer, fitted_argument, with_argument, fitted_arguments, call_refusals, call_rule, called, call_value, called_alone, call_statement, allocation, array_allocation}
use Rattle.rc_judgements.proofs.Held.{Held, Given, held_part, held_ruled, none_failing, not_failing}
use Rattle.rc_judgements.proofs.WellTypedValues.{Fits, IsOf, value_type_twice, fitted_fits, nat_eq_is}
use Rattle.rc_judgements.proofs.WellTypedOperators.{Kind, kind}

not_false : (b : Bool) → not b ≡ false → b ≡ true
not_false true h = refl
not_false false h = absurd cc

not_either : (a b : Bool) → (a || b) ≡ false → (a ≡ false) × (b ≡ false)
not_either true b h = absurd cc
not_either false b h = (refl, h)

wanted_some : (wanted : Bool) (r : Option Ty) → (false || (wanted && is_none r)) ≡ false → IsTrue wanted → IsTrue (is_some r)
wanted_some true (Some t) h w = refl
wanted_some true None h w = absurd cc
wanted_some false r h w = absurd cc

module _ (program : p.Program) (locals : List Ty) where
  -- a function of the program has a signature
  abbrev pub IsFunction : ℕ → Signature → Type 0
  IsFunction k s = (g : p.Function) × (slice_get program.functions k ≡ Some g) × (parameters_of g ≡ s.takes) × (g.result ≡ s.gives)

  abbrev pub IsCallee : Callee → Type 0
  IsCallee (the_function None s) = Unit {0}
  IsCallee (the_function (Some k) s) = IsFunction k s
  IsCallee (the_builtin b) = Unit {0}
  IsCallee no_function = Unit {0}

  -- a name stands for what is there
  abbrev pub IsThere : Meaning → Type 0
  IsThere (a_local x t) = slice_get locals x ≡ Some t
  IsThere (a_global g t count) = (d : p.Global) × (slice_get program.globals g ≡ Some d) × (d.ty ≡ t) × (d.count ≡ count)
  IsThere (a_function None s) = Unit {0}
  IsThere (a_function (Some k) s) = IsFunction k s
  IsThere (a_builtin b) = Unit {0}

  pub callee_fits : (at : Spot) (m : Option Meaning) → Given IsThere m → Held IsCallee (callee_rule at m)
  callee_fits at (Some (a_function (Some k) s)) h = h
  callee_fits at _ h = tt

  abbrev pub ArgumentHas : Parameter → p.Expr → Type 0
  ArgumentHas (of_type t) e = HasType program locals e (value_type t)
  ArgumentHas any_pointer e = NotNull e × ((u : Ty) × (IsTrue (is_pointer u) × HasType program locals e u))

  abbrev pub ArgumentsHave : List Parameter → List p.Expr → Type 0
  ArgumentsHave [] [] = Unit {0}
  ArgumentsHave (q ∷ qs) (e ∷ es) = ArgumentHas q e × ArgumentsHave qs es
  ArgumentsHave qs es = ⊥

  abbrev pub AllFit : List Typed → Type 0
  AllFit [] = Unit {0}
  AllFit (v ∷ vs) = Fits program locals v × AllFit vs

  pointer_fits : (s : Sort) (ty : Option Ty) (e : p.Expr) → Kind program locals ty e s → Given (ArgumentHas any_pointer) (if_pointer s e)
  pointer_fits Pointer ty e h = (h.4, (pointer Plain h.1, (refl, h.3)))
  pointer_fits _ ty e h = tt

  argument_fits : (q : Parameter) (v : Typed) → Fits program locals v → Given (ArgumentHas q) (fitted_argument q v)
  argument_fits (of_type t) v h = fitted_fits program locals t v h
  argument_fits any_pointer v h = pointer_fits (sort_of v.ty) v.ty v.code (kind program locals v h)

  with_argument_fits : (q : Parameter) (qs : List Parameter) (x : Option p.Expr) (y : Option (List p.Expr)) → Given (ArgumentHas q) x → Given (ArgumentsHave qs) y → Given (ArgumentsHave (q ∷ qs)) (with_argument x y)
  with_argument_fits q qs None y h k = tt
  with_argument_fits q qs (Some e) None h k = tt
  with_argument_fits q qs (Some e) (Some es) h k = (h, k)

  arguments_fit : (qs : List Parameter) (vs : List Typed) → AllFit vs → length qs ≡ length vs → Given (ArgumentsHave qs) (fitted_arguments qs vs)
  arguments_fit [] [] h e = tt
  arguments_fit [] (v ∷ vs) h e = absurd (omega arith)
  arguments_fit (q ∷ qs) [] h e = absurd (omega arith)
  arguments_fit (q ∷ qs) (v ∷ vs) h e = with_argument_fits q qs (fitted_argument q v) (fitted_arguments qs vs) (argument_fits q v h.0) (arguments_fit qs vs h.1 (omega arith))

  are_arguments : (ts : List Ty) (es : List p.Expr) → ArgumentsHave (map of_type ts) es → AreArguments program locals (arguments_listed es) ts
  are_arguments [] [] h = tt
  are_arguments [] (e ∷ es) h = absurd h
  are_arguments (t ∷ ts) [] h = absurd h
  are_arguments (t ∷ ts) (e ∷ es) h = (h.0, are_arguments ts es h.1)

  abbrev pub IsCall : Bool → Callee → List p.Expr → Type 0
  IsCall wanted f es = IsTrue (is_defined f) × ArgumentsHave (parameters f) es × (IsTrue wanted → IsTrue (is_some (gives f))) × IsTrue (is_function f)

  call_of : (wanted : Bool) (f : Callee) (count : ℕ) (es : Option (List p.Expr)) → (length (parameters f) ≡ count → Given (ArgumentsHave (parameters f)) es) → call_refusals wanted f es count ≡ [] → IsCall wanted f (unwrap_or es [])
  call_of wanted f count None h e =
      let e1 = none_failing (not (is_defined f)) Unknown _ e in
      let e2 = none_failing (not (is_function f) || true) Mistyped _ e1.1 in
      absurd (false≢true (sym (not_either (not (is_function f)) true e2.0).1))
  call_of wanted f count (Some es) h e =
      let e1 = none_failing (not (is_defined f)) Unknown _ e in
      let e2 = none_failing (not (is_function f) || (false || (wanted && is_none (gives f)))) Mistyped _ e1.1 in
      let fits = not_either (not (is_function f)) (false || (wanted && is_none (gives f))) e2.0 in
      let e3 = not_failing (not (nat_eq (length (parameters f)) count)) Arity e2.1 in
      (not_false (is_defined f) e1.0, h (nat_eq_is (length (parameters f)) count (not_false _ e3)), wanted_some wanted (gives f) fits.1, not_false (is_function f) fits.0)

  call_fits : (wanted : Bool) (at : Spot) (f : Callee) (vs : List Typed) → AllFit vs → Held (IsCall wanted f) (call_rule wanted at f vs)
  call_fits wanted at f vs h =
      held_ruled (IsCall wanted f) at (call_refusals wanted f (fitted_arguments (parameters f) vs) (length vs)) (unwrap_or (fitted_arguments (parameters f) vs) [])
      (λ e. call_of wanted f (length vs) (fitted_arguments (parameters f) vs) (arguments_fit (parameters f) vs h) e)

  function_has : (line k : ℕ) (args : p.Arguments) (g : p.Function) (r : Option Ty) → slice_get program.functions k ≡ Some g → g.result ≡ r → IsTrue (is_some r) → AreArguments program locals args (parameters_of g) → IsOf program locals (option_map value_type r) (p.call line k args)
  function_has line k args g (Some t) h e w q = ((g, (h, ap (option_map value_type) e ∙ ap Some (sym (value_type_twice t)), q)), refl)
  function_has line k args g None h e w q = absurd (false≢true w)

  one_region : (es : List p.Expr) → ArgumentsHave (of_type region ∷ []) es → (e : p.Expr) × (es ≡ e ∷ []) × HasType program locals e region
  one_region (e ∷ []) h = (e, refl, h.0)
  one_region [] h = absurd h
  one_region (e ∷ d ∷ es) h = absurd h.1

  value_of : (line : ℕ) (f : Callee) (es : List p.Expr) → IsCallee f → IsCall true f es → IsOf program locals (option_map value_type (gives f)) (called line f es)
  value_of line (the_function None s) es h c = absurd (false≢true c.0)
  value_of line (the_function (Some k) s) es h c = function_has line k (arguments_listed es) h.0 s.gives h.1 h.3 (c.2 refl) (subst (AreArguments program locals (arguments_listed es)) (sym h.2) (are_arguments s.takes es c.1))
  value_of line (the_builtin NewRegion) es h c = (refl, refl)
  value_of line (the_builtin NewSubregion) (e ∷ []) h c = ((refl, c.1.0), refl)
  value_of line (the_builtin NewSubregion) [] h c = absurd c.1
  value_of line (the_builtin NewSubregion) (e ∷ d ∷ es) h c = absurd c.1.1
  value_of line (the_builtin DeleteRegion) es h c = absurd (false≢true (c.2 refl))
  value_of line (the_builtin RegionOf) (e ∷ []) h c = ((refl, c.1.0.0, c.1.0.1), refl)
  value_of line (the_builtin RegionOf) [] h c = absurd c.1
  value_of line (the_builtin RegionOf) (e ∷ d ∷ es) h c = absurd c.1.1
  value_of line (the_builtin Putchar) (e ∷ []) h c = ((refl, c.1.0), refl)
  value_of line (the_builtin Putchar) [] h c = absurd c.1
  value_of line (the_builtin Putchar) (e ∷ d ∷ es) h c = absurd c.1.1
  value_of line (the_builtin Getchar) es h c = (refl, refl)
  value_of line no_function es h c = absurd (false≢true c.3)

  pub call_value_fits : (at : Spot) (f : Callee) (vs : List Typed) → IsCallee f → AllFit vs → Held (Fits program locals) (call_value at f vs)
  call_value_fits at f vs h k = held_part (IsCall true f) (Fits program locals) (call_rule true at f vs) _ (call_fits true at f vs k) (λ es c. value_of at.line f es h c)

  pub allocation_fits : (at : Spot) (t : Ty) (r : Option p.Expr) → IsDefined program.structs t → Given (λ e. HasType program locals e region) r → Held (Fits program locals) (allocation at t r)
  allocation_fits at t None d h = tt
  allocation_fits at t (Some r) d h = ((refl, d, h), refl)

  pub array_allocation_fits : (at : Spot) (t : Ty) (r n : Option p.Expr) → IsDefined program.structs t → Given (λ e. HasType program locals e region) r → Given (λ e. HasType program locals e int) n → Held (Fits program locals) (array_allocation at t r n)
  array_allocation_fits at t (Some r) (Some n) d h k = ((refl, d, h, k), refl)
  array_allocation_fits at t _ _ d h k = tt

-- a call as a statement
module _ (program : p.Program) (f : p.Function) (loop : Bool) where
  is_value : (ty : Option Ty) (e : p.Expr) → IsTrue (is_some ty) → IsOf program f.locals ty e → IsValue program f.locals e
  is_value (Some t) e w h = (h.1, (value_type t, h.0))
  is_value None e w h = absurd (false≢true w)

  alone_of : (line : ℕ) (c : Callee) (es : List p.Expr) → IsCallee program f.locals c → IsCall program f.locals false c es → IsTyped program f loop (called_alone line c es)
  alone_of line (the_function None s) es h c = absurd (false≢true c.0)
  alone_of line (the_function (Some k) s) es h c = (h.0, (h.1, subst (AreArguments program f.locals (arguments_listed es)) (sym h.2) (are_arguments program f.locals s.takes es c.1)))
  alone_of line (the_builtin DeleteRegion) (e ∷ []) h c = c.1.0
  alone_of line (the_builtin DeleteRegion) [] h c = absurd c.1
  alone_of line (the_builtin DeleteRegion) (e ∷ d ∷ es) h c = absurd c.1.1
  alone_of line (the_builtin NewRegion) es h c = is_value (Some region) (p.new_region line) refl (value_of program f.locals line (the_builtin NewRegion) es h (c.0, c.1, (λ w. refl), refl))
  alone_of line (the_builtin NewSubregion) es h c = is_value (Some region) (called line (the_builtin NewSubregion) es) refl (value_of program f.locals line (the_builtin NewSubregion) es h (c.0, c.1, (λ w. refl), refl))
  alone_of line (the_builtin RegionOf) es h c = is_value (Some region) (called line (the_builtin RegionOf) es) refl (value_of program f.locals line (the_builtin RegionOf) es h (c.0, c.1, (λ w. refl), refl))
  alone_of line (the_builtin Putchar) es h c = is_value (Some int) (called line (the_builtin Putchar) es) refl (value_of program f.locals line (the_builtin Putchar) es h (c.0, c.1, (λ w. refl), refl))
  alone_of line no_function es h c = absurd (false≢true c.3)
  alone_of line (the_builtin Getchar) es h c = is_value (Some int) (p.getchar line) refl (value_of program f.locals line (the_builtin Getchar) es h (c.0, c.1, (λ w. refl), refl))

  pub call_statement_fits : (at : Spot) (c : Callee) (vs : List Typed) → IsCallee program f.locals c → AllFit program f.locals vs → Held (IsTyped program f loop) (call_statement at c vs)
  call_statement_fits at c vs h k = held_part (IsCall program f.locals false c) (IsTyped program f loop) (call_rule false at c vs) _ (call_fits program f.locals false at c vs k) (λ es q. alone_of at.line c es h q)
