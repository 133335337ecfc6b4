-- The code of an expression has the faults that the tree shows of it.
use Rattle.std.specs.Prelude.{◌≡◌, ℕ, List, [], ◌∷◌, ◌++◌, Option, Some, None, Bool, true, false, not, ◌&&◌, ◌||◌, nat_eq, is_some, is_none, length, option_map, unwrap_or, if◌then◌else◌}
use Rattle.std.proofs.Common.{refl, sym, ap, ◌∙◌, subst, arith}
use Rattle.std.proofs.lemmas.List.{append-nil}
use Rattle.rc_syntax.specs.declared.tree.Spot.{Spot}
use Rattle.rc_syntax.specs.declared.tree.Name.{Name}
use Rattle.rc_syntax.specs.Tree as t
use Rattle.rc_core.specs.Types.{Ty, int, region}
use Rattle.rc_core.specs.Programs as p
use Rattle.rc_core.specs.Shapes.{arguments_listed}
use Rattle.rc_core.specs.Typing.{value_type}
use Rattle.rc_deletes.specs.declared.deletes.DeletesFault.{DeletesFault}
use Rattle.rc_deletes.specs.declared.fault.Refusal.TheVariants.{Unknown, Mistyped, Arity}
use Rattle.rc_deletes.specs.declared.builtin.Builtin.{Builtin}
use Rattle.rc_deletes.specs.declared.builtin.Builtin.TheVariants.{NewRegion, NewSubregion, DeleteRegion, RegionOf, Putchar, Getchar}
use Rattle.rc_deletes.specs.declared.sort.Sort.{Sort}
use Rattle.rc_deletes.specs.declared.sort.Sort.TheVariants.{Pointer}
use Rattle.rc_deletes.specs.Judged.{Judged, Holds, with_part, with_parts, both}
use Rattle.rc_deletes.specs.Kinds.{sort_of}
use Rattle.rc_deletes.specs.Scopes.{Context, Scope, Meaning, a_local, a_global, a_function, a_builtin, meaning_in}
use Rattle.rc_deletes.specs.Values.{Typed, Meant, a_value, a_variable, a_place, an_array, valued, as_value, spot_of, fitted}
use Rattle.rc_deletes.specs.Operators.{meaning_of_value, binary_rule, conditional_rule, cast_type, cast_rule}
use Rattle.rc_deletes.specs.Builtins.{Parameter, of_type, any_pointer}
use Rattle.rc_deletes.specs.Calls.{Callee, the_function, the_builtin, no_function, callee_rule, is_defined, is_function, parameters, gives, if_pointer, fitted_argument, with_argument, fitted_arguments, call_refusals, call_rule, called, call_value, called_alone, call_statement, first_argument, allocation, array_allocation}
use Rattle.rc_deletes.specs.Expressions.{strings_in, name_rule, type_rule, member_rule, arrow_rule, indexed_part, index_rule, unary_meant, meant, values, value}
use Rattle.rc_deletes.specs.Places as rule
use Rattle.rc_deletes.specs.Places.{or_own, where_deleting, in_place, out_of_place}
use Rattle.rc_deletes.specs.PlacedFaults as placed
use Rattle.rc_deletes.specs.PlacedFaults.{PlacedFault, deletion}
use Rattle.rc_judgements.proofs.Held.{Held, Given, held_part, held_parts, held_both, held_ruled, held_always, held_more, none_failing, not_failing}
use Rattle.rc_judgements.proofs.WellTypedValues.{nat_eq_is}
use Rattle.rc_judgements.proofs.PlacedOperators.{plain, joined, plain_both, in_value, Quiet, IsOf, MeantOf, MadeOf, fitted_same, binary_same, conditional_same, value_meaning, as_value_same, unary_meant_same, cast_same, member_same, arrow_same, indexed_same, index_same}

-- faults without their places
pub plain_own : (fs gs : List PlacedFault) → plain (or_own fs gs) ≡ or_own (plain fs) (plain gs)
plain_own [] gs = refl
plain_own (f ∷ fs) gs = refl

plain_where : (b : Bool) (fs : List PlacedFault) → plain (where_deleting b fs) ≡ where_deleting b (plain fs)
plain_where true fs = refl
plain_where false fs = refl

abbrev by_place : (whole deletes : Bool) → ℕ → List DeletesFault
by_place true d line = in_place d line
by_place false d line = out_of_place d line

plain_deletion : (w d : Bool) (at : Spot) → plain (deletion d w at) ≡ by_place w d at.line
plain_deletion true true at = refl
plain_deletion true false at = refl
plain_deletion false true at = refl
plain_deletion false false at = refl

own_nil : {A : Type 0} (xs : List A) → or_own xs [] ≡ xs
own_nil [] = refl
own_nil (x ∷ xs) = refl

or_left : (a b : Bool) → (a || b) ≡ false → a ≡ false
or_left true b h = absurd cc
or_left false b h = refl

or_right : (a b : Bool) → (a || b) ≡ false → b ≡ false
or_right true b h = absurd cc
or_right false b h = h

not_false : (b : Bool) → not b ≡ false → b ≡ true
not_false true h = refl
not_false false h = absurd cc

wanted_gives : (wanted : Bool) (r : Option Ty) → (wanted && is_none r) ≡ false → wanted ≡ true → is_some r ≡ true
wanted_gives true (Some u) h w = refl
wanted_gives true None h w = absurd cc
wanted_gives false r h w = absurd cc

given_all : {A : Type 0} (P : A → Type 0) (x : Option A) → ((a : A) → P a) → Given P x
given_all P None h = tt
given_all P (Some a) h = h a

module _ (fs : List p.Function) (d : Bool) where
  -- a name of a function stands for one of the program that deletes where the name says so
  abbrev pub DeletesAs : Meaning → Type 0
  DeletesAs (a_function (Some k) s) = rule.deletes_regions fs k ≡ s.deletes
  DeletesAs m = Unit {0}

  abbrev pub Tells : Scope → Type 0
  Tells names = (n : List ℕ) → Given DeletesAs (meaning_in names n)

  -- arguments
  abbrev pub in_values : List Typed → List DeletesFault
  in_values [] = []
  in_values (v ∷ vs) = in_value fs d v.code ++ in_values vs

  abbrev in_arguments : List p.Expr → List DeletesFault
  in_arguments es = rule.within_all fs d (arguments_listed es)

  pointer_same : (s : Sort) (v : Typed) → Given (λ c. in_value fs d c ≡ in_value fs d v.code) (if_pointer s v.code)
  pointer_same Pointer v = refl
  pointer_same s v = tt

  argument_same : (q : Parameter) (v : Typed) → Given (λ c. in_value fs d c ≡ in_value fs d v.code) (fitted_argument q v)
  argument_same (of_type u) v = fitted_same fs d false u v
  argument_same any_pointer v = pointer_same (sort_of v.ty) v

  abbrev AreGiven : List Parameter → List Typed → List p.Expr → Type 0
  AreGiven qs vs es = length qs ≡ length vs → (in_arguments es ≡ in_values vs) × (length es ≡ length qs)

  with_argument_same : (q : Parameter) (qs : List Parameter) (v : Typed) (vs : List Typed) (x : Option p.Expr) (y : Option (List p.Expr)) → Given (λ c. in_value fs d c ≡ in_value fs d v.code) x → Given (AreGiven qs vs) y → Given (AreGiven (q ∷ qs) (v ∷ vs)) (with_argument x y)
  with_argument_same q qs v vs None y h k = tt
  with_argument_same q qs v vs (Some e) None h k = tt
  with_argument_same q qs v vs (Some e) (Some es) h k = λ n.
      let r = k (omega (arith, n)) in
      (joined (in_value fs d e) (in_arguments es) (in_value fs d v.code) (in_values vs) h r.0, omega (arith, r.1))

  arguments_same : (qs : List Parameter) (vs : List Typed) → Given (AreGiven qs vs) (fitted_arguments qs vs)
  arguments_same qs [] = λ n. (refl, sym n)
  arguments_same [] (v ∷ vs) = given_all (AreGiven [] (v ∷ vs)) (if is_some v.ty then fitted_arguments [] vs else None) (λ es n. absurd (omega (arith, n)))
  arguments_same (q ∷ qs) (v ∷ vs) = with_argument_same q qs v vs (fitted_argument q v) (fitted_arguments qs vs) (argument_same q v) (arguments_same qs vs)

  -- a call that no rule refuses
  abbrev IsCall : Bool → Callee → List Typed → List p.Expr → Type 0
  IsCall wanted f vs es = (is_defined f ≡ true) × (is_function f ≡ true) × (wanted ≡ true → is_some (gives f) ≡ true) × (in_arguments es ≡ in_values vs) × (length es ≡ length (parameters f))

  call_by : (wanted : Bool) (f : Callee) (vs : List Typed) (o : Option (List p.Expr)) → Given (AreGiven (parameters f) vs) o → call_refusals wanted f o (length vs) ≡ [] → IsCall wanted f vs (unwrap_or o [])
  call_by wanted f vs None h e =
      let one = none_failing (not (is_defined f)) Unknown _ e in
      let two = none_failing (not (is_function f) || (not (is_some {T = List p.Expr} None) || (wanted && is_none (gives f)))) Mistyped _ one.1 in
      absurd (never (or_right (not (is_function f)) _ two.0)) where
        never : true ≡ false → ⊥
        never q = cc
  call_by wanted f vs (Some es) h e =
      let one = none_failing (not (is_defined f)) Unknown _ e in
      let two = none_failing (not (is_function f) || (not (is_some (Some es)) || (wanted && is_none (gives f)))) Mistyped _ one.1 in
      let count = nat_eq_is (length (parameters f)) (length vs) (not_false _ (not_failing (not (nat_eq (length (parameters f)) (length vs))) Arity two.1)) in
      let given = h count in
      (not_false (is_defined f) one.0, not_false (is_function f) (or_left (not (is_function f)) _ two.0), wanted_gives wanted (gives f) (or_right (not (is_function f)) _ two.0), given.0, given.1)

  call_held : (wanted : Bool) (at : Spot) (f : Callee) (vs : List Typed) → Held (IsCall wanted f vs) (call_rule wanted at f vs)
  call_held wanted at f vs =
      held_ruled (IsCall wanted f vs) at (call_refusals wanted f (fitted_arguments (parameters f) vs) (length vs)) (unwrap_or (fitted_arguments (parameters f) vs) [])
      (λ e. call_by wanted f vs (fitted_arguments (parameters f) vs) (arguments_same (parameters f) vs) e)

  -- what a name stands for, and what is called by it
  abbrev CalledBy : Option Meaning → Callee → Type 0
  CalledBy m (the_function (Some k) s) = rule.deletes_regions fs k ≡ placed.deletes_regions m
  CalledBy m (the_function None s) = Unit {0}
  CalledBy m (the_builtin b) = m ≡ Some (a_builtin b)
  CalledBy m no_function = Unit {0}

  callee_same : (at : Spot) (m : Option Meaning) → Given DeletesAs m → Held (CalledBy m) (callee_rule at m)
  callee_same at None h = tt
  callee_same at (Some (a_local x u)) h = tt
  callee_same at (Some (a_global g u count)) h = tt
  callee_same at (Some (a_function None s)) h = tt
  callee_same at (Some (a_function (Some k) s)) h = h
  callee_same at (Some (a_builtin b)) h = refl

  -- the faults of a call, by what its name stands for
  abbrev own_call : (w : Bool) → Spot → Option Meaning → List PlacedFault → List PlacedFault
  own_call w at m inner = or_own inner (where_deleting (placed.deletes_regions m) (deletion d w at))

  plain_call : (w : Bool) (at : Spot) (m : Option Meaning) (inner : List PlacedFault) → plain (own_call w at m inner) ≡ or_own (plain inner) (where_deleting (placed.deletes_regions m) (by_place w d at.line))
  plain_call w at m inner =
      plain_own inner _ ∙ ap (or_own (plain inner)) (plain_where (placed.deletes_regions m) (deletion d w at) ∙ ap (where_deleting (placed.deletes_regions m)) (plain_deletion w d at))

  no_argument : (es : List p.Expr) → length es ≡ 0 → [] ≡ in_arguments es
  no_argument [] h = refl
  no_argument (e ∷ es) h = absurd (omega (arith, h))

  one_argument : (line : ℕ) (es : List p.Expr) → length es ≡ 1 → in_value fs d (first_argument line es) ≡ in_arguments es
  one_argument line [] h = absurd (omega (arith, h))
  one_argument line (e ∷ []) h = sym (append-nil (in_value fs d e))
  one_argument line (e ∷ c ∷ es) h = absurd (omega (arith, h))

  by_whole : (w : Bool) (e : p.Expr) (xs : List DeletesFault) → rule.whole_call fs d e ≡ xs → in_value fs d e ≡ xs → rule.whole_by fs d w e ≡ xs
  by_whole true e xs h k = h
  by_whole false e xs h k = k

  quiet_given : (r : Option Ty) (xs : List DeletesFault) → is_some r ≡ true → Quiet fs d (option_map value_type r) xs
  quiet_given (Some u) xs h = tt
  quiet_given None xs h = absurd cc

  -- every function but that which deletes a region
  abbrev IsOther : Callee → Type 0
  IsOther (the_builtin DeleteRegion) = ⊥
  IsOther f = Unit {0}

  gives_other : (f : Callee) → is_some (gives f) ≡ true → IsOther f
  gives_other (the_builtin DeleteRegion) h = absurd cc
  gives_other f h = tt

  function_same : (w : Bool) (at : Spot) (k : ℕ) (es : List p.Expr) (m : Option Meaning) (inner : List PlacedFault) → rule.deletes_regions fs k ≡ placed.deletes_regions m → in_arguments es ≡ plain inner → rule.whole_by fs d w (p.call at.line k (arguments_listed es)) ≡ plain (own_call w at m inner)
  function_same true at k es m inner h e = let q = plain_call true at m inner in cc
  function_same false at k es m inner h e = let q = plain_call false at m inner in cc

  quiet_call : (w : Bool) (at : Spot) (b : Builtin) (m : Option Meaning) (inner : List PlacedFault) (xs : List DeletesFault) → m ≡ Some (a_builtin b) → placed.deletes_regions (Some (a_builtin b)) ≡ false → xs ≡ plain inner → xs ≡ plain (own_call w at m inner)
  quiet_call w at b m inner xs h e k =
      let q : placed.deletes_regions m ≡ false = ap placed.deletes_regions h ∙ e in
      k ∙ ap plain (sym (own_nil inner)) ∙ ap (λ c. plain (or_own inner (where_deleting c (deletion d w at)))) (sym q)

  called_same : (w : Bool) (at : Spot) (f : Callee) (es : List p.Expr) (m : Option Meaning) (inner : List PlacedFault) → IsOther f → CalledBy m f → is_defined f ≡ true → is_function f ≡ true → length es ≡ length (parameters f) → in_arguments es ≡ plain inner →
      rule.whole_by fs d w (called at.line f es) ≡ plain (own_call w at m inner)
  called_same w at (the_function (Some k) s) es m inner o c i j n e = function_same w at k es m inner c e
  called_same w at (the_function None s) es m inner o c i j n e = absurd cc
  called_same w at no_function es m inner o c i j n e = absurd cc
  called_same w at (the_builtin DeleteRegion) es m inner o c i j n e = absurd o
  called_same w at (the_builtin NewRegion) es m inner o c i j n e = by_whole w (p.new_region at.line) _ (quiet_call w at NewRegion m inner [] c refl (no_argument es n ∙ e)) (quiet_call w at NewRegion m inner [] c refl (no_argument es n ∙ e))
  called_same w at (the_builtin NewSubregion) es m inner o c i j n e =
      let q = quiet_call w at NewSubregion m inner (in_value fs d (first_argument at.line es)) c refl (one_argument at.line es n ∙ e) in by_whole w (p.new_subregion at.line (first_argument at.line es)) _ q q
  called_same w at (the_builtin RegionOf) es m inner o c i j n e =
      let q = quiet_call w at RegionOf m inner (in_value fs d (first_argument at.line es)) c refl (one_argument at.line es n ∙ e) in by_whole w (p.region_of at.line (first_argument at.line es)) _ q q
  called_same w at (the_builtin Putchar) es m inner o c i j n e =
      let q = quiet_call w at Putchar m inner (in_value fs d (first_argument at.line es)) c refl (one_argument at.line es n ∙ e) in by_whole w (p.putchar at.line (first_argument at.line es)) _ q q
  called_same w at (the_builtin Getchar) es m inner o c i j n e = by_whole w (p.getchar at.line) _ (quiet_call w at Getchar m inner [] c refl (no_argument es n ∙ e)) (quiet_call w at Getchar m inner [] c refl (no_argument es n ∙ e))

  module _ (names : Scope) (tells : Tells names) where
    -- a value of an expression, as a part and as the whole of a place
    abbrev pub ValueOf : t.Expr → Typed → Type 0
    ValueOf e v = IsOf fs d (plain (placed.within names d e)) v × (rule.whole fs d e v.code ≡ plain (placed.whole names d e))

    abbrev pub Means : t.Expr → Meant → Type 0
    Means e (a_value v) = ValueOf e v
    Means e (a_variable x u) = (plain (placed.within names d e) ≡ []) × (rule.is_call e ≡ false) × ((r : t.Expr) → placed.given names d e r ≡ placed.whole names d r)
    Means e (a_place place u) = (rule.within_place fs d place ≡ plain (placed.within names d e)) × (rule.is_call e ≡ false) × ((r : t.Expr) → placed.given names d e r ≡ placed.within names d r)
    Means e (an_array place s f u) = rule.within_place fs d place ≡ plain (placed.within names d e)

    -- what is no call is whole where it is inside
    not_a_call : (e : t.Expr) (c : p.Expr) → rule.is_call e ≡ false → in_value fs d c ≡ plain (placed.within names d e) → rule.whole fs d e c ≡ plain (placed.whole names d e)
    not_a_call (t.call name args) c h k = absurd cc
    not_a_call e c h k = k

    value_of : (e : t.Expr) (v : Typed) → rule.is_call e ≡ false → IsOf fs d (plain (placed.within names d e)) v → ValueOf e v
    value_of e v h k = (k, not_a_call e v.code h k.0)

    -- what is made of parts
    made : (e : t.Expr) (x : Judged Meant) → rule.is_call e ≡ false → ((r : t.Expr) → placed.given names d e r ≡ placed.within names d r) → Held (MadeOf fs d (plain (placed.within names d e))) x → Held (Means e) x
    made e x h k = λ q. held_more (MadeOf fs d (plain (placed.within names d e))) (Means e) x q by where
      by : (m : Meant) → MadeOf fs d (plain (placed.within names d e)) m → Means e m
      by (a_value v) q = value_of e v h q
      by (a_variable x u) q = absurd q
      by (a_place place u) q = (q, h, k)
      by (an_array place s f u) q = q

    meant_of : (e : t.Expr) (m : Meant) → Means e m → MeantOf fs d (plain (placed.within names d e)) m
    meant_of e (a_value v) h = h.0
    meant_of e (a_variable x u) h = h.0
    meant_of e (a_place place u) h = h.0
    meant_of e (an_array place s f u) h = h

    pub as_value_of : (e : t.Expr) (m : Meant) → Means e m → Held (ValueOf e) (as_value (spot_of e) m)
    as_value_of e (a_value v) h = h
    as_value_of e (a_variable x u) h = held_more (IsOf fs d (plain (placed.within names d e))) (ValueOf e) (as_value (spot_of e) (a_variable x u)) (as_value_same fs d (spot_of e) _ (a_variable x u) h.0) (λ v k. value_of e v h.1 k)
    as_value_of e (a_place place u) h = held_more (IsOf fs d (plain (placed.within names d e))) (ValueOf e) (as_value (spot_of e) (a_place place u)) (as_value_same fs d (spot_of e) _ (a_place place u) h.0) (λ v k. value_of e v h.1 k)
    as_value_of e (an_array place s f u) h = tt

    pub valued_same : (e : t.Expr) (x : Judged Meant) → Held (Means e) x → Held (ValueOf e) (valued e x)
    valued_same e x h = held_part (Means e) (ValueOf e) x (as_value (spot_of e)) h (as_value_of e)

    name_same : (name : Name) (m : Option Meaning) → meaning_in names name.text ≡ m → Held (Means (t.variable name)) (name_rule name.spot m)
    name_same name None q = tt
    name_same name (Some (a_local x u)) q = (refl, refl, λ r. ap (λ m. if placed.is_of_local m then placed.whole names d r else placed.within names d r) q)
    name_same name (Some (a_global g u None)) q = (refl, refl, λ r. ap (λ m. if placed.is_of_local m then placed.whole names d r else placed.within names d r) q)
    name_same name (Some (a_global g u (Some count))) q = ((refl, tt), refl)
    name_same name (Some (a_function k s)) q = tt
    name_same name (Some (a_builtin b)) q = tt

    call_value_same : (name : Name) (args : t.Exprs) (f : Callee) (vs : List Typed) → CalledBy (meaning_in names name.text) f → in_values vs ≡ plain (placed.within_all names d args) → Held (Means (t.call name args)) (meaning_of_value (call_value name.spot f vs))
    call_value_same name args f vs h k =
        let m = meaning_in names name.text in
        let inner = placed.within_all names d args in
        held_part (ValueOf (t.call name args)) (Means (t.call name args)) (call_value name.spot f vs) (λ v. Holds (a_value v))
        (held_part (IsCall true f vs) (ValueOf (t.call name args)) (call_rule true name.spot f vs) _ (call_held true name.spot f vs)
        (λ es c.
        let other = gives_other f (c.2 refl) in
        ((called_same false name.spot f es m inner other h c.0 c.1 c.4 (c.3 ∙ k), quiet_given (gives f) (plain (placed.within names d (t.call name args))) (c.2 refl)), called_same true name.spot f es m inner other h c.0 c.1 c.4 (c.3 ∙ k))))
        (λ v q. q)

    allocation_same : (at : Spot) (u : Ty) (xs : List DeletesFault) (r : Option p.Expr) → Given (λ c. in_value fs d c ≡ xs) r → Held (IsOf fs d xs) (allocation at u r)
    allocation_same at u xs None h = tt
    allocation_same at u xs (Some r) h = (h, tt)

    array_allocation_same : (at : Spot) (u : Ty) (xs ys : List DeletesFault) (r n : Option p.Expr) → Given (λ c. in_value fs d c ≡ xs) r → Given (λ c. in_value fs d c ≡ ys) n → Held (IsOf fs d (xs ++ ys)) (array_allocation at u r n)
    array_allocation_same at u xs ys (Some r) (Some n) h k = (joined (in_value fs d r) (in_value fs d n) xs ys h k, tt)
    array_allocation_same at u xs ys r n h k = tt

    fitted_is : (u : Ty) (v : Typed) (xs : List DeletesFault) → in_value fs d v.code ≡ xs → Given (λ c. in_value fs d c ≡ xs) (fitted u v)
    fitted_is u v xs h = subst (λ zs. Given (λ c. in_value fs d c ≡ zs) (fitted u v)) h (fitted_same fs d false u v)

    module _ (context : Context) where
      mutual
        pub meant_same : (before : List (List ℕ)) (e : t.Expr) → Held (Means e) (meant context names before e)
        meant_same before (t.number at n u) = ((refl, tt), refl)
        meant_same before (t.character at c) = ((refl, tt), refl)
        meant_same before (t.string at bytes) = ((refl, tt), refl)
        meant_same before (t.null at) = ((refl, refl), refl)
        meant_same before (t.eof at) = ((refl, tt), refl)
        meant_same before (t.variable name) = name_same name (meaning_in names name.text) refl
        meant_same before (t.call name args) =
            held_parts (CalledBy (meaning_in names name.text)) (λ vs. in_values vs ≡ plain (placed.within_all names d args)) (Means (t.call name args)) (callee_rule name.spot (meaning_in names name.text)) (values context names before args) (λ f vs. meaning_of_value (call_value name.spot f vs))
            (callee_same name.spot (meaning_in names name.text) (tells name.text)) (values_same before args) (λ f vs h k. call_value_same name args f vs h k)
        meant_same before (t.ralloc at r n) =
            let xs = plain (placed.within names d r) in
            made (t.ralloc at r n) _ refl (λ l. refl)
            (held_parts (ValueOf r) (λ (u : Ty). Unit {0}) (MadeOf fs d xs) (valued r (meant context names before r)) (type_rule context n) _ (valued_same r (meant context names before r) (meant_same before r)) (held_always (Unit {0}) (type_rule context n) tt)
            (λ v u h k. value_meaning fs d xs (allocation at u (fitted region v)) (allocation_same at u xs (fitted region v) (fitted_is region v xs h.0.0))))
        meant_same before (t.rarrayalloc at r k n) =
            let xs = plain (placed.within names d r) in
            let ys = plain (placed.within names d k) in
            made (t.rarrayalloc at r k n) _ refl (λ l. refl)
            (held_parts (ValueOf r) (λ (w : Typed × Ty). ValueOf k w.0 × Unit {0}) (MadeOf fs d (plain (placed.within names d r ++ placed.within names d k))) (valued r (meant context names before r)) (both (valued k (meant context names (before ++ strings_in r) k)) (type_rule context n)) _
            (valued_same r (meant context names before r) (meant_same before r))
            (held_both (ValueOf k) (λ (u : Ty). Unit {0}) (valued k (meant context names (before ++ strings_in r) k)) (type_rule context n) (valued_same k (meant context names (before ++ strings_in r) k) (meant_same (before ++ strings_in r) k)) (held_always (Unit {0}) (type_rule context n) tt))
            (λ v w h q. subst (λ zs. Held (MadeOf fs d zs) (meaning_of_value (array_allocation at w.1 (fitted region v) (fitted int w.0)))) (plain_both xs ys (placed.within names d r) (placed.within names d k) refl refl)
            (value_meaning fs d (xs ++ ys) (array_allocation at w.1 (fitted region v) (fitted int w.0)) (array_allocation_same at w.1 xs ys (fitted region v) (fitted int w.0) (fitted_is region v xs h.0.0) (fitted_is int w.0 ys q.0.0.0)))))
        meant_same before (t.index at a k) =
            let xs = plain (placed.within names d a) in
            let ys = plain (placed.within names d k) in
            made (t.index at a k) _ refl (λ l. refl)
            (held_parts (MadeOf fs d xs) (ValueOf k) (MadeOf fs d (plain (placed.within names d a ++ placed.within names d k))) (with_part (meant context names before a) (indexed_part (spot_of a))) (valued k (meant context names (before ++ strings_in a) k)) (index_rule at)
            (held_part (Means a) (MadeOf fs d xs) (meant context names before a) (indexed_part (spot_of a)) (meant_same before a) (λ m h. indexed_same fs d (spot_of a) xs m (meant_of a m h)))
            (valued_same k (meant context names (before ++ strings_in a) k) (meant_same (before ++ strings_in a) k))
            (λ m v h q. subst (λ zs. Held (MadeOf fs d zs) (index_rule at m v)) (plain_both xs ys (placed.within names d a) (placed.within names d k) refl refl) (index_same fs d at xs ys m v h q.0)))
        meant_same before (t.member at a name) =
            let xs = plain (placed.within names d a) in
            made (t.member at a name) _ refl (λ l. refl) (held_part (Means a) (MadeOf fs d xs) (meant context names before a) (member_rule context at name) (meant_same before a) (λ m h. member_same fs d context at name xs m (meant_of a m h)))
        meant_same before (t.arrow at a name) =
            let xs = plain (placed.within names d a) in
            made (t.arrow at a name) _ refl (λ l. refl) (held_part (ValueOf a) (MadeOf fs d xs) (valued a (meant context names before a)) (λ v. arrow_rule context at name v.ty v.code) (valued_same a (meant context names before a) (meant_same before a)) (λ v h. arrow_same fs d context at name xs v.ty v.code h.0.0))
        meant_same before (t.unary at op a) =
            let xs = plain (placed.within names d a) in
            made (t.unary at op a) _ refl (λ l. refl) (held_part (Means a) (MadeOf fs d xs) (meant context names before a) (unary_meant at op (spot_of a)) (meant_same before a) (λ m h. unary_meant_same fs d at op (spot_of a) xs m (meant_of a m h)))
        meant_same before (t.cast at to a) =
            let xs = plain (placed.within names d a) in
            made (t.cast at to a) _ refl (λ l. refl)
            (held_part (ValueOf a) (MadeOf fs d xs) (valued a (meant context names before a)) (λ v. meaning_of_value (cast_rule at (cast_type to) (sort_of v.ty) v)) (valued_same a (meant context names before a) (meant_same before a))
            (λ v h. value_meaning fs d xs (cast_rule at (cast_type to) (sort_of v.ty) v) (cast_same fs d at (cast_type to) xs (sort_of v.ty) v h.0)))
        meant_same before (t.binary at op a b) =
            let xs = plain (placed.within names d a) in
            let ys = plain (placed.within names d b) in
            made (t.binary at op a b) _ refl (λ l. refl)
            (held_parts (ValueOf a) (ValueOf b) (MadeOf fs d (plain (placed.within names d a ++ placed.within names d b))) (valued a (meant context names before a)) (valued b (meant context names (before ++ strings_in a) b)) (λ v w. meaning_of_value (binary_rule at op v w))
            (valued_same a (meant context names before a) (meant_same before a)) (valued_same b (meant context names (before ++ strings_in a) b) (meant_same (before ++ strings_in a) b))
            (λ v w h q. subst (λ zs. Held (MadeOf fs d zs) (meaning_of_value (binary_rule at op v w))) (plain_both xs ys (placed.within names d a) (placed.within names d b) refl refl)
            (value_meaning fs d (xs ++ ys) (binary_rule at op v w) (binary_same fs d at op xs ys v w h.0 q.0))))
        meant_same before (t.conditional at c a b) =
            let xs = plain (placed.within names d c) in
            let ys = plain (placed.within names d a) in
            let zs = plain (placed.within names d b) in
            made (t.conditional at c a b) _ refl (λ l. refl)
            (held_parts (ValueOf c) (λ (w : Typed × Typed). ValueOf a w.0 × ValueOf b w.1) (MadeOf fs d (plain (placed.within names d c ++ (placed.within names d a ++ placed.within names d b)))) (valued c (meant context names before c)) (both (valued a (meant context names (before ++ strings_in c) a)) (valued b (meant context names (before ++ strings_in c ++ strings_in a) b))) _
            (valued_same c (meant context names before c) (meant_same before c))
            (held_both (ValueOf a) (ValueOf b) (valued a (meant context names (before ++ strings_in c) a)) (valued b (meant context names (before ++ strings_in c ++ strings_in a) b)) (valued_same a (meant context names (before ++ strings_in c) a) (meant_same (before ++ strings_in c) a)) (valued_same b (meant context names (before ++ strings_in c ++ strings_in a) b) (meant_same (before ++ strings_in c ++ strings_in a) b)))
            (λ u w h q. subst (λ all. Held (MadeOf fs d all) (meaning_of_value (conditional_rule at u w.0 w.1))) (plain_both xs (ys ++ zs) (placed.within names d c) (placed.within names d a ++ placed.within names d b) refl (plain_both ys zs (placed.within names d a) (placed.within names d b) refl refl))
            (value_meaning fs d (xs ++ (ys ++ zs)) (conditional_rule at u w.0 w.1) (conditional_same fs d at xs ys zs u w.0 w.1 h.0 q.0.0 q.1.0))))

        pub values_same : (before : List (List ℕ)) (es : t.Exprs) → Held (λ vs. in_values vs ≡ plain (placed.within_all names d es)) (values context names before es)
        values_same before t.none = refl
        values_same before (t.more e rest) =
            held_parts (ValueOf e) (λ vs. in_values vs ≡ plain (placed.within_all names d rest)) (λ vs. in_values vs ≡ plain (placed.within_all names d (t.more e rest))) (valued e (meant context names before e)) (values context names (before ++ strings_in e) rest) (λ v vs. Holds (v ∷ vs))
            (valued_same e (meant context names before e) (meant_same before e)) (values_same (before ++ strings_in e) rest) (λ v vs h k. plain_both (in_value fs d v.code) (in_values vs) (placed.within names d e) (placed.within_all names d rest) h.0.0 k)

      -- an expression as a value
      pub value_same : (before : List (List ℕ)) (e : t.Expr) → Held (ValueOf e) (value context names before e)
      value_same before e = valued_same e (meant context names before e) (meant_same before e)

      -- a call as a statement
      deletion_same : (name : Name) (args : t.Exprs) (es : List p.Expr) (inner : List PlacedFault) → meaning_in names name.text ≡ Some (a_builtin DeleteRegion) → length es ≡ 1 → in_arguments es ≡ plain inner →
          rule.alone fs d (t.call name args) (p.delete name.spot.line (first_argument name.spot.line es)) ≡ plain (own_call true name.spot (meaning_in names name.text) inner)
      deletion_same name args es inner h n e =
          let q = plain_call true name.spot (meaning_in names name.text) inner in
          let r : placed.deletes_regions (meaning_in names name.text) ≡ true = ap placed.deletes_regions h in
          let s = one_argument name.spot.line es n in
          ap (λ xs. or_own xs (in_place d name.spot.line)) (s ∙ e) ∙ ap (λ b. or_own (plain inner) (where_deleting b (in_place d name.spot.line))) (sym r) ∙ sym q

      alone_called : (name : Name) (args : t.Exprs) (f : Callee) (es : List p.Expr) → CalledBy (meaning_in names name.text) f → is_defined f ≡ true → is_function f ≡ true → length es ≡ length (parameters f) → in_arguments es ≡ plain (placed.within_all names d args) →
          rule.alone fs d (t.call name args) (called_alone name.spot.line f es) ≡ plain (placed.whole names d (t.call name args))
      alone_called name args (the_builtin DeleteRegion) es c i j n e = deletion_same name args es (placed.within_all names d args) c n e
      alone_called name args f es c i j n e = called_same true name.spot f es (meaning_in names name.text) (placed.within_all names d args) tt c i j n e

      pub call_alone_same : (before : List (List ℕ)) (name : Name) (args : t.Exprs) → Held (λ s. rule.alone fs d (t.call name args) s ≡ plain (placed.whole names d (t.call name args))) (with_parts (callee_rule name.spot (meaning_in names name.text)) (values context names before args) (call_statement name.spot))
      call_alone_same before name args =
          held_parts (CalledBy (meaning_in names name.text)) (λ vs. in_values vs ≡ plain (placed.within_all names d args)) (λ s. rule.alone fs d (t.call name args) s ≡ plain (placed.whole names d (t.call name args))) (callee_rule name.spot (meaning_in names name.text)) (values context names before args) (call_statement name.spot)
          (callee_same name.spot (meaning_in names name.text) (tells name.text)) (values_same before args)
          (λ f vs h k. held_part (IsCall false f vs) (λ s. rule.alone fs d (t.call name args) s ≡ plain (placed.whole names d (t.call name args))) (call_rule false name.spot f vs) _ (call_held false name.spot f vs)
          (λ es c. alone_called name args f es h c.0 c.1 c.4 (c.3 ∙ k)))
