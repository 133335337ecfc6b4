-- What calls ask of scopes.
use Rattle.std.specs.Prelude.{◌≡◌, ℕ, List, [], ◌∷◌, ◌++◌, Option, Some, None, Bool, true, false, not, nat_eq, length, map, option_map, is_some, is_none, ◌&&◌, ◌||◌, if◌then◌else◌}
use Rattle.std.specs.List.{AllByRecursion as Every}
use Rattle.std.proofs.Common.{refl, sym, ap, ◌∙◌, subst, suc}
use Rattle.rc_syntax.specs.declared.tree.Spot.{Spot}
use Rattle.rc_core.specs.Types.{Ty, pointer}
use Rattle.rc_core.specs.Programs as p
use Rattle.rc_core.specs.declared.ty.Note.TheVariants.{Plain}
use Rattle.rc_core.specs.Typing.{value_type}
use Rattle.rc_deletes.specs.declared.fault.Refusal.{Refusal}
use Rattle.rc_deletes.specs.declared.fault.Refusal.TheVariants.{Unknown, Mistyped, Arity}
use Rattle.rc_deletes.specs.declared.builtin.Builtin.{Builtin}
use Rattle.rc_deletes.specs.declared.builtin.Builtin.TheVariants.{NewRegion, NewSubregion, DeleteRegion, RegionOf, Putchar, Getchar}
use Rattle.rc_deletes.specs.declared.sort.Sort.{Sort}
use Rattle.rc_deletes.specs.declared.sort.Sort.TheVariants.{Pointer}
use Rattle.rc_deletes.specs.Builtins.{Parameter, of_type, any_pointer, row}
use Rattle.rc_deletes.specs.Judged.{failing}
use Rattle.rc_deletes.specs.Kinds.{sort_of, place_of}
use Rattle.rc_deletes.specs.Scopes.{Scope, Meaning, a_local, a_global, a_function, a_builtin, Signature, meaning_in}
use Rattle.rc_deletes.specs.Values.{Typed}
use Rattle.rc_deletes.specs.Calls.{Callee, the_function, the_builtin, no_function, callee_rule, is_defined, is_function, parameters, gives, if_pointer, fitted_argument, with_argument, fitted_arguments, call_refusals, call_rule, call_value, call_statement, allocation, array_allocation}
use Rattle.rc_linking.specs.Calls.{is_built_in, is_callable}
use Rattle.rc_linking.proofs.Sim.{Sim, Simo, Any, sim_part, sim_ruled}
use Rattle.rc_linking.proofs.Values.{ren_ty, IsTyped, by_sort, value_same, fitted_sim}

pub every_left : {A : Type 0} (P : A → Type 0) (xs ys : List A) → Every P (xs ++ ys) → Every P xs
every_left P [] ys h = tt
every_left P (x ∷ xs) ys h = (h.0, every_left P xs ys h.1)

pub every_right : {A : Type 0} (P : A → Type 0) (xs ys : List A) → Every P (xs ++ ys) → Every P ys
every_right P [] ys h = h
every_right P (x ∷ xs) ys h = every_right P xs ys h.1

pub none_failing : (b : Bool) (k : Refusal) (rest : List Refusal) → failing b k ++ rest ≡ [] → (b ≡ false) × (rest ≡ [])
none_failing true k rest h = absurd cc
none_failing false k rest h = (refl, h)

pub not_failing : (b : Bool) (k : Refusal) → failing b k ≡ [] → b ≡ false
not_failing true k h = absurd cc
not_failing false k h = refl

pub no_refusal : (b : Bool) (k : Refusal) → b ≡ false → failing b k ≡ []
no_refusal false k h = refl
no_refusal true k h = absurd cc

pub no_refusals : (b : Bool) (k : Refusal) (rest : List Refusal) → b ≡ false → rest ≡ [] → failing b k ++ rest ≡ []
no_refusals false k rest h e = e
no_refusals true k rest h e = absurd cc

pub neither : (a b : Bool) → a || b ≡ false → (a ≡ false) × (b ≡ false)
neither false b h = (refl, h)
neither true b h = absurd cc

pub or_false : (a b : Bool) → a ≡ false → b ≡ false → a || b ≡ false
or_false false b h k = k
or_false true b h k = absurd cc

module _ (ren : ℕ → ℕ) where
  abbrev pub ren_parameter : Parameter → Parameter
  ren_parameter (of_type t) = of_type (ren_ty ren t)
  ren_parameter any_pointer = any_pointer

  pub record IsSignature (s r : Signature) : Type 0 where
    pub takes : r.takes ≡ map (ren_ty ren) s.takes
    pub gives : r.gives ≡ option_map (ren_ty ren) s.gives
    pub deletes : r.deletes ≡ s.deletes

  abbrev pub IsCallee : Callee → Callee → Type 0
  IsCallee (the_function k s) (the_function l r) = IsSignature s r × (is_some l ≡ true)
  IsCallee (the_builtin b) (the_builtin c) = c ≡ b
  IsCallee no_function no_function = Unit {0}
  IsCallee _ _ = ⊥

  -- what names stand for in a file and behind others
  abbrev pub IsMeaning : (functions : List (List ℕ)) → List ℕ → Meaning → Meaning → Type 0
  IsMeaning functions name (a_local x t) (a_local y u) = (y ≡ x) × (u ≡ ren_ty ren t)
  IsMeaning functions name (a_global g t c) (a_global h u d) = (u ≡ ren_ty ren t) × (d ≡ c)
  IsMeaning functions name (a_function k s) (a_function l r) = IsSignature s r × (l ≡ place_of functions name) × (is_built_in name ≡ false)
  IsMeaning functions name (a_builtin b) (a_builtin c) = c ≡ b
  IsMeaning functions name _ _ = ⊥

  abbrev pub IsNoLocal : Option Meaning → Type 0
  IsNoLocal (Some (a_local x t)) = ⊥
  IsNoLocal m = Unit {0}

  abbrev pub Found : (functions : List (List ℕ)) → List ℕ → Option Meaning → Option Meaning → Type 0
  Found functions name (Some m) (Some n) = IsMeaning functions name m n
  Found functions name (Some m) None = ⊥
  Found functions name None n = IsNoLocal n

  abbrev pub InScope : (functions : List (List ℕ)) → Scope → Scope → Type 0
  InScope functions names others = (name : List ℕ) → Found functions name (meaning_in names name) (meaning_in others name)

  callable_is : (a b : Bool) → a ≡ false → a || b ≡ true → b ≡ true
  callable_is false b h k = k
  callable_is true b h k = absurd cc

  pub callee_sim : (functions : List (List ℕ)) (name : List ℕ) (at spot : Spot) (m n : Option Meaning) → Found functions name m n → is_callable functions name ≡ true → Sim IsCallee (callee_rule at m) (callee_rule spot n)
  callee_sim functions name at spot None n h k = tt
  callee_sim functions name at spot (Some (a_local x t)) (Some (a_local y u)) h k = tt
  callee_sim functions name at spot (Some (a_global g t c)) (Some (a_global i u d)) h k = tt
  callee_sim functions name at spot (Some (a_function i s)) (Some (a_function j r)) h k = (h.0, ap is_some h.1 ∙ callable_is (is_built_in name) (is_some (place_of functions name)) h.2 k)
  callee_sim functions name at spot (Some (a_builtin b)) (Some (a_builtin c)) h k = h
  callee_sim functions name at spot (Some _) None h k = absurd h
  callee_sim functions name at spot (Some _) (Some _) h k = absurd h

  parameters_map : (ts : List Ty) → map of_type (map (ren_ty ren) ts) ≡ map ren_parameter (map of_type ts)
  parameters_map [] = refl
  parameters_map (t ∷ ts) = ap (λ x. of_type (ren_ty ren t) ∷ x) (parameters_map ts)

  row_parameters : (b : Builtin) → (row b).takes ≡ map ren_parameter (row b).takes
  row_parameters NewRegion = refl
  row_parameters NewSubregion = refl
  row_parameters DeleteRegion = refl
  row_parameters RegionOf = refl
  row_parameters Putchar = refl
  row_parameters Getchar = refl

  row_gives : (b : Builtin) → (row b).gives ≡ option_map (ren_ty ren) (row b).gives
  row_gives NewRegion = refl
  row_gives NewSubregion = refl
  row_gives DeleteRegion = refl
  row_gives RegionOf = refl
  row_gives Putchar = refl
  row_gives Getchar = refl

  -- what is compared at a call
  pub record SameCallee (f g : Callee) : Type 0 where
    pub defined : is_defined g ≡ true
    pub function : is_function g ≡ is_function f
    pub takes : parameters g ≡ map ren_parameter (parameters f)
    pub gives : gives g ≡ option_map (ren_ty ren) (gives f)

  pub same_callee : (f g : Callee) → IsCallee f g → SameCallee f g
  same_callee (the_function k s) (the_function l r) h = record { defined = h.1; function = refl; takes = ap (map of_type) h.0.takes ∙ parameters_map s.takes; gives = h.0.gives }
  same_callee (the_builtin b) (the_builtin c) h = record { defined = refl; function = refl; takes = ap (λ x. (row x).takes) h ∙ row_parameters b; gives = ap (λ x. (row x).gives) h ∙ row_gives b }
  same_callee no_function no_function h = record { defined = refl; function = refl; takes = refl; gives = refl }
  same_callee (the_function k s) (the_builtin c) h = absurd h
  same_callee (the_function k s) no_function h = absurd h
  same_callee (the_builtin b) (the_function l r) h = absurd h
  same_callee (the_builtin b) no_function h = absurd h
  same_callee no_function (the_function l r) h = absurd h
  same_callee no_function (the_builtin c) h = absurd h

  abbrev pub AllTyped : List Typed → List Typed → Type 0
  AllTyped [] [] = Unit {0}
  AllTyped (v ∷ vs) (w ∷ ws) = IsTyped ren v w × AllTyped vs ws
  AllTyped _ _ = ⊥

  if_pointer_sim : (s : Sort) (e f : p.Expr) → Simo Any (if_pointer s e) (if_pointer s f)
  if_pointer_sim Pointer e f = tt
  if_pointer_sim _ e f = tt

  argument_sim : (q : Parameter) (v w : Typed) → IsTyped ren v w → Simo Any (fitted_argument q v) (fitted_argument (ren_parameter q) w)
  argument_sim (of_type t) v w h = fitted_sim ren t (ren_ty ren t) v w refl h
  argument_sim any_pointer v w h = by_sort ren (λ s. Simo Any (if_pointer (sort_of v.ty) v.code) (if_pointer s w.code)) v w h (if_pointer_sim (sort_of v.ty) v.code w.code)

  with_sim : (a b : Option p.Expr) (es fs : Option (List p.Expr)) → Simo Any a b → Simo Any es fs → Simo Any (with_argument a es) (with_argument b fs)
  with_sim None b es fs h k = tt
  with_sim (Some a) b None fs h k = tt
  with_sim (Some a) (Some b) (Some es) (Some fs) h k = tt
  with_sim (Some a) (Some b) (Some es) None h k = absurd k
  with_sim (Some a) None (Some es) fs h k = absurd h

  some_same : (o : Option Ty) → is_some (option_map (ren_ty ren) o) ≡ is_some o
  some_same None = refl
  some_same (Some t) = refl

  surplus_sim : (a b : Bool) (es fs : Option (List p.Expr)) → b ≡ a → Simo Any es fs → Simo Any (if a then es else None) (if b then fs else None)
  surplus_sim false b es fs h k = tt
  surplus_sim true true es fs h k = k
  surplus_sim true false es fs h k = absurd cc

  arguments_sim : (ps : List Parameter) (vs ws : List Typed) → AllTyped vs ws → Simo Any (fitted_arguments ps vs) (fitted_arguments (map ren_parameter ps) ws)
  arguments_sim ps [] [] h = tt
  arguments_sim ps [] (w ∷ ws) h = absurd h
  arguments_sim ps (v ∷ vs) [] h = absurd h
  arguments_sim [] (v ∷ vs) (w ∷ ws) h = surplus_sim (is_some v.ty) (is_some w.ty) (fitted_arguments [] vs) (fitted_arguments [] ws) (ap is_some h.0 ∙ some_same v.ty) (arguments_sim [] vs ws h.1)
  arguments_sim (q ∷ ps) (v ∷ vs) (w ∷ ws) h = with_sim (fitted_argument q v) (fitted_argument (ren_parameter q) w) (fitted_arguments ps vs) (fitted_arguments (map ren_parameter ps) ws) (argument_sim q v w h.0) (arguments_sim ps vs ws h.1)

  as_many : (vs ws : List Typed) → AllTyped vs ws → length ws ≡ length vs
  as_many [] [] h = refl
  as_many (v ∷ vs) (w ∷ ws) h = ap suc (as_many vs ws h.1)
  as_many [] (w ∷ ws) h = absurd h
  as_many (v ∷ vs) [] h = absurd h

  as_many_parameters : (ps : List Parameter) → length (map ren_parameter ps) ≡ length ps
  as_many_parameters [] = refl
  as_many_parameters (q ∷ ps) = ap suc (as_many_parameters ps)

  given_still : (a b : Option (List p.Expr)) → Simo Any a b → not (is_some a) ≡ false → not (is_some b) ≡ false
  given_still (Some a) (Some b) h k = refl
  given_still (Some a) None h k = absurd h
  given_still None b h k = absurd cc

  none_same : (a b : Option Ty) → b ≡ option_map (ren_ty ren) a → is_none b ≡ is_none a
  none_same None b h = ap is_none h
  none_same (Some t) b h = ap is_none h

  defined_still : (b : Bool) → b ≡ true → not b ≡ false
  defined_still true h = refl
  defined_still false h = absurd cc

  pub refusals_sim : (wanted : Bool) (f g : Callee) (vs ws : List Typed) → SameCallee f g → AllTyped vs ws → call_refusals wanted f (fitted_arguments (parameters f) vs) (length vs) ≡ [] → call_refusals wanted g (fitted_arguments (parameters g) ws) (length ws) ≡ []
  refusals_sim wanted f g vs ws same h e =
      let es = fitted_arguments (parameters f) vs in
      let fs = fitted_arguments (parameters g) ws in
      let one = none_failing (not (is_defined f)) Unknown (failing (not (is_function f) || (not (is_some es) || (wanted && is_none (gives f)))) Mistyped ++ failing (not (nat_eq (length (parameters f)) (length vs))) Arity) e in
      let two = none_failing (not (is_function f) || (not (is_some es) || (wanted && is_none (gives f)))) Mistyped (failing (not (nat_eq (length (parameters f)) (length vs))) Arity) one.1 in
      let three = neither (not (is_function f)) (not (is_some es) || (wanted && is_none (gives f))) two.0 in
      let four = neither (not (is_some es)) (wanted && is_none (gives f)) three.1 in
      let arity = not_failing (not (nat_eq (length (parameters f)) (length vs))) Arity two.1 in
      let fitted_too : Simo Any es fs = subst (λ x. Simo Any es (fitted_arguments x ws)) (sym same.takes) (arguments_sim (parameters f) vs ws h) in
      let taken : length (parameters g) ≡ length (parameters f) = ap length same.takes ∙ as_many_parameters (parameters f) in
      no_refusals (not (is_defined g)) Unknown _ (defined_still (is_defined g) same.defined)
      (no_refusals (not (is_function g) || (not (is_some fs) || (wanted && is_none (gives g)))) Mistyped _
      (or_false (not (is_function g)) (not (is_some fs) || (wanted && is_none (gives g))) (ap not same.function ∙ three.0)
      (or_false (not (is_some fs)) (wanted && is_none (gives g)) (given_still es fs fitted_too four.0) (ap (λ x. wanted && x) (none_same (gives f) (gives g) same.gives) ∙ four.1)))
      (no_refusal (not (nat_eq (length (parameters g)) (length ws))) Arity (ap (λ x. not (nat_eq x (length ws))) taken ∙ ap (λ x. not (nat_eq (length (parameters f)) x)) (as_many vs ws h) ∙ arity)))

  rule_sim : (wanted : Bool) (at spot : Spot) (f g : Callee) (vs ws : List Typed) → IsCallee f g → AllTyped vs ws → Sim Any (call_rule wanted at f vs) (call_rule wanted spot g ws)
  rule_sim wanted at spot f g vs ws c h = sim_ruled Any at spot _ _ _ _ (λ e. (refusals_sim wanted f g vs ws (same_callee f g c) h e, tt))

  gives_same : (o : Option Ty) → option_map value_type (option_map (ren_ty ren) o) ≡ option_map (ren_ty ren) (option_map value_type o)
  gives_same None = refl
  gives_same (Some t) = ap Some (value_same ren t)

  pub call_value_sim : (at spot : Spot) (f g : Callee) (vs ws : List Typed) → IsCallee f g → AllTyped vs ws → Sim (IsTyped ren) (call_value at f vs) (call_value spot g ws)
  call_value_sim at spot f g vs ws c h = sim_part Any (IsTyped ren) (call_rule true at f vs) (call_rule true spot g ws) _ _ (rule_sim true at spot f g vs ws c h) (λ es fs a. ap (option_map value_type) (same_callee f g c).gives ∙ gives_same (gives f))

  pub call_statement_sim : (at spot : Spot) (f g : Callee) (vs ws : List Typed) → IsCallee f g → AllTyped vs ws → Sim Any (call_statement at f vs) (call_statement spot g ws)
  call_statement_sim at spot f g vs ws c h = sim_part Any Any (call_rule false at f vs) (call_rule false spot g ws) _ _ (rule_sim false at spot f g vs ws c h) (λ es fs a. tt)

  pub allocation_sim : (at spot : Spot) (t u : Ty) (a b : Option p.Expr) → u ≡ ren_ty ren t → Simo Any a b → Sim (IsTyped ren) (allocation at t a) (allocation spot u b)
  allocation_sim at spot t u None b h k = tt
  allocation_sim at spot t u (Some a) (Some b) h k = ap (λ x. Some (pointer Plain x)) h
  allocation_sim at spot t u (Some a) None h k = absurd k

  pub array_allocation_sim : (at spot : Spot) (t u : Ty) (a b c d : Option p.Expr) → u ≡ ren_ty ren t → Simo Any a b → Simo Any c d → Sim (IsTyped ren) (array_allocation at t a c) (array_allocation spot u b d)
  array_allocation_sim at spot t u (Some a) (Some b) (Some c) (Some d) h k l = ap (λ x. Some (pointer Plain x)) h
  array_allocation_sim at spot t u (Some a) None c d h k l = absurd k
  array_allocation_sim at spot t u (Some a) (Some b) (Some c) None h k l = absurd l
  array_allocation_sim at spot t u _ b _ d h k l = tt
