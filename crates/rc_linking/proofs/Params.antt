-- An item that holds in its file holds behind other files.
use Rattle.std.specs.Prelude.{◌≡◌, ℕ, ◌≤◌, List, [], ◌∷◌, Option, Some, None, Bool, true, false, nat_lt, is_none, ◌&&◌, ◌||◌, map, option_map, if◌then◌else◌}
use Rattle.std.proofs.Common.{refl, sym, ap, ◌∙◌, subst, arith, length-append}
use Rattle.std.proofs.lemmas.Bool.Decides.{nat_tests}
use Rattle.rc_syntax.specs.declared.tree.Spot.{Spot}
use Rattle.rc_syntax.specs.declared.tree.Name.{Name}
use Rattle.rc_syntax.specs.declared.tree.Constant.{Constant}
use Rattle.rc_syntax.specs.declared.tree.Constant.TheVariants as constant
use Rattle.rc_syntax.specs.Tree as t
use Rattle.rc_core.specs.Types.{Ty}
use Rattle.rc_core.specs.Typing.{is_struct}
use Rattle.rc_deletes.specs.declared.fault.Refusal.TheVariants.{Unknown, Mistyped}
use Rattle.rc_deletes.specs.Judged.{Judged, Holds, Faulty, with_part, with_parts, in_front, fails}
use Rattle.rc_deletes.specs.Kinds.{sort_of_type, written_type}
use Rattle.rc_deletes.specs.Scopes.{Context}
use Rattle.rc_deletes.specs.Expressions.{base_rule}
use Rattle.rc_deletes.specs.Statements.{Here, new_name}
use Rattle.rc_deletes.specs.Items.{with_param, with_params, type_option, is_defined_before, once, written_value, initial_by, initial_of, param_name, param_rule, params_rule, result_rule, is_struct_option}
use Rattle.rc_linking.specs.Moved.{moved_spot, moved_name, moved_base, moved_type, moved_param, moved_constant}
use Rattle.rc_linking.proofs.Sim.{Sim, Any, sim_parts, sim_after, sim_more, sim_ruled}
use Rattle.rc_linking.proofs.Values.{ren_ty, sort_same, struct_same}
use Rattle.rc_linking.proofs.Calls.{not_failing, no_refusal}
use Rattle.rc_linking.proofs.Expressions.{Agree, BaseIs, base_sim, TypeIs, type_is}
use Rattle.rc_linking.proofs.Statements.{IsHere, with_local_here, new_name_sim}

-- it holds
abbrev pub IsHeld : {A : Type 0} → Judged A → Type 0
IsHeld (Holds a) = Unit {0}
IsHeld (Faulty f fs) = ⊥

pub sim_held : {A B : Type 0} (R : A → B → Type 0) (x : Judged A) (y : Judged B) → Sim R x y → IsHeld x → IsHeld y
sim_held R (Holds a) (Holds b) h k = tt
sim_held R (Holds a) (Faulty f fs) h k = h
sim_held R (Faulty f fs) y h k = absurd k

-- what holds of two that hold, whatever they give
pub sim_gives : {A B : Type 0} (C : Type 0) (x : Judged A) (y : Judged B) → Sim (λ (a : A) (b : B). C) x y → IsHeld x → C
sim_gives C (Holds a) (Holds b) h k = h
sim_gives C (Holds a) (Faulty f fs) h k = absurd h
sim_gives C (Faulty f fs) y h k = absurd k

pub knowing : {A B : Type 0} (R : A → B → Type 0) (x : Judged A) (y : Judged B) → (IsHeld x → Sim R x y) → Sim R x y
knowing R (Holds a) y h = h tt
knowing R (Faulty f fs) y h = tt

pub held_first : {A B C : Type 0} (x : Judged A) (y : Judged B) (f : A → B → Judged C) → IsHeld (with_parts x y f) → IsHeld x
held_first (Holds a) y f h = tt
held_first (Faulty e es) y f h = h

pub held_second : {A B C : Type 0} (x : Judged A) (y : Judged B) (f : A → B → Judged C) → IsHeld (with_parts x y f) → IsHeld y
held_second (Holds a) (Holds b) f h = tt
held_second (Holds a) (Faulty e es) f h = h
held_second (Faulty e es) y f h = absurd h

pub held_part : {A B : Type 0} (x : Judged A) (f : A → Judged B) → IsHeld (with_part x f) → IsHeld x
held_part (Holds a) f h = tt
held_part (Faulty e es) f h = h

pub held_front : {A B : Type 0} (x : Judged A) (y : Judged B) → IsHeld (in_front x y) → IsHeld x × IsHeld y
held_front (Holds a) y h = (tt, h)
held_front (Faulty e es) y h = absurd h

pub held_parts : {A B C : Type 0} (x : Judged A) (y : Judged B) (f : A → B → Judged C) → IsHeld x → IsHeld y → ((a : A) (b : B) → IsHeld (f a b)) → IsHeld (with_parts x y f)
held_parts (Holds a) (Holds b) f h k l = l a b
held_parts (Holds a) (Faulty e es) f h k l = k
held_parts (Faulty e es) y f h k l = h

pub front_held : {A B : Type 0} (x : Judged A) (y : Judged B) → IsHeld x → IsHeld y → IsHeld (in_front x y)
front_held (Holds a) y h k = k
front_held (Faulty e es) y h k = h

pub front_sim : {A B C D : Type 0} (R : A → B → Type 0) (S : C → D → Type 0) (x : Judged A) (y : Judged B) (u : Judged C) (v : Judged D) → Sim R x y → Sim S u v → Sim S (in_front x u) (in_front y v)
front_sim R S (Faulty e es) y u v h k = tt
front_sim R S (Holds a) (Holds b) u v h k = k
front_sim R S (Holds a) (Faulty e es) u v h k = absurd h

pub small : (m n : ℕ) → nat_lt m n ≡ false → n ≤ m
small m n h = grind (arith, nat_tests)

pub is_small : (m n : ℕ) → n ≤ m → nat_lt m n ≡ false
is_small m n h = grind (arith, nat_tests)

-- once here where it is once there
pub once_sim : (name other : Name) (b c : Bool) → (b ≡ false → c ≡ false) → Sim Any (once name b) (once other c)
once_sim name other true c h = tt
once_sim name other false false h = tt
once_sim name other false true h = absurd (differ (h refl)) where
  differ : true ≡ false → ⊥
  differ e = cc

pub not_once : (name : Name) (b : Bool) → IsHeld (once name b) → b ≡ false
not_once name false h = refl
not_once name true h = absurd h

pub base_value : (b : Bool) (at : Spot) → IsHeld {A = Unit {0}} (if b then Holds tt else fails at Unknown) → b ≡ true
base_value true at h = refl
base_value false at h = absurd h

pub value_if : (b : Bool) (at : Spot) → b ≡ true → IsHeld {A = Unit {0}} (if b then Holds tt else fails at Unknown)
value_if true at h = tt
value_if false at h = absurd cc

pub number_there : (n : ℕ) (o : Option ℕ) → is_defined_before n o ≡ true → (k : ℕ) × (o ≡ Some k)
number_there n (Some k) h = (k, refl)
number_there n None h = absurd cc

written_moved : (n : ℕ) (c : Constant) → written_value (moved_constant n c) ≡ written_value c
written_moved n (constant.Number at v u) = refl
written_moved n (constant.Negative at v u) = refl
written_moved n (constant.Character at v) = refl
written_moved n (constant.Null at) = refl
written_moved n (constant.Eof at) = refl

pub initial_sim : (n : ℕ) (ren : ℕ → ℕ) (t u : Ty) (count : Option ℕ) (c : Option Constant) → u ≡ ren_ty ren t → is_none (initial_of t count c) ≡ false → is_none (initial_of u count (option_map (moved_constant n) c)) ≡ false
initial_sim n ren t u count None e h = refl
initial_sim n ren t u (Some k) (Some c) e h = absurd cc
initial_sim n ren t u None (Some c) e h = ap (λ s. is_none (initial_by s (written_value (moved_constant n c)))) (ap sort_of_type e ∙ sort_same ren t) ∙ ap (λ v. is_none (initial_by (sort_of_type t) v)) (written_moved n c) ∙ h

pub struct_option_same : (ren : ℕ → ℕ) (o : Option Ty) → is_struct_option (option_map (ren_ty ren) o) ≡ is_struct_option o
struct_option_same ren None = refl
struct_option_same ren (Some t) = struct_same ren t

none_moved : (n : ℕ) (o : Option Name) → is_none (option_map (moved_name n) o) ≡ is_none o
none_moved n None = refl
none_moved n (Some name) = refl

module _ (n : ℕ) (file all : Context) (ren : ℕ → ℕ) (agree : Agree file all ren) where
  -- parameters
  param_here : (here there : Here) (q : t.Param) → TypeIs n file all ren agree q.type_name → IsHere n file all ren agree here there → IsHere n file all ren agree (with_param file here q) (with_param all there (moved_param n q))
  param_here here there q e h = by q.spot q.type_name q.name e where
    by : (at : Spot) (ty : t.TypeName) (o : Option Name) → TypeIs n file all ren agree ty → IsHere n file all ren agree (with_param file here (record { spot = at; type_name = ty; name = o })) (with_param all there (moved_param n (record { spot = at; type_name = ty; name = o })))
    by at ty None e = (h.0, omega (arith, h.1, length-append here.locals (written_type file.types ty ∷ []), length-append there.locals (written_type all.types (moved_type n ty) ∷ [])), h.2)
    by at ty (Some name) e = with_local_here n file all ren agree here there (written_type file.types ty) (written_type all.types (moved_type n ty)) name.text e h

  param_name_sim : (here there : Here) (o : Option Name) → IsHere n file all ren agree here there → Sim Any (param_name here o) (param_name there (option_map (moved_name n) o))
  param_name_sim here there None h = tt
  param_name_sim here there (Some name) h = subst (λ x. Sim Any (new_name here.first here.names name) (new_name x there.names (moved_name n name))) (sym h.2) (new_name_sim n file all ren agree here.first here.names there.names name h.0)

  param_sim : (has_body : Bool) (here there : Here) (q : t.Param) → IsHere n file all ren agree here there → Sim (λ u v. TypeIs n file all ren agree q.type_name) (param_rule file has_body here q) (param_rule all has_body there (moved_param n q))
  param_sim has_body here there q h =
      sim_parts (BaseIs n file all ren agree q.type_name.base) Any (λ u v. TypeIs n file all ren agree q.type_name) (base_rule file q.type_name.base) (base_rule all (moved_base n q.type_name.base)) (param_name here q.name) (param_name there (option_map (moved_name n) q.name)) _ _
      (base_sim n file all ren agree q.type_name.base) (param_name_sim here there q.name h)
      (λ u v x y e k.
      let ty : TypeIs n file all ren agree q.type_name = type_is n file all ren agree q.type_name e in
      sim_ruled (λ u v. TypeIs n file all ren agree q.type_name) q.spot (moved_spot n q.spot) _ _ tt tt
      (λ r. (no_refusal _ Mistyped (ap (λ z. z || (has_body && is_none (option_map (moved_name n) q.name))) (ap is_struct ty ∙ struct_same ren (written_type file.types q.type_name)) ∙ ap (λ z. is_struct (written_type file.types q.type_name) || (has_body && z)) (none_moved n q.name) ∙ not_failing _ Mistyped r), ty)))

  pub params_sim : (has_body : Bool) (here there : Here) (qs : List t.Param) → IsHere n file all ren agree here there → Sim (λ u v. IsHere n file all ren agree (with_params file here qs) (with_params all there (map (moved_param n) qs))) (params_rule file has_body here qs) (params_rule all has_body there (map (moved_param n) qs))
  params_sim has_body here there [] h = h
  params_sim has_body here there (q ∷ qs) h =
      sim_after (λ u v. TypeIs n file all ren agree q.type_name) (λ u v. IsHere n file all ren agree (with_params file here (q ∷ qs)) (with_params all there (map (moved_param n) (q ∷ qs)))) (λ u v. IsHere n file all ren agree (with_params file here (q ∷ qs)) (with_params all there (map (moved_param n) (q ∷ qs))))
      (param_rule file has_body here q) (param_rule all has_body there (moved_param n q)) (params_rule file has_body (with_param file here q) qs) (params_rule all has_body (with_param all there (moved_param n q)) (map (moved_param n) qs)) _ _
      (param_sim has_body here there q h)
      (λ u v e. params_sim has_body (with_param file here q) (with_param all there (moved_param n q)) qs (param_here here there q e h))
      (λ u v x y e k. k)

  -- their types, wherever they stand
  pub takes_are : (has_body : Bool) (here : Here) (qs : List t.Param) → IsHeld (params_rule file has_body here qs) → map (λ q. written_type all.types q.type_name) (map (moved_param n) qs) ≡ map (ren_ty ren) (map (λ q. written_type file.types q.type_name) qs)
  takes_are has_body here [] h = refl
  takes_are has_body here (q ∷ qs) h =
      let one = held_first (param_rule file has_body here q) (params_rule file has_body (with_param file here q) qs) (λ u v. Holds tt) h in
      let rest = held_second (param_rule file has_body here q) (params_rule file has_body (with_param file here q) qs) (λ u v. Holds tt) h in
      let based = held_first (base_rule file q.type_name.base) (param_name here q.name) _ one in
      let ty : TypeIs n file all ren agree q.type_name = type_is n file all ren agree q.type_name (sim_gives (BaseIs n file all ren agree q.type_name.base tt tt) (base_rule file q.type_name.base) (base_rule all (moved_base n q.type_name.base)) (base_sim n file all ren agree q.type_name.base) based) in
      ap (λ x. x ∷ map (λ q. written_type all.types q.type_name) (map (moved_param n) qs)) ty ∙ ap (λ x. ren_ty ren (written_type file.types q.type_name) ∷ x) (takes_are has_body (with_param file here q) qs rest)

  pub result_sim : (result : Option t.TypeName) → Sim (λ u v. type_option all (option_map (moved_type n) result) ≡ option_map (ren_ty ren) (type_option file result)) (result_rule file result) (result_rule all (option_map (moved_type n) result))
  result_sim None = refl
  result_sim (Some ty) = sim_more (BaseIs n file all ren agree ty.base) _ (base_rule file ty.base) (base_rule all (moved_base n ty.base)) (base_sim n file all ren agree ty.base) (λ u v e. ap Some (type_is n file all ren agree ty e))
