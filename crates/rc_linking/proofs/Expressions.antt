-- An expression that holds in its file holds behind other files.
use Rattle.std.specs.Prelude.{◌≡◌, ℕ, ◌+◌, ◌≤◌, List, [], ◌∷◌, ◌++◌, Option, Some, None, Bool, true, false, length, map, slice_get, option_map, if◌then◌else◌}
use Rattle.std.specs.List.{AllByRecursion as Every}
use Rattle.std.proofs.Common.{refl, sym, ap, ◌∙◌, subst}
use Rattle.std.specs.Str.{bytes_eq}
use Rattle.rc_syntax.specs.declared.tree.Spot.{Spot}
use Rattle.rc_syntax.specs.declared.tree.Name.{Name}
use Rattle.rc_syntax.specs.declared.tree.Note.{Note as WrittenNote}
use Rattle.rc_syntax.specs.declared.tree.Base.{Base}
use Rattle.rc_syntax.specs.declared.tree.Base.TheVariants as base
use Rattle.rc_syntax.specs.declared.tree.UnaryOp.{UnaryOp}
use Rattle.rc_syntax.specs.declared.tree.UnaryOp.TheVariants.{Address}
use Rattle.rc_syntax.specs.Tree as t
use Rattle.rc_core.specs.declared.ty.Note.TheVariants.{Plain}
use Rattle.rc_core.specs.Types.{Ty, int, region, struct, pointer}
use Rattle.rc_core.specs.Programs as p
use Rattle.rc_core.specs.Layout.{size}
use Rattle.rc_deletes.specs.declared.sort.Sort.{Sort}
use Rattle.rc_deletes.specs.declared.sort.Sort.TheVariants.{Number}
use Rattle.rc_deletes.specs.Judged.{Judged, Holds, with_part, both}
use Rattle.rc_deletes.specs.Kinds.{sort_of, place_of, number_or, struct_number, spelled, base_type, starred, written_type, note_of}
use Rattle.rc_deletes.specs.Scopes.{Context, Shape, struct_names, structs_in, Scope, Meaning, a_local, a_global, a_function, a_builtin, meaning_in}
use Rattle.rc_deletes.specs.Values.{Typed, Meant, a_value, a_variable, a_place, an_array, valued, as_value, spot_of, fitted, promoted_value}
use Rattle.rc_deletes.specs.Operators.{unary_rule, cast_type}
use Rattle.rc_deletes.specs.Calls.{callee_rule}
use Rattle.rc_deletes.specs.Expressions.{strings_in, signedness, name_rule, found, base_rule, type_rule, next_field, field_named, fields_at, field_meant, field_rule, member_rule, arrow_rule, indexed_part, element_behind, element, index_by, index_rule, unary_meant, meant, values}
use Rattle.rc_deletes.proofs.Naming.{place_taken}
use Rattle.rc_linking.specs.Calls.{is_callable, calls_in, calls_in_all}
use Rattle.rc_linking.specs.Moved.{moved_spot, moved_name, moved_base, moved_type, moved, moved_all}
use Rattle.rc_linking.proofs.Sim.{Sim, Simo, Pair, sim_part, sim_parts, sim_both}
use Rattle.rc_linking.proofs.Values.{one_field, one_element, ren_ty, arithmetic_same, IsTyped, IsMeant, by_sort, binary_sim, conditional_sim, meaning_sim, unary_sim, cast_sim, address_sim, value_sim, fitted_sim}
use Rattle.rc_linking.proofs.Calls.{every_left, every_right, IsCallee, Found, InScope, AllTyped, callee_sim, call_value_sim, allocation_sim, array_allocation_sim}

abbrev pub ren_field : (ren : ℕ → ℕ) → p.Field → p.Field
ren_field ren f = record { ty = ren_ty ren f.ty; count = f.count }

abbrev pub ren_shape : (ren : ℕ → ℕ) → Shape → Shape
ren_shape ren = map (λ f. (f.0, ren_field ren f.1))

-- the structs of a file among those of all files: by name, with the same fields and no more cells
pub record Agree (one all : Context) (ren : ℕ → ℕ) : Type 0 where
  pub names : (name : List ℕ) (k : ℕ) → place_of (struct_names one) name ≡ Some k → place_of (struct_names all) name ≡ Some (ren k)
  pub shapes : (s : ℕ) (shape : Shape) → slice_get one.shapes s ≡ Some shape → slice_get all.shapes (ren s) ≡ Some (ren_shape ren shape)
  pub sizes : (s : ℕ) → size (structs_in all) (struct (ren s)) ≤ size (structs_in one) (struct s)

abbrev pub IsField : (ren : ℕ → ℕ) → ℕ × p.Field → ℕ × p.Field → Type 0
IsField ren f g = (g.1.ty ≡ ren_ty ren f.1.ty) × (g.1.count ≡ f.1.count)

next_sim : (ren : ℕ → ℕ) (f g : Option (ℕ × p.Field)) → Simo (IsField ren) f g → Simo (IsField ren) (next_field f) (next_field g)
next_sim ren None g h = tt
next_sim ren (Some f) (Some g) h = h
next_sim ren (Some f) None h = absurd h

named_if : (ren : ℕ → ℕ) (b : Bool) (x y f g : Option (ℕ × p.Field)) → Simo (IsField ren) x y → Simo (IsField ren) f g → Simo (IsField ren) (if b then x else f) (if b then y else g)
named_if ren true x y f g h k = h
named_if ren false x y f g h k = k

named_sim : (ren : ℕ → ℕ) (fs : Shape) (name : List ℕ) → Simo (IsField ren) (field_named fs name) (field_named (ren_shape ren fs) name)
named_sim ren [] name = tt
named_sim ren (f ∷ fs) name = named_if ren (bytes_eq f.0 name) (Some (0, f.1)) (Some (0, ren_field ren f.1)) (next_field (field_named fs name)) (next_field (field_named (ren_shape ren fs) name)) (refl, refl) (next_sim ren (field_named fs name) (field_named (ren_shape ren fs) name) (named_sim ren fs name))

module _ (n : ℕ) (one all : Context) (ren : ℕ → ℕ) (agree : Agree one all ren) where
  there : (s : ℕ) (name : List ℕ) (o : Option Shape) → slice_get one.shapes s ≡ o → Simo (IsField ren) (field_named (fields_at o) name) (field_named (fields_at (slice_get all.shapes (ren s))) name)
  there s name None e = tt
  there s name (Some shape) e = subst (λ x. Simo (IsField ren) (field_named shape name) (field_named (fields_at x) name)) (sym (agree.shapes s shape e)) (named_sim ren shape name)

  fields_there : (s : ℕ) (name : List ℕ) → Simo (IsField ren) (field_named (fields_at (slice_get one.shapes s)) name) (field_named (fields_at (slice_get all.shapes (ren s))) name)
  fields_there s name = there s name (slice_get one.shapes s) refl

  meant_by : (a b : p.Place) (s f r g : ℕ) (t u : Ty) (c : Option ℕ) → u ≡ ren_ty ren t → IsMeant ren (field_meant a s f t c) (field_meant b r g u c)
  meant_by a b s f r g t u None h = (one_field b a r g s f, h)
  meant_by a b s f r g t u (Some c) h = h

  field_meant_sim : (a b : p.Place) (s f r g : ℕ) (t u : Ty) (c d : Option ℕ) → u ≡ ren_ty ren t → d ≡ c → IsMeant ren (field_meant a s f t c) (field_meant b r g u d)
  field_meant_sim a b s f r g t u c d h e = subst (λ x. IsMeant ren (field_meant a s f t c) (field_meant b r g u x)) (sym e) (meant_by a b s f r g t u c h)

  field_rule_sim : (name other : Name) (a b : p.Place) (s r : ℕ) (f g : Option (ℕ × p.Field)) → Simo (IsField ren) f g → Sim (IsMeant ren) (field_rule name a s f) (field_rule other b r g)
  field_rule_sim name other a b s r None g h = tt
  field_rule_sim name other a b s r (Some f) (Some g) h = field_meant_sim a b s f.0 r g.0 f.1.ty g.1.ty f.1.count g.1.count h.0 h.1
  field_rule_sim name other a b s r (Some f) None h = absurd h

  member_sim : (at spot : Spot) (name : Name) (m o : Meant) → IsMeant ren m o → Sim (IsMeant ren) (member_rule one at name m) (member_rule all spot (moved_name n name) o)
  member_sim at spot name (a_place a (struct s)) (a_place b u) h =
      subst (λ x. Sim (IsMeant ren) (member_rule one at name (a_place a (struct s))) (member_rule all spot (moved_name n name) (a_place b x))) (sym h.1)
      (field_rule_sim name (moved_name n name) a b s (ren s) _ _ (fields_there s name.text))
  member_sim at spot name (a_place a (struct s)) (a_value w) h = absurd h
  member_sim at spot name (a_place a (struct s)) (a_variable y u) h = absurd h
  member_sim at spot name (a_place a (struct s)) (an_array b r g u) h = absurd h
  member_sim at spot name _ o h = tt

  arrow_by : (at spot : Spot) (name : Name) (ty : Option Ty) (e f : p.Expr) → Sim (IsMeant ren) (arrow_rule one at name ty e) (arrow_rule all spot (moved_name n name) (option_map (ren_ty ren) ty) f)
  arrow_by at spot name (Some (pointer note (struct s))) e f = field_rule_sim name (moved_name n name) (p.pointed e p.here) (p.pointed f p.here) s (ren s) _ _ (fields_there s name.text)
  arrow_by at spot name _ e f = tt

  arrow_sim : (at spot : Spot) (name : Name) (v w : Typed) → IsTyped ren v w → Sim (IsMeant ren) (arrow_rule one at name v.ty v.code) (arrow_rule all spot (moved_name n name) w.ty w.code)
  arrow_sim at spot name v w h = subst (λ x. Sim (IsMeant ren) (arrow_rule one at name v.ty v.code) (arrow_rule all spot (moved_name n name) x w.code)) (sym h) (arrow_by at spot name v.ty v.code w.code)

  indexed_sim : (at spot : Spot) (m o : Meant) → IsMeant ren m o → Sim (IsMeant ren) (indexed_part at m) (indexed_part spot o)
  indexed_sim at spot (an_array a s f t) (an_array b r g u) h = h
  indexed_sim at spot (a_value v) (a_value w) h = h
  indexed_sim at spot (a_variable x t) (a_variable y u) h = meaning_sim ren (as_value at (a_variable x t)) (as_value spot (a_variable y u)) (value_sim ren at spot (a_variable x t) (a_variable y u) h)
  indexed_sim at spot (a_place a t) (a_place b u) h = meaning_sim ren (as_value at (a_place a t)) (as_value spot (a_place b u)) (value_sim ren at spot (a_place a t) (a_place b u) h)
  indexed_sim at spot _ _ h = absurd h

  behind_by : (at spot : Spot) (ty : Option Ty) (e f i j : p.Expr) → Sim (IsMeant ren) (element_behind at ty e i) (element_behind spot (option_map (ren_ty ren) ty) f j)
  behind_by at spot (Some (pointer note t)) e f i j = (refl, refl)
  behind_by at spot _ e f i j = tt

  element_sim : (at spot : Spot) (m o : Meant) (i j : p.Expr) → IsMeant ren m o → Sim (IsMeant ren) (element at m i) (element spot o j)
  element_sim at spot (an_array a s f t) (an_array b r g u) i j h = (one_element b a r g s f j i, h)
  element_sim at spot (a_value v) (a_value w) i j h = subst (λ x. Sim (IsMeant ren) (element at (a_value v) i) (element_behind spot x w.code j)) (sym h) (behind_by at spot v.ty v.code w.code i j)
  element_sim at spot (a_variable x t) (a_variable y u) i j h = tt
  element_sim at spot (a_place a t) (a_place b u) i j h = tt
  element_sim at spot _ _ i j h = absurd h

  index_by_sim : (at spot : Spot) (m o : Meant) (s : Sort) (v w : Typed) → IsMeant ren m o → Sim (IsMeant ren) (index_by at m s v) (index_by spot o s w)
  index_by_sim at spot m o (Number from) v w h = element_sim at spot m o (promoted_value from v) (promoted_value from w) h
  index_by_sim at spot m o _ v w h = tt

  index_sim : (at spot : Spot) (m o : Meant) (v w : Typed) → IsMeant ren m o → IsTyped ren v w → Sim (IsMeant ren) (index_rule at m v) (index_rule spot o w)
  index_sim at spot m o v w h k = by_sort ren (λ s. Sim (IsMeant ren) (index_rule at m v) (index_by spot o s w)) v w k (index_by_sim at spot m o (sort_of v.ty) v w h)

  operand_sim : (at spot : Spot) (op : UnaryOp) (inner within : Spot) (m o : Meant) → IsMeant ren m o → Sim (IsMeant ren) (unary_meant at op inner m) (unary_meant spot op within o)
  operand_sim at spot Address inner within m o h = meaning_sim ren _ _ (address_sim ren at spot m o h)
  operand_sim at spot op inner within m o h = sim_part (IsTyped ren) (IsMeant ren) (as_value inner m) (as_value within o) (unary_rule at op) (unary_rule spot op) (value_sim ren inner within m o h) (unary_sim ren at spot op)

  pub valued_sim : (e f : t.Expr) (x y : Judged Meant) → Sim (IsMeant ren) x y → Sim (IsTyped ren) (valued e x) (valued f y)
  valued_sim e f x y h = sim_part (IsMeant ren) (IsTyped ren) x y (as_value (spot_of e)) (as_value (spot_of f)) h (value_sim ren (spot_of e) (spot_of f))

  -- types as they are written
  pub number_is : (context : Context) (name : List ℕ) (k : ℕ) → place_of (struct_names context) name ≡ Some k → struct_number context.types name ≡ k
  number_is context name k h = ap (λ o. number_or o (length context.types + spelled name)) (place_taken (length context.shapes) context.types name k h)

  pub base_same : (name : List ℕ) (k : ℕ) → place_of (struct_names one) name ≡ Some k → struct_number all.types name ≡ ren (struct_number one.types name)
  base_same name k h = number_is all name (ren k) (agree.names name k h) ∙ ap ren (sym (number_is one name k h))

  abbrev pub BaseIs : Base → Unit {0} → Unit {0} → Type 0
  BaseIs b u v = base_type all.types (moved_base n b) ≡ ren_ty ren (base_type one.types b)

  found_by : (at spot name_at : Spot) (name : Name) (o q : Option ℕ) → place_of (struct_names one) name.text ≡ o → ((k : ℕ) → o ≡ Some k → q ≡ Some (ren k)) → Sim (BaseIs (base.Struct name_at name)) (with_part (found at o) (λ k. Holds tt)) (with_part (found spot q) (λ k. Holds tt))
  found_by at spot name_at name None q e h = tt
  found_by at spot name_at name (Some k) (Some l) e h = ap struct (base_same name.text k e)
  found_by at spot name_at name (Some k) None e h = absurd (differ (h k refl)) where
    differ : None ≡ Some (ren k) → ⊥
    differ e = cc

  pub base_sim : (b : Base) → Sim (BaseIs b) (base_rule one b) (base_rule all (moved_base n b))
  base_sim (base.Int at) = refl
  base_sim (base.Unsigned at) = refl
  base_sim (base.Char at) = refl
  base_sim (base.Region at) = refl
  base_sim (base.Struct at name) = found_by name.spot (moved_spot n name.spot) at name (place_of (struct_names one) name.text) (place_of (struct_names all) name.text) refl (λ k e. agree.names name.text k e)

  pub starred_same : (t u : Ty) (notes : List WrittenNote) → u ≡ ren_ty ren t → starred u notes ≡ ren_ty ren (starred t notes)
  starred_same t u [] h = h
  starred_same t u (m ∷ notes) h = starred_same (pointer (note_of m) t) (pointer (note_of m) u) notes (ap (pointer (note_of m)) h)

  abbrev pub TypeIs : t.TypeName → Type 0
  TypeIs ty = written_type all.types (moved_type n ty) ≡ ren_ty ren (written_type one.types ty)

  pub type_is : (ty : t.TypeName) → BaseIs ty.base tt tt → TypeIs ty
  type_is ty h = starred_same (base_type one.types ty.base) (base_type all.types (moved_base n ty.base)) ty.stars h

  type_sim : (ty : t.TypeName) → Sim (λ u v. v ≡ ren_ty ren u) (type_rule one ty) (type_rule all (moved_type n ty))
  type_sim ty = sim_part (BaseIs ty.base) (λ u v. v ≡ ren_ty ren u) (base_rule one ty.base) (base_rule all (moved_base n ty.base)) _ _ (base_sim ty.base) (λ u v h. type_is ty h)

  abbrev pub Callable : Name → Type 0
  Callable name = is_callable all.functions name.text ≡ true

  name_sim : (functions : List (List ℕ)) (name : List ℕ) (at spot : Spot) (m o : Option Meaning) → Found ren functions name m o → Sim (IsMeant ren) (name_rule at m) (name_rule spot o)
  name_sim functions name at spot None o h = tt
  name_sim functions name at spot (Some (a_local x t)) (Some (a_local y u)) h = h.1
  name_sim functions name at spot (Some (a_global g t None)) (Some (a_global i u None)) h = (refl, h.0)
  name_sim functions name at spot (Some (a_global g t (Some c))) (Some (a_global i u (Some d))) h = ap (λ x. Some (pointer Plain x)) h.0
  name_sim functions name at spot (Some (a_global g t None)) (Some (a_global i u (Some d))) h = absurd cc
  name_sim functions name at spot (Some (a_global g t (Some c))) (Some (a_global i u None)) h = absurd cc
  name_sim functions name at spot (Some (a_function i s)) o h = tt
  name_sim functions name at spot (Some (a_builtin b)) o h = tt
  name_sim functions name at spot (Some _) None h = absurd h
  name_sim functions name at spot (Some _) (Some _) h = absurd h

  module _ (names others : Scope) (scope : InScope ren all.functions names others) where
    mutual
      pub meant_sim : (before after : List (List ℕ)) (e : t.Expr) → Every Callable (calls_in e) → Sim (IsMeant ren) (meant one names before e) (meant all others after (moved n e))
      meant_sim before after (t.number at v u) h = ap Some (sym (arithmetic_same ren (signedness u v)))
      meant_sim before after (t.character at c) h = refl
      meant_sim before after (t.string at bytes) h = refl
      meant_sim before after (t.null at) h = refl
      meant_sim before after (t.eof at) h = refl
      meant_sim before after (t.variable name) h = name_sim all.functions name.text name.spot (moved_spot n name.spot) (meaning_in names name.text) (meaning_in others name.text) (scope name.text)
      meant_sim before after (t.call name args) h =
          sim_parts (IsCallee ren) (AllTyped ren) (IsMeant ren) (callee_rule name.spot (meaning_in names name.text)) (callee_rule (moved_spot n name.spot) (meaning_in others name.text)) (values one names before args) (values all others after (moved_all n args)) _ _
          (callee_sim ren all.functions name.text name.spot (moved_spot n name.spot) (meaning_in names name.text) (meaning_in others name.text) (scope name.text) h.0)
          (values_sim before after args h.1)
          (λ f g vs ws c k. meaning_sim ren _ _ (call_value_sim ren name.spot (moved_spot n name.spot) f g vs ws c k))
      meant_sim before after (t.ralloc at r ty) h =
          sim_parts (IsTyped ren) (λ u v. v ≡ ren_ty ren u) (IsMeant ren) (valued r (meant one names before r)) (valued (moved n r) (meant all others after (moved n r))) (type_rule one ty) (type_rule all (moved_type n ty)) _ _
          (valued_sim r (moved n r) _ _ (meant_sim before after r h)) (type_sim ty)
          (λ v w u x k l. meaning_sim ren _ _ (allocation_sim ren at (moved_spot n at) u x (fitted region v) (fitted region w) l (fitted_sim ren region region v w refl k)))
      meant_sim before after (t.rarrayalloc at r k ty) h =
          sim_parts (IsTyped ren) (Pair (IsTyped ren) (λ u v. v ≡ ren_ty ren u)) (IsMeant ren) (valued r (meant one names before r)) (valued (moved n r) (meant all others after (moved n r)))
          (both (valued k (meant one names (before ++ strings_in r) k)) (type_rule one ty)) (both (valued (moved n k) (meant all others (after ++ strings_in (moved n r)) (moved n k))) (type_rule all (moved_type n ty))) _ _
          (valued_sim r (moved n r) _ _ (meant_sim before after r (every_left Callable (calls_in r) (calls_in k) h)))
          (sim_both (IsTyped ren) (λ u v. v ≡ ren_ty ren u) _ _ (type_rule one ty) (type_rule all (moved_type n ty)) (valued_sim k (moved n k) _ _ (meant_sim (before ++ strings_in r) (after ++ strings_in (moved n r)) k (every_right Callable (calls_in r) (calls_in k) h))) (λ a b q. type_sim ty))
          (λ v w x y q l. meaning_sim ren _ _ (array_allocation_sim ren at (moved_spot n at) x.1 y.1 (fitted region v) (fitted region w) (fitted int x.0) (fitted int y.0) l.1 (fitted_sim ren region region v w refl q) (fitted_sim ren int int x.0 y.0 refl l.0)))
      meant_sim before after (t.index at a k) h =
          sim_parts (IsMeant ren) (IsTyped ren) (IsMeant ren) (with_part (meant one names before a) (indexed_part (spot_of a))) (with_part (meant all others after (moved n a)) (indexed_part (spot_of (moved n a)))) (valued k (meant one names (before ++ strings_in a) k)) (valued (moved n k) (meant all others (after ++ strings_in (moved n a)) (moved n k))) _ _
          (sim_part (IsMeant ren) (IsMeant ren) (meant one names before a) (meant all others after (moved n a)) (indexed_part (spot_of a)) (indexed_part (spot_of (moved n a))) (meant_sim before after a (every_left Callable (calls_in a) (calls_in k) h)) (indexed_sim (spot_of a) (spot_of (moved n a))))
          (valued_sim k (moved n k) _ _ (meant_sim (before ++ strings_in a) (after ++ strings_in (moved n a)) k (every_right Callable (calls_in a) (calls_in k) h)))
          (λ m o v w q l. index_sim at (moved_spot n at) m o v w q l)
      meant_sim before after (t.member at a name) h = sim_part (IsMeant ren) (IsMeant ren) (meant one names before a) (meant all others after (moved n a)) _ _ (meant_sim before after a h) (member_sim at (moved_spot n at) name)
      meant_sim before after (t.arrow at a name) h = sim_part (IsTyped ren) (IsMeant ren) (valued a (meant one names before a)) (valued (moved n a) (meant all others after (moved n a))) _ _ (valued_sim a (moved n a) _ _ (meant_sim before after a h)) (arrow_sim at (moved_spot n at) name)
      meant_sim before after (t.unary at op a) h = sim_part (IsMeant ren) (IsMeant ren) (meant one names before a) (meant all others after (moved n a)) _ _ (meant_sim before after a h) (operand_sim at (moved_spot n at) op (spot_of a) (spot_of (moved n a)))
      meant_sim before after (t.cast at to a) h = sim_part (IsTyped ren) (IsMeant ren) (valued a (meant one names before a)) (valued (moved n a) (meant all others after (moved n a))) _ _ (valued_sim a (moved n a) _ _ (meant_sim before after a h)) (λ v w k. meaning_sim ren _ _ (cast_sim ren at (moved_spot n at) (cast_type to) v w k))
      meant_sim before after (t.binary at op a b) h =
          sim_parts (IsTyped ren) (IsTyped ren) (IsMeant ren) (valued a (meant one names before a)) (valued (moved n a) (meant all others after (moved n a))) (valued b (meant one names (before ++ strings_in a) b)) (valued (moved n b) (meant all others (after ++ strings_in (moved n a)) (moved n b))) _ _
          (valued_sim a (moved n a) _ _ (meant_sim before after a (every_left Callable (calls_in a) (calls_in b) h)))
          (valued_sim b (moved n b) _ _ (meant_sim (before ++ strings_in a) (after ++ strings_in (moved n a)) b (every_right Callable (calls_in a) (calls_in b) h)))
          (λ v w x y k l. meaning_sim ren _ _ (binary_sim ren at (moved_spot n at) op v w x y k l))
      meant_sim before after (t.conditional at c a b) h =
          let rest = every_right Callable (calls_in c) (calls_in a ++ calls_in b) h in
          sim_parts (IsTyped ren) (Pair (IsTyped ren) (IsTyped ren)) (IsMeant ren) (valued c (meant one names before c)) (valued (moved n c) (meant all others after (moved n c)))
          (both (valued a (meant one names (before ++ strings_in c) a)) (valued b (meant one names (before ++ strings_in c ++ strings_in a) b)))
          (both (valued (moved n a) (meant all others (after ++ strings_in (moved n c)) (moved n a))) (valued (moved n b) (meant all others (after ++ strings_in (moved n c) ++ strings_in (moved n a)) (moved n b)))) _ _
          (valued_sim c (moved n c) _ _ (meant_sim before after c (every_left Callable (calls_in c) (calls_in a ++ calls_in b) h)))
          (sim_both (IsTyped ren) (IsTyped ren) _ _ _ _ (valued_sim a (moved n a) _ _ (meant_sim _ _ a (every_left Callable (calls_in a) (calls_in b) rest))) (λ x y q. valued_sim b (moved n b) _ _ (meant_sim _ _ b (every_right Callable (calls_in a) (calls_in b) rest))))
          (λ u v x y k l. meaning_sim ren _ _ (conditional_sim ren at (moved_spot n at) u v x.0 y.0 x.1 y.1 k l.0 l.1))

      pub values_sim : (before after : List (List ℕ)) (args : t.Exprs) → Every Callable (calls_in_all args) → Sim (AllTyped ren) (values one names before args) (values all others after (moved_all n args))
      values_sim before after t.none h = tt
      values_sim before after (t.more e rest) h =
          sim_parts (IsTyped ren) (AllTyped ren) (AllTyped ren) (valued e (meant one names before e)) (valued (moved n e) (meant all others after (moved n e))) (values one names (before ++ strings_in e) rest) (values all others (after ++ strings_in (moved n e)) (moved_all n rest)) _ _
          (valued_sim e (moved n e) _ _ (meant_sim before after e (every_left Callable (calls_in e) (calls_in_all rest) h)))
          (values_sim (before ++ strings_in e) (after ++ strings_in (moved n e)) rest (every_right Callable (calls_in e) (calls_in_all rest) h))
          (λ v w vs ws k l. (k, l))
