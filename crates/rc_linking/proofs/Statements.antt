-- A statement that holds in its file holds behind other files, and so does what it declares.
use Rattle.std.specs.Prelude.{◌≡◌, ℕ, ◌≤◌, List, [], ◌∷◌, ◌++◌, Option, Some, None, Bool, true, false, ◌&&◌, nat_eq, nat_le, length, option_map, is_none, if◌then◌else◌}
use Rattle.std.specs.List.{AllByRecursion as Every}
use Rattle.std.proofs.Common.{refl, sym, ap, ◌∙◌, subst, arith, length-append}
use Rattle.std.proofs.lemmas.Bool.Decides.{nat_tests}
use Rattle.std.specs.Str.{bytes_eq}
use Rattle.rc_syntax.specs.declared.tree.Spot.{Spot}
use Rattle.rc_syntax.specs.declared.tree.Name.{Name}
use Rattle.rc_syntax.specs.declared.tree.BinaryOp.{BinaryOp}
use Rattle.rc_syntax.specs.Tree as t
use Rattle.rc_core.specs.declared.stmt.Change.{Change}
use Rattle.rc_core.specs.Types.{Ty, struct}
use Rattle.rc_core.specs.Programs as p
use Rattle.rc_core.specs.Layout.{size}
use Rattle.rc_deletes.specs.declared.fault.Refusal.TheVariants.{Twice, Mistyped}
use Rattle.rc_deletes.specs.Judged.{Judged, Holds, with_part, both, fails, fitting}
use Rattle.rc_deletes.specs.Scopes.{Context, structs_in, Scope, Meaning, a_local, a_global, a_function, a_builtin, meaning_in}
use Rattle.rc_deletes.specs.Values.{Typed, Meant, a_value, a_variable, a_place, an_array, typed, as_value, spot_of, fitted}
use Rattle.rc_deletes.specs.Operators.{change_of}
use Rattle.rc_deletes.specs.Calls.{callee_rule}
use Rattle.rc_deletes.specs.Expressions.{strings_in, base_rule, meant, values, value}
use Rattle.rc_deletes.specs.Statements.{Here, inside, outside, behind, behind_option, behind_simple_option, with_local, local_type, declared, behind_local, behind_locals, behind_start, behind_stmt, behind_stmts, RightSide, one_value, whole_struct, right_side, copy_of, assignment, assigned_change, updated_place, update_of, step_operator, one, alone_rule, is_twice, new_name, declaration, returned, value_option, condition, condition_option, expression_alone, simple, simple_option, local, locals, for_start, in_a_loop, stmt, stmts}
use Rattle.rc_linking.specs.Calls.{calls_in, calls_in_option, calls_in_simple, calls_in_simple_option, calls_in_locals, calls_in_start, calls_in_stmt, calls_in_stmts}
use Rattle.rc_linking.specs.Moved.{moved_spot, moved_name, moved_base, moved, moved_all, moved_option, moved_simple, moved_simple_option, moved_local, moved_locals, moved_start, moved_stmt, moved_stmts}
use Rattle.rc_linking.proofs.Sim.{Sim, Simo, Any, Pair, sim_part, sim_parts, sim_after, sim_both, sim_more, sim_fitting, simo_map}
use Rattle.rc_linking.proofs.Values.{kind_of, ren_ty, both_true, and_true, IsTyped, IsMeant, value_sim, fitted_sim, condition_sim, change_sim}
use Rattle.rc_linking.proofs.Calls.{every_left, every_right, IsCallee, Found, InScope, AllTyped, callee_sim, call_statement_sim}
use Rattle.rc_linking.proofs.Expressions.{Agree, Callable, meant_sim, values_sim, valued_sim, base_sim, BaseIs, type_is}

copied : (a b c d : ℕ) → (a ≡ b → c ≡ d) → nat_eq a b ≡ true → nat_eq c d ≡ true
copied a b c d h e =
    let q : a ≡ b = grind (arith, nat_tests) in
    let r : c ≡ d = h q in
    grind (arith, nat_tests)

smaller : (a b m : ℕ) → b ≤ a → nat_le a m ≡ true → nat_le b m ≡ true
smaller a b m h e = grind (arith, nat_tests)

not_none : (a b : Option Ty) (f : Ty → Ty) → b ≡ option_map f a → is_none a ≡ false → is_none b ≡ false
not_none (Some x) b f h e = ap is_none h
not_none None b f h e = absurd cc

-- a judgement that refuses where a test is true
sim_unless : (at spot : Spot) (c d : Bool) {A : Type 0} (a b : A) → (c ≡ false → d ≡ false) → Sim Any (if c then fails at Twice else Holds a) (if d then fails spot Twice else Holds b)
sim_unless at spot true d a b h = tt
sim_unless at spot false false a b h = tt
sim_unless at spot false true a b h = absurd (differ (h refl)) where
  differ : true ≡ false → ⊥
  differ e = cc

module _ (n : ℕ) (file all : Context) (ren : ℕ → ℕ) (agree : Agree file all ren) where
  abbrev pub IsHere : Here → Here → Type 0
  IsHere here there = InScope ren all.functions here.names there.names × (length there.locals ≡ length here.locals) × (there.first ≡ here.first)

  abbrev pub AreCallable : List Name → Type 0
  AreCallable = Every (Callable n file all ren agree)

  -- a name that is declared inside
  in_scope_if : (b : Bool) (name : List ℕ) (x y : ℕ) (t u : Ty) (m o : Option Meaning) → y ≡ x → u ≡ ren_ty ren t → Found ren all.functions name m o → Found ren all.functions name (if b then Some (a_local x t) else m) (if b then Some (a_local y u) else o)
  in_scope_if true name x y t u m o h k f = (h, k)
  in_scope_if false name x y t u m o h k f = f

  pub with_local_here : (here there : Here) (t u : Ty) (name : List ℕ) → u ≡ ren_ty ren t → IsHere here there → IsHere (with_local here t name) (with_local there u name)
  with_local_here here there t u name e h = (
    λ other. in_scope_if (bytes_eq name other) other (length here.locals) (length there.locals) t u (meaning_in here.names other) (meaning_in there.names other) h.1 e (h.0 other),
    omega (arith, h.1, length-append here.locals (t ∷ []), length-append there.locals (u ∷ [])),
    h.2,
  )

  abbrev pub IsOption : Option Typed → Option Typed → Type 0
  IsOption (Some v) (Some w) = IsTyped ren v w
  IsOption None None = Unit {0}
  IsOption _ _ = ⊥

  -- expressions in a scope
  module _ (names others : Scope) (scope : InScope ren all.functions names others) where
    expression : (before after : List (List ℕ)) (e : t.Expr) → AreCallable (calls_in e) → Sim (IsMeant ren) (meant file names before e) (meant all others after (moved n e))
    expression before after e h = meant_sim n file all ren agree names others scope before after e h

    value_of : (before after : List (List ℕ)) (e : t.Expr) → AreCallable (calls_in e) → Sim (IsTyped ren) (value file names before e) (value all others after (moved n e))
    value_of before after e h = valued_sim n file all ren agree e (moved n e) (meant file names before e) (meant all others after (moved n e)) (expression before after e h)

    value_option_sim : (before after : List (List ℕ)) (e : Option t.Expr) → AreCallable (calls_in_option e) → Sim IsOption (value_option file names before e) (value_option all others after (moved_option n e))
    value_option_sim before after None h = tt
    value_option_sim before after (Some e) h = sim_part (IsTyped ren) IsOption (value file names before e) (value all others after (moved n e)) (λ v. Holds (Some v)) (λ v. Holds (Some v)) (value_of before after e h) (λ v w k. k)

    pub condition_of : (before after : List (List ℕ)) (e : t.Expr) → AreCallable (calls_in e) → Sim Any (condition file names before e) (condition all others after (moved n e))
    condition_of before after e h = sim_part (IsTyped ren) Any (value file names before e) (value all others after (moved n e)) _ _ (value_of before after e h) (λ v w k. condition_sim ren (spot_of e) (spot_of (moved n e)) v w k)

    pub condition_option_sim : (before after : List (List ℕ)) (e : Option t.Expr) → AreCallable (calls_in_option e) → Sim Any (condition_option file names before e) (condition_option all others after (moved_option n e))
    condition_option_sim before after None h = tt
    condition_option_sim before after (Some e) h = sim_part Any Any (condition file names before e) (condition all others after (moved n e)) _ _ (condition_of before after e h) (λ v w k. tt)

    alone_if : (at spot : Spot) (c d : Bool) (x y : p.Stmt) → (c ≡ false → d ≡ false) → Sim Any (if c then fails at Mistyped else Holds x) (if d then fails spot Mistyped else Holds y)
    alone_if at spot true d x y h = tt
    alone_if at spot false false x y h = tt
    alone_if at spot false true x y h = absurd (differ (h refl)) where
      differ : true ≡ false → ⊥
      differ e = cc

    alone_sim : (at spot : Spot) (v w : Typed) → IsTyped ren v w → Sim Any (alone_rule at v) (alone_rule spot w)
    alone_sim at spot v w h = alone_if at spot (is_none v.ty) (is_none w.ty) (p.evaluate at.line v.code) (p.evaluate spot.line w.code) (not_none v.ty w.ty (ren_ty ren) h)

    expression_alone_sim : (before after : List (List ℕ)) (e : t.Expr) → AreCallable (calls_in e) → Sim Any (expression_alone file names before e) (expression_alone all others after (moved n e))
    expression_alone_sim before after (t.call name args) h =
        sim_parts (IsCallee ren) (AllTyped ren) Any (callee_rule name.spot (meaning_in names name.text)) (callee_rule (moved_spot n name.spot) (meaning_in others name.text)) (values file names before args) (values all others after (moved_all n args)) _ _
        (callee_sim ren all.functions name.text name.spot (moved_spot n name.spot) (meaning_in names name.text) (meaning_in others name.text) (scope name.text) h.0)
        (values_sim n file all ren agree names others scope before after args h.1)
        (λ f g vs ws c k. call_statement_sim ren name.spot (moved_spot n name.spot) f g vs ws c k)
    expression_alone_sim before after e h = sim_part (IsTyped ren) Any (value file names before e) (value all others after (moved n e)) _ _ (value_of before after e h) (λ v w k. alone_sim (spot_of e) (spot_of (moved n e)) v w k)

  abbrev IsRight : RightSide → RightSide → Type 0
  IsRight (one_value v) (one_value w) = IsTyped ren v w
  IsRight (whole_struct a s) (whole_struct b r) = r ≡ ren s
  IsRight _ _ = ⊥

  as_one : (x y : Judged Typed) → Sim (IsTyped ren) x y → Sim IsRight (with_part x (λ v. Holds (one_value v))) (with_part y (λ v. Holds (one_value v)))
  as_one x y h = sim_part (IsTyped ren) IsRight x y _ _ h (λ v w k. k)

  right_by : (at spot : Spot) (a b : p.Place) (t : Ty) → kind_of b ≡ kind_of a → Sim IsRight (right_side at (a_place a t)) (right_side spot (a_place b (ren_ty ren t)))
  right_by at spot a b (struct s) h = refl
  right_by at spot a b t h = as_one (as_value at (a_place a t)) (as_value spot (a_place b (ren_ty ren t))) (value_sim ren at spot (a_place a t) (a_place b (ren_ty ren t)) (h, refl))

  right_sim : (at spot : Spot) (m o : Meant) → IsMeant ren m o → Sim IsRight (right_side at m) (right_side spot o)
  right_sim at spot (a_place a t) (a_place b u) h = subst (λ x. Sim IsRight (right_side at (a_place a t)) (right_side spot (a_place b x))) (sym h.1) (right_by at spot a b t h.0)
  right_sim at spot (a_value v) (a_value w) h = h
  right_sim at spot (a_variable x t) (a_variable y u) h = as_one (as_value at (a_variable x t)) (as_value spot (a_variable y u)) (value_sim ren at spot (a_variable x t) (a_variable y u) h)
  right_sim at spot (an_array a s f t) (an_array b r g u) h = tt
  right_sim at spot _ _ h = absurd h

  copy_if : (c d : Bool) (x y : p.Stmt) → (c ≡ true → d ≡ true) → Simo Any (if c then Some x else None) (if d then Some y else None)
  copy_if false d x y h = tt
  copy_if true true x y h = tt
  copy_if true false x y h = absurd (differ (h refl)) where
    differ : false ≡ true → ⊥
    differ e = cc

  copy_sim : (line other : ℕ) (a b : p.Place) (s : ℕ) (c d : p.Place) (k : ℕ) → Simo Any (copy_of file line a s c k) (copy_of all other b (ren s) d (ren k))
  copy_sim line other a b s c d k =
      copy_if (nat_eq s k && nat_le (size (structs_in file) (struct s)) 256) (nat_eq (ren s) (ren k) && nat_le (size (structs_in all) (struct (ren s))) 256) (p.copy line s a c) (p.copy other (ren s) b d)
      (λ e. let q = both_true (nat_eq s k) (nat_le (size (structs_in file) (struct s)) 256) e in
      and_true (nat_eq (ren s) (ren k)) (nat_le (size (structs_in all) (struct (ren s))) 256) (copied s k (ren s) (ren k) (ap ren) q.0) (smaller (size (structs_in file) (struct s)) (size (structs_in all) (struct (ren s))) 256 (agree.sizes s) q.1))

  store_by : (line other : ℕ) (a b : p.Place) (t : Ty) (v w : RightSide) → IsRight v w → Simo Any (assignment file line (a_place a t) v) (assignment all other (a_place b (ren_ty ren t)) w)
  store_by line other a b t (one_value v) (one_value w) h = simo_map Any Any (p.store line a) (p.store other b) (fitted t v) (fitted (ren_ty ren t) w) (fitted_sim ren t (ren_ty ren t) v w refl h) (λ e f k. tt)
  store_by line other a b (struct s) (whole_struct c k) (whole_struct d l) h = subst (λ x. Simo Any (copy_of file line a s c k) (copy_of all other b (ren s) d x)) (sym h) (copy_sim line other a b s c d k)
  store_by line other a b t (whole_struct c k) (whole_struct d l) h = tt
  store_by line other a b t (one_value v) (whole_struct d l) h = absurd h
  store_by line other a b t (whole_struct c k) (one_value w) h = absurd h

  assignment_sim : (line other : ℕ) (m o : Meant) (v w : RightSide) → IsMeant ren m o → IsRight v w → Simo Any (assignment file line m v) (assignment all other o w)
  assignment_sim line other (a_variable x t) (a_variable y u) (one_value v) (one_value w) h k = simo_map Any Any (p.assign line x) (p.assign other y) (fitted t v) (fitted u w) (fitted_sim ren t u v w h k) (λ e f q. tt)
  assignment_sim line other (a_variable x t) (a_variable y u) (whole_struct c i) w h k = tt
  assignment_sim line other (a_variable x t) (a_variable y u) (one_value v) (whole_struct d l) h k = absurd k
  assignment_sim line other (a_place a t) (a_place b u) v w h k = subst (λ x. Simo Any (assignment file line (a_place a t) v) (assignment all other (a_place b x) w)) (sym h.1) (store_by line other a b t v w k)
  assignment_sim line other (a_value x) (a_value y) v w h k = tt
  assignment_sim line other (an_array a s f t) (an_array b r g u) v w h k = tt
  assignment_sim line other _ _ v w h k = absurd h

  assigned_sim : (line other x y : ℕ) (v w : Typed) (c d : Option (Change × p.Expr)) → Simo Any c d → Simo Any (assigned_change line x v c) (assigned_change other y w d)
  assigned_sim line other x y v w None d h = tt
  assigned_sim line other x y v w (Some c) (Some d) h = tt
  assigned_sim line other x y v w (Some c) None h = absurd h

  updated_sim : (line other : ℕ) (a b : p.Place) (c d : Option (Change × p.Expr)) → Simo Any c d → Simo Any (updated_place line a c) (updated_place other b d)
  updated_sim line other a b None d h = tt
  updated_sim line other a b (Some c) (Some d) h = tt
  updated_sim line other a b (Some c) None h = absurd h

  update_sim : (line other left behind : ℕ) (op : BinaryOp) (m o : Meant) (v w : Typed) → IsMeant ren m o → IsTyped ren v w → Simo Any (update_of line left op m v) (update_of other behind op o w)
  update_sim line other left behind op (a_variable x t) (a_variable y u) v w h k = assigned_sim line other x y (typed left t (p.local left x)) (typed behind u (p.local behind y)) (change_of op t v) (change_of op u w) (change_sim ren op t u v w h k)
  update_sim line other left behind op (a_place a t) (a_place b u) v w h k = updated_sim line other a b (change_of op t v) (change_of op u w) (change_sim ren op t u v w h.1 k)
  update_sim line other left behind op (a_value x) (a_value y) v w h k = tt
  update_sim line other left behind op (an_array a s f t) (an_array b r g u) v w h k = tt
  update_sim line other left behind op _ _ v w h k = absurd h

  module _ (names others : Scope) (scope : InScope ren all.functions names others) where
    pub simple_sim : (before after : List (List ℕ)) (s : t.Simple) → AreCallable (calls_in_simple s) → Sim Any (simple file names before s) (simple all others after (moved_simple n s))
    simple_sim before after (t.expression e) h = expression_alone_sim names others scope before after e h
    simple_sim before after (t.assign at l r) h =
        sim_parts (IsMeant ren) IsRight Any (meant file names before l) (meant all others after (moved n l)) (with_part (meant file names (before ++ strings_in l) r) (right_side (spot_of r))) (with_part (meant all others (after ++ strings_in (moved n l)) (moved n r)) (right_side (spot_of (moved n r)))) _ _
        (expression names others scope before after l (every_left (Callable n file all ren agree) (calls_in l) (calls_in r) h))
        (sim_part (IsMeant ren) IsRight (meant file names (before ++ strings_in l) r) (meant all others (after ++ strings_in (moved n l)) (moved n r)) _ _ (expression names others scope (before ++ strings_in l) (after ++ strings_in (moved n l)) r (every_right (Callable n file all ren agree) (calls_in l) (calls_in r) h)) (right_sim (spot_of r) (spot_of (moved n r))))
        (λ m o v w k q. sim_fitting Any at (moved_spot n at) (assignment file at.line m v) (assignment all at.line o w) (assignment_sim at.line at.line m o v w k q))
    simple_sim before after (t.update at op l r) h =
        sim_parts (IsMeant ren) (IsTyped ren) Any (meant file names before l) (meant all others after (moved n l)) (value file names (before ++ strings_in l) r) (value all others (after ++ strings_in (moved n l)) (moved n r)) _ _
        (expression names others scope before after l (every_left (Callable n file all ren agree) (calls_in l) (calls_in r) h))
        (value_of names others scope (before ++ strings_in l) (after ++ strings_in (moved n l)) r (every_right (Callable n file all ren agree) (calls_in l) (calls_in r) h))
        (λ m o v w k q. sim_fitting Any at (moved_spot n at) _ _ (update_sim at.line at.line (spot_of l).line (spot_of (moved n l)).line op m o v w k q))
    simple_sim before after (t.step_after at op l) h =
        sim_part (IsMeant ren) Any (meant file names before l) (meant all others after (moved n l)) _ _ (expression names others scope before after l h)
        (λ m o k. sim_fitting Any at (moved_spot n at) _ _ (update_sim at.line at.line (spot_of l).line (spot_of (moved n l)).line (step_operator op) m o (one at.line) (one at.line) k refl))
    simple_sim before after (t.step_before at op l) h =
        sim_part (IsMeant ren) Any (meant file names before l) (meant all others after (moved n l)) _ _ (expression names others scope before after l h)
        (λ m o k. sim_fitting Any at (moved_spot n at) _ _ (update_sim at.line at.line (spot_of l).line (spot_of (moved n l)).line (step_operator op) m o (one at.line) (one at.line) k refl))

    pub simple_option_sim : (before after : List (List ℕ)) (s : Option t.Simple) → AreCallable (calls_in_simple_option s) → Sim Any (simple_option file names before s) (simple_option all others after (moved_simple_option n s))
    simple_option_sim before after None h = tt
    simple_option_sim before after (Some s) h = simple_sim before after s h

  twice_sim : (functions : List (List ℕ)) (name : List ℕ) (first : ℕ) (m o : Option Meaning) → Found ren functions name m o → is_twice first m ≡ false → is_twice first o ≡ false
  twice_sim functions name first (Some (a_local x t)) (Some (a_local y u)) h e = ap (nat_le first) h.0 ∙ e
  twice_sim functions name first (Some (a_global g t c)) (Some (a_global i u d)) h e = refl
  twice_sim functions name first (Some (a_function i s)) (Some (a_function j r)) h e = refl
  twice_sim functions name first (Some (a_builtin b)) (Some (a_builtin c)) h e = refl
  twice_sim functions name first None None h e = refl
  twice_sim functions name first None (Some (a_global i u d)) h e = refl
  twice_sim functions name first None (Some (a_function j r)) h e = refl
  twice_sim functions name first None (Some (a_builtin c)) h e = refl
  twice_sim functions name first _ _ h e = absurd h

  pub new_name_sim : (first : ℕ) (names others : Scope) (name : Name) → InScope ren all.functions names others → Sim Any (new_name first names name) (new_name first others (moved_name n name))
  new_name_sim first names others name scope = sim_unless name.spot (moved_spot n name.spot) (is_twice first (meaning_in names name.text)) (is_twice first (meaning_in others name.text)) tt tt (twice_sim all.functions name.text first (meaning_in names name.text) (meaning_in others name.text) (scope name.text))

  declaration_by : (line x y : ℕ) (t : Ty) (v w : Option Typed) → IsOption v w → Simo Any (declaration line x t v) (declaration line y (ren_ty ren t) w)
  declaration_by line x y (struct s) v w h = tt
  declaration_by line x y _ None None h = tt
  declaration_by line x y t (Some v) (Some w) h = simo_map Any Any _ _ (fitted t v) (fitted (ren_ty ren t) w) (fitted_sim ren t (ren_ty ren t) v w refl h) (λ e f k. tt)
  declaration_by line x y _ _ _ h = absurd h

  declaration_sim : (line x y : ℕ) (t u : Ty) (v w : Option Typed) → u ≡ ren_ty ren t → IsOption v w → Simo Any (declaration line x t v) (declaration line y u w)
  declaration_sim line x y t u v w e h = subst (λ z. Simo Any (declaration line x t v) (declaration line y z w)) (sym e) (declaration_by line x y t v w h)

  -- a local, and what stands behind it
  pub local_sim : (here there : Here) (l : t.Local) → IsHere here there → AreCallable (calls_in_option l.initial) → Sim (λ a b. IsHere (behind_local file here l) (behind_local all there (moved_local n l))) (local file here l) (local all there (moved_local n l))
  local_sim here there l h c =
      sim_after (BaseIs n file all ren agree l.type_name.base) (Pair Any IsOption) (λ a b. IsHere (behind_local file here l) (behind_local all there (moved_local n l)))
      (base_rule file l.type_name.base) (base_rule all (moved_base n l.type_name.base))
      (both (new_name here.first here.names l.name) (value_option file (declared file here l).names here.strings l.initial))
      (both (new_name there.first there.names (moved_name n l.name)) (value_option all (declared all there (moved_local n l)).names there.strings (moved_option n l.initial))) _ _
      (base_sim n file all ren agree l.type_name.base)
      (λ u v e.
      let inner : IsHere (declared file here l) (declared all there (moved_local n l)) = with_local_here here there (local_type file l) (local_type all (moved_local n l)) l.name.text (type_is n file all ren agree l.type_name e) h in
      sim_both Any IsOption _ _ _ _ (subst (λ x. Sim Any (new_name here.first here.names l.name) (new_name x there.names (moved_name n l.name))) (sym h.2) (new_name_sim here.first here.names there.names l.name h.0))
      (λ a b q. value_option_sim (declared file here l).names (declared all there (moved_local n l)).names inner.0 here.strings there.strings l.initial c))
      (λ u v x y e q.
      let inner : IsHere (declared file here l) (declared all there (moved_local n l)) = with_local_here here there (local_type file l) (local_type all (moved_local n l)) l.name.text (type_is n file all ren agree l.type_name e) h in
      sim_fitting (λ a b. IsHere (behind_local file here l) (behind_local all there (moved_local n l))) l.spot (moved_spot n l.spot) _ _
      (simo_more (declaration l.spot.line (length here.locals) (local_type file l) x.1) (declaration l.spot.line (length there.locals) (local_type all (moved_local n l)) y.1) inner
      (declaration_sim l.spot.line (length here.locals) (length there.locals) (local_type file l) (local_type all (moved_local n l)) x.1 y.1 (type_is n file all ren agree l.type_name e) q.1))) where
        simo_more : {A : Type 0} (a b : Option p.Stmt) → A → Simo Any a b → Simo (λ x y. A) a b
        simo_more None b h k = tt
        simo_more (Some a) (Some b) h k = h
        simo_more (Some a) None h k = absurd k

  pub locals_sim : (here there : Here) (ls : List t.Local) → IsHere here there → AreCallable (calls_in_locals ls) → Sim (λ a b. IsHere (behind_locals file here ls) (behind_locals all there (moved_locals n ls))) (locals file here ls) (locals all there (moved_locals n ls))
  locals_sim here there [] h c = h
  locals_sim here there (l ∷ ls) h c =
      sim_after (λ a b. IsHere (behind_local file here l) (behind_local all there (moved_local n l))) (λ a b. IsHere (behind_locals file here (l ∷ ls)) (behind_locals all there (moved_locals n (l ∷ ls)))) (λ a b. IsHere (behind_locals file here (l ∷ ls)) (behind_locals all there (moved_locals n (l ∷ ls))))
      (local file here l) (local all there (moved_local n l)) (locals file (behind_local file here l) ls) (locals all (behind_local all there (moved_local n l)) (moved_locals n ls)) _ _
      (local_sim here there l h (every_left (Callable n file all ren agree) (calls_in_option l.initial) (calls_in_locals ls) c))
      (λ a b k. locals_sim (behind_local file here l) (behind_local all there (moved_local n l)) ls k (every_right (Callable n file all ren agree) (calls_in_option l.initial) (calls_in_locals ls) c))
      (λ a b x y k q. q)

  always : {A B C : Type 0} (x : Judged A) (y : Judged B) → C → Sim Any x y → Sim (λ (a : A) (b : B). C) x y
  always x y c h = sim_more Any (λ a b. _) x y h (λ a b k. c)

  pub start_sim : (here there : Here) (s : t.ForStart) → IsHere here there → AreCallable (calls_in_start s) → Sim (λ a b. IsHere (behind_start file here s) (behind_start all there (moved_start n s))) (for_start file here s) (for_start all there (moved_start n s))
  start_sim here there t.nothing h c = h
  start_sim here there (t.simply s) h c = always (simple file here.names here.strings s) (simple all there.names there.strings (moved_simple n s)) h (simple_sim here.names there.names h.0 here.strings there.strings s c)
  start_sim here there (t.locals ls) h c = sim_part (λ a b. IsHere (behind_locals file here ls) (behind_locals all there (moved_locals n ls))) (λ a b. IsHere (behind_locals file here ls) (behind_locals all there (moved_locals n ls))) (locals file here ls) (locals all there (moved_locals n ls)) _ _ (locals_sim here there ls h c) (λ a b k. k)

  loop_sim : (loop : Bool) (at spot : Spot) (x y : p.Stmt) → Sim Any (in_a_loop loop at x) (in_a_loop loop spot y)
  loop_sim true at spot x y = tt
  loop_sim false at spot x y = tt

  returned_sim : (line : ℕ) (result : Option Ty) (v w : Option Typed) → IsOption v w → Simo Any (returned line result v) (returned line (option_map (ren_ty ren) result) w)
  returned_sim line None None None h = tt
  returned_sim line (Some t) (Some v) (Some w) h = simo_map Any Any _ _ (fitted t v) (fitted (ren_ty ren t) w) (fitted_sim ren t (ren_ty ren t) v w refl h) (λ e f k. tt)
  returned_sim line (Some t) None None h = tt
  returned_sim line None (Some v) (Some w) h = tt
  returned_sim line _ (Some v) None h = absurd h
  returned_sim line _ None (Some w) h = absurd h

  outside_here : (here there end last : Here) → IsHere here there → IsHere end last → IsHere (outside here end) (outside there last)
  outside_here here there end last h k = (h.0, k.1, h.2)

  pub inside_here : (here there : Here) → IsHere here there → IsHere (inside here) (inside there)
  inside_here here there h = (h.0, h.1, h.1)

  pub left : (xs ys : List Name) → AreCallable (xs ++ ys) → AreCallable xs
  left xs ys h = every_left (Callable n file all ren agree) xs ys h

  pub right : (xs ys : List Name) → AreCallable (xs ++ ys) → AreCallable ys
  right xs ys h = every_right (Callable n file all ren agree) xs ys h

  module _ (result : Option Ty) where
    mutual
      pub stmt_sim : (loop : Bool) (here there : Here) (s : t.Stmt) → IsHere here there → AreCallable (calls_in_stmt s) → Sim (λ a b. IsHere (behind_stmt file here s) (behind_stmt all there (moved_stmt n s))) (stmt file result loop here s) (stmt all (option_map (ren_ty ren) result) loop there (moved_stmt n s))
      stmt_sim loop here there (t.local l) h c = local_sim here there l h c
      stmt_sim loop here there (t.block at body) h c =
          sim_part (λ a b. IsHere (behind_stmts file (inside here) body) (behind_stmts all (inside there) (moved_stmts n body))) (λ a b. IsHere (outside here (behind_stmts file (inside here) body)) (outside there (behind_stmts all (inside there) (moved_stmts n body))))
          (stmts file result loop (inside here) body) (stmts all (option_map (ren_ty ren) result) loop (inside there) (moved_stmts n body)) _ _
          (stmts_sim loop (inside here) (inside there) body (inside_here here there h) c)
          (λ a b k. outside_here here there (behind_stmts file (inside here) body) (behind_stmts all (inside there) (moved_stmts n body)) h k)
      stmt_sim loop here there (t.empty at) h c = h
      stmt_sim loop here there (t.simple at s) h c = always (simple file here.names here.strings s) (simple all there.names there.strings (moved_simple n s)) h (simple_sim here.names there.names h.0 here.strings there.strings s c)
      stmt_sim loop here there (t.if_then at e a) h c =
          sim_parts Any (λ x y. IsHere (behind_stmt file (behind here e) a) (behind_stmt all (behind there (moved n e)) (moved_stmt n a))) (λ x y. IsHere (behind_stmt file (behind here e) a) (behind_stmt all (behind there (moved n e)) (moved_stmt n a)))
          (condition file here.names here.strings e) (condition all there.names there.strings (moved n e)) (stmt file result loop (behind here e) a) (stmt all (option_map (ren_ty ren) result) loop (behind there (moved n e)) (moved_stmt n a)) _ _
          (condition_of here.names there.names h.0 here.strings there.strings e (left (calls_in e) (calls_in_stmt a) c))
          (stmt_sim loop (behind here e) (behind there (moved n e)) a h (right (calls_in e) (calls_in_stmt a) c))
          (λ x y z w k q. q)
      stmt_sim loop here there (t.if_else at e a b) h c =
          let rest = right (calls_in e) (calls_in_stmt a ++ calls_in_stmt b) c in
          let one = behind here e in
          let one_there = behind there (moved n e) in
          let two = behind_stmt file one a in
          let two_there = behind_stmt all one_there (moved_stmt n a) in
          sim_parts Any (Pair (λ x y. IsHere two two_there) (λ x y. IsHere (behind_stmt file two b) (behind_stmt all two_there (moved_stmt n b)))) (λ x y. IsHere (behind_stmt file two b) (behind_stmt all two_there (moved_stmt n b)))
          (condition file here.names here.strings e) (condition all there.names there.strings (moved n e))
          (both (stmt file result loop one a) (stmt file result loop two b)) (both (stmt all (option_map (ren_ty ren) result) loop one_there (moved_stmt n a)) (stmt all (option_map (ren_ty ren) result) loop two_there (moved_stmt n b))) _ _
          (condition_of here.names there.names h.0 here.strings there.strings e (left (calls_in e) (calls_in_stmt a ++ calls_in_stmt b) c))
          (sim_both _ _ _ _ _ _ (stmt_sim loop one one_there a h (left (calls_in_stmt a) (calls_in_stmt b) rest)) (λ x y k. stmt_sim loop two two_there b k (right (calls_in_stmt a) (calls_in_stmt b) rest)))
          (λ x y z w k q. q.1)
      stmt_sim loop here there (t.while_do at e a) h c =
          sim_parts Any (λ x y. IsHere (behind_stmt file (behind here e) a) (behind_stmt all (behind there (moved n e)) (moved_stmt n a))) (λ x y. IsHere (behind_stmt file (behind here e) a) (behind_stmt all (behind there (moved n e)) (moved_stmt n a)))
          (condition file here.names here.strings e) (condition all there.names there.strings (moved n e)) (stmt file result true (behind here e) a) (stmt all (option_map (ren_ty ren) result) true (behind there (moved n e)) (moved_stmt n a)) _ _
          (condition_of here.names there.names h.0 here.strings there.strings e (left (calls_in e) (calls_in_stmt a) c))
          (stmt_sim true (behind here e) (behind there (moved n e)) a h (right (calls_in e) (calls_in_stmt a) c))
          (λ x y z w k q. q)
      stmt_sim loop here there (t.do_while at a e) h c =
          let one = behind_stmt file here a in
          let one_there = behind_stmt all there (moved_stmt n a) in
          sim_after (λ x y. IsHere one one_there) Any (λ x y. IsHere (behind one e) (behind one_there (moved n e)))
          (stmt file result true here a) (stmt all (option_map (ren_ty ren) result) true there (moved_stmt n a)) (condition file one.names one.strings e) (condition all one_there.names one_there.strings (moved n e)) _ _
          (stmt_sim true here there a h (left (calls_in_stmt a) (calls_in e) c))
          (λ x y k. condition_of one.names one_there.names k.0 one.strings one_there.strings e (right (calls_in_stmt a) (calls_in e) c))
          (λ x y z w k q. k)
      stmt_sim loop here there (t.for_do at start e next a) h c =
          let one = inside here in
          let one_there = inside there in
          let two = behind_start file one start in
          let two_there = behind_start all one_there (moved_start n start) in
          let three = behind_option two e in
          let three_there = behind_option two_there (moved_option n e) in
          let four = behind_simple_option three next in
          let four_there = behind_simple_option three_there (moved_simple_option n next) in
          let first = calls_in_start start in
          let second = calls_in_option e in
          let third = calls_in_simple_option next in
          let last = calls_in_stmt a in
          let rest = right first (second ++ (third ++ last)) c in
          let rest_of = right second (third ++ last) rest in
          sim_after (Pair (λ x y. IsHere two two_there) Any) (Pair Any (λ x y. IsHere (behind_stmt file four a) (behind_stmt all four_there (moved_stmt n a)))) (λ x y. IsHere (outside here (behind_stmt file four a)) (outside there (behind_stmt all four_there (moved_stmt n a))))
          (both (for_start file one start) (condition_option file two.names two.strings e)) (both (for_start all one_there (moved_start n start)) (condition_option all two_there.names two_there.strings (moved_option n e)))
          (both (simple_option file three.names three.strings next) (stmt file result true four a)) (both (simple_option all three_there.names three_there.strings (moved_simple_option n next)) (stmt all (option_map (ren_ty ren) result) true four_there (moved_stmt n a))) _ _
          (sim_both (λ x y. IsHere two two_there) Any _ _ _ _ (start_sim one one_there start (inside_here here there h) (left first (second ++ (third ++ last)) c)) (λ x y k. condition_option_sim two.names two_there.names k.0 two.strings two_there.strings e (left second (third ++ last) rest)))
          (λ x y k. sim_both Any (λ x y. IsHere (behind_stmt file four a) (behind_stmt all four_there (moved_stmt n a))) _ _ _ _ (simple_option_sim three.names three_there.names k.0.0 three.strings three_there.strings next (left third last rest_of)) (λ z w q. stmt_sim true four four_there a k.0 (right third last rest_of)))
          (λ x y z w k q. outside_here here there (behind_stmt file four a) (behind_stmt all four_there (moved_stmt n a)) h q.1)
      stmt_sim loop here there (t.break_loop at) h c = always (in_a_loop loop at (p.break at.line)) (in_a_loop loop (moved_spot n at) (p.break at.line)) h (loop_sim loop at (moved_spot n at) (p.break at.line) (p.break at.line))
      stmt_sim loop here there (t.continue_loop at) h c = always (in_a_loop loop at (p.continue at.line)) (in_a_loop loop (moved_spot n at) (p.continue at.line)) h (loop_sim loop at (moved_spot n at) (p.continue at.line) (p.continue at.line))
      stmt_sim loop here there (t.return_with at e) h c =
          sim_part IsOption (λ x y. IsHere here there) (value_option file here.names here.strings e) (value_option all there.names there.strings (moved_option n e)) _ _
          (value_option_sim here.names there.names h.0 here.strings there.strings e c)
          (λ v w k. always (fitting at (returned at.line result v)) (fitting (moved_spot n at) (returned at.line (option_map (ren_ty ren) result) w)) h (sim_fitting Any at (moved_spot n at) (returned at.line result v) (returned at.line (option_map (ren_ty ren) result) w) (returned_sim at.line result v w k)))

      pub stmts_sim : (loop : Bool) (here there : Here) (body : t.Stmts) → IsHere here there → AreCallable (calls_in_stmts body) → Sim (λ a b. IsHere (behind_stmts file here body) (behind_stmts all there (moved_stmts n body))) (stmts file result loop here body) (stmts all (option_map (ren_ty ren) result) loop there (moved_stmts n body))
      stmts_sim loop here there t.done h c = h
      stmts_sim loop here there (t.next s rest) h c =
          sim_after (λ a b. IsHere (behind_stmt file here s) (behind_stmt all there (moved_stmt n s))) (λ a b. IsHere (behind_stmts file here (t.next s rest)) (behind_stmts all there (moved_stmts n (t.next s rest)))) (λ a b. IsHere (behind_stmts file here (t.next s rest)) (behind_stmts all there (moved_stmts n (t.next s rest))))
          (stmt file result loop here s) (stmt all (option_map (ren_ty ren) result) loop there (moved_stmt n s)) (stmts file result loop (behind_stmt file here s) rest) (stmts all (option_map (ren_ty ren) result) loop (behind_stmt all there (moved_stmt n s)) (moved_stmts n rest)) _ _
          (stmt_sim loop here there s h (left (calls_in_stmt s) (calls_in_stmts rest) c))
          (λ a b k. stmts_sim loop (behind_stmt file here s) (behind_stmt all there (moved_stmt n s)) rest k (right (calls_in_stmt s) (calls_in_stmts rest) c))
          (λ a b x y k q. q)
