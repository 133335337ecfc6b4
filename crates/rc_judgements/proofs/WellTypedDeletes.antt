-- Calls that delete stand in their places, where nothing is found out of place.
use Rattle.std.specs.Prelude.{◌≡◌, ℕ, List, [], ◌∷◌, ◌++◌, Option, Some, None, Bool, true, false, IfSome, is_none, slice_get, length, nat_eq, nat_le, ◌&&◌}
use Rattle.std.proofs.Common.{refl, sym, ◌∙◌, subst}
use Rattle.rc_syntax.specs.declared.tree.Spot.{Spot}
use Rattle.rc_syntax.specs.declared.tree.BinaryOp.{BinaryOp}
use Rattle.rc_syntax.specs.Tree as t
use Rattle.rc_core.specs.declared.stmt.Change.{Change}
use Rattle.rc_core.specs.Types.{Ty, struct}
use Rattle.rc_core.specs.Programs as p
use Rattle.rc_core.specs.Layout.{size}
use Rattle.rc_core.specs.Execution.{deletes}
use Rattle.rc_core.specs.Execution as core
use Rattle.rc_core.specs.Deletes.{IsQuiet, AreQuiet, IsQuietPlace, IsQuietPath, IsQuietInside, IsPlaced, ArePlaced, KeepsRegions, KeepRegions}
use Rattle.rc_deletes.specs.declared.deletes.DeletesFault.{DeletesFault}
use Rattle.rc_deletes.specs.declared.builtin.Builtin.TheVariants.{DeleteRegion}
use Rattle.rc_deletes.specs.declared.fault.Refusal.TheVariants.{Mistyped}
use Rattle.rc_deletes.specs.Judged.{Holds, with_part, both, fails, fitting}
use Rattle.rc_deletes.specs.Scopes.{Context, structs_in, meaning_in}
use Rattle.rc_deletes.specs.Values.{Typed, Meant, a_variable, a_place, typed, spot_of, fitted}
use Rattle.rc_deletes.specs.Operators.{change_of, changed}
use Rattle.rc_deletes.specs.Calls.{Callee, the_builtin, callee_rule, call_rule, called, called_alone, call_statement, first_argument}
use Rattle.rc_deletes.specs.Expressions.{base_rule, meant, values, value}
use Rattle.rc_deletes.specs.Statements.{Here, inside, behind, behind_option, declared, local_type, behind_simple_option, behind_local, behind_start, behind_stmt, RightSide, one_value, whole_struct, right_side, copy_of, assignment, assigned_change, updated_place, update_of, step_operator, one, alone_rule, new_name, declaration, returned, value_option, condition, condition_option, expression_alone, simple, simple_option, local, locals, for_start, stmt, stmts}
use Rattle.rc_deletes.specs.Places as rule
use Rattle.rc_deletes.specs.Places.{or_own, in_place, out_of_place, where_deleting, annotation, is_call}
use Rattle.rc_judgements.proofs.Held.{Held, Given, given_if, given_map, given_always, held_part, held_parts, held_both, held_if, held_fitting, held_always}

pub append_none : (xs ys : List DeletesFault) → xs ++ ys ≡ [] → (xs ≡ []) × (ys ≡ [])
append_none [] ys h = (refl, h)
append_none (x ∷ xs) ys h = absurd cc

pub own_none : (xs ys : List DeletesFault) → or_own xs ys ≡ [] → (xs ≡ []) × (ys ≡ [])
own_none [] ys h = (refl, h)
own_none (x ∷ xs) ys h = absurd cc

out_none : (b d : Bool) (line : ℕ) → where_deleting b (out_of_place d line) ≡ [] → b ≡ false
out_none false d line h = refl
out_none true true line h = absurd cc
out_none true false line h = absurd cc

in_none : (b : Bool) (line : ℕ) → where_deleting b (in_place false line) ≡ [] → b ≡ false
in_none false line h = refl
in_none true line h = absurd cc

-- an absent part stays absent
abbrev pub Agree : {A : Type 0} → Option t.Expr → Option A → Type 0
Agree None v = is_none v ≡ true
Agree (Some e) v = Unit {0}

moved : (o : Option t.Expr) (v : Typed) (e : p.Expr) → Agree o (Some v) → Agree o (Some e)
moved None v e a = absurd cc
moved (Some c) v e a = tt

module _ (program : p.Program) (d : Bool) where
  deletes_same : (g : Option p.Function) → rule.function_deletes g ≡ core.function_deletes g
  deletes_same None = refl
  deletes_same (Some g) = refl

  no_deleting : (f : ℕ) → rule.deletes_regions program.functions f ≡ false → deletes program f ≡ false
  no_deleting f h = sym (deletes_same (slice_get program.functions f)) ∙ h

  mutual
    pub quiet : (e : p.Expr) → rule.within program.functions d e ≡ [] → IsQuiet program e
    quiet (p.constant line s n) h = tt
    quiet (p.null line) h = tt
    quiet (p.string line k) h = tt
    quiet (p.local line x) h = tt
    quiet (p.read line place) h = quiet_place place h
    quiet (p.address line g) h = tt
    quiet (p.step line direction e i) h = let q = append_none (rule.within program.functions d e) _ h in (quiet e q.0, quiet i q.1)
    quiet (p.step_from line i e) h = let q = append_none (rule.within program.functions d i) _ h in (quiet i q.0, quiet e q.1)
    quiet (p.unary line op s e) h = quiet e h
    quiet (p.binary line op s a b) h = let q = append_none (rule.within program.functions d a) _ h in (quiet a q.0, quiet b q.1)
    quiet (p.convert line from to e) h = quiet e h
    quiet (p.not_zero line e) h = quiet e h
    quiet (p.and line a b) h = let q = append_none (rule.within program.functions d a) _ h in (quiet a q.0, quiet b q.1)
    quiet (p.or line a b) h = let q = append_none (rule.within program.functions d a) _ h in (quiet a q.0, quiet b q.1)
    quiet (p.choose line c a b) h =
        let q = append_none (rule.within program.functions d c) _ h in
        let r = append_none (rule.within program.functions d a) _ q.1 in
        (quiet c q.0, quiet a r.0, quiet b r.1)
    quiet (p.is_null line wanted e) h = quiet e h
    quiet (p.same line wanted a b) h = let q = append_none (rule.within program.functions d a) _ h in (quiet a q.0, quiet b q.1)
    quiet (p.call line f args) h =
        let q = own_none (rule.within_all program.functions d args) _ h in
        (no_deleting f (out_none (rule.deletes_regions program.functions f) d line q.1), quiet_all args q.0)
    quiet (p.new_region line) h = tt
    quiet (p.new_subregion line r) h = quiet r h
    quiet (p.region_of line e) h = quiet e h
    quiet (p.allocate line r ty) h = quiet r h
    quiet (p.allocate_array line r n ty) h = let q = append_none (rule.within program.functions d r) _ h in (quiet r q.0, quiet n q.1)
    quiet (p.putchar line e) h = quiet e h
    quiet (p.getchar line) h = tt

    pub quiet_all : (args : p.Arguments) → rule.within_all program.functions d args ≡ [] → AreQuiet program args
    quiet_all p.none h = tt
    quiet_all (p.more e rest) h = let q = append_none (rule.within program.functions d e) _ h in (quiet e q.0, quiet_all rest q.1)

    pub quiet_place : (place : p.Place) → rule.within_place program.functions d place ≡ [] → IsQuietPlace program place
    quiet_place (p.global g path) h = quiet_path path h
    quiet_place (p.pointed e path) h = let q = append_none (rule.within program.functions d e) _ h in (quiet e q.0, quiet_path path q.1)
    quiet_place (p.indexed e i path) h =
        let q = append_none (rule.within program.functions d e) _ h in
        let r = append_none (rule.within program.functions d i) _ q.1 in
        (quiet e q.0, quiet i r.0, quiet_path path r.1)

    pub quiet_path : (path : p.Path) → rule.within_path program.functions d path ≡ [] → IsQuietPath program path
    quiet_path p.here h = tt
    quiet_path (p.field s f rest) h = quiet_path rest h
    quiet_path (p.element s f i rest) h = let q = append_none (rule.within program.functions d i) _ h in (quiet i q.0, quiet_path rest q.1)

  quiet_inside : (e : p.Expr) → IsQuiet program e → IsQuietInside program e
  quiet_inside (p.call line f args) h = h.1
  quiet_inside (p.convert line from to e) h = quiet_inside e h
  quiet_inside _ h = h

  -- a whole, which may be a call that deletes where the function does
  abbrev Whole : p.Expr → Type 0
  Whole e = IsQuietInside program e × (d ≡ false → IsQuiet program e)

  quiet_whole : (e : p.Expr) → IsQuiet program e → Whole e
  quiet_whole e h = (quiet_inside e h, λ k. h)

  called_whole : (e : p.Expr) → rule.whole_call program.functions d e ≡ [] → Whole e
  called_whole (p.call line f args) h =
      let q = own_none (rule.within_all program.functions d args) _ h in
      (quiet_all args q.0, λ e. (no_deleting f (in_none (rule.deletes_regions program.functions f) line (subst (λ x. where_deleting (rule.deletes_regions program.functions f) (in_place x line) ≡ []) e q.1)), quiet_all args q.0))
  called_whole (p.convert line from to e) h = called_whole e h
  called_whole e h = quiet_whole e (quiet e h)

  whole_by : (call : Bool) (e : p.Expr) → rule.whole_by program.functions d call e ≡ [] → Whole e
  whole_by true e h = called_whole e h
  whole_by false e h = quiet_whole e (quiet e h)

  whole : (c : t.Expr) (e : p.Expr) → rule.whole program.functions d c e ≡ [] → Whole e
  whole c e h = whole_by (is_call c) e h

  abbrev WholeOption : Option p.Expr → Type 0
  WholeOption v = IfSome v (IsQuietInside program) × (d ≡ false → IfSome v (IsQuiet program))

  whole_option : (c : Option t.Expr) (v : Option p.Expr) → Agree c v → rule.whole_option program.functions d c v ≡ [] → WholeOption v
  whole_option c None a h = (tt, λ k. tt)
  whole_option None (Some e) a h = absurd cc
  whole_option (Some c) (Some e) a h = whole c e h

  abbrev pub Keeps : p.Stmt → Type 0
  Keeps s = IsPlaced program s × (d ≡ false → KeepsRegions program s)

  abbrev pub KeepAll : p.Stmts → Type 0
  KeepAll s = ArePlaced program s × (d ≡ false → KeepRegions program s)

  alone_keeps : (c : t.Expr) (line : ℕ) (v : p.Expr) → rule.alone program.functions d c (p.evaluate line v) ≡ [] → Keeps (p.evaluate line v)
  alone_keeps c line v h = whole c v h

  deletion_keeps : (c : t.Expr) (line : ℕ) (r : p.Expr) → rule.alone program.functions d c (p.delete line r) ≡ [] → Keeps (p.delete line r)
  deletion_keeps c line r h =
      let q = own_none (rule.within program.functions d r) _ h in
      (quiet r q.0, λ e. not_here (subst (λ x. in_place x line ≡ []) e q.1))
    where
      not_here : in_place false line ≡ [] → ⊥
      not_here h = cc

  called_keeps : (c : t.Expr) (line : ℕ) (f : Callee) (es : List p.Expr) → rule.alone program.functions d c (called_alone line f es) ≡ [] → Keeps (called_alone line f es)
  called_keeps c line (the_builtin DeleteRegion) es h = deletion_keeps c line (first_argument line es) h
  called_keeps c line f es h = alone_keeps c line (called line f es) h

  changed_keeps : (line x : ℕ) (v : Typed) (c : Option (Change × p.Expr)) → Given (λ s. rule.computed program.functions d s ≡ [] → Keeps s) (assigned_change line x v c)
  changed_keeps line x v None = tt
  changed_keeps line x v (Some c) = λ h. quiet_whole (changed line v c.0 c.1) (quiet (changed line v c.0 c.1) h)

  updated_keeps : (line : ℕ) (place : p.Place) (c : Option (Change × p.Expr)) → Given (λ s. rule.computed program.functions d s ≡ [] → Keeps s) (updated_place line place c)
  updated_keeps line place None = tt
  updated_keeps line place (Some c) = λ h.
      let q = append_none (rule.within_place program.functions d place) _ h in
      ((quiet_place place q.0, quiet c.1 q.1), λ e. (quiet_place place q.0, quiet c.1 q.1))

  update_keeps : (line left : ℕ) (op : BinaryOp) (m : Meant) (v : Typed) → Given (λ s. rule.computed program.functions d s ≡ [] → Keeps s) (update_of line left op m v)
  update_keeps line left op (a_variable x u) v = changed_keeps line x (typed left u (p.local left x)) (change_of op u v)
  update_keeps line left op (a_place place u) v = updated_keeps line place (change_of op u v)
  update_keeps line left op _ v = tt

  module _ (context : Context) where
    copy_keeps : (c : t.Expr) (line : ℕ) (place : p.Place) (s : ℕ) (from : p.Place) (k : ℕ) → Given (λ b. rule.assigned program.functions d c b ≡ [] → Keeps b) (copy_of context line place s from k)
    copy_keeps c line place s from k =
        given_if (λ b. rule.assigned program.functions d c b ≡ [] → Keeps b) (nat_eq s k && nat_le (size (structs_in context) (struct s)) 256) (Some (p.copy line s place from)) None
        (λ h. let q = append_none (rule.within_place program.functions d place) _ h in ((quiet_place place q.0, quiet_place from q.1), λ e. (quiet_place place q.0, quiet_place from q.1))) tt

    assignment_keeps : (c : t.Expr) (line : ℕ) (m : Meant) (w : RightSide) → Given (λ b. rule.assigned program.functions d c b ≡ [] → Keeps b) (assignment context line m w)
    assignment_keeps c line (a_variable x u) (one_value v) = given_map (λ (e : p.Expr). Unit {0}) (λ b. rule.assigned program.functions d c b ≡ [] → Keeps b) (p.assign line x) (fitted u v) (given_always (Unit {0}) (fitted u v) tt) (λ e k h. whole c e h)
    assignment_keeps c line (a_place place u) (one_value v) = given_map (λ (e : p.Expr). Unit {0}) (λ b. rule.assigned program.functions d c b ≡ [] → Keeps b) (p.store line place) (fitted u v) (given_always (Unit {0}) (fitted u v) tt)
        (λ e k h. let q = append_none (rule.within_place program.functions d place) _ h in ((quiet_place place q.0, quiet e q.1), λ n. (quiet_place place q.0, quiet e q.1)))
    assignment_keeps c line (a_place place (struct s)) (whole_struct from k) = copy_keeps c line place s from k
    assignment_keeps c line _ _ = tt

    declared_keeps : (l : t.Local) (line x : ℕ) (u : Ty) (v : Option Typed) → Agree l.initial v → Given (λ s. rule.locally program.functions d l s ≡ [] → Keeps s) (declaration line x u v)
    declared_keeps l line x (struct k) v a = tt
    declared_keeps l line x _ None a = λ h. (tt, λ e. tt)
    declared_keeps l line x u (Some v) a = given_map (λ (e : p.Expr). Unit {0}) (λ s. rule.locally program.functions d l s ≡ [] → Keeps s) (λ e. p.declare line x (Some e)) (fitted u v) (given_always (Unit {0}) (fitted u v) tt)
        (λ e k h. whole_option l.initial (Some e) (moved l.initial v e a) (own_none (rule.whole_option program.functions d l.initial (Some e)) _ h).0)

    returned_keeps : (at : Spot) (c : Option t.Expr) (line : ℕ) (r : Option Ty) (v : Option Typed) → Agree c v → Given (λ s. rule.stmt program.functions d (t.return_with at c) s ≡ [] → Keeps s) (returned line r v)
    returned_keeps at c line None None a = λ h. (tt, λ e. tt)
    returned_keeps at c line (Some u) (Some v) a = given_map (λ (e : p.Expr). Unit {0}) (λ s. rule.stmt program.functions d (t.return_with at c) s ≡ [] → Keeps s) (λ e. p.return line (Some e)) (fitted u v) (given_always (Unit {0}) (fitted u v) tt) (λ e k h. whole_option c (Some e) (moved c v e a) h)
    returned_keeps at c line None (Some v) a = tt
    returned_keeps at c line (Some u) None a = tt

    value_agrees : (here : Here) (e : Option t.Expr) → Held (Agree e) (value_option context here.names here.strings e)
    value_agrees here None = refl
    value_agrees here (Some e) = held_part (λ (v : Typed). Unit {0}) (λ (v : Option Typed). Unit {0}) (value context here.names here.strings e) (λ v. Holds (Some v)) (held_always (Unit {0}) (value context here.names here.strings e) tt) (λ v h. tt)

    condition_agrees : (here : Here) (e : Option t.Expr) → Held (Agree e) (condition_option context here.names here.strings e)
    condition_agrees here None = refl
    condition_agrees here (Some e) = held_part (λ (v : p.Expr). Unit {0}) (λ (v : Option p.Expr). Unit {0}) (condition context here.names here.strings e) (λ c. Holds (Some c)) (held_always (Unit {0}) (condition context here.names here.strings e) tt) (λ v h. tt)

    alone_kept : (c : t.Expr) (at : Spot) (v : Typed) → Held (λ s. rule.alone program.functions d c s ≡ [] → Keeps s) (alone_rule at v)
    alone_kept c at v = held_if (λ s. rule.alone program.functions d c s ≡ [] → Keeps s) (is_none v.ty) (fails at Mistyped) (Holds (p.evaluate at.line v.code)) (λ q. tt) (λ q h. alone_keeps c at.line v.code h)

    expression_keeps : (here : Here) (c : t.Expr) → Held (λ s. rule.alone program.functions d c s ≡ [] → Keeps s) (expression_alone context here.names here.strings c)
    expression_keeps here (t.call name args) =
        held_parts (λ (f : Callee). Unit {0}) (λ (vs : List Typed). Unit {0}) (λ s. rule.alone program.functions d (t.call name args) s ≡ [] → Keeps s) (callee_rule name.spot (meaning_in here.names name.text)) (values context here.names here.strings args) (call_statement name.spot)
        (held_always (Unit {0}) (callee_rule name.spot (meaning_in here.names name.text)) tt) (held_always (Unit {0}) (values context here.names here.strings args) tt)
        (λ f vs h k. held_part (λ (es : List p.Expr). Unit {0}) (λ s. rule.alone program.functions d (t.call name args) s ≡ [] → Keeps s) (call_rule false name.spot f vs) _ (held_always (Unit {0}) (call_rule false name.spot f vs) tt) (λ es q r. called_keeps (t.call name args) name.spot.line f es r))
    expression_keeps here c = held_part (λ (v : Typed). Unit {0}) (λ s. rule.alone program.functions d c s ≡ [] → Keeps s) (value context here.names here.strings c) (alone_rule (spot_of c)) (held_always (Unit {0}) (value context here.names here.strings c) tt) (λ v h. alone_kept c (spot_of c) v)

    stepped_keeps : (here : Here) (at : Spot) (op : BinaryOp) (l : t.Expr) → Held (λ s. rule.computed program.functions d s ≡ [] → Keeps s) (with_part (meant context here.names here.strings l) (λ m. fitting at (update_of at.line (spot_of l).line op m (one at.line))))
    stepped_keeps here at op l =
        held_part (λ (m : Meant). Unit {0}) (λ s. rule.computed program.functions d s ≡ [] → Keeps s) (meant context here.names here.strings l) _ (held_always (Unit {0}) (meant context here.names here.strings l) tt)
        (λ m h. held_fitting (λ s. rule.computed program.functions d s ≡ [] → Keeps s) at (update_of at.line (spot_of l).line op m (one at.line)) (update_keeps at.line (spot_of l).line op m (one at.line)))

    simple_keeps : (here : Here) (e : t.Simple) → Held (λ s. rule.simply program.functions d e s ≡ [] → Keeps s) (simple context here.names here.strings e)
    simple_keeps here (t.expression c) = expression_keeps here c
    simple_keeps here (t.assign at l r) =
        held_parts (λ (m : Meant). Unit {0}) (λ (w : RightSide). Unit {0}) (λ s. rule.assigned program.functions d r s ≡ [] → Keeps s) (meant context here.names here.strings l) (with_part (meant context here.names (behind here l).strings r) (right_side (spot_of r))) _
        (held_always (Unit {0}) (meant context here.names here.strings l) tt) (held_always (Unit {0}) (with_part (meant context here.names (behind here l).strings r) (right_side (spot_of r))) tt)
        (λ m w h k. held_fitting (λ s. rule.assigned program.functions d r s ≡ [] → Keeps s) at (assignment context at.line m w) (assignment_keeps r at.line m w))
    simple_keeps here (t.update at op l r) =
        held_parts (λ (m : Meant). Unit {0}) (λ (v : Typed). Unit {0}) (λ s. rule.computed program.functions d s ≡ [] → Keeps s) (meant context here.names here.strings l) (value context here.names (behind here l).strings r) _
        (held_always (Unit {0}) (meant context here.names here.strings l) tt) (held_always (Unit {0}) (value context here.names (behind here l).strings r) tt)
        (λ m v h k. held_fitting (λ s. rule.computed program.functions d s ≡ [] → Keeps s) at (update_of at.line (spot_of l).line op m v) (update_keeps at.line (spot_of l).line op m v))
    simple_keeps here (t.step_after at op l) = stepped_keeps here at (step_operator op) l
    simple_keeps here (t.step_before at op l) = stepped_keeps here at (step_operator op) l

    simple_option_keeps : (here : Here) (e : Option t.Simple) → Held (λ s. rule.simply_option program.functions d e s ≡ [] → Keeps s) (simple_option context here.names here.strings e)
    simple_option_keeps here None = λ h. (tt, λ e. tt)
    simple_option_keeps here (Some e) = simple_keeps here e

    local_keeps : (here : Here) (l : t.Local) → Held (λ s. rule.locally program.functions d l s ≡ [] → Keeps s) (local context here l)
    local_keeps here l =
        let next = declared context here l in
        held_parts (λ (u : Unit {0}). Unit {0}) (λ (v : Unit {0} × Option Typed). Unit {0} × Agree l.initial v.1) (λ s. rule.locally program.functions d l s ≡ [] → Keeps s) (base_rule context l.type_name.base) (both (new_name here.first here.names l.name) (value_option context next.names next.strings l.initial)) _
        (held_always (Unit {0}) (base_rule context l.type_name.base) tt)
        (held_both (λ (u : Unit {0}). Unit {0}) (Agree l.initial) (new_name here.first here.names l.name) (value_option context next.names next.strings l.initial) (held_always (Unit {0}) (new_name here.first here.names l.name) tt) (value_agrees next l.initial))
        (λ u v h q. held_fitting (λ s. rule.locally program.functions d l s ≡ [] → Keeps s) l.spot (declaration l.spot.line (length here.locals) (local_type context l) v.1) (declared_keeps l l.spot.line (length here.locals) (local_type context l) v.1 q.1))

    locals_keep : (here : Here) (ls : List t.Local) → Held (λ b. rule.locals program.functions d ls b ≡ [] → KeepAll b) (locals context here ls)
    locals_keep here [] = λ h. (tt, λ e. tt)
    locals_keep here (l ∷ ls) =
        held_parts (λ s. rule.locally program.functions d l s ≡ [] → Keeps s) (λ b. rule.locals program.functions d ls b ≡ [] → KeepAll b) (λ b. rule.locals program.functions d (l ∷ ls) b ≡ [] → KeepAll b) (local context here l) (locals context (behind_local context here l) ls) (λ s rest. Holds (p.then s rest))
        (local_keeps here l) (locals_keep (behind_local context here l) ls)
        (λ s rest h k q. let r = append_none (rule.locally program.functions d l s) _ q in let x = h r.0 in let y = k r.1 in ((x.0, y.0), λ e. (x.1 e, y.1 e)))

    start_keeps : (here : Here) (e : t.ForStart) → Held (λ s. rule.start program.functions d e s ≡ [] → Keeps s) (for_start context here e)
    start_keeps here t.nothing = λ h. (tt, λ e. tt)
    start_keeps here (t.simply e) = simple_keeps here e
    start_keeps here (t.locals ls) = held_part (λ b. rule.locals program.functions d ls b ≡ [] → KeepAll b) (λ s. rule.start program.functions d (t.locals ls) s ≡ [] → Keeps s) (locals context here ls) (λ body. Holds (p.block body)) (locals_keep here ls) (λ b h. h)

    module _ (gives : Option Ty) where
      mutual
        pub stmt_keeps : (loop : Bool) (here : Here) (e : t.Stmt) → Held (λ s. rule.stmt program.functions d e s ≡ [] → Keeps s) (stmt context gives loop here e)
        stmt_keeps loop here (t.local l) = local_keeps here l
        stmt_keeps loop here (t.block at body) = held_part (λ b. rule.stmts program.functions d body b ≡ [] → KeepAll b) (λ s. rule.stmt program.functions d (t.block at body) s ≡ [] → Keeps s) (stmts context gives loop (inside here) body) (λ b. Holds (p.block b)) (stmts_keep loop (inside here) body) (λ b h. h)
        stmt_keeps loop here (t.empty at) = λ h. (tt, λ e. tt)
        stmt_keeps loop here (t.simple at e) = simple_keeps here e
        stmt_keeps loop here (t.if_then at c a) =
            let one = behind here c in
            held_parts (λ (v : p.Expr). Unit {0}) (λ s. rule.stmt program.functions d a s ≡ [] → Keeps s) (λ s. rule.stmt program.functions d (t.if_then at c a) s ≡ [] → Keeps s) (condition context here.names here.strings c) (stmt context gives loop one a) _
            (held_always (Unit {0}) (condition context here.names here.strings c) tt) (stmt_keeps loop one a)
            (λ v x h k q.
            let r = append_none (rule.whole program.functions d c v) _ q in
            let w = whole c v r.0 in
            let y = k r.1 in
            ((w.0, y.0, tt), λ e. (w.1 e, y.1 e, tt)))
        stmt_keeps loop here (t.if_else at c a b) =
            let one = behind here c in
            let two = behind_stmt context one a in
            held_parts (λ (v : p.Expr). Unit {0}) (λ (x : p.Stmt × p.Stmt). (rule.stmt program.functions d a x.0 ≡ [] → Keeps x.0) × (rule.stmt program.functions d b x.1 ≡ [] → Keeps x.1)) (λ s. rule.stmt program.functions d (t.if_else at c a b) s ≡ [] → Keeps s) (condition context here.names here.strings c) (both (stmt context gives loop one a) (stmt context gives loop two b)) _
            (held_always (Unit {0}) (condition context here.names here.strings c) tt)
            (held_both (λ s. rule.stmt program.functions d a s ≡ [] → Keeps s) (λ s. rule.stmt program.functions d b s ≡ [] → Keeps s) (stmt context gives loop one a) (stmt context gives loop two b) (stmt_keeps loop one a) (stmt_keeps loop two b))
            (λ v x h k q.
            let r = append_none (rule.whole program.functions d c v) _ q in
            let o = append_none (rule.stmt program.functions d a x.0) _ r.1 in
            let w = whole c v r.0 in
            let y = k.0 o.0 in
            let z = k.1 o.1 in
            ((w.0, y.0, z.0), λ e. (w.1 e, y.1 e, z.1 e)))
        stmt_keeps loop here (t.while_do at c a) =
            let one = behind here c in
            held_parts (λ (v : p.Expr). Unit {0}) (λ s. rule.stmt program.functions d a s ≡ [] → Keeps s) (λ s. rule.stmt program.functions d (t.while_do at c a) s ≡ [] → Keeps s) (condition context here.names here.strings c) (stmt context gives true one a) _
            (held_always (Unit {0}) (condition context here.names here.strings c) tt) (stmt_keeps true one a)
            (λ v x h k q.
            let r = append_none (rule.whole program.functions d c v) _ q in
            let w = whole c v r.0 in
            let y = k r.1 in
            ((w.0, y.0), λ e. (w.1 e, y.1 e)))
        stmt_keeps loop here (t.do_while at a c) =
            let one = behind_stmt context here a in
            held_parts (λ s. rule.stmt program.functions d a s ≡ [] → Keeps s) (λ (v : p.Expr). Unit {0}) (λ s. rule.stmt program.functions d (t.do_while at a c) s ≡ [] → Keeps s) (stmt context gives true here a) (condition context one.names one.strings c) _
            (stmt_keeps true here a) (held_always (Unit {0}) (condition context one.names one.strings c) tt)
            (λ x v k h q.
            let r = append_none (rule.stmt program.functions d a x) _ q in
            let w = whole c v r.1 in
            let y = k r.0 in
            ((y.0, w.0), λ e. (y.1 e, w.1 e)))
        stmt_keeps loop here (t.for_do at start c next a) =
            let one = inside here in
            let two = behind_start context one start in
            let three = behind_option two c in
            let four = behind_simple_option three next in
            held_parts (λ (x : p.Stmt × Option p.Expr). (rule.start program.functions d start x.0 ≡ [] → Keeps x.0) × Agree c x.1) (λ (y : p.Stmt × p.Stmt). (rule.simply_option program.functions d next y.0 ≡ [] → Keeps y.0) × (rule.stmt program.functions d a y.1 ≡ [] → Keeps y.1)) (λ s. rule.stmt program.functions d (t.for_do at start c next a) s ≡ [] → Keeps s)
            (both (for_start context one start) (condition_option context two.names two.strings c)) (both (simple_option context three.names three.strings next) (stmt context gives true four a)) _
            (held_both (λ s. rule.start program.functions d start s ≡ [] → Keeps s) (Agree c) (for_start context one start) (condition_option context two.names two.strings c) (start_keeps one start) (condition_agrees two c))
            (held_both (λ s. rule.simply_option program.functions d next s ≡ [] → Keeps s) (λ s. rule.stmt program.functions d a s ≡ [] → Keeps s) (simple_option context three.names three.strings next) (stmt context gives true four a) (simple_option_keeps three next) (stmt_keeps true four a))
            (λ x y h k q.
            let r = append_none (rule.start program.functions d start x.0) _ q in
            let o = append_none (rule.whole_option program.functions d c x.1) _ r.1 in
            let u = append_none (rule.simply_option program.functions d next y.0) _ o.1 in
            let w = whole_option c x.1 h.1 o.0 in
            let s = h.0 r.0 in
            let z = k.0 u.0 in
            let b = k.1 u.1 in
            ((s.0, w.0, z.0, b.0), λ e. (s.1 e, w.1 e, z.1 e, b.1 e)))
        stmt_keeps loop here (t.break_loop at) = held_if (λ s. rule.stmt program.functions d (t.break_loop at) s ≡ [] → Keeps s) loop (Holds (p.break at.line)) (fails at Mistyped) (λ e h. (tt, λ n. tt)) (λ e. tt)
        stmt_keeps loop here (t.continue_loop at) = held_if (λ s. rule.stmt program.functions d (t.continue_loop at) s ≡ [] → Keeps s) loop (Holds (p.continue at.line)) (fails at Mistyped) (λ e h. (tt, λ n. tt)) (λ e. tt)
        stmt_keeps loop here (t.return_with at e) =
            held_part (Agree e) (λ s. rule.stmt program.functions d (t.return_with at e) s ≡ [] → Keeps s) (value_option context here.names here.strings e) _ (value_agrees here e) (λ v h. held_fitting (λ s. rule.stmt program.functions d (t.return_with at e) s ≡ [] → Keeps s) at (returned at.line gives v) (returned_keeps at e at.line gives v h))

        pub stmts_keep : (loop : Bool) (here : Here) (body : t.Stmts) → Held (λ b. rule.stmts program.functions d body b ≡ [] → KeepAll b) (stmts context gives loop here body)
        stmts_keep loop here t.done = λ h. (tt, λ e. tt)
        stmts_keep loop here (t.next e rest) =
            let one = behind_stmt context here e in
            held_parts (λ s. rule.stmt program.functions d e s ≡ [] → Keeps s) (λ b. rule.stmts program.functions d rest b ≡ [] → KeepAll b) (λ b. rule.stmts program.functions d (t.next e rest) b ≡ [] → KeepAll b) (stmt context gives loop here e) (stmts context gives loop one rest) (λ a b. Holds (p.then a b))
            (stmt_keeps loop here e) (stmts_keep loop one rest)
            (λ s b h k q.
            let r = append_none (rule.stmt program.functions d e s) _ q in
            let x = h r.0 in
            let y = k r.1 in
            ((x.0, y.0), λ n. (x.1 n, y.1 n)))
