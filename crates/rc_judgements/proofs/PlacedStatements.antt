-- The code of a statement has the faults that the tree shows of it.
use Rattle.std.specs.Prelude.{◌≡◌, ℕ, List, [], ◌∷◌, ◌++◌, Option, Some, None, Bool, true, false, ◌&&◌, is_none, nat_eq, nat_le, length, slice_get, ◌-◌, if◌then◌else◌}
use Rattle.std.proofs.Common.{refl, sym, ap, ◌∙◌, subst}
use Rattle.std.proofs.lemmas.List.{append-nil}
use Rattle.std.specs.Str.{bytes_eq}
use Rattle.rc_syntax.specs.declared.tree.Spot.{Spot}
use Rattle.rc_syntax.specs.declared.tree.BinaryOp.{BinaryOp}
use Rattle.rc_syntax.specs.Tree as t
use Rattle.rc_core.specs.declared.operators.Operator.{Operator}
use Rattle.rc_core.specs.declared.operators.Operator.TheVariants.{Add, Subtract}
use Rattle.rc_core.specs.declared.stmt.Change.{Change}
use Rattle.rc_core.specs.declared.stmt.Change.TheVariants.{Compute, Step}
use Rattle.rc_core.specs.Arithmetic.{type_of}
use Rattle.rc_core.specs.Typing.{promoted, is_shift}
use Rattle.rc_core.specs.Types.{Ty, struct}
use Rattle.rc_core.specs.Programs as p
use Rattle.rc_core.specs.Layout.{size}
use Rattle.rc_deletes.specs.declared.deletes.DeletesFault.{DeletesFault}
use Rattle.rc_deletes.specs.declared.deletes.DeletesFault.TheVariants.{AnnotationPlace}
use Rattle.rc_deletes.specs.declared.fault.Refusal.TheVariants.{Mistyped}
use Rattle.rc_deletes.specs.declared.sort.Sort.{Sort}
use Rattle.rc_deletes.specs.declared.sort.Sort.TheVariants.{Number, Pointer}
use Rattle.rc_deletes.specs.Judged.{Holds, with_part, both, fails, fitting}
use Rattle.rc_deletes.specs.Kinds.{sort_of, sort_of_type}
use Rattle.rc_deletes.specs.Scopes.{Context, structs_in, Scope, a_local, meaning_in}
use Rattle.rc_deletes.specs.Values.{Typed, Meant, a_value, a_variable, a_place, an_array, typed, as_value, spot_of, is_truthy, condition_rule, fitted}
use Rattle.rc_deletes.specs.Operators.{changing, change_by, change_of, changed, right_in}
use Rattle.rc_deletes.specs.Expressions.{strings_in, base_rule, meant, value}
use Rattle.rc_deletes.specs.Statements.{Here, inside, behind, behind_option, behind_simple_option, with_local, declared, local_type, behind_local, behind_locals, behind_start, behind_stmt, RightSide, one_value, whole_struct, right_side, assignment, assigned_change, updated_place, update_of, step_operator, one, alone_rule, new_name, declaration, returned, value_option, condition, condition_option, value_alone, expression_alone, simple, simple_option, local, locals, for_start, in_a_loop, stmt, stmts}
use Rattle.rc_deletes.specs.Places as rule
use Rattle.rc_deletes.specs.Places.{or_own, is_annotated}
use Rattle.rc_deletes.specs.PlacedFaults as placed
use Rattle.rc_deletes.specs.PlacedFaults.{PlacedFault, fault, annotated}
use Rattle.rc_judgements.proofs.Held.{Held, Given, given_if, given_map, held_part, held_parts, held_both, held_if, held_fitting, held_always}
use Rattle.rc_judgements.proofs.PlacedOperators.{plain, joined, plain_both, in_value, converted_same, fitted_same}
use Rattle.rc_judgements.proofs.PlacedExpressions.{plain_own, DeletesAs, Tells, ValueOf, Means, as_value_of, meant_same, value_same, call_alone_same}

pub plain_annotation : (at : Spot) (n : t.TypeName) → rule.annotation at n ≡ plain (placed.annotation at n)
plain_annotation at n = by (is_annotated (slice_get n.stars (length n.stars - 1))) where
  by : (c : Bool) → (if c then AnnotationPlace at.line ∷ [] else []) ≡ plain (if c then fault at annotated ∷ [] else [])
  by true = refl
  by false = refl

pub plain_params : (qs : List t.Param) → rule.params qs ≡ plain (placed.params qs)
plain_params [] = refl
plain_params (q ∷ qs) = plain_both _ _ (placed.annotation q.spot q.type_name) (placed.params qs) (plain_annotation q.spot q.type_name) (plain_params qs)

pub plain_result : (at : Spot) (r : Option t.TypeName) → rule.result at r ≡ plain (placed.result at r)
plain_result at None = refl
plain_result at (Some n) = plain_annotation at n

pub own_both : (xs ys : List DeletesFault) (fs gs : List PlacedFault) → xs ≡ plain fs → ys ≡ plain gs → or_own xs ys ≡ plain (or_own fs gs)
own_both xs ys fs gs h k = let q = plain_own fs gs in cc

given_bool : {A : Type 0} (P : Bool → A → Type 0) (x : Option A) → Given (P true) x → Given (P false) x → Given (λ a. (b : Bool) → P b a) x
given_bool P None h k = tt
given_bool P (Some a) h k = by where
  by : (b : Bool) → P b a
  by true = h
  by false = k

module _ (fs : List p.Function) (d : Bool) where
  -- what names stand for after a node
  pub tells_local : (here : Here) (u : Ty) (name : List ℕ) → Tells fs d here.names → Tells fs d (with_local here u name).names
  tells_local here u name k n = given_if (DeletesAs fs d) (bytes_eq name n) (Some (a_local (length here.locals) u)) (meaning_in here.names n) tt (k n)

  module _ (context : Context) where
    tells_locals : (here : Here) (ls : List t.Local) → Tells fs d here.names → Tells fs d (behind_locals context here ls).names
    tells_locals here [] k = k
    tells_locals here (l ∷ ls) k = tells_locals (behind_local context here l) ls (tells_local here (local_type context l) l.name.text k)

    tells_start : (here : Here) (e : t.ForStart) → Tells fs d here.names → Tells fs d (behind_start context here e).names
    tells_start here t.nothing k = k
    tells_start here (t.simply e) k = k
    tells_start here (t.locals ls) k = tells_locals here ls k

    tells_stmt : (here : Here) (e : t.Stmt) → Tells fs d here.names → Tells fs d (behind_stmt context here e).names
    tells_stmt here (t.local l) k = tells_local here (local_type context l) l.name.text k
    tells_stmt here (t.block at body) k = k
    tells_stmt here (t.empty at) k = k
    tells_stmt here (t.simple at e) k = k
    tells_stmt here (t.if_then at c a) k = tells_stmt (behind here c) a k
    tells_stmt here (t.if_else at c a b) k = tells_stmt (behind_stmt context (behind here c) a) b (tells_stmt (behind here c) a k)
    tells_stmt here (t.while_do at c a) k = tells_stmt (behind here c) a k
    tells_stmt here (t.do_while at a c) k = tells_stmt here a k
    tells_stmt here (t.for_do at start c next a) k = k
    tells_stmt here (t.break_loop at) k = k
    tells_stmt here (t.continue_loop at) k = k
    tells_stmt here (t.return_with at e) k = k

  -- changes of places
  change_by_same : (op : Option Operator) (s z : Sort) (w : Typed) → Given (λ (c : Change × p.Expr). in_value fs d c.1 ≡ in_value fs d w.code) (change_by op s z w)
  change_by_same (Some op) (Number a) (Number b) w = converted_same fs d b (type_of (right_in (is_shift op) a b)) w
  change_by_same (Some Add) Pointer (Number b) w = converted_same fs d b (type_of (promoted b)) w
  change_by_same (Some Subtract) Pointer (Number b) w = converted_same fs d b (type_of (promoted b)) w
  change_by_same op s z w = tt

  changed_same : (line : ℕ) (v : Typed) (c : Change) (e : p.Expr) → in_value fs d (changed line v c e) ≡ in_value fs d v.code ++ in_value fs d e
  changed_same line v (Compute from op s) e =
      converted_same fs d (type_of s) from (record { line = line; ty = None; code = p.binary line op s _ e }) ∙ joined _ (in_value fs d e) (in_value fs d v.code) (in_value fs d e) (converted_same fs d from (type_of s) v) refl
  changed_same line v (Step direction) e = refl

  module _ (names : Scope) where
    assigned_same : (line left x : ℕ) (u : Ty) (l : t.Expr) (w : Typed) (c : Option (Change × p.Expr)) → plain (placed.within names d l) ≡ [] → Given (λ (c : Change × p.Expr). in_value fs d c.1 ≡ in_value fs d w.code) c → Given (λ s. rule.computed fs d s ≡ plain (placed.within names d l) ++ in_value fs d w.code) (assigned_change line x (typed left u (p.local left x)) c)
    assigned_same line left x u l w None h k = tt
    assigned_same line left x u l w (Some c) h k = changed_same line (typed left u (p.local left x)) c.0 c.1 ∙ joined [] (in_value fs d c.1) (plain (placed.within names d l)) (in_value fs d w.code) (sym h) k

    updated_same : (line : ℕ) (place : p.Place) (l : t.Expr) (w : Typed) (c : Option (Change × p.Expr)) → rule.within_place fs d place ≡ plain (placed.within names d l) → Given (λ (c : Change × p.Expr). in_value fs d c.1 ≡ in_value fs d w.code) c → Given (λ s. rule.computed fs d s ≡ plain (placed.within names d l) ++ in_value fs d w.code) (updated_place line place c)
    updated_same line place l w None h k = tt
    updated_same line place l w (Some c) h k = joined (rule.within_place fs d place) (in_value fs d c.1) (plain (placed.within names d l)) (in_value fs d w.code) h k

    module _ (tells : Tells fs d names) where
      update_same : (line left : ℕ) (op : BinaryOp) (l : t.Expr) (m : Meant) (w : Typed) → Means fs d names tells l m → Given (λ s. rule.computed fs d s ≡ plain (placed.within names d l) ++ in_value fs d w.code) (update_of line left op m w)
      update_same line left op l (a_variable x u) w h = assigned_same line left x u l w (change_of op u w) h.0 (change_by_same (changing op) (sort_of_type u) (sort_of w.ty) w)
      update_same line left op l (a_place place u) w h = updated_same line place l w (change_of op u w) h.0 (change_by_same (changing op) (sort_of_type u) (sort_of w.ty) w)
      update_same line left op l (a_value v) w h = tt
      update_same line left op l (an_array place s f u) w h = tt

      -- assignments
      abbrev RightOf : t.Expr → RightSide → Type 0
      RightOf r (one_value v) = ValueOf fs d names tells r v
      RightOf r (whole_struct place s) = rule.within_place fs d place ≡ plain (placed.within names d r)

      right_same : (r : t.Expr) (m : Meant) → Means fs d names tells r m → Held (RightOf r) (right_side (spot_of r) m)
      right_same r (a_place place (struct s)) h = h.0
      right_same r m h = held_part (ValueOf fs d names tells r) (RightOf r) (as_value (spot_of r) m) (λ v. Holds (one_value v)) (as_value_of fs d names tells r m h) (λ v k. k)

      fitted_both : (u : Ty) (v : Typed) → Given (λ c. (call : Bool) → rule.whole_by fs d call c ≡ rule.whole_by fs d call v.code) (fitted u v)
      fitted_both u v = given_bool (λ call c. rule.whole_by fs d call c ≡ rule.whole_by fs d call v.code) (fitted u v) (fitted_same fs d true u v) (fitted_same fs d false u v)

      abbrev IsAssigned : t.Expr → t.Expr → p.Stmt → Type 0
      IsAssigned l r s = rule.assigned fs d r s ≡ plain (placed.within names d l ++ placed.given names d l r)

      -- what a local is given is whole, and what another place is given is inside of something
      to_local : (l r : t.Expr) (xs : List DeletesFault) → plain (placed.within names d l) ≡ [] → placed.given names d l r ≡ placed.whole names d r → xs ≡ plain (placed.whole names d r) → xs ≡ plain (placed.within names d l ++ placed.given names d l r)
      to_local l r xs h k e = plain_both [] xs (placed.within names d l) (placed.given names d l r) (sym h) (e ∙ ap plain (sym k))

      to_place : (l r : t.Expr) (xs ys : List DeletesFault) → xs ≡ plain (placed.within names d l) → placed.given names d l r ≡ placed.within names d r → ys ≡ plain (placed.within names d r) → xs ++ ys ≡ plain (placed.within names d l ++ placed.given names d l r)
      to_place l r xs ys h k e = plain_both xs ys (placed.within names d l) (placed.given names d l r) h (e ∙ ap plain (sym k))

      assignment_same : (context : Context) (line : ℕ) (l r : t.Expr) (m : Meant) (w : RightSide) → Means fs d names tells l m → RightOf r w → Given (IsAssigned l r) (assignment context line m w)
      assignment_same context line l r (a_variable x u) (one_value v) h k =
          given_map (λ c. (call : Bool) → rule.whole_by fs d call c ≡ rule.whole_by fs d call v.code) (IsAssigned l r) (p.assign line x) (fitted u v) (fitted_both u v) (λ c e. to_local l r (rule.whole fs d r c) h.0 (h.2 r) (e (rule.is_call r) ∙ k.1))
      assignment_same context line l r (a_place place u) (one_value v) h k =
          given_map (λ c. (call : Bool) → rule.whole_by fs d call c ≡ rule.whole_by fs d call v.code) (IsAssigned l r) (p.store line place) (fitted u v) (fitted_both u v) (λ c e. to_place l r (rule.within_place fs d place) (in_value fs d c) h.0 (h.2 r) (e false ∙ k.0.0))
      assignment_same context line l r (a_place place (struct s)) (whole_struct from i) h k =
          given_if (IsAssigned l r) (nat_eq s i && nat_le (size (structs_in context) (struct s)) 256) (Some (p.copy line s place from)) None (to_place l r (rule.within_place fs d place) (rule.within_place fs d from) h.0 (h.2 r) k) tt
      assignment_same context line l r m w h k = tt

      -- what may be absent
      abbrev pub OptionOf : Option t.Expr → Option Typed → Type 0
      OptionOf None v = v ≡ None
      OptionOf (Some e) None = ⊥
      OptionOf (Some e) (Some v) = ValueOf fs d names tells e v

      none_whole : (e : Option t.Expr) → OptionOf e None → rule.whole_option fs d e None ≡ plain (placed.whole_option names d e)
      none_whole None h = refl
      none_whole (Some e) h = absurd h

      some_whole : (e : Option t.Expr) (v : Typed) (c : p.Expr) → OptionOf e (Some v) → ((call : Bool) → rule.whole_by fs d call c ≡ rule.whole_by fs d call v.code) → rule.whole_option fs d e (Some c) ≡ plain (placed.whole_option names d e)
      some_whole None v c h k = absurd (never h) where
        never : Some v ≡ None → ⊥
        never q = cc
      some_whole (Some e) v c h k = k (rule.is_call e) ∙ h.1

      declared_same : (l : t.Local) (line x : ℕ) (u : Ty) (v : Option Typed) → OptionOf l.initial v → Given (λ s. rule.locally fs d l s ≡ plain (or_own (placed.whole_option names d l.initial) (placed.annotation l.spot l.type_name))) (declaration line x u v)
      declared_same l line x (struct k) v h = tt
      declared_same l line x _ None h = own_both _ _ (placed.whole_option names d l.initial) (placed.annotation l.spot l.type_name) (none_whole l.initial h) (plain_annotation l.spot l.type_name)
      declared_same l line x u (Some v) h =
          given_map (λ c. (call : Bool) → rule.whole_by fs d call c ≡ rule.whole_by fs d call v.code) (λ s. rule.locally fs d l s ≡ plain (or_own (placed.whole_option names d l.initial) (placed.annotation l.spot l.type_name))) (λ e. p.declare line x (Some e)) (fitted u v) (fitted_both u v)
          (λ c e. own_both _ _ (placed.whole_option names d l.initial) (placed.annotation l.spot l.type_name) (some_whole l.initial v c h e) (plain_annotation l.spot l.type_name))

      returned_same : (at : Spot) (e : Option t.Expr) (line : ℕ) (r : Option Ty) (v : Option Typed) → OptionOf e v → Given (λ s. rule.stmt fs d (t.return_with at e) s ≡ plain (placed.whole_option names d e)) (returned line r v)
      returned_same at e line None None h = none_whole e h
      returned_same at e line (Some u) (Some v) h =
          given_map (λ c. (call : Bool) → rule.whole_by fs d call c ≡ rule.whole_by fs d call v.code) (λ s. rule.stmt fs d (t.return_with at e) s ≡ plain (placed.whole_option names d e)) (λ c. p.return line (Some c)) (fitted u v) (fitted_both u v) (λ c k. some_whole e v c h k)
      returned_same at e line None (Some v) h = tt
      returned_same at e line (Some u) None h = tt

      module _ (context : Context) where
        option_same : (before : List (List ℕ)) (e : Option t.Expr) → Held (OptionOf e) (value_option context names before e)
        option_same before None = refl
        option_same before (Some e) = held_part (ValueOf fs d names tells e) (OptionOf (Some e)) (value context names before e) (λ v. Holds (Some v)) (value_same fs d names tells context before e) (λ v h. h)

        condition_same : (before : List (List ℕ)) (e : t.Expr) → Held (λ c. rule.whole fs d e c ≡ plain (placed.whole names d e)) (condition context names before e)
        condition_same before e =
            held_part (ValueOf fs d names tells e) (λ c. rule.whole fs d e c ≡ plain (placed.whole names d e)) (value context names before e) (condition_rule (spot_of e)) (value_same fs d names tells context before e)
            (λ v h. held_if (λ c. rule.whole fs d e c ≡ plain (placed.whole names d e)) (is_truthy (sort_of v.ty)) (Holds v.code) (fails (spot_of e) Mistyped) (λ q. h.1) (λ q. tt))

        condition_option_same : (before : List (List ℕ)) (e : Option t.Expr) → Held (λ c. rule.whole_option fs d e c ≡ plain (placed.whole_option names d e)) (condition_option context names before e)
        condition_option_same before None = refl
        condition_option_same before (Some e) = held_part (λ c. rule.whole fs d e c ≡ plain (placed.whole names d e)) (λ c. rule.whole_option fs d (Some e) c ≡ plain (placed.whole names d e)) (condition context names before e) (λ c. Holds (Some c)) (condition_same before e) (λ c h. h)

        value_alone_same : (before : List (List ℕ)) (e : t.Expr) → Held (λ s. rule.alone fs d e s ≡ plain (placed.whole names d e)) (value_alone context names before e)
        value_alone_same before e =
            held_part (ValueOf fs d names tells e) (λ s. rule.alone fs d e s ≡ plain (placed.whole names d e)) (value context names before e) (alone_rule (spot_of e)) (value_same fs d names tells context before e)
            (λ v h. held_if (λ s. rule.alone fs d e s ≡ plain (placed.whole names d e)) (is_none v.ty) (fails (spot_of e) Mistyped) (Holds (p.evaluate (spot_of e).line v.code)) (λ q. tt) (λ q. h.1))

        expression_same : (before : List (List ℕ)) (e : t.Expr) → Held (λ s. rule.alone fs d e s ≡ plain (placed.whole names d e)) (expression_alone context names before e)
        expression_same before (t.call name args) = call_alone_same fs d names tells context before name args
        expression_same before e = value_alone_same before e

        stepped_same : (before : List (List ℕ)) (at : Spot) (op : BinaryOp) (l : t.Expr) → Held (λ s. rule.computed fs d s ≡ plain (placed.within names d l)) (with_part (meant context names before l) (λ m. fitting at (update_of at.line (spot_of l).line op m (one at.line))))
        stepped_same before at op l =
            held_part (Means fs d names tells l) (λ s. rule.computed fs d s ≡ plain (placed.within names d l)) (meant context names before l) _ (meant_same fs d names tells context before l)
            (λ m h. held_fitting (λ s. rule.computed fs d s ≡ plain (placed.within names d l)) at (update_of at.line (spot_of l).line op m (one at.line))
            (subst (λ xs. Given (λ s. rule.computed fs d s ≡ xs) (update_of at.line (spot_of l).line op m (one at.line))) (append-nil (plain (placed.within names d l))) (update_same at.line (spot_of l).line op l m (one at.line) h)))

        simple_same : (before : List (List ℕ)) (e : t.Simple) → Held (λ s. rule.simply fs d e s ≡ plain (placed.simple names d e)) (simple context names before e)
        simple_same before (t.expression e) = expression_same before e
        simple_same before (t.assign at l r) =
            held_parts (Means fs d names tells l) (RightOf r) (IsAssigned l r) (meant context names before l) (with_part (meant context names (before ++ strings_in l) r) (right_side (spot_of r))) _
            (meant_same fs d names tells context before l)
            (held_part (Means fs d names tells r) (RightOf r) (meant context names (before ++ strings_in l) r) (right_side (spot_of r)) (meant_same fs d names tells context (before ++ strings_in l) r) (right_same r))
            (λ m w h k. held_fitting (IsAssigned l r) at (assignment context at.line m w) (assignment_same context at.line l r m w h k))
        simple_same before (t.update at op l r) =
            let P = λ (s : p.Stmt). rule.computed fs d s ≡ plain (placed.within names d l ++ placed.within names d r) in
            held_parts (Means fs d names tells l) (ValueOf fs d names tells r) P (meant context names before l) (value context names (before ++ strings_in l) r) _
            (meant_same fs d names tells context before l) (value_same fs d names tells context (before ++ strings_in l) r)
            (λ m v h k. held_fitting P at (update_of at.line (spot_of l).line op m v)
            (subst (λ xs. Given (λ s. rule.computed fs d s ≡ xs) (update_of at.line (spot_of l).line op m v)) (plain_both _ _ (placed.within names d l) (placed.within names d r) refl k.0.0) (update_same at.line (spot_of l).line op l m v h)))
        simple_same before (t.step_after at op l) = stepped_same before at (step_operator op) l
        simple_same before (t.step_before at op l) = stepped_same before at (step_operator op) l

        simple_option_same : (before : List (List ℕ)) (e : Option t.Simple) → Held (λ s. rule.simply_option fs d e s ≡ plain (placed.simple_option names d e)) (simple_option context names before e)
        simple_option_same before None = refl
        simple_option_same before (Some e) = simple_same before e

  module _ (context : Context) where
    local_same : (here : Here) (l : t.Local) → Tells fs d here.names → Held (λ s. rule.locally fs d l s ≡ plain (placed.local context d here l)) (local context here l)
    local_same here l k =
        let next = declared context here l in
        let known = tells_local here (local_type context l) l.name.text k in
        let P = λ (s : p.Stmt). rule.locally fs d l s ≡ plain (placed.local context d here l) in
        held_parts (λ (u : Unit {0}). Unit {0}) (λ (v : Unit {0} × Option Typed). Unit {0} × OptionOf next.names known l.initial v.1) P (base_rule context l.type_name.base) (both (new_name here.first here.names l.name) (value_option context next.names here.strings l.initial)) _
        (held_always (Unit {0}) (base_rule context l.type_name.base) tt)
        (held_both (λ (u : Unit {0}). Unit {0}) (OptionOf next.names known l.initial) (new_name here.first here.names l.name) (value_option context next.names here.strings l.initial) (held_always (Unit {0}) (new_name here.first here.names l.name) tt) (option_same next.names known context here.strings l.initial))
        (λ u v h q. held_fitting P l.spot (declaration l.spot.line (length here.locals) (local_type context l) v.1) (declared_same next.names known l l.spot.line (length here.locals) (local_type context l) v.1 q.1))

    locals_same : (here : Here) (ls : List t.Local) → Tells fs d here.names → Held (λ b. rule.locals fs d ls b ≡ plain (placed.locals context d here ls)) (locals context here ls)
    locals_same here [] k = refl
    locals_same here (l ∷ ls) k =
        let next = behind_local context here l in
        held_parts (λ s. rule.locally fs d l s ≡ plain (placed.local context d here l)) (λ b. rule.locals fs d ls b ≡ plain (placed.locals context d next ls)) (λ b. rule.locals fs d (l ∷ ls) b ≡ plain (placed.locals context d here (l ∷ ls))) (local context here l) (locals context next ls) (λ s rest. Holds (p.then s rest))
        (local_same here l k) (locals_same next ls (tells_local here (local_type context l) l.name.text k))
        (λ s rest h q. plain_both (rule.locally fs d l s) (rule.locals fs d ls rest) (placed.local context d here l) (placed.locals context d next ls) h q)

    start_same : (here : Here) (e : t.ForStart) → Tells fs d here.names → Held (λ s. rule.start fs d e s ≡ plain (placed.for_start context d here e)) (for_start context here e)
    start_same here t.nothing k = refl
    start_same here (t.simply e) k = simple_same here.names k context here.strings e
    start_same here (t.locals ls) k = held_part (λ b. rule.locals fs d ls b ≡ plain (placed.locals context d here ls)) (λ s. rule.start fs d (t.locals ls) s ≡ plain (placed.locals context d here ls)) (locals context here ls) (λ body. Holds (p.block body)) (locals_same here ls k) (λ b h. h)

    module _ (gives : Option Ty) where
      loop_same : (loop : Bool) (at : Spot) (e : t.Stmt) (s : p.Stmt) → rule.stmt fs d e s ≡ [] → Held (λ s. rule.stmt fs d e s ≡ []) (in_a_loop loop at s)
      loop_same loop at e s h = held_if (λ s. rule.stmt fs d e s ≡ []) loop (Holds s) (fails at Mistyped) (λ q. h) (λ q. tt)

      mutual
        pub stmt_same : (loop : Bool) (here : Here) (e : t.Stmt) → Tells fs d here.names → Held (λ s. rule.stmt fs d e s ≡ plain (placed.stmt context d here e)) (stmt context gives loop here e)
        stmt_same loop here (t.local l) k = local_same here l k
        stmt_same loop here (t.block at body) k = held_part (λ b. rule.stmts fs d body b ≡ plain (placed.stmts context d (inside here) body)) (λ s. rule.stmt fs d (t.block at body) s ≡ plain (placed.stmts context d (inside here) body)) (stmts context gives loop (inside here) body) (λ b. Holds (p.block b)) (stmts_same loop (inside here) body k) (λ b h. h)
        stmt_same loop here (t.empty at) k = refl
        stmt_same loop here (t.simple at e) k = simple_same here.names k context here.strings e
        stmt_same loop here (t.if_then at c a) k =
            let one = behind here c in
            held_parts (λ v. rule.whole fs d c v ≡ plain (placed.whole here.names d c)) (λ s. rule.stmt fs d a s ≡ plain (placed.stmt context d one a)) (λ s. rule.stmt fs d (t.if_then at c a) s ≡ plain (placed.stmt context d here (t.if_then at c a))) (condition context here.names here.strings c) (stmt context gives loop one a) _
            (condition_same here.names k context here.strings c) (stmt_same loop one a k)
            (λ v x h q. plain_both (rule.whole fs d c v) (rule.stmt fs d a x) (placed.whole here.names d c) (placed.stmt context d one a) h q)
        stmt_same loop here (t.if_else at c a b) k =
            let one = behind here c in
            let two = behind_stmt context one a in
            held_parts (λ v. rule.whole fs d c v ≡ plain (placed.whole here.names d c)) (λ (x : p.Stmt × p.Stmt). (rule.stmt fs d a x.0 ≡ plain (placed.stmt context d one a)) × (rule.stmt fs d b x.1 ≡ plain (placed.stmt context d two b))) (λ s. rule.stmt fs d (t.if_else at c a b) s ≡ plain (placed.stmt context d here (t.if_else at c a b)))
            (condition context here.names here.strings c) (both (stmt context gives loop one a) (stmt context gives loop two b)) _
            (condition_same here.names k context here.strings c)
            (held_both (λ s. rule.stmt fs d a s ≡ plain (placed.stmt context d one a)) (λ s. rule.stmt fs d b s ≡ plain (placed.stmt context d two b)) (stmt context gives loop one a) (stmt context gives loop two b) (stmt_same loop one a k) (stmt_same loop two b (tells_stmt context one a k)))
            (λ v x h q. plain_both (rule.whole fs d c v) (rule.stmt fs d a x.0 ++ rule.stmt fs d b x.1) (placed.whole here.names d c) (placed.stmt context d one a ++ placed.stmt context d two b) h
            (plain_both (rule.stmt fs d a x.0) (rule.stmt fs d b x.1) (placed.stmt context d one a) (placed.stmt context d two b) q.0 q.1))
        stmt_same loop here (t.while_do at c a) k =
            let one = behind here c in
            held_parts (λ v. rule.whole fs d c v ≡ plain (placed.whole here.names d c)) (λ s. rule.stmt fs d a s ≡ plain (placed.stmt context d one a)) (λ s. rule.stmt fs d (t.while_do at c a) s ≡ plain (placed.stmt context d here (t.while_do at c a))) (condition context here.names here.strings c) (stmt context gives true one a) _
            (condition_same here.names k context here.strings c) (stmt_same true one a k)
            (λ v x h q. plain_both (rule.whole fs d c v) (rule.stmt fs d a x) (placed.whole here.names d c) (placed.stmt context d one a) h q)
        stmt_same loop here (t.do_while at a c) k =
            let one = behind_stmt context here a in
            held_parts (λ s. rule.stmt fs d a s ≡ plain (placed.stmt context d here a)) (λ v. rule.whole fs d c v ≡ plain (placed.whole one.names d c)) (λ s. rule.stmt fs d (t.do_while at a c) s ≡ plain (placed.stmt context d here (t.do_while at a c))) (stmt context gives true here a) (condition context one.names one.strings c) _
            (stmt_same true here a k) (condition_same one.names (tells_stmt context here a k) context one.strings c)
            (λ x v h q. plain_both (rule.stmt fs d a x) (rule.whole fs d c v) (placed.stmt context d here a) (placed.whole one.names d c) h q)
        stmt_same loop here (t.for_do at start c next a) k =
            let one = inside here in
            let two = behind_start context one start in
            let three = behind_option two c in
            let four = behind_simple_option three next in
            let known = tells_start context one start k in
            let at_start = placed.for_start context d one start in
            let at_test = placed.whole_option two.names d c in
            let at_next = placed.simple_option three.names d next in
            let at_body = placed.stmt context d four a in
            held_parts (λ (x : p.Stmt × Option p.Expr). (rule.start fs d start x.0 ≡ plain at_start) × (rule.whole_option fs d c x.1 ≡ plain at_test)) (λ (y : p.Stmt × p.Stmt). (rule.simply_option fs d next y.0 ≡ plain at_next) × (rule.stmt fs d a y.1 ≡ plain at_body)) (λ s. rule.stmt fs d (t.for_do at start c next a) s ≡ plain (placed.stmt context d here (t.for_do at start c next a)))
            (both (for_start context one start) (condition_option context two.names two.strings c)) (both (simple_option context three.names three.strings next) (stmt context gives true four a)) _
            (held_both (λ s. rule.start fs d start s ≡ plain at_start) (λ v. rule.whole_option fs d c v ≡ plain at_test) (for_start context one start) (condition_option context two.names two.strings c) (start_same one start k) (condition_option_same two.names known context two.strings c))
            (held_both (λ s. rule.simply_option fs d next s ≡ plain at_next) (λ s. rule.stmt fs d a s ≡ plain at_body) (simple_option context three.names three.strings next) (stmt context gives true four a) (simple_option_same three.names known context three.strings next) (stmt_same true four a known))
            (λ x y h q. plain_both _ _ at_start (at_test ++ (at_next ++ at_body)) h.0 (plain_both _ _ at_test (at_next ++ at_body) h.1 (plain_both _ _ at_next at_body q.0 q.1)))
        stmt_same loop here (t.break_loop at) k = loop_same loop at (t.break_loop at) (p.break at.line) refl
        stmt_same loop here (t.continue_loop at) k = loop_same loop at (t.continue_loop at) (p.continue at.line) refl
        stmt_same loop here (t.return_with at e) k =
            held_part (OptionOf here.names k e) (λ s. rule.stmt fs d (t.return_with at e) s ≡ plain (placed.whole_option here.names d e)) (value_option context here.names here.strings e) _ (option_same here.names k context here.strings e)
            (λ v h. held_fitting (λ s. rule.stmt fs d (t.return_with at e) s ≡ plain (placed.whole_option here.names d e)) at (returned at.line gives v) (returned_same here.names k at e at.line gives v h))

        pub stmts_same : (loop : Bool) (here : Here) (body : t.Stmts) → Tells fs d here.names → Held (λ b. rule.stmts fs d body b ≡ plain (placed.stmts context d here body)) (stmts context gives loop here body)
        stmts_same loop here t.done k = refl
        stmts_same loop here (t.next e rest) k =
            let one = behind_stmt context here e in
            held_parts (λ s. rule.stmt fs d e s ≡ plain (placed.stmt context d here e)) (λ b. rule.stmts fs d rest b ≡ plain (placed.stmts context d one rest)) (λ b. rule.stmts fs d (t.next e rest) b ≡ plain (placed.stmts context d here (t.next e rest))) (stmt context gives loop here e) (stmts context gives loop one rest) (λ a b. Holds (p.then a b))
            (stmt_same loop here e k) (stmts_same loop one rest (tells_stmt context here e k))
            (λ s b h q. plain_both (rule.stmt fs d e s) (rule.stmts fs d rest b) (placed.stmt context d here e) (placed.stmts context d one rest) h q)
