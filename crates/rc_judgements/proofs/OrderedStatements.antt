-- The rules of statements: where their violations stand. The declarators that share a base stand behind it, so that a
-- violation at the base is first, and where there is none the declarators stand in order.
use Rattle.std.specs.Prelude.{◌≡◌, ◌⊎◌, ℕ, ◌+◌, ◌<◌, ◌≤◌, List, [], ◌∷◌, ◌++◌, Option, Some, None, Bool, true, false, length, is_none, if◌then◌else◌}
use Rattle.std.proofs.Common.{refl, sym, ap, ◌∙◌, subst, inl, inr, arith}
use Rattle.rc_syntax.specs.declared.tree.Spot.{Spot}
use Rattle.rc_syntax.specs.declared.tree.Name.{Name}
use Rattle.rc_syntax.specs.declared.tree.Base.{Base}
use Rattle.rc_syntax.specs.declared.tree.Base.TheVariants as base
use Rattle.rc_syntax.specs.Tree as t
use Rattle.rc_core.specs.Types.{Ty, struct}
use Rattle.rc_core.specs.Programs as p
use Rattle.rc_deletes.specs.declared.fault.Fault.{Fault}
use Rattle.rc_deletes.specs.declared.fault.Refusal.TheVariants.{Unknown, Mistyped}
use Rattle.rc_deletes.specs.Judged.{Judged, Holds, Faulty, faults, first_fault, with_part, with_parts, both, fails, fitting}
use Rattle.rc_deletes.specs.Kinds.{place_of, sort_of}
use Rattle.rc_deletes.specs.Scopes.{Context, struct_names, Scope, meaning_in}
use Rattle.rc_deletes.specs.Values.{Typed, Meant, a_place, as_value, spot_of, is_truthy, condition_rule}
use Rattle.rc_deletes.specs.Calls.{callee_rule, call_statement}
use Rattle.rc_deletes.specs.Expressions.{strings_in, found, base_rule, meant, values, value}
use Rattle.rc_deletes.specs.Statements.{Here, inside, behind, behind_option, behind_simple_option, behind_start, behind_stmt, behind_local, declared, local_type, one_value, right_side, assignment, update_of, step_operator, one, alone_rule, is_twice, new_name, declaration, returned, value_option, condition, condition_option, expression_alone, simple, simple_option, local, locals, for_start, stmt, stmts}
use Rattle.rc_deletes.specs.Items.{once}
use Rattle.rc_deletes.specs.Order.{NotAfter}
use Rattle.rc_judgements.proofs.Ordered.{Each, Inside, In, Sound, all_in, in_wider, in_both, sound_wider, part_sound, parts_sound, both_sound, parts_in, unknown_first, fitting_sound}
use Rattle.rc_judgements.proofs.OrderedExpressions.{SpansBase, Spans, spot_inside, value_sound, if_sound, callee_sound, call_statement_sound, base_sound, meant_sound, values_sound, part_value}

abbrev pub SpansOption : ℕ → ℕ → Option t.Expr → Type 0
SpansOption a b None = Unit {0}
SpansOption a b (Some e) = Spans a b e

abbrev pub SpansSimple : ℕ → ℕ → t.Simple → Type 0
SpansSimple a b (t.expression e) = Spans a b e
SpansSimple a b (t.assign at l r) = Inside a b at × (m : ℕ) × (a ≤ m) × (m ≤ b) × Spans a m l × Spans m b r
SpansSimple a b (t.update at op l r) = Inside a b at × (m : ℕ) × (a ≤ m) × (m ≤ b) × Spans a m l × Spans m b r
SpansSimple a b (t.step_after at op l) = Inside a b at × Spans a b l
SpansSimple a b (t.step_before at op l) = Inside a b at × Spans a b l

abbrev pub SpansSimpleOption : ℕ → ℕ → Option t.Simple → Type 0
SpansSimpleOption a b None = Unit {0}
SpansSimpleOption a b (Some s) = SpansSimple a b s

-- a declarator behind its base
abbrev pub SpansDeclarator : ℕ → ℕ → t.Local → Type 0
SpansDeclarator a b l = Inside a b l.spot × (m : ℕ) × (a ≤ m) × (m ≤ b) × Inside a m l.name.spot × SpansOption m b l.initial

-- a declarator with its base, or behind another one that shares its base
abbrev pub Shares : Option Base → Base → Type 0
Shares None n = ⊥
Shares (Some m) n = m ≡ n

pub data SpansLocal (shared : Option Base) (a b : ℕ) (l : t.Local) : Type 0 where
  with_base : (m : ℕ) → a ≤ m → m ≤ b → SpansBase a m l.type_name.base → SpansDeclarator m b l → SpansLocal shared a b l
  behind_another : Shares shared l.type_name.base → SpansDeclarator a b l → SpansLocal shared a b l

-- a list may have other words between
abbrev pub SpansLocals : Option Base → ℕ → ℕ → List t.Local → Type 0
SpansLocals shared a b [] = Unit {0}
SpansLocals shared a b (l ∷ ls) = (k : ℕ) × (m : ℕ) × (a ≤ k) × (k ≤ m) × (m ≤ b) × SpansLocal shared k m l × SpansLocals (Some l.type_name.base) m b ls

abbrev pub SpansStart : ℕ → ℕ → t.ForStart → Type 0
SpansStart a b t.nothing = Unit {0}
SpansStart a b (t.simply s) = SpansSimple a b s
SpansStart a b (t.locals ls) = SpansLocals None a b ls

abbrev pub shared_behind : t.Stmt → Option Base
shared_behind (t.local l) = Some l.type_name.base
shared_behind s = None

abbrev mutual
  pub SpansStmt : Option Base → ℕ → ℕ → t.Stmt → Type 0
  SpansStmt shared a b (t.local l) = SpansLocal shared a b l
  SpansStmt shared a b (t.block at body) = (c : ℕ) × (d : ℕ) × (a ≤ c) × (d ≤ b) × SpansStmts None c d body
  SpansStmt shared a b (t.empty at) = Unit {0}
  SpansStmt shared a b (t.simple at s) = SpansSimple a b s
  SpansStmt shared a b (t.if_then at c x) = (m : ℕ) × (a ≤ m) × (m ≤ b) × Spans a m c × SpansStmt None m b x
  SpansStmt shared a b (t.if_else at c x y) = (m : ℕ) × (a ≤ m) × (k : ℕ) × (o : ℕ) × (m ≤ k) × (k ≤ o) × (o ≤ b) × Spans a m c × SpansStmt None m k x × SpansStmt None o b y
  SpansStmt shared a b (t.while_do at c x) = (m : ℕ) × (a ≤ m) × (m ≤ b) × Spans a m c × SpansStmt None m b x
  SpansStmt shared a b (t.do_while at x c) = (k : ℕ) × (m : ℕ) × (a ≤ k) × (k ≤ m) × (m ≤ b) × SpansStmt None k m x × Spans m b c
  SpansStmt shared a b (t.for_do at start c next x) =
      (j : ℕ) × (a ≤ j) × (k : ℕ) × (j ≤ k) × (m : ℕ) × (k ≤ m) × (o : ℕ) × (m ≤ o) × (o ≤ b) × SpansStart j k start × SpansOption k m c × SpansSimpleOption m o next × SpansStmt None o b x
  SpansStmt shared a b (t.break_loop at) = Inside a b at
  SpansStmt shared a b (t.continue_loop at) = Inside a b at
  SpansStmt shared a b (t.return_with at e) = Inside a b at × SpansOption a b e

  pub SpansStmts : Option Base → ℕ → ℕ → t.Stmts → Type 0
  SpansStmts shared a b t.done = Unit {0}
  SpansStmts shared a b (t.next s rest) = (k : ℕ) × (m : ℕ) × (a ≤ k) × (k ≤ m) × (m ≤ b) × SpansStmt shared k m s × SpansStmts (shared_behind s) m b rest

-- where a base that is shared stands, and whether nothing is wrong with it
abbrev pub Before : ℕ → ℕ → Option Base → Type 0
Before c a None = Unit {0}
Before c a (Some n) = SpansBase c a n

abbrev pub BaseHolds : Context → Option Base → Type 0
BaseHolds context None = Unit {0}
BaseHolds context (Some n) = base_rule context n ≡ Holds tt

right_sound : (a b : ℕ) (at : Spot) (m : Meant) → Inside a b at → Sound a b (right_side at m)
right_sound a b at (a_place place (struct s)) h = tt
right_sound a b at m h = part_sound a b (as_value at m) (λ v. Holds (one_value v)) (value_sound a b at m h) (λ v. tt)

alone_sound : (a b : ℕ) (at : Spot) (v : Typed) → Inside a b at → Sound a b (alone_rule at v)
alone_sound a b at v h = by (is_none v.ty) where
  by : (c : Bool) → Sound a b (if c then fails at Mistyped else Holds (p.evaluate at.line v.code))
  by true = (h, tt, tt)
  by false = tt

pub once_sound : (a b : ℕ) (name : Name) (twice : Bool) → Inside a b name.spot → Sound a b (once name twice)
once_sound a b name true h = (h, tt, tt)
once_sound a b name false h = tt

pub new_sound : (a b first : ℕ) (names : Scope) (name : Name) → Inside a b name.spot → Sound a b (new_name first names name)
new_sound a b first names name h = once_sound a b name (is_twice first (meaning_in names name.text)) h

condition_rule_sound : (a b : ℕ) (at : Spot) (v : Typed) → Inside a b at → Sound a b (condition_rule at v)
condition_rule_sound a b at v h = if_sound a b at (is_truthy (sort_of v.ty)) v.code h

module _ (context : Context) (names : Scope) where
  option_sound : (before : List (List ℕ)) (a b : ℕ) (e : Option t.Expr) → SpansOption a b e → Sound a b (value_option context names before e)
  option_sound before a b None h = tt
  option_sound before a b (Some e) h = part_sound a b (value context names before e) (λ v. Holds (Some v)) (part_value context names before a b e h) (λ v. tt)

  condition_sound : (before : List (List ℕ)) (a b : ℕ) (e : t.Expr) → Spans a b e → Sound a b (condition context names before e)
  condition_sound before a b e h = part_sound a b (value context names before e) (condition_rule (spot_of e)) (part_value context names before a b e h) (λ v. condition_rule_sound a b (spot_of e) v (spot_inside a b e h))

  condition_option_sound : (before : List (List ℕ)) (a b : ℕ) (e : Option t.Expr) → SpansOption a b e → Sound a b (condition_option context names before e)
  condition_option_sound before a b None h = tt
  condition_option_sound before a b (Some e) h = part_sound a b (condition context names before e) (λ c. Holds (Some c)) (condition_sound before a b e h) (λ c. tt)

  expression_sound : (before : List (List ℕ)) (a b : ℕ) (e : t.Expr) → Spans a b e → Sound a b (expression_alone context names before e)
  expression_sound before a b (t.call name args) h =
      parts_sound a (name.spot.place + 1) b (callee_rule name.spot (meaning_in names name.text)) (values context names before args) (call_statement name.spot)
      (omega (arith, h.0)) (omega (arith, h.1)) (callee_sound a (name.spot.place + 1) name.spot (meaning_in names name.text) (h.0, omega arith)) (values_sound context names before (name.spot.place + 1) b args h.2)
      (λ f vs. call_statement_sound a b name.spot f vs (h.0, h.1))
  expression_sound before a b e h = part_sound a b (value context names before e) (alone_rule (spot_of e)) (part_value context names before a b e h) (λ v. alone_sound a b (spot_of e) v (spot_inside a b e h))

  pub simple_sound : (before : List (List ℕ)) (a b : ℕ) (s : t.Simple) → SpansSimple a b s → Sound a b (simple context names before s)
  simple_sound before a b (t.expression e) h = expression_sound before a b e h
  simple_sound before a b (t.assign at l r) h =
      parts_sound a h.1 b (meant context names before l) (with_part (meant context names (before ++ strings_in l) r) (right_side (spot_of r))) (λ m w. fitting at (assignment context at.line m w)) h.2 h.3
      (meant_sound context names before a h.1 l h.4)
      (part_sound h.1 b (meant context names (before ++ strings_in l) r) (right_side (spot_of r)) (meant_sound context names (before ++ strings_in l) h.1 b r h.5) (λ m. right_sound h.1 b (spot_of r) m (spot_inside h.1 b r h.5)))
      (λ m w. fitting_sound a b at (assignment context at.line m w) h.0)
  simple_sound before a b (t.update at op l r) h =
      parts_sound a h.1 b (meant context names before l) (value context names (before ++ strings_in l) r) (λ m v. fitting at (update_of at.line (spot_of l).line op m v)) h.2 h.3
      (meant_sound context names before a h.1 l h.4) (part_value context names (before ++ strings_in l) h.1 b r h.5) (λ m v. fitting_sound a b at (update_of at.line (spot_of l).line op m v) h.0)
  simple_sound before a b (t.step_after at op l) h =
      part_sound a b (meant context names before l) (λ m. fitting at (update_of at.line (spot_of l).line (step_operator op) m (one at.line))) (meant_sound context names before a b l h.1) (λ m. fitting_sound a b at (update_of at.line (spot_of l).line (step_operator op) m (one at.line)) h.0)
  simple_sound before a b (t.step_before at op l) h =
      part_sound a b (meant context names before l) (λ m. fitting at (update_of at.line (spot_of l).line (step_operator op) m (one at.line))) (meant_sound context names before a b l h.1) (λ m. fitting_sound a b at (update_of at.line (spot_of l).line (step_operator op) m (one at.line)) h.0)

  simple_option_sound : (before : List (List ℕ)) (a b : ℕ) (s : Option t.Simple) → SpansSimpleOption a b s → Sound a b (simple_option context names before s)
  simple_option_sound before a b None h = tt
  simple_option_sound before a b (Some s) h = simple_sound before a b s h

-- a declarator, by what is answered of its base
pub base_answers : (context : Context) (c m : ℕ) (n : Base) → SpansBase c m n → (base_rule context n ≡ Holds tt) ⊎ ((at : Spot) × (c ≤ at.place) × (at.place < m) × SpansBase at.place m n × (base_rule context n ≡ fails at Unknown))
base_answers context c m (base.Struct at name) h = by (place_of (struct_names context) name.text) refl where
  by : (o : Option ℕ) → place_of (struct_names context) name.text ≡ o → (base_rule context (base.Struct at name) ≡ Holds tt) ⊎ ((spot : Spot) × (c ≤ spot.place) × (spot.place < m) × SpansBase spot.place m (base.Struct at name) × (base_rule context (base.Struct at name) ≡ fails spot Unknown))
  by None e = inr (name.spot, h.0, h.1, (omega arith, h.1), ap (λ o. with_part (found name.spot o) (λ k. Holds tt)) e)
  by (Some k) e = inl (ap (λ o. with_part (found name.spot o) (λ k. Holds tt)) e)
base_answers context c m (base.Int at) h = inl refl
base_answers context c m (base.Unsigned at) h = inl refl
base_answers context c m (base.Char at) h = inl refl
base_answers context c m (base.Region at) h = inl refl

pub base_wider : (a b c d : ℕ) (n : Base) → c ≤ a → b ≤ d → SpansBase a b n → SpansBase c d n
base_wider a b c d (base.Struct at name) p q h = let k = h.0 in let l = h.1 in (omega arith, omega arith)
base_wider a b c d (base.Int at) p q h = tt
base_wider a b c d (base.Unsigned at) p q h = tt
base_wider a b c d (base.Char at) p q h = tt
base_wider a b c d (base.Region at) p q h = tt

pub before_wider : (c a k : ℕ) (shared : Option Base) → a ≤ k → Before c a shared → Before c k shared
before_wider c a k None p h = tt
before_wider c a k (Some n) p h = base_wider c a c k n (omega arith) p h

abbrev pub unknown : Spot → Fault
unknown at = record { at = at; refusal = Unknown }

-- a first violation that is an Unknown is the least of all that stand from it on
pub unknown_sound : {A : Type 0} (a b : ℕ) (at : Spot) (x : Judged A) → a ≤ at.place → first_fault x ≡ Some (unknown at) → In at.place b (faults x) → Sound a b x
unknown_sound a b at (Holds v) p e h = absurd cc
unknown_sound a b at (Faulty f fs) p e h =
    let same : f ≡ unknown at = cc in
    let wide = in_wider a at.place b b (f ∷ fs) p (omega arith) h in
    (wide.0, wide.1, subst (λ g. Each (NotAfter g) fs) (sym same) (unknown_first at b fs h.1))

-- a declarator and those behind it, which may share its base
pub group_sound : {A B C : Type 0} (a m b : ℕ) (head : Judged A) (rest : Judged B) (rule : A → B → Judged C) → a ≤ m → m ≤ b →
    (Sound a m head × Sound m b rest) ⊎ ((at : Spot) × (a ≤ at.place) × (first_fault head ≡ Some (unknown at)) × In at.place b (faults head) × In at.place b (faults rest)) →
    ((v : A) (w : B) → Sound a b (rule v w)) → Sound a b (with_parts head rest rule)
group_sound a m b head rest rule p q (inl h) own = parts_sound a m b head rest rule p q h.0 h.1 own
group_sound a m b (Holds v) rest rule p q (inr h) own = absurd (none h.2) where
  none : None ≡ Some (unknown h.0) → ⊥
  none e = cc
group_sound a m b (Faulty f fs) rest rule p q (inr h) own = unknown_sound a b h.0 (with_parts (Faulty f fs) rest rule) h.1 h.2 (h.3.0, in_both h.0.place b fs (faults rest) h.3.1 h.4)

pub first_of_parts : {A B C : Type 0} (x : Judged A) (y : Judged B) (rule : A → B → Judged C) (f : Fault) → x ≡ Faulty f [] → first_fault (with_parts x y rule) ≡ Some f
first_of_parts x y rule f e = ap (λ z. first_fault (with_parts z y rule)) e

module _ (context : Context) where
  abbrev inner : (here : Here) (l : t.Local) → Judged (Unit {0} × Option Typed)
  inner here l = both (new_name here.first here.names l.name) (value_option context (declared context here l).names here.strings l.initial)

  abbrev own : (here : Here) (l : t.Local) → Unit {0} → Unit {0} × Option Typed → Judged p.Stmt
  own here l u v = fitting l.spot (declaration l.spot.line (length here.locals) (local_type context l) v.1)

  inner_sound : (here : Here) (a b : ℕ) (l : t.Local) → SpansDeclarator a b l → Sound a b (inner here l)
  inner_sound here a b l h =
      both_sound a h.1 b (new_name here.first here.names l.name) (value_option context (declared context here l).names here.strings l.initial) h.2 h.3
      (new_sound a h.1 here.first here.names l.name h.4) (option_sound context (declared context here l).names here.strings h.1 b l.initial h.5)

  -- behind a base with which nothing is wrong
  declarator_sound : (here : Here) (a b : ℕ) (l : t.Local) → SpansDeclarator a b l → base_rule context l.type_name.base ≡ Holds tt → Sound a b (local context here l)
  declarator_sound here a b l h e =
      subst (λ x. Sound a b (with_parts x (inner here l) (own here l))) (sym e)
      (part_sound a b (inner here l) (own here l tt) (inner_sound here a b l h) (λ v. fitting_sound a b l.spot (declaration l.spot.line (length here.locals) (local_type context l) v.1) h.0))

  -- wherever its base stands
  declarator_in : (here : Here) (c a b : ℕ) (l : t.Local) → c ≤ a → a ≤ b → SpansBase c b l.type_name.base → SpansDeclarator a b l → In c b (faults (local context here l))
  declarator_in here c a b l p q h k =
      parts_in c b (base_rule context l.type_name.base) (inner here l) (own here l)
      (all_in c b (base_rule context l.type_name.base) (base_sound context c b l.type_name.base h))
      (in_wider c a b b (faults (inner here l)) p (omega arith) (all_in a b (inner here l) (inner_sound here a b l k)))
      (λ u v. all_in c b (own here l u v) (fitting_sound c b l.spot (declaration l.spot.line (length here.locals) (local_type context l) v.1) (omega (arith, k.0.0, p), k.0.1)))

  -- the base of a declarator stands before its end
  pub base_within : (shared : Option Base) (c a b : ℕ) (l : t.Local) → c ≤ a → a ≤ b → Before c a shared → SpansLocal shared a b l → SpansBase c b l.type_name.base
  base_within shared c a b l p q h (with_base m r o k d) = base_wider a m c b l.type_name.base p o k
  base_within None c a b l p q h (behind_another e d) = absurd e
  base_within (Some n) c a b l p q h (behind_another e d) = subst (SpansBase c b) e (base_wider c a c b n (omega arith) q h)

  pub local_in : (here : Here) (shared : Option Base) (c a b : ℕ) (l : t.Local) → c ≤ a → a ≤ b → Before c a shared → SpansLocal shared a b l → In c b (faults (local context here l))
  local_in here shared c a b l p q h (with_base m r o k d) = declarator_in here c m b l (omega arith) o (base_wider a m c b l.type_name.base p o k) d
  local_in here shared c a b l p q h (behind_another e d) = declarator_in here c a b l p q (base_within shared c a b l p q h (behind_another e d)) d

  pub local_sound : (here : Here) (shared : Option Base) (a b : ℕ) (l : t.Local) → BaseHolds context shared → SpansLocal shared a b l → Sound a b (local context here l)
  local_sound here shared a b l h (with_base m r o k d) =
      parts_sound a m b (base_rule context l.type_name.base) (inner here l) (own here l) r o (base_sound context a m l.type_name.base k) (inner_sound here m b l d)
      (λ u v. fitting_sound a b l.spot (declaration l.spot.line (length here.locals) (local_type context l) v.1) (omega (arith, d.0.0, r), d.0.1))
  local_sound here None a b l h (behind_another e d) = absurd e
  local_sound here (Some n) a b l h (behind_another e d) = declarator_sound here a b l d (ap (base_rule context) (sym e) ∙ h)

  -- a declarator and what stands behind it
  pub then_sound : {B C : Type 0} (here : Here) (shared : Option Base) (a m b : ℕ) (l : t.Local) (rest : Judged B) (rule : p.Stmt → B → Judged C) → a ≤ m → m ≤ b → BaseHolds context shared → SpansLocal shared a m l →
      (BaseHolds context (Some l.type_name.base) → Sound m b rest) → ((c : ℕ) → c ≤ m → SpansBase c m l.type_name.base → In c b (faults rest)) → ((v : p.Stmt) (w : B) → Sound a b (rule v w)) → Sound a b (with_parts (local context here l) rest rule)
  then_sound here shared a m b l rest rule p q h (with_base k r o n d) sound low own_sound =
      group_sound a m b (local context here l) rest rule p q (elim (base_answers context a k l.type_name.base n) [
        | inl e ↦ inl (local_sound here shared a m l h (with_base k r o n d), sound e)
        | inr e ↦ inr (
          e.0,
          e.1,
          first_of_parts (base_rule context l.type_name.base) (inner here l) (own here l) (unknown e.0) e.4,
          in_wider e.0.place e.0.place m b (faults (local context here l)) (omega arith) q (declarator_in here e.0.place k m l (omega (arith, e.2)) o (base_wider e.0.place k e.0.place m l.type_name.base (omega arith) o e.3) d),
          low e.0.place (omega (arith, e.2, o)) (base_wider e.0.place k e.0.place m l.type_name.base (omega arith) o e.3),
        )
      ]) own_sound
  then_sound here None a m b l rest rule p q h (behind_another e d) sound low own_sound = absurd e
  then_sound here (Some n) a m b l rest rule p q h (behind_another e d) sound low own_sound =
      parts_sound a m b (local context here l) rest rule p q (local_sound here (Some n) a m l h (behind_another e d)) (sound (ap (base_rule context) (sym e) ∙ h)) own_sound

  pub then_sound_from : {B C : Type 0} (here : Here) (shared : Option Base) (a k m b : ℕ) (l : t.Local) (rest : Judged B) (rule : p.Stmt → B → Judged C) → a ≤ k → k ≤ m → m ≤ b → BaseHolds context shared → SpansLocal shared k m l →
      (BaseHolds context (Some l.type_name.base) → Sound m b rest) → ((c : ℕ) → c ≤ m → SpansBase c m l.type_name.base → In c b (faults rest)) → ((v : p.Stmt) (w : B) → Sound k b (rule v w)) → Sound a b (with_parts (local context here l) rest rule)
  then_sound_from here shared a k m b l rest rule r p q h d sound low own_sound =
      sound_wider a k b b (with_parts (local context here l) rest rule) r (omega arith) (then_sound here shared k m b l rest rule p q h d sound low own_sound)

  -- the declarators of a `for`
  locals_in : (here : Here) (shared : Option Base) (c a b : ℕ) (ls : List t.Local) → c ≤ a → Before c a shared → SpansLocals shared a b ls → In c b (faults (locals context here ls))
  locals_in here shared c a b [] q h k = tt
  locals_in here shared c a b (l ∷ ls) q h k =
      parts_in c b (local context here l) (locals context (behind_local context here l) ls) (λ s rest. Holds (p.then s rest))
      (in_wider c c k.1 b (faults (local context here l)) (omega arith) k.4 (local_in here shared c k.0 k.1 l (omega (arith, q, k.2)) k.3 (before_wider c a k.0 shared k.2 h) k.5))
      (locals_in (behind_local context here l) (Some l.type_name.base) c k.1 b ls (omega (arith, q, k.2, k.3)) (base_within shared c k.0 k.1 l (omega (arith, q, k.2)) k.3 (before_wider c a k.0 shared k.2 h) k.5) k.6)
      (λ v w. tt)

  pub locals_sound : (here : Here) (shared : Option Base) (a b : ℕ) (ls : List t.Local) → BaseHolds context shared → SpansLocals shared a b ls → Sound a b (locals context here ls)
  locals_sound here shared a b [] h k = tt
  locals_sound here shared a b (l ∷ ls) h k =
      then_sound_from here shared a k.0 k.1 b l (locals context (behind_local context here l) ls) (λ s rest. Holds (p.then s rest)) k.2 k.3 k.4 h k.5
      (λ e. locals_sound (behind_local context here l) (Some l.type_name.base) k.1 b ls e k.6) (λ c q n. locals_in (behind_local context here l) (Some l.type_name.base) c k.1 b ls q n k.6) (λ v w. tt)

  start_sound : (here : Here) (a b : ℕ) (start : t.ForStart) → SpansStart a b start → Sound a b (for_start context here start)
  start_sound here a b t.nothing h = tt
  start_sound here a b (t.simply s) h = simple_sound context here.names here.strings a b s h
  start_sound here a b (t.locals ls) h = part_sound a b (locals context here ls) (λ body. Holds (p.block body)) (locals_sound here None a b ls tt h) (λ body. tt)

-- what a statement needs so that its violations stand in order: a declarator, that its shared base holds
abbrev pub Allowed : Context → Option Base → t.Stmt → Type 0
Allowed context shared (t.local l) = BaseHolds context shared
Allowed context shared s = Unit {0}

allowed_alone : (context : Context) (s : t.Stmt) → Allowed context None s
allowed_alone context (t.local l) = tt
allowed_alone context s = tt

loop_sound : {A : Type 0} (a b : ℕ) (at : Spot) (loop : Bool) (v : A) → Inside a b at → Sound a b (if loop then Holds v else fails at Mistyped)
loop_sound a b at true v h = tt
loop_sound a b at false v h = (h, tt, tt)

module _ (context : Context) (gives : Option Ty) where
  mutual
    pub stmt_sound : (loop : Bool) (here : Here) (shared : Option Base) (a b : ℕ) (s : t.Stmt) → Allowed context shared s → SpansStmt shared a b s → Sound a b (stmt context gives loop here s)
    stmt_sound loop here shared a b (t.local l) k h = local_sound context here shared a b l k h
    stmt_sound loop here shared a b (t.block at body) k h =
        part_sound a b (stmts context gives loop (inside here) body) (λ c. Holds (p.block c)) (sound_wider a h.0 h.1 b (stmts context gives loop (inside here) body) h.2 h.3 (stmts_sound loop (inside here) None h.0 h.1 body tt h.4)) (λ c. tt)
    stmt_sound loop here shared a b (t.empty at) k h = tt
    stmt_sound loop here shared a b (t.simple at s) k h = simple_sound context here.names here.strings a b s h
    stmt_sound loop here shared a b (t.if_then at c x) k h =
        parts_sound a h.0 b (condition context here.names here.strings c) (stmt context gives loop (behind here c) x) (λ test yes. Holds (p.branch at.line test yes (p.block p.done))) h.1 h.2
        (condition_sound context here.names here.strings a h.0 c h.3) (stmt_sound loop (behind here c) None h.0 b x (allowed_alone context x) h.4) (λ v w. tt)
    stmt_sound loop here shared a b (t.if_else at c x y) k h =
        parts_sound a h.0 b (condition context here.names here.strings c) (both (stmt context gives loop (behind here c) x) (stmt context gives loop (behind_stmt context (behind here c) x) y)) (λ test arms. Holds (p.branch at.line test arms.0 arms.1)) h.1 (omega (arith, h.4, h.5, h.6))
        (condition_sound context here.names here.strings a h.0 c h.7)
        (both_sound h.0 h.2 b (stmt context gives loop (behind here c) x) (stmt context gives loop (behind_stmt context (behind here c) x) y) h.4 (omega (arith, h.5, h.6))
        (stmt_sound loop (behind here c) None h.0 h.2 x (allowed_alone context x) h.8)
        (sound_wider h.2 h.3 b b (stmt context gives loop (behind_stmt context (behind here c) x) y) h.5 (omega arith) (stmt_sound loop (behind_stmt context (behind here c) x) None h.3 b y (allowed_alone context y) h.9)))
        (λ v w. tt)
    stmt_sound loop here shared a b (t.while_do at c x) k h =
        parts_sound a h.0 b (condition context here.names here.strings c) (stmt context gives true (behind here c) x) (λ test body. Holds (p.while at.line test body)) h.1 h.2
        (condition_sound context here.names here.strings a h.0 c h.3) (stmt_sound true (behind here c) None h.0 b x (allowed_alone context x) h.4) (λ v w. tt)
    stmt_sound loop here shared a b (t.do_while at x c) k h =
        parts_sound a h.1 b (stmt context gives true here x) (condition context (behind_stmt context here x).names (behind_stmt context here x).strings c) (λ body test. Holds (p.repeat at.line body test)) (omega (arith, h.2, h.3)) h.4
        (sound_wider a h.0 h.1 h.1 (stmt context gives true here x) h.2 (omega arith) (stmt_sound true here None h.0 h.1 x (allowed_alone context x) h.5))
        (condition_sound context (behind_stmt context here x).names (behind_stmt context here x).strings h.1 b c h.6) (λ v w. tt)
    stmt_sound loop here shared a b (t.for_do at start c next x) k h =
        let first = inside here in
        let two = behind_start context first start in
        let three = behind_option two c in
        let four = behind_simple_option three next in
        parts_sound a h.4 b (both (for_start context first start) (condition_option context two.names two.strings c)) (both (simple_option context three.names three.strings next) (stmt context gives true four x)) (λ head rest. Holds (p.for at.line head.0 head.1 rest.0 rest.1))
        (omega (arith, h.1, h.3, h.5)) (omega (arith, h.7, h.8))
        (both_sound a h.2 h.4 (for_start context first start) (condition_option context two.names two.strings c) (omega (arith, h.1, h.3)) h.5
        (sound_wider a h.0 h.2 h.2 (for_start context first start) h.1 (omega arith) (start_sound context first h.0 h.2 start h.9)) (condition_option_sound context two.names two.strings h.2 h.4 c h.10))
        (both_sound h.4 h.6 b (simple_option context three.names three.strings next) (stmt context gives true four x) h.7 h.8
        (simple_option_sound context three.names three.strings h.4 h.6 next h.11) (stmt_sound true four None h.6 b x (allowed_alone context x) h.12))
        (λ v w. tt)
    stmt_sound loop here shared a b (t.break_loop at) k h = loop_sound a b at loop (p.break at.line) h
    stmt_sound loop here shared a b (t.continue_loop at) k h = loop_sound a b at loop (p.continue at.line) h
    stmt_sound loop here shared a b (t.return_with at e) k h =
        part_sound a b (value_option context here.names here.strings e) (λ v. fitting at (returned at.line gives v)) (option_sound context here.names here.strings a b e h.1) (λ v. fitting_sound a b at (returned at.line gives v) h.0)

    stmts_in : (loop : Bool) (here : Here) (shared : Option Base) (c a b : ℕ) (ss : t.Stmts) → c ≤ a → Before c a shared → SpansStmts shared a b ss → In c b (faults (stmts context gives loop here ss))
    stmts_in loop here shared c a b t.done p h k = tt
    stmts_in loop here shared c a b (t.next (t.local l) rest) q h k =
        parts_in c b (local context here l) (stmts context gives loop (behind_stmt context here (t.local l)) rest) (λ v w. Holds (p.then v w))
        (in_wider c c k.1 b (faults (local context here l)) (omega arith) k.4 (local_in context here shared c k.0 k.1 l (omega (arith, q, k.2)) k.3 (before_wider c a k.0 shared k.2 h) k.5))
        (stmts_in loop (behind_stmt context here (t.local l)) (Some l.type_name.base) c k.1 b rest (omega (arith, q, k.2, k.3)) (base_within context shared c k.0 k.1 l (omega (arith, q, k.2)) k.3 (before_wider c a k.0 shared k.2 h) k.5) k.6)
        (λ v w. tt)
    stmts_in loop here shared c a b (t.next s rest) q h k =
        parts_in c b (stmt context gives loop here s) (stmts context gives loop (behind_stmt context here s) rest) (λ v w. Holds (p.then v w))
        (in_wider c k.0 k.1 b (faults (stmt context gives loop here s)) (omega (arith, q, k.2)) k.4 (all_in k.0 k.1 (stmt context gives loop here s) (stmt_sound loop here shared k.0 k.1 s tt k.5)))
        (stmts_in loop (behind_stmt context here s) None c k.1 b rest (omega (arith, q, k.2, k.3)) tt k.6) (λ v w. tt)

    pub stmts_sound : (loop : Bool) (here : Here) (shared : Option Base) (a b : ℕ) (ss : t.Stmts) → BaseHolds context shared → SpansStmts shared a b ss → Sound a b (stmts context gives loop here ss)
    stmts_sound loop here shared a b t.done h k = tt
    stmts_sound loop here shared a b (t.next (t.local l) rest) h k =
        then_sound_from context here shared a k.0 k.1 b l (stmts context gives loop (behind_stmt context here (t.local l)) rest) (λ v w. Holds (p.then v w)) k.2 k.3 k.4 h k.5
        (λ e. stmts_sound loop (behind_stmt context here (t.local l)) (Some l.type_name.base) k.1 b rest e k.6)
        (λ c q n. stmts_in loop (behind_stmt context here (t.local l)) (Some l.type_name.base) c k.1 b rest q n k.6) (λ v w. tt)
    stmts_sound loop here shared a b (t.next s rest) h k =
        parts_sound a k.1 b (stmt context gives loop here s) (stmts context gives loop (behind_stmt context here s) rest) (λ v w. Holds (p.then v w)) (omega (arith, k.2, k.3)) k.4
        (sound_wider a k.0 k.1 k.1 (stmt context gives loop here s) k.2 (omega arith) (stmt_sound loop here shared k.0 k.1 s tt k.5))
        (stmts_sound loop (behind_stmt context here s) None k.1 b rest tt k.6) (λ v w. tt)
