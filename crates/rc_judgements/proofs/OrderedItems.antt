-- The rules of what stands outside of functions: where their violations stand.
use Rattle.std.specs.Prelude.{◌≡◌, ◌⊎◌, ℕ, ◌+◌, ◌<◌, ◌≤◌, List, [], ◌∷◌, ◌++◌, Option, Some, None, Bool, true, false, ◌&&◌, ◌||◌, nat_eq, nat_lt, is_some, is_none, if◌then◌else◌}
use Rattle.std.proofs.Common.{refl, sym, ap, ◌∙◌, subst, inl, inr, arith}
use Rattle.std.proofs.lemmas.Bool.Decides.{eqb_tells}
use Rattle.rc_syntax.specs.declared.tree.Spot.{Spot}
use Rattle.rc_syntax.specs.declared.tree.Name.{Name}
use Rattle.rc_syntax.specs.declared.tree.Note.{Note as WrittenNote}
use Rattle.rc_syntax.specs.declared.tree.Base.{Base}
use Rattle.rc_syntax.specs.declared.tree.Base.TheVariants as base
use Rattle.rc_syntax.specs.declared.tree.Constant.{Constant}
use Rattle.rc_syntax.specs.Tree as t
use Rattle.rc_core.specs.Programs as p
use Rattle.rc_core.specs.Typing.{is_struct}
use Rattle.rc_deletes.specs.declared.fault.Fault.{Fault}
use Rattle.rc_deletes.specs.declared.fault.Refusal.TheVariants.{Unknown, Mistyped, TooBig}
use Rattle.rc_deletes.specs.Judged.{Judged, Holds, Faulty, faults, first_fault, with_part, with_parts, in_front, both, fails, failing, ruled}
use Rattle.rc_deletes.specs.Kinds.{place_of, written_type}
use Rattle.rc_deletes.specs.Scopes.{Context, struct_names, Meaning, a_local, a_global, a_function, a_builtin, Signature, meaning_in}
use Rattle.rc_deletes.specs.Expressions.{found, base_rule}
use Rattle.rc_deletes.specs.Statements.{Here, stmts}
use Rattle.rc_deletes.specs.Items.{same_struct, field_by_value, global_by_value, shared_rule, is_among, Outside, is_defined_before, cells_of_global, type_option, signature_of, with_function, with_param, with_params, before_params, behind_body, behind_item, value_base, cell_type, is_empty, once, field_rule, fields_rule, cells_of_struct, initial_of, Made, nothing_made, made_both, global_made, agrees, agrees_with, declared_again, function_name, param_name, param_rule, params_rule, result_rule, is_struct_option, head_rule, function_made, item, items, context_of, at_the_start, program_of, judged, IsAmong}
use Rattle.rc_deletes.specs.Order.{NotAfter, IsLeast}
use Rattle.std.specs.Str.{bytes_eq}
use Rattle.rc_deletes.proofs.Naming.{own_name}
use Rattle.rc_judgements.proofs.Ordered.{Each, Inside, In, Sound, all_in, in_wider, in_both, sound_wider, part_sound, parts_sound, both_sound, parts_in, ruled_one, ruled_two}
use Rattle.rc_judgements.proofs.OrderedExpressions.{SpansBase, base_sound}
use Rattle.rc_judgements.proofs.OrderedStatements.{SpansStmts, once_sound, new_sound, base_answers, base_wider, unknown, unknown_sound, group_sound, first_of_parts, stmts_sound}

-- a field's or a global's declarator with its base, or behind another one that shares its base
abbrev pub Shares : Option t.TypeName → t.TypeName → Type 0
Shares None n = ⊥
Shares (Some m) n = m.base ≡ n.base

pub data SpansTyped (shared : Option t.TypeName) (a b : ℕ) (at : Spot) (n : t.TypeName) (name : Name) : Type 0 where
  with_base : (m : ℕ) → a ≤ m → m ≤ b → SpansBase a m n.base → Inside m b at → Inside m b name.spot → SpansTyped shared a b at n name
  behind_another : Shares shared n → Inside a b at → Inside a b name.spot → SpansTyped shared a b at n name

abbrev pub SpansFields : Option t.TypeName → ℕ → ℕ → List t.Field → Type 0
SpansFields shared a b [] = Unit {0}
SpansFields shared a b (f ∷ fs) = (k : ℕ) × (m : ℕ) × (a ≤ k) × (k ≤ m) × (m ≤ b) × SpansTyped shared k m f.spot f.type_name f.name × SpansFields (Some f.type_name) m b fs

abbrev pub SpansName : ℕ → ℕ → Option Name → Type 0
SpansName a b None = Unit {0}
SpansName a b (Some name) = Inside a b name.spot

abbrev pub SpansParam : ℕ → ℕ → t.Param → Type 0
SpansParam a b q = Inside a b q.spot × (m : ℕ) × (a ≤ m) × (m ≤ b) × SpansBase a m q.type_name.base × SpansName m b q.name

abbrev pub SpansParams : ℕ → ℕ → List t.Param → Type 0
SpansParams a b [] = Unit {0}
SpansParams a b (q ∷ qs) = (k : ℕ) × (m : ℕ) × (a ≤ k) × (k ≤ m) × (m ≤ b) × SpansParam k m q × SpansParams m b qs

abbrev pub SpansResult : ℕ → ℕ → Option t.TypeName → Type 0
SpansResult a b None = Unit {0}
SpansResult a b (Some n) = SpansBase a b n.base

abbrev pub SpansBody : ℕ → ℕ → Option t.Stmts → Type 0
SpansBody a b None = Unit {0}
SpansBody a b (Some body) = (c : ℕ) × (d : ℕ) × (a ≤ c) × (d ≤ b) × SpansStmts None c d body

abbrev pub type_behind : t.Item → Option t.TypeName
type_behind (t.global at n name count c) = Some n
type_behind i = None

abbrev pub SpansItem : Option t.TypeName → ℕ → ℕ → t.Item → Type 0
SpansItem shared a b (t.struct at name fields) = Inside a b at × (m : ℕ) × (a ≤ m) × (m ≤ b) × Inside a m name.spot × SpansFields None m b fields
SpansItem shared a b (t.global at n name count c) = SpansTyped shared a b at n name
SpansItem shared a b (t.function at deletes result name params body) =
    Inside a b at × (k : ℕ) × (a ≤ k) × (m : ℕ) × (k ≤ m) × (o : ℕ) × (m ≤ o) × (o ≤ b) × SpansResult a k result × Inside k m name.spot × SpansParams m o params × SpansBody o b body

abbrev pub SpansItems : Option t.TypeName → ℕ → ℕ → List t.Item → Type 0
SpansItems shared a b [] = Unit {0}
SpansItems shared a b (i ∷ is) = (k : ℕ) × (m : ℕ) × (a ≤ k) × (k ≤ m) × (m ≤ b) × SpansItem shared k m i × SpansItems (type_behind i) m b is

-- where a base that is shared stands, and whether nothing is wrong with it
abbrev pub Before : ℕ → ℕ → Option t.TypeName → Type 0
Before c a None = Unit {0}
Before c a (Some n) = SpansBase c a n.base

before_wider : (c a k : ℕ) (shared : Option t.TypeName) → a ≤ k → Before c a shared → Before c k shared
before_wider c a k None p h = tt
before_wider c a k (Some n) p h = base_wider c a c k n.base (omega arith) p h

-- where a struct that declarators share is looked at, and whether one of those to come has it by value
abbrev pub GroupHolds : Context → ℕ → Option t.TypeName → (Base → Bool) → Type 0
GroupHolds context k None by_value = Unit {0}
GroupHolds context k (Some n) by_value = (base_rule context n.base ≡ Holds tt) × (by_value n.base ≡ true → value_base context k n.base ≡ Holds tt)

-- the base of a field or a global, with or without stars
abbrev pub cell_of : Context → ℕ → Base → List WrittenNote → Judged (Unit {0})
cell_of context k b stars = elim stars [ [] ↦ value_base context k b | note ∷ notes ↦ base_rule context b ]

value_sound : (context : Context) (k a b : ℕ) (n : Base) → SpansBase a b n → Sound a b (value_base context k n)
value_sound context k a b (base.Struct at name) h = by (is_defined_before k (place_of (struct_names context) name.text)) where
  by : (c : Bool) → Sound {A = Unit {0}} a b (if c then Holds tt else fails name.spot Unknown)
  by true = tt
  by false = (h, tt, tt)
value_sound context k a b n h = tt

cell_sound : (context : Context) (k a b : ℕ) (n : t.TypeName) → SpansBase a b n.base → Sound a b (cell_type context k n)
cell_sound context k a b n h = by n.stars where
  by : (stars : List WrittenNote) → Sound a b (cell_of context k n.base stars)
  by [] = value_sound context k a b n.base h
  by (note ∷ notes) = base_sound context a b n.base h

value_answers : (context : Context) (k c m : ℕ) (n : Base) → SpansBase c m n → (value_base context k n ≡ Holds tt) ⊎ ((at : Spot) × (c ≤ at.place) × (at.place < m) × SpansBase at.place m n × (value_base context k n ≡ fails at Unknown))
value_answers context k c m (base.Struct at name) h = by (is_defined_before k (place_of (struct_names context) name.text)) refl where
  by : (d : Bool) → is_defined_before k (place_of (struct_names context) name.text) ≡ d → (value_base context k (base.Struct at name) ≡ Holds tt) ⊎ ((spot : Spot) × (c ≤ spot.place) × (spot.place < m) × SpansBase spot.place m (base.Struct at name) × (value_base context k (base.Struct at name) ≡ fails spot Unknown))
  by true e = inl (ap (λ d. if d then Holds tt else fails name.spot Unknown) e)
  by false e = inr (name.spot, h.0, h.1, (omega arith, h.1), ap (λ d. if d then Holds tt else fails name.spot Unknown) e)
value_answers context k c m (base.Int at) h = inl refl
value_answers context k c m (base.Unsigned at) h = inl refl
value_answers context k c m (base.Char at) h = inl refl
value_answers context k c m (base.Region at) h = inl refl

cell_answers : (context : Context) (k c m : ℕ) (n : t.TypeName) → SpansBase c m n.base → (cell_type context k n ≡ Holds tt) ⊎ ((at : Spot) × (c ≤ at.place) × (at.place < m) × SpansBase at.place m n.base × (cell_type context k n ≡ fails at Unknown))
cell_answers context k c m n h = by n.stars where
  by : (stars : List WrittenNote) → (cell_of context k n.base stars ≡ Holds tt) ⊎ ((at : Spot) × (c ≤ at.place) × (at.place < m) × SpansBase at.place m n.base × (cell_of context k n.base stars ≡ fails at Unknown))
  by [] = value_answers context k c m n.base h
  by (note ∷ notes) = base_answers context c m n.base h

-- a struct that holds by value holds behind a pointer
defined_somewhere : (k : ℕ) (o : Option ℕ) → is_defined_before k o ≡ true → (j : ℕ) × (o ≡ Some j)
defined_somewhere k None h = absurd cc
defined_somewhere k (Some j) h = (j, refl)

value_then_base : (context : Context) (k : ℕ) (n : Base) → value_base context k n ≡ Holds tt → base_rule context n ≡ Holds tt
value_then_base context k (base.Struct at name) h = by (is_defined_before k (place_of (struct_names context) name.text)) refl where
  held : (d : Bool) → is_defined_before k (place_of (struct_names context) name.text) ≡ d → d ≡ true → base_rule context (base.Struct at name) ≡ Holds tt
  held d e q = let x = defined_somewhere k (place_of (struct_names context) name.text) (e ∙ q) in ap (λ o. with_part (found name.spot o) (λ j. Holds tt)) x.1

  by : (d : Bool) → is_defined_before k (place_of (struct_names context) name.text) ≡ d → base_rule context (base.Struct at name) ≡ Holds tt
  by true e = held true e refl
  by false e = absurd (never (sym (ap (λ d. if d then Holds tt else fails name.spot Unknown) e) ∙ h)) where
    never : fails {A = Unit {0}} name.spot Unknown ≡ Holds tt → ⊥
    never q = cc
value_then_base context k (base.Int at) h = refl
value_then_base context k (base.Unsigned at) h = refl
value_then_base context k (base.Char at) h = refl
value_then_base context k (base.Region at) h = refl

and_true : (a b : Bool) → a ≡ true → b ≡ true → (a && b) ≡ true
and_true true b h k = k
and_true false b h k = absurd cc

same_place : (n : ℕ) → nat_eq n n ≡ true
same_place n = elim (eqb_tells n n) [ inl k ↦ k.0 | inr k ↦ absurd (k.1 refl) ]

same_itself : (at : Spot) (name : Name) → same_struct (base.Struct at name) (base.Struct at name) ≡ true
same_itself at name = and_true (nat_eq name.spot.place name.spot.place) (bytes_eq name.text name.text) (same_place name.spot.place) (own_name name.text)

abbrev plain_in : List WrittenNote → Bool
plain_in stars = elim stars [ [] ↦ true | note ∷ notes ↦ false ]

-- a cell's type holds only where its base does
cell_then_base : (context : Context) (k : ℕ) (n : Base) (stars : List WrittenNote) → cell_of context k n stars ≡ Holds tt → base_rule context n ≡ Holds tt
cell_then_base context k n [] h = value_then_base context k n h
cell_then_base context k n (x ∷ xs) h = h

value_where : (context : Context) (k : ℕ) (n : Base) → (same_struct n n ≡ true → value_base context k n ≡ Holds tt) → value_base context k n ≡ Holds tt
value_where context k (base.Struct at name) h = h (same_itself at name)
value_where context k (base.Int at) h = refl
value_where context k (base.Unsigned at) h = refl
value_where context k (base.Char at) h = refl
value_where context k (base.Region at) h = refl

-- a declarator behind another one that shares its base
known_here : (context : Context) (k : ℕ) (n : Base) (stars : List WrittenNote) (later : Bool) → base_rule context n ≡ Holds tt → ((same_struct n n && (plain_in stars || later)) ≡ true → value_base context k n ≡ Holds tt) → (cell_of context k n stars ≡ Holds tt) × (shared_rule context k n later ≡ Holds tt)
known_here context k n [] false b v = (value_where context k n (λ e. v (and_true (same_struct n n) true e refl)), refl)
known_here context k n [] true b v = let h = value_where context k n (λ e. v (and_true (same_struct n n) true e refl)) in (h, h)
known_here context k n (x ∷ xs) false b v = (b, refl)
known_here context k n (x ∷ xs) true b v = (b, value_where context k n (λ e. v (and_true (same_struct n n) true e refl)))

known_at : (context : Context) (k : ℕ) (before : Base) (n : Base) (stars : List WrittenNote) (later : Base → Bool) → before ≡ n → base_rule context before ≡ Holds tt → ((same_struct before n && (plain_in stars || later before)) ≡ true → value_base context k before ≡ Holds tt) →
    (cell_of context k n stars ≡ Holds tt) × (shared_rule context k n (later n) ≡ Holds tt)
known_at context k before n stars later e b v =
    known_here context k n stars (later n) (subst (λ x. base_rule context x ≡ Holds tt) e b) (subst (λ x. (same_struct x n && (plain_in stars || later x)) ≡ true → value_base context k x ≡ Holds tt) e v)

shared_sound : (context : Context) (k a b : ℕ) (n : Base) (by_value : Bool) → SpansBase a b n → Sound a b (shared_rule context k n by_value)
shared_sound context k a b n false h = tt
shared_sound context k a b n true h = value_sound context k a b n h

shared_answers : (context : Context) (k c m : ℕ) (n : Base) (by_value : Bool) → SpansBase c m n → (shared_rule context k n by_value ≡ Holds tt) ⊎ ((at : Spot) × (c ≤ at.place) × (at.place < m) × SpansBase at.place m n × (shared_rule context k n by_value ≡ fails at Unknown))
shared_answers context k c m n false h = inl refl
shared_answers context k c m n true h = value_answers context k c m n h

front_in : {A B : Type 0} (a b : ℕ) (x : Judged A) (y : Judged B) → In a b (faults x) → In a b (faults y) → In a b (faults (in_front x y))
front_in a b (Holds v) y h k = k
front_in a b (Faulty f fs) y h k = (h.0, in_both a b fs (faults y) h.1 k)

front_first : {A B : Type 0} (x : Judged A) (y : Judged B) (f : Fault) → x ≡ Faulty f [] → first_fault (in_front x y) ≡ Some f
front_first x y f e = ap (λ z. first_fault (in_front z y)) e

base_of_typed : (shared : Option t.TypeName) (c a b : ℕ) (at : Spot) (n : t.TypeName) (name : Name) → c ≤ a → a ≤ b → Before c a shared → SpansTyped shared a b at n name → SpansBase c b n.base
base_of_typed shared c a b at n name p q h (with_base m r o k d e) = base_wider a m c b n.base p o k
base_of_typed None c a b at n name p q h (behind_another e d f) = absurd e
base_of_typed (Some m) c a b at n name p q h (behind_another e d f) = subst (SpansBase c b) e (base_wider c a c b m.base (omega arith) q h)

-- a declarator by the judgement of its base, of its name, and its own
module _ (context : Context) (k : ℕ) where
  typed_in : {A : Type 0} (shared : Option t.TypeName) (c a b : ℕ) (at : Spot) (n : t.TypeName) (name : Name) (twice : Bool) (rule : Unit {0} → Unit {0} → Judged A) → c ≤ a → a ≤ b → Before c a shared → SpansTyped shared a b at n name →
      ((u v : Unit {0}) (x y : ℕ) → Inside x y at → Sound x y (rule u v)) → In c b (faults (with_parts (cell_type context k n) (once name twice) rule))
  typed_in shared c a b at n name twice rule p q h d own =
      parts_in c b (cell_type context k n) (once name twice) rule
      (all_in c b (cell_type context k n) (cell_sound context k c b n (base_of_typed shared c a b at n name p q h d)))
      (all_in c b (once name twice) (once_sound c b name twice (name_place d)))
      (λ u v. all_in c b (rule u v) (own u v c b (own_place d)))
    where
      name_place : SpansTyped shared a b at n name → Inside c b name.spot
      name_place (with_base m r o k d e) = (omega (arith, e.0, p, r), e.1)
      name_place (behind_another e d f) = (omega (arith, f.0, p), f.1)

      own_place : SpansTyped shared a b at n name → Inside c b at
      own_place (with_base m r o k d e) = (omega (arith, d.0, p, r), d.1)
      own_place (behind_another e d f) = (omega (arith, d.0, p), d.1)

  typed_sound : {A : Type 0} (shared : Option t.TypeName) (a b : ℕ) (at : Spot) (n : t.TypeName) (name : Name) (twice : Bool) (rule : Unit {0} → Unit {0} → Judged A) → (Shares shared n → cell_type context k n ≡ Holds tt) → SpansTyped shared a b at n name →
      ((u v : Unit {0}) (x y : ℕ) → Inside x y at → Sound x y (rule u v)) → Sound a b (with_parts (cell_type context k n) (once name twice) rule)
  typed_sound shared a b at n name twice rule known (with_base m r o s d e) own =
      parts_sound a m b (cell_type context k n) (once name twice) rule r o (cell_sound context k a m n s) (once_sound m b name twice e) (λ u v. own u v a b (omega (arith, d.0, r), d.1))
  typed_sound shared a b at n name twice rule known (behind_another e d g) own =
      subst (λ x. Sound a b (with_parts x (once name twice) rule)) (sym (known e))
      (part_sound a b (once name twice) (rule tt) (once_sound a b name twice g) (λ v. own tt v a b d))

  -- a declarator and what stands behind it
  typed_then : {A B C : Type 0} (shared : Option t.TypeName) (a j m b : ℕ) (at : Spot) (n : t.TypeName) (name : Name) (twice by_value : Bool) (rule : Unit {0} → Unit {0} → Judged A) (rest : Judged B) (last : A → B → Judged C) → a ≤ j → j ≤ m → m ≤ b →
      (Shares shared n → (cell_type context k n ≡ Holds tt) × (shared_rule context k n.base by_value ≡ Holds tt)) → SpansTyped shared j m at n name → ((u v : Unit {0}) (x y : ℕ) → Inside x y at → Sound x y (rule u v)) →
      (cell_type context k n ≡ Holds tt → shared_rule context k n.base by_value ≡ Holds tt → Sound m b rest) → ((c : ℕ) → c ≤ m → SpansBase c m n.base → In c b (faults rest)) → ((v : A) (w : B) (x y : ℕ) → Sound x y (last v w)) →
      Sound a b (in_front (shared_rule context k n.base by_value) (with_parts (with_parts (cell_type context k n) (once name twice) rule) rest last))
  typed_then shared a j m b at n name twice by_value rule rest last i p q known (with_base l r o s d e) own sound low ends =
      let head = with_parts (cell_type context k n) (once name twice) rule in
      let whole = with_parts head rest last in
      elim (shared_answers context k j l n.base by_value s) [
        | inl f ↦
            subst (λ x. Sound a b (in_front x whole)) (sym f) (group_sound a m b head rest last (omega (arith, i, p)) q (elim (cell_answers context k j l n s) [
              | inl g ↦ inl (sound_wider a j m m head i (omega arith) (typed_sound shared j m at n name twice rule (λ h. (known h).0) (with_base l r o s d e) own), sound g f)
              | inr g ↦ inr (
                g.0,
                omega (arith, g.1, i),
                first_of_parts (cell_type context k n) (once name twice) rule (unknown g.0) g.4,
                in_wider g.0.place g.0.place m b (faults head) (omega arith) q (typed_in (Some n) g.0.place l m at n name twice rule (omega (arith, g.2)) o g.3 (behind_another refl d e) own),
                low g.0.place (omega (arith, g.2, o)) (base_wider g.0.place l g.0.place m n.base (omega arith) o g.3),
              )
            ]) (λ v w. ends v w a b))
        | inr g ↦
            unknown_sound a b g.0 (in_front (shared_rule context k n.base by_value) whole) (omega (arith, g.1, i)) (front_first (shared_rule context k n.base by_value) whole (unknown g.0) g.4)
            (front_in g.0.place b (shared_rule context k n.base by_value) whole
            (in_wider g.0.place g.0.place l b (faults (shared_rule context k n.base by_value)) (omega arith) (omega (arith, o, q)) (all_in g.0.place l (shared_rule context k n.base by_value) (shared_sound context k g.0.place l n.base by_value g.3)))
            (parts_in g.0.place b head rest last
            (in_wider g.0.place g.0.place m b (faults head) (omega arith) q (typed_in (Some n) g.0.place l m at n name twice rule (omega (arith, g.2)) o g.3 (behind_another refl d e) own))
            (low g.0.place (omega (arith, g.2, o)) (base_wider g.0.place l g.0.place m n.base (omega arith) o g.3))
            (λ v w. all_in g.0.place b (last v w) (ends v w g.0.place b))))
      ]
  typed_then shared a j m b at n name twice by_value rule rest last i p q known (behind_another e d g) own sound low ends =
      let head = with_parts (cell_type context k n) (once name twice) rule in
      let h = known e in
      subst (λ x. Sound a b (in_front x (with_parts head rest last))) (sym h.1)
      (parts_sound a m b head rest last (omega (arith, i, p)) q (sound_wider a j m m head i (omega arith) (typed_sound shared j m at n name twice rule (λ f. (known f).0) (behind_another e d g) own))
      (sound h.0 h.1) (λ v w. ends v w a b))

  next_holds : (n : t.TypeName) (later : Base → Bool) → cell_type context k n ≡ Holds tt → shared_rule context k n.base (later n.base) ≡ Holds tt → GroupHolds context k (Some n) later
  next_holds n later c r = (cell_then_base context k n.base n.stars c, λ e. subst (λ f. shared_rule context k n.base f ≡ Holds tt) e r)

  -- fields
  abbrev field_own : (f : t.Field) → Unit {0} → Unit {0} → Judged (Unit {0})
  field_own f u v = ruled f.spot (failing (is_empty f.length) TooBig) tt

  fields_in : (shared : Option t.TypeName) (earlier : List (List ℕ)) (c a b : ℕ) (fs : List t.Field) → c ≤ a → Before c a shared → SpansFields shared a b fs → In c b (faults (fields_rule context k earlier fs))
  fields_in shared earlier c a b [] p h s = tt
  fields_in shared earlier c a b (f ∷ fs) p h s =
      let head = field_rule context k earlier f in
      let there = base_of_typed shared c s.0 s.1 f.spot f.type_name f.name (omega (arith, p, s.2)) s.3 (before_wider c a s.0 shared s.2 h) s.5 in
      front_in c b (shared_rule context k f.type_name.base (field_by_value f.type_name.base fs)) (with_parts head (fields_rule context k (earlier ++ f.name.text ∷ []) fs) (λ u v. Holds tt))
      (in_wider c c s.1 b (faults (shared_rule context k f.type_name.base (field_by_value f.type_name.base fs))) (omega arith) s.4 (all_in c s.1 (shared_rule context k f.type_name.base (field_by_value f.type_name.base fs)) (shared_sound context k c s.1 f.type_name.base (field_by_value f.type_name.base fs) there)))
      (parts_in c b head (fields_rule context k (earlier ++ f.name.text ∷ []) fs) (λ u v. Holds tt)
      (in_wider c c s.1 b (faults head) (omega arith) s.4 (typed_in shared c s.0 s.1 f.spot f.type_name f.name (is_among earlier f.name.text) (field_own f) (omega (arith, p, s.2)) s.3 (before_wider c a s.0 shared s.2 h) s.5 (λ u v x y i. ruled_one x y f.spot (is_empty f.length) TooBig tt i)))
      (fields_in (Some f.type_name) (earlier ++ f.name.text ∷ []) c s.1 b fs (omega (arith, p, s.2, s.3)) there s.6)
      (λ u v. tt))

  field_known : (shared : Option t.TypeName) (f : t.Field) (fs : List t.Field) → GroupHolds context k shared (λ n. field_by_value n (f ∷ fs)) → Shares shared f.type_name → (cell_type context k f.type_name ≡ Holds tt) × (shared_rule context k f.type_name.base (field_by_value f.type_name.base fs) ≡ Holds tt)
  field_known None f fs h e = absurd e
  field_known (Some m) f fs h e = known_at context k m.base f.type_name.base f.type_name.stars (λ n. field_by_value n fs) e h.0 h.1

  fields_sound : (shared : Option t.TypeName) (earlier : List (List ℕ)) (a b : ℕ) (fs : List t.Field) → GroupHolds context k shared (λ n. field_by_value n fs) → SpansFields shared a b fs → Sound a b (fields_rule context k earlier fs)
  fields_sound shared earlier a b [] h s = tt
  fields_sound shared earlier a b (f ∷ fs) h s =
      typed_then shared a s.0 s.1 b f.spot f.type_name f.name (is_among earlier f.name.text) (field_by_value f.type_name.base fs) (field_own f) (fields_rule context k (earlier ++ f.name.text ∷ []) fs) (λ u v. Holds tt) s.2 s.3 s.4
      (field_known shared f fs h) s.5 (λ u v x y i. ruled_one x y f.spot (is_empty f.length) TooBig tt i)
      (λ c r. fields_sound (Some f.type_name) (earlier ++ f.name.text ∷ []) s.1 b fs (next_holds f.type_name (λ n. field_by_value n fs) c r) s.6)
      (λ c q n. fields_in (Some f.type_name) (earlier ++ f.name.text ∷ []) c s.1 b fs q n s.6) (λ u v x y. tt)

-- functions
again_sound : (a b : ℕ) (name : Name) (twice same : Bool) → Inside a b name.spot → Sound a b (declared_again name twice same)
again_sound a b name true same h = (h, tt, tt)
again_sound a b name false true h = tt
again_sound a b name false false h = (h, tt, tt)

name_sound : (a b : ℕ) (name : Name) (has_body : Bool) (functions : ℕ) (m : Option Meaning) (s : Signature) → Inside a b name.spot → Sound a b (function_name name has_body functions m s)
name_sound a b name has_body functions None s h = tt
name_sound a b name has_body functions (Some (a_local x u)) s h = tt
name_sound a b name has_body functions (Some (a_global g u count)) s h = (h, tt, tt)
name_sound a b name has_body functions (Some (a_builtin f)) s h = again_sound a b name has_body (agrees_with f s) h
name_sound a b name has_body functions (Some (a_function number first)) s h = again_sound a b name (has_body && is_defined_before functions number) (agrees first s) h

param_name_sound : (a b : ℕ) (here : Here) (name : Option Name) → SpansName a b name → Sound a b (param_name here name)
param_name_sound a b here None h = tt
param_name_sound a b here (Some name) h = new_sound a b here.first here.names name h

module _ (context : Context) where
  param_sound : (has_body : Bool) (here : Here) (a b : ℕ) (q : t.Param) → SpansParam a b q → Sound a b (param_rule context has_body here q)
  param_sound has_body here a b q h =
      parts_sound a h.1 b (base_rule context q.type_name.base) (param_name here q.name) _ h.2 h.3 (base_sound context a h.1 q.type_name.base h.4) (param_name_sound h.1 b here q.name h.5)
      (λ u v. ruled_one a b q.spot (is_struct (written_type context.types q.type_name) || (has_body && is_none q.name)) Mistyped tt h.0)

  params_sound : (has_body : Bool) (here : Here) (a b : ℕ) (qs : List t.Param) → SpansParams a b qs → Sound a b (params_rule context has_body here qs)
  params_sound has_body here a b [] h = tt
  params_sound has_body here a b (q ∷ qs) h =
      parts_sound a h.1 b (param_rule context has_body here q) (params_rule context has_body (with_param context here q) qs) (λ u v. Holds tt) (omega (arith, h.2, h.3)) h.4
      (sound_wider a h.0 h.1 h.1 (param_rule context has_body here q) h.2 (omega arith) (param_sound has_body here h.0 h.1 q h.5)) (params_sound has_body (with_param context here q) h.1 b qs h.6) (λ u v. tt)

  result_sound : (a b : ℕ) (r : Option t.TypeName) → SpansResult a b r → Sound a b (result_rule context r)
  result_sound a b None h = tt
  result_sound a b (Some n) h = base_sound context a b n.base h

  head_sound : (o : Outside) (has_body deletes : Bool) (result : Option t.TypeName) (name : Name) (params : List t.Param) (a k m b : ℕ) → a ≤ k → k ≤ m → m ≤ b → SpansResult a k result → Inside k m name.spot → SpansParams m b params →
      Sound a b (head_rule context o has_body deletes result name params)
  head_sound o has_body deletes result name params a k m b p q r h i s =
      let own = before_params (with_function context o deletes result name params) in
      parts_sound a k b (result_rule context result) (both (function_name name has_body o.functions (meaning_in o.names name.text) (signature_of context deletes result params)) (params_rule context has_body own params)) (λ u v. Holds tt) p (omega (arith, q, r))
      (result_sound a k result h)
      (both_sound k m b (function_name name has_body o.functions (meaning_in o.names name.text) (signature_of context deletes result params)) (params_rule context has_body own params) q r
      (name_sound k m name has_body o.functions (meaning_in o.names name.text) (signature_of context deletes result params) i) (params_sound has_body own m b params s))
      (λ u v. tt)

  abbrev global_own : (o : Outside) (at : Spot) (n : t.TypeName) (count : Option ℕ) (c : Option Constant) → Unit {0} → Unit {0} → Judged Made
  global_own o at n count c u v = global_made context at n count (o.cells + cells_of_global context n count) (initial_of (written_type context.types n) count c)

  global_sound : (o : Outside) (at : Spot) (n : t.TypeName) (count : Option ℕ) (c : Option Constant) (u v : Unit {0}) (x y : ℕ) → Inside x y at → Sound x y (global_own o at n count c u v)
  global_sound o at n count c u v x y h = ruled_two x y at (is_none (initial_of (written_type context.types n) count c)) (is_empty count || nat_lt 1048576 (o.cells + cells_of_global context n count)) Mistyped TooBig _ (omega arith) h

  -- an item that is no global
  abbrev IsOther : t.Item → Type 0
  IsOther (t.global at n name count c) = ⊥
  IsOther i = Unit {0}

  item_sound : (o : Outside) (shared : Option t.TypeName) (a b : ℕ) (i : t.Item) → IsOther i → SpansItem shared a b i → Sound a b (item context o i)
  item_sound o shared a b (t.global at n name count c) e h = absurd e
  item_sound o shared a b (t.struct at name fields) e h =
      parts_sound a h.1 b (once name (is_defined_before o.structs (place_of (struct_names context) name.text))) (fields_rule context o.structs [] fields) _ h.2 h.3
      (once_sound a h.1 name (is_defined_before o.structs (place_of (struct_names context) name.text)) h.4) (fields_sound context o.structs None [] h.1 b fields tt h.5)
      (λ u v. ruled_one a b at (nat_lt 4096 (cells_of_struct context (place_of (struct_names context) name.text))) TooBig nothing_made h.0)
  item_sound o shared a b (t.function at deletes result name params None) e h =
      part_sound a b (head_rule context o false deletes result name params) _
      (sound_wider a a h.5 b (head_rule context o false deletes result name params) (omega arith) h.7 (head_sound o false deletes result name params a h.1 h.3 h.5 h.2 h.4 h.6 h.8 h.9 h.10))
      (λ u. ruled_one a b at (is_struct_option (type_option context result)) Mistyped nothing_made h.0)
  item_sound o shared a b (t.function at deletes result name params (Some body)) e h =
      let own = with_function context o deletes result name params in
      let here = with_params context (before_params own) params in
      let inner = stmts context (type_option context result) false here body in
      parts_sound a h.5 b (head_rule context o true deletes result name params) inner (λ u c. function_made context at deletes (type_option context result) params (behind_body context own params body) c) (omega (arith, h.2, h.4, h.6)) h.7
      (head_sound o true deletes result name params a h.1 h.3 h.5 h.2 h.4 h.6 h.8 h.9 h.10)
      (sound_wider h.5 h.11.0 h.11.1 b inner h.11.2 h.11.3 (stmts_sound context (type_option context result) false here None h.11.0 h.11.1 body tt h.11.4))
      (λ u c. ruled_one a b at (is_struct_option (type_option context result)) Mistyped _ h.0)

  global_known : (o : Outside) (shared : Option t.TypeName) (at : Spot) (n : t.TypeName) (name : Name) (count : Option ℕ) (c : Option Constant) (is : List t.Item) → GroupHolds context o.structs shared (λ m. global_by_value m (t.global at n name count c ∷ is)) → Shares shared n →
      (cell_type context o.structs n ≡ Holds tt) × (shared_rule context o.structs n.base (global_by_value n.base is) ≡ Holds tt)
  global_known o None at n name count c is h e = absurd e
  global_known o (Some m) at n name count c is h e = known_at context o.structs m.base n.base n.stars (λ x. global_by_value x is) e h.0 h.1

  -- no item but a global is followed by one that shares its base
  items_in : (o : Outside) (shared : Option t.TypeName) (c a b : ℕ) (is : List t.Item) → c ≤ a → Before c a shared → SpansItems shared a b is → In c b (faults (items context o is))
  items_in o shared c a b [] p h s = tt
  items_in o shared c a b (t.global at n name count z ∷ is) p h s =
      let head = item context o (t.global at n name count z) in
      let front = shared_rule context o.structs n.base (global_by_value n.base is) in
      let there = base_of_typed shared c s.0 s.1 at n name (omega (arith, p, s.2)) s.3 (before_wider c a s.0 shared s.2 h) s.5 in
      front_in c b front (with_parts head (items context (behind_item context o (t.global at n name count z)) is) (λ x y. Holds (made_both x y)))
      (in_wider c c s.1 b (faults front) (omega arith) s.4 (all_in c s.1 front (shared_sound context o.structs c s.1 n.base (global_by_value n.base is) there)))
      (parts_in c b head (items context (behind_item context o (t.global at n name count z)) is) (λ x y. Holds (made_both x y))
      (in_wider c c s.1 b (faults head) (omega arith) s.4 (typed_in context o.structs shared c s.0 s.1 at n name (is_some (meaning_in o.names name.text)) (global_own o at n count z) (omega (arith, p, s.2)) s.3 (before_wider c a s.0 shared s.2 h) s.5 (global_sound o at n count z)))
      (items_in (behind_item context o (t.global at n name count z)) (Some n) c s.1 b is (omega (arith, p, s.2, s.3)) there s.6)
      (λ x y. tt))
  items_in o shared c a b (t.struct at name fields ∷ is) p h s =
      parts_in c b (item context o (t.struct at name fields)) (items context (behind_item context o (t.struct at name fields)) is) (λ x y. Holds (made_both x y))
      (in_wider c s.0 s.1 b (faults (item context o (t.struct at name fields))) (omega (arith, p, s.2)) s.4 (all_in s.0 s.1 (item context o (t.struct at name fields)) (item_sound o shared s.0 s.1 (t.struct at name fields) tt s.5)))
      (items_in (behind_item context o (t.struct at name fields)) None c s.1 b is (omega (arith, p, s.2, s.3)) tt s.6)
      (λ x y. tt)
  items_in o shared c a b (t.function at deletes result name params body ∷ is) p h s =
      parts_in c b (item context o (t.function at deletes result name params body)) (items context (behind_item context o (t.function at deletes result name params body)) is) (λ x y. Holds (made_both x y))
      (in_wider c s.0 s.1 b (faults (item context o (t.function at deletes result name params body))) (omega (arith, p, s.2)) s.4 (all_in s.0 s.1 (item context o (t.function at deletes result name params body)) (item_sound o shared s.0 s.1 (t.function at deletes result name params body) tt s.5)))
      (items_in (behind_item context o (t.function at deletes result name params body)) None c s.1 b is (omega (arith, p, s.2, s.3)) tt s.6)
      (λ x y. tt)

  pub items_sound : (o : Outside) (shared : Option t.TypeName) (a b : ℕ) (is : List t.Item) → GroupHolds context o.structs shared (λ n. global_by_value n is) → SpansItems shared a b is → Sound a b (items context o is)
  items_sound o shared a b [] h s = tt
  items_sound o shared a b (t.global at n name count z ∷ is) h s =
      typed_then context o.structs shared a s.0 s.1 b at n name (is_some (meaning_in o.names name.text)) (global_by_value n.base is) (global_own o at n count z) (items context (behind_item context o (t.global at n name count z)) is) (λ x y. Holds (made_both x y)) s.2 s.3 s.4
      (global_known o shared at n name count z is h) s.5 (global_sound o at n count z)
      (λ c r. items_sound (behind_item context o (t.global at n name count z)) (Some n) s.1 b is (next_holds context o.structs n (λ x. global_by_value x is) c r) s.6)
      (λ c q r. items_in (behind_item context o (t.global at n name count z)) (Some n) c s.1 b is q r s.6) (λ v w x y. tt)
  items_sound o shared a b (t.struct at name fields ∷ is) h s =
      parts_sound a s.1 b (item context o (t.struct at name fields)) (items context (behind_item context o (t.struct at name fields)) is) (λ x y. Holds (made_both x y)) (omega (arith, s.2, s.3)) s.4
      (sound_wider a s.0 s.1 s.1 (item context o (t.struct at name fields)) s.2 (omega arith) (item_sound o shared s.0 s.1 (t.struct at name fields) tt s.5))
      (items_sound (behind_item context o (t.struct at name fields)) None s.1 b is tt s.6) (λ x y. tt)
  items_sound o shared a b (t.function at deletes result name params body ∷ is) h s =
      parts_sound a s.1 b (item context o (t.function at deletes result name params body)) (items context (behind_item context o (t.function at deletes result name params body)) is) (λ x y. Holds (made_both x y)) (omega (arith, s.2, s.3)) s.4
      (sound_wider a s.0 s.1 s.1 (item context o (t.function at deletes result name params body)) s.2 (omega arith) (item_sound o shared s.0 s.1 (t.function at deletes result name params body) tt s.5))
      (items_sound (behind_item context o (t.function at deletes result name params body)) None s.1 b is tt s.6) (λ x y. tt)

pub judged_sound : (tree : t.Tree) (a b : ℕ) → SpansItems None a b tree.items → Sound a b (judged tree)
judged_sound tree a b s =
    part_sound a b (items (context_of tree.items) at_the_start tree.items) (λ made. Holds (program_of tree.items made)) (items_sound (context_of tree.items) at_the_start None a b tree.items tt s) (λ made. tt)

not_after_itself : (f : Fault) → NotAfter f f
not_after_itself f = inr (refl, omega arith)

among : (f g : Fault) (gs : List Fault) → Each (NotAfter f) gs → IsAmong g gs → NotAfter f g
among f g [] h k = absurd k
among f g (x ∷ xs) h (inl e) = subst (NotAfter f) e h.0
among f g (x ∷ xs) h (inr k) = among f g xs h.1 k

least_of : (tree : t.Tree) (x : Judged p.Program) (a b : ℕ) (f : Fault) → judged tree ≡ x → Sound a b x → first_fault x ≡ Some f → IsLeast tree f
least_of tree (Holds v) a b f e s h = absurd cc
least_of tree (Faulty g gs) a b f e s h =
    let same : g ≡ f = cc in
    record {
      there = subst (λ y. IsAmong f (faults y)) (sym e) (inl same);
      least = λ at refusal v. subst (λ y. NotAfter y (record { at = at; refusal = refusal })) same
          (among g (record { at = at; refusal = refusal }) (g ∷ gs) (not_after_itself g, s.2) (subst (λ y. IsAmong (record { at = at; refusal = refusal }) (faults y)) e v));
    }

pub first_is_least : (tree : t.Tree) (a b : ℕ) (f : Fault) → SpansItems None a b tree.items → first_fault (judged tree) ≡ Some f → IsLeast tree f
first_is_least tree a b f s h = least_of tree (judged tree) a b f refl (judged_sound tree a b s) h
