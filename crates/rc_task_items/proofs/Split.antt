-- The items in front, and those behind them; and names behind items stand for functions by their numbers and for built-in
-- functions by their names.
use Rattle.rc_task_items.proofs.Common.{◌≡◌, ℕ, ◌+◌, List, [], ◌∷◌, ◌++◌, length, Option, Some, None, Bool, true, false, is_some, ◌&&◌, ◌||◌, if◌then◌else◌, refl, sym, ap, ◌∙◌, subst, arith, append_assoc, length-append, bytes_eq, Base, Judged, Holds, Faulty, in_front, with_parts, place_of, row, Context, Scope, Meaning, a_local, a_global, a_function, a_builtin, meaning_in, Outside, Made, nothing_made, made_both, builtins, with_name, behind_item, behind_items, before_globals, shared_rule, global_by_value, same_struct, is_plain, item, items, same_name, named, Held, held_more, held_parts, held_front, held_and, struct_adds, global_adds, prototype_adds, definition_makes, new_globals, adds}
use Rattle.rc_syntax.specs.Tree as t
use Rattle.rc_core.specs.Programs as p

itself : {A : Type 0} (x : Judged A) → Held (λ a. x ≡ Holds a) x
itself (Holds a) = refl
itself (Faulty f fs) = tt

-- the functions that an item defines, and all items
abbrev pub defined : t.Item → ℕ
defined (t.struct at name fields) = 0
defined (t.global at ty name count c) = 0
defined (t.function at deletes result name params None) = 0
defined (t.function at deletes result name params (Some body)) = 1

abbrev pub definitions : List t.Item → ℕ
definitions [] = 0
definitions (i ∷ is) = defined i + definitions is

-- what a declarator shares with those behind it goes no further than these items
shared_front : (b : Base) (is js : List t.Item) → global_by_value b js ≡ false → global_by_value b (is ++ js) ≡ global_by_value b is
shared_front b [] js h = h
shared_front b (t.struct at name fields ∷ is) js h = refl
shared_front b (t.global at n name count c ∷ is) js h = ap (λ z. same_struct b n.base && (is_plain n || z)) (shared_front b is js h)
shared_front b (t.function at deletes result name params body ∷ is) js h = refl

before_front : (context : Context) (structs : ℕ) (i : t.Item) (is js : List t.Item) → ((b : Base) → global_by_value b js ≡ false) → before_globals context structs (i ∷ (is ++ js)) ≡ before_globals context structs (i ∷ is)
before_front context structs (t.struct at name fields) is js quiet = refl
before_front context structs (t.global at n name count c) is js quiet = ap (λ z. shared_rule context structs n.base z) (shared_front n.base is js (quiet n.base))
before_front context structs (t.function at deletes result name params body) is js quiet = refl

held_seen : {B : Type 0} (P : B → Type 0) (x : Judged (Unit {0})) (y : Judged B) → (x ≡ Holds tt → Held P y) → Held P (in_front x y)
held_seen P (Holds a) y h = h refl
held_seen P (Faulty f fs) y h = tt

abbrev joining : Made → Made → Judged Made
joining a b = Holds (made_both a b)

module _ (context : Context) where
  makes : (o : Outside) (i : t.Item) → Held (λ (m : Made). length m.functions ≡ defined i) (item context o i)
  makes o (t.struct at name fields) = held_more _ (λ (m : Made). length m.functions ≡ 0) _ (struct_adds context o at name fields) (λ m e. ap length e)
  makes o (t.global at ty name count c) = held_more _ (λ (m : Made). length m.functions ≡ 0) _ (global_adds context o at ty name count c) (λ m e. ap length e)
  makes o (t.function at deletes result name params None) = held_more _ (λ (m : Made). length m.functions ≡ 0) _ (prototype_adds context o at deletes result name params) (λ m e. ap length e)
  makes o (t.function at deletes result name params (Some body)) = held_more _ (λ (m : Made). length m.functions ≡ 1) _ (definition_makes context o at deletes result name params body) (λ m e. ap length e.1.1)

  -- what the items in front make, and what is made behind them
  abbrev pub Splits : List t.Item → List t.Item → Outside → Made → Type 0
  Splits is js o m =
      (a : Made) × (b : Made) × (m.globals ≡ a.globals ++ b.globals) × (m.functions ≡ a.functions ++ b.functions)
      × (items context (behind_items context o is) js ≡ Holds b) × ((behind_items context o is).globals ≡ o.globals + length a.globals) × (length a.functions ≡ definitions is)
      × (items context o is ≡ Holds a)

  count_one : (o : Outside) (i : t.Item) (gs : List p.Global) → gs ≡ new_globals context i → (behind_item context o i).globals ≡ o.globals + length gs
  count_one o (t.struct at name fields) gs e = ap (λ x. x) (omega (arith, ap length e))
  count_one o (t.global at ty name count c) gs e = omega (arith, ap length e)
  count_one o (t.function at deletes result name params None) gs e = omega (arith, ap length e)
  count_one o (t.function at deletes result name params (Some body)) gs e = omega (arith, ap length e)

  pub splits : (is js : List t.Item) → ((b : Base) → global_by_value b js ≡ false) → (o : Outside) → Held (Splits is js o) (items context o (is ++ js))
  splits [] js quiet o = whole (items context o js)
    where
      whole : (x : Judged Made) → Held (λ m. (a : Made) × (b : Made) × (m.globals ≡ a.globals ++ b.globals) × (m.functions ≡ a.functions ++ b.functions) × (x ≡ Holds b) × (o.globals ≡ o.globals + length a.globals) × (length a.functions ≡ 0) × (◌≡◌ {A = Judged Made} (Holds nothing_made) (Holds a))) x
      whole (Holds m) = (nothing_made, m, refl, refl, refl, omega arith, refl, refl)
      whole (Faulty f fs) = tt
  splits (i ∷ is) js quiet o =
      held_seen (Splits (i ∷ is) js o) (before_globals context o.structs (i ∷ (is ++ js))) _ (λ seen.
      held_parts (λ (m : Made). (item context o i ≡ Holds m) × ((m.globals ≡ new_globals context i) × (length m.functions ≡ defined i))) (Splits is js (behind_item context o i)) (Splits (i ∷ is) js o) (item context o i) (items context (behind_item context o i) (is ++ js)) _
      (held_and (λ (m : Made). item context o i ≡ Holds m) (λ (m : Made). (m.globals ≡ new_globals context i) × (length m.functions ≡ defined i)) (item context o i) (itself (item context o i))
      (held_and (λ (m : Made). m.globals ≡ new_globals context i) (λ (m : Made). length m.functions ≡ defined i) (item context o i) (adds context o i) (makes o i))) (splits is js quiet (behind_item context o i))
      (λ x y e h. (
        made_both x h.0,
        h.1,
        ap (λ l. x.globals ++ l) h.2 ∙ sym (append_assoc x.globals h.0.globals h.1.globals),
        ap (λ l. x.functions ++ l) h.3 ∙ sym (append_assoc x.functions h.0.functions h.1.functions),
        h.4,
        omega (arith, h.5, count_one o i x.globals e.1.0, length-append x.globals h.0.globals),
        omega (arith, h.6, e.1.1, length-append x.functions h.0.functions),
        ap (λ z. in_front z (with_parts (item context o i) (items context (behind_item context o i) is) joining)) (sym (before_front context o.structs i is js quiet) ∙ seen)
            ∙ ap (λ z. with_parts z (items context (behind_item context o i) is) joining) e.0 ∙ ap (λ z. with_parts (Holds x) z joining) h.7,
      )))

  pub counts : (is : List t.Item) (o : Outside) → Held (λ (m : Made). length m.functions ≡ definitions is) (items context o is)
  counts [] o = refl
  counts (i ∷ is) o =
      held_front (λ (m : Made). length m.functions ≡ definitions (i ∷ is)) (before_globals context o.structs (i ∷ is)) _
      (held_parts (λ (m : Made). length m.functions ≡ defined i) (λ (m : Made). length m.functions ≡ definitions is) (λ (m : Made). length m.functions ≡ definitions (i ∷ is)) (item context o i) (items context (behind_item context o i) is) _
      (makes o i) (counts is (behind_item context o i)) (λ x y e h. omega (arith, e, h, length-append x.functions y.functions)))

  -- what a name stands for, by its number or its name
  abbrev pub Stands : List ℕ → Option Meaning → Type 0
  Stands n None = Unit {0}
  Stands n (Some (a_local x u)) = Unit {0}
  Stands n (Some (a_global g u c)) = Unit {0}
  Stands n (Some (a_function k s)) = k ≡ place_of context.functions n
  Stands n (Some (a_builtin b)) = (row b).name ≡ n

  abbrev pub AllStand : Scope → Type 0
  AllStand names = (n : List ℕ) → Stands n (meaning_in names n)

  pub builtins_stand : AllStand builtins
  builtins_stand n = by (meaning_in builtins n) refl
    where
      by : (m : Option Meaning) → meaning_in builtins n ≡ m → Stands n m
      by None e = tt
      by (Some m) e = let x = named n m e in subst (λ y. Stands n (Some y)) (sym x.2) x.1

  pub stand_with : (names : Scope) (name : List ℕ) (m : Meaning) → Stands name (Some m) → AllStand names → AllStand (with_name names name m)
  stand_with names name m h k n = choose (is_some (meaning_in names name))
    where
      there : (c : Bool) → bytes_eq name n ≡ c → Stands n (if c then Some m else meaning_in names n)
      there true e = subst (λ x. Stands x (Some m)) (same_name name n e) h
      there false e = k n

      choose : (b : Bool) → Stands n (meaning_in (if b then names else (name, m) ∷ names) n)
      choose true = k n
      choose false = there (bytes_eq name n) refl

  stand_item : (o : Outside) (i : t.Item) → AllStand o.names → AllStand (behind_item context o i).names
  stand_item o (t.struct at name fields) h = h
  stand_item o (t.global at ty name count c) h = stand_with o.names name.text _ tt h
  stand_item o (t.function at deletes result name params None) h = stand_with o.names name.text _ refl h
  stand_item o (t.function at deletes result name params (Some body)) h = stand_with o.names name.text _ refl h

  pub stand_items : (is : List t.Item) (o : Outside) → AllStand o.names → AllStand (behind_items context o is).names
  stand_items [] o h = h
  stand_items (i ∷ is) o h = stand_items is (behind_item context o i) (stand_item o i h)
