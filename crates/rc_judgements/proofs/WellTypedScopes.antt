-- Names outside of functions: each keeps its first meaning, and every global stands at its number.
use Rattle.std.specs.Prelude.{◌≡◌, ℕ, ◌+◌, List, [], ◌∷◌, ◌++◌, Some, None, Bool, true, false, is_some, is_none, ◌||◌, nat_lt, length, slice_get, if◌then◌else◌}
use Rattle.std.proofs.Common.{refl, sym, ap, ◌∙◌, subst, arith, append_assoc, length-append}
use Rattle.std.specs.Str.{bytes_eq}
use Rattle.rc_syntax.specs.Tree as t
use Rattle.rc_core.specs.Programs as p
use Rattle.rc_deletes.specs.declared.fault.Refusal.TheVariants.{Mistyped, TooBig}
use Rattle.rc_deletes.specs.Judged.{failing}
use Rattle.rc_deletes.specs.Kinds.{place_of, written_type}
use Rattle.rc_deletes.specs.Scopes.{Context, struct_names, Scope, Meaning, a_local, a_global, a_function, a_builtin, meaning_in}
use Rattle.rc_deletes.specs.Items.{is_empty, is_defined_before, cells_of_struct, fields_rule, is_struct_option, Outside, builtins, with_name, with_function, signature_of, behind_item, behind_items, global_of, cells_of_global, cell_type, once, initial_of, value_or_zero, Made, nothing_made, head_rule, type_option, before_params, with_params, item, items, before_globals}
use Rattle.rc_deletes.specs.Statements.{stmts}
use Rattle.rc_judgements.proofs.Held.{Held, Given, given_if, held_part, held_parts, held_ruled, held_always, held_front}
use Rattle.rc_deletes.proofs.Naming.{same_name, own_name}
use Rattle.rc_deletes.proofs.Standing.{at_end, prefix_more}

-- a name that has a meaning keeps it
kept_if : (b : Bool) (names : Scope) (name n : List ℕ) (new m : Meaning) → is_some (meaning_in names name) ≡ b → meaning_in names n ≡ Some m → meaning_in (if b then names else (name, new) ∷ names) n ≡ Some m
kept_if true names name n new m e h = h
kept_if false names name n new m e h = other (bytes_eq name n) refl where
  other : (c : Bool) → bytes_eq name n ≡ c → (if c then Some new else meaning_in names n) ≡ Some m
  other false q = h
  other true q =
      let none : is_some (meaning_in names n) ≡ false = subst (λ x. is_some (meaning_in names x) ≡ false) (same_name name n q) e in
      let some : is_some (meaning_in names n) ≡ true = ap is_some h in
      absurd cc

pub kept_name : (names : Scope) (name n : List ℕ) (new m : Meaning) → meaning_in names n ≡ Some m → meaning_in (with_name names name new) n ≡ Some m
kept_name names name n new m h = kept_if (is_some (meaning_in names name)) names name n new m refl h

pub new_name : (names : Scope) (name : List ℕ) (new : Meaning) → meaning_in names name ≡ None → meaning_in (with_name names name new) name ≡ Some new
new_name names name new h = rw (h, own_name name) refl

abbrev IsBuiltin : Meaning → Type 0
IsBuiltin (a_builtin b) = Unit {0}
IsBuiltin m = ⊥

module _ (context : Context) where
  pub kept_item : (o : Outside) (i : t.Item) (n : List ℕ) (m : Meaning) → meaning_in o.names n ≡ Some m → meaning_in (behind_item context o i).names n ≡ Some m
  kept_item o (t.struct at name fields) n m h = h
  kept_item o (t.global at ty name count c) n m h = kept_name o.names name.text n _ m h
  kept_item o (t.function at deletes result name params None) n m h = kept_name o.names name.text n _ m h
  kept_item o (t.function at deletes result name params (Some body)) n m h = kept_name o.names name.text n _ m h

  pub kept_items : (is : List t.Item) (o : Outside) (n : List ℕ) (m : Meaning) → meaning_in o.names n ≡ Some m → meaning_in (behind_items context o is).names n ≡ Some m
  kept_items [] o n m h = h
  kept_items (i ∷ is) o n m h = kept_items is (behind_item context o i) n m (kept_item o i n m h)

  -- what names stand for outside of functions
  abbrev pub StandsFor : List p.Global → List ℕ → Meaning → Type 0
  StandsFor gs n (a_local x u) = ⊥
  StandsFor gs n (a_global g u count) = (d : p.Global) × (slice_get gs g ≡ Some d) × (d.ty ≡ u) × (d.count ≡ count)
  StandsFor gs n (a_function k s) = k ≡ place_of context.functions n
  StandsFor gs n (a_builtin b) = Unit {0}

  abbrev pub Outer : List p.Global → Scope → Type 0
  Outer gs names = (n : List ℕ) → Given (StandsFor gs n) (meaning_in names n)

  outer_with : (gs : List p.Global) (names : Scope) (name : List ℕ) (m : Meaning) → StandsFor gs name m → Outer gs names → Outer gs (with_name names name m)
  outer_with gs names name m h k n = choose (is_some (meaning_in names name)) where
    there : (c : Bool) → bytes_eq name n ≡ c → Given (StandsFor gs n) (if c then Some m else meaning_in names n)
    there true e = subst (λ x. StandsFor gs x m) (same_name name n e) h
    there false e = k n

    choose : (b : Bool) → Given (StandsFor gs n) (meaning_in (if b then names else (name, m) ∷ names) n)
    choose true = k n
    choose false = there (bytes_eq name n) refl

  abbrev AreBuiltin : Scope → Type 0
  AreBuiltin [] = Unit {0}
  AreBuiltin (known ∷ rest) = IsBuiltin known.1 × AreBuiltin rest

  outer_of : (gs : List p.Global) (names : Scope) → AreBuiltin names → Outer gs names
  outer_of gs [] h n = tt
  outer_of gs (known ∷ rest) h n = given_if (StandsFor gs n) (bytes_eq known.0 n) (Some known.1) (meaning_in rest n) (builtin_stands known.1 h.0) (outer_of gs rest h.1 n) where
    builtin_stands : (m : Meaning) → IsBuiltin m → StandsFor gs n m
    builtin_stands (a_builtin b) h = tt
    builtin_stands (a_local x u) h = absurd h
    builtin_stands (a_global g u c) h = absurd h
    builtin_stands (a_function k s) h = absurd h

  pub outer_builtins : (gs : List p.Global) → Outer gs builtins
  outer_builtins gs = outer_of gs builtins (tt, (tt, (tt, (tt, (tt, (tt, tt))))))

  -- the globals that an item adds
  abbrev pub new_globals : t.Item → List p.Global
  new_globals (t.struct at name fields) = []
  new_globals (t.global at ty name count c) = global_of context ty count (value_or_zero (initial_of (written_type context.types ty) count c)) ∷ []
  new_globals (t.function at deletes result name params body) = []

  pub adds : (o : Outside) (i : t.Item) → Held (λ (m : Made). m.globals ≡ new_globals i) (item context o i)
  adds o (t.struct at name fields) =
      held_parts (λ (u : Unit {0}). Unit {0}) (λ (u : Unit {0}). Unit {0}) (λ (m : Made). m.globals ≡ []) (once name (is_defined_before o.structs (place_of (struct_names context) name.text))) (fields_rule context o.structs [] fields) _
      (held_always (Unit {0}) (once name (is_defined_before o.structs (place_of (struct_names context) name.text))) tt) (held_always (Unit {0}) (fields_rule context o.structs [] fields) tt)
      (λ u v h k. held_ruled (λ (m : Made). m.globals ≡ []) at (failing (nat_lt 4096 (cells_of_struct context (place_of (struct_names context) name.text))) TooBig) nothing_made (λ e. refl))
  adds o (t.global at ty name count c) =
      let i = t.global at ty name count c in
      let initial = initial_of (written_type context.types ty) count c in
      held_parts (λ (u : Unit {0}). Unit {0}) (λ (u : Unit {0}). Unit {0}) (λ (m : Made). m.globals ≡ new_globals i) (cell_type context o.structs ty) (once name (is_some (meaning_in o.names name.text))) _
      (held_always (Unit {0}) (cell_type context o.structs ty) tt) (held_always (Unit {0}) (once name (is_some (meaning_in o.names name.text))) tt)
      (λ u v h k. held_ruled (λ (m : Made). m.globals ≡ new_globals i) at (failing (is_none initial) Mistyped ++ failing (is_empty count || nat_lt 1048576 (o.cells + cells_of_global context ty count)) TooBig) (record { globals = global_of context ty count (value_or_zero initial) ∷ []; functions = [] }) (λ e. refl))
  adds o (t.function at deletes result name params None) =
      held_part (λ (u : Unit {0}). Unit {0}) (λ (m : Made). m.globals ≡ []) (head_rule context o false deletes result name params) _ (held_always (Unit {0}) (head_rule context o false deletes result name params) tt)
      (λ u h. held_ruled (λ (m : Made). m.globals ≡ []) at (failing (is_struct_option (type_option context result)) Mistyped) nothing_made (λ e. refl))
  adds o (t.function at deletes result name params (Some body)) =
      let own = with_function context o deletes result name params in
      let code = stmts context (type_option context result) false (with_params context (before_params own) params) body in
      held_parts (λ (u : Unit {0}). Unit {0}) (λ (b : p.Stmts). Unit {0}) (λ (m : Made). m.globals ≡ []) (head_rule context o true deletes result name params) code _
      (held_always (Unit {0}) (head_rule context o true deletes result name params) tt) (held_always (Unit {0}) code tt)
      (λ u b h k. held_ruled (λ (m : Made). m.globals ≡ []) at (failing (is_struct_option (type_option context result)) Mistyped) _ (λ e. refl))

  count_next : (o : Outside) (i : t.Item) (gs : List p.Global) → o.globals ≡ length gs → (behind_item context o i).globals ≡ length (gs ++ new_globals i)
  count_next o (t.struct at name fields) gs h = omega (arith, length-append gs [])
  count_next o (t.global at ty name count c) gs h = omega (arith, length-append gs (new_globals (t.global at ty name count c)))
  count_next o (t.function at deletes result name params None) gs h = omega (arith, length-append gs [])
  count_next o (t.function at deletes result name params (Some body)) gs h = omega (arith, length-append gs [])

  outer_item : (o : Outside) (i : t.Item) (gs rest : List p.Global) → o.globals ≡ length gs → Outer ((gs ++ new_globals i) ++ rest) o.names → Outer ((gs ++ new_globals i) ++ rest) (behind_item context o i).names
  outer_item o (t.struct at name fields) gs rest h k = k
  outer_item o (t.global at ty name count c) gs rest h k =
      let i = t.global at ty name count c in
      let d = global_of context ty count (value_or_zero (initial_of (written_type context.types ty) count c)) in
      outer_with ((gs ++ new_globals i) ++ rest) o.names name.text (a_global o.globals (written_type context.types ty) count)
      (d, subst (λ x. slice_get ((gs ++ d ∷ []) ++ rest) x ≡ Some d) (sym h) (prefix_more (gs ++ d ∷ []) rest (length gs) d (at_end gs [] d)), refl, refl) k
  outer_item o (t.function at deletes result name params None) gs rest h k = outer_with _ o.names name.text (a_function (place_of context.functions name.text) (signature_of context deletes result params)) refl k
  outer_item o (t.function at deletes result name params (Some body)) gs rest h k = outer_with _ o.names name.text (a_function (place_of context.functions name.text) (signature_of context deletes result params)) refl k

  abbrev pub OuterAfter : List p.Global → List t.Item → Outside → Made → Type 0
  OuterAfter gs is o m = Outer (gs ++ m.globals) o.names → Outer (gs ++ m.globals) (behind_items context o is).names

  pub outer_items : (is : List t.Item) (o : Outside) (gs : List p.Global) → o.globals ≡ length gs → Held (OuterAfter gs is o) (items context o is)
  outer_items [] o gs h = λ k. k
  outer_items (i ∷ is) o gs h =
      held_front (OuterAfter gs (i ∷ is) o) (before_globals context o.structs (i ∷ is)) _ (held_parts (λ (m : Made). m.globals ≡ new_globals i) (OuterAfter (gs ++ new_globals i) is (behind_item context o i)) (OuterAfter gs (i ∷ is) o) (item context o i) (items context (behind_item context o i) is) _
      (adds o i) (outer_items is (behind_item context o i) (gs ++ new_globals i) (count_next o i gs h))
      (λ a b e q k.
      let same : gs ++ (a.globals ++ b.globals) ≡ (gs ++ new_globals i) ++ b.globals = ap (λ x. gs ++ (x ++ b.globals)) e ∙ sym (append_assoc gs (new_globals i) b.globals) in
      subst (λ x. Outer x (behind_items context (behind_item context o i) is).names) (sym same) (q (outer_item o i gs b.globals h (subst (λ x. Outer x o.names) same k)))))
