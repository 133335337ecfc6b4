-- Values where two more objects stand in region 0: one behind so many globals, the other behind so many strings after it.
use Rattle.rc_tasks.proofs.Common.{◌≡◌, ℕ, zero, suc, ◌+◌, ◌<◌, ◌≤◌, ◌&&◌, List, [], ◌∷◌, ◌++◌, map, drop, nat_eq, refl, sym, ap, ◌∙◌, arith, map-append, Ty, int, unsigned, char, region, struct, pointer, Function, Value, Number, Null, Handle, Pointer, Address, zero_of, of_region, Target, number_in, is_true, same_value, local_at, Flow, Next, Broke, Continued, Returned, held_value, held, first_locals}
use Rattle.std.proofs.Common.{Bool, true, false}
use Rattle.rc_core.specs.Heap.{update}
use Rattle.rc_tasks.proofs.Lists.{shift, shift_eq, shift_below, shift_from, get_mapped, map_updated}

module _ (globals strings : ℕ) where
  abbrev pub place : ℕ → ℕ
  place o = shift (suc (globals + strings)) (shift globals o)

  abbrev pub moved_object : (region object : ℕ) → ℕ
  moved_object zero o = place o
  moved_object (suc r) o = o

  abbrev pub moved_address : Address → Address
  moved_address a = record { region = a.region; object = moved_object a.region a.object; index = a.index }

  abbrev pub moved : Value → Value
  moved (Number n) = Number n
  moved Null = Null
  moved (Handle r) = Handle r
  moved (Pointer a) = Pointer (moved_address a)

  abbrev pub moved_target : Target → Target
  moved_target t = record { pointer = moved t.pointer; shift = t.shift; offset = t.offset; chosen = t.chosen }

  abbrev pub moved_flow : Flow → Flow
  moved_flow (Next env) = Next (map moved env)
  moved_flow (Broke env) = Broke (map moved env)
  moved_flow (Continued env) = Continued (map moved env)
  moved_flow (Returned v) = Returned (moved v)

  pub number_moved : (v : Value) → number_in (moved v) ≡ number_in v
  number_moved (Number n) = refl
  number_moved Null = refl
  number_moved (Handle r) = refl
  number_moved (Pointer a) = refl

  pub true_moved : (v : Value) → is_true (moved v) ≡ is_true v
  true_moved (Number n) = refl
  true_moved Null = refl
  true_moved (Handle r) = refl
  true_moved (Pointer a) = refl

  pub of_region_moved : (none : Bool) (holds : ℕ → Bool) (v : Value) → of_region none holds (moved v) ≡ of_region none holds v
  of_region_moved none holds (Number n) = refl
  of_region_moved none holds Null = refl
  of_region_moved none holds (Handle r) = refl
  of_region_moved none holds (Pointer a) = refl

  place_eq : (o p : ℕ) → nat_eq (place o) (place p) ≡ nat_eq o p
  place_eq o p = shift_eq (suc (globals + strings)) (shift globals o) (shift globals p) ∙ shift_eq globals o p

  same_object : (r q o p : ℕ) (c : Bool) → nat_eq r q && (nat_eq (moved_object r o) (moved_object q p) && c) ≡ nat_eq r q && (nat_eq o p && c)
  same_object zero zero o p c = ap (λ b. nat_eq 0 0 && (b && c)) (place_eq o p)
  same_object zero (suc q) o p c = grind arith
  same_object (suc r) zero o p c = grind arith
  same_object (suc r) (suc q) o p c = refl

  pub same_moved : (v u : Value) → same_value (moved v) (moved u) ≡ same_value v u
  same_moved (Number n) (Number m) = refl
  same_moved (Number n) Null = refl
  same_moved (Number n) (Handle q) = refl
  same_moved (Number n) (Pointer b) = refl
  same_moved Null (Number m) = refl
  same_moved Null Null = refl
  same_moved Null (Handle q) = refl
  same_moved Null (Pointer b) = refl
  same_moved (Handle r) (Number m) = refl
  same_moved (Handle r) Null = refl
  same_moved (Handle r) (Handle q) = refl
  same_moved (Handle r) (Pointer b) = refl
  same_moved (Pointer a) (Number m) = refl
  same_moved (Pointer a) Null = refl
  same_moved (Pointer a) (Handle q) = refl
  same_moved (Pointer a) (Pointer b) = same_object a.region b.region a.object b.object (nat_eq a.index b.index)

  pub global_moved : (k : ℕ) → k < globals → place k ≡ k
  global_moved k lt = ap (shift (suc (globals + strings))) (shift_below globals k lt) ∙ shift_below (suc (globals + strings)) k (omega (arith, lt))

  pub string_moved : (k : ℕ) → k < strings → place (globals + k) ≡ suc (globals + k)
  string_moved k lt = ap (shift (suc (globals + strings))) (shift_from globals (globals + k) (omega arith)) ∙ shift_below (suc (globals + strings)) (suc (globals + k)) (omega (arith, lt))

  pub later_moved : (o : ℕ) → globals + strings ≤ o → place o ≡ suc (suc o)
  later_moved o le = ap (shift (suc (globals + strings))) (shift_from globals o (omega (arith, le))) ∙ shift_from (suc (globals + strings)) (suc o) (omega (arith, le))

  pub zero_moved : (ty : Ty) → moved (zero_of ty) ≡ zero_of ty
  zero_moved int = refl
  zero_moved unsigned = refl
  zero_moved char = refl
  zero_moved region = refl
  zero_moved (struct k) = refl
  zero_moved (pointer note target) = refl

  pub local_moved : (env : List Value) (x : ℕ) → local_at (map moved env) x ≡ moved (local_at env x)
  local_moved env x = get_mapped moved env x Null

  pub with_local_moved : (env : List Value) (x : ℕ) (v : Value) → update (map moved env) x (λ _. moved v) ≡ map moved (update env x (λ _. v))
  with_local_moved env x v = map_updated moved env x (λ _. v) (λ _. moved v) (λ _. refl)

  held_value_moved : (b : Bool) (v : Value) (rest : List Value) → held_value b (moved v) (map moved rest) ≡ map moved (held_value b v rest)
  held_value_moved false v rest = refl
  held_value_moved true (Number n) rest = refl
  held_value_moved true Null rest = refl
  held_value_moved true (Handle r) rest = refl
  held_value_moved true (Pointer a) rest = refl

  pub held_moved : (live : ℕ → Bool) (env : List Value) → held live (map moved env) ≡ map moved (held live env)
  held_moved live [] = refl
  held_moved live (v ∷ env) = ap (held_value (live 0) (moved v)) (held_moved (λ x. live (suc x)) env) ∙ held_value_moved (live 0) v (held (λ x. live (suc x)) env)

  zeros_moved : (tys : List Ty) → map zero_of tys ≡ map moved (map zero_of tys)
  zeros_moved [] = refl
  zeros_moved (ty ∷ tys) = ap (λ v. v ∷ map zero_of tys) (sym (zero_moved ty)) ∙ ap (λ l. moved (zero_of ty) ∷ l) (zeros_moved tys)

  pub first_locals_moved : (f : Function) (vs : List Value) → first_locals f (map moved vs) ≡ map moved (first_locals f vs)
  first_locals_moved f vs = ap (λ l. map moved vs ++ l) (zeros_moved (drop f.parameters f.locals)) ∙ sym (map-append moved vs (map zero_of (drop f.parameters f.locals)))
