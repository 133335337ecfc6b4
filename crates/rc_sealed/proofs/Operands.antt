-- Operands and locals of a state, as lists.
use Rattle.std.proofs.Common.{◌≡◌, ℕ, zero, suc, ◌<◌, Bool, true, false, List, [], ◌∷◌, length, map, take, drop, get_or, reverse, Option, Some, None, refl, sym, ap, ◌∙◌, subst, arith}
use Rattle.std.specs.List.{AllByRecursion as Every, AllZip}
use Rattle.std.proofs.lemmas.List.{reverse-append}
use Rattle.rc_core.specs.declared.ty.Signedness.{Signedness}
use Rattle.rc_core.specs.Heap.{Value, Number, Null, Handle, Pointer, Heap, live}
use Rattle.rc_core.specs.Source.{World}
use Rattle.rc_safety.proofs.Lists.{every_append, every_get_or}
use Rattle.rc_annotations.specs.Holding.{Rooted}
use Rattle.rc_annotations.specs.Worlds.{Made, Grounded}
use Rattle.rc_annotations.specs.Variables.{picked, past}
use Rattle.rc_code.specs.declared.kind.Storage.{Storage}
use Rattle.rc_code.specs.declared.kind.Storage.TheVariants as storage
use Rattle.rc_code.specs.declared.image.Function.{Function}
use Rattle.rc_code.specs.declared.image.Path.{Path}
use Rattle.rc_code.specs.Running.{value_at, width, target_of, target_on}
use Rattle.rc_code.specs.Soundness.{Kind, numbers, handles, pointers, is_regional, local_in}
use Rattle.rc_worlds.specs.Worlds.{Compared}
use Rattle.rc_worlds.specs.Typed.{HasKind, Keeps, IsMade}
use Rattle.rc_worlds.proofs.Typed.{suits_made}
use Rattle.rc_worlds.proofs.Stacks.{locals_made}
use Rattle.rc_core.specs.declared.ty.Signedness.{Signedness}
use Rattle.rc_claims.specs.Counts.{regionals}
use Rattle.rc_sealed.specs.ImageVariables.{values_of}
use Rattle.rc_sealed.specs.Pinned.{IsNumeric}
use Rattle.rc_sealed.proofs.Safe.{FreshIn}

pub every_reversed : {A : Type 0} (P : A → Type 0) (xs : List A) → Every P xs → Every P (reverse xs)
every_reversed P [] all = tt
every_reversed P (x ∷ xs) all = subst (Every P) (sym (reverse-append (x ∷ []) xs)) (every_append P (reverse xs) (x ∷ []) (every_reversed P xs all.1) (all.0, tt))

pub drops_alike : {A B : Type 0} (R : A → B → Type 0) (n : ℕ) (xs : List A) (ys : List B) → AllZip R xs ys → length (drop n xs) ≡ length (drop n ys)
drops_alike R zero [] [] all = refl
drops_alike R zero [] (y ∷ ys) all = absurd all
drops_alike R zero (x ∷ xs) [] all = absurd all
drops_alike R zero (x ∷ xs) (y ∷ ys) all = ap suc (drops_alike R zero xs ys all.1)
drops_alike R (suc n) [] [] all = refl
drops_alike R (suc n) [] (y ∷ ys) all = absurd all
drops_alike R (suc n) (x ∷ xs) [] all = absurd all
drops_alike R (suc n) (x ∷ xs) (y ∷ ys) all = drops_alike R n xs ys all.1

-- ---- made

made_of : (heap : Heap) (v : Value) → IsMade heap v → Made heap v
made_of heap (Number n) m p = absurd p
made_of heap Null m p = absurd p
made_of heap (Handle r) m p = m
made_of heap (Pointer a) m p = m

all_made : (heap : Heap) (vs : List Value) → Every (IsMade heap) vs → Every (Made heap) vs
all_made heap [] all = tt
all_made heap (v ∷ vs) all = (made_of heap v all.0, all_made heap vs all.1)

null_made : (heap : Heap) → Made heap Null
null_made heap p = absurd p

picked_made : (heap : Heap) (bs : List Bool) (env : List Value) → Every (Made heap) env → Every (Made heap) (picked bs env)
picked_made heap [] env all = tt
picked_made heap (true ∷ bs) [] all = (null_made heap, picked_made heap bs [] tt)
picked_made heap (true ∷ bs) (v ∷ env) all = (all.0, picked_made heap bs env all.1)
picked_made heap (false ∷ bs) [] all = picked_made heap bs [] tt
picked_made heap (false ∷ bs) (v ∷ env) all = picked_made heap bs env all.1

past_made : (heap : Heap) (vs : List Value) (t : ℕ → Value) → Every (Made heap) vs → ((k : ℕ) → Made heap (t k)) → (u : ℕ) → Made heap (past vs t u)
past_made heap [] t all m u = m u
past_made heap (v ∷ vs) t all m zero = all.0
past_made heap (v ∷ vs) t all m (suc u) = past_made heap vs t all.1 m u

pub kinds_made : (image : Compared) (heap : Heap) (kinds : List Kind) (vs : List Value) → AllZip (HasKind image heap) kinds vs → Every (Made heap) vs
kinds_made image heap [] [] all = tt
kinds_made image heap [] (v ∷ vs) all = absurd all
kinds_made image heap (k ∷ kinds) [] all = absurd all
kinds_made image heap (k ∷ kinds) (v ∷ vs) all = (made_of heap v (suits_made image heap k v all.0), kinds_made image heap kinds vs all.1)

pub grounded : (image : Compared) (f : Function) (copied env st : List Value) (kinds : List Kind) (heap : Heap) → Rooted (Rattle.rc_core.specs.Heap.parent heap) → Every (Made heap) copied → AllZip (Keeps image heap) f.locals env → AllZip (HasKind image heap) kinds st → Grounded (values_of f copied env st) heap
grounded image f copied env st kinds heap rooted copies locals all = record {
  rooted = rooted;
  made = past_made heap copied _ copies (past_made heap (picked (regionals f) env) _ (picked_made heap (regionals f) env (all_made heap env (locals_made image heap f.locals env locals)))
      (λ k. every_get_or (Made heap) (reverse st) k Null (null_made heap) (every_reversed (Made heap) st (kinds_made image heap kinds st all))));
}

-- ---- values of kinds

pub number_is_fresh : (image : Compared) (w : World) (k : Kind) (v : Value) → IsNumeric k → HasKind image w.heap k v → FreshIn w v
number_is_fresh image w (numbers s) (Number n) num is = refl
number_is_fresh image w (numbers s) Null num is = absurd is.suits
number_is_fresh image w (numbers s) (Handle r) num is = absurd is.suits
number_is_fresh image w (numbers s) (Pointer a) num is = absurd is.suits
number_is_fresh image w handles v num is = absurd num
number_is_fresh image w (pointers t) v num is = absurd num

pub numbers_are_fresh : (image : Compared) (heap : Heap) (w : World) (kinds : List Kind) (vs : List Value) → Every IsNumeric kinds → AllZip (HasKind image heap) kinds vs → Every (FreshIn w) vs
numbers_are_fresh image heap w [] [] num all = tt
numbers_are_fresh image heap w [] (v ∷ vs) num all = absurd all
numbers_are_fresh image heap w (k ∷ kinds) [] num all = absurd all
numbers_are_fresh image heap w (k ∷ kinds) (v ∷ vs) num all = (one k v num.0 all.0, numbers_are_fresh image heap w kinds vs num.1 all.1)
  where
    one : (k : Kind) (v : Value) → IsNumeric k → HasKind image heap k v → FreshIn w v
    one (numbers s) (Number n) num is = refl
    one (numbers s) Null num is = absurd is.suits
    one (numbers s) (Handle r) num is = absurd is.suits
    one (numbers s) (Pointer a) num is = absurd is.suits
    one handles v num is = absurd num
    one (pointers t) v num is = absurd num

-- ---- operands

pub lowest_of_one : (st : List Value) → value_at (reverse (take 1 st)) 0 ≡ value_at st 0
lowest_of_one [] = refl
lowest_of_one (v ∷ st) = refl

pub lowest_of_two : (u v : Value) (st : List Value) → value_at (reverse (take 2 (u ∷ v ∷ st))) 0 ≡ v
lowest_of_two u v st = refl

pub target_pointer : (path : Path) (st : List Value) → (target_on path st).pointer ≡ value_at (reverse (take (width path) st)) 0
target_pointer path st = by path.shift
  where
    by : (shift : Option Signedness) → (target_of path shift (reverse (take (width path) st))).pointer ≡ value_at (reverse (take (width path) st)) 0
    by None = refl
    by (Some s) = refl

pub is_picked : (ss : List Storage) (x : ℕ) → x < length ss → get_or (map is_regional ss) x false ≡ is_regional (get_or ss x storage.Region)
is_picked [] x lt = absurd (omega (arith, lt))
is_picked (s ∷ ss) zero lt = refl
is_picked (s ∷ ss) (suc x) lt = is_picked ss x (omega (arith, lt))

pub regional_local : (f : Function) (x : ℕ) (b : Bool) → x < length f.locals → is_regional (local_in f x) ≡ b → get_or (regionals f) x false ≡ b
regional_local f x b lt e = is_picked f.locals x lt ∙ e
