-- Where the sets of a function stand among those of all functions.
use Rattle.std.proofs.Common.{◌≡◌, ◌⊎◌, ℕ, zero, suc, ◌<◌, List, [], ◌∷◌, ◌++◌, length, get_or, map, Bool, true, false, nat_eq, Some, Result, Ok, Err, refl, sym, ap, ◌∙◌, subst, arith}
use Rattle.std.specs.Prelude.{slice_get, slice_set, IfOk}
use Rattle.std.specs.declared.vec.Vec.{Vec}
use Rattle.std.specs.declared.alloc.Global.{Global}
use Rattle.std.specs.Vec.{with_item, with_items}
use Rattle.std.proofs.lemmas.Bool.{eqb-true, eq-eqb}
use Rattle.std.proofs.lemmas.List.{length-map, get_or-map, map-set, with_items_is}
use Rattle.rc_facts.specs.declared.fact.Fact.{Fact}
use Rattle.rc_facts.specs.Facts.{Known}
use Rattle.rc_rlang.specs.declared.code.RegionParts.{RegionParts}
use Rattle.rc_rlang.specs.declared.code.Routine.{Routine as CodeRoutine}
use Rattle.rc_rlang.specs.RegionCode.{Routine}
use Rattle.rc_rlang.specs.Shapes.{rlang_of, routine_in}
use Rattle.rc_edges.specs.declared.facts.Facts.{Facts}
use Rattle.rc_edges.specs.Inferred.{family_of}
use Rattle.rc_edges.specs.Reading.{Loses}
use Rattle.rc_infer.specs.Steps.{RowLost}

pub some_is : (x y : Routine) → Some x ≡ Some y → x ≡ y
some_is x y e = cc

pub order : (a b : ℕ) → (a < b) ⊎ ((a ≡ b) ⊎ (b < a))
order a b = grind arith

pub if_ok : {T E : Type 0} (r : Result T E) (P Q : T → Type 0) → ((x : T) → P x → Q x) → IfOk r P → IfOk r Q
if_ok (Ok x) P Q f p = f x p
if_ok (Err e) P Q f p = p

not_both : {P : Type 0} (b : Bool) → b ≡ true → b ≡ false → P
not_both true e d = cc
not_both false e d = cc

pub pick : (P : ℕ → Type 0) (g : ℕ) → P g → ((k : ℕ) → (k ≡ g → ⊥) → P k) → (k : ℕ) → P k
pick P g here others k = by (nat_eq k g) refl
  where
    by : (b : Bool) → nat_eq k g ≡ b → P k
    by true e = subst P (sym (eqb-true k g e)) here
    by false e = others k (λ q. not_both (nat_eq k g) (eq-eqb k g q) e)

pub same_or : {X : Type 0} (xs : List X) (i : ℕ) (d e : X) → i < length xs → get_or xs i d ≡ get_or xs i e
same_or [] i d e lt = absurd (omega (arith, lt))
same_or (x ∷ xs) zero d e lt = refl
same_or (x ∷ xs) (suc i) d e lt = same_or xs i d e (omega (arith, lt))

-- what stands there, whatever would stand behind the end
pub stands : {X : Type 0} (xs : List X) (i : ℕ) (d x : X) → i < length xs → x ≡ get_or xs i x → get_or xs i d ≡ x
stands xs i d x lt e = same_or xs i d x lt ∙ sym e

pub shown : {X Y : Type 0} (f : X → Y) (xs : List X) (i : ℕ) (x : X) → i < length xs → x ≡ get_or xs i x → slice_get (map f xs) i ≡ Some (f x)
shown f [] i x lt e = absurd (omega (arith, lt))
shown f (y ∷ ys) zero x lt e = ap (λ z. Some (f z)) (sym e)
shown f (y ∷ ys) (suc i) x lt e = shown f ys i x (omega (arith, lt)) e

pub found_at : {X : Type 0} (xs : List X) (i : ℕ) (x : X) → i < length xs → x ≡ get_or xs i x → slice_get xs i ≡ Some x
found_at [] i x lt e = absurd (omega (arith, lt))
found_at (y ∷ ys) zero x lt e = ap (λ z. Some z) (sym e)
found_at (y ∷ ys) (suc i) x lt e = found_at ys i x (omega (arith, lt)) e

pub some_at : {X : Type 0} (xs : List X) (k : ℕ) → k < length xs → (x : X) × (slice_get xs k ≡ Some x)
some_at [] k lt = absurd (omega (arith, lt))
some_at (x ∷ xs) zero lt = (x, refl)
some_at (x ∷ xs) (suc k) lt = some_at xs k (omega (arith, lt))

pub found : (code parts : RegionParts) (g : ℕ) (f : CodeRoutine) → parts ≡ code → g < length code.functions.items → f ≡ get_or parts.functions.items g f → slice_get (rlang_of code).functions g ≡ Some (routine_in (rlang_of code).structs f)
found code parts g f same lt e = shown (routine_in (rlang_of code).structs) code.functions.items g f lt (subst (λ (p : RegionParts). f ≡ get_or p.functions.items g f) same e)

abbrev pub sets_of : Vec Known Global → List Known
sets_of v = v.items

pub pushed : (xs : List (Vec Known Global)) (y : Vec Known Global) → map sets_of (xs ++ y ∷ []) ≡ map sets_of xs ++ y.items ∷ []
pushed [] y = refl
pushed (x ∷ xs) y = ap (λ zs. x.items ∷ zs) (pushed xs y)

-- sets of a function
pub own_points : (facts : Facts) (g : ℕ) (v : Vec Known Global) → g < length (family_of facts).points → v ≡ get_or facts.points.items g v → get_or (family_of facts).points g [] ≡ v.items
own_points facts g v lt e =
    get_or-map sets_of facts.points.items g v [] (subst (λ n. g < n) (length-map facts.points.items sets_of) lt) ∙ ap sets_of (sym e)

-- they lost facts
pub row_lost : (facts : Facts) (g : ℕ) (v : Vec Known Global) (lost : Bool) (old new : List Known) (stays : ℕ → Fact → Type 0) → g < length (family_of facts).points → v ≡ get_or facts.points.items g v → old ≡ v.items → Loses lost old new stays
    → RowLost g (family_of facts) (family_of (record { graphs = facts.graphs; points = with_item facts.points g (with_items v new); entries = facts.entries; exits = facts.exits })) lost stays
row_lost facts g v lost old new stays lt e o l = record {
  row = new;
  points = map-set sets_of facts.points.items g (with_items v new) ∙ ap (slice_set (map sets_of facts.points.items) g) (with_items_is v new (l.long ∙ ap length o ∙ sym v.ok.0));
  entries = refl;
  exits = refl;
  loses = subst (λ z. Loses lost z new stays) (o ∙ sym (own_points facts g v lt e)) l;
}

-- a list of sets in a vector lost facts
pub vec_lost : (v : Vec Known Global) (lost : Bool) (old new : List Known) (stays : ℕ → Fact → Type 0) → old ≡ v.items → Loses lost old new stays → Loses lost v.items (with_items v new).items stays
vec_lost v lost old new stays o l =
    subst (λ z. Loses lost v.items z stays) (sym (with_items_is v new (l.long ∙ ap length o ∙ sym v.ok.0)))
    (subst (λ z. Loses lost z new stays) o l)
