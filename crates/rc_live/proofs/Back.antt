-- Back past one piece and then another.
use Rattle.std.proofs.Common.{◌≡◌, ◌<◌, ◌≤◌, length, drop, get_or, ℕ, suc, ◌+◌, ◌-◌, ◌||◌, map, Bool, false, nat_eq, List, [], ◌∷◌, ◌++◌, refl, sym, ap, ◌∙◌, arith, append_assoc}
use Rattle.std.specs.Prelude.{reverse, Result, Ok, Err, IfOk}
use Rattle.std.proofs.Math.Seq.{drop-cons}
use Rattle.rc_core.specs.Programs.{Struct}
use Rattle.rc_rlang.specs.declared.steps.Step.{Step as CodeStep}
use Rattle.rc_rlang.specs.Shapes.{step_of, steps_of}
use Rattle.std.proofs.lemmas.List.{reverse-append}
use Rattle.rc_base.specs.BitSets.{marks}
use Rattle.rc_core.specs.Types.{Ty}
use Rattle.rc_rlang.specs.RegionCode.{Operation, copy, call, Step, set, fork, Steps, none, more}
use Rattle.rc_rlang.specs.RegionPoints.{step_points, steps_points}
use Rattle.rc_rlang.specs.RegionLive.{operation_uses, before_steps}
use Rattle.rc_rlang.specs.RegionRuns.{pins_from}
use Rattle.rc_rlang.specs.LiveLists.{Held, held_at, held_if, operation_lists, step_lists, steps_lists}
use Rattle.rc_rlang.specs.Touches.{Touch, nothing, reads, calls, operation_touch}
use Rattle.rc_live.specs.declared.walk.Context.{Context}
use Rattle.rc_rlang.specs.declared.live_map.Held.{Held as CodeHeld}
use Rattle.rc_rlang.specs.LiveMaps.{held_of}
use Rattle.rc_live.specs.Rows.{Shows}
use Rattle.rc_live.specs.Walking.{Going, WentBack, OperationDone, StepDone, StepsDone, deletes_in}

-- the second piece stands behind the first, and was come past before it
pub back_both : (p q : ℕ) (a b : ℕ → List Held) (old mid new : Going) → WentBack q b old mid → WentBack p a mid new → WentBack (p + q) (λ here. a here ++ b (here + p)) old new
back_both p q a b old mid new d e = record {
  counted = λ here l. e.counted here (d.counted (here + p) (omega (arith, l)));
  listed = λ here l.
      e.listed here (d.counted (here + p) (omega (arith, l)))
      ∙ ap (λ xs. xs ++ reverse (a here)) (d.listed (here + p) (omega (arith, l)))
      ∙ append_assoc old.lists (reverse (b (here + p))) (reverse (a here))
      ∙ ap (λ xs. old.lists ++ xs) (sym (reverse-append (a here) (b (here + p))));
}

pub back_as : (p q : ℕ) (a b : ℕ → List Held) (old new : Going) → p ≡ q → ((here : ℕ) → a here ≡ b here) → WentBack p a old new → WentBack q b old new
back_as p q a b old new e s d = record {
  counted = λ here l. d.counted here (omega (arith, l, e));
  listed = λ here l. d.listed here (omega (arith, l, e)) ∙ ap (λ xs. old.lists ++ reverse xs) (s here);
}

pub stay : (old new : Going) → new ≡ old → WentBack 0 (λ here. []) old new
stay old new e = record {
  counted = λ here l. ap (λ g. g.point) e ∙ l ∙ omega arith;
  listed = λ here l. ap (λ g. g.lists) e ∙ sym (append_nil old.lists);
}
  where
    append_nil : (xs : List Held) → xs ++ [] ≡ xs
    append_nil [] = refl
    append_nil (x ∷ xs) = ap (λ t. x ∷ t) (append_nil xs)

pub back_listed : (deleting : ℕ → Bool) (types : List Ty) (live : ℕ → Bool) (old new : Going) (locals : List ℕ) → new.point ≡ old.point - 1 →
    new.lists ≡ old.lists ++ record { point = new.point; locals = locals } ∷ [] → locals ≡ pins_from types 0 live → WentBack 1 (λ here. held_at deleting types here live) old new
back_listed deleting types live old new locals point lists pins = record {
  counted = λ here l. omega (arith, point, l);
  listed = λ here l. lists ∙ ap (λ p. old.lists ++ record { point = p; locals = locals } ∷ []) (let k : new.point ≡ here = omega (arith, point, l) in k) ∙ ap (λ ls. old.lists ++ record { point = here; locals = ls } ∷ []) pins;
}

pub map_last : {A B : Type 0} (shape : A → B) (xs : List A) (x : A) → map shape (xs ++ x ∷ []) ≡ map shape xs ++ shape x ∷ []
map_last shape [] x = refl
map_last shape (y ∷ ys) x = ap (λ t. shape y ∷ t) (map_last shape ys x)

-- pieces of an expression

module _ (c : Context) (types : List Ty) where
  -- an operation, by what it does to locals

  abbrev uses_by : Touch → ℕ → Bool
  uses_by (reads y) x = nat_eq y x
  uses_by t x = false

  abbrev lists_by : Touch → (here : ℕ) → (ℕ → Bool) → List Held
  lists_by (calls g) here live = held_if (deletes_in c) types (deletes_in c g) here live
  lists_by t here live = []

  same_uses : (op : Operation) (x : ℕ) → uses_by (operation_touch op) x ≡ operation_uses op x
  same_uses (copy y) x = refl
  same_uses (call g tys) x = refl
  same_uses op x = refl

  same_lists : (op : Operation) (here : ℕ) (live : ℕ → Bool) → lists_by (operation_touch op) here live ≡ operation_lists (deletes_in c) types op here live
  same_lists (copy y) here live = refl
  same_lists (call g tys) here live = refl
  same_lists op here live = refl

  by_touch : (op : Operation) (t : Touch) (live : ℕ → Bool) (row : ℕ) (old new : Going) → t ≡ operation_touch op → Shows c.names.now row (λ x. uses_by t x || live x) → WentBack 1 (λ here. lists_by t here live) old new → OperationDone c types op live row old new
  by_touch op t live row old new e s b = record {
    shows = λ j x d. s j x d ∙ ap (λ z. uses_by z x || live x) e ∙ ap (λ z. z || live x) (same_uses op x);
    back = back_as 1 1 (λ here. lists_by t here live) (λ here. operation_lists (deletes_in c) types op here live) old new refl (λ here. ap (λ z. lists_by z here live) e ∙ same_lists op here live) b;
  }

  pub nothing_done : (op : Operation) (live : ℕ → Bool) (row : ℕ) (old new : Going) → nothing ≡ operation_touch op → Shows c.names.now row live → WentBack 1 (λ here. []) old new → OperationDone c types op live row old new
  nothing_done op live row old new e s b = by_touch op nothing live row old new e s b

  pub reads_done : (op : Operation) (y : ℕ) (live : ℕ → Bool) (row : ℕ) (old new : Going) → reads y ≡ operation_touch op → Shows c.names.now row (λ x. nat_eq y x || live x) → WentBack 1 (λ here. []) old new → OperationDone c types op live row old new
  reads_done op y live row old new e s b = by_touch op (reads y) live row old new e s b

  pub calls_done : (op : Operation) (g : ℕ) (live : ℕ → Bool) (row : ℕ) (old new : Going) → calls g ≡ operation_touch op → Shows c.names.now row live → WentBack 1 (λ here. held_if (deletes_in c) types (deletes_in c g) here live) old new → OperationDone c types op live row old new
  calls_done op g live row old new e s b = by_touch op (calls g) live row old new e s b

  pub set_done : (line h : ℕ) (ty : Ty) (op : Operation) (live : ℕ → Bool) (row : ℕ) (old new : Going) → OperationDone c types op live row old new → StepDone c types (set line h ty op) live row old new
  set_done line h ty op live row old new d = record { shows = d.shows; back = d.back }

  pub fork_done : (line h : ℕ) (test result : Ty) (a b : Steps) (live : ℕ → Bool) (row_a row_b row : ℕ) (old mid next new : Going) → StepsDone c types b live row_b old mid → StepsDone c types a live row_a mid next →
      WentBack 1 (λ here. []) next new → ((y : ℕ) → marks row y ≡ (marks row_a y || marks row_b y)) → StepDone c types (fork line h test result a b) live row old new
  fork_done line h test result a b live row_a row_b row old mid next new of_b of_a past union = record {
    shows = λ j x e. union j ∙ ap (λ t. t || marks row_b j) (of_a.shows j x e) ∙ ap (λ t. before_steps a live x || t) (of_b.shows j x e);
    back =
        back_as (1 + (steps_points a + steps_points b)) (1 + steps_points a + steps_points b)
        (λ here. steps_lists (deletes_in c) types a (here + 1) live ++ steps_lists (deletes_in c) types b (here + 1 + steps_points a) live)
        (λ here. steps_lists (deletes_in c) types a (suc here) live ++ steps_lists (deletes_in c) types b (suc here + steps_points a) live) old new (omega arith)
        (λ here. ap (λ i. steps_lists (deletes_in c) types a i live ++ steps_lists (deletes_in c) types b (i + steps_points a) live) (let k : here + 1 ≡ suc here = omega arith in k))
        (back_both 1 (steps_points a + steps_points b) (λ here. []) (λ here. steps_lists (deletes_in c) types a here live ++ steps_lists (deletes_in c) types b (here + steps_points a) live) old next new
        (back_both (steps_points a) (steps_points b) (λ here. steps_lists (deletes_in c) types a here live) (λ here. steps_lists (deletes_in c) types b here live) old mid next of_b.back of_a.back) past);
  }

  pub more_done : (s : Step) (r : Steps) (live : ℕ → Bool) (row_r row : ℕ) (old mid new : Going) → StepsDone c types r live row_r old mid → StepDone c types s (before_steps r live) row mid new → StepsDone c types (more s r) live row old new
  more_done s r live row_r row old mid new of_r of_s = record {
    shows = of_s.shows;
    back = back_both (step_points s) (steps_points r) (λ here. step_lists (deletes_in c) types s here (before_steps r live)) (λ here. steps_lists (deletes_in c) types r here live) old mid new of_r.back of_s.back;
  }

  pub none_done : (live : ℕ → Bool) (row : ℕ) (old : Going) → Shows c.names.now row live → StepsDone c types none live row old old
  none_done live row old s = record { shows = s; back = stay old old refl }

pub map_held : (xs ys : List CodeHeld) (x : CodeHeld) → xs ≡ ys ++ x ∷ [] → map held_of xs ≡ map held_of ys ++ held_of x ∷ []
map_held xs ys x e = ap (map held_of) e ∙ map_last held_of ys x

pub if_ok_more : {A E : Type 0} (r : Result A E) (P Q : A → Type 0) → ((a : A) → P a → Q a) → IfOk r P → IfOk r Q
if_ok_more (Ok a) P Q f p = f a p
if_ok_more (Err e) P Q f p = tt

-- the steps from one on
pub steps_at : (structs : List Struct) (xs : List CodeStep) (i : ℕ) (x : CodeStep) → 0 < i → i ≤ length xs → x ≡ get_or xs (i - 1) x → steps_of structs (drop (i - 1) xs) ≡ more (step_of structs x) (steps_of structs (drop i xs))
steps_at structs xs i x p l e =
    ap (steps_of structs) (drop-cons xs (i - 1) x (omega (arith, p, l))) ∙ ap (λ y. more (step_of structs y) (steps_of structs (drop (suc (i - 1)) xs))) (sym e)
    ∙ ap (λ j. more (step_of structs x) (steps_of structs (drop j xs))) (let k : suc (i - 1) ≡ i = omega (arith, p) in k)
