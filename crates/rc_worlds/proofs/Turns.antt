-- No operation gives a turn back, over the store.
use Rattle.std.proofs.Common.{◌≡◌, ℕ, zero, suc, ◌≤◌, ℤ, Bool, true, false, List, [], ◌∷◌, refl, arith, ◌++◌, ◌+ℤ◌}
use Rattle.rc_base.specs.declared.ends.Trap.{Trap}
use Rattle.rc_core.specs.Layout.{Layout, note_of}
use Rattle.rc_core.specs.Heap.{Value, Number, Null, Handle, Pointer, Address, is_fresh, fits}
use Rattle.rc_core.specs.Laws.{IfGoes}
use Rattle.rc_core.specs.Runs.{Stop, Run, Go, Stopped, bind, branching, tested, touching, Target}
use Rattle.rc_core.specs.Source.{Spot, is_index, chosen_in_range, cell_of, unfit}
use Rattle.rc_code.specs.Running.{Doing}
use Rattle.rc_code.specs.StoreModel.{Held, turn_in, byte_in, on_region, on_address, on_spot, stored_in, stored, lives, object_in, view, is_child, made_in, parent_in, kind_in, with_store, put_in, value_in}
use Rattle.std.specs.List.{list_all, list_any}
use Rattle.std.specs.Prelude.{pos, unsigned_abs, nat_lt, nat_le, nat_eq, int_le, not, length, filter}
use Rattle.rc_core.specs.Store.{refs}
use Rattle.rc_base.specs.declared.ends.Trap.TheVariants.{Bounds, Full, Reference, Root, Size, Subregion}

-- where the run goes on, this holds; as a record, so that arguments are found
pub record After {W A : Type 0} (P : A → W → Type 0) (m : Run W A) : Type 0 where
  pub goes : IfGoes P m

pub record KeepsTurns {W : Type 0} (does : Doing W) : Type 0 where
  pub take_turn : (w : W) → After (λ _ w1. suc (does.ops.turns_left w1) ≤ does.ops.turns_left w) (does.ops.take_turn w)
  pub get_byte : (w : W) → After (λ _ w1. does.ops.turns_left w1 ≤ does.ops.turns_left w) (does.ops.get_byte w)
  pub put_byte : (b : ℕ) (w : W) → After (λ _ w1. does.ops.turns_left w1 ≤ does.ops.turns_left w) (does.ops.put_byte b w)
  pub new_region : (line : ℕ) (w : W) → After (λ _ w1. does.ops.turns_left w1 ≤ does.ops.turns_left w) (does.ops.new_region line w)
  pub new_subregion : (line : ℕ) (v : Value) (w : W) → After (λ _ w1. does.ops.turns_left w1 ≤ does.ops.turns_left w) (does.ops.new_subregion line v w)
  pub allocate : (line : ℕ) (v : Value) (n : ℤ) (layout : Layout) (w : W) → After (λ _ w1. does.ops.turns_left w1 ≤ does.ops.turns_left w) (does.ops.allocate line v n layout w)
  pub step : (line : ℕ) (v : Value) (n : ℤ) (w : W) → After (λ _ w1. does.ops.turns_left w1 ≤ does.ops.turns_left w) (does.ops.step line v n w)
  pub load : (line : ℕ) (t : Target) (w : W) → After (λ _ w1. does.ops.turns_left w1 ≤ does.ops.turns_left w) (does.ops.load line t w)
  pub put : (proved : Bool) (line : ℕ) (t : Target) (v : Value) (w : W) → After (λ _ w1. does.ops.turns_left w1 ≤ does.ops.turns_left w) (does.put proved line t v w)
  pub delete : (line : ℕ) (held : List Value) (v : Value) (w : W) → After (λ _ w1. does.ops.turns_left w1 ≤ does.ops.turns_left w) (does.ops.delete line held v w)
  pub enter : (held : List Value) (w : W) → does.ops.turns_left (does.ops.enter held w) ≤ does.ops.turns_left w
  pub leave : (w w1 : W) → does.ops.turns_left (does.ops.leave w w1) ≤ does.ops.turns_left w1

module _ {W A : Type 0} (P : A → W → Type 0) where
  pub after_go : (x : A) (w : W) → P x w → After P (Go x w)
  after_go x w h = record { goes = h }

  pub after_stop : (s : Stop) (w : W) → After P (Stopped s w)
  after_stop s w = record { goes = tt }

  pub after_tested : (b : Bool) (t : Trap) (line : ℕ) (w : W) (m : Run W A) → After P m → After P (tested b t line w m)
  after_tested true t line w m h = h
  after_tested false t line w m h = record { goes = tt }

  pub after_touching : (b : Bool) (line : ℕ) (w : W) (m : Run W A) → After P m → After P (touching b line w m)
  after_touching true line w m h = h
  after_touching false line w m h = record { goes = tt }

  pub after_branching : (b : Bool) (m n : W → Run W A) (w : W) → After P (m w) → After P (n w) → After P (branching b m n w)
  after_branching true m n w h k = h
  after_branching false m n w h k = k

  pub after_bind : {B : Type 0} (Q : B → W → Type 0) (m : Run W B) (next : B → W → Run W A) → After Q m → ((x : B) (w : W) → Q x w → After P (next x w)) → After P (bind m next)
  after_bind Q (Go x w) next h k = k x w h.goes
  after_bind Q (Stopped s w) next h k = record { goes = tt }

module _ {A : Type 0} (P : A → Held → Type 0) (line : ℕ) (w : Held) where
  after_region : (v : Value) (go : ℕ → Run Held A) → ((r : ℕ) → After P (go r)) → After P (on_region line v w go)
  after_region (Handle r) go h = h r
  after_region (Number n) go h = record { goes = tt }
  after_region Null go h = record { goes = tt }
  after_region (Pointer a) go h = record { goes = tt }

  after_address : (v : Value) (go : Address → Run Held A) → ((a : Address) → After P (go a)) → After P (on_address line v w go)
  after_address (Pointer a) go h = h a
  after_address (Number n) go h = record { goes = tt }
  after_address Null go h = record { goes = tt }
  after_address (Handle r) go h = record { goes = tt }

  after_spot : (t : Target) (go : Spot → Run Held A) → ((spot : Spot) → After P (go spot)) → After P (on_spot line t w go)
  after_spot t go h =
      after_address t.pointer _ (λ a.
      after_touching P (lives w.store a.region) line w _
      (after_tested P (is_index (pos a.index +ℤ t.shift) (object_in w.store a.region a.object).count) Bounds line w _
      (after_tested P (list_all chosen_in_range t.chosen) Bounds line w _
      (h (record { region = a.region; object = a.object; element = unsigned_abs (pos a.index +ℤ t.shift); cell = cell_of t })))))

-- of the store, where the turns are those before
module _ {A : Type 0} (w : Held) where
  abbrev Kept : A → Held → Type 0
  Kept _ w1 = w1.turns ≤ w.turns

  kept : (x : A) (w1 : Held) → w1.turns ≡ w.turns → After Kept (Go x w1)
  kept x w1 e = record { goes = omega (arith, e) }

pub store_keeps_turns : KeepsTurns stored
store_keeps_turns = record {
  take_turn = λ w. turn w.turns w;
  get_byte = λ w. byte w.input w;
  put_byte = λ b w. kept w _ _ refl;
  new_region = λ line w. making line 0 w;
  new_subregion = λ line v w. after_region (Kept w) line w v _ (λ r. after_touching (Kept w) (lives w.store r) line w _ (making line r w));
  allocate = λ line v n layout w.
      after_region (Kept w) line w v _ (λ r.
      after_touching (Kept w) (lives w.store r) line w _
      (after_tested (Kept w) (int_le (pos 0) n) Size line w _
      (after_tested (Kept w) (nat_lt (length (view w.store r).objects) w.store.block_limit) Full line w _
      (kept w _ _ refl))));
  step = λ line v n w.
      after_address (Kept w) line w v _ (λ a.
      after_touching (Kept w) (lives w.store a.region) line w _
      (after_tested (Kept w) (is_index (pos a.index +ℤ n) (suc (object_in w.store a.region a.object).count)) Bounds line w _
      (kept w _ _ refl)));
  load = λ line t w. after_spot (Kept w) line w t _ (λ spot. kept w (value_in w.store spot) w refl);
  put = putting;
  delete = λ line held v w.
      after_region (Kept w) line w v _ (λ r.
      after_touching (Kept w) (lives w.store r) line w _
      (after_tested (Kept w) (not (nat_eq r 0)) Root line w _
      (after_tested (Kept w) (not (list_any (is_child r) w.store.regions)) Subregion line w _
      (after_tested (Kept w) (nat_eq (refs (record w.store { pins = filter (is_fresh (lives w.store)) held ++ w.store.pins }) r) 0) Reference line w _
      (kept w _ _ refl)))));
  enter = λ held w. omega arith;
  leave = λ w w1. omega arith;
}
  where
    turn : (n : ℕ) (w : Held) → After {A = Unit {0}} (λ _ w1. suc w1.turns ≤ n) (turn_in n w)
    turn zero w = record { goes = tt }
    turn (suc n) w = record { goes = omega arith }

    byte : (bytes : List ℕ) (w : Held) → After (λ _ w1. w1.turns ≤ w.turns) (byte_in bytes w)
    byte [] w = kept w _ _ refl
    byte (b ∷ rest) w = kept w _ _ refl

    making : (line p : ℕ) (w : Held) → After {A = Value} (Kept w) (made_in line p w)
    making line p w = after_tested (Kept w) (nat_le (length w.store.regions) w.store.region_limit) Full line w _ (kept w _ _ refl)

    written : (spot : Spot) (v : Value) (w : Held) → After {A = Unit {0}} (Kept w) (Go tt (with_store w (put_in spot v w.store)))
    written spot v w = record { goes = omega arith }

    putting : (proved : Bool) (line : ℕ) (t : Target) (v : Value) (w : Held) → After {A = Unit {0}} (Kept w) (stored_in proved line t v w)
    putting true line t v w = after_spot (Kept w) line w t _ (λ spot. after_touching (Kept w) (is_fresh (lives w.store) v) line w _ (written spot v w))
    putting false line t v w = after_spot (Kept w) line w t _ (λ spot.
        after_touching (Kept w) (is_fresh (lives w.store) v) line w _
        (after_tested (Kept w) (fits (parent_in w.store) (note_of (kind_in w.store spot)) spot.region v) (unfit (note_of (kind_in w.store spot))) line w _ (written spot v w)))
