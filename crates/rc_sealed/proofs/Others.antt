-- The instructions that give nothing: to a local, to a cell, a deletion, and jumps.
use Rattle.std.proofs.Common.{◌≡◌, ◌≢◌, ℕ, zero, suc, ◌+◌, ◌-◌, ◌<◌, Bool, true, false, nat_eq, List, [], ◌∷◌, ◌++◌, length, take, drop, get_or, reverse, Some, None, inl, inr, refl, sym, ap, ◌∙◌, subst, arith, rules}
use Rattle.std.specs.List.{AllByRecursion as Every, AllZip, list_any}
use Rattle.std.proofs.lemmas.Bool.{eqb-true, eq-eqb, or_cases}
use Rattle.std.proofs.lemmas.List.{length-reverse}
use Rattle.std.proofs.lemmas.List.Folds.{list_any_at}
use Rattle.rc_core.specs.declared.ty.Note.{Note}
use Rattle.rc_core.specs.declared.ty.Note.TheVariants.{Plain, SameRegion, ParentPtr, Traditional}
use Rattle.rc_core.specs.declared.ty.NumberType.TheVariants.{Int, Unsigned, Char}
use Rattle.rc_core.specs.Types.{CellKind, int_cell, unsigned_cell, char_cell, region_cell, pointer_cell}
use Rattle.rc_core.specs.Layout.{note_of}
use Rattle.rc_core.specs.Heap.{Value, Number, Null, Handle, Pointer, Address, Heap, live, parent, fits, update}
use Rattle.rc_core.specs.Runs.{Run, Go, Stopped, bind, branching, Target}
use Rattle.rc_core.specs.Evaluation.{is_true, local_at}
use Rattle.rc_core.specs.Source.{World, Spot, object_of, source}
use Rattle.rc_safety.proofs.Heaps.{NoneDies, fresh_stays}
use Rattle.rc_safety.proofs.Lists.{every_drop, every_get_or}
use Rattle.rc_rlang.specs.RegionFlow.{Effect, nothing, moved, stored, present}
use Rattle.rc_facts.specs.declared.fact.Fact.{Fact}
use Rattle.rc_annotations.specs.Annotations.{Annotation, exit_facts, asked}
use Rattle.rc_annotations.specs.Holding.{is_present, region_in}
use Rattle.rc_annotations.specs.Worlds.{Stays, Stored, Deleted, note_at}
use Rattle.rc_annotations.specs.Effects.{Happens}
use Rattle.rc_annotations.proofs.Truths.{asked_fits}
use Rattle.rc_annotations.proofs.Effects.{changed_there, changed_else}
use Rattle.rc_annotations.proofs.WorldFacts.{stays_itself, stays_heap, store_says, delete_says}
use Rattle.rc_code.specs.declared.opcode.Jump.{Jump}
use Rattle.rc_code.specs.declared.opcode.Jump.TheVariants as jump
use Rattle.rc_code.specs.declared.opcode.Simple.TheVariants as simple
use Rattle.rc_code.specs.declared.instruction.Instruction.{Instruction}
use Rattle.rc_code.specs.declared.instruction.Instruction.TheVariants as instruction
use Rattle.rc_code.specs.declared.kind.Storage.{Storage}
use Rattle.rc_code.specs.declared.kind.Storage.TheVariants as storage
use Rattle.rc_code.specs.declared.image.Function.{Function}
use Rattle.rc_code.specs.declared.image.Path.{Path}
use Rattle.rc_code.specs.declared.image.Parts.{Parts}
use Rattle.rc_code.specs.Image.{FieldsFit}
use Rattle.rc_code.specs.Running.{Reading, reading_of, function_at, path_at, cell_at, storage_of, storage_by, value_at, width, target_on, kept, pinned, line_at}
use Rattle.rc_code.specs.Soundness.{Kind, operand_kind, place_kinds, reached_kind, Sound, count_off, instruction_at, kinds_before, is_regional, local_in, IsFine}
use Rattle.rc_worlds.specs.Worlds.{watched_put}
use Rattle.rc_worlds.specs.Typed.{HasKind, Keeps}
use Rattle.rc_worlds.proofs.Stacks.{zip_length, width_is}
use Rattle.rc_claims.specs.Counts.{copies, local_variable, place}
use Rattle.rc_sealed.specs.ImageVariables.{scratch, values_of}
use Rattle.rc_sealed.specs.Carrying.{jumps_to, is_target, effect_of, effect_at, height, lowest, if_regional, Carried, Before}
use Rattle.rc_sealed.specs.Proved.{Way, CheckIsProved}
use Rattle.rc_sealed.specs.Pinned.{Used, on, deletes, IsNumeric, PinsAll, PinsWhat}
use Rattle.rc_sealed.specs.AllProved.{AllProved}
use Rattle.rc_sealed.proofs.Safe.{FreshIn, Quiet, none_dies, goes_quietly, quiet_both, quiet_more, quiet_turn, AtSpot, store_quiet, watched_is_store, Spared, Deletes, delete_spares}
use Rattle.rc_sealed.proofs.Values.{place_value, local_set, other_set, pushed_at, pushed_same}
use Rattle.rc_sealed.proofs.Carry.{Hold, follows_hold, next_hold, target_hold}
use Rattle.rc_sealed.proofs.Crossing.{Here, every_fresh, carries, carries_to}
use Rattle.rc_sealed.proofs.Operands.{lowest_of_one, target_pointer, regional_local, numbers_are_fresh}
use Rattle.rc_sealed.proofs.Instructions.{Outcome, At, NextHere, Follow, image, low, high, ground, low_value, low_fresh, place_below, falls}
use Rattle.rc_sealed.proofs.Acts.{note_is}
use Rattle.rc_sealed.proofs.Acts as A

-- ---- values

kept_regional : (s : Storage) (v : Value) → is_regional s ≡ true → kept s v ≡ v
kept_regional (storage.Number n) v e = cc
kept_regional storage.Region v e = refl
kept_regional (storage.Pointer t) v e = refl

pub kept_fresh : (w : World) (s : Storage) (v : Value) → FreshIn w v → FreshIn w (kept s v)
kept_fresh w (storage.Number Int) v e = e
kept_fresh w (storage.Number Unsigned) v e = e
kept_fresh w (storage.Number Char) v e = refl
kept_fresh w storage.Region v e = e
kept_fresh w (storage.Pointer t) v e = e

local_after : (P : Value → Type 0) (env : List Value) (x y : ℕ) (v : Value) → P v → P Null → (nat_eq y x ≡ false → P (get_or env y Null)) → P (get_or (update env x (λ _. v)) y Null)
local_after P [] x y v new none old = none
local_after P (u ∷ env) zero zero v new none old = new
local_after P (u ∷ env) zero (suc y) v new none old = old (search rules)
local_after P (u ∷ env) (suc x) zero v new none old = old (search rules)
local_after P (u ∷ env) (suc x) (suc y) v new none old = local_after P env x y v new none (λ e. old ((let k : nat_eq (suc y) (suc x) ≡ nat_eq y x = search rules in k) ∙ e))

pub numeric_local : (parts : Parts) (ss : List Storage) (env : List Value) (x : ℕ) (heap : Heap) (w : World) (im : Rattle.rc_worlds.specs.Worlds.Compared) → AllZip (Keeps im heap) ss env → is_regional (get_or ss x storage.Region) ≡ false → FreshIn w (get_or env x Null)
numeric_local parts [] [] x heap w im all e = refl
numeric_local parts [] (v ∷ env) x heap w im all e = absurd all
numeric_local parts (s ∷ ss) [] x heap w im all e = absurd all
numeric_local parts (s ∷ ss) (v ∷ env) zero heap w im all e = by s v e all.0.kind
  where
    by : (s : Storage) (v : Value) → is_regional s ≡ false → HasKind im heap (operand_kind s) v → FreshIn w v
    by (storage.Number n) (Number z) e is = refl
    by (storage.Number n) Null e is = absurd is.suits
    by (storage.Number n) (Handle r) e is = absurd is.suits
    by (storage.Number n) (Pointer a) e is = absurd is.suits
    by storage.Region v e is = cc
    by (storage.Pointer t) v e is = cc
numeric_local parts (s ∷ ss) (v ∷ env) (suc x) heap w im all e = numeric_local parts ss env x heap w im all.1 e

pub pinned_is : (P : Value → Type 0) (env : List Value) (pins : List ℕ) (x : ℕ) → list_any (nat_eq x) pins ≡ true → Every P (pinned pins env) → P (local_at env x)
pinned_is P env [] x e all = cc
pinned_is P env (y ∷ pins) x e all = elim (or_cases (nat_eq x y) (list_any (nat_eq x) pins) e) [
  | inl same ↦ subst (λ z. P (local_at env z)) (sym (eqb-true x y same)) all.0
  | inr more ↦ pinned_is P env pins x more all.1
]

-- a value as it is kept in a cell fits as it fitted, and the other way round
kept_fits : (numbered : _) (cell : CellKind) (ps : ℕ → ℕ) (h : ℕ) (v : Value) → fits ps (note_of cell) h v ≡ true → fits ps (note_of cell) h (kept (storage_by numbered cell) v) ≡ true
kept_fits numbered int_cell ps h v e = refl
kept_fits numbered unsigned_cell ps h v e = refl
kept_fits numbered char_cell ps h v e = refl
kept_fits numbered region_cell ps h v e = refl
kept_fits numbered (pointer_cell note t) ps h v e = e

unkept_fits : (numbered : _) (cell : CellKind) (ps : ℕ → ℕ) (h : ℕ) (v : Value) → fits ps (note_of cell) h (kept (storage_by numbered cell) v) ≡ true → fits ps (note_of cell) h v ≡ true
unkept_fits numbered int_cell ps h v e = refl
unkept_fits numbered unsigned_cell ps h v e = refl
unkept_fits numbered char_cell ps h v e = refl
unkept_fits numbered region_cell ps h v e = refl
unkept_fits numbered (pointer_cell note t) ps h v e = e

module _ (parts : Parts) (fields : FieldsFit parts) (rules : Sound parts) (proofs : Annotation) (all : AllProved parts proofs) (g : ℕ) (there : g < length parts.functions) (at : ℕ) (inside : at < length (function_at (reading_of parts) g).code) (copied : List Value) (whole : length copied ≡ copies (function_at (reading_of parts) g)) where
  abbrev pub code : Reading
  code = reading_of parts

  abbrev pub f : Function
  f = function_at code g

  abbrev im : Rattle.rc_worlds.specs.Worlds.Compared
  im = image parts fields rules proofs all

  abbrev State : (st env : List Value) (w : World) → Type 0
  State st env w = At parts fields rules proofs all g there at inside copied whole st env w

  abbrev Leads : Rattle.rc_code.specs.Running.Next → World → Type 0
  Leads = NextHere parts fields rules proofs all g there at inside copied whole

  abbrev effect_here : Instruction → Effect
  effect_here i = effect_of code f (lowest code f at) (height code f at - 1) i

  pop_acts : instruction_at f at ≡ instruction.Simple simple.Pop → Follow parts fields rules proofs all g there at inside copied whole (instruction.Simple simple.Pop)
  pop_acts is st env w s =
      falls parts fields rules proofs all g there at inside copied whole (instruction.Simple simple.Pop) is 1 refl st env w s refl (λ x e. cc) nothing refl refl (Go tt w)
      (goes_quietly w w _ tt (none_dies w) (stays_itself w s.sane, ((λ u lt. refl), tt)))

  -- the highest operand
  pub top_value : (st env : List Value) (w : World) → State st env w → (k : Kind) (below : List Kind) → kinds_before code f at ≡ k ∷ below → values_of f copied env st (place f (height code f at - 1)) ≡ value_at st 0
  top_value [] env w s k below e = absurd (nothing_there (kinds_before code f at) s.kinds e)
    where
      nothing_there : (ks : List Kind) → AllZip (HasKind im w.heap) ks [] → ks ≡ k ∷ below → ⊥
      nothing_there [] all e = absurd cc
      nothing_there (j ∷ ks) all e = all
  top_value (v ∷ st) env w s k below e =
      let l = zip_length (HasKind im w.heap) (kinds_before code f at) (v ∷ st) s.kinds in
      ap (λ j. values_of f copied env (v ∷ st) (place f j)) (let q : height code f at - 1 ≡ length st = omega (arith, l) in q) ∙ place_value f copied whole env (v ∷ st) (length st) ∙ pushed_at v st

  set_acts : (x : ℕ) → x < length f.locals → instruction_at f at ≡ instruction.Set x → IsFine true code f at (instruction.Set x) → Follow parts fields rules proofs all g there at inside copied whole (instruction.Set x)
  set_acts x lt is fine st env w s = record {
    holds = (
      stays_itself w s.sane,
      (λ _. none_dies w),
      (
        suc at,
        (let e : suc at ≡ suc at + 0 = omega arith in e),
        record {
          facts = next_hold code proofs g at (values_of f copied env1 (drop 1 st)) w.heap s.sane.rooted (all.proved g at there inside) (subst (λ j. Way j at (suc at)) (sym is) refl) (by (is_regional (local_in f x)) refl);
          stack = every_drop (FreshIn w) 1 st s.here.stack;
          used = λ y u. local_after (FreshIn w) env x y (kept (local_in f x) (value_at st 0)) fresh refl (λ other. s.here.used y (on (λ e. apart y other (sym is ∙ e)) (subst (λ j. Way j at (suc at)) (sym is) refl) u));
        },
      ),
    );
  }
    where
      env1 : List Value
      env1 = update env x (λ _. kept (local_in f x) (value_at st 0))

      fresh : FreshIn w (kept (local_in f x) (value_at st 0))
      fresh = kept_fresh w (local_in f x) (value_at st 0) (every_get_or (FreshIn w) st 0 Null refl s.here.stack)

      apart : (y : ℕ) → nat_eq y x ≡ false → instruction.Set x ≡ instruction.Set y → ⊥
      apart y other e = let same : x ≡ y = cc in absurd (differ (nat_eq y x) (eq-eqb y x (sym same)) other)
        where
          differ : (b : Bool) → b ≡ true → b ≡ false → ⊥
          differ true e e1 = absurd cc
          differ false e e1 = absurd cc

      long : length env ≡ length f.locals
      long = zip_length (Keeps im w.heap) f.locals env s.locals

      by : (b : Bool) → is_regional (local_in f x) ≡ b → Hold (Carried code proofs g at (Before code proofs g at)) (values_of f copied env1 (drop 1 st)) w.heap
      by true e =
          let v = kept (local_in f x) (value_at st 0) in
          let same : v ≡ value_at st 0 = kept_regional (local_in f x) (value_at st 0) e in
          let lo = low parts fields rules proofs all g there at inside copied whole (instruction.Set x) is 1 refl st env w s in
          let hi = high parts fields rules proofs all g there at inside copied whole (instruction.Set x) is 1 refl st env w s in
          carries_to parts proofs all g there at inside copied whole [] 1 st env lo hi (omega arith) w w s.here (ground parts fields rules proofs all g there at inside copied whole (instruction.Set x) is 1 refl st env w s) (stays_itself w s.sane)
          (moved (local_variable f x) (place f (height code f at - 1))) (ap (effect_of code f (lowest code f at) (height code f at - 1)) is ∙ ap (λ b. if_regional b (moved (local_variable f x) (place f (height code f at - 1)))) e)
          (local_variable f x) v env1 refl
          (Rattle.rc_sealed.proofs.Carry.moved_happens (exit_facts proofs) (scratch code f) (values_of f copied env st) v w.heap (local_variable f x) (place f (height code f at - 1))
          (place_below parts fields rules proofs all g there at inside copied whole (height code f at - 1) (omega arith)) (same ∙ sym (top_value st env w s (operand_kind (local_in f x)) fine.operands.0 fine.operands.1)))
          (λ u is_x. local_set f copied whole env (drop 1 st) x v u long (regional_local f x true lt e) ∙ changed_there (values_of f copied env (drop 1 st)) (local_variable f x) v u (eqb-true u _ is_x))
          (λ u other. local_set f copied whole env (drop 1 st) x v u long (regional_local f x true lt e) ∙ changed_else (values_of f copied env (drop 1 st)) (local_variable f x) v u other)
      by false e =
          let lo = low parts fields rules proofs all g there at inside copied whole (instruction.Set x) is 1 refl st env w s in
          let hi = high parts fields rules proofs all g there at inside copied whole (instruction.Set x) is 1 refl st env w s in
          subst (λ values. Hold (Carried code proofs g at (Before code proofs g at)) values w.heap) (sym (other_set f copied whole env (drop 1 st) x _ long (regional_local f x false lt e)))
          (carries parts proofs all g there at inside copied whole [] 1 st env lo hi (omega arith) w w s.here (ground parts fields rules proofs all g there at inside copied whole (instruction.Set x) is 1 refl st env w s) (stays_itself w s.sane)
          nothing (ap (effect_of code f (lowest code f at) (height code f at - 1)) is ∙ ap (λ b. if_regional b (moved (local_variable f x) (place f (height code f at - 1)))) e) refl ((λ u lt. refl), tt))

  -- ---- stores

  store_acts : (path : ℕ) (proved : Bool) → instruction_at f at ≡ instruction.Store path proved → IsFine true code f at (instruction.Store path proved) → Follow parts fields rules proofs all g there at inside copied whole (instruction.Store path proved)
  store_acts path proved is fine [] env w s = absurd (none (subst (λ ks. AllZip (HasKind im w.heap) ks []) fine.operands.1 s.kinds))
    where
      none : AllZip (HasKind im w.heap) (reached_kind code (path_at code path) ∷ (reverse (place_kinds (path_at code path)) ++ fine.operands.0)) [] → ⊥
      none all = all
  store_acts path proved is fine (v ∷ st) env w s = falls parts fields rules proofs all g there at inside copied whole (instruction.Store path proved) is (suc (width p)) (ap suc count) (v ∷ st) env w s refl (λ x e. cc) (stored hi lo note) refl refl _ (put proved refl)
    where
      p : Path
      p = path_at code path

      t : Target
      t = target_on p st

      note : Note
      note = note_of (cell_at code p)

      line : ℕ
      line = line_at f at

      lo : ℕ
      lo = place f (lowest code f at)

      hi : ℕ
      hi = place f (height code f at - 1)

      u : Value
      u = kept (storage_of code (cell_at code p)) v

      count : length (reverse (place_kinds p)) ≡ width p
      count = length-reverse (place_kinds p) ∙ sym (width_is im p)

      kinds : AllZip (HasKind im w.heap) (reverse (place_kinds p) ++ fine.operands.0) st
      kinds = (subst (λ ks. AllZip (HasKind im w.heap) ks (v ∷ st)) fine.operands.1 s.kinds).1

      longer : (n : ℕ) (ks below : List Kind) (vs : List Value) → n ≡ length ks → 0 < n → AllZip (HasKind im w.heap) (ks ++ below) vs → 0 < length (take n vs)
      longer n [] below vs e lt all = absurd (omega (arith, e, lt))
      longer n (k ∷ ks) below [] e lt all = absurd all
      longer zero (k ∷ ks) below (x ∷ vs) e lt all = absurd (omega (arith, lt))
      longer (suc n) (k ∷ ks) below (x ∷ vs) e lt all = omega arith

      lowest_is : value_at (reverse (take (suc (width p)) (v ∷ st))) 0 ≡ t.pointer
      lowest_is = pushed_same v (take (width p) st) 0 (longer (width p) (reverse (place_kinds p)) fine.operands.0 st (sym count) (omega arith) kinds) ∙ sym (target_pointer p st)

      low_is : values_of f copied env (v ∷ st) lo ≡ t.pointer
      low_is = low_value parts fields rules proofs all g there at inside copied whole (instruction.Store path proved) is (suc (width p)) (ap suc count) (v ∷ st) env w s ∙ lowest_is

      high_is : values_of f copied env (v ∷ st) hi ≡ v
      high_is = top_value (v ∷ st) env w s (reached_kind code p) _ fine.operands.1

      fresh : FreshIn w t.pointer
      fresh = subst (FreshIn w) lowest_is (low_fresh parts fields rules proofs all g there at inside copied whole (instruction.Store path proved) is (suc (width p)) (ap suc count) (v ∷ st) env w s)

      says : Quiet w (λ _ w1. Stays w w1 × Happens (scratch code f) (scratch code f) (exit_facts proofs) None (stored hi lo note) (values_of f copied env (v ∷ st)) (values_of f copied env (v ∷ st)) w1.heap) (source.store line t u w)
      says = quiet_more w _ _ _
          (quiet_both w (λ _ w1. note_at w.heap t ≡ note) (Stored w t u) (source.store line t u w)
          (store_quiet (note_at w.heap t ≡ note) line t u w fresh (kept_fresh w (storage_of code (cell_at code p)) v s.here.stack.0) (Rattle.rc_sealed.proofs.Acts.note_there parts fields rules proofs all g there at inside copied whole path fine.names.0 fine.operands.0 st w kinds))
          (store_says line t u w s.sane).holds)
          (λ _ w1 none k. (
            k.1.0,
            (
              (λ x lt. refl),
              (
                subst is_present (sym low_is) k.1.1,
                unkept_fits code.numbered (cell_at code p) (parent w1.heap) (region_in (values_of f copied env (v ∷ st) lo)) (values_of f copied env (v ∷ st) hi)
                    (ap (λ z. fits (parent w1.heap) note (region_in z) (kept (storage_of code (cell_at code p)) (values_of f copied env (v ∷ st) hi))) low_is ∙ ap (λ z. fits (parent w1.heap) note (region_in t.pointer) (kept (storage_of code (cell_at code p)) z)) high_is ∙ ap (λ n. fits (parent w1.heap) n (region_in t.pointer) u) (sym k.0) ∙ k.1.2),
              ),
            ),
          ))

      -- the check of a marked store lets the value through
      passes : proved ≡ true → (a : Address) (spot : Spot) → AtSpot w t a spot → fits (parent w.heap) (note_of (get_or (object_of w.heap spot).layout spot.cell int_cell)) spot.region u ≡ true
      passes e a spot is_spot =
          ap (λ n. fits (parent w.heap) n spot.region u) (note_is parts fields rules proofs all g there at inside copied whole path fine.names.0 fine.operands.0 st w kinds a spot is_spot)
          ∙ ap (λ r. fits (parent w.heap) note r u) is_spot.there.0
          ∙ kept_fits code.numbered (cell_at code p) (parent w.heap) a.region v (ap (λ z. fits (parent w.heap) note a.region z) (sym high_is) ∙ ap (λ r. fits (parent w.heap) note r (values_of f copied env (v ∷ st) hi)) (ap region_in (sym (low_is ∙ is_spot.pointer))) ∙ by note refl)
        where
          check : (fact : Fact) → asked note hi lo ≡ Some fact → Rattle.rc_sealed.specs.Carrying.Follows (Rattle.rc_sealed.specs.ImageVariables.variables code f) (Before code proofs g at) fact
          check = subst (CheckIsProved code proofs g at) (is ∙ ap (instruction.Store path) e) (all.proved g at there inside).check

          it_fits : (fact : Fact) → asked note hi lo ≡ Some fact → fits (parent w.heap) note (region_in (values_of f copied env (v ∷ st) lo)) (values_of f copied env (v ∷ st) hi) ≡ true
          it_fits fact e = asked_fits note hi lo fact (values_of f copied env (v ∷ st)) w.heap e (follows_hold (Rattle.rc_sealed.specs.ImageVariables.variables code f) (Before code proofs g at) (values_of f copied env (v ∷ st)) w.heap s.sane.rooted s.here.facts fact (check fact e))

          by : (n : Note) → note ≡ n → fits (parent w.heap) note (region_in (values_of f copied env (v ∷ st) lo)) (values_of f copied env (v ∷ st) hi) ≡ true
          by Plain e = ap (λ n. fits (parent w.heap) n (region_in (values_of f copied env (v ∷ st) lo)) (values_of f copied env (v ∷ st) hi)) e
          by SameRegion e = it_fits _ (ap (λ n. asked n hi lo) e)
          by ParentPtr e = it_fits _ (ap (λ n. asked n hi lo) e)
          by Traditional e = it_fits _ (ap (λ n. asked n hi lo) e)

      put : (b : Bool) → proved ≡ b → Quiet w (λ _ w1. Stays w w1 × Happens (scratch code f) (scratch code f) (exit_facts proofs) None (stored hi lo note) (values_of f copied env (v ∷ st)) (values_of f copied env (v ∷ st)) w1.heap) (watched_put false proved line t u w)
      put false e = subst (λ b. Quiet w (λ _ w1. Stays w w1 × Happens (scratch code f) (scratch code f) (exit_facts proofs) None (stored hi lo note) (values_of f copied env (v ∷ st)) (values_of f copied env (v ∷ st)) w1.heap) (watched_put false b line t u w)) (sym e) says
      put true e = subst (λ b. Quiet w (λ _ w1. Stays w w1 × Happens (scratch code f) (scratch code f) (exit_facts proofs) None (stored hi lo note) (values_of f copied env (v ∷ st)) (values_of f copied env (v ∷ st)) w1.heap) (watched_put false b line t u w)) (sym e) (subst (Quiet w (λ _ w1. Stays w w1 × Happens (scratch code f) (scratch code f) (exit_facts proofs) None (stored hi lo note) (values_of f copied env (v ∷ st)) (values_of f copied env (v ∷ st)) w1.heap)) (sym (watched_is_store line t u w (passes e))) says)

  -- a store with the mark, at any line: it is the store with its check, and touches no dead region
  pub record MarkHolds (path : ℕ) (st : List Value) (w : World) : Type 0 where
    pub same : (line : ℕ) → watched_put false true line (target_on (path_at code path) (drop 1 st)) (kept (storage_of code (cell_at code (path_at code path))) (value_at st 0)) w ≡ source.store line (target_on (path_at code path) (drop 1 st)) (kept (storage_of code (cell_at code (path_at code path))) (value_at st 0)) w
    pub quiet : (line : ℕ) → Quiet w (λ _ w1. Unit {0}) (source.store line (target_on (path_at code path) (drop 1 st)) (kept (storage_of code (cell_at code (path_at code path))) (value_at st 0)) w)

  pub mark_holds : (path : ℕ) → instruction_at f at ≡ instruction.Store path true → IsFine true code f at (instruction.Store path true) → (st env : List Value) (w : World) → State st env w → MarkHolds path st w
  mark_holds path is fine [] env w s = absurd (none (subst (λ ks. AllZip (HasKind im w.heap) ks []) fine.operands.1 s.kinds))
    where
      none : AllZip (HasKind im w.heap) (reached_kind code (path_at code path) ∷ (reverse (place_kinds (path_at code path)) ++ fine.operands.0)) [] → ⊥
      none all = all
  mark_holds path is fine (v ∷ st) env w s = record { same = λ line. watched_is_store line t u w (passes refl); quiet = λ line. store_quiet (Unit {0}) line t u w fresh (kept_fresh w (storage_of code (cell_at code p)) v s.here.stack.0) (λ a spot is. tt) }
    where
      p : Path
      p = path_at code path

      t : Target
      t = target_on p st

      note : Note
      note = note_of (cell_at code p)

      lo : ℕ
      lo = place f (lowest code f at)

      hi : ℕ
      hi = place f (height code f at - 1)

      u : Value
      u = kept (storage_of code (cell_at code p)) v

      count : length (reverse (place_kinds p)) ≡ width p
      count = length-reverse (place_kinds p) ∙ sym (width_is im p)

      kinds : AllZip (HasKind im w.heap) (reverse (place_kinds p) ++ fine.operands.0) st
      kinds = (subst (λ ks. AllZip (HasKind im w.heap) ks (v ∷ st)) fine.operands.1 s.kinds).1

      longer : (n : ℕ) (ks below : List Kind) (vs : List Value) → n ≡ length ks → 0 < n → AllZip (HasKind im w.heap) (ks ++ below) vs → 0 < length (take n vs)
      longer n [] below vs e lt all = absurd (omega (arith, e, lt))
      longer n (k ∷ ks) below [] e lt all = absurd all
      longer zero (k ∷ ks) below (x ∷ vs) e lt all = absurd (omega (arith, lt))
      longer (suc n) (k ∷ ks) below (x ∷ vs) e lt all = omega arith

      lowest_is : value_at (reverse (take (suc (width p)) (v ∷ st))) 0 ≡ t.pointer
      lowest_is = pushed_same v (take (width p) st) 0 (longer (width p) (reverse (place_kinds p)) fine.operands.0 st (sym count) (omega arith) kinds) ∙ sym (target_pointer p st)

      low_is : values_of f copied env (v ∷ st) lo ≡ t.pointer
      low_is = low_value parts fields rules proofs all g there at inside copied whole (instruction.Store path true) is (suc (width p)) (ap suc count) (v ∷ st) env w s ∙ lowest_is

      high_is : values_of f copied env (v ∷ st) hi ≡ v
      high_is = top_value (v ∷ st) env w s (reached_kind code p) _ fine.operands.1

      fresh : FreshIn w t.pointer
      fresh = subst (FreshIn w) lowest_is (low_fresh parts fields rules proofs all g there at inside copied whole (instruction.Store path true) is (suc (width p)) (ap suc count) (v ∷ st) env w s)

      -- the check of a marked store lets the value through
      passes : true ≡ true → (a : Address) (spot : Spot) → AtSpot w t a spot → fits (parent w.heap) (note_of (get_or (object_of w.heap spot).layout spot.cell int_cell)) spot.region u ≡ true
      passes e a spot is_spot =
          ap (λ n. fits (parent w.heap) n spot.region u) (note_is parts fields rules proofs all g there at inside copied whole path fine.names.0 fine.operands.0 st w kinds a spot is_spot)
          ∙ ap (λ r. fits (parent w.heap) note r u) is_spot.there.0
          ∙ kept_fits code.numbered (cell_at code p) (parent w.heap) a.region v (ap (λ z. fits (parent w.heap) note a.region z) (sym high_is) ∙ ap (λ r. fits (parent w.heap) note r (values_of f copied env (v ∷ st) hi)) (ap region_in (sym (low_is ∙ is_spot.pointer))) ∙ by note refl)
        where
          check : (fact : Fact) → asked note hi lo ≡ Some fact → Rattle.rc_sealed.specs.Carrying.Follows (Rattle.rc_sealed.specs.ImageVariables.variables code f) (Before code proofs g at) fact
          check = subst (CheckIsProved code proofs g at) (is ∙ ap (instruction.Store path) e) (all.proved g at there inside).check

          it_fits : (fact : Fact) → asked note hi lo ≡ Some fact → fits (parent w.heap) note (region_in (values_of f copied env (v ∷ st) lo)) (values_of f copied env (v ∷ st) hi) ≡ true
          it_fits fact e = asked_fits note hi lo fact (values_of f copied env (v ∷ st)) w.heap e (follows_hold (Rattle.rc_sealed.specs.ImageVariables.variables code f) (Before code proofs g at) (values_of f copied env (v ∷ st)) w.heap s.sane.rooted s.here.facts fact (check fact e))

          by : (n : Note) → note ≡ n → fits (parent w.heap) note (region_in (values_of f copied env (v ∷ st) lo)) (values_of f copied env (v ∷ st) hi) ≡ true
          by Plain e = ap (λ n. fits (parent w.heap) n (region_in (values_of f copied env (v ∷ st) lo)) (values_of f copied env (v ∷ st) hi)) e
          by SameRegion e = it_fits _ (ap (λ n. asked n hi lo) e)
          by ParentPtr e = it_fits _ (ap (λ n. asked n hi lo) e)
          by Traditional e = it_fits _ (ap (λ n. asked n hi lo) e)

  -- ---- deletions

  delete_acts : (pins : List ℕ) → instruction_at f at ≡ instruction.Delete pins → IsFine true code f at (instruction.Delete pins) → Follow parts fields rules proofs all g there at inside copied whole (instruction.Delete pins)
  delete_acts pins is fine st env w s = by (source.delete line held (value_at st 0) w) (delete_spares line held (value_at st 0) w fresh) (delete_says line held (value_at st 0) w s.sane).holds
    where
      line : ℕ
      line = line_at f at

      held : List Value
      held = pinned pins env

      fresh : FreshIn w (value_at st 0)
      fresh = every_get_or (FreshIn w) st 0 Null refl s.here.stack

      lo : ℕ
      lo = place f (lowest code f at)

      low_is : values_of f copied env st lo ≡ value_at st 0
      low_is = low_value parts fields rules proofs all g there at inside copied whole (instruction.Delete pins) is 1 refl st env w s ∙ lowest_of_one st

      pins_all : PinsAll code f at pins
      pins_all = subst (PinsWhat code g at) is (all.pinned g at there inside)

      below : Every IsNumeric (drop 1 (kinds_before code f at))
      below = subst (λ j. Every IsNumeric (drop (count_off code f j) (kinds_before code f at))) is pins_all.below

      zip_dropped : {A B : Type 0} (R : A → B → Type 0) (xs : List A) (ys : List B) → AllZip R xs ys → AllZip R (drop 1 xs) (drop 1 ys)
      zip_dropped R [] [] all = tt
      zip_dropped R [] (y ∷ ys) all = absurd all
      zip_dropped R (x ∷ xs) [] all = absurd all
      zip_dropped R (x ∷ xs) (y ∷ ys) all = all.1

      way : Way (instruction_at f at) at (suc at)
      way = subst (λ j. Way j at (suc at)) (sym is) refl

      still : (w1 : World) → Every (Spared w w1) held → (x : ℕ) → Used f x (suc at) → FreshIn w1 (local_at env x)
      still w1 spared x u = by (is_regional (local_in f x)) refl
        where
          not_set : instruction_at f at ≡ instruction.Set x → ⊥
          not_set e = let k : instruction.Delete pins ≡ instruction.Set x = sym is ∙ e in absurd cc

          by : (b : Bool) → is_regional (local_in f x) ≡ b → FreshIn w1 (local_at env x)
          by true e = pinned_is (Spared w w1) env pins x (pins_all.locals x e (record { to = suc at; way = way; used = u })) spared (s.here.used x (on not_set way u))
          by false e = numeric_local parts f.locals env x w.heap w1 im s.locals e

      by : (m : Run World (Unit {0})) → Deletes w held m → Rattle.rc_core.specs.Laws.IfGoes (Deleted w (value_at st 0)) m → Outcome code g w Leads (bind m (λ _. Go (Rattle.rc_code.specs.Running.onward 0 (drop 1 st) env)))
      by (Stopped stop w1) d says = record { holds = d }
      by (Go x w1) d says = record {
        holds = (
          says.0,
          (λ never. absurd (never (deletes at inside pins is))),
          (
            suc at,
            (let e : suc at ≡ suc at + 0 = omega arith in e),
            record {
              facts = next_hold code proofs g at (values_of f copied env (drop 1 st)) w1.heap says.0.sane.rooted (all.proved g at there inside) way
                  (carries parts proofs all g there at inside copied whole [] 1 st env (low parts fields rules proofs all g there at inside copied whole (instruction.Delete pins) is 1 refl st env w s) (high parts fields rules proofs all g there at inside copied whole (instruction.Delete pins) is 1 refl st env w s) (omega arith) w w1 s.here (ground parts fields rules proofs all g there at inside copied whole (instruction.Delete pins) is 1 refl st env w s) says.0
                  (present lo) (ap (effect_of code f (lowest code f at) (height code f at - 1)) is) refl ((λ u lt. refl), subst is_present (sym low_is) says.1));
              stack = numbers_are_fresh im w.heap w1 (drop 1 (kinds_before code f at)) (drop 1 st) below (zip_dropped (HasKind im w.heap) (kinds_before code f at) st s.kinds);
              used = still w1 d;
            },
          ),
        );
      }

  -- ---- jumps

  jumped : (row : Jump) (to : ℕ) → instruction_at f at ≡ instruction.Jump row to → is_target f to ≡ true
  jumped row to is = list_any_at (jumps_to to) f.code at (instruction.Simple simple.Return) inside (ap (jumps_to to) is ∙ eq-eqb to to refl)

  -- at a target, with the operands that a jump leaves
  arrives : (row : Jump) (to : ℕ) → (is : instruction_at f at ≡ instruction.Jump row to) → (n : ℕ) → (count : count_off code f (instruction.Jump row to) ≡ n) → effect_here (instruction.Jump row to) ≡ nothing → Way (instruction.Jump row to) at to
      → (st env : List Value) (w : World) → State st env w → (w1 : World) → NoneDies (live w.heap) (live w1.heap) → Stays w w1 → Here parts proofs g to copied (drop n st) env w1
  arrives row to is n count e way st env w s w1 none stays = record {
    facts = target_hold code proofs g at to (values_of f copied env (drop n st)) w1.heap stays.sane.rooted (all.proved g at there inside) (subst (λ j. Way j at to) (sym is) way) (jumped row to is)
        (carries parts proofs all g there at inside copied whole [] n st env (low parts fields rules proofs all g there at inside copied whole (instruction.Jump row to) is n count st env w s) (high parts fields rules proofs all g there at inside copied whole (instruction.Jump row to) is n count st env w s) (omega arith) w w1 s.here (ground parts fields rules proofs all g there at inside copied whole (instruction.Jump row to) is n count st env w s) stays
        nothing (ap (effect_of code f (lowest code f at) (height code f at - 1)) is ∙ e) refl ((λ u lt. refl), tt));
    stack = every_fresh w w1 none (drop n st) (every_drop (FreshIn w) n st s.here.stack);
    used = λ x u. fresh_stays (live w.heap) (live w1.heap) none (local_at env x) (s.here.used x (on (λ e. not_set x (sym is ∙ e)) (subst (λ j. Way j at to) (sym is) way) u));
  }
    where
      not_set : (x : ℕ) → instruction.Jump row to ≡ instruction.Set x → ⊥
      not_set x e = absurd cc

  ahead : (to : ℕ) → at < to → to ≡ suc at + (to - suc at)
  ahead to lt = omega arith

  jump_acts : (to : ℕ) → instruction_at f at ≡ instruction.Jump jump.Always to → IsFine true code f at (instruction.Jump jump.Always to) → Follow parts fields rules proofs all g there at inside copied whole (instruction.Jump jump.Always to)
  jump_acts to is fine st env w s = record {
    holds = (stays_itself w s.sane, (λ _. none_dies w), (to, ahead to fine.targets.0, arrives jump.Always to is 0 refl refl refl st env w s w (none_dies w) (stays_itself w s.sane)));
  }

  jump_zero_acts : (to : ℕ) → instruction_at f at ≡ instruction.Jump jump.IfZero to → IsFine true code f at (instruction.Jump jump.IfZero to) → Follow parts fields rules proofs all g there at inside copied whole (instruction.Jump jump.IfZero to)
  jump_zero_acts to is fine st env w s = by (is_true (value_at st 0))
    where
      by : (b : Bool) → Outcome code g w Leads (branching b (Go (Rattle.rc_code.specs.Running.onward 0 (drop 1 st) env)) (Go (Rattle.rc_code.specs.Running.onward (to - suc at) (drop 1 st) env)) w)
      by true = falls parts fields rules proofs all g there at inside copied whole (instruction.Jump jump.IfZero to) is 1 refl st env w s (inr refl) (λ x e. cc) nothing refl refl (Go tt w) (goes_quietly w w _ tt (none_dies w) (stays_itself w s.sane, ((λ u lt. refl), tt)))
      by false = record {
        holds = (stays_itself w s.sane, (λ _. none_dies w), (to, ahead to fine.targets.0, arrives jump.IfZero to is 1 refl refl (inl refl) st env w s w (none_dies w) (stays_itself w s.sane)));
      }

  back_acts : (to : ℕ) → instruction_at f at ≡ instruction.Jump jump.Back to → Follow parts fields rules proofs all g there at inside copied whole (instruction.Jump jump.Back to)
  back_acts to is st env w s = by (source.take_turn w) (quiet_turn w)
    where
      by : (m : Run World (Unit {0})) → Quiet w (λ _ w1. w1.heap ≡ w.heap) m → Outcome code g w Leads (bind m (λ _. Go (Rattle.rc_code.specs.Running.backward to st env)))
      by (Stopped stop w1) q = record { holds = q.holds }
      by (Go x w1) q =
          let stays = stays_heap w w1 s.sane q.holds.1 in
          record { holds = (stays, (λ _. q.holds.0), arrives jump.Back to is 0 refl refl refl st env w s w1 q.holds.0 stays) }

  -- ---- every instruction that stays in its function

  simple_acts : (row : Rattle.rc_code.specs.declared.opcode.Simple.Simple) → (row ≢ simple.Return) → instruction_at f at ≡ instruction.Simple row → Follow parts fields rules proofs all g there at inside copied whole (instruction.Simple row)
  simple_acts simple.NullRegion apart is = A.null_region_acts parts fields rules proofs all g there at inside copied whole is
  simple_acts simple.SameRegion apart is = A.same_region_acts parts fields rules proofs all g there at inside copied whole is
  simple_acts simple.IsZero apart is = A.zero_test_acts parts fields rules proofs all g there at inside copied whole is
  simple_acts simple.IsNullRegion apart is = A.null_region_test_acts parts fields rules proofs all g there at inside copied whole is
  simple_acts simple.ToInt apart is = A.to_int_acts parts fields rules proofs all g there at inside copied whole is
  simple_acts simple.ToUnsigned apart is = A.to_unsigned_acts parts fields rules proofs all g there at inside copied whole is
  simple_acts simple.ToChar apart is = A.to_char_acts parts fields rules proofs all g there at inside copied whole is
  simple_acts simple.NewRegion apart is = A.new_region_acts parts fields rules proofs all g there at inside copied whole is
  simple_acts simple.NewSubregion apart is = A.new_subregion_acts parts fields rules proofs all g there at inside copied whole is
  simple_acts simple.Return apart is = absurd (apart refl)
  simple_acts simple.PutChar apart is = A.putchar_acts parts fields rules proofs all g there at inside copied whole is
  simple_acts simple.GetChar apart is = A.getchar_acts parts fields rules proofs all g there at inside copied whole is
  simple_acts simple.Pop apart is = pop_acts is

  jump_row_acts : (row : Jump) (to : ℕ) → instruction_at f at ≡ instruction.Jump row to → IsFine true code f at (instruction.Jump row to) → Follow parts fields rules proofs all g there at inside copied whole (instruction.Jump row to)
  jump_row_acts jump.Always to is fine = jump_acts to is fine
  jump_row_acts jump.IfZero to is fine = jump_zero_acts to is fine
  jump_row_acts jump.Back to is fine = back_acts to is

  abbrev pub IsInside : Instruction → Type 0
  IsInside (instruction.Call h pins) = ⊥
  IsInside (instruction.Simple row) = row ≢ simple.Return
  IsInside i = Unit {0}

  pub follows : (i : Instruction) → IsInside i → instruction_at f at ≡ i → IsFine true code f at i → Follow parts fields rules proofs all g there at inside copied whole i
  follows (instruction.Constant k n) stays is fine = A.constant_acts parts fields rules proofs all g there at inside copied whole k n is
  follows (instruction.Global n) stays is fine = A.global_acts parts fields rules proofs all g there at inside copied whole n is
  follows (instruction.Get x) stays is fine = A.get_acts parts fields rules proofs all g there at inside copied whole x fine.names is
  follows (instruction.Set x) stays is fine = set_acts x fine.names is fine
  follows (instruction.Load path) stays is fine = A.load_acts parts fields rules proofs all g there at inside copied whole path is fine
  follows (instruction.Typed row t) stays is fine = A.typed_follow parts fields rules proofs all g there at inside copied whole row t is fine
  follows (instruction.Arithmetic row k) stays is fine = A.arithmetic_acts parts fields rules proofs all g there at inside copied whole row k is
  follows (instruction.Move t k direction) stays is fine = A.move_acts parts fields rules proofs all g there at inside copied whole t k direction is fine
  follows (instruction.Store path proved) stays is fine = store_acts path proved is fine
  follows (instruction.Simple row) stays is fine = simple_acts row stays is
  follows (instruction.Delete pins) stays is fine = delete_acts pins is fine
  follows (instruction.Call h pins) stays is fine = absurd stays
  follows (instruction.Jump row to) stays is fine = jump_row_acts row to is fine
