-- Where a run over the source's world comes to no check that fails, each marked store that the run over the store comes to does the same with its
-- check and without.
use Rattle.std.proofs.Common.{◌≡◌, inl, inr, ℕ, ◌+◌, pos, Bool, true, false, List, [], ◌∷◌, ◌++◌, map, drop, reverse, get_or, Some, refl, sym, ap, ◌∙◌, subst}
use Rattle.std.proofs.lemmas.Option.{get_or_from_slice_get}
use Rattle.std.specs.Prelude.{◌+ℤ◌, ◌&&◌, slice_get}
use Rattle.std.specs.List.{list_all}
use Rattle.rc_base.specs.declared.ends.End.TheVariants.{Trapped}
use Rattle.rc_base.specs.declared.ends.Trap.{Trap}
use Rattle.rc_base.specs.declared.ends.Trap.TheVariants.{Null as NullTrap, Bounds}
use Rattle.rc_core.specs.Types.{Ty, int_cell}
use Rattle.rc_core.specs.Layout.{Layout, note_of}
use Rattle.rc_core.specs.Heap.{Value, Number, Null, Handle, Pointer, is_fresh, fits, live, parent, object_at}
use Rattle.rc_core.specs.Runs.{Run, Go, Ends, Stale, bind, tested, touching, Target}
use Rattle.rc_core.specs.Source.{World, is_index, chosen_in_range, cell_of, fitting, source}
use Rattle.rc_code.specs.declared.opcode.Simple.TheVariants as simple
use Rattle.rc_code.specs.declared.instruction.Instruction.TheVariants as instruction
use Rattle.rc_code.specs.declared.image.Function.{Function}
use Rattle.rc_code.specs.declared.image.Path.{Path}
use Rattle.rc_code.specs.Running.{Reading, path_at, function_at, line_at, cell_at, storage_of, value_at, kept, target_on, calls_within, effect}
use Rattle.rc_code.specs.Soundness.{Kind, operand_kind, place_kinds, instruction_at, IsFine}
use Rattle.rc_code.specs.Steps.{State, Moved, goes, placed, step_by, step_of, steps_of, first_steps}
use Rattle.rc_code.specs.StoreModel.{stored_in}
use Rattle.rc_worlds.specs.Worlds.{Compared, failed, passing, watched, watched_put, model, mapped, marks_checked}
use Rattle.rc_worlds.specs.Typed.{Keeps}
use Rattle.rc_worlds.specs.Facts.{ImageIsSound}
use Rattle.rc_worlds.specs.States.{StateSuits}
use Rattle.rc_worlds.proofs.Does.{Excused, Same}
use Rattle.rc_worlds.proofs.Small.{first_add}
use Rattle.rc_worlds.proofs.Stacks.{AreKinds, kept_suits, place_reached}
use Rattle.rc_worlds.proofs.WorldOps.{put_does}
use Rattle.rc_unchecked.proofs.Trusted.{note_same, same_store}
use Rattle.rc_unchecked.proofs.Following.{excused_behind}

module _ (code : Reading) (name : Ty → Ty) (apart : Bool) where
  abbrev image : Compared
  image = record { code = code; name = name; marks = marks_checked apart; ranged = false }

  -- ---- a store whose check doesn't fail

  abbrev reached : (b c d : Bool) → (line : ℕ) → World → Run World (Unit {0}) → Run World (Unit {0})
  reached b c d line w m = touching b line w (tested c Bounds line w (tested d Bounds line w m))

  reaching : (b c d : Bool) (line : ℕ) (w : World) (m n : Run World (Unit {0})) → ((Excused image m → ⊥) → m ≡ n) → (Excused image (reached b c d line w m) → ⊥) → reached b c d line w m ≡ reached b c d line w n
  reaching true true true line w m n same none = same none
  reaching true true false line w m n same none = refl
  reaching true false d line w m n same none = refl
  reaching false c d line w m n same none = refl

  module _ (holder line : ℕ) (v : Value) (w : World) (run : Run World (Unit {0})) (layout : Layout) (c : ℕ) where
    abbrev fit : Bool
    fit = fits (parent w.heap) (note_of (get_or layout c int_cell)) holder v

    checked : (b : Bool) → fit ≡ b → (Excused image (passing apart fit line w run) → ⊥) → passing apart fit line w run ≡ touching true line w (fitting w.heap holder line (map note_of (drop c layout)) (v ∷ []) w run)
    checked true is none = same_store w.heap holder line v w run apart true layout c (ap (λ note. fits (parent w.heap) note holder v) (sym (note_same layout c)) ∙ is)
    checked false is none = absurd (none (subst (λ b. Excused image (passing apart b line w run)) (sym is) (refl, refl, (line, refl))))

    fresh_and_checked : (e : Bool) → (Excused image (touching e line w (passing apart fit line w run)) → ⊥) → touching e line w (passing apart fit line w run) ≡ touching (e && true) line w (fitting w.heap holder line (map note_of (drop c layout)) (v ∷ []) w run)
    fresh_and_checked true none = checked fit refl none
    fresh_and_checked false none = refl

  by_pointer : (line : ℕ) (p : Value) (t : Target) (v : Value) (w : World) → (Excused image (watched_put apart true line (record t { pointer = p }) v w) → ⊥) → watched_put apart true line (record t { pointer = p }) v w ≡ source.store line (record t { pointer = p }) v w
  by_pointer line (Number n) t v w none = refl
  by_pointer line Null t v w none = refl
  by_pointer line (Handle r) t v w none = refl
  by_pointer line (Pointer a) t v w none =
      reaching (live w.heap a.region) (is_index (pos a.index +ℤ t.shift) (object_at w.heap a.region a.object).count) (list_all chosen_in_range t.chosen) line w _ _
      (fresh_and_checked a.region line v w _ (object_at w.heap a.region a.object).layout (cell_of t) (is_fresh (live w.heap) v)) none

  unfailing : (line : ℕ) (t : Target) (v : Value) (w : World) → (Excused image (watched_put apart true line t v w) → ⊥) → watched_put apart true line t v w ≡ source.store line t v w
  unfailing line t v w none = by_pointer line t.pointer t v w none

  -- whether it fails does not depend on its line
  stale_there : (apart : Bool) (here there : ℕ) → ((line : ℕ) × (Stale here ≡ failed apart line)) → (line : ℕ) × (Stale there ≡ failed apart line)
  stale_there true here there x = let e = x.1 in cc
  stale_there false here there x = (there, refl)

  trapped_nowhere : (apart : Bool) (trap : Trap) (here : ℕ) → ((line : ℕ) × (Ends (Trapped trap here) ≡ failed apart line)) → ⊥
  trapped_nowhere true trap here x = let e = x.1 in cc
  trapped_nowhere false trap here x = let e = x.1 in cc

  at_line : (b c d e f : Bool) (here there : ℕ) (w w1 : World) → Excused image (reached b c d here w (touching e here w (passing apart f here w (Go tt w1)))) → Excused image (reached b c d there w (touching e there w (passing apart f there w (Go tt w1))))
  at_line true true true true true here there w w1 x = x
  at_line true true true true false here there w w1 x = (x.0, x.1, (there, refl))
  at_line true true true false f here there w w1 x = (x.0, x.1, stale_there apart here there x.2)
  at_line true true false e f here there w w1 x = absurd (trapped_nowhere apart Bounds here x.2)
  at_line true false d e f here there w w1 x = absurd (trapped_nowhere apart Bounds here x.2)
  at_line false c d e f here there w w1 x = (x.0, x.1, stale_there apart here there x.2)

  at_any_line : (here there : ℕ) (p : Value) (t : Target) (v : Value) (w : World) → Excused image (watched_put apart true here (record t { pointer = p }) v w) → Excused image (watched_put apart true there (record t { pointer = p }) v w)
  at_any_line here there (Number n) t v w x = absurd (trapped_nowhere apart NullTrap here x.2)
  at_any_line here there Null t v w x = absurd (trapped_nowhere apart NullTrap here x.2)
  at_any_line here there (Handle r) t v w x = absurd (trapped_nowhere apart NullTrap here x.2)
  at_any_line here there (Pointer a) t v w x =
      at_line (live w.heap a.region) (is_index (pos a.index +ℤ t.shift) (object_at w.heap a.region a.object).count) (list_all chosen_in_range t.chosen) (is_fresh (live w.heap) v)
      (fits (parent w.heap) (note_of (get_or (object_at w.heap a.region a.object).layout (cell_of t) int_cell)) a.region v) here there w _ x

  module _ (sound : ImageIsSound image) where
    -- ---- a state before a marked store

    module _ (s : State World) (w : World) (suit : StateSuits image s w) (p : ℕ) (there : slice_get (function_at code s.function).code s.at ≡ Some (instruction.Store p true)) where
      abbrev f : Function
      f = function_at code s.function

      abbrev path : Path
      path = path_at code p

      abbrev fine : IsFine true code f s.at (instruction.Store p true)
      fine = (sound.rules.functions s.function suit.there).fine s.at (instruction.Store p true) there

      abbrev below : List Kind
      below = fine.operands.0

      -- with the check and without it the store does the same, where the check doesn't fail over the source's world
      right_on : (st : List Value) → AreKinds image w.heap (operand_kind (storage_of code (cell_at code path)) ∷ reverse (place_kinds path) ++ below) st → (line : ℕ)
          → (Excused image (watched_put apart true line (target_on path (drop 1 st)) (kept (storage_of code (cell_at code path)) (value_at st 0)) w) → ⊥)
          → stored_in false line (target_on path (drop 1 st)) (kept (storage_of code (cell_at code path)) (value_at st 0)) (model name w) ≡ stored_in true line (target_on path (drop 1 st)) (kept (storage_of code (cell_at code path)) (value_at st 0)) (model name w)
      right_on [] all line none = absurd all
      right_on (v ∷ st) all line none = by with_mark without_mark
        where
          same : watched_put apart true line (target_on path st) (kept (storage_of code (cell_at code path)) v) w ≡ source.store line (target_on path st) (kept (storage_of code (cell_at code path)) v) w
          same = unfailing line (target_on path st) (kept (storage_of code (cell_at code path)) v) w none

          with_mark : Same image (watched_put apart true line (target_on path st) (kept (storage_of code (cell_at code path)) v) w) (stored_in true line (target_on path st) (kept (storage_of code (cell_at code path)) v) (model name w))
          with_mark = (put_does image true refl true (λ e. refl) line (target_on path st) (kept (storage_of code (cell_at code path)) v) w suit.good (λ a spot here.
              subst (λ s. Keeps image w.heap s (kept (storage_of code (cell_at code path)) v)) (sym (place_reached image w path below st (sound.paths p fine.names.0) all.1 a spot here).kind) (kept_suits image w.heap (storage_of code (cell_at code path)) v all.0))).same

          without_mark : Same image (source.store line (target_on path st) (kept (storage_of code (cell_at code path)) v) w) (stored_in false line (target_on path st) (kept (storage_of code (cell_at code path)) v) (model name w))
          without_mark = (put_does image true refl false (λ e. refl) line (target_on path st) (kept (storage_of code (cell_at code path)) v) w suit.good (λ a spot here.
              subst (λ s. Keeps image w.heap s (kept (storage_of code (cell_at code path)) v)) (sym (place_reached image w path below st (sound.paths p fine.names.0) all.1 a spot here).kind) (kept_suits image w.heap (storage_of code (cell_at code path)) v all.0))).same

          by : Same image (watched_put apart true line (target_on path st) (kept (storage_of code (cell_at code path)) v) w) (stored_in true line (target_on path st) (kept (storage_of code (cell_at code path)) v) (model name w))
              → Same image (source.store line (target_on path st) (kept (storage_of code (cell_at code path)) v) w) (stored_in false line (target_on path st) (kept (storage_of code (cell_at code path)) v) (model name w))
              → stored_in false line (target_on path st) (kept (storage_of code (cell_at code path)) v) (model name w) ≡ stored_in true line (target_on path st) (kept (storage_of code (cell_at code path)) v) (model name w)
          by (inl e) other = absurd (none e)
          by (inr is) (inl e) = absurd (none (subst (λ (m : Run World (Unit {0})). Excused image m) (sym same) e))
          by (inr is) (inr plain) = plain ∙ ap (mapped image) (sym same) ∙ sym is

      pub right : (line : ℕ) → (Excused image (watched_put apart true line (target_on path (drop 1 s.stack)) (kept (storage_of code (cell_at code path)) (value_at s.stack 0)) w) → ⊥)
          → stored_in false line (target_on path (drop 1 s.stack)) (kept (storage_of code (cell_at code path)) (value_at s.stack 0)) (model name w) ≡ stored_in true line (target_on path (drop 1 s.stack)) (kept (storage_of code (cell_at code path)) (value_at s.stack 0)) (model name w)
      right line none = right_on s.stack (subst (λ kinds. AreKinds image w.heap kinds s.stack) fine.operands.1 suit.stack) line none

      -- it doesn't fail where no number of steps ends at a check that fails
      abbrev target : Target
      target = target_on path (drop 1 s.stack)

      abbrev value : Value
      value = kept (storage_of code (cell_at code path)) (value_at s.stack 0)

      pub unfailing_here : (n : ℕ) (w0 : World) → first_steps (watched image) code n w0 ≡ Go (goes s) w → ((k : ℕ) → Excused image (first_steps (watched image) code k w0) → ⊥) → (line : ℕ) → Excused image (watched_put apart true line target value w) → ⊥
      unfailing_here n w0 comes none line e =
          let here : Excused image (watched_put apart true (line_at f s.at) target value w) = at_any_line line (line_at f s.at) target.pointer target value w e in
          let is : instruction_at f s.at ≡ instruction.Store p true = get_or_from_slice_get f.code s.at (instruction.Store p true) (instruction.Simple simple.Return) there in
          let stepped : Excused image (step_by (watched image) code (instruction.Store p true) (line_at f s.at) s w) =
          excused_behind image (effect (watched image) code f (line_at f s.at) s.at (instruction.Store p true) (calls_within (watched image) code 0) s.stack s.locals w) (λ x. Go (placed s x))
          (excused_behind image (watched_put apart true (line_at f s.at) target value w) _ here) in
          let step : Excused image (step_of (watched image) code s w) = subst (λ i. Excused image (step_by (watched image) code i (line_at f s.at) s w)) (sym is) stepped in
          let more : first_steps (watched image) code (n + 1) w0 ≡ bind (step_of (watched image) code s w) (steps_of (watched image) code 0) = first_add (watched image) code n 1 w0 ∙ ap (λ (m : Run World (Moved World)). bind m (steps_of (watched image) code 1)) comes in
          none (n + 1) (subst (λ (m : Run World (Moved World)). Excused image m) (sym more) (excused_behind image (step_of (watched image) code s w) (steps_of (watched image) code 0) step))
