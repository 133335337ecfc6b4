-- Where a check would let the store through, a store without it is the same; where it wouldn't, the run stops.
use Rattle.std.proofs.Common.{◌≡◌, ℕ, zero, suc, pos, Bool, true, false, [], ◌∷◌, map, get_or, drop, refl, sym, ap, ◌∙◌}
use Rattle.std.specs.Prelude.{◌+ℤ◌, ◌&&◌, unsigned_abs}
use Rattle.std.specs.List.{list_all}
use Rattle.rc_base.specs.declared.ends.Trap.TheVariants.{Bounds}
use Rattle.rc_core.specs.declared.ty.Note.TheVariants.{Plain}
use Rattle.rc_core.specs.Types.{int_cell}
use Rattle.rc_core.specs.Layout.{Layout, note_of}
use Rattle.rc_core.specs.Heap.{Value, Number, Null, Handle, Pointer, Heap, is_fresh, fits, live, parent, object_at}
use Rattle.rc_core.specs.Laws.{IfGoes}
use Rattle.rc_core.specs.Runs.{Run, Go, tested, touching, Target}
use Rattle.rc_core.specs.Source.{World, with_heap, Spot, is_index, chosen_in_range, cell_of, unfit, fitting, written, source}
use Rattle.rc_annotations.specs.Worlds.{note_at}
use Rattle.rc_along.specs.MarkedLaws.{Fits, Trusting}
use Rattle.rc_worlds.specs.Worlds.{watched_put, passing}

pub note_same : (layout : Layout) (c : ℕ) → note_of (get_or layout c int_cell) ≡ get_or (map note_of layout) c Plain
note_same [] c = refl
note_same (k ∷ layout) zero = refl
note_same (k ∷ layout) (suc c) = note_same layout c

module _ (heap : Heap) (holder line : ℕ) (v : Value) (w : World) (run : Run World (Unit {0})) where
  lets_through : (layout : Layout) (c : ℕ) → fits (parent heap) (get_or (map note_of layout) c Plain) holder v ≡ true → fitting heap holder line (map note_of (drop c layout)) (v ∷ []) w run ≡ run
  lets_through [] zero e = refl
  lets_through [] (suc c) e = refl
  lets_through (k ∷ layout) zero e = ap (λ b. tested b (unfit (note_of k)) line w run) e
  lets_through (k ∷ layout) (suc c) e = lets_through layout c e

  pub same_store : (apart fresh : Bool) (layout : Layout) (c : ℕ) → fits (parent heap) (get_or (map note_of layout) c Plain) holder v ≡ true →
      touching fresh line w (passing apart (fits (parent heap) (note_of (get_or layout c int_cell)) holder v) line w run) ≡ touching (fresh && true) line w (fitting heap holder line (map note_of (drop c layout)) (v ∷ []) w run)
  same_store apart false layout c e = refl
  same_store apart true layout c e = ap (λ b. passing apart b line w run) (ap (λ note. fits (parent heap) note holder v) (note_same layout c) ∙ e) ∙ sym (lets_through layout c e)

reaching : (line : ℕ) (w : World) (F : Spot → World → Type 0) (alive inside chosen : Bool) (spot : Spot) (watching looking : Run World (Unit {0})) → (F spot w → watching ≡ looking) →
    IfGoes F (touching alive line w (tested inside Bounds line w (tested chosen Bounds line w (Go spot w)))) →
    touching alive line w (tested inside Bounds line w (tested chosen Bounds line w watching)) ≡ touching alive line w (tested inside Bounds line w (tested chosen Bounds line w looking))
reaching line w F true true true spot watching looking same fit = same fit
reaching line w F true true false spot watching looking same fit = refl
reaching line w F true false chosen spot watching looking same fit = refl
reaching line w F false inside chosen spot watching looking same fit = refl

by_pointer : (apart : Bool) (line : ℕ) (p : Value) (tg : Target) (v : Value) (w : World) → Fits line (record tg { pointer = p }) v w → watched_put apart true line (record tg { pointer = p }) v w ≡ source.store line (record tg { pointer = p }) v w
by_pointer apart line (Number n) tg v w fit = refl
by_pointer apart line Null tg v w fit = refl
by_pointer apart line (Handle r) tg v w fit = refl
by_pointer apart line (Pointer a) tg v w fit =
    let spot : Spot = record { region = a.region; object = a.object; element = unsigned_abs (pos a.index +ℤ tg.shift); cell = cell_of tg } in
    let layout : Layout = (object_at w.heap a.region a.object).layout in
    reaching line w (λ s w1. fits (parent w.heap) (note_at w.heap (record tg { pointer = Pointer a })) a.region v ≡ true) (live w.heap a.region) (is_index (pos a.index +ℤ tg.shift) (object_at w.heap a.region a.object).count) (list_all chosen_in_range tg.chosen) spot
    (touching (is_fresh (live w.heap) v) line w (passing apart (fits (parent w.heap) (note_of (get_or layout (cell_of tg) int_cell)) a.region v) line w (Go tt (with_heap w (written spot (v ∷ []) w.heap)))))
    (touching (is_fresh (live w.heap) v && true) line w (fitting w.heap a.region line (map note_of (drop (cell_of tg) layout)) (v ∷ []) w (Go tt (with_heap w (written spot (v ∷ []) w.heap)))))
    (same_store w.heap a.region line v w (Go tt (with_heap w (written spot (v ∷ []) w.heap))) apart (is_fresh (live w.heap) v) layout (cell_of tg))
    fit

pub trusting : (apart : Bool) → Trusting (watched_put apart)
trusting apart = record {
  unmarked = λ line tg v w. refl;
  marked = λ line tg v w fit. by_pointer apart line tg.pointer tg v w fit;
}
