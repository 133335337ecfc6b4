-- What is done at a store where checks are watched makes no turns, and keeps what waits; so a run over the source's world takes a turn of each
-- step back and call, and no other operation gives one back.
use Rattle.std.proofs.Common.{◌≡◌, ◌≤◌, ℕ, pos, Bool, true, false, refl, arith}
use Rattle.std.specs.Prelude.{◌+ℤ◌, get_or}
use Rattle.std.specs.List.{list_all}
use Rattle.rc_base.specs.declared.ends.Trap.TheVariants.{Bounds}
use Rattle.rc_core.specs.Types.{Ty, int_cell}
use Rattle.rc_core.specs.Layout.{note_of}
use Rattle.rc_core.specs.Heap.{Value, Number, Null, Handle, Pointer, Heap, is_fresh, fits, live, parent, object_at}
use Rattle.rc_core.specs.Laws.{IfGoes}
use Rattle.rc_core.specs.Runs.{Go, tested, touching, Target}
use Rattle.rc_core.specs.Source.{World, with_heap, is_index, chosen_in_range, cell_of, source}
use Rattle.rc_emission.proofs.SourceTurns.{source_turns}
use Rattle.rc_numbering.proofs.SourceWaits.{waiting, source_waits}
use Rattle.rc_code.specs.Running.{Reading}
use Rattle.rc_worlds.specs.Worlds.{watched, watched_put, passing, marks_checked}
use Rattle.rc_worlds.proofs.Turns.{KeepsTurns}
use Rattle.rc_labels.specs.PutLaws.{MakesNoTurns, KeepsWaiting}

module _ (apart : Bool) (P : Unit {0} → World → Type 0) (line : ℕ) (w : World) where
  goes_on : (b c d e f : Bool) (w1 : World) → P tt w1 → IfGoes P (touching b line w (tested c Bounds line w (tested d Bounds line w (touching e line w (passing apart f line w (Go tt w1))))))
  goes_on true true true true true w1 p = p
  goes_on true true true true false w1 p = tt
  goes_on true true true false f w1 p = tt
  goes_on true true false e f w1 p = tt
  goes_on true false d e f w1 p = tt
  goes_on false c d e f w1 p = tt

  by_pointer : (p : Value) (t : Target) (v : Value) → ((heap : Heap) → P tt (with_heap w heap)) → IfGoes P (watched_put apart true line (record t { pointer = p }) v w)
  by_pointer (Number n) t v all = tt
  by_pointer Null t v all = tt
  by_pointer (Handle r) t v all = tt
  by_pointer (Pointer a) t v all =
      goes_on (live w.heap a.region) (is_index (pos a.index +ℤ t.shift) (object_at w.heap a.region a.object).count) (list_all chosen_in_range t.chosen) (is_fresh (live w.heap) v)
      (fits (parent w.heap) (note_of (get_or (object_at w.heap a.region a.object).layout (cell_of t) int_cell)) a.region v) _ (all _)

  puts : (t : Target) (v : Value) → ((heap : Heap) → P tt (with_heap w heap)) → IfGoes P (watched_put apart true line t v w)
  puts t v all = by_pointer t.pointer t v all

pub makes_no_turns : (apart : Bool) → MakesNoTurns source (watched_put apart)
makes_no_turns apart false line t v w b le = source_turns.store line t v w b le
makes_no_turns apart true line t v w b le = record { holds = puts apart (λ _ w1. w1.turns ≤ b) line w t v (λ heap. le) }

pub keeps_waiting : (apart : Bool) → KeepsWaiting (watched_put apart) waiting
keeps_waiting apart false line t v w = source_waits.store line t v w
keeps_waiting apart true line t v w = record { holds = puts apart (λ _ w1. w1.waiting ≡ w.waiting) line w t v (λ heap. refl) }

-- where the run over the source's world looks and checks
pub keeps_turns : (code : Reading) (name : Ty → Ty) (apart : Bool) → KeepsTurns (watched (record { code = code; name = name; marks = marks_checked apart; ranged = false }))
keeps_turns code name apart = record {
  take_turn = λ w. record { goes = source_turns.take_turn w w.turns (omega arith) };
  get_byte = λ w. record { goes = (source_turns.get_byte w w.turns (omega arith)).holds };
  put_byte = λ b w. record { goes = (source_turns.put_byte b w w.turns (omega arith)).holds };
  new_region = λ line w. record { goes = (source_turns.new_region line w w.turns (omega arith)).holds };
  new_subregion = λ line v w. record { goes = (source_turns.new_subregion line v w w.turns (omega arith)).holds };
  allocate = λ line v n layout w. record { goes = (source_turns.allocate line v n layout w w.turns (omega arith)).holds };
  step = λ line v n w. record { goes = (source_turns.step line v n w w.turns (omega arith)).holds };
  load = λ line t w. record { goes = (source_turns.load line t w w.turns (omega arith)).holds };
  put = λ proved line t v w. record { goes = (makes_no_turns apart proved line t v w w.turns (omega arith)).holds };
  delete = λ line held v w. record { goes = (source_turns.delete line held v w w.turns (omega arith)).holds };
  enter = λ held w. omega arith;
  leave = λ w w1. omega arith;
}
