-- The source's world as a store sees it, and what each does where code has marks.
--
-- `model` is what a store has of a world: a view of each live region, and as pins the waiting values that name no dead one. Over
-- the source's world there are two ways: it looks at each cell and makes the checks that a mark proved, or it counts and trusts
-- the marks as the store does.
use Rattle.std.specs.Prelude.{ℕ, Bool, true, false, not, nat_eq, List, [], ◌∷◌, ◌++◌, map, filter, get_or, Option, Some, None}
use Rattle.rc_base.specs.declared.ends.End.TheVariants.{Spent}
use Rattle.rc_base.specs.declared.ends.Trap.TheVariants.{Root, Subregion, Reference}
use Rattle.rc_core.specs.Types.{Ty, CellKind, int_cell, unsigned_cell, char_cell, region_cell, pointer_cell}
use Rattle.rc_core.specs.Layout.{note_of}
use Rattle.rc_core.specs.Heap.{Value, Object, Region, is_fresh, fits, live, parent}
use Rattle.rc_core.specs.Store.{View, refs}
use Rattle.rc_core.specs.Runs.{Stop, Ends, Stale, Run, Go, Stopped, tested, touching, Target, Ops}
use Rattle.rc_core.specs.Source.{World, with_heap, object_of, at_region, at_spot, written, has_child, killed, deleted, source}
use Rattle.rc_code.specs.Running.{Reading, Doing, pointee}
use Rattle.rc_code.specs.StoreModel.{Held, store_model, stored_in}

-- What the run over the source's world does with marks. Where no store has one, or where each store makes its check all the same, it looks
-- at each cell at a deletion; where it trusts the marks as the store does, it counts. A check that a mark leaves out, and that is made and
-- fails, stops the run: as one that has no turns left, so that it is told from one that touches a dead region, where `apart` says so; else
-- as that one.
pub data Marks : Type 0 where
  none_marked : Marks
  marks_checked : (apart : Bool) → Marks
  marks_trusted : Marks

abbrev pub may_mark : Marks → Bool
may_mark none_marked = false
may_mark (marks_checked apart) = true
may_mark marks_trusted = true

abbrev pub looks : Marks → Bool
looks none_marked = true
looks (marks_checked apart) = true
looks marks_trusted = false

abbrev pub tells_apart : Marks → Bool
tells_apart none_marked = false
tells_apart (marks_checked apart) = apart
tells_apart marks_trusted = false

-- An image of which the run over the source's world and that over the store are compared. `name` says by what name the store keeps a
-- type, and `ranged` whether each byte that a run is given is one: those of the input, and those that a global begins with.
pub record Compared : Type 0 where
  pub code : Reading
  pub name : Ty → Ty
  pub marks : Marks
  pub ranged : Bool

-- the source's world as that of a store: the views of live regions, and the waiting values that name none that is dead; a
-- layout names its pointers' types as the image does
abbrev pub named_cell : (Ty → Ty) → CellKind → CellKind
named_cell name int_cell = int_cell
named_cell name unsigned_cell = unsigned_cell
named_cell name char_cell = char_cell
named_cell name region_cell = region_cell
named_cell name (pointer_cell note target) = pointer_cell note (name target)

abbrev pub renamed : (Ty → Ty) → Object → Object
renamed name o = record o { layout = map (named_cell name) o.layout }

abbrev pub seen : (Ty → Ty) → Region → Option View
seen name g = look g.alive
  where
    look : Bool → Option View
    look true = Some (record { parent = g.parent; objects = map (renamed name) g.objects })
    look false = None

abbrev pub model : (Ty → Ty) → World → Held
model name w = record {
  turns = w.turns;
  input = w.input;
  acts = w.acts;
  store = record { regions = map (seen name) w.heap; pins = filter (is_fresh (live w.heap)) w.waiting; spare = 0; region_limit = w.regions; block_limit = w.blocks };
}

-- the store where layouts are named so when they come to it
abbrev pub naming : (Ty → Ty) → Ops Held
naming name = record store_model { allocate = λ line v count layout w. store_model.allocate line v count (map (named_cell name) layout) w }

-- a check that was proved, where it is made and fails
abbrev pub failed : (apart : Bool) → (line : ℕ) → Stop
failed true line = Ends Spent
failed false line = Stale line

abbrev pub passing : {A : Type 0} → (apart fits : Bool) → (line : ℕ) → World → Run World A → Run World A
passing apart true line w m = m
passing apart false line w m = Stopped (failed apart line) w

-- the source's world where such a check is made, and the store where it is omitted
abbrev pub watched_put : (apart proved : Bool) → (line : ℕ) → Target → Value → World → Run World (Unit {0})
watched_put apart false line t v w = source.store line t v w
watched_put apart true line t v w =
    at_spot line t w (λ spot.
    touching (is_fresh (live w.heap) v) line w
    (passing apart (fits (parent w.heap) (note_of (get_or (object_of w.heap spot).layout spot.cell int_cell)) spot.region v) line w
    (Go tt (with_heap w (written spot (v ∷ []) w.heap)))))

-- where it trusts, it does as the store does: the mark omits the check, and a deletion counts
abbrev pub trusted_put : (proved : Bool) → (line : ℕ) → Target → Value → World → Run World (Unit {0})
trusted_put false line t v w = source.store line t v w
trusted_put true line t v w = at_spot line t w (λ spot. touching (is_fresh (live w.heap) v) line w (Go tt (with_heap w (written spot (v ∷ []) w.heap))))

abbrev pub put_by : (apart looks proved : Bool) → (line : ℕ) → Target → Value → World → Run World (Unit {0})
put_by apart true proved line t v w = watched_put apart proved line t v w
put_by apart false proved line t v w = trusted_put proved line t v w

abbrev pub counted : (Ty → Ty) → (line : ℕ) → (held : List Value) → (r : ℕ) → World → Run World (Unit {0})
counted name line held r w =
    touching (live w.heap r) line w
    (tested (not (nat_eq r 0)) Root line w
    (tested (not (has_child r w.heap)) Subregion line w
    (tested (nat_eq (refs (record (model name w).store { pins = filter (is_fresh (live w.heap)) held ++ (model name w).store.pins }) r) 0) Reference line w
    (Go tt (with_heap w (killed w.heap r))))))

abbrev pub deleted_by : (looks : Bool) → (Ty → Ty) → (line : ℕ) → (held : List Value) → (r : ℕ) → World → Run World (Unit {0})
deleted_by true name line held r w = deleted line held r w
deleted_by false name line held r w = counted name line held r w

abbrev pub delete_by : Compared → (line : ℕ) → (held : List Value) → Value → World → Run World (Unit {0})
delete_by image line held v w = at_region line v w (λ r. deleted_by (looks image.marks) image.name line held r w)

abbrev pub watched : Compared → Doing World
watched image = record { ops = record source { delete = delete_by image }; put = put_by (tells_apart image.marks) (looks image.marks) }

abbrev pub trusting : (Ty → Ty) → Doing Held
trusting name = record { ops = naming name; put = stored_in }

-- a run in the source's world, as the store has it
abbrev pub mapped : Compared → {A : Type 0} → Run World A → Run Held A
mapped image (Go x w) = Go x (model image.name w)
mapped image (Stopped s w) = Stopped s (model image.name w)

-- the image as it is written, with its own layouts, whose cells name types by number
abbrev pub own : Compared → Compared
own image = record image { code = record image.code { layouts = map (map (named_cell image.name)) image.code.layouts; numbered = pointee } }
