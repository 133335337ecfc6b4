-- A script of heap commands over the store: what each line answers and what it changes. Each line gives one line of output.
-- Objects count from 0 in each region. A line that answers anything but a number or `ok` changes nothing.
use Rattle.std.specs.Prelude.{ℕ, Bool, true, false, ◌&&◌, ◌==◌, nat_eq, nat_lt, nat_le, List, [], ◌∷◌, ◌++◌, length, Option, Some, None, count_by, codes, if◌then◌else◌}
use Rattle.std.specs.List.{list_all}
use Rattle.std.specs.Set.{distinct_count}
use Rattle.std.specs.Fmt.{decimal}
use Rattle.rc_base.specs.declared.ends.Limits.{Limits}
use Rattle.rc_core.specs.declared.layouts.Kind.TheVariants.{Region as RegionKind}
use Rattle.rc_core.specs.Heap.{Value, Number, Null, Handle, Pointer}
use Rattle.rc_store.specs.Kept.{KeptStore, Regions}
use Rattle.rc_store.specs.Stores.{allocated, live_in, made, no_view, object_in, objects_in, written}
use Rattle.rc_store.specs.Sets.{deleted_all, has_child_outside, is_in, set_refs}
use Rattle.rc_store.specs.declared.cell.Place.{Place}
use Rattle.rc_replies.specs.Commands.{Command, New, Cells, Link, Pin, Unpin, Drop, command_of, lines_of}
use Rattle.rc_replies.specs.declared.reply.Reply.{Reply}
use Rattle.rc_replies.specs.declared.reply.Reply.TheVariants.{Region, Object, Full, Done, Root, Subregion, Reference, Bad}

abbrev pub reply_text : Reply → List ℕ
reply_text (Region n) = codes "region " ++ decimal n ++ codes "\n"
reply_text (Object n) = codes "object " ++ decimal n ++ codes "\n"
reply_text Full = codes "full\n"
reply_text Done = codes "ok\n"
reply_text Root = codes "root\n"
reply_text Subregion = codes "subregion\n"
reply_text Reference = codes "reference\n"
reply_text Bad = codes "bad\n"

-- the store before the first line: region 0 alone, without objects
abbrev pub first_store : Limits → KeptStore
first_store limits = record { regions = Some no_view ∷ []; pins = []; spare = 0; region_limit = limits.regions; block_limit = limits.blocks }

-- a pin of this region
abbrev pub is_pin : ℕ → Value → Bool
is_pin r (Number n) = false
is_pin r Null = false
is_pin r (Handle q) = nat_eq q r
is_pin r (Pointer a) = false

abbrev pub without_pin : ℕ → List Value → List Value
without_pin r [] = []
without_pin r (v ∷ pins) = if is_pin r v then pins else (v ∷ without_pin r pins)

-- none is always there
abbrev pub is_target : Regions → Option ℕ → Bool
is_target regions None = true
is_target regions (Some r) = live_in regions r

abbrev pub target_value : Option ℕ → Value
target_value None = Null
target_value (Some r) = Handle r

-- a cell of an object whose elements are one cell each
abbrev pub place : (region object index : ℕ) → Place
place region object index = record { pointer = record { region = region; object = object; index = index }; cell = 0 }

abbrev pub has_cell : Regions → (region object index : ℕ) → Bool
has_cell regions r o i = live_in regions r && nat_lt o (length (objects_in regions r)) && nat_lt i (object_in regions r o).count

-- live regions, none of them twice
abbrev pub is_set : Regions → List ℕ → Bool
is_set regions set = list_all (live_in regions) set && (distinct_count nat_eq set == length set)

-- what deleting a set comes to
abbrev pub deletion_reply : List ℕ → KeptStore → Reply
deletion_reply set s =
    if is_in set 0 then Root else
    if has_child_outside set s.regions then Subregion else
    if nat_lt 0 (set_refs s set) then Reference else Done

abbrev pub reply_to : Command → KeptStore → Reply
reply_to (New parent) s = if live_in s.regions parent then (if nat_lt s.region_limit (length s.regions) then Full else Region (length s.regions)) else Bad
reply_to (Cells r n) s = if live_in s.regions r && nat_le n 2147483647 then (if nat_le s.block_limit (length (objects_in s.regions r)) then Full else Object (length (objects_in s.regions r))) else Bad
reply_to (Link r o i target) s = if has_cell s.regions r o i && is_target s.regions target then Done else Bad
reply_to (Pin r) s = if live_in s.regions r then Done else Bad
reply_to (Unpin r) s = if live_in s.regions r && nat_lt 0 (count_by (is_pin r) s.pins) then Done else Bad
reply_to (Drop set) s = if is_set s.regions set then deletion_reply set s else Bad

-- the answers of a line that changes the store
abbrev pub changes : Reply → Bool
changes (Region n) = true
changes (Object n) = true
changes Done = true
changes _ = false

-- what it changes
abbrev pub changed : Command → KeptStore → KeptStore
changed (New parent) s = made parent s
changed (Cells r n) s = allocated r (RegionKind ∷ []) n s
changed (Link r o i target) s = written (place r o i) (target_value target) s
changed (Pin r) s = record s { pins = s.pins ++ Handle r ∷ [] }
changed (Unpin r) s = record s { pins = without_pin r s.pins }
changed (Drop set) s = deleted_all set s

abbrev pub line_reply : Option Command → KeptStore → Reply
line_reply None s = Bad
line_reply (Some command) s = reply_to command s

abbrev pub line_store : Option Command → KeptStore → KeptStore
line_store None s = s
line_store (Some command) s = if changes (reply_to command s) then changed command s else s

-- the output of lines from this store on
abbrev pub replies : List (List ℕ) → KeptStore → List ℕ
replies [] s = []
replies (line ∷ lines) s = reply_text (line_reply (command_of line) s) ++ replies lines (line_store (command_of line) s)

-- the store behind the last of them
abbrev pub store_behind : List (List ℕ) → KeptStore → KeptStore
store_behind [] s = s
store_behind (line ∷ lines) s = store_behind lines (line_store (command_of line) s)

abbrev pub heap_text : List ℕ → Limits → List ℕ
heap_text text limits = replies (lines_of text) (first_store limits)

abbrev pub heap_store : List ℕ → Limits → KeptStore
heap_store text limits = store_behind (lines_of text) (first_store limits)
