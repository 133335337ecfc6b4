-- The cells of an object: where one stands, and which are counted references.
use Rattle.std.proofs.Common.{◌≡◌, ◌<◌, ◌≤◌, ◌+◌, ◌*◌, ◌∙◌, ℕ, zero, suc, List, [], ◌∷◌, cond, map, set, get_or, refl, sym, ap, arith}
use Rattle.std.specs.Prelude.{◌&&◌, zip}
use Rattle.std.specs.List.{count_by}
use Rattle.std.proofs.lemmas.List.{map-set}
use Rattle.std.proofs.lemmas.List.Sums.{sum_by-cons}
use Rattle.std.proofs.Math.Seq.{map-set_same}
use Rattle.rc_core.specs.declared.layouts.Kind.{Kind}
use Rattle.rc_core.specs.Heap.{Value, names}
use Rattle.rc_store.specs.declared.cell.Cell.{Cell}
use Rattle.rc_plain_objects.specs.declared.slot.Slot.{Slot}
use Rattle.rc_store.specs.Kept.{KeptObject}
use Rattle.rc_store.specs.Stores.{cell_place, object_with}
use Rattle.rc_store.specs.Values.{is_counted, value_of}
use Rattle.rc_plain_objects.specs.Slots.{slot_kind, slot_refs, slot_value}

suc_times : (a b : ℕ) → suc a * b ≡ a * b + b
suc_times a b = omega arith

mul_mono : (a b c : ℕ) → a ≤ b → a * c ≤ b * c
mul_mono zero b c low = omega arith
mul_mono (suc a) zero c low = absurd (omega (arith, low))
mul_mono (suc a) (suc b) c low = let rest = mul_mono a b c (omega (arith, low)) in omega (arith, rest, suc_times a c, suc_times b c)

pub place_below : (index count size cell : ℕ) → index < count → cell < size → index * size + cell < count * size
place_below index count size cell element within =
    let next : suc index * size ≤ count * size = mul_mono (suc index) count size (omega (arith, element)) in
    omega (arith, next, suc_times index size, within)

-- the counted references, with kinds and values apart
pub refs_apart : (r : ℕ) (slots : List Slot) → count_by (slot_refs r) slots ≡ count_by (λ (c : Kind × Value). is_counted c.0 && names r c.1) (zip (map slot_kind slots) (map slot_value slots))
refs_apart r [] = refl
refs_apart r (s ∷ slots) =
    sum_by-cons (λ x. cond (slot_refs r x) 1 0) s slots
    ∙ ap (λ n. cond (slot_refs r s) 1 0 + n) (refs_apart r slots)
    ∙ sym (sum_by-cons (λ (c : Kind × Value). cond (is_counted c.0 && names r c.1) 1 0) (s.kind, value_of s.value) (zip (map slot_kind slots) (map slot_value slots)))

-- a cell is written
pub kinds_set : (slots : List Slot) (i : ℕ) (s : Slot) (v : Cell) → s ≡ get_or slots i s → map slot_kind (set slots i (record s { value = v })) ≡ map slot_kind slots
kinds_set slots i s v is = map-set_same slot_kind slots i (record s { value = v }) s (ap slot_kind is)

pub values_set : (slots : List Slot) (i : ℕ) (s : Slot) (v : Cell) → map slot_value (set slots i (record s { value = v })) ≡ set (map slot_value slots) i (value_of v)
values_set slots i s v = map-set slot_value slots i (record s { value = v })

pub object_set : (count size : ℕ) (slots : List Slot) (i : ℕ) (s : Slot) (v : Cell) (now : KeptObject) (index cell : ℕ) → s ≡ get_or slots i s
    → (let was : KeptObject = record { size = size; count = count; kinds = map slot_kind slots; values = map slot_value slots } in was ≡ now)
    → i ≡ cell_place now index cell
    → (let is : KeptObject = record { size = size; count = count; kinds = map slot_kind (set slots i (record s { value = v })); values = map slot_value (set slots i (record s { value = v })) } in is ≡ object_with index cell (value_of v) now)
object_set count size slots i s v now index cell read view place =
    ap (λ kinds. let o : KeptObject = record { size = size; count = count; kinds = kinds; values = map slot_value (set slots i (record s { value = v })) } in o) (kinds_set slots i s v read)
    ∙ ap (λ values. let o : KeptObject = record { size = size; count = count; kinds = map slot_kind slots; values = values } in o) (values_set slots i s v)
    ∙ ap (λ (o : KeptObject). let p : KeptObject = record o { values = set o.values i (value_of v) } in p) view
    ∙ ap (λ n. let o : KeptObject = record now { values = set now.values n (value_of v) } in o) place
