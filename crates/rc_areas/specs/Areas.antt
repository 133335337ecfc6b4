-- The objects of a region as they are kept: the cells of all of them together, and of each where its cells begin, how many
-- elements it has and which shape an element has.
use Rattle.std.specs.Prelude.{◌≡◌, ◌<◌, ◌+◌, ◌*◌, ⊤, ℕ, List, [], ◌∷◌, length, drop, replicate, flat_map, slice_index_or, sum_by, take}
use Rattle.rc_core.specs.declared.layouts.Kind.{Kind}
use Rattle.rc_core.specs.Heap.{Value}
use Rattle.rc_store.specs.Kept.{KeptObject}
use Rattle.rc_store.specs.Stores.{no_object}
use Rattle.rc_cells.specs.Codes.{decoded}
use Rattle.rc_areas.specs.Shapes.{Shape}
use Rattle.rc_areas.specs.declared.head.Head.{Head}

pub record AreaState : Type 0 where
  pub heads : List Head
  pub codes : List ℕ

abbrev pub shape_of : List Shape → Head → Shape
shape_of shapes h = slice_index_or shapes h.shape []

-- how many cells an object has
abbrev pub size_in : List Shape → Head → ℕ
size_in shapes h = h.count * length (shape_of shapes h)

-- what all its cells hold
abbrev pub kinds_in : List Shape → Head → List Kind
kinds_in shapes h = flat_map (λ ks. ks) (replicate h.count (shape_of shapes h))

-- the values of cells of these kinds, from their codes
abbrev pub values_from : List Kind → List ℕ → List Value
values_from [] codes = []
values_from (k ∷ ks) [] = []
values_from (k ∷ ks) (c ∷ cs) = decoded k c ∷ values_from ks cs

abbrev pub object_from : List Shape → Head → List ℕ → KeptObject
object_from shapes h codes = record { size = length (shape_of shapes h); count = h.count; kinds = kinds_in shapes h; values = values_from (kinds_in shapes h) codes }

-- one object behind the other
abbrev pub objects_from : List Shape → List Head → List ℕ → List KeptObject
objects_from shapes [] codes = []
objects_from shapes (h ∷ hs) codes = object_from shapes h codes ∷ objects_from shapes hs (drop (size_in shapes h) codes)

abbrev pub objects_of : List Shape → AreaState → List KeptObject
objects_of shapes a = objects_from shapes a.heads a.codes

-- from a place on each object begins where the one before it ends, and has one of the shapes
abbrev pub AreLaid : List Shape → (at : ℕ) → List Head → Type 0
AreLaid shapes at [] = ⊤
AreLaid shapes at (h ∷ hs) = (h.start ≡ at) × (h.shape < length shapes) × AreLaid shapes (at + size_in shapes h) hs

pub record IsLaid (shapes : List Shape) (a : AreaState) : Type 0 where
  pub heads : AreLaid shapes 0 a.heads
  pub cells : length a.codes ≡ sum_by (size_in shapes) a.heads

-- where a cell of an object stands among all, and there is one there
pub record IsPlace (shapes : List Shape) (a : AreaState) (object index cell place : ℕ) : Type 0 where
  pub is : place ≡ sum_by (size_in shapes) (take object a.heads) + (index * (slice_index_or (objects_of shapes a) object no_object).size + cell)
  pub below : place < length a.codes
