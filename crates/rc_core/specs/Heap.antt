-- The heap: every region that was ever made, with its parent, whether it is alive, and its objects. A region's number is its
-- place in the list, so none is used again, and a deleted region keeps its place.
use Rattle.std.specs.Prelude.{ℕ, zero, suc, ℤ, pos, Bool, true, false, ◌||◌, ◌&&◌, not, nat_eq, List, [], ◌∷◌, ◌++◌, length, map, replicate, flat_map, get_or, Option, Some, None}
use Rattle.rc_core.specs.declared.ty.Note.{Note}
use Rattle.rc_core.specs.declared.ty.Note.TheVariants.{Plain, SameRegion, ParentPtr, Traditional}
use Rattle.rc_core.specs.Types.{Ty, int, unsigned, char, region, struct, pointer, CellKind, int_cell, unsigned_cell, char_cell, region_cell, pointer_cell}
use Rattle.rc_core.specs.Programs.{Struct, Global, Program}
use Rattle.rc_core.specs.Layout.{Layout, cells}

-- an element of an object; the index may be the end of the object
pub record Address : Type 0 where
  pub region : ℕ
  pub object : ℕ
  pub index : ℕ

pub data Value : Type 0 where
  Number : ℤ → Value
  Null : Value
  Handle : ℕ → Value
  Pointer : Address → Value

-- an array of `count` elements of one layout; the cells of an element lie together
pub record Object : Type 0 where
  pub layout : Layout
  pub count : ℕ
  pub values : List Value

-- the kinds of an object's cells, one after another
abbrev pub kinds_of : Object → Layout
kinds_of o = flat_map (λ layout. layout) (replicate o.count o.layout)

pub record Region : Type 0 where
  pub parent : ℕ
  pub alive : Bool
  pub objects : List Object

abbrev pub Heap : Type 0
Heap = List Region

abbrev pub no_region : Region
no_region = record { parent = 0; alive = false; objects = [] }

abbrev pub no_object : Object
no_object = record { layout = []; count = 0; values = [] }

abbrev pub region_at : Heap → ℕ → Region
region_at heap r = get_or heap r no_region

abbrev pub live : Heap → ℕ → Bool
live heap r = (region_at heap r).alive

abbrev pub parent : Heap → ℕ → ℕ
parent heap r = (region_at heap r).parent

abbrev pub objects : Heap → ℕ → List Object
objects heap r = (region_at heap r).objects

abbrev pub object_at : Heap → (r o : ℕ) → Object
object_at heap r o = get_or (objects heap r) o no_object

-- the list with its element at a place changed
abbrev pub update : {A : Type 0} → List A → ℕ → (A → A) → List A
update [] i change = []
update (x ∷ xs) zero change = change x ∷ xs
update (x ∷ xs) (suc i) change = x ∷ update xs i change

abbrev pub with_objects : Heap → ℕ → (List Object → List Object) → Heap
with_objects heap r change = update heap r (λ g. record g { objects = change g.objects })

-- what holds of the region that a value names; null and numbers name none
abbrev pub of_region : (none : Bool) → (ℕ → Bool) → Value → Bool
of_region none holds (Number n) = none
of_region none holds Null = none
of_region none holds (Handle r) = holds r
of_region none holds (Pointer a) = holds a.region

abbrev pub names : ℕ → Value → Bool
names r value = of_region false (λ q. nat_eq q r) value

-- it names no dead region
abbrev pub is_fresh : (live : ℕ → Bool) → Value → Bool
is_fresh live value = of_region true live value

-- a is above b where a is b, or above b's parent. The steps only make this a function: a parent has the smaller number, so b
-- steps up reach region 0
abbrev pub is_above_within : (parent : ℕ → ℕ) → (steps a b : ℕ) → Bool
is_above_within parent zero a b = nat_eq a b
is_above_within parent (suc steps) a b = nat_eq a b || (not (nat_eq b 0) && is_above_within parent steps a (parent b))

abbrev pub is_above : (parent : ℕ → ℕ) → (a b : ℕ) → Bool
is_above parent a b = is_above_within parent b a b

-- the value may stand in a cell with the annotation, in an object of the holder's region
abbrev pub fits : (parent : ℕ → ℕ) → Note → (holder : ℕ) → Value → Bool
fits parent Plain holder value = true
fits parent SameRegion holder value = of_region true (λ r. nat_eq r holder) value
fits parent ParentPtr holder value = of_region true (λ r. is_above parent r holder) value
fits parent Traditional holder value = of_region true (λ r. nat_eq r 0) value

-- zero or null
abbrev pub zero_of : Ty → Value
zero_of int = Number (pos 0)
zero_of unsigned = Number (pos 0)
zero_of char = Number (pos 0)
zero_of region = Null
zero_of (struct number) = Null
zero_of (pointer note target) = Null

abbrev pub blank_cell : CellKind → Value
blank_cell int_cell = Number (pos 0)
blank_cell unsigned_cell = Number (pos 0)
blank_cell char_cell = Number (pos 0)
blank_cell region_cell = Null
blank_cell (pointer_cell note target) = Null

abbrev pub blank : Layout → (count : ℕ) → Object
blank layout count = record { layout = layout; count = count; values = flat_map (map blank_cell) (replicate count layout) }

-- a global that is one number has its initial value
abbrev pub first_values : Ty → ℤ → List Value → List Value
first_values int n values = Number n ∷ []
first_values unsigned n values = Number n ∷ []
first_values char n values = Number n ∷ []
first_values region n values = values
first_values (struct number) n values = values
first_values (pointer note target) n values = values

abbrev pub global_object_of : Layout → Ty → Option ℕ → ℤ → Object
global_object_of layout ty None n = record (blank layout 1) { values = first_values ty n (blank layout 1).values }
global_object_of layout ty (Some count) n = blank layout count

abbrev pub global_object : List Struct → Global → Object
global_object structs g = global_object_of (cells structs g.ty) g.ty g.count g.initial

-- a string literal of m bytes is m + 1 elements, the last of them 0
abbrev pub literal : List ℕ → Object
literal bytes = record { layout = char_cell ∷ []; count = suc (length bytes); values = map (λ b. Number (pos b)) bytes ++ Number (pos 0) ∷ [] }

-- region 0 alone, with the globals and then the literals
abbrev pub first_heap : Program → Heap
first_heap p =
    record { parent = 0; alive = true; objects = map (global_object p.structs) p.globals ++ map literal p.strings } ∷ []
