-- What facts say of values. A value is present where it is a handle or a pointer, and it names its region. What is above what is asked
-- of all regions that were ever made, deleted ones too, since a variable may still name a deleted region.
use Rattle.std.specs.Prelude.{◌≡◌, ℕ, ◌<◌, Bool, false, nat_eq, IsTrue}
use Rattle.rc_core.specs.Heap.{Value, Number, Null, Handle, Pointer, Heap, parent, is_above}
use Rattle.rc_facts.specs.declared.fact.Fact.{Fact}
use Rattle.rc_facts.specs.declared.fact.Fact.TheVariants.{In, Up, Trad, NonNull}

abbrev pub is_present : Value → Type 0
is_present (Number n) = ⊥
is_present Null = ⊥
is_present (Handle r) = Unit {0}
is_present (Pointer a) = Unit {0}

abbrev pub region_in : Value → ℕ
region_in (Number n) = 0
region_in Null = 0
region_in (Handle r) = r
region_in (Pointer a) = a.region

abbrev pub Holds : Fact → (values : ℕ → Value) → Heap → Type 0
Holds (In x y) values heap = is_present (values x) → is_present (values y) × (region_in (values x) ≡ region_in (values y))
Holds (Up x y) values heap = is_present (values x) → is_present (values y) × IsTrue (is_above (parent heap) (region_in (values x)) (region_in (values y)))
Holds (Trad x) values heap = is_present (values x) → region_in (values x) ≡ 0
Holds (NonNull x) values heap = is_present (values x)

-- all facts of a set
abbrev pub AllHold : (facts : Fact → Bool) → (values : ℕ → Value) → Heap → Type 0
AllHold facts values heap = (fact : Fact) → IsTrue (facts fact) → Holds fact values heap

-- each region but region 0 was made later than its parent
abbrev pub Rooted : (parents : ℕ → ℕ) → Type 0
Rooted parents = (r : ℕ) → nat_eq r 0 ≡ false → parents r < r
