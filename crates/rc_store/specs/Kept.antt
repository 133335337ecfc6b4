-- The store as a heap keeps it: of the type of a pointer's target nothing is kept.
use Rattle.std.specs.Prelude.{ℕ, ◌+◌, ◌&&◌, List, zip, map, flat_map, replicate, length, slice_set, option_map, Option, Some, None, count_by, sum_by}
use Rattle.rc_core.specs.declared.layouts.Kind.{Kind}
use Rattle.rc_core.specs.Laid.{held_kind}
use Rattle.rc_core.specs.Heap.{Value, Object, names, kinds_of}
use Rattle.rc_core.specs.Store.{View, Store}
use Rattle.rc_store.specs.Values.{blank_of, is_counted}

-- how many cells an element has, how many elements there are, and of all cells the kinds and the values; that these agree is said by
-- `IsFilled` of specs/Whole, and every heap keeps it
pub record KeptObject : Type 0 where
  pub size : ℕ
  pub count : ℕ
  pub kinds : List Kind
  pub values : List Value

pub record KeptView : Type 0 where
  pub parent : ℕ
  pub objects : List KeptObject

abbrev pub Regions : Type 0
Regions = List (Option KeptView)

pub record KeptStore : Type 0 where
  pub regions : Regions
  pub pins : List Value
  pub spare : ℕ
  pub region_limit : ℕ
  pub block_limit : ℕ

abbrev pub kept_object : Object → KeptObject
kept_object o = record { size = length o.layout; count = o.count; kinds = map held_kind (kinds_of o); values = o.values }

abbrev pub kept_view : View → KeptView
kept_view v = record { parent = v.parent; objects = map kept_object v.objects }

abbrev pub kept_store : Store → KeptStore
kept_store s = record { regions = map (option_map kept_view) s.regions; pins = s.pins; spare = s.spare; region_limit = s.region_limit; block_limit = s.block_limit }

abbrev pub blank : (kinds : List Kind) → (count : ℕ) → KeptObject
blank kinds count = record { size = length kinds; count = count; kinds = flat_map (λ ks. ks) (replicate count kinds); values = flat_map (map blank_of) (replicate count kinds) }

-- the counted cells of an object that name r
abbrev pub object_refs : (r : ℕ) → KeptObject → ℕ
object_refs r o = count_by (λ (c : Kind × Value). is_counted c.0 && names r c.1) (zip o.kinds o.values)

abbrev pub view_refs : (r : ℕ) → Option KeptView → ℕ
view_refs r None = 0
view_refs r (Some v) = sum_by (object_refs r) v.objects

-- the counted cells of live regions but r, and the pins, that name r
abbrev pub refs : KeptStore → (r : ℕ) → ℕ
refs store r = sum_by (view_refs r) (slice_set store.regions r None) + count_by (names r) store.pins
