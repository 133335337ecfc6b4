-- Which slots are above which, how deep a slot stands, and what makes slots a tree.
use Rattle.std.specs.Prelude.{◌≡◌, ◌<◌, ◌^◌, ℕ, suc, List}
use Rattle.rc_regions.specs.declared.record.Slot.{Slot}
use Rattle.rc_regions.specs.declared.record.Slot.TheVariants.{Root, Child}
use Rattle.rc_regions.specs.Slots.{slot_at, IsLive}

-- a is above b where it is b, or is above b's parent
pub data Above (slots : List Slot) (a : ℕ) : ℕ → Type 0 where
  here : (b : ℕ) → a ≡ b → Above slots a b
  higher : (b parent : ℕ) → slot_at slots b ≡ Child parent → Above slots a parent → Above slots a b

-- the root has depth 0, and a child is one deeper than its parent
pub data HasDepth (slots : List Slot) : ℕ → ℕ → Type 0 where
  top : (s : ℕ) → slot_at slots s ≡ Root → HasDepth slots s 0
  below : (s parent depth : ℕ) → slot_at slots s ≡ Child parent → HasDepth slots parent depth → HasDepth slots s (suc depth)

-- a number is written with so many binary digits, or with fewer
abbrev pub HasDigits : ℕ → ℕ → Type 0
HasDigits n digits = n < 2 ^ digits

-- the root stands at slot 0 and nowhere else, and parents are live
pub record IsRooted (slots : List Slot) : Type 0 where
  pub root : slot_at slots 0 ≡ Root
  pub only_root : (s : ℕ) → slot_at slots s ≡ Root → s ≡ 0
  pub parents : (s parent : ℕ) → slot_at slots s ≡ Child parent → IsLive slots parent

-- besides, each way up ends at the root
pub record IsTree (slots : List Slot) : Type 0 where
  pub rooted : IsRooted slots
  pub depths : (s : ℕ) → IsLive slots s → (depth : ℕ) × HasDepth slots s depth
