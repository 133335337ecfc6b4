-- What the owner of a raw page owns: its memory at the full share, which nobody else can own, and the one right
-- to give it back. So no two pages lie in one place, and a page is given back once.
use Rattle.std.specs.Prelude.{ℕ, List, [], ◌∷◌}
use Rattle.std.specs.contracts.impls.GlobalAllocator.TheImpl.{ghosts}
use base.Fraction.{full_share}
use base.Fml.{Lft, Fml, fsep}
use mir.Syntax.{ty_int, ty_array, w128}
use denote.RattleType.{RattleType}
use denote.Array.{Array}
use denote.Builtin.{u128}
use denote.RawPtr.{Ptr, lies_at, room_for}
use denote.Sharing.{nothing}
use denote.Struct.Lending.{lent_at}

-- the cells of a page
abbrev pub page_cells : RattleType
page_cells = Array u128 256

-- the memory of a page: room for cells until they are written, and then the cells
abbrev pub page_memory : Ptr → List ℕ → Fml
page_memory p [] = room_for (ty_array (ty_int w128) 256) p
page_memory p (x ∷ xs) = lies_at page_cells full_share p (x ∷ xs)

-- the right to give the memory back, whichever handle asks
abbrev pub page_deed : Ptr → Fml
page_deed = ghosts.dealloc_token (record { memory = record { seal = tt } }) (ty_array (ty_int w128) 256)

-- the memory, and the right to give it back
abbrev pub page_owns : Ptr → List ℕ → Fml
page_owns p xs = fsep (page_memory p xs) (page_deed p)

-- what a `&` to the page lends: its cells, where it has any
abbrev pub page_lends : Ptr → List ℕ → Lft → Fml
page_lends p [] = nothing
page_lends p (x ∷ xs) = lent_at page_cells p (x ∷ xs)
