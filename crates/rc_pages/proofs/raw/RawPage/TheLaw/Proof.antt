-- A `&` to a page is made where one to its cells is.
use Rattle.std.specs.Prelude.{ℕ, List, [], ◌∷◌}
use seplogic.Ra.Ura.{Ura}
use base.Fraction.{full_share}
use base.Fml.{Lft}
use mir.Syntax.{w128}
use types.Logic.{Logic}
use denote.Array.{Array-row_laws}
use denote.Builtin.{u128}
use denote.Copied.{uint_Copied, Array-Copied}
use denote.Param.Shared.{copy_shared}
use denote.Plain.{uint_row_laws}
use denote.RawPtr.{Ptr}
use denote.RattleType.{RowLaws}
use denote.Sharing.{ShrLaws}
use denote.SharingLaws.{nothing_shr_laws}
use denote.Struct.Field.{RawPtr-field}
use denote.Struct.Laws.{RawPtr-copy}
use denote.Struct.Lending.{Lends, lent_at_shr_laws, Lends-lies, Lends-first, Lends-nothing, of_Lends}
use Rattle.rc_pages.specs.Memory.{page_cells, page_deed, page_memory, page_owns, page_lends}
use Rattle.rc_pages.specs.contracts.raw.RawPage as C
use Rattle.rc_pages.proofs.raw.RawPage.TheLaw.Statement.{statement}

cells_row_laws : RowLaws page_cells
cells_row_laws = Array-row_laws u128 (uint_row_laws w128) 256

page_lends_laws : (p : Ptr) (xs : List ℕ) → ShrLaws (page_lends p xs)
page_lends_laws p [] = nothing_shr_laws
page_lends_laws p (x ∷ xs) = lent_at_shr_laws page_cells cells_row_laws p (x ∷ xs)

module _ {M : Type 1} {𝓤 : Ura M} (𝓛 : Logic 𝓤) (l : Lft) where
  memory_lends : (p : Ptr) (xs : List ℕ) → Lends 𝓛 (page_memory p xs) (page_lends p xs) l
  memory_lends p [] = Lends-nothing 𝓛 (page_memory p []) l
  memory_lends p (x ∷ xs) = Lends-lies 𝓛 page_cells l p (x ∷ xs) ((Array-Copied 𝓛 u128 (uint_Copied 𝓛 w128) tt 256).shares full_share l (x ∷ xs))

  page_owner_lends : (p : Ptr) (xs : List ℕ) → Lends 𝓛 (page_owns p xs) (page_lends p xs) l
  page_owner_lends p xs = Lends-first 𝓛 (page_memory p xs) (page_deed p) (page_lends p xs) l (memory_lends p xs)

pub shares : statement
shares = of_Lends C.struct C.the_codes C.the_heap C.the_lent (λ d p. page_lends_laws d.at d.cells) (copy_shared RawPtr-field RawPtr-copy, tt)
    (λ M 𝓤 𝓛 d p. page_owner_lends 𝓛 C.the_row.lives d.at d.cells)
