-- Types as the rules look at them: their sort, when two are equal, and what the text writes. Structs are numbered in the
-- order in which the text first defines them. After them stand those that are defined nowhere and that a field, a result or a
-- parameter names. Each other name has a number of its own past all of those.
use Rattle.std.specs.Prelude.{ℕ, suc, ◌+◌, ◌*◌, List, [], ◌∷◌, Option, Some, None, Bool, true, false, ◌&&◌, nat_eq, position, length}
use Rattle.std.specs.Str.{bytes_eq}
use Rattle.rc_syntax.specs.declared.tree.Note.{Note as WrittenNote}
use Rattle.rc_syntax.specs.declared.tree.Note.TheVariants as written
use Rattle.rc_syntax.specs.declared.tree.Base.{Base}
use Rattle.rc_syntax.specs.declared.tree.Base.TheVariants as base
use Rattle.rc_syntax.specs.Tree.{TypeName}
use Rattle.rc_core.specs.declared.ty.Note.{Note}
use Rattle.rc_core.specs.declared.ty.Note.TheVariants.{Plain, SameRegion, ParentPtr, Traditional}
use Rattle.rc_core.specs.declared.ty.NumberType.TheVariants.{Int, Unsigned, Char}
use Rattle.rc_core.specs.Types.{Ty, int, unsigned, char, region, struct, pointer}
use Rattle.rc_deletes.specs.declared.sort.Sort.{Sort}
use Rattle.rc_deletes.specs.declared.sort.Sort.TheVariants.{Number, Region, Pointer, Null, Struct}

-- the sort of a type
abbrev pub sort_of_type : Ty → Sort
sort_of_type int = Number Int
sort_of_type unsigned = Number Unsigned
sort_of_type char = Number Char
sort_of_type region = Region
sort_of_type (struct k) = Struct
sort_of_type (pointer note target) = Pointer

-- the sort of a value, where the word `NULL` has no type of its own
abbrev pub sort_of : Option Ty → Sort
sort_of None = Null
sort_of (Some t) = sort_of_type t

abbrev pub same_note : Note → Note → Bool
same_note Plain Plain = true
same_note SameRegion SameRegion = true
same_note ParentPtr ParentPtr = true
same_note Traditional Traditional = true
same_note a b = false

-- equal types agree in all their annotations
abbrev pub same_type : Ty → Ty → Bool
same_type int int = true
same_type unsigned unsigned = true
same_type char char = true
same_type region region = true
same_type (struct k) (struct l) = nat_eq k l
same_type (pointer m t) (pointer n u) = same_note m n && same_type t u
same_type t u = false

-- values of two types are compared without the annotation of the last star
abbrev pub same_value_type : Ty → Ty → Bool
same_value_type (pointer m t) (pointer n u) = same_type t u
same_value_type t u = same_type t u

-- the same of types of values, which the word `NULL` lacks
abbrev pub same_types : Option Ty → Option Ty → Bool
same_types (Some t) (Some u) = same_value_type t u
same_types t u = false

-- where a name stands among others
abbrev pub place_of : List (List ℕ) → List ℕ → Option ℕ
place_of names name = position (bytes_eq name) names

-- bytes as digits, so that no two names have one number
abbrev pub spelled : List ℕ → ℕ
spelled [] = 0
spelled (b ∷ bs) = suc b + 257 * spelled bs

abbrev pub number_or : Option ℕ → ℕ → ℕ
number_or None n = n
number_or (Some k) n = k

abbrev pub struct_number : (types : List (List ℕ)) → List ℕ → ℕ
struct_number types name = number_or (place_of types name) (length types + spelled name)

abbrev pub note_of : WrittenNote → Note
note_of written.Plain = Plain
note_of written.SameRegion = SameRegion
note_of written.ParentPtr = ParentPtr
note_of written.Traditional = Traditional

abbrev pub base_type : (types : List (List ℕ)) → Base → Ty
base_type types (base.Int at) = int
base_type types (base.Unsigned at) = unsigned
base_type types (base.Char at) = char
base_type types (base.Region at) = region
base_type types (base.Struct at name) = struct (struct_number types name.text)

-- the first star stands nearest to the base
abbrev pub starred : Ty → List WrittenNote → Ty
starred t [] = t
starred t (note ∷ notes) = starred (pointer (note_of note) t) notes

abbrev pub written_type : (types : List (List ℕ)) → TypeName → Ty
written_type types n = starred (base_type types n.base) n.stars
