-- What the rules answer of a whole text: its program, or the first refusal. What is wrong with names, types, arities and sizes
-- comes first, then what is wrong with `main`, then where regions are deleted and what is annotated.
use Rattle.std.specs.Prelude.{◌≡◌, ℕ, List, [], ◌∷◌, Option, Some, None, Bool, true, false, ◌&&◌, if◌then◌else◌}
use Rattle.std.specs.Str.{bytes_eq}
use Rattle.rc_syntax.specs.declared.tree.Spot.{Spot}
use Rattle.rc_syntax.specs.declared.tree.Base.{Base}
use Rattle.rc_syntax.specs.declared.tree.Base.TheVariants as base
use Rattle.rc_syntax.specs.Tree as t
use Rattle.rc_core.specs.Programs as p
use Rattle.rc_deletes.specs.declared.fault.Refusal.{Refusal}
use Rattle.rc_deletes.specs.declared.deletes.DeletesFault.{DeletesFault}
use Rattle.rc_deletes.specs.Judged.{Judged, Holds, Faulty}
use Rattle.rc_deletes.specs.Items.{main_name, judged, Typed}
use Rattle.rc_deletes.specs.Places.{deletes_faults}

abbrev pub is_int : Base → Bool
is_int (base.Int at) = true
is_int b = false

-- exactly `int`
abbrev pub gives_int : Option t.TypeName → Bool
gives_int None = false
gives_int (Some n) = is_int n.base && (elim n.stars [ [] ↦ true | note ∷ notes ↦ false ])

abbrev pub takes_nothing : List t.Param → Bool
takes_nothing [] = true
takes_nothing (q ∷ qs) = false

abbrev pub main_shape : Spot → (fits : Bool) → Option ℕ
main_shape at true = None
main_shape at false = Some at.line

abbrev pub is_definition_of_main : t.Item → Bool
is_definition_of_main (t.struct at name fields) = false
is_definition_of_main (t.global at n name count c) = false
is_definition_of_main (t.function at deletes result name params None) = false
is_definition_of_main (t.function at deletes result name params (Some body)) = bytes_eq name.text main_name

-- the line of a function that has parameters or another result than `int`
abbrev pub main_shape_of : t.Item → Option ℕ
main_shape_of (t.struct at name fields) = None
main_shape_of (t.global at n name count c) = None
main_shape_of (t.function at deletes result name params body) = main_shape at (takes_nothing params && gives_int result)

-- the line of a `main` of another shape, and line 1 where none is defined
abbrev pub main_fault : List t.Item → Option ℕ
main_fault [] = Some 1
main_fault (i ∷ is) = if is_definition_of_main i then main_shape_of i else main_fault is

-- a refusal of a text, with its line
pub data Refused : Type 0 where
  at_node : Refusal → (line : ℕ) → Refused
  at_main : (line : ℕ) → Refused
  at_place : DeletesFault → Refused

abbrev pub first_place : List DeletesFault → Option Refused
first_place [] = None
first_place (f ∷ fs) = Some (at_place f)

abbrev pub main_or : Option ℕ → Option Refused → Option Refused
main_or (Some line) later = Some (at_main line)
main_or None later = later

abbrev pub first_of : t.Tree → Judged p.Program → Option Refused
first_of tree (Faulty f fs) = Some (at_node f.refusal f.at.line)
first_of tree (Holds program) = main_or (main_fault tree.items) (first_place (deletes_faults tree program))

-- the first refusal of a tree, or none
abbrev pub refusal : t.Tree → Option Refused
refusal tree = first_of tree (judged tree)

-- the program of a tree that nothing refuses
abbrev pub IsProgramOf : t.Tree → p.Program → Type 0
IsProgramOf tree program = Typed tree program × (refusal tree ≡ None)
