-- The globals of an image, one after another.
use Rattle.std.proofs.Common.{◌≡◌, ◌<◌, ◌≤◌, ◌+◌, ◌∙◌, ℕ, List, [], ◌∷◌, ◌++◌, length, map, take, get_or, refl, sym, ap, subst, arith}
use Rattle.std.proofs.lemmas.List.{get_or-map, get_or_default, length-map, length-take-le, map-append, take_more}
use Rattle.rc_core.specs.declared.ty.NumberType.TheVariants.{Int, Unsigned, Char}
use Rattle.rc_core.specs.Heap.{Object}
use Rattle.rc_core.specs.Laid.{held_kind}
use Rattle.rc_core.specs.Layout.{Layout}
use Rattle.rc_code.specs.declared.kind.Cell.{Cell}
use Rattle.rc_code.specs.declared.kind.Cell.TheVariants as cell
use Rattle.rc_code.specs.declared.image.Initial.{Initial}
use Rattle.rc_code.specs.declared.image.Initial.TheVariants as initial
use Rattle.rc_code.specs.declared.image.Global.{Global}
use Rattle.rc_code.specs.declared.image.Parts.{Parts}
use Rattle.rc_code.specs.Image.{bound_of, cells_at}
use Rattle.rc_code.specs.ImageMeaning.{global_object}
use Rattle.rc_code.specs.Running.{layout_at, layout_of, reading_of}
use Rattle.rc_store.specs.Kept.{KeptObject, KeptStore, kept_object}
use Rattle.rc_store.specs.Stores.{IsNew, allocated}
use Rattle.rc_store.proofs.Keeping.{keeps_the_store}
use Rattle.rc_first_heap.specs.First.{IsAlone, IsNumber, first_of, holding, kept_first, kept_global}
use Rattle.rc_first_heap.proofs.Filling.{one_more}

-- ---- layouts

-- a type that has first numbers is one number cell
pub one_number : (cells : List Cell) (n : ℕ) → n < bound_of cells → IsNumber (layout_of cells)
one_number [] n low = absurd (omega (arith, low))
one_number (cell.Number Int ∷ []) n low = refl
one_number (cell.Number Unsigned ∷ []) n low = refl
one_number (cell.Number Char ∷ []) n low = refl
one_number (cell.Region ∷ []) n low = absurd (omega (arith, low))
one_number (cell.Pointer note type ∷ []) n low = absurd (omega (arith, low))
one_number (c ∷ d ∷ cells) n low = absurd (omega (arith, low))

pub one_byte : (cells : List Cell) → bound_of cells ≡ 256 → IsNumber (layout_of cells)
one_byte cells is = one_number cells 0 (subst (λ n. 0 < n) (sym is) (omega arith))

-- a type's cells, read from the list of types
pub cells_read : (types slice : List (List Cell)) (type : ℕ) (cells : List Cell) → slice ≡ types → cells ≡ get_or slice type cells → type < length types → cells ≡ cells_at types type
cells_read types slice type cells same read low = read ∙ ap (λ ts. get_or ts type cells) same ∙ get_or_default types type cells [] low

-- the layout of a global's type is that of the type's cells
pub layout_is : (parts : Parts) (type : ℕ) (layout : Layout) → type < length parts.types → layout ≡ layout_of (cells_at parts.types type) → layout_at (reading_of parts) type ≡ layout
layout_is parts type layout low is = get_or-map layout_of parts.types type [] [] low ∙ sym is

-- what is kept of a global
pub global_is : (parts : Parts) (g : Global) (layout : Layout) (elements : ℕ) (first : Initial) → layout_at (reading_of parts) g.type_number ≡ layout → g.elements ≡ elements → g.initial ≡ first → kept_first layout elements first ≡ kept_global parts g
global_is parts g layout elements first is count begins =
    sym (ap (λ l. kept_first l g.elements g.initial) is ∙ ap (λ n. kept_first layout n g.initial) count ∙ ap (kept_first layout elements) begins)

-- one that begins with zeros and nulls is appended as it is
pub zeros_more : (s : KeptStore) → IsAlone s → (layout : Layout) (n : ℕ) → allocated 0 (map held_kind layout) n s ≡ holding (first_of s ++ kept_first layout n initial.Zeros ∷ []) s
zeros_more s alone layout n = one_more s alone (map held_kind layout) n ∙ sym (ap (λ o. holding (first_of s ++ o ∷ []) s) (keeps_the_store.blanks layout n))

-- ---- the walk

pub alone_then : (s now : KeptStore) (objects : List KeptObject) → now ≡ holding objects s → IsAlone now
alone_then s now objects is = subst IsAlone (sym is) refl

pub new_holds : (s : KeptStore) → IsNew s → s ≡ holding [] s
new_holds s new = ap (λ rs. record s { regions = rs }) new.regions

module _ (parts : Parts) where
  abbrev object : Global → Object
  object = global_object (reading_of parts)

  -- the objects of some globals
  abbrev pub objects_of : List Global → List KeptObject
  objects_of globals = map kept_object (map object globals)

  pub few_then : (s now : KeptStore) (globals : List Global) (i : ℕ) → now ≡ holding (objects_of (take i globals)) s → i ≤ length globals → length (first_of now) ≡ i
  few_then s now globals i is low =
      ap (λ q. length (first_of q)) is ∙ length-map (map object (take i globals)) kept_object ∙ length-map (take i globals) object ∙ length-take-le i globals low

  pub globals_more : (globals : List Global) (i : ℕ) (g : Global) → i < length globals → g ≡ get_or globals i g → objects_of (take i globals) ++ kept_global parts g ∷ [] ≡ objects_of (take (i + 1) globals)
  globals_more globals i g low read =
      ap (λ x. objects_of (take i globals) ++ kept_object (object x) ∷ []) read
      ∙ sym (map-append kept_object (map object (take i globals)) (object (get_or globals i g) ∷ []))
      ∙ sym (ap (map kept_object) (map-append object (take i globals) (get_or globals i g ∷ [])))
      ∙ sym (ap objects_of (take_more globals i g low))
