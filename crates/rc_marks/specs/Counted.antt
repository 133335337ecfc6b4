-- The annotated stores of an image are the sites of its region code: in the same order, each with its line, its annotation and the bit that
-- the marks have for its point. So for each line, annotation and bit the image has as many stores as the code has sites that are marked so.
use Rattle.std.specs.Prelude.{◌≡◌, ◌↔◌, ℕ, suc, Bool, true, false, ◌&&◌, nat_eq, List, [], ◌∷◌, ◌++◌, map, count_by}
use Rattle.rc_core.specs.declared.ty.Note.{Note}
use Rattle.rc_core.specs.declared.ty.Note.TheVariants.{Plain, SameRegion, ParentPtr, Traditional}
use Rattle.rc_rlang.specs.declared.order.Order.TheVariants.{Points}
use Rattle.rc_rlang.specs.RegionCode.{Routine, Rlang}
use Rattle.rc_rlang.specs.Sites.{Site, code_sites}
use Rattle.rc_annotations.specs.Annotations.{Removable}
use Rattle.rc_annotations.specs.Heights.{temporaries_of}
use Rattle.rc_code.specs.declared.image.Parts.{Parts}
use Rattle.rc_numbering.specs.Means.{IsNumberable}
use Rattle.rc_marks.specs.InOrder.{mask_of}
use Rattle.rc_marks.specs.Stores.{Store}
use Rattle.rc_marks.specs.Marked.{Stored, image_stores, marked_image}

-- a site, with the function that it stands in
pub record Placed : Type 0 where
  pub function : ℕ
  pub point : ℕ
  pub line : ℕ
  pub note : Note

abbrev pub in_function : ℕ → Site → Placed
in_function k s = record { function = k; point = s.point; line = s.line; note = s.note }

-- the first function has this number
abbrev pub placed_from : ℕ → List Routine → List Placed
placed_from k [] = []
placed_from k (f ∷ fs) = map (in_function k) (code_sites Points f.body 1) ++ placed_from (suc k) fs

abbrev pub all_sites : Rlang → List Placed
all_sites r = placed_from 0 r.functions

module _ (marks : (function point : ℕ) → Bool) where
  abbrev pub stored : Placed → Stored
  stored s = record { line = s.line; note = s.note; proved = marks s.function s.point }

  abbrev pub SitesAreStored : Rlang → Parts → Type 0
  SitesAreStored r image = image_stores image ≡ map stored (all_sites r)

abbrev pub same_note : Note → Note → Bool
same_note Plain Plain = true
same_note SameRegion SameRegion = true
same_note ParentPtr ParentPtr = true
same_note Traditional Traditional = true
same_note a b = false

abbrev pub same_bit : Bool → Bool → Bool
same_bit true b = b
same_bit false true = false
same_bit false false = true

-- a store with this line, annotation and bit
abbrev pub is_stored : (line : ℕ) → Note → (bit : Bool) → Stored → Bool
is_stored line note bit s = nat_eq s.line line && (same_note s.note note && same_bit s.proved bit)

-- for each line, annotation and bit as many stores as sites of the code whose check may go just where the bit says so
abbrev pub HasAsMany : Rlang → Parts → Type 0
HasAsMany r image = (may_go : (function point : ℕ) → Bool) → ((g p : ℕ) → (may_go g p ≡ true) ↔ Removable r (temporaries_of r) g p) → (line : ℕ) (note : Note) (bit : Bool) →
    count_by (is_stored line note bit) (image_stores image) ≡ count_by (λ (s : Placed). nat_eq s.line line && (same_note s.note note && same_bit (may_go s.function s.point) bit)) (all_sites r)

abbrev pub StoresAreSites : Type 0
StoresAreSites = (r : Rlang) → IsNumberable r → (marks : (function point : ℕ) → Bool) → SitesAreStored marks r (marked_image (mask_of marks r) r)

abbrev pub ImagesHaveAsMany : Type 0
ImagesHaveAsMany = (r : Rlang) → IsNumberable r → (marks : (function point : ℕ) → Bool) → ((g p : ℕ) → (marks g p ≡ true) ↔ Removable r (temporaries_of r) g p) → HasAsMany r (marked_image (mask_of marks r) r)
