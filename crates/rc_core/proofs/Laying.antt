-- Structs that are laid out one after another.
use Rattle.std.proofs.Common.{◌≡◌, ℕ, zero, suc, ◌+◌, ◌<◌, ◌≤◌, refl, sym, ap, ◌∙◌, subst, List, [], ◌∷◌, ◌++◌, map, length, take, drop, get_or, slice_get, replicate, Option, Some, None, arith, length-append, append-nil, take-append-drop, below_more, inl, inr}
use Rattle.std.specs.Prelude.{flat_map, Result, Ok, Err, OnOk}
use Rattle.std.proofs.lemmas.Grind.{flat_map-append}
use Rattle.std.proofs.lemmas.List.{length-map, map-append, map_push, length-take-le, take_more, take_all}
use Rattle.std.proofs.lemmas.Option.{slice_get_past}
use Rattle.std.proofs.lemmas.Bool.{cases_lt}
use Rattle.rc_core.specs.declared.parts.Field.{Field as CodeField}
use Rattle.rc_core.specs.declared.parts.Struct.{Struct as CodeStruct}
use Rattle.rc_core.specs.Types.{Ty, int, unsigned, char, region, struct, pointer}
use Rattle.rc_core.specs.Programs.{Field, Struct}
use Rattle.rc_core.specs.Layout.{Layout, cells_by, copies, field_cells, fields_cells, layouts_after, layouts_of, count_in, stride_in}
use Rattle.rc_core.specs.Shapes.{field_of, struct_of, ty_of}
use Rattle.rc_core.specs.WellTyped.{IsInside, StructsFit}
use Rattle.rc_core.proofs.LayoutLaws.{AreInside, Agree, layouts-prefix}
use Rattle.rc_core.proofs.ShapeRows.{shape_at}
use Rattle.rc_core.proofs.Unwrapping.{all_inside}
use Rattle.rc_core.specs.declared.layouts.Kind.{Kind}
use Rattle.rc_core.specs.declared.layouts.FieldPlace.{FieldPlace}
use Rattle.rc_core.specs.Laid.{held_kind, LaidStruct, LaidStructs, HaveCells, kinds_in, kinds_laid, place_in, place_by, stride_by, place_of, IsLaidOut, AreLaidOut}
use Rattle.rc_core.proofs.Entries.{get_there, get_missing, got_before, got_last}

-- the cells of one struct
pub kinds_found : (layouts : List Layout) (laid : LaidStructs) → HaveCells layouts laid → (k : ℕ) → kinds_in (slice_get laid k) ≡ map held_kind (get_or layouts k [])
kinds_found [] [] e k = refl
kinds_found [] (s ∷ laid) e k = absurd cc
kinds_found (l ∷ layouts) [] e k = absurd cc
kinds_found (l ∷ layouts) (s ∷ laid) e zero = cc
kinds_found (l ∷ layouts) (s ∷ laid) e (suc k) = let rest : HaveCells layouts laid = cc in kinds_found layouts laid rest k

-- copies of cells that are kept
pub copies_kept : (n : ℕ) (layout : Layout) → map held_kind (copies (Some n) layout) ≡ flat_map (λ copy. copy) (replicate n (map held_kind layout))
copies_kept zero layout = refl
copies_kept (suc n) layout = map-append held_kind layout (copies (Some n) layout) ∙ ap (λ c. map held_kind layout ++ c) (copies_kept n layout)

-- copies of one cell
pub same_copies : (one : List Kind) (none : Kind) (n : ℕ) → length one ≡ 1 → replicate n (get_or one 0 none) ≡ flat_map (λ copy. copy) (replicate n one)
same_copies [] none n long = absurd (omega (arith, long))
same_copies (k ∷ []) none zero long = refl
same_copies (k ∷ []) none (suc n) long = ap (λ c. k ∷ c) (same_copies (k ∷ []) none n long)
same_copies (k ∷ l ∷ ks) none n long = absurd (omega (arith, long))

pub after_ok : {T E P Q : Type 0} (r : Result T E) → (P → Q) → OnOk r P → OnOk r Q
after_ok (Ok x) f p = f p
after_ok (Err e) f p = tt

-- where the fields lie that stand behind so many cells
abbrev pub places_from : List Layout → ℕ → List Field → List FieldPlace
places_from layouts at [] = []
places_from layouts at (f ∷ fs) = record { offset = at; count = count_in (Some f); stride = length (cells_by layouts f.ty) } ∷ places_from layouts (at + length (field_cells layouts f)) fs

pub places_more : (layouts : List Layout) (at : ℕ) (fs : List Field) (f : Field) → places_from layouts at (fs ++ f ∷ []) ≡ places_from layouts at fs ++ record { offset = at + length (fields_cells layouts fs); count = count_in (Some f); stride = length (cells_by layouts f.ty) } ∷ []
places_more layouts at [] f =
    let e : at ≡ at + 0 = omega arith in
    ap (λ (n : ℕ). let p : FieldPlace = record { offset = n; count = count_in (Some f); stride = length (cells_by layouts f.ty) } in p ∷ []) e
places_more layouts at (g ∷ fs) f =
    let here : FieldPlace = record { offset = at; count = count_in (Some g); stride = length (cells_by layouts g.ty) } in
    let e : (at + length (field_cells layouts g)) + length (fields_cells layouts fs) ≡ at + length (field_cells layouts g ++ fields_cells layouts fs) = omega (arith, length-append (field_cells layouts g) (fields_cells layouts fs)) in
    ap (λ (ps : List FieldPlace). here ∷ ps) (places_more layouts (at + length (field_cells layouts g)) fs f)
    ∙ ap (λ (n : ℕ). let p : FieldPlace = record { offset = n; count = count_in (Some f); stride = length (cells_by layouts f.ty) } in here ∷ (places_from layouts (at + length (field_cells layouts g)) fs ++ p ∷ [])) e

-- a place by the cells that stand before it, where so many more do
abbrev pub place_at : List Layout → ℕ → List Field → ℕ → FieldPlace
place_at layouts at fields k = record { offset = at + length (fields_cells layouts (take k fields)); count = count_in (slice_get fields k); stride = stride_by layouts (slice_get fields k) }

abbrev pub end_at : ℕ → FieldPlace
end_at n = record { offset = n; count = 0; stride = 0 }

place_found : (layouts : List Layout) (at : ℕ) (fields : List Field) (k : ℕ) → get_or (places_from layouts at fields) k (end_at (at + length (fields_cells layouts fields))) ≡ place_at layouts at fields k
place_found layouts at [] zero = refl
place_found layouts at [] (suc k) = refl
place_found layouts at (f ∷ fs) zero =
    let e : at ≡ at + 0 = omega arith in
    ap (λ (n : ℕ). let p : FieldPlace = record { offset = n; count = count_in (Some f); stride = length (cells_by layouts f.ty) } in p) e
place_found layouts at (f ∷ fs) (suc k) =
    let more : (rest : List Field) → at + length (field_cells layouts f ++ fields_cells layouts rest) ≡ (at + length (field_cells layouts f)) + length (fields_cells layouts rest) = λ rest. omega (arith, length-append (field_cells layouts f) (fields_cells layouts rest)) in
    ap (λ n. get_or (places_from layouts (at + length (field_cells layouts f)) fs) k (end_at n)) (more fs)
    ∙ place_found layouts (at + length (field_cells layouts f)) fs k
    ∙ ap (λ (n : ℕ). let p : FieldPlace = record { offset = n; count = count_in (slice_get fs k); stride = stride_by layouts (slice_get fs k) } in p) (sym (more (take k fs)))

-- a struct that is laid out as a whole
pub laid_out : (layouts : List Layout) (fields : List Field) (s : LaidStruct) → s.kinds ≡ map held_kind (fields_cells layouts fields) → s.places ≡ places_from layouts 0 fields → IsLaidOut layouts fields s
laid_out layouts fields s kinds places =
    let n : length s.kinds ≡ 0 + length (fields_cells layouts fields) = ap length kinds ∙ length-map (fields_cells layouts fields) held_kind ∙ omega arith in
    let zero_more : (m : ℕ) → 0 + m ≡ m = λ m. omega arith in
    record {
      cells = kinds;
      places = λ k.
          ap (λ ps. get_or ps k (end_at (length s.kinds))) places
          ∙ ap (λ m. get_or (places_from layouts 0 fields) k (end_at m)) n
          ∙ place_found layouts 0 fields k
          ∙ ap (λ (m : ℕ). let p : FieldPlace = record { offset = m; count = count_in (slice_get fields k); stride = stride_by layouts (slice_get fields k) } in p) (zero_more (length (fields_cells layouts (take k fields))));
    }

-- structs one after another

layouts_joined : (acc : List Layout) (ss rest : List Struct) → layouts_after acc (ss ++ rest) ≡ layouts_after (layouts_after acc ss) rest
layouts_joined acc [] rest = refl
layouts_joined acc (fields ∷ ss) rest = layouts_joined (acc ++ fields_cells acc fields ∷ []) ss rest

layouts_length : (acc : List Layout) (ss : List Struct) → length (layouts_after acc ss) ≡ length acc + length ss
layouts_length acc [] = omega arith
layouts_length acc (fields ∷ ss) = layouts_length (acc ++ fields_cells acc fields ∷ []) ss ∙ omega (arith, length-append acc (fields_cells acc fields ∷ []))

cells_agree : (a b : List Layout) (n : ℕ) (t : Ty) → IsInside n t → Agree n a b → cells_by a t ≡ cells_by b t
cells_agree a b n int h e = refl
cells_agree a b n unsigned h e = refl
cells_agree a b n char h e = refl
cells_agree a b n region h e = refl
cells_agree a b n (struct k) h e = e k h
cells_agree a b n (pointer note target) h e = refl

fields_agree : (a b : List Layout) (n : ℕ) (fields : List Field) → AreInside n fields → Agree n a b → fields_cells a fields ≡ fields_cells b fields
fields_agree a b n [] h e = refl
fields_agree a b n (f ∷ fs) h e =
    ap (λ c. copies f.count c ++ fields_cells a fs) (cells_agree a b n f.ty (h 0 f refl) e)
    ∙ ap (λ c. copies f.count (cells_by b f.ty) ++ c) (fields_agree a b n fs (λ j g q. h (suc j) g q) e)

inside_front : (n k : ℕ) (fields : List Field) → AreInside n fields → AreInside n (take k fields)
inside_front n zero fields h j f q = absurd cc
inside_front n (suc k) [] h j f q = absurd cc
inside_front n (suc k) (g ∷ fs) h zero f q = h 0 f q
inside_front n (suc k) (g ∷ fs) h (suc j) f q = inside_front n k fs (λ i x r. h (suc i) x r) j f q

stride_agrees : (a b : List Layout) (n k : ℕ) (fields : List Field) → AreInside n fields → Agree n a b → stride_by a (slice_get fields k) ≡ stride_by b (slice_get fields k)
stride_agrees a b n k [] h e = refl
stride_agrees a b n zero (f ∷ fs) h e = ap length (cells_agree a b n f.ty (h 0 f refl) e)
stride_agrees a b n (suc k) (f ∷ fs) h e = stride_agrees a b n k fs (λ i x r. h (suc i) x r) e

place_agrees : (a b : List Layout) (n k : ℕ) (fields : List Field) → AreInside n fields → Agree n a b → place_by a fields k ≡ place_by b fields k
place_agrees a b n k fields h e =
    ap (λ (c : Layout). let p : FieldPlace = record { offset = length c; count = count_in (slice_get fields k); stride = stride_by a (slice_get fields k) } in p) (fields_agree a b n (take k fields) (inside_front n k fields h) e)
    ∙ ap (λ (m : ℕ). let p : FieldPlace = record { offset = length (fields_cells b (take k fields)); count = count_in (slice_get fields k); stride = m } in p) (stride_agrees a b n k fields h e)

-- fields one after another
pub record Laying (layouts : List Layout) (fields : List Field) (kinds : List Kind) (places : List FieldPlace) : Type 0 where
  pub so_far : kinds ≡ map held_kind (fields_cells layouts fields)
  pub places_so_far : places ≡ places_from layouts 0 fields

cells_more : (layouts : List Layout) (fields : List Field) (f : Field) → fields_cells layouts (fields ++ f ∷ []) ≡ fields_cells layouts fields ++ field_cells layouts f
cells_more layouts fields f = flat_map-append (field_cells layouts) fields (f ∷ []) ∙ ap (λ c. fields_cells layouts fields ++ c) (append-nil (field_cells layouts f))

laying_more : (layouts : List Layout) (fields : List Field) (f : Field) (kinds one now : List Kind) (places places_now : List FieldPlace) (count : ℕ) → Laying layouts fields kinds places → one ≡ map held_kind (cells_by layouts f.ty) → count ≡ count_in (Some f) → now ≡ kinds ++ map held_kind (field_cells layouts f) → places_now ≡ places ++ record { offset = length kinds; count = count; stride = length one } ∷ [] → Laying layouts (fields ++ f ∷ []) now places_now
laying_more layouts fields f kinds one now places places_now count before o n e p =
    let zero_more : length kinds ≡ 0 + length (fields_cells layouts fields) = ap length before.so_far ∙ length-map (fields_cells layouts fields) held_kind ∙ omega arith in
    let long : length one ≡ length (cells_by layouts f.ty) = ap length o ∙ length-map (cells_by layouts f.ty) held_kind in
    let one_place : ℕ → ℕ → ℕ → List FieldPlace = λ a b c. record { offset = a; count = b; stride = c } ∷ [] in
    record {
      so_far = e ∙ ap (λ c. c ++ map held_kind (field_cells layouts f)) before.so_far ∙ sym (map-append held_kind (fields_cells layouts fields) (field_cells layouts f)) ∙ ap (map held_kind) (sym (cells_more layouts fields f));
      places_so_far = p
          ∙ ap (λ ps. ps ++ one_place (length kinds) count (length one)) before.places_so_far
          ∙ ap (λ a. places_from layouts 0 fields ++ one_place a count (length one)) zero_more
          ∙ ap (λ b. places_from layouts 0 fields ++ one_place (0 + length (fields_cells layouts fields)) b (length one)) n
          ∙ ap (λ c. places_from layouts 0 fields ++ one_place (0 + length (fields_cells layouts fields)) (count_in (Some f)) c) long
          ∙ sym (places_more layouts 0 fields f);
    }

pub field_step : (layouts : List Layout) (items : List CodeField) (i : ℕ) (f : CodeField) (kinds one now : List Kind) (places places_now : List FieldPlace) (count : ℕ) → i < length items → f ≡ get_or items i f → Laying layouts (map field_of (take i items)) kinds places → one ≡ map held_kind (cells_by layouts (ty_of f.ty)) → count ≡ count_in (Some (field_of f)) → now ≡ kinds ++ map held_kind (field_cells layouts (field_of f)) → places_now ≡ places ++ record { offset = length kinds; count = count; stride = length one } ∷ [] → Laying layouts (map field_of (take (i + 1) items)) now places_now
field_step layouts items i f kinds one now places places_now count h q before o n e p =
    let more : map field_of (take (i + 1) items) ≡ map field_of (take i items) ++ field_of f ∷ [] =
    ap (map field_of) (take_more items i f h ∙ ap (λ g. take i items ++ g ∷ []) (sym q)) ∙ map_push field_of (take i items) f
    in
    let P : List Field → Type 0 = λ fields. Laying layouts fields now places_now in
    subst P (sym more) (laying_more layouts (map field_of (take i items)) (field_of f) kinds one now places places_now count before o n e p)

pub fields_done : (layouts : List Layout) (items : List CodeField) (i : ℕ) (s : LaidStruct) → length items ≤ i → Laying layouts (map field_of (take i items)) s.kinds s.places → IsLaidOut layouts (map field_of items) s
fields_done layouts items i s h done =
    let whole : map field_of (take i items) ≡ map field_of items = ap (map field_of) (take_all i items h) in
    let P : List Field → Type 0 = λ fields. Laying layouts fields s.kinds s.places in
    let all : Laying layouts (map field_of items) s.kinds s.places = subst P whole done in
    laid_out layouts (map field_of items) s all.so_far all.places_so_far

-- the structs before one are laid out
pub record LayingStructs (structs : List Struct) (n : ℕ) (laid : LaidStructs) : Type 0 where
  pub so_far : HaveCells (layouts_of (take n structs)) laid
  pub places_so_far : (structure : ℕ) → structure < n → (field : ℕ) → place_in (slice_get laid structure) field ≡ place_of structs structure field

pub nothing_laid : (structs : List Struct) → LayingStructs structs 0 []
nothing_laid structs = record { so_far = refl; places_so_far = λ s h. absurd (omega (arith, h)) }

laid_length : (structs : List Struct) (n : ℕ) (laid : LaidStructs) → n ≤ length structs → HaveCells (layouts_of (take n structs)) laid → length laid ≡ n
laid_length structs n laid h e =
    sym (length-map laid kinds_laid) ∙ ap length e ∙ length-map (layouts_of (take n structs)) (map held_kind) ∙ layouts_length [] (take n structs) ∙ omega (arith, length-take-le n structs h)

front_agrees : (structs : List Struct) (n : ℕ) → n ≤ length structs → Agree n (layouts_of (take n structs)) (layouts_of structs)
front_agrees structs n h k l =
    let long : length (layouts_of (take n structs)) ≡ n = layouts_length [] (take n structs) ∙ omega (arith, length-take-le n structs h) in
    layouts-prefix (layouts_of (take n structs)) (drop n structs) k (subst (λ m. k < m) (sym long) l)
    ∙ ap (λ ls. get_or ls k []) (sym (layouts_joined [] (take n structs) (drop n structs)) ∙ ap layouts_of (take-append-drop n structs))

stride_same : (structs : List Struct) (f : Option Field) → stride_by (layouts_of structs) f ≡ stride_in structs f
stride_same structs None = refl
stride_same structs (Some f) = refl

place_same : (structs : List Struct) (structure k : ℕ) (fields : List Field) → get_or structs structure [] ≡ fields → place_by (layouts_of structs) fields k ≡ place_of structs structure k
place_same structs structure k fields e =
    ap (λ (m : ℕ). let p : FieldPlace = record { offset = length (fields_cells (layouts_of structs) (take k fields)); count = count_in (slice_get fields k); stride = m } in p) (stride_same structs (slice_get fields k))
    ∙ ap (λ (fs : List Field). let p : FieldPlace = record { offset = length (fields_cells (layouts_of structs) (take k fs)); count = count_in (slice_get fs k); stride = stride_in structs (slice_get fs k) } in p) (sym e)

place_nowhere : (structs : List Struct) (k : ℕ) → end_at 0 ≡ place_by (layouts_of structs) [] k
place_nowhere structs zero = refl
place_nowhere structs (suc k) = refl

module _ (structs : List Struct) (fit : StructsFit structs) (i : ℕ) (fields : List Field) (there : slice_get structs i ≡ Some fields) (within : i < length structs) (laid : LaidStructs) (l : LaidStruct) (before : LayingStructs structs i laid) (is : IsLaidOut (layouts_of (take i structs)) fields l) where
  at_end : i ≡ length laid
  at_end = sym (laid_length structs i laid (omega (arith, within)) before.so_far)

  one_more : take (i + 1) structs ≡ take i structs ++ fields ∷ []
  one_more = take_more structs i [] within ∙ ap (λ fs. take i structs ++ fs ∷ []) (get_there structs i fields [] there)

  cells_of_more : HaveCells (layouts_of (take (i + 1) structs)) (laid ++ l ∷ [])
  cells_of_more =
      map-append kinds_laid laid (l ∷ [])
      ∙ ap (λ ks. ks ++ l.kinds ∷ []) before.so_far
      ∙ ap (λ k. map (map held_kind) (layouts_of (take i structs)) ++ k ∷ []) is.cells
      ∙ sym (map-append (map held_kind) (layouts_of (take i structs)) (fields_cells (layouts_of (take i structs)) fields ∷ []))
      ∙ ap (map (map held_kind)) (sym (ap layouts_of one_more ∙ layouts_joined [] (take i structs) (fields ∷ [])))

  place_here : (k : ℕ) → place_in (slice_get (laid ++ l ∷ []) i) k ≡ place_of structs i k
  place_here k =
      ap (λ o. place_in o k) (got_last laid l i at_end)
      ∙ is.places k
      ∙ place_agrees (layouts_of (take i structs)) (layouts_of structs) i k fields (all_inside structs i fields fit there) (front_agrees structs i (omega (arith, within)))
      ∙ place_same structs i k fields (get_there structs i fields [] there)

  place_before : (s : ℕ) → s < i → (k : ℕ) → place_in (slice_get (laid ++ l ∷ []) s) k ≡ place_of structs s k
  place_before s h k = ap (λ o. place_in o k) (got_before laid l s (subst (λ n. s < n) at_end h)) ∙ before.places_so_far s h k

  struct_more : LayingStructs structs (i + 1) (laid ++ l ∷ [])
  struct_more = record {
    so_far = cells_of_more;
    places_so_far = below_more (λ s. (k : ℕ) → place_in (slice_get (laid ++ l ∷ []) s) k ≡ place_of structs s k) i place_before place_here;
  }

pub struct_step : (ss : List CodeStruct) (i : ℕ) (s : CodeStruct) (laid now : LaidStructs) (l : LaidStruct) → StructsFit (map struct_of ss) → i < length ss → s ≡ get_or ss i s → LayingStructs (map struct_of ss) i laid → IsLaidOut (layouts_of (take i (map struct_of ss))) (struct_of s) l → now ≡ laid ++ l ∷ [] → LayingStructs (map struct_of ss) (i + 1) now
struct_step ss i s laid now l fit h q before is e =
    let within : i < length (map struct_of ss) = omega (arith, h, length-map ss struct_of) in
    let P : LaidStructs → Type 0 = λ all. LayingStructs (map struct_of ss) (i + 1) all in
    subst P (sym e) (struct_more (map struct_of ss) fit i (struct_of s) (shape_at struct_of ss i s h q) within laid l before is)

pub structs_done : (ss : List CodeStruct) (i : ℕ) (laid : LaidStructs) → i ≡ length ss → LayingStructs (map struct_of ss) i laid → AreLaidOut (map struct_of ss) laid
structs_done ss i laid e done =
    let structs = map struct_of ss in
    let n : i ≡ length structs = omega (arith, e, length-map ss struct_of) in
    let all : take i structs ≡ structs = take_all i structs (omega (arith, n)) in
    let P : List Struct → Type 0 = λ front. HaveCells (layouts_of front) laid in
    let long : length laid ≡ i = laid_length structs i laid (omega (arith, n)) done.so_far in
    let past : (s k : ℕ) → i ≤ s → place_in (slice_get laid s) k ≡ place_of structs s k = λ s k h.
    ap (λ o. place_in o k) (slice_get_past laid s (omega (arith, h, long)))
    ∙ place_nowhere structs k
    ∙ place_same structs s k [] (get_missing structs s [] (slice_get_past structs s (omega (arith, h, n))))
    in
    record {
      cells = subst P all done.so_far;
      places = λ s k. elim (cases_lt s i) [ inl h ↦ done.places_so_far s h k | inr h ↦ past s k h ];
    }
