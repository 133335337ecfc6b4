-- What an access of a typed place names stands in its element, wherever its indices lead.
use Rattle.std.proofs.Common.{◌≡◌, ◌<◌, ◌+◌, ◌*◌, ℕ, pos, true, List, [], ◌∷◌, ◌++◌, length, Option, Some, None, refl, sym, ap, ◌∙◌, subst, arith, rules}
use Rattle.std.specs.Prelude.{take, drop}
use Rattle.rc_core.specs.Types.{Ty, int}
use Rattle.rc_core.specs.Typing.{IsPlace, LeadsTo}
use Rattle.rc_core.specs.Layout.{cells, offset, count_of, stride}
use Rattle.rc_core.specs.Programs.{Place, global, pointed, indexed, Path, here, field, element, Global, Program}
use Rattle.rc_core.specs.Source.{is_index}
use Rattle.rc_core.specs.WellTyped.{StructsFit}
use Rattle.rc_rlang.specs.RegionCode.{Index, Access}
use Rattle.rc_rlang.specs.RegionNames.{AreElements, cells_before, HasThere, AccessStands}
use Rattle.rc_kinds.proofs.Zips.{Stands, stands_itself, stands_within}
use Rattle.rc_kinds.proofs.Paths.{field_stands, element_stands}
use Rattle.rc_translation.specs.Translation.{pointee, expression_type, signedness, global_type, place_type, path_access, first_access, access, region_of_program}
use Rattle.rc_translation.proofs.TypesFound.{types_are, place_is}
use Rattle.rc_translation.proofs.Nesting.{place_nested}

behind_front : {A : Type 0} (xs ys : List A) → drop (length xs) (xs ++ ys) ≡ ys
behind_front [] ys = refl
behind_front (x ∷ xs) ys = behind_front xs ys

front_taken : {A : Type 0} (xs ys : List A) → take (length xs) (xs ++ ys) ≡ xs
front_taken [] ys = refl
front_taken (x ∷ xs) ys = ap (λ zs. x ∷ zs) (front_taken xs ys)

has_there : {A : Type 0} (whole part : List A) (n : ℕ) → Stands whole part n → take (length part) (drop n whole) ≡ part
has_there whole part n s =
    ap (λ k. take (length part) (drop k whole)) (sym s.at_is)
    ∙ ap (λ xs. take (length part) (drop (length s.before) xs)) s.whole_is
    ∙ ap (take (length part)) (behind_front s.before (part ++ s.rest))
    ∙ front_taken part s.rest

-- the last index apart
record Split (is : List Index) (i : Index) (chosen : List ℕ) : Type 0 where
  front : List ℕ
  last : ℕ
  elements : AreElements is front
  below : last < i.count
  is_cells : cells_before (is ++ i ∷ []) chosen ≡ cells_before is front + last * i.stride

split : (is : List Index) (i : Index) (chosen : List ℕ) → AreElements (is ++ i ∷ []) chosen → Split is i chosen
split [] i [] w = absurd w
split [] i (n ∷ []) w = record { front = []; last = n; elements = tt; below = w.0; is_cells = omega arith }
split [] i (n ∷ m ∷ ns) w = absurd w.1
split (j ∷ is) i [] w = absurd w
split (j ∷ is) i (n ∷ ns) w =
    let p = split is i ns w.1 in
    record { front = n ∷ p.front; last = p.last; elements = (w.0, p.elements); below = p.below; is_cells = let q = p.is_cells in omega (arith, q) }

is_below : (k count : ℕ) → k < count → is_index (pos k) count ≡ true
is_below k count lt = grind (arith, rules)

abbrev type_of_global : Option Global → Ty
type_of_global None = int
type_of_global (Some d) = d.ty

module _ (program : Program) (locals : List Ty) (fit : StructsFit program.structs) where
  -- an access on its way leads to cells of a type
  abbrev Leads : Access → Ty → Type 0
  Leads a u = (chosen : List ℕ) → AreElements a.indices chosen → Stands (cells program.structs a.element) (cells program.structs u) (a.offset + cells_before a.indices chosen)

  path_leads : (path : Path) (u t : Ty) → LeadsTo program locals path u t → (a : Access) → Leads a u → Leads (path_access program locals path a) t
  path_leads here u t w a l = subst (Leads a) w l
  path_leads (field s f rest) u t w a l =
      path_leads rest _ t w.1.1.2 _ (λ chosen ok.
      stands_within _ _ _ (a.offset + cells_before a.indices chosen) (offset program.structs s f) _ (omega arith)
      (subst (λ v. Stands (cells program.structs a.element) (cells program.structs v) (a.offset + cells_before a.indices chosen)) w.0 (l chosen ok))
      (field_stands program.structs fit s f w.1.0 w.1.1.0 w.1.1.1))
  path_leads (element s f i rest) u t w a l =
      let ix : Index = record { count = count_of program.structs s f; stride = stride program.structs s f; kind = signedness program locals (expression_type program locals i) } in
      path_leads rest _ t w.1.1.3 _ (λ chosen ok.
      let p = split a.indices ix chosen ok in
      stands_within _ _ _ (a.offset + cells_before a.indices p.front) (offset program.structs s f + p.last * stride program.structs s f) _ (let q = p.is_cells in omega (arith, q))
      (subst (λ v. Stands (cells program.structs a.element) (cells program.structs v) (a.offset + cells_before a.indices p.front)) w.0 (l p.front p.elements))
      (element_stands program.structs fit s f w.1.0 (pos p.last) _ w.1.1.0 w.1.1.1 (is_below p.last (count_of program.structs s f) p.below) refl))

  -- from the element's first cell on
  first_leads : (u : Ty) (a : Access) → a.element ≡ u → a.offset ≡ 0 → a.indices ≡ [] → Leads a u
  first_leads u a e z n chosen ok = subst (λ v. Stands (cells program.structs v) (cells program.structs u) (a.offset + cells_before a.indices chosen)) (sym e) (stands_itself _ _ (ap (λ k. k + cells_before a.indices chosen) z ∙ ap (λ is. 0 + cells_before is chosen) n))

  place_leads : (place : Place) (t : Ty) → IsPlace program locals place t → Leads (access program locals place) t
  place_leads (global g path) t w = path_leads path w.0.ty t w.1.2 _ (first_leads w.0.ty (first_access program locals (global_type program g) None (place_type program locals (global g path))) (ap type_of_global w.1.0) refl refl)
  place_leads (pointed p path) t w = path_leads path w.1.0 t w.1.1.1 _ (first_leads w.1.0 (first_access program locals (pointee (expression_type program locals p)) None (place_type program locals (pointed p path))) (ap pointee (types_are program locals p _ w.0 w.1.1.0)) refl refl)
  place_leads (indexed p i path) t w = path_leads path w.1.0 t w.1.1.2 _ (first_leads w.1.0 (first_access program locals (pointee (expression_type program locals p)) (Some (signedness program locals (expression_type program locals i))) (place_type program locals (indexed p i path))) (ap pointee (types_are program locals p _ w.0 w.1.1.0)) refl refl)

  -- an access keeps its cell's type on its way
  path_cell : (path : Path) (a : Access) → (path_access program locals path a).cell ≡ a.cell
  path_cell here a = refl
  path_cell (field s f rest) a = path_cell rest _
  path_cell (element s f i rest) a = path_cell rest _

  cell_is : (place : Place) → (access program locals place).cell ≡ place_type program locals place
  cell_is (global g path) = path_cell path _
  cell_is (pointed p path) = path_cell path _
  cell_is (indexed p i path) = path_cell path _

  pub cell_type : (place : Place) (t : Ty) → IsPlace program locals place t → (access program locals place).cell ≡ t
  cell_type place t w = cell_is place ∙ place_is program locals place t w

  pub access_stands : (place : Place) (t : Ty) → IsPlace program locals place t → AccessStands (region_of_program program) (access program locals place)
  access_stands place t w = record {
    nested = place_nested program locals fit place t w;
    there = λ chosen ok.
        let s = place_leads place t w chosen ok in
        let a = access program locals place in
        subst (λ v. HasThere program.structs (cells program.structs a.element) (a.offset + cells_before a.indices chosen) v) (sym (cell_type place t w)) (has_there _ _ _ s);
  }
