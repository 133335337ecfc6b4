-- Where the places of typed programs aim: the annotation that an access names is that of its cell. And a region or a pointer is no number.
use Rattle.std.proofs.Common.{◌≡◌, ℕ, pos, ◌+◌, Bool, true, false, not, ◌+ℤ◌, List, [], ◌∷◌, ◌++◌, length, map, get_or, Option, Some, None, refl, sym, ap, ◌∙◌, subst}
use Rattle.std.specs.Prelude.{IsTrue, unsigned_abs}
use Rattle.std.specs.List.{list_all}
use Rattle.rc_base.specs.declared.ends.Trap.TheVariants.{Bounds}
use Rattle.rc_core.specs.declared.ty.Note.TheVariants.{Plain}
use Rattle.rc_core.specs.declared.ty.Signedness.{Signedness}
use Rattle.rc_core.specs.Types.{Ty, int, unsigned, char, region, struct, pointer, CellKind}
use Rattle.rc_core.specs.Layout.{Layout, cells, note_of, offset, count_of, stride}
use Rattle.rc_core.specs.Heap.{Value, Number, Null, Handle, Pointer, live, object_at}
use Rattle.rc_core.specs.Runs.{Go, tested, touching, Target}
use Rattle.rc_core.specs.Source.{World, Spot, at_address, is_index, chosen_in_range, cell_of}
use Rattle.rc_core.specs.Evaluation.{number_in, choosing}
use Rattle.rc_core.specs.Laws.{IfGoes}
use Rattle.rc_core.specs.Programs.{Expr, or, Place, global, pointed, indexed, Path, here, field, element, Program}
use Rattle.rc_core.specs.Typing.{number, is_struct, HasType, IsPlace, LeadsTo}
use Rattle.rc_core.specs.WellTyped.{IsWellTyped}
use Rattle.rc_kinds.specs.Suits.{Ledger, IsPointer, Suits, WorldSuits}
use Rattle.rc_kinds.proofs.Zips.{Stands, stands_itself}
use Rattle.rc_kinds.proofs.Ledgers.{object_suits}
use Rattle.rc_kinds.proofs.Paths.{Aims, aims_further, aims_choosing}
use Rattle.rc_rlang.specs.RegionCode.{regional, kind_of, Index, Access, width}
use Rattle.rc_rlang.specs.RegionFlow.{is_regional, note_in}
use Rattle.rc_rlang.specs.RegionRuns.{Temporaries, target_at}
use Rattle.rc_translation.specs.Translation.{expression_type, signedness, global_type, place_type, pointee, first_access, path_access, access, whole}
use Rattle.rc_translation.proofs.TypesFound.{types_are, place_is}
use Rattle.rc_translation.proofs.Expressions.{further_at, behind_index}
use Rattle.rc_annotations.specs.Worlds.{note_behind}
use Rattle.rc_along.specs.Along.{NoNumber, Named}

-- a region or a pointer is no number
pub no_number : (l : Ledger) (t : Ty) (v : Value) → kind_of t ≡ regional → Suits l t v → NoNumber v
no_number l int v k s = cc
no_number l unsigned v k s = cc
no_number l char v k s = cc
no_number l region (Number n) k s = s
no_number l region Null k s = tt
no_number l region (Handle r) k s = tt
no_number l region (Pointer a) k s = tt
no_number l (struct j) v k s = absurd s
no_number l (pointer note target) (Number n) k s = s
no_number l (pointer note target) Null k s = tt
no_number l (pointer note target) (Handle r) k s = tt
no_number l (pointer note target) (Pointer a) k s = tt

pub regional_kind : (t : Ty) → is_regional t ≡ true → kind_of t ≡ regional
regional_kind int e = cc
regional_kind unsigned e = cc
regional_kind char e = cc
regional_kind region e = refl
regional_kind (struct k) e = cc
regional_kind (pointer note target) e = refl

-- the annotation of the one cell of a type
note_cell : (program : Program) (t : Ty) → IsTrue (not (is_struct t)) → (kind : CellKind) × (cells program.structs t ≡ kind ∷ []) × (note_of kind ≡ note_in t)
note_cell program int h = (_, refl, refl)
note_cell program unsigned h = (_, refl, refl)
note_cell program char h = (_, refl, refl)
note_cell program region h = (_, refl, refl)
note_cell program (struct k) h = cc
note_cell program (pointer note target) h = (_, refl, refl)

note_stands : (whole : Layout) (kind : CellKind) (kinds : Layout) (at : ℕ) → Stands whole (kind ∷ kinds) at → get_or (map note_of whole) at Plain ≡ note_of kind
note_stands whole kind kinds at s = subst (λ ks. get_or (map note_of ks) at Plain ≡ note_of kind) (sym s.whole_is) (subst (λ i. get_or (map note_of (s.before ++ (kind ∷ kinds ++ s.rest))) i Plain ≡ note_of kind) s.at_is (by s.before))
  where
    by : (before : Layout) → get_or (map note_of (before ++ (kind ∷ kinds ++ s.rest))) (length before) Plain ≡ note_of kind
    by [] = refl
    by (k ∷ before) = by before

-- what holds where all tests of a place pass
passed : (G : Type 0) (line : ℕ) (spot : Spot) (w : World) (l i c : Bool) → (c ≡ true → G) → IfGoes (λ (s : Spot) w1. G) (touching l line w (tested i Bounds line w (tested c Bounds line w (Go spot w))))
passed G line spot w true true true k = k refl
passed G line spot w false i c k = tt
passed G line spot w true false c k = tt
passed G line spot w true true false k = tt

-- cells of these kinds are where a target aims, once its tests pass
pub kinds_named : (program : Program) (l : Ledger) (line : ℕ) (u : Ty) (kind : CellKind) (kinds : Layout) (tg : Target) (w : World) → IsPointer l u tg.pointer → (list_all chosen_in_range tg.chosen ≡ true → Stands (cells program.structs u) (kind ∷ kinds) (cell_of tg)) → WorldSuits program l w → Named line tg (note_of kind) w
kinds_named program l line u kind kinds tg w p stands suits = by tg.pointer p
  where
    by : (v : Value) → IsPointer l u v
        → IfGoes (λ (spot : Spot) w1. note_behind w.heap v (cell_of tg) ≡ note_of kind) (at_address line v w (λ a. touching (live w.heap a.region) line w (tested (is_index (pos a.index +ℤ tg.shift) (object_at w.heap a.region a.object).count) Bounds line w (tested (list_all chosen_in_range tg.chosen) Bounds line w
        (Go (record { region = a.region; object = a.object; element = unsigned_abs (pos a.index +ℤ tg.shift); cell = cell_of tg }) w)))))
    by (Number n) q = absurd q
    by Null q = tt
    by (Handle r) q = absurd q
    by (Pointer a) q =
        passed (note_behind w.heap (Pointer a) (cell_of tg) ≡ note_of kind) line (record { region = a.region; object = a.object; element = unsigned_abs (pos a.index +ℤ tg.shift); cell = cell_of tg }) w
        (live w.heap a.region) (is_index (pos a.index +ℤ tg.shift) (object_at w.heap a.region a.object).count) (list_all chosen_in_range tg.chosen)
        (λ all. let o = object_suits program.structs l l w.heap a.region a.object _ suits.heap q.entry in
        ap (λ ks. get_or (map note_of ks) (cell_of tg) Plain) o.layout ∙ note_stands (cells program.structs u) kind kinds (cell_of tg) (stands all))

pub type_named : (program : Program) (l : Ledger) (line : ℕ) (t : Ty) (tg : Target) (w : World) → IsTrue (not (is_struct t)) → Aims program.structs l t tg → WorldSuits program l w → Named line tg (note_in t) w
type_named program l line t tg w h a suits =
    let c = note_cell program t h in
    subst (λ note. Named line tg note w) c.2 (kinds_named program l line a.element c.0 [] tg w a.pointer (λ all. subst (λ ks. Stands (cells program.structs a.element) ks (cell_of tg)) c.1 (a.stands all)) suits)

module _ (program : Program) (well : IsWellTyped program) (locals : List Ty) where
  abbrev pub found : Expr → Ty
  found e = expression_type program locals e

  -- where the cell of a place stands, whatever the indices

  abbrev pub AimsFor : Ty → Access → Type 0
  AimsFor t a = (l : Ledger) (t1 : Temporaries) (h : ℕ) → IsPointer l a.element (t1.regions h) → Aims program.structs l t (target_at a t1 h)

  path_aims : (path : Path) (u t : Ty) → LeadsTo program locals path u t → (a : Access) → AimsFor u a → AimsFor t (path_access program locals path a)
  path_aims here u t hl a k = subst (λ x. AimsFor x a) hl k
  path_aims (field s j rest) u t hl a k =
      path_aims rest hl.1.0.ty t hl.1.1.2 (record a { offset = a.offset + offset program.structs s j }) (λ l t1 h p.
      subst (Aims program.structs l hl.1.0.ty) (sym (further_at a (offset program.structs s j) t1 h))
      (aims_further program.structs well.structs l s j hl.1.0 (target_at a t1 h) hl.1.1.0 hl.1.1.1 (subst (λ x. Aims program.structs l x (target_at a t1 h)) hl.0 (k l t1 h p))))
  path_aims (element s j i rest) u t hl a k =
      let ix : Index = record { count = count_of program.structs s j; stride = stride program.structs s j; kind = signedness program locals (found i) } in
      let a1 : Access = record a { offset = a.offset + offset program.structs s j } in
      path_aims rest hl.1.0.ty t hl.1.1.3 (record a1 { indices = a.indices ++ ix ∷ [] }) (λ l t1 h p.
      let z = number_in (t1.numbers (h + width a)) in
      subst (Aims program.structs l hl.1.0.ty) (sym (behind_index a1 ix t1 h (h + width a) refl ∙ ap (choosing (record { index = z; count = count_of program.structs s j; stride = stride program.structs s j })) (further_at a (offset program.structs s j) t1 h)))
      (aims_choosing program.structs well.structs l s j hl.1.0 z (target_at a t1 h) hl.1.1.0 hl.1.1.1 (subst (λ x. Aims program.structs l x (target_at a t1 h)) hl.0 (k l t1 h p))))

  first_aims : (u : Ty) (shift : Option Signedness) (cell : Ty) → AimsFor u (first_access program locals u shift cell)
  first_aims u None cell l t1 h p = record { element = u; pointer = p; stands = λ all. stands_itself (cells program.structs u) 0 refl; reached = λ all. record { path = []; reaches = refl; at_is = refl } }
  first_aims u (Some s) cell l t1 h p = record { element = u; pointer = p; stands = λ all. stands_itself (cells program.structs u) 0 refl; reached = λ all. record { path = []; reaches = refl; at_is = refl } }

  pub path_element : (path : Path) (a : Access) → (path_access program locals path a).element ≡ a.element
  path_element here a = refl
  path_element (field s j rest) a = path_element rest _
  path_element (element s j i rest) a = path_element rest _

  abbrev pub type_of_global : Option Rattle.rc_core.specs.Programs.Global → Ty
  type_of_global None = int
  type_of_global (Some d) = d.ty

  pub pointer_is : (p : Expr) (u : Ty) → HasType program locals p (pointer Plain u) → IsTrue (not (Rattle.rc_core.specs.Typing.is_null_word p)) → pointee (found p) ≡ u
  pointer_is p u he nn = ap pointee (types_are program locals p (pointer Plain u) nn he)

  pub place_aims : (place : Place) (t : Ty) → IsPlace program locals place t → AimsFor t (access program locals place)
  place_aims (global k path) t hp = path_aims path hp.0.ty t hp.1.2 (first_access program locals (global_type program k) None (place_type program locals (global k path))) (subst (λ u. AimsFor u (first_access program locals (global_type program k) None (place_type program locals (global k path)))) (ap type_of_global hp.1.0) (first_aims (global_type program k) None (place_type program locals (global k path))))
  place_aims (pointed p path) t hp = path_aims path hp.1.0 t hp.1.1.1 (first_access program locals (pointee (found p)) None (place_type program locals (pointed p path))) (subst (λ u. AimsFor u (first_access program locals (pointee (found p)) None (place_type program locals (pointed p path)))) (pointer_is p hp.1.0 hp.1.1.0 hp.0) (first_aims (pointee (found p)) None (place_type program locals (pointed p path))))
  place_aims (indexed p i path) t hp =
      path_aims path hp.1.0 t hp.1.1.2 (first_access program locals (pointee (found p)) (Some (signedness program locals (found i))) (place_type program locals (indexed p i path))) (subst (λ u. AimsFor u (first_access program locals (pointee (found p)) (Some (signedness program locals (found i))) (place_type program locals (indexed p i path)))) (pointer_is p hp.1.0 hp.1.1.0 hp.0) (first_aims (pointee (found p)) (Some (signedness program locals (found i))) (place_type program locals (indexed p i path))))

  path_cell : (path : Path) (a : Access) → (path_access program locals path a).cell ≡ a.cell
  path_cell here a = refl
  path_cell (field s j rest) a = path_cell rest _
  path_cell (element s j i rest) a = path_cell rest _

  pub cell_is : (place : Place) (t : Ty) → IsPlace program locals place t → (access program locals place).cell ≡ t
  cell_is (global k path) t hp = path_cell path _ ∙ place_is program locals (global k path) t hp
  cell_is (pointed p path) t hp = path_cell path _ ∙ place_is program locals (pointed p path) t hp
  cell_is (indexed p i path) t hp = path_cell path _ ∙ place_is program locals (indexed p i path) t hp
