-- The array fields that a typed place goes through lie one within another.
use Rattle.std.proofs.Common.{◌≡◌, ◌≤◌, ℕ, zero, suc, ◌+◌, ◌*◌, List, [], ◌∷◌, ◌++◌, length, Option, Some, None, refl, sym, ap, ◌∙◌, subst, arith, length-append}
use Rattle.std.proofs.lemmas.Bool.{false≢true}
use Rattle.std.specs.Prelude.{IsSome, is_some}
use Rattle.rc_core.specs.Types.{Ty, int, unsigned, char, region, struct, pointer}
use Rattle.rc_core.specs.Typing.{IsPlace, LeadsTo, IsDefined}
use Rattle.rc_core.specs.Layout.{Layout, cells, copies, offset, field_at, count_in, count_of, stride_in, stride, size}
use Rattle.rc_core.specs.Programs.{Place, global, pointed, indexed, Path, here, field, element, Field, Struct, Global, Program}
use Rattle.rc_core.specs.WellTyped.{IsLength, StructsFit}
use Rattle.rc_rlang.specs.RegionCode.{Index, Access}
use Rattle.rc_rlang.specs.RegionNames.{AreNested}
use Rattle.rc_kinds.proofs.Zips.{Stands}
use Rattle.rc_kinds.proofs.Paths.{in_struct, field_stands}
use Rattle.rc_kinds.proofs.Sizes.{struct_has_cell}
use Rattle.rc_translation.specs.Translation.{pointee, expression_type, signedness, global_type, place_type, path_access, first_access, access}
use Rattle.rc_translation.proofs.TypesFound.{types_are}
use Rattle.rc_translation.proofs.Defined.{field_defined}

-- what the innermost elements lie in
abbrev room_behind : (room : ℕ) → List Index → ℕ
room_behind room [] = room
room_behind room (i ∷ is) = room_behind i.stride is

room_last : (room : ℕ) (is : List Index) (j : Index) → room_behind room (is ++ j ∷ []) ≡ j.stride
room_last room [] j = refl
room_last room (i ∷ is) j = room_last i.stride is j

nested_last : (room : ℕ) (is : List Index) (j : Index) → AreNested room is → 1 ≤ j.count → 1 ≤ j.stride → j.count * j.stride ≤ room_behind room is → AreNested room (is ++ j ∷ [])
nested_last room [] j n some wide le = (some, wide, le, tt)
nested_last room (i ∷ is) j n some wide le = (n.0, n.1, n.2, nested_last i.stride is j n.3 some wide le)

stands_length : {A : Type 0} (whole part : List A) (at : ℕ) → Stands whole part at → at + length part ≤ length whole
stands_length whole part at s =
    let a = ap length s.whole_is in
    let b = length-append s.before (part ++ s.rest) in
    let c = length-append part s.rest in
    let d = s.at_is in
    omega (arith, a, b, c, d)

copies_length : (layout : Layout) (n : ℕ) → length (copies (Some n) layout) ≡ n * length layout
copies_length layout zero = omega arith
copies_length layout (suc n) = let a = length-append layout (copies (Some n) layout) in let r = copies_length layout n in let x : suc n * length layout ≡ length layout + n * length layout = omega arith in omega (arith, a, r, x)

module _ (structs : List Struct) (fit : StructsFit structs) where
  pub some_cell : (t : Ty) → IsDefined structs t → 1 ≤ size structs t
  some_cell int d = omega arith
  some_cell unsigned d = omega arith
  some_cell char d = omega arith
  some_cell region d = omega arith
  some_cell (struct k) d = struct_has_cell structs fit k d
  some_cell (pointer note target) d = omega arith

  field_inside : (s f : ℕ) (d : Field) → field_at structs s f ≡ Some d → d.count ≡ None → size structs d.ty ≤ size structs (struct s)
  field_inside s f d e n = let l = stands_length (cells structs (struct s)) (cells structs d.ty) (offset structs s f) (field_stands structs fit s f d e n) in omega (arith, l)

  -- an array field lies in its struct
  record ArrayLies (s f : ℕ) (d : Field) : Type 0 where
    some : 1 ≤ count_of structs s f
    wide : 1 ≤ stride structs s f
    whole : count_of structs s f * stride structs s f ≤ size structs (struct s)
    stride_is : stride structs s f ≡ size structs d.ty

  array_lies : (s f : ℕ) (d : Field) → field_at structs s f ≡ Some d → IsSome d.count → ArrayLies s f d
  array_lies s f d e some = by d.count refl
    where
      stride_is : stride structs s f ≡ size structs d.ty
      stride_is = ap (stride_in structs) e

      by : (c : Option ℕ) → d.count ≡ c → ArrayLies s f d
      by None q = absurd (false≢true (sym (ap is_some q) ∙ some))
      by (Some n) q =
          let count_is : count_of structs s f ≡ n = ap count_in e ∙ ap (λ c. elim c as (λ _. ℕ) [ None ↦ 0 | Some k ↦ k ]) q in
          let own = field_defined structs fit s f d e in
          let one : 1 ≤ n = subst (λ (c : Option ℕ). IsLength c) q own.counted in
          let cell = some_cell d.ty own.defined in
          let whole = stands_length (cells structs (struct s)) (copies (Some n) (cells structs d.ty)) (offset structs s f) (subst (λ (c : Option ℕ). Stands (cells structs (struct s)) (copies c (cells structs d.ty)) (offset structs s f)) q (in_struct structs fit s f d e)) in
          let long : length (copies (Some n) (cells structs d.ty)) ≡ count_of structs s f * stride structs s f = copies_length (cells structs d.ty) n ∙ ap (λ m. m * size structs d.ty) (sym count_is) ∙ ap (λ m. count_of structs s f * m) (sym stride_is) in
          record { some = omega (arith, one, count_is); wide = omega (arith, cell, stride_is); whole = omega (arith, long, whole); stride_is = stride_is }

abbrev type_of_global : Option Global → Ty
type_of_global None = int
type_of_global (Some d) = d.ty

module _ (program : Program) (locals : List Ty) (fit : StructsFit program.structs) where
  -- an access on its way to a type, which lies in the innermost element
  record Lies (a : Access) (u : Ty) : Type 0 where
    nested : AreNested (size program.structs a.element) a.indices
    inside : size program.structs u ≤ room_behind (size program.structs a.element) a.indices

  path_lies : (path : Path) (u t : Ty) → LeadsTo program locals path u t → (a : Access) → Lies a u → AreNested (size program.structs (path_access program locals path a).element) (path_access program locals path a).indices
  path_lies here u t w a l = l.nested
  path_lies (field s f rest) u t w a l =
      let i = l.inside in
      let le = field_inside program.structs fit s f w.1.0 w.1.1.0 w.1.1.1 in
      let q = ap (size program.structs) w.0 in
      path_lies rest _ t w.1.1.2 _ (record { nested = l.nested; inside = omega (arith, i, le, q) })
  path_lies (element s f i rest) u t w a l =
      let j : Index = record { count = count_of program.structs s f; stride = stride program.structs s f; kind = signedness program locals (expression_type program locals i) } in
      let i = l.inside in
      let q = ap (size program.structs) w.0 in
      let lies = array_lies program.structs fit s f w.1.0 w.1.1.0 w.1.1.1 in
      let whole = lies.whole in
      let last = room_last (size program.structs a.element) a.indices j in
      let same = lies.stride_is in
      path_lies rest _ t w.1.1.3 _
      (record { nested = nested_last (size program.structs a.element) a.indices j l.nested lies.some lies.wide (omega (arith, i, q, whole)); inside = omega (arith, last, same) })

  first_lies : (u : Ty) (a : Access) → a.element ≡ u → a.indices ≡ [] → Lies a u
  first_lies u a e n = record {
    nested = subst (AreNested (size program.structs a.element)) (sym n) tt;
    inside = let q = ap (size program.structs) e in let p = ap (room_behind (size program.structs a.element)) n in omega (arith, q, p);
  }

  pub place_nested : (place : Place) (t : Ty) → IsPlace program locals place t → AreNested (size program.structs (access program locals place).element) (access program locals place).indices
  place_nested (global g path) t w = path_lies path w.0.ty t w.1.2 _ (first_lies w.0.ty (first_access program locals (global_type program g) None (place_type program locals (global g path))) (ap type_of_global w.1.0) refl)
  place_nested (pointed p path) t w = path_lies path w.1.0 t w.1.1.1 _ (first_lies w.1.0 (first_access program locals (pointee (expression_type program locals p)) None (place_type program locals (pointed p path))) (ap pointee (types_are program locals p _ w.0 w.1.1.0)) refl)
  place_nested (indexed p i path) t w = path_lies path w.1.0 t w.1.1.2 _ (first_lies w.1.0 (first_access program locals (pointee (expression_type program locals p)) (Some (signedness program locals (expression_type program locals i))) (place_type program locals (indexed p i path))) (ap pointee (types_are program locals p _ w.0 w.1.1.0)) refl)
