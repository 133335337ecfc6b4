-- Globals fit, each and together.
use Rattle.std.specs.Prelude.{◌≡◌, ℕ, ℤ, pos, negsuc, ◌-ℤ◌, zero, suc, ◌+◌, ◌-◌, ◌%◌, ◌≤◌, ◌<◌, List, [], ◌∷◌, ◌++◌, Option, Some, None, Bool, true, false, ◌||◌, IsTrue, is_some, is_none, nat_lt, map, sum, slice_get, if◌then◌else◌}
use Rattle.std.proofs.Common.{refl, sym, ap, ◌∙◌, subst, arith}
use Rattle.std.proofs.lemmas.Bool.Decides.{nat_tests}
use Rattle.std.proofs.Math.Nat.{mod-lt}
use Rattle.std.proofs.lemmas.List.Sums.{sum_by-cons}
use Rattle.std.specs.Int.{int_rem_euclid}
use Rattle.rc_syntax.specs.declared.tree.Spot.{Spot}
use Rattle.rc_syntax.specs.declared.tree.Name.{Name}
use Rattle.rc_syntax.specs.declared.tree.Constant.{Constant}
use Rattle.rc_syntax.specs.Tree as t
use Rattle.rc_core.specs.declared.ty.NumberType.{NumberType}
use Rattle.rc_core.specs.declared.ty.NumberType.TheVariants.{Int, Unsigned, Char}
use Rattle.rc_core.specs.Numbers.{fits_int}
use Rattle.rc_core.specs.Arithmetic.{converted, as_int}
use Rattle.rc_core.specs.Types.{Ty, int, unsigned, char, region, struct, pointer}
use Rattle.rc_core.specs.Programs as p
use Rattle.rc_core.specs.Typing.{fits, IsDefined}
use Rattle.rc_core.specs.WellTyped.{IsInside, IsInitial, GlobalFits, global_size}
use Rattle.rc_deletes.specs.declared.fault.Refusal.TheVariants.{Mistyped, TooBig}
use Rattle.rc_deletes.specs.Judged.{failing}
use Rattle.rc_deletes.specs.Kinds.{written_type, sort_of_type}
use Rattle.rc_deletes.specs.Scopes.{Context, structs_in, meaning_in}
use Rattle.rc_deletes.specs.Items.{Outside, is_empty, once, cell_type, cells_of_global, written_value, initial_by, initial_of, value_or_zero, global_of, Made, made_both, behind_item, item, items, before_globals}
use Rattle.rc_judgements.proofs.Held.{Held, held_parts, held_ruled, held_always, held_after, held_and, none_failing, not_failing, held_front}
use Rattle.rc_judgements.proofs.WellTypedStructs.{cell_fits, no_less, at_least_one}
use Rattle.rc_judgements.proofs.WellTypedScopes.{adds}

remainder : (z : ℤ) (n : ℕ) → 0 < n → (w : ℕ) × (int_rem_euclid z (pos n) ≡ pos w) × (w < n)
remainder (pos a) n h = (a % n, refl, mod-lt a h)
remainder (negsuc a) n h = (n - 1 - a % n, refl, omega (arith, mod-lt a h))

is_less : (m n : ℕ) → m < n → nat_lt m n ≡ true
is_less m n h = grind (arith, nat_tests)

below_zero : (w : ℕ) → 2147483648 ≤ w → w < 4294967296 → (pos w -ℤ pos 4294967296) ≡ negsuc (4294967296 - suc w)
below_zero w h k = rw (is_less w 4294967296 k) refl

small_int : (w : ℕ) → 2147483648 ≤ w → w < 4294967296 → fits_int (negsuc (4294967296 - suc w)) ≡ true
small_int w h k = is_less (4294967296 - suc w) 2147483648 (omega (arith, h, k))

int_of : (w : ℕ) (b : Bool) → w < 4294967296 → fits_int (pos w) ≡ b → fits_int (if b then pos w else pos w -ℤ pos 4294967296) ≡ true
int_of w true h e = e
int_of w false h e = let l = no_less w 2147483648 e in ap fits_int (below_zero w l h) ∙ small_int w l h

int_fits : (z : ℤ) → fits_int (as_int z) ≡ true
int_fits z =
    let r = remainder z 4294967296 (is_positive 4294967295) in
    subst (λ x. fits_int (if fits_int x then x else x -ℤ pos 4294967296) ≡ true) (sym r.1) (int_of r.0 (fits_int (pos r.0)) r.2 refl)
  where
    is_positive : (n : ℕ) → 0 < suc n
    is_positive n = omega arith

converted_fits : (k : NumberType) (z : ℤ) → IsTrue (fits k (converted k z))
converted_fits Int z = int_fits z
converted_fits Unsigned z = let r = remainder z 4294967296 (omega arith) in subst (λ x. fits Unsigned x ≡ true) (sym r.1) (is_less r.0 4294967296 r.2)
converted_fits Char z = let r = remainder z 256 (omega arith) in subst (λ x. fits Char x ≡ true) (sym r.1) (is_less r.0 256 r.2)

constant_fits : (ty : Ty) (w : Option ℤ) → is_none (initial_by (sort_of_type ty) w) ≡ false → IsInitial None ty (value_or_zero (initial_by (sort_of_type ty) w))
constant_fits int (Some z) h = converted_fits Int z
constant_fits unsigned (Some z) h = converted_fits Unsigned z
constant_fits char (Some z) h = converted_fits Char z
constant_fits region None h = refl
constant_fits (pointer n u) None h = refl
constant_fits int None h = absurd cc
constant_fits unsigned None h = absurd cc
constant_fits char None h = absurd cc
constant_fits region (Some z) h = absurd cc
constant_fits (pointer n u) (Some z) h = absurd cc
constant_fits (struct k) None h = absurd cc
constant_fits (struct k) (Some z) h = absurd cc

initial_fits : (ty : Ty) (count : Option ℕ) (c : Option Constant) → is_none (initial_of ty count c) ≡ false → IsInitial count ty (value_or_zero (initial_of ty count c))
initial_fits ty (Some n) None h = refl
initial_fits int None None h = refl
initial_fits unsigned None None h = refl
initial_fits char None None h = refl
initial_fits region None None h = refl
initial_fits (struct k) None None h = refl
initial_fits (pointer n u) None None h = refl
initial_fits ty None (Some c) h = constant_fits ty (written_value c) h
initial_fits ty (Some n) (Some c) h = absurd cc

or_right : (a b : Bool) → (a || b) ≡ false → (a ≡ false) × (b ≡ false)
or_right true b h = absurd cc
or_right false b h = (refl, h)

total_on : (c s : ℕ) (xs : List ℕ) → (c + s) + sum xs ≤ 1048576 → c + sum (s ∷ xs) ≤ 1048576
total_on c s xs h = omega (arith, sum_by-cons (λ x. x) s xs, h)

module _ (context : Context) where
  abbrev GlobalHolds : Outside → t.TypeName → Option ℕ → Option Constant → Type 0
  GlobalHolds o ty count c = GlobalFits (structs_in context) (global_of context ty count (value_or_zero (initial_of (written_type context.types ty) count c))) × (o.cells + cells_of_global context ty count ≤ 1048576)

  global_holds : (o : Outside) (at : Spot) (ty : t.TypeName) (name : Name) (count : Option ℕ) (c : Option Constant) → Held (λ (m : Made). GlobalHolds o ty count c) (item context o (t.global at ty name count c))
  global_holds o at ty name count c =
      let initial = initial_of (written_type context.types ty) count c in
      let written = written_type context.types ty in
      held_parts (λ (u : Unit {0}). IsDefined (structs_in context) written × IsInside o.structs written) (λ (u : Unit {0}). Unit {0}) (λ (m : Made). GlobalHolds o ty count c) (cell_type context o.structs ty) (once name (is_some (meaning_in o.names name.text))) _
      (cell_fits context o.structs ty) (held_always (Unit {0}) (once name (is_some (meaning_in o.names name.text))) tt)
      (λ u v h k. held_ruled (λ (m : Made). GlobalHolds o ty count c) at (failing (is_none initial) Mistyped ++ failing (is_empty count || nat_lt 1048576 (o.cells + cells_of_global context ty count)) TooBig) (record { globals = global_of context ty count (value_or_zero initial) ∷ []; functions = [] })
      (λ e.
      let first = none_failing (is_none initial) Mistyped (failing (is_empty count || nat_lt 1048576 (o.cells + cells_of_global context ty count)) TooBig) e in
      let second = or_right (is_empty count) (nat_lt 1048576 (o.cells + cells_of_global context ty count)) (not_failing _ TooBig first.1) in
      (record { defined = h.0; counted = at_least_one count second.0; initial_fits = initial_fits written count c first.0 }, no_less 1048576 (o.cells + cells_of_global context ty count) second.1)))

  abbrev pub AllGlobalsFit : List p.Global → Type 0
  AllGlobalsFit [] = Unit {0}
  AllGlobalsFit (g ∷ gs) = GlobalFits (structs_in context) g × AllGlobalsFit gs

  pub global_at : (gs : List p.Global) → AllGlobalsFit gs → (k : ℕ) (g : p.Global) → slice_get gs k ≡ Some g → GlobalFits (structs_in context) g
  global_at [] h k g e = absurd cc
  global_at (d ∷ gs) h zero g e = let same : d ≡ g = cc in subst (GlobalFits (structs_in context)) same h.0
  global_at (d ∷ gs) h (suc k) g e = global_at gs h.1 k g e

  abbrev pub GlobalsFit : ℕ → Made → Type 0
  GlobalsFit cells m = AllGlobalsFit m.globals × (cells + sum (map (global_size (structs_in context)) m.globals) ≤ 1048576)

  with_none : (cells : ℕ) (a b : Made) → a.globals ≡ [] → GlobalsFit cells b → GlobalsFit cells (made_both a b)
  with_none cells a b e h = subst (λ x. AllGlobalsFit (x ++ b.globals) × (cells + sum (map (global_size (structs_in context)) (x ++ b.globals)) ≤ 1048576)) (sym e) h

  pub globals_fit : (is : List t.Item) (o : Outside) → o.cells ≤ 1048576 → Held (GlobalsFit o.cells) (items context o is)
  globals_fit [] o h = (tt, omega (arith, h))
  globals_fit (t.struct at name fields ∷ is) o h =
      let i = t.struct at name fields in
      held_parts (λ (m : Made). m.globals ≡ []) (GlobalsFit o.cells) (GlobalsFit o.cells) (item context o i) (items context (behind_item context o i) is) _ (adds context o i) (globals_fit is (behind_item context o i) h) (λ a b e k. with_none o.cells a b e k)
  globals_fit (t.function at deletes result name qs None ∷ is) o h =
      let i = t.function at deletes result name qs None in
      held_parts (λ (m : Made). m.globals ≡ []) (GlobalsFit o.cells) (GlobalsFit o.cells) (item context o i) (items context (behind_item context o i) is) _ (adds context o i) (globals_fit is (behind_item context o i) h) (λ a b e k. with_none o.cells a b e k)
  globals_fit (t.function at deletes result name qs (Some body) ∷ is) o h =
      let i = t.function at deletes result name qs (Some body) in
      held_parts (λ (m : Made). m.globals ≡ []) (GlobalsFit o.cells) (GlobalsFit o.cells) (item context o i) (items context (behind_item context o i) is) _ (adds context o i) (globals_fit is (behind_item context o i) h) (λ a b e k. with_none o.cells a b e k)
  globals_fit (t.global at ty name count c ∷ is) o h =
      let i = t.global at ty name count c in
      let d = global_of context ty count (value_or_zero (initial_of (written_type context.types ty) count c)) in
      held_front (GlobalsFit o.cells) (before_globals context o.structs (i ∷ is)) _ (held_after (GlobalHolds o ty count c) (λ (m : Made). m.globals ≡ d ∷ []) (GlobalsFit (o.cells + cells_of_global context ty count)) (GlobalsFit o.cells) (item context o i) (items context (behind_item context o i) is) _
      (held_and (λ (m : Made). GlobalHolds o ty count c) (λ (m : Made). m.globals ≡ d ∷ []) (item context o i) (global_holds o at ty name count c) (adds context o i))
      (λ k. globals_fit is (behind_item context o i) k.1)
      (λ a b k e q. subst (λ x. AllGlobalsFit (x ++ b.globals) × (o.cells + sum (map (global_size (structs_in context)) (x ++ b.globals)) ≤ 1048576)) (sym e) ((k.0, q.0), total_on o.cells (cells_of_global context ty count) (map (global_size (structs_in context)) b.globals) q.1)))
