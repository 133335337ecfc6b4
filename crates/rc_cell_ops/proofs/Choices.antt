-- The operands of a path, read from the stack.
use Rattle.std.proofs.Common.{◌≡◌, ◌∙◌, ◌+◌, ◌-◌, ◌*◌, ◌<◌, ◌≤◌, ℕ, zero, suc, true, false, List, [], ◌∷◌, length, take, drop, reverse, get_or, slice_get, Option, Some, None, refl, sym, ap, arith, add-one, ◌⊎◌, inl, inr}
use Rattle.std.specs.Prelude.{ℤ, pos, unsigned_abs, ◌&&◌}
use Rattle.std.specs.List.{list_all}
use Rattle.std.proofs.lemmas.List.{get_or-drop, get_or-take, get_or-reverse, length-take-le, length-reverse}
use Rattle.std.proofs.lemmas.Option.{slice_get_within, get_or_from_slice_get}
use Rattle.rc_core.specs.declared.ty.Signedness.{Signedness}
use Rattle.rc_core.specs.Heap.{Value, Null}
use Rattle.rc_core.specs.Runs.{Chosen}
use Rattle.rc_core.specs.Source.{cells_chosen, chosen_in_range}
use Rattle.rc_core.specs.Evaluation.{number_in}
use Rattle.rc_code.specs.declared.image.Index.{Index}
use Rattle.rc_code.specs.declared.image.Path.{Path}
use Rattle.rc_steps.proofs.Lists.{length_drop}
use Rattle.rc_code.specs.Running.{chosen_values, shift_count, width, target_of, target_on, value_at}

-- in the order in which they were pushed
pushed_at : (stack : List Value) (w j : ℕ) → j < w → w ≤ length stack → get_or (reverse (take w stack)) j Null ≡ get_or stack (w - 1 - j) Null
pushed_at stack w j below le =
    let l = length-take-le w stack le in
    get_or-reverse (take w stack) j Null (omega (arith, l, below)) ∙ ap (λ n. get_or (take w stack) (n - 1 - j) Null) l ∙ get_or-take w stack (w - 1 - j) Null (omega (arith, below))

abbrev shift_in : Option Signedness → List Value → ℤ
shift_in None vs = pos 0
shift_in (Some s) vs = number_in (value_at vs 1)

pointer_first : (path : Path) (shift : Option Signedness) (vs : List Value) → (target_of path shift vs).pointer ≡ value_at vs 0
pointer_first path None vs = refl
pointer_first path (Some s) vs = refl

shift_second : (path : Path) (shift : Option Signedness) (vs : List Value) → (target_of path shift vs).shift ≡ shift_in shift vs
shift_second path None vs = refl
shift_second path (Some s) vs = refl

offset_is : (path : Path) (shift : Option Signedness) (vs : List Value) → (target_of path shift vs).offset ≡ path.offset
offset_is path None vs = refl
offset_is path (Some s) vs = refl

chosen_behind : (path : Path) (shift : Option Signedness) (vs : List Value) → (target_of path shift vs).chosen ≡ chosen_values path.indices (drop (suc (shift_count shift)) vs)
chosen_behind path None vs = refl
chosen_behind path (Some s) vs = refl

choice_at : (is : List Index) (vs : List Value) (d : Index) (i : ℕ) → i < length is → length is ≤ length vs
    → drop i (chosen_values is vs) ≡ record { index = number_in (get_or vs i Null); count = (get_or is i d).length; stride = (get_or is i d).stride } ∷ drop (suc i) (chosen_values is vs)
choice_at [] vs d i below le = absurd (omega (arith, below))
choice_at (x ∷ is) [] d i below le = absurd (omega (arith, le))
choice_at (x ∷ is) (v ∷ vs) d zero below le = refl
choice_at (x ∷ is) (v ∷ vs) d (suc i) below le = choice_at is vs d i (omega (arith, below)) (omega (arith, le))

no_choice : (is : List Index) (vs : List Value) (n : ℕ) → length is ≤ n → drop n (chosen_values is vs) ≡ []
no_choice [] vs zero le = refl
no_choice [] vs (suc n) le = refl
no_choice (x ∷ is) vs zero le = absurd (omega (arith, le))
no_choice (x ∷ is) [] (suc n) le = refl
no_choice (x ∷ is) (v ∷ vs) (suc n) le = no_choice is vs n (omega (arith, le))

module _ (path : Path) (operands : List Value) (above : ℕ) (there : width path + above ≤ length operands) where
  abbrev stack : List Value
  stack = drop above operands

  abbrev pushed : List Value
  pushed = reverse (take (width path) stack)

  long : width path ≤ length stack
  long = let d = length_drop above operands in let t = there in omega (arith, d, t)

  -- so far from the first
  operand_is : (j k : ℕ) → j < width path → k + j + 1 ≡ width path + above → get_or pushed j Null ≡ get_or operands k Null
  operand_is j k below e =
      let n : above + (width path - 1 - j) ≡ k = omega (arith, e, below) in
      pushed_at stack (width path) j below long ∙ get_or-drop above operands (width path - 1 - j) Null ∙ ap (λ n. get_or operands n Null) n

  pub pointer_is : (k : ℕ) → k + 1 ≡ width path + above → (target_on path stack).pointer ≡ get_or operands k Null
  pointer_is k e = pointer_first path path.shift pushed ∙ operand_is 0 k (omega arith) (omega (arith, e))

  pub shift_none : path.shift ≡ None → (target_on path stack).shift ≡ pos 0
  shift_none e = shift_second path path.shift pushed ∙ ap (λ s. shift_in s pushed) e

  pub shift_some : (s : Signedness) → path.shift ≡ Some s → (k : ℕ) → k + 2 ≡ width path + above → (target_on path stack).shift ≡ number_in (get_or operands k Null)
  shift_some s e k f =
      let w : shift_count path.shift ≡ 1 = ap shift_count e in
      shift_second path path.shift pushed ∙ ap (λ s. shift_in s pushed) e ∙ ap number_in (operand_is 1 k (omega (arith, w)) (omega (arith, f)))

  pub offset_there : (target_on path stack).offset ≡ path.offset
  offset_there = offset_is path path.shift pushed

  abbrev pub chosen : List Chosen
  chosen = (target_on path stack).chosen

  abbrev values : List Value
  values = drop (suc (shift_count path.shift)) pushed

  enough : length path.indices ≤ length values
  enough =
      let d = length_drop (suc (shift_count path.shift)) pushed in
      let r = length-reverse (take (width path) stack) in
      let t = length-take-le (width path) stack long in
      omega (arith, d, r, t)

  -- the choices from one on
  pub chosen_next : (x : Index) (v : Value) (i k : ℕ) → slice_get path.indices i ≡ Some x → slice_get operands k ≡ Some v → k + i + 1 ≡ length path.indices + above
      → drop i chosen ≡ record { index = number_in v; count = x.length; stride = x.stride } ∷ drop (i + 1) chosen
  chosen_next x v i k there is e =
      let below = slice_get_within path.indices i x there in
      let b = chosen_behind path path.shift pushed in
      let u : get_or values i Null ≡ v =
      get_or-drop (suc (shift_count path.shift)) pushed i Null ∙ operand_is (suc (shift_count path.shift) + i) k (omega (arith, below)) (omega (arith, e)) ∙ get_or_from_slice_get operands k v Null is in
      ap (drop i) b ∙ choice_at path.indices values x i below enough
      ∙ ap (λ u. record { index = number_in u; count = (get_or path.indices i x).length; stride = (get_or path.indices i x).stride } ∷ drop (suc i) (chosen_values path.indices values)) u
      ∙ ap (λ (y : Index). record { index = number_in v; count = y.length; stride = y.stride } ∷ drop (suc i) (chosen_values path.indices values)) (get_or_from_slice_get path.indices i x x there)
      ∙ ap (λ cs. record { index = number_in v; count = x.length; stride = x.stride } ∷ drop (suc i) cs) (sym b)
      ∙ ap (λ n. record { index = number_in v; count = x.length; stride = x.stride } ∷ drop n chosen) (sym (add-one i))

  pub chosen_end : (n : ℕ) → length path.indices ≤ n → drop n chosen ≡ []
  chosen_end n le = ap (drop n) (chosen_behind path path.shift pushed) ∙ no_choice path.indices values n le

-- ---- as far as the choices are made

pub record SoFar (offset : ℕ) (all rest : List Chosen) (cell : ℕ) : Type 0 where
  pub chosen : list_all chosen_in_range all ≡ list_all chosen_in_range rest
  pub cells : offset + cells_chosen all ≡ cell + cells_chosen rest

pub so_further : (offset : ℕ) (all rest more : List Chosen) (c : Chosen) (cell cell' : ℕ) → SoFar offset all rest cell → rest ≡ c ∷ more → chosen_in_range c ≡ true → cell' ≡ cell + unsigned_abs c.index * c.stride → SoFar offset all more cell'
so_further offset all rest more c cell cell' far e inside f = record {
  chosen = far.chosen ∙ ap (list_all chosen_in_range) e ∙ ap (λ b. b && list_all chosen_in_range more) inside;
  cells = let g = far.cells in let h = ap cells_chosen e in omega (arith, f, g, h);
}

pub so_out : (offset : ℕ) (all rest more : List Chosen) (c : Chosen) (cell : ℕ) → SoFar offset all rest cell → rest ≡ c ∷ more → chosen_in_range c ≡ false → list_all chosen_in_range all ≡ false
so_out offset all rest more c cell far e out = far.chosen ∙ ap (list_all chosen_in_range) e ∙ ap (λ b. b && list_all chosen_in_range more) out

pub so_failed : {A B : Type 0} (offset : ℕ) (all rest more : List Chosen) (c : Chosen) (cell : ℕ) → SoFar offset all rest cell → rest ≡ c ∷ more → A ⊎ (B × (chosen_in_range c ≡ false)) → A ⊎ (B × (list_all chosen_in_range all ≡ false))
so_failed offset all rest more c cell far e (inl a) = inl a
so_failed offset all rest more c cell far e (inr b) = inr (b.0, so_out offset all rest more c cell far e b.1)

pub so_done : (offset : ℕ) (all rest : List Chosen) (cell : ℕ) → SoFar offset all rest cell → rest ≡ [] → (list_all chosen_in_range all ≡ true) × (cell ≡ offset + cells_chosen all)
so_done offset all rest cell far e = let g = far.cells in let h = ap cells_chosen e in (far.chosen ∙ ap (list_all chosen_in_range) e, omega (arith, g, h))
