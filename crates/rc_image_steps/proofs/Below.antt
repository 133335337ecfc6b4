-- An effect speaks of variables below the scratch variable, and calls what is there.
use Rattle.std.proofs.Common.{◌≡◌, ◌∙◌, ℕ, zero, suc, ◌+◌, ◌<◌, ◌≤◌, Bool, true, false, List, [], ◌∷◌, length, take, get_or, option_to_list, refl, ap, arith, length-append}
use Rattle.std.specs.Prelude.{IfSome}
use Rattle.std.proofs.lemmas.List.{length-map}
use Rattle.rc_facts.specs.Facts.{Known}
use Rattle.rc_facts.specs.Flow.{no_set}
use Rattle.rc_edges.specs.Edges.{all_below, EffectBelow}
use Rattle.rc_edges.specs.News.{places_of}
use Rattle.rc_rlang.specs.RegionFlow.{Effect}
use Rattle.rc_crossing.specs.Fitting.{CallFits}
use Rattle.rc_code.specs.declared.opcode.Typed.TheVariants as typed
use Rattle.rc_code.specs.declared.opcode.Simple.TheVariants as simple
use Rattle.rc_code.specs.declared.instruction.Instruction.{Instruction}
use Rattle.rc_code.specs.declared.instruction.Instruction.TheVariants as instruction
use Rattle.rc_code.specs.declared.image.Function.{Function}
use Rattle.rc_code.specs.declared.image.Parts.{Parts}
use Rattle.rc_code.specs.Running.{Reading, reading_of, path_at, function_at, cell_at, storage_of}
use Rattle.rc_code.specs.Soundness.{is_regional, local_in, Names}
use Rattle.rc_claims.specs.Counts.{copies, local_variable, one_if, place, regional_result, regionals, trues}
use Rattle.rc_sealed.specs.ImageVariables.{result_variable}
use Rattle.rc_sealed.specs.Carrying.{effect_of, if_regional, load_effect, regional_places, when}
use Rattle.rc_sealed.proofs.Carry.{trues_bound}
use Rattle.rc_image_steps.specs.Sites.{AreExits}

-- ---- the places of arguments

regional_long : (f : Function) (bs : List Bool) (j : ℕ) → length (regional_places f bs j) ≡ trues bs (length bs)
regional_long f [] j = refl
regional_long f (true ∷ bs) j = ap suc (regional_long f bs (suc j))
regional_long f (false ∷ bs) j = regional_long f bs (suc j)

trues_take : (bs : List Bool) (p : ℕ) → trues (take p bs) (length (take p bs)) ≡ trues bs p
trues_take [] zero = refl
trues_take [] (suc p) = refl
trues_take (b ∷ bs) zero = refl
trues_take (true ∷ bs) (suc p) = ap suc (trues_take bs p)
trues_take (false ∷ bs) (suc p) = trues_take bs p

pub arguments_long : (f to : Function) (low : ℕ) → length (regional_places f (take to.parameters (regionals to)) low) ≡ copies to
arguments_long f to low = regional_long f (take to.parameters (regionals to)) low ∙ trues_take (regionals to) to.parameters

pub regional_few : (f : Function) (bs : List Bool) (j : ℕ) → length (regional_places f bs j) ≤ length bs
regional_few f [] j = omega arith
regional_few f (true ∷ bs) j = let k = regional_few f bs (suc j) in omega (arith, k)
regional_few f (false ∷ bs) j = let k = regional_few f bs (suc j) in omega (arith, k)

pub regional_below : (f : Function) (s : ℕ) (bs : List Bool) (j : ℕ) → place f (j + length bs) ≤ s → all_below s (regional_places f bs j)
regional_below f s [] j le = tt
regional_below f s (true ∷ bs) j le = (omega (arith, le), regional_below f s bs (suc j) (omega (arith, le)))
regional_below f s (false ∷ bs) j le = regional_below f s bs (suc j) (omega (arith, le))

-- ---- effects

if_below : (s : ℕ) (b : Bool) (e : Effect) → EffectBelow s e → EffectBelow s (if_regional b e)
if_below s true e h = h
if_below s false e h = tt

load_below : (s : ℕ) (b : Bool) (e d : Effect) → EffectBelow s e → EffectBelow s d → EffectBelow s (load_effect b e d)
load_below s true e d h k = h
load_below s false e d h k = k

when_below : (s : ℕ) (b : Bool) (x : ℕ) → x < s → IfSome (when b x) (λ v. v < s)
when_below s true x lt = lt
when_below s false x lt = tt

module _ (image : Reading) (f : Function) (s low high : ℕ) (l : place f low < s) (h : place f high < s) (r : result_variable image f < s) where
  local_below : (x : ℕ) → local_variable f x < s
  local_below x =
      let b = trues_bound (regionals f) x in
      let e : trues (regionals f) (length (regionals f)) ≡ trues (regionals f) (length f.locals) = ap (trues (regionals f)) (length-map f.locals is_regional) in
      omega (arith, b, e, l)

  pub effect_below : (i : Instruction) → ((g : ℕ) (pins : List ℕ) → i ≡ instruction.Call g pins → place f (low + length (take (function_at image g).parameters (regionals (function_at image g)))) ≤ s) → EffectBelow s (effect_of image f low high i)
  effect_below (instruction.Constant k v) call = tt
  effect_below (instruction.Global g) call = l
  effect_below (instruction.Get x) call = if_below s (is_regional (local_in f x)) _ (l, local_below x)
  effect_below (instruction.Set x) call = if_below s (is_regional (local_in f x)) _ (local_below x, h)
  effect_below (instruction.Load p) call = load_below s (is_regional (storage_of image (cell_at image (path_at image p)))) _ _ (l, l) l
  effect_below (instruction.Store p b) call = (h, l)
  effect_below (instruction.Typed typed.Null y) call = l
  effect_below (instruction.Typed typed.Same y) call = tt
  effect_below (instruction.Typed typed.IsNull y) call = tt
  effect_below (instruction.Typed typed.RegionOf y) call = (l, l)
  effect_below (instruction.Typed typed.Allocate y) call = (l, l)
  effect_below (instruction.Typed typed.AllocateArray y) call = (l, l)
  effect_below (instruction.Arithmetic a k) call = tt
  effect_below (instruction.Move y k d) call = (l, l)
  effect_below (instruction.Simple simple.NullRegion) call = l
  effect_below (instruction.Simple simple.SameRegion) call = tt
  effect_below (instruction.Simple simple.IsZero) call = tt
  effect_below (instruction.Simple simple.IsNullRegion) call = tt
  effect_below (instruction.Simple simple.ToInt) call = tt
  effect_below (instruction.Simple simple.ToUnsigned) call = tt
  effect_below (instruction.Simple simple.ToChar) call = tt
  effect_below (instruction.Simple simple.NewRegion) call = l
  effect_below (instruction.Simple simple.NewSubregion) call = (l, l)
  effect_below (instruction.Simple simple.Return) call = if_below s (regional_result f.result) _ (r, h)
  effect_below (instruction.Simple simple.PutChar) call = tt
  effect_below (instruction.Simple simple.GetChar) call = tt
  effect_below (instruction.Simple simple.Pop) call = tt
  effect_below (instruction.Delete pins) call = l
  effect_below (instruction.Call g pins) call = (
    when_below s (regional_result (function_at image g).result) (place f low) l,
    regional_below f s (take (function_at image g).parameters (regionals (function_at image g))) low (call g pins refl),
  )
  effect_below (instruction.Jump j to) call = tt

-- ---- calls

when_long : (b : Bool) (x : ℕ) → length (option_to_list (when b x)) ≡ one_if b
when_long true x = refl
when_long false x = refl

if_fits : (exits : List Known) (b : Bool) (e : Effect) → CallFits exits e → CallFits exits (if_regional b e)
if_fits exits true e h = h
if_fits exits false e h = tt

load_fits : (exits : List Known) (b : Bool) (e d : Effect) → CallFits exits e → CallFits exits d → CallFits exits (load_effect b e d)
load_fits exits true e d h k = h
load_fits exits false e d h k = k

module _ (parts : Parts) (f : Function) (exits : List Known) (are : AreExits parts exits) (low high : ℕ) where
  call_places : (g : ℕ) → g < length parts.functions → length (places_of (regional_places f (take (function_at (reading_of parts) g).parameters (regionals (function_at (reading_of parts) g))) low) (when (regional_result (function_at (reading_of parts) g).result) (place f low))) ≤ (get_or exits g no_set).variables
  call_places g there =
      let to : Function = function_at (reading_of parts) g in
      let arguments : List ℕ = regional_places f (take to.parameters (regionals to)) low in
      let e = length-append arguments (option_to_list (when (regional_result to.result) (place f low))) in
      let a = arguments_long f to low in
      let w = when_long (regional_result to.result) (place f low) in
      let m = are.each g there in
      omega (arith, e, a, w, m)

  pub call_fits : (i : Instruction) → Names true (reading_of parts) f i → CallFits exits (effect_of (reading_of parts) f low high i)
  call_fits (instruction.Constant k v) n = tt
  call_fits (instruction.Global g) n = tt
  call_fits (instruction.Get x) n = if_fits exits (is_regional (local_in f x)) _ tt
  call_fits (instruction.Set x) n = if_fits exits (is_regional (local_in f x)) _ tt
  call_fits (instruction.Load p) n = load_fits exits (is_regional (storage_of (reading_of parts) (cell_at (reading_of parts) (path_at (reading_of parts) p)))) _ _ tt tt
  call_fits (instruction.Store p b) n = tt
  call_fits (instruction.Typed typed.Null y) n = tt
  call_fits (instruction.Typed typed.Same y) n = tt
  call_fits (instruction.Typed typed.IsNull y) n = tt
  call_fits (instruction.Typed typed.RegionOf y) n = tt
  call_fits (instruction.Typed typed.Allocate y) n = tt
  call_fits (instruction.Typed typed.AllocateArray y) n = tt
  call_fits (instruction.Arithmetic a k) n = tt
  call_fits (instruction.Move y k d) n = tt
  call_fits (instruction.Simple simple.NullRegion) n = tt
  call_fits (instruction.Simple simple.SameRegion) n = tt
  call_fits (instruction.Simple simple.IsZero) n = tt
  call_fits (instruction.Simple simple.IsNullRegion) n = tt
  call_fits (instruction.Simple simple.ToInt) n = tt
  call_fits (instruction.Simple simple.ToUnsigned) n = tt
  call_fits (instruction.Simple simple.ToChar) n = tt
  call_fits (instruction.Simple simple.NewRegion) n = tt
  call_fits (instruction.Simple simple.NewSubregion) n = tt
  call_fits (instruction.Simple simple.Return) n = if_fits exits (regional_result f.result) _ tt
  call_fits (instruction.Simple simple.PutChar) n = tt
  call_fits (instruction.Simple simple.GetChar) n = tt
  call_fits (instruction.Simple simple.Pop) n = tt
  call_fits (instruction.Delete pins) n = tt
  call_fits (instruction.Call g pins) n = (let there : g < length parts.functions = n.0 in let e = are.long in omega (arith, there, e), call_places g n.0)
  call_fits (instruction.Jump j to) n = tt
