-- The image whose layouts are the source's, over a store that names them, is the image with its own layouts, over the store.
use Rattle.std.proofs.Common.{◌≡◌, ℕ, zero, suc, List, [], ◌∷◌, map, take, drop, get_or, reverse, refl, sym, ap, ◌∙◌}
use Rattle.std.specs.Prelude.{pos}
use Rattle.rc_core.specs.Types.{Ty, CellKind, int_cell, unsigned_cell, char_cell, region_cell, pointer_cell}
use Rattle.rc_core.specs.Layout.{Layout}
use Rattle.rc_core.specs.Heap.{Value}
use Rattle.rc_core.specs.Runs.{Run, Go, Stopped, bind, Calls}
use Rattle.rc_core.specs.Evaluation.{number_in}
use Rattle.rc_code.specs.declared.kind.Storage.TheVariants as storage
use Rattle.rc_code.specs.declared.opcode.Typed.TheVariants as typed
use Rattle.rc_code.specs.declared.opcode.Jump.TheVariants as jump
use Rattle.rc_code.specs.declared.opcode.Simple.TheVariants as simple
use Rattle.rc_code.specs.declared.instruction.Instruction.TheVariants as instruction
use Rattle.rc_code.specs.declared.image.Function.{Function}
use Rattle.rc_code.specs.declared.instruction.Instruction.{Instruction}
use Rattle.rc_code.specs.Running.{line_at, layout_at, path_at, function_at, cell_at, pointee, storage_by, storage_of, value_at, kept, width, target_on, Next, onward, backward, done, Onward, pinned, result_pushed, first_locals, effect, resume, walk, rounds, calls_within, run_main}
use Rattle.rc_code.specs.StoreModel.{Held, store_model, stored}
use Rattle.rc_worlds.specs.Worlds.{Compared, trusting, named_cell, own}

module _ (image : Compared) (same_number : (ty : Ty) → pointee (image.name ty) ≡ image.code.numbered ty) where
  pub own_layout : (t : ℕ) → layout_at (own image).code t ≡ map (named_cell image.name) (layout_at image.code t)
  own_layout t = by image.code.layouts t
    where
      by : (types : List Layout) (t : ℕ) → get_or (map (map (named_cell image.name)) types) t [] ≡ map (named_cell image.name) (get_or types t [])
      by [] t = refl
      by (l ∷ types) zero = refl
      by (l ∷ types) (suc t) = by types t

  pub own_storage : (p : _) → storage_of (own image).code (cell_at (own image).code p) ≡ storage_of image.code (cell_at image.code p)
  own_storage p = ap (λ (l : Layout). storage_by pointee (get_or l p.offset int_cell)) (own_layout p.type_number) ∙ by (layout_at image.code p.type_number) p.offset
    where
      one : (k : CellKind) → storage_by pointee (named_cell image.name k) ≡ storage_by image.code.numbered k
      one int_cell = refl
      one unsigned_cell = refl
      one char_cell = refl
      one region_cell = refl
      one (pointer_cell note ty) = ap storage.Pointer (same_number ty)

      by : (l : Layout) (c : ℕ) → storage_by pointee (get_or (map (named_cell image.name) l) c int_cell) ≡ storage_by image.code.numbered (get_or l c int_cell)
      by [] c = refl
      by (k ∷ l) zero = one k
      by (k ∷ l) (suc c) = by l c

  abbrev SameCalls : Calls Held → Calls Held → Type 0
  SameCalls calls calls' = (f : ℕ) (vs : List Value) (w : Held) → calls f vs w ≡ calls' f vs w

  abbrev SameOnward : Onward Held → Onward Held → Type 0
  SameOnward next next' = (n : ℕ) (st env : List Value) (w : Held) → next n st env w ≡ next' n st env w

  pub same_effect : (f : Function) (line at : ℕ) (i : Instruction) (calls calls' : Calls Held) → SameCalls calls calls' → (st env : List Value) (w : Held)
      → effect (trusting image.name) image.code f line at i calls st env w ≡ effect stored (own image).code f line at i calls' st env w
  same_effect f line at (instruction.Constant s n) calls calls' same st env w = refl
  same_effect f line at (instruction.Global g) calls calls' same st env w = refl
  same_effect f line at (instruction.Get x) calls calls' same st env w = refl
  same_effect f line at (instruction.Set x) calls calls' same st env w = refl
  same_effect f line at (instruction.Load p) calls calls' same st env w = refl
  same_effect f line at (instruction.Typed typed.Null t) calls calls' same st env w = refl
  same_effect f line at (instruction.Typed typed.Same t) calls calls' same st env w = refl
  same_effect f line at (instruction.Typed typed.IsNull t) calls calls' same st env w = refl
  same_effect f line at (instruction.Typed typed.RegionOf t) calls calls' same st env w = refl
  same_effect f line at (instruction.Typed typed.Allocate t) calls calls' same st env w =
      ap (λ l. bind (store_model.allocate line (value_at st 0) (pos 1) l w) (λ v. Go (onward 0 (v ∷ drop 1 st) env))) (sym (own_layout t))
  same_effect f line at (instruction.Typed typed.AllocateArray t) calls calls' same st env w =
      ap (λ l. bind (store_model.allocate line (value_at st 1) (number_in (value_at st 0)) l w) (λ v. Go (onward 0 (v ∷ drop 2 st) env))) (sym (own_layout t))
  same_effect f line at (instruction.Arithmetic row s) calls calls' same st env w = refl
  same_effect f line at (instruction.Move t s direction) calls calls' same st env w = refl
  same_effect f line at (instruction.Store p b) calls calls' same st env w =
      ap (λ s. bind (stored.put b line (target_on (path_at image.code p) (drop 1 st)) (kept s (value_at st 0)) w) (λ _. Go (onward 0 (drop (suc (width (path_at image.code p))) st) env))) (sym (own_storage (path_at image.code p)))
  same_effect f line at (instruction.Simple simple.NullRegion) calls calls' same st env w = refl
  same_effect f line at (instruction.Simple simple.SameRegion) calls calls' same st env w = refl
  same_effect f line at (instruction.Simple simple.IsZero) calls calls' same st env w = refl
  same_effect f line at (instruction.Simple simple.IsNullRegion) calls calls' same st env w = refl
  same_effect f line at (instruction.Simple simple.ToInt) calls calls' same st env w = refl
  same_effect f line at (instruction.Simple simple.ToUnsigned) calls calls' same st env w = refl
  same_effect f line at (instruction.Simple simple.ToChar) calls calls' same st env w = refl
  same_effect f line at (instruction.Simple simple.NewRegion) calls calls' same st env w = refl
  same_effect f line at (instruction.Simple simple.NewSubregion) calls calls' same st env w = refl
  same_effect f line at (instruction.Simple simple.Return) calls calls' same st env w = refl
  same_effect f line at (instruction.Simple simple.PutChar) calls calls' same st env w = refl
  same_effect f line at (instruction.Simple simple.GetChar) calls calls' same st env w = refl
  same_effect f line at (instruction.Simple simple.Pop) calls calls' same st env w = refl
  same_effect f line at (instruction.Delete pins) calls calls' same st env w = refl
  same_effect f line at (instruction.Call g pins) calls calls' same st env w =
      ap (λ m. bind m (λ v w1. Go (onward 0 (result_pushed (function_at image.code g).result v (drop (function_at image.code g).parameters st)) env) (store_model.leave w w1))) (same g (reverse (take (function_at image.code g).parameters st)) (store_model.enter (pinned pins env) w))
  same_effect f line at (instruction.Jump jump.Always to) calls calls' same st env w = refl
  same_effect f line at (instruction.Jump jump.IfZero to) calls calls' same st env w = refl
  same_effect f line at (instruction.Jump jump.Back to) calls calls' same st env w = refl

  same_behind : (m : Run Held Next) (next again next' again' : Onward Held) → SameOnward next next' → SameOnward again again' → bind m (resume (trusting image.name) image.code next again) ≡ bind m (resume stored (own image).code next' again')
  same_behind (Go (onward n st env) w) next again next' again' a b = a n st env w
  same_behind (Go (backward to st env) w) next again next' again' a b = b to st env w
  same_behind (Go (done v) w) next again next' again' a b = refl
  same_behind (Stopped s w) next again next' again' a b = refl

  same_walk : (f : Function) (is : List Instruction) (at : ℕ) (calls calls' : Calls Held) (again again' : Onward Held) → SameCalls calls calls' → SameOnward again again'
      → SameOnward (walk (trusting image.name) image.code f is at calls again) (walk stored (own image).code f is at calls' again')
  same_walk f [] at calls calls' again again' called back n st env w = refl
  same_walk f (i ∷ is) at calls calls' again again' called back (suc n) st env w = same_walk f is (suc at) calls calls' again again' called back n st env w
  same_walk f (i ∷ is) at calls calls' again again' called back zero st env w =
      ap (λ m. bind m (resume (trusting image.name) image.code (walk (trusting image.name) image.code f is (suc at) calls again) again)) (same_effect f (line_at f at) at i calls calls' called st env w)
      ∙ same_behind (effect stored (own image).code f (line_at f at) at i calls' st env w) (walk (trusting image.name) image.code f is (suc at) calls again) again (walk stored (own image).code f is (suc at) calls' again') again' (same_walk f is (suc at) calls calls' again again' called back) back

  same_rounds : (fuel : ℕ) (f : Function) (calls calls' : Calls Held) → SameCalls calls calls' → SameOnward (rounds (trusting image.name) image.code fuel f calls) (rounds stored (own image).code fuel f calls')
  same_rounds zero f calls calls' called n st env w = refl
  same_rounds (suc fuel) f calls calls' called n st env w = same_walk f f.code 0 calls calls' _ _ called (same_rounds fuel f calls calls' called) n st env w

  same_entry : (n fuel : ℕ) (f : ℕ) (vs : List Value) (m : Run Held (Unit {0})) → SameCalls (calls_within (trusting image.name) image.code fuel) (calls_within stored (own image).code fuel)
      → bind m (λ _ w1. rounds (trusting image.name) image.code (suc w1.turns) (function_at image.code f) (calls_within (trusting image.name) image.code fuel) 0 [] (first_locals (function_at image.code f) vs) w1)
      ≡ bind m (λ _ w1. rounds stored (own image).code (suc w1.turns) (function_at image.code f) (calls_within stored (own image).code fuel) 0 [] (first_locals (function_at image.code f) vs) w1)
  same_entry n fuel f vs (Go x w1) same = same_rounds (suc w1.turns) (function_at image.code f) _ _ same 0 [] (first_locals (function_at image.code f) vs) w1
  same_entry n fuel f vs (Stopped s w1) same = refl

  same_calls : (fuel : ℕ) → SameCalls (calls_within (trusting image.name) image.code fuel) (calls_within stored (own image).code fuel)
  same_calls zero f vs w = refl
  same_calls (suc fuel) f vs w = same_entry (suc fuel) fuel f vs (store_model.take_turn w) (same_calls fuel)

  pub same_run : (w : Held) → run_main (trusting image.name) image.code w ≡ run_main stored (own image).code w
  same_run w = same_calls (suc w.turns) image.code.parts.main [] w
