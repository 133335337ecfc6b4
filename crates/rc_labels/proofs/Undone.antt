-- An image does in a world that reads labels what the image with marks, and with the lines that its labels tell, does.
use Rattle.std.proofs.Common.{◌≡◌, ℕ, zero, suc, ◌+◌, ◌-◌, Bool, true, false, List, [], ◌∷◌, map, take, drop, reverse, get_or, Option, Some, None, refl, sym, ap, ◌∙◌, arith}
use Rattle.std.specs.Prelude.{ℤ, Result, Ok, Err}
use Rattle.rc_base.specs.declared.ends.Trap.{Trap}
use Rattle.rc_core.specs.declared.ty.Signedness.{Signedness}
use Rattle.rc_core.specs.Heap.{Value, Number}
use Rattle.rc_core.specs.Runs.{Run, Go, Stopped, bind, branching, computed, Calls, Ops}
use Rattle.rc_core.specs.Evaluation.{is_true, region_named, give_number}
use Rattle.rc_core.specs.Execution.{with_local}
use Rattle.rc_code.specs.declared.kind.Storage.{Storage}
use Rattle.rc_code.specs.declared.kind.Storage.TheVariants as storage
use Rattle.rc_code.specs.declared.opcode.Typed.TheVariants as typed
use Rattle.rc_code.specs.declared.opcode.Jump.TheVariants as jump
use Rattle.rc_code.specs.declared.opcode.Simple.TheVariants as simple
use Rattle.rc_code.specs.declared.instruction.Instruction.{Instruction}
use Rattle.rc_code.specs.declared.instruction.Instruction.TheVariants as instruction
use Rattle.rc_code.specs.declared.image.Function.{Function}
use Rattle.rc_code.specs.declared.image.Path.{Path}
use Rattle.rc_code.specs.Running.{Reading, Doing, path_at, cell_at, storage_of, function_at, line_at, kept, value_at, pinned, result_pushed, result_of, first_locals, target_of, target_on, operation, outcome, Next, onward, backward, done, Onward, effect, resume, walk, rounds, calls_within, run_main, width}
use Rattle.rc_along.specs.MarkedRuns.{Put}
use Rattle.rc_labels.specs.Labels.{Numbering, mark_at, line_in}
use Rattle.rc_labels.specs.LabelledWorlds.{decoded, encoded, labelled_ops}
use Rattle.rc_labels.proofs.Decoded.{read_back, reads_bind, reads_named}

-- the same instruction, but a store with this mark
abbrev pub with_mark : Bool → Instruction → Instruction
with_mark m (instruction.Constant kind value) = instruction.Constant kind value
with_mark m (instruction.Global global) = instruction.Global global
with_mark m (instruction.Get local) = instruction.Get local
with_mark m (instruction.Set local) = instruction.Set local
with_mark m (instruction.Load path) = instruction.Load path
with_mark m (instruction.Typed row type) = instruction.Typed row type
with_mark m (instruction.Arithmetic row kind) = instruction.Arithmetic row kind
with_mark m (instruction.Move type kind direction) = instruction.Move type kind direction
with_mark m (instruction.Store path proved) = instruction.Store path m
with_mark m (instruction.Simple row) = instruction.Simple row
with_mark m (instruction.Delete pins) = instruction.Delete pins
with_mark m (instruction.Call function pins) = instruction.Call function pins
with_mark m (instruction.Jump row target) = instruction.Jump row target

module _ (n : Numbering) where
  over : {W A B : Type 0} (m : Run W A) (k k' : A → W → Run W B) → ((x : A) (w : W) → k x w ≡ decoded n (k' x w)) → bind (decoded n m) k ≡ decoded n (bind m k')
  over m k k' h = sym (reads_bind n m (decoded n m) k' k refl (λ x w. sym (h x w)))

  -- what is done to the world, and then goes on the same
  through : {W A B : Type 0} (m : Run W A) (k k' : A → W → Run W B) → ((x : A) (w : W) → k x w ≡ decoded n (k' x w)) → bind m k ≡ decoded n (bind (encoded n m) k')
  through m k k' h = ap (λ run. bind run k) (sym (read_back n m)) ∙ over (encoded n m) k k' h

  twice : {W A B C : Type 0} (m : Run W A) (g : A → W → Run W B) (k k' : B → W → Run W C) → ((x : A) (w : W) → bind (g x w) k ≡ decoded n (bind (g x w) k')) → bind (bind m g) k ≡ decoded n (bind (bind (encoded n m) g) k')
  twice (Go x w) g k k' h = h x w
  twice (Stopped s w) g k k' h = sym (read_back n (Stopped s w))

  named : {W B : Type 0} (label : ℕ) (v : Value) (w : W) (k k' : Value → W → Run W B) → ((x : Value) (w1 : W) → k x w1 ≡ decoded n (k' x w1)) → bind (region_named (line_in n label) v w) k ≡ decoded n (bind (region_named label v w) k')
  named label v w k k' h = ap (λ run. bind run k) (sym (reads_named n label (line_in n label) refl v w)) ∙ over (region_named label v w) k k' h

  worked_out : {W B : Type 0} (label : ℕ) (r : Result ℤ Trap) (w : W) (k k' : Value → W → Run W B) → ((x : Value) (w1 : W) → k x w1 ≡ decoded n (k' x w1)) → bind (bind (computed (line_in n label) r w) give_number) k ≡ decoded n (bind (bind (computed label r w) give_number) k')
  worked_out label (Ok x) w k k' h = h (Number x) w
  worked_out label (Err t) w k k' h = refl

  -- two images that are the same but for their functions
  module _ {W : Type 0} (ops : Ops W) (put : Put W) (view : Reading) (functions functions' : List Function) where
    abbrev pub image : Reading
    image = record view { parts = record view.parts { functions = functions } }

    abbrev pub image' : Reading
    image' = record view { parts = record view.parts { functions = functions' } }

    abbrev pub does : Doing W
    does = record { ops = ops; put = put }

    abbrev pub does' : Doing W
    does' = record { ops = labelled_ops n ops put; put = λ _. (labelled_ops n ops put).store }

    -- a store's label tells its mark
    abbrev pub Tells : (label : ℕ) → Instruction → Bool → Type 0
    Tells label (instruction.Store path proved) m = m ≡ mark_at (n.label label) (path_at view path).offset
    Tells label i m = Unit {0}

    offset_of : (p : Path) (shift : Option Signedness) (vs : List Value) → (target_of p shift vs).offset ≡ p.offset
    offset_of p None vs = refl
    offset_of p (Some s) vs = refl

    -- functions whose instructions are the same but for the marks of stores, which labels tell
    abbrev pub Matched : (labels : List ℕ) → (code code' : List Instruction) → Type 0
    Matched [] [] [] = Unit {0}
    Matched (l ∷ ls) (i ∷ is) (j ∷ js) = ((m : Bool) × ((i ≡ with_mark m j) × Tells l j m)) × Matched ls is js
    Matched ls is js = ⊥

    pub record Paired (f f' : Function) : Type 0 where
      pub parameters : f.parameters ≡ f'.parameters
      pub locals : f.locals ≡ f'.locals
      pub result : f.result ≡ f'.result
      pub lines : f.lines ≡ map (line_in n) f'.lines
      pub code : Matched f'.lines f.code f'.code

    abbrev pub AllPaired : Type 0
    AllPaired = (g : ℕ) → Paired (function_at image g) (function_at image' g)

    abbrev pub SameCalls : (calls calls' : Calls W) → Type 0
    SameCalls calls calls' = (g : ℕ) (vs : List Value) (w : W) → calls g vs w ≡ decoded n (calls' g vs w)

    abbrev pub SameOn : (next next' : Onward W) → Type 0
    SameOn next next' = (k : ℕ) (st env : List Value) (w : W) → next k st env w ≡ decoded n (next' k st env w)

    module _ (paired : AllPaired) (calls calls' : Calls W) (same : SameCalls calls calls') (f f' : Function) (pair : Paired f f') where
      chosen : (b : Bool) (x y : Next) (w : W) → branching b (Go x) (Go y) w ≡ decoded n (branching b (Go x) (Go y) w)
      chosen true x y w = refl
      chosen false x y w = refl

      called : (g : ℕ) (pins : List ℕ) (p : ℕ) (r : Option Storage) (st env : List Value) (w : W) → (function_at image g).parameters ≡ p → (function_at image g).result ≡ r
          → bind (calls g (reverse (take (function_at image g).parameters st)) (ops.enter (pinned pins env) w)) (λ v w1. Go (onward 0 (result_pushed (function_at image g).result v (drop (function_at image g).parameters st)) env) (ops.leave w w1))
          ≡ decoded n (bind (calls' g (reverse (take p st)) (ops.enter (pinned pins env) w)) (λ v w1. Go (onward 0 (result_pushed r v (drop p st)) env) (ops.leave w w1)))
      called g pins p r st env w ep er =
          ap (λ q. bind (calls g (reverse (take q st)) (ops.enter (pinned pins env) w)) (λ v w1. Go (onward 0 (result_pushed (function_at image g).result v (drop q st)) env) (ops.leave w w1))) ep
          ∙ ap (λ q. bind (calls g (reverse (take p st)) (ops.enter (pinned pins env) w)) (λ v w1. Go (onward 0 (result_pushed q v (drop p st)) env) (ops.leave w w1))) er
          ∙ ap (λ m. bind m (λ v w1. Go (onward 0 (result_pushed r v (drop p st)) env) (ops.leave w w1))) (same g (reverse (take p st)) (ops.enter (pinned pins env) w))
          ∙ over (calls' g (reverse (take p st)) (ops.enter (pinned pins env) w)) _ _ (λ v w1. refl)

      effect_same : (label at : ℕ) (j : Instruction) (m : Bool) → Tells label j m → (st env : List Value) (w : W)
          → effect does image f (line_in n label) at (with_mark m j) calls st env w ≡ decoded n (effect does' image' f' label at j calls' st env w)
      effect_same label at (instruction.Constant kind value) m t st env w = refl
      effect_same label at (instruction.Global global) m t st env w = refl
      effect_same label at (instruction.Get x) m t st env w = refl
      effect_same label at (instruction.Set x) m t st env w = ap (λ ls. Go (onward 0 (drop 1 st) (with_local env x (kept (get_or ls x storage.Region) (value_at st 0)))) w) pair.locals
      effect_same label at (instruction.Load path) m t st env w = through (ops.load (line_in n label) (target_on (path_at view path) st) w) _ _ (λ v w1. refl)
      effect_same label at (instruction.Typed typed.Null type) m t st env w = refl
      effect_same label at (instruction.Typed typed.Same type) m t st env w = refl
      effect_same label at (instruction.Typed typed.IsNull type) m t st env w = refl
      effect_same label at (instruction.Typed typed.RegionOf type) m t st env w = named label (value_at st 0) w _ _ (λ v w1. refl)
      effect_same label at (instruction.Typed typed.Allocate type) m t st env w = through (ops.allocate (line_in n label) _ _ _ w) _ _ (λ v w1. refl)
      effect_same label at (instruction.Typed typed.AllocateArray type) m t st env w = through (ops.allocate (line_in n label) _ _ _ w) _ _ (λ v w1. refl)
      effect_same label at (instruction.Arithmetic row kind) m t st env w = worked_out label (outcome (operation row) kind st) w _ _ (λ v w1. refl)
      effect_same label at (instruction.Move type kind direction) m t st env w = through (ops.step (line_in n label) _ _ w) _ _ (λ v w1. refl)
      effect_same label at (instruction.Store path proved) m t st env w =
          let p = path_at view path in
          let v = kept (storage_of view (cell_at view p)) (value_at st 0) in
          ap (λ b. bind (put b (line_in n label) (target_on p (drop 1 st)) v w) (λ _. Go (onward 0 (drop (suc (width p)) st) env))) (t ∙ ap (mark_at (n.label label)) (sym (offset_of p p.shift (reverse (take (width p) (drop 1 st))))))
          ∙ through (put (mark_at (n.label label) (target_on p (drop 1 st)).offset) (line_in n label) (target_on p (drop 1 st)) v w) _ _ (λ u w1. refl)
      effect_same label at (instruction.Simple simple.NullRegion) m t st env w = refl
      effect_same label at (instruction.Simple simple.SameRegion) m t st env w = refl
      effect_same label at (instruction.Simple simple.IsZero) m t st env w = refl
      effect_same label at (instruction.Simple simple.IsNullRegion) m t st env w = refl
      effect_same label at (instruction.Simple simple.ToInt) m t st env w = refl
      effect_same label at (instruction.Simple simple.ToUnsigned) m t st env w = refl
      effect_same label at (instruction.Simple simple.ToChar) m t st env w = refl
      effect_same label at (instruction.Simple simple.NewRegion) m t st env w = through (ops.new_region (line_in n label) w) _ _ (λ v w1. refl)
      effect_same label at (instruction.Simple simple.NewSubregion) m t st env w = through (ops.new_subregion (line_in n label) _ w) _ _ (λ v w1. refl)
      effect_same label at (instruction.Simple simple.Return) m t st env w = ap (λ r. Go (done (result_of r st)) w) pair.result
      effect_same label at (instruction.Simple simple.PutChar) m t st env w = twice (ops.put_byte _ w) _ _ _ (λ v w1. refl)
      effect_same label at (instruction.Simple simple.GetChar) m t st env w = twice (ops.get_byte w) _ _ _ (λ v w1. refl)
      effect_same label at (instruction.Simple simple.Pop) m t st env w = refl
      effect_same label at (instruction.Delete pins) m t st env w = through (ops.delete (line_in n label) _ _ w) _ _ (λ v w1. refl)
      effect_same label at (instruction.Call g pins) m t st env w = called g pins (function_at image' g).parameters (function_at image' g).result st env w (paired g).parameters (paired g).result
      effect_same label at (instruction.Jump jump.Always to) m t st env w = refl
      effect_same label at (instruction.Jump jump.IfZero to) m t st env w = chosen (is_true (value_at st 0)) (onward 0 (drop 1 st) env) (onward (to - suc at) (drop 1 st) env) w
      effect_same label at (instruction.Jump jump.Back to) m t st env w = through (ops.take_turn w) _ _ (λ v w1. refl)

      resumed : (next next' again again' : Onward W) → SameOn next next' → SameOn again again' → (x : Next) (w : W) → resume does image next again x w ≡ decoded n (resume does' image' next' again' x w)
      resumed next next' again again' hn ha (onward k st env) w = hn k st env w
      resumed next next' again again' hn ha (backward to st env) w = ha to st env w
      resumed next next' again again' hn ha (done v) w = refl

      -- the labels of the instructions from a place on
      abbrev Lined : (labels : List ℕ) → (at : ℕ) → Type 0
      Lined labels at = (k : ℕ) → get_or f'.lines (at + k) 0 ≡ get_or labels k 0

      abbrev LinedA : (labels : List ℕ) → (at : ℕ) → Type 0
      LinedA labels at = (k : ℕ) → get_or f.lines (at + k) 0 ≡ get_or (map (line_in n) labels) k 0

      module _ (again again' : Onward W) (on : SameOn again again') where
        walk_same : (labels : List ℕ) (code code' : List Instruction) (at : ℕ) → Matched labels code code' → LinedA labels at → Lined labels at → SameOn (walk does image f code at calls again) (walk does' image' f' code' at calls' again')
        walk_same [] [] [] at matched lined lined' k st env w = refl
        walk_same (l ∷ ls) (i ∷ is) (j ∷ js) at matched lined lined' (suc k) st env w = walk_same ls is js (suc at) matched.1 (λ x. let e : suc at + x ≡ at + suc x = omega arith in ap (λ y. get_or f.lines y 0) e ∙ lined (suc x)) (λ x. let e : suc at + x ≡ at + suc x = omega arith in ap (λ y. get_or f'.lines y 0) e ∙ lined' (suc x)) k st env w
        walk_same (l ∷ ls) (i ∷ is) (j ∷ js) at matched lined lined' zero st env w =
            let e : at ≡ at + 0 = omega arith in
            let here : line_at f at ≡ line_in n l = ap (λ y. get_or f.lines y 0) e ∙ lined 0 in
            let here' : line_at f' at ≡ l = ap (λ y. get_or f'.lines y 0) e ∙ lined' 0 in
            let next = walk does image f is (suc at) calls again in
            let next' = walk does' image' f' js (suc at) calls' again' in
            ap (λ line. bind (effect does image f line at i calls st env w) (resume does image next again)) here
            ∙ ap (λ x. bind (effect does image f (line_in n l) at x calls st env w) (resume does image next again)) matched.0.1.0
            ∙ ap (λ m. bind m (resume does image next again)) (effect_same l at j matched.0.0 matched.0.1.1 st env w)
            ∙ over (effect does' image' f' l at j calls' st env w) _ _ (resumed next next' again again'
            (walk_same ls is js (suc at) matched.1 (λ x. let e : suc at + x ≡ at + suc x = omega arith in ap (λ y. get_or f.lines y 0) e ∙ lined (suc x)) (λ x. let e : suc at + x ≡ at + suc x = omega arith in ap (λ y. get_or f'.lines y 0) e ∙ lined' (suc x))) on)
            ∙ ap (λ label. decoded n (bind (effect does' image' f' label at j calls' st env w) (resume does' image' next' again'))) (sym here')
        walk_same [] [] (j ∷ js) at matched lined lined' k st env w = absurd matched
        walk_same [] (i ∷ is) js at matched lined lined' k st env w = absurd matched
        walk_same (l ∷ ls) [] js at matched lined lined' k st env w = absurd matched
        walk_same (l ∷ ls) (i ∷ is) [] at matched lined lined' k st env w = absurd matched

      rounds_same : (fuel : ℕ) → SameOn (rounds does image fuel f calls) (rounds does' image' fuel f' calls')
      rounds_same zero k st env w = refl
      rounds_same (suc fuel) k st env w =
          walk_same (rounds does image fuel f calls) (rounds does' image' fuel f' calls') (rounds_same fuel) f'.lines f.code f'.code 0 pair.code
          (λ x. let e : 0 + x ≡ x = omega arith in ap (λ y. get_or f.lines y 0) e ∙ ap (λ (ls : List ℕ). get_or ls x 0) pair.lines) (λ x. let e : 0 + x ≡ x = omega arith in ap (λ y. get_or f'.lines y 0) e) k st env w

    module _ (paired : AllPaired) where
      calls_same : (fuel : ℕ) → SameCalls (calls_within does image fuel) (calls_within does' image' fuel)
      calls_same zero g vs w = refl
      calls_same (suc fuel) g vs w =
          through (ops.take_turn w) _ _ (λ u w1.
          ap (λ (ls : List Storage). rounds does image (suc (ops.turns_left w1)) (function_at image g) (calls_within does image fuel) 0 [] (first_locals (record (function_at image g) { locals = ls }) vs) w1) (paired g).locals
          ∙ rounds_same paired (calls_within does image fuel) (calls_within does' image' fuel) (calls_same fuel) (function_at image g) (function_at image' g) (paired g) (suc (ops.turns_left w1)) 0 [] (first_locals (function_at image' g) vs) w1)

      pub main_same : (w : W) → run_main does image w ≡ decoded n (run_main does' image' w)
      main_same w = calls_same (suc (ops.turns_left w)) view.parts.main [] w
