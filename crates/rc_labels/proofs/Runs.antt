-- Labelled code in the world of labels does what code does with marked stores.
use Rattle.std.proofs.Common.{◌≡◌, ℕ, zero, suc, ◌+◌, ◌-◌, pos, Bool, false, ◌||◌, ◌&&◌, List, [], ◌∷◌, get_or, Option, Some, None, refl, ap, ◌∙◌, arith}
use Rattle.std.specs.Prelude.{is_some, slice_get}
use Rattle.std.specs.Option.{option_map}
use Rattle.std.proofs.Math.Path.{fun_ext}
use Rattle.rc_core.specs.declared.stmt.Change.{Change}
use Rattle.rc_core.specs.declared.stmt.Change.TheVariants.{Compute, Step as Stepping}
use Rattle.rc_core.specs.declared.ty.Signedness.{Signedness}
use Rattle.rc_core.specs.Arithmetic.{type_of, calculate, calculate_one}
use Rattle.rc_core.specs.Types.{Ty}
use Rattle.rc_core.specs.Layout.{Layout}
use Rattle.rc_core.specs.Heap.{Value}
use Rattle.rc_core.specs.Live.{Ways, then_live, round, at_end}
use Rattle.rc_core.specs.Runs.{Run, Go, bind, branching, computed, Target, Calls, Ops}
use Rattle.rc_core.specs.Evaluation.{number_in, give_number, toward}
use Rattle.rc_core.specs.Numbers.{byte_of}
use Rattle.rc_rlang.specs.RegionCode as From
use Rattle.rc_rlang.specs.RegionCode.{width, Access, Operation, Step, set, fork, Steps, none, more, Act, drop, perform, assign, store, update, move, delete, leave, Test, Code, simple, clear, block, branch, loop, repeat, break, continue, Codes, done, then, Routine, Rlang}
use Rattle.rc_rlang.specs.RegionPoints.{steps_points, branch_points, code_points}
use Rattle.rc_rlang.specs.RegionLive.{before_steps, before_act, before_code, before_codes, loop_head, repeat_tail}
use Rattle.rc_rlang.specs.RegionRuns.{Temporaries, set_kind, change_kind, with_cell, temporary, temporaries_from, with_temporary, right_number, convert_value, blank_temporaries, kept, kept_cell, kept_all, holds, target_at, target_shifted, sized, test_value, Way, Next, Broke, Continued, Returned, behind, behind_body, held, operation_value, step_run, steps_run, cells_moved, new_value, act_run, rounds, rounds_first, code_run, codes_run, result_of, run_routine, deletes, calls_within, run_main}
use Rattle.rc_along.specs.MarkedRuns.{before_store, Put, cells_marked, act_marked, code_marked, codes_marked, routine_marked, calls_marked, main_marked}
use Rattle.rc_labels.specs.Labels.{Label, mark_at, Numbering, plain, line_in}
use Rattle.rc_labels.specs.Labelled.{copy_marks, step_labelled, steps_labelled, test_labelled, act_labelled, code_labelled, codes_labelled, routine_labelled, labelled}
use Rattle.rc_labels.specs.LabelledWorlds.{decoded, encoded, labelled_ops}
use Rattle.rc_labels.proofs.Lives.{steps_lives, test_there, act_lives, code_lives, codes_lives, loop_lives, repeat_lives, again_lives_there, there, deletes_same}
use Rattle.rc_labels.proofs.Decoded.{line_back, read_back, Reads, reads_bind, reads_branch, reads_computed, reads_named, reads_at, reads_put}

offset_at : (a : Access) (t : Temporaries) (h : ℕ) → (target_at a t h).offset ≡ a.offset
offset_at a t h = by a.shift
  where
    by : (shift : Option Signedness) → (target_shifted shift a t h).offset ≡ a.offset
    by None = refl
    by (Some s) = refl

-- a label of one cell
first_mark : (line base offset : ℕ) (mark : Bool) → offset ≡ base → mark_at (record { line = line; base = base; marks = mark ∷ [] }) offset ≡ mark
first_mark line base offset mark e = ap (λ k. get_or (mark ∷ []) k false) (let z : offset - base ≡ 0 = omega (arith, e) in z)

module _ (n : Numbering) {W : Type 0} (ops : Ops W) (put : Put W) where
  abbrev L : Ops W
  L = labelled_ops n ops put

  module _ (deleting : ℕ → Bool) (types : List Ty) (calls' calls : Calls W) (same : (f : ℕ) (vs : List Value) (w : W) → Reads n (calls' f vs w) (calls f vs w)) where
    operation_reads : (label line : ℕ) → line_in n label ≡ line → (op : Operation) (live : ℕ → Bool) (env : List Value) (t : Temporaries) (h : ℕ) (w : W) →
        Reads n (operation_value L deleting types label op calls' live env t h w) (operation_value ops deleting types line op calls live env t h w)
    operation_reads label line told (From.constant s k) live env t h w = refl
    operation_reads label line told From.null live env t h w = refl
    operation_reads label line told (From.static object) live env t h w = refl
    operation_reads label line told (From.copy x) live env t h w = refl
    operation_reads label line told (From.load a) live env t h w = reads_at n label line told (λ l. ops.load l (target_at a t h)) w
    operation_reads label line told (From.step direction pointed ty) live env t h w = reads_at n label line told (λ l. ops.step l (temporary pointed t h) (toward direction (number_in (temporary ty t (suc h))))) w
    operation_reads label line told (From.step_from ty pointed) live env t h w = reads_at n label line told (λ l. ops.step l (temporary pointed t (suc h)) (number_in (temporary ty t h))) w
    operation_reads label line told (From.unary operator s) live env t h w =
        let r = calculate_one operator s (number_in (t.numbers h)) in
        reads_bind n (computed label r w) (computed line r w) give_number give_number (reads_computed n label line told r w) (λ x w1. refl)
    operation_reads label line told (From.binary operator s ty) live env t h w =
        let r = calculate operator s (number_in (t.numbers h)) (right_number operator ty (temporary ty t (suc h))) in
        reads_bind n (computed label r w) (computed line r w) give_number give_number (reads_computed n label line told r w) (λ x w1. refl)
    operation_reads label line told (From.convert from to) live env t h w = refl
    operation_reads label line told (From.not_zero ty) live env t h w = refl
    operation_reads label line told (From.truth ty) live env t h w = refl
    operation_reads label line told (From.is_null wanted ty) live env t h w = refl
    operation_reads label line told (From.same wanted ty) live env t h w = refl
    operation_reads label line told (From.call f tys) live env t h w =
        let vs = kept_all tys (temporaries_from tys t h) in
        let entered = ops.enter (held L deleting types live env) in
        reads_branch n (deleting f) (λ w1. bind (calls' f vs (entered w1)) (λ v w2. Go v (ops.leave w1 w2))) (calls' f vs) (λ w1. bind (calls f vs (entered w1)) (λ v w2. Go v (ops.leave w1 w2))) (calls f vs) w
        (reads_bind n (calls' f vs (entered w)) (calls f vs (entered w)) (λ v w2. Go v (ops.leave w w2)) (λ v w2. Go v (ops.leave w w2)) (same f vs (entered w)) (λ v w2. refl))
        (same f vs w)
    operation_reads label line told From.new_region live env t h w = reads_at n label line told ops.new_region w
    operation_reads label line told From.new_subregion live env t h w = reads_at n label line told (λ l. ops.new_subregion l (t.regions h)) w
    operation_reads label line told (From.region_of ty) live env t h w = reads_named n label line told (temporary ty t h) w
    operation_reads label line told (From.allocate ty layout) live env t h w = reads_at n label line told (λ l. ops.allocate l (t.regions h) (pos 1) layout) w
    operation_reads label line told (From.allocate_array ty layout) live env t h w = reads_at n label line told (λ l. ops.allocate l (t.regions h) (number_in (t.numbers (suc h))) layout) w
    operation_reads label line told From.putchar live env t h w =
        let b = byte_of (number_in (t.numbers h)) in
        reads_bind n (encoded n (ops.put_byte b w)) (ops.put_byte b w) (λ _ w1. Go _ w1) (λ _ w1. Go _ w1) (read_back n (ops.put_byte b w)) (λ x w1. refl)
    operation_reads label line told From.getchar live env t h w = reads_bind n (encoded n (ops.get_byte w)) (ops.get_byte w) give_number give_number (read_back n (ops.get_byte w)) (λ x w1. refl)

    mutual
      step_reads : (s : Step) (live : ℕ → Bool) (env : List Value) (t : Temporaries) (w : W) → Reads n (step_run L deleting types (step_labelled n s) calls' live env t w) (step_run ops deleting types s calls live env t w)
      step_reads (set line h ty op) live env t w =
          reads_bind n (operation_value L deleting types (plain n line) op calls' live env t h w) (operation_value ops deleting types line op calls live env t h w) (λ v w1. Go (with_temporary ty t h v) w1) (λ v w1. Go (with_temporary ty t h v) w1)
          (operation_reads (plain n line) line (line_back n line) op live env t h w) (λ v w1. refl)
      step_reads (fork line h ty to a b) live env t w =
          reads_branch n (holds ty (temporary ty t h)) (steps_run L deleting types (steps_labelled n a) calls' live env t) (steps_run L deleting types (steps_labelled n b) calls' live env t) (steps_run ops deleting types a calls live env t) (steps_run ops deleting types b calls live env t) w
          (steps_read a live env t w) (steps_read b live env t w)

      steps_read : (x : Steps) (live : ℕ → Bool) (env : List Value) (t : Temporaries) (w : W) → Reads n (steps_run L deleting types (steps_labelled n x) calls' live env t w) (steps_run ops deleting types x calls live env t w)
      steps_read none live env t w = refl
      steps_read (more s rest) live env t w =
          ap (λ l. decoded n (bind (step_run L deleting types (step_labelled n s) calls' l env t w) (steps_run L deleting types (steps_labelled n rest) calls' live env))) (steps_lives n rest live)
          ∙ reads_bind n (step_run L deleting types (step_labelled n s) calls' (before_steps rest live) env t w) (step_run ops deleting types s calls (before_steps rest live) env t w) (steps_run L deleting types (steps_labelled n rest) calls' live env) (steps_run ops deleting types rest calls live env)
          (step_reads s (before_steps rest live) env t w) (λ t1 w1. steps_read rest live env t1 w1)

    -- with what is live behind the steps
    steps_read_at : (x : Steps) (live' live : ℕ → Bool) → live' ≡ live → (env : List Value) (t : Temporaries) (w : W) → Reads n (steps_run L deleting types (steps_labelled n x) calls' live' env t w) (steps_run ops deleting types x calls live env t w)
    steps_read_at x live' live e env t w = ap (λ l. decoded n (steps_run L deleting types (steps_labelled n x) calls' l env t w)) e ∙ steps_read x live env t w

    new_value_reads : (label line : ℕ) → line_in n label ≡ line → (change : Change) (ty : Ty) (old v : Value) (w : W) → Reads n (new_value L deleting types label change ty old v w) (new_value ops deleting types line change ty old v w)
    new_value_reads label line told (Compute from operator s) ty old v w =
        let r = calculate operator s (number_in (convert_value from (type_of s) old)) (right_number operator ty v) in
        reads_bind n (computed label r w) (computed line r w) (λ k w1. Go _ w1) (λ k w1. Go _ w1) (reads_computed n label line told r w) (λ x w1. refl)
    new_value_reads label line told (Stepping direction) ty old v w = reads_at n label line told (λ l. ops.step l old (toward direction (number_in v))) w

    module _ (marked : (point : ℕ) → Bool) where
      cells_read : (l : Label) (h : ℕ) (kinds : Layout) (k : ℕ) (from to : Target) (here : ℕ) (t : Temporaries) (w : W) → to.offset ≡ l.base + k → ((i : ℕ) → get_or l.marks (k + i) false ≡ get_or (copy_marks kinds marked here) i false) →
          Reads n (cells_moved L deleting types (n.number l) h kinds from to t w) (cells_marked ops put deleting types marked l.line h kinds from to here t w)
      cells_read l h [] k from to here t w at marks = refl
      cells_read l h (kind ∷ kinds) k from to here t w at marks =
          let label = n.number l in
          let told = ap (λ (is : Label). is.line) (n.read l) in
          let from1 : Target = record from { offset = suc from.offset } in
          let to1 : Target = record to { offset = suc to.offset } in
          reads_bind n (L.load label from w) (ops.load l.line from w) (λ v w1. bind (L.store label to (kept_cell kind v) w1) (λ _ w2. cells_moved L deleting types label h kinds from1 to1 (with_cell kind t h v) w2))
          (λ v w1. bind (put (marked (suc here)) l.line to (kept_cell kind v) w1) (λ _ w2. cells_marked ops put deleting types marked l.line h kinds from1 to1 (suc (suc here)) (with_cell kind t h v) w2))
          (reads_at n label l.line told (λ line. ops.load line from) w) (λ v w1.
          reads_bind n (L.store label to (kept_cell kind v) w1) (put (marked (suc here)) l.line to (kept_cell kind v) w1) (λ _ w2. cells_moved L deleting types label h kinds from1 to1 (with_cell kind t h v) w2)
          (λ _ w2. cells_marked ops put deleting types marked l.line h kinds from1 to1 (suc (suc here)) (with_cell kind t h v) w2)
          (reads_put n ops put l (marked (suc here)) to (kept_cell kind v) w1 (ap (λ i. get_or l.marks i false) (let e : to.offset - l.base ≡ k + 0 = omega (arith, at) in e) ∙ marks 0)) (λ u w2.
          cells_read l h kinds (suc k) from1 to1 (suc (suc here)) (with_cell kind t h v) w2 (omega (arith, at)) (λ i. ap (λ j. get_or l.marks j false) (let e : suc k + i ≡ k + suc i = omega arith in e) ∙ marks (suc i))))

      act_reads : (act : Act) (here : ℕ) (live : ℕ → Bool) (env : List Value) (t : Temporaries) (w : W) → Reads n (act_run L deleting types (act_labelled n marked act here) calls' live env t w) (act_marked ops put deleting types marked act here calls live env t w)
      act_reads drop here live env t w = refl
      act_reads (perform line f tys) here live env t w =
          reads_bind n (operation_value L deleting types (plain n line) (From.call f tys) calls' live env t 0 w) (operation_value ops deleting types line (From.call f tys) calls live env t 0 w) (λ _ w1. Go (Next env t) w1) (λ _ w1. Go (Next env t) w1)
          (operation_reads (plain n line) line (line_back n line) (From.call f tys) live env t 0 w) (λ x w1. refl)
      act_reads (assign line x ty) here live env t w = refl
      act_reads (store line a) here live env t w =
          let l : Label = record { line = line; base = a.offset; marks = marked here ∷ [] } in
          let to = target_at a t 0 in
          let v = kept a.cell (temporary a.cell t (width a)) in
          reads_bind n (L.store (n.number l) to v w) (put (marked here) line to v w) (λ _ w1. Go (Next env t) w1) (λ _ w1. Go (Next env t) w1)
          (reads_put n ops put l (marked here) to v w (first_mark line a.offset to.offset (marked here) (offset_at a t 0))) (λ x w1. refl)
      act_reads (update line a change ty) here live env t w =
          let mark = marked (here + before_store change) in
          let l : Label = record { line = line; base = a.offset; marks = mark ∷ [] } in
          let label = n.number l in
          let told = ap (λ (is : Label). is.line) (n.read l) in
          let to = target_at a t 0 in
          let left = λ (new : Value). set_kind (change_kind change) t (suc (width a)) new in
          let finish = λ (old : Value) (w1 : W). bind (new_value ops deleting types line change ty old (temporary ty t (width a)) w1) (λ new w2. bind (put mark line to (kept a.cell new) w2) (λ _ w3. Go (Next env (left new)) w3)) in
          let finish' = λ (old : Value) (w1 : W). bind (new_value L deleting types label change ty old (temporary ty t (width a)) w1) (λ new w2. bind (L.store label to (kept a.cell new) w2) (λ _ w3. Go (Next env (left new)) w3)) in
          reads_bind n (L.load label to w) (ops.load line to w) finish' finish (reads_at n label line told (λ line. ops.load line to) w) (λ old w1.
          reads_bind n (new_value L deleting types label change ty old (temporary ty t (width a)) w1) (new_value ops deleting types line change ty old (temporary ty t (width a)) w1) (λ new w2. bind (L.store label to (kept a.cell new) w2) (λ _ w3. Go (Next env (left new)) w3)) (λ new w2. bind (put mark line to (kept a.cell new) w2) (λ _ w3. Go (Next env (left new)) w3))
          (new_value_reads label line told change ty old (temporary ty t (width a)) w1) (λ new w2.
          reads_bind n (L.store label to (kept a.cell new) w2) (put mark line to (kept a.cell new) w2) (λ _ w3. Go (Next env (left new)) w3) (λ _ w3. Go (Next env (left new)) w3) (reads_put n ops put l mark to (kept a.cell new) w2 (first_mark line a.offset to.offset mark (offset_at a t 0))) (λ x w3. refl)))
      act_reads (move line cells left right) here live env t w =
          let l : Label = record { line = line; base = left.offset; marks = copy_marks cells marked here } in
          let from = target_at right t (width left) in
          let to = target_at left t 0 in
          reads_bind n (cells_moved L deleting types (n.number l) (width left + width right) cells from to t w) (cells_marked ops put deleting types marked line (width left + width right) cells from to here t w) (λ t1 w1. Go (Next env t1) w1) (λ t1 w1. Go (Next env t1) w1)
          (cells_read l (width left + width right) cells 0 from to here t w (offset_at left t 0 ∙ let e : left.offset ≡ left.offset + 0 = omega arith in e) (λ i. ap (λ j. get_or l.marks j false) (let e : 0 + i ≡ i = omega arith in e))) (λ x w1. refl)
      act_reads (delete line) here live env t w =
          let kept_values = held L deleting types live env in
          reads_bind n (L.delete (plain n line) kept_values (t.regions 0) w) (ops.delete line kept_values (t.regions 0) w) (λ _ w1. Go (Next env t) w1) (λ _ w1. Go (Next env t) w1) (reads_at n (plain n line) line (line_back n line) (λ l. ops.delete l kept_values (t.regions 0)) w) (λ x w1. refl)
      act_reads (leave line result) here live env t w = refl

      -- what is done in rounds
      abbrev Goes : Type 0
      Goes = List Value → Temporaries → W → Run W Way

      abbrev Heads : Type 0
      Heads = List Value → Temporaries → W → Run W Temporaries

      abbrev BodiesRead : (body' body : Goes → Goes) → Type 0
      BodiesRead body' body = (again' again : Goes) → ((env : List Value) (t : Temporaries) (w : W) → Reads n (again' env t w) (again env t w)) → (env : List Value) (t : Temporaries) (w : W) → Reads n (body' again' env t w) (body again env t w)

      turn_reads : (f' f : Unit {0} → W → Run W Way) (w : W) → ((u : Unit {0}) (w1 : W) → Reads n (f' u w1) (f u w1)) → Reads n (bind (L.take_turn w) f') (bind (ops.take_turn w) f)
      turn_reads f' f w k = reads_bind n (L.take_turn w) (ops.take_turn w) f' f (read_back n (ops.take_turn w)) k

      test_same : (test : Option Test) (t : Temporaries) → test_value (option_map (test_labelled n) test) t ≡ test_value test t
      test_same None t = refl
      test_same (Some test) t = refl

      -- behind a test
      tested_reads : (test : Option Test) (t : Temporaries) (a' c' a c : W → Run W Way) (w : W) → Reads n (a' w) (a w) → Reads n (c' w) (c w) → Reads n (branching (test_value (option_map (test_labelled n) test) t) a' c' w) (branching (test_value test t) a c w)
      tested_reads test t a' c' a c w of_a of_c = ap (λ b. decoded n (branching b a' c' w)) (test_same test t) ∙ reads_branch n (test_value test t) a' c' a c w of_a of_c

      rounds_read : (m : ℕ) (head' head : Heads) (test : Option Test) (body' body : Goes → Goes) → ((env : List Value) (t : Temporaries) (w : W) → Reads n (head' env t w) (head env t w)) → BodiesRead body' body → (env : List Value) (t : Temporaries) (w : W) →
          Reads n (rounds L deleting types m head' (option_map (test_labelled n) test) body' env t w) (rounds ops deleting types m head test body env t w)
      rounds_read zero head' head test body' body heads bodies env t w = refl
      rounds_read (suc m) head' head test body' body heads bodies env t w =
          let again' : Goes = λ env2 t2 w2. bind (L.take_turn w2) (λ _ w3. rounds L deleting types m head' (option_map (test_labelled n) test) body' env2 t2 w3) in
          let again : Goes = λ env2 t2 w2. bind (ops.take_turn w2) (λ _ w3. rounds ops deleting types m head test body env2 t2 w3) in
          reads_bind n (head' env t w) (head env t w) (λ t1. branching (test_value (option_map (test_labelled n) test) t1) (body' again' env t1) (Go (Next env t1))) (λ t1. branching (test_value test t1) (body again env t1) (Go (Next env t1))) (heads env t w) (λ t1 w1.
          tested_reads test t1 (body' again' env t1) (Go (Next env t1)) (body again env t1) (Go (Next env t1)) w1
          (bodies again' again (λ env2 t2 w2. turn_reads (λ _ w3. rounds L deleting types m head' (option_map (test_labelled n) test) body' env2 t2 w3) (λ _ w3. rounds ops deleting types m head test body env2 t2 w3) w2
          (λ u w3. rounds_read m head' head test body' body heads bodies env2 t2 w3)) env t1 w1) refl)

      rounds_first_read : (m : ℕ) (tail' tail : Heads) (test : Option Test) (body' body : Goes → Goes) → ((env : List Value) (t : Temporaries) (w : W) → Reads n (tail' env t w) (tail env t w)) → BodiesRead body' body → (env : List Value) (t : Temporaries) (w : W) →
          Reads n (rounds_first L deleting types m tail' (option_map (test_labelled n) test) body' env t w) (rounds_first ops deleting types m tail test body env t w)
      rounds_first_read zero tail' tail test body' body tails bodies env t w = refl
      rounds_first_read (suc m) tail' tail test body' body tails bodies env t w =
          let round' : Goes = λ env1 t2 w2. bind (L.take_turn w2) (λ _ w3. rounds_first L deleting types m tail' (option_map (test_labelled n) test) body' env1 t2 w3) in
          let next : Goes = λ env1 t2 w2. bind (ops.take_turn w2) (λ _ w3. rounds_first ops deleting types m tail test body env1 t2 w3) in
          bodies (λ env1 t1 w1. bind (tail' env1 t1 w1) (λ t2. branching (test_value (option_map (test_labelled n) test) t2) (round' env1 t2) (Go (Next env1 t2))))
          (λ env1 t1 w1. bind (tail env1 t1 w1) (λ t2. branching (test_value test t2) (next env1 t2) (Go (Next env1 t2)))) (λ env1 t1 w1.
          reads_bind n (tail' env1 t1 w1) (tail env1 t1 w1) (λ t2. branching (test_value (option_map (test_labelled n) test) t2) (round' env1 t2) (Go (Next env1 t2))) (λ t2. branching (test_value test t2) (next env1 t2) (Go (Next env1 t2))) (tails env1 t1 w1) (λ t2 w2.
          tested_reads test t2 (round' env1 t2) (Go (Next env1 t2)) (next env1 t2) (Go (Next env1 t2)) w2
          (turn_reads (λ _ w3. rounds_first L deleting types m tail' (option_map (test_labelled n) test) body' env1 t2 w3) (λ _ w3. rounds_first ops deleting types m tail test body env1 t2 w3) w2
          (λ u w3. rounds_first_read m tail' tail test body' body tails bodies env1 t2 w3)) refl)) env t w

      behind_reads : (go' go : Goes) → ((env : List Value) (t : Temporaries) (w : W) → Reads n (go' env t w) (go env t w)) → (way : Way) (w : W) → Reads n (behind go' way w) (behind go way w)
      behind_reads go' go same (Next env t) w = same env t w
      behind_reads go' go same (Broke env t) w = refl
      behind_reads go' go same (Continued env t) w = refl
      behind_reads go' go same (Returned v) w = refl

      behind_body_reads : (go' go : Goes) → ((env : List Value) (t : Temporaries) (w : W) → Reads n (go' env t w) (go env t w)) → (way : Way) (w : W) → Reads n (behind_body go' way w) (behind_body go way w)
      behind_body_reads go' go same (Next env t) w = same env t w
      behind_body_reads go' go same (Broke env t) w = refl
      behind_body_reads go' go same (Continued env t) w = same env t w
      behind_body_reads go' go same (Returned v) w = refl

      abbrev Labelled : Code → (here : ℕ) → Code
      Labelled c here = code_labelled n marked c here

      abbrev run' : Code → Ways → Goes
      run' c k env t w = code_run L deleting types c calls' k env t w

      abbrev CodeReads : (c' c : Code) (here : ℕ) → Type 0
      CodeReads c' c here = (k : Ways) (env : List Value) (t : Temporaries) (w : W) → Reads n (code_run L deleting types c' calls' k env t w) (code_marked ops put deleting types marked c here calls k env t w)

      -- with what is live at the ways on
      at_ways : (c' c : Code) (here : ℕ) → CodeReads c' c here → (k' k : Ways) → k' ≡ k → (env : List Value) (t : Temporaries) (w : W) → Reads n (code_run L deleting types c' calls' k' env t w) (code_marked ops put deleting types marked c here calls k env t w)
      at_ways c' c here reads k' k e env t w = ap (λ ways. decoded n (code_run L deleting types c' calls' ways env t w)) e ∙ reads k env t w

      loop_reads : (line : ℕ) (steps : Steps) (test : Option Test) (third a : Code) (at_third at_a : ℕ) → CodeReads (Labelled third at_third) third at_third → CodeReads (Labelled a at_a) a at_a → (k : Ways) (env : List Value) (t : Temporaries) (w : W) →
          Reads n (code_run L deleting types (loop line (steps_labelled n steps) (option_map (test_labelled n) test) (Labelled third at_third) (Labelled a at_a)) calls' k env t w)
          (rounds ops deleting types (suc (ops.turns_left w))
          (steps_run ops deleting types steps calls (λ y. (is_some test && k.next y) || before_code a (round (before_code third (then_live (loop_head steps test third a k) k)) k) y)) test
          (λ again env1 t1 w1. bind (code_marked ops put deleting types marked a at_a calls (round (before_code third (then_live (loop_head steps test third a k) k)) k) env1 t1 w1)
          (behind_body (λ env2 t2 w2. bind (code_marked ops put deleting types marked third at_third calls (then_live (loop_head steps test third a k) k) env2 t2 w2) (behind again))))
          env t w)
      loop_reads line steps test third a at_third at_a of_third of_a k env t w =
          let steps' = steps_labelled n steps in
          let test' = option_map (test_labelled n) test in
          let third' = Labelled third at_third in
          let a' = Labelled a at_a in
          let behind_third' = then_live (loop_head steps' test' third' a' k) k in
          let behind_third = then_live (loop_head steps test third a k) k in
          let e_third : behind_third' ≡ behind_third = ap (λ l. then_live l k) (loop_lives n marked steps test third a at_third at_a k) in
          let behind_a' = round (before_code third' behind_third') k in
          let behind_a = round (before_code third behind_third) k in
          let e_a : behind_a' ≡ behind_a = ap (λ l. round (before_code third' l) k) e_third ∙ ap (λ l. round l k) (code_lives n marked third at_third behind_third) in
          let live' = λ (y : ℕ). (is_some test' && k.next y) || before_code a' behind_a' y in
          let live = λ (y : ℕ). (is_some test && k.next y) || before_code a behind_a y in
          let e_live : live' ≡ live = fun_ext (λ y. ap (λ is. (is && k.next y) || before_code a' behind_a' y) (test_there n test) ∙ ap (λ ways. (is_some test && k.next y) || before_code a' ways y) e_a ∙ ap (λ l. (is_some test && k.next y) || l y) (code_lives n marked a at_a behind_a)) in
          let body' = λ (again : Goes) (env1 : List Value) (t1 : Temporaries) (w1 : W). bind (run' a' behind_a' env1 t1 w1) (behind_body (λ env2 t2 w2. bind (run' third' behind_third' env2 t2 w2) (behind again))) in
          let body = λ (again : Goes) (env1 : List Value) (t1 : Temporaries) (w1 : W). bind (code_marked ops put deleting types marked a at_a calls behind_a env1 t1 w1) (behind_body (λ env2 t2 w2. bind (code_marked ops put deleting types marked third at_third calls behind_third env2 t2 w2) (behind again))) in
          rounds_read (suc (ops.turns_left w)) (steps_run L deleting types steps' calls' live') (steps_run ops deleting types steps calls live) test body' body (λ env1 t1 w1. steps_read_at steps live' live e_live env1 t1 w1) (λ again' again goes env1 t1 w1.
          reads_bind n (run' a' behind_a' env1 t1 w1) (code_marked ops put deleting types marked a at_a calls behind_a env1 t1 w1) (behind_body (λ env2 t2 w2. bind (run' third' behind_third' env2 t2 w2) (behind again')))
          (behind_body (λ env2 t2 w2. bind (code_marked ops put deleting types marked third at_third calls behind_third env2 t2 w2) (behind again))) (at_ways a' a at_a of_a behind_a' behind_a e_a env1 t1 w1)
          (behind_body_reads (λ env2 t2 w2. bind (run' third' behind_third' env2 t2 w2) (behind again')) (λ env2 t2 w2. bind (code_marked ops put deleting types marked third at_third calls behind_third env2 t2 w2) (behind again)) (λ env2 t2 w2.
          reads_bind n (run' third' behind_third' env2 t2 w2) (code_marked ops put deleting types marked third at_third calls behind_third env2 t2 w2) (behind again') (behind again) (at_ways third' third at_third of_third behind_third' behind_third e_third env2 t2 w2) (behind_reads again' again goes)))) env t w

      repeat_reads : (line : ℕ) (a : Code) (steps : Steps) (test : Test) (at_a : ℕ) → CodeReads (Labelled a at_a) a at_a → (k : Ways) (env : List Value) (t : Temporaries) (w : W) →
          Reads n (code_run L deleting types (repeat line (Labelled a at_a) (steps_labelled n steps) (test_labelled n test)) calls' k env t w)
          (rounds_first ops deleting types (suc (ops.turns_left w))
          (steps_run ops deleting types steps calls (λ y. k.next y || before_code (repeat 0 a steps test) k y)) (Some test)
          (λ again env1 t1 w1. bind (code_marked ops put deleting types marked a at_a calls (round (repeat_tail a steps test k) k) env1 t1 w1) (behind_body again))
          env t w)
      repeat_reads line a steps test at_a of_a k env t w =
          let steps' = steps_labelled n steps in
          let test' = test_labelled n test in
          let a' = Labelled a at_a in
          let behind_a' = round (repeat_tail a' steps' test' k) k in
          let behind_a = round (repeat_tail a steps test k) k in
          let e_a : behind_a' ≡ behind_a = ap (λ l. round l k) (repeat_lives n marked a steps test at_a k) in
          let live' = λ (y : ℕ). k.next y || before_code (repeat 0 a' steps' test') k y in
          let live = λ (y : ℕ). k.next y || before_code (repeat 0 a steps test) k y in
          let e_live : live' ≡ live = fun_ext (λ y. ap (λ l. k.next y || l y) (again_lives_there n marked a steps test at_a k)) in
          let body' = λ (again : Goes) (env1 : List Value) (t1 : Temporaries) (w1 : W). bind (run' a' behind_a' env1 t1 w1) (behind_body again) in
          let body = λ (again : Goes) (env1 : List Value) (t1 : Temporaries) (w1 : W). bind (code_marked ops put deleting types marked a at_a calls behind_a env1 t1 w1) (behind_body again) in
          rounds_first_read (suc (ops.turns_left w)) (steps_run L deleting types steps' calls' live') (steps_run ops deleting types steps calls live) (Some test) body' body (λ env1 t1 w1. steps_read_at steps live' live e_live env1 t1 w1) (λ again' again goes env1 t1 w1.
          reads_bind n (run' a' behind_a' env1 t1 w1) (code_marked ops put deleting types marked a at_a calls behind_a env1 t1 w1) (behind_body again') (behind_body again) (at_ways a' a at_a of_a behind_a' behind_a e_a env1 t1 w1) (behind_body_reads again' again goes)) env t w

      mutual
        code_reads : (c : Code) (here : ℕ) → CodeReads (Labelled c here) c here
        code_reads (simple steps act) here k env t w =
            let at_act = here + steps_points steps in
            let act' = act_labelled n marked act at_act in
            reads_bind n (steps_run L deleting types (steps_labelled n steps) calls' (before_act act' k.next) env t w) (steps_run ops deleting types steps calls (before_act act k.next) env t w) (λ t1. act_run L deleting types act' calls' k.next env t1) (λ t1. act_marked ops put deleting types marked act at_act calls k.next env t1)
            (steps_read_at steps (before_act act' k.next) (before_act act k.next) (act_lives n marked act at_act k.next) env t w) (λ t1 w1. act_reads act at_act k.next env t1 w1)
        code_reads (clear line x ty) here k env t w = refl
        code_reads (block codes) here k env t w = codes_read codes here k env t w
        code_reads (branch steps test a b) here k env t w =
            let at_a = suc (here + steps_points steps) in
            let at_b = at_a + code_points a in
            let a' = Labelled a at_a in
            let b' = Labelled b at_b in
            let live' = λ (y : ℕ). before_code a' k y || before_code b' k y in
            let live = λ (y : ℕ). before_code a k y || before_code b k y in
            let e_live : live' ≡ live = fun_ext (λ y. ap (λ l. l y || before_code b' k y) (code_lives n marked a at_a k) ∙ ap (λ l. before_code a k y || l y) (code_lives n marked b at_b k)) in
            reads_bind n (steps_run L deleting types (steps_labelled n steps) calls' live' env t w) (steps_run ops deleting types steps calls live env t w) (λ t1. branching (test_value (Some (test_labelled n test)) t1) (run' a' k env t1) (run' b' k env t1))
            (λ t1. branching (test_value (Some test) t1) (code_marked ops put deleting types marked a at_a calls k env t1) (code_marked ops put deleting types marked b at_b calls k env t1))
            (steps_read_at steps live' live e_live env t w) (λ t1 w1. tested_reads (Some test) t1 (run' a' k env t1) (run' b' k env t1) (code_marked ops put deleting types marked a at_a calls k env t1) (code_marked ops put deleting types marked b at_b calls k env t1) w1 (code_reads a at_a k env t1 w1) (code_reads b at_b k env t1 w1))
        code_reads (loop line steps test third a) here k env t w =
            let at_a = suc here + steps_points steps + branch_points test in
            loop_reads (plain n line) steps test third a (at_a + code_points a) at_a (code_reads third (at_a + code_points a)) (code_reads a at_a) k env t w
        code_reads (repeat line a steps test) here k env t w = repeat_reads (plain n line) a steps test (suc here) (code_reads a (suc here)) k env t w
        code_reads (break line) here k env t w = refl
        code_reads (continue line) here k env t w = refl

        codes_read : (c : Codes) (here : ℕ) (k : Ways) (env : List Value) (t : Temporaries) (w : W) → Reads n (codes_run L deleting types (codes_labelled n marked c here) calls' k env t w) (codes_marked ops put deleting types marked c here calls k env t w)
        codes_read done here k env t w = refl
        codes_read (then c rest) here k env t w =
            let at_rest = here + code_points c in
            let rest' = codes_labelled n marked rest at_rest in
            let ways' = then_live (before_codes rest' k) k in
            let ways = then_live (before_codes rest k) k in
            reads_bind n (run' (Labelled c here) ways' env t w) (code_marked ops put deleting types marked c here calls ways env t w) (behind (codes_run L deleting types rest' calls' k)) (behind (codes_marked ops put deleting types marked rest at_rest calls k))
            (at_ways (Labelled c here) c here (code_reads c here) ways' ways (ap (λ l. then_live l k) (codes_lives n marked rest at_rest k)) env t w)
            (behind_reads (codes_run L deleting types rest' calls' k) (codes_marked ops put deleting types marked rest at_rest calls k) (λ env1 t1 w1. codes_read rest at_rest k env1 t1 w1))

  result_reads : (result : Option Ty) (way : Way) (w : W) → Reads n (result_of {W = W} result way w) (result_of result way w)
  result_reads result (Next env t) w = refl
  result_reads result (Broke env t) w = refl
  result_reads result (Continued env t) w = refl
  result_reads result (Returned v) w = refl

  routine_reads : (deleting : ℕ → Bool) (marked : (point : ℕ) → Bool) (calls' calls : Calls W) → ((f : ℕ) (vs : List Value) (w : W) → Reads n (calls' f vs w) (calls f vs w)) → (o : Option Routine) (vs : List Value) (w : W) →
      Reads n (run_routine L deleting calls' (option_map (routine_labelled n marked) o) vs w) (routine_marked ops put deleting marked calls o vs w)
  routine_reads deleting marked calls' calls same None vs w = refl
  routine_reads deleting marked calls' calls same (Some f) vs w =
      reads_bind n (code_run L deleting f.locals (code_labelled n marked f.body 1) calls' at_end (sized f.locals vs) blank_temporaries w) (code_marked ops put deleting f.locals marked f.body 1 calls at_end (sized f.locals vs) blank_temporaries w) (result_of f.result) (result_of f.result)
      (code_reads deleting f.locals calls' calls same marked f.body 1 at_end (sized f.locals vs) blank_temporaries w) (result_reads f.result)

  module _ (marks : (function point : ℕ) → Bool) (r : Rlang) where
    calls_read : (m f : ℕ) (vs : List Value) (w : W) → Reads n (calls_within L (labelled n marks r) m f vs w) (calls_marked ops put marks r m f vs w)
    calls_read zero f vs w = refl
    calls_read (suc m) f vs w =
        reads_bind n (L.take_turn w) (ops.take_turn w) (λ _ w1. run_routine L (deletes (labelled n marks r)) (calls_within L (labelled n marks r) m) (slice_get (labelled n marks r).functions f) vs w1) (λ _ w1. routine_marked ops put (deletes r) (marks f) (calls_marked ops put marks r m) (slice_get r.functions f) vs w1)
        (read_back n (ops.take_turn w)) (λ u w1.
        ap (λ deleting. decoded n (run_routine L deleting (calls_within L (labelled n marks r) m) (slice_get (labelled n marks r).functions f) vs w1)) (deletes_same n marks r)
        ∙ ap (λ o. decoded n (run_routine L (deletes r) (calls_within L (labelled n marks r) m) o vs w1)) (there n marks r.functions 0 f)
        ∙ ap (λ k. decoded n (run_routine L (deletes r) (calls_within L (labelled n marks r) m) (option_map (routine_labelled n (marks k)) (slice_get r.functions f)) vs w1)) (let e : 0 + f ≡ f = omega arith in e)
        ∙ routine_reads (deletes r) (marks f) (calls_within L (labelled n marks r) m) (calls_marked ops put marks r m) (calls_read m) (slice_get r.functions f) vs w1)

    pub main_reads : (w : W) → decoded n (run_main L (labelled n marks r) w) ≡ main_marked ops put marks r w
    main_reads w = calls_read (suc (ops.turns_left w)) r.main [] w
