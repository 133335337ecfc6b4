-- Where a change of world agrees with what is done to it, so does the run of the machine from any state on.
use Rattle.std.proofs.Common.{◌≡◌, ◌∙◌, ℕ, suc, pos, List, [], ◌∷◌, ◌++◌, Option, refl, sym, ap}
use Rattle.rc_core.specs.Numbers.{byte_of}
use Rattle.rc_core.specs.Arithmetic.{calculate, calculate_one}
use Rattle.rc_core.specs.Types.{struct}
use Rattle.rc_core.specs.Programs.{Expr, constant, null, string, local, read, address, step, step_from, unary, binary, convert, not_zero, and, or, choose, is_null, same, call, new_region, new_subregion, region_of, allocate, allocate_array, putchar, getchar, Place, global, pointed, indexed, Stmt, block, declare, assign, store, update, copy, evaluate, delete, branch, while, repeat, for, break, continue, return, Function, Program}
use Rattle.rc_core.specs.Layout.{cells, size}
use Rattle.rc_core.specs.Heap.{Value, Number}
use Rattle.rc_core.specs.Live.{Ways, before, while_body, repeat_body, repeat_head, for_third, for_body, either}
use Rattle.rc_core.specs.Runs.{Run, Go, Target, Calls}
use Rattle.rc_core.specs.Evaluation.{eval, number_in, is_true, toward, aimed}
use Rattle.rc_core.specs.Execution.{Flow, Next, Broke, Continued, Returned, held, calls_within}
use Rattle.rc_memory.specs.Change.{mapped, Agree}
use Rattle.rc_memory.specs.KeptWorld.{KeptWorld, kept}
use Rattle.rc_frames.specs.Frames.{Frame, first, second, argument, pointer, index, element as element_frame, load, inside, Stage, placed, sourced, valued, stored, within, tested, bodied, headed, thirded, ways}
use Rattle.rc_slow.specs.Machine.{after_first, after_pointer, after_index, while_rounds, repeat_rounds, for_rounds, turning, value_given, stored_given, test_given, given, copied, place_given, source_given, aimed_at, body_done, third_done, head_done, finished, calls_at, flow_on, give_on, aim_on, control_on}
use Rattle.rc_nodes.specs.Stepping.{Control, after_second, evaluating, executing, going_along, gives, aims, goes, breaks, continues, returns}
use Rattle.rc_slow.specs.Whole.{Activation, State, left, resume, whole}
use Rattle.rc_slow.proofs.Simulation.{mapped_bind, mapped_branching, mapped_computed, mapped_region, mapped_result, mapped_behind_body, mapped_behind, eval_agrees, all_agree, target_agrees, along_agrees, calling_agrees, value_agrees, changed_agrees, rounds_agree, rounds_first_agree, test_agrees, exec_agrees, exec_all_agrees, calls_agree}

module _ (change : KeptWorld → KeptWorld) (program : Program) (agree : Agree change kept kept) where
  module _ (f : Function) (calls : Calls KeptWorld) (h : (g : ℕ) (arguments : List Value) (w : KeptWorld) → mapped change (calls g arguments w) ≡ calls g arguments (change w)) where
    second_same : (e : Expr) (v u : Value) (w : KeptWorld) → mapped change (after_second program f calls e v u w) ≡ after_second program f calls e v u (change w)
    second_same (constant line sg n) v u w = refl
    second_same (null line) v u w = refl
    second_same (string line k) v u w = refl
    second_same (local line x) v u w = refl
    second_same (read line place) v u w = refl
    second_same (address line g) v u w = refl
    second_same (step line direction p i) v u w = agree.step line v (toward direction (number_in u)) w
    second_same (step_from line i p) v u w = agree.step line u (number_in v) w
    second_same (unary line operator sg e) v u w = refl
    second_same (binary line operator sg a b) v u w = mapped_bind change _ _ _ _ (mapped_computed change line (calculate operator sg (number_in v) (number_in u)) w) (λ n w1. refl)
    second_same (convert line from to e) v u w = refl
    second_same (not_zero line e) v u w = refl
    second_same (and line a b) v u w = refl
    second_same (or line a b) v u w = refl
    second_same (choose line test a b) v u w = refl
    second_same (is_null line wanted e) v u w = refl
    second_same (same line wanted a b) v u w = refl
    second_same (call line g arguments) v u w = refl
    second_same (new_region line) v u w = refl
    second_same (new_subregion line r) v u w = refl
    second_same (region_of line p) v u w = refl
    second_same (allocate line r ty) v u w = refl
    second_same (allocate_array line r n ty) v u w = agree.allocate line v (number_in u) (cells program.structs ty) w
    second_same (putchar line e) v u w = refl
    second_same (getchar line) v u w = refl

    first_same : (e : Expr) (c : Calls KeptWorld) → ((g : ℕ) (arguments : List Value) (w : KeptWorld) → mapped change (c g arguments w) ≡ c g arguments (change w)) → (v : Value) (env : List Value) (w : KeptWorld) → mapped change (after_first program f calls e c v env w) ≡ after_first program f calls e c v env (change w)
    first_same (constant line sg n) c hc v env w = refl
    first_same (null line) c hc v env w = refl
    first_same (string line k) c hc v env w = refl
    first_same (local line x) c hc v env w = refl
    first_same (read line place) c hc v env w = refl
    first_same (address line g) c hc v env w = refl
    first_same (step line direction p i) c hc v env w = mapped_bind change _ _ _ _ (eval_agrees change kept kept program agree i c c hc env w) (λ u w1. agree.step line v (toward direction (number_in u)) w1)
    first_same (step_from line i p) c hc v env w = mapped_bind change _ _ _ _ (eval_agrees change kept kept program agree p c c hc env w) (λ u w1. agree.step line u (number_in v) w1)
    first_same (unary line operator sg e) c hc v env w = mapped_bind change _ _ _ _ (mapped_computed change line (calculate_one operator sg (number_in v)) w) (λ n w1. refl)
    first_same (binary line operator sg a b) c hc v env w = mapped_bind change _ _ _ _ (eval_agrees change kept kept program agree b c c hc env w) (λ u w1. mapped_bind change _ _ _ _ (mapped_computed change line (calculate operator sg (number_in v) (number_in u)) w1) (λ n w2. refl))
    first_same (convert line from to e) c hc v env w = refl
    first_same (not_zero line e) c hc v env w = refl
    first_same (and line a b) c hc v env w = mapped_branching change (is_true v) _ _ _ _ (λ w1. mapped_bind change _ _ _ _ (eval_agrees change kept kept program agree b c c hc env w1) (λ u w2. refl)) (λ w1. refl) w
    first_same (or line a b) c hc v env w = mapped_branching change (is_true v) _ _ _ _ (λ w1. refl) (λ w1. mapped_bind change _ _ _ _ (eval_agrees change kept kept program agree b c c hc env w1) (λ u w2. refl)) w
    first_same (choose line test a b) c hc v env w = mapped_branching change (is_true v) (eval kept program a c env) (eval kept program b c env) (eval kept program a c env) (eval kept program b c env) (λ w1. eval_agrees change kept kept program agree a c c hc env w1) (λ w1. eval_agrees change kept kept program agree b c c hc env w1) w
    first_same (is_null line wanted e) c hc v env w = refl
    first_same (same line wanted a b) c hc v env w = mapped_bind change _ _ _ _ (eval_agrees change kept kept program agree b c c hc env w) (λ u w1. refl)
    first_same (call line g arguments) c hc v env w = refl
    first_same (new_region line) c hc v env w = refl
    first_same (new_subregion line r) c hc v env w = agree.new_subregion line v w
    first_same (region_of line p) c hc v env w = mapped_region change line v w
    first_same (allocate line r ty) c hc v env w = agree.allocate line v (pos 1) (cells program.structs ty) w
    first_same (allocate_array line r n ty) c hc v env w = mapped_bind change _ _ _ _ (eval_agrees change kept kept program agree n c c hc env w) (λ u w1. agree.allocate line v (number_in u) (cells program.structs ty) w1)
    first_same (putchar line e) c hc v env w = mapped_bind change (kept.put_byte (byte_of (number_in v)) w) (kept.put_byte (byte_of (number_in v)) (change w)) (λ u w1. Go (Number (pos (byte_of (number_in v)))) w1) (λ u w1. Go (Number (pos (byte_of (number_in v)))) w1) (agree.put_byte (byte_of (number_in v)) w) (λ u w1. refl)
    first_same (getchar line) c hc v env w = refl

    pointer_same : (p : Place) (c : Calls KeptWorld) → ((g : ℕ) (arguments : List Value) (w : KeptWorld) → mapped change (c g arguments w) ≡ c g arguments (change w)) → (v : Value) (env : List Value) (w : KeptWorld) → mapped change (after_pointer program f calls p c v env w) ≡ after_pointer program f calls p c v env (change w)
    pointer_same (global g path) c hc v env w = refl
    pointer_same (pointed p path) c hc v env w = along_agrees change kept kept program agree path (aimed v (pos 0)) c c hc env w
    pointer_same (indexed p i path) c hc v env w = mapped_bind change _ _ _ _ (eval_agrees change kept kept program agree i c c hc env w) (λ n w1. along_agrees change kept kept program agree path (aimed v (number_in n)) c c hc env w1)

    index_same : (p : Place) (c : Calls KeptWorld) → ((g : ℕ) (arguments : List Value) (w : KeptWorld) → mapped change (c g arguments w) ≡ c g arguments (change w)) → (v n : Value) (env : List Value) (w : KeptWorld) → mapped change (after_index program f calls p c v n env w) ≡ after_index program f calls p c v n env (change w)
    index_same (global g path) c hc v n env w = refl
    index_same (pointed p path) c hc v n env w = refl
    index_same (indexed p i path) c hc v n env w = along_agrees change kept kept program agree path (aimed v (number_in n)) c c hc env w

    while_same : (n : ℕ) (test : Expr) (body : Stmt) (k : Ways) (env : List Value) (w : KeptWorld) → mapped change (while_rounds program f calls n test body k env w) ≡ while_rounds program f calls n test body k env (change w)
    while_same n test body k env w =
        rounds_agree change kept kept program agree n _ _ _ _
        (λ env1 w1. value_agrees change kept kept program agree calls calls h (either k.next (before body (while_body test body k))) test env1 w1)
        (λ go go' hg env1 w1. mapped_bind change _ _ _ _ (exec_agrees change kept kept program agree body f calls calls h (while_body test body k) env1 w1) (λ flow w2. mapped_behind_body change go go' hg flow w2))
        env w

    repeat_same : (n : ℕ) (body : Stmt) (test : Expr) (k : Ways) (env : List Value) (w : KeptWorld) → mapped change (repeat_rounds program f calls n body test k env w) ≡ repeat_rounds program f calls n body test k env (change w)
    repeat_same n body test k env w =
        rounds_first_agree change kept kept program agree n _ _ _ _
        (λ env1 w1. value_agrees change kept kept program agree calls calls h (either k.next (repeat_head body test k)) test env1 w1)
        (λ go go' hg env1 w1. mapped_bind change _ _ _ _ (exec_agrees change kept kept program agree body f calls calls h (repeat_body body test k) env1 w1) (λ flow w2. mapped_behind_body change go go' hg flow w2))
        env w

    for_same : (n : ℕ) (test : Option Expr) (third body : Stmt) (k : Ways) (env : List Value) (w : KeptWorld) → mapped change (for_rounds program f calls n test third body k env w) ≡ for_rounds program f calls n test third body k env (change w)
    for_same n test third body k env w =
        rounds_agree change kept kept program agree n _ _ _ _
        (λ env1 w1. test_agrees change kept kept program agree calls calls h (either k.next (before body (for_body test third body k))) test env1 w1)
        (λ go go' hg env1 w1. mapped_bind change _ _ _ _ (exec_agrees change kept kept program agree body f calls calls h (for_body test third body k) env1 w1) (λ flow w2.
        mapped_behind_body change _ _ (λ env3 w3. mapped_bind change _ _ _ _ (exec_agrees change kept kept program agree third f calls calls h (for_third test third body k) env3 w3) (λ flow3 w4. mapped_behind change go go' hg flow3 w4)) flow w2))
        env w

    turning_same : (go : List Value → KeptWorld → Run KeptWorld Flow) → ((env : List Value) (w : KeptWorld) → mapped change (go env w) ≡ go env (change w)) → (env : List Value) (w : KeptWorld) → mapped change (turning program f calls go env w) ≡ turning program f calls go env (change w)
    turning_same go hg env w = mapped_bind change _ _ _ _ (agree.take_turn w) (λ u w1. hg env w1)

    value_same : (s : Stmt) (k : Ways) (v : Value) (env : List Value) (w : KeptWorld) → mapped change (value_given program f calls s k v env w) ≡ value_given program f calls s k v env (change w)
    value_same (block body) k v env w = refl
    value_same (declare line x e) k v env w = refl
    value_same (assign line x e) k v env w = refl
    value_same (store line place e) k v env w = refl
    value_same (update line place by e) k v env w = refl
    value_same (copy line j left right) k v env w = refl
    value_same (evaluate line e) k v env w = refl
    value_same (delete line e) k v env w = mapped_bind change _ _ _ _ (agree.delete line (held k.next env) v w) (λ u w1. refl)
    value_same (branch line test a b) k v env w = mapped_branching change (is_true v) _ _ _ _ (λ w1. exec_agrees change kept kept program agree a f calls calls h k env w1) (λ w1. exec_agrees change kept kept program agree b f calls calls h k env w1) w
    value_same (while line test body) k v env w = refl
    value_same (repeat line body test) k v env w = refl
    value_same (for line head test third body) k v env w = refl
    value_same (break line) k v env w = refl
    value_same (continue line) k v env w = refl
    value_same (return line e) k v env w = refl

    stored_same : (s : Stmt) (t : Target) (v : Value) (env : List Value) (w : KeptWorld) → mapped change (stored_given program f calls s t v env w) ≡ stored_given program f calls s t v env (change w)
    stored_same (block body) t v env w = refl
    stored_same (declare line x e) t v env w = refl
    stored_same (assign line x e) t v env w = refl
    stored_same (store line place e) t v env w = mapped_bind change _ _ _ _ (agree.store line t v w) (λ u w1. refl)
    stored_same (update line place by e) t v env w = mapped_bind change _ _ _ _ (agree.load line t w) (λ old w1. mapped_bind change _ _ _ _ (changed_agrees change kept kept program agree line by old v w1) (λ new w2. mapped_bind change _ _ _ _ (agree.store line t new w2) (λ u w3. refl)))
    stored_same (copy line k left right) t v env w = refl
    stored_same (evaluate line e) t v env w = refl
    stored_same (delete line e) t v env w = refl
    stored_same (branch line test a b) t v env w = refl
    stored_same (while line test body) t v env w = refl
    stored_same (repeat line body test) t v env w = refl
    stored_same (for line head test third body) t v env w = refl
    stored_same (break line) t v env w = refl
    stored_same (continue line) t v env w = refl
    stored_same (return line e) t v env w = refl

    test_same : (s : Stmt) (n : ℕ) (k : Ways) (v : Value) (env : List Value) (w : KeptWorld) → mapped change (test_given program f calls s n k v env w) ≡ test_given program f calls s n k v env (change w)
    test_same (block body) n k v env w = refl
    test_same (declare line x e) n k v env w = refl
    test_same (assign line x e) n k v env w = refl
    test_same (store line place e) n k v env w = refl
    test_same (update line place by e) n k v env w = refl
    test_same (copy line j left right) n k v env w = refl
    test_same (evaluate line e) n k v env w = refl
    test_same (delete line e) n k v env w = refl
    test_same (branch line test a b) n k v env w = refl
    test_same (while line test body) n k v env w = mapped_branching change (is_true v) _ _ _ _ (λ w1. mapped_bind change _ _ _ _ (exec_agrees change kept kept program agree body f calls calls h (while_body test body k) env w1) (λ flow w2. mapped_behind_body change _ _ (turning_same _ (while_same n test body k)) flow w2)) (λ w1. refl) w
    test_same (repeat line body test) n k v env w = mapped_branching change (is_true v) _ _ _ _ (λ w1. turning_same _ (repeat_same n body test k) env w1) (λ w1. refl) w
    test_same (for line head test third body) n k v env w = mapped_branching change (is_true v) _ _ _ _ (λ w1. mapped_bind change _ _ _ _ (exec_agrees change kept kept program agree body f calls calls h (for_body test third body k) env w1) (λ flow w2. mapped_behind_body change _ _ (λ env2 w3. mapped_bind change _ _ _ _ (exec_agrees change kept kept program agree third f calls calls h (for_third test third body k) env2 w3) (λ flow3 w4. mapped_behind change _ _ (turning_same _ (for_same n test third body k)) flow3 w4)) flow w2)) (λ w1. refl) w
    test_same (break line) n k v env w = refl
    test_same (continue line) n k v env w = refl
    test_same (return line e) n k v env w = refl

    given_same : (s : Stmt) (stage : Stage) (k : Ways) (v : Value) (env : List Value) (w : KeptWorld) → mapped change (given program f calls s stage k v env w) ≡ given program f calls s stage k v env (change w)
    given_same s placed k v env w = refl
    given_same s (sourced t) k v env w = refl
    given_same s valued k v env w = value_same s k v env w
    given_same s (stored t) k v env w = stored_same s t v env w
    given_same s (within rest) k v env w = refl
    given_same s (tested n) k v env w = test_same s n k v env w
    given_same s (bodied n) k v env w = refl
    given_same s headed k v env w = refl
    given_same s (thirded n) k v env w = refl

    copied_same : (line k : ℕ) (to from : Target) (env : List Value) (w : KeptWorld) → mapped change (copied program f calls line k to from env w) ≡ copied program f calls line k to from env (change w)
    copied_same line k to from env w = mapped_bind change _ _ _ _ (agree.load_all line from (size program.structs (struct k)) w) (λ vs w1. mapped_bind change _ _ _ _ (agree.store_all line to vs w1) (λ u w2. refl))

    place_same : (s : Stmt) (k : Ways) (t : Target) (env : List Value) (w : KeptWorld) → mapped change (place_given program f calls s k t env w) ≡ place_given program f calls s k t env (change w)
    place_same (block body) k t env w = refl
    place_same (declare line x e) k t env w = refl
    place_same (assign line x e) k t env w = refl
    place_same (store line place e) k t env w = mapped_bind change _ _ _ _ (value_agrees change kept kept program agree calls calls h k.next e env w) (λ v w1. stored_same (store line place e) t v env w1)
    place_same (update line place by e) k t env w = mapped_bind change _ _ _ _ (value_agrees change kept kept program agree calls calls h k.next e env w) (λ v w1. stored_same (update line place by e) t v env w1)
    place_same (copy line j left right) k t env w = mapped_bind change _ _ _ _ (target_agrees change kept kept program agree right _ _ (calling_agrees change kept kept program agree calls calls h k.next env) env w) (λ from w1. copied_same line j t from env w1)
    place_same (evaluate line e) k t env w = refl
    place_same (delete line e) k t env w = refl
    place_same (branch line test a b) k t env w = refl
    place_same (while line test body) k t env w = refl
    place_same (repeat line body test) k t env w = refl
    place_same (for line head test third body) k t env w = refl
    place_same (break line) k t env w = refl
    place_same (continue line) k t env w = refl
    place_same (return line e) k t env w = refl

    source_same : (s : Stmt) (to from : Target) (env : List Value) (w : KeptWorld) → mapped change (source_given program f calls s to from env w) ≡ source_given program f calls s to from env (change w)
    source_same (block body) to from env w = refl
    source_same (declare line x e) to from env w = refl
    source_same (assign line x e) to from env w = refl
    source_same (store line place e) to from env w = refl
    source_same (update line place by e) to from env w = refl
    source_same (copy line k left right) to from env w = copied_same line k to from env w
    source_same (evaluate line e) to from env w = refl
    source_same (delete line e) to from env w = refl
    source_same (branch line test a b) to from env w = refl
    source_same (while line test body) to from env w = refl
    source_same (repeat line body test) to from env w = refl
    source_same (for line head test third body) to from env w = refl
    source_same (break line) to from env w = refl
    source_same (continue line) to from env w = refl
    source_same (return line e) to from env w = refl

    aimed_same : (s : Stmt) (stage : Stage) (k : Ways) (t : Target) (env : List Value) (w : KeptWorld) → mapped change (aimed_at program f calls s stage k t env w) ≡ aimed_at program f calls s stage k t env (change w)
    aimed_same s placed k t env w = place_same s k t env w
    aimed_same s (sourced to) k t env w = source_same s to t env w
    aimed_same s valued k t env w = refl
    aimed_same s (stored to) k t env w = refl
    aimed_same s (within rest) k t env w = refl
    aimed_same s (tested n) k t env w = refl
    aimed_same s (bodied n) k t env w = refl
    aimed_same s headed k t env w = refl
    aimed_same s (thirded n) k t env w = refl

    body_same : (s : Stmt) (n : ℕ) (k : Ways) (flow : Flow) (w : KeptWorld) → mapped change (body_done program f calls s n k flow w) ≡ body_done program f calls s n k flow (change w)
    body_same (block body) n k flow w = refl
    body_same (declare line x e) n k flow w = refl
    body_same (assign line x e) n k flow w = refl
    body_same (store line place e) n k flow w = refl
    body_same (update line place by e) n k flow w = refl
    body_same (copy line j left right) n k flow w = refl
    body_same (evaluate line e) n k flow w = refl
    body_same (delete line e) n k flow w = refl
    body_same (branch line test a b) n k flow w = refl
    body_same (while line test body) n k flow w = mapped_behind_body change _ _ (turning_same _ (while_same n test body k)) flow w
    body_same (repeat line body test) n k flow w = mapped_behind_body change _ _ (λ env1 w1. mapped_bind change _ _ _ _ (value_agrees change kept kept program agree calls calls h (either k.next (repeat_head body test k)) test env1 w1) (λ v w2. mapped_branching change (is_true v) _ _ _ _ (λ w3. turning_same _ (repeat_same n body test k) env1 w3) (λ w3. refl) w2)) flow w
    body_same (for line head test third body) n k flow w = mapped_behind_body change _ _ (λ env2 w2. mapped_bind change _ _ _ _ (exec_agrees change kept kept program agree third f calls calls h (for_third test third body k) env2 w2) (λ flow3 w3. mapped_behind change _ _ (turning_same _ (for_same n test third body k)) flow3 w3)) flow w
    body_same (break line) n k flow w = refl
    body_same (continue line) n k flow w = refl
    body_same (return line e) n k flow w = refl

    third_same : (s : Stmt) (n : ℕ) (k : Ways) (flow : Flow) (w : KeptWorld) → mapped change (third_done program f calls s n k flow w) ≡ third_done program f calls s n k flow (change w)
    third_same (block body) n k flow w = refl
    third_same (declare line x e) n k flow w = refl
    third_same (assign line x e) n k flow w = refl
    third_same (store line place e) n k flow w = refl
    third_same (update line place by e) n k flow w = refl
    third_same (copy line j left right) n k flow w = refl
    third_same (evaluate line e) n k flow w = refl
    third_same (delete line e) n k flow w = refl
    third_same (branch line test a b) n k flow w = refl
    third_same (while line test body) n k flow w = refl
    third_same (repeat line body test) n k flow w = refl
    third_same (for line head test third body) n k flow w = mapped_behind change _ _ (turning_same _ (for_same n test third body k)) flow w
    third_same (break line) n k flow w = refl
    third_same (continue line) n k flow w = refl
    third_same (return line e) n k flow w = refl

    head_same : (s : Stmt) (k : Ways) (flow : Flow) (w : KeptWorld) → mapped change (head_done program f calls s k flow w) ≡ head_done program f calls s k flow (change w)
    head_same (block body) k flow w = refl
    head_same (declare line x e) k flow w = refl
    head_same (assign line x e) k flow w = refl
    head_same (store line place e) k flow w = refl
    head_same (update line place by e) k flow w = refl
    head_same (copy line j left right) k flow w = refl
    head_same (evaluate line e) k flow w = refl
    head_same (delete line e) k flow w = refl
    head_same (branch line test a b) k flow w = refl
    head_same (while line test body) k flow w = refl
    head_same (repeat line body test) k flow w = refl
    head_same (for line head test third body) k flow w = mapped_behind change _ _ (λ env1 w1. for_same (suc w1.turns) test third body k env1 w1 ∙ ap (λ t. for_rounds program f calls (suc t) test third body k env1 (change w1)) (sym (agree.turns_left w1))) flow w
    head_same (break line) k flow w = refl
    head_same (continue line) k flow w = refl
    head_same (return line e) k flow w = refl

    finished_same : (s : Stmt) (stage : Stage) (k : Ways) (flow : Flow) (w : KeptWorld) → mapped change (finished program f calls s stage k flow w) ≡ finished program f calls s stage k flow (change w)
    finished_same s placed k flow w = refl
    finished_same s (sourced t) k flow w = refl
    finished_same s valued k flow w = refl
    finished_same s (stored t) k flow w = refl
    finished_same s (within rest) k flow w = mapped_behind change _ _ (λ env1 w1. exec_all_agrees change kept kept program agree rest f calls calls h k env1 w1) flow w
    finished_same s (tested n) k flow w = refl
    finished_same s (bodied n) k flow w = body_same s n k flow w
    finished_same s headed k flow w = head_same s k flow w
    finished_same s (thirded n) k flow w = third_same s n k flow w

    flow_same : (fs : List Frame) (flow : Flow) (w : KeptWorld) → mapped change (flow_on program f calls fs flow w) ≡ flow_on program f calls fs flow (change w)
    flow_same [] flow w = mapped_result change f.result flow w
    flow_same (first e ∷ fs) flow w = flow_same fs flow w
    flow_same (second e u ∷ fs) flow w = flow_same fs flow w
    flow_same (argument g vs es ∷ fs) flow w = flow_same fs flow w
    flow_same (pointer p ∷ fs) flow w = flow_same fs flow w
    flow_same (index p u ∷ fs) flow w = flow_same fs flow w
    flow_same (element_frame t count stride path ∷ fs) flow w = flow_same fs flow w
    flow_same (load line ∷ fs) flow w = flow_same fs flow w
    flow_same (inside s stage ∷ fs) flow w = mapped_bind change _ _ _ _ (finished_same s stage (ways fs) flow w) (λ flow1 w1. flow_same fs flow1 w1)

    at_same : (fs : List Frame) (env : List Value) (g : ℕ) (arguments : List Value) (w : KeptWorld) → mapped change (calls_at program f calls fs env g arguments w) ≡ calls_at program f calls fs env g arguments (change w)
    at_same fs env g arguments w = calling_agrees change kept kept program agree calls calls h (ways fs).next env g arguments w

    mutual
      give_same : (fs : List Frame) (v : Value) (env : List Value) (w : KeptWorld) → mapped change (give_on program f calls fs v env w) ≡ give_on program f calls fs v env (change w)
      give_same [] v env w = refl
      give_same (first e ∷ fs) v env w = mapped_bind change _ _ _ _ (first_same e _ (at_same fs env) v env w) (λ u w1. give_same fs u env w1)
      give_same (second e u ∷ fs) v env w = mapped_bind change _ _ _ _ (second_same e u v w) (λ x w1. give_same fs x env w1)
      give_same (argument g vs es ∷ fs) v env w = mapped_bind change _ _ _ _ (all_agree change kept kept program agree es _ _ (at_same fs env) env w) (λ us w1. mapped_bind change _ _ _ _ (at_same fs env g (vs ++ v ∷ us) w1) (λ x w2. give_same fs x env w2))
      give_same (pointer p ∷ fs) v env w = mapped_bind change _ _ _ _ (pointer_same p _ (at_same fs env) v env w) (λ t w1. aim_same fs t env w1)
      give_same (index p u ∷ fs) v env w = mapped_bind change _ _ _ _ (index_same p _ (at_same fs env) u v env w) (λ t w1. aim_same fs t env w1)
      give_same (element_frame t count stride path ∷ fs) v env w = mapped_bind change _ _ _ _ (along_agrees change kept kept program agree path _ _ _ (at_same fs env) env w) (λ x w1. aim_same fs x env w1)
      give_same (load line ∷ fs) v env w = give_same fs v env w
      give_same (inside s stage ∷ fs) v env w = mapped_bind change _ _ _ _ (given_same s stage (ways fs) v env w) (λ flow w1. flow_same fs flow w1)

      aim_same : (fs : List Frame) (t : Target) (env : List Value) (w : KeptWorld) → mapped change (aim_on program f calls fs t env w) ≡ aim_on program f calls fs t env (change w)
      aim_same [] t env w = refl
      aim_same (first e ∷ fs) t env w = aim_same fs t env w
      aim_same (second e u ∷ fs) t env w = aim_same fs t env w
      aim_same (argument g vs es ∷ fs) t env w = aim_same fs t env w
      aim_same (pointer p ∷ fs) t env w = aim_same fs t env w
      aim_same (index p u ∷ fs) t env w = aim_same fs t env w
      aim_same (element_frame x count stride path ∷ fs) t env w = aim_same fs t env w
      aim_same (load line ∷ fs) t env w = mapped_bind change _ _ _ _ (agree.load line t w) (λ v w1. give_same fs v env w1)
      aim_same (inside s stage ∷ fs) t env w = mapped_bind change _ _ _ _ (aimed_same s stage (ways fs) t env w) (λ flow w1. flow_same fs flow w1)

    control_same : (c : Control) (fs : List Frame) (env : List Value) (w : KeptWorld) → mapped change (control_on program f calls c fs env w) ≡ control_on program f calls c fs env (change w)
    control_same (evaluating e) fs env w = mapped_bind change _ _ _ _ (eval_agrees change kept kept program agree e _ _ (at_same fs env) env w) (λ v w1. give_same fs v env w1)
    control_same (executing s) fs env w = mapped_bind change _ _ _ _ (exec_agrees change kept kept program agree s f calls calls h (ways fs) env w) (λ flow w1. flow_same fs flow w1)
    control_same (going_along t path) fs env w = mapped_bind change _ _ _ _ (along_agrees change kept kept program agree path t _ _ (at_same fs env) env w) (λ x w1. aim_same fs x env w1)
    control_same (gives v) fs env w = give_same fs v env w
    control_same (aims t) fs env w = aim_same fs t env w
    control_same goes fs env w = flow_same fs (Next env) w
    control_same breaks fs env w = flow_same fs (Broke env) w
    control_same continues fs env w = flow_same fs (Continued env) w
    control_same (returns v) fs env w = flow_same fs (Returned v) w

  module _ (left_same : (a : Activation) (w : KeptWorld) → change (left a w) ≡ left a (change w)) where
    resume_same : (below : List Activation) (v : Value) (w : KeptWorld) → mapped change (resume program below v w) ≡ resume program below v (change w)
    resume_same [] v w = refl
    resume_same (a ∷ below) v w =
        mapped_bind change _ _ _ _
        (give_same a.function (calls_within kept program a.calls) (calls_agree change kept kept program agree a.calls) a.frames v a.locals (left a w)
        ∙ ap (give_on program a.function (calls_within kept program a.calls) a.frames v a.locals) (left_same a w))
        (λ u w1. resume_same below u w1)

    -- from a state on
    pub whole_same : (s : State) (w : KeptWorld) → mapped change (whole program s w) ≡ whole program s (change w)
    whole_same s w =
        mapped_bind change _ _ _ _
        (control_same s.now.function (calls_within kept program s.now.calls) (calls_agree change kept kept program agree s.now.calls) s.control s.now.frames s.now.locals w)
        (λ v w1. resume_same s.below v w1)
