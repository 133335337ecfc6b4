-- Stack code of an expression's operations does what they do, in any world.
use Rattle.std.proofs.Common.{◌≡◌, ◌≢◌, ◌<◌, ◌≤◌, ℕ, suc, ◌+◌, Bool, true, false, List, [], ◌∷◌, ◌++◌, length, refl, sym, ap, ◌∙◌, subst, arith, append_assoc, length-append}
use Rattle.rc_core.specs.declared.ty.NumberType.TheVariants.{Int}
use Rattle.rc_core.specs.declared.operators.Direction.TheVariants.{Forward}
use Rattle.rc_core.specs.Types.{Ty, int, unsigned, char, region, struct, pointer}
use Rattle.rc_core.specs.Arithmetic.{converted}
use Rattle.rc_core.specs.Heap.{Value, Number}
use Rattle.rc_core.specs.Runs.{Run, Go, Stopped, bind, branching, Calls, Ops}
use Rattle.rc_core.specs.Laws.{IfGoes}
use Rattle.rc_core.specs.Evaluation.{number_in, is_true, local_at, as_wanted}
use Rattle.rc_core.specs.Execution.{with_local}
use Rattle.rc_rlang.specs.RegionCode as From
use Rattle.rc_rlang.specs.RegionCode.{kind_of, Operation, Step, Steps, set, fork, none, more}
use Rattle.rc_rlang.specs.RegionRuns.{Temporaries, temporary, with_temporary, kept, holds, operation_value, step_run, steps_run}
use Rattle.rc_rlang.specs.RegionLive.{before_steps}
use Rattle.rc_rlang.specs.RegionKinds.{signed_of}
use Rattle.rc_emission.specs.StackCode.{Instruction, Line, Onward, walk}
use Rattle.rc_rlang.specs.RegionFits.{operands, pushed, dropped, step_types, steps_types}
use Rattle.rc_emission.specs.OperationCode.{line_of, at, test_code, wide, spills, reloads, exchange}
use Rattle.rc_emission.specs.Served.{OperationServed, AllKept, OperationKeeps, StepServed, StepsServed}
use Rattle.rc_emission.specs.StatementCode.{set_code, steps_lines, step_lines}
use Rattle.rc_translation.proofs.Sames.{bind_bind}
use Rattle.rc_translation.proofs.Temporaries.{Lower, at_lower, set_lower}
use Rattle.rc_emission.proofs.Singles.{stack_set, stack_pushed, on, walk_past}
use Rattle.rc_emission.specs.Pieces.{stack_of, Mirrored}
use Rattle.rc_emission.proofs.Mirrored.{get_same, get_other, length_with, kept_wide}
use Rattle.rc_emission.proofs.OperationsDo.{InPlace, set_does}
use Rattle.rc_emission.specs.StackCode as To

module _ {W : Type 0} (ops : Ops W) (deleting : ℕ → Bool) (types : List Ty) (slot : ℕ → Ty → ℕ) (calls : Calls W) (again : Onward W) (env : List Value) (n : ℕ) (Has : ℕ → Ty → Type 0)
    (slot_behind : (h : ℕ) (ty : Ty) → length types ≤ slot h ty) (slot_there : (h : ℕ) (ty : Ty) → Has h ty → slot h ty < n) (slots_apart : (h k : ℕ) (ty uy : Ty) → Has h ty → Has k uy → h < k → slot h ty ≢ slot k uy)
    (Fine : W → Type 0) (operation_fine : (line : ℕ) (op : Operation) (live : ℕ → Bool) (t : Temporaries) (h : ℕ) (w : W) → Fine w → IfGoes (λ _ w1. Fine w1) (operation_value ops deleting types line op calls live env t h w)) where
  abbrev pub go_on : List Line → (stack locals : List Value) → W → Run W Value
  go_on code stack locals w = on ops deleting calls again code stack locals w

  abbrev pub Mirrors : List Value → Type 0
  Mirrors locals = Mirrored (length types) n env locals

  -- the operands from the lowest height on stand in their locals
  abbrev pub Saved : List Ty → Temporaries → List Value → Type 0
  Saved [] t locals = Unit {0}
  Saved (ty ∷ tys) t locals = (local_at locals (slot (length tys) ty) ≡ temporary ty t (length tys)) × Has (length tys) ty × Saved tys t locals

  -- an operand goes into its local
  pub mirrors_set : (locals : List Value) (h : ℕ) (ty : Ty) (v : Value) → Mirrors locals → Mirrors (with_local locals (slot h ty) v)
  mirrors_set locals h ty v m = record {
    long = length_with locals (slot h ty) v ∙ m.long;
    whole = m.whole;
    same = λ x lt. get_other locals (slot h ty) x v (λ e. let b = slot_behind h ty in absurd (omega (arith, e, b, lt))) ∙ m.same x lt;
  }

  pub saved_set : (tys : List Ty) (t : Temporaries) (locals : List Value) (h : ℕ) (ty : Ty) (v : Value) → Has h ty → length tys < suc h → Saved tys t locals → Saved tys t (with_local locals (slot h ty) v)
  saved_set [] t locals h ty v has le s = tt
  saved_set (uy ∷ tys) t locals h ty v has le s =
      (get_other locals (slot h ty) (slot (length tys) uy) v (λ e. slots_apart (length tys) h uy ty s.1 has (omega (arith, le)) (sym e)) ∙ s.0, s.1, saved_set tys t locals h ty v has (omega (arith, le)) s.2)

  pub saved_lower : (tys : List Ty) (h : ℕ) (t t1 : Temporaries) (locals : List Value) → Lower h t t1 → length tys < suc h → Saved tys t locals → Saved tys t1 locals
  saved_lower [] h t t1 locals lo le s = tt
  saved_lower (ty ∷ tys) h t t1 locals lo le s = (s.0 ∙ sym (at_lower (kind_of ty) h (length tys) t t1 lo (omega (arith, le))), s.1, saved_lower tys h t t1 locals lo (omega (arith, le)) s.2)

  abbrev pub spilled : (base : ℕ) → List Ty → Temporaries → List Value → List Value
  spilled base [] t locals = locals
  spilled base (ty ∷ tys) t locals = spilled base tys t (with_local locals (slot (base + length tys) ty) (temporary ty t (base + length tys)))

  pub spills_do : (line base : ℕ) (tys : List Ty) (t : Temporaries) (locals : List Value) (rest : List Line) (w : W) → go_on (at line (spills slot base tys) ++ rest) (stack_of tys base t) locals w ≡ go_on rest [] (spilled base tys t locals) w
  spills_do line base [] t locals rest w = refl
  spills_do line base (ty ∷ tys) t locals rest w =
      ap (λ v. go_on (at line (spills slot base tys) ++ rest) (stack_of tys base t) (with_local locals (slot (base + length tys) ty) v) w) (kept_wide ty (temporary ty t (base + length tys)))
      ∙ spills_do line base tys t (with_local locals (slot (base + length tys) ty) (temporary ty t (base + length tys))) rest w

  pub mirrors_spilled : (base : ℕ) (tys : List Ty) (t : Temporaries) (locals : List Value) → Mirrors locals → Mirrors (spilled base tys t locals)
  mirrors_spilled base [] t locals m = m
  mirrors_spilled base (ty ∷ tys) t locals m = mirrors_spilled base tys t _ (mirrors_set locals (base + length tys) ty (temporary ty t (base + length tys)) m)

  -- what is below another height stays
  pub spilled_other : (base : ℕ) (tys : List Ty) (t : Temporaries) (locals : List Value) (k : ℕ) (uy : Ty) → AllKept Has types base tys → Has k uy → base + length tys < suc k → local_at (spilled base tys t locals) (slot k uy) ≡ local_at locals (slot k uy)
  spilled_other base [] t locals k uy all has le = refl
  spilled_other base (ty ∷ tys) t locals k uy all has le =
      spilled_other base tys t _ k uy all.1 has (omega (arith, le))
      ∙ get_other locals (slot (base + length tys) ty) (slot k uy) (temporary ty t (base + length tys)) (slots_apart (base + length tys) k ty uy all.0 has (omega (arith, le)))

  pub saved_spilled : (saved tys : List Ty) (t : Temporaries) (locals : List Value) → AllKept Has types (length saved) tys → Mirrors locals → Saved saved t locals → Saved (tys ++ saved) t (spilled (length saved) tys t locals)
  saved_spilled saved [] t locals all m s = s
  saved_spilled saved (ty ∷ tys) t locals all m s =
      let k = length saved + length tys in
      let locals1 = with_local locals (slot k ty) (temporary ty t k) in
      let e : length (tys ++ saved) ≡ k = let a = length-append tys saved in omega (arith, a) in (
        ap (λ h. local_at (spilled (length saved) tys t locals1) (slot h ty)) e
            ∙ spilled_other (length saved) tys t locals1 k ty all.1 all.0 (omega arith)
            ∙ get_same locals (slot k ty) (temporary ty t k) (let s1 = slot_there k ty all.0 in let s2 = m.long in omega (arith, s1, s2))
            ∙ ap (temporary ty t) (sym e),
        subst (λ h. Has h ty) (sym e) all.0,
        saved_spilled saved tys t locals1 all.1 (mirrors_set locals k ty (temporary ty t k) m) (saved_set saved t locals k ty (temporary ty t k) all.0 (omega arith) s),
      )

  pub zero_plus : (m : ℕ) → m ≡ 0 + m
  zero_plus m = omega arith

  pub saved_rest : (tys saved : List Ty) (t : Temporaries) (locals : List Value) → Saved (tys ++ saved) t locals → Saved saved t locals
  saved_rest [] saved t locals s = s
  saved_rest (ty ∷ tys) saved t locals s = saved_rest tys saved t locals s.2

  pub at_append : (line : ℕ) (a b : List Instruction) (rest : List Line) → at line (a ++ b) ++ rest ≡ at line a ++ (at line b ++ rest)
  at_append line [] b rest = refl
  at_append line (i ∷ a) b rest = ap (λ c. line_of line i ∷ c) (at_append line a b rest)

  pub reloads_do : (line : ℕ) (saved tys : List Ty) (t : Temporaries) (stack locals : List Value) (rest : List Line) (w : W) → Saved (tys ++ saved) t locals →
      go_on (at line (reloads slot (length saved) tys) ++ rest) [] locals w ≡ go_on rest (stack_of tys (length saved) t) locals w
  reloads_do line saved [] t stack locals rest w s = refl
  reloads_do line saved (ty ∷ tys) t stack locals rest w s =
      let k = length saved + length tys in
      let e : length (tys ++ saved) ≡ k = let a = length-append tys saved in omega (arith, a) in
      ap (λ c. go_on c [] locals w) (at_append line (reloads slot (length saved) tys) (To.get (slot k ty) ∷ []) rest)
      ∙ reloads_do line saved tys t stack locals (line_of line (To.get (slot k ty)) ∷ rest) w s.2
      ∙ ap (λ v. go_on rest (v ∷ stack_of tys (length saved) t) locals w) (ap (λ h. local_at locals (slot h ty)) (sym e) ∙ s.0 ∙ ap (temporary ty t) e)

  -- what a jump looks at
  abbrev pub tested : Ty → Value → Value
  tested int v = v
  tested unsigned v = Number (converted Int (number_in v))
  tested char v = v
  tested ty v = as_wanted false (is_true (as_wanted false (is_true v)))

  pub twice : (b : Bool) → is_true (as_wanted false (is_true (as_wanted false b))) ≡ b
  twice true = refl
  twice false = refl

  pub tested_holds : (ty : Ty) (v : Value) → is_true (tested ty v) ≡ holds ty v
  tested_holds int v = refl
  tested_holds unsigned v = refl
  tested_holds char v = refl
  tested_holds region v = twice (is_true v)
  tested_holds (struct k) v = twice (is_true v)
  tested_holds (pointer note target) v = twice (is_true v)

  pub test_does : (line : ℕ) (ty : Ty) (v : Value) (stack locals : List Value) (rest : List Line) (w : W) → go_on (at line (test_code ty) ++ rest) (v ∷ stack) locals w ≡ go_on rest (tested ty v ∷ stack) locals w
  test_does line int v stack locals rest w = refl
  test_does line unsigned v stack locals rest w = refl
  test_does line char v stack locals rest w = refl
  test_does line region v stack locals rest w = refl
  test_does line (struct k) v stack locals rest w = refl
  test_does line (pointer note target) v stack locals rest w = refl

  pub dropped_pushed : (xs below : List Ty) (m : ℕ) → dropped (m + length xs) (pushed xs below) ≡ dropped m below
  dropped_pushed [] below m = let e : m + 0 ≡ m = omega arith in ap (λ k. dropped k below) e
  dropped_pushed (x ∷ xs) below m =
      let e : m + length (x ∷ xs) ≡ suc m + length xs = omega arith in
      ap (λ k. dropped k (pushed xs (x ∷ below))) e ∙ dropped_pushed xs (x ∷ below) (suc m)

  abbrev pub Agrees : List Line → (saved tys : List Ty) → (Temporaries → W → Run W Value) → Type 0
  Agrees rest saved tys next = (t : Temporaries) (locals : List Value) (w : W) → Fine w → Mirrors locals → Saved saved t locals → go_on rest (stack_of tys (length saved) t) locals w ≡ next t w

  pub bind_ext : {A : Type 0} (m : Run W A) (f g : A → W → Run W Value) → ((x : A) (w : W) → f x w ≡ g x w) → bind m f ≡ bind m g
  bind_ext (Go x w) f g h = h x w
  bind_ext (Stopped e w) f g h = refl

  -- behind the arms of a fork
  pub join_does : (line : ℕ) (saved below : List Ty) (result : Ty) (rest : List Line) (next : Temporaries → W → Run W Value) → Agrees rest saved (result ∷ below) next → (t : Temporaries) (locals : List Value) (w : W) → Fine w → Mirrors locals → Saved (below ++ saved) t locals → Has (length saved + length below) result →
      (h : ℕ) → h ≡ length saved + length below →
      go_on ((at line (reloads slot (length saved) below) ++ line_of line (To.get (slot h result)) ∷ []) ++ rest) [] (with_local locals (slot h result) (temporary result t h)) w ≡ next t w
  join_does line saved below result rest next ag t locals w fine m s has h e =
      let locals1 = with_local locals (slot h result) (temporary result t h) in
      let le : length (below ++ saved) ≡ h = let a = length-append below saved in omega (arith, a, e) in
      let hash : Has h result = subst (λ j. Has j result) (sym e) has in
      let s1 = saved_set (below ++ saved) t locals h result (temporary result t h) hash (omega (arith, le)) s in
      ap (λ c. go_on c [] locals1 w) (append_assoc (at line (reloads slot (length saved) below)) (line_of line (To.get (slot h result)) ∷ []) rest)
      ∙ reloads_do line saved below t [] locals1 (line_of line (To.get (slot h result)) ∷ rest) w s1
      ∙ ap (λ v. go_on rest (v ∷ stack_of below (length saved) t) locals1 w) (get_same locals (slot h result) (temporary result t h) (let a = slot_there h result hash in let b = m.long in omega (arith, a, b)) ∙ ap (temporary result t) e)
      ∙ ag t locals1 w fine (mirrors_set locals h result (temporary result t h) m) (saved_rest below saved t locals1 s1)

  -- one of two arms, behind the jump
  abbrev pub ArmDoes : List Line → (saved : List Ty) → (result : Ty) → (Temporaries → W → Run W Temporaries) → Type 0
  ArmDoes code saved result run = (rest : List Line) (next : Temporaries → W → Run W Value) → Agrees rest saved (result ∷ []) next →
      (t : Temporaries) (locals : List Value) (w : W) → Fine w → Mirrors locals → Saved saved t locals → go_on (code ++ rest) [] locals w ≡ bind (run t w) next

  pub arms_do : (line : ℕ) (saved below : List Ty) (result : Ty) (ca cb : List Line) (run_a run_b : Temporaries → W → Run W Temporaries) (rest : List Line) (next : Temporaries → W → Run W Value) →
      ArmDoes ca (below ++ saved) result run_a → ArmDoes cb (below ++ saved) result run_b → Agrees rest saved (result ∷ below) next →
      (t : Temporaries) (locals : List Value) (w : W) → Fine w → Mirrors locals → Saved (below ++ saved) t locals → Has (length saved + length below) result → (u : Value) (b : Bool) → is_true u ≡ b → (k : ℕ) → k ≡ length saved + length below →
      go_on (line_of line (To.jump_zero (suc (suc (length ca)))) ∷ (ca ++ (line_of line (To.set (slot k result) (wide result)) ∷ line_of line (To.jump (suc (length cb))) ∷ (cb ++ (line_of line (To.set (slot k result) (wide result)) ∷ ((at line (reloads slot (length saved) below) ++ line_of line (To.get (slot k result)) ∷ []) ++ rest)))))) (u ∷ []) locals w ≡ bind (branching b (run_a t) (run_b t) w) next
  arms_do line saved below result ca cb run_a run_b rest next da db ag t locals w fine m s has u b e k ek =
      ap (λ c. branching c (λ w1. go_on (ca ++ body_end) [] locals w1) (λ w1. walk ops deleting (ca ++ body_end) calls again (suc (suc (length ca))) [] locals w1) w) e
      ∙ by b
    where
      tail : List Line
      tail = at line (reloads slot (length saved) below) ++ line_of line (To.get (slot k result)) ∷ []

      put : Line
      put = line_of line (To.set (slot k result) (wide result))

      head_end : List Line
      head_end = put ∷ (tail ++ rest)

      body_end : List Line
      body_end = put ∷ line_of line (To.jump (suc (length cb))) ∷ (cb ++ head_end)

      top : (t1 : Temporaries) → kept (wide result) (temporary result t1 (length (below ++ saved) + 0)) ≡ temporary result t1 k
      top t1 = kept_wide result (temporary result t1 (length (below ++ saved) + 0)) ∙ (let x = length-append below saved in let y : length (below ++ saved) + 0 ≡ k = omega (arith, x, ek) in ap (temporary result t1) y)

      ends : Agrees head_end (below ++ saved) (result ∷ []) next
      ends t1 locals1 w1 fine1 m1 s1 = ap (λ v. go_on (tail ++ rest) [] (with_local locals1 (slot k result) v) w1) (top t1) ∙ join_does line saved below result rest next ag t1 locals1 w1 fine1 m1 s1 has k ek

      jumps : Agrees body_end (below ++ saved) (result ∷ []) next
      jumps t1 locals1 w1 fine1 m1 s1 =
          let x : suc (length cb) ≡ length cb + 1 = omega arith in
          let locals2 = with_local locals1 (slot k result) (kept (wide result) (temporary result t1 (length (below ++ saved) + 0))) in
          ap (λ n. walk ops deleting (cb ++ head_end) calls again n [] locals2 w1) x
          ∙ walk_past ops deleting calls again cb head_end 1 [] locals2 w1
          ∙ ap (λ v. go_on (tail ++ rest) [] (with_local locals1 (slot k result) v) w1) (top t1)
          ∙ join_does line saved below result rest next ag t1 locals1 w1 fine1 m1 s1 has k ek

      by : (b : Bool) → branching b (λ w1. go_on (ca ++ body_end) [] locals w1) (λ w1. walk ops deleting (ca ++ body_end) calls again (suc (suc (length ca))) [] locals w1) w ≡ bind (branching b (run_a t) (run_b t) w) next
      by true = da body_end next jumps t locals w fine m s
      by false =
          let x : suc (suc (length ca)) ≡ length ca + 2 = omega arith in
          ap (λ n. walk ops deleting (ca ++ body_end) calls again n [] locals w) x
          ∙ walk_past ops deleting calls again ca body_end 2 [] locals w
          ∙ db head_end next ends t locals w fine m s

  pub flat : (a b c d e rest : List Line) (x y z : Line) → (a ++ (b ++ (x ∷ (c ++ (y ∷ z ∷ (d ++ (y ∷ e))))))) ++ rest ≡ a ++ (b ++ (x ∷ (c ++ (y ∷ z ∷ (d ++ (y ∷ (e ++ rest)))))))
  flat a b c d e rest x y z =
      append_assoc a _ rest
      ∙ ap (λ q. a ++ q) (append_assoc b _ rest
      ∙ ap (λ q. b ++ (x ∷ q)) (append_assoc c _ rest
      ∙ ap (λ q. c ++ (y ∷ z ∷ q)) (append_assoc d (y ∷ e) rest)))

  -- operands are exchanged by way of their locals
  exchange_does : (line h : ℕ) (low high : Ty) (t : Temporaries) (stack locals : List Value) (rest : List Line) (w : W) → Mirrors locals → Has h low → Has (suc h) high →
      go_on (at line (exchange slot h low high) ++ rest) (temporary high t (suc h) ∷ temporary low t h ∷ stack) locals w
      ≡ go_on rest (temporary low t h ∷ temporary high t (suc h) ∷ stack) (with_local (with_local locals (slot (suc h) high) (temporary high t (suc h))) (slot h low) (temporary low t h)) w
  exchange_does line h low high t stack locals rest w m hl hh =
      ap (λ v. go_on gets (temporary low t h ∷ stack) (with_local locals (slot (suc h) high) v) w) (kept_wide high (temporary high t (suc h)))
      ∙ ap (λ v. go_on gets1 stack (with_local locals1 (slot h low) v) w) (kept_wide low (temporary low t h))
      ∙ ap (λ v. go_on (line_of line (To.get (slot h low)) ∷ rest) (v ∷ stack) locals2 w) (get_other locals1 (slot h low) (slot (suc h) high) (temporary low t h) (slots_apart h (suc h) low high hl hh (omega arith))
      ∙ get_same locals (slot (suc h) high) (temporary high t (suc h)) (let a = slot_there (suc h) high hh in let b = m.long in omega (arith, a, b)))
      ∙ ap (λ v. go_on rest (v ∷ temporary high t (suc h) ∷ stack) locals2 w) (get_same locals1 (slot h low) (temporary low t h) (let a = slot_there h low hl in let b = m.long in let c = length_with locals (slot (suc h) high) (temporary high t (suc h)) in omega (arith, a, b, c)))
    where
      locals1 : List Value
      locals1 = with_local locals (slot (suc h) high) (temporary high t (suc h))

      locals2 : List Value
      locals2 = with_local locals1 (slot h low) (temporary low t h)

      gets1 : List Line
      gets1 = line_of line (To.get (slot (suc h) high)) ∷ line_of line (To.get (slot h low)) ∷ rest

      gets : List Line
      gets = line_of line (To.set (slot h low) (wide low)) ∷ gets1

  step_there : (line h : ℕ) (ty : Ty) (op : Operation) (below tys saved : List Ty) (t : Temporaries) (rest : List Line) (next : Temporaries → W → Run W Value) → tys ≡ pushed (operands ty op) below → h ≡ length saved + length below → Agrees rest saved (step_types (set line h ty op) tys) next →
      (v : Value) (locals : List Value) (w : W) → Fine w → Mirrors locals → Saved saved t locals → go_on rest (v ∷ stack_of below (length saved) t) locals w ≡ next (with_temporary ty t h v) w
  step_there line h ty op below tys saved t rest next et eh ag v locals w fine m s =
      let ty_is : step_types (set line h ty op) tys ≡ ty ∷ below = ap (λ x. ty ∷ dropped (length (operands ty op)) x) et ∙ ap (λ x. ty ∷ x) (ap (λ k. dropped k (pushed (operands ty op) below)) (zero_plus (length (operands ty op))) ∙ dropped_pushed (operands ty op) below 0) in
      ap (λ st. go_on rest st locals w) (stack_set ty below (length saved) t v ∙ ap (λ k. stack_of (ty ∷ below) (length saved) (with_temporary ty t k v)) (sym eh) ∙ ap (λ x. stack_of x (length saved) (with_temporary ty t h v)) (sym ty_is))
      ∙ ag (with_temporary ty t h v) locals w fine m (saved_lower saved h t (with_temporary ty t h v) locals (set_lower (kind_of ty) t h v) (omega (arith, eh)) s)

  bind_when : {A : Type 0} (m : Run W A) (f g : A → W → Run W Value) → IfGoes (λ _ w1. Fine w1) m → ((x : A) (w : W) → Fine w → f x w ≡ g x w) → bind m f ≡ bind m g
  bind_when (Go x w) f g fine h = h x w fine
  bind_when (Stopped e w) f g fine h = refl

  abbrev pub OneDoes : ℕ → ℕ → Ty → Operation → Type 0
  OneDoes line h ty op = (below tys saved : List Ty) → tys ≡ pushed (operands ty op) below → h ≡ length saved + length below → OperationServed types ty op → OperationKeeps Has types h op → (live : ℕ → Bool) (rest : List Line) (next : Temporaries → W → Run W Value) → Agrees rest saved (step_types (set line h ty op) tys) next →
      (t : Temporaries) (locals : List Value) (w : W) → Fine w → Mirrors locals → Saved saved t locals → go_on (at line (set_code slot deleting types h ty op live) ++ rest) (stack_of tys (length saved) t) locals w ≡ bind (operation_value ops deleting types line op calls live env t h w) (λ v w1. next (with_temporary ty t h v) w1)

  in_place : (line h : ℕ) (ty : Ty) (op : Operation) → InPlace ops deleting types slot calls again op → OneDoes line h ty op
  in_place line h ty op p below tys saved et eh f sp live rest next ag t locals w fine m s =
      ap (λ x. go_on (at line (set_code slot deleting types h ty op live) ++ rest) (stack_of x (length saved) t) locals w) et
      ∙ set_does ops deleting types slot calls again line h ty op p below (length saved) t env locals live rest w eh f m.same
      ∙ bind_when (operation_value ops deleting types line op calls live env t h w) _ (λ v w1. next (with_temporary ty t h v) w1) (operation_fine line op live t h w fine) (λ v w1 fine1. step_there line h ty op below tys saved t rest next et eh ag v locals w1 fine1 m s)

  moves : (line h : ℕ) (ty n pointed : Ty) → OneDoes line h ty (From.step_from n pointed)
  moves line h ty n pointed below tys saved et eh f sp live rest next ag t locals w fine m s =
      let locals1 = with_local locals (slot (suc h) pointed) (temporary pointed t (suc h)) in
      let locals2 = with_local locals1 (slot h n) (temporary n t h) in
      let mv = line_of line (To.move pointed (signed_of n) Forward) in
      let code1 = at line (exchange slot h n pointed ++ To.move pointed (signed_of n) Forward ∷ []) ++ rest in
      let m1 = mirrors_set locals (suc h) pointed (temporary pointed t (suc h)) m in
      let s1 = saved_set saved t locals (suc h) pointed (temporary pointed t (suc h)) sp.1 (omega (arith, eh)) s in
      ap (λ x. go_on code1 (stack_of x (length saved) t) locals w) et
      ∙ ap (λ st. go_on code1 st locals w) (stack_pushed (n ∷ pointed ∷ []) below (length saved) h t eh)
      ∙ exchange_does line h n pointed t (stack_of below (length saved) t) locals (mv ∷ rest) w m sp.0 sp.1
      ∙ bind_when (operation_value ops deleting types line (From.step_from n pointed) calls live env t h w) (λ v. go_on rest (v ∷ stack_of below (length saved) t) locals2) (λ v w1. next (with_temporary ty t h v) w1) (operation_fine line (From.step_from n pointed) live t h w fine) (λ v w1 fine1. step_there line h ty (From.step_from n pointed) below tys saved t rest next et eh ag v locals2 w1 fine1 (mirrors_set locals1 h n (temporary n t h) m1) (saved_set saved t locals1 h n (temporary n t h) sp.0 (omega (arith, eh)) s1))

  one_set_does : (line h : ℕ) (ty : Ty) (op : Operation) → OneDoes line h ty op
  one_set_does line h ty (From.constant s n) = in_place line h ty (From.constant s n) tt
  one_set_does line h ty From.null = in_place line h ty From.null tt
  one_set_does line h ty (From.static g) = in_place line h ty (From.static g) tt
  one_set_does line h ty (From.copy x) = in_place line h ty (From.copy x) tt
  one_set_does line h ty (From.load a) = in_place line h ty (From.load a) tt
  one_set_does line h ty (From.step direction pointed n) = in_place line h ty (From.step direction pointed n) tt
  one_set_does line h ty (From.unary operator s) = in_place line h ty (From.unary operator s) tt
  one_set_does line h ty (From.binary operator s right) = in_place line h ty (From.binary operator s right) tt
  one_set_does line h ty (From.convert from to) = in_place line h ty (From.convert from to) tt
  one_set_does line h ty (From.not_zero of) = in_place line h ty (From.not_zero of) tt
  one_set_does line h ty (From.truth of) = in_place line h ty (From.truth of) tt
  one_set_does line h ty (From.is_null wanted of) = in_place line h ty (From.is_null wanted of) tt
  one_set_does line h ty (From.same wanted of) = in_place line h ty (From.same wanted of) tt
  one_set_does line h ty (From.call g tys) = in_place line h ty (From.call g tys) tt
  one_set_does line h ty From.new_region = in_place line h ty From.new_region tt
  one_set_does line h ty From.new_subregion = in_place line h ty From.new_subregion tt
  one_set_does line h ty (From.region_of of) = in_place line h ty (From.region_of of) tt
  one_set_does line h ty (From.allocate made layout) = in_place line h ty (From.allocate made layout) tt
  one_set_does line h ty (From.allocate_array made layout) = in_place line h ty (From.allocate_array made layout) tt
  one_set_does line h ty From.putchar = in_place line h ty From.putchar tt
  one_set_does line h ty From.getchar = in_place line h ty From.getchar tt
  one_set_does line h ty (From.step_from n pointed) = moves line h ty n pointed

  mutual
    pub steps_do : (s : Steps) (saved tys : List Ty) → StepsServed Has types s (length saved) tys → (live : ℕ → Bool) (rest : List Line) (next : Temporaries → W → Run W Value) → Agrees rest saved (steps_types s tys) next →
        (t : Temporaries) (locals : List Value) (w : W) → Fine w → Mirrors locals → Saved saved t locals → go_on (steps_lines slot deleting types s saved tys live ++ rest) (stack_of tys (length saved) t) locals w ≡ bind (steps_run ops deleting types s calls live env t w) next
    steps_do none saved tys f live rest next ag t locals w fine m s = ag t locals w fine m s
    steps_do (more st r) saved tys f live rest next ag t locals w fine m s =
        ap (λ c. go_on c (stack_of tys (length saved) t) locals w) (append_assoc (step_lines slot deleting types st saved tys (before_steps r live)) (steps_lines slot deleting types r saved (step_types st tys) live) rest)
        ∙ a_step_does st saved tys f.0 (before_steps r live) (steps_lines slot deleting types r saved (step_types st tys) live ++ rest) (λ t1 w1. bind (steps_run ops deleting types r calls live env t1 w1) next)
        (λ t1 locals1 w1 fine1 m1 s1. steps_do r saved (step_types st tys) f.1 live rest next ag t1 locals1 w1 fine1 m1 s1) t locals w fine m s
        ∙ sym (bind_bind (step_run ops deleting types st calls (before_steps r live) env t w) (steps_run ops deleting types r calls live env) next)

    a_step_does : (s : Step) (saved tys : List Ty) → StepServed Has types s (length saved) tys → (live : ℕ → Bool) (rest : List Line) (next : Temporaries → W → Run W Value) → Agrees rest saved (step_types s tys) next →
        (t : Temporaries) (locals : List Value) (w : W) → Fine w → Mirrors locals → Saved saved t locals → go_on (step_lines slot deleting types s saved tys live ++ rest) (stack_of tys (length saved) t) locals w ≡ bind (step_run ops deleting types s calls live env t w) next
    a_step_does (set line h ty op) saved tys f live rest next ag t locals w fine m s =
        one_set_does line h ty op f.0 tys saved f.1 f.2 f.3 f.4 live rest next ag t locals w fine m s
        ∙ sym (bind_bind (operation_value ops deleting types line op calls live env t h w) (λ v w1. Go (with_temporary ty t h v) w1) next)
    a_step_does (fork line h test result a b) saved [] f live rest next ag t locals w fine m s = absurd f
    a_step_does (fork line h test result a b) saved (ty ∷ below) f live rest next ag t locals w fine m s =
        let k = length saved + length below in
        let saved1 = below ++ saved in
        let len : length saved1 ≡ h = let x = length-append below saved in let y = f.1 in omega (arith, x, y) in
        let ca = steps_lines slot deleting types a saved1 [] live in
        let cb = steps_lines slot deleting types b saved1 [] live in
        let tail = at line (reloads slot (length saved) below) ++ line_of line (To.get (slot k result)) ∷ [] in
        let put = line_of line (To.set (slot k result) (wide result)) in
        let over = line_of line (To.jump (suc (length cb))) in
        let zero_jump = line_of line (To.jump_zero (suc (suc (length ca)))) in
        let locals1 = spilled (length saved) (ty ∷ below) t locals in
        let m1 = mirrors_spilled (length saved) (ty ∷ below) t locals m in
        let s0 = saved_spilled saved (ty ∷ below) t locals f.6 m s in
        let jumped = zero_jump ∷ (ca ++ (put ∷ over ∷ (cb ++ (put ∷ (tail ++ rest))))) in
        ap (λ c. go_on c (stack_of (ty ∷ below) (length saved) t) locals w) (flat (at line (spills slot (length saved) (ty ∷ below))) (at line (To.get (slot k ty) ∷ test_code test)) ca cb tail rest zero_jump put over)
        ∙ spills_do line (length saved) (ty ∷ below) t locals (at line (To.get (slot k ty) ∷ test_code test) ++ jumped) w
        ∙ ap (λ v. go_on (at line (test_code test) ++ jumped) (v ∷ []) locals1 w) (ap (λ j. local_at locals1 (slot j ty)) (let x = length-append below saved in let y : k ≡ length (below ++ saved) = omega (arith, x) in y) ∙ s0.0 ∙ ap (temporary ty t) len)
        ∙ test_does line test (temporary ty t h) [] locals1 jumped w
        ∙ arms_do line saved below result ca cb (steps_run ops deleting types a calls live env) (steps_run ops deleting types b calls live env) rest next
        (λ rest1 next1 ag1 t1 locals2 w1 fine2 m2 s2. steps_do a saved1 [] (subst (λ j. StepsServed Has types a j []) (sym len) f.2) live rest1 next1 (subst (λ x. Agrees rest1 saved1 x next1) (sym f.3) ag1) t1 locals2 w1 fine2 m2 s2)
        (λ rest1 next1 ag1 t1 locals2 w1 fine2 m2 s2. steps_do b saved1 [] (subst (λ j. StepsServed Has types b j []) (sym len) f.4) live rest1 next1 (subst (λ x. Agrees rest1 saved1 x next1) (sym f.5) ag1) t1 locals2 w1 fine2 m2 s2)
        ag t locals1 w fine m1 s0.2 (subst (λ j. Has j result) f.1 f.7) (tested test (temporary ty t h)) (holds test (temporary test t h)) (tested_holds test (temporary ty t h) ∙ ap (λ u. holds test (temporary u t h)) f.0) k refl
