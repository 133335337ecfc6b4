-- A statement's code does what the statement does, in any world.
use Rattle.std.proofs.Common.{◌≡◌, ◌≢◌, ◌<◌, ◌≤◌, ℕ, zero, suc, ◌+◌, Bool, true, false, not, ◌||◌, ◌&&◌, List, [], ◌∷◌, ◌++◌, length, Option, Some, None, refl, sym, ap, ◌∙◌, arith, append_assoc, length-append}
use Rattle.std.specs.Prelude.{is_some}
use Rattle.rc_core.specs.Types.{Ty, int, unsigned, char, region, struct, pointer}
use Rattle.rc_core.specs.Heap.{Value, zero_of}
use Rattle.rc_core.specs.Live.{Ways, then_live, round}
use Rattle.rc_core.specs.Runs.{Run, Go, Stopped, bind, branching, Calls, Ops}
use Rattle.rc_core.specs.Laws.{IfGoes}
use Rattle.rc_core.specs.Evaluation.{is_true, as_wanted}
use Rattle.rc_core.specs.Execution.{with_local}
use Rattle.rc_rlang.specs.RegionCode.{Steps, Act, Test, Code, simple, clear, block, branch, loop, repeat, break, continue, Codes, done, then}
use Rattle.rc_rlang.specs.RegionRuns.{Temporaries, temporary, holds, Way, Next, Broke, Continued, Returned, behind, behind_body, test_value, steps_run, act_run, rounds, rounds_first, code_run, codes_run}
use Rattle.rc_rlang.specs.RegionLive.{before_act, before_code, before_codes, loop_head, repeat_tail}
use Rattle.rc_emission.specs.StackCode.{Instruction, Line, Onward, walk, run_code}
use Rattle.rc_emission.specs.OperationCode.{line_of, at}
use Rattle.rc_rlang.specs.RegionFits.{steps_types, test_types}
use Rattle.rc_emission.specs.StatementCode.{Place, zero_code, exit_test, exit_lines, exit_size, last_line, steps_lines, act_lines, code_size, codes_size, code_lines, codes_lines}
use Rattle.rc_emission.specs.Served.{StepsServed, CodeServed, CodesServed}
use Rattle.rc_translation.proofs.Sames.{bind_bind}
use Rattle.rc_emission.proofs.Singles.{walk_past, zero_does}
use Rattle.rc_emission.specs.Pieces.{stack_of, Mirrored}
use Rattle.rc_emission.proofs.Mirrored.{mirrors_assign}
use Rattle.rc_emission.proofs.StepsDo.{steps_do}
use Rattle.rc_emission.specs.Turns.{Turning, CallsWithin}
use Rattle.rc_emission.proofs.ActsDo.{Fine, operation_fine, act_does}
use Rattle.rc_emission.specs.StackCode as To

length_at : (line : ℕ) (is : List Instruction) → length (at line is) ≡ length is
length_at line [] = refl
length_at line (i ∷ is) = ap suc (length_at line is)

pub exit_long : (test : Option Test) (over : ℕ) → length (exit_lines test over) ≡ exit_size test
exit_long None over = refl
exit_long (Some test) over =
    let a = length-append (at test.line (exit_test test.wanted test.ty)) (line_of test.line (To.jump_zero over) ∷ []) in
    let b = length_at test.line (exit_test test.wanted test.ty) in
    omega (arith, a, b)

flat_three : (a b c rest : List Line) (x : Line) → (a ++ (b ++ (c ++ x ∷ []))) ++ rest ≡ a ++ (b ++ (c ++ (x ∷ rest)))
flat_three a b c rest x = append_assoc a _ rest ∙ ap (λ q. a ++ q) (append_assoc b _ rest ∙ ap (λ q. b ++ q) (append_assoc c (x ∷ []) rest))

flat_four : (a b c d rest : List Line) (x : Line) → (a ++ (b ++ (c ++ (d ++ x ∷ [])))) ++ rest ≡ a ++ (b ++ (c ++ (d ++ (x ∷ rest))))
flat_four a b c d rest x = append_assoc a _ rest ∙ ap (λ q. a ++ q) (flat_three b c d rest x)

flat_arms : (a b c d rest : List Line) (x : Line) → (a ++ (b ++ (c ++ (x ∷ d)))) ++ rest ≡ a ++ (b ++ (c ++ (x ∷ (d ++ rest))))
flat_arms a b c d rest x = append_assoc a _ rest ∙ ap (λ q. a ++ q) (append_assoc b _ rest ∙ ap (λ q. b ++ q) (append_assoc c (x ∷ d) rest))

-- a branch on an operand
module _ {W : Type 0} (ops : Ops W) (deleting : ℕ → Bool) (calls : Calls W) (again : Onward W) where
  abbrev run : List Line → (past : ℕ) → (stack locals : List Value) → W → Run W Value
  run code past stack locals w = walk ops deleting code calls again past stack locals w

  two_nots : (b : Bool) → is_true (as_wanted false (is_true (as_wanted false b))) ≡ b
  two_nots true = refl
  two_nots false = refl

  one_not : (b : Bool) → is_true (as_wanted false b) ≡ not b
  one_not true = refl
  one_not false = refl

  test_exits : (line over : ℕ) (ty : Ty) (v : Value) (locals : List Value) (rest : List Line) (w : W) →
      run (at line (exit_test true ty) ++ (line_of line (To.jump_zero over) ∷ rest)) 0 (v ∷ []) locals w ≡ branching (holds ty v) (run rest 0 [] locals) (run rest over [] locals) w
  test_exits line over int v locals rest w = refl
  test_exits line over unsigned v locals rest w = refl
  test_exits line over char v locals rest w = refl
  test_exits line over region v locals rest w = ap (λ b. branching b (run rest 0 [] locals) (run rest over [] locals) w) (two_nots (is_true v))
  test_exits line over (struct k) v locals rest w = ap (λ b. branching b (run rest 0 [] locals) (run rest over [] locals) w) (two_nots (is_true v))
  test_exits line over (pointer note target) v locals rest w = ap (λ b. branching b (run rest 0 [] locals) (run rest over [] locals) w) (two_nots (is_true v))

  wanted_exits : (wanted : Bool) (line over : ℕ) (ty : Ty) (t : Temporaries) (locals : List Value) (rest : List Line) (w : W) →
      run (at line (exit_test wanted ty) ++ (line_of line (To.jump_zero over) ∷ rest)) 0 (temporary ty t 0 ∷ []) locals w ≡ branching (test_value (Some (record { line = line; ty = ty; wanted = wanted })) t) (run rest 0 [] locals) (run rest over [] locals) w
  wanted_exits true line over ty t locals rest w = test_exits line over ty (temporary ty t 0) locals rest w
  wanted_exits false line over ty t locals rest w =
      zero_does ops deleting calls again line ty (temporary ty t 0) [] locals (line_of line (To.jump_zero over) ∷ rest) w
      ∙ ap (λ b. branching b (run rest 0 [] locals) (run rest over [] locals) w) (one_not (holds ty (temporary ty t 0)))

  pub exit_does : (test : Option Test) (over : ℕ) (tys : List Ty) (t : Temporaries) (locals : List Value) (rest : List Line) (w : W) → tys ≡ test_types test →
      run (exit_lines test over ++ rest) 0 (stack_of tys 0 t) locals w ≡ branching (test_value test t) (run rest 0 [] locals) (run rest over [] locals) w
  exit_does None over tys t locals rest w e = ap (λ x. run rest 0 (stack_of x 0 t) locals w) e
  exit_does (Some test) over tys t locals rest w e =
      ap (λ x. run (exit_lines (Some test) over ++ rest) 0 (stack_of x 0 t) locals w) e
      ∙ ap (λ c. run c 0 (temporary test.ty t 0 ∷ []) locals w) (append_assoc (at test.line (exit_test test.wanted test.ty)) (line_of test.line (To.jump_zero over) ∷ []) rest)
      ∙ wanted_exits test.wanted test.line over test.ty t locals rest w

  -- past a piece and on
  pub past_by : (a rest : List Line) (k m : ℕ) (stack locals : List Value) (w : W) → k ≡ length a + m → run (a ++ rest) k stack locals w ≡ run rest m stack locals w
  past_by a rest k m stack locals w e = ap (λ j. run (a ++ rest) j stack locals w) e ∙ walk_past ops deleting calls again a rest m stack locals w

module _ (slot : ℕ → Ty → ℕ) (deleting : ℕ → Bool) (types : List Ty) where
  mutual
    pub size_is : (c : Code) (k : Ways) (p : Place) → length (code_lines slot deleting types c k p) ≡ code_size slot deleting types c k
    size_is (simple steps act) k p = length-append (steps_lines slot deleting types steps [] [] (before_act act k.next)) (act_lines slot deleting types (last_line steps) act (steps_types steps []) k.next)
    size_is (clear line x ty) k p = refl
    size_is (block codes) k p = sizes_are codes k p
    size_is (branch steps test a b) k p =
        let head = steps_lines slot deleting types steps [] [] (λ y. before_code a k y || before_code b k y) in
        let at1 = p.at + (length head + exit_size (Some test)) in
        let sa = code_size slot deleting types a k in
        let sb = code_size slot deleting types b k in
        let pa : Place = record { at = at1; out = suc (sb + p.out); on = suc (sb + p.on) } in
        let pb : Place = record p { at = at1 + (sa + 1) } in
        let ca = code_lines slot deleting types a k pa in
        let cb = code_lines slot deleting types b k pb in
        let ex = exit_lines (Some test) (sa + 1) in
        let jump = line_of test.line (To.jump sb) in
        let l1 = length-append head (ex ++ (ca ++ (jump ∷ cb))) in
        let l2 = length-append ex (ca ++ (jump ∷ cb)) in
        let l3 = length-append ca (jump ∷ cb) in
        let l4 = exit_long (Some test) (sa + 1) in
        let l5 = size_is a k pa in
        let l6 = size_is b k pb in
        omega (arith, l1, l2, l3, l4, l5, l6)
    size_is (loop line steps test third a) k p =
        let k2 = then_live (loop_head steps test third a k) k in
        let k1 = round (before_code third k2) k in
        let head = steps_lines slot deleting types steps [] [] (λ y. (is_some test && k.next y) || before_code a k1 y) in
        let at1 = p.at + (length head + exit_size test) in
        let sa = code_size slot deleting types a k1 in
        let st = code_size slot deleting types third k2 in
        let pa : Place = record { at = at1; out = st + 1; on = 0 } in
        let pt : Place = record { at = at1 + sa; out = suc p.out; on = suc p.on } in
        let ca = code_lines slot deleting types a k1 pa in
        let ct = code_lines slot deleting types third k2 pt in
        let ex = exit_lines test (sa + (st + 1)) in
        let l1 = length-append head (ex ++ (ca ++ (ct ++ line_of line (To.back p.at) ∷ []))) in
        let l2 = length-append ex (ca ++ (ct ++ line_of line (To.back p.at) ∷ [])) in
        let l3 = length-append ca (ct ++ line_of line (To.back p.at) ∷ []) in
        let l4 = length-append ct (line_of line (To.back p.at) ∷ []) in
        let l5 = exit_long test (sa + (st + 1)) in
        let l6 = size_is a k1 pa in
        let l7 = size_is third k2 pt in
        omega (arith, l1, l2, l3, l4, l5, l6, l7)
    size_is (repeat line a steps test) k p =
        let k1 = round (repeat_tail a steps test k) k in
        let tail = steps_lines slot deleting types steps [] [] (λ y. k.next y || before_code (repeat 0 a steps test) k y) in
        let pa : Place = record { at = p.at; out = length tail + (exit_size (Some test) + 1); on = 0 } in
        let ca = code_lines slot deleting types a k1 pa in
        let ex = exit_lines (Some test) 1 in
        let l1 = length-append ca (tail ++ (ex ++ line_of line (To.back p.at) ∷ [])) in
        let l2 = length-append tail (ex ++ line_of line (To.back p.at) ∷ []) in
        let l3 = length-append ex (line_of line (To.back p.at) ∷ []) in
        let l4 = exit_long (Some test) 1 in
        let l5 = size_is a k1 pa in
        omega (arith, l1, l2, l3, l4, l5)
    size_is (break line) k p = refl
    size_is (continue line) k p = refl

    pub sizes_are : (cs : Codes) (k : Ways) (p : Place) → length (codes_lines slot deleting types cs k p) ≡ codes_size slot deleting types cs k
    sizes_are done k p = refl
    sizes_are (then c rest) k p =
        let k1 = then_live (before_codes rest k) k in
        let p1 : Place = record p { out = codes_size slot deleting types rest k + p.out; on = codes_size slot deleting types rest k + p.on } in
        let p2 : Place = record p { at = p.at + code_size slot deleting types c k1 } in
        let l1 = length-append (code_lines slot deleting types c k1 p1) (codes_lines slot deleting types rest k p2) in
        let l2 = size_is c k1 p1 in
        let l3 = sizes_are rest k p2 in
        omega (arith, l1, l2, l3)

module _ {W : Type 0} (ops : Ops W) (turning : Turning ops) (deleting : ℕ → Bool) (types : List Ty) (slot : ℕ → Ty → ℕ) (calls : Calls W) (calls_fine : CallsWithin ops calls) (n : ℕ) (Has : ℕ → Ty → Type 0)
    (slot_behind : (h : ℕ) (ty : Ty) → length types ≤ slot h ty) (slot_there : (h : ℕ) (ty : Ty) → Has h ty → slot h ty < n) (slots_apart : (h k : ℕ) (ty uy : Ty) → Has h ty → Has k uy → h < k → slot h ty ≢ slot k uy)
    (room : length types ≤ n) (code : List Line) where
  abbrev from : ℕ → List Line → (past : ℕ) → (stack locals : List Value) → W → Run W Value
  from m is past stack locals w = walk ops deleting is calls (run_code ops deleting code calls m) past stack locals w

  abbrev Mirrors : List Value → List Value → Type 0
  Mirrors env locals = Mirrored (length types) n env locals

  -- the code from a place on
  abbrev pub Stands : ℕ → List Line → Type 0
  Stands at is = (again : Onward W) (m : ℕ) (stack locals : List Value) (w : W) → walk ops deleting code calls again (at + m) stack locals w ≡ walk ops deleting is calls again m stack locals w

  stands_past : (at at1 : ℕ) (a rest : List Line) → Stands at (a ++ rest) → at1 ≡ at + length a → Stands at1 rest
  stands_past at at1 a rest h e again m stack locals w =
      let e1 : at1 + m ≡ at + (length a + m) = omega (arith, e) in
      ap (λ j. walk ops deleting code calls again j stack locals w) e1 ∙ h again (length a + m) stack locals w ∙ walk_past ops deleting calls again a rest m stack locals w

  stands_as : (at : ℕ) (a b : List Line) → a ≡ b → Stands at a → Stands at b
  stands_as at a b e st again m stack locals w = st again m stack locals w ∙ ap (λ c. walk ops deleting c calls again m stack locals w) e

  -- where the machine goes on from a piece
  abbrev pub goes_on : ℕ → List Line → Place → Way → (locals : List Value) → W → Run W Value
  goes_on m rest p (Next env t) locals w = from m rest 0 [] locals w
  goes_on m rest p (Broke env t) locals w = from m rest p.out [] locals w
  goes_on m rest p (Continued env t) locals w = from m rest p.on [] locals w
  goes_on m rest p (Returned v) locals w = Go v w

  abbrev pub Reflects : Way → List Value → Type 0
  Reflects (Next env t) locals = Mirrors env locals
  Reflects (Broke env t) locals = Mirrors env locals
  Reflects (Continued env t) locals = Mirrors env locals
  Reflects (Returned v) locals = Unit {0}

  -- what comes after is this, with so many turns or fewer
  abbrev pub Agrees : ℕ → List Line → Place → (Way → W → Run W Value) → Type 0
  Agrees b rest p next = (m : ℕ) (way : Way) (locals : List Value) (w : W) → ops.turns_left w ≤ b → ops.turns_left w ≤ m → Reflects way locals → goes_on m rest p way locals w ≡ next way w

  -- a piece of code does what this does
  abbrev pub Does : ℕ → List Line → (List Value → Temporaries → W → Run W Way) → (Way → W → Run W Value) → Type 0
  Does b is run next = (m : ℕ) (env : List Value) (t : Temporaries) (locals : List Value) (w : W) → ops.turns_left w ≤ b → ops.turns_left w ≤ m → Mirrors env locals → from m is 0 [] locals w ≡ bind (run env t w) next

  -- operations first
  steps_first : (b m : ℕ) (steps : Steps) → StepsServed Has types steps 0 [] → (live : ℕ → Bool) (rest : List Line) (run : Temporaries → W → Run W Way) (next : Way → W → Run W Value) (env : List Value) (t : Temporaries) (locals : List Value) (w : W) → ops.turns_left w ≤ b → ops.turns_left w ≤ m → Mirrors env locals →
      ((t1 : Temporaries) (locals1 : List Value) (w1 : W) → ops.turns_left w1 ≤ b → ops.turns_left w1 ≤ m → Mirrors env locals1 → from m rest 0 (stack_of (steps_types steps []) 0 t1) locals1 w1 ≡ bind (run t1 w1) next) →
      from m (steps_lines slot deleting types steps [] [] live ++ rest) 0 [] locals w ≡ bind (bind (steps_run ops deleting types steps calls live env t w) run) next
  steps_first b m steps fits live rest run next env t locals w hb hm mi k =
      steps_do ops deleting types slot calls (run_code ops deleting code calls m) env n Has slot_behind slot_there slots_apart
      (Fine ops turning deleting types slot calls calls_fine (run_code ops deleting code calls m) env n Has slot_behind slot_there slots_apart room b m)
      (operation_fine ops turning deleting types slot calls calls_fine (run_code ops deleting code calls m) env n Has slot_behind slot_there slots_apart room b m)
      steps [] [] fits live rest (λ t1 w1. bind (run t1 w1) next) (λ t1 locals1 w1 fine1 m1 s1. k t1 locals1 w1 fine1.0 fine1.1 m1) t locals w (hb, hm) mi tt
      ∙ sym (bind_bind (steps_run ops deleting types steps calls live env t w) run next)

  exec : Code → Ways → List Value → Temporaries → W → Run W Way
  exec c k env t w = code_run ops deleting types c calls k env t w

  simple_does : (b : ℕ) (steps : Steps) (act : Act) (k : Ways) (p : Place) (rest : List Line) (next : Way → W → Run W Value) → CodeServed Has types (simple steps act) → Agrees b rest p next → Does b (code_lines slot deleting types (simple steps act) k p ++ rest) (λ env t w. code_run ops deleting types (simple steps act) calls k env t w) next
  simple_does b steps act k p rest next fits ag m env t locals w hb hm mi =
      let tys = steps_types steps [] in
      ap (λ c. from m c 0 [] locals w) (append_assoc (steps_lines slot deleting types steps [] [] (before_act act k.next)) (act_lines slot deleting types (last_line steps) act tys k.next) rest)
      ∙ steps_first b m steps fits.0 (before_act act k.next) (act_lines slot deleting types (last_line steps) act tys k.next ++ rest) (λ t1 w1. act_run ops deleting types act calls k.next env t1 w1) next env t locals w hb hm mi (λ t1 locals1 w1 hb1 hm1 mi1.
      act_does ops turning deleting types slot calls calls_fine (run_code ops deleting code calls m) env n Has slot_behind slot_there slots_apart room b m act tys fits.1 fits.2 (last_line steps) k.next rest next
      (record { goes = λ env2 t2 locals2 w2 f2 mi2. ag m (Next env2 t2) locals2 w2 f2.0 f2.1 mi2; returns = λ v w2 f2. ag m (Returned v) locals1 w2 f2.0 f2.1 tt }) t1 locals1 w1 (hb1, hm1) mi1)

  -- a step back: the turn, and the code at the head
  back_does : (at b m : ℕ) (go : W → Run W Way) (next : Way → W → Run W Value) (locals : List Value) (w : W) → ops.turns_left w ≤ b → ops.turns_left w ≤ m → ((m1 : ℕ) (w1 : W) → ops.turns_left w1 < b → ops.turns_left w1 ≤ m1 → from m1 code at [] locals w1 ≡ bind (go w1) next) →
      bind (ops.take_turn w) (λ _. run_code ops deleting code calls m at [] locals) ≡ bind (bind (ops.take_turn w) (λ _ w1. go w1)) next
  back_does at b m go next locals w hb hm k = by (ops.take_turn w) (turning.take_turn w b hb) (turning.take_turn w m hm)
    where
      there : (m : ℕ) (w1 : W) → ops.turns_left w1 < b → ops.turns_left w1 < m → run_code ops deleting code calls m at [] locals w1 ≡ bind (go w1) next
      there zero w1 lb lm = absurd (omega (arith, lm))
      there (suc m) w1 lb lm = k m w1 lb (omega (arith, lm))

      by : (r : Run W (Unit {0})) → IfGoes (λ _ w1. ops.turns_left w1 < b) r → IfGoes (λ _ w1. ops.turns_left w1 < m) r → bind r (λ _. run_code ops deleting code calls m at [] locals) ≡ bind (bind r (λ _ w1. go w1)) next
      by (Go x w1) lb lm = there m w1 lb lm
      by (Stopped e w1) lb lm = refl

  arms_meet : (c : Bool) (l r : W → Run W Value) (l1 r1 : W → Run W Way) (next : Way → W → Run W Value) (w : W) → l w ≡ bind (l1 w) next → r w ≡ bind (r1 w) next → branching c l r w ≡ bind (branching c l1 r1 w) next
  arms_meet true l r l1 r1 next w el er = el
  arms_meet false l r l1 r1 next w el er = er

  -- a condition, and one of two ways
  test_first : (b m : ℕ) (steps : Steps) (test : Option Test) → StepsServed Has types steps 0 [] → steps_types steps [] ≡ test_types test → (live : ℕ → Bool) (over : ℕ) (rest : List Line) (l r : Temporaries → W → Run W Way) (next : Way → W → Run W Value) (env : List Value) (t : Temporaries) (locals : List Value) (w : W) → ops.turns_left w ≤ b → ops.turns_left w ≤ m → Mirrors env locals →
      ((t1 : Temporaries) (locals1 : List Value) (w1 : W) → ops.turns_left w1 ≤ b → ops.turns_left w1 ≤ m → Mirrors env locals1 → from m rest 0 [] locals1 w1 ≡ bind (l t1 w1) next) →
      ((t1 : Temporaries) (locals1 : List Value) (w1 : W) → ops.turns_left w1 ≤ b → ops.turns_left w1 ≤ m → Mirrors env locals1 → from m rest over [] locals1 w1 ≡ bind (r t1 w1) next) →
      from m (steps_lines slot deleting types steps [] [] live ++ (exit_lines test over ++ rest)) 0 [] locals w ≡ bind (bind (steps_run ops deleting types steps calls live env t w) (λ t1. branching (test_value test t1) (l t1) (r t1))) next
  test_first b m steps test fits et live over rest l r next env t locals w hb hm mi kl kr =
      steps_first b m steps fits live (exit_lines test over ++ rest) (λ t1. branching (test_value test t1) (l t1) (r t1)) next env t locals w hb hm mi (λ t1 locals1 w1 hb1 hm1 mi1.
      exit_does ops deleting calls (run_code ops deleting code calls m) test over (steps_types steps []) t1 locals1 rest w1 et
      ∙ arms_meet (test_value test t1) (from m rest 0 [] locals1) (from m rest over [] locals1) (l t1) (r t1) next w1 (kl t1 locals1 w1 hb1 hm1 mi1) (kr t1 locals1 w1 hb1 hm1 mi1))

  -- what runs behind a body, and the step back
  abbrev Turned : (List Value → Temporaries → W → Run W Way) → List Value → Temporaries → W → Run W Way
  Turned go env t w = bind (ops.take_turn w) (λ _ w1. go env t w1)

  -- a loop, once all of its parts do what they do
  loop_does : (line : ℕ) (steps : Steps) (test : Option Test) (live : ℕ → Bool) → StepsServed Has types steps 0 [] → steps_types steps [] ≡ test_types test → (p pa pt : Place) (sa st : ℕ) (ca ct rest : List Line) (body third : List Value → Temporaries → W → Run W Way) (next : Way → W → Run W Value) →
      length ca ≡ sa → length ct ≡ st → pa.out ≡ st + 1 → pa.on ≡ 0 → pt.out ≡ suc p.out → pt.on ≡ suc p.on →
      ((b : ℕ) (next1 : Way → W → Run W Value) → Agrees b (ct ++ (line_of line (To.back p.at) ∷ rest)) pa next1 → Does b (ca ++ (ct ++ (line_of line (To.back p.at) ∷ rest))) body next1) →
      ((b : ℕ) (next1 : Way → W → Run W Value) → Agrees b (line_of line (To.back p.at) ∷ rest) pt next1 → Does b (ct ++ (line_of line (To.back p.at) ∷ rest)) third next1) →
      Stands p.at (steps_lines slot deleting types steps [] [] live ++ (exit_lines test (sa + (st + 1)) ++ (ca ++ (ct ++ (line_of line (To.back p.at) ∷ rest))))) →
      (fuel b : ℕ) → b < fuel → Agrees b rest p next →
      Does b (steps_lines slot deleting types steps [] [] live ++ (exit_lines test (sa + (st + 1)) ++ (ca ++ (ct ++ (line_of line (To.back p.at) ∷ rest)))))
      (rounds ops deleting types fuel (steps_run ops deleting types steps calls live) test (λ again env1 t1 w1. bind (body env1 t1 w1) (behind_body (λ env2 t2 w2. bind (third env2 t2 w2) (behind again))))) next
  loop_does line steps test live fits et p pa pt sa st ca ct rest body third next la lt eo en to tn hbody hthird stands zero b lt0 ag m env t locals w hb hm mi = absurd (omega (arith, lt0))
  loop_does line steps test live fits et p pa pt sa st ca ct rest body third next la lt eo en to tn hbody hthird stands (suc fuel) b lt0 ag m env t locals w hb hm mi =
      test_first b m steps test fits et live (sa + (st + 1)) (ca ++ (ct ++ (line_of line (To.back p.at) ∷ rest))) (λ t1 w1. bind (body env t1 w1) (behind_body (λ env2 t2 w2. bind (third env2 t2 w2) (behind (again_of fuel))))) (λ t1 w1. Go (Next env t1) w1) next env t locals w hb hm mi
      (λ t1 locals1 w1 hb1 hm1 mi1. hbody b (next_body (again_of fuel)) (body_agrees (again_of fuel) (hthird b (next_third (again_of fuel)) (third_agrees (again_of fuel) (λ m2 env2 t2 locals2 w2 hb2 hm2 mi2. back_does p.at b m2 (λ w3. again_run fuel env2 t2 w3) next locals2 w2 hb2 hm2 (λ m3 w3 l1 l2. here m3 locals2 w3 ∙ loop_does line steps test live fits et p pa pt sa st ca ct rest body third next la lt eo en to tn hbody hthird stands fuel (ops.turns_left w3) (omega (arith, l1, lt0)) (λ m4 way locals4 w4 g1 g2 g3. ag m4 way locals4 w4 (omega (arith, g1, l1)) g2 g3) m3 env2 t2 locals2 w3 (omega arith) l2 mi2))))) m env t1 locals1 w1 hb1 hm1 mi1
      ∙ sym (bind_bind (body env t1 w1) (behind_body (λ env2 t2 w2. bind (third env2 t2 w2) (behind (again_of fuel)))) next))
      (λ t1 locals1 w1 hb1 hm1 mi1. leaves m locals1 w1 ∙ ag m (Next env t1) locals1 w1 hb1 hm1 mi1)
    where
      back : Line
      back = line_of line (To.back p.at)

      again_run : ℕ → List Value → Temporaries → W → Run W Way
      again_run fuel = rounds ops deleting types fuel (steps_run ops deleting types steps calls live) test (λ again env1 t1 w1. bind (body env1 t1 w1) (behind_body (λ env2 t2 w2. bind (third env2 t2 w2) (behind again))))

      again_of : ℕ → List Value → Temporaries → W → Run W Way
      again_of fuel env2 t2 w2 = bind (ops.take_turn w2) (λ _ w3. again_run fuel env2 t2 w3)

      next_third : (List Value → Temporaries → W → Run W Way) → Way → W → Run W Value
      next_third again way w = bind (behind again way w) next

      next_body : (List Value → Temporaries → W → Run W Way) → Way → W → Run W Value
      next_body again way w = bind (behind_body (λ env2 t2 w2. bind (third env2 t2 w2) (behind again)) way w) next

      leaves : (m : ℕ) (locals : List Value) (w : W) → from m (ca ++ (ct ++ (back ∷ rest))) (sa + (st + 1)) [] locals w ≡ from m rest 0 [] locals w
      leaves m locals w =
          past_by ops deleting calls (run_code ops deleting code calls m) ca (ct ++ (back ∷ rest)) (sa + (st + 1)) (st + 1) [] locals w (omega (arith, la))
          ∙ past_by ops deleting calls (run_code ops deleting code calls m) ct (back ∷ rest) (st + 1) 1 [] locals w (omega (arith, lt))

      here : (m : ℕ) (locals : List Value) (w : W) → from m code p.at [] locals w ≡ from m (steps_lines slot deleting types steps [] [] live ++ (exit_lines test (sa + (st + 1)) ++ (ca ++ (ct ++ (back ∷ rest))))) 0 [] locals w
      here m locals w = let e : p.at ≡ p.at + 0 = omega arith in ap (λ j. from m code j [] locals w) e ∙ stands (run_code ops deleting code calls m) 0 [] locals w

      third_agrees : (again : List Value → Temporaries → W → Run W Way) → ((m : ℕ) (env : List Value) (t : Temporaries) (locals : List Value) (w : W) → ops.turns_left w ≤ b → ops.turns_left w ≤ m → Mirrors env locals → from m (back ∷ rest) 0 [] locals w ≡ bind (again env t w) next) → Agrees b (back ∷ rest) pt (next_third again)
      third_agrees again k m (Next env t) locals w hb hm mi = k m env t locals w hb hm mi
      third_agrees again k m (Broke env t) locals w hb hm mi = ap (λ j. from m (back ∷ rest) j [] locals w) to ∙ ag m (Broke env t) locals w hb hm mi
      third_agrees again k m (Continued env t) locals w hb hm mi = ap (λ j. from m (back ∷ rest) j [] locals w) tn ∙ ag m (Continued env t) locals w hb hm mi
      third_agrees again k m (Returned v) locals w hb hm mi = ag m (Returned v) locals w hb hm mi

      body_agrees : (again : List Value → Temporaries → W → Run W Way) → Does b (ct ++ (back ∷ rest)) third (next_third again) → Agrees b (ct ++ (back ∷ rest)) pa (next_body again)
      body_agrees again k m (Next env t) locals w hb hm mi = k m env t locals w hb hm mi ∙ sym (bind_bind (third env t w) (behind again) next)
      body_agrees again k m (Broke env t) locals w hb hm mi =
          past_by ops deleting calls (run_code ops deleting code calls m) ct (back ∷ rest) pa.out 1 [] locals w (omega (arith, lt, eo)) ∙ ag m (Next env t) locals w hb hm mi
      body_agrees again k m (Continued env t) locals w hb hm mi = ap (λ j. from m (ct ++ (back ∷ rest)) j [] locals w) en ∙ k m env t locals w hb hm mi ∙ sym (bind_bind (third env t w) (behind again) next)
      body_agrees again k m (Returned v) locals w hb hm mi = ag m (Returned v) locals w hb hm mi

  -- the condition behind the body
  repeat_does : (line : ℕ) (steps : Steps) (test : Option Test) (live : ℕ → Bool) → StepsServed Has types steps 0 [] → steps_types steps [] ≡ test_types test → (p pa : Place) (ca rest : List Line) (body : List Value → Temporaries → W → Run W Way) (next : Way → W → Run W Value) →
      pa.out ≡ length (steps_lines slot deleting types steps [] [] live) + (exit_size test + 1) → pa.on ≡ 0 →
      ((b : ℕ) (next1 : Way → W → Run W Value) → Agrees b (steps_lines slot deleting types steps [] [] live ++ (exit_lines test 1 ++ (line_of line (To.back p.at) ∷ rest))) pa next1 → Does b (ca ++ (steps_lines slot deleting types steps [] [] live ++ (exit_lines test 1 ++ (line_of line (To.back p.at) ∷ rest)))) body next1) →
      Stands p.at (ca ++ (steps_lines slot deleting types steps [] [] live ++ (exit_lines test 1 ++ (line_of line (To.back p.at) ∷ rest)))) →
      (fuel b : ℕ) → b < fuel → Agrees b rest p next →
      Does b (ca ++ (steps_lines slot deleting types steps [] [] live ++ (exit_lines test 1 ++ (line_of line (To.back p.at) ∷ rest))))
      (rounds_first ops deleting types fuel (steps_run ops deleting types steps calls live) test (λ again env1 t1 w1. bind (body env1 t1 w1) (behind_body again))) next
  repeat_does line steps test live fits et p pa ca rest body next eo en hbody stands zero b lt0 ag m env t locals w hb hm mi = absurd (omega (arith, lt0))
  repeat_does line steps test live fits et p pa ca rest body next eo en hbody stands (suc fuel) b lt0 ag m env t locals w hb hm mi =
      hbody b (next_body (tail_run (again_run fuel))) (body_agrees (tail_run (again_run fuel)) (tail_does (again_run fuel) (λ m2 env2 t2 locals2 w2 hb2 hm2 mi2. back_does p.at b m2 (λ w3. again_run fuel env2 t2 w3) next locals2 w2 hb2 hm2 (λ m3 w3 l1 l2. here m3 locals2 w3 ∙ repeat_does line steps test live fits et p pa ca rest body next eo en hbody stands fuel (ops.turns_left w3) (omega (arith, l1, lt0)) (λ m4 way locals4 w4 g1 g2 g3. ag m4 way locals4 w4 (omega (arith, g1, l1)) g2 g3) m3 env2 t2 locals2 w3 (omega arith) l2 mi2)))) m env t locals w hb hm mi
      ∙ sym (bind_bind (body env t w) (behind_body (tail_run (again_run fuel))) next)
    where
      back : Line
      back = line_of line (To.back p.at)

      tail : List Line
      tail = steps_lines slot deleting types steps [] [] live

      again_run : ℕ → List Value → Temporaries → W → Run W Way
      again_run fuel = rounds_first ops deleting types fuel (steps_run ops deleting types steps calls live) test (λ again env1 t1 w1. bind (body env1 t1 w1) (behind_body again))

      tail_run : (List Value → Temporaries → W → Run W Way) → List Value → Temporaries → W → Run W Way
      tail_run again env1 t1 w1 = bind (steps_run ops deleting types steps calls live env1 t1 w1) (λ t2. branching (test_value test t2) (λ w2. bind (ops.take_turn w2) (λ _ w3. again env1 t2 w3)) (Go (Next env1 t2)))

      next_body : (List Value → Temporaries → W → Run W Way) → Way → W → Run W Value
      next_body go way w = bind (behind_body go way w) next

      here : (m : ℕ) (locals : List Value) (w : W) → from m code p.at [] locals w ≡ from m (ca ++ (tail ++ (exit_lines test 1 ++ (back ∷ rest)))) 0 [] locals w
      here m locals w = let e : p.at ≡ p.at + 0 = omega arith in ap (λ j. from m code j [] locals w) e ∙ stands (run_code ops deleting code calls m) 0 [] locals w

      tail_does : (again : List Value → Temporaries → W → Run W Way) → ((m : ℕ) (env : List Value) (t : Temporaries) (locals : List Value) (w : W) → ops.turns_left w ≤ b → ops.turns_left w ≤ m → Mirrors env locals → from m (back ∷ rest) 0 [] locals w ≡ bind (bind (ops.take_turn w) (λ _ w1. again env t w1)) next) → Does b (tail ++ (exit_lines test 1 ++ (back ∷ rest))) (tail_run again) next
      tail_does again k m env t locals w hb hm mi =
          test_first b m steps test fits et live 1 (back ∷ rest) (λ t2 w2. bind (ops.take_turn w2) (λ _ w3. again env t2 w3)) (λ t2 w2. Go (Next env t2) w2) next env t locals w hb hm mi
          (λ t1 locals1 w1 hb1 hm1 mi1. k m env t1 locals1 w1 hb1 hm1 mi1) (λ t1 locals1 w1 hb1 hm1 mi1. ag m (Next env t1) locals1 w1 hb1 hm1 mi1)

      body_agrees : (go : List Value → Temporaries → W → Run W Way) → Does b (tail ++ (exit_lines test 1 ++ (back ∷ rest))) go next → Agrees b (tail ++ (exit_lines test 1 ++ (back ∷ rest))) pa (next_body go)
      body_agrees go k m (Next env t) locals w hb hm mi = k m env t locals w hb hm mi
      body_agrees go k m (Broke env t) locals w hb hm mi =
          let x = exit_long test 1 in
          past_by ops deleting calls (run_code ops deleting code calls m) tail (exit_lines test 1 ++ (back ∷ rest)) pa.out (exit_size test + 1) [] locals w (omega (arith, eo))
          ∙ past_by ops deleting calls (run_code ops deleting code calls m) (exit_lines test 1) (back ∷ rest) (exit_size test + 1) 1 [] locals w (omega (arith, x))
          ∙ ag m (Next env t) locals w hb hm mi
      body_agrees go k m (Continued env t) locals w hb hm mi = ap (λ j. from m (tail ++ (exit_lines test 1 ++ (back ∷ rest))) j [] locals w) en ∙ k m env t locals w hb hm mi
      body_agrees go k m (Returned v) locals w hb hm mi = ag m (Returned v) locals w hb hm mi

  -- past what stands between a piece and the rest
  mid_agrees : (b : ℕ) (mid rest : List Line) (p p1 : Place) (next next1 : Way → W → Run W Value) → p1.out ≡ length mid + p.out → p1.on ≡ length mid + p.on → Agrees b rest p next →
      ((m : ℕ) (env : List Value) (t : Temporaries) (locals : List Value) (w : W) → ops.turns_left w ≤ b → ops.turns_left w ≤ m → Mirrors env locals → from m (mid ++ rest) 0 [] locals w ≡ next1 (Next env t) w) →
      ((env : List Value) (t : Temporaries) (w : W) → next (Broke env t) w ≡ next1 (Broke env t) w) → ((env : List Value) (t : Temporaries) (w : W) → next (Continued env t) w ≡ next1 (Continued env t) w) → ((v : Value) (w : W) → next (Returned v) w ≡ next1 (Returned v) w) → Agrees b (mid ++ rest) p1 next1
  mid_agrees b mid rest p p1 next next1 eo en ag hn hb hc hr m (Next env t) locals w h h1 mi = hn m env t locals w h h1 mi
  mid_agrees b mid rest p p1 next next1 eo en ag hn hb hc hr m (Broke env t) locals w h h1 mi =
      past_by ops deleting calls (run_code ops deleting code calls m) mid rest p1.out p.out [] locals w eo ∙ ag m (Broke env t) locals w h h1 mi ∙ hb env t w
  mid_agrees b mid rest p p1 next next1 eo en ag hn hb hc hr m (Continued env t) locals w h h1 mi =
      past_by ops deleting calls (run_code ops deleting code calls m) mid rest p1.on p.on [] locals w en ∙ ag m (Continued env t) locals w h h1 mi ∙ hc env t w
  mid_agrees b mid rest p p1 next next1 eo en ag hn hb hc hr m (Returned v) locals w h h1 mi = ag m (Returned v) locals w h h1 mi ∙ hr v w

  zero_does_it : (line x : ℕ) (ty : Ty) (rest : List Line) (m : ℕ) (locals : List Value) (w : W) → from m (line_of line (zero_code ty) ∷ line_of line (To.set x ty) ∷ rest) 0 [] locals w ≡ from m rest 0 [] (with_local locals x (zero_of ty)) w
  zero_does_it line x int rest m locals w = refl
  zero_does_it line x unsigned rest m locals w = refl
  zero_does_it line x char rest m locals w = refl
  zero_does_it line x region rest m locals w = refl
  zero_does_it line x (struct k) rest m locals w = refl
  zero_does_it line x (pointer note target) rest m locals w = refl

  mutual
    pub code_does : (c : Code) → CodeServed Has types c → (k : Ways) (p : Place) (rest : List Line) (next : Way → W → Run W Value) (b : ℕ) → Stands p.at (code_lines slot deleting types c k p ++ rest) → Agrees b rest p next → Does b (code_lines slot deleting types c k p ++ rest) (code_run ops deleting types c calls k) next
    code_does (simple steps act) fits k p rest next b st ag = simple_does b steps act k p rest next fits ag
    code_does (clear line x ty) fits k p rest next b st ag = λ m env t locals w hb hm mi.
        zero_does_it line x ty rest m locals w ∙ ag m (Next (with_local env x (zero_of ty)) t) (with_local locals x (zero_of ty)) w hb hm (mirrors_assign (length types) n env locals x (zero_of ty) room mi)
    code_does (block codes) fits k p rest next b st ag = codes_do codes fits k p rest next b st ag
    code_does (branch steps test l r) fits k p rest next b st ag =
        let live : ℕ → Bool = λ y. before_code l k y || before_code r k y in
        let head = steps_lines slot deleting types steps [] [] live in
        let at1 = p.at + (length head + exit_size (Some test)) in
        let sl = code_size slot deleting types l k in
        let sr = code_size slot deleting types r k in
        let pl : Place = record { at = at1; out = suc (sr + p.out); on = suc (sr + p.on) } in
        let pr : Place = record p { at = at1 + (sl + 1) } in
        let cl = code_lines slot deleting types l k pl in
        let cr = code_lines slot deleting types r k pr in
        let ex = exit_lines (Some test) (sl + 1) in
        let jump = line_of test.line (To.jump sr) in
        let flat = flat_arms head ex cl cr rest jump in
        let zl = size_is slot deleting types l k pl in
        let zr = size_is slot deleting types r k pr in
        let xl = exit_long (Some test) (sl + 1) in
        let st1 = stands_past p.at (p.at + length head) head _ (stands_as p.at _ _ flat st) refl in
        let st2 = stands_past (p.at + length head) at1 ex _ st1 (omega (arith, xl)) in
        let st3 = stands_past at1 (at1 + sl) cl _ st2 (omega (arith, zl)) in
        let st4 = stands_past (at1 + sl) (at1 + (sl + 1)) (jump ∷ []) _ st3 (omega arith) in
        let does_r = code_does r fits.3 k pr rest next b st4 ag in
        let skip : (m : ℕ) (locals : List Value) (w : W) → from m (jump ∷ (cr ++ rest)) 0 [] locals w ≡ from m rest 0 [] locals w = λ m locals w. past_by ops deleting calls (run_code ops deleting code calls m) cr rest sr 0 [] locals w (omega (arith, zr)) in
        let ag_l = mid_agrees b (jump ∷ cr) rest p pl next next (omega (arith, zr)) (omega (arith, zr)) ag (λ m env t locals w hb hm mi. skip m locals w ∙ ag m (Next env t) locals w hb hm mi) (λ env t w. refl) (λ env t w. refl) (λ v w. refl) in
        let does_l = code_does l fits.2 k pl (jump ∷ (cr ++ rest)) next b st2 ag_l in
        λ m env t locals w hb hm mi. ap (λ c. from m c 0 [] locals w) flat
        ∙ test_first b m steps (Some test) fits.0 fits.1 live (sl + 1) (cl ++ (jump ∷ (cr ++ rest))) (λ t1 w1. code_run ops deleting types l calls k env t1 w1) (λ t1 w1. code_run ops deleting types r calls k env t1 w1) next env t locals w hb hm mi
        (λ t1 locals1 w1 hb1 hm1 mi1. does_l m env t1 locals1 w1 hb1 hm1 mi1)
        (λ t1 locals1 w1 hb1 hm1 mi1. past_by ops deleting calls (run_code ops deleting code calls m) cl (jump ∷ (cr ++ rest)) (sl + 1) 1 [] locals1 w1 (omega (arith, zl)) ∙ does_r m env t1 locals1 w1 hb1 hm1 mi1)
    code_does (loop line steps test third a) fits k p rest next b st ag =
        let k2 = then_live (loop_head steps test third a k) k in
        let k1 = round (before_code third k2) k in
        let live : ℕ → Bool = λ y. (is_some test && k.next y) || before_code a k1 y in
        let head = steps_lines slot deleting types steps [] [] live in
        let at1 = p.at + (length head + exit_size test) in
        let sa = code_size slot deleting types a k1 in
        let sth = code_size slot deleting types third k2 in
        let pa : Place = record { at = at1; out = sth + 1; on = 0 } in
        let pt : Place = record { at = at1 + sa; out = suc p.out; on = suc p.on } in
        let ca = code_lines slot deleting types a k1 pa in
        let ct = code_lines slot deleting types third k2 pt in
        let ex = exit_lines test (sa + (sth + 1)) in
        let back = line_of line (To.back p.at) in
        let flat = flat_four head ex ca ct rest back in
        let za = size_is slot deleting types a k1 pa in
        let zt = size_is slot deleting types third k2 pt in
        let xl = exit_long test (sa + (sth + 1)) in
        let st0 = stands_as p.at _ _ flat st in
        let st1 = stands_past p.at (p.at + length head) head _ st0 refl in
        let st2 = stands_past (p.at + length head) at1 ex _ st1 (omega (arith, xl)) in
        let st3 = stands_past at1 (at1 + sa) ca _ st2 (omega (arith, za)) in
        λ m env t locals w hb hm mi. ap (λ c. from m c 0 [] locals w) flat
        ∙ loop_does line steps test live fits.0 fits.1 p pa pt sa sth ca ct rest (code_run ops deleting types a calls k1) (code_run ops deleting types third calls k2) next za zt refl refl refl refl
        (λ b1 next1 ag1. code_does a fits.3 k1 pa (ct ++ (back ∷ rest)) next1 b1 st2 ag1) (λ b1 next1 ag1. code_does third fits.2 k2 pt (back ∷ rest) next1 b1 st3 ag1) st0 (suc (ops.turns_left w)) (ops.turns_left w) (omega arith) (λ m1 way locals1 w1 g1 g2 g3. ag m1 way locals1 w1 (omega (arith, g1, hb)) g2 g3) m env t locals w (omega arith) hm mi
    code_does (repeat line a steps test) fits k p rest next b st ag =
        let k1 = round (repeat_tail a steps test k) k in
        let live : ℕ → Bool = λ y. k.next y || before_code (repeat 0 a steps test) k y in
        let tail = steps_lines slot deleting types steps [] [] live in
        let pa : Place = record { at = p.at; out = length tail + (exit_size (Some test) + 1); on = 0 } in
        let ca = code_lines slot deleting types a k1 pa in
        let ex = exit_lines (Some test) 1 in
        let back = line_of line (To.back p.at) in
        let flat = flat_three ca tail ex rest back in
        let st0 = stands_as p.at _ _ flat st in
        λ m env t locals w hb hm mi. ap (λ c. from m c 0 [] locals w) flat
        ∙ repeat_does line steps (Some test) live fits.1 fits.2 p pa ca rest (code_run ops deleting types a calls k1) next refl refl (λ b1 next1 ag1. code_does a fits.0 k1 pa (tail ++ (ex ++ (back ∷ rest))) next1 b1 st0 ag1) st0 (suc (ops.turns_left w)) (ops.turns_left w) (omega arith) (λ m1 way locals1 w1 g1 g2 g3. ag m1 way locals1 w1 (omega (arith, g1, hb)) g2 g3) m env t locals w (omega arith) hm mi
    code_does (break line) fits k p rest next b st ag = λ m env t locals w hb hm mi. ag m (Broke env t) locals w hb hm mi
    code_does (continue line) fits k p rest next b st ag = λ m env t locals w hb hm mi. ag m (Continued env t) locals w hb hm mi

    pub codes_do : (cs : Codes) → CodesServed Has types cs → (k : Ways) (p : Place) (rest : List Line) (next : Way → W → Run W Value) (b : ℕ) → Stands p.at (codes_lines slot deleting types cs k p ++ rest) → Agrees b rest p next → Does b (codes_lines slot deleting types cs k p ++ rest) (codes_run ops deleting types cs calls k) next
    codes_do done fits k p rest next b st ag = λ m env t locals w hb hm mi. ag m (Next env t) locals w hb hm mi
    codes_do (then c cs) fits k p rest next b st ag =
        let k1 = then_live (before_codes cs k) k in
        let size = codes_size slot deleting types cs k in
        let p1 : Place = record p { out = size + p.out; on = size + p.on } in
        let p2 : Place = record p { at = p.at + code_size slot deleting types c k1 } in
        let cc = code_lines slot deleting types c k1 p1 in
        let cr = codes_lines slot deleting types cs k p2 in
        let flat = append_assoc cc cr rest in
        let zc = size_is slot deleting types c k1 p1 in
        let zr = sizes_are slot deleting types cs k p2 in
        let st1 = stands_as p.at _ _ flat st in
        let st2 = stands_past p.at (p.at + code_size slot deleting types c k1) cc _ st1 (omega (arith, zc)) in
        let next1 : Way → W → Run W Value = λ way w. bind (behind (codes_run ops deleting types cs calls k) way w) next in
        let ag1 = mid_agrees b cr rest p p1 next next1 (omega (arith, zr)) (omega (arith, zr)) ag (codes_do cs fits.1 k p2 rest next b st2 ag) (λ env t w. refl) (λ env t w. refl) (λ v w. refl) in
        λ m env t locals w hb hm mi. ap (λ c. from m c 0 [] locals w) flat ∙ code_does c fits.0 k1 p1 (cr ++ rest) next1 b st1 ag1 m env t locals w hb hm mi ∙ sym (bind_bind (code_run ops deleting types c calls k1 env t w) (behind (codes_run ops deleting types cs calls k)) next)
