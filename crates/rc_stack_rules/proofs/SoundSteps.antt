-- Emitted code keeps the loader's rules.
use Rattle.std.proofs.Common.{◌≡◌, ◌≤◌, ℕ, zero, suc, ◌+◌, Bool, true, false, List, [], ◌∷◌, ◌++◌, length, Option, Some, None, refl, sym, ap, ◌∙◌, subst, arith, length-append, append_assoc}
use Rattle.rc_core.specs.Types.{Ty, int, unsigned, char, region, struct, pointer}
use Rattle.rc_rlang.specs.RegionCode.{Operation, Step, Steps, set, fork, none, more, Act, Test, Code, simple, clear, block, branch, loop, repeat, break, continue, Codes, done, then}
use Rattle.rc_emission.specs.StackCode.{Instruction, Line}
use Rattle.rc_rlang.specs.RegionFits.{operands, pushed, dropped, step_types, steps_types, ActFits, test_types}
use Rattle.rc_emission.specs.OperationCode.{line_of, at, zero_test, test_code, wide, spills, reloads}
use Rattle.rc_rlang.specs.RegionLive.{before_steps, before_act, before_code, before_codes, loop_head, repeat_tail}
use Rattle.rc_emission.specs.StatementCode.{Place, zero_code, exit_size, last_line, act_lines, code_size, codes_size, code_lines, codes_lines, exit_test, exit_lines, set_code, steps_lines, step_lines}
use Rattle.rc_emission.specs.Served.{ActKeeps, CodeServed, CodesServed, AllKept, OperationKeeps, OperationServed, StepServed, StepsServed}
use Rattle.rc_emission.proofs.CodesDo.{size_is, sizes_are, exit_long}
use Rattle.rc_stack_rules.specs.LoaderRules.{kinds, local_kind, Way, onward, forward, backward, away, way_of, after, Lands, Leads, Sound}
use Rattle.rc_rlang.specs.RegionKinds.{kind_ty, OperationKinded, StepKinded, StepsKinded, ActKinded, CodeKinded, CodesKinded}
use Rattle.rc_emission.specs.StackCode as To
use Rattle.std.specs.Prelude.{◌||◌, ◌&&◌, is_some}
use Rattle.rc_core.specs.Live.{Ways, then_live, round}

pub at_split : (line : ℕ) (a b : List Instruction) → at line (a ++ b) ≡ at line a ++ at line b
at_split line [] b = refl
at_split line (i ∷ a) b = ap (λ c. line_of line i ∷ c) (at_split line a b)

pub drop_pushed : (xs below : List Ty) (m : ℕ) → dropped (m + length xs) (pushed xs below) ≡ dropped m below
drop_pushed [] below m = let e : m + 0 ≡ m = omega arith in ap (λ k. dropped k below) e
drop_pushed (x ∷ xs) below m =
    let e : m + length (x ∷ xs) ≡ suc m + length xs = omega arith in
    ap (λ k. dropped k (pushed xs (x ∷ below))) e ∙ drop_pushed xs (x ∷ below) (suc m)

module _ (locals : List Ty) (global_ty result_ty : ℕ → Ty) (mark : ℕ → Type 0) where
  abbrev pub S : (ok : ℕ → Type 0) → (at : ℕ) → List Line → (from to : List Ty) → Type 0
  S ok at code from to = Sound locals global_ty result_ty ok mark at code from to

  abbrev pub L : (ok : ℕ → Type 0) → List Line → List Ty → ℕ → Type 0
  L ok code ks n = Lands locals global_ty result_ty ok code ks n

  abbrev pub next_kinds : Instruction → List Ty → List Ty
  next_kinds i ks = after locals global_ty result_ty i ks

  abbrev pub final : List Line → List Ty → List Ty
  final [] ks = ks
  final (i ∷ is) ks = final is (next_kinds i.instruction ks)

  pub sound_final : (ok : ℕ → Type 0) (at : ℕ) (a : List Line) (from to : List Ty) → S ok at a from to → final a from ≡ to
  sound_final ok at [] from to s = s
  sound_final ok at (i ∷ a) from to s = sound_final ok (suc at) a (next_kinds i.instruction from) to s.2

  pub lands_append : (ok : ℕ → Type 0) (a b : List Line) (ks mid : List Ty) (n : ℕ) → final a ks ≡ mid → L (λ m. L ok b mid m) a ks n → L ok (a ++ b) ks n
  lands_append ok [] b ks mid n e l = subst (λ k. L ok b k n) (sym e) l
  lands_append ok (i ∷ a) b ks mid zero e l = l
  lands_append ok (i ∷ a) b ks mid (suc n) e l = lands_append ok a b (next_kinds i.instruction ks) mid n e l

  -- behind a piece
  pub lands_past : (ok : ℕ → Type 0) (a b : List Line) (ks mid : List Ty) (k n : ℕ) → k ≡ length a + n → final a ks ≡ mid → L ok b mid n → L ok (a ++ b) ks k
  lands_past ok [] b ks mid k n ek e l = subst (λ x. L ok b x k) (sym e) (subst (λ j. L ok b mid j) (let f : n ≡ k = omega (arith, ek) in f) l)
  lands_past ok (i ∷ a) b ks mid zero n ek e l = absurd (omega (arith, ek))
  lands_past ok (i ∷ a) b ks mid (suc k) n ek e l = lands_past ok a b (next_kinds i.instruction ks) mid k n (omega (arith, ek)) e l

  pub lands_mono : (ok ok1 : ℕ → Type 0) → ((n : ℕ) → ok n → ok1 n) → (a : List Line) (ks : List Ty) (n : ℕ) → L ok a ks n → L ok1 a ks n
  lands_mono ok ok1 f [] ks n l = f n l
  lands_mono ok ok1 f (i ∷ a) ks zero l = l
  lands_mono ok ok1 f (i ∷ a) ks (suc n) l = lands_mono ok ok1 f a (next_kinds i.instruction ks) n l

  -- at the head
  pub lands_here : (ok : ℕ → Type 0) (a : List Line) → ok 0 → L ok a [] 0
  lands_here ok [] l = l
  lands_here ok (i ∷ a) l = refl

  -- at the end
  pub lands_end : (ok : ℕ → Type 0) (a : List Line) (ks : List Ty) (k n : ℕ) → k ≡ length a + n → ok n → L ok a ks k
  lands_end ok [] ks k n ek l = subst ok (let f : n ≡ k = omega (arith, ek) in f) l
  lands_end ok (i ∷ a) ks zero n ek l = absurd (omega (arith, ek))
  lands_end ok (i ∷ a) ks (suc k) n ek l = lands_end ok a (next_kinds i.instruction ks) k n (omega (arith, ek)) l

  leads_append : (ok : ℕ → Type 0) (at : ℕ) (way : Way) (a b : List Line) (ks mid : List Ty) → final a ks ≡ mid → Leads locals global_ty result_ty (λ m. L ok b mid m) mark at way a ks → Leads locals global_ty result_ty ok mark at way (a ++ b) ks
  leads_append ok at onward a b ks mid e l = tt
  leads_append ok at (forward n) a b ks mid e l = (l.0, lands_append ok a b ks mid n e l.1)
  leads_append ok at (backward to) a b ks mid e l = l
  leads_append ok at away a b ks mid e l = l

  pub sound_append : (ok : ℕ → Type 0) (at at1 : ℕ) (a b : List Line) (from mid to : List Ty) → at1 ≡ at + length a → S (λ m. L ok b mid m) at a from mid → S ok at1 b mid to → S ok at (a ++ b) from to
  sound_append ok at at1 [] b from mid to e sa sb = subst (λ k. S ok at b k to) (sym sa) (subst (λ j. S ok j b mid to) (let f : at1 ≡ at = omega (arith, e) in f) sb)
  sound_append ok at at1 (i ∷ a) b from mid to e sa sb =
      (sa.0, leads_append ok at (way_of i.instruction) a b (next_kinds i.instruction from) mid (sound_final (λ m. L ok b mid m) (suc at) a (next_kinds i.instruction from) mid sa.2) sa.1, sound_append ok (suc at) at1 a b (next_kinds i.instruction from) mid to (omega (arith, e)) sa.2 sb)

  module _ (types : List Ty) (slot : ℕ → Ty → ℕ) (deleting : ℕ → Bool) (Has : ℕ → Ty → Type 0) (slot_kind : (h : ℕ) (ty : Ty) → Has h ty → local_kind locals global_ty result_ty (slot h ty) ≡ kind_ty ty)
      (set_sound : (line h : ℕ) (ty : Ty) (op : Operation) (below : List Ty) (live : ℕ → Bool) (ok : ℕ → Type 0) (place : ℕ) → OperationServed types ty op → OperationKinded locals global_ty result_ty ty op → OperationKeeps Has types h op → S ok place (at line (set_code slot deleting types h ty op live)) (kinds (pushed (operands ty op) below)) (kind_ty ty ∷ kinds below)) where
    put_sound : (line h : ℕ) (ty : Ty) (rest : List Line) (below : List Ty) (ok : ℕ → Type 0) (place : ℕ) (to : List Ty) → Has h ty → S ok (suc place) rest below to → S ok place (line_of line (To.set (slot h ty) (wide ty)) ∷ rest) (kind_ty ty ∷ below) to
    put_sound line h ty rest below ok place to has s = ((below, ap (λ k. k ∷ below) (sym (slot_kind h ty has))), tt, s)

    pub spills_sound : (line base : ℕ) (tys : List Ty) (ok : ℕ → Type 0) (place : ℕ) → AllKept Has types base tys → S ok place (at line (spills slot base tys)) (kinds tys) []
    spills_sound line base [] ok place all = refl
    spills_sound line base (ty ∷ tys) ok place all = put_sound line (base + length tys) ty (at line (spills slot base tys)) (kinds tys) ok place [] all.0 (spills_sound line base tys ok (suc place) all.1)

    pub get_sound : (line h : ℕ) (ty : Ty) (ok : ℕ → Type 0) (place : ℕ) (below : List Ty) → Has h ty → S ok place (line_of line (To.get (slot h ty)) ∷ []) below (kind_ty ty ∷ below)
    get_sound line h ty ok place below has = ((below, refl), tt, ap (λ k. k ∷ below) (slot_kind h ty has))

    reloads_sound : (line base : ℕ) (tys : List Ty) (ok : ℕ → Type 0) (place : ℕ) → AllKept Has types base tys → S ok place (at line (reloads slot base tys)) [] (kinds tys)
    reloads_sound line base [] ok place all = refl
    reloads_sound line base (ty ∷ tys) ok place all =
        let a = reloads slot base tys in
        subst (λ c. S ok place c [] (kind_ty ty ∷ kinds tys)) (sym (at_split line a (To.get (slot (base + length tys) ty) ∷ [])))
        (sound_append ok place (place + length (at line a)) (at line a) (line_of line (To.get (slot (base + length tys) ty)) ∷ []) [] (kinds tys) (kind_ty ty ∷ kinds tys) refl
        (reloads_sound line base tys (λ m. L ok (line_of line (To.get (slot (base + length tys) ty)) ∷ []) (kinds tys) m) place all.1)
        (get_sound line (base + length tys) ty ok (place + length (at line a)) (kinds tys) all.0))

    test_sound : (line : ℕ) (ty : Ty) (ok : ℕ → Type 0) (place : ℕ) (below : List Ty) → S ok place (at line (test_code ty)) (kind_ty ty ∷ below) (int ∷ below)
    test_sound line int ok place below = refl
    test_sound line unsigned ok place below = ((below, refl), tt, refl)
    test_sound line char ok place below = refl
    test_sound line region ok place below = ((below, refl), tt, ((below, refl), tt, refl))
    test_sound line (struct k) ok place below = ((below, refl), tt, ((below, refl), tt, refl))
    test_sound line (pointer note target) ok place below = ((below, refl), tt, ((below, refl), tt, refl))

    mutual
      pub steps_sound : (s : Steps) (saved tys : List Ty) → StepsServed Has types s (length saved) tys → StepsKinded locals global_ty result_ty s → (live : ℕ → Bool) (ok : ℕ → Type 0) (place : ℕ) → S ok place (steps_lines slot deleting types s saved tys live) (kinds tys) (kinds (steps_types s tys))
      steps_sound none saved tys f l live ok place = refl
      steps_sound (more st r) saved tys f l live ok place =
          let a = step_lines slot deleting types st saved tys (before_steps r live) in
          let b = steps_lines slot deleting types r saved (step_types st tys) live in
          sound_append ok place (place + length a) a b (kinds tys) (kinds (step_types st tys)) (kinds (steps_types r (step_types st tys))) refl
          (step_sound st saved tys f.0 l.0 (before_steps r live) (λ m. L ok b (kinds (step_types st tys)) m) place) (steps_sound r saved (step_types st tys) f.1 l.1 live ok (place + length a))

      pub step_sound : (s : Step) (saved tys : List Ty) → StepServed Has types s (length saved) tys → StepKinded locals global_ty result_ty s → (live : ℕ → Bool) (ok : ℕ → Type 0) (place : ℕ) → S ok place (step_lines slot deleting types s saved tys live) (kinds tys) (kinds (step_types s tys))
      step_sound (set line h ty op) saved tys f l live ok place =
          let below = f.0 in
          let ty_is : step_types (set line h ty op) tys ≡ ty ∷ below = ap (λ x. ty ∷ dropped (length (operands ty op)) x) f.1 ∙ ap (λ x. ty ∷ x) (ap (λ k. dropped k (pushed (operands ty op) below)) (let e : length (operands ty op) ≡ 0 + length (operands ty op) = omega arith in e) ∙ drop_pushed (operands ty op) below 0) in
          subst (λ x. S ok place (at line (set_code slot deleting types h ty op live)) (kinds tys) (kinds x)) (sym ty_is)
          (subst (λ x. S ok place (at line (set_code slot deleting types h ty op live)) (kinds x) (kind_ty ty ∷ kinds below)) (sym f.1) (set_sound line h ty op below live ok place f.3 l f.4))
      step_sound (fork line h test result a b) saved [] f l live ok place = absurd f
      step_sound (fork line h test result a b) saved (ty ∷ below) f l live ok place =
          let k = length saved + length below in
          let saved1 = below ++ saved in
          let len : length saved1 ≡ h = let x = length-append below saved in let y = f.1 in omega (arith, x, y) in
          let has : Has k result = subst (λ j. Has j result) f.1 f.7 in
          let ca = steps_lines slot deleting types a saved1 [] live in
          let cb = steps_lines slot deleting types b saved1 [] live in
          let A = at line (spills slot (length saved) (ty ∷ below)) in
          let B = at line (To.get (slot k ty) ∷ test_code test) in
          let R = at line (reloads slot (length saved) below) in
          let get = line_of line (To.get (slot k result)) in
          let T = R ++ get ∷ [] in
          let put = line_of line (To.set (slot k result) (wide result)) in
          let over = line_of line (To.jump (suc (length cb))) in
          let jz = line_of line (To.jump_zero (suc (suc (length ca)))) in
          let kr = kind_ty result in
          let out = kr ∷ kinds below in
          let S5 = put ∷ T in
          let S4 = cb ++ S5 in
          let S3 = put ∷ over ∷ S4 in
          let S2 = ca ++ S3 in
          let S1 = jz ∷ S2 in
          let p1 = place + length A in
          let p2 = p1 + length B in
          let p3 = suc p2 + length ca in
          let p4 = suc (suc p3) in
          let p5 = p4 + length cb in
          let sT : S ok (suc p5) T [] out = sound_append ok (suc p5) (suc p5 + length R) R (get ∷ []) [] (kinds below) out refl (reloads_sound line (length saved) below (λ m. L ok (get ∷ []) (kinds below) m) (suc p5) f.6.1) (get_sound line k result ok (suc p5 + length R) (kinds below) has) in
          let s5 : S ok p5 S5 (kr ∷ []) out = put_sound line k result T [] ok p5 out has sT in
          let sb = subst (λ x. S (λ m. L ok S5 (kr ∷ []) m) p4 cb [] (kinds x)) f.5 (steps_sound b saved1 [] (subst (λ j. StepsServed Has types b j []) (sym len) f.4) l.1 live (λ m. L ok S5 (kr ∷ []) m) p4) in
          let fb : final cb [] ≡ kr ∷ [] = sound_final (λ m. L ok S5 (kr ∷ []) m) p4 cb [] (kr ∷ []) sb in
          let s4 : S ok p4 S4 [] out = sound_append ok p4 p5 cb S5 [] (kr ∷ []) out refl sb s5 in
          let over_lands : L ok S4 [] (suc (length cb)) = lands_past ok cb S5 [] (kr ∷ []) (suc (length cb)) 1 (omega arith) fb (starts ok R get) in
          let s3 : S ok p3 S3 (kr ∷ []) out = put_sound line k result (over ∷ S4) [] ok p3 out has (([], refl), (refl, over_lands), s4) in
          let sa = subst (λ x. S (λ m. L ok S3 (kr ∷ []) m) (suc p2) ca [] (kinds x)) f.3 (steps_sound a saved1 [] (subst (λ j. StepsServed Has types a j []) (sym len) f.2) l.0 live (λ m. L ok S3 (kr ∷ []) m) (suc p2)) in
          let fa : final ca [] ≡ kr ∷ [] = sound_final (λ m. L ok S3 (kr ∷ []) m) (suc p2) ca [] (kr ∷ []) sa in
          let s2 : S ok (suc p2) S2 [] out = sound_append ok (suc p2) p3 ca S3 [] (kr ∷ []) out refl sa s3 in
          let jz_lands : L ok S2 [] (suc (suc (length ca))) = lands_past ok ca S3 [] (kr ∷ []) (suc (suc (length ca))) 2 (omega arith) fa (starts_in ok cb put T) in
          let s1 : S ok p2 S1 (int ∷ []) out = (([], refl), (refl, jz_lands), s2) in
          let sB : S (λ m. L ok S1 (int ∷ []) m) p1 B [] (int ∷ []) =
          (([], refl), tt, subst (λ x. S (λ m. L ok S1 (int ∷ []) m) (suc p1) (at line (test_code test)) (x ∷ []) (int ∷ [])) (ap kind_ty (sym f.0) ∙ sym (slot_kind k ty f.6.0)) (test_sound line test (λ m. L ok S1 (int ∷ []) m) (suc p1) [])) in
          sound_append ok place p1 A (B ++ S1) (kinds (ty ∷ below)) [] out refl (spills_sound line (length saved) (ty ∷ below) (λ m. L ok (B ++ S1) [] m) place f.6)
          (sound_append ok p1 p2 B S1 [] (int ∷ []) out refl sB s1)
        where
          -- the first instruction of what comes behind an arm
          starts : (ok : ℕ → Type 0) (R : List Line) (get : Line) → L ok (R ++ get ∷ []) [] 0
          starts ok [] get = refl
          starts ok (i ∷ R) get = refl

          starts_in : (ok : ℕ → Type 0) (c : List Line) (put : Line) (T : List Line) → L ok (c ++ (put ∷ T)) [] 0
          starts_in ok [] put T = refl
          starts_in ok (i ∷ c) put T = refl

    pub exit_sound : (test : Option Test) (over : ℕ) (ok : ℕ → Type 0) (place : ℕ) → ok over → S ok place (exit_lines test over) (kinds (test_types test)) []
    exit_sound None over ok place h = refl
    exit_sound (Some test) over ok place h =
        sound_append ok place (place + length (at test.line (exit_test test.wanted test.ty))) (at test.line (exit_test test.wanted test.ty)) (line_of test.line (To.jump_zero over) ∷ []) (kind_ty test.ty ∷ []) (int ∷ []) [] refl (by test.wanted) (([], refl), (refl, h), refl)
      where
        zero_sound : (line : ℕ) (ty : Ty) (ok : ℕ → Type 0) (place : ℕ) → S ok place (at line (zero_test ty)) (kind_ty ty ∷ []) (int ∷ [])
        zero_sound line int ok place = (([], refl), tt, refl)
        zero_sound line unsigned ok place = (([], refl), tt, (([], refl), tt, refl))
        zero_sound line char ok place = (([], refl), tt, refl)
        zero_sound line region ok place = (([], refl), tt, refl)
        zero_sound line (struct k) ok place = (([], refl), tt, refl)
        zero_sound line (pointer note target) ok place = (([], refl), tt, refl)

        by : (wanted : Bool) → S (λ m. L ok (line_of test.line (To.jump_zero over) ∷ []) (int ∷ []) m) place (at test.line (exit_test wanted test.ty)) (kind_ty test.ty ∷ []) (int ∷ [])
        by true = test_sound test.line test.ty (λ m. L ok (line_of test.line (To.jump_zero over) ∷ []) (int ∷ []) m) place []
        by false = zero_sound test.line test.ty (λ m. L ok (line_of test.line (To.jump_zero over) ∷ []) (int ∷ []) m) place

    -- acts are a premise here: from their operands they leave an empty stack
    module _ (act_sound : (last : ℕ) (act : Act) (tys : List Ty) (live : ℕ → Bool) (ok : ℕ → Type 0) (place : ℕ) → ActFits act tys → ActKeeps Has types act tys → ActKinded locals global_ty result_ty act → S ok place (act_lines slot deleting types last act tys live) (kinds tys) []) where
      -- what is empty in a piece is marked
      abbrev pub Marked : ℕ → List Line → Type 0
      Marked place code = (n : ℕ) → L (λ m. ⊥) code [] n → mark (place + n)

      marked_first : (place : ℕ) (a b : List Line) (mid : List Ty) → final a [] ≡ mid → Marked place (a ++ b) → Marked place a
      marked_first place a b mid e mk n l = mk n (lands_append (λ m. ⊥) a b [] mid n e (lands_mono (λ m. ⊥) (λ m. L (λ j. ⊥) b mid m) (λ m x. absurd x) a [] n l))

      marked_behind : (place place1 : ℕ) (a b : List Line) → place1 ≡ place + length a → final a [] ≡ [] → Marked place (a ++ b) → Marked place1 b
      marked_behind place place1 a b ep e mk n l = subst mark (let f : place + (length a + n) ≡ place1 + n = omega (arith, ep) in f) (mk (length a + n) (lands_past (λ m. ⊥) a b [] [] (length a + n) n refl e l))

      zero_sound : (line : ℕ) (ty : Ty) (ok : ℕ → Type 0) (place x : ℕ) → local_kind locals global_ty result_ty x ≡ kind_ty ty → S ok place (line_of line (zero_code ty) ∷ line_of line (To.set x ty) ∷ []) [] []
      zero_sound line int ok place x e = (([], refl), tt, (([], ap (λ k. k ∷ []) (sym e)), tt, refl))
      zero_sound line unsigned ok place x e = (([], refl), tt, (([], ap (λ k. k ∷ []) (sym e)), tt, refl))
      zero_sound line char ok place x e = (([], refl), tt, (([], ap (λ k. k ∷ []) (sym e)), tt, refl))
      zero_sound line region ok place x e = (([], refl), tt, (([], ap (λ k. k ∷ []) (sym e)), tt, refl))
      zero_sound line (struct k) ok place x e = (([], refl), tt, (([], ap (λ k. k ∷ []) (sym e)), tt, refl))
      zero_sound line (pointer note target) ok place x e = (([], refl), tt, (([], ap (λ k. k ∷ []) (sym e)), tt, refl))

      -- a condition and what comes behind it, with an empty stack there
      head_sound : (steps : Steps) (test : Option Test) (live : ℕ → Bool) (over : ℕ) (rest : List Line) (ok : ℕ → Type 0) (place place1 : ℕ) → StepsServed Has types steps 0 [] → steps_types steps [] ≡ test_types test → StepsKinded locals global_ty result_ty steps → place1 ≡ place + (length (steps_lines slot deleting types steps [] [] live) + exit_size test) → L ok rest [] over → S ok place1 rest [] [] →
          S ok place (steps_lines slot deleting types steps [] [] live ++ (exit_lines test over ++ rest)) [] []
      head_sound steps test live over rest ok place place1 fits et loads ep lands s =
          let head = steps_lines slot deleting types steps [] [] live in
          let p1 = place + length head in
          let xl = exit_long test over in
          sound_append ok place p1 head (exit_lines test over ++ rest) [] (kinds (test_types test)) [] refl
          (subst (λ x. S (λ m. L ok (exit_lines test over ++ rest) (kinds (test_types test)) m) place head [] (kinds x)) et (steps_sound steps [] [] fits loads live (λ m. L ok (exit_lines test over ++ rest) (kinds (test_types test)) m) place))
          (sound_append ok p1 place1 (exit_lines test over) rest (kinds (test_types test)) [] [] (omega (arith, ep, xl)) (exit_sound test over (λ m. L ok rest [] m) p1 lands) s)

      head_final : (steps : Steps) (test : Option Test) (live : ℕ → Bool) (over : ℕ) → StepsServed Has types steps 0 [] → steps_types steps [] ≡ test_types test → StepsKinded locals global_ty result_ty steps → final (steps_lines slot deleting types steps [] [] live ++ exit_lines test over) [] ≡ []
      head_final steps test live over fits et loads =
          let head = steps_lines slot deleting types steps [] [] live in
          sound_final (λ m. Unit {0}) 0 (head ++ exit_lines test over) [] [] (sound_append (λ m. Unit {0}) 0 (0 + length head) head (exit_lines test over) [] (kinds (test_types test)) [] refl
          (subst (λ x. S (λ m. L (λ j. Unit {0}) (exit_lines test over) (kinds (test_types test)) m) 0 head [] (kinds x)) et (steps_sound steps [] [] fits loads live (λ m. L (λ j. Unit {0}) (exit_lines test over) (kinds (test_types test)) m) 0))
          (exit_sound test over (λ m. Unit {0}) (0 + length head) tt))

      final_append : (a b : List Line) (ks : List Ty) → final (a ++ b) ks ≡ final b (final a ks)
      final_append [] b ks = refl
      final_append (i ∷ a) b ks = final_append a b (next_kinds i.instruction ks)

      final_both : (a b : List Line) → final a [] ≡ [] → final b [] ≡ [] → final (a ++ b) [] ≡ []
      final_both a b ea eb = final_append a b [] ∙ ap (final b) ea ∙ eb

      final_head : (head ex rest : List Line) → final (head ++ ex) [] ≡ [] → final rest [] ≡ [] → final (head ++ (ex ++ rest)) [] ≡ []
      final_head head ex rest eh er = ap (λ c. final c []) (sym (append_assoc head ex rest)) ∙ final_both (head ++ ex) rest eh er

      mutual
        pub code_final : (c : Code) → CodeServed Has types c → CodeKinded locals global_ty result_ty c → (k : Ways) (p : Place) → final (code_lines slot deleting types c k p) [] ≡ []
        code_final (simple steps act) fits loads k p =
            let head = steps_lines slot deleting types steps [] [] (before_act act k.next) in
            let tys = steps_types steps [] in
            let tail = act_lines slot deleting types (last_line steps) act tys k.next in
            final_append head tail [] ∙ ap (final tail) (sound_final (λ m. Unit {0}) 0 head [] (kinds tys) (steps_sound steps [] [] fits.0 loads.0 (before_act act k.next) (λ m. Unit {0}) 0)) ∙ sound_final (λ m. Unit {0}) 0 tail (kinds tys) [] (act_sound (last_line steps) act tys k.next (λ m. Unit {0}) 0 fits.1 fits.2 loads.1)
        code_final (clear line x ty) fits loads k p = sound_final (λ m. Unit {0}) 0 (line_of line (zero_code ty) ∷ line_of line (To.set x ty) ∷ []) [] [] (zero_sound line ty (λ m. Unit {0}) 0 x loads)
        code_final (block codes) fits loads k p = codes_final codes fits loads k p
        code_final (branch steps test a b) fits loads k p =
            let live : ℕ → Bool = λ y. before_code a k y || before_code b k y in
            let head = steps_lines slot deleting types steps [] [] live in
            let at1 = p.at + (length head + exit_size (Some test)) in
            let sa = code_size slot deleting types a k in
            let sb = code_size slot deleting types b k in
            let pa : Place = record { at = at1; out = suc (sb + p.out); on = suc (sb + p.on) } in
            let pb : Place = record p { at = at1 + (sa + 1) } in
            let ca = code_lines slot deleting types a k pa in
            let cb = code_lines slot deleting types b k pb in
            final_head head (exit_lines (Some test) (sa + 1)) (ca ++ (line_of test.line (To.jump sb) ∷ cb)) (head_final steps (Some test) live (sa + 1) fits.0 fits.1 loads.0) (final_both ca (line_of test.line (To.jump sb) ∷ cb) (code_final a fits.2 loads.1 k pa) (code_final b fits.3 loads.2 k pb))
        code_final (loop line steps test third a) fits loads k p =
            let k2 = then_live (loop_head steps test third a k) k in
            let k1 = round (before_code third k2) k in
            let live : ℕ → Bool = λ y. (is_some test && k.next y) || before_code a k1 y in
            let head = steps_lines slot deleting types steps [] [] live in
            let at1 = p.at + (length head + exit_size test) in
            let sa = code_size slot deleting types a k1 in
            let st = code_size slot deleting types third k2 in
            let pa : Place = record { at = at1; out = st + 1; on = 0 } in
            let pt : Place = record { at = at1 + sa; out = suc p.out; on = suc p.on } in
            let ca = code_lines slot deleting types a k1 pa in
            let ct = code_lines slot deleting types third k2 pt in
            let back = line_of line (To.back p.at) in
            final_head head (exit_lines test (sa + (st + 1))) (ca ++ (ct ++ back ∷ [])) (head_final steps test live (sa + (st + 1)) fits.0 fits.1 loads.0) (final_both ca (ct ++ back ∷ []) (code_final a fits.3 loads.2 k1 pa) (final_both ct (back ∷ []) (code_final third fits.2 loads.1 k2 pt) refl))
        code_final (repeat line a steps test) fits loads k p =
            let k1 = round (repeat_tail a steps test k) k in
            let live : ℕ → Bool = λ y. k.next y || before_code (repeat 0 a steps test) k y in
            let tail = steps_lines slot deleting types steps [] [] live in
            let pa : Place = record { at = p.at; out = length tail + (exit_size (Some test) + 1); on = 0 } in
            let ca = code_lines slot deleting types a k1 pa in
            let back = line_of line (To.back p.at) in
            final_both ca (tail ++ (exit_lines (Some test) 1 ++ back ∷ [])) (code_final a fits.0 loads.0 k1 pa) (final_head tail (exit_lines (Some test) 1) (back ∷ []) (head_final steps (Some test) live 1 fits.1 fits.2 loads.1) refl)
        code_final (break line) fits loads k p = refl
        code_final (continue line) fits loads k p = refl

        pub codes_final : (cs : Codes) → CodesServed Has types cs → CodesKinded locals global_ty result_ty cs → (k : Ways) (p : Place) → final (codes_lines slot deleting types cs k p) [] ≡ []
        codes_final done fits loads k p = refl
        codes_final (then c rest) fits loads k p =
            let k1 = then_live (before_codes rest k) k in
            final_both (code_lines slot deleting types c k1 (record p { out = codes_size slot deleting types rest k + p.out; on = codes_size slot deleting types rest k + p.on })) (codes_lines slot deleting types rest k (record p { at = p.at + code_size slot deleting types c k1 }))
            (code_final c fits.0 loads.0 k1 (record p { out = codes_size slot deleting types rest k + p.out; on = codes_size slot deleting types rest k + p.on })) (codes_final rest fits.1 loads.1 k (record p { at = p.at + code_size slot deleting types c k1 }))

      lands_first : (ok : ℕ → Type 0) (a b : List Line) → L ok b [] 0 → L ok (a ++ b) [] 0
      lands_first ok [] b l = l
      lands_first ok (i ∷ a) b l = refl

      mutual
        pub code_sound : (c : Code) → CodeServed Has types c → CodeKinded locals global_ty result_ty c → (k : Ways) (p : Place) (ok : ℕ → Type 0) → ok 0 → ok p.out → ok p.on → Marked p.at (code_lines slot deleting types c k p) → S ok p.at (code_lines slot deleting types c k p) [] []
        code_sound (simple steps act) fits loads k p ok z o i mk =
            let head = steps_lines slot deleting types steps [] [] (before_act act k.next) in
            let tys = steps_types steps [] in
            let tail = act_lines slot deleting types (last_line steps) act tys k.next in
            sound_append ok p.at (p.at + length head) head tail [] (kinds tys) [] refl (steps_sound steps [] [] fits.0 loads.0 (before_act act k.next) (λ m. L ok tail (kinds tys) m) p.at) (act_sound (last_line steps) act tys k.next ok (p.at + length head) fits.1 fits.2 loads.1)
        code_sound (clear line x ty) fits loads k p ok z o i mk = zero_sound line ty ok p.at x loads
        code_sound (block codes) fits loads k p ok z o i mk = codes_sound codes fits loads k p ok z o i mk
        code_sound (branch steps test a b) fits loads k p ok z o i mk =
            let live : ℕ → Bool = λ y. before_code a k y || before_code b k y in
            let head = steps_lines slot deleting types steps [] [] live in
            let at1 = p.at + (length head + exit_size (Some test)) in
            let sa = code_size slot deleting types a k in
            let sb = code_size slot deleting types b k in
            let pa : Place = record { at = at1; out = suc (sb + p.out); on = suc (sb + p.on) } in
            let pb : Place = record p { at = at1 + (sa + 1) } in
            let ca = code_lines slot deleting types a k pa in
            let cb = code_lines slot deleting types b k pb in
            let ex = exit_lines (Some test) (sa + 1) in
            let jump = line_of test.line (To.jump sb) in
            let za = size_is slot deleting types a k pa in
            let zb = size_is slot deleting types b k pb in
            let xl = exit_long (Some test) (sa + 1) in
            let hf = head_final steps (Some test) live (sa + 1) fits.0 fits.1 loads.0 in
            let hl = length-append head ex in
            let flat = append_assoc head ex (ca ++ (jump ∷ cb)) in
            let mk1 : Marked at1 (ca ++ (jump ∷ cb)) = marked_behind p.at at1 (head ++ ex) (ca ++ (jump ∷ cb)) (omega (arith, xl, hl)) hf (subst (λ c. Marked p.at c) (sym flat) mk) in
            let ok_a : ℕ → Type 0 = λ m. L ok (jump ∷ cb) [] m in
            let ok_over : (n : ℕ) → ok n → ok_a (suc (sb + n)) = λ n h. lands_end ok cb [] (sb + n) n (omega (arith, zb)) h in
            let fa : final ca [] ≡ [] = code_final a fits.2 loads.1 k pa in
            let sa1 = code_sound a fits.2 loads.1 k pa ok_a refl (ok_over p.out o) (ok_over p.on i) (marked_first at1 ca (jump ∷ cb) [] fa mk1) in
            let mk2 : Marked (at1 + sa) (jump ∷ cb) = marked_behind at1 (at1 + sa) ca (jump ∷ cb) (omega (arith, za)) fa mk1 in
            let mk3 : Marked (at1 + (sa + 1)) cb = marked_behind (at1 + sa) (at1 + (sa + 1)) (jump ∷ []) cb (omega arith) refl mk2 in
            let sb1 = code_sound b fits.3 loads.2 k pb ok z o i mk3 in
            let over_end : L ok cb [] sb = lands_end ok cb [] sb 0 (omega (arith, zb)) z in
            let sj : S ok (at1 + sa) (jump ∷ cb) [] [] = (([], refl), (refl, over_end), subst (λ j. S ok j cb [] []) (let e : at1 + (sa + 1) ≡ suc (at1 + sa) = omega arith in e) sb1) in
            let sr : S ok at1 (ca ++ (jump ∷ cb)) [] [] = sound_append ok at1 (at1 + sa) ca (jump ∷ cb) [] [] [] (omega (arith, za)) sa1 sj in
            head_sound steps (Some test) live (sa + 1) (ca ++ (jump ∷ cb)) ok p.at at1 fits.0 fits.1 loads.0 refl (lands_past ok ca (jump ∷ cb) [] [] (sa + 1) 1 (omega (arith, za)) fa (lands_here ok cb z)) sr
        code_sound (loop line steps test third a) fits loads k p ok z o i mk =
            let k2 = then_live (loop_head steps test third a k) k in
            let k1 = round (before_code third k2) k in
            let live : ℕ → Bool = λ y. (is_some test && k.next y) || before_code a k1 y in
            let head = steps_lines slot deleting types steps [] [] live in
            let at1 = p.at + (length head + exit_size test) in
            let sa = code_size slot deleting types a k1 in
            let st = code_size slot deleting types third k2 in
            let pa : Place = record { at = at1; out = st + 1; on = 0 } in
            let pt : Place = record { at = at1 + sa; out = suc p.out; on = suc p.on } in
            let ca = code_lines slot deleting types a k1 pa in
            let ct = code_lines slot deleting types third k2 pt in
            let ex = exit_lines test (sa + (st + 1)) in
            let back = line_of line (To.back p.at) in
            let za = size_is slot deleting types a k1 pa in
            let zt = size_is slot deleting types third k2 pt in
            let xl = exit_long test (sa + (st + 1)) in
            let hf = head_final steps test live (sa + (st + 1)) fits.0 fits.1 loads.0 in
            let hl = length-append head ex in
            let lt = length-append ct (back ∷ []) in
            let la = length-append ca (ct ++ back ∷ []) in
            let fa : final ca [] ≡ [] = code_final a fits.3 loads.2 k1 pa in
            let ft : final ct [] ≡ [] = code_final third fits.2 loads.1 k2 pt in
            let flat = append_assoc head ex (ca ++ (ct ++ back ∷ [])) in
            let here : mark p.at = subst mark (let e : p.at + 0 ≡ p.at = omega arith in e) (mk 0 (lands_first (λ m. ⊥) head (ex ++ (ca ++ (ct ++ back ∷ []))) (lands_first (λ m. ⊥) ex (ca ++ (ct ++ back ∷ [])) (lands_first (λ m. ⊥) ca (ct ++ back ∷ []) (lands_first (λ m. ⊥) ct (back ∷ []) refl))))) in
            let mk1 : Marked at1 (ca ++ (ct ++ back ∷ [])) = marked_behind p.at at1 (head ++ ex) (ca ++ (ct ++ back ∷ [])) (omega (arith, xl, hl)) hf (subst (λ c. Marked p.at c) (sym flat) mk) in
            let mk2 : Marked (at1 + sa) (ct ++ back ∷ []) = marked_behind at1 (at1 + sa) ca (ct ++ back ∷ []) (omega (arith, za)) fa mk1 in
            let first : L ok (ct ++ back ∷ []) [] 0 = lands_first ok ct (back ∷ []) refl in
            let s_a = code_sound a fits.3 loads.2 k1 pa (λ m. L ok (ct ++ back ∷ []) [] m) first (lands_end ok (ct ++ back ∷ []) [] (st + 1) 0 (omega (arith, lt, zt)) z) first (marked_first at1 ca (ct ++ back ∷ []) [] fa mk1) in
            let s_t = code_sound third fits.2 loads.1 k2 pt (λ m. L ok (back ∷ []) [] m) refl o i (marked_first (at1 + sa) ct (back ∷ []) [] ft mk2) in
            let s_b : S ok (at1 + sa + st) (back ∷ []) [] [] = (([], refl), (refl, (let e : p.at ≤ at1 + sa + st = omega arith in e), here), refl) in
            let s_r : S ok at1 (ca ++ (ct ++ back ∷ [])) [] [] = sound_append ok at1 (at1 + sa) ca (ct ++ back ∷ []) [] [] [] (omega (arith, za)) s_a (sound_append ok (at1 + sa) (at1 + sa + st) ct (back ∷ []) [] [] [] (omega (arith, zt)) s_t s_b) in
            head_sound steps test live (sa + (st + 1)) (ca ++ (ct ++ back ∷ [])) ok p.at at1 fits.0 fits.1 loads.0 refl (lands_end ok (ca ++ (ct ++ back ∷ [])) [] (sa + (st + 1)) 0 (omega (arith, la, lt, za, zt)) z) s_r
        code_sound (repeat line a steps test) fits loads k p ok z o i mk =
            let k1 = round (repeat_tail a steps test k) k in
            let live : ℕ → Bool = λ y. k.next y || before_code (repeat 0 a steps test) k y in
            let tail = steps_lines slot deleting types steps [] [] live in
            let pa : Place = record { at = p.at; out = length tail + (exit_size (Some test) + 1); on = 0 } in
            let ca = code_lines slot deleting types a k1 pa in
            let ex = exit_lines (Some test) 1 in
            let back = line_of line (To.back p.at) in
            let rest = tail ++ (ex ++ back ∷ []) in
            let l1 = length-append tail (ex ++ back ∷ []) in
            let l2 = length-append ex (back ∷ []) in
            let xl = exit_long (Some test) 1 in
            let fa : final ca [] ≡ [] = code_final a fits.0 loads.0 k1 pa in
            let first : L ok rest [] 0 = lands_first ok tail (ex ++ back ∷ []) (lands_first ok ex (back ∷ []) refl) in
            let here : mark p.at = subst mark (let e : p.at + 0 ≡ p.at = omega arith in e) (mk 0 (lands_first (λ m. ⊥) ca rest (lands_first (λ m. ⊥) tail (ex ++ back ∷ []) (lands_first (λ m. ⊥) ex (back ∷ []) refl)))) in
            let s_a = code_sound a fits.0 loads.0 k1 pa (λ m. L ok rest [] m) first (lands_end ok rest [] (length tail + (exit_size (Some test) + 1)) 0 (omega (arith, l1, l2, xl)) z) first (marked_first p.at ca rest [] fa mk) in
            let p1 = p.at + length ca in
            let p2 = p1 + (length tail + exit_size (Some test)) in
            sound_append ok p.at p1 ca rest [] [] [] refl s_a (head_sound steps (Some test) live 1 (back ∷ []) ok p1 p2 fits.1 fits.2 loads.1 refl z (([], refl), (refl, (let e : p.at ≤ p2 = omega arith in e), here), refl))
        code_sound (break line) fits loads k p ok z o i mk = (([], refl), (refl, o), refl)
        code_sound (continue line) fits loads k p ok z o i mk = (([], refl), (refl, i), refl)

        pub codes_sound : (cs : Codes) → CodesServed Has types cs → CodesKinded locals global_ty result_ty cs → (k : Ways) (p : Place) (ok : ℕ → Type 0) → ok 0 → ok p.out → ok p.on → Marked p.at (codes_lines slot deleting types cs k p) → S ok p.at (codes_lines slot deleting types cs k p) [] []
        codes_sound done fits loads k p ok z o i mk = refl
        codes_sound (then c rest) fits loads k p ok z o i mk =
            let k1 = then_live (before_codes rest k) k in
            let size = codes_size slot deleting types rest k in
            let p1 : Place = record p { out = size + p.out; on = size + p.on } in
            let p2 : Place = record p { at = p.at + code_size slot deleting types c k1 } in
            let cc = code_lines slot deleting types c k1 p1 in
            let cr = codes_lines slot deleting types rest k p2 in
            let zc = size_is slot deleting types c k1 p1 in
            let zr = sizes_are slot deleting types rest k p2 in
            let fc = code_final c fits.0 loads.0 k1 p1 in
            sound_append ok p.at p2.at cc cr [] [] [] (omega (arith, zc))
            (code_sound c fits.0 loads.0 k1 p1 (λ m. L ok cr [] m) (lands_here ok cr z) (lands_end ok cr [] (size + p.out) p.out (omega (arith, zr)) o) (lands_end ok cr [] (size + p.on) p.on (omega (arith, zr)) i) (marked_first p.at cc cr [] fc mk))
            (codes_sound rest fits.1 loads.1 k p2 ok z o i (marked_behind p.at p2.at cc cr (omega (arith, zc)) fc mk))
