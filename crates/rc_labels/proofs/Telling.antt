-- Stack code of labelled region code, its labels read, is the stack code of the region code.
use Rattle.std.proofs.Common.{◌≡◌, ℕ, suc, ◌+◌, Bool, ◌||◌, ◌&&◌, List, [], ◌∷◌, ◌++◌, length, map, Option, Some, None, refl, sym, ap, ◌∙◌}
use Rattle.std.proofs.lemmas.List.{map-append}
use Rattle.std.specs.Prelude.{is_some}
use Rattle.std.specs.Option.{option_map}
use Rattle.rc_core.specs.Types.{Ty}
use Rattle.rc_core.specs.Live.{Ways, then_live, round}
use Rattle.rc_rlang.specs.RegionCode.{Step, set, fork, Steps, none, more, Act, drop, perform, assign, store, update, move, delete, leave, Test, Code, simple, clear, block, branch, loop, repeat, break, continue, Codes, done, then}
use Rattle.rc_rlang.specs.RegionPoints.{steps_points, branch_points, code_points}
use Rattle.rc_rlang.specs.RegionLive.{before_steps, before_act, before_code, before_codes, loop_head, repeat_tail}
use Rattle.rc_rlang.specs.RegionFits.{step_types, steps_types}
use Rattle.rc_emission.specs.StackCode.{Instruction, Line}
use Rattle.rc_emission.specs.StackCode as To
use Rattle.rc_emission.specs.OperationCode.{line_of, at, test_code, wide, spills, reloads}
use Rattle.rc_emission.specs.StatementCode.{Place, exit_test, exit_lines, exit_size, set_code, steps_lines, step_lines, pops, last_line, act_lines, code_size, codes_size, code_lines, codes_lines, end_lines}
use Rattle.rc_emission.proofs.CodesDo.{size_is, sizes_are}
use Rattle.rc_labels.specs.Labels.{Label, Numbering, plain, line_in}
use Rattle.rc_labels.specs.Labelled.{step_labelled, steps_labelled, test_labelled, act_labelled, code_labelled, codes_labelled}
use Rattle.rc_labels.specs.Told.{told}
use Rattle.rc_labels.proofs.Lives.{steps_lives, test_there, act_lives, code_lives, codes_lives}
use Rattle.rc_labels.proofs.Decoded.{line_back}
use Rattle.rc_labels.proofs.Fits.{step_types_same, steps_types_same}

module _ (n : Numbering) where
  pub read_line : (l : Label) → line_in n (n.number l) ≡ l.line
  read_line l = ap (λ (m : Label). m.line) (n.read l)

  abbrev pub Told : (lines' lines : List Line) → Type 0
  Told lines' lines = map (told n) lines' ≡ lines

  pub join : (a' a b' b : List Line) → Told a' a → Told b' b → Told (a' ++ b') (a ++ b)
  join a' a b' b x y = map-append (told n) a' b' ∙ ap (λ ls. ls ++ map (told n) b') x ∙ ap (λ ls. a ++ ls) y

  pub told_at : (label line : ℕ) → line_in n label ≡ line → (is : List Instruction) → Told (at label is) (at line is)
  told_at label line e [] = refl
  told_at label line e (i ∷ is) = ap (λ x. line_of x i ∷ map (told n) (at label is)) e ∙ ap (λ ls. line_of line i ∷ ls) (told_at label line e is)

  put : (label line : ℕ) → line_in n label ≡ line → (i' i : Instruction) → i' ≡ i → (b' b : List Line) → Told b' b → Told (line_of label i' ∷ b') (line_of line i ∷ b)
  put label line e i' i ei b' b y = ap (λ x. line_of x i' ∷ map (told n) b') e ∙ ap (λ j. line_of line j ∷ map (told n) b') ei ∙ ap (λ ls. line_of line i ∷ ls) y

  length_told : (a' a : List Line) → Told a' a → length a' ≡ length a
  length_told a' a e = by a' ∙ ap length e
    where
      by : (ls : List Line) → length ls ≡ length (map (told n) ls)
      by [] = refl
      by (l ∷ ls) = ap suc (by ls)

  pub exit_told : (test : Option Test) (over : ℕ) → Told (exit_lines (option_map (test_labelled n) test) over) (exit_lines test over)
  exit_told None over = refl
  exit_told (Some test) over = join (at (plain n test.line) (exit_test test.wanted test.ty)) (at test.line (exit_test test.wanted test.ty)) _ _ (told_at (plain n test.line) test.line (line_back n test.line) (exit_test test.wanted test.ty)) (put (plain n test.line) test.line (line_back n test.line) (To.jump_zero over) (To.jump_zero over) refl [] [] refl)

  exit_same : (test : Option Test) → exit_size (option_map (test_labelled n) test) ≡ exit_size test
  exit_same None = refl
  exit_same (Some test) = refl

  module _ (slot : ℕ → Ty → ℕ) (deleting : ℕ → Bool) (types : List Ty) where
    mutual
      step_told : (s : Step) (saved tys : List Ty) (live : ℕ → Bool) → Told (step_lines slot deleting types (step_labelled n s) saved tys live) (step_lines slot deleting types s saved tys live)
      step_told (set line h ty op) saved tys live = told_at (plain n line) line (line_back n line) (set_code slot deleting types h ty op live)
      step_told (fork line h test result a b) saved [] live = refl
      step_told (fork line h test result a b) saved (ty ∷ below) live =
          let label = plain n line in
          let e = line_back n line in
          let a' = steps_lines slot deleting types (steps_labelled n a) (below ++ saved) [] live in
          let b' = steps_lines slot deleting types (steps_labelled n b) (below ++ saved) [] live in
          let ea = steps_told a (below ++ saved) [] live in
          let eb = steps_told b (below ++ saved) [] live in
          let kept = To.set (slot (length saved + length below) result) (wide result) in
          let given = To.get (slot (length saved + length below) result) in
          let back = at label (reloads slot (length saved) below) in
          join (at label (spills slot (length saved) (ty ∷ below))) _ _ _ (told_at label line e (spills slot (length saved) (ty ∷ below)))
          (join (at label (To.get (slot (length saved + length below) ty) ∷ test_code test)) _ _ _ (told_at label line e (To.get (slot (length saved + length below) ty) ∷ test_code test))
          (put label line e _ _ (ap (λ m. To.jump_zero (suc (suc m))) (length_told a' _ ea)) _ _
          (join a' _ _ _ ea
          (put label line e kept kept refl (line_of label (To.jump (suc (length b'))) ∷ (b' ++ (line_of label kept ∷ (back ++ line_of label given ∷ [])))) _
          (put label line e _ _ (ap (λ m. To.jump (suc m)) (length_told b' _ eb)) (b' ++ (line_of label kept ∷ (back ++ line_of label given ∷ []))) _
          (join b' _ (line_of label kept ∷ (back ++ line_of label given ∷ [])) _ eb
          (put label line e kept kept refl (back ++ line_of label given ∷ []) _
          (join back _ (line_of label given ∷ []) _ (told_at label line e (reloads slot (length saved) below))
          (put label line e given given refl [] [] refl)))))))))

      steps_told : (s : Steps) (saved tys : List Ty) (live : ℕ → Bool) → Told (steps_lines slot deleting types (steps_labelled n s) saved tys live) (steps_lines slot deleting types s saved tys live)
      steps_told none saved tys live = refl
      steps_told (more s rest) saved tys live =
          join (step_lines slot deleting types (step_labelled n s) saved tys (before_steps (steps_labelled n rest) live)) _ _ _
          (ap (λ g. map (told n) (step_lines slot deleting types (step_labelled n s) saved tys g)) (steps_lives n rest live) ∙ step_told s saved tys (before_steps rest live))
          (ap (λ ts. map (told n) (steps_lines slot deleting types (steps_labelled n rest) saved ts live)) (step_types_same n s tys) ∙ steps_told rest saved (step_types s tys) live)

    -- with what is live behind, where that is the same
    pub head_told : (s : Steps) (live' live : ℕ → Bool) → live' ≡ live → Told (steps_lines slot deleting types (steps_labelled n s) [] [] live') (steps_lines slot deleting types s [] [] live)
    head_told s live' live e = ap (λ g. map (told n) (steps_lines slot deleting types (steps_labelled n s) [] [] g)) e ∙ steps_told s [] [] live

    module _ (zero_line : line_in n 0 ≡ 0) (marked : (point : ℕ) → Bool) where
      last_told : (s : Steps) → line_in n (last_line (steps_labelled n s)) ≡ last_line s
      last_told none = zero_line
      last_told (more (set line h ty op) none) = line_back n line
      last_told (more (fork line h test result a b) none) = line_back n line
      last_told (more s (more next rest)) = last_told (more next rest)

      pops_told : (label line : ℕ) → line_in n label ≡ line → (tys : List Ty) → Told (pops slot deleting types label tys) (pops slot deleting types line tys)
      pops_told label line e [] = refl
      pops_told label line e (ty ∷ tys) = put label line e To.pop To.pop refl _ _ (pops_told label line e tys)

      pub act_told : (label last : ℕ) → line_in n label ≡ last → (act : Act) (here : ℕ) (tys : List Ty) (live : ℕ → Bool) → Told (act_lines slot deleting types label (act_labelled n marked act here) tys live) (act_lines slot deleting types last act tys live)
      act_told label last e drop here tys live = pops_told label last e tys
      act_told label last e (perform line f parameters) here tys live = put (plain n line) line (line_back n line) _ _ refl [] [] refl
      act_told label last e (assign line x ty) here tys live = put (plain n line) line (line_back n line) _ _ refl [] [] refl
      act_told label last e (store line a) here tys live = put (n.number _) line (read_line _) _ _ refl [] [] refl
      act_told label last e (update line a change ty) here tys live = told_at (n.number _) line (read_line _) _
      act_told label last e (move line cells left right) here tys live = told_at (n.number _) line (read_line _) _
      act_told label last e (delete line) here tys live = put (plain n line) line (line_back n line) _ _ refl [] [] refl
      act_told label last e (leave line result) here tys live = put (plain n line) line (line_back n line) _ _ refl [] [] refl

      size_by : (c' c : Code) (k : Ways) → ((p : Place) → Told (code_lines slot deleting types c' k p) (code_lines slot deleting types c k p)) → code_size slot deleting types c' k ≡ code_size slot deleting types c k
      size_by c' c k e =
          let p : Place = record { at = 0; out = 0; on = 0 } in
          sym (size_is slot deleting types c' k p) ∙ length_told _ _ (e p) ∙ size_is slot deleting types c k p

      sizes_by : (c' c : Codes) (k : Ways) → ((p : Place) → Told (codes_lines slot deleting types c' k p) (codes_lines slot deleting types c k p)) → codes_size slot deleting types c' k ≡ codes_size slot deleting types c k
      sizes_by c' c k e =
          let p : Place = record { at = 0; out = 0; on = 0 } in
          sym (sizes_are slot deleting types c' k p) ∙ length_told _ _ (e p) ∙ sizes_are slot deleting types c k p

      abbrev branched : (head : List Line) (test : Test) (sa sb : ℕ) (a b : Place → List Line) → Place → List Line
      branched head test sa sb a b p =
          let at1 = p.at + (length head + exit_size (Some test)) in
          head ++ (exit_lines (Some test) (sa + 1)
          ++ (a (record { at = at1; out = suc (sb + p.out); on = suc (sb + p.on) })
          ++ (line_of test.line (To.jump sb) ∷ b (record p { at = at1 + (sa + 1) }))))

      branch_told : (head' head : List Line) (test : Test) (sa' sa sb' sb : ℕ) (a' a b' b : Place → List Line) (p : Place) → Told head' head → sa' ≡ sa → sb' ≡ sb → ((q : Place) → Told (a' q) (a q)) → ((q : Place) → Told (b' q) (b q))
          → Told (branched head' (test_labelled n test) sa' sb' a' b' p) (branched head test sa sb a b p)
      branch_told head' head test sa' sa sb' sb a' a b' b p eh ea eb ta tb =
          join head' head _ _ eh
          (join (exit_lines (Some (test_labelled n test)) (sa' + 1)) _ _ _ (exit_told (Some test) (sa' + 1) ∙ ap (λ m. exit_lines (Some test) (m + 1)) ea)
          (join (a' _) _ _ _ (ta _ ∙ ap (λ m. a (record { at = p.at + (m + exit_size (Some test)); out = suc (sb' + p.out); on = suc (sb' + p.on) })) (length_told head' head eh) ∙ ap (λ m. a (record { at = p.at + (length head + exit_size (Some test)); out = suc (m + p.out); on = suc (m + p.on) })) eb)
          (put (plain n test.line) test.line (line_back n test.line) _ _ (ap To.jump eb) _ _
          (tb _ ∙ ap (λ m. b (record p { at = p.at + (m + exit_size (Some test)) + (sa' + 1) })) (length_told head' head eh) ∙ ap (λ m. b (record p { at = p.at + (length head + exit_size (Some test)) + (m + 1) })) ea))))

      abbrev looped : (head : List Line) (test : Option Test) (sa st : ℕ) (a t : Place → List Line) (line : ℕ) → Place → List Line
      looped head test sa st a t line p =
          let at1 = p.at + (length head + exit_size test) in
          head ++ (exit_lines test (sa + (st + 1))
          ++ (a (record { at = at1; out = st + 1; on = 0 })
          ++ (t (record { at = at1 + sa; out = suc p.out; on = suc p.on })
          ++ line_of line (To.back p.at) ∷ [])))

      loop_told : (head' head : List Line) (test : Option Test) (sa' sa st' st : ℕ) (a' a t' t : Place → List Line) (line : ℕ) (p : Place) → Told head' head → sa' ≡ sa → st' ≡ st → ((q : Place) → Told (a' q) (a q)) → ((q : Place) → Told (t' q) (t q))
          → Told (looped head' (option_map (test_labelled n) test) sa' st' a' t' (plain n line) p) (looped head test sa st a t line p)
      loop_told head' head test sa' sa st' st a' a t' t line p eh ea et ta tt' =
          let test' = option_map (test_labelled n) test in
          let el = length_told head' head eh in
          join head' head _ _ eh
          (join (exit_lines test' (sa' + (st' + 1))) _ _ _ (exit_told test (sa' + (st' + 1)) ∙ ap (λ m. exit_lines test (m + (st' + 1))) ea ∙ ap (λ m. exit_lines test (sa + (m + 1))) et)
          (join (a' _) _ _ _ (ta _ ∙ ap (λ m. a (record { at = p.at + (m + exit_size test'); out = st' + 1; on = 0 })) el ∙ ap (λ m. a (record { at = p.at + (length head + m); out = st' + 1; on = 0 })) (exit_same test) ∙ ap (λ m. a (record { at = p.at + (length head + exit_size test); out = m + 1; on = 0 })) et)
          (join (t' _) _ _ _ (tt' _ ∙ ap (λ m. t (record { at = p.at + (m + exit_size test') + sa'; out = suc p.out; on = suc p.on })) el ∙ ap (λ m. t (record { at = p.at + (length head + m) + sa'; out = suc p.out; on = suc p.on })) (exit_same test) ∙ ap (λ m. t (record { at = p.at + (length head + exit_size test) + m; out = suc p.out; on = suc p.on })) ea)
          (put (plain n line) line (line_back n line) _ _ refl [] [] refl))))

      abbrev Same : (c : Code) (here : ℕ) (k : Ways) → Place → Type 0
      Same c here k p = Told (code_lines slot deleting types (code_labelled n marked c here) k p) (code_lines slot deleting types c k p)

      mutual
        pub code_told : (c : Code) (here : ℕ) (k : Ways) (p : Place) → Same c here k p
        code_told (simple steps act) here k p =
            let at_act = here + steps_points steps in
            join (steps_lines slot deleting types (steps_labelled n steps) [] [] (before_act (act_labelled n marked act at_act) k.next)) _ _ _ (head_told steps _ _ (act_lives n marked act at_act k.next))
            (ap (λ tys. map (told n) (act_lines slot deleting types (last_line (steps_labelled n steps)) (act_labelled n marked act at_act) tys k.next)) (steps_types_same n steps []) ∙ act_told (last_line (steps_labelled n steps)) (last_line steps) (last_told steps) act at_act (steps_types steps []) k.next)
        code_told (clear line x ty) here k p = put (plain n line) line (line_back n line) _ _ refl (line_of (plain n line) (To.set x ty) ∷ []) _ (put (plain n line) line (line_back n line) _ _ refl [] [] refl)
        code_told (block codes) here k p = codes_told codes here k p
        code_told (branch steps test a b) here k p =
            let at_a = suc (here + steps_points steps) in
            let at_b = at_a + code_points a in
            let a' = code_labelled n marked a at_a in
            let b' = code_labelled n marked b at_b in
            branch_told _ _ test _ _ _ _ (code_lines slot deleting types a' k) (code_lines slot deleting types a k) (code_lines slot deleting types b' k) (code_lines slot deleting types b k) p
            (head_told steps _ _ (ap (λ (g : ℕ → Bool). λ (y : ℕ). g y || before_code b' k y) (code_lives n marked a at_a k) ∙ ap (λ (g : ℕ → Bool). λ (y : ℕ). before_code a k y || g y) (code_lives n marked b at_b k)))
            (size_by a' a k (code_told a at_a k)) (size_by b' b k (code_told b at_b k)) (code_told a at_a k) (code_told b at_b k)
        code_told (loop line steps test third a) here k p =
            let at_a = suc here + steps_points steps + branch_points test in
            let at_third = at_a + code_points a in
            let test' = option_map (test_labelled n) test in
            let a' = code_labelled n marked a at_a in
            let third' = code_labelled n marked third at_third in
            let k2' = then_live (loop_head (steps_labelled n steps) test' third' a' k) k in
            let k2 = then_live (loop_head steps test third a k) k in
            let k1' = round (before_code third' k2') k in
            let k1 = round (before_code third k2) k in
            let e2 : k2' ≡ k2 = ap (λ (g : ℕ → Bool). then_live g k) (code_lives n marked (loop 0 steps test third a) here k) in
            let e1 : k1' ≡ k1 = ap (λ w. round (before_code third' w) k) e2 ∙ ap (λ (g : ℕ → Bool). round g k) (code_lives n marked third at_third k2) in
            loop_told _ _ test _ _ _ _ (code_lines slot deleting types a' k1') (code_lines slot deleting types a k1) (code_lines slot deleting types third' k2') (code_lines slot deleting types third k2) line p
            (head_told steps _ _ (ap (λ v. λ (y : ℕ). (v && k.next y) || before_code a' k1' y) (test_there n test) ∙ ap (λ w. λ (y : ℕ). (is_some test && k.next y) || before_code a' w y) e1 ∙ ap (λ (g : ℕ → Bool). λ (y : ℕ). (is_some test && k.next y) || g y) (code_lives n marked a at_a k1)))
            (ap (code_size slot deleting types a') e1 ∙ size_by a' a k1 (code_told a at_a k1)) (ap (code_size slot deleting types third') e2 ∙ size_by third' third k2 (code_told third at_third k2))
            (λ q. ap (λ w. map (told n) (code_lines slot deleting types a' w q)) e1 ∙ code_told a at_a k1 q) (λ q. ap (λ w. map (told n) (code_lines slot deleting types third' w q)) e2 ∙ code_told third at_third k2 q)
        code_told (repeat line a steps test) here k p =
            let a' = code_labelled n marked a (suc here) in
            let steps' = steps_labelled n steps in
            let test' = test_labelled n test in
            let er = code_lives n marked (repeat 0 a steps test) here k in
            let ew : (λ (y : ℕ). k.next y || before_code (repeat 0 a' steps' test') k y) ≡ (λ (y : ℕ). k.next y || before_code (repeat 0 a steps test) k y) = ap (λ (g : ℕ → Bool). λ (y : ℕ). k.next y || g y) er in
            let k1' = round (repeat_tail a' steps' test' k) k in
            let k1 = round (repeat_tail a steps test k) k in
            let e1 : k1' ≡ k1 = ap (λ (g : ℕ → Bool). round (before_steps steps' g) k) ew ∙ ap (λ (g : ℕ → Bool). round g k) (steps_lives n steps (λ y. k.next y || before_code (repeat 0 a steps test) k y)) in
            let et = head_told steps _ _ ew in
            let tail' = steps_lines slot deleting types steps' [] [] (λ y. k.next y || before_code (repeat 0 a' steps' test') k y) in
            let pa : Place = record { at = p.at; out = length tail' + (exit_size (Some test) + 1); on = 0 } in
            join (code_lines slot deleting types a' k1' pa) _ _ _
            (ap (λ w. map (told n) (code_lines slot deleting types a' w pa)) e1 ∙ code_told a (suc here) k1 pa ∙ ap (λ m. code_lines slot deleting types a k1 (record { at = p.at; out = m + (exit_size (Some test) + 1); on = 0 })) (length_told _ _ et))
            (join tail' _ _ _ et
            (join (exit_lines (Some test') 1) _ (line_of (plain n line) (To.back p.at) ∷ []) _ (exit_told (Some test) 1) (put (plain n line) line (line_back n line) _ _ refl [] [] refl)))
        code_told (break line) here k p = put (plain n line) line (line_back n line) _ _ refl [] [] refl
        code_told (continue line) here k p = put (plain n line) line (line_back n line) _ _ refl [] [] refl

        pub codes_told : (cs : Codes) (here : ℕ) (k : Ways) (p : Place) → Told (codes_lines slot deleting types (codes_labelled n marked cs here) k p) (codes_lines slot deleting types cs k p)
        codes_told done here k p = refl
        codes_told (then c rest) here k p =
            let at_rest = here + code_points c in
            let c' = code_labelled n marked c here in
            let rest' = codes_labelled n marked rest at_rest in
            let k1' = then_live (before_codes rest' k) k in
            let k1 = then_live (before_codes rest k) k in
            let e1 : k1' ≡ k1 = ap (λ (g : ℕ → Bool). then_live g k) (codes_lives n marked rest at_rest k) in
            let pc : Place = record p { out = codes_size slot deleting types rest' k + p.out; on = codes_size slot deleting types rest' k + p.on } in
            join (code_lines slot deleting types c' k1' pc) _ _ _
            (ap (λ w. map (told n) (code_lines slot deleting types c' w pc)) e1 ∙ code_told c here k1 pc ∙ ap (λ m. code_lines slot deleting types c k1 (record p { out = m + p.out; on = m + p.on })) (sizes_by rest' rest k (codes_told rest at_rest k)))
            (codes_told rest at_rest k _ ∙ ap (λ m. codes_lines slot deleting types rest k (record p { at = p.at + m })) (ap (code_size slot deleting types c') e1 ∙ size_by c' c k1 (code_told c here k1)))

      pub end_told : (result : Option Ty) (line : ℕ) → Told (end_lines slot deleting types result (plain n line)) (end_lines slot deleting types result line)
      end_told None line = put (plain n line) line (line_back n line) _ _ refl [] [] refl
      end_told (Some ty) line = put (plain n line) line (line_back n line) _ _ refl (line_of (plain n line) (To.leave (ty ∷ [])) ∷ []) _ (put (plain n line) line (line_back n line) _ _ refl [] [] refl)
