-- Pieces that were put in front of one another are the code of a statement.
use Rattle.std.proofs.Common.{◌≡◌, ℕ, suc, ◌+◌, ◌-◌, Bool, ◌||◌, ◌&&◌, List, [], ◌∷◌, ◌++◌, length, refl, sym, ap, ◌∙◌, arith, append_assoc, length-append}
use Rattle.std.specs.Prelude.{Option, Some, is_some}
use Rattle.std.proofs.lemmas.List.{map-append, length-map}
use Rattle.rc_core.specs.Types.{Ty}
use Rattle.rc_core.specs.Live.{Ways, then_live, round}
use Rattle.rc_rlang.specs.RegionCode.{Steps, Test, Code, Codes, branch, loop, repeat, then}
use Rattle.rc_rlang.specs.RegionLive.{before_code, before_codes, loop_head, repeat_tail}
use Rattle.rc_emission.specs.StackCode.{Line, jump, back, pop}
use Rattle.rc_emission.specs.OperationCode.{line_of}
use Rattle.rc_emission.specs.StatementCode.{Place, exit_lines, exit_size, steps_lines, code_size, codes_size, code_lines, codes_lines}
use Rattle.rc_emission.proofs.CodesDo.{exit_long, size_is, sizes_are}
use Rattle.rc_lines.specs.Bare.{bare_line, bare_code}
use Rattle.rc_program_code.specs.Placed.{IsPlaced}
use Rattle.rc_program_code.specs.declared.leads.Leads.{Leads}

module _ (total : ℕ) where
  -- two pieces that were put in front are one
  pub grown : (xs ys o o1 o2 : List Line) → o1 ≡ bare_code total ys ++ o → o2 ≡ bare_code total xs ++ o1 → o2 ≡ bare_code total (xs ++ ys) ++ o
  grown xs ys o o1 o2 e f =
      f ∙ ap (λ l. bare_code total xs ++ l) e ∙ sym (append_assoc (bare_code total xs) (bare_code total ys) o) ∙ ap (λ l. l ++ o) (sym (map-append (bare_line total) xs ys))

  pub long : (xs o o1 : List Line) → o1 ≡ bare_code total xs ++ o → length o1 ≡ length xs + length o
  long xs o o1 e = ap length e ∙ length-append (bare_code total xs) o ∙ ap (λ n. n + length o) (length-map xs (bare_line total))

  -- a piece whose last instruction became a step back
  pub ended : (xs o o1 : List Line) (line at : ℕ) (n : ℕ) → total - at ≡ n → o1 ≡ bare_code total xs ++ (line_of line (back n) ∷ o) → o1 ≡ bare_code total (xs ++ line_of line (back at) ∷ []) ++ o
  ended xs o o1 line at n e f =
      f ∙ ap (λ m. bare_code total xs ++ (line_of line (back m) ∷ o)) (sym e)
      ∙ sym (append_assoc (bare_code total xs) (line_of line (back (total - at)) ∷ []) o)
      ∙ ap (λ l. l ++ o) (sym (map-append (bare_line total) xs (line_of line (back at) ∷ [])))

  module _ (slot : ℕ → Ty → ℕ) (deleting : ℕ → Bool) (types : List Ty) where
    abbrev of : Code → Ways → Place → List Line
    of c k p = code_lines slot deleting types c k p

    abbrev size : Code → Ways → ℕ
    size c k = code_size slot deleting types c k

    abbrev of_steps : Steps → (ℕ → Bool) → List Line
    of_steps s live = steps_lines slot deleting types s [] [] live

    pub code_long : (c : Code) (k : Ways) (p : Place) (o o1 : List Line) → o1 ≡ bare_code total (of c k p) ++ o → length o1 ≡ size c k + length o
    code_long c k p o o1 e = long (of c k p) o o1 e ∙ ap (λ n. n + length o) (size_is slot deleting types c k p)

    module _ (s : Steps) (test : Test) (yes' no' : Code) (k : Ways) (p : Place) (leads : Leads) (o : List Line) (placed : IsPlaced (size (branch s test yes' no') k) p total leads (length o)) where
      abbrev branch_head : List Line
      branch_head = of_steps s (λ y. before_code yes' k y || before_code no' k y)

      abbrev branch_at : ℕ
      branch_at = p.at + (length branch_head + exit_size (Some test))

      abbrev pub yes_place : Place
      yes_place = record { at = branch_at; out = suc (size no' k + p.out); on = suc (size no' k + p.on) }

      abbrev pub no_place : Place
      no_place = record p { at = branch_at + (size yes' k + 1) }

      pub no_placed : IsPlaced (size no' k) no_place total leads (length o)
      no_placed = let a = placed.at in record { at = omega (arith, a); out = placed.out; on = placed.on }

      module _ (o1 o2 : List Line) (over : ℕ) (e1 : o1 ≡ bare_code total (of no' k no_place) ++ o) (d : over + length o ≡ length o1) (e2 : o2 ≡ line_of test.line (jump over) ∷ o1) where
        over_is : over ≡ size no' k
        over_is = let n = code_long no' k no_place o o1 e1 in omega (arith, n, d)

        pub long_two : length o2 ≡ suc (size no' k + length o)
        long_two = ap length e2 ∙ ap suc (code_long no' k no_place o o1 e1)

        pub yes_placed : IsPlaced (size yes' k) yes_place total leads (length o2)
        yes_placed = let a = placed.at in let x = placed.out in let y = placed.on in let n = long_two in record { at = omega (arith, a, n); out = omega (arith, x, n); on = omega (arith, y, n) }

        module _ (o3 : List Line) (e3 : o3 ≡ bare_code total (of yes' k yes_place) ++ o2) where
          pub yes_long : size yes' k + 1 + length o1 ≡ length o3
          yes_long = let a = code_long yes' k yes_place o2 o3 e3 in let b = ap length e2 in omega (arith, a, b)

          pub branch_made : (o4 o5 : List Line) → o4 ≡ bare_code total (exit_lines (Some test) (size yes' k + 1)) ++ o3 → o5 ≡ bare_code total branch_head ++ o4 → o5 ≡ bare_code total (of (branch s test yes' no') k p) ++ o
          branch_made o4 o5 e4 e5 =
              let cb = of no' k no_place in
              let ca = of yes' k yes_place in
              let jumps = line_of test.line (jump (size no' k)) in
              let ex = exit_lines (Some test) (size yes' k + 1) in
              let c2 : o2 ≡ bare_code total (jumps ∷ cb) ++ o = e2 ∙ ap (λ n. line_of test.line (jump n) ∷ o1) over_is ∙ ap (λ l. jumps ∷ l) e1 in
              let c3 = grown ca (jumps ∷ cb) o o2 o3 c2 e3 in
              let c4 = grown ex (ca ++ (jumps ∷ cb)) o o3 o4 c3 e4 in
              grown branch_head (ex ++ (ca ++ (jumps ∷ cb))) o o4 o5 c4 e5

    module _ (line : ℕ) (s : Steps) (test : Option Test) (third body : Code) (k : Ways) (p : Place) (leads : Leads) (o : List Line) (placed : IsPlaced (size (loop line s test third body) k) p total leads (length o)) where
      abbrev k2 : Ways
      k2 = then_live (loop_head s test third body k) k

      abbrev k1 : Ways
      k1 = round (before_code third k2) k

      abbrev loop_steps : List Line
      loop_steps = of_steps s (λ y. (is_some test && k.next y) || before_code body k1 y)

      abbrev loop_at : ℕ
      loop_at = p.at + (length loop_steps + exit_size test)

      abbrev pub third_place : Place
      third_place = record { at = loop_at + size body k1; out = suc p.out; on = suc p.on }

      abbrev pub body_place : Place
      body_place = record { at = loop_at; out = size third k2 + 1; on = 0 }

      module _ (o1 : List Line) (e1 : o1 ≡ line_of line pop ∷ o) where
        pub third_placed : IsPlaced (size third k2) third_place total leads (length o1)
        third_placed = let a = placed.at in let x = placed.out in let y = placed.on in let n = ap length e1 in record { at = omega (arith, a, n); out = omega (arith, x, n); on = omega (arith, y, n) }

        module _ (o2 : List Line) (e2 : o2 ≡ bare_code total (of third k2 third_place) ++ o1) where
          two_long : length o2 ≡ size third k2 + suc (length o)
          two_long = code_long third k2 third_place o1 o2 e2 ∙ ap (λ n. size third k2 + n) (ap length e1)

          pub body_placed : (round : Leads) → round.out ≡ length o → round.on ≡ length o2 → IsPlaced (size body k1) body_place total round (length o2)
          body_placed round f g = let a = placed.at in let n = two_long in record { at = omega (arith, a, n); out = omega (arith, f, n); on = omega (arith, g) }

          module _ (o3 : List Line) (e3 : o3 ≡ bare_code total (of body k1 body_place) ++ o2) where
            pub loop_over : size body k1 + (size third k2 + 1) + length o ≡ length o3
            loop_over = let a = code_long body k1 body_place o2 o3 e3 in let n = two_long in omega (arith, a, n)

            module _ (o4 o5 : List Line) (e4 : o4 ≡ bare_code total (exit_lines test (size body k1 + (size third k2 + 1))) ++ o3) (e5 : o5 ≡ bare_code total loop_steps ++ o4) where
              abbrev pub before : List Line
              before = loop_steps ++ (exit_lines test (size body k1 + (size third k2 + 1)) ++ (of body k1 body_place ++ of third k2 third_place))

              pub loop_so_far : o5 ≡ bare_code total before ++ (line_of line pop ∷ o)
              loop_so_far =
                  let ct = of third k2 third_place in
                  let ca = of body k1 body_place in
                  let ex = exit_lines test (size body k1 + (size third k2 + 1)) in
                  let c2 : o2 ≡ bare_code total ct ++ (line_of line pop ∷ o) = e2 ∙ ap (λ l. bare_code total ct ++ l) e1 in
                  let c3 = grown ca ct (line_of line pop ∷ o) o2 o3 c2 e3 in
                  let c4 = grown ex (ca ++ ct) (line_of line pop ∷ o) o3 o4 c3 e4 in
                  grown loop_steps (ex ++ (ca ++ ct)) (line_of line pop ∷ o) o4 o5 c4 e5

              pub loop_made : (o6 : List Line) → o6 ≡ bare_code total before ++ (line_of line (back (length o5)) ∷ o) → o6 ≡ bare_code total (of (loop line s test third body) k p) ++ o
              loop_made o6 e6 =
                  let a = placed.at in
                  let n3 = loop_over in
                  let n4 = long (exit_lines test (size body k1 + (size third k2 + 1))) o3 o4 e4 in
                  let nx = exit_long test (size body k1 + (size third k2 + 1)) in
                  let n5 = long loop_steps o4 o5 e5 in
                  let last : total - p.at ≡ length o5 = omega (arith, a, n3, n4, nx, n5) in
                  let b = line_of line (back p.at) in
                  let flat : before ++ b ∷ [] ≡ loop_steps ++ (exit_lines test (size body k1 + (size third k2 + 1)) ++ (of body k1 body_place ++ (of third k2 third_place ++ b ∷ []))) = simp append_assoc refl in
                  ended before o o6 line p.at (length o5) last e6 ∙ ap (λ ls. bare_code total ls ++ o) flat

    module _ (line : ℕ) (body : Code) (s : Steps) (test : Test) (k : Ways) (p : Place) (leads : Leads) (o : List Line) (placed : IsPlaced (size (repeat line body s test) k) p total leads (length o)) where
      abbrev kr : Ways
      kr = round (repeat_tail body s test k) k

      abbrev repeat_steps : List Line
      repeat_steps = of_steps s (λ y. k.next y || before_code (repeat 0 body s test) k y)

      abbrev pub inside_place : Place
      inside_place = record { at = p.at; out = length repeat_steps + (exit_size (Some test) + 1); on = 0 }

      module _ (o1 o2 o3 : List Line) (e1 : o1 ≡ line_of line pop ∷ o) (e2 : o2 ≡ bare_code total (exit_lines (Some test) 1) ++ o1) (e3 : o3 ≡ bare_code total repeat_steps ++ o2) where
        tail_long : length o3 ≡ length repeat_steps + (exit_size (Some test) + suc (length o))
        tail_long = let a = long repeat_steps o2 o3 e3 in let n = long (exit_lines (Some test) 1) o1 o2 e2 in let x = exit_long (Some test) 1 in let m = ap length e1 in omega (arith, a, n, x, m)

        pub inside_placed : (round : Leads) → round.out ≡ length o → round.on ≡ length o3 → IsPlaced (size body kr) inside_place total round (length o3)
        inside_placed round f g = let a = placed.at in let n = tail_long in record { at = omega (arith, a, n); out = omega (arith, f, n); on = omega (arith, g) }

        module _ (o4 : List Line) (e4 : o4 ≡ bare_code total (of body kr inside_place) ++ o3) where
          abbrev pub until_back : List Line
          until_back = of body kr inside_place ++ (repeat_steps ++ exit_lines (Some test) 1)

          pub repeat_so_far : o4 ≡ bare_code total until_back ++ (line_of line pop ∷ o)
          repeat_so_far =
              let ex = exit_lines (Some test) 1 in
              let c2 : o2 ≡ bare_code total ex ++ (line_of line pop ∷ o) = e2 ∙ ap (λ l. bare_code total ex ++ l) e1 in
              let c3 = grown repeat_steps ex (line_of line pop ∷ o) o2 o3 c2 e3 in
              grown (of body kr inside_place) (repeat_steps ++ ex) (line_of line pop ∷ o) o3 o4 c3 e4

          pub repeat_made : (o5 : List Line) → o5 ≡ bare_code total until_back ++ (line_of line (back (length o4)) ∷ o) → o5 ≡ bare_code total (of (repeat line body s test) k p) ++ o
          repeat_made o5 e5 =
              let a = placed.at in
              let n3 = tail_long in
              let n4 = code_long body kr inside_place o3 o4 e4 in
              let last : total - p.at ≡ length o4 = omega (arith, a, n3, n4) in
              let b = line_of line (back p.at) in
              let flat : until_back ++ b ∷ [] ≡ of body kr inside_place ++ (repeat_steps ++ (exit_lines (Some test) 1 ++ b ∷ [])) = simp append_assoc refl in
              ended until_back o o5 line p.at (length o4) last e5 ∙ ap (λ ls. bare_code total ls ++ o) flat

    module _ (c : Code) (rest : Codes) (k : Ways) (p : Place) (leads : Leads) (o : List Line) (placed : IsPlaced (codes_size slot deleting types (then c rest) k) p total leads (length o)) where
      abbrev kc : Ways
      kc = then_live (before_codes rest k) k

      abbrev pub rest_place : Place
      rest_place = record p { at = p.at + size c kc }

      abbrev pub first_place : Place
      first_place = record p { out = codes_size slot deleting types rest k + p.out; on = codes_size slot deleting types rest k + p.on }

      pub rest_placed : IsPlaced (codes_size slot deleting types rest k) rest_place total leads (length o)
      rest_placed = let a = placed.at in record { at = omega (arith, a); out = placed.out; on = placed.on }

      module _ (o1 : List Line) (e1 : o1 ≡ bare_code total (codes_lines slot deleting types rest k rest_place) ++ o) where
        pub first_placed : IsPlaced (size c kc) first_place total leads (length o1)
        first_placed =
            let a = placed.at in
            let x = placed.out in
            let y = placed.on in
            let n = long (codes_lines slot deleting types rest k rest_place) o o1 e1 in
            let m = sizes_are slot deleting types rest k rest_place in
            record { at = omega (arith, a, n, m); out = omega (arith, x, n, m); on = omega (arith, y, n, m) }

        pub codes_made : (o2 : List Line) → o2 ≡ bare_code total (of c kc first_place) ++ o1 → o2 ≡ bare_code total (codes_lines slot deleting types (then c rest) k p) ++ o
        codes_made o2 e2 = grown (of c kc first_place) (codes_lines slot deleting types rest k rest_place) o o1 o2 e1 e2
