-- Region code has as many nodes as points.
use Rattle.std.proofs.Common.{◌≡◌, ℕ, suc, ◌+◌, ◌*◌, List, [], ◌∷◌, ◌++◌, length, Option, Some, None, refl, ap, ◌∙◌, arith, length-append}
use Rattle.rc_core.specs.declared.ty.NumberType.TheVariants.{Int, Unsigned, Char}
use Rattle.rc_core.specs.declared.ty.Signedness.TheVariants.{Signed, Unsigned as Wrapping}
use Rattle.rc_core.specs.declared.stmt.Change.{Change}
use Rattle.rc_core.specs.declared.stmt.Change.TheVariants.{Compute, Step as Stepping}
use Rattle.rc_core.specs.Types.{Ty}
use Rattle.rc_core.specs.Layout.{Layout}
use Rattle.rc_rlang.specs.Points.{change_points, end_points}
use Rattle.rc_rlang.specs.RegionCode.{Access, Step, set, fork, Steps, none, more, Act, drop, perform, assign, store, update, move, delete, leave, Test, Code, simple, clear, block, branch, loop, repeat, break, continue, Codes, done, then, Routine}
use Rattle.rc_rlang.specs.RegionPoints.{step_points, steps_points, act_points, branch_points, code_points, codes_points, routine_points}
use Rattle.rc_rlang.specs.RegionFlow.{Effect, Ends, first_of, step_nodes, steps_nodes, change_effects, cell_effects, in_line, act_nodes, test_nodes, code_nodes, codes_nodes, end_nodes, routine_nodes}

four : {A : Type 0} (a b c d : List A) (i j k l : ℕ) → length a ≡ i → length b ≡ j → length c ≡ k → length d ≡ l → length (a ++ (b ++ (c ++ d))) ≡ i + (j + (k + l))
four a b c d i j k l ea eb ec ed =
    let x = length-append a (b ++ (c ++ d)) in
    let y = length-append b (c ++ d) in
    let z = length-append c d in
    omega (arith, x, y, z, ea, eb, ec, ed)

three : {A : Type 0} (a b c : List A) (i j k : ℕ) → length a ≡ i → length b ≡ j → length c ≡ k → length (a ++ (b ++ c)) ≡ i + (j + k)
three a b c i j k ea eb ec =
    let x = length-append a (b ++ c) in
    let y = length-append b c in
    omega (arith, x, y, ea, eb, ec)

module _ (f : Routine) where
  mutual
    pub step_count : (s : Step) (here next : ℕ) → length (step_nodes f s here next) ≡ step_points s
    step_count (set line h ty op) here next = refl
    step_count (fork line h test result a b) here next =
        let x = steps_count a (suc here) next in
        let y = steps_count b (suc here + steps_points a) next in
        let z = length-append (steps_nodes f a (suc here) next) (steps_nodes f b (suc here + steps_points a) next) in
        omega (arith, x, y, z)

    pub steps_count : (s : Steps) (here next : ℕ) → length (steps_nodes f s here next) ≡ steps_points s
    steps_count none here next = refl
    steps_count (more s rest) here next =
        let to = first_of (steps_points rest) (here + step_points s) next in
        let x = step_count s here to in
        let y = steps_count rest (here + step_points s) next in
        let z = length-append (step_nodes f s here to) (steps_nodes f rest (here + step_points s) next) in
        omega (arith, x, y, z)

  line_count : (es : List Effect) (here next : ℕ) → length (in_line es here next) ≡ length es
  line_count [] here next = refl
  line_count (e ∷ []) here next = refl
  line_count (e ∷ d ∷ es) here next = ap suc (line_count (d ∷ es) (suc here) next)

  changes : (a : Access) (change : Change) → length (change_effects f a change) ≡ change_points change
  changes a (Compute Int operator Signed) = refl
  changes a (Compute Int operator Wrapping) = refl
  changes a (Compute Unsigned operator Signed) = refl
  changes a (Compute Unsigned operator Wrapping) = refl
  changes a (Compute Char operator Signed) = refl
  changes a (Compute Char operator Wrapping) = refl
  changes a (Stepping direction) = refl

  cells_count : (value from : ℕ) (layout : Layout) → length (cell_effects f value from layout) ≡ 2 * length layout
  cells_count value from [] = refl
  cells_count value from (kind ∷ kinds) = let x = cells_count value from kinds in omega (arith, x)

  pub act_count : (act : Act) (here next : ℕ) → length (act_nodes f act here next) ≡ act_points act
  act_count drop here next = refl
  act_count (perform line g tys) here next = refl
  act_count (assign line x ty) here next = refl
  act_count (store line a) here next = refl
  act_count (update line a change ty) here next = line_count (change_effects f a change) here next ∙ changes a change
  act_count (move line kinds left right) here next = line_count (cell_effects f _ _ kinds) here next ∙ cells_count _ _ kinds
  act_count (delete line) here next = refl
  act_count (leave line result) here next = refl

  pub test_count : (test : Option Test) (a b : ℕ) → length (test_nodes f test a b) ≡ branch_points test
  test_count None a b = refl
  test_count (Some test) a b = refl

  mutual
    pub code_count : (c : Code) (here : ℕ) (k : Ends) → length (code_nodes f c here k) ≡ code_points c
    code_count (simple steps act) here k =
        let m = here + steps_points steps in
        let to = first_of (act_points act) m k.next in
        let x = steps_count steps here to in
        let y = act_count act m k.next in
        let z = length-append (steps_nodes f steps here to) (act_nodes f act m k.next) in
        omega (arith, x, y, z)
    code_count (clear line x ty) here k = refl
    code_count (block codes) here k = codes_count codes here k
    code_count (branch steps test a b) here k =
        let m = here + steps_points steps in
        let b0 = suc m + code_points a in
        four (steps_nodes f steps here m) (test_nodes f (Some test) (first_of (code_points a) (suc m) k.next) (first_of (code_points b) b0 k.next)) (code_nodes f a (suc m) k) (code_nodes f b b0 k) (steps_points steps) 1 (code_points a) (code_points b)
        (steps_count steps here m) (test_count (Some test) (first_of (code_points a) (suc m) k.next) (first_of (code_points b) b0 k.next)) (code_count a (suc m) k) (code_count b b0 k) ∙ omega arith
    code_count (loop line steps test third body) here k =
        let m = suc here + steps_points steps in
        let b0 = m + branch_points test in
        let t0 = b0 + code_points body in
        let back = first_of (code_points third) t0 here in
        let inside = first_of (code_points body) b0 back in
        let k1 : Ends = record { next = back; broken = k.next; continued = back } in
        let k2 : Ends = record k { next = here } in
        ap suc (four (steps_nodes f steps (suc here) m) (test_nodes f test inside k.next) (code_nodes f body b0 k1) (code_nodes f third t0 k2) (steps_points steps) (branch_points test) (code_points body) (code_points third)
        (steps_count steps (suc here) m) (test_count test inside k.next) (code_count body b0 k1) (code_count third t0 k2)) ∙ omega arith
    code_count (repeat line body steps test) here k =
        let t0 = suc here + code_points body in
        let m = t0 + steps_points steps in
        let tail = first_of (steps_points steps) t0 m in
        let k1 : Ends = record { next = tail; broken = k.next; continued = tail } in
        ap suc (three (code_nodes f body (suc here) k1) (steps_nodes f steps t0 m) (test_nodes f (Some test) here k.next) (code_points body) (steps_points steps) 1
        (code_count body (suc here) k1) (steps_count steps t0 m) (test_count (Some test) here k.next)) ∙ omega arith
    code_count (break line) here k = refl
    code_count (continue line) here k = refl

    pub codes_count : (cs : Codes) (here : ℕ) (k : Ends) → length (codes_nodes f cs here k) ≡ codes_points cs
    codes_count done here k = refl
    codes_count (then c rest) here k =
        let m = here + code_points c in
        let k1 = record k { next = first_of (codes_points rest) m k.next } in
        let x = code_count c here k1 in
        let y = codes_count rest m k in
        let z = length-append (code_nodes f c here k1) (codes_nodes f rest m k) in
        omega (arith, x, y, z)

  end_count : (o : Option Ty) (here : ℕ) → length (end_nodes f o here) ≡ end_points o
  end_count None here = refl
  end_count (Some ty) here = refl

  pub nodes_are_points : length (routine_nodes f) ≡ routine_points f
  nodes_are_points =
      let at_end = suc (code_points f.body) in
      let k : Ends = record { next = at_end; broken = at_end; continued = at_end } in
      let x = code_count f.body 1 k in
      let y = end_count f.result at_end in
      let z = length-append (code_nodes f f.body 1 k) (end_nodes f f.result at_end) in
      omega (arith, x, y, z)
