-- Back past the code of statements, piece by piece.
use Rattle.std.proofs.Common.{◌≡◌, ◌<◌, ◌≤◌, ◌-◌, length, take, drop, get_or, ℕ, zero, suc, ◌+◌, ◌||◌, ◌&&◌, Bool, List, [], ◌∷◌, ◌++◌, Option, refl, sym, ap, ◌∙◌, arith, subst, append-nil, append_assoc}
use Rattle.std.specs.Prelude.{is_some, option_map, Some, None}
use Rattle.std.proofs.Math.Seq.{drop-cons}
use Rattle.rc_base.specs.BitSets.{marks}
use Rattle.rc_core.specs.Types.{Ty}
use Rattle.rc_core.specs.Programs.{Struct}
use Rattle.rc_core.specs.Live.{Ways, then_live, round}
use Rattle.rc_rlang.specs.declared.code.Code.{Code as CodeCode}
use Rattle.rc_rlang.specs.RegionCode.{Steps, Act, Test, Code, simple, branch, loop, repeat, Codes, done, then}
use Rattle.rc_rlang.specs.RegionPoints.{steps_points, act_points, branch_points, code_points, codes_points}
use Rattle.rc_rlang.specs.RegionLive.{before_act, before_code, before_codes, loop_head, repeat_tail}
use Rattle.rc_rlang.specs.Shapes.{code_of, codes_of}
use Rattle.rc_rlang.specs.LiveLists.{Held, steps_lists, act_lists, code_lists, codes_lists}
use Rattle.rc_live.specs.declared.walk.Context.{Context}
use Rattle.rc_live.specs.Rows.{Shows}
use Rattle.rc_live.specs.Walking.{Going, WentBack, ActDone, StepsDone, CodeDone, CodesDone, deletes_in}
use Rattle.rc_live.specs.declared.effects.Effect.{Effect}
use Rattle.rc_live.specs.Effects.{Found, loops, loops_among}
use Rattle.rc_live.proofs.Doing.{nothing_found}
use Rattle.rc_live.proofs.Back.{back_both, back_as, stay}

pub union_shows : (names : List ℕ) (row_a row_b row : ℕ) (a b : ℕ → Bool) → Shows names row_a a → Shows names row_b b → ((y : ℕ) → marks row y ≡ (marks row_a y || marks row_b y)) → Shows names row (λ x. a x || b x)
union_shows names row_a row_b row a b s t u j x e = u j ∙ ap (λ v. v || marks row_b j) (s j x e) ∙ ap (λ v. a x || v) (t j x e)

pub back_past : (q : ℕ) (b : ℕ → List Held) (old mid new : Going) → WentBack q b old mid → WentBack 1 (λ here. []) mid new → WentBack (1 + q) (λ here. b (suc here)) old new
back_past q b old mid new d e = back_as (1 + q) (1 + q) (λ here. b (here + 1)) (λ here. b (suc here)) old new refl (λ here. ap b (let k : here + 1 ≡ suc here = omega arith in k)) (back_both 1 q (λ here. []) b old mid new d e)

module _ (c : Context) (types : List Ty) where
  pub simple_done : (steps : Steps) (act : Act) (k : Ways) (row_a row : ℕ) (old mid new : Going) → ActDone c types act k.next row_a old mid → StepsDone c types steps (before_act act k.next) row mid new → CodeDone c types (simple steps act) k row old new
  simple_done steps act k row_a row old mid new a s = record {
    shows = s.shows;
    back = back_both (steps_points steps) (act_points act) (λ here. steps_lists (deletes_in c) types steps here (before_act act k.next)) (λ here. act_lists (deletes_in c) types act here k.next) old mid new a.back s.back;
  }

  pub branch_done : (steps : Steps) (test : Test) (a b : Code) (k : Ways) (row_a row_b row : ℕ) (old one two three new : Going) → CodeDone c types b k row_b old one → CodeDone c types a k row_a one two → WentBack 1 (λ here. []) two three →
      StepsDone c types steps (λ y. before_code a k y || before_code b k y) row three new → CodeDone c types (branch steps test a b) k row old new
  branch_done steps test a b k row_a row_b row old one two three new of_b of_a past s =
      let p = steps_points steps in
      let arms = back_both (code_points a) (code_points b) (λ here. code_lists (deletes_in c) types a here k) (λ here. code_lists (deletes_in c) types b here k) old one two of_b.back of_a.back in
      let tested = back_past (code_points a + code_points b) (λ here. code_lists (deletes_in c) types a here k ++ code_lists (deletes_in c) types b (here + code_points a) k) old two three arms past in
      record {
        shows = s.shows;
        back = back_as (p + (1 + (code_points a + code_points b))) (code_points (branch steps test a b)) (λ here. steps_lists (deletes_in c) types steps here (λ y. before_code a k y || before_code b k y) ++ (code_lists (deletes_in c) types a (suc (here + p)) k ++ code_lists (deletes_in c) types b (suc (here + p) + code_points a) k))
            (λ here. code_lists (deletes_in c) types (branch steps test a b) here k) old new (omega arith) (λ here. refl)
            (back_both p (1 + (code_points a + code_points b)) (λ here. steps_lists (deletes_in c) types steps here (λ y. before_code a k y || before_code b k y)) (λ here. code_lists (deletes_in c) types a (suc here) k ++ code_lists (deletes_in c) types b (suc here + code_points a) k) old three new tested s.back);
      }

  pub loop_done : (line : ℕ) (steps : Steps) (test : Option Test) (third a : Code) (k : Ways) (head row_t row_a row_s : ℕ) (old one two three four new : Going) → Shows c.names.now head (before_code (loop line steps test third a) k) →
      CodeDone c types third (then_live (loop_head steps test third a k) k) row_t old one → CodeDone c types a (round (before_code third (then_live (loop_head steps test third a k) k)) k) row_a one two → WentBack (branch_points test) (λ here. []) two three →
      StepsDone c types steps (λ y. (is_some test && k.next y) || before_code a (round (before_code third (then_live (loop_head steps test third a k) k)) k) y) row_s three four → WentBack 1 (λ here. []) four new → CodeDone c types (loop line steps test third a) k head old new
  loop_done line steps test third a k head row_t row_a row_s old one two three four new h of_third of_a of_test s past =
      let p = steps_points steps in
      let n = branch_points test in
      let q = code_points a + code_points third in
      let k2 = then_live (loop_head steps test third a k) k in
      let k1 = round (before_code third k2) k in
      let live = λ (y : ℕ). (is_some test && k.next y) || before_code a k1 y in
      let inside = λ (here : ℕ). code_lists (deletes_in c) types a here k1 ++ code_lists (deletes_in c) types third (here + code_points a) k2 in
      let parts = back_both (code_points a) (code_points third) (λ here. code_lists (deletes_in c) types a here k1) (λ here. code_lists (deletes_in c) types third here k2) old one two of_third.back of_a.back in
      let tested = back_both n q (λ here. []) inside old two three parts of_test in
      let headed = back_both p (n + q) (λ here. steps_lists (deletes_in c) types steps here live) (λ here. inside (here + n)) old three four tested s.back in
      record {
        shows = h;
        back = back_as (1 + (p + (n + q))) (code_points (loop line steps test third a)) (λ here. steps_lists (deletes_in c) types steps (suc here) live ++ inside (suc here + p + n)) (λ here. code_lists (deletes_in c) types (loop line steps test third a) here k) old new (omega arith) (λ here. refl)
            (back_past (p + (n + q)) (λ here. steps_lists (deletes_in c) types steps here live ++ inside (here + p + n)) old four new headed past);
      }

  pub repeat_done : (line : ℕ) (a : Code) (steps : Steps) (test : Test) (k : Ways) (head row_s row_a : ℕ) (old one two three new : Going) → Shows c.names.now head (before_code (repeat line a steps test) k) → WentBack 1 (λ here. []) old one →
      StepsDone c types steps (λ y. k.next y || before_code (repeat 0 a steps test) k y) row_s one two → CodeDone c types a (round (repeat_tail a steps test k) k) row_a two three → WentBack 1 (λ here. []) three new → CodeDone c types (repeat line a steps test) k head old new
  repeat_done line a steps test k head row_s row_a old one two three new h of_test s of_a past =
      let p = steps_points steps in
      let n = code_points a in
      let live = λ (y : ℕ). k.next y || before_code (repeat 0 a steps test) k y in
      let k1 = round (repeat_tail a steps test k) k in
      let tail = back_as (p + 1) (p + 1) (λ here. steps_lists (deletes_in c) types steps here live ++ []) (λ here. steps_lists (deletes_in c) types steps here live) old two refl (λ here. append-nil (steps_lists (deletes_in c) types steps here live))
      (back_both p 1 (λ here. steps_lists (deletes_in c) types steps here live) (λ here. []) old one two of_test s.back) in
      let body = back_both n (p + 1) (λ here. code_lists (deletes_in c) types a here k1) (λ here. steps_lists (deletes_in c) types steps here live) old two three tail of_a.back in
      record {
        shows = h;
        back = back_as (1 + (n + (p + 1))) (code_points (repeat line a steps test)) (λ here. code_lists (deletes_in c) types a (suc here) k1 ++ steps_lists (deletes_in c) types steps (suc here + n) live) (λ here. code_lists (deletes_in c) types (repeat line a steps test) here k) old new (omega arith) (λ here. refl)
            (back_past (n + (p + 1)) (λ here. code_lists (deletes_in c) types a here k1 ++ steps_lists (deletes_in c) types steps (here + n) live) old three new body past);
      }

  pub codes_more : (one : Code) (r : Codes) (k : Ways) (row_r row : ℕ) (old mid new : Going) → CodesDone c types r k row_r old mid → CodeDone c types one (then_live (before_codes r k) k) row mid new → CodesDone c types (then one r) k row old new
  codes_more one r k row_r row old mid new of_r of_c = record {
    shows = of_c.shows;
    back = back_both (code_points one) (codes_points r) (λ here. code_lists (deletes_in c) types one here (then_live (before_codes r k) k)) (λ here. codes_lists (deletes_in c) types r here k) old mid new of_r.back of_c.back;
  }

  pub codes_none : (k : Ways) (row : ℕ) (old : Going) → Shows c.names.now row k.next → CodesDone c types done k row old old
  codes_none k row old s = record { shows = s; back = stay old old refl }

pub codes_at : (structs : List Struct) (xs : List CodeCode) (i : ℕ) (x : CodeCode) → 0 < i → i ≤ length xs → x ≡ get_or xs (i - 1) x → codes_of structs (drop (i - 1) xs) ≡ then (code_of structs x) (codes_of structs (drop i xs))
codes_at structs xs i x p l e =
    ap (codes_of structs) (drop-cons xs (i - 1) x (omega (arith, p, l))) ∙ ap (λ y. then (code_of structs y) (codes_of structs (drop (suc (i - 1)) xs))) (sym e)
    ∙ ap (λ j. then (code_of structs x) (codes_of structs (drop j xs))) (let k : suc (i - 1) ≡ i = omega (arith, p) in k)

pub is_some_map : {A B : Type 0} (f : A → B) (o : Option A) → is_some (option_map f o) ≡ is_some o
is_some_map f None = refl
is_some_map f (Some a) = refl

pub out_shows : {A B : Type 0} (f : A → B) (o : Option A) (names : List ℕ) (row : ℕ) (live : ℕ → Bool) → Shows names row (λ x. is_some o && live x) → Shows names row (λ x. is_some (option_map f o) && live x)
out_shows f o names row live s j x e = s j x e ∙ ap (λ b. b && live x) (sym (is_some_map f o))

-- the loops of the statements up to one
pub loops_taken : (structs : List Struct) (xs : List CodeCode) (i : ℕ) (x : CodeCode) → 0 < i → i ≤ length xs → x ≡ get_or xs (i - 1) x →
    loops_among (codes_of structs (take i xs)) ≡ loops_among (codes_of structs (take (i - 1) xs)) ++ loops (code_of structs x)
loops_taken structs xs i x p l e = ap (λ n. loops_among (codes_of structs (take n xs))) (let k : i ≡ suc (i - 1) = omega (arith, p) in k) ∙ by xs (i - 1) (omega (arith, p, l)) e
  where
    by : (xs : List CodeCode) (i : ℕ) → i < length xs → x ≡ get_or xs i x → loops_among (codes_of structs (take (suc i) xs)) ≡ loops_among (codes_of structs (take i xs)) ++ loops (code_of structs x)
    by [] i l e = absurd (omega (arith, l))
    by (y ∷ ys) zero l e = append-nil (loops (code_of structs y)) ∙ ap (λ z. loops (code_of structs z)) (sym e)
    by (y ∷ ys) (suc i) l e = ap (λ t. loops (code_of structs y) ++ t) (by ys i (omega (arith, l)) e) ∙ sym (append_assoc (loops (code_of structs y)) (loops_among (codes_of structs (take i ys))) (loops (code_of structs x)))

-- without loops nothing is taken
pub without_loops : (names : List ℕ) (one other : Code) (old new : List Effect) → one ≡ other → loops other ≡ [] → Found names (loops one) old new → new ≡ old
without_loops names one other old new e n f = nothing_found names old new (subst (λ ls. Found names ls old new) (ap loops e ∙ n) f)
