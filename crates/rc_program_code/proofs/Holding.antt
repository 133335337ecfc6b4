-- The lists of a statement are those of its parts.
use Rattle.std.proofs.Common.{◌≡◌, ℕ, suc, ◌+◌, Bool, ◌||◌, ◌&&◌, List, ◌++◌, arith, subst}
use Rattle.std.specs.Prelude.{Option, Some, is_some}
use Rattle.rc_safety.proofs.Lists.{every_split}
use Rattle.rc_core.specs.Live.{Ways, then_live, round}
use Rattle.rc_rlang.specs.LiveLists.{Held, steps_lists, act_lists, code_lists, codes_lists}
use Rattle.rc_rlang.specs.LiveMaps.{list_at}
use Rattle.rc_rlang.specs.RegionCode.{Steps, Act, Test, Code, Codes, simple, block, branch, loop, repeat, then}
use Rattle.rc_rlang.specs.RegionLive.{before_act, before_code, before_codes, loop_head, repeat_tail}
use Rattle.rc_rlang.specs.RegionPoints.{steps_points, act_points, branch_points, code_points, codes_points}
use Rattle.rc_lines.specs.declared.body.Body.{Body}
use Rattle.rc_lines.specs.Over.{deleting_in, types_in, Listed}
use Rattle.rc_program_code.specs.Placed.{StepsHeld, StepsReady, CodeHeld, CodesHeld, CodeReady, CodesReady}

module _ (b : Body) where
  split : (xs ys : List Held) → Listed b.live.now (xs ++ ys) → Listed b.live.now xs × Listed b.live.now ys
  split xs ys l = every_split (λ (x : Held). list_at b.live.now x.point ≡ Some x.locals) xs ys l

  abbrev of_steps : Steps → ℕ → (ℕ → Bool) → List Held
  of_steps s here live = steps_lists (deleting_in b) (types_in b) s here live

  abbrev of_code : Code → ℕ → Ways → List Held
  of_code c here k = code_lists (deleting_in b) (types_in b) c here k

  abbrev of_codes : Codes → ℕ → Ways → List Held
  of_codes c here k = codes_lists (deleting_in b) (types_in b) c here k

  -- a simple statement's steps, and what is done with their value, wherever it is known to begin
  pub simple_listed : (s : Steps) (act : Act) (k : Ways) (end here : ℕ) → here + (steps_points s + act_points act) ≡ end → CodeHeld b (simple s act) k end →
      Listed b.live.now (of_steps s here (before_act act k.next)) × Listed b.live.now (act_lists (deleting_in b) (types_in b) act (here + steps_points s) k.next)
  simple_listed s act k end here e h =
      let q = h.ends in
      let same : h.here ≡ here = omega (arith, e, q) in
      split (of_steps s here (before_act act k.next)) (act_lists (deleting_in b) (types_in b) act (here + steps_points s) k.next)
      (subst (λ n. Listed b.live.now (of_code (simple s act) n k)) same h.listed)

  pub steps_listed : (s : Steps) (live : ℕ → Bool) (end here : ℕ) → here + steps_points s ≡ end → StepsHeld b s live end → Listed b.live.now (of_steps s here live)
  steps_listed s live end here e h =
      let q = h.ends in
      let same : h.here ≡ here = omega (arith, e, q) in
      subst (λ n. Listed b.live.now (of_steps s n live)) same h.listed

  module _ (s : Steps) (test : Test) (yes' no' : Code) where
    abbrev branches : Code
    branches = branch s test yes' no'

    branch_lists : (k : Ways) (here : ℕ) → Listed b.live.now (of_code branches here k) →
        Listed b.live.now (of_steps s here (λ y. before_code yes' k y || before_code no' k y)) × Listed b.live.now (of_code yes' (suc (here + steps_points s)) k) × Listed b.live.now (of_code no' (suc (here + steps_points s) + code_points yes') k)
    branch_lists k here l =
        let first = split (of_steps s here (λ y. before_code yes' k y || before_code no' k y)) (of_code yes' (suc (here + steps_points s)) k ++ of_code no' (suc (here + steps_points s) + code_points yes') k) l in
        let arms = split (of_code yes' (suc (here + steps_points s)) k) (of_code no' (suc (here + steps_points s) + code_points yes') k) first.1 in
        (first.0, arms.0, arms.1)

    pub no_held : (k : Ways) (end : ℕ) → CodeHeld b branches k end → CodeHeld b no' k end
    no_held k end h = let q = h.ends in record { here = suc (h.here + steps_points s) + code_points yes'; ends = omega (arith, q); listed = (branch_lists k h.here h.listed).2 }

    pub yes_held : (k : Ways) (end at_no : ℕ) → at_no + code_points no' ≡ end → CodeHeld b branches k end → CodeHeld b yes' k at_no
    yes_held k end at_no e h = let q = h.ends in record { here = suc (h.here + steps_points s); ends = omega (arith, q, e); listed = (branch_lists k h.here h.listed).1 }

    pub branch_held : (k : Ways) (end at_no at_yes m : ℕ) → at_no + code_points no' ≡ end → at_yes + code_points yes' ≡ at_no → m + 1 ≡ at_yes → CodeHeld b branches k end → StepsHeld b s (λ y. before_code yes' k y || before_code no' k y) m
    branch_held k end at_no at_yes m e f g h = let q = h.ends in record { here = h.here; ends = omega (arith, q, e, f, g); listed = (branch_lists k h.here h.listed).0 }

    pub no_ready : (end : ℕ) → CodeReady b branches end → CodeReady b no' end
    no_ready end r = record { laid = r.laid; fits = r.fits.3; ways = r.ways; held = no_held r.ways end r.held }

    pub yes_ready : (end at_no : ℕ) → at_no + code_points no' ≡ end → CodeReady b branches end → CodeReady b yes' at_no
    yes_ready end at_no e r = record { laid = r.laid; fits = r.fits.2; ways = r.ways; held = yes_held r.ways end at_no e r.held }

    pub branch_ready : (end at_no at_yes m : ℕ) → at_no + code_points no' ≡ end → at_yes + code_points yes' ≡ at_no → m + 1 ≡ at_yes → CodeReady b branches end → StepsReady b s m
    branch_ready end at_no at_yes m e f g r = record { live = _; held = branch_held r.ways end at_no at_yes m e f g r.held }

  module _ (line : ℕ) (s : Steps) (test : Option Test) (third body : Code) where
    abbrev loops : Code
    loops = loop line s test third body

    abbrev pub third_ways : Ways → Ways
    third_ways k = then_live (loop_head s test third body k) k

    abbrev pub body_ways : Ways → Ways
    body_ways k = round (before_code third (third_ways k)) k

    abbrev pub head_live : Ways → ℕ → Bool
    head_live k y = (is_some test && k.next y) || before_code body (body_ways k) y

    abbrev at_body : ℕ → ℕ
    at_body here = suc here + steps_points s + branch_points test

    loop_lists : (k : Ways) (here : ℕ) → Listed b.live.now (of_code loops here k) →
        Listed b.live.now (of_steps s (suc here) (head_live k)) × Listed b.live.now (of_code body (at_body here) (body_ways k)) × Listed b.live.now (of_code third (at_body here + code_points body) (third_ways k))
    loop_lists k here l =
        let first = split (of_steps s (suc here) (head_live k)) (of_code body (at_body here) (body_ways k) ++ of_code third (at_body here + code_points body) (third_ways k)) l in
        let arms = split (of_code body (at_body here) (body_ways k)) (of_code third (at_body here + code_points body) (third_ways k)) first.1 in
        (first.0, arms.0, arms.1)

    pub third_held : (k : Ways) (end : ℕ) → CodeHeld b loops k end → CodeHeld b third (third_ways k) end
    third_held k end h = let q = h.ends in record { here = at_body h.here + code_points body; ends = omega (arith, q); listed = (loop_lists k h.here h.listed).2 }

    pub body_held : (k : Ways) (end at_third : ℕ) → at_third + code_points third ≡ end → CodeHeld b loops k end → CodeHeld b body (body_ways k) at_third
    body_held k end at_third e h = let q = h.ends in record { here = at_body h.here; ends = omega (arith, q, e); listed = (loop_lists k h.here h.listed).1 }

    pub loop_held : (k : Ways) (end at_third at_inside m : ℕ) → at_third + code_points third ≡ end → at_inside + code_points body ≡ at_third → m + branch_points test ≡ at_inside → CodeHeld b loops k end → StepsHeld b s (head_live k) m
    loop_held k end at_third at_inside m e f g h = let q = h.ends in record { here = suc h.here; ends = omega (arith, q, e, f, g); listed = (loop_lists k h.here h.listed).0 }

    pub third_ready : (end : ℕ) → CodeReady b loops end → CodeReady b third end
    third_ready end r = record { laid = r.laid; fits = r.fits.2; ways = third_ways r.ways; held = third_held r.ways end r.held }

    pub body_ready : (end at_third : ℕ) → at_third + code_points third ≡ end → CodeReady b loops end → CodeReady b body at_third
    body_ready end at_third e r = record { laid = r.laid; fits = r.fits.3; ways = body_ways r.ways; held = body_held r.ways end at_third e r.held }

    pub loop_ready : (end at_third at_inside m : ℕ) → at_third + code_points third ≡ end → at_inside + code_points body ≡ at_third → m + branch_points test ≡ at_inside → CodeReady b loops end → StepsReady b s m
    loop_ready end at_third at_inside m e f g r = record { live = head_live r.ways; held = loop_held r.ways end at_third at_inside m e f g r.held }

  module _ (line : ℕ) (body : Code) (s : Steps) (test : Test) where
    abbrev repeats : Code
    repeats = repeat line body s test

    abbrev pub repeat_ways : Ways → Ways
    repeat_ways k = round (repeat_tail body s test k) k

    abbrev pub tail_live : Ways → ℕ → Bool
    tail_live k y = k.next y || before_code (repeat 0 body s test) k y

    repeat_lists : (k : Ways) (here : ℕ) → Listed b.live.now (of_code repeats here k) → Listed b.live.now (of_code body (suc here) (repeat_ways k)) × Listed b.live.now (of_steps s (suc here + code_points body) (tail_live k))
    repeat_lists k here l = split (of_code body (suc here) (repeat_ways k)) (of_steps s (suc here + code_points body) (tail_live k)) l

    pub tail_held : (k : Ways) (end m : ℕ) → m + 1 ≡ end → CodeHeld b repeats k end → StepsHeld b s (tail_live k) m
    tail_held k end m e h = let q = h.ends in record { here = suc h.here + code_points body; ends = omega (arith, q, e); listed = (repeat_lists k h.here h.listed).1 }

    pub inside_held : (k : Ways) (end m at_steps : ℕ) → m + 1 ≡ end → at_steps + steps_points s ≡ m → CodeHeld b repeats k end → CodeHeld b body (repeat_ways k) at_steps
    inside_held k end m at_steps e f h = let q = h.ends in record { here = suc h.here; ends = omega (arith, q, e, f); listed = (repeat_lists k h.here h.listed).0 }

    pub tail_ready : (end m : ℕ) → m + 1 ≡ end → CodeReady b repeats end → StepsReady b s m
    tail_ready end m e r = record { live = tail_live r.ways; held = tail_held r.ways end m e r.held }

    pub inside_ready : (end m at_steps : ℕ) → m + 1 ≡ end → at_steps + steps_points s ≡ m → CodeReady b repeats end → CodeReady b body at_steps
    inside_ready end m at_steps e f r = record { laid = r.laid; fits = r.fits.0; ways = repeat_ways r.ways; held = inside_held r.ways end m at_steps e f r.held }

  module _ (c : Code) (rest : Codes) where
    codes_split : (k : Ways) (here : ℕ) → Listed b.live.now (of_codes (then c rest) here k) → Listed b.live.now (of_code c here (then_live (before_codes rest k) k)) × Listed b.live.now (of_codes rest (here + code_points c) k)
    codes_split k here l = split (of_code c here (then_live (before_codes rest k) k)) (of_codes rest (here + code_points c) k) l

    pub first_held : (k : Ways) (end m : ℕ) → m + codes_points rest ≡ end → CodesHeld b (then c rest) k end → CodeHeld b c (then_live (before_codes rest k) k) m
    first_held k end m e h = let q = h.ends in record { here = h.here; ends = omega (arith, q, e); listed = (codes_split k h.here h.listed).0 }

    pub rest_held : (k : Ways) (end : ℕ) → CodesHeld b (then c rest) k end → CodesHeld b rest k end
    rest_held k end h = let q = h.ends in record { here = h.here + code_points c; ends = omega (arith, q); listed = (codes_split k h.here h.listed).1 }

    pub first_ready : (end m : ℕ) → m + codes_points rest ≡ end → CodesReady b (then c rest) end → CodeReady b c m
    first_ready end m e r = record { laid = r.laid; fits = r.fits.0; ways = then_live (before_codes rest r.ways) r.ways; held = first_held r.ways end m e r.held }

    pub rest_ready : (end : ℕ) → CodesReady b (then c rest) end → CodesReady b rest end
    rest_ready end r = record { laid = r.laid; fits = r.fits.1; ways = r.ways; held = rest_held r.ways end r.held }

  -- a block's lists are those of its statements
  pub block_ready : (codes : Codes) (end : ℕ) → CodeReady b (block codes) end → CodesReady b codes end
  block_ready codes end r = record { laid = r.laid; fits = r.fits; ways = r.ways; held = record { here = r.held.here; ends = r.held.ends; listed = r.held.listed } }
