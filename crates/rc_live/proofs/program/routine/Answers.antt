use Rattle.std.proofs.Common.{◌+◌, ◌++◌, ◌≤◌, ℕ, suc, [], length, map, sym, ◌∙◌, subst, refl, arith, append-nil}
use Rattle.std.specs.Prelude.{option_map}
use Rattle.rc_core.specs.Shapes.{ty_of}
use Rattle.rc_core.specs.Live.{at_end}
use Rattle.rc_rlang.specs.LiveMaps.{IsIncreasing}
use Rattle.rc_rlang.specs.LiveLists.{code_lists, routine_lists}
use Rattle.rc_rlang.specs.Points.{end_points}
use Rattle.rc_rlang.specs.RegionPoints.{code_points, routine_points}
use Rattle.rc_rlang.specs.RegionRuns.{deletes}
use Rattle.rc_rlang.specs.Shapes.{code_of, routine_in, rlang_of}
use Rattle.rc_live.specs.Effects.{Found, loops}
use Rattle.rc_live.specs.Walking.{looked_at, seen, structs_in, WentBack}
use Rattle.rc_live.proofs.Bits.{numbered_is_increasing, looked_at_few}
use Rattle.rc_live.proofs.Back.{back_both, back_as}
use Rattle.rc_live.proofs.Pieces.{back_past}
use Rattle.rc_live.proofs.program.routine.Goals as goal

pub effect_of-requires : goal.effect_of-requires
effect_of-requires c =
    let types = looked_at c.args.program.now.listed (map ty_of c.args.one.now.locals.items) in
    let e = c.as_slice.ensures.value ∙ c.in_ok-names.ensures (structs_in c.args.program.now.parts.now) in
    record { short = subst (λ ns. length ns ≤ 128) (sym e) (looked_at_few c.args.program.now.listed (map ty_of c.args.one.now.locals.items) c.requires.short); once = subst IsIncreasing (sym e) (numbered_is_increasing types) }

pub code-requires : goal.code-requires
code-requires c =
    let types = looked_at c.args.program.now.listed (map ty_of c.args.one.now.locals.items) in
    let e = c.as_slice.ensures.value ∙ c.in_ok-names.ensures (structs_in c.args.program.now.parts.now) in
    record { short = subst (λ ns. length ns ≤ 128) (sym e) (looked_at_few c.args.program.now.listed (map ty_of c.args.one.now.locals.items) c.requires.short); once = subst IsIncreasing (sym e) (numbered_is_increasing types) }

pub returns : goal.returns
returns c =
    let types = looked_at c.args.program.now.listed (map ty_of c.args.one.now.locals.items) in
    let structs = structs_in c.args.program.now.parts.now in
    let deleting = deletes (rlang_of c.args.program.now.parts.now) in
    let body = code_of structs c.args.one.now.body in
    let result = option_map ty_of c.args.one.now.result in
    let names = c.as_slice.result.now in
    let e = c.as_slice.ensures.value ∙ c.in_ok-names.ensures structs in
    let lists = λ (here : ℕ). code_lists deleting types body here at_end in
    let found = subst (λ old. Found names (loops body) old c.effect_of.new.listed.items) c.new-effects.ensures.items (c.in_ok-effect_of.ensures structs).found in
    let of_code = (c.in_ok-code.ensures types at_end [] (record { names = e; laid = c.requires.laid }) (c.none.ensures names) found).0 in
    let behind = subst (λ n. WentBack n (λ here. []) c.args.walk.now c.pass.new.self) c.points_behind.ensures c.pass.ensures in
    let n = code_points body in
    let m = end_points result in
    let both = back_as (n + m) (n + m) (λ here. lists here ++ []) lists c.args.walk.now c.code.new.walk refl (λ here. append-nil (lists here)) (back_both n m lists (λ here. []) c.args.walk.now c.pass.new.self c.code.new.walk behind of_code.back) in
    back_as (1 + (n + m)) (routine_points (seen c.args.program.now.listed (routine_in structs c.args.one.now))) (λ here. lists (suc here)) (λ here. routine_lists deleting (seen c.args.program.now.listed (routine_in structs c.args.one.now)) here) c.args.walk.now c.pass-2.new.self (omega arith) (λ here. refl)
    (back_past (n + m) lists c.args.walk.now c.code.new.walk c.pass-2.new.self both c.pass-2.ensures)
