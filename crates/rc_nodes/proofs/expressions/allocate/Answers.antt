use Rattle.std.proofs.Common.{rules, ℤ, subst, w64, SFits, to_z-of_z}
use Rattle.rc_core.specs.Layout.{cells}
use Rattle.rc_core.specs.Runs.{bind}
use Rattle.rc_core.specs.Shapes.{ty_of}
use Rattle.rc_nodes.specs.Coming.{Comes}
use Rattle.rc_memory.specs.KeptWorld.{kept}
use Rattle.rc_nodes.specs.Stepping.{giving_next}
use Rattle.rc_values.specs.Values.{value_of}
use Rattle.rc_nodes.proofs.expressions.allocate.Goals as goal

pub returns : goal.returns
returns c = λ program frames env w laid at_heap limited.
    let fits : SFits w64 c.args.count = search rules in
    let P : ℤ → Type 0 = λ n. Comes c.yield_value.result frames env c.allocate.new.self w (bind (kept.allocate c.args.line (value_of c.args.region) n (cells program.structs (ty_of c.args.element.now)) w) (giving_next program frames env)) in
    subst P (to_z-of_z fits)
    (c.yield_value.ensures program frames env c.allocate.new.self w _
    (c.allocate.ensures.allocate w at_heap limited (cells program.structs (ty_of c.args.element.now)) (c.cells_of-kinds.ensures program.structs laid)))
