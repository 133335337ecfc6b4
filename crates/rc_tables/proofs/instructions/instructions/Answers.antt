use Rattle.std.proofs.Common.{◌≡◌, ◌++◌, ◌∷◌, [], length, ap, ◌∙◌, arith, rules}
use Rattle.rc_tables.specs.Placed.{path_number, type_number}
use Rattle.rc_tables.proofs.Placing.{line_step}
use Rattle.rc_tables.proofs.instructions.instructions.Goals as goal

pub loop-at-preserved : goal.loop-at-preserved
loop-at-preserved c =
    let n = c.args.numbers.now in
    let rows = c.loop-at.rows.items in
    let pushed : c.push.new.self.items ≡ rows ++ c.in_ok-numbered.field-0 ∷ [] = search rules in
    line_step (type_number n) (path_number n) (length c.args.lines.now) c.args.lines.now c.loop-at.at c.index-lines-at.result rows c.push.new.self.items (omega arith) c.index-lines-at.is c.loop-at.invariant (pushed ∙ ap (λ r. rows ++ r ∷ []) c.in_ok-numbered.ensures)
