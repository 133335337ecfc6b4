use Rattle.std.proofs.Common.{List, subst, sym}
use Rattle.rc_reached.specs.Numbered.{IsNumbered}
use Rattle.rc_path_rules.specs.declared.masks.Row.{Row}
use Rattle.rc_path_rules.specs.Masks.{AreRows}
use Rattle.rc_path_rules.proofs.Made.{rows_more}
use Rattle.rc_path_rules.proofs.masks.Masks.make_row.Goals as goal

pub returns : goal.returns
returns c = λ types right same.
    (let row : Row = record { type_number = c.args.type_number; row = c.in_ok-row.row } in
    record {
      rows = subst (λ (rows : List Row). AreRows types rows) (sym c.in_ok-push.ensures.items)
          (rows_more types c.args.self.now.rows.items row right.rows (subst (λ xs. IsNumbered xs c.in_ok-row.row) same c.in_ok-row.ensures));
      masks = right.masks;
    })
