use Rattle.std.proofs.Common.{List, subst, sym}
use Rattle.rc_reached.specs.Masks.{IsMask}
use Rattle.rc_path_rules.specs.declared.masks.Mask.{Mask}
use Rattle.rc_path_rules.specs.Masks.{AreMasks}
use Rattle.rc_path_rules.proofs.Made.{right_more}
use Rattle.rc_path_rules.proofs.masks.Masks.make.Goals as goal

pub returns : goal.returns
returns c = λ types right same.
    (let mask : Mask = record { type_number = c.args.type_number; cell = c.in-Some.cell.now; words = c.in_ok-words.words } in
    record {
      rows = right.rows;
      masks = subst (λ (masks : List Mask). AreMasks types masks) (sym c.in_ok-push.ensures.items)
          (right_more types c.args.self.now.made.items mask right.masks (subst (λ xs. IsMask c.in-Some.cell.now xs c.in_ok-words.words.items) same c.in_ok-words.ensures));
    })
