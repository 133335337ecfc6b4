use Rattle.std.proofs.Common.{◌-◌, ◌&&◌, length, get_or, refl, sym, ap, ◌∙◌}
use Rattle.rc_code.specs.Soundness.{place_kinds}
use Rattle.rc_loader.specs.declared.operand.Operand.{Operand}
use Rattle.rc_loader.specs.Codes.{kind_in}
use Rattle.rc_loader.specs.Decisions.{same_kind}
use Rattle.rc_loader.proofs.Operands.{stored_are}
use Rattle.rc_loader.proofs.taken.are_stored.Goals as goal

abbrev none : Operand
none = record { code = 0 }

pub returns-then-are_place : goal.returns-then-are_place
returns-then-are_place c =
    sym (ap (λ b. b && c.is.result) c.if-are_place.true)
    ∙ stored_are c.args.operands.now none (place_kinds c.args.path.now) (kind_in c.args.value) c.are_place.result c.is.result c.in-len1-up.len_at_least c.are_place.ensures c.is.ensures

pub returns-else-are_place : goal.returns-else-are_place
returns-else-are_place c =
    let last = same_kind (kind_in (get_or c.args.operands.now (length c.args.operands.now - 1) none)) (kind_in c.args.value) in
    c.if-are_place.false ∙ sym (ap (λ b. b && last) c.if-are_place.false)
    ∙ stored_are c.args.operands.now none (place_kinds c.args.path.now) (kind_in c.args.value) c.are_place.result last c.in-len1-up.len_at_least c.are_place.ensures refl
