use Rattle.std.proofs.Common.{refl}
use Rattle.rc_stmt.proofs.Going.{fails_first, flat}
use Rattle.rc_parser.proofs.Itemed.{item_part, item_part_refused}
use Rattle.rc_parser.proofs.items.typed_item.Goals as goal

pub returns-in_err-base-clause-reads : goal.returns-in_err-base-clause-reads
returns-in_err-base-clause-reads c =
    fails_first c.from_residual.ensures.1 (flat (record { none = refl; plain = λ n r. refl }) (item_part_refused c.requires.no_struct c.requires.not_deleting c.requires.with_result _ c.in_err-base.ensures.reads))

pub returns-clause-reads : goal.returns-clause-reads
returns-clause-reads c =
    flat (record { none = refl; plain = λ n r. refl }) (item_part c.requires.no_struct c.requires.not_deleting c.requires.with_result c.in_ok-base.place c.in_ok-base.base c.in_ok-base.ensures.reads c.item_based.ensures.reads)
