use Rattle.std.proofs.Common.{refl}
use Rattle.rc_syntax.specs.Grammar.{FieldDec}
use Rattle.rc_syntax.specs.reader.Reading.{initialised}
use Rattle.rc_parser.specs.Shapes.{declarator_of}
use Rattle.rc_stmt.proofs.Going.{fails_first, flat, first_part, first_part_refused}
use Rattle.rc_parser.proofs.globals.dec.Goals as goal

pub returns-in_err-declarator-clause-reads : goal.returns-in_err-declarator-clause-reads
returns-in_err-declarator-clause-reads c =
    fails_first c.from_residual.ensures.1 (flat (record { none = refl; plain = λ n r. refl }) (first_part_refused FieldDec initialised declarator_of _ (λ p h. refl) c.in_err-declarator.ensures.reads))

pub returns-clause-reads : goal.returns-clause-reads
returns-clause-reads c =
    flat (record { none = refl; plain = λ n r. refl }) (first_part FieldDec c.in_ok-declarator.place initialised declarator_of c.in_ok-declarator.declarator (λ p h. refl) c.in_ok-declarator.ensures.reads c.initialised.ensures.reads)
