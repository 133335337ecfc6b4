use Rattle.std.proofs.Common.{◌∷◌, [], ◌∙◌, ℕ, List, ap}
use Rattle.rc_core.specs.Shapes.{bytes_of}
use Rattle.rc_core.specs.Types.{char}
use Rattle.rc_emission.specs.KeptOperands.{same_type}
use Rattle.rc_numbering.specs.Tables.{seen_behind}
use Rattle.rc_tables.specs.Kept.{all_types}
use Rattle.rc_tables.proofs.Seen.{twice_step}
use Rattle.rc_tables.proofs.program.add_strings.Goals as goal

pub loop-string-preserved : goal.loop-string-preserved
loop-string-preserved c =
    twice_step same_type c.args.strings.now c.loop-string._string-index c._string-item.result c.loop-string-test.true c._string-item.is (all_types c.args.types.now) (all_types c.loop-string.types) (all_types c.add.new.self) (λ (bytes : List ℕ). char) bytes_of c.loop-string.invariant
    (c.in_ok-add.ensures.ok ∙ ap (λ t. seen_behind same_type (all_types c.loop-string.types) (t ∷ [])) c.requires)
