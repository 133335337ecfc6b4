-- What the parts of trees that the code reads are, as the grammar speaks of them.
use Rattle.rc_syntax.specs.Shape.{stmts_of, mapped}
use Rattle.rc_syntax.specs.Grammar as g
use Rattle.rc_parser.specs.declared.fields.Declarator as declared_declarator
use Rattle.rc_parser.specs.declared.globals.GlobalDeclarator as declared_global
use Rattle.rc_parser.specs.declared.functions.Ending as declared_ending

abbrev pub declarator_of : declared_declarator.Declarator → g.FieldDeclarator
declarator_of d = record { spot = d.spot; stars = d.stars.items; name = d.name; length = d.length }

abbrev pub global_of : declared_global.GlobalDeclarator → g.GlobalDeclarator
global_of d = record { declarator = declarator_of d.declarator; constant = d.constant }

abbrev pub ending_of : declared_ending.Ending → g.FunctionEnding
ending_of e = record { deletes = e.deletes; body = mapped (λ b. stmts_of b.items) e.body }
