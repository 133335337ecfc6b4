use Rattle.std.proofs.Common.{◌≡◌, false, []}
use Rattle.rc_facts.specs.Facts.{holds}
use Rattle.rc_facts.specs.Shut.{placed}
use Rattle.rc_facts.proofs.Fresh.{nothing}
use Rattle.rc_facts.proofs.Shut.{laws_of}
use Rattle.rc_facts.proofs.Table.{row_law, loaded_plain_row}
use Rattle.rc_facts.proofs.fact_set.FactSet.assign_unknown.Goals as goal

pub returns-clause-facts : goal.returns-clause-facts
returns-clause-facts c =
    let n = c.args.self.now.variables in
    let old = holds c.args.self.now in
    let shut = c.requires.shut in
    let clean = c.requires.clean in
    let l = laws_of n c.args.scratch old shut clean in
    let wanted = nothing in
    let is : placed c.empty-none.result c.empty-none.result c.empty-none.result c.empty-none.result false false ≡ wanted = λ i. record { row_in = λ y. c.empty-none.ensures y i; row_up = λ y. c.empty-none.ensures y i; into_in = λ y. c.empty-none.ensures y i; into_up = λ y. c.empty-none.ensures y i; trad = false; present = false } in
    row_law n c.args.scratch c.args.x old (holds c.place.new.self) ([]) wanted (placed c.empty-none.result c.empty-none.result c.empty-none.result c.empty-none.result false false) c.requires.scratch c.requires.apart shut clean (loaded_plain_row n c.args.scratch old l clean) is c.place.ensures.facts
