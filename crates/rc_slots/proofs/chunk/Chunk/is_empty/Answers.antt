use Rattle.std.proofs.Common.{◌≡◌, ◌∙◌, None, sym, ap, replicate, rules}
use Rattle.std.specs.List.{count_by}
use Rattle.rc_slots.specs.Entries.{is_entry}
use Rattle.rc_slots.proofs.Entered.{no_entry}
use Rattle.rc_slots.proofs.chunk.Chunk.is_empty.Goals as goal

pub returns : goal.returns
returns c = λ empty.
    let none : count_by is_entry c.self.inside.entries.value ≡ 0 = sym c.self.invariant.1 ∙ search (rules, empty) in
    sym c.self.view_is ∙ no_entry c.self.inside.entries.value none ∙ ap (λ n. replicate n None) c.self.invariant.0
