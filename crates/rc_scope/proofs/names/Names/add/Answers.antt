use Rattle.std.proofs.Common.{subst}
use Rattle.rc_scope.specs.Names.{IsNumbered}
use Rattle.rc_scope.proofs.Keys.{inserted, inserted_at}
use Rattle.rc_scope.proofs.Numbers.{numbered_with_new}
use Rattle.rc_scope.proofs.names.Names.add.Goals as goal

pub returns-clause-number : goal.returns-clause-number
returns-clause-number c = inserted_at c.self.inside.names.keys c.args.self.now c.self.view_is c.in-Ok.key c.args.name.now c.in-Ok.ensures.items c.requires.is_new c.in-Ok-insert_full.place c.in-Ok-insert_full.ensures.index

pub returns-clause-names : goal.returns-clause-names
returns-clause-names c = inserted c.self.inside.names.keys c.args.self.now c.self.view_is c.in-Ok.key c.args.name.now c.in-Ok.ensures.items c.requires.is_new c.insert_full.new.self.keys c.in-Ok-insert_full.ensures.keys

pub invariant_of-self-2 : goal.invariant_of-self-2
invariant_of-self-2 c = numbered_with_new c.args.self.now c.args.name.now _ c.requires.is_new (returns-clause-names c) c.requires.room (subst IsNumbered c.self.view_is c.self.invariant)
