use Rattle.std.proofs.Common.{sym}
use Rattle.rc_defined.proofs.Lists.{on_both}
use Rattle.rc_defined.proofs.Firsts.{first_again, first_noted}
use Rattle.rc_defined.proofs.places.note.Goals as goal

pub returns-in-Some : goal.returns-in-Some
returns-in-Some c = record { ok = λ all f count. first_again c.args.names.now c.args.places.now.items all c.args.name.now c.in-Some.field-0 f (sym c.in-Some.ensures.number) }

pub returns-in-None : goal.returns-in-None
returns-in-None c = record {
  ok = λ all f count. on_both c.note_new.result c.note_new.ensures.names c.note_new.ensures.places
      (λ n p. first_noted c.args.names.now c.args.places.now.items all c.args.name.now c.args.place c.note_new.new.names c.note_new.new.places.items f c.in-None.ensures.number count n p);
}
