use Rattle.std.proofs.Common.{rules}
use Rattle.rc_defined.specs.Contexts.{context_of}
use Rattle.rc_items.proofs.Members.{walk_ends, known_here, front_stops, field_stops, field_step, known_on}
use Rattle.rc_items.proofs.definitions.fields.Goals as goal

pub before_field-requires : goal.before_field-requires
before_field-requires c = λ k.
    known_here (context_of c.args.context.now) c.args.count c.loop-rest.earlier _ c.loop-rest.rest.now c.loop-rest.invariant.same c.f-item.result c.in-len1-up.len_at_least c.f-item.is (c.loop-rest.invariant.known k)

pub returns-in_err-before_field-clause-err : goal.returns-in_err-before_field-clause-err
returns-in_err-before_field-clause-err c =
    let h = front_stops (context_of c.args.context.now) c.args.count c.loop-rest.earlier _ c.loop-rest.rest.now c.loop-rest.invariant.same c.f-item.result c.in-len1-up.len_at_least c.f-item.is c.in_err-before_field.field-0.0 c.in_err-before_field.ensures.err in
    search rules

pub returns-in_err-field-clause-err : goal.returns-in_err-field-clause-err
returns-in_err-field-clause-err c =
    let h = field_stops (context_of c.args.context.now) c.args.count c.loop-rest.earlier _ c.loop-rest.rest.now c.loop-rest.invariant.same c.f-item.result c.in-len1-up.len_at_least c.f-item.is c.in_ok-before_field.ensures.ok c.in_err-field.field-0.0 c.in_err-field.ensures.err in
    search rules

pub loop-rest-preserved : goal.loop-rest-preserved
loop-rest-preserved c = record {
  same = field_step (context_of c.args.context.now) c.args.count c.loop-rest.earlier _ c.loop-rest.rest.now c.loop-rest.invariant.same c.f-item.result c.in-len1-up.len_at_least c.f-item.is c.in_ok-before_field.ensures.ok c.field.new.earlier c.in_ok-field.ensures.ok c.in_ok-field.ensures.behind;
  known = known_on (context_of c.args.context.now) c.args.count c.loop-rest.earlier _ c.loop-rest.rest.now c.loop-rest.invariant.same c.f-item.result c.in-len1-up.len_at_least c.f-item.is c.in_ok-before_field.ensures.ok c.shares_with_next-is_known.result c.shares_with_next-is_known.ensures;
}

pub returns-clause-ok : goal.returns-clause-ok
returns-clause-ok c = walk_ends (context_of c.args.context.now) c.args.count c.loop-rest.earlier _ c.loop-rest.rest.now c.loop-rest.invariant.same c.in_default.len_below
