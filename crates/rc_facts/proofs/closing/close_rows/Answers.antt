use Rattle.std.proofs.Common.{◌∙◌, ◌<◌, ◌||◌, ◌&&◌, nat_lt, length, ap, sym, arith}
use Rattle.rc_facts.specs.declared.fact.Fact.TheVariants.{In, Up}
use Rattle.rc_base.specs.BitSets.{marks}
use Rattle.rc_facts.specs.Rows.{links}
use Rattle.rc_facts.proofs.Closes.{Closes, closes, only_derivable, derivable_over, mirrored_below, widened_below}
use Rattle.rc_facts.proofs.closing.close_rows.Goals as goal

pub chain-requires-clause-within : goal.chain-requires-clause-within
chain-requires-clause-within c = λ x y is.
    let w = c.args.within.now in
    let below : y < length w = mirrored_below (length w) (links w) (links c.mirror.new.rows) (marks c.spread.result) (λ i j. c.requires.over (In i j)) c.mirror.ensures x y is in
    omega arith

pub chain-requires-2-clause-within : goal.chain-requires-2-clause-within
chain-requires-2-clause-within c = λ x y is.
    let w = c.args.within.now in
    let in_below = mirrored_below (length w) (links w) (links c.mirror.new.rows) (marks c.spread.result) (λ i j. c.requires.over (In i j)) c.mirror.ensures in
    let below : y < length w = widened_below (length w) (links c.args.above.now) (links c.mirror.new.rows) (links c.chain.new.rows) (links c.join.new.rows) (λ i j. c.requires.over (Up i j)) in_below c.chain.ensures c.join.ensures x y is in
    omega (arith, c.requires.same)

pub returns : goal.returns
returns c =
    let rows_in = c.chain.auto.rows ∙ c.mirror.auto.rows in
    let rows_up = c.chain-2.auto.rows ∙ c.join.auto.rows ∙ c.requires.same in
    let same_in = c.extend-2.auto.rows ∙ rows_in in
    let rooted = rw rows_in at c.extend-2.ensures in
    let steps : Closes (length c.args.within.now) (links c.args.within.now) (links c.args.above.now) (marks c.args.traditional.now) (marks c.args.present.now) (marks c.spread.result) (links c.mirror.new.rows) (links c.chain.new.rows) (links c.join.new.rows) (links c.chain-2.new.rows) (marks c.led_back.result) (links c.extend-2.new.rows) (links c.extend.new.rows) = record {
      spread = c.spread.ensures;
      mirrored = c.mirror.ensures;
      in_chained = c.chain.ensures;
      widened = c.join.ensures;
      up_chained = c.chain-2.ensures;
      inherited = c.led_back.ensures;
      up_rooted = rw rows_up at c.extend.ensures;
      in_rooted = λ x y. rooted x y ∙ ap (λ b. links c.chain.new.rows x y || (nat_lt x (length c.args.within.now) && (marks c.led_back.result x && b))) (c.intersection.ensures y);
    } in
    record {
      sound = record {
        few = rw same_in c.requires.few;
        same = c.extend.auto.rows ∙ rows_up ∙ sym same_in;
        over = λ fact there. rw same_in (derivable_over c.requires.over (only_derivable steps c.requires.over fact there));
      };
      facts = closes steps c.requires.over;
    }
