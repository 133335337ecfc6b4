use Rattle.std.proofs.Common.{◌≤◌, ◌<◌, length, map, ap, sym, ◌∙◌, arith}
use Rattle.std.proofs.lemmas.List.{map-append}
use Rattle.rc_syntax.specs.declared.tree.Tree.{Tree}
use Rattle.rc_syntax.specs.Shape.{item_of}
use Rattle.rc_syntax.specs.reader.Steps.{run}
use Rattle.rc_words.specs.Words.{from}
use Rattle.rc_words.proofs.Standing.{line_past}
use Rattle.rc_parser.proofs.Texts.{behind, item_read, item_refused, rest_refused, text_read, text_fails}
use Rattle.rc_parser.proofs.items.parse.Goals as goal

pub loop-alloc-init : goal.loop-alloc-init
loop-alloc-init c =
    let ts = c.args.tokens.now in
    let low : 0 ≤ length ts = omega arith in
    (ap (λ l. run 0 (behind (map item_of l) 0) (from ts 0)) (sym c.new-items.ensures.items), low)

pub returns-in_err-more-clause-answers : goal.returns-in_err-more-clause-answers
returns-in_err-more-clause-answers c =
    let ts = c.args.tokens.now in
    text_fails ts _ _ c.from_residual.ensures.1
    (item_refused ts (map item_of c.loop-alloc.items.items) c.loop-alloc.place (λ v. map item_of v.items) _ (sym c.loop-alloc-test.ensures) c.in_err-more.ensures.reads c.loop-alloc.invariant.0)

pub loop-alloc-preserved : goal.loop-alloc-preserved
loop-alloc-preserved c =
    let ts = c.args.tokens.now in
    let before = c.loop-alloc.items.items in
    let more = c.in_ok-more.more in
    let end = c.in_ok-more.end in (
      c.loop-alloc.invariant.0
          ∙ item_read ts (map item_of before) c.loop-alloc.place end (λ v. map item_of v.items) more (sym c.loop-alloc-test.ensures) c.in_ok-more.ensures.reads
          ∙ ap (λ l. run 0 (behind l end) (from ts end)) (sym (ap (map item_of) c.in_ok-append.ensures.ok ∙ map-append item_of before more.items)),
      c.in_ok-more.ensures.place.1,
    )

pub returns-then-place-tokens : goal.returns-then-place-tokens
returns-then-place-tokens c =
    let ts = c.args.tokens.now in
    let within : c.loop-alloc.place < length ts = omega arith in
    record { answers = rest_refused ts (map item_of c.loop-alloc.items.items) c.loop-alloc.place _ (sym c.loop-alloc-test.ensures) within c.refused_at.ensures c.loop-alloc.invariant.0; last = tt }

pub returns : goal.returns
returns c =
    let ts = c.args.tokens.now in
    let past : length ts ≤ c.loop-alloc.place = omega arith in
    let whole : Tree = record { items = c.loop-alloc.items; last = c.line_at-last.result } in
    record {
      answers = text_read ts whole c.loop-alloc.place past c.loop-alloc.invariant.0;
      last = c.line_at-last.ensures ∙ line_past ts c.loop-alloc.place past;
    }
