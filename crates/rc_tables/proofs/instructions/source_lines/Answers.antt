use Rattle.std.proofs.Common.{◌++◌, ◌∷◌, [], map, take, sym, ap, ◌∙◌, subst}
use Rattle.std.specs.List.{AllByRecursion as Every}
use Rattle.std.proofs.lemmas.List.{map_push}
use Rattle.rc_code.specs.Image.{IsNumber}
use Rattle.rc_emission.specs.StackCode.{Line}
use Rattle.rc_lines.specs.Bare.{line_of, lines_of}
use Rattle.rc_safety.proofs.Lists.{every_append}
use Rattle.rc_tables.proofs.Taken.{map_more}
use Rattle.rc_tables.proofs.instructions.source_lines.Goals as goal

pub loop-line-preserved : goal.loop-line-preserved
loop-line-preserved c =
    let lines = c.args.lines.now in
    let i = c.loop-line.line-index in
    let x = c.line-item.result in
    let added = c.in_ok-add_line.ensures.added in
    record {
      lines = added ∙ ap (λ ns. ns ++ x.line ∷ []) c.loop-line.invariant.lines
          ∙ sym (ap (map (λ (l : Line). l.line)) (map_more lines i x c.loop-line-test.true c.line-item.is line_of) ∙ map_push (λ (l : Line). l.line) (lines_of (take i lines)) (line_of x));
      each = subst (Every IsNumber) (sym added) (every_append IsNumber c.loop-line.numbers.items (x.line ∷ []) c.loop-line.invariant.each (c.in_ok-add_line.ensures.number, tt));
    }
