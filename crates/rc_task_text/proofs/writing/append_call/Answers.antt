use Rattle.std.proofs.Common.{[], ◌∷◌, ◌++◌, ap, ◌∙◌}
use Rattle.std.specs.Prelude.{codes, decimal}
use Rattle.std.proofs.lemmas.Result.{on_ok_weaker}
use Rattle.rc_task_text.proofs.Pieces.{onto_is}
use Rattle.rc_task_text.proofs.writing.append_call.Goals as goal

pub returns : goal.returns
returns c =
    let d = c.args.task in
    on_ok_weaker c.append-3.result (λ e.
    e ∙ ap (λ l. l ++ codes "();") (c.in_ok-append_number-2.ensures ∙ ap (λ l. l ++ decimal d) (c.in_ok-append-2.ensures ∙ ap (λ l. l ++ codes "') task_") (c.in_ok-append_number.ensures ∙ ap (λ l. l ++ decimal d) c.in_ok-append.ensures)))
    ∙ onto_is c.args.lines.now (codes " if (c == '" ∷ decimal d ∷ codes "') task_" ∷ decimal d ∷ codes "();" ∷ []))
    c.append-3.ensures
