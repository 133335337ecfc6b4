use Rattle.std.proofs.Common.{[], ◌∷◌, ◌++◌, length, ap, ◌∙◌, append-nil}
use Rattle.rc_task_text.specs.TaskText.{counter_line, main_line, yield_line}
use Rattle.rc_task_text.proofs.Pieces.{onto_is}
use Rattle.rc_task_text.proofs.writing.task_lines.Goals as goal

pub returns : goal.returns
returns c =
    let cs = c.args.choices.now in
    c.into_bytes.ensures ∙ c.in_ok-append_main.ensures ∙ ap (λ l. l ++ main_line (length cs))
    (c.in_ok-append_yield.ensures ∙ ap (λ l. l ++ yield_line cs)
    (c.in_ok-append.ensures ∙ ap (λ l. l ++ counter_line) c.new-lines.ensures))
    ∙ onto_is [] (counter_line ∷ yield_line cs ∷ main_line (length cs) ∷ []) ∙ ap (λ l. counter_line ++ (yield_line cs ++ l)) (append-nil (main_line (length cs)))
