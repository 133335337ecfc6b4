use Rattle.std.proofs.Common.{[], ◌∷◌, ◌++◌, length, ap, ◌∙◌}
use Rattle.std.specs.Prelude.{codes, decimal}
use Rattle.std.proofs.lemmas.Result.{on_ok_weaker}
use Rattle.rc_task_text.specs.TaskText.{calls_text}
use Rattle.rc_task_text.proofs.Pieces.{onto_is}
use Rattle.rc_task_text.proofs.writing.append_yield.Goals as goal

pub returns : goal.returns
returns c =
    let cs = c.args.choices.now in
    let n = decimal (length cs) in
    on_ok_weaker c.append-5.result (λ e.
    e ∙ ap (λ l. l ++ codes " } }\n")
    (c.in_ok-append_calls.ensures ∙ ap (λ l. l ++ calls_text cs)
    (c.in_ok-append-4.ensures ∙ ap (λ l. l ++ codes ") { c = s[rc_at]; rc_at++;")
    (c.in_ok-append_number.ensures ∙ ap (λ l. l ++ n)
    (c.in_ok-append-3.ensures ∙ ap (λ l. l ++ codes "\"; char c; if (rc_at < ")
    (c.in_ok-append-2.ensures ∙ ap (λ l. l ++ cs) c.in_ok-append.ensures)))))
    ∙ onto_is c.args.lines.now (codes "void yield(void) deletes { char *s = \"" ∷ cs ∷ codes "\"; char c; if (rc_at < " ∷ n ∷ codes ") { c = s[rc_at]; rc_at++;" ∷ calls_text cs ∷ codes " } }\n" ∷ []))
    c.append-5.ensures
