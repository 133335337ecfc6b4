use Rattle.std.proofs.Common.{[], ◌∷◌, ◌++◌, ap, ◌∙◌}
use Rattle.std.specs.Prelude.{codes, decimal}
use Rattle.std.proofs.lemmas.Result.{on_ok_weaker}
use Rattle.rc_task_text.proofs.Pieces.{onto_is}
use Rattle.rc_task_text.proofs.writing.append_main.Goals as goal

pub returns : goal.returns
returns c =
    let n = decimal c.args.count in
    on_ok_weaker c.append-2.result (λ e.
    e ∙ ap (λ l. l ++ codes ") yield(); return 0; }\n") (c.in_ok-append_number.ensures ∙ ap (λ l. l ++ n) c.in_ok-append.ensures)
    ∙ onto_is c.args.lines.now (codes "int main(void) deletes { start(); while (rc_at < " ∷ n ∷ codes ") yield(); return 0; }\n" ∷ []))
    c.append-2.ensures
