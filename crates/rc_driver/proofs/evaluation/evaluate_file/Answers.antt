use Rattle.std.proofs.Common.{◌∙◌, ℕ, List, Err, refl, ap, subst, sym}
use Rattle.rc_answers.specs.declared.answer.Fault.{Fault}
use Rattle.rc_outcomes.specs.Outcome.{Runs, as_they_are, unsaid}
use Rattle.rc_outcomes.specs.Outside.{outside}
use Rattle.rc_outcomes.specs.Performing.{Performs}
use Rattle.rc_files.specs.Programs.{RanText}
use Rattle.rc_files.specs.Texts.{LoadedText}
use Rattle.rc_files.proofs.TextFiles.{failed, too_long}
use Rattle.rc_files.proofs.RunTexts.{text_ran}
use Rattle.rc_driver.specs.Evaluating.{TellsInput}
use Rattle.rc_driver.proofs.evaluation.evaluate_file.Goals as goal

pub returns-in-Ok : goal.returns-in-Ok
returns-in-Ok g c = λ request err heap row.
    text_ran request c.args.name.now as_they_are c.args.limits unsaid TellsInput row (outside (g.F.Shelf.state c.args.files.now) (g.S.Source.state c.args.input.now) (g.O.Sink.state c.args.out.now) err heap) (g.F.Shelf.state c.load_text.new.files) c.in-Ok.text c.in-Ok.ensures
    (g.S.Source.state c.run_text.new.input) (g.O.Sink.state c.run_text.new.out) heap (λ e. refl) c.run_text.result
    (subst (λ (text : List ℕ). RanText unsaid (TellsInput (g.S.Source.state c.args.input.now)) text c.args.limits (g.S.Source.state c.args.input.now) (g.S.Source.state c.run_text.new.input) (g.O.Sink.state c.args.out.now) (g.O.Sink.state c.run_text.new.out) heap heap c.run_text.result) c.as_slice.ensures (c.run_text.ensures heap))

pub returns-in-Err-TooLong : goal.returns-in-Err-TooLong
returns-in-Err-TooLong g c = λ request err heap row.
    too_long request c.args.name.now as_they_are (Runs unsaid c.args.limits) row.text (outside (g.F.Shelf.state c.args.files.now) (g.S.Source.state c.args.input.now) (g.O.Sink.state c.args.out.now) err heap) (g.F.Shelf.state c.load_text.new.files)
    (subst (LoadedText c.args.name.now (g.F.Shelf.state c.args.files.now) (g.F.Shelf.state c.load_text.new.files)) (c.in-Err-TooLong.is ∙ ap Err c.in-Err-TooLong.field-0-is) c.load_text.ensures)

pub returns-in-Err-Failed : goal.returns-in-Err-Failed
returns-in-Err-Failed g c = λ request err heap row.
    subst (λ (fault : Fault). Performs request (outside (g.F.Shelf.state c.args.files.now) (g.S.Source.state c.args.input.now) (g.O.Sink.state c.args.out.now) err heap) (outside (g.F.Shelf.state c.load_text.new.files) (g.S.Source.state c.args.input.now) (g.O.Sink.state c.args.out.now) err heap) (Err fault)) (sym c.in-Err-Failed.fault-is)
    (failed request c.args.name.now as_they_are (Runs unsaid c.args.limits) row.text (outside (g.F.Shelf.state c.args.files.now) (g.S.Source.state c.args.input.now) (g.O.Sink.state c.args.out.now) err heap) (g.F.Shelf.state c.load_text.new.files) c.in-Err-Failed.fault
    (subst (LoadedText c.args.name.now (g.F.Shelf.state c.args.files.now) (g.F.Shelf.state c.load_text.new.files)) (c.in-Err-Failed.is ∙ ap Err c.in-Err-Failed.field-0-is) c.load_text.ensures))
