use Rattle.std.proofs.Common.{◌∙◌, ℕ, List, Err, ap, subst, sym}
use Rattle.rc_answers.specs.declared.answer.Fault.{Fault}
use Rattle.rc_outcomes.specs.Outcome.{Compiles, as_they_are}
use Rattle.rc_outcomes.specs.Outside.{outside}
use Rattle.rc_outcomes.specs.Performing.{Performs}
use Rattle.rc_files.specs.Texts.{LoadedText}
use Rattle.rc_files.proofs.TextFiles.{failed, too_long}
use Rattle.rc_driver.specs.Compiling.{CompiledText}
use Rattle.rc_driver.proofs.Compiled.{compiled}
use Rattle.rc_driver.proofs.compile.compile_file.Goals as goal

pub returns-in-Ok : goal.returns-in-Ok
returns-in-Ok g c = λ request input out err heap row.
    compiled request c.args.from.now c.args.to.now row (outside (g.F.Shelf.state c.args.files.now) input out err heap) (g.F.Shelf.state c.load_text.new.files) c.in-Ok.text c.in-Ok.ensures (g.F.Shelf.state c.compile_text.new.files) c.compile_text.result
    (subst (λ (text : List ℕ). CompiledText text c.args.to.now (g.F.Shelf.state c.load_text.new.files) (g.F.Shelf.state c.compile_text.new.files) c.compile_text.result) c.as_slice.ensures c.compile_text.ensures)

pub returns-in-Err-TooLong : goal.returns-in-Err-TooLong
returns-in-Err-TooLong g c = λ request input out err heap row.
    too_long request c.args.from.now as_they_are (Compiles c.args.to.now) row.text (outside (g.F.Shelf.state c.args.files.now) input out err heap) (g.F.Shelf.state c.load_text.new.files)
    (subst (LoadedText c.args.from.now (g.F.Shelf.state c.args.files.now) (g.F.Shelf.state c.load_text.new.files)) (c.in-Err-TooLong.is ∙ ap Err c.in-Err-TooLong.field-0-is) c.load_text.ensures)

pub returns-in-Err-Failed : goal.returns-in-Err-Failed
returns-in-Err-Failed g c = λ request input out err heap row.
    subst (λ (fault : Fault). Performs request (outside (g.F.Shelf.state c.args.files.now) input out err heap) (outside (g.F.Shelf.state c.load_text.new.files) input out err heap) (Err fault)) (sym c.in-Err-Failed.fault-is)
    (failed request c.args.from.now as_they_are (Compiles c.args.to.now) row.text (outside (g.F.Shelf.state c.args.files.now) input out err heap) (g.F.Shelf.state c.load_text.new.files) c.in-Err-Failed.fault
    (subst (LoadedText c.args.from.now (g.F.Shelf.state c.args.files.now) (g.F.Shelf.state c.load_text.new.files)) (c.in-Err-Failed.is ∙ ap Err c.in-Err-Failed.field-0-is) c.load_text.ensures))
