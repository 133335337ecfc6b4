use Rattle.std.proofs.Common.{ap, ◌∙◌, subst, Err}
use Rattle.rc_syntax.specs.Place.{AnswersAll, last_line}
use Rattle.rc_syntax.specs.WordShapes.{tokens_of}
use Rattle.rc_compile.proofs.OneAnswer.{same_words}
use Rattle.rc_compile.proofs.Found.{tree_found, syntax_only, deep_only}
use Rattle.rc_compile.proofs.Limits.{few_code_words}
use Rattle.rc_compile.proofs.compiling.tree_behind.Goals as goal

pub parse-requires : goal.parse-requires
parse-requires c = few_code_words c.args._text.now c.args.tokens.now c.requires

pub returns-in-Ok : goal.returns-in-Ok
returns-in-Ok c =
    let text = c.args._text.now in
    let own = tokens_of c.args.tokens.now in (
      tree_found text own c.in-Ok.tree c.requires c.in-Ok.ensures.answers,
      λ tokens has. c.in-Ok.ensures.last ∙ ap last_line (same_words text own tokens c.requires has),
    )

pub returns-in-Err-Syntax : goal.returns-in-Err-Syntax
returns-in-Err-Syntax c = (syntax_only c.args._text.now (tokens_of c.args.tokens.now) c.in-Err-Syntax.line c.requires (subst (λ f. AnswersAll (tokens_of c.args.tokens.now) (Err f)) c.in-Err-Syntax.field-0-is c.in-Err-Syntax.ensures.answers), tt)

pub returns-in-Err-Deep : goal.returns-in-Err-Deep
returns-in-Err-Deep c = (deep_only c.args._text.now (tokens_of c.args.tokens.now) c.in-Err-Deep.line c.requires (subst (λ f. AnswersAll (tokens_of c.args.tokens.now) (Err f)) c.in-Err-Deep.field-0-is c.in-Err-Deep.ensures.answers), tt)
