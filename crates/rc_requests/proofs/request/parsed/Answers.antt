use Rattle.std.proofs.Common.{◌∙◌, arith, ap}
use Rattle.std.specs.Result.{result_ok}
use Rattle.std.proofs.lemmas.Fmt.{parse-decimal}
use Rattle.rc_requests.proofs.request.parsed.Goals as goal

pub returns : goal.returns
returns c = λ n small is.
    c.ok.ensures.value ∙ ap result_ok (parse-decimal 64 n c.args.word.now c.parse.result (omega arith) (omega arith) is c.parse.ensures.value.0)
