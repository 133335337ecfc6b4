use Rattle.std.proofs.Common.{◌∙◌, arith, ap, sym}
use Rattle.std.specs.Char.{is_ascii_digit}
use Rattle.std.specs.List.{list_all}
use Rattle.rc_requests.proofs.Asked.{choices_so}
use Rattle.rc_requests.proofs.request.are_choices.Goals as goal

pub returns : goal.returns
returns c =
    choices_so c.args.word.now c.are_digits.result (sym c.if-is_empty.ensures) (omega (arith, c.if-word-gt-MOST_CHOICES.false))
    (c.are_digits.ensures ∙ ap (list_all is_ascii_digit) c.as_bytes.ensures.value)
