use Rattle.std.proofs.Common.{◌++◌, sym, ap, ◌∙◌, subst, map}
use Rattle.std.specs.List.{AllByRecursion as Every}
use Rattle.rc_emission.specs.KeptOperands.{same_kept, once, kept_code}
use Rattle.rc_rlang.specs.Shapes.{code_of}
use Rattle.rc_lines.specs.Gathered.{all_kept}
use Rattle.rc_lines.specs.Keys.{HasKey}
use Rattle.rc_lines.specs.Keyed.{key_of}
use Rattle.rc_program_code.specs.Entered.{AreDistinct}
use Rattle.rc_program_code.proofs.Once.{once_distinct, all_numbered}
use Rattle.rc_program_code.proofs.table.kept_by.Goals as goal

pub keys_of-requires : goal.keys_of-requires
keys_of-requires c = subst AreDistinct (sym (ap all_kept c.as_slice-2.ensures.value ∙ c.in_ok-operands.ensures.once)) (once_distinct (all_kept c.as_slice.result.now))

pub returns-clause-keys : goal.returns-clause-keys
returns-clause-keys c structs =
    let gathered = c.in_ok-gather_code.ensures structs ∙ ap (λ xs. all_kept xs ++ kept_code (code_of structs c.args.code.now)) c.new-kept.ensures.items in
    let kept = ap all_kept c.as_slice.ensures.value ∙ gathered in
    let table = ap all_kept c.as_slice-2.ensures.value ∙ c.in_ok-operands.ensures.once ∙ ap (once same_kept) kept in
    all_numbered c.in_ok-keys.keys (kept_code (code_of structs c.args.code.now)) (subst (Every HasKey) kept c.in_ok-operands.ensures.own) (c.in_ok-keys.ensures ∙ ap (map key_of) table)
