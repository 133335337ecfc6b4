use Rattle.std.proofs.Common.{◌≡◌, true, [], ◌∷◌, sym, ap, ◌∙◌, subst, arith}
use Rattle.std.specs.Prelude.{None, is_some}
use Rattle.std.proofs.lemmas.List.{map-append}
use Rattle.rc_scope.specs.Names.{place_of, with_name}
use Rattle.rc_lines.specs.Gathered.{kept_of, all_kept}
use Rattle.rc_program_code.specs.Entered.{Entering}
use Rattle.rc_program_code.proofs.Once.{new_entered, old_entered, some_found}
use Rattle.rc_program_code.proofs.entering.enter.Goals as goal
use Rattle.rc_program_code.proofs.entering.enter.Goals.{then-is_none+in_ok-number+in_ok-push, else-is_none}

pub returns : goal.returns
returns c =
    let k = kept_of c.args.operand in
    let own = c.in_ok-key.ensures.own in
    let keys = c.args.keys.now in
    let items = c.args.table.now.items in
    let name = c.as_slice.ensures.value ∙ c.in_ok-key.ensures.key in
    let place = sym (c.find.ensures.number ∙ ap (place_of keys) name) in
    elim c.if-is_none.branch [
      | then-is_none+in_ok-number+in_ok-push w ↦
          let none : c.find.result ≡ None = (let x = c.is_none.ensures in let y = w.if-is_none.true in grind arith) in
          new_entered k own keys c.if-is_none.keys (all_kept items) (all_kept c.if-is_none.table.items) (place ∙ none)
          (w.keys-is ∙ w.in_ok-number.ensures ∙ ap (with_name keys) (w.as_slice-then-is_none.ensures.value ∙ c.in_ok-key.ensures.key))
          (ap (λ v. all_kept v.items) w.table-is ∙ ap all_kept w.in_ok-push.ensures.items ∙ map-append kept_of items (c.args.operand ∷ []))
      | else-is_none w ↦
          let some : is_some c.find.result ≡ true = (let x = c.is_none.ensures in let y = w.if-is_none.false in grind arith) in
          let found = some_found c.find.result some in
          subst (λ ks. Entering k keys ks (all_kept items) (all_kept c.if-is_none.table.items)) (sym w.keys-is)
          (subst (λ v. Entering k keys keys (all_kept items) (all_kept v.items)) (sym w.table-is) (old_entered k own keys found.0 (all_kept items) (place ∙ found.1)))
    ]
