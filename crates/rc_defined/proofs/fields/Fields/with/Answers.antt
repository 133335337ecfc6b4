use Rattle.std.proofs.Common.{◌≡◌, ◌++◌, ◌∷◌, [], ap, sym, ◌∙◌, subst, map, length, List, ℕ, arith}
use Rattle.std.proofs.lemmas.List.{length-map, map-append}
use Rattle.rc_defined.specs.declared.fields.NamedField.{NamedField}
use Rattle.rc_defined.specs.Firsts.{FindsFirst}
use Rattle.rc_defined.proofs.fields.Fields.with.Goals as goal

pub invariant_of-result : goal.invariant_of-result
invariant_of-result c =
    let all : List (List ℕ) = map (λ (f : NamedField). f.name.items) c.args.self.fields.items in
    let named = length-map c.args.self.fields.items (λ (f : NamedField). f.name.items) in
    let own = c.args.self.fields.ok.0 in
    let count : length all ≡ c.len-place.result = omega arith in
    let h = c.in_ok-note.ensures.ok all c.args.self.found count in
    let e : map (λ (f : NamedField). f.name.items) c.push.new.self.items ≡ all ++ c.as_slice.result.now ∷ [] =
    ap (map (λ (f : NamedField). f.name.items)) c.in-Ok.ensures.items ∙ map-append (λ (f : NamedField). f.name.items) c.args.self.fields.items (c.args.field ∷ []) ∙ ap (λ n. all ++ n ∷ []) (sym c.as_slice.ensures.value) in
    record { found = subst (λ xs. FindsFirst c.note.new.names c.note.new.places.items xs) (sym e) h }
