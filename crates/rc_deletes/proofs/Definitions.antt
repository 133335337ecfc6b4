-- The structs that a text defines, in its order.
use Rattle.std.proofs.Common.{◌≡◌, sym, ◌∙◌, List, [], ◌∷◌, ◌++◌, Bool, true, false, append_assoc, if◌then◌else◌}
use Rattle.std.proofs.lemmas.List.{append-nil}
use Rattle.rc_syntax.specs.Tree as t
use Rattle.rc_deletes.specs.Items.{Definition, is_among, names_of, with_structs}

pub or_more : (ds : List Definition) (d : Definition) (is : List t.Item) (b : Bool) → ((rest : List Definition) × (with_structs ds is ≡ ds ++ rest)) → ((rest : List Definition) × (with_structs (ds ++ d ∷ []) is ≡ (ds ++ d ∷ []) ++ rest)) → (rest : List Definition) × (with_structs (if b then ds else ds ++ d ∷ []) is ≡ ds ++ rest)
or_more ds d is true h k = h
or_more ds d is false h k = (d ∷ k.0, k.1 ∙ append_assoc ds (d ∷ []) k.0)

-- more items add their definitions behind those before them
pub more_structs : (ds : List Definition) (is : List t.Item) → (rest : List Definition) × (with_structs ds is ≡ ds ++ rest)
more_structs ds [] = ([], sym (append-nil ds))
more_structs ds (t.global at n name count c ∷ is) = more_structs ds is
more_structs ds (t.function at deletes result name params body ∷ is) = more_structs ds is
more_structs ds (t.struct at name fields ∷ is) = or_more ds (name.text, fields) is (is_among (names_of ds) name.text) (more_structs ds is) (more_structs (ds ++ (name.text, fields) ∷ []) is)
