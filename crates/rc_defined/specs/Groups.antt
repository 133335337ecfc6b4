-- Declarators that share the name of a struct with the next one.
use Rattle.std.specs.Prelude.{List, [], ◌∷◌, Bool, false}
use Rattle.rc_syntax.specs.declared.tree.Base.{Base}
use Rattle.rc_syntax.specs.Tree as t
use Rattle.rc_deletes.specs.Items as rule
use Rattle.rc_deletes.specs.Items.{same_struct}

abbrev pub shares_with_next : t.Field → List t.Field → Bool
shares_with_next f [] = false
shares_with_next f (g ∷ gs) = same_struct f.type_name.base g.type_name.base

abbrev pub shares : Base → t.Item → Bool
shares n (t.struct at name fields) = false
shares n (t.global at m name count c) = same_struct n m.base
shares n (t.function at deletes result name params body) = false

abbrev pub is_plain_global : t.Item → Bool
is_plain_global (t.struct at name fields) = false
is_plain_global (t.global at n name count c) = rule.is_plain n
is_plain_global (t.function at deletes result name params body) = false

abbrev pub goes_on : t.Item → List t.Item → Bool
goes_on i [] = false
goes_on (t.struct at name fields) (j ∷ is) = false
goes_on (t.global at n name count c) (j ∷ is) = shares n.base j
goes_on (t.function at deletes result name params body) (j ∷ is) = false
