-- The tree that several trees are together, and that of one file by itself.
use Rattle.std.specs.Prelude.{ℕ, ◌+◌, List, [], ◌∷◌, ◌++◌, Bool, false, if◌then◌else◌}
use Rattle.rc_base.specs.Limits.{most_text_bytes}
use Rattle.rc_syntax.specs.Tree as t
use Rattle.rc_deletes.specs.Items.{is_among, names_of, struct_definitions}
use Rattle.rc_linking.specs.Moved.{moved_items}

-- the items without each struct of these names
abbrev pub is_repeated : (names : List (List ℕ)) → t.Item → Bool
is_repeated names (t.struct at name fields) = is_among names name.text
is_repeated names i = false

abbrev pub without : (names : List (List ℕ)) → List t.Item → List t.Item
without names [] = []
without names (i ∷ is) = if is_repeated names i then without names is else i ∷ without names is

abbrev pub structs_of : List t.Item → List (List ℕ)
structs_of items = names_of (struct_definitions items)

-- behind these items, with places from n on; a file has fewer words than a text may have bytes
abbrev pub joined_behind : (earlier : List t.Item) → (n : ℕ) → List t.Tree → List t.Item
joined_behind earlier n [] = []
joined_behind earlier n (tree ∷ trees) = moved_items n (without (structs_of earlier) tree.items) ++ joined_behind (earlier ++ tree.items) (n + most_text_bytes) trees

abbrev pub joined : List t.Tree → t.Tree
joined trees = record { items = joined_behind [] 0 trees }

abbrev pub all_items : List t.Tree → List t.Item
all_items [] = []
all_items (tree ∷ trees) = tree.items ++ all_items trees
