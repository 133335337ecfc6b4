-- Why files don't go together: the first reason counts.
use Rattle.std.specs.Prelude.{ℕ, suc, List, [], ◌∷◌, ◌++◌, Option, Some, None, is_some, nat_lt, if◌then◌else◌}
use Rattle.rc_base.specs.Limits.{most_global_cells}
use Rattle.rc_syntax.specs.declared.tree.Name.{Name}
use Rattle.rc_syntax.specs.Tree as t
use Rattle.rc_deletes.specs.Kinds.{place_of}
use Rattle.rc_deletes.specs.Items.{function_names, main_name, context_of, at_the_start, behind_items}
use Rattle.rc_linking.specs.Calls.{is_callable, calls_in_items}
use Rattle.rc_linking.specs.Clash.{disagrees, doubles, any}
use Rattle.rc_linking.specs.Joined.{joined, all_items}

-- with the number of the file, from 1, and a line of it
pub data LinkRefusal : Type 0 where
  disagree : (file line : ℕ) → LinkRefusal
  double : (file line : ℕ) → LinkRefusal
  missing : (file line : ℕ) → LinkRefusal
  entry : LinkRefusal
  large : LinkRefusal

abbrev pub or_else : Option LinkRefusal → Option LinkRefusal → Option LinkRefusal
or_else None later = later
or_else (Some first) later = Some first

abbrev pub line_of : t.Item → ℕ
line_of (t.struct at name fields) = at.line
line_of (t.global at ty name count c) = at.line
line_of (t.function at deletes result name params body) = at.line

-- the first item that clashes with one of an earlier file
abbrev pub clash_in : (earlier : List t.Item) → (file : ℕ) → List t.Item → Option LinkRefusal
clash_in earlier file [] = None
clash_in earlier file (j ∷ js) =
    if any (λ i. disagrees i j) earlier then Some (disagree file (line_of j)) else (if any (λ i. doubles i j) earlier then Some (double file (line_of j)) else clash_in earlier file js)

abbrev pub clashes : (earlier : List t.Item) → (file : ℕ) → List t.Tree → Option LinkRefusal
clashes earlier file [] = None
clashes earlier file (tree ∷ trees) = or_else (clash_in earlier file tree.items) (clashes (earlier ++ tree.items) (suc file) trees)

-- the first call of a function that no file defines
abbrev pub missing_in : (functions : List (List ℕ)) → (file : ℕ) → List Name → Option LinkRefusal
missing_in functions file [] = None
missing_in functions file (name ∷ names) = if is_callable functions name.text then missing_in functions file names else Some (missing file name.spot.line)

abbrev pub missing_of : (functions : List (List ℕ)) → (file : ℕ) → List t.Tree → Option LinkRefusal
missing_of functions file [] = None
missing_of functions file (tree ∷ trees) = or_else (missing_in functions file (calls_in_items tree.items)) (missing_of functions (suc file) trees)

abbrev pub entry_of : List t.Tree → Option LinkRefusal
entry_of trees = if is_some (place_of (function_names (all_items trees)) main_name) then None else Some entry

abbrev pub cells_of : t.Tree → ℕ
cells_of tree = (behind_items (context_of tree.items) at_the_start tree.items).cells

abbrev pub large_of : List t.Tree → Option LinkRefusal
large_of trees = if nat_lt most_global_cells (cells_of (joined trees)) then Some large else None

abbrev pub link_refusal : List t.Tree → Option LinkRefusal
link_refusal trees = or_else (clashes [] 1 trees) (or_else (missing_of (function_names (all_items trees)) 1 trees) (or_else (entry_of trees) (large_of trees)))
