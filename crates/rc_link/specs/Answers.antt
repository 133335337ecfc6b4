-- What the linker answers.
use Rattle.std.specs.Prelude.{◌≡◌, ℕ, List, [], Some, None, Option, is_some, map, if◌then◌else◌}
use Rattle.rc_syntax.specs.declared.tree.Tree.{Tree as CodeTree}
use Rattle.rc_syntax.specs.Shape.{tree_of}
use Rattle.rc_syntax.specs.Tree.{Tree}
use Rattle.rc_core.specs.declared.parts.Parts.{Parts}
use Rattle.rc_core.specs.Shapes.{program_of}
use Rattle.rc_deletes.specs.Kinds.{place_of}
use Rattle.rc_deletes.specs.Answer.{IsProgramOf}
use Rattle.rc_deletes.specs.Items.{function_names, main_name}
use Rattle.rc_linking.specs.Joined.{joined, all_items}
use Rattle.rc_linking.specs.Links.{LinkRefusal, or_else, clashes, disagree, double, missing, missing_of, entry, entry_of, large, link_refusal}
use Rattle.rc_answers.specs.declared.link_refusal.LinkRefusal as told
use Rattle.rc_answers.specs.declared.link_refusal.LinkRefusal.TheVariants.{Disagree, Double, Missing, Entry, Large}
use Rattle.rc_link.specs.declared.fault.LinkFault.{LinkFault}
use Rattle.rc_link.specs.declared.fault.LinkFault.TheVariants.{Refused, Memory}

-- what is told, as a reason
abbrev pub refusal_of : told.LinkRefusal → LinkRefusal
refusal_of (Disagree file line) = disagree file line
refusal_of (Double file line) = double file line
refusal_of (Missing file line) = missing file line
refusal_of Entry = entry
refusal_of Large = large

abbrev pub trees_of : List CodeTree → List Tree
trees_of trees = map tree_of trees

abbrev pub entry_among : (functions : List (List ℕ)) → Option LinkRefusal
entry_among functions = if is_some (place_of functions main_name) then None else Some entry

-- what keeps files apart, but for the cells of their globals
abbrev pub reason_of : List Tree → Option LinkRefusal
reason_of trees = or_else (clashes [] 1 trees) (or_else (missing_of (function_names (all_items trees)) 1 trees) (entry_of trees))

-- nothing keeps the files apart, and this is the program of all of them
pub record IsLinked (trees : List Tree) (program : Parts) : Type 0 where
  pub fine : link_refusal trees ≡ None
  pub whole : IsProgramOf (joined trees) (program_of program)

abbrev pub LinkRefuses : List Tree → LinkFault → Type 0
LinkRefuses trees (Refused refusal) = link_refusal trees ≡ Some (refusal_of refusal)
LinkRefuses trees Memory = Unit {0}
