-- The lines of calls of functions that no file defines.
use Rattle.std.specs.Prelude.{ℕ, List, [], ◌∷◌, if◌then◌else◌}
use Rattle.rc_syntax.specs.declared.tree.Name.{Name}
use Rattle.rc_linking.specs.Calls.{is_callable}

abbrev pub missed : (functions : List (List ℕ)) → List Name → List ℕ
missed functions [] = []
missed functions (name ∷ names) = if is_callable functions name.text then missed functions names else name.spot.line ∷ missed functions names
