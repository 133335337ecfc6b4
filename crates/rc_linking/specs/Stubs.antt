-- A file by itself: each function that it only declares is defined behind its items, with an empty body, and so is `main`
-- where it declares none.
use Rattle.std.specs.Prelude.{ℕ, suc, List, [], ◌∷◌, ◌++◌, Option, Some, None, Bool, true, false, ◌||◌, if◌then◌else◌}
use Rattle.std.specs.Fmt.{decimal}
use Rattle.std.specs.Str.{bytes_eq}
use Rattle.rc_syntax.specs.declared.tree.Spot.{Spot}
use Rattle.rc_syntax.specs.declared.tree.Name.{Name}
use Rattle.rc_syntax.specs.declared.tree.Base.TheVariants as base
use Rattle.rc_syntax.specs.Tree as t
use Rattle.rc_core.specs.Programs.{Program}
use Rattle.rc_deletes.specs.Items.{is_among, function_names, main_name}
use Rattle.rc_deletes.specs.Answer.{IsProgramOf}
use Rattle.rc_linking.specs.Calls.{is_built_in}

-- a global of that name declares it too
abbrev pub is_main : t.Item → Bool
is_main (t.struct at name fields) = false
is_main (t.global at ty name count c) = bytes_eq name.text main_name
is_main (t.function at deletes result name params body) = bytes_eq name.text main_name

abbrev pub declares_main : List t.Item → Bool
declares_main [] = false
declares_main (i ∷ is) = is_main i || declares_main is

-- on the line of the file's last word
module _ (line : ℕ) where
  abbrev pub on_line : Spot → Spot
  on_line at = record { place = at.place; line = line }

  -- a parameter without a name is called by its number, from 0, which no text can write as a name
  abbrev pub named : (k : ℕ) → Option Name → Spot → Name
  named k (Some name) at = name
  named k None at = record { spot = on_line at; text = decimal k }

  abbrev pub stub_param : (k : ℕ) → t.Param → t.Param
  stub_param k q = record { spot = on_line q.spot; type_name = q.type_name; name = Some (named k q.name q.spot) }

  abbrev pub stub_params : (k : ℕ) → List t.Param → List t.Param
  stub_params k [] = []
  stub_params k (q ∷ qs) = stub_param k q ∷ stub_params (suc k) qs

  -- of the declared functions, each that is neither built in nor known, once
  abbrev pub stubs_of : (known : List (List ℕ)) → List t.Item → List t.Item
  stubs_of known [] = []
  stubs_of known (t.function at deletes result name params None ∷ is) =
      if is_built_in name.text || is_among known name.text then stubs_of known is
      else t.function (on_line at) deletes result name (stub_params 0 params) (Some t.done) ∷ stubs_of (known ++ name.text ∷ []) is
  stubs_of known (i ∷ is) = stubs_of known is

  -- int main(void) {}
  abbrev pub empty_main : t.Item
  empty_main =
      let at : Spot = record { place = 0; line = line } in
      t.function at false (Some (record { base = base.Int at; stars = [] })) (record { spot = at; text = main_name }) [] (Some t.done)

  abbrev pub main_stub : (declared : Bool) → List t.Item
  main_stub true = []
  main_stub false = empty_main ∷ []

  abbrev pub stubs : t.Tree → List t.Item
  stubs tree = stubs_of (function_names tree.items) tree.items ++ main_stub (declares_main tree.items)

  abbrev pub stubbed : t.Tree → t.Tree
  stubbed tree = record { items = tree.items ++ stubs tree }

-- nothing refuses the file by itself; the line is that of its last word
pub record IsUnit (tree : t.Tree) : Type 0 where
  pub line : ℕ
  pub program : Program
  pub typed : IsProgramOf (stubbed line tree) program
