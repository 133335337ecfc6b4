-- What a name is found to be is what it stands for.
use Rattle.std.proofs.Common.{◌≡◌, ◌∙◌, refl, ap, ℕ, List, [], ◌∷◌, Option, Some, None, Bool, true, false, Bor, option_map, if◌then◌else◌}
use Rattle.std.specs.Prelude.{option_copied}
use Rattle.std.specs.Str.{bytes_eq}
use Rattle.rc_scope.specs.Scopes as scopes
use Rattle.rc_deletes.specs.Scopes.{meaning_in}
use Rattle.rc_rules.specs.declared.meanings.Meaning.{Meaning as CodeMeaning}
use Rattle.rc_rules.specs.Shapes.{meaning_of}
use Rattle.rc_defined.specs.Contexts.{scope_of}

if_map : {A B : Type 0} (f : A → B) (b : Bool) (x : A) (o : Option A) → option_map f (if b then Some x else o) ≡ (if b then Some (f x) else option_map f o)
if_map f true x o = refl
if_map f false x o = refl

meaning_there : (names : List (List ℕ × CodeMeaning)) (name : List ℕ) → option_map meaning_of (scopes.meaning_of names name) ≡ meaning_in (scope_of names) name
meaning_there [] name = refl
meaning_there (n ∷ names) name = if_map meaning_of (bytes_eq n.0 name) n.1 (scopes.meaning_of names name) ∙ ap (λ o. if bytes_eq n.0 name then Some (meaning_of n.1) else o) (meaning_there names name)

seen : (r : Option (Bor CodeMeaning)) → option_map (λ m. meaning_of m.now) r ≡ option_map meaning_of (option_copied r)
seen None = refl
seen (Some m) = refl

pub meaning_is : (names : List (List ℕ × CodeMeaning)) (name : List ℕ) (r : Option (Bor CodeMeaning)) → option_copied r ≡ scopes.meaning_of names name → option_map (λ m. meaning_of m.now) r ≡ meaning_in (scope_of names) name
meaning_is names name r h = seen r ∙ ap (option_map meaning_of) h ∙ meaning_there names name

pub scope_more : (names : List (List ℕ × CodeMeaning)) (name : List ℕ) (m : CodeMeaning) → scope_of ((name, m) ∷ names) ≡ (name, meaning_of m) ∷ scope_of names
scope_more names name m = refl
