-- What the code's context and scopes are in definitions.
use Rattle.std.specs.Prelude.{ℕ, List, map}
use Rattle.rc_deletes.specs.Scopes.{Context, Scope}
use Rattle.rc_rules.specs.declared.meanings.Meaning.{Meaning}
use Rattle.rc_rules.specs.Shapes.{meaning_of}
use Rattle.rc_defined.specs.declared.context.Context.{Context as CodeContext}
use Rattle.rc_defined.specs.declared.environment.Environment.{Environment}
use Rattle.rc_defined.specs.Fields.{fields_of}

abbrev pub context_of : CodeContext → Context
context_of c = record { shapes = map fields_of c.structs.items; types = c.types; functions = c.functions }

-- names with what they stand for, the innermost first
abbrev pub scope_of : List (List ℕ × Meaning) → Scope
scope_of names = map (λ n. (n.0, meaning_of n.1)) names

abbrev pub context_in : Environment → Context
context_in environment = context_of environment.context.now

abbrev pub scope_in : Environment → Scope
scope_in environment = scope_of environment.names.now
