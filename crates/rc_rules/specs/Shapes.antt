-- What the parts that rules work on stand for in definitions.
use Rattle.std.specs.Prelude.{ℕ, option_map, map}
use Rattle.std.specs.declared.boxed.Box.{Box}
use Rattle.std.specs.declared.alloc.Global.{Global as Alloc}
use Rattle.rc_core.specs.declared.expr.Expr.{Expr as CodeExpr}
use Rattle.rc_core.specs.Programs.{Expr, Field}
use Rattle.rc_core.specs.Shapes.{ty_of, expr_of, field_of}
use Rattle.rc_rules.specs.declared.meanings.Signature.{Signature as CodeSignature}
use Rattle.rc_rules.specs.declared.meanings.Meaning.{Meaning as CodeMeaning}
use Rattle.rc_rules.specs.declared.meanings.Meaning.TheVariants as meaning
use Rattle.rc_rules.specs.declared.meanings.Callee.{Callee as CodeCallee}
use Rattle.rc_rules.specs.declared.meanings.Callee.TheVariants as callee
use Rattle.rc_rules.specs.declared.meanings.Found.{Found}
use Rattle.rc_deletes.specs.Scopes.{Signature, Meaning, a_local, a_global, a_function, a_builtin}
use Rattle.rc_deletes.specs.Calls.{Callee, the_function, the_builtin, no_function}

abbrev pub code_of : Box CodeExpr Alloc → Expr
code_of b = expr_of b.value

abbrev pub signature_of : CodeSignature → Signature
signature_of s = record { takes = map ty_of s.takes.items; gives = option_map ty_of s.gives; deletes = s.deletes }

abbrev pub meaning_of : CodeMeaning → Meaning
meaning_of (meaning.Local x t) = a_local x (ty_of t)
meaning_of (meaning.Global g t count) = a_global g (ty_of t) count
meaning_of (meaning.Function number s) = a_function number (signature_of s)
meaning_of (meaning.Builtin b) = a_builtin b

abbrev pub callee_of : CodeCallee → Callee
callee_of (callee.Function number s) = the_function number (signature_of s.now)
callee_of (callee.Builtin b) = the_builtin b
callee_of callee.NoFunction = no_function

abbrev pub found_of : Found → ℕ × Field
found_of f = (f.number, field_of f.field.now)
