-- Items whose parts the code holds one by one.
use Rattle.std.specs.Prelude.{List, Option, map}
use Rattle.rc_syntax.specs.Shape as written
use Rattle.rc_syntax.specs.Tree as t
use Rattle.rc_deletes.specs.Scopes.{Context, Signature}
use Rattle.rc_deletes.specs.Items as rule
use Rattle.rc_deletes.specs.Items.{Outside}
use Rattle.rc_items.specs.declared.parts.Head.{Head}
use Rattle.rc_items.specs.declared.parts.WrittenGlobal.{WrittenGlobal}

abbrev pub written_global : WrittenGlobal → t.Item
written_global g = t.global g.at (written.type_of g.type_name.now) g.name.now g.length g.constant.now

abbrev pub written_result : Head → Option t.TypeName
written_result head = written.mapped written.type_of head.gives.now

abbrev pub written_params : Head → List t.Param
written_params head = map written.param_of head.params.now

-- the function with this body, or without one
abbrev pub written_function : Head → Option t.Stmts → t.Item
written_function head body = t.function head.at head.deletes (written_result head) head.name.now (written_params head) body

abbrev pub written_signature : Context → Head → Signature
written_signature context head = rule.signature_of context head.deletes (written_result head) (written_params head)

-- behind the name of the function
abbrev pub with_function : Context → Outside → Head → Outside
with_function context o head = rule.with_function context o head.deletes (written_result head) head.name.now (written_params head)
