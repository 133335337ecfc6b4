-- Statements with a scope of their own.
use Rattle.std.proofs.Common.{◌≡◌, refl, ap, sym, ◌∙◌, ◌++◌, append_assoc, Option}
use Rattle.rc_syntax.specs.Tree as t
use Rattle.rc_deletes.specs.Scopes.{Context}
use Rattle.rc_deletes.specs.Statements.{Here, inside, outside, behind_option, behind_simple_option, behind_start, behind_stmt, behind_stmts}
use Rattle.rc_bodies.proofs.Kept.{Grown, on_start, on_stmt, on_stmts}

-- the names at the end of a block have those before it at their end
pub block_own : (context : Context) (here one end : Here) (body : t.Stmts) → one ≡ inside here → end ≡ behind_stmts context one body → Grown here.names end.names
block_own context here one end body begun walked =
    let grown = on_stmts context one body in
    (grown.0, ap (λ (h : Here). h.names) walked ∙ grown.1 ∙ ap (λ (h : Here). grown.0 ++ h.names) begun)

pub for_own : (context : Context) (here one two three four end : Here) (start : t.ForStart) (c : Option t.Expr) (next : Option t.Simple) (a : t.Stmt) → one ≡ inside here → two ≡ behind_start context one start → three ≡ behind_option two c → four ≡ behind_simple_option three next → end ≡ behind_stmt context four a → Grown here.names end.names
for_own context here one two three four end start c next a begun moved looked stepped walked =
    let started = on_start context one start in
    let inner = on_stmt context four a in
    let from : four.names ≡ started.0 ++ here.names =
    ap (λ (h : Here). h.names) stepped ∙ ap (λ (h : Here). h.names) looked ∙ ap (λ (h : Here). h.names) moved ∙ started.1 ∙ ap (λ (h : Here). started.0 ++ h.names) begun in
    (inner.0 ++ started.0, ap (λ (h : Here). h.names) walked ∙ inner.1 ∙ ap (λ ns. inner.0 ++ ns) from ∙ sym (append_assoc inner.0 started.0 here.names))

pub for_end : (context : Context) (here one two three four end : Here) (start : t.ForStart) (c : Option t.Expr) (next : Option t.Simple) (a : t.Stmt) → one ≡ inside here → two ≡ behind_start context one start → three ≡ behind_option two c → four ≡ behind_simple_option three next → end ≡ behind_stmt context four a → outside here end ≡ outside here (behind_stmt context (behind_simple_option (behind_option (behind_start context (inside here) start) c) next) a)
for_end context here one two three four end start c next a begun moved looked stepped walked = rw (walked, stepped, looked, moved, begun) refl
