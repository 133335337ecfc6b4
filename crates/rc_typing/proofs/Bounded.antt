-- The numbers of a list are in range where those of its parts are.
use Rattle.std.proofs.Common.{◌≡◌, ◌<◌, ◌≤◌, ◌+◌, ℕ, List, [], ◌∷◌, length, drop, map}
use Rattle.std.specs.Prelude.{get_or}
use Rattle.std.specs.List.{AllByRecursion as Every}
use Rattle.std.specs.declared.vec.Vec.{Vec}
use Rattle.std.specs.declared.alloc.Global.{Global as Alloc}
use Rattle.rc_syntax.specs.declared.tree.Expr.{Expr}
use Rattle.rc_syntax.specs.declared.tree.Stmt.{Stmt}
use Rattle.rc_syntax.specs.declared.tree.Local.{Local}
use Rattle.rc_syntax.specs.declared.tree.Item.{Item}
use Rattle.rc_syntax.specs.Shape as written
use Rattle.rc_syntax.specs.Tree as t
use Rattle.rc_core.specs.Numbers.{IsByte}
use Rattle.rc_core.specs.Shapes.{bytes_of}
use Rattle.rc_deletes.specs.Ranges.{IsInRange, AreInRange, OptionInRange, LocalsInRange, StmtInRange, StmtsInRange, ItemsInRange}
use Rattle.rc_defined.proofs.Walks.{front, none_left}

pub exprs_step : (es : List Expr) (i : ℕ) (e : Expr) → i < length es → e ≡ get_or es i e → IsInRange (written.expr_of e) → AreInRange (written.exprs_of (drop (i + 1) es)) → AreInRange (written.exprs_of (drop i es))
exprs_step es i e l h a b = rw (front es i e l h) (a, b)

pub exprs_end : (es : List Expr) (i : ℕ) → length es ≤ i → AreInRange (written.exprs_of (drop i es))
exprs_end es i l = rw (none_left es i l) tt

pub stmts_step : (ss : List Stmt) (i : ℕ) (s : Stmt) → i < length ss → s ≡ get_or ss i s → StmtInRange (written.stmt_of s) → StmtsInRange (written.stmts_of (drop (i + 1) ss)) → StmtsInRange (written.stmts_of (drop i ss))
stmts_step ss i s l h a b = rw (front ss i s l h) (a, b)

pub stmts_end : (ss : List Stmt) (i : ℕ) → length ss ≤ i → StmtsInRange (written.stmts_of (drop i ss))
stmts_end ss i l = rw (none_left ss i l) tt

pub locals_step : (ls : List Local) (i : ℕ) (x : Local) → i < length ls → x ≡ get_or ls i x → OptionInRange (written.mapped written.expr_of x.initial) → LocalsInRange (map written.local_of (drop (i + 1) ls)) → LocalsInRange (map written.local_of (drop i ls))
locals_step ls i x l h a b = rw (front ls i x l h) (a, b)

pub locals_end : (ls : List Local) (i : ℕ) → length ls ≤ i → LocalsInRange (map written.local_of (drop i ls))
locals_end ls i l = rw (none_left ls i l) tt

one_item : (x : t.Item) (rest : List t.Item) → ItemsInRange (x ∷ []) → ItemsInRange rest → ItemsInRange (x ∷ rest)
one_item (t.struct at name fields) rest a b = b
one_item (t.global at n name count c) rest a b = b
one_item (t.function at deletes result name params body) rest a b = (a.0, b)

pub items_step : (is : List Item) (i : ℕ) (x : Item) → i < length is → x ≡ get_or is i x → ItemsInRange (written.item_of x ∷ []) → ItemsInRange (map written.item_of (drop (i + 1) is)) → ItemsInRange (map written.item_of (drop i is))
items_step is i x l h a b = rw (front is i x l h) (one_item (written.item_of x) (map written.item_of (drop (i + 1) is)) a b)

pub items_end : (is : List Item) (i : ℕ) → length is ≤ i → ItemsInRange (map written.item_of (drop i is))
items_end is i l = rw (none_left is i l) tt

pub bytes_step : (bs : List ℕ) (i b : ℕ) → i < length bs → b ≡ get_or bs i b → b < 256 → Every IsByte (drop (i + 1) bs) → Every IsByte (drop i bs)
bytes_step bs i b l h a rest = rw (front bs i b l h) (a, rest)

pub bytes_end : (bs : List ℕ) (i : ℕ) → length bs ≤ i → Every IsByte (drop i bs)
bytes_end bs i l = rw (none_left bs i l) tt

pub strings_step : (ss : List (Vec ℕ Alloc)) (i : ℕ) (s : Vec ℕ Alloc) → i < length ss → s ≡ get_or ss i s → Every IsByte s.items → Every (Every IsByte) (map bytes_of (drop (i + 1) ss)) → Every (Every IsByte) (map bytes_of (drop i ss))
strings_step ss i s l h a rest = rw (front ss i s l h) (a, rest)

pub strings_end : (ss : List (Vec ℕ Alloc)) (i : ℕ) → length ss ≤ i → Every (Every IsByte) (map bytes_of (drop i ss))
strings_end ss i l = rw (none_left ss i l) tt
