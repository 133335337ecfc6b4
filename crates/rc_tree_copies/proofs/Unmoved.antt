-- A tree that is moved by nothing is the same.
use Rattle.std.proofs.Common.{◌≡◌, refl, ap, ◌∙◌, List, [], ◌∷◌, Option, Some, None, map, option_map}
use Rattle.std.specs.Prelude.{Result, Ok, Err, IfOk}
use Rattle.std.specs.declared.vec.Vec.{Vec}
use Rattle.std.specs.declared.alloc.Global.{Global}
use Rattle.rc_base.specs.declared.outside.NoMemory.{NoMemory}
use Rattle.rc_syntax.specs.declared.tree.Item.{Item}
use Rattle.rc_syntax.specs.Shape.{item_of}
use Rattle.rc_syntax.specs.declared.tree.Spot.{Spot}
use Rattle.rc_syntax.specs.declared.tree.Name.{Name}
use Rattle.rc_syntax.specs.declared.tree.Constant.{Constant}
use Rattle.rc_syntax.specs.declared.tree.Constant.TheVariants as constant
use Rattle.rc_syntax.specs.Tree as t
use Rattle.rc_linking.specs.Moved as m
use Rattle.rc_expression_copies.proofs.Unmoved.{two, spot, name, a_type}

three : {A B C D : Type 0} (f : A → B → C → D) {a x : A} {b y : B} {c z : C} → a ≡ x → b ≡ y → c ≡ z → f a b c ≡ f x y z
three f {x = x} {b = b} {c = c} h k l = ap (λ u. f u b c) h ∙ two (f x) k l

four : {A B C D E : Type 0} (f : A → B → C → D → E) {a x : A} {b y : B} {c z : C} {d w : D} → a ≡ x → b ≡ y → c ≡ z → d ≡ w → f a b c d ≡ f x y z w
four f {x = x} {b = b} {c = c} {d = d} h k l r = ap (λ u. f u b c d) h ∙ three (f x) k l r

five : {A B C D E F : Type 0} (f : A → B → C → D → E → F) {a x : A} {b y : B} {c z : C} {d w : D} {e v : E} → a ≡ x → b ≡ y → c ≡ z → d ≡ w → e ≡ v → f a b c d e ≡ f x y z w v
five f {x = x} {b = b} {c = c} {d = d} {e = e} h k l r q = ap (λ u. f u b c d e) h ∙ four (f x) k l r q

mutual
  expr : (e : t.Expr) → m.moved 0 e ≡ e
  expr (t.number at v u) = ap (λ s. t.number s v u) (spot at)
  expr (t.character at c) = ap (λ s. t.character s c) (spot at)
  expr (t.string at bytes) = ap (λ s. t.string s bytes) (spot at)
  expr (t.null at) = ap t.null (spot at)
  expr (t.eof at) = ap t.eof (spot at)
  expr (t.variable n) = ap t.variable (name n)
  expr (t.call n args) = two t.call (name n) (exprs args)
  expr (t.ralloc at r ty) = three t.ralloc (spot at) (expr r) (a_type ty)
  expr (t.rarrayalloc at r k ty) = four t.rarrayalloc (spot at) (expr r) (expr k) (a_type ty)
  expr (t.index at a k) = three t.index (spot at) (expr a) (expr k)
  expr (t.member at a n) = three t.member (spot at) (expr a) (name n)
  expr (t.arrow at a n) = three t.arrow (spot at) (expr a) (name n)
  expr (t.unary at op a) = two (λ s x. t.unary s op x) (spot at) (expr a)
  expr (t.cast at to a) = two (λ s x. t.cast s to x) (spot at) (expr a)
  expr (t.binary at op a b) = three (λ s x y. t.binary s op x y) (spot at) (expr a) (expr b)
  expr (t.conditional at c a b) = four t.conditional (spot at) (expr c) (expr a) (expr b)

  exprs : (es : t.Exprs) → m.moved_all 0 es ≡ es
  exprs t.none = refl
  exprs (t.more e rest) = two t.more (expr e) (exprs rest)

option : (e : Option t.Expr) → m.moved_option 0 e ≡ e
option None = refl
option (Some e) = ap Some (expr e)

a_simple : (s : t.Simple) → m.moved_simple 0 s ≡ s
a_simple (t.expression e) = ap t.expression (expr e)
a_simple (t.assign at l r) = three t.assign (spot at) (expr l) (expr r)
a_simple (t.update at op l r) = three (λ s x y. t.update s op x y) (spot at) (expr l) (expr r)
a_simple (t.step_after at op l) = two (λ s x. t.step_after s op x) (spot at) (expr l)
a_simple (t.step_before at op l) = two (λ s x. t.step_before s op x) (spot at) (expr l)

simple_option : (s : Option t.Simple) → m.moved_simple_option 0 s ≡ s
simple_option None = refl
simple_option (Some s) = ap Some (a_simple s)

a_local : (l : t.Local) → m.moved_local 0 l ≡ l
a_local l =
    let made : Spot → t.TypeName → Name → Option t.Expr → t.Local = λ s ty n e. record { spot = s; type_name = ty; name = n; initial = e } in
    four made (spot l.spot) (a_type l.type_name) (name l.name) (option l.initial)

a_locals : (ls : List t.Local) → m.moved_locals 0 ls ≡ ls
a_locals [] = refl
a_locals (l ∷ ls) = two (λ x xs. x ∷ xs) (a_local l) (a_locals ls)

a_start : (s : t.ForStart) → m.moved_start 0 s ≡ s
a_start t.nothing = refl
a_start (t.simply s) = ap t.simply (a_simple s)
a_start (t.locals ls) = ap t.locals (a_locals ls)

mutual
  stmt : (s : t.Stmt) → m.moved_stmt 0 s ≡ s
  stmt (t.local l) = ap t.local (a_local l)
  stmt (t.block at body) = two t.block (spot at) (stmts body)
  stmt (t.empty at) = ap t.empty (spot at)
  stmt (t.simple at s) = two t.simple (spot at) (a_simple s)
  stmt (t.if_then at c a) = three t.if_then (spot at) (expr c) (stmt a)
  stmt (t.if_else at c a b) = four t.if_else (spot at) (expr c) (stmt a) (stmt b)
  stmt (t.while_do at c a) = three t.while_do (spot at) (expr c) (stmt a)
  stmt (t.do_while at a c) = three t.do_while (spot at) (stmt a) (expr c)
  stmt (t.for_do at start c next a) = five t.for_do (spot at) (a_start start) (option c) (simple_option next) (stmt a)
  stmt (t.break_loop at) = ap t.break_loop (spot at)
  stmt (t.continue_loop at) = ap t.continue_loop (spot at)
  stmt (t.return_with at e) = two t.return_with (spot at) (option e)

  stmts : (body : t.Stmts) → m.moved_stmts 0 body ≡ body
  stmts t.done = refl
  stmts (t.next s rest) = two t.next (stmt s) (stmts rest)

a_body : (body : Option t.Stmts) → m.moved_body 0 body ≡ body
a_body None = refl
a_body (Some body) = ap Some (stmts body)

a_field : (f : t.Field) → m.moved_field 0 f ≡ f
a_field f =
    let made : Spot → t.TypeName → Name → t.Field = λ s ty n. record { spot = s; type_name = ty; name = n; length = f.length } in
    three made (spot f.spot) (a_type f.type_name) (name f.name)

mapped_option : {A : Type 0} (f : A → A) → ((a : A) → f a ≡ a) → (o : Option A) → option_map f o ≡ o
mapped_option f h None = refl
mapped_option f h (Some a) = ap Some (h a)

mapped_all : {A : Type 0} (f : A → A) → ((a : A) → f a ≡ a) → (xs : List A) → map f xs ≡ xs
mapped_all f h [] = refl
mapped_all f h (x ∷ xs) = two (λ y ys. y ∷ ys) (h x) (mapped_all f h xs)

a_param : (q : t.Param) → m.moved_param 0 q ≡ q
a_param q =
    let made : Spot → t.TypeName → Option Name → t.Param = λ s ty n. record { spot = s; type_name = ty; name = n } in
    three made (spot q.spot) (a_type q.type_name) (mapped_option (m.moved_name 0) name q.name)

a_constant : (c : Constant) → m.moved_constant 0 c ≡ c
a_constant (constant.Number at v u) = ap (λ s. constant.Number s v u) (spot at)
a_constant (constant.Negative at v u) = ap (λ s. constant.Negative s v u) (spot at)
a_constant (constant.Character at c) = ap (λ s. constant.Character s c) (spot at)
a_constant (constant.Null at) = ap constant.Null (spot at)
a_constant (constant.Eof at) = ap constant.Eof (spot at)

item : (i : t.Item) → m.moved_item 0 i ≡ i
item (t.struct at n fields) = three t.struct (spot at) (name n) (mapped_all (m.moved_field 0) a_field fields)
item (t.global at ty n count c) = four (λ s x y z. t.global s x y count z) (spot at) (a_type ty) (name n) (mapped_option (m.moved_constant 0) a_constant c)
item (t.function at deletes result n params body) =
    five (λ s x y z b. t.function s deletes x y z b) (spot at) (mapped_option (m.moved_type 0) a_type result) (name n) (mapped_all (m.moved_param 0) a_param params) (a_body body)

items : (is : List t.Item) → m.moved_items 0 is ≡ is
items = mapped_all (m.moved_item 0) item

pub unmoved : (is : List t.Item) (r : Result (Vec Item Global) NoMemory) → IfOk r (λ v. map item_of v.items ≡ m.moved_items 0 is) → IfOk r (λ v. map item_of v.items ≡ is)
unmoved is (Ok v) h = h ∙ items is
unmoved is (Err e) h = tt
