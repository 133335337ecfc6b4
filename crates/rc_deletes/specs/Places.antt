-- Where a typed text may delete regions, and annotate. A call of a `deletes` function stands in such a function only, and is
-- the whole of an expression statement, of what a local is given, of a condition or of a returned value. The tree says what is
-- a whole call, and the program beside it which function is called. Faults come in the order of the text, and what has a
-- fault inside has none of its own.
use Rattle.std.specs.Prelude.{ℕ, List, [], ◌∷◌, ◌++◌, Option, Some, None, Bool, true, false, suc, slice_get, length, ◌-◌, if◌then◌else◌}
use Rattle.rc_syntax.specs.declared.tree.Spot.{Spot}
use Rattle.rc_syntax.specs.declared.tree.Note.{Note}
use Rattle.rc_syntax.specs.declared.tree.Note.TheVariants.{Plain, SameRegion, ParentPtr, Traditional}
use Rattle.rc_syntax.specs.Tree as t
use Rattle.rc_core.specs.Programs as p
use Rattle.rc_deletes.specs.declared.deletes.DeletesFault.{DeletesFault}
use Rattle.rc_deletes.specs.declared.deletes.DeletesFault.TheVariants.{AnnotationPlace, NotDeletes, DeletesPlace}

-- what is inside counts before the own fault
abbrev pub or_own : {A : Type 0} → List A → List A → List A
or_own [] own = own
or_own (f ∷ fs) own = f ∷ fs

-- a call of a `deletes` function that is the whole of its place, in a function that deletes or doesn't
abbrev pub in_place : (deletes : Bool) → ℕ → List DeletesFault
in_place true line = []
in_place false line = NotDeletes line ∷ []

abbrev pub out_of_place : (deletes : Bool) → ℕ → List DeletesFault
out_of_place true line = DeletesPlace line ∷ []
out_of_place false line = NotDeletes line ∷ DeletesPlace line ∷ []

abbrev pub function_deletes : Option p.Function → Bool
function_deletes None = false
function_deletes (Some f) = f.deletes

abbrev pub where_deleting : {A : Type 0} → Bool → List A → List A
where_deleting true fs = fs
where_deleting false fs = []

abbrev pub is_call : t.Expr → Bool
is_call (t.call name args) = true
is_call e = false

abbrev pub is_annotation : Note → Bool
is_annotation Plain = false
is_annotation SameRegion = true
is_annotation ParentPtr = true
is_annotation Traditional = true

abbrev pub is_annotated : Option Note → Bool
is_annotated None = false
is_annotated (Some note) = is_annotation note

-- the last star of a type is annotated
abbrev pub annotation : Spot → t.TypeName → List DeletesFault
annotation at n = if is_annotated (slice_get n.stars (length n.stars - 1)) then AnnotationPlace at.line ∷ [] else []

abbrev pub params : List t.Param → List DeletesFault
params [] = []
params (q ∷ qs) = annotation q.spot q.type_name ++ params qs

abbrev pub result : Spot → Option t.TypeName → List DeletesFault
result at None = []
result at (Some n) = annotation at n

abbrev pub deletes_regions : List p.Function → ℕ → Bool
deletes_regions functions f = function_deletes (slice_get functions f)

module _ (functions : List p.Function) (deletes : Bool) where
  -- where no call of a `deletes` function may stand
  abbrev mutual
    pub within : p.Expr → List DeletesFault
    within (p.constant line s n) = []
    within (p.null line) = []
    within (p.string line k) = []
    within (p.local line x) = []
    within (p.read line place) = within_place place
    within (p.address line g) = []
    within (p.step line direction e i) = within e ++ within i
    within (p.step_from line i e) = within i ++ within e
    within (p.unary line op s e) = within e
    within (p.binary line op s a b) = within a ++ within b
    within (p.convert line from to e) = within e
    within (p.not_zero line e) = within e
    within (p.and line a b) = within a ++ within b
    within (p.or line a b) = within a ++ within b
    within (p.choose line c a b) = within c ++ (within a ++ within b)
    within (p.is_null line wanted e) = within e
    within (p.same line wanted a b) = within a ++ within b
    within (p.call line f args) = or_own (within_all args) (where_deleting (deletes_regions functions f) (out_of_place deletes line))
    within (p.new_region line) = []
    within (p.new_subregion line r) = within r
    within (p.region_of line e) = within e
    within (p.allocate line r ty) = within r
    within (p.allocate_array line r n ty) = within r ++ within n
    within (p.putchar line e) = within e
    within (p.getchar line) = []

    pub within_all : p.Arguments → List DeletesFault
    within_all p.none = []
    within_all (p.more e rest) = within e ++ within_all rest

    pub within_place : p.Place → List DeletesFault
    within_place (p.global g path) = within_path path
    within_place (p.pointed e path) = within e ++ within_path path
    within_place (p.indexed e i path) = within e ++ (within i ++ within_path path)

    pub within_path : p.Path → List DeletesFault
    within_path p.here = []
    within_path (p.field s f rest) = within_path rest
    within_path (p.element s f i rest) = within i ++ within_path rest

  -- a call that is a whole, but for the conversion of its result
  abbrev pub whole_call : p.Expr → List DeletesFault
  whole_call (p.call line f args) = or_own (within_all args) (where_deleting (deletes_regions functions f) (in_place deletes line))
  whole_call (p.convert line from to e) = whole_call e
  whole_call e = within e

  abbrev pub whole_by : (call : Bool) → p.Expr → List DeletesFault
  whole_by true e = whole_call e
  whole_by false e = within e

  -- where a call may be the whole
  abbrev pub whole : t.Expr → p.Expr → List DeletesFault
  whole e v = whole_by (is_call e) v

  abbrev pub whole_option : Option t.Expr → Option p.Expr → List DeletesFault
  whole_option (Some e) (Some v) = whole e v
  whole_option e v = []

  -- an assignment of what is computed
  abbrev pub computed : p.Stmt → List DeletesFault
  computed (p.assign line x v) = within v
  computed (p.update line place change v) = within_place place ++ within v
  computed s = []

  abbrev pub assigned : t.Expr → p.Stmt → List DeletesFault
  assigned e (p.assign line x v) = whole e v
  assigned e (p.store line place v) = within_place place ++ within v
  assigned e (p.copy line s left right) = within_place left ++ within_place right
  assigned e s = []

  -- the deletion of a region is such a call too
  abbrev pub alone : t.Expr → p.Stmt → List DeletesFault
  alone e (p.evaluate line v) = whole e v
  alone e (p.delete line r) = or_own (within r) (in_place deletes line)
  alone e s = []

  abbrev pub simply : t.Simple → p.Stmt → List DeletesFault
  simply (t.expression e) s = alone e s
  simply (t.assign at l r) s = assigned r s
  simply (t.update at op l r) s = computed s
  simply (t.step_after at op l) s = computed s
  simply (t.step_before at op l) s = computed s

  abbrev pub simply_option : Option t.Simple → p.Stmt → List DeletesFault
  simply_option None s = []
  simply_option (Some e) s = simply e s

  abbrev pub locally : t.Local → p.Stmt → List DeletesFault
  locally l (p.declare line x v) = or_own (whole_option l.initial v) (annotation l.spot l.type_name)
  locally l s = []

  abbrev pub locals : List t.Local → p.Stmts → List DeletesFault
  locals (l ∷ ls) (p.then s rest) = locally l s ++ locals ls rest
  locals ls body = []

  abbrev pub start : t.ForStart → p.Stmt → List DeletesFault
  start (t.simply e) s = simply e s
  start (t.locals ls) (p.block body) = locals ls body
  start e s = []

  abbrev mutual
    pub stmt : t.Stmt → p.Stmt → List DeletesFault
    stmt (t.local l) s = locally l s
    stmt (t.block at body) (p.block ss) = stmts body ss
    stmt (t.simple at e) s = simply e s
    stmt (t.if_then at c a) (p.branch line test arm other) = whole c test ++ stmt a arm
    stmt (t.if_else at c a b) (p.branch line test arm other) = whole c test ++ (stmt a arm ++ stmt b other)
    stmt (t.while_do at c a) (p.while line test body) = whole c test ++ stmt a body
    stmt (t.do_while at a c) (p.repeat line body test) = stmt a body ++ whole c test
    stmt (t.for_do at e c next a) (p.for line first test third body) = start e first ++ (whole_option c test ++ (simply_option next third ++ stmt a body))
    stmt (t.return_with at e) (p.return line v) = whole_option e v
    stmt e s = []

    pub stmts : t.Stmts → p.Stmts → List DeletesFault
    stmts (t.next e rest) (p.then s ss) = stmt e s ++ stmts rest ss
    stmts body ss = []

  abbrev pub body_of : t.Stmts → p.Stmt → List DeletesFault
  body_of body (p.block ss) = stmts body ss
  body_of body s = []

  abbrev pub inner : Option t.Stmts → Option p.Function → List DeletesFault
  inner (Some body) (Some f) = body_of body f.body
  inner body f = []

  abbrev pub function : Spot → Option t.TypeName → List t.Param → Option t.Stmts → Option p.Function → List DeletesFault
  function at gives qs body f = or_own (params qs ++ inner body f) (result at gives)

-- the number of the program's next function, behind an item
abbrev pub behind_body : Option t.Stmts → (next : ℕ) → ℕ
behind_body None next = next
behind_body (Some body) next = suc next

abbrev pub behind : t.Item → (next : ℕ) → ℕ
behind (t.struct at name fields) next = next
behind (t.global at n name count c) next = next
behind (t.function at deletes gives name qs body) next = behind_body body next

-- the items of a text beside the functions of the program, from a number on
module _ (functions : List p.Function) where
  abbrev pub item : t.Item → (next : ℕ) → List DeletesFault
  item (t.struct at name fields) next = []
  item (t.global at n name count c) next = []
  item (t.function at deletes gives name qs body) next = function functions deletes at gives qs body (slice_get functions next)

  abbrev pub items : List t.Item → (next : ℕ) → List DeletesFault
  items [] next = []
  items (i ∷ is) next = item i next ++ items is (behind i next)

-- the faults of a tree beside its program
abbrev pub deletes_faults : t.Tree → p.Program → List DeletesFault
deletes_faults tree program = items program.functions tree.items 0
