-- How the levels are read: first a unary, and then what binds as tightly as is asked for.
use Rattle.std.proofs.Common.{ℕ, zero, suc, ◌≡◌, ◌≤◌, ◌+◌, nat_le, List, [], ◌∷◌, ◌++◌, append_assoc, append-nil, length, length-append, Some, true, refl, ap, sym, ◌∙◌, subst, arith, ◌⊎◌, inl, inr}
use Rattle.std.proofs.lemmas.Bool.Decides.{nat_tests}
use Rattle.rc_syntax.specs.declared.word.Mark.TheVariants as m
use Rattle.rc_syntax.specs.declared.tree.Spot.{Spot}
use Rattle.rc_syntax.specs.declared.tree.BinaryOp.{BinaryOp}
use Rattle.rc_syntax.specs.Tokens.{Word, mark}
use Rattle.rc_syntax.specs.Tree as t
use Rattle.rc_syntax.specs.Grammar as g
use Rattle.rc_syntax.specs.Grammar.{Symbol, TreeOf, Placed, Part, node, BeginAt, Begins, inside, adds, reach, level_of, mark_of}
use Rattle.rc_syntax.specs.reader.Todo.{build, when}
use Rattle.rc_syntax.specs.reader.Reading as r
use Rattle.rc_syntax.specs.reader.Reading.{first, tail}
use Rattle.rc_syntax.specs.reader.Steps as reader
use Rattle.rc_syntax.specs.reader.Steps.{Stack, frame, State, about, amid, taken, place, give, step, feed, finish, opened, depth, reached, reach_of}
use Rattle.rc_syntax.proofs.Sound.{Since, since_on, outer, reached_outer}
use Rattle.rc_syntax.proofs.Fronts.{is}
use Rattle.rc_syntax.proofs.Operands.{op_level}
use Rattle.rc_syntax.proofs.Along.{After, operator, question, colon, bracket, ends, inner, Acts, Leads, Follows, Past, Meets, MeetAll, Along, along, leads_at, on, same_first, StartsAt, StartAll, starts_along}
use Rattle.rc_syntax.proofs.Shapes.{same_at, first_read}
use Rattle.rc_syntax.proofs.Tables.{binary_mark, quiet_after}
use Rattle.rc_syntax.proofs.Unaries.{quiet_unary_after}

abbrev pub AfterAll : Placed → Type 0
AfterAll p = After 11 p.word

after_mono : (i j : ℕ) (y : Word) → i ≤ j → After i y → After j y
after_mono i j _ h (operator op l) = operator op (omega arith)
after_mono i j _ h (question l) = question (omega arith)
after_mono i j _ h colon = colon
after_mono i j _ h bracket = bracket
after_mono i j _ h (ends f) = ends f

after_all : (i : ℕ) (y : Word) → After i y → After 11 y
after_all i _ (operator op l) = let k = op_level op in operator op (omega arith)
after_all i _ (question l) = question (omega arith)
after_all i _ colon = colon
after_all i _ bracket = bracket
after_all i _ (ends f) = ends f

-- Where the first unary has been read as an operand on a stack, the rest of the words is read there.
abbrev pub LevelLead : ℕ → t.Expr → List Placed → Type 0
LevelLead i a ws =
    (zs : List Placed) × (vs : List Placed) × (u : t.Expr) × (ws ≡ zs ++ vs) × Meets g.Unary u zs ×
    ((root : Symbol) (j : ℕ) → j ≤ i → (k : Stack root (g.Level j)) (o : Spot) (q r0 : State root) → Since o zs → feed q zs ≡ Some r0 →
    Acts AfterAll (amid o (build u) (length zs) k) r0 → Leads (Follows (g.Level i) a) q ws (amid o (build a) (length ws) k))

unary_ends : {root : Symbol} (j : ℕ) (u : t.Expr) (o : Spot) (n : ℕ) (k : Stack root (g.Level j)) (x : State root) → Acts (Past g.Unary u) (amid o (build u) (0 + n) k) x → Acts AfterAll (amid o (build u) n k) x
unary_ends {root = root} j u o n k x acts =
    let P : ℕ → Type 0 = λ m. Acts AfterAll (amid o (build u) m k) x in
    subst P (let e : 0 + n ≡ n = omega arith in e) (λ p f. acts.0 p (inner f, λ q. quiet_unary_after q u p.word f), acts.1)

pub level_about : (i : ℕ) (a : t.Expr) (ws : List Placed) → LevelLead i a ws → Meets (g.Level i) a ws
level_about i a ws lead root k =
    let zs = lead.0 in
    let x = first_read g.Unary lead.2 (λ o. build) k zs lead.4 (λ p e. refl) in
    let y = lead.5 root i (omega arith) k x.0 (about k) x.2.0 x.1 x.2.1 (unary_ends i lead.2 x.0 (length zs) k x.2.0 x.2.2) in
    let P : List Placed → Type 0 = λ l. Since x.0 l in
    (x.0, subst P (sym lead.3) (since_on x.0 zs lead.1 x.1), y)

pub unary_lead : (i : ℕ) (u : t.Expr) (ws : List Placed) → Meets g.Unary u ws → LevelLead i u ws
unary_lead i u ws meets = (ws, [], u, sym (append-nil ws), meets, λ root j h k o q r0 since f acts. (r0, f, (λ p e. acts.0 p (after_all i p.word e), acts.1)))

pub lead_up : (i j : ℕ) (a : t.Expr) (ws : List Placed) → i ≤ j → LevelLead j a ws → LevelLead i a ws
lead_up i j a ws h lead = (
  lead.0,
  lead.1,
  lead.2,
  lead.3,
  lead.4,
  λ root l e k o q r0 since f acts. let x = lead.5 root l (omega arith) k o q r0 since f acts in (x.0, x.1, (λ p y. x.2.0 p (after_mono i j p.word h y), x.2.1)),
)

-- A node goes on behind its left operand.
pub lead_on : (i1 i2 : ℕ) → i2 ≤ i1 → (a : t.Expr) (tree : Spot → t.Expr) (at : Spot) (xs ys : List Placed) (ps : List Part) → LevelLead i1 a xs → BeginAt at (xs ++ ys) → MeetAll ys ps →
    ((j : ℕ) → j ≤ i2 → (o : Spot) → Along {s = g.Level j} o (tree o) (Follows (g.Level i2) (tree o)) (Follows (g.Level i1) a) (build a) ps) → LevelLead i2 (tree at) (xs ++ ys)
lead_on i1 i2 h a tree at xs ys ps lead b rest alongs = (
  lead.0,
  lead.1 ++ ys,
  lead.2,
  ap (λ l. l ++ ys) lead.3 ∙ append_assoc lead.0 lead.1 ys,
  lead.4,
  λ root j e k o q r0 since f acts.
      let x = lead.5 root j (omega arith) k o q r0 since f acts in
      let z = along rest o (tree o) (Follows (g.Level i2) (tree o)) (Follows (g.Level i1) a) (build a) (length xs) k x.0 (alongs j e o) x.2 in
      let S : List Placed → Type 0 = λ l. Since o l in
      let same : o ≡ at = same_at o at xs ys (subst S (sym lead.3) (since_on o lead.0 lead.1 since)) b in
      let P : Spot → Type 0 = λ u. Leads (Follows (g.Level i2) (tree u)) q (xs ++ ys) (amid o (build (tree u)) (length (xs ++ ys)) k) in
      subst P same (leads_at (Follows (g.Level i2) (tree o)) q (xs ++ ys) o (tree o) (length xs + length ys) (length (xs ++ ys)) k (sym (length-append xs ys)) (z.0, on q x.0 xs ys (Some z.0) x.1 z.1, z.2)),
)

beside_step : {root : Symbol} (j : ℕ) (o : Spot) (a : t.Expr) (op : BinaryOp) (q : Spot) (n : ℕ) (k : Stack root (g.Level j)) → j ≤ level_of op → step (amid o (build a) n k) (is (mark (mark_of op)) q) ≡ Some (amid o (r.beside o a op) (n + 1) k)
beside_step j o a op q n k h =
    let p = is (mark (mark_of op)) q in
    let e : nat_le j (level_of op) ≡ true = grind (arith, nat_tests) in
    ap (λ x. reader.first_of (taken (r.operated {i = j} o a (mark (mark_of op)) x) o n k) (give p k n a)) (binary_mark op)
    ∙ ap (λ v. reader.first_of (taken (when v (r.beside {i = j} o a op)) o n k) (give p k n a)) e

pub chain_along : (op : BinaryOp) (a c : t.Expr) (j : ℕ) → j ≤ level_of op → (o : Spot) →
    Along {s = g.Level j} o (t.binary o op a c) (Follows (g.Level (level_of op)) (t.binary o op a c)) (Follows (g.Level (level_of op)) a) (build a) (g.sign (mark_of op) ∷ node (g.Level (level_of op + 1)) c ∷ [])
chain_along op a c j h o = λ q. (
  operator op (omega arith),
  (
    r.beside o a op,
    (λ root n k. beside_step j o a op q n k h),
    (
      _,
      (λ p e root n k. refl),
      (λ p e. tt),
      (λ p f. ((after_mono (level_of op) (level_of op + 1) p.word (omega arith) f, λ q. quiet_after (level_of op) (level_of op + 1) q c p.word (omega arith) f), λ root n k. refl), λ root n k. refl),
    ),
  ),
)

question_step : {root : Symbol} (j : ℕ) (o : Spot) (a : t.Expr) (q : Spot) (n : ℕ) (k : Stack root (g.Level j)) → j ≤ 0 → step (amid o (build a) n k) (is (mark m.Question) q) ≡ Some (amid o (r.chosen o a) (n + 1) k)
question_step j o a q n k h =
    let p = is (mark m.Question) q in
    let e : nat_le j 0 ≡ true = grind (arith, nat_tests) in
    ap (λ v. reader.first_of (taken (when v (r.chosen {i = j} o a)) o n k) (give p k n a)) e

pub conditional_along : (c a b : t.Expr) (j : ℕ) → j ≤ 0 → (o : Spot) →
    Along {s = g.Level j} o (t.conditional o c a b) (Follows (g.Level 0) (t.conditional o c a b)) (Follows (g.Level 1) c) (build c) (g.sign m.Question ∷ node (g.Level 0) a ∷ g.sign m.Colon ∷ node g.Arm b ∷ [])
conditional_along c a b j h o = λ q. (
  question (omega arith),
  (
    r.chosen o c,
    (λ root n k. question_step j o c q n k h),
    (
      _,
      (λ p e root n k. refl),
      (λ p e. tt),
      λ q. (
        (colon, λ o. refl),
        (
          _,
          λ root n k. refl,
          (
            _,
            (λ p e root n k. refl),
            (λ p e. tt),
            (λ p f. ((f, λ o. refl), λ root n k. refl), λ root n k. refl),
          ),
        ),
      ),
    ),
  ),
)

-- Beginnings: inside of the first unary, or beyond it.
abbrev pub StartLead : ℕ → List Placed → ℕ → ℕ → Type 0
StartLead i ws d r =
    ((ws ≡ [] → ⊥) × StartsAt g.Unary ws d (length ws) × (r ≡ length ws)) ⊎
    ((zs : List Placed) × (vs : List Placed) × (u : t.Expr) × (ws ≡ zs ++ vs) × Meets g.Unary u zs ×
    ((root : Symbol) (j : ℕ) → j ≤ i → (k : Stack root (g.Level j)) (o : Spot) (q r0 : State root) → Since o zs → feed q zs ≡ Some r0 → Acts AfterAll (amid o (build u) (length zs) k) r0 →
    (x : State root) × (feed q ws ≡ Some x) × (depth x ≡ opened k + d) × (reach_of x ≡ outer k (length ws) (reach (g.Level j) (length ws) r))))

reach_reach : (j i l x : ℕ) → j ≤ i → reach (g.Level j) l (reach (g.Level i) l x) ≡ reach (g.Level j) l x
reach_reach zero i l x h = refl
reach_reach (suc j) zero l x h = absurd (omega arith)
reach_reach (suc j) (suc i) l x h = refl

pub reach_again : (i l x : ℕ) → reach (g.Level i) l (reach (g.Level i) l x) ≡ reach (g.Level i) l x
reach_again i l x = reach_reach i i l x (omega arith)

reach_whole : (i l : ℕ) → reach (g.Level i) l l ≡ l
reach_whole zero l = refl
reach_whole (suc i) l = refl

pub start_about : (i : ℕ) (ws : List Placed) (d r : ℕ) → reach (g.Level i) (length ws) r ≡ r → StartLead i ws d r → StartsAt (g.Level i) ws d r
start_about i [] d r e (inl x) root k = absurd (x.0 refl)
start_about i (p ∷ ps) d r e (inl x) root k =
    let F : Stack root g.Unary = frame p.spot 0 build k in
    let y = x.1 root F in
    let n = length (p ∷ ps) in
    let many : 0 + n ≡ n = omega arith in
    (y.0, same_first (about k) (about F) p ps refl ∙ y.1, y.2 ∙ omega arith, y.3 ∙ reached_outer k (0 + n) n ∙ ap (λ l. outer k l (reach (g.Level i) l n)) many ∙ ap (outer k n) (reach_whole i n ∙ sym x.2))
start_about i ws d r e (inr lead) root k =
    let zs = lead.0 in
    let x = first_read g.Unary lead.2 (λ o. build) k zs lead.4 (λ p e. refl) in
    let y = lead.5 root i (omega arith) k x.0 (about k) x.2.0 x.1 x.2.1 (unary_ends i lead.2 x.0 (length zs) k x.2.0 x.2.2) in
    (y.0, y.1, y.2, y.3 ∙ ap (outer k (length ws)) e)

pub start_up : (i j : ℕ) (ws : List Placed) (d r : ℕ) → i ≤ j → StartLead j ws d r → StartLead i ws (0 + d) (reach (g.Level i) (length ws) r)
start_up i j ws d r h (inl x) =
    let P : ℕ → Type 0 = λ n. StartsAt g.Unary ws n (length ws) in
    inl (x.0, subst P (let e : d ≡ 0 + d = omega arith in e) x.1, ap (reach (g.Level i) (length ws)) x.2 ∙ reach_whole i (length ws))
start_up i j ws d r h (inr lead) = inr (
  lead.0,
  lead.1,
  lead.2,
  lead.3,
  lead.4,
  λ root l e k o q r0 since f acts. let x = lead.5 root l (omega arith) k o q r0 since f acts in (x.0, x.1, x.2 ∙ omega arith, x.3 ∙ ap (outer k (length ws)) (sym (reach_reach l i (length ws) r e))),
)

pub unary_start : (i : ℕ) (ws : List Placed) (d r : ℕ) → (ws ≡ [] → ⊥) → StartsAt g.Unary ws d r → r ≡ length ws → StartLead i ws (0 + d) (reach (g.Level i) (length ws) r)
unary_start i ws d r some x e =
    let P : ℕ → Type 0 = λ n. StartsAt g.Unary ws (0 + d) n in
    let Q : ℕ → Type 0 = λ n. StartsAt g.Unary ws n r in
    inl (some, subst P e (subst Q (let f : d ≡ 0 + d = omega arith in f) x), ap (reach (g.Level i) (length ws)) e ∙ reach_whole i (length ws))

pub start_on : (i1 i2 : ℕ) → i2 ≤ i1 → (a : t.Expr) (tree : Spot → t.Expr) (xs ys : List Placed) (ps : List Part) (d r : ℕ) → LevelLead i1 a xs → StartAll ys ps d r →
    ((j : ℕ) → j ≤ i2 → (o : Spot) → Along {s = g.Level j} o (tree o) (Follows (g.Level i2) (tree o)) (Follows (g.Level i1) a) (build a) ps) → StartLead i2 (xs ++ ys) (0 + d) (reach (g.Level i2) (length (xs ++ ys)) r)
start_on i1 i2 h a tree xs ys ps d r lead rest alongs = inr (
  lead.0,
  lead.1 ++ ys,
  lead.2,
  ap (λ l. l ++ ys) lead.3 ∙ append_assoc lead.0 lead.1 ys,
  lead.4,
  λ root j e k o q r0 since f acts.
      let x = lead.5 root j (omega arith) k o q r0 since f acts in
      let z = starts_along rest o (tree o) (Follows (g.Level i2) (tree o)) (Follows (g.Level i1) a) (build a) (length xs) k x.0 (alongs j e o) x.2 in
      let n = length (xs ++ ys) in
      let many : length xs + length ys ≡ n = sym (length-append xs ys) in
      (z.0, on q x.0 xs ys (Some z.0) x.1 z.1, z.2, z.3 ∙ ap (λ l. outer k l (reach (g.Level j) l r)) many ∙ ap (outer k n) (sym (reach_reach j i2 n r e))),
)
