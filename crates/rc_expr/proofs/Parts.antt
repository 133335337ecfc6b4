-- How the reader goes through the parts of each production, from a place where the production stands.
use Rattle.std.proofs.Common.{◌≡◌, ◌≤◌, ◌<◌, ◌+◌, ◌-◌, ℕ, [], ◌∷◌, List, Some, None, true, false, Bool, nat_lt, refl, ap, sym, ◌∙◌, subst, arith, ◌⊎◌, inl, inr, Result, Ok, Err}
use Rattle.std.specs.Prelude.{IfOk}
use Rattle.std.specs.declared.boxed.Box.{Box}
use Rattle.std.specs.declared.alloc.Global.{Global}
use Rattle.rc_syntax.specs.declared.fault.ParseFault.{ParseFault}
use Rattle.rc_syntax.specs.declared.tree.Expr.{Expr}
use Rattle.std.proofs.lemmas.Bool.Decides.{nat_tests}
use Rattle.rc_syntax.specs.declared.word.Token.{Token as CodeToken}
use Rattle.rc_syntax.specs.declared.word.Mark.{Mark}
use Rattle.rc_syntax.specs.declared.word.Mark.TheVariants as m
use Rattle.rc_syntax.specs.declared.tree.UnaryOp.{UnaryOp}
use Rattle.rc_syntax.specs.declared.tree.CastType.{CastType}
use Rattle.rc_syntax.specs.declared.tree.CastType.TheVariants as ct
use Rattle.rc_syntax.specs.declared.tree.BinaryOp.{BinaryOp}
use Rattle.rc_syntax.specs.declared.tree.Spot.{Spot}
use Rattle.rc_syntax.specs.declared.word.Key.TheVariants as y
use Rattle.rc_syntax.specs.Tokens as w
use Rattle.rc_syntax.specs.Tokens.{Word, mark, key}
use Rattle.rc_syntax.specs.Tree as t
use Rattle.rc_syntax.specs.Grammar.{Symbol, Level, Unary, Arm, TreeOf, Placed, adds, level_of, mark_of}
use Rattle.rc_syntax.specs.reader.Todo.{Todo, build, read, sees, enter, stop}
use Rattle.rc_syntax.specs.reader.Reading.{is_close, is_colon, chosen, otherwise, unary_in, prefixed, cast_in, parenthesized}
use Rattle.rc_syntax.specs.reader.Steps.{Stack, bottom, place, next, Accepts, about, amid as at, run, step, taken, first_of, give, Refuses, Sinks}
use Rattle.rc_words.specs.Words.{spot_of, from, word_at, word_in, Stands, Misses}
use Rattle.rc_expr.specs.Goes.{boxed_of, amid, inside, Within, operator_from, starts, prefix_in, cast_of, key_of, cast_rest, Quiet, Reads, ReaderAnswers, no_postfix}
use Rattle.rc_expr.proofs.Running.{around, deeper, enters, begins_with, closes, part, took, begins, begins_too_deep, begins_too_far, stops_about, skips}
use Rattle.rc_expr.proofs.Tests.{quiet_plain, quiet_expression, quiet_unary, operates}

-- The middle of a conditional, and its arm.
abbrev pub behind_yes : {i : ℕ} → Spot → t.Expr → t.Expr → Todo (Level i)
behind_yes sp test = λ e. read (sees is_colon (otherwise sp test e))

abbrev pub behind_arm : {i : ℕ} → Spot → t.Expr → t.Expr → t.Expr → Todo (Level i)
behind_arm sp test e = λ n. build (t.conditional sp test e n)

pub question : {root : Symbol} {round depth far i : ℕ} {ts : List CodeToken} {k : Stack root (Level 0)} (q e : ℕ) (test : t.Expr) →
    Within round depth far ts i k → depth < 200 → i < q → q < far → Stands ts q (mark m.Question) → e ≡ q + 1 →
    run round (amid ts i q (build test) k) (from ts q) ≡ run round (about (inside {j = Level 0} ts i e (behind_yes (spot_of ts i) test) k)) (from ts e)
question {round = round} {depth = depth} {i = i} {ts = ts} {k = k} q e test a d lt near s same =
    let d0 : depth + 0 ≤ 200 = omega (arith, d) in
    let le : i ≤ q = omega (arith, lt) in
    took q e (build test) (chosen (spot_of ts i) test) (mark m.Question) (around a) d0 le near s same refl
    ∙ enters round ts i e (Level 0) (behind_yes (spot_of ts i) test) k

-- The arm, between what is before it and behind it.
pub arm : {root s : Symbol} (round : ℕ) (ts : List CodeToken) (i q : ℕ) (h : t.Expr → Todo s) (k : Stack root s) →
    run round (amid ts i q (enter Arm h) k) (from ts q) ≡ run round (about (inside {s = Arm} {j = Level 0} ts q q build (inside {j = Arm} ts i q h k))) (from ts q)
arm round ts i q h k = enters round ts i q Arm h k ∙ begins_with {s = Arm} {j = Level 0} round ts q build (inside {j = Arm} ts i q h k) (λ p. refl)

pub arm_closes : {root s : Symbol} (round : ℕ) (ts : List CodeToken) (i q e : ℕ) (n : t.Expr) (h : t.Expr → Todo s) (k : Stack root s) → i ≤ q → q ≤ e →
    (operator_from 0 (word_at ts e) ≡ None) × Misses ts e (mark m.Question) →
    run round (amid {s = Level 0} ts q e (build n) (inside {s = Arm} {j = Level 0} ts q q build (inside {j = Arm} ts i q h k))) (from ts e) ≡ run round (amid ts i e (h n) k) (from ts e)
arm_closes round ts i q e n h k le le2 quiet =
    let same : q ≤ q = omega arith in
    closes {s = Arm} (Level 0) round ts q q e n build (inside {j = Arm} ts i q h k) same le2 (quiet_expression ts e (spot_of ts q) n quiet)
    ∙ closes Arm round ts i q e n h k le le2 (quiet_plain Arm (spot_of ts q) n (from ts e) (λ p. refl))

-- What is round an arm.
pub arm_within : {root s : Symbol} {round depth far i : ℕ} {ts : List CodeToken} {k : Stack root s} (inner q : ℕ) (h : t.Expr → Todo s) → Within round depth far ts i k → depth + adds s ≡ inner → i ≤ q → Within round (inner + 1) far ts q (inside {s = Arm} {j = Level 0} ts q q build (inside {j = Arm} ts i q h k))
arm_within inner q h a d le =
    let same : q ≤ q = omega arith in
    deeper {s = Arm} {j = Level 0} (inner + 1) q build (deeper {j = Arm} inner q h a d le) refl same

-- An expression that is inside.
pub expression_part : {root s : Symbol} (round : ℕ) (ts : List CodeToken) (i q e : ℕ) (h : t.Expr → Todo s) (k : Stack root s) (a : t.Expr) → i ≤ q → q ≤ e →
    run round (about (inside {j = Level 0} ts i q h k)) (from ts q) ≡ run round (amid {s = Level 0} ts q e (build a) (inside {j = Level 0} ts i q h k)) (from ts e) →
    (operator_from 0 (word_at ts e) ≡ None) × Misses ts e (mark m.Question) →
    run round (amid ts i q (enter (Level 0) h) k) (from ts q) ≡ run round (amid ts i e (h a) k) (from ts e)
expression_part round ts i q e h k a le le2 along quiet = part (Level 0) round ts i q e h k a le le2 along (quiet_expression ts e (spot_of ts q) a quiet)

-- The right side of an operator.
abbrev pub behind_right : {i : ℕ} → Spot → t.Expr → BinaryOp → t.Expr → Todo (Level i)
behind_right sp left op = λ e. build (t.binary sp op left e)

operates_step : {root : Symbol} {i : ℕ} (sp : Spot) (n : ℕ) (k : Stack root (Level i)) (left : t.Expr) (op : BinaryOp) (sp2 : Spot) → i ≤ level_of op →
    step (at sp (build left) n k) (record { word = mark (mark_of op); spot = sp2 }) ≡ Some (at sp (enter (Level (level_of op + 1)) (behind_right sp left op)) (n + 1) k)
operates_step sp n k left op sp2 h =
    ap (λ td. first_of (taken td sp n k) (give (record { word = mark (mark_of op); spot = sp2 }) k n left)) (operates _ sp left op h)

pub operator : {root : Symbol} {round depth far i level : ℕ} {ts : List CodeToken} {k : Stack root (Level level)} (q e : ℕ) (left : t.Expr) (op : BinaryOp) (n : ℕ) →
    Within round depth far ts i k → depth < 200 → i < q → q < far → Stands ts q (mark (mark_of op)) → level ≤ level_of op → e ≡ q + 1 → n ≡ level_of op →
    run round (amid ts i q (build left) k) (from ts q) ≡ run round (about (inside {j = Level (n + 1)} ts i e (behind_right (spot_of ts i) left op) k)) (from ts e)
operator {round = round} {depth = depth} {i = i} {ts = ts} {k = k} q e left op n a d lt near s tight same binds =
    let d0 : depth + 0 ≤ 200 = omega (arith, d) in
    let le : i ≤ q = omega (arith, lt) in
    subst (λ x. run round (amid ts i q (build left) k) (from ts q) ≡ run round (about (inside {j = Level (x + 1)} ts i e (behind_right (spot_of ts i) left op) k)) (from ts e)) (sym binds)
    (took q e (build left) (enter (Level (level_of op + 1)) (behind_right (spot_of ts i) left op)) (mark (mark_of op)) (around a) d0 le near s same
    (operates_step (spot_of ts i) (q - i) k left op (spot_of ts q) tight)
    ∙ enters round ts i e (Level (level_of op + 1)) (behind_right (spot_of ts i) left op) k)

-- The first word of an operand.
start_else : (sp : Spot) (x : Word) → starts x ≡ false → unary_in sp x ≡ stop
start_else sp (w.name x) h = absurd cc
start_else sp (w.number i u) h = absurd cc
start_else sp (w.character i) h = absurd cc
start_else sp (w.string i) h = absurd cc
start_else sp (w.key y.Null) h = absurd cc
start_else sp (w.key y.Eof) h = absurd cc
start_else sp (w.key y.Ralloc) h = absurd cc
start_else sp (w.key y.RarrayAlloc) h = absurd cc
start_else sp (mark m.Minus) h = absurd cc
start_else sp (mark m.Plus) h = absurd cc
start_else sp (mark m.Exclamation) h = absurd cc
start_else sp (mark m.Tilde) h = absurd cc
start_else sp (mark m.Star) h = absurd cc
start_else sp (mark m.Ampersand) h = absurd cc
start_else sp (mark m.OpenParenthesis) h = absurd cc
start_else sp _ h = refl

start_taken : {root : Symbol} (sp : Spot) (n : ℕ) (k : Stack root Unary) (x : Word) → starts x ≡ true → taken (unary_in sp x) sp n k ≡ Some (at sp (unary_in sp x) (n + 1) k)
start_taken sp n k (w.name x) h = refl
start_taken sp n k (w.number i u) h = refl
start_taken sp n k (w.character i) h = refl
start_taken sp n k (w.string i) h = refl
start_taken sp n k (w.key y.Null) h = refl
start_taken sp n k (w.key y.Eof) h = refl
start_taken sp n k (w.key y.Ralloc) h = refl
start_taken sp n k (w.key y.RarrayAlloc) h = refl
start_taken sp n k (mark m.Minus) h = refl
start_taken sp n k (mark m.Plus) h = refl
start_taken sp n k (mark m.Exclamation) h = refl
start_taken sp n k (mark m.Tilde) h = refl
start_taken sp n k (mark m.Star) h = refl
start_taken sp n k (mark m.Ampersand) h = refl
start_taken sp n k (mark m.OpenParenthesis) h = refl
start_taken sp n k _ h = absurd cc

pub nothing_begins : {root : Symbol} (round : ℕ) (ts : List CodeToken) (i : ℕ) (k : Stack root Unary) → from ts i ≡ [] → run round (about k) (from ts i) ≡ Refuses (from ts i)
nothing_begins round ts i k e = ap (run round (about k)) e ∙ sym (ap Refuses e)

pub none_begins : {root : Symbol} (round : ℕ) (ts : List CodeToken) (i : ℕ) (k : Stack root Unary) (x : Word) → Stands ts i x → starts x ≡ false → run round (about k) (from ts i) ≡ Refuses (from ts i)
none_begins round ts i k x s h =
    stops_about round ts i k (λ p here.
    let same : x ≡ p.word = some_same x p.word (sym (ap word_in s.here) ∙ here) in
    ap (λ td. taken td p.spot 0 k) (start_else p.spot p.word (ap starts (sym same) ∙ h)))
  where
    some_same : (x y : Word) → Some x ≡ Some y → x ≡ y
    some_same x y e = ap (λ o. elim o [ Some z ↦ z | None ↦ x ]) e

pub operand_begins : {root : Symbol} {round depth far : ℕ} {ts : List CodeToken} {k : Stack root Unary} (i : ℕ) (x : Word) →
    Within round depth far ts i k → depth < 200 → i < far → Stands ts i x → starts x ≡ true →
    run round (about k) (from ts i) ≡ run round (amid ts i (i + 1) (unary_in (spot_of ts i) x) k) (from ts (i + 1))
operand_begins {depth = depth} {ts = ts} {k = k} i x a d near s h =
    let d1 : depth + 1 ≤ 200 = omega (arith, d) in
    begins i (unary_in (spot_of ts i) x) x (around a) d1 near s (start_taken (spot_of ts i) 0 k x h)

pub operand_sinks : {root : Symbol} {round depth far : ℕ} {ts : List CodeToken} {k : Stack root Unary} (i : ℕ) (x : Word) →
    Within round depth far ts i k → depth ≤ 200 → (200 ≤ depth) ⊎ (far ≤ i) → Stands ts i x → starts x ≡ true →
    run round (about k) (from ts i) ≡ Sinks (from ts i)
operand_sinks {depth = depth} {ts = ts} {k = k} i x a d (inl deep) s h =
    let d1 : 200 < depth + 1 = omega (arith, deep) in
    begins_too_deep i (unary_in (spot_of ts i) x) x (around a) d1 s (start_taken (spot_of ts i) 0 k x h)
operand_sinks {round = round} {depth = depth} {ts = ts} {k = k} i x a d (inr past) s h =
    by_depth (nat_lt 200 (depth + 1)) refl
  where
    by_depth : (b : Bool) → nat_lt 200 (depth + 1) ≡ b → run round (about k) (from ts i) ≡ Sinks (from ts i)
    by_depth true e =
        let d1 : 200 < depth + 1 = grind (arith, nat_tests) in
        begins_too_deep i (unary_in (spot_of ts i) x) x (around a) d1 s (start_taken (spot_of ts i) 0 k x h)
    by_depth false e =
        let d1 : depth + 1 ≤ 200 = grind (arith, nat_tests) in
        begins_too_far i (unary_in (spot_of ts i) x) x (around a) d1 past s (start_taken (spot_of ts i) 0 k x h)

-- A prefix.
pub prefix_reads : (sp : Spot) (x : Mark) (op : UnaryOp) → prefix_in x ≡ Some op → unary_in sp (mark x) ≡ prefixed sp op
prefix_reads sp m.Minus op e = ap (λ o. elim o [ Some z ↦ prefixed sp z | None ↦ stop ]) e
prefix_reads sp m.Plus op e = ap (λ o. elim o [ Some z ↦ prefixed sp z | None ↦ stop ]) e
prefix_reads sp m.Exclamation op e = ap (λ o. elim o [ Some z ↦ prefixed sp z | None ↦ stop ]) e
prefix_reads sp m.Tilde op e = ap (λ o. elim o [ Some z ↦ prefixed sp z | None ↦ stop ]) e
prefix_reads sp m.Star op e = ap (λ o. elim o [ Some z ↦ prefixed sp z | None ↦ stop ]) e
prefix_reads sp m.Ampersand op e = ap (λ o. elim o [ Some z ↦ prefixed sp z | None ↦ stop ]) e
prefix_reads sp _ op e = absurd cc

-- A mark that is no prefix and that an expression begins with.
pub no_prefix_reads : (sp : Spot) (x : Mark) → starts (mark x) ≡ true → prefix_in x ≡ None → unary_in sp (mark x) ≡ parenthesized sp
no_prefix_reads sp m.OpenParenthesis h e = refl
no_prefix_reads sp m.Minus h e = absurd cc
no_prefix_reads sp m.Plus h e = absurd cc
no_prefix_reads sp m.Exclamation h e = absurd cc
no_prefix_reads sp m.Tilde h e = absurd cc
no_prefix_reads sp m.Star h e = absurd cc
no_prefix_reads sp m.Ampersand h e = absurd cc
no_prefix_reads sp _ h e = absurd cc

-- A cast, and a parenthesis behind which no type of a cast stands.
pub cast_step : {root : Symbol} (sp sp2 : Spot) (n : ℕ) (k : Stack root Unary) (to : CastType) →
    step (at sp (parenthesized sp) n k) (record { word = key (key_of to); spot = sp2 }) ≡ Some (at sp (cast_rest sp to) (n + 1) k)
cast_step sp sp2 n k ct.Int = refl
cast_step sp sp2 n k ct.Unsigned = refl
cast_step sp sp2 n k ct.Char = refl

no_cast_in : (sp : Spot) (x : Word) → cast_of (Some x) ≡ None → cast_in sp x ≡ stop
no_cast_in sp (w.key y.Int) h = absurd cc
no_cast_in sp (w.key y.Unsigned) h = absurd cc
no_cast_in sp (w.key y.Char) h = absurd cc
no_cast_in sp _ h = refl

pub no_cast_here : {root : Symbol} (round : ℕ) (ts : List CodeToken) (i q : ℕ) (k : Stack root Unary) → cast_of (word_at ts q) ≡ None →
    run round (amid ts i q (parenthesized (spot_of ts i)) k) (from ts q) ≡ run round (amid ts i q (enter (Level 0) (λ e. read (sees is_close (build e)))) k) (from ts q)
no_cast_here round ts i q k h =
    skips round ts i q (λ p. cast_in (spot_of ts i) p.word) (enter (Level 0) (λ e. read (sees is_close (build e)))) k
    (λ p here. no_cast_in (spot_of ts i) p.word (ap cast_of (sym here) ∙ h))

-- Nothing is open round a symbol that is read by itself.
lt_shift : (i n : ℕ) → nat_lt 1024 n ≡ nat_lt (i + 1024) (i + n)
lt_shift i n = by_test (nat_lt 1024 n) refl
  where
    by_test : (b : Bool) → nat_lt 1024 n ≡ b → nat_lt 1024 n ≡ nat_lt (i + 1024) (i + n)
    by_test true e = let lt : i + 1024 < i + n = grind (arith, nat_tests) in let yes' : nat_lt (i + 1024) (i + n) ≡ true = grind (arith, nat_tests) in e ∙ sym yes'
    by_test false e = let le : i + n ≤ i + 1024 = grind (arith, nat_tests) in let no' : nat_lt (i + 1024) (i + n) ≡ false = grind (arith, nat_tests) in e ∙ sym no'

pub alone_expression : (depth i : ℕ) (ts : List CodeToken) → Within depth depth (i + 1024) ts i (bottom {root = Level 0})
alone_expression depth i ts = record { nested = omega arith; reach = λ n r l. lt_shift i n }

pub alone_unary : (depth i : ℕ) (ts : List CodeToken) → Within depth depth (i + 1024) ts i (bottom {root = Unary})
alone_unary depth i ts = record { nested = omega arith; reach = λ n r l. lt_shift i n }

accepted : (s : Symbol) (round : ℕ) (sp : Spot) (n : ℕ) (a : TreeOf s) (ws : List Placed) → Quiet s sp a ws → run round (at sp (build a) n (bottom {root = s})) ws ≡ Accepts a ws
accepted s round sp n a [] q = refl
accepted s round sp n a (p ∷ ps) q =
    ap (λ d. next round (p ∷ ps) (Some a) (λ r. run round r ps) (first_of (place p d sp n (bottom {root = s})) None)) q

pub reader_answers : {A : Type 0} (s : Symbol) (depth i far : ℕ) (ts : List CodeToken) (shape : A → TreeOf s) (r : Result (A × ℕ) ParseFault) →
    Reads s depth far ts i shape r → Within depth depth far ts i (bottom {root = s}) → ((x : A × ℕ) → r ≡ Ok x → Quiet s (spot_of ts i) (shape x.0) (from ts x.1)) →
    ReaderAnswers s depth ts i shape r
reader_answers s depth i far ts shape (Ok x) h w q = h s depth (bottom {root = s}) w ∙ accepted s depth (spot_of ts i) (x.1 - i) (shape x.0) (from ts x.1) (q x refl)
reader_answers s depth i far ts shape (Err f) h w q = h s depth (bottom {root = s}) w

pub expression_answers : (depth i : ℕ) (ts : List CodeToken) (r : Result (Box Expr Global × ℕ) ParseFault) →
    Reads (Level 0) depth (i + 1024) ts i boxed_of r → IfOk r (λ x. (operator_from 0 (word_at ts x.1) ≡ None) × Misses ts x.1 (mark m.Question)) → ReaderAnswers (Level 0) depth ts i boxed_of r
expression_answers depth i ts r h q =
    reader_answers (Level 0) depth i (i + 1024) ts boxed_of r h (alone_expression depth i ts)
    (λ x e. quiet_expression ts x.1 (spot_of ts i) (boxed_of x.0) (subst (λ y. IfOk y (λ x. (operator_from 0 (word_at ts x.1) ≡ None) × Misses ts x.1 (mark m.Question))) e q))

pub unary_answers : (depth i : ℕ) (ts : List CodeToken) (r : Result (Box Expr Global × ℕ) ParseFault) →
    Reads Unary depth (i + 1024) ts i boxed_of r → IfOk r (λ x. no_postfix (word_at ts x.1) ≡ true) → ReaderAnswers Unary depth ts i boxed_of r
unary_answers depth i ts r h q =
    reader_answers Unary depth i (i + 1024) ts boxed_of r h (alone_unary depth i ts)
    (λ x e. quiet_unary ts x.1 (spot_of ts i) (boxed_of x.0) (subst (λ y. IfOk y (λ x. no_postfix (word_at ts x.1) ≡ true)) e q))
