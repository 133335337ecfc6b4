-- Laws of the reader of one word at a time, as code goes along with it.
use Rattle.std.proofs.Common.{ℕ, ◌≡◌, ◌<◌, ◌≤◌, ◌+◌, ◌-◌, List, [], ◌∷◌, Some, None, Bool, true, false, cond, nat_lt, ◌||◌, length, refl, ap, sym, ◌∙◌, subst, arith, Result, Ok, Err}
use Rattle.std.specs.Prelude.{IsErrAnd}
use Rattle.std.proofs.lemmas.Result.{err_from_is_err_and}
use Rattle.std.proofs.lemmas.Bool.Decides.{nat_tests}
use Rattle.rc_syntax.specs.declared.fault.ParseFault.{ParseFault}
use Rattle.rc_syntax.specs.declared.fault.ParseFault.TheVariants.{Syntax, Deep, Memory}
use Rattle.rc_syntax.specs.declared.word.Token.{Token as CodeToken}
use Rattle.rc_syntax.specs.declared.tree.Spot.{Spot}
use Rattle.rc_syntax.specs.declared.tree.Note.{Note}
use Rattle.rc_syntax.specs.declared.word.Mark.TheVariants as m
use Rattle.rc_syntax.specs.Tokens.{Word, mark}
use Rattle.rc_syntax.specs.Grammar.{Symbol, Stars, Star, TreeOf, Placed, adds, reach}
use Rattle.rc_syntax.specs.reader.Todo.{Todo, build, stop, try, enter, begin, read, sees, when, only, within}
use Rattle.rc_syntax.specs.reader.Reading.{first, tail, starred}
use Rattle.rc_syntax.specs.reader.Steps.{Stack, frame, State, about, amid as at, Answer, Refuses, Sinks, run, next, verdict, step, finish, place, taken, give, first_of, opened, reached, too_deep}
use Rattle.rc_words.specs.Words.{from, line_of, spot_of, word_in, word_at, Stands, Misses, Takes}
use Rattle.rc_expr.specs.Goes.{amid, inside, Around, Within, Faults, Goes, Quiet}
use Rattle.rc_words.proofs.Standing.{spot_first}

-- Two states that answer the next word in the same way.
pub same_run : {root : Symbol} (round : ℕ) (a b : State root) (ws : List Placed) → finish a ≡ finish b → ((p : Placed) (ps : List Placed) → ws ≡ p ∷ ps → step a p ≡ step b p) → run round a ws ≡ run round b ws
same_run round a b [] f h = ap (verdict []) f
same_run round a b (p ∷ ps) f h =
    ap (next round (p ∷ ps) (finish a) (λ r. run round r ps)) (h p ps refl)
    ∙ ap (λ t. next round (p ∷ ps) t (λ r. run round r ps) (step b p)) f

-- One word is read.
run_on : {root : Symbol} (round : ℕ) (a r : State root) (p : Placed) (ps : List Placed) → step a p ≡ Some r → too_deep round r ≡ false → run round a (p ∷ ps) ≡ run round r ps
run_on round a r p ps e h =
    ap (next round (p ∷ ps) (finish a) (λ q. run round q ps)) e ∙ ap (λ b. cond b (Sinks (p ∷ ps)) (run round r ps)) h

run_deep : {root : Symbol} (round : ℕ) (a r : State root) (p : Placed) (ps : List Placed) → step a p ≡ Some r → too_deep round r ≡ true → run round a (p ∷ ps) ≡ Sinks (p ∷ ps)
run_deep round a r p ps e h =
    ap (next round (p ∷ ps) (finish a) (λ q. run round q ps)) e ∙ ap (λ b. cond b (Sinks (p ∷ ps)) (run round r ps)) h

-- No word is read.
run_stop : {root : Symbol} (round : ℕ) (a : State root) (ws : List Placed) → finish a ≡ None → ((p : Placed) → word_in ws ≡ Some p.word → step a p ≡ None) → run round a ws ≡ Refuses ws
run_stop round a [] f h = ap (verdict []) f
run_stop round a (p ∷ ps) f h =
    ap (next round (p ∷ ps) (finish a) (λ q. run round q ps)) (h p refl) ∙ ap (verdict (p ∷ ps)) f

lt_false : (a b : ℕ) → b ≤ a → nat_lt a b ≡ false
lt_false a b h = grind (arith, nat_tests)

lt_true : (a b : ℕ) → a < b → nat_lt a b ≡ true
lt_true a b h = grind (arith, nat_tests)

-- A word is too deep exactly where it is too far, below the limit of depth.
far_only : {root s : Symbol} {round depth far i : ℕ} {ts : List CodeToken} {k : Stack root s} (sp : Spot) (td : Todo s) (n : ℕ) → Around round depth far ts i k → depth + adds s ≤ 200 → i + n ≤ length ts → too_deep round (at sp td n k) ≡ nat_lt far (i + n)
far_only {s = s} {round = round} {k = k} sp td n a d l =
    let nested = a.nested in
    let shallow : round + (opened k + adds s) ≤ 200 = omega (arith, nested, d) in
    ap (λ b. b || nat_lt 1024 (reached k n 0)) (lt_false 200 (round + (opened k + adds s)) shallow) ∙ a.reach n l

-- A word is taken.
pub takes : {root s : Symbol} {round depth far i : ℕ} {ts : List CodeToken} {k : Stack root s} (q : ℕ) (td td2 : Todo s) (w : Word) →
    Around round depth far ts i k → depth + adds s ≤ 200 → i ≤ q → q < far → Stands ts q w →
    step (amid ts i q td k) (record { word = w; spot = spot_of ts q }) ≡ Some (at (spot_of ts i) td2 ((q - i) + 1) k) →
    run round (amid ts i q td k) (from ts q) ≡ run round (amid ts i (q + 1) td2 k) (from ts (q + 1))
takes {round = round} {far = far} {i = i} {ts = ts} {k = k} q td td2 w a d le lt s e =
    let inside = s.within in
    let l : i + ((q - i) + 1) ≤ length ts = omega (arith, le, inside) in
    let near : i + ((q - i) + 1) ≤ far = omega (arith, le, lt) in
    let count : (q - i) + 1 ≡ (q + 1) - i = omega (arith, le) in
    ap (run round (amid ts i q td k)) s.here
    ∙ run_on round (amid ts i q td k) (at (spot_of ts i) td2 ((q - i) + 1) k) (record { word = w; spot = spot_of ts q }) (from ts (q + 1)) e
    (far_only (spot_of ts i) td2 ((q - i) + 1) a d l ∙ lt_false far (i + ((q - i) + 1)) near)
    ∙ ap (λ n. run round (at (spot_of ts i) td2 n k) (from ts (q + 1))) count

-- The first word of a symbol is taken.
pub begins : {root s : Symbol} {round depth far : ℕ} {ts : List CodeToken} {k : Stack root s} (i : ℕ) (td : Todo s) (w : Word) →
    Around round depth far ts i k → depth + adds s ≤ 200 → i < far → Stands ts i w →
    step (about k) (record { word = w; spot = spot_of ts i }) ≡ Some (at (spot_of ts i) td (0 + 1) k) →
    run round (about k) (from ts i) ≡ run round (amid ts i (i + 1) td k) (from ts (i + 1))
begins {round = round} {far = far} {ts = ts} {k = k} i td w a d lt s e =
    let inside = s.within in
    let l : i + (0 + 1) ≤ length ts = omega (arith, inside) in
    let near : i + (0 + 1) ≤ far = omega (arith, lt) in
    let count : 0 + 1 ≡ (i + 1) - i = omega arith in
    ap (run round (about k)) s.here
    ∙ run_on round (about k) (at (spot_of ts i) td (0 + 1) k) (record { word = w; spot = spot_of ts i }) (from ts (i + 1)) e
    (far_only (spot_of ts i) td (0 + 1) a d l ∙ lt_false far (i + (0 + 1)) near)
    ∙ ap (λ n. run round (at (spot_of ts i) td n k) (from ts (i + 1))) count

-- A word that would be taken is too far.
pub too_far : {root s : Symbol} {round depth far i : ℕ} {ts : List CodeToken} {k : Stack root s} (q : ℕ) (td td2 : Todo s) (w : Word) →
    Around round depth far ts i k → depth + adds s ≤ 200 → i ≤ q → far ≤ q → Stands ts q w →
    step (amid ts i q td k) (record { word = w; spot = spot_of ts q }) ≡ Some (at (spot_of ts i) td2 ((q - i) + 1) k) →
    run round (amid ts i q td k) (from ts q) ≡ Sinks (from ts q)
too_far {round = round} {far = far} {i = i} {ts = ts} {k = k} q td td2 w a d le lt s e =
    let inside = s.within in
    let l : i + ((q - i) + 1) ≤ length ts = omega (arith, le, inside) in
    let past : far < i + ((q - i) + 1) = omega (arith, le, lt) in
    ap (run round (amid ts i q td k)) s.here
    ∙ run_deep round (amid ts i q td k) (at (spot_of ts i) td2 ((q - i) + 1) k) (record { word = w; spot = spot_of ts q }) (from ts (q + 1)) e
    (far_only (spot_of ts i) td2 ((q - i) + 1) a d l ∙ lt_true far (i + ((q - i) + 1)) past)
    ∙ sym (ap Sinks s.here)

pub begins_too_far : {root s : Symbol} {round depth far : ℕ} {ts : List CodeToken} {k : Stack root s} (i : ℕ) (td : Todo s) (w : Word) →
    Around round depth far ts i k → depth + adds s ≤ 200 → far ≤ i → Stands ts i w →
    step (about k) (record { word = w; spot = spot_of ts i }) ≡ Some (at (spot_of ts i) td (0 + 1) k) →
    run round (about k) (from ts i) ≡ Sinks (from ts i)
begins_too_far {round = round} {far = far} {ts = ts} {k = k} i td w a d lt s e =
    let inside = s.within in
    let l : i + (0 + 1) ≤ length ts = omega (arith, inside) in
    let past : far < i + (0 + 1) = omega (arith, lt) in
    ap (run round (about k)) s.here
    ∙ run_deep round (about k) (at (spot_of ts i) td (0 + 1) k) (record { word = w; spot = spot_of ts i }) (from ts (i + 1)) e
    (far_only (spot_of ts i) td (0 + 1) a d l ∙ lt_true far (i + (0 + 1)) past)
    ∙ sym (ap Sinks s.here)

or_true : (a b : Bool) → a ≡ true → a || b ≡ true
or_true true b e = refl
or_true false b e = absurd cc

-- The first word of a symbol is nested too deep.
pub begins_too_deep : {root s : Symbol} {round depth far : ℕ} {ts : List CodeToken} {k : Stack root s} (i : ℕ) (td : Todo s) (w : Word) →
    Around round depth far ts i k → 200 < depth + adds s → Stands ts i w →
    step (about k) (record { word = w; spot = spot_of ts i }) ≡ Some (at (spot_of ts i) td (0 + 1) k) →
    run round (about k) (from ts i) ≡ Sinks (from ts i)
begins_too_deep {s = s} {round = round} {depth = depth} {far = far} {ts = ts} {k = k} i td w a d st e =
    let nested = a.nested in
    let deep : 200 < round + (opened k + adds s) = omega (arith, nested, d) in
    ap (run round (about k)) st.here
    ∙ run_deep round (about k) (at (spot_of ts i) td (0 + 1) k) (record { word = w; spot = spot_of ts i }) (from ts (i + 1)) e
    (or_true (nat_lt 200 (round + (opened k + adds s))) (nat_lt 1024 (reached k (0 + 1) 0)) (lt_true 200 (round + (opened k + adds s)) deep))
    ∙ sym (ap Sinks st.here)

-- A symbol that is to be read begins.
pub enters : {root s : Symbol} (round : ℕ) (ts : List CodeToken) (i q : ℕ) (j : Symbol) (h : TreeOf j → Todo s) (k : Stack root s) →
    run round (amid ts i q (enter j h) k) (from ts q) ≡ run round (about (inside ts i q h k)) (from ts q)
enters round ts i q j h k = same_run round (amid ts i q (enter j h) k) (about (inside ts i q h k)) (from ts q) refl (λ p ps e. refl)

-- A symbol whose first word is that of a symbol inside.
pub begins_with : {root s j : Symbol} (round : ℕ) (ts : List CodeToken) (i : ℕ) (h : TreeOf j → Todo s) (k : Stack root s) →
    ((p : Placed) → first s p ≡ within j h (first j p)) →
    run round (about k) (from ts i) ≡ run round (about (inside ts i i h k)) (from ts i)
begins_with round ts i h k f =
    let none : i - i ≡ 0 = omega arith in
    same_run round (about k) (about (inside ts i i h k)) (from ts i) refl
    (λ p ps e.
    ap (λ d. place p d p.spot 0 k) (f p)
    ∙ ap (λ sp. place p (first _ p) p.spot 0 (frame sp 0 h k)) (sym (spot_first ts i p ps e))
    ∙ ap (λ n. place p (first _ p) p.spot 0 (frame (spot_of ts i) n h k)) (sym none))

-- A symbol whose words may be none is to be read.
pub opens : {root s : Symbol} (round : ℕ) (ts : List CodeToken) (i q : ℕ) (j : Symbol) (a : TreeOf j) (h : TreeOf j → Todo s) (k : Stack root s) →
    run round (amid ts i q (begin j a h) k) (from ts q) ≡ run round (amid ts q q (build a) (inside ts i q h k)) (from ts q)
opens round ts i q j a h k =
    let none : q - q ≡ 0 = omega arith in
    let more : q - i ≡ (q - i) + 0 = omega arith in
    same_run round (amid ts i q (begin j a h) k) (amid ts q q (build a) (inside ts i q h k)) (from ts q) refl
    (λ p ps e.
    ap (λ n. first_of (place p (tail j p.spot a p) p.spot 0 (inside ts i q h k)) (step (at (spot_of ts i) (h a) n k) p)) more
    ∙ ap (λ sp. step (at sp (build a) 0 (inside ts i q h k)) p) (sym (spot_first ts q p ps e))
    ∙ ap (λ n. step (at (spot_of ts q) (build a) n (inside ts i q h k)) p) (sym none))

-- A complete symbol that the next word doesn't go on with is given to what is round it.
pub closes : {root s : Symbol} (j : Symbol) (round : ℕ) (ts : List CodeToken) (i q e : ℕ) (a : TreeOf j) (h : TreeOf j → Todo s) (k : Stack root s) → i ≤ q → q ≤ e →
    Quiet j (spot_of ts q) a (from ts e) →
    run round (amid ts q e (build a) (inside ts i q h k)) (from ts e) ≡ run round (amid ts i e (h a) k) (from ts e)
closes j round ts i q e a h k le le2 quiet =
    let count : (q - i) + (e - q) ≡ e - i = omega (arith, le, le2) in
    same_run round (amid ts q e (build a) (inside ts i q h k)) (amid ts i e (h a) k) (from ts e) refl
    (λ p ps w.
    let calm : tail j (spot_of ts q) a p ≡ only stop = subst (Quiet j (spot_of ts q) a) w quiet in
    ap (λ d. first_of (place p d (spot_of ts q) (e - q) (inside ts i q h k)) (give p (inside ts i q h k) (e - q) a)) calm
    ∙ ap (λ n. step (at (spot_of ts i) (h a) n k) p) count)

-- What may stand here doesn't.
pub skips : {root s : Symbol} (round : ℕ) (ts : List CodeToken) (i q : ℕ) (f : Placed → Todo s) (td : Todo s) (k : Stack root s) →
    ((p : Placed) → word_at ts q ≡ Some p.word → f p ≡ stop) →
    run round (amid ts i q (try f td) k) (from ts q) ≡ run round (amid ts i q td k) (from ts q)
skips round ts i q f td k h =
    same_run round (amid ts i q (try f td) k) (amid ts i q td k) (from ts q) refl
    (λ p ps e. ap (λ x. first_of (taken x (spot_of ts i) (q - i) k) (step (amid ts i q td k) p)) (h p (ap word_in e)))

-- What stands here is no part of anything.
pub stops : {root s : Symbol} (round : ℕ) (ts : List CodeToken) (i q : ℕ) (td : Todo s) (k : Stack root s) →
    finish (amid ts i q td k) ≡ None → ((p : Placed) → word_at ts q ≡ Some p.word → step (amid ts i q td k) p ≡ None) →
    run round (amid ts i q td k) (from ts q) ≡ Refuses (from ts q)
stops round ts i q td k f h = run_stop round (amid ts i q td k) (from ts q) f h

pub stops_about : {root s : Symbol} (round : ℕ) (ts : List CodeToken) (i : ℕ) (k : Stack root s) →
    ((p : Placed) → word_at ts i ≡ Some p.word → step (about k) p ≡ None) →
    run round (about k) (from ts i) ≡ Refuses (from ts i)
stops_about round ts i k h = run_stop round (about k) (from ts i) refl h

-- Faults.
pub faults_along : {root : Symbol} (ts : List CodeToken) (a b : Answer root) (f : ParseFault) → a ≡ b → Faults ts b f → Faults ts a f
faults_along ts a b f e h = subst (λ x. Faults ts x f) (sym e) h

-- A fault of a part is one of the whole.
pub passes : {A : Type 0} {root : Symbol} (round : ℕ) (ts : List CodeToken) (after : A → ℕ → State root) (a b : Answer root) (r : Result (A × ℕ) ParseFault) (f : ParseFault) → IsErrAnd r (λ y. y ≡ f) → a ≡ b → Faults ts b f → Goes round ts after a r
passes round ts after a b r f h e g =
    let p = err_from_is_err_and r h in
    subst (Goes round ts after a) (sym p.1) (subst (Faults ts a) (sym p.2) (faults_along ts a b f e g))

-- A word is expected where one is read.
pub misses : {root s : Symbol} {round depth far i : ℕ} {ts : List CodeToken} {k : Stack root s} (q : ℕ) (td td2 : Todo s) (w : Word) (f : ParseFault) →
    Around round depth far ts i k → depth + adds s ≤ 200 → i ≤ q → Takes ts q far w (Err f) →
    step (amid ts i q td k) (record { word = w; spot = spot_of ts q }) ≡ Some (at (spot_of ts i) td2 ((q - i) + 1) k) →
    finish (amid ts i q td k) ≡ None → ((p : Placed) → (p.word ≡ w → ⊥) → step (amid ts i q td k) p ≡ None) →
    Faults ts (run round (amid ts i q td k) (from ts q)) f
misses {round = round} {i = i} {ts = ts} {k = k} q td td2 w (Syntax line) a d le t e f other =
    (from ts q, stops round ts i q td k f (λ p here. other p (λ same. t.0 (here ∙ ap Some same))), t.1)
misses {ts = ts} q td td2 w (Deep line) a d le t e f other =
    (from ts q, too_far q td td2 w a d le t.1 t.0 e, t.2)
misses q td td2 w Memory a d le t e f other = absurd t

-- What is round a symbol inside.
pub around : {root s : Symbol} {round depth far i : ℕ} {ts : List CodeToken} {k : Stack root s} → Within round depth far ts i k → Around round depth far ts i k
around a = record { nested = a.nested; reach = λ n l. a.reach n 0 l }

pub deeper : {root s j : Symbol} {round depth far i : ℕ} {ts : List CodeToken} {k : Stack root s} (inner q : ℕ) (h : TreeOf j → Todo s) → Within round depth far ts i k → depth + adds s ≡ inner → i ≤ q → Within round inner far ts q (inside ts i q h k)
deeper {s = s} {j = j} {round = round} {depth = depth} {far = far} {i = i} {ts = ts} {k = k} inner q h a d le =
    let outer = a.nested in
    record {
      nested = omega (arith, outer, d);
      reach = λ n r l.
          let l2 : i + ((q - i) + n) ≤ length ts = omega (arith, le, l) in
          let same : i + ((q - i) + n) ≡ q + n = omega (arith, le) in
          a.reach ((q - i) + n) (reach j n r) l2 ∙ ap (nat_lt far) same;
    }

pub deeper_around : {root s j : Symbol} {round depth far i : ℕ} {ts : List CodeToken} {k : Stack root s} (inner q : ℕ) (h : TreeOf j → Todo s) → ((n : ℕ) → reach j n 0 ≡ 0) → Around round depth far ts i k → depth + adds s ≡ inner → i ≤ q → Around round inner far ts q (inside ts i q h k)
deeper_around {s = s} {j = j} {round = round} {depth = depth} {far = far} {i = i} {ts = ts} {k = k} inner q h none a d le =
    let outer = a.nested in
    record {
      nested = omega (arith, outer, d);
      reach = λ n l.
          let l2 : i + ((q - i) + n) ≤ length ts = omega (arith, le, l) in
          let same : i + ((q - i) + n) ≡ q + n = omega (arith, le) in
          ap (λ r. nat_lt 1024 (reached k ((q - i) + n) r)) (none n) ∙ a.reach ((q - i) + n) l2 ∙ ap (nat_lt far) same;
    }

-- A word that is seen to stand there is not taken.
pub far_fault : {root s : Symbol} {round depth far i : ℕ} {ts : List CodeToken} {k : Stack root s} (q : ℕ) (td td2 : Todo s) (w : Word) (f : ParseFault) →
    Around round depth far ts i k → depth + adds s ≤ 200 → i ≤ q → Stands ts q w → (far ≤ q) × (f ≡ Deep (line_of ts q)) →
    step (amid ts i q td k) (record { word = w; spot = spot_of ts q }) ≡ Some (at (spot_of ts i) td2 ((q - i) + 1) k) →
    Faults ts (run round (amid ts i q td k) (from ts q)) f
far_fault {round = round} {i = i} {ts = ts} {k = k} q td td2 w f a d le s t e =
    subst (Faults ts (run round (amid ts i q td k) (from ts q))) (sym t.1) (from ts q, too_far q td td2 w a d le t.0 s e, refl)

pub refused : {root : Symbol} (ts : List CodeToken) (a : Answer root) (q : ℕ) (f : ParseFault) → a ≡ Refuses (from ts q) → f ≡ Syntax (line_of ts q) → Faults ts a f
refused ts a q f e h = subst (Faults ts a) (sym h) (from ts q, e, refl)

pub sunk : {root : Symbol} (ts : List CodeToken) (a : Answer root) (q : ℕ) (f : ParseFault) → a ≡ Sinks (from ts q) → f ≡ Deep (line_of ts q) → Faults ts a f
sunk ts a q f e h = subst (Faults ts a) (sym h) (from ts q, e, refl)

pub goes_along : {A : Type 0} {root : Symbol} (round : ℕ) (ts : List CodeToken) (after : A → ℕ → State root) (a b : Answer root) (r : Result (A × ℕ) ParseFault) → a ≡ b → Goes round ts after b r → Goes round ts after a r
goes_along round ts after a b r e h = subst (λ x. Goes round ts after x r) (sym e) h

quiet_star : (i : ℕ) (sp : Spot) (ws : List Placed) → Quiet (Star i) sp tt ws
quiet_star i sp [] = tt
quiet_star i sp (p ∷ ps) = refl

-- A star is taken.
pub star_taken : {root : Symbol} {round depth far i : ℕ} {ts : List CodeToken} {k : Stack root Stars} (q : ℕ) (ns : List Note) →
    Around round depth far ts i k → depth + (length ns + 1) ≤ 200 → i ≤ q → q < far → Stands ts q (mark m.Star) →
    run round (amid ts i q (build ns) k) (from ts q) ≡ run round (amid ts i (q + 1) (starred ns tt) k) (from ts (q + 1))
star_taken {root = root} {round = round} {depth = depth} {far = far} {i = i} {ts = ts} {k = k} q ns a d le lt s =
    let kk : Stack root (Star (length ns + 1)) = inside ts i q (starred ns) k in
    let none : depth + 0 ≡ depth = omega arith in
    let inner : Around round depth far ts q kk = deeper_around depth q (starred ns) (λ n. refl) a none le in
    let within = s.within in
    let l : q + (0 + 1) ≤ length ts = omega (arith, within) in
    let near : q + (0 + 1) ≤ far = omega (arith, lt) in
    let count : 0 + 1 ≡ (q + 1) - q = omega arith in
    let more : q ≤ q + 1 = omega arith in
    ap (run round (amid ts i q (build ns) k)) s.here
    ∙ run_on round (amid ts i q (build ns) k) (at (spot_of ts q) (build tt) (0 + 1) kk) (record { word = mark m.Star; spot = spot_of ts q }) (from ts (q + 1)) refl
    (far_only (spot_of ts q) (build tt) (0 + 1) inner d l ∙ lt_false far (q + (0 + 1)) near)
    ∙ ap (λ n. run round (at (spot_of ts q) (build tt) n kk) (from ts (q + 1))) count
    ∙ closes (Star (length ns + 1)) round ts i q (q + 1) tt (starred ns) k le more (quiet_star (length ns + 1) (spot_of ts q) (from ts (q + 1)))

-- A word is taken, and the place behind it is known.
pub took : {root s : Symbol} {round depth far i : ℕ} {ts : List CodeToken} {k : Stack root s} (q e : ℕ) (td td2 : Todo s) (w : Word) →
    Around round depth far ts i k → depth + adds s ≤ 200 → i ≤ q → q < far → Stands ts q w → e ≡ q + 1 →
    step (amid ts i q td k) (record { word = w; spot = spot_of ts q }) ≡ Some (at (spot_of ts i) td2 ((q - i) + 1) k) →
    run round (amid ts i q td k) (from ts q) ≡ run round (amid ts i e td2 k) (from ts e)
took {round = round} {i = i} {ts = ts} {k = k} q e td td2 w a d le lt s same st =
    takes q td td2 w a d le lt s st ∙ ap (λ x. run round (amid ts i x td2 k) (from ts x)) (sym same)

-- A word that has to stand here.
seen : {root s : Symbol} (sp : Spot) (n : ℕ) (k : Stack root s) (test : Word → Bool) (td : Todo s) (p : Placed) → test p.word ≡ true → taken td sp n k ≡ Some (at sp td (n + 1) k) → step (at sp (read (sees test td)) n k) p ≡ Some (at sp td (n + 1) k)
seen sp n k test td p holds go = ap (λ b. first_of (taken (when b td) sp n k) None) holds ∙ ap (λ o. first_of o None) go

unseen : {root s : Symbol} (sp : Spot) (n : ℕ) (k : Stack root s) (test : Word → Bool) (td : Todo s) (p : Placed) → test p.word ≡ false → step (at sp (read (sees test td)) n k) p ≡ None
unseen sp n k test td p none = ap (λ b. first_of (taken (when b td) sp n k) None) none

pub expected : {root s : Symbol} {round depth far i : ℕ} {ts : List CodeToken} {k : Stack root s} (q e : ℕ) (test : Word → Bool) (td : Todo s) (w : Word) →
    Around round depth far ts i k → depth + adds s ≤ 200 → i ≤ q → Takes ts q far w (Ok e) → test w ≡ true →
    ((n : ℕ) → taken td (spot_of ts i) n k ≡ Some (at (spot_of ts i) td (n + 1) k)) →
    run round (amid ts i q (read (sees test td)) k) (from ts q) ≡ run round (amid ts i e td k) (from ts e)
expected {i = i} {ts = ts} {k = k} q e test td w a d le t holds go =
    took q e (read (sees test td)) td w a d le t.1 t.0 t.2 (seen (spot_of ts i) (q - i) k test td (record { word = w; spot = spot_of ts q }) holds (go (q - i)))

pub expected_fault : {root s : Symbol} {round depth far i : ℕ} {ts : List CodeToken} {k : Stack root s} (q : ℕ) (test : Word → Bool) (td : Todo s) (w : Word) (f : ParseFault) →
    Around round depth far ts i k → depth + adds s ≤ 200 → i ≤ q → Takes ts q far w (Err f) → test w ≡ true →
    ((n : ℕ) → taken td (spot_of ts i) n k ≡ Some (at (spot_of ts i) td (n + 1) k)) → ((x : Word) → (x ≡ w → ⊥) → test x ≡ false) →
    Faults ts (run round (amid ts i q (read (sees test td)) k) (from ts q)) f
expected_fault {i = i} {ts = ts} {k = k} q test td w f a d le t holds go other =
    misses q (read (sees test td)) td w f a d le t (seen (spot_of ts i) (q - i) k test td (record { word = w; spot = spot_of ts q }) holds (go (q - i))) refl
    (λ p h. unseen (spot_of ts i) (q - i) k test td p (other p.word h))

-- A word that may stand here and doesn't.
pub missed : {root s : Symbol} (round : ℕ) (ts : List CodeToken) (i q : ℕ) (test : Word → Bool) (td td2 : Todo s) (k : Stack root s) (w : Word) → Misses ts q w → ((x : Word) → (x ≡ w → ⊥) → test x ≡ false) →
    run round (amid ts i q (try (sees test td) td2) k) (from ts q) ≡ run round (amid ts i q td2 k) (from ts q)
missed round ts i q test td td2 k w m other =
    skips round ts i q (sees test td) td2 k (λ p here. ap (λ b. when b td) (other p.word (λ same. m (here ∙ ap Some same))))

-- A symbol is read to its end inside another.
pub part : {root s : Symbol} (j : Symbol) (round : ℕ) (ts : List CodeToken) (i q e : ℕ) (h : TreeOf j → Todo s) (k : Stack root s) (a : TreeOf j) → i ≤ q → q ≤ e →
    run round (about (inside ts i q h k)) (from ts q) ≡ run round (amid ts q e (build a) (inside ts i q h k)) (from ts e) →
    Quiet j (spot_of ts q) a (from ts e) →
    run round (amid ts i q (enter j h) k) (from ts q) ≡ run round (amid ts i e (h a) k) (from ts e)
part j round ts i q e h k a le le2 along quiet = enters round ts i q j h k ∙ along ∙ closes j round ts i q e a h k le le2 quiet

pub part_fault : {root s : Symbol} (j : Symbol) (round : ℕ) (ts : List CodeToken) (i q : ℕ) (h : TreeOf j → Todo s) (k : Stack root s) (f : ParseFault) →
    Faults ts (run round (about (inside ts i q h k)) (from ts q)) f → Faults ts (run round (amid ts i q (enter j h) k) (from ts q)) f
part_fault j round ts i q h k f g = faults_along ts _ _ f (enters round ts i q j h k) g
