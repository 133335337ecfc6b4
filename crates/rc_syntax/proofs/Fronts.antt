-- Means to show what is left of a symbol right: the parts of a production that are derived, and what a word adds to them.
use Rattle.std.proofs.Common.{ℕ, ◌≡◌, List, [], ◌∷◌, ◌++◌, append_assoc, append-nil, Option, Bool, true, false, refl, sym, subst}
use Rattle.rc_syntax.specs.declared.tree.Spot.{Spot}
use Rattle.rc_syntax.specs.declared.tree.Name as names
use Rattle.rc_syntax.specs.declared.word.Key.TheVariants.{Int, Void, While, Else}
use Rattle.rc_syntax.specs.declared.word.Mark.TheVariants as m
use Rattle.rc_syntax.specs.Tokens as w
use Rattle.rc_syntax.specs.Tokens.{Word, mark, key}
use Rattle.rc_syntax.specs.Grammar.{Symbol, TreeOf, Placed, Part, word, node, Rule, BeginAt, Derives, by, DeriveAll, done, then, inside, BeginAll, a_word, here, later}
use Rattle.rc_syntax.specs.reader.Todo.{Todo, stop, Deeper, only, is_stop, when, sees, read, deeper}
use Rattle.rc_syntax.specs.reader.Reading.{is_open, is_close, is_open_brace, is_close_brace, is_open_bracket, is_close_bracket, is_semicolon, is_comma, is_colon, is_equal, is_int, is_void, is_while, is_else, is_question, name_in, named, number_in, numbered}
use Rattle.rc_syntax.proofs.Sound.{Since, is_used, Hole, Stands, Left, Goes}

pub snoc : {xs ys : List Placed} {ps : List Part} {p : Part} → DeriveAll xs ps → Derives ys p → DeriveAll (xs ++ ys) (ps ++ p ∷ [])
snoc {ys = ys} {p = p} done d = let P : List Placed → Type 0 = λ l. DeriveAll l (p ∷ []) in subst P (append-nil ys) (then d done)
snoc {ys = ys} {p = p} (then {xs = xs} {ys = us} {p = q} {ps = ps} c f) d =
    let P : List Placed → Type 0 = λ l. DeriveAll l (q ∷ (ps ++ p ∷ [])) in
    subst P (sym (append_assoc xs us ys)) (then c (snoc f d))

pub all_then : {xs ys : List Placed} {ps qs : List Part} {q : Part} {d r : ℕ} → DeriveAll xs ps → BeginAll ys (q ∷ qs) d r → BeginAll (xs ++ ys) (ps ++ q ∷ qs) d r
all_then done b = b
all_then {ys = ys} {qs = qs} {q = q} {d = d} {r = r} (then {xs = xs} {p = p} c done) b =
    let P : List Placed → Type 0 = λ l. BeginAll (l ++ ys) (p ∷ q ∷ qs) d r in
    subst P (sym (append-nil xs)) (later c b)
all_then {ys = ys} {qs = qs} {q = q} {d = d} {r = r} (then {xs = xs} {ys = us} {p = p} c (then {p = p2} {ps = ps} e f)) b =
    let P : List Placed → Type 0 = λ l. BeginAll l (p ∷ p2 ∷ (ps ++ q ∷ qs)) d r in
    subst P (sym (append_assoc xs us ys)) (later c (all_then (then e f) b))

-- A part without words.
pub snoc_none : {xs : List Placed} {ps : List Part} {p : Part} → DeriveAll xs ps → Derives [] p → DeriveAll xs (ps ++ p ∷ [])
snoc_none {xs = xs} {ps = ps} {p = p} f d = let P : List Placed → Type 0 = λ l. DeriveAll l (ps ++ p ∷ []) in subst P (append-nil xs) (snoc f d)

-- One part.
pub alone : {xs : List Placed} {p : Part} → Derives xs p → DeriveAll xs (p ∷ [])
alone d = snoc done d

pub at_since : (o : Spot) (ws : List Placed) → Since o ws → BeginAt o ws
at_since o [] h = absurd h
at_since o (p ∷ ps) h = h

-- the words begin somewhere
pub any_spot : (o : Spot) (ws : List Placed) → (i : Spot) × BeginAt i ws
any_spot o [] = (o, tt)
any_spot o (p ∷ ps) = (p.spot, refl)

-- A production whose tree is the same at each spot.
pub by_any : {s : Symbol} {a : TreeOf s} {ps : List Part} (o : Spot) {ws : List Placed} → ((i : Spot) → Rule i s a ps) → DeriveAll ws ps → Derives ws (node s a)
by_any o {ws = ws} r f = let x = any_spot o ws in by x.1 (r x.0) f

pub by_since : {s : Symbol} {a : TreeOf s} {ps : List Part} {o : Spot} {ws : List Placed} → Since o ws → Rule o s a ps → DeriveAll ws ps → Derives ws (node s a)
by_since {o = o} {ws = ws} h r f = by (at_since o ws h) r f

-- a production at this spot, where nothing else says which
pub at_spot : {s : Symbol} {a : TreeOf s} {ps : List Part} (i : Spot) → Rule i s a ps → Rule i s a ps
at_spot i r = r

pub stands : {s : Symbol} {a : TreeOf s} {ys : List Placed} {ps : List Part} {i : Spot} (o : Spot) (x : Word) (qs : List Part) → DeriveAll ys ps → Rule i s a (ps ++ word x ∷ qs) → Stands (ys ++ record { word = x; spot = o } ∷ []) s
stands o x qs f r = inside r (all_then f a_word)

pub hole : {s j : Symbol} {a : TreeOf s} {ys : List Placed} {ps : List Part} {i : Spot} → is_used j ≡ true → (c : TreeOf j) (qs : List Part) → DeriveAll ys ps → Rule i s a (ps ++ node j c ∷ qs) → Hole ys s j
hole used c qs f r = record { used = used; begins = λ zs d q b. inside r (all_then f (here b)) }

-- A word at a spot.
abbrev pub is : Word → Spot → Placed
is x o = record { word = x; spot = o }

-- What a word leads to where it is the one that is asked for.
abbrev pub Took : {s : Symbol} → Spot → List Placed → (Placed → Todo s) → Type 0
Took {s = s} i ys f = (p : Placed) → (is_stop (f p) ≡ false → Stands (ys ++ p ∷ []) s) × ((v : Option Placed) → Left v i (ys ++ p ∷ []) (f p))

abbrev pub Reads : {s : Symbol} → Spot → List Placed → Placed → Todo s → Type 0
Reads {s = s} i ys p td = Stands (ys ++ p ∷ []) s × ((v : Option Placed) → Left v i (ys ++ p ∷ []) td)

pub stopped : {s : Symbol} (i : Spot) (ys : List Placed) (p : Placed) → (is_stop {s = s} stop ≡ false → Stands (ys ++ p ∷ []) s) × ((v : Option Placed) → Left {s = s} v i (ys ++ p ∷ []) stop)
stopped i ys p = (λ e. absurd (cc), λ v. tt)

pub reads : {s : Symbol} (i : Spot) (ys : List Placed) (p : Placed) (td : Todo s) → Reads i ys p td → (is_stop td ≡ false → Stands (ys ++ p ∷ []) s) × ((v : Option Placed) → Left v i (ys ++ p ∷ []) td)
reads i ys p td h = (λ e. h.0, h.1)

seen : {s : Symbol} (i : Spot) (ys : List Placed) (td : Todo s) (p : Placed) (b : Bool) → (b ≡ true → Reads i ys p td) →
    (is_stop (when b td) ≡ false → Stands (ys ++ p ∷ []) s) × ((v : Option Placed) → Left v i (ys ++ p ∷ []) (when b td))
seen i ys td p true h = reads i ys p td (h refl)
seen i ys td p false h = stopped i ys p

pub took_sees : {s : Symbol} (i : Spot) (ys : List Placed) (td : Todo s) (test : Word → Bool) (x : Word) → ((y : Word) → test y ≡ true → y ≡ x) →
    ((o : Spot) → Reads i ys (record { word = x; spot = o }) td) → Took i ys (sees test td)
took_sees i ys td test x same h = λ p. seen i ys td p (test p.word) (λ e.
    let P : Word → Type 0 = λ y. Reads i ys (record { word = y; spot = p.spot }) td in
    subst P (sym (same p.word e)) (h p.spot))

pub took_name : {s : Symbol} (i : Spot) (ys : List Placed) (h : names.Name → Todo s) →
    ((o : Spot) (x : List ℕ) → Reads i ys (record { word = w.name x; spot = o }) (h (record { spot = o; text = x }))) → Took i ys (named h)
took_name {s = s} i ys h f = λ p. go p.spot p.word
  where
    go : (o : Spot) (y : Word) → let p : Placed = record { word = y; spot = o } in (is_stop (name_in h o y) ≡ false → Stands (ys ++ p ∷ []) s) × ((v : Option Placed) → Left v i (ys ++ p ∷ []) (name_in h o y))
    go o (w.name x) = reads i ys (record { word = w.name x; spot = o }) (h (record { spot = o; text = x })) (f o x)
    go o y = stopped i ys (record { word = y; spot = o })

pub took_number : {s : Symbol} (i : Spot) (ys : List Placed) (h : ℕ → Bool → Todo s) →
    ((o : Spot) (x : ℕ) (u : Bool) → Reads i ys (record { word = w.number x u; spot = o }) (h x u)) → Took i ys (numbered h)
took_number {s = s} i ys h f = λ p. go p.spot p.word
  where
    go : (o : Spot) (y : Word) → let p : Placed = record { word = y; spot = o } in (is_stop (number_in h y) ≡ false → Stands (ys ++ p ∷ []) s) × ((v : Option Placed) → Left v i (ys ++ p ∷ []) (number_in h y))
    go o (w.number x u) = reads i ys (record { word = w.number x u; spot = o }) (h x u) (f o x u)
    go o y = stopped i ys (record { word = y; spot = o })

pub must : {s : Symbol} (i : Spot) (ys : List Placed) (f : Placed → Todo s) → Took i ys f → (v : Option Placed) → Left v i ys (read f)
must i ys f h v = (λ p e. h p, λ e. tt)

pub must_see : {s : Symbol} (i : Spot) (ys : List Placed) (td : Todo s) (test : Word → Bool) (x : Word) → ((y : Word) → test y ≡ true → y ≡ x) →
    ((o : Spot) → Reads i ys (record { word = x; spot = o }) td) → (v : Option Placed) → Left v i ys (read (sees test td))
must_see i ys td test x same h = must i ys (sees test td) (took_sees i ys td test x same h)

pub goes_nowhere : {s : Symbol} (i : Spot) (ys : List Placed) (p : Placed) → Goes {s = s} i ys p (only stop)
goes_nowhere i ys p = (λ e. absurd (cc), λ w. tt)

pub goes_reading : {s : Symbol} (i : Spot) (ys : List Placed) (p : Placed) (td : Todo s) → Reads i ys p td → Goes i ys p (only td)
goes_reading i ys p td h = (λ e. h.0, h.1)

pub goes_either : {s : Symbol} (i : Spot) (ys : List Placed) (p : Placed) (b : Bool) (d e : Deeper s) → Goes i ys p d → Goes i ys p e → Goes i ys p (deeper b d e)
goes_either i ys p true d e x y = y
goes_either i ys p false d e x y = x

-- Each test is of one word.
pub open_is : (y : Word) → is_open y ≡ true → y ≡ mark m.OpenParenthesis
open_is (mark m.OpenParenthesis) e = refl
open_is _ e = absurd (cc)

pub close_is : (y : Word) → is_close y ≡ true → y ≡ mark m.CloseParenthesis
close_is (mark m.CloseParenthesis) e = refl
close_is _ e = absurd (cc)

pub open_brace_is : (y : Word) → is_open_brace y ≡ true → y ≡ mark m.OpenBrace
open_brace_is (mark m.OpenBrace) e = refl
open_brace_is _ e = absurd (cc)

pub close_brace_is : (y : Word) → is_close_brace y ≡ true → y ≡ mark m.CloseBrace
close_brace_is (mark m.CloseBrace) e = refl
close_brace_is _ e = absurd (cc)

pub open_bracket_is : (y : Word) → is_open_bracket y ≡ true → y ≡ mark m.OpenBracket
open_bracket_is (mark m.OpenBracket) e = refl
open_bracket_is _ e = absurd (cc)

pub close_bracket_is : (y : Word) → is_close_bracket y ≡ true → y ≡ mark m.CloseBracket
close_bracket_is (mark m.CloseBracket) e = refl
close_bracket_is _ e = absurd (cc)

pub semicolon_is : (y : Word) → is_semicolon y ≡ true → y ≡ mark m.Semicolon
semicolon_is (mark m.Semicolon) e = refl
semicolon_is _ e = absurd (cc)

pub comma_is : (y : Word) → is_comma y ≡ true → y ≡ mark m.Comma
comma_is (mark m.Comma) e = refl
comma_is _ e = absurd (cc)

pub colon_is : (y : Word) → is_colon y ≡ true → y ≡ mark m.Colon
colon_is (mark m.Colon) e = refl
colon_is _ e = absurd (cc)

pub question_is : (y : Word) → is_question y ≡ true → y ≡ mark m.Question
question_is (mark m.Question) e = refl
question_is _ e = absurd (cc)

pub equal_is : (y : Word) → is_equal y ≡ true → y ≡ mark m.Equal
equal_is (mark m.Equal) e = refl
equal_is _ e = absurd (cc)

pub int_is : (y : Word) → is_int y ≡ true → y ≡ key Int
int_is (key Int) e = refl
int_is _ e = absurd (cc)

pub void_is : (y : Word) → is_void y ≡ true → y ≡ key Void
void_is (key Void) e = refl
void_is _ e = absurd (cc)

pub while_is : (y : Word) → is_while y ≡ true → y ≡ key While
while_is (key While) e = refl
while_is _ e = absurd (cc)

pub else_is : (y : Word) → is_else y ≡ true → y ≡ key Else
else_is (key Else) e = refl
else_is _ e = absurd (cc)

-- One word must follow.
pub must_name : {s : Symbol} (i : Spot) (ys : List Placed) (h : names.Name → Todo s) →
    ((o : Spot) (x : List ℕ) → Reads i ys (is (w.name x) o) (h (record { spot = o; text = x }))) → (v : Option Placed) → Left v i ys (read (named h))
must_name i ys h f = must i ys (named h) (took_name i ys h f)

pub must_open : {s : Symbol} (i : Spot) (ys : List Placed) (td : Todo s) → ((o : Spot) → Reads i ys (is (mark m.OpenParenthesis) o) td) → (v : Option Placed) → Left v i ys (read (sees is_open td))
must_open i ys td = must_see i ys td is_open (mark m.OpenParenthesis) open_is

pub must_close : {s : Symbol} (i : Spot) (ys : List Placed) (td : Todo s) → ((o : Spot) → Reads i ys (is (mark m.CloseParenthesis) o) td) → (v : Option Placed) → Left v i ys (read (sees is_close td))
must_close i ys td = must_see i ys td is_close (mark m.CloseParenthesis) close_is

pub must_close_brace : {s : Symbol} (i : Spot) (ys : List Placed) (td : Todo s) → ((o : Spot) → Reads i ys (is (mark m.CloseBrace) o) td) → (v : Option Placed) → Left v i ys (read (sees is_close_brace td))
must_close_brace i ys td = must_see i ys td is_close_brace (mark m.CloseBrace) close_brace_is

pub must_close_bracket : {s : Symbol} (i : Spot) (ys : List Placed) (td : Todo s) → ((o : Spot) → Reads i ys (is (mark m.CloseBracket) o) td) → (v : Option Placed) → Left v i ys (read (sees is_close_bracket td))
must_close_bracket i ys td = must_see i ys td is_close_bracket (mark m.CloseBracket) close_bracket_is

pub must_semicolon : {s : Symbol} (i : Spot) (ys : List Placed) (td : Todo s) → ((o : Spot) → Reads i ys (is (mark m.Semicolon) o) td) → (v : Option Placed) → Left v i ys (read (sees is_semicolon td))
must_semicolon i ys td = must_see i ys td is_semicolon (mark m.Semicolon) semicolon_is

pub must_comma : {s : Symbol} (i : Spot) (ys : List Placed) (td : Todo s) → ((o : Spot) → Reads i ys (is (mark m.Comma) o) td) → (v : Option Placed) → Left v i ys (read (sees is_comma td))
must_comma i ys td = must_see i ys td is_comma (mark m.Comma) comma_is

pub must_colon : {s : Symbol} (i : Spot) (ys : List Placed) (td : Todo s) → ((o : Spot) → Reads i ys (is (mark m.Colon) o) td) → (v : Option Placed) → Left v i ys (read (sees is_colon td))
must_colon i ys td = must_see i ys td is_colon (mark m.Colon) colon_is

pub must_while : {s : Symbol} (i : Spot) (ys : List Placed) (td : Todo s) → ((o : Spot) → Reads i ys (is (key While) o) td) → (v : Option Placed) → Left v i ys (read (sees is_while td))
must_while i ys td = must_see i ys td is_while (key While) while_is
