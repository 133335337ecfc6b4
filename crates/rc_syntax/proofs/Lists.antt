-- How lists whose words may be none are read: stars, the body of a block, the items of a text.
use Rattle.std.proofs.Common.{ℕ, ◌≡◌, ◌+◌, List, [], ◌∷◌, ◌++◌, length, length-append, Option, Some, true, false, refl, ap, sym, ◌∙◌, subst, arith}
use Rattle.rc_syntax.specs.declared.word.Key.{Key}
use Rattle.rc_syntax.specs.declared.word.Key.TheVariants.{Char, Else, Int, ParentPtr, Region, SameRegion, Struct, Traditional, Unsigned}
use Rattle.rc_syntax.specs.declared.word.Mark.TheVariants as m
use Rattle.rc_syntax.specs.declared.tree.Spot.{Spot}
use Rattle.rc_syntax.specs.declared.tree.Note as notes
use Rattle.rc_syntax.specs.declared.tree.Note.TheVariants as n
use Rattle.rc_syntax.specs.Tokens.{Word, mark, key}
use Rattle.rc_syntax.specs.Tree as t
use Rattle.rc_syntax.specs.Grammar as g
use Rattle.rc_syntax.specs.Grammar.{Symbol, TreeOf, Placed, adds, reach, joined, stmts_of}
use Rattle.rc_syntax.specs.reader.Todo.{Todo, build, within, deeper, is_stop, refuses}
use Rattle.rc_syntax.specs.reader.Reading as r
use Rattle.rc_syntax.specs.reader.Reading.{first, tail}
use Rattle.rc_syntax.specs.reader.Steps as reader
use Rattle.rc_syntax.specs.reader.Steps.{Stack, frame, State, about, amid, taken, place, give, step, feed, whole, finish, opened, depth, reached, reach_of}
use Rattle.rc_syntax.proofs.Sound.{outer, reached_outer}
use Rattle.rc_syntax.proofs.Fronts.{is}
use Rattle.rc_syntax.proofs.Along.{comma, close, semicolon, a_name, separates, AfterBase, a_star, a_type, Frees, Past, Meets, MeetsOn, on, by_word, same_first, begun_by, passes_on, StartsAt, StartsOn}
use Rattle.rc_syntax.proofs.Shapes.{skipped, first_placed}
use Rattle.rc_syntax.proofs.Tables.{untrue, BaseWord, w_int, w_unsigned, w_char, w_region, w_struct, base_word}
use Rattle.rc_syntax.proofs.Declarators.{StarsKnown, none, some, stars_met, Light}

abbrev o0 : Spot
o0 = record { place = 0; line = 0 }

-- Another element goes on with the list.
abbrev pub GoesOn : (s j : Symbol) → TreeOf s → (TreeOf j → Todo s) → Type 0
GoesOn s j before h = (p : Placed) → refuses (first j p) ≡ false → (root : Symbol) (o : Spot) (n : ℕ) (k : Stack root s) → step (amid o (build before) n k) p ≡ place p (first j p) p.spot 0 (frame o n h k)

pub list_on : (s j : Symbol) (c0 before a : TreeOf s) (c : TreeOf j) (h : TreeOf j → Todo s) (xs ys : List Placed) → h c ≡ build a → MeetsOn s c0 before xs → Meets j c ys →
    ((p : Placed) → refuses (first j p) ≡ false → Frees s before p.word) → GoesOn s j before h → ((p : Placed) → Frees s a p.word → Past j c p) → MeetsOn s c0 a (xs ++ ys)
list_on s j c0 before a c h xs ys built meets element may goes ends root k q f e = go ys element (meets root k q f e)
  where
    go : (ys : List Placed) → Meets j c ys → ((r : State root) × (feed q xs ≡ Some r) × ((p : Placed) → Frees s before p.word → (o : Spot) × (step r p ≡ step (amid o (build before) (length xs) k) p)) × (finish r ≡ whole k before)) →
        (r : State root) × (feed q (xs ++ ys) ≡ Some r) × ((p : Placed) → Frees s a p.word → (o : Spot) × (step r p ≡ step (amid o (build a) (length (xs ++ ys)) k) p)) × (finish r ≡ whole k a)
    go [] element x = absurd ((element root (frame o0 0 h k)).1)
    go (p ∷ ps) element x =
        let F0 : Stack root j = frame o0 0 h k in
        let y0 = element root F0 in
        let starts = begun_by F0 p ps y0.2.0 y0.2.1 in
        let z = x.2 p (may p starts) in
        let F : Stack root j = frame z.0 (length xs) h k in
        let y = element root F in
        let enters : step x.0 p ≡ step (about F) p = z.1 ∙ goes p starts root z.0 (length xs) k in
        let l = length (p ∷ ps) in
        let N = length (xs ++ p ∷ ps) in
        let many : length xs + l ≡ N = sym (length-append xs (p ∷ ps)) in (
          y.2.0,
          on q x.0 xs (p ∷ ps) (Some y.2.0) x.1 (same_first x.0 (about F) p ps enters ∙ y.2.1),
          λ u v. let past = ends u v in (z.0, y.2.2.0 u past.0 ∙ passes_on j y.0 z.0 c l (length xs) h k u (past.1 y.0) ∙ ap (λ td. step (amid z.0 td (length xs + l) k) u) built ∙ ap (λ i. step (amid z.0 (build a) i k) u) many),
          y.2.2.1 ∙ ap (λ td. reader.last td (whole k)) built,
        )

pub list_starts : (s j : Symbol) (c0 before : TreeOf s) (h : TreeOf j → Todo s) (xs ys : List Placed) (d u : ℕ) → Light s → (ys ≡ [] → ⊥) → MeetsOn s c0 before xs → StartsAt j ys d u →
    ((p : Placed) → refuses (first j p) ≡ false → Frees s before p.word) → GoesOn s j before h → StartsOn s c0 (xs ++ ys) (0 + d) u
list_starts s j c0 before h xs [] d u light full meets element may goes root k q f e = absurd (full refl)
list_starts s j c0 before h xs (p ∷ ps) d u light full meets element may goes root k q f e =
    let x = meets root k q f e in
    let F0 : Stack root j = frame o0 0 h k in
    let y0 = element root F0 in
    let starts = begun_by F0 p ps y0.0 y0.1 in
    let z = x.2 p (may p starts) in
    let F : Stack root j = frame z.0 (length xs) h k in
    let y = element root F in
    let enters : step x.0 p ≡ step (about F) p = z.1 ∙ goes p starts root z.0 (length xs) k in
    let l = length (p ∷ ps) in
    let N = length (xs ++ p ∷ ps) in
    let many : length xs + l ≡ N = sym (length-append xs (p ∷ ps)) in
    (y.0, on q x.0 xs (p ∷ ps) (Some y.0) x.1 (same_first x.0 (about F) p ps enters ∙ y.1), y.2 ∙ omega (arith, light.0), y.3 ∙ reached_outer k (length xs + l) u ∙ ap (outer k (length xs + l)) (light.1 (length xs + l) u) ∙ ap (λ i. outer k i u) many)

-- The items of a text.
pub text_goes : (before : List t.Item) → GoesOn g.Text g.Item before (λ js. build (before ++ js))
text_goes before p e root o n k = first_placed p (within g.Item (λ js. build (before ++ js)) (r.item p)) o n k (give p k n before) e

-- The body of a block.
not_else : (y : Word) → BaseWord y → r.is_else y ≡ false
not_else _ w_int = refl
not_else _ w_unsigned = refl
not_else _ w_char = refl
not_else _ w_region = refl
not_else _ w_struct = refl

pub locals_may : (p : Placed) → refuses (first g.Locals p) ≡ false → r.is_else p.word ≡ false
locals_may p e = not_else p.word (base_word p.spot p.word e)

stmt_word : (o : Spot) (y : Word) → refuses (first g.Stmt (is y o)) ≡ false → (is_stop (r.base_in o y) ≡ true) × (r.is_else y ≡ false)
stmt_word o (key Int) e = absurd (untrue e)
stmt_word o (key Unsigned) e = absurd (untrue e)
stmt_word o (key Char) e = absurd (untrue e)
stmt_word o (key Region) e = absurd (untrue e)
stmt_word o (key Struct) e = absurd (untrue e)
stmt_word o (key Else) e = absurd (untrue e)
stmt_word o y e = (refl, refl)

pub stmt_may : (p : Placed) → refuses (first g.Stmt p) ≡ false → r.is_else p.word ≡ false
stmt_may p e = (stmt_word p.spot p.word e).1

pub locals_go : (before : t.Stmts) → GoesOn g.Body g.Locals before (λ ls. build (joined before (stmts_of ls)))
locals_go before p e root o n k =
    let l = within g.Locals (λ ls. build (joined before (stmts_of ls))) (r.locals p) in
    let z = within g.Stmt (λ z. build (joined before (t.next z t.done))) (r.stmt p) in
    ap (λ v. reader.first_of (place p (deeper v l z) o n k) (give p k n before)) e ∙ first_placed p l o n k (give p k n before) e

pub stmts_go : (before : t.Stmts) → GoesOn g.Body g.Stmt before (λ z. build (joined before (t.next z t.done)))
stmts_go before p e root o n k =
    let l = within g.Locals (λ ls. build (joined before (stmts_of ls))) (r.locals p) in
    let z = within g.Stmt (λ z. build (joined before (t.next z t.done))) (r.stmt p) in
    ap (λ v. reader.first_of (place p (deeper v l z) o n k) (give p k n before)) ((stmt_word p.spot p.word e).0) ∙ first_placed p z o n k (give p k n before) e

-- Stars.
abbrev after_star : {root : Symbol} → Spot → Spot → List notes.Note → ℕ → Stack root g.Stars → State root
after_star o q ns i k = amid {s = g.Star (length ns + 1)} q (build (tt {0})) 1 (frame {i = g.Star (length ns + 1)} o i (r.starred ns) k)

star_step : {root : Symbol} (o q : Spot) (ns : List notes.Note) (n : ℕ) (k : Stack root g.Stars) → step (amid o (build ns) n k) (is (mark m.Star) q) ≡ Some (after_star o q ns n k)
star_step o q ns n k = refl

not_noted : (ns : List notes.Note) (y : Word) → AfterBase y → is_stop (r.noted ns y) ≡ true
not_noted ns _ a_star = refl
not_noted ns _ (a_type a_name) = refl
not_noted ns _ (a_type (separates comma)) = refl
not_noted ns _ (a_type (separates close)) = refl
not_noted ns _ (a_type (separates semicolon)) = refl

plain_on : (ns : List notes.Note) (xs : List Placed) (q0 : Spot) → MeetsOn g.Stars [] ns xs → MeetsOn g.Stars [] (ns ++ n.Plain ∷ []) (xs ++ is (mark m.Star) q0 ∷ [])
plain_on ns xs q0 meets root k q f e =
    let x = meets root k q f e in
    let z = x.2 (is (mark m.Star) q0) a_star in
    let N = length (xs ++ is (mark m.Star) q0 ∷ []) in
    let many : length xs + 1 ≡ N = sym (length-append xs (is (mark m.Star) q0 ∷ [])) in
    let y = after_star z.0 q0 ns (length xs) k in (
      y,
      on q x.0 xs (is (mark m.Star) q0 ∷ []) (Some y) x.1 (by_word x.0 y (is (mark m.Star) q0) [] _ (z.1 ∙ star_step z.0 q0 ns (length xs) k) refl),
      λ p h. (
        z.0,
        passes_on (g.Star (length ns + 1)) q0 z.0 (tt {0}) 1 (length xs) (r.starred ns) k p refl
            ∙ skipped (λ u. r.noted ns u.word) (build (ns ++ n.Plain ∷ [])) z.0 (length xs + 1) k p (not_noted ns p.word h) ∙ ap (λ i. step (amid z.0 (build (ns ++ n.Plain ∷ [])) i k) p) many,
      ),
      refl,
    )

noted_is : (ns : List notes.Note) (note : notes.Note) (i : Key) → g.note_of note ≡ Some i → r.noted ns (key i) ≡ build (ns ++ note ∷ [])
noted_is ns n.Plain i e = absurd (cc)
noted_is ns n.SameRegion i e = let h : SameRegion ≡ i = cc in let P : Key → Type 0 = λ x. r.noted ns (key x) ≡ build (ns ++ n.SameRegion ∷ []) in subst P h refl
noted_is ns n.ParentPtr i e = let h : ParentPtr ≡ i = cc in let P : Key → Type 0 = λ x. r.noted ns (key x) ≡ build (ns ++ n.ParentPtr ∷ []) in subst P h refl
noted_is ns n.Traditional i e = let h : Traditional ≡ i = cc in let P : Key → Type 0 = λ x. r.noted ns (key x) ≡ build (ns ++ n.Traditional ∷ []) in subst P h refl

note_step : {root : Symbol} (o q0 q1 : Spot) (ns : List notes.Note) (note : notes.Note) (i : Key) (l : ℕ) (k : Stack root g.Stars) → g.note_of note ≡ Some i →
    step (after_star o q0 ns l k) (is (key i) q1) ≡ Some (amid o (build (ns ++ note ∷ [])) (l + 1 + 1) k)
note_step {root = root} o q0 q1 ns note i l k e =
    let p = is (key i) q1 in
    let back : Option (State root) = reader.offer p (build (ns ++ n.Plain ∷ [])) o (l + 1) k (reader.closed p o (l + 1) k) in
    passes_on (g.Star (length ns + 1)) q0 o (tt {0}) 1 l (r.starred ns) k p refl ∙ ap (λ td. reader.first_of (taken td o (l + 1) k) back) (noted_is ns note i e)

noted_on : (ns : List notes.Note) (note : notes.Note) (i : Key) (xs : List Placed) (q0 q1 : Spot) → g.note_of note ≡ Some i → MeetsOn g.Stars [] ns xs → MeetsOn g.Stars [] (ns ++ note ∷ []) (xs ++ (is (mark m.Star) q0 ∷ is (key i) q1 ∷ []))
noted_on ns note i xs q0 q1 g_note meets root k q f e =
    let x = meets root k q f e in
    let z = x.2 (is (mark m.Star) q0) a_star in
    let zs : List Placed = is (mark m.Star) q0 ∷ is (key i) q1 ∷ [] in
    let N = length (xs ++ zs) in
    let many : length xs + 1 + 1 ≡ N = (let h : N ≡ length xs + 2 = length-append xs zs in omega arith) in
    let y = after_star z.0 q0 ns (length xs) k in
    let v = amid z.0 (build (ns ++ note ∷ [])) (length xs + 1 + 1) k in (
      v,
      on q x.0 xs zs (Some v) x.1 (by_word x.0 y (is (mark m.Star) q0) (is (key i) q1 ∷ []) _ (z.1 ∙ star_step z.0 q0 ns (length xs) k) (by_word y v (is (key i) q1) [] _ (note_step z.0 q0 q1 ns note i (length xs) k g_note) refl)),
      λ p h. (z.0, ap (λ c. step (amid z.0 (build (ns ++ note ∷ [])) c k) p) many),
      refl,
    )

pub plain_known : (ns : List notes.Note) (xs : List Placed) (q0 : Spot) → StarsKnown ns xs → StarsKnown (ns ++ n.Plain ∷ []) (xs ++ is (mark m.Star) q0 ∷ [])
plain_known ns xs q0 none = some (plain_on [] [] q0 (stars_met [] [] none))
plain_known ns xs q0 (some {o = o} {rest = rest} d) = some (plain_on ns (is (mark m.Star) o ∷ rest) q0 d)

pub noted_known : (ns : List notes.Note) (note : notes.Note) (i : Key) (xs : List Placed) (q0 q1 : Spot) → g.note_of note ≡ Some i → StarsKnown ns xs → StarsKnown (ns ++ note ∷ []) (xs ++ (is (mark m.Star) q0 ∷ is (key i) q1 ∷ []))
noted_known ns note i xs q0 q1 e none = some (noted_on [] note i [] q0 q1 e (stars_met [] [] none))
noted_known ns note i xs q0 q1 e (some {o = o} {rest = rest} d) = some (noted_on ns note i (is (mark m.Star) o ∷ rest) q0 q1 e d)

pub star_starts : (ns : List notes.Note) (xs : List Placed) (q0 : Spot) → MeetsOn g.Stars [] ns xs → StartsOn g.Stars [] (xs ++ is (mark m.Star) q0 ∷ []) (0 + (length ns + 1 + 0)) 0
star_starts ns xs q0 meets root k q f e =
    let x = meets root k q f e in
    let z = x.2 (is (mark m.Star) q0) a_star in
    let y = after_star z.0 q0 ns (length xs) k in
    let many : length xs + 1 ≡ length (xs ++ is (mark m.Star) q0 ∷ []) = sym (length-append xs (is (mark m.Star) q0 ∷ [])) in
    (y, on q x.0 xs (is (mark m.Star) q0 ∷ []) (Some y) x.1 (by_word x.0 y (is (mark m.Star) q0) [] _ (z.1 ∙ star_step z.0 q0 ns (length xs) k) refl), omega arith, reached_outer k (length xs + 1) 0 ∙ ap (λ i. outer k i 0) many)

pub note_starts : (ns : List notes.Note) (note : notes.Note) (i : Key) (xs : List Placed) (q0 q1 : Spot) → g.note_of note ≡ Some i → MeetsOn g.Stars [] ns xs → StartsOn g.Stars [] (xs ++ (is (mark m.Star) q0 ∷ is (key i) q1 ∷ [])) 0 0
note_starts ns note i xs q0 q1 g_note meets root k q f e =
    let x = meets root k q f e in
    let z = x.2 (is (mark m.Star) q0) a_star in
    let zs : List Placed = is (mark m.Star) q0 ∷ is (key i) q1 ∷ [] in
    let y = after_star z.0 q0 ns (length xs) k in
    let v = amid z.0 (build (ns ++ note ∷ [])) (length xs + 1 + 1) k in
    let many : length xs + 1 + 1 ≡ length (xs ++ zs) = (let h : length (xs ++ zs) ≡ length xs + 2 = length-append xs zs in omega arith) in
    (v, on q x.0 xs zs (Some v) x.1 (by_word x.0 y (is (mark m.Star) q0) (is (key i) q1 ∷ []) _ (z.1 ∙ star_step z.0 q0 ns (length xs) k) (by_word y v (is (key i) q1) [] _ (note_step z.0 q0 q1 ns note i (length xs) k g_note) refl)), omega arith, reached_outer k (length xs + 1 + 1) 0 ∙ ap (λ c. outer k c 0) many)
