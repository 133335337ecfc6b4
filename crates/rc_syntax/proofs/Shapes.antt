-- How the productions are read: by a word, by a symbol, or by a symbol that goes on with itself.
use Rattle.std.proofs.Common.{ℕ, ◌≡◌, ◌+◌, List, [], ◌∷◌, ◌++◌, length, length-append, Option, Some, None, Bool, true, false, refl, ap, sym, ◌∙◌, subst, arith}
use Rattle.rc_syntax.specs.declared.tree.Spot.{Spot}
use Rattle.rc_syntax.specs.Tokens.{Word}
use Rattle.rc_syntax.specs.Grammar as g
use Rattle.rc_syntax.specs.Grammar.{Symbol, TreeOf, Placed, Part, word, node, BeginAt, adds, reach}
use Rattle.rc_syntax.specs.reader.Todo.{Todo, stop, build, try, enter, peek, begin, resume, Deeper, only, within, is_stop, refuses}
use Rattle.rc_syntax.specs.reader.Reading.{first}
use Rattle.rc_syntax.specs.reader.Steps as steps
use Rattle.rc_syntax.specs.reader.Steps.{Stack, frame, State, about, amid, taken, place, offer, give, closed, step, fed, feed, finish, opened, depth, reached, reach_of}
use Rattle.rc_syntax.proofs.Sound.{Since, since_on, outer, reached_outer}
use Rattle.rc_syntax.proofs.Fronts.{is}
use Rattle.rc_syntax.proofs.Along.{AfterPostfix, Frees, Acts, Leads, Any, Follows, Past, Meets, Met, MeetAll, m_word, m_name, m_node, Along, along, leads_at, on, by_word, same_first, begun_by, acts_past, leads_more, StartsAt, Begun, StartAll, s_word, s_name, s_here, s_later_word, s_later_name, s_later, Sinks, starts_along, sinks_more}

pub same_at : (o i : Spot) (xs ys : List Placed) → Since o xs → BeginAt i (xs ++ ys) → o ≡ i
same_at o i [] ys h b = absurd h
same_at o i (x ∷ xs) ys h b = sym h ∙ b

pub taken_stop : {root s : Symbol} (td : Todo s) (i : Spot) (n : ℕ) (k : Stack root s) → is_stop td ≡ true → taken td i n k ≡ None
taken_stop stop i n k e = refl
taken_stop (build a) i n k e = absurd (cc)
taken_stop (try f td) i n k e = absurd (cc)
taken_stop (enter j h) i n k e = absurd (cc)
taken_stop (peek f) i n k e = absurd (cc)
taken_stop (begin j a h) i n k e = absurd (cc)
taken_stop (resume o m j h td) i n k e = absurd (cc)

-- A word that isn't tried is offered to the rest.
pub skipped : {root s : Symbol} (f : Placed → Todo s) (td : Todo s) (i : Spot) (n : ℕ) (k : Stack root s) (p : Placed) → is_stop (f p) ≡ true → step (amid i (try f td) n k) p ≡ step (amid i td n k) p
skipped f td i n k p e = ap (λ x. steps.first_of x (offer p td i n k (closed p i n k))) (taken_stop (f p) i n k e)

taken_first : {root s : Symbol} (td : Todo s) (i : Spot) (n : ℕ) (k : Stack root s) (y : Option (State root)) → is_stop td ≡ false → steps.first_of (taken td i n k) y ≡ taken td i n k
taken_first stop i n k y e = absurd (cc)
taken_first (build a) i n k y e = refl
taken_first (try f td) i n k y e = refl
taken_first (enter j h) i n k y e = refl
taken_first (peek f) i n k y e = refl
taken_first (begin j a h) i n k y e = refl
taken_first (resume o m j h td) i n k y e = refl

-- A word that goes on with a complete symbol isn't given to what is round it.
pub first_placed : {root s : Symbol} (p : Placed) (d : Deeper s) (i : Spot) (n : ℕ) (k : Stack root s) (y : Option (State root)) → refuses d ≡ false → steps.first_of (place p d i n k) y ≡ place p d i n k
first_placed p (only td) i n k y e = taken_first td i n k y e
first_placed p (within j h d) i n k y e = first_placed p d p.spot 0 (frame i n h k) y e

abbrev pub is_name : Symbol → Bool
is_name g.Name = true
is_name _ = false

-- The words that may follow; a postfix may go on, where the symbol is a unary.
abbrev pub Ends : Bool → (s : Symbol) → TreeOf s → Placed → Type 0
Ends true s a p = AfterPostfix p.word
Ends false s a p = Frees s a p.word

-- A symbol is read from where it is to begin.
abbrev pub MeetsAs : Bool → (s : Symbol) → TreeOf s → List Placed → Type 0
MeetsAs v s a ws = (root : Symbol) (k : Stack root s) → (o : Spot) × Since o ws × Leads (Ends v s a) (about k) ws (amid o (build a) (length ws) k)

pub data Shape : Bool → (s : Symbol) → (Spot → TreeOf s) → List Part → Type 0 where
  with_word : {v : Bool} {s : Symbol} {tree : Spot → TreeOf s} {y : Word} {ps : List Part} (td : Spot → Todo s) →
      ((o : Spot) (root : Symbol) (k : Stack root s) → step (about k) (is y o) ≡ Some (amid o (td o) 1 k)) →
      ((o : Spot) → Along o (tree o) (Ends v s (tree o)) Any (td o) ps) → Shape v s tree (word y ∷ ps)
  with_node : {v : Bool} {s j : Symbol} {tree : Spot → TreeOf s} {c : TreeOf j} {ps : List Part} (h : Spot → TreeOf j → Todo s) →
      is_name j ≡ false → ((xs : List Placed) → Met j c xs → Meets j c xs) → ((xs : List Placed) (d r : ℕ) → Begun j xs d r → StartsAt j xs d r) →
      ((p : Placed) → refuses (first j p) ≡ false → (root : Symbol) (k : Stack root s) → step (about k) p ≡ place p (first j p) p.spot 0 (frame p.spot 0 (h p.spot) k)) →
      ((o : Spot) → Along o (tree o) (Ends v s (tree o)) (Past j c) (h o c) ps) → Shape v s tree (node j c ∷ ps)
  with_itself : {v : Bool} {s : Symbol} {tree : Spot → TreeOf s} {before : TreeOf s} {ps : List Part} →
      is_name s ≡ false → ((xs : List Placed) → Met s before xs → Meets s before xs) → ((xs : List Placed) (d r : ℕ) → Begun s xs d r → StartsAt s xs d r) → adds s ≡ 0 → ((l r : ℕ) → reach s l r ≡ r) →
      ((o : Spot) → Along o (tree o) (Ends v s (tree o)) (Follows s before) (build before) ps) → Shape v s tree (node s before ∷ ps)

meets_along : {s : Symbol} (v : Bool) (tree : Spot → TreeOf s) (o i : Spot) (ws : List Placed) → o ≡ i → MeetsAs v s (tree o) ws → MeetsAs v s (tree i) ws
meets_along {s = s} v tree o i ws e h = let P : Spot → Type 0 = λ x. MeetsAs v s (tree x) ws in subst P e h

-- The first symbol is read from where the whole is to begin.
pub first_read : {root s : Symbol} (j : Symbol) (c : TreeOf j) (h : Spot → TreeOf j → Todo s) (k : Stack root s) (xs : List Placed) → Meets j c xs →
    ((p : Placed) → refuses (first j p) ≡ false → step (about k) p ≡ place p (first j p) p.spot 0 (frame p.spot 0 (h p.spot) k)) →
    (o : Spot) × Since o xs × ((r : State root) × (feed (about k) xs ≡ Some r) × Acts (Past j c) (amid o (h o c) (0 + length xs) k) r)
first_read {root = root} j c h k [] meets enters = let x = meets root (frame (record { place = 0; line = 0 }) 0 (h (record { place = 0; line = 0 })) k) in absurd x.1
first_read {root = root} {s = s} j c h k (p ∷ xs) meets enters =
    let F : Stack root j = frame p.spot 0 (h p.spot) k in
    let x = meets root F in
    let e = begun_by F p xs x.2.0 x.2.1 in
    (p.spot, refl, (x.2.0, same_first (about k) (about F) p xs (enters p e) ∙ x.2.1, acts_past j c x.0 p.spot (length (p ∷ xs)) 0 (h p.spot) k x.2.0 x.2.2))

pub meets_shape : {v : Bool} {s : Symbol} {tree : Spot → TreeOf s} {ps : List Part} {ws : List Placed} (i : Spot) → BeginAt i ws → Shape v s tree ps → MeetAll ws ps → MeetsAs v s (tree i) ws
meets_shape {v = v} {s = s} {tree = tree} i b (with_word {y = y} td enters alongs) (m_word {o = o} {ys = ys} rest) =
    meets_along v tree o i (is y o ∷ ys) b (λ root k.
    let z = along rest o (tree o) (Ends v s (tree o)) Any (td o) 1 k (amid o (td o) 1 k) (alongs o) (λ p f. refl, refl) in
    let many : 1 + length ys ≡ length (is y o ∷ ys) = omega arith in
    (o, refl, leads_at (Ends v s (tree o)) (about k) (is y o ∷ ys) o (tree o) (1 + length ys) (length (is y o ∷ ys)) k many (z.0, by_word (about k) (amid o (td o) 1 k) (is y o) ys (Some z.0) (enters o root k) z.1, z.2)))
meets_shape i b (with_node h not_name plain begun enters alongs) (m_name rest) = absurd (cc)
meets_shape {v = v} {s = s} {tree = tree} i b (with_node {j = j} {c = c} h not_name plain begun enters alongs) (m_node xs {ys = ys} d rest) = λ root k.
    let x = first_read j c h k xs (plain xs d) (λ p e. enters p e root k) in
    let e : x.0 ≡ i = same_at x.0 i xs ys x.1 b in
    let P : Spot → Type 0 = λ u. (o : Spot) × Since o (xs ++ ys) × Leads (Ends v s (tree u)) (about k) (xs ++ ys) (amid o (build (tree u)) (length (xs ++ ys)) k) in
    let z = along rest x.0 (tree x.0) (Ends v s (tree x.0)) (Past j c) (h x.0 c) (0 + length xs) k x.2.0 (alongs x.0) x.2.2 in
    let y = leads_more (Ends v s (tree x.0)) (about k) x.2.0 xs ys x.0 (tree x.0) 0 k x.2.1 z in
    subst P e (x.0, since_on x.0 xs ys x.1, leads_at (Ends v s (tree x.0)) (about k) (xs ++ ys) x.0 (tree x.0) (0 + length (xs ++ ys)) (length (xs ++ ys)) k (omega arith) y)
meets_shape i b (with_itself not_name plain begun adds_none reaches alongs) (m_name rest) = absurd (cc)
meets_shape {v = v} {s = s} {tree = tree} i b (with_itself {before = before} not_name plain begun adds_none reaches alongs) (m_node xs {ys = ys} d rest) = λ root k.
    let x = plain xs d root k in
    let e : x.0 ≡ i = same_at x.0 i xs ys x.1 b in
    let P : Spot → Type 0 = λ u. (o : Spot) × Since o (xs ++ ys) × Leads (Ends v s (tree u)) (about k) (xs ++ ys) (amid o (build (tree u)) (length (xs ++ ys)) k) in
    let z = along rest x.0 (tree x.0) (Ends v s (tree x.0)) (Follows s before) (build before) (length xs) k x.2.0 (alongs x.0) x.2.2 in
    let many : length xs + length ys ≡ length (xs ++ ys) = sym (length-append xs ys) in
    subst P e (x.0, since_on x.0 xs ys x.1, leads_at (Ends v s (tree x.0)) (about k) (xs ++ ys) x.0 (tree x.0) (length xs + length ys) (length (xs ++ ys)) k many (z.0, on (about k) x.2.0 xs ys (Some z.0) x.2.1 z.1, z.2))

pub starts_of : {s : Symbol} (ws : List Placed) (d r : ℕ) → ((root : Symbol) (k : Stack root s) → Sinks s 0 k (about k) ws d r) → StartsAt s ws (adds s + d) (reach s (length ws) r)
starts_of {s = s} ws d r f root k =
    let x = f root k in
    (x.0, x.1, x.2, x.3 ∙ ap (λ m. outer k m (reach s m r)) (let e : 0 + length ws ≡ length ws = omega arith in e))

first_sinks : {root s : Symbol} (j : Symbol) (h : Spot → TreeOf j → Todo s) (k : Stack root s) (p : Placed) (xs : List Placed) (d r : ℕ) → StartsAt j (p ∷ xs) d r →
    ((p : Placed) → refuses (first j p) ≡ false → step (about k) p ≡ place p (first j p) p.spot 0 (frame p.spot 0 (h p.spot) k)) → Sinks s 0 k (about k) (p ∷ xs) d r
first_sinks {root = root} {s = s} j h k p xs d r starts enters =
    let F : Stack root j = frame p.spot 0 (h p.spot) k in
    let x = starts root F in
    let e = begun_by F p xs x.0 x.1 in
    (x.0, same_first (about k) (about F) p xs (enters p e) ∙ x.1, x.2 ∙ omega arith, x.3 ∙ reached_outer k (0 + length (p ∷ xs)) r)

pub starts_shape : {v : Bool} {s : Symbol} {tree : Spot → TreeOf s} {ps : List Part} {ws : List Placed} {d r : ℕ} → Shape v s tree ps → StartAll ws ps d r → StartsAt s ws (adds s + d) (reach s (length ws) r)
starts_shape {v = v} {s = s} (with_word {y = y} td enters alongs) (s_word {o = o}) = λ root k.
    (amid o (td o) 1 k, by_word (about k) (amid o (td o) 1 k) (is y o) [] _ (enters o root k) refl, omega arith, reached_outer k 1 0)
starts_shape {v = v} {s = s} {tree = tree} (with_word {y = y} td enters alongs) (s_later_word {o = o} {ys = ys} {d = d} {r = r} rest) =
    starts_of (is y o ∷ ys) d r (λ root k.
    sinks_more s 0 k (about k) (amid o (td o) 1 k) (is y o ∷ []) ys d r (by_word (about k) (amid o (td o) 1 k) (is y o) [] _ (enters o root k) refl)
    (starts_along rest o (tree o) (Ends v s (tree o)) Any (td o) 1 k (amid o (td o) 1 k) (alongs o) (λ p f. refl, refl)))
starts_shape (with_node h not_name plain begun enters alongs) s_name = absurd (cc)
starts_shape (with_node h not_name plain begun enters alongs) (s_later_name rest) = absurd (cc)
starts_shape {v = v} {s = s} (with_node {j = j} h not_name plain begun enters alongs) (s_here {p = p} {xs = xs} {d = d} {r = r} b) =
    starts_of (p ∷ xs) d r (λ root k. first_sinks j h k p xs d r (begun (p ∷ xs) d r b) (λ q e. enters q e root k))
starts_shape {v = v} {s = s} {tree = tree} (with_node {j = j} {c = c} h not_name plain begun enters alongs) (s_later xs {ys = ys} {d = d} {r = r} e rest) =
    starts_of (xs ++ ys) d r (λ root k.
    let x = first_read j c h k xs (plain xs e) (λ q e. enters q e root k) in
    sinks_more s 0 k (about k) x.2.0 xs ys d r x.2.1 (starts_along rest x.0 (tree x.0) (Ends v s (tree x.0)) (Past j c) (h x.0 c) (0 + length xs) k x.2.0 (alongs x.0) x.2.2))
starts_shape (with_itself not_name plain begun adds_none reaches alongs) s_name = absurd (cc)
starts_shape (with_itself not_name plain begun adds_none reaches alongs) (s_later_name rest) = absurd (cc)
starts_shape {v = v} {s = s} (with_itself not_name plain begun adds_none reaches alongs) (s_here {p = p} {xs = xs} {d = d} {r = r} b) = λ root k.
    let x = begun (p ∷ xs) d r b root k in
    (x.0, x.1, x.2 ∙ omega (arith, adds_none), x.3 ∙ ap (outer k (length (p ∷ xs))) (sym (reaches (length (p ∷ xs)) r)))
starts_shape {v = v} {s = s} {tree = tree} (with_itself {before = before} not_name plain begun adds_none reaches alongs) (s_later xs {ys = ys} {d = d} {r = r} e rest) =
    starts_of (xs ++ ys) d r (λ root k.
    let x = plain xs e root k in
    let many : length xs ≡ 0 + length xs = omega arith in
    let Q : ℕ → Type 0 = λ m. Sinks s m k x.2.0 ys d r in
    sinks_more s 0 k (about k) x.2.0 xs ys d r x.2.1 (subst Q many (starts_along rest x.0 (tree x.0) (Ends v s (tree x.0)) (Follows s before) (build before) (length xs) k x.2.0 (alongs x.0) x.2.2)))
