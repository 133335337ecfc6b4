-- The run of the reader is what the grammar says: the longest stretch that begins, its tree, or the first word too deep.
use Rattle.std.proofs.Common.{ℕ, ◌≡◌, ◌≤◌, ◌+◌, List, [], ◌∷◌, ◌++◌, append_assoc, append-nil, length, length-append, Option, Some, None, Bool, true, false, cond, refl, ap, sym, ◌∙◌, subst, arith, ◌⊎◌, inl, inr, nat_lt, ◌||◌}
use Rattle.std.proofs.lemmas.Bool.Decides.{nat_tests}
use Rattle.rc_syntax.specs.Grammar as g
use Rattle.rc_syntax.specs.Grammar.{Symbol, TreeOf, Placed, node, Derives, by, done, Begins}
use Rattle.rc_syntax.specs.reader.Steps.{bottom, State, entry, step, fed, feed, finish, depth, reach_of, Answer, Accepts, Refuses, Sinks, verdict, too_deep, next, run}
use Rattle.rc_syntax.specs.Place.{Stretch, TooDeep, Shallow, IsRead, IsRefused, IsTooDeep}
use Rattle.rc_syntax.proofs.Sound as sound
use Rattle.rc_syntax.proofs.Sound.{Holds, h_about, h_amid, o_bottom, anyhow, Done}
use Rattle.rc_syntax.proofs.Firsts.{firsts, tails}
use Rattle.rc_syntax.proofs.Along.{on}
use Rattle.rc_syntax.proofs.Meets.{meets}
use Rattle.rc_syntax.proofs.Starts.{starts, some_begin}

-- The symbols that words are read as by themselves.
pub data Root : Symbol → Type 0 where
  of_text : Root g.Text
  of_expression : Root (g.Level 0)
  of_unary : Root g.Unary

some_is : {A : Type 0} {x y : A} → Some x ≡ Some y → x ≡ y
some_is e = cc

none_some : {A : Type 0} {x : A} → None ≡ Some x → ⊥
none_some e = cc

-- What is known before the first word.
pub held : (root : Symbol) → Root root → Holds root [] (entry root)
held _ of_text = h_amid {e = anyhow} [] (o_bottom (λ o zs x. tt)) (λ us. tt) (λ w. by {at = record { place = 0; line = 0 }} tt g.no_items done)
held _ of_expression = h_about refl (o_bottom (λ o zs x. x))
held _ of_unary = h_about refl (o_bottom (λ o zs x. x))

-- A beginning leads to one state, and its depth and reach are that state's.
pub led : (root : Symbol) → Root root → {ws : List Placed} {d u : ℕ} → Begins ws root d u → (q : State root) × (feed (entry root) ws ≡ Some q) × (depth q ≡ d) × (reach_of q ≡ u)
led _ of_text b = let x = starts b g.Text bottom (entry g.Text) (λ p f. (record { place = 0; line = 0 }, refl)) refl in (x.0, x.1, x.2 ∙ omega arith, x.3)
led _ of_expression b = let x = (starts b).0 (g.Level 0) bottom in (x.0, x.1, x.2 ∙ omega arith, x.3)
led _ of_unary b = let x = (starts b).0 g.Unary bottom in (x.0, x.1, x.2 ∙ omega arith, x.3)

pub parsed : (root : Symbol) → Root root → {ws : List Placed} {a : TreeOf root} → Derives ws (node root a) → (q : State root) × (feed (entry root) ws ≡ Some q) × (finish q ≡ Some a)
parsed _ of_text d = let x = meets d g.Text bottom (entry g.Text) (λ p f. (record { place = 0; line = 0 }, refl)) refl in (x.0, x.1, x.3)
parsed _ of_expression d = let x = (meets d).0 (g.Level 0) bottom in (x.2.0, x.2.1, x.2.2.1)
parsed _ of_unary d = let x = meets d g.Unary bottom in (x.2.0, x.2.1, x.2.2.1)

derives_of : (root : Symbol) → Root root → {ws : List Placed} (q : State root) (a : TreeOf root) → Holds root ws q → finish q ≡ Some a → Derives ws (node root a)
derives_of _ of_text q a h e = sound.finish_done firsts tails q a h e
derives_of _ of_expression q a h e = (sound.finish_done firsts tails q a h e).low
derives_of _ of_unary q a h e = (sound.finish_done firsts tails q a h e).whole

-- All beginnings of the same words agree on the depth and the reach of the last.
pub one_depth : (root : Symbol) → Root root → {ws : List Placed} {d e u v : ℕ} → Begins ws root d u → Begins ws root e v → (d ≡ e) × (u ≡ v)
one_depth root r x y =
    let p = led root r x in
    let q = led root r y in
    let same = some_is (sym p.1 ∙ q.1) in
    (sym p.2 ∙ ap depth same ∙ q.2, sym p.3 ∙ ap reach_of same ∙ q.3)

-- Words have one tree.
pub one_tree : (root : Symbol) → Root root → {ws : List Placed} {a c : TreeOf root} → Derives ws (node root a) → Derives ws (node root c) → a ≡ c
one_tree root r x y =
    let p = parsed root r x in
    let q = parsed root r y in
    some_is (sym p.2 ∙ ap finish (some_is (sym p.1 ∙ q.1)) ∙ q.2)

abbrev pub Means : ℕ → (root : Symbol) → List Placed → Answer root → Type 0
Means round root words (Accepts a rest) = IsRead round root words a rest
Means round root words (Refuses rest) = IsRefused round root words rest
Means round root words (Sinks rest) = IsTooDeep round root words rest

-- Of two fronts of a list one is a front of the other.
fronts : (xs l ys zs : List Placed) → xs ++ l ≡ ys ++ zs → ((us : List Placed) × (xs ≡ ys ++ us) × (zs ≡ us ++ l)) ⊎ ((u : Placed) × (us : List Placed) × (ys ≡ xs ++ u ∷ us) × (l ≡ u ∷ us ++ zs))
fronts xs l [] zs e = inl (xs, refl, sym e)
fronts [] l (y ∷ ys) zs e = inr (y, ys, refl, e)
fronts (x ∷ xs) l (y ∷ ys) zs e =
    let h : x ≡ y = cc in
    let i : xs ++ l ≡ ys ++ zs = cc in
    elim (fronts xs l ys zs i) [
      | inl p ↦ inl (p.0, (let j : xs ≡ ys ++ p.0 = p.1 in cc), p.2)
      | inr p ↦ inr (p.0, p.1, (let j : ys ≡ xs ++ p.0 ∷ p.1 = p.2 in cc), p.3)
    ]

longer_front : (xs ys us : List Placed) → xs ≡ ys ++ us → length ys ≤ length xs
longer_front xs ys us e = omega (arith, ap length e, length-append ys us)

nil_left : (xs ys : List Placed) → [] ≡ xs ++ ys → xs ≡ []
nil_left [] ys e = refl
nil_left (x ∷ xs) ys e = absurd (cc)

too_deep_is : (round d u : ℕ) → (nat_lt 200 (round + d) || nat_lt 1024 u) ≡ true → TooDeep round d u
too_deep_is round d u e = go (nat_lt 200 (round + d)) (nat_lt 1024 u) refl refl e
  where
    go : (a c : Bool) → nat_lt 200 (round + d) ≡ a → nat_lt 1024 u ≡ c → (a || c) ≡ true → TooDeep round d u
    go true c h i j = inl (grind (arith, nat_tests))
    go false true h i j = inr (grind (arith, nat_tests))
    go false false h i j = absurd (cc)

shallow_is : (round d u : ℕ) → (nat_lt 200 (round + d) || nat_lt 1024 u) ≡ false → (round + d ≤ 200) × (u ≤ 1024)
shallow_is round d u e = go (nat_lt 200 (round + d)) (nat_lt 1024 u) refl refl e
  where
    go : (a c : Bool) → nat_lt 200 (round + d) ≡ a → nat_lt 1024 u ≡ c → (a || c) ≡ false → (round + d ≤ 200) × (u ≤ 1024)
    go true c h i j = absurd (cc)
    go false true h i j = absurd (cc)
    go false false h i j = (grind (arith, nat_tests), grind (arith, nat_tests))

last_one : (xs : List Placed) (p : Placed) (ps : List Placed) → (ys : List Placed) × (q : Placed) × (xs ++ p ∷ ps ≡ ys ++ q ∷ [])
last_one xs p [] = (xs, p, refl)
last_one xs p (q ∷ ps) = let x = last_one (xs ++ p ∷ []) q ps in (x.0, x.1, sym (append_assoc xs (p ∷ []) (q ∷ ps)) ∙ x.2)

last_step : {root : Symbol} (o : Option (State root)) (s : State root) → fed (λ v. Some v) o ≡ Some s → o ≡ Some s
last_step None s g = absurd (none_some g)
last_step (Some v) s g = g

fed_some : {A B : Type 0} (o : Option A) (f : A → Option B) (r : B) → fed f o ≡ Some r → (q : A) × (o ≡ Some q) × (f q ≡ Some r)
fed_some None f r e = absurd (none_some e)
fed_some (Some q) f r e = (q, refl, e)

feed_cut : {root : Symbol} (q s : State root) (ys : List Placed) (z : Placed) → feed q (ys ++ z ∷ []) ≡ Some s → (v : State root) × (feed q ys ≡ Some v) × (step v z ≡ Some s)
feed_cut q s [] z f = (q, refl, last_step (step q z) s f)
feed_cut q s (y ∷ ys) z f =
    let x = fed_some (step q y) (λ v. feed v (ys ++ z ∷ [])) s f in
    let v = feed_cut x.0 s ys z x.2 in
    (v.0, ap (fed (λ u. feed u ys)) x.1 ∙ v.1, v.2)

module _ (round : ℕ) (root : Symbol) (known : Root root) where
  begun : (ws : List Placed) (s : State root) → feed (entry root) ws ≡ Some s → (ws ≡ []) ⊎ ((d u : ℕ) × Begins ws root d u)
  begun [] s e = inl refl
  begun (p ∷ ps) s e =
      let x = last_one [] p ps in
      let y = feed_cut (entry root) s x.0 x.1 (ap (feed (entry root)) (sym x.2) ∙ e) in
      let B : List Placed → Type 0 = λ l. Begins l root (depth s) (reach_of s) in
      inr (depth s, reach_of s, subst B (sym x.2) (sound.step_begins firsts tails y.0 s x.1 (sound.feed_holds firsts tails [] x.0 (entry root) y.0 (held root known) y.1) y.2))

  -- What was read up to a state where it stops.
  stopped : (xs ws : List Placed) (s : State root) → feed (entry root) xs ≡ Some s → Holds root xs s → Shallow round root xs → Stretch root (xs ++ ws) xs ws →
      (o : Option (TreeOf root)) → finish s ≡ o → Means round root (xs ++ ws) (verdict ws o)
  stopped xs ws s e h l x (Some a) f = (xs, x, l, derives_of root known s a h f)
  stopped xs ws s e h l x None f = (xs, x, l, λ a d. let p = parsed root known d in none_some (sym f ∙ ap finish (some_is (sym e ∙ p.1)) ∙ p.2))

  deeper : (xs ws : List Placed) (w : Placed) (s r : State root) → Holds root xs s → step s w ≡ Some r → Shallow round root xs →
      ((round + depth r ≤ 200) × (reach_of r ≤ 1024) → Means round root (xs ++ w ∷ ws) (run round r ws)) →
      (v : Bool) → too_deep round r ≡ v → Means round root (xs ++ w ∷ ws) (cond v (Sinks (w ∷ ws)) (run round r ws))
  deeper xs ws w s r h e l go true f = (xs, w, ws, depth r, reach_of r, refl, refl, sound.step_begins firsts tails s r w h e, too_deep_is round (depth r) (reach_of r) f, l)
  deeper xs ws w s r h e l go false f = go (shallow_is round (depth r) (reach_of r) f)

  shallow_on : (xs : List Placed) (w : Placed) (r : State root) → feed (entry root) (xs ++ w ∷ []) ≡ Some r → Shallow round root xs → (round + depth r ≤ 200) × (reach_of r ≤ 1024) → Shallow round root (xs ++ w ∷ [])
  shallow_on xs w r e l h = λ ys zs d u i x.
      elim (fronts xs (w ∷ []) ys zs i) [
        | inl p ↦ l ys p.0 d u p.1 x
        | inr p ↦
            let n : p.1 ≡ [] = nil_left p.1 zs (let j : w ∷ [] ≡ p.0 ∷ p.1 ++ zs = p.3 in cc) in
            let q = led root known x in
            let same : ys ≡ xs ++ w ∷ [] = p.2 ∙ (let j : w ∷ [] ≡ p.0 ∷ p.1 ++ zs = p.3 in let k : w ≡ p.0 = cc in ap (λ v. xs ++ v) (let m : p.0 ∷ p.1 ≡ w ∷ [] = cc in m)) in
            let state : r ≡ q.0 = some_is (sym e ∙ sym (ap (feed (entry root)) same) ∙ q.1) in
            let g : depth r ≡ d = ap depth state ∙ q.2 in
            let f : reach_of r ≡ u = ap reach_of state ∙ q.3 in
            (let a = h.0 in omega arith, let a = h.1 in omega arith)
      ]

  no_more : (xs ws : List Placed) (w : Placed) (s : State root) → feed (entry root) xs ≡ Some s → step s w ≡ None → (ys zs : List Placed) (d u : ℕ) → xs ++ w ∷ ws ≡ ys ++ zs → Begins ys root d u → length ys ≤ length xs
  no_more xs ws w s e f ys zs d u i x =
      elim (fronts xs (w ∷ ws) ys zs i) [
        | inl p ↦ longer_front xs ys p.0 p.1
        | inr p ↦
            let q = led root known x in
            let k : w ≡ p.0 = (let j : w ∷ ws ≡ p.0 ∷ p.1 ++ zs = p.3 in cc) in
            let g : feed (entry root) (xs ++ p.0 ∷ p.1) ≡ None = on (entry root) s xs (p.0 ∷ p.1) None e (ap (fed (λ v. feed v p.1)) (ap (step s) (sym k) ∙ f)) in
            absurd (none_some (sym g ∙ sym (ap (feed (entry root)) p.2) ∙ q.1))
      ]

  means_from : (ws xs : List Placed) (s : State root) → feed (entry root) xs ≡ Some s → Holds root xs s → Shallow round root xs → Means round root (xs ++ ws) (run round s ws)
  means_from [] xs s e h l =
      stopped xs [] s e h l (record { cut = refl; begun = begun xs s e; longest = λ ys zs d u i x. longer_front xs ys zs (sym (append-nil xs) ∙ i) }) (finish s) refl
  means_from (w ∷ ws) xs s e h l =
      decide (λ r f g. let P : List Placed → Type 0 = λ v. Means round root v (run round r ws) in
      subst P (append_assoc xs (w ∷ []) ws) (means_from ws (xs ++ w ∷ []) r (walked r f) (sound.feed_holds firsts tails xs (w ∷ []) s r h (ap (fed (λ v. feed v [])) f)) (shallow_on xs w r (walked r f) l g)))
      (step s w) refl
    where
      walked : (r : State root) → step s w ≡ Some r → feed (entry root) (xs ++ w ∷ []) ≡ Some r
      walked r f = on (entry root) s xs (w ∷ []) (Some r) e (ap (fed (λ v. feed v [])) f)

      decide : ((r : State root) → step s w ≡ Some r → (round + depth r ≤ 200) × (reach_of r ≤ 1024) → Means round root (xs ++ w ∷ ws) (run round r ws)) →
          (o : Option (State root)) → step s w ≡ o → Means round root (xs ++ w ∷ ws) (next round (w ∷ ws) (finish s) (λ r. run round r ws) o)
      decide go None f = stopped xs (w ∷ ws) s e h l (record { cut = refl; begun = begun xs s e; longest = λ ys zs d u i x. no_more xs ws w s e f ys zs d u i x }) (finish s) refl
      decide go (Some r) f = deeper xs ws w s r h f l (go r f) (too_deep round r) refl

  pub means : (words : List Placed) → Means round root words (run round (entry root) words)
  means words = means_from words [] (entry root) refl (held root known) (λ ys zs d u i x. absurd (some_begin x (nil_left ys zs i)))

-- Of a whole text: all the words are its tree, or they have none.
abbrev pub MeansAll : List Placed → Answer g.Text → Type 0
MeansAll words (Accepts a []) = Derives words (node g.Text a) × Shallow 0 g.Text words
MeansAll words (Accepts a (p ∷ rest)) = (front : List Placed) × Stretch g.Text words front (p ∷ rest) × Shallow 0 g.Text front × ((c : TreeOf g.Text) → Derives words (node g.Text c) → ⊥)
MeansAll words (Refuses rest) = (front : List Placed) × Stretch g.Text words front rest × Shallow 0 g.Text front × ((c : TreeOf g.Text) → Derives words (node g.Text c) → ⊥)
MeansAll words (Sinks rest) = IsTooDeep 0 g.Text words rest

-- Words that go on behind the longest stretch have no tree.
no_tree : (words front : List Placed) (p : Placed) (rest : List Placed) → Stretch g.Text words front (p ∷ rest) → (c : TreeOf g.Text) → Derives words (node g.Text c) → ⊥
no_tree words front p rest stretch c d =
    let x = parsed g.Text of_text d in
    elim (begun 0 g.Text of_text words x.0 x.1) [
      | inl e ↦ some_words front p rest (sym stretch.cut ∙ e)
      | inr b ↦
          let h : length words ≤ length front = stretch.longest words [] b.0 b.1 (sym (append-nil words)) b.2 in
          let e : length words ≡ length (front ++ p ∷ rest) = ap length stretch.cut in
          let f : length (front ++ p ∷ rest) ≡ length front + length (p ∷ rest) = length-append front (p ∷ rest) in
          let k : length (p ∷ rest) ≡ 1 + length rest = omega arith in
          omega arith
    ]
  where
    some_words : (xs : List Placed) (p : Placed) (ys : List Placed) → xs ++ p ∷ ys ≡ [] → ⊥
    some_words [] p ys e = cc
    some_words (x ∷ xs) p ys e = cc

all_of : (words : List Placed) (a : Answer g.Text) → Means 0 g.Text words a → MeansAll words a
all_of words (Accepts a []) x =
    let e : words ≡ x.0 = x.1.cut ∙ append-nil x.0 in
    let P : List Placed → Type 0 = λ l. Derives l (node g.Text a) × Shallow 0 g.Text l in
    subst P (sym e) (x.3, x.2)
all_of words (Accepts a (p ∷ rest)) x = (x.0, x.1, x.2, no_tree words x.0 p rest x.1)
all_of words (Refuses []) x =
    let e : words ≡ x.0 = x.1.cut ∙ append-nil x.0 in
    let P : List Placed → Type 0 = λ l. (c : TreeOf g.Text) → Derives l (node g.Text c) → ⊥ in
    (x.0, x.1, x.2, subst P (sym e) x.3)
all_of words (Refuses (p ∷ rest)) x = (x.0, x.1, x.2, no_tree words x.0 p rest x.1)
all_of words (Sinks rest) x = x

pub text_means : (words : List Placed) → MeansAll words (run 0 (entry g.Text) words)
text_means words = all_of words (run 0 (entry g.Text) words) (means 0 g.Text of_text words)
