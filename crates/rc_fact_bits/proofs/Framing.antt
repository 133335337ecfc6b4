-- Frames that are put one behind another.
use Rattle.std.proofs.Common.{◌≡◌, ◌≢◌, ◌∙◌, ◌⊎◌, inl, inr, ℕ, zero, suc, ◌+◌, ◌-◌, ◌<◌, ◌≤◌, if◌then◌else◌, ◌++◌, ◌∷◌, [], Bool, true, false, ◌&&◌, ◌||◌, nat_eq, nat_lt, List, length, get_or, refl, sym, ap, subst, arith}
use Rattle.std.specs.List.{list_any, AllByRecursion as Every}
use Rattle.std.proofs.lemmas.Bool.{cases_lt, cases_eq, lt-ltb}
use Rattle.rc_facts.specs.declared.fact.Fact.{Fact}
use Rattle.rc_facts.specs.Facts.{Known, holds, is_over}
use Rattle.rc_facts.specs.Flow.{no_set, set_at}
use Rattle.rc_claims.specs.declared.proofs.Frame.{Frame}
use Rattle.rc_claims.specs.Counts.{trues, one_if}
use Rattle.rc_claims.specs.Bits.{claims, BitsFit}
use Rattle.rc_claims.specs.Claims.{frame_facts, AreInOrder}
use Rattle.rc_fact_bits.specs.Framing.{AreFramesOf, IsFrameOf}

-- ---- numbers of targets

trues_zero : (bs : List Bool) → trues bs 0 ≡ 0
trues_zero [] = refl
trues_zero (b ∷ bs) = refl

pub trues_next : (bs : List Bool) (x : ℕ) → trues bs (suc x) ≡ trues bs x + one_if (get_or bs x false)
trues_next [] x = refl
trues_next (true ∷ bs) zero = ap suc (trues_zero bs)
trues_next (false ∷ bs) zero = trues_zero bs
trues_next (true ∷ bs) (suc x) = let e : suc (trues bs x + one_if (get_or bs x false)) ≡ suc (trues bs x) + one_if (get_or bs x false) = omega arith in ap suc (trues_next bs x) ∙ e
trues_next (false ∷ bs) (suc x) = trues_next bs x

trues_rise : (bs : List Bool) (x d : ℕ) → trues bs x ≤ trues bs (x + d)
trues_rise bs x zero = let e : x ≡ x + 0 = omega arith in let s = ap (trues bs) e in omega (arith, s)
trues_rise bs x (suc d) = let e : suc (x + d) ≡ x + suc d = omega arith in let s = ap (trues bs) e in omega (arith, s, trues_rise bs x d, trues_next bs (x + d))

-- the set of a target is there
pub set_there : (bs : List Bool) (x : ℕ) (many : ℕ) → trues bs (length bs) ≤ many → x < length bs → get_or bs x false ≡ true → trues bs x < many
set_there bs x many enough lt is =
    let one : one_if (get_or bs x false) ≡ 1 = ap one_if is in
    let s : suc x + (length bs - suc x) ≡ length bs = omega (arith, lt) in
    let e = ap (trues bs) s in
    omega (arith, trues_rise bs (suc x) (length bs - suc x), trues_next bs x, one, e, enough)

-- ---- one frame more

abbrev is_at : ℕ → Frame → Bool
is_at at frame = nat_eq frame.at at

abbrev Below : (n limit : ℕ) → List Frame → Type 0
Below n limit frames = Every (λ (frame : Frame). (frame.at < limit) × BitsFit n frame.facts) frames

below_more : (n limit more : ℕ) → limit ≤ more → (frames : List Frame) → Below n limit frames → Below n more frames
below_more n limit more le [] b = b
below_more n limit more le (f ∷ fs) b = let l = b.0.0 in ((omega (arith, l, le), b.0.1), below_more n limit more le fs b.1)

below_put : (n limit : ℕ) (frames : List Frame) (frame : Frame) → Below n limit frames → frame.at ≡ limit → BitsFit n frame.facts → Below n (suc limit) (frames ++ frame ∷ [])
below_put n limit [] frame b is fit = ((omega (arith, is), fit), tt)
below_put n limit (f ∷ fs) frame b is fit = let l = b.0.0 in ((omega (arith, l), b.0.1), below_put n limit fs frame b.1 is fit)

order_put : (n least limit : ℕ) (frames : List Frame) (frame : Frame) → AreInOrder least frames → Below n limit frames → frame.at ≡ limit → least ≤ limit → AreInOrder least (frames ++ frame ∷ [])
order_put n least limit [] frame o b is le = (omega (arith, is, le), tt)
order_put n least limit (f ∷ fs) frame o b is le = let l = b.0.0 in (o.0, order_put n (suc f.at) limit fs frame o.1 b.1 is (omega (arith, l)))

unequal : (a b : ℕ) → a ≢ b → nat_eq a b ≡ false
unequal a b apart = grind (arith, apart)

equal : (a b : ℕ) → a ≡ b → nat_eq a b ≡ true
equal a b e = grind (arith, e)

-- of an earlier instruction nothing changes
any_before : (frames : List Frame) (frame : Frame) (at : ℕ) → frame.at ≢ at → list_any (is_at at) (frames ++ frame ∷ []) ≡ list_any (is_at at) frames
any_before [] frame at apart = ap (λ b. b || false) (unequal frame.at at apart)
any_before (f ∷ fs) frame at apart = ap (λ b. nat_eq f.at at || b) (any_before fs frame at apart)

facts_before : (n : ℕ) (frames : List Frame) (frame : Frame) (at : ℕ) (fact : Fact) → frame.at ≢ at → frame_facts n (frames ++ frame ∷ []) at fact ≡ frame_facts n frames at fact
facts_before n [] frame at fact apart = ap (λ b. if b then claims n frame.facts fact else false) (unequal frame.at at apart)
facts_before n (f ∷ fs) frame at fact apart = ap (λ b. if nat_eq f.at at then claims n f.facts fact else b) (facts_before n fs frame at fact apart)

-- and of the frame's own it is what the frame says
any_here : (n limit : ℕ) (frames : List Frame) (frame : Frame) → Below n limit frames → frame.at ≡ limit → list_any (is_at limit) (frames ++ frame ∷ []) ≡ true
any_here n limit [] frame b is = ap (λ c. c || false) (equal frame.at limit is)
any_here n limit (f ∷ fs) frame b is =
    let l = b.0.0 in
    ap (λ c. c || list_any (is_at limit) (fs ++ frame ∷ [])) (unequal f.at limit (λ e. omega (arith, l, e))) ∙ any_here n limit fs frame b.1 is

facts_here : (n limit : ℕ) (frames : List Frame) (frame : Frame) (fact : Fact) → Below n limit frames → frame.at ≡ limit → frame_facts n (frames ++ frame ∷ []) limit fact ≡ claims n frame.facts fact
facts_here n limit [] frame fact b is = ap (λ c. if c then claims n frame.facts fact else false) (equal frame.at limit is)
facts_here n limit (f ∷ fs) frame fact b is =
    let l = b.0.0 in
    ap (λ c. if c then claims n f.facts fact else frame_facts n (fs ++ frame ∷ []) limit fact) (unequal f.at limit (λ e. omega (arith, l, e))) ∙ facts_here n limit fs frame fact b.1 is

-- ---- as many as were looked at

pub record Framed (n : ℕ) (sets : List Known) (targets : List Bool) (at next : ℕ) (frames : List Frame) : Type 0 where
  pub rank : next ≡ trues targets at
  pub few : next ≤ at
  pub order : AreInOrder 0 frames
  pub fit : Below n at frames
  pub there : (k : ℕ) → list_any (is_at k) frames ≡ (nat_lt k at && get_or targets k false)
  pub facts : (k : ℕ) (fact : Fact) → frame_facts n frames k fact ≡ (nat_lt k at && (get_or targets k false && (is_over n fact && set_at sets (trues targets k) fact)))

module _ (n : ℕ) (sets : List Known) (targets : List Bool) where
  abbrev facts_at : ℕ → Fact → Bool
  facts_at k fact = get_or targets k false && (is_over n fact && set_at sets (trues targets k) fact)

  pub frame_none : (frames : List Frame) → frames ≡ [] → Framed n sets targets 0 0 frames
  frame_none frames e = subst (λ (all : List Frame). Framed n sets targets 0 0 all) (sym e) (record {
    rank = sym (trues_zero targets);
    few = omega arith;
    order = tt;
    fit = tt;
    there = λ k. sym (ap (λ c. c && get_or targets k false) (under k));
    facts = λ k fact. sym (ap (λ c. c && facts_at k fact) (under k));
  })
    where
      under : (k : ℕ) → nat_lt k 0 ≡ false
      under k = grind arith

  later : (k at : ℕ) → k ≢ at → nat_lt k at ≡ nat_lt k (suc at)
  later k at apart = grind (arith, apart)

  within : (k at : ℕ) → k ≡ at → nat_lt k (suc at) ≡ true
  within k at e = grind (arith, e)

  and_false : (c d : Bool) → (c && (false && d)) ≡ false
  and_false false d = refl
  and_false true d = refl

  -- where there is no target, one more tells nothing
  skipped : (at : ℕ) → get_or targets at false ≡ false → (k : ℕ) (b : Bool) → (nat_lt k at && (get_or targets k false && b)) ≡ (nat_lt k (suc at) && (get_or targets k false && b))
  skipped at blank k b = by (cases_eq k at)
    where
      by : (k ≡ at) ⊎ (k ≢ at) → (nat_lt k at && (get_or targets k false && b)) ≡ (nat_lt k (suc at) && (get_or targets k false && b))
      by (inl e) =
          let f : get_or targets k false ≡ false = ap (λ i. get_or targets i false) e ∙ blank in
          ap (λ c. nat_lt k at && (c && b)) f ∙ and_false (nat_lt k at) b ∙ sym (and_false (nat_lt k (suc at)) b) ∙ sym (ap (λ c. nat_lt k (suc at) && (c && b)) f)
      by (inr apart) = ap (λ c. c && (get_or targets k false && b)) (later k at apart)

  and_true : (c : Bool) → (c && true) ≡ c
  and_true false = refl
  and_true true = refl

  pub frame_skip : (at next : ℕ) (frames : List Frame) → get_or targets at false ≡ false → Framed n sets targets at next frames → Framed n sets targets (suc at) next frames
  frame_skip at next frames blank f = record {
    rank = (let zero_more : one_if (get_or targets at false) ≡ 0 = ap one_if blank in let now = f.rank in omega (arith, now, zero_more, trues_next targets at));
    few = (let le = f.few in omega (arith, le));
    order = f.order;
    fit = below_more n at (suc at) (omega arith) frames f.fit;
    there = λ k. f.there k ∙ ap (λ c. nat_lt k at && c) (sym (and_true (get_or targets k false))) ∙ skipped at blank k true ∙ ap (λ c. nat_lt k (suc at) && c) (and_true (get_or targets k false));
    facts = λ k fact. f.facts k fact ∙ skipped at blank k (is_over n fact && set_at sets (trues targets k) fact);
  }

  pub frame_put : (at next : ℕ) (frames : List Frame) (frame : Frame) → get_or targets at false ≡ true → Framed n sets targets at next frames → IsFrameOf n at (set_at sets next) frame → Framed n sets targets (suc at) (suc next) (frames ++ frame ∷ [])
  frame_put at next frames frame marked f p = record {
    rank = (let one_more : one_if (get_or targets at false) ≡ 1 = ap one_if marked in let now = f.rank in omega (arith, now, one_more, trues_next targets at));
    few = (let le = f.few in omega (arith, le));
    order = order_put n 0 at frames frame f.order f.fit p.before (omega arith);
    fit = below_put n at frames frame f.fit p.before p.fit;
    there = λ k. any k (cases_eq k at);
    facts = λ k fact. told k fact (cases_eq k at);
  }
    where
      other : (k : ℕ) → k ≢ at → frame.at ≢ k
      other k apart e = let i = p.before in apart (omega (arith, e, i))

      any : (k : ℕ) → (k ≡ at) ⊎ (k ≢ at) → list_any (is_at k) (frames ++ frame ∷ []) ≡ (nat_lt k (suc at) && get_or targets k false)
      any k (inl e) =
          ap (λ i. list_any (is_at i) (frames ++ frame ∷ [])) e ∙ any_here n at frames frame f.fit p.before ∙ sym marked ∙ sym (ap (λ i. get_or targets i false) e)
          ∙ sym (ap (λ c. c && get_or targets k false) (within k at e))
      any k (inr apart) = any_before frames frame k (other k apart) ∙ f.there k ∙ ap (λ c. c && get_or targets k false) (later k at apart)

      told : (k : ℕ) (fact : Fact) → (k ≡ at) ⊎ (k ≢ at) → frame_facts n (frames ++ frame ∷ []) k fact ≡ (nat_lt k (suc at) && facts_at k fact)
      told k fact (inl e) =
          ap (λ i. frame_facts n (frames ++ frame ∷ []) i fact) e ∙ facts_here n at frames frame fact f.fit p.before ∙ p.facts fact
          ∙ ap (λ r. is_over n fact && set_at sets r fact) (f.rank ∙ ap (trues targets) (sym e))
          ∙ sym (ap (λ c. c && (is_over n fact && set_at sets (trues targets k) fact)) (ap (λ i. get_or targets i false) e ∙ marked))
          ∙ sym (ap (λ c. c && facts_at k fact) (within k at e))
      told k fact (inr apart) = facts_before n frames frame k fact (other k apart) ∙ f.facts k fact ∙ ap (λ c. c && facts_at k fact) (later k at apart)

  same_or : (all : List Known) (r : ℕ) (d e : Known) → r < length all → get_or all r d ≡ get_or all r e
  same_or [] r d e lt = absurd (omega (arith, lt))
  same_or (s ∷ ss) zero d e lt = refl
  same_or (s ∷ ss) (suc r) d e lt = same_or ss r d e (omega (arith, lt))

  pub next_there : (at next : ℕ) (frames : List Frame) (so : Bool) → trues targets (length targets) ≤ length sets → at < length targets → so ≡ get_or targets at false → so ≡ true → Framed n sets targets at next frames → next < length sets
  next_there at next frames so enough lt is yes_so f = let r = f.rank in omega (arith, r, set_there targets at (length sets) enough lt (sym is ∙ yes_so))

  -- the facts of a set that is found at its number
  pub set_found : (next : ℕ) (set : Known) → next < length sets → set ≡ get_or sets next set → get_or sets next no_set ≡ set
  set_found next set lt is = same_or sets next no_set set lt ∙ sym is

  pub put_on : (at more next after : ℕ) (frames middle new : List Frame) (so : Bool) (set : Known) → so ≡ get_or targets at false → so ≡ true → more ≡ at + 1 → after ≡ next + 1 → new ≡ middle → next < length sets → set ≡ get_or sets next set
      → Framed n sets targets at next frames → ((frame : Frame) × (middle ≡ frames ++ frame ∷ []) × IsFrameOf n at (holds set) frame) → Framed n sets targets more after new
  put_on at more next after frames middle new so set is yes_so e a same lt found f p =
      let m : suc at ≡ more = omega (arith, e) in
      let r : suc next ≡ after = omega (arith, a) in
      let own = subst (λ (s : Known). IsFrameOf n at (holds s) p.0) (sym (set_found next set lt found)) p.2 in
      subst (λ i. Framed n sets targets i after new) m (subst (λ i. Framed n sets targets (suc at) i new) r (subst (λ (all : List Frame). Framed n sets targets (suc at) (suc next) all) (sym (same ∙ p.1)) (frame_put at next frames p.0 (sym is ∙ yes_so) f own)))

  pub skip_on : (at more next after : ℕ) (frames new : List Frame) (so : Bool) → so ≡ get_or targets at false → so ≡ false → more ≡ at + 1 → after ≡ next → new ≡ frames → Framed n sets targets at next frames → Framed n sets targets more after new
  skip_on at more next after frames new so is no_so e a same f =
      let m : suc at ≡ more = omega (arith, e) in
      subst (λ i. Framed n sets targets i after new) m (subst (λ i. Framed n sets targets (suc at) i new) (sym a) (subst (λ (all : List Frame). Framed n sets targets (suc at) next all) (sym same) (frame_skip at next frames (sym is ∙ no_so) f)))

  past_none : (all : List Bool) (k : ℕ) → length all ≤ k → get_or all k false ≡ false
  past_none [] k le = refl
  past_none (b ∷ bs) zero le = absurd (omega (arith, le))
  past_none (b ∷ bs) (suc k) le = past_none bs k (omega (arith, le))

  inside_all : (k : ℕ) (b : Bool) → (nat_lt k (length targets) && (get_or targets k false && b)) ≡ (get_or targets k false && b)
  inside_all k b = by (cases_lt k (length targets))
    where
      by : (k < length targets) ⊎ (length targets ≤ k) → (nat_lt k (length targets) && (get_or targets k false && b)) ≡ (get_or targets k false && b)
      by (inl lt) = ap (λ c. c && (get_or targets k false && b)) (lt-ltb k (length targets) lt)
      by (inr le) =
          let f = past_none targets k le in
          ap (λ c. nat_lt k (length targets) && (c && b)) f ∙ and_false (nat_lt k (length targets)) b ∙ sym (ap (λ c. c && b) f)

  pub frames_are : (at next : ℕ) (frames : List Frame) → at ≡ length targets → Framed n sets targets at next frames → AreFramesOf n sets targets frames
  frames_are at next frames e f = all (subst (λ i. Framed n sets targets i next frames) e f)
    where
      all : Framed n sets targets (length targets) next frames → AreFramesOf n sets targets frames
      all w = record {
        order = w.order;
        fit = w.fit;
        there = λ k. w.there k ∙ ap (λ c. nat_lt k (length targets) && c) (sym (and_true (get_or targets k false))) ∙ inside_all k true ∙ and_true (get_or targets k false);
        facts = λ k fact. w.facts k fact ∙ inside_all k (is_over n fact && set_at sets (trues targets k) fact);
      }
