-- Comments and skipped lines: the first end of a comment, and what stands before a `#` on its line.
use Rattle.std.proofs.Common.{ℕ, suc, ◌≡◌, ◌+◌, List, [], ◌∷◌, ◌++◌, length, Option, Some, None, Bool, true, false, ◌&&◌, cond, refl, ap, sym, ◌∙◌, arith, inl, inr}
use Rattle.std.specs.Prelude.{◌==◌, ◌⊎◌, fold}
use Rattle.rc_syntax.specs.Bytes.{is_margin, Each, begins, IsMargin}
use Rattle.rc_syntax.specs.Words.{HasEnd}
use Rattle.rc_syntax.specs.reader.Look.{further_end, comment_end, is_in_margin}
use Rattle.rc_syntax.proofs.ByteLaws.{byte_test, and_true, begins_cons, cons_begins}

some_is : {A : Type 0} {x y : A} → Some x ≡ Some y → x ≡ y
some_is e = cc

end_further : (c : ℕ) (text : List ℕ) → HasEnd text → HasEnd (c ∷ text)
end_further c text h = (c ∷ h.0, h.1, ap (λ z. c ∷ z) h.2)

end_here : (c : ℕ) (text more : List ℕ) → c ≡ 42 → begins (λ z. z == 47) (text ++ 42 ∷ 47 ∷ more) ≡ true → HasEnd (c ∷ text)
end_here c [] more e h = let l : false ≡ true = h in absurd (cc)
end_here c (d ∷ text) more e h = let f = byte_test d 47 h in ([], text, (cc))

-- the first end is found
pub comment_found : (text more : List ℕ) → (HasEnd text → ⊥) → comment_end (text ++ 42 ∷ 47 ∷ more) ≡ Some (length text + 2)
comment_found [] more h = refl
comment_found (c ∷ text) more h = go (c == 42 && begins (λ z. z == 47) (text ++ 42 ∷ 47 ∷ more)) refl (comment_found text more (λ e. h (end_further c text e)))
  where
    go : (v : Bool) → (c == 42 && begins (λ z. z == 47) (text ++ 42 ∷ 47 ∷ more)) ≡ v → comment_end (text ++ 42 ∷ 47 ∷ more) ≡ Some (length text + 2) →
        cond v (Some 2) (further_end (comment_end (text ++ 42 ∷ 47 ∷ more))) ≡ Some (suc (length text) + 2)
    go true f i = let p = and_true (c == 42) (begins (λ z. z == 47) (text ++ 42 ∷ 47 ∷ more)) f in absurd (h (end_here c text more (byte_test c 42 p.0) p.1))
    go false f i = ap further_end i ∙ ap Some (let e : suc (length text + 2) ≡ suc (length text) + 2 = omega arith in e)

pub record Comment (bytes : List ℕ) (n : ℕ) : Type 0 where
  pub text : List ℕ
  pub more : List ℕ
  pub is : bytes ≡ text ++ 42 ∷ 47 ∷ more
  pub inside : HasEnd text → ⊥
  pub count : n ≡ length text + 2

no_end : HasEnd [] → ⊥
no_end h = go h.0 h.1 h.2
  where
    go : (front back : List ℕ) → [] ≡ front ++ 42 ∷ 47 ∷ back → ⊥
    go [] back e = cc
    go (x ∷ front) back e = cc

no_first : (c : ℕ) (bytes text more : List ℕ) → (c == 42 && begins (λ z. z == 47) bytes) ≡ false → bytes ≡ text ++ 42 ∷ 47 ∷ more → (HasEnd text → ⊥) →
    (front back : List ℕ) → c ∷ text ≡ front ++ 42 ∷ 47 ∷ back → ⊥
no_first c bytes [] more f t h [] back e = cc
no_first c bytes (d ∷ text) more f t h [] back e =
    let g : c ≡ 42 = cc in
    let i : d ≡ 47 = cc in
    let j : bytes ≡ 47 ∷ (text ++ 42 ∷ 47 ∷ more) = t ∙ ap (λ z. z ∷ (text ++ 42 ∷ 47 ∷ more)) i in
    let k : true ≡ false = sym (ap (λ z. z == 42 && begins (λ y. y == 47) bytes) g ∙ cons_begins 47 bytes (text ++ 42 ∷ 47 ∷ more) j) ∙ f in
    (cc)
no_first c bytes text more f t h (x ∷ front) back e = h (front, back, (cc))

-- what is found is the first end
pub comment_is : (bytes : List ℕ) (n : ℕ) → comment_end bytes ≡ Some n → Comment bytes n
comment_is [] n e = absurd (cc)
comment_is (c ∷ bytes) n e = go (c == 42 && begins (λ z. z == 47) bytes) refl (λ m f. comment_is bytes m f) e
  where
    later : (o : Option ℕ) → comment_end bytes ≡ o → further_end o ≡ Some n → (m : ℕ) × (comment_end bytes ≡ Some m) × (n ≡ suc m)
    later None f g = absurd (cc)
    later (Some m) f g = (m, f, sym (some_is g))

    go : (v : Bool) → (c == 42 && begins (λ z. z == 47) bytes) ≡ v → ((m : ℕ) → comment_end bytes ≡ Some m → Comment bytes m) → cond v (Some 2) (further_end (comment_end bytes)) ≡ Some n → Comment (c ∷ bytes) n
    go true f again g =
        let p = and_true (c == 42) (begins (λ z. z == 47) bytes) f in
        let y = begins_cons 47 bytes p.1 in
        let c_is = byte_test c 42 p.0 in
        record { text = []; more = y.0; is = (let i : bytes ≡ 47 ∷ y.0 = y.1 in (cc)); inside = no_end; count = sym (some_is g) }
    go false f again g =
        let x = later (comment_end bytes) refl g in
        let w = again x.0 x.1 in
        record {
          text = c ∷ w.text;
          more = w.more;
          is = ap (λ z. c ∷ z) w.is;
          inside = λ h. no_first c bytes w.text w.more f w.is w.inside h.0 h.1 h.2;
          count = omega (arith, x.2, w.count);
        }

abbrev step : Bool → ℕ → Bool
step fresh b = cond (b == 10) true (fresh && is_margin b)

-- spaces and tabs alone where the start counts, or behind the last line feed
abbrev Margin : Bool → List ℕ → Type 0
Margin fresh bytes = ((fresh ≡ true) × Each is_margin bytes) ⊎ ((earlier : List ℕ) × (margin : List ℕ) × (bytes ≡ earlier ++ 10 ∷ margin) × Each is_margin margin)

margin_is : (fresh : Bool) (bytes : List ℕ) → fold step fresh bytes ≡ true → Margin fresh bytes
margin_is fresh [] e = inl (e, tt)
margin_is fresh (b ∷ bytes) e = go (b == 10) refl (margin_is (step fresh b) bytes e)
  where
    go : (v : Bool) → (b == 10) ≡ v → Margin (cond v true (fresh && is_margin b)) bytes → Margin fresh (b ∷ bytes)
    go true f (inl w) = inr ([], bytes, ap (λ z. z ∷ bytes) (byte_test b 10 f), w.1)
    go false f (inl w) = let p = and_true fresh (is_margin b) w.0 in inl (p.0, (p.1, w.1))
    go true f (inr w) = inr (b ∷ w.0, w.1, ap (λ z. b ∷ z) w.2, w.3)
    go false f (inr w) = inr (b ∷ w.0, w.1, ap (λ z. b ∷ z) w.2, w.3)

margin_no_line_feed : (b : ℕ) → is_margin b ≡ true → (b == 10) ≡ false
margin_no_line_feed b h = go (b == 10) refl
  where
    go : (v : Bool) → (b == 10) ≡ v → v ≡ false
    go true e = let f : false ≡ true = ap is_margin (sym (byte_test b 10 e)) ∙ h in absurd (cc)
    go false e = refl

margin_kept : (bytes : List ℕ) → Each is_margin bytes → fold step true bytes ≡ true
margin_kept [] h = refl
margin_kept (b ∷ bytes) h =
    let e = margin_no_line_feed b h.0 in
    let f : is_margin b ≡ true = h.0 in
    let g : step true b ≡ true = rw (e, f) refl in
    ap (λ z. fold step z bytes) g ∙ margin_kept bytes h.1

margin_behind : (fresh : Bool) (earlier margin : List ℕ) → Each is_margin margin → fold step fresh (earlier ++ 10 ∷ margin) ≡ true
margin_behind fresh [] margin h = margin_kept margin h
margin_behind fresh (b ∷ earlier) margin h = margin_behind (step fresh b) earlier margin h

pub is_margin_of : (before : List ℕ) → is_in_margin before ≡ true → IsMargin before
is_margin_of before e = elim (margin_is true before e) [
  | inl w ↦ (before, w.1, inl refl)
  | inr w ↦ (w.1, w.3, inr (w.0, w.2))
]

pub in_margin : (before : List ℕ) → IsMargin before → is_in_margin before ≡ true
in_margin before m = elim m.2 [
  | inl w ↦ ap (fold step true) w ∙ margin_kept m.0 m.1
  | inr w ↦ ap (fold step true) w.1 ∙ margin_behind true w.0 m.0 m.1
]
