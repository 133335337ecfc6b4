-- Rows show what is used, and go on showing it where one of them grows.
use Rattle.std.proofs.Common.{◌≡◌, ℕ, zero, suc, ◌+◌, ◌*◌, ◌<◌, ◌≤◌, Bool, true, false, not, ◌&&◌, ◌||◌, nat_eq, IsTrue, List, length, get_or, Option, Some, None, refl, sym, ap, ◌∙◌, subst, inl, inr, ◌⊎◌, arith}
use Rattle.std.specs.Prelude.{IfSome, MatchBool}
use Rattle.std.proofs.lemmas.Bool.{and_parts, and_from, or_cases, or_left, or_right, eqb-true, eq-eqb}
use Rattle.std.proofs.Math.ListN.{set}
use Rattle.std.proofs.lemmas.List.Sums.{sum_by-set}
use Rattle.std.proofs.lemmas.Option.{slice_get-get_or}
use Rattle.rc_base.specs.BitSets.{marks}
use Rattle.rc_stops.specs.declared.stop.Stop.{Stop}
use Rattle.rc_stops.specs.Paths.{no_stop, stop_at, is_it, Leads, UsedOn, got, on}
use Rattle.rc_stops.specs.Rows.{absent, row_at, leads_marks, before_marks, AllFit, missing, IsWhole, AreUsed}
use Rattle.rc_stops.specs.Waits.{is_among, Leading}

falsely : (b : Bool) → not b ≡ true → b ≡ false
falsely true e = cc
falsely false e = refl

not_both : false ≡ true → ⊥
not_both c = cc

apart : (p at : ℕ) → nat_eq p at ≡ false → p ≡ at → ⊥
apart p at e q = not_both (sym e ∙ eq-eqb p at q)

-- what is shown before a stop is used before it, where what is shown behind it is used there
before_used : (stops : List Stop) (rows : List ℕ) → AllFit stops → AreUsed stops rows → (at x : ℕ) → at < length stops → IsTrue (before_marks rows at (stop_at stops at) x) → UsedOn stops x at
before_used stops rows fits used at x lt e = elim (or_cases ((leads_marks rows (stop_at stops at).leads x || ((stop_at stops at).falls && marks (row_at rows (suc at)) x)) && not (is_it (stop_at stops at).sets x)) (is_it (stop_at stops at).gets x) e) [
  | inl one ↦
      let p = and_parts (leads_marks rows (stop_at stops at).leads x || ((stop_at stops at).falls && marks (row_at rows (suc at)) x)) (not (is_it (stop_at stops at).sets x)) one in
      by (falsely (is_it (stop_at stops at).sets x) p.1) (or_cases (leads_marks rows (stop_at stops at).leads x) ((stop_at stops at).falls && marks (row_at rows (suc at)) x) p.0)
  | inr other ↦ got lt other
]
  where
    jumped : (leads : Option ℕ) → (stop_at stops at).leads ≡ leads → IfSome leads (λ to. to < length stops) → is_it (stop_at stops at).sets x ≡ false → leads_marks rows leads x ≡ true → UsedOn stops x at
    jumped None is below unset m = cc
    jumped (Some to) is below unset m = on lt unset (inr is) (used to x below m)

    by : is_it (stop_at stops at).sets x ≡ false → (leads_marks rows (stop_at stops at).leads x ≡ true) ⊎ (((stop_at stops at).falls && marks (row_at rows (suc at)) x) ≡ true) → UsedOn stops x at
    by unset (inl m) = jumped (stop_at stops at).leads refl (fits at lt).leads unset m
    by unset (inr m) = let p = and_parts (stop_at stops at).falls (marks (row_at rows (suc at)) x) m in on lt unset (inl (p.0, refl)) (used (suc at) x ((fits at lt).falls p.0) p.1)

-- ---- which stops lead to one

leads_there : (o : Option ℕ) (at : ℕ) → (o ≡ Some at) ⊎ (o ≡ Some at → ⊥)
leads_there None at = inr (λ e. cc)
leads_there (Some to) at = by (nat_eq to at) refl
  where
    by : (b : Bool) → nat_eq to at ≡ b → (Some to ≡ Some at) ⊎ (Some to ≡ Some at → ⊥)
    by true e = inl (ap Some (eqb-true to at e))
    by false e = inr (λ q. let same : to ≡ at = cc in apart to at e same)

falls_there : (b : Bool) (k at : ℕ) → (IsTrue b × (at ≡ suc k)) ⊎ ((IsTrue b × (at ≡ suc k)) → ⊥)
falls_there false k at = inr (λ p. not_both p.0)
falls_there true k at = by (nat_eq at (suc k)) refl
  where
    by : (b : Bool) → nat_eq at (suc k) ≡ b → (IsTrue true × (at ≡ suc k)) ⊎ ((IsTrue true × (at ≡ suc k)) → ⊥)
    by true e = inl (refl, eqb-true at (suc k) e)
    by false e = inr (λ p. apart at (suc k) e p.1)

leading : (stops : List Stop) (k at : ℕ) → Leading stops k at ⊎ (Leading stops k at → ⊥)
leading stops k at = by (falls_there (stop_at stops k).falls k at) (leads_there (stop_at stops k).leads at)
  where
    by : (IsTrue (stop_at stops k).falls × (at ≡ suc k)) ⊎ ((IsTrue (stop_at stops k).falls × (at ≡ suc k)) → ⊥) → ((stop_at stops k).leads ≡ Some at) ⊎ ((stop_at stops k).leads ≡ Some at → ⊥) → Leading stops k at ⊎ (Leading stops k at → ⊥)
    by (inl p) q = inl (inl p)
    by (inr p) (inl q) = inl (inr q)
    by (inr p) (inr q) = inr (λ l. elim l [ inl a ↦ p a | inr b ↦ q b ])

-- ---- one look

module _ (stops : List Stop) (old new : List ℕ) (fits : AllFit stops) (at : ℕ) (lt : at < length stops) (others : (k : ℕ) → (k ≡ at → ⊥) → row_at new k ≡ row_at old k)
    (there : (x : ℕ) → marks (row_at new at) x ≡ (marks (row_at old at) x || before_marks old at (stop_at stops at) x)) where
  pub look_used : AreUsed stops old → AreUsed stops new
  look_used used k x below is = by (nat_eq k at) refl
    where
      by : (b : Bool) → nat_eq k at ≡ b → UsedOn stops x k
      by true e = let q = eqb-true k at e in subst (UsedOn stops x) (sym q) (elim (or_cases (marks (row_at old at) x) (before_marks old at (stop_at stops at) x) (sym (there x) ∙ subst (λ j. IsTrue (marks (row_at new j) x)) q is)) [
        | inl m ↦ used at x lt m
        | inr m ↦ before_used stops old fits used at x lt m
      ])
      by false e = used k x below (subst (λ r. IsTrue (marks r x)) (others k (apart k at e)) is)

  -- where nothing was lacking
  look_whole : new ≡ old → IsWhole stops old at
  look_whole same x m = subst (λ (r : List ℕ). IsTrue (marks (row_at r at) x)) same (there x ∙ or_right (marks (row_at old at) x) (before_marks old at (stop_at stops at) x) m)

  -- rows grow
  grown : (k x : ℕ) → IsTrue (marks (row_at old k) x) → IsTrue (marks (row_at new k) x)
  grown k x m = by (nat_eq k at) refl
    where
      by : (b : Bool) → nat_eq k at ≡ b → IsTrue (marks (row_at new k) x)
      by true e = let q = eqb-true k at e in subst (λ j. IsTrue (marks (row_at new j) x)) (sym q) (there x ∙ or_left (marks (row_at old at) x) (before_marks old at (stop_at stops at) x) (subst (λ j. IsTrue (marks (row_at old j) x)) q m))
      by false e = subst (λ r. IsTrue (marks r x)) (sym (others k (apart k at e))) m

  same_led : (o : Option ℕ) → (o ≡ Some at → ⊥) → (x : ℕ) → leads_marks new o x ≡ leads_marks old o x
  same_led None not_there x = refl
  same_led (Some to) not_there x = ap (λ r. marks r x) (others to (λ e. not_there (ap Some e)))

  same_fallen : (b : Bool) (k x : ℕ) → ((IsTrue b × (at ≡ suc k)) → ⊥) → (b && marks (row_at new (suc k)) x) ≡ (b && marks (row_at old (suc k)) x)
  same_fallen false k x not_there = refl
  same_fallen true k x not_there = ap (λ r. marks r x) (others (suc k) (λ e. not_there (refl, sym e)))

  -- a stop that doesn't lead there shows before it what it showed
  same_before : (k : ℕ) → (Leading stops k at → ⊥) → (x : ℕ) → before_marks new k (stop_at stops k) x ≡ before_marks old k (stop_at stops k) x
  same_before k not_there x =
      ap (λ b. ((b || ((stop_at stops k).falls && marks (row_at new (suc k)) x)) && not (is_it (stop_at stops k).sets x)) || is_it (stop_at stops k).gets x) (same_led (stop_at stops k).leads (λ e. not_there (inr e)) x)
      ∙ ap (λ b. ((leads_marks old (stop_at stops k).leads x || b) && not (is_it (stop_at stops k).sets x)) || is_it (stop_at stops k).gets x) (same_fallen (stop_at stops k).falls k x (λ e. not_there (inl e)))

  stays_whole : (k : ℕ) → (Leading stops k at → ⊥) → IsWhole stops old k ⊎ (k ≡ at) → IsWhole stops new k
  stays_whole k not_there (inl whole) x m = grown k x (whole x (sym (same_before k not_there x) ∙ m))
  stays_whole k not_there (inr e) x m = subst (λ j. IsTrue (marks (row_at new j) x)) (sym e) (there x ∙ or_right (marks (row_at old at) x) (before_marks old at (stop_at stops at) x) (subst (λ j. IsTrue (before_marks old j (stop_at stops j) x)) e (sym (same_before k not_there x) ∙ m)))

  abbrev pub Looked : List ℕ → (k : ℕ) → Type 0
  Looked waits k = (IsWhole stops old k ⊎ (k ≡ at)) ⊎ IsTrue (is_among waits k)

  pub look_quiet : (waits : List ℕ) → new ≡ old → (k : ℕ) → Looked waits k → IsWhole stops new k ⊎ IsTrue (is_among waits k)
  look_quiet waits same k (inl (inl w)) = inl (subst (λ r. IsWhole stops r k) (sym same) w)
  look_quiet waits same k (inl (inr e)) = inl (subst (λ r. IsWhole stops r k) (sym same) (subst (IsWhole stops old) (sym e) (look_whole same)))
  look_quiet waits same k (inr w) = inr w

  pub look_grew : (waits more : List ℕ) → ((k : ℕ) → Leading stops k at → IsTrue (is_among more k)) → ((k : ℕ) → IsTrue (is_among waits k) → IsTrue (is_among more k)) → (k : ℕ) → Looked waits k → IsWhole stops new k ⊎ IsTrue (is_among more k)
  look_grew waits more woken kept k (inr w) = inr (kept k w)
  look_grew waits more woken kept k (inl so) = by (leading stops k at) so
    where
      by : Leading stops k at ⊎ (Leading stops k at → ⊥) → IsWhole stops old k ⊎ (k ≡ at) → IsWhole stops new k ⊎ IsTrue (is_among more k)
      by (inl l) so = inr (woken k l)
      by (inr n) so = inl (stays_whole k n so)

-- ---- where nothing is lacking, all that is used is shown

whole_leads : (rows : List ℕ) (o : Option ℕ) (to x : ℕ) → o ≡ Some to → IsTrue (marks (row_at rows to) x) → leads_marks rows o x ≡ true
whole_leads rows o to x e m = subst (λ o. leads_marks rows o x ≡ true) (sym e) m

pub whole_used : (stops : List Stop) (rows : List ℕ) → ((at : ℕ) → at < length stops → IsWhole stops rows at) → {x at : ℕ} → UsedOn stops x at → IsTrue (marks (row_at rows at) x)
whole_used stops rows whole {x} (got {at} lt is) = whole at lt x (or_right ((leads_marks rows (stop_at stops at).leads x || ((stop_at stops at).falls && marks (row_at rows (suc at)) x)) && not (is_it (stop_at stops at).sets x)) (is_it (stop_at stops at).gets x) is)
whole_used stops rows whole {x} (on {at} {to} lt unset way next) =
    whole at lt x (or_left ((leads_marks rows (stop_at stops at).leads x || ((stop_at stops at).falls && marks (row_at rows (suc at)) x)) && not (is_it (stop_at stops at).sets x)) (is_it (stop_at stops at).gets x)
    (and_from (leads_marks rows (stop_at stops at).leads x || ((stop_at stops at).falls && marks (row_at rows (suc at)) x)) (not (is_it (stop_at stops at).sets x)) (by way (whole_used stops rows whole next)) (ap not unset)))
  where
    by : Leads (stop_at stops at) at to → IsTrue (marks (row_at rows to) x) → (leads_marks rows (stop_at stops at).leads x || ((stop_at stops at).falls && marks (row_at rows (suc at)) x)) ≡ true
    by (inr e) m = or_left (leads_marks rows (stop_at stops at).leads x) ((stop_at stops at).falls && marks (row_at rows (suc at)) x) (whole_leads rows (stop_at stops at).leads to x e m)
    by (inl p) m = or_right (leads_marks rows (stop_at stops at).leads x) ((stop_at stops at).falls && marks (row_at rows (suc at)) x) (and_from (stop_at stops at).falls (marks (row_at rows (suc at)) x) p.0 (subst (λ j. IsTrue (marks (row_at rows j) x)) p.1 m))

-- a wider row in the place of one
pub wider_missing : (rows : List ℕ) (at wide row : ℕ) → at < length rows → row ≡ get_or rows at row → absent wide < absent row → missing (set rows at wide) < missing rows
wider_missing rows at wide row lt is less = let s = sum_by-set absent rows at wide row lt in let e : absent (get_or rows at row) ≡ absent row = ap absent (sym is) in omega (arith, s, e, less)

pub stop_is : (stops : List Stop) (at : ℕ) (stop : Stop) → at < length stops → stop ≡ get_or stops at stop → stop_at stops at ≡ stop
stop_is stops at stop lt is = let e : Some (get_or stops at no_stop) ≡ Some (get_or stops at stop) = sym (slice_get-get_or stops at no_stop lt) ∙ slice_get-get_or stops at stop lt in let f : get_or stops at no_stop ≡ get_or stops at stop = cc in f ∙ sym is

pub same_row : (rows : List ℕ) (at a b : ℕ) → at < length rows → a ≡ get_or rows at a → b ≡ get_or rows at b → a ≡ b
same_row rows at a b lt e f = let g : Some (get_or rows at a) ≡ Some (get_or rows at b) = sym (slice_get-get_or rows at a lt) ∙ slice_get-get_or rows at b lt in let h : get_or rows at a ≡ get_or rows at b = cc in e ∙ h ∙ sym f

pub no_more : (a : ℕ) → a ≤ a
no_more a = omega arith

-- fewer bits are 0, and so many stops wait again
pub grew_less : (missing more size waits waits1 : ℕ) → more < missing → waits1 ≤ waits + (size + 1) → more * (size + 2) + waits1 ≤ missing * (size + 2) + waits
grew_less zero more size waits waits1 lt le = absurd (omega (arith, lt))
grew_less (suc m) more size waits waits1 lt le = let t = times more m (size + 2) (omega (arith, lt)) in grind (arith, t, le)
  where
    times : (a b c : ℕ) → a ≤ b → a * c ≤ b * c
    times zero b c le = grind arith
    times (suc a) zero c le = absurd (omega (arith, le))
    times (suc a) (suc b) c le = let t = times a b c (omega (arith, le)) in grind (arith, t)

pub of_true : (P Q : Type 0) (b : Bool) → MatchBool b P Q → b ≡ true → P
of_true P Q true m e = m
of_true P Q false m e = cc

pub of_false : (P Q : Type 0) (b : Bool) → MatchBool b P Q → b ≡ false → Q
of_false P Q true m e = cc
of_false P Q false m e = m

-- a stop was taken, and a visit made nothing more
pub taken_less : (more missing waits less_waits old_waits : ℕ) → more + waits ≤ missing + less_waits → less_waits + 1 ≡ old_waits → more + waits < missing + old_waits
taken_less more missing waits less_waits old_waits le e = omega (arith, le, e)
