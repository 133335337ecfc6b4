-- What pieces of code do to what is live, from what their parts do; and the effects of their loops, one behind the other.
use Rattle.std.proofs.Common.{◌≡◌, ◌<◌, ◌≤◌, ℕ, suc, ◌+◌, Bool, true, false, ◌||◌, ◌&&◌, List, [], ◌∷◌, ◌++◌, length, drop, get_or, Option, refl, sym, ap, ◌∙◌, arith, subst, append_assoc, append-nil}
use Rattle.std.specs.Prelude.{slice_get, nat_eq, Some, is_some}
use Rattle.std.proofs.lemmas.Option.{slice_get_within}
use Rattle.std.proofs.lemmas.List.{drop_all, drop_more}
use Rattle.rc_base.specs.BitSets.{marks}
use Rattle.rc_core.specs.Programs.{Struct}
use Rattle.rc_core.specs.Live.{Ways, round, then_live}
use Rattle.rc_rlang.specs.RegionCode.{Operation, copy, call, Step, Steps, none, more, fork, Act, Test, Code, simple, branch, loop, repeat, Codes, done, then}
use Rattle.rc_rlang.specs.RegionLive.{operation_uses, before_steps, before_act, before_code, before_codes}
use Rattle.rc_rlang.specs.declared.steps.Step.{Step as CodeStep}
use Rattle.rc_rlang.specs.declared.code.Code.{Code as CodeCode}
use Rattle.rc_rlang.specs.Shapes.{step_of, steps_of, code_of, codes_of}
use Rattle.rc_rlang.specs.Touches.{Touch, nothing, reads, calls, operation_touch}
use Rattle.rc_live.specs.declared.effects.Effect.{Effect}
use Rattle.rc_live.specs.declared.rows.Ways.{Ways as CodeWays}
use Rattle.rc_live.specs.Effects.{told, Tells, UsesShown, ReadsShown, StepReadsShown, EachTells, Found, EffectFound, EffectsFound, loops, loops_among}
use Rattle.rc_live.specs.Rows.{Shows, ShowWays}
use Rattle.rc_live.proofs.Told.{Both, Either, Empty}

-- the effects of one list of pieces behind those of another

each_both : (names : List ℕ) (es fs : List Effect) (cs ds : List Code) → EachTells names es cs → EachTells names fs ds → EachTells names (es ++ fs) (cs ++ ds)
each_both names [] fs [] ds t u = u
each_both names (e ∷ es) fs (c ∷ cs) ds t u = (t.0, each_both names es fs cs ds t.1 u)
each_both names [] fs (c ∷ cs) ds t u = absurd t
each_both names (e ∷ es) fs [] ds t u = absurd t

pub found_none : (names : List ℕ) (old : List Effect) → Found names [] old old
found_none names old = record { effects = []; behind = sym (append-nil old); tell = tt }

pub found_both : (names : List ℕ) (cs ds : List Code) (old mid new : List Effect) → Found names cs old mid → Found names ds mid new → Found names (cs ++ ds) old new
found_both names cs ds old mid new f g = record {
  effects = f.effects ++ g.effects;
  behind = g.behind ∙ ap (λ xs. xs ++ g.effects) f.behind ∙ append_assoc old f.effects g.effects;
  tell = each_both names f.effects g.effects cs ds f.tell g.tell;
}

pub found_last : (names : List ℕ) (c : Code) (e : Effect) (old new : List Effect) → new ≡ old ++ e ∷ [] → Tells names e (before_code c) → Found names (c ∷ []) old new
found_last names c e old new b t = record { effects = e ∷ []; behind = b; tell = (t, tt) }

-- and the other way round

pub nothing_found : (names : List ℕ) (old new : List Effect) → Found names [] old new → new ≡ old
nothing_found names old new f = f.behind ∙ by f.effects f.tell
  where
    by : (es : List Effect) → EachTells names es [] → old ++ es ≡ old
    by [] t = append-nil old
    by (e ∷ es) t = absurd t

pub record Parted (names : List ℕ) (cs ds : List Code) (old new : List Effect) : Type 0 where
  pub mid : List Effect
  pub first : Found names cs old mid
  pub second : Found names ds mid new

pub parted : (names : List ℕ) (cs ds : List Code) (old new : List Effect) → Found names (cs ++ ds) old new → Parted names cs ds old new
parted names cs ds old new f = by cs old f.effects f.behind f.tell
  where
    by : (cs : List Code) (old es : List Effect) → new ≡ old ++ es → EachTells names es (cs ++ ds) → Parted names cs ds old new
    by [] old es b t = record { mid = old; first = found_none names old; second = record { effects = es; behind = b; tell = t } }
    by (c ∷ cs) old [] b t = absurd t
    by (c ∷ cs) old (e ∷ es) b t =
        let p = by cs (old ++ e ∷ []) es (b ∙ sym (append_assoc old (e ∷ []) es)) t.1 in
        record { mid = p.mid; first = found_both names (c ∷ []) cs old (old ++ e ∷ []) p.mid (found_last names c e old (old ++ e ∷ []) refl t.0) p.first; second = p.second }

pub record Last (names : List ℕ) (c : Code) (old new : List Effect) : Type 0 where
  pub effect : Effect
  pub behind : new ≡ old ++ effect ∷ []
  pub tells : Tells names effect (before_code c)

pub the_last : (names : List ℕ) (c : Code) (old new : List Effect) → Found names (c ∷ []) old new → Last names c old new
the_last names c old new f = by f.effects f.behind f.tell
  where
    by : (es : List Effect) → new ≡ old ++ es → EachTells names es (c ∷ []) → Last names c old new
    by [] b t = absurd t
    by (e ∷ []) b t = record { effect = e; behind = b; tells = t.0 }
    by (e ∷ f ∷ es) b t = absurd t.1

-- what steps read

abbrev uses_by : Touch → ℕ → Bool
uses_by (reads y) x = nat_eq y x
uses_by t x = false

same_uses : (op : Operation) (x : ℕ) → uses_by (operation_touch op) x ≡ operation_uses op x
same_uses (copy y) x = refl
same_uses (call g tys) x = refl
same_uses op x = refl

pub no_use : (names : List ℕ) (row : ℕ) (op : Operation) → nothing ≡ operation_touch op → Empty row → UsesShown names row op
no_use names row op e h bit x at = h bit ∙ ap (λ t. uses_by t x) e ∙ same_uses op x

pub call_use : (names : List ℕ) (row g : ℕ) (op : Operation) → calls g ≡ operation_touch op → Empty row → UsesShown names row op
call_use names row g op e h bit x at = h bit ∙ ap (λ t. uses_by t x) e ∙ same_uses op x

pub copy_use : (names : List ℕ) (row empty local : ℕ) (op : Operation) → reads local ≡ operation_touch op → Empty empty → ((live : ℕ → Bool) → Shows names empty live → Shows names row (λ x. nat_eq local x || live x)) → UsesShown names row op
copy_use names row empty local op e h w bit x at =
    w (λ y. false) (λ j y there. h j) bit x at ∙ by (nat_eq local x) ∙ ap (λ t. uses_by t x) e ∙ same_uses op x
  where
    by : (b : Bool) → (b || false) ≡ b
    by true = refl
    by false = refl

pub no_reads : (names : List ℕ) (row : ℕ) → ((x : ℕ) → marks row x ≡ false) → ReadsShown names row none
no_reads names row h bit x live at = ap (λ b. b || live x) (sym (h bit))

pub fork_reads : (names : List ℕ) (row a b line h : ℕ) (test result : _) (yes' no' : Steps) → Either row a b → ReadsShown names a yes' → ReadsShown names b no' → StepReadsShown names row (fork line h test result yes' no')
fork_reads names row a b line h test result yes' no' e r s bit x live at =
    ap (λ t. t || before_steps no' live x) (r bit x live at) ∙ ap (λ t. (marks a bit || live x) || t) (s bit x live at) ∙ by (marks a bit) (marks b bit) (live x) ∙ ap (λ t. t || live x) (sym (e bit))
  where
    by : (p q l : Bool) → ((p || l) || (q || l)) ≡ ((p || q) || l)
    by true q l = refl
    by false true true = refl
    by false true false = refl
    by false false true = refl
    by false false false = refl

-- all steps read what was looked at, and what is read from here on
abbrev pub ReadsUpTo : (names : List ℕ) → (row : ℕ) → (all rest : Steps) → Type 0
ReadsUpTo names row all rest = (bit x : ℕ) (live : ℕ → Bool) → slice_get names bit ≡ Some x → before_steps all live x ≡ (marks row bit || before_steps rest live x)

pub reads_more : (names : List ℕ) (row one new : ℕ) (all rest : Steps) (s : Step) → ReadsUpTo names row all (more s rest) → StepReadsShown names one s → Either new row one → ReadsUpTo names new all rest
reads_more names row one new all rest s u r e bit x live at =
    u bit x live at ∙ ap (λ t. marks row bit || t) (r bit x (before_steps rest live) at) ∙ by (marks row bit) (marks one bit) (before_steps rest live x) ∙ ap (λ t. t || before_steps rest live x) (sym (e bit))
  where
    by : (p q l : Bool) → (p || (q || l)) ≡ ((p || q) || l)
    by true q l = refl
    by false q l = refl

-- from parts to the whole

-- it reads the row, and then does what another does
abbrev pub Reading : (e one : Effect) → (row : ℕ) → Type 0
Reading e one row = (j : ℕ) (n b c : Bool) → told e j n b c ≡ (marks row j || told one j n b c)

abbrev pub OneOf : (e one other : Effect) → Type 0
OneOf e one other = (j : ℕ) (n b c : Bool) → told e j n b c ≡ (told one j n b c || told other j n b c)

abbrev pub LastOf : (e one : Effect) → Type 0
LastOf e one = (j : ℕ) (n b c : Bool) → told e j n b c ≡ told one j false b c

abbrev pub RoundOf : (e one again : Effect) → Type 0
RoundOf e one again = (j : ℕ) (n b c : Bool) → told e j n b c ≡ told one j (told again j n b c) n (told again j n b c)

module _ (names : List ℕ) where
  pub simple_tells : (steps : Steps) (act : Act) (row : ℕ) (one e : Effect) → ReadsShown names row steps → Tells names one (λ k x. before_act act k.next x) → Reading e one row → Tells names e (before_code (simple steps act))
  simple_tells steps act row one e r t s bit x k at =
      r bit x (before_act act k.next) at ∙ ap (λ b. marks row bit || b) (t bit x k at) ∙ sym (s bit (k.next x) (k.broken x) (k.continued x))

  pub branch_tells : (steps : Steps) (test : Test) (a b : Code) (row : ℕ) (of_a of_b both e : Effect) → ReadsShown names row steps → Tells names of_a (before_code a) → Tells names of_b (before_code b) → OneOf both of_a of_b → Reading e both row →
      Tells names e (before_code (branch steps test a b))
  branch_tells steps test a b row of_a of_b both e r t u o s bit x k at =
      r bit x (λ y. before_code a k y || before_code b k y) at
      ∙ ap (λ v. marks row bit || (v || before_code b k x)) (t bit x k at)
      ∙ ap (λ v. marks row bit || (told of_a bit (k.next x) (k.broken x) (k.continued x) || v)) (u bit x k at)
      ∙ ap (λ v. marks row bit || v) (sym (o bit (k.next x) (k.broken x) (k.continued x))) ∙ sym (s bit (k.next x) (k.broken x) (k.continued x))

  pub loop_tells : (line : ℕ) (steps : Steps) (test : Option Test) (third a : Code) (row : ℕ) (of_a of_third last inside out both e : Effect) → ReadsShown names row steps → Tells names of_a (before_code a) → Tells names of_third (before_code third) →
      LastOf last of_third → RoundOf inside of_a last → ((j : ℕ) (n b c : Bool) → j < 128 → told out j n b c ≡ (is_some test && n)) → OneOf both out inside → Reading e both row → length names ≤ 128 → Tells names e (before_code (loop line steps test third a))
  loop_tells line steps test third a row of_a of_third last inside out both e r t u l v w o s short bit x k at =
      let n = k.next x in
      let b = k.broken x in
      let c = k.continued x in
      let k2 = then_live (λ _. false) k in
      let k1 = round (before_code third k2) k in
      let again : before_code third k2 x ≡ told last bit n b c = u bit x k2 at ∙ sym (l bit n b c) in
      let within : before_code a k1 x ≡ told inside bit n b c =
      t bit x k1 at ∙ ap (λ q. told of_a bit q n q) again ∙ sym (v bit n b c) in
      let here = slice_get_within names bit x at in
      r bit x (λ y. (is_some test && k.next y) || before_code a k1 y) at
      ∙ ap (λ q. marks row bit || ((is_some test && n) || q)) within
      ∙ ap (λ q. marks row bit || (q || told inside bit n b c)) (sym (w bit n b c (omega (arith, here, short))))
      ∙ ap (λ q. marks row bit || q) (sym (o bit n b c)) ∙ sym (s bit n b c)

  pub repeat_tells : (line : ℕ) (a : Code) (steps : Steps) (test : Test) (row : ℕ) (of_a passing again e : Effect) → ReadsShown names row steps → Tells names of_a (before_code a) → ((j : ℕ) (n b c : Bool) → j < 128 → told passing j n b c ≡ n) →
      Reading again passing row → RoundOf e of_a again → length names ≤ 128 → Tells names e (before_code (repeat line a steps test))
  repeat_tells line a steps test row of_a passing again e r t p s v short bit x k at =
      let n = k.next x in
      let b = k.broken x in
      let c = k.continued x in
      let here = slice_get_within names bit x at in
      let back : before_steps steps k.next x ≡ told again bit n b c =
      r bit x k.next at ∙ ap (λ q. marks row bit || q) (sym (p bit n b c (omega (arith, here, short)))) ∙ sym (s bit n b c) in
      t bit x (round (before_steps steps k.next) k) at ∙ ap (λ q. told of_a bit q n q) back ∙ sym (v bit n b c)

  -- all statements do what was looked at, and then what the rest does
  abbrev pub TellsUpTo : Effect → (all rest : Codes) → Type 0
  TellsUpTo e all rest = (bit x : ℕ) (k : Ways) → slice_get names bit ≡ Some x → before_codes all k x ≡ told e bit (before_codes rest k x) (k.broken x) (k.continued x)

  pub tells_more : (e one new : Effect) (all rest : Codes) (c : Code) → TellsUpTo e all (then c rest) → Tells names one (before_code c) → ((j : ℕ) (n b c : Bool) → told new j n b c ≡ told e j (told one j n b c) b c) → TellsUpTo new all rest
  tells_more e one new all rest c u t m bit x k at =
      u bit x k at ∙ ap (λ q. told e bit q (k.broken x) (k.continued x)) (t bit x (then_live (before_codes rest k) k) at) ∙ sym (m bit (before_codes rest k x) (k.broken x) (k.continued x))

  pub record UpTo (all rest : Codes) (e : Effect) (old now : List Effect) : Type 0 where
    pub tells : TellsUpTo e all rest
    pub found : (new : List Effect) → Found names (loops_among rest) now new → Found names (loops_among all) old new

  pub upto_none : (all : Codes) (e : Effect) (old : List Effect) → ((j : ℕ) (n b c : Bool) → j < 128 → told e j n b c ≡ n) → length names ≤ 128 → UpTo all all e old old
  upto_none all e old p short = record {
    tells = λ bit x k at. let here = slice_get_within names bit x at in sym (p bit (before_codes all k x) (k.broken x) (k.continued x) (omega (arith, here, short)));
    found = λ new f. f;
  }

  pub upto_more : (all rest : Codes) (c : Code) (e one e' : Effect) (old now new : List Effect) → UpTo all (then c rest) e old now → EffectFound names c one now new →
      ((j : ℕ) (n b c : Bool) → told e' j n b c ≡ told e j (told one j n b c) b c) → UpTo all rest e' old new
  upto_more all rest c e one e' old now new u f m = record {
    tells = tells_more e one e' all rest c u.tells f.tells m;
    found = λ later g. u.found later (found_both names (loops c) (loops_among rest) now new later f.found g);
  }

  pub upto_done : (all : Codes) (e : Effect) (old now : List Effect) → UpTo all done e old now → EffectsFound names all e old now
  upto_done all e old now u = record { tells = u.tells; found = u.found now (found_none names now) }

  -- what is live before it, where it is known what is live at the ways on
  pub before_shows : (e : Effect) (ways : CodeWays) (n b c d m row : ℕ) → Both n e.next ways.next → Both b e.broken ways.broken → Both c e.continued ways.continued → Either d b c → Either m n d → Either row e.own m →
      (f : Ways → ℕ → Bool) (k : Ways) → Tells names e f → ShowWays names ways k → Shows names row (f k)
  before_shows e ways n b c d m row hn hb hc hd hm hr f k t w j x at =
      let next = hn j ∙ ap (λ q. marks e.next j && q) (w.next j x at) in
      let broken = hb j ∙ ap (λ q. marks e.broken j && q) (w.broken j x at) in
      let continued = hc j ∙ ap (λ q. marks e.continued j && q) (w.continued j x at) in
      hr j ∙ ap (λ q. marks e.own j || q) (hm j)
      ∙ ap (λ q. marks e.own j || (q || marks d j)) next
      ∙ ap (λ q. marks e.own j || ((marks e.next j && k.next x) || q)) (hd j)
      ∙ ap (λ q. marks e.own j || ((marks e.next j && k.next x) || (q || marks c j))) broken
      ∙ ap (λ q. marks e.own j || ((marks e.next j && k.next x) || ((marks e.broken j && k.broken x) || q))) continued
      ∙ sym (t j x k at)

-- by what a piece of code stands for

pub tells_as : (names : List ℕ) (e : Effect) (one other : Code) → one ≡ other → Tells names e (before_code other) → Tells names e (before_code one)
tells_as names e one other is t = subst (λ c. Tells names e (before_code c)) (sym is) t

pub effect_as : (names : List ℕ) (one other : Code) (e : Effect) (old new : List Effect) → one ≡ other → EffectFound names other e old new → EffectFound names one e old new
effect_as names one other e old new is f = subst (λ c. EffectFound names c e old new) (sym is) f

-- lists that end in one are the same in both parts

abbrev head_of : {A : Type 0} → A → List A → A
head_of d [] = d
head_of d (x ∷ xs) = x

abbrev tail_of : {A : Type 0} → List A → List A
tail_of [] = []
tail_of (x ∷ xs) = xs

longer : {A : Type 0} (xs : List A) (x : A) → [] ≡ xs ++ x ∷ [] → ⊥
longer [] x e = let k : 0 ≡ 1 = ap length e in omega (arith, k)
longer (y ∷ xs) x e = let k : 0 ≡ suc (length (xs ++ x ∷ [])) = ap length e in omega (arith, k)

pub same_ends : {A : Type 0} (xs ys : List A) (x y : A) → xs ++ x ∷ [] ≡ ys ++ y ∷ [] → (xs ≡ ys) × (x ≡ y)
same_ends [] [] x y e = (refl, ap (head_of x) e)
same_ends [] (b ∷ ys) x y e = absurd (longer ys y (ap tail_of e))
same_ends (a ∷ xs) [] x y e = absurd (longer xs x (sym (ap tail_of e)))
same_ends (a ∷ xs) (b ∷ ys) x y e = let r = same_ends xs ys x y (ap tail_of e) in (ap (λ h. h ∷ xs) (ap (head_of a) e) ∙ ap (λ l. b ∷ l) r.0, r.1)

-- rows of code, from one on

pub steps_from : (structs : List Struct) (xs : List CodeStep) (i : ℕ) (x : CodeStep) → i < length xs → x ≡ get_or xs i x → steps_of structs (drop i xs) ≡ more (step_of structs x) (steps_of structs (drop (i + 1) xs))
steps_from structs xs i x l e = ap (steps_of structs) (drop_more xs i x l) ∙ ap (λ y. more (step_of structs y) (steps_of structs (drop (i + 1) xs))) (sym e)

pub steps_past : (structs : List Struct) (xs : List CodeStep) (i : ℕ) → length xs ≤ i → steps_of structs (drop i xs) ≡ none
steps_past structs xs i l = ap (steps_of structs) (drop_all i xs l)

pub codes_from : (structs : List Struct) (xs : List CodeCode) (i : ℕ) (x : CodeCode) → i < length xs → x ≡ get_or xs i x → codes_of structs (drop i xs) ≡ then (code_of structs x) (codes_of structs (drop (i + 1) xs))
codes_from structs xs i x l e = ap (codes_of structs) (drop_more xs i x l) ∙ ap (λ y. then (code_of structs y) (codes_of structs (drop (i + 1) xs))) (sym e)

pub codes_past : (structs : List Struct) (xs : List CodeCode) (i : ℕ) → length xs ≤ i → codes_of structs (drop i xs) ≡ done
codes_past structs xs i l = ap (codes_of structs) (drop_all i xs l)
