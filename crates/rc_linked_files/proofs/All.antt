-- Files that hold by themselves, and whose items don't clash, hold together.
use Rattle.std.specs.Prelude.{◌≡◌, ℕ, ◌+◌, ◌≤◌, List, [], ◌∷◌, ◌++◌, Option, Some, None, Bool, true, false, ◌||◌, if◌then◌else◌}
use Rattle.std.specs.List.{AllByRecursion as Every}
use Rattle.std.proofs.Common.{refl, sym, ap, ◌∙◌, subst, inl, inr}
use Rattle.std.specs.Str.{bytes_eq}
use Rattle.rc_base.specs.Limits.{most_text_bytes}
use Rattle.rc_syntax.specs.declared.tree.Name.{Name}
use Rattle.rc_syntax.specs.Tree as t
use Rattle.rc_core.specs.Programs.{Program}
use Rattle.rc_deletes.specs.Judged.{Judged, Holds, Faulty, with_part}
use Rattle.rc_deletes.specs.Kinds.{place_of}
use Rattle.rc_deletes.specs.Scopes.{Context, Scope, Meaning, a_local, a_global, a_function, a_builtin, meaning_in}
use Rattle.rc_deletes.specs.Items.{is_among, names_of, Definition, with_definition, with_structs, with_functions, with_new, function_names, context_of, builtins, Outside, at_the_start, with_name, behind_item, behind_items, Made, items, program_of, Typed}
use Rattle.rc_deletes.proofs.Naming.{same_name}
use Rattle.rc_judgements.proofs.WellTypedStructs.{names_same}
use Rattle.rc_judgements.proofs.WellTypedScopes.{kept_items}
use Rattle.rc_linking.specs.Calls.{is_callable, calls_in_items}
use Rattle.rc_linking.specs.Moved.{moved_item, moved_items}
use Rattle.rc_linking.specs.Joined.{structs_of, is_repeated, without, joined_behind, joined}
use Rattle.rc_linking.proofs.Calls.{IsNoLocal, Found}
use Rattle.rc_linking.proofs.Expressions.{Agree}
use Rattle.rc_linking.proofs.Names.{Names, Stands, names_with, among_new}
use Rattle.rc_linking.proofs.Heads.{moved_signature}
use Rattle.rc_linking.proofs.Scopes.{known_or, meaning_with, IsIn, IsApart, Declares, Sourced, Numbered, Related}
use Rattle.rc_linking.proofs.Params.{IsHeld}
use Rattle.rc_linked_files.proofs.Fronts.{grows, at_most, AreFunctions}
use Rattle.rc_linked_files.proofs.Files.{file_ends}
use Rattle.rc_deletes.specs.PlacedFaults as placed

pub or_no : (b : Bool) → b ≡ b || false
or_no true = refl
or_no false = refl

pub or_more : (a b c : Bool) → (a || b) || c ≡ a || (b || c)
or_more true b c = refl
or_more false b c = refl

-- which names a list of items adds
structs_add : (ds : List Definition) (is : List t.Item) (x : List ℕ) → is_among (names_of (with_structs ds is)) x ≡ is_among (names_of ds) x || is_among (names_of (with_structs [] is)) x
structs_add ds [] x = or_no (is_among (names_of ds) x)
structs_add ds (t.global at n name count c ∷ is) x = structs_add ds is x
structs_add ds (t.function at deletes result name params body ∷ is) x = structs_add ds is x
structs_add ds (t.struct at name fields ∷ is) x =
    let d : Definition = (name.text, fields) in
    let rest = is_among (names_of (with_structs [] is)) x in
    let one : (es : List Definition) → is_among (names_of (with_definition es d)) x ≡ is_among (names_of es) x || bytes_eq x name.text = λ es. ap (λ z. is_among z x) (names_with es d) ∙ among_new (names_of es) name.text x in
    structs_add (with_definition ds d) is x ∙ ap (λ z. z || rest) (one ds) ∙ or_more (is_among (names_of ds) x) (bytes_eq x name.text) rest
    ∙ ap (λ z. is_among (names_of ds) x || z) (sym (structs_add (with_definition [] d) is x ∙ ap (λ z. z || rest) (one [])))

functions_add : (ns : Names) (is : List t.Item) (x : List ℕ) → is_among (with_functions ns is) x ≡ is_among ns x || is_among (with_functions [] is) x
functions_add ns [] x = or_no (is_among ns x)
functions_add ns (t.struct at name fields ∷ is) x = functions_add ns is x
functions_add ns (t.global at n name count c ∷ is) x = functions_add ns is x
functions_add ns (t.function at deletes result name params None ∷ is) x = functions_add ns is x
functions_add ns (t.function at deletes result name params (Some body) ∷ is) x =
    let rest = is_among (with_functions [] is) x in
    functions_add (with_new ns name.text) is x ∙ ap (λ z. z || rest) (among_new ns name.text x) ∙ or_more (is_among ns x) (bytes_eq x name.text) rest
    ∙ ap (λ z. is_among ns x || z) (sym (functions_add (with_new [] name.text) is x ∙ ap (λ z. z || rest) (among_new [] name.text x)))

pub structs_append : (ds : List Definition) (is js : List t.Item) → with_structs ds (is ++ js) ≡ with_structs (with_structs ds is) js
structs_append ds [] js = refl
structs_append ds (t.struct at name fields ∷ is) js = structs_append (with_definition ds (name.text, fields)) is js
structs_append ds (t.global at n name count c ∷ is) js = structs_append ds is js
structs_append ds (t.function at deletes result name params body ∷ is) js = structs_append ds is js

pub functions_append : (ns : Names) (is js : List t.Item) → with_functions ns (is ++ js) ≡ with_functions (with_functions ns is) js
functions_append ns [] js = refl
functions_append ns (t.struct at name fields ∷ is) js = functions_append ns is js
functions_append ns (t.global at n name count c ∷ is) js = functions_append ns is js
functions_append ns (t.function at deletes result name params None ∷ is) js = functions_append ns is js
functions_append ns (t.function at deletes result name params (Some body) ∷ is) js = functions_append (with_new ns name.text) is js

pub both_structs : (is js : List t.Item) (x : List ℕ) → is_among (structs_of (is ++ js)) x ≡ is_among (structs_of is) x || is_among (structs_of js) x
both_structs is js x = ap (λ z. is_among (names_of z) x) (structs_append [] is js) ∙ structs_add (with_structs [] is) js x

pub both_functions : (is js : List t.Item) (x : List ℕ) → is_among (function_names (is ++ js)) x ≡ is_among (function_names is) x || is_among (function_names js) x
both_functions is js x = ap (λ z. is_among z x) (functions_append [] is js) ∙ functions_add (with_functions [] is) js x

pub behind_append : (context : Context) (o : Outside) (is js : List t.Item) → behind_items context o (is ++ js) ≡ behind_items context (behind_items context o is) js
behind_append context o [] js = refl
behind_append context o (i ∷ is) js = behind_append context (behind_item context o i) is js

-- what is among items
pub in_first : (i : t.Item) (xs ys : List t.Item) → IsIn i xs → IsIn i (xs ++ ys)
in_first i (x ∷ xs) ys (inl h) = inl h
in_first i (x ∷ xs) ys (inr h) = inr (in_first i xs ys h)
in_first i [] ys h = absurd h

pub in_second : (i : t.Item) (xs ys : List t.Item) → IsIn i ys → IsIn i (xs ++ ys)
in_second i [] ys h = h
in_second i (x ∷ xs) ys h = inr (in_second i xs ys h)

kept_if : (b : Bool) (i x : t.Item) (ks is : List t.Item) → (IsIn i ks → IsIn i is) → IsIn i (if b then ks else x ∷ ks) → IsIn i (x ∷ is)
kept_if true i x ks is h k = inr (h k)
kept_if false i x ks is h (inl k) = inl k
kept_if false i x ks is h (inr k) = inr (h k)

in_kept : (names : Names) (is : List t.Item) (i : t.Item) → IsIn i (without names is) → IsIn i is
in_kept names [] i h = h
in_kept names (x ∷ is) i h = kept_if (is_repeated names x) i x (without names is) is (in_kept names is i) h

-- the names that every text has
abbrev IsBuiltin : Meaning → Type 0
IsBuiltin (a_builtin b) = Unit {0}
IsBuiltin m = ⊥

abbrev AreBuiltin : Scope → Type 0
AreBuiltin [] = Unit {0}
AreBuiltin (known ∷ rest) = IsBuiltin known.1 × AreBuiltin rest

builtin_if : (b : Bool) (new m : Meaning) (o : Option Meaning) → IsBuiltin new → (o ≡ Some m → IsBuiltin m) → (if b then Some new else o) ≡ Some m → IsBuiltin m
builtin_if true new m o h k e = subst IsBuiltin (some_is new m e) h where
  some_is : (a b : Meaning) → Some a ≡ Some b → a ≡ b
  some_is a b h = cc
builtin_if false new m o h k e = k e

only_builtin : (names : Scope) → AreBuiltin names → (x : List ℕ) (m : Meaning) → meaning_in names x ≡ Some m → IsBuiltin m
only_builtin [] h x m e = absurd (differ e) where
  differ : None ≡ Some m → ⊥
  differ e = cc
only_builtin (known ∷ rest) h x m e = builtin_if (bytes_eq known.0 x) known.1 m (meaning_in rest x) h.0 (only_builtin rest h.1 x m) e

a_builtin_is : (x : List ℕ) (m : Meaning) → meaning_in builtins x ≡ Some m → IsBuiltin m
a_builtin_is x m e = only_builtin builtins (tt, (tt, (tt, (tt, (tt, (tt, tt)))))) x m e

no_name : (x : List ℕ) → is_among [] x ≡ true → ⊥
no_name x h = cc

module _ (all : Context) where
  abbrev pub From : List t.Item → List ℕ → Option Meaning → Type 0
  From earlier x o = Sourced all all (λ k. k) earlier x o

  -- behind these items of all earlier files
  pub record Behind (earlier : List t.Item) (p : Outside) (es : List Definition) (ms : Names) : Type 0 where
    pub kept : (x : List ℕ) (m : Meaning) → meaning_in builtins x ≡ Some m → meaning_in p.names x ≡ Some m
    pub source : (x : List ℕ) → meaning_in builtins x ≡ None → From earlier x (meaning_in p.names x)
    pub structs : (x : List ℕ) → is_among (names_of es) x ≡ is_among (structs_of earlier) x
    pub functions : (x : List ℕ) → is_among ms x ≡ is_among (function_names earlier) x

  not_local : (earlier : List t.Item) (x : List ℕ) (o : Option Meaning) → From earlier x o → IsNoLocal (λ k. k) o
  not_local earlier x None h = tt
  not_local earlier x (Some (a_global g u c)) h = tt
  not_local earlier x (Some (a_function k s)) h = tt
  not_local earlier x (Some (a_builtin b)) h = tt
  not_local earlier x (Some (a_local y u)) h = none h.0 h.1.1 where
    none : (i : t.Item) → Declares all all (λ k. k) earlier i x (a_local y u) → ⊥
    none (t.struct at name fields) h = h
    none (t.global at ty name count c) h = h
    none (t.function at deletes result name params body) h = h

  module _ (file : Context) (ren : ℕ → ℕ) (earlier : List t.Item) (p : Outside) (es : List Definition) (ms : Names) (behind : Behind earlier p es ms) where
    found_builtin : (x : List ℕ) (o : Option Meaning) → meaning_in builtins x ≡ o → Found ren all.functions x o (meaning_in p.names x)
    found_builtin x None e = not_local earlier x (meaning_in p.names x) (behind.source x e)
    found_builtin x (Some m) e = subst (Found ren all.functions x (Some m)) (sym (behind.kept x m e)) (same m (a_builtin_is x m e)) where
      same : (m : Meaning) → IsBuiltin m → Found ren all.functions x (Some m) (Some m)
      same (a_builtin b) h = refl
      same (a_local y u) h = absurd h
      same (a_global g u c) h = absurd h
      same (a_function k s) h = absurd h

    no_number : (x : List ℕ) (o : Option Meaning) → meaning_in builtins x ≡ o → Numbered file all ren earlier x o
    no_number x None e = tt
    no_number x (Some m) e = none m (a_builtin_is x m e) where
      none : (m : Meaning) → IsBuiltin m → Numbered file all ren earlier x (Some m)
      none (a_builtin b) h = tt
      none (a_local y u) h = absurd h
      none (a_global g u c) h = absurd h
      none (a_function k s) h = absurd h

    -- where a file begins
    pub begins : Related file all ren earlier builtins p.names [] (names_of es) [] ms
    begins = record {
      scope = λ x. found_builtin x (meaning_in builtins x) refl;
      sourced = behind.source;
      builtin = λ x h. h;
      numbered = λ x. no_number x (meaning_in builtins x) refl;
      known = λ x h. absurd (no_name x h);
      structs = λ x. behind.structs x ∙ or_no (is_among (structs_of earlier) x);
      functions = λ x. behind.functions x ∙ or_no (is_among (function_names earlier) x);
    }

  -- what names stand for comes from these items
  from_if : (earlier : List t.Item) (x name : List ℕ) (b : Bool) (o q : Option Meaning) (new : Meaning) → bytes_eq name x ≡ b → From earlier x q → (name ≡ x → o ≡ q) → (name ≡ x → From earlier x (Some new)) → From earlier x (if b then known_or o new else q)
  from_if earlier x name false o q new e h k l = h
  from_if earlier x name true o q new e h k l = by o (k (same_name name x e)) where
    by : (o : Option Meaning) → o ≡ q → From earlier x (known_or o new)
    by None r = l (same_name name x e)
    by (Some m) r = subst (From earlier x) (sym r) h

  from_with : (earlier : List t.Item) (names : Scope) (name x : List ℕ) (new : Meaning) → From earlier x (meaning_in names x) → (name ≡ x → From earlier x (Some new)) → From earlier x (meaning_in (with_name names name new) x)
  from_with earlier names name x new h k = subst (From earlier x) (sym (meaning_with names name new x)) (from_if earlier x name (bytes_eq name x) (meaning_in names name) (meaning_in names x) new refl h (ap (meaning_in names)) k)

  module _ (n : ℕ) (L : List t.Item) where
    from_item : (i : t.Item) (p : Outside) (x : List ℕ) → IsIn i L → From L x (meaning_in p.names x) → From L x (meaning_in (behind_item all p (moved_item n i)).names x)
    from_item (t.struct at name fields) p x there h = h
    from_item (t.global at ty name count c) p x there h = from_with L p.names name.text x _ h (λ e. (t.global at ty name count c, (there, e)))
    from_item (t.function at deletes result name params None) p x there h =
        from_with L p.names name.text x _ h (λ e. (t.function at deletes result name params None, (there, (e, ap (place_of all.functions) e, moved_signature all n deletes result params))))
    from_item (t.function at deletes result name params (Some body)) p x there h =
        from_with L p.names name.text x _ h (λ e. (t.function at deletes result name params (Some body), (there, (e, ap (place_of all.functions) e, moved_signature all n deletes result params))))

    from_items : (is : List t.Item) (p : Outside) (x : List ℕ) → ((i : t.Item) → IsIn i is → IsIn i L) → From L x (meaning_in p.names x) → From L x (meaning_in (behind_items all p (moved_items n is)).names x)
    from_items [] p x inside h = h
    from_items (i ∷ is) p x inside h = from_items is (behind_item all p (moved_item n i)) x (λ j m. inside j (inr m)) (from_item i p x (inside i (inl refl)) h)

  from_more : (earlier more : List t.Item) (x : List ℕ) (o : Option Meaning) → From earlier x o → From (earlier ++ more) x o
  from_more earlier more x None h = tt
  from_more earlier more x (Some m) h = (h.0, (in_first h.0 earlier more h.1.0, h.1.1))

  -- a file that holds by itself, behind these items
  pub record FileFits (earlier : List t.Item) (tree : t.Tree) : Type 0 where
    pub stubs : List t.Item
    pub functions : AreFunctions stubs
    pub held : IsHeld (items (context_of (tree.items ++ stubs)) at_the_start (tree.items ++ stubs))
    pub in_place : placed.items (context_of (tree.items ++ stubs)) at_the_start (tree.items ++ stubs) ≡ []
    pub ren : ℕ → ℕ
    pub agree : Agree (context_of (tree.items ++ stubs)) all ren
    pub apart : (j : t.Item) → IsIn j tree.items → IsApart earlier j
    pub calls : Every (λ (name : Name). is_callable all.functions name.text ≡ true) (calls_in_items tree.items)

  abbrev pub FilesFit : List t.Item → List t.Tree → Type 0
  FilesFit earlier [] = Unit {0}
  FilesFit earlier (tree ∷ trees) = FileFits earlier tree × FilesFit (earlier ++ tree.items) trees

  stands_alone : (is : List t.Item) → Stands (context_of is) at_the_start [] [] is
  stands_alone is = record { structs = refl; functions = refl; all_structs = names_same is; all_functions = refl }

  pub files_hold : (trees : List t.Tree) (earlier : List t.Item) (n : ℕ) (p : Outside) (es : List Definition) (ms : Names) → Behind earlier p es ms → Stands all p es ms (joined_behind earlier n trees) → FilesFit earlier trees → (behind_items all p (joined_behind earlier n trees)).cells ≤ 1048576 → IsHeld (items all p (joined_behind earlier n trees)) × (placed.items all p (joined_behind earlier n trees) ≡ [])
  files_hold [] earlier n p es ms behind there fits few = (tt, refl)
  files_hold (tree ∷ trees) earlier n p es ms behind there fits few =
      let own = fits.0 in
      let file = context_of (tree.items ++ own.stubs) in
      let js = moved_items n (without (structs_of earlier) tree.items) in
      let later = joined_behind (earlier ++ tree.items) (n + most_text_bytes) trees in
      let after = behind_items all p js in
      let few_after : (behind_items all after later).cells ≤ 1048576 = subst (λ x. x.cells ≤ 1048576) (behind_append all p js later) few in
      let few_now : after.cells ≤ 1048576 = at_most after.cells (behind_items all after later).cells 1048576 (grows all after later) few_after in
      let e = file_ends n file all own.ren own.agree earlier own.stubs own.functions tree.items later at_the_start p [] es [] ms (stands_alone (tree.items ++ own.stubs)) there (begins file own.ren earlier p es ms behind) own.apart own.calls few_now own.held in
      let rest = files_hold trees (earlier ++ tree.items) (n + most_text_bytes) after (with_structs es js) (with_functions ms js)
      (record {
        kept = λ x m h. kept_items all js p x m (behind.kept x m h);
        source = λ x h. from_items n (earlier ++ tree.items) (without (structs_of earlier) tree.items) p x (λ i m. in_second i earlier tree.items (in_kept (structs_of earlier) tree.items i m)) (from_more earlier tree.items x (meaning_in p.names x) (behind.source x h));
        structs = λ x. e.related.structs x ∙ sym (both_structs earlier tree.items x);
        functions = λ x. e.related.functions x ∙ sym (both_functions earlier tree.items x);
      })
      e.there fits.1 few_after in
      (e.held rest.0, e.in_place own.in_place rest.1)

  nothing_behind : Behind [] at_the_start [] []
  nothing_behind = record { kept = λ x m h. h; source = λ x h. subst (From [] x) (sym h) tt; structs = λ x. refl; functions = λ x. refl }

held_made : (j : Judged Made) → IsHeld j → (m : Made) × (j ≡ Holds m)
held_made (Holds m) h = (m, refl)
held_made (Faulty f fs) h = absurd h

-- files that go together have a program
pub joined_typed : (trees : List t.Tree) → FilesFit (context_of (joined trees).items) [] trees → (behind_items (context_of (joined trees).items) at_the_start (joined trees).items).cells ≤ 1048576 → (program : Program) × Typed (joined trees) program × (placed.placed_faults (joined trees) ≡ [])
joined_typed trees fits few =
    let is = (joined trees).items in
    let all = context_of is in
    let h = files_hold all trees [] 0 at_the_start [] [] (nothing_behind all) (stands_alone all is) fits few in
    let q = held_made (items all at_the_start is) h.0 in
    (program_of is q.0, ap (λ j. with_part j (λ made. Holds (program_of is made))) q.1, h.1)
