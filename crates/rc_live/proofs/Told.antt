-- What effects tell, bit by bit. Identities of Booleans are shown by trying each of them.
use Rattle.std.proofs.Common.{◌≡◌, ◌<◌, ℕ, zero, suc, Bool, true, false, ◌||◌, ◌&&◌, refl, sym, ap, ◌∙◌}
use Rattle.std.specs.Prelude.{nat_lt, not, nat_eq}
use Rattle.std.proofs.lemmas.Bool.{and_parts, lt-ltb}
use Rattle.rc_base.specs.BitSets.{marks}
use Rattle.rc_core.specs.Live.{unless_set}
use Rattle.rc_live.specs.declared.effects.Effect.{Effect}
use Rattle.rc_live.specs.Effects.{told}

-- a Boolean that depends on so many
abbrev Table : ℕ → Type 0
Table zero = Bool
Table (suc n) = Bool → Table n

abbrev holds : (n : ℕ) → Table n → Bool
holds zero b = b
holds (suc n) f = holds n (f true) && holds n (f false)

abbrev Always : (n : ℕ) → Table n → Type 0
Always zero b = b ≡ true
Always (suc n) f = (x : Bool) → Always n (f x)

split : (n : ℕ) (f : Table (suc n)) → Always n (f true) → Always n (f false) → Always (suc n) f
split n f t u true = t
split n f t u false = u

always : (n : ℕ) (f : Table n) → holds n f ≡ true → Always n f
always zero b h = h
always (suc n) f h = split n f (always n (f true) (and_parts (holds n (f true)) (holds n (f false)) h).0) (always n (f false) (and_parts (holds n (f true)) (holds n (f false)) h).1)

abbrev alike : Bool → Bool → Bool
alike true b = b
alike false b = not b

same : (a b : Bool) → alike a b ≡ true → a ≡ b
same true true h = refl
same true false h = sym h
same false true h = h
same false false h = refl

-- the four rows of a bit, and the three ways
abbrev tell : (own next broken continued : Bool) → (n b c : Bool) → Bool
tell own next broken continued n b c = own || ((next && n) || ((broken && b) || (continued && c)))

by_rows : (e : Effect) (j : ℕ) (o m p q n b c : Bool) → marks e.own j ≡ o → marks e.next j ≡ m → marks e.broken j ≡ p → marks e.continued j ≡ q → told e j n b c ≡ tell o m p q n b c
by_rows e j o m p q n b c h i k l =
    ap (λ t. tell t (marks e.next j) (marks e.broken j) (marks e.continued j) n b c) h ∙ ap (λ t. tell o t (marks e.broken j) (marks e.continued j) n b c) i
    ∙ ap (λ t. tell o m t (marks e.continued j) n b c) k ∙ ap (λ t. tell o m p t n b c) l

abbrev pub Empty : ℕ → Type 0
Empty row = (x : ℕ) → marks row x ≡ false

abbrev pub Full : ℕ → Type 0
Full row = (x : ℕ) → marks row x ≡ nat_lt x 128

abbrev pub Either : (row a b : ℕ) → Type 0
Either row a b = (x : ℕ) → marks row x ≡ (marks a x || marks b x)

abbrev pub Both : (row a b : ℕ) → Type 0
Both row a b = (x : ℕ) → marks row x ≡ (marks a x && marks b x)

pub full_at : (row j : ℕ) → Full row → j < 128 → marks row j ≡ true
full_at row j f l = f j ∙ lt-ltb j 128 l

pub none_told : (e : Effect) → Empty e.own → Empty e.next → Empty e.broken → Empty e.continued → (j : ℕ) (n b c : Bool) → told e j n b c ≡ false
none_told e h i k l j n b c = by_rows e j false false false false n b c (h j) (i j) (k j) (l j)

pub passing_told : (e : Effect) → Empty e.own → Full e.next → Empty e.broken → Empty e.continued → (j : ℕ) (n b c : Bool) → j < 128 → told e j n b c ≡ n
passing_told e h i k l j n b c m = by_rows e j false true false false n b c (h j) (full_at e.next j i m) (k j) (l j) ∙ same _ _ (always 3 (λ n b c. alike (tell false true false false n b c) n) refl n b c)

pub breaking_told : (e : Effect) → Empty e.own → Empty e.next → Full e.broken → Empty e.continued → (j : ℕ) (n b c : Bool) → j < 128 → told e j n b c ≡ b
breaking_told e h i k l j n b c m = by_rows e j false false true false n b c (h j) (i j) (full_at e.broken j k m) (l j) ∙ same _ _ (always 3 (λ n b c. alike (tell false false true false n b c) b) refl n b c)

pub continuing_told : (e : Effect) → Empty e.own → Empty e.next → Empty e.broken → Full e.continued → (j : ℕ) (n b c : Bool) → j < 128 → told e j n b c ≡ c
continuing_told e h i k l j n b c m = by_rows e j false false false true n b c (h j) (i j) (k j) (full_at e.continued j l m)

pub setting_told : (e : Effect) → Empty e.own → Empty e.broken → Empty e.continued → (j x local : ℕ) (n b c : Bool) → marks e.next j ≡ unless_set local x true → unless_set local x n ≡ told e j n b c
setting_told e h k l j x local n b c i =
    sym (by_rows e j false (unless_set local x true) false false n b c (h j) i (k j) (l j) ∙ same _ _ (always 4 (λ s n b c. alike (tell false (s && true) false false n b c) (s && n)) refl (not (nat_eq local x)) n b c))

pub reading_told : (e one : Effect) (row : ℕ) → Either e.own row one.own → e.next ≡ one.next → e.broken ≡ one.broken → e.continued ≡ one.continued → (j : ℕ) (n b c : Bool) → told e j n b c ≡ (marks row j || told one j n b c)
reading_told e one row h i k l j n b c =
    by_rows e j (marks row j || marks one.own j) (marks one.next j) (marks one.broken j) (marks one.continued j) n b c (h j) (ap (λ r. marks r j) i) (ap (λ r. marks r j) k) (ap (λ r. marks r j) l)
    ∙ or_parts (marks row j) (marks one.own j) _
  where
    or_parts : (r o t : Bool) → ((r || o) || t) ≡ (r || (o || t))
    or_parts true o t = refl
    or_parts false o t = refl

pub last_told : (e one : Effect) → e.own ≡ one.own → Empty e.next → e.broken ≡ one.broken → e.continued ≡ one.continued → (j : ℕ) (n b c : Bool) → told e j n b c ≡ told one j false b c
last_told e one h i k l j n b c =
    by_rows e j (marks one.own j) false (marks one.broken j) (marks one.continued j) n b c (ap (λ r. marks r j) h) (i j) (ap (λ r. marks r j) k) (ap (λ r. marks r j) l)
    ∙ same _ _ (always 6 (λ o m p q b c. alike (tell o false p q false b c) (tell o m p q false b c)) refl (marks one.own j) (marks one.next j) (marks one.broken j) (marks one.continued j) b c)

pub or_told : (e one other : Effect) → Either e.own one.own other.own → Either e.next one.next other.next → Either e.broken one.broken other.broken → Either e.continued one.continued other.continued →
    (j : ℕ) (n b c : Bool) → told e j n b c ≡ (told one j n b c || told other j n b c)
or_told e one other h i k l j n b c =
    by_rows e j (marks one.own j || marks other.own j) (marks one.next j || marks other.next j) (marks one.broken j || marks other.broken j) (marks one.continued j || marks other.continued j) n b c (h j) (i j) (k j) (l j)
    ∙ same _ _ (always 11 (λ n b c o m p q o' m' p' q'. alike (tell (o || o') (m || m') (p || p') (q || q') n b c) (tell o m p q n b c || tell o' m' p' q' n b c)) refl n b c
    (marks one.own j) (marks one.next j) (marks one.broken j) (marks one.continued j) (marks other.own j) (marks other.next j) (marks other.broken j) (marks other.continued j))

pub then_told : (e one later : Effect) (o m p q : ℕ) → Either e.own one.own o → Both o one.next later.own → Both e.next one.next later.next → Either e.broken one.broken p → Both p one.next later.broken →
    Either e.continued one.continued q → Both q one.next later.continued → (j : ℕ) (n b c : Bool) → told e j n b c ≡ told one j (told later j n b c) b c
then_told e one later o m p q h ho i k ko l lo j n b c =
    by_rows e j (marks one.own j || (marks one.next j && marks later.own j)) (marks one.next j && marks later.next j) (marks one.broken j || (marks one.next j && marks later.broken j)) (marks one.continued j || (marks one.next j && marks later.continued j)) n b c
    (h j ∙ ap (λ t. marks one.own j || t) (ho j)) (i j) (k j ∙ ap (λ t. marks one.broken j || t) (ko j)) (l j ∙ ap (λ t. marks one.continued j || t) (lo j))
    ∙ same _ _ (always 11 (λ n b c o m p q o' m' p' q'. alike (tell (o || (m && o')) (m && m') (p || (m && p')) (q || (m && q')) n b c) (tell o m p q (tell o' m' p' q' n b c) b c)) refl n b c
    (marks one.own j) (marks one.next j) (marks one.broken j) (marks one.continued j) (marks later.own j) (marks later.next j) (marks later.broken j) (marks later.continued j))

pub round_told : (e one again : Effect) (r o m : ℕ) → Either r one.next one.continued → Either e.own one.own o → Both o r again.own → Either e.next one.broken m → Both m r again.next → Both e.broken r again.broken → Both e.continued r again.continued →
    (j : ℕ) (n b c : Bool) → told e j n b c ≡ told one j (told again j n b c) n (told again j n b c)
round_told e one again r o m f h ho i io k l j n b c =
    by_rows e j (marks one.own j || ((marks one.next j || marks one.continued j) && marks again.own j)) (marks one.broken j || ((marks one.next j || marks one.continued j) && marks again.next j))
    ((marks one.next j || marks one.continued j) && marks again.broken j) ((marks one.next j || marks one.continued j) && marks again.continued j) n b c
    (h j ∙ ap (λ t. marks one.own j || t) (within o again.own ho)) (i j ∙ ap (λ t. marks one.broken j || t) (within m again.next io)) (within e.broken again.broken k) (within e.continued again.continued l)
    ∙ same _ _ (always 11 (λ n b c o m p q o' m' p' q'. alike (tell (o || ((m || q) && o')) (p || ((m || q) && m')) ((m || q) && p') ((m || q) && q') n b c) (tell o m p q (tell o' m' p' q' n b c) n (tell o' m' p' q' n b c))) refl n b c
    (marks one.own j) (marks one.next j) (marks one.broken j) (marks one.continued j) (marks again.own j) (marks again.next j) (marks again.broken j) (marks again.continued j))
  where
    within : (row part : ℕ) → Both row r part → marks row j ≡ ((marks one.next j || marks one.continued j) && marks part j)
    within row part w = w j ∙ ap (λ t. t && marks part j) (f j)
