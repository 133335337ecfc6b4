-- What an effect adds, as a list of facts on n variables. Of a call it is the facts of its function's exit, read with the call's arguments
-- in the places of the hidden copies, and with the variable that gets the result in the place behind them.
use Rattle.std.specs.Prelude.{ℕ, zero, suc, Bool, true, false, List, [], ◌∷◌, ◌++◌, Option, option_to_list}
use Rattle.rc_core.specs.declared.ty.Note.{Note}
use Rattle.rc_core.specs.declared.ty.Note.TheVariants.{Plain, SameRegion, ParentPtr, Traditional}
use Rattle.rc_facts.specs.declared.fact.Fact.{Fact}
use Rattle.rc_facts.specs.declared.fact.Fact.TheVariants.{In, Up, Trad, NonNull}
use Rattle.rc_facts.specs.Null.{null_news}
use Rattle.rc_rlang.specs.RegionFlow.{Effect, nothing, nulled, moved, fixed, beside, made, under, loaded, looked_at, stored, present, absent, called, entered}
use Rattle.rc_annotations.specs.Annotations.{Facts}

abbrev pub note_news : Note → (value holder : ℕ) → List Fact
note_news Plain value holder = []
note_news SameRegion value holder = In value holder ∷ []
note_news ParentPtr value holder = Up value holder ∷ []
note_news Traditional value holder = Trad value ∷ []

abbrev pub pair_news : List (ℕ × ℕ) → List Fact
pair_news [] = []
pair_news (c ∷ cs) = In c.0 c.1 ∷ In c.1 c.0 ∷ pair_news cs

abbrev pub fact_if : Bool → Fact → List Fact → List Fact
fact_if true p rest = p ∷ rest
fact_if false p rest = rest

-- of the place i, where u is, and of each place from j on
abbrev pub row_news : (exit : Facts) → (i u : ℕ) → List ℕ → (j : ℕ) → List Fact
row_news exit i u [] j = []
row_news exit i u (v ∷ vs) j = fact_if (exit (In i j)) (In u v) (fact_if (exit (Up i j)) (Up u v) (row_news exit i u vs (suc j)))

-- of each place from i on
abbrev pub rows_news : (exit : Facts) → (all : List ℕ) → List ℕ → (i : ℕ) → List Fact
rows_news exit all [] i = []
rows_news exit all (u ∷ us) i = fact_if (exit (Trad i)) (Trad u) (fact_if (exit (NonNull i)) (NonNull u) (row_news exit i u all 0 ++ rows_news exit all us (suc i)))

abbrev pub places_of : List ℕ → Option ℕ → List ℕ
places_of arguments x = arguments ++ option_to_list x

abbrev pub news_of : ℕ → (exits : ℕ → Facts) → Effect → List Fact
news_of n exits nothing = []
news_of n exits (nulled x) = null_news n x
news_of n exits (moved x y) = In x y ∷ In y x ∷ []
news_of n exits (fixed x) = Trad x ∷ NonNull x ∷ []
news_of n exits (beside x y) = NonNull y ∷ NonNull x ∷ In x y ∷ []
news_of n exits (made x) = NonNull x ∷ []
news_of n exits (under x y) = NonNull y ∷ NonNull x ∷ Up y x ∷ []
news_of n exits (loaded x y note) = NonNull y ∷ note_news note x y
news_of n exits (looked_at y) = NonNull y ∷ []
news_of n exits (stored z y note) = NonNull y ∷ note_news note z y
news_of n exits (present y) = NonNull y ∷ []
news_of n exits (absent y) = null_news n y
news_of n exits (called x g arguments) = rows_news (exits g) (places_of arguments x) (places_of arguments x) 0
news_of n exits (entered pairs) = pair_news pairs
