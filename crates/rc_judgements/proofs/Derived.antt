-- What holds of every symbol that words derive, by its productions.
use Rattle.std.specs.Prelude.{List, [], ◌∷◌, ◌++◌}
use Rattle.rc_syntax.specs.declared.tree.Spot.{Spot}
use Rattle.rc_syntax.specs.Tokens.{Word}
use Rattle.rc_syntax.specs.Grammar.{Symbol, TreeOf, Placed, Part, word, node, Rule, BeginAt, Derives, itself, by, DeriveAll, done, then}

-- The fact holds of these parts, and of their words.
pub data KnownAll (P : (s : Symbol) → TreeOf s → List Placed → Type 0) : List Placed → List Part → Type 0 where
  k_done : KnownAll P [] []
  k_word : {i : Word} {o : Spot} {ys : List Placed} {ps : List Part} → KnownAll P ys ps → KnownAll P (record { word = i; spot = o } ∷ ys) (word i ∷ ps)
  k_node : (xs : List Placed) {ys : List Placed} {s : Symbol} {a : TreeOf s} {ps : List Part} → P s a xs → KnownAll P ys ps → KnownAll P (xs ++ ys) (node s a ∷ ps)

-- where the fact is to hold of a part
abbrev pub KnownPart : ((s : Symbol) → TreeOf s → List Placed → Type 0) → Part → List Placed → Type 0
KnownPart P (word i) ws = Unit {0}
KnownPart P (node s a) ws = P s a ws

module _ (P : (s : Symbol) → TreeOf s → List Placed → Type 0) (step : (s : Symbol) (at : Spot) (a : TreeOf s) (ps : List Part) (ws : List Placed) → BeginAt at ws → Rule at s a ps → KnownAll P ws ps → P s a ws) where
  mutual
    pub derived : {ws : List Placed} {p : Part} → Derives ws p → KnownPart P p ws
    derived itself = tt
    derived (by {ws = ws} {at = at} {s = s} {a = a} {parts = ps} e rule ds) = step s at a ps ws e rule (all_derived ds)

    pub all_derived : {ws : List Placed} {ps : List Part} → DeriveAll ws ps → KnownAll P ws ps
    all_derived done = k_done
    all_derived (then itself ds) = k_word (all_derived ds)
    all_derived (then {xs = xs} {p = node s a} d ds) = k_node xs (derived d) (all_derived ds)
