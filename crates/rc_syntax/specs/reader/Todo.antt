-- What is left to be read of a symbol, for a reader of one word at a time.
use Rattle.std.specs.Prelude.{ℕ, Bool, true, false}
use Rattle.rc_syntax.specs.declared.tree.Spot.{Spot}
use Rattle.rc_syntax.specs.Tokens.{Word}
use Rattle.rc_syntax.specs.Grammar.{Symbol, TreeOf, Placed}

-- Nothing may stand here; the symbol is complete; the word is read and then this is left, or else that; a symbol is read;
-- what is left depends on how many words were read and on the next one; a symbol is read whose words may be none, and
-- which has this tree then; and a symbol that began behind so many words, at the spot, is gone on with.
pub data Todo : Symbol → Type 0 where
  stop : {s : Symbol} → Todo s
  build : {s : Symbol} → TreeOf s → Todo s
  try : {s : Symbol} → (Placed → Todo s) → Todo s → Todo s
  enter : {s : Symbol} (i : Symbol) → (TreeOf i → Todo s) → Todo s
  peek : {s : Symbol} → (ℕ → Placed → Todo s) → Todo s
  begin : {s : Symbol} (i : Symbol) → TreeOf i → (TreeOf i → Todo s) → Todo s
  resume : {s : Symbol} → Spot → ℕ → (i : Symbol) → (TreeOf i → Todo s) → Todo i → Todo s

-- What a word leads to: it is read, or it begins a symbol inside.
pub data Deeper : Symbol → Type 0 where
  only : {s : Symbol} → Todo s → Deeper s
  within : {s : Symbol} (i : Symbol) → (TreeOf i → Todo s) → Deeper i → Deeper s

abbrev pub is_stop : {s : Symbol} → Todo s → Bool
is_stop stop = true
is_stop _ = false

abbrev pub refuses : {s : Symbol} → Deeper s → Bool
refuses (only td) = is_stop td
refuses (within i h d) = refuses d

abbrev pub when : {s : Symbol} → Bool → Todo s → Todo s
when true td = td
when false td = stop

abbrev pub sees : {s : Symbol} → (Word → Bool) → Todo s → Placed → Todo s
sees test td p = when (test p.word) td

abbrev pub read : {s : Symbol} → (Placed → Todo s) → Todo s
read f = try f stop

abbrev pub deeper : {s : Symbol} → Bool → Deeper s → Deeper s → Deeper s
deeper true d e = e
deeper false d e = d

abbrev pub or_else : {s : Symbol} → Deeper s → Deeper s → Deeper s
or_else d e = deeper (refuses d) d e
