-- Facts that a set lacks, and effects that it may cross.
use Rattle.std.specs.Prelude.{◌<◌, ◌≤◌, Bool, not, List, length, get_or}
use Rattle.std.specs.List.{list_any}
use Rattle.rc_facts.specs.declared.fact.Fact.{Fact}
use Rattle.rc_facts.specs.Facts.{Known}
use Rattle.rc_rlang.specs.RegionFlow.{Effect, nothing, nulled, moved, fixed, beside, made, under, loaded, looked_at, stored, present, absent, called, entered}
use Rattle.rc_facts.specs.Flow.{Facts, no_set}
use Rattle.rc_edges.specs.News.{places_of}

-- it lacks one of them
abbrev pub lacks : Facts → List Fact → Bool
lacks set facts = list_any (λ p. not (set p)) facts

-- a call is of a function whose exit is given, and speaks of as many variables at least as the call has places
abbrev pub CallFits : List Known → Effect → Type 0
CallFits exits nothing = Unit {0}
CallFits exits (nulled x) = Unit {0}
CallFits exits (moved x y) = Unit {0}
CallFits exits (fixed x) = Unit {0}
CallFits exits (beside x y) = Unit {0}
CallFits exits (made x) = Unit {0}
CallFits exits (under x y) = Unit {0}
CallFits exits (loaded x y note) = Unit {0}
CallFits exits (looked_at y) = Unit {0}
CallFits exits (stored z y note) = Unit {0}
CallFits exits (present y) = Unit {0}
CallFits exits (absent y) = Unit {0}
CallFits exits (called x g arguments) = (g < length exits) × (length (places_of arguments x) ≤ (get_or exits g no_set).variables)
CallFits exits (entered pairs) = Unit {0}
