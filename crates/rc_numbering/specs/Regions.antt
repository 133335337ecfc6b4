-- What region code means, as a program's meaning is said: by itself, from the world in which its structs, globals and strings stand in
-- region 0, on an input and under limits. And that its image means it over a store: for all region code whose parts fit together, whether a
-- program was translated to it or not.
use Rattle.std.specs.Prelude.{◌≡◌, ℕ, true, List, [], ◌∷◌, ◌++◌, map}
use Rattle.rc_base.specs.declared.ends.Limits.{Limits}
use Rattle.rc_core.specs.Heap.{Heap, global_object, literal}
use Rattle.rc_core.specs.Meaning.{Meaning, meaning_of_run, left_by_run}
use Rattle.rc_core.specs.Source.{World, source}
use Rattle.rc_rlang.specs.RegionCode.{Rlang}
use Rattle.rc_rlang.specs.RegionRuns.{run_main}
use Rattle.rc_code.specs.ImageMeaning.{image_meaning, image_left}
use Rattle.rc_numbering.specs.Numbered.{image_of}

abbrev pub region_heap : Rlang → Heap
region_heap r = record { parent = 0; alive = true; objects = map (global_object r.structs) r.globals ++ map literal r.strings } ∷ []

abbrev pub region_world : Rlang → (input : List ℕ) → Limits → World
region_world r input limits = record { turns = limits.turns; input = input; acts = []; heap = region_heap r; waiting = []; regions = limits.regions; blocks = limits.blocks }

abbrev pub region_meaning : Rlang → (input : List ℕ) → Limits → Meaning
region_meaning r input limits = meaning_of_run input (run_main source r (region_world r input limits))

abbrev pub RegionMeansTheSame : Rlang → Type 0
RegionMeansTheSame r = (input : List ℕ) (limits : Limits) → image_meaning (image_of r) input limits ≡ region_meaning r input limits

-- where it exits
abbrev pub RegionLeavesTheSame : Rlang → Type 0
RegionLeavesTheSame r = (input : List ℕ) (limits : Limits) → image_left (image_of r) input limits ≡ left_by_run (run_main source r (region_world r input limits))
