-- What the words on the command line ask.
use Rattle.std.specs.Prelude.{ℕ, Bool, List, [], ◌∷◌, ◌&&◌, length, nat_le, Option, Some, None, codes, if◌then◌else◌}
use Rattle.std.specs.Char.{is_ascii_digit}
use Rattle.std.specs.List.{list_all}
use Rattle.std.specs.Option.{option_map}
use Rattle.std.specs.Fmt.{decimal}
use Rattle.std.specs.Str.{bytes_eq}
use Rattle.std.specs.Str.Parse.{digits_value}
use Rattle.rc_base.specs.declared.ends.Limits.{Limits}
use Rattle.rc_base.specs.Limits.{most_turns, usual_turns, most_regions, most_blocks}
use Rattle.rc_linking.specs.Limits.{most_files}

pub data Request : Type 0 where
  -- to run the program of this file within these limits
  Run : (file : List ℕ) → Limits → Request
  -- to run it node by node
  Slow : (file : List ℕ) → Limits → Request
  -- to store the image of the first file's program under the second name
  Compile : (from to : List ℕ) → Request
  -- to run the image of this file within these limits
  Exec : (file : List ℕ) → Limits → Request
  -- to list the image of this file
  Listing : (file : List ℕ) → Request
  -- to store the image of the first file under the second name, in the newest version of the format
  Upgrade : (from to : List ℕ) → Request
  -- to run the heap commands of this file within these limits; a script takes no turns
  Script : (file : List ℕ) → Limits → Request
  -- to report on the checks of this file's program
  Checks : (file : List ℕ) → Request
  -- to run the program that is made from this number, and to sum it up
  Soak : (n : ℕ) → Request
  -- to run the tasks of this file by these choices within these limits
  Tasks : (file choices : List ℕ) → Limits → Request
  -- to store the image of the program that these files are together under a name
  Link : (to : List ℕ) → (files : List (List ℕ)) → Request
  -- to store the image of the first file under the second name, with proofs of which of its checks are not needed
  Seal : (from to : List ℕ) → Request

-- the number of a word of decimal digits without a leading zero, where it is no more than `most`
abbrev pub number_within : (most : ℕ) → List ℕ → Option ℕ
number_within most word = let n = digits_value 10 word in if bytes_eq (decimal n) word && nat_le n most then Some n else None

-- the number of an option, and the words behind it
pub record Chosen : Type 0 where
  pub number : ℕ
  pub rest : List (List ℕ)

-- where the option stands first, its number is the next word; where it doesn't, the number is `default`, and no word is taken
abbrev pub option : (name : List ℕ) → (most default : ℕ) → List (List ℕ) → Option Chosen
option name most default (word ∷ number ∷ rest) =
    if bytes_eq word name then option_map (λ n. record { number = n; rest = rest }) (number_within most number) else Some (record { number = default; rest = word ∷ number ∷ rest })
option name most default words = Some (record { number = default; rest = words })

abbrev pub choosing : Option Chosen → (ℕ → List (List ℕ) → Option Limits) → Option Limits
choosing None next = None
choosing (Some chosen) next = next chosen.number chosen.rest

abbrev pub at_end : Limits → List (List ℕ) → Option Limits
at_end limits [] = Some limits
at_end limits (word ∷ words) = None

-- the options of a heap in their order, each at most once, beside so many turns
abbrev pub limits_within : (turns : ℕ) → List (List ℕ) → Option Limits
limits_within turns words =
    choosing (option (codes "--regions") most_regions most_regions words) (λ regions words.
    choosing (option (codes "--blocks") most_blocks most_blocks words) (λ blocks words.
    at_end (record { turns = turns; regions = regions; blocks = blocks }) words))

-- and that of turns before them
abbrev pub limits_of : List (List ℕ) → Option Limits
limits_of words = choosing (option (codes "--turns") most_turns usual_turns words) limits_within

-- those of a run that asks for none
abbrev pub usual_limits : Limits
usual_limits = record { turns = usual_turns; regions = most_regions; blocks = most_blocks }

-- nothing stands behind
abbrev pub ending : Request → List (List ℕ) → Option Request
ending request [] = Some request
ending request (word ∷ words) = None

-- one word more, which is a name
abbrev pub ending_in_name : (List ℕ → Request) → List (List ℕ) → Option Request
ending_in_name request (name ∷ []) = Some (request name)
ending_in_name request words = None

-- the largest number from which a program is made
abbrev pub most_made : ℕ
most_made = 18446744073709551615

-- a number, and nothing behind it
abbrev pub ending_number : (ℕ → Request) → (word : List ℕ) → List (List ℕ) → Option Request
ending_number request word [] = option_map request (number_within most_made word)
ending_number request word (other ∷ words) = None

-- at most so many choices
abbrev pub most_choices : ℕ
most_choices = 1000

-- a word of choices: from one to so many decimal digits
abbrev pub are_choices : List ℕ → Bool
are_choices word = (nat_le 1 (length word) && nat_le (length word) most_choices) && list_all is_ascii_digit word

-- choices, and the options of a run behind them
abbrev pub with_choices : ((choices : List ℕ) → Limits → Request) → List (List ℕ) → Option Request
with_choices request (choices ∷ options) = if are_choices choices then option_map (request choices) (limits_of options) else None
with_choices request [] = None

-- from one to so many names of files
abbrev pub with_files : (List (List ℕ) → Request) → List (List ℕ) → Option Request
with_files request files = if nat_le 1 (length files) && nat_le (length files) most_files then Some (request files) else None

-- a verb, any word as the name of a file, and options, other names or choices, or a number; none for every other list of words
abbrev pub request_of : List (List ℕ) → Option Request
request_of (verb ∷ file ∷ rest) =
    if bytes_eq verb (codes "run") then option_map (Run file) (limits_of rest) else
    if bytes_eq verb (codes "slow") then option_map (Slow file) (limits_of rest) else
    if bytes_eq verb (codes "compile") then ending_in_name (Compile file) rest else
    if bytes_eq verb (codes "exec") then option_map (Exec file) (limits_of rest) else
    if bytes_eq verb (codes "list") then ending (Listing file) rest else
    if bytes_eq verb (codes "upgrade") then ending_in_name (Upgrade file) rest else
    if bytes_eq verb (codes "heap") then option_map (Script file) (limits_within 0 rest) else
    if bytes_eq verb (codes "checks") then ending (Checks file) rest else
    if bytes_eq verb (codes "soak") then ending_number Soak file rest else
    if bytes_eq verb (codes "tasks") then with_choices (Tasks file) rest else
    if bytes_eq verb (codes "link") then with_files (Link file) rest else
    if bytes_eq verb (codes "seal") then ending_in_name (Seal file) rest else None
request_of _ = None
