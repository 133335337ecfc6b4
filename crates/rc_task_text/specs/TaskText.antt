-- The text of a program of tasks: the text of a file, a line feed, and three lines that run its tasks by a list of choices, which are digits.
use Rattle.std.specs.Prelude.{ℕ, ◌+◌, ◌<◌, ◌≤◌, nat_eq, Bool, List, [], ◌∷◌, ◌++◌, length, codes, decimal, if◌then◌else◌}
use Rattle.std.specs.List.{list_any, flat_map, AllByRecursion as Every}

-- from 1 to 1,000 digits
abbrev pub AreChoices : List ℕ → Type 0
AreChoices choices = Every (λ b. (48 ≤ b) × (b < 58)) choices × (1 ≤ length choices) × (length choices ≤ 1000)

-- the digit is among the choices
abbrev pub is_chosen : List ℕ → (digit : ℕ) → Bool
is_chosen choices digit = list_any (nat_eq digit) choices

-- the call of one task, with a blank in front
abbrev pub call_text : (task : ℕ) → List ℕ
call_text d = codes " if (c == '" ++ (decimal d ++ (codes "') task_" ++ (decimal d ++ codes "();")))

abbrev pub call_if_chosen : List ℕ → (task : ℕ) → List ℕ
call_if_chosen choices d = if is_chosen choices (48 + d) then call_text d else []

-- the calls of the tasks that are chosen, each once, in the order of their numbers
abbrev pub calls_text : List ℕ → List ℕ
calls_text choices = flat_map (call_if_chosen choices) (0 ∷ 1 ∷ 2 ∷ 3 ∷ 4 ∷ 5 ∷ 6 ∷ 7 ∷ 8 ∷ 9 ∷ [])

-- the line feed behind the text, and the counter of the choices that were taken
abbrev pub counter_line : List ℕ
counter_line = codes "\nunsigned rc_at;\n"

abbrev pub yield_line : List ℕ → List ℕ
yield_line choices =
    codes "void yield(void) deletes { char *s = \"" ++ (choices ++ (codes "\"; char c; if (rc_at < " ++ (decimal (length choices) ++ (codes ") { c = s[rc_at]; rc_at++;" ++ (calls_text choices ++ codes " } }\n")))))

abbrev pub main_line : (count : ℕ) → List ℕ
main_line count = codes "int main(void) deletes { start(); while (rc_at < " ++ (decimal count ++ codes ") yield(); return 0; }\n")

abbrev pub task_lines : List ℕ → List ℕ
task_lines choices = counter_line ++ (yield_line choices ++ main_line (length choices))

abbrev pub task_text_of : (text choices : List ℕ) → List ℕ
task_text_of text choices = text ++ task_lines choices
