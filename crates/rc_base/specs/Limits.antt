-- The limits of the language: how large a program may be, and what a run may be asked to use.
use Rattle.std.specs.Prelude.{ℕ}

-- bytes of a text
abbrev pub most_text_bytes : ℕ
most_text_bytes = 1048576

-- words of a text, of which each has a byte at least
abbrev pub most_words : ℕ
most_words = 1048576

-- bytes of a string of a program
abbrev pub most_string_bytes : ℕ
most_string_bytes = 1048576

-- words of a whole program, and so the strings of one
abbrev pub most_program_words : ℕ
most_program_words = 16777216

-- depth of a word: statements, unary expressions and last parts of a choice round it
abbrev pub most_depth : ℕ
most_depth = 200

-- reach of a word: its number among the words of the outermost expression, from 1
abbrev pub most_reach : ℕ
most_reach = 1024

-- cells of a struct
abbrev pub most_struct_cells : ℕ
most_struct_cells = 4096

-- cells of a struct that is copied whole
abbrev pub most_copied_cells : ℕ
most_copied_cells = 256

-- cells of all globals together
abbrev pub most_global_cells : ℕ
most_global_cells = 1048576

-- region variables of a function
abbrev pub most_variables : ℕ
most_variables = 128

-- points of a program
abbrev pub most_points : ℕ
most_points = 65536

-- bytes of an image
abbrev pub most_image_bytes : ℕ
most_image_bytes = 268435456

-- turns of a run that can be asked for, and those of a run that asks for none
abbrev pub most_turns : ℕ
most_turns = 1000000000000

abbrev pub usual_turns : ℕ
usual_turns = 100000000

-- regions made by a run, and objects of a region, that can be asked for
abbrev pub most_regions : ℕ
most_regions = 4294967295

abbrev pub most_blocks : ℕ
most_blocks = 4294967295

-- bytes that a buffer to or from the outside holds
abbrev pub buffer_bytes : ℕ
buffer_bytes = 4096
