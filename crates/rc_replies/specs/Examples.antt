-- Scripts with what they answer.
use Rattle.std.specs.Prelude.{◌≡◌, ℕ, List, codes}
use Rattle.rc_base.specs.declared.ends.Limits.{Limits}
use Rattle.rc_replies.specs.Replies.{heap_text}

abbrev pub within : (regions blocks : ℕ) → Limits
within regions blocks = record { turns = 0; regions = regions; blocks = blocks }

-- two regions that name each other go together and not alone, and no number is used again
abbrev pub two_that_name_each_other : List ℕ
two_that_name_each_other = codes "new 0\nnew 0\ncell 1 1\ncell 2 1\nlink 1 0 0 2\nlink 2 0 0 1\ndrop 1\ndrop 1 2\nnew 0\ndrop 1"

-- a subregion, a pin and region 0 keep a set
abbrev pub a_parent_with_children : List ℕ
a_parent_with_children = codes "new 0\nnew 1\nnew 1\ndrop 1 2\npin 3\ndrop 1 2 3\nunpin 3\ndrop 3 1 2\ndrop 0"

-- bad lines: words that are no numbers, too few, too many, an empty line, a space too much
abbrev pub bad_lines : List ℕ
bad_lines = codes "new\nnew 00\nnew 0 0\n\nnew  0\nnew 0 \npin 4294967296\ndrop\ndrop 0 0\ndrop 1\ncell 0 1\nlink 0 0 1 0\nlink 0 0 0 1\nlink 0 0 0 -\nunpin 0\nNew 0\n"

pub record ExamplesCompute : Type 0 where
  pub mutual_references : heap_text two_that_name_each_other (within 10 10) ≡ codes "region 1\nregion 2\nobject 0\nobject 0\nok\nok\nreference\nok\nregion 3\nbad\n"
  pub children : heap_text a_parent_with_children (within 10 10) ≡ codes "region 1\nregion 2\nregion 3\nsubregion\nok\nreference\nok\nok\nroot\n"
  pub full : heap_text (codes "new 0\nnew 0\n") (within 1 10) ≡ codes "region 1\nfull\n"
  pub bad : heap_text bad_lines (within 10 10) ≡ codes "bad\nbad\nbad\nbad\nbad\nbad\nbad\nbad\nbad\nbad\nobject 0\nbad\nbad\nok\nbad\nbad\n"
