-- The names that the proofs here cite, passed on from one place.
pub use Rattle.rc_base.specs.declared.ends.Limits.{Limits}
pub use Rattle.rc_core.specs.Meaning.{meaning}
pub use Rattle.rc_core.specs.Numbers.{IsByte}
pub use Rattle.rc_core.specs.Programs.{Program}
pub use Rattle.rc_deletes.specs.Items.{Typed}
pub use Rattle.rc_deletes.specs.Ranges.{ItemsInRange}
pub use Rattle.rc_syntax.proofs.ByteLaws.{and_true, byte_test, drop_front, each_append, each_exact, each_mono, each_of_all, not_true, or_false, take_front}
pub use Rattle.rc_syntax.proofs.CutLaws.{look_reads, nothing, one_cut}
pub use Rattle.rc_syntax.proofs.Fronts.{alone, by_any}
pub use Rattle.rc_syntax.proofs.NumberLaws.{number_found, number_shape}
pub use Rattle.rc_syntax.proofs.PieceLaws.{begins_in, digit_look, or_left, or_right, string_look}
pub use Rattle.rc_syntax.proofs.Spelled.{spelling_in_line, spelling_look}
pub use Rattle.rc_syntax.proofs.Whole.{of_text, one_tree}
pub use Rattle.rc_syntax.specs.Bytes.{Each, begins, in_line, in_name, is_decimal, is_hexadecimal, is_letter, is_margin, is_octal, line_behind}
pub use Rattle.rc_syntax.specs.Grammar.{BeginAt, DeriveAll, Derives, Part, Placed, Rule, Symbol, TreeOf, by, done, itself, joined, level_of, mark_of, node, note_of, placed, then, word}
pub use Rattle.rc_syntax.specs.Literals.{Writes, WritesAll, hexadecimal, is_plain, octal, plain, simple, simple_escape}
pub use Rattle.rc_syntax.specs.Numerals.{Number}
pub use Rattle.rc_syntax.specs.Tokens.{Token, Word, character, key, mark, name, number, string}
pub use Rattle.rc_syntax.specs.Words.{Cut, Piece, Words, blank, block_comment, character_constant, continues_number, end, identifier, integer_constant, keyword, line_comment, piece, punctuator, skipped_line, string_literal, with_line}
pub use Rattle.rc_syntax.specs.declared.tree.BinaryOp.TheVariants.{Equal, Less}
pub use Rattle.rc_syntax.specs.declared.tree.Note.TheVariants.{Plain}
pub use Rattle.rc_syntax.specs.declared.tree.Spot.{Spot}
pub use Rattle.rc_syntax.specs.declared.tree.StepOp.TheVariants.{Increment}
pub use Rattle.rc_syntax.specs.declared.word.Key.{Key}
pub use Rattle.rc_syntax.specs.declared.word.Key.TheVariants.{Char, Deletes, If, Int, Return, Struct, Unsigned, Void, While}
pub use Rattle.rc_syntax.specs.reader.Look.{Class, Seen, class_of, hash, look, look_as, number_word}
pub use Rattle.rc_task_items.proofs.OwnTypes.{tasks_without}
pub use Rattle.rc_task_items.specs.Items.{appended_items, task_name, tasks_of_text, without_tasks}
pub use Rattle.rc_task_text.specs.TaskText.{AreChoices, call_if_chosen, call_text, calls_text, counter_line, is_chosen, main_line, task_text_of, yield_line}
pub use Rattle.rc_task_trees.specs.Choices.{choices_of}
pub use Rattle.rc_task_trees.specs.Ends.{EndsWithTasks}
pub use Rattle.rc_task_trees.specs.Programs.{TypesTasks}
pub use Rattle.rc_tasks.proofs.Whole.{means}
pub use Rattle.rc_tasks.specs.Appended.{ChooseTasks, HasOwnNames, appended, digit, occurs}
pub use Rattle.rc_tasks.specs.Tasks.{task_meaning}
pub use Rattle.std.proofs.Common.{None, Option, Some, ap, append-nil, append_assoc, arith, cond, drop, get_or, inl, inr, not, refl, subst, sym, take, zero, ◌&&◌, ◌+◌, ◌<◌, ◌||◌, ◌∙◌, ◌≡◌, ◌≤◌}
pub use Rattle.std.proofs.lemmas.Bool.Decides.{nat_tests}
pub use Rattle.std.proofs.lemmas.Fmt.{decimal_digit}
pub use Rattle.std.proofs.lemmas.List.{length-map}
pub use Rattle.std.proofs.lemmas.List.Sums.{sum_by-append}
pub use Rattle.std.specs.List.{list_all}
pub use Rattle.std.specs.Prelude.{codes, count_by, decimal, flat_map, nat_eq, nat_lt, ◌==◌, ◌⊎◌}
