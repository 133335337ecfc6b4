-- A text of tasks is longer than the text that stands in front.
use Rattle.std.proofs.Common.{◌≡◌, ℕ, suc, ◌<◌, List, length, length-append, drop, refl, arith}
use Rattle.rc_base.specs.Limits.{most_text_bytes}
use Rattle.rc_compile.specs.Acceptance as acceptance
use Rattle.rc_compile.specs.Acceptance.{Refused}
use Rattle.rc_compile.specs.declared.refusal.Refusal.TheVariants.{TooLong}
use Rattle.rc_task_text.specs.TaskText.{task_lines, task_text_of}

pub longer : (text digits : List ℕ) → length text < length (task_text_of text digits)
longer text digits =
    let lines : length (task_lines digits) ≡ suc (length (drop 1 (task_lines digits))) = refl in
    omega (arith, length-append text (task_lines digits), lines)

-- stated for any limit, which is a large number
still_over : (most : ℕ) (text digits : List ℕ) → most < length text → most < length (task_text_of text digits)
still_over most text digits over = omega (arith, longer text digits, over)

pub too_long : (text digits : List ℕ) → most_text_bytes < length text → Refused (task_text_of text digits) TooLong
too_long text digits over = acceptance.too_long (still_over most_text_bytes text digits over) refl
