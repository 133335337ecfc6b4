-- Numbers are read as they are printed.
use Rattle.std.proofs.Common.{◌≡◌, ◌≤◌, ◌∙◌, ◌&&◌, ℕ, true, List, Some, None, cond, refl, sym, ap, arith, leb}
use Rattle.std.specs.Fmt.{decimal}
use Rattle.std.specs.Str.{bytes_eq}
use Rattle.std.specs.Str.Parse.{digits_value}
use Rattle.std.proofs.lemmas.Fmt.{decimal_is_IsNumeral}
use Rattle.std.proofs.lemmas.Slice.Eq.{bytes_eq-Decides}
use Rattle.std.proofs.lemmas.Bool.Decides.{nat_tests}
use Rattle.rc_replies.specs.Commands.{number_of}

value_of_decimal : (n : ℕ) → n ≤ 4294967295 → digits_value 10 (decimal n) ≡ n
value_of_decimal n small = (decimal_is_IsNumeral n (omega arith)).1

of_decimal : (n : ℕ) → n ≤ 4294967295 → number_of (decimal n) ≡ Some n
of_decimal n small =
    let same : bytes_eq (decimal n) (decimal n) ≡ true = (bytes_eq-Decides (decimal n) (decimal n)).1 refl in
    let within : leb n 4294967295 ≡ true = grind (arith, nat_tests) in
    ap (λ v. cond (bytes_eq (decimal v) (decimal n) && leb v 4294967295) (Some v) None) (value_of_decimal n small)
    ∙ ap (λ b. cond (b && leb n 4294967295) (Some n) None) same
    ∙ ap (λ b. cond b (Some n) None) within

pub number_found : (n : ℕ) (word : List ℕ) → n ≤ 4294967295 → bytes_eq (decimal n) word ≡ true → Some n ≡ number_of word
number_found n word small printed = sym (of_decimal n small) ∙ ap number_of ((bytes_eq-Decides (decimal n) word).0 printed)
