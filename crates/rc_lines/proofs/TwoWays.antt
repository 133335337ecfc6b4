-- The code of a fork: its pieces stand one after another, and its two jumps are set when what they lead past is there.
use Rattle.std.proofs.Common.{◌≡◌, ℕ, suc, List, [], ◌∷◌, ◌++◌, length, refl, sym, ap, ◌∙◌, arith}
use Rattle.std.proofs.lemmas.List.{map-append, append_assoc, length-map, length-append}
use Rattle.rc_emission.specs.StackCode.{Line, jump, jump_zero}
use Rattle.rc_emission.specs.OperationCode.{line_of}
use Rattle.rc_lines.specs.Bare.{bare_line, bare_code}

-- two pieces behind a list are one
pub behind : {A : Type 0} (o s t l1 l2 : List A) → l1 ≡ o ++ s → l2 ≡ l1 ++ t → l2 ≡ o ++ (s ++ t)
behind o s t l1 l2 e f = f ∙ ap (λ l. l ++ t) e ∙ append_assoc o s t

-- the jump past the first way is set in a list, and that past the second
abbrev pub Turns : (line : ℕ) (w x : Line) (to_no : ℕ) (old new : List Line) → Type 0
Turns line w x to_no old new = (before after : List Line) (left : Line) → old ≡ before ++ (left ∷ after) → length before ≡ to_no → new ≡ (before ++ (line_of line (jump_zero (suc (suc (length after)))) ∷ (after ++ w ∷ []))) ++ x ∷ []

abbrev pub Joins : (line : ℕ) (w g2 : Line) (R : List Line) (to_end : ℕ) (old new : List Line) → Type 0
Joins line w g2 R to_end old new = (before after : List Line) (left : Line) → old ≡ before ++ (left ∷ after) → length before ≡ to_end → new ≡ before ++ (line_of line (jump (suc (length after))) ∷ (after ++ (w ∷ (R ++ g2 ∷ []))))

pub one_less : (k : List Line) (x : Line) (l : List Line) (n : ℕ) → l ≡ k ++ x ∷ [] → suc n ≡ length l → length k ≡ n
one_less k x l n e h = let a = ap length e in let b = length-append k (x ∷ []) in let u : length (x ∷ []) ≡ 1 = refl in omega (arith, a, b, u, h)

pub next_to : (k : List Line) (x : Line) (l m A : List Line) → l ≡ k ++ x ∷ [] → m ≡ l ++ A → m ≡ k ++ (x ∷ A)
next_to k x l m A e f = f ∙ ap (λ y. y ++ A) e ∙ append_assoc k (x ∷ []) A

-- the pieces, without what no image says
bared : (S G A B R : List Line) (z w j g2 : Line) →
    bare_code 0 (S ++ (G ++ (z ∷ (A ++ (w ∷ j ∷ (B ++ (w ∷ (R ++ g2 ∷ [])))))))) ≡ bare_code 0 (S ++ G) ++ (bare_line 0 z ∷ (bare_code 0 A ++ (bare_line 0 w ∷ bare_line 0 j ∷ (bare_code 0 B ++ (bare_line 0 w ∷ (bare_code 0 R ++ bare_line 0 g2 ∷ []))))))
bared S G A B R z w j g2 = ap (bare_code 0) (sym (append_assoc S G (z ∷ (A ++ (w ∷ j ∷ (B ++ (w ∷ (R ++ g2 ∷ []))))))))
    ∙ map-append (bare_line 0) (S ++ G) (z ∷ (A ++ (w ∷ j ∷ (B ++ (w ∷ (R ++ g2 ∷ []))))))
    ∙ ap (λ ls. bare_code 0 (S ++ G) ++ (bare_line 0 z ∷ ls)) (map-append (bare_line 0) A (w ∷ j ∷ (B ++ (w ∷ (R ++ g2 ∷ [])))))
    ∙ ap (λ ls. bare_code 0 (S ++ G) ++ (bare_line 0 z ∷ (bare_code 0 A ++ (bare_line 0 w ∷ bare_line 0 j ∷ ls)))) (map-append (bare_line 0) B (w ∷ (R ++ g2 ∷ [])))
    ∙ ap (λ ls. bare_code 0 (S ++ G) ++ (bare_line 0 z ∷ (bare_code 0 A ++ (bare_line 0 w ∷ bare_line 0 j ∷ (bare_code 0 B ++ (bare_line 0 w ∷ ls)))))) (map-append (bare_line 0) R (g2 ∷ []))

module _ (line : ℕ) (P A B R : List Line) (x w g2 : Line) (o l1 l2 l3 l4 l5 : List Line) (to_no to_end : ℕ) where
  pub forked : l1 ≡ (o ++ P) ++ x ∷ [] → suc to_no ≡ length l1 → l2 ≡ l1 ++ A → Turns line w x to_no l2 l3 → suc to_end ≡ length l3 → l4 ≡ l3 ++ B → Joins line w g2 R to_end l4 l5 →
      l5 ≡ o ++ (P ++ (line_of line (jump_zero (suc (suc (length A)))) ∷ (A ++ (w ∷ line_of line (jump (suc (length B))) ∷ (B ++ (w ∷ (R ++ g2 ∷ [])))))))
  forked e1 n1 e2 t n3 e4 j =
      let jz = line_of line (jump_zero (suc (suc (length A)))) in
      let rest = line_of line (jump (suc (length B))) ∷ (B ++ (w ∷ (R ++ g2 ∷ []))) in
      let e3 = t (o ++ P) A x (next_to (o ++ P) x l1 l2 A e1 e2) (one_less (o ++ P) x l1 to_no e1 n1) in
      let k = (o ++ P) ++ (jz ∷ (A ++ w ∷ [])) in
      j k B x (next_to k x l3 l4 B e3 e4) (one_less k x l3 to_end e3 n3)
      ∙ append_assoc (o ++ P) (jz ∷ (A ++ w ∷ [])) rest
      ∙ ap (λ ls. (o ++ P) ++ (jz ∷ ls)) (append_assoc A (w ∷ []) rest)
      ∙ append_assoc o P (jz ∷ (A ++ (w ∷ rest)))

pub forked_code : (line : ℕ) (S G A B R : List Line) (x w g2 : Line) (o l1 l2 l3 l4 l5 : List Line) (to_no to_end : ℕ) →
    l1 ≡ (o ++ bare_code 0 (S ++ G)) ++ x ∷ [] → suc to_no ≡ length l1 → l2 ≡ l1 ++ bare_code 0 A → Turns line (bare_line 0 w) x to_no l2 l3 → suc to_end ≡ length l3 → l4 ≡ l3 ++ bare_code 0 B → Joins line (bare_line 0 w) (bare_line 0 g2) (bare_code 0 R) to_end l4 l5 →
    l5 ≡ o ++ bare_code 0 (S ++ (G ++ (line_of line (jump_zero (suc (suc (length A)))) ∷ (A ++ (w ∷ line_of line (jump (suc (length B))) ∷ (B ++ (w ∷ (R ++ g2 ∷ []))))))))
forked_code line S G A B R x w g2 o l1 l2 l3 l4 l5 to_no to_end e1 n1 e2 t n3 e4 j =
    let v = bare_line 0 w in
    let c = bare_code 0 in
    let last = c B ++ (v ∷ (c R ++ bare_line 0 g2 ∷ [])) in
    forked line (c (S ++ G)) (c A) (c B) (c R) x v (bare_line 0 g2) o l1 l2 l3 l4 l5 to_no to_end e1 n1 e2 t n3 e4 j
    ∙ ap (λ n. o ++ (c (S ++ G) ++ (line_of line (jump_zero (suc (suc n))) ∷ (c A ++ (v ∷ line_of line (jump (suc (length (c B)))) ∷ last))))) (length-map A (bare_line 0))
    ∙ ap (λ n. o ++ (c (S ++ G) ++ (line_of line (jump_zero (suc (suc (length A)))) ∷ (c A ++ (v ∷ line_of line (jump (suc n)) ∷ last))))) (length-map B (bare_line 0))
    ∙ ap (λ ls. o ++ ls) (sym (bared S G A B R (line_of line (jump_zero (suc (suc (length A))))) w (line_of line (jump (suc (length B)))) g2))
