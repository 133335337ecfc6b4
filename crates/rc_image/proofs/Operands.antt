-- Instructions are read as they are spelled, and keep their rules.
use Rattle.std.proofs.Common.{◌≡◌, ℕ, zero, suc, ◌<◌, Bool, true, false, List, [], ◌∷◌, ◌++◌, length, Option, Some, None, Ok, refl, sym, ap, subst, ◌∙◌, append_assoc, arith}
use Rattle.std.specs.List.{AllByRecursion as Every}
use Rattle.rc_core.specs.declared.ty.Signedness.{Signedness}
use Rattle.rc_core.specs.declared.ty.Signedness.TheVariants.{Signed, Unsigned}
use Rattle.rc_core.specs.declared.operators.Direction.{Direction}
use Rattle.rc_core.specs.declared.operators.Direction.TheVariants.{Forward, Backward}
use Rattle.rc_code.specs.declared.opcode.Arithmetic.{Arithmetic}
use Rattle.rc_code.specs.declared.opcode.Arithmetic.TheVariants as arithmetic
use Rattle.rc_code.specs.declared.opcode.Typed.{Typed}
use Rattle.rc_code.specs.declared.opcode.Typed.TheVariants as typed
use Rattle.rc_code.specs.declared.opcode.Jump.{Jump}
use Rattle.rc_code.specs.declared.opcode.Jump.TheVariants as jump
use Rattle.rc_code.specs.declared.opcode.Simple.{Simple}
use Rattle.rc_code.specs.declared.opcode.Simple.TheVariants as simple
use Rattle.rc_code.specs.declared.opcode.Opcode.{Opcode}
use Rattle.rc_code.specs.declared.opcode.Opcode.TheVariants as opcode
use Rattle.rc_code.specs.declared.instruction.Instruction.{Instruction}
use Rattle.rc_code.specs.declared.instruction.Instruction.TheVariants as instruction
use Rattle.std.proofs.lemmas.List.Concat.{flat_map-cons}
use Rattle.rc_code.specs.Table.{number_of, numbered}
use Rattle.rc_code.proofs.Rows.{row_is, number_is}
use Rattle.rc_code.specs.Image.{IsNumber, kind_number, direction_number, bit, operands_of, opcode_of, InstructionFits}
use Rattle.rc_fields.specs.Spelling.{number, numbers, counted}
use Rattle.rc_image.specs.Spelling.{instruction_bytes}
use Rattle.rc_fields.specs.Reading.{◌>>=◌, number_at, kind_at}
use Rattle.rc_image.specs.Reading.{direction_of, direction_at, bit_of, bit_at, pins_at, operands_at, instruction_of, instruction_at}
use Rattle.rc_fields.proofs.Codecs.{IsBytes, ok_is, Takes, Takes-then, Takes-nothing, Law, number_law, takes_then, counted_law}
use Rattle.rc_fields.proofs.Fields.{Anything, Picks, pick_takes, pick_again, kind_small, kind_law}

direction_is : (left n : ℕ) (rest : List ℕ) (x : Direction × List ℕ) → direction_of left n rest ≡ Ok x → (n ≡ direction_number x.0) × (rest ≡ x.1)
direction_is left zero rest x e = let s = ok_is (Forward, rest) x e in (ap (λ (y : Direction × List ℕ). direction_number y.0) s, ap (λ (y : Direction × List ℕ). y.1) s)
direction_is left (suc zero) rest x e = let s = ok_is (Backward, rest) x e in (ap (λ (y : Direction × List ℕ). direction_number y.0) s, ap (λ (y : Direction × List ℕ). y.1) s)
direction_is left (suc (suc n)) rest x e = absurd cc

direction_again : (left : ℕ) (a : Direction) (rest : List ℕ) → direction_of left (direction_number a) rest ≡ Ok (a, rest)
direction_again left Forward rest = refl
direction_again left Backward rest = refl

direction_small : (a : Direction) → direction_number a < 4294967296
direction_small Forward = omega arith
direction_small Backward = omega arith

direction_picks : Picks direction_of direction_number
direction_picks = record { is = direction_is; again = direction_again; small = direction_small }

direction_law : Law direction_at (λ d. number (direction_number d)) Anything
unfolding direction_at
direction_law = record {
  takes = λ bytes x fits e. pick_takes direction_of direction_number direction_picks bytes x fits e;
  again = λ a rest f. pick_again direction_of direction_number direction_picks (length (number (direction_number a) ++ rest)) a rest;
}

bit_is : (left n : ℕ) (rest : List ℕ) (x : Bool × List ℕ) → bit_of left n rest ≡ Ok x → (n ≡ bit x.0) × (rest ≡ x.1)
bit_is left zero rest x e = let s = ok_is (false, rest) x e in (ap (λ (y : Bool × List ℕ). bit y.0) s, ap (λ (y : Bool × List ℕ). y.1) s)
bit_is left (suc zero) rest x e = let s = ok_is (true, rest) x e in (ap (λ (y : Bool × List ℕ). bit y.0) s, ap (λ (y : Bool × List ℕ). y.1) s)
bit_is left (suc (suc n)) rest x e = absurd cc

bit_again : (left : ℕ) (a : Bool) (rest : List ℕ) → bit_of left (bit a) rest ≡ Ok (a, rest)
bit_again left false rest = refl
bit_again left true rest = refl

bit_small : (a : Bool) → bit a < 4294967296
bit_small false = omega arith
bit_small true = omega arith

bit_picks : Picks bit_of bit
bit_picks = record { is = bit_is; again = bit_again; small = bit_small }

bit_law : Law bit_at (λ b. number (bit b)) Anything
unfolding bit_at
bit_law = record {
  takes = λ bytes x fits e. pick_takes bit_of bit bit_picks bytes x fits e;
  again = λ a rest f. pick_again bit_of bit bit_picks (length (number (bit a) ++ rest)) a rest;
}

-- ---- instructions

Takes-cons : (n : ℕ) (ns a b c : List ℕ) → Takes a (number n) b → Takes b (numbers ns) c → Takes a (numbers (n ∷ ns)) c
Takes-cons n ns a b c p q = subst (λ (t : List ℕ). Takes a t c) (sym (flat_map-cons number n ns)) (Takes-then a (number n) b (numbers ns) c p q)

Takes-one : (n : ℕ) (a b : List ℕ) → Takes a (number n) b → Takes a (numbers (n ∷ [])) b
Takes-one n a b p = Takes-cons n [] a b b p (Takes-nothing b p.rest_fits)

pins_law : Law pins_at (counted number) (λ pins. IsNumber (length pins) × Every IsNumber pins)
pins_law = counted_law number_at number IsNumber number_law

record IsRead (o : Opcode) (bytes : List ℕ) (x : Instruction × List ℕ) : Type 0 where
  pub row : opcode_of x.0 ≡ o
  pub takes : Takes bytes (numbers (operands_of x.0)) x.1
  pub fits : InstructionFits x.0

one : (made : ℕ → Instruction) (o : Opcode) → ((n : ℕ) → opcode_of (made n) ≡ o) → ((n : ℕ) → operands_of (made n) ≡ n ∷ []) → (bytes : List ℕ) (x : Instruction × List ℕ) → IsBytes bytes
    → (number_at bytes >>= λ n. Ok (made n.0, n.1)) ≡ Ok x → IsRead o bytes x
one made o row operands bytes x fits e =
    let b = takes_then number_at number IsNumber number_law (λ n. Ok (made n.0, n.1)) bytes x fits e in
    subst (λ (y : Instruction × List ℕ). IsRead o bytes y) (ok_is (made b.0.0, b.0.1) x b.3) (record {
      row = row b.0.0;
      takes = rw (operands b.0.0) (Takes-one b.0.0 bytes b.0.1 b.1);
      fits = record { operands = rw (operands b.0.0) (b.2, tt) };
    })

operands_take : (o : Opcode) (bytes : List ℕ) (x : Instruction × List ℕ) → IsBytes bytes → operands_at o bytes ≡ Ok x → IsRead o bytes x
operands_take (opcode.Constant kind) bytes x fits e = one (instruction.Constant kind) (opcode.Constant kind) (λ n. refl) (λ n. refl) bytes x fits e
operands_take opcode.Global bytes x fits e = one instruction.Global opcode.Global (λ n. refl) (λ n. refl) bytes x fits e
operands_take opcode.Get bytes x fits e = one instruction.Get opcode.Get (λ n. refl) (λ n. refl) bytes x fits e
operands_take opcode.Set bytes x fits e = one instruction.Set opcode.Set (λ n. refl) (λ n. refl) bytes x fits e
operands_take opcode.Load bytes x fits e = one instruction.Load opcode.Load (λ n. refl) (λ n. refl) bytes x fits e
operands_take (opcode.Typed typed) bytes x fits e = one (instruction.Typed typed) (opcode.Typed typed) (λ n. refl) (λ n. refl) bytes x fits e
operands_take (opcode.Jump jump) bytes x fits e = one (instruction.Jump jump) (opcode.Jump jump) (λ n. refl) (λ n. refl) bytes x fits e
operands_take (opcode.Arithmetic arithmetic) bytes x fits e =
    let b = takes_then kind_at (λ k. number (kind_number k)) Anything kind_law (λ k. Ok (instruction.Arithmetic arithmetic k.0, k.1)) bytes x fits e in
    subst (λ (y : Instruction × List ℕ). IsRead (opcode.Arithmetic arithmetic) bytes y) (ok_is (instruction.Arithmetic arithmetic b.0.0, b.0.1) x b.3)
    (record { row = refl; takes = Takes-one (kind_number b.0.0) bytes b.0.1 b.1; fits = record { operands = (kind_small b.0.0, tt) } })
operands_take opcode.Move bytes x fits e =
    let a = takes_then number_at number IsNumber number_law (λ type. kind_at type.1 >>= λ kind. direction_at kind.1 >>= λ direction. Ok (instruction.Move type.0 kind.0 direction.0, direction.1)) bytes x fits e in
    let b = takes_then kind_at (λ k. number (kind_number k)) Anything kind_law (λ kind. direction_at kind.1 >>= λ direction. Ok (instruction.Move a.0.0 kind.0 direction.0, direction.1)) a.0.1 x a.1.rest_fits a.3 in
    let c = takes_then direction_at (λ d. number (direction_number d)) Anything direction_law (λ direction. Ok (instruction.Move a.0.0 b.0.0 direction.0, direction.1)) b.0.1 x b.1.rest_fits b.3 in
    let last = Takes-one (direction_number c.0.0) b.0.1 c.0.1 c.1 in
    let two = Takes-cons (kind_number b.0.0) (direction_number c.0.0 ∷ []) a.0.1 b.0.1 c.0.1 b.1 last in
    subst (λ (y : Instruction × List ℕ). IsRead opcode.Move bytes y) (ok_is (instruction.Move a.0.0 b.0.0 c.0.0, c.0.1) x c.3) (record {
      row = refl;
      takes = Takes-cons a.0.0 (kind_number b.0.0 ∷ direction_number c.0.0 ∷ []) bytes a.0.1 c.0.1 a.1 two;
      fits = record { operands = (a.2, (kind_small b.0.0, (direction_small c.0.0, tt))) };
    })
operands_take opcode.Store bytes x fits e =
    let a = takes_then number_at number IsNumber number_law (λ path. bit_at path.1 >>= λ proved. Ok (instruction.Store path.0 proved.0, proved.1)) bytes x fits e in
    let b = takes_then bit_at (λ b. number (bit b)) Anything bit_law (λ proved. Ok (instruction.Store a.0.0 proved.0, proved.1)) a.0.1 x a.1.rest_fits a.3 in
    subst (λ (y : Instruction × List ℕ). IsRead opcode.Store bytes y) (ok_is (instruction.Store a.0.0 b.0.0, b.0.1) x b.3) (record {
      row = refl;
      takes = Takes-cons a.0.0 (bit b.0.0 ∷ []) bytes a.0.1 b.0.1 a.1 (Takes-one (bit b.0.0) a.0.1 b.0.1 b.1);
      fits = record { operands = (a.2, (bit_small b.0.0, tt)) };
    })
operands_take (opcode.Simple simple) bytes x fits e =
    subst (λ (y : Instruction × List ℕ). IsRead (opcode.Simple simple) bytes y) (ok_is (instruction.Simple simple, bytes) x e) (record { row = refl; takes = Takes-nothing bytes fits; fits = record { operands = tt } })
operands_take opcode.Delete bytes x fits e =
    let b = takes_then pins_at (counted number) (λ pins. IsNumber (length pins) × Every IsNumber pins) pins_law (λ pins. Ok (instruction.Delete pins.0, pins.1)) bytes x fits e in
    subst (λ (y : Instruction × List ℕ). IsRead opcode.Delete bytes y) (ok_is (instruction.Delete b.0.0, b.0.1) x b.3) (record {
      row = refl;
      takes = subst (λ (t : List ℕ). Takes bytes t b.0.1) (sym (flat_map-cons number (length b.0.0) b.0.0)) b.1;
      fits = record { operands = (b.2.0, b.2.1) };
    })
operands_take opcode.Call bytes x fits e =
    let a = takes_then number_at number IsNumber number_law (λ function. pins_at function.1 >>= λ pins. Ok (instruction.Call function.0 pins.0, pins.1)) bytes x fits e in
    let b = takes_then pins_at (counted number) (λ pins. IsNumber (length pins) × Every IsNumber pins) pins_law (λ pins. Ok (instruction.Call a.0.0 pins.0, pins.1)) a.0.1 x a.1.rest_fits a.3 in
    subst (λ (y : Instruction × List ℕ). IsRead opcode.Call bytes y) (ok_is (instruction.Call a.0.0 b.0.0, b.0.1) x b.3) (record {
      row = refl;
      takes = Takes-cons a.0.0 (length b.0.0 ∷ b.0.0) bytes a.0.1 b.0.1 a.1 (subst (λ (t : List ℕ). Takes a.0.1 t b.0.1) (sym (flat_map-cons number (length b.0.0) b.0.0)) b.1);
      fits = record { operands = (a.2, (b.2.0, b.2.1)) };
    })

regrouped : (n : ℕ) (ns rest : List ℕ) → numbers (n ∷ ns) ++ rest ≡ number n ++ (numbers ns ++ rest)
regrouped n ns rest = ap (λ (t : List ℕ). t ++ rest) (flat_map-cons number n ns) ∙ append_assoc (number n) (numbers ns) rest

number_head : (n : ℕ) (ns rest : List ℕ) → IsNumber n → number_at (numbers (n ∷ ns) ++ rest) ≡ Ok (n, numbers ns ++ rest)
number_head n ns rest small = ap number_at (regrouped n ns rest) ∙ number_law.again n (numbers ns ++ rest) small

kind_head : (k : Signedness) (ns rest : List ℕ) → kind_at (numbers (kind_number k ∷ ns) ++ rest) ≡ Ok (k, numbers ns ++ rest)
kind_head k ns rest = ap kind_at (regrouped (kind_number k) ns rest) ∙ kind_law.again k (numbers ns ++ rest) tt

direction_head : (d : Direction) (ns rest : List ℕ) → direction_at (numbers (direction_number d ∷ ns) ++ rest) ≡ Ok (d, numbers ns ++ rest)
direction_head d ns rest = ap direction_at (regrouped (direction_number d) ns rest) ∙ direction_law.again d (numbers ns ++ rest) tt

bit_head : (b : Bool) (ns rest : List ℕ) → bit_at (numbers (bit b ∷ ns) ++ rest) ≡ Ok (b, numbers ns ++ rest)
bit_head b ns rest = ap bit_at (regrouped (bit b) ns rest) ∙ bit_law.again b (numbers ns ++ rest) tt

pins_again : (pins rest : List ℕ) → IsNumber (length pins) × Every IsNumber pins → pins_at (numbers (length pins ∷ pins) ++ rest) ≡ Ok (pins, rest)
pins_again pins rest fits = ap (λ (t : List ℕ). pins_at (t ++ rest)) (flat_map-cons number (length pins) pins) ∙ pins_law.again pins rest fits

operands_again : (i : Instruction) (rest : List ℕ) → InstructionFits i → operands_at (opcode_of i) (numbers (operands_of i) ++ rest) ≡ Ok (i, rest)
operands_again (instruction.Constant kind n) rest fits = rw (number_head n [] rest fits.operands.0) refl
operands_again (instruction.Global n) rest fits = rw (number_head n [] rest fits.operands.0) refl
operands_again (instruction.Get n) rest fits = rw (number_head n [] rest fits.operands.0) refl
operands_again (instruction.Set n) rest fits = rw (number_head n [] rest fits.operands.0) refl
operands_again (instruction.Load n) rest fits = rw (number_head n [] rest fits.operands.0) refl
operands_again (instruction.Typed typed n) rest fits = rw (number_head n [] rest fits.operands.0) refl
operands_again (instruction.Jump jump n) rest fits = rw (number_head n [] rest fits.operands.0) refl
operands_again (instruction.Arithmetic arithmetic kind) rest fits = rw (kind_head kind [] rest) refl
operands_again (instruction.Move n kind direction) rest fits =
    rw (number_head n (kind_number kind ∷ direction_number direction ∷ []) rest fits.operands.0, kind_head kind (direction_number direction ∷ []) rest, direction_head direction [] rest) refl
operands_again (instruction.Store n proved) rest fits = rw (number_head n (bit proved ∷ []) rest fits.operands.0, bit_head proved [] rest) refl
operands_again (instruction.Simple simple) rest fits = refl
operands_again (instruction.Delete pins) rest fits = rw (pins_again pins rest (fits.operands.0, fits.operands.1)) refl
operands_again (instruction.Call n pins) rest fits = rw (number_head n (length pins ∷ pins) rest fits.operands.0, pins_again pins rest (fits.operands.1.0, fits.operands.1.1)) refl

-- a number of the table is small
number_small : (o : Opcode) → number_of o < 4294967296
number_small (opcode.Constant Signed) = omega arith
number_small (opcode.Constant Unsigned) = omega arith
number_small opcode.Global = omega arith
number_small opcode.Get = omega arith
number_small opcode.Set = omega arith
number_small opcode.Load = omega arith
number_small opcode.Move = omega arith
number_small opcode.Store = omega arith
number_small opcode.Delete = omega arith
number_small opcode.Call = omega arith
number_small (opcode.Arithmetic arithmetic.Add) = omega arith
number_small (opcode.Arithmetic arithmetic.Subtract) = omega arith
number_small (opcode.Arithmetic arithmetic.Multiply) = omega arith
number_small (opcode.Arithmetic arithmetic.Divide) = omega arith
number_small (opcode.Arithmetic arithmetic.Remainder) = omega arith
number_small (opcode.Arithmetic arithmetic.And) = omega arith
number_small (opcode.Arithmetic arithmetic.Or) = omega arith
number_small (opcode.Arithmetic arithmetic.Xor) = omega arith
number_small (opcode.Arithmetic arithmetic.ShiftLeft) = omega arith
number_small (opcode.Arithmetic arithmetic.ShiftRight) = omega arith
number_small (opcode.Arithmetic arithmetic.Negate) = omega arith
number_small (opcode.Arithmetic arithmetic.Complement) = omega arith
number_small (opcode.Arithmetic arithmetic.Equal) = omega arith
number_small (opcode.Arithmetic arithmetic.Less) = omega arith
number_small (opcode.Arithmetic arithmetic.LessEqual) = omega arith
number_small (opcode.Typed typed.Null) = omega arith
number_small (opcode.Typed typed.Same) = omega arith
number_small (opcode.Typed typed.IsNull) = omega arith
number_small (opcode.Typed typed.RegionOf) = omega arith
number_small (opcode.Typed typed.Allocate) = omega arith
number_small (opcode.Typed typed.AllocateArray) = omega arith
number_small (opcode.Jump jump.Always) = omega arith
number_small (opcode.Jump jump.IfZero) = omega arith
number_small (opcode.Jump jump.Back) = omega arith
number_small (opcode.Simple simple.NullRegion) = omega arith
number_small (opcode.Simple simple.SameRegion) = omega arith
number_small (opcode.Simple simple.IsZero) = omega arith
number_small (opcode.Simple simple.IsNullRegion) = omega arith
number_small (opcode.Simple simple.ToInt) = omega arith
number_small (opcode.Simple simple.ToUnsigned) = omega arith
number_small (opcode.Simple simple.ToChar) = omega arith
number_small (opcode.Simple simple.NewRegion) = omega arith
number_small (opcode.Simple simple.NewSubregion) = omega arith
number_small (opcode.Simple simple.Return) = omega arith
number_small (opcode.Simple simple.PutChar) = omega arith
number_small (opcode.Simple simple.GetChar) = omega arith
number_small (opcode.Simple simple.Pop) = omega arith

instruction_takes : (left n : ℕ) (o : Option Opcode) (bytes rest : List ℕ) (x : Instruction × List ℕ) → IsNumber n → numbered n ≡ o → Takes bytes (number n) rest → instruction_of left o rest ≡ Ok x
    → Takes bytes (instruction_bytes x.0) x.1 × InstructionFits x.0
instruction_takes left n None bytes rest x small row first e = absurd cc
instruction_takes left n (Some o) bytes rest x small row first e =
    let r = operands_take o rest x first.rest_fits e in
    let same : n ≡ number_of (opcode_of x.0) = sym (number_is n o row) ∙ ap number_of (sym r.row) in
    let again : Takes bytes (number (number_of (opcode_of x.0))) rest = subst (λ (m : ℕ). Takes bytes (number m) rest) same first in
    (Takes-then bytes (number (number_of (opcode_of x.0))) rest (numbers (operands_of x.0)) x.1 again r.takes, r.fits)

pub instruction_law : Law instruction_at instruction_bytes InstructionFits
unfolding instruction_at
instruction_law = record {
  takes = λ bytes x fits e.
      let b = takes_then number_at number IsNumber number_law (λ n. instruction_of (length bytes) (numbered n.0) n.1) bytes x fits e in
      instruction_takes (length bytes) b.0.0 (numbered b.0.0) bytes b.0.1 x b.2 refl b.1 b.3;
  again = λ i rest f.
      ap instruction_at (append_assoc (number (number_of (opcode_of i))) (numbers (operands_of i)) rest)
      ∙ rw (number_law.again (number_of (opcode_of i)) (numbers (operands_of i) ++ rest) (number_small (opcode_of i)), row_is (opcode_of i)) (operands_again i rest f);
}
