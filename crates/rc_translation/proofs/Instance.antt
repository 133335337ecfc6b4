-- The source's runs are sound in the way that the translation asks.
use Rattle.std.proofs.Common.{◌≡◌, ℕ, Bool, List, [], ◌∷◌, slice_get, Some}
use Rattle.rc_core.specs.Types.{Ty, int, unsigned, char, region, struct, pointer}
use Rattle.rc_core.specs.Programs.{Function, Program}
use Rattle.rc_core.specs.Heap.{Value, Number, Null, Handle, Pointer}
use Rattle.rc_core.specs.Source.{World, source}
use Rattle.rc_core.specs.Execution.{Flow, Next, Broke, Continued, Returned, held, calling, calls_within}
use Rattle.rc_core.specs.WellTyped.{IsWellTyped}
use Rattle.rc_kinds.specs.Suits as K
use Rattle.rc_kinds.specs.Suits.{Ledger, Grows, WorldSuits, Known}
use Rattle.rc_kinds.proofs.Knowing.{goes_on}
use Rattle.rc_kinds.proofs.Grown.{all_still_suit}
use Rattle.rc_kinds.specs.Kinds.{Of, FlowSuits}
use Rattle.rc_kinds.proofs.Operations.{turn_keeps, held_suit, enter_suits}
use Rattle.rc_kinds.proofs.Evaluations.{AllOf, eval_all_keeps}
use Rattle.rc_kinds.proofs.Locals.{first_suit, calling_keeps}
use Rattle.rc_kinds.proofs.Executions.{value_keeps, exec_keeps}
use Rattle.rc_kinds.proofs.Calls.{calls_keep}
use Rattle.rc_rlang.specs.RegionCode.{kind_of}
use Rattle.rc_translation.proofs.Holding.{OfKind, Kinded}
use Rattle.rc_translation.proofs.Statements.{Fine, Sound}
use Rattle.rc_translation.proofs.Whole.{SoundProgram}
use Rattle.rc_translation.proofs.Equations.{suits_so}

module _ (program : Program) where
  abbrev pub Good : Function → List Value → World → Type 0
  Good f env w = Known program f.locals env w

-- a value that suits its type is of its kind
of_kind : (l : Ledger) (t : Ty) (v : Value) → K.Suits l t v → OfKind (kind_of t) v
of_kind l int (Number n) s = tt
of_kind l int Null s = absurd s
of_kind l int (Handle r) s = absurd s
of_kind l int (Pointer a) s = absurd s
of_kind l unsigned (Number n) s = tt
of_kind l unsigned Null s = absurd s
of_kind l unsigned (Handle r) s = absurd s
of_kind l unsigned (Pointer a) s = absurd s
of_kind l char (Number n) s = tt
of_kind l char Null s = absurd s
of_kind l char (Handle r) s = absurd s
of_kind l char (Pointer a) s = absurd s
of_kind l region (Number n) s = absurd s
of_kind l region Null s = tt
of_kind l region (Handle r) s = tt
of_kind l region (Pointer a) s = absurd s
of_kind l (struct k) v s = absurd s
of_kind l (pointer note target) (Number n) s = absurd s
of_kind l (pointer note target) Null s = tt
of_kind l (pointer note target) (Handle r) s = absurd s
of_kind l (pointer note target) (Pointer a) s = tt

pub all_of_kind : (l : Ledger) (tys : List Ty) (env : List Value) → K.AllSuit l tys env → Kinded tys env
all_of_kind l [] [] all = tt
all_of_kind l [] (v ∷ env) all = absurd all
all_of_kind l (ty ∷ tys) [] all = absurd all
all_of_kind l (ty ∷ tys) (v ∷ env) all = (of_kind l ty v all.0, all_of_kind l tys env all.1)

module _ (program : Program) (fits : IsWellTyped program) where
  pub sound_function : (n k : ℕ) (f : Function) → slice_get program.functions k ≡ Some f → Sound source program f (calls_within source program n) (Known program) (Good program f)
  sound_function n k f e =
      let variables = (fits.functions k f e).locals in
      let calls = calls_within source program n in
      record {
        arguments = λ live env es tys w ha good.
            goes_on program good.ledger (AllOf tys) _ _
            (eval_all_keeps program fits.structs f.locals (calling source program calls live env) env (calling_keeps program f.locals calls (calls_keep program fits n) live env) es tys good.ledger w ha good.suit good.world)
            (λ vs l1 w1 g s all.
            let own = all_still_suit good.ledger l1 g f.locals env good.suit in
            (record { ledger = l1; world = s; suit = own }, record { ledger = l1; world = s; suit = all }, record { ledger = l1; world = enter_suits program l1 (held live env) w1 (held_suit l1 live f.locals env own) s; suit = all }));
        value = λ live e1 t env w he good.
            goes_on program good.ledger (Of t) _ _ (value_keeps program fits.structs f variables calls (calls_keep program fits n) live e1 t env good.ledger w he good.suit good.world)
            (λ v l1 w1 g s v1. (record { ledger = l1; world = s; suit = all_still_suit good.ledger l1 g f.locals env good.suit }, suits_so l1 t v v1));
        flow = λ loop s k1 env w hs good.
            goes_on program good.ledger (FlowSuits f.locals f.result loop) _ _ (exec_keeps program fits.structs f variables calls (calls_keep program fits n) loop s k1 env good.ledger w hs good.suit good.world) (λ flow l1 w1 g s1 fl. fine loop flow l1 w1 s1 fl);
        turn = λ env w good. goes_on program good.ledger (λ l x. Unit {0}) _ _ (turn_keeps program good.ledger w good.world) (λ _ l1 w1 g s _. record { ledger = l1; world = s; suit = all_still_suit good.ledger l1 g f.locals env good.suit });
        kinded = λ env w good. all_of_kind good.ledger f.locals env good.suit;
      }
    where
      fine : (loop : Bool) (flow : Flow) (l : Ledger) (w : World) → WorldSuits program l w → FlowSuits f.locals f.result loop l flow → Fine (Good program f) flow w
      fine loop (Next env) l w s fl = record { ledger = l; world = s; suit = fl }
      fine loop (Broke env) l w s fl = record { ledger = l; world = s; suit = fl.1 }
      fine loop (Continued env) l w s fl = record { ledger = l; world = s; suit = fl.1 }
      fine loop (Returned v) l w s fl = tt

  pub sound_program : SoundProgram source program (Known program) (Good program)
  sound_program = record {
    sound = sound_function;
    begins = λ k f xs w e all kn. record { ledger = kn.ledger; world = kn.world; suit = first_suit program kn.ledger f xs (fits.functions k f e).locals kn.suit };
    turns = λ tys xs w kn. goes_on program kn.ledger (λ l x. Unit {0}) _ _ (turn_keeps program kn.ledger w kn.world) (λ _ l1 w1 g s _. record { ledger = l1; world = s; suit = all_still_suit kn.ledger l1 g tys xs kn.suit });
    typed = λ k f e. (fits.functions k f e).body;
    placed = λ k f e. fits.deleting.placed k f e;
  }
