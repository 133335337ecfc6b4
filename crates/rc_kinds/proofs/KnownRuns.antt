-- What a run knows of its values, by operation: of the arguments of a call, an expression's value, a statement, a turn, and the
-- locals where a call begins. Nothing here names a ledger but `Known`.
use Rattle.std.proofs.Common.{◌≡◌, ℕ, Bool, List, ◌∷◌, slice_get, Some}
use Rattle.rc_core.specs.Types.{Ty}
use Rattle.rc_core.specs.Programs.{Expr, Arguments, Stmt, Function, Program}
use Rattle.rc_core.specs.Heap.{Value}
use Rattle.rc_core.specs.Live.{Ways}
use Rattle.rc_core.specs.Source.{World, source}
use Rattle.rc_core.specs.Evaluation.{eval_all}
use Rattle.rc_core.specs.Execution.{Flow, Next, Broke, Continued, Returned, held, first_locals, calling, value_of, exec, calls_within}
use Rattle.rc_core.specs.Typing.{HasType, AreArguments, IsTyped, parameters_of}
use Rattle.rc_core.specs.WellTyped.{IsWellTyped}
use Rattle.rc_core.specs.Laws.{IfGoes}
use Rattle.rc_kinds.specs.Suits.{Ledger, WorldSuits, Known}
use Rattle.rc_kinds.specs.Kinds.{Of, ResultSuits, FlowSuits}
use Rattle.rc_kinds.proofs.Grown.{all_still_suit}
use Rattle.rc_kinds.proofs.Kept.{Nothing}
use Rattle.rc_kinds.proofs.Knowing.{goes_on}
use Rattle.rc_kinds.proofs.Operations.{turn_keeps, held_suit, enter_suits}
use Rattle.rc_kinds.proofs.Evaluations.{AllOf, eval_all_keeps}
use Rattle.rc_kinds.proofs.Locals.{first_suit, calling_keeps}
use Rattle.rc_kinds.proofs.Executions.{value_keeps, exec_keeps}
use Rattle.rc_kinds.proofs.Calls.{calls_keep}

-- where a statement ends, the locals are known, or the value that it returned is
abbrev pub KnownFlow : Program → Function → Flow → World → Type 0
KnownFlow program f (Next locals) w = Known program f.locals locals w
KnownFlow program f (Broke locals) w = Known program f.locals locals w
KnownFlow program f (Continued locals) w = Known program f.locals locals w
KnownFlow program f (Returned v) w = (l : Ledger) × WorldSuits program l w × ResultSuits f.result l v

module _ (program : Program) (well : IsWellTyped program) where
  pub turn_known : (types : List Ty) (values : List Value) (w : World) → Known program types values w → IfGoes (λ _ w1. Known program types values w1) (source.take_turn w)
  turn_known types values w known = goes_on program known.ledger Nothing _ _ (turn_keeps program known.ledger w known.world) (λ _ l1 w1 g s _. record { ledger = l1; world = s; suit = all_still_suit known.ledger l1 g types values known.suit })

  pub call_begins : (k : ℕ) (f : Function) (arguments : List Value) (w : World) → slice_get program.functions k ≡ Some f → Known program (parameters_of f) arguments w → Known program f.locals (first_locals f arguments) w
  call_begins k f arguments w e known = record { ledger = known.ledger; world = known.world; suit = first_suit program known.ledger f arguments (well.functions k f e).locals known.suit }

  pub call_known : (n k : ℕ) (f : Function) (arguments : List Value) (w : World) → slice_get program.functions k ≡ Some f → Known program (parameters_of f) arguments w → IfGoes (λ v w1. (l : Ledger) × WorldSuits program l w1 × ResultSuits f.result l v) (calls_within source program n k arguments w)
  call_known n k f arguments w e known = goes_on program known.ledger (ResultSuits f.result) _ _ (calls_keep program well n k f arguments known.ledger w e known.suit known.world) (λ v l1 w1 g s r. (l1, s, r))

  module _ (n k : ℕ) (f : Function) (there : slice_get program.functions k ≡ Some f) where
    -- the locals still are known, and so are the arguments, also where the locals wait
    pub arguments_known : (live : ℕ → Bool) (env : List Value) (es : Arguments) (types : List Ty) (w : World) → AreArguments program f.locals es types → Known program f.locals env w
        → IfGoes (λ vs w1. Known program f.locals env w1 × Known program types vs w1 × Known program types vs (source.enter (held live env) w1)) (eval_all source program es (calling source program (calls_within source program n) live env) env w)
    arguments_known live env es types w h known =
        let calls = calls_within source program n in
        goes_on program known.ledger (AllOf types) _ _
        (eval_all_keeps program well.structs f.locals (calling source program calls live env) env (calling_keeps program f.locals calls (calls_keep program well n) live env) es types known.ledger w h known.suit known.world)
        (λ vs l1 w1 g s all.
        let own = all_still_suit known.ledger l1 g f.locals env known.suit in
        (record { ledger = l1; world = s; suit = own }, record { ledger = l1; world = s; suit = all }, record { ledger = l1; world = enter_suits program l1 (held live env) w1 (held_suit l1 live f.locals env own) s; suit = all }))

    -- a value with the locals, by one ledger
    pub value_known : (live : ℕ → Bool) (e : Expr) (t : Ty) (env : List Value) (w : World) → HasType program f.locals e t → Known program f.locals env w
        → IfGoes (λ v w1. Known program (t ∷ f.locals) (v ∷ env) w1) (value_of source program (calls_within source program n) live e env w)
    value_known live e t env w h known =
        goes_on program known.ledger (Of t) _ _ (value_keeps program well.structs f (well.functions k f there).locals (calls_within source program n) (calls_keep program well n) live e t env known.ledger w h known.suit known.world)
        (λ v l1 w1 g s v1. record { ledger = l1; world = s; suit = (v1, all_still_suit known.ledger l1 g f.locals env known.suit) })

    pub flow_known : (loop : Bool) (s : Stmt) (ways : Ways) (env : List Value) (w : World) → IsTyped program f loop s → Known program f.locals env w → IfGoes (KnownFlow program f) (exec source program s f (calls_within source program n) ways env w)
    flow_known loop s ways env w h known =
        goes_on program known.ledger (FlowSuits f.locals f.result loop) _ _ (exec_keeps program well.structs f (well.functions k f there).locals (calls_within source program n) (calls_keep program well n) loop s ways env known.ledger w h known.suit known.world) (λ flow l1 w1 g s1 fl. by flow l1 w1 s1 fl)
      where
        by : (flow : Flow) (l : Ledger) (w : World) → WorldSuits program l w → FlowSuits f.locals f.result loop l flow → KnownFlow program f flow w
        by (Next locals) l w s fl = record { ledger = l; world = s; suit = fl }
        by (Broke locals) l w s fl = record { ledger = l; world = s; suit = fl.1 }
        by (Continued locals) l w s fl = record { ledger = l; world = s; suit = fl.1 }
        by (Returned v) l w s fl = (l, s, fl)
