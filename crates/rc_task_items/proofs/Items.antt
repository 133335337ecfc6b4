-- What the appended items add to a program.
use Rattle.rc_task_items.proofs.Common.{◌≡◌, ℕ, ◌≤◌, pos, true, false, List, [], ◌∷◌, ◌++◌, codes, length, map, Option, Some, None, is_some, refl, ap, ◌∙◌, Plain, Signed, int, unsigned, char, pointer, Context, Scope, a_global, meaning_in, Here, stmts, Outside, Made, with_function, behind_item, head_rule, item, once, Held, held_part, held_parts, held_ruled, held_always, Tasks, yield_of}
use Rattle.rc_syntax.specs.Tree as t
use Rattle.rc_syntax.specs.declared.tree.Base.TheVariants as base
use Rattle.rc_core.specs.Programs as p
use Rattle.rc_tasks.specs.Appended as typed
use Rattle.rc_task_items.specs.Items as tree
use Rattle.rc_task_items.proofs.Bodies.{Is, Calls, yield_held, main_held, behind_yield, behind_main}

abbrev pub counter_made : Made
counter_made = record { globals = typed.counter ∷ []; functions = [] }

abbrev pub function_made : p.Function → Made
function_made f = record { globals = []; functions = f ∷ [] }

module _ (tk : Tasks) (choices : List ℕ) (place : ℕ → ℕ) (line : ℕ) (few : length choices ≤ 1000) (context : Context) (o : Outside) where
  pub counter_held : Held (Is counter_made) (item context o (tree.counter_item choices place line))
  counter_held =
      held_part (λ (u : Unit {0}). Unit {0}) (Is counter_made) (once (tree.named choices place line 2 tree.counter_name) (is_some (meaning_in o.names tree.counter_name))) _
      (held_always (Unit {0}) (once (tree.named choices place line 2 tree.counter_name) (is_some (meaning_in o.names tree.counter_name))) tt)
      (λ u h. held_ruled (Is counter_made) (tree.spot choices place line 0) _ _ (λ e. refl))

  abbrev yield_code : p.Stmts
  yield_code = p.then (p.declare line 0 (Some (p.string line (length tk.program.strings)))) (p.then (p.declare line 1 None) (p.then (p.branch line (typed.any_left tk choices line) (p.block (typed.taking tk choices line)) (p.block p.done)) p.done))

  abbrev main_code : p.Stmts
  main_code = p.then (p.evaluate line (p.call line tk.start p.none)) (p.then (p.while line (typed.any_left tk choices line) (p.evaluate line (p.call line (yield_of tk) p.none))) (p.then (p.return line (Some (p.constant line Signed (pos 0)))) p.done))

  abbrev main_result : Option t.TypeName
  main_result = Some (record { base = base.Int (tree.spot choices place line 1); stars = [] })

  -- the scope of the body of `yield`, and of that of `main`
  abbrev pub in_yield : Scope
  in_yield = (with_function context o true None (tree.named choices place line 1 tree.yield_name) []).names

  abbrev pub in_main : Scope
  in_main = (with_function context o true main_result (tree.named choices place line 2 (codes "main")) []).names

  module _ (count : length o.strings ≡ length tk.program.strings) where
    pub yield_item_held : meaning_in in_yield tree.counter_name ≡ Some (a_global (length tk.program.globals) unsigned None) → ((d : ℕ) → Calls (tk.task d) (meaning_in in_yield (tree.task_name d))) →
        Held (Is (function_made (typed.yield_function tk choices line))) (item context o (tree.yield_item choices place line))
    yield_item_held at tasks =
        held_parts (λ (u : Unit {0}). Unit {0}) (Is yield_code) (Is (function_made (typed.yield_function tk choices line)))
        (head_rule context o true true None (tree.named choices place line 1 tree.yield_name) [])
        (stmts context None false (record { names = in_yield; locals = []; first = 0; strings = o.strings }) (tree.yield_body choices place line)) _
        (held_always (Unit {0}) (head_rule context o true true None (tree.named choices place line 1 tree.yield_name) []) tt)
        (yield_held tk choices place line few context in_yield o.strings count at tasks)
        (λ u b h e.
        ap (λ (end : Here). function_made (record { parameters = 0; locals = end.locals; result = None; deletes = true; line = line; body = p.block b })) (behind_yield tk choices place line few context in_yield o.strings count at tasks)
        ∙ ap (λ c. function_made (record { parameters = 0; locals = pointer Plain char ∷ char ∷ []; result = None; deletes = true; line = line; body = p.block c })) e)

    pub main_item_held : meaning_in in_main tree.counter_name ≡ Some (a_global (length tk.program.globals) unsigned None) → ((d : ℕ) → Calls (tk.task d) (meaning_in in_main (tree.task_name d))) →
        Calls tk.start (meaning_in in_main tree.start_name) → Calls (yield_of tk) (meaning_in in_main tree.yield_name) → Held (Is (function_made (typed.main_function tk choices line))) (item context o (tree.main_item choices place line))
    main_item_held at tasks known again =
        held_parts (λ (u : Unit {0}). Unit {0}) (Is main_code) (Is (function_made (typed.main_function tk choices line)))
        (head_rule context o true true main_result (tree.named choices place line 2 (codes "main")) [])
        (stmts context (Some int) false (record { names = in_main; locals = []; first = 0; strings = o.strings }) (tree.main_body choices place line)) _
        (held_always (Unit {0}) (head_rule context o true true main_result (tree.named choices place line 2 (codes "main")) []) tt)
        (main_held tk choices place line few context in_main o.strings count at tasks known again)
        (λ u b h e.
        ap (λ (end : Here). function_made (record { parameters = 0; locals = end.locals; result = Some int; deletes = true; line = line; body = p.block b })) (behind_main tk choices place line few context in_main o.strings count at tasks)
        ∙ ap (λ c. function_made (record { parameters = 0; locals = []; result = Some int; deletes = true; line = line; body = p.block c })) e)

    -- the strings behind them
    pub yield_strings : meaning_in in_yield tree.counter_name ≡ Some (a_global (length tk.program.globals) unsigned None) → ((d : ℕ) → Calls (tk.task d) (meaning_in in_yield (tree.task_name d))) →
        (behind_item context o (tree.yield_item choices place line)).strings ≡ o.strings ++ map typed.digit choices ∷ []
    yield_strings at tasks = ap (λ (end : Here). end.strings) (behind_yield tk choices place line few context in_yield o.strings count at tasks)

    pub main_strings : meaning_in in_main tree.counter_name ≡ Some (a_global (length tk.program.globals) unsigned None) → ((d : ℕ) → Calls (tk.task d) (meaning_in in_main (tree.task_name d))) →
        (behind_item context o (tree.main_item choices place line)).strings ≡ o.strings
    main_strings at tasks = ap (λ (end : Here). end.strings) (behind_main tk choices place line few context in_main o.strings count at tasks)
