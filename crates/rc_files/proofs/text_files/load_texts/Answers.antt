use Rattle.std.proofs.Common.{ℕ, List, ◌∷◌, [], ◌++◌, ◌+◌, take, subst, sym}
use Rattle.std.specs.Prelude.{string_bytes}
use Rattle.rc_answers.specs.declared.answer.Fault.TheVariants.{Memory}
use Rattle.rc_outcomes.specs.Loading.{Loaded, LoadedAll, NotLoaded, no_memory}
use Rattle.rc_requests.specs.Asking.{bytes_of}
use Rattle.rc_files.specs.Texts.{IsTextOf}
use Rattle.rc_files.specs.declared.text_files.FileText.{FileText}
use Rattle.rc_files.proofs.SeveralTexts.{is_among, loaded_then, not_loaded_then, one_more, unchanged}
use Rattle.rc_files.proofs.text_files.load_texts.Goals as goal

pub returns-in-Err-clause-failed : goal.returns-in-Err-clause-failed
returns-in-Err-clause-failed g c =
    let words = c.args.names.now in
    let i = c.loop-name.name-index in
    let now = g.F.Shelf.state c.loop-name.files in
    let next = g.F.Shelf.state c.load_one.new.files in
    not_loaded_then IsTextOf (bytes_of words) (take i (bytes_of words)) (string_bytes c.name-item.result) (is_among words i c.name-item.result c.loop-name-test.true c.name-item.is) (g.F.Shelf.state c.args.files.now) now next c.loop-name.texts.items c.loop-name.invariant c.in-Err.fault
    (subst (λ (name : List ℕ). NotLoaded name now next c.in-Err.fault) c.deref.ensures c.in-Err.ensures)

pub returns-in_default-clause-failed : goal.returns-in_default-clause-failed
returns-in_default-clause-failed g c =
    let words = c.args.names.now in
    let i = c.loop-name.name-index in
    let now = g.F.Shelf.state c.loop-name.files in
    let next = g.F.Shelf.state c.load_one.new.files in
    let one = c.in-Ok.ensures in
    not_loaded_then IsTextOf (bytes_of words) (take i (bytes_of words)) (string_bytes c.name-item.result) (is_among words i c.name-item.result c.loop-name-test.true c.name-item.is) (g.F.Shelf.state c.args.files.now) now next c.loop-name.texts.items c.loop-name.invariant Memory
    (record { tells = one.tells; names = one.names; never_falls = unchanged next now one.kept; cause = no_memory one.kept })

pub loop-name-preserved : goal.loop-name-preserved
loop-name-preserved g c =
    let words = c.args.names.now in
    let i = c.loop-name.name-index in
    let first = g.F.Shelf.state c.args.files.now in
    let now = g.F.Shelf.state c.loop-name.files in
    let next = g.F.Shelf.state c.load_one.new.files in
    let text = c.in-Ok.text in
    let more = loaded_then IsTextOf (take i (bytes_of words)) (string_bytes c.name-item.result) first now next c.loop-name.texts.items text c.loop-name.invariant (subst (λ (name : List ℕ). Loaded name now next (IsTextOf text)) c.deref.ensures c.in-Ok.ensures) in
    let named = subst (λ (wanted : List (List ℕ)). LoadedAll IsTextOf wanted first next (c.loop-name.texts.items ++ text ∷ [])) (one_more words i c.name-item.result c.loop-name-test.true c.name-item.is) more in
    subst (λ (texts : List FileText). LoadedAll IsTextOf (take (i + 1) (bytes_of words)) first next texts) (sym c.in-Ok-push.ensures.items) named
