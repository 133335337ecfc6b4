use Rattle.std.proofs.Common.{◌≡◌, ◌<◌, ◌∙◌, ◌++◌, ◌∷◌, [], ap, map, pos, length, subst, sym, get_or, rules, arith, w64, of_z, to_z, SFits, to_z-of_z}
use Rattle.std.specs.List.{AllByRecursion as Every}
use Rattle.std.proofs.lemmas.List.{get_or_default, take_all}
use Rattle.rc_core.specs.Numbers.{IsByte}
use Rattle.rc_core.specs.Heap.{Number}
use Rattle.rc_core.specs.Laid.{held_kind}
use Rattle.rc_core.specs.Shapes.{kinds_in}
use Rattle.rc_store.specs.Kept.{blank}
use Rattle.rc_store.specs.Stores.{written}
use Rattle.rc_first_heap.specs.First.{first_of, holding, place_of}
use Rattle.rc_first_heap.proofs.Filling.{begun, begun_all, begun_first, begun_more, every_more, has_number, kept_with, number_written, numbers, one_more}
use Rattle.rc_first_heap.proofs.globals.add_bytes.Goals as goal

pub loop-element-init : goal.loop-element-init
loop-element-init g c =
    let s = g.H.Heap.store c.args.heap.now in
    let before = first_of s in
    let n = c.args.n in
    record {
      heap = c.in_ok-object.ensures.ok ∙ one_more s c.requires.alone (map held_kind (kinds_in c.args.layout.now)) n
          ∙ ap (λ ks. holding (before ++ blank ks n ∷ []) s) c.requires.numbers
          ∙ ap (λ vs. holding (before ++ numbers n vs ∷ []) s) (begun_first c.args.bytes.now n c.requires.all);
      bytes = tt;
    }

pub write_number-requires : goal.write_number-requires
write_number-requires g c =
    let s = g.H.Heap.store c.args.heap.now in
    has_number s (first_of s) c.args.n (begun c.args.bytes.now c.loop-element.element) c.in_ok-object.object c.loop-element.element c.in_ok-object.ensures.number (g.H.Heap.store c.loop-element.heap) c.loop-element.invariant.heap (search rules)

pub loop-element-preserved : goal.loop-element-preserved
loop-element-preserved g c =
    let s = g.H.Heap.store c.args.heap.now in
    let before = first_of s in
    let n = c.args.n in
    let bytes = c.args.bytes.now in
    let i = c.loop-element.element in
    let b = get_or bytes i 0 in
    let o = c.in_ok-object.object in
    let now = g.H.Heap.store c.loop-element.heap in
    let low : i < n = search rules in
    let all : length bytes ≡ n = c.requires.all in
    let inside : i < length bytes = omega (arith, low, all) in
    let read : b ≡ get_or bytes i b = get_or_default bytes i 0 b inside in
    let fits : SFits w64 c.from.result = search rules in
    let value : to_z w64 (of_z w64 c.from.result) ≡ pos b = to_z-of_z fits ∙ c.from.ensures in
    record {
      heap = c.write_number.ensures.written
          ∙ ap (λ z. written (place_of o i) (Number z) now) value
          ∙ number_written s before n (begun bytes i) o i c.in_ok-object.ensures.number now (Number (pos b)) c.loop-element.invariant.heap
          ∙ ap (λ vs. holding (before ++ numbers n vs ∷ []) s) (begun_more bytes i b inside read);
      bytes = every_more IsByte bytes i b read (search rules) c.loop-element.invariant.bytes;
    }

pub returns : goal.returns
returns g c =
    let s = g.H.Heap.store c.args.heap.now in
    let before = first_of s in
    let n = c.args.n in
    let bytes = c.args.bytes.now in
    let i = c.loop-element.element in
    let all : length bytes ≡ n = c.requires.all in
    let end : i ≡ n = search rules in
    let whole : i ≡ length bytes = omega (arith, all, end) in
    record {
      heap = c.loop-element.invariant.heap
          ∙ ap (λ vs. holding (before ++ numbers n vs ∷ []) s) (begun_all bytes i whole)
          ∙ sym (ap (λ o. holding (before ++ o ∷ []) s) (kept_with (kinds_in c.args.layout.now) n (map (λ b. Number (pos b)) bytes) c.requires.numbers));
      bytes = subst (Every IsByte) (take_all i bytes (omega (arith, whole))) c.loop-element.invariant.bytes;
    }
