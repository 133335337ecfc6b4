-- The definitions, in the order in which to read them. `Types` and `Programs` say what a program is; the words for annotations,
-- types of numbers, operators and changes stand in src/ty.rt, src/operators.rt and src/stmt.rt, those for acts, traps, ends and
-- limits in rc_base, and they are imported as `declared`. Then what a program means: `Layout`, `Numbers`, `Arithmetic`; `Heap`,
-- `Runs` and `Source`, the world and what is done to it; `Flow` and `Live`, which locals are live; `Evaluation` and `Execution`;
-- `Meaning`. `Points` is a second reading of `Execution`, which ties it to `Flow`; `Laws` is what all runs keep; `Examples` and
-- `Cases` are programs whose meaning was computed. `Typing`, `Deletes` and `WellTyped` say when a program's parts fit together.
-- `Shapes` leads from the types of the code to these, and `Store` is what heaps keep.
pub mod Types
pub mod Programs
pub mod Layout
pub mod Numbers
pub mod Arithmetic
pub mod Heap
pub mod Flow
pub mod Live
pub mod Runs
pub mod Evaluation
pub mod Execution
pub mod Points
pub mod Source
pub mod Meaning
pub mod Laws
pub mod Store
pub mod Examples
pub mod Cases
pub mod Typing
pub mod Deletes
pub mod WellTyped
pub mod Shapes
pub mod Laid
