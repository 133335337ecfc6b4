-- Where the rules of typing stand, topic by topic, for a reader who has their text beside him:
--
--   what a name stands for, and where                Scopes; Statements (`Here`), Items (`Outside`)
--   names that are declared twice                    Statements (`new_name`), Items (`once`, `function_name`)
--   the built-in functions                           Builtins; Items (`builtins`, `agrees_with`), Calls
--   structs that are named, and defined              Expressions (`base_rule`), Items (`value_base`, `cell_type`)
--   declarations of one function that agree          Items (`agrees`, `function_name`)
--   globals, fields, parameters and results          Items
--   types that are equal, and their annotations      Kinds (`same_type`, `same_value_type`), Values (`typed`)
--   names, fields and elements in expressions        Expressions
--   operators, casts, `*` and `&`                    Operators
--   values in conditions, and where one is assigned  Values (`condition_rule`, `fitted`)
--   calls, `ralloc` and `rarrayalloc`                Calls
--   locals, assignments and `return`                 Statements
--   `break` and `continue`                           Statements (`in_a_loop`)
--   how large structs and globals are                Items (`item`, `global_made`), Statements (`copy_of`)
--   where regions are deleted, and locals annotated  Places, PlacedFaults (by the tree alone, with places)
--   `main`                                           Answer (`main_fault`)
--   which refusal comes first                        Judged, Order, Answer (`refusal`)
--
-- Ranges and Limits say what a tree keeps so that its program fits together, and Examples what is answered of small texts.
pub mod Judged
pub mod Kinds
pub mod Builtins
pub mod Scopes
pub mod Values
pub mod Operators
pub mod Calls
pub mod Expressions
pub mod Statements
pub mod Items
pub mod First
pub mod Ranges
pub mod Limits
pub mod Places
pub mod PlacedFaults
pub mod Answer
pub mod Order
pub mod Examples
