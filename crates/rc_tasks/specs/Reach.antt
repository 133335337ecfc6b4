-- Code that reaches no further than these numbers of globals and strings: all that it names are below them.
use Rattle.std.specs.Prelude.{ℕ, ◌<◌, Option, Some, None}
use Rattle.rc_core.specs.Programs.{Expr, constant, null, string, local, read, address, step, step_from, unary, binary, convert, not_zero, and, or, choose, is_null, same, call, new_region, new_subregion, region_of, allocate, allocate_array, putchar, getchar, Arguments, none, more, Place, global, pointed, indexed, Path, here, field, element, Stmt, block, declare, assign, store, update, copy, evaluate, delete, branch, while, repeat, for, break, continue, return, Stmts, done, then}

module _ (globals strings : ℕ) where
  abbrev mutual
    pub Reaches : Expr → Type 0
    Reaches (constant line s n) = Unit {0}
    Reaches (null line) = Unit {0}
    Reaches (string line k) = k < strings
    Reaches (local line x) = Unit {0}
    Reaches (read line place) = PlaceReaches place
    Reaches (address line g) = g < globals
    Reaches (step line direction p i) = Reaches p × Reaches i
    Reaches (step_from line i p) = Reaches i × Reaches p
    Reaches (unary line op s e) = Reaches e
    Reaches (binary line op s a b) = Reaches a × Reaches b
    Reaches (convert line from to e) = Reaches e
    Reaches (not_zero line e) = Reaches e
    Reaches (and line a b) = Reaches a × Reaches b
    Reaches (or line a b) = Reaches a × Reaches b
    Reaches (choose line test a b) = Reaches test × Reaches a × Reaches b
    Reaches (is_null line wanted e) = Reaches e
    Reaches (same line wanted a b) = Reaches a × Reaches b
    Reaches (call line f arguments) = AllReach arguments
    Reaches (new_region line) = Unit {0}
    Reaches (new_subregion line r) = Reaches r
    Reaches (region_of line p) = Reaches p
    Reaches (allocate line r ty) = Reaches r
    Reaches (allocate_array line r n ty) = Reaches r × Reaches n
    Reaches (putchar line e) = Reaches e
    Reaches (getchar line) = Unit {0}

    pub AllReach : Arguments → Type 0
    AllReach none = Unit {0}
    AllReach (more e rest) = Reaches e × AllReach rest

    pub PlaceReaches : Place → Type 0
    PlaceReaches (global g path) = (g < globals) × PathReaches path
    PlaceReaches (pointed p path) = Reaches p × PathReaches path
    PlaceReaches (indexed p i path) = Reaches p × Reaches i × PathReaches path

    pub PathReaches : Path → Type 0
    PathReaches here = Unit {0}
    PathReaches (field s f rest) = PathReaches rest
    PathReaches (element s f i rest) = Reaches i × PathReaches rest

  abbrev pub OptionReaches : Option Expr → Type 0
  OptionReaches None = Unit {0}
  OptionReaches (Some e) = Reaches e

  abbrev mutual
    pub StatementReaches : Stmt → Type 0
    StatementReaches (block body) = StatementsReach body
    StatementReaches (declare line x value) = OptionReaches value
    StatementReaches (assign line x e) = Reaches e
    StatementReaches (store line place e) = PlaceReaches place × Reaches e
    StatementReaches (update line place change e) = PlaceReaches place × Reaches e
    StatementReaches (copy line s left right) = PlaceReaches left × PlaceReaches right
    StatementReaches (evaluate line e) = Reaches e
    StatementReaches (delete line e) = Reaches e
    StatementReaches (branch line test a b) = Reaches test × StatementReaches a × StatementReaches b
    StatementReaches (while line test body) = Reaches test × StatementReaches body
    StatementReaches (repeat line body test) = StatementReaches body × Reaches test
    StatementReaches (for line first test third body) = StatementReaches first × OptionReaches test × StatementReaches third × StatementReaches body
    StatementReaches (break line) = Unit {0}
    StatementReaches (continue line) = Unit {0}
    StatementReaches (return line value) = OptionReaches value

    pub StatementsReach : Stmts → Type 0
    StatementsReach done = Unit {0}
    StatementsReach (then s rest) = StatementReaches s × StatementsReach rest
