-- The program that is made from a number n: a prelude, 640 functions in four forms, and a `main` that calls them in turn.
use Rattle.std.specs.Prelude.{ℕ, ◌+◌, ◌%◌, List, [], ◌∷◌, ◌++◌, codes, map, slice_index_or}
use Rattle.std.specs.List.{range_with_len}
use Rattle.rc_gen.specs.declared.template.Numbers.{Numbers}
use Rattle.rc_gen.specs.Template.{filled, text_of}

unfoldable pub prelude : List (List ℕ)
prelude =
    codes "struct node { int v; struct node *sameregion next; };"
    ∷ codes "struct leaf { struct node *parentptr up; };"
    ∷ codes "struct node *keep;"
    ∷ codes "int sum(struct node *p) { int s = 0; while (p) { s += p->v; p = p->next; } return s; }"
    ∷ codes "struct node *push(region r, struct node *p, int v) { struct node *q = ralloc(r, struct node); q->v = v; q->next = p; return q; }"
    ∷ []

unfoldable pub forms : List (List ℕ)
forms =
    codes "int f@I(int x) deletes { region r = newregion(); struct node *p = NULL; struct node *q; int i; for (i = 0; i < @A; i++) { q = ralloc(r, struct node); q->v = @W; q->next = p; p = q; } x += sum(p); deleteregion(r); return x; }"
    ∷ codes "int f@I(int x) deletes { region r = newregion(); struct node *p = NULL; int i; for (i = 0; i < @A; i++) p = push(r, p, @W); x += sum(p); deleteregion(r); return x; }"
    ∷ codes "int f@I(int x) deletes { region r = newregion(); region c = newsubregion(r); struct node *p = NULL; struct leaf *m; int i; for (i = 0; i < @A; i++) p = push(r, p, @W); m = ralloc(c, struct leaf); m->up = p; x += sum(m->up); deleteregion(c); deleteregion(r); return x; }"
    ∷ codes "int f@I(int x) deletes { region r = newregion(); struct node *p = NULL; struct node *q; int i; for (i = 0; i < @A; i++) p = push(r, p, @W); keep = p; q = ralloc(r, struct node); q->next = keep; x += sum(q); keep = NULL; deleteregion(r); return x; }"
    ∷ []

unfoldable pub main_begins : List ℕ
main_begins = codes "int main(void) deletes { int t = 0;"

unfoldable pub call : List ℕ
call = codes "t = f@I(t);"

unfoldable pub main_ends : List ℕ
main_ends = codes "return t; }"

-- the numbers for the holes of function i
abbrev pub numbers_of : ℕ → ℕ → Numbers
numbers_of n i = record { index = i; amount = (n + i) % 64; weight = 1 + n % 7 }

-- the form of function i
abbrev pub form : ℕ → List ℕ
form i = slice_index_or forms (i % 4) []

-- the first functions, so many of them, each on a line
abbrev pub functions : ℕ → ℕ → List (List ℕ)
functions n count = map (λ i. filled (numbers_of n i) (form i)) (range_with_len 0 count)

-- the lines that call them
abbrev pub calls : ℕ → ℕ → List (List ℕ)
calls n count = map (λ i. filled (numbers_of n i) call) (range_with_len 0 count)

abbrev pub main : ℕ → ℕ → List (List ℕ)
main n count = main_begins ∷ [] ++ calls n count ++ main_ends ∷ []

-- the text with so many functions
unfoldable pub program : ℕ → ℕ → List ℕ
program n count = text_of (prelude ++ functions n count ++ main n count)

abbrev pub generated : ℕ → List ℕ
generated n = program n 640
