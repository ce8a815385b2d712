-- The sizes of a session and of its memory, each named once. The code's names for them are in crates/machine/src/layout.rt.
use Rattle.std.specs.Prelude.{ℕ, ◌+◌, ◌*◌}

-- decisions standing, open marks, and the entries that both make
abbrev pub most_decisions : ℕ
most_decisions = 512

abbrev pub most_marks : ℕ
most_marks = 64

abbrev pub most_entries : ℕ
most_entries = most_decisions + most_marks

-- the kinds of an entry
abbrev pub keep_kind : ℕ
keep_kind = 1

abbrev pub limit_kind : ℕ
limit_kind = 2

abbrev pub mark_kind : ℕ
mark_kind = 3

-- the numbers of an entry: its kind, its place and its amount
abbrev pub row_size : ℕ
row_size = 3

abbrev pub rows_size : ℕ
rows_size = most_entries * row_size

-- what is shown: the result, the least cost, and a kept mask for each place
abbrev pub shown_size : ℕ → ℕ
shown_size n = n + 2

-- what is held: four sizes, two counts and the spare numbers, which are zeros; the rows of the entries; the opening masks and limits
abbrev pub spare_size : ℕ
spare_size = 56

abbrev pub head_size : ℕ
head_size = 6 + spare_size

abbrev pub opening_place : ℕ
opening_place = head_size + rows_size

abbrev pub held_size : ℕ → ℕ
held_size n = opening_place + (n + n)

-- three numbers for each place, three for each entry, 64 for the rest
abbrev pub rest_size : ℕ
rest_size = rows_size + 64

abbrev pub memory_size : ℕ → ℕ
memory_size n = 3 * n + rest_size
