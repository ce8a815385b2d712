-- The sheet W of the paper, whole: it is the text of W, and reads as W; and wrong sheets, with their answers. Assumes nothing.
use mathlib.Core.Path.{◌≡◌, refl, ◌∙◌}
use mathlib.Core.Bool.{true}
use mathlib.Core.List.{List, [], ◌∷◌, ◌++◌, map}
use Prim.Native.Nat.{ℕ}
use Prim.Native.Char.{code}
use Prim.Native.String.{String}
use Prim.Native.String as string
use lib.ListN.{drop, replicate}
use Rattle.kinds.specs.Bits.{bit, mask_of}
use Rattle.rules.specs.Answers.{decided}
use Rattle.rules.specs.Checks.{tables_long}
use Rattle.meaning.specs.Lists.{each}
use Rattle.meaning.specs.Worked.{W}
use Rattle.text.specs.Numbers.{decimal, digits, past, value, plain, field_end, read_number, tabbed}
use Rattle.text.specs.Lines.{lines, strip, ending}
use Rattle.sheet.specs.Lines.{size_text, line_text, place, read_size, read_final, read_arc, read_line}
use Rattle.sheet.specs.Sheets.{lines_of, text_of, sheet_text, read_sheet, read_lines, read_rest, accepting_of, puts, blank, targets_of, costs_of}
use Rattle.sheet.specs.Reading.{read_left, sheet_answer, wrong_line, read_of}
use Rattle.sheet.proofs.Answering.{long_told}

-- the bytes of a line
bytes : String → List ℕ
bytes string.[] = []
bytes (string.◌∷◌ c s) = code c ∷ bytes s

unfoldable pub text : List ℕ
unfolding bytes
text =
    each bytes
    ("size\t6\t3\t0\n"
    ∷ "final\t0\n"
    ∷ "final\t2\n"
    ∷ "final\t3\n"
    ∷ "final\t4\n"
    ∷ "final\t5\n"
    ∷ "arc\t0\t0\t1\t1\n"
    ∷ "arc\t0\t1\t3\t2\n"
    ∷ "arc\t0\t2\t4\t0\n"
    ∷ "arc\t1\t0\t2\t1\n"
    ∷ "arc\t2\t2\t4\t0\n"
    ∷ "arc\t3\t1\t2\t2\n"
    ∷ "arc\t3\t2\t4\t0\n"
    ∷ "arc\t4\t0\t1\t1\n"
    ∷ "arc\t4\t1\t3\t2\n"
    ∷ "arc\t4\t2\t5\t0\n"
    ∷ "arc\t5\t0\t1\t1\n"
    ∷ "arc\t5\t1\t3\t2\n"
    ∷ [])

-- W IS WRITTEN SO
pub written : sheet_text W 0 ≡ text
unfolding W text sheet_text text_of lines_of size_text line_text decimal bit
written = refl

-- AND READ SO, into any full tables
pub read : (xs ys : List ℕ) → tables_long xs ys ≡ true
    → read_of text xs ys ≡ read_left 0 0 W.arcs.states W.arcs.values 0 W.accepting (W.arcs.targets ++ drop 18 xs) (W.arcs.costs ++ drop 18 ys)
unfolding W text read_of decided read_sheet read_lines read_rest read_size read_line read_final read_arc place lines strip ending read_number digits past value plain field_end tabbed accepting_of mask_of targets_of costs_of puts blank
read xs ys h = rw h

-- NUMBERS OUT OF RANGE AND OTHER FAULTS: a text, its answer and its first wrong line
abbrev pub Told : Type 0
Told = List ℕ × ℕ × ℕ

-- a text that is wrong at line 1
top : String → ℕ → Told
top l a = (bytes l, a, 1)

-- lines behind a size line of 6 states and 3 values, wrong at line n
behind : String → ℕ → ℕ → Told
behind l n a = (bytes "size\t6\t3\t0\n" ++ bytes l, a, n)

unfoldable pub faulty : List Told
unfolding bytes top behind
faulty =
    top "" 5
    -- the first field is `size`, whatever stands behind it
    ∷ top "Size\t99\n" 5
    ∷ top "final\t99\n" 5
    ∷ top "size\n" 5
    -- no states, no values, too many, and a start that is none of the states
    ∷ top "size\t0\t3\t0\n" 13
    ∷ top "size\t6\t0\t0\n" 13
    ∷ top "size\t99\t3\t0\n" 13
    ∷ top "size\t6\t99\t0\n" 13
    ∷ top "size\t6\t3\t6\n" 13
    -- the first fault decides: what is behind it is not looked at
    ∷ top "size\t0\n" 13
    ∷ top "size\t0\tx\t0\n" 13
    ∷ top "size\tx\t0\t0\n" 5
    ∷ top "size\t00\t0\t0\n" 5
    ∷ top "size\t6\t99\t00\t7" 13
    ∷ top "size\t6\n" 5
    ∷ top "size\t6\t3\t6" 13
    ∷ top "size\t6\t3\t0" 5
    ∷ top "size\t6\t3\t0\t99\n" 5
    -- any digit count; a field is judged whole
    ∷ behind "arc\t0\t0\t0\t1001\n" 2 13
    ∷ behind "arc\t0\t0\t0\t4294967296\n" 2 13
    ∷ behind "arc\t0\t0\t0\t18446744073709551616\n" 2 13
    ∷ behind "arc\t0\t0\t0\t99999999999999999999999\n" 2 13
    ∷ behind "arc\t0\t0\t0\t00\n" 2 5
    ∷ behind "arc\t0\t0\t0\t01\n" 2 5
    ∷ behind "arc\t0\t0\t0\t\n" 2 5
    ∷ behind "arc\t0\t0\t0\t9999x\n" 2 5
    ∷ behind "arc\t0\t0\t0\t-1\n" 2 5
    ∷ (bytes "size\t6\t3\t0\narc\t0\t0\t0\t" ++ (replicate 10000 57 ++ bytes "\n"), 13, 2)
    -- a field missing, one too many
    ∷ behind "arc\t99\n" 2 13
    ∷ behind "arc\t0\t99" 2 13
    ∷ behind "arc\t0\t0\t0\n" 2 5
    ∷ behind "final\t1\t7\n" 2 5
    ∷ behind "final\t99\t7\n" 2 13
    ∷ behind "final\tx\t99\n" 2 5
    ∷ behind "arc\t0\t3\tx\t0\n" 2 13
    ∷ behind "arc\t0\tx\t99\t0\n" 2 5
    -- the order behind all fields, and the line feed last
    ∷ behind "arc\t1\t0\t0\t0\narc\t0\t0\t0\t1001\n" 3 13
    ∷ behind "arc\t1\t0\t0\t0\narc\t0\t0\t0\t0\t7\n" 3 5
    ∷ behind "arc\t1\t0\t0\t0\narc\t0\t0\t0\t0\n" 3 5
    ∷ behind "final\t2\nfinal\t99" 3 13
    ∷ behind "final\t2\nfinal\t1" 3 5
    ∷ behind "final\t2\nfinal\t3" 3 5
    -- the first wrong line decides
    ∷ behind "final\t01\nfinal\t99\n" 2 5
    ∷ behind "final\t99\nfinal\t01\n" 2 13
    ∷ []

abbrev judged : Told → Told
judged k = (k.0, sheet_answer (read_sheet k.0), wrong_line (read_sheet k.0))

answered : map judged faulty ≡ faulty
unfolding faulty read_sheet read_lines read_rest read_size read_line read_final read_arc place lines strip ending read_number digits past value plain field_end tabbed
answered = refl

-- THEY ARE ANSWERED SO, into any full tables
abbrev pub told_into : List ℕ → List ℕ → Told → Told
told_into xs ys k = (k.0, (read_of k.0 xs ys).answer, (read_of k.0 xs ys).line)

pub told : (xs ys : List ℕ) → tables_long xs ys ≡ true → map (told_into xs ys) faulty ≡ faulty
told xs ys h = each_told faulty ∙ answered
  where
    each_told : (ks : List Told) → map (told_into xs ys) ks ≡ map judged ks
    each_told [] = refl
    each_told (k ∷ ks) = let w = long_told k.0 xs ys h in rw (w.0, w.1, each_told ks)
