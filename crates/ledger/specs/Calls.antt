-- What each session call answers and leaves.
use Rattle.std.specs.Prelude.{Bool, ◌&&◌, List, [], ◌∷◌, ◌++◌, eqb, length, ℕ}
use Rattle.meaning.specs.Bounds.{work_size}
use Rattle.rules.specs.Checks.{Handed, masks_right, rule_checks}
use Rattle.rules.specs.Answers.{Check, check, decided, work_after, zeros}
use Rattle.ledger.specs.Sessions.{Opening, Entry, standing, verdict_by, Ask, ask_checks, after}
use Rattle.ledger.specs.Readiness.{ready_checks, Left, left}
use Rattle.ledger.specs.Layout.{memory_size}
use Rattle.ledger.specs.Memory.{image_of, held_in, entries_of, opening_of}

-- the session has become that of this opening and these entries: the memory is its image, and the answer is the result on hand
unfoldable pub became : Handed → Opening → List Entry → List ℕ → Left
became h o es w = left (verdict_by h o (standing es)).answered (image_of h o es) (zeros w)

-- keep, limit, mark and back: 1, 2, 3 and 12, then the call's own refusals
abbrev pub call_checks : Handed → Ask → List ℕ → List ℕ → List Check
call_checks h a m w =
    ready_checks h m w ++ ask_checks h.places h.rules.arcs.values a (entries_of (held_in h.places m))

unfoldable pub called : Handed → Ask → List ℕ → List ℕ → Left
called h a m w =
    let l = held_in h.places m in
    decided (call_checks h a m w) (λ n. left n m (work_after n w)) (became h (opening_of h.places l) (after a (entries_of l)) w)

-- what an opening is lent beside the tables has its length, with a memory and a work table of m and w numbers
unfoldable pub open_long : ℕ → Opening → ℕ → ℕ → Bool
open_long n o m w = eqb m (memory_size n) && (eqb w (work_size n) && (eqb (length o.masks) n && eqb (length o.limits) n))

-- open, with memory of any content
abbrev pub open_checks : Handed → Opening → List ℕ → List ℕ → List Check
open_checks h o m w =
    rule_checks h (open_long h.places o (length m) (length w)) (check 4 (masks_right h.rules.arcs.values o.masks) ∷ [])

unfoldable pub opened : Handed → Opening → List ℕ → List ℕ → Left
opened h o m w = decided (open_checks h o m w) (λ n. left n m (work_after n w)) (became h o [] w)
