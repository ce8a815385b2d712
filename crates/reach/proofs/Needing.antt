-- Needs in place of rooms: the test against the top, and the row of needs that is copied for a place.
use mathlib.Core.Path.{◌≡◌, sym, ◌∙◌}
use mathlib.Core.List.{List}
use Prim.Native.Nat.{ℕ, suc, ◌+◌, ◌*◌, ◌-◌, ◌≤◌, ◌<◌}
use native.Mathlib.Omega.{arith}
use native.Mathlib.Decide.{dec_lt, dec_le}
use lib.Dec.{ltb, leb}
use lib.ListN.{length, get_or, take, drop}
use borrow.Author.Tests.{lt-ltb, le-ltb, le-leb, lt-leb}
use Rattle.meaning.specs.Meaning.{places}
use Rattle.meaning.specs.Bounds.{top}
use Rattle.rooms.specs.Tables.{Filled, turned, Frame, capped, room, Layers, need_at, rooms_by, Bare, Low}
use Rattle.reach.specs.Looks.{struck}
use Rattle.ranks.proofs.Parts.{within}
use Rattle.rooms.proofs.Layering.{needed_rooms, row_copied}

-- a cost lies below a room exactly if with the need it stays within the top
pub fits_is : (x n : ℕ) → leb (x + n) 366000 ≡ ltb x (suc top - n)
unfolding top
fits_is x n = go (dec_le (x + n) 366000)
  where
    go : Dec (x + n ≤ 366000) → leb (x + n) 366000 ≡ ltb x (366001 - n)
    go (yes h) = le-leb (x + n) 366000 h ∙ sym (lt-ltb x (366001 - n) (omega arith))
    go (no h) = lt-leb (x + n) 366000 (omega arith) ∙ sym (le-ltb x (366001 - n) (omega arith))

pub struck_yes : (x n : ℕ) → x + n ≤ 366000 → x ≡ struck x (suc top - n)
struck_yes x n h = rw (← fits_is x n, le-leb (x + n) 366000 h)

pub struck_no : (x n : ℕ) → 366000 < x + n → 366001 ≡ struck x (suc top - n)
unfolding top
struck_no x n h = rw (← fits_is x n, lt-leb (x + n) 366000 h)

-- an arc of the turned tables, tested as the code does it
pub arc_fits : (ts cs needs : List ℕ) (s q v : ℕ) {at : ℕ} → at ≡ v * 64 + q → get_or ts at 0 < length needs
    → leb (s + get_or cs at 0 + get_or needs (get_or ts at 0) 0) 366000 ≡ ltb (s + (turned ts cs).fee q v) (rooms_by needs ((turned ts cs).to q v))
unfolding turned
arc_fits ts cs needs s q v {at} e h = fits_is (s + get_or cs at 0) (get_or needs (get_or ts at 0) 0) ∙ rw (within needs (get_or ts at 0) 0 (suc top) h, e)

-- the row of a place, copied over the row of the place before
pub filled_low : {f : ℕ → ℕ} {n : ℕ} {needs now : List ℕ} → length needs ≡ 256 → Bare n needs → Filled f n needs now → ((k : ℕ) → k < n → f k ≤ suc top) → Low 256 now
filled_low {n = n} {needs} {now} l b f most = record { low = λ k m. go k m (dec_lt k n) }
  where
    go : (k : ℕ) → k < 256 → Dec (k < n) → get_or now k 0 ≤ suc top
    go k m (yes h) = rw (f.done k h) (most k h)
    go k m (no h) = rw (f.left k (omega arith), within needs k 0 (suc top) (omega arith), b.none k (omega arith)) (omega arith)

-- the rooms that such a row stands for
pub rooms_copied : (f : Frame) (ms ls : List ℕ) → length ls ≡ length ms → (i : ℕ) (work needs now : List ℕ) → f.states ≤ 64 → length needs ≡ 256 → length now ≡ length needs → i < length ms
    → Layers f ms ls 0 work → Bare f.states needs → Filled (λ k. get_or (take ((i + 1) * 64 + 64 - (i + 1) * 64) (drop ((i + 1) * 64) work)) k 0) f.states needs now
    → (u : ℕ) → rooms_by now u ≡ capped (get_or ls i 0) (room f (drop (suc i) (places ms ls)) u)
rooms_copied f ms ls same i work needs now h l m hi r b c u =
    needed_rooms (get_or ls i 0) (room f (drop (suc i) (places ms ls)) u) (need_at now u) (row_copied f ms ls same i work needs now h (omega arith) m hi r b.none c u)
