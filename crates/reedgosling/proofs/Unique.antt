-- Each contract of the C boundary leaves one outcome: any two that it allows are equal. Assumes nothing.
use mathlib.Core.Path.{◌≡◌, sym, ap, ◌∙◌}
use mathlib.Core.Bool.{cond}
use mathlib.Core.List.{List}
use Prim.Native.Nat.{ℕ}
use Rattle.meaning.specs.Meaning.{Rules}
use Rattle.rules.specs.Report.{Outcome, outcome, report_of}
use Rattle.rules.specs.Checks.{Handed}
use Rattle.ledger.specs.Readiness.{Left as LeftIn, left as leftIn}
use Rattle.filter.specs.Filter.{Left, left, filter_of}
use Rattle.filter.specs.First.{Given, given, first_of}
use Rattle.mending.specs.Outcomes.{Planned, planned, mend_of, check_of}
use Rattle.sheet.specs.Reading.{Outcome as Reading, read_of}
use Rattle.patterns.specs.Outcome.{Outcome as Composing, pattern_of}
use Rattle.scribe.specs.Writing.{Outcome as Writing, write_left, write_of}

pub filter_unique : (h : Handed) (ms ls ks work : List ℕ) (a b l m : ℕ) (k k2 w w2 : List ℕ)
    → left a l k w ≡ filter_of h ms ls ks work → left b m k2 w2 ≡ filter_of h ms ls ks work → (a ≡ b) × (l ≡ m) × (k ≡ k2) × (w ≡ w2)
filter_unique h ms ls ks work a b l m k k2 w w2 p q =
    let e : left a l k w ≡ left b m k2 w2 = p ∙ sym q in
    (ap (λ (x : Left). x.answer) e, ap (λ (x : Left). x.least) e, ap (λ (x : Left). x.kept) e, ap (λ (x : Left). x.work) e)

pub first_roster_unique : (h : Handed) (ms ls : List ℕ) (i v : ℕ) (roster work : List ℕ) (a b : ℕ) (k k2 w w2 : List ℕ)
    → given a k w ≡ first_of h ms ls i v roster work → given b k2 w2 ≡ first_of h ms ls i v roster work → (a ≡ b) × (k ≡ k2) × (w ≡ w2)
first_roster_unique h ms ls i v roster work a b k k2 w w2 p q =
    let e : given a k w ≡ given b k2 w2 = p ∙ sym q in
    (ap (λ (x : Given). x.answer) e, ap (λ (x : Given). x.roster) e, ap (λ (x : Given). x.work) e)

pub prefix_report_unique : (h : Handed) (w : List ℕ) (a b n m : ℕ) → outcome a n ≡ report_of h w → outcome b m ≡ report_of h w → (a ≡ b) × (n ≡ m)
prefix_report_unique h w a b n m p q =
    let e : outcome a n ≡ outcome b m = p ∙ sym q in (ap (λ (x : Outcome). x.answer) e, ap (λ (x : Outcome). x.report) e)

pub mend_unique : (h : Handed) (ms ls ds : List ℕ) (most : ℕ) (roster work : List ℕ) (a b n m : ℕ) (k k2 w w2 : List ℕ)
    → planned a n k w ≡ mend_of h ms ls ds most roster work → planned b m k2 w2 ≡ mend_of h ms ls ds most roster work → (a ≡ b) × (n ≡ m) × (k ≡ k2) × (w ≡ w2)
mend_unique h ms ls ds most roster work a b n m k k2 w w2 p q =
    let e : planned a n k w ≡ planned b m k2 w2 = p ∙ sym q in
    (ap (λ (x : Planned). x.answer) e, ap (λ (x : Planned). x.changed) e, ap (λ (x : Planned). x.roster) e, ap (λ (x : Planned). x.work) e)

pub check_unique : (h : Handed) (ms ls ds w : List ℕ) (claimed a b n m : ℕ)
    → (a ≡ (check_of h ms ls ds w claimed).answer) × (n ≡ cond (check_of h ms ls ds w claimed).says 1 0)
    → (b ≡ (check_of h ms ls ds w claimed).answer) × (m ≡ cond (check_of h ms ls ds w claimed).says 1 0) → (a ≡ b) × (n ≡ m)
check_unique h ms ls ds w claimed a b n m p q = (p.0 ∙ sym q.0, p.1 ∙ sym q.1)

pub read_sheet_unique : (text t c : List ℕ) (x y : Reading) → x ≡ read_of text t c → y ≡ read_of text t c → x ≡ y
read_sheet_unique text t c x y p q = p ∙ sym q

pub read_pattern_unique : (line : List ℕ) (vs : ℕ) (t c : List ℕ) (x y : Composing) → x ≡ pattern_of line vs t c → y ≡ pattern_of line vs t c → x ≡ y
read_pattern_unique line vs t c x y p q = p ∙ sym q

pub write_sheet_unique : (r : Rules) (s : ℕ) (buffer : List ℕ) (a b n m : ℕ) (x y : List ℕ)
    → write_left a n x ≡ write_of r s buffer → write_left b m y ≡ write_of r s buffer → (a ≡ b) × (n ≡ m) × (x ≡ y)
write_sheet_unique r s buffer a b n m x y p q =
    let e : write_left a n x ≡ write_left b m y = p ∙ sym q in
    (ap (λ (o : Writing). o.answer) e, ap (λ (o : Writing). o.length) e, ap (λ (o : Writing). o.buffer) e)

-- open, and keep, limit, mark and back
pub session_unique : (x : LeftIn) (a b : ℕ) (m n u v : List ℕ) → leftIn a m u ≡ x → leftIn b n v ≡ x → (a ≡ b) × (m ≡ n) × (u ≡ v)
session_unique x a b m n u v p q =
    let e : leftIn a m u ≡ leftIn b n v = p ∙ sym q in
    (ap (λ (o : LeftIn). o.answer) e, ap (λ (o : LeftIn). o.memory) e, ap (λ (o : LeftIn). o.work) e)
