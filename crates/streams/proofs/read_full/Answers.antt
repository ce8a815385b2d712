use Rattle.std.proofs.Common.{◌≡◌, ℕ, ◌+◌, ◌-◌, ◌≤◌, List, [], ◌++◌, None, Some, rules, length, take, refl, sym, ap, ◌∙◌, subst, le_refl, drop_at, length-take-le, append_assoc, append-nil}
use Rattle.std.proofs.lemmas.Slice.{take-put_mid_below}
use Rattle.std.specs.Io.KnownBytes.{Consumes, Keeps}
use Rattle.std.specs.declared.option.Option.{Option}
use borrow.Rule.Slice.PartMut.{put_mid, post_of}
use lib.Seq.{take-add, take-append-le}
use Rattle.streams.proofs.read_full.Goals as goal

consumes_nothing : (a : Option (List ℕ)) → Consumes a a []
consumes_nothing None = tt
consumes_nothing (Some x) = refl

consumes_both : (a b c : Option (List ℕ)) (bs cs : List ℕ) → Consumes a b bs → Consumes b c cs → Consumes a c (bs ++ cs)
consumes_both None b c bs cs p q = tt
consumes_both (Some x) None c bs cs p q = absurd p
consumes_both (Some x) (Some y) None bs cs p q = absurd q
consumes_both (Some x) (Some y) (Some z) bs cs p q = p ∙ ap (λ l. bs ++ l) q ∙ sym (append_assoc bs cs z)

consumes_as_before : (a b c : Option (List ℕ)) (bs : List ℕ) → Consumes a b bs → Keeps b c → Consumes a c bs
consumes_as_before None b c bs p q = tt
consumes_as_before (Some x) None c bs p q = absurd p
consumes_as_before (Some x) (Some y) None bs p q = absurd q
consumes_as_before (Some x) (Some y) (Some z) bs p q = p ∙ ap (λ l. bs ++ l) (sym q)

-- what is filled after a read into the part from a on: what was filled, and the n bytes that the read gave
filled_more : (a k n : ℕ) (xs ys : List ℕ) → a ≤ length xs → n ≤ length ys → take a xs ++ take n ys ≡ take (a + n) (put_mid a k xs ys)
filled_more a k n xs ys within fits =
    let new = put_mid a k xs ys in
    let rest = post_of a k xs in
    ap (λ l. l ++ take n ys) (sym (take-put_mid_below a k xs ys a (le_refl a) within))
    ∙ ap (λ l. take a new ++ l) (sym (ap (take n) (drop_at (take a xs) (ys ++ rest) a (length-take-le a xs within)) ∙ take-append-le n ys rest fits))
    ∙ sym (take-add a n new)

pub loop-done-init : goal.loop-done-init
loop-done-init g c = (refl, search rules, consumes_nothing _)

pub returns-in-Ok-eq0-clause-bytes : goal.returns-in-Ok-eq0-clause-bytes
returns-in-Ok-eq0-clause-bytes g c =
    let l = c.loop-done in
    let filled = take l.done l.buffer in
    let none = ap (λ n. filled ++ take n c.read.new.buf) c.in-Ok-eq0.field-0-test ∙ append-nil filled in
    subst (Consumes _ _) (none ∙ sym (take-put_mid_below _ _ _ _ _ (le_refl _) l.invariant.1)) (consumes_both _ _ _ _ _ l.invariant.2 c.in-Ok-eq0.ensures.bytes.0)

pub loop-done-preserved : goal.loop-done-preserved
loop-done-preserved g c =
    let l = c.loop-done in
    let room = length l.buffer - l.done in
    (search rules, search rules, subst (Consumes _ _) (filled_more l.done room c.in-Ok.n l.buffer c.read.new.buf l.invariant.1 c.in-Ok.ensures.bound.0) (consumes_both _ _ _ _ _ l.invariant.2 c.in-Ok.ensures.bytes.0))

pub returns-in-Err-clause-bytes : goal.returns-in-Err-clause-bytes
returns-in-Err-clause-bytes g c =
    let l = c.loop-done in
    subst (Consumes _ _) (sym (take-put_mid_below _ _ _ _ _ (le_refl _) l.invariant.1)) (consumes_as_before _ _ _ _ l.invariant.2 c.in-Err.ensures.bytes)
