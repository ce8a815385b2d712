-- Each public contract leaves one result: any two that it allows are equal. Assumes nothing.
use mathlib.Core.Path.{◌≡◌, refl, sym, ap, ◌∙◌}
use mathlib.Core.Bool.{Bool, true, false}
use mathlib.Core.List.{List, ◌∷◌}
use Prim.Native.Nat.{ℕ, ◌+◌, ◌-◌, ◌≤◌, ◌<◌}
use native.Mathlib.Decide.{dec_lt}
use native.Mathlib.Omega.{arith}
use lib.ListN.{length, take, drop, length-drop}
use lib.Seq.{length-take-le}
use Rattle.std.specs.Prelude.{Result, Ok, Err}
use Rattle.rules.proofs.Checks.{never}
use Rattle.text.specs.Bytes.{sort_of}
use Rattle.text.specs.Numbers.{Field, number, NumberAt}
use Rattle.text.specs.Lines.{strip_word, ending, lines, field_fault, strip_view, LineEnd}
use Rattle.text.specs.Writing.{Wrote}
use Rattle.text.specs.declared.bytes.Sort.{Sort}
use Rattle.text.specs.declared.lines.Fault.{Fault}
use Rattle.text.specs.declared.numbers.Number.{Number}
use Rattle.text.specs.declared.numbers.NumberFault.{NumberFault}
use Rattle.text.specs.declared.numbers.NumberFault.TheVariants.{Malformed, Outside}

pub sort_of_unique : (b : ℕ) (r s : Sort) → r ≡ sort_of b → s ≡ sort_of b → r ≡ s
sort_of_unique b r s p q = p ∙ sym q

pub begins_unique : (line word : List ℕ) (r s : Bool) → strip_view line (length word + 1) r ≡ strip_word word line → strip_view line (length word + 1) s ≡ strip_word word line → r ≡ s
begins_unique line word true true p q = refl
begins_unique line word false false p q = refl
begins_unique line word true false p q = let e : strip_view line (length word + 1) true ≡ strip_view line (length word + 1) false = p ∙ sym q in never cc
begins_unique line word false true p q = let e : strip_view line (length word + 1) false ≡ strip_view line (length word + 1) true = p ∙ sym q in never cc

pub fault_of_unique : (n : Result Number NumberFault) (r s : Fault) → r ≡ field_fault n → s ≡ field_fault n → r ≡ s
fault_of_unique n r s p q = p ∙ sym q

pub close_at_unique : (line : List ℕ) (at : ℕ) (ordered : Bool) (r s : Result Unit Fault) → r ≡ ending ordered (drop at line) → s ≡ ending ordered (drop at line) → r ≡ s
close_at_unique line at ordered r s p q = p ∙ sym q

-- a place inside a text is told by what follows it
same_place : (s : List ℕ) (i j : ℕ) → i ≤ length s → j ≤ length s → drop i s ≡ drop j s → i ≡ j
same_place s i j h k e =
    let l : length s - i ≡ length s - j = sym (length-drop i s) ∙ (ap length e ∙ length-drop j s) in omega arith

-- number_at and field_at
abbrev number_of : ℕ → ℕ → Result Number NumberFault
number_of v p = Ok (record { value = v; end = p })

same_number : (v w p q : ℕ) → v ≡ w → p ≡ q → number_of v p ≡ number_of w q
same_number v w p q e f = cc

pub number_unique : (x : Field) (line : List ℕ) (r s : Result Number NumberFault) → NumberAt x line r → NumberAt x line s → r ≡ s
number_unique x line (Ok m) (Ok n) a b =
    let e : number m.value (drop m.end line) ≡ number n.value (drop n.end line) = a.reads ∙ sym b.reads in
    let f : m.value ≡ n.value = cc in
    let d : drop m.end line ≡ drop n.end line = cc in
    same_number m.value n.value m.end n.end f (same_place line m.end n.end a.inside b.inside d)
number_unique x line (Ok m) (Err Malformed) a b = let e = a.reads ∙ sym b.reads in never cc
number_unique x line (Ok m) (Err Outside) a b = let e = a.reads ∙ sym b.reads in never cc
number_unique x line (Err Malformed) (Ok n) a b = let e = a.reads ∙ sym b.reads in never cc
number_unique x line (Err Malformed) (Err Malformed) a b = refl
number_unique x line (Err Malformed) (Err Outside) a b = let e = a.reads ∙ sym b.reads in never cc
number_unique x line (Err Outside) (Ok n) a b = let e = a.reads ∙ sym b.reads in never cc
number_unique x line (Err Outside) (Err Malformed) a b = let e = a.reads ∙ sym b.reads in never cc
number_unique x line (Err Outside) (Err Outside) a b = refl

pub line_end_unique : (s : List ℕ) (at r q : ℕ) → LineEnd s at r → LineEnd s at q → r ≡ q
line_end_unique s at r q a b = go (dec_lt at (length s))
  where
    go : Dec (at < length s) → r ≡ q
    go (yes h) =
        let l = a.inside h in
        let m = b.inside h in
        let e : take (r - at) (drop at s) ∷ lines (drop r s) ≡ take (q - at) (drop at s) ∷ lines (drop q s) = sym l.cuts ∙ m.cuts in
        let t : take (r - at) (drop at s) ≡ take (q - at) (drop at s) = cc in
        let x : length (take (r - at) (drop at s)) ≡ r - at = length-take-le (r - at) (drop at s) (omega (arith, length-drop at s, l.high)) in
        let y : length (take (q - at) (drop at s)) ≡ q - at = length-take-le (q - at) (drop at s) (omega (arith, length-drop at s, m.high)) in
        omega (arith, ap length t, l.low, m.low)
    go (no h) = a.past_end (omega arith) ∙ sym (b.past_end (omega arith))

-- put_byte, put_word and put_number
pub put_unique : (before : List ℕ) (at : ℕ) (text c d : List ℕ) (r s : ℕ) → Wrote before at text c r → Wrote before at text d s → (c ≡ d) × (r ≡ s)
put_unique before at text c d r s a b = (a.bytes ∙ sym b.bytes, a.ends ∙ sym b.ends)
