-- Laws of a line's judgement. Assumes nothing.
use mathlib.Core.Path.{◌≡◌, refl, ap, sym, ◌∙◌}
use mathlib.Core.Bool.{Bool, true, false, cond, ◌&&◌}
use mathlib.Core.List.{List, [], ◌∷◌, ◌++◌}
use Prim.Native.Nat.{ℕ, suc, ◌+◌, ◌≤◌, ◌<◌}
use native.Mathlib.Omega.{arith}
use lib.Dec.{eqb}
use lib.ListN.{length, get_or, drop, length-append, drop_of_length-le}
use lib.Seq.{drop-cons}
use borrow.Author.Tests.{eq-eqb, ne_eqb, eqb-true}
use Rattle.std.specs.Prelude.{Result, Ok, Err}
use Rattle.meaning.specs.Lists.{all}
use Rattle.rules.proofs.Checks.{both, never}
use Rattle.text.specs.Bytes.{tab, feed, is_small}
use Rattle.text.specs.Numbers.{Field, number, malformed, outside, read_number, read_field, NumberAt}
use Rattle.text.specs.Lines.{Judged, Stripped, rest, other, strip, strip_word, on_strip, on_field, ending, sealed, close, number_fault, strip_view}
use Rattle.text.specs.declared.lines.Fault.TheVariants.{Form, Order, Cut}
use Rattle.text.specs.declared.numbers.Number.{Number}
use Rattle.text.specs.declared.numbers.NumberFault.{NumberFault}
use Rattle.text.specs.declared.numbers.NumberFault.TheVariants.{Malformed, Outside}
use Rattle.text.proofs.Decimals.{Numbered, number_read, Fielded, field_read}
use Rattle.text.proofs.Scans.{value_is, malformed_is, outside_is}

pub strip_word_lem : (w s : List ℕ) → strip w (w ++ s) ≡ rest s
unfolding strip
strip_word_lem [] s = refl
strip_word_lem (b ∷ w) s = rw (eq-eqb b b refl) (strip_word_lem w s)

pub strip_read : (w s r : List ℕ) → strip w s ≡ rest r → s ≡ w ++ r
unfolding strip
strip_read [] s r e = cc
strip_read (b ∷ w) [] r e = never cc
strip_read (b ∷ w) (c ∷ s) r e = go (eqb c b) refl (strip_read w s r)
  where
    go : (t : Bool) → eqb c b ≡ t → (strip w s ≡ rest r → s ≡ w ++ r) → c ∷ s ≡ b ∷ (w ++ r)
    go true h rec = let x : c ≡ b = eqb-true c b h in let y : s ≡ w ++ r = rec (rw h at e) in cc
    go false h rec = let x : other ≡ rest r = rw h at e in never cc

-- what a reading that went well says of its parts
pub on_field_right : {A : Type 0} (x : Field) (f : ℕ → List ℕ → Judged A) (a : A) → on_field x f ≡ Ok a → (n : ℕ) × (r : List ℕ) × (x ≡ number n r) × (f n r ≡ Ok a)
on_field_right (number n r) f a e = (n, r, refl, e)
on_field_right malformed f a e = never cc
on_field_right outside f a e = never cc

pub close_right : {A : Type 0} (o : Bool) (a b : A) (r : List ℕ) → close o a r ≡ Ok b → (r ≡ feed ∷ []) × (o ≡ true) × (a ≡ b)
unfolding ending
close_right true a b [] e = never cc
close_right false a b [] e = never cc
close_right true a b (c ∷ []) e = go (eqb c feed) refl
  where
    go : (t : Bool) → eqb c feed ≡ t → (c ∷ [] ≡ feed ∷ []) × (true ≡ true) × (a ≡ b)
    go true h = let x : c ≡ 10 = eqb-true c 10 h in let y : Ok a ≡ Ok b = rw h at e in (cc, refl, cc)
    go false h = let y : Err Form ≡ Ok b = rw h at e in never cc
close_right false a b (c ∷ []) e = go (eqb c feed) refl
  where
    go : (t : Bool) → eqb c feed ≡ t → (c ∷ [] ≡ feed ∷ []) × (false ≡ true) × (a ≡ b)
    go true h = let y : Err Order ≡ Ok b = rw h at e in never cc
    go false h = let y : Err Form ≡ Ok b = rw h at e in never cc
close_right true a b (c ∷ d ∷ r) e = never cc
close_right false a b (c ∷ d ∷ r) e = never cc

pub on_strip_right : {A : Type 0} (x : Stripped) (f : List ℕ → Judged A) (a : A) → on_strip x f (Err Form) ≡ Ok a → (r : List ℕ) × (x ≡ rest r) × (f r ≡ Ok a)
on_strip_right (rest r) f a e = (r, refl, e)
on_strip_right other f a e = never cc

-- close_at
pub ending_none : (o : Bool) (t : List ℕ) (i : ℕ) → length t ≤ i → ending o (drop i t) ≡ cond o (Err Cut) (Err Order)
unfolding ending
ending_none o t i h = rw (drop_of_length-le t h)

pub ending_many : (o : Bool) (t : List ℕ) (i : ℕ) → i + 1 < length t → ending o (drop i t) ≡ Err Form
unfolding ending
ending_many o t i h = rw (drop-cons t i 0 (omega arith), drop-cons t (suc i) 0 (omega arith))

pub ending_other : (o : Bool) (t : List ℕ) (i : ℕ) → i < length t → length t ≤ i + 1 → (get_or t i 0 ≡ feed → ⊥) → ending o (drop i t) ≡ Err Form
unfolding ending
ending_other o t i h k b = rw (drop-cons t i 0 h, drop_of_length-le t {i = suc i} (omega arith), ne_eqb (get_or t i 0) feed b)

pub ending_feed : (o : Bool) (t : List ℕ) (i : ℕ) → i < length t → length t ≤ i + 1 → get_or t i 0 ≡ feed → ending o (drop i t) ≡ cond o (Ok tt) (Err Order)
unfolding ending
ending_feed o t i h k b = rw (drop-cons t i 0 h, drop_of_length-le t {i = suc i} (omega arith), eq-eqb (get_or t i 0) feed b)

-- lines
module _ {A : Type 0} (s : List ℕ) (x : Field) (r : Result Number NumberFault) (n : NumberAt x s r) (g : ℕ → List ℕ → Judged A) where
  pub number_right : (m : Number) → r ≡ Ok m → on_field x g ≡ g m.value (drop m.end s)
  number_right m e = rw (value_is s x r n m e)

  pub number_wrong : (f : NumberFault) → r ≡ Err f → on_field x g ≡ Err (number_fault f)
  number_wrong Malformed e = rw (malformed_is s x r n e)
  number_wrong Outside e = rw (outside_is s x r n e)

pub number_range : (lo hi : ℕ) (y s : List ℕ) (r : Result Number NumberFault) → NumberAt (read_number lo hi y) s r → (m : Number) → r ≡ Ok m → (lo ≤ m.value) × (m.value ≤ hi)
number_range lo hi y s r n m e =
    let w : Numbered lo hi y m.value (drop m.end s) = number_read lo hi y m.value (drop m.end s) (value_is s (read_number lo hi y) r n m e) in
    (w.low, w.high)

pub field_range : (lo hi : ℕ) (y s : List ℕ) (r : Result Number NumberFault) → NumberAt (read_field lo hi y) s r → (m : Number) → r ≡ Ok m → (lo ≤ m.value) × (m.value ≤ hi)
field_range lo hi y s r n m e =
    let w : Fielded lo hi y m.value (drop m.end s) = field_read lo hi y m.value (drop m.end s) (value_is s (read_field lo hi y) r n m e) in
    (w.low, w.high)

pub sealed_is : {A : Type 0} (a : A) (x y e : Judged Unit) → e ≡ x → e ≡ y → sealed a x ≡ sealed a y
sealed_is a x y e h k = ap (sealed a) (sym h ∙ k)

-- a word of small letters, and the tab behind it
pub word_strip : (w s : List ℕ) → all is_small w ≡ true → strip_word w s ≡ strip (w ++ tab ∷ []) s
unfolding strip strip_word
word_strip [] [] h = refl
word_strip [] (c ∷ s) h = refl
word_strip (b ∷ w) [] h = refl
word_strip (b ∷ w) (c ∷ s) h = go (eqb c b) refl (is_small c) refl (λ l. word_strip w s l)
  where
    parts : (is_small b ≡ true) × (all is_small w ≡ true)
    parts = both (is_small b) (all is_small w) h

    go : (t : Bool) → eqb c b ≡ t → (u : Bool) → is_small c ≡ u → (all is_small w ≡ true → strip_word w s ≡ strip (w ++ tab ∷ []) s) → cond (is_small c && eqb c b) (strip_word w s) other ≡ cond (eqb c b) (strip (w ++ tab ∷ []) s) other
    go true e true f rec = rw (f, e) (rec parts.1)
    go true e false f rec = let x : c ≡ b = eqb-true c b e in let y : is_small b ≡ false = rw x at f in never cc
    go false e true f rec = rw (f, e)
    go false e false f rec = rw (f, e)

module _ (t w : List ℕ) (r : Bool) (e : strip_view t (length w + 1) r ≡ strip_word w t) (l : all is_small w ≡ true) where
  pub begins_true : r ≡ true → strip (w ++ tab ∷ []) t ≡ rest (drop (length w + 1) t)
  begins_true h = sym (word_strip w t l) ∙ (sym e ∙ ap (strip_view t (length w + 1)) h)

  pub begins_false : r ≡ false → strip (w ++ tab ∷ []) t ≡ other
  begins_false h = sym (word_strip w t l) ∙ (sym e ∙ ap (strip_view t (length w + 1)) h)

pub begins_length : (t w x : List ℕ) → strip w t ≡ rest x → length w ≤ length t
begins_length t w x e = let h : length t ≡ length w + length x = ap length (strip_read w t x e) ∙ length-append w x in omega arith

pub strip_right : {A : Type 0} (t w x : List ℕ) (f : List ℕ → A) (a : A) → strip w t ≡ rest x → on_strip (strip w t) f a ≡ f x
strip_right t w x f a e = rw e

pub strip_wrong : {A : Type 0} (t w : List ℕ) (f : List ℕ → A) (a : A) → strip w t ≡ other → on_strip (strip w t) f a ≡ a
strip_wrong t w f a e = rw e
