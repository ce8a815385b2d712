-- The returns of the filter and of the first roster against their equations.
use Rattle.std.specs.Prelude.{Option, Some, None, ok_or}
use mathlib.Core.Path.{◌≡◌, refl, sym, ap, ◌∙◌}
use mathlib.Core.Bool.{Bool, true, false, ◌&&◌, and-false}
use mathlib.Core.List.{List, []}
use Prim.Native.Nat.{ℕ, ◌<◌}
use native.Mathlib.Omega.{arith}
use lib.Dec.{eqb, ltb, leb}
use lib.ListN.{length}
use borrow.Author.Tests.{eqb-true, ltb-true}
use Rattle.meaning.specs.Meaning.{Rules, Verdict, verdict_of, Place, first}
use Rattle.meaning.specs.Bounds.{most_places, work_size}
use Rattle.rules.specs.declared.Answer.TheVariants as the
use Rattle.rules.specs.Checks.{Handed, sizes_right, tables_long, rule_checks}
use Rattle.rules.specs.Answers.{answer_of, carried, Check, decided, zeros}
use Rattle.rules.proofs.Checks.{both, size_of_lem, sizes_of, long_tables, passes, Passed, answered}
use Rattle.filter.specs.Filter.{left, lengths_right, pass_checks, filter_done}
use Rattle.filter.specs.First.{given, first_done}
use Rattle.rooms.specs.Tables.{Sizes}
use Rattle.reach.specs.Whole.{Filters, Finds}

-- more places than a call can have are answer 1, whatever the lengths
module _ {A : Type 0} (refuse : ℕ → A) (done : A) (h : Handed) (l : Bool) (others : List Check) where
  pub long_same : decided (rule_checks h (leb h.places most_places && l) others) refuse done ≡ decided (rule_checks h l others) refuse done
  unfolding decided sizes_right
  long_same = go (leb h.places most_places) refl
    where
      go : (b : Bool) → leb h.places most_places ≡ b → decided (rule_checks h (leb h.places most_places && l) others) refuse done ≡ decided (rule_checks h l others) refuse done
      go true e = rw e
      go false e = rw (e, and-false)

-- the lengths, one by one
pub record Lengths (n ms ls out work : ℕ) : Type 0 where
  pub of_masks : ms ≡ n
  pub of_limits : ls ≡ n
  pub of_out : out ≡ n
  pub of_work : work ≡ work_size n

pub lengths_of : (n ms ls out work : ℕ) → lengths_right n ms ls out work ≡ true → Lengths n ms ls out work
unfolding lengths_right
lengths_of n ms ls out work h =
    let a = both (eqb ms n) _ h in
    let b = both (eqb ls n) _ a.1 in
    let c = both (eqb out n) _ b.1 in
    record { of_masks = eqb-true _ _ a.0; of_limits = eqb-true _ _ b.0; of_out = eqb-true _ _ c.0; of_work = eqb-true _ _ c.1 }

-- a call that passes the checks 1 to 4, or is refused by one
module _ (h : Handed) (ms ls work : List ℕ) (out : ℕ) where
  pub refused_pass : {A : Type 0} (refuse : ℕ → A) (done : A) (rest : List Check) (x : ℕ) → x ≡ decided (pass_checks h ms ls out (length work) []) (λ n. n) 0 → (x ≡ 0 → ⊥)
      → refuse x ≡ decided (pass_checks h ms ls out (length work) rest) refuse done
  unfolding decided
  refused_pass refuse done rest x e n = grind arith

  module _ (e : 0 ≡ decided (pass_checks h ms ls out (length work) []) (λ n. n) 0) where
    passed : Passed (pass_checks h ms ls out (length work) [])
    passed = answered (λ n. n) (λ n. n) 0 (λ n. refl) 0 (pass_checks h ms ls out (length work) []) refl (sym e)

    pub others_decide_pass : {A : Type 0} (refuse : ℕ → A) (done : A) (rest : List Check) {x : A} → x ≡ decided rest refuse done → x ≡ decided (pass_checks h ms ls out (length work) rest) refuse done
    others_decide_pass refuse done rest d =
        passes refuse done _ _ _ passed.0 (passes refuse done _ _ _ passed.1.0 (passes refuse done _ _ _ passed.1.1.0 (passes refuse done _ _ _ passed.1.1.1.0 d)))

    lengths : Lengths h.places (length ms) (length ls) out (length work)
    lengths = lengths_of h.places (length ms) (length ls) out (length work) (both (tables_long h.rules.arcs.targets h.rules.arcs.costs) _ passed.1.0).1

    -- what passed the checks is ready for the passes
    pub ready : Sizes h.rules.arcs.states h.rules.arcs.values h.rules.arcs.targets h.rules.arcs.costs ms ls work
    ready =
        let z = sizes_of _ _ _ _ passed.0 in
        let y = size_of_lem _ _ _ z.size in
        let k = long_tables _ _ (both (tables_long h.rules.arcs.targets h.rules.arcs.costs) _ passed.1.0).0 in
        record {
          few_states_lem = y.few_states_lem;
          few_values = y.few_values;
          all_targets = k.0;
          all_costs = k.1;
          some_places = omega (arith, z.some_places, lengths.of_masks);
          few_places = omega (arith, z.few_places, lengths.of_masks);
          all_limits = lengths.of_limits ∙ sym lengths.of_masks;
          all_work = lengths.of_work ∙ ap work_size (sym lengths.of_masks);
        }

    pub start_state : h.start < h.rules.arcs.states
    start_state = (size_of_lem _ _ _ (sizes_of _ _ _ _ passed.0).size).start_state

    pub out_long : out ≡ length ms
    out_long = lengths.of_out ∙ sym lengths.of_masks

    pub place_there : (i u : ℕ) → (ltb i h.places && ltb u h.rules.arcs.values) ≡ true → i < length ms
    place_there i u r = let k : i < h.places = ltb-true _ _ (both (ltb i h.places) _ r).0 in omega (arith, lengths.of_masks)

-- what the filter does is what the list of rosters tells
pub filter_done_lem : {r : Rules} {start : ℕ} {ps : List Place} {was is out : List ℕ} (least : Option ℕ) → Filters r start 0 ps was is out least
    → left (answer_of (ok_or least the.NoRoster)) (carried (ok_or least the.NoRoster)) out is ≡ filter_done (verdict_of r start 0 ps) was
unfolding filter_done
filter_done_lem {was = was} None f = rw f.cleared (ap (λ (y : Verdict). left y.answered y.cheapest y.masks (zeros was)) f.right)
filter_done_lem {was = was} (Some x) f = rw f.cleared (ap (λ (y : Verdict). left y.answered y.cheapest y.masks (zeros was)) f.right)

-- and the first roster
module _ {ws : List (List ℕ)} {i v : ℕ} {was is work cleared : List ℕ} {found : Bool} (f : Finds ws i v was is work cleared found) where
  pub first_found : found ≡ true → given 0 is cleared ≡ first_done (first i v ws) was work
  unfolding first_done
  first_found e = rw (f.some e, f.clear)

  pub first_missing : found ≡ false → given 11 is cleared ≡ first_done (first i v ws) was work
  unfolding first_done
  first_missing e = rw ((f.none e).0, (f.none e).1, f.clear)
