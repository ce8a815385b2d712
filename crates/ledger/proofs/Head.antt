-- The numbers at the head of what is held, one by one. Assumes nothing.
use mathlib.Core.Path.{◌≡◌, sym}
use mathlib.Core.Bool.{true}
use mathlib.Core.List.{List}
use Prim.Native.Nat.{ℕ, ◌≤◌}
use lib.ListN.{get_or, drop, take}
use lib.Dec.{eqb, leb}
use borrow.Author.Tests.{eq-eqb, eqb-true, le-leb, leb-true}
use Rattle.rules.proofs.Checks.{both}
use Rattle.ledger.specs.Layout.{most_decisions, most_marks, spare_size}
use Rattle.ledger.specs.Memory.{all_zero, head_right}

pub record Head (n q v start : ℕ) (l : List ℕ) : Type 0 where
  pub n_is : get_or l 0 0 ≡ n
  pub q_is : get_or l 1 0 ≡ q
  pub v_is : get_or l 2 0 ≡ v
  pub start_is : get_or l 3 0 ≡ start
  pub d_high : get_or l 4 0 ≤ most_decisions
  pub m_high : get_or l 5 0 ≤ most_marks

module _ (n q v start : ℕ) (l : List ℕ) where
  pub head_last : Head n q v start l → all_zero (take spare_size (drop 6 l)) ≡ head_right n q v start l
  unfolding head_right
  head_last h = sym (simp (eq-eqb (get_or l 0 0) n h.n_is, eq-eqb (get_or l 1 0) q h.q_is, eq-eqb (get_or l 2 0) v h.v_is, eq-eqb (get_or l 3 0) start h.start_is, le-leb (get_or l 4 0) most_decisions h.d_high, le-leb (get_or l 5 0) most_marks h.m_high))

  pub head_all : head_right n q v start l ≡ true → Head n q v start l × (all_zero (take spare_size (drop 6 l)) ≡ true)
  unfolding head_right
  head_all e0 =
      let e1 = (both (eqb (get_or l 0 0) n) _ e0).1 in
      let e2 = (both (eqb (get_or l 1 0) q) _ e1).1 in
      let e3 = (both (eqb (get_or l 2 0) v) _ e2).1 in
      let e4 = (both (eqb (get_or l 3 0) start) _ e3).1 in
      let e5 = (both (leb (get_or l 4 0) most_decisions) _ e4).1 in (
        record {
          n_is = eqb-true (get_or l 0 0) n (both _ _ e0).0;
          q_is = eqb-true (get_or l 1 0) q (both _ _ e1).0;
          v_is = eqb-true (get_or l 2 0) v (both _ _ e2).0;
          start_is = eqb-true (get_or l 3 0) start (both _ _ e3).0;
          d_high = leb-true (get_or l 4 0) most_decisions (both _ _ e4).0;
          m_high = leb-true (get_or l 5 0) most_marks (both _ _ e5).0;
        },
        (both (leb (get_or l 5 0) most_marks) _ e5).1,
      )
