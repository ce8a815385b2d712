-- The whole planner: the table with the fewest changes, and the walk.
use mathlib.Core.Path.{◌≡◌, refl, sym, ap, ◌∙◌}
use mathlib.Core.List.{List}
use mathlib.Core.List.{Memᴰ as In}
use Prim.Native.Nat.{ℕ, suc, ◌-◌, ◌≤◌, ◌<◌, min}
use native.Mathlib.Omega.{arith}
use native.Mathlib.Decide.{dec_lt}
use lib.ListN.{length, length-take}
use Rattle.std.specs.Prelude.{Option, None, Some, Result, Ok, Err}
use Rattle.std.specs.Result.{result_unwrap_or}
use Rattle.meaning.specs.Meaning.{arcs_of, rules_of, places, rosters}
use Rattle.meaning.specs.Bounds.{top}
use Rattle.meaning.proofs.Members.{roster_in, length_places}
use Rattle.rules.specs.Answers.{zeros}
use Rattle.rooms.specs.declared.near.Misfit.{Misfit}
use Rattle.rooms.specs.Changes.{near_layer, PlanSizes, Nears, NearRuns}
use Rattle.mending.specs.Mending.{changes}
use Rattle.mending.proofs.Nearest.{mended_first, mended_none}
use Rattle.planner.specs.Inner.{fewer, room_at, Meant, Walks, Mends}
use Rattle.planner.proofs.Ways.{way_near}
use Rattle.planner.proofs.Walking.{layer_means}

-- the sizes with the work table filled, for a walk that reads no limits
pub ready_filled : {qs vs : ℕ} {t c ms ls ds : List ℕ} {k j : ℕ} {work now : List ℕ} → PlanSizes qs vs t c ms ls ds k work → length now ≡ length work → j ≤ k
    → PlanSizes qs vs t c ms ms ds j now
ready_filled {ms = ms} {now = now} r e h = record {
  plain = record {
    few_states_lem = r.plain.few_states_lem;
    few_values = r.plain.few_values;
    all_targets = r.plain.all_targets;
    all_costs = r.plain.all_costs;
    some_places = r.plain.some_places;
    few_places = r.plain.few_places;
    all_limits = refl;
    all_work = simp length-take (omega (arith, r.all_rows));
  };
  all_drawn = r.all_drawn;
  few_changes = omega (arith, r.few_changes);
  all_rows = e ∙ r.all_rows;
}

-- where the sizes are right, what is told is a number or none
pub told_ok : {qs vs accepting start spent k : ℕ} {t c ms ls ds work work' : List ℕ} {x y : Option ℕ} (r : Result (Option ℕ) Misfit) → NearRuns qs vs t c accepting start spent ms ls ds k work work' r
    → PlanSizes qs vs t c ms ls ds k work → start < qs → x ≡ result_unwrap_or r None → x ≡ y → r ≡ Ok y
told_ok (Ok z) n s h e d = ap Ok (sym e ∙ d)
told_ok (Err z) n s h e d = absurd (n.fits s h refl)

module _ {qs vs : ℕ} {t c ms ls ds : List ℕ} {k : ℕ} {work : List ℕ} (sizes : PlanSizes qs vs t c ms ls ds k work) (accepting start spent : ℕ) {mid : List ℕ} {made : ℕ} (hs : start < qs)
    (nears : Nears qs vs t c accepting start spent ms ls ds k work mid made) where
  meant : Meant (arcs_of qs vs t c) nears.net ds ms mid ls accepting (min made k)
  meant = record { limits = sizes.plain.all_limits; drawn = sizes.all_drawn; arcs = nears.arcs; rooms = nears.fewest.rooms }

  -- the walk has room at the start
  pub walk_room : made ≤ k → spent < room_at mid 0 (suc made) start
  unfolding near_layer
  walk_room h = omega (arith, layer_means meant 0 (suc made) start (omega arith) (omega arith) hs, nears.fewest.some h)

  module _ (hc : spent ≤ top) where
    -- no roster has fewer than are made: the start has no room with so few
    enough : (w : List ℕ) → In w (rosters (rules_of qs vs t c accepting) start spent (places ms ls)) → made ≤ changes ds w
    unfolding near_layer
    enough w m = go (dec_lt (changes ds w) made)
      where
        go : Dec (changes ds w < made) → made ≤ changes ds w
        go (yes l) =
            let i = (roster_in (rules_of qs vs t c accepting) start spent (places ms ls) w).0 m in
            let y = way_near (rules_of qs vs t c accepting) nears.net nears.arcs ds (places ms ls) (suc (made - 1)) start spent w
            (sizes.all_drawn ∙ sym (length_places ms ls (sym sizes.plain.all_limits))) hs hc i.1 i.2 (omega arith) in
            absurd (omega (arith, nears.fewest.none (made - 1) (omega arith)))
        go (no l) = omega arith

    -- the roster was walked, or there is none and the slice is as it was
    module _ {was is cleared : List ℕ} (wiped : cleared ≡ zeros mid) (same : length mid ≡ length work) where
      pub mends_some : made ≤ k → Walks (arcs_of qs vs t c) start spent ms ds mid made is
          → Mends (rosters (rules_of qs vs t c accepting) start spent (places ms ls)) ds k was is work cleared (Some made)
      unfolding fewer
      mends_some h w =
          let y = mended_first ds k (rosters (rules_of qs vs t c accepting) start spent (places ms ls)) made h enough (w.first nears.net ls accepting (min made k) (omega arith) meant) in
          record { roster = (h, y.0, sym y.1); clear = wiped ∙ rw same }

      pub mends_none : k < made → is ≡ was → Mends (rosters (rules_of qs vs t c accepting) start spent (places ms ls)) ds k was is work cleared None
      mends_none h e = record {
        roster = (mended_none ds k (rosters (rules_of qs vs t c accepting) start spent (places ms ls)) (λ z m d. omega (arith, enough z m)), e);
        clear = wiped ∙ rw same;
      }
