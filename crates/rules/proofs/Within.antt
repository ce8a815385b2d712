-- Places from Q × V on play no part: rules that are alike before tell the same, and so does a call that is handed either. Assumes nothing.
use mathlib.Core.Path.{◌≡◌, refl, ap, ap₂, ◌∙◌}
use mathlib.Core.Bool.{Bool, true, false, ◌&&◌, and_comm}
use mathlib.Core.List.{List, [], ◌∷◌, ◌++◌}
use mathlib.Core.List.{Memᴰ as In}
use Prim.Native.Nat.{ℕ, zero, suc, ◌+◌, ◌*◌, ◌<◌}
use native.Mathlib.Omega.{arith}
use lib.Arith.{digits_lt}
use lib.Dec.{ltb}
use lib.ListN.{length, get_or, get_or-append}
use borrow.Author.Tests.{ltb-true}
use Rattle.rules.specs.Answers.{Check, check, decided}
use Rattle.rules.specs.Checks.{Handed, Alike, RulesAlike, OneRuleSet, sizes_right, tables_long, arc_right, tables_from, tables_right, rule_checks}
use Rattle.meaning.specs.Lists.{from, those, all}
use Rattle.meaning.specs.Meaning.{Rules, rules_of, target, cost, has_arc, accepted, total, Place, takes, fits, allowed, words, rosters, kept, least, answer, verdict, verdict_on, verdict_of}
use Rattle.rules.specs.Report.{full_words, report_of}
use Rattle.meaning.specs.Prefixes.{accepted_words, behind}
use Rattle.meaning.specs.Worked.{W}
use Rattle.rules.proofs.Checks.{both, Passed, decided_same, sizes_of, size_of_lem}
use Rattle.meaning.proofs.Lists.{those_same, map_same}
use Rattle.meaning.proofs.Members.{Below, words_in, roster_in}

-- what stands behind a test matters only if the test is passed
behind_test : (a b f g : Bool) → a ≡ b → (a ≡ true → f ≡ g) → (a && f) ≡ (b && g)
behind_test true b f g e k = rw (← e) (k refl)
behind_test false b f g e k = rw (← e)

all_alike : (f g : ℕ → Bool) (i n : ℕ) → ((k : ℕ) → k < i + n → f k ≡ g k) → all f (from i n) ≡ all g (from i n)
all_alike f g i zero e = refl
all_alike f g i (suc n) e = rw (e i (omega arith), all_alike f g (suc i) n (λ k h. e k (omega arith)))

module _ (r u : Rules) (alike : RulesAlike r u) where
  pub target_same : (q v : ℕ) → q < r.arcs.states → v < r.arcs.values → target r.arcs q v ≡ target u.arcs q v
  target_same q v h k = rw (← alike.values) (alike.targets (q * r.arcs.values + v) (digits_lt h k))

  pub cost_same : (q v : ℕ) → q < r.arcs.states → v < r.arcs.values → cost r.arcs q v ≡ cost u.arcs q v
  cost_same q v h k = rw (← alike.values) (alike.costs (q * r.arcs.values + v) (digits_lt h k))

  -- the same answer to check 3
  pub tables_alike : tables_right r.arcs.states r.arcs.values r.arcs.targets r.arcs.costs r.accepting
      ≡ tables_right u.arcs.states u.arcs.values u.arcs.targets u.arcs.costs u.accepting
  unfolding tables_right tables_from
  tables_alike =
      let q : ℕ = r.arcs.states in
      rw (
        ← alike.states,
        ← alike.values,
        ← alike.accepting,
        all_alike (λ k. arc_right q (get_or r.arcs.targets k 0) (get_or r.arcs.costs k 0)) (λ k. arc_right q (get_or u.arcs.targets k 0) (get_or u.arcs.costs k 0)) 0 (q * r.arcs.values)
            (λ k h. rw (alike.targets k (omega arith), alike.costs k (omega arith))),
      )

  accepted_alike : (q : ℕ) (w : List ℕ) → q < r.arcs.states → Below r.arcs.values w → accepted r q w ≡ accepted u q w
  accepted_alike q [] h b = rw alike.accepting
  accepted_alike q (v ∷ w) h b =
      let n : ℕ = target u.arcs q v in
      rw (target_same q v h b.0) (behind_test (ltb n r.arcs.states) _ _ _ (ap (ltb n) alike.states) (λ e. accepted_alike n w (ltb-true _ _ e) b.1))

  -- the same accepted words
  pub words_alike : (q n : ℕ) → q < r.arcs.states → accepted_words r q n ≡ accepted_words u q n
  unfolding accepted_words
  words_alike q n h =
      those_same _ _ (words r.arcs.values n) (λ w k. accepted_alike q w h (words_in r.arcs.values n w k).1)
      ∙ ap (λ (vs : ℕ). those (accepted u q) (words vs n)) alike.values

  -- which fit alike
  fits_alike : (q s : ℕ) (ps : List Place) (w : List ℕ) → q < r.arcs.states → Below r.arcs.values w → accepted r q w ≡ true
      → fits r.arcs q s ps w ≡ fits u.arcs q s ps w
  fits_alike q s [] [] h b a = refl
  fits_alike q s [] (v ∷ w) h b a = refl
  fits_alike q s (p ∷ ps) [] h b a = refl
  fits_alike q s (p ∷ ps) (v ∷ w) h b a =
      let k = both (has_arc r.arcs q v) _ a in
      let x : ℕ = s + cost r.arcs q v in
      ap (λ (f : Bool). takes p x v && f) (fits_alike (target r.arcs q v) x ps w (ltb-true _ _ k.0) b.1 k.1)
      ∙ rw (target_same q v h b.0, cost_same q v h b.0)

  pub allowed_alike : (q s : ℕ) (ps : List Place) (w : List ℕ) → q < r.arcs.states → Below r.arcs.values w → allowed r q s ps w ≡ allowed u q s ps w
  allowed_alike q s ps w h b =
      and_comm (fits r.arcs q s ps w) (accepted r q w)
      ∙ (behind_test _ _ _ _ (accepted_alike q w h b) (fits_alike q s ps w h b) ∙ and_comm (accepted u q w) (fits u.arcs q s ps w))

  total_alike : (q s : ℕ) (w : List ℕ) → q < r.arcs.states → Below r.arcs.values w → accepted r q w ≡ true → total r.arcs q s w ≡ total u.arcs q s w
  total_alike q s [] h b a = refl
  total_alike q s (v ∷ w) h b a =
      let p = both (has_arc r.arcs q v) _ a in
      total_alike (target r.arcs q v) (s + cost r.arcs q v) w (ltb-true _ _ p.0) b.1 p.1
      ∙ rw (target_same q v h b.0, cost_same q v h b.0)

  -- the same rosters, so the same first roster with a value at a place
  pub rosters_alike : (q s : ℕ) (ps : List Place) → q < r.arcs.states → rosters r q s ps ≡ rosters u q s ps
  unfolding rosters
  rosters_alike q s ps h =
      those_same _ _ (words r.arcs.values (length ps)) (λ w k. allowed_alike q s ps w h (words_in r.arcs.values (length ps) w k).1)
      ∙ ap (λ (vs : ℕ). those (allowed u q s ps) (words vs (length ps))) alike.values

  -- A FILTER TELLS THE SAME
  pub verdict_alike : (q s : ℕ) (ps : List Place) → q < r.arcs.states → verdict_of r q s ps ≡ verdict_of u q s ps
  unfolding verdict_of
  verdict_alike q s ps h =
      let ws : List (List ℕ) = rosters r q s ps in
      let accepts : (w : List ℕ) → In w ws → Below r.arcs.values w × (accepted r q w ≡ true) =
      λ w k. let m = (roster_in r q s ps w).0 k in (m.1, (both (fits r.arcs q s ps w) _ m.2).1) in
      ap₂ (λ (vs : ℕ) (xs : List ℕ). verdict (answer ws) (kept vs (length ps) ws) (least xs)) alike.values
      (map_same _ _ ws (λ w k. total_alike q s w h (accepts w k).0 (accepts w k).1))
      ∙ ap (verdict_on u.arcs q s (length ps)) (rosters_alike q s ps h)

pub one_refl : (h : Handed) → OneRuleSet h h
one_refl h = record {
  places = refl;
  start = refl;
  rules = record { states = refl; values = refl; accepting = refl; targets = λ k l. refl; costs = λ k l. refl };
  targets_long = refl;
  costs_long = refl;
}

-- checks that are the same, the first being passed, do the same
checks_same : {A : Type 0} (refuse : ℕ → A) (d e : A) (ks ls : List Check) (x y t u r s : Bool) → x ≡ y → t ≡ u → r ≡ s
    → (x ≡ true → ks ≡ ls) → (x ≡ true → Passed ks → d ≡ e)
    → decided (check 1 x ∷ check 2 t ∷ check 3 r ∷ ks) refuse d ≡ decided (check 1 y ∷ check 2 u ∷ check 3 s ∷ ls) refuse e
unfolding decided
checks_same refuse d e ks ls true y t u r s i j k f g =
    rw (← i, ← j, ← k, ← f refl) (decided_same refuse d e (check 2 t ∷ check 3 r ∷ ks) (λ p. g refl p.1.1))
checks_same refuse d e ks ls false y t u r s i j k f g = rw (← i)

-- One rule set, handed in twice: a call goes alike if, the start being a state, its other checks and what it does are the same
module _ (h k : Handed) (one : OneRuleSet h k) where
  sizes_same : sizes_right h.places h.rules.arcs.states h.rules.arcs.values h.start
      ≡ sizes_right k.places k.rules.arcs.states k.rules.arcs.values k.start
  sizes_same = cc (one.places, one.start, one.rules.states, one.rules.values)

  pub lengths_same : tables_long h.rules.arcs.targets h.rules.arcs.costs ≡ tables_long k.rules.arcs.targets k.rules.arcs.costs
  unfolding tables_long
  lengths_same = cc (one.targets_long, one.costs_long)

  pub calls_alike : {A : Type 0} (refuse : ℕ → A) (d e : A) (b c : Bool) (ks ls : List Check) → b ≡ c
      → (h.start < h.rules.arcs.states → ks ≡ ls) → (h.start < h.rules.arcs.states → Passed ks → d ≡ e)
      → decided (rule_checks h b ks) refuse d ≡ decided (rule_checks k c ls) refuse e
  calls_alike refuse d e b c ks ls i f g =
      checks_same refuse d e ks ls _ _ _ _ _ _ sizes_same (cc lengths_same) (tables_alike h.rules k.rules one.rules) (λ x. f (state x)) (λ x. g (state x))
    where
      state : sizes_right h.places h.rules.arcs.states h.rules.arcs.values h.start ≡ true → h.start < h.rules.arcs.states
      state x = (size_of_lem _ _ _ (sizes_of _ _ _ _ x).size).start_state

  -- a filter of its places tells the same
  pub tells_alike : (ps : List Place) → h.start < h.rules.arcs.states → verdict_of h.rules h.start 0 ps ≡ verdict_of k.rules k.start 0 ps
  tells_alike ps s =
      verdict_alike h.rules k.rules one.rules h.start 0 ps s ∙ ap (λ (q : ℕ). verdict_of k.rules q 0 ps) one.start

  -- so goes the prefix report
  full_alike : h.start < h.rules.arcs.states → full_words h ≡ full_words k
  full_alike s = words_alike h.rules k.rules one.rules h.start h.places s ∙ ap₂ (accepted_words k.rules) one.start one.places

  pub report_alike : (w : List ℕ) → report_of h w ≡ report_of k w
  unfolding report_of
  report_alike w = calls_alike _ _ _ _ _ _ _ (cc one.places) (λ s. rw (full_alike s, one.rules.values)) (λ s p. rw (full_alike s))

-- a table and what may follow it
alike_more : (xs ys : List ℕ) → Alike (length xs) (xs ++ ys) xs
alike_more xs ys k h = get_or-append xs ys 0 k h

-- So K1 to K12 are W's in full tables too, whatever follows its own places
module _ (xs ys : List ℕ) where
  abbrev longer : Rules
  longer = rules_of W.arcs.states W.arcs.values (W.arcs.targets ++ xs) (W.arcs.costs ++ ys) W.accepting

  longer_alike : RulesAlike longer W
  unfolding W
  longer_alike = record {
    states = refl;
    values = refl;
    accepting = refl;
    targets = alike_more W.arcs.targets xs;
    costs = alike_more W.arcs.costs ys;
  }

  pub worked_rosters : (ps : List Place) → rosters longer 0 0 ps ≡ rosters W 0 0 ps
  unfolding W
  worked_rosters ps = rosters_alike longer W longer_alike 0 0 ps (omega arith)

  pub worked_verdict : (ps : List Place) → verdict_of longer 0 0 ps ≡ verdict_of W 0 0 ps
  unfolding W
  worked_verdict ps = verdict_alike longer W longer_alike 0 0 ps (omega arith)

  pub worked_reports : (w : List ℕ) → behind w (accepted_words longer 0 (length w)) ≡ behind w (accepted_words W 0 (length w))
  unfolding W
  worked_reports w = rw (words_alike longer W longer_alike 0 (length w) (omega arith))
