-- How the plan of a call that gives thresholds is the same at two positions.
use Rattle.std.proofs.Common.{◌≡◌, ℕ, suc, zero, ◌+◌, ◌-◌, ◌<◌, ◌≤◌, Bool, true, false, List, [], ◌∷◌, ◌++◌, length}
use Rattle.std.proofs.Common.{take, drop, refl, sym, ap, ◌∙◌, append_assoc, append-nil, add-one, arith, drop-cons}
use Rattle.std.proofs.Common.{⊎_elim}
use Rattle.std.proofs.Math.ListN.{set}
use Rattle.std.proofs.Math.Path.{fun_ext}
use Rattle.std.proofs.lemmas.Bool.{cases_lt}
use Rattle.std.proofs.lemmas.List.{drop_all}
use Rattle.std.specs.Prelude.{slice_index_or}
use Rattle.vms_calls.specs.Common.{CpuId, CpuState, Facts, History, MarkRead, SetT, Shape, Step, ZoneSize, after}
use Rattle.vms_calls.specs.Common.{in_turn, largest_on, online_from, threshold_steps}
use Rattle.vms_plans.specs.declared.due_steps.DueStep.TheVariants.{LoadsState}
use Rattle.vms_plans.specs.Common.{Plan, and_then, ends, makes_all, mark_plan, recorded, state_told, states_plan}
use Rattle.vms_plans.specs.Common.{visit_plan, visits_plan, waits}
use Rattle.vms_cursors.specs.OnlineCpus.{flagged, is_flagged}
use Rattle.vms_cursors.specs.RatingCalls.{after_zones, visited_from, visits}
use Rattle.vms_cursors.specs.Ratings.{IsOfNode, nodes_left, numbers_from, online_in, online_plan, rated_plan, rating_at}
use Rattle.vms_cursors.specs.Ratings.{states_from, thresholds_left, zone_end, zones_from, zones_plan}
use Rattle.vms_cursors.specs.declared.rated.Rated.{Rated}
use Rattle.vms_cursors.specs.declared.rating_calls.RatingCall.{RatingCall}
use Rattle.vms_cursors.specs.declared.rating_calls.RatingCall.TheVariants.{Pressure, Normal, Refresh}
use Rattle.vms_cursors.specs.declared.rating_positions.RatingPosition.TheVariants.{Nodes, Zones}
use Rattle.vms_cursors.proofs.FlaggedCpus.{all_left, flagged-some, none_left}
use Rattle.vms_cursors.proofs.KeptNumbers.{kept-none, kept-some}
use Rattle.vms_cursors.proofs.PlanEquations.{and_then-assoc}

-- states that were loaded before
module _ {B : Type 0} (p : ℕ) where
  abbrev pub AreSame : {X : Type 0} → (ws vs : List X) → (f g : List X × History → Plan B) → Type 1
  AreSame ws vs f g = (x : List _) (k : History) → f (ws ++ x, k) ≡ g (vs ++ x, k)

  pub states-same : (c n : ℕ) (ws vs : List CpuState) (h : History) (f g : List CpuState × History → Plan B)
      → AreSame ws vs f g
      → and_then (recorded p h (states_plan c n ws)) f ≡ and_then (recorded p h (states_plan c n vs)) g
  states-same c zero ws vs h f g same =
      ap (λ x. f (x, h)) (sym (append-nil ws)) ∙ same [] h ∙ ap (λ x. g (x, h)) (append-nil vs)
  states-same c (suc n) ws vs h f g same = ap (waits (LoadsState (record { number = c }))) (fun_ext (λ load.
      let x : List CpuState = state_told load ∷ [] in
      states-same (suc c) n (ws ++ x) (vs ++ x) (after p (load ∷ []) h) f g
      (λ y k. ap (λ z. f (z, k)) (append_assoc ws x y) ∙ same (x ++ y) k
      ∙ sym (ap (λ z. g (z, k)) (append_assoc vs x y)))))

  -- thresholds of the zones before
  pub visits-same : (online : List CpuId) (rated : ℕ → ℕ → History → Plan ℕ) (gs ts vs : List ℕ) (h : History)
      (f g : List ℕ → Plan B) → ((x : List ℕ) → f (ts ++ x) ≡ g (vs ++ x))
      → and_then (visits_plan p online rated gs ts h) f ≡ and_then (visits_plan p online rated gs vs h) g
  visits-same online rated [] ts vs h f g same =
      ap f (sym (append-nil ts)) ∙ same [] ∙ ap g (append-nil vs)
  visits-same online rated (z ∷ gs) ts vs h f g same =
      let visit = visit_plan p online rated z h in
      let rest = λ (before : List ℕ) (visited : ℕ × History).
      visits_plan p online rated gs (before ++ (visited.0 ∷ [])) visited.1 in
      and_then-assoc visit (rest ts) f
      ∙ ap (and_then visit) (fun_ext (λ visited.
      let x : List ℕ = visited.0 ∷ [] in
      visits-same online rated gs (ts ++ x) (vs ++ x) visited.1 f g
      (λ y. ap f (append_assoc ts x y) ∙ same (x ++ y) ∙ sym (ap g (append_assoc vs x y)))))
      ∙ sym (and_then-assoc visit (rest vs) g)

pub take-set : (xs : List ℕ) (g t : ℕ) → g < length xs → take (g + 1) (set xs g t) ≡ take g xs ++ (t ∷ [])
take-set [] g t less = absurd (omega (arith, less))
take-set (x ∷ xs) zero t less = refl
take-set (x ∷ xs) (suc g) t less =
    let one : suc g + 1 ≡ suc (g + 1) = omega arith in
    ap (λ n. take n (x ∷ set xs g t)) one ∙ ap (λ ys. x ∷ ys) (take-set xs g t (omega (arith, less)))

-- the zones that are left
module _ (shape : Shape) (call : RatingCall) where
  abbrev pub left_of : ℕ → List ℕ
  left_of g = visited_from shape call g (length shape.zones - g)

module _ (facts : Facts) (p : ℕ) (pressure normal : ZoneSize → ℕ → ℕ → Type 0) (call : RatingCall) where
  abbrev count : ℕ
  count = length facts.layout.zones

  abbrev left : ℕ → List ℕ
  left g = left_of facts.layout call g

  -- all states are loaded
  pub states-ended : (online : List CpuId) (c : ℕ) (h : History) → facts.layout.cpus ≤ c
      → states_from facts p pressure normal call online c h ≡ online_plan facts p pressure normal call online h
  states-ended online c h most =
      ap (λ n. and_then (recorded p h (states_plan c n []))
      (λ (found : List CpuState × History). online_plan facts p pressure normal call
      (online ++ online_from c found.0) found.1))
      (none_left facts.layout.cpus c most)
      ∙ ap (λ cs. online_plan facts p pressure normal call cs h) (append-nil online)

  module _ (h : History) where
    pub states-are_zones : (flags : List Bool) (c : ℕ) (seen : Rated) → c ≤ facts.layout.cpus
        → facts.layout.cpus ≤ c → seen.online.flags ≡ flags
        → states_from facts p pressure normal call (flagged flags 0 c) c h
        ≡ rating_at facts p pressure normal call h (Zones seen 0)
    states-are_zones flags c seen most least same =
        let all : c ≡ facts.layout.cpus = omega (arith, most, least) in
        states-ended (flagged flags 0 c) c h least
        ∙ ap (λ n. online_plan facts p pressure normal call (flagged flags 0 n) h) all
        ∙ ap (λ fs. online_plan facts p pressure normal call (flagged fs 0 facts.layout.cpus) h) (sym same)
        ∙ ap (λ n. zones_plan facts p pressure normal call (online_in facts p pressure normal call seen) []
        (visited_from facts.layout call 0 n) [] h) (sym (all_left count))

    module _ (seen : Rated) where
      abbrev online : List CpuId
      online = online_in facts p pressure normal call seen

      abbrev end : List ℕ → List ℕ → Plan (Unit {0})
      end before all = after_zones facts p call online (before ++ all)

      -- zones that are not visited
      skipped : (c : RatingCall) (g k : ℕ) (all : List ℕ)
          → ((z : ℕ) → g ≤ z → z < k → visits facts.layout c z ≡ false) → g ≤ k
          → after_zones facts p c online (take g seen.thresholds ++ all)
          ≡ after_zones facts p c online (take k seen.thresholds ++ all)
      skipped (Pressure n) g k all none least = refl
      skipped (Normal n) g k all none least = refl
      skipped Refresh g k all none least =
          let same : g ≡ k = ⊎_elim (λ (less : g < k). absurd (true-false (none g (omega arith) less)))
          (λ (most : k ≤ g). omega (arith, least, most)) (cases_lt g k) in
          ap (λ n. after_zones facts p Refresh online (take n seen.thresholds ++ all)) same
        where
          true-false : true ≡ false → ⊥
          true-false is = cc

      pub zones-skipped : (g k : ℕ) → ((z : ℕ) → g ≤ z → z < k → visits facts.layout call z ≡ false) → g ≤ k
          → left g ≡ left k → zones_from facts p pressure normal call seen g h
          ≡ zones_from facts p pressure normal call seen k h
      zones-skipped g k none least same =
          ap (λ gs. zones_plan facts p pressure normal call online (take g seen.thresholds) gs [] h) same
          ∙ ap (and_then (visits_plan p online (rated_plan facts p pressure normal call online) (left k) [] h))
          (fun_ext (λ all. skipped call g k all none least))

      -- the next zone is visited
      pub zones-are_numbers : (g : ℕ) → g < count → visits facts.layout call g ≡ true
          → zones_from facts p pressure normal call seen g h ≡ numbers_from facts p pressure normal call seen g 0 h
      zones-are_numbers g less is =
          let rated = rated_plan facts p pressure normal call online in
          let before = take g seen.thresholds in
          let loads = recorded p h (mark_plan g online) in
          let gets = λ (found : MarkRead × History). recorded p found.1 (rated g found.0.mark found.1) in
          let goes_on = λ (visited : ℕ × History).
          visits_plan p online rated (left (g + 1)) (visited.0 ∷ []) visited.1 in
          ap (λ gs. zones_plan facts p pressure normal call online before gs [] h)
          (kept-some (visits facts.layout call) (length facts.layout.zones) g less is)
          ∙ and_then-assoc (visit_plan p online rated g h) goes_on (end before)
          ∙ and_then-assoc loads gets (zone_end facts p pressure normal call seen g)
          ∙ ap (λ n. and_then (recorded p h (mark_plan g (flagged seen.online.flags 0 n)))
          (λ (found : MarkRead × History). and_then (gets found) (zone_end facts p pressure normal call seen g)))
          (sym (all_left facts.layout.cpus))

      -- a zone that got a threshold is visited
      pub zone_end-is : (later : Rated) (g t : ℕ) → g < length seen.thresholds → later.online ≡ seen.online
          → later.thresholds ≡ set seen.thresholds g t
          → zone_end facts p pressure normal call seen g (t, h)
          ≡ rating_at facts p pressure normal call h (Zones later (g + 1))
      zone_end-is later g t within same_online sets =
          let rated = rated_plan facts p pressure normal call online in
          let before : take (g + 1) later.thresholds ≡ take g seen.thresholds ++ (t ∷ []) =
          ap (take (g + 1)) sets ∙ take-set seen.thresholds g t within in
          visits-same p online rated (left (g + 1)) (t ∷ []) [] h (end (take g seen.thresholds))
          (end (take (g + 1) later.thresholds))
          (λ x. ap (after_zones facts p call online) (sym (append_assoc (take g seen.thresholds) (t ∷ []) x)
          ∙ ap (λ ts. ts ++ x) (sym before)))
          ∙ ap (λ o. zones_plan facts p pressure normal call (flagged o.flags 0 facts.layout.cpus)
          (take (g + 1) later.thresholds) (left (g + 1)) [] h) (sym same_online)

      -- after all zones
      abbrev all_thresholds : List ℕ
      all_thresholds = take count seen.thresholds

      abbrev for_node : ℕ → ℕ → List Step
      for_node i node = threshold_steps (count + i) (largest_on facts.layout all_thresholds node) online

      nodes-begin : (nodes : List ℕ) → in_turn for_node 0 nodes
          ≡ nodes_left facts p pressure normal call seen 0 0 nodes
      nodes-begin [] = refl
      nodes-begin (node ∷ nodes) = ap (λ n. threshold_steps (count + 0)
          (largest_on facts.layout all_thresholds node) (flagged seen.online.flags 0 n) ++ in_turn for_node 1 nodes)
          (sym (all_left facts.layout.cpus))

      pub nodes-cpu : (k c d : ℕ) (ns : List ℕ) → flagged seen.online.flags c (facts.layout.cpus - c)
          ≡ flagged seen.online.flags d (facts.layout.cpus - d)
          → nodes_left facts p pressure normal call seen k c ns ≡ nodes_left facts p pressure normal call seen k d ns
      nodes-cpu k c d [] same = refl
      nodes-cpu k c d (n ∷ ns) same = ap (λ cs. threshold_steps (count + k)
          (largest_on facts.layout all_thresholds n) cs ++ in_turn for_node (suc k) ns) same

      -- the thresholds of the nodes
      module _ (i : ℕ) where
        abbrev nodes : List ℕ
        nodes = facts.layout.nodes

        abbrev node : ℕ
        node = slice_index_or nodes i 0

        abbrev node_left : ℕ → List Step
        node_left c = thresholds_left facts p pressure normal call seen (count + i)
            (largest_on facts.layout all_thresholds node) c

        abbrev at_node : ℕ → ℕ → List Step
        at_node k c = nodes_left facts p pressure normal call seen k c (drop k nodes)

        at_node-is : (c : ℕ) → i < length nodes
            → at_node i c ≡ node_left c ++ in_turn for_node (suc i) (drop (suc i) nodes)
        at_node-is c less = ap (nodes_left facts p pressure normal call seen i c) (drop-cons nodes i 0 less)

        rest-is : (ns : List ℕ) → in_turn for_node (suc i) ns
            ≡ nodes_left facts p pressure normal call seen (suc i) 0 ns
        rest-is [] = refl
        rest-is (n ∷ ns) = ap (λ m. threshold_steps (count + suc i)
            (largest_on facts.layout all_thresholds n) (flagged seen.online.flags 0 m) ++ in_turn for_node
            (suc (suc i)) ns)
            (sym (all_left facts.layout.cpus))

        -- one more CPU
        pub node-some : (c : ℕ) → i < length nodes → c < facts.layout.cpus
            → is_flagged seen.online.flags c ≡ true
            → at_node i c ≡ SetT (record { number = c }) (record { number = count + i })
            (largest_on facts.layout all_thresholds node) ∷ at_node i (c + 1)
        node-some c less few is =
            at_node-is c less
            ∙ ap (λ cs. threshold_steps (count + i) (largest_on facts.layout all_thresholds node) cs
            ++ in_turn for_node (suc i) (drop (suc i) nodes))
            (flagged-some seen.online.flags facts.layout.cpus c few is)
            ∙ ap (λ ks. SetT (record { number = c }) (record { number = count + i })
            (largest_on facts.layout all_thresholds node) ∷ ks) (sym (at_node-is (c + 1) less))

        -- no CPU more
        pub node-next : (c first : ℕ) → i < length nodes → flagged seen.online.flags c (facts.layout.cpus - c) ≡ []
            → flagged seen.online.flags 0 (facts.layout.cpus - 0)
            ≡ flagged seen.online.flags first (facts.layout.cpus - first)
            → at_node i c ≡ at_node (i + 1) first
        node-next c first less none same =
            at_node-is c less
            ∙ ap (λ cs. threshold_steps (count + i) (largest_on facts.layout all_thresholds node) cs
            ++ in_turn for_node (suc i) (drop (suc i) nodes)) none
            ∙ rest-is (drop (suc i) nodes)
            ∙ ap (λ k. at_node k 0) (sym (add-one i))
            ∙ nodes-cpu (i + 1) 0 first (drop (i + 1) nodes) same

        -- nobody is online
        pub nodes-nobody : (c : ℕ) → i < length nodes → flagged seen.online.flags c (facts.layout.cpus - c) ≡ []
            → flagged seen.online.flags 0 (facts.layout.cpus - 0) ≡ []
            → at_node i c ≡ at_node (length nodes) 0
        nodes-nobody c less none nobody =
            at_node-is c less
            ∙ ap (λ cs. threshold_steps (count + i) (largest_on facts.layout all_thresholds node) cs
            ++ in_turn for_node (suc i) (drop (suc i) nodes)) none
            ∙ empty (suc i) (drop (suc i) nodes)
            ∙ sym (ap (nodes_left facts p pressure normal call seen (length nodes) 0)
            (drop_all (length nodes) nodes (omega arith)))
          where
            empty : (k : ℕ) (ns : List ℕ) → in_turn for_node k ns ≡ []
            empty k [] = refl
            empty k (n ∷ ns) =
                ap (λ m. threshold_steps (count + k) (largest_on facts.layout all_thresholds n)
                (flagged seen.online.flags 0 m) ++ in_turn for_node (suc k) ns) (sym (all_left facts.layout.cpus))
                ∙ ap (λ cs. threshold_steps (count + k) (largest_on facts.layout all_thresholds n) cs
                ++ in_turn for_node (suc k) ns) nobody
                ∙ empty (suc k) ns

      pub nodes-ended : (i c : ℕ) → length facts.layout.nodes ≤ i
          → rating_at facts p pressure normal call h (Nodes seen i c) ≡ ends (tt {0})
      nodes-ended i c most = ap (λ ns. makes_all (nodes_left facts p pressure normal call seen i c ns) (ends (tt {0})))
          (drop_all i facts.layout.nodes most)

  -- after all zones
  zones-over : (h : History) (seen : Rated) (g : ℕ) → g ≤ count → count ≤ g
      → zones_from facts p pressure normal call seen g h
      ≡ after_zones facts p call (online_in facts p pressure normal call seen) (take count seen.thresholds)
  zones-over h seen g most least =
      let all : g ≡ count = omega (arith, most, least) in
      let online : List CpuId = online_in facts p pressure normal call seen in
      ap (λ gs. zones_plan facts p pressure normal call online (take g seen.thresholds) gs [] h)
      (kept-none (visits facts.layout call) (length facts.layout.zones) g least)
      ∙ ap (after_zones facts p call online) (append-nil (take g seen.thresholds))
      ∙ ap (λ n. after_zones facts p call online (take n seen.thresholds)) all

module _ (facts : Facts) (p : ℕ) (pressure normal : ZoneSize → ℕ → ℕ → Type 0) (h : History) (seen : Rated) (g : ℕ)
    (most : g ≤ length facts.layout.zones) (least : length facts.layout.zones ≤ g) where
  pub zones-are_nodes : rating_at facts p pressure normal Refresh h (Zones seen g)
      ≡ rating_at facts p pressure normal Refresh h (Nodes seen 0 0)
  zones-are_nodes = zones-over facts p pressure normal Refresh h seen g most least
      ∙ ap (λ ks. makes_all ks (ends (tt {0})))
      (nodes-begin facts p pressure normal Refresh h seen facts.layout.nodes)

  pub zones-ended : (call : RatingCall) → IsOfNode call
      → rating_at facts p pressure normal call h (Zones seen g) ≡ ends (tt {0})
  zones-ended (Pressure n) is = zones-over facts p pressure normal (Pressure n) h seen g most least
  zones-ended (Normal n) is = zones-over facts p pressure normal (Normal n) h seen g most least
  zones-ended Refresh is = absurd is
