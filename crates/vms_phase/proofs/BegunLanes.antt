-- The passes of lanes begin one after another: each is fresh, and what the next one owns is free.
use Rattle.std.proofs.Common.{◌≡◌, ◌≢◌, ℕ, zero, suc, ◌+◌, ◌<◌, ◌≤◌, true, false, List, [], ◌∷◌, ◌++◌, length, Option}
use Rattle.std.proofs.Common.{Some, refl, sym, ap, subst, ◌∙◌, arith, ⊎_elim, append_assoc, length-append}
use Rattle.vms_world.specs.Common.{CpuId, Event, after, own, Machine, IsFree, Role, begun, begun_in, lives, owner}
use Rattle.vms_world.specs.Common.{owner_in, Lane, Cpu, is_among, lane_at, owner_of}
use Rattle.vms_history.specs.Legal.{IsLegal}
use Rattle.vms_history.proofs.Common.{own-mine, owner_is_given, caller_is_given, owner_in-append, prefix_is_legal}
use Rattle.vms_seats.specs.Common.{HasBegun, next_number, Pass}
use Rattle.vms_file_order.specs.Common.{PassSteps, StandOnce, begins_from, opening_of, pass_of}
use Rattle.vms_file_order.proofs.Common.{owner_of-injective, pass_of-lane_at, begun-begins, lives-only, owner-lane}
use Rattle.vms_phase.specs.Common.{HasBegunLanes, IsFresh}

module _ {K : Type 0} {role : K → Role} (passes : PassSteps K role) where
  -- one lane more
  begins-last : (m : ℕ) (lanes : List Lane) (lane : Lane) (g : List (Event K))
      → after 0 (begins_from passes m (lanes ++ lane ∷ [])) g
      ≡ record { caller = 0; step = passes.begin (m + length lanes) (owner_of lane) }
      ∷ after 0 (begins_from passes m lanes) g
  begins-last m [] lane g =
      let at : m + 0 ≡ m = omega arith in
      ap (λ (q : ℕ). record { caller = 0; step = passes.begin q (owner_of lane) } ∷ g) (sym at)
  begins-last m (first ∷ lanes) lane g =
      let at : suc m + length lanes ≡ m + suc (length lanes) = omega arith in
      let e : Event K = record { caller = 0; step = passes.begin m (owner_of first) } in
      begins-last (suc m) lanes lane (e ∷ g)
      ∙ ap (λ (q : ℕ). record { caller = 0; step = passes.begin q (owner_of lane) }
      ∷ after 0 (begins_from passes (suc m) lanes) (e ∷ g)) at

  pub begun-lanes : (lanes : List Lane) (h : List (Event K)) → own h 0 ≡ opening_of passes lanes
      → begun_in role h ≡ length lanes
  begun-lanes lanes h is = ap (begun role) is ∙ begun-begins passes 1 lanes [] ∙ omega arith

  -- who owns what the passes of other lanes don't own
  owns-apart : (lanes : List Lane) (lane : Lane) (h : List (Event K)) → StandOnce lanes → is_among lane lanes ≡ false
      → own h 0 ≡ opening_of passes lanes → (q : ℕ) → 0 < q → q ≤ length lanes → owner_in role h q ≡ owner_of lane → ⊥
  owns-apart lanes lane h once apart main zero some most owns = omega arith
  owns-apart lanes lane h once apart main (suc n) some most owns =
      let place = pass_of-lane_at lanes n once (omega arith) in
      let at : 0 + pass_of lanes (lane_at lanes n) ≡ suc n = omega (arith, place.number) in
      let is : owner_in role h (suc n) ≡ owner_of (lane_at lanes n) =
      ap (λ es. owner role es (suc n)) main
      ∙ subst (λ (q : ℕ). owner role (opening_of passes lanes) q ≡ owner_of (lane_at lanes n)) at
      (owner-lane passes 0 lanes [] (lane_at lanes n) place.among) in
      let same : lane_at lanes n ≡ lane = owner_of-injective (lane_at lanes n) lane (sym is ∙ owns) in
      let both : true ≡ false = sym place.among ∙ ap (λ l. is_among l lanes) same ∙ apart in
      absurd cc

  -- the pass that owns what the last lane owns has the last number
  lane-last : (lanes : List Lane) (lane : Lane) → lane_at (lanes ++ lane ∷ []) (length lanes) ≡ lane
  lane-last [] lane = refl
  lane-last (first ∷ lanes) lane = lane-last lanes lane

  pub number-last : (lanes : List Lane) (lane : Lane) (h : List (Event K)) → StandOnce (lanes ++ lane ∷ [])
      → own h 0 ≡ opening_of passes (lanes ++ lane ∷ []) → (q : ℕ) → 0 < q → q ≤ suc (length lanes)
      → owner_in role h q ≡ owner_of lane → q ≡ suc (length lanes)
  number-last lanes lane h once main zero some most owns = absurd (omega arith)
  number-last lanes lane h once main (suc n) some most owns =
      let all : List Lane = lanes ++ lane ∷ [] in
      let long = length-append lanes (lane ∷ []) in
      let place = pass_of-lane_at all n once (omega (arith, long, most)) in
      let last = pass_of-lane_at all (length lanes) once (omega (arith, long)) in
      let at : 0 + pass_of all (lane_at all n) ≡ suc n = omega (arith, place.number) in
      let is : owner_in role h (suc n) ≡ owner_of (lane_at all n) =
      ap (λ es. owner role es (suc n)) main
      ∙ subst (λ (q : ℕ). owner role (opening_of passes all) q ≡ owner_of (lane_at all n)) at
      (owner-lane passes 0 all [] (lane_at all n) place.among) in
      let same : lane_at all n ≡ lane = owner_of-injective (lane_at all n) lane (sym is ∙ owns) in
      sym place.number ∙ ap (pass_of all) (same ∙ sym (lane-last lanes lane)) ∙ last.number

  pub free-lane : (lanes : List Lane) (lane : Lane) (h : List (Event K)) → StandOnce lanes
      → is_among lane lanes ≡ false → own h 0 ≡ opening_of passes lanes → IsFree role h (owner_of lane)
  free-lane lanes lane h once apart main q lives_there owns =
      ⊎_elim (λ (none : lives role [] q ≡ true). absurd cc)
      (λ (given : (1 ≤ q) × (q < 1 + length lanes)).
      owns-apart lanes lane h once apart main q (omega (arith, given.0)) (omega (arith, given.1)) owns)
      (lives-only passes 1 lanes [] q (sym (ap (λ es. lives role es q) main) ∙ lives_there))

module _ {F K S : Type 0} (machine : Machine F K S) (passes : PassSteps K machine.role) where
  -- the main pass has begun one lane more, whose pass is fresh
  module _ (lanes : List Lane) (lane : Lane) (new old pass : Pass F K) (has : HasBegunLanes machine passes lanes old)
      (begun : HasBegun machine passes.begin new old pass (owner_of lane)) where
    next-is : next_number machine old.seen ≡ 1 + length lanes
    next-is = let count = begun-lanes passes lanes old.seen has.own_events in omega (arith, count)

    pub lanes-begun : HasBegunLanes machine passes (lanes ++ lane ∷ []) new
    lanes-begun =
        let e : ℕ → Event K = λ q. record { caller = 0; step = passes.begin q (owner_of lane) } in
        record {
          legal = subst (λ (facts : F). IsLegal machine facts new.seen) (sym begun.main.facts) begun.made.legal;
          own_events = ap (λ h. own h 0) begun.made.newest
              ∙ own-mine (e (next_number machine old.seen)) begun.made.before 0 refl
              ∙ ap (λ es. e (next_number machine old.seen) ∷ es) (begun.made.own_same ∙ has.own_events)
              ∙ ap (λ (q : ℕ). e q ∷ opening_of passes lanes) next-is
              ∙ sym (begins-last passes 1 lanes lane []);
        }

    pub lane-fresh : IsFresh (suc (length lanes)) pass
    lane-fresh =
        let is : pass.number ≡ suc (length lanes) = begun.number ∙ next-is ∙ omega arith in
        record { is = is; none = subst (λ (q : ℕ). own pass.seen q ≡ []) is begun.no_steps }

  -- no event was made for a CPU whose lane has no pass yet
  module _ (facts : F) (lanes : List Lane) (c : CpuId) (all : List (Event K)) (legal : IsLegal machine facts all)
      (once : StandOnce lanes) (apart : is_among (Cpu c) lanes ≡ false)
      (main : own all 0 ≡ opening_of passes lanes) where
    not-owned : (m : List (Event K)) (e : Event K) (h : List (Event K)) → m ++ (e ∷ h) ≡ all
        → owner_in machine.role h e.caller ≡ Some c → ⊥
    not-owned m e h parts owns =
        let whole : (m ++ e ∷ []) ++ h ≡ all = append_assoc m (e ∷ []) h ∙ parts in
        let legal_there = subst (IsLegal machine facts) (sym parts) legal in
        let here = prefix_is_legal machine facts m (e ∷ h) legal_there in
        let given = caller_is_given machine facts h e.caller (machine.role e.step) here.0 here.1 in
        let same : owner_in machine.role all e.caller ≡ Some c =
        ap (λ g. owner_in machine.role g e.caller) (sym whole)
        ∙ owner_in-append machine facts (m ++ e ∷ []) h e.caller
        (subst (IsLegal machine facts) (sym whole) legal) given ∙ owns in
        let number = owner_is_given machine facts all e.caller c legal same in
        let count = begun-lanes passes lanes all main in
        owns-apart passes lanes (Cpu c) all once apart main e.caller number.0 (omega (arith, number.1, count)) same

    -- so nothing was spent of its volumes
    pub spent-nothing : (spent : List (Event K) → ℕ) (by : Option CpuId → Event K → List (Event K) → ℕ)
        → spent [] ≡ 0
        → ((e : Event K) (h : List (Event K)) → spent (e ∷ h) ≡ by (owner_in machine.role h e.caller) e h + spent h)
        → ((who : Option CpuId) (e : Event K) (h : List (Event K)) → who ≢ Some c → by who e h ≡ 0)
        → spent all ≡ 0
    spent-nothing spent by none grows others = from [] all refl
      where
        from : (m h : List (Event K)) → m ++ h ≡ all → spent h ≡ 0
        from m [] parts = none
        from m (e ∷ h) parts =
            let whole : (m ++ e ∷ []) ++ h ≡ all = append_assoc m (e ∷ []) h ∙ parts in
            let nothing = others (owner_in machine.role h e.caller) e h (not-owned m e h parts) in
            omega (arith, grows e h, nothing, from (m ++ e ∷ []) h whole)
