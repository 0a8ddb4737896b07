-- For other crates too: how a call that gives thresholds goes on from each position.
use Rattle.std.proofs.Common.{◌≡◌, ℕ, suc, ◌+◌, ◌-◌, ◌<◌, ◌≤◌, nat_eq, Bool, true, false, List, [], ◌∷◌, ◌++◌, length}
use Rattle.std.proofs.Common.{if◌then◌else◌, refl, sym, ap, subst, ◌∙◌, append_assoc, add-one}
use Rattle.std.proofs.Math.ListN.{set}
use Rattle.std.specs.Prelude.{Option, None, Some, slice_index_or, take}
use Rattle.vms_calls.specs.Common.{CpuId, CpuState, Facts, History, LoadA, LoadM, LoadO, MarkRead, PlaceId, SetM, SetT}
use Rattle.vms_calls.specs.Common.{Step, ZoneSize, after, is_online, largest_on, mark_for, online_from, rating_steps}
use Rattle.vms_calls.specs.Common.{size_at, threshold_steps}
use Rattle.vms_calls.specs.LookReadings.{mark_told}
use Rattle.vms_plans.specs.declared.due_steps.DueStep.TheVariants.{LoadsAcknowledged, LoadsMark, LoadsState, Makes}
use Rattle.vms_plans.specs.Common.{Plan, Runs, and_then, either, ends, makes_all, mark_plan, rates_plan, recorded}
use Rattle.vms_plans.specs.Common.{state_told, states_plan, waits}
use Rattle.vms_cursors.specs.Cursors.{GoesOn, IsDue, IsSame, Stops}
use Rattle.vms_cursors.specs.OnlineCpus.{flagged, is_flagged}
use Rattle.vms_cursors.specs.RatingCalls.{choice_in, spares}
use Rattle.vms_cursors.specs.Ratings.{online_in, online_plan, rated_plan, rating_at, sets_plan, states_from}
use Rattle.vms_cursors.specs.Ratings.{thresholds_left, zone_end}
use Rattle.vms_cursors.specs.StepReadings.{mark_in, number_told_in, state_in}
use Rattle.vms_cursors.specs.declared.online_cpus.OnlineCpus.{OnlineCpus}
use Rattle.vms_cursors.specs.declared.rated.Rated.{Rated}
use Rattle.vms_cursors.specs.declared.rating_calls.RatingCall.{RatingCall}
use Rattle.vms_cursors.specs.declared.rating_positions.RatingPosition.TheVariants.{Asks, Mark, Nodes, Numbers, States}
use Rattle.vms_cursors.specs.declared.rating_positions.RatingPosition.TheVariants.{Thresholds, Zones}
use Rattle.vms_cursors.proofs.FlaggedCpus.{all_left, flagged-none, flagged-some, flagged-with, more_left, one}
use Rattle.vms_cursors.proofs.Goes.{waits-due, waits-goes_to, waits-stops}
use Rattle.vms_cursors.proofs.PlanEquations.{due-along, goes-along, stops-along}
use Rattle.vms_cursors.proofs.RatingPlans.{node-some, states-same, zone_end-is}
use Rattle.vms_cursors.proofs.StepReadings.{mark-other, mark-read, number_told-other, number_told-read, state-other}
use Rattle.vms_cursors.proofs.StepReadings.{state-read}

-- a step that is known comes next, and what follows may depend on the history with it
module _ {A : Type 0} (plan : Plan A) (k : Step) (later : Step → Plan A) (is : plan ≡ waits (Makes k) later) where
  pub known-due : IsDue plan (Makes k)
  known-due = due-along (waits (Makes k) later) plan (Makes k) is (waits-due (Makes k) later)

  pub known-goes : (step : Step) → k ≡ step → GoesOn plan step (later step)
  known-goes step same = goes-along (waits (Makes k) later) plan step (later step) (later step) is refl
      (waits-goes_to (Makes k) later k step later refl same refl)

  pub known-stops : (step : Step) → (k ≡ step → ⊥) → Stops plan step
  known-stops step other = stops-along (waits (Makes k) later) plan step is (waits-stops (Makes k) later step other)

first-of : (flags : List Bool) (c : ℕ) (b : Bool) (rest : List CpuId)
    → (if b then record { number = c } ∷ rest else rest) ≡ one flags c b ++ rest
first-of flags c true rest = refl
first-of flags c false rest = refl

module _ (facts : Facts) (p : ℕ) (pressure normal : ZoneSize → ℕ → ℕ → Type 0) (call : RatingCall) (h : History) where
  -- the states of CPUs
  module _ (online : OnlineCpus) (c : ℕ) (less : c < facts.layout.cpus) where
    abbrev cpu : CpuId
    cpu = record { number = c }

    abbrev known : List CpuId
    known = flagged online.flags 0 c

    abbrev after_state : Step → Plan (Unit {0})
    after_state load = and_then (recorded p (after p (load ∷ []) h)
        (states_plan (suc c) (facts.layout.cpus - suc c) (state_told load ∷ [])))
        (λ (found : List CpuState × History).
        online_plan facts p pressure normal call (known ++ online_from c found.0) found.1)

    abbrev here : Plan (Unit {0})
    here = rating_at facts p pressure normal call h (States online c)

    state-is : here ≡ waits (LoadsState cpu) after_state
    state-is = ap (λ n. and_then (recorded p h (states_plan c n [])) (λ (found : List CpuState × History).
        online_plan facts p pressure normal call (known ++ online_from c found.0) found.1))
        (more_left facts.layout.cpus c less)

    pub states-due : IsDue here (LoadsState cpu)
    states-due = due-along (waits (LoadsState cpu) after_state) here (LoadsState cpu) state-is
        (waits-due (LoadsState cpu) after_state)

    module _ (step : Step) where
      pub states-stops : state_in c step ≡ None → Stops here step
      states-stops none = stops-along (waits (LoadsState cpu) after_state) here step state-is
          (waits-stops (LoadsState cpu) after_state step (state-other cpu step none))

      module _ (later : OnlineCpus) (x : CpuState) (flags : later.flags ≡ set online.flags c (is_online x))
          (within : c < length online.flags) where
        abbrev loaded : Step → Plan (Unit {0})
        loaded load = rating_at facts p pressure normal call (after p (load ∷ []) h) (States later (c + 1))

        abbrev now_known : List CpuId
        now_known = flagged later.flags 0 (c + 1)

        known-next : now_known ≡ known ++ one online.flags c (is_online x)
        known-next = ap (λ fs. flagged fs 0 (c + 1)) flags ∙ flagged-with online.flags c (is_online x) within

        list-same : (ys : List CpuState) → known ++ online_from c (x ∷ ys) ≡ now_known ++ online_from (suc c) ys
        list-same ys =
            ap (λ cs. known ++ cs) (first-of online.flags c (is_online x) (online_from (suc c) ys))
            ∙ sym (append_assoc known (one online.flags c (is_online x)) (online_from (suc c) ys))
            ∙ ap (λ cs. cs ++ online_from (suc c) ys) (sym known-next)

        loaded-is : after_state (LoadO cpu x) ≡ loaded (LoadO cpu x)
        loaded-is =
            states-same p (suc c) (facts.layout.cpus - suc c) (x ∷ []) [] (after p (LoadO cpu x ∷ []) h)
            (λ (found : List CpuState × History).
            online_plan facts p pressure normal call (known ++ online_from c found.0) found.1)
            (λ (found : List CpuState × History).
            online_plan facts p pressure normal call (now_known ++ online_from (suc c) found.0) found.1)
            (λ ys k. ap (λ cs. online_plan facts p pressure normal call cs k) (list-same ys))
            ∙ ap (λ d. states_from facts p pressure normal call now_known d (after p (LoadO cpu x ∷ []) h))
            (sym (add-one c))

        pub states-goes : state_in c step ≡ Some x → GoesOn here step (loaded step)
        states-goes told = goes-along (waits (LoadsState cpu) after_state) here step (loaded step) (loaded step)
            state-is refl
            (waits-goes_to (LoadsState cpu) after_state (LoadO cpu x) step loaded refl
            (state-read cpu step x told) loaded-is)

  module _ (seen : Rated) where
    abbrev online : List CpuId
    online = online_in facts p pressure normal call seen

    module _ (g c : ℕ) where
      abbrev zone : PlaceId
      zone = record { number = g }

      abbrev of : CpuId
      of = record { number = c }

      abbrev rates : MarkRead × History → Plan (Unit {0})
      rates found = and_then
          (recorded p found.1 (rated_plan facts p pressure normal call online g found.0.mark found.1))
          (zone_end facts p pressure normal call seen g)

      abbrev at : Plan (Unit {0})
      at = rating_at facts p pressure normal call h (Numbers seen g c)

      -- what a CPU acknowledged
      module _ (less : c < facts.layout.cpus) (on : is_flagged seen.online.flags c ≡ true) where
        abbrev after_number : Step → Plan (Unit {0})
        after_number load = rating_at facts p pressure normal call (after p (load ∷ []) h) (Numbers seen g (c + 1))

        number-is : at ≡ waits (LoadsAcknowledged of zone) after_number
        number-is = ap (λ cs. and_then (recorded p h (mark_plan g cs)) rates)
            (flagged-some seen.online.flags facts.layout.cpus c less on)

        pub numbers-due : IsDue at (LoadsAcknowledged of zone)
        numbers-due = due-along (waits (LoadsAcknowledged of zone) after_number) at (LoadsAcknowledged of zone)
            number-is (waits-due (LoadsAcknowledged of zone) after_number)

        module _ (step : Step) where
          pub numbers-stops : number_told_in c g step ≡ None → Stops at step
          numbers-stops none = stops-along (waits (LoadsAcknowledged of zone) after_number) at step number-is
              (waits-stops (LoadsAcknowledged of zone) after_number step (number_told-other of zone step none))

          pub numbers-goes : (x : Option ℕ) → number_told_in c g step ≡ Some x → GoesOn at step (after_number step)
          numbers-goes x told = goes-along (waits (LoadsAcknowledged of zone) after_number) at step
              (after_number step) (after_number step) number-is refl
              (waits-goes_to (LoadsAcknowledged of zone) after_number (LoadA of zone x) step after_number (refl, refl)
              (number_told-read of zone step x told) refl)

      -- the mark
      module _ (most : facts.layout.cpus ≤ c) where
        abbrev after_mark : Step → Plan (Unit {0})
        after_mark load = and_then (recorded p (after p (load ∷ []) h) (ends (mark_told load))) rates

        mark-is : at ≡ waits (LoadsMark zone) after_mark
        mark-is = ap (λ cs. and_then (recorded p h (mark_plan g cs)) rates)
            (flagged-none seen.online.flags facts.layout.cpus c most)

        pub marks-due : IsDue at (LoadsMark zone)
        marks-due = due-along (waits (LoadsMark zone) after_mark) at (LoadsMark zone) mark-is
            (waits-due (LoadsMark zone) after_mark)

        module _ (step : Step) where
          pub marks-stop : mark_in g step ≡ None → Stops at step
          marks-stop none = stops-along (waits (LoadsMark zone) after_mark) at step mark-is
              (waits-stops (LoadsMark zone) after_mark step (mark-other zone step none))

          module _ (read : MarkRead) (told : mark_in g step ≡ Some read) where
            abbrev load : Step
            load = LoadM zone read.mark read.number

            by : (later : Step → Plan (Unit {0})) → after_mark load ≡ later load → GoesOn at step (later step)
            by later same = goes-along (waits (LoadsMark zone) after_mark) at step (later step)
                (later step) mark-is refl
                (waits-goes_to (LoadsMark zone) after_mark load step later refl (mark-read zone step read told) same)

            chosen : (b : Bool) → spares call read.mark ≡ b → after_mark load
                ≡ and_then (recorded p (after p (load ∷ []) h) (either b (ends 0)
                (rates_plan facts p online (choice_in call pressure normal) g read.mark (after p (load ∷ []) h))))
                (zone_end facts p pressure normal call seen g)
            chosen b is = ap (λ x. and_then (recorded p (after p (load ∷ []) h) (either x (ends 0)
                (rates_plan facts p online (choice_in call pressure normal) g read.mark (after p (load ∷ []) h))))
                (zone_end facts p pressure normal call seen g)) is

            pub marks-ask : spares call read.mark ≡ false → GoesOn at step
                (rating_at facts p pressure normal call (after p (step ∷ []) h) (Asks seen g read.mark))
            marks-ask is = by (λ s. rating_at facts p pressure normal call (after p (s ∷ []) h) (Asks seen g read.mark))
                (chosen false is)

            pub marks-spare : spares call read.mark ≡ true → (later : Rated) → g < length seen.thresholds
                → later.online ≡ seen.online → later.thresholds ≡ set seen.thresholds g 0
                → GoesOn at step (rating_at facts p pressure normal call (after p (step ∷ []) h) (Zones later (g + 1)))
            marks-spare is later within same_online sets =
                by (λ s. rating_at facts p pressure normal call (after p (s ∷ []) h) (Zones later (g + 1)))
                (chosen true is ∙ zone_end-is facts p pressure normal call (after p (load ∷ []) h) seen later g 0 within
                same_online sets)

      -- thresholds
      module _ (t : ℕ) where
        abbrev sets : Plan (Unit {0})
        sets = rating_at facts p pressure normal call h (Thresholds seen g t c)

        abbrev after_set : Step → Plan (Unit {0})
        after_set s = rating_at facts p pressure normal call (after p (s ∷ []) h) (Thresholds seen g t (c + 1))

        pub threshold-is : c < facts.layout.cpus → is_flagged seen.online.flags c ≡ true
            → sets ≡ waits (Makes (SetT of zone t)) after_set
        threshold-is less on = ap (λ cs. sets_plan facts p pressure normal call seen g t (threshold_steps g t cs) h)
            (flagged-some seen.online.flags facts.layout.cpus c less on)

        pub thresholds-same : (d : ℕ) → flagged seen.online.flags c (facts.layout.cpus - c)
            ≡ flagged seen.online.flags d (facts.layout.cpus - d)
            → sets ≡ rating_at facts p pressure normal call h (Thresholds seen g t d)
        thresholds-same d same =
            ap (λ cs. sets_plan facts p pressure normal call seen g t (threshold_steps g t cs) h) same

        pub thresholds-over : (later : Rated) (d : ℕ) → facts.layout.cpus ≤ d
            → flagged seen.online.flags c (facts.layout.cpus - c)
            ≡ flagged seen.online.flags d (facts.layout.cpus - d)
            → g < length seen.thresholds → later.online ≡ seen.online → later.thresholds ≡ set seen.thresholds g t
            → sets ≡ rating_at facts p pressure normal call h (Zones later (g + 1))
        thresholds-over later d most same within same_online is =
            ap (λ cs. sets_plan facts p pressure normal call seen g t (threshold_steps g t cs) h)
            (same ∙ flagged-none seen.online.flags facts.layout.cpus d most)
            ∙ zone_end-is facts p pressure normal call h seen later g t within same_online is

      pub numbers-same : (d : ℕ) → flagged seen.online.flags c (facts.layout.cpus - c)
          ≡ flagged seen.online.flags d (facts.layout.cpus - d)
          → at ≡ rating_at facts p pressure normal call h (Numbers seen g d)
      numbers-same d same = ap (λ cs. and_then (recorded p h (mark_plan g cs)) rates) same

    -- nodes
    module _ (i c : ℕ) (within : i < length facts.layout.nodes) (less : c < facts.layout.cpus)
        (on : is_flagged seen.online.flags c ≡ true) where
      abbrev t : ℕ
      t = largest_on facts.layout (take (length facts.layout.zones) seen.thresholds)
          (slice_index_or facts.layout.nodes i 0)

      abbrev place : PlaceId
      place = record { number = length facts.layout.zones + i }

      abbrev after_node : Step → Plan (Unit {0})
      after_node s = rating_at facts p pressure normal call (after p (s ∷ []) h) (Nodes seen i (c + 1))

      pub node-is : rating_at facts p pressure normal call h (Nodes seen i c)
          ≡ waits (Makes (SetT (record { number = c }) place t)) after_node
      node-is = ap (λ ks. makes_all ks (ends (tt {0})))
          (node-some facts p pressure normal call h seen i c within less on)

    -- the rules answered
    module _ (g m t usual : ℕ)
        (allowed : choice_in call pressure normal (size_at facts.sizes g) (length online) t usual)
        (only : (s u : ℕ) → choice_in call pressure normal (size_at facts.sizes g) (length online) s u
        → (s ≡ t) × (u ≡ usual)) where
      abbrev asked : Plan (Unit {0})
      asked = rating_at facts p pressure normal call h (Asks seen g m)

      abbrev answered : ℕ → ℕ → Plan (Unit {0})
      answered s u = sets_plan facts p pressure normal call seen g s (rating_steps facts p online h g m u s) h

      answered-same : IsSame asked (answered t usual)
      answered-same = λ steps answer. (
        (λ run. let same = only run.0 run.1 run.2 in
            subst (λ s. Runs (answered s usual) steps answer) same.0
            (subst (λ u. Runs (answered run.0 u) steps answer) same.1 run.3)),
        (λ run. (t, usual, allowed, run)),
      )

      abbrev mark : ℕ
      mark = mark_for facts p online h g usual t

      steps-are : (b : Bool) → nat_eq mark m ≡ b → answered t usual
          ≡ sets_plan facts p pressure normal call seen g t
          ((if b then [] else SetM (record { number = g }) mark ∷ []) ++ threshold_steps g t online) h
      steps-are b is = ap (λ x. sets_plan facts p pressure normal call seen g t
          ((if x then [] else SetM (record { number = g }) mark ∷ []) ++ threshold_steps g t online) h) is

      pub answer-thresholds : nat_eq mark m ≡ true
          → IsSame asked (rating_at facts p pressure normal call h (Thresholds seen g t 0))
      answer-thresholds is = subst (λ plan. IsSame asked plan)
          (steps-are true is ∙ ap (λ n. sets_plan facts p pressure normal call seen g t
          (threshold_steps g t (flagged seen.online.flags 0 n)) h) (sym (all_left facts.layout.cpus)))
          answered-same

      pub answer-mark : (set : ℕ) → set ≡ mark → nat_eq mark m ≡ false
          → IsSame asked (rating_at facts p pressure normal call h (Mark seen g t set))
      answer-mark set same is = subst (λ plan. IsSame asked plan)
          (steps-are false is ∙ ap (λ n. sets_plan facts p pressure normal call seen g t
          (SetM (record { number = g }) mark ∷ threshold_steps g t (flagged seen.online.flags 0 n)) h)
          (sym (all_left facts.layout.cpus))
          ∙ ap (λ x. sets_plan facts p pressure normal call seen g t
          (SetM (record { number = g }) x ∷ thresholds_left facts p pressure normal call seen g t 0) h) (sym same))
          answered-same
