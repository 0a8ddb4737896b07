-- How a change goes on from each position.
use Rattle.std.proofs.Common.{◌≡◌, ◌≢◌, ℕ, suc, zero, ℤ, pos, negsuc, refl, sym, ap, subst, ◌∙◌}
use Rattle.std.specs.Prelude.{Some, None}
use Rattle.vms_calls.specs.Common.{AddG, AddS, CounterId, Diffs, GroupId, LoadD, LoadT, Miss, PlaceId, Put, Shape, Step}
use Rattle.vms_calls.specs.Common.{eight_zeros, group_of, item_of, place_of}
use Rattle.vms_plans.specs.declared.due_steps.DueStep.TheVariants.{Exchanges, ExchangesZeros, LoadsGroup}
use Rattle.vms_plans.specs.declared.due_steps.DueStep.TheVariants.{LoadsThreshold, Makes}
use Rattle.vms_plans.specs.Common.{Fits, Plan, carrying, ends, exchanged_plan, found_plan, loaded_plan, makes}
use Rattle.vms_plans.specs.Common.{makes_all, won_plan}
use Rattle.vms_cursors.specs.declared.changes.Change.{Change}
use Rattle.vms_cursors.specs.declared.change_positions.ChangePosition.TheVariants.{Begun, Loaded, Found, Missed, Won}
use Rattle.vms_cursors.specs.Changes.{change_at}
use Rattle.vms_cursors.specs.Cursors.{GoesOn, HasEnded, IsDue, Stops}
use Rattle.vms_cursors.specs.StepReadings.{group_in, threshold_in}
use Rattle.vms_cursors.proofs.Goes.{ends-stops, waits-due, waits-goes, waits-stops}
use Rattle.vms_cursors.proofs.StepReadings.{group-other, group-read, one_list, threshold-other, threshold-read}

-- what is carried: nothing where the amount is 0
module _ (shape : Shape) (k : CounterId) where
  abbrev left : ℤ → Plan (Unit {0})
  left z = makes_all (carrying shape k z) (ends (tt {0}))

  abbrev last : ℤ → Plan (Unit {0})
  last z = makes (AddS (record { number = item_of shape k.number }) z) (ends (tt {0}))

  pub carrying-due : (z : ℤ) → z ≢ pos 0 → IsDue (left z) (Makes (AddG k z))
  carrying-due (pos zero) some = absurd (some refl)
  carrying-due (pos (suc n)) some = waits-due (Makes (AddG k (pos (suc n)))) (λ made. last (pos (suc n)))
  carrying-due (negsuc n) some = waits-due (Makes (AddG k (negsuc n))) (λ made. last (negsuc n))

  pub carrying-ended : (z : ℤ) → z ≡ pos 0 → HasEnded (left z) (tt {0})
  carrying-ended z none = subst (λ x. HasEnded (left x) (tt {0})) (sym none) refl

  module _ (step : Step) where
    pub carrying-goes : (z : ℤ) → z ≢ pos 0 → AddG k z ≡ step → GoesOn (left z) step (last z)
    carrying-goes (pos zero) some same = absurd (some refl)
    carrying-goes (pos (suc n)) some same =
        let z : ℤ = pos (suc n) in waits-goes (Makes (AddG k z)) (λ made. last z) (AddG k z) step refl same
    carrying-goes (negsuc n) some same =
        let z : ℤ = negsuc n in waits-goes (Makes (AddG k z)) (λ made. last z) (AddG k z) step refl same

    pub carrying-stops : (z : ℤ) → z ≢ pos 0 → (AddG k z ≡ step → ⊥) → Stops (left z) step
    carrying-stops (pos zero) some other = absurd (some refl)
    carrying-stops (pos (suc n)) some other =
        waits-stops (Makes (AddG k (pos (suc n)))) (λ made. last (pos (suc n))) step other
    carrying-stops (negsuc n) some other = waits-stops (Makes (AddG k (negsuc n))) (λ made. last (negsuc n)) step other

    pub nothing-stops : (z : ℤ) → z ≡ pos 0 → Stops (left z) step
    nothing-stops z none = subst (λ x. Stops (left x) step) (sym none) (ends-stops (tt {0}) step)

module _ (shape : Shape) (change : Change) (step : Step) where
  abbrev g : PlaceId
  g = record { number = place_of shape change.counter.number }

  abbrev j : GroupId
  j = record { number = group_of change.counter.number }

  abbrev put : ℕ → Diffs → Step
  put t w = Put change.counter w t change.delta change.mode

  abbrev loaded : Step → Plan (Unit {0})
  loaded = loaded_plan shape change.cpu change.counter change.delta change.mode

  abbrev found : ℕ → Step → Plan (Unit {0})
  found t = found_plan shape change.cpu change.counter change.delta change.mode t

  abbrev exchanged : ℕ → Step → Plan (Unit {0})
  exchanged t = exchanged_plan shape change.cpu change.counter change.delta change.mode t

  abbrev won : Step → Plan (Unit {0})
  won = won_plan shape change.cpu change.counter change.delta change.mode

  pub begun-goes : (t : ℕ) → threshold_in g.number step ≡ Some t
      → GoesOn (change_at shape change Begun) step (change_at shape change (Loaded t))
  begun-goes t told =
      let read = threshold-read g step t told in
      waits-goes (LoadsThreshold g) loaded (LoadT g t read.0) step refl read.1

  pub begun-stops : threshold_in g.number step ≡ None → Stops (change_at shape change Begun) step
  begun-stops none = waits-stops (LoadsThreshold g) loaded step (threshold-other g step none)

  module _ (t : ℕ) where
    pub loaded-goes : (w : Diffs) → group_in change.cpu.number j.number step ≡ Some w
        → GoesOn (change_at shape change (Loaded t)) step (change_at shape change (Found t w))
    loaded-goes w told = waits-goes (LoadsGroup change.cpu j) (found t) (LoadD change.cpu j w) step (refl, refl)
        (group-read change.cpu j step w told)

    pub loaded-stops : group_in change.cpu.number j.number step ≡ None → Stops (change_at shape change (Loaded t)) step
    loaded-stops none =
        waits-stops (LoadsGroup change.cpu j) (found t) step (group-other change.cpu j step none)

    module _ (w : Diffs) where
      pub found-won : put t w ≡ step
          → GoesOn (change_at shape change (Found t w)) step (change_at shape change (Won t w))
      found-won same =
          waits-goes (Exchanges change.counter w t change.delta change.mode) (exchanged t) (put t w) step refl same

      pub found-missed : Miss j w ≡ step
          → GoesOn (change_at shape change (Found t w)) step (change_at shape change (Missed t))
      found-missed same =
          waits-goes (Exchanges change.counter w t change.delta change.mode) (exchanged t) (Miss j w) step refl same

      pub found-stops : (put t w ≡ step → ⊥) → (Miss j w ≡ step → ⊥) → Stops (change_at shape change (Found t w)) step
      found-stops no_put no_miss = waits-stops (Exchanges change.counter w t change.delta change.mode) (exchanged t) step
          (by step no_put no_miss)
        where
          by : (s : Step) → (put t w ≡ s → ⊥) → (Miss j w ≡ s → ⊥)
              → Fits (Exchanges change.counter w t change.delta change.mode) s → ⊥
          by (Put l v u d m) no_put no_miss fits = no_put fits
          by (Miss i v) no_put no_miss fits = no_miss fits
          by s no_put no_miss fits = fits

    pub missed-won : (zeros : Diffs) → zeros.values ≡ eight_zeros → put t zeros ≡ step
        → GoesOn (change_at shape change (Missed t)) step (change_at shape change (Won t zeros))
    missed-won zeros are same = waits-goes (ExchangesZeros change.counter t change.delta change.mode) won (put t zeros)
        step (are, refl) same

    put-list : (w w' : Diffs) → put t w ≡ put t w' → w ≡ w'
    put-list w w' same = cc

    pub missed-stops : ((zeros : Diffs) → zeros.values ≡ eight_zeros → put t zeros ≡ step → ⊥)
        → Stops (change_at shape change (Missed t)) step
    missed-stops no_put =
        waits-stops (ExchangesZeros change.counter t change.delta change.mode) won step (by step no_put)
      where
        by : (s : Step) → ((zeros : Diffs) → zeros.values ≡ eight_zeros → put t zeros ≡ s → ⊥)
            → Fits (ExchangesZeros change.counter t change.delta change.mode) s → ⊥
        by (Put l v u d m) no_put fits = no_put v fits.0 fits.1
        by s no_put fits = fits

    -- the step puts another list than that of eight zeros
    pub missed-other : (zeros other : Diffs) → zeros.values ≡ eight_zeros → put t other ≡ step → (zeros ≡ other → ⊥)
        → Stops (change_at shape change (Missed t)) step
    missed-other zeros other are same differ = missed-stops
        (λ found as_well again. differ (one_list zeros other (are ∙ sym as_well
        ∙ ap (λ (w : Diffs). w.values) (put-list found other (again ∙ sym same)))))
