-- A number that the control pass finds acknowledged is one of the sets that it keeps, and so fits.
use Rattle.std.proofs.Common.{◌≡◌, ℕ, zero, suc, ◌^◌, ◌<◌, ◌≤◌, ◌∷◌, Some, length, ◌∙◌, subst, arith}
use Rattle.vms_calls.specs.Common.{CpuId, PlaceId, Facts, Step, LoadA, acknowledged_at, pages, state_after}
use Rattle.vms_seats.specs.Common.{Pass, MadeOne}
use Rattle.vms_core.specs.Pages.{IsLegal}
use Rattle.vms_core.proofs.Common.{laws-kept, control-knows_later}
use Rattle.vms_words.specs.declared.kept.Settings.{Settings}
use Rattle.vms_words.specs.Common.{IsControlPass, kept_sets, acknowledgement_told}
use Rattle.vms_words.proofs.KeptSettings.{zone-place}

module _ (new old : Pass Facts Step) (kept : Settings) (c : CpuId) (g : PlaceId) (word : ℕ)
    (control : IsControlPass old kept) (made : MadeOne pages new old (LoadA c g (acknowledgement_told word)))
    (fits : kept_sets old.facts.layout kept c.number g.number < 2 ^ 32) where
  pub acknowledged-fits : word ≤ 2 ^ 32
  acknowledged-fits =
      let before = made.at.before in
      let legal : IsLegal old.facts
      (record { caller = old.number; step = LoadA c g (acknowledgement_told word) } ∷ before) =
      subst (IsLegal old.facts) made.at.newest made.at.legal in
      let laws = laws-kept old.facts before legal.0 in
      let loads = legal.2 in
      let place = zone-place (length old.facts.layout.zones) (length old.facts.layout.nodes) g.number loads.zone in
      let stands = control-knows_later old.facts before old.seen old.number made.at.others
      (control.live.owner ∙ control.none) in
      let number = control.knows.threshold_sets c.number g.number loads.cpu place in
      let stood = stands.threshold_sets c.number g.number in
      let told = laws.told_numbers c.number g.number loads.cpu place in
      by word loads.value
      (λ n is. omega (
        arith,
        laws.acknowledged_numbers c.number g.number n loads.cpu loads.zone is,
        told,
        stood,
        number,
        fits,
      ))
    where
      by : (w : ℕ) → acknowledged_at (state_after old.facts made.at.before) c.number g.number ≡ acknowledgement_told w
          → ((n : ℕ) → acknowledged_at (state_after old.facts made.at.before) c.number g.number ≡ Some n → n < 2 ^ 32)
          → w ≤ 2 ^ 32
      by zero is each = omega arith
      by (suc n) is each = omega (arith, each n is)
