-- For other crates too: what stands of a pass after a part of its call, from what it was before.
use Rattle.std.proofs.Common.{◌≡◌, List, sym, ap, ◌∙◌, subst}
use Rattle.vms_calls.specs.Common.{KnowsByOwnSteps, HasMade, Facts, Step, IsControl, pages, role, after, owner_in}
use Rattle.vms_control.proofs.SameSums.{SameSums}
use Rattle.vms_history.proofs.Common.{made-owner}
use Rattle.vms_seats.specs.Common.{Pass, Shared, IsFrom, Made, MadeOne, MakesStep}

-- one step, by the facts of the words
pub step-at : (words : Shared Facts) (new old : Pass Facts Step) (step : Step) → IsFrom old words
    → MadeOne pages new old step → MakesStep pages words.facts new.seen old.seen old.number step
step-at words new old step of one =
    subst (λ (f : Facts). MakesStep pages f new.seen old.seen old.number step) of.facts one.at

module _ (words : Shared Facts) (new old : Pass Facts Step) (steps : List Step) (of : IsFrom old words)
    (made : Made pages new old steps) where
  pub of-new : IsFrom new words
  of-new = record { table = made.table ∙ of.table; facts = made.facts ∙ of.facts }

  pub has-made : HasMade words.facts new.seen old.seen old.number steps
  has-made = subst (λ (f : Facts). HasMade f new.seen old.seen old.number steps) of.facts made.made

  -- it owns the same CPU, or none still
  owner-same : owner_in role new.seen new.number ≡ owner_in role old.seen old.number
  owner-same = ap (owner_in role new.seen) made.number
      ∙ made-owner pages words.facts new.seen old.seen old.number steps has-made

  pub control-new : IsControl old.seen old.number → IsControl new.seen new.number
  control-new control = owner-same ∙ control

  pub control-old : IsControl new.seen new.number → IsControl old.seen old.number
  control-old control = sym owner-same ∙ control

  -- further steps come to the same sums of peaks as after these in a row
  pub sums-made : KnowsByOwnSteps → IsControl old.seen old.number
      → SameSums words.facts old.number new.seen (after old.number steps old.seen)
  sums-made know control more g =
      (know words.facts new.seen old.seen old.number steps has-made control).peak_sums more g
