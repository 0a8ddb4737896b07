-- A job that takes the lines of a text, of whose output a part is written meanwhile.
use Rattle.std.specs.Prelude.{◌≡◌, ℕ, List, ◌++◌, Option, Result, IfOk, OnErr}
use Rattle.std.specs.Io.KnownBytes.{Appends}
use Rattle.vms_stream.specs.Behaviors.{printed}
use Rattle.vms_stream.specs.Jobs.{TakesLines, Grows, StandsOn}
use Rattle.vms_stream.specs.declared.statuses.Status.{Status}
use Rattle.vms_stream.specs.PhasedBehaviors.{PhasedBehavior, with_outcomes}
use Rattle.vms_stream.specs.PhasedBehaviors.Way.{On}
use Rattle.vms_stream.specs.Leading.{OutcomesLead}

-- a job took these lines, and made phases that end at them. What waited and what the lines print was written from its
-- front on, and the rest waits; where the job failed, what was written is the front of it
pub record TakesText {S O E : Type 0} (phased : PhasedBehavior S O) (stands stands' : S → Type 0)
    (made made' : Option (List O)) (lines : List (List ℕ)) (result : Result (Option Status) E) (out out' : List ℕ)
    (held held' : Option (List ℕ)) : Type 0 where
  pub outcomes : List O
  pub moved : List ℕ
  pub grows : Grows made made' outcomes
  pub appends : Appends held held' moved
  pub leads : (s : S) → stands s → OutcomesLead phased s outcomes lines
  pub goes : IfOk result (λ halt. (s : S) → stands s →
      TakesLines (with_outcomes phased outcomes) (StandsOn stands') (On s outcomes) lines halt out (moved ++ out'))
  pub fails : OnErr result ((s : S) → stands s → (unwritten : List ℕ)
      × (out ++ printed (with_outcomes phased outcomes) (On s outcomes) lines ≡ moved ++ unwritten))

-- the front of what waited was written, and the rest waits
pub record WritesFront (out : List ℕ) (held held' : Option (List ℕ)) (kept : List ℕ → Type 0) : Type 0 where
  pub moved : List ℕ
  pub rest : List ℕ
  pub parts : out ≡ moved ++ rest
  pub appends : Appends held held' moved
  pub waits : kept rest
