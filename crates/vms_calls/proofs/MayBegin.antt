-- For other crates too: a call that may be made whichever steps it has may be begun, and what may be begun may be made
-- as a whole.
use Rattle.std.proofs.Common.{ℕ, List, ◌∷◌, ◌++◌, refl, subst}
use Rattle.vms_core.specs.declared.steps.Facts.{Facts}
use Rattle.vms_core.specs.declared.steps.Step.{Step}
use Rattle.vms_core.specs.Common.{History}
use Rattle.vms_calls.specs.Common.{MayMake, MayBegin}

module _ (facts : Facts) (p : ℕ) (h : History) (IsCall : List Step → Type 0) where
  pub call-begins : ((steps : List Step) → IsCall steps → MayMake facts p h steps) → MayBegin facts p h IsCall
  call-begins may later done step rest call made tells =
      may (done ++ (step ∷ rest)) call later done step rest refl made tells

  pub call-whole : MayBegin facts p h IsCall → (steps : List Step) → IsCall steps → MayMake facts p h steps
  call-whole begins steps call later done step rest parts made tells =
      begins later done step rest (subst IsCall parts call) made tells
