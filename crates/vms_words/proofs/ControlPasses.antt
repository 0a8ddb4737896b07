-- What a control pass keeps after one of its steps.
use Rattle.std.proofs.Common.{◌≡◌, [], ◌∷◌, refl, sym, ◌∙◌, subst}
use Rattle.vms_calls.specs.Common.{Shape, Facts, Step, SetT, SetM, SetO, LoadA, pages, History}
use Rattle.vms_seats.specs.Common.{Pass, Shared, IsFrom, MadeOne}
use Rattle.vms_seats.proofs.Common.{calls-live}
use Rattle.vms_core.specs.Pages.{IsLegal}
use Rattle.vms_core.proofs.Common.{control-knows_later}
use Rattle.vms_words.specs.declared.kept.Settings.{Settings}
use Rattle.vms_words.specs.Common.{KeepsSettings, IsControlPass, kept_after, KeepsNumbers}
use Rattle.vms_words.proofs.KeptSettings.{KeepsSettings-later, KeepsSettings-step}

-- a step that leaves the settings leaves what is kept
kept-same : (shape : Shape) (step : Step) (kept : Settings) → KeepsNumbers step → kept_after shape step kept ≡ kept
kept-same shape (SetT c g t) kept leaves = absurd leaves
kept-same shape (SetM g m) kept leaves = absurd leaves
kept-same shape (SetO c) kept leaves = absurd leaves
kept-same shape (LoadA c g x) kept leaves = absurd leaves
kept-same shape _ kept leaves = refl

module _ (new old : Pass Facts Step) (kept : Settings) (step : Step) (control : IsControlPass old kept)
    (made : MadeOne pages new old step) where
  knows-then : KeepsSettings old.facts new.seen (kept_after old.facts.layout step kept)
  knows-then =
      let before = made.at.before in
      subst (λ (h : History). KeepsSettings old.facts h (kept_after old.facts.layout step kept)) (sym made.at.newest)
      (KeepsSettings-step old.facts before old.number step kept (subst (IsLegal old.facts) made.at.newest made.at.legal)
      (KeepsSettings-later old.facts before old.seen kept
      (control-knows_later old.facts before old.seen old.number made.at.others (control.live.owner ∙ control.none))
      control.knows))

  pub IsControlPass-made : IsControlPass new (kept_after old.facts.layout step kept)
  IsControlPass-made = record {
    live = calls-live pages new old (step ∷ []) control.live made.all;
    none = made.all.cpu ∙ control.none;
    knows = subst (λ (facts : Facts). KeepsSettings facts new.seen (kept_after old.facts.layout step kept))
        (sym made.all.facts) knows-then;
  }

  pub IsControlPass-kept : KeepsNumbers step → IsControlPass new kept
  IsControlPass-kept leaves =
      subst (IsControlPass new) (kept-same old.facts.layout step kept leaves) IsControlPass-made

-- what is known of a control pass is known of its worker
module _ (worker pass : Pass Facts Step) (table : Shared Facts) (is : worker ≡ pass) (of : IsFrom pass table) where
  pub worker-of : IsFrom worker table
  worker-of = subst (λ (p : Pass Facts Step). IsFrom p table) (sym is) of

  pub worker-knows : (Known : Facts → Pass Facts Step → Type 0) → Known table.facts pass → Known worker.facts worker
  worker-knows Known known =
      subst (λ (p : Pass Facts Step). Known p.facts p) (sym is)
      (subst (λ (facts : Facts). Known facts pass) (sym of.facts) known)

  -- and the other way
  pub pass-knows : (Known : Facts → Pass Facts Step → Type 0) → Known worker.facts worker → Known table.facts pass
  pass-knows Known known =
      subst (λ (facts : Facts). Known facts pass) of.facts (subst (λ (p : Pass Facts Step). Known p.facts p) is known)
