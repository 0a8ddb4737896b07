-- For other crates too: how a history goes on by a call that is made on plain page counters.
use Rattle.std.proofs.Common.{◌≡◌, ◌≢◌, ℕ, false, ℤ, List, Option, Some, None, refl, sym, ap, subst, ◌∙◌}
use Rattle.vms_calls.specs.Common.{Header, CounterId, CpuId, Mode, ZoneSize, GivesThresholds, State, facts_of, pages}
use Rattle.vms_calls.specs.Common.{History, HasWon, LeadsOn}
use Rattle.vms_calls.specs.MayMake as making
use Rattle.vms_calls.specs.PageCalls.{IsPageCall, asks_rules}
use Rattle.vms_calls.specs.declared.page_calls.PageAnswer.{PageAnswer}
use Rattle.vms_calls.specs.declared.page_calls.PageAnswer.TheVariants.{Done}
use Rattle.vms_calls.specs.declared.page_calls.PageCall.{PageCall}
use Rattle.vms_calls.specs.declared.page_calls.PageCall.TheVariants.{Change}
use Rattle.vms_calls.proofs.LoneChanges.{GoesOnWithChange-holds}
use Rattle.vms_calls.proofs.PageCalls.{page-each, page-may}
use Rattle.vms_core.specs.ChangedStates.{with_change}
use Rattle.vms_history.proofs.Common.{call-goes_on}
use Rattle.vms_plain_pages.specs.Common.{CallLeadsAlone, pages_are_by_state, pages_by_state}
use Rattle.vms_plain_control.specs.Common.{MakesUnladenCall}
use Rattle.vms_plain_control.specs.PageCalls.{MakesPageCall}
use Rattle.vms_plain_control.proofs.CallKinds.{All-each, OfChanges, folds-won, ratings-won, unruled-each}
use Rattle.vms_plain_control.proofs.UntouchedPeaks.{KnowsPeaks-left, LeavesPeaks, folds-leave, looks-leave}

-- changes neither set a threshold nor look what was acknowledged
changes-leave : OfChanges LeavesPeaks
changes-leave = record {
  threshold = λ g t a. tt;
  group = λ c j w. tt;
  exchange = λ k w t delta how. tt;
  miss = λ j w. tt;
  place = λ k z. tt;
  system = λ i z. tt;
}

module _ (header : Header) (pressure normal : ZoneSize → ℕ → ℕ → Type 0) (s next : State) (peaks : List ℕ) where
  -- a call that asks no rule and changes no counter
  pub look-made : GivesThresholds pressure → GivesThresholds normal → (call : PageCall) (owner : Option CpuId)
      (told : PageAnswer) → asks_rules call ≡ false
      → ((k : CounterId) (delta : ℤ) (how : Mode) → call ≢ Change k delta how)
      → ((base : State) (h : History) (p : ℕ)
      → CallLeadsAlone owner (λ ks. IsPageCall header base pressure normal call owner p h ks told) s next)
      → MakesPageCall header pressure normal call owner told s peaks next peaks
  look-made gives gives_normal call owner told asks no_change leads base h p may stands knows =
      let (steps, is, led) = leads base h p in
      record {
        steps = steps;
        is = is;
        alone = All-each HasWon steps
            (page-each HasWon ratings-won folds-won header base pressure normal call owner p h steps told no_change
            (λ c same. tt) is);
        goes_on = call-goes_on pages making.Tells pages_by_state pages_are_by_state (facts_of header base) p owner h
            (λ ks. IsPageCall header base pressure normal call owner p h ks told) steps next may.living.legal
            may.living.lives may.owner_is
            (λ later before step rest begun made tells.
            page-may pressure normal gives gives_normal header base h p call owner may later before step rest
            (told, begun) made tells) is
            (subst (λ (x : State). LeadsOn pages_by_state owner steps x next) (sym stands) led);
        knows = KnowsPeaks-left (facts_of header base) p steps
            (unruled-each LeavesPeaks looks-leave folds-leave changes-leave header base pressure normal call owner p h
            steps told asks is) h peaks knows;
      }

  -- a change
  pub change-made : (own : CpuId) (k : CounterId) (delta : ℤ) (how : Mode)
      → next ≡ with_change header.layout own.number k.number delta how s
      → MakesPageCall header pressure normal (Change k delta how) (Some own) Done s peaks next peaks
  change-made own k delta how changed base h p may stands knows =
      let (steps, follows) = GoesOnWithChange-holds (facts_of header base) h p own k delta how may.allowed in
      record {
        steps = steps;
        is = follows.change.change;
        alone = follows.change.alone;
        goes_on = record {
          legal = follows.legal;
          state = follows.state ∙ ap (with_change header.layout own.number k.number delta how) stands ∙ sym changed;
        };
        knows = KnowsPeaks-left (facts_of header base) p steps
            (unruled-each LeavesPeaks looks-leave folds-leave changes-leave header base pressure normal
            (Change k delta how) (Some own) p h steps Done refl follows.change.change) h peaks knows;
      }

  -- a call of the control pass
  pub control-made : (known : List ℕ) (call : PageCall) (told : PageAnswer)
      → ((k : CounterId) (delta : ℤ) (how : Mode) → call ≢ Change k delta how)
      → MakesUnladenCall header (λ base p h ks. IsPageCall header base pressure normal call None p h ks told) s peaks
      next known → MakesPageCall header pressure normal call None told s peaks next known
  control-made known call told no_change makes base h p may stands knows =
      let made = makes base h p (record {
        control = record { living = may.living; control = may.owner_is };
        stands = stands;
        known = knows;
      }) may.nothing in
      record {
        steps = made.0;
        is = made.1;
        alone = All-each HasWon made.0
            (page-each HasWon ratings-won folds-won header base pressure normal call None p h made.0 told no_change
            (λ c same. tt) made.1);
        goes_on = made.3;
        knows = made.4;
      }
