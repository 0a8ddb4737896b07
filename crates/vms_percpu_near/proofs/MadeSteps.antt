-- What a caller made between two histories, cut before and after its first step.
use Rattle.std.proofs.Common.{◌≡◌, ℕ, List, [], ◌∷◌, ◌++◌, refl, sym, ap, ◌∙◌, subst, append_assoc, append-nil}
use Rattle.vms_history.specs.Common.{Extends, PcpuId, own}
use Rattle.vms_history.proofs.Common.{Extends-both, after-steps, last_in_row, own-append, own-mine, prefix_is_legal}
use Rattle.vms_pcpu_core.specs.declared.steps.PcpuFacts.{PcpuFacts}
use Rattle.vms_pcpu_core.specs.declared.steps.PcpuStep.{PcpuStep}
use Rattle.vms_pcpu_core.specs.declared.steps.PcpuStep.TheVariants.{Missed, Won}
use Rattle.vms_pcpu_core.specs.Common.{History, IsLegal, Locks, MadeSteps, event, missed, percpu, won}

-- what holds of no steps, and of one step more, holds of all
by-last : (P : List PcpuStep → Type 0) → P [] → ((ks : List PcpuStep) (k : PcpuStep) → P ks → P (ks ++ (k ∷ [])))
    → (ks : List PcpuStep) → P ks
by-last P none more ks = go [] ks none
  where
    go : (front back : List PcpuStep) → P front → P (front ++ back)
    go front [] holds = subst P (sym (append-nil front)) holds
    go front (k ∷ back) holds =
        subst P (append_assoc front (k ∷ []) back) (go (front ++ (k ∷ [])) back (more front k holds))

pub earlier-legal : (facts : PcpuFacts) (later earlier : History) → Extends later earlier → IsLegal facts later
    → IsLegal facts earlier
earlier-legal facts later earlier more legal =
    prefix_is_legal percpu facts more.0 earlier (subst (IsLegal facts) more.1 legal)

-- the first step was made on top of this moment
pub record FirstAt (facts : PcpuFacts) (earlier later : History) (p : ℕ) (k : PcpuStep) (ks : List PcpuStep)
    : Type 0 where
  pub moment : History
  pub since : Extends moment earlier
  pub own_same : own moment p ≡ own earlier p
  pub legal : IsLegal facts (event p k ∷ moment)
  pub rest : MadeSteps facts (event p k ∷ moment) later p ks

module _ (facts : PcpuFacts) (p : ℕ) where
  pub first-at : (earlier : History) (k : PcpuStep) (ks : List PcpuStep) (later : History)
      → MadeSteps facts earlier later p (k ∷ ks) → FirstAt facts earlier later p k ks
  first-at earlier k = by-last
      (λ ks. (later : History) → MadeSteps facts earlier later p (k ∷ ks) → FirstAt facts earlier later p k ks)
      (λ later has.
      let parts = last_in_row later earlier p [] k has.goes_on has.made in
      let newest = parts.0 in
      record {
        moment = newest.before;
        since = parts.1;
        own_same = newest.own_before;
        legal = earlier-legal facts later (event p k ∷ newest.before) (newest.since, newest.parts) has.legal;
        rest = record {
          legal = has.legal;
          goes_on = (newest.since, newest.parts);
          made = ap (λ (h : History). own h p) newest.parts
              ∙ own-append newest.since (event p k ∷ newest.before) p
              ∙ ap (λ (es : History). es ++ own (event p k ∷ newest.before) p) newest.none_since;
        };
      })
      (λ ks last before later has.
      let parts = last_in_row later earlier p (k ∷ ks) last has.goes_on has.made in
      let newest = parts.0 in
      let top : History = event p last ∷ newest.before in
      let kept : Extends later top = (newest.since, newest.parts) in
      let legal : IsLegal facts top = earlier-legal facts later top kept has.legal in
      let first = before newest.before
      (record { legal = legal.0; goes_on = parts.1; made = newest.own_before }) in
      record {
        moment = first.moment;
        since = first.since;
        own_same = first.own_same;
        legal = first.legal;
        rest = record {
          legal = has.legal;
          goes_on = Extends-both later newest.before (event p k ∷ first.moment)
              (Extends-both later top newest.before kept (event p last ∷ [], refl)) first.rest.goes_on;
          made = ap (λ (h : History). own h p) newest.parts ∙ own-append newest.since top p
              ∙ ap (λ (es : History). es ++ own top p) newest.none_since
              ∙ own-mine (event p last) newest.before p refl
              ∙ ap (λ (es : History). event p last ∷ es) first.rest.made
              ∙ sym (after-steps p ks (last ∷ []) (own (event p k ∷ first.moment) p));
        };
      })

  -- a caller that won a lock in the end
  pub record WonAt (j : PcpuId) (earlier later : History) (ks : List PcpuStep) : Type 0 where
    pub free : History
    pub since : Extends free earlier
    pub legal : IsLegal facts (event p (Won j) ∷ free)
    pub rest : MadeSteps facts (event p (Won j) ∷ free) later p ks

  pub won-at : (j : PcpuId) (locking ks : List PcpuStep) (earlier later : History) → Locks j locking
      → MadeSteps facts earlier later p (locking ++ ks) → WonAt j earlier later ks
  won-at j locking ks earlier later won has =
      let first = first-at earlier (Won j) ks later has in
      record { free = first.moment; since = first.since; legal = first.legal; rest = first.rest }
  won-at j locking ks earlier later (missed rest locks) has =
      let first = first-at earlier (Missed j) (rest ++ ks) later has in
      let more = won-at j rest ks (event p (Missed j) ∷ first.moment) later locks first.rest in
      record {
        free = more.free;
        since = Extends-both more.free (event p (Missed j) ∷ first.moment) earlier more.since
            (Extends-both (event p (Missed j) ∷ first.moment) first.moment earlier (event p (Missed j) ∷ [], refl)
            first.since);
        legal = more.legal;
        rest = more.rest;
      }
