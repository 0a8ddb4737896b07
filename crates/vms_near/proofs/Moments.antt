-- For other crates too: what a caller made since an earlier history, cut after some of its steps.
use Rattle.std.proofs.Common.{◌≡◌, ℕ, List, [], ◌∷◌, ◌++◌, refl, sym, ap, ◌∙◌, subst, append_assoc, append-nil}
use Rattle.vms_calls.specs.Common.{Event, Extends, Facts, Step, after, own, pages, History}
use Rattle.vms_core.specs.Pages.{IsLegal}
use Rattle.vms_history.proofs.Common.{Extends-both, Extends-same, after-steps, last_in_row, own-append, prefix_is_legal}
use Rattle.vms_drift.specs.Moments.{MadeSince, StepsAt}

abbrev pub event : ℕ → Step → Event Step
event p k = record { caller = p; step = k }

-- what holds of no steps, and of one step more, holds of all
pub by_last : (P : List Step → Type 0) → P [] → ((ks : List Step) (k : Step) → P ks → P (ks ++ (k ∷ [])))
    → (ks : List Step) → P ks
by_last P none more ks = go [] ks none
  where
    go : (front back : List Step) → P front → P (front ++ back)
    go front [] holds = subst P (sym (append-nil front)) holds
    go front (k ∷ back) holds =
        subst P (append_assoc front (k ∷ []) back) (go (front ++ (k ∷ [])) back (more front k holds))

pub earlier-legal : (facts : Facts) (later earlier : History) → Extends later earlier → IsLegal facts later
    → IsLegal facts earlier
earlier-legal facts later earlier more legal =
    prefix_is_legal pages facts more.0 earlier (subst (IsLegal facts) more.1 legal)

-- a history in between, in which the first of the steps were made
pub record Cut (facts : Facts) (later earlier : History) (p : ℕ) (first rest : List Step) : Type 0 where
  pub mid : History
  pub front : MadeSince facts mid earlier p first
  pub back : MadeSince facts later mid p rest

-- the first step was made on top of this moment
pub record FirstAt (facts : Facts) (later earlier : History) (p : ℕ) (k : Step) (ks : List Step) : Type 0 where
  pub moment : History
  pub begins : Extends moment earlier
  pub own_same : own moment p ≡ own earlier p
  pub legal : IsLegal facts (event p k ∷ moment)
  pub rest : MadeSince facts later (event p k ∷ moment) p ks

module _ (facts : Facts) (p : ℕ) where
  pub made-cut : (earlier : History) (first rest : List Step) (later : History)
      → MadeSince facts later earlier p (first ++ rest) → Cut facts later earlier p first rest
  made-cut earlier first = by_last
      (λ rest. (later : History) → MadeSince facts later earlier p (first ++ rest)
      → Cut facts later earlier p first rest)
      (λ later has. record {
        mid = later;
        front = record {
          legal = has.legal;
          extends = has.extends;
          made = has.made ∙ ap (λ ks. after p ks (own earlier p)) (append-nil first);
        };
        back = record { legal = has.legal; extends = Extends-same later; made = refl };
      })
      (λ ks k before later has.
      let parts = last_in_row later earlier p (first ++ ks) k has.extends
      (has.made ∙ ap (λ js. after p js (own earlier p)) (sym (append_assoc first ks (k ∷ [])))) in
      let newest = parts.0 in
      let legal : IsLegal facts (event p k ∷ newest.before) =
      earlier-legal facts later (event p k ∷ newest.before) (newest.since, newest.parts) has.legal in
      let cut = before newest.before
      (record { legal = legal.0; extends = parts.1; made = newest.own_before }) in
      record {
        mid = cut.mid;
        front = cut.front;
        back = record {
          legal = has.legal;
          extends = Extends-both later (event p k ∷ newest.before) cut.mid (newest.since, newest.parts)
              (Extends-both (event p k ∷ newest.before) newest.before cut.mid (event p k ∷ [], refl)
              cut.back.extends);
          made = has.made ∙ after-steps p first (ks ++ k ∷ []) (own earlier p)
              ∙ ap (after p (ks ++ k ∷ [])) (sym cut.front.made);
        };
      })

  pub made-first : (later earlier : History) (k : Step) (rest : List Step)
      → MadeSince facts later earlier p (k ∷ rest) → FirstAt facts later earlier p k rest
  made-first later earlier k rest has =
      let cut = made-cut earlier (k ∷ []) rest later has in
      let parts = last_in_row cut.mid earlier p [] k cut.front.extends cut.front.made in
      let newest = parts.0 in
      let same : own cut.mid p ≡ own (event p k ∷ newest.before) p =
      ap (λ (h : History). own h p) newest.parts ∙ own-append newest.since (event p k ∷ newest.before) p
      ∙ ap (λ (es : History). es ++ own (event p k ∷ newest.before) p) newest.none_since in
      record {
        moment = newest.before;
        begins = parts.1;
        own_same = newest.own_before;
        legal = earlier-legal facts cut.mid (event p k ∷ newest.before) (newest.since, newest.parts) cut.front.legal;
        rest = record {
          legal = has.legal;
          extends = Extends-both later cut.mid (event p k ∷ newest.before) cut.back.extends
              (newest.since, newest.parts);
          made = cut.back.made ∙ ap (after p rest) same;
        };
      }

  -- so the step was made between the two histories
  pub first-at : (later earlier : History) (k : Step) (rest : List Step)
      → (first : FirstAt facts later earlier p k rest) → StepsAt later earlier p k first.moment
  first-at later earlier k rest first = record { begins = first.begins; until = first.rest.extends }
