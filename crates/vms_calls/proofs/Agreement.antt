-- For other crates too: what a pass made while others acted agrees with the same steps in a row. In what it may go by,
-- the two histories are the same.
use Rattle.std.proofs.Common.{◌≡◌, ◌≢◌, ℕ, ◌+◌, ◌≤◌, true, List, [], ◌∷◌, ◌++◌, Some, None, refl, sym, ap, ◌∙◌, subst}
use Rattle.std.proofs.Common.{arith, append_assoc}
use Rattle.std.proofs.lemmas.List.{append-nil}
use Rattle.vms_history.specs.Common.{CpuId, own, after, owner, owner_in, lives_in, begun_in}
use Rattle.vms_history.specs.declared.events.Event.{Event}
use Rattle.vms_history.proofs.Common.{own-mine, own-others, after-steps, last_in_row, live_is_given, lives_in-before}
use Rattle.vms_history.proofs.Common.{begun_in-append, prefix_is_legal}
use Rattle.vms_core.specs.declared.steps.Facts.{Facts}
use Rattle.vms_core.specs.declared.steps.Step.{Step}
use Rattle.vms_core.specs.Common.{mark_at, GoesOnWithout, pages, History, IsLegal, state_after, role, spent, spent_by}
use Rattle.vms_calls.specs.Common.{HasMade}
use Rattle.vms_calls.proofs.RatingCovers.{SamePeaks, SamePeaks-next}
use Rattle.vms_core.proofs.Common.{mark_after, mark_at-newest, owner_in-goes_on, OwnerKnows-holds, control-knows_later}

-- what holds of no steps, and of one step more, holds of all
pub by_last : (P : List Step → Type 0) → P [] → ((ks : List Step) (k : Step) → P ks → P (ks ++ (k ∷ [])))
    → (ks : List Step) → P ks
by_last P none more ks = go [] ks none
  where
    go : (front back : List Step) → P front → P (front ++ back)
    go front [] holds = subst P (sym (append-nil front)) holds
    go front (k ∷ back) holds =
        subst P (append_assoc front (k ∷ []) back) (go (front ++ (k ∷ [])) back (more front k holds))

-- the mark of a zone by the history alone
abbrev pub mark_in : Facts → ℕ → History → ℕ
mark_in facts g [] = mark_at facts.base g
mark_in facts g (e ∷ h) = mark_after g e.step (mark_in facts g h)

pub mark_at-told : (facts : Facts) (h : History) → IsLegal facts h → (g : ℕ)
    → mark_at (state_after facts h) g ≡ mark_in facts g h
mark_at-told facts [] legal g = refl
mark_at-told facts (e ∷ h) legal g = mark_at-newest facts e h legal g
    ∙ ap (mark_after g e.step) (mark_at-told facts h legal.0 g)

module _ (facts : Facts) (p : ℕ) where
  abbrev pub event : Step → Event Step
  event k = record { caller = p; step = k }

  -- the pass itself, its CPU's volumes, and for the control pass peaks and marks are the same in both histories
  pub record Agrees (h ideal : History) : Type 0 where
    pub mine : own h p ≡ own ideal p
    pub owner : owner_in role h p ≡ owner_in role ideal p
    pub volumes : (c : CpuId) → owner_in role ideal p ≡ Some c → (k : ℕ) → spent h c.number k ≡ spent ideal c.number k
    pub peaks : owner_in role ideal p ≡ None → (g : ℕ) → SamePeaks facts g h ideal
    pub marks : owner_in role ideal p ≡ None → (g : ℕ) → mark_in facts g h ≡ mark_in facts g ideal

  Agrees-same : (h : History) → Agrees h h
  Agrees-same h = record {
    mine = refl;
    owner = refl;
    volumes = λ c is k. refl;
    peaks = λ control g. record {
      same_sets = λ c. refl;
      same_thresholds = λ c. refl;
      same_peaks = λ c. refl;
      same_cpus = λ c. refl;
    };
    marks = λ control g. refl;
  }

  -- a step of the pass goes on top of both
  Agrees-next : p ≢ 0 → (h ideal : History) (k : Step) → Agrees h ideal → Agrees (event k ∷ h) (event k ∷ ideal)
  Agrees-next some h ideal k agrees = record {
    mine = own-mine (event k) h p refl ∙ ap (λ es. event k ∷ es) agrees.mine ∙ sym (own-mine (event k) ideal p refl);
    owner = apart h ∙ agrees.owner ∙ sym (apart ideal);
    volumes = λ c is n.
        ap (λ who. spent_by who c.number n k + spent h c.number n) agrees.owner
        ∙ ap (λ m. spent_by (owner_in role ideal p) c.number n k + m) (agrees.volumes c (sym (apart ideal) ∙ is) n);
    peaks = λ control g. SamePeaks-next facts g h ideal (event k) (agrees.peaks (sym (apart ideal) ∙ control) g);
    marks = λ control g. ap (mark_after g k) (agrees.marks (sym (apart ideal) ∙ control) g);
  }
    where
      apart : (g : History) → owner_in role (event k ∷ g) p ≡ owner_in role g p
      apart g = ap (λ es. owner role es p) (own-others (event k) g 0 some)

  -- steps of others change nothing of it
  Agrees-goes_on : (later h ideal : History) → GoesOnWithout facts later h p → IsLegal facts h → Agrees h ideal
      → Agrees later ideal
  Agrees-goes_on later h ideal goes legal agrees =
      let same = owner_in-goes_on facts later h p goes in
      record {
        mine = goes.own_same ∙ agrees.mine;
        owner = same ∙ agrees.owner;
        volumes = λ c is k. (OwnerKnows-holds facts later h p c goes (agrees.owner ∙ is)).volumes k
            ∙ agrees.volumes c is k;
        peaks = λ control g.
            let knows = control-knows_later facts later h p goes (agrees.owner ∙ control) in
            let before = agrees.peaks control g in
            record {
              same_sets = λ c. knows.sets c g ∙ before.same_sets c;
              same_thresholds = λ c. knows.newest c g ∙ before.same_thresholds c;
              same_peaks = λ c. knows.peaks c g ∙ before.same_peaks c;
              same_cpus = λ c. knows.states c ∙ before.same_cpus c;
            };
        marks = λ control g.
            let knows = control-knows_later facts later h p goes (agrees.owner ∙ control) in
            sym (mark_at-told facts later goes.legal g) ∙ knows.marks g
            ∙ mark_at-told facts h legal g ∙ agrees.marks control g;
      }

  -- the last of the steps that the pass made, and what others did since
  pub record Last (later earlier : History) (ks : List Step) (k : Step) : Type 0 where
    pub before : History
    pub made : HasMade facts before earlier p ks
    pub legal : IsLegal facts (event k ∷ before)
    pub since : GoesOnWithout facts later (event k ∷ before) p

  pub made-last : (later earlier : History) (ks : List Step) (k : Step) → HasMade facts later earlier p (ks ++ (k ∷ []))
      → Last later earlier ks k
  made-last later earlier ks k has =
      let parts = last_in_row later earlier p ks k has.extends has.made in
      let newest = parts.0 in
      let legal : IsLegal facts (event k ∷ newest.before) =
      prefix_is_legal pages facts newest.since (event k ∷ newest.before)
      (subst (IsLegal facts) newest.parts has.legal) in
      let earlier_legal : IsLegal facts earlier =
      prefix_is_legal pages facts has.extends.0 earlier (subst (IsLegal facts) has.extends.1 has.legal) in
      let given : p ≤ begun_in role earlier = (live_is_given pages facts earlier p earlier_legal has.lived).1 in
      let grows : begun_in role earlier ≤ begun_in role newest.before =
      subst (λ (g : History). begun_in role earlier ≤ begun_in role g) (sym parts.1.1)
      (begun_in-append role parts.1.0 earlier) in
      let whole : later ≡ (newest.since ++ (event k ∷ [])) ++ newest.before =
      newest.parts ∙ sym (append_assoc newest.since (event k ∷ []) newest.before) in
      let lived_before : lives_in role newest.before p ≡ true =
      lives_in-before pages facts (newest.since ++ (event k ∷ [])) newest.before p
      (subst (IsLegal facts) whole has.legal) (omega arith)
      (subst (λ (g : History). lives_in role g p ≡ true) whole has.lives) in
      let grows_more = begun_in-append role (event k ∷ []) newest.before in
      record {
        before = newest.before;
        made = record {
          legal = legal.0;
          extends = parts.1;
          lived = has.lived;
          lives = lived_before;
          made = newest.own_before;
        };
        legal = legal;
        since = record {
          legal = has.legal;
          extends = (newest.since, newest.parts);
          lived = lives_in-before pages facts newest.since (event k ∷ newest.before) p
              (subst (IsLegal facts) newest.parts has.legal) (omega arith)
              (subst (λ (g : History). lives_in role g p ≡ true) newest.parts has.lives);
          lives = has.lives;
          own_same =
              has.made ∙ after-steps p ks (k ∷ []) (own earlier p) ∙ ap (λ es. event k ∷ es) (sym newest.own_before)
              ∙ sym (own-mine (event k) newest.before p refl);
        };
      }

  -- nothing was made yet
  pub made-nothing : (later earlier : History) → HasMade facts later earlier p [] → GoesOnWithout facts later earlier p
  made-nothing later earlier has =
      record { legal = has.legal; extends = has.extends; lived = has.lived; lives = has.lives; own_same = has.made }

  pub made-agrees : (earlier : History) → p ≢ 0 → IsLegal facts earlier → (done : List Step) (later : History)
      → HasMade facts later earlier p done → Agrees later (after p done earlier)
  made-agrees earlier some legal = by_last
      (λ done. (later : History) → HasMade facts later earlier p done → Agrees later (after p done earlier))
      (λ later has. Agrees-goes_on later earlier earlier (made-nothing later earlier has) legal (Agrees-same earlier))
      (λ ks k before later has.
      let last = made-last later earlier ks k has in
      subst (Agrees later) (sym (after-steps p ks (k ∷ []) earlier))
      (Agrees-goes_on later (event k ∷ last.before) (event k ∷ after p ks earlier) last.since last.legal
      (Agrees-next some last.before (after p ks earlier) k (before last.before last.made))))
