-- For other crates too: what a pass makes among the events of others it makes in a row of its own.
use Rattle.std.proofs.Common.{◌≡◌, ℕ, List, [], ◌∷◌, ◌++◌, refl, sym, ap, subst, ◌∙◌, append_assoc, append-nil}
use Rattle.std.specs.Prelude.{None, Option, Some}
use Rattle.vms_calls.specs.PageCalls.{IsPageCall}
use Rattle.vms_calls.specs.declared.page_calls.PageCall.{PageCall}
use Rattle.vms_world.specs.Common.{Step, pages, Act, CallSteps, Header, Lane, MakesActs, PageSteps, State, ZoneSize}
use Rattle.vms_world.specs.Common.{act as one_act, after, facts_of, own, owner_of, page_call}
use Rattle.vms_core.specs.Pages.{History}
use Rattle.vms_history.proofs.Common.{after-append, after-steps, own-append, own-on_top, prefix_is_legal}
use Rattle.vms_history.proofs.Own.{own-own}
use Rattle.vms_world.specs.Lanes.MakesActs.{none as no_act}
use Rattle.vms_written.specs.Common.{GoesAlong}
use Rattle.vms_written.specs.OpenPhases.GoesAlong.{between, within as stands_within}
use Rattle.vms_own_acts.specs.Common.{Along, IsHistoryFor, MakesInRow}
use Rattle.vms_own_acts.specs.Along.AlongAct.{within}
use Rattle.vms_own_acts.proofs.OwnPeaks.{alike-own, alone-before}
use Rattle.vms_own_acts.proofs.Rows.{along-here, along-row, row-after, row-last}
use Rattle.vms_own_acts.proofs.SameCalls.{AreAlike, alike-back, call-alike}
use Rattle.vms_own_acts.proofs.StepLists.{cut}

module _ (header : Header) (base : State) (pressure normal : ZoneSize → ℕ → ℕ → Type 0) (lane : Lane) (p : ℕ) where
  abbrev makes : Act → History → List Step → Type 0
  makes = PageSteps header base pressure normal lane p

  abbrev IsFor : History → Type 0
  IsFor h = IsHistoryFor header base lane p h

  pub for-before : (m h : History) → IsFor (m ++ h) → IsFor h
  for-before m h is = record {
    legal = prefix_is_legal pages (facts_of header base) m h is.legal;
    alone = λ control. alone-before (facts_of header base) p m h is.legal (is.alone control);
  }

  pub for-alike : (h : History) → IsFor h → owner_of lane ≡ None → AreAlike (facts_of header base) h (own h p)
  for-alike h is control = alike-own (facts_of header base) p h is.legal (is.alone control)

  -- an act makes the same steps in histories that are alike
  calls-alike : (found : Option PageCall) (h k : History) (steps : List Step)
      → (owner_of lane ≡ None → AreAlike (facts_of header base) h k)
      → CallSteps (λ call ks told. IsPageCall header base pressure normal call (owner_of lane) p h ks told) found steps
      → CallSteps (λ call ks told. IsPageCall header base pressure normal call (owner_of lane) p k ks told) found steps
  calls-alike None h k steps alike made = made
  calls-alike (Some call) h k steps alike made =
      (made.0, call-alike header base pressure normal p call (owner_of lane) made.0 h k steps alike made.1)

  pub steps-own : (next : Act) (h : History) (steps : List Step) → IsFor h → makes next h steps
      → makes next (own h p) steps
  steps-own next h steps is making = calls-alike (page_call lane next) h (own h p) steps (for-alike h is) making

  pub steps-of_own : (next : Act) (h : History) (steps : List Step) → IsFor h → makes next (own h p) steps
      → makes next h steps
  steps-of_own next h steps is making = calls-alike (page_call lane next) (own h p) h steps
      (λ control. alike-back (facts_of header base) h (own h p) (for-alike h is control)) making

  -- from acts among the events of others to a row
  pub row-of_acts : (acts : List Act) (h : History) → IsFor h → MakesActs makes p acts h
      → MakesInRow makes p acts [] (own h p)
  row-of_acts acts h is (no_act same nothing) = sym nothing
  row-of_acts acts h is (one_act before next h' more steps made making own_is) =
      let earlier = for-before more h' is in
      subst (λ to. MakesInRow makes p (before ++ next ∷ []) [] to) (sym own_is)
      (row-last makes p before [] (own h' p) next steps (row-of_acts before h' earlier made)
      (steps-own next h' steps earlier making))

  -- others go on
  acts-later : (acts : List Act) (m h : History) → own (m ++ h) p ≡ own h p → MakesActs makes p acts h
      → MakesActs makes p acts (m ++ h)
  acts-later acts m h same (no_act h' nothing) = no_act (m ++ h') (same ∙ nothing)
  acts-later acts m h same (one_act before next h' more steps made making own_is) =
      subst (λ g. MakesActs makes p (before ++ next ∷ []) g) (append_assoc m more h')
      (one_act before next h' (m ++ more) steps made making
      (ap (λ (es : History). own es p) (append_assoc m more h') ∙ same ∙ own_is))

  -- own events that follow others' stand in the whole after a part of it
  record Parts (m h : History) (steps rest : List Step) : Type 0 where
    pub later : History
    pub earlier : History
    pub in_order : m ++ h ≡ later ++ (earlier ++ h)
    pub mid : own (earlier ++ h) p ≡ after p steps (own h p)

  parts-of : (m h : History) (steps rest : List Step) → own (m ++ h) p ≡ after p rest (after p steps (own h p))
      → Parts m h steps rest
  parts-of m h steps rest is =
      let mine : own m p ≡ after p rest [] ++ after p steps [] =
      own-on_top m h p (steps ++ rest) (is ∙ sym (after-steps p steps rest (own h p)))
      ∙ after-steps p steps rest [] ∙ after-append p rest [] (after p steps []) in
      let found = cut m p (after p rest []) (after p steps []) mine in
      record {
        later = found.later;
        earlier = found.earlier;
        in_order = ap (λ (es : History). es ++ h) found.parts ∙ append_assoc found.later found.earlier h;
        mid = own-append found.earlier h p ∙ ap (λ (es : History). es ++ own h p) found.earlier_own
            ∙ sym (after-append p steps [] (own h p));
      }

  -- and from a row back
  pub acts-of_row : (made acts : List Act) (h m : History) → IsFor (m ++ h) → MakesActs makes p made h
      → MakesInRow makes p acts (own h p) (own (m ++ h) p) → MakesActs makes p (made ++ acts) (m ++ h)
  acts-of_row made [] h m is begun row =
      subst (λ acts. MakesActs makes p acts (m ++ h)) (sym (append-nil made)) (acts-later made m h (sym row) begun)
  acts-of_row made (next ∷ acts) h m is begun row =
      let more = row-after makes p acts (after p row.0 (own h p)) (own (m ++ h) p) row.2 in
      let parts = parts-of m h row.0 more.0 more.1 in
      let is' : IsFor (parts.later ++ (parts.earlier ++ h)) = subst (λ g. IsFor g) parts.in_order is in
      let now : MakesActs makes p (made ++ next ∷ []) (parts.earlier ++ h) =
      one_act made next h parts.earlier row.0 begun (steps-of_own next h row.0 (for-before m h is) row.1) parts.mid in
      let left : MakesInRow makes p acts (own (parts.earlier ++ h) p) (own (parts.later ++ (parts.earlier ++ h)) p) =
      subst (λ from. MakesInRow makes p acts from (own (parts.later ++ (parts.earlier ++ h)) p)) (sym parts.mid)
      (subst (λ g. MakesInRow makes p acts (after p row.0 (own h p)) (own g p)) parts.in_order row.2) in
      subst (λ acts'. MakesActs makes p acts' (m ++ h)) (append_assoc made (next ∷ []) acts)
      (subst (λ g. MakesActs makes p ((made ++ next ∷ []) ++ acts) g) (sym parts.in_order)
      (acts-of_row (made ++ next ∷ []) acts (parts.earlier ++ h) parts.later is' now left))

  pub acts-of_whole_row : (acts : List Act) (h : History) → IsFor h → MakesInRow makes p acts [] (own h p)
      → MakesActs makes p acts h
  acts-of_whole_row acts h is row =
      subst (λ g. MakesActs makes p acts g) (append-nil h)
      (acts-of_row [] acts [] h (subst (λ g. IsFor g) (sym (append-nil h)) is) (no_act [] refl)
      (subst (λ g. MakesInRow makes p acts [] (own g p)) (sym (append-nil h)) row))

  -- a pass's own events alone make the same acts
  pub acts-own : (acts : List Act) (h : History) → IsFor h → MakesActs makes p acts h → MakesActs makes p acts (own h p)
  acts-own acts h is (no_act h' nothing) = no_act (own h' p) (own-own h' p ∙ nothing)
  acts-own acts h is (one_act before next h' more steps made making own_is) =
      let earlier = for-before more h' is in
      subst (λ g. MakesActs makes p (before ++ next ∷ []) g) (sym (own-append more h' p))
      (one_act before next (own h' p) (own more p) steps (acts-own before h' earlier made)
      (steps-own next h' steps earlier making)
      (ap (λ (es : History). own es p) (sym (own-append more h' p)) ∙ own-own (more ++ h') p ∙ own_is
      ∙ ap (after p steps) (sym (own-own h' p))))

  -- an earlier part of own events is one of own events
  own-part : (m g h : History) → own h p ≡ m ++ g → own g p ≡ g
  own-part m g h is =
      let found = cut h p m g is in
      ap (λ (es : History). own es p) (sym found.earlier_own) ∙ own-own found.earlier p ∙ found.earlier_own

  row-of_own : (acts : List Act) (m g h : History) → own h p ≡ m ++ g → MakesActs makes p acts g
      → MakesInRow makes p acts [] g
  row-of_own acts m g h is (no_act g' nothing) = sym nothing ∙ own-part m g' h is
  row-of_own acts m g h is (one_act before next g' more steps made making own_is) =
      let deeper : own h p ≡ (m ++ more) ++ g' = is ∙ sym (append_assoc m more g') in
      let whole : more ++ g' ≡ after p steps g' =
      sym (own-part m (more ++ g') h is) ∙ own_is ∙ ap (after p steps) (own-part (m ++ more) g' h deeper) in
      subst (λ to. MakesInRow makes p (before ++ next ∷ []) [] to) (sym whole)
      (row-last makes p before [] g' next steps (row-of_own before (m ++ more) g' h deeper made) making)

  pub acts-of_own : (acts : List Act) (h : History) → IsFor h → MakesActs makes p acts (own h p)
      → MakesActs makes p acts h
  acts-of_own acts h is made = acts-of_whole_row acts h is (row-of_own acts [] (own h p) h refl made)

  -- own events that go along acts among those of others do so alone
  pub along-of : (acts : List Act) (h : History) → IsFor h → GoesAlong makes p acts h
      → Along makes p acts [] (own h p)
  along-of acts h is (between made left parts made_is) =
      subst (λ acts'. Along makes p acts' [] (own h p)) (sym parts)
      (along-row makes p made left [] (own h p) (own h p) (row-of_acts made h is made_is)
      (along-here makes p left (own h p) (own h p) refl))
  along-of acts h is (stands_within made left next before more begun due parts later made_is making own_is) =
      let earlier : IsFor before = for-before more before (subst (λ g. IsFor g) later is) in
      subst (λ acts'. Along makes p acts' [] (own h p)) (sym parts)
      (along-row makes p made (next ∷ left) [] (own before p) (own h p) (row-of_acts made before earlier made_is)
      (within begun due (steps-own next before (begun ++ due) earlier making) own_is))

  -- a pass that made acts in a row and then stands within the next one goes along them
  within_at : (made left : List Act) (next : Act) (begun due : List Step) (mid later earlier h : History) → IsFor h
      → h ≡ later ++ earlier → own earlier p ≡ mid → MakesInRow makes p made [] mid → makes next mid (begun ++ due)
      → own h p ≡ after p begun mid → GoesAlong makes p (made ++ next ∷ left) h
  within_at made left next begun due mid later earlier h is whole mid_is row making own_is =
      let first : IsFor earlier = for-before later earlier (subst (λ g. IsFor g) whole is) in
      stands_within made left next earlier later begun due refl whole
      (acts-of_whole_row made earlier first (subst (λ to. MakesInRow makes p made [] to) (sym mid_is) row))
      (steps-of_own next earlier (begun ++ due) first
      (subst (λ from. makes next from (begun ++ due)) (sym mid_is) making))
      (own_is ∙ ap (after p begun) (sym mid_is))

  pub goes_within : (made left : List Act) (next : Act) (begun due : List Step) (mid h : History) → IsFor h
      → MakesInRow makes p made [] mid → makes next mid (begun ++ due) → own h p ≡ after p begun mid
      → GoesAlong makes p (made ++ next ∷ left) h
  goes_within made left next begun due mid h is row making own_is =
      let first = row-after makes p made [] mid row in by first.0 first.1
    where
      at : (steps : List Step) → mid ≡ after p steps [] → Parts h [] steps begun
          → GoesAlong makes p (made ++ next ∷ left) h
      at steps mid_is parts = within_at made left next begun due mid parts.later (parts.earlier ++ []) h is
          (sym (append-nil h) ∙ parts.in_order) (parts.mid ∙ sym mid_is) row making own_is

      by : (steps : List Step) → mid ≡ after p steps [] → GoesAlong makes p (made ++ next ∷ left) h
      by steps mid_is = at steps mid_is (parts-of h [] steps begun
          (ap (λ (es : History). own es p) (append-nil h) ∙ own_is ∙ ap (after p begun) mid_is))
