-- For other crates too: what a step of the pass makes of the call that is under way.
use Rattle.std.proofs.Common.{◌≡◌, ℕ, ◌↔◌, List, [], ◌∷◌, ◌++◌, refl, sym, ap, subst, ◌∙◌, append_assoc, append-nil}
use Rattle.std.specs.Prelude.{None, Option, Some}
use Rattle.vms_calls.specs.PageCalls.{IsPageCall}
use Rattle.vms_calls.specs.declared.page_calls.PageAnswer.{PageAnswer}
use Rattle.vms_calls.specs.declared.page_calls.PageCall.{PageCall}
use Rattle.vms_world.specs.Common.{Step, Act, Header, Lane, PageSteps, State, ZoneSize, after, owner_of, page_call}
use Rattle.vms_core.specs.Pages.{History}
use Rattle.vms_history.proofs.Common.{after-steps}
use Rattle.vms_plans.specs.Common.{Plan, PlansAreCalls, Runs, plan_of}
use Rattle.vms_own_acts.specs.Common.{Along, MakesInRow, IsFunction, IsUnderWay}
use Rattle.vms_own_acts.specs.Along.AlongAct.{here, past, within}
use Rattle.vms_own_acts.proofs.Acts.{call-made, made-call, made-nothing, one-act}
use Rattle.vms_own_acts.proofs.Rows.{along-after, row-after, row-last}
use Rattle.vms_own_acts.proofs.StepLists.{OneBegins, after-injective, nothing_first, nothing_last, one_begins}
use Rattle.vms_own_acts.proofs.StepLists.OneBegins.{first_longer, second_longer}

module _ (header : Header) (base : State) (pressure normal : ZoneSize → ℕ → ℕ → Type 0) (lane : Lane) (p : ℕ) where
  abbrev makes : Act → History → List Step → Type 0
  makes = PageSteps header base pressure normal lane p

  abbrev UnderWay : List Act → Act → Plan PageAnswer → History → Type 0
  UnderWay made next plan mine = IsUnderWay header base pressure normal lane p made next plan mine

  -- the same runs through two plans
  abbrev IsSame : Plan PageAnswer → Plan PageAnswer → Type 0
  IsSame plan other = (steps : List Step) (told : PageAnswer) → Runs plan steps told ↔ Runs other steps told

  -- an act that makes no call is made by no steps
  pub row-passed : (made : List Act) (next : Act) (mine : History) → page_call lane next ≡ None
      → MakesInRow makes p made [] mine → MakesInRow makes p (made ++ next ∷ []) [] mine
  row-passed made next mine none row = row-last makes p made [] mine next [] row
      (made-nothing header base pressure normal lane p (page_call lane next) mine none)

  -- a call begins
  pub way-begins : PlansAreCalls pressure normal → (made : List Act) (next : Act) (call : PageCall)
      (plan : Plan PageAnswer) (mine : History) → page_call lane next ≡ Some call → MakesInRow makes p made [] mine
      → IsSame (plan_of header base pressure normal call (owner_of lane) p mine) plan → UnderWay made next plan mine
  way-begins plans made next call plan mine is row same = record {
    call = call;
    makes_call = is;
    before = mine;
    made_before = row;
    begun = [];
    in_order = refl;
    left = λ steps told.
        let runs = plans header base call (owner_of lane) p mine steps told in
        ((λ made. (same steps told).0 (runs.0 made)), (λ run. runs.1 ((same steps told).1 run)));
  }

  -- another plan is the same
  pub way-same : (made : List Act) (next : Act) (plan other : Plan PageAnswer) (mine : History) → IsSame plan other
      → UnderWay made next plan mine → UnderWay made next other mine
  way-same made next plan other mine same at = record {
    call = at.call;
    makes_call = at.makes_call;
    before = at.before;
    made_before = at.made_before;
    begun = at.begun;
    in_order = at.in_order;
    left = λ steps told. (
      (λ made. (same steps told).0 ((at.left steps told).0 made)),
      (λ run. (at.left steps told).1 ((same steps told).1 run)),
    );
  }

  -- the call goes on
  pub way-on : (made : List Act) (next : Act) (plan later : Plan PageAnswer) (mine : History) (k : Step)
      → ((steps : List Step) (told : PageAnswer) → Runs plan (k ∷ steps) told ↔ Runs later steps told)
      → UnderWay made next plan mine → UnderWay made next later (after p (k ∷ []) mine)
  way-on made next plan later mine k goes at = record {
    call = at.call;
    makes_call = at.makes_call;
    before = at.before;
    made_before = at.made_before;
    begun = at.begun ++ k ∷ [];
    in_order = ap (after p (k ∷ [])) at.in_order ∙ sym (after-steps p at.begun (k ∷ []) at.before);
    left = λ steps told.
        let parts : (at.begun ++ k ∷ []) ++ steps ≡ at.begun ++ (k ∷ steps) = append_assoc at.begun (k ∷ []) steps in (
          (λ made. (goes steps told).0 ((at.left (k ∷ steps) told).0 (subst (λ ks.
              IsPageCall header base pressure normal at.call (owner_of lane) p at.before ks told) parts made))),
          (λ run. subst (λ ks.
              IsPageCall header base pressure normal at.call (owner_of lane) p at.before ks told) (sym parts)
              ((at.left (k ∷ steps) told).1 ((goes steps told).1 run))),
        );
  }

  -- the call has ended
  pub way-ended : (made : List Act) (next : Act) (plan : Plan PageAnswer) (mine : History) (told : PageAnswer)
      → UnderWay made next plan mine → Runs plan [] told → MakesInRow makes p (made ++ next ∷ []) [] mine
  way-ended made next plan mine told at run =
      subst (λ to. MakesInRow makes p (made ++ next ∷ []) [] to) (sym at.in_order)
      (row-last makes p made [] at.before next at.begun at.made_before
      (call-made header base pressure normal lane p (page_call lane next) at.call at.before at.begun told at.makes_call
      (subst (λ ks. IsPageCall header base pressure normal at.call (owner_of lane) p at.before ks told)
      (append-nil at.begun) ((at.left [] told).1 run))))

  module _ (plans : PlansAreCalls pressure normal) (is_p : IsFunction pressure) (is_n : IsFunction normal)
      (made : List Act) (next : Act) (plan : Plan PageAnswer) (mine : History) (at : UnderWay made next plan mine)
      (ends : (steps : List Step) × (told : PageAnswer) × Runs plan steps told) where
    -- the steps that were made and some that end the call
    whole : makes next at.before (at.begun ++ ends.0)
    whole = call-made header base pressure normal lane p (page_call lane next) at.call at.before (at.begun ++ ends.0)
        ends.1 at.makes_call ((at.left ends.0 ends.1).1 ends.2)

    left-runs : (steps : List Step) → makes next at.before (at.begun ++ steps)
        → (told : PageAnswer) × Runs plan steps told
    left-runs steps making =
        let found = made-call header base pressure normal lane p (page_call lane next) at.call at.before
        (at.begun ++ steps) at.makes_call making in
        (found.0, (at.left steps found.0).0 found.1)

    -- steps of the whole act that stand at the beginning are all that were made
    complete : (steps rest : List Step) → makes next at.before steps → at.begun ≡ steps ++ rest → at.begun ≡ steps
    complete steps rest making is =
        let longer : makes next at.before (steps ++ (rest ++ ends.0)) =
        subst (λ ks. makes next at.before ks) (ap (λ ks. ks ++ ends.0) is ∙ append_assoc steps rest ends.0) whole in
        let none = one-act header base pressure normal lane p plans is_p is_n next at.before steps (rest ++ ends.0)
        making longer in
        is ∙ ap (λ ks. steps ++ ks) (nothing_first rest ends.0 none) ∙ append-nil steps

    ended : (steps : List Step) → makes next at.before steps → at.begun ≡ steps
        → (told : PageAnswer) × Runs plan [] told
    ended steps making is = left-runs [] (subst (λ ks. makes next at.before ks)
        (sym is ∙ sym (append-nil at.begun)) making)

    -- with a step more the call goes on, or it had ended before
    pub data OnOrOver (k : Step) : Type 0 where
      on : (ks : List Step) (told : PageAnswer) → Runs plan (k ∷ ks) told → OnOrOver k
      over : (told : PageAnswer) → Runs plan [] told → OnOrOver k

    module _ (rest : List Act) (k : Step) where
      all_steps : after p (k ∷ []) mine ≡ after p (at.begun ++ k ∷ []) at.before
      all_steps = ap (after p (k ∷ [])) at.in_order ∙ sym (after-steps p at.begun (k ∷ []) at.before)

      pub on_or_over : Along makes p (next ∷ rest) at.before (after p (k ∷ []) mine) → OnOrOver k
      on_or_over (here same) =
          let none : at.begun ++ k ∷ [] ≡ [] =
          after-injective p (at.begun ++ k ∷ []) [] at.before (sym all_steps ∙ sym same) in
          let nothing = nothing_last at.begun (k ∷ []) none in
          absurd cc
      on_or_over (within begun due making parts) =
          let same : begun ≡ at.begun ++ k ∷ [] =
          after-injective p begun (at.begun ++ k ∷ []) at.before (sym parts ∙ all_steps) in
          let run = left-runs (k ∷ due) (subst (λ ks. makes next at.before ks)
          (ap (λ ks. ks ++ due) same ∙ append_assoc at.begun (k ∷ []) due) making) in
          on due run.0 run.1
      on_or_over (past steps making later) =
          let left = along-after makes p rest (after p steps at.before) (after p (k ∷ []) mine) later in
          let same : at.begun ++ k ∷ [] ≡ steps ++ left.0 =
          after-injective p (at.begun ++ k ∷ []) (steps ++ left.0) at.before
          (sym all_steps ∙ left.1 ∙ sym (after-steps p steps left.0 at.before)) in
          by left.0 (one_begins at.begun (k ∷ []) steps left.0 same)
        where
          by : (left : List Step) → OneBegins at.begun (k ∷ []) steps left → OnOrOver k
          by left (first_longer more is parts) =
              let run = ended steps making (complete steps more making is) in over run.0 run.1
          by left (second_longer [] is parts) =
              let run = ended steps making (sym (is ∙ append-nil at.begun)) in over run.0 run.1
          by left (second_longer (j ∷ more) is parts) =
              let run = left-runs (j ∷ more) (subst (λ ks. makes next at.before ks) is making) in
              let head : j ≡ k = cc in
              on more run.0 (subst (λ s. Runs plan (s ∷ more) run.0)
              head run.1)

    -- where the act and those after it are made, the call has ended
    pub row-over : (rest : List Act) → MakesInRow makes p (next ∷ rest) at.before mine
        → (told : PageAnswer) × Runs plan [] told
    row-over rest row =
        let more = row-after makes p rest (after p row.0 at.before) mine row.2 in
        let same : at.begun ≡ row.0 ++ more.0 =
        after-injective p at.begun (row.0 ++ more.0) at.before
        (sym at.in_order ∙ more.1 ∙ sym (after-steps p row.0 more.0 at.before)) in
        ended row.0 row.1 (complete row.0 more.0 row.1 same)
