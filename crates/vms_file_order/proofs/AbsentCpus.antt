-- For other crates too: a CPU goes absent in a phase by a line that buries it, and by no other.
use Rattle.std.proofs.Common.{◌≡◌, ℕ, zero, suc, ◌<◌, ◌≤◌, nat_eq, Bool, true, false, List, [], ◌∷◌, ◌++◌, length, Some}
use Rattle.std.proofs.Common.{None, inl, inr, ◌⊎◌, refl, sym, ap, subst, ◌∙◌, arith, eq-eqb, eqb-true, append_assoc}
use Rattle.std.proofs.Common.{if◌then◌else◌}
use Rattle.std.specs.List.{Contains}
use Rattle.std.proofs.lemmas.List.Elements.{Contains-append_left, Contains-push}
use Rattle.vms_world.specs.Common.{Header, CpuId, CpuState, Absent, ZoneSize, Event, after, own, begun_in, owner_in}
use Rattle.vms_world.specs.Common.{State, Facts, Step, SetO, cpu_at, pages, cpu_after, cpu_in, facts_of, Buries, Act}
use Rattle.vms_world.specs.Common.{Item, Lane, Control, PageSteps, HasLanes, MakesActs, MakesLines, acts_of, is_among}
use Rattle.vms_world.specs.Common.{lane_at, lanes_of, act as one_act, TableHistories, left_by, page_facts, page_call}
use Rattle.vms_history.proofs.Common.{own-append, own-mine, live_is_given, owner_in-append, begun_in-append}
use Rattle.vms_history.proofs.Common.{prefix_is_legal}
use Rattle.vms_core.specs.Pages.{History, IsLegal}
use Rattle.vms_core.specs.Steps.{role}
use Rattle.vms_core.proofs.Common.{laws-kept}
use Rattle.vms_calls.specs.PageCalls.{IsPageCall}
use Rattle.vms_calls.specs.declared.page_calls.PageAnswer.{PageAnswer}
use Rattle.vms_calls.specs.declared.page_calls.PageCall.{PageCall}
use Rattle.vms_calls.specs.declared.page_calls.PageCall.TheVariants.{Bury}
use Rattle.vms_calls.proofs.Common.{Each, OfFolds, OfLooks, OfRatings}
use Rattle.vms_calls.proofs.PageCalls.{page-each}
use Rattle.vms_world.proofs.PageActs.{act-by_call, buries-burial, burial-steps, control-no_change}
use Rattle.vms_text.specs.declared.acts.Act.TheVariants.{Dead}
use Rattle.vms_world.specs.declared.worlds.World.{World}
use Rattle.vms_world.specs.Lanes.MakesActs.{none as no_act}
use Rattle.vms_file_order.specs.Common.{AbsentAreBuried, pass_of, MakeInAnyOrder}
use Rattle.vms_file_order.proofs.LaneLists.{owner_of-injective}
use Rattle.vms_file_order.proofs.MadeActs.{MadeAct, MakesActs-lane, StandsIn, each-made, step-made}

-- a step that doesn't make CPU c absent
abbrev Stays : ℕ → Step → Type 0
Stays c (SetO d) = nat_eq d.number c ≡ false
Stays c _ = Unit {0}

stays-looks : (c : ℕ) → OfLooks (Stays c)
stays-looks c = record {
  value = λ k v. tt;
  system = λ i v. tt;
  group = λ d j w. tt;
  mark = λ g m a. tt;
  cpu = λ d x. tt;
}

stays-ratings : (c : ℕ) → OfRatings (Stays c)
stays-ratings c = record {
  looks = stays-looks c;
  acknowledged = λ d g x. tt;
  threshold = λ d g t. tt;
  set_mark = λ g m. tt;
}

stays-folds : (c : ℕ) → OfFolds (Stays c)
stays-folds c = record {
  threshold = λ g t a. tt;
  take = λ d j w. tt;
  place = λ k z. tt;
  system = λ i z. tt;
  acknowledge = λ g a. tt;
}

-- whether a call buries CPU c
abbrev buries_cpu : PageCall → ℕ → Bool
buries_cpu (Bury d) c = nat_eq d.number c
buries_cpu _ c = false

buries-which : (call : PageCall) (c : CpuId) → buries_cpu call c.number ≡ true → call ≡ Bury c
buries-which (Bury d) c same =
    ap (λ n. let cpu : CpuId = record { number = n } in Bury cpu) (eqb-true d.number c.number same)
buries-which _ c same = absurd cc

-- of the acts of the control lane, the burial of a CPU alone makes it absent
module _ (header : Header) (base : State) (pressure normal : ZoneSize → ℕ → ℕ → Type 0) (c : CpuId) where
  act-stays : (p : ℕ) (a : Act) (h : History) (steps : List Step)
      → PageSteps header base pressure normal Control p a h steps → (a ≡ Dead c) ⊎ Each (Stays c.number) steps
  act-stays p a h steps makes =
      act-by_call header base pressure normal Control p a h steps (λ made ks. (a ≡ Dead c) ⊎ Each (Stays c.number) ks)
      (inr tt) of_call makes
    where
      of_call : (call : PageCall) (told : PageAnswer) → page_call Control a ≡ Some call
          → IsPageCall header base pressure normal call None p h steps told
          → (a ≡ Dead c) ⊎ Each (Stays c.number) steps
      of_call call told on is = by (buries_cpu call c.number) refl
        where
          by : (b : Bool) → buries_cpu call c.number ≡ b → (a ≡ Dead c) ⊎ Each (Stays c.number) steps
          by true same =
              inl (buries-burial Control a c (on ∙ ap (λ (made : PageCall). Some made) (buries-which call c same))).1
          by false other = inr (page-each (Stays c.number) (stays-ratings c.number) (stays-folds c.number) header base
              pressure normal call None p h steps told
              (λ k delta how same. control-no_change a k delta how (on ∙ ap (λ (made : PageCall). Some made) same))
              (λ d same. subst (λ (made : PageCall). buries_cpu made c.number ≡ false) same other) is)

-- so is each of these events
abbrev EachEvent : (Step → Type 0) → History → Type 0
EachEvent Kind [] = Unit {0}
EachEvent Kind (e ∷ h) = Kind e.step × EachEvent Kind h

each-after : (Kind : Step → Type 0) (p : ℕ) (steps : List Step) (h : History) → Each Kind steps → EachEvent Kind h
    → EachEvent Kind (after p steps h)
each-after Kind p [] h all was = was
each-after Kind p (step ∷ steps) h all was =
    each-after Kind p steps (record { caller = p; step = step } ∷ h) all.1 (all.0, was)

each-at : (Kind : Step → Type 0) (since before : History) (e : Event Step) → EachEvent Kind (since ++ (e ∷ before))
    → Kind e.step
each-at Kind [] before e all = all.0
each-at Kind (d ∷ since) before e all = each-at Kind since before e all.1

module _ (header : Header) (base : State) (pressure normal : ZoneSize → ℕ → ℕ → Type 0) (c : CpuId) (p : ℕ) where
  acts-stay : (acts : List Act) (h : History) → MakesActs (PageSteps header base pressure normal Control p) p acts h
      → Contains acts (Dead c) ⊎ EachEvent (Stays c.number) (own h p)
  acts-stay acts h (no_act h' nothing) = inr (subst (EachEvent (Stays c.number)) (sym nothing) tt)
  acts-stay acts h (one_act earlier next h' more steps made making own_is) = by (acts-stay earlier h' made)
      (act-stays header base pressure normal c p next h' steps making)
    where
      by : Contains earlier (Dead c) ⊎ EachEvent (Stays c.number) (own h' p)
          → (next ≡ Dead c) ⊎ Each (Stays c.number) steps
          → Contains (earlier ++ next ∷ []) (Dead c) ⊎ EachEvent (Stays c.number) (own (more ++ h') p)
      by (inl has) new = inl (Contains-append_left earlier (next ∷ []) (Dead c) has)
      by (inr was) (inl buries) = inl (subst (λ (a : Act). Contains (earlier ++ a ∷ []) (Dead c)) (sym buries)
          (Contains-push earlier (Dead c)))
      by (inr was) (inr all) = inr (subst (EachEvent (Stays c.number)) (sym own_is)
          (each-after (Stays c.number) p steps (own h' p) all was))

-- an event in a history makes CPU c absent
pub record GoesAbsent (c : ℕ) (h : History) : Type 0 where
  pub cpu : CpuId
  pub same : nat_eq cpu.number c ≡ true
  pub caller : ℕ
  pub stands : StandsIn (record { caller = caller; step = SetO cpu }) h

-- a CPU is in the state that it began with, or an event has made it absent
pub cpu_in-either : (facts : Facts) (c : ℕ) (h : History) → (cpu_in facts c h ≡ cpu_at facts.base c) ⊎ GoesAbsent c h
cpu_in-either facts c [] = inl refl
cpu_in-either facts c (e ∷ h) = by e.step refl (cpu_in-either facts c h)
  where
    later : (cpu_in facts c h ≡ cpu_at facts.base c) ⊎ GoesAbsent c h
        → (cpu_in facts c h ≡ cpu_at facts.base c) ⊎ GoesAbsent c (e ∷ h)
    later (inl stays) = inl stays
    later (inr goes) = inr (record {
      cpu = goes.cpu;
      same = goes.same;
      caller = goes.caller;
      stands = record {
        since = e ∷ goes.stands.since;
        before = goes.stands.before;
        parts = ap (λ es. e ∷ es) goes.stands.parts;
      };
    })

    by : (step : Step) → e.step ≡ step → (cpu_in facts c h ≡ cpu_at facts.base c) ⊎ GoesAbsent c h
        → (cpu_after c step (cpu_in facts c h) ≡ cpu_at facts.base c) ⊎ GoesAbsent c (e ∷ h)
    by (SetO d) is rest = at (nat_eq d.number c) refl
      where
        at : (b : Bool) → nat_eq d.number c ≡ b
            → ((if b then Absent else cpu_in facts c h) ≡ cpu_at facts.base c) ⊎ GoesAbsent c (e ∷ h)
        at true same = inr (record {
          cpu = d;
          same = same;
          caller = e.caller;
          stands = record {
            since = [];
            before = h;
            parts = ap (λ (step : Step). let event : Event Step = record { caller = e.caller; step = step } in
                event ∷ h) is;
          };
        })
        at false other = later rest
    by _ is rest = later rest

-- it stays absent
cpu_after-absent : (c : ℕ) (step : Step) (x : CpuState) → x ≡ Absent → cpu_after c step x ≡ Absent
cpu_after-absent c (SetO d) x gone = by (nat_eq d.number c)
  where
    by : (b : Bool) → (if b then Absent else x) ≡ Absent
    by true = refl
    by false = gone
cpu_after-absent c _ x gone = gone

cpu_in-later : (facts : Facts) (c : ℕ) (more h : History) → cpu_in facts c h ≡ Absent
    → cpu_in facts c (more ++ h) ≡ Absent
cpu_in-later facts c [] h gone = gone
cpu_in-later facts c (e ∷ more) h gone =
    cpu_after-absent c e.step (cpu_in facts c (more ++ h)) (cpu_in-later facts c more h gone)

pub cpu_in-absent : (facts : Facts) (c : ℕ) (h : History) → GoesAbsent c h → cpu_in facts c h ≡ Absent
cpu_in-absent facts c h goes =
    let e : Event Step = record { caller = goes.caller; step = SetO goes.cpu } in
    ap (cpu_in facts c) goes.stands.parts
    ∙ cpu_in-later facts c goes.stands.since (e ∷ goes.stands.before)
    (ap (λ b. if b then Absent else cpu_in facts c goes.stands.before) goes.same)

-- a legal history in which the passes of these lanes make these lines
module _ (pressure normal : ZoneSize → ℕ → ℕ → Type 0) (header : Header) (w : World) (lanes : List Lane)
    (items : List Item) (h : History) (legal : IsLegal (page_facts header w) h) (has : HasLanes role lanes h)
    (lines : MakesLines (PageSteps header w.pages pressure normal) lanes items h) where
  abbrev facts : Facts
  facts = page_facts header w

  -- the pass that makes a CPU absent is the control lane's
  pub absent-by_line : (c : CpuId) → GoesAbsent c.number h → Contains (acts_of Control items) (Dead c)
  absent-by_line c goes = at goes.caller refl (live_is_given pages facts before q legal_before made.1.1)
    where
      q : ℕ
      q = goes.caller

      e : Event Step
      e = record { caller = goes.caller; step = SetO goes.cpu }

      before : History
      before = goes.stands.before

      since : History
      since = goes.stands.since

      whole : IsLegal facts (since ++ (e ∷ before))
      whole = subst (IsLegal facts) goes.stands.parts legal

      made : IsLegal facts (e ∷ before)
      made = prefix_is_legal pages facts since (e ∷ before) whole

      legal_before : IsLegal facts before
      legal_before = made.0

      parts : (since ++ e ∷ []) ++ before ≡ since ++ (e ∷ before)
      parts = append_assoc since (e ∷ []) before

      at : (r : ℕ) → q ≡ r → (0 < q) × (q ≤ begun_in role before) → Contains (acts_of Control items) (Dead c)
      at zero is given = absurd (omega (arith, is, given.0))
      at (suc n) is given = by
          (acts-stay header w.pages pressure normal c (suc n) (acts_of Control items) h
          (subst (λ (l : Lane). MakesActs (PageSteps header w.pages pressure normal l (suc n)) (suc n) (acts_of l items)
          h) control (lines n below)))
        where
          grows : begun_in role before ≤ begun_in role h
          grows = subst (λ g. begun_in role before ≤ begun_in role g) (parts ∙ sym goes.stands.parts)
              (begun_in-append role (since ++ e ∷ []) before)

          below : n < length lanes
          below = omega (arith, is, given.1, grows, has.one_each)

          owner : owner_in role h (suc n) ≡ None
          owner = ap (owner_in role h) (sym is)
              ∙ ap (λ g. owner_in role g q) (goes.stands.parts ∙ sym parts)
              ∙ owner_in-append pages facts (since ++ e ∷ []) before q (subst (IsLegal facts) (sym parts) whole) given.1
              ∙ made.2.control

          control : lane_at lanes n ≡ Control
          control = owner_of-injective (lane_at lanes n) Control (sym (has.owners n below) ∙ owner)

          own_parts : own h (suc n) ≡ own since (suc n) ++ (e ∷ own before (suc n))
          own_parts = ap (λ g. own g (suc n)) goes.stands.parts ∙ own-append since (e ∷ before) (suc n)
              ∙ ap (λ es. own since (suc n) ++ es) (own-mine e before (suc n) is)

          by : Contains (acts_of Control items) (Dead c) ⊎ EachEvent (Stays c.number) (own h (suc n))
              → Contains (acts_of Control items) (Dead c)
          by (inl buries) = buries
          by (inr all) =
              let stays = each-at (Stays c.number) (own since (suc n)) (own before (suc n)) e
              (subst (EachEvent (Stays c.number)) own_parts all) in
              let both : true ≡ false = sym goes.same ∙ stays in
              absurd cc

  -- a line of the control lane that buries a CPU has made it absent
  pub line-makes_absent : is_among Control lanes ≡ true → (c : CpuId) → Contains (acts_of Control items) (Dead c)
      → GoesAbsent c.number h
  line-makes_absent among c buries =
      at p act (burial-steps header w.pages pressure normal p c act.before act.steps act.making)
    where
      makes : Lane → ℕ → Act → History → List Step → Type 0
      makes = PageSteps header w.pages pressure normal

      p : ℕ
      p = pass_of lanes Control

      act : MadeAct (makes Control p) p (Dead c) h
      act = each-made (makes Control p) p (acts_of Control items) h
          (MakesActs-lane makes lanes items h Control lines among) (Dead c) buries

      at : (q : ℕ) (act : MadeAct (PageSteps header w.pages pressure normal Control q) q (Dead c) h)
          → Buries (facts_of header w.pages) normal c q act.before act.steps → GoesAbsent c.number h
      at q act making = record {
        cpu = c;
        same = eq-eqb c.number c.number refl;
        caller = q;
        stands = step-made (PageSteps header w.pages pressure normal Control q) q (Dead c) h act making.fold (SetO c)
            making.refresh making.in_order;
      }

module _ (pressure normal : ZoneSize → ℕ → ℕ → Type 0) (header : Header) (w : World) (items : List Item)
    (hs : TableHistories) (phase : MakeInAnyOrder header pressure normal w items hs) where
  pub AbsentAreBuried-made : AbsentAreBuried header w items (left_by header w items hs)
  AbsentAreBuried-made c c_in gone = by (cpu_in-either (page_facts header w) c.number hs.pages)
    where
      is : cpu_in (page_facts header w) c.number hs.pages ≡ Absent
      is = sym ((laws-kept (page_facts header w) hs.pages phase.complete.pages.legal).told_cpus c.number c_in) ∙ gone

      by : (cpu_in (page_facts header w) c.number hs.pages ≡ cpu_at w.pages c.number) ⊎ GoesAbsent c.number hs.pages
          → (cpu_at w.pages c.number ≡ Absent) ⊎ Contains (acts_of Control items) (Dead c)
      by (inl stays) = inl (sym stays ∙ is)
      by (inr goes) = inr (absent-by_line pressure normal header w (lanes_of header.layout items) items hs.pages
          phase.complete.pages.legal phase.page_lanes phase.page_lines c goes)
