-- What the control lane knows of the CPUs' states: an act makes absent whom it buries and no other, whatever others do
-- meanwhile.
use Rattle.std.proofs.Common.{◌≡◌, ℕ, ◌+◌, ◌*◌, ◌≤◌, nat_eq, false, List, [], ◌∷◌, ◌++◌, length, refl, sym, ap, ◌∙◌}
use Rattle.std.proofs.Common.{arith, if◌then◌else◌}
use Rattle.vms_world.specs.Common.{Header, CpuId, CpuState, Absent, ZoneSize, after, facts_of, KnowsByOwnSteps, HasMade}
use Rattle.vms_world.specs.Common.{State, Facts, Step, SetO, cpu_at, IsControl, pages, cpu_after, cpu_in, most_sets}
use Rattle.vms_world.specs.Common.{state_past, Act, Control, PageSteps}
use Rattle.vms_history.proofs.Common.{earlier-legal, after-steps}
use Rattle.vms_calls.proofs.Common.{Each, OfFolds, OfLooks, OfRatings, fold-each, refresh-each}
use Rattle.vms_core.specs.Pages.{History, IsLegal, state_after}
use Rattle.vms_core.proofs.Common.{cpu_at-newest}
use Rattle.vms_text.specs.declared.acts.Act.TheVariants.{Dead}
use Rattle.vms_text.specs.declared.acts.Line.TheVariants.{Lane}
use Rattle.vms_words.specs.Common.{largest_sets}
use Rattle.vms_world.proofs.PageActs.{act-each, burial-steps, control-no_change}
use Rattle.vms_lane.specs.Common.{BuriesTheDead, BuryTheDead, HasControlled, MayControl}

-- a step that leaves the state of CPU c
abbrev Leaves : ℕ → Step → Type 0
Leaves c step = (x : CpuState) → cpu_after c step x ≡ x

leaves-looks : (c : ℕ) → OfLooks (Leaves c)
leaves-looks c = record {
  value = λ k v x. refl;
  system = λ i v x. refl;
  group = λ d j w x. refl;
  mark = λ g m a x. refl;
  cpu = λ d y x. refl;
}

leaves-ratings : (c : ℕ) → OfRatings (Leaves c)
leaves-ratings c = record {
  looks = leaves-looks c;
  acknowledged = λ d g n x. refl;
  threshold = λ d g t x. refl;
  set_mark = λ g m x. refl;
}

leaves-folds : (c : ℕ) → OfFolds (Leaves c)
leaves-folds c = record {
  threshold = λ g t a x. refl;
  take = λ d j w x. refl;
  place = λ k z x. refl;
  system = λ i z x. refl;
  acknowledge = λ g a x. refl;
}

module _ (facts : Facts) (c p : ℕ) where
  -- such steps in a row leave it
  in-row : (steps : List Step) (h : History) → Each (Leaves c) steps
      → cpu_in facts c (after p steps h) ≡ cpu_in facts c h
  in-row [] h each = refl
  in-row (k ∷ ks) h each = in-row ks (record { caller = p; step = k } ∷ h) each.1 ∙ each.0 (cpu_in facts c h)

  -- a burial makes absent whom it buries
  burial-in_row : (d : CpuId) (fold refresh : List Step) (h : History) → Each (Leaves c) fold
      → Each (Leaves c) refresh
      → cpu_in facts c (after p (fold ++ (SetO d ∷ refresh)) h)
      ≡ (if nat_eq d.number c then Absent else cpu_in facts c h)
  burial-in_row d fold refresh h folds refreshes =
      ap (cpu_in facts c) (after-steps p fold (SetO d ∷ refresh) h)
      ∙ in-row refresh (record { caller = p; step = SetO d } ∷ after p fold h) refreshes
      ∙ ap (λ (x : CpuState). if nat_eq d.number c then Absent else x) (in-row fold h folds)

  -- so each act of the control lane in a row makes what its line says
  module _ (header : Header) (base : State) (pressure normal : ZoneSize → ℕ → ℕ → Type 0) where
    act-in_row : (a : Act) (steps : List Step) (h : History)
        → PageSteps header base pressure normal Control p a h steps
        → cpu_in facts c (after p steps h) ≡ state_past c (Lane Control a) (cpu_in facts c h)
    act-in_row (Dead d) steps h makes =
        let buries = burial-steps header base pressure normal p d h steps makes in
        ap (λ (ks : List Step). cpu_in facts c (after p ks h)) buries.in_order
        ∙ burial-in_row d buries.fold buries.refresh h
        (fold-each (Leaves c) (leaves-folds c) header.layout false d buries.fold buries.folds)
        (refresh-each (Leaves c) (leaves-ratings c) (facts_of header base) normal p
        (after p (buries.fold ++ (SetO d ∷ [])) h) buries.refresh buries.refreshes)
    act-in_row a steps h makes =
        in-row steps h (act-each header base pressure normal (Leaves c) (leaves-ratings c) (leaves-folds c) Control p a
        h steps (control-no_change a) (λ d is. absurd cc) makes)

-- the state that stands is the one that the history tells, of any number
pub cpu_at-told : (facts : Facts) (c : ℕ) (h : History) → IsLegal facts h
    → cpu_at (state_after facts h) c ≡ cpu_in facts c h
cpu_at-told facts c [] legal = refl
cpu_at-told facts c (e ∷ h) legal =
    cpu_at-newest facts e h legal c ∙ ap (cpu_after c e.step) (cpu_at-told facts c h legal.0)

-- an act that the control pass made while others acted
pub cpus-controlled : KnowsByOwnSteps → (header : Header) (base : State)
    (pressure normal : ZoneSize → ℕ → ℕ → Type 0) (facts : Facts) (later earlier : History) (p : ℕ) (a : Act)
    (steps : List Step) → HasMade facts later earlier p steps → IsControl earlier p
    → PageSteps header base pressure normal Control p a earlier steps → (c : ℕ)
    → cpu_at (state_after facts later) c
    ≡ state_past c (Lane Control a) (cpu_at (state_after facts earlier) c)
cpus-controlled know header base pressure normal facts later earlier p a steps made control makes c =
    cpu_at-told facts c later made.legal
    ∙ (know facts later earlier p steps made control).cpus c
    ∙ act-in_row facts c p header base pressure normal a steps earlier makes
    ∙ ap (state_past c (Lane Control a))
    (sym (cpu_at-told facts c earlier (earlier-legal pages facts later earlier p steps made)))

-- states that are the same of each CPU leave the same to bury
pub buries-same : (acts : List Act) (s t : ℕ → CpuState) → ((c : ℕ) → s c ≡ t c) → BuryTheDead s acts
    → BuryTheDead t acts
buries-same [] s t same buries = tt
buries-same (act ∷ acts) s t same buries = (
  one act buries.0,
  buries-same acts (λ c. state_past c (Lane Control act) (s c)) (λ c. state_past c (Lane Control act) (t c))
      (λ c. ap (state_past c (Lane Control act)) (same c)) buries.1,
)
  where
    one : (a : Act) → BuriesTheDead s a → BuriesTheDead t a
    one (Dead c) dead = sym (same c.number) ∙ dead
    one _ dead = tt

module _ (facts : Facts) (act : Act) (acts : List Act) where
  -- what the control lane may make first
  pub control-first : (h : History) → MayControl facts (act ∷ acts) h → MayControl facts (act ∷ []) h
  control-first h may = record {
    buries = (may.buries.0, tt);
    sets = let all : 2 * length (act ∷ acts) + largest_sets facts.layout (state_after facts h) ≤ most_sets =
        may.sets in
        omega (arith, all);
  }

  -- and what then
  pub control-rest : (later earlier : History) → HasControlled facts act later earlier
      → MayControl facts (act ∷ acts) earlier → MayControl facts acts later
  control-rest later earlier has may = record {
    buries = buries-same acts (λ c. state_past c (Lane Control act) (cpu_at (state_after facts earlier) c))
        (cpu_at (state_after facts later)) (λ c. sym (has.cpus c)) may.buries.1;
    sets = let all : 2 * length (act ∷ acts) + largest_sets facts.layout (state_after facts earlier) ≤ most_sets =
        may.sets in
        omega (arith, all, has.sets);
  }
