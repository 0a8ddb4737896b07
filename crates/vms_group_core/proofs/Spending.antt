-- For other crates too: what each CPU has spent on a group: its bound, its sum over the CPUs, and who knows it.
use Rattle.std.proofs.Common.{◌≡◌, ◌≢◌, ℕ, ◌+◌, ◌≤◌, ◌&&◌, Bool, true, false, [], ◌∷◌, ◌++◌, Option, Some, None, pos}
use Rattle.std.proofs.Common.{◌+ℤ◌, unsigned_abs, refl, ap, ◌∙◌, arith, if◌then◌else◌, nat_eq, eq-eqb, eqb-true}
use Rattle.std.proofs.lemmas.Int.{ints}
use Rattle.std.proofs.lemmas.Bool.{and_parts, eqb-false}
use Rattle.vms_history.specs.Common.{CpuId, own, total, begun_in, lives_in, owner_in, sum_below, most_volume}
use Rattle.vms_history.specs.declared.events.Event.{Event}
use Rattle.vms_history.proofs.Common.{total-by_parts, if-map, if-never, holds_while_live, own-mine, own-others}
use Rattle.vms_history.proofs.Common.{own-append, same_cpu, owner_is_caller, sum_below-zeros, sum_below-only}
use Rattle.vms_group_core.specs.declared.states.GroupState.{GroupState}
use Rattle.vms_group_core.specs.declared.steps.GroupFacts.{GroupFacts}
use Rattle.vms_group_core.specs.declared.steps.GroupStep.{GroupStep}
use Rattle.vms_group_core.specs.declared.steps.GroupStep.TheVariants.{AddP}
use Rattle.vms_group_core.specs.Common.{Meets, groups, History, IsLegal, state_after, KeepsSpending, role, changed}
use Rattle.vms_group_core.specs.Common.{size_of, spent, spent_by, IsTreeCpu}
use Rattle.vms_group_core.proofs.Effects.{owner_known}

spent_by-affordable : (facts : GroupFacts) (h : History) (s : GroupState) (p c x : ℕ) (who : Option CpuId)
    (step : GroupStep)
    → owner_in role h p ≡ who → Meets facts h s p step → spent h c x ≤ most_volume
    → spent_by who c x step + spent h c x ≤ most_volume
spent_by-affordable facts h s p c x None (AddP y amount) is meets below = omega arith
spent_by-affordable facts h s p c x (Some o) (AddP y amount) is meets below =
    by (nat_eq o.number c) (nat_eq y x) refl refl
  where
    by : (a b : Bool) → nat_eq o.number c ≡ a → nat_eq y x ≡ b
        → (if a && b then unsigned_abs amount else 0) + spent h c x ≤ most_volume
    by true true cpus kinds =
        let own_cpu : meets.cpu ≡ o = let owns = meets.owns in cc in
        let at : spent h meets.cpu.number y ≡ spent h c x =
        ap (λ (d : CpuId). spent h d.number y) own_cpu ∙ ap (λ d. spent h d y) (eqb-true o.number c cpus)
        ∙ ap (spent h c) (eqb-true y x kinds) in
        omega (arith, meets.affordable)
    by true false cpus kinds = omega arith
    by false b cpus kinds = omega arith
spent_by-affordable facts h s p c x (Some o) _ is meets below = omega arith
spent_by-affordable facts h s p c x None _ is meets below = omega arith

pub spent-affordable : (facts : GroupFacts) (h : History) (c x : ℕ) → IsLegal facts h → spent h c x ≤ most_volume
spent-affordable facts [] c x legal = omega arith
spent-affordable facts (e ∷ h) c x legal =
    spent_by-affordable facts h (state_after facts h) e.caller c x (owner_in role h e.caller) e.step refl legal.2
    (spent-affordable facts h c x legal.0)

-- a step changes a group by what its CPU spends on it, in size
spent_by-all : (facts : GroupFacts) (h : History) (s : GroupState) (p x : ℕ) (who : Option CpuId) (step : GroupStep)
    → owner_in role h p ≡ who → ((o : CpuId) → who ≡ Some o → IsTreeCpu facts.tree o.number) → Meets facts h s p step
    → sum_below (λ c. pos (spent_by who c x step)) facts.tree.cpus ≡ changed size_of x step
spent_by-all facts h s p x None (AddP y amount) is known meets = let owns = meets.owns in absurd (cc)
spent_by-all facts h s p x (Some o) (AddP y amount) is known meets =
    sum_below-only pos 0 (unsigned_abs amount) o.number facts.tree.cpus (nat_eq y x) refl (known o refl)
    ∙ if-map pos (nat_eq y x) (unsigned_abs amount) 0
spent_by-all facts h s p x (Some o) _ is known meets = sum_below-zeros (λ c. pos 0) facts.tree.cpus (λ c c_in. refl)
spent_by-all facts h s p x None _ is known meets = sum_below-zeros (λ c. pos 0) facts.tree.cpus (λ c c_in. refl)

pub changed-spent : (facts : GroupFacts) (h : History) (x : ℕ) → IsLegal facts h
    → total (changed size_of x) h ≡ sum_below (λ c. pos (spent h c x)) facts.tree.cpus
changed-spent facts h x =
    total-by_parts groups facts (changed size_of x) (λ g c. pos (spent g c x))
    (λ e g c. pos (spent_by (owner_in role g e.caller) c x e.step)) facts.tree.cpus
    (λ c c_in. refl) (λ e g c c_in. omega (arith, ints))
    (λ e g legal.
    spent_by-all facts g (state_after facts g) e.caller x (owner_in role g e.caller) e.step refl
    (owner_known facts g e.caller legal.0) legal.2)
    h

-- a step of another than the owner of a CPU spends nothing of it
pub spent_by-others : (who : Option CpuId) (c : CpuId) (x : ℕ) (step : GroupStep) → who ≢ Some c
    → spent_by who c.number x step ≡ 0
spent_by-others (Some o) c x (AddP y amount) other =
    if-never (nat_eq o.number c.number && nat_eq y x) (unsigned_abs amount) 0 (λ here.
    other (ap Some (same_cpu o c
    (eqb-true o.number c.number (and_parts (nat_eq o.number c.number) (nat_eq y x) here).0))))
spent_by-others (Some o) c x _ other = refl
spent_by-others None c x _ other = refl

-- a step of the CPU's owner spends the size of what it changes
pub spent_by-owner : (c : CpuId) (x : ℕ) (step : GroupStep)
    → pos (spent_by (Some c) c.number x step) ≡ changed size_of x step
spent_by-owner c x (AddP y amount) = rw (eq-eqb c.number c.number refl) (by (nat_eq y x))
  where
    by : (b : Bool) → pos (if true && b then unsigned_abs amount else 0) ≡ (if b then size_of amount else pos 0)
    by true = refl
    by false = refl
spent_by-owner c x _ = refl

-- the sums on both sides go the same way, whoever made the newest event
module _ (facts : GroupFacts) (h : History) (p : ℕ) (c : CpuId) (x : ℕ) (owns : owner_in role h p ≡ Some c) where
  -- what the CPU spent since is what its owner spent since
  abbrev pub GoesAlong : History → Type 0
  GoesAlong g = pos (spent g c.number x) +ℤ total (changed size_of x) (own h p)
      ≡ pos (spent h c.number x) +ℤ total (changed size_of x) (own g p)

  GoesAlong-next : (e : Event GroupStep) (g : History) → IsLegal facts (e ∷ g) → lives_in role g p ≡ true
      → owner_in role g p ≡ Some c → GoesAlong g → GoesAlong (e ∷ g)
  GoesAlong-next e g legal lives now before = by (nat_eq e.caller p) refl
    where
      by : (b : Bool) → nat_eq e.caller p ≡ b → GoesAlong (e ∷ g)
      by true same =
          let mine : e.caller ≡ p = eqb-true e.caller p same in
          let grown : spent_by (owner_in role g e.caller) c.number x e.step ≡ spent_by (Some c) c.number x e.step =
          ap (λ who. spent_by who c.number x e.step) (ap (owner_in role g) mine ∙ now) in
          let own_grown : total (changed size_of x) (own (e ∷ g) p)
          ≡ changed size_of x e.step +ℤ total (changed size_of x) (own g p) =
          ap (total (changed size_of x)) (own-mine e g p mine) in
          omega (arith, ints, grown, own_grown, spent_by-owner c x e.step, before)
      by false differ =
          let others = eqb-false e.caller p differ in
          let nothing = spent_by-others (owner_in role g e.caller) c x e.step (λ acts_for.
          others (owner_is_caller groups facts e g p c legal lives now acts_for)) in
          let own_same : total (changed size_of x) (own (e ∷ g) p) ≡ total (changed size_of x) (own g p) =
          ap (total (changed size_of x)) (own-others e g p others) in
          omega (arith, ints, nothing, own_same, before)

  pub spent-goes_along : (m : History) → IsLegal facts (m ++ h) → lives_in role (m ++ h) p ≡ true
      → p ≤ begun_in role h → GoesAlong (m ++ h)
  spent-goes_along m legal lives given =
      holds_while_live groups facts h p GoesAlong (λ es. Unit {0}) (λ e es none. tt)
      (λ e m legal lives owner none before. GoesAlong-next e (m ++ h) legal lives (owner ∙ owns) before)
      given refl m legal lives tt

-- so what its CPU has spent is known to a pass that lives
pub spending-known : (facts : GroupFacts) (m h : History) (p : ℕ) → IsLegal facts (m ++ h)
    → lives_in role (m ++ h) p ≡ true
    → p ≤ begun_in role h → own m p ≡ [] → KeepsSpending (m ++ h) h p
spending-known facts m h p legal lives given none c x owns =
    let own_same : total (changed size_of x) (own (m ++ h) p) ≡ total (changed size_of x) (own h p) =
    ap (total (changed size_of x)) (own-append m h p ∙ ap (λ es. es ++ own h p) none) in
    omega (arith, ints, spent-goes_along facts h p c x owns m legal lives given, own_same)
