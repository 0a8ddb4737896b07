-- For other crates too: the CPU of a pass is online, and what its live owner found last stands or was taken.
use Rattle.std.proofs.Common.{◌≡◌, ◌≢◌, ℕ, ◌+◌, ◌*◌, ◌/◌, ◌%◌, ◌<◌, ◌&&◌, inl, inr, ⊎_elim, Bool, true, false, List, []}
use Rattle.std.proofs.Common.{◌∷◌, Option, Some, None, ℤ, pos, get_or, refl, sym, ap, ◌∙◌, arith, if◌then◌else◌, nat_eq}
use Rattle.std.proofs.Common.{eqb-true, eq-eqb, length-set}
use Rattle.std.proofs.Math.ListN.{set}
use Rattle.std.proofs.lemmas.Bool.{and_parts, eqb-false, ne_eqb}
use Rattle.std.proofs.lemmas.List.{get_or-replicate, length-replicate}
use Rattle.std.proofs.lemmas.Option.{same_Some}
use Rattle.vms_history.specs.Common.{Diffs, CounterId, CpuId, GroupId, Online, Absent, IsGroup, group_of, counter_count}
use Rattle.vms_history.specs.Common.{own, owner_in}
use Rattle.vms_history.specs.declared.events.Event.{Event}
use Rattle.vms_history.proofs.Common.{get_or-set, if-never, own-mine, own-others, same_cpu, owner_may_own}
use Rattle.vms_history.proofs.Common.{owner_is_caller}
use Rattle.vms_core.specs.declared.states.State.{State}
use Rattle.vms_core.specs.declared.steps.Facts.{Facts}
use Rattle.vms_core.specs.declared.steps.Step.{Step}
use Rattle.vms_core.specs.declared.steps.Step.TheVariants.{LoadD, Put, Miss, Take, SetO}
use Rattle.vms_core.specs.Common.{HasShape, TellsGroup, diff_at, cpu_at, entry, eight_zeros, differential_after, Meets}
use Rattle.vms_core.specs.Common.{Puts, OwnsOnline, StandsOrTaken, KnowsFound, found, found_after, pages, History}
use Rattle.vms_core.specs.Common.{IsLegal, state_after, cpu_after, OwnsNow, role}
use Rattle.vms_core.proofs.Owners.{OwnsNow-before}
use Rattle.vms_core.proofs.Settings.{cpu_at-newest}
use Rattle.vms_core.proofs.DeadCpus.{dead≢online}
use Rattle.vms_core.proofs.Effects.{owned, group-within, diff_after, diff_at-effect}
use Rattle.vms_core.proofs.Shapes.{HasShape-state_after}

-- a CPU that was online in the base is so after every step
online-after : (facts : Facts) (h : History) (s : State) (p : ℕ) (c : ℕ) (step : Step) → Meets facts h s p step
    → cpu_at s c ≡ Online → cpu_after c step (cpu_at s c) ≡ Online
online-after facts h s p c (SetO d) meets online = by (nat_eq d.number c) refl
  where
    by : (b : Bool) → nat_eq d.number c ≡ b → (if b then Absent else cpu_at s c) ≡ Online
    by true here = absurd (dead≢online (sym (rw (eqb-true d.number c here) at meets.dead) ∙ online))
    by false other = online
online-after facts h s p c _ meets online = online

pub online-stays : (facts : Facts) (h : History) (c : ℕ) → IsLegal facts h → cpu_at facts.base c ≡ Online
    → cpu_at (state_after facts h) c ≡ Online
online-stays facts [] c legal online = online
online-stays facts (e ∷ h) c legal online =
    cpu_at-newest facts e h legal c
    ∙ online-after facts h (state_after facts h) e.caller c e.step legal.2 (online-stays facts h c legal.0 online)

pub owned-online : (facts : Facts) (h : History) → IsLegal facts h → OwnsOnline facts h
owned-online facts h legal p c is =
    let known = owner_may_own pages facts h p c legal is in
    (known.0, online-stays facts h c.number legal known.1)

-- the eight differentials of a group, from a state to the next
module _ (s s' : State) (c : CpuId) (j : ℕ) where
  abbrev Same : Type 0
  Same = (n : ℕ) → n < 8 → diff_at s' c.number (8 * j + n) ≡ diff_at s c.number (8 * j + n)

  TellsGroup-same : (values : List ℤ) → Same → TellsGroup s c.number j values → TellsGroup s' c.number j values
  TellsGroup-same values same told =
      record { eight = told.eight; each = λ n less. told.each n less ∙ sym (same n less) }

  StandsOrTaken-same : (values : List ℤ) → Same → StandsOrTaken s c.number j values → StandsOrTaken s' c.number j values
  StandsOrTaken-same values same before =
      ⊎_elim (λ stands. inl (TellsGroup-same values same stands))
      (λ taken. inr (TellsGroup-same eight_zeros same taken)) before

  zeros-told : ((n : ℕ) → n < 8 → diff_at s' c.number (8 * j + n) ≡ pos 0) → TellsGroup s' c.number j eight_zeros
  zeros-told zeros = record {
    eight = length-replicate 8 (pos 0);
    each = λ n less. get_or-replicate 8 n (pos 0) (pos 0) less ∙ sym (zeros n less);
  }

  -- what a step of a pass that owns `who` leaves
  abbrev Changes : Option CpuId → Step → Type 0
  Changes who step = (n : ℕ) → n < 8
      → diff_at s' c.number (8 * j + n) ≡ diff_after who c.number (8 * j + n) step (diff_at s c.number (8 * j + n))

  take-empties : (values : List ℤ) (d : CpuId) (i : GroupId)
      → ((n : ℕ) → n < 8 → diff_at s' c.number (8 * j + n)
      ≡ (if nat_eq d.number c.number && nat_eq i.number (group_of (8 * j + n)) then pos 0
      else diff_at s c.number (8 * j + n)))
      → StandsOrTaken s c.number j values → StandsOrTaken s' c.number j values
  take-empties values d i changes before = by (nat_eq d.number c.number && nat_eq i.number j) at_group
    where
      at_group : (n : ℕ) → n < 8 → diff_at s' c.number (8 * j + n)
          ≡ (if nat_eq d.number c.number && nat_eq i.number j then pos 0 else diff_at s c.number (8 * j + n))
      at_group n less = let at : (8 * j + n) / 8 ≡ j = omega arith in rw at at (changes n less)

      by : (b : Bool) → ((n : ℕ) → n < 8
          → diff_at s' c.number (8 * j + n) ≡ (if b then pos 0 else diff_at s c.number (8 * j + n)))
          → StandsOrTaken s' c.number j values
      by true zeros = inr (zeros-told zeros)
      by false same = StandsOrTaken-same values same before

  -- a step of another caller takes the group or leaves it
  others-leave : (values : List ℤ) (who : Option CpuId) (step : Step) → (who ≡ Some c → ⊥) → Changes who step
      → StandsOrTaken s c.number j values → StandsOrTaken s' c.number j values
  others-leave values (Some d) (Put l w t delta how) other changes before =
      StandsOrTaken-same values (λ n less. changes n less
      ∙ if-never (nat_eq d.number c.number && nat_eq l.number (8 * j + n))
      (differential_after how t (entry w.values l.number) delta)
      (diff_at s c.number (8 * j + n)) (λ here.
      other (ap (λ (o : CpuId). Some o)
      (same_cpu d c (eqb-true d.number c.number
      (and_parts (nat_eq d.number c.number) (nat_eq l.number (8 * j + n)) here).0)))))
      before
  others-leave values (Some o) (Take d i w) other changes before = take-empties values d i changes before
  others-leave values None (Take d i w) other changes before = take-empties values d i changes before
  others-leave values (Some o) _ other changes before = StandsOrTaken-same values changes before
  others-leave values None _ other changes before = StandsOrTaken-same values changes before

-- a step of the owner itself
module _ (facts : Facts) (h : History) (s s' : State) (p : ℕ) (shaped : HasShape facts.layout s) (c : CpuId) (j : ℕ)
    (is : owner_in role h p ≡ Some c) (j_in : IsGroup facts.layout j) where
  -- the list with the new differential in it
  put-told : (k : CounterId) (w : Diffs) (t : ℕ) (delta : ℤ) (new : ℤ) → Puts facts h s p k w t delta
      → group_of k.number ≡ j
      → ((n : ℕ) → n < 8 → diff_at s' c.number (8 * j + n)
      ≡ (if nat_eq c.number c.number && nat_eq k.number (8 * j + n) then new else diff_at s c.number (8 * j + n)))
      → TellsGroup s' c.number j (set w.values (k.number % 8) new)
  put-told k w t delta new puts group changes = record {
    eight = length-set w.values (k.number % 8) new ∙ puts.values.eight;
    each = λ n less.
        get_or-set w.values (k.number % 8) n new (pos 0) (rw puts.values.eight (omega arith))
        ∙ by n less (nat_eq (k.number % 8) n) refl ∙ sym (changes n less);
  }
    where
      same : puts.cpu ≡ c
      same = owned facts h s p shaped c puts.cpu is puts.owns

      told : (n : ℕ) → n < 8 → get_or w.values n (pos 0) ≡ diff_at s c.number (8 * j + n)
      told n less = rw (same, group) at (puts.values.each n less)

      by : (n : ℕ) → n < 8 → (b : Bool) → nat_eq (k.number % 8) n ≡ b → (if b then new else get_or w.values n (pos 0))
          ≡ (if nat_eq c.number c.number && nat_eq k.number (8 * j + n) then new else diff_at s c.number (8 * j + n))
      by n less true here =
          let at : k.number % 8 ≡ n = eqb-true (k.number % 8) n here in
          let it : nat_eq k.number (8 * j + n) ≡ true = eq-eqb k.number (8 * j + n) (omega arith) in
          let mine : nat_eq c.number c.number ≡ true = eq-eqb c.number c.number refl in
          rw (mine, it) refl
      by n less false other =
          let off : k.number % 8 ≢ n = eqb-false (k.number % 8) n other in
          let it : nat_eq k.number (8 * j + n) ≡ false = ne_eqb k.number (8 * j + n) (λ e. off (omega arith)) in
          let mine : nat_eq c.number c.number ≡ true = eq-eqb c.number c.number refl in
          rw (mine, it) (told n less)

  own-keeps : (before : Option (List ℤ)) (values : List ℤ) (step : Step) → Meets facts h s p step
      → Changes s s' c j (Some c) step
      → ((old : List ℤ) → before ≡ Some old → StandsOrTaken s c.number j old)
      → found_after c j step before ≡ Some values → StandsOrTaken s' c.number j values
  own-keeps before values (LoadD d i w) meets changes stood now =
      by (nat_eq d.number c.number && nat_eq i.number j) refl now
    where
      by : (b : Bool) → (nat_eq d.number c.number && nat_eq i.number j) ≡ b
          → (if b then Some w.values else before) ≡ Some values
          → StandsOrTaken s' c.number j values
      by true here is_now =
          let at = and_parts (nat_eq d.number c.number) (nat_eq i.number j) here in
          let told = rw (eqb-true d.number c.number at.0, eqb-true i.number j at.1) at meets.values in
          inl (rw (same_Some w.values values is_now) at (TellsGroup-same s s' c j w.values changes told))
      by false other is_now = StandsOrTaken-same s s' c j values changes (stood values is_now)
  own-keeps before values (Miss i w) meets changes stood now = by (nat_eq i.number j) refl now
    where
      by : (b : Bool) → nat_eq i.number j ≡ b → (if b then Some eight_zeros else before) ≡ Some values
          → StandsOrTaken s' c.number j values
      by true here is_now =
          let same : meets.cpu ≡ c = owned facts h s p shaped c meets.cpu is meets.owns in
          let told = rw (same, eqb-true i.number j here) at meets.zeros in
          inr (TellsGroup-same s s' c j eight_zeros changes told)
      by false other is_now = StandsOrTaken-same s s' c j values changes (stood values is_now)
  own-keeps before values (Take d i w) meets changes stood now =
      by (nat_eq d.number c.number && nat_eq i.number j) at_group now
    where
      at_group : (n : ℕ) → n < 8 → diff_at s' c.number (8 * j + n)
          ≡ (if nat_eq d.number c.number && nat_eq i.number j then pos 0 else diff_at s c.number (8 * j + n))
      at_group n less = let at : (8 * j + n) / 8 ≡ j = omega arith in rw at at (changes n less)

      by : (b : Bool) → ((n : ℕ) → n < 8
          → diff_at s' c.number (8 * j + n) ≡ (if b then pos 0 else diff_at s c.number (8 * j + n)))
          → (if b then Some eight_zeros else before) ≡ Some values → StandsOrTaken s' c.number j values
      by true zeros is_now = inr (zeros-told s s' c j zeros)
      by false same is_now = StandsOrTaken-same s s' c j values same (stood values is_now)
  own-keeps before values (Put k w t delta how) meets changes stood now =
      by (nat_eq (group_of k.number) j) refl now
    where
      by : (b : Bool) → nat_eq (group_of k.number) j ≡ b
          → (if b
          then Some (set w.values (k.number % 8) (differential_after how t (entry w.values k.number) delta))
          else before)
          ≡ Some values
          → StandsOrTaken s' c.number j values
      by true here is_now =
          let new = differential_after how t (entry w.values k.number) delta in
          let same : set w.values (k.number % 8) new ≡ values =
          same_Some (set w.values (k.number % 8) new) values is_now in
          inl (rw same at (put-told k w t delta new meets (eqb-true (group_of k.number) j here) changes))
      by false other is_now =
          let new = differential_after how t (entry w.values k.number) delta in
          let elsewhere : group_of k.number ≢ j = eqb-false (group_of k.number) j other in
          StandsOrTaken-same s s' c j values (λ n less. changes n less
          ∙ if-never (nat_eq c.number c.number && nat_eq k.number (8 * j + n)) new (diff_at s c.number (8 * j + n))
          (λ here.
          let at : k.number ≡ 8 * j + n =
          eqb-true k.number (8 * j + n)
          (and_parts (nat_eq c.number c.number) (nat_eq k.number (8 * j + n)) here).1 in
          elsewhere (omega arith)))
          (stood values is_now)
  own-keeps before values _ meets changes stood now =
      StandsOrTaken-same s s' c j values changes (stood values now)

module _ (facts : Facts) (e : Event Step) (h : History) (legal : IsLegal facts (e ∷ h)) (p : ℕ) (c : CpuId)
    (was : OwnsNow h p c) where
  -- while a pass lives, no other caller acts for the CPU that it owns
  others-own : e.caller ≢ p → owner_in role h e.caller ≡ Some c → ⊥
  others-own others is = others (owner_is_caller pages facts e h p c legal was.lives was.owner is)

  module _ (j : ℕ) (j_in : IsGroup facts.layout j) where
    event-changes : Changes (state_after facts h) (state_after facts (e ∷ h)) c j (owner_in role h e.caller) e.step
    event-changes n less =
        diff_at-effect facts h (state_after facts h) e.caller (HasShape-state_after facts h legal.0)
        (owner_in role h e.caller) e.step
        c.number (8 * j + n) refl legal.2 (omega (arith, group-within (counter_count facts.layout) j j_in))

    -- what was found before the event stood before it
    abbrev Stood : Type 0
    Stood = (old : List ℤ) → found c j (own h p) ≡ Some old
        → StandsOrTaken (state_after facts h) c.number j old

    found-mine : (values : List ℤ) → found c j (own (e ∷ h) p) ≡ Some values → Stood → e.caller ≡ p
        → StandsOrTaken (state_after facts (e ∷ h)) c.number j values
    found-mine values told before mine =
        let s = state_after facts h in
        let is : owner_in role h e.caller ≡ Some c = ap (owner_in role h) mine ∙ was.owner in
        own-keeps facts h s (state_after facts (e ∷ h)) e.caller (HasShape-state_after facts h legal.0) c j is j_in
        (found c j (own h p)) values e.step legal.2
        (λ n less. event-changes n less
        ∙ ap (λ who. diff_after who c.number (8 * j + n) e.step (diff_at s c.number (8 * j + n))) is)
        before (sym (ap (found c j) (own-mine e h p mine)) ∙ told)

    found-others : (values : List ℤ) → found c j (own (e ∷ h) p) ≡ Some values → Stood
        → e.caller ≢ p
        → StandsOrTaken (state_after facts (e ∷ h)) c.number j values
    found-others values told before others =
        others-leave (state_after facts h) (state_after facts (e ∷ h)) c j values (owner_in role h e.caller) e.step
        (others-own others) event-changes (before values (sym (ap (found c j) (own-others e h p others)) ∙ told))

pub found-stands : (facts : Facts) (h : History) → IsLegal facts h → KnowsFound facts h
found-stands facts [] legal p c j values live j_in told = absurd cc
found-stands facts (e ∷ h) legal p c j values live j_in told =
    elim (OwnsNow-before facts e h legal p c live) [
      | inl was ↦ by was (nat_eq e.caller p) refl
          (λ old old_told. found-stands facts h legal.0 p c j old was j_in old_told)
      | inr none ↦ absurd (none_found (sym (ap (found c j) none) ∙ told))
    ]
  where
    none_found : None ≡ Some values → ⊥
    none_found is = cc

    by : (was : OwnsNow h p c) (b : Bool) → nat_eq e.caller p ≡ b → Stood facts e h legal p c was j j_in
        → StandsOrTaken (state_after facts (e ∷ h)) c.number j values
    by was true here before =
        found-mine facts e h legal p c was j j_in values told before (eqb-true e.caller p here)
    by was false other before =
        found-others facts e h legal p c was j j_in values told before (eqb-false e.caller p other)
