-- What a CPU hides of an item and what its owner carries of it, less the change that the owner has under way, is at most
-- what the CPU may hide of it and what counts as taken meanwhile.
use Rattle.std.proofs.Common.{◌≡◌, ◌≢◌, ℕ, ◌≤◌, ◌&&◌, Bool, true, false, [], ◌∷◌, ℤ, pos, neg_ℤ, ◌+ℤ◌, ◌-ℤ◌, inl, inr}
use Rattle.std.proofs.Common.{refl, sym, ap, ◌∙◌, arith, subst, nat_eq, eq-eqb, eqb-true, ne_eqb, if◌then◌else◌}
use Rattle.std.proofs.Common.{unsigned_abs, Option, Some, None}
use Rattle.std.proofs.lemmas.Bool.{eqb-false}
use Rattle.std.proofs.lemmas.Int.{ints}
use Rattle.vms_calls.specs.Common.{CounterId, CpuId, Dead, Diffs, GroupId, IsCpu, IsLayout, Mode, group_of, item_of}
use Rattle.vms_calls.specs.Common.{own, owner_in, place_of, Event, Facts, Step, AddS, Put, SetA, SetO, Take, FindsGroup}
use Rattle.vms_calls.specs.Common.{History, Meets, carried_by, carried_of_item, cpu_at, diff_at, differential_after}
use Rattle.vms_calls.specs.Common.{entry, moved_of_item, pages, role, state_after}
use Rattle.vms_history.proofs.Common.{base_can_begin, own-mine, own-others, owner_is_caller, same_cpu}
use Rattle.vms_base.proofs.Common.{place_of-lt}
use Rattle.vms_core.specs.Pages.{IsLegal}
use Rattle.vms_core.specs.PeakLaws.{OwnsNow}
use Rattle.vms_core.specs.Conditions.{Puts}
use Rattle.vms_core.proofs.ChangeLemmas.{differential_after-carried_by}
use Rattle.vms_core.proofs.DeadCpus.{dead≢online}
use Rattle.vms_core.proofs.Common.{diff_after, diff_at-effect, owned-online, HasShape-state_after}
use Rattle.vms_core.proofs.Effects.{owned}
use Rattle.vms_core.proofs.Owners.{OwnsNow-before}
use Rattle.vms_core.proofs.Sums.{entry-told}
use Rattle.vms_near.specs.Hiding.{may_hide}
use Rattle.vms_near.specs.ItemFlight.{carries_item, changing_item, item_change_after, item_meanwhile}
use Rattle.vms_near.specs.ItemFlight.{others_item_meanwhile, own_item_meanwhile}
use Rattle.vms_near.proofs.Carriers.{is-none, is-some, item-carrier-lives}
use Rattle.vms_near.proofs.ItemSums.{item_count, item_count-least, item_sum, item_sum-same, item_sum-sizes}
use Rattle.vms_near.proofs.ItemSums.{item_sum-take, item_sum-write}
use Rattle.vms_near.proofs.MayHide.{Lessens, diff-hidden, hides-grows}
use Rattle.vms_near.proofs.OwnCpus.{IsWithin}

-- where something is left after an addition of all, the addition was of another item
added-other : (b : Bool) (a before : ℤ) → (b ≡ true → before ≡ a) → (if b then neg_ℤ a else pos 0) +ℤ before ≢ pos 0
    → (if b then neg_ℤ a else pos 0) ≡ pos 0
added-other true a before all some = absurd (some (omega (arith, ints, all refl)))
added-other false a before all some = refl

module _ (facts : Facts) (p i : ℕ) where
  pub changing-none : (mine : History) → carries_item facts.layout i mine ≡ false → changing_item facts.layout i mine ≡ pos 0
  changing-none [] none = refl
  changing-none (e ∷ mine) none = rw none refl

  -- what is left after an addition
  pub addition-stays : (h : History) (q l : ℕ) (a : ℤ) → q ≡ p → carried_of_item facts.layout l (own h q) ≡ a
      → (if nat_eq l i then neg_ℤ a else pos 0) +ℤ carried_of_item facts.layout i (own h p) ≢ pos 0
      → (if nat_eq l i then neg_ℤ a else pos 0) ≡ pos 0
  addition-stays h q l a same carries some =
      added-other (nat_eq l i) a (carried_of_item facts.layout i (own h p))
      (λ here. subst (λ n. carried_of_item facts.layout n (own h p) ≡ a) (eqb-true l i here)
      (subst (λ r. carried_of_item facts.layout l (own h r) ≡ a) same carries)) some

module _ (facts : Facts) (p : ℕ) (c : CpuId) (i : ℕ) (c_in : IsCpu facts.layout c.number) where
  -- what the CPU hides of the item, and what it may hide
  abbrev hidden : History → ℤ
  hidden h = item_sum facts.layout i (λ k. diff_at (state_after facts h) c.number k)

  abbrev hides : History → ℕ
  hides h = item_count facts.layout i (λ k. may_hide facts h c.number (place_of facts.layout k))

  abbrev HoldsFor : History → History → Type 0
  HoldsFor h mine = IsWithin (hidden h) (carried_of_item facts.layout i mine) (changing_item facts.layout i mine)
      (hides h) (item_meanwhile facts p i h)

  pub within : (h : History) → IsLegal facts h → unsigned_abs (hidden h) ≤ hides h
  within h legal = item_sum-sizes facts.layout i (λ k. diff_at (state_after facts h) c.number k)
      (λ k. may_hide facts h c.number (place_of facts.layout k))
      (λ k k_in. diff-hidden facts h legal c.number k c_in k_in)

  module _ (e : Event Step) (h : History) (legal : IsLegal facts (e ∷ h)) (was : OwnsNow h p c)
      (before : HoldsFor h (own h p)) where
    layout : IsLayout facts.layout
    layout = (base_can_begin pages facts h legal.0).layout

    abbrev diff : ℕ → ℤ
    diff k = diff_at (state_after facts h) c.number k

    abbrev carries : ℤ
    carries = carried_of_item facts.layout i (own h p)

    abbrev change : ℤ
    change = changing_item facts.layout i (own h p)

    abbrev taken : ℕ
    taken = item_meanwhile facts p i h

    newest : hidden (e ∷ h)
        ≡ item_sum facts.layout i (λ k. diff_after (owner_in role h e.caller) c.number k e.step (diff k))
    newest = item_sum-same facts.layout i (λ k. diff_at (state_after facts (e ∷ h)) c.number k)
        (λ k. diff_after (owner_in role h e.caller) c.number k e.step (diff k))
        (λ k k_in. diff_at-effect facts h (state_after facts h) e.caller (HasShape-state_after facts h legal.0)
        (owner_in role h e.caller) e.step c.number k refl legal.2 k_in)

    grown : ((g : ℕ) → Lessens (owner_in role h e.caller) c.number g e.step → ⊥) → hides h ≤ hides (e ∷ h)
    grown other = item_count-least facts.layout i (λ k. may_hide facts h c.number (place_of facts.layout k))
        (λ k. may_hide facts (e ∷ h) c.number (place_of facts.layout k))
        (λ k k_in. hides-grows facts e h legal c.number (place_of facts.layout k) c_in
        (place_of-lt facts.layout layout k k_in) (other (place_of facts.layout k)))

    -- the CPU is online, so no step makes it absent
    still-online : (d : CpuId) → cpu_at (state_after facts h) d.number ≡ Dead → d.number ≡ c.number → ⊥
    still-online d dead same = dead≢online (sym dead ∙ ap (cpu_at (state_after facts h)) same
        ∙ (owned-online facts h legal.0 p c was.owner).1)

    module _ (mine : e.caller ≡ p) (still : carries_item facts.layout i (e ∷ own h p) ≡ true) where
      is_mine : owner_in role h e.caller ≡ Some c
      is_mine = ap (owner_in role h) mine ∙ was.owner

      -- after each kind of step of the owner
      abbrev After : Step → Type 0
      After step = IsWithin (hidden (e ∷ h)) (moved_of_item facts.layout i step +ℤ carries)
          (item_change_after facts.layout i step change) (hides (e ∷ h))
          (own_item_meanwhile facts.layout i step (unsigned_abs (moved_of_item facts.layout i step +ℤ carries)) taken)

      put-after : (l : CounterId) (w : Diffs) (t : ℕ) (delta : ℤ) (how : Mode)
          → Puts facts h (state_after facts h) e.caller l w t delta → hides h ≤ hides (e ∷ h)
          → hidden (e ∷ h)
          ≡ item_sum facts.layout i (λ k. diff_after (Some c) c.number k (Put l w t delta how) (diff k))
          → After (Put l w t delta how)
      put-after l w t delta how puts grew now = by (nat_eq (item_of facts.layout l.number) i) refl written
        where
          after : ℤ
          after = differential_after how t (entry w.values l.number) delta

          moving : ℤ
          moving = carried_by how t (entry w.values l.number) delta

          written : hidden (e ∷ h) ≡ hidden h
              +ℤ (if nat_eq (item_of facts.layout l.number) i then after -ℤ diff l.number else pos 0)
          written = now
              ∙ (rw (eq-eqb c.number c.number refl)
              (item_sum-write facts.layout i diff l.number after puts.counter))

          by : (b : Bool) → nat_eq (item_of facts.layout l.number) i ≡ b
              → hidden (e ∷ h) ≡ hidden h +ℤ (if b then after -ℤ diff l.number else pos 0)
              → IsWithin (hidden (e ∷ h)) ((if b then moving else pos 0) +ℤ carries) (if b then delta else change)
              (hides (e ∷ h)) (if b then 0 else taken)
          by true here wrote =
              let same : puts.cpu ≡ c = owned facts h (state_after facts h) e.caller
              (HasShape-state_after facts h legal.0) c puts.cpu is_mine puts.owns in
              let told : entry w.values l.number ≡ diff l.number =
              rw same at (entry-told (state_after facts h) puts.cpu.number (group_of l.number) l.number w.values
              puts.values refl) in
              let none : carries ≡ pos 0 =
              subst (λ q. carried_of_item facts.layout i (own h q) ≡ pos 0) mine (puts.nothing_carried.items i) in
              let kept = differential_after-carried_by how t (entry w.values l.number) delta in
              omega (arith, ints, wrote, kept, told, none, within h legal.0, grew)
          by false other wrote = omega (arith, ints, wrote, before, grew)

      -- once the owner takes a group or acknowledges a threshold, what it carries counts as taken meanwhile
      whole : (carries_now : ℤ) → IsWithin (hidden (e ∷ h)) carries_now (pos 0) (hides (e ∷ h)) (unsigned_abs carries_now)
      whole carries_now = omega (arith, ints, within (e ∷ h) legal)

      stays : (moves : ℤ) → moves ≡ pos 0 → hides h ≤ hides (e ∷ h) → hidden (e ∷ h) ≡ hidden h
          → IsWithin (hidden (e ∷ h)) (moves +ℤ carries) change (hides (e ∷ h)) taken
      stays moves none grew now = omega (arith, ints, none, before, grew, now)

      by-kind : (step : Step) → Meets facts h (state_after facts h) e.caller step
          → (((g : ℕ) → Lessens (Some c) c.number g step → ⊥) → hides h ≤ hides (e ∷ h))
          → hidden (e ∷ h) ≡ item_sum facts.layout i (λ k. diff_after (Some c) c.number k step (diff k))
          → moved_of_item facts.layout i step +ℤ carries ≢ pos 0 → After step
      by-kind (Put l w t delta how) meets grew now some = put-after l w t delta how meets (grew (λ g less. less)) now
      by-kind (Take d j w) meets grew now some = whole (moved_of_item facts.layout i (Take d j w) +ℤ carries)
      by-kind (SetA f a) meets grew now some = whole (pos 0 +ℤ carries)
      by-kind (SetO d) meets grew now some = let both = sym meets.control ∙ is_mine in absurd cc
      by-kind (AddS l a) meets grew now some =
          stays (moved_of_item facts.layout i (AddS l a))
          (addition-stays facts p i h e.caller l.number a mine meets.carries some) (grew (λ g less. less)) now
      by-kind _ meets grew now some = stays (pos 0) refl (grew (λ g less. less)) now

      after-mine : After e.step
      after-mine = by-kind e.step legal.2
          (λ other. grown (λ g less. other g (subst (λ who. Lessens who c.number g e.step) is_mine less)))
          (newest ∙ ap (λ who. item_sum facts.layout i (λ k. diff_after who c.number k e.step (diff k))) is_mine)
          (is-some (moved_of_item facts.layout i e.step +ℤ carries) still)

      holds-mine : HoldsFor (e ∷ h) (own (e ∷ h) p)
      holds-mine = rw (eq-eqb e.caller p mine, still) after-mine

    module _ (other : e.caller ≢ p) (still : carries_item facts.layout i (own h p) ≡ true) where
      not_mine : owner_in role h e.caller ≡ Some c → ⊥
      not_mine is = other (owner_is_caller pages facts e h p c legal was.lives was.owner is)

      abbrev Beside : Step → Type 0
      Beside step = IsWithin (hidden (e ∷ h)) carries change (hides (e ∷ h))
          (others_item_meanwhile facts.layout (Some c) i step taken)

      take-beside : (d : CpuId) (j : GroupId) (w : Diffs) → FindsGroup facts (state_after facts h) d j w
          → hides h ≤ hides (e ∷ h)
          → hidden (e ∷ h) ≡ item_sum facts.layout i
          (λ k. if nat_eq d.number c.number && nat_eq j.number (group_of k) then pos 0 else diff k)
          → Beside (Take d j w)
      take-beside d j w finds grew = by (nat_eq d.number c.number) refl
        where
          by : (b : Bool) → nat_eq d.number c.number ≡ b → hidden (e ∷ h) ≡ item_sum facts.layout i
              (λ k. if b && nat_eq j.number (group_of k) then pos 0 else diff k)
              → Beside (Take d j w)
          by true here now =
              let same : d.number ≡ c.number = eqb-true d.number c.number here in
              let there : nat_eq c.number d.number ≡ true = eq-eqb c.number d.number (sym same) in
              let taking = item_sum-take facts.layout i diff j.number w finds.group
              (rw same at finds.values.each) in
              rw there (omega (arith, ints, now, taking, before, grew))
          by false away now =
              let there : nat_eq c.number d.number ≡ false =
              ne_eqb c.number d.number (λ same. eqb-false d.number c.number away (sym same)) in
              rw there (omega (arith, ints, now, before, grew))

      remains : hides h ≤ hides (e ∷ h) → hidden (e ∷ h) ≡ hidden h
          → IsWithin (hidden (e ∷ h)) carries change (hides (e ∷ h)) taken
      remains grew now = omega (arith, ints, before, grew, now)

      beside : (who : Option CpuId) (step : Step) → Meets facts h (state_after facts h) e.caller step
          → (who ≡ Some c → ⊥) → (((g : ℕ) → Lessens who c.number g step → ⊥) → hides h ≤ hides (e ∷ h))
          → hidden (e ∷ h) ≡ item_sum facts.layout i (λ k. diff_after who c.number k step (diff k)) → Beside step
      beside (Some o) (Put l w t delta how) meets off grew now =
          let away : nat_eq o.number c.number ≡ false =
          ne_eqb o.number c.number (λ same. off (ap (λ (d : CpuId). Some d) (same_cpu o c same))) in
          remains (grew (λ g less. less)) (rw away at now)
      beside None (Take d j w) meets off grew now = take-beside d j w meets (grew (λ g less. less)) now
      beside (Some o) (Take d j w) meets off grew now = take-beside d j w meets (grew (λ g less. less)) now
      beside (Some o) (SetA f a) meets off grew now =
          remains (grew (λ g less. off (ap (λ (d : CpuId). Some d) (same_cpu o c less.0)))) now
      beside None (SetO d) meets off grew now = remains (grew (λ g less. still-online d meets.dead less)) now
      beside (Some o) (SetO d) meets off grew now = remains (grew (λ g less. still-online d meets.dead less)) now
      beside None _ meets off grew now = remains (grew (λ g less. less)) now
      beside (Some o) _ meets off grew now = remains (grew (λ g less. less)) now

      holds-beside : HoldsFor (e ∷ h) (own (e ∷ h) p)
      holds-beside = rw (ne_eqb e.caller p other, still, was.owner)
          (beside (owner_in role h e.caller) e.step legal.2 not_mine grown newest)

  abbrev Holds : History → Type 0
  Holds h = HoldsFor h (own h p)

  nothing-carried : (h : History) → IsLegal facts h → carries_item facts.layout i (own h p) ≡ false → Holds h
  nothing-carried h legal none =
      omega (
        arith,
        ints,
        is-none (carried_of_item facts.layout i (own h p)) none,
        changing-none facts p i (own h p) none,
        within h legal,
      )

  something-carried : (e : Event Step) (h : History) → IsLegal facts (e ∷ h) → OwnsNow (e ∷ h) p c
      → carries_item facts.layout i (own (e ∷ h) p) ≡ true → (owner_in role h p ≡ Some c → Holds h) → Holds (e ∷ h)
  something-carried e h legal owns still before = elim (OwnsNow-before facts e h legal p c owns) [
    | inl was ↦ by (nat_eq e.caller p) refl was (before was.owner)
    | inr none ↦
        let nothing : carries_item facts.layout i [] ≡ true =
        ap (carries_item facts.layout i) (sym none) ∙ still in absurd cc
  ]
    where
      by : (b : Bool) → nat_eq e.caller p ≡ b → OwnsNow h p c → Holds h → Holds (e ∷ h)
      by true same was stood =
          let mine : e.caller ≡ p = eqb-true e.caller p same in
          holds-mine e h legal was stood mine (ap (carries_item facts.layout i) (sym (own-mine e h p mine)) ∙ still)
      by false other was stood =
          let off : e.caller ≢ p = eqb-false e.caller p other in
          holds-beside e h legal was stood off
          (ap (carries_item facts.layout i) (sym (own-others e h p off)) ∙ still)

  pub own_item-bounded : (h : History) → IsLegal facts h → owner_in role h p ≡ Some c → Holds h
  own_item-bounded [] legal is = absurd cc
  own_item-bounded (e ∷ h) legal is =
      by (carries_item facts.layout i (own (e ∷ h) p)) refl (λ owns. own_item-bounded h legal.0 owns)
    where
      by : (b : Bool) → carries_item facts.layout i (own (e ∷ h) p) ≡ b → (owner_in role h p ≡ Some c → Holds h)
          → Holds (e ∷ h)
      by false none before = nothing-carried (e ∷ h) legal none
      by true still before = something-carried e h legal
          (record {
            lives = item-carrier-lives facts (e ∷ h) legal i p
                (is-some (carried_of_item facts.layout i (own (e ∷ h) p)) still);
            owner = is;
          }) still before
