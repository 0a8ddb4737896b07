-- What a CPU hides and what its owner carries of it, less the change that the owner has under way, is at most what the
-- CPU may hide and what others took meanwhile.
use Rattle.std.proofs.Common.{◌≡◌, ◌≢◌, ℕ, ◌+◌, ◌≤◌, ◌&&◌, Bool, true, false, [], ◌∷◌, ℤ, pos, ◌+ℤ◌, ◌-ℤ◌, inl, inr}
use Rattle.std.proofs.Common.{refl, sym, ap, ◌∙◌, arith, subst, nat_eq, eq-eqb, eqb-true, ne_eqb, if◌then◌else◌}
use Rattle.std.proofs.Common.{unsigned_abs, Option, Some, None}
use Rattle.std.proofs.Math.Bool.{and-false}
use Rattle.std.proofs.lemmas.Bool.{and_parts, eqb-false}
use Rattle.std.proofs.lemmas.Int.{ints}
use Rattle.vms_calls.specs.Common.{CounterId, CpuId, Dead, Diffs, GroupId, IsCounter, IsCpu, IsLayout, IsPlace, Mode}
use Rattle.vms_calls.specs.Common.{Online, group_of, own, owner_in, place_of, Event, Facts, Step, Put, SetA, SetO, Take}
use Rattle.vms_calls.specs.Common.{FindsGroup, History, Meets, carried, carried_by, cpu_at, diff_at, differential_after}
use Rattle.vms_calls.specs.Common.{entry, pages, role, state_after}
use Rattle.vms_history.proofs.Common.{base_can_begin, own-mine, own-others, owner_is_caller, same_cpu}
use Rattle.vms_base.proofs.Common.{place_of-lt}
use Rattle.vms_core.specs.Pages.{IsLegal}
use Rattle.vms_core.specs.PeakLaws.{OwnsNow}
use Rattle.vms_core.specs.Conditions.{Puts}
use Rattle.vms_core.proofs.ChangeLemmas.{differential_after-carried_by}
use Rattle.vms_core.proofs.DeadCpus.{dead≢online}
use Rattle.vms_core.proofs.Common.{diff_after, diff_at-effect, owned-online, HasShape-state_after}
use Rattle.vms_core.proofs.Effects.{owned}
use Rattle.vms_core.proofs.Owners.{OwnsNow-before}
use Rattle.vms_core.proofs.Sums.{entry-told}
use Rattle.vms_near.specs.Hiding.{may_hide}
use Rattle.vms_near.specs.InFlight.{carried_from, carries, change_after, changing, moved_from, others_meanwhile}
use Rattle.vms_near.specs.InFlight.{own_meanwhile, taken_meanwhile}
use Rattle.vms_near.proofs.Carriers.{carried_from-none, carrier-lives, carries-none}
use Rattle.vms_near.proofs.MayHide.{Lessens, diff-hidden, hides-grows}

-- a differential, with what is carried of it and less a change, is within what may be hidden and what was taken
abbrev pub IsWithin : (diff took change : ℤ) → (hides taken : ℕ) → Type 0
IsWithin diff took change hides taken = unsigned_abs ((diff +ℤ took) -ℤ change) ≤ hides + taken

module _ (facts : Facts) (p : ℕ) (c : CpuId) (k : ℕ) (c_in : IsCpu facts.layout c.number)
    (k_in : IsCounter facts.layout k) where
  abbrev place : ℕ
  place = place_of facts.layout k

  abbrev took : History → ℤ
  took mine = carried_from (Some c) c.number k mine

  abbrev HoldsFor : History → History → Type 0
  HoldsFor h mine = IsWithin (diff_at (state_after facts h) c.number k) (took mine) (changing facts.layout k mine)
      (may_hide facts h c.number place) (taken_meanwhile facts p k h)

  module _ (e : Event Step) (h : History) (legal : IsLegal facts (e ∷ h)) (was : OwnsNow h p c)
      (before : HoldsFor h (own h p)) where
    layout : IsLayout facts.layout
    layout = (base_can_begin pages facts h legal.0).layout

    place_in : IsPlace facts.layout place
    place_in = place_of-lt facts.layout layout k k_in

    abbrev diff : ℤ
    diff = diff_at (state_after facts h) c.number k

    abbrev hides : ℕ
    hides = may_hide facts h c.number place

    abbrev hides_now : ℕ
    hides_now = may_hide facts (e ∷ h) c.number place

    abbrev took_before : ℤ
    took_before = took (own h p)

    abbrev change : ℤ
    change = changing facts.layout k (own h p)

    abbrev taken : ℕ
    taken = taken_meanwhile facts p k h

    newest : diff_at (state_after facts (e ∷ h)) c.number k
        ≡ diff_after (owner_in role h e.caller) c.number k e.step diff
    newest = diff_at-effect facts h (state_after facts h) e.caller (HasShape-state_after facts h legal.0)
        (owner_in role h e.caller) e.step c.number k refl legal.2 k_in

    now-hidden : unsigned_abs (diff_at (state_after facts (e ∷ h)) c.number k) ≤ hides_now
    now-hidden = diff-hidden facts (e ∷ h) legal c.number k c_in k_in

    was-hidden : unsigned_abs diff ≤ hides
    was-hidden = diff-hidden facts h legal.0 c.number k c_in k_in

    -- the CPU is online
    online : cpu_at (state_after facts h) c.number ≡ Online
    online = (owned-online facts h legal.0 p c was.owner).1

    -- so no step makes it absent
    still-online : (d : CpuId) → cpu_at (state_after facts h) d.number ≡ Dead → d.number ≡ c.number → ⊥
    still-online d dead same = dead≢online (sym dead ∙ ap (cpu_at (state_after facts h)) same ∙ online)

    grown : (Lessens (owner_in role h e.caller) c.number place e.step → ⊥) → hides ≤ hides_now
    grown other = hides-grows facts e h legal c.number place c_in place_in other

    took-told : (d : CpuId) (j : GroupId) (w : Diffs) → FindsGroup facts (state_after facts h) d j w
        → d.number ≡ c.number → j.number ≡ group_of k → entry w.values k ≡ diff
    took-told d j w finds here at =
        entry-told (state_after facts h) c.number j.number k w.values (rw here at finds.values) at

    module _ (mine : e.caller ≡ p) (still : carries k (e ∷ own h p) ≡ true) where
      is_mine : owner_in role h e.caller ≡ Some c
      is_mine = ap (owner_in role h) mine ∙ was.owner

      -- after each kind of step of the owner
      abbrev After : Step → Type 0
      After step = IsWithin (diff_after (Some c) c.number k step diff) (took_before +ℤ moved_from (Some c) c.number k step)
          (change_after facts.layout k step change) hides_now
          (own_meanwhile facts.layout (Some c) k (own h p) step taken)

      put-after : (l : CounterId) (w : Diffs) (t : ℕ) (delta : ℤ) (how : Mode)
          → Puts facts h (state_after facts h) e.caller l w t delta → hides ≤ hides_now → After (Put l w t delta how)
      put-after l w t delta how puts grew = by (nat_eq l.number k) refl
        where
          self : nat_eq c.number c.number ≡ true
          self = eq-eqb c.number c.number refl

          by : (b : Bool) → nat_eq l.number k ≡ b
              → IsWithin (if nat_eq c.number c.number && b then differential_after how t (entry w.values l.number) delta
              else diff)
              (took_before +ℤ (if nat_eq c.number c.number && b then carried_by how t (entry w.values l.number) delta
              else pos 0))
              (if b then delta else change) hides_now (if b then 0 else taken)
          by true here =
              let same : puts.cpu ≡ c = owned facts h (state_after facts h) e.caller
              (HasShape-state_after facts h legal.0) c puts.cpu is_mine puts.owns in
              let told : entry w.values l.number ≡ diff_at (state_after facts h) c.number l.number =
              rw same at (entry-told (state_after facts h) puts.cpu.number (group_of l.number) l.number w.values
              puts.values refl) in
              let is : entry w.values l.number ≡ diff =
              told ∙ ap (diff_at (state_after facts h) c.number) (eqb-true l.number k here) in
              let none : took_before ≡ pos 0 = carried_from-none (Some c) c.number k (own h p)
              (carries-none k (own h p)
              (subst (λ q. carried k (own h q) ≡ pos 0) mine (puts.nothing_carried.counters k))) in
              let kept = differential_after-carried_by how t (entry w.values l.number) delta in
              rw self (omega (arith, ints, kept, is, none, was-hidden, grew))
          by false other = rw self (omega (arith, ints, before, grew))

      take-after : (d : CpuId) (j : GroupId) (w : Diffs) → FindsGroup facts (state_after facts h) d j w
          → hides ≤ hides_now → After (Take d j w)
      take-after d j w finds grew = by (nat_eq d.number c.number && nat_eq j.number (group_of k)) refl
        where
          by : (b : Bool) → (nat_eq d.number c.number && nat_eq j.number (group_of k)) ≡ b
              → IsWithin (if b then pos 0 else diff) (took_before +ℤ (if b then entry w.values k else pos 0)) change
              hides_now taken
          by true here =
              let parts = and_parts (nat_eq d.number c.number) (nat_eq j.number (group_of k)) here in
              let told = took-told d j w finds (eqb-true d.number c.number parts.0)
              (eqb-true j.number (group_of k) parts.1) in
              omega (arith, ints, told, before, grew)
          by false other = omega (arith, ints, before, grew)

      stays : hides ≤ hides_now → IsWithin diff (took_before +ℤ pos 0) change hides_now taken
      stays grew = omega (arith, ints, before, grew)

      -- once the owner acknowledges a threshold of the zone, what it carries counts as taken meanwhile
      acknowledged-after : (b : Bool) → (b ≡ false → hides ≤ hides_now)
          → diff_at (state_after facts (e ∷ h)) c.number k ≡ diff
          → IsWithin diff (took_before +ℤ pos 0) (if b then pos 0 else change) hides_now
          (if b then unsigned_abs took_before else taken)
      acknowledged-after true grew same = omega (arith, ints, now-hidden, same)
      acknowledged-after false grew same = omega (arith, ints, before, grew refl)

      by-kind : (step : Step) → Meets facts h (state_after facts h) e.caller step
          → ((Lessens (Some c) c.number place step → ⊥) → hides ≤ hides_now)
          → diff_at (state_after facts (e ∷ h)) c.number k ≡ diff_after (Some c) c.number k step diff → After step
      by-kind (Put l w t delta how) meets grew now = put-after l w t delta how meets (grew (λ less. less))
      by-kind (Take d j w) meets grew now = take-after d j w meets (grew (λ less. less))
      by-kind (SetA f a) meets grew now = acknowledged-after (nat_eq f.number place)
          (λ off. grew (λ less. eqb-false f.number place off less.1)) now
      by-kind (SetO d) meets grew now = let both = sym meets.control ∙ is_mine in absurd cc
      by-kind _ meets grew now = stays (grew (λ less. less))

      newest_mine : diff_at (state_after facts (e ∷ h)) c.number k ≡ diff_after (Some c) c.number k e.step diff
      newest_mine = newest ∙ ap (λ who. diff_after who c.number k e.step diff) is_mine

      after-mine : After e.step
      after-mine = by-kind e.step legal.2
          (λ other. grown (λ less. other (subst (λ who. Lessens who c.number place e.step) is_mine less))) newest_mine

      holds-mine : HoldsFor (e ∷ h) (own (e ∷ h) p)
      holds-mine = rw (eq-eqb e.caller p mine, newest_mine, still, was.owner) after-mine

    module _ (other : e.caller ≢ p) (still : carries k (own h p) ≡ true) where
      not_mine : owner_in role h e.caller ≡ Some c → ⊥
      not_mine is = other (owner_is_caller pages facts e h p c legal was.lives was.owner is)

      abbrev Beside : Option CpuId → Step → Type 0
      Beside who step = IsWithin (diff_after who c.number k step diff) took_before change hides_now
          (others_meanwhile (Some c) k step taken)

      take-beside : (d : CpuId) (j : GroupId) (w : Diffs) → FindsGroup facts (state_after facts h) d j w
          → hides ≤ hides_now
          → IsWithin (if nat_eq d.number c.number && nat_eq j.number (group_of k) then pos 0 else diff) took_before change
          hides_now (if nat_eq c.number d.number && nat_eq j.number (group_of k) then taken + unsigned_abs (entry w.values k)
          else taken)
      take-beside d j w finds grew = by (nat_eq d.number c.number) (nat_eq j.number (group_of k)) refl refl
        where
          by : (b g : Bool) → nat_eq d.number c.number ≡ b → nat_eq j.number (group_of k) ≡ g
              → IsWithin (if b && g then pos 0 else diff) took_before change hides_now
              (if nat_eq c.number d.number && g then taken + unsigned_abs (entry w.values k) else taken)
          by true true here at =
              let same : d.number ≡ c.number = eqb-true d.number c.number here in
              let told = took-told d j w finds same (eqb-true j.number (group_of k) at) in
              let there : nat_eq c.number d.number ≡ true = eq-eqb c.number d.number (sym same) in
              rw there (omega (arith, ints, told, before, grew))
          by true false here at = rw (and-false (nat_eq c.number d.number)) (omega (arith, ints, before, grew))
          by false g here at =
              let there : nat_eq c.number d.number ≡ false =
              ne_eqb c.number d.number (λ same. eqb-false d.number c.number here (sym same)) in
              rw there (omega (arith, ints, before, grew))

      beside : (who : Option CpuId) (step : Step) → Meets facts h (state_after facts h) e.caller step
          → (who ≡ Some c → ⊥) → ((Lessens who c.number place step → ⊥) → hides ≤ hides_now) → Beside who step
      beside (Some o) (Put l w t delta how) meets off grew =
          rw (ne_eqb o.number c.number (λ same. off (ap (λ (d : CpuId). Some d) (same_cpu o c same))))
          (omega (arith, ints, before, grew (λ less. less)))
      beside None (Take d j w) meets off grew = take-beside d j w meets (grew (λ less. less))
      beside (Some o) (Take d j w) meets off grew = take-beside d j w meets (grew (λ less. less))
      beside (Some o) (SetA f a) meets off grew = omega (
        arith,
        ints,
        before,
        grew (λ less. off (ap (λ (d : CpuId). Some d) (same_cpu o c less.0))),
      )
      beside None (SetO d) meets off grew = omega (arith, ints, before, grew (still-online d meets.dead))
      beside (Some o) (SetO d) meets off grew = omega (arith, ints, before, grew (still-online d meets.dead))
      beside None _ meets off grew = omega (arith, ints, before, grew (λ less. less))
      beside (Some o) _ meets off grew = omega (arith, ints, before, grew (λ less. less))

      holds-beside : HoldsFor (e ∷ h) (own (e ∷ h) p)
      holds-beside = rw (ne_eqb e.caller p other, newest, still, was.owner)
          (beside (owner_in role h e.caller) e.step legal.2 not_mine grown)

changing-none : (facts : Facts) (k : ℕ) (mine : History) → carries k mine ≡ false
    → changing facts.layout k mine ≡ pos 0
changing-none facts k [] none = refl
changing-none facts k (e ∷ mine) none = rw none refl

pub meanwhile-none : (facts : Facts) (p k : ℕ) (h : History) → carries k (own h p) ≡ false → taken_meanwhile facts p k h ≡ 0
meanwhile-none facts p k [] none = refl
meanwhile-none facts p k (e ∷ h) none = rw none refl

module _ (facts : Facts) (p : ℕ) (c : CpuId) (k : ℕ) (c_in : IsCpu facts.layout c.number)
    (k_in : IsCounter facts.layout k) where
  abbrev Holds : History → Type 0
  Holds h = HoldsFor facts p c k c_in k_in h (own h p)

  nothing-carried : (h : History) → IsLegal facts h → carries k (own h p) ≡ false → Holds h
  nothing-carried h legal none =
      rw (
        carried_from-none (Some c) c.number k (own h p) none,
        changing-none facts k (own h p) none,
        meanwhile-none facts p k h none,
      )
      (omega (arith, ints, diff-hidden facts h legal c.number k c_in k_in))

  something-carried : (e : Event Step) (h : History) → IsLegal facts (e ∷ h) → OwnsNow (e ∷ h) p c
      → carries k (own (e ∷ h) p) ≡ true → (owner_in role h p ≡ Some c → Holds h) → Holds (e ∷ h)
  something-carried e h legal owns still before = elim (OwnsNow-before facts e h legal p c owns) [
    | inl was ↦ by (nat_eq e.caller p) refl was (before was.owner)
    | inr none ↦ let nothing : carries k [] ≡ true = ap (carries k) (sym none) ∙ still in absurd cc
  ]
    where
      by : (b : Bool) → nat_eq e.caller p ≡ b → OwnsNow h p c → Holds h → Holds (e ∷ h)
      by true same was stood =
          let mine : e.caller ≡ p = eqb-true e.caller p same in
          holds-mine facts p c k c_in k_in e h legal was stood mine (ap (carries k) (sym (own-mine e h p mine)) ∙ still)
      by false other was stood =
          let off : e.caller ≢ p = eqb-false e.caller p other in
          holds-beside facts p c k c_in k_in e h legal was stood off
          (ap (carries k) (sym (own-others e h p off)) ∙ still)

  pub own-bounded : (h : History) → IsLegal facts h → owner_in role h p ≡ Some c → Holds h
  own-bounded [] legal is = absurd cc
  own-bounded (e ∷ h) legal is =
      by (carries k (own (e ∷ h) p)) refl (λ owns. own-bounded h legal.0 owns)
    where
      by : (b : Bool) → carries k (own (e ∷ h) p) ≡ b → (owner_in role h p ≡ Some c → Holds h) → Holds (e ∷ h)
      by false none before = nothing-carried (e ∷ h) legal none
      by true still before = something-carried e h legal
          (record { lives = carrier-lives facts (e ∷ h) legal k p still; owner = is }) still before
