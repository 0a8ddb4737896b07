-- What a CPU's differential comes to, with what others took of it, while its owner carries something that came out of
-- that CPU alone.
use Rattle.std.proofs.Common.{◌≡◌, ◌≢◌, ℕ, ◌+◌, ◌≤◌, ◌&&◌, ◌||◌, Bool, true, false, [], ◌∷◌, ◌++◌, ℤ, pos, neg_ℤ, ◌+ℤ◌}
use Rattle.std.proofs.Common.{inl, inr, refl, sym, ap, ◌∙◌, arith, subst, nat_eq, nat_le, eq-eqb, eqb-true, ne_eqb}
use Rattle.std.proofs.Common.{if◌then◌else◌, unsigned_abs, Option, Some, None}
use Rattle.std.proofs.Math.Bool.{and-false}
use Rattle.std.proofs.lemmas.Bool.{eqb-false, or_parts}
use Rattle.std.proofs.lemmas.Int.{ints}
use Rattle.vms_base.proofs.Common.{place_of-lt}
use Rattle.vms_calls.specs.Common.{CounterId, CpuId, Dec, Diffs, GroupId, Inc, IsCounter, IsCpu, IsLayout, Mod, Mode}
use Rattle.vms_calls.specs.Common.{Shape, group_of, lives_in, most_threshold, own, owner_in, place_of, Event, Facts}
use Rattle.vms_calls.specs.Common.{Step, AddG, Put, SetA, Take, FindsGroup, History, Meets, carried, carried_by}
use Rattle.vms_calls.specs.Common.{diff_at, differential_after, entry, moved, pages, role, state_after}
use Rattle.vms_history.proofs.Common.{base_can_begin, live_is_given, own-mine, own-others, owner_in-append}
use Rattle.vms_history.proofs.Common.{owner_is_caller, same_cpu}
use Rattle.vms_core.specs.Changes.{overstep_of}
use Rattle.vms_core.specs.Pages.{IsLegal}
use Rattle.vms_core.specs.PeakLaws.{OwnsNow}
use Rattle.vms_core.specs.Conditions.{Puts}
use Rattle.vms_core.proofs.Common.{laws-kept, diff_after, diff_at-effect, HasShape-state_after}
use Rattle.vms_core.proofs.Owners.{OwnsNow-before}
use Rattle.vms_core.proofs.Sums.{entry-told}
use Rattle.vms_near.specs.CallFlight.{most_overstep, others_take, takes_from}
use Rattle.vms_near.specs.InFlight.{carries, others_meanwhile, own_meanwhile, taken_meanwhile}
use Rattle.vms_near.proofs.CarriedFrom.{owner_in-mine}
use Rattle.vms_near.proofs.Carriers.{carrier-lives, carries-some, carries-true}
use Rattle.vms_near.proofs.OneCpu.{Keeps, Kept}
use Rattle.vms_near.proofs.OwnCpus.{meanwhile-none}

-- what a change leaves that carries something is how far it goes beyond what it has to
left-over : (how : Mode) (t : ℕ) (found delta : ℤ) → carried_by how t found delta ≢ pos 0
    → unsigned_abs (differential_after how t found delta) ≡ unsigned_abs (overstep_of how t)
left-over how t found delta some = by (nat_le (unsigned_abs (found +ℤ delta)) t) some
  where
    by : (b : Bool) → (if b then pos 0 else (found +ℤ delta) +ℤ overstep_of how t) ≢ pos 0
        → unsigned_abs (if b then found +ℤ delta else neg_ℤ (overstep_of how t)) ≡ unsigned_abs (overstep_of how t)
    by true none = absurd (none refl)
    by false carries = omega (arith, ints)

overstep-most : (how : Mode) (t : ℕ) → t ≤ most_threshold → unsigned_abs (overstep_of how t) ≤ most_overstep how
overstep-most Mod t small = omega arith
overstep-most Inc t small = omega (arith, small)
overstep-most Dec t small = omega (arith, ints, small)

module _ (part : ℤ → ℕ) (change over : ℕ) (facts : Facts) (p : ℕ) (c : CpuId) (k : ℕ)
    (c_in : IsCpu facts.layout c.number) (k_in : IsCounter facts.layout k) where
  -- the differential, and what others took of it, are at most so much
  abbrev pub Leaves : History → Type 0
  Leaves h = unsigned_abs (diff_at (state_after facts h) c.number k) + taken_meanwhile facts p k h ≤ over

  abbrev KeptHere : Step → Type 0
  KeptHere = Kept part (Some c) c k change over

  module _ (e : Event Step) (h : History) (legal : IsLegal facts (e ∷ h)) (was : OwnsNow h p c) where
    layout : IsLayout facts.layout
    layout = (base_can_begin pages facts h legal.0).layout

    abbrev diff : ℤ
    diff = diff_at (state_after facts h) c.number k

    abbrev taken : ℕ
    taken = taken_meanwhile facts p k h

    newest : diff_at (state_after facts (e ∷ h)) c.number k
        ≡ diff_after (owner_in role h e.caller) c.number k e.step diff
    newest = diff_at-effect facts h (state_after facts h) e.caller (HasShape-state_after facts h legal.0)
        (owner_in role h e.caller) e.step c.number k refl legal.2 k_in

    took-told : (d : CpuId) (j : GroupId) (w : Diffs) → FindsGroup facts (state_after facts h) d j w
        → d.number ≡ c.number → j.number ≡ group_of k → entry w.values k ≡ diff
    took-told d j w finds here at =
        entry-told (state_after facts h) c.number j.number k w.values (rw here at finds.values) at

    module _ (mine : e.caller ≡ p) (still : carries k (e ∷ own h p) ≡ true)
        (before : carries k (own h p) ≡ true → Leaves h) where
      is_mine : owner_in role h e.caller ≡ Some c
      is_mine = ap (owner_in role h) mine ∙ was.owner

      some : moved k e.step +ℤ carried k (own h p) ≢ pos 0
      some = carries-some k (e ∷ own h p) still

      -- where a step moves nothing, something was carried before
      carried-before : moved k e.step ≡ pos 0 → Leaves h
      carried-before none = before (carries-true k (own h p) (λ was. some (omega (arith, ints, none, was))))

      -- where nothing was, nothing was taken either
      taken-before : taken ≤ over
      taken-before = by (carries k (own h p)) refl
        where
          by : (b : Bool) → carries k (own h p) ≡ b → taken ≤ over
          by true carrying = let leaves = before carrying in omega arith
          by false none = rw (meanwhile-none facts p k h none) (omega arith)

      abbrev After : Step → Type 0
      After step = unsigned_abs (diff_after (Some c) c.number k step diff)
          + own_meanwhile facts.layout (Some c) k (own h p) step taken ≤ over

      put-after : (l : CounterId) (w : Diffs) (t : ℕ) (delta : ℤ) (how : Mode)
          → Puts facts h (state_after facts h) e.caller l w t delta → most_overstep how ≤ over
          → moved k (Put l w t delta how) +ℤ carried k (own h p) ≢ pos 0 → After (Put l w t delta how)
      put-after l w t delta how puts kept some = by (nat_eq l.number k) some
        where
          none : carried k (own h p) ≡ pos 0
          none = subst (λ q. carried k (own h q) ≡ pos 0) mine (puts.nothing_carried.counters k)

          small : t ≤ most_threshold
          small = omega (
            arith,
            (laws-kept facts h legal.0).loaded_by_peaks e.caller puts.cpu (place_of facts.layout l.number)
                (record { t = t; number = puts.number })
                (record {
                  lives = subst (λ q. lives_in role h q ≡ true) (sym mine) was.lives;
                  owner = puts.owns.owner;
                })
                (place_of-lt facts.layout layout l.number puts.counter) puts.as_loaded,
            (laws-kept facts h legal.0).peaks puts.cpu.number (place_of facts.layout l.number) puts.owns.within
                (place_of-lt facts.layout layout l.number puts.counter),
          )

          by : (b : Bool)
              → (if b then carried_by how t (entry w.values l.number) delta else pos 0) +ℤ carried k (own h p) ≢ pos 0
              → unsigned_abs (if nat_eq c.number c.number && b then differential_after how t (entry w.values l.number)
              delta else diff) + (if b then 0 else taken) ≤ over
          by true some =
              rw (eq-eqb c.number c.number refl)
              (omega (
                arith,
                left-over how t (entry w.values l.number) delta (λ is. some (omega (arith, ints, is, none))),
                overstep-most how t small,
                kept,
              ))
          by false some = absurd (some (omega (arith, ints, none)))

      take-after : (d : CpuId) (j : GroupId) (w : Diffs) → d.number ≡ c.number
          → moved k (Take d j w) +ℤ carried k (own h p) ≢ pos 0 → After (Take d j w)
      take-after d j w here some = by (nat_eq j.number (group_of k)) some
        where
          by : (b : Bool) → (if b then entry w.values k else pos 0) +ℤ carried k (own h p) ≢ pos 0
              → unsigned_abs (if nat_eq d.number c.number && b then pos 0 else diff) + taken ≤ over
          by true some = rw (eq-eqb d.number c.number here) (omega (arith, taken-before))
          by false some =
              rw (and-false (nat_eq d.number c.number))
              (before (carries-true k (own h p) (λ was. some (omega (arith, ints, was)))))

      -- an addition to the counter is one of all that was carried
      add-after : (l : CounterId) (a : ℤ) → Meets facts h (state_after facts h) e.caller (AddG l a)
          → moved k (AddG l a) +ℤ carried k (own h p) ≢ pos 0 → Leaves h
      add-after l a meets some = by (nat_eq l.number k) refl some
        where
          by : (b : Bool) → nat_eq l.number k ≡ b
              → (if b then neg_ℤ a else pos 0) +ℤ carried k (own h p) ≢ pos 0 → Leaves h
          by true here some =
              let carries_it : carried l.number (own h e.caller) ≡ a = meets.carries in
              let all : carried k (own h p) ≡ a =
              subst (λ q. carried k (own h q) ≡ a) mine
              (subst (λ n. carried n (own h e.caller) ≡ a) (eqb-true l.number k here) carries_it) in
              absurd (some (omega (arith, ints, all)))
          by false other some = before (carries-true k (own h p) (λ was. some (omega (arith, ints, was))))

      by-kind : (step : Step) → Meets facts h (state_after facts h) e.caller step → KeptHere step
          → moved k step +ℤ carried k (own h p) ≢ pos 0 → After step
      by-kind (Put l w t delta how) meets kept some = put-after l w t delta how meets kept.1.1 some
      by-kind (Take d j w) meets kept some = take-after d j w kept some
      by-kind (AddG l a) meets kept some = add-after l a meets some
      by-kind (SetA g a) meets kept some = absurd kept
      by-kind _ meets kept some = before (carries-true k (own h p) (λ was. some (omega (arith, ints, was))))

      leaves-mine : KeptHere e.step → Leaves (e ∷ h)
      leaves-mine kept =
          let now : diff_at (state_after facts (e ∷ h)) c.number k ≡ diff_after (Some c) c.number k e.step diff =
          newest ∙ ap (λ who. diff_after who c.number k e.step diff) is_mine in
          rw (eq-eqb e.caller p mine, now, still, was.owner) (by-kind e.step legal.2 kept some)

    module _ (other : e.caller ≢ p) (still : carries k (own h p) ≡ true) (before : Leaves h) where
      not_mine : owner_in role h e.caller ≡ Some c → ⊥
      not_mine is = other (owner_is_caller pages facts e h p c legal was.lives was.owner is)

      abbrev Beside : Option CpuId → Step → Type 0
      Beside who step = unsigned_abs (diff_after who c.number k step diff)
          + others_meanwhile (Some c) k step taken ≤ over

      take-beside : (d : CpuId) (j : GroupId) (w : Diffs) → FindsGroup facts (state_after facts h) d j w
          → unsigned_abs (if nat_eq d.number c.number && nat_eq j.number (group_of k) then pos 0 else diff)
          + (if nat_eq c.number d.number && nat_eq j.number (group_of k) then taken + unsigned_abs (entry w.values k)
          else taken) ≤ over
      take-beside d j w finds = by (nat_eq d.number c.number) (nat_eq j.number (group_of k)) refl refl
        where
          by : (b g : Bool) → nat_eq d.number c.number ≡ b → nat_eq j.number (group_of k) ≡ g
              → unsigned_abs (if b && g then pos 0 else diff)
              + (if nat_eq c.number d.number && g then taken + unsigned_abs (entry w.values k) else taken) ≤ over
          by true true here at =
              let same : d.number ≡ c.number = eqb-true d.number c.number here in
              let told = took-told d j w finds same (eqb-true j.number (group_of k) at) in
              rw (eq-eqb c.number d.number (sym same)) (omega (arith, ints, told, before))
          by true false here at = rw (and-false (nat_eq c.number d.number)) before
          by false g here at =
              rw (ne_eqb c.number d.number (λ same. eqb-false d.number c.number here (sym same))) before

      beside : (who : Option CpuId) (step : Step) → Meets facts h (state_after facts h) e.caller step
          → (who ≡ Some c → ⊥) → Beside who step
      beside (Some o) (Put l w t delta how) meets off =
          rw (ne_eqb o.number c.number (λ same. off (ap (λ (d : CpuId). Some d) (same_cpu o c same)))) before
      beside None (Take d j w) meets off = take-beside d j w meets
      beside (Some o) (Take d j w) meets off = take-beside d j w meets
      beside None _ meets off = before
      beside (Some o) _ meets off = before

      leaves-beside : Leaves (e ∷ h)
      leaves-beside = rw (ne_eqb e.caller p other, newest, still, was.owner)
          (beside (owner_in role h e.caller) e.step legal.2 not_mine)

  one-more : (e : Event Step) (h : History) → IsLegal facts (e ∷ h) → OwnsNow (e ∷ h) p c
      → Keeps part (Some c) c k change over (own (e ∷ h) p) → carries k (own (e ∷ h) p) ≡ true
      → (owner_in role h p ≡ Some c → Keeps part (Some c) c k change over (own h p) → carries k (own h p) ≡ true
      → Leaves h)
      → Leaves (e ∷ h)
  one-more e h legal owns keeps still before = elim (OwnsNow-before facts e h legal p c owns) [
    | inl was ↦ by (nat_eq e.caller p) refl was (before was.owner)
    | inr none ↦ let nothing : carries k [] ≡ true = ap (carries k) (sym none) ∙ still in absurd cc
  ]
    where
      by : (b : Bool) → nat_eq e.caller p ≡ b → OwnsNow h p c
          → (Keeps part (Some c) c k change over (own h p) → carries k (own h p) ≡ true → Leaves h) → Leaves (e ∷ h)
      by true same was earlier =
          let mine : e.caller ≡ p = eqb-true e.caller p same in
          let is = own-mine e h p mine in
          let carrying : carries k (e ∷ own h p) ≡ true = ap (carries k) (sym is) ∙ still in
          let kept = subst (Keeps part (Some c) c k change over) is keeps carrying in
          leaves-mine e h legal was mine carrying (earlier kept.1) kept.0
      by false different was earlier =
          let other : e.caller ≢ p = eqb-false e.caller p different in
          let is = own-others e h p other in
          let carrying : carries k (own h p) ≡ true = ap (carries k) (sym is) ∙ still in
          leaves-beside e h legal was other carrying
          (earlier (subst (Keeps part (Some c) c k change over) is keeps) carrying)

  pub leaves-little : (h : History) → IsLegal facts h → owner_in role h p ≡ Some c
      → Keeps part (Some c) c k change over (own h p) → carries k (own h p) ≡ true → Leaves h
  leaves-little [] legal owns keeps still = absurd cc
  leaves-little (e ∷ h) legal owns keeps still =
      one-more e h legal (record { lives = carrier-lives facts (e ∷ h) legal k p still; owner = owns }) keeps still
      (λ was. leaves-little h legal.0 was)

-- and nothing was taken if no other caller took from its CPU since it carried nothing
module _ (part : ℤ → ℕ) (change over : ℕ) (facts : Facts) (p : ℕ) (who : Option CpuId) (c : CpuId) (k : ℕ) where
  own-none : (shape : Shape) (owner : Option CpuId) (mine : History) (step : Step) (before : ℕ)
      → Kept part who c k change over step → before ≡ 0 → own_meanwhile shape owner k mine step before ≡ 0
  own-none shape owner mine (Put l w t delta how) before kept none = by (nat_eq l.number k)
    where
      by : (b : Bool) → (if b then 0 else before) ≡ 0
      by true = refl
      by false = none
  own-none shape owner mine (SetA g a) before kept none = absurd kept
  own-none shape owner mine _ before kept none = none

  others-none : (owner : Option CpuId) (step : Step) (before : ℕ) → takes_from owner step ≡ false → before ≡ 0
      → others_meanwhile owner k step before ≡ 0
  others-none owner (Take d j w) before not_own none = rw (not_own, none) refl
  others-none owner _ before not_own none = none

  pub none-taken : (more earlier : History) → IsLegal facts (more ++ earlier) → carries k (own earlier p) ≡ false
      → owner_in role (more ++ earlier) p ≡ who → Keeps part who c k change over (own (more ++ earlier) p)
      → others_take who p more ≡ false → taken_meanwhile facts p k (more ++ earlier) ≡ 0
  none-taken [] earlier legal none owns keeps alone = meanwhile-none facts p k earlier none
  none-taken (e ∷ more) earlier legal none owns keeps alone =
      by (carries k (own (e ∷ (more ++ earlier)) p)) refl
      (λ was keep quiet. none-taken more earlier legal.0 none was keep quiet)
    where
      h : History
      h = more ++ earlier

      by : (b : Bool) → carries k (own (e ∷ h) p) ≡ b
          → (owner_in role h p ≡ who → Keeps part who c k change over (own h p) → others_take who p more ≡ false
          → taken_meanwhile facts p k h ≡ 0) → taken_meanwhile facts p k (e ∷ h) ≡ 0
      by false nothing before = meanwhile-none facts p k (e ∷ h) nothing
      by true still before = at (nat_eq e.caller p) refl
        where
          at : (b : Bool) → nat_eq e.caller p ≡ b → taken_meanwhile facts p k (e ∷ h) ≡ 0
          at true same =
              let mine : e.caller ≡ p = eqb-true e.caller p same in
              let owner : owner_in role (e ∷ h) p ≡ owner_in role h p =
              subst (λ q. owner_in role (e ∷ h) q ≡ owner_in role h q) mine (owner_in-mine facts e h legal) in
              let is = own-mine e h p mine in
              let kept = subst (Keeps part who c k change over) is keeps (ap (carries k) (sym is) ∙ still) in
              let nothing = before (sym owner ∙ owns) kept.1 (rw same at alone) in
              rw (still, same) (own-none facts.layout (owner_in role h p) (own h p) e.step (taken_meanwhile facts p k h)
              kept.0 nothing)
          at false different =
              let other : e.caller ≢ p = eqb-false e.caller p different in
              let is = own-others e h p other in
              let lives = carrier-lives facts h legal.0 k p (ap (carries k) (sym is) ∙ still) in
              let owner : owner_in role (e ∷ h) p ≡ owner_in role h p =
              owner_in-append pages facts (e ∷ []) h p legal (live_is_given pages facts h p legal.0 lives).1 in
              let quiet : (takes_from who e.step || others_take who p more) ≡ false = rw different at alone in
              let off = or_parts (takes_from who e.step) (others_take who p more) quiet in
              let nothing = before (sym owner ∙ owns) (subst (Keeps part who c k change over) is keeps) off.1 in
              rw (still, different) (others-none (owner_in role h p) e.step (taken_meanwhile facts p k h)
              (ap (λ o. takes_from o e.step) (sym owner ∙ owns) ∙ off.0) nothing)
