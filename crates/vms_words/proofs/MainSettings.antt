-- What the main pass keeps for the next control pass stands while none lives.
use Rattle.std.proofs.Common.{◌≡◌, ℕ, suc, nat_eq, true, false, ◌∷◌, Option, Some, None, refl, sym, ap, ◌∙◌, subst}
use Rattle.std.proofs.Common.{arith, if◌then◌else◌, ne_eqb}
use Rattle.vms_calls.specs.Common.{CpuId, Event, own, GoesOnWithout, begun_in, lives, lives_in, owner, owner_in, IsFree}
use Rattle.vms_calls.specs.Common.{Facts, Step, Split, Join, pages, History, role}
use Rattle.vms_history.proofs.Common.{own-others, live_is_given, lives_in-main, owner_in-main, owner_in-append}
use Rattle.vms_seats.specs.Common.{HasBegun, HasEnded, MainMakes, next_number, Pass, IsLive}
use Rattle.vms_core.specs.Pages.{IsLegal}
use Rattle.vms_core.proofs.Common.{settings-stand, control-knows_later}
use Rattle.vms_words.specs.declared.kept.Settings.{Settings}
use Rattle.vms_words.specs.Common.{KeepsSettings, IsControlPass, IsMainPass, kept_after}
use Rattle.vms_words.proofs.KeptSettings.{KeepsSettings-later, KeepsSettings-step}

-- what the main pass makes leaves what is known, where it leaves the settings and no control pass lived
module _ (facts : Facts) (later earlier : History) (step : Step) (made : MainMakes pages facts later earlier step) where
  legal : IsLegal facts (record { caller = 0; step = step } ∷ made.before)
  legal = subst (IsLegal facts) made.newest made.legal

  KeepsSettings-made : (kept : Settings) → kept_after facts.layout step kept ≡ kept → IsFree role earlier None
      → KeepsSettings facts earlier kept → KeepsSettings facts later kept
  KeepsSettings-made kept leaves free knows =
      subst (λ h. KeepsSettings facts h kept) (sym made.newest)
      (subst (KeepsSettings facts (record { caller = 0; step = step } ∷ made.before)) leaves
      (KeepsSettings-step facts made.before 0 step kept legal
      (KeepsSettings-later facts made.before earlier kept
      (settings-stand facts made.before earlier
      (record { legal = legal.0; extends = made.extends; own_same = made.own_same }) free) knows)))

  -- passes are as they were when the step is made
  lived : (p : ℕ) → lives_in role made.before p ≡ lives_in role earlier p
  lived p = ap (λ es. lives role es p) made.own_same

  owned : (p : ℕ) → owner_in role made.before p ≡ owner_in role earlier p
  owned p = ap (λ es. owner role es p) made.own_same

-- while the main pass begins a pass that owns a CPU
module _ (new old pass : Pass Facts Step) (cpu : CpuId) (begun : HasBegun pages Split new old pass (Some cpu)) where
  free-begun : IsFree role new.seen None → IsFree role old.seen None
  free-begun free p lives_now owns =
      let made = begun.made in
      let q = next_number pages old.seen in
      let e : Event Step = record { caller = 0; step = Split q (Some cpu) } in
      let legal_now = legal old.facts new.seen old.seen (Split q (Some cpu)) made in
      let given = live_is_given pages old.facts made.before p legal_now.0
      (lived old.facts new.seen old.seen (Split q (Some cpu)) made p ∙ lives_now) in
      let next : q ≡ suc (begun_in role made.before) = legal_now.1.1 in
      let other : nat_eq q p ≡ false = ne_eqb q p (λ same. omega (arith, same, given.1, next)) in
      free p
      (ap (λ h. lives_in role h p) made.newest ∙ lives_in-main role e made.before p refl
      ∙ ap (λ b. if b then true else lives_in role made.before p) other
      ∙ lived old.facts new.seen old.seen (Split q (Some cpu)) made p ∙ lives_now)
      (ap (λ h. owner_in role h p) made.newest ∙ owner_in-main role e made.before p refl
      ∙ ap (λ b. if b then Some cpu else owner_in role made.before p) other
      ∙ owned old.facts new.seen old.seen (Split q (Some cpu)) made p ∙ owns)

  pub IsMainPass-begun : (kept : Option Settings) → IsMainPass old kept → IsMainPass new kept
  IsMainPass-begun kept is free =
      let free_before = free-begun free in
      let had = is free_before in (
        had.0,
        had.1,
        subst (λ (f : Facts). KeepsSettings f new.seen had.0) (sym begun.main.facts)
            (KeepsSettings-made old.facts new.seen old.seen (Split (next_number pages old.seen) (Some cpu))
            begun.made had.0
            refl free_before had.2),
      )

-- while it ends one
module _ (new old pass : Pass Facts Step) (cpu : CpuId) (ended : HasEnded pages Join new old pass)
    (same_facts : pass.facts ≡ old.facts) (live : IsLive pages pass) (owns_cpu : pass.cpu ≡ Some cpu) where
  owner-before : owner_in role ended.made.before pass.number ≡ Some cpu
  owner-before =
      let legal_now = legal old.facts new.seen old.seen (Join pass.number) ended.made in
      let given = live_is_given pages pass.facts pass.seen pass.number live.legal live.lives in
      ap (λ (h : History). owner_in role h pass.number) ended.knew.1
      ∙ owner_in-append pages old.facts ended.knew.0 pass.seen pass.number
      (subst (IsLegal old.facts) ended.knew.1 legal_now.0) given.1
      ∙ live.owner ∙ owns_cpu

  free-ended : IsFree role new.seen None → IsFree role old.seen None
  free-ended free p lives_now owns =
      let made = ended.made in
      let e : Event Step = record { caller = 0; step = Join pass.number } in
      let owner_is : owner_in role made.before p ≡ None =
      owned old.facts new.seen old.seen (Join pass.number) made p ∙ owns in
      let other : nat_eq pass.number p ≡ false = ne_eqb pass.number p (λ same.
      let has = owner-before in
      let is : owner_in role made.before pass.number ≡ None = ap (owner_in role made.before) same ∙ owner_is in
      cc) in
      free p
      (ap (λ h. lives_in role h p) made.newest ∙ lives_in-main role e made.before p refl
      ∙ ap (λ b. if b then false else lives_in role made.before p) other
      ∙ lived old.facts new.seen old.seen (Join pass.number) made p ∙ lives_now)
      (ap (λ h. owner_in role h p) made.newest ∙ owner_in-main role e made.before p refl ∙ owner_is)

  pub IsMainPass-ended : (kept : Option Settings) → IsMainPass old kept → IsMainPass new kept
  IsMainPass-ended kept is free =
      let free_before = free-ended free in
      let had = is free_before in (
        had.0,
        had.1,
        subst (λ (f : Facts). KeepsSettings f new.seen had.0) (sym ended.main.facts)
            (KeepsSettings-made old.facts new.seen old.seen (Join pass.number) ended.made had.0 refl free_before had.2),
      )

-- a control pass takes over what is kept, and the main pass keeps nothing while that lives
module _ (new old pass : Pass Facts Step) (begun : HasBegun pages Split new old pass None) where
  pub IsMainPass-lent : IsMainPass new None
  IsMainPass-lent free =
      absurd (free pass.number (ap (λ h. lives_in role h pass.number) (sym begun.seen) ∙ begun.live.lives)
      (ap (λ h. owner_in role h pass.number) (sym begun.seen) ∙ begun.live.owner ∙ begun.cpu))

  pub IsControlPass-begun : (kept : Settings) → IsFree role old.seen None → KeepsSettings old.facts old.seen kept
      → IsControlPass pass kept
  IsControlPass-begun kept free knows = record {
    live = begun.live;
    none = begun.cpu;
    knows =
        subst (λ (f : Facts). KeepsSettings f pass.seen kept) (sym begun.facts)
        (subst (λ h. KeepsSettings old.facts h kept) (sym begun.seen)
        (KeepsSettings-made old.facts new.seen old.seen (Split (next_number pages old.seen) None) begun.made
        kept refl free
        knows));
  }

-- and hands it back
module _ (new old pass : Pass Facts Step) (ended : HasEnded pages Join new old pass)
    (same_facts : pass.facts ≡ old.facts)
    (kept : Settings) (control : IsControlPass pass kept) where
  pub IsMainPass-back : IsMainPass new (Some kept)
  IsMainPass-back free =
      let made = ended.made in
      let e : Event Step = record { caller = 0; step = Join pass.number } in
      let legal_now = legal old.facts new.seen old.seen (Join pass.number) made in
      let live = control.live in
      let given = live_is_given pages pass.facts pass.seen pass.number live.legal live.lives in
      let goes : GoesOnWithout pages old.facts made.before pass.seen pass.number = record {
        legal = legal_now.0;
        extends = ended.knew;
        lived = live.lives;
        lives = legal_now.1.1;
        own_same = sym (own-others e made.before pass.number (λ main. omega (arith, main, given.0)))
            ∙ ap (λ h. own h pass.number) (sym made.newest) ∙ ended.all_steps;
      } in
      let knew = subst (λ (f : Facts). KeepsSettings f pass.seen kept) same_facts control.knows in
      let knows_before = KeepsSettings-later old.facts made.before pass.seen kept
      (control-knows_later old.facts made.before pass.seen pass.number goes (live.owner ∙ control.none)) knew in
      let knows_after = KeepsSettings-step old.facts made.before 0 (Join pass.number) kept legal_now knows_before in (
        kept,
        refl,
        subst (λ (f : Facts). KeepsSettings f new.seen kept) (sym ended.main.facts)
            (subst (λ h. KeepsSettings old.facts h kept) (sym made.newest) knows_after),
      )
