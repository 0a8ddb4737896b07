-- A load may be made where its word is told rightly.
use Rattle.std.proofs.Common.{◌≡◌, ℕ, ◌/◌, ◌%◌, ◌<◌, ◌^◌, Option, Some, None, ℤ, set, refl, sym, ap, ◌∙◌, subst, arith}
use Rattle.std.proofs.lemmas.List.{set-get_or}
use Rattle.vms_calls.specs.Common.{CounterId, CpuId, ItemId, PlaceId, CpuState, signed_of_word, IsCpu, IsPlace, IsZone}
use Rattle.vms_calls.specs.Common.{IsCounter, IsItem, Acts, GoesOnWithout, owner_in, Works, State, Facts, Step, LoadT}
use Rattle.vms_calls.specs.Common.{LoadG, LoadS, LoadM, LoadO, LoadA, value_at, system_at, threshold_at}
use Rattle.vms_calls.specs.Common.{threshold_sets_at, mark_at, mark_sets_at, cpu_at, acknowledged_at, Meets, pages}
use Rattle.vms_calls.specs.Common.{History, state_after, role, effect}
use Rattle.vms_history.proofs.Common.{live_is_given}
use Rattle.vms_seats.specs.Common.{Pass, IsLive, MayStep}
use Rattle.vms_core.proofs.Common.{laws-kept, OwnerKnows-holds, owner_in-goes_on}
use Rattle.vms_words.specs.declared.spots.Spot.{Spot}
use Rattle.vms_words.specs.declared.spots.Spot.TheVariants.{Value, System, Threshold, Mark, Cpu, Acknowledgement}
use Rattle.vms_words.specs.Shown.{shown}
use Rattle.vms_words.specs.Common.{spot_word, IsSpot, place_in, told, cpu_told, acknowledgement_told}
use Rattle.vms_words.specs.Spots.{blocks_of}
use Rattle.vms_words.proofs.Numbers.{number-told, cpu-told, acknowledgement-told, threshold-told, mark-told}
use Rattle.vms_words.proofs.ShownWords.{shown-at}

-- a live pass acts with a step that works
pub acts : (facts : Facts) (h : History) (earlier : History) (p : ℕ) → GoesOnWithout pages facts h earlier p
    → (step : Step) → role step ≡ Works → Acts pages facts h p (role step)
acts facts h earlier p goes step works =
    subst (Acts pages facts h p) (sym works) (
      let given = live_is_given pages facts h p goes.legal goes.lives in
          (λ main. absurd (omega (arith, main, given.0))),
      goes.lives,
    )

module _ (pass : Pass Facts Step) (spot : Spot) (known : IsSpot pass.facts.layout spot) (plan : ℕ → Step)
    (works : (n : ℕ) → role (plan n) ≡ Works)
    (leaves : (n : ℕ) (who : Option CpuId) (s : State) → effect pass.facts who (plan n) s ≡ s)
    (meets : (h : History) (found : ℕ) → GoesOnWithout pages pass.facts h pass.seen pass.number → found < 2 ^ 64
    → spot_word (state_after pass.facts h) spot ≡ found
    → Meets pass.facts h (state_after pass.facts h) pass.number (plan found)) where
  pub load-may : MayStep pages shown pass (place_in (blocks_of pass.facts.layout) spot) (λ n. n) plan
  load-may h found goes fits stands = record {
    legal = (
      goes.legal,
      acts pass.facts h pass.seen pass.number goes (plan found) (works found),
      meets h found goes fits (sym (shown-at pass.facts (state_after pass.facts h) spot known) ∙ stands),
    );
    shows = ap (shown pass.facts) (leaves found (owner_in role h pass.number) (state_after pass.facts h))
        ∙ sym (ap (set (shown pass.facts (state_after pass.facts h)) (place_in (blocks_of pass.facts.layout) spot))
        (sym stands)
        ∙ set-get_or (shown pass.facts (state_after pass.facts h)) (place_in (blocks_of pass.facts.layout) spot) 0);
  }

-- loads of each kind
module _ (pass : Pass Facts Step) where
  pub value-load : (k : CounterId) (v : ℤ) → IsCounter pass.facts.layout k.number
      → MayStep pages shown pass (place_in (blocks_of pass.facts.layout) (Value k)) (λ n. n) (told (LoadG k v))
  value-load k v known =
      load-may pass (Value k) known (told (LoadG k v)) (λ n. refl) leaves (λ h found goes fits stands.
      let below = (laws-kept pass.facts h goes.legal).small.values k.number known in
      (known, sym (number-told (value_at (state_after pass.facts h) k.number) below) ∙ ap signed_of_word stands))
    where
      leaves : (n : ℕ) (who : Option CpuId) (s : State) → effect pass.facts who (told (LoadG k v) n) s ≡ s
      leaves n None s = refl
      leaves n (Some c) s = refl

  pub system-load : (i : ItemId) (v : ℤ) → IsItem pass.facts.layout i.number
      → MayStep pages shown pass (place_in (blocks_of pass.facts.layout) (System i)) (λ n. n) (told (LoadS i v))
  system-load i v known =
      load-may pass (System i) known (told (LoadS i v)) (λ n. refl) leaves (λ h found goes fits stands.
      let below = (laws-kept pass.facts h goes.legal).small.systems i.number known in
      (known, sym (number-told (system_at (state_after pass.facts h) i.number) below) ∙ ap signed_of_word stands))
    where
      leaves : (n : ℕ) (who : Option CpuId) (s : State) → effect pass.facts who (told (LoadS i v) n) s ≡ s
      leaves n None s = refl
      leaves n (Some c) s = refl

  pub mark-load : (g : PlaceId) (m a : ℕ) → IsZone pass.facts.layout g.number
      → MayStep pages shown pass (place_in (blocks_of pass.facts.layout) (Mark g)) (λ n. n) (told (LoadM g m a))
  mark-load g m a known =
      load-may pass (Mark g) known (told (LoadM g m a)) (λ n. refl) leaves (λ h found goes fits stands.
      let s = state_after pass.facts h in
      let tells = mark-told (mark_at s g.number) (mark_sets_at s g.number)
      ((laws-kept pass.facts h goes.legal).marks g.number known) in
      record {
        zone = known;
        value = sym tells.0 ∙ ap (λ n. n % 2 ^ 43) stands;
        number = sym tells.1 ∙ ap (λ n. n / 2 ^ 43) stands;
      })
    where
      leaves : (n : ℕ) (who : Option CpuId) (s : State) → effect pass.facts who (told (LoadM g m a) n) s ≡ s
      leaves n None s = refl
      leaves n (Some c) s = refl

  pub cpu-load : (c : CpuId) (x : CpuState) → IsCpu pass.facts.layout c.number
      → MayStep pages shown pass (place_in (blocks_of pass.facts.layout) (Cpu c)) (λ n. n) (told (LoadO c x))
  cpu-load c x known =
      load-may pass (Cpu c) known (told (LoadO c x)) (λ n. refl) leaves (λ h found goes fits stands.
      (known, sym (cpu-told (cpu_at (state_after pass.facts h) c.number)) ∙ ap cpu_told stands))
    where
      leaves : (n : ℕ) (who : Option CpuId) (s : State) → effect pass.facts who (told (LoadO c x) n) s ≡ s
      leaves n None s = refl
      leaves n (Some d) s = refl

  -- the CPU of a pass is one of the layout
  pub owned-known : (d : CpuId) → IsLive pages pass → pass.cpu ≡ Some d → IsCpu pass.facts.layout d.number
  owned-known d live owns =
      ((laws-kept pass.facts pass.seen live.legal).owners pass.number d (live.owner ∙ owns)).0

  pub threshold-load : (d : CpuId) (g : PlaceId) (t a : ℕ) → IsLive pages pass → pass.cpu ≡ Some d
      → IsPlace pass.facts.layout g.number
      → MayStep pages shown pass (place_in (blocks_of pass.facts.layout) (Threshold d g)) (λ n. n)
      (told (LoadT g t a))
  threshold-load d g t a live owns known =
      load-may pass (Threshold d g) (cpu_known, known) (told (LoadT g t a)) (λ n. refl) leaves
      (λ h found goes fits stands.
      let s = state_after pass.facts h in
      let laws = laws-kept pass.facts h goes.legal in
      let small = (laws.thresholds d.number g.number cpu_known known).most in
      let tells = threshold-told (threshold_at s d.number g.number) (threshold_sets_at s d.number g.number)
      (omega (arith, small)) in
      record {
        cpu = d;
        owns = record {
          owner = (OwnerKnows-holds pass.facts h pass.seen pass.number d goes (live.owner ∙ owns)).owner;
          within = cpu_known;
        };
        place = known;
        value = sym tells.0 ∙ ap (λ n. n % 2 ^ 32) stands;
        number = sym tells.1 ∙ ap (λ n. n / 2 ^ 32) stands;
      })
    where
      cpu_known : IsCpu pass.facts.layout d.number
      cpu_known = owned-known d live owns

      leaves : (n : ℕ) (who : Option CpuId) (s : State) → effect pass.facts who (told (LoadT g t a) n) s ≡ s
      leaves n None s = refl
      leaves n (Some c) s = refl

  pub acknowledgement-load : (c : CpuId) (g : PlaceId) (x : Option ℕ) → IsLive pages pass → pass.cpu ≡ None
      → IsCpu pass.facts.layout c.number → IsZone pass.facts.layout g.number
      → MayStep pages shown pass (place_in (blocks_of pass.facts.layout) (Acknowledgement c g)) (λ n. n)
      (told (LoadA c g x))
  acknowledgement-load c g x live control cpu_known known =
      load-may pass (Acknowledgement c g) (cpu_known, known) (told (LoadA c g x)) (λ n. refl) leaves
      (λ h found goes fits stands. record {
        control = owner_in-goes_on pass.facts h pass.seen pass.number goes ∙ live.owner ∙ control;
        cpu = cpu_known;
        zone = known;
        value = sym (acknowledgement-told (acknowledged_at (state_after pass.facts h) c.number g.number))
            ∙ ap acknowledgement_told stands;
      })
    where
      leaves : (n : ℕ) (who : Option CpuId) (s : State) → effect pass.facts who (told (LoadA c g x) n) s ≡ s
      leaves n None s = refl
      leaves n (Some d) s = refl
