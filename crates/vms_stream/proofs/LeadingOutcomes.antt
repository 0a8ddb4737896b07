-- Outcomes that lead through lines in two parts.
use Rattle.std.proofs.Common.{◌≡◌, ℕ, Bool, true, false, List, [], ◌∷◌, ◌++◌, Option, Some, None, refl, sym, subst}
use Rattle.std.proofs.Common.{append-nil}
use Rattle.vms_stream.specs.declared.statuses.Status.{Status}
use Rattle.vms_stream.specs.Common.{first_halt, halted, state_after, PhasedBehavior, Way, halt_at, supply, way_after}
use Rattle.vms_stream.specs.Common.{with_outcomes, On, AllUsed, OutcomesLead, OutcomesLeadThrough, OutcomesLeadToEnd}
use Rattle.vms_stream.specs.Common.{UsedAtEnd, leads_on, none_after, StandsOn}
use Rattle.vms_stream.proofs.BehaviorLaws.{first_halt-none}
use Rattle.vms_stream.proofs.MoreOutcomes.{state_after-short}

none_after-open : {O : Type 0} (halt : Option Status) (left : List O) (later : Type 0) → halt ≡ None
    → none_after halt left later → later
none_after-open None left later none led = led
none_after-open (Some halt) left later none led = absurd cc

open-none_after : {O : Type 0} (halt : Option Status) (left : List O) (later : Type 0) → halt ≡ None
    → later → none_after halt left later
open-none_after None left later none led = led
open-none_after (Some halt) left later none led = absurd cc

module _ {S O : Type 0} (phased : PhasedBehavior S O) where
  pub none_after-used : (halt : Option Status) (later : Type 0) → later → none_after {O = O} halt [] later
  none_after-used None later led = led
  none_after-used (Some halt) later led = refl

  -- where no outcome is left nothing is asked of any line
  pub OutcomesLead-none : (s : S) (lines : List (List ℕ)) → OutcomesLead phased s [] lines
  OutcomesLead-none s [] = refl
  OutcomesLead-none s (line ∷ lines) = by (phased.ends_phase s line)
      (none_after-used (phased.halts s line None) (OutcomesLead phased (phased.next s line None) [] lines)
      (OutcomesLead-none (phased.next s line None) lines))
    where
      by : (ends : Bool)
          → none_after {O = O} (phased.halts s line None) [] (OutcomesLead phased (phased.next s line None) [] lines)
          → leads_on {O = O} ends [] (phased.Allows s line)
          (λ given left. none_after (phased.halts s line given) left
          (OutcomesLead phased (phased.next s line given) left lines))
      by true later = tt
      by false later = later

  -- outcomes that lead through some lines may lead on through more
  module _ (asked asked' : S → List O → Type 0) (more : List (List ℕ))
      (goes : (s : S) (left : List O) → asked s left → OutcomesLeadThrough phased asked' s left more) where
    none_after-more : (halt : Option Status) (left : List O) (later later' : Type 0) → (later → later')
        → none_after halt left later → none_after halt left later'
    none_after-more None left later later' to led = to led
    none_after-more (Some halt) left later later' to led = led

    leads_on-more : (s : S) (line : List ℕ) (lines : List (List ℕ))
        → ((next : S) (left : List O) → OutcomesLeadThrough phased asked next left lines
        → OutcomesLeadThrough phased asked' next left (lines ++ more))
        → (ends : Bool) (outcomes : List O)
        → leads_on ends outcomes (phased.Allows s line)
        (λ given left. none_after (phased.halts s line given) left
        (OutcomesLeadThrough phased asked (phased.next s line given) left lines))
        → leads_on ends outcomes (phased.Allows s line)
        (λ given left. none_after (phased.halts s line given) left
        (OutcomesLeadThrough phased asked' (phased.next s line given) left (lines ++ more)))
    leads_on-more s line lines later false outcomes led =
        none_after-more (phased.halts s line None) outcomes
        (OutcomesLeadThrough phased asked (phased.next s line None) outcomes lines)
        (OutcomesLeadThrough phased asked' (phased.next s line None) outcomes (lines ++ more))
        (later (phased.next s line None) outcomes) led
    leads_on-more s line lines later true [] led = tt
    leads_on-more s line lines later true (outcome ∷ left) led = (
      led.0,
      none_after-more (phased.halts s line (Some outcome)) left
          (OutcomesLeadThrough phased asked (phased.next s line (Some outcome)) left lines)
          (OutcomesLeadThrough phased asked' (phased.next s line (Some outcome)) left (lines ++ more))
          (later (phased.next s line (Some outcome)) left) led.1,
    )

    pub OutcomesLeadThrough-more : (s : S) (outcomes : List O) (lines : List (List ℕ))
        → OutcomesLeadThrough phased asked s outcomes lines →
        OutcomesLeadThrough phased asked' s outcomes (lines ++ more)
    OutcomesLeadThrough-more s outcomes [] led = goes s outcomes led
    OutcomesLeadThrough-more s outcomes (line ∷ lines) led =
        leads_on-more s line lines (λ next left led. OutcomesLeadThrough-more next left lines led)
        (phased.ends_phase s line)
        outcomes led

  -- outcomes that are used up before the end are used at the end
  used_at_end : (s : S) (left : List O) → AllUsed s left → UsedAtEnd phased s left
  used_at_end s [] used = by (phased.ends_last s)
    where
      by : (ends : Bool) → leads_on {O = O} ends [] (phased.AllowsLast s) (λ given left. left ≡ [])
      by false = refl
      by true = tt
  used_at_end s (outcome ∷ left) used = absurd cc

  pub OutcomesLead-end : (s : S) (outcomes : List O) (lines : List (List ℕ)) → OutcomesLead phased s outcomes lines
      → OutcomesLeadToEnd phased s outcomes lines
  OutcomesLead-end s outcomes lines led =
      subst (OutcomesLeadToEnd phased s outcomes) (append-nil lines)
      (OutcomesLeadThrough-more AllUsed (UsedAtEnd phased) [] used_at_end s outcomes lines led)

  -- nothing is asked of lines after those that use up the outcomes
  pub OutcomesLead-more : (s : S) (outcomes : List O) (lines more : List (List ℕ)) →
      OutcomesLead phased s outcomes lines
      → OutcomesLead phased s outcomes (lines ++ more)
  OutcomesLead-more s outcomes lines more led =
      OutcomesLeadThrough-more AllUsed AllUsed more
      (λ s left used. subst (λ (left : List O). OutcomesLead phased s left more) (sym used) (OutcomesLead-none s more))
      s outcomes lines led

  leads_on-append : (asked : S → List O → Type 0) (start others : List O) (more : List (List ℕ)) (s : S)
      (line : List ℕ) (lines : List (List ℕ))
      → ((next : S) (left : List O) → OutcomesLead phased next left lines
      → halted (with_outcomes phased start) (On next left) lines ≡ None
      → StandsOn (λ s'. OutcomesLeadThrough phased asked s' others more)
      (state_after (with_outcomes phased start) (On next left) lines)
      → OutcomesLeadThrough phased asked next (left ++ others) (lines ++ more))
      → (ends : Bool) (outcomes : List O)
      → leads_on ends outcomes (phased.Allows s line)
      (λ given left. none_after (phased.halts s line given) left
      (OutcomesLead phased (phased.next s line given) left lines))
      → first_halt (halt_at phased s line (supply ends outcomes))
      (halted (with_outcomes phased start) (way_after phased s line (supply ends outcomes)) lines) ≡ None
      → StandsOn (λ s'. OutcomesLeadThrough phased asked s' others more)
      (state_after (with_outcomes phased start) (way_after phased s line (supply ends outcomes)) lines)
      → leads_on ends (outcomes ++ others) (phased.Allows s line)
      (λ given left. none_after (phased.halts s line given) left
      (OutcomesLeadThrough phased asked (phased.next s line given) left (lines ++ more)))
  leads_on-append asked start others more s line lines later false outcomes led none after =
      let halts = phased.halts s line None in
      let next = phased.next s line None in
      let both = first_halt-none (with_outcomes phased start) halts
      (halted (with_outcomes phased start) (On next outcomes) lines) none in
      open-none_after halts (outcomes ++ others)
      (OutcomesLeadThrough phased asked next (outcomes ++ others) (lines ++ more)) both.0
      (later next outcomes (none_after-open halts outcomes (OutcomesLead phased next outcomes lines) both.0
      led) both.1 after)
  leads_on-append asked start others more s line lines later true [] led none after =
      absurd (subst (λ (way : Way S O). StandsOn (λ s'. OutcomesLeadThrough phased asked s' others more) way)
      (state_after-short phased start lines) after)
  leads_on-append asked start others more s line lines later true (outcome ∷ left) led none after =
      let halts = phased.halts s line (Some outcome) in
      let next = phased.next s line (Some outcome) in
      let both = first_halt-none (with_outcomes phased start) halts
      (halted (with_outcomes phased start) (On next left) lines) none in (
        led.0,
        open-none_after halts (left ++ others)
            (OutcomesLeadThrough phased asked next (left ++ others) (lines ++ more)) both.0
            (later next left (none_after-open halts left (OutcomesLead phased next left lines) both.0 led.1)
            both.1 after),
      )

  -- first some outcomes lead through some lines, and then others through others
  pub OutcomesLeadThrough-append : (asked : S → List O → Type 0) (start others : List O) (more : List (List ℕ)) (s : S)
      (outcomes : List O) (lines : List (List ℕ)) → OutcomesLead phased s outcomes lines
      → halted (with_outcomes phased start) (On s outcomes) lines ≡ None
      → StandsOn (λ s'. OutcomesLeadThrough phased asked s' others more)
      (state_after (with_outcomes phased start) (On s outcomes) lines)
      → OutcomesLeadThrough phased asked s (outcomes ++ others) (lines ++ more)
  OutcomesLeadThrough-append asked start others more s outcomes [] led none after =
      subst (λ (front : List O). OutcomesLeadThrough phased asked s (front ++ others) more) (sym after.1) after.0
  OutcomesLeadThrough-append asked start others more s outcomes (line ∷ lines) led none after =
      leads_on-append asked start others more s line lines
      (λ next left led none after. OutcomesLeadThrough-append asked start others more next left lines led none after)
      (phased.ends_phase s line) outcomes led none after
