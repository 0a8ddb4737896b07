-- Outcomes that lead through the lines of an input are one list where a phase may have one outcome alone.
use Rattle.std.proofs.Common.{◌≡◌, ℕ, Bool, true, false, List, [], ◌∷◌, ◌++◌, Option, Some, None, refl, sym, ap₂, subst}
use Rattle.std.proofs.Common.{◌∙◌}
use Rattle.vms_stream.specs.Common.{HasAllOutcomes, IsOn, On, OutcomesLeadThrough, PhasedBehavior, Short, Way}
use Rattle.vms_stream.specs.Common.{first_halt, halt_at, halted, leads_on, next_way, none_after, state_after, supply}
use Rattle.vms_stream.specs.Common.{unless_halted, way_after, way_halts, with_outcomes}
use Rattle.vms_stream.specs.declared.statuses.Status.{Status}

-- outcomes lead through these lines, and if no line stops the command what is asked of its way holds after them. The
-- command may have had any outcomes at its start
abbrev pub LeadAll : {S O : Type 0} → PhasedBehavior S O → (S → List O → Type 0) → (Way S O → Type 0) → List O → S
    → List (List ℕ) → List O → Type 0
LeadAll phased asked well start s lines outcomes =
    OutcomesLeadThrough phased asked s outcomes lines
    × (halted (with_outcomes phased start) (On s outcomes) lines ≡ None
    → well (state_after (with_outcomes phased start) (On s outcomes) lines))

-- a phase may have one outcome alone where the command stands as is said before the lines that are left: so it does
-- before the first line, and past each line that doesn't stop it
pub record HasOneOutcome {S O : Type 0} (phased : PhasedBehavior S O) (stands : S → List (List ℕ) → Type 0) : Type 0
  where
    pub begins : (lines : List (List ℕ)) → stands phased.start lines
    pub goes_on : (s : S) (line : List ℕ) (lines : List (List ℕ)) (given : Option O) → stands s (line ∷ lines)
        → phased.halts s line given ≡ None → stands (phased.next s line given) lines
    pub once : (s : S) (line : List ℕ) (lines : List (List ℕ)) (o o' : O) → stands s (line ∷ lines)
        → phased.Allows s line o → phased.Allows s line o' → o ≡ o'
    pub once_last : (s : S) (o o' : O) → stands s [] → phased.AllowsLast s o → phased.AllowsLast s o' → o ≡ o'

module _ {S O : Type 0} (phased : PhasedBehavior S O) where
  -- where each phase has its outcome and no line stops the command, it is on its way after the lines
  pub on_after : (start : List O) (way : Way S O) (lines : List (List ℕ)) → HasAllOutcomes phased way lines
      → halted (with_outcomes phased start) way lines ≡ None
      → IsOn (state_after (with_outcomes phased start) way lines)
  on_after start way [] whole none = whole
  on_after start way (line ∷ lines) whole none =
      by (way_halts phased way line) whole none (on_after start (next_way phased way line) lines)
    where
      by : (halt : Option Status) → unless_halted halt (HasAllOutcomes phased (next_way phased way line) lines)
          → first_halt halt (halted (with_outcomes phased start) (next_way phased way line) lines) ≡ None
          → (HasAllOutcomes phased (next_way phased way line) lines
          → halted (with_outcomes phased start) (next_way phased way line) lines ≡ None
          → IsOn (state_after (with_outcomes phased start) (next_way phased way line) lines))
          → IsOn (state_after (with_outcomes phased start) (next_way phased way line) lines)
      by None whole none on = on whole none
      by (Some halt) whole none on = absurd cc

  -- outcomes that lead to a line that stops the command lead through the lines after it too
  module _ (asked asked' : S → List O → Type 0) (start : List O) (stop : Status) (more : List (List ℕ)) where
    led_after : (halt later_halt : Option Status) (left : List O) (later later' : Type 0)
        → none_after halt left later → first_halt halt later_halt ≡ Some stop
        → (later → later_halt ≡ Some stop → later') → none_after halt left later'
    led_after None later_halt left later later' led stops goes = goes led stops
    led_after (Some halt) later_halt left later later' led stops goes = led

    led_on : (s : S) (line : List ℕ) (lines : List (List ℕ))
        → ((next : S) (left : List O) → OutcomesLeadThrough phased asked next left lines
        → halted (with_outcomes phased start) (On next left) lines ≡ Some stop
        → OutcomesLeadThrough phased asked' next left (lines ++ more))
        → (ends : Bool) (outcomes : List O)
        → leads_on ends outcomes (phased.Allows s line)
        (λ given left. none_after (phased.halts s line given) left
        (OutcomesLeadThrough phased asked (phased.next s line given) left lines))
        → first_halt (halt_at phased s line (supply ends outcomes))
        (halted (with_outcomes phased start) (way_after phased s line (supply ends outcomes)) lines) ≡ Some stop
        → leads_on ends outcomes (phased.Allows s line)
        (λ given left. none_after (phased.halts s line given) left
        (OutcomesLeadThrough phased asked' (phased.next s line given) left (lines ++ more)))
    led_on s line lines later false outcomes led stops =
        let next = phased.next s line None in
        led_after (phased.halts s line None) (halted (with_outcomes phased start) (On next outcomes) lines) outcomes
        (OutcomesLeadThrough phased asked next outcomes lines)
        (OutcomesLeadThrough phased asked' next outcomes (lines ++ more)) led stops (later next outcomes)
    led_on s line lines later true [] led stops = tt
    led_on s line lines later true (outcome ∷ left) led stops =
        let next = phased.next s line (Some outcome) in (
          led.0,
          led_after (phased.halts s line (Some outcome)) (halted (with_outcomes phased start) (On next left) lines) left
              (OutcomesLeadThrough phased asked next left lines)
              (OutcomesLeadThrough phased asked' next left (lines ++ more)) led.1 stops (later next left),
        )

    pub lead-stopped : (s : S) (outcomes : List O) (lines : List (List ℕ))
        → OutcomesLeadThrough phased asked s outcomes lines
        → halted (with_outcomes phased start) (On s outcomes) lines ≡ Some stop
        → OutcomesLeadThrough phased asked' s outcomes (lines ++ more)
    lead-stopped s outcomes [] led stops = absurd cc
    lead-stopped s outcomes (line ∷ lines) led stops =
        led_on s line lines (λ next left led stops. lead-stopped next left lines led stops) (phased.ends_phase s line)
        outcomes led stops

  module _ (stands : S → List (List ℕ) → Type 0) (one : HasOneOutcome phased stands) (asked : S → List O → Type 0)
      (well : Way S O → Type 0) (never_short : well Short → ⊥)
      (once_end : (s : S) (os os' : List O) → stands s [] → asked s os → well (On s os) → asked s os' → well (On s os')
      → os ≡ os') (start start' : List O) where
    -- a way that is short never comes to what is asked
    never : (all : List O) (lines : List (List ℕ)) → (halted (with_outcomes phased all) Short lines ≡ None
        → well (state_after (with_outcomes phased all) Short lines)) → ⊥
    never all [] goes = never_short (goes refl)
    never all (line ∷ lines) goes = never all lines goes

    -- what stands after a line at which the command stops or not
    abbrev LeadAfter : List O → Option Status → S → List (List ℕ) → List O → Type 0
    LeadAfter all halt next lines outcomes =
        none_after halt outcomes (OutcomesLeadThrough phased asked next outcomes lines)
        × (first_halt halt (halted (with_outcomes phased all) (On next outcomes) lines) ≡ None
        → well (state_after (with_outcomes phased all) (On next outcomes) lines))

    abbrev LeadAtLine : List O → S → List ℕ → List (List ℕ) → Bool → List O → Type 0
    LeadAtLine all s line lines ends outcomes =
        leads_on ends outcomes (phased.Allows s line) (λ given left. none_after (phased.halts s line given) left
        (OutcomesLeadThrough phased asked (phased.next s line given) left lines))
        × (first_halt (halt_at phased s line (supply ends outcomes))
        (halted (with_outcomes phased all) (way_after phased s line (supply ends outcomes)) lines) ≡ None
        → well (state_after (with_outcomes phased all) (way_after phased s line (supply ends outcomes)) lines))

    module _ (lines : List (List ℕ)) (same-later : (next : S) (os os' : List O) → stands next lines
        → LeadAll phased asked well start next lines os → LeadAll phased asked well start' next lines os'
        → os ≡ os') where
      one-after : (halt : Option Status) (next : S) (os os' : List O) → (halt ≡ None → stands next lines)
          → LeadAfter start halt next lines os → LeadAfter start' halt next lines os' → os ≡ os'
      one-after None next os os' here this that = same-later next os os' (here refl) this that
      one-after (Some halt) next os os' here this that = this.0 ∙ sym that.0

      one-at_line : (s : S) (line : List ℕ) (ends : Bool) (os os' : List O) → stands s (line ∷ lines)
          → LeadAtLine start s line lines ends os → LeadAtLine start' s line lines ends os' → os ≡ os'
      one-at_line s line false os os' here this that =
          one-after (phased.halts s line None) (phased.next s line None) os os' (one.goes_on s line lines None here)
          this that
      one-at_line s line true [] os' here (leads, goes) that = absurd (never start lines goes)
      one-at_line s line true (o ∷ left) [] here this (leads, goes) = absurd (never start' lines goes)
      one-at_line s line true (o ∷ left) (o' ∷ left') here ((may, leads), goes) ((may', leads'), goes') =
          let same : o' ≡ o = one.once s line lines o' o here may' may in
          let moved : LeadAfter start' (phased.halts s line (Some o)) (phased.next s line (Some o)) lines left' =
          subst (λ (x : O). LeadAfter start' (phased.halts s line (Some x)) (phased.next s line (Some x)) lines left')
          same (leads', goes') in
          ap₂ (λ (x : O) (xs : List O). x ∷ xs) (sym same)
          (one-after (phased.halts s line (Some o)) (phased.next s line (Some o)) left left'
          (one.goes_on s line lines (Some o) here) (leads, goes) moved)

    -- outcomes that lead through the lines, to the end or to one that stops the command, are one list
    pub one-list : (s : S) (lines : List (List ℕ)) (os os' : List O) → stands s lines
        → LeadAll phased asked well start s lines os → LeadAll phased asked well start' s lines os' → os ≡ os'
    one-list s [] os os' here this that = once_end s os os' here this.0 (this.1 refl) that.0 (that.1 refl)
    one-list s (line ∷ lines) os os' here this that =
        one-at_line lines (λ next xs xs' here this that. one-list next lines xs xs' here this that) s line
        (phased.ends_phase s line) os os' here this that
