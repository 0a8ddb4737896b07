-- Which outcomes lead through the lines of an input.
use Rattle.std.specs.Prelude.{◌≡◌, ℕ, Bool, true, false, List, [], ◌∷◌, Option, Some, None}
use Rattle.vms_stream.specs.declared.statuses.Status.{Status}
use Rattle.vms_stream.specs.PhasedBehaviors.{PhasedBehavior}

-- the outcomes that are left lead on where a phase ends, or none does: the next one is allowed. Where none is left the
-- phase wasn't made, and nothing more is asked
abbrev pub leads_on : {O : Type 0} → Bool → List O → (O → Type 0) → (Option O → List O → Type 0) → Type 0
leads_on false outcomes allows later = later None outcomes
leads_on true [] allows later = Unit {0}
leads_on true (outcome ∷ left) allows later = allows outcome × later (Some outcome) left

-- no phase is made after a line that stops the command
abbrev pub none_after : {O : Type 0} → Option Status → List O → Type 0 → Type 0
none_after None left later = later
none_after (Some halt) left later = left ≡ []

-- outcomes lead through these lines, and what is left of them after the last line is as asked
abbrev pub OutcomesLeadThrough : {S O : Type 0} → PhasedBehavior S O → (S → List O → Type 0) → S →
    List O → List (List ℕ)
    → Type 0
OutcomesLeadThrough phased asked s outcomes [] = asked s outcomes
OutcomesLeadThrough phased asked s outcomes (line ∷ lines) =
    leads_on (phased.ends_phase s line) outcomes (phased.Allows s line)
    (λ given left. none_after (phased.halts s line given) left
    (OutcomesLeadThrough phased asked (phased.next s line given) left lines))

-- no outcome is left
abbrev pub AllUsed : {S O : Type 0} → S → List O → Type 0
AllUsed s left = left ≡ []

-- these are the outcomes of the first phases that end at these lines
abbrev pub OutcomesLead : {S O : Type 0} → PhasedBehavior S O → S → List O → List (List ℕ) → Type 0
OutcomesLead phased = OutcomesLeadThrough phased AllUsed

-- no outcome is left at the end of an input, where a phase may end too
abbrev pub UsedAtEnd : {S O : Type 0} → PhasedBehavior S O → S → List O → Type 0
UsedAtEnd phased s outcomes =
    leads_on (phased.ends_last s) outcomes (phased.AllowsLast s) (λ given left. left ≡ [])

-- these are the outcomes of the first phases of an input of these lines
abbrev pub OutcomesLeadToEnd : {S O : Type 0} → PhasedBehavior S O → S → List O → List (List ℕ) → Type 0
OutcomesLeadToEnd phased = OutcomesLeadThrough phased (UsedAtEnd phased)
