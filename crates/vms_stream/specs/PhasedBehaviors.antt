-- What a command says of the lines of its input where its phases have outcomes.
use Rattle.std.specs.Prelude.{ℕ, Bool, true, false, List, [], ◌∷◌, Option, Some, None}
use Rattle.vms_stream.specs.Behaviors.{Behavior, MayEnd, MayHalt}
use Rattle.vms_stream.specs.declared.statuses.Status.{Status}
use Rattle.vms_stream.specs.declared.statuses.Status.TheVariants.{Done}

-- a command as its behavior from line to line, with a state between them. A phase may end at a line or at the end of
-- the input, and what comes then depends on the outcome of the phase: `None` where no phase ends
pub record PhasedBehavior (S O : Type 0) : Type 1 where
  -- before the first line
  pub start : S
  -- whether a phase ends at the line, and which outcomes it may have
  pub ends_phase : S → List ℕ → Bool
  pub Allows : S → List ℕ → O → Type 0
  -- after the line
  pub next : S → List ℕ → Option O → S
  -- what the line prints
  pub prints : S → List ℕ → Option O → List ℕ
  -- the status with which the command stops at the line, if it does
  pub halts : S → List ℕ → Option O → Option Status
  pub may_halt : (s : S) (line : List ℕ) (given : Option O) → MayHalt (halts s line given)
  -- whether a phase ends at the end of the input, and which outcomes it may have
  pub ends_last : S → Bool
  pub AllowsLast : S → O → Type 0
  -- what is printed there
  pub last : S → Option O → List ℕ
  -- the status with which it ends there
  pub ends : S → Option O → Status
  pub may_end : (s : S) (given : Option O) → MayEnd (ends s given)

-- what a place of the input gets of the outcomes that are left: the next one where a phase ends, if there is one
pub data OutcomeSupply (O : Type 0) : Type 0 where
  Gives : Option O → List O → OutcomeSupply O
  Lacks : OutcomeSupply O

-- what a place gets, where a phase ends there or none does, and these outcomes are left
abbrev pub supply : {O : Type 0} → Bool → List O → OutcomeSupply O
supply false left = Gives None left
supply true [] = Lacks
supply true (outcome ∷ left) = Gives (Some outcome) left

-- a command on its way with these outcomes left, or short: a phase ended, and no outcome was left for it
pub data Way (S O : Type 0) : Type 0 where
  On : S → List O → Way S O
  Short : Way S O

-- the way after a line, by what the line gets
abbrev pub way_after : {S O : Type 0} → PhasedBehavior S O → S → List ℕ → OutcomeSupply O → Way S O
way_after phased s line (Gives given left) = On (phased.next s line given) left
way_after phased s line Lacks = Short

-- what a line prints, by what it gets
abbrev pub printed_at : {S O : Type 0} → PhasedBehavior S O → S → List ℕ → OutcomeSupply O → List ℕ
printed_at phased s line (Gives given left) = phased.prints s line given
printed_at phased s line Lacks = []

-- the status with which a line stops the command, by what it gets
abbrev pub halt_at : {S O : Type 0} → PhasedBehavior S O → S → List ℕ → OutcomeSupply O → Option Status
halt_at phased s line (Gives given left) = phased.halts s line given
halt_at phased s line Lacks = None

-- what is printed at the end of the input, by what it gets there
abbrev pub printed_last : {S O : Type 0} → PhasedBehavior S O → S → OutcomeSupply O → List ℕ
printed_last phased s (Gives given left) = phased.last s given
printed_last phased s Lacks = []

-- how the command ends at the end of the input, by what it gets there. `Done` stands for an ending that isn't told
abbrev pub ending_at : {S O : Type 0} → PhasedBehavior S O → S → OutcomeSupply O → Status
ending_at phased s (Gives given left) = phased.ends s given
ending_at phased s Lacks = Done

-- a way after a line. One that is short stays so, prints nothing and never stops
abbrev pub next_way : {S O : Type 0} → PhasedBehavior S O → Way S O → List ℕ → Way S O
next_way phased (On s left) line = way_after phased s line (supply (phased.ends_phase s line) left)
next_way phased Short line = Short

-- what a line prints on a way
abbrev pub way_prints : {S O : Type 0} → PhasedBehavior S O → Way S O → List ℕ → List ℕ
way_prints phased (On s left) line = printed_at phased s line (supply (phased.ends_phase s line) left)
way_prints phased Short line = []

-- the status with which a line stops the command on a way
abbrev pub way_halts : {S O : Type 0} → PhasedBehavior S O → Way S O → List ℕ → Option Status
way_halts phased (On s left) line = halt_at phased s line (supply (phased.ends_phase s line) left)
way_halts phased Short line = None

-- what is printed at the end of a way
abbrev pub last_of_way : {S O : Type 0} → PhasedBehavior S O → Way S O → List ℕ
last_of_way phased (On s left) = printed_last phased s (supply (phased.ends_last s) left)
last_of_way phased Short = []

-- how the command ends at the end of a way
abbrev pub way_ends : {S O : Type 0} → PhasedBehavior S O → Way S O → Status
way_ends phased (On s left) = ending_at phased s (supply (phased.ends_last s) left)
way_ends phased Short = Done

-- with these statuses a line may stop a command
pub MayHalt-way_halts : {S O : Type 0} (phased : PhasedBehavior S O) (way : Way S O) (line : List ℕ)
    → MayHalt (way_halts phased way line)
MayHalt-way_halts {O = O} phased (On s left) line = by (supply (phased.ends_phase s line) left)
  where
    by : (got : OutcomeSupply O) → MayHalt (halt_at phased s line got)
    by (Gives given left) = phased.may_halt s line given
    by Lacks = tt
MayHalt-way_halts phased Short line = tt

-- these statuses may end a command
pub MayEnd-way_ends : {S O : Type 0} (phased : PhasedBehavior S O) (way : Way S O) → MayEnd (way_ends phased way)
MayEnd-way_ends {O = O} phased (On s left) = by (supply (phased.ends_last s) left)
  where
    by : (got : OutcomeSupply O) → MayEnd (ending_at phased s got)
    by (Gives given left) = phased.may_end s given
    by Lacks = tt
MayEnd-way_ends phased Short = tt

-- the behavior of a command whose phases have these outcomes, the first phase first
abbrev pub with_outcomes : {S O : Type 0} → PhasedBehavior S O → List O → Behavior (Way S O)
with_outcomes phased outcomes = record {
  start = On phased.start outcomes;
  next = next_way phased;
  prints = way_prints phased;
  halts = way_halts phased;
  may_halt = MayHalt-way_halts phased;
  last = last_of_way phased;
  ends = way_ends phased;
  may_end = MayEnd-way_ends phased;
}
