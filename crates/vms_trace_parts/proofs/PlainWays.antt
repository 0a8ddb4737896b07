-- What a copy writes, and where it stops, doesn't depend on its parts.
use Rattle.std.proofs.Common.{◌≡◌, ℕ, Bool, List, [], ◌∷◌, Option, Some, None, refl, sym, ap, ap₂, subst, ◌∙◌}
use Rattle.vms_stream.specs.declared.statuses.Status.{Status}
use Rattle.vms_stream.specs.Common.{Behavior, Gives, HasAllOutcomes, IsOn, Lacks, On, OutcomeSupply, PhasedBehavior}
use Rattle.vms_stream.specs.Common.{Short, Waiting, Way, ends_at, first_halt, halt_at, halted, next_way, plainly}
use Rattle.vms_stream.specs.Common.{printed, printed_at, printed_from, state_after, supply, unless_halted, waiting}
use Rattle.vms_stream.specs.Common.{way_after, way_halts, way_prints, with_outcomes}
use Rattle.vms_command.specs.Common.{Body, CommandState, Heading, following}
use Rattle.vms_trace_parts.specs.Common.{TracePart, copying}
use Rattle.vms_trace_parts.proofs.CutLines.{first-none, later-none, stopped-prints}

abbrev pub State : Type 0
State = CommandState TracePart

abbrev pub phased : PhasedBehavior (Waiting State TracePart) TracePart
phased = waiting (following copying)

abbrev pub plain : Behavior State
plain = plainly (following copying)

-- nothing waits
abbrev pub at : State → Waiting State TracePart
at s = record { state = s; waits = [] }

-- past a line nothing waits either, and what comes next and what is printed don't depend on the part that ends there
pub next-at : (s : State) (line : List ℕ) (given : Option TracePart)
    → phased.next (at s) line given ≡ at (plain.next s line)
next-at (Heading n stage) line None = refl
next-at (Heading n stage) line (Some part) = refl
next-at (Body n header above part) line None = refl
next-at (Body n header above part) line (Some other) = refl

prints-at : (s : State) (line : List ℕ) (given : Option TracePart)
    → phased.prints (at s) line given ≡ plain.prints s line
prints-at (Heading n stage) line None = refl
prints-at (Heading n stage) line (Some part) = refl
prints-at (Body n header above part) line None = refl
prints-at (Body n header above part) line (Some other) = refl

-- a way that is short goes nowhere
no-short : (lines : List (List ℕ)) → HasAllOutcomes phased Short lines → ⊥
no-short [] has = has
no-short (line ∷ lines) has = no-short lines has

-- whether a part ends at a line
abbrev pub ends : State → List ℕ → Bool
ends s line = ends_at (following copying) s line

-- what comes of a line with what it gets
module _ (s : State) (line : List ℕ) (left : List TracePart) where
  pub record Goes (given : Option TracePart) (left' : List TracePart) : Type 0 where
    pub got : supply (ends s line) left ≡ Gives given left'
    pub way : next_way phased (On (at s) left) line ≡ On (at (plain.next s line)) left'
    pub prints : way_prints phased (On (at s) left) line ≡ plain.prints s line
    pub halts : way_halts phased (On (at s) left) line ≡ plain.halts s line

  pub goes-given : (given : Option TracePart) (left' : List TracePart)
      → supply (ends s line) left ≡ Gives given left' → Goes given left'
  goes-given given left' is = record {
    got = is;
    way = ap (way_after phased (at s) line) is
        ∙ ap (λ (now : Waiting State TracePart). On now left') (next-at s line given);
    prints = ap (printed_at phased (at s) line) is ∙ prints-at s line given;
    halts = ap (halt_at phased (at s) line) is;
  }

  -- no line lacks what it asks for where every part is there
  pub goes : {X : Type 0} (lines : List (List ℕ)) → HasAllOutcomes phased (On (at s) left) (line ∷ lines)
      → ((given : Option TracePart) (left' : List TracePart) → Goes given left' → X) → X
  goes {X} lines has on = by (supply (ends s line) left) refl
    where
      by : (got : OutcomeSupply TracePart) → supply (ends s line) left ≡ got → X
      by (Gives given left') is = on given left' (goes-given given left' is)
      by Lacks is =
          let halts : way_halts phased (On (at s) left) line ≡ None = ap (halt_at phased (at s) line) is in
          let way : next_way phased (On (at s) left) line ≡ Short = ap (way_after phased (at s) line) is in
          absurd (no-short lines (subst (λ (w : Way (Waiting State TracePart) TracePart). HasAllOutcomes phased w lines)
          way (subst (λ (h : Option Status). unless_halted h
          (HasAllOutcomes phased (next_way phased (On (at s) left) line) lines)) halts has)))

  -- what is left has every part too
  pub has-later : (lines : List (List ℕ)) (given : Option TracePart) (left' : List TracePart) → Goes given left'
      → plain.halts s line ≡ None → HasAllOutcomes phased (On (at s) left) (line ∷ lines)
      → HasAllOutcomes phased (On (at (plain.next s line)) left') lines
  has-later lines given left' step none has =
      subst (λ (w : Way (Waiting State TracePart) TracePart). HasAllOutcomes phased w lines) step.way
      (subst (λ (h : Option Status). unless_halted h
      (HasAllOutcomes phased (next_way phased (On (at s) left) line) lines)) (step.halts ∙ none) has)

module _ (outcomes : List TracePart) where
  abbrev pub behavior : Behavior (Way (Waiting State TracePart) TracePart)
  behavior = with_outcomes phased outcomes

  pub record Same (s : State) (left : List TracePart) (lines : List (List ℕ)) : Type 0 where
    pub halt : halted behavior (On (at s) left) lines ≡ halted plain s lines
    pub prints : printed behavior (On (at s) left) lines ≡ printed plain s lines

  -- by whether the first line stops it
  module _ (s : State) (line : List ℕ) (lines : List (List ℕ)) (left : List TracePart)
      (has : HasAllOutcomes phased (On (at s) left) (line ∷ lines)) where
    abbrev LaterSame : List TracePart → Type 0
    LaterSame left' = HasAllOutcomes phased (On (at (plain.next s line)) left') lines
        → Same (plain.next s line) left' lines

    abbrev here : Way (Waiting State TracePart) TracePart
    here = On (at s) left

    abbrev next : Way (Waiting State TracePart) TracePart
    next = next_way phased here line

    same-line : (given : Option TracePart) (left' : List TracePart) → Goes s line left given left'
        → (halt : Option Status) → plain.halts s line ≡ halt → LaterSame left' → Same s left (line ∷ lines)
    same-line given left' step None none later =
        let on = later (has-later s line left lines given left' step none has) in
        let rest_halt : halted behavior next lines ≡ halted plain (plain.next s line) lines =
        ap (λ (w : Way (Waiting State TracePart) TracePart). halted behavior w lines) step.way ∙ on.halt in
        let rest_prints : printed behavior next lines ≡ printed plain (plain.next s line) lines =
        ap (λ (w : Way (Waiting State TracePart) TracePart). printed behavior w lines) step.way ∙ on.prints in
        record {
          halt = ap₂ first_halt step.halts rest_halt;
          prints = ap (λ (h : Option Status). printed_from h (way_prints phased here line)
              (printed behavior next lines)) step.halts
              ∙ ap₂ (λ (bytes more : List ℕ). printed_from (plain.halts s line) bytes more) step.prints rest_prints;
        }
    same-line given left' step (Some halt) stops later =
        let halts : way_halts phased here line ≡ Some halt = step.halts ∙ stops in
        record {
          halt = ap (λ (h : Option Status). first_halt h (halted behavior next lines)) halts
              ∙ sym (ap (λ (h : Option Status). first_halt h (halted plain (plain.next s line) lines)) stops);
          prints = ap (λ (h : Option Status). printed_from h (way_prints phased here line)
              (printed behavior next lines)) halts
              ∙ ap (λ (bytes : List ℕ). printed_from (Some halt) bytes (printed behavior next lines)) step.prints
              ∙ stopped-prints halt (plain.prints s line) (printed behavior next lines)
              (printed plain (plain.next s line) lines)
              ∙ sym (ap (λ (h : Option Status). printed_from h (plain.prints s line)
              (printed plain (plain.next s line) lines)) stops);
        }

  pub same : (lines : List (List ℕ)) (s : State) (left : List TracePart)
      → HasAllOutcomes phased (On (at s) left) lines → Same s left lines
  same [] s left has = record { halt = refl; prints = refl }
  same (line ∷ lines) s left has =
      goes s line left lines has
      (λ given left' step. same-line s line lines left has given left' step (plain.halts s line) refl
      (λ later. same lines (plain.next s line) left' later))

  -- where each part is there, the way leads where the plain behavior does
  pub same_state : (lines : List (List ℕ)) (s : State) (left : List TracePart)
      → HasAllOutcomes phased (On (at s) left) lines → halted plain s lines ≡ None
      → (others : List TracePart)
      × (state_after behavior (On (at s) left) lines ≡ On (at (state_after plain s lines)) others)
  same_state [] s left has none = (left, refl)
  same_state (line ∷ lines) s left has none =
      let here = first-none (plain.halts s line) (halted plain (plain.next s line) lines) none in
      goes s line left lines has
      (λ given left' step.
      let on = same_state lines (plain.next s line) left' (has-later s line left lines given left' step here has)
      (later-none (plain.halts s line) (halted plain (plain.next s line) lines) none) in (
        on.0,
        ap (λ (w : Way (Waiting State TracePart) TracePart). state_after behavior w lines) step.way ∙ on.1,
      ))

-- a way that is on at the end had every part
pub has-on : (outcomes : List TracePart) (lines : List (List ℕ)) (way : Way (Waiting State TracePart) TracePart)
    → IsOn (state_after (with_outcomes phased outcomes) way lines) → HasAllOutcomes phased way lines
has-on outcomes [] way is_on = is_on
has-on outcomes (line ∷ lines) way is_on =
    by (way_halts phased way line) (has-on outcomes lines (next_way phased way line) is_on)
  where
    by : (h : Option Status) → HasAllOutcomes phased (next_way phased way line) lines
        → unless_halted h (HasAllOutcomes phased (next_way phased way line) lines)
    by None has = has
    by (Some halt) has = tt
