-- Where a part couldn't be kept, what a copy wrote begins what it writes with all parts.
use Rattle.std.proofs.Common.{◌≡◌, ℕ, List, [], ◌∷◌, ◌++◌, Option, Some, None, refl, sym, ap, ap₂, subst, ◌∙◌}
use Rattle.std.proofs.Common.{append_assoc, ◌⊎◌, append-nil}
use mathlib.Core.Logic.{inl, inr}
use Rattle.vms_stream.specs.declared.statuses.Status.{Status}
use Rattle.vms_stream.specs.Common.{Gives, HasAllOutcomes, Lacks, On, OutcomeSupply, Short, Waiting, Way, halt_at}
use Rattle.vms_stream.specs.Common.{halted, next_way, printed, printed_at, printed_from, state_after, supply}
use Rattle.vms_stream.specs.Common.{unless_halted, last_of_way, last_words, way_after, way_prints}
use Rattle.vms_command.specs.Common.{Body, Heading}
use Rattle.vms_trace_parts.specs.Common.{TracePart}
use Rattle.vms_trace_parts.proofs.PlainWays.{Goes, State, at, behavior, ends, goes-given, phased, plain, same}
use Rattle.vms_trace_parts.proofs.PlainWays.{same_state}

module _ (outcomes : List TracePart) where
  short-stays : (lines : List (List ℕ)) → state_after (behavior outcomes) Short lines ≡ Short
  short-stays [] = refl
  short-stays (line ∷ lines) = short-stays lines

  short-quiet : (lines : List (List ℕ)) → printed (behavior outcomes) Short lines ≡ []
  short-quiet [] = refl
  short-quiet (line ∷ lines) = short-quiet lines

  -- a part lacks: then nothing is printed any more
  pub record Lacking (s : State) (left : List TracePart) (lines : List (List ℕ)) : Type 0 where
    pub rest : List ℕ
    pub prints : printed plain s lines ≡ printed (behavior outcomes) (On (at s) left) lines ++ rest
    pub way : state_after (behavior outcomes) (On (at s) left) lines ≡ Short

  -- each part is there, or one lacks
  pub has-or_lacks : (lines : List (List ℕ)) (s : State) (left : List TracePart)
      → HasAllOutcomes phased (On (at s) left) lines ⊎ Lacking s left lines
  has-or_lacks [] s left = inl tt
  has-or_lacks (line ∷ lines) s left =
      by (supply (ends s line) left) refl (λ left'. has-or_lacks lines (plain.next s line) left')
    where
      lacks : supply (ends s line) left ≡ Lacks → Lacking s left (line ∷ lines)
      lacks is =
          let way : next_way phased (On (at s) left) line ≡ Short = ap (way_after phased (at s) line) is in
          let quiet : printed (behavior outcomes) (On (at s) left) (line ∷ lines) ≡ [] =
          ap (λ (h : Option Status). printed_from h (way_prints phased (On (at s) left) line)
          (printed (behavior outcomes) (next_way phased (On (at s) left) line) lines))
          (ap (halt_at phased (at s) line) is)
          ∙ ap (λ (bytes : List ℕ). bytes ++ printed (behavior outcomes) (next_way phased (On (at s) left) line) lines)
          (ap (printed_at phased (at s) line) is)
          ∙ ap (λ (w : Way (Waiting State TracePart) TracePart). printed (behavior outcomes) w lines) way
          ∙ short-quiet lines in
          record {
            rest = printed plain s (line ∷ lines);
            prints = ap (λ (bytes : List ℕ). bytes ++ printed plain s (line ∷ lines)) (sym quiet);
            way = ap (λ (w : Way (Waiting State TracePart) TracePart). state_after (behavior outcomes) w lines) way
                ∙ short-stays lines;
          }

      later : (given : Option TracePart) (left' : List TracePart) → Goes s line left given left'
          → plain.halts s line ≡ None
          → HasAllOutcomes phased (On (at (plain.next s line)) left') lines ⊎ Lacking (plain.next s line) left' lines
          → HasAllOutcomes phased (On (at s) left) (line ∷ lines) ⊎ Lacking s left (line ∷ lines)
      later given left' step none (inl has) =
          inl (subst (λ (h : Option Status). unless_halted h
          (HasAllOutcomes phased (next_way phased (On (at s) left) line) lines)) (sym (step.halts ∙ none))
          (subst (λ (w : Way (Waiting State TracePart) TracePart). HasAllOutcomes phased w lines) (sym step.way) has))
      later given left' step none (inr lack) =
          inr (record {
            rest = lack.rest;
            prints = ap (λ (h : Option Status). printed_from h (plain.prints s line)
                (printed plain (plain.next s line) lines)) none
                ∙ ap₂ (λ (bytes more : List ℕ). bytes ++ more) (sym step.prints) lack.prints
                ∙ sym (append_assoc (way_prints phased (On (at s) left) line)
                (printed (behavior outcomes) (On (at (plain.next s line)) left') lines) lack.rest)
                ∙ ap (λ (w : Way (Waiting State TracePart) TracePart).
                (way_prints phased (On (at s) left) line ++ printed (behavior outcomes) w lines) ++ lack.rest)
                (sym step.way)
                ∙ ap (λ (h : Option Status). printed_from h (way_prints phased (On (at s) left) line)
                (printed (behavior outcomes) (next_way phased (On (at s) left) line) lines) ++ lack.rest)
                (sym (step.halts ∙ none));
            way = ap (λ (w : Way (Waiting State TracePart) TracePart). state_after (behavior outcomes) w lines) step.way
                ∙ lack.way;
          })

      stopped : (given : Option TracePart) (left' : List TracePart) (halt : Status) → Goes s line left given left'
          → plain.halts s line ≡ Some halt → HasAllOutcomes phased (On (at s) left) (line ∷ lines)
      stopped given left' halt step is = subst (λ (h : Option Status). unless_halted h
          (HasAllOutcomes phased (next_way phased (On (at s) left) line) lines)) (sym (step.halts ∙ is)) tt

      by_halt : (given : Option TracePart) (left' : List TracePart) → Goes s line left given left'
          → (halt : Option Status) → plain.halts s line ≡ halt
          → HasAllOutcomes phased (On (at (plain.next s line)) left') lines ⊎ Lacking (plain.next s line) left' lines
          → HasAllOutcomes phased (On (at s) left) (line ∷ lines) ⊎ Lacking s left (line ∷ lines)
      by_halt given left' step None is again = later given left' step is again
      by_halt given left' step (Some halt) is again = inl (stopped given left' halt step is)

      by : (got : OutcomeSupply TracePart) → supply (ends s line) left ≡ got
          → ((left' : List TracePart) → HasAllOutcomes phased (On (at (plain.next s line)) left') lines
          ⊎ Lacking (plain.next s line) left' lines)
          → HasAllOutcomes phased (On (at s) left) (line ∷ lines) ⊎ Lacking s left (line ∷ lines)
      by (Gives given left') is again =
          by_halt given left' (goes-given s line left given left' is) (plain.halts s line) refl (again left')
      by Lacks is again = inr (lacks is)

  -- what is printed at the end doesn't depend on the parts
  last-at : (s : State) (left : List TracePart) → last_of_way phased (On (at s) left) ≡ plain.last s
  last-at (Heading n stage) left = refl
  last-at (Body n header above part) [] = refl
  last-at (Body n header above part) (other ∷ left) = refl

  -- what is printed begins what the plain behavior prints
  pub printed-begins : (lines : List (List ℕ)) (s : State) (left : List TracePart)
      → (rest : List ℕ) × (printed plain s lines ≡ printed (behavior outcomes) (On (at s) left) lines ++ rest)
  printed-begins lines s left = by (has-or_lacks lines s left)
    where
      by : HasAllOutcomes phased (On (at s) left) lines ⊎ Lacking s left lines
          → (rest : List ℕ) × (printed plain s lines ≡ printed (behavior outcomes) (On (at s) left) lines ++ rest)
      by (inl has) = ([], sym (same outcomes lines s left has).prints ∙ sym (append-nil _))
      by (inr lack) = (lack.rest, lack.prints)

  -- and so it is with the whole output
  abbrev output_from : State → List TracePart → List (List ℕ) → List ℕ
  output_from s left lines = printed (behavior outcomes) (On (at s) left) lines
      ++ last_words (halted (behavior outcomes) (On (at s) left) lines)
      (last_of_way phased (state_after (behavior outcomes) (On (at s) left) lines))

  abbrev plain_output : State → List (List ℕ) → List ℕ
  plain_output s lines =
      printed plain s lines ++ last_words (halted plain s lines) (plain.last (state_after plain s lines))

  pub output-begins : (lines : List (List ℕ)) (s : State) (left : List TracePart)
      → (rest : List ℕ) × (plain_output s lines ≡ output_from s left lines ++ rest)
  output-begins lines s left = by (has-or_lacks lines s left)
    where
      alike : HasAllOutcomes phased (On (at s) left) lines → (halt : Option Status) → halted plain s lines ≡ halt
          → last_words (halted plain s lines) (plain.last (state_after plain s lines))
          ≡ last_words (halted (behavior outcomes) (On (at s) left) lines)
          (last_of_way phased (state_after (behavior outcomes) (On (at s) left) lines))
      alike has (Some halt) is =
          ap (λ (h : Option Status). last_words h (plain.last (state_after plain s lines))) is
          ∙ sym (ap (λ (h : Option Status). last_words h
          (last_of_way phased (state_after (behavior outcomes) (On (at s) left) lines)))
          ((same outcomes lines s left has).halt ∙ is))
      alike has None is =
          let on = same_state outcomes lines s left has is in
          ap (λ (h : Option Status). last_words h (plain.last (state_after plain s lines))) is
          ∙ sym (last-at (state_after plain s lines) on.0)
          ∙ ap (last_of_way phased) (sym on.1)
          ∙ sym (ap (λ (h : Option Status). last_words h
          (last_of_way phased (state_after (behavior outcomes) (On (at s) left) lines)))
          ((same outcomes lines s left has).halt ∙ is))

      quiet : (h : Option Status) → last_words h [] ≡ []
      quiet None = refl
      quiet (Some halt) = refl

      by : HasAllOutcomes phased (On (at s) left) lines ⊎ Lacking s left lines
          → (rest : List ℕ) × (plain_output s lines ≡ output_from s left lines ++ rest)
      by (inl has) = (
        [],
        ap₂ (λ (bytes words : List ℕ). bytes ++ words) (sym (same outcomes lines s left has).prints)
            (alike has (halted plain s lines) refl)
            ∙ sym (append-nil (output_from s left lines)),
      )
      by (inr lack) =
          let words = last_words (halted plain s lines) (plain.last (state_after plain s lines)) in
          let none : output_from s left lines ≡ printed (behavior outcomes) (On (at s) left) lines =
          ap (λ (w : Way (Waiting State TracePart) TracePart). printed (behavior outcomes) (On (at s) left) lines
          ++ last_words (halted (behavior outcomes) (On (at s) left) lines) (last_of_way phased w)) lack.way
          ∙ ap (λ (bytes : List ℕ). printed (behavior outcomes) (On (at s) left) lines ++ bytes)
          (quiet (halted (behavior outcomes) (On (at s) left) lines))
          ∙ append-nil (printed (behavior outcomes) (On (at s) left) lines) in (
            lack.rest ++ words,
            ap (λ (bytes : List ℕ). bytes ++ words) lack.prints
                ∙ append_assoc (printed (behavior outcomes) (On (at s) left) lines) lack.rest words
                ∙ ap (λ (bytes : List ℕ). bytes ++ (lack.rest ++ words)) (sym none),
          )
