-- A way with more outcomes.
use Rattle.std.proofs.Common.{◌≡◌, ℕ, Bool, true, false, List, [], ◌∷◌, ◌++◌, Option, Some, None, refl, sym, ap, ap₂}
use Rattle.std.proofs.Common.{subst, ◌∙◌, append_assoc, append-nil}
use Rattle.vms_stream.specs.declared.statuses.Status.{Status}
use Rattle.vms_stream.specs.declared.statuses.Status.TheVariants.{Header, NotCertified}
use Rattle.vms_stream.specs.Common.{Behavior, state_after, first_halt, halted, printed_from, printed, last_words}
use Rattle.vms_stream.specs.Common.{PhasedBehavior, OutcomeSupply, Way, halt_at, last_of_way, next_way, printed_at}
use Rattle.vms_stream.specs.Common.{printed_last, supply, way_after, way_halts, way_prints, with_outcomes, Gives, Lacks}
use Rattle.vms_stream.specs.Common.{On, Short, IsMore, IsOn, HasAllOutcomes, unless_halted, AgreesFrom, GoesWithMore}

-- one text begins another
abbrev pub Begins : List ℕ → List ℕ → Type 0
Begins front all = (rest : List ℕ) × (all ≡ front ++ rest)

pub begins_from : (halt : Option Status) (line front all : List ℕ) → Begins front all
    → Begins (printed_from halt line front) (printed_from halt line all)
begins_from None line front all begins =
    (begins.0, ap (λ (rest : List ℕ). line ++ rest) begins.1 ∙ sym (append_assoc line front begins.0))
begins_from (Some Header) line front all begins = ([], sym (append-nil line))
begins_from (Some NotCertified) line front all begins = ([], sym (append-nil line))
begins_from (Some _) line front all begins = ([], refl)

-- what lines print, and what comes after the last one
abbrev pub printed_to : {S : Type 0} → Behavior S → (S → List ℕ) → S → List (List ℕ) → List ℕ
printed_to behavior after s [] = after s
printed_to behavior after s (line ∷ lines) =
    printed_from (behavior.halts s line) (behavior.prints s line) (printed_to behavior after
    (behavior.next s line) lines)

module _ {S : Type 0} (behavior : Behavior S) where
  pub printed_to-printed : (s : S) (lines : List (List ℕ))
      → printed behavior s lines ≡ printed_to behavior (λ (s : S). []) s lines
  printed_to-printed s [] = refl
  printed_to-printed s (line ∷ lines) =
      ap (printed_from (behavior.halts s line) (behavior.prints s line))
      (printed_to-printed (behavior.next s line) lines)

  words_after : (halt later : Option Status) (line printed words all : List ℕ) → printed ++ last_words later words ≡ all
      → printed_from halt line printed ++ last_words (first_halt halt later) words ≡ printed_from halt line all
  words_after None later line printed words all is =
      append_assoc line printed (last_words later words) ∙ ap (λ (rest : List ℕ). line ++ rest) is
  words_after (Some Header) later line printed words all is = append-nil line
  words_after (Some NotCertified) later line printed words all is = append-nil line
  words_after (Some _) later line printed words all is = refl

  pub printed_to-words : (s : S) (lines : List (List ℕ))
      → printed behavior s lines
      ++ last_words (halted behavior s lines) (behavior.last (state_after behavior s lines))
      ≡ printed_to behavior behavior.last s lines
  printed_to-words s [] = refl
  printed_to-words s (line ∷ lines) =
      let next = behavior.next s line in
      words_after (behavior.halts s line) (halted behavior next lines) (behavior.prints s line)
      (printed behavior next lines) (behavior.last (state_after behavior next lines))
      (printed_to behavior behavior.last next lines) (printed_to-words next lines)

-- one line of two ways that print the same there and stop alike
same_line : (halt halt' later later' : Option Status) (line line' rest rest' : List ℕ) → halt' ≡ halt → line' ≡ line
    → (halt ≡ None → (later' ≡ later) × (rest' ≡ rest))
    → (first_halt halt' later' ≡ first_halt halt later)
    × (printed_from halt' line' rest' ≡ printed_from halt line rest)
same_line None halt' later later' line line' rest rest' same_halt same_text same_rest = (
  ap (λ (halt : Option Status). first_halt halt later') same_halt ∙ (same_rest refl).0,
  ap (λ (halt : Option Status). printed_from halt line' rest') same_halt
      ∙ ap₂ (λ (front back : List ℕ). front ++ back) same_text (same_rest refl).1,
)
same_line (Some Header) halt' later later' line line' rest rest' same_halt same_text same_rest = (
  ap (λ (halt : Option Status). first_halt halt later') same_halt,
  ap (λ (halt : Option Status). printed_from halt line' rest') same_halt ∙ same_text,
)
same_line (Some NotCertified) halt' later later' line line' rest rest' same_halt same_text same_rest = (
  ap (λ (halt : Option Status). first_halt halt later') same_halt,
  ap (λ (halt : Option Status). printed_from halt line' rest') same_halt ∙ same_text,
)
same_line (Some _) halt' later later' line line' rest rest' same_halt same_text same_rest = (
  ap (λ (halt : Option Status). first_halt halt later') same_halt,
  ap (λ (halt : Option Status). printed_from halt line' rest') same_halt,
)

module _ {S O : Type 0} (phased : PhasedBehavior S O) where
  -- the outcomes of the start alone tell two such behaviors apart
  pub state_after-start : (outcomes others : List O) (way : Way S O) (lines : List (List ℕ))
      → state_after (with_outcomes phased outcomes) way lines ≡ state_after (with_outcomes phased others) way lines
  state_after-start outcomes others way [] = refl
  state_after-start outcomes others way (line ∷ lines) =
      state_after-start outcomes others (next_way phased way line) lines

  pub halted-start : (outcomes others : List O) (way : Way S O) (lines : List (List ℕ))
      → halted (with_outcomes phased outcomes) way lines ≡ halted (with_outcomes phased others) way lines
  halted-start outcomes others way [] = refl
  halted-start outcomes others way (line ∷ lines) =
      ap (first_halt (way_halts phased way line)) (halted-start outcomes others (next_way phased way line) lines)

  pub printed_to-start : (outcomes others : List O) (after : Way S O → List ℕ) (way : Way S O)
      (lines : List (List ℕ)) → printed_to (with_outcomes phased outcomes) after way lines
      ≡ printed_to (with_outcomes phased others) after way lines
  printed_to-start outcomes others after way [] = refl
  printed_to-start outcomes others after way (line ∷ lines) =
      ap (printed_from (way_halts phased way line) (way_prints phased way line))
      (printed_to-start outcomes others after (next_way phased way line) lines)

  pub printed-start : (outcomes others : List O) (way : Way S O) (lines : List (List ℕ))
      → printed (with_outcomes phased outcomes) way lines ≡ printed (with_outcomes phased others) way lines
  printed-start outcomes others way [] = refl
  printed-start outcomes others way (line ∷ lines) =
      ap (printed_from (way_halts phased way line) (way_prints phased way line))
      (printed-start outcomes others (next_way phased way line) lines)

  pub AgreesFrom-all : (outcomes others : List O) (way : Way S O) (lines : List (List ℕ))
      → AgreesFrom phased outcomes others way lines
  AgreesFrom-all outcomes others way lines = record {
    state = state_after-start outcomes others way lines;
    halt = halted-start outcomes others way lines;
    prints = printed-start outcomes others way lines;
  }

  -- a way that is short stays so, and prints nothing
  pub state_after-short : (outcomes : List O) (lines : List (List ℕ))
      → state_after (with_outcomes phased outcomes) Short lines ≡ Short
  state_after-short outcomes [] = refl
  state_after-short outcomes (line ∷ lines) = state_after-short outcomes lines

  pub halted-short : (outcomes : List O) (lines : List (List ℕ))
      → halted (with_outcomes phased outcomes) Short lines ≡ None
  halted-short outcomes [] = refl
  halted-short outcomes (line ∷ lines) = halted-short outcomes lines

  pub printed_to-short : (outcomes : List O) (after : Way S O → List ℕ) (lines : List (List ℕ)) → after Short ≡ []
      → printed_to (with_outcomes phased outcomes) after Short lines ≡ []
  printed_to-short outcomes after [] none = none
  printed_to-short outcomes after (line ∷ lines) none = printed_to-short outcomes after lines none

  -- what a line and the later ones print, by what the line gets
  abbrev line_to : List O → (Way S O → List ℕ) → S → List ℕ → List (List ℕ) → OutcomeSupply O → List ℕ
  line_to outcomes after s line lines got = printed_from (halt_at phased s line got) (printed_at phased s line got)
      (printed_to (with_outcomes phased outcomes) after (way_after phased s line got) lines)

  pub HasAllOutcomes-short : (lines : List (List ℕ)) → HasAllOutcomes phased Short lines → ⊥
  HasAllOutcomes-short [] whole = whole
  HasAllOutcomes-short (line ∷ lines) whole = HasAllOutcomes-short lines whole

  pub HasAllOutcomes-head : (way : Way S O) (line : List ℕ) (lines : List (List ℕ)) →
      HasAllOutcomes phased way (line ∷ lines)
      → IsOn (next_way phased way line)
  HasAllOutcomes-head Short line lines whole = HasAllOutcomes-short lines whole
  HasAllOutcomes-head (On s left) line lines whole = by (supply (phased.ends_phase s line) left) whole
    where
      by : (got : OutcomeSupply O)
          → unless_halted (halt_at phased s line got) (HasAllOutcomes phased (way_after phased s line got) lines)
          → IsOn (way_after phased s line got)
      by (Gives given rest) whole = tt
      by Lacks whole = HasAllOutcomes-short lines whole

  module _ (more : List O) where
    way_after-more : (s : S) (line : List ℕ) (ends : Bool) (left : List O)
        → IsMore more (way_after phased s line (supply ends left)) (way_after phased s line (supply ends
        (left ++ more)))
    way_after-more s line false left = refl
    way_after-more s line true [] = tt
    way_after-more s line true (outcome ∷ left) = refl

    next_way-more : (s : S) (left : List O) (line : List ℕ)
        → IsMore more (next_way phased (On s left) line) (next_way phased (On s (left ++ more)) line)
    next_way-more s left line = way_after-more s line (phased.ends_phase s line) left

    pub state_after-more : (outcomes : List O) (way way' : Way S O) (lines : List (List ℕ)) → IsMore more way way'
        → IsMore more (state_after (with_outcomes phased outcomes) way lines)
        (state_after (with_outcomes phased outcomes) way' lines)
    state_after-more outcomes way way' [] is = is
    state_after-more outcomes Short way' (line ∷ lines) is =
        state_after-more outcomes Short (next_way phased way' line) lines tt
    state_after-more outcomes (On s left) way' (line ∷ lines) is =
        state_after-more outcomes (next_way phased (On s left) line) (next_way phased way' line) lines
        (subst (λ (w : Way S O). IsMore more (next_way phased (On s left) line) (next_way phased w line)) (sym is)
        (next_way-more s left line))

    line-more : (s : S) (line : List ℕ) (ends : Bool) (left : List O)
        → IsOn (way_after phased s line (supply ends left))
        → (halt_at phased s line (supply ends (left ++ more)) ≡ halt_at phased s line (supply ends left))
        × (printed_at phased s line (supply ends (left ++ more)) ≡ printed_at phased s line (supply ends left))
    line-more s line false left on = (refl, refl)
    line-more s line true [] on = absurd on
    line-more s line true (outcome ∷ left) on = (refl, refl)

    pub HasAllOutcomes-more : (outcomes : List O) (way way' : Way S O) (lines : List (List ℕ)) → IsMore more way way'
        → HasAllOutcomes phased way lines
        → (halted (with_outcomes phased outcomes) way' lines ≡ halted (with_outcomes phased outcomes) way lines)
        × (printed (with_outcomes phased outcomes) way' lines ≡ printed (with_outcomes phased outcomes) way lines)
    HasAllOutcomes-more outcomes way way' [] is whole = (refl, refl)
    HasAllOutcomes-more outcomes Short way' (line ∷ lines) is whole = absurd (HasAllOutcomes-short lines whole)
    HasAllOutcomes-more outcomes (On s left) way' (line ∷ lines) is whole =
        subst (λ (w : Way S O). (halted (with_outcomes phased outcomes) w (line ∷ lines)
        ≡ halted (with_outcomes phased outcomes) (On s left) (line ∷ lines))
        × (printed (with_outcomes phased outcomes) w (line ∷ lines)
        ≡ printed (with_outcomes phased outcomes) (On s left) (line ∷ lines))) (sym is) (
        let way = On s left in
        let longer = On s (left ++ more) in
        let next = next_way phased way line in
        let next' = next_way phased longer line in
        let same = line-more s line (phased.ends_phase s line) left (HasAllOutcomes-head way line lines whole) in
        same_line (way_halts phased way line) (way_halts phased longer line)
        (halted (with_outcomes phased outcomes) next lines) (halted (with_outcomes phased outcomes) next' lines)
        (way_prints phased way line) (way_prints phased longer line)
        (printed (with_outcomes phased outcomes) next lines) (printed (with_outcomes phased outcomes) next' lines)
        same.0 same.1
        (λ none. HasAllOutcomes-more outcomes next next' lines (next_way-more s left line)
        (subst (λ (halt : Option Status). unless_halted halt (HasAllOutcomes phased next lines)) none whole))
        )

    line_to-more : (outcomes : List O) (after : Way S O → List ℕ) → after Short ≡ []
        → (s : S) (line : List ℕ) (lines : List (List ℕ))
        → ((now : S) (rest : List O) → Begins (printed_to (with_outcomes phased outcomes) after (On now rest) lines)
        (printed_to (with_outcomes phased outcomes) after (On now (rest ++ more)) lines))
        → (ends : Bool) (left : List O) → Begins (line_to outcomes after s line lines (supply ends left))
        (line_to outcomes after s line lines (supply ends (left ++ more)))
    line_to-more outcomes after none s line lines later false left =
        begins_from (phased.halts s line None) (phased.prints s line None)
        (printed_to (with_outcomes phased outcomes) after (On (phased.next s line None) left) lines)
        (printed_to (with_outcomes phased outcomes) after (On (phased.next s line None) (left ++ more)) lines)
        (later (phased.next s line None) left)
    line_to-more outcomes after none s line lines later true [] = (
      line_to outcomes after s line lines (supply true more),
      ap (λ (front : List ℕ). front ++ line_to outcomes after s line lines (supply true more))
          (sym (printed_to-short outcomes after lines none)),
    )
    line_to-more outcomes after none s line lines later true (outcome ∷ left) =
        begins_from (phased.halts s line (Some outcome)) (phased.prints s line (Some outcome))
        (printed_to (with_outcomes phased outcomes) after (On (phased.next s line (Some outcome)) left) lines)
        (printed_to (with_outcomes phased outcomes) after (On (phased.next s line (Some outcome)) (left ++ more)) lines)
        (later (phased.next s line (Some outcome)) left)

    -- what is printed with fewer outcomes begins what is printed with more
    pub printed_to-more : (outcomes : List O) (after : Way S O → List ℕ) → after Short ≡ []
        → ((way way' : Way S O) → IsMore more way way' → Begins (after way) (after way'))
        → (way way' : Way S O) (lines : List (List ℕ)) → IsMore more way way'
        → Begins (printed_to (with_outcomes phased outcomes) after way lines)
        (printed_to (with_outcomes phased outcomes) after way' lines)
    printed_to-more outcomes after none begins way way' [] is = begins way way' is
    printed_to-more outcomes after none begins Short way' (line ∷ lines) is = (
      printed_to (with_outcomes phased outcomes) after way' (line ∷ lines),
      ap (λ (front : List ℕ). front ++ printed_to (with_outcomes phased outcomes) after way' (line ∷ lines))
          (sym (printed_to-short outcomes after lines none)),
    )
    printed_to-more outcomes after none begins (On s left) way' (line ∷ lines) is =
        subst (λ (w : Way S O). Begins (printed_to (with_outcomes phased outcomes) after (On s left) (line ∷ lines))
        (printed_to (with_outcomes phased outcomes) after w (line ∷ lines))) (sym is)
        (line_to-more outcomes after none s line lines
        (λ now rest. printed_to-more outcomes after none begins (On now rest) (On now (rest ++ more)) lines refl)
        (phased.ends_phase s line) left)

    last_of_way-more : (way way' : Way S O) → IsMore more way way'
        → Begins (last_of_way phased way) (last_of_way phased way')
    last_of_way-more Short way' is = (last_of_way phased way', refl)
    last_of_way-more (On s left) way' is =
        subst (λ (w : Way S O). Begins (last_of_way phased (On s left)) (last_of_way phased w)) (sym is)
        (by (phased.ends_last s) left)
      where
        by : (ends : Bool) (left : List O)
            → Begins (printed_last phased s (supply ends left)) (printed_last phased s (supply ends (left ++ more)))
        by false left = ([], sym (append-nil (phased.last s None)))
        by true [] = (printed_last phased s (supply true more), refl)
        by true (outcome ∷ left) = ([], sym (append-nil (phased.last s (Some outcome))))

    pub printed-more : (outcomes : List O) (way way' : Way S O) (lines : List (List ℕ)) → IsMore more way way'
        → Begins (printed (with_outcomes phased outcomes) way lines) (printed
        (with_outcomes phased outcomes) way' lines)
    printed-more outcomes way way' lines is =
        let behavior = with_outcomes phased outcomes in
        let begins = printed_to-more outcomes (λ (w : Way S O). []) refl (λ w w' is. ([], refl)) way way' lines is in (
          begins.0,
          printed_to-printed behavior way' lines ∙ begins.1
              ∙ ap (λ (front : List ℕ). front ++ begins.0) (sym (printed_to-printed behavior way lines)),
        )

  pub GoesWithMore-all : (outcomes more : List O) (lines : List (List ℕ)) → GoesWithMore phased outcomes more lines
  GoesWithMore-all outcomes more lines =
      let longer = outcomes ++ more in
      let way = On phased.start outcomes in
      let way' = On phased.start longer in
      let begins = printed-more more outcomes way way' lines refl in
      let outputs = printed_to-more more outcomes (last_of_way phased) refl (last_of_way-more more) way way' lines refl
      in
      record {
        way = subst (λ (w : Way S O). IsMore more (state_after (with_outcomes phased outcomes) way lines) w)
            (state_after-start outcomes longer way' lines) (state_after-more more outcomes way way' lines refl);
        halt = λ whole. halted-start longer outcomes way' lines
            ∙ (HasAllOutcomes-more more outcomes way way' lines refl whole).0;
        prints = λ whole. printed-start longer outcomes way' lines
            ∙ (HasAllOutcomes-more more outcomes way way' lines refl whole).1;
        begins = (begins.0, printed-start longer outcomes way' lines ∙ begins.1);
        output_begins = (
          outputs.0,
          printed_to-words (with_outcomes phased longer) way' lines
              ∙ printed_to-start longer outcomes (last_of_way phased) way' lines ∙ outputs.1
              ∙ ap (λ (front : List ℕ). front ++ outputs.0)
              (sym (printed_to-words (with_outcomes phased outcomes) way lines)),
        );
      }
