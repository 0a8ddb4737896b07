-- A behavior over lines in two parts.
use Rattle.std.proofs.Common.{◌≡◌, ℕ, List, [], ◌∷◌, ◌++◌, Option, Some, None, refl, sym, ap, ◌∙◌, append_assoc}
use Rattle.std.proofs.Common.{append-nil}
use Rattle.vms_stream.specs.declared.statuses.Status.{Status}
use Rattle.vms_stream.specs.declared.statuses.Status.TheVariants.{Header, NotCertified}
use Rattle.vms_stream.specs.Common.{Behavior, MayHalt, state_after, first_halt, halted, printed_from, printed}
use Rattle.vms_stream.specs.Common.{last_words, output}

module _ {S : Type 0} (behavior : Behavior S) where
  pub state_after-append : (s : S) (lines more : List (List ℕ))
      → state_after behavior s (lines ++ more) ≡ state_after behavior (state_after behavior s lines) more
  state_after-append s [] more = refl
  state_after-append s (line ∷ lines) more = state_after-append (behavior.next s line) lines more

  pub first_halt-none : (first later : Option Status) → first_halt first later ≡ None → (first ≡ None) × (later ≡ None)
  first_halt-none None later none = (refl, none)
  first_halt-none (Some halt) later none = absurd cc

  -- where no line of the first part stops it
  pub halted-append : (s : S) (lines more : List (List ℕ)) → halted behavior s lines ≡ None
      → halted behavior s (lines ++ more) ≡ halted behavior (state_after behavior s lines) more
  halted-append s [] more none = refl
  halted-append s (line ∷ lines) more none =
      let both = first_halt-none (behavior.halts s line) (halted behavior (behavior.next s line) lines) none in
      ap (λ (first : Option Status). first_halt first (halted behavior (behavior.next s line) (lines ++ more))) both.0
      ∙ halted-append (behavior.next s line) lines more both.1

  pub printed-append : (s : S) (lines more : List (List ℕ)) → halted behavior s lines ≡ None
      → printed behavior s (lines ++ more) ≡ printed behavior s lines ++ printed behavior (state_after behavior s lines)
      more
  printed-append s [] more none = refl
  printed-append s (line ∷ lines) more none =
      let both = first_halt-none (behavior.halts s line) (halted behavior (behavior.next s line) lines) none in
      let next = behavior.next s line in
      ap (λ (first : Option Status). printed_from first (behavior.prints s line)
      (printed behavior next (lines ++ more))) both.0
      ∙ ap (λ (rest : List ℕ). behavior.prints s line ++ rest) (printed-append next lines more both.1)
      ∙ sym (append_assoc (behavior.prints s line) (printed behavior next lines)
      (printed behavior (state_after behavior next lines) more))
      ∙ ap (λ (first : Option Status). printed_from first (behavior.prints s line) (printed behavior next lines)
      ++ printed behavior (state_after behavior next lines) more) (sym both.0)

  -- what lines print begins what they and more lines print
  begins_from : (first : Option Status) (line printed all : List ℕ) → (rest : List ℕ) × (all ≡ printed ++ rest)
      → (rest : List ℕ) × (printed_from first line all ≡ printed_from first line printed ++ rest)
  begins_from None line printed all later =
      (later.0, ap (λ (rest : List ℕ). line ++ rest) later.1 ∙ sym (append_assoc line printed later.0))
  begins_from (Some Header) line printed all later = ([], sym (append-nil line))
  begins_from (Some NotCertified) line printed all later = ([], sym (append-nil line))
  begins_from (Some _) line printed all later = ([], refl)

  pub printed-begins : (s : S) (lines more : List (List ℕ))
      → (rest : List ℕ) × (printed behavior s (lines ++ more) ≡ printed behavior s lines ++ rest)
  printed-begins s [] more = (printed behavior s more, refl)
  printed-begins s (line ∷ lines) more =
      begins_from (behavior.halts s line) (behavior.prints s line) (printed behavior (behavior.next s line) lines)
      (printed behavior (behavior.next s line) (lines ++ more)) (printed-begins (behavior.next s line) lines more)

  pub output-begins : (lines more : List (List ℕ))
      → (rest : List ℕ) × (output behavior (lines ++ more) ≡ printed behavior behavior.start lines ++ rest)
  output-begins lines more =
      let begins = printed-begins behavior.start lines more in
      let words = last_words (halted behavior behavior.start (lines ++ more))
      (behavior.last (state_after behavior behavior.start (lines ++ more))) in (
        begins.0 ++ words,
        ap (λ (front : List ℕ). front ++ words) begins.1
            ∙ append_assoc (printed behavior behavior.start lines) begins.0 words,
      )

  -- the whole output where no line stops the behavior
  pub output-open : (lines : List (List ℕ)) → halted behavior behavior.start lines ≡ None
      → output behavior lines ≡ printed behavior behavior.start lines ++ behavior.last
      (state_after behavior behavior.start lines)
  output-open lines none =
      ap (λ (halt : Option Status). printed behavior behavior.start lines ++ last_words halt
      (behavior.last (state_after behavior behavior.start lines))) none

  -- nothing is printed after a line that stops it
  stopped-prints : (halt : Status) (line later other : List ℕ)
      → printed_from (Some halt) line later ≡ printed_from (Some halt) line other
  stopped-prints Header line later other = refl
  stopped-prints NotCertified line later other = refl
  stopped-prints _ line later other = refl

  -- lines stop it with a status that a line may stop it with
  pub MayHalt-halted : (s : S) (lines : List (List ℕ)) → MayHalt (halted behavior s lines)
  MayHalt-halted s [] = tt
  MayHalt-halted s (line ∷ lines) =
      by (behavior.halts s line) (behavior.may_halt s line) (MayHalt-halted (behavior.next s line) lines)
    where
      by : (first : Option Status) → MayHalt first → MayHalt (halted behavior (behavior.next s line) lines)
          → MayHalt (first_halt first (halted behavior (behavior.next s line) lines))
      by None may later = later
      by (Some halt) may later = may

  -- where a line of the first part stops it
  pub halted-stops : (s : S) (lines more : List (List ℕ)) (halt : Status) → halted behavior s lines ≡ Some halt
      → (halted behavior s (lines ++ more) ≡ Some halt)
      × (printed behavior s (lines ++ more) ≡ printed behavior s lines)
  halted-stops s [] more halt some = absurd cc
  halted-stops s (line ∷ lines) more halt some =
      by (behavior.halts s line) refl (halted-stops (behavior.next s line) lines more halt)
    where
      by : (first : Option Status) → behavior.halts s line ≡ first
          → (halted behavior (behavior.next s line) lines ≡ Some halt
          → (halted behavior (behavior.next s line) (lines ++ more) ≡ Some halt)
          × (printed behavior (behavior.next s line) (lines ++ more) ≡ printed behavior (behavior.next s line) lines))
          → (halted behavior s ((line ∷ lines) ++ more) ≡ Some halt)
          × (printed behavior s ((line ∷ lines) ++ more) ≡ printed behavior s (line ∷ lines))
      by None is again =
          let next = behavior.next s line in
          let later : halted behavior next lines ≡ Some halt
          = sym (ap (λ (first : Option Status). first_halt first (halted behavior next lines)) is) ∙ some in
          let stops = again later in (
            ap (λ (first : Option Status). first_halt first (halted behavior next (lines ++ more))) is ∙ stops.0,
            ap (λ (rest : List ℕ). printed_from (behavior.halts s line) (behavior.prints s line) rest) stops.1,
          )
      by (Some first) is again =
          let next = behavior.next s line in (
            ap (λ (found : Option Status). first_halt found (halted behavior next (lines ++ more))) is
                ∙ sym (ap (λ (found : Option Status). first_halt found (halted behavior next lines)) is) ∙ some,
            ap (λ (found : Option Status). printed_from found (behavior.prints s line)
                (printed behavior next (lines ++ more))) is
                ∙ stopped-prints first (behavior.prints s line) (printed behavior next (lines ++ more))
                (printed behavior next lines)
                ∙ sym (ap (λ (found : Option Status). printed_from found (behavior.prints s line)
                (printed behavior next lines)) is),
          )

  -- where no line of both parts stops it, none of the first does
  pub halted-first : (s : S) (lines more : List (List ℕ)) → halted behavior s (lines ++ more) ≡ None
      → halted behavior s lines ≡ None
  halted-first s lines more none = by (halted behavior s lines) refl
    where
      by : (found : Option Status) → halted behavior s lines ≡ found → halted behavior s lines ≡ None
      by None is = is
      by (Some halt) is =
          let stops : Some halt ≡ None = sym (halted-stops s lines more halt is).0 ∙ none in absurd cc
