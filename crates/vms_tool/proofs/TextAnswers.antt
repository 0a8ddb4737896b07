-- What a command writes of a whole text, and with which status, where it comes to the end, to a line that stops it or
-- past the limit.
use Rattle.std.proofs.Common.{◌≡◌, ℕ, ◌<◌, ◌≤◌, List, [], ◌∷◌, ◌++◌, length, Option, Some, None, inl, inr, refl, sym}
use Rattle.std.proofs.Common.{ap, subst, ◌∙◌, arith, append-nil}
use Rattle.std.proofs.lemmas.Bool.{cases_lt}
use Rattle.vms_stream.specs.Common.{Behavior, Ends, Halts, Oversteps, Reading, Says, first_halt, halted, last_words}
use Rattle.vms_stream.specs.Common.{lines_taken, most_bytes, printed, printed_from, state_after}
use Rattle.vms_stream.specs.declared.statuses.Status.{Status}
use Rattle.vms_stream.specs.declared.statuses.Status.TheVariants.{Done, Header, NotCertified, Refused, TooLong}
use Rattle.vms_world.specs.Common.{lines_of}
use Rattle.vms_tool.proofs.TakenTexts.{IsTakenOf, judged-beyond, judged-within, lines_taken-beyond, taken-short}
use Rattle.vms_tool.proofs.TakenTexts.{taken-whole}
use Rattle.vms_tool.specs.Common.{IsDecided}

-- the status with which a line stops a command, and this one where none does
abbrev pub stopped_or : Option Status → Status → Status
stopped_or None ending = ending
stopped_or (Some halt) ending = halt

module _ {S : Type 0} (behavior : Behavior S) where
  stops-further : (stop : Status) (first later later' : Option Status) (line rest rest' : List ℕ)
      → first_halt first later ≡ Some stop → (later ≡ Some stop → (later' ≡ Some stop) × (rest' ≡ rest))
      → (first_halt first later' ≡ Some stop) × (printed_from first line rest' ≡ printed_from first line rest)
  stops-further stop None later later' line rest rest' stops same =
      let both = same stops in (both.0, ap (λ (bytes : List ℕ). line ++ bytes) both.1)
  stops-further stop (Some Header) later later' line rest rest' stops same = (stops, refl)
  stops-further stop (Some NotCertified) later later' line rest rest' stops same = (stops, refl)
  stops-further stop (Some _) later later' line rest rest' stops same = (stops, refl)

  -- what stands after a line that stops the command makes no difference
  pub stopped-further : (s : S) (lines more : List (List ℕ)) (stop : Status) → halted behavior s lines ≡ Some stop
      → (halted behavior s (lines ++ more) ≡ Some stop)
      × (printed behavior s (lines ++ more) ≡ printed behavior s lines)
  stopped-further s [] more stop stops = absurd cc
  stopped-further s (line ∷ lines) more stop stops =
      let next = behavior.next s line in
      stops-further stop (behavior.halts s line) (halted behavior next lines) (halted behavior next (lines ++ more))
      (behavior.prints s line) (printed behavior next lines) (printed behavior next (lines ++ more)) stops
      (stopped-further next lines more stop)

  -- what comes of these lines, where without a line that stops the command it ends so, with these last words
  abbrev pub ComesOf : List (List ℕ) → Status → List ℕ → Status → List ℕ → Type 0
  ComesOf lines ending words status written =
      (status ≡ stopped_or (halted behavior behavior.start lines) ending)
      × (written ≡ printed behavior behavior.start lines ++ last_words (halted behavior behavior.start lines) words)

  comes-stopped : (all lines more : List (List ℕ)) (ending stop : Status) (words written : List ℕ)
      → all ≡ lines ++ more → halted behavior behavior.start lines ≡ Some stop
      → written ≡ printed behavior behavior.start lines → ComesOf all ending words stop written
  comes-stopped all lines more ending stop words written parts stops prints =
      let further = stopped-further behavior.start lines more stop stops in
      subst (λ (ls : List (List ℕ)). ComesOf ls ending words stop written) (sym parts) (
        ap (λ (halt : Option Status). stopped_or halt ending) (sym further.0),
        prints ∙ sym further.1 ∙ sym (append-nil (printed behavior behavior.start (lines ++ more)))
            ∙ ap (λ (halt : Option Status). printed behavior behavior.start (lines ++ more) ++ last_words halt words)
            (sym further.0),
      )

  comes-open : (lines : List (List ℕ)) (ending status : Status) (words written : List ℕ)
      → halted behavior behavior.start lines ≡ None → ending ≡ status
      → written ≡ printed behavior behavior.start lines ++ last_words (halted behavior behavior.start lines) words
      → ComesOf lines ending words status written
  comes-open lines ending status words written none ends prints =
      (sym ends ∙ ap (λ (halt : Option Status). stopped_or halt ending) (sym none), prints)

  -- what comes of a text within the limit, and of one past it
  abbrev pub ComesWithin : List ℕ → Status → List ℕ → Type 0
  ComesWithin text status written =
      ComesOf (lines_of text) (behavior.ends (state_after behavior behavior.start (lines_of text)))
      (behavior.last (state_after behavior behavior.start (lines_of text))) status written

  abbrev pub ComesBeyond : List ℕ → Status → List ℕ → Type 0
  ComesBeyond text status written = ComesOf (lines_taken text) TooLong [] status written

  abbrev pub Comes : List ℕ → Status → List ℕ → Type 0
  Comes text status written =
      (length text ≤ most_bytes → ComesWithin text status written)
      × (most_bytes < length text → ComesBeyond text status written)

  -- that is one status and one output
  pub comes-once : (text : List ℕ) (status status' : Status) (written written' : List ℕ)
      → Comes text status written → Comes text status' written' → (status ≡ status') × (written ≡ written')
  comes-once text status status' written written' one other = elim (cases_lt most_bytes (length text)) [
    | inl beyond ↦
        let this = one.1 beyond in
        let that = other.1 beyond in
        (this.0 ∙ sym that.0, this.1 ∙ sym that.1)
    | inr within ↦
        let this = one.0 within in
        let that = other.0 within in
        (this.0 ∙ sym that.0, this.1 ∙ sym that.1)
  ]

  module _ (text taken written : List ℕ) (reading : Reading) (is : IsTakenOf text taken reading.at_end) where
    comes-halts : (halt : Status) → Halts behavior halt taken written reading → Comes text halt written
    comes-halts halt halts =
        let within = judged-within text taken reading.at_end is halts.lines halts.judged in (
          λ few. comes-stopped (lines_of text) halts.lines within.0
              (behavior.ends (state_after behavior behavior.start (lines_of text))) halt
              (behavior.last (state_after behavior behavior.start (lines_of text))) written within.1 halts.halt_is
              halts.whole_output,
          λ many.
              let beyond = judged-beyond text taken reading.at_end is many halts.lines halts.judged in
              comes-stopped (lines_taken text) halts.lines beyond.0 TooLong halt [] written beyond.1 halts.halt_is
              halts.whole_output,
        )

    comes-ends : (shows : S → Type 0) (ending : Status)
        → Ends behavior shows ending taken written reading.at_end → Comes text ending written
    comes-ends shows ending ends =
        let whole = taken-whole text taken reading.at_end is ends.ended in
        let lines = lines_of taken in (
          λ few. subst (λ (all : List ℕ). ComesWithin all ending written) whole
              (comes-open lines (behavior.ends (state_after behavior behavior.start lines)) ending
              (behavior.last (state_after behavior behavior.start lines)) written ends.none_halts ends.ending_is
              ends.whole_output),
          λ many. absurd (omega (arith, many, ends.within, ap length whole)),
        )

    comes-oversteps : Oversteps behavior taken written reading → Comes text TooLong written
    comes-oversteps oversteps =
        let beyond : most_bytes < length taken = oversteps.beyond in
        let lines = lines_taken taken in (
          λ few. absurd (omega (arith, few, beyond, taken-short text taken reading.at_end is)),
          λ many. subst (λ (ls : List (List ℕ)). ComesOf ls TooLong [] TooLong written)
              (lines_taken-beyond text taken reading.at_end is beyond)
              (comes-open lines TooLong TooLong [] written oversteps.none_halts refl
              (oversteps.whole_output ∙ sym (append-nil (printed behavior behavior.start lines))
              ∙ ap (λ (halt : Option Status). printed behavior behavior.start lines ++ last_words halt [])
              (sym oversteps.none_halts))),
        )

    -- what a command says of a part of a text that it took comes of the whole text
    pub comes-said : (shows : S → Type 0) (status : Status) → IsDecided status
        → Says behavior shows status taken written reading → Comes text status written
    comes-said shows Done decided says = comes-ends shows Done says
    comes-said shows Refused decided says = comes-ends shows Refused says
    comes-said shows Header decided (inl halts) = comes-halts Header halts
    comes-said shows Header decided (inr ends) = comes-ends shows Header ends
    comes-said shows NotCertified decided (inl halts) = comes-halts NotCertified halts
    comes-said shows NotCertified decided (inr ends) = comes-ends shows NotCertified ends
    comes-said shows TooLong decided (inl halts) = comes-halts TooLong halts
    comes-said shows TooLong decided (inr oversteps) = comes-oversteps oversteps
    comes-said shows _ decided says = absurd decided
