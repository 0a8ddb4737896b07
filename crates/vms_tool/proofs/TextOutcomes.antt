-- The outcomes of the phases that were made of a whole text are one list, where a phase may have one outcome alone. So
-- is what is written.
use Rattle.std.proofs.Common.{◌≡◌, ℕ, ◌<◌, ◌≤◌, Bool, true, false, List, [], ◌∷◌, ◌++◌, length, Option, Some, None, inl}
use Rattle.std.proofs.Common.{inr, sym, ap, ap₂, subst, ◌∙◌, arith}
use Rattle.std.proofs.lemmas.Bool.{cases_lt}
use Rattle.vms_stream.specs.Common.{AllUsed, AreMade, AreOutcomesOf, Ends, Halts, IsOn, On, OutcomesLead}
use Rattle.vms_stream.specs.Common.{OutcomesLeadToEnd, Oversteps, PhasedBehavior, Reading, Says, SaysPhased, UsedAtEnd}
use Rattle.vms_stream.specs.Common.{Way, halted, leads_on, lines_taken, most_bytes, shown_on, shown_with, supply}
use Rattle.vms_stream.specs.Common.{with_outcomes}
use Rattle.vms_stream.specs.declared.statuses.Status.{Status}
use Rattle.vms_stream.specs.declared.statuses.Status.TheVariants.{Done, Header, NotCertified, Refused, TooLong}
use Rattle.vms_world.specs.Common.{lines_of}
use Rattle.vms_tool.proofs.OneList.{HasOneOutcome, LeadAll, lead-stopped, on_after, one-list}
use Rattle.vms_tool.proofs.TakenTexts.{IsTakenOf, judged-beyond, judged-within, lines_taken-beyond, taken-short}
use Rattle.vms_tool.proofs.TakenTexts.{taken-whole}
use Rattle.vms_tool.proofs.TextAnswers.{Comes, comes-once, comes-said, stopped-further}
use Rattle.vms_tool.specs.Common.{IsDecided}

module _ {S O : Type 0} (phased : PhasedBehavior S O) (shows : S → Option O → Type 0) where
  -- outcomes lead to the end of the lines, where the command shows what it does, or to a line that stops it
  abbrev pub LeadToEnd : List (List ℕ) → List O → Type 0
  LeadToEnd lines outcomes =
      LeadAll phased (UsedAtEnd phased) (shown_on phased shows) outcomes phased.start lines outcomes

  -- outcomes lead through the lines of a text past the limit, or to a line that stops the command
  abbrev LeadPast : List (List ℕ) → List O → Type 0
  LeadPast lines outcomes = LeadAll phased AllUsed IsOn outcomes phased.start lines outcomes

  -- outcomes lead through a text
  abbrev Lead : List ℕ → List O → Type 0
  Lead text outcomes =
      (length text ≤ most_bytes → LeadToEnd (lines_of text) outcomes)
      × (most_bytes < length text → LeadPast (lines_taken text) outcomes)

  module _ (text taken written : List ℕ) (reading : Reading) (is : IsTakenOf text taken reading.at_end)
      (outcomes : List O) where
    lead-stop : (asked : S → List O → Type 0) (well : Way S O → Type 0) (all lines more : List (List ℕ))
        (stop : Status) → all ≡ lines ++ more → OutcomesLead phased phased.start outcomes lines
        → halted (with_outcomes phased outcomes) (On phased.start outcomes) lines ≡ Some stop
        → LeadAll phased asked well outcomes phased.start all outcomes
    lead-stop asked well all lines more stop parts leads stops =
        let behavior = with_outcomes phased outcomes in
        subst (λ (ls : List (List ℕ)). LeadAll phased asked well outcomes phased.start ls outcomes) (sym parts) (
          lead-stopped phased AllUsed asked outcomes stop more phased.start outcomes lines leads stops,
          λ none.
              let both : Some stop ≡ None
              = sym (stopped-further behavior behavior.start lines more stop stops).0 ∙ none in
              absurd cc,
        )

    lead-halts : (halt : Status) (halts : Halts (with_outcomes phased outcomes) halt taken written reading)
        → AreOutcomesOf phased outcomes halts.lines → Lead text outcomes
    lead-halts halt halts made =
        let within = judged-within text taken reading.at_end is halts.lines halts.judged in (
          λ few. lead-stop (UsedAtEnd phased) (shown_on phased shows) (lines_of text) halts.lines within.0 halt within.1
              made.0 halts.halt_is,
          λ many.
              let beyond = judged-beyond text taken reading.at_end is many halts.lines halts.judged in
              lead-stop AllUsed IsOn (lines_taken text) halts.lines beyond.0 halt beyond.1 made.0 halts.halt_is,
        )

    lead-ends : (ending : Status)
        → Ends (with_outcomes phased outcomes) (shown_on phased shows) ending taken written reading.at_end
        → OutcomesLeadToEnd phased phased.start outcomes (lines_of taken) → Lead text outcomes
    lead-ends ending ends made =
        let whole = taken-whole text taken reading.at_end is ends.ended in (
          λ few. subst (λ (all : List ℕ). LeadToEnd (lines_of all) outcomes) whole (made, λ none. ends.shown),
          λ many. absurd (omega (arith, many, ends.within, ap length whole)),
        )

    lead-oversteps : Oversteps (with_outcomes phased outcomes) taken written reading
        → AreOutcomesOf phased outcomes (lines_taken taken) → Lead text outcomes
    lead-oversteps oversteps made =
        let beyond : most_bytes < length taken = oversteps.beyond in (
          λ few. absurd (omega (arith, few, beyond, taken-short text taken reading.at_end is)),
          λ many. subst (λ (ls : List (List ℕ)). LeadPast ls outcomes)
              (lines_taken-beyond text taken reading.at_end is beyond)
              (made.0, on_after phased outcomes (On phased.start outcomes) (lines_taken taken) made.1),
        )

    lead-made : (status : Status) → IsDecided status
        → (says : Says (with_outcomes phased outcomes) (shown_on phased shows) status taken written reading)
        → AreMade phased shows outcomes taken written reading status says → Lead text outcomes
    lead-made Done decided says made = lead-ends Done says made
    lead-made Refused decided says made = lead-ends Refused says made
    lead-made Header decided (inl halts) made = lead-halts Header halts made
    lead-made Header decided (inr ends) made = lead-ends Header ends made
    lead-made NotCertified decided (inl halts) made = lead-halts NotCertified halts made
    lead-made NotCertified decided (inr ends) made = lead-ends NotCertified ends made
    lead-made TooLong decided (inl halts) made = lead-halts TooLong halts made
    lead-made TooLong decided (inr oversteps) made = lead-oversteps oversteps made
    lead-made _ decided says made = absurd decided

  module _ (stands : S → List (List ℕ) → Type 0) (once : HasOneOutcome phased stands) where
    -- at the end of the input
    one-at_end : (s : S) (ends : Bool) (os os' : List O) → stands s []
        → leads_on ends os (phased.AllowsLast s) (λ given left. left ≡ []) → shown_with shows s (supply ends os)
        → leads_on ends os' (phased.AllowsLast s) (λ given left. left ≡ []) → shown_with shows s (supply ends os')
        → os ≡ os'
    one-at_end s false os os' here none shown none' shown' = none ∙ sym none'
    one-at_end s true [] os' here leads shown leads' shown' = absurd shown
    one-at_end s true (o ∷ left) [] here leads shown leads' shown' = absurd shown'
    one-at_end s true (o ∷ left) (o' ∷ left') here (may, none) shown (may', none') shown' =
        ap₂ (λ (x : O) (xs : List O). x ∷ xs) (once.once_last s o o' here may may') (none ∙ sym none')

    -- of the same lines up to their end
    pub one-list_to_end : (lines : List (List ℕ)) (os os' : List O) → LeadToEnd lines os → LeadToEnd lines os'
        → os ≡ os'
    one-list_to_end lines os os' one other =
        one-list phased stands once (UsedAtEnd phased) (shown_on phased shows) (λ short. short)
        (λ s xs xs' here leads shown leads' shown'.
        one-at_end s (phased.ends_last s) xs xs' here leads shown leads' shown')
        os os' phased.start lines os os' (once.begins lines) one other

    one-list_past : (lines : List (List ℕ)) (os os' : List O) → LeadPast lines os → LeadPast lines os' → os ≡ os'
    one-list_past lines os os' one other =
        one-list phased stands once AllUsed IsOn (λ short. short)
        (λ s xs xs' here used on used' on'. used ∙ sym used') os os' phased.start lines os os' (once.begins lines) one
        other

    -- of the same text
    one-list_of : (text : List ℕ) (os os' : List O) → Lead text os → Lead text os' → os ≡ os'
    one-list_of text os os' one other = elim (cases_lt most_bytes (length text)) [
      | inl beyond ↦ one-list_past (lines_taken text) os os' (one.1 beyond) (other.1 beyond)
      | inr within ↦ one-list_to_end (lines_of text) os os' (one.0 within) (other.0 within)
    ]

    -- one text has one output
    pub said-once : (text taken taken' written written' : List ℕ) (status status' : Status) (reading reading' : Reading)
        (os os' : List O) → IsTakenOf text taken reading.at_end → IsTakenOf text taken' reading'.at_end
        → IsDecided status → IsDecided status' → SaysPhased phased shows os status taken written reading
        → SaysPhased phased shows os' status' taken' written' reading' → (status ≡ status') × (written ≡ written')
    said-once text taken taken' written written' status status' reading reading' os os' is is' decided decided' one
        other =
        let same : os' ≡ os = one-list_of text os' os
        (lead-made text taken' written' reading' is' os' status' decided' other.says other.made)
        (lead-made text taken written reading is os status decided one.says one.made) in
        let comes = comes-said (with_outcomes phased os) text taken written reading is (shown_on phased shows) status
        decided one.says in
        let comes' = comes-said (with_outcomes phased os') text taken' written' reading' is' (shown_on phased shows)
        status' decided' other.says in
        comes-once (with_outcomes phased os) text status status' written written' comes
        (subst (λ (xs : List O). Comes (with_outcomes phased xs) text status' written') same comes')
