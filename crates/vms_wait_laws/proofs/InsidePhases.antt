-- Where lines ask only inside a phase, nothing waits outside one.
use Rattle.std.proofs.Common.{◌≡◌, ℕ, Bool, true, false, List, [], ◌∷◌, Option, Some, None, refl, sym, ap, subst}
use Rattle.vms_stream.specs.declared.statuses.Status.{Status}
use Rattle.vms_stream.specs.Common.{Asks, IsAsking, LineTexts, Plain, Text, Waiting, Way, On, Short, first_halt, halted}
use Rattle.vms_stream.specs.Common.{next_way, state_after, supply, unless_stopped, waiting, waits_with, way_after}
use Rattle.vms_stream.specs.Common.{way_halts, with_outcomes, halt_at}
use Rattle.vms_wait_laws.specs.Common.{AskInsidePhases, HoldsBackNothing, WaitInsidePhases}

module _ {S O : Type 0} (texts : LineTexts S O) (asks : AskInsidePhases texts) where
  -- where a phase is open anyway, nothing is to be shown
  open-now : (s : S) (waits : List (Text O)) → texts.ends_last s ≡ true → texts.ends_last s ≡ false → waits ≡ []
  open-now s waits open_phase none = absurd cc

  -- after a line at which no phase ends
  inside : (s : S) (line : List ℕ) (text : Text O) (waits : List (Text O)) → texts.text s line ≡ text
      → texts.ends_phase s line ≡ false → (texts.ends_last s ≡ false → waits ≡ []) → (before : Bool)
      → texts.ends_last s ≡ before → texts.ends_last (texts.next s line None) ≡ false → waits_with waits text ≡ []
  inside s line text waits is goes_on held true before none =
      open-now (texts.next s line None) (waits_with waits text) (asks.stays s line before goes_on) none
  inside s line (Plain bytes) waits is goes_on held false before none =
      ap (λ (ws : List (Text O)). waits_with ws (Plain bytes)) (held before)
  inside s line (Asks text) waits is goes_on held false before none =
      open-now (texts.next s line None) (waits_with waits (Asks text))
      (asks.opens s line (subst (λ (t : Text O). IsAsking t) (sym is) tt) goes_on) none

  -- a line that stops the command isn't among lines of which none does
  goes-on : (first later : Option Status) → first_halt first later ≡ None → (first ≡ None) × (later ≡ None)
  goes-on None later none = (refl, none)
  goes-on (Some halt) later none = absurd cc

  pub HoldsBackNothing-after : (outcomes : List O) (way : Way (Waiting S O) O) (lines : List (List ℕ))
      → HoldsBackNothing texts way → halted (with_outcomes (waiting texts) outcomes) way lines ≡ None
      → HoldsBackNothing texts (state_after (with_outcomes (waiting texts) outcomes) way lines)
  HoldsBackNothing-after outcomes way [] holds none = holds
  HoldsBackNothing-after outcomes Short (line ∷ lines) holds none =
      HoldsBackNothing-after outcomes Short lines tt
      (goes-on None (halted (with_outcomes (waiting texts) outcomes) Short lines) none).1
  HoldsBackNothing-after outcomes (On now left) (line ∷ lines) holds none =
      let split = goes-on (way_halts (waiting texts) (On now left) line)
      (halted (with_outcomes (waiting texts) outcomes) (next_way (waiting texts) (On now left) line) lines) none in
      HoldsBackNothing-after outcomes (next_way (waiting texts) (On now left) line) lines
      (by (texts.halts now.state line) refl (texts.ends_phase now.state line) refl left split.0) split.1
    where
      by : (halt : Option Status) → texts.halts now.state line ≡ halt → (ends : Bool)
          → texts.ends_phase now.state line ≡ ends → (left : List O)
          → halt_at (waiting texts) now line (supply (unless_stopped halt ends) left) ≡ None
          → HoldsBackNothing texts (way_after (waiting texts) now line (supply (unless_stopped halt ends) left))
      by (Some halt) stops ends is left none = absurd cc
      by None stops false goes_on left none =
          inside now.state line (texts.text now.state line) now.waits refl goes_on holds
          (texts.ends_last now.state) refl
      by None stops true ended [] none = tt
      by None stops true ended (outcome ∷ left) none = λ open_phase. refl

  pub WaitInsidePhases-asking : WaitInsidePhases texts
  WaitInsidePhases-asking outcomes lines none =
      HoldsBackNothing-after outcomes (On (waiting texts).start outcomes) lines (λ open_phase. refl) none
