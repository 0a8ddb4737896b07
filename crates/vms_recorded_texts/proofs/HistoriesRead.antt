-- The lines of recorded histories are read back as these histories.
use Rattle.std.proofs.Common.{◌≡◌, ℕ, ◌<◌, ◌^◌, List, [], ◌∷◌, ◌++◌, length, map, refl, sym, ap, ◌∙◌, arith}
use Rattle.std.proofs.Common.{append_assoc, append-nil, Option, Some}
use Rattle.std.proofs.lemmas.List.{reverse-append}
use Rattle.std.proofs.lemmas.List.Elements.{All-head, All-tail}
use Rattle.std.proofs.lemmas.List.Sums.{sum_by-append, sum_by-cons}
use Rattle.std.specs.Prelude.{option_and_then, reverse}
use Rattle.vms_core.specs.Pages.{History, IsLegal, state_after}
use Rattle.vms_world.specs.Common.{Step, lines_of, Between, Header, Phase, Segment, State, facts_of, settled}
use Rattle.vms_text.proofs.Common.{lines_of-append}
use Rattle.vms_phase_lines.specs.Common.{event_lines}
use Rattle.vms_written_lines.specs.declared.lines.WrittenLine.{WrittenLine}
use Rattle.vms_written_lines.specs.declared.lines.WrittenLine.TheVariants as said
use Rattle.vms_written_lines.specs.Laws.{ReadsBack}
use Rattle.vms_written_lines.specs.Lines.{read_line}
use Rattle.vms_written_lines.specs.Spelling.{event_line, phase_line}
use Rattle.vms_written_lines.specs.WideSteps.{widened}
use Rattle.vms_written_lines.proofs.EventsRead.{EventsReadBack-holds, PhasesReadBack-holds}
use Rattle.vms_written_lines.proofs.NarrowSteps.{step_of-widened}
use Rattle.vms_history_checks.specs.Accepts.{events_in}
use Rattle.vms_history_checks.specs.Said.{with_lines, with_said, with_step}
use Rattle.vms_recorded.specs.Histories.{LeadsInOrder, history_lines}
use Rattle.vms_recorded_texts.specs.RecordedTexts.{AreShort}
use Rattle.vms_recorded_texts.proofs.StepsOfLayouts.{caller-fits, layout-legal, step-narrow, step-of_layout}

-- a text that is one line, with more after it
pub one_line-first : (bytes text rest : List ℕ) → bytes ≡ text ++ 10 ∷ [] → lines_of bytes ≡ text ∷ []
    → lines_of (bytes ++ rest) ≡ text ∷ lines_of rest
one_line-first bytes text rest spelled one =
    ap (λ (b : List ℕ). lines_of (b ++ rest)) spelled
    ∙ ap lines_of (append_assoc text (10 ∷ []) rest)
    ∙ lines_of-append text rest
    ∙ ap (λ (lines : List (List ℕ)). lines ++ lines_of rest) (ap lines_of (sym spelled) ∙ one)

module _ (header : Header) where
  -- the lists that a text says, after others
  abbrev says : List ℕ → List History → Option (List History)
  says text hs = with_lines (map (read_line header.layout) (lines_of text)) hs

  -- a line more
  line-says : (bytes rest : List ℕ) (line : WrittenLine) (hs : List History) → ReadsBack header.layout bytes line
      → says (bytes ++ rest) hs ≡ option_and_then (says rest) (with_said (Some line) hs)
  line-says bytes rest line hs back =
      ap (λ (lines : List (List ℕ)). with_lines (map (read_line header.layout) lines) hs)
      (one_line-first bytes back.text rest back.spelled back.one_line)
      ∙ ap (λ (read : Option WrittenLine). option_and_then (says rest) (with_said read hs)) back.read

  -- the events of a phase that has begun
  events-say : (s : State) (h : History) (rest : List ℕ) (hs : List History) → IsLegal (facts_of header s) h
      → length h < 2 ^ 32 → says (event_lines h ++ rest) ([] ∷ hs) ≡ says rest (h ∷ hs)
  events-say s [] rest hs legal few = refl
  events-say s (e ∷ h) rest hs legal few =
      let is = step-of_layout (facts_of header s) e h legal few in
      let back = EventsReadBack-holds header.layout e.caller e.step (layout-legal (facts_of header s) e h legal few)
      (caller-fits (facts_of header s) e h legal few) is in
      ap (λ (text : List ℕ). says text ([] ∷ hs))
      (append_assoc (event_lines h) (event_line e.caller (widened e.step)) rest)
      ∙ events-say s h (event_line e.caller (widened e.step) ++ rest) hs legal.0 (omega (arith, few))
      ∙ line-says (event_line e.caller (widened e.step)) rest (said.Event e.caller (widened e.step)) (h ∷ hs) back
      ∙ ap (λ (step : Option Step). option_and_then (says rest) (with_step e.caller step (h ∷ hs)))
      (step_of-widened e.step (step-narrow header.layout e.step is))

  -- each of these lists is a legal history of some phase
  abbrev pub AreLegal : List History → Type 0
  AreLegal [] = Unit {0}
  AreLegal (h ∷ hs) = ((s : State) × IsLegal (facts_of header s) h) × AreLegal hs

  pub leads-legal : (segments : List Segment) (hs : List History) (s last : State)
      → LeadsInOrder header segments hs s last → AreLegal hs
  leads-legal [] [] s last led = tt
  leads-legal [] (h ∷ hs) s last led = absurd led
  leads-legal (Phase items ∷ segments) [] s last led = absurd led
  leads-legal (Phase items ∷ segments) (h ∷ hs) s last (is, led) =
      ((s, is.complete.legal), leads-legal segments hs (settled (state_after (facts_of header s) h)) last led)
  leads-legal (Between number b ∷ segments) hs s last (next, may, crosses, led) =
      leads-legal segments hs next last led

  histories-say : (hs more : List History) → AreLegal hs → AreShort hs
      → says (history_lines hs) more ≡ Some (reverse hs ++ more)
  histories-say [] more legal short = refl
  histories-say (h ∷ hs) more ((s, is), legal) short =
      ap (λ (text : List ℕ). says text more) (append_assoc phase_line (event_lines h) (history_lines hs))
      ∙ line-says phase_line (event_lines h ++ history_lines hs) said.Phase more (PhasesReadBack-holds header.layout)
      ∙ events-say s h (history_lines hs) more is (All-head (λ h. length h < 2 ^ 32) h hs short)
      ∙ histories-say hs (h ∷ more) legal (All-tail (λ h. length h < 2 ^ 32) h hs short)
      ∙ ap Some (sym (append_assoc (reverse hs) (h ∷ []) more)
      ∙ ap (λ (back : List History). back ++ more) (sym (reverse-append (h ∷ []) hs)))

  pub histories-read : (hs : List History) → AreLegal hs → AreShort hs
      → with_lines (map (read_line header.layout) (lines_of (history_lines hs))) [] ≡ Some (reverse hs)
  histories-read hs legal short = histories-say hs [] legal short ∙ ap Some (append-nil (reverse hs))

-- turned round they have as many events
pub events_in-reverse : (hs : List History) → events_in (reverse hs) ≡ events_in hs
events_in-reverse [] = refl
events_in-reverse (h ∷ hs) =
    let f : History → ℕ = λ g. length g in
    ap events_in (reverse-append (h ∷ []) hs)
    ∙ omega (arith, sum_by-append f (reverse hs) (h ∷ []), sum_by-cons f h [], sum_by-cons f h hs, events_in-reverse hs)
