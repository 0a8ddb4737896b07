-- For other crates too: a phase moves the total of each event by the counts of its lines.
use Rattle.std.proofs.Common.{◌≡◌, ◌≢◌, ℕ, suc, ℤ, pos, ◌+ℤ◌, List, [], ◌∷◌, refl, sym, ap, ◌∙◌, arith}
use Rattle.std.proofs.lemmas.Int.{ints}
use Rattle.std.proofs.lemmas.List.Elements.{All-head, All-tail}
use Rattle.vms_world.specs.Common.{Header, after, total, begun_in, Works, EventFacts, EventStep, AddE, events, counted}
use Rattle.vms_world.specs.Common.{IsActOf, IsLineOf, line_of, spent_on_event, Act, Item, Lane, Cpu, Control}
use Rattle.vms_world.specs.Common.{EventSteps, HasLanes, MakesLines, lanes_of}
use Rattle.vms_history.proofs.Common.{total-of_callers}
use Rattle.vms_event_core.specs.Events.{History, IsLegal}
use Rattle.vms_event_core.specs.Steps.{role}
use Rattle.vms_world.proofs.Common.{act-counts, control-spends_none, spent_on_event-call, spent_on_event-control}
use Rattle.vms_file_order.specs.Common.{event_makes}
use Rattle.vms_file_order.proofs.Common.{StandOnce-lanes}
use Rattle.vms_total_laws.specs.Common.{AreLinesOf, counts_by}
use Rattle.vms_total_laws.proofs.KnownLines.{among-known, of_cpu-known}
use Rattle.vms_total_laws.proofs.LaneSums.{of_cpu, worth_of_lines}
use Rattle.vms_total_laws.proofs.PassSums.{all-lines}

module _ (k : ℕ) where
  -- a step that begins or ends a pass counts nothing
  quiet-none : (step : EventStep) → role step ≢ Works → counted k step ≡ pos 0
  quiet-none (AddE l n) quiet = absurd (quiet refl)
  quiet-none _ quiet = refl

  -- how often an act counts
  abbrev pub count_of : Act → ℤ
  count_of a = pos (spent_on_event k a)

  module _ (facts : EventFacts) where
    act-worth : (lane : Lane) (p : ℕ) (a : Act) (h : History) (steps : List EventStep)
        → EventSteps facts lane a steps → (g : History)
        → total (counted k) (after p steps g) ≡ of_cpu count_of lane a +ℤ total (counted k) g
    act-worth (Cpu c) p a h steps makes g = act-counts facts k p (Cpu c) a steps makes g
        ∙ ap (λ n. pos n +ℤ total (counted k) g) (sym (spent_on_event-call c k a))
    act-worth Control p a h steps makes g = act-counts facts k p Control a steps makes g
        ∙ ap (λ n. pos n +ℤ total (counted k) g) (control-spends_none k a)

  module _ (header : Header) where
    -- on the control lane no line says a count
    none-of_control : (a : Act) → IsActOf header Control a → count_of a ≡ pos 0
    none-of_control a known = ap pos (spent_on_event-control header k a known)

    worth-counts : (items : List Item) → AreLinesOf header items
        → worth_of_lines (of_cpu count_of) items ≡ pos (counts_by k items)
    worth-counts [] known = refl
    worth-counts (item ∷ items) known = omega (
      arith,
      ints,
      of_cpu-known header count_of none-of_control item.lane item.act
          (All-head (λ i. IsLineOf header (line_of i)) item items known).1,
      worth-counts items (All-tail (λ i. IsLineOf header (line_of i)) item items known),
    )

    -- a legal history of these lines counts an event as often as they say
    pub counts-lines : (facts : EventFacts) (items : List Item) → AreLinesOf header items → (h : History)
        → IsLegal facts h → HasLanes role (lanes_of header.layout items) h
        → MakesLines (event_makes facts) (lanes_of header.layout items) items h
        → total (counted k) h ≡ pos (counts_by k items)
    counts-lines facts items known h legal lanes lines =
        all-lines events facts (total (counted k)) (λ e g. counted k e.step) refl (λ e g. refl)
        (λ e g quiet. quiet-none e.step quiet) h legal (total (counted k) h)
        (total-of_callers events facts (counted k) h (suc (begun_in role h)) legal (omega arith))
        (lanes_of header.layout items) (StandOnce-lanes header.layout items) lanes (of_cpu count_of)
        (event_makes facts) (act-worth facts) items (among-known header items known) lines
        ∙ worth-counts items known
