-- The next line of a phase is written.
use Rattle.std.proofs.Common.{◌≡◌, ℕ, ℤ, true, ◌+◌, ◌*◌, ◌≤◌, List, [], ◌∷◌, ◌++◌, Option, Some, None, ap, append-nil}
use Rattle.std.proofs.Common.{arith, length, length-append, refl, subst, sym, ◌∙◌}
use Rattle.std.proofs.lemmas.List.Elements.{All-nil}
use Rattle.vms_calls.specs.PageCalls.{IsPageCall}
use Rattle.vms_calls.specs.declared.page_calls.PageAnswer.{PageAnswer}
use Rattle.vms_calls.specs.declared.page_calls.PageAnswer.TheVariants as answer
use Rattle.vms_calls.specs.declared.page_calls.PageCall.{PageCall}
use Rattle.vms_calls.specs.declared.page_calls.PageCall.TheVariants as calls
use Rattle.vms_calls.proofs.PageCalls.{page-spends}
use Rattle.vms_world.specs.Common.{Act, CallSteps, CpuId, Facts, HasWon, Header, IsHeader, Item, Lane, Mode, Shape}
use Rattle.vms_world.specs.Common.{State, Step, after, facts_of, is_among, lanes_of, normal_threshold_of, own, owner_of}
use Rattle.vms_world.specs.Common.{page_call, pages, pressure_threshold_of, with_change}
use Rattle.vms_core.specs.ChangedStates.{with_change_of}
use Rattle.vms_core.specs.Own.{CarriesNothing}
use Rattle.vms_core.specs.Pages.{History}
use Rattle.vms_history.proofs.Common.{after-append, base_can_begin, own-after}
use Rattle.vms_file_order.specs.Common.{GoesOnWithLine, page_passes, pass_of}
use Rattle.vms_file_order.proofs.FollowedLines.{Follow-line, StandsOpen-line}
use Rattle.vms_call_lines.specs.Calls.{WritesCall}
use Rattle.vms_plain_control.specs.Common.{KnowsPeaks, SetAtMost}
use Rattle.vms_plain_control.specs.PageCalls.{AnswersPageCall, GoesOnByCall}
use Rattle.vms_own_acts.specs.Common.{IsExactly}
use Rattle.vms_phase_lines.specs.declared.phases.PhaseWriter.{PhaseWriter}
use Rattle.vms_phase_lines.specs.Common.{IsWriting, event_lines, lane_makes}
use Rattle.vms_phase_lines.proofs.EventLines.{lines-of_steps}
use Rattle.vms_phase_lines.proofs.FoundPages.{MayMakePageCall-found, among, pass}

-- a change sets no threshold and no mark
SetAtMost-change : (shape : Shape) (most c k : ℕ) (delta : ℤ) (how : Mode) (s : State) → SetAtMost shape most s
    → SetAtMost shape most (with_change shape c k delta how s)
unfolding with_change_of
SetAtMost-change shape most c k delta how s few = record { thresholds = few.thresholds; marks = few.marks }

SetAtMost-more : (shape : Shape) (most more : ℕ) (s : State) → most ≤ more → SetAtMost shape most s
    → SetAtMost shape more s
SetAtMost-more shape most more s less few = record {
  thresholds = λ c g c_in g_in. omega (arith, few.thresholds c g c_in g_in, less);
  marks = λ g zone. omega (arith, few.marks g zone, less);
}

-- a call sets each threshold and each mark at most twice
module _ (header : Header) (owner : Option CpuId) (s next : State) (most : ℕ) where
  abbrev kept : SetAtMost header.layout most s → SetAtMost header.layout (2 + most) s
  kept few = SetAtMost-more header.layout most (2 + most) s (omega arith) few

  pub SetAtMost-answered : (call : PageCall) (told : PageAnswer) → AnswersPageCall header call owner s next told
      → SetAtMost header.layout most s → SetAtMost header.layout (2 + most) next
  SetAtMost-answered (calls.Change k delta how) answer.Done is few =
      subst (SetAtMost header.layout (2 + most)) (sym is.2)
      (SetAtMost-change header.layout (2 + most) is.0.number k.number delta how s (kept few))
  SetAtMost-answered (calls.Fold c) answer.Done is few =
      subst (SetAtMost header.layout (2 + most)) (sym is.rest)
      (record { thresholds = (kept few).thresholds; marks = (kept few).marks })
  SetAtMost-answered (calls.Test g mark low) (answer.Tested verdict) is few =
      subst (SetAtMost header.layout (2 + most)) (sym is.0) (kept few)
  SetAtMost-answered (calls.Value k) (answer.Value pages) is few =
      subst (SetAtMost header.layout (2 + most)) (sym is.0) (kept few)
  SetAtMost-answered (calls.Snapshot k) (answer.Snapshot pages) is few =
      subst (SetAtMost header.layout (2 + most)) (sym is.0) (kept few)
  SetAtMost-answered (calls.System i) (answer.System pages) is few =
      subst (SetAtMost header.layout (2 + most)) (sym is.0) (kept few)
  SetAtMost-answered (calls.SetPressure n) answer.Done is few =
      SetAtMost-more header.layout (1 + most) (2 + most) next (omega arith) (is.1 most few)
  SetAtMost-answered (calls.SetNormal n) answer.Done is few =
      SetAtMost-more header.layout (1 + most) (2 + most) next (omega arith) (is.1 most few)
  SetAtMost-answered (calls.Bury c) answer.Done is few =
      SetAtMost-more header.layout (1 + most) (2 + most) next (omega arith) (is.1 most few)
  SetAtMost-answered (calls.Turn n order low) (answer.Balanced balance) is few = is.2 most few
  SetAtMost-answered _ _ is few = absurd is

module _ (header : Header) (base : State) (all items left : List Item) (item : Item) (h : History)
    (writer : PhaseWriter) (is : IsWriting header base all items h writer) (parts : all ≡ items ++ item ∷ left) where
  abbrev facts : Facts
  facts = facts_of header base

  abbrev lanes : List Lane
  lanes = lanes_of header.layout all

  abbrev p : ℕ
  p = pass_of lanes item.lane

  abbrev makes : Lane → ℕ → Act → History → List Step → Type 0
  makes = lane_makes header base

  there : is_among item.lane lanes ≡ true
  there = among header base all items left item h writer is parts

  -- what is written after the line
  abbrev pub Written : State → List ℕ → List ℕ → List ℕ → Type 0
  Written next known out out' = (more : History)
      × IsWriting header base all (items ++ item ∷ []) (more ++ h)
      (record { pages = next; peaks = known; lanes = writer.lanes }) × (out' ≡ out ++ event_lines more)

  one_more : length (items ++ item ∷ []) ≡ length items + 1
  one_more = length-append items (item ∷ [])

  -- a line goes on to these page counters and peaks
  goes-on : (next : State) (known : List ℕ)
      → (goes : GoesOnWithLine pages makes HasWon facts lanes item h next)
      → KnowsPeaks facts (after p goes.steps h) known → SetAtMost header.layout (2 + 2 * length items) next
      → (out out' : List ℕ) → out' ≡ out ++ event_lines (after p goes.steps []) → Written next known out out'
  goes-on next known goes knows sets out out' text = (
    after p goes.steps [],
    subst (λ (g : History). IsWriting header base all (items ++ item ∷ []) g
        (record { pages = next; peaks = known; lanes = writer.lanes })) (after-append p goes.steps [] h) (record {
          fit = is.fit;
          begins = is.begins;
          follow = Follow-line pages page_passes makes HasWon facts lanes item h next there goes items is.follow;
          stands = StandsOpen-line pages page_passes makes HasWon facts lanes item h next there goes writer.pages
              is.stands;
          peaks = knows;
          sets = SetAtMost-more header.layout (2 + 2 * length items) (2 * length (items ++ item ∷ [])) next
              (omega (arith, one_more)) sets;
        }),
    text,
  )

  -- an act that makes no call makes no step
  pub line-uncalled : page_call item.lane item.act ≡ None → (out : List ℕ) → Written writer.pages writer.peaks out out
  line-uncalled none out = goes-on writer.pages writer.peaks (record {
    steps = [];
    making = subst (λ (what : Option PageCall). CallSteps (λ call ks told. IsPageCall header base
        (IsExactly pressure_threshold_of) (IsExactly normal_threshold_of) call (owner_of item.lane) p h ks told) what
        []) (sym none) refl;
    alone = All-nil HasWon;
    goes_on = record { legal = is.stands.legal; state = is.stands.state };
    may_end = is.stands.may_end p (pass header base all items left item h writer is parts).other_than_main;
  }) is.peaks
      (SetAtMost-more header.layout (2 * length items) (2 + 2 * length items) writer.pages (omega arith) is.sets) out
      out (sym (append-nil out))

  pub line-called : IsHeader header → (call : PageCall) → page_call item.lane item.act ≡ Some call → (next : State)
      (known : List ℕ) (out out' : List ℕ)
      → WritesCall header (IsExactly pressure_threshold_of) (IsExactly normal_threshold_of) call (owner_of item.lane) p
      writer.pages writer.peaks next known out out'
      → Written next known out out'
  line-called valid call on next known out out' writes =
      let may = MayMakePageCall-found header base all items left item h writer is parts valid call on in
      let made = writes.makes base h may is.stands.state is.peaks in
      let goes : GoesOnByCall header base (IsExactly pressure_threshold_of) (IsExactly normal_threshold_of) call
      (owner_of item.lane) p h writes.told next known = made.0 in
      let left_by = (page-spends (IsExactly pressure_threshold_of) (IsExactly normal_threshold_of) header base call
      (owner_of item.lane) p h goes.steps writes.told (base_can_begin pages facts h is.stands.legal).layout goes.is
      (own h p)).carries in
      goes-on next known (record {
        steps = goes.steps;
        making = subst (λ (what : Option PageCall). CallSteps (λ it ks told. IsPageCall header base
            (IsExactly pressure_threshold_of) (IsExactly normal_threshold_of) it (owner_of item.lane) p h ks told) what
            goes.steps) (sym on) (writes.told, goes.is);
        alone = goes.alone;
        goes_on = goes.goes_on;
        may_end = subst (CarriesNothing header.layout) (sym (own-after p goes.steps h)) (record {
          counters = λ k. left_by.counters k ∙ may.nothing.counters k;
          items = λ i. left_by.items i ∙ may.nothing.items i;
        });
      }) goes.knows
      (SetAtMost-answered header (owner_of item.lane) writer.pages next (2 * length items) call writes.told
      writes.answers is.sets) out out' (made.1 ∙ ap (λ (text : List ℕ). out ++ text) (lines-of_steps p goes.steps))
