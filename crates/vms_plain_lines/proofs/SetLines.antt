-- For other crates too: how often the lines of an open phase have set thresholds and marks.
use Rattle.std.proofs.Common.{◌≡◌, ℕ, ◌+◌, ◌*◌, ◌<◌, ◌≤◌, ◌-◌, List, [], ◌∷◌, ◌++◌, length, refl, sym, ap, subst, ◌∙◌}
use Rattle.std.proofs.Common.{arith, length-append}
use Rattle.vms_world.specs.Common.{Header, ZoneSize, Shape, IsPlace, Event, after, State, Facts, Step, SetM, SetT}
use Rattle.vms_world.specs.Common.{IsOpening, mark_sets_at, threshold_sets_at, mark_sets_after, pages, sets_after}
use Rattle.vms_world.specs.Common.{most_sets, HasWon, Item, Lane, PageSteps, page_facts}
use Rattle.vms_history.proofs.Common.{after-append, prefix_is_legal}
use Rattle.vms_core.specs.Pages.{History, IsLegal, state_after}
use Rattle.vms_core.proofs.Common.{mark_sets_at-newest, sets-newest}
use Rattle.vms_calls.proofs.Common.{Each, OfFolds, OfLooks}
use Rattle.vms_world.specs.declared.worlds.World.{World}
use Rattle.vms_file_order.specs.Common.{GoesOnWithLine, StandsOpen, pass_of, page_passes}
use Rattle.vms_plain_control.specs.Common.{SetAtMost, SetsEachAtMost}
use Rattle.vms_plain_lines.specs.Common.{SetByLines, SparesPeaks}
use Rattle.vms_plain_control.proofs.CallKinds.{OfChanges}
use Rattle.vms_plain_lines.proofs.LineSteps.{act-each}

-- a step that sets no threshold and no mark
abbrev SetsNothing : Step → Type 0
SetsNothing (SetT c g t) = ⊥
SetsNothing (SetM g m) = ⊥
SetsNothing _ = Unit {0}

looks-set_nothing : OfLooks SetsNothing
looks-set_nothing = record {
  value = λ k v. tt;
  system = λ i v. tt;
  group = λ c j w. tt;
  mark = λ g m a. tt;
  cpu = λ c x. tt;
}

folds-set_nothing : OfFolds SetsNothing
folds-set_nothing = record {
  threshold = λ g t a. tt;
  take = λ c j w. tt;
  place = λ k z. tt;
  system = λ i z. tt;
  acknowledge = λ g a. tt;
}

changes-set_nothing : OfChanges SetsNothing
changes-set_nothing = record {
  threshold = λ g t a. tt;
  group = λ c j w. tt;
  exchange = λ k w t delta how. tt;
  miss = λ j w. tt;
  place = λ k z. tt;
  system = λ i z. tt;
}

sets-kept : (c g : ℕ) (step : Step) (n : ℕ) → SetsNothing step → sets_after c g step n ≡ n
sets-kept c g (SetT d f t) n nothing = absurd nothing
sets-kept c g _ n nothing = refl

mark_sets-kept : (g : ℕ) (step : Step) (n : ℕ) → SetsNothing step → mark_sets_after g step n ≡ n
mark_sets-kept g (SetM f m) n nothing = absurd nothing
mark_sets-kept g _ n nothing = refl

module _ (facts : Facts) (q : ℕ) where
  legal-before : (steps : List Step) (h : History) → IsLegal facts (after q steps h) → IsLegal facts h
  legal-before steps h legal =
      prefix_is_legal pages facts (after q steps []) h (subst (IsLegal facts) (after-append q steps [] h) legal)

  threshold_sets-kept : (steps : List Step) (h : History) → Each SetsNothing steps → IsLegal facts (after q steps h)
      → (c g : ℕ) → IsPlace facts.layout g
      → threshold_sets_at (state_after facts (after q steps h)) c g ≡ threshold_sets_at (state_after facts h) c g
  threshold_sets-kept [] h nothing legal c g g_in = refl
  threshold_sets-kept (step ∷ steps) h nothing legal c g g_in =
      let e : Event Step = record { caller = q; step = step } in
      threshold_sets-kept steps (e ∷ h) nothing.1 legal c g g_in
      ∙ sets-newest facts e h (legal-before steps (e ∷ h) legal) c g g_in
      ∙ sets-kept c g step (threshold_sets_at (state_after facts h) c g) nothing.0

  all-mark_sets-kept : (steps : List Step) (h : History) → Each SetsNothing steps → IsLegal facts (after q steps h)
      → (g : ℕ) → mark_sets_at (state_after facts (after q steps h)) g ≡ mark_sets_at (state_after facts h) g
  all-mark_sets-kept [] h nothing legal g = refl
  all-mark_sets-kept (step ∷ steps) h nothing legal g =
      let e : Event Step = record { caller = q; step = step } in
      all-mark_sets-kept steps (e ∷ h) nothing.1 legal g
      ∙ mark_sets_at-newest facts e h (legal-before steps (e ∷ h) legal) g
      ∙ mark_sets-kept g step (mark_sets_at (state_after facts h) g) nothing.0

-- a line that sets no thresholds sets no marks either
module _ (pressure normal : ZoneSize → ℕ → ℕ → Type 0) (header : Header) (w : World) (lanes : List Lane) (item : Item)
    (h : History) (now next : State) (stands : StandsOpen pages page_passes (page_facts header w) lanes h now)
    (line : GoesOnWithLine pages (PageSteps header w.pages pressure normal) HasWon (page_facts header w) lanes item h
    next) (spares : SparesPeaks item.act) where
  abbrev q : ℕ
  q = pass_of lanes item.lane

  nothing : Each SetsNothing line.steps
  nothing = act-each SetsNothing looks-set_nothing folds-set_nothing changes-set_nothing header w.pages pressure normal
      h item.lane item.act q line.steps spares line.making

  thresholds-same : (c g : ℕ) → IsPlace header.layout g → threshold_sets_at next c g ≡ threshold_sets_at now c g
  thresholds-same c g g_in = ap (λ (s : State). threshold_sets_at s c g) (sym line.goes_on.state)
      ∙ threshold_sets-kept (page_facts header w) q line.steps h nothing line.goes_on.legal c g g_in
      ∙ ap (λ (s : State). threshold_sets_at s c g) stands.state

  marks-same : (g : ℕ) → mark_sets_at next g ≡ mark_sets_at now g
  marks-same g = ap (λ (s : State). mark_sets_at s g) (sym line.goes_on.state)
      ∙ all-mark_sets-kept (page_facts header w) q line.steps h nothing line.goes_on.legal g
      ∙ ap (λ (s : State). mark_sets_at s g) stands.state

  pub SetAtMost-line : (most : ℕ) → SetAtMost header.layout most now → SetAtMost header.layout most next
  SetAtMost-line most few = record {
    thresholds = λ c g c_in g_in.
        subst (λ (n : ℕ). n ≤ most) (sym (thresholds-same c g g_in)) (few.thresholds c g c_in g_in);
    marks = λ g zone. subst (λ (n : ℕ). n ≤ most) (sym (marks-same g)) (few.marks g zone);
  }

module _ (shape : Shape) where
  pub SetAtMost-more : (most more : ℕ) (s : State) → most ≤ more → SetAtMost shape most s → SetAtMost shape more s
  SetAtMost-more most more s less few = record {
    thresholds = λ c g c_in g_in. omega (arith, few.thresholds c g c_in g_in, less);
    marks = λ g zone. omega (arith, few.marks g zone, less);
  }

  -- nothing was set when the phase began
  pub SetByLines-opening : (s : State) → IsOpening shape s → SetByLines shape [] s
  SetByLines-opening s opening = record {
    thresholds = λ c g c_in g_in. omega (arith, opening.unset_thresholds c g c_in g_in);
    marks = λ g zone. omega (arith, opening.unset_marks g zone);
  }

  module _ (items : List Item) (item : Item) where
    one-more : length (items ++ item ∷ []) ≡ length items + 1
    one-more = length-append items (item ∷ [])

    -- a line of a call that sets each at most twice
    pub SetByLines-call : (times : ℕ) → times ≤ 2 → (now next : State) → SetsEachAtMost shape times now next
        → SetByLines shape items now → SetByLines shape (items ++ item ∷ []) next
    SetByLines-call times twice now next sets few =
        let more : times + 2 * length items ≤ 2 * length (items ++ item ∷ []) = omega (arith, one-more, twice) in
        SetAtMost-more (times + 2 * length items) (2 * length (items ++ item ∷ [])) next more
        (sets (2 * length items) few)

    -- any other line
    pub SetByLines-more : (s : State) → SetByLines shape items s → SetByLines shape (items ++ item ∷ []) s
    SetByLines-more s few =
        let more : 2 * length items ≤ 2 * length (items ++ item ∷ []) = omega (arith, one-more) in
        SetAtMost-more (2 * length items) (2 * length (items ++ item ∷ [])) s more few

  -- a million lines leave room for each call
  pub SetByLines-turn_room : (items : List Item) (s : State) → length items < 1000000 → SetByLines shape items s
      → SetAtMost shape (most_sets - 2) s
  SetByLines-turn_room items s room few =
      let less : 2 * length items ≤ most_sets - 2 = omega (arith, room) in
      SetAtMost-more (2 * length items) (most_sets - 2) s less few

  pub SetByLines-call_room : (items : List Item) (s : State) → length items < 1000000 → SetByLines shape items s
      → SetAtMost shape (most_sets - 1) s
  SetByLines-call_room items s room few =
      let less : 2 * length items ≤ most_sets - 1 = omega (arith, room) in
      SetAtMost-more (2 * length items) (most_sets - 1) s less few

-- a line that sets no thresholds, by its steps
pub SetByLines-line : (pressure normal : ZoneSize → ℕ → ℕ → Type 0) (header : Header) (w : World) (lanes : List Lane)
    (items : List Item) (item : Item) (h : History) (now next : State)
    → StandsOpen pages page_passes (page_facts header w) lanes h now
    → GoesOnWithLine pages (PageSteps header w.pages pressure normal) HasWon (page_facts header w) lanes item h next
    → SparesPeaks item.act → SetByLines header.layout items now → SetByLines header.layout (items ++ item ∷ []) next
SetByLines-line pressure normal header w lanes items item h now next stands line spares few =
    SetByLines-more header.layout items item next
    (SetAtMost-line pressure normal header w lanes item h now next stands line spares (2 * length items) few)
