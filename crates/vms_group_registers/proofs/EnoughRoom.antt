-- The room that a list of events needs, and what a verdict where there is so much says of the events.
use Rattle.std.proofs.Common.{◌≡◌, ℕ, ◌+◌, ◌≤◌, List, [], ◌∷◌, ◌++◌, sym, ap, subst, ◌∙◌, arith, take, drop, length}
use Rattle.std.proofs.Common.{get_or, max, ◌<◌}
use Rattle.std.specs.Prelude.{reverse}
use Rattle.std.proofs.lemmas.List.{reverse-append, take-append-drop, take_more}
use Rattle.vms_history.specs.declared.events.Event.{Event}
use Rattle.vms_group_core.specs.declared.steps.GroupStep.{GroupStep}
use Rattle.vms_group_core.specs.declared.steps.GroupStep.TheVariants.{AddV, AddU}
use Rattle.vms_group_core.specs.declared.trees.Tree.{Tree}
use Rattle.vms_group_core.specs.Common.{History, groups}
use Rattle.vms_judge.specs.declared.verdicts.Verdict.{Verdict}
use Rattle.vms_judge.specs.declared.verdicts.Verdict.TheVariants.{NoBase, Illegal, Open, Complete}
use Rattle.vms_judge.specs.Common.{IsVerdict}
use Rattle.vms_group_registers.specs.declared.facts.BoundedFacts.{BoundedFacts}
use Rattle.vms_group_registers.specs.Bounded.{HadRoom, HasRoom, bounded_groups, rising_after, rising_in}
use Rattle.vms_group_registers.proofs.BoundedHistories.{legal-of, legal-to}

-- the history of one event more
reverse_more : {X : Type 0} (xs : List X) (i : ℕ) (d : X) → i < length xs
    → reverse (take (i + 1) xs) ≡ get_or xs i d ∷ reverse (take i xs)
reverse_more xs i d within =
    ap reverse (take_more xs i d within) ∙ reverse-append (take i xs) (get_or xs i d ∷ [])

module _ (tree : Tree) where
  -- there is room for a step if no more amounts rise after it, and there stays room where there is more
  HasRoom-fits : (room : ℕ) (h : History) (step : GroupStep) → rising_after tree step (rising_in tree h) ≤ room
      → HasRoom tree room h step
  HasRoom-fits room h (AddV g a) fits = fits
  HasRoom-fits room h _ fits = tt

  HasRoom-wider : (room more : ℕ) (h : History) (step : GroupStep) → room ≤ more → HasRoom tree room h step
      → HasRoom tree more h step
  HasRoom-wider room more h (AddV g a) wider fits = omega arith
  HasRoom-wider room more h _ wider fits = tt

  HadRoom-wider : (room more : ℕ) (h : History) → room ≤ more → HadRoom tree room h → HadRoom tree more h
  HadRoom-wider room more [] wider had = tt
  HadRoom-wider room more (e ∷ h) wider had =
      (HadRoom-wider room more h wider had.0, HasRoom-wider room more h e.step wider had.1)

  -- so much more room is enough for one step more
  pub HadRoom-more : (room more : ℕ) (e : Event GroupStep) (h : History) → HadRoom tree room h → room ≤ more
      → rising_after tree e.step (rising_in tree h) ≤ more → HadRoom tree more (e ∷ h)
  HadRoom-more room more e h had wider fits =
      (HadRoom-wider room more h wider had, HasRoom-fits more h e.step fits)

  -- and what rises after a step for which there was room is within the room
  pub room-least : (room : ℕ) (h : History) (step : GroupStep) → HasRoom tree room h step → rising_in tree h ≤ room
      → rising_after tree step (rising_in tree h) ≤ room
  room-least room h (AddV g a) fits within = fits
  room-least room h (AddU g a) fits within = omega arith
  room-least room h _ fits within = within

  HadRoom-earlier : (room : ℕ) (more h : History) → HadRoom tree room (more ++ h) → HadRoom tree room h
  HadRoom-earlier room [] h had = had
  HadRoom-earlier room (e ∷ more) h had = HadRoom-earlier room more h had.0

  -- the first events need no more room than all
  HadRoom-first : (room : ℕ) (events : List (Event GroupStep)) (n : ℕ) → HadRoom tree room (reverse events)
      → HadRoom tree room (reverse (take n events))
  HadRoom-first room events n had =
      let parts : reverse events ≡ reverse (drop n events) ++ reverse (take n events) =
      ap reverse (sym (take-append-drop n events)) ∙ reverse-append (take n events) (drop n events) in
      HadRoom-earlier room (reverse (drop n events)) (reverse (take n events)) (subst (HadRoom tree room) parts had)

-- the room that the first events need, and one event more
module _ (tree : Tree) (events : List (Event GroupStep)) (i : ℕ) (d : Event GroupStep) (within : i < length events)
    (count most next : ℕ) (count_is : count ≡ rising_in tree (reverse (take i events))) (count_in : count ≤ most)
    (enough : HadRoom tree most (reverse (take i events)))
    (least : (room : ℕ) → HadRoom tree room (reverse (take i events)) → most ≤ room)
    (next_is : next ≡ rising_after tree (get_or events i d).step count) where
  parts : reverse (take (i + 1) events) ≡ get_or events i d ∷ reverse (take i events)
  parts = reverse_more events i d within

  pub more-rising : next ≡ rising_in tree (reverse (take (i + 1) events))
  more-rising =
      next_is
      ∙ ap (rising_after tree (get_or events i d).step) count_is
      ∙ sym (ap (rising_in tree) parts)

  pub more-enough : HadRoom tree (max most next) (reverse (take (i + 1) events))
  more-enough =
      let fits : rising_after tree (get_or events i d).step (rising_in tree (reverse (take i events))) ≤ max most next =
      let is = next_is ∙ ap (rising_after tree (get_or events i d).step) count_is in omega (arith, is) in
      rw parts
      (HadRoom-more tree most (max most next) (get_or events i d) (reverse (take i events)) enough (omega arith) fits)

  pub more-least : (room : ℕ) → HadRoom tree room (reverse (take (i + 1) events)) → max most next ≤ room
  more-least room had =
      let both : HadRoom tree room (get_or events i d ∷ reverse (take i events)) =
      subst (HadRoom tree room) parts had in
      let before = least room both.0 in
      let within_room : rising_in tree (reverse (take i events)) ≤ room = omega (arith, before, count_is, count_in) in
      let now = room-least tree room (reverse (take i events)) (get_or events i d).step both.1 within_room in
      let is = next_is ∙ ap (rising_after tree (get_or events i d).step) count_is in
      omega (arith, is, now, before)

-- where there was room for all events, the verdict is that of the tree alone
pub verdict-same : (facts : BoundedFacts) (events : List (Event GroupStep)) (verdict : Verdict)
    → HadRoom facts.groups.tree facts.room (reverse events) → IsVerdict bounded_groups facts events verdict
    → IsVerdict groups facts.groups events verdict
verdict-same facts events NoBase had is = is
verdict-same facts events (Illegal n) had is = record {
  within = is.within;
  before = legal-of facts (reverse (take n events)) is.before;
  refused = λ may. is.refused (legal-to facts (reverse (take (n + 1) events)) may
      (HadRoom-first facts.groups.tree facts.room events (n + 1) had));
}
verdict-same facts events Open had is =
    record { legal = legal-of facts (reverse events) is.legal; alive = is.alive }
verdict-same facts events Complete had is =
    record { legal = legal-of facts (reverse events) is.legal; ended = is.ended }
