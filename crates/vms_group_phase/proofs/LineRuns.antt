-- A pass makes the lines of its lane one after another, within the volumes of its CPU.
use Rattle.std.proofs.Common.{◌≡◌, ℕ, ◌+◌, ◌<◌, Bool, true, false, nat_eq, cond, List, [], ◌∷◌, ◌++◌, length, take}
use Rattle.std.proofs.Common.{get_or, refl, sym, ap, ◌∙◌, arith, append_assoc, append-nil, subst, ℤ}
use Rattle.vms_history.specs.Common.{CpuId}
use Rattle.vms_group_core.specs.declared.call_values.GroupAnswer.{GroupAnswer}
use Rattle.vms_group_core.specs.declared.call_values.GroupAnswer.TheVariants.{Done, Value as Answers}
use Rattle.vms_group_core.specs.declared.steps.GroupFacts.{GroupFacts}
use Rattle.vms_group_core.specs.declared.steps.GroupStep.{GroupStep}
use Rattle.vms_group_core.specs.declared.trees.Tree.{Tree}
use Rattle.vms_group_core.specs.Common.{IsGroupCall, group_count, group_spent, groups}
use Rattle.vms_group.specs.Common.{CpuPass, IsCpuPass}
use Rattle.vms_seats.proofs.Common.{calls-both, calls-none}
use Rattle.vms_group_phase.specs.declared.items.GroupItem.{GroupItem}
use Rattle.vms_group_phase.specs.Common.{AreOfLines, HasGrown, HasRoom, MakesCall, RunsLines, lane_lines}
use Rattle.vms_group_phase.specs.Common.{spent_by_lines, values_among}
use Rattle.vms_group_phase.proofs.LaneLines.{lane-more, spent-append, spent-next}

-- the values of one answer more
values-append : (first second : List GroupAnswer)
    → values_among (first ++ second) ≡ values_among first ++ values_among second
values-append [] second = refl
values-append (Answers v ∷ first) second = ap (λ vs. v ∷ vs) (values-append first second)
values-append (Done ∷ first) second = values-append first second

module _ (facts : GroupFacts) where
  -- the steps of one line more
  of_lines-push : (lines : List GroupItem) (answers : List GroupAnswer) (steps more : List GroupStep)
      (item : GroupItem) (answer : GroupAnswer) → AreOfLines facts lines answers steps
      → IsGroupCall facts item.call more answer
      → AreOfLines facts (lines ++ item ∷ []) (answers ++ answer ∷ []) (steps ++ more)
  of_lines-push [] [] steps more item answer are is = record {
    first = more;
    others = [];
    parts = ap (λ ks. ks ++ more) are ∙ sym (append-nil more);
    is_call = is;
    go_on = refl;
  }
  of_lines-push [] (a ∷ answers) steps more item answer are is = absurd are
  of_lines-push (line ∷ lines) [] steps more item answer are is = absurd are
  of_lines-push (line ∷ lines) (a ∷ answers) steps more item answer are is = record {
    first = are.first;
    others = are.others ++ more;
    parts = ap (λ ks. ks ++ more) are.parts ∙ append_assoc are.first are.others more;
    is_call = are.is_call;
    go_on = of_lines-push lines answers are.others more item answer are.go_on is;
  }

  -- before the first line
  pub runs-none : (pass : CpuPass) (cpu : CpuId) → pass.pass.facts ≡ facts → IsCpuPass pass.pass cpu pass.volume
      → RunsLines facts [] [] pass pass
  runs-none pass cpu told is = record {
    steps = [];
    answers = [];
    of_lines = refl;
    told = refl;
    made = calls-none groups pass.pass is.live;
    grown = record {
      one_each = is.covers.one_each ∙ ap (λ (f : GroupFacts). group_count f.tree) told;
      each = λ g g_in. omega arith;
    };
  }

  -- with one line more
  runs-next : (lines : List GroupItem) (values : List ℤ) (new mid old : CpuPass) (item : GroupItem)
      (answer : GroupAnswer) → RunsLines facts lines values mid old
      → MakesCall facts item.call answer new.pass mid.pass
      → HasGrown facts.tree (group_spent item.call) new.volume mid.volume
      → RunsLines facts (lines ++ item ∷ []) (values ++ values_among (answer ∷ [])) new old
  runs-next lines values new mid old item answer runs makes grown = record {
    steps = runs.steps ++ makes.steps;
    answers = runs.answers ++ answer ∷ [];
    of_lines = of_lines-push lines runs.answers runs.steps makes.steps item answer runs.of_lines makes.is_call;
    told = ap (λ vs. vs ++ values_among (answer ∷ [])) runs.told ∙ sym (values-append runs.answers (answer ∷ []));
    made = calls-both groups new.pass mid.pass old.pass runs.steps makes.steps makes.made runs.made;
    grown = record {
      one_each = grown.one_each;
      each = λ g g_in.
          omega (arith, grown.each g g_in, runs.grown.each g g_in, spent-append lines (item ∷ []) g);
    };
  }

  module _ (c n : ℕ) (items : List GroupItem) (item : GroupItem) (below : n < length items)
      (is : item ≡ get_or items n item) (values : List ℤ) (mid old : CpuPass)
      (runs : RunsLines facts (lane_lines c (take n items)) values mid old) where
    lane-then : (b : Bool) → nat_eq item.cpu.number c ≡ b
        → lane_lines c (take (n + 1) items) ≡ lane_lines c (take n items) ++ cond b (item ∷ []) []
    lane-then b same =
        lane-more c n items item below is
        ∙ ap (λ (own : Bool). lane_lines c (take n items) ++ cond own (item ∷ []) []) same

    -- with the next of these lines, which is of the lane
    pub runs-own : nat_eq item.cpu.number c ≡ true → (more : List ℤ) (answer : GroupAnswer) (new : CpuPass)
        → more ≡ values ++ values_among (answer ∷ []) → MakesCall facts item.call answer new.pass mid.pass
        → HasGrown facts.tree (group_spent item.call) new.volume mid.volume
        → RunsLines facts (lane_lines c (take (n + 1) items)) more new old
    runs-own own more answer new kept makes grown =
        subst (λ (lines : List GroupItem). RunsLines facts lines more new old) (sym (lane-then true own))
        (subst (λ (vs : List ℤ). RunsLines facts (lane_lines c (take n items) ++ item ∷ []) vs new old) (sym kept)
        (runs-next (lane_lines c (take n items)) values new mid old item answer runs makes grown))

    -- and with one of another
    pub runs-other : nat_eq item.cpu.number c ≡ false
        → RunsLines facts (lane_lines c (take (n + 1) items)) values mid old
    runs-other other =
        subst (λ (lines : List GroupItem). RunsLines facts lines values mid old)
        (sym (lane-then false other ∙ append-nil (lane_lines c (take n items)))) runs

-- there is room for the next line of a lane
pub room-next : (tree : Tree) (c n : ℕ) (items : List GroupItem) (item : GroupItem) (now first : List ℕ)
    → n < length items → item ≡ get_or items n item → nat_eq item.cpu.number c ≡ true
    → HasGrown tree (spent_by_lines (lane_lines c (take n items))) now first
    → HasRoom tree (spent_by_lines (lane_lines c items)) first → HasRoom tree (group_spent item.call) now
room-next tree c n items item now first below is own grown room g g_in =
    omega (arith, grown.each g g_in, room g g_in, spent-next c g n items item below is own)
