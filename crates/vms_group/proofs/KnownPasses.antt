-- What a pass that owns a CPU knows, whatever others do, and that its calls leave it so.
use Rattle.std.proofs.Common.{◌≡◌, ℕ, ◌<◌, ◌≤◌, ◌+◌, true, List, [], ◌++◌, length, slice_index, slice_set, Option, Some}
use Rattle.std.proofs.Common.{None, Bool, false, nat_eq, if◌then◌else◌, ℤ, unsigned_abs, eqb-true, get_or-set_same}
use Rattle.std.proofs.Common.{get_or-set_other, refl, ap, sym, ◌∙◌, subst, arith}
use Rattle.std.proofs.lemmas.Bool.{eqb-false}
use Rattle.vms_group_core.specs.declared.call_values.GroupCall.TheVariants.{Change}
use Rattle.vms_history.specs.Common.{CpuId, own, GoesOnWithout, HasMade, begun_in, lives_in, owner_in, IsFree}
use Rattle.vms_history.proofs.Common.{holds_while_free, made-owner, made-given, own-on_top}
use Rattle.vms_group_core.specs.declared.call_values.GroupAnswer.{GroupAnswer}
use Rattle.vms_group_core.specs.declared.call_values.GroupCall.{GroupCall}
use Rattle.vms_group_core.specs.declared.steps.GroupFacts.{GroupFacts}
use Rattle.vms_group_core.specs.declared.steps.GroupStep.{GroupStep}
use Rattle.vms_group_core.specs.declared.steps.GroupStep.TheVariants.{Split}
use Rattle.vms_group_core.specs.declared.trees.Tree.{Tree}
use Rattle.vms_group_core.specs.Common.{groups, History, IsLegal, IsGroup, role, spent, spent_by, CarriesNothing}
use Rattle.vms_group_core.specs.Common.{IsGroupCall, group_spent}
use Rattle.vms_group_core.proofs.Common.{spending-known, spent_by-others, call-carries, call-spends}
use Rattle.vms_group.specs.Common.{HoldsSpending, IsCpuPass}
use Rattle.vms_seats.specs.Common.{HasBegun, next_number, Pass, Made}
use Rattle.vms_seats.proofs.Common.{begun-keeps, calls-live}

module _ (pass : Pass GroupFacts GroupStep) (h : History)
    (goes : GoesOnWithout groups pass.facts h pass.seen pass.number) where
  no_steps : HasMade groups pass.facts h pass.seen pass.number []
  no_steps = record {
    legal = goes.legal;
    extends = goes.extends;
    lived = goes.lived;
    lives = goes.lives;
    made = goes.own_same;
  }

  pub given : (0 < pass.number) × (pass.number ≤ begun_in role pass.seen)
  given = made-given groups pass.facts h pass.seen pass.number [] no_steps

  pub owner-same : owner_in role h pass.number ≡ owner_in role pass.seen pass.number
  owner-same = made-owner groups pass.facts h pass.seen pass.number [] no_steps

  pub spent-same : (cpu : CpuId) → owner_in role pass.seen pass.number ≡ Some cpu → (g : ℕ)
      → spent h cpu.number g ≡ spent pass.seen cpu.number g
  spent-same cpu owns g = ap (λ k. spent k cpu.number g) goes.extends.1
      ∙ spending-known pass.facts goes.extends.0 pass.seen pass.number
      (subst (IsLegal pass.facts) goes.extends.1 goes.legal)
      (subst (λ k. lives_in role k pass.number ≡ true) goes.extends.1 goes.lives) given.1
      (own-on_top goes.extends.0 pass.seen pass.number []
      (ap (λ k. own k pass.number) (sym goes.extends.1) ∙ goes.own_same))
      cpu g owns

-- while nobody owns a CPU, nobody spends anything of it
spent-free : (facts : GroupFacts) (h : History) (cpu : CpuId) → IsFree role h (Some cpu) → (m : History)
    → IsLegal facts (m ++ h) → own m 0 ≡ [] → (g : ℕ) → spent (m ++ h) cpu.number g ≡ spent h cpu.number g
spent-free facts h cpu free =
    holds_while_free groups facts h (Some cpu) free
    (λ k. (g : ℕ) → spent k cpu.number g ≡ spent h cpu.number g)
    (λ e m legal others elsewhere same g.
    let none = spent_by-others (owner_in role (m ++ h) e.caller) cpu g e.step elsewhere in
    omega (arith, none, same g))
    (λ g. refl)

split-spends_nothing : (o who : Option CpuId) (q c g : ℕ) → spent_by o c g (Split q who) ≡ 0
split-spends_nothing (Some d) who q c g = refl
split-spends_nothing None who q c g = refl

nothing-idle : (tree : Tree) → CarriesNothing tree []
nothing-idle tree g g_in = record { value = refl; up = refl }

-- a pass that begins, where the volumes hold what its CPU has spent so far
pub begun-owns : (new old pass : Pass GroupFacts GroupStep) (cpu : CpuId) (volume : List ℕ)
    → HasBegun groups Split new old pass (Some cpu) → IsFree role old.seen (Some cpu)
    → HoldsSpending old.facts.tree old.seen cpu.number volume → IsCpuPass pass cpu volume
begun-owns new old pass cpu volume begun free holds = record {
  live = begun.live;
  owns = begun.cpu;
  covers = subst (λ (f : GroupFacts). HoldsSpending f.tree pass.seen cpu.number volume) (sym begun.facts) (record {
    one_each = holds.one_each;
    spent_within = λ g g_in. let is = spent_is g in let within = holds.spent_within g g_in in omega (arith, is, within);
  });
  idle = subst (CarriesNothing pass.facts.tree) (sym begun.no_steps) (nothing-idle pass.facts.tree);
}
  where
    spent_is : (g : ℕ) → spent pass.seen cpu.number g ≡ spent old.seen cpu.number g
    spent_is g =
        ap (λ k. spent k cpu.number g) begun.seen
        ∙ begun-keeps groups Split new old pass (Some cpu) begun (λ k. spent k cpu.number g)
        (λ h. let split = split-spends_nothing (owner_in role h 0) (Some cpu) (next_number groups old.seen) cpu.number
        g in
        omega (arith, split))
        (λ m legal none. spent-free old.facts old.seen cpu free m legal none g)

-- a pass after a call, where its volumes have grown by what the call spends
pub call-leaves : (new old : Pass GroupFacts GroupStep) (cpu : CpuId) (volume grown : List ℕ) (call : GroupCall)
    (steps : List GroupStep) (answer : GroupAnswer) → IsCpuPass old cpu volume → Made groups new old steps
    → IsGroupCall old.facts call steps answer → length grown ≡ length volume
    → ((g : ℕ) → IsGroup old.facts.tree g → slice_index volume g + group_spent call g ≤ slice_index grown g)
    → IsCpuPass new cpu grown
call-leaves new old cpu volume grown call steps answer mine made is long grows = record {
  live = calls-live groups new old steps mine.live made;
  owns = made.cpu ∙ mine.owns;
  covers = subst (λ (f : GroupFacts). HoldsSpending f.tree new.seen cpu.number grown) (sym made.facts) (record {
    one_each = long ∙ mine.covers.one_each;
    spent_within = λ g g_in.
        let spends = call-spends old.facts new.seen old.seen old.number call steps answer made.made is cpu g
        (mine.live.owner ∙ mine.owns) in
        let within = mine.covers.spent_within g g_in in
        let room = grows g g_in in
        omega (arith, spends, within, room);
  });
  idle = subst (λ (f : GroupFacts). CarriesNothing f.tree (own new.seen new.number)) (sym made.facts)
      (subst (CarriesNothing old.facts.tree) (sym (ap (own new.seen) made.number ∙ made.made.made)) (λ g g_in.
      let same = call-carries old.facts call steps answer is old.number g (own old.seen old.number) in
      let none = mine.idle g g_in in
      record { value = same.value ∙ none.value; up = same.up ∙ none.up }));
}

-- the volumes grow by the size of a change
pub change-grows : (volume : List ℕ) (g : ℕ) (a : ℤ) → g < length volume → (x : ℕ)
    → slice_index volume x + group_spent (Change g a) x
    ≤ slice_index (slice_set volume g (slice_index volume g + unsigned_abs a)) x
change-grows volume g a inside x = by (nat_eq g x) refl
  where
    grown : ℕ
    grown = slice_index volume g + unsigned_abs a

    by : (b : Bool) → nat_eq g x ≡ b
        → slice_index volume x + (if b then unsigned_abs a else 0) ≤ slice_index (slice_set volume g grown) x
    by true same =
        let here : g ≡ x = eqb-true g x same in
        let set_is : slice_index (slice_set volume g grown) x ≡ grown =
        ap (slice_index (slice_set volume g grown)) (sym here) ∙ get_or-set_same volume g grown 0 inside in
        let was = ap (slice_index volume) here in
        omega (arith, set_is, was)
    by false differ =
        let set_is = get_or-set_other volume g x grown 0 (λ here. eqb-false g x differ (sym here)) in
        omega (arith, set_is)
