-- What the lines of a phase change and spend is what its history changes and spends.
use Rattle.std.proofs.Common.{◌≡◌, ℕ, zero, suc, ◌<◌, ◌≤◌, nat_eq, Bool, true, false, cond, List, [], ◌∷◌, ◌++◌, length}
use Rattle.std.proofs.Common.{ℤ, pos, ◌+ℤ◌, Some, refl, sym, ap, ◌∙◌, arith, All, if◌then◌else◌, length-append}
use Rattle.std.proofs.Common.{eqb-true, eq-eqb, unsigned_abs}
use Rattle.std.proofs.lemmas.Bool.{eqb-false, ne_eqb}
use Rattle.std.proofs.lemmas.Int.{ints}
use Rattle.std.proofs.lemmas.List.Elements.{All-head, All-tail, All-weaker}
use Rattle.vms_history.specs.Common.{CpuId, after, begun_in, own, owner_in, sum_below, total}
use Rattle.vms_history.proofs.Common.{after-steps, caller_is_given, own-mine, own-others, owner_in-append}
use Rattle.vms_history.proofs.Common.{owner_is_given, acts_of, begun_in-append, sum_below-changed, sum_below-same}
use Rattle.vms_history.proofs.Common.{sum_below-sum, sum_below-zeros, total-of_callers}
use Rattle.vms_group_core.specs.declared.call_values.GroupAnswer.{GroupAnswer}
use Rattle.vms_group_core.specs.declared.call_values.GroupAnswer.TheVariants.{Done, Value as Answers}
use Rattle.vms_group_core.specs.declared.call_values.GroupCall.{GroupCall}
use Rattle.vms_group_core.specs.declared.call_values.GroupCall.TheVariants.{Change, Flush, Value}
use Rattle.vms_group_core.specs.declared.steps.GroupFacts.{GroupFacts}
use Rattle.vms_group_core.specs.declared.steps.GroupStep.{GroupStep}
use Rattle.vms_group_core.specs.declared.steps.GroupStep.TheVariants.{AddP}
use Rattle.vms_group_core.specs.declared.trees.Tree.{Tree}
use Rattle.vms_group_core.specs.Common.{History, IsGroup, IsGroupCall, IsLegal, as_is, changed, groups, over_subtree}
use Rattle.vms_group_core.specs.Common.{role, size_of, spent, spent_by}
use Rattle.vms_group_core.proofs.CallSpending.{call-changes, calls-spend_nothing}
use Rattle.vms_group_core.proofs.Common.{spent_by-others}
use Rattle.vms_group_core.proofs.Spending.{spent_by-owner}
use Rattle.vms_group_core.proofs.SubtreeSums.{over-one, over-sum, over-zeros}
use Rattle.vms_group_phase.specs.declared.items.GroupItem.{GroupItem}
use Rattle.vms_group_phase.specs.declared.worlds.GroupWorld.{GroupWorld}
use Rattle.vms_group_phase.specs.Common.{AreOfLines, IsGroupPhase, IsLineOf, MakesLines, group_facts, group_of}
use Rattle.vms_group_phase.specs.Common.{has_some, joins_of, lane_lines, lanes_below, pass_of, plain_change}
use Rattle.vms_group_phase.specs.Common.{plain_group_sum, spent_by_lines, splits_of}
use Rattle.vms_group_phase.proofs.MainPasses.{begun-closed, closed-parts, cpu, join_of, owner-closed, owner-lane}
use Rattle.vms_group_phase.proofs.MainPasses.{spent-unowned, split_of}

-- what a call changes of group x
abbrev pub call_change : GroupCall → ℕ → ℤ
call_change (Change g a) x = if nat_eq g x then a else pos 0
call_change _ x = pos 0

-- what lines change of it
abbrev pub lines_change : List GroupItem → ℕ → ℤ
lines_change [] x = pos 0
lines_change (item ∷ items) x = call_change item.call x +ℤ lines_change items x

-- an amount of size 0 is 0
no-size : (a : ℤ) → unsigned_abs a ≡ 0 → a ≡ pos 0
no-size a none = omega (arith, ints)

-- a step that spends nothing changes nothing
no-change : (x : ℕ) (step : GroupStep) → spent_by (Some (cpu 0)) 0 x step ≡ 0 → changed as_is x step ≡ pos 0
no-change x (AddP g a) none = by (nat_eq g x) none
  where
    by : (b : Bool) → (if b then unsigned_abs a else 0) ≡ 0 → (if b then a else pos 0) ≡ pos 0
    by true none = no-size a none
    by false none = refl
no-change x _ none = refl

no-changes : (x p : ℕ) (steps : List GroupStep) → All (λ step. spent_by (Some (cpu 0)) 0 x step ≡ 0) steps
    → (h : History) → total (changed as_is x) (after p steps h) ≡ total (changed as_is x) h
no-changes x p [] none h = refl
no-changes x p (step ∷ steps) none h =
    let here = no-change x step (All-head (λ k. spent_by (Some (cpu 0)) 0 x k ≡ 0) step steps none) in
    let rest = no-changes x p steps (All-tail (λ k. spent_by (Some (cpu 0)) 0 x k ≡ 0) step steps none)
    (record { caller = p; step = step } ∷ h) in
    omega (arith, ints, here, rest)

module _ (facts : GroupFacts) (x p : ℕ) where
  -- what the steps of a call change
  call-adds : (call : GroupCall) (steps : List GroupStep) (answer : GroupAnswer) → IsGroupCall facts call steps answer
      → (h : History)
      → total (changed as_is x) (after p steps h) ≡ call_change call x +ℤ total (changed as_is x) h
  call-adds (Change g a) steps Done is h = ap (λ ks. total (changed as_is x) (after p ks h)) is.in_order
  call-adds (Flush g) steps Done is h =
      let none = calls-spend_nothing facts (Flush g) steps Done is (λ y. refl) in
      omega (arith, ints, no-changes x p steps (none (Some (cpu 0)) 0 x) h)
  call-adds (Value g) steps (Answers v) is h =
      let none = calls-spend_nothing facts (Value g) steps (Answers v) is (λ y. refl) in
      omega (arith, ints, no-changes x p steps (none (Some (cpu 0)) 0 x) h)
  call-adds _ steps _ is h = absurd is

  -- what the steps of lines change, and spend
  lines-add : (lines : List GroupItem) (answers : List GroupAnswer) (steps : List GroupStep)
      → AreOfLines facts lines answers steps → (h : History)
      → total (changed as_is x) (after p steps h) ≡ lines_change lines x +ℤ total (changed as_is x) h
  lines-add [] [] steps are h =
      let none = ap (λ ks. total (changed as_is x) (after p ks h)) are in omega (arith, ints, none)
  lines-add [] (a ∷ answers) steps are h = absurd are
  lines-add (line ∷ lines) [] steps are h = absurd are
  lines-add (line ∷ lines) (a ∷ answers) steps are h =
      let parts = ap (total (changed as_is x)) (ap (λ ks. after p ks h) are.parts
      ∙ after-steps p are.first are.others h) in
      omega (
        arith,
        ints,
        parts,
        lines-add lines answers are.others are.go_on (after p are.first h),
        call-adds line.call are.first a are.is_call h,
      )

  lines-spend : (lines : List GroupItem) (answers : List GroupAnswer) (steps : List GroupStep)
      → AreOfLines facts lines answers steps → (h : History)
      → total (changed size_of x) (after p steps h) ≡ pos (spent_by_lines lines x) +ℤ total (changed size_of x) h
  lines-spend [] [] steps are h =
      let none = ap (λ ks. total (changed size_of x) (after p ks h)) are in omega (arith, ints, none)
  lines-spend [] (a ∷ answers) steps are h = absurd are
  lines-spend (line ∷ lines) [] steps are h = absurd are
  lines-spend (line ∷ lines) (a ∷ answers) steps are h =
      let parts = ap (total (changed size_of x)) (ap (λ ks. after p ks h) are.parts
      ∙ after-steps p are.first are.others h) in
      omega (
        arith,
        ints,
        parts,
        lines-spend lines answers are.others are.go_on (after p are.first h),
        call-changes facts x p line.call are.first a are.is_call h,
      )

-- what a CPU spends is what the one pass that owns it changes in size
module _ (facts : GroupFacts) (c : CpuId) (p x : ℕ) (some : 0 < p) where
  owner-spends : (h : History) → IsLegal facts h → ((q : ℕ) → owner_in role h q ≡ Some c → q ≡ p)
      → (p ≤ begun_in role h → owner_in role h p ≡ Some c)
      → pos (spent h c.number x) ≡ total (changed size_of x) (own h p)
  owner-spends [] legal alone owns = refl
  owner-spends (e ∷ h) legal alone owns =
      let before : (q : ℕ) → owner_in role h q ≡ Some c → q ≡ p = λ q mine.
      let given = owner_is_given groups facts h q c legal.0 mine in
      alone q (owner_in-append groups facts (e ∷ []) h q legal given.1 ∙ mine) in
      let owned : p ≤ begun_in role h → owner_in role h p ≡ Some c = λ given.
      let grows = begun_in-append role (e ∷ []) h in
      sym (owner_in-append groups facts (e ∷ []) h p legal given) ∙ owns (omega (arith, grows, given)) in
      by (nat_eq e.caller p) refl before owned (owner-spends h legal.0 before owned)
    where
      by : (b : Bool) → nat_eq e.caller p ≡ b → ((q : ℕ) → owner_in role h q ≡ Some c → q ≡ p)
          → (p ≤ begun_in role h → owner_in role h p ≡ Some c)
          → pos (spent h c.number x) ≡ total (changed size_of x) (own h p)
          → pos (spent (e ∷ h) c.number x) ≡ total (changed size_of x) (own (e ∷ h) p)
      by true same before owned rest =
          let mine : e.caller ≡ p = eqb-true e.caller p same in
          let given : e.caller ≤ begun_in role h =
          caller_is_given groups facts h e.caller (role e.step) legal.0 (acts_of groups facts e h legal) in
          let who : owner_in role h e.caller ≡ Some c =
          ap (owner_in role h) mine ∙ owned (omega (arith, given, mine)) in
          let grown : spent_by (owner_in role h e.caller) c.number x e.step ≡ spent_by (Some c) c.number x e.step =
          ap (λ o. spent_by o c.number x e.step) who in
          let all = ap (total (changed size_of x)) (own-mine e h p mine) in
          omega (arith, ints, grown, spent_by-owner c x e.step, all, rest)
      by false differ before owned rest =
          let others = eqb-false e.caller p differ in
          let none = spent_by-others (owner_in role h e.caller) c x e.step (λ mine. others (before e.caller mine)) in
          let all = ap (total (changed size_of x)) (own-others e h p others) in
          omega (arith, ints, none, all, rest)

-- no line
none-change : (lines : List GroupItem) (x : ℕ) → has_some lines ≡ false → lines_change lines x ≡ pos 0
none-change [] x none = refl
none-change (line ∷ lines) x none = absurd cc

none-spent : (lines : List GroupItem) (x : ℕ) → has_some lines ≡ false → spent_by_lines lines x ≡ 0
none-spent [] x none = refl
none-spent (line ∷ lines) x none = absurd cc

-- the steps that begin and end passes change nothing
splits-change : (items : List GroupItem) (x : ℕ) (lanes : List ℕ) (h : History)
    → total (changed as_is x) (after 0 (splits_of items lanes) h) ≡ total (changed as_is x) h
splits-change items x [] h = refl
splits-change items x (c ∷ lanes) h =
    omega (arith, ints, splits-change items x lanes (split_of items c ∷ h))

joins-change : (items : List GroupItem) (x : ℕ) (lanes : List ℕ) (h : History)
    → total (changed as_is x) (after 0 (joins_of items lanes) h) ≡ total (changed as_is x) h
joins-change items x [] h = refl
joins-change items x (c ∷ lanes) h =
    omega (arith, ints, joins-change items x lanes (join_of items c ∷ h))

-- a sum over the passes of lanes with lines is one over the CPUs, of which the others count nothing
sum-lanes : (items : List GroupItem) (by_pass by_cpu : ℕ → ℤ) (n : ℕ)
    → ((c : ℕ) → c < n → has_some (lane_lines c items) ≡ true → by_pass (pass_of items c) ≡ by_cpu c)
    → ((c : ℕ) → c < n → has_some (lane_lines c items) ≡ false → by_cpu c ≡ pos 0)
    → sum_below by_pass (suc (length (lanes_below items n))) ≡ by_pass 0 +ℤ sum_below by_cpu n
sum-lanes items by_pass by_cpu zero same none = refl
sum-lanes items by_pass by_cpu (suc n) same none =
    by (has_some (lane_lines n items)) refl
    (sum-lanes items by_pass by_cpu n (λ c below. same c (omega (arith, below)))
    (λ c below. none c (omega (arith, below))))
  where
    by : (b : Bool) → has_some (lane_lines n items) ≡ b
        → sum_below by_pass (suc (length (lanes_below items n))) ≡ by_pass 0 +ℤ sum_below by_cpu n
        → sum_below by_pass (suc (length (if b then lanes_below items n ++ n ∷ [] else lanes_below items n)))
        ≡ by_pass 0 +ℤ (by_cpu n +ℤ sum_below by_cpu n)
    by true some before =
        let long : length (lanes_below items n ++ n ∷ []) ≡ suc (length (lanes_below items n)) =
        omega (arith, length-append (lanes_below items n) (n ∷ [])) in
        let more = ap (λ k. sum_below by_pass (suc k)) long in
        let here = same n (omega arith) some in
        omega (arith, ints, more, here, before)
    by false nothing before = omega (arith, ints, before, none n (omega arith) nothing)

-- what the lines of each CPU's lane change is in sum what all lines change
lane-first : (item : GroupItem) (items : List GroupItem) (x c : ℕ)
    → lines_change (lane_lines c (item ∷ items)) x
    ≡ (if nat_eq item.cpu.number c then call_change item.call x else pos 0) +ℤ lines_change (lane_lines c items) x
lane-first item items x c = by (nat_eq item.cpu.number c)
  where
    by : (b : Bool) → lines_change (cond b (item ∷ lane_lines c items) (lane_lines c items)) x
        ≡ (if b then call_change item.call x else pos 0) +ℤ lines_change (lane_lines c items) x
    by true = refl
    by false = omega (arith, ints)

lanes-change : (x n : ℕ) (items : List GroupItem) → All (λ (item : GroupItem). item.cpu.number < n) items
    → sum_below (λ c. lines_change (lane_lines c items) x) n ≡ lines_change items x
lanes-change x n [] known = sum_below-zeros (λ c. pos 0) n (λ c below. refl)
lanes-change x n (item ∷ items) known =
    let d = item.cpu.number in
    let v = call_change item.call x in
    let P : GroupItem → Type 0 = λ line. line.cpu.number < n in
    let each = sum_below-same (λ c. lines_change (lane_lines c (item ∷ items)) x)
    (λ c. (if nat_eq d c then v else pos 0) +ℤ lines_change (lane_lines c items) x) n
    (λ c below. lane-first item items x c) in
    let both = sum_below-sum (λ c. if nat_eq d c then v else pos 0) (λ c. lines_change (lane_lines c items) x) n in
    let one = sum_below-changed (λ c. pos 0) (λ c. if nat_eq d c then v else pos 0) d n (All-head P item items known)
    (λ i below other. ap (λ (b : Bool). if b then v else pos 0) (ne_eqb d i (λ same. other (sym same)))) in
    let zeros = sum_below-zeros (λ c. pos 0) n (λ c below. refl) in
    let here : (if nat_eq d d then v else pos 0) ≡ v = ap (λ (b : Bool). if b then v else pos 0) (eq-eqb d d refl) in
    omega (arith, ints, each, both, one, zeros, here, lanes-change x n items (All-tail P item items known))

-- what lines change in a subtree is their plain sum there
pub plain-sum : (tree : Tree) (g : ℕ) (items : List GroupItem) → All (IsLineOf tree) items
    → over_subtree tree g (lines_change items) ≡ plain_group_sum tree items g
plain-sum tree g [] known = over-zeros tree g (λ x. pos 0) (λ x x_in. refl)
plain-sum tree g (item ∷ items) known =
    let line = All-head (IsLineOf tree) item items known in
    let both = over-sum tree g (call_change item.call) (lines_change items) in
    omega (
      arith,
      ints,
      both,
      by item.call line.group,
      plain-sum tree g items (All-tail (IsLineOf tree) item items known),
    )
  where
    by : (call : GroupCall) → IsGroup tree (group_of call)
        → over_subtree tree g (call_change call) ≡ plain_change tree call g
    by (Change y a) known = over-one tree g y a known
    by (Flush y) known = over-zeros tree g (λ x. pos 0) (λ x x_in. refl)
    by (Value y) known = over-zeros tree g (λ x. pos 0) (λ x x_in. refl)

module _ (tree : Tree) (w : GroupWorld) (items : List GroupItem) (h : History) (phase : IsGroupPhase tree w items h)
  where
    abbrev facts : GroupFacts
    facts = group_facts tree w

    -- what a phase changes of a group is what its lines do
    pub phase-changes : (x : ℕ) → All (IsLineOf tree) items → total (changed as_is x) h ≡ lines_change items x
    phase-changes x known =
        let count = begun-closed items tree.cpus h phase.main in
        let callers = total-of_callers groups facts (changed as_is x) h (suc (length (lanes_below items tree.cpus)))
        phase.complete.legal (omega (arith, count)) in
        let main : total (changed as_is x) (own h 0) ≡ pos 0 =
        ap (total (changed as_is x)) (phase.main ∙ closed-parts items tree.cpus)
        ∙ joins-change items x (lanes_below items tree.cpus)
        (after 0 (splits_of items (lanes_below items tree.cpus)) [])
        ∙ splits-change items x (lanes_below items tree.cpus) [] in
        let lanes = sum-lanes items (λ p. total (changed as_is x) (own h p))
        (λ c. lines_change (lane_lines c items) x) tree.cpus
        (λ c below some. lane-adds c (phase.lanes c below some))
        (λ c below none. none-change (lane_lines c items) x none) in
        let all = lanes-change x tree.cpus items
        (All-weaker (IsLineOf tree) (λ (item : GroupItem). item.cpu.number < tree.cpus) (λ item line. line.cpu) items
        known) in
        omega (arith, ints, callers, main, lanes, all)
      where
        lane-adds : (c : ℕ) → MakesLines facts (lane_lines c items) (pass_of items c) h
            → total (changed as_is x) (own h (pass_of items c)) ≡ lines_change (lane_lines c items) x
        lane-adds c makes =
            let is = ap (total (changed as_is x)) makes.own_events in
            let adds = lines-add facts x (pass_of items c) (lane_lines c items) makes.answers makes.steps makes.of_lines
            [] in
            omega (arith, ints, is, adds)

    -- and what a CPU spends in it is what the lines of its lane do
    pub phase-spends : (c x : ℕ) → c < tree.cpus → spent h c x ≡ spent_by_lines (lane_lines c items) x
    phase-spends c x below = by (has_some (lane_lines c items)) refl
      where
        by : (b : Bool) → has_some (lane_lines c items) ≡ b → spent h c x ≡ spent_by_lines (lane_lines c items) x
        by true some =
            let makes = phase.lanes c below some in
            let p = pass_of items c in
            let owner = owner-spends facts (cpu c) p x (omega arith) h phase.complete.legal
            (λ q owns. let mine = owner-closed items tree.cpus h q (cpu c) phase.main owns in mine.number)
            (λ given. owner-lane items tree.cpus c h phase.main below some) in
            let is = ap (total (changed size_of x)) makes.own_events in
            let spends = lines-spend facts x p (lane_lines c items) makes.answers makes.steps makes.of_lines [] in
            omega (arith, ints, owner, is, spends)
        by false none =
            let nothing = none-spent (lane_lines c items) x none in
            let nobody : (q : ℕ) → owner_in role h q ≡ Some (cpu c) → ⊥ = λ q owns.
            let mine = owner-closed items tree.cpus h q (cpu c) phase.main owns in
            let some : has_some (lane_lines c items) ≡ true = mine.some in
            absurd cc in
            omega (arith, nothing, spent-unowned facts (cpu c) x h phase.complete.legal nobody)
