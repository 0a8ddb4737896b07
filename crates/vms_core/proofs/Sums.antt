-- For other crates too: nothing is lost: values, differentials and what is carried add up to the true totals.
use Rattle.std.proofs.Common.{◌≡◌, ℕ, suc, ◌+◌, ◌*◌, ◌%◌, ◌&&◌, Bool, true, false, List, [], ◌∷◌, Option, Some, None, ℤ}
use Rattle.std.proofs.Common.{pos, neg_ℤ, ◌+ℤ◌, ◌-ℤ◌, refl, ap, ◌∙◌, arith, if◌then◌else◌, nat_eq, eqb-true}
use Rattle.std.proofs.lemmas.Int.{ints}
use Rattle.vms_history.specs.Common.{Diffs, CounterId, CpuId, GroupId, Mode, Shape, IsCpu, IsCounter, group_of, total}
use Rattle.vms_history.specs.Common.{owner_in, begun_in}
use Rattle.vms_history.proofs.Common.{if-cancels, sum_below-same, sum_below-one, total-of_callers}
use Rattle.vms_core.specs.declared.states.State.{State}
use Rattle.vms_core.specs.declared.steps.Facts.{Facts}
use Rattle.vms_core.specs.declared.steps.Step.{Step}
use Rattle.vms_core.specs.declared.steps.Step.TheVariants.{Put, AddG, Take}
use Rattle.vms_core.specs.Common.{HasShape, TellsGroup, value_at, diff_at, entry, differential_after, carried_by, Meets}
use Rattle.vms_core.specs.Common.{Puts, FindsGroup, moved, role, effect, differentials, change_of, true_total, History}
use Rattle.vms_core.specs.Common.{IsLegal, state_after, pages, carried_by_all, KeepsTotals}
use Rattle.vms_core.proofs.ChangeLemmas.{differential_after-carried_by}
use Rattle.vms_core.proofs.Shapes.{HasShape-state_after}
use Rattle.vms_core.proofs.Effects.{owned, value_at-effect, diff_at-effect}

-- what a list of a group tells of one counter
pub entry-told : (s : State) (c j k : ℕ) (values : List ℤ) → TellsGroup s c j values → j ≡ group_of k
    → entry values k ≡ diff_at s c k
entry-told s c j k values told same =
    let at : 8 * j + k % 8 ≡ k = omega arith in
    told.each (k % 8) (omega arith) ∙ ap (diff_at s c) at

-- the differentials of one counter after a write to one of them, if it is of that counter
pub differentials-write : (shape : Shape) (s s' : State) (k d : ℕ) (b : Bool) (v : ℤ) → IsCpu shape d
    → ((c : ℕ) → diff_at s' c k ≡ (if nat_eq d c && b then v else diff_at s c k))
    → differentials shape s' k ≡ differentials shape s k +ℤ (if b then v -ℤ diff_at s d k else pos 0)
differentials-write shape s s' k d b v d_in write =
    sum_below-same (λ c. diff_at s' c k) (λ c. if nat_eq d c && b then v else diff_at s c k) shape.cpus
    (λ c c_in. write c)
    ∙ sum_below-one (λ z. z) (λ c. diff_at s c k) (λ c. v) d shape.cpus b d_in

-- what a put does to one counter: b says whether it is the counter of the put
pub put-adds_up : (b : Bool) (values found after moving delta : ℤ) → (b ≡ true → after +ℤ moving ≡ found +ℤ delta)
    → (sum : ℤ) → (values +ℤ (sum +ℤ (if b then after -ℤ found else pos 0))) +ℤ (if b then moving else pos 0)
    ≡ (values +ℤ sum) +ℤ (if b then delta else pos 0)
put-adds_up true values found after moving delta kept sum = omega (arith, ints, kept refl)
put-adds_up false values found after moving delta kept sum = omega (arith, ints)

pub addition-adds_up : (b : Bool) (value amount sum : ℤ)
    → ((if b then value +ℤ amount else value) +ℤ sum) +ℤ (if b then neg_ℤ amount else pos 0) ≡ (value +ℤ sum) +ℤ pos 0
addition-adds_up true value amount sum = omega (arith, ints)
addition-adds_up false value amount sum = omega (arith, ints)

module _ (facts : Facts) (h : History) (s : State) (p : ℕ) (shaped : HasShape facts.layout s) (k : ℕ)
    (k_in : IsCounter facts.layout k) where
  -- what the values, the differentials and a step add up to in a state after it
  abbrev AddsUp : State → Step → Type 0
  AddsUp after step = (value_at after k +ℤ differentials facts.layout after k) +ℤ moved k step
      ≡ (value_at s k +ℤ differentials facts.layout s k) +ℤ change_of k step

  AddsUp-put : (o : CpuId) (l : CounterId) (w : Diffs) (t : ℕ) (delta : ℤ) (how : Mode) → owner_in role h p ≡ Some o
      → Puts facts h s p l w t delta → AddsUp (effect facts (Some o) (Put l w t delta how) s) (Put l w t delta how)
  AddsUp-put o l w t delta how is puts =
      let step : Step = Put l w t delta how in
      let same : puts.cpu ≡ o = owned facts h s p shaped o puts.cpu is puts.owns in
      let after = differential_after how t (entry w.values l.number) delta in
      let moving = carried_by how t (entry w.values l.number) delta in
      let write = differentials-write facts.layout s (effect facts (Some o) step s) k o.number (nat_eq l.number k) after
      (rw same at puts.owns.within)
      (λ c. diff_at-effect facts h s p shaped (Some o) step c k is puts k_in) in
      let told : entry w.values l.number ≡ diff_at s o.number l.number =
      rw same at (entry-told s puts.cpu.number (group_of l.number) l.number w.values puts.values refl) in
      let kept : nat_eq l.number k ≡ true → after +ℤ moving ≡ diff_at s o.number k +ℤ delta = λ here.
      differential_after-carried_by how t (entry w.values l.number) delta
      ∙ ap (λ found. found +ℤ delta) (told ∙ ap (diff_at s o.number) (eqb-true l.number k here)) in
      rw write (put-adds_up (nat_eq l.number k) (value_at s k) (diff_at s o.number k) after moving delta kept
      (differentials facts.layout s k))

  AddsUp-take : (d : CpuId) (j : GroupId) (w : Diffs) (after : State) → FindsGroup facts s d j w
      → value_at after k ≡ value_at s k
      → ((c : ℕ) → diff_at after c k
      ≡ (if nat_eq d.number c && nat_eq j.number (group_of k) then pos 0 else diff_at s c k))
      → AddsUp after (Take d j w)
  AddsUp-take d j w after finds value_same write =
      let zeroed = differentials-write facts.layout s after k d.number (nat_eq j.number (group_of k))
      (pos 0) finds.cpu write in
      let all = if-cancels (nat_eq j.number (group_of k)) (diff_at s d.number k) (entry w.values k) (λ here.
      entry-told s d.number j.number k w.values finds.values (eqb-true j.number (group_of k) here)) in
      rw (value_same, zeroed) (omega (arith, ints, all))

  AddsUp-addition : (l : CounterId) (a : ℤ) (after : State)
      → value_at after k ≡ (if nat_eq l.number k then value_at s k +ℤ a else value_at s k)
      → ((c : ℕ) → diff_at after c k ≡ diff_at s c k) → AddsUp after (AddG l a)
  AddsUp-addition l a after added same =
      let all : differentials facts.layout after k ≡ differentials facts.layout s k =
      sum_below-same (λ c. diff_at after c k) (λ c. diff_at s c k) facts.layout.cpus (λ c c_in. same c) in
      rw (added, all) (addition-adds_up (nat_eq l.number k) (value_at s k) a (differentials facts.layout s k))

  pub AddsUp-step : (who : Option CpuId) (step : Step) → owner_in role h p ≡ who → Meets facts h s p step
      → AddsUp (effect facts who step s) step
  AddsUp-step None (Put l w t delta how) is meets = let owner = meets.owns.owner in absurd cc
  AddsUp-step (Some o) (Put l w t delta how) is meets = AddsUp-put o l w t delta how is meets
  AddsUp-step None (Take d j w) is meets =
      AddsUp-take d j w (effect facts None (Take d j w) s) meets refl
      (λ c. diff_at-effect facts h s p shaped None (Take d j w) c k is meets k_in)
  AddsUp-step (Some o) (Take d j w) is meets =
      AddsUp-take d j w (effect facts (Some o) (Take d j w) s) meets refl
      (λ c. diff_at-effect facts h s p shaped (Some o) (Take d j w) c k is meets k_in)
  AddsUp-step None (AddG l a) is meets =
      AddsUp-addition l a (effect facts None (AddG l a) s) (value_at-effect facts h s p shaped None (AddG l a) k meets)
      (λ c. diff_at-effect facts h s p shaped None (AddG l a) c k is meets k_in)
  AddsUp-step (Some o) (AddG l a) is meets =
      AddsUp-addition l a (effect facts (Some o) (AddG l a) s)
      (value_at-effect facts h s p shaped (Some o) (AddG l a) k meets)
      (λ c. diff_at-effect facts h s p shaped (Some o) (AddG l a) c k is meets k_in)
  AddsUp-step None _ is meets = refl
  AddsUp-step (Some o) _ is meets = refl

-- the same over a whole history, whoever made each step
value_at-moved : (facts : Facts) (h : History) (k : ℕ) → IsLegal facts h → IsCounter facts.layout k
    → (value_at (state_after facts h) k +ℤ differentials facts.layout (state_after facts h) k) +ℤ total (moved k) h
    ≡ true_total facts h k
value_at-moved facts [] k legal k_in = refl
value_at-moved facts (e ∷ h) k legal k_in =
    let s = state_after facts h in
    let who = owner_in role h e.caller in
    let step = AddsUp-step facts h s e.caller (HasShape-state_after facts h legal.0) k k_in who e.step refl legal.2 in
    omega (arith, ints, step, value_at-moved facts h k legal.0 k_in)

pub totals-kept : (facts : Facts) (h : History) → IsLegal facts h → KeepsTotals facts h
totals-kept facts h legal k k_in =
    let all : total (moved k) h ≡ carried_by_all h k =
    total-of_callers pages facts (moved k) h (suc (begun_in role h)) legal (omega arith) in
    rw all at (value_at-moved facts h k legal k_in)
