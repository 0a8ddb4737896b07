-- For other crates too: the differentials of a group stand as one list of eight, and so do the lists that steps name.
use Rattle.std.proofs.Common.{◌≡◌, ℕ, ◌+◌, ◌*◌, ◌%◌, ◌<◌, ◌≤◌, ◌&&◌, Bool, true, false, List, [], ◌∷◌, length, take}
use Rattle.std.proofs.Common.{drop, Option, Some, None, ℤ, pos, ◌∙◌, ⊎_elim, arith, length-set, if◌then◌else◌, nat_eq}
use Rattle.std.proofs.Common.{unsigned_abs}
use Rattle.std.proofs.lemmas.Bool.{cases_lt}
use Rattle.std.proofs.lemmas.List.{get_or_past, length-replicate}
use Rattle.vms_history.specs.Common.{CpuId, AreBytes, IsCounter, cell, counter_count, group_of, place_of}
use Rattle.vms_history.specs.Common.{most_threshold, own}
use Rattle.vms_base.proofs.Common.{place_of-lt}
use Rattle.vms_history.proofs.Common.{base_can_begin, own-keeps}
use Rattle.vms_core.proofs.PlainData.{byte}
use Rattle.vms_core.specs.declared.states.State.{State}
use Rattle.vms_core.specs.declared.steps.Facts.{Facts}
use Rattle.vms_core.specs.declared.steps.Step.{Step}
use Rattle.vms_core.specs.declared.steps.Step.TheVariants.{LoadD, Put, Miss, Take}
use Rattle.vms_core.specs.Common.{TellsGroup, counters_of, diff_at, eight_zeros, Meets, NamesEight, NameEight}
use Rattle.vms_core.specs.Common.{GroupsAreLists, found, found_after, pages, History, IsLegal, state_after}
use Rattle.vms_core.proofs.CellLemmas.{TellsGroup-cells}
use Rattle.vms_core.proofs.Effects.{group-within, group-cells}
use Rattle.vms_core.proofs.PeakBounds.{last_within-holds, peaks-in_range}
use Rattle.vms_core.proofs.Shapes.{HasShape-state_after}

-- what a caller found last has eight entries
abbrev HasEight : Option (List ℤ) → Type 0
HasEight None = Unit {0}
HasEight (Some values) = length values ≡ 8

HasEight-if : (b : Bool) (values : List ℤ) (before : Option (List ℤ)) → length values ≡ 8 → HasEight before
    → HasEight (if b then Some values else before)
HasEight-if true values before eight was = eight
HasEight-if false values before eight was = was

HasEight-after : (c : CpuId) (j : ℕ) (step : Step) (before : Option (List ℤ)) → NamesEight step → HasEight before
    → HasEight (found_after c j step before)
HasEight-after c j (LoadD d i w) before names was =
    HasEight-if (nat_eq d.number c.number && nat_eq i.number j) w.values before names was
HasEight-after c j (Miss i w) before names was =
    HasEight-if (nat_eq i.number j) eight_zeros before (length-replicate 8 (pos 0)) was
HasEight-after c j (Take d i w) before names was =
    HasEight-if (nat_eq d.number c.number && nat_eq i.number j) eight_zeros before (length-replicate 8 (pos 0)) was
HasEight-after c j (Put k w t delta how) before names was =
    HasEight-if (nat_eq (group_of k.number) j) _ before (length-set w.values (k.number % 8) _ ∙ names) was
HasEight-after c j _ before names was = was

found-has_eight : (c : CpuId) (j : ℕ) (h : History) → NameEight h → HasEight (found c j h)
found-has_eight c j [] names = tt
found-has_eight c j (e ∷ h) names = HasEight-after c j e.step (found c j h) names.0 (found-has_eight c j h names.1)

-- a step names what stands, and a miss what its caller found
NamesEight-step : (facts : Facts) (h : History) (s : State) (p : ℕ) (step : Step) → Meets facts h s p step
    → NameEight (own h p) → NamesEight step
NamesEight-step facts h s p (LoadD c j w) meets mine = meets.values.eight
NamesEight-step facts h s p (Put k w t delta how) meets mine = meets.values.eight
NamesEight-step facts h s p (Take c j w) meets mine = meets.values.eight
NamesEight-step facts h s p (Miss j w) meets mine =
    rw meets.as_found at (found-has_eight meets.cpu j.number (own h p) mine)
NamesEight-step facts h s p _ meets mine = tt

own-name_eight : (facts : Facts) (h : History) → IsLegal facts h → (p : ℕ) → NameEight (own h p)
own-name_eight facts =
    own-keeps pages facts NameEight tt (λ e h legal mine.
    (NamesEight-step facts h (state_after facts h) e.caller e.step legal.2 mine, mine))

pub NameEight-holds : (facts : Facts) (h : History) → IsLegal facts h → NameEight h
NameEight-holds facts [] legal = tt
NameEight-holds facts (e ∷ h) legal = (
  NamesEight-step facts h (state_after facts h) e.caller e.step legal.2 (own-name_eight facts h legal.0 e.caller),
  NameEight-holds facts h legal.0,
)

-- a list of eight differentials, none of which is larger than a threshold may be, is one of bytes
AreBytes-told : (s : State) (c j : ℕ) (values : List ℤ) → TellsGroup s c j values
    → ((i : ℕ) → i < 8 → unsigned_abs (diff_at s c (8 * j + i)) ≤ most_threshold) → AreBytes values
AreBytes-told s c j values told small k = ⊎_elim
    (λ (within : k < 8). rw (told.each k within) (byte (diff_at s c (8 * j + k)) (small k within)))
    (λ (past : 8 ≤ k). rw (get_or_past values k (pos 0) (rw told.eight past)) (byte (pos 0) (omega arith)))
    (cases_lt k 8)

pub group_is_list : (facts : Facts) (h : History) → IsLegal facts h → GroupsAreLists facts h
group_is_list facts h legal c j c_in j_in =
    let s = state_after facts h in
    let shaped = HasShape-state_after facts h legal in
    let known : (i : ℕ) → i < 8 → IsCounter facts.layout (8 * j + i) =
    λ i less. omega (arith, group-within (counter_count facts.layout) j j_in) in
    let told = TellsGroup-cells s c j (group-cells facts.layout s shaped c j c_in j_in) in
    let layout = (base_can_begin pages facts h legal).layout in
    let small : (i : ℕ) → i < 8 → unsigned_abs (diff_at s c (8 * j + i)) ≤ most_threshold = λ i less.
    let place = place_of facts.layout (8 * j + i) in
    let within = last_within-holds facts h legal c (8 * j + i) c_in (known i less) in
    let peak = peaks-in_range facts h legal c place c_in (place_of-lt facts.layout layout (8 * j + i) (known i less)) in
    omega (arith, within.differential, within.last, peak) in
    let values = take 8 (drop (cell (counters_of s) c (8 * j)) s.diff) in
    (record { values = values; bytes = AreBytes-told s c j values told small }, told)
