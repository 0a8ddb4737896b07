-- The lines of a fold: of the groups of a place, of the places, and of the items.
use Rattle.std.proofs.Common.{◌≡◌, ◌≢◌, ℕ, zero, suc, ◌+◌, ◌-◌, ◌*◌, ◌/◌, ◌<◌, ◌≤◌, nat_lt, Bool, true, false, ℤ, pos}
use Rattle.std.proofs.Common.{negsuc, ◌+ℤ◌, List, [], ◌∷◌, ◌++◌, length, get_or, drop, Option, Some, refl, sym, ap}
use Rattle.std.proofs.Common.{subst, ◌∙◌, arith, append_assoc, append-nil, length-append}
use Rattle.std.specs.Prelude.{All}
use Rattle.std.proofs.Math.Nat.{mul-suc}
use Rattle.std.proofs.Math.Seq.{drop-cons}
use Rattle.std.proofs.lemmas.Bool.Decides.{nat_tests}
use Rattle.std.proofs.lemmas.Int.{ints}
use Rattle.std.proofs.lemmas.List.{drop_all, set-get_or}
use Rattle.std.proofs.lemmas.List.Elements.{All-append, All-cons, All-nil}
use Rattle.vms_calls.specs.Common.{AddG, AddS, CpuId, Diffs, FoundPlace, HasGroups, HasShape, IsCpu, IsGroup, IsItem}
use Rattle.vms_calls.specs.Common.{IsLayout, IsPlace, IsZone, LeadsOn, LoadT, SetA, Shape, State, Step, Take}
use Rattle.vms_calls.specs.Common.{TellsGroup, acknowledges, counter_at, counter_count, group_of, group_steps, in_turn}
use Rattle.vms_calls.specs.Common.{item_count, lists_of, place_count, place_steps, system_at, system_steps}
use Rattle.vms_calls.specs.Common.{taken_of_item, threshold_at, threshold_sets_at, to_place, to_system}
use Rattle.vms_calls.specs.Common.{with_acknowledged, with_group_zeroed, with_system}
use Rattle.vms_history.proofs.Common.{LeadsOn-append}
use Rattle.vms_plain_pages.specs.Common.{AddsSums, effect_by, pages_by_state, sum_at}
use Rattle.vms_plain_pages.proofs.FoldedGroups.{FoldsGroups-append, FoldsGroups-none, in_turn-append}
use Rattle.vms_plain_pages.proofs.FoldedGroups.{taken_of_item-append}
use Rattle.vms_plain_pages.proofs.FoldedPlaces.{FoldsCpu-whole, FoldsPlace-acknowledged, FoldsPlace-plain, FoldsPlaces}
use Rattle.vms_plain_pages.proofs.FoldedPlaces.{FoldsPlaces-more, FoldsPlaces-none, first_group}
use Rattle.vms_plain_pages.proofs.TakenGroups.{AddsEntries, FoldsGroups-one}
use Rattle.vms_written_lines.specs.Spelling.{event_line}
use Rattle.vms_written_lines.specs.WideSteps.{widened}
use Rattle.vms_call_lines.specs.Folds.{WritesFold, WritesGroups, WritesPlace, WritesSums}
use Rattle.vms_rating_lines.specs.Lines.{step_lines}
use Rattle.vms_rating_lines.proofs.Common.{lines-append}

-- an addition of 0 leaves a system-wide value
pub with_system-nothing : (s : State) (i : ℕ) (z : ℤ) → z ≡ pos 0 → with_system s i (system_at s i +ℤ z) ≡ s
with_system-nothing s i z none =
    let same : system_at s i +ℤ z ≡ system_at s i = omega (arith, ints) in
    rw (same, set-get_or s.system i (pos 0)) refl

-- lines after lines, and the line of one step
pub lines-both : (p : ℕ) (first second : List Step) (out between out' : List ℕ)
    → between ≡ out ++ step_lines p first → out' ≡ between ++ step_lines p second
    → out' ≡ out ++ step_lines p (first ++ second)
lines-both p first second out between out' one two =
    two ∙ ap (λ ys. ys ++ step_lines p second) one ∙ append_assoc out (step_lines p first) (step_lines p second)
    ∙ ap (λ ys. out ++ ys) (sym (lines-append p first second))

pub lines-one : (p : ℕ) (step : Step) (out out' : List ℕ) → out' ≡ out ++ event_line p (widened step)
    → out' ≡ out ++ step_lines p (step ∷ [])
lines-one p step out out' line = line ∙ ap (λ ys. out ++ ys) (sym (append-nil (event_line p (widened step))))

pub lines-none : (p : ℕ) (out : List ℕ) → out ≡ out ++ step_lines p []
lines-none p out = sym (append-nil out)

-- an addition of 0 has no line, and any other has one
to_place-some : (k : ℕ) (z : ℤ) → z ≢ pos 0 → to_place k z ≡ AddG (record { number = k }) z ∷ []
to_place-some k (pos zero) some = absurd (some refl)
to_place-some k (pos (suc n)) some = refl
to_place-some k (negsuc n) some = refl

to_system-some : (i : ℕ) (z : ℤ) → z ≢ pos 0 → to_system i z ≡ AddS (record { number = i }) z ∷ []
to_system-some i (pos zero) some = absurd (some refl)
to_system-some i (pos (suc n)) some = refl
to_system-some i (negsuc n) some = refl

module _ (p : ℕ) (out out' : List ℕ) (n : ℕ) (z : ℤ) where
  pub place-none : z ≡ pos 0 → out ≡ out ++ step_lines p (to_place n z)
  place-none none = subst (λ (x : ℤ). out ≡ out ++ step_lines p (to_place n x)) (sym none) (lines-none p out)

  pub system-none : z ≡ pos 0 → out ≡ out ++ step_lines p (to_system n z)
  system-none none = subst (λ (x : ℤ). out ≡ out ++ step_lines p (to_system n x)) (sym none) (lines-none p out)

  pub place-line : z ≢ pos 0 → out' ≡ out ++ event_line p (widened (AddG (record { number = n }) z))
      → out' ≡ out ++ step_lines p (to_place n z)
  place-line some line = subst (λ (xs : List Step). out' ≡ out ++ step_lines p xs) (sym (to_place-some n z some))
      (lines-one p (AddG (record { number = n }) z) out out' line)

  pub system-line : z ≢ pos 0 → out' ≡ out ++ event_line p (widened (AddS (record { number = n }) z))
      → out' ≡ out ++ step_lines p (to_system n z)
  system-line some line = subst (λ (xs : List Step). out' ≡ out ++ step_lines p xs) (sym (to_system-some n z some))
      (lines-one p (AddS (record { number = n }) z) out out' line)

-- the lines of the first steps of some are written: with those of the steps that are left they are the lines of all
abbrev pub LeavesLines : ℕ → (begun out : List ℕ) (steps left : List Step) → Type 0
LeavesLines p begun out steps left = begun ++ step_lines p steps ≡ out ++ step_lines p left

pub leaves-next : (p : ℕ) (begun out out' : List ℕ) (steps first left : List Step)
    → LeavesLines p begun out steps (first ++ left) → out' ≡ out ++ step_lines p first
    → LeavesLines p begun out' steps left
leaves-next p begun out out' steps first left leaves line =
    leaves ∙ ap (λ ys. out ++ ys) (lines-append p first left)
    ∙ sym (append_assoc out (step_lines p first) (step_lines p left)) ∙ ap (λ ys. ys ++ step_lines p left) (sym line)

pub leaves-all : (p : ℕ) (begun out : List ℕ) (steps : List Step) → LeavesLines p begun out steps []
    → out ≡ begun ++ step_lines p steps
leaves-all p begun out steps leaves = lines-none p out ∙ sym leaves

-- the entries of a group
module _ (p j : ℕ) (values : List ℤ) (begun : List ℕ) where
  abbrev pub EntriesLeft : ℕ → List ℕ → Type 0
  EntriesLeft n out =
      LeavesLines p begun out (in_turn to_place (8 * j) values) (in_turn to_place (8 * j + n) (drop n values))

  pub entries-none : EntriesLeft 0 begun
  entries-none =
      let at : 8 * j + 0 ≡ 8 * j = omega arith in
      ap (λ (k : ℕ). begun ++ step_lines p (in_turn to_place k values)) (sym at)

  pub entries-next : (n : ℕ) (out out' : List ℕ) → n < length values → EntriesLeft n out
      → out' ≡ out ++ step_lines p (to_place (8 * j + n) (get_or values n (pos 0))) → EntriesLeft (n + 1) out'
  entries-next n out out' less leaves line =
      let at : suc (8 * j + n) ≡ 8 * j + (n + 1) = omega arith in
      let step : suc n ≡ n + 1 = omega arith in
      let z = get_or values n (pos 0) in
      leaves-next p begun out out' (in_turn to_place (8 * j) values) (to_place (8 * j + n) z)
      (in_turn to_place (8 * j + (n + 1)) (drop (n + 1) values))
      (leaves ∙ ap (λ zs. out ++ step_lines p (in_turn to_place (8 * j + n) zs)) (drop-cons values n (pos 0) less)
      ∙ ap (λ (k : ℕ). out ++ step_lines p (to_place (8 * j + n) z ++ in_turn to_place k (drop (suc n) values))) at
      ∙ ap (λ (m : ℕ). out ++ step_lines p (to_place (8 * j + n) z ++ in_turn to_place (8 * j + (n + 1)) (drop m values)))
      step) line

  pub entries-all : (out : List ℕ) → length values ≡ 8 → EntriesLeft 8 out
      → out ≡ begun ++ step_lines p (in_turn to_place (8 * j) values)
  entries-all out eight leaves =
      leaves-all p begun out (in_turn to_place (8 * j) values)
      (leaves ∙ ap (λ zs. out ++ step_lines p (in_turn to_place (8 * j + 8) zs))
      (drop_all 8 values (omega (arith, eight))))

-- one group
pub writes-group : (shape : Shape) (layout : IsLayout shape) (c : CpuId) (j : ℕ) (c_in : IsCpu shape c.number)
    (j_in : IsGroup shape j) (s : State) (shaped : HasShape shape s) (w : Diffs) (told : TellsGroup s c.number j w.values)
    (next : State) (before after : List ℤ) (p : ℕ) (out begun out' : List ℕ)
    → AddsEntries shape j w.values (with_group_zeroed s c.number j) before 8 next after
    → begun ≡ out ++ event_line p (widened (Take c (record { number = j }) w)) → EntriesLeft p j w.values begun 8 out'
    → WritesGroups shape c j 1 p s next before after out out'
writes-group shape layout c j c_in j_in s shaped w told next before after p out begun out' adds taken leaves =
    let folds = FoldsGroups-one shape layout c j c_in j_in s shaped w told next before after adds in
    record {
      folds = record {
        groups = w ∷ [];
        one_each = refl;
        eight_each = All-cons (λ v. length v.values ≡ 8) w [] told.eight (All-nil (λ v. length v.values ≡ 8));
        leads = λ who. LeadsOn-append pages_by_state who (group_steps c j w) [] s next next (
          told,
          adds.leads who next
              (subst (λ zs. LeadsOn pages_by_state who (in_turn to_place (8 * j + 8) zs) next next)
              (sym (drop_all 8 w.values (omega (arith, told.eight)))) refl),
        ) refl;
        counters = folds.counters;
        taken = λ i. omega (arith, ints, adds.summed i);
        acknowledged = folds.acknowledged;
      };
      lines = lines-both p (group_steps c j w) [] out out' out'
          (lines-both p (Take c (record { number = j }) w ∷ []) (in_turn to_place (8 * j) w.values) out begun out'
          (lines-one p (Take c (record { number = j }) w) out begun taken)
          (entries-all p j w.values begun out' told.eight leaves)) (lines-none p out');
    }

-- groups one after another
module _ (shape : Shape) (c : CpuId) (p : ℕ) where
  pub writes-no_group : (j : ℕ) (s : State) (sums : List ℤ) (out : List ℕ) → HasShape shape s
      → WritesGroups shape c j 0 p s s sums sums out out
  writes-no_group j s sums out shaped = record {
    folds = record {
      groups = [];
      one_each = refl;
      eight_each = All-nil (λ w. length w.values ≡ 8);
      leads = λ who. refl;
      counters = (FoldsGroups-none shape c j s sums shaped).counters;
      taken = λ i. omega (arith, ints);
      acknowledged = refl;
    };
    lines = lines-none p out;
  }

  pub writes-groups : IsCpu shape c.number → (j n m : ℕ) → 8 * j + (8 * n + 8 * m) ≤ counter_count shape
      → (s mid next : State) (before between after : List ℤ) (out now out' : List ℕ)
      → WritesGroups shape c j n p s mid before between out now
      → WritesGroups shape c (j + n) m p mid next between after now out'
      → WritesGroups shape c j (n + m) p s next before after out out'
  writes-groups c_in j n m within s mid next before between after out now out' one two =
      let first = one.folds in
      let second = two.folds in
      let whole = FoldsGroups-append shape c c_in j n m within s mid next before between after first second in
      let at = ap (λ l. j + l) first.one_each in
      record {
        folds = record {
          groups = first.groups ++ second.groups;
          one_each = omega (arith, length-append first.groups second.groups, first.one_each, second.one_each);
          eight_each = All-append (λ w. length w.values ≡ 8) first.groups second.groups first.eight_each
              second.eight_each;
          leads = λ who. subst (λ ks. LeadsOn pages_by_state who ks s next)
              (sym (in_turn-append (group_steps c) j first.groups second.groups))
              (LeadsOn-append pages_by_state who (in_turn (group_steps c) j first.groups)
              (in_turn (group_steps c) (j + length first.groups) second.groups) s mid next (first.leads who)
              (subst (λ l. LeadsOn pages_by_state who (in_turn (group_steps c) l second.groups) mid next)
              (sym at) (second.leads who)));
          counters = whole.counters;
          taken = λ i. omega (
            arith,
            ints,
            first.taken i,
            second.taken i,
            taken_of_item-append shape i j first.groups second.groups,
            ap (λ l. taken_of_item shape i l second.groups) at,
          );
          acknowledged = whole.acknowledged;
        };
        lines = subst (λ ks. out' ≡ out ++ step_lines p ks)
            (sym (in_turn-append (group_steps c) j first.groups second.groups))
            (lines-both p (in_turn (group_steps c) j first.groups)
            (in_turn (group_steps c) (j + length first.groups) second.groups) out now out' one.lines
            (subst (λ l. out' ≡ now ++ step_lines p (in_turn (group_steps c) l second.groups)) (sym at) two.lines));
      }

-- a place whose groups are taken, with or without an acknowledgement
module _ (shape : Shape) (layout : IsLayout shape) (is_own : Bool) (c : CpuId) (c_in : IsCpu shape c.number) (g p : ℕ)
    (s mid : State) (shaped : HasShape shape s) (before after : List ℤ) (now now' : List ℕ)
    (writes : WritesGroups shape c (group_of (counter_at shape g 0)) (shape.positions / 8) p s mid before after now now')
  where
    pub writes-plain : acknowledges shape is_own g ≡ false
        → WritesPlace shape is_own c g p s mid before after now now'
    writes-plain none =
        let folds = writes.folds in
        let place = FoldsPlace-plain shape layout is_own c c_in g s mid shaped before after folds none in
        let found : FoundPlace = record { threshold = record { t = 0; number = 0 }; groups = folds.groups } in
        record {
          folds = record {
            found = found;
            groups = record { one_each = folds.one_each; eight_each = folds.eight_each };
            leads = λ who own. subst (λ b. LeadsOn pages_by_state who (place_steps shape b c g found) s mid) (sym none)
                (folds.leads who);
            counters = place.counters;
            taken = folds.taken;
            acknowledged = place.acknowledged;
          };
          lines = subst (λ b. now' ≡ now ++ step_lines p (place_steps shape b c g found)) (sym none) writes.lines;
        }

    module _ (own : is_own ≡ true) (g_in : IsZone shape g) (t number : ℕ) (t_is : threshold_at s c.number g ≡ t)
        (number_is : threshold_sets_at s c.number g ≡ number) (out out' : List ℕ)
        (loaded : now ≡ out ++ event_line p (widened (LoadT (record { number = g }) t number)))
        (set : out' ≡ now' ++ event_line p (widened (SetA (record { number = g }) number))) where
      abbrev next : State
      next = with_acknowledged mid c.number g number

      abbrev found : FoundPlace
      found = record { threshold = record { t = t; number = number }; groups = writes.folds.groups }

      abbrev taking : List Step
      taking = in_turn (group_steps c) (group_of (counter_at shape g 0)) writes.folds.groups

      zone : acknowledges shape is_own g ≡ true
      zone = let is_zone : nat_lt g (length shape.zones) ≡ true = grind (arith, nat_tests) in rw (own, is_zone) refl

      place-leads : (who : Option CpuId) → who ≡ Some c
          → LeadsOn pages_by_state who (place_steps shape true c g found) s next
      place-leads who is = (
        λ (d : CpuId) (owns : who ≡ Some d).
            let same : c ≡ d = cc in
            subst (λ (e : CpuId). (threshold_at s e.number g ≡ t) × (threshold_sets_at s e.number g ≡ number)) same
            (t_is, number_is),
        LeadsOn-append pages_by_state who taking (SetA (record { number = g }) number ∷ []) s mid next
            (writes.folds.leads who) (tt, ap (λ (o : Option CpuId). effect_by o (SetA (record { number = g }) number) mid) is),
      )

      pub writes-acknowledged : WritesPlace shape is_own c g p s next before after out out'
      writes-acknowledged =
          let folds = writes.folds in
          let place = FoldsPlace-acknowledged shape layout is_own c c_in g s mid shaped before after folds own g_in t number
          t_is number_is in
          record {
            folds = record {
              found = found;
              groups = record { one_each = folds.one_each; eight_each = folds.eight_each };
              leads = λ who owns. subst (λ b. LeadsOn pages_by_state who (place_steps shape b c g found) s next) (sym zone)
                  (place-leads who (owns own));
              counters = place.counters;
              taken = folds.taken;
              acknowledged = place.acknowledged;
            };
            lines = subst (λ b. out' ≡ out ++ step_lines p (place_steps shape b c g found)) (sym zone)
                (lines-both p (LoadT (record { number = g }) t number ∷ []) (taking ++ (SetA (record { number = g }) number ∷ []))
                out now out' (lines-one p (LoadT (record { number = g }) t number) out now loaded)
                (lines-both p taking (SetA (record { number = g }) number ∷ []) now now' out' writes.lines
                (lines-one p (SetA (record { number = g }) number) now' out' set)));
          }

lists_of-append : (xs ys : List FoundPlace) → lists_of (xs ++ ys) ≡ lists_of xs ++ lists_of ys
lists_of-append [] ys = refl
lists_of-append (x ∷ xs) ys =
    ap (λ ws. x.groups ++ ws) (lists_of-append xs ys) ∙ sym (append_assoc x.groups (lists_of xs) (lists_of ys))

length-lists_of : (shape : Shape) (xs : List FoundPlace) → All (HasGroups shape) xs
    → length (lists_of xs) ≡ shape.positions / 8 * length xs
length-lists_of shape [] has = let none : shape.positions / 8 * 0 ≡ 0 = omega arith in sym none
length-lists_of shape (x ∷ xs) has =
    let more : shape.positions / 8 * suc (length xs) ≡ shape.positions / 8 * length xs + shape.positions / 8 =
    mul-suc (shape.positions / 8) (length xs) in
    let here = has 0 x (omega arith) in
    omega (
      arith,
      length-append x.groups (lists_of xs),
      here.one_each,
      length-lists_of shape xs (λ n d less. has (suc n) d (omega arith)),
      more,
    )

-- the places below n are visited
module _ (shape : Shape) (is_own : Bool) (c : CpuId) (p : ℕ) where
  abbrev steps_at : ℕ → FoundPlace → List Step
  steps_at g found = place_steps shape (acknowledges shape is_own g) c g found

  pub record WritesPlaces (n : ℕ) (s next : State) (before after : List ℤ) (out out' : List ℕ) : Type 0 where
    pub folds : FoldsPlaces shape is_own c n s next before after
    pub lines : out' ≡ out ++ step_lines p (in_turn steps_at 0 folds.places)

  pub writes-no_place : (s : State) (sums : List ℤ) (out : List ℕ) → HasShape shape s
      → WritesPlaces 0 s s sums sums out out
  writes-no_place s sums out shaped =
      let none = FoldsPlaces-none shape is_own c s sums shaped in
      record {
        folds = record {
          places = [];
          one_each = refl;
          groups = All-nil (HasGroups shape);
          leads = λ who owns. refl;
          counters = none.counters;
          taken = λ i. omega (arith, ints);
          acknowledged = none.acknowledged;
        };
        lines = lines-none p out;
      }

  module _ (layout : IsLayout shape) (c_in : IsCpu shape c.number) (n : ℕ) (n_in : IsPlace shape n) (s mid next : State)
      (before between after : List ℤ) (out now out' : List ℕ) (one : WritesPlaces n s mid before between out now)
      (two : WritesPlace shape is_own c n p mid next between after now out') where
    abbrev places : List FoundPlace
    places = one.folds.places ++ (two.folds.found ∷ [])

    more-taken : (i : ℕ) → sum_at after i ≡ sum_at before i +ℤ taken_of_item shape i 0 (lists_of places)
    more-taken i =
        let first = one.folds in
        let second = two.folds in
        let lists : lists_of places ≡ lists_of first.places ++ second.found.groups =
        lists_of-append first.places (second.found ∷ [])
        ∙ ap (λ ws. lists_of first.places ++ ws) (append-nil second.found.groups) in
        let at : 0 + length (lists_of first.places) ≡ group_of (counter_at shape n 0) =
        omega (
          arith,
          length-lists_of shape first.places first.groups,
          ap (λ m. shape.positions / 8 * m) first.one_each,
          first_group shape layout n,
        ) in
        omega (
          arith,
          ints,
          first.taken i,
          second.taken i,
          ap (taken_of_item shape i 0) lists,
          taken_of_item-append shape i 0 (lists_of first.places) second.found.groups,
          ap (λ j. taken_of_item shape i j second.found.groups) at,
        )

    at_place : n ≡ 0 + length one.folds.places
    at_place = omega (arith, one.folds.one_each)

    in_order : in_turn steps_at 0 places ≡ in_turn steps_at 0 one.folds.places ++ steps_at n two.folds.found
    in_order =
        in_turn-append steps_at 0 one.folds.places (two.folds.found ∷ [])
        ∙ ap (λ ks. in_turn steps_at 0 one.folds.places ++ ks)
        (append-nil (steps_at (0 + length one.folds.places) two.folds.found))
        ∙ ap (λ g. in_turn steps_at 0 one.folds.places ++ steps_at g two.folds.found) (sym at_place)

    pub writes-places : WritesPlaces (n + 1) s next before after out out'
    writes-places =
        let first = one.folds in
        let second = two.folds in
        let whole =
        FoldsPlaces-more shape is_own c layout c_in n n_in s mid next before between after first second in
        record {
          folds = record {
            places = places;
            one_each = omega (arith, length-append first.places (second.found ∷ []), first.one_each);
            groups = All-append (HasGroups shape) first.places (second.found ∷ []) first.groups
                (All-cons (HasGroups shape) second.found [] second.groups (All-nil (HasGroups shape)));
            leads = λ who owns. subst (λ ks. LeadsOn pages_by_state who ks s next) (sym in_order)
                (LeadsOn-append pages_by_state who (in_turn steps_at 0 first.places) (steps_at n second.found) s mid next
                (first.leads who owns) (second.leads who owns));
            counters = whole.counters;
            taken = more-taken;
            acknowledged = whole.acknowledged;
          };
          lines = subst (λ ks. out' ≡ out ++ step_lines p ks) (sym in_order)
              (lines-both p (in_turn steps_at 0 first.places) (steps_at n second.found) out now out' one.lines two.lines);
        }

  -- all places are visited, and the sums are added
  pub writes-fold : (s mid next : State) (zeros sums : List ℤ) (out now out' : List ℕ)
      → ((i : ℕ) → sum_at zeros i ≡ pos 0) → WritesPlaces (place_count shape) s mid zeros sums out now
      → WritesSums shape sums p mid next now out' → WritesFold shape is_own c p s next out out'
  writes-fold s mid next zeros sums out now out' none visits adds =
      let places = visits.folds.places in
      let settling = system_steps shape (lists_of places) 0 (item_count shape) in
      let taken : (i : ℕ) → IsItem shape i → taken_of_item shape i 0 (lists_of places) ≡ sum_at sums i =
      λ i i_in. omega (arith, ints, visits.folds.taken i, none i) in
      record {
        folds = FoldsCpu-whole shape is_own c s mid next zeros sums none visits.folds adds.adds;
        steps = in_turn steps_at 0 places ++ settling;
        made = record {
          places = places;
          one_each = visits.folds.one_each;
          groups = visits.folds.groups;
          in_order = refl;
        };
        leads = λ who owns. LeadsOn-append pages_by_state who (in_turn steps_at 0 places) settling s mid next
            (visits.folds.leads who owns) (adds.adds.leads who (lists_of places) taken);
        lines = lines-both p (in_turn steps_at 0 places) settling out now out' visits.lines
            (adds.lines (lists_of places) taken);
      }

-- the sums of the items
module _ (shape : Shape) (sums : List ℤ) (p : ℕ) (begun : List ℕ) where
  -- the lines of the items from n on are left, where the sums are what was taken
  abbrev pub SumsLeft : ℕ → List ℕ → Type 0
  SumsLeft n out = (groups : List Diffs)
      → ((i : ℕ) → IsItem shape i → taken_of_item shape i 0 groups ≡ sum_at sums i)
      → LeavesLines p begun out (system_steps shape groups 0 (item_count shape))
      (system_steps shape groups n (item_count shape - n))

  pub sums-none : SumsLeft 0 begun
  sums-none groups taken =
      let all : item_count shape ≡ item_count shape - 0 = omega arith in
      ap (λ (m : ℕ). begun ++ step_lines p (system_steps shape groups 0 m)) all

  pub sums-next : (n : ℕ) (out out' : List ℕ) → IsItem shape n → SumsLeft n out
      → out' ≡ out ++ step_lines p (to_system n (sum_at sums n)) → SumsLeft (n + 1) out'
  sums-next n out out' n_in leaves line groups taken =
      let left : item_count shape - n ≡ suc (item_count shape - (n + 1)) = omega arith in
      let step : suc n ≡ n + 1 = omega arith in
      let rest = item_count shape - (n + 1) in
      leaves-next p begun out out' (system_steps shape groups 0 (item_count shape)) (to_system n (sum_at sums n))
      (system_steps shape groups (n + 1) rest)
      (leaves groups taken ∙ ap (λ (m : ℕ). out ++ step_lines p (system_steps shape groups n m)) left
      ∙ ap (λ (z : ℤ). out ++ step_lines p (to_system n z ++ system_steps shape groups (suc n) rest)) (taken n n_in)
      ∙ ap (λ (q : ℕ). out ++ step_lines p (to_system n (sum_at sums n) ++ system_steps shape groups q rest)) step) line

  pub sums-all : (s next : State) (out : List ℕ) → AddsSums shape sums s next → SumsLeft (item_count shape) out
      → WritesSums shape sums p s next begun out
  sums-all s next out adds leaves = record {
    adds = adds;
    lines = λ groups taken. leaves-all p begun out (system_steps shape groups 0 (item_count shape))
        (leaves groups taken
        ∙ ap (λ (m : ℕ). out ++ step_lines p (system_steps shape groups (item_count shape) m))
        (let none : item_count shape - item_count shape ≡ 0 = omega arith in none));
  }
