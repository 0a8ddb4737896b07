-- The values of lines, in the order of the lines, are taken from what each lane found.
use Rattle.std.proofs.Common.{◌≡◌, ℕ, suc, ◌+◌, ◌<◌, ◌≤◌, nat_eq, Bool, true, false, cond, List, [], ◌∷◌, ◌++◌, length}
use Rattle.std.proofs.Common.{take, get_or, set, refl, sym, ap, ◌∙◌, subst, arith, if◌then◌else◌, append_assoc}
use Rattle.std.proofs.Common.{append-nil, All, ℤ, pos, eqb-true}
use Rattle.std.proofs.lemmas.List.{length-set}
use Rattle.std.proofs.lemmas.List.Elements.{All-get_or}
use Rattle.vms_history.proofs.Common.{get_or-set}
use Rattle.vms_group_core.specs.declared.call_values.GroupCall.{GroupCall}
use Rattle.vms_group_core.specs.declared.call_values.GroupCall.TheVariants.{Change, Flush, Value}
use Rattle.vms_group_phase.specs.declared.items.GroupItem.{GroupItem}
use Rattle.vms_group_phase.specs.declared.items.NumberedValue.{NumberedValue}
use Rattle.vms_group_phase.specs.declared.lanes.LaneValues.{LaneValues}
use Rattle.vms_group_phase.specs.Common.{asking, asks, lane_lines, taken_after, taken_by_line, values_of}
use Rattle.vms_group_phase.proofs.LaneLines.{ask-left, asks-more, take-line}

-- of each lane as many values were taken as lines of it ask among these, and these are the values of these lines
pub record AreTaken (lanes : List LaneValues) (lines : List GroupItem) (counts : List ℕ)
    (values : List NumberedValue) : Type 0 where
  pub one_each : length counts ≡ length lanes
  pub taken : (c : ℕ) → c < length lanes → get_or counts c 0 ≡ length (asking (lane_lines c lines))
  pub values_are : values ≡ taken_after (values_of lanes) [] lines

-- one line more
values-push : (values : ℕ → List ℤ) (above lines : List GroupItem) (item : GroupItem)
    → taken_after values above (lines ++ item ∷ [])
    ≡ taken_after values above lines ++ taken_by_line values (above ++ lines) item item.call
values-push values above [] item =
    append-nil (taken_by_line values above item item.call)
    ∙ ap (λ (list : List GroupItem). taken_by_line values list item item.call) (sym (append-nil above))
values-push values above (line ∷ lines) item =
    ap (λ vs. taken_by_line values above line line.call ++ vs)
    (values-push values (above ++ line ∷ []) lines item
    ∙ ap (λ (list : List GroupItem). taken_after values (above ++ line ∷ []) lines
    ++ taken_by_line values list item item.call) (append_assoc above (line ∷ []) lines))
    ∙ sym (append_assoc (taken_by_line values above line line.call)
    (taken_after values (above ++ line ∷ []) lines)
    (taken_by_line values (above ++ (line ∷ lines)) item item.call))

module _ (lanes : List LaneValues) (items : List GroupItem) (n : ℕ) (item : GroupItem) (counts : List ℕ)
    (values : List NumberedValue) (below : n < length items) (is : item ≡ get_or items n item)
    (taken : AreTaken lanes (take n items) counts values) where
  pub line-known : All (λ (line : GroupItem). line.cpu.number < length lanes) items
      → item.cpu.number < length lanes
  line-known cpus =
      subst (λ (line : GroupItem). line.cpu.number < length lanes) (sym is)
      (All-get_or (λ (line : GroupItem). line.cpu.number < length lanes) items n item below cpus)

  -- there is a value for the line, if it asks for one
  pub value-left : (g : ℕ) → item.call ≡ Value g → All (λ (line : GroupItem). line.cpu.number < length lanes) items
      → All (λ (line : GroupItem). length (asking (lane_lines line.cpu.number items))
      ≤ length (values_of lanes line.cpu.number)) items
      → get_or counts item.cpu.number 0 < length (values_of lanes item.cpu.number)
  value-left g call cpus enough =
      let known = line-known cpus in
      let most : length (asking (lane_lines item.cpu.number items)) ≤ length (values_of lanes item.cpu.number) =
      subst (λ (line : GroupItem). length (asking (lane_lines line.cpu.number items))
      ≤ length (values_of lanes line.cpu.number)) (sym is)
      (All-get_or (λ (line : GroupItem). length (asking (lane_lines line.cpu.number items))
      ≤ length (values_of lanes line.cpu.number)) items n item below enough) in
      omega (
        arith,
        taken.taken item.cpu.number known,
        ask-left n items item below is (ap asks call),
        most,
      )

  values-then : (more all : List NumberedValue)
      → more ≡ taken_by_line (values_of lanes) (take n items) item item.call → all ≡ values ++ more
      → all ≡ taken_after (values_of lanes) [] (take (n + 1) items)
  values-then more all told pushed =
      pushed ∙ ap (λ vs. vs ++ more) taken.values_are
      ∙ ap (λ vs. taken_after (values_of lanes) [] (take n items) ++ vs) told
      ∙ sym (values-push (values_of lanes) [] (take n items) item)
      ∙ ap (taken_after (values_of lanes) []) (sym (take-line items n item below is))

  -- a line that asks is told the next value of its lane
  pub taken-value : (grown : List ℕ) (g : ℕ) (v : ℤ) (all : List NumberedValue)
      → All (λ (line : GroupItem). line.cpu.number < length lanes) items
      → grown ≡ set counts item.cpu.number (suc (get_or counts item.cpu.number 0))
      → v ≡ get_or (values_of lanes item.cpu.number) (get_or counts item.cpu.number 0) (pos 0)
      → item.call ≡ Value g → all ≡ values ++ record { number = item.number; value = v } ∷ []
      → AreTaken lanes (take (n + 1) items) grown all
  taken-value grown g v all cpus counted found call pushed =
      let known = line-known cpus in
      let entry : ℤ → NumberedValue = λ w. record { number = item.number; value = w } in
      record {
        one_each = ap length counted ∙ length-set counts item.cpu.number (suc (get_or counts item.cpu.number 0))
            ∙ taken.one_each;
        taken = λ c c_in.
            ap (λ list. get_or list c 0) counted
            ∙ get_or-set counts item.cpu.number c (suc (get_or counts item.cpu.number 0)) 0
            (omega (arith, known, taken.one_each))
            ∙ by c c_in (nat_eq item.cpu.number c) refl
            ∙ sym (asks-more c n items item below is
            ∙ ap (λ (b : Bool). length (asking (lane_lines c (take n items)))
            + cond (nat_eq item.cpu.number c) (cond b 1 0) 0) (ap asks call));
        values_are = values-then (entry v ∷ []) all
            (ap (λ w. entry w ∷ []) (found
            ∙ ap (λ k. get_or (values_of lanes item.cpu.number) k (pos 0)) (taken.taken item.cpu.number known))
            ∙ sym (ap (taken_by_line (values_of lanes) (take n items) item) call)) pushed;
      }
    where
      by : (c : ℕ) → c < length lanes → (b : Bool) → nat_eq item.cpu.number c ≡ b
          → (if b then suc (get_or counts item.cpu.number 0) else get_or counts c 0)
          ≡ length (asking (lane_lines c (take n items))) + cond b 1 0
      by c c_in true same =
          let there = ap (λ d. get_or counts d 0) (eqb-true item.cpu.number c same) in
          omega (arith, there, taken.taken c c_in)
      by c c_in false differ = omega (arith, taken.taken c c_in)

  -- one that doesn't ask takes none
  pub taken-other : ((g : ℕ) → item.call ≡ Value g → ⊥) → AreTaken lanes (take (n + 1) items) counts values
  taken-other other = record {
    one_each = taken.one_each;
    taken = λ c c_in.
        let more = asks-more c n items item below is
        ∙ ap (λ (b : Bool). length (asking (lane_lines c (take n items)))
        + cond (nat_eq item.cpu.number c) (cond b 1 0) 0) (asks-none item.call other) in
        by c (nat_eq item.cpu.number c) more (taken.taken c c_in);
    values_are = values-then [] values (sym (told-none item.call other)) (sym (append-nil values));
  }
    where
      asks-none : (call : GroupCall) → ((g : ℕ) → call ≡ Value g → ⊥) → asks call ≡ false
      asks-none (Value g) never = absurd (never g refl)
      asks-none (Change g a) never = refl
      asks-none (Flush g) never = refl

      told-none : (call : GroupCall) → ((g : ℕ) → call ≡ Value g → ⊥)
          → taken_by_line (values_of lanes) (take n items) item call ≡ []
      told-none (Value g) never = absurd (never g refl)
      told-none (Change g a) never = refl
      told-none (Flush g) never = refl

      by : (c : ℕ) (b : Bool)
          → length (asking (lane_lines c (take (n + 1) items)))
          ≡ length (asking (lane_lines c (take n items))) + cond b 0 0
          → get_or counts c 0 ≡ length (asking (lane_lines c (take n items)))
          → get_or counts c 0 ≡ length (asking (lane_lines c (take (n + 1) items)))
      by c true more was = omega (arith, more, was)
      by c false more was = omega (arith, more, was)
