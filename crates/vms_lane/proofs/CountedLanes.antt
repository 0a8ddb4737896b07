-- For other crates too: the places of lanes, and the lines of each lane counted in them one after another.
use Rattle.std.proofs.Common.{◌≡◌, ℕ, suc, ◌+◌, ◌<◌, ◌≤◌, nat_eq, Bool, true, false, List, [], drop, length, eqb-true}
use Rattle.std.proofs.Common.{replicate, get_or, set, refl, sym, ap, subst, ◌∙◌, arith, if◌then◌else◌}
use Rattle.std.proofs.lemmas.Bool.Decides.{nat_tests}
use Rattle.std.specs.Prelude.{All}
use Rattle.std.proofs.lemmas.List.{length-set}
use Rattle.std.proofs.lemmas.List.Elements.{All-get_or}
use Rattle.std.proofs.Math.ListN.{length-replicate}
use Rattle.vms_world.specs.Common.{Header, Item, Lane, Cpu, Control, IsLaneOf, is_lane, lane_items, IsPhaseScript}
use Rattle.vms_history.proofs.Common.{get_or-set}
use Rattle.vms_core.proofs.Common.{get_or-copies}
use Rattle.vms_answers.specs.Common.{lane_place}
use Rattle.vms_file_order.proofs.Common.{is_lane-sym}
use Rattle.vms_script.proofs.Common.{IsLaneScript-of}
use Rattle.vms_lane.specs.Common.{AreCounted}
use Rattle.vms_lane.proofs.ScriptTurns.{lane_items-other, lane_items-own}

-- lanes are one exactly if their places are
pub lane_place-same : (l m : Lane) → nat_eq (lane_place l) (lane_place m) ≡ is_lane l m
lane_place-same (Cpu c) (Cpu d) = grind (arith, nat_tests)
lane_place-same (Cpu c) Control = grind (arith, nat_tests)
lane_place-same Control (Cpu d) = grind (arith, nat_tests)
lane_place-same Control Control = refl

-- each lane of a header has its place
pub place-below : (header : Header) (lane : Lane) (count : ℕ) → count ≡ suc header.layout.cpus → IsLaneOf header lane
    → lane_place lane < count
place-below header (Cpu c) count is known = omega (arith, is, known)
place-below header Control count is known = omega (arith, is)

-- the numbers so far, and the lines of each lane that are left, are all lines of the lane
pub record CountedSoFar (cpus : ℕ) (items left : List Item) (counts : List ℕ) : Type 0 where
  pub one_each : length counts ≡ suc cpus
  pub each : (lane : Lane) → get_or counts (lane_place lane) 0 + length (lane_items lane left)
      ≡ length (lane_items lane items)

-- before the first line
pub counted-none : (cpus : ℕ) (items : List Item) (counts : List ℕ) → counts ≡ replicate (cpus + 1) 0
    → CountedSoFar cpus items items counts
counted-none cpus items counts are = record {
  one_each = ap length are ∙ length-replicate (cpus + 1) 0 ∙ omega arith;
  each = λ lane.
      let zero = ap (λ (ns : List ℕ). get_or ns (lane_place lane) 0) are
      ∙ get_or-copies (cpus + 1) (lane_place lane) 0 in
      omega (arith, zero);
}

module _ (cpus n : ℕ) (items : List Item) (here : Item) (counts : List ℕ)
    (is : here ≡ get_or items n here) (inside : n < length items)
    (so_far : CountedSoFar cpus items (drop n items) counts) where
  abbrev rest : List Item
  rest = drop (n + 1) items

  -- a lane has at most as many lines as the script
  pub counted-few : IsPhaseScript items → get_or counts (lane_place here.lane) 0 ≤ 1000000
  counted-few script =
      let all = so_far.each here.lane in
      let few = (IsLaneScript-of here.lane items script).few in
      omega (arith, all, few)

  -- its lane has a place
  pub place-within : All (λ (item : Item). lane_place item.lane < suc cpus) items → (place : ℕ)
      → place ≡ lane_place here.lane → place < length counts
  place-within lanes place same =
      let below : lane_place here.lane < suc cpus =
      subst (λ (item : Item). lane_place item.lane < suc cpus) (sym is)
      (All-get_or (λ (item : Item). lane_place item.lane < suc cpus) items n here inside lanes) in
      omega (arith, same, below, so_far.one_each)

  -- one line more
  pub counted-next : (place : ℕ) → place ≡ lane_place here.lane → place < length counts
      → CountedSoFar cpus items rest (set counts place (get_or counts place 0 + 1))
  counted-next place same below = record {
    one_each = length-set counts place (get_or counts place 0 + 1) ∙ so_far.one_each;
    each = λ lane.
        by lane (is_lane lane here.lane) refl;
  }
    where
      set_is : (lane : Lane) → get_or (set counts place (get_or counts place 0 + 1)) (lane_place lane) 0
          ≡ (if is_lane lane here.lane then get_or counts place 0 + 1 else get_or counts (lane_place lane) 0)
      set_is lane =
          get_or-set counts place (lane_place lane) (get_or counts place 0 + 1) 0 below
          ∙ ap (λ (b : Bool). if b then get_or counts place 0 + 1 else get_or counts (lane_place lane) 0)
          (ap (λ (p : ℕ). nat_eq p (lane_place lane)) same ∙ lane_place-same here.lane lane
          ∙ is_lane-sym here.lane lane)

      by : (lane : Lane) (b : Bool) → is_lane lane here.lane ≡ b
          → get_or (set counts place (get_or counts place 0 + 1)) (lane_place lane) 0 + length (lane_items lane rest)
          ≡ length (lane_items lane items)
      by lane true own =
          let told = set_is lane
          ∙ ap (λ (b : Bool). if b then get_or counts place 0 + 1 else get_or counts (lane_place lane) 0) own in
          let at : get_or counts place 0 ≡ get_or counts (lane_place lane) 0 =
          ap (λ (p : ℕ). get_or counts p 0) (same ∙ sym (same-place lane own)) in
          let left = ap length (lane_items-own lane items n here is inside own) in
          omega (arith, told, at, left, so_far.each lane)
        where
          same-place : (l : Lane) → is_lane l here.lane ≡ true → lane_place l ≡ lane_place here.lane
          same-place l one = eqb-true (lane_place l) (lane_place here.lane) (lane_place-same l here.lane ∙ one)
      by lane false other =
          let told = set_is lane
          ∙ ap (λ (b : Bool). if b then get_or counts place 0 + 1 else get_or counts (lane_place lane) 0) other in
          let left = ap length (lane_items-other lane items n here is inside other) in
          omega (arith, told, left, so_far.each lane)

-- after the last line
pub counted-all : (cpus : ℕ) (items left : List Item) (counts : List ℕ) → left ≡ [] → IsPhaseScript items
    → CountedSoFar cpus items left counts → AreCounted counts items
counted-all cpus items left counts none script so_far = record {
  kept = script;
  each = λ lane.
      let end = ap (λ (is : List Item). length (lane_items lane is)) none in
      let all = so_far.each lane in
      omega (arith, end, all);
}
