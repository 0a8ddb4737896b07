-- What the lines of each lane answered, put into the lane's place.
use Rattle.std.proofs.Common.{◌≡◌, ℕ, zero, suc, ◌<◌, Bool, true, false, List, [], ◌∷◌, ◌++◌, map, length, get_or, set}
use Rattle.std.proofs.Common.{refl, sym, ap, subst, ◌∙◌, arith, ◌≤◌, append_assoc, append-nil, if◌then◌else◌, Some}
use Rattle.std.proofs.lemmas.List.{length-map, length-set, map-append, map-set}
use Rattle.std.proofs.lemmas.List.Elements.{All-append, All-cons, All-head, All-nil, All-pop, All-tail, All-weaker}
use Rattle.std.specs.Prelude.{All}
use Rattle.vms_world.specs.Common.{Header, Item, Lane, Cpu, Control, IsLaneOf, is_lane, has_line, lanes_below, lanes_of}
use Rattle.vms_history.proofs.Common.{get_or-set}
use Rattle.vms_answers.specs.Common.{NumberedAnswer, answer_of_kept, HasPlace, lane_place, told_by, told_in}
use Rattle.vms_answers.specs.declared.lane_answers.LaneAnswers.{LaneAnswers}
use Rattle.vms_lane.proofs.Common.{lane_place-same, place-below}
use Rattle.vms_phase.specs.declared.lane_joins.JoinedLane.{JoinedLane}
use Rattle.vms_phase.specs.Common.{told_of}

-- a lane that has its place among so many
pub told_by-set : (lanes : List LaneAnswers) (l lane : Lane) (answers : LaneAnswers) → lane_place l < length lanes
    → told_by (set lanes (lane_place l) answers) lane
    ≡ (if is_lane l lane then told_in answers else told_by lanes lane)
told_by-set lanes l lane answers below =
    let all : List (List NumberedAnswer) = map told_in lanes in
    let within : lane_place l < length all = omega (arith, below, length-map lanes told_in) in
    ap (λ (lists : List (List NumberedAnswer)). get_or lists (lane_place lane) [])
    (map-set told_in lanes (lane_place l) answers)
    ∙ get_or-set all (lane_place l) (lane_place lane) (told_in answers) [] within
    ∙ ap (λ (b : Bool). if b then told_in answers else get_or all (lane_place lane) []) (lane_place-same l lane)

-- the answers of the lanes after some of these stand in their places
pub record ArePlaced (header : Header) (lanes rest : List JoinedLane) (placed : List LaneAnswers) : Type 0 where
  pub one_each : length placed ≡ suc header.layout.cpus
  pub known : All (λ (one : JoinedLane). IsLaneOf header one.lane) rest
  pub after : List JoinedLane
  pub parts : lanes ≡ rest ++ after
  pub told : (lane : Lane) → told_by placed lane ≡ told_of after lane

-- before the first one
pub ArePlaced-none : (header : Header) (lanes : List JoinedLane) (placed : List LaneAnswers)
    → length placed ≡ suc header.layout.cpus → All (λ (one : JoinedLane). IsLaneOf header one.lane) lanes
    → ((lane : Lane) → told_by placed lane ≡ []) → ArePlaced header lanes lanes placed
ArePlaced-none header lanes placed one_each known none = record {
  one_each = one_each;
  known = known;
  after = [];
  parts = sym (append-nil lanes);
  told = none;
}

-- with a further one
pub ArePlaced-next : (header : Header) (lanes before rest : List JoinedLane) (one : JoinedLane)
    (answers : LaneAnswers) (placed : List LaneAnswers) (place : ℕ) → ArePlaced header lanes before placed
    → before ≡ rest ++ one ∷ [] → answers.items.items ≡ one.answers.items → place ≡ lane_place one.lane
    → ArePlaced header lanes rest (set placed place answers)
ArePlaced-next header lanes before rest one answers placed place are last same is =
    let popped = All-pop (λ (other : JoinedLane). IsLaneOf header other.lane) before rest (Some one) last are.known in
    let below = place-below header one.lane (length placed) are.one_each popped.1 in
    subst (λ (p : ℕ). ArePlaced header lanes rest (set placed p answers)) (sym is) (record {
      one_each = length-set placed (lane_place one.lane) answers ∙ are.one_each;
      known = popped.0;
      after = one ∷ are.after;
      parts = are.parts ∙ ap (λ (list : List JoinedLane). list ++ are.after) last
          ∙ append_assoc rest (one ∷ []) are.after;
      told = λ lane. told_by-set placed one.lane lane answers below ∙ by lane (is_lane one.lane lane);
    })
  where
    by : (lane : Lane) (b : Bool) → (if b then told_in answers else told_by placed lane)
        ≡ (if b then map answer_of_kept one.answers.items else told_of are.after lane)
    by lane true = ap (map answer_of_kept) same
    by lane false = are.told lane

-- after the last one
pub told-placed : (header : Header) (lanes rest : List JoinedLane) (placed : List LaneAnswers)
    → ArePlaced header lanes rest placed → rest ≡ [] → (lane : Lane) → told_by placed lane ≡ told_of lanes lane
told-placed header lanes rest placed are none lane =
    are.told lane ∙ sym (ap (λ (list : List JoinedLane). told_of list lane)
    (are.parts ∙ ap (λ (list : List JoinedLane). list ++ are.after) none))

-- a further place without answers tells nothing
pub told_by-push : (placed : List LaneAnswers) (empty : LaneAnswers) (lane : Lane) → told_in empty ≡ []
    → told_by placed lane ≡ [] → told_by (placed ++ empty ∷ []) lane ≡ []
told_by-push placed empty lane none before =
    ap (λ (lists : List (List NumberedAnswer)). get_or lists (lane_place lane) [])
    (map-append told_in placed (empty ∷ []) ∙ ap (λ answers. map told_in placed ++ answers ∷ []) none)
    ∙ at (map told_in placed) (lane_place lane) before
  where
    at : (xs : List (List NumberedAnswer)) (i : ℕ) → get_or xs i [] ≡ [] → get_or (xs ++ [] ∷ []) i [] ≡ []
    at [] zero is = refl
    at [] (suc i) is = refl
    at (x ∷ xs) zero is = is
    at (x ∷ xs) (suc i) is = at xs i is

-- each lane of a line has its place
pub places-known : (header : Header) (placed : List LaneAnswers) (items : List Item)
    → length placed ≡ suc header.layout.cpus → All (λ (item : Item). IsLaneOf header item.lane) items
    → All (λ (item : Item). HasPlace placed item.lane) items
places-known header placed items one_each known =
    All-weaker (λ (item : Item). IsLaneOf header item.lane) (λ (item : Item). HasPlace placed item.lane)
    (λ item is. place-below header item.lane (length placed) one_each is) items known

-- the lanes that have lines are lanes of the header
below-known : (header : Header) (items : List Item) (n : ℕ) → n ≤ header.layout.cpus
    → All (IsLaneOf header) (lanes_below n items)
below-known header items zero most = All-nil (IsLaneOf header)
below-known header items (suc n) most =
    All-append (IsLaneOf header) (lanes_below n items)
    (if has_line (Cpu (record { number = n })) items then Cpu (record { number = n }) ∷ [] else [])
    (below-known header items n (omega (arith, most))) (by (has_line (Cpu (record { number = n })) items))
  where
    by : (b : Bool) → All (IsLaneOf header) (if b then Cpu (record { number = n }) ∷ [] else [])
    by true = All-cons (IsLaneOf header) (Cpu (record { number = n })) [] most (All-nil (IsLaneOf header))
    by false = All-nil (IsLaneOf header)

pub of-known : (header : Header) (items : List Item) → All (IsLaneOf header) (lanes_of header.layout items)
of-known header items =
    All-append (IsLaneOf header) (lanes_below header.layout.cpus items)
    (if has_line Control items then Control ∷ [] else [])
    (below-known header items header.layout.cpus (omega arith)) (by (has_line Control items))
  where
    by : (b : Bool) → All (IsLaneOf header) (if b then Control ∷ [] else [])
    by true = All-cons (IsLaneOf header) Control [] tt (All-nil (IsLaneOf header))
    by false = All-nil (IsLaneOf header)

All-lanes : (P : Lane → Type 0) (joined : List JoinedLane) → All P (map (λ (one : JoinedLane). one.lane) joined)
    → All (λ (one : JoinedLane). P one.lane) joined
All-lanes P [] all = All-nil (λ (one : JoinedLane). P one.lane)
All-lanes P (one ∷ joined) all =
    let lanes : List Lane = map (λ (other : JoinedLane). other.lane) joined in
    All-cons (λ (other : JoinedLane). P other.lane) one joined (All-head P one.lane lanes all)
    (All-lanes P joined (All-tail P one.lane lanes all))

pub lanes-known : (header : Header) (items : List Item) (joined : List JoinedLane)
    → map (λ (one : JoinedLane). one.lane) joined ≡ lanes_of header.layout items
    → All (λ (one : JoinedLane). IsLaneOf header one.lane) joined
lanes-known header items joined are =
    All-lanes (IsLaneOf header) joined (subst (All (IsLaneOf header)) (sym are) (of-known header items))
