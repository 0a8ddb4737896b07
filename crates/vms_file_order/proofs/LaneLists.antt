-- For other crates too: the lanes that have lines stand once each, and the numbers of their passes.
use Rattle.std.proofs.Common.{◌≡◌, ◌≢◌, ℕ, zero, suc, ◌<◌, ◌≤◌, nat_eq, ◌||◌, Bool, true, false, List, [], ◌∷◌, ◌++◌}
use Rattle.std.proofs.Common.{length, refl, sym, ap, subst, ◌∙◌, arith, if◌then◌else◌, append-nil, ⊎_elim}
use Rattle.std.specs.Prelude.{All}
use Rattle.std.proofs.Math.Bool.{or-true}
use Rattle.std.proofs.lemmas.Bool.{cases_eq}
use Rattle.std.proofs.lemmas.Bool.Decides.{nat_tests}
use Rattle.std.proofs.lemmas.List.Elements.{All-append, All-cons, All-head, All-nil, All-tail}
use Rattle.vms_world.specs.Common.{Header, Shape, IsLaneOf, is_lane, Item, Lane, Cpu, Control, has_line, is_among}
use Rattle.vms_world.specs.Common.{lane_at, lanes_below, lanes_of, owner_of}
use Rattle.vms_file_order.specs.Common.{StandOnce, pass_of}

-- lanes that are one
pub is_lane-same : (l m : Lane) → is_lane l m ≡ true → l ≡ m
is_lane-same (Cpu c) (Cpu d) same = let numbers : c.number ≡ d.number = grind (arith, nat_tests) in
    ap (λ n. let lane : Lane = Cpu (record { number = n }) in lane) numbers
is_lane-same (Cpu c) Control same = absurd cc
is_lane-same Control (Cpu d) same = absurd cc
is_lane-same Control Control same = refl

pub is_lane-self : (l : Lane) → is_lane l l ≡ true
is_lane-self (Cpu c) = grind (arith, nat_tests)
is_lane-self Control = refl

pub is_lane-sym : (l m : Lane) → is_lane l m ≡ is_lane m l
is_lane-sym l m = by (is_lane l m) (is_lane m l) refl refl
  where
    by : (a b : Bool) → is_lane l m ≡ a → is_lane m l ≡ b → a ≡ b
    by true true left right = refl
    by false false left right = refl
    by true false left right =
        let both : true ≡ false =
        sym (is_lane-self m) ∙ subst (λ (x : Lane). is_lane m x ≡ false) (is_lane-same l m left) right in
        absurd cc
    by false true left right =
        let both : true ≡ false =
        sym (is_lane-self l) ∙ subst (λ (x : Lane). is_lane l x ≡ false) (is_lane-same m l right) left in
        absurd cc

-- lanes whose passes own the same are one
pub owner_of-injective : (l m : Lane) → owner_of l ≡ owner_of m → l ≡ m
owner_of-injective (Cpu c) (Cpu d) same = cc
owner_of-injective (Cpu c) Control same = absurd cc
owner_of-injective Control (Cpu d) same = absurd cc
owner_of-injective Control Control same = refl

pub is_among-append : (lane : Lane) (xs ys : List Lane)
    → is_among lane (xs ++ ys) ≡ (is_among lane xs || is_among lane ys)
is_among-append lane [] ys = refl
is_among-append lane (x ∷ xs) ys = ap (λ b. is_lane x lane || b) (is_among-append lane xs ys) ∙ by (is_lane x lane)
  where
    by : (b : Bool) → (b || (is_among lane xs || is_among lane ys)) ≡ ((b || is_among lane xs) || is_among lane ys)
    by true = refl
    by false = refl

pub is_among-first : (l : Lane) (ls : List Lane) → is_among l (l ∷ ls) ≡ true
is_among-first l ls = ap (λ b. b || is_among l ls) (is_lane-self l)

pub is_among-later : (l lane : Lane) (ls : List Lane) → is_among lane ls ≡ true → is_among lane (l ∷ ls) ≡ true
is_among-later l lane ls among = ap (λ b. is_lane l lane || b) among ∙ or-true (is_lane l lane)

-- one lane more
StandOnce-more : (xs : List Lane) (x : Lane) → StandOnce xs → is_among x xs ≡ false → StandOnce (xs ++ x ∷ [])
StandOnce-more [] x once apart = (refl, tt)
StandOnce-more (l ∷ xs) x once apart = by (is_lane l x) refl apart (StandOnce-more xs x once.1)
  where
    by : (b : Bool) → is_lane l x ≡ b → (b || is_among x xs) ≡ false
        → (is_among x xs ≡ false → StandOnce (xs ++ x ∷ [])) → StandOnce (l ∷ (xs ++ x ∷ []))
    by true same either rest = absurd cc
    by false same either rest = (
      is_among-append l xs (x ∷ []) ∙ ap (λ b. b || (is_lane x l || false)) once.0
          ∙ ap (λ b. b || false) (sym (is_lane-sym l x) ∙ same),
      rest either,
    )

-- a lane that the condition names comes last, or none
StandOnce-if : (xs : List Lane) (x : Lane) (b : Bool) → StandOnce xs → is_among x xs ≡ false
    → StandOnce (xs ++ (if b then x ∷ [] else []))
StandOnce-if xs x true once apart = StandOnce-more xs x once apart
StandOnce-if xs x false once apart = subst StandOnce (sym (append-nil xs)) once

abbrev cpu_lane : ℕ → Lane
cpu_lane n = Cpu (record { number = n })

-- the lanes of CPUs below n are of CPUs below n
below-only : (n c : ℕ) (items : List Item) → n ≤ c → is_among (cpu_lane c) (lanes_below n items) ≡ false
below-only zero c items past = refl
below-only (suc n) c items past =
    is_among-append (cpu_lane c) (lanes_below n items) (if has_line (cpu_lane n) items then cpu_lane n ∷ [] else [])
    ∙ ap (λ b. b || is_among (cpu_lane c) (if has_line (cpu_lane n) items then cpu_lane n ∷ [] else []))
    (below-only n c items (omega arith)) ∙ by (has_line (cpu_lane n) items)
  where
    by : (b : Bool) → is_among (cpu_lane c) (if b then cpu_lane n ∷ [] else []) ≡ false
    by true = let other : nat_eq n c ≡ false = grind (arith, nat_tests) in ap (λ b. b || false) other
    by false = refl

below-no_control : (n : ℕ) (items : List Item) → is_among Control (lanes_below n items) ≡ false
below-no_control zero items = refl
below-no_control (suc n) items =
    is_among-append Control (lanes_below n items) (if has_line (cpu_lane n) items then cpu_lane n ∷ [] else [])
    ∙ ap (λ b. b || is_among Control (if has_line (cpu_lane n) items then cpu_lane n ∷ [] else []))
    (below-no_control n items) ∙ by (has_line (cpu_lane n) items)
  where
    by : (b : Bool) → is_among Control (if b then cpu_lane n ∷ [] else []) ≡ false
    by true = refl
    by false = refl

StandOnce-below : (n : ℕ) (items : List Item) → StandOnce (lanes_below n items)
StandOnce-below zero items = tt
StandOnce-below (suc n) items = StandOnce-if (lanes_below n items) (cpu_lane n) (has_line (cpu_lane n) items)
    (StandOnce-below n items) (below-only n n items (omega arith))

pub StandOnce-lanes : (shape : Shape) (items : List Item) → StandOnce (lanes_of shape items)
StandOnce-lanes shape items = StandOnce-if (lanes_below shape.cpus items) Control (has_line Control items)
    (StandOnce-below shape.cpus items) (below-no_control shape.cpus items)

-- what holds of each lane with a line holds of each of the lanes that have lines
module _ (P : Lane → Type 0) (items : List Item) (each : (lane : Lane) → has_line lane items ≡ true → P lane) where
  if-lane : (lane : Lane) (b : Bool) → has_line lane items ≡ b → All P (if b then lane ∷ [] else [])
  if-lane lane true has = All-cons P lane [] (each lane has) (All-nil P)
  if-lane lane false has = All-nil P

  All-below : (n : ℕ) → All P (lanes_below n items)
  All-below zero = All-nil P
  All-below (suc n) = All-append P (lanes_below n items) (if has_line (cpu_lane n) items then cpu_lane n ∷ [] else [])
      (All-below n) (if-lane (cpu_lane n) (has_line (cpu_lane n) items) refl)

  pub All-lanes : (shape : Shape) → All P (lanes_of shape items)
  All-lanes shape = All-append P (lanes_below shape.cpus items) (if has_line Control items then Control ∷ [] else [])
      (All-below shape.cpus) (if-lane Control (has_line Control items) refl)

-- each CPU below n that has a line
below-all : (n c : ℕ) (items : List Item) → c < n → has_line (cpu_lane c) items ≡ true
    → is_among (cpu_lane c) (lanes_below n items) ≡ true
below-all zero c items below has = absurd (omega arith)
below-all (suc n) c items below has =
    is_among-append (cpu_lane c) (lanes_below n items) (if has_line (cpu_lane n) items then cpu_lane n ∷ [] else [])
    ∙ ⊎_elim
    (λ (same : c ≡ n).
    let here : has_line (cpu_lane n) items ≡ true = subst (λ (m : ℕ). has_line (cpu_lane m) items ≡ true) same has in
    let mine : nat_eq n c ≡ true = grind (arith, nat_tests) in
    ap (λ b. is_among (cpu_lane c) (lanes_below n items) || is_among (cpu_lane c) (if b then cpu_lane n ∷ [] else []))
    here
    ∙ ap (λ b. is_among (cpu_lane c) (lanes_below n items) || (b || false)) mine
    ∙ or-true (is_among (cpu_lane c) (lanes_below n items)))
    (λ (other : c ≢ n).
    ap (λ b. b || is_among (cpu_lane c) (if has_line (cpu_lane n) items then cpu_lane n ∷ [] else []))
    (below-all n c items (omega arith) has))
    (cases_eq c n)

-- a lane of the header that has a line is among the lanes that have lines
pub among-lanes : (header : Header) (items : List Item) (lane : Lane) → IsLaneOf header lane
    → has_line lane items ≡ true → is_among lane (lanes_of header.layout items) ≡ true
among-lanes header items (Cpu c) known has =
    let rest = if has_line Control items then Control ∷ [] else [] in
    is_among-append (Cpu c) (lanes_below header.layout.cpus items) rest
    ∙ ap (λ b. b || is_among (Cpu c) rest) (below-all header.layout.cpus c.number items known has)
among-lanes header items Control known has =
    let below = lanes_below header.layout.cpus items in
    is_among-append Control below (if has_line Control items then Control ∷ [] else [])
    ∙ ap (λ b. is_among Control below || is_among Control (if b then Control ∷ [] else [])) has
    ∙ or-true (is_among Control below)

-- so each line's is
lines-among : (header : Header) (more items : List Item) → All (λ item. IsLaneOf header item.lane) items
    → ((lane : Lane) → has_line lane items ≡ true → has_line lane more ≡ true)
    → All (λ item. is_among item.lane (lanes_of header.layout more) ≡ true) items
lines-among header more [] all has = All-nil (λ item. is_among item.lane (lanes_of header.layout more) ≡ true)
lines-among header more (item ∷ items) all has =
    All-cons (λ item. is_among item.lane (lanes_of header.layout more) ≡ true) item items
    (among-lanes header more item.lane (All-head (λ item. IsLaneOf header item.lane) item items all)
    (has item.lane (ap (λ b. b || has_line item.lane items) (is_lane-self item.lane))))
    (lines-among header more items (All-tail (λ item. IsLaneOf header item.lane) item items all)
    (λ lane later. has lane (ap (λ b. is_lane item.lane lane || b) later ∙ or-true (is_lane item.lane lane))))

pub lines-among_lanes : (header : Header) (items : List Item) → All (λ item. IsLaneOf header item.lane) items
    → All (λ item. is_among item.lane (lanes_of header.layout items) ≡ true) items
lines-among_lanes header items all = lines-among header items items all (λ lane has. has)

-- the number of a lane's pass is one of the passes'
pub pass_of-least : (ls : List Lane) (lane : Lane) → is_among lane ls ≡ true → 1 ≤ pass_of ls lane
pass_of-least [] lane among = absurd cc
pass_of-least (l ∷ ls) lane among = by (is_lane l lane)
  where
    by : (b : Bool) → 1 ≤ (if b then 1 else suc (pass_of ls lane))
    by true = omega arith
    by false = omega arith

pub pass_of-most : (ls : List Lane) (lane : Lane) → is_among lane ls ≡ true → pass_of ls lane ≤ length ls
pass_of-most [] lane among = absurd cc
pass_of-most (l ∷ ls) lane among = by (is_lane l lane) among (pass_of-most ls lane)
  where
    by : (b : Bool) → (b || is_among lane ls) ≡ true → (is_among lane ls ≡ true → pass_of ls lane ≤ length ls)
        → (if b then 1 else suc (pass_of ls lane)) ≤ suc (length ls)
    by true either rest = omega arith
    by false either rest = omega (arith, rest either)

-- the lane at the place of a pass is the pass's
pub lane_at-pass_of : (ls : List Lane) (lane : Lane) (n : ℕ) → is_among lane ls ≡ true → pass_of ls lane ≡ suc n
    → lane_at ls n ≡ lane
lane_at-pass_of [] lane n among is = absurd cc
lane_at-pass_of (l ∷ ls) lane n among is = by (is_lane l lane) refl among is (lane_at-pass_of ls lane)
    (pass_of-least ls lane)
  where
    by : (b : Bool) → is_lane l lane ≡ b → (b || is_among lane ls) ≡ true
        → (if b then 1 else suc (pass_of ls lane)) ≡ suc n
        → ((m : ℕ) → is_among lane ls ≡ true → pass_of ls lane ≡ suc m → lane_at ls m ≡ lane)
        → (is_among lane ls ≡ true → 1 ≤ pass_of ls lane) → lane_at (l ∷ ls) n ≡ lane
    by true same either one rest least =
        let first : n ≡ 0 = omega arith in
        ap (lane_at (l ∷ ls)) first ∙ is_lane-same l lane same
    by false same either later rest least = at n later
      where
        at : (m : ℕ) → suc (pass_of ls lane) ≡ suc m → lane_at (l ∷ ls) m ≡ lane
        at zero is_zero = absurd (omega (arith, least either))
        at (suc m) is_suc = rest m either (omega arith)

-- the place of a lane among these
pub record HasPlace (ls : List Lane) (lane : Lane) : Type 0 where
  pub place : ℕ
  pub number : pass_of ls lane ≡ suc place
  pub below : place < length ls
  pub there : lane_at ls place ≡ lane

pub HasPlace-among : (ls : List Lane) (lane : Lane) → is_among lane ls ≡ true → HasPlace ls lane
HasPlace-among ls lane among = at (pass_of ls lane) refl
  where
    at : (n : ℕ) → pass_of ls lane ≡ n → HasPlace ls lane
    at zero none = absurd (omega (arith, none, pass_of-least ls lane among))
    at (suc n) is = record {
      place = n;
      number = is;
      below = omega (arith, is, pass_of-most ls lane among);
      there = lane_at-pass_of ls lane n among is;
    }

-- where each lane stands once, the pass of the lane at a place has that place's number
pub record IsPlace (ls : List Lane) (n : ℕ) : Type 0 where
  pub number : pass_of ls (lane_at ls n) ≡ suc n
  pub among : is_among (lane_at ls n) ls ≡ true

pub pass_of-lane_at : (ls : List Lane) (n : ℕ) → StandOnce ls → n < length ls → IsPlace ls n
pass_of-lane_at [] n once below = absurd (omega arith)
pass_of-lane_at (l ∷ ls) zero once below = record {
  number = ap (λ b. if b then 1 else suc (pass_of ls l)) (is_lane-self l);
  among = is_among-first l ls;
}
pass_of-lane_at (l ∷ ls) (suc n) once below = by (is_lane l (lane_at ls n)) refl
    (pass_of-lane_at ls n once.1 (omega arith))
  where
    by : (b : Bool) → is_lane l (lane_at ls n) ≡ b → IsPlace ls n → IsPlace (l ∷ ls) (suc n)
    by true same place =
        let there : is_among l ls ≡ true =
        subst (λ (x : Lane). is_among x ls ≡ true) (sym (is_lane-same l (lane_at ls n) same)) place.among in
        let both : true ≡ false = sym there ∙ once.0 in
        absurd cc
    by false same place = record {
      number = ap (λ b. if b then 1 else suc (pass_of ls (lane_at ls n))) same ∙ ap suc place.number;
      among = is_among-later l (lane_at ls n) ls place.among;
    }
