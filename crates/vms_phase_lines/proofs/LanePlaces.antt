-- The slots of lanes, the numbers of their passes with a lane more, and which lanes have a line with one more.
use Rattle.std.proofs.Common.{◌≡◌, ℕ, zero, suc, ◌+◌, ◌<◌, ◌≤◌, ◌||◌, Bool, true, false, List, [], ◌∷◌, ◌++◌, length}
use Rattle.std.proofs.Common.{refl, sym, ap, ◌∙◌, arith, if◌then◌else◌, inl, inr, length-append, ◌⊎◌}
use Rattle.vms_world.specs.Common.{CpuId, Header, IsLaneOf, Item, Lane, Cpu, Control, has_line, is_among, is_lane}
use Rattle.vms_world.specs.Common.{lanes_below}
use Rattle.vms_file_order.specs.Common.{pass_of}
use Rattle.vms_file_order.proofs.Common.{is_among-append, is_lane-same, is_lane-self}
use Rattle.vms_phase_lines.specs.Common.{slot_of}

-- lanes of a header that have one slot are one
pub slot_of-injective : (header : Header) (l m : Lane) → IsLaneOf header l → IsLaneOf header m
    → slot_of header.layout.cpus l ≡ slot_of header.layout.cpus m → l ≡ m
slot_of-injective header (Cpu c) (Cpu d) known other same =
    ap (λ (n : ℕ). let lane : Lane = Cpu (record { number = n }) in lane) same
slot_of-injective header (Cpu c) Control known other same = absurd (omega (arith, known, same))
slot_of-injective header Control (Cpu d) known other same = absurd (omega (arith, other, same))
slot_of-injective header Control Control known other same = refl

pub slot_of-within : (header : Header) (l : Lane) → IsLaneOf header l
    → slot_of header.layout.cpus l < header.layout.cpus + 1
slot_of-within header (Cpu c) known = omega (arith, known)
slot_of-within header Control known = omega arith

-- with a lane more the others keep their numbers, and it has the next one
pub pass_of-kept : (ls : List Lane) (l lane : Lane) → is_among lane ls ≡ true
    → pass_of (ls ++ l ∷ []) lane ≡ pass_of ls lane
pass_of-kept [] l lane among = absurd cc
pass_of-kept (first ∷ ls) l lane among = by (is_lane first lane) among (pass_of-kept ls l lane)
  where
    by : (b : Bool) → (b || is_among lane ls) ≡ true
        → (is_among lane ls ≡ true → pass_of (ls ++ l ∷ []) lane ≡ pass_of ls lane)
        → (if b then 1 else suc (pass_of (ls ++ l ∷ []) lane)) ≡ (if b then 1 else suc (pass_of ls lane))
    by true either rest = refl
    by false either rest = ap suc (rest either)

pub pass_of-last : (ls : List Lane) (l : Lane) → is_among l ls ≡ false → pass_of (ls ++ l ∷ []) l ≡ suc (length ls)
pass_of-last [] l apart = ap (λ (b : Bool). if b then 1 else suc 0) (is_lane-self l)
pass_of-last (first ∷ ls) l apart = by (is_lane first l) apart (pass_of-last ls l)
  where
    by : (b : Bool) → (b || is_among l ls) ≡ false
        → (is_among l ls ≡ false → pass_of (ls ++ l ∷ []) l ≡ suc (length ls))
        → (if b then 1 else suc (pass_of (ls ++ l ∷ []) l)) ≡ suc (suc (length ls))
    by true either rest = absurd cc
    by false either rest = ap suc (rest either)

-- among lanes with one more are these and that one
pub among-more : (ls : List Lane) (l lane : Lane) → is_among lane (ls ++ l ∷ []) ≡ true
    → (is_among lane ls ≡ true) ⊎ (l ≡ lane)
among-more ls l lane among =
    by (is_among lane ls) (is_lane l lane) refl refl (sym (is_among-append lane ls (l ∷ [])) ∙ among)
  where
    by : (a b : Bool) → is_among lane ls ≡ a → is_lane l lane ≡ b → (a || (b || false)) ≡ true
        → (is_among lane ls ≡ true) ⊎ (l ≡ lane)
    by true b is same either = inl is
    by false true is same either = inr (is_lane-same l lane same)
    by false false is same either = absurd cc

-- the lanes of the CPUs below n are of CPUs below n
pub among-below : (n : ℕ) (items : List Item) (lane : Lane) → is_among lane (lanes_below n items) ≡ true
    → (m : ℕ) × (m < n) × (lane ≡ Cpu (record { number = m }))
among-below zero items lane among = absurd cc
among-below (suc n) items lane among =
    by (among-below n items lane) (has_line (Cpu (record { number = n })) items)
    (sym (is_among-append lane (lanes_below n items)
    (if has_line (Cpu (record { number = n })) items then Cpu (record { number = n }) ∷ [] else [])) ∙ among)
  where
    later : (is_among lane (lanes_below n items) ≡ true → (m : ℕ) × (m < n) × (lane ≡ Cpu (record { number = m })))
        → is_among lane (lanes_below n items) ≡ true → (m : ℕ) × (m < suc n) × (lane ≡ Cpu (record { number = m }))
    later below there = let at = below there in (at.0, omega (arith, at.1), at.2)

    or : (is_among lane (lanes_below n items) ≡ true → (m : ℕ) × (m < n) × (lane ≡ Cpu (record { number = m })))
        → (a b : Bool) → is_among lane (lanes_below n items) ≡ a → is_lane (Cpu (record { number = n })) lane ≡ b
        → (a || (b || false)) ≡ true → (m : ℕ) × (m < suc n) × (lane ≡ Cpu (record { number = m }))
    or below true b is same either = later below is
    or below false true is same either =
        (n, omega arith, sym (is_lane-same (Cpu (record { number = n })) lane same))
    or below false false is same either = absurd cc

    none : (is_among lane (lanes_below n items) ≡ true → (m : ℕ) × (m < n) × (lane ≡ Cpu (record { number = m })))
        → (a : Bool) → is_among lane (lanes_below n items) ≡ a → (a || false) ≡ true
        → (m : ℕ) × (m < suc n) × (lane ≡ Cpu (record { number = m }))
    none below true is either = later below is
    none below false is either = absurd cc

    by : (is_among lane (lanes_below n items) ≡ true → (m : ℕ) × (m < n) × (lane ≡ Cpu (record { number = m })))
        → (b : Bool) → (is_among lane (lanes_below n items)
        || is_among lane (if b then Cpu (record { number = n }) ∷ [] else [])) ≡ true
        → (m : ℕ) × (m < suc n) × (lane ≡ Cpu (record { number = m }))
    by below true either =
        or below (is_among lane (lanes_below n items)) (is_lane (Cpu (record { number = n })) lane) refl refl either
    by below false either = none below (is_among lane (lanes_below n items)) refl either

not-true : (b : Bool) → (b ≡ true → ⊥) → b ≡ false
not-true true never = absurd (never refl)
not-true false never = refl

-- so the next lane is none of them
pub next-apart : (n : ℕ) (items : List Item) → is_among (Cpu (record { number = n })) (lanes_below n items) ≡ false
next-apart n items = not-true (is_among (Cpu (record { number = n })) (lanes_below n items)) (λ among.
    let at = among-below n items (Cpu (record { number = n })) among in
    absurd (omega (arith, at.1, number n at.0 at.2)))
  where
    number : (n m : ℕ) → ◌≡◌ {A = Lane} (Cpu (record { number = n })) (Cpu (record { number = m })) → n ≡ m
    number n m same =
        let cpus : ◌≡◌ {A = CpuId} (record { number = n }) (record { number = m }) = cc in
        ap (λ (c : CpuId). c.number) cpus

pub control-apart : (n : ℕ) (items : List Item) → is_among Control (lanes_below n items) ≡ false
control-apart n items = not-true (is_among Control (lanes_below n items)) (λ among.
    let at = among-below n items Control among in
    let never : ◌≡◌ {A = Lane} Control (Cpu (record { number = at.0 })) = at.2 in
    absurd cc)

pub length-below : (n : ℕ) (items : List Item) → length (lanes_below n items) ≤ n
length-below zero items = omega arith
length-below (suc n) items = by (length-below n items) (has_line (Cpu (record { number = n })) items)
  where
    by : length (lanes_below n items) ≤ n → (b : Bool)
        → length (lanes_below n items ++ (if b then Cpu (record { number = n }) ∷ [] else [])) ≤ suc n
    by short true = omega (arith, short, length-append (lanes_below n items) (Cpu (record { number = n }) ∷ []))
    by short false = omega (arith, short, length-append (lanes_below n items) [])

-- a line more
pub has_line-more : (lane : Lane) (items : List Item) (item : Item)
    → has_line lane (items ++ item ∷ []) ≡ (has_line lane items || is_lane item.lane lane)
has_line-more lane [] item = by (is_lane item.lane lane)
  where
    by : (b : Bool) → (b || false) ≡ (false || b)
    by true = refl
    by false = refl
has_line-more lane (first ∷ items) item =
    ap (λ (b : Bool). is_lane first.lane lane || b) (has_line-more lane items item) ∙ by (is_lane first.lane lane)
  where
    by : (b : Bool) → (b || (has_line lane items || is_lane item.lane lane))
        ≡ ((b || has_line lane items) || is_lane item.lane lane)
    by true = refl
    by false = refl
