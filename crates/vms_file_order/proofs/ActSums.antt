-- What a pass has made comes to the sum over its acts, and so to the volume of its lane's lines.
use Rattle.std.proofs.Common.{◌≡◌, ℕ, ◌+◌, nat_eq, ◌&&◌, Bool, true, false, ℤ, pos, ◌+ℤ◌, ◌≤ℤ◌, List, [], ◌∷◌, ◌++◌}
use Rattle.std.proofs.Common.{map, refl, sym, ap, subst, ◌∙◌, arith, if◌then◌else◌}
use Rattle.std.specs.Prelude.{filter}
use Rattle.std.proofs.lemmas.Int.{ints}
use Rattle.vms_world.specs.Common.{CpuId, Event, after, own, is_lane, line_of, by_cpu, volume, Act, Item, Lane, Cpu}
use Rattle.vms_world.specs.Common.{Control, MakesActs, acts_of, act as one_act}
use Rattle.vms_text.specs.declared.acts.Line.TheVariants.{Lane as LaneLine}
use Rattle.vms_world.specs.Lanes.MakesActs.{none as no_act}

-- a number under conditions, as an integer
pub pos-if : (b : Bool) (n : ℕ) → (if b then pos n else pos 0) ≡ pos (if b then n else 0)
pos-if true n = refl
pos-if false n = refl

pub pos-if_both : (mine same : Bool) (n : ℕ)
    → pos (if mine && same then n else 0) ≡ (if mine then (if same then pos n else pos 0) else pos 0)
pos-if_both true true n = refl
pos-if_both true false n = refl
pos-if_both false same n = refl

-- a measure of these acts, in sum
abbrev pub sum_of_acts : (Act → ℕ) → List Act → ℕ
sum_of_acts measure [] = 0
sum_of_acts measure (a ∷ acts) = measure a + sum_of_acts measure acts

sum_of_acts-last : (measure : Act → ℕ) (acts : List Act) (a : Act)
    → sum_of_acts measure (acts ++ a ∷ []) ≡ sum_of_acts measure acts + measure a
sum_of_acts-last measure [] a = omega arith
sum_of_acts-last measure (first ∷ acts) a = omega (arith, sum_of_acts-last measure acts a)

-- over the acts of a CPU's lane that is the CPU's volume
pub volume-acts : (measure : Act → ℕ) (c : CpuId) (items : List Item)
    → volume measure c.number (map line_of items) ≡ sum_of_acts measure (acts_of (Cpu c) items)
volume-acts measure c [] = refl
volume-acts measure c (item ∷ items) =
    ap (λ n. by_cpu c.number measure (line_of item) + n) (volume-acts measure c items)
    ∙ of_lane (λ i. i.act) (filter (λ i. is_lane i.lane (Cpu c)) items) item.lane
  where
    kept : (act : Item → Act) (rest : List Item) (b : Bool)
        → (if b then measure (act item) else 0) + sum_of_acts measure (map act rest)
        ≡ sum_of_acts measure (map act (if b then item ∷ rest else rest))
    kept act rest true = refl
    kept act rest false = omega arith

    of_lane : (act : Item → Act) (rest : List Item) (lane : Lane)
        → by_cpu c.number measure (LaneLine lane (act item)) + sum_of_acts measure (map act rest)
        ≡ sum_of_acts measure (map act (if is_lane lane (Cpu c) then item ∷ rest else rest))
    of_lane act rest (Cpu d) = kept act rest (nat_eq d.number c.number)
    of_lane act rest Control = omega arith

module _ {K : Type 0} (makes : Act → List (Event K) → List K → Type 0) (p : ℕ) (own_total : List (Event K) → ℤ)
    (nothing_own : own_total [] ≡ pos 0) (measure : Act → ℕ) where
  pub total-acts : ((a : Act) (h : List (Event K)) (steps : List K) → makes a h steps → (g : List (Event K))
      → own_total (after p steps g) ≡ pos (measure a) +ℤ own_total g)
      → (acts : List Act) (h : List (Event K)) → MakesActs makes p acts h
      → own_total (own h p) ≡ pos (sum_of_acts measure acts)
  total-acts each acts h (no_act h' nothing) = ap own_total nothing ∙ nothing_own
  total-acts each acts h (one_act before next h' more steps made making own_is) =
      let grown = ap own_total own_is ∙ each next h' steps making (own h' p) in
      omega (arith, ints, grown, total-acts each before h' made, sum_of_acts-last measure before next)

  -- the same where each act comes to its measure at most, and keeps a fact on own events
  pub most-acts : (Holds : List (Event K) → Type 0) → Holds []
      → ((a : Act) (h : List (Event K)) (steps : List K) → makes a h steps → (g : List (Event K)) → Holds g
      → Holds (after p steps g) × (own_total (after p steps g) ≤ℤ (pos (measure a) +ℤ own_total g)))
      → (acts : List Act) (h : List (Event K)) → MakesActs makes p acts h
      → Holds (own h p) × (own_total (own h p) ≤ℤ pos (sum_of_acts measure acts))
  most-acts Holds fresh each acts h (no_act h' nothing) =
      (subst Holds (sym nothing) fresh, omega (arith, ints, ap own_total nothing, nothing_own))
  most-acts Holds fresh each acts h (one_act before next h' more steps made making own_is) =
      let was = most-acts Holds fresh each before h' made in
      let now = each next h' steps making (own h' p) was.0 in (
        subst Holds (sym own_is) now.0,
        omega (arith, ints, ap own_total own_is, now.1, was.1, sum_of_acts-last measure before next),
      )
