-- The lines of a lane among the first lines of a phase, and what they spend.
use Rattle.std.proofs.Common.{◌≡◌, ℕ, suc, ◌+◌, ◌<◌, ◌≤◌, nat_eq, Bool, true, false, cond, List, [], ◌∷◌, ◌++◌, length}
use Rattle.std.proofs.Common.{take, drop, filter, get_or, refl, sym, ap, ◌∙◌, arith, eq-eqb, length-append, pos}
use Rattle.std.proofs.lemmas.List.{get_or_default, take-append-drop, take_more}
use Rattle.std.proofs.lemmas.List.Elements.{filter-append}
use Rattle.vms_group_core.specs.declared.call_values.GroupCall.TheVariants.{Change}
use Rattle.vms_group_core.specs.Common.{group_spent}
use Rattle.vms_group_phase.specs.declared.items.GroupItem.{GroupItem}
use Rattle.vms_group_phase.specs.Common.{asking, asks, has_some, lane_lines, spent_by_lines}

pub spent-append : (first second : List GroupItem) (g : ℕ)
    → spent_by_lines (first ++ second) g ≡ spent_by_lines first g + spent_by_lines second g
spent-append [] second g = omega arith
spent-append (item ∷ first) second g = omega (arith, spent-append first second g)

-- the line at a place, where there is one, and what a read past the end finds
abbrev pub no_line : GroupItem
no_line = record { number = 0; cpu = record { number = 0 }; call = Change 0 (pos 0) }

abbrev pub line_at : List GroupItem → ℕ → GroupItem
line_at items n = get_or items n no_line

pub line-there : (items : List GroupItem) (n : ℕ) → n < length items
    → line_at items n ≡ get_or items n (line_at items n)
line-there items n below = get_or_default items n no_line (line_at items n) below

-- one line more
pub take-line : (items : List GroupItem) (n : ℕ) (item : GroupItem) → n < length items → item ≡ get_or items n item
    → take (n + 1) items ≡ take n items ++ item ∷ []
take-line items n item below is =
    take_more items n item below ∙ ap (λ (line : GroupItem). take n items ++ line ∷ []) (sym is)

-- all lines, where one is named
pub around-line : (items : List GroupItem) (n : ℕ) (item : GroupItem) → n < length items → item ≡ get_or items n item
    → items ≡ (take n items ++ item ∷ []) ++ drop (n + 1) items
around-line items n item below is =
    sym (take-append-drop (n + 1) items) ∙ ap (λ lines. lines ++ drop (n + 1) items) (take-line items n item below is)

lane-append : (c : ℕ) (first second : List GroupItem)
    → lane_lines c (first ++ second) ≡ lane_lines c first ++ lane_lines c second
lane-append c first second = filter-append (λ (item : GroupItem). nat_eq item.cpu.number c) first second

pub lane-more : (c n : ℕ) (items : List GroupItem) (item : GroupItem) → n < length items → item ≡ get_or items n item
    → lane_lines c (take (n + 1) items)
    ≡ lane_lines c (take n items) ++ cond (nat_eq item.cpu.number c) (item ∷ []) []
lane-more c n items item below is =
    ap (lane_lines c) (take-line items n item below is) ∙ lane-append c (take n items) (item ∷ [])

-- of a lane's lines that are left there is one more than after them
pub line-left : (n : ℕ) (items : List GroupItem) (item : GroupItem) → n < length items → item ≡ get_or items n item
    → length (lane_lines item.cpu.number (take n items)) < length (lane_lines item.cpu.number items)
line-left n items item below is =
    let c = item.cpu.number in
    let all : lane_lines c items ≡ (lane_lines c (take n items) ++ lane_lines c (item ∷ [])) ++ lane_lines c
    (drop (n + 1) items) =
    ap (lane_lines c) (around-line items n item below is)
    ∙ lane-append c (take n items ++ item ∷ []) (drop (n + 1) items)
    ∙ ap (λ lines. lines ++ lane_lines c (drop (n + 1) items)) (lane-append c (take n items) (item ∷ [])) in
    let mine : lane_lines c (item ∷ []) ≡ item ∷ [] =
    ap (λ (b : Bool). cond b (item ∷ []) []) (eq-eqb c c refl) in
    omega (
      arith,
      ap length all,
      ap length mine,
      length-append (lane_lines c (take n items) ++ lane_lines c (item ∷ [])) (lane_lines c (drop (n + 1) items)),
      length-append (lane_lines c (take n items)) (lane_lines c (item ∷ [])),
    )

-- what a CPU's lines spend grows with each line
pub spent-more : (c g n : ℕ) (items : List GroupItem) (item : GroupItem) → n < length items
    → item ≡ get_or items n item
    → spent_by_lines (lane_lines c (take (n + 1) items)) g
    ≡ spent_by_lines (lane_lines c (take n items)) g
    + cond (nat_eq item.cpu.number c) (group_spent item.call g) 0
spent-more c g n items item below is =
    ap (λ lines. spent_by_lines lines g) (lane-more c n items item below is)
    ∙ spent-append (lane_lines c (take n items)) (cond (nat_eq item.cpu.number c) (item ∷ []) []) g
    ∙ ap (λ (k : ℕ). spent_by_lines (lane_lines c (take n items)) g + k) (by (nat_eq item.cpu.number c))
  where
    by : (b : Bool) → spent_by_lines (cond b (item ∷ []) []) g ≡ cond b (group_spent item.call g) 0
    by true = omega arith
    by false = refl

-- and is never more than in the end
pub spent-most : (c g n : ℕ) (items : List GroupItem)
    → spent_by_lines (lane_lines c (take n items)) g ≤ spent_by_lines (lane_lines c items) g
spent-most c g n items =
    let all : spent_by_lines (lane_lines c items) g ≡ spent_by_lines (lane_lines c (take n items)) g
    + spent_by_lines (lane_lines c (drop n items)) g =
    ap (λ lines. spent_by_lines (lane_lines c lines) g) (sym (take-append-drop n items))
    ∙ ap (λ lines. spent_by_lines lines g) (lane-append c (take n items) (drop n items))
    ∙ spent-append (lane_lines c (take n items)) (lane_lines c (drop n items)) g in
    omega (arith, all)

-- so the next of a lane spends no more than is left
pub spent-next : (c g n : ℕ) (items : List GroupItem) (item : GroupItem) → n < length items
    → item ≡ get_or items n item → nat_eq item.cpu.number c ≡ true
    → spent_by_lines (lane_lines c (take n items)) g + group_spent item.call g
    ≤ spent_by_lines (lane_lines c items) g
spent-next c g n items item below is mine =
    let more = spent-more c g n items item below is
    ∙ ap (λ (b : Bool). spent_by_lines (lane_lines c (take n items)) g + cond b (group_spent item.call g) 0) mine in
    omega (arith, more, spent-most c g (n + 1) items)

-- a lane that has as many lines has one
pub has-some : (lines : List GroupItem) → 0 < length lines → has_some lines ≡ true
has-some [] some = absurd (omega (arith, some))
has-some (line ∷ lines) some = refl

pub lane-few : (c : ℕ) (items : List GroupItem) → length (lane_lines c items) ≤ length items
lane-few c [] = omega arith
lane-few c (item ∷ items) = by (nat_eq item.cpu.number c) (lane-few c items)
  where
    by : (b : Bool) → length (lane_lines c items) ≤ length items
        → length (cond b (item ∷ lane_lines c items) (lane_lines c items)) ≤ suc (length items)
    by true few = omega (arith, few)
    by false few = omega (arith, few)

-- the lines that ask
asking-append : (first second : List GroupItem) → asking (first ++ second) ≡ asking first ++ asking second
asking-append first second = filter-append (λ (line : GroupItem). asks line.call) first second

asks-append : (c : ℕ) (first second : List GroupItem) → length (asking (lane_lines c (first ++ second)))
    ≡ length (asking (lane_lines c first)) + length (asking (lane_lines c second))
asks-append c first second =
    ap (λ lines. length (asking lines)) (lane-append c first second)
    ∙ ap length (asking-append (lane_lines c first) (lane_lines c second))
    ∙ length-append (asking (lane_lines c first)) (asking (lane_lines c second))

-- of a lane grow with each line that asks
pub asks-more : (c n : ℕ) (items : List GroupItem) (item : GroupItem) → n < length items
    → item ≡ get_or items n item
    → length (asking (lane_lines c (take (n + 1) items)))
    ≡ length (asking (lane_lines c (take n items)))
    + cond (nat_eq item.cpu.number c) (cond (asks item.call) 1 0) 0
asks-more c n items item below is =
    ap (λ lines. length (asking (lane_lines c lines))) (take-line items n item below is)
    ∙ asks-append c (take n items) (item ∷ [])
    ∙ ap (λ (k : ℕ). length (asking (lane_lines c (take n items))) + k)
    (by (nat_eq item.cpu.number c) (asks item.call))
  where
    by : (own ask : Bool)
        → length (filter (λ (line : GroupItem). asks line.call) (cond own (item ∷ []) []))
        ≡ cond own (cond (asks item.call) 1 0) 0
    by true ask = one (asks item.call)
      where
        one : (b : Bool) → length (cond b (item ∷ []) []) ≡ cond b 1 0
        one true = refl
        one false = refl
    by false ask = refl

-- and before one that asks there is one less than there are
pub ask-left : (n : ℕ) (items : List GroupItem) (item : GroupItem) → n < length items → item ≡ get_or items n item
    → asks item.call ≡ true
    → length (asking (lane_lines item.cpu.number (take n items)))
    < length (asking (lane_lines item.cpu.number items))
ask-left n items item below is ask =
    let c = item.cpu.number in
    let more = asks-more c n items item below is
    ∙ ap (λ (b : Bool). length (asking (lane_lines c (take n items))) + cond b (cond (asks item.call) 1 0) 0)
    (eq-eqb c c refl)
    ∙ ap (λ (b : Bool). length (asking (lane_lines c (take n items))) + cond b 1 0) ask in
    let all = ap (λ lines. length (asking (lane_lines c lines))) (sym (take-append-drop (n + 1) items))
    ∙ asks-append c (take (n + 1) items) (drop (n + 1) items) in
    omega (arith, more, all)

-- the lines of a lane round one of them
pub lane-round : (above items : List GroupItem) (item : GroupItem)
    → lane_lines item.cpu.number (above ++ (item ∷ items))
    ≡ lane_lines item.cpu.number above ++ (item ∷ lane_lines item.cpu.number items)
lane-round above items item =
    let c = item.cpu.number in
    lane-append c above (item ∷ items)
    ∙ ap (λ (b : Bool). lane_lines c above ++ cond b (item ∷ lane_lines c items) (lane_lines c items))
    (eq-eqb c c refl)
