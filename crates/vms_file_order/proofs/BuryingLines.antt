-- For other crates too: what the lines of a phase say of a CPU: it stays as it was, or one of them buries it.
use Rattle.std.proofs.Common.{◌≡◌, ◌≢◌, ℕ, zero, suc, nat_eq, Bool, true, false, List, [], ◌∷◌, map, inl, inr, ◌⊎◌}
use Rattle.std.proofs.Common.{refl, sym, ap, subst, ◌∙◌, arith, if◌then◌else◌, eq-eqb, eqb-true}
use Rattle.std.specs.Prelude.{All, filter}
use Rattle.std.specs.List.{Contains}
use Rattle.std.proofs.lemmas.List.Elements.{All-head, All-tail}
use Rattle.vms_world.specs.Common.{Header, CpuId, CpuState, Absent, cpu_at, IsActOf, IsLineOf, state_past, is_lane}
use Rattle.vms_world.specs.Common.{Start, start_at_end, start_past, line_of, Act, Item, Lane, Cpu, Control, acts_of}
use Rattle.vms_text.specs.declared.acts.Act.TheVariants.{Dead}
use Rattle.vms_text.specs.declared.acts.Line.TheVariants.{Lane as LaneLine}
use Rattle.vms_world.specs.declared.worlds.World.{World}
use Rattle.vms_file_order.specs.Common.{AbsentAreBuried, HasStates}

Contains-later : {X : Type 0} (y x : X) (xs : List X) → Contains xs x → Contains (y ∷ xs) x
Contains-later y x xs (k, within, is) = (suc k, omega arith, is)

-- the control lane's acts with a line before them
contains-later : (item : Item) (items : List Item) (a : Act) → Contains (acts_of Control items) a
    → Contains (acts_of Control (item ∷ items)) a
contains-later item items a has =
    by (λ i. i.act) (filter (λ i. is_lane i.lane Control) items) (is_lane item.lane Control) has
  where
    by : (act : Item → Act) (rest : List Item) (b : Bool) → Contains (map act rest) a
        → Contains (map act (if b then item ∷ rest else rest)) a
    by act rest true has = Contains-later (act item) a (map act rest) has
    by act rest false has = has

contains-first : (n : ℕ) (items : List Item) (a : Act)
    → Contains (acts_of Control (record { number = n; lane = Control; act = a } ∷ items)) a
contains-first n items a = (0, omega arith, refl)

-- it is the first of these, or one of the rest
contains-either : (item : Item) (items : List Item) (a : Act) → Contains (acts_of Control (item ∷ items)) a
    → (item.act ≡ a) ⊎ Contains (acts_of Control items) a
contains-either item items a has =
    by (λ i. i.act) (filter (λ i. is_lane i.lane Control) items) (is_lane item.lane Control) has
  where
    first : (act : Item → Act) (rest : List Item) → Contains (act item ∷ map act rest) a
        → (act item ≡ a) ⊎ Contains (map act rest) a
    first act rest (zero, within, is) = inl is
    first act rest (suc k, within, is) = inr (k, omega (arith, within), is)

    by : (act : Item → Act) (rest : List Item) (b : Bool) → Contains (map act (if b then item ∷ rest else rest)) a
        → (act item ≡ a) ⊎ Contains (map act rest) a
    by act rest true has = first act rest has
    by act rest false has = inr has

-- one line: a CPU is after it in the state that it was in before it, or the line buries it
state-by_line : (header : Header) (number : ℕ) (lane : Lane) (a : Act) (items : List Item) (c : CpuId)
    (before : CpuState) → IsActOf header lane a
    → (state_past c.number (LaneLine lane a) before ≡ before)
    ⊎ Contains (acts_of Control (record { number = number; lane = lane; act = a } ∷ items)) (Dead c)
state-by_line header number Control (Dead d) items c before known = by (nat_eq d.number c.number) refl
  where
    by : (b : Bool) → nat_eq d.number c.number ≡ b
        → ((if b then Absent else before) ≡ before)
        ⊎ Contains (acts_of Control (record { number = number; lane = Control; act = Dead d } ∷ items)) (Dead c)
    by true same =
        let one : d ≡ c = ap (λ n. let cpu : CpuId = record { number = n } in cpu) (eqb-true d.number c.number same) in
        inr (subst (λ (x : CpuId). Contains (acts_of Control (record { number = number; lane = Control; act = Dead x }
        ∷ items)) (Dead c)) (sym one) (contains-first number items (Dead c)))
    by false other = inl refl
state-by_line header number (Cpu d) (Dead e) items c before known = absurd known.0
state-by_line header number lane _ items c before known = inl refl

module _ (header : Header) (c : CpuId) where
  abbrev AreKnown : List Item → Type 0
  AreKnown items = All (λ item. IsLineOf header (line_of item)) items

  pub state-by_lines : (start : Start) (items : List Item) → AreKnown items
      → ((start_at_end start (map line_of items)).state c.number ≡ start.state c.number)
      ⊎ Contains (acts_of Control items) (Dead c)
  state-by_lines start [] known = inl refl
  state-by_lines start (item ∷ items) known = by
      (state-by_lines (start_past (line_of item) start) items
      (All-tail (λ i. IsLineOf header (line_of i)) item items known))
    where
      now : ((start_past (line_of item) start).state c.number ≡ start.state c.number)
          ⊎ Contains (acts_of Control (item ∷ items)) (Dead c)
      now = state-by_line header item.number item.lane item.act items c (start.state c.number)
          (All-head (λ i. IsLineOf header (line_of i)) item items known).1

      both : (start_at_end start (map line_of (item ∷ items))).state c.number
          ≡ (start_past (line_of item) start).state c.number
          → ((start_past (line_of item) start).state c.number ≡ start.state c.number)
          ⊎ Contains (acts_of Control (item ∷ items)) (Dead c)
          → ((start_at_end start (map line_of (item ∷ items))).state c.number ≡ start.state c.number)
          ⊎ Contains (acts_of Control (item ∷ items)) (Dead c)
      both later (inl here) = inl (later ∙ here)
      both later (inr buries) = inr buries

      by : ((start_at_end start (map line_of (item ∷ items))).state c.number
          ≡ (start_past (line_of item) start).state c.number)
          ⊎ Contains (acts_of Control items) (Dead c)
          → ((start_at_end start (map line_of (item ∷ items))).state c.number ≡ start.state c.number)
          ⊎ Contains (acts_of Control (item ∷ items)) (Dead c)
      by (inl later) = both later now
      by (inr buries) = inr (contains-later item items (Dead c) buries)

  -- one that a line buries is absent after it
  pub state-buried : (start : Start) (items : List Item) → AreKnown items → Contains (acts_of Control items) (Dead c)
      → (start_at_end start (map line_of items)).state c.number ≡ Absent
  state-buried start [] known (k, within, is) = absurd (omega arith)
  state-buried start (item ∷ items) known has = by (contains-either item items (Dead c) has)
      (state-by_lines (start_past (line_of item) start) items tail)
      (state-buried (start_past (line_of item) start) items tail)
    where
      tail : AreKnown items
      tail = All-tail (λ i. IsLineOf header (line_of i)) item items known

      gone : item.act ≡ Dead c → (start_past (line_of item) start).state c.number ≡ Absent
      gone is = ap (λ (a : Act). state_past c.number (LaneLine item.lane a) (start.state c.number)) is
          ∙ ap (λ b. if b then Absent else start.state c.number) (eq-eqb c.number c.number refl)

      by : (item.act ≡ Dead c) ⊎ Contains (acts_of Control items) (Dead c)
          → ((start_at_end start (map line_of (item ∷ items))).state c.number
          ≡ (start_past (line_of item) start).state c.number)
          ⊎ Contains (acts_of Control items) (Dead c)
          → (Contains (acts_of Control items) (Dead c)
          → (start_at_end start (map line_of (item ∷ items))).state c.number ≡ Absent)
          → (start_at_end start (map line_of (item ∷ items))).state c.number ≡ Absent
      by (inr later) either rest = rest later
      by (inl is) (inl stays) rest = stays ∙ gone is
      by (inl is) (inr later) rest = rest later

  -- so one that isn't absent is in the state that it was in before them
  pub state-present : (start : Start) (items : List Item) → AreKnown items
      → (start_at_end start (map line_of items)).state c.number ≢ Absent
      → (start_at_end start (map line_of items)).state c.number ≡ start.state c.number
  state-present start items known present = by (state-by_lines start items known)
    where
      by : ((start_at_end start (map line_of items)).state c.number ≡ start.state c.number)
          ⊎ Contains (acts_of Control items) (Dead c)
          → (start_at_end start (map line_of items)).state c.number ≡ start.state c.number
      by (inl stays) = stays
      by (inr buries) = absurd (present (state-buried start items known buries))

pub AbsentAreBuried-lines : (header : Header) (start : Start) (w next : World) (items : List Item)
    → All (λ item. IsLineOf header (line_of item)) items → HasStates header start w
    → HasStates header (start_at_end start (map line_of items)) next → AbsentAreBuried header w items next
AbsentAreBuried-lines header start w next items known before after c c_in gone = by
    (state-by_lines header c start items known)
  where
    by : ((start_at_end start (map line_of items)).state c.number ≡ start.state c.number)
        ⊎ Contains (acts_of Control items) (Dead c)
        → (cpu_at w.pages c.number ≡ Absent) ⊎ Contains (acts_of Control items) (Dead c)
    by (inl stays) = inl (before c.number c_in ∙ sym stays ∙ sym (after c.number c_in) ∙ gone)
    by (inr buries) = inr buries
