-- How the volumes follow a line.
use Rattle.std.proofs.Common.{◌≡◌, ℕ, ◌+◌, ◌*◌, ◌^◌, ◌<◌, ◌≤◌, List, ◌∷◌, length, get_or, set, length-set}
use Rattle.std.proofs.Common.{get_or-set_same, get_or-set_other, nat_eq, if◌then◌else◌, refl, sym, ap, subst, ◌∙◌}
use Rattle.std.proofs.Common.{arith, inl, inr}
use Rattle.std.proofs.lemmas.Bool.{cases_eq}
use Rattle.std.proofs.lemmas.Bool.Decides.{nat_tests}
use Rattle.vms_base.specs.declared.ids.CpuId.{CpuId}
use Rattle.vms_base.specs.Common.{cell, most_volume}
use Rattle.vms_base.proofs.Common.{cell-injective, cell-lt}
use Rattle.vms_text.specs.declared.acts.Act.{Act}
use Rattle.vms_text.specs.declared.acts.Lane.TheVariants.{Cpu}
use Rattle.vms_text.specs.declared.acts.Line.{Line}
use Rattle.vms_text.specs.declared.acts.Line.TheVariants.{Lane}
use Rattle.vms_script.specs.declared.volumes.VolumeTable.{VolumeTable}
use Rattle.vms_script.specs.Common.{by_cpu, volume, HasCell, TellsVolumes, new_volume, volume_at, with_new_volume}

-- the test of a number by another
at_equal : (a b x y : ℕ) → a ≡ b → (if nat_eq a b then x else y) ≡ x
at_equal a b x y same = grind (arith, nat_tests)

if_other : (a b x y : ℕ) → (a ≡ b → ⊥) → (if nat_eq a b then x else y) ≡ y
if_other a b x y other = grind (arith, nat_tests)

-- what a table that tells the volumes has at a CPU and a thing
pub volume_at-is : (cpus width : ℕ) (spent : ℕ → ℕ → ℕ) (table : VolumeTable) (c thing : ℕ)
    → TellsVolumes cpus width spent table → c < cpus → thing < width
    → volume_at table c thing ≡ spent c thing
volume_at-is cpus width spent table c thing tells below within =
    ap (λ w. get_or table.sums (cell w c thing) 0) tells.same_width ∙ tells.is c thing below within

pub HasCell-of : (cpus width : ℕ) (spent : ℕ → ℕ → ℕ) (table : VolumeTable) (c thing : ℕ)
    → TellsVolumes cpus width spent table → c < cpus → thing < width
    → cpus * width < 2 ^ 32 → HasCell table c thing
HasCell-of cpus width spent table c thing tells below within few = record {
  within = subst (λ w. cell w c thing < length table.sums) (sym tells.same_width)
      (omega (arith, cell-lt width cpus c thing below within, tells.each));
  most = omega (arith, volume_at-is cpus width spent table c thing tells below within, tells.most c thing below within);
  few = omega (arith, tells.each);
}

-- the volumes after a line that adds to none
pub TellsVolumes-still : (cpus width : ℕ) (measure : ℕ → Act
    → ℕ) (lines : List Line) (line : Line) (table : VolumeTable)
    → ((c k : ℕ) → by_cpu c (measure k) line ≡ 0)
    → TellsVolumes cpus width (λ c k. volume (measure k) c lines) table
    → TellsVolumes cpus width (λ c k. volume (measure k) c (line ∷ lines)) table
TellsVolumes-still cpus width measure lines line table nothing tells = record {
  same_width = tells.same_width;
  each = tells.each;
  is = λ c k below within. omega (arith, tells.is c k below within, nothing c k);
  most = λ c k below within. omega (arith, tells.most c k below within, nothing c k);
}

module _ (measure : ℕ → Act → ℕ) (cpu : CpuId) (act : Act) (thing size : ℕ)
    (adds : measure thing act ≡ size) (others : (k : ℕ) → (k ≡ thing → ⊥) → measure k act ≡ 0) where
  -- an act adds its size to one volume
  by_cpu-here : by_cpu cpu.number (measure thing) (Lane (Cpu cpu) act) ≡ size
  by_cpu-here = at_equal cpu.number cpu.number (measure thing act) 0 refl ∙ adds

  -- and nothing to another
  by_cpu-thing : (c k : ℕ) → (k ≡ thing → ⊥) → by_cpu c (measure k) (Lane (Cpu cpu) act) ≡ 0
  by_cpu-thing c k other = elim (cases_eq cpu.number c) [
    | inl same ↦ at_equal cpu.number c (measure k act) 0 same ∙ others k other
    | inr apart ↦ if_other cpu.number c (measure k act) 0 apart
  ]

  by_cpu-apart : (c k : ℕ) → (c ≡ cpu.number → ⊥) → by_cpu c (measure k) (Lane (Cpu cpu) act) ≡ 0
  by_cpu-apart c k other = if_other cpu.number c (measure k act) 0 (λ e. other (sym e))

  -- the list with one volume more says what the volumes are past the act
  spent_is : (cpus width : ℕ) (lines : List Line) (sums : List ℕ) (c k : ℕ)
      → cell width cpu.number thing < length sums → thing < width → k < width
      → get_or sums (cell width c k) 0 ≡ volume (measure k) c lines
      → get_or (set sums (cell width cpu.number thing) (get_or sums (cell width cpu.number thing) 0 + size))
      (cell width c k) 0
      ≡ by_cpu c (measure k) (Lane (Cpu cpu) act) + volume (measure k) c lines
  spent_is cpus width lines sums c k in_sums within k_within before = elim (cases_eq k thing) [
    | inl is ↦ elim (cases_eq c cpu.number) [
      | inl same ↦
          let moved : cell width c k ≡ place = ap (λ j. cell width c j) is ∙ ap (λ d. cell width d thing) same in
          let added : by_cpu c (measure k) (Lane (Cpu cpu) act) ≡ size =
          ap (λ j. by_cpu c (measure j) (Lane (Cpu cpu) act)) is
          ∙ ap (λ d. by_cpu d (measure thing) (Lane (Cpu cpu) act)) same ∙ by_cpu-here in
          let read : get_or (set sums place more) (cell width c k) 0 ≡ more =
          ap (λ j. get_or (set sums place more) j 0) moved ∙ get_or-set_same sums place more 0 in_sums in
          let old : get_or sums place 0 ≡ volume (measure k) c lines = ap (λ j. get_or sums j 0) (sym moved) ∙ before in
          omega (arith, added, read, old)
      | inr apart ↦
          let zero_here = by_cpu-apart c k apart in
          let read : get_or (set sums place more) (cell width c k) 0 ≡ get_or sums (cell width c k) 0 =
          get_or-set_other sums place (cell width c k) more 0
          (λ e. apart (cell-injective width c k cpu.number thing k_within within e).0) in
          omega (arith, zero_here, read, before)
    ]
    | inr other ↦
        let zero_here = by_cpu-thing c k other in
        let read : get_or (set sums place more) (cell width c k) 0 ≡ get_or sums (cell width c k) 0 =
        get_or-set_other sums place (cell width c k) more 0
        (λ e. other (cell-injective width c k cpu.number thing k_within within e).1) in
        omega (arith, zero_here, read, before)
  ]
    where
      place : ℕ
      place = cell width cpu.number thing

      more : ℕ
      more = get_or sums (cell width cpu.number thing) 0 + size

  -- no volume is past the most where that one isn't
  spent_most : (lines : List Line) (c k : ℕ) → volume (measure thing) cpu.number lines + size ≤ most_volume
      → volume (measure k) c lines ≤ most_volume
      → by_cpu c (measure k) (Lane (Cpu cpu) act) + volume (measure k) c lines ≤ most_volume
  spent_most lines c k affordable before = elim (cases_eq k thing) [
    | inl is ↦ elim (cases_eq c cpu.number) [
      | inl same ↦
          subst (λ d. by_cpu d (measure k) (Lane (Cpu cpu) act) + volume (measure k) d lines ≤ most_volume) (sym same)
          (subst (λ j. by_cpu cpu.number (measure j) (Lane (Cpu cpu) act) + volume
          (measure j) cpu.number lines ≤ most_volume) (sym is)
          (omega (arith, by_cpu-here, affordable)))
      | inr apart ↦ omega (arith, by_cpu-apart c k apart, before)
    ]
    | inr other ↦ omega (arith, by_cpu-thing c k other, before)
  ]

  -- the volumes after an act of a CPU's lane that adds to one
  pub TellsVolumes-spent : (cpus width : ℕ) (lines : List Line) (table : VolumeTable)
      → cpu.number < cpus → thing < width → volume_at table cpu.number thing + size ≤ most_volume
      → TellsVolumes cpus width (λ c k. volume (measure k) c lines) table
      → TellsVolumes cpus width (λ c k. volume (measure k) c (Lane (Cpu cpu) act ∷ lines))
      (with_new_volume table (new_volume table cpu.number thing size))
  TellsVolumes-spent cpus width lines table below within affordable tells = record {
    same_width = tells.same_width;
    each = length-set table.sums (cell table.width cpu.number thing)
        (volume_at table cpu.number thing + size) ∙ tells.each;
    is = λ c k c_below k_within.
        subst (λ w. get_or (set table.sums (cell w cpu.number thing) (get_or table.sums
        (cell w cpu.number thing) 0 + size)) (cell width c k) 0
        ≡ by_cpu c (measure k) (Lane (Cpu cpu) act) + volume (measure k) c lines) (sym tells.same_width)
        (spent_is cpus width lines table.sums c k (omega
        (arith, cell-lt width cpus cpu.number thing below within, tells.each))
        within k_within (tells.is c k c_below k_within));
    most = λ c k c_below k_within. spent_most lines c k
        (omega (
          arith,
          affordable,
          volume_at-is cpus width (λ d j. volume
              (measure j) d lines) table cpu.number thing tells below within,
        ))
        (tells.most c k c_below k_within);
  }

-- an act that adds nothing, whose lane it is in
pub by_cpu-nothing : (measure : Act → ℕ) (c : ℕ) (cpu : CpuId) (act : Act) → measure act ≡ 0
    → by_cpu c measure (Lane (Cpu cpu) act) ≡ 0
by_cpu-nothing measure c cpu act nothing = elim (cases_eq cpu.number c) [
  | inl same ↦ at_equal cpu.number c (measure act) 0 same ∙ nothing
  | inr apart ↦ if_other cpu.number c (measure act) 0 apart
]

-- what a measure of one thing says of it, and of another
pub measure-here : (k size : ℕ) → (if nat_eq k k then size else 0) ≡ size
measure-here k size = at_equal k k size 0 refl

pub measure-other : (k j size : ℕ) → (j ≡ k → ⊥) → (if nat_eq k j then size else 0) ≡ 0
measure-other k j size other = if_other k j size 0 (λ e. other (sym e))
