-- For other crates too: how the volumes follow a line that counts.
use Rattle.std.proofs.Common.{◌≡◌, ℕ, ◌+◌, ◌<◌, ◌≤◌, List, ◌∷◌, length, get_or, set, length-set, get_or-set_same, ℤ}
use Rattle.std.proofs.Common.{get_or-set_other, nat_eq, nat_lt, if◌then◌else◌, Bool, true, false, refl, sym, ap, ap₂}
use Rattle.std.proofs.Common.{subst, ◌∙◌, arith, unsigned_abs, Result, Ok, Err, IfOk}
use Rattle.std.proofs.lemmas.Bool.Decides.{nat_tests}
use Rattle.std.proofs.lemmas.Result.{IfOk-at_ok}
use Rattle.vms_history.specs.Common.{CpuId, cell, most_volume}
use Rattle.vms_base.proofs.Common.{cell-injective, cell-lt}
use Rattle.vms_group_core.specs.declared.call_values.GroupCall.{GroupCall}
use Rattle.vms_group_core.specs.declared.call_values.GroupCall.TheVariants.{Change, Flush, Value}
use Rattle.vms_group_core.specs.Common.{group_count}
use Rattle.vms_text.specs.Common.{and_then}
use Rattle.vms_group_lines.specs.declared.causes.GroupCause.{GroupCause}
use Rattle.vms_group_lines.specs.declared.causes.GroupCause.TheVariants.{Overflow}
use Rattle.vms_group_lines.specs.declared.headers.GroupHeader.{GroupHeader}
use Rattle.vms_group_lines.specs.declared.judges.GroupJudge.{GroupJudge}
use Rattle.vms_group_lines.specs.declared.lines.GroupLine.{GroupLine}
use Rattle.vms_group_lines.specs.declared.lines.GroupLine.TheVariants.{Blank, Lane, Sync, Report}
use Rattle.vms_group_lines.specs.Common.{Decides, GroupJudgeStands, IsGroupHeader, IsGroupLineOf, StayWithinVolumes}
use Rattle.vms_group_lines.specs.Common.{allowed_group_line, answered, exceeds_volume, group_volume, judged_group}
use Rattle.vms_group_lines.specs.Common.{read_group_line, with_group_line}
use Rattle.vms_group_lines.proofs.LinesKnown.{read_group_line-known}
use Rattle.vms_group_lines.proofs.Results.{IfOk-if}

-- a change of group g by CPU d, of this size
module _ (d g size : ℕ) where
  -- what it adds to the volume of CPU c on group k
  abbrev added : ℕ → ℕ → ℕ
  added c k = if nat_eq d c then (if nat_eq g k then size else 0) else 0

  -- no volume is past the most where that one isn't
  added-within : (volume : ℕ → ℕ → ℕ) → volume d g + size ≤ most_volume → (c k : ℕ) → volume c k ≤ most_volume
      → added c k + volume c k ≤ most_volume
  added-within volume fits c k before = by (nat_eq d c) (nat_eq g k) refl refl
    where
      by : (same_cpu same_group : Bool) → nat_eq d c ≡ same_cpu → nat_eq g k ≡ same_group
          → (if same_cpu then (if same_group then size else 0) else 0) + volume c k ≤ most_volume
      by true true cpu group =
          let cpu_is : d ≡ c = grind (arith, nat_tests) in
          let group_is : g ≡ k = grind (arith, nat_tests) in
          omega (arith, fits, ap₂ volume cpu_is group_is)
      by true false cpu group = omega (arith, before)
      by false same_group cpu group = omega (arith, before)

  -- the list with one volume more
  added-set : (width : ℕ) (volumes : List ℕ) (c k : ℕ) → cell width d g < length volumes → g < width → k < width
      → get_or (set volumes (cell width d g) (get_or volumes (cell width d g) 0 + size)) (cell width c k) 0
      ≡ added c k + get_or volumes (cell width c k) 0
  added-set width volumes c k within g_within k_within = by (nat_eq d c) (nat_eq g k) refl refl
    where
      place : ℕ
      place = cell width d g

      more : ℕ
      more = get_or volumes (cell width d g) 0 + size

      apart : (cell width c k ≡ cell width d g → ⊥) → get_or (set volumes (cell width d g) (get_or volumes
          (cell width d g) 0 + size)) (cell width c k) 0 ≡ 0 + get_or volumes (cell width c k) 0
      apart other =
          let read = get_or-set_other volumes (cell width d g) (cell width c k)
          (get_or volumes (cell width d g) 0 + size) 0 other in
          omega (arith, read)

      by : (same_cpu same_group : Bool) → nat_eq d c ≡ same_cpu → nat_eq g k ≡ same_group
          → get_or (set volumes (cell width d g) (get_or volumes (cell width d g) 0 + size)) (cell width c k) 0
          ≡ (if same_cpu then (if same_group then size else 0) else 0) + get_or volumes (cell width c k) 0
      by true true cpu group =
          let cpu_is : c ≡ d = grind (arith, nat_tests) in
          let group_is : k ≡ g = grind (arith, nat_tests) in
          let at : cell width c k ≡ cell width d g = ap₂ (λ c k. cell width c k) cpu_is group_is in
          let read = ap (λ i. get_or (set volumes (cell width d g) (get_or volumes (cell width d g) 0 + size)) i 0) at
          ∙ get_or-set_same volumes (cell width d g) (get_or volumes (cell width d g) 0 + size) 0 within in
          let before = ap (λ i. get_or volumes i 0) at in
          omega (arith, read, before)
      by true false cpu group = apart (λ same.
          let both = cell-injective width c k d g k_within g_within same in
          let is = both.1 in absurd (grind (arith, nat_tests)))
      by false same_group cpu group = apart (λ same.
          let both = cell-injective width c k d g k_within g_within same in
          let is = both.0 in absurd (grind (arith, nat_tests)))

-- a judge of the same volumes stands where the other does
GroupJudgeStands-same : (header : GroupHeader) (lines : List GroupLine) (old new : GroupJudge)
    → new.volumes ≡ old.volumes → GroupJudgeStands header lines old → GroupJudgeStands header lines new
GroupJudgeStands-same header lines old new same stands = record {
  each = ap length same ∙ stands.each;
  is = λ c g below within. ap (λ volumes. get_or volumes (cell (group_count header.tree) c g) 0) same
      ∙ stands.is c g below within;
  most = stands.most;
}

-- a judge decides a change of group g by this amount, by the volume at an index and the size
module _ (header : GroupHeader) (cpu : CpuId) (g : ℕ) (amount : ℤ) (old new : GroupJudge)
    (result : Result (Unit {0}) GroupCause) (cpu_known : cpu.number < header.tree.cpus)
    (known : g < group_count header.tree) where
  abbrev line : GroupLine
  line = Lane cpu (Change g amount)

  abbrev place : ℕ
  place = cell (group_count header.tree) cpu.number g

  -- whether the size is too much at an index, what is then decided, and what is then left of the volumes
  abbrev exceeds : ℕ → ℕ → Bool
  exceeds index size = nat_lt most_volume (get_or old.volumes index 0 + size)

  abbrev decided : Bool → Result (Unit {0}) GroupCause
  decided over = if over then Err Overflow else Ok tt

  abbrev left : ℕ → ℕ → Bool → List ℕ
  left index size over = if over then old.volumes else set old.volumes index (get_or old.volumes index 0 + size)

  GroupJudgeStands-spent : (lines : List GroupLine)
      → group_volume cpu.number g lines + unsigned_abs amount ≤ most_volume
      → new.volumes ≡ set old.volumes place (get_or old.volumes place 0 + unsigned_abs amount)
      → GroupJudgeStands header lines old → GroupJudgeStands header (line ∷ lines) new
  GroupJudgeStands-spent lines fits is stands =
      let width = group_count header.tree in
      let in_list : place < length old.volumes = omega (
        arith,
        cell-lt width header.tree.cpus cpu.number g cpu_known known,
        stands.each,
      ) in
      record {
        each = ap length is
            ∙ length-set old.volumes place (get_or old.volumes place 0 + unsigned_abs amount) ∙ stands.each;
        is = λ c k below within. ap (λ volumes. get_or volumes (cell width c k) 0) is
            ∙ added-set cpu.number g (unsigned_abs amount) width old.volumes c k in_list known within
            ∙ ap (λ n. added cpu.number g (unsigned_abs amount) c k + n) (stands.is c k below within);
        most = λ c k below within. added-within cpu.number g (unsigned_abs amount) (λ c k. group_volume c k lines) fits
            c k (stands.most c k below within);
      }

  decides : (lines : List GroupLine) → GroupJudgeStands header lines old → (over : Bool)
      → exceeds place (unsigned_abs amount) ≡ over → result ≡ decided over
      → new.volumes ≡ left place (unsigned_abs amount) over
      → (answered line result ≡ allowed_group_line lines line)
      × GroupJudgeStands header (with_group_line (answered line result) lines) new
  decides lines stands true is answer volumes =
      let here = stands.is cpu.number g cpu_known known in
      let over : exceeds_volume lines cpu.number (Change g amount) ≡ true =
      ap (λ n. nat_lt most_volume (n + unsigned_abs amount)) (sym here) ∙ is in
      let refused : allowed_group_line lines line ≡ Err Overflow = rw over refl in (
        ap (answered line) answer ∙ sym refused,
        subst (λ (a : Result (Unit {0}) GroupCause).
            GroupJudgeStands header (with_group_line (answered line a) lines) new) (sym answer)
            (GroupJudgeStands-same header lines old new volumes stands),
      )
  decides lines stands false is answer volumes =
      let here = stands.is cpu.number g cpu_known known in
      let over : exceeds_volume lines cpu.number (Change g amount) ≡ false =
      ap (λ n. nat_lt most_volume (n + unsigned_abs amount)) (sym here) ∙ is in
      let fits : group_volume cpu.number g lines + unsigned_abs amount ≤ most_volume = grind (arith, nat_tests) in
      let counts : allowed_group_line lines line ≡ Ok line = rw over refl in (
        ap (answered line) answer ∙ sym counts,
        subst (λ (a : Result (Unit {0}) GroupCause).
            GroupJudgeStands header (with_group_line (answered line a) lines) new) (sym answer)
            (GroupJudgeStands-spent lines fits volumes stands),
      )

  pub Decides-change : (index size : ℕ) → index ≡ place → size ≡ unsigned_abs amount
      → result ≡ decided (exceeds index size) → new.volumes ≡ left index size (exceeds index size)
      → Decides header line old new result
  Decides-change index size at size_is answer volumes = λ lines stands.
      decides lines stands (exceeds place (unsigned_abs amount)) refl
      (answer ∙ ap₂ (λ i n. decided (exceeds i n)) at size_is)
      (volumes ∙ ap₂ (λ i n. left i n (exceeds i n)) at size_is)

-- a line that was read and then decided is judged
pub judged_group-decided : (header : GroupHeader) (lines : List GroupLine) (text : List ℕ) (said : GroupLine)
    (result : Result (Unit {0}) GroupCause) (answer : Result GroupLine GroupCause) (judge : GroupJudge)
    → read_group_line header text ≡ Ok said → answered said result ≡ answer
    → (answered said result ≡ allowed_group_line lines said)
    × GroupJudgeStands header (with_group_line (answered said result) lines) judge
    → (answer ≡ judged_group header lines text) × GroupJudgeStands header (with_group_line answer lines) judge
judged_group-decided header lines text said result answer judge read is decided = (
  sym is ∙ decided.0 ∙ sym (ap (λ (r : Result GroupLine GroupCause). and_then r (allowed_group_line lines)) read),
  subst (λ (a : Result GroupLine GroupCause). GroupJudgeStands header (with_group_line a lines) judge) is decided.1,
)

-- a call that doesn't exceed its volume keeps all volumes within the most
call-within : (lines : List GroupLine) (cpu : CpuId) (call : GroupCall) → exceeds_volume lines cpu.number call ≡ false
    → StayWithinVolumes lines → StayWithinVolumes (Lane cpu call ∷ lines)
call-within lines cpu (Change g amount) fits within = λ c k.
    added-within cpu.number g (unsigned_abs amount) (λ c k. group_volume c k lines) (small _ fits) c k (within c k)
  where
    small : (n : ℕ) → nat_lt most_volume n ≡ false → n ≤ most_volume
    small n test = grind (arith, nat_tests)
call-within lines cpu (Flush g) fits within = λ c k. grind (arith, nat_tests, within c k)
call-within lines cpu (Value g) fits within = λ c k. grind (arith, nat_tests, within c k)

-- a line that counts is the one that was read, and keeps all volumes within the most
abbrev Keeps : List GroupLine → GroupLine → GroupLine → Type 0
Keeps lines said line = (said ≡ line) × (StayWithinVolumes lines → StayWithinVolumes (line ∷ lines))

allowed_group_line-keeps : (lines : List GroupLine) (said : GroupLine)
    → IfOk (allowed_group_line lines said) (Keeps lines said)
allowed_group_line-keeps lines Blank = (refl, λ within c g. omega (arith, within c g))
allowed_group_line-keeps lines Sync = (refl, λ within c g. omega (arith, within c g))
allowed_group_line-keeps lines Report = (refl, λ within c g. omega (arith, within c g))
allowed_group_line-keeps lines (Lane cpu call) =
    IfOk-if (Keeps lines (Lane cpu call)) (exceeds_volume lines cpu.number call) (Err Overflow) (Ok (Lane cpu call))
    (λ _. tt) (λ fits. (refl, call-within lines cpu call fits))

pub judged_group-fits : (header : GroupHeader) (lines : List GroupLine) (text : List ℕ) (line : GroupLine)
    → IsGroupHeader header → judged_group header lines text ≡ Ok line
    → IsGroupLineOf header line × (StayWithinVolumes lines → StayWithinVolumes (line ∷ lines))
judged_group-fits header lines text line is judged =
    by (read_group_line header text) (read_group_line-known header is text) judged
  where
    by : (read : Result GroupLine GroupCause) → IfOk read (IsGroupLineOf header)
        → and_then read (allowed_group_line lines) ≡ Ok line
        → IsGroupLineOf header line × (StayWithinVolumes lines → StayWithinVolumes (line ∷ lines))
    by (Ok said) known counts =
        let kept = IfOk-at_ok (Keeps lines said) counts (allowed_group_line-keeps lines said) in
        (subst (IsGroupLineOf header) kept.0 known, kept.1)
    by (Err cause) known counts = absurd cc
