-- For other crates too: the sizes of the changes of all lanes, by the volumes of the CPUs.
use Rattle.std.proofs.Common.{◌≡◌, ℕ, zero, suc, ◌+◌, ◌*◌, ◌<◌, ◌≤◌, List, [], ◌∷◌, ◌++◌, map, All, nat_eq, nat_lt}
use Rattle.std.proofs.Common.{if◌then◌else◌, refl, sym, arith}
use Rattle.std.proofs.lemmas.Bool.Decides.{nat_tests}
use Rattle.vms_base.specs.declared.headers.Header.{Header}
use Rattle.vms_base.specs.Common.{IsHeader, IsCounter, most_volume}
use Rattle.vms_text.specs.declared.acts.Act.{Act}
use Rattle.vms_text.specs.declared.acts.Act.TheVariants.{Mod, Inc, Dec, Ev}
use Rattle.vms_text.specs.declared.acts.Item.{Item}
use Rattle.vms_text.specs.declared.acts.Lane.{Lane as LaneOf}
use Rattle.vms_text.specs.declared.acts.Lane.TheVariants.{Cpu, Control}
use Rattle.vms_text.specs.declared.acts.Line.{Line}
use Rattle.vms_text.specs.declared.acts.Line.TheVariants.{Blank, Lane, Boundary}
use Rattle.vms_line.specs.Common.{IsActOf, IsLineOf}
use Rattle.vms_script.specs.Common.{ArePhases, line_of, lines_of_phases, sizes_by, sizes_by_all, by_cpu}
use Rattle.vms_script.specs.Common.{spent_on_counter, volume}

-- a measure of the act of a line, if it is one of the lane of a CPU below n
abbrev by_first : ℕ → (Act → ℕ) → Line → ℕ
by_first n measure (Lane (Cpu cpu) act) = if nat_lt cpu.number n then measure act else 0
by_first n measure _ = 0

-- the volume of the CPUs below n together
abbrev volume_of_first : ℕ → (Act → ℕ) → List Line → ℕ
volume_of_first n measure [] = 0
volume_of_first n measure (line ∷ lines) = by_first n measure line + volume_of_first n measure lines

if_below_none : (a size : ℕ) → (if nat_lt a 0 then size else 0) ≡ 0
if_below_none a size = grind (arith, nat_tests)

if_below_more : (a n size : ℕ)
    → (if nat_lt a (suc n) then size else 0) ≡ (if nat_eq a n then size else 0) + (if nat_lt a n then size else 0)
if_below_more a n size = grind (arith, nat_tests)

if_below-most : (a n size : ℕ) → a < n → (if nat_lt a n then size else 0) ≡ size
if_below-most a n size below = grind (arith, nat_tests)

by_first-none : (measure : Act → ℕ) (line : Line) → by_first 0 measure line ≡ 0
by_first-none measure (Lane (Cpu cpu) act) = if_below_none cpu.number (measure act)
by_first-none measure (Lane Control act) = refl
by_first-none measure Blank = refl
by_first-none measure (Boundary boundary) = refl

by_first-more : (n : ℕ) (measure : Act → ℕ) (line : Line)
    → by_first (suc n) measure line ≡ by_cpu n measure line + by_first n measure line
by_first-more n measure (Lane (Cpu cpu) act) = if_below_more cpu.number n (measure act)
by_first-more n measure (Lane Control act) = omega arith
by_first-more n measure Blank = omega arith
by_first-more n measure (Boundary boundary) = omega arith

volume_of_first-none : (measure : Act → ℕ) (lines : List Line) → volume_of_first 0 measure lines ≡ 0
volume_of_first-none measure [] = refl
volume_of_first-none measure (line ∷ lines) =
    omega (arith, by_first-none measure line, volume_of_first-none measure lines)

-- with one CPU more, its volume more
volume_of_first-more : (n : ℕ) (measure : Act → ℕ) (lines : List Line)
    → volume_of_first (suc n) measure lines ≡ volume measure n lines + volume_of_first n measure lines
volume_of_first-more n measure [] = omega arith
volume_of_first-more n measure (line ∷ lines) =
    omega (arith, by_first-more n measure line, volume_of_first-more n measure lines)

-- where no CPU's volume exceeds a most, all together exceed no more than that for each
volume_of_first-most : (n most : ℕ) (measure : Act → ℕ) (lines : List Line)
    → ((c : ℕ) → c < n → volume measure c lines ≤ most) → volume_of_first n measure lines ≤ n * most
volume_of_first-most zero most measure lines each = omega (arith, volume_of_first-none measure lines)
volume_of_first-most (suc n) most measure lines each = omega (
  arith,
  volume_of_first-more n measure lines,
  each n (omega arith),
  volume_of_first-most n most measure lines (λ c below. each c (omega arith)),
)

volume_of_first-append : (n : ℕ) (measure : Act → ℕ) (xs ys : List Line)
    → volume_of_first n measure (xs ++ ys) ≡ volume_of_first n measure xs + volume_of_first n measure ys
volume_of_first-append n measure [] ys = omega arith
volume_of_first-append n measure (line ∷ xs) ys = omega (arith, volume_of_first-append n measure xs ys)

-- the control lane changes no counter
spent_by_control : (header : Header) (k : ℕ) (act : Act) → IsActOf header Control act → spent_on_counter k act ≡ 0
spent_by_control header k (Mod counter pages) known = absurd known.0
spent_by_control header k (Inc counter) known = absurd known.0
spent_by_control header k (Dec counter) known = absurd known.0
spent_by_control header k (Ev event n) known = refl
spent_by_control header k _ known = refl

module _ (header : Header) (k : ℕ) where
  -- each change of a counter is one of a CPU of the layout
  spent_by_first : (lane : LaneOf) (act : Act) → IsLineOf header (Lane lane act)
      → spent_on_counter k act ≡ by_first header.layout.cpus (spent_on_counter k) (Lane lane act)
  spent_by_first (Cpu cpu) act known =
      sym (if_below-most cpu.number header.layout.cpus (spent_on_counter k act) known.0)
  spent_by_first Control act known = spent_by_control header k act known.1

  sizes_by-is : (items : List Item) → All (λ item. IsLineOf header (line_of item)) items
      → sizes_by k items ≡ volume_of_first header.layout.cpus (spent_on_counter k) (map line_of items)
  sizes_by-is [] known = refl
  sizes_by-is (item ∷ items) known =
      omega (
        arith,
        spent_by_first item.lane item.act (known 0 item (omega arith)),
        sizes_by-is items (λ j d below. known (suc j) d (omega arith)),
      )

  sizes_by_all-is : (phases : List (List Item)) → All (All (λ item. IsLineOf header (line_of item))) phases
      → sizes_by_all k phases ≡ volume_of_first header.layout.cpus (spent_on_counter k) (lines_of_phases phases)
  sizes_by_all-is [] known = refl
  sizes_by_all-is (items ∷ phases) known = omega (
    arith,
    sizes_by-is items (known 0 items (omega arith)),
    sizes_by_all-is phases (λ j d below. known (suc j) d (omega arith)),
    volume_of_first-append header.layout.cpus (spent_on_counter k) (map line_of items) (lines_of_phases phases),
  )

-- all the changes of a counter together
pub sizes_by_all-most : (header : Header) (k : ℕ) (phases : List (List Item)) → IsHeader header
    → ArePhases header phases → IsCounter header.layout k → sizes_by_all k phases ≤ 128 * most_volume
sizes_by_all-most header k phases is_header are counter = omega (
  arith,
  is_header.is_layout.cpus_most,
  sizes_by_all-is header k phases are.known,
  volume_of_first-most header.layout.cpus most_volume (spent_on_counter k) (lines_of_phases phases)
      (λ c below. are.most c k below counter),
)
