-- Rows that are read from the words which show a state are those of the state.
use Rattle.std.proofs.Common.{◌≡◌, ℕ, ◌+◌, ◌*◌, ◌/◌, ◌%◌, ◌<◌, ◌≤◌, ◌^◌, List, length, get_or, map, slice_index, ℤ, pos}
use Rattle.std.proofs.Common.{refl, sym, ap, ◌∙◌, subst, arith}
use Rattle.std.proofs.Math.Nat.{mul_assoc, mul_comm, mul-le-mul, mul-le-mul_right}
use Rattle.std.proofs.lemmas.List.{ext_get_or, get_or-map, length-map}
use Rattle.vms_calls.specs.Common.{CpuState, Absent, AreBytes, signed_of_word, IsLayout, IsCpu, IsGroup, cell}
use Rattle.vms_calls.specs.Common.{place_count, counter_count, group_count, item_count, State, Facts, HasShape, diff_at}
use Rattle.vms_calls.specs.Common.{threshold_at, threshold_sets_at, mark_at, mark_sets_at, cpu_at, KeepsLaws, pages}
use Rattle.vms_calls.specs.Common.{History, state_after}
use Rattle.vms_base.specs.Groups.{bytes_of_word, word_of_bytes}
use Rattle.vms_base.proofs.Common.{cell-cpu, cell-lt, cell-thing, counter_count-most, group_count-whole}
use Rattle.vms_base.proofs.Common.{place_count-most}
use Rattle.vms_history.proofs.Common.{base_can_begin}
use Rattle.vms_core.specs.Pages.{IsLegal}
use Rattle.vms_core.proofs.Common.{laws-kept, places_of-shaped}
use Rattle.vms_words.specs.declared.spots.Blocks.{Blocks}
use Rattle.vms_words.specs.declared.spots.Spot.{Spot}
use Rattle.vms_words.specs.declared.spots.Spot.TheVariants.{Value, System, Group, Threshold, Mark, Cpu}
use Rattle.vms_words.specs.Common.{AreInRows, AreThere, group_at, spot_word, IsSpot, place_in, cpu_told}
use Rattle.vms_words.specs.Shown.{shown}
use Rattle.vms_words.specs.Spots.{blocks_of}
use Rattle.vms_words.proofs.Blocks.{AreBlocks, are_blocks, end-most, rows-most, width-most}
use Rattle.vms_words.proofs.GroupBytes.{bytes-of_word}
use Rattle.vms_words.proofs.GroupWords.{group-is, get_or-group_at, length-group_at}
use Rattle.vms_words.proofs.Numbers.{number-told, cpu-told, threshold-told, mark-told}
use Rattle.vms_rows.proofs.Common.{cells-same}
use Rattle.vms_words.proofs.ShownWords.{shown-at, length-shown}

-- a row without what was set or acknowledged
pub row-cleared : {X : Type 0} (x : X) (row list : List X) → length row ≡ length list
    → ((n : ℕ) → n < length row → (d : X) → get_or row n d ≡ x) → row ≡ map (λ _. x) list
row-cleared x row list long each =
    ext_get_or x row (map (λ _. x) list) (long ∙ sym (length-map list (λ _. x)))
    (λ n within. each n within x
    ∙ sym (get_or-map (λ _. x) list n x x (omega (arith, within, long))))

mul-mul-left : (x y z : ℕ) → x * (y * z) ≡ y * (x * z)
mul-mul-left x y z = sym (mul_assoc x y z) ∙ ap (λ w. w * z) (mul_comm x y) ∙ mul_assoc y x z

pub are-there : (facts : Facts) (s : State) (b : Blocks) (cpus groups places : ℕ) (into : State)
    → IsLayout facts.layout → b ≡ blocks_of facts.layout → cpus ≡ facts.layout.cpus
    → groups ≡ group_count facts.layout → places ≡ place_count facts.layout → HasShape facts.layout into
    → AreThere facts s b cpus groups places into
are-there facts s b cpus groups places into layout laid cpus_are groups_are places_are shaped = record {
  values = omega (arith, long, shaped.place, are.systems, are.marks, are.shared, are.rows, are.end);
  systems = omega (arith, long, shaped.system, are.marks, are.shared, are.rows, are.end);
  marks = omega (arith, long, shaped.mark, are.shared, are.rows, are.end);
  groups_in = in_rows 0 groups b.rows (omega arith)
      (omega (arith, groups_are, are.thresholds, are.acknowledgements, are.state, are.width));
  whole = shaped.diff ∙ eights ∙ ap (λ m. 8 * (m * group_count facts.layout)) (sym cpus_are)
      ∙ ap (λ g. 8 * (cpus * g)) (sym groups_are);
  thresholds_in = in_rows b.thresholds places (b.rows + b.thresholds) (omega arith)
      (omega (arith, places_are, are.acknowledgements, are.state, are.width));
  one_threshold_each = shaped.threshold ∙ ap (λ m. m * place_count facts.layout) (sym cpus_are)
      ∙ ap (λ p. cpus * p) (sym places_are);
  states_in = in_rows b.state 1 (b.rows + b.state) (omega arith) (omega (arith, are.width));
  one_state_each = omega (arith, shaped.cpu, cpus_are);
  small = omega (arith, long, end-most facts.layout layout b are);
  entries = (
    (let most : facts.layout.cpus * counter_count facts.layout ≤ 128 * 512 =
        mul-le-mul layout.cpus_most (counter_count-most facts.layout layout) in omega (arith, shaped.diff, most)),
    (let most : facts.layout.cpus * place_count facts.layout ≤ 128 * 32 =
        mul-le-mul layout.cpus_most (place_count-most facts.layout layout) in omega (arith, shaped.threshold, most)),
    omega (arith, shaped.cpu, layout.cpus_most),
  );
  few = (
    omega (arith, rows-most facts.layout layout b are),
    omega (arith, width-most facts.layout layout b are, are.acknowledgements, are.state, are.width),
    omega (arith, width-most facts.layout layout b are, are.width),
  );
}
  where
    are : AreBlocks facts.layout b
    are = are_blocks facts.layout b laid

    long : length (shown facts s) ≡ b.end
    long = length-shown facts s ∙ ap (λ (a : Blocks). a.end) (sym laid)

    -- so many words of a row, from a place of it on
    in_rows : (place count start : ℕ) → start ≡ b.rows + place → place + count ≤ b.width
        → AreInRows facts s b cpus start count
    in_rows place count start at fits c c_in =
        let above = mul-le-mul_right b.width (subst (λ m. c < m) cpus_are c_in) in
        omega (arith, long, are.end, above, at, fits)

    eights : facts.layout.cpus * counter_count facts.layout ≡ 8 * (facts.layout.cpus * group_count facts.layout)
    eights = ap (λ w. facts.layout.cpus * w) (sym (group_count-whole facts.layout layout))
        ∙ mul-mul-left facts.layout.cpus 8 (group_count facts.layout)

module _ (facts : Facts) (h : History) (legal : IsLegal facts h) (b : Blocks) (laid : b ≡ blocks_of facts.layout) where
  abbrev s : State
  s = state_after facts h

  are : AreBlocks facts.layout b
  are = are_blocks facts.layout b laid

  laws : KeepsLaws facts h
  laws = laws-kept facts h legal

  layout : IsLayout facts.layout
  layout = (base_can_begin pages facts h legal).layout

  word : (spot : Spot) → IsSpot facts.layout spot → (place : ℕ) → place ≡ place_in b spot
      → slice_index (shown facts s) place ≡ spot_word s spot
  word spot known place at =
      ap (slice_index (shown facts s)) (at ∙ ap (λ (a : Blocks). place_in a spot) laid) ∙ shown-at facts s spot known

  pub place-is : (row : List ℤ) → length row ≡ counter_count facts.layout
      → ((n : ℕ) → n < counter_count facts.layout → (d : ℤ)
      → get_or row n d ≡ signed_of_word (slice_index (shown facts s) (0 + n)))
      → row ≡ s.place
  place-is row long each =
      ext_get_or (pos 0) row s.place (long ∙ sym laws.shape.place) (λ n within.
      let known : n < counter_count facts.layout = omega (arith, within, long) in
      each n known (pos 0) ∙ ap signed_of_word (word (Value (record { number = n })) known (0 + n) (omega arith))
      ∙ number-told (get_or s.place n (pos 0)) (laws.small.values n known))

  pub system-is : (row : List ℤ) → length row ≡ item_count facts.layout
      → ((n : ℕ) → n < item_count facts.layout → (d : ℤ)
      → get_or row n d ≡ signed_of_word (slice_index (shown facts s) (b.systems + n)))
      → row ≡ s.system
  system-is row long each =
      ext_get_or (pos 0) row s.system (long ∙ sym laws.shape.system) (λ n within.
      let known : n < item_count facts.layout = omega (arith, within, long) in
      each n known (pos 0) ∙ ap signed_of_word (word (System (record { number = n })) known (b.systems + n) refl)
      ∙ number-told (get_or s.system n (pos 0)) (laws.small.systems n known))

  pub mark-is : (row : List ℕ) → length row ≡ length facts.layout.zones
      → ((n : ℕ) → n < length facts.layout.zones → (d : ℕ)
      → get_or row n d ≡ slice_index (shown facts s) (b.marks + n) % 2 ^ 43)
      → row ≡ s.mark
  mark-is row long each =
      ext_get_or 0 row s.mark (long ∙ sym laws.shape.mark) (λ n within.
      let known : n < length facts.layout.zones = omega (arith, within, long) in
      each n known 0 ∙ ap (λ m. m % 2 ^ 43) (word (Mark (record { number = n })) known (b.marks + n) refl)
      ∙ (mark-told (mark_at s n) (mark_sets_at s n) (laws.marks n known)).0)

  pub cpu-is : (cpus : ℕ) → cpus ≡ facts.layout.cpus → (row : List CpuState) → length row ≡ cpus * 1
      → ((c k : ℕ) → c < cpus → k < 1 → (d : CpuState) → get_or row (cell 1 c k) d
      ≡ cpu_told (slice_index (shown facts s) (b.rows + b.state + cell b.width c k)))
      → row ≡ s.cpu
  cpu-is cpus cpus_are row long each =
      cells-same 1 facts.layout.cpus Absent s.cpu (omega (arith, laws.shape.cpu)) row
      (omega (arith, long, cpus_are, laws.shape.cpu))
      (λ c k c_in k_in. each c k (omega (arith, c_in, cpus_are)) k_in Absent
      ∙ ap cpu_told (word (Cpu (record { number = c })) c_in (b.rows + b.state + cell b.width c k)
      (omega (arith, k_in)))
      ∙ cpu-told (cpu_at s c)
      ∙ ap (λ n. get_or s.cpu n Absent) (omega (arith, k_in)))

  pub threshold-is : (cpus places : ℕ) → cpus ≡ facts.layout.cpus → places ≡ place_count facts.layout
      → (row : List ℕ) → length row ≡ facts.layout.cpus * place_count facts.layout
      → ((c g : ℕ) → c < cpus → g < places → (d : ℕ) → get_or row (cell places c g) d
      ≡ slice_index (shown facts s) (b.rows + b.thresholds + cell b.width c g) % 2 ^ 32)
      → row ≡ s.threshold
  threshold-is cpus places cpus_are places_are row long each =
      cells-same (place_count facts.layout) facts.layout.cpus 0 s.threshold laws.shape.threshold row
      (long ∙ sym laws.shape.threshold)
      (λ c g c_in g_in. let small = (laws.thresholds c g c_in g_in).most in
      ap (λ p. get_or row (cell p c g) 0) (sym places_are)
      ∙ each c g (omega (arith, c_in, cpus_are)) (omega (arith, g_in, places_are)) 0
      ∙ ap (λ m. m % 2 ^ 32) (word (Threshold (record { number = c }) (record { number = g })) (c_in, g_in)
      (b.rows + b.thresholds + cell b.width c g) (omega arith))
      ∙ (threshold-told (threshold_at s c g) (threshold_sets_at s c g) (omega (arith, small))).0
      ∙ ap (λ v. get_or s.threshold (cell v c g) 0) (places_of-shaped facts.layout s layout laws.shape))

  group-bytes : (c j : ℕ) → IsCpu facts.layout c → IsGroup facts.layout j
      → bytes_of_word (word_of_bytes (group_at s c j)) ≡ group_at s c j
  group-bytes c j c_in j_in =
      let list = laws.groups c j c_in j_in in
      bytes-of_word (group_at s c j) (length-group_at s c j)
      (subst AreBytes (group-is s c j list.0.values list.1) list.0.bytes)

  pub diff-is : (cpus groups : ℕ) → cpus ≡ facts.layout.cpus → groups ≡ group_count facts.layout → (row : List ℤ)
      → length row ≡ facts.layout.cpus * counter_count facts.layout
      → ((n i : ℕ) → n < cpus * groups → i < 8 → get_or row (8 * n + i) (pos 0)
      ≡ get_or (bytes_of_word (slice_index (shown facts s)
      (b.rows + cell b.width (n / groups) (n % groups)))) i (pos 0))
      → row ≡ s.diff
  diff-is cpus groups cpus_are groups_are row long each =
      cells-same (counter_count facts.layout) facts.layout.cpus (pos 0) s.diff laws.shape.diff row
      (long ∙ sym laws.shape.diff) at
    where
      w : ℕ
      w = counter_count facts.layout

      g : ℕ
      g = group_count facts.layout

      at : (c k : ℕ) → c < facts.layout.cpus → k < w → get_or row (cell w c k) (pos 0) ≡ get_or s.diff (cell w c k) (pos 0)
      at c k c_in k_in =
          let eight = group_count-whole facts.layout layout in
          let j_in : k / 8 < g = omega (arith, k_in, eight) in
          let eights : c * w ≡ 8 * (c * g) = ap (λ v. c * v) (sym eight) ∙ mul-mul-left c 8 g in
          let n = cell g c (k / 8) in
          let whole : cell w c k ≡ 8 * n + k % 8 = omega (arith, eights) in
          ap (λ m. get_or row m (pos 0)) whole
          ∙ each n (k % 8) (subst (λ m. n < m * groups) (sym cpus_are) (subst (λ m. n < facts.layout.cpus * m)
          (sym groups_are) (cell-lt g facts.layout.cpus c (k / 8) c_in j_in))) (omega arith)
          ∙ ap (λ m. get_or (bytes_of_word (slice_index (shown facts s) (b.rows + cell b.width (n / m) (n % m))))
          (k % 8) (pos 0)) groups_are
          ∙ ap (λ m. get_or (bytes_of_word m) (k % 8) (pos 0))
          (word (Group (record { number = c }) (record { number = k / 8 })) (c_in, j_in)
          (b.rows + cell b.width (n / g) (n % g))
          (ap (λ m. b.rows + cell b.width m (n % g)) (cell-cpu g c (k / 8) j_in)
          ∙ ap (λ m. b.rows + cell b.width c m) (cell-thing g c (k / 8) j_in)))
          ∙ ap (λ (list : List ℤ). get_or list (k % 8) (pos 0)) (group-bytes c (k / 8) c_in j_in)
          ∙ get_or-group_at s c (k / 8) (k % 8) (omega arith)
          ∙ ap (λ m. diff_at s c m) (let same : 8 * (k / 8) + k % 8 ≡ k = omega arith in same)
          ∙ ap (λ v. get_or s.diff (cell v c k) (pos 0)) laws.shape.place
