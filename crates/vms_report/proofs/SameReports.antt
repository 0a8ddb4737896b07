-- For other crates too: totals that are the same make the same report.
use Rattle.std.proofs.Common.{◌≡◌, ℕ, zero, suc, ◌+◌, ◌*◌, ◌<◌, ◌≤◌, ℤ, List, [], ◌∷◌, ◌++◌, length, refl, ap, ap₂}
use Rattle.std.proofs.Common.{arith, codes, flat_map, map, take}
use Rattle.std.specs.Fmt.{signed_decimal}
use Rattle.std.specs.List.{enumerate_from, range_with_len}
use Rattle.std.proofs.Math.Nat.{mul_comm}
use Rattle.std.proofs.lemmas.List.{length-take}
use Rattle.vms_world.specs.Common.{Header, class_names, event_names, IsCounter, Shape, counter_at, place_count, IsEvent}
use Rattle.vms_world.specs.Common.{is_node_place, place_words, sentence}
use Rattle.vms_base.proofs.Common.{cell-lt}
use Rattle.vms_report.specs.Common.{totals_report, place_totals}

entries-same : {X Y : Type 0} (f other : ℕ × X → Y) (n : ℕ) (xs : List X)
    → ((i : ℕ) (x : X) → n ≤ i → i < n + length xs → f (i, x) ≡ other (i, x))
    → map f (enumerate_from n xs) ≡ map other (enumerate_from n xs)
entries-same f other n [] same = refl
entries-same f other n (x ∷ xs) same = ap₂ (λ first rest. first ∷ rest) (same n x (omega arith) (omega arith))
    (entries-same f other (n + 1) xs (λ i y low high. same i y (omega arith) (omega arith)))

pieces-same : {Y : Type 0} (f other : ℕ → List Y) (a n : ℕ)
    → ((g : ℕ) → a ≤ g → g < a + n → f g ≡ other g)
    → flat_map f (range_with_len a n) ≡ flat_map other (range_with_len a n)
pieces-same f other a zero same = refl
pieces-same f other a (suc n) same = ap₂ (λ first rest. first ++ rest) (same a (omega arith) (omega arith))
    (pieces-same f other (a + 1) n (λ g low high. same g (omega arith) (omega arith)))

-- a counter stands at each position of a place
counter-in : (shape : Shape) (g p : ℕ) → g < place_count shape → p < shape.positions
    → IsCounter shape (counter_at shape g p)
counter-in shape g p g_in p_in =
    let cell = cell-lt shape.positions (place_count shape) g p g_in p_in in
    let here : shape.positions * g ≡ g * shape.positions = omega (arith, mul_comm shape.positions g) in
    let all : shape.positions * place_count shape ≡ place_count shape * shape.positions =
    omega (arith, mul_comm shape.positions (place_count shape)) in
    omega (arith, cell, here, all)

place_totals-same : (header : Header) (page other : ℕ → ℤ)
    → ((k : ℕ) → IsCounter header.layout k → page k ≡ other k) → (g : ℕ) → g < place_count header.layout
    → place_totals header page g ≡ place_totals header other g
place_totals-same header page other same g g_in =
    let names = take header.layout.positions (class_names (is_node_place header.layout g) header.items) in
    let most = length-take header.layout.positions (class_names (is_node_place header.layout g) header.items) in
    entries-same _ _ 0 names (λ p name low high.
    ap (λ (z : ℤ). place_words header g ++ name ∷ signed_decimal z ∷ [])
    (same (counter_at header.layout g p) (counter-in header.layout g p g_in (omega (arith, high, most)))))

pub totals_report-same : (header : Header) (page other_page event other_event counter other_counter : ℕ → ℤ)
    → ((k : ℕ) → IsCounter header.layout k → page k ≡ other_page k)
    → ((k : ℕ) → IsEvent k → event k ≡ other_event k)
    → ((j : ℕ) → j < length header.counters → counter j ≡ other_counter j)
    → totals_report header page event counter ≡ totals_report header other_page other_event other_counter
totals_report-same header page other_page event other_event counter other_counter pages events counters =
    let places = pieces-same (place_totals header page) (place_totals header other_page) 0 (place_count header.layout)
    (λ g low high. place_totals-same header page other_page pages g (omega (arith, high))) in
    let told = entries-same (λ x. codes "event" ∷ x.1 ∷ signed_decimal (event x.0) ∷ [])
    (λ x. codes "event" ∷ x.1 ∷ signed_decimal (other_event x.0) ∷ []) 0 event_names
    (λ k name low high. ap (λ (z : ℤ). codes "event" ∷ name ∷ signed_decimal z ∷ [])
    (events k (omega (arith, high)))) in
    let counted = entries-same (λ x. codes "counter" ∷ x.1.name ∷ signed_decimal (counter x.0) ∷ [])
    (λ x. codes "counter" ∷ x.1.name ∷ signed_decimal (other_counter x.0) ∷ []) 0 header.counters
    (λ j decl low high. ap (λ (z : ℤ). codes "counter" ∷ decl.name ∷ signed_decimal z ∷ [])
    (counters j (omega (arith, high)))) in
    ap (flat_map sentence) (ap₂ (λ (front rest : List (List (List ℕ))). front ++ rest)
    (ap₂ (λ (front rest : List (List (List ℕ))). front ++ rest) places told) counted)
