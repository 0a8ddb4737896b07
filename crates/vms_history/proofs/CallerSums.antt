-- For other crates too: totals as sums of parts, and sums over callers of what their own events come to.
use Rattle.std.proofs.Common.{◌≡◌, ℕ, ◌<◌, List, [], ◌∷◌, ℤ, pos, ◌+ℤ◌, ◌-ℤ◌, refl, ap, sym, arith}
use Rattle.std.proofs.lemmas.Int.{ints}
use Rattle.vms_history.specs.declared.events.Event.{Event}
use Rattle.vms_history.specs.Common.{own, total, sum_below, begun_in, Machine, IsLegal}
use Rattle.vms_history.proofs.Own.{own-mine, own-others}
use Rattle.vms_history.proofs.Prefixes.{legal_before}
use Rattle.vms_history.proofs.PassLaws.{caller_is_below}
use Rattle.vms_history.proofs.SumLaws.{sum_below-same, sum_below-sum, sum_below-zeros, sum_below-changed}

-- an event changes such a sum by what it changes of its caller
pub sum_below-callers : {K : Type 0} (f : List (Event K) → ℤ) (e : Event K) (h : List (Event K)) (n : ℕ) → e.caller < n
    → sum_below (λ p. f (own (e ∷ h) p)) n
    ≡ sum_below (λ p. f (own h p)) n +ℤ (f (e ∷ own h e.caller) -ℤ f (own h e.caller))
sum_below-callers f e h n below =
    let changed =
    sum_below-changed (λ p. f (own h p)) (λ p. f (own (e ∷ h) p)) e.caller n below
    (λ i i_below other. ap f (own-others e h i (λ same. other (sym same)))) in
    let mine : f (own (e ∷ h) e.caller) ≡ f (e ∷ own h e.caller) = ap f (own-mine e h e.caller refl) in
    omega (arith, ints, changed, mine)

-- a total over a legal history is the sum of its callers' own totals
pub total-of_callers : {F K S : Type 0} (machine : Machine F K S) (facts : F) (measure : K → ℤ) (h : List (Event K))
    (n : ℕ)
    → IsLegal machine facts h → begun_in machine.role h < n
    → total measure h ≡ sum_below (λ p. total measure (own h p)) n
total-of_callers machine facts measure [] n legal above =
    omega (arith, ints, sum_below-zeros (λ p. pos 0) n (λ k below. refl))
total-of_callers machine facts measure (e ∷ h) n legal above =
    let below = caller_is_below machine facts e h n legal above in
    let callers = sum_below-callers (total measure) e h n below.0 in
    let before = total-of_callers machine facts measure h n (legal_before machine facts e h legal) below.1 in
    omega (arith, ints, callers, before)

-- a total is the sum of n parts, where each legal event adds its measure to them
pub total-by_parts : {F K S : Type 0} (machine : Machine F K S) (facts : F) (measure : K → ℤ)
    (part : List (Event K) → ℕ → ℤ) (grown : Event K → List (Event K) → ℕ → ℤ) (n : ℕ)
    → ((i : ℕ) → i < n → part [] i ≡ pos 0)
    → ((e : Event K) (h : List (Event K)) (i : ℕ) → i < n → part (e ∷ h) i ≡ grown e h i +ℤ part h i)
    → ((e : Event K) (h : List (Event K)) → IsLegal machine facts (e ∷ h) → sum_below (grown e h) n ≡ measure e.step)
    → (h : List (Event K)) → IsLegal machine facts h → total measure h ≡ sum_below (part h) n
total-by_parts machine facts measure part grown n none grows adds [] legal = sym (sum_below-zeros (part []) n none)
total-by_parts machine facts measure part grown n none grows adds (e ∷ h) legal =
    let before =
    total-by_parts machine facts measure part grown n none grows adds h (legal_before machine facts e h legal) in
    let each = sum_below-same (part (e ∷ h)) (λ i. grown e h i +ℤ part h i) n (grows e h) in
    let both = sum_below-sum (grown e h) (part h) n in
    omega (arith, ints, adds e h legal, each, both, before)
