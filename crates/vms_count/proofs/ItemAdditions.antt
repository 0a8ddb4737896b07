-- The additions to the system-wide values at the end of a fold.
use Rattle.std.proofs.Common.{◌≡◌, ◌≢◌, ℕ, suc, zero, ◌+◌, ◌≤◌, false, nat_eq, ℤ, pos, negsuc, List, [], ◌∷◌, ◌++◌}
use Rattle.std.proofs.Common.{refl, sym, ap, subst, ◌∙◌, arith, append_assoc, append-nil, ne_eqb}
use Rattle.std.proofs.lemmas.Int.{ints}
use Rattle.vms_calls.specs.Common.{Diffs, Shape, IsItem, system_steps, taken_of_item, to_system, Facts, Step, AddS}
use Rattle.vms_calls.specs.Common.{carried_of_item, pages}
use Rattle.vms_seats.specs.Common.{Pass, Shared, IsFrom, IsLive, Made, MadeOne}
use Rattle.vms_seats.proofs.Common.{calls-none, calls-next}
use Rattle.vms_count.specs.Common.{mine, sum_at}
use Rattle.vms_count.proofs.FoldEvents.{of-made}
use Rattle.vms_count.proofs.PassEvents.{carried_of_item-next}

system_steps-more : (shape : Shape) (ws : List Diffs) (i n : ℕ) → system_steps shape ws i (suc n)
    ≡ system_steps shape ws i n ++ to_system (i + n) (taken_of_item shape (i + n) 0 ws)
system_steps-more shape ws i zero =
    let at : i + 0 ≡ i = omega arith in
    append-nil (to_system i (taken_of_item shape i 0 ws))
    ∙ ap (λ m. to_system m (taken_of_item shape m 0 ws)) (sym at)
system_steps-more shape ws i (suc n) =
    let at : i + suc n ≡ suc i + n = omega arith in
    ap (λ ks. to_system i (taken_of_item shape i 0 ws) ++ ks) (system_steps-more shape ws (suc i) n
    ∙ ap (λ m. system_steps shape ws (suc i) n ++ to_system m (taken_of_item shape m 0 ws)) (sym at))
    ∙ sym (append_assoc (to_system i (taken_of_item shape i 0 ws)) (system_steps shape ws (suc i) n)
    (to_system (i + suc n) (taken_of_item shape (i + suc n) 0 ws)))

to_system-some : (i : ℕ) (z : ℤ) → z ≢ pos 0 → to_system i z ≡ AddS (record { number = i }) z ∷ []
to_system-some i (pos zero) some = absurd (some refl)
to_system-some i (pos (suc n)) some = refl
to_system-some i (negsuc n) some = refl

to_system-none : (i : ℕ) (z : ℤ) → z ≡ pos 0 → to_system i z ≡ []
to_system-none i z none = ap (to_system i) none

module _ (shape : Shape) (sums : List ℤ) (old : Pass Facts Step) where
  -- the sums are what was taken for the items
  abbrev pub AreTaken : List Diffs → Type 0
  AreTaken ws = (i : ℕ) → IsItem shape i → sum_at sums i ≡ taken_of_item shape i 0 ws

  -- the first n items got their sums
  pub record AddsItems (n : ℕ) (now : Pass Facts Step) : Type 0 where
    pub made : (ws : List Diffs) → AreTaken ws → Made pages now old (system_steps shape ws 0 n)
    pub left : (i : ℕ) → n ≤ i → IsItem shape i → carried_of_item shape i (mine now) ≡ sum_at sums i
    pub of : (words : Shared Facts) → IsFrom old words → IsFrom now words

  pub AddsItems-none : IsLive pages old
      → ((i : ℕ) → IsItem shape i → carried_of_item shape i (mine old) ≡ sum_at sums i) → AddsItems 0 old
  AddsItems-none live carries =
      record {
        made = λ ws are. calls-none pages old live;
        left = λ i from i_in. carries i i_in;
        of = λ words is. is;
      }

  module _ (n : ℕ) (n_in : IsItem shape n) (now : Pass Facts Step) (adds : AddsItems n now) where
    steps-more : (ws : List Diffs) → system_steps shape ws 0 (n + 1)
        ≡ system_steps shape ws 0 n ++ to_system n (taken_of_item shape n 0 ws)
    steps-more ws =
        let step : n + 1 ≡ suc n = omega arith in
        let at : 0 + n ≡ n = omega arith in
        ap (system_steps shape ws 0) step ∙ system_steps-more shape ws 0 n
        ∙ ap (λ m. system_steps shape ws 0 n ++ to_system m (taken_of_item shape m 0 ws)) at

    pub AddsItems-skip : sum_at sums n ≡ pos 0 → AddsItems (n + 1) now
    AddsItems-skip none = record {
      made = λ ws are. subst (Made pages now old)
          (sym (steps-more ws ∙ ap (λ ks. system_steps shape ws 0 n ++ ks)
          (to_system-none n (taken_of_item shape n 0 ws) (sym (are n n_in) ∙ none))
          ∙ append-nil (system_steps shape ws 0 n)))
          (adds.made ws are);
      left = λ i from i_in. adds.left i (omega arith) i_in;
      of = adds.of;
    }

    pub AddsItems-more : (new : Pass Facts Step) (z : ℤ) → sum_at sums n ≡ z → z ≢ pos 0
        → MadeOne pages new now (AddS (record { number = n }) z) → AddsItems (n + 1) new
    AddsItems-more new z is some one = record {
      made = λ ws are. subst (Made pages new old)
          (sym (steps-more ws ∙ ap (λ ks. system_steps shape ws 0 n ++ ks)
          (ap (to_system n) (sym (are n n_in) ∙ is) ∙ to_system-some n z some)))
          (calls-next pages new now old (system_steps shape ws 0 n) (AddS (record { number = n }) z) one
          (adds.made ws are));
      left = λ i from i_in.
          let other : nat_eq n i ≡ false = ne_eqb n i (λ same. absurd (omega arith)) in
          carried_of_item-next new now (AddS (record { number = n }) z) one shape i
          ∙ rw other (omega (arith, ints, adds.left i (omega arith) i_in));
      of = λ words is. of-made new now words (AddS (record { number = n }) z ∷ []) one.all (adds.of words is);
    }
