-- A list of a caller's steps that stands in two parts.
use Rattle.std.proofs.Common.{◌≡◌, ℕ, List, [], ◌∷◌, ◌++◌, refl, sym, ap, ◌∙◌, append_assoc, append-nil}
use Rattle.vms_world.specs.Common.{Event, after}
use Rattle.vms_history.proofs.Common.{after-steps}

-- two ends of one list: one is an end of the other
pub data Compares {A : Type 0} (m h n g : List A) : Type 0 where
  longer : (k : List A) → h ≡ k ++ g → n ≡ m ++ k → Compares m h n g
  shorter : (k : List A) → g ≡ k ++ h → Compares m h n g

module _ {A : Type 0} where
  pub compares : (m h n g : List A) → m ++ h ≡ n ++ g → Compares m h n g
  compares [] h n g same = longer n same refl
  compares (x ∷ m) h [] g same = shorter (x ∷ m) (sym same)
  compares (x ∷ m) h (y ∷ n) g same =
      let heads : x ≡ y = cc in
      let tails : m ++ h ≡ n ++ g = cc in
      by heads (compares m h n g tails)
    where
      by : x ≡ y → Compares m h n g → Compares (x ∷ m) h (y ∷ n) g
      by heads (longer k is parts) =
          longer k is (ap (λ z. z ∷ n) (sym heads) ∙ ap (λ zs. x ∷ zs) parts)
      by heads (shorter k is) = shorter k is

  -- a list is empty, or has a last element
  pub data Ends (xs : List A) : Type 0 where
    empty : xs ≡ [] → Ends xs
    last : (front : List A) (x : A) → xs ≡ front ++ x ∷ [] → Ends xs

  pub ends : (xs : List A) → Ends xs
  ends [] = empty refl
  ends (x ∷ xs) = by (ends xs)
    where
      by : Ends xs → Ends (x ∷ xs)
      by (empty none) = last [] x (ap (λ ys. x ∷ ys) none)
      by (last front y is) = last (x ∷ front) y (ap (λ ys. x ∷ ys) is)

-- the earlier ones of a caller's steps
pub record Splits {K : Type 0} (p : ℕ) (steps : List K) (earlier : List (Event K)) : Type 0 where
  pub begun : List K
  pub due : List K
  pub parts : steps ≡ begun ++ due
  pub made : earlier ≡ after p begun []

pub splits : {K : Type 0} (p : ℕ) (steps : List K) (later earlier : List (Event K))
    → later ++ earlier ≡ after p steps [] → Splits p steps earlier
splits p steps [] earlier is = record { begun = steps; due = []; parts = sym (append-nil steps); made = is }
splits {K} p steps (e ∷ later) earlier is =
    by (λ (front : List K) (before : later ++ earlier ≡ after p front []). splits p front later earlier before)
    (ends steps)
  where
    by : ((front : List K) → later ++ earlier ≡ after p front [] → Splits p front earlier) → Ends steps
        → Splits p steps earlier
    by fewer (empty none) =
        let nothing : e ∷ (later ++ earlier) ≡ [] = is ∙ ap (λ ks. after p ks []) none in
        absurd cc
    by fewer (last front k at_end) =
        let in_two : e ∷ (later ++ earlier) ≡ record { caller = p; step = k } ∷ after p front [] =
        is ∙ ap (λ ks. after p ks []) at_end ∙ after-steps p front (k ∷ []) [] in
        let before : later ++ earlier ≡ after p front [] = cc in
        let rest = fewer front before in
        record {
          begun = rest.begun;
          due = rest.due ++ k ∷ [];
          parts = at_end ∙ ap (λ ks. ks ++ k ∷ []) rest.parts ∙ append_assoc rest.begun rest.due (k ∷ []);
          made = rest.made;
        }
