-- For other crates too: steps of one pass on top of a history.
use Rattle.std.proofs.Common.{◌≡◌, ℕ, Bool, true, false, ◌==◌, cond, List, [], ◌∷◌, ◌++◌, refl, sym, ap, ◌∙◌}
use Rattle.std.proofs.Common.{append_assoc, append-nil}
use Rattle.std.proofs.lemmas.List.{append_cancel_left}
use Rattle.vms_world.specs.Common.{after, own, Event, Step}
use Rattle.vms_core.specs.Pages.{History}

-- the steps of a history, the oldest first
steps_of : History → List Step
steps_of [] = []
steps_of (e ∷ h) = steps_of h ++ e.step ∷ []

steps_of-after : (p : ℕ) (ks : List Step) (h : History) → steps_of (after p ks h) ≡ steps_of h ++ ks
unfolding steps_of
steps_of-after p [] h = sym (append-nil (steps_of h))
steps_of-after p (k ∷ ks) h =
    steps_of-after p ks (record { caller = p; step = k } ∷ h) ∙ append_assoc (steps_of h) (k ∷ []) ks

pub after-injective : (p : ℕ) (ks js : List Step) (h : History) → after p ks h ≡ after p js h → ks ≡ js
after-injective p ks js h same =
    append_cancel_left (steps_of h) ks js
    (sym (steps_of-after p ks h) ∙ ap steps_of same ∙ steps_of-after p js h)

pub nothing_first : {A : Type 0} (xs ys : List A) → xs ++ ys ≡ [] → xs ≡ []
nothing_first [] ys none = refl
nothing_first (x ∷ xs) ys none = absurd cc

pub nothing_last : {A : Type 0} (xs ys : List A) → xs ++ ys ≡ [] → ys ≡ []
nothing_last [] ys none = none
nothing_last (x ∷ xs) ys none = absurd cc

-- two beginnings of one list: one begins the other
pub data OneBegins {A : Type 0} (xs rest ys left : List A) : Type 0 where
  first_longer : (more : List A) → xs ≡ ys ++ more → left ≡ more ++ rest → OneBegins xs rest ys left
  second_longer : (more : List A) → ys ≡ xs ++ more → rest ≡ more ++ left → OneBegins xs rest ys left

pub one_begins : {A : Type 0} (xs rest ys left : List A) → xs ++ rest ≡ ys ++ left → OneBegins xs rest ys left
one_begins [] rest ys left same = second_longer ys refl same
one_begins (x ∷ xs) rest [] left same = first_longer (x ∷ xs) refl (sym same)
one_begins {A} (x ∷ xs) rest (y ∷ ys) left same =
    let heads : x ≡ y = cc in
    let tails : xs ++ rest ≡ ys ++ left = cc in
    by heads (one_begins xs rest ys left tails)
  where
    by : x ≡ y → OneBegins xs rest ys left → OneBegins (x ∷ xs) rest (y ∷ ys) left
    by heads (first_longer more is parts) =
        first_longer more (ap (λ (z : A). z ∷ xs) heads ∙ ap (λ (zs : List A). y ∷ zs) is) parts
    by heads (second_longer more is parts) =
        second_longer more (ap (λ (z : A). z ∷ ys) (sym heads) ∙ ap (λ (zs : List A). x ∷ zs) is) parts

-- where own events stand in two parts, so do the events of all passes
pub record Cuts (m : History) (p : ℕ) (xs ys : History) : Type 0 where
  pub later : History
  pub earlier : History
  pub parts : m ≡ later ++ earlier
  pub later_own : own later p ≡ xs
  pub earlier_own : own earlier p ≡ ys

pub cut : (m : History) (p : ℕ) (xs ys : History) → own m p ≡ xs ++ ys → Cuts m p xs ys
cut m p [] ys is = record { later = []; earlier = m; parts = refl; later_own = refl; earlier_own = is }
cut [] p (x ∷ xs) ys is = absurd cc
cut (e ∷ m) p (x ∷ xs) ys is = by (e.caller == p) refl (cut m p xs ys) (cut m p (x ∷ xs) ys) is
  where
    by : (b : Bool) → (e.caller == p) ≡ b → (own m p ≡ xs ++ ys → Cuts m p xs ys)
        → (own m p ≡ x ∷ (xs ++ ys) → Cuts m p (x ∷ xs) ys)
        → cond b (e ∷ own m p) (own m p) ≡ x ∷ (xs ++ ys) → Cuts (e ∷ m) p (x ∷ xs) ys
    by true mine without with_it same =
        let head : e ≡ x = cc in
        let tail : own m p ≡ xs ++ ys = cc in
        let rest = without tail in
        record {
          later = e ∷ rest.later;
          earlier = rest.earlier;
          parts = ap (λ (es : History). e ∷ es) rest.parts;
          later_own = ap (λ b. cond b (e ∷ own rest.later p) (own rest.later p)) mine
              ∙ ap (λ (es : History). e ∷ es) rest.later_own ∙ ap (λ (z : Event Step). z ∷ xs) head;
          earlier_own = rest.earlier_own;
        }
    by false other without with_it same =
        let rest = with_it same in
        record {
          later = e ∷ rest.later;
          earlier = rest.earlier;
          parts = ap (λ (es : History). e ∷ es) rest.parts;
          later_own = ap (λ b. cond b (e ∷ own rest.later p) (own rest.later p)) other ∙ rest.later_own;
          earlier_own = rest.earlier_own;
        }
