-- The views of seats.
use Rattle.std.specs.Prelude.{◌≡◌, List, [], ◌∷◌, ◌++◌, ◌⊎◌}
use Rattle.vms_seats.specs.declared.views.Held.{Held}
use Rattle.vms_seats.specs.declared.views.View.{View}

-- the first and the second of the passes that a seat acts for
abbrev pub first_pass : {K : Type 0} → List (Held K) → Held K
first_pass [] = record { number = 0; seen = [] }
first_pass (k ∷ ks) = k

abbrev pub second_pass : {K : Type 0} → List (Held K) → Held K
second_pass [] = record { number = 0; seen = [] }
second_pass (k ∷ ks) = first_pass ks

-- a seat acts for this pass
abbrev pub Holds : {K : Type 0} → List (Held K) → Held K → Type 0
Holds [] k = ⊥
Holds (m ∷ ms) k = (m ≡ k) ⊎ Holds ms k

-- the view of the main pass at the start
abbrev pub opening_view : {F K : Type 0} → F → View F K
opening_view facts = record { facts = facts; held = record { number = 0; seen = [] } ∷ []; past = [] }

-- the view with other passes
abbrev pub holding : {F K : Type 0} → View F K → List (Held K) → View F K
holding v held = record { facts = v.facts; held = held; past = v.past }

-- a seat for the first pass alone, and one for the second alone
abbrev pub first_alone : {F K : Type 0} → View F K → View F K
first_alone v = holding v (first_pass v.held ∷ [])

abbrev pub second_alone : {F K : Type 0} → View F K → View F K
second_alone v = holding v (second_pass v.held ∷ [])

-- a seat that acts for the passes of two
abbrev pub both_held : {F K : Type 0} → View F K → View F K → View F K
both_held v w = holding v (v.held ++ w.held)

-- a seat whose pass went to another
abbrev pub spent_view : {F K : Type 0} → F → View F K
spent_view blank = record { facts = blank; held = []; past = [] }

-- a seat that acts for none, and remembers what the first pass had seen
abbrev pub witness_of : {F K : Type 0} → View F K → View F K
witness_of v = record { facts = v.facts; held = []; past = (first_pass v.held).seen }
