-- Lists of events, the newest first.
use Rattle.std.specs.Prelude.{◌≡◌, ℕ, nat_eq, List, [], ◌∷◌, ◌++◌, if◌then◌else◌, ℤ, pos, ◌+ℤ◌}
use Rattle.vms_history.specs.declared.events.Event.{Event}

-- the history goes on from an earlier one, which it keeps
abbrev pub Extends : {K : Type 0} → List (Event K) → List (Event K) → Type 0
Extends {K} later earlier = (more : List (Event K)) × (later ≡ more ++ earlier)

-- the events of one caller
abbrev pub own : {K : Type 0} → List (Event K) → ℕ → List (Event K)
own [] p = []
own (e ∷ h) p = if nat_eq e.caller p then e ∷ own h p else own h p

-- the events of one caller, each with the history that stood before it
abbrev pub own_at : {K : Type 0} → List (Event K) → ℕ → List (Event K × List (Event K))
own_at [] p = []
own_at (e ∷ h) p = if nat_eq e.caller p then (e, h) ∷ own_at h p else own_at h p

-- a caller's steps, given oldest first, on top of a history
abbrev pub after : {K : Type 0} → ℕ → List K → List (Event K) → List (Event K)
after p [] h = h
after p (k ∷ ks) h = after p ks (record { caller = p; step = k } ∷ h)

-- the sum of a measure of the steps
abbrev pub total : {K : Type 0} → (K → ℤ) → List (Event K) → ℤ
total measure [] = pos 0
total measure (e ∷ h) = measure e.step +ℤ total measure h

-- e is the newest own event of p in h, and these are p's own events before it
pub record NewestOwn {K : Type 0} (h : List (Event K)) (p : ℕ) (e : Event K) (earlier : List (Event K)) : Type 0 where
  -- what others did since, and the whole history before e
  pub since : List (Event K)
  pub before : List (Event K)
  pub parts : h ≡ since ++ (e ∷ before)
  pub none_since : own since p ≡ []
  pub own_before : own before p ≡ earlier
  pub mine : e.caller ≡ p
