-- What is written of each CPU that is present: one CPU more.
use Rattle.std.proofs.Common.{◌≡◌, ℕ, suc, ◌+◌, ◌<◌, Bool, true, false, List, [], ◌∷◌, ◌++◌, ap, ◌∙◌, arith, append-nil}
use Rattle.std.proofs.Common.{flat_map, get_or, length, map, take, if◌then◌else◌}
use Rattle.std.proofs.lemmas.Grind.{flat_map-append}
use Rattle.std.proofs.lemmas.List.{length-take-le, map-append, take_more}
use Rattle.vms_world.specs.Common.{CpuId, CpuState, Absent, is_present, present_from}
use Rattle.vms_base.specs.declared.kinds.CpuState.TheVariants.{Online, Dead}

-- a CPU more, among those that are present
present-push : (n : ℕ) (states : List CpuState) (x : CpuState)
    → present_from n (states ++ x ∷ []) ≡ present_from n states
    ++ (if is_present x then record { number = n + length states } ∷ [] else [])
present-push n [] x = let same : n ≡ n + 0 = omega arith in
    ap (λ (k : ℕ). if is_present x then record { number = k } ∷ [] else []) same
present-push n (Online ∷ states) x =
    let same : suc n + length states ≡ n + suc (length states) = omega arith in
    ap (λ (rest : List CpuId). record { number = n } ∷ rest) (present-push (suc n) states x
    ∙ ap (λ (k : ℕ). present_from (suc n) states ++ (if is_present x then record { number = k } ∷ [] else [])) same)
present-push n (Dead ∷ states) x =
    let same : suc n + length states ≡ n + suc (length states) = omega arith in
    ap (λ (rest : List CpuId). record { number = n } ∷ rest) (present-push (suc n) states x
    ∙ ap (λ (k : ℕ). present_from (suc n) states ++ (if is_present x then record { number = k } ∷ [] else [])) same)
present-push n (Absent ∷ states) x =
    let same : suc n + length states ≡ n + suc (length states) = omega arith in
    present-push (suc n) states x
    ∙ ap (λ (k : ℕ). present_from (suc n) states ++ (if is_present x then record { number = k } ∷ [] else [])) same

module _ {Y Z : Type 0} (write : Y → List Z) (f : CpuId → Y) (states : List CpuState) (i : ℕ) (d : CpuState)
    (within : i < length states) where
  abbrev so_far : List Z
  so_far = flat_map write (map f (present_from 0 (take i states)))

  next : flat_map write (map f (present_from 0 (take (i + 1) states)))
      ≡ flat_map write (map f (present_from 0 (take i states)
      ++ (if is_present (get_or states i d) then record { number = i } ∷ [] else [])))
  next =
      let at : 0 + length (take i states) ≡ i = omega (arith, length-take-le i states (omega arith)) in
      ap (λ (xs : List CpuState). flat_map write (map f (present_from 0 xs))) (take_more states i d within)
      ∙ ap (λ (cpus : List CpuId). flat_map write (map f cpus)) (present-push 0 (take i states) (get_or states i d)
      ∙ ap (λ (k : ℕ). present_from 0 (take i states)
      ++ (if is_present (get_or states i d) then record { number = k } ∷ [] else [])) at)

  -- the line of a CPU more that is present
  pub present-more : is_present (get_or states i d) ≡ true
      → flat_map write (map f (present_from 0 (take (i + 1) states))) ≡ so_far ++ write (f (record { number = i }))
  present-more is =
      next
      ∙ ap (λ (b : Bool). flat_map write (map f (present_from 0 (take i states)
      ++ (if b then record { number = i } ∷ [] else [])))) is
      ∙ ap (flat_map write) (map-append f (present_from 0 (take i states)) (record { number = i } ∷ []))
      ∙ flat_map-append write (map f (present_from 0 (take i states))) (f (record { number = i }) ∷ [])
      ∙ ap (λ (last : List Z). so_far ++ last) (append-nil (write (f (record { number = i }))))

  -- one that is absent has none
  pub absent-more : is_present (get_or states i d) ≡ false
      → flat_map write (map f (present_from 0 (take (i + 1) states))) ≡ so_far
  absent-more is =
      next
      ∙ ap (λ (b : Bool). flat_map write (map f (present_from 0 (take i states)
      ++ (if b then record { number = i } ∷ [] else [])))) is
      ∙ ap (λ (cpus : List CpuId). flat_map write (map f cpus)) (append-nil (present_from 0 (take i states)))
