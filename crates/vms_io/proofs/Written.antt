-- What a loop of writes has appended so far.
use Rattle.std.proofs.Common.{◌≡◌, ℕ, ◌+◌, ◌-◌, ◌≤◌, List, ◌++◌, length, take, drop, Option, arith, length-drop, sym}
use Rattle.std.proofs.Common.{ap, ◌∙◌, subst, drop-drop}
use Rattle.std.proofs.Math.Seq.{take-add}
use Rattle.std.proofs.lemmas.List.{take_rest}
use Rattle.std.specs.Io.KnownBytes.{Appends}
use Rattle.std.proofs.KnownBytes.{Appends-trans}

-- a first part of all was appended, and the rest is to come
pub record Wrote (held held' : Option (List ℕ)) (all rest : List ℕ) : Type 0 where
  pub done : ℕ
  pub within : done ≤ length all
  pub left : rest ≡ drop done all
  pub appended : Appends held held' (take done all)

-- the next n bytes were appended too
pub Wrote-more : (held mid now : Option (List ℕ)) (all rest : List ℕ) (n : ℕ) → Wrote held mid all rest
    → n ≤ length rest
    → Appends mid now (take n rest) → Wrote held now all (take (length rest - n) (drop n rest))
Wrote-more held mid now all rest n wrote within more =
    let d : ℕ = wrote.done in
    let long : length rest ≡ length all - d = ap length wrote.left ∙ length-drop d all in
    record {
      done = d + n;
      within = omega arith;
      left = take_rest rest n ∙ ap (drop n) wrote.left ∙ drop-drop n d all;
      appended = subst (Appends held now) (ap (λ l. take d all ++ take n l) wrote.left ∙ sym (take-add d n all))
          (Appends-trans held mid now (take d all) (take n rest) wrote.appended more);
    }
