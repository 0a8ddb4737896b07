-- Each step on the place of an answer keeps its rule.
use Rattle.std.proofs.Common.{◌≡◌, ℕ, List, ◌∷◌, get_or, set, sym, refl, ◌∙◌, subst, arith, Option, Some, None}
use Rattle.std.proofs.Common.{length-set, get_or-set_same}
use mathlib.Core.Logic.{dite}
use mathlib.Core.Option.{some}
use native.Mathlib.Decide.{ℕ_discrete}
use Rattle.atomic_table.specs.Table.{State, Me, keeps, takes, gives, Allows, Arrives}
use Rattle.atomic_table.proofs.Lists.{set_here}
use Rattle.vms_standing.specs.Common.{Keeps, HasSlot, HasAnswer}

module _ {D V : Type 0} (fits : D → Type 0) where
  -- nothing is asked of a word that is 1
  busy : (s : State (Option D) V) (homes : List (mathlib.Core.Option.Option (Option D))) (views : List V)
      → Keeps fits s → Keeps fits (record { words = set s.words 0 1; homes = homes; views = views })
  busy s homes views g =
      let one = get_or-set_same s.words 0 1 0 (omega (arith, g.one)) in
      record {
        one = length-set s.words 0 1 ∙ g.one;
        empty = λ e. absurd (omega arith);
        full = λ e. absurd (omega arith);
      }

  pub opens : (n : ℕ) (v : V) → Arrives (Keeps fits) n 0 (λ _. 1) (λ r m. r ≡ 0 → HasSlot {V = V} m)
  opens n v s g wide _ =
      dite (ℕ_discrete (get_or s.words 0 0) 0)
      (λ free. (v, takes 0 None, g.empty free, busy s _ _ g, λ _. (None, refl)))
      (λ held. (v, keeps, tt, busy s _ _ g, λ e. absurd (held e)))

  pub finds : (n : ℕ) (v : V) → Arrives (Keeps fits) n 0 (λ _. 1) (λ r m. r ≡ 2 → HasAnswer {V = V} fits m)
  finds n v s g wide _ =
      dite (ℕ_discrete (get_or s.words 0 0) 2)
      (λ there. let t = g.full there in (v, takes 0 (Some t.0), t.1, busy s _ _ g, λ _. (t.0, refl, t.2)))
      (λ none. (v, keeps, tt, busy s _ _ g, λ e. absurd (none e)))

  pub puts : (id : ℕ) (m : Me (Option D) V) (v : V) (done : D) (more : List (ℕ × Option D))
      → m ≡ (v, (0, Some done) ∷ more) → fits done
      → Allows (Keeps fits) 1 id m 0 (λ _. 2) (λ _ _. Unit {0})
  puts id m v done more e ok =
      subst (λ (x : Me (Option D) V). Allows (Keeps fits) 1 id x 0 (λ _. 2) (λ _ _. Unit {0})) (sym e)
      (λ s g wide me _.
      let two = get_or-set_same s.words 0 2 0 (omega (arith, g.one)) in (
        v,
        gives,
        tt,
        record {
          one = length-set s.words 0 2 ∙ g.one;
          empty = λ e'. absurd (omega arith);
          full = λ _. (done, set_here s.homes 0 (some (Some done)) (omega arith), ok);
        },
        tt,
      ))
