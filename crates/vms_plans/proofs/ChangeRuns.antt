-- The steps of a change are those that run through its plan.
use Rattle.std.proofs.Common.{◌≡◌, ℕ, suc, zero, ℤ, pos, negsuc, List, [], ◌∷◌, ◌++◌, refl, sym, ap, subst, ◌∙◌}
use Rattle.vms_calls.specs.Common.{CounterId, CpuId, Diffs, GroupId, Mode, PlaceId, Shape, group_of, place_of, Step}
use Rattle.vms_calls.specs.Common.{LoadT, LoadD, Put, Miss, entry, carried_by, Carries, Exchanges, IsChange, amount}
use Rattle.vms_calls.specs.Common.{missed, nothing, won}
use Rattle.vms_plans.specs.Common.{Runs, ends, makes_all, carrying, change_plan, found_plan, won_plan}
use Rattle.vms_plans.proofs.PlanLaws.{runs-makes_only, makes_only}

module _ (shape : Shape) (k : CounterId) where
  additions-are : (z : ℤ) (steps : List Step) → Carries shape k z steps → steps ≡ carrying shape k z
  additions-are z steps nothing = refl
  additions-are z steps (amount (pos zero) some) = absurd (some refl)
  additions-are z steps (amount (pos (suc n)) some) = refl
  additions-are z steps (amount (negsuc n) some) = refl

  carrying-carries : (z : ℤ) → Carries shape k z (carrying shape k z)
  carrying-carries (pos zero) = nothing
  carrying-carries (pos (suc n)) = amount (pos (suc n)) (λ e. cc)
  carrying-carries (negsuc n) = amount (negsuc n) (λ e. cc)

module _ (shape : Shape) (cpu : CpuId) (k : CounterId) (delta : ℤ) (how : Mode) where
  abbrev left : ℕ → Diffs → ℤ
  left t w = carried_by how t (entry w.values k.number) delta

  additions-run : (z : ℤ) (steps : List Step) → Carries shape k z steps
      → Runs (makes_all (carrying shape k z) (ends (tt {0}))) steps (tt {0})
  additions-run z steps carries = subst (λ ks. Runs (makes_all (carrying shape k z) (ends (tt {0}))) ks (tt {0}))
      (sym (additions-are shape k z steps carries)) (runs-makes_only (carrying shape k z) (tt {0}))

  -- the exchange and the additions
  exchange-runs : (t : ℕ) (first last : Diffs) (exchange additions : List Step)
      → Exchanges k first t delta how last exchange → Carries shape k (left t last) additions
      → Runs (found_plan shape cpu k delta how t (LoadD cpu (record { number = group_of k.number }) first))
      (exchange ++ additions) (tt {0})
  exchange-runs t first last exchange additions won carries =
      (refl, additions-run (left t first) additions carries)
  exchange-runs t first last exchange additions (missed zeros are) carries =
      (refl, ((are, refl), additions-run (left t zeros) additions carries))

  pub change-runs : (steps : List Step) → IsChange shape cpu k delta how steps
      → Runs (change_plan shape cpu k delta how) steps (tt {0})
  change-runs steps call =
      subst (λ ks. Runs (change_plan shape cpu k delta how) ks (tt {0})) (sym call.in_order) (
        refl,
        (
          (refl, refl),
          exchange-runs call.t call.first call.last call.exchange call.additions call.exchanges
              call.carries,
        ),
      )

  -- what is told of the exchange of list w under threshold t, and of the additions
  record ToldExchange (t : ℕ) (w : Diffs) (steps : List Step) : Type 0 where
    last : Diffs
    exchange : List Step
    exchanges : Exchanges k w t delta how last exchange
    additions : List Step
    carries : Carries shape k (left t last) additions
    in_order : steps ≡ exchange ++ additions

  -- the additions after an exchange that won
  won-told : (t : ℕ) (w : Diffs) (step : Step) (rest : List Step) → Put k w t delta how ≡ step
      → Runs (won_plan shape cpu k delta how step) rest (tt {0}) → rest ≡ carrying shape k (left t w)
  won-told t w step rest same run =
      (makes_only (carrying shape k (left t w)) (tt {0}) (tt {0}) rest
      (subst (λ s. Runs (won_plan shape cpu k delta how s) rest (tt {0})) (sym same) run)).0

  exchange-told : (t : ℕ) (w : Diffs) (steps : List Step)
      → Runs (found_plan shape cpu k delta how t (LoadD cpu (record { number = group_of k.number }) w)) steps (tt {0})
      → ToldExchange t w steps
  exchange-told t w [] run = absurd run
  exchange-told t w (Put l v u d m ∷ rest) run = record {
    last = w;
    exchange = Put k w t delta how ∷ [];
    exchanges = won;
    additions = carrying shape k (left t w);
    carries = carrying-carries shape k (left t w);
    in_order = ap (λ s. s ∷ rest) (sym run.0)
        ∙ ap (λ ks. Put k w t delta how ∷ ks) (won-told t w (Put l v u d m) rest run.0 run.1);
  }
  exchange-told t w (Miss j v ∷ []) run = absurd run.1
  exchange-told t w (Miss j v ∷ (Put l zeros u d m ∷ rest)) run =
      let j' : GroupId = record { number = group_of k.number } in
      record {
        last = zeros;
        exchange = Miss j' w ∷ Put k zeros t delta how ∷ [];
        exchanges = missed zeros run.1.0.0;
        additions = carrying shape k (left t zeros);
        carries = carrying-carries shape k (left t zeros);
        in_order = ap (λ s. s ∷ (Put l zeros u d m ∷ rest)) (sym run.0)
            ∙ ap (λ s. Miss j' w ∷ (s ∷ rest)) (sym run.1.0.1)
            ∙ ap (λ ks. Miss j' w ∷ (Put k zeros t delta how ∷ ks))
            (won-told t zeros (Put l zeros u d m) rest run.1.0.1 run.1.1);
      }
  exchange-told t w (Miss j v ∷ (x ∷ rest)) run = absurd run.1.0
  exchange-told t w (x ∷ rest) run = absurd run.0

  pub change-told : (steps : List Step) → Runs (change_plan shape cpu k delta how) steps (tt {0})
      → IsChange shape cpu k delta how steps
  change-told [] run = absurd run
  change-told (LoadT g t a ∷ []) run = absurd run.1
  change-told (LoadT g t a ∷ (LoadD c j w ∷ rest)) run =
      let told = exchange-told t w rest run.1.1 in
      let g' : PlaceId = record { number = place_of shape k.number } in
      let j' : GroupId = record { number = group_of k.number } in
      record {
        t = t;
        number = a;
        first = w;
        last = told.last;
        exchange = told.exchange;
        additions = told.additions;
        exchanges = told.exchanges;
        carries = told.carries;
        in_order = ap (λ x. LoadT x t a ∷ (LoadD c j w ∷ rest)) (sym run.0)
            ∙ ap (λ x. LoadT g' t a ∷ (LoadD x j w ∷ rest)) (sym run.1.0.0)
            ∙ ap (λ x. LoadT g' t a ∷ (LoadD cpu x w ∷ rest)) (sym run.1.0.1)
            ∙ ap (λ ks. LoadT g' t a ∷ (LoadD cpu j' w ∷ ks)) told.in_order;
      }
  change-told (LoadT g t a ∷ (x ∷ rest)) run = absurd run.1.0
  change-told (x ∷ rest) run = absurd run.0
