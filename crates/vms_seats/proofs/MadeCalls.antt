-- For other crates too: how the steps of calls add up, and what a pass is after them.
use Rattle.std.proofs.Common.{◌≡◌, true, List, [], ◌∷◌, ◌++◌, refl, ap, sym, ◌∙◌, subst}
use Rattle.vms_history.specs.Common.{Machine, IsLegal, HasMade, owner_in, lives_in}
use Rattle.vms_history.proofs.Common.{made-none, made-both, made-owner}
use Rattle.vms_seats.specs.Common.{Pass, IsLive, Made, MadeOne}

module _ {F K S : Type 0} (machine : Machine F K S) where
  pub calls-none : (pass : Pass F K) → IsLive machine pass → Made machine pass pass []
  calls-none pass live = record {
    table = refl;
    facts = refl;
    number = refl;
    cpu = refl;
    made = made-none machine pass.facts pass.seen pass.number live.legal live.lives;
  }

  pub calls-both : (new mid old : Pass F K) (first second : List K) → Made machine new mid second
      → Made machine mid old first → Made machine new old (first ++ second)
  calls-both new mid old first second then made = record {
    table = then.table ∙ made.table;
    facts = then.facts ∙ made.facts;
    number = then.number ∙ made.number;
    cpu = then.cpu ∙ made.cpu;
    made = made-both machine old.facts new.seen mid.seen old.seen old.number first second
        (subst (λ p. HasMade machine old.facts new.seen mid.seen p second) made.number
        (subst (λ facts. HasMade machine facts new.seen mid.seen mid.number second) made.facts then.made)) made.made;
  }

  pub calls-next : (new mid old : Pass F K) (steps : List K) (step : K) → MadeOne machine new mid step
      → Made machine mid old steps → Made machine new old (steps ++ step ∷ [])
  calls-next new mid old steps step one made = calls-both new mid old steps (step ∷ []) one.all made

  pub calls-live : (new old : Pass F K) (steps : List K) → IsLive machine old → Made machine new old steps
      → IsLive machine new
  calls-live new old steps live made = record {
    legal = subst (λ facts. IsLegal machine facts new.seen) (sym made.facts) made.made.legal;
    lives = subst (λ p. lives_in machine.role new.seen p ≡ true) (sym made.number) made.made.lives;
    owner = ap (owner_in machine.role new.seen) made.number
        ∙ made-owner machine old.facts new.seen old.seen old.number steps made.made ∙ live.owner ∙ sym made.cpu;
  }
