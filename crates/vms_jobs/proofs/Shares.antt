-- What holds of the jobs before the last and of the last holds of all of them.
use Rattle.std.proofs.Common.{◌≡◌, ℕ, ◌+◌, ◌-◌, ◌<◌, List, [], ◌∷◌, ◌++◌, length, get_or, take, drop, refl, sym, subst}
use Rattle.std.proofs.Common.{ap, ◌∙◌, arith}
use Rattle.std.proofs.lemmas.List.{length-append, length-drop, length-take, length_push, get_or-drop, get_or-take}
use Rattle.std.proofs.lemmas.List.{get_or_append_left, get_or-append_right, get_or_push, take-append-drop}
use Rattle.std.proofs.lemmas.Bool.{cases_lt}
use mathlib.Core.Logic.{⊎_elim}
use denote.Param.Members.{Shared}
use Rattle.std.specs.Fn.{FnReturns}
use Rattle.std.specs.Fork.{AcceptsJobs, GivesJob}
use Rattle.std.specs.Fork.Halves.{GivesFor}

module _ {F J R : Type 0} (g : Shared F (J × Unit {0}) R) (f : F) where
  pub accepts-last : (all jobs : List J) (x : J) → all ≡ jobs ++ x ∷ [] → AcceptsJobs g f all → g.pre f (x, tt)
  accepts-last all jobs x e accepts =
      let n : length all ≡ length jobs + 1 = ap length e ∙ length_push jobs x in
      accepts (length jobs) x (omega arith)
      (sym (ap (λ l. get_or l (length jobs) x) e ∙ get_or_push jobs x x (length jobs) refl))

  pub accepts-both : (all jobs more : List J) (n : ℕ) → jobs ≡ take n all → more ≡ drop n all → AcceptsJobs g f all
      → AcceptsJobs g f jobs × AcceptsJobs g f more
  accepts-both all jobs more n front back accepts =
      let a = ap length front ∙ length-take n all in
      let b = ap length back ∙ length-drop n all in (
        λ i x below is.
            accepts i x (omega arith) (is ∙ ap (λ l. get_or l i x) front ∙ get_or-take n all i x (omega arith)),
        λ i x below is.
            accepts (n + i) x (omega arith) (is ∙ ap (λ l. get_or l i x) back ∙ get_or-drop n all i x),
      )

  pub gives-one : (all jobs : List J) (x : J) (none results : List R) (r : R) → length all < 2
      → all ≡ jobs ++ x ∷ [] → none ≡ [] → results ≡ none ++ r ∷ [] → FnReturns g f (x, tt) r → GivesFor g f all results
  gives-one all [] x none results r few e empty is said =
      let one : GivesFor g f (x ∷ []) (r ∷ []) = record {
        len = refl;
        each = λ i d below.
            subst (λ k. GivesJob g f (x ∷ []) k (get_or (r ∷ []) k d)) {x = 0} (omega (arith, length_push [] x, below))
            (record { job = x; job_read = refl; job_is = λ _. refl; call = said });
      } in
      subst (λ l. GivesFor g f l results) (sym e)
      (subst (GivesFor g f (x ∷ [])) (sym (is ∙ ap (λ l. l ++ r ∷ []) empty)) one)
  gives-one all (y ∷ jobs) x none results r few e empty is said =
      absurd (omega (arith, ap length e, length-append (y ∷ []) (jobs ++ x ∷ []), length_push [] y, length_push jobs x))

  moved : (jobs more : List J) (i k : ℕ) (r s : R) → ((d : J) → get_or more k d ≡ get_or jobs i d) → r ≡ s
      → GivesJob g f jobs i r → GivesJob g f more k s
  moved jobs more i k r s same is gives = record {
    job = gives.job;
    job_read = gives.job_read ∙ sym (same gives.job);
    job_is = λ d. same d ∙ gives.job_is d;
    call = subst (FnReturns g f (gives.job, tt)) is gives.call;
  }

  appended : (jobs more : List J) (xs ys zs : List R) → zs ≡ xs ++ ys → GivesFor g f jobs xs → GivesFor g f more ys
      → GivesFor g f (jobs ++ more) zs
  appended jobs more xs ys zs is a b =
      let n = length jobs in
      record {
        len = omega (arith, ap length is, length-append xs ys, length-append jobs more, a.len, b.len);
        each = λ k d below. ⊎_elim
            (λ early. moved jobs (jobs ++ more) k k _ _ (λ e. get_or_append_left jobs more e k early)
            (sym (ap (λ l. get_or l k d) is ∙ get_or_append_left xs ys d k (omega (arith, a.len)))) (a.each k d early))
            (λ late. moved more (jobs ++ more) (k - n) k _ _ (λ e. get_or-append_right jobs more n k e refl late)
            (sym (ap (λ l. get_or l k d) is ∙ get_or-append_right xs ys n k d a.len late))
            (b.each (k - n) d (omega (arith, length-append jobs more))))
            (cases_lt k n);
      }

  pub gives-both : (all jobs more : List J) (n : ℕ) (xs ys zs : List R) → jobs ≡ take n all → more ≡ drop n all
      → zs ≡ xs ++ ys → GivesFor g f jobs xs → GivesFor g f more ys → GivesFor g f all zs
  gives-both all jobs more n xs ys zs front back is a b =
      subst (λ l. GivesFor g f l zs)
      (ap (λ l. l ++ more) front ∙ ap (λ l. take n all ++ l) back ∙ take-append-drop n all)
      (appended jobs more xs ys zs is a b)
