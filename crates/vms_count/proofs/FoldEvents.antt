-- What a pass carries, loaded and took, after the steps that a fold makes.
use Rattle.std.proofs.Common.{◌≡◌, ℕ, zero, suc, Bool, true, false, ◌&&◌, nat_eq, ℤ, pos, negsuc, neg_ℤ, ◌+ℤ◌, List}
use Rattle.std.proofs.Common.{if◌then◌else◌, length, refl, ap, ◌∙◌, subst, arith, eq-eqb}
use Rattle.std.proofs.lemmas.Int.{ints}
use Rattle.vms_calls.specs.Common.{Diffs, CpuId, GroupId, Shape, own, after, to_place, Facts, Step, Take, NameEight}
use Rattle.vms_calls.specs.Common.{carried, carried_of_item, loaded, took, has_put, pages}
use Rattle.vms_core.proofs.Common.{laws-kept}
use Rattle.vms_seats.specs.Common.{Pass, Shared, IsFrom, Made, MadeOne}
use Rattle.vms_count.specs.Common.{mine, KeepsLoads}
use Rattle.vms_count.proofs.PassEvents.{own-next}

pub mine-after : (new old : Pass Facts Step) (steps : List Step) → Made pages new old steps
    → mine new ≡ after old.number steps (mine old)
mine-after new old steps made = ap (own new.seen) made.number ∙ made.made.made

if-zero : (b : Bool) → (if b then pos 0 else pos 0) ≡ pos 0
if-zero true = refl
if-zero false = refl

if-true : (b x : Bool) → x ≡ true → (if b then true else x) ≡ true
if-true true x is = refl
if-true false x is = is

-- an addition to a global value takes from what is carried for its counter
pub placed-carried : (new old : Pass Facts Step) (k : ℕ) (z : ℤ) → Made pages new old (to_place k z) → (l : ℕ)
    → carried l (mine new) ≡ (if nat_eq k l then neg_ℤ z else pos 0) +ℤ carried l (mine old)
placed-carried new old k (pos zero) made l =
    ap (carried l) (mine-after new old _ made) ∙ omega (arith, ints, if-zero (nat_eq k l))
placed-carried new old k (pos (suc n)) made l = ap (carried l) (mine-after new old _ made)
placed-carried new old k (negsuc n) made l = ap (carried l) (mine-after new old _ made)

-- and leaves what is carried for items
pub placed-item : (shape : Shape) (new old : Pass Facts Step) (k : ℕ) (z : ℤ) → Made pages new old (to_place k z)
    → (i : ℕ) → carried_of_item shape i (mine new) ≡ carried_of_item shape i (mine old)
placed-item shape new old k (pos zero) made i = ap (carried_of_item shape i) (mine-after new old _ made)
placed-item shape new old k (pos (suc n)) made i =
    ap (carried_of_item shape i) (mine-after new old _ made) ∙ omega (arith, ints)
placed-item shape new old k (negsuc n) made i =
    ap (carried_of_item shape i) (mine-after new old _ made) ∙ omega (arith, ints)

pub placed-keeps : (shape : Shape) (c : CpuId) (new old : Pass Facts Step) (k : ℕ) (z : ℤ)
    → Made pages new old (to_place k z) → KeepsLoads shape c new old
placed-keeps shape c new old k (pos zero) made = record {
  loads = λ g. ap (loaded g) (mine-after new old _ made);
  puts = λ g. ap (has_put shape g) (mine-after new old _ made);
  takes = λ g j is. ap (took c g j) (mine-after new old _ made) ∙ is;
}
placed-keeps shape c new old k (pos (suc n)) made = record {
  loads = λ g. ap (loaded g) (mine-after new old _ made);
  puts = λ g. ap (has_put shape g) (mine-after new old _ made);
  takes = λ g j is. ap (took c g j) (mine-after new old _ made) ∙ is;
}
placed-keeps shape c new old k (negsuc n) made = record {
  loads = λ g. ap (loaded g) (mine-after new old _ made);
  puts = λ g. ap (has_put shape g) (mine-after new old _ made);
  takes = λ g j is. ap (took c g j) (mine-after new old _ made) ∙ is;
}

-- a take
module _ (shape : Shape) (c : CpuId) (j : ℕ) (w : Diffs) (new old : Pass Facts Step)
    (one : MadeOne pages new old (Take c (record { number = j }) w)) where
  pub taken-keeps : KeepsLoads shape c new old
  taken-keeps = record {
    loads = λ g. ap (loaded g) (own-next new old _ one);
    puts = λ g. ap (has_put shape g) (own-next new old _ one);
    takes = λ g i is. ap (took c g i) (own-next new old _ one)
        ∙ if-true (nat_eq c.number c.number && nat_eq j i) (took c g i (mine old)) is;
  }

  pub taken-now : (g : ℕ) → took c g j (mine new) ≡ true
  taken-now g = ap (took c g j) (own-next new old _ one)
      ∙ rw (eq-eqb c.number c.number refl, eq-eqb j j refl) refl

module _ (shape : Shape) (c : CpuId) where
  pub keeps-same : (pass : Pass Facts Step) → KeepsLoads shape c pass pass
  keeps-same pass = record { loads = λ g. refl; puts = λ g. refl; takes = λ g j is. is }

  pub keeps-both : (new mid old : Pass Facts Step) → KeepsLoads shape c new mid → KeepsLoads shape c mid old
      → KeepsLoads shape c new old
  keeps-both new mid old second first = record {
    loads = λ g. second.loads g ∙ first.loads g;
    puts = λ g. second.puts g ∙ first.puts g;
    takes = λ g j is. second.takes g j (first.takes g j is);
  }

-- the pass is of the same table still
pub of-made : (new old : Pass Facts Step) (words : Shared Facts) (steps : List Step) → Made pages new old steps
    → IsFrom old words → IsFrom new words
of-made new old words steps made of = record { table = made.table ∙ of.table; facts = made.facts ∙ of.facts }

-- a list that was taken has eight entries
pub taken-eight : (new old : Pass Facts Step) (c : CpuId) (j : GroupId) (w : Diffs)
    → MadeOne pages new old (Take c j w) → length w.values ≡ 8
taken-eight new old c j w one =
    (subst NameEight one.at.newest (laws-kept old.facts new.seen one.at.legal).lists).0
