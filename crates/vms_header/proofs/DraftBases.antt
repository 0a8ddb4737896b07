-- The base values of a draft.
use Rattle.std.proofs.Common.{ℕ, ◌≡◌, ◌<◌, ◌∙◌, List, [], ◌∷◌, length, reverse, pos, subst, sym}
use Rattle.std.proofs.lemmas.List.{length-replicate, length-set}
use Rattle.std.proofs.lemmas.List.Sorted.{All-permutation, IsPermutation-reverse, IsPermutation-sym}
use Rattle.std.specs.List.{All}
use Rattle.std.specs.List.Sorted.{IsPermutation}
use Rattle.vms_base.specs.Common.{counter_count}
use Rattle.vms_header.specs.Common.{IsDraft, Base, Draft, bases_of, shape_of}

pub length-bases_of : (count : ℕ) (bases : List Base) → length (bases_of count bases) ≡ count
length-bases_of count [] = length-replicate count (pos 0)
length-bases_of count (base ∷ bases) =
    length-set (bases_of count bases) base.counter base.value ∙ length-bases_of count bases

pub bases-known : (draft : Draft) (bases : List Base) → draft.bases ≡ reverse bases → IsDraft draft
    → All (λ base. base.counter < counter_count (shape_of draft)) bases
bases-known draft bases same is =
    All-permutation (λ base. base.counter < counter_count (shape_of draft)) draft.bases bases
    (subst (λ seen. IsPermutation seen bases) (sym same)
    (IsPermutation-sym bases (reverse bases) (IsPermutation-reverse bases)))
    (λ k d below. (is.bases_valid k d below).known)
