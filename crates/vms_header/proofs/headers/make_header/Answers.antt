-- The counter of each base is one of the layout's.
use Rattle.std.proofs.Common.{◌≡◌, ◌<◌, ◌∙◌, ap, refl, subst, sym, ℕ, List}
use Rattle.std.specs.List.{All}
use Rattle.vms_base.specs.Common.{counter_count}
use Rattle.vms_header.specs.Common.{Base, draft_of}
use Rattle.vms_header.proofs.DraftBases.{bases-known}
use Rattle.vms_header.proofs.headers.make_header.Goals as goal

known : (bases seen : List Base) (count counters : ℕ) → seen ≡ bases → counters ≡ count
    → All (λ base. base.counter < count) bases → All (λ base. base.counter < counters) seen
known bases seen count counters same is all =
    subst (λ n. All (λ base. base.counter < n) seen) (sym is)
    (subst (All (λ base. base.counter < count)) (sym same) all)

pub bases_of-requires : goal.bases_of-requires
bases_of-requires c =
    let bases = c.args.draft.bases.items in
    known bases c.as_slice-2.result.now _ c.counters.result c.as_slice-2.ensures.value (c.counters.ensures.value
    ∙ ap counter_count c.layout_of-layout.ensures) (bases-known (draft_of c.args.draft) bases refl c.requires.draft)
