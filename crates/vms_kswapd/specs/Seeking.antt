-- The parts of a test for an order while others act.
use Rattle.std.specs.Prelude.{◌≡◌, ℕ, Bool, true, false, List, [], Option, None}
use Rattle.vms_calls.specs.Common.{Header, PlaceId, Area, areas_from, areas_of, Shape, FindsBlock, Facts, Step, pages}
use Rattle.vms_seats.specs.Common.{Pass, Made}

-- the pass looked for a free block of zone g in these areas
abbrev pub HasSought : Shape → (new old : Pass Facts Step) → PlaceId → List Area → Option ℕ → Type 0
HasSought shape new old g areas found =
    (steps : List Step) × FindsBlock shape g areas steps found × Made pages new old steps

-- the steps that look for a free block of an order or larger where there is room for one, and none where there isn't
abbrev pub Seeks : Header → PlaceId → ℕ → Bool → List Step → Option ℕ → Type 0
Seeks header g order true steps found = FindsBlock header.layout g
    (areas_from order (areas_of header.items)) steps found
Seeks header g order false steps found = (steps ≡ []) × (found ≡ None)
