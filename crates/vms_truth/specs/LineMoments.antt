-- When the lines of a phase were made in one table.
use Rattle.std.specs.Prelude.{◌≡◌, ℕ, nat_lt, List, [], ◌∷◌, All, filter}
use Rattle.vms_world.specs.Common.{Event, Extends, Item}

-- the two moments of a line in a table: the histories in which its call began, and in which it was made
pub record Moments (K : Type 0) : Type 0 where
  pub earlier : List (Event K)
  pub later : List (Event K)

-- the lines above the one of this number
abbrev pub lines_above : ℕ → List Item → List Item
lines_above n items = filter (λ item. nat_lt item.number n) items

-- the moments of a lane's lines follow one another: where a line stands above another one of its lane, it was made
-- before that one began. Each line has the moments of its number.
abbrev pub FollowInLanes : {K : Type 0} → (ℕ → Moments K) → List Item → Type 0
FollowInLanes moments [] = Unit {0}
FollowInLanes moments (item ∷ items) = All (λ next. next.lane ≡ item.lane →
    Extends (moments next.number).earlier (moments item.number).later) items × FollowInLanes moments items
