-- What is known of a machine and of its page counters before threads change them.
use Rattle.std.specs.Prelude.{◌≡◌, ℕ, ◌<◌, length, replicate, Some}
use Rattle.vms_calls.specs.Common.{Header, ZoneSize, MayOwnCpu, IsLayout, Facts}

-- the size of each zone: 4 GiB, in pages
abbrev pub size_of_zones : ZoneSize
size_of_zones = record { managed = 1048576; min = 10000; low = 20000; high = 30000 }

-- a header whose zones all have that size
pub record IsMachine (header : Header) : Type 0 where
  pub layout : IsLayout header.layout
  pub sizes : header.sizes ≡ replicate (length header.layout.zones) size_of_zones

-- a pass may own each CPU of the layout
abbrev pub AreOnline : Facts → Type 0
AreOnline facts =
    (c : ℕ) → c < facts.layout.cpus → MayOwnCpu facts.layout facts.base.cpu (Some (record { number = c }))
