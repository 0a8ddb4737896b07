-- The size of a zone is valid.
use Rattle.std.proofs.Common.{subst, arith}
use Rattle.std.proofs.lemmas.List.Elements.{All-get_or}
use Rattle.vms_world.specs.Common.{ZoneSize, IsValidSize}
use Rattle.vms_hotplug.proofs.settings.zone_mark.Goals as goal

abbrev no_size : ZoneSize
no_size = record { managed = 0; min = 0; low = 0; high = 0 }

pub linux_mark-linux-requires-clause-size : goal.linux_mark-linux-requires-clause-size
linux_mark-linux-requires-clause-size c =
    subst IsValidSize (c.get-size.ensures no_size) (All-get_or IsValidSize c.args.header.now.sizes c.args.zone no_size
    (omega (arith, c.requires.zone, c.requires.may.one_size_each)) c.requires.may.sizes)

pub cover_mark-requires-clause-size : goal.cover_mark-requires-clause-size
cover_mark-requires-clause-size c =
    subst IsValidSize (c.get-size.ensures no_size) (All-get_or IsValidSize c.args.header.now.sizes c.args.zone no_size
    (omega (arith, c.requires.zone, c.requires.may.one_size_each)) c.requires.may.sizes)
