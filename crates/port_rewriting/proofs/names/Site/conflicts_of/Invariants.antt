use Rattle.std.proofs.Common.{map, take, string_bytes}
use Rattle.port_rewriting.specs.Families.{ExcludesOthers}
use Rattle.port_rewriting.specs.FamilyViews.{is_in_family}
use Rattle.port_rewriting.proofs.names.Site.conflicts_of.Given as goal

abbrev pub invariant-loop-other : goal.invariant-loop-other
invariant-loop-other l =
    ExcludesOthers (is_in_family l.self.members.items l.family) (map string_bytes (take l.other-index l.self.modules.items)) l.own l.names.items
