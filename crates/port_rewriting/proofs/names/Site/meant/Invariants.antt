use Rattle.std.proofs.Common.{map, take, string_bytes}
use Rattle.port_rewriting.specs.AskingViews.{is_meant, Covers, IsMet}
use Rattle.port_rewriting.specs.Families.{is_excluded}
use Rattle.port_rewriting.proofs.names.Site.meant.Given as goal

abbrev pub invariant-loop-own : goal.invariant-loop-own
invariant-loop-own l = Covers (is_meant l.self l.name) (map string_bytes (take l.own-index l.self.modules.items)) (is_excluded l.meant.items)

abbrev pub invariant-loop-symbol : goal.invariant-loop-symbol
invariant-loop-symbol l = IsMet l.self l.name (is_excluded l.meant.items)
