use Rattle.std.proofs.Common.{map, take, string_bytes}
use Rattle.modulename.specs.ModuleName.{means}
use Rattle.port_rewriting.specs.AskingViews.{is_meant, Covers}
use Rattle.port_rewriting.proofs.names.Site.is_same.Given as goal

abbrev pub invariant-loop-own : goal.invariant-loop-own
invariant-loop-own l = Covers (is_meant l.self l.name) (map string_bytes (take l.own-index l.self.modules.items)) (means l.name)
