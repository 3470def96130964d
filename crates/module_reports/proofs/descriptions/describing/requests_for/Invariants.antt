use Rattle.std.proofs.Common.{◌≡◌, map, string_bytes, take}
use Rattle.requests.specs.RequestViews.{request_view}
use Rattle.module_reports.specs.descriptions.Descriptions.{describing}
use Rattle.module_reports.proofs.descriptions.describing.requests_for.Given as goal

abbrev pub invariant-loop-name : goal.invariant-loop-name
invariant-loop-name l = map request_view l.requests.items ≡ map (describing l.shell) (map string_bytes (take l.name-index l.names))
