use Rattle.std.proofs.Common.{◌≡◌, ◌++◌, drop, map, string_bytes}
use Rattle.std.specs.List.{flat_map}
use Rattle.envvars.specs.Texts.{texts_in}
use Rattle.module_reports.specs.completions.Names.{names_of}
use Rattle.module_reports.proofs.completions.offered.all_names.Given as goal

abbrev pub invariant-loop-kind : goal.invariant-loop-kind
invariant-loop-kind l =
    texts_in l.names ++ flat_map (names_of l.env (map string_bytes l.available)) (drop l.kind-index l.kinds)
    ≡ flat_map (names_of l.env (map string_bytes l.available)) l.kinds
