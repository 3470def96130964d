use Rattle.std.proofs.Common.{◌≡◌, ◌<◌, drop}
use Rattle.modulename.specs.ModuleName.{is_module_name}
use Rattle.modulename.specs.Spelled.{goes_on}
use Rattle.modulename.proofs.name.is_module_name.Given as goal

abbrev pub invariant-loop-b : goal.invariant-loop-b
invariant-loop-b l = record {
  spelled : is_module_name l.name ≡ goes_on l.spelling.begins l.spelling.parts (drop l.b-index l.name);
  parts : 0 < l.spelling.parts;
}
