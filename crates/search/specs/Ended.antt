-- How the type of the code shows the result of an evaluation.
use Rattle.std.specs.Prelude.{map, option_map, string_bytes, vec_items}
use Rattle.search.specs.DefaultVersions.{DefaultFileResult}
use Rattle.search.specs.declared.default_files.DefaultFileEnding.{DefaultFileEnding}

-- the commands as lists of words, and the variable
abbrev pub ended_view : DefaultFileEnding → DefaultFileResult
ended_view ended = record {
  commands = map (λ words. map string_bytes (vec_items words)) (vec_items ended.commands);
  version = option_map string_bytes ended.version;
}
