use Rattle.std.proofs.Common.{codes, string_bytes}
use Rattle.module_explain.proofs.LineLemmas.{lined}
use Rattle.module_explain.proofs.paths.named_line.Goals as goal

pub returns : goal.returns
returns c =
    lined (codes "A module is named, not its file: \"module load ") c.args.name.now (codes "\", which is below ") c.args.directory.now (codes ".")
    (string_bytes c.in_ok-line.line) (string_bytes c.push_str.new.self) (string_bytes c.push_str-2.new.self) (string_bytes c.push_str-3.new.self) (string_bytes c.push_str-4.new.self)
    c.in_ok-line.ensures.ok c.in_ok-push_str.ensures.bytes c.in_ok-push_str-2.ensures.bytes c.in_ok-push_str-3.ensures.bytes c.in_ok-push_str-4.ensures.bytes
