use Rattle.std.proofs.Common.{◌≡◌, IfOk, string_bytes, subst}
use Rattle.message.specs.Messages.{Text}
use Rattle.process.proofs.PathLemmas.{joined_names}
use Rattle.process.proofs.absolute_paths.joined.Goals as goal

pub returns : goal.returns
returns c =
    subst (λ (t : Text). IfOk c.join.result (λ text. string_bytes text ≡ t)) (joined_names c.args.names.now) c.join.ensures.ok
