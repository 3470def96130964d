use Rattle.std.proofs.Common.{string_bytes}
use Rattle.std.proofs.lemmas.Result.{on_ok_weaker}
use Rattle.envstate.proofs.paths.WritingLemmas.{pair-pushed}
use Rattle.envstate.proofs.paths.writing.push_count.Goals as goal

pub returns : goal.returns
returns c =
    on_ok_weaker c.push_pair.result
    (λ h fs e. pair-pushed (string_bytes c.args.text.now) (string_bytes c.push_separator.new.text)
    (string_bytes c.push_pair.new.text) c.args.element.now fs c.args.count c.if-count-lt-LEAST_WRITTEN.false
    c.in_ok-push_separator.ensures h e)
    c.push_pair.ensures
