use Rattle.std.proofs.Common.{◌≡◌, rules}
use Rattle.std.specs.Str.Iter.{chars_rest}
use Rattle.envvars.proofs.EscapeLemmas.{read_start}
use Rattle.envvars.proofs.escapes.unescaped_fields.Goals as goal

pub loop-c-init : goal.loop-c-init
loop-c-init c =
    let whole : chars_rest c.into_iter-c-iterator.result ≡ c.args.text.now = search rules in
    read_start c.new.result.items c.new-2.result (chars_rest c.into_iter-c-iterator.result) c.args.text.now c.new.ensures.items c.new-2.ensures.bytes whole
