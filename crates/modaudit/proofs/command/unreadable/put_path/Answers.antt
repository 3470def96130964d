use Rattle.std.proofs.Common.{true, string_bytes}
use Rattle.std.proofs.lemmas.Map.Text.{btree_set_updates_text}
use Rattle.modaudit.proofs.command.PathLemmas.{put_one}
use Rattle.modaudit.proofs.command.unreadable.put_path.Goals as goal

pub returns : goal.returns
returns c = λ q.
    let own = string_bytes c.in_ok-own.own in
    put_one c.insert.new.self c.args.found.now own c.args.path.now q c.in_ok-own.ensures.ok
    (btree_set_updates_text own c.args.found.now c.insert.new.self true c.in_ok-insert.ensures.updates q)
