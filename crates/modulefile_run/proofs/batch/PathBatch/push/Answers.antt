use Rattle.std.proofs.Common.{ap, map, string_bytes}
use Rattle.std.specs.Option.{option_map}
use Rattle.envvars.specs.Texts.{texts_in}
use Rattle.modulefile_run.specs.Batches.{waiting_in}
use Rattle.modulefile_run.proofs.BatchLemmas.{put_beside, put_first}
use Rattle.modulefile_run.proofs.batch.PathBatch.push.Goals as goal

pub returns-in-Some-clause-ok : goal.returns-in-Some-clause-ok
returns-in-Some-clause-ok c =
    (put_beside c.append.result c.args.self.now.edit c.append.new.self.items c.in-Some.waiting.items
    c.take_turns.new.elements.items c.in_ok-more.more.items (map string_bytes c.args.elements.now)
    (waiting_in c.args.self.now)
    c.append.ensures.items c.take_turns.ensures c.in_ok-more.ensures (ap (option_map texts_in) c.in-Some.is)).0

pub returns-in-Some-clause-err : goal.returns-in-Some-clause-err
returns-in-Some-clause-err c =
    (put_beside c.append.result c.args.self.now.edit c.append.new.self.items c.in-Some.waiting.items
    c.take_turns.new.elements.items c.in_ok-more.more.items (map string_bytes c.args.elements.now)
    (waiting_in c.args.self.now)
    c.append.ensures.items c.take_turns.ensures c.in_ok-more.ensures (ap (option_map texts_in) c.in-Some.is)).1

pub returns-in-None-clause-ok : goal.returns-in-None-clause-ok
returns-in-None-clause-ok c =
    put_first c.args.self.now.edit c.take_turns.new.elements.items c.in_ok-more.more.items
    (map string_bytes c.args.elements.now) (waiting_in c.args.self.now) c.take_turns.ensures c.in_ok-more.ensures
    (ap (option_map texts_in) c.in-None.is)
