use Rattle.std.proofs.Common.{string_bytes}
use Rattle.modulefile_run.proofs.BatchLemmas.{known_room}
use Rattle.modulefile_run.proofs.batch.PathBatch.has_room.Goals as goal

pub returns-in-Front : goal.returns-in-Front
returns-in-Front g c =
    known_room c.has_room.result c.args.self.now.edit c.args.self.now.delim.character (string_bytes c.args.self.now.var)
    c.as_str.result.now (g.V.Vars.vars c.args.env.now) c.as_str.ensures.value c.has_room.ensures
