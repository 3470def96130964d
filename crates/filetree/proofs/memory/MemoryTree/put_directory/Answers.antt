use Rattle.std.proofs.Common.{map, string_bytes, vec_items}
use Rattle.filetree.proofs.CachedAnswers.{put_at}
use Rattle.filetree.proofs.memory.MemoryTree.put_directory.Goals as goal

pub returns-clause-put : goal.returns-clause-put
returns-clause-put c p =
    put_at (λ names. map string_bytes (vec_items names)) c.args.self.now.listings c.insert.new.self c.args.path.now
    (string_bytes c.in_ok-key.key) c.in_ok-copy.copy (map (λ name. name.now) c.args.names.now)
    c.in_ok-key.ensures.ok c.in_ok-insert.ensures.updates c.in_ok-copy.ensures p
