use Rattle.std.proofs.Common.{string_bytes, vec_items}
use Rattle.filetree.proofs.CachedAnswers.{put_at}
use Rattle.filetree.proofs.memory.MemoryTree.put_file.Goals as goal

pub returns-clause-put : goal.returns-clause-put
returns-clause-put c p =
    put_at (λ bytes. vec_items bytes) c.args.self.now.files c.insert.new.self c.args.path.now
    (string_bytes c.in_ok-key.key) c.in_ok-copy.copy c.args.bytes.now c.in_ok-key.ensures.ok
    c.in_ok-insert.ensures.updates (c.in_ok-copy.ensures.items_if_clones_equal (λ x y same. same)) p
