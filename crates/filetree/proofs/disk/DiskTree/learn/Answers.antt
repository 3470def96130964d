use Rattle.std.proofs.Common.{string_bytes}
use Rattle.filetree.proofs.CachedAnswers.{answered_after, fits_path, fits_before}
use Rattle.filetree.proofs.disk.DiskTree.learn.Goals as goal

pub returns-clause-narrows : goal.returns-clause-narrows
returns-clause-narrows g c files listings h =
    fits_before c.args.self.now.known c.insert.new.self c.args.path.now (string_bytes c.in_ok-key.key) c.args.known
    c.in_ok-key.ensures.ok c.in_ok-insert.ensures.updates files listings h c.requires.later

pub returns-clause-known : goal.returns-clause-known
returns-clause-known g c files listings h =
    fits_path c.args.self.now.known c.insert.new.self c.args.path.now (string_bytes c.in_ok-key.key) c.args.known c.in_ok-key.ensures.ok c.in_ok-insert.ensures.updates files listings h

pub invariant_of-self : goal.invariant_of-self
invariant_of-self g c = record {
  opened = c.args.self.now.opened;
  answered =
      answered_after (g.S.System.answers c.args.self.now.system) c.args.self.now.known c.insert.new.self c.args.path.now
      (string_bytes c.in_ok-key.key) c.args.known c.insert.result c.in_ok-key.ensures.ok c.insert.ensures.updates
      c.insert.ensures.err c.requires.answered c.args.self.now.answered;
}
