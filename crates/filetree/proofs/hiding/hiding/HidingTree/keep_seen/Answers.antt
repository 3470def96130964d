use Rattle.std.proofs.Common.{is_ok, map, string_bytes, String, Global}
use Rattle.filetree.specs.hiding.Hidden.{AreApart}
use Rattle.filetree.proofs.hiding.HidingLemmas.{apart_seen, pushed}
use Rattle.filetree.proofs.hiding.hiding.HidingTree.keep_seen.Goals as goal

pub invariant_of-self-clause-apart : goal.invariant_of-self-clause-apart
invariant_of-self-clause-apart g c =
    let hidden = map (λ (s : String Global). string_bytes s) c.args.self.now.hidden.items in
    pushed c.args.self.now.seen.items c.push.new.self.items c.in_ok-path.path c.args.path.now (is_ok c.push.result) (AreApart hidden) c.push.ensures.items c.in_ok-path.ensures.ok
    c.args.self.now.apart (apart_seen hidden (map (λ (s : String Global). string_bytes s) c.args.self.now.seen.items) c.args.path.now c.args.self.now.apart c.requires)
