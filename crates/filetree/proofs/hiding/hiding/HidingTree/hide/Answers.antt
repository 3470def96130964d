use Rattle.std.proofs.Common.{◌≡◌, Bool, true, is_ok, List, map, string_bytes, String, Global, ap, sym, ◌∙◌}
use Rattle.std.proofs.lemmas.List.Elements.{All-push}
use Rattle.message.specs.Messages.{Text}
use Rattle.filetree.specs.declared.tree.TreeFault.TheVariants as faults
use Rattle.filetree.specs.hiding.Hidden.{AllFailed, AreApart, is_among}
use Rattle.filetree.proofs.hiding.HidingLemmas.{apart_hidden, pushed}
use Rattle.filetree.proofs.hiding.hiding.HidingTree.hide.Goals as goal

pub invariant_of-self-2-clause-apart : goal.invariant_of-self-2-clause-apart
invariant_of-self-2-clause-apart g c =
    let seen = map (λ (s : String Global). string_bytes s) c.args.self.now.seen.items in
    pushed c.args.self.now.hidden.items c.push.new.self.items c.in_ok-kept.kept c.args.path.now (is_ok c.push.result) (λ hidden. AreApart hidden seen) c.push.ensures.items c.in_ok-kept.ensures.ok
    c.args.self.now.apart (apart_hidden (map (λ (s : String Global). string_bytes s) c.args.self.now.hidden.items) seen c.args.path.now c.args.self.now.apart
    (ap (λ (l : List (String Global)). is_among (map (λ (s : String Global). string_bytes s) l) c.args.path.now) (sym c.deref.ensures.value) ∙ (sym c.is_among.ensures ∙ c.if-is_among.false)))

pub invariant_of-self-2-clause-failed : goal.invariant_of-self-2-clause-failed
invariant_of-self-2-clause-failed g c =
    let failed : Text → Bool = g.T.Tree.failed c.args.self.now.tree in
    let is : c.args.fault ≡ faults.Device = search in
    pushed c.args.self.now.hidden.items c.push.new.self.items c.in_ok-kept.kept c.args.path.now (is_ok c.push.result) (AllFailed failed) c.push.ensures.items c.in_ok-kept.ensures.ok
    c.args.self.now.failed (All-push (λ path. failed path ≡ true) (map (λ (s : String Global). string_bytes s) c.args.self.now.hidden.items) c.args.path.now c.args.self.now.failed (c.requires.failed is))
