use Rattle.std.proofs.Common.{◌≡◌, Some, sym, ap, ◌∙◌}
use Rattle.std.specs.HashMap.{get_by_text}
use Rattle.std.specs.Option.{option_copied}
use Rattle.filetree.proofs.disk.DiskTreeTree.see.Goals as goal

pub returns-in_ok-begins-in-Some-clause-nothing : goal.returns-in_ok-begins-in-Some-clause-nothing
returns-in_ok-begins-in-Some-clause-nothing g c e files listings h =
    let had : get_by_text c.args.self.now.known c.args.path.now ≡ Some c.in-Some.known.now = sym c.get.ensures.value ∙ ap option_copied c.in-Some.is in
    c.is_directory-may_list.ensures e (listings c.args.path.now) (c.answer_prefix.ensures.narrows files listings h c.args.path.now c.in-Some.known.now had).1
