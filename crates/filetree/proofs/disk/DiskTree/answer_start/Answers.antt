use Rattle.filetree.proofs.disk.DiskTree.answer_start.Goals as goal

pub returns-in_ok-begins-in-Ok-clause-nothing : goal.returns-in_ok-begins-in-Ok-clause-nothing
returns-in_ok-begins-in-Ok-clause-nothing g c e files listings h =
    c.is_directory-may_list.ensures e (listings c.args.path.now) (c.in_ok-learn-in-Ok.ensures.known files listings (c.answer_prefix.ensures.narrows files listings h)).1
