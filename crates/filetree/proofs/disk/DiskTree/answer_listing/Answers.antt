use Rattle.filetree.proofs.disk.DiskTree.answer_listing.Goals as goal

pub returns-in_ok-learn-in-Ok-clause-answer : goal.returns-in_ok-learn-in-Ok-clause-answer
returns-in_ok-learn-in-Ok-clause-answer g c files listings h =
    c.in_ok-answer-in-Ok.ensures (listings c.args.dir.now) (c.in_ok-learn-in-Ok.ensures.known files listings h).1
