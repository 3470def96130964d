use Rattle.module_collections.proofs.files.follow.+follow.Given as goal

abbrev pub decreases-follow : goal.decreases-follow
decreases-follow g l = l.left
