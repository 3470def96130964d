-- The directories of a site that aren't there (own).
use Rattle.std.specs.Prelude.{Bool, List, filter, is_none}
use Rattle.envvars.specs.Texts.{Text}
use Rattle.filetree.specs.Agreement.{Listings}

-- no directory is at the path
abbrev pub is_missing : Listings → Text → Bool
is_missing listings dir = is_none (listings dir)

-- those of the directories that aren't there, in their order
abbrev pub missing_among : Listings → List Text → List Text
missing_among listings dirs = filter (is_missing listings) dirs
