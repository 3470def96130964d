-- What a report of `avail` names of listings (module(1), avail): the modules that its texts mean, and of each module the
-- versions that are asked for.
use Rattle.std.specs.Prelude.{Bool, true, false, not, ◌&&◌, ◌||◌, ◌==◌, List, [], ◌∷◌, map, filter, if◌then◌else◌}
use Rattle.std.specs.List.{list_any}
use Rattle.message.specs.Messages.{Text}
use Rattle.modulename.specs.ModuleName.{slash}
use Rattle.search.specs.Listed.{Listing, ListingEntry}
use Rattle.module_reports.specs.listings.Texts.{is_meant}
use Rattle.module_reports.specs.declared.listings.options.Options.{Options}
use Rattle.module_reports.specs.declared.listings.options.Versions.{Versions}
use Rattle.module_reports.specs.declared.listings.options.Versions.TheVariants.{Every, Default, Latest}

-- a slash stands in the text
abbrev pub has_slash : Text → Bool
has_slash text = list_any (λ b. b == slash) text

-- two names are the same up to a slash behind which neither has another: they are those of one folder
abbrev pub share_folder : Text → Text → Bool
share_folder [] right = false
share_folder (b ∷ left) [] = false
share_folder (b ∷ left) (c ∷ right) =
    (b == c) && (((b == slash) && (not (has_slash left) && not (has_slash right))) || share_folder left right)

-- two modules are versions of one: they stand in one folder
abbrev pub are_versions_of_one : ListingEntry → ListingEntry → Bool
are_versions_of_one left right = share_folder left.0 right.0

-- one of the others is a version of the same module
abbrev pub has_version : ListingEntry → List ListingEntry → Bool
has_version entry others = list_any (are_versions_of_one entry) others

-- another module is a version of the same, and marked as a default; one of the modules is
abbrev pub is_default_beside : ListingEntry → ListingEntry → Bool
is_default_beside entry other = other.1 && are_versions_of_one entry other

abbrev pub has_default : ListingEntry → List ListingEntry → Bool
has_default entry modules = list_any (is_default_beside entry) modules

-- The module is a version that is asked for, where these are all, and these come after it: each; the last; or the one
-- that is marked, and else the last.
abbrev pub is_asked_for : Versions → ListingEntry → List ListingEntry → List ListingEntry → Bool
is_asked_for Every entry modules later = true
is_asked_for Latest entry modules later = not (has_version entry later)
is_asked_for Default entry modules later = entry.1 || (not (has_default entry modules) && not (has_version entry later))

-- those of the later modules that are asked for, where these are all
abbrev pub asked_for : Versions → List ListingEntry → List ListingEntry → List ListingEntry
asked_for versions modules [] = []
asked_for versions modules (entry ∷ later) =
    if is_asked_for versions entry modules later then entry ∷ asked_for versions modules later
    else asked_for versions modules later

-- those of the modules that are the versions asked for
abbrev pub of_versions : Versions → List ListingEntry → List ListingEntry
of_versions versions modules = asked_for versions modules modules

-- those of the modules that the texts mean
abbrev pub meant : Options → List Text → List ListingEntry → List ListingEntry
meant o texts modules = filter (λ entry. is_meant o texts entry.0) modules

-- what a report names of a listing, and of listings
abbrev pub chosen_of : Options → List Text → Listing → Listing
chosen_of o texts listing = (listing.0, of_versions o.versions (meant o texts listing.1))

abbrev pub chosen : Options → List Text → List Listing → List Listing
chosen o texts listings = map (chosen_of o texts) listings
